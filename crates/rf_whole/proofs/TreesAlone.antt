-- The tree of a text by itself, and whether others may stand beside it.
use Rattle.std.proofs.Common.{◌≡◌, ◌≢◌, ℕ, ◌+◌, ◌-◌, ◌≤◌, ◌<◌, ◌||◌, ◌⊎◌, inr, if◌then◌else◌, min, Bool, true, false, suc, Some, List, [], ◌∷◌, length, map, slice_get, refl, sym, ap, ◌∙◌, subst, arith}
use Rattle.std.proofs.lemmas.List.{length-map, with_items_is}
use Rattle.std.proofs.lemmas.List.Sums.{sum_by-cons}
use Rattle.std.proofs.lemmas.Str.{len_utf8_bounds}
use Rattle.std.specs.Char.{len_utf8}
use Rattle.std.specs.Global.{Vec}
use Rattle.std.specs.List.{AllByRecursion}
use Rattle.std.specs.Str.{chars, IsUtf8}
use Rattle.std.specs.Vec.{with_items}
use Rattle.rf_base_grammar.specs.Characters.{byte_len}
use Rattle.rf_base_grammar.specs.Itemised.{Leads, Itemised, end_of}
use Rattle.rf_base_grammar.specs.Token.{Token, item_of, with_blanks, opens, closes, settled}
use Rattle.rf_base_grammar.specs.declared.TheConstants.{SOURCE_LIMIT}
use Rattle.rf_base_grammar.specs.declared.items.Item.{Item}
use Rattle.rf_base_grammar.specs.declared.kinds.Kind.TheVariants.{Lang}
use Rattle.rf_base_file.specs.LaidOut.{kept}
use Rattle.rf_base_style.specs.Table.{StyleView}
use Rattle.rf_base_tree.proofs.Alike.{length-settled}
use Rattle.rf_base_tree.specs.Formed.{IsDatum}
use Rattle.rf_base_tree.specs.Places.{IsPlace}
use Rattle.rf_base_tree.specs.Trees.{Tree, Leaf, Point, Comment, Prefixed, DatumComment, Listed, Forest, Empty, Then}
use Rattle.rf_joins.specs.Moved.{HaveNoLanguage, EndInDatum}
use Rattle.rf_joins.proofs.ItemsJoin.{Leads-end}
use Rattle.rf_lexer.proofs.Places.{byte_len-chars}
use Rattle.rf_tree.proofs.Places.{all_taken, stand_at_top}
use Rattle.rf_tree.specs.Next.{HoldNext}
use Rattle.rf_tree.specs.Nodes.{UnfoldsTo, UnfoldTo}
use Rattle.rf_tree.specs.Texts.{AreTokensOf}
use Rattle.rf_tree.specs.declared.nodes.At.{At}
use Rattle.rf_tree.specs.Told.{Node}
use Rattle.rf_tree.specs.Told as node
use Rattle.rf_tree.specs.declared.trees.Tree.{Tree as KeptTree}
use Rattle.rf_whole.specs.Passages.{EndsInCompound, IsCompound, IsTreeAlone, StandsWithOthers}
use Rattle.rf_whole.specs.Whole.{IsSettled}
use Rattle.rf_whole.proofs.PartByPart.{all_treed, same_count}

-- the last of several is the last of those behind the first
pub last_behind : {A : Type 0} (x y : A) (xs : List A) →
    slice_get (x ∷ y ∷ xs) (length (x ∷ y ∷ xs) - 1) ≡ slice_get (y ∷ xs) (length (y ∷ xs) - 1)
last_behind x y xs =
    let e : length (x ∷ y ∷ xs) - 1 ≡ suc (length (y ∷ xs) - 1) = omega arith in
    ap (λ (k : ℕ). slice_get (x ∷ y ∷ xs) k) e

-- the last item is that of a token, and ends where the tokens do
abbrev IsLastKept : Bool → ℕ → List Token → Item → Type 0
IsLastKept bare most ts item =
    slice_get (map item_of (settled bare most ts)) (length (map item_of (settled bare most ts)) - 1) ≡ Some item

some_token : (bare : Bool) (most : ℕ) (ts : List Token) (item : Item) → IsLastKept bare most ts item → ts ≢ []
some_token bare most [] item e = λ none. cc
some_token bare most (t ∷ ts) item e = λ none. cc

last_end : (bare : Bool) (most : ℕ) (ts : List Token) (offset : ℕ) (item : Item) → IsLastKept bare most ts item →
    item.end ≡ end_of offset ts
last_end bare most [] offset item e = cc
last_end bare most (t ∷ []) offset item e =
    let own : Item = item_of (with_blanks t (if bare || closes t.kind then 0 else min t.blanks most)) in
    let same : own ≡ item = cc in
    sym (ap (λ (i : Item). i.end) same)
last_end bare most (t ∷ u ∷ ts) offset item e =
    let first : Item = item_of (with_blanks t (if bare || closes t.kind then 0 else min t.blanks most)) in
    let second : Item = item_of (with_blanks u (if opens t.kind || closes u.kind then 0 else min u.blanks most)) in
    last_end (opens t.kind) most (u ∷ ts) (t.start + byte_len t.spelling) item
    (sym (last_behind first second (map item_of (settled (opens u.kind) most ts))) ∙ e)

-- the items have the kinds of the tokens
no_language : (bare : Bool) (most : ℕ) (ts : List Token) →
    AllByRecursion (λ (item : Item). item.kind ≢ Lang) (map item_of (settled bare most ts)) → HaveNoLanguage ts
no_language bare most [] h = tt
no_language bare most (t ∷ ts) h = (h.0, no_language (opens t.kind) most ts h.1)

-- a text of no bytes has no characters
pub no_characters : (text : List ℕ) → byte_len text ≡ 0 → text ≡ []
no_characters [] e = refl
no_characters (c ∷ text) e = absurd (omega (arith, e, (len_utf8_bounds c).0, sum_by-cons len_utf8 c text))

-- what a compound node stands for is a datum, and trees of which the last node is compound end in one
compound_is_datum : (ts : List Token) (nodes : List Node) (at : ℕ) (tree : Tree) (last : Node) →
    UnfoldsTo ts nodes at tree → slice_get nodes at ≡ Some last → IsCompound last → IsDatum tree
unfolding UnfoldsTo
compound_is_datum ts nodes at (Leaf item) last h e is = refl
compound_is_datum ts nodes at (Point item) last h e is =
    let there = h.0 in
    let same : last ≡ node.Leaf item = cc in
    absurd (subst IsCompound same is)
compound_is_datum ts nodes at (Comment item) last h e is =
    let same : last ≡ node.Comment item = cc in
    absurd (subst IsCompound same is)
compound_is_datum ts nodes at (Prefixed item lead inner) last h e is = refl
compound_is_datum ts nodes at (DatumComment item lead inner) last h e is =
    let there = h.2 in
    let same : last ≡ node.DatumComment item h.0 h.1 = cc in
    absurd (subst IsCompound same is)
compound_is_datum ts nodes at (Listed opener entries closer) last h e is = refl

end_in_compound : (ts : List Token) (nodes : List Node) (tops : List At) (trees : Forest) (at : At) (last : Node) →
    UnfoldTo ts nodes tops trees → slice_get tops (length tops - 1) ≡ Some at → slice_get nodes at.0 ≡ Some last →
    IsCompound last → EndInDatum trees
unfolding UnfoldTo
end_in_compound ts nodes [] trees at last h e f is = cc
end_in_compound ts nodes (top ∷ tops) Empty at last h e f is = absurd h
end_in_compound ts nodes (top ∷ []) (Then tree Empty) at last h e f is =
    let same : top ≡ at = cc in
    compound_is_datum ts nodes at.0 tree last (subst (λ (a : At). UnfoldsTo ts nodes a.0 tree) same h.0) f is
end_in_compound ts nodes (top ∷ []) (Then tree (Then next rest)) at last h e f is = absurd h.1
end_in_compound ts nodes (top ∷ second ∷ tops) (Then tree Empty) at last h e f is = absurd h.1
end_in_compound ts nodes (top ∷ second ∷ tops) (Then tree (Then next rest)) at last h e f is =
    end_in_compound ts nodes (second ∷ tops) (Then next rest) at last h.1
    (sym (last_behind top second tops) ∙ e) f is

-- where the last item ends where the text does, nothing is left behind it
pub nothing_left : (style : StyleView) (tree : KeptTree) (item : Item) (ts : List Token) (trees : Forest)
    (rest : List ℕ) → slice_get tree.items.items (length tree.items.items - 1) ≡ Some item →
    item.end ≡ length tree.src.now → IsSettled style tree (chars tree.src.now) ts trees →
    Leads [] 0 (chars tree.src.now) ts rest → rest ≡ []
nothing_left style tree item ts trees rest last end is leads =
    let at_end : IsLastKept true style.blanks ts item =
    subst (λ (items : List Item). slice_get items (length items - 1) ≡ Some item) is.tree_of.items_are last in
    let place = last_end true style.blanks ts 0 item at_end in
    let whole = Leads-end [] 0 (chars tree.src.now) ts rest leads in
    let bytes = byte_len-chars tree.src.now is.tree_of.utf8 in
    no_characters rest (omega (arith, place, whole, bytes, end))

-- what is seen of the items and of the nodes at the top holds of the tokens and of the trees
pub stands_so : (style : StyleView) (tree : KeptTree) (first last : Bool) (item : Item) (ts : List Token)
    (trees : Forest) (rest : List ℕ) (seen : List Item) → seen ≡ tree.items.items →
    Some item ≡ slice_get seen (length seen - 1) →
    (first ≡ false → AllByRecursion (λ (i : Item). i.kind ≢ Lang) tree.items.items) →
    (last ≡ false → (item.end ≡ length tree.src.now) × EndsInCompound tree) →
    IsSettled style tree (chars tree.src.now) ts trees → Leads [] 0 (chars tree.src.now) ts rest →
    StandsWithOthers first last ts trees rest
stands_so style tree first last item ts trees rest seen same e begins ends is leads =
    let kept_are = is.tree_of.items_are in
    let last_is = subst (λ (items : List Item). slice_get items (length items - 1) ≡ Some item) same (sym e) in
    let at_end : IsLastKept true style.blanks ts item =
    subst (λ (items : List Item). slice_get items (length items - 1) ≡ Some item) kept_are last_is in
    record {
      some = some_token true style.blanks ts item at_end;
      begins = λ b. no_language true style.blanks ts
          (subst (λ (items : List Item). AllByRecursion (λ (i : Item). i.kind ≢ Lang) items) kept_are (begins b));
      ends = λ b.
          let h = ends b in (
            nothing_left style tree item ts trees rest last_is h.0 is leads,
            end_in_compound (kept style ts) tree.nodes tree.tops.items trees h.1.0 h.1.1 is.tree_of.stand_for
                h.1.2 h.1.3 h.1.4,
          );
    }

-- the items of a text, once a layout's blank lines are kept
pub items_settled : (style : StyleView) (ts : List Token) (items : Vec Item) (new : List Item) →
    items.items ≡ map item_of ts → new ≡ map item_of (kept style ts) →
    (with_items items new).items ≡ map item_of (kept style ts)
items_settled style ts items new read written =
    let as_many : length new ≡ items.len =
    ap length written ∙ length-map (kept style ts) item_of ∙ length-settled true style.blanks ts
    ∙ sym (length-map ts item_of) ∙ sym (ap length read) ∙ sym items.ok.0 in
    with_items_is items new as_many ∙ written

-- the trees that come next from the first item on, up to the last one, are the tree of the text by itself
pub tree_is_alone : (style : StyleView) (text : List ℕ) (ts : List Token) (tree : KeptTree) (n : ℕ) → IsUtf8 text →
    length text ≤ SOURCE_LIMIT → Itemised (chars text) ts → tree.src.now ≡ text →
    tree.items.items ≡ map item_of (kept style ts) →
    (n ≡ length tree.items.items) ⊎ ((n < length tree.items.items) × (0 + 18446744073709551615 ≤ n)) →
    HoldNext (kept style ts) Empty tree.nodes tree.tops.items n → IsTreeAlone style text tree
tree_is_alone style text ts tree n utf8 short itemised src is enough next =
    let all : List Token = kept style ts in
    let end : n ≡ length all = all_taken tree.items tree.items n refl enough ∙ same_count all tree.items.items is in (
      src,
      (
        ts,
        next.part,
        record {
          itemised = itemised;
          treed = all_treed style ts next.part (subst (λ (k : ℕ). IsPlace all k [] next.part) end next.place);
          tree_of = record {
            utf8 = subst IsUtf8 (sym src) utf8;
            tokens = subst (λ (s : List ℕ). AreTokensOf (chars s) all) (sym src)
                (ts, itemised, inr (style.blanks, refl));
            items_are = is;
            at_top = stand_at_top all Empty next.part n next.place;
            stand_for = next.stand_for;
            sound = next.sound;
            short = subst (λ (s : List ℕ). length s ≤ SOURCE_LIMIT) (sym src) short;
          };
        },
      ),
    )
