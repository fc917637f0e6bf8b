-- A source part by part: what a part adds, and what the parts are together.
use Rattle.std.proofs.Common.{◌≡◌, ℕ, ◌+◌, ◌≤◌, ◌<◌, ◌⊎◌, inl, inr, List, [], ◌∷◌, ◌++◌, length, map, refl, sym, ◌∙◌, ap, subst, arith}
use Rattle.std.proofs.lemmas.List.{length-map}
use Rattle.std.specs.List.{AllByRecursion}
use Rattle.std.specs.Str.{chars, IsUtf8}
use Rattle.rf_base_cost.specs.Cost.{Costs, IsColumn, Lawful}
use Rattle.rf_base_optimum.specs.Paragraphs.{Paragraph, EachIsDocument, EachHasCore}
use Rattle.rf_base_grammar.specs.declared.TheConstants.{SOURCE_LIMIT}
use Rattle.rf_base_grammar.specs.declared.items.Item.{Item}
use Rattle.rf_base_grammar.specs.Itemised.{Itemised}
use Rattle.rf_base_grammar.specs.Token.{Token, item_of}
use Rattle.rf_base_style.specs.Table.{StyleView, IsStyle}
use Rattle.rf_base_tree.specs.Trees.{Forest, Empty, Then, forest_items, forest_depth}
use Rattle.rf_base_tree.specs.Dots.{marks_of}
use Rattle.rf_base_tree.specs.Formed.{AreFormed, Treed}
use Rattle.rf_base_tree.specs.Places.{IsPlace}
use Rattle.rf_base_tree.specs.Cut.{slots_of}
use Rattle.rf_base_tree.proofs.MoveMeans.{end_means}
use Rattle.rf_base_tree.proofs.OneTree.{start}
use Rattle.rf_base_file.specs.LaidOut.{kept, Objective}
use Rattle.rf_base_file.specs.Formatted.{Layout}
use Rattle.rf_base_file.specs.ByForms.{top_slots}
use Rattle.rf_base_document.specs.Document.{IsDocument}
use Rattle.rf_base_file.specs.FileDocument.{style_doc}
use Rattle.std.specs.String.{string_bytes}
use Rattle.std.specs.Global.{Vec}
use Rattle.std.specs.Vec.{vec_len}
use Rattle.rf_base_file.proofs.ListSizes.{paragraphs_documents}
use Rattle.rf_tree.specs.Texts.{AreTokensOf}
use Rattle.rf_tree.specs.Parsing.{TreeFault}
use Rattle.rf_tree.specs.declared.nodes.At.{At}
use Rattle.rf_tree.specs.Told.{Node}
use Rattle.rf_tree.specs.declared.trees.Tree.{Tree as KeptTree}
use Rattle.rf_tree.specs.declared.trees.TreeError.{TreeError}
use Rattle.rf_tree.specs.declared.trees.TreeError.TheVariants as fault
use Rattle.rf_tree.specs.Next.{followed_by, SlotsEnd, HoldNext}
use Rattle.rf_whole.specs.declared.faults.FormatError.{FormatError}
use Rattle.rf_whole.specs.declared.faults.FormatError.TheVariants.{TooLong, Memory}
use Rattle.rf_whole.specs.declared.faults.SourceError.{SourceError}
use Rattle.rf_whole.specs.declared.faults.SourceError.TheVariants as source
use Rattle.rf_whole.specs.declared.lines.Lines.{Lines}
use Rattle.rf_whole.specs.Groups.{HasTops}
use Rattle.rf_joins.specs.Paragraphs.{slots_paragraphs}
use Rattle.rf_whole.specs.Laid.{AreLinesOf}
use Rattle.rf_whole.specs.Lines.{ArePastLimit}
use Rattle.rf_whole.specs.Whole.{sought, IsWhole}
use Rattle.rf_whole.specs.Parts.{AreKeptItems, SourceFault, HoldsSource, AreLinesTo, HaveRest, IsToldBehind, paragraphs_to}
use Rattle.rf_tree.proofs.Places.{stand_at_top}
use Rattle.rf_tree.proofs.SameItems.{treed_read, refused_read}
use Rattle.rf_tree.proofs.Behind.{followed_by_none}
use Rattle.rf_whole.proofs.Together.{past_before}
use Rattle.rf_whole.proofs.GroupRows.{row_cores, group_documents, no_slot}
use Rattle.rf_whole.proofs.FewPieces.{part_has_few}
use Rattle.rf_whole.proofs.WholeFile.{each_document, whole_of, past_of}
use Rattle.rf_whole.proofs.PartRows.{before_item, paragraphs_behind}

-- trees behind trees behind trees
pub followed-assoc : (a b c : Forest) → followed_by (followed_by a b) c ≡ followed_by a (followed_by b c)
followed-assoc Empty b c = refl
followed-assoc (Then t a) b c = ap (λ (f : Forest). Then t f) (followed-assoc a b c)

ends_first : (ts : List Token) → SlotsEnd ts Empty
unfolding SlotsEnd slots_of
ends_first ts = λ n rest place. refl

-- the tokens of items that a layout keeps
pub kept_tokens : (style : StyleView) (text : List ℕ) (ts : List Token) (items : List Item) → AreKeptItems style text ts items → AreTokensOf text (kept style ts)
kept_tokens style text ts items h = (ts, h.0, inr (style.blanks, refl))

-- there are as many items as tokens
pub same_count : (ts : List Token) (items : List Item) → items ≡ map item_of ts → length items ≡ length ts
same_count ts items e = ap length e ∙ length-map ts item_of

pub is_before : (n : ℕ) (ts : List Token) (items : List Item) → items ≡ map item_of ts → n < length items → n < length ts
is_before n ts items e p = omega (arith, same_count ts items e, p)

-- a number of items, where they are the same
pub within_after : (old new : Vec Item) (n : ℕ) → new ≡ old → n ≤ length old.items → n ≤ length new.items
within_after old new n e h = subst (λ (v : Vec Item). n ≤ length v.items) (sym e) h

pub at_end : (old new : Vec Item) (n count : ℕ) → new ≡ old → n ≤ length new.items → count ≡ vec_len new → count ≤ n → n ≡ length old.items
at_end old new n count e within is end =
    let same : length new.items ≡ length old.items = ap (λ (v : Vec Item). length v.items) e in
    omega (arith, same, within, is, end)

-- more trees behind others up to an item
pub rest_more : (ts : List Token) (done : Forest) (n : ℕ) (nodes : List Node) (tops : List At) → (rest : Forest) → HoldNext ts (followed_by done rest) nodes tops n →
    (more : Forest) × IsPlace ts n [] (followed_by done more)
rest_more ts done n nodes tops rest h =
    (followed_by rest h.part, subst (λ (f : Forest). IsPlace ts n [] f) (followed-assoc done rest h.part) h.place)

pub rest_none : (ts : List Token) (done : Forest) (n : ℕ) → IsPlace ts n [] done → (more : Forest) × IsPlace ts n [] (followed_by done more)
rest_none ts done n h = (Empty, subst (λ (f : Forest). IsPlace ts n [] f) (sym (followed_by_none done)) h)

-- an item behind others that were read
pub next_within : (from least n size : ℕ) → (n ≡ size) ⊎ ((n < size) × (from + least ≤ n)) → n ≤ size
next_within from least n size (inl e) = omega (arith, e)
next_within from least n size (inr h) = omega (arith, h.0)

-- the same source
pub kept_same : (style : StyleView) (a b : List ℕ) (ts : List Token) (x y : List Item) → b ≡ a → y ≡ x → AreKeptItems style (chars a) ts x → AreKeptItems style (chars b) ts y
kept_same style a b ts x y e f h = (subst (λ (s : List ℕ). Itemised (chars s) ts) (sym e) h.0, f ∙ h.1)

pub source_same : (style : StyleView) (old new : KeptTree) → new.src.now ≡ old.src.now → new.items ≡ old.items → HoldsSource style old → HoldsSource style new
source_same style old new e f h = record {
  utf8 = subst IsUtf8 (sym e) h.utf8;
  short = subst (λ (s : List ℕ). length s ≤ SOURCE_LIMIT) (sym e) h.short;
  items = (h.items.0, kept_same style old.src.now new.src.now h.items.0 old.items.items new.items.items e (ap (λ (v : Vec Item). v.items) f) h.items.1);
}

pub kept_before : (style : StyleView) (old new : KeptTree) (ts : List Token) → new.src.now ≡ old.src.now → new.items ≡ old.items → AreKeptItems style (chars new.src.now) ts new.items.items →
    AreKeptItems style (chars old.src.now) ts old.items.items
kept_before style old new ts e f h = kept_same style new.src.now old.src.now ts new.items.items old.items.items (sym e) (sym (ap (λ (v : Vec Item). v.items) f)) h

pub kept_after : (style : StyleView) (old new : KeptTree) (ts : List Token) → new.src.now ≡ old.src.now → new.items ≡ old.items → AreKeptItems style (chars old.src.now) ts old.items.items →
    AreKeptItems style (chars new.src.now) ts new.items.items
kept_after style old new ts e f h = kept_same style old.src.now new.src.now ts old.items.items new.items.items e (ap (λ (v : Vec Item). v.items) f) h

pub tokens_before : (old new : KeptTree) (ts : List Token) → new.src.now ≡ old.src.now → AreTokensOf (chars old.src.now) ts → AreTokensOf (chars new.src.now) ts
tokens_before old new ts e h = subst (λ (s : List ℕ). AreTokensOf (chars s) ts) (sym e) h

pub items_before : (old new : KeptTree) (ts : List Token) → new.items ≡ old.items → old.items.items ≡ map item_of ts → new.items.items ≡ map item_of ts
items_before old new ts e h = ap (λ (v : Vec Item). v.items) e ∙ h

-- the documents of trees keep the limits of documents
tops_documents : (style : StyleView) (ts : List Token) (trees : Forest) → IsStyle style → AllByRecursion (λ s. IsDocument (style_doc style ts s)) (top_slots ts trees)
tops_documents style ts trees is = each_document style ts (top_slots ts trees) (paragraphs_documents style ts trees is.rules)

pub paragraphs_are : (style : StyleView) (ts : List Token) (n : ℕ) (trees : Forest) → IsStyle style → EachIsDocument (slots_paragraphs style ts n (top_slots ts trees))
paragraphs_are style ts n trees is = group_documents style ts n (top_slots ts trees) (tops_documents style ts trees is)

-- the trees that come next can be laid out
pub part_tops : (style : StyleView) (tree : KeptTree) (ts : List Token) (done : Forest) (n : ℕ) → IsStyle style → HoldsSource style tree →
    AreKeptItems style (chars tree.src.now) ts tree.items.items → n ≤ length tree.items.items → (next : HoldNext (kept style ts) done tree.nodes tree.tops.items n) →
    HasTops style tree (kept style ts) next.part
part_tops style tree ts done n is holds h within next =
    let all : List Token = kept style ts in
    record {
      tree_of = record {
        utf8 = holds.utf8;
        tokens = kept_tokens style (chars tree.src.now) ts tree.items.items h;
        items_are = h.1;
        at_top = stand_at_top all done next.part n next.place;
        stand_for = next.stand_for;
        sound = next.sound;
        short = holds.short;
      };
      documents = tops_documents style all next.part is;
      few = part_has_few style tree.src.now ts n done next.part is holds.utf8 holds.short h.0 next.place (omega (arith, within, same_count all tree.items.items h.1));
    }

-- no lines are those up to the first item
pub first_lines : {C : Type 0} (costs : Costs C) (w : ℕ) (style : StyleView) (ts : List Token) (lines : Lines C) → AreLinesOf costs w [] lines → AreLinesTo costs w style ts 0 lines
unfolding slots_of
first_lines costs w style ts lines h = record {
  done = Empty;
  place = start ts;
  ends = inr (ends_first ts);
  lines_are = subst (λ (ps : List Paragraph). AreLinesOf costs w ps lines) (sym (no_slot style ts (before_item ts 0))) h;
}

-- behind the paragraphs of what stands before an item stand those of the trees that come next
paragraphs_more : {C : Type 0} (costs : Costs C) (w : ℕ) (style : StyleView) (ts : List Token) (from n : ℕ) (lines : Lines C) (nodes : List Node) (tops : List At)
    (before : AreLinesTo costs w style ts from lines) (next : HoldNext ts before.done nodes tops n) → from < length ts →
    paragraphs_to style ts n (followed_by before.done next.part) ≡ paragraphs_to style ts from before.done ++ paragraphs_to style ts n next.part
paragraphs_more costs w style ts from n lines nodes tops before next there =
    let ends : SlotsEnd ts before.done = elim before.ends [ inl e ↦ absurd (omega (arith, e, there)) | inr ends ↦ ends ] in
    paragraphs_behind style ts from n before.done next.part before.place ends next.place

-- with the trees that come next the lines are those of a part more
pub lines_more : {C : Type 0} (costs : Costs C) (w : ℕ) (style : StyleView) (tree : KeptTree) (ts : List Token) (from n : ℕ) (old new : Lines C) → IsStyle style → HoldsSource style tree →
    AreKeptItems style (chars tree.src.now) ts tree.items.items → from < length (kept style ts) → n ≤ length tree.items.items →
    (before : AreLinesTo costs w style (kept style ts) from old) (next : HoldNext (kept style ts) before.done tree.nodes tree.tops.items n) →
    ((all : List Token) (trees : Forest) (ps : List Paragraph) → HasTops style tree all trees → AreLinesOf costs w ps old → AreLinesOf costs w (ps ++ paragraphs_to style all n trees) new) →
    AreLinesTo costs w style (kept style ts) n new
lines_more costs w style tree ts from n old new is holds h some there before next adds =
    let all : List Token = kept style ts in
    record {
      done = followed_by before.done next.part;
      place = next.place;
      ends = next.ends;
      lines_are = subst (λ (ps : List Paragraph). AreLinesOf costs w ps new) (sym (paragraphs_more costs w style all from n old _ _ before next some))
          (adds all next.part _ (part_tops style tree ts before.done n is holds h there next) before.lines_are);
    }

-- no blank lines stand behind the last item
none_behind : (ts : List Token) → before_item ts (length ts) ≡ 0
none_behind [] = refl
none_behind (t ∷ ts) = none_behind ts

-- trees that are past the limit stay so with those behind them
pub past_more : {C : Type 0} (costs : Costs C) (laws : Lawful costs) (w : ℕ) (style : StyleView) (ts : List Token) (n : ℕ) (done : Forest) → IsColumn w → IsStyle style →
    IsPlace ts n [] done → (n ≡ length ts) ⊎ SlotsEnd ts done → HaveRest ts done → ArePastLimit costs w (slots_paragraphs style ts (before_item ts n) (top_slots ts done)) →
    (trees : Forest) × IsPlace ts (length ts) [] trees × ArePastLimit costs w (slots_paragraphs style ts 0 (top_slots ts trees))
past_more costs laws w style ts n done column is place (inl e) rest past = (
  done,
  subst (λ (k : ℕ). IsPlace ts k [] done) e place,
  subst (λ (k : ℕ). ArePastLimit costs w (slots_paragraphs style ts k (top_slots ts done))) (ap (λ (k : ℕ). before_item ts k) e ∙ none_behind ts) past,
)
past_more costs laws w style ts n done column is place (inr ends) rest past =
    let others = slots_paragraphs style ts 0 (top_slots ts rest.0) in
    let both : slots_paragraphs style ts 0 (top_slots ts (followed_by done rest.0)) ≡ slots_paragraphs style ts (before_item ts n) (top_slots ts done) ++ others =
    subst (λ (k : ℕ). slots_paragraphs style ts k (top_slots ts (followed_by done rest.0)) ≡ slots_paragraphs style ts (before_item ts n) (top_slots ts done) ++ slots_paragraphs style ts k (top_slots ts rest.0))
    (none_behind ts) (paragraphs_behind style ts n (length ts) done rest.0 place ends rest.1) in (
      followed_by done rest.0,
      rest.1,
      subst (λ (ps : List Paragraph). ArePastLimit costs w ps) (sym both)
          (past_before costs laws w (slots_paragraphs style ts (before_item ts n) (top_slots ts done)) others column (paragraphs_are style ts 0 rest.0 is) (row_cores style ts 0 (top_slots ts rest.0)) past),
    )

-- the trees up to the last item are all
pub all_treed : (style : StyleView) (ts : List Token) (trees : Forest) → IsPlace (kept style ts) (length (kept style ts)) [] trees → Treed ts trees
all_treed style ts trees place = treed_read ts style.blanks trees (end_means (kept style ts) [] trees place)

-- a refusal of what a layout keeps is one of what was read
pub fault_read : {C : Type 0} (objective : Objective C) (style : StyleView) (ts : List Token) (e : TreeError) → TreeFault (kept style ts) e → SourceFault objective style ts (source.Tree e)
fault_read objective style ts (fault.Refused k offset) h = refused_read ts style.blanks k offset h
fault_read objective style ts (fault.Memory e) h = tt

-- what is told behind a part that isn't laid out
pub told_behind : {C : Type 0} (objective : Objective C) (style : StyleView) (text : List ℕ) (ts : List Token) (done : Forest) (why : FormatError) (told : SourceError) → Itemised text ts →
    IsToldBehind (kept style ts) done why told →
    (why ≡ TooLong → HaveRest (kept style ts) done → (trees : Forest) × IsPlace (kept style ts) (length (kept style ts)) [] trees
    × ArePastLimit objective.costs objective.limit (slots_paragraphs style (kept style ts) 0 (top_slots (kept style ts) trees))) →
    SourceFault objective style ts told
told_behind objective style text ts done why (source.Tree e) itemised h past = fault_read objective style ts e h
told_behind objective style text ts done why (source.Layout (Memory e)) itemised h past = tt
told_behind objective style text ts done why (source.Layout TooLong) itemised h past =
    let long : why ≡ TooLong = sym h.0 in
    let all = past long (h.1 long) in
    let treed = all_treed style ts all.0 all.1 in
    (all.0, treed, past_of objective style text ts all.0 itemised treed all.2)

-- what is told behind the trees that come next, where they aren't laid out
pub next_told : {C : Type 0} (costs : Costs C) (laws : Lawful costs) (w : ℕ) (style : StyleView) (tree : KeptTree) (ts : List Token) (from n : ℕ) (old : Lines C) (why : FormatError) (told : SourceError) →
    IsColumn w → IsStyle style → HoldsSource style tree →
    (h : AreKeptItems style (chars tree.src.now) ts tree.items.items) → from < length (kept style ts) → n ≤ length tree.items.items →
    (before : AreLinesTo costs w style (kept style ts) from old) (next : HoldNext (kept style ts) before.done tree.nodes tree.tops.items n) →
    (why ≡ TooLong → (all : List Token) (trees : Forest) (ps : List Paragraph) → HasTops style tree all trees → EachIsDocument ps → EachHasCore ps → AreLinesOf costs w ps old →
    ArePastLimit costs w (ps ++ paragraphs_to style all n trees)) →
    IsToldBehind (kept style ts) (followed_by before.done next.part) why told →
    SourceFault (sought costs w) style ts told
next_told costs laws w style tree ts from n old why told column is holds h some there before next long is_told =
    let all : List Token = kept style ts in
    told_behind (sought costs w) style (chars tree.src.now) ts (followed_by before.done next.part) why told h.0 is_told
    (λ past rest. past_more costs laws w style all n (followed_by before.done next.part) column is next.place next.ends rest
    (subst (λ (ps : List Paragraph). ArePastLimit costs w ps) (sym (paragraphs_more costs w style all from n old _ _ before next some))
    (long past all next.part _ (part_tops style tree ts before.done n is holds h there next) (paragraphs_are style all (before_item all from) before.done is)
    (row_cores style all (before_item all from) (top_slots all before.done)) before.lines_are)))

-- the lines of all parts are the layout
pub all_lines : {C : Type 0} (costs : Costs C) (laws : Lawful costs) (w : ℕ) (style : StyleView) (text : List ℕ) (ts : List Token) (n : ℕ) (lines : Lines C) (given : Layout C) →
    IsColumn w → IsStyle style → Itemised text ts → n ≡ length (kept style ts) →
    (h : AreLinesTo costs w style (kept style ts) n lines) →
    given.choices ≡ lines.choices.items → given.text ≡ chars (string_bytes lines.text) → given.cost ≡ lines.cost → given.within ≡ lines.within →
    (trees : Forest) × Treed ts trees × IsWhole (sought costs w) style ts trees given
all_lines costs laws w style text ts n lines given column is itemised e h choices_are text_is cost_is within_is =
    let all : List Token = kept style ts in
    let treed = all_treed style ts h.done (subst (λ (k : ℕ). IsPlace all k [] h.done) e h.place) in
    let blanks : before_item all n ≡ 0 = ap (λ (k : ℕ). before_item all k) e ∙ none_behind all in (
      h.done,
      treed,
      whole_of (sought costs w) style text ts h.done given lines.characters lines.weight is itemised treed laws column
          (rw (choices_are, text_is, cost_is, within_is) (subst (λ (k : ℕ). AreLinesOf costs w (slots_paragraphs style all k (top_slots all h.done)) lines) blanks h.lines_are)),
    )
