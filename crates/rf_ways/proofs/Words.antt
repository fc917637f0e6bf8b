-- The words of items, nodes and slots.
use Rattle.std.proofs.Common.{◌≡◌, ℕ, zero, suc, Bool, Option, Some, None, List, [], ◌∷◌, map, slice_get, cond, ◌+◌, refl, sym, ap, ap₂, ◌∙◌, subst, arith}
use Rattle.std.specs.Prelude.{is_some, count_by}
use Rattle.std.specs.Option.{option_map}
use Rattle.std.proofs.lemmas.List.Recursion.{is_count_by}
use Rattle.rf_base_grammar.specs.Token.{Token, item_of}
use Rattle.rf_base_grammar.specs.declared.items.Item.{Item}
use Rattle.rf_base_grammar.specs.declared.kinds.Kind.{Kind}
use Rattle.rf_base_grammar.specs.declared.kinds.Kind.TheVariants.{Dot, Atom}
use Rattle.rf_base_style.specs.Table.{StyleView}
use Rattle.rf_base_tree.specs.Trees.{Tree, Leaf, Point, Comment, Listed, spelling_at}
use Rattle.rf_base_tree.specs.Slots as definition
use Rattle.rf_base_tree.specs.Cut.{slot}
use Rattle.rf_base_file.specs.Ways.{word_of, one_if_some, data_count}
use Rattle.rf_base_file.specs.FileDocument.{atom_of, token_atom, atom_at, tree_piece, entry_piece, slot_piece}
use Rattle.rf_tree.specs.Nodes.{UnfoldsTo}
use Rattle.rf_tree.specs.Slots.{NodeSlot, NodeStands, NodeSlotStands, NodeSlotsStand}
use Rattle.rf_tree.specs.Ahead.{datum_slot}
use Rattle.rf_tree.specs.declared.nodes.At.{At}
use Rattle.rf_tree.specs.Told.{Node, told_node}
use Rattle.rf_tree.specs.Told as node
use Rattle.rf_tree.specs.declared.nodes.Node.{Node as ToldNode}
use Rattle.rf_tree.specs.declared.nodes.Node.TheVariants as variant
use Rattle.std.specs.Borrow.{Bor}
use Rattle.rf_ways.specs.Words.{told}

-- the token of an item
pub record TokenOf (ts : List Token) (n : ℕ) (i : Item) : Type 0 where
  pub token : Token
  pub at : slice_get ts n ≡ Some token
  pub is : item_of token ≡ i
  pub spelled : spelling_at ts n ≡ token.spelling

pub token_of_item : (ts : List Token) (items : List Item) (n : ℕ) (i : Item) → items ≡ map item_of ts → slice_get items n ≡ Some i → TokenOf ts n i
token_of_item ts items n i e h = go ts n (subst (λ (is : List Item). slice_get is n ≡ Some i) e h)
  where
    go : (ts : List Token) (n : ℕ) → slice_get (map item_of ts) n ≡ Some i → TokenOf ts n i
    go [] n h = cc
    go (t ∷ ts) zero h = record { token = t; at = refl; is = (let same : item_of t ≡ i = cc in same); spelled = refl }
    go (t ∷ ts) (suc n) h = let rest = go ts n h in record { token = rest.token; at = rest.at; is = rest.is; spelled = rest.spelled }

pub atom_word : (ts : List Token) (n : ℕ) (i : Item) (s : List ℕ) → TokenOf ts n i → i.kind ≡ Atom → s ≡ spelling_at ts n → Some s ≡ atom_at ts n
atom_word ts n i s t k e =
    let kind : t.token.kind ≡ Atom = ap (λ (x : Item). x.kind) t.is ∙ k in
    ap (λ (x : List ℕ). Some x) (e ∙ t.spelled) ∙ sym (ap token_atom t.at ∙ ap (λ (x : Kind). atom_of x t.token.spelling) kind)

no_atom : (k : Kind) (s : List ℕ) → (k ≡ Atom → ⊥) → atom_of k s ≡ None
no_atom Atom s h = absurd (h refl)
no_atom _ s h = refl

pub no_atom_word : (ts : List Token) (n : ℕ) (i : Item) → TokenOf ts n i → (i.kind ≡ Atom → ⊥) → None ≡ atom_at ts n
no_atom_word ts n i t h =
    sym (ap token_atom t.at ∙ no_atom t.token.kind t.token.spelling (λ e. h (sym (ap (λ (x : Item). x.kind) t.is) ∙ e)))

-- a dot has no word
dot_word : (o : Option Token) → option_map (λ t. t.kind) o ≡ Some Dot → token_atom o ≡ None
dot_word None e = cc
dot_word (Some t) e = let kind : t.kind ≡ Dot = cc in ap (λ (k : Kind). atom_of k t.spelling) kind

pub leaf_word : (style : StyleView) (ts : List Token) (nodes : List Node) (at item : ℕ) (word : Option (List ℕ)) (t : Tree) → slice_get nodes at ≡ Some (node.Leaf item) → UnfoldsTo ts nodes at t → word ≡ atom_at ts item → word ≡ (tree_piece style ts t).atom
unfolding UnfoldsTo tree_piece
leaf_word style ts nodes at item word (Leaf i) e h w =
    let is = h.0 in
    let same : item ≡ i = cc in
    w ∙ ap (λ (n : ℕ). atom_at ts n) same
leaf_word style ts nodes at item word (Point i) e h w =
    let is = h.0 in
    let same : item ≡ i = cc in
    w ∙ ap (λ (n : ℕ). atom_at ts n) same ∙ dot_word (slice_get ts i) h.1
leaf_word style ts nodes at item word (Comment i) e h w = cc
leaf_word style ts nodes at item word (Listed o f c) e h w = let no = h.1 in cc
leaf_word style ts nodes at item word _ e h w = let no = h.2 in cc

pub other_word : (style : StyleView) (ts : List Token) (nodes : List Node) (at : ℕ) (n : Node) (t : Tree) → slice_get nodes at ≡ Some n → ((item : ℕ) → n ≡ node.Leaf item → ⊥) → UnfoldsTo ts nodes at t → None ≡ (tree_piece style ts t).atom
unfolding UnfoldsTo tree_piece
other_word style ts nodes at n (Leaf i) e apart h = let is = h.0 in absurd (apart i cc)
other_word style ts nodes at n _ e apart h = refl

-- what isn't told to be an item by itself isn't one
pub not_leaf : (n : ToldNode) → ((item : ℕ) → n ≡ variant.Leaf item → ⊥) → (item : ℕ) → told_node n ≡ node.Leaf item → ⊥
not_leaf (variant.Leaf i) apart item e = apart i refl
not_leaf (variant.Prefixed i lead inner) apart item e = cc
not_leaf (variant.List o entries c) apart item e = cc
not_leaf (variant.Comment i) apart item e = cc
not_leaf (variant.DatumComment i lead inner) apart item e = cc

-- a datum without a key has its node's word
pub datum_word : (style : StyleView) (ts : List Token) (nodes : List Node) (at : At) (remark : Option At) (s : definition.Slot Tree) (word : Option (List ℕ)) → ((t : Tree) → UnfoldsTo ts nodes at.0 t → word ≡ (tree_piece style ts t).atom) → NodeSlotStands ts nodes (datum_slot at remark) s →
    word ≡ word_of (slot_piece style ts s).key (slot_piece style ts s).datum
datum_word style ts nodes at remark s word told h = go s.leads s.key s.datum s.trailing h.key h.datum
  where
    go : (leads : List (definition.Entry Tree)) (key datum trailing : Option (definition.Entry Tree)) → NodeStands ts nodes None key → NodeStands ts nodes (Some at) datum →
        word ≡ word_of (slot_piece style ts (slot leads key datum trailing)).key (slot_piece style ts (slot leads key datum trailing)).datum
    go leads None None trailing k d = absurd d
    go leads None (Some e) trailing k d = told e.what d
    go leads (Some e) datum trailing k d = absurd k

-- how many slots have a datum
datum_counted : (ts : List Token) (nodes : List Node) (at : Option At) (e : Option (definition.Entry Tree)) → NodeStands ts nodes at e → is_some at ≡ is_some e
datum_counted ts nodes None (Some e) h = absurd h
datum_counted ts nodes (Some at) None h = absurd h
datum_counted ts nodes _ _ h = refl

kept_count : List NodeSlot → ℕ
kept_count [] = 0
kept_count (k ∷ kept) = cond (is_some k.datum) (1 + kept_count kept) (kept_count kept)

kept_counted : (kept : List NodeSlot) → kept_count kept ≡ count_by (λ s. is_some s.datum) kept
unfolding kept_count
kept_counted kept = is_count_by kept_count (λ (s : NodeSlot). is_some s.datum) refl (λ k ks. refl) kept

one_counted : (e : Option (definition.Entry Tree)) (style : StyleView) (ts : List Token) (n : ℕ) → cond (is_some e) (1 + n) n ≡ one_if_some (option_map (entry_piece style ts) e) n
one_counted None style ts n = refl
one_counted (Some e) style ts n = omega arith

counted : (style : StyleView) (ts : List Token) (nodes : List Node) (kept : List NodeSlot) (ss : List (definition.Slot Tree)) → NodeSlotsStand ts nodes kept ss → kept_count kept ≡ data_count (map (slot_piece style ts) ss)
unfolding data_count kept_count
counted style ts nodes [] [] h = refl
counted style ts nodes [] (s ∷ ss) h = absurd h
counted style ts nodes (k ∷ kept) [] h = absurd h
counted style ts nodes (k ∷ kept) (s ∷ ss) h =
    ap₂ (λ (b : Bool) (n : ℕ). cond b (1 + n) n) (datum_counted ts nodes k.datum s.datum h.0.datum) (counted style ts nodes kept ss h.1)
    ∙ one_counted s.datum style ts (data_count (map (slot_piece style ts) ss))

pub data_counted : (style : StyleView) (ts : List Token) (nodes : List Node) (kept : List NodeSlot) (ss : List (definition.Slot Tree)) → NodeSlotsStand ts nodes kept ss → count_by (λ s. is_some s.datum) kept ≡ data_count (map (slot_piece style ts) ss)
data_counted style ts nodes kept ss h = sym (kept_counted kept) ∙ counted style ts nodes kept ss h

pub told_some : (word : Option (Bor (List ℕ))) → is_some word ≡ is_some (told word)
told_some None = refl
told_some (Some w) = refl
