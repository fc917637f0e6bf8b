-- Worked examples of first lines, of parts one after another, and of what holds of a tree: a definition that changes
-- its meaning fails here.
use Rattle.std.proofs.Common.{length, ◌≡◌, ℕ, ◌<◌, zero, suc, false, List, [], ◌∷◌, ◌++◌, Option, Some, None, codes, refl, sym, ap, ap₂, subst, arith}
use Rattle.std.specs.Borrow.{Bor}
use Rattle.std.specs.Global.{Vec}
use Rattle.std.specs.List.{AllByRecursion, Contains}
use Rattle.std.specs.Str.{chars}
use Rattle.rf_base_document.specs.Document as doc
use Rattle.rf_base_document.specs.Document.{Doc, IsOneLine, plain_text}
use Rattle.rf_base_grammar.specs.Characters.{is_delimiter, is_white}
use Rattle.rf_base_grammar.specs.Token.{Token}
use Rattle.rf_base_grammar.specs.declared.kinds.Bracket.TheVariants.{Round}
use Rattle.rf_base_grammar.specs.declared.kinds.Kind.{Kind}
use Rattle.rf_base_grammar.specs.declared.kinds.Kind.TheVariants.{Opener, Closer, Atom}
use Rattle.rf_base_style.specs.Table.{StyleView}
use Rattle.rf_base_tree.specs.Cut as cut
use Rattle.rf_base_tree.specs.Slots as definition
use Rattle.rf_base_tree.specs.Slots.{Entry}
use Rattle.rf_base_tree.specs.Trees.{Tree, Leaf, Forest}
use Rattle.rf_base_tree.specs.declared.separators.Want.TheVariants as want
use Rattle.rf_base_file.specs.declared.shapes.Role.TheVariants.{Free, Clause}
use Rattle.rf_base_file.specs.FileDocument.{tree_piece, slot_piece}
use Rattle.rf_base_file.specs.Rows.{Part, part, step, bare_break}
use Rattle.rf_base_file.specs.Ways.{Piece}
use Rattle.rf_tree.specs.Kept.{IsTreeOf}
use Rattle.rf_tree.specs.Nodes.{UnfoldsTo}
use Rattle.rf_tree.specs.Slots.{NodeSlot, NodeSlotStands, NodeSlotsStand, SlotStands}
use Rattle.rf_tree.specs.declared.slotting.Slot.{Slot}
use Rattle.rf_tree.specs.declared.nodes.At.{At}
use Rattle.rf_tree.specs.declared.trees.Tree.{Tree as KeptTree}
use Rattle.rf_ways.specs.Below.{AtBelow}
use Rattle.rf_ways.specs.Holds.{OfFile, OfSlot}
use Rattle.rf_ways.specs.Lines.{CutsLine}
use Rattle.rf_ways.specs.Steps.{gap_behind, last_behind, docs_behind, prefixed_steps, want_behind, role_behind}
use Rattle.rf_ways.specs.Tops.{IsTop}
use Rattle.rf_ways.specs.Words.{told, IsItemWord, IsNodeWord, IsSlotWord, OfSlots}

-- a text of one line isn't cut, and one of two is, at its line end; what is behind that is shorter
one_line : IsOneLine (codes "a")
one_line (zero, lt, e) = cc
one_line (suc i, lt, e) = omega (arith, lt)

not_cut : CutsLine (codes "a") None × (CutsLine (codes "a" ++ 10 ∷ []) None → ⊥)
unfolding chars
not_cut = (one_line, λ h. h (1, omega arith, refl))

cut_at_end : (a b : Bor (List ℕ)) → a.now ≡ codes "a" → b.now ≡ codes "b" →
    CutsLine (codes "a" ++ 10 ∷ codes "b") (Some (a, b))
unfolding chars
cut_at_end a b e f = (
  subst (λ (s : List ℕ). IsOneLine (chars s)) (sym e) one_line,
  sym (ap₂ (λ (s t : List ℕ). chars s ++ 10 ∷ chars t) e f),
  omega (arith, ap (λ (s : List ℕ). length s) e, ap (λ (s : List ℕ). length s) f),
)

cut_is_first : (a b : Bor (List ℕ)) → a.now ≡ codes "a" ++ 10 ∷ [] →
    CutsLine (codes "a" ++ 10 ∷ 10 ∷ []) (Some (a, b)) → ⊥
unfolding chars
cut_is_first a b e h = h.0 (subst (λ (s : List ℕ). Contains (chars s) 10) (sym e) (1, omega arith, refl))

rest_is_shorter : (text : List ℕ) (a b : Bor (List ℕ)) → CutsLine text (Some (a, b)) → length b.now < length text
rest_is_shorter text a b h = omega (arith, h.2)

-- an atom, brackets, and an atom behind a blank line
abbrev below : ℕ → Kind → List ℕ → Token
below blanks kind spelling = record { kind = kind; start = 0; spelling = spelling; blanks = blanks; own_line = false }

abbrev tokens : List Token
tokens =
    below 0 Atom (codes "a") ∷ below 0 (Opener Round) (codes "(") ∷ below 0 (Closer Round) (codes ")")
    ∷ below 1 Atom (codes "b") ∷ []

abbrev space : Doc
space = plain_text (codes " ")

abbrev a : Part
a = part 0 0 (doc.Nest 1 doc.Hard)

abbrev pair : Part
pair = part 1 2 (doc.Nest 2 doc.Hard)

abbrev b : Part
b = part 3 3 (doc.Nest 3 doc.Hard)

-- from the closer to the last atom
abbrev end : Part
end = part 2 3 (doc.Nest 4 doc.Hard)

-- a gap stands between the last item and the next one, and without an item there is none
gaps_are : (gap_behind tokens None 3 want.Line ≡ []) × (gap_behind tokens (Some 0) 1 want.Line ≡ doc.Newline ∷ [])
    × (gap_behind tokens (Some 2) 3 want.Line ≡ bare_break ∷ doc.Hard ∷ [])
gaps_are = (refl, refl, refl)

lasts_are : (last_behind (Some 7) [] ≡ Some 7)
    × (last_behind None (step want.Line a ∷ step want.Line pair ∷ []) ≡ Some 2)
unfolding last_behind
lasts_are = (refl, refl)

docs_are : (docs_behind tokens None (step want.Line a ∷ step want.Nothing pair ∷ []) ≡ a.doc ∷ pair.doc ∷ [])
    × (docs_behind tokens (Some 0) (step want.Space pair ∷ step want.Nothing b ∷ [])
    ≡ space ∷ pair.doc ∷ bare_break ∷ doc.Hard ∷ b.doc ∷ [])
    × (docs_behind tokens (Some 1) (step want.Nothing end ∷ step want.Nothing a ∷ []) ≡ end.doc ∷ space ∷ a.doc ∷ [])
unfolding docs_behind is_delimiter is_white
docs_are = (refl, refl, refl)

-- behind a prefix comments begin without a gap and a datum behind them has a space before it; without comments none
prefixed_are : (prefixed_steps [] a ≡ step want.Nothing a ∷ [])
    × (prefixed_steps (a ∷ pair ∷ []) b ≡ step want.Nothing a ∷ step want.Space pair ∷ step want.Space b ∷ [])
prefixed_are = (refl, refl)

-- a datum behind its key stands on the same line and has no role
abbrev place : ℕ → At
place n = record { 0 = n }

behind_keys : (want_behind {A = At} None ≡ want.Line) × (want_behind (Some (place 0)) ≡ want.Space)
    × (role_behind {A = At} None Clause ≡ Clause)
    × (role_behind (Some (place 0)) Clause ≡ Free)
behind_keys = (refl, refl, refl, refl)

-- the first three nodes are those of 0 to 2
below_three : AtBelow 3 (Some (place 2)) × (AtBelow 3 (Some (place 3)) → ⊥) × AtBelow 0 None
below_three = (omega arith, λ h. omega (arith, h), tt)

-- words are told as characters
words_are : (s : Bor (List ℕ)) → (told None ≡ None) × (told (Some s) ≡ Some (chars s.now))
words_are s = (refl, refl)

-- in a tree of these items the word of the first one is its characters, and brackets have none
item_words : (tree : KeptTree) (trees : Forest) (word : Option (Bor (List ℕ))) → IsTreeOf tree tokens trees →
    (IsItemWord tree 3 word → told word ≡ Some (codes "b")) × (IsItemWord tree 1 word → told word ≡ None)
item_words tree trees word is = (λ h. h tokens trees is, λ h. h tokens trees is)

node_word : (tree : KeptTree) (trees : Forest) (style : StyleView) (word : Option (Bor (List ℕ))) →
    IsTreeOf tree tokens trees →
    UnfoldsTo tokens tree.nodes 5 (Leaf 3) → IsNodeWord tree (place 5) word → told word ≡ Some (codes "b")
unfolding tree_piece
node_word tree trees style word is stands h = h style tokens trees (Leaf 3) is stands

-- the entry of an item; a slot has the word of its datum, and none where that has a key
abbrev entry : ℕ → Entry Tree
entry item = record { sort = definition.Datum; what = Leaf item }

slot_words : (tree : KeptTree) (trees : Forest) (style : StyleView) (k : NodeSlot) (word : Option (Bor (List ℕ))) →
    IsTreeOf tree tokens trees →
    IsSlotWord tree k word →
    (NodeSlotStands tokens tree.nodes k (cut.slot [] None (Some (entry 3)) (Some (entry 0))) →
    told word ≡ Some (codes "b"))
    × (NodeSlotStands tokens tree.nodes k (cut.slot [] (Some (entry 0)) (Some (entry 3)) None) → told word ≡ None)
unfolding tree_piece
slot_words tree trees style k word is h = (
  h style tokens trees (cut.slot [] None (Some (entry 3)) (Some (entry 0))) is,
  h style tokens trees (cut.slot [] (Some (entry 0)) (Some (entry 3)) None) is,
)

-- what is told of slots is told of their pieces, of the file of its items and trees, and of a slot of what it is in it
slots_told : (tree : KeptTree) (trees : Forest) (style : StyleView) (ks : List NodeSlot) (s : definition.Slot Tree)
    (P : List (definition.Slot Piece) → Type 0) →
    IsTreeOf tree tokens trees → NodeSlotsStand tokens tree.nodes ks (s ∷ []) → OfSlots tree ks P →
    P (slot_piece style tokens s ∷ [])
slots_told tree trees style ks s P is stand h = h style tokens trees (s ∷ []) is stand

file_told : (tree : KeptTree) (trees : Forest) (P : List Token → Forest → Type 0) → IsTreeOf tree tokens trees →
    OfFile tree P → P tokens trees
file_told tree trees P is h = h tokens trees is

slot_told : (tree : KeptTree) (trees : Forest) (k : Slot) (s : definition.Slot Tree)
    (P : List Token → definition.Slot Tree → Type 0) →
    IsTreeOf tree tokens trees → SlotStands tokens tree.nodes k s → OfSlot tree k P → P tokens s
slot_told tree trees k s P is stands h = h tokens trees s is stands

-- a slot of a tree has a source, and stands among the nodes
tops_are : (tree : KeptTree) (trees : Forest) (leads : Vec At) (s : definition.Slot Tree) → leads.items ≡ [] →
    length tree.nodes ≡ 4 →
    IsTreeOf tree tokens trees →
    SlotStands tokens tree.nodes
    (record { leads = leads; key = None; datum = Some (place 3); trailing = None }) s →
    IsTop tree (record { leads = leads; key = None; datum = Some (place 3); trailing = None })
tops_are tree trees leads s none four is stands = (
  tokens,
  trees,
  s,
  is,
  stands,
  subst (λ (l : List At). AllByRecursion (λ (at : At). at.0 < length tree.nodes) (l ++ place 3 ∷ [])) (sym none) (omega (arith, four), tt),
)

tops_end : (tree : KeptTree) (leads : Vec At) → leads.items ≡ [] → length tree.nodes ≡ 4 →
    IsTop tree (record { leads = leads; key = None; datum = Some (place 4); trailing = None }) → ⊥
tops_end tree leads none four (ts, trees, s, is, stands, h) =
    let all = subst (λ (l : List At). AllByRecursion (λ (at : At). at.0 < length tree.nodes) (l ++ place 4 ∷ [])) none h in
    omega (arith, four, all.0)
