-- Worked examples of nodes and of graphs that grow: a definition that changes its meaning fails here.
use Rattle.std.proofs.Common.{◌≡◌, ℕ, ◌≤◌, List, [], ◌∷◌, refl, Ok, Err, arith, codes}
use Rattle.std.specs.Borrow.{Bor}
use Rattle.std.specs.Str.{chars}
use Rattle.std.specs.declared.alloc.AllocError.{AllocError}
use Rattle.rf_base_document.specs.Document.{Doc, Concat, Align}
use Rattle.rf_base_document.specs.Sequence.{seq}
use Rattle.rf_base_document.specs.Graph.{GraphNode, TextNode, NewlineNode, HardNode, ConcatNode, NestNode, AlignNode, ResetNode, FlattenNode, ChoiceNode, ChargeNode, IsGraph, StandsFor, EachStandsFor}
use Rattle.rf_doc.specs.declared.nodes.NodeId.{NodeId}
use Rattle.rf_doc.specs.declared.nodes.DocNode.TheVariants as told
use Rattle.rf_doc.specs.declared.stored.Stored.TheVariants as kept
use Rattle.rf_doc.specs.Nodes.{seen, StandsIn, IsKeptSo, HasNoText, told_node, numbers, joints, StandsOver, StandsOverBoth, StandsOverAll, Extends, Adds}

abbrev node : ℕ → NodeId
node n = record { 0 = n }

-- each kind as it is stored: a text is two bytes of four, from the second on
stored_are : seen (codes "abcd")
    (kept.Text 1 2 5 ∷ kept.Newline ∷ kept.Hard ∷ kept.Concat 0 1 ∷ kept.Nest 7 2 ∷ kept.Align 3 ∷ kept.Reset 4 ∷ kept.Flatten 5
    ∷ kept.Choice 1 6 ∷ kept.Charge 9 8 ∷ [])
    ≡ TextNode (codes "bc") 5 ∷ NewlineNode ∷ HardNode ∷ ConcatNode 0 1 ∷ NestNode 7 2 ∷ AlignNode 3 ∷ ResetNode 4 ∷ FlattenNode 5
    ∷ ChoiceNode 1 6 ∷ ChargeNode 9 8 ∷ []
unfolding chars
stored_are = refl

-- each kind as it is told
text_is_told : (s : Bor (List ℕ)) (len : ℕ) → told_node (told.Text s len) ≡ TextNode (chars s.now) len
text_is_told s len = refl

told_are : (told_node told.Newline ≡ NewlineNode) × (told_node told.Hard ≡ HardNode)
    × (told_node (told.Concat (node 0) (node 1)) ≡ ConcatNode 0 1) × (told_node (told.Nest 7 (node 2)) ≡ NestNode 7 2)
    × (told_node (told.Align (node 3)) ≡ AlignNode 3) × (told_node (told.Reset (node 4)) ≡ ResetNode 4)
    × (told_node (told.Flatten (node 5)) ≡ FlattenNode 5) × (told_node (told.Choice (node 1) (node 6)) ≡ ChoiceNode 1 6)
    × (told_node (told.Charge 9 (node 8)) ≡ ChargeNode 9 8)
told_are = (refl, refl, refl, refl, refl, refl, refl, refl, refl)

-- é is two bytes, and no text begins or ends between them
text_is_cut : (StandsIn (0xC3 ∷ 0xA9 ∷ []) (kept.Text 1 1 1) → ⊥) × (StandsIn (0xC3 ∷ 0xA9 ∷ []) (kept.Text 0 1 1) → ⊥)
text_is_cut = (
  λ h. (let e : 192 ≤ 169 = h.0.1 (omega arith) (omega arith) in omega (arith, e)),
  λ h. (let e : 192 ≤ 169 = h.1.1 (omega arith) (omega arith) in omega (arith, e)),
)

text_has_text : HasNoText (kept.Text 0 1 1) → ⊥
text_has_text h = h

numbers_are : numbers (node 3 ∷ node 5 ∷ []) ≡ 3 ∷ 5 ∷ []
numbers_are = refl

-- no part is one node, the text of nothing; one part is none; and three parts are joined by two
joints_are : (joints 0 ≡ 1) × (joints 1 ≡ 0) × (joints 3 ≡ 2)
joints_are = (refl, refl, refl)

-- older nodes stand first, as they were
grown : Extends (NewlineNode ∷ []) (NewlineNode ∷ HardNode ∷ [])
grown = refl

not_grown : (Extends (NewlineNode ∷ []) (HardNode ∷ NewlineNode ∷ []) → ⊥)
    × (Extends (NewlineNode ∷ NewlineNode ∷ []) (NewlineNode ∷ []) → ⊥)
not_grown = (λ h. cc, λ h. cc)

-- a node more where one may be added, which is the one that is named, and none after an Err
adds_one_more : Adds 1 (NewlineNode ∷ []) (NewlineNode ∷ HardNode ∷ []) (Ok (node 1))
adds_one_more = record { in_graph = omega arith; at_end = grown; few = omega arith; err = tt }

adds_too_much : (Adds 0 (NewlineNode ∷ []) (NewlineNode ∷ HardNode ∷ []) (Ok (node 1)) → ⊥)
    × (Adds 1 (NewlineNode ∷ []) (NewlineNode ∷ HardNode ∷ []) (Ok (node 2)) → ⊥)
    × ((error : AllocError) → Adds 1 (NewlineNode ∷ []) (NewlineNode ∷ HardNode ∷ []) (Err error) → ⊥)
adds_too_much = (λ h. omega (arith, h.few), λ h. omega (arith, h.in_graph), λ error h. cc)

-- what the stored nodes are: a graph, whose texts can be cut
names_itself : IsKeptSo [] (kept.Align 0 ∷ []) → ⊥
unfolding IsGraph
names_itself h = omega (arith, (h.0 0 (AlignNode 0) refl).0)

cuts_a_character : IsKeptSo (0xC3 ∷ 0xA9 ∷ []) (kept.Text 1 1 1 ∷ []) → ⊥
cuts_a_character h = text_is_cut.0 (h.1 0 (kept.Text 1 1 1) (omega arith))

-- what a new node stands for over its parts, in their order
stands_over : (old new : List GraphNode) (d e : Doc) → StandsOver old 0 Align new 2 → StandsOverBoth old 0 1 Concat new 2 →
    StandsOverAll old (0 ∷ 1 ∷ []) seq new 2 → StandsFor old 0 d → StandsFor old 1 e →
    StandsFor new 2 (Align d) × StandsFor new 2 (Concat d e) × (EachStandsFor old (0 ∷ 1 ∷ []) (d ∷ e ∷ []) → StandsFor new 2 (seq (d ∷ e ∷ [])))
stands_over old new d e one both all first second = (one d first, both d e first second, λ each. all (d ∷ e ∷ []) each)
