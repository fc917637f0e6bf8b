-- Worked examples of cores, of what is kept of them and of choices that are taken: a definition that changes its
-- meaning fails here.
use Rattle.std.proofs.Common.{◌≡◌, ℕ, zero, suc, ◌+◌, ◌<◌, ◌≤◌, ◌⊎◌, inl, inr, Bool, false, true, List, [], ◌∷◌, refl, sym, Some, None, subst, arith}
use Rattle.std.specs.Borrow.{Bor}
use Rattle.std.specs.Prelude.{map}
use Rattle.std.specs.Str.{chars}
use Rattle.rf_base_document.specs.declared.directions.Dir.TheVariants.{Left, Right}
use Rattle.rf_base_document.specs.Document.{Doc, Text, Newline, Hard, Concat, Nest, Align, Reset, Flatten, Choice, Only, Charge}
use Rattle.rf_base_document.specs.Graph.{GraphNode, TextNode, NewlineNode, HardNode, ConcatNode, NestNode, AlignNode, ResetNode, FlattenNode, ChoiceNode, OnlyNode, ChargeNode, IsNode, IsGraph, StandsFor}
use Rattle.rf_base_document.specs.Picks.{Picks}
use Rattle.rf_base_document.specs.Render.{render}
use Rattle.rf_flat.specs.declared.cores.CoreNode.TheVariants as core
use Rattle.rf_flat.specs.declared.simple_nodes.Places.{Places}
use Rattle.rf_flat.specs.Cores.{core_node, core_graph, IsCoreGraph, IsPart, RootReachesAll}
use Rattle.rf_flat.specs.Kept.{mark_count, rank, with_parts}
use Rattle.rf_flat.specs.Places.{place_of, newline_made, hard_made, concat_made, choice_made, Grows}
use Rattle.rf_flat.specs.Reached.{IsMarked}
use Rattle.rf_flat.specs.Simplified.{StandsForCore, HasNoLayout}
use Rattle.rf_flat.specs.Taken.{left_by, size_of, AreNodes, side_of, AfterFirst}

-- each kind of a core's nodes
text_is : (s : Bor (List ℕ)) (len : ℕ) → core_node (core.Text s len) ≡ TextNode (chars s.now) len
text_is s len = refl

kinds_are : map core_node
    (core.Newline ∷ core.Concat 0 1 ∷ core.Nest 7 2 ∷ core.Align 3 ∷ core.Reset 4 ∷ core.Choice 1 6 ∷ core.Only Right 5
    ∷ core.Charge 9 8 ∷ [])
    ≡ NewlineNode ∷ ConcatNode 0 1 ∷ NestNode 7 2 ∷ AlignNode 3 ∷ ResetNode 4 ∷ ChoiceNode 1 6 ∷ OnlyNode Right 5
    ∷ ChargeNode 9 8 ∷ []
kinds_are = refl

-- a core's nodes are a graph, and its root is one of them
root_is_no_node : IsCoreGraph (core_graph (NewlineNode ∷ []) 1) → ⊥
root_is_no_node h = omega (arith, h.1)

nodes_are_no_graph : IsCoreGraph (core_graph (AlignNode 0 ∷ []) 0) → ⊥
unfolding IsGraph
nodes_are_no_graph h = omega (arith, (h.0 0 (AlignNode 0) refl).0)

-- the parts of a node are the numbers of nodes that it names, and no other number
parts_are : IsPart (ConcatNode 3 5) 3 × IsPart (ConcatNode 3 5) 5 × IsPart (ChoiceNode 3 5) 3 × IsPart (ChoiceNode 3 5) 5
    × IsPart (NestNode 7 3) 3 × IsPart (AlignNode 3) 3 × IsPart (ResetNode 3) 3 × IsPart (FlattenNode 3) 3
    × IsPart (OnlyNode Left 3) 3 × IsPart (ChargeNode 7 3) 3
parts_are = (inl refl, inr refl, inl refl, inr refl, refl, refl, refl, refl, refl, refl)

no_other_part : (n : ℕ) → (IsPart (ConcatNode 3 3) n → n ≡ 3) × (IsPart (ChoiceNode 3 3) n → n ≡ 3)
    × (IsPart (NestNode 7 3) n → n ≡ 3) × (IsPart (AlignNode 3) n → n ≡ 3) × (IsPart (ResetNode 3) n → n ≡ 3)
    × (IsPart (FlattenNode 3) n → n ≡ 3) × (IsPart (OnlyNode Left 3) n → n ≡ 3) × (IsPart (ChargeNode 7 3) n → n ≡ 3)
no_other_part n = (
  λ h. elim h [
    | inl e ↦ e
    | inr e ↦ e
  ],
  λ h. elim h [
    | inl e ↦ e
    | inr e ↦ e
  ],
  λ h. h,
  λ h. h,
  λ h. h,
  λ h. h,
  λ h. h,
  λ h. h,
)

no_part : (n : ℕ) → (IsPart (TextNode (97 ∷ []) 1) n → ⊥) × (IsPart NewlineNode n → ⊥) × (IsPart HardNode n → ⊥)
no_part n = (λ h. h, λ h. h, λ h. h)

-- the root is the last node, and each other node is a part of a later one
all_reached : RootReachesAll (core_graph (NewlineNode ∷ AlignNode 0 ∷ []) 1)
all_reached = (refl, λ n p. (1, AlignNode 0, omega (arith, p), refl, omega (arith, p)))

root_is_not_last : RootReachesAll (core_graph (NewlineNode ∷ NewlineNode ∷ []) 0) → ⊥
root_is_not_last h = omega (arith, h.0)

none_names_it : (m : ℕ) (node : GraphNode) → 0 < m → IsNode (NewlineNode ∷ NewlineNode ∷ []) m node → IsPart node 0 → ⊥
none_names_it zero node p found part = omega (arith, p)
none_names_it (suc zero) node p found part =
    let f : Some NewlineNode ≡ Some node = found in
    let e : node ≡ NewlineNode = cc in
    subst (λ (x : GraphNode). IsPart x 0) e part
none_names_it (suc (suc m)) node p found part = cc

not_reached : RootReachesAll (core_graph (NewlineNode ∷ NewlineNode ∷ []) 1) → ⊥
not_reached h = let by = h.1 0 (omega arith) in none_names_it by.0 by.1 by.2 by.3 by.4

names_itself : RootReachesAll (core_graph (AlignNode 0 ∷ []) 1) → ⊥
names_itself h = omega (arith, h.0)

-- new numbers count the marked nodes before
ranks_are : (rank (true ∷ false ∷ true ∷ []) 0 ≡ 0) × (rank (true ∷ false ∷ true ∷ []) 2 ≡ 1)
    × (rank (true ∷ false ∷ true ∷ []) 3 ≡ 2) × (rank (true ∷ []) 2 ≡ 1)
unfolding rank
ranks_are = (refl, refl, refl, refl)

marked_are : IsMarked (false ∷ true ∷ []) 1 × (IsMarked (false ∷ true ∷ []) 0 → ⊥) × (IsMarked (false ∷ true ∷ []) 2 → ⊥)
marked_are = (refl, λ h. cc, λ h. cc)

-- renamed parts, and nothing else
renamed_are : map (with_parts (λ n. n + 10))
    (TextNode [] 7 ∷ NewlineNode ∷ HardNode ∷ ConcatNode 0 1 ∷ NestNode 7 2 ∷ AlignNode 3 ∷ ResetNode 4 ∷ FlattenNode 5
    ∷ ChoiceNode 1 6 ∷ OnlyNode Right 5 ∷ ChargeNode 9 8 ∷ [])
    ≡ TextNode [] 7 ∷ NewlineNode ∷ HardNode ∷ ConcatNode 10 11 ∷ NestNode 7 12 ∷ AlignNode 13 ∷ ResetNode 14 ∷ FlattenNode 15
    ∷ ChoiceNode 11 16 ∷ OnlyNode Right 15 ∷ ChargeNode 9 18 ∷ []
renamed_are = refl

abbrev two_places : Places
two_places = record { broken = Some 3; flat = None }

places_are : (place_of two_places false ≡ Some 3) × (place_of two_places true ≡ None)
places_are = (refl, refl)

grown : Grows (NewlineNode ∷ []) (NewlineNode ∷ HardNode ∷ []) × (Grows (NewlineNode ∷ []) (HardNode ∷ []) → ⊥)
grown = ((HardNode ∷ [], refl), λ h. (let e : HardNode ∷ [] ≡ NewlineNode ∷ h.0 = h.1 in cc))

-- a core stands for a document exactly where there is one
cores_are : StandsForCore None None × (StandsForCore None (Some Newline) → ⊥)
    × (StandsForCore (Some (core_graph (NewlineNode ∷ []) 0)) None → ⊥)
    × StandsForCore (Some (core_graph (TextNode [] 0 ∷ NewlineNode ∷ []) 1)) (Some Newline)
    × (StandsForCore (Some (core_graph (TextNode [] 0 ∷ NewlineNode ∷ []) 0)) (Some Newline) → ⊥)
unfolding StandsFor
cores_are = (tt, λ h. h, λ h. h, refl, λ h. (let e : Some (TextNode [] 0) ≡ Some NewlineNode = h in cc))

-- a newline has a layout that isn't flat; a hard newline where flat has none
newline_has_layout : HasNoLayout Newline → ⊥
unfolding Picks render
newline_has_layout h = let e = h [] Newline 0 0 (refl, refl) in cc

flat_hard_has_none : HasNoLayout (Flatten Hard)
unfolding Picks render
flat_hard_has_none choices e column indentation h =
    subst (λ (x : Doc). render x column indentation false ≡ None) (sym h.1)
    (subst (λ (x : Doc). render (Flatten x) column indentation false ≡ None) (sym h.2.1) refl)

-- what is left of choices: those of the first part come first, and a side behind the direction to it
choices_left : (left_by (Concat (Choice Newline Hard) (Only Right Newline)) (Left ∷ Right ∷ Left ∷ []) ≡ Some (Left ∷ []))
    × (left_by (Choice (Choice Newline Hard) Newline) (Left ∷ Right ∷ []) ≡ Some [])
    × (left_by (Choice Newline (Choice Newline Hard)) (Right ∷ []) ≡ None) × (left_by (Choice Newline Newline) [] ≡ None)
    × (left_by (Only Left Newline) (Right ∷ []) ≡ None) × (left_by (Only Right Newline) (Left ∷ []) ≡ None)
    × (left_by (Only Left Newline) (Left ∷ []) ≡ Some []) × (left_by (Only Left Newline) [] ≡ None)
unfolding left_by
choices_left = (refl, refl, refl, refl, refl, refl, refl, refl)

under_others : (left_by (Nest 7 (Choice Newline Hard)) (Left ∷ []) ≡ Some [])
    × (left_by (Align (Choice Newline Hard)) (Left ∷ []) ≡ Some [])
    × (left_by (Reset (Choice Newline Hard)) (Left ∷ []) ≡ Some [])
    × (left_by (Flatten (Choice Newline Hard)) (Left ∷ []) ≡ Some [])
    × (left_by (Charge 7 (Choice Newline Hard)) (Left ∷ []) ≡ Some []) × (left_by Hard (Left ∷ []) ≡ Some (Left ∷ []))
    × (left_by (Text [] 0) (Left ∷ []) ≡ Some (Left ∷ []))
unfolding left_by
under_others = (refl, refl, refl, refl, refl, refl, refl)

sizes_are : (size_of (Concat (Text [] 0) (Nest 7 Newline)) ≡ 4) × (size_of (Choice (Align Newline) (Reset Hard)) ≡ 5)
    × (size_of (Flatten (Only Left (Charge 7 Newline))) ≡ 4)
unfolding size_of
sizes_are = (refl, refl, refl)

sides_are : (side_of {N = ℕ} Left 3 5 ≡ 3) × (side_of {N = ℕ} Right 3 5 ≡ 5)
sides_are = (refl, refl)

first_is : AfterFirst Left (Left ∷ Right ∷ []) (Some (Right ∷ [])) × AfterFirst Left (Right ∷ []) None
    × (AfterFirst Left (Left ∷ []) None → ⊥) × (AfterFirst Left (Right ∷ []) (Some []) → ⊥)
first_is = (refl, λ rest e. cc, λ h. h [] refl, λ h. cc)

nodes_are : AreNodes (NewlineNode ∷ HardNode ∷ []) (1 ∷ 0 ∷ [])
    × (AreNodes (NewlineNode ∷ HardNode ∷ []) (1 ∷ 2 ∷ []) → ⊥)
unfolding AreNodes
nodes_are = ((omega arith, (omega arith, tt)), λ h. omega (arith, h.1.0))
