-- Worked examples of keys, of gaps and of what a walk comes to: a definition that changes its meaning fails here.
use Rattle.std.proofs.Common.{◌≡◌, ℕ, ◌+◌, true, false, List, [], ◌∷◌, Some, None, refl, arith}
use Rattle.rf_base_document.specs.declared.directions.Dir.{Dir}
use Rattle.rf_base_document.specs.declared.directions.Dir.TheVariants.{Left, Right}
use Rattle.rf_base_document.specs.Graph.{GraphNode, TextNode, NewlineNode, ConcatNode, NestNode, AlignNode, ResetNode, OnlyNode, ChargeNode, IsGraph}
use Rattle.rf_base_cost.specs.declared.measures.Measure.{Measure}
use Rattle.rf_walk.specs.declared.faults.LayoutError.TheVariants as layout
use Rattle.rf_resolve.specs.declared.faults.ResolveError.TheVariants.{TooLong}
use Rattle.rf_resolve.specs.declared.keys.Key.{Key}
use Rattle.rf_resolve.specs.declared.walks.Frame.{Frame}
use Rattle.rf_resolve.specs.Faults.{fault_of}
use Rattle.rf_resolve.specs.Gaps.{sum_below, gap, gaps, frontier_steps, PaidByGaps}
use Rattle.rf_resolve.specs.Keys.{IsAsked, key_at, nested_key, part_key, is_leaf, leaf_at, seen_to, seen, key_behind}
use Rattle.rf_resolve.specs.Resolved.{resolve_steps}
use Rattle.rf_resolve.specs.Walk.{walked, at_most_past, first_walked, walked_both, walked_side, IsFrame, AreFrames, HeadIs}

abbrev key : ℕ → ℕ → ℕ → Key
key node column indentation = record { node = node; column = column; indentation = indentation }

-- of two nodes within three columns: 6 · 2 · 4³ · 5 comparisons, and 6 · 4² of one frontier
steps_are : (resolve_steps 2 3 ≡ 3840) × (frontier_steps 3 ≡ 96)
steps_are = (refl, refl)

-- gaps: at each node, at columns up to 3 and indentations up to 4
gaps_are : (gaps {A = ℕ} (λ n column indentation. None) 2 3 ≡ 40) × (gaps {A = ℕ} (λ n column indentation. Some 7) 2 3 ≡ 0)
    × (sum_below (λ n. n) 4 ≡ 6)
unfolding gaps sum_below
gaps_are = (refl, refl, refl)

gap_is : (gap {A = ℕ} None ≡ 1) × (gap {A = ℕ} (Some 7) ≡ 0)
gap_is = (refl, refl)

-- six steps for one gap that is closed, and no more
paid : PaidByGaps 0 1 0 5 11
paid = record { risen = omega arith; paid = omega arith }

unpaid : (PaidByGaps 0 1 0 5 12 → ⊥) × (PaidByGaps 0 0 0 5 4 → ⊥)
unpaid = (λ h. omega (arith, h.paid), λ h. omega (arith, h.risen))

-- a key within the width: its column is at most that, and its indentation at most one more
asked : IsGraph (NewlineNode ∷ []) → IsAsked (NewlineNode ∷ []) 3 (key 0 3 4)
asked graph = record { graph = graph; node = omega arith; column = omega arith; indentation = omega arith }

not_asked : (IsAsked (NewlineNode ∷ []) 3 (key 1 0 0) → ⊥) × (IsAsked (NewlineNode ∷ []) 3 (key 0 4 0) → ⊥)
    × (IsAsked (NewlineNode ∷ []) 3 (key 0 0 5) → ⊥)
not_asked = (λ h. omega (arith, h.node), λ h. omega (arith, h.column), λ h. omega (arith, h.indentation))

-- the parts of nodes that only place a part
keys_are : (key_at (key 1 2 3) 7 9 ≡ key 7 2 9) × (key_behind (key 1 2 3) 7 ≡ key 1 7 3)
    × (nested_key 10 (key 1 2 3) 3 7 ≡ key 7 2 6) × (nested_key 10 (key 1 2 9) 3 7 ≡ key 7 2 11)
keys_are = (refl, refl, refl, refl)

parts_are : (part_key 10 (key 1 2 3) (NestNode 3 7) ≡ Some (key 7 2 6)) × (part_key 10 (key 1 2 3) (AlignNode 7) ≡ Some (key 7 2 2))
    × (part_key 10 (key 1 2 3) (ResetNode 7) ≡ Some (key 7 2 0)) × (part_key 10 (key 1 2 3) (ChargeNode 3 7) ≡ None)
    × (part_key 10 (key 1 2 3) (OnlyNode Left 7) ≡ None) × (part_key 10 (key 1 2 3) (ConcatNode 0 7) ≡ None)
parts_are = (refl, refl, refl, refl, refl, refl)

leaves_are : (is_leaf (Some NewlineNode) ≡ true) × (is_leaf (Some (TextNode [] 0)) ≡ true) × (is_leaf (Some (AlignNode 0)) ≡ false)
    × (is_leaf None ≡ false) × (leaf_at (NewlineNode ∷ AlignNode 0 ∷ []) 1 ≡ false)
leaves_are = (refl, refl, refl, refl, refl)

-- what is seen through nodes that place a part, at most 16 of them
abbrev nodes : List GraphNode
nodes = NewlineNode ∷ AlignNode 0 ∷ ResetNode 1 ∷ []

seen_are : (seen nodes 10 (key 2 4 3) ≡ key 0 4 4) × (seen_to 1 nodes 10 (key 2 4 3) ≡ key 1 4 0)
    × (seen nodes 10 (key 0 4 3) ≡ key 0 4 3)
unfolding seen_to
seen_are = (refl, refl, refl)

abbrev seventeen : List GraphNode
seventeen =
    NewlineNode ∷ ResetNode 0 ∷ ResetNode 1 ∷ ResetNode 2 ∷ ResetNode 3 ∷ ResetNode 4 ∷ ResetNode 5 ∷ ResetNode 6 ∷ ResetNode 7
    ∷ ResetNode 8 ∷ ResetNode 9 ∷ ResetNode 10 ∷ ResetNode 11 ∷ ResetNode 12 ∷ ResetNode 13 ∷ ResetNode 14 ∷ ResetNode 15
    ∷ ResetNode 16 ∷ []

seen_through_sixteen : (seen seventeen 10 (key 16 4 3) ≡ key 0 4 0) × (seen seventeen 10 (key 17 4 3) ≡ key 1 4 0)
unfolding seen_to
seen_through_sixteen = (refl, refl)

-- columns past the width aren't told apart
columns_are : (at_most_past 10 10 ≡ 10) × (at_most_past 10 11 ≡ 11) × (at_most_past 10 12 ≡ 11)
columns_are = (refl, refl, refl)

-- a frontier's first measure is walked, or what goes part by part
abbrev measure : ℕ → List Dir → Measure ℕ (List Dir)
measure last choices = record { last = last; cost = 0; how = choices }

firsts_are : (first_walked (measure 5 (Left ∷ Right ∷ []) ∷ measure 4 [] ∷ []) (walked [] 9 1) ≡ walked (Left ∷ Right ∷ []) 5 2)
    × (first_walked {C = ℕ} [] (walked [] 9 1) ≡ walked [] 9 1)
firsts_are = (refl, refl)

both_are : walked_both (walked (Left ∷ []) 5 1) (λ last. walked (Right ∷ []) (last + 2) 3) ≡ walked (Left ∷ Right ∷ []) 7 4
both_are = refl

side_is : walked_side Right (walked (Left ∷ []) 5 3) ≡ walked (Right ∷ Left ∷ []) 5 4
side_is = refl

abbrev frame : ℕ → ℕ → Frame
frame node indentation = record { node = node; indentation = indentation }

frames_are : IsFrame (NewlineNode ∷ []) 3 (frame 0 4) × (IsFrame (NewlineNode ∷ []) 3 (frame 1 0) → ⊥)
    × (IsFrame (NewlineNode ∷ []) 3 (frame 0 5) → ⊥) × (AreFrames (NewlineNode ∷ []) 3 (frame 0 0 ∷ frame 1 0 ∷ []) → ⊥)
unfolding AreFrames
frames_are = (
  record { node = omega arith; shallow = omega arith },
  λ h. omega (arith, h.node),
  λ h. omega (arith, h.shallow),
  λ h. omega (arith, h.1.0.node),
)

heads_are : HeadIs {A = ℕ} (1 ∷ 2 ∷ []) (Some 1) × (HeadIs {A = ℕ} (1 ∷ []) (Some 2) → ⊥) × HeadIs {A = ℕ} [] None × (HeadIs {A = ℕ} (1 ∷ []) None → ⊥)
heads_are = ((2 ∷ [], refl), λ h. (let e = h.1 in cc), refl, λ h. cc)

too_long_is : fault_of layout.TooLong ≡ TooLong
too_long_is = refl
