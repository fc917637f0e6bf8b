-- The marked nodes at the front of the vector that holds all nodes.
use Rattle.std.proofs.Common.{◌≡◌, ℕ, ◌+◌, ◌<◌, ◌≤◌, false, Bool, List, [], ◌∷◌, ◌++◌, length, get_or, slice_index, ap, sym, subst, ◌∙◌, refl, arith}
use Rattle.std.proofs.Math.ListN.{set, take}
use Rattle.std.proofs.lemmas.List.{length-set, get_or-set_other, length-take-le, take_more_set}
use Rattle.rf_base_document.specs.Graph.{IsGraph, parts_end}
use Rattle.rf_base_document.proofs.Graph.{parts_come_first}
use Rattle.rf_flat.specs.declared.cores.CoreNode.{CoreNode}
use Rattle.rf_flat.specs.Cores.{core_node, core_nodes}
use Rattle.rf_flat.specs.Reached.{IsMarked, MarkedDownTo}
use Rattle.rf_flat.specs.Kept.{with_parts, KeptUpTo}
use Rattle.rf_flat.proofs.CoreNodes.{told_at, nodes_count, nodes_pushed}
use Rattle.rf_flat.proofs.Ranks.{none_kept, one_kept, none_more_kept}

-- the first count nodes are those that are kept of the first n old ones, and from n on the old ones still stand
pub record KeptInFront (old : List CoreNode) (marks : List Bool) (n count : ℕ) (places : List ℕ) (now : List CoreNode) : Type 0 where
  pub long : length now ≡ length old
  pub few : count ≤ n
  pub kept : KeptUpTo (core_nodes old) marks n places (core_nodes (take count now))
  pub rest : (k : ℕ) (d : CoreNode) → n ≤ k → get_or now k d ≡ get_or old k d

-- nothing is kept yet
pub none_in_front : (old : List CoreNode) (marks : List Bool) (places : List ℕ) → places ≡ [] → KeptInFront old marks 0 0 places old
none_in_front old marks places no_place = record {
  long = refl;
  few = omega arith;
  kept = none_kept (core_nodes old) marks places (core_nodes (take 0 old)) no_place refl;
  rest = λ k d le. refl;
}

-- so many are kept
front_count : (count : ℕ) (now : List CoreNode) → count ≤ length now → count ≡ length (core_nodes (take count now))
front_count count now le = sym (nodes_count (take count now) ∙ length-take-le count now le)

-- what stands from n on is still the old node
still : (old : List CoreNode) (marks : List Bool) (n count : ℕ) (x : CoreNode) (places : List ℕ) (now : List CoreNode) →
    KeptInFront old marks n count places now → x ≡ get_or now n x → x ≡ get_or old n x
still old marks n count x places now so_far found = found ∙ so_far.rest n x (omega arith)

-- its parts come before it
pub parts_before : (old : List CoreNode) (marks : List Bool) (n count k : ℕ) (x : CoreNode) (places : List ℕ) (now : List CoreNode) →
    IsGraph (core_nodes old) → n < length old → KeptInFront old marks n count places now → x ≡ get_or now n x → n ≤ k → parts_end (core_node x) ≤ k
parts_before old marks n count k x places now whole within so_far found le =
    omega (arith, parts_come_first (core_nodes old) n (core_node x) whole (told_at old n x (still old marks n count x places now so_far found) within))

-- a marked node is kept
pub one_in_front : (old : List CoreNode) (marks : List Bool) (root n m count count' : ℕ) (x new : CoreNode) (places places' : List ℕ) (now now' : List CoreNode) →
    IsGraph (core_nodes old) → n < length old → MarkedDownTo (core_nodes old) root 0 marks → KeptInFront old marks n count places now → IsMarked marks n →
    places' ≡ places ++ m ∷ [] → m ≡ count → x ≡ get_or now n x → core_node new ≡ with_parts (λ k. slice_index places' k) (core_node x) → count' ≡ count + 1 →
    now' ≡ set now count new → KeptInFront old marks (n + 1) count' places' now'
one_in_front old marks root n m count count' x new places places' now now' whole within marked so_far here places_are place found new_is more is =
    let room : count < length now = omega (arith, so_far.long, so_far.few) in
    let front : take count' now' ≡ take count now ++ new ∷ [] = take_at count' now' (set now count new) more is ∙ take_more_set now count new room in
    record {
      long = ap (λ (l : List CoreNode). length l) is ∙ length-set now count new ∙ so_far.long;
      few = omega (arith, so_far.few);
      kept = one_kept (core_nodes old) marks root n m (core_node x) (core_node new) places places' (core_nodes (take count now)) _ whole marked
          so_far.kept here (told_at old n x (still old marks n count x places now so_far found) within) places_are (place ∙ front_count count now (omega arith)) new_is
          (nodes_pushed (take count now) (take count' now') new front);
      rest = λ k d le.
          let other : k ≡ count → ⊥ = λ z. omega (arith, so_far.few) in
          ap (λ (l : List CoreNode). get_or l k d) is ∙ get_or-set_other now count k new d other ∙ so_far.rest k d (omega arith);
    }
  where
    take_at : (m : ℕ) (l l' : List CoreNode) → m ≡ count + 1 → l ≡ l' → take m l ≡ take (count + 1) l'
    take_at m l l' e f = ap (λ (j : ℕ). take j l) e ∙ ap (λ (q : List CoreNode). take (count + 1) q) f

-- a node without a mark isn't
pub none_more_in_front : (old : List CoreNode) (marks : List Bool) (n m count count' : ℕ) (places places' : List ℕ) (now now' : List CoreNode) →
    n < length old → KeptInFront old marks n count places now → get_or marks n false ≡ false → places' ≡ places ++ m ∷ [] → m ≡ count → count' ≡ count → now' ≡ now →
    KeptInFront old marks (n + 1) count' places' now'
none_more_in_front old marks n m count count' places places' now now' within so_far none places_are place same is =
    subst (λ (j : ℕ). KeptInFront old marks (n + 1) j places' now') (sym same)
    (subst (λ (l : List CoreNode). KeptInFront old marks (n + 1) count places' l) (sym is) record {
      long = so_far.long;
      few = omega (arith, so_far.few);
      kept = none_more_kept (core_nodes old) marks n m places places' (core_nodes (take count now)) so_far.kept none places_are
          (place ∙ front_count count now (omega (arith, so_far.long, so_far.few)));
      rest = λ k d le. so_far.rest k d (omega arith);
    })
