-- How many pieces a node has, by its kind and by the counts of those before it.
use Rattle.std.proofs.Common.{◌≡◌, ℕ, ◌+◌, ◌<◌, ◌≤◌, Bool, true, false, nat_lt, List, [], ◌∷◌, ◌++◌, length, slice_index_or, Some, ◌⊎◌, inl, inr, refl, ap, subst, sym, arith}
use Rattle.std.proofs.lemmas.Bool.Decides.{nat_tests}
use Rattle.std.proofs.lemmas.List.{get_or_append_left, get_or_push, length-append}
use Rattle.std.proofs.lemmas.Bool.{cases_Bool}
use Rattle.rf_base_document.specs.Graph.{GraphNode, IsNode, IsGraph, tree_of, unfolded}
use Rattle.rf_base_document.proofs.Graph.{unfolded-node}
use Rattle.rf_base_optimum.specs.MostPieces.{most_pieces}
use Rattle.rf_documents.specs.Pieces.{AreCounted}

pub by_kind : (g : List GraphNode) (n : ℕ) (node : GraphNode) → IsGraph g → IsNode g n node → most_pieces (unfolded g n) ≡ most_pieces (tree_of (unfolded g) (Some node))
by_kind g n node whole is = ap most_pieces (unfolded-node g n node whole is)

-- a counted node
pub counted : (g : List GraphNode) (counts : List ℕ) (n : ℕ) → AreCounted g counts → n < length counts → most_pieces (unfolded g n) ≤ slice_index_or counts n 0
unfolding AreCounted
counted g counts n all there = all n there

-- a node with as many pieces as its counted part
pub as_part : (g : List GraphNode) (counts : List ℕ) (n a : ℕ) → most_pieces (unfolded g n) ≡ most_pieces (unfolded g a) → AreCounted g counts → a < length counts → most_pieces (unfolded g n) ≤ slice_index_or counts a 0
as_part g counts n a e all there = subst (λ (z : ℕ). z ≤ slice_index_or counts a 0) (sym e) (counted g counts a all there)

is_lt : (a b : ℕ) → nat_lt a b ≡ true → a < b
is_lt a b p = grind (arith, nat_tests)

not_lt : (a b : ℕ) → nat_lt a b ≡ false → b ≤ a
not_lt a b p = grind (arith, nat_tests)

-- one more node is counted
pub counted_more : (g : List GraphNode) (counts : List ℕ) (most : ℕ) → AreCounted g counts → most_pieces (unfolded g (length counts)) ≤ most → AreCounted g (counts ++ most ∷ [])
unfolding AreCounted
counted_more g counts most all last n below = elim (cases_Bool (nat_lt n (length counts))) [
  | inl h ↦
      let there : n < length counts = is_lt n (length counts) h in
      subst (λ (z : ℕ). most_pieces (unfolded g n) ≤ z) (sym (get_or_append_left counts (most ∷ []) 0 n there)) (all n there)
  | inr h ↦
      let long : length (counts ++ most ∷ []) ≡ length counts + 1 = length-append counts (most ∷ []) in
      let here : length counts ≡ n = omega (arith, not_lt n (length counts) h, long, below) in
      subst (λ (z : ℕ). most_pieces (unfolded g n) ≤ z) (sym (get_or_push counts most 0 n here)) (subst (λ (k : ℕ). most_pieces (unfolded g k) ≤ most) here last)
]

-- none is counted
pub none_counted : (g : List GraphNode) → AreCounted g []
unfolding AreCounted
none_counted g n below = omega (arith, below)
