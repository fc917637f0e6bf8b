-- What is known at once, by what it is.
use Rattle.std.proofs.Common.{◌≡◌, ℕ, Bool, List, [], ◌∷◌, Some, sym, subst}
use Rattle.rf_base_document.specs.Document.{Doc}
use Rattle.rf_base_cost.specs.declared.measures.Measure.{Measure}
use Rattle.rf_frontier.specs.declared.hows.How.{How}
use Rattle.rf_frontier.specs.declared.hows.HowId.{HowId}
use Rattle.rf_outline.specs.declared.documents.Leaf.{Leaf}
use Rattle.rf_outline.specs.declared.documents.Leaf.TheVariants as leaf
use Rattle.rf_outline.specs.declared.documents.Span.TheVariants as spans
use Rattle.rf_outline.specs.Documents.{SpanHolds, LeafHolds, IsLineBreak}
use Rattle.rf_search.specs.Tasks.{Task}
use Rattle.rf_search.specs.declared.at_once.AtOnce.{AtOnce}
use Rattle.rf_search.specs.declared.at_once.AtOnce.TheVariants.{Nothing, One, Unknown}
use Rattle.rf_search.specs.Behind.{IsBefore, AreBehind}
use Rattle.rf_search.specs.AtOnce.{IsKnownBehind}

-- what holds of a leaf, by what it is
pub leaf_is_text : (d : Doc) (flat : Bool) (l : Leaf) (len : ℕ) → LeafHolds d flat (Some l) → l ≡ leaf.Text len → SpanHolds d flat (spans.Text len) []
leaf_is_text d flat l len holds is = subst (λ (k : Leaf). LeafHolds d flat (Some k)) is holds

-- a leaf has one length
pub one_length : (l : Leaf) (len more : ℕ) → l ≡ leaf.Text len → l ≡ leaf.Text more → len ≡ more
one_length l len more is too = cc

pub leaf_is_break : (d : Doc) (flat : Bool) (l : Leaf) → LeafHolds d flat (Some l) → l ≡ leaf.Break → IsLineBreak d flat
leaf_is_break d flat l holds is = subst (λ (k : Leaf). LeafHolds d flat (Some k)) is holds

pub known_nothing : {C N : Type 0} (task : Task C N) (old new : List How) (n : N) (flat : Bool) (i x : ℕ) (m k : Measure C HowId) (r : AtOnce) → IsKnownBehind task old new n flat i x m k r →
    r ≡ Nothing → AreBehind task old new n flat i x m []
known_nothing task old new n flat i x m k r known is = subst (λ (z : AtOnce). IsKnownBehind task old new n flat i x m k z) is known

pub known_one : {C N : Type 0} (task : Task C N) (old new : List How) (n : N) (flat : Bool) (i x : ℕ) (m k : Measure C HowId) (r : AtOnce) → IsKnownBehind task old new n flat i x m k r →
    r ≡ One → AreBehind task old new n flat i x m (k ∷ [])
known_one task old new n flat i x m k r known is = subst (λ (z : AtOnce). IsKnownBehind task old new n flat i x m k z) is known

-- where nothing is known the measure is still the same
pub still_same : {C N : Type 0} (task : Task C N) (old new : List How) (n : N) (flat : Bool) (i x : ℕ) (m k : Measure C HowId) (r : AtOnce) → IsKnownBehind task old new n flat i x m k r →
    r ≡ Unknown → k ≡ m
still_same task old new n flat i x m k r known is = subst (λ (z : AtOnce). IsKnownBehind task old new n flat i x m k z) is known

pub still_asked : {C N : Type 0} (task : Task C N) (ways : List How) (n : N) (m k : Measure C HowId) → k ≡ m → IsBefore task ways n m → IsBefore task ways n k
still_asked {C = C} task ways n m k same before = subst (λ (z : Measure C HowId). IsBefore task ways n z) (sym same) before

pub still_found : {C N : Type 0} (task : Task C N) (old new : List How) (n : N) (flat : Bool) (i x : ℕ) (m k : Measure C HowId) (kept : List (Measure C HowId)) → k ≡ m →
    AreBehind task old new n flat i x k kept → AreBehind task old new n flat i x m kept
still_found {C = C} task old new n flat i x m k kept same behind = subst (λ (z : Measure C HowId). AreBehind task old new n flat i x z kept) same behind

pub still_known : {C N : Type 0} (task : Task C N) (old new : List How) (n : N) (flat : Bool) (i x : ℕ) (m k after : Measure C HowId) (r : AtOnce) → k ≡ m →
    IsKnownBehind task old new n flat i x k after r → IsKnownBehind task old new n flat i x m after r
still_known {C = C} task old new n flat i x m k after r same known = subst (λ (z : Measure C HowId). IsKnownBehind task old new n flat i x z after r) same known
