-- Worked examples of additions that reflect the order of costs and of those that don't.
use Rattle.std.proofs.Common.{◌≡◌, ℕ, ◌+◌, ◌≤◌, min, max, true, List, [], ◌∷◌, length, refl, sym, ◌∙◌, subst, Some, arith}
use Rattle.std.specs.Prelude.{nat_le, IsTrue}
use Rattle.rf_base_document.specs.Render.{Piece, Word, Break, Fee}
use Rattle.rf_base_cost.specs.Cost.{Costs, piece_cost, cost_after, cost_of, PiecesAreCounted}
use Rattle.rf_base_cost.specs.Reflecting.{ReflectsOrder, ReflectsOrderUpTo}
use Rattle.rf_base_cost.proofs.Dominance.{nat_le-true, true_le}

-- each piece costs 1, and costs are added so
abbrev added_by : (ℕ → ℕ → ℕ) → Costs ℕ
added_by add = record {
  is_value = λ a. true;
  text = λ column len. 1;
  newline = λ indentation. 1;
  charge = λ k. 1;
  add = add;
  le = nat_le;
}

sums_reflect : ReflectsOrder (added_by (λ a b. a + b))
sums_reflect a b c u v w less = let is : a + b ≤ a + c = nat_le-true (a + b) (a + c) less in true_le b c (omega arith)

-- 1 is no more than 0 although each is no more than 2
greatest_reflects_not : ReflectsOrder (added_by (λ a b. max a b)) → ⊥
greatest_reflects_not h = let less : IsTrue (nat_le 1 0) = h 2 1 0 refl refl refl refl in cc

-- sums that stop at 3
abbrev capped : Costs ℕ
capped = added_by (λ a b. min 3 (a + b))

breaks_counted : PiecesAreCounted (Break 0 ∷ Break 0 ∷ Break 0 ∷ [])
unfolding PiecesAreCounted
breaks_counted = (omega arith, (omega arith, (omega arith, tt)))

-- they reflect no order where a piece and three others cost what it and two others cost
capped_reflects_not : ReflectsOrderUpTo capped 4 → ⊥
unfolding PiecesAreCounted cost_after
capped_reflects_not h =
    let all = breaks_counted in
    let less : IsTrue (nat_le 3 2) =
    h (Break 0 ∷ []) (Break 0 ∷ Break 0 ∷ Break 0 ∷ []) (Break 0 ∷ Break 0 ∷ []) 1 3 2 (all.0, tt) all (
      all.0,
      (all.0, tt),
    )
    (omega arith) (omega arith) refl refl refl refl in
    cc

piece_costs_one : (piece : Piece) → piece_cost capped piece ≡ 1
piece_costs_one (Word column s len) = refl
piece_costs_one (Break indentation) = refl
piece_costs_one (Fee k) = refl

capped_after : (so_far : ℕ) (pieces : List Piece) → so_far + length pieces ≤ 3 →
    cost_after capped so_far pieces ≡ so_far + length pieces
unfolding cost_after
capped_after so_far [] p = omega arith
capped_after so_far (piece ∷ pieces) p =
    let one = piece_costs_one piece in
    let next : min 3 (so_far + piece_cost capped piece) ≡ so_far + 1 = omega arith in
    subst (λ (n : ℕ). cost_after capped n pieces ≡ so_far + length (piece ∷ pieces)) (sym next)
    (capped_after (so_far + 1) pieces (omega arith) ∙ omega arith)

capped_cost : (pieces : List Piece) (a : ℕ) → length pieces ≤ 3 → cost_of capped pieces ≡ Some a →
    (a ≡ length pieces) × (1 ≤ a)
unfolding cost_after
capped_cost [] a p e = cc
capped_cost (piece ∷ pieces) a p e =
    let one = piece_costs_one piece in
    let short : 1 + length pieces ≤ 3 = omega arith in
    let is : cost_after capped (piece_cost capped piece) pieces ≡ a = cc in
    let same : cost_after capped 1 pieces ≡ a = subst (λ (n : ℕ). cost_after capped n pieces ≡ a) one is in
    let sum : 1 + length pieces ≡ a = sym (capped_after 1 pieces short) ∙ same in
    (omega arith, omega arith)

-- up to three pieces they do
capped_reflects : ReflectsOrderUpTo capped 3
capped_reflects pieces others more a b c p q r short shorter e f g less =
    let first = capped_cost pieces a (omega arith) e in
    let second = capped_cost others b (omega arith) f in
    let third = capped_cost more c (omega arith) g in
    let is : min 3 (a + b) ≤ min 3 (a + c) = nat_le-true (min 3 (a + b)) (min 3 (a + c)) less in
    let one = first.0 in
    let two = second.0 in
    let three = third.0 in
    true_le b c (omega arith)
