-- Worked examples of ways of counting under which frontiers may be cut short, and of some under which they may not: a
-- definition that changes its meaning fails here.
use Rattle.std.proofs.Common.{◌≡◌, ℕ, zero, suc, ◌+◌, ◌-◌, ◌^◌, ◌≤◌, min, true, false, List, [], ◌∷◌, length, replicate, refl, sym, ◌∙◌, ap, subst, Some, None, arith}
use Rattle.std.specs.Prelude.{nat_le, nat_eq, if◌then◌else◌, IsTrue, IsFalse}
use Rattle.std.proofs.lemmas.Bool.Decides.{nat_tests}
use Rattle.std.proofs.lemmas.List.{length-replicate}
use Rattle.rf_base_document.specs.declared.directions.Dir.TheVariants.{Left, Right}
use Rattle.rf_base_document.specs.Document.{Text, Newline, Hard, Concat, Nest, Align, Reset, Flatten, Choice, Only, Charge}
use Rattle.rf_base_document.specs.Render.{Piece, Word, Break, Fee}
use Rattle.rf_base_cost.specs.Cost.{Costs, piece_cost, cost_after, cost_of, PiecesAreCounted}
use Rattle.rf_base_cost.specs.Reflecting.{ReflectsOrderUpTo}
use Rattle.rf_base_cost.proofs.Dominance.{nat_le-true}
use Rattle.rf_base_cut.specs.Free.{TextsAreFree}
use Rattle.rf_base_cut.specs.Indifferent.{begins_with_break, IsFree}
use Rattle.rf_base_cut.specs.OneLine.{first_choices, flat_length, is_never_free, NothingIsLeast}
use Rattle.rf_base_cut.proofs.Examples.{counted}

-- texts that end by column 3 cost nothing, and others something
free_to_three : IsFree counted 3
free_to_three column len p = omega arith

not_to_four : IsFree counted 4 → ⊥
not_to_four h = let wrong : ◌≡◌ {A = ℕ} 1 0 = h 0 4 (omega arith) in omega (arith, wrong)

-- breaks and charges that cost so, texts nothing, and sums that stop at n
abbrev capped : ℕ → (ℕ → ℕ) → (ℕ → ℕ) → Costs ℕ
capped n newline charge = record {
  is_value = λ a. true;
  text = λ column len. 0;
  newline = newline;
  charge = charge;
  add = λ a b. min n (a + b);
  le = nat_le;
}

-- x for this number, and otherwise 1
abbrev but_for : ℕ → ℕ → ℕ
but_for number n = if nat_eq n number then 0 else 1

-- a break to the last column for which laws hold, the least charge and the greatest have to cost more than no text
break_for_nothing : NothingIsLeast (capped 9 (but_for (2 ^ 27)) (λ k. k)) → ⊥
break_for_nothing h = let wrong : IsFalse (nat_le 0 0) = h.break (2 ^ 27) (omega arith) in cc

least_charge_for_nothing : NothingIsLeast (capped 9 (λ i. 1) (but_for 1)) → ⊥
least_charge_for_nothing h = let wrong : IsFalse (nat_le 0 0) = h.charge 1 (omega arith) (omega arith) in cc

greatest_charge_for_nothing : NothingIsLeast (capped 9 (λ i. 1) (but_for 1000)) → ⊥
greatest_charge_for_nothing h = let wrong : IsFalse (nat_le 0 0) = h.charge 1000 (omega arith) (omega arith) in cc

-- and no value may be less
less_than_nothing
    : NothingIsLeast (record {
      is_value = λ a. true;
      text = λ column len. 1;
      newline = λ i. 2;
      charge = λ k. k + 1;
      add = λ a b. a + b;
      le = nat_le;
    }) → ⊥
less_than_nothing h = let wrong : IsTrue (nat_le 1 0) = h.nothing 0 refl in cc

-- a break further right and a greater charge may cost nothing, and so may a charge of nothing
abbrev to_the_last : ℕ → Costs ℕ
to_the_last n = capped n (λ i. if nat_le i (2 ^ 27) then 1 else 0) (λ k. if nat_le k 1000 then min k 1 else 0)

nothing_least : (n : ℕ) → NothingIsLeast (to_the_last n)
nothing_least n = record {
  nothing = λ a v. grind (arith, nat_tests);
  break = λ i p. grind (arith, nat_tests);
  charge = λ k p q. grind (arith, nat_tests);
}

-- each piece costs at most 1, and so pieces at most their number
piece_at_most : (n : ℕ) (piece : Piece) → piece_cost (to_the_last n) piece ≤ 1
piece_at_most n (Word column s len) = omega arith
piece_at_most n _ = grind (arith, nat_tests)

after_at_most : (n so_far : ℕ) (pieces : List Piece) → cost_after (to_the_last n) so_far pieces ≤ so_far + length pieces
unfolding cost_after
after_at_most n so_far [] = omega arith
after_at_most n so_far (piece ∷ pieces) =
    omega (arith, piece_at_most n piece, after_at_most n (min n (so_far + piece_cost (to_the_last n) piece)) pieces)

cost_at_most : (n : ℕ) (pieces : List Piece) (a : ℕ) → cost_of (to_the_last n) pieces ≡ Some a → a ≤ length pieces
cost_at_most n [] a e = cc
cost_at_most n (piece ∷ pieces) a e =
    let is : cost_after (to_the_last n) (piece_cost (to_the_last n) piece) pieces ≡ a = cc in
    omega (arith, is, piece_at_most n piece, after_at_most n (piece_cost (to_the_last n) piece) pieces)

-- so sums that stop at n reflect the order of what n pieces together cost
stopping_reflects : (n : ℕ) → ReflectsOrderUpTo (to_the_last n) n
stopping_reflects n pieces others more a b c p q r short shorter e f g less =
    let is : min n (a + b) ≤ min n (a + c) = nat_le-true (min n (a + b)) (min n (a + c)) less in
    let at_most : b ≤ c =
    omega (arith, is, cost_at_most n pieces a e, cost_at_most n others b f, cost_at_most n more c g) in
    grind (arith, nat_tests)

-- texts are free where 2^32 pieces are counted apart, and not where one less is
texts_free : TextsAreFree (to_the_last (2 ^ 32)) 9
texts_free = record {
  texts = λ column len p. refl;
  nothing = nothing_least (2 ^ 32);
  reflects = stopping_reflects (2 ^ 32);
}

breaks_counted : (n : ℕ) → PiecesAreCounted (replicate n (Break 0))
unfolding PiecesAreCounted
breaks_counted zero = tt
breaks_counted (suc n) = (omega arith, breaks_counted n)

breaks_cost : (n so_far k : ℕ) → so_far + k ≤ n → cost_after (to_the_last n) so_far (replicate k (Break 0)) ≡ so_far + k
unfolding cost_after
breaks_cost n so_far zero p = omega arith
breaks_cost n so_far (suc k) p =
    let next : min n (so_far + 1) ≡ so_far + 1 = omega arith in
    subst (λ (m : ℕ). cost_after (to_the_last n) m (replicate k (Break 0)) ≡ so_far + suc k) (sym next)
    (breaks_cost n (so_far + 1) k (omega arith) ∙ omega arith)

stopping_reflects_no_more : (m : ℕ) → ReflectsOrderUpTo (to_the_last (m + 2)) (m + 3) → ⊥
unfolding PiecesAreCounted cost_after
stopping_reflects_no_more m h =
    let one = length-replicate {A = Piece} (suc m) (Break 0) in
    let two = length-replicate {A = Piece} m (Break 0) in
    let second : cost_after (to_the_last (m + 2)) 1 (replicate (suc m) (Break 0)) ≡ m + 2 =
    breaks_cost (m + 2) 1 (suc m) (omega arith) ∙ omega arith in
    let third : cost_after (to_the_last (m + 2)) 1 (replicate m (Break 0)) ≡ m + 1 =
    breaks_cost (m + 2) 1 m (omega arith) ∙ omega arith in
    let same : min (m + 2) (1 + (m + 2)) ≤ min (m + 2) (1 + (m + 1)) = omega arith in
    let less : IsTrue (nat_le (min (m + 2) (1 + (m + 2))) (min (m + 2) (1 + (m + 1)))) = grind (arith, nat_tests) in
    let wrong = nat_le-true (m + 2) (m + 1)
    (h (Break 0 ∷ []) (Break 0 ∷ replicate (suc m) (Break 0)) (Break 0 ∷ replicate m (Break 0)) 1 (m + 2) (m + 1)
    (omega arith, tt) (omega arith, breaks_counted (suc m)) (omega arith, breaks_counted m) (omega (arith, one))
    (omega (arith, two))
    refl (ap (λ (x : ℕ). Some x) second) (ap (λ (x : ℕ). Some x) third) less) in
    omega (arith, wrong)

texts_not_free : TextsAreFree (to_the_last (2 ^ 32 - 1)) 9 → ⊥
texts_not_free h = stopping_reflects_no_more (2 ^ 32 - 3) h.reflects

-- what a core can't have begins with no break where it is flat, has no length, and may be free; a hard newline is a
-- break
what_no_core_has : (begins_with_break (Flatten Newline) ≡ false) × (begins_with_break Hard ≡ true)
    × (flat_length (Flatten (Text [] 2)) ≡ None) × (is_never_free (Flatten Newline) ≡ false)
    × (is_never_free Hard ≡ true)
unfolding begins_with_break flat_length is_never_free
what_no_core_has = (refl, refl, refl, refl, refl)

-- the first side of each choice, wherever it stands
first_of_each : first_choices (Nest 1
    (Align (Reset (Flatten (Charge 2 (Choice (Concat Newline (Only Right Hard)) (Text [] 1))))))) ≡ Left ∷ Right ∷ []
unfolding first_choices
first_of_each = refl
