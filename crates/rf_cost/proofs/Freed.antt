-- What the three factories count as nothing.
use Rattle.std.proofs.Common.{◌≡◌, ℕ, ◌+◌, ◌-◌, ◌*◌, ◌^◌, ◌≤◌, true, false, refl, sym, ◌∙◌, ap₂, subst, arith}
use Rattle.std.specs.Prelude.{nat_le}
use Rattle.std.proofs.lemmas.Bool.Decides.{nat_tests}
use Rattle.rf_base_cut.specs.OneLine.{NothingIsLeast}
use Rattle.rf_base_cut.specs.Free.{TextsAreFree}
use Rattle.rf_cost.specs.Factories.{overflow, square, squares, linear, lines, numbers, squares_text, squares_newline, linear_text, linear_newline}
use Rattle.rf_cost.proofs.Sums.{squares_sum_plainly, linear_sums_plainly, lines_sum_plainly}
use Rattle.rf_cost.proofs.Reflecting.{reflects}

-- up to the page width nothing is behind it
over_none : (width x : ℕ) → x ≤ width → overflow width x ≡ 0
over_none width x p = omega arith

squares_none : (width c len : ℕ) → c + len ≤ width → squares_text width c len ≡ 0
unfolding squares_text
squares_none width c len p =
    ap₂ (λ (i j : ℕ). (square i - square j) * 2 ^ 40) (over_none width (c + len) p) (over_none width c (omega arith))

linear_none : (width c len : ℕ) → c + len ≤ width → linear_text width c len ≡ 0
unfolding linear_text
linear_none width c len p =
    ap₂ (λ (i j : ℕ). (i - j) * 2 ^ 40) (over_none width (c + len) p) (over_none width c (omega arith))

-- no number is less than 0, and what is at least 1 is more
le_zero : (a : ℕ) → nat_le 0 a ≡ true
le_zero a = grind (arith, nat_tests)

not_le : (a : ℕ) → 1 ≤ a → nat_le a 0 ≡ false
not_le a h = grind (arith, nat_tests)

at_least_one : (a : ℕ) → 1 ≤ a + 1
at_least_one a = omega arith

least : (text : ℕ → ℕ → ℕ) (newline : ℕ → ℕ) → text 0 0 ≡ 0 → ((i : ℕ) → 1 ≤ newline i) →
    NothingIsLeast (numbers text newline)
least text newline e f = record {
  nothing = λ a v. subst (λ (z : ℕ). nat_le z a ≡ true) (sym e) (le_zero a);
  break = λ i p. subst (λ (z : ℕ). nat_le (newline i) z ≡ false) (sym e) (not_le (newline i) (f i));
  charge = λ k p q. subst (λ (z : ℕ). nat_le k z ≡ false) (sym e) (not_le k p);
}

pub squares_free : (width free : ℕ) → free ≤ width → TextsAreFree (squares width) free
unfolding squares_newline
squares_free width free short = record {
  texts = λ c len p. squares_none width c len (omega arith) ∙ sym (squares_none width 0 0 (omega arith));
  nothing =
      least (squares_text width) (squares_newline width) (squares_none width 0 0 (omega arith))
      (λ i. at_least_one (square (overflow width i) * 2 ^ 40));
  reflects = reflects (squares_text width) (squares_newline width) (squares_sum_plainly width);
}

pub linear_free : (width free : ℕ) → free ≤ width → TextsAreFree (linear width) free
unfolding linear_newline
linear_free width free short = record {
  texts = λ c len p. linear_none width c len (omega arith) ∙ sym (linear_none width 0 0 (omega arith));
  nothing =
      least (linear_text width) (linear_newline width) (linear_none width 0 0 (omega arith))
      (λ i. at_least_one (overflow width i * 2 ^ 40));
  reflects = reflects (linear_text width) (linear_newline width) (linear_sums_plainly width);
}

pub lines_free : (free : ℕ) → TextsAreFree lines free
lines_free free = record {
  texts = λ c len p. refl;
  nothing = least (λ c len. 0) (λ i. 1) refl (λ i. omega arith);
  reflects = reflects (λ column len. 0) (λ indentation. 1) lines_sum_plainly;
}
