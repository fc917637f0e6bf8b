-- The three factories keep the laws.
use Rattle.std.proofs.Common.{◌≡◌, ℕ, ◌+◌, ◌-◌, ◌*◌, ◌^◌, ◌<◌, ◌≤◌, refl, sym, ◌∙◌, ap, subst, arith}
use Rattle.std.specs.Prelude.{min}
use Rattle.std.proofs.Math.Nat.{mul-le-mul, mul-le-mul_right}
use Rattle.rf_base_cost.specs.Cost.{IsColumn, Lawful}
use Rattle.rf_cost.specs.Factories.{overflow, numbers, square, squares_text, squares_newline, squares, linear_text, linear_newline, linear, lines}
use Rattle.rf_cost.specs.Numbers.{value-below, below-value, le-true, true-le, le-total, min-assoc, min-monotone, min-below, min-is-below, squares-grow-to, square-grows, between-adds, none-adds}

-- costs that are numbers are lawful where those of texts and breaks are
record Counts (text : ℕ → ℕ → ℕ) (newline : ℕ → ℕ) : Type 0 where
  text_small : (column len : ℕ) → IsColumn column → IsColumn len → text column len < 2 ^ 128
  newline_small : (indentation : ℕ) → IsColumn indentation → newline indentation < 2 ^ 128
  none : (column : ℕ) → text column 0 ≡ 0
  cut : (column a b : ℕ) → text column (a + b) ≡ text column a + text (column + a) b
  right : (column other len : ℕ) → column ≤ other → text column len ≤ text other len
  deep : (indentation other : ℕ) → indentation ≤ other → newline indentation ≤ newline other

-- a cost of nothing can be left out
neutral : (n a : ℕ) → n ≡ 0 → a < 2 ^ 128 → (min (n + a) (2 ^ 128 - 1) ≡ a) × (min (a + n) (2 ^ 128 - 1) ≡ a)
neutral n a e p = (
  let left : n + a ≡ a = omega arith in ap (λ (x : ℕ). min x (2 ^ 128 - 1)) left ∙ min-below a (2 ^ 128) p,
  (let right : a + n ≡ a = omega arith in ap (λ (x : ℕ). min x (2 ^ 128 - 1)) right ∙ min-below a (2 ^ 128) p),
)

numbers_lawful : (text : ℕ → ℕ → ℕ) (newline : ℕ → ℕ) → Counts text newline → Lawful (numbers text newline)
numbers_lawful text newline counts = record {
  text_is_value = λ column len p q. below-value (text column len) (2 ^ 128) (counts.text_small column len p q);
  newline_is_value = λ i p. below-value (newline i) (2 ^ 128) (counts.newline_small i p);
  charge_is_value = λ k p. below-value k (2 ^ 128) (omega arith);
  add_is_value =
      λ a b p q. below-value (min (a + b) (2 ^ 128 - 1)) (2 ^ 128) (min-is-below (a + b) (2 ^ 128) (omega arith));
  total = λ a b p q. le-total a b;
  transitive = λ a b c p q r h k.
      let one : a ≤ b = le-true a b h in
      let two : b ≤ c = le-true b c k in
      true-le a c (omega arith);
  antisymmetric = λ a b p q h k.
      let one : a ≤ b = le-true a b h in
      let two : b ≤ a = le-true b a k in
      omega arith;
  associative = λ a b c p q r. min-assoc a b c (2 ^ 128 - 1);
  monotone =
      λ a b c d p q r s h k. true-le (min (a + c) (2 ^ 128 - 1)) (min (b + d) (2 ^ 128 - 1))
      (min-monotone a b c d (2 ^ 128 - 1) (le-true a b h) (le-true c d k));
  no_text = λ column p a v. neutral (text column 0) a (counts.none column) (value-below a (2 ^ 128) v);
  parts = λ column a b p.
      let left : column ≤ 2 ^ 27 = omega arith in
      let whole : a + b ≤ 2 ^ 27 = omega arith in
      let small : text column (a + b) < 2 ^ 128 = counts.text_small column (a + b) left whole in
      let sum : text column (a + b) ≡ text column a + text (column + a) b = counts.cut column a b in
      let stays : min (text column a + text (column + a) b) (2 ^ 128 - 1) ≡ text column a + text (column + a) b =
      min-below (text column a + text (column + a) b) (2 ^ 128) (subst (λ (n : ℕ). n < 2 ^ 128) sum small) in
      sum ∙ sym stays;
  further_right = λ column other len p q. true-le (text column len) (text other len) (counts.right column other len p);
  deeper = λ i j p q. true-le (newline i) (newline j) (counts.deep i j p);
  no_charge = λ a v. neutral 0 a refl (value-below a (2 ^ 128) v);
  dearer = λ k other p q. true-le k other p;
}

square_small : (n : ℕ) → n ≤ 2 ^ 28 → n * n ≤ 2 ^ 56
square_small n p = mul-le-mul p p

squares_counts : (width : ℕ) → Counts (squares_text width) (squares_newline width)
unfolding squares_text squares_newline
squares_counts width = record {
  text_small = λ column len p q.
      let far : overflow width (column + len) ≤ 2 ^ 28 = omega arith in
      let small : square (overflow width (column + len)) ≤ 2 ^ 56 = square_small (overflow width (column + len)) far in
      omega (arith, small);
  newline_small = λ i p.
      let far : overflow width i ≤ 2 ^ 28 = omega arith in
      let small : square (overflow width i) ≤ 2 ^ 56 = square_small (overflow width i) far in
      omega (arith, small);
  none = λ column.
      let same : column + 0 ≡ column = omega arith in
      ap (λ (n : ℕ). (square (overflow width n) - square (overflow width column)) * 2 ^ 40) same
      ∙ none-adds (square (overflow width column)) (2 ^ 40);
  cut = λ column a b.
      let same : column + (a + b) ≡ column + a + b = omega arith in
      let first : square (overflow width column) ≤ square (overflow width (column + a)) =
      square-grows (overflow width column) (overflow width (column + a)) (omega arith) in
      let second : square (overflow width (column + a)) ≤ square (overflow width (column + a + b)) =
      square-grows (overflow width (column + a)) (overflow width (column + a + b)) (omega arith) in
      ap (λ (n : ℕ). (square (overflow width n) - square (overflow width column)) * 2 ^ 40) same
      ∙ between-adds (square (overflow width column)) (square (overflow width (column + a)))
      (square (overflow width (column + a + b))) (2 ^ 40) first second;
  right = λ column other len p.
      mul-le-mul_right (2 ^ 40)
      (squares-grow-to (overflow width column) (overflow width (column + len)) (overflow width other)
      (overflow width (other + len))
      (omega arith) (omega arith) (omega arith) (omega arith));
  deep = λ i j p.
      let grows : square (overflow width i) ≤ square (overflow width j) =
      square-grows (overflow width i) (overflow width j) (omega arith) in
      omega (arith, grows);
}

pub squares_lawful : (width : ℕ) → Lawful (squares width)
squares_lawful width = numbers_lawful (squares_text width) (squares_newline width) (squares_counts width)

linear_counts : (width : ℕ) → Counts (linear_text width) (linear_newline width)
unfolding linear_text linear_newline
linear_counts width = record {
  text_small = λ column len p q. omega arith;
  newline_small = λ i p. omega arith;
  none = λ column. omega arith;
  cut = λ column a b. omega arith;
  right = λ column other len p. omega arith;
  deep = λ i j p. omega arith;
}

pub linear_lawful : (width : ℕ) → Lawful (linear width)
linear_lawful width = numbers_lawful (linear_text width) (linear_newline width) (linear_counts width)

lines_counts : Counts (λ column len. 0) (λ indentation. 1)
lines_counts = record {
  text_small = λ column len p q. omega arith;
  newline_small = λ i p. omega arith;
  none = λ column. refl;
  cut = λ column a b. refl;
  right = λ column other len p. omega arith;
  deep = λ i j p. omega arith;
}

pub lines_lawful : Lawful lines
lines_lawful = numbers_lawful (λ column len. 0) (λ indentation. 1) lines_counts
