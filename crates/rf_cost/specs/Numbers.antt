-- Arithmetic of overflows and of sums that stop at a greatest number.
use Rattle.std.proofs.Common.{◌≡◌, ℕ, ◌+◌, ◌-◌, ◌*◌, ◌<◌, ◌≤◌, true, ◌∙◌, ap, subst, ◌⊎◌, arith}
use Rattle.std.specs.Prelude.{min, nat_lt, nat_le}
use Rattle.std.proofs.lemmas.Bool.Decides.{nat_tests}
use Rattle.std.proofs.Math.Nat.{mul-le-mul}

pub value-below : (a m : ℕ) → nat_lt a m ≡ true → a < m
value-below a m h = grind (arith, nat_tests)

pub below-value : (a m : ℕ) → a < m → nat_lt a m ≡ true
below-value a m h = grind (arith, nat_tests)

pub le-true : (a b : ℕ) → nat_le a b ≡ true → a ≤ b
le-true a b h = grind (arith, nat_tests)

pub true-le : (a b : ℕ) → a ≤ b → nat_le a b ≡ true
true-le a b h = grind (arith, nat_tests)

pub le-total : (a b : ℕ) → (nat_le a b ≡ true) ⊎ (nat_le b a ≡ true)
le-total a b = grind (arith, nat_tests)

pub min-assoc : (a b c m : ℕ) → min (min (a + b) m + c) m ≡ min (a + min (b + c) m) m
min-assoc a b c m = omega arith

pub min-monotone : (a b c d m : ℕ) → a ≤ b → c ≤ d → min (a + c) m ≤ min (b + d) m
min-monotone a b c d m p q = omega arith

pub min-below : (a m : ℕ) → a < m → min a (m - 1) ≡ a
min-below a m p = omega arith

pub min-is-below : (a m : ℕ) → 0 < m → min a (m - 1) < m
min-is-below a m p = omega arith

-- the difference of squares, as a product
pub squares-differ : (x s : ℕ) → (x + s) * (x + s) - x * x ≡ s * (2 * x + s)
squares-differ x s = omega arith

-- a greater number that grows by no less has squares that grow by no less
squares-grow : (x s u t : ℕ) → x ≤ u → s ≤ t → (x + s) * (x + s) - x * x ≤ (u + t) * (u + t) - u * u
squares-grow x s u t p q =
    let product : s * (2 * x + s) ≤ t * (2 * u + t) = mul-le-mul q (omega arith) in
    omega (arith, product, squares-differ x s, squares-differ u t)

pub squares-grow-to : (x y u v : ℕ) → x ≤ y → x ≤ u → y - x ≤ v - u → u ≤ v → y * y - x * x ≤ v * v - u * u
squares-grow-to x y u v p q r t =
    let s : ℕ = y - x in
    let w : ℕ = v - u in
    let y-is : x + s ≡ y = omega arith in
    let v-is : u + w ≡ v = omega arith in
    subst (λ (n : ℕ). n * n - x * x ≤ v * v - u * u) y-is
    (subst (λ (n : ℕ). (x + s) * (x + s) - x * x ≤ n * n - u * u) v-is (squares-grow x s u w q r))

pub square-grows : (x y : ℕ) → x ≤ y → x * x ≤ y * y
square-grows x y p = mul-le-mul p p

-- what is added between three rising numbers
pub between-adds : (x y z k : ℕ) → x ≤ y → y ≤ z → (z - x) * k ≡ (y - x) * k + (z - y) * k
between-adds x y z k p q =
    let u : ℕ = y - x in
    let v : ℕ = z - y in
    let whole : z - x ≡ u + v = omega arith in
    let spread : (u + v) * k ≡ u * k + v * k = omega arith in
    ap (λ (n : ℕ). n * k) whole ∙ spread

pub none-adds : (x k : ℕ) → (x - x) * k ≡ 0
none-adds x k =
    let none : x - x ≡ 0 = omega arith in
    ap (λ (n : ℕ). n * k) none ∙ (let zero_times : 0 * k ≡ 0 = omega arith in zero_times)
