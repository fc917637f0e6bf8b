-- What was taken of the told bytes of a source, over several reads.
use Rattle.std.proofs.Common.{◌≡◌, ℕ, ◌+◌, ◌-◌, ◌<◌, ◌≤◌, ◌⊎◌, inl, inr, List, Option, Some, None, IfSome, ◌↔◌, length, drop, refl, sym, ap, ◌∙◌, subst, arith, length-append, length-drop}
use Rattle.std.proofs.Math.Seq.{drop-append-add}
use Rattle.std.specs.Io.KnownBytes.{Consumes}
use Rattle.rf_edges.specs.Bytes.{Takes, TakesAtMost}

-- first these bytes were consumed, and then n more were taken
pub Takes-more : (a b c : Option (List ℕ)) (bs : List ℕ) (n : ℕ) → Consumes a b bs → Takes b c n → Takes a c (length bs + n)
Takes-more None b c bs n p q = tt
Takes-more (Some xs) None c bs n p q = absurd p
Takes-more (Some xs) (Some ys) c bs n p q =
    (omega (arith, ap length p, length-append bs ys, q.0), q.1 ∙ ap Some (sym (ap (drop (length bs + n)) p ∙ drop-append-add bs ys n)))

-- some bytes within the limit were consumed, and then those up to one past the limit were taken
Takes-to : (a b c : Option (List ℕ)) (bs : List ℕ) (n limit : ℕ) → n ≡ length bs → n ≤ limit → Consumes a b bs → Takes b c (limit + 1 - n) → Takes a c (limit + 1)
Takes-to a b c bs n limit e l p q = subst (Takes a c) (omega (arith, e, l)) (Takes-more a b c bs (limit + 1 - n) p q)

-- some bytes within the limit were consumed, and then others up to the limit were taken
Takes-within : (a b c : Option (List ℕ)) (bs : List ℕ) (n limit : ℕ) → n ≡ length bs → n ≤ limit → Consumes a b bs → TakesAtMost b c (limit - n) → TakesAtMost a c limit
Takes-within a b c bs n limit e l p q = (length bs + q.0, omega (arith, e, l, q.1), Takes-more a b c bs q.0 p q.2)

-- two numbers of bytes that were taken are one
Takes-once : (xs ys : List ℕ) (k n : ℕ) → k ≤ length xs → n ≤ length xs → ys ≡ drop k xs → ys ≡ drop n xs → k ≡ n
Takes-once xs ys k n p q e f = omega (arith, p, q, ap length e, ap length f, length-drop k xs, length-drop n xs)

-- fewer bytes were taken than would be by n
Takes-fewer : (xs : List ℕ) (b : Option (List ℕ)) (m n : ℕ) → m < n → TakesAtMost (Some xs) b m → Takes (Some xs) b n → ⊥
Takes-fewer xs b m n l p q =
    let same : Some (drop p.0 xs) ≡ Some (drop n xs) = sym p.2.1 ∙ q.1 in
    let rest : drop p.0 xs ≡ drop n xs = cc in
    let count = Takes-once xs (drop p.0 xs) p.0 n p.2.0 q.0 refl rest in
    omega (arith, l, p.1, count)

-- a refusal that comes only where n bytes were taken, and without which fewer are, comes exactly there
pub Takes-exactly : (a b : Option (List ℕ)) (P : Type 0) (m n : ℕ) → m < n → (P → Takes a b n) → P ⊎ TakesAtMost a b m → IfSome a (λ _. P ↔ Takes a b n)
Takes-exactly None b P m n l p q = tt
Takes-exactly (Some xs) b P m n l p (inl h) = (p, λ _. h)
Takes-exactly (Some xs) b P m n l p (inr h) = (p, λ taken. absurd (Takes-fewer xs b m n l h taken))

-- after some bytes within the limit, a last read took the byte past it exactly where Q, which is P of another result
pub Takes-limit : (a b c : Option (List ℕ)) (bs : List ℕ) (P Q : Type 0) (n limit : ℕ) → n ≡ length bs → n ≤ limit → Consumes a b bs
    → (P → Takes b c (limit + 1 - n)) → P ⊎ TakesAtMost b c (limit - n) → (P → Q) → (Q → P) → IfSome a (λ _. Q ↔ Takes a c (limit + 1))
Takes-limit a b c bs P Q n limit e l p q r to from = Takes-exactly a c Q limit (limit + 1) (omega arith) (λ h. Takes-to a b c bs n limit e l p (q (from h))) (elim r [
  | inl h ↦ inl (to h)
  | inr h ↦ inr (Takes-within a b c bs n limit e l p h)
])

-- the same, of the number of bytes that were taken
pub Takes-bounded : (a b c : Option (List ℕ)) (bs : List ℕ) (P : Type 0) (n limit : ℕ) → n ≡ length bs → n ≤ limit → Consumes a b bs
    → (P → Takes b c (limit + 1 - n)) → P ⊎ TakesAtMost b c (limit - n) → TakesAtMost a c (limit + 1)
Takes-bounded a b c bs P n limit e l p q (inl h) = (limit + 1, omega arith, Takes-to a b c bs n limit e l p (q h))
Takes-bounded a b c bs P n limit e l p q (inr h) = let some = Takes-within a b c bs n limit e l p h in (some.0, omega (arith, some.1), some.2)
