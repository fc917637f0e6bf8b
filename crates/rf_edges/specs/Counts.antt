-- Counts of faults over two steps, one after the other: lemmas for whoever makes several calls.
use Rattle.std.proofs.Common.{ℕ, inl, inr, arith}
use Rattle.rf_edges.specs.Faults.{Rose, Lasts}

pub Lasts-trans : (a b c : ℕ) → Lasts a b → Lasts b c → Lasts a c
Lasts-trans a b c p q = (omega (arith, p.0, q.0), λ h. q.1 (p.1 h))

-- a count that rose at last rose in all
pub Rose-after : (a b c : ℕ) → Lasts a b → Rose b c → Rose a c
Rose-after a b c p (inl h) = inl (omega (arith, p.0, h))
Rose-after a b c p (inr h) = inr h
