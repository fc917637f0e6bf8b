-- An outside whose counts are the constant 0 has no fault.
use Rattle.std.proofs.Common.{List, inl, inr, arith}
use Rattle.std.specs.Global.{Global}
use Rattle.std.specs.Prelude.{String}
use Rattle.rf_edges.specs.Faults.{Rose}
use Rattle.rf_top.specs.Running.{ReadFailed}

pub none_rose : Rose 0 0 → ⊥
none_rose (inl h) = omega (arith, h)
none_rose (inr h) = omega (arith, h)

pub no_read_failed : (words : List (String Global)) → ReadFailed words 0 0 (λ _. 0) (λ _. 0) → ⊥
no_read_failed words (inl h) = none_rose h
no_read_failed words (inr h) = none_rose h.2
