-- The text so far, and the forms that are left, are the sample.
use Rattle.std.proofs.Common.{◌≡◌, ◌-◌, ◌++◌, string_bytes}
use Rattle.rf_sample.specs.Sample.{forms_from, sample}
use Rattle.rf_sample.proofs.sampling.sample.Given as goal

abbrev pub invariant-loop-k : goal.invariant-loop-k
invariant-loop-k l = string_bytes l.text ++ forms_from l.k (l.fn.n - l.k) ≡ sample l.fn.n
