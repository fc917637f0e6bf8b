-- What is too long was told so by a part.
use Rattle.std.proofs.Common.{◌≡◌, Ok, Err, Result, refl}
use Rattle.std.specs.Prelude.{IsErrOf, IsErrAnd}
use Rattle.rf_walk.specs.declared.faults.LayoutError.{LayoutError}
use Rattle.rf_walk.specs.declared.faults.LayoutError.TheVariants as layout
use Rattle.rf_resolve.specs.declared.faults.ResolveError.{ResolveError}
use Rattle.rf_resolve.specs.declared.faults.ResolveError.TheVariants as resolved
use Rattle.rf_whole.specs.declared.faults.FormatError.{FormatError}
use Rattle.rf_whole.specs.declared.faults.FormatError.TheVariants.{TooLong}
use Rattle.rf_whole.specs.Faults.{layout_fault, resolve_fault}

pub resolved_long : (e : ResolveError) → resolve_fault e ≡ TooLong → e ≡ resolved.TooLong
resolved_long resolved.TooLong is = refl
resolved_long (resolved.Memory a) is = cc

pub walked_long : (e : LayoutError) → layout_fault e ≡ TooLong → e ≡ layout.TooLong
walked_long layout.TooLong is = refl
walked_long (layout.Memory a) is = cc

-- the exit of a `?` that says too long was told so
pub told_long : {T : Type 0} (fault : FormatError) (r : Result T FormatError) → IsErrAnd r (λ e. e ≡ fault) →
    IsErrOf r TooLong → fault ≡ TooLong
told_long fault (Ok x) h is = absurd h
told_long fault (Err e) h is = cc
