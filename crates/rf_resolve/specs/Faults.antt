-- Why no resolution is chosen.
use Rattle.rf_walk.specs.declared.faults.LayoutError.{LayoutError}
use Rattle.rf_walk.specs.declared.faults.LayoutError.TheVariants as layout
use Rattle.rf_resolve.specs.declared.faults.ResolveError.{ResolveError}
use Rattle.rf_resolve.specs.declared.faults.ResolveError.TheVariants.{TooLong, Memory}

-- why a resolution that can't be laid out isn't chosen
abbrev pub fault_of : LayoutError → ResolveError
fault_of layout.TooLong = TooLong
fault_of (layout.Memory e) = Memory e
