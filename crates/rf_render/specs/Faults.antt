-- Why a resolution isn't rendered, where the walk over it stopped.
use Rattle.rf_walk.specs.declared.faults.LayoutError.{LayoutError}
use Rattle.rf_walk.specs.declared.faults.LayoutError.TheVariants as walk
use Rattle.rf_render.specs.declared.faults.RenderError.{RenderError}
use Rattle.rf_render.specs.declared.faults.RenderError.TheVariants.{TooLong, Memory}

-- the same of a rendering
abbrev pub render_error : LayoutError → RenderError
render_error walk.TooLong = TooLong
render_error (walk.Memory fault) = Memory fault
