-- The slots of the file are laid out, and their lines are the whole.
use Rattle.std.proofs.Common.{Err, ap}
use Rattle.rf_base_file.specs.LaidOut.{kept}
use Rattle.rf_style.specs.StyleOf.{seen}
use Rattle.rf_whole.specs.Whole.{sought}
use Rattle.rf_whole.proofs.Formed.{width_is_column}
use Rattle.rf_whole.proofs.TooLong.{told_long}
use Rattle.rf_whole.proofs.WholeFile.{file_tops, whole_of, past_of}
use Rattle.rf_whole.proofs.formatting.format.Goals as goal

pub tops_lines-requires-clause-tops : goal.tops_lines-requires-clause-tops
tops_lines-requires-clause-tops g c κs ls =
    let style = seen c.args.style.now in
    let t = c.requires.tree in
    (kept style t.1, t.2, file_tops style c.args.tree.now t.0 t.1 t.2 c.requires.style t.3)

pub returns-in_err-lines-clause-too_long : goal.returns-in_err-lines-clause-too_long
returns-in_err-lines-clause-too_long g c is source ts trees h =
    let style = seen c.args.style.now in
    past_of (sought (g.F.Factory.costs c.args.factory.now) c.args.limit) style source ts trees h.itemised h.treed
    (c.in_err-lines.ensures.too_long (ap Err (told_long _ _ c.from_residual.ensures.1 is)) (kept style ts) trees (file_tops style c.args.tree.now source ts trees c.requires.style h))

pub returns-clause-whole : goal.returns-clause-whole
returns-clause-whole g c source ts trees h =
    let style = seen c.args.style.now in
    whole_of (sought (g.F.Factory.costs c.args.factory.now) c.args.limit) style source ts trees _ _ _ c.requires.style h.itemised h.treed ((g.met.F.Factory g.world.𝓛 g.world.𝓜 g.world.𝓡 ((λ s x. x), (λ x. x), (λ x. x), λ x. x)).lawful c.args.factory.now)
    (width_is_column c.args.limit c.requires.width) (c.in_ok-lines.ensures.lines (kept style ts) trees (file_tops style c.args.tree.now source ts trees c.requires.style h))
