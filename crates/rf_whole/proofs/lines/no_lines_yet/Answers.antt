-- Room changes nothing of the lines.
use Rattle.std.proofs.Common.{[], refl, ap}
use Rattle.std.specs.Str.{chars}
use Rattle.rf_whole.proofs.Together.{lines_same}
use Rattle.rf_whole.proofs.lines.no_lines_yet.Goals as goal

pub returns : goal.returns
returns g c = λ w.
    lines_same (g.F.Factory.costs c.args.factory.now) w [] _ _ _ _ _ _ _ _ _ _ _ _ refl (ap chars c.reserve.ensures.bytes) refl refl refl refl (c.no_lines-lines.ensures w)
