-- No lines have no text.
use Rattle.std.proofs.Common.{[], true, refl, ap, ◌∙◌}
use Rattle.std.specs.Str.{chars}
use Rattle.std.proofs.lemmas.Str.{chars-nil}
use Rattle.rf_whole.proofs.Together.{no_lines, lines_same}
use Rattle.rf_whole.proofs.lines.no_lines.Goals as goal

pub returns : goal.returns
returns g c w =
    let costs = g.F.Factory.costs c.args.factory.now in
    lines_same costs w [] [] _ [] _ (costs.text 0 0) _ true true 0 0 0 0 c.new.ensures.items (ap chars c.new-2.ensures.bytes ∙ chars-nil) c.text.ensures refl refl refl
    (no_lines costs w)
