-- Where a line may stand, one space may.
use Rattle.std.proofs.Common.{refl}
use Rattle.std.proofs.lemmas.Result.{on_ok_weaker}
use Rattle.rf_base_tree.specs.declared.separators.Want.TheVariants as want
use Rattle.rf_base_tree.specs.declared.separators.Separator.TheVariants as separator
use Rattle.rf_lines.proofs.Between.{gap_space, as_space}
use Rattle.rf_lines.proofs.gaps.write_space.Goals as goal

pub returns-in-Line-clause-written : goal.returns-in-Line-clause-written
returns-in-Line-clause-written c =
    on_ok_weaker c.add_space.result
    (λ added ts trees flat holds.
    gap_space c.args.writer.now ts c.args.before c.args.next want.Space separator.Space c.args.strip.now c.add_space.new.self flat
    (as_space ts c.args.before c.args.next c.in_ok-separator.field-0 (c.in_ok-separator.ensures ts trees holds) c.in-Line.is) refl added)
    c.add_space.ensures
