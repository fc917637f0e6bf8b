-- Nothing or one space stands there.
use Rattle.std.proofs.lemmas.Result.{on_ok_weaker}
use Rattle.rf_lines.proofs.Between.{gap_nothing, gap_space}
use Rattle.rf_lines.proofs.gaps.write_wanted.Goals as goal

pub returns-in-Empty : goal.returns-in-Empty
returns-in-Empty c ts trees flat holds =
    gap_nothing c.args.writer.now ts c.args.before c.args.next c.args.want c.in_ok-separator.field-0 c.args.strip.now flat (c.in_ok-separator.ensures ts trees holds) c.in-Empty.is

pub returns-in-Space : goal.returns-in-Space
returns-in-Space c =
    on_ok_weaker c.add_space.result
    (λ added ts trees flat holds.
    gap_space c.args.writer.now ts c.args.before c.args.next c.args.want c.in_ok-separator.field-0 c.args.strip.now c.add_space.new.self flat (c.in_ok-separator.ensures ts trees holds) c.in-Space.is added)
    c.add_space.ensures
