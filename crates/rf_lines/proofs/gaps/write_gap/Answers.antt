-- In place of a line stands a space, and else what is wanted.
use Rattle.std.proofs.Common.{sym, subst}
use Rattle.std.specs.Prelude.{OnOk}
use Rattle.rf_base_tree.specs.declared.separators.Want.{Want}
use Rattle.rf_lines.specs.Nodes.{WritesGap}
use Rattle.rf_lines.specs.Written.{spaced}
use Rattle.rf_lines.proofs.gaps.write_gap.Goals as goal

pub returns-in-Line-clause-written : goal.returns-in-Line-clause-written
returns-in-Line-clause-written c =
    subst (λ (w : Want). OnOk c.write_space.result (WritesGap c.args.writer.now c.args.before c.args.next (spaced w) c.args.strip.now c.write_space.new.strip))
    (sym c.in-Line.is) c.write_space.ensures.written

pub returns-in-Nothing-clause-written : goal.returns-in-Nothing-clause-written
returns-in-Nothing-clause-written c =
    subst (λ (w : Want). OnOk c.write_wanted.result (WritesGap c.args.writer.now c.args.before c.args.next (spaced w) c.args.strip.now c.write_wanted.new.strip))
    (sym c.in-Nothing.is) c.write_wanted.ensures

pub returns-in-Space-clause-written : goal.returns-in-Space-clause-written
returns-in-Space-clause-written c =
    subst (λ (w : Want). OnOk c.write_wanted-in-Space.result (WritesGap c.args.writer.now c.args.before c.args.next (spaced w) c.args.strip.now c.write_wanted-in-Space.new.strip))
    (sym c.in-Space.is) c.write_wanted-in-Space.ensures
