-- The run's plain characters, and what is behind it from there on.
use Rattle.std.proofs.Common.{Some, refl}
use Rattle.std.specs.Str.{chars}
use Rattle.rf_lexer.proofs.Cuts.{run_past}
use Rattle.rf_lexer.proofs.runs.behind_run.Goals as goal

pub returns-then-ends_at_once : goal.returns-then-ends_at_once
returns-then-ends_at_once c =
    run_past (chars c.args.text.now) (chars c.past_ascii-rest.result.now) (Some c.past_ascii-rest.result) c.past_ascii-rest.ensures (rw (c.ends_at_once.ensures c.if-ends_at_once.true) refl)

pub returns-else-ends_at_once : goal.returns-else-ends_at_once
returns-else-ends_at_once c =
    run_past (chars c.args.text.now) (chars c.past_ascii-rest.result.now) c.behind_any_run.result c.past_ascii-rest.ensures c.behind_any_run.ensures
