-- What was put before a refusal stands there.
use Rattle.std.proofs.Common.{◌∙◌, take}
use Rattle.rf_rows.proofs.rows.push_each.Goals as goal

pub returns-in_err-push-clause-kept : goal.returns-in_err-push-clause-kept
returns-in_err-push-clause-kept c =
    (take c.loop-turn.turn-index c.args.more.now, c.in_err-push.ensures.items ∙ c.loop-turn.invariant.so_far)
