-- Each stretch is one more that is accepted; what is refused behind them is the source's refusal.
use Rattle.std.proofs.Common.{rules, true}
use Rattle.std.specs.Str.{chars}
use Rattle.rf_whole.proofs.Accepted.{accepted_before, next_accepted}
use Rattle.rf_whole.proofs.PassageByPassage.{some_chars}
use Rattle.rf_whole.proofs.late.missed_late.Goals as goal

pub loop-rest-preserved : goal.loop-rest-preserved
loop-rest-preserved c =
    let rest = c.loop-rest.rest.now in
    record {
      utf8 = search rules;
      short = search rules;
      so_far = next_accepted (chars c.args.src.now) (chars rest) (chars c.in-Ok-accepted_front.left.now) c.loop-rest.invariant.so_far
          (λ none. some_chars rest c.is_empty.result (search rules) c.is_empty.ensures c.loop-rest-test.true none)
          c.in-Ok-accepted_front.ensures.accepted;
    }

pub missed_behind-requires-clause-accepted : goal.missed_behind-requires-clause-accepted
missed_behind-requires-clause-accepted c =
    let rest = c.loop-rest.rest.now in
    accepted_before true (chars c.args.src.now) (chars rest) c.loop-rest.invariant.so_far
    (λ none. some_chars rest c.is_empty.result (search rules) c.is_empty.ensures c.loop-rest-test.true none)
