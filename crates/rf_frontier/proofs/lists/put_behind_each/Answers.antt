-- Each turn of the loop puts the choices before those of one more measure.
use Rattle.std.proofs.Common.{◌<◌, length, refl, arith, rules}
use Rattle.rf_frontier.proofs.Ways.{keeps_then}
use Rattle.rf_frontier.proofs.Behind.{behind_begins, behind_turn, in_keeps, next_belongs}
use Rattle.rf_frontier.proofs.lists.put_behind_each.Goals as goal

pub loop-at-init : goal.loop-at-init
loop-at-init g c = record {
  rewaying = behind_begins c.args.hows.now c.args.before c.args.measures.now;
  in_list = omega arith;
  few_more = omega arith;
}

pub behind-requires-clause-before : goal.behind-requires-clause-before
behind-requires-clause-before g c = in_keeps c.args.hows.now c.loop-at.hows c.args.before c.loop-at.invariant.rewaying.3 c.requires.before

pub behind-requires-clause-id : goal.behind-requires-clause-id
behind-requires-clause-id g c =
    next_belongs c.args.hows.now c.loop-at.hows c.args.before c.args.measures.now c.loop-at.measures c.loop-at.at c.index-measures-at.result
    c.requires.belong (search rules) c.index-measures-at.is c.loop-at.invariant.rewaying

pub returns-in_err-how-clause-older : goal.returns-in_err-how-clause-older
returns-in_err-how-clause-older g c = keeps_then c.args.hows.now c.loop-at.hows c.behind.new.self c.loop-at.invariant.rewaying.3 c.behind.ensures.older

pub loop-at-preserved : goal.loop-at-preserved
loop-at-preserved g c =
    let here : c.loop-at.at < length c.loop-at.measures = search rules in
    record {
      rewaying = behind_turn c.args.hows.now c.loop-at.hows c.behind.new.self c.args.before c.args.measures.now c.loop-at.measures _ c.loop-at.at c.index-measures-at.result _ c.in_ok-how.how
          c.requires.before c.requires.belong here c.index-measures-at.is c.loop-at.invariant.rewaying c.behind.ensures.older c.in_ok-how.ensures.in_ways c.in_ok-how.ensures.choices refl refl;
      in_list = search rules;
      few_more = omega (arith, c.behind.ensures.few_more);
    }
