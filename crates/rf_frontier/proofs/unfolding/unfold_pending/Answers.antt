-- Each turn takes one step into the way that comes next.
use Rattle.std.proofs.Common.{◌≡◌, ◌+◌, ◌<◌, ◌++◌, length, refl, ◌∙◌, arith}
use Rattle.rf_frontier.specs.Ways.{choices_of}
use Rattle.rf_frontier.specs.Pending.{choices_to_come, Unfolds}
use Rattle.rf_frontier.proofs.ToCome.{each-pop, popped_same, nothing_pending, true_holds, false_holds, goes_past, is_within}
use Rattle.rf_frontier.proofs.unfolding.unfold_pending.Goals as goal

pub turn-requires-clause-next : goal.turn-requires-clause-next
turn-requires-clause-next c = (each-pop c.args.hows.now c.pop.new.self.items c.loop-next.pending.items c.in-Some.next c.in-Some.ensures.items c.loop-next.invariant.each).0

pub turn-requires-clause-some : goal.turn-requires-clause-some
turn-requires-clause-some c = (each-pop c.args.hows.now c.pop.new.self.items c.loop-next.pending.items c.in-Some.next c.in-Some.ensures.items c.loop-next.invariant.each).1

pub turn-requires-clause-choices : goal.turn-requires-clause-choices
turn-requires-clause-choices c = (each-pop c.args.hows.now c.pop.new.self.items c.loop-next.pending.items c.in-Some.next c.in-Some.ensures.items c.loop-next.invariant.each).2

pub returns-then-not-branch-clause-fits : goal.returns-then-not-branch-clause-fits
returns-then-not-branch-clause-fits c =
    let past = false_holds c.in_ok-turn.field-0 (c.args.limit < length c.loop-next.into.items + length (choices_of c.args.hows.now c.in-Some.next.0) + length (choices_to_come c.args.hows.now c.pop.new.self.items)) c.if-not-branch.true c.in_ok-turn.ensures.past in (
      λ h. cc,
      λ h. absurd (goes_past c.loop-next.into.items (choices_of c.args.hows.now c.in-Some.next.0) (choices_to_come c.args.hows.now c.pop.new.self.items)
          c.args.into.now.items (choices_to_come c.args.hows.now c.args.ways.items) c.args.limit (popped_same c.args.hows.now c.in-Some.next c.loop-next.pending.items c.pop.new.self.items c.loop-next.into.items (c.args.into.now.items ++ choices_to_come c.args.hows.now c.args.ways.items) c.in-Some.ensures.items c.loop-next.invariant.same) past h),
    )

pub loop-next-preserved : goal.loop-next-preserved
loop-next-preserved c =
    let done = true_holds c.in_ok-turn.field-0 (Unfolds c.args.hows.now (choices_of c.args.hows.now c.in-Some.next.0) c.pop.new.self.items c.turn.new.pending.items c.loop-next.into.items c.turn.new.into.items c.args.limit) c.if-not-branch.false c.in_ok-turn.ensures.unfolds in
    record {
      same = done.same ∙ (popped_same c.args.hows.now c.in-Some.next c.loop-next.pending.items c.pop.new.self.items c.loop-next.into.items (c.args.into.now.items ++ choices_to_come c.args.hows.now c.args.ways.items) c.in-Some.ensures.items c.loop-next.invariant.same);
      each = done.each;
      room = done.room;
    }

pub returns-clause-choices : goal.returns-clause-choices
returns-clause-choices c =
    let none : length c.loop-next.pending.items ≡ 0 = omega (arith, c.in_default.ensures.cases.0) in
    nothing_pending c.args.hows.now c.loop-next.pending.items c.loop-next.into.items (c.args.into.now.items ++ choices_to_come c.args.hows.now c.args.ways.items) none c.loop-next.invariant.same

pub returns-clause-fits : goal.returns-clause-fits
returns-clause-fits c =
    let none : length c.loop-next.pending.items ≡ 0 = omega (arith, c.in_default.ensures.cases.0) in
    let whole = nothing_pending c.args.hows.now c.loop-next.pending.items c.loop-next.into.items (c.args.into.now.items ++ choices_to_come c.args.hows.now c.args.ways.items) none c.loop-next.invariant.same in (
      λ _. is_within c.loop-next.into.items c.args.into.now.items (choices_to_come c.args.hows.now c.args.ways.items) c.args.limit whole (omega (arith, c.loop-next.invariant.room)),
      λ _. refl,
    )
