-- Each turn puts the frontier of the key on top, or goes on to one that it needs.
use Rattle.std.proofs.Common.{◌≡◌, ◌∷◌, ◌++◌, [], ◌≤◌, ◌+◌, length, ◌∙◌, ap, arith}
use Rattle.rf_frontier.proofs.Ways.{keeps_same, keeps_then}
use Rattle.rf_memo.specs.Memo.{found}
use Rattle.rf_resolve.specs.Gaps.{gaps}
use Rattle.rf_resolve.proofs.Parts.{memo_later}
use Rattle.rf_resolve.proofs.Fills.{needs_turn, put_turn, top_asked, some_gap, first_missing, none_paid, gains_holds, same_holds, paid_by_gap, within_gaps, unpaid_still}
use Rattle.rf_resolve.proofs.filling.fill.Goals as goal

pub loop-top-init : goal.loop-top-init
loop-top-init g c =
    let one : c.push.new.self.items ≡ c.args.key ∷ [] = c.in_ok-push.ensures.items ∙ ap (λ l. l ++ c.args.key ∷ []) c.new-pending.ensures.items in
    let begins = first_missing _ c.args.setting.now.limit c.args.memo.now c.args.key c.push.new.self.items one c.requires.asked c.if-is_known.ensures.missing in
    record {
      holds = c.requires.holds;
      older = keeps_same c.args.hows.now;
      missing = begins.0;
      awaited = begins.1;
      paid = none_paid c.args.setting.now.limit _ c.args.steps.now;
    }

pub frontier_or_need-requires-clause-asked : goal.frontier_or_need-requires-clause-asked
frontier_or_need-requires-clause-asked g c = (top_asked _ _ c.loop-top.memo c.loop-top.pending.items c.pop.new.self.items c.in-Some.top c.in-Some.ensures.items c.loop-top.invariant.missing).0

pub returns-in_err-part-clause-holds : goal.returns-in_err-part-clause-holds
returns-in_err-part-clause-holds g c = memo_later _ _ _ c.loop-top.hows _ c.loop-top.memo c.frontier_or_need.ensures.older c.loop-top.invariant.holds

pub returns-in_err-part-clause-older : goal.returns-in_err-part-clause-older
returns-in_err-part-clause-older g c = keeps_then c.args.hows.now c.loop-top.hows _ c.loop-top.invariant.older c.frontier_or_need.ensures.older

pub returns-in_err-part-clause-steps : goal.returns-in_err-part-clause-steps
returns-in_err-part-clause-steps g c =
    let top = top_asked _ _ c.loop-top.memo c.loop-top.pending.items c.pop.new.self.items c.in-Some.top c.in-Some.ensures.items c.loop-top.invariant.missing in
    within_gaps c.args.setting.now.limit _ _ c.args.steps.now c.loop-top.steps c.frontier_or_need.new.steps
    (some_gap _ c.args.setting.now.limit c.loop-top.memo c.in-Some.top top.0 top.1) c.loop-top.invariant.paid c.frontier_or_need.ensures.steps

pub loop-top-preserved-in-Continue-branch-5 : goal.loop-top-preserved-in-Continue-branch-5
loop-top-preserved-in-Continue-branch-5 g c =
    let turn = needs_turn _ c.args.setting.now.limit c.loop-top.memo c.args.key c.loop-top.pending.items c.pop.new.self.items c.push-in-Needs.new.self.items c.push-in-Needs-2.new.self.items c.in-Some.top c.in-Needs.part
    c.in-Some.ensures.items c.in_ok-push-in-Needs.ensures.items c.in_ok-push-in-Needs-2.ensures.items (rw c.in-Needs.is at c.in_ok-part.ensures.answer) c.loop-top.invariant.missing c.loop-top.invariant.awaited in
    record {
      holds = memo_later _ _ _ c.loop-top.hows _ c.loop-top.memo c.frontier_or_need.ensures.older c.loop-top.invariant.holds;
      older = keeps_then c.args.hows.now c.loop-top.hows _ c.loop-top.invariant.older c.frontier_or_need.ensures.older;
      missing = turn.0;
      awaited = turn.1;
      paid = unpaid_still c.args.setting.now.limit _ _ c.args.steps.now c.loop-top.steps c.frontier_or_need.new.steps (rw c.in-Needs.is at c.in_ok-part.ensures.unpaid) c.loop-top.invariant.paid;
    }

pub loop-top-smaller-in-Continue-branch-5 : goal.loop-top-smaller-in-Continue-branch-5
loop-top-smaller-in-Continue-branch-5 g c =
    let turn = needs_turn _ c.args.setting.now.limit c.loop-top.memo c.args.key c.loop-top.pending.items c.pop.new.self.items c.push-in-Needs.new.self.items c.push-in-Needs-2.new.self.items c.in-Some.top c.in-Needs.part
    c.in-Some.ensures.items c.in_ok-push-in-Needs.ensures.items c.in_ok-push-in-Needs-2.ensures.items (rw c.in-Needs.is at c.in_ok-part.ensures.answer) c.loop-top.invariant.missing c.loop-top.invariant.awaited in
    let more : length c.push-in-Needs-2.new.self.items ≡ length c.loop-top.pending.items + 1 = turn.2 in
    let short : length c.push-in-Needs-2.new.self.items ≤ length c.args.setting.now.core.now.nodes = turn.3 in
    omega (arith, more, short)

pub returns-in_err-push-in-Needs-2-clause-holds : goal.returns-in_err-push-in-Needs-2-clause-holds
returns-in_err-push-in-Needs-2-clause-holds g c = memo_later _ _ _ c.loop-top.hows _ c.loop-top.memo c.frontier_or_need.ensures.older c.loop-top.invariant.holds

pub returns-in_err-push-in-Needs-2-clause-older : goal.returns-in_err-push-in-Needs-2-clause-older
returns-in_err-push-in-Needs-2-clause-older g c = keeps_then c.args.hows.now c.loop-top.hows _ c.loop-top.invariant.older c.frontier_or_need.ensures.older

pub put-requires : goal.put-requires
put-requires g c = (top_asked _ _ c.loop-top.memo c.loop-top.pending.items c.pop.new.self.items c.in-Some.top c.in-Some.ensures.items c.loop-top.invariant.missing).1

pub loop-top-preserved : goal.loop-top-preserved
loop-top-preserved g c =
    let turn = put_turn _ c.args.setting.now.limit c.loop-top.memo c.put.new.memo c.args.key c.loop-top.pending.items c.pop.new.self.items c.in-Some.top c.in-Frontier.f
    c.in-Some.ensures.items c.in_ok-put-in-Frontier.ensures.put c.loop-top.invariant.missing c.loop-top.invariant.awaited in
    record {
      holds = gains_holds _ _ _ _ c.loop-top.memo c.put.new.memo c.in-Some.top c.in-Frontier.f c.in_ok-put-in-Frontier.ensures.put (rw c.in-Frontier.is at c.in_ok-part.ensures.answer)
          (memo_later _ _ _ c.loop-top.hows _ c.loop-top.memo c.frontier_or_need.ensures.older c.loop-top.invariant.holds);
      older = keeps_then c.args.hows.now c.loop-top.hows _ c.loop-top.invariant.older c.frontier_or_need.ensures.older;
      missing = turn.0;
      awaited = turn.1;
      paid = paid_by_gap c.args.setting.now.limit _ _ _ c.args.steps.now c.loop-top.steps c.frontier_or_need.new.steps turn.3 c.loop-top.invariant.paid c.frontier_or_need.ensures.steps;
    }

pub loop-top-smaller : goal.loop-top-smaller
loop-top-smaller g c =
    let turn = put_turn _ c.args.setting.now.limit c.loop-top.memo c.put.new.memo c.args.key c.loop-top.pending.items c.pop.new.self.items c.in-Some.top c.in-Frontier.f
    c.in-Some.ensures.items c.in_ok-put-in-Frontier.ensures.put c.loop-top.invariant.missing c.loop-top.invariant.awaited in
    let fewer : length c.loop-top.pending.items ≡ length c.pop.new.self.items + 1 = turn.2 in
    let closed : gaps (found c.loop-top.memo) (length c.args.setting.now.core.now.nodes) c.args.setting.now.limit ≡ gaps (found c.put.new.memo) (length c.args.setting.now.core.now.nodes) c.args.setting.now.limit + 1 = turn.3 in
    omega (arith, fewer, closed)

pub returns-in_err-put-in-Frontier-clause-holds : goal.returns-in_err-put-in-Frontier-clause-holds
returns-in_err-put-in-Frontier-clause-holds g c =
    same_holds _ _ _ _ c.loop-top.memo c.put.new.memo c.in_err-put-in-Frontier.ensures.err
    (memo_later _ _ _ c.loop-top.hows _ c.loop-top.memo c.frontier_or_need.ensures.older c.loop-top.invariant.holds)

pub returns-in_err-put-in-Frontier-clause-older : goal.returns-in_err-put-in-Frontier-clause-older
returns-in_err-put-in-Frontier-clause-older g c = keeps_then c.args.hows.now c.loop-top.hows _ c.loop-top.invariant.older c.frontier_or_need.ensures.older

pub returns-in_err-put-in-Frontier-clause-steps : goal.returns-in_err-put-in-Frontier-clause-steps
returns-in_err-put-in-Frontier-clause-steps g c =
    let top = top_asked _ _ c.loop-top.memo c.loop-top.pending.items c.pop.new.self.items c.in-Some.top c.in-Some.ensures.items c.loop-top.invariant.missing in
    within_gaps c.args.setting.now.limit _ _ c.args.steps.now c.loop-top.steps c.frontier_or_need.new.steps
    (some_gap _ c.args.setting.now.limit c.loop-top.memo c.in-Some.top top.0 top.1) c.loop-top.invariant.paid c.frontier_or_need.ensures.steps
