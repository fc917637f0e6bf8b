-- Each turn goes further from the end.
use Rattle.std.proofs.Common.{◌≡◌, ℕ, suc, ◌+◌, ◌-◌, take, sym, ◌∙◌, subst, arith}
use Rattle.rf_memo.specs.Page.{EachBefore}
use Rattle.rf_memo.proofs.Entries.{none_before, none_start, before_up_to}
use Rattle.rf_memo.proofs.page.about.Goals as goal

pub loop-step-init : goal.loop-step-init
loop-step-init g c = record {
  some = omega arith;
  within = omega arith;
  behind = none_start c.args.col c.args.indent c.args.entries.now;
}

pub returns-then-comes_before-clause-before : goal.returns-then-comes_before-clause-before
returns-then-comes_before-clause-before g c =
    let at : ℕ = c.loop-step.high - c.loop-step.step in
    let next : suc at ≡ at + 1 = omega arith in
    subst (λ (n : ℕ). EachBefore c.args.col c.args.indent (take n c.args.entries.now)) next
    (before_up_to c.args.entries.now (c.loop-step.high - c.loop-step.step) c.args.col c.args.indent c.index-entries-at.result c.requires
    (omega (arith, c.loop-step.invariant.some, c.loop-step.invariant.within, c.loop-step-test.true)) c.index-entries-at.is (sym c.comes_before.ensures ∙ c.if-comes_before.true))

pub returns-clause-before : goal.returns-clause-before
returns-clause-before g c = none_before c.args.col c.args.indent c.args.entries.now
