-- Each turn halves what lies between.
use Rattle.std.proofs.Common.{◌≡◌, ◌+◌, ◌-◌, ◌/◌, ℕ, suc, take, sym, ◌∙◌, subst, arith, rules}
use Rattle.rf_memo.specs.Page.{EachBefore}
use Rattle.rf_memo.proofs.Entries.{before_up_to}
use Rattle.rf_memo.proofs.page.place_of.Goals as goal

pub loop-low-preserved-then-comes_before : goal.loop-low-preserved-then-comes_before
loop-low-preserved-then-comes_before g c =
    let middle : ℕ = c.loop-low.low + (c.loop-low.high - c.loop-low.low) / 2 in
    let next : suc middle ≡ middle + 1 = omega arith in
    record {
      order = search rules;
      within = c.loop-low.invariant.within;
      before = subst (λ (n : ℕ). EachBefore c.args.col c.args.indent (take n c.args.entries.now)) next
          (before_up_to c.args.entries.now (c.loop-low.low + (c.loop-low.high - c.loop-low.low) / 2) c.args.col c.args.indent c.index-entries-middle.result c.requires (search rules) c.index-entries-middle.is
          (sym c.comes_before.ensures ∙ c.if-comes_before.true));
      behind = c.loop-low.invariant.behind;
    }
