-- One slot more was passed.
use Rattle.std.proofs.Common.{◌≡◌, ℕ, true, false, List, length, drop, drop-drop, refl, ap, ◌∙◌, subst, arith, rules}
use Rattle.std.specs.Prelude.{◌==◌, leb}
use Rattle.rf_tree.specs.Slots.{NodeSlot}
use Rattle.rf_tree.specs.Ahead.{slots_ahead}
use Rattle.rf_lines.specs.Turned.{SomeLed}
use Rattle.rf_lines.proofs.Slots.{none_left}
use Rattle.rf_lines.proofs.LedSlots.{led_behind}
use Rattle.rf_lines.proofs.turns.fit.Goals as goal

pub loop-preserved : goal.loop-preserved
loop-preserved c =
    record {
      cursor = c.skip.ensures.cursor;
      passed = c.skip.ensures.passed ∙ ap (drop 1) c.loop.invariant.passed ∙ drop-drop 1 c.loop.counter (slots_ahead c.args.slots.now);
    }

pub returns-then-most : goal.returns-then-most
returns-then-most c =
    let few : true ≡ leb (length (slots_ahead c.args.slots.now)) c.args.most = search rules in
    (false, λ e. cc, few)

pub returns-then-skip : goal.returns-then-skip
returns-then-skip c =
    (true, λ e. led_behind c.loop.counter (slots_ahead c.args.slots.now) (subst SomeLed c.loop.invariant.passed (c.skip.ensures.led c.if-skip.true)), refl)

pub returns : goal.returns
returns c =
    let all = slots_ahead c.args.slots.now in
    let ended : c.loop.counter ≡ c.args.most = omega arith in (
      false,
      λ e. cc,
      c.is_empty.ensures ∙ ap (λ (slots : List NodeSlot). length slots == 0) c.loop.invariant.passed ∙ ap (λ (n : ℕ). length (drop n all) == 0) ended ∙ none_left all c.args.most,
    )
