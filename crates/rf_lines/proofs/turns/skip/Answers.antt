-- The slot that was taken begins with a comment.
use Rattle.std.proofs.Common.{◌≡◌, ◌≢◌, Bool, true, false, Option, None, Some, List, length, sym, ◌∙◌, ap, true≢false}
use Rattle.std.specs.Prelude.{◌==◌, is_some}
use Rattle.rf_tree.specs.Slots.{NodeSlot, read_slot}
use Rattle.rf_tree.specs.Ahead.{slots_ahead, TakesAlone}
use Rattle.rf_tree.specs.declared.nodes.At.{At}
use Rattle.rf_ways.proofs.Taking.{taken}
use Rattle.rf_lines.proofs.LedSlots.{led_first}
use Rattle.rf_lines.proofs.turns.skip.Goals as goal

none_alone : (all rest : List NodeSlot) (o : Option At) (b : Bool) → b ≡ is_some o → b ≡ false → TakesAlone all o rest → all ≡ rest
none_alone all rest None b is f h = h
none_alone all rest (Some at) b is f h = cc

-- where a datum is there, it isn't none
some_not : (o : Option At) (b : Bool) → b ≡ is_some o → b ≡ true → o ≢ None
some_not None b is t e = cc
some_not (Some at) b is t e = cc

pub returns-then-not-is_empty-clause-led : goal.returns-then-not-is_empty-clause-led
returns-then-not-is_empty-clause-led c there =
    let all = slots_ahead c.args.slots.now in
    let rest = slots_ahead c.next.new.self in
    let slot = c.in-Some.slot in
    let same = none_alone all (slots_ahead c.next_alone.new.self) c.next_alone.result c.is_some.result c.is_some.ensures c.if-is_some.false c.next_alone.ensures.next in
    let is = taken (slots_ahead c.next_alone.new.self) rest c.next.result slot c.in-Some.is c.next.ensures.next in
    led_first all (read_slot slot) rest (same ∙ is) (
      λ none. (let empty : c.is_empty.result ≡ true = c.is_empty.ensures ∙ ap (λ (ats : List At). length ats == 0) none in true≢false (sym empty ∙ c.if-not-is_empty.true)),
      some_not slot.datum c.is_some-then-not-is_empty.result c.is_some-then-not-is_empty.ensures there,
    )
