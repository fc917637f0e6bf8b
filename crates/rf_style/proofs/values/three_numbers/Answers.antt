-- Fewer than three items, or more, aren't three numbers.
use Rattle.std.proofs.Common.{◌≡◌, ◌<◌, ◌≤◌, List, ◌∷◌, length, None, refl, arith}
use Rattle.toml.specs.View.{items_view}
use Rattle.toml.specs.declared.value.Value.{Value}
use Rattle.rf_style.specs.Values.{three_numbers}
use Rattle.rf_style.proofs.values.three_numbers.Goals as goal

fewer : (items : List Value) → length items < 3 → None ≡ three_numbers (items_view items)
unfolding three_numbers
fewer (a ∷ b ∷ c ∷ items) few = absurd (omega arith)
fewer items few = refl

more : (items : List Value) → 4 ≤ length items → None ≡ three_numbers (items_view items)
unfolding three_numbers
more (a ∷ b ∷ c ∷ d ∷ items) many = refl
more items many = absurd (omega arith)

pub returns-in_default : goal.returns-in_default
returns-in_default c = fewer _ (rw (← c.as_slice.ensures.value) c.in_default.len_below)

pub returns-in_default-2 : goal.returns-in_default-2
returns-in_default-2 c = more _ (rw (← c.as_slice.ensures.value) c.in_default.len_at_least)
