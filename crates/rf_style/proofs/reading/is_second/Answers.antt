-- What the table holds at the key.
use Rattle.std.proofs.Common.{◌≡◌, ap, ◌∙◌, refl, false, Option, Some, None, codes, ℤ, pos}
use Rattle.std.specs.Option.{option_eq, option_map_or}
use Rattle.std.specs.Ordering.{int_eq}
use Rattle.toml.specs.Data.{as_integer}
use Rattle.toml.specs.View.{view}
use Rattle.toml.proofs.Views.{table_get}
use Rattle.rf_style.specs.StyleOf.{is_second, is_two}
use Rattle.rf_style.proofs.reading.is_second.Goals as goal

-- a number is compared with 2 where there is one
compared : (number : Option ℤ) → option_eq int_eq number (Some (pos 2)) ≡ option_map_or is_two number false
compared None = refl
compared (Some z) = refl

pub returns-in-Some : goal.returns-in-Some
unfolding is_second
returns-in-Some c =
    let found = table_get c.get.result (codes "version") c.args.keys.now.entries c.get.ensures.value in
    let two : c.eq.result ≡ option_map_or is_two (as_integer (view c.in-Some.version.now)) false = c.eq.ensures ∙ ap (λ number. option_eq int_eq number (Some (pos 2))) c.as_integer.ensures ∙ compared (as_integer (view c.in-Some.version.now)) in
    rw (← rw c.in-Some.is at found) two

pub returns-in-None : goal.returns-in-None
unfolding is_second
returns-in-None c =
    let found = table_get c.get.result (codes "version") c.args.keys.now.entries c.get.ensures.value in
    rw (← rw c.in-None.is at found)
