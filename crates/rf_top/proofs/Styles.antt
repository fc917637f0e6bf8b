-- What words say leaves a style one.
use Rattle.std.proofs.Common.{ℕ, ◌≤◌, Option, None, Some, refl, arith}
use Rattle.std.specs.Prelude.{unwrap_or}
use Rattle.rf_base_style.specs.Table.{IsStyle}
use Rattle.rf_style.specs.StyleOf.{seen}
use Rattle.rf_style.specs.declared.style.Style.{Style}
use Rattle.rf_words.specs.WordsOf.{Said}
use Rattle.rf_words.specs.Laws.{KeepRanges, IsFrom}
use Rattle.rf_top.specs.Asking.{styled}

-- a number that is said, or else the one that was there, is in the range that both are in
said_within : (least most n : ℕ) (said : Option ℕ) → IsFrom least most said → (least ≤ n) × (n ≤ most) →
    (least ≤ unwrap_or said n) × (unwrap_or said n ≤ most)
said_within least most n None ranges within = within
said_within least most n (Some said) ranges within = ranges said refl

pub styled_is_style : (said : Said) (base : Style) → KeepRanges said.numbers → IsStyle (seen base) → IsStyle (seen (styled said base))
styled_is_style said base ranges is = record {
  width = said_within 1 400 base.width said.numbers.width ranges.width is.width;
  limit = said_within 1 400 base.limit said.numbers.limit ranges.limit is.limit;
  blanks = (said_within 0 9 base.blanks said.numbers.blanks ranges.blanks (omega arith, is.blanks)).1;
  rules = is.rules;
}
