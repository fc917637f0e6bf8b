-- The gap's line ends are those of the white space at the text's front.
use Rattle.std.proofs.Common.{ℕ, ◌-◌, min, ap, ◌∙◌}
use Rattle.std.specs.Str.{chars}
use Rattle.rf_whole.proofs.Cutting.{feeds_of_front}
use Rattle.rf_whole.proofs.cuts.blank_lines_ahead.Goals as goal

pub returns : goal.returns
returns c =
    c.min.ensures ∙ ap (λ (k : ℕ). min k c.args.style.now.blanks) (c.saturating_sub.ensures
    ∙ ap (λ (k : ℕ). k - 1) (feeds_of_front (chars c.args.text.now) _ _ c.behind_gap-line_ends.ensures.gap))
