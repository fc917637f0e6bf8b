-- The stretch begins the text, which it is where no rest is left.
use Rattle.std.proofs.Common.{◌++◌, ℕ, List, append-nil, refl, sym, ap, ◌∙◌}
use Rattle.std.specs.Str.{chars}
use Rattle.rf_whole.proofs.PassageByPassage.{no_chars}
use Rattle.rf_whole.proofs.late.accepted_front.Goals as goal

pub returns-then-is_empty-clause-accepted : goal.returns-then-is_empty-clause-accepted
returns-then-is_empty-clause-accepted c =
    let none = no_chars c.cut_at_line.result.1.now c.is_empty.result c.is_empty.ensures c.if-is_empty.true in
    let text = chars c.args.text.now in
    record {
      front = text;
      text_is = sym (ap (λ (rest : List ℕ). text ++ rest) none ∙ append-nil text);
      feeds = c.cut_at_line.ensures.feeds;
      accepted = c.in_ok-accept_alone.ensures.accepted refl;
    }

pub returns-in-Ok-clause-accepted : goal.returns-in-Ok-clause-accepted
returns-in-Ok-clause-accepted c =
    record {
      front = chars c.cut_at_line.result.0.now;
      text_is = c.cut_at_line.ensures.whole;
      feeds = c.cut_at_line.ensures.feeds;
      accepted = c.in-Ok.ensures.accepted refl;
    }
