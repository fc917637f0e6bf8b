-- What is laid out of the front begins the excerpt, which is the front where no rest is left.
use Rattle.std.proofs.Common.{rules, ◌++◌, ℕ, false, List, append-nil, sym, ap, ◌∙◌, subst}
use Rattle.std.specs.Str.{chars}
use Rattle.rf_style.specs.StyleOf.{seen}
use Rattle.rf_whole.specs.Passages.{IsPassage}
use Rattle.rf_whole.proofs.PassageByPassage.{no_chars, some_chars}
use Rattle.rf_whole.proofs.passages.first_passage.Goals as goal

pub returns-then-is_empty-clause-passage : goal.returns-then-is_empty-clause-passage
returns-then-is_empty-clause-passage g c =
    let none = no_chars c.cut_in_two.result.1.now c.is_empty.result c.is_empty.ensures c.if-is_empty.true in
    let text = chars c.args.excerpt.text.now in
    record {
      front = text;
      text_is = sym (ap (λ (rest : List ℕ). text ++ rest) none ∙ append-nil text);
      feeds = c.cut_in_two.ensures.feeds;
      whole = λ _. c.in_ok-whole.ensures.passage;
      part = λ some. absurd (some none);
    }

pub returns-in-Ok-clause-passage : goal.returns-in-Ok-clause-passage
returns-in-Ok-clause-passage g c =
    let setting = c.args.setting.now in
    let front = chars c.cut_in_two.result.0.now in
    record {
      front = front;
      text_is = c.cut_in_two.ensures.whole;
      feeds = c.cut_in_two.ensures.feeds;
      whole = λ none. absurd (some_chars c.cut_in_two.result.1.now c.is_empty.result (search rules) c.is_empty.ensures c.if-is_empty.false none);
      part = λ _. subst (λ (n : ℕ). IsPassage (g.F.Factory.costs setting.factory.now) setting.limit (seen setting.style.now) c.args.excerpt.first false front n c.in-Ok.found) c.blank_lines_ahead.ensures c.in-Ok.ensures.passage;
    }
