-- One character more, or the first that isn't of the class.
use Rattle.std.proofs.Common.{sym, ap, ◌∙◌, rules}
use Rattle.std.specs.Str.{chars}
use Rattle.rf_base_grammar.specs.Cuts.{span}
use Rattle.rf_lexer.specs.Classes.{test_of}
use Rattle.rf_lexer.proofs.Spans.{span_more}
use Rattle.rf_lexer.proofs.Marks.{span_past}
use Rattle.rf_lexer.proofs.classes.past.Goals as goal

pub loop-c-init : goal.loop-c-init
loop-c-init c =
    record {
      utf8 = c.past_ascii-rest.utf8;
      goes_on =
          sym (span_past (test_of c.args.class) (chars c.args.text.now) (chars c.past_ascii-rest.result.now) c.past_ascii-rest.ensures);
    }

pub loop-c-preserved : goal.loop-c-preserved
loop-c-preserved c =
    let test = test_of c.args.class in
    record {
      utf8 = search rules;
      goes_on =
          sym (span_more test c.in-Some.c (chars c.in-Some.behind.now) (sym c.if-not-holds.ensures)) ∙ ap (λ xs. (span test xs).behind) (sym c.in-Some.ensures) ∙ c.loop-c.invariant.goes_on;
    }
