-- The text is what stands before its rest, and the rest.
use Rattle.std.proofs.Common.{◌++◌, ◌∙◌, ap, sym}
use Rattle.rf_base_grammar.specs.Cuts.{span}
use Rattle.rf_lexer.proofs.Spans.{span_whole, span_ends}
use Rattle.rf_lexer.specs.Classes.{test_of}
use Rattle.std.specs.Str.{chars}
use Rattle.rf_lexer.proofs.classes.split.Goals as goal

pub before-requires : goal.before-requires
before-requires c =
    span_ends (test_of c.args.class) (chars c.args.text.now) (chars c.past-rest.result.now) c.past-rest.ensures

pub returns : goal.returns
returns c =
    let k = span (test_of c.args.class) (chars c.args.text.now) in (
      c.before-2.ensures k.front (span_whole (test_of c.args.class) (chars c.args.text.now) ∙ ap (λ xs. k.front ++ xs) (sym c.past-rest.ensures)),
      c.past-rest.ensures,
    )
