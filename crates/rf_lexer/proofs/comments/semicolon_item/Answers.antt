-- The rest of the line is an end of the text.
use Rattle.std.proofs.Common.{[], ◌∷◌}
use Rattle.std.specs.Str.{chars}
use Rattle.rf_lexer.specs.Classes.{test_of}
use Rattle.rf_lexer.specs.declared.classes.Class.TheVariants.{OnLine}
use Rattle.rf_lexer.proofs.Spans.{span_ends_behind}
use Rattle.rf_lexer.proofs.comments.semicolon_item.Goals as goal

pub stray-requires : goal.stray-requires
stray-requires c =
    span_ends_behind (test_of OnLine) (chars c.args.text.now) (59 ∷ []) (chars c.args.behind.now) (chars c.past-rest.result.now) c.requires c.past-rest.ensures
