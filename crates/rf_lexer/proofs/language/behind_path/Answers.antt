-- What is behind the blanks and the path is an end of the text.
use Rattle.std.specs.Str.{chars}
use Rattle.rf_base_grammar.specs.LanguageLine.{is_blank}
use Rattle.rf_lexer.proofs.Spans.{span_ends}
use Rattle.rf_lexer.proofs.LanguageParts.{module_ends}
use Rattle.rf_lexer.proofs.language.behind_path.Goals as goal

pub is_whole-requires : goal.is_whole-requires
is_whole-requires c = span_ends is_blank (chars c.args.text.now) (chars c.past-path.result.now) c.past-path.ensures

pub is_whole-requires-else-is_whole : goal.is_whole-requires-else-is_whole
is_whole-requires-else-is_whole c = module_ends (chars c.past-path.result.now) (chars c.behind_module_path-rest.result.now) c.behind_module_path-rest.ensures
