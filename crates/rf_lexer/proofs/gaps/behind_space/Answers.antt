-- The text is cut behind the space.
use Rattle.rf_base_grammar.specs.LanguageLine.{is_blank}
use Rattle.rf_lexer.proofs.Marks.{marks_behind, marks_end}
use Rattle.rf_lexer.proofs.gaps.behind_space.Goals as goal

pub range_from-requires : goal.range_from-requires
range_from-requires c =
    λ _.
    marks_end is_blank c.args.text.now c.space_len.result c.utf8.text c.space_len.ensures.within c.space_len.ensures.marks

pub returns : goal.returns
returns c =
    rw c.range_from.ensures.value (marks_behind is_blank c.args.text.now c.space_len.result c.utf8.text c.space_len.ensures.within c.space_len.ensures.marks)
