-- The text is cut behind these characters.
use Rattle.rf_lexer.specs.Classes.{test_of}
use Rattle.rf_lexer.proofs.Marks.{marks_behind, marks_end}
use Rattle.rf_lexer.proofs.classes.past_ascii.Goals as goal

pub range_from-requires : goal.range_from-requires
range_from-requires c =
    λ _.
    marks_end (test_of c.args.class) c.args.text.now c.ascii_len.result c.utf8.text c.ascii_len.ensures.within c.ascii_len.ensures.marks

pub returns : goal.returns
returns c =
    rw c.range_from.ensures.value (marks_behind (test_of c.args.class) c.args.text.now c.ascii_len.result c.utf8.text c.ascii_len.ensures.within c.ascii_len.ensures.marks)
