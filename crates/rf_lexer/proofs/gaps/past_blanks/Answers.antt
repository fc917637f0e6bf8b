-- Eight spaces more, or the blanks that are left.
use Rattle.std.proofs.Common.{refl}
use Rattle.std.specs.Str.{chars}
use Rattle.rf_base_grammar.specs.LanguageLine.{is_blank}
use Rattle.rf_lexer.proofs.Marks.{marks_behind, marks_end, marks_more}
use Rattle.rf_lexer.proofs.gaps.past_blanks.Goals as goal

pub range_from-rest-requires : goal.range_from-rest-requires
range_from-rest-requires c =
    let wide = c.loop-rest-test.ensures in
    λ _. marks_end is_blank c.loop-rest.rest.now 8 c.loop-rest.invariant.utf8 (wide.within refl) (wide.marks refl)

pub loop-rest-preserved : goal.loop-rest-preserved
loop-rest-preserved c =
    let rest = c.loop-rest.rest.now in
    let wide = c.loop-rest-test.ensures in
    let eight = marks_behind is_blank rest 8 c.loop-rest.invariant.utf8 (wide.within refl) (wide.marks refl) in
    record {
      utf8 = c.range_from-rest.utf8;
      blanks = rw c.range_from-rest.ensures.value (marks_more is_blank (chars c.args.text.now) (chars rest) _ c.loop-rest.invariant.blanks eight);
    }

pub returns : goal.returns
returns c =
    marks_more is_blank (chars c.args.text.now) (chars c.loop-rest.rest.now) (chars c.past_ascii.result.now) c.loop-rest.invariant.blanks c.past_ascii.ensures
