-- A graphic character of ASCII is no white space.
use Rattle.std.proofs.Common.{sym, ◌∙◌}
use Rattle.std.specs.Str.{chars}
use Rattle.rf_lexer.proofs.GapParts.{stops_mark, graphic_white}
use Rattle.rf_lexer.proofs.gaps.stands_at_once.Goals as goal

pub returns-in-Some : goal.returns-in-Some
returns-in-Some c =
    λ graphic.
    stops_mark c.in-Some.c (chars c.args.text.now) (chars c.in-Some.field-0-1.now) c.in-Some.ensures (graphic_white c.in-Some.c (sym c.is_ascii_graphic.ensures.value ∙ graphic))
