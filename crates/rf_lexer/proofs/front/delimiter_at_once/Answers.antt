-- A line comment, a string or a comma.
use Rattle.std.proofs.Common.{[], ◌∷◌}
use Rattle.std.specs.Str.{chars}
use Rattle.rf_base_grammar.specs.Characters.{is_delimiter, is_white}
use Rattle.rf_base_grammar.specs.Cuts.{run_cut}
use Rattle.rf_base_grammar.specs.Reader.{front_item}
use Rattle.rf_lexer.proofs.AtOnce.{read_told}
use Rattle.rf_lexer.proofs.Openings.{comma_is}
use Rattle.rf_lexer.proofs.front.delimiter_at_once.Goals as goal

pub returns-then-c-eq59 : goal.returns-then-c-eq59
unfolding front_item
returns-then-c-eq59 c =
    read_told (λ language. front_item language (chars c.args.text.now)) c.semicolon_item.result c.read.result (λ language. rw (c.in_ok-c.ensures, c.if-c-eq59.true) c.semicolon_item.ensures) c.read.ensures

pub returns-then-c-eq34 : goal.returns-then-c-eq34
unfolding front_item run_cut is_delimiter is_white
returns-then-c-eq34 c =
    read_told (λ language. front_item language (chars c.args.text.now)) c.string_item.result c.read-then-c-eq34.result (λ language. rw (c.in_ok-c.ensures, c.if-c-eq34.true) (c.string_item.ensures (34 ∷ []))) c.read-then-c-eq34.ensures

pub returns-then-c-eq44 : goal.returns-then-c-eq44
returns-then-c-eq44 c =
    λ language. rw (c.in_ok-c.ensures, c.if-c-eq44.true) (comma_is language (chars c.in_ok-c.behind.now) c.behind_at.result c.behind_at.ensures)
