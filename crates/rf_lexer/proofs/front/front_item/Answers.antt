-- What stands at the front, by the first character.
use Rattle.std.proofs.Common.{[], ◌∷◌, refl, sym}
use Rattle.rf_base_grammar.specs.Characters.{is_delimiter, is_white}
use Rattle.rf_base_grammar.specs.Cuts.{run_cut}
use Rattle.std.specs.Str.{chars}
use Rattle.rf_base_grammar.specs.Reader.{front_item}
use Rattle.rf_lexer.proofs.Openings.{comma_is, closer_is, opener_is, quote_is, run_is}
use Rattle.rf_lexer.proofs.front.front_item.Goals as goal

pub returns-in_default : goal.returns-in_default
unfolding front_item
returns-in_default c = rw c.in_default.ensures (rw c.in_default.ensures at c.run_item.ensures)

pub returns-then-c-eq59 : goal.returns-then-c-eq59
unfolding front_item
returns-then-c-eq59 c = rw (c.in-Some.ensures, c.if-c-eq59.true) c.semicolon_item.ensures

pub returns-then-c-eq44 : goal.returns-then-c-eq44
returns-then-c-eq44 c =
    rw (c.in-Some.ensures, c.if-c-eq44.true) (comma_is c.args.language (chars c.in-Some.behind.now) c.behind_at.result c.behind_at.ensures)

pub returns-then-is_quote : goal.returns-then-is_quote
returns-then-is_quote c = rw c.in-Some.ensures (quote_is c.args.language c.in-Some.c c.in-Some.behind (sym c.if-is_quote.ensures))

pub returns-in-Some-closed_by : goal.returns-in-Some-closed_by
returns-in-Some-closed_by c =
    let bracket = c.in-Some-closed_by.bracket in
    rw (c.in-Some.ensures, closer_is c.args.language c.in-Some.c bracket (chars c.in-Some.behind.now) (sym c.in-Some-closed_by.ensures)) (refl, refl)

pub returns-in-Some-opened_by : goal.returns-in-Some-opened_by
returns-in-Some-opened_by c =
    let bracket = c.in-Some-opened_by.bracket in
    rw (c.in-Some.ensures, opener_is c.args.language c.in-Some.c bracket (chars c.in-Some.behind.now) (sym c.in-Some-opened_by.ensures)) (refl, refl)

pub returns-then-is_plain : goal.returns-then-is_plain
returns-then-is_plain c =
    rw (c.in-Some.ensures, run_is c.args.language c.in-Some.c (chars c.in-Some.behind.now) c.if-c-eq35.false c.if-c-eq59.false (sym c.in_default-closed_by.ensures) c.if-c-eq44.false (sym c.if-is_quote.ensures))
    (rw c.in-Some.ensures at c.atom_item.ensures)

pub returns : goal.returns
returns c =
    rw (c.in-Some.ensures, run_is c.args.language c.in-Some.c (chars c.in-Some.behind.now) c.if-c-eq35.false c.if-c-eq59.false (sym c.in_default-closed_by.ensures) c.if-c-eq44.false (sym c.if-is_quote.ensures))
    (rw c.in-Some.ensures at c.run_item-2.ensures)

pub returns-then-c-eq34 : goal.returns-then-c-eq34
unfolding front_item run_cut is_delimiter is_white
returns-then-c-eq34 c = rw (c.in-Some.ensures, c.if-c-eq34.true) (c.string_item.ensures (34 ∷ []))
