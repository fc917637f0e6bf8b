-- What stands behind a hash sign, by the next character.
use Rattle.std.proofs.Common.{refl, sym}
use Rattle.std.specs.Str.{chars}
use Rattle.rf_base_grammar.specs.Reader.{front_item}
use Rattle.rf_lexer.proofs.Openings.{hash_comma_is, hash_quote_is, label_is}
use Rattle.rf_lexer.proofs.front.hash_item.Goals as goal

pub returns-in_default : goal.returns-in_default
unfolding front_item
returns-in_default c = rw (c.requires, c.in_default.ensures) (rw (c.requires, c.in_default.ensures) at c.run_item.ensures)

pub returns-then-c-eq124 : goal.returns-then-c-eq124
unfolding front_item
returns-then-c-eq124 c = rw (c.requires, c.in-Some.ensures, c.if-c-eq124.true) c.block_item.ensures

pub returns-then-c-eq92 : goal.returns-then-c-eq92
unfolding front_item
returns-then-c-eq92 c = rw (c.requires, c.in-Some.ensures, c.if-c-eq92.true) c.character_item.ensures

pub returns-then-c-eq33 : goal.returns-then-c-eq33
unfolding front_item
returns-then-c-eq33 c = rw (c.requires, c.in-Some.ensures, c.if-c-eq33.true) c.bang_item.ensures

pub returns-then-c-eq59 : goal.returns-then-c-eq59
unfolding front_item
returns-then-c-eq59 c = rw (c.requires, c.in-Some.ensures, c.if-c-eq59.true) (refl, refl)

pub returns-then-c-eq44 : goal.returns-then-c-eq44
returns-then-c-eq44 c =
    rw (c.requires, c.in-Some.ensures, c.if-c-eq44.true) (hash_comma_is c.args.language (chars c.in-Some.after.now) c.behind_at.result c.behind_at.ensures)

pub returns-then-is_hash_quote : goal.returns-then-is_hash_quote
returns-then-is_hash_quote c =
    rw (c.requires, c.in-Some.ensures) (hash_quote_is c.args.language c.in-Some.c c.in-Some.after (sym c.if-is_hash_quote.ensures))

pub returns : goal.returns
returns c =
    rw (c.requires, c.in-Some.ensures, label_is c.args.language c.in-Some.c (chars c.in-Some.after.now) c.if-c-eq124.false c.if-c-eq92.false c.if-c-eq33.false c.if-c-eq60.false c.if-c-eq108.false c.if-c-eq44.false c.if-c-eq59.false (sym c.if-is_hash_quote.ensures))
    (rw (c.requires, c.in-Some.ensures) at c.label_item.ensures)
