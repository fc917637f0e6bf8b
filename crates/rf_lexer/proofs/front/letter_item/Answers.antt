-- A language line, or what the run makes.
use Rattle.std.proofs.Common.{◌≡◌, ◌∷◌, ◌++◌, ap, ◌∙◌}
use Rattle.std.specs.Prelude.{codes}
use Rattle.std.specs.Str.{chars}
use Rattle.rf_base_grammar.specs.Reader.{strip}
use Rattle.rf_base_grammar.proofs.Words.{strip_found}
use Rattle.rf_lexer.proofs.Stripped.{stripped_some, stripped_none}
use Rattle.rf_lexer.proofs.Openings.{letter_is}
use Rattle.rf_lexer.proofs.front.letter_item.Goals as goal

pub language_item-requires : goal.language_item-requires
language_item-requires c =
    let after = chars c.args.after.now in
    let line = chars c.in-Some.line.now in
    let letters : after ≡ codes "ang" ++ line = strip_found (codes "ang") after line (stripped_some (strip (codes "ang") after) c.in-Some.line c.in-Some.ensures) in
    c.requires.whole ∙ ap (λ xs. 35 ∷ xs) (c.requires.letter ∙ ap (λ xs. 108 ∷ xs) letters)

pub returns-in-Some : goal.returns-in-Some
returns-in-Some c =
    let after = chars c.args.after.now in
    rw (c.requires.whole, c.requires.letter, letter_is c.args.language after _ (stripped_some (strip (codes "ang") after) c.in-Some.line c.in-Some.ensures)) c.language_item.ensures

pub returns-in-None : goal.returns-in-None
returns-in-None c =
    let after = chars c.args.after.now in
    rw (c.requires.whole, c.requires.letter, letter_is c.args.language after _ (stripped_none (strip (codes "ang") after) c.in-None.ensures)) (rw (c.requires.whole, c.requires.letter) at c.label_item.ensures)
