-- A here string, or what the run makes.
use Rattle.std.specs.Prelude.{codes}
use Rattle.std.specs.Str.{chars}
use Rattle.rf_base_grammar.specs.Reader.{strip}
use Rattle.rf_lexer.proofs.Stripped.{stripped_some, stripped_none}
use Rattle.rf_lexer.proofs.Openings.{angle_is}
use Rattle.rf_lexer.proofs.front.angle_item.Goals as goal

pub returns-in-Some : goal.returns-in-Some
returns-in-Some c =
    let after = chars c.args.after.now in
    rw (c.requires.whole, c.requires.angle, angle_is c.args.language after _ (stripped_some (strip (codes "<") after) c.in-Some.lines c.in-Some.ensures)) c.here_item.ensures

pub returns-in-None : goal.returns-in-None
returns-in-None c =
    let after = chars c.args.after.now in
    rw (c.requires.whole, c.requires.angle, angle_is c.args.language after _ (stripped_none (strip (codes "<") after) c.in-None.ensures)) (rw (c.requires.whole, c.requires.angle) at c.label_item.ensures)
