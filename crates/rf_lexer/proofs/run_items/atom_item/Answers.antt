-- A run whose first character is no hash sign and no dot is an atom.
use Rattle.std.specs.Str.{chars}
use Rattle.rf_base_grammar.specs.Cuts.{run_cut, Bare}
use Rattle.rf_lexer.proofs.RunParts.{plain_atom, open_run}
use Rattle.rf_lexer.proofs.run_items.atom_item.Goals as goal

pub returns-in-Some : goal.returns-in-Some
returns-in-Some c = plain_atom (chars c.args.text.now) c.args.c c.in-Some.behind c.requires c.in-Some.ensures

pub returns-in-None : goal.returns-in-None
returns-in-None c = open_run (run_cut Bare (chars c.args.text.now)) c.in-None.ensures
