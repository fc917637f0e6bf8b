-- A run that doesn't begin with a hash sign is an atom.
use Rattle.std.proofs.Common.{sym}
use Rattle.std.specs.Str.{chars}
use Rattle.rf_lexer.proofs.RunEnds.{atom_nothing}
use Rattle.rf_lexer.proofs.words.is_atom_run.Goals as goal

pub returns-in-None : goal.returns-in-None
returns-in-None c = sym (atom_nothing (chars c.args.run.now) c.in-None.ensures)
