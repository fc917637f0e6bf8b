-- The characters of a space are one space.
use Rattle.std.proofs.Common.{sym, ap}
use Rattle.std.specs.Str.{chars}
use Rattle.rf_flat.specs.Places.{newline_made}
use Rattle.rf_flat.proofs.simple_nodes.newline_node.Goals as goal

pub returns-then-flat : goal.returns-then-flat
unfolding chars
returns-then-flat c = ap newline_made (sym c.if-flat.true)
