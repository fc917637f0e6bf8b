-- What ends by the page width costs nothing.
use Rattle.std.proofs.Common.{arith}
use Rattle.rf_cost.proofs.Freed.{squares_free}
use Rattle.rf_cost.proofs.squares.SquaresFactory.free_up_to.Goals as goal

pub returns-clause-free : goal.returns-clause-free
returns-clause-free c = squares_free _ _ (omega arith)
