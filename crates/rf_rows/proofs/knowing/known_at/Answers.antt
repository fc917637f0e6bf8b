-- What is known of the cell is in the list.
use Rattle.std.proofs.Common.{refl}
use Rattle.rf_rows.proofs.Learning.{known_cell}
use Rattle.rf_rows.proofs.Slices.{get_some}
use Rattle.rf_rows.proofs.knowing.known_at.Goals as goal

pub returns-in-None : goal.returns-in-None
returns-in-None c = λ ways ps cs known. c.nothing_known.ensures ways _

pub returns-in-Some : goal.returns-in-Some
returns-in-Some c = λ ways ps cs known.
    let list = c.args.list.now in
    let it = c.in-Some.known.now in
    (known_cell ways ps cs list c.args.k it known (get_some c.args.k refl c.in-Some.ensures.lookup.0 c.in-Some.ensures.lookup.1)).document
