-- The walk begins with the cell alone, and where nothing is left the paper holds its layout.
use Rattle.std.proofs.Common.{[], refl}
use Rattle.rf_walk.proofs.Ends.{root_ends, begins, laid_out, too_long}
use Rattle.rf_rows.specs.Laid.{laid_cell}
use Rattle.rf_rows.proofs.Frames.{same}
use Rattle.rf_rows.proofs.Turns.{is_ok}
use Rattle.rf_rows.proofs.laying.lay_out_cell.Goals as goal

pub lay_cell-requires : goal.lay_cell-requires
lay_cell-requires g c =
    let d = laid_cell c.args.laid.now c.args.k in
    let all = root_ends d c.args.choices.now c.requires.picked in (
      c.args.paper.now,
      [],
      all.0,
      begins (g.P.Paper.holds c.args.paper.now c.args.paper.now) same d _ _ c.args.choices.now all.0 refl refl refl refl c.requires.blank all.1,
    )

pub returns-in-Err-Refused-clause-too_long : goal.returns-in-Err-Refused-clause-too_long
returns-in-Err-Refused-clause-too_long g c = λ long.
    let d = laid_cell c.args.laid.now c.args.k in
    let all = root_ends d c.args.choices.now c.requires.picked in
    too_long d c.args.choices.now all.0 c.requires.picked all.1
    (c.lay_cell.ensures.too_long (cc) c.args.paper.now [] all.0 (begins (g.P.Paper.holds c.args.paper.now c.args.paper.now) same d _ _ c.args.choices.now all.0 refl refl refl refl c.requires.blank all.1))

pub returns-in-Ok-clause-laid : goal.returns-in-Ok-clause-laid
returns-in-Ok-clause-laid g c = λ yes.
    let d = laid_cell c.args.laid.now c.args.k in
    let all = root_ends d c.args.choices.now c.requires.picked in
    laid_out (g.P.Paper.holds c.args.paper.now c.lay_cell.new.paper) same d [] c.args.choices.now _ all.0 c.requires.picked (g.met.P.Paper.within c.args.paper.now c.lay_cell.new.paper) refl
    (is_ok c.lay_cell.result c.in-Ok.field-0 _ c.in-Ok.is c.lay_cell.ensures.laid c.args.paper.now [] all.0 (begins (g.P.Paper.holds c.args.paper.now c.args.paper.now) same d _ _ c.args.choices.now all.0 refl refl refl refl c.requires.blank all.1)) all.1
