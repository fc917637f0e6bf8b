-- The break stands behind the older characters.
use Rattle.std.proofs.Common.{◌+◌, ◌<◌, [], ◌∷◌, refl, arith}
use Rattle.std.proofs.lemmas.Result.{err_from_is_err_and}
use Rattle.rf_base_document.specs.declared.limits.TheConstants.{LAYOUT_LIMIT}
use Rattle.rf_base_document.specs.Render.{Break, column_after}
use Rattle.rf_walk.proofs.Covered.{break_length, break_ends, covered, past}
use Rattle.rf_walk.proofs.extents.ExtentPaper.line_break.Goals as goal

pub returns-in_err-make_room-clause-too_long : goal.returns-in_err-make_room-clause-too_long
returns-in_err-make_room-clause-too_long c = λ long blank pieces weight covers.
    let p = err_from_is_err_and c.from_residual-in_err-make_room.result c.from_residual-in_err-make_room.ensures.1 in
    let many : LAYOUT_LIMIT < c.weigh.new.self.characters + (1 + c.args.indentation) = c.in_err-make_room.ensures.too_long cc in
    past c.args.self.now pieces (Break c.args.indentation ∷ []) weight 1 (1 + c.args.indentation) covers (break_length c.args.indentation)
    (omega (arith, many, c.in_ok-weigh.ensures.weighed.characters))

pub returns-clause-put : goal.returns-clause-put
returns-clause-put c = λ blank pieces weight covers.
    covered c.args.self.now c.weigh.new.self c.make_room.new.self _ pieces (Break c.args.indentation ∷ []) weight 1 (1 + c.args.indentation) covers c.in_ok-weigh.ensures.weighed
    c.in_ok-make_room.ensures.room refl refl (break_ends (column_after 0 pieces) c.args.indentation) (break_length c.args.indentation) (omega (arith, c.in_ok-make_room.ensures.room.characters))
