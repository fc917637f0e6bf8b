-- The line stands behind the older characters, and its column is at most two for each of its own further.
use Rattle.std.proofs.Common.{◌+◌, ◌<◌, length, refl, ap, sym, ◌∙◌, arith}
use Rattle.std.proofs.lemmas.Result.{err_from_is_err_and}
use Rattle.rf_base_document.specs.declared.limits.TheConstants.{LAYOUT_LIMIT}
use Rattle.rf_walk.proofs.Covered.{line_near, covered, past}
use Rattle.rf_walk.proofs.extents.ExtentPaper.line.Goals as goal

pub returns-in_err-make_room-clause-too_long : goal.returns-in_err-make_room-clause-too_long
returns-in_err-make_room-clause-too_long c = λ long blank pieces weight covers line is.
    let p = err_from_is_err_and c.from_residual-in_err-make_room.result c.from_residual-in_err-make_room.ensures.1 in
    let many : LAYOUT_LIMIT < c.weigh.new.self.characters + c.char_count-count.result = c.in_err-make_room.ensures.too_long cc in
    past c.args.self.now pieces line weight c.args.words c.char_count-count.result covers
    (c.char_count-count.ensures.count ∙ ap (λ s. length s) (sym is.text_is)) (omega (arith, many, c.in_ok-weigh.ensures.weighed.characters))

pub returns-clause-put : goal.returns-clause-put
returns-clause-put c = λ blank pieces weight covers line is.
    let column = c.in_ok-make_room.ensures.room.column ∙ c.in_ok-weigh.ensures.weighed.column in
    covered c.args.self.now c.weigh.new.self c.make_room.new.self _ pieces line weight c.args.words c.char_count-count.result covers
    c.in_ok-weigh.ensures.weighed c.in_ok-make_room.ensures.room refl refl (ap (λ n. n + c.args.len) (column ∙ covers.ends) ∙ sym is.ends)
    (c.char_count-count.ensures.count ∙ ap (λ s. length s) (sym is.text_is))
    (omega (
      arith,
      column,
      line_near c.args.self.now c.weigh.new.self c.make_room.new.self pieces weight c.args.words c.char_count-count.result c.args.len _ covers c.in_ok-weigh.ensures.weighed c.in_ok-make_room.ensures.room c.requires.columns
          c.char_count-count.ensures.count,
    ))
