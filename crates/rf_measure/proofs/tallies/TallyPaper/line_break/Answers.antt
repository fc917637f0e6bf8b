-- The break is counted behind the older costs.
use Rattle.std.proofs.lemmas.Result.{err_from_is_err_and}
use Rattle.rf_base_document.specs.Render.{Break}
use Rattle.rf_measure.proofs.Counting.{count_is_value, counts_more, ends_at_column}
use Rattle.rf_measure.proofs.tallies.TallyPaper.line_break.Goals as goal

pub returns-in_err-line_break-clause-too_long : goal.returns-in_err-line_break-clause-too_long
returns-in_err-line_break-clause-too_long g c = λ long blank pieces weight held.
    let p = err_from_is_err_and c.from_residual.result c.from_residual.ensures.1 in
    c.in_err-line_break.ensures.too_long (cc) c.args.self.now.extent pieces weight held.1.covers

pub newline-of_break-requires : goal.newline-of_break-requires
newline-of_break-requires g c =
    let held = c.requires in
    ends_at_column c.line_break.new.self held.1 _ (Break c.args.indentation) (c.in_ok-line_break.ensures.put c.args.self.now.extent held.1 held.2 held.3.1.covers)

pub add-self-requires-clause-first : goal.add-self-requires-clause-first
add-self-requires-clause-first g c =
    let held = c.requires in
    count_is_value (g.F.Factory.costs c.args.self.now.factory.now) (g.met.F.Factory.lawful c.args.self.now.factory.now) c.args.self.now.cost c.args.self.now.extent held.1 held.2 held.3.1

pub add-self-requires-clause-second : goal.add-self-requires-clause-second
add-self-requires-clause-second g c =
    let held = c.requires in
    rw c.newline-of_break.ensures
    ((g.met.F.Factory.lawful c.args.self.now.factory.now).newline_is_value c.args.indentation
    (ends_at_column c.line_break.new.self held.1 _ (Break c.args.indentation) (c.in_ok-line_break.ensures.put c.args.self.now.extent held.1 held.2 held.3.1.covers)))

pub returns-clause-put : goal.returns-clause-put
returns-clause-put g c = λ blank pieces weight held.
    let covers = c.in_ok-line_break.ensures.put c.args.self.now.extent pieces weight held.1.covers in (
      held.0,
      counts_more (g.F.Factory.costs c.args.self.now.factory.now) c.args.self.now.cost _ _ c.args.self.now.extent c.line_break.new.self pieces weight _ (Break c.args.indentation) held.1 covers
          (ends_at_column c.line_break.new.self pieces _ (Break c.args.indentation) covers)
          c.newline-of_break.ensures c.add-self.ensures,
    )
