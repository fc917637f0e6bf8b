-- The line is counted behind the older costs.
use Rattle.std.proofs.Common.{◌∙◌, ap, arith}
use Rattle.std.specs.Str.{chars}
use Rattle.std.specs.Prelude.{length}
use Rattle.std.proofs.lemmas.Result.{err_from_is_err_and}
use Rattle.rf_measure.proofs.Counting.{count_is_value}
use Rattle.rf_measure.proofs.LineCosts.{ends_within, counts_line}
use Rattle.rf_measure.proofs.tallies.TallyPaper.line.Goals as goal

pub returns-in_err-line-clause-too_long : goal.returns-in_err-line-clause-too_long
returns-in_err-line-clause-too_long g c = λ long blank pieces weight held.
    let p = err_from_is_err_and c.from_residual.result c.from_residual.ensures.1 in
    c.in_err-line.ensures.too_long (cc) c.args.self.now.extent pieces weight held.1.covers

pub text-of_line-requires-clause-column : goal.text-of_line-requires-clause-column
text-of_line-requires-clause-column g c =
    let held = c.requires.held in
    let covers = held.3.1.covers in
    let fits = c.in_ok-line.ensures.fits c.args.self.now.extent held.1 held.2 covers in
    omega (arith, ends_within c.args.self.now.extent held.1 held.2 (length (chars c.args.s.now)) c.args.len c.column-column.result covers c.requires.columns fits.0 (c.column-column.ensures c.args.self.now.extent held.1 held.2 covers))

pub text-of_line-requires-clause-length : goal.text-of_line-requires-clause-length
text-of_line-requires-clause-length g c =
    let held = c.requires.held in
    let covers = held.3.1.covers in
    let fits = c.in_ok-line.ensures.fits c.args.self.now.extent held.1 held.2 covers in
    omega (arith, ends_within c.args.self.now.extent held.1 held.2 (length (chars c.args.s.now)) c.args.len c.column-column.result covers c.requires.columns fits.0 (c.column-column.ensures c.args.self.now.extent held.1 held.2 covers))

pub add-self-requires-clause-first : goal.add-self-requires-clause-first
add-self-requires-clause-first g c =
    let held = c.requires.held in
    count_is_value (g.F.Factory.costs c.args.self.now.factory.now) (g.met.F.Factory.lawful c.args.self.now.factory.now) c.args.self.now.cost c.args.self.now.extent held.1 held.2 held.3.1

pub add-self-requires-clause-second : goal.add-self-requires-clause-second
add-self-requires-clause-second g c =
    let held = c.requires.held in
    let covers = held.3.1.covers in
    let fits = c.in_ok-line.ensures.fits c.args.self.now.extent held.1 held.2 covers in
    let far = ends_within c.args.self.now.extent held.1 held.2 (length (chars c.args.s.now)) c.args.len c.column-column.result covers c.requires.columns fits.0 (c.column-column.ensures c.args.self.now.extent held.1 held.2 covers) in
    rw c.text-of_line.ensures ((g.met.F.Factory.lawful c.args.self.now.factory.now).text_is_value c.column-column.result c.args.len (omega (arith, far)) (omega (arith, far)))

pub returns-clause-put : goal.returns-clause-put
returns-clause-put g c = λ blank pieces weight held line is.
    let costs = g.F.Factory.costs c.args.self.now.factory.now in
    let covers = held.1.covers in
    let fits = c.in_ok-line.ensures.fits c.args.self.now.extent pieces weight covers in
    let at = c.column-column.ensures c.args.self.now.extent pieces weight covers in
    let far = ends_within c.args.self.now.extent pieces weight (length (chars c.args.s.now)) c.args.len c.column-column.result covers c.requires.columns fits.0 at in (
      held.0,
      counts_line costs (g.met.F.Factory.lawful c.args.self.now.factory.now) c.args.self.now.cost _ c.args.self.now.extent c.line.new.self pieces weight _ c.column-column.result line _ c.args.len c.args.words held.1
          (c.in_ok-line.ensures.put c.args.self.now.extent pieces weight covers line is) is at far
          (c.add-self.ensures ∙ ap (λ x. costs.add c.args.self.now.cost x) c.text-of_line.ensures),
    )

pub returns-clause-fits : goal.returns-clause-fits
returns-clause-fits g c = λ blank pieces weight held. c.in_ok-line.ensures.fits c.args.self.now.extent pieces weight held.1.covers
