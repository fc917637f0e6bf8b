-- A way of the choices that are told is one of the line.
use Rattle.std.proofs.Common.{◌∙◌}
use Rattle.rf_frontier.proofs.Ways.{keeps_then}
use Rattle.rf_rows.proofs.UnmadeLines.{loose_known, flat_known, way_there, way_same}
use Rattle.rf_rows.proofs.known_layouts.unmade_known.Goals as goal

pub returns-in_err-flat-clause-older : goal.returns-in_err-flat-clause-older
returns-in_err-flat-clause-older c = keeps_then c.args.hows.now _ _ c.in_ok-loose.ensures.older c.way_of-2.ensures.older

pub returns-clause-older : goal.returns-clause-older
returns-clause-older c = keeps_then c.args.hows.now _ _ c.in_ok-loose.ensures.older c.way_of-2.ensures.older

pub returns-clause-known : goal.returns-clause-known
returns-clause-known c =
    let u = c.args.unmade.now in
    let keeps = c.way_of-2.ensures.older in
    let ways = c.way_of-2.new.hows in (
      (
        loose_known ways u.line _ _ c.in_ok-loose.loose c.requires.line.line (way_there c.way_of.new.hows ways c.in_ok-loose.loose keeps c.in_ok-loose.ensures.in_ways)
            (way_same c.way_of.new.hows ways c.in_ok-loose.loose keeps c.in_ok-loose.ensures.in_ways ∙ c.in_ok-loose.ensures.choices ∙ c.turns.ensures),
        λ no. cc,
      ),
      (flat_known ways u.line _ _ c.in_ok-flat.flat c.requires.line.line c.in_ok-flat.ensures.in_ways (c.in_ok-flat.ensures.choices ∙ c.turns-2.ensures), λ no. cc),
    )
