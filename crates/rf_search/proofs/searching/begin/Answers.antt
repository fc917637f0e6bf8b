-- Both ways are there, and nothing is found.
use Rattle.std.proofs.Common.{refl, ◌∙◌, arith}
use Rattle.rf_base_document.specs.declared.directions.Dir.TheVariants.{Left, Right}
use Rattle.rf_frontier.proofs.Ways.{keeps_choices, keeps_length}
use Rattle.rf_search.proofs.Firsts.{turn_alone}
use Rattle.rf_search.proofs.Told.{turns_go_on}
use Rattle.rf_search.proofs.searching.begin.Goals as goal

pub behind-requires-2-clause-id : goal.behind-requires-2-clause-id
behind-requires-2-clause-id g c = omega (arith, c.first-none.ensures.in_ways, keeps_length _ _ c.in_ok-left.ensures.older)

pub returns : goal.returns
returns g c =
    let one = c.in_ok-left.ensures.older in
    let two = c.in_ok-right.ensures.older in
    let left = turn_alone c.behind.new.self c.in_ok-left.left.0 Left _ c.in_ok-left.ensures.choices c.first-none.ensures.choices in
    let right = turn_alone c.behind-2.new.self c.in_ok-right.right.0 Right _ c.in_ok-right.ensures.choices (keeps_choices _ _ c.first-none.result.0 one c.first-none.ensures.in_ways ∙ c.first-none.ensures.choices) in
    record {
      limit_is = refl;
      free_is = refl;
      some = omega (arith, c.first-none.ensures.in_ways, keeps_length _ _ one, keeps_length _ _ two);
      left = turns_go_on c.behind.new.self c.behind-2.new.self c.in_ok-left.left Left two (c.in_ok-left.ensures.in_ways, left);
      right = (c.in_ok-right.ensures.in_ways, right);
      rows = c.in_ok-restart.ensures.rows;
    }
