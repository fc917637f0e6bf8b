-- The law is the lemmas.
use Rattle.rf_base_optimum.specs.MostPieces.{most_pieces}
use Rattle.rf_base_cut.proofs.Behind.{room_value}
use Rattle.rf_base_cut.proofs.Steps.{after_frontier, after_values, after_ends, after_short}
use Rattle.rf_base_cut.proofs.after_is_frontier.Goals as goal

pub returns : goal.returns
returns g c = λ costs w d m indentation x laws p q h. (
  after_frontier costs laws w d m indentation x p q h,
  after_values costs laws w d m indentation x p q (room_value costs laws (most_pieces d) m.cost h),
  after_ends costs w d m indentation x,
  after_short costs laws w d m indentation x p q h,
)
