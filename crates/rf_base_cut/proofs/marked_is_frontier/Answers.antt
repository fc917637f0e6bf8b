-- The law is the lemma.
use Rattle.std.proofs.Common.{List, ◌∷◌}
use Rattle.rf_base_document.specs.declared.directions.Dir.{Dir}
use Rattle.rf_base_cost.proofs.Choices.{frontier_same}
use Rattle.rf_base_cut.proofs.marked_is_frontier.Goals as goal

pub returns : goal.returns
returns g c = λ costs dir list. frontier_same costs (λ (h : List Dir). dir ∷ h) list
