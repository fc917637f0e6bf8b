-- The core that was added first stands there still.
use Rattle.rf_flat.proofs.Growing.{placed_still, are_placed_still}
use Rattle.rf_flat.proofs.building.add_cores.Goals as goal

pub add_core-requires-2-clause-placed : goal.add_core-requires-2-clause-placed
add_core-requires-2-clause-placed c = are_placed_still _ _ _ c.args.places.now c.in_ok-broken.ensures.older c.requires.placed

pub returns-clause-placed : goal.returns-clause-placed
returns-clause-placed c = (placed_still _ _ _ c.in_ok-broken.broken c.in_ok-flat.ensures.older c.in_ok-broken.ensures.placed, c.in_ok-flat.ensures.placed)
