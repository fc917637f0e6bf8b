-- What the memo has is the frontier there.
use Rattle.rf_resolve.proofs.Parts.{held_if}
use Rattle.rf_resolve.proofs.knowing.known.Goals as goal

pub returns-in-None-clause-frontier : goal.returns-in-None-clause-frontier
returns-in-None-clause-frontier g c = held_if _ _ _ c.args.hows.now c.args.memo.now c.args.key c.get.result c.requires.holds c.get.ensures
