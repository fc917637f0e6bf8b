-- A sheet of no character.
use Rattle.rf_whole.proofs.Writing.{none_kept}
use Rattle.rf_whole.proofs.sheets.Sheet.blank.Goals as goal

pub returns-clause-keeps : goal.returns-clause-keeps
returns-clause-keeps g c = none_kept (g.F.Factory.costs c.args.factory.now) c.clear.new.self _ _ c.clear.ensures.bytes c.none.ensures.counts
