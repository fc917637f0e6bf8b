-- What a core's nodes stand for has no `Flatten` and no `Hard`.
use Rattle.rf_flat.proofs.CoreNodes.{seen_stands}
use Rattle.rf_flat.proofs.cores.Core.root.Goals as goal

pub returns-clause-is_core : goal.returns-clause-is_core
returns-clause-is_core c = λ d stands. seen_stands c.self.inside.nodes.items c.self.inside.root c.args.self.now c.self.view_is d stands
