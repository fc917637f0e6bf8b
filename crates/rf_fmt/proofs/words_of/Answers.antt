-- The words are what is left of the arguments behind the first.
use Rattle.std.proofs.Common.{rules}
use Rattle.std.proofs.lemmas.Iterator.{items_from_collect}
use Rattle.std.proofs.lemmas.Iterator.Adapters.{YieldsList-from_vec, YieldsList-from_skip}
use Rattle.std.specs.Vec.Iter.{into_iter_items}
use Rattle.rf_fmt.proofs.words_of.Goals as goal

pub returns : goal.returns
returns c = items_from_collect _ c.collect.ensures.ran (YieldsList-from_skip 1 (YieldsList-from_vec (into_iter_items c.args.args) (search rules) (search rules)) c.skip.ensures.count)
