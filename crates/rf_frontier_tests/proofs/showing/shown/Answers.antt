-- The way of each measure is one of the ways.
use Rattle.std.proofs.Common.{◌<◌, length, rules}
use Rattle.rf_frontier.proofs.Behind.{same_belong}
use Rattle.rf_frontier_tests.proofs.Lists.{belong_get}
use Rattle.rf_frontier_tests.proofs.showing.shown.Goals as goal

pub show_way-requires : goal.show_way-requires
show_way-requires c =
    let here : c.loop-at.at < length c.measures-measures.result.now = search rules in
    belong_get c.args.hows.now c.measures-measures.result.now c.loop-at.at _ (same_belong c.args.hows.now c.measures-measures.result.now c.args.f.now c.measures-measures.ensures c.requires) here
