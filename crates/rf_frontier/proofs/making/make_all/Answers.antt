-- The one measure is the whole list.
use Rattle.rf_frontier.proofs.Made.{only_plan}
use Rattle.rf_frontier.proofs.making.make_all.Goals as goal

pub make_one-requires : goal.make_one-requires
make_one-requires g c = only_plan c.args.hows.now c.args.planned c.in-Some.m c.in-Some.ensures c.requires
