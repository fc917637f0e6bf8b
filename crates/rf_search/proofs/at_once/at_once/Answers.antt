-- What is known of a leaf, or else on one line.
use Rattle.std.proofs.lemmas.Result.{IfOk-weaker}
use Rattle.rf_search.specs.Sought.{task}
use Rattle.rf_search.proofs.AtOnce.{still_same, still_asked, still_known}
use Rattle.rf_search.proofs.Told.{goes_on_same}
use Rattle.rf_search.proofs.at_once.at_once.Goals as goal

pub on_one_line-requires-clause-asked : goal.on_one_line-requires-clause-asked
on_one_line-requires-clause-asked g c =
    let same = still_same (task c.args.setting.now) c.args.found.now.hows c.args.found.now.hows c.args.place.now.node c.args.place.now.flat c.args.place.now.indentation c.args.place.now.cut c.args.m.now c.behind_leaf.new.m c.behind_leaf.result (c.behind_leaf.ensures c.args.place.now.cut) c.in-Unknown.is in
    still_asked (task c.args.setting.now) c.args.found.now.hows c.args.place.now.node c.args.m.now c.behind_leaf.new.m same c.requires.asked

pub returns-in-Nothing-clause-goes_on : goal.returns-in-Nothing-clause-goes_on
returns-in-Nothing-clause-goes_on g c =
    goes_on_same (task c.args.setting.now) c.args.found.now c.requires.holds

pub returns-in-One-clause-goes_on : goal.returns-in-One-clause-goes_on
returns-in-One-clause-goes_on g c =
    goes_on_same (task c.args.setting.now) c.args.found.now c.requires.holds

pub returns-in-Unknown-clause-known : goal.returns-in-Unknown-clause-known
returns-in-Unknown-clause-known g c =
    let same = still_same (task c.args.setting.now) c.args.found.now.hows c.args.found.now.hows c.args.place.now.node c.args.place.now.flat c.args.place.now.indentation c.args.place.now.cut c.args.m.now c.behind_leaf.new.m c.behind_leaf.result (c.behind_leaf.ensures c.args.place.now.cut) c.in-Unknown.is in
    IfOk-weaker c.on_one_line.result _ _ (λ known h. still_known (task c.args.setting.now) c.args.found.now.hows c.on_one_line.new.found.hows c.args.place.now.node c.args.place.now.flat c.args.place.now.indentation c.args.place.now.cut c.args.m.now c.behind_leaf.new.m c.on_one_line.new.m known same h) c.on_one_line.ensures.known
