-- What is to come at first is what the way unfolds to.
use Rattle.std.proofs.Common.{◌≡◌, ◌+◌, ◌≤◌, ◌↔◌, List, ◌++◌, length, IsTrue, subst}
use Rattle.std.specs.Bool.{OnTrue}
use Rattle.std.proofs.lemmas.Result.{IfOk-weaker}
use Rattle.rf_base_document.specs.declared.directions.Dir.{Dir}
use Rattle.rf_frontier.proofs.ToCome.{each-push, none_each, only_pending}
use Rattle.rf_frontier.proofs.hows.Hows.unfold.Goals as goal

pub unfold_pending-requires-clause-choices : goal.unfold_pending-requires-clause-choices
unfold_pending-requires-clause-choices c =
    each-push c.args.self.now c.new-pending.result.items c.push.new.self.items c.args.id c.in_ok-push.ensures.items
    (none_each c.args.self.now c.new-pending.result.items c.new-pending.ensures.items) c.requires.id c.if-is_leaf.ensures.some

pub returns-clause-choices : goal.returns-clause-choices
returns-clause-choices c =
    let only = only_pending c.args.self.now c.new-pending.result.items c.push.new.self.items c.args.id c.new-pending.ensures.items c.in_ok-push.ensures.items in
    IfOk-weaker c.unfold_pending.result _ _
    (λ fits h. subst (λ (cs : List Dir). OnTrue fits (c.unfold_pending.new.into.items ≡ c.args.into.now.items ++ cs)) only h)
    c.unfold_pending.ensures.choices

pub returns-clause-fits : goal.returns-clause-fits
returns-clause-fits c =
    let only = only_pending c.args.self.now c.new-pending.result.items c.push.new.self.items c.args.id c.new-pending.ensures.items c.in_ok-push.ensures.items in
    IfOk-weaker c.unfold_pending.result _ _
    (λ fits h. subst (λ (cs : List Dir). IsTrue fits ↔ (length c.args.into.now.items + length cs ≤ c.args.limit)) only h)
    c.unfold_pending.ensures.fits
