-- Each turn leaves what the walk comes to as it is.
use Rattle.std.proofs.Common.{◌≡◌, length, sym, ◌∙◌, ap, subst, arith}
use Rattle.rf_base_document.specs.Graph.{unfolded}
use Rattle.rf_resolve.specs.Walk.{AreFrames, Walked, walk}
use Rattle.rf_resolve.proofs.Going.{starts, ends, frames_split}
use Rattle.rf_resolve.proofs.Fills.{none_paid}
use Rattle.rf_resolve.proofs.walking.chosen_choices.Goals as goal

pub loop-frame-init : goal.loop-frame-init
loop-frame-init g c =
    let begun = starts (g.F.Factory.costs c.args.setting.now.factory.now) c.args.setting.now.limit c.args.setting.now.core.now.nodes c.root.result c.in_ok-walk.walk c.in_ok-walk.ensures c.root.ensures.in_core in
    record {
      holds = c.requires.holds;
      is_walk = begun.0;
      same = begun.1 ∙ ap (λ root. walk (g.F.Factory.costs c.args.setting.now.factory.now) c.args.setting.now.limit (unfolded c.args.setting.now.core.now.nodes root) 0 0) c.root.ensures.root;
      paid = none_paid c.args.setting.now.limit _ c.args.steps.now;
    }

pub turn-requires-clause-frame : goal.turn-requires-clause-frame
turn-requires-clause-frame g c =
    (frames_split _ _ c.pop.new.self.items c.in-Some.frame (subst (λ l. AreFrames c.args.setting.now.core.now.nodes c.args.setting.now.limit l) c.in-Some.ensures.items c.loop-frame.invariant.is_walk.frames)).1

pub turn-requires-clause-walk : goal.turn-requires-clause-walk
turn-requires-clause-walk g c = record {
  light = c.loop-frame.invariant.is_walk.light;
  few = c.loop-frame.invariant.is_walk.few;
  near = c.loop-frame.invariant.is_walk.near;
  frames = (frames_split _ _ c.pop.new.self.items c.in-Some.frame (subst (λ l. AreFrames c.args.setting.now.core.now.nodes c.args.setting.now.limit l) c.in-Some.ensures.items c.loop-frame.invariant.is_walk.frames)).0;
}

pub returns-clause-choices : goal.returns-clause-choices
returns-clause-choices g c =
    let none : length c.loop-frame.walk.pending.items ≡ 0 = omega (arith, c.in_default.ensures.cases.0) in
    sym (ap (λ (x : Walked). x.choices) (ends (g.F.Factory.costs c.args.setting.now.factory.now) c.args.setting.now.limit c.args.setting.now.core.now.nodes c.loop-frame.walk none))
    ∙ ap (λ (x : Walked). x.choices) c.loop-frame.invariant.same
