-- A turn adds what is known of one node.
use Rattle.std.proofs.Common.{List, length, ap, ◌∙◌}
use Rattle.rf_frontier.proofs.Ways.{keeps_same, keeps_then}
use Rattle.rf_outline.specs.declared.facts.Known.{Known}
use Rattle.rf_outline.proofs.Holds.{are_known_kept, none_known, one_more_known, one_longer, some_kept}
use Rattle.rf_outline.proofs.outlining.outline.Goals as goal

pub loop-n-init : goal.loop-n-init
loop-n-init c = record {
  before = ap (λ (l : List Known). length l) (c.in_ok-reserve.ensures.items ∙ c.clear.ensures.items);
  known = none_known c.args.hows.now c.args.graph.now c.reserve.new.self.items (c.in_ok-reserve.ensures.items ∙ c.clear.ensures.items);
  older = keeps_same c.args.hows.now;
  some = c.requires;
}

pub returns-in_err-known-clause-older : goal.returns-in_err-known-clause-older
returns-in_err-known-clause-older c = keeps_then c.args.hows.now c.loop-n.hows _ c.loop-n.invariant.older c.outline_node.ensures.older

pub returns-in_err-push-clause-older : goal.returns-in_err-push-clause-older
returns-in_err-push-clause-older c = keeps_then c.args.hows.now c.loop-n.hows _ c.loop-n.invariant.older c.outline_node.ensures.older

pub loop-n-preserved : goal.loop-n-preserved
loop-n-preserved c = record {
  before = one_longer c.loop-n.list.items c.push.new.self.items c.loop-n.n c.in_ok-known.known c.in_ok-push.ensures.items c.loop-n.invariant.before;
  known = one_more_known _ c.args.graph.now c.loop-n.list.items c.push.new.self.items c.loop-n.n c.in_ok-known.known c.in_ok-push.ensures.items c.loop-n.invariant.before
      (are_known_kept c.loop-n.hows _ c.args.graph.now c.loop-n.list.items c.in_ok-known.ensures.older c.loop-n.invariant.known) c.in_ok-known.ensures.known;
  older = keeps_then c.args.hows.now c.loop-n.hows _ c.loop-n.invariant.older c.outline_node.ensures.older;
  some = some_kept c.loop-n.hows _ c.outline_node.ensures.older c.loop-n.invariant.some;
}
