-- What is seen so far has the frontier of the key, and what is seen from it is what is seen from the key.
use Rattle.std.proofs.Common.{◌≡◌, ◌≤◌, ◌-◌}
use Rattle.rf_resolve.specs.Keys.{IsAsked, SameFrontier, seen_to, seen}
use Rattle.rf_resolve.proofs.keys.through.Given as goal

abbrev pub invariant-loop : goal.invariant-loop
invariant-loop g l = record {
  asked : IsAsked l.setting.core.now.nodes l.setting.limit l.at;
  earlier : l.at.node ≤ l.fn.key.node;
  same : SameFrontier (g.F.Factory.costs l.setting.factory.now) l.setting.limit l.setting.core.now.nodes l.fn.key l.at;
  seen_is : seen_to (16 - l.counter) l.setting.core.now.nodes l.setting.limit l.at ≡ seen l.setting.core.now.nodes l.setting.limit l.fn.key;
}
