-- From the end of the frontier, each turn of the loop takes away one measure more.
use Rattle.std.proofs.Common.{◌++◌, ◌∷◌, [], ap, ◌∙◌, arith, rules}
use Rattle.std.proofs.lemmas.List.{nil_from_length}
use Rattle.std.proofs.lemmas.Result.{on_ok_weaker}
use Rattle.rf_base_cost.specs.Pareto.{pareto}
use Rattle.rf_frontier.proofs.Ends.{end_of, front_of, end_dropped, kept_behind, alone_behind}
use Rattle.rf_frontier.proofs.merging.merge_one.Goals as goal

pub le-requires-clause-second : goal.le-requires-clause-second
le-requires-clause-second g c =
    (end_of (g.F.Factory.costs c.args.factory.now) c.loop-all.all c.len-in-loop-all.result c.get-m.result c.len-in-loop-all.ensures (omega arith) c.get-m.ensures
    c.loop-all.invariant.first c.loop-all.invariant.first_values).3

pub loop-all-preserved : goal.loop-all-preserved
loop-all-preserved g c =
    let end = end_of (g.F.Factory.costs c.args.factory.now) c.loop-all.all c.len-in-loop-all.result c.get-m.result c.len-in-loop-all.ensures (omega arith) c.get-m.ensures
    c.loop-all.invariant.first c.loop-all.invariant.first_values in
    let front = front_of (g.F.Factory.costs c.args.factory.now) c.loop-all.all c.drop_last.new.self c.get-m.result end c.drop_last.ensures in
    record {
      so_far = end_dropped (g.F.Factory.costs c.args.factory.now) (g.met.F.Factory.lawful c.args.factory.now) c.loop-all.all c.drop_last.new.self c.get-m.result c.args.k
          end c.requires.second_value c.if-m-k.false (search rules) c.drop_last.ensures ∙ c.loop-all.invariant.so_far;
      first = front.0;
      first_values = front.1;
      risen = omega arith;
      steps = search rules;
    }

pub returns-then-not-le-clause-merged : goal.returns-then-not-le-clause-merged
returns-then-not-le-clause-merged g c =
    let end = end_of (g.F.Factory.costs c.args.factory.now) c.loop-all.all c.len-in-loop-all.result c.get-m.result c.len-in-loop-all.ensures (omega arith) c.get-m.ensures
    c.loop-all.invariant.first c.loop-all.invariant.first_values in
    on_ok_weaker c.push.result
    (λ e. kept_behind (g.F.Factory.costs c.args.factory.now) (g.met.F.Factory.lawful c.args.factory.now) c.loop-all.all c.push.new.self c.get-m.result c.args.k
    end c.loop-all.invariant.first c.requires.second_value c.if-m-k.false (search rules) e ∙ c.loop-all.invariant.so_far)
    c.push.ensures

pub returns-clause-merged : goal.returns-clause-merged
returns-clause-merged g c =
    let none = nil_from_length c.loop-all.all (omega arith) in
    on_ok_weaker c.push-2.result
    (λ e. alone_behind (g.F.Factory.costs c.args.factory.now) (g.met.F.Factory.lawful c.args.factory.now) c.loop-all.all c.push-2.new.self
    (pareto (g.F.Factory.costs c.args.factory.now) (c.args.all.now ++ c.args.k ∷ [])) c.args.k (omega arith) c.requires.second_value
    (e ∙ ap (λ ms. ms ++ c.args.k ∷ []) none) c.loop-all.invariant.so_far)
    c.push-2.ensures
