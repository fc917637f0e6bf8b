-- A turn puts the leaf behind one measure more.
use Rattle.std.proofs.Common.{◌+◌, [], ◌∷◌, take, refl, sym, ap, ◌∙◌, subst, arith}
use Rattle.rf_base_cut.specs.Cut.{cut}
use Rattle.rf_frontier.proofs.Ways.{keeps_same}
use Rattle.rf_search.specs.declared.taking.Behind.TheVariants.{One}
use Rattle.rf_search.specs.Behind.{AreBehindAll}
use Rattle.rf_search.specs.Sought.{task}
use Rattle.rf_search.proofs.AtOnce.{known_nothing, known_one}
use Rattle.rf_search.proofs.Going.{before_there, none_all, all_frontier, all_next, all_next_none}
use Rattle.rf_search.proofs.Kept.{one_kept, one_value_of, one_more_is_frontier}
use Rattle.rf_search.proofs.Nodes.{found_frontier}
use Rattle.rf_search.proofs.leaves.leaf_behind_each.Goals.{in-Nothing, in-One+in_ok-merge_one-in-One}
use Rattle.rf_search.proofs.leaves.leaf_behind_each.Goals as goal

pub loop-at-init : goal.loop-at-init
loop-at-init g c =
    record {
      near = omega arith;
      so_far = none_all (task c.args.setting.now) c.args.found.now.hows c.args.place.now.node c.args.place.now.flat c.args.place.now.indentation c.args.place.now.cut c.none-all.result c.none-all.ensures;
    }

pub behind_known_leaf-requires-clause-asked : goal.behind_known_leaf-requires-clause-asked
behind_known_leaf-requires-clause-asked g c =
    before_there (task c.args.setting.now) c.args.found.now.hows c.args.place.now.node c.args.firsts.now c.loop-at.at c.get-k.result c.requires.before c.get-k.ensures

pub merge_one-requires-clause-first : goal.merge_one-requires-clause-first
merge_one-requires-clause-first g c =
    (all_frontier (task c.args.setting.now) c.args.found.now.hows c.args.found.now.hows c.args.place.now.node c.args.place.now.flat c.args.place.now.indentation c.args.place.now.cut c.args.firsts.now c.loop-at.all c.loop-at.at
    c.requires.holds.told c.requires.before c.loop-at.invariant.so_far).0

pub merge_one-requires-clause-first_values : goal.merge_one-requires-clause-first_values
merge_one-requires-clause-first_values g c =
    (all_frontier (task c.args.setting.now) c.args.found.now.hows c.args.found.now.hows c.args.place.now.node c.args.place.now.flat c.args.place.now.indentation c.args.place.now.cut c.args.firsts.now c.loop-at.all c.loop-at.at
    c.requires.holds.told c.requires.before c.loop-at.invariant.so_far).1

pub merge_one-requires-clause-second_value : goal.merge_one-requires-clause-second_value
merge_one-requires-clause-second_value g c =
    one_value_of (task c.args.setting.now).costs One c.behind_known_leaf.new.m [] refl
    (found_frontier (task c.args.setting.now) c.args.found.now.hows c.args.found.now.hows c.args.place.now.node c.args.place.now.flat c.args.place.now.indentation c.args.place.now.cut c.get-k.result (c.behind_known_leaf.new.m ∷ [])
    c.requires.holds.told (before_there (task c.args.setting.now) c.args.found.now.hows c.args.place.now.node c.args.firsts.now c.loop-at.at c.get-k.result c.requires.before c.get-k.ensures)
    (known_one (task c.args.setting.now) c.args.found.now.hows c.args.found.now.hows c.args.place.now.node c.args.place.now.flat c.args.place.now.indentation c.args.place.now.cut c.get-k.result c.behind_known_leaf.new.m c.behind_known_leaf.result (c.behind_known_leaf.ensures c.args.place.now.cut) c.in-One.is)).1

pub cut_off-requires : goal.cut_off-requires
cut_off-requires g c =
    let t = task c.args.setting.now in
    let ways = c.args.found.now.hows in (
      t.costs,
      one_more_is_frontier t.costs (g.met.F.Factory.lawful c.args.setting.now.factory.now) c.loop-at.all c.merge_one.new.all c.behind_known_leaf.new.m
          (all_frontier t ways ways c.args.place.now.node c.args.place.now.flat c.args.place.now.indentation c.args.place.now.cut c.args.firsts.now c.loop-at.all c.loop-at.at c.requires.holds.told c.requires.before c.loop-at.invariant.so_far).1
          (one_value_of t.costs One c.behind_known_leaf.new.m [] refl
          (found_frontier t ways ways c.args.place.now.node c.args.place.now.flat c.args.place.now.indentation c.args.place.now.cut c.get-k.result (c.behind_known_leaf.new.m ∷ [])
          c.requires.holds.told (before_there t ways c.args.place.now.node c.args.firsts.now c.loop-at.at c.get-k.result c.requires.before c.get-k.ensures)
          (known_one t ways ways c.args.place.now.node c.args.place.now.flat c.args.place.now.indentation c.args.place.now.cut c.get-k.result c.behind_known_leaf.new.m c.behind_known_leaf.result (c.behind_known_leaf.ensures c.args.place.now.cut) c.in-One.is)).1)
          c.in_ok-merge_one-in-One.ensures.merged,
    )

pub loop-at-preserved : goal.loop-at-preserved
loop-at-preserved g c =
    let t = task c.args.setting.now in
    let ways = c.args.found.now.hows in
    let own = before_there t ways c.args.place.now.node c.args.firsts.now c.loop-at.at c.get-k.result c.requires.before c.get-k.ensures in
    elim c.match-behind_known_leaf.branch [
      | in-Nothing w ↦
          record {
            near = omega (arith, c.loop-at-test.true, c.len.ensures);
            so_far = subst (λ z. AreBehindAll t ways ways c.args.place.now.node c.args.place.now.flat c.args.place.now.indentation c.args.place.now.cut (take (c.loop-at.at + 1) c.args.firsts.now) z) (sym w.all-is)
                (all_next_none t ways c.args.place.now.node c.args.place.now.flat c.args.place.now.indentation c.args.place.now.cut c.args.firsts.now c.loop-at.all c.loop-at.at (c.loop-at.at + 1) c.get-k.result
                c.get-k.ensures refl c.loop-at.invariant.so_far
                (known_nothing t ways ways c.args.place.now.node c.args.place.now.flat c.args.place.now.indentation c.args.place.now.cut c.get-k.result c.behind_known_leaf.new.m c.behind_known_leaf.result (c.behind_known_leaf.ensures c.args.place.now.cut) w.in-Nothing.is));
          }
      | in-One+in_ok-merge_one-in-One w ↦
          let behind = known_one t ways ways c.args.place.now.node c.args.place.now.flat c.args.place.now.indentation c.args.place.now.cut c.get-k.result c.behind_known_leaf.new.m c.behind_known_leaf.result (c.behind_known_leaf.ensures c.args.place.now.cut) w.in-One.is in
          let values = (all_frontier t ways ways c.args.place.now.node c.args.place.now.flat c.args.place.now.indentation c.args.place.now.cut c.args.firsts.now c.loop-at.all c.loop-at.at c.requires.holds.told c.requires.before c.loop-at.invariant.so_far).1 in
          let one = one_kept t.costs (g.met.F.Factory.lawful c.args.setting.now.factory.now) c.args.place.now.cut c.loop-at.all w.cut_off.new.self One c.behind_known_leaf.new.m [] refl values
          (found_frontier t ways ways c.args.place.now.node c.args.place.now.flat c.args.place.now.indentation c.args.place.now.cut c.get-k.result (c.behind_known_leaf.new.m ∷ []) c.requires.holds.told own behind).1
          (w.cut_off.ensures ∙ ap (λ z. cut c.args.place.now.cut z) w.in_ok-merge_one-in-One.ensures.merged) in
          record {
            near = omega (arith, c.loop-at-test.true, c.len.ensures);
            so_far = subst (λ z. AreBehindAll t ways ways c.args.place.now.node c.args.place.now.flat c.args.place.now.indentation c.args.place.now.cut (take (c.loop-at.at + 1) c.args.firsts.now) z) (sym w.all-is)
                (all_next t ways ways ways c.args.place.now.node c.args.place.now.flat c.args.place.now.indentation c.args.place.now.cut c.args.firsts.now c.loop-at.all (c.behind_known_leaf.new.m ∷ []) w.cut_off.new.self c.loop-at.at (c.loop-at.at + 1) c.get-k.result
                c.requires.holds.told c.requires.before c.get-k.ensures refl (keeps_same ways) (keeps_same ways) c.loop-at.invariant.so_far behind
                (one.belongs ways c.loop-at.invariant.so_far.0 behind.0) (one.chosen ways));
          }
    ]
