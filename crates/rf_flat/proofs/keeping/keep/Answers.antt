-- Each turn keeps a node if it is marked.
use Rattle.std.proofs.Common.{rules, ◌≡◌, ℕ, ◌+◌, List, Vec, Global, length, ap, sym, subst, ◌∙◌, arith}
use Rattle.rf_flat.specs.declared.cores.CoreNode.{CoreNode}
use Rattle.rf_flat.specs.Cores.{core_nodes}
use Rattle.rf_flat.specs.Kept.{KeptUpTo}
use Rattle.rf_flat.proofs.Fronts.{none_in_front, one_in_front, none_more_in_front, parts_before}
use Rattle.rf_flat.proofs.Growing.{one_longer}
use Rattle.rf_flat.proofs.Ranks.{kept_all, moved_over}
use Rattle.rf_flat.proofs.keeping.keep.Goals as goal
use Rattle.rf_flat.proofs.keeping.keep.Goals.{then-marks-n, else-marks-n}

pub loop-n-init : goal.loop-n-init
loop-n-init c = none_in_front _ c.args.marks.now _ c.new-places.ensures.items

pub moved-requires : goal.moved-requires
moved-requires c =
    let long : length c.deref.result.now ≡ c.loop-n.n + 1 =
    ap (λ (l : List ℕ). length l) c.deref.ensures.value ∙ one_longer _ _ _ c.loop-n.n c.in_ok-push.ensures.items c.loop-n.invariant.kept.count in
    parts_before c.args.nodes.now.items c.args.marks.now c.loop-n.n c.loop-n.count _ _ c.loop-n.places.items c.loop-n.nodes.items c.requires.is_graph
    (omega (arith, c.requires.marked.count)) c.loop-n.invariant c.index.ensures (omega arith)

pub index_mut-requires : goal.index_mut-requires
index_mut-requires c = omega (arith, c.requires.marked.count, c.loop-n.invariant.long, c.loop-n.invariant.few)

pub overflow_add-count : goal.overflow_add-count
overflow_add-count c = search rules

pub loop-n-preserved : goal.loop-n-preserved
loop-n-preserved c =
    elim c.if-marks-n.branch [
      | then-marks-n w ↦
          one_in_front c.args.nodes.now.items c.args.marks.now c.args.root c.loop-n.n _ c.loop-n.count _ _ w.moved.result c.loop-n.places.items _ c.loop-n.nodes.items _
          c.requires.is_graph (omega (arith, c.requires.marked.count)) c.requires.marked c.loop-n.invariant w.if-marks-n.true c.in_ok-push.ensures.items c.in_ok-as_place.ensures w.index.ensures
          (moved_over _ _ _ _ w.deref.ensures.value w.moved.ensures) w.count-is (ap (λ (v : Vec CoreNode Global). v.items) w.nodes-is)
      | else-marks-n w ↦
          none_more_in_front c.args.nodes.now.items c.args.marks.now c.loop-n.n _ c.loop-n.count _ c.loop-n.places.items _ c.loop-n.nodes.items _
          (omega (arith, c.requires.marked.count)) c.loop-n.invariant w.if-marks-n.false c.in_ok-push.ensures.items c.in_ok-as_place.ensures w.count-is
          (ap (λ (v : Vec CoreNode Global). v.items) w.nodes-is)
    ]

pub returns : goal.returns
returns c = (
  c.loop-n.places.items,
  subst (λ (l : List CoreNode). KeptUpTo (core_nodes c.args.nodes.now.items) c.args.marks.now (length c.args.marks.now) c.loop-n.places.items (core_nodes l))
      (sym c.truncate.ensures.items) (kept_all _ c.args.marks.now _ _ _ _ (omega arith) c.loop-n.invariant.kept),
)
