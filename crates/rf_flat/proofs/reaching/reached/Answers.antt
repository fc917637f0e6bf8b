-- At first the root alone is marked, and each turn goes one node down.
use Rattle.std.proofs.Common.{Bool, true, List, ap, arith}
use Rattle.std.proofs.lemmas.Grind.{common_steps}
use Rattle.std.proofs.Math.ListN.{set}
use Rattle.rf_flat.proofs.Marks.{root_marked, same_marks, all_anew}
use Rattle.rf_flat.proofs.reaching.reached.Goals as goal

pub loop-n-init : goal.loop-n-init
loop-n-init c =
    root_marked _ c.args.root _ (ap (λ (l : List Bool). set l c.args.root true) (c.in_ok-marks.ensures.items_if_clones_equal (λ y e. e)))

pub mark_from-requires-clause-later : goal.mark_from-requires-clause-later
mark_from-requires-clause-later c = same_marks _ c.args.root c.loop-n.n _ c.loop-n.marks.items _ (omega arith) c.deref_mut.ensures.value c.loop-n.invariant

pub loop-n-preserved : goal.loop-n-preserved
loop-n-preserved c = same_marks _ c.args.root _ _ c.mark_from.new.marks _ (omega arith) (all_anew _ c.loop-n.marks.items c.mark_from.new.marks (grind (arith, common_steps))) c.mark_from.ensures
