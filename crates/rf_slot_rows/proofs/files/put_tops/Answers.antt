-- Each slot stands behind those before it.
use Rattle.std.proofs.Common.{◌≡◌, ◌+◌, false, None, Some, List, [], ◌∷◌, length, map, take, refl, sym, ap, ◌∙◌, subst, arith}
use Rattle.std.proofs.lemmas.List.{take_all, length-map}
use Rattle.std.proofs.lemmas.Option.{slice_get_read}
use Rattle.rf_base_tree.specs.Trees.{Tree}
use Rattle.rf_base_tree.specs.Slots as definition
use Rattle.rf_base_tree.specs.declared.separators.Want.TheVariants as want
use Rattle.rf_base_file.specs.declared.shapes.Role.TheVariants.{Free}
use Rattle.rf_base_file.specs.Rows.{Part, step, row_docs, steps_wanting}
use Rattle.rf_base_file.specs.FileDocument.{top_part}
use Rattle.rf_style.specs.StyleOf.{seen}
use Rattle.rf_tree.specs.Slots.{NodeSlot, NodeSlotStands, kept_slot}
use Rattle.rf_slot_rows.proofs.Runs.{kept_at}
use Rattle.rf_ways.proofs.Below.{below_at}
use Rattle.rf_ways.proofs.NodeParts.{slots_length}
use Rattle.rf_ways.proofs.RowSteps.{docs_behind-none}
use Rattle.rf_slot_rows.specs.Nodes.{tops_of}
use Rattle.rf_slot_rows.specs.Growth.{SlotsAdd}
use Rattle.rf_slot_rows.proofs.Putting.{puts_same, steps_none, steps_both}
use Rattle.rf_slot_rows.proofs.Walking.{behind_put, same_steps, top_is, tops_more}
use Rattle.rf_slot_rows.proofs.ListPieces.{slot_taken}
use Rattle.rf_slot_rows.proofs.Sizes.{slots_more}
use Rattle.rf_slot_rows.proofs.files.put_tops.Goals as goal

pub loop-slot-init : goal.loop-slot-init
loop-slot-init c =
    record {
      put = λ ts trees ss holds stand. steps_none ts c.args.rows.now None;
      grown = λ few ts trees ss holds stand. omega arith;
    }

pub slot_first-next-requires : goal.slot_first-next-requires
slot_first-next-requires c =
    let all = c.args.slots.now in
    let kept = map kept_slot all in
    let i = c.loop-slot.slot-index in
    let r = c.requires.slots in
    let item = c.slot-item.result in
    let at = kept_at all i item (slice_get_read all (length all) i item refl c.loop-slot-test.true c.slot-item.is) in
    let s = slot_taken r.0 c.args.context.now.tree.now.nodes kept r.2 i (kept_slot item) r.4 at in
    (r.0, r.1, s.slot, r.3, subst (λ (k : NodeSlot). NodeSlotStands r.0 c.args.context.now.tree.now.nodes k s.slot) (sym c.as_ref.ensures) s.stands)

pub put_top-requires : goal.put_top-requires
put_top-requires c =
    let all = c.args.slots.now in
    let kept = map kept_slot all in
    let i = c.loop-slot.slot-index in
    let r = c.requires.slots in
    let nodes = c.args.context.now.tree.now.nodes in
    let item = c.slot-item.result in
    let at = kept_at all i item (slice_get_read all (length all) i item refl c.loop-slot-test.true c.slot-item.is) in
    let s = slot_taken r.0 nodes kept r.2 i (kept_slot item) r.4 at in
    record { top = (r.0, r.1, s.slot, r.3, s.stands, below_at (length nodes) kept i (kept_slot item) c.requires.below at) }

pub loop-slot-preserved : goal.loop-slot-preserved
loop-slot-preserved c =
    let all = c.args.slots.now in
    let kept = map kept_slot all in
    let i = c.loop-slot.slot-index in
    let nodes = c.args.context.now.tree.now.nodes in
    let style = seen c.args.context.now.style.now in
    let inv = c.loop-slot.invariant in
    let item = c.slot-item.result in
    let at = kept_at all i item (slice_get_read all (length all) i item refl c.loop-slot-test.true c.slot-item.is) in
    record {
      put =
          λ ts trees ss holds stand.
          let s = slot_taken ts nodes kept ss i (kept_slot item) stand at in
          let p : Part = top_part style ts s.slot in
          let stands = subst (λ (k : NodeSlot). NodeSlotStands ts nodes k s.slot) (sym c.as_ref.ensures) s.stands in
          let next = c.slot_first-next.ensures style false Free ts s.slot stands ∙ ap (λ (q : Part). q.first) (top_is style ts s.slot) in
          same_steps ts c.args.rows.now c.put_top.new.rows None (Some c.in_ok-end.end) _ _ (tops_more style ts want.Must (take i ss) (take (i + 1) ss) s.slot s.taken)
          (steps_both ts c.args.rows.now c.loop-slot.rows c.put_top.new.rows None c.loop-slot.last (Some c.in_ok-end.end)
          (steps_wanting want.Must (tops_of style ts (take i ss))) (step want.Must p ∷ []) (inv.put ts trees ss holds stand)
          (behind_put ts c.loop-slot.rows c.put_gap_behind.new.rows c.put_top.new.rows c.loop-slot.last c.slot_first-next.result want.Must p c.in_ok-end.end next
          (c.in_ok-put_gap_behind.ensures.put ts trees holds) (c.in_ok-end.ensures.put ts trees s.slot holds s.stands)));
      grown =
          λ few ts trees ss holds stand.
          let s = slot_taken ts nodes kept ss i (kept_slot item) stand at in
          let more = slots_more ts (take i ss) (take (i + 1) ss) s.slot s.taken in
          omega (arith, inv.grown few ts trees ss holds stand, c.in_ok-put_gap_behind.ensures.grown few, c.in_ok-end.ensures.grown few ts trees s.slot holds s.stands, more.0, more.1, more.2);
    }

pub returns-clause-put : goal.returns-clause-put
returns-clause-put c ts trees ss holds stand =
    let style = seen c.args.context.now.style.now in
    let size = slots_length ts c.args.context.now.tree.now.nodes (map kept_slot c.args.slots.now) ss stand ∙ length-map c.args.slots.now kept_slot in
    let past = c.loop-slot-test.false in
    let all : take c.loop-slot.slot-index ss ≡ ss = take_all c.loop-slot.slot-index ss (omega (arith, size, past)) in
    puts_same c.args.rows.now c.loop-slot.rows _ (row_docs ts (steps_wanting want.Must (tops_of style ts ss)))
    (docs_behind-none ts _ ∙ ap (λ (xs : List (definition.Slot Tree)). row_docs ts (steps_wanting want.Must (tops_of style ts xs))) all)
    (c.loop-slot.invariant.put ts trees ss holds stand).docs

pub returns-clause-grown : goal.returns-clause-grown
returns-clause-grown c few ts trees ss holds stand =
    let size = slots_length ts c.args.context.now.tree.now.nodes (map kept_slot c.args.slots.now) ss stand ∙ length-map c.args.slots.now kept_slot in
    let past = c.loop-slot-test.false in
    let all : take c.loop-slot.slot-index ss ≡ ss = take_all c.loop-slot.slot-index ss (omega (arith, size, past)) in
    subst (λ (xs : List (definition.Slot Tree)). SlotsAdd 0 ts xs c.args.rows.now c.loop-slot.rows) all (c.loop-slot.invariant.grown few ts trees ss holds stand)
