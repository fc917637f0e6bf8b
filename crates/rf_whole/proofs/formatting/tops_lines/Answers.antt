-- The slots that the tree has are in a row.
use Rattle.std.proofs.Common.{List, sym, subst}
use Rattle.std.proofs.lemmas.Result.{IfOk-weaker}
use Rattle.rf_base_file.specs.ByForms.{top_slots}
use Rattle.rf_style.specs.StyleOf.{seen}
use Rattle.rf_tree.specs.Slots.{NodeSlot}
use Rattle.rf_whole.specs.Groups.{IsRow}
use Rattle.rf_whole.proofs.WholeFile.{tops_row}
use Rattle.rf_whole.proofs.formatting.tops_lines.Goals as goal

pub jobs_lines-requires-clause-row : goal.jobs_lines-requires-clause-row
jobs_lines-requires-clause-row g c κs ls =
    let style = seen c.args.setting.now.style.now in
    let t = c.requires.tops in (
      t.0,
      t.1,
      top_slots t.0 t.1,
      subst (λ (ks : List NodeSlot). IsRow style c.args.tree.now ks t.0 t.1 (top_slots t.0 t.1)) (sym c.all-slots.ensures.slots)
          (tops_row style c.args.tree.now _ t.0 t.1 t.2 (c.tops_in.ensures.slots t.0 t.1 t.2.tree_of) c.tops_in.ensures.below),
    )

pub returns-clause-lines : goal.returns-clause-lines
returns-clause-lines g c =
    IfOk-weaker c.jobs_lines.result _ _
    (λ lines made ts trees h.
    let style = seen c.args.setting.now.style.now in
    made ts trees (top_slots ts trees)
    (subst (λ (ks : List NodeSlot). IsRow style c.args.tree.now ks ts trees (top_slots ts trees)) (sym c.all-slots.ensures.slots)
    (tops_row style c.args.tree.now _ ts trees h (c.tops_in.ensures.slots ts trees h.tree_of) c.tops_in.ensures.below)))
    c.jobs_lines.ensures.lines

pub returns-clause-too_long : goal.returns-clause-too_long
returns-clause-too_long g c is ts trees h =
    let style = seen c.args.setting.now.style.now in
    c.jobs_lines.ensures.too_long is ts trees (top_slots ts trees)
    (subst (λ (ks : List NodeSlot). IsRow style c.args.tree.now ks ts trees (top_slots ts trees)) (sym c.all-slots.ensures.slots)
    (tops_row style c.args.tree.now _ ts trees h (c.tops_in.ensures.slots ts trees h.tree_of) c.tops_in.ensures.below))
