-- A node that is a comment stands for one.
use Rattle.std.proofs.Common.{◌≡◌, ◌∙◌, ◌∷◌, [], ℕ, slice_index_or, take, ap, sym, subst, add-one, arith}
use Rattle.std.proofs.lemmas.List.{take_all}
use Rattle.std.proofs.lemmas.Option.{slice_get-get_or}
use Rattle.rf_base_tree.specs.Slots.{Entry}
use Rattle.rf_base_tree.specs.Trees.{Tree, Comment}
use Rattle.rf_base_file.proofs.Each.{each-append}
use Rattle.rf_tree.specs.declared.nodes.At.{At}
use Rattle.rf_tree.proofs.ToldNodes.{told_some}
use Rattle.rf_ways.proofs.NodeParts.{entry_at, entries_length}
use Rattle.rf_slot_rows.specs.Leads.{AreComments}
use Rattle.rf_slot_rows.proofs.Walking.{comment_is}
use Rattle.rf_slot_rows.proofs.leads.are_comments.Goals as goal

pub loop-at-preserved : goal.loop-at-preserved
loop-at-preserved c = record {
  so_far = λ ts es stand.
      let nodes = c.args.tree.now.nodes in
      let ats = c.args.nodes.now in
      let i = c.loop-at.at-index in
      let none : At = record { 0 = 0 } in
      let at = slice_index_or ats i none in
      let e = entry_at ts nodes ats es i at stand (slice_get-get_or ats i none c.loop-at-test.true) in
      let there = told_some nodes at.0 c.get.ensures c.in-Some-Comment.is c.in-Some-Comment.field-0-is in
      let here = comment_is ts nodes at.0 c.in-Some-Comment.field-0-0 e.entry.what there e.stands in
      subst AreComments (sym (ap (λ (n : ℕ). take n es) (add-one i) ∙ e.taken))
      (each-append (λ (x : Entry Tree). (item : ℕ) × (x.what ≡ Comment item)) (take i es) (e.entry ∷ []) (c.loop-at.invariant.so_far ts es stand) ((c.in-Some-Comment.field-0-0, here), tt));
}

pub returns : goal.returns
returns c is ts es stand =
    let i = c.loop-at.at-index in
    let count = entries_length ts c.args.tree.now.nodes c.args.nodes.now es stand in
    subst AreComments (take_all i es (omega (arith, count, c.loop-at-test.false))) (c.loop-at.invariant.so_far ts es stand)
