-- Each node is laid out behind those before it.
use Rattle.std.proofs.Common.{◌≡◌, ℕ, Option, List, [], drop, slice_index_or, refl, ap, subst, arith}
use Rattle.std.specs.Prelude.{IfSome}
use Rattle.std.proofs.lemmas.List.{drop_all}
use Rattle.rf_base_tree.specs.declared.separators.Want.TheVariants as want
use Rattle.rf_base_tree.specs.Slots.{Entry}
use Rattle.rf_base_tree.specs.Trees.{Tree}
use Rattle.rf_base_file.specs.Rows.{steps_wanting}
use Rattle.rf_style.specs.StyleOf.{seen}
use Rattle.rf_tree.specs.declared.nodes.At.{At}
use Rattle.rf_ways.specs.Steps.{docs_behind}
use Rattle.rf_ways.proofs.NodeParts.{entries_length}
use Rattle.rf_rows.proofs.Frames.{may_go, past_from, are_laid, then_laid, no_frames}
use Rattle.rf_rows.proofs.Turns.{same_err}
use Rattle.rf_slot_rows.specs.Leads.{BehindLaid}
use Rattle.rf_slot_rows.specs.Nodes.{nodes_in}
use Rattle.rf_slot_rows.proofs.LeadLines.{lines_from, next_entry, node_on}
use Rattle.rf_slot_rows.proofs.leads.lay_nodes.Goals as goal

-- what a loop reads past the end
abbrev no_node : At
no_node = record { 0 = 0 }

pub lay_behind-requires-clause-next : goal.lay_behind-requires-clause-next
lay_behind-requires-clause-next g c =
    let next = c.requires.next in
    let e = next_entry c.args.context.now c.args.nodes.now next.0 next.2 c.loop-at.at-index no_node next.4 c.loop-at-test.true in (
      next.0,
      next.1,
      e.entry.what,
      next.3,
      e.stands,
      may_go (node_on g.P.Paper.holds c.args.spot c.args.context.now c.args.nodes.now c.args.place next.0 next.2 c.loop-at.at-index no_node c.loop-at.last next.4 c.loop-at-test.true refl
          (c.loop-at.invariant.laid next.0 next.1 next.2 next.3 next.4)) next.5,
    )

pub returns-in_err-end-clause-too_long : goal.returns-in_err-end-clause-too_long
returns-in_err-end-clause-too_long g c long ts trees es holds stand =
    let e = next_entry c.args.context.now c.args.nodes.now ts es c.loop-at.at-index no_node stand c.loop-at-test.true in
    past_from (node_on g.P.Paper.holds c.args.spot c.args.context.now c.args.nodes.now c.args.place ts es c.loop-at.at-index no_node c.loop-at.last stand c.loop-at-test.true refl
    (c.loop-at.invariant.laid ts trees es holds stand))
    (c.in_err-end.ensures.too_long (same_err c.from_residual.ensures.1 long) ts trees e.entry.what holds e.stands)

pub loop-at-preserved : goal.loop-at-preserved
loop-at-preserved g c = record {
  laid = λ ts trees es holds stand.
      let e = next_entry c.args.context.now c.args.nodes.now ts es c.loop-at.at-index no_node stand c.loop-at-test.true in
      let here = subst (λ (o : Option ℕ). IfSome o (BehindLaid c.args.context.now (slice_index_or c.args.nodes.now c.loop-at.at-index no_node) c.args.place c.args.spot c.loop-at.last g.P.Paper.holds c.loop-at.paper c.lay_behind.new.paper)) c.in-Some.is
      c.in_ok-end.ensures.laid ts trees e.entry.what holds e.stands in
      then_laid (node_on g.P.Paper.holds c.args.spot c.args.context.now c.args.nodes.now c.args.place ts es c.loop-at.at-index no_node c.loop-at.last stand c.loop-at-test.true here.0
      (c.loop-at.invariant.laid ts trees es holds stand)) here.1;
}

pub returns-clause-laid : goal.returns-clause-laid
unfolding docs_behind
returns-clause-laid g c is ts trees es holds stand =
    let context = c.args.context.now in
    let last = c.loop-at.last in
    let i = c.loop-at.at-index in
    let count = entries_length ts context.tree.now.nodes c.args.nodes.now es stand in
    let none : drop i es ≡ [] = drop_all i es (omega (arith, count, c.loop-at-test.false)) in
    are_laid (c.loop-at.invariant.laid ts trees es holds stand)
    (no_frames g.P.Paper.holds c.loop-at.paper c.args.spot (docs_behind ts last (lines_from context c.args.place ts es i)) []
    (ap (λ (xs : List (Entry Tree)). docs_behind ts last (steps_wanting want.Line (nodes_in (seen context.style.now) ts c.args.place.quoted c.args.place.role xs))) none))
