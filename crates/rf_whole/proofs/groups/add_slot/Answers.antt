-- One slot is one paragraph.
use Rattle.std.proofs.Common.{◌≡◌, ◌<◌, ◌++◌, Err, List, length, sym, ap, subst}
use Rattle.std.specs.List.{AllByRecursion}
use Rattle.std.proofs.lemmas.Result.{on_ok_weaker}
use Rattle.rf_base_optimum.specs.Paragraphs.{Paragraph}
use Rattle.rf_base_file.specs.FileDocument.{style_doc}
use Rattle.rf_style.specs.StyleOf.{seen}
use Rattle.rf_base_grammar.specs.Token.{Token}
use Rattle.rf_base_tree.specs.Trees.{Tree}
use Rattle.rf_base_tree.specs.Slots.{Slot}
use Rattle.rf_tree.specs.Slots.{NodeSlot, NodeSlotStands, parts_in, read_slot}
use Rattle.rf_tree.specs.Told.{Node}
use Rattle.rf_whole.specs.Lines.{ArePastLimit}
use Rattle.rf_whole.specs.Laid.{AreLinesOf}
use Rattle.rf_whole.proofs.Formed.{width_is_column}
use Rattle.rf_whole.proofs.TooLong.{told_long}
use Rattle.rf_whole.proofs.FormEnds.{long_form_past}
use Rattle.rf_whole.proofs.Together.{past_behind}
use Rattle.rf_whole.proofs.GroupRows.{one_row, one_paragraph}
use Rattle.rf_whole.proofs.groups.add_slot.Goals as goal

-- the slot that is made of it stands for what it stands for
stands_too : (ts : List Token) (nodes : List Node) (kept read : NodeSlot) (q : Slot Tree) → kept ≡ read → NodeSlotStands ts nodes read q → NodeSlotStands ts nodes kept q
stands_too ts nodes kept read q e h = subst (λ (k : NodeSlot). NodeSlotStands ts nodes k q) (sym e) h

pub lay_form-requires-clause-top : goal.lay_form-requires-clause-top
lay_form-requires-clause-top g c =
    let r = c.requires.row in
    let one = one_row (seen c.args.task.now.style.now) c.args.task.now.tree.now (read_slot c.args.slot) r.0 r.1 r.2 r.3 in (
      r.0,
      r.1,
      one.q,
      r.3.tree_of,
      stands_too r.0 c.args.task.now.tree.now.nodes _ _ one.q c.in_ok-slot.ensures one.stands,
      subst (λ (k : NodeSlot). AllByRecursion (λ at. at.0 < length c.args.task.now.tree.now.nodes) (parts_in k)) (sym c.in_ok-slot.ensures) r.3.below.0,
    )

pub lay_form-requires-clause-pieces : goal.lay_form-requires-clause-pieces
lay_form-requires-clause-pieces g c =
    let r = c.requires.row in
    let one = one_row (seen c.args.task.now.style.now) c.args.task.now.tree.now (read_slot c.args.slot) r.0 r.1 r.2 r.3 in
    (r.0, r.1, one.q, r.3.tree_of, stands_too r.0 c.args.task.now.tree.now.nodes _ _ one.q c.in_ok-slot.ensures one.stands, one.few)

pub returns-in_err-lay_form-clause-too_long : goal.returns-in_err-lay_form-clause-too_long
returns-in_err-lay_form-clause-too_long g c is ts trees qs row ps documents cores lines =
    let style = seen c.args.task.now.style.now in
    let costs = g.F.Factory.costs c.args.task.now.factory.now in
    let one = one_row style c.args.task.now.tree.now (read_slot c.args.slot) ts trees qs row in
    past_behind costs (g.met.F.Factory.lawful c.args.task.now.factory.now) c.args.task.now.limit ps _ (width_is_column c.args.task.now.limit c.args.task.now.width) documents cores
    (subst (λ (qs : List Paragraph). ArePastLimit costs c.args.task.now.limit qs) (sym (one_paragraph style c.args.task.now.tree.now (read_slot c.args.slot) ts qs c.args.behind one))
    (long_form_past costs c.args.task.now.limit (record { doc = style_doc style ts one.q; blanks = c.args.behind })
    (c.in_err-lay_form.ensures.too_long (ap Err (told_long _ _ c.from_residual-in_err-lay_form.ensures.1 is)) ts trees one.q row.tree_of (stands_too ts c.args.task.now.tree.now.nodes _ _ one.q c.in_ok-slot.ensures one.stands))))

pub add_form-requires-clause-form : goal.add_form-requires-clause-form
add_form-requires-clause-form g c =
    let style = seen c.args.task.now.style.now in
    let r = c.requires.row in
    let one = one_row style c.args.task.now.tree.now (read_slot c.args.slot) r.0 r.1 r.2 r.3 in
    (c.args.task.now.limit, style_doc style r.0 one.q, one.document, c.in_ok-lay_form.ensures.form r.0 r.1 one.q r.3.tree_of (stands_too r.0 c.args.task.now.tree.now.nodes _ _ one.q c.in_ok-slot.ensures one.stands) one.document)

pub returns-clause-lines : goal.returns-clause-lines
returns-clause-lines g c =
    on_ok_weaker c.add_form.result
    (λ added ts trees qs row ps lines.
    let style = seen c.args.task.now.style.now in
    let costs = g.F.Factory.costs c.args.task.now.factory.now in
    let one = one_row style c.args.task.now.tree.now (read_slot c.args.slot) ts trees qs row in
    subst (λ (qs : List Paragraph). AreLinesOf costs c.args.task.now.limit (ps ++ qs) c.add_form.new.lines) (sym (one_paragraph style c.args.task.now.tree.now (read_slot c.args.slot) ts qs c.args.behind one))
    (added c.args.task.now.limit ps (style_doc style ts one.q) one.document lines (c.in_ok-lay_form.ensures.form ts trees one.q row.tree_of (stands_too ts c.args.task.now.tree.now.nodes _ _ one.q c.in_ok-slot.ensures one.stands) one.document)))
    c.add_form.ensures.lines

pub returns-clause-too_long : goal.returns-clause-too_long
returns-clause-too_long g c is ts trees qs row ps documents cores lines =
    let style = seen c.args.task.now.style.now in
    let costs = g.F.Factory.costs c.args.task.now.factory.now in
    let one = one_row style c.args.task.now.tree.now (read_slot c.args.slot) ts trees qs row in
    subst (λ (qs : List Paragraph). ArePastLimit costs c.args.task.now.limit (ps ++ qs)) (sym (one_paragraph style c.args.task.now.tree.now (read_slot c.args.slot) ts qs c.args.behind one))
    (c.add_form.ensures.too_long is c.args.task.now.limit ps (style_doc style ts one.q) lines (c.in_ok-lay_form.ensures.form ts trees one.q row.tree_of (stands_too ts c.args.task.now.tree.now.nodes _ _ one.q c.in_ok-slot.ensures one.stands) one.document))
