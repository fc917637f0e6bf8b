-- What isn't laid out at once is put on the stack, and laid out from there.
use Rattle.std.proofs.Common.{◌≡◌, ℕ, Option, None, Some, Ok, List, [], refl, ap, sym, subst}
use Rattle.rf_base_document.specs.Document.{Doc}
use Rattle.rf_style.specs.StyleOf.{seen}
use Rattle.rf_rows.specs.declared.pieces.Fill.TheVariants as fill
use Rattle.rf_rows.specs.Laying.{frames_of, MayGoOn, AreLaid, ArePast}
use Rattle.rf_rows.specs.Rows.{stacked}
use Rattle.rf_rows.proofs.Turns.{same_err}
use Rattle.rf_slot_rows.specs.Leads.{line_docs}
use Rattle.rf_slot_rows.proofs.LeadLines.{put_docs, put_last}
use Rattle.rf_slot_rows.proofs.leads.lay_behind.Goals as goal

-- what is some number of no item is none
none_of : (o : Option ℕ) → ((n : ℕ) → o ≡ Some n → ⊥) → o ≡ None
none_of None not = refl
none_of (Some n) not = absurd (not n refl)

pub returns-in_err-end-clause-too_long : goal.returns-in_err-end-clause-too_long
returns-in_err-end-clause-too_long g c long = c.in_err-end.ensures.too_long (same_err c.from_residual.ensures.1 long)

pub lay_out_stack-requires : goal.lay_out_stack-requires
lay_out_stack-requires g c =
    let context = c.args.context.now in
    let next = c.requires.next in
    let same = c.in_ok-end.ensures.same (ap Ok (none_of c.in_ok-end.field-0 c.in_default.not-Some)) in
    let docs = put_docs context c.args.at c.args.place c.args.before c.clear.new.self c.put_behind.new.rows c.in_ok-end-2.end next.0 next.1 next.2 c.clear.ensures.empty c.in_ok-end-2.ensures.put next.3 next.4 in
    subst (λ (paper : g.row.P.Denot). MayGoOn g.P.Paper.holds paper (frames_of c.args.spot (stacked c.put_behind.new.rows fill.Space)) []) (sym same)
    (subst (λ (ds : List Doc). MayGoOn g.P.Paper.holds c.args.paper.now (frames_of c.args.spot ds) []) (sym docs) next.5)

pub returns-in_err-lay_out_stack-clause-too_long : goal.returns-in_err-lay_out_stack-clause-too_long
returns-in_err-lay_out_stack-clause-too_long g c long ts trees t holds unfolds =
    let context = c.args.context.now in
    let same = c.in_ok-end.ensures.same (ap Ok (none_of c.in_ok-end.field-0 c.in_default.not-Some)) in
    let docs = put_docs context c.args.at c.args.place c.args.before c.clear.new.self c.put_behind.new.rows c.in_ok-end-2.end ts trees t c.clear.ensures.empty c.in_ok-end-2.ensures.put holds unfolds in
    subst (λ (paper : g.row.P.Denot). ArePast g.P.Paper.holds paper (frames_of c.args.spot (line_docs c.args.place (seen context.style.now) ts c.args.before t)) []) same
    (subst (λ (ds : List Doc). ArePast g.P.Paper.holds c.lay_at_once.new.paper (frames_of c.args.spot ds) []) docs
    (c.in_err-lay_out_stack.ensures.too_long (same_err c.from_residual-in_err-lay_out_stack.ensures.1 long)))

pub returns-then-branch-clause-laid : goal.returns-then-branch-clause-laid
returns-then-branch-clause-laid g c ts trees t holds unfolds =
    let context = c.args.context.now in
    let same = c.in_ok-end.ensures.same (ap Ok (none_of c.in_ok-end.field-0 c.in_default.not-Some)) in
    let docs = put_docs context c.args.at c.args.place c.args.before c.clear.new.self c.put_behind.new.rows c.in_ok-end-2.end ts trees t c.clear.ensures.empty c.in_ok-end-2.ensures.put holds unfolds in (
      put_last context c.args.at c.args.place c.args.before c.clear.new.self c.put_behind.new.rows c.in_ok-end-2.end ts trees t c.in_ok-end-2.ensures.put holds unfolds,
      subst (λ (paper : g.row.P.Denot). AreLaid g.P.Paper.holds paper c.lay_out_stack.new.paper (frames_of c.args.spot (line_docs c.args.place (seen context.style.now) ts c.args.before t)) [] []) same
          (subst (λ (ds : List Doc). AreLaid g.P.Paper.holds c.lay_at_once.new.paper c.lay_out_stack.new.paper (frames_of c.args.spot ds) [] []) docs
          (c.in_ok-lay_out_stack.ensures.laid (ap Ok c.if-branch.true))),
    )
