-- What the lines are with a form and the line ends behind it.
use Rattle.std.proofs.Common.{refl, ◌≡◌, ℕ, suc, ◌+◌, ◌≤◌, ◌++◌, Err, List, length, replicate, sym, ◌∙◌, ap, subst, inl, inr, arith}
use Rattle.std.specs.Str.{chars}
use Rattle.std.specs.String.{string_bytes}
use Rattle.rf_base_optimum.specs.Paragraphs.{Paragraph}
use Rattle.rf_base_document.specs.declared.limits.TheConstants.{LAYOUT_LIMIT}
use Rattle.rf_base_document.specs.Render.{Break}
use Rattle.rf_base_cost.specs.Cost.{IsValue, cost_after}
use Rattle.rf_whole.proofs.TooLong.{told_long}
use Rattle.rf_whole.proofs.Together.{form_lines, lines-append, lines_value, lines_same}
use Rattle.rf_whole.proofs.FormEnds.{added_past, form_value, ends_value, chars_ended}
use Rattle.rf_whole.proofs.lines.add_form.Goals as goal

pub returns-in_err-ends-clause-too_long : goal.returns-in_err-ends-clause-too_long
returns-in_err-ends-clause-too_long g c = λ is w ps d h k.
    let past = c.in_err-ends.ensures.too_long (ap Err (told_long _ _ c.from_residual.ensures.1 is)) in
    added_past (g.F.Factory.costs c.args.factory.now) w ps (record { doc = d; blanks = c.args.blanks }) _ _ _ _ _ _ _ _ _ _ _ h k (inl (omega (arith, past)))

pub returns-in_err-characters-clause-too_long : goal.returns-in_err-characters-clause-too_long
returns-in_err-characters-clause-too_long g c = λ is w ps d h k.
    let past = c.in_err-characters.ensures.too_long (ap Err (told_long _ _ c.from_residual-in_err-characters.ensures.1 is)) in
    let size = c.char_count.ensures.count ∙ ap (λ (s : List ℕ). length (chars s)) c.deref.ensures in
    added_past (g.F.Factory.costs c.args.factory.now) w ps (record { doc = d; blanks = c.args.blanks }) _ _ _ _ _ _ _ _ _ _ _ h k (inl (omega (arith, past, size, c.in_ok-ends.ensures.sum)))

pub returns-in_err-weight-clause-too_long : goal.returns-in_err-weight-clause-too_long
returns-in_err-weight-clause-too_long g c = λ is w ps d h k.
    let past = c.in_err-weight.ensures.too_long (ap Err (told_long _ _ c.from_residual-in_err-weight.ensures.1 is)) in
    added_past (g.F.Factory.costs c.args.factory.now) w ps (record { doc = d; blanks = c.args.blanks }) _ _ _ _ _ _ _ _ _ _ _ h k (inr (omega (arith, past, c.in_ok-ends.ensures.sum)))

pub ends_cost-requires : goal.ends_cost-requires
ends_cost-requires g c =
    let h = c.requires.form in
    form_value (g.F.Factory.costs c.args.factory.now) (g.met.F.Factory.lawful c.args.factory.now) h.0 h.1 _ _ _ _ _ h.2 h.3

pub add-lines-requires-clause-first : goal.add-lines-requires-clause-first
add-lines-requires-clause-first g c =
    let h = c.requires.lines in
    lines_value (g.F.Factory.costs c.args.factory.now) (g.met.F.Factory.lawful c.args.factory.now) h.0 h.1 _ _ _ _ _ _ h.2

pub add-lines-requires-clause-second : goal.add-lines-requires-clause-second
add-lines-requires-clause-second g c =
    let costs = g.F.Factory.costs c.args.factory.now in
    let laws = g.met.F.Factory.lawful c.args.factory.now in
    let h = c.requires.form in
    subst (λ v. IsValue costs v) (sym c.ends_cost.ensures) (ends_value costs laws c.args.form.now.cost _ (form_value costs laws h.0 h.1 _ _ _ _ _ h.2 h.3))

pub returns-clause-lines : goal.returns-clause-lines
returns-clause-lines g c = λ w ps d document h k.
    let costs = g.F.Factory.costs c.args.factory.now in
    let laws = g.met.F.Factory.lawful c.args.factory.now in
    let p : Paragraph = record { doc = d; blanks = c.args.blanks } in
    let s : List ℕ = chars (string_bytes c.args.form.now.text) in
    let ends : c.in_ok-ends.ends ≡ suc c.args.blanks = let sum = c.in_ok-ends.ensures.sum in omega (arith, sum) in
    let size : c.char_count.result ≡ length s = c.char_count.ensures.count ∙ ap (λ (s : List ℕ). length (chars s)) c.deref.ensures in
    let characters : c.in_ok-characters.characters ≡ c.args.lines.now.characters + (length s + suc c.args.blanks) = let sum = c.in_ok-characters.ensures.sum in omega (arith, sum, size, ends) in
    let weight : c.in_ok-weight.weight ≡ c.args.lines.now.weight + (c.args.form.now.weight + suc c.args.blanks) = let sum = c.in_ok-weight.ensures.sum in omega (arith, sum, ends) in
    let short : c.args.lines.now.characters + (length s + suc c.args.blanks) ≤ LAYOUT_LIMIT = let few = c.in_ok-characters.ensures.within in omega (arith, few, characters) in
    let light : c.args.lines.now.weight + (c.args.form.now.weight + suc c.args.blanks) ≤ LAYOUT_LIMIT = let few = c.in_ok-weight.ensures.within in omega (arith, few, weight) in
    lines_same costs w _ _ _ _ _ _ _ _ _ _ _ _ _
    (c.in_ok-extend_from_slice.ensures.items ∙ ap (λ l. c.args.lines.now.choices.items ++ l) c.deref-2.ensures.value)
    (chars_ended c.args.lines.now.text c.add_text.new.text c.push_ends.new.text c.args.form.now.text _ c.in_ok-ends.ends c.in_ok-add_text.ensures refl c.in_ok-push_ends.ensures
    ∙ ap (λ (n : ℕ). chars (string_bytes c.args.lines.now.text) ++ (s ++ replicate n 10)) ends)
    (c.add-lines.ensures ∙ ap (λ v. costs.add c.args.lines.now.cost v) (c.ends_cost.ensures ∙ ap (λ (n : ℕ). cost_after costs c.args.form.now.cost (replicate n (Break 0))) ends))
    c.both_hold-lines.ensures characters weight
    (lines-append costs laws w ps _ _ _ _ _ _ _ _ _ _ _ _ _ h
    (form_lines costs laws w p _ s _ _ _ document k (omega (arith, short)) (omega (arith, light))) short light)
