-- A slot of a datum alone is its datum.
use Rattle.std.proofs.Common.{◌≡◌, [], sym, ◌∙◌, arith}
use Rattle.std.specs.Str.{chars}
use Rattle.std.proofs.lemmas.Bool.{eqb-true}
use Rattle.std.proofs.lemmas.List.{nil_from_length}
use Rattle.std.proofs.lemmas.Result.{IfOk-weaker}
use Rattle.rf_style.specs.StyleOf.{seen}
use Rattle.rf_lines.specs.Written.{shown}
use Rattle.rf_lines.proofs.NodesAt.{slot_written}
use Rattle.rf_lines.proofs.writing.write_slot.Goals as goal

pub returns-in-None-Some-None : goal.returns-in-None-Some-None
returns-in-None-Some-None c =
    let leads = c.args.slot.now.leads in
    let none : leads.len ≡ 0 = eqb-true leads.len 0 (sym c.is_empty.ensures ∙ c.if-is_empty.true) in
    let bare : leads.items ≡ [] = nil_from_length leads.items (omega (arith, leads.ok.0, none)) in
    IfOk-weaker c.write_alone.result _ _
    (λ text made ts trees s holds stands.
    slot_written (seen c.args.writer.now.style.now) ts c.args.writer.now.tree.now.nodes c.args.slot.now s c.in-None-Some-None.at (shown (chars text.now) c.write_alone.new.strip)
    bare c.in-None-Some-None.is-0 c.in-None-Some-None.is-1 c.in-None-Some-None.is-2 stands
    (λ t unfolds. made ts trees t holds unfolds))
    c.write_alone.ensures
