-- A body's data are counted, and only bindings ask for the second word.
use Rattle.std.proofs.Common.{◌≡◌, ℕ, Bool, false, List, sym, ap, ap₂, ◌∙◌, map}
use Rattle.std.specs.Prelude.{is_some}
use Rattle.rf_base_style.specs.declared.rules.Form.{Form}
use Rattle.rf_base_tree.specs.Slots.{Slot}
use Rattle.rf_base_file.specs.Ways.{Piece, second_word, data_count, form_way}
use Rattle.rf_base_file.specs.FileDocument.{slot_piece}
use Rattle.rf_tree.specs.Ahead.{slots_ahead}
use Rattle.rf_ways.proofs.Words.{data_counted, told_some}
use Rattle.rf_ways.proofs.ways.rule_way.Goals as goal

pub returns-in-Body-clause-way : goal.returns-in-Body-clause-way
returns-in-Body-clause-way c style ts trees ss holds stand =
    let rule = c.args.rule.now in
    let slots : List (Slot Piece) = map (slot_piece style ts) ss in
    let count = c.data_count.ensures ∙ data_counted style ts c.args.tree.now.nodes (slots_ahead c.args.slots) ss stand in
    c.form_way-in-Body.ensures.way
    ∙ ap₂ (λ (f : Form) (n : ℕ). form_way f rule false n) c.in-Body.is count
    ∙ sym (ap (λ (f : Form). form_way f rule (is_some (second_word slots)) (data_count slots)) c.in-Body.is)

pub returns-in-Clauses-clause-way : goal.returns-in-Clauses-clause-way
returns-in-Clauses-clause-way c style ts trees ss holds stand =
    let rule = c.args.rule.now in
    let slots : List (Slot Piece) = map (slot_piece style ts) ss in
    let count = c.data_count-in-Clauses.ensures ∙ data_counted style ts c.args.tree.now.nodes (slots_ahead c.args.slots) ss stand in
    c.form_way-in-Clauses.ensures.way
    ∙ ap₂ (λ (f : Form) (n : ℕ). form_way f rule false n) c.in-Clauses.is count
    ∙ sym (ap (λ (f : Form). form_way f rule (is_some (second_word slots)) (data_count slots)) c.in-Clauses.is)

pub returns-in-Bindings-clause-way : goal.returns-in-Bindings-clause-way
returns-in-Bindings-clause-way c style ts trees ss holds stand =
    let rule = c.args.rule.now in
    let slots : List (Slot Piece) = map (slot_piece style ts) ss in
    let count = c.data_count-in-Bindings.ensures ∙ data_counted style ts c.args.tree.now.nodes (slots_ahead c.args.slots) ss stand in
    let named : c.is_some-named.result ≡ is_some (second_word slots) =
    c.is_some-named.ensures ∙ told_some c.second_word.result ∙ ap is_some (c.second_word.ensures style ts trees ss holds stand) in
    c.form_way-in-Bindings.ensures.way ∙ ap₂ (λ (b : Bool) (n : ℕ). form_way rule.form rule b n) named count
