-- The rule of the first slot's word.
use Rattle.std.proofs.Common.{◌≡◌, ℕ, Option, Some, List, sym, ap, ◌∙◌, subst, map}
use Rattle.std.specs.Prelude.{is_some}
use Rattle.std.specs.Str.{chars}
use Rattle.rf_base_style.specs.declared.rules.Rule.{Rule}
use Rattle.rf_base_style.specs.Table.{IsRule}
use Rattle.rf_base_style.proofs.Tables.{heads_have_rules}
use Rattle.rf_base_file.specs.Ways.{first_word, second_word, data_count, form_way, word_way}
use Rattle.rf_base_file.specs.FileDocument.{slot_piece}
use Rattle.rf_ways.specs.Words.{told}
use Rattle.rf_ways.proofs.ways.word_way.Goals as goal

pub rule_way-requires-clause-rule : goal.rule_way-requires-clause-rule
rule_way-requires-clause-rule c =
    subst (λ (r : Rule). IsRule r) (sym c.head_rule.ensures) (heads_have_rules c.args.style.now.forms (chars c.in-Some.word.now) c.requires.rules)

pub returns-in-Some-clause-way : goal.returns-in-Some-clause-way
returns-in-Some-clause-way c style ts trees ss holds stand =
    let forms = c.args.style.now.forms in
    let slots = map (slot_piece style ts) ss in
    let name : List ℕ = chars c.in-Some.word.now in
    let first : first_word slots ≡ Some name =
    sym (c.first_word.ensures style ts trees ss holds stand) ∙ ap told c.in-Some.is in
    c.rule_way.ensures.way style ts trees ss holds stand
    ∙ ap (λ (r : Rule). form_way r.form r (is_some (second_word slots)) (data_count slots)) c.head_rule.ensures
    ∙ sym (ap (λ (w : Option (List ℕ)). word_way forms w slots) first)
