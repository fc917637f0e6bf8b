-- No slot, or each on a line of its own.
use Rattle.std.proofs.Common.{◌≡◌, ℕ, List, [], ◌∷◌, ◌++◌, length, map, sym, ap, ◌∙◌, arith}
use Rattle.std.proofs.lemmas.Bool.{eqb-true, eqb-false}
use Rattle.std.proofs.lemmas.List.{nil_from_length, length-map}
use Rattle.rf_base_document.specs.Document.{Doc, Text, Hard}
use Rattle.rf_base_document.specs.Sequence.{seq}
use Rattle.rf_base_document.proofs.Sequence.{seq_of_none}
use Rattle.rf_base_tree.specs.Trees.{Tree}
use Rattle.rf_base_tree.specs.Slots as definition
use Rattle.rf_base_tree.specs.declared.separators.Want.TheVariants as want
use Rattle.rf_base_file.specs.Rows.{row_docs, steps_wanting}
use Rattle.rf_base_file.specs.FileDocument.{top_part, file_docs}
use Rattle.rf_style.specs.StyleOf.{seen}
use Rattle.rf_ways.proofs.NodeParts.{slots_length}
use Rattle.rf_rows.specs.Sizes.{rows_size}
use Rattle.rf_rows.proofs.Stacks.{on_ok}
use Rattle.rf_slot_rows.specs.Nodes.{tops_of}
use Rattle.rf_slot_rows.proofs.Putting.{puts_same, fills_both, no_lower, height_is, no_text, no_chars}
use Rattle.rf_slot_rows.proofs.Walking.{file_is}
use Rattle.rf_ways.proofs.Taking.{no_slots}
use Rattle.rf_tree.specs.Slots.{kept_slot}
use Rattle.rf_slot_rows.proofs.Sizes.{tops_grown}
use Rattle.rf_slot_rows.proofs.files.put_file.Goals as goal

pub text-requires-clause-limits : goal.text-requires-clause-limits
text-requires-clause-limits c = no_text

pub join-requires : goal.join-requires
join-requires c =
    let r = c.requires.slots in
    omega (
      arith,
      height_is c.args.rows.now c.height-height.result c.height-height.ensures,
      no_lower c.args.rows.now c.put_tops.new.rows _ (c.in_ok-put_tops.ensures.put r.0 r.1 r.2 r.3 r.4),
      no_lower c.put_tops.new.rows c.hard.new.self (λ f. Hard ∷ []) c.in_ok-hard.ensures.put,
    )

pub returns-then-is_empty-clause-put : goal.returns-then-is_empty-clause-put
returns-then-is_empty-clause-put c =
    let style = seen c.args.context.now.style.now in
    on_ok c.text.result _ _
    (λ text ts trees ss holds stand.
    let none = no_slots ts c.args.context.now.tree.now.nodes (map kept_slot c.args.slots.now) ss (ap (map kept_slot) (nil_from_length c.args.slots.now (eqb-true _ 0 (sym c.is_empty.ensures ∙ c.if-is_empty.true)))) stand in
    puts_same c.args.rows.now c.text.new.self _ _
    (ap (λ (s : List ℕ). Text s 0 ∷ []) no_chars ∙ ap (λ (d : Doc). d ∷ []) (sym seq_of_none) ∙ ap (λ (xs : List (definition.Slot Tree)). seq (file_docs ts (tops_of style ts xs)) ∷ []) (sym none)) text)
    c.text.ensures.put

pub returns-then-is_empty-clause-grown : goal.returns-then-is_empty-clause-grown
returns-then-is_empty-clause-grown c =
    on_ok c.text.result _ _ (λ grown few ts trees ss holds stand some. omega (arith, grown)) c.text.ensures.grown

pub returns-in_ok-hard-clause-put : goal.returns-in_ok-hard-clause-put
returns-in_ok-hard-clause-put c =
    let style = seen c.args.context.now.style.now in
    let some = eqb-false _ 0 (sym c.is_empty.ensures ∙ c.if-is_empty.false) in
    on_ok c.join.result _ _
    (λ made ts trees ss holds stand.
    let row : List Doc = row_docs ts (steps_wanting want.Must (tops_of style ts ss)) in
    let count : length (tops_of style ts ss) ≡ length c.args.slots.now = length-map ss (top_part style ts) ∙ slots_length ts c.args.context.now.tree.now.nodes (map kept_slot c.args.slots.now) ss stand ∙ length-map c.args.slots.now kept_slot in
    puts_same c.args.rows.now c.join.new.rows _ _
    (ap (λ (ds : List Doc). seq ds ∷ []) (file_is ts (tops_of style ts ss) (λ none. some (sym count ∙ none))))
    (made c.args.rows.now (row ++ Hard ∷ []) c.height-height.ensures
    (fills_both c.args.rows.now c.put_tops.new.rows c.hard.new.self (λ f. row) (λ f. Hard ∷ []) (c.in_ok-put_tops.ensures.put ts trees ss holds stand) c.in_ok-hard.ensures.put)))
    c.join.ensures.put

pub returns-in_ok-hard-clause-grown : goal.returns-in_ok-hard-clause-grown
returns-in_ok-hard-clause-grown c =
    let some = eqb-false _ 0 (sym c.is_empty.ensures ∙ c.if-is_empty.false) in
    on_ok c.join.result _ _
    (λ grown few ts trees ss holds stand each.
    let count = slots_length ts c.args.context.now.tree.now.nodes (map kept_slot c.args.slots.now) ss stand ∙ length-map c.args.slots.now kept_slot in
    tops_grown ts ss (rows_size c.args.rows.now) (rows_size c.put_tops.new.rows) (rows_size c.hard.new.self) (rows_size c.join.new.rows) (λ none. some (sym count ∙ none)) each
    (c.in_ok-put_tops.ensures.grown few ts trees ss holds stand) c.in_ok-hard.ensures.grown grown)
    c.join.ensures.grown
