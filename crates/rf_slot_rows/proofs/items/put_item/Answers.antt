-- The item is spelled as the token is.
use Rattle.std.proofs.Common.{ℕ, List, [], ◌∷◌, ap, arith}
use Rattle.rf_base_grammar.specs.Itemised.{line_ends}
use Rattle.rf_base_file.specs.Rows.{spelling_doc}
use Rattle.rf_rows.proofs.Stacks.{on_ok}
use Rattle.rf_slot_rows.proofs.Putting.{puts_same}
use Rattle.rf_slot_rows.proofs.Growing.{one_size}
use Rattle.rf_slot_rows.proofs.items.put_item.Goals as goal

pub returns-clause-put : goal.returns-clause-put
returns-clause-put c =
    on_ok c.put_spelling.result _ _
    (λ put ts trees holds.
    puts_same c.args.rows.now c.put_spelling.new.rows _ _ (ap (λ (s : List ℕ). spelling_doc c.args.columns s ∷ []) (c.text.ensures.characters ts trees holds)) put)
    c.put_spelling.ensures.put

pub returns-clause-grown : goal.returns-clause-grown
returns-clause-grown c =
    on_ok c.put_spelling.result _ _
    (λ grown ts trees holds. omega (arith, grown, one_size ts c.args.item, ap (λ (s : List ℕ). line_ends s) (c.text.ensures.characters ts trees holds)))
    c.put_spelling.ensures.grown
