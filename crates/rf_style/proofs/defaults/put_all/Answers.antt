-- Row by row.
use Rattle.std.proofs.Common.{◌≡◌, ℕ, ◌+◌, ◌<◌, ◌≤◌, List, Bor, [], drop, get_or, length, sym, ◌∙◌}
use Rattle.std.specs.Str.{chars}
use Rattle.std.proofs.lemmas.List.{drop_more, drop_all}
use Rattle.rf_base_style.specs.declared.rules.Form.TheVariants.{App}
use Rattle.rf_base_style.specs.declared.rules.Rule.{Rule}
use Rattle.rf_base_style.specs.Table.{Table, with_rule, uncharged}
use Rattle.rf_style.specs.Entries.{rows_of, with_rows}
use Rattle.rf_style.proofs.defaults.put_all.Goals as goal

-- a row is put, and then those behind it
turn : (table : Table) (rows : List (Bor (List ℕ) × Rule)) (i : ℕ) (d : Bor (List ℕ) × Rule) → i < length rows
    → with_rows table (rows_of (drop i rows)) ≡ with_rows (with_rule table (chars (get_or rows i d).0.now) (get_or rows i d).1) (rows_of (drop (i + 1) rows))
unfolding with_rows rows_of
turn table rows i d inside = rw (drop_more rows i d inside)

-- no row is left
end : (table : Table) (rows : List (Bor (List ℕ) × Rule)) (i : ℕ) → length rows ≤ i → with_rows table (rows_of (drop i rows)) ≡ table
unfolding with_rows rows_of
end table rows i over = rw (drop_all i rows over)

pub loop-name-preserved : goal.loop-name-preserved
loop-name-preserved c =
    let none : Bor (List ℕ) × Rule = (record { ref_ptr = (0, 0); now = [] }, uncharged App 0 0) in
    let step = turn c.loop-name.forms c.args.rows.now c.loop-name.name-index none c.loop-name-test.true in
    rw (c.in_ok-put.ensures.put, c.in_ok-from_str.ensures.ok) (sym step ∙ c.loop-name.invariant)

pub returns : goal.returns
returns c = sym (end _ _ _ c.loop-name-test.false) ∙ c.loop-name.invariant
