-- A line and a line end more, and then the last line.
use Rattle.std.proofs.Common.{◌≡◌, ◌==◌, ◌+◌, ◌≤◌, ℕ, List, [], ◌∷◌, ◌++◌, refl, sym, ap, ◌∙◌, subst, arith, rules}
use Rattle.std.specs.List.{slice_split}
use Rattle.std.specs.Str.{chars}
use Rattle.rf_base_document.specs.Document.{Doc}
use Rattle.rf_base_document.specs.Sequence.{seq}
use Rattle.rf_base_grammar.specs.Itemised.{line_ends}
use Rattle.rf_base_file.specs.Rows.{bare_break, line_doc, lines_docs}
use Rattle.rf_ways.proofs.LineCuts.{lines_cut, lines_last, two_more}
use Rattle.rf_rows.proofs.Stacks.{on_ok}
use Rattle.rf_slot_rows.proofs.Putting.{puts_none, puts_same, fills_both, no_lower, height_is}
use Rattle.rf_slot_rows.proofs.Growing.{line_ends-cut}
use Rattle.rf_slot_rows.proofs.items.put_lines.Goals as goal

pub loop-line-init : goal.loop-line-init
loop-line-init c =
    record { utf8 = c.utf8.text; short = c.requires; grown = omega arith; written = ([], puts_none c.args.rows.now, refl) }

pub loop-line-preserved : goal.loop-line-preserved
loop-line-preserved c =
    let inv = c.loop-line.invariant in
    let columns = c.args.columns in
    let cut = c.in-Some.ensures in
    let line = chars c.in-Some.line.now in
    let behind = chars c.in-Some.behind.now in
    let ends = subst (λ (s : List ℕ). line_ends behind + 1 ≤ line_ends s) (sym cut.1) (line_ends-cut line behind) in
    let docs = inv.written.0 in
    let text = line_doc columns line in
    let rest : lines_docs columns (slice_split (λ c. c == 10) (chars c.loop-line.rest.now)) ≡ text ∷ bare_break ∷ lines_docs columns (slice_split (λ c. c == 10) behind) =
    ap (λ (s : List ℕ). lines_docs columns (slice_split (λ c. c == 10) s)) cut.1 ∙ lines_cut columns line behind cut.0 in
    record {
      utf8 = search rules;
      short = omega (arith, cut.2, inv.short);
      grown = omega (arith, inv.grown, c.in_ok-put_line.ensures.grown, c.in_ok-bare_break.ensures.grown, ends);
      written = (
        (docs ++ text ∷ []) ++ bare_break ∷ [],
        fills_both c.args.rows.now c.put_line.new.rows c.bare_break.new.self (λ f. docs ++ text ∷ []) (λ f. bare_break ∷ [])
            (fills_both c.args.rows.now c.loop-line.rows c.put_line.new.rows (λ f. docs) (λ f. text ∷ []) inv.written.1 c.in_ok-put_line.ensures.put)
            c.in_ok-bare_break.ensures.put,
        inv.written.2 ∙ ap (λ (ds : List Doc). docs ++ ds) rest ∙ two_more docs text bare_break (lines_docs columns (slice_split (λ c. c == 10) behind)),
      );
    }

pub join-requires : goal.join-requires
join-requires c =
    let inv = c.loop-line.invariant in
    omega (
      arith,
      height_is c.args.rows.now c.height-height.result c.height-height.ensures,
      no_lower c.args.rows.now c.loop-line.rows (λ f. inv.written.0) inv.written.1,
      no_lower c.loop-line.rows c.put_line-2.new.rows _ c.in_ok-put_line-2.ensures.put,
    )

pub returns-clause-put : goal.returns-clause-put
returns-clause-put c =
    let inv = c.loop-line.invariant in
    let columns = c.args.columns in
    let docs = inv.written.0 in
    let rest = chars c.loop-line.rest.now in
    let all : lines_docs columns (slice_split (λ c. c == 10) (chars c.args.text.now)) ≡ docs ++ line_doc columns rest ∷ [] =
    inv.written.2 ∙ ap (λ (ds : List Doc). docs ++ ds) (lines_last columns rest c.in_default.ensures) in
    on_ok c.join.result _ _
    (λ made.
    puts_same c.args.rows.now c.join.new.rows (seq (docs ++ line_doc columns rest ∷ []) ∷ []) _ (ap (λ (ds : List Doc). seq ds ∷ []) (sym all))
    (made c.args.rows.now (docs ++ line_doc columns rest ∷ []) c.height-height.ensures
    (fills_both c.args.rows.now c.loop-line.rows c.put_line-2.new.rows (λ f. docs) (λ f. line_doc columns rest ∷ []) inv.written.1 c.in_ok-put_line-2.ensures.put)))
    c.join.ensures.put

pub returns-clause-grown : goal.returns-clause-grown
returns-clause-grown c =
    on_ok c.join.result _ _
    (λ grown. omega (arith, c.loop-line.invariant.grown, c.in_ok-put_line-2.ensures.grown, grown))
    c.join.ensures.grown
