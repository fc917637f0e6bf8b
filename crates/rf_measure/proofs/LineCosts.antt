-- What a line costs: the texts of a row cost what one of all their columns costs.
use Rattle.std.proofs.Common.{◌≡◌, ℕ, ◌+◌, ◌-◌, ◌*◌, ◌≤◌, List, [], ◌∷◌, ◌++◌, length, sym, ◌∙◌, ap, arith}
use Rattle.rf_base_document.specs.declared.limits.TheConstants.{LAYOUT_LIMIT}
use Rattle.rf_base_document.specs.Render.{Piece, Word, Break, Fee, layout, column_after, WordsRun}
use Rattle.rf_base_cost.specs.Cost.{Costs, IsValue, IsColumn, Lawful, cost_after, PiecesAreCounted}
use Rattle.rf_base_cost.proofs.Sums.{after_append}
use Rattle.rf_base_cut.specs.DocumentLines.{EachIsWord}
use Rattle.rf_walk.specs.declared.extents.Extent.{Extent}
use Rattle.rf_walk.specs.Extents.{Covers}
use Rattle.rf_walk.specs.Papers.{IsLineOf}
use Rattle.rf_measure.specs.Tallies.{Counts}
use Rattle.rf_measure.proofs.Counting.{count_is_value, counted-append}

-- words end no further left than they begin
pub words_end : (column : ℕ) (line : List Piece) → EachIsWord line → WordsRun column line → column ≤ column_after column line
unfolding EachIsWord WordsRun column_after
words_end column [] alone runs = omega arith
words_end column (Word at s len ∷ line) alone runs =
    let here : at ≡ column = runs.0 in
    let more = words_end (column + len) line alone runs.1 in
    let same : column_after (at + len) line ≡ column_after (column + len) line = ap (λ n. column_after (n + len) line) here in
    omega (arith, more, same)
words_end column _ alone runs = absurd alone

-- words are counted where they end at a column for which the laws hold
words_are_counted : (column : ℕ) (line : List Piece) → EachIsWord line → WordsRun column line → IsColumn (column_after column line) → PiecesAreCounted line
unfolding EachIsWord WordsRun column_after PiecesAreCounted
words_are_counted column [] alone runs ends = tt
words_are_counted column (Word at s len ∷ line) alone runs ends =
    let here : at ≡ column = runs.0 in
    let same : column_after (at + len) line ≡ column_after (column + len) line = ap (λ n. column_after (n + len) line) here in
    let far : IsColumn (column_after (column + len) line) = omega (arith, ends, same) in
    (omega (arith, here, far, words_end (column + len) line alone runs.1), words_are_counted (column + len) line alone runs.1 far)
words_are_counted column _ alone runs ends = absurd alone

-- a line behind a cost
line_costs : {C : Type 0} (costs : Costs C) (laws : Lawful costs) (cost : C) (column len : ℕ) (line : List Piece) → IsValue costs cost → EachIsWord line →
    WordsRun column line → column_after column line ≡ column + len → IsColumn (column + len) → cost_after costs cost line ≡ costs.add cost (costs.text column len)
unfolding EachIsWord WordsRun column_after cost_after
line_costs {C = C} costs laws cost column len [] value alone runs ends far =
    let none : len ≡ 0 = omega (arith, ends) in
    sym (ap (λ n. costs.add cost (costs.text column n)) none ∙ (laws.no_text column (omega (arith, far)) cost value).1)
line_costs {C = C} costs laws cost column len (Word at s n ∷ line) value alone runs ends far =
    let here : at ≡ column = runs.0 in
    let same : column_after (at + n) line ≡ column_after (column + n) line = ap (λ k. column_after (k + n) line) here in
    let least = words_end (column + n) line alone runs.1 in
    let rest : ℕ = len - n in
    let whole : n + rest ≡ len = omega (arith, ends, same, least) in
    let first : IsValue costs (costs.text column n) = laws.text_is_value column n (omega (arith, far)) (omega (arith, far, whole)) in
    let second : IsValue costs (costs.text (column + n) rest) = laws.text_is_value (column + n) rest (omega (arith, far, whole)) (omega (arith, far, whole)) in
    let onwards : cost_after costs (costs.add cost (costs.text column n)) line ≡ costs.add (costs.add cost (costs.text column n)) (costs.text (column + n) rest) =
    line_costs costs laws (costs.add cost (costs.text column n)) (column + n) rest line (laws.add_is_value cost (costs.text column n) value first) alone runs.1
    (omega (arith, ends, same, whole)) (omega (arith, far, whole)) in
    ap (λ k. cost_after costs (costs.add cost (costs.text k n)) line) here ∙ onwards ∙ laws.associative cost (costs.text column n) (costs.text (column + n) rest) value first second
    ∙ ap (λ (x : C). costs.add cost x) (sym (laws.parts column n rest (omega (arith, far, whole)))) ∙ ap (λ k. costs.add cost (costs.text column k)) whole
line_costs costs laws cost column len _ value alone runs ends far = absurd alone

-- a line that fits ends at a column for which the laws hold
pub ends_within : (extent : Extent) (pieces : List Piece) (weight count len column : ℕ) → Covers extent pieces weight → len ≤ 2 * count → length (layout pieces) + count ≤ LAYOUT_LIMIT →
    column ≡ column_after 0 pieces → IsColumn (column + len)
ends_within extent pieces weight count len column covers few fits at = omega (arith, covers.ends, covers.near, covers.counted, few, fits, at)

-- a line more is counted
pub counts_line : {C : Type 0} (costs : Costs C) (laws : Lawful costs) (cost new_cost : C) (extent new : Extent) (pieces : List Piece) (weight new_weight column : ℕ) (line : List Piece)
    (s : List ℕ) (len words : ℕ) → Counts costs cost extent pieces weight → Covers new (pieces ++ line) new_weight → IsLineOf line (column_after 0 pieces) s len words →
    column ≡ column_after 0 pieces → IsColumn (column + len) → new_cost ≡ costs.add cost (costs.text column len) → Counts costs new_cost new (pieces ++ line) new_weight
counts_line {C = C} costs laws cost new_cost extent new pieces weight new_weight column line s len words counts covers is at far sum =
    let ends : IsColumn (column_after 0 pieces + len) = omega (arith, at, far) in
    let value = count_is_value costs laws cost extent pieces weight counts in
    record {
      cost_is =
          sum ∙ ap (λ k. costs.add cost (costs.text k len)) at
          ∙ sym (line_costs costs laws cost (column_after 0 pieces) len line value is.alone is.runs is.ends ends)
          ∙ ap (λ (x : C). cost_after costs x line) counts.cost_is ∙ sym (after_append costs (costs.text 0 0) pieces line);
      counted = counted-append pieces line counts.counted (words_are_counted (column_after 0 pieces) line is.alone is.runs (omega (arith, is.ends, ends)));
      covers = covers;
    }
