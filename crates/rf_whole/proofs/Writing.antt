-- A sheet with a piece more, and what it says of a resolution that was laid out on it.
use Rattle.std.proofs.Common.{◌≡◌, ◌≤◌, ◌↔◌, ℕ, ◌+◌, max, false, List, [], ◌∷◌, ◌++◌, length, Some, String, ap, sym, ◌∙◌, subst, arith}
use Rattle.std.proofs.Math.Nat.{le-max_left, le-max_right, max-le}
use Rattle.std.specs.Str.{chars, IsUtf8, encode_utf8_all}
use Rattle.std.specs.String.{string_bytes}
use Rattle.std.proofs.lemmas.Str.{chars-append, chars-nil, encodes-chars, length-le-encodes, IsUtf8-string_bytes}
use Rattle.rf_base_document.specs.declared.directions.Dir.{Dir}
use Rattle.rf_base_document.specs.Document.{Doc}
use Rattle.rf_base_document.specs.Render.{Piece, Word, Break, Fee, piece_text, layout, column_after, WordsRun, EachEndsWithin}
use Rattle.rf_base_document.specs.Picks.{weight_of}
use Rattle.rf_base_document.proofs.Render.{EachEndsWithin-append, layout-append}
use Rattle.rf_base_document.proofs.Running.{layout-snoc, layout_pieces, column_after-append}
use Rattle.rf_base_cost.specs.Cost.{Costs, Lawful}
use Rattle.rf_base_optimum.proofs.Shift.{ends-apart}
use Rattle.rf_base_cut.specs.DocumentLines.{EachIsWord}
use Rattle.rf_walk.specs.declared.extents.Extent.{Extent}
use Rattle.rf_walk.specs.Papers.{with_piece}
use Rattle.rf_walk.specs.Extents.{Covers}
use Rattle.rf_walk.specs.LaidOut.{IsLaidOn}
use Rattle.rf_measure.specs.Tallies.{Counts}
use Rattle.rf_measure.proofs.Counting.{count_is_cost}
use Rattle.rf_measure.proofs.LineCosts.{words_end}
use Rattle.rf_whole.specs.declared.sheets.Written.{Written}
use Rattle.rf_whole.specs.Sheets.{IsWidest, Keeps, keeps_within}
use Rattle.rf_whole.specs.Written.{IsWritten}

-- the greatest column with more pieces
none_widest : IsWidest 0 []
unfolding IsWidest EachEndsWithin
none_widest w = (λ h. tt, λ h. omega arith)

widest_more : (widest end : ℕ) (pieces others : List Piece) → IsWidest widest pieces → ((w : ℕ) → EachEndsWithin w pieces → (end ≤ w) ↔ EachEndsWithin w others) → IsWidest (max widest end) (pieces ++ others)
unfolding IsWidest
widest_more widest end pieces others was ends w = (
  λ h.
      let left = le-max_left widest end in
      let right = le-max_right widest end in
      let before = (was w).0 (omega (arith, left, h)) in
      EachEndsWithin-append w pieces others before ((ends w before).0 (omega (arith, right, h))),
  λ h.
      let apart = ends-apart w pieces others h in
      max-le ((was w).1 apart.0) ((ends w apart.0).1 apart.1),
)

words_within : (w column : ℕ) (line : List Piece) → EachIsWord line → WordsRun column line → column_after column line ≤ w → EachEndsWithin w line
unfolding EachIsWord WordsRun column_after EachEndsWithin
words_within w column [] alone runs h = tt
words_within w column (Word at s len ∷ line) alone (same, runs) h =
    let end : column_after (at + len) line ≡ column_after (column + len) line = ap (λ (n : ℕ). column_after (n + len) line) same in
    let further = words_end (column + len) line alone runs in
    (omega (arith, end, further, same, h), words_within w (column + len) line alone runs (omega (arith, end, h)))
words_within w column _ alone runs h = absurd alone

-- pieces that end within a width come to a column within it
end_within : (w column : ℕ) (pieces : List Piece) → column ≤ w → EachEndsWithin w pieces → column_after column pieces ≤ w
unfolding column_after EachEndsWithin
end_within w column [] p h = p
end_within w column (Word at s len ∷ pieces) p h = end_within w (at + len) pieces h.0 h.1
end_within w column (Break indentation ∷ pieces) p h = end_within w indentation pieces h.0 h.1
end_within w column (Fee k ∷ pieces) p h = end_within w column pieces p h.1

pub widest_line : (widest end : ℕ) (pieces line : List Piece) → IsWidest widest pieces → EachIsWord line → WordsRun (column_after 0 pieces) line → end ≡ column_after 0 (pieces ++ line) → IsWidest (max widest end) (pieces ++ line)
widest_line widest end pieces line was alone runs is =
    let ends : end ≡ column_after (column_after 0 pieces) line = is ∙ column_after-append 0 pieces line in
    widest_more widest end pieces line was
    (λ w before. (
      λ h. words_within w (column_after 0 pieces) line alone runs (omega (arith, ends, h)),
      λ h. omega (arith, ends, end_within w (column_after 0 pieces) line (end_within w 0 pieces (omega arith) before) h),
    ))

pub widest_break : (widest indentation : ℕ) (pieces : List Piece) → IsWidest widest pieces → IsWidest (max widest indentation) (with_piece pieces (λ column. Break indentation))
unfolding EachEndsWithin
widest_break widest indentation pieces was = widest_more widest indentation pieces (Break indentation ∷ []) was (λ w before. (λ h. (h, tt), λ h. h.0))

pub widest_fee : (widest k : ℕ) (pieces : List Piece) → IsWidest widest pieces → IsWidest widest (with_piece pieces (λ column. Fee k))
unfolding IsWidest EachEndsWithin
widest_fee widest k pieces was w = (
  λ h. EachEndsWithin-append w pieces (Fee k ∷ []) ((was w).0 h) (tt, tt),
  λ h. (was w).1 (ends-apart w pieces (Fee k ∷ []) h).0,
)

-- no piece
pub none_kept : {C Z : Type 0} (costs : Costs C) (text : String Z) (cost : C) (extent : Extent) → string_bytes text ≡ [] → Counts costs cost extent [] 0 →
    Keeps costs (chars (string_bytes text)) cost extent 0 [] 0
unfolding layout
none_kept costs text cost extent none counts = record { text_is = ap chars none ∙ chars-nil; counts = counts; widest_is = none_widest }

-- a piece more, whose characters were written
pub kept_more : {C : Type 0} (costs : Costs C) (old new : List ℕ) (cost : C) (extent : Extent) (widest : ℕ) (piece : ℕ → Piece) (pieces : List Piece) (weight : ℕ) → old ≡ layout pieces →
    Counts costs cost extent (with_piece pieces piece) weight → new ≡ old ++ piece_text (piece (column_after 0 pieces)) → IsWidest widest (with_piece pieces piece) →
    Keeps costs new cost extent widest (with_piece pieces piece) weight
kept_more costs old new cost extent widest piece pieces weight was counts text widest_is =
    let p : Piece = piece (column_after 0 pieces) in
    record { text_is = text ∙ ap (λ (l : List ℕ). l ++ piece_text p) was ∙ sym (layout-snoc pieces p); counts = counts; widest_is = widest_is }

-- a line more, whose characters were written
pub kept_line : {C : Type 0} (costs : Costs C) (old new s : List ℕ) (cost : C) (extent : Extent) (widest : ℕ) (pieces line : List Piece) (weight : ℕ) → old ≡ layout pieces →
    Counts costs cost extent (pieces ++ line) weight → layout line ≡ s → new ≡ old ++ s → IsWidest widest (pieces ++ line) → Keeps costs new cost extent widest (pieces ++ line) weight
kept_line costs old new s cost extent widest pieces line weight was counts is text widest_is = record {
  text_is = text ∙ ap (λ (l : List ℕ). l ++ s) was ∙ ap (λ (l : List ℕ). layout pieces ++ l) (sym is) ∙ sym (layout-append pieces line);
  counts = counts;
  widest_is = widest_is;
}

-- what a sheet says of a resolution that was laid out on it
pub written_of : {C : Type 0} (costs : Costs C) (laws : Lawful costs) (e : Doc) (choices : List Dir) (text : List ℕ) (cost : C) (extent : Extent) (widest : ℕ) (written : Written C) →
    chars (string_bytes written.text) ≡ text → written.cost ≡ cost → written.widest ≡ widest → ((pieces : List Piece) (weight : ℕ) → Covers extent pieces weight → written.weight ≡ weight) →
    IsLaidOn (Keeps costs text cost extent widest) e choices → IsWritten costs e choices written
written_of {C = C} costs laws e choices text cost extent widest written text_is cost_is is_widest weighs laid =
    let keeps = laid.2 in
    let some = layout_pieces e 0 0 false laid.0 laid.1 in
    let limits = keeps_within costs text cost extent widest laid.0.pieces (weight_of e choices) keeps in
    let weight_is = weighs laid.0.pieces (weight_of e choices) keeps.counts.covers in
    let same = text_is ∙ keeps.text_is in
    let size : length (chars (string_bytes written.text)) ≡ length (layout laid.0.pieces) = ap (λ (s : List ℕ). length s) same in
    record {
      whole = laid.0;
      rendered = laid.1;
      text_is = same;
      cost_is = count_is_cost costs laws cost extent laid.0.pieces (weight_of e choices) (omega (arith, some.0, some.1)) keeps.counts ∙ ap (λ (x : C). Some x) (sym cost_is);
      widest_is = subst (λ (n : ℕ). IsWidest n laid.0.pieces) (sym is_widest) keeps.widest_is;
      weight_is = weight_is;
      short = omega (arith, size, limits.0);
      light = omega (arith, weight_is, limits.1);
    }
