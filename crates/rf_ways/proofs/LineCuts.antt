-- A text is cut at its first line end, and so are its characters.
use Rattle.std.proofs.Common.{◌≡◌, ◌==◌, ℕ, zero, suc, ◌+◌, ◌≤◌, Bool, Option, None, Some, List, [], ◌∷◌, ◌++◌, length, get_or, take, refl, sym, ap, ◌∙◌, subst, lit<, arith}
use Rattle.std.specs.Borrow.{Bor}
use Rattle.std.specs.List.{slice_split}
use Rattle.std.specs.Str.{chars, IsUtf8, IsCharBoundary, NonePass, NoCharPasses}
use Rattle.std.proofs.lemmas.List.{take_at, length-append}
use Rattle.std.proofs.Math.Seq.{get_or-append_seam}
use Rattle.std.proofs.lemmas.Bool.{eqb-false}
use Rattle.std.proofs.lemmas.List.Splits.{slice_split_at, slice_split_none, length-slice_split}
use Rattle.std.proofs.lemmas.Str.{chars-append, chars_from_encodes, IsUtf8-take, IsCharBoundary-before_ascii}
use Rattle.std.proofs.lemmas.Str.Pattern.{IsSplitOnceResult, split_parts}
use Rattle.rf_base_document.specs.Document.{Doc, IsOneLine}
use Rattle.rf_base_style.specs.declared.columns.Columns.{Columns}
use Rattle.rf_base_file.specs.Rows.{bare_break, line_doc, lines_behind, lines_docs}
use Rattle.rf_base_lines.proofs.SpelledRows.{no_feed_at}
use Rattle.rf_ways.specs.Lines.{CutsLine}

-- no character passes the test: none is LF
none_one_line : (cs : List ℕ) → NonePass (λ c. c == 10) cs → IsOneLine cs
none_one_line [] none (k, less, e) = omega arith
none_one_line (c ∷ cs) none (zero, less, e) = eqb-false c 10 none.0 e
none_one_line (c ∷ cs) none (suc k, less, e) = none_one_line cs none.1 (k, omega arith, e)

no_char_one_line : (bs : List ℕ) → IsUtf8 bs → NoCharPasses (λ c. c == 10) bs → IsOneLine (chars bs)
no_char_one_line bs u h = subst IsOneLine (chars_from_encodes h.0 bs u h.1) (none_one_line h.0 h.2)

chars_behind : (ys : List ℕ) → chars (10 ∷ ys) ≡ 10 ∷ chars ys
unfolding chars
chars_behind [] = refl
chars_behind (y ∷ ys) = refl

pub cut_is : (text : List ℕ) (r : Option (Bor (List ℕ) × Bor (List ℕ))) → IsUtf8 text → IsSplitOnceResult 10 text r → CutsLine text r
cut_is text None u h = no_char_one_line text u h
cut_is text (Some p) u h =
    let parts = split_parts 10 text (Some p) h (lit< tt) in
    let line = p.0.now in
    let rest = p.1.now in
    let size : length text ≡ length line + suc (length rest) = ap length parts.0 ∙ length-append line (10 ∷ rest) in
    let feed : get_or text (length line) 0 ≡ 10 = ap (λ (bs : List ℕ). get_or bs (length line) 0) parts.0 ∙ get_or-append_seam line 10 rest 0 in
    let cut : IsCharBoundary text (length line) = IsCharBoundary-before_ascii text (length line) (omega arith) (omega arith) in
    let front : take (length line) text ≡ line = ap (take (length line)) parts.0 ∙ take_at line (10 ∷ rest) (length line) refl in
    let good : IsUtf8 line = subst IsUtf8 front (IsUtf8-take text (length line) u cut) in (
      no_char_one_line line good (subst (NoCharPasses (λ c. c == 10)) (sym h.3) h.2.0),
      ap chars parts.0 ∙ chars-append line (10 ∷ rest) good ∙ ap (λ (cs : List ℕ). chars line ++ cs) (chars_behind rest),
      omega arith,
    )

-- the test for line ends
abbrev is_feed : ℕ → Bool
is_feed c = c == 10

first_behind : (columns : Columns) (lines : List (List ℕ)) → 1 ≤ length lines → lines_behind columns lines ≡ bare_break ∷ lines_docs columns lines
first_behind columns [] some = absurd (omega arith)
first_behind columns (s ∷ lines) some = refl

pub lines_cut : (columns : Columns) (line rest : List ℕ) → IsOneLine line → lines_docs columns (slice_split (λ c. c == 10) (line ++ 10 ∷ rest)) ≡ line_doc columns line ∷ bare_break ∷ lines_docs columns (slice_split (λ c. c == 10) rest)
lines_cut columns line rest one =
    ap (lines_docs columns) (slice_split_at is_feed line 10 rest (no_feed_at line one) refl)
    ∙ ap (λ (ds : List Doc). line_doc columns line ∷ ds) (first_behind columns (slice_split is_feed rest) (omega (arith, length-slice_split is_feed rest)))

pub lines_last : (columns : Columns) (line : List ℕ) → IsOneLine line → lines_docs columns (slice_split (λ c. c == 10) line) ≡ line_doc columns line ∷ []
lines_last columns line one = ap (lines_docs columns) (slice_split_none is_feed line (no_feed_at line one))

pub two_more : (docs : List Doc) (a b : Doc) (rest : List Doc) → docs ++ a ∷ b ∷ rest ≡ ((docs ++ a ∷ []) ++ b ∷ []) ++ rest
two_more [] a b rest = refl
two_more (d ∷ docs) a b rest = ap (λ (ds : List Doc). d ∷ ds) (two_more docs a b rest)
