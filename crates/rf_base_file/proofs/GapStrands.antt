-- Items' characters and the separators between neighbours have their strands.
use Rattle.std.proofs.Common.{ℕ, zero, suc, if◌then◌else◌, inl, inr, Bool, true, false, Option, Some, None, List, [], ◌∷◌, ◌++◌, replicate, refl, codes, eqb}
use Rattle.std.specs.List.{slice_split}
use Rattle.rf_base_document.specs.Document.{Newline, Hard, plain_text}
use Rattle.rf_base_grammar.specs.Token.{Token}
use Rattle.rf_base_grammar.specs.Woven.{trails}
use Rattle.rf_base_style.specs.declared.columns.Columns.{Columns}
use Rattle.rf_base_tree.specs.Cut.{needs_gap, needs_break, as_wanted, separator_between}
use Rattle.rf_base_tree.specs.declared.separators.Want.{Want}
use Rattle.rf_base_tree.specs.declared.separators.Want.TheVariants as want
use Rattle.rf_base_tree.specs.declared.separators.Separator.TheVariants as separator
use Rattle.rf_base_file.specs.Rows.{bare_break, line_doc, lines_behind, lines_docs, spelling_doc, separator_docs, docs_between}
use Rattle.rf_base_file.specs.Signature.{Strand, Exact, Tight, Loose, Firm, IsDrawn, Drawn, one_space, line_break, newline_text, HardSigned, Signed}
use Rattle.rf_base_file.specs.Strands.{line_end, gap_strands, lines_strands, strands_of_lines, spelling_strands}
use Rattle.rf_base_file.proofs.DrawnTexts.{Drawn-one}
use Rattle.rf_base_file.proofs.Signatures.{SignedParts, SignedParts-nil, SignedParts-cons, SignedParts-one, seq-signed}

-- a text has the strand of its characters
text_signed : (s : List ℕ) (i : ℕ) (flat : Bool) → Signed (plain_text s) i flat (Exact s ∷ [])
unfolding Signed
text_signed s i flat = Drawn-one (Exact s) s refl

line_signed : (columns : Columns) (s : List ℕ) (i : ℕ) (flat : Bool) → Signed (line_doc columns s) i flat (Exact s ∷ [])
unfolding Signed
line_signed columns s i flat = Drawn-one (Exact s) s refl

-- a break without indentation is a line end
hard_ends : (flat : Bool) → HardSigned 0 flat (line_end ∷ [])
hard_ends true = tt
hard_ends false = Drawn-one line_end (10 ∷ []) refl

bare_signed : (i : ℕ) (flat : Bool) → Signed bare_break i flat (line_end ∷ [])
unfolding Signed
bare_signed i flat = hard_ends flat

-- a hard newline has each strand that a break may be
hard_breaks : (strand : Strand) (i : ℕ) (flat : Bool) → IsDrawn strand (line_break i) → HardSigned i flat (strand ∷ [])
hard_breaks strand i true h = tt
hard_breaks strand i false h = Drawn-one strand (line_break i) h

hard_signed : (strand : Strand) (i : ℕ) (flat : Bool) → IsDrawn strand (line_break i) → Signed Hard i flat (strand ∷ [])
unfolding Signed
hard_signed strand i flat h = hard_breaks strand i flat h

-- and a newline each that a space or a break may be
newline_is : (strand : Strand) (i : ℕ) (flat : Bool) → IsDrawn strand one_space → IsDrawn strand (line_break i) →
    Drawn (strand ∷ []) (newline_text i flat)
newline_is strand i true h k = Drawn-one strand one_space h
newline_is strand i false h k = Drawn-one strand (line_break i) k

newline_signed : (strand : Strand) (i : ℕ) (flat : Bool) → IsDrawn strand one_space → IsDrawn strand (line_break i) →
    Signed Newline i flat (strand ∷ [])
unfolding Signed
newline_signed strand i flat h k = newline_is strand i flat h k

-- lines have their strands, with a line end before each
lines_behind-signed : (columns : Columns) (lines : List (List ℕ)) (i : ℕ) (flat : Bool) →
    SignedParts (lines_behind columns lines) i flat (lines_strands lines)
unfolding Drawn
lines_behind-signed columns [] i flat = SignedParts-nil i flat [] refl
lines_behind-signed columns (s ∷ lines) i flat =
    SignedParts-cons bare_break (line_doc columns s ∷ lines_behind columns lines) i flat (line_end ∷ [])
    (Exact s ∷ lines_strands lines) (bare_signed i flat)
    (SignedParts-cons (line_doc columns s) (lines_behind columns lines) i flat (Exact s ∷ []) (lines_strands lines)
    (line_signed columns s i flat)
    (lines_behind-signed columns lines i flat))

lines_docs-signed : (columns : Columns) (lines : List (List ℕ)) (i : ℕ) (flat : Bool) →
    SignedParts (lines_docs columns lines) i flat (strands_of_lines lines)
unfolding Drawn
lines_docs-signed columns [] i flat = SignedParts-nil i flat [] refl
lines_docs-signed columns (s ∷ lines) i flat =
    SignedParts-cons (line_doc columns s) (lines_behind columns lines) i flat (Exact s ∷ []) (lines_strands lines)
    (line_signed columns s i flat)
    (lines_behind-signed columns lines i flat)

-- an item has the strands of its characters
pub spelling-signed : (columns : Columns) (spelling : List ℕ) (i : ℕ) (flat : Bool) →
    Signed (spelling_doc columns spelling) i flat (spelling_strands spelling)
spelling-signed columns spelling i flat =
    let lines : List (List ℕ) = slice_split (λ c. eqb c 10) spelling in
    seq-signed (lines_docs columns lines) i flat (strands_of_lines lines) (lines_docs-signed columns lines i flat)

-- blank lines and a break
blanks_signed : (blanks i : ℕ) (flat : Bool) →
    SignedParts (replicate blanks bare_break ++ Hard ∷ []) i flat (replicate blanks line_end ++ Firm ∷ [])
blanks_signed zero i flat = SignedParts-one Hard i flat (Firm ∷ []) (hard_signed Firm i flat (i, refl))
blanks_signed (suc blanks) i flat =
    SignedParts-cons bare_break (replicate blanks bare_break ++ Hard ∷ []) i flat (line_end ∷ [])
    (replicate blanks line_end ++ Firm ∷ [])
    (bare_signed i flat) (blanks_signed blanks i flat)

-- what stands where no break is needed
wanted_signed : (needs : Bool) (w : Want) (i : ℕ) (flat : Bool) →
    SignedParts (separator_docs (as_wanted needs w)) i flat (if needs then Loose ∷ [] else Tight ∷ [])
unfolding Signed
wanted_signed true want.Nothing i flat =
    SignedParts-one (plain_text (codes " ")) i flat (Loose ∷ []) (Drawn-one Loose one_space (inl refl))
wanted_signed false want.Nothing i flat = SignedParts-nil i flat (Tight ∷ []) (Drawn-one Tight [] (inl refl))
wanted_signed true want.Space i flat =
    SignedParts-one (plain_text (codes " ")) i flat (Loose ∷ []) (Drawn-one Loose one_space (inl refl))
wanted_signed false want.Space i flat =
    SignedParts-one (plain_text (codes " ")) i flat (Tight ∷ []) (Drawn-one Tight one_space (inr (inl refl)))
wanted_signed true want.Line i flat =
    SignedParts-one Newline i flat (Loose ∷ []) (newline_signed Loose i flat (inl refl) (inr (i, refl)))
wanted_signed false want.Line i flat =
    SignedParts-one Newline i flat (Tight ∷ []) (newline_signed Tight i flat (inr (inl refl)) (inr (inr (i, refl))))
wanted_signed true want.Must i flat =
    SignedParts-one Hard i flat (Loose ∷ []) (hard_signed Loose i flat (inr (i, refl)))
wanted_signed false want.Must i flat = SignedParts-one Hard i flat (Tight ∷ []) (hard_signed Tight i flat (inr (inr (
  i,
  refl,
))))

-- what stands between neighbours, by the three tests
tests_signed : (blanks : ℕ) (trailing breaks needs : Bool) (w : Want) (i : ℕ) (flat : Bool) →
    SignedParts (separator_docs
    (if trailing then separator.Space else if breaks then separator.Hard blanks else as_wanted needs w)) i flat
    (if trailing then Exact one_space ∷ [] else if breaks then replicate blanks line_end ++ Firm
    ∷ [] else if needs then Loose ∷ [] else Tight ∷ [])
tests_signed blanks true breaks needs w i flat =
    SignedParts-one (plain_text one_space) i flat (Exact one_space ∷ []) (text_signed one_space i flat)
tests_signed blanks false true needs w i flat = blanks_signed blanks i flat
tests_signed blanks false false needs w i flat = wanted_signed needs w i flat

-- the separator between neighbours has the strands of their gap, whatever is wanted
separator-signed : (a b : Token) (w : Want) (i : ℕ) (flat : Bool) →
    SignedParts (separator_docs (separator_between a b w)) i flat (gap_strands a b)
separator-signed a b w i flat =
    tests_signed b.blanks (trails b) (needs_break a b) (needs_gap a.kind a.spelling b.spelling) w i flat

-- the strands of the gap between two tokens, if they are there
unfoldable pub gap_between : Option Token → Option Token → List Strand
gap_between (Some a) (Some b) = gap_strands a b
gap_between _ _ = []

-- what stands between two tokens has these strands
pub docs_between-signed : (a b : Option Token) (w : Want) (i : ℕ) (flat : Bool) →
    SignedParts (docs_between a b w) i flat (gap_between a b)
unfolding gap_between Drawn
docs_between-signed (Some a) (Some b) w i flat = separator-signed a b w i flat
docs_between-signed _ _ w i flat = SignedParts-nil i flat [] refl
