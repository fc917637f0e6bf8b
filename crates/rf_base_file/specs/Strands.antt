-- The strands of items.
use Rattle.std.specs.Prelude.{ℕ, ◌==◌, if◌then◌else◌, List, [], ◌∷◌, ◌++◌, replicate}
use Rattle.std.specs.List.{slice_split}
use Rattle.rf_base_grammar.specs.Token.{Token}
use Rattle.rf_base_grammar.specs.Woven.{trails}
use Rattle.rf_base_tree.specs.Cut.{needs_gap, needs_break}
use Rattle.rf_base_file.specs.Signature.{Strand, Exact, Tight, Loose, Firm, one_space}

-- a line end
abbrev pub line_end : Strand
line_end = Exact (10 ∷ [])

-- the strands of the gap between the neighbours a and b: a space before a comment that trails; otherwise, where a break
-- stands between them, a line end for each blank line and one more, behind which spaces stand; and otherwise a gap that
-- may be empty, unless they need one
abbrev pub gap_strands : Token → Token → List Strand
gap_strands a b =
    if trails b then Exact one_space ∷ []
    else if needs_break a b then replicate b.blanks line_end ++ Firm ∷ []
    else if needs_gap a.kind a.spelling b.spelling then Loose ∷ [] else Tight ∷ []

-- the strands of lines, with a line end before each
abbrev pub lines_strands : List (List ℕ) → List Strand
lines_strands [] = []
lines_strands (s ∷ lines) = line_end ∷ Exact s ∷ lines_strands lines

-- the strands of lines, with a line end between neighbours
abbrev pub strands_of_lines : List (List ℕ) → List Strand
strands_of_lines [] = []
strands_of_lines (s ∷ lines) = Exact s ∷ lines_strands lines

-- the strands of an item's characters
abbrev pub spelling_strands : List ℕ → List Strand
spelling_strands spelling = strands_of_lines (slice_split (λ c. c == 10) spelling)

-- what stands behind an item: a gap and an item's characters, for each of these items
unfoldable pub strands_behind : Token → List Token → List Strand
strands_behind a [] = []
strands_behind a (b ∷ ts) = gap_strands a b ++ (spelling_strands b.spelling ++ strands_behind b ts)

-- the items' characters with gaps between neighbours, and one line end; without items nothing
abbrev pub file_strands : List Token → List Strand
file_strands [] = []
file_strands (t ∷ ts) = spelling_strands t.spelling ++ (strands_behind t ts ++ line_end ∷ [])
