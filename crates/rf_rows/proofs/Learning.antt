-- What is known of cells, and of their rows.
use Rattle.std.proofs.lemmas.Bool.{cases_lt}
use Rattle.std.proofs.lemmas.List.{map_push, take_all}
use Rattle.std.proofs.lemmas.Option.{same_Some, slice_get_within}
use Rattle.std.proofs.Common.{◌≡◌, ◌⊎◌, ◌+◌, ◌<◌, ◌≤◌, zero, suc, take, refl, ap, ℕ, Bool, true, false, List, [], ◌∷◌, ◌++◌, append-nil, Option, length, sym, ◌∙◌, subst, inl, inr, Some, slice_get, arith}
use Rattle.rf_base_document.specs.Document.{Doc, Concat, Choice, Text as a_text}
use Rattle.rf_base_cut.specs.OneLine.{both_lengths}
use Rattle.rf_base_cut.specs.Documents.{flat_length_in}
use Rattle.rf_base_cut.specs.DocumentLines.{OneLineIn}
use Rattle.rf_base_document.proofs.Graph.{slice_get-added}
use Rattle.rf_frontier.specs.declared.hows.How.{How}
use Rattle.rf_frontier.specs.declared.hows.HowId.{HowId}
use Rattle.rf_frontier.specs.Ways.{choices_of, KeepsWays}
use Rattle.rf_outline.specs.declared.facts.Known.{Known}
use Rattle.rf_outline.specs.declared.facts.Line.{Line}
use Rattle.rf_outline.specs.declared.facts.Line.TheVariants.{Nothing, Never, Unsure, Long, Text as OneText}
use Rattle.rf_outline.specs.Known.{LineHolds, KnownHolds}
use Rattle.rf_outline.specs.Parts.{LineOfPart}
use Rattle.rf_outline.proofs.Concats.{nothing_before, never_before}
use Rattle.rf_outline.proofs.Holds.{line_kept, known_kept}
use Rattle.rf_rows.specs.declared.pieces.Fill.{Fill}
use Rattle.rf_rows.specs.declared.pieces.Fill.TheVariants as fill
use Rattle.rf_rows.specs.declared.pieces.Piece.{Piece}
use Rattle.rf_rows.specs.declared.pieces.Piece.TheVariants as piece
use Rattle.rf_rows.specs.declared.cells.Cell as declared
use Rattle.rf_rows.specs.declared.knowing.Gathered.{Gathered}
use Rattle.rf_rows.specs.declared.known.KnownCell.{KnownCell}
use Rattle.rf_rows.specs.declared.known.KnownPieces.{KnownPieces}
use Rattle.rf_rows.specs.declared.layouts.Row.{Row}
use Rattle.rf_rows.specs.declared.layouts.Row.TheVariants.{Dropped, Hanging, Hung, InLine, Lines, InColumn, Columns, Column}
use Rattle.rf_rows.specs.declared.layouts.Marks.{Marks}
use Rattle.rf_rows.specs.declared.layouts.Layout.{Layout}
use Rattle.rf_rows.specs.declared.layouts.Layouts.TheVariants.{Bare, One, Two, Three}
use Rattle.rf_rows.specs.Layouts.{row_doc, layout_doc, cell_doc, AreMarks}
use Rattle.rf_rows.specs.Cells.{piece_doc, CellStands, filled_by, pieces_of, cell_at, CellsStand}
use Rattle.rf_rows.specs.Nodes.{row_of}
use Rattle.rf_rows.specs.Knowing.{chain, Passes, spaced, mixed, is_soft, is_spaced, up_to_gap, IsGathered, ArePiecesKnown, IsCellKnown, AreKnownCells}
use Rattle.rf_rows.proofs.OneLines.{line_passes, passes_same, passes_then, passes_both, passes_texts, passes_off_behind, chain_one_more}
use Rattle.rf_rows.proofs.Opened.{cell_is, count_of}
use Rattle.rf_rows.proofs.Mixed.{stays, soft_line}
use Rattle.rf_rows.proofs.RowLines.{dropped_passes, hanging_passes, in_line_passes, in_column_passes}

-- of the same document
pub known_of : (ways : List How) (d e : Doc) (known : Known) → d ≡ e → KnownHolds ways e known → KnownHolds ways d known
known_of ways d e known is h = subst (λ (x : Doc). KnownHolds ways x known) (sym is) h

pub gathered_of : (ways : List How) (d a b : Doc) (g : Gathered) → a ≡ b → IsGathered ways (Concat d b) g → IsGathered ways (Concat d a) g
gathered_of ways d a b g is h = subst (λ (x : Doc). IsGathered ways (Concat d x) g) (sym is) h

-- as ways are added
pub cell_kept : (old new : List How) (ps : List Piece) (cs : List declared.Cell) (k : ℕ) (known : KnownCell) → KeepsWays old new → IsCellKnown old ps cs k known → IsCellKnown new ps cs k known
cell_kept old new ps cs k known keeps h =
    record {
      document = known_kept old new (cell_at ps cs k) known.document keeps h.document;
      line = λ c is. line_kept old new (chain (spaced (cell_at ps cs) (pieces_of ps c))) true known.line keeps (h.line c is);
    }

pub cells_kept : (old new : List How) (ps : List Piece) (cs : List declared.Cell) (list : List KnownCell) → KeepsWays old new → AreKnownCells old ps cs list → AreKnownCells new ps cs list
unfolding AreKnownCells
cells_kept old new ps cs list keeps h k known is = cell_kept old new ps cs k known keeps (h k known is)

-- of no cell, of one cell, and of one cell more
pub no_cells_known : (ways : List How) (ps : List Piece) (cs : List declared.Cell) (list : List KnownCell) → list ≡ [] → AreKnownCells ways ps cs list
unfolding AreKnownCells
no_cells_known ways ps cs list none k known is = cc

pub known_cell : (ways : List How) (ps : List Piece) (cs : List declared.Cell) (list : List KnownCell) (k : ℕ) (known : KnownCell) → AreKnownCells ways ps cs list →
    slice_get list k ≡ Some known → IsCellKnown ways ps cs k known
unfolding AreKnownCells
known_cell ways ps cs list k known h is = h k known is

pub one_cell_more : (ways : List How) (ps : List Piece) (cs : List declared.Cell) (list new : List KnownCell) (k : ℕ) (known : KnownCell) → new ≡ list ++ known ∷ [] → length list ≡ k →
    AreKnownCells ways ps cs list → IsCellKnown ways ps cs k known → AreKnownCells ways ps cs new
unfolding AreKnownCells
one_cell_more ways ps cs list new k known is count h one m other found =
    let within : slice_get (list ++ known ∷ []) m ≡ Some other = subst (λ (l : List KnownCell). slice_get l m ≡ Some other) is found in
    elim (slice_get-added list known m other within) [
      | inl before ↦ h m other before
      | inr last ↦
          let at : m ≡ k = last.0 ∙ count in
          subst (λ (i : ℕ). IsCellKnown ways ps cs i other) (sym at) (subst (λ (o : KnownCell). IsCellKnown ways ps cs k o) last.1 one)
    ]

-- of no piece, and of one piece more
pub no_piece : (ways : List How) (flat : Bool) (how : HowId) → how.0 < length ways → choices_of ways how.0 ≡ [] → LineHolds ways (chain []) flat (OneText 0 how)
unfolding chain OneLineIn flat_length_in
no_piece ways flat how within none = (within, (refl, none), refl)

one_taken : (qs : List Piece) (i : ℕ) (p : Piece) → slice_get qs i ≡ Some p → take (i + 1) qs ≡ take i qs ++ p ∷ []
one_taken qs i p is = ap (λ (n : ℕ). take n qs) (next i) ∙ by_suc qs i is where
  next : (n : ℕ) → n + 1 ≡ suc n
  next n = omega arith

  by_suc : (xs : List Piece) (n : ℕ) → slice_get xs n ≡ Some p → take (suc n) xs ≡ take n xs ++ p ∷ []
  by_suc [] n e = cc
  by_suc (x ∷ xs) zero e = cc
  by_suc (x ∷ xs) (suc n) e = ap (λ (ys : List Piece). x ∷ ys) (by_suc xs n e)

pub one_piece_more : (ways : List How) (g : ℕ → Doc) (qs : List Piece) (i : ℕ) (p : Piece) (more : Gathered) → slice_get qs i ≡ Some p →
    IsGathered ways (Concat (chain (spaced g (take i qs))) (piece_doc g fill.Space p)) more → IsGathered ways (chain (spaced g (take (i + 1) qs))) more
one_piece_more ways g qs i p more is h =
    subst (λ (ds : List Doc). IsGathered ways (chain ds) more) (sym (ap (spaced g) (one_taken qs i p is) ∙ map_push (piece_doc g fill.Space) (take i qs) p))
    (record {
      first = h.first;
      loose = h.loose;
      flat = h.flat;
      passes = λ f.
          passes_then (Concat h.first (a_text [] more.columns)) (Concat (chain (spaced g (take i qs))) (piece_doc g fill.Space p)) (chain (spaced g (take i qs) ++ piece_doc g fill.Space p ∷ [])) f
          (h.passes f) (chain_one_more (spaced g (take i qs)) (piece_doc g fill.Space p) f);
    })

-- with a text behind what has no length
pub text_behind_none : (ways : List How) (s : List ℕ) (d : Doc) (columns : ℕ) (flat : Bool) (line : Line) → (line ≡ Nothing) ⊎ (line ≡ Never) ⊎ (line ≡ Unsure) → LineHolds ways d flat line →
    LineHolds ways (Concat d (a_text s columns)) flat line
text_behind_none ways s d columns flat line kind h = elim kind [
  | inl is ↦ told Nothing is (nothing_before ways ways line Unsure is d (a_text s columns) flat h tt)
  | inr (inl is) ↦ told Never is (never_before ways ways line Unsure is d (a_text s columns) flat h tt)
  | inr (inr is) ↦ told Unsure is tt
]
  where
    told : (l : Line) → line ≡ l → LineHolds ways (Concat d (a_text s columns)) flat l → LineHolds ways (Concat d (a_text s columns)) flat line
    told l is p = subst (λ (x : Line). LineHolds ways (Concat d (a_text s columns)) flat x) (sym is) p

-- with a text behind them, by the same choices
pub text_behind : (ways : List How) (len columns sum : ℕ) (how : HowId) (s : List ℕ) (d : Doc) (flat : Bool) → sum ≡ len + columns → LineHolds ways d flat (OneText len how) →
    LineHolds ways (Concat d (a_text s columns)) flat (OneText sum how)
unfolding OneLineIn flat_length_in
text_behind ways len columns sum how s d flat is p = (
  p.0,
  (len, columns, choices_of ways how.0, [], is, sym (append-nil (choices_of ways how.0)), p.1, (refl, refl)),
  ap (λ (o : Option ℕ). both_lengths o (Some columns)) p.2 ∙ ap (λ (n : ℕ). Some n) (sym is),
)

pub long_behind : (ways : List How) (len columns sum : ℕ) (how : HowId) (s : List ℕ) (d : Doc) (flat : Bool) → sum ≡ len + columns → LineHolds ways d flat (Long len how) →
    LineHolds ways (Concat d (a_text s columns)) flat (Long sum how)
unfolding OneLineIn
long_behind ways len columns sum how s d flat is p =
    (p.0, (len, columns, choices_of ways how.0, [], is, sym (append-nil (choices_of ways how.0)), p.1, (refl, refl)))

-- a line of a document that a text is told behind, and so of pieces that are gathered
pub line_of_texts : (ways : List How) (first d : Doc) (columns : ℕ) (flat : Bool) (before line : Line) → Passes (Concat first (a_text [] columns)) d flat →
    LineOfPart (λ x. Concat x (a_text [] columns)) ways before line → LineHolds ways first flat before → LineHolds ways d flat line
line_of_texts ways first d columns flat before line p grown h = line_passes ways (Concat first (a_text [] columns)) d flat line p (grown first flat h)

-- pieces of which all are told with the lines
pub all_gathered : (ways : List How) (d : Doc) (g : Gathered) → g.columns ≡ 0 → LineHolds ways d false g.loose → LineHolds ways d true g.flat → IsGathered ways d g
all_gathered ways d g none loose flat =
    record {
      first = d;
      loose = loose;
      flat = flat;
      passes = λ f. subst (λ (n : ℕ). Passes (Concat d (a_text [] n)) d f) (sym none) (passes_off_behind d f);
    }

-- with a text behind them
pub longer_gathered : (ways : List How) (d : Doc) (s : List ℕ) (g more : Gathered) (columns : ℕ) → more.loose ≡ g.loose → more.flat ≡ g.flat → more.columns ≡ g.columns + columns →
    IsGathered ways d g → IsGathered ways (Concat d (a_text s columns)) more
longer_gathered ways d s g more columns loose flat sum h =
    record {
      first = h.first;
      loose = subst (λ (l : Line). LineHolds ways h.first false l) (sym loose) h.loose;
      flat = subst (λ (l : Line). LineHolds ways h.first true l) (sym flat) h.flat;
      passes = λ f.
          passes_then (Concat h.first (a_text [] more.columns)) (Concat (Concat h.first (a_text [] g.columns)) (a_text s columns)) (Concat d (a_text s columns)) f
          (passes_texts h.first s g.columns columns more.columns f sum)
          (passes_both (Concat h.first (a_text [] g.columns)) (a_text s columns) d (a_text s columns) f (h.passes f) (passes_same (a_text s columns) f));
    }

pub anew_gathered : (ways : List How) (d : Doc) (s : List ℕ) (more : Gathered) (columns : ℕ) → more.columns ≡ columns → LineHolds ways d false more.loose → LineHolds ways d true more.flat →
    IsGathered ways (Concat d (a_text s columns)) more
anew_gathered ways d s more columns is loose flat =
    record {
      first = d;
      loose = loose;
      flat = flat;
      passes = λ f.
          passes_then (Concat d (a_text [] more.columns)) (Concat (Concat d (a_text [] 0)) (a_text s columns)) (Concat d (a_text s columns)) f
          (passes_texts d s 0 columns more.columns f (omega (arith, is)))
          (passes_both (Concat d (a_text [] 0)) (a_text s columns) d (a_text s columns) f (passes_off_behind d f) (passes_same (a_text s columns) f));
    }

-- the last gap among the pieces so far
still_before : (qs : List Piece) (i gaps j : ℕ) (p : Piece) → slice_get qs i ≡ Some p → (p ≡ piece.Gap → ⊥) → ((j : ℕ) → j < i → slice_get qs j ≡ Some piece.Gap → j < gaps) →
    j < i + 1 → slice_get qs j ≡ Some piece.Gap → j < gaps
still_before qs i gaps j p is other h less gap =
    elim (cases_lt j i) [
      | inl earlier ↦ h j earlier gap
      | inr last ↦ absurd (other (same_Some p piece.Gap (sym is ∙ ap (slice_get qs) (same i j less last) ∙ gap)))
    ]
  where
    same : (i j : ℕ) → j < i + 1 → i ≤ j → i ≡ j
    same i j less last = omega (arith, less, last)

pub gaps_before : (qs : List Piece) (i gaps : ℕ) (p : Piece) → slice_get qs i ≡ Some p → ((j : ℕ) → j < i → slice_get qs j ≡ Some piece.Gap → j < gaps) →
    (j : ℕ) → j < i + 1 → slice_get qs j ≡ Some piece.Gap → j < up_to_gap p i gaps
gaps_before qs i gaps piece.Gap is h j less gap = less
gaps_before qs i gaps (piece.Text len s) is h j less gap = still_before qs i gaps j (piece.Text len s) is (λ e. cc) h less gap
gaps_before qs i gaps piece.Space is h j less gap = still_before qs i gaps j piece.Space is (λ e. cc) h less gap
gaps_before qs i gaps piece.Newline is h j less gap = still_before qs i gaps j piece.Newline is (λ e. cc) h less gap
gaps_before qs i gaps piece.Hard is h j less gap = still_before qs i gaps j piece.Hard is (λ e. cc) h less gap
gaps_before qs i gaps piece.BareBreak is h j less gap = still_before qs i gaps j piece.BareBreak is (λ e. cc) h less gap
gaps_before qs i gaps (piece.Cell k) is h j less gap = still_before qs i gaps j (piece.Cell k) is (λ e. cc) h less gap

pub gap_there : (qs : List Piece) (i gaps : ℕ) (p : Piece) → slice_get qs i ≡ Some p → ((j : ℕ) → gaps ≡ j + 1 → slice_get qs j ≡ Some piece.Gap) →
    (j : ℕ) → up_to_gap p i gaps ≡ j + 1 → slice_get qs j ≡ Some piece.Gap
gap_there qs i gaps piece.Gap is h j e = ap (slice_get qs) (same i j e) ∙ is where
  same : (i j : ℕ) → i + 1 ≡ j + 1 → j ≡ i
  same i j e = omega (arith, e)
gap_there qs i gaps (piece.Text len s) is h j e = h j e
gap_there qs i gaps piece.Space is h j e = h j e
gap_there qs i gaps piece.Newline is h j e = h j e
gap_there qs i gaps piece.Hard is h j e = h j e
gap_there qs i gaps piece.BareBreak is h j e = h j e
gap_there qs i gaps (piece.Cell k) is h j e = h j e

-- so they are all of the cell's pieces at the end
pub all_pieces : (ways : List How) (ps : List Piece) (cs : List declared.Cell) (k : ℕ) (c : declared.Cell) (n : ℕ) (known : KnownPieces) → CellStands ps k c → n ≡ c.count →
    LineHolds ways (chain (spaced (cell_at ps cs) (take n (pieces_of ps c)))) false known.loose → LineHolds ways (chain (spaced (cell_at ps cs) (take n (pieces_of ps c)))) true known.flat →
    ((j : ℕ) → j < n → slice_get (pieces_of ps c) j ≡ Some piece.Gap → j < known.gaps) → ((j : ℕ) → known.gaps ≡ j + 1 → slice_get (pieces_of ps c) j ≡ Some piece.Gap) →
    ArePiecesKnown ways ps cs c known
all_pieces ways ps cs k c n known stand all loose flat before there =
    record {
      loose = subst (λ (qs : List Piece). LineHolds ways (chain (spaced (cell_at ps cs) qs)) false known.loose) whole loose;
      flat = subst (λ (qs : List Piece). LineHolds ways (chain (spaced (cell_at ps cs) qs)) true known.flat) whole flat;
      gaps = record { before = λ i is. before i (omega (arith, all, count, slice_get_within (pieces_of ps c) i piece.Gap is)) is; there = there };
    }
  where
    count : length (pieces_of ps c) ≡ c.count
    count = count_of ps k c stand

    whole : take n (pieces_of ps c) ≡ pieces_of ps c
    whole = take_all n (pieces_of ps c) (omega (arith, all, count))

-- of a cell, by its layouts
pub bare_layout : (ps : List Piece) (cs : List declared.Cell) (k : ℕ) (c : declared.Cell) → CellsStand ps cs → slice_get cs k ≡ Some c → c.layouts ≡ Bare →
    cell_at ps cs k ≡ row_doc c.marks c.count (row_of ps cs c) Dropped
unfolding cell_doc
bare_layout ps cs k c stand is kind = cell_is ps cs k c Bare stand is kind

pub one_layout : (ps : List Piece) (cs : List declared.Cell) (k : ℕ) (c : declared.Cell) (a : Layout) → CellsStand ps cs → slice_get cs k ≡ Some c → c.layouts ≡ One a →
    cell_at ps cs k ≡ layout_doc c.marks c.count (row_of ps cs c) a
unfolding cell_doc
one_layout ps cs k c a stand is kind = cell_is ps cs k c (One a) stand is kind

pub two_layouts : (ps : List Piece) (cs : List declared.Cell) (k : ℕ) (c : declared.Cell) (a b : Layout) → CellsStand ps cs → slice_get cs k ≡ Some c → c.layouts ≡ Two a b →
    cell_at ps cs k ≡ Choice (layout_doc c.marks c.count (row_of ps cs c) a) (layout_doc c.marks c.count (row_of ps cs c) b)
unfolding cell_doc
two_layouts ps cs k c a b stand is kind = cell_is ps cs k c (Two a b) stand is kind

pub three_layouts : (ps : List Piece) (cs : List declared.Cell) (k : ℕ) (c : declared.Cell) (a b d : Layout) → CellsStand ps cs → slice_get cs k ≡ Some c → c.layouts ≡ Three a b d →
    cell_at ps cs k
    ≡ Choice (layout_doc c.marks c.count (row_of ps cs c) a) (Choice (layout_doc c.marks c.count (row_of ps cs c) b) (layout_doc c.marks c.count (row_of ps cs c) d))
unfolding cell_doc
three_layouts ps cs k c a b d stand is kind = cell_is ps cs k c (Three a b d) stand is kind

-- of a document that begins with what isn't known to be a break
unknown : {b : Bool} {A : Type 0} → b ≡ false → b ≡ true → A
unknown h e = cc

pub known_passes : (ways : List How) (d e : Doc) (known : Known) → Passes d e false → Passes d e true → (known.loose.begins ≡ false) × (known.flat.begins ≡ false) →
    LineHolds ways d false known.loose.line → LineHolds ways d true known.flat.line → KnownHolds ways e known
known_passes ways d e known p q begins loose flat =
    ((line_passes ways d e false known.loose.line p loose, λ h. unknown begins.0 h), (line_passes ways d e true known.flat.line q flat, λ h. unknown begins.1 h))

-- a row that is flat, of all pieces
soft_stays : (f : Fill) → is_soft f ≡ true → stays f true ≡ true
soft_stays fill.Space h = h
soft_stays fill.Newline h = h
soft_stays fill.Hard h = h

pub spaced_row : (ways : List How) (g : ℕ → Doc) (qs : List Piece) (m : Marks) (count : ℕ) (row : Row) (line : Line) → count ≡ length qs → AreMarks m count → is_spaced m row ≡ true →
    LineHolds ways (chain (spaced g qs)) true line → LineHolds ways (row_doc m count (filled_by g qs) row) true line
spaced_row ways g qs m count Dropped line is marks soft h =
    line_passes ways (chain (mixed g qs 0 0 fill.Newline)) (row_doc m count (filled_by g qs) Dropped) true line (dropped_passes g qs m count true is)
    (soft_line ways g qs 0 0 fill.Newline line (omega arith) soft h)
spaced_row ways g qs m count Hanging line is marks soft h =
    line_passes ways (chain (mixed g qs m.second m.second fill.Newline)) (row_doc m count (filled_by g qs) Hanging) true line (hanging_passes g qs m count true is)
    (soft_line ways g qs m.second m.second fill.Newline line (omega arith) soft h)
spaced_row ways g qs m count InLine line is marks soft h =
    line_passes ways (chain (mixed g qs m.bodies m.bodies m.fill)) (row_doc m count (filled_by g qs) InLine) true line (in_line_passes g qs m count true is marks)
    (soft_line ways g qs m.bodies m.bodies m.fill line (omega arith) (soft_stays m.fill soft) h)
spaced_row ways g qs m count InColumn line is marks soft h =
    line_passes ways (chain (mixed g qs m.second m.bodies m.fill)) (row_doc m count (filled_by g qs) InColumn) true line (in_column_passes g qs m count true is marks)
    (soft_line ways g qs m.second m.bodies m.fill line marks.second (soft_stays m.fill soft) h)
spaced_row ways g qs m count _ line is marks soft h = cc
