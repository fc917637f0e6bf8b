-- Pieces whose gaps are filled otherwise, on one line.
use Rattle.std.proofs.Common.{◌≡◌, ℕ, zero, suc, ◌+◌, ◌-◌, ◌≤◌, ◌<◌, Bool, true, false, List, [], ◌∷◌, ◌++◌, length, map, take, drop, refl, sym, ◌∙◌, ap, inl, inr, Some, None, slice_get, arith}
use Rattle.std.proofs.lemmas.Bool.{cases_lt, or_left, or_right}
use Rattle.std.proofs.lemmas.List.{take-append-drop, map-append}
use Rattle.std.proofs.lemmas.List.Folds.{drop_split}
use Rattle.std.proofs.lemmas.Option.{slice_get_within}
use Rattle.std.specs.List.{slice_range}
use Rattle.rf_base_document.specs.Document.{Doc}
use Rattle.rf_base_document.specs.Simple.{simple, simple_concat}
use Rattle.rf_base_cut.specs.Documents.{flat_length_in}
use Rattle.rf_base_cut.specs.DocumentLines.{never_free_in, OneLineIn}
use Rattle.rf_frontier.specs.declared.hows.How.{How}
use Rattle.rf_outline.specs.declared.facts.Line.{Line}
use Rattle.rf_outline.specs.declared.facts.Line.TheVariants.{Nothing}
use Rattle.rf_outline.specs.Known.{LineHolds}
use Rattle.rf_outline.proofs.Concats.{concat_none}
use Rattle.rf_rows.specs.declared.pieces.Fill.{Fill}
use Rattle.rf_rows.specs.declared.pieces.Fill.TheVariants as fill
use Rattle.rf_rows.specs.declared.pieces.Piece.{Piece}
use Rattle.rf_rows.specs.declared.pieces.Piece.TheVariants as piece
use Rattle.rf_rows.specs.Layouts.{fill_doc}
use Rattle.rf_rows.specs.Cells.{piece_doc}
use Rattle.rf_rows.specs.Knowing.{chain, Passes, spaced, mixed, EndsGaps}
use Rattle.rf_rows.proofs.OneLines.{line_passes, passes_same, passes_is, passes_then, passes_both, chain_of_three, second_never, third_never, third_none}
use Rattle.rf_rows.proofs.Slices.{get_sliced, get_dropped}

-- a gap that is filled so isn't a break
abbrev pub stays : Fill → Bool → Bool
stays fill.Space flat = true
stays fill.Newline flat = flat
stays fill.Hard flat = false

gap_passes : (f : Fill) (flat : Bool) → stays f flat ≡ true → Passes (fill_doc fill.Space) (fill_doc f) flat
unfolding never_free_in OneLineIn flat_length_in simple
gap_passes fill.Space flat h = passes_same (fill_doc fill.Space) flat
gap_passes fill.Newline true h = record { never = λ e. cc; line = λ len how e. (refl, e.0, e.1); text = λ len e. e; nothing = λ e. cc }
gap_passes fill.Newline false h = cc
gap_passes fill.Hard flat h = cc

piece_passes : (g : ℕ → Doc) (f : Fill) (flat : Bool) (p : Piece) → stays f flat ≡ true → Passes (piece_doc g fill.Space p) (piece_doc g f p) flat
piece_passes g f flat (piece.Text len s) h = passes_same (piece_doc g f (piece.Text len s)) flat
piece_passes g f flat piece.Space h = passes_same (piece_doc g f piece.Space) flat
piece_passes g f flat piece.Newline h = passes_same (piece_doc g f piece.Newline) flat
piece_passes g f flat piece.Hard h = passes_same (piece_doc g f piece.Hard) flat
piece_passes g f flat piece.BareBreak h = passes_same (piece_doc g f piece.BareBreak) flat
piece_passes g f flat piece.Gap h = gap_passes f flat h
piece_passes g f flat (piece.Cell k) h = passes_same (piece_doc g f (piece.Cell k)) flat

pub filled_passes : (g : ℕ → Doc) (f : Fill) (flat : Bool) (qs : List Piece) → stays f flat ≡ true → Passes (chain (spaced g qs)) (chain (map (piece_doc g f) qs)) flat
unfolding chain
filled_passes g f flat [] h = passes_same (chain []) flat
filled_passes g f flat (p ∷ qs) h =
    passes_both (piece_doc g fill.Space p) (chain (spaced g qs)) (piece_doc g f p) (chain (map (piece_doc g f) qs)) flat (piece_passes g f flat p h) (filled_passes g f flat qs h)

-- where there is no gap, nothing is filled
NoGap : List Piece → Type 0
NoGap qs = (i : ℕ) → slice_get qs i ≡ Some piece.Gap → ⊥

other_piece : (g : ℕ → Doc) (f : Fill) (flat : Bool) (p : Piece) → (p ≡ piece.Gap → ⊥) → Passes (piece_doc g fill.Space p) (piece_doc g f p) flat
other_piece g f flat (piece.Text len s) never = passes_same (piece_doc g f (piece.Text len s)) flat
other_piece g f flat piece.Space never = passes_same (piece_doc g f piece.Space) flat
other_piece g f flat piece.Newline never = passes_same (piece_doc g f piece.Newline) flat
other_piece g f flat piece.Hard never = passes_same (piece_doc g f piece.Hard) flat
other_piece g f flat piece.BareBreak never = passes_same (piece_doc g f piece.BareBreak) flat
other_piece g f flat piece.Gap never = absurd (never refl)
other_piece g f flat (piece.Cell k) never = passes_same (piece_doc g f (piece.Cell k)) flat

unfilled_passes : (g : ℕ → Doc) (f : Fill) (flat : Bool) (qs : List Piece) → NoGap qs → Passes (chain (spaced g qs)) (chain (map (piece_doc g f) qs)) flat
unfolding chain NoGap
unfilled_passes g f flat [] never = passes_same (chain []) flat
unfilled_passes g f flat (p ∷ qs) never =
    passes_both (piece_doc g fill.Space p) (chain (spaced g qs)) (piece_doc g f p) (chain (map (piece_doc g f) qs)) flat (other_piece g f flat p (λ is. never 0 (ap (λ (x : Piece). Some x) is)))
    (unfilled_passes g f flat qs (λ i is. never (suc i) is))

-- a gap that is a break
gap_never : (f : Fill) (flat : Bool) → stays f flat ≡ false → never_free_in (fill_doc f) flat ≡ true
unfolding never_free_in
gap_never fill.Space flat h = cc
gap_never fill.Newline true h = cc
gap_never fill.Newline false h = refl
gap_never fill.Hard flat h = refl

same_piece : {p q : Piece} → Some p ≡ Some q → p ≡ q
same_piece e = cc

filled_never : (g : ℕ → Doc) (f : Fill) (flat : Bool) (qs : List Piece) (i : ℕ) → stays f flat ≡ false → slice_get qs i ≡ Some piece.Gap → never_free_in (chain (map (piece_doc g f) qs)) flat ≡ true
unfolding chain never_free_in
filled_never g f flat [] i h is = cc
filled_never g f flat (p ∷ qs) zero h is =
    or_left (never_free_in (piece_doc g f p) flat) (never_free_in (chain (map (piece_doc g f) qs)) flat)
    (ap (λ (x : Piece). never_free_in (piece_doc g f x) flat) (same_piece is) ∙ gap_never f flat h)
filled_never g f flat (p ∷ qs) (suc i) h is =
    or_right (never_free_in (piece_doc g f p) flat) (never_free_in (chain (map (piece_doc g f) qs)) flat) (filled_never g f flat qs i h is)

-- one that has no layout where flat
hard_none : (g : ℕ → Doc) (qs : List Piece) (i : ℕ) → slice_get qs i ≡ Some piece.Gap → simple (chain (map (piece_doc g fill.Hard) qs)) true ≡ None
unfolding chain simple
hard_none g [] i is = cc
hard_none g (p ∷ qs) zero is =
    ap (λ (x : Piece). simple_concat (simple (piece_doc g fill.Hard x) true) (simple (chain (map (piece_doc g fill.Hard) qs)) true)) (same_piece is)
hard_none g (p ∷ qs) (suc i) is =
    ap (simple_concat (simple (piece_doc g fill.Hard p) true)) (hard_none g qs i is) ∙ concat_none (simple (piece_doc g fill.Hard p) true)

-- the last gap among the pieces from one up to another, and from one on
no_gap_between : (qs : List Piece) (a b gaps : ℕ) → EndsGaps qs gaps → gaps ≤ a → NoGap (slice_range qs a b)
unfolding NoGap
no_gap_between qs a b gaps h few i is =
    elim (cases_lt (a + i) b) [
      | inl less ↦ absurd (omega (arith, few, h.before (a + i) (sym (get_sliced qs a b i less) ∙ is)))
      | inr past ↦ absurd (omega (arith, past, sliced_within qs a b i is))
    ]
  where
    sliced_within : (xs : List Piece) (from to i : ℕ) → slice_get (slice_range xs from to) i ≡ Some piece.Gap → from + i < to
    sliced_within xs from to i found = omega (arith, slice_get_within (slice_range xs from to) i piece.Gap found, short (to - from) (drop from xs)) where
      short : (n : ℕ) (ys : List Piece) → length (take n ys) ≤ n
      short zero ys = omega arith
      short (suc n) [] = omega arith
      short (suc n) (y ∷ ys) = omega (arith, short n ys)

no_gap_behind : (qs : List Piece) (b gaps : ℕ) → EndsGaps qs gaps → gaps ≤ b → NoGap (drop b qs)
unfolding NoGap
no_gap_behind qs b gaps h few i is = omega (arith, few, h.before (b + i) (sym (get_dropped qs b i) ∙ is))

gap_between : (qs : List Piece) (a b gaps : ℕ) → EndsGaps qs gaps → a < gaps → gaps ≤ b → slice_get (slice_range qs a b) (gaps - a - 1) ≡ Some piece.Gap
gap_between qs a b gaps h some few =
    get_sliced qs a b (gaps - a - 1) (omega (arith, some, few)) ∙ ap (slice_get qs) (same a gaps some) ∙ h.there (gaps - 1) (omega (arith, some))
  where
    same : (a gaps : ℕ) → a < gaps → a + (gaps - a - 1) ≡ gaps - 1
    same a gaps some = omega (arith, some)

gap_behind : (qs : List Piece) (b gaps : ℕ) → EndsGaps qs gaps → b < gaps → slice_get (drop b qs) (gaps - b - 1) ≡ Some piece.Gap
gap_behind qs b gaps h some =
    get_dropped qs b (gaps - b - 1) ∙ ap (slice_get qs) (same b gaps some) ∙ h.there (gaps - 1) (omega (arith, some))
  where
    same : (a gaps : ℕ) → a < gaps → a + (gaps - a - 1) ≡ gaps - 1
    same a gaps some = omega (arith, some)

-- the pieces cut in three
cut_in_three : (g : ℕ → Doc) (qs : List Piece) (a b : ℕ) → a ≤ b →
    spaced g qs ≡ spaced g (take a qs) ++ (spaced g (slice_range qs a b) ++ spaced g (drop b qs))
cut_in_three g qs a b order =
    ap (spaced g) (sym (take-append-drop a qs) ∙ ap (λ (xs : List Piece). take a qs ++ xs) (drop_split qs a b order))
    ∙ map-append (piece_doc g fill.Space) (take a qs) (slice_range qs a b ++ drop b qs)
    ∙ ap (λ (xs : List Doc). spaced g (take a qs) ++ xs) (map-append (piece_doc g fill.Space) (slice_range qs a b) (drop b qs))

-- what is told of the pieces passes where each part lets it pass
pub mixed_passes : (g : ℕ → Doc) (qs : List Piece) (a b : ℕ) (f : Fill) (flat : Bool) → a ≤ b →
    Passes (chain (spaced g (slice_range qs a b))) (chain (map (piece_doc g fill.Newline) (slice_range qs a b))) flat →
    Passes (chain (spaced g (drop b qs))) (chain (map (piece_doc g f) (drop b qs))) flat →
    Passes (chain (spaced g qs)) (chain (mixed g qs a b f)) flat
mixed_passes g qs a b f flat order p q =
    passes_then (chain (spaced g qs)) (chain (spaced g (take a qs) ++ (spaced g (slice_range qs a b) ++ spaced g (drop b qs)))) (chain (mixed g qs a b f)) flat
    (passes_is (chain (spaced g qs)) (chain (spaced g (take a qs) ++ (spaced g (slice_range qs a b) ++ spaced g (drop b qs)))) flat (ap chain (cut_in_three g qs a b order)))
    (chain_of_three (spaced g (take a qs)) (spaced g (slice_range qs a b)) (spaced g (drop b qs)) (map (piece_doc g fill.Newline) (slice_range qs a b)) (map (piece_doc g f) (drop b qs)) flat p q)

-- no gap is filled
pub unfilled_line : (ways : List How) (g : ℕ → Doc) (qs : List Piece) (a b gaps : ℕ) (f : Fill) (flat : Bool) (l : Line) → a ≤ b → EndsGaps qs gaps → gaps ≤ a →
    LineHolds ways (chain (spaced g qs)) flat l → LineHolds ways (chain (mixed g qs a b f)) flat l
unfilled_line ways g qs a b gaps f flat l order h few =
    line_passes ways (chain (spaced g qs)) (chain (mixed g qs a b f)) flat l
    (mixed_passes g qs a b f flat order (unfilled_passes g fill.Newline flat (slice_range qs a b) (no_gap_between qs a b gaps h few))
    (unfilled_passes g f flat (drop b qs) (no_gap_behind qs b gaps h (omega (arith, few, order)))))

-- a gap is a break
pub broken_line : (g : ℕ → Doc) (qs : List Piece) (a b gaps : ℕ) (f : Fill) → EndsGaps qs gaps → a < gaps → (b < gaps → stays f false ≡ false) →
    never_free_in (chain (mixed g qs a b f)) false ≡ true
broken_line g qs a b gaps f h some breaks =
    elim (cases_lt b gaps) [
      | inl past ↦ third_never (spaced g (take a qs)) (map (piece_doc g fill.Newline) (slice_range qs a b)) (map (piece_doc g f) (drop b qs)) false
          (filled_never g f false (drop b qs) (gaps - b - 1) (breaks past) (gap_behind qs b gaps h past))
      | inr few ↦ second_never (spaced g (take a qs)) (map (piece_doc g fill.Newline) (slice_range qs a b)) (map (piece_doc g f) (drop b qs)) false
          (filled_never g fill.Newline false (slice_range qs a b) (gaps - a - 1) refl (gap_between qs a b gaps h some few))
    ]

pub hard_line : (ways : List How) (g : ℕ → Doc) (qs : List Piece) (a b gaps : ℕ) → EndsGaps qs gaps → b < gaps → LineHolds ways (chain (mixed g qs a b fill.Hard)) true Nothing
hard_line ways g qs a b gaps h past = (
  third_never (spaced g (take a qs)) (map (piece_doc g fill.Newline) (slice_range qs a b)) (map (piece_doc g fill.Hard) (drop b qs)) true
      (filled_never g fill.Hard true (drop b qs) (gaps - b - 1) refl (gap_behind qs b gaps h past)),
  third_none (spaced g (take a qs)) (map (piece_doc g fill.Newline) (slice_range qs a b)) (map (piece_doc g fill.Hard) (drop b qs)) true
      (hard_none g (drop b qs) (gaps - b - 1) (gap_behind qs b gaps h past)),
)

-- where they are flat, newlines are spaces
pub soft_line : (ways : List How) (g : ℕ → Doc) (qs : List Piece) (a b : ℕ) (f : Fill) (l : Line) → a ≤ b → stays f true ≡ true →
    LineHolds ways (chain (spaced g qs)) true l → LineHolds ways (chain (mixed g qs a b f)) true l
soft_line ways g qs a b f l order soft =
    line_passes ways (chain (spaced g qs)) (chain (mixed g qs a b f)) true l
    (mixed_passes g qs a b f true order (filled_passes g fill.Newline true (slice_range qs a b) refl) (filled_passes g f true (drop b qs) soft))

pub few_gaps_line : (ways : List How) (g : ℕ → Doc) (qs : List Piece) (a b gaps : ℕ) (f : Fill) (l : Line) → a ≤ b → EndsGaps qs gaps → gaps ≤ b →
    LineHolds ways (chain (spaced g qs)) true l → LineHolds ways (chain (mixed g qs a b f)) true l
few_gaps_line ways g qs a b gaps f l order h few =
    line_passes ways (chain (spaced g qs)) (chain (mixed g qs a b f)) true l
    (mixed_passes g qs a b f true order (filled_passes g fill.Newline true (slice_range qs a b) refl) (unfilled_passes g f true (drop b qs) (no_gap_behind qs b gaps h few)))
