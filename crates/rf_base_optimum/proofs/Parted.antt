-- In a sequence of which each part or its neighbour is a line break, what is best for each part in its place is best
-- for the whole.
use Rattle.std.proofs.Common.{◌≡◌, ℕ, suc, false, List, [], ◌∷◌, ◌++◌, length, refl, sym, ◌∙◌, ap, subst, append_assoc, append-nil, ◌⊎◌, inl, inr, Some, arith}
use Rattle.std.specs.Prelude.{⊤}
use Rattle.rf_base_document.specs.declared.directions.Dir.{Dir}
use Rattle.rf_base_document.specs.Document.{Doc, Newline, Hard, Concat, Reset, IsDocument}
use Rattle.rf_base_document.specs.Sequence.{seq}
use Rattle.rf_base_document.specs.Render.{Piece, Break, Laid, laid, render}
use Rattle.rf_base_document.specs.Picks.{Picks, LaidOutBy}
use Rattle.rf_base_document.specs.Simple.{simple}
use Rattle.rf_base_cost.specs.Cost.{Costs, IsColumn, Lawful}
use Rattle.rf_base_optimum.specs.Chosen.{choose}
use Rattle.rf_base_optimum.specs.Best.{Best}
use Rattle.rf_base_optimum.proofs.CoreChoices.{chosen_of_core}
use Rattle.rf_base_optimum.proofs.Sequences.{row_by_halves, RunsThrough, Runs, one_runs, both_run}
use Rattle.rf_base_optimum.proofs.Seams.{Seam, best_of_both}

-- the document is a line break that ends at column 0 where the indentation is 0
abbrev pub IsBreak : Doc → Type 0
IsBreak d = (d ≡ Hard) ⊎ (d ≡ Reset Hard)

-- the document or the first of these is a break
abbrev pub BreakBetween : Doc → List Doc → Type 0
BreakBetween d [] = ⊤
BreakBetween d (e ∷ ds) = IsBreak d ⊎ IsBreak e

-- of each document and its neighbour one is a break
unfoldable pub Parted : List Doc → Type 0
Parted [] = ⊤
Parted (d ∷ ds) = BreakBetween d ds × Parted ds

-- the last of these documents
unfoldable pub last_doc : Doc → List Doc → Doc
last_doc d [] = d
last_doc d (e ∷ ds) = last_doc e ds

pub parted-apart : (d e : Doc) (ds es : List Doc) → Parted (d ∷ (ds ++ (e ∷ es))) →
    Parted (d ∷ ds) × Parted (e ∷ es) × (IsBreak (last_doc d ds) ⊎ IsBreak e)
unfolding Parted last_doc
parted-apart d e [] es h = ((tt, tt), h.1, h.0)
parted-apart d e (f ∷ ds) es h = let rest = parted-apart f e ds es h.1 in ((h.0, rest.0), rest.1, rest.2)

-- a break's layout
pub break_laid : (d : Doc) (cs : List Dir) (c : ℕ) (whole : Laid) → IsBreak d → LaidOutBy d cs c 0 false whole →
    whole ≡ laid (Break 0 ∷ []) 0
unfolding Picks render
break_laid d cs c whole (inl e) h =
    let of_break = subst (λ (x : Doc). LaidOutBy x cs c 0 false whole) e h in
    let is : Some (laid (Break 0 ∷ []) 0) ≡ Some whole =
    sym (ap (λ (x : Doc). render x c 0 false) of_break.1.1) ∙ of_break.2 in
    cc
break_laid d cs c whole (inr e) h =
    let of_break = subst (λ (x : Doc). LaidOutBy x cs c 0 false whole) e h in
    let is : Some (laid (Break 0 ∷ []) 0) ≡ Some whole =
    sym (ap (λ (x : Doc). render x c 0 false) (of_break.1.1 ∙ ap (λ (x : Doc). Reset x) of_break.1.2.1)) ∙ of_break.2 in
    cc

pub break_anywhere : (d : Doc) (c : ℕ) → IsBreak d → LaidOutBy d [] c 0 false (laid (Break 0 ∷ []) 0)
unfolding Picks render
break_anywhere d c (inl e) = subst (λ (x : Doc). LaidOutBy x [] c 0 false (laid (Break 0 ∷ []) 0)) (sym e) (
  Hard,
  (refl, refl),
  refl,
)
break_anywhere d c (inr e) =
    subst (λ (x : Doc). LaidOutBy x [] c 0 false (laid (Break 0 ∷ []) 0)) (sym e) (
      Reset Hard,
      (Hard, refl, (refl, refl)),
      refl,
    )

pub break_no_choices : (d : Doc) (cs : List Dir) (c : ℕ) (whole : Laid) → IsBreak d → LaidOutBy d cs c 0 false whole →
    cs ≡ []
unfolding Picks
break_no_choices d cs c whole (inl e) h = (subst (λ (x : Doc). LaidOutBy x cs c 0 false whole) e h).1.0
break_no_choices d cs c whole (inr e) h = (subst (λ (x : Doc). LaidOutBy x cs c 0 false whole) e h).1.2.0

break_moves : (d : Doc) (cs : List Dir) (c other : ℕ) (whole : Laid) → IsBreak d → LaidOutBy d cs c 0 false whole →
    LaidOutBy d cs other 0 false whole
break_moves d cs c other whole is h =
    subst (λ (x : List Dir). LaidOutBy d x other 0 false whole) (sym (break_no_choices d cs c whole is h))
    (subst (λ (x : Laid). LaidOutBy d [] other 0 false x) (sym (break_laid d cs c whole is h))
    (break_anywhere d other is))

-- a row that ends with a break ends at column 0, and one that begins with a break may begin anywhere
pub runs_to_margin : (d : Doc) (ds : List Doc) (c : ℕ) (cs : List Dir) (pieces : List Piece) (last : ℕ) →
    IsBreak (last_doc d ds) →
    RunsThrough (d ∷ ds) c cs pieces last → last ≡ 0
unfolding RunsThrough last_doc
runs_to_margin d [] c cs pieces last is h = h.7.2 ∙ ap (λ (x : Laid). x.last) (break_laid d h.0 c h.2 is h.6)
runs_to_margin d (e ∷ ds) c cs pieces last is h = runs_to_margin e ds h.2.last h.1 h.3 last is h.7

runs_anywhere : (d : Doc) (ds : List Doc) (c other : ℕ) (cs : List Dir) (pieces : List Piece) (last : ℕ) → IsBreak d →
    RunsThrough (d ∷ ds) c cs pieces last → RunsThrough (d ∷ ds) other cs pieces last
unfolding RunsThrough
runs_anywhere d ds c other cs pieces last is h = (
  h.0,
  h.1,
  h.2,
  h.3,
  h.4,
  h.5,
  break_moves d h.0 c other h.2 is h.6,
  h.7,
)

pub seam_of : (d e : Doc) (ds es : List Doc) (a b : Doc) → Runs (d ∷ ds) a → Runs (e ∷ es) b →
    IsBreak (last_doc d ds) ⊎ IsBreak e → Seam a b
seam_of d e ds es a b f g (inl is) =
    inl (λ cs c whole h. runs_to_margin d ds c cs whole.pieces whole.last is (f.0 c cs whole h))
seam_of d e ds es a b f g (inr is) =
    inr (λ cs c other whole h. g.1 other cs whole.pieces whole.last
    (runs_anywhere e es c other cs whole.pieces whole.last is (g.0 c cs whole h)))

-- documents in a row, each with choices that are best for it in its place
unfoldable pub BestInRow : {C : Type 0} → Costs C → ℕ → List Doc → ℕ → List Dir → Type 0
BestInRow costs w [] c cs = cs ≡ []
BestInRow costs w (d ∷ ds) c cs =
    (x : List Dir) × (y : List Dir) × (first : Laid) × (cs ≡ x ++ y) × Best costs w d c 0 false x
    × LaidOutBy d x c 0 false first
    × BestInRow costs w ds first.last y

row-apart : {C : Type 0} (costs : Costs C) (w : ℕ) (ds es : List Doc) (c : ℕ) (cs : List Dir) →
    BestInRow costs w (ds ++ es) c cs →
    (x : List Dir) × (y : List Dir) × (pieces : List Piece) × (mid : ℕ) × (cs ≡ x ++ y) × BestInRow costs w ds c x
    × RunsThrough ds c x pieces mid × BestInRow costs w es mid y
unfolding BestInRow RunsThrough
row-apart costs w [] es c cs h = ([], cs, [], c, refl, refl, (refl, refl, refl), h)
row-apart costs w (d ∷ ds) es c cs h =
    let rest = row-apart costs w ds es h.2.last h.1 h.6 in (
      h.0 ++ rest.0,
      rest.1,
      h.2.pieces ++ rest.2,
      rest.3,
      h.3 ∙ ap (λ (z : List Dir). h.0 ++ z) rest.4 ∙ sym (append_assoc h.0 rest.0 rest.1),
      (h.0, rest.0, h.2, refl, h.4, h.5, rest.5),
      (h.0, rest.0, h.2, rest.2, refl, refl, h.5, rest.6),
      rest.7,
    )

-- each of these keeps the limits of documents
unfoldable pub Documents : List Doc → Type 0
Documents [] = ⊤
Documents (d ∷ ds) = IsDocument d × Documents ds

pub documents-apart : (ds es : List Doc) → Documents (ds ++ es) → Documents ds × Documents es
unfolding Documents
documents-apart [] es h = (tt, h)
documents-apart (d ∷ ds) es h = let rest = documents-apart ds es h.1 in ((h.0, rest.0), rest.1)

-- what is best in a row is best for the document of the row
record BestOfRow {C : Type 0} (costs : Costs C) (w : ℕ) (ds : List Doc) (a : Doc) : Type 0 where
  pub runs : Runs ds a
  pub document : Documents ds → IsDocument a
  pub best : Documents ds → Parted ds → (c : ℕ) (cs : List Dir) → BestInRow costs w ds c cs →
      Best costs w a c 0 false cs

one_best : {C : Type 0} (costs : Costs C) (w : ℕ) (d : Doc) → BestOfRow costs w (d ∷ []) d
unfolding BestInRow Documents
one_best costs w d = record {
  runs = one_runs d;
  document = λ h. h.0;
  best = λ h parted c cs row.
      let only : row.0 ≡ cs = sym (append-nil row.0) ∙ ap (λ (z : List Dir). row.0 ++ z) (sym row.6) ∙ sym row.3 in
      subst (λ (z : List Dir). Best costs w d c 0 false z) only row.4;
}

both_best : {C : Type 0} (costs : Costs C) (laws : Lawful costs) (w : ℕ) → IsColumn w →
    (d e : Doc) (ds es : List Doc) (a b : Doc) → BestOfRow costs w (d ∷ ds) a → BestOfRow costs w (e ∷ es) b →
    BestOfRow costs w (d ∷ (ds ++ (e ∷ es))) (Concat a b)
unfolding IsDocument
both_best costs laws w p d e ds es a b f g = record {
  runs = both_run d e ds es a b f.runs g.runs;
  document = λ h. let apart = documents-apart (d ∷ ds) (e ∷ es) h in (f.document apart.0, g.document apart.1);
  best = λ h parted c cs row.
      let documents = documents-apart (d ∷ ds) (e ∷ es) h in
      let seam = parted-apart d e ds es parted in
      let apart = row-apart costs w (d ∷ ds) (e ∷ es) c cs row in
      let first = f.runs.1 c apart.0 apart.2 apart.3 apart.6 in
      subst (λ (z : List Dir). Best costs w (Concat a b) c 0 false z) (sym apart.4)
      (best_of_both costs laws w a b apart.0 apart.1 c (laid apart.2 apart.3) p (f.document documents.0)
      (g.document documents.1)
      (seam_of d e ds es a b f.runs g.runs seam.2)
      (f.best documents.0 seam.0 c apart.0 apart.5) first (g.best documents.1 seam.1 apart.3 apart.1 apart.7));
}

pub row_best : {C : Type 0} (costs : Costs C) (laws : Lawful costs) (w : ℕ) (d : Doc) (ds : List Doc) → IsColumn w →
    Documents (d ∷ ds) → Parted (d ∷ ds) →
    (c : ℕ) (cs : List Dir) → BestInRow costs w (d ∷ ds) c cs → Best costs w (seq (d ∷ ds)) c 0 false cs
row_best costs laws w d ds p h parted =
    (row_by_halves (λ (xs : List Doc) (a : Doc). BestOfRow costs w xs a) (one_best costs w) (both_best costs laws w p)
    (suc (length ds)) d ds (omega arith)).best h parted

-- a break is best without choices, wherever it stands
pub break_best : {C : Type 0} (costs : Costs C) (laws : Lawful costs) (w : ℕ) (d : Doc) (c : ℕ) → IsColumn w →
    IsBreak d → Best costs w d c 0 false []
unfolding simple choose IsDocument
break_best costs laws w d c p (inl e) =
    subst (λ (x : Doc). Best costs w x c 0 false []) (sym e)
    (chosen_of_core costs laws w Hard false Newline c 0 p tt refl)
break_best costs laws w d c p (inr e) =
    subst (λ (x : Doc). Best costs w x c 0 false []) (sym e)
    (chosen_of_core costs laws w (Reset Hard) false (Reset Newline) c 0 p tt refl)
