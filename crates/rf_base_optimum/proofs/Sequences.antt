-- A sequence is laid out as its parts in a row, however it is cut in halves.
use Rattle.std.proofs.Common.{◌≡◌, ℕ, zero, suc, ◌-◌, ◌<◌, false, List, [], ◌∷◌, ◌++◌, length, take, drop, refl, sym, ◌∙◌, ap, ap₂, subst, append_assoc, append-nil, Option, arith}
use Rattle.rf_base_document.specs.declared.directions.Dir.{Dir}
use Rattle.rf_base_document.specs.Document.{Doc, Concat}
use Rattle.rf_base_document.specs.Sequence.{half_up, seq}
use Rattle.rf_base_document.specs.Render.{Piece, Laid, laid, joined, followed_by, render}
use Rattle.rf_base_document.specs.Picks.{Picks, LaidOutBy}
use Rattle.rf_base_document.proofs.Render.{followed_by-is}
use Rattle.rf_base_document.proofs.Sequence.{seq_joins_halves, seq_of_one}
use Rattle.rf_base_document.proofs.Simple.{render_same}

-- the documents behind the first k of a list, of which there is one
behind_cut : (k : ℕ) (ds : List Doc) → k < length ds →
    (e : Doc) × (es : List Doc) × (drop k ds ≡ e ∷ es) × (take k ds ++ (e ∷ es) ≡ ds) × (length es < length ds)
    × (length (take k ds) < length ds)
behind_cut zero [] p = absurd (omega arith)
behind_cut zero (d ∷ ds) p = (d, ds, refl, refl, omega arith, omega arith)
behind_cut (suc k) [] p = absurd (omega arith)
behind_cut (suc k) (d ∷ ds) p =
    let found = behind_cut k ds (omega arith) in
    let short : length found.1 < length ds = found.4 in
    let shorter : length (take k ds) < length ds = found.5 in
    (found.0, found.1, found.2, ap (λ (xs : List Doc). d ∷ xs) found.3, omega arith, omega arith)

half_of : (n : ℕ) → (k : ℕ) × (half_up (suc (suc n)) ≡ suc k) × (k < suc n)
half_of n = (half_up (suc (suc n)) - 1, omega arith, omega arith)

-- what holds of single documents, and of two rows' concatenation where it holds of both, holds of a sequence
pub row_by_halves : (P : List Doc → Doc → Type 0) → ((d : Doc) → P (d ∷ []) d) →
    ((d e : Doc) (ds es : List Doc) (a b : Doc) → P (d ∷ ds) a → P (e ∷ es) b → P (d ∷ (ds ++ (e ∷ es))) (Concat a b)) →
    (n : ℕ) (d : Doc) (ds : List Doc) → length ds < n → P (d ∷ ds) (seq (d ∷ ds))
row_by_halves P one both zero d ds p = absurd (omega arith)
row_by_halves P one both (suc n) d [] p = subst (λ (x : Doc). P (d ∷ []) x) (sym (seq_of_one d)) (one d)
row_by_halves P one both (suc n) d (f ∷ fs) p =
    let ds : List Doc = f ∷ fs in
    let half = half_of (length fs) in
    let cut = behind_cut half.0 ds half.2 in
    let short : length cut.1 < length ds = cut.4 in
    let shorter : length (take half.0 ds) < length ds = cut.5 in
    let first = row_by_halves P one both n d (take half.0 ds) (omega arith) in
    let second = row_by_halves P one both n cut.0 cut.1 (omega arith) in
    let joined_up = both d cut.0 (take half.0 ds) cut.1 (seq (d ∷ take half.0 ds)) (seq (cut.0 ∷ cut.1)) first second in
    let whole =
    subst (λ (xs : List Doc). P (d ∷ xs) (Concat (seq (d ∷ take half.0 ds)) (seq (cut.0 ∷ cut.1)))) cut.3 joined_up in
    let again = subst (λ (xs : List Doc). P (d ∷ ds) (Concat (seq (d ∷ take half.0 ds)) (seq xs))) (sym cut.2) whole in
    let halves =
    subst (λ (k : ℕ). P (d ∷ ds) (Concat (seq (take k (d ∷ ds))) (seq (drop k (d ∷ ds))))) (sym half.1) again in
    subst (λ (x : Doc). P (d ∷ ds) x) (sym (seq_joins_halves (d ∷ ds) (omega arith))) halves

-- the documents in a row, laid out from column c to column last by these choices
unfoldable pub RunsThrough : List Doc → ℕ → List Dir → List Piece → ℕ → Type 0
RunsThrough [] c cs pieces last = (cs ≡ []) × (pieces ≡ []) × (last ≡ c)
RunsThrough (d ∷ ds) c cs pieces last =
    (x : List Dir) × (y : List Dir) × (first : Laid) × (rest : List Piece) × (cs ≡ x ++ y)
    × (pieces ≡ first.pieces ++ rest)
    × LaidOutBy d x c 0 false first × RunsThrough ds first.last y rest last

pub runs-append : (ds es : List Doc) (c : ℕ) (x y : List Dir) (ps qs : List Piece) (mid last : ℕ) →
    RunsThrough ds c x ps mid → RunsThrough es mid y qs last →
    RunsThrough (ds ++ es) c (x ++ y) (ps ++ qs) last
unfolding RunsThrough
runs-append [] es c x y ps qs mid last h k =
    let first : x ++ y ≡ y = ap (λ (z : List Dir). z ++ y) h.0 in
    let second : ps ++ qs ≡ qs = ap (λ (z : List Piece). z ++ qs) h.1 in
    subst (λ (z : List Dir). RunsThrough es c z (ps ++ qs) last) (sym first)
    (subst (λ (z : List Piece). RunsThrough es c y z last) (sym second)
    (subst (λ (n : ℕ). RunsThrough es n y qs last) h.2 k))
runs-append (d ∷ ds) es c x y ps qs mid last h k = (
  h.0,
  h.1 ++ y,
  h.2,
  h.3 ++ qs,
  ap (λ (z : List Dir). z ++ y) h.4 ∙ append_assoc h.0 h.1 y,
  ap (λ (z : List Piece). z ++ qs) h.5 ∙ append_assoc h.2.pieces h.3 qs,
  h.6,
  runs-append ds es h.2.last h.1 y h.3 qs mid last h.7 k,
)

pub append-runs : (ds es : List Doc) (c : ℕ) (cs : List Dir) (pieces : List Piece) (last : ℕ) →
    RunsThrough (ds ++ es) c cs pieces last →
    (x : List Dir) × (y : List Dir) × (ps : List Piece) × (qs : List Piece) × (mid : ℕ) × (cs ≡ x ++ y)
    × (pieces ≡ ps ++ qs)
    × RunsThrough ds c x ps mid × RunsThrough es mid y qs last
unfolding RunsThrough
append-runs [] es c cs pieces last h = ([], cs, [], pieces, c, refl, refl, (refl, refl, refl), h)
append-runs (d ∷ ds) es c cs pieces last h =
    let rest = append-runs ds es h.2.last h.1 h.3 last h.7 in (
      h.0 ++ rest.0,
      rest.1,
      h.2.pieces ++ rest.2,
      rest.3,
      rest.4,
      h.4 ∙ ap (λ (z : List Dir). h.0 ++ z) rest.5 ∙ sym (append_assoc h.0 rest.0 rest.1),
      h.5 ∙ ap (λ (z : List Piece). h.2.pieces ++ z) rest.6 ∙ sym (append_assoc h.2.pieces rest.2 rest.3),
      (h.0, rest.0, h.2, rest.2, refl, refl, h.6, rest.7),
      rest.8,
    )

-- the layouts of a concatenation are those of its parts in a row
pub concat-laid : (a b : Doc) (cs : List Dir) (c i : ℕ) (whole : Laid) → LaidOutBy (Concat a b) cs c i false whole →
    (x : List Dir) × (y : List Dir) × (first : Laid) × (second : Laid) × (cs ≡ x ++ y) × LaidOutBy a x c i false first
    × LaidOutBy b y first.last i false second × (whole.pieces ≡ first.pieces ++ second.pieces)
    × (whole.last ≡ second.last)
unfolding Picks render
concat-laid a b cs c i whole h =
    let picks = h.1 in
    let found = followed_by-is (render picks.2 c i false) (λ last. render picks.3 last i false) whole
    (render_same h.0 (Concat picks.2 picks.3) c i false whole picks.5 h.2) in (
      picks.0,
      picks.1,
      found.0,
      found.1,
      picks.4,
      (picks.2, picks.6, found.2),
      (picks.3, picks.7, found.3),
      found.4,
      found.5,
    )

pub laid-concat : (a b : Doc) (x y : List Dir) (c i : ℕ) (first second : Laid) → LaidOutBy a x c i false first →
    LaidOutBy b y first.last i false second →
    LaidOutBy (Concat a b) (x ++ y) c i false (laid (first.pieces ++ second.pieces) second.last)
unfolding Picks render
laid-concat a b x y c i first second h k = (
  Concat h.0 k.0,
  (x, y, h.0, k.0, refl, refl, h.1, k.1),
  ap (λ (o : Option Laid). followed_by o (λ last. render k.0 last i false)) h.2
      ∙ ap (λ (o : Option Laid). joined first o) k.2,
)

-- a sequence's layout is its parts' layouts in a row
abbrev pub Runs : List Doc → Doc → Type 0
Runs ds a =
    ((c : ℕ) (cs : List Dir) (whole : Laid) → LaidOutBy a cs c 0 false whole →
    RunsThrough ds c cs whole.pieces whole.last)
    × ((c : ℕ) (cs : List Dir) (pieces : List Piece) (last : ℕ) → RunsThrough ds c cs pieces last →
    LaidOutBy a cs c 0 false (laid pieces last))

laid_same : (a : Doc) (x y : List Dir) (c : ℕ) (whole other : Laid) → y ≡ x → other ≡ whole →
    LaidOutBy a x c 0 false whole → LaidOutBy a y c 0 false other
laid_same a x y c whole other e f h =
    subst (λ (z : List Dir). LaidOutBy a z c 0 false other) (sym e)
    (subst (λ (z : Laid). LaidOutBy a x c 0 false z) (sym f) h)

same_laid : (whole : Laid) (pieces : List Piece) (last : ℕ) → pieces ≡ whole.pieces → last ≡ whole.last →
    laid pieces last ≡ whole
same_laid whole pieces last e f = ap₂ (λ (ps : List Piece) (n : ℕ). laid ps n) e f

pub one_runs : (d : Doc) → Runs (d ∷ []) d
unfolding RunsThrough
one_runs d = (
  λ c cs whole h. (cs, [], whole, [], sym (append-nil cs), sym (append-nil whole.pieces), h, (refl, refl, refl)),
  λ c cs pieces last h.
      let no_choices : cs ≡ h.0 = h.4 ∙ ap (λ (z : List Dir). h.0 ++ z) h.7.0 ∙ append-nil h.0 in
      let no_pieces : pieces ≡ h.2.pieces =
      h.5 ∙ ap (λ (z : List Piece). h.2.pieces ++ z) h.7.1 ∙ append-nil h.2.pieces in
      laid_same d h.0 cs c h.2 (laid pieces last) no_choices (same_laid h.2 pieces last no_pieces h.7.2) h.6,
)

pub both_run : (d e : Doc) (ds es : List Doc) (a b : Doc) → Runs (d ∷ ds) a → Runs (e ∷ es) b →
    Runs (d ∷ (ds ++ (e ∷ es))) (Concat a b)
both_run d e ds es a b f g = (
  λ c cs whole h.
      let apart = concat-laid a b cs c 0 whole h in
      let runs = runs-append (d ∷ ds) (e ∷ es) c apart.0 apart.1 apart.2.pieces apart.3.pieces apart.2.last apart.3.last
      (f.0 c apart.0 apart.2 apart.5) (g.0 apart.2.last apart.1 apart.3 apart.6) in
      runs_same (d ∷ (ds ++ (e ∷ es))) c (apart.0 ++ apart.1) cs
      (apart.2.pieces ++ apart.3.pieces) whole.pieces apart.3.last whole.last apart.4 apart.7 apart.8 runs,
  λ c cs pieces last h.
      let apart = append-runs (d ∷ ds) (e ∷ es) c cs pieces last h in
      let first = f.1 c apart.0 apart.2 apart.4 apart.7 in
      let second = g.1 apart.4 apart.1 apart.3 last apart.8 in
      let whole = laid-concat a b apart.0 apart.1 c 0 (laid apart.2 apart.4) (laid apart.3 last) first second in
      laid_same (Concat a b) (apart.0 ++ apart.1) cs c (laid (apart.2 ++ apart.3) last) (laid pieces last) apart.5
      (same_laid (laid (apart.2 ++ apart.3) last) pieces last apart.6 refl) whole,
)
  where
    runs_same : (ds : List Doc) (c : ℕ) (x y : List Dir) (ps qs : List Piece) (last other : ℕ) → y ≡ x → qs ≡ ps →
        other ≡ last →
        RunsThrough ds c x ps last → RunsThrough ds c y qs other
    runs_same ds c x y ps qs last other e f g h =
        subst (λ (z : List Dir). RunsThrough ds c z qs other) (sym e)
        (subst (λ (z : List Piece). RunsThrough ds c x z other) (sym f)
        (subst (λ (n : ℕ). RunsThrough ds c x ps n) (sym g) h))

pub seq_runs : (d : Doc) (ds : List Doc) → Runs (d ∷ ds) (seq (d ∷ ds))
seq_runs d ds = row_by_halves Runs one_runs both_run (suc (length ds)) d ds (omega arith)
