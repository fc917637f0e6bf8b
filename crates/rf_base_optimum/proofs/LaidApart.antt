-- Paragraphs one below the other are laid out as each by itself.
use Rattle.std.proofs.Common.{◌≡◌, ℕ, zero, suc, false, List, [], ◌∷◌, ◌++◌, replicate, refl, sym, ◌∙◌, ap, ap₂, subst, inl, inr, arith}
use Rattle.std.specs.Prelude.{◌↔◌}
use Rattle.rf_base_document.specs.declared.directions.Dir.{Dir}
use Rattle.rf_base_document.specs.Document.{Doc, Hard, Reset}
use Rattle.rf_base_document.specs.Sequence.{seq}
use Rattle.rf_base_document.specs.Render.{Piece, Break, Laid, laid, EachEndsWithin}
use Rattle.rf_base_document.specs.Picks.{LaidOutBy}
use Rattle.rf_base_document.proofs.Render.{EachEndsWithin-append}
use Rattle.rf_base_optimum.specs.Best.{HasWithin}
use Rattle.rf_base_optimum.specs.Paragraphs.{Paragraph, line_ends, paragraphs_docs, line_breaks, EachLaidOut, EachHasWithin}
use Rattle.rf_base_optimum.proofs.Shift.{ends-apart}
use Rattle.rf_base_optimum.proofs.Sequences.{RunsThrough, seq_runs}
use Rattle.rf_base_optimum.proofs.Parted.{break_laid, break_anywhere, break_no_choices}

-- the line ends behind a paragraph, laid out
ends_run : (blanks : ℕ) (rest : List Doc) (c : ℕ) (cs : List Dir) (pieces : List Piece) (last : ℕ) →
    RunsThrough rest 0 cs pieces last →
    RunsThrough (line_ends blanks ++ rest) c cs (line_breaks blanks ++ pieces) last
unfolding RunsThrough
ends_run zero rest c cs pieces last h =
    ([], cs, laid (Break 0 ∷ []) 0, pieces, refl, refl, break_anywhere Hard c (inl refl), h)
ends_run (suc blanks) rest c cs pieces last h = (
  [],
  cs,
  laid (Break 0 ∷ []) 0,
  line_breaks blanks ++ pieces,
  refl,
  refl,
  break_anywhere (Reset Hard) c (inr refl),
  ends_run blanks rest 0 cs pieces last h,
)

run_ends : (blanks : ℕ) (rest : List Doc) (c : ℕ) (cs : List Dir) (pieces : List Piece) (last : ℕ) →
    RunsThrough (line_ends blanks ++ rest) c cs pieces last →
    (behind : List Piece) × (pieces ≡ line_breaks blanks ++ behind) × RunsThrough rest 0 cs behind last
unfolding RunsThrough
run_ends zero rest c cs pieces last h =
    let first = break_laid Hard h.0 c h.2 (inl refl) h.6 in
    let none = break_no_choices Hard h.0 c h.2 (inl refl) h.6 in
    let same : cs ≡ h.1 = h.4 ∙ ap (λ (x : List Dir). x ++ h.1) none in (
      h.3,
      h.5 ∙ ap (λ (x : Laid). x.pieces ++ h.3) first,
      subst (λ (x : List Dir). RunsThrough rest 0 x h.3 last) (sym same)
          (subst (λ (x : Laid). RunsThrough rest x.last h.1 h.3 last) first h.7),
    )
run_ends (suc blanks) rest c cs pieces last h =
    let first = break_laid (Reset Hard) h.0 c h.2 (inr refl) h.6 in
    let none = break_no_choices (Reset Hard) h.0 c h.2 (inr refl) h.6 in
    let same : cs ≡ h.1 = h.4 ∙ ap (λ (x : List Dir). x ++ h.1) none in
    let rest_of =
    run_ends blanks rest 0 h.1 h.3 last (subst
    (λ (x : Laid). RunsThrough (line_ends blanks ++ rest) x.last h.1 h.3 last) first h.7) in (
      rest_of.0,
      h.5 ∙ ap₂ (λ (x : Laid) (ps : List Piece). x.pieces ++ ps) first rest_of.1,
      subst (λ (x : List Dir). RunsThrough rest 0 x rest_of.0 last) (sym same) rest_of.2,
    )

-- each paragraph is laid out from column 0
each_runs : (ps : List Paragraph) (cs : List Dir) (pieces : List Piece) → EachLaidOut ps cs pieces →
    RunsThrough (paragraphs_docs ps) 0 cs pieces 0
unfolding RunsThrough paragraphs_docs EachLaidOut
each_runs [] cs pieces h = (h.0, h.1, refl)
each_runs (p ∷ ps) cs pieces h = (
  h.0,
  h.1,
  h.2,
  line_breaks p.blanks ++ h.3,
  h.4,
  h.5,
  h.6,
  ends_run p.blanks (paragraphs_docs ps) h.2.last h.1 h.3 0 (each_runs ps h.1 h.3 h.7),
)

runs_each : (ps : List Paragraph) (cs : List Dir) (pieces : List Piece) (last : ℕ) →
    RunsThrough (paragraphs_docs ps) 0 cs pieces last →
    EachLaidOut ps cs pieces × (last ≡ 0)
unfolding RunsThrough paragraphs_docs EachLaidOut
runs_each [] cs pieces last h = ((h.0, h.1), h.2)
runs_each (p ∷ ps) cs pieces last h =
    let ends = run_ends p.blanks (paragraphs_docs ps) h.2.last h.1 h.3 last h.7 in
    let rest = runs_each ps h.1 ends.0 last ends.2 in
    ((h.0, h.1, h.2, ends.0, h.4, h.5 ∙ ap (λ (x : List Piece). h.2.pieces ++ x) ends.1, h.6, rest.0), rest.1)

pub laid_apart : (p : Paragraph) (ps : List Paragraph) (cs : List Dir) (whole : Laid) →
    LaidOutBy (seq (paragraphs_docs (p ∷ ps))) cs 0 0 false whole
    ↔ (EachLaidOut (p ∷ ps) cs whole.pieces × (whole.last ≡ 0))
unfolding paragraphs_docs
laid_apart p ps cs whole =
    let rest : List Doc = line_ends p.blanks ++ paragraphs_docs ps in (
      λ h. runs_each (p ∷ ps) cs whole.pieces whole.last ((seq_runs p.doc rest).0 0 cs whole h),
      λ h. subst (λ (n : ℕ). LaidOutBy (seq (p.doc ∷ rest)) cs 0 0 false (laid whole.pieces n)) (sym h.1)
          ((seq_runs p.doc rest).1 0 cs whole.pieces 0 (each_runs (p ∷ ps) cs whole.pieces h.0)),
    )

-- line breaks to column 0 are within any columns
breaks_within : (w n : ℕ) → EachEndsWithin w (replicate n (Break 0))
unfolding EachEndsWithin
breaks_within w zero = tt
breaks_within w (suc n) = (omega arith, breaks_within w n)

-- the pieces of all paragraphs are within w columns exactly where those of each are
each_within : (w : ℕ) (ps : List Paragraph) (cs : List Dir) (pieces : List Piece) → EachLaidOut ps cs pieces →
    EachEndsWithin w pieces → EachHasWithin w ps
unfolding EachLaidOut EachHasWithin
each_within w [] cs pieces h e = tt
each_within w (p ∷ ps) cs pieces h e =
    let apart =
    ends-apart w h.2.pieces (line_breaks p.blanks ++ h.3) (subst (λ (x : List Piece). EachEndsWithin w x) h.5 e) in
    let behind = ends-apart w (line_breaks p.blanks) h.3 apart.1 in
    ((h.0, h.2, (h.6, (omega arith, apart.0))), each_within w ps h.1 h.3 h.7 behind.1)

within_each : (w : ℕ) (ps : List Paragraph) → EachHasWithin w ps →
    (cs : List Dir) × (pieces : List Piece) × EachLaidOut ps cs pieces × EachEndsWithin w pieces
unfolding EachLaidOut EachHasWithin EachEndsWithin
within_each w [] h = ([], [], (refl, refl), tt)
within_each w (p ∷ ps) h =
    let first = h.0 in
    let rest = within_each w ps h.1 in (
      first.0 ++ rest.0,
      first.1.pieces ++ (line_breaks p.blanks ++ rest.1),
      (first.0, rest.0, first.1, rest.1, refl, refl, first.2.0, rest.2),
      EachEndsWithin-append w first.1.pieces (line_breaks p.blanks ++ rest.1) first.2.1.1
          (EachEndsWithin-append w (line_breaks p.blanks) rest.1 (breaks_within w (suc p.blanks)) rest.3),
    )

pub within_apart : (w : ℕ) (p : Paragraph) (ps : List Paragraph) →
    HasWithin w (seq (paragraphs_docs (p ∷ ps))) 0 0 false ↔ EachHasWithin w (p ∷ ps)
within_apart w p ps = (
  λ has. each_within w (p ∷ ps) has.0 has.1.pieces ((laid_apart p ps has.0 has.1).0 has.2.0).0 has.2.1.1,
  λ each.
      let found = within_each w (p ∷ ps) each in
      let whole : Laid = laid found.1 0 in
      (found.0, whole, ((laid_apart p ps found.0 whole).1 (found.2, refl), (omega arith, found.3))),
)
