-- What is best for each of the paragraphs by itself is best for them one below the other.
use Rattle.std.proofs.Common.{◌≡◌, ℕ, zero, suc, false, List, [], ◌∷◌, ◌++◌, refl, sym, subst, inl, inr, Option, Some, None, IsSome, arith}
use Rattle.rf_base_document.specs.declared.directions.Dir.{Dir}
use Rattle.rf_base_document.specs.Document.{Doc, Hard, Reset, IsDocument, plain_text}
use Rattle.rf_base_document.specs.Sequence.{seq}
use Rattle.rf_base_document.specs.Render.{Break, laid}
use Rattle.rf_base_document.specs.Simple.{simple}
use Rattle.rf_base_document.proofs.Document.{IsOneLine-from_test}
use Rattle.rf_base_document.proofs.Sequence.{seq_of_none}
use Rattle.rf_base_cost.specs.Cost.{Costs, IsColumn, Lawful}
use Rattle.rf_base_optimum.specs.Chosen.{choose}
use Rattle.rf_base_optimum.specs.Best.{Best}
use Rattle.rf_base_optimum.specs.Paragraphs.{Paragraph, line_ends, paragraphs_docs, EachIsDocument, EachHasCore, EachBest, chosen_of, chosen_apart}
use Rattle.rf_base_optimum.proofs.Cores.{best_is}
use Rattle.rf_base_optimum.proofs.CoreChoices.{chosen_of_core}
use Rattle.rf_base_optimum.proofs.Parted.{BreakBetween, Parted, break_anywhere, BestInRow, Documents, row_best, break_best}

-- the line ends behind a paragraph
ends_parted : (blanks : ℕ) (rest : List Doc) → Parted rest → Parted (line_ends blanks ++ rest)
unfolding Parted
ends_parted zero [] h = (tt, tt)
ends_parted zero (d ∷ rest) h = (inl (inl refl), h)
ends_parted (suc zero) rest h = (inl (inr refl), ends_parted zero rest h)
ends_parted (suc (suc blanks)) rest h = (inl (inr refl), ends_parted (suc blanks) rest h)

before_ends : (d : Doc) (blanks : ℕ) (rest : List Doc) → BreakBetween d (line_ends blanks ++ rest)
before_ends d zero rest = inr (inl refl)
before_ends d (suc blanks) rest = inr (inr refl)

pub paragraphs_parted : (ps : List Paragraph) → Parted (paragraphs_docs ps)
unfolding Parted paragraphs_docs
paragraphs_parted [] = tt
paragraphs_parted (p ∷ ps) = (
  before_ends p.doc p.blanks (paragraphs_docs ps),
  ends_parted p.blanks (paragraphs_docs ps) (paragraphs_parted ps),
)

ends_documents : (blanks : ℕ) (rest : List Doc) → Documents rest → Documents (line_ends blanks ++ rest)
unfolding Documents IsDocument
ends_documents zero rest h = (tt, h)
ends_documents (suc blanks) rest h = (tt, ends_documents blanks rest h)

pub paragraphs_documents : (ps : List Paragraph) → EachIsDocument ps → Documents (paragraphs_docs ps)
unfolding Documents paragraphs_docs EachIsDocument
paragraphs_documents [] h = tt
paragraphs_documents (p ∷ ps) h = (h.0, ends_documents p.blanks (paragraphs_docs ps) (paragraphs_documents ps h.1))

ends_row : {C : Type 0} (costs : Costs C) (laws : Lawful costs) (w : ℕ) (blanks : ℕ) (rest : List Doc) (c : ℕ)
    (cs : List Dir) → IsColumn w →
    BestInRow costs w rest 0 cs → BestInRow costs w (line_ends blanks ++ rest) c cs
unfolding BestInRow
ends_row costs laws w zero rest c cs p h = (
  [],
  cs,
  laid (Break 0 ∷ []) 0,
  refl,
  break_best costs laws w Hard c p (inl refl),
  break_anywhere Hard c
      (inl refl),
  h,
)
ends_row costs laws w (suc blanks) rest c cs p h = (
  [],
  cs,
  laid (Break 0 ∷ []) 0,
  refl,
  break_best costs laws w (Reset Hard) c p (inr refl),
  break_anywhere (Reset Hard) c (inr refl),
  ends_row costs laws w blanks rest 0 cs p h,
)

paragraphs_row : {C : Type 0} (costs : Costs C) (laws : Lawful costs) (w : ℕ) (ps : List Paragraph) (cs : List Dir) →
    IsColumn w →
    EachBest costs w ps cs → BestInRow costs w (paragraphs_docs ps) 0 cs
unfolding BestInRow paragraphs_docs EachBest
paragraphs_row costs laws w [] cs p h = h
paragraphs_row costs laws w (q ∷ ps) cs p h =
    let laid_out = (best_is costs w q.doc 0 0 false h.0 h.3).0 in (
      h.0,
      h.1,
      laid_out.0,
      h.2,
      h.3,
      laid_out.1,
      ends_row costs laws w q.blanks
          (paragraphs_docs ps) laid_out.0.last h.1 p (paragraphs_row costs laws w ps h.1 p h.4),
    )

nothing_best : {C : Type 0} (costs : Costs C) (laws : Lawful costs) (w : ℕ) → IsColumn w →
    Best costs w (plain_text []) 0 0 false []
unfolding simple choose IsDocument
nothing_best costs laws w p = chosen_of_core costs laws w (plain_text []) false (plain_text []) 0 0 p (
  IsOneLine-from_test [] refl,
  omega arith,
) refl

pub best_apart : {C : Type 0} (costs : Costs C) (w : ℕ) (ps : List Paragraph) (cs : List Dir) → Lawful costs →
    IsColumn w → EachIsDocument ps →
    EachBest costs w ps cs → Best costs w (seq (paragraphs_docs ps)) 0 0 false cs
unfolding paragraphs_docs EachBest
best_apart costs w [] cs laws p d h =
    subst (λ (x : Doc). Best costs w x 0 0 false cs) (sym seq_of_none)
    (subst (λ (x : List Dir). Best costs w (plain_text []) 0 0 false x) (sym h) (nothing_best costs laws w p))
best_apart costs w (q ∷ ps) cs laws p d h =
    row_best costs laws w q.doc (line_ends q.blanks ++ paragraphs_docs ps) p (paragraphs_documents (q ∷ ps) d)
    (paragraphs_parted (q ∷ ps)) 0 cs
    (paragraphs_row costs laws w (q ∷ ps) cs p h)

-- what is chosen of each paragraph's core is best for it
chosen_of_best : {C : Type 0} (costs : Costs C) (laws : Lawful costs) (w : ℕ) (d : Doc) (o : Option Doc) → IsColumn w →
    IsDocument d → simple d false ≡ o → IsSome o →
    Best costs w d 0 0 false (chosen_of costs w o)
chosen_of_best costs laws w d None p q e h = cc
chosen_of_best costs laws w d (Some core) p q e h = chosen_of_core costs laws w d false core 0 0 p q e

pub chosen_each_best : {C : Type 0} (costs : Costs C) (laws : Lawful costs) (w : ℕ) (ps : List Paragraph) → IsColumn w →
    EachIsDocument ps → EachHasCore ps →
    EachBest costs w ps (chosen_apart costs w ps)
unfolding EachIsDocument EachHasCore EachBest chosen_apart
chosen_each_best costs laws w [] p d h = refl
chosen_each_best costs laws w (q ∷ ps) p d h = (
  chosen_of costs w (simple q.doc false),
  chosen_apart costs w ps,
  refl,
  chosen_of_best costs laws w q.doc (simple q.doc false) p d.0 refl h.0,
  chosen_each_best costs laws w ps p d.1 h.1,
)

pub chosen_apart_best : {C : Type 0} (costs : Costs C) (w : ℕ) (ps : List Paragraph) → Lawful costs → IsColumn w →
    EachIsDocument ps → EachHasCore ps →
    Best costs w (seq (paragraphs_docs ps)) 0 0 false (chosen_apart costs w ps)
chosen_apart_best costs w ps laws p d h =
    best_apart costs w ps (chosen_apart costs w ps) laws p d (chosen_each_best costs laws w ps p d h)
