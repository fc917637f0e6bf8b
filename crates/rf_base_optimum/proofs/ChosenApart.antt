-- Where addition reflects the order of costs, what is chosen of paragraphs one below the other is what is chosen of
-- each.
use Rattle.std.proofs.Common.{◌≡◌, ℕ, zero, suc, ◌≤◌, Bool, true, false, ◌&&◌, List, [], ◌∷◌, ◌++◌, length, refl, sym, ◌∙◌, ap, ap₂, subst, append_assoc, append-nil, ◌⊎◌, inl, inr, Option, Some, None, arith}
use Rattle.std.specs.Prelude.{nat_le}
use Rattle.std.proofs.lemmas.Bool.{and_from}
use Rattle.rf_base_document.specs.declared.directions.Dir.{Dir}
use Rattle.rf_base_document.specs.Document.{Doc, Newline, Concat, Reset, IsDocument, plain_text}
use Rattle.rf_base_document.specs.Sequence.{seq}
use Rattle.rf_base_document.specs.Simple.{simple}
use Rattle.rf_base_document.proofs.Sequence.{seq_of_none}
use Rattle.rf_base_cost.specs.declared.measures.Measure.{Measure}
use Rattle.rf_base_cost.specs.Cost.{Costs, IsColumn, Lawful}
use Rattle.rf_base_cost.specs.Pareto.{pareto}
use Rattle.rf_base_cost.specs.Reflecting.{ReflectsOrderUpTo}
use Rattle.rf_base_cost.proofs.Dominance.{true_le}
use Rattle.rf_base_optimum.specs.Plain.{leaf_measure, where_within, all_joined, plain}
use Rattle.rf_base_optimum.specs.Chosen.{Chosen, chosen, chosen_both, choose}
use Rattle.rf_base_optimum.specs.MostPieces.{most_pieces}
use Rattle.rf_base_optimum.specs.Paragraphs.{Paragraph, line_ends, paragraphs_docs, EachIsDocument, chosen_of, chosen_apart}
use Rattle.rf_base_optimum.proofs.Sequences.{row_by_halves, Runs, one_runs, both_run}
use Rattle.rf_base_optimum.proofs.Seams.{EndsAtMargin}
use Rattle.rf_base_optimum.proofs.Parted.{IsBreak, Parted, parted-apart, runs_to_margin, Documents, documents-apart}
use Rattle.rf_base_optimum.proofs.Apart.{paragraphs_parted, paragraphs_documents}
use Rattle.rf_base_optimum.proofs.Reflecting.{PlainAnywhere, chosen_in_row}
use Rattle.rf_base_document.proofs.Simple.{concat_is}

-- what is chosen of a document's core at this column, if there is a core, and what is chosen of documents in a row
abbrev pub chosen_at : {C : Type 0} → Costs C → ℕ → Option Doc → ℕ → Chosen
chosen_at costs w None c = chosen [] c
chosen_at costs w (Some s) c = choose costs w s c 0

unfoldable pub chosen_row : {C : Type 0} → Costs C → ℕ → List Doc → ℕ → Chosen
chosen_row costs w [] c = chosen [] c
chosen_row costs w (d ∷ ds) c = chosen_both (chosen_at costs w (simple d false) c) (λ last. chosen_row costs w ds last)

row-append : {C : Type 0} (costs : Costs C) (w : ℕ) (ds es : List Doc) (c : ℕ) →
    chosen_row costs w (ds ++ es) c ≡ chosen_both (chosen_row costs w ds c) (λ last. chosen_row costs w es last)
unfolding chosen_row
row-append costs w [] es c = refl
row-append costs w (d ∷ ds) es c =
    let first = chosen_at costs w (simple d false) c in
    let rest = chosen_row costs w ds first.last in
    let last = chosen_row costs w es rest.last in
    ap (λ (x : Chosen). chosen (first.choices ++ x.choices) x.last) (row-append costs w ds es first.last)
    ∙ ap (λ (x : List Dir). chosen x last.last) (sym (append_assoc first.choices rest.choices last.choices))

-- the first document is a break
abbrev pub BeginsWithBreak : List Doc → Type 0
BeginsWithBreak [] = ⊥
BeginsWithBreak (d ∷ ds) = IsBreak d

-- a break has the same frontier wherever it begins
newline_anywhere : {C : Type 0} (costs : Costs C) (w : ℕ) → PlainAnywhere costs w Newline
unfolding plain
newline_anywhere {C = C} costs w c other p q =
    let within : (n : ℕ) → n ≤ w → (nat_le n w && nat_le 0 w) ≡ true =
    λ n h. and_from (nat_le n w) (nat_le 0 w) (true_le n w h) (true_le 0 w (omega arith)) in
    ap (λ (b : Bool). where_within {C = C} b (leaf_measure 0 (costs.newline 0))) (within c p ∙ sym (within other q))

reset_anywhere : {C : Type 0} (costs : Costs C) (w : ℕ) → PlainAnywhere costs w (Reset Newline)
unfolding plain
reset_anywhere costs w = newline_anywhere costs w

break_anywhere : {C : Type 0} (costs : Costs C) (w : ℕ) (d s : Doc) → IsBreak d → simple d false ≡ Some s →
    PlainAnywhere costs w s
unfolding simple
break_anywhere costs w d s (inl e) f =
    let is : Some Newline ≡ Some s = ap (λ (x : Doc). simple x false) (sym e) ∙ f in
    let same : Newline ≡ s = cc in
    subst (λ (x : Doc). PlainAnywhere costs w x) same (newline_anywhere costs w)
break_anywhere costs w d s (inr e) f =
    let is : Some (Reset Newline) ≡ Some s = ap (λ (x : Doc). simple x false) (sym e) ∙ f in
    let same : Reset Newline ≡ s = cc in
    subst (λ (x : Doc). PlainAnywhere costs w x) same (reset_anywhere costs w)

concat_anywhere : {C : Type 0} (costs : Costs C) (w : ℕ) (s t : Doc) → PlainAnywhere costs w s →
    PlainAnywhere costs w (Concat s t)
unfolding plain
concat_anywhere {C = C} costs w s t f c other p q =
    ap (λ (xs : List (Measure C (List Dir))). pareto costs (all_joined costs xs (λ last. plain costs w t last 0)))
    (f c other p q)

-- what is chosen of a row is what is chosen of each in its place
record ChosenOfRow {C : Type 0} (costs : Costs C) (w : ℕ) (ds : List Doc) (a : Doc) : Type 0 where
  pub runs : Runs ds a
  pub document : Documents ds → IsDocument a
  pub anywhere : BeginsWithBreak ds → (s : Doc) → simple a false ≡ Some s → PlainAnywhere costs w s
  pub chosen_is : Documents ds → Parted ds → ReflectsOrderUpTo costs (most_pieces a) → (s : Doc) →
      simple a false ≡ Some s → (c : ℕ) → choose costs w s c 0 ≡ chosen_row costs w ds c

one_chosen : {C : Type 0} (costs : Costs C) (w : ℕ) (d : Doc) → ChosenOfRow costs w (d ∷ []) d
unfolding chosen_row Documents
one_chosen costs w d = record {
  runs = one_runs d;
  document = λ h. h.0;
  anywhere = λ is s e. break_anywhere costs w d s is e;
  chosen_is = λ h parted reflects s e c.
      ap (λ (x : List Dir). chosen x (choose costs w s c 0).last) (sym (append-nil (choose costs w s c 0).choices))
      ∙ ap (λ (o : Option Doc). chosen_both (chosen_at costs w o c) (λ last. chosen [] last)) (sym e);
}

both_chosen : {C : Type 0} (costs : Costs C) (laws : Lawful costs) (w : ℕ) → IsColumn w →
    (d e : Doc) (ds es : List Doc) (a b : Doc) → ChosenOfRow costs w (d ∷ ds) a → ChosenOfRow costs w (e ∷ es) b →
    ChosenOfRow costs w (d ∷ (ds ++ (e ∷ es))) (Concat a b)
unfolding IsDocument simple most_pieces
both_chosen {C = C} costs laws w p d e ds es a b f g = record {
  runs = both_run d e ds es a b f.runs g.runs;
  document = λ h. let apart = documents-apart (d ∷ ds) (e ∷ es) h in (f.document apart.0, g.document apart.1);
  anywhere = λ is s h.
      let parts = concat_is (simple a false) (simple b false) s h in
      subst (λ (x : Doc). PlainAnywhere costs w x) (sym parts.4)
      (concat_anywhere costs w parts.0 parts.1 (f.anywhere is parts.0 parts.2));
  chosen_is = λ h parted reflects s k c.
      let parts = concat_is (simple a false) (simple b false) s k in
      let documents = documents-apart (d ∷ ds) (e ∷ es) h in
      let seam = parted-apart d e ds es parted in
      let left = f.chosen_is documents.0 seam.0
      (λ pieces others more x y z q r t short shorter. reflects pieces others more x y z q r t (omega arith)
      (omega arith)) parts.0 parts.2 c in
      let right = λ (n : ℕ). g.chosen_is documents.1 seam.1
      (λ pieces others more x y z q r t short shorter. reflects pieces others more x y z q r t (omega arith)
      (omega arith)) parts.1 parts.3 n in
      let margin : EndsAtMargin a ⊎ PlainAnywhere costs w parts.1 = elim seam.2 [
        | inl is ↦ inl (λ cs n whole l. runs_to_margin d ds n cs whole.pieces whole.last is (f.runs.0 n cs whole l))
        | inr is ↦ inr (g.anywhere is parts.1 parts.3)
      ] in
      ap (λ (x : Doc). choose costs w x c 0) parts.4
      ∙ chosen_in_row costs laws w a b parts.0 parts.1 c (plain costs w parts.0 c 0) p (f.document documents.0)
      (g.document documents.1) parts.2 parts.3 margin reflects refl
      ∙ ap (λ (x : Chosen). chosen_both x (λ last. choose costs w parts.1 last 0)) left
      ∙ ap (λ (x : Chosen). chosen ((chosen_row costs w (d ∷ ds) c).choices ++ x.choices) x.last)
      (right (chosen_row costs w (d ∷ ds) c).last)
      ∙ sym (row-append costs w (d ∷ ds) (e ∷ es) c);
}

row_chosen : {C : Type 0} (costs : Costs C) (laws : Lawful costs) (w : ℕ) (d : Doc) (ds : List Doc) (s : Doc) (c : ℕ) →
    IsColumn w → Documents (d ∷ ds) → Parted (d ∷ ds) →
    ReflectsOrderUpTo costs (most_pieces (seq (d ∷ ds))) → simple (seq (d ∷ ds)) false ≡ Some s →
    choose costs w s c 0 ≡ chosen_row costs w (d ∷ ds) c
row_chosen costs laws w d ds s c p h parted reflects e =
    (row_by_halves (λ (xs : List Doc) (a : Doc). ChosenOfRow costs w xs a) (one_chosen costs w)
    (both_chosen costs laws w p) (suc (length ds)) d ds (omega arith)).chosen_is
    h parted reflects s e c

-- line ends have no choices
ends_chosen : {C : Type 0} (costs : Costs C) (w blanks : ℕ) (rest : List Doc) (c : ℕ) →
    chosen_row costs w (line_ends blanks ++ rest) c ≡ chosen_row costs w rest 0
unfolding chosen_row simple choose
ends_chosen costs w zero rest c = refl
ends_chosen costs w (suc blanks) rest c = ends_chosen costs w blanks rest 0

at_column : {C : Type 0} (costs : Costs C) (w : ℕ) (o : Option Doc) →
    (chosen_at costs w o 0).choices ≡ chosen_of costs w o
at_column costs w None = refl
at_column costs w (Some s) = refl

paragraphs_chosen : {C : Type 0} (costs : Costs C) (w : ℕ) (ps : List Paragraph) →
    (chosen_row costs w (paragraphs_docs ps) 0).choices ≡ chosen_apart costs w ps
unfolding chosen_row paragraphs_docs chosen_apart
paragraphs_chosen costs w [] = refl
paragraphs_chosen costs w (p ∷ ps) =
    ap₂ (λ (x y : List Dir). x ++ y) (at_column costs w (simple p.doc false))
    (ap (λ (x : Chosen). x.choices)
    (ends_chosen costs w p.blanks (paragraphs_docs ps) (chosen_at costs w (simple p.doc false) 0).last)
    ∙ paragraphs_chosen costs w ps)

nothing_chosen : {C : Type 0} (costs : Costs C) (w : ℕ) (s : Doc) → simple (plain_text []) false ≡ Some s →
    (choose costs w s 0 0).choices ≡ []
unfolding simple choose
nothing_chosen costs w s e =
    let same : plain_text [] ≡ s = cc in
    subst (λ (x : Doc). (choose costs w x 0 0).choices ≡ []) same refl

pub chosen_as_apart : {C : Type 0} (costs : Costs C) (w : ℕ) (ps : List Paragraph) (s : Doc) → Lawful costs →
    IsColumn w → EachIsDocument ps →
    ReflectsOrderUpTo costs (most_pieces (seq (paragraphs_docs ps))) →
    simple (seq (paragraphs_docs ps)) false ≡ Some s →
    (choose costs w s 0 0).choices ≡ chosen_apart costs w ps
unfolding paragraphs_docs chosen_apart
chosen_as_apart costs w [] s laws p d reflects e =
    nothing_chosen costs w s (ap (λ (x : Doc). simple x false) (sym seq_of_none) ∙ e)
chosen_as_apart costs w (q ∷ ps) s laws p d reflects e =
    ap (λ (x : Chosen). x.choices)
    (row_chosen costs laws w q.doc (line_ends q.blanks ++ paragraphs_docs ps) s 0 p (paragraphs_documents (q ∷ ps) d)
    (paragraphs_parted (q ∷ ps)) reflects e)
    ∙ paragraphs_chosen costs w (q ∷ ps)
