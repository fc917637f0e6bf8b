-- Worked examples of what a resolution is measured as: a definition that changes its meaning fails here.
use Rattle.std.proofs.Common.{◌≡◌, ℕ, ◌+◌, ◌<◌, ◌≤◌, true, List, [], ◌∷◌, ◌++◌, length, replicate, refl, sym, ap, ◌∙◌, subst, Some, arith, length-append}
use Rattle.std.specs.Prelude.{nat_le}
use Rattle.std.proofs.lemmas.List.{length-replicate}
use Rattle.rf_base_document.specs.declared.directions.Dir.{Dir}
use Rattle.rf_base_document.specs.declared.limits.TheConstants.{LAYOUT_LIMIT}
use Rattle.rf_base_document.specs.Document.{Doc, Text, Newline, Nest, Concat}
use Rattle.rf_base_document.specs.Picks.{leaves_of, weight_of}
use Rattle.rf_base_document.specs.Render.{Word, Break, Laid, laid, render, layout}
use Rattle.rf_base_cost.specs.Cost.{Costs, cost_after, cost_of}
use Rattle.rf_walk.specs.declared.extents.Extent.{Extent}
use Rattle.rf_measure.specs.Measured.{IsMeasured}
use Rattle.rf_measure.specs.Tallies.{Counts}

-- costs that are lists of what was counted, in order
abbrev listed : Costs (List ℕ)
listed = record {
  is_value = λ a. true;
  text = λ column len. column ∷ len ∷ [];
  newline = λ indentation. indentation ∷ [];
  charge = λ k. k ∷ [];
  add = λ a b. a ++ b;
  le = λ a b. nat_le (length a) (length b);
}

one_short : 1 ≤ LAYOUT_LIMIT
one_short = let short : 1 ≤ 67108864 = omega arith in short

two_short : 2 ≤ LAYOUT_LIMIT
two_short = let short : 2 ≤ 67108864 = omega arith in short

-- a text, and a line break, at column 0 and indentation 0
abbrev two : Doc
two = Concat (Text (97 ∷ []) 1) Newline

abbrev two_laid : Laid
two_laid = laid (Word 0 (97 ∷ []) 1 ∷ Break 0 ∷ []) 0

two_measured : IsMeasured listed two [] (0 ∷ 1 ∷ 0 ∷ []) 0
unfolding render cost_after layout leaves_of
two_measured = (two_laid, refl, refl, refl, two_short, two_short)

another_cost : (cost : List ℕ) (last : ℕ) → IsMeasured listed Newline [] cost last → (cost ≡ 0 ∷ []) × (last ≡ 0)
unfolding render cost_after
another_cost cost last h =
    let found = h.1 in
    let same : laid (Break 0 ∷ []) 0 ≡ h.0 = cc in
    let costs : Some (0 ∷ []) ≡ Some cost =
    subst (λ (l : Laid). cost_of listed l.pieces ≡ Some cost) (sym same) h.2 in
    (cc, h.3 ∙ ap (λ (l : Laid). l.last) (sym same))

-- the characters and the weight are at most the limit, and may be it
break_length : (n : ℕ) → length (layout (Break (0 + n) ∷ [])) ≡ n + 1
unfolding layout
break_length n = omega (arith, length-append {A = ℕ} (10 ∷ replicate (0 + n) 32) [], length-replicate {A = ℕ} (0 + n) 32)

longest : (n : ℕ) → n + 1 ≡ LAYOUT_LIMIT → IsMeasured listed (Nest n Newline) [] ((0 + n) ∷ []) (0 + n)
unfolding render cost_after leaves_of
longest n e =
    (laid (Break (0 + n) ∷ []) (0 + n), refl, refl, refl, omega (arith, e, break_length n), one_short)

heaviest : (choices : List Dir) → length choices + 1 ≡ LAYOUT_LIMIT → IsMeasured listed Newline choices (0 ∷ []) 0
unfolding render cost_after leaves_of layout
heaviest choices e = (laid (Break 0 ∷ []) 0, refl, refl, refl, one_short, omega (arith, e))

past_the_length : (n : ℕ) (cost : List ℕ) (last : ℕ) → n ≡ LAYOUT_LIMIT → IsMeasured listed (Nest n Newline) [] cost last → ⊥
unfolding render
past_the_length n cost last e h =
    let found = h.1 in
    let same : laid (Break (0 + n) ∷ []) (0 + n) ≡ h.0 = cc in
    let short : length (layout (Break (0 + n) ∷ [])) ≤ LAYOUT_LIMIT =
    subst (λ (l : Laid). length (layout l.pieces) ≤ LAYOUT_LIMIT) (sym same) h.4 in
    omega (arith, e, break_length n, short)

past_the_weight : (e : Doc) (choices : List Dir) (cost : List ℕ) (last : ℕ) → LAYOUT_LIMIT < weight_of e choices →
    IsMeasured listed e choices cost last → ⊥
past_the_weight e choices cost last heavy h = omega (arith, heavy, h.5)

-- what is counted begins with an empty text at column 0
counted_of_break : (cost : List ℕ) (extent : Extent) → Counts listed cost extent (Break 4 ∷ []) 1 → cost ≡ 0 ∷ 0 ∷ 4 ∷ []
unfolding cost_after
counted_of_break cost extent counts = counts.cost_is
