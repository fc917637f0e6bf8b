-- Worked examples of documents, flat or not, each of which computes: a definition that changes its meaning fails here.
use Rattle.std.proofs.Common.{◌≡◌, true, false, [], ◌∷◌, refl, Some, None}
use Rattle.rf_base_document.specs.declared.directions.Dir.TheVariants.{Left, Right}
use Rattle.rf_base_document.specs.Document.{Doc, Text, Newline, Hard, Concat, Nest, Align, Reset, Flatten, Choice, Only, Charge}
use Rattle.rf_base_document.specs.Simple.{simple}
use Rattle.rf_base_cost.specs.Pareto.{undominated, placed, by_last, pareto}
use Rattle.rf_base_optimum.specs.Plain.{all_joined, plain}
use Rattle.rf_base_cut.specs.Cut.{cut, after}
use Rattle.rf_base_cut.specs.Documents.{after_in, text_behind, break_behind, begins_in, flat_length_in, flat_lengths_in, first_begins_in, indifferent_in, KnowsNoIndentation}
use Rattle.rf_base_cut.proofs.Examples.{counted, at_for}

-- a text that ends at the width stands behind a measure, one that ends past it doesn't
text_to_the_width : text_behind counted 5 (at_for 1 7 (Left ∷ [])) 4 ≡ at_for 5 9 (Left ∷ []) ∷ []
text_to_the_width = refl

text_past_the_width : text_behind counted 5 (at_for 1 7 []) 5 ≡ []
text_past_the_width = refl

-- a break does where both columns are within the width
breaks_to_the_width : (break_behind counted 5 (at_for 5 7 (Left ∷ [])) 5 ≡ at_for 5 22 (Left ∷ []) ∷ [])
    × (break_behind counted 5 (at_for 6 7 []) 0 ≡ []) × (break_behind counted 5 (at_for 0 7 []) 6 ≡ [])
breaks_to_the_width = (refl, refl, refl)

-- a newline that is flat is a space, a hard one has no layout; a side without one is left out
abbrev broken_or_flat : Doc
broken_or_flat = Choice (Concat (Text [] 1) Hard) (Concat (Text [] 1) Newline)

flat_or_not : (after_in counted 5 (Flatten broken_or_flat) false (at_for 1 7 (Left ∷ [])) 2 0
    ≡ at_for 3 7 (Left ∷ Right ∷ []) ∷ [])
    × (after_in counted 5 broken_or_flat false (at_for 1 7 (Left ∷ [])) 2 0 ≡ at_for 2 19 (Left ∷ Left ∷ []) ∷ [])
    × (after_in counted 5 (Choice (Concat (Text [] 1) Hard) Hard) true (at_for 1 7 []) 2 0 ≡ [])
unfolding after_in simple after cut plain all_joined pareto undominated by_last placed
flat_or_not = (refl, refl, refl)

-- a newline that is flat is no break, a hard one has no other layout
beginnings : (begins_in Newline false ≡ true) × (begins_in Newline true ≡ false)
    × (begins_in (Nest 2 (Flatten (Concat Newline (Text [] 1)))) false ≡ false)
    × (begins_in (Flatten (Concat Hard (Text [] 1))) false ≡ true)
    × (begins_in (Concat (Text [] 0) Newline) false ≡ false)
    × (begins_in (Choice Newline (Align Newline)) false ≡ false)
unfolding begins_in
beginnings = (refl, refl, refl, refl, refl, refl)

-- on one line a newline is one column long; a charge, a break and sides that differ have no length
lengths : (flat_length_in
    (Flatten (Concat (Text [] 2) (Concat Newline (Choice (Text [] 3) (Only Left (Text [] 3)))))) false ≡ Some 6)
    × (flat_length_in (Concat (Text [] 2) Newline) false ≡ None)
    × (flat_length_in (Concat (Text [] 2) Hard) true ≡ None) × (flat_length_in (Charge 1 (Text [] 2)) true ≡ None)
    × (flat_length_in (Choice (Text [] 2) (Concat (Text [] 2) Newline)) true ≡ None)
unfolding flat_length_in
lengths = (refl, refl, refl, refl, refl)

-- before a space that is cut at 5 and free up to 4 the measures may be cut at 3, before a break at the width
cuts_before : (indifferent_in 9 4 (Reset Newline) true 5 ≡ 3) × (indifferent_in 9 4 (Reset Newline) false 5 ≡ 9)
    × (indifferent_in 9 4 (Choice Newline (Text [] 1)) false 5 ≡ 0)
unfolding begins_in flat_length_in
cuts_before = (refl, refl, refl)

-- documents in a row: their lengths added, where each has one; and the first one's beginning
rows : (flat_lengths_in (Text [] 2 ∷ Newline ∷ Text [] 3 ∷ []) true ≡ Some 6)
    × (flat_lengths_in (Text [] 2 ∷ Newline ∷ Text [] 3 ∷ []) false ≡ None) × (flat_lengths_in [] false ≡ Some 0)
    × (first_begins_in (Newline ∷ Text [] 3 ∷ []) false ≡ true)
    × (first_begins_in (Text [] 0 ∷ Newline ∷ []) false ≡ false)
unfolding flat_length_in flat_lengths_in begins_in
rows = (refl, refl, refl, refl, refl)

-- a break below an alignment or a reset, and a newline that is flat, know no indentation
aligned_knows_none : KnowsNoIndentation (Concat (Text [] 1) (Choice (Align Newline) (Nest 1 (Flatten Newline)))) false
unfolding KnowsNoIndentation
aligned_knows_none = (tt, (tt, refl))

newline_knows : KnowsNoIndentation Newline false → ⊥
unfolding KnowsNoIndentation
newline_knows h = cc

nested_knows : KnowsNoIndentation (Nest 1 Hard) false → ⊥
unfolding KnowsNoIndentation
nested_knows h = cc
