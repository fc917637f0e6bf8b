-- Worked examples of documents on one line, each of which computes: a definition that changes its meaning fails here.
use Rattle.std.proofs.Common.{◌≡◌, ℕ, true, false, List, [], ◌∷◌, refl, inl, inr, Some, None, arith}
use Rattle.rf_base_document.specs.declared.directions.Dir.{Dir}
use Rattle.rf_base_document.specs.declared.directions.Dir.TheVariants.{Left, Right}
use Rattle.rf_base_document.specs.Document.{Doc, Text, Newline, Hard, Concat, Nest, Align, Reset, Flatten, Choice, Only, Charge}
use Rattle.rf_base_document.specs.Render.{Word, Break, Fee}
use Rattle.rf_base_document.specs.Simple.{simple}
use Rattle.rf_base_cost.specs.Pareto.{undominated, placed, by_last, pareto}
use Rattle.rf_base_optimum.specs.Plain.{all_joined, plain}
use Rattle.rf_base_cut.specs.Cut.{cut, after}
use Rattle.rf_base_cut.specs.Documents.{after_in}
use Rattle.rf_base_cut.specs.DocumentLines.{line, one_line, line_of_all, IsLong, IsFlattenable, AreLong, EachIsWord, never_free_in, OneLineIn}
use Rattle.rf_base_cut.proofs.Examples.{counted, at_for}

-- two parts of 2 columns and 1, the second below the first, or both flat
abbrev two_parts : Doc
two_parts = Align (Concat (Text [] 2) (Concat Newline (Text [] 1)))

abbrev two_ways : Doc
two_ways = Choice two_parts (Flatten two_parts)

-- on one line they are 4 columns long by the second way, and flat by the first
on_one_line : (one_line two_ways false ≡ Some (line 4 (Right ∷ [])))
    × (one_line two_ways true ≡ Some (line 4 (Left ∷ [])))
unfolding one_line
on_one_line = (refl, refl)

-- of two sides that have a line it is the first one's
of_both_the_first : one_line (Choice (Text [] 3) (Text [] 3)) false ≡ Some (line 3 (Left ∷ []))
unfolding one_line
of_both_the_first = refl

-- lengths are added, choices stand in order, a direction before those of its side
two_in_a_row : one_line (Concat two_ways (Only Left (Nest 2 (Choice Newline (Text [] 5))))) false
    ≡ Some (line 9 (Right ∷ Left ∷ Right ∷ []))
unfolding one_line
two_in_a_row = refl

-- with a break or a charge there is no line
without_line : (one_line (Concat (Text [] 2) (Reset Newline)) false ≡ None)
    × (one_line (Concat (Text [] 2) Hard) true ≡ None)
    × (one_line (Choice (Charge 1 (Text [] 2)) (Charge 2 (Text [] 2))) false ≡ None)
unfolding one_line
without_line = (refl, refl, refl)

-- documents in a row
rows_on_one_line : (line_of_all (two_ways ∷ Text [] 1 ∷ two_ways ∷ []) false ≡ Some (line 9 (Right ∷ Right ∷ [])))
    × (line_of_all (two_ways ∷ Newline ∷ []) false ≡ None) × (line_of_all [] false ≡ Some (line 0 []))
unfolding one_line line_of_all
rows_on_one_line = (refl, refl, refl)

-- each layout of both ways on one line is 4 columns long, and none is 3
ways_are_long : IsLong two_ways false 4
unfolding IsLong
ways_are_long = ((2, 2, refl, refl, (1, 1, refl, tt, refl)), (2, 2, refl, refl, (1, 1, refl, refl, refl)))

space_is_one_long : IsLong (Flatten Newline) false 0 → ⊥
unfolding IsLong
space_is_one_long h = let wrong : ◌≡◌ {A = ℕ} 0 1 = h in absurd (omega arith)

rows_are_long : AreLong (two_ways ∷ Text [] 1 ∷ []) false 5
unfolding IsLong AreLong
rows_are_long = (4, 1, refl, ways_are_long, (1, 0, refl, refl, refl))

-- so, as that costs nothing, it is all that stands behind a measure, where it ends by the column of the cut
line_alone : after_in counted 9 two_ways false (at_for 0 7 (Left ∷ [])) 0 4 ≡ at_for 4 8 (Left ∷ Right ∷ []) ∷ []
unfolding after_in simple after cut plain all_joined pareto undominated by_last placed
line_alone = refl

-- a charge of nothing is no charge: its side is the first that costs nothing, and the line is by the other
abbrev charged_for_nothing : Doc
charged_for_nothing = Choice (Charge 0 (Text [] 2)) (Text [] 2)

line_of_other : one_line charged_for_nothing false ≡ Some (line 2 (Right ∷ []))
unfolding one_line
line_of_other = refl

first_of_both : after_in counted 9 charged_for_nothing false (at_for 0 0 []) 0 2 ≡ at_for 2 0 (Left ∷ []) ∷ []
unfolding after_in simple after cut plain all_joined pareto undominated by_last placed
first_of_both = refl

-- a side that is shorter costs nothing too, and outdoes the line
line_of_longer : one_line (Choice (Text [] 2) (Text [] 1)) false ≡ Some (line 2 (Left ∷ []))
unfolding one_line
line_of_longer = refl

shorter_is_all : after_in counted 9 (Choice (Text [] 2) (Text [] 1)) false (at_for 0 0 []) 0 2
    ≡ at_for 1 0 (Right ∷ []) ∷ []
unfolding after_in simple after cut plain all_joined pareto undominated by_last placed
shorter_is_all = refl

-- a newline can be flat, a hard one and a charge can't
two_ways_flattenable : IsFlattenable two_ways
unfolding IsFlattenable
two_ways_flattenable = ((tt, (tt, tt)), (tt, (tt, tt)))

hard_not_flattenable : IsFlattenable (Concat (Text [] 1) Hard) → ⊥
unfolding IsFlattenable
hard_not_flattenable h = h.1

charge_not_flattenable : IsFlattenable (Charge 1 (Text [] 1)) → ⊥
unfolding IsFlattenable
charge_not_flattenable h = h

-- words alone are on one line without a charge
words_alone : EachIsWord (Word 0 [] 2 ∷ Word 2 [] 1 ∷ [])
unfolding EachIsWord
words_alone = tt

word_and_break : EachIsWord (Word 0 [] 2 ∷ Break 0 ∷ []) → ⊥
unfolding EachIsWord
word_and_break h = h

word_and_charge : EachIsWord (Fee 1 ∷ Word 0 [] 2 ∷ []) → ⊥
unfolding EachIsWord
word_and_charge h = h

-- a newline that is flat is a space, and otherwise a break, whichever part it is; a hard one that is flat has no layout
free_or_not : (never_free_in Newline false ≡ true) × (never_free_in Newline true ≡ false)
    × (never_free_in (Choice (Flatten Hard) (Only Left Hard)) true ≡ true)
    × (never_free_in (Concat (Reset Newline) (Text [] 1)) false ≡ true) × (never_free_in two_parts false ≡ true)
    × (never_free_in two_parts true ≡ false)
unfolding never_free_in
free_or_not = (refl, refl, refl, refl, refl, refl)

-- a choice is where both sides are
choices_free_or_not : (never_free_in two_ways false ≡ false)
    × (never_free_in (Choice (Flatten two_parts) two_parts) false ≡ false)
unfolding never_free_in
choices_free_or_not = (refl, refl)

-- a charge is from 1 on, and whatever its part is
charges_free_or_not : (never_free_in (Charge 1 (Text [] 2)) false ≡ true)
    × (never_free_in (Charge 0 (Text [] 2)) false ≡ false) × (never_free_in (Charge 0 (Nest 2 Newline)) false ≡ true)
unfolding never_free_in
charges_free_or_not = (refl, refl, refl)

-- a line node by node: of a newline where it is flat, and of parts in a row
space_has_line : OneLineIn Newline true 1 []
unfolding OneLineIn
space_has_line = (refl, refl, refl)

break_has_none : (len : ℕ) (how : List Dir) → OneLineIn Newline false len how → ⊥
unfolding OneLineIn
break_has_none len how h = let wrong : false ≡ true = h.0 in cc

hard_has_none : (len : ℕ) (how : List Dir) → OneLineIn Hard true len how → ⊥
unfolding OneLineIn
hard_has_none len how h = h

parts_have_line : OneLineIn two_parts true 4 []
unfolding OneLineIn
parts_have_line = (2, 2, [], [], refl, refl, (refl, refl), (1, 1, [], [], refl, refl, (refl, refl, refl), (refl, refl)))

break_inside_has_none : (len : ℕ) (how : List Dir) → OneLineIn two_parts false len how → ⊥
unfolding OneLineIn
break_inside_has_none len how h = let wrong : false ≡ true = h.7.6.0 in cc

-- of a choice by its second side, where the first has a break, and by its first, where the second is as long or has one
ways_have_line : OneLineIn two_ways false 4 (Right ∷ [])
unfolding OneLineIn never_free_in
ways_have_line = ([], inr (refl, refl, parts_have_line))

ways_have_line_flat : OneLineIn two_ways true 4 (Left ∷ [])
unfolding OneLineIn
ways_have_line_flat = ([], inl (refl, parts_have_line, inr ([], parts_have_line)))

ways_have_line_turned : OneLineIn (Choice (Flatten two_parts) two_parts) false 4 (Left ∷ [])
unfolding OneLineIn never_free_in
ways_have_line_turned = ([], inl (refl, parts_have_line, inl refl))

-- a hard newline that is flat leaves the other side alone
other_than_hard : OneLineIn (Choice Hard (Text [] 2)) true 2 (Right ∷ [])
unfolding OneLineIn never_free_in
other_than_hard = ([], inr (refl, refl, (refl, refl)))

other_is_all : after_in counted 9 (Choice Hard (Text [] 2)) true (at_for 0 0 []) 0 2 ≡ at_for 2 0 (Right ∷ []) ∷ []
unfolding after_in simple after cut plain all_joined pareto undominated by_last placed
other_is_all = refl

-- choices stand in order, a direction before those of its side
row_has_line : OneLineIn (Concat two_ways (Only Left (Nest 2 (Choice Newline (Text [] 5))))) false 9
    (Right ∷ Left ∷ Right ∷ [])
unfolding OneLineIn never_free_in
row_has_line = (
  4,
  5,
  Right ∷ [],
  Left ∷ Right ∷ [],
  refl,
  refl,
  ways_have_line,
  (Right ∷ [], refl, ([], inr (refl, refl, (refl, refl)))),
)

-- where a side is shorter, or longer, there is none
shorter_side_has_none : (len : ℕ) (how : List Dir) → OneLineIn (Choice (Text [] 2) (Text [] 1)) false len how → ⊥
unfolding OneLineIn never_free_in
shorter_side_has_none len how h =
    elim h.1 [
      | inl left ↦
          elim left.2 [
            | inl broken ↦ let wrong : false ≡ true = broken in cc
            | inr other ↦ let one : len ≡ 2 = left.1.0 in let two : len ≡ 1 = other.1.0 in absurd (omega arith)
          ]
      | inr right ↦ let wrong : false ≡ true = right.1 in cc
    ]

-- a charge of nothing is no charge, and has no line: beside one there is none, and beside a charge there is one
charged_for_nothing_has_none : (len : ℕ) (how : List Dir) → OneLineIn charged_for_nothing false len how → ⊥
unfolding OneLineIn never_free_in
charged_for_nothing_has_none len how h =
    elim h.1 [ inl left ↦ left.1 | inr right ↦ let wrong : false ≡ true = right.1 in cc ]

beside_a_charge : OneLineIn (Choice (Charge 1 (Text [] 1)) (Text [] 2)) false 2 (Right ∷ [])
unfolding OneLineIn never_free_in
beside_a_charge = ([], inr (refl, refl, (refl, refl)))

-- a document of one text costs what it costs behind a measure, and is within the width or not at all
text_alone : after_in counted 9 two_ways true (at_for 1 7 (Left ∷ [])) 0 9 ≡ at_for 5 9 (Left ∷ Left ∷ []) ∷ []
unfolding after_in simple after cut plain all_joined pareto undominated by_last placed
text_alone = refl

text_past_width : after_in counted 4 two_ways true (at_for 1 7 (Left ∷ [])) 0 9 ≡ []
unfolding after_in simple after cut plain all_joined pareto undominated by_last placed
text_past_width = refl
