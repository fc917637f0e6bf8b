-- What the laws ask for is needed: where a premise doesn't hold, an example computes to something else.
use Rattle.std.proofs.Common.{◌≡◌, ℕ, ◌+◌, min, true, List, [], ◌∷◌, ◌++◌, refl}
use Rattle.std.specs.Prelude.{nat_le, flat_map}
use Rattle.rf_base_document.specs.declared.directions.Dir.{Dir}
use Rattle.rf_base_document.specs.declared.directions.Dir.TheVariants.{Left, Right}
use Rattle.rf_base_document.specs.Document.{Doc, Text, Newline, Concat, Align, Choice, Charge}
use Rattle.rf_base_cost.specs.declared.measures.Measure.{Measure}
use Rattle.rf_base_cost.specs.Cost.{Costs}
use Rattle.rf_base_cost.specs.Pareto.{undominated, placed, by_last, pareto}
use Rattle.rf_base_optimum.specs.Plain.{all_joined, plain}
use Rattle.rf_base_cut.specs.Cut.{cut, after, turned, extended}
use Rattle.rf_base_cut.proofs.Examples.{counted, at_for, one_line_or_two}

abbrev Measures : Type 0
Measures = List (Measure ℕ (List Dir))

-- of measures whose last columns don't fall, 0 cuts the second off
not_falling : cut 0 (at_for 0 1 [] ∷ at_for 0 2 [] ∷ []) ≡ at_for 0 1 [] ∷ []
unfolding cut
not_falling = refl

-- what was cut further right is lost
abbrev falling : Measures
falling = at_for 2 1 [] ∷ at_for 1 2 [] ∷ []

lost_further_right : cut 1 (cut 2 falling) ≡ at_for 2 1 [] ∷ []
unfolding cut
lost_further_right = refl

not_lost : cut 1 falling ≡ falling
unfolding cut
not_lost = refl

-- of measures whose costs don't rise, what is cut off mattered
abbrev cheaper_later : Measures
cheaper_later = at_for 2 5 [] ∷ at_for 1 3 [] ∷ []

cut_too_early : cut 2 (pareto counted (cut 2 cheaper_later ++ [])) ≡ at_for 2 5 [] ∷ []
unfolding cut pareto undominated by_last placed
cut_too_early = refl

cut_afterwards : cut 2 (pareto counted (cheaper_later ++ [])) ≡ at_for 1 3 [] ∷ []
unfolding cut pareto undominated by_last placed
cut_afterwards = refl

-- a text costs nothing, a break 1, a charge itself, and sums stop at 3, which is the greatest value
abbrev capped : Costs ℕ
capped = record {
  is_value = λ a. nat_le a 3;
  text = λ column len. 0;
  newline = λ indentation. 1;
  charge = λ k. min 3 k;
  add = λ a b. min 3 (a + b);
  le = nat_le;
}

-- a text that ends at 5 for 1, or one that ends at 4 for 2
abbrev far_or_dear : Doc
far_or_dear = Choice (Charge 1 (Text [] 5)) (Charge 2 (Text [] 4))

far_and_dear : plain capped 9 far_or_dear 0 0 ≡ at_for 5 1 (Left ∷ []) ∷ at_for 4 2 (Right ∷ []) ∷ []
unfolding plain pareto undominated by_last placed
far_and_dear = refl

-- behind a cost of 2 there is no room: both cost 3, but each stays where they are pruned before they stand behind it
abbrev at_two : Measure ℕ (List Dir)
at_two = at_for 0 2 []

choice_before : after capped 9 far_or_dear at_two 0 0 ≡ at_for 5 3 (Left ∷ []) ∷ at_for 4 3 (Right ∷ []) ∷ []
unfolding after cut plain pareto undominated by_last placed
choice_before = refl

choice_behind : cut 0 (pareto capped
    (after capped 9 (Charge 1 (Text [] 5)) (turned Left at_two) 0 0
    ++ after capped 9 (Charge 2 (Text [] 4)) (turned Right at_two) 0 0))
    ≡ at_for 4 3 (Right ∷ []) ∷ []
unfolding after cut plain pareto undominated by_last placed
choice_behind = refl

-- the same of two parts
concat_before : after capped 9 (Concat (Text [] 1) far_or_dear) at_two 0 0
    ≡ at_for 6 3 (Left ∷ []) ∷ at_for 5 3 (Right ∷ []) ∷ []
unfolding after cut plain all_joined pareto undominated by_last placed
concat_before = refl

concat_behind : cut 0 (pareto capped
    (flat_map (λ k. after capped 9 far_or_dear k 0 0) (after capped 9 (Text [] 1) at_two 0 0)))
    ≡ at_for 5 3 (Right ∷ []) ∷ []
unfolding after cut plain all_joined pareto undominated by_last placed
concat_behind = refl

-- and of a charge of 2, which leaves no room for what it charges, behind nothing
charge_before : after capped 9 (Charge 2 far_or_dear) (at_for 0 0 []) 0 0 ≡ at_for 4 3 (Right ∷ []) ∷ []
unfolding after cut plain pareto undominated by_last placed
charge_before = refl

charge_behind : after capped 9 far_or_dear (extended capped (at_for 0 0 []) 0 2) 0 0
    ≡ at_for 5 3 (Left ∷ []) ∷ at_for 4 3 (Right ∷ []) ∷ []
unfolding after cut plain pareto undominated by_last placed
charge_behind = refl

-- before a break whose indentation is the column, the second measure matters
abbrev nothing : Measure ℕ (List Dir)
nothing = at_for 0 0 []

aligned_after_both : after counted 9 (Concat one_line_or_two (Align Newline)) nothing 0 0
    ≡ at_for 4 15 (Left ∷ []) ∷ at_for 2 22 (Right ∷ []) ∷ []
unfolding after cut plain all_joined pareto undominated by_last placed
aligned_after_both = refl

aligned_after_first : cut 0 (pareto counted
    (flat_map (λ k. after counted 9 (Align Newline) k 0 0) (after counted 9 one_line_or_two nothing 0 9)))
    ≡ at_for 4 15 (Left ∷ []) ∷ []
unfolding after cut plain all_joined pareto undominated by_last placed
aligned_after_first = refl

-- a text costs nothing wherever it ends
abbrev free_texts : Costs ℕ
free_texts = record {
  is_value = λ a. true;
  text = λ column len. 0;
  newline = λ indentation. 10;
  charge = λ k. k;
  add = λ a b. a + b;
  le = nat_le;
}

-- before a text of length 2 that is cut at 4, a measure that ends at 4 isn't the last that matters
text_past_the_cut : after free_texts 9 (Concat one_line_or_two (Text [] 2)) nothing 0 4
    ≡ at_for 6 0 (Left ∷ []) ∷ at_for 4 10 (Right ∷ []) ∷ []
unfolding after cut plain all_joined pareto undominated by_last placed
text_past_the_cut = refl

cut_where_it_is_past : cut 4 (pareto free_texts
    (flat_map (λ k. after free_texts 9 (Text [] 2) k 0 4)
    (after free_texts 9 one_line_or_two nothing 0 4))) ≡ at_for 6 0 (Left ∷ []) ∷ []
unfolding after cut plain all_joined pareto undominated by_last placed
cut_where_it_is_past = refl

-- nor where the text behind it isn't within the width
text_past_the_width : after free_texts 5 (Concat one_line_or_two (Text [] 2)) nothing 0 9
    ≡ at_for 4 10 (Right ∷ []) ∷ []
unfolding after cut plain all_joined pareto undominated by_last placed
text_past_the_width = refl

cut_where_it_is_not_within : cut 9 (pareto free_texts
    (flat_map (λ k. after free_texts 5 (Text [] 2) k 0 9) (after free_texts 5 one_line_or_two nothing 0 4))) ≡ []
unfolding after cut plain all_joined pareto undominated by_last placed
cut_where_it_is_not_within = refl

-- nor where the text behind it costs something: both cost the same, and the second ends further left
abbrev near_or_charged : Doc
near_or_charged = Choice (Text [] 4) (Charge 2 (Text [] 2))

text_past_the_free : after counted 9 (Concat near_or_charged (Text [] 2)) nothing 0 6 ≡ at_for 4 3 (Right ∷ []) ∷ []
unfolding after cut plain all_joined pareto undominated by_last placed
text_past_the_free = refl

cut_where_it_is_not_free : cut 6 (pareto counted
    (flat_map (λ k. after counted 9 (Text [] 2) k 0 6)
    (after counted 9 near_or_charged nothing 0 4))) ≡ at_for 6 3 (Left ∷ []) ∷ []
unfolding after cut plain all_joined pareto undominated by_last placed
cut_where_it_is_not_free = refl

-- where a break costs nothing, or a charge does, or another side is shorter, a text that costs nothing isn't first
abbrev nothing_costs : Costs ℕ
nothing_costs = record {
  is_value = λ a. true;
  text = λ column len. 0;
  newline = λ indentation. 0;
  charge = λ k. 0;
  add = λ a b. a + b;
  le = nat_le;
}

not_first : (plain nothing_costs 9 (Choice (Text [] 2) Newline) 0 0 ≡ at_for 0 0 (Right ∷ []) ∷ [])
    × (plain nothing_costs 9 (Choice (Text [] 2) (Charge 1 (Text [] 1))) 0 0 ≡ at_for 1 0 (Right ∷ []) ∷ [])
    × (plain free_texts 9 (Choice (Text [] 2) (Text [] 1)) 0 0 ≡ at_for 1 0 (Right ∷ []) ∷ [])
unfolding plain pareto undominated by_last placed
not_first = (refl, refl, refl)

-- a text that costs nothing and ends past the cut isn't all that stands there
line_past_the_cut : after free_texts 9 (Choice (Text [] 2) Newline) nothing 0 1
    ≡ at_for 2 0 (Left ∷ []) ∷ at_for 0 10 (Right ∷ []) ∷ []
unfolding after cut plain pareto undominated by_last placed
line_past_the_cut = refl

-- one that costs something can be outdone
line_past_the_free : plain counted 99 (Choice (Text [] 14) Newline) 0 0 ≡ at_for 0 10 (Right ∷ []) ∷ []
unfolding plain pareto undominated by_last placed
line_past_the_free = refl
