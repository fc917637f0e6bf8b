-- Worked examples, each of which computes: a definition that changes its meaning fails here.
use Rattle.std.proofs.Common.{◌≡◌, ℕ, ◌+◌, ◌-◌, ◌≤◌, max, true, List, [], ◌∷◌, refl, arith}
use Rattle.std.specs.Prelude.{nat_le}
use lib.Chars.{codes}
use Rattle.rf_base_document.specs.declared.directions.Dir.{Dir}
use Rattle.rf_base_document.specs.declared.directions.Dir.TheVariants.{Left, Right}
use Rattle.rf_base_document.specs.Document.{Doc, Text, Newline, Concat, Nest, Align, Reset, Choice, Only, Charge, plain_text}
use Rattle.rf_base_cost.specs.declared.measures.Measure.{Measure}
use Rattle.rf_base_cost.specs.Cost.{Costs}
use Rattle.rf_base_cost.specs.Pareto.{undominated, placed, by_last, pareto}
use Rattle.rf_base_optimum.specs.Plain.{all_joined, plain, EachEndsBy}
use Rattle.rf_base_optimum.specs.Chosen.{chosen, choose}

-- costs that are numbers: each column past 3 costs 1, a break 10 and its indentation, a charge itself
abbrev counted : Costs ℕ
counted = record {
  is_value = λ a. true;
  text = λ column len. (column + len - 3) - (column - 3);
  newline = λ indentation. 10 + indentation;
  charge = λ k. k;
  add = λ a b. a + b;
  le = nat_le;
}

abbrev at_for : ℕ → ℕ → List Dir → Measure ℕ (List Dir)
at_for last cost choices = record { last = last; cost = cost; how = choices }

-- `aaaa` on one line, or `a` and under it `bb`
abbrev one_line_or_two : Doc
one_line_or_two =
    Choice (plain_text (codes "aaaa")) (Concat (plain_text (codes "a")) (Concat Newline (plain_text (codes "bb"))))

-- where the width is just enough for one line both are worth keeping, by falling last column
by_width : (plain counted 4 one_line_or_two 0 0 ≡ at_for 4 1 (Left ∷ []) ∷ at_for 2 10 (Right ∷ []) ∷ [])
    × (plain counted 3 one_line_or_two 0 0 ≡ at_for 2 10 (Right ∷ []) ∷ []) × (plain counted 1 one_line_or_two 0 0 ≡ [])
unfolding plain all_joined pareto undominated by_last placed
by_width = (refl, refl, refl)

-- the first measure, which costs least, is chosen, though the other ends further left
first_measure : choose counted 4 one_line_or_two 0 0 ≡ chosen (Left ∷ []) 4
unfolding choose plain all_joined pareto undominated by_last placed
first_measure = refl

second_alternative : choose counted 3 one_line_or_two 0 0 ≡ chosen (Right ∷ []) 2
unfolding choose plain all_joined pareto undominated by_last placed
second_alternative = refl

-- a break begins and ends within the width
breaks_to_the_width : (plain counted 2 Newline 2 2 ≡ at_for 2 12 [] ∷ []) × (plain counted 2 Newline 3 0 ≡ [])
    × (plain counted 2 Newline 0 3 ≡ [])
unfolding plain
breaks_to_the_width = (refl, refl, refl)

-- a text that ends at the width is within, also with a length of its own
text_at_the_width : plain counted 5 (Text (codes "ab") 4) 1 0 ≡ at_for 5 2 [] ∷ []
unfolding plain
text_at_the_width = refl

text_past_the_width : plain counted 4 (Text (codes "ab") 4) 1 0 ≡ []
unfolding plain
text_past_the_width = refl

-- nesting adds to the indentation outside, alignment takes the column, a reset takes nothing
where_breaks_go : (plain counted 9 (Nest 2 (Nest 1 Newline)) 0 4 ≡ at_for 7 17 [] ∷ [])
    × (plain counted 9 (Nest 2 (Align Newline)) 5 1 ≡ at_for 5 15 [] ∷ [])
    × (plain counted 9 (Reset Newline) 5 1 ≡ at_for 0 10 [] ∷ [])
unfolding plain
where_breaks_go = (refl, refl, refl)

-- a second part begins where the first ends, and the whole keeps the indentation
second_part_follows : plain counted 9 (Concat (plain_text (codes "ab"))
    (Align (Concat Newline (plain_text (codes "c"))))) 2 1 ≡ at_for 5 16 [] ∷ []
unfolding plain all_joined pareto undominated by_last placed
second_part_follows = refl

-- the choices of a first part come before those of a second, and an only gives its direction
first_part_first : plain counted 9 (Concat (Only Right (plain_text (codes "a")))
    (Only Left (plain_text (codes "b")))) 0 0 ≡ at_for 2 0 (Right ∷ Left ∷ []) ∷ []
unfolding plain all_joined pareto undominated by_last placed
first_part_first = refl

-- its own direction comes before those of its part
own_direction_first : choose counted 9 (Only Right (Choice (plain_text (codes "a")) (plain_text (codes "b")))) 0 0
    ≡ chosen (Right ∷ Left ∷ []) 1
unfolding choose plain pareto undominated by_last placed
own_direction_first = refl

-- of two equals the first alternative stays
equal_alternatives : plain counted 9 (Choice (plain_text (codes "a")) (plain_text (codes "b"))) 0 0
    ≡ at_for 1 0 (Left ∷ []) ∷ []
unfolding plain pareto undominated by_last placed
equal_alternatives = refl

-- `aaa`, or `aa` for 1
abbrev longer_or_charged : Doc
longer_or_charged = Choice (plain_text (codes "aaa")) (Charge 1 (plain_text (codes "aa")))

-- behind both stands `b`, past column 3 for the first alone: of two equals that of the earlier left measure stays
equal_behind : plain counted 9 (Concat longer_or_charged (Concat (plain_text (codes "b")) Newline)) 0 0
    ≡ at_for 0 11 (Left ∷ []) ∷ []
unfolding plain all_joined pareto undominated by_last placed
equal_behind = refl

both_are_left : plain counted 9 longer_or_charged 0 0 ≡ at_for 3 0 (Left ∷ []) ∷ at_for 2 1 (Right ∷ []) ∷ []
unfolding plain pareto undominated by_last placed
both_are_left = refl

-- alone the first alternative is chosen; before `bbb` the second costs no more and ends further left
best_as_a_whole : choose counted 9 (Concat longer_or_charged (plain_text (codes "bbb"))) 0 0 ≡ chosen (Right ∷ []) 5
unfolding choose plain all_joined pareto undominated by_last placed
best_as_a_whole = refl

best_alone : choose counted 9 longer_or_charged 0 0 ≡ chosen (Left ∷ []) 3
unfolding choose plain pareto undominated by_last placed
best_alone = refl

-- a charge is added, and one of nothing changes nothing
charges_are_added : (choose counted 80 (Choice (Charge 3 (plain_text (codes "a"))) (plain_text (codes "bb"))) 0 0
    ≡ chosen (Right ∷ []) 2)
    × (choose counted 80 (Choice (Charge 0 (plain_text (codes "a"))) (plain_text (codes "bb"))) 0 0
    ≡ chosen (Left ∷ []) 1)
    × (plain counted 80 (Charge 3 (Charge 4 (Choice (plain_text (codes "aaaa")) (plain_text (codes "bbb"))))) 0 0
    ≡ at_for 3 7 (Right ∷ []) ∷ [])
unfolding choose plain pareto undominated by_last placed
charges_are_added = (refl, refl, refl)

-- costs that are numbers of which the greatest counts
abbrev greatest : Costs ℕ
greatest = record {
  is_value = λ a. true;
  text = λ column len. len;
  newline = λ indentation. 10;
  charge = λ k. k;
  add = λ a b. max a b;
  le = nat_le;
}

-- a charge may make two costs equal, and then what ends further left is chosen
charge_makes_equal : choose greatest 9 (Charge 20 one_line_or_two) 0 0 ≡ chosen (Right ∷ []) 2
unfolding choose plain all_joined pareto undominated by_last placed
charge_makes_equal = refl

first_uncharged : choose greatest 9 one_line_or_two 0 0 ≡ chosen (Left ∷ []) 4
unfolding choose plain all_joined pareto undominated by_last placed
first_uncharged = refl

-- where nothing is within, a choice goes to its first side
first_side_by_parts : choose counted 3 (Choice (plain_text (codes "aaaaa")) (plain_text (codes "bbbb"))) 0 0
    ≡ chosen (Left ∷ []) 5
unfolding choose plain pareto undominated by_last placed
first_side_by_parts = refl

-- and a part of it that has something within goes to what is least
least_below : choose counted 3 (Concat (plain_text (codes "aaaa"))
    (Concat Newline (Choice (plain_text (codes "bbbb")) (plain_text (codes "b"))))) 0 0 ≡ chosen (Right ∷ []) 1
unfolding choose plain all_joined pareto undominated by_last placed
least_below = refl

-- a second part goes from where the first ends
from_where_the_first_ends : choose counted 3 (Concat (plain_text (codes "aaaa")) (Align Newline)) 0 0 ≡ chosen [] 4
unfolding choose plain all_joined pareto undominated by_last placed
from_where_the_first_ends = refl

past_the_width_there : choose counted 3
    (Concat (Only Right (plain_text (codes "aaaa"))) (Choice (plain_text (codes "bbbb")) Newline)) 0 0
    ≡ chosen (Right ∷ Left ∷ []) 8
unfolding choose plain all_joined pareto undominated by_last placed
past_the_width_there = refl

-- a charge goes by its part, a nesting and an alignment by their place
by_parts : (choose counted 3 (Charge 2 (Choice (plain_text (codes "aaaa")) (plain_text (codes "bbbb")))) 0 0
    ≡ chosen (Left ∷ []) 4) × (choose counted 3 (Nest 2 (Align (Nest 1 Newline))) 5 0 ≡ chosen [] 6)
    × (choose counted 3 (Reset (Nest 1 Newline)) 5 4 ≡ chosen [] 1)
unfolding choose plain pareto undominated by_last placed
by_parts = (refl, refl, refl)

ends_at_four : EachEndsBy 4 (plain counted 4 one_line_or_two 0 0)
unfolding EachEndsBy plain all_joined pareto undominated by_last placed
ends_at_four = (omega arith, (omega arith, tt))

not_by_three : EachEndsBy 3 (plain counted 4 one_line_or_two 0 0) → ⊥
unfolding EachEndsBy plain all_joined pareto undominated by_last placed
not_by_three h = let ends : 4 ≤ 3 = h.0 in omega arith
