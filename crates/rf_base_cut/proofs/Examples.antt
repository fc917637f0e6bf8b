-- Worked examples, each of which computes: a definition that changes its meaning fails here.
use Rattle.std.proofs.Common.{◌≡◌, ℕ, ◌+◌, ◌-◌, true, false, List, [], ◌∷◌, refl, inl, inr, Some, None}
use Rattle.std.specs.Prelude.{nat_le}
use lib.Chars.{codes}
use Rattle.rf_base_document.specs.declared.directions.Dir.{Dir}
use Rattle.rf_base_document.specs.declared.directions.Dir.TheVariants.{Left, Right}
use Rattle.rf_base_document.specs.Document.{Doc, Text, Newline, Concat, Nest, Align, Reset, Choice, Only, Charge, plain_text}
use Rattle.rf_base_cost.specs.declared.measures.Measure.{Measure}
use Rattle.rf_base_cost.specs.Cost.{Costs}
use Rattle.rf_base_cost.specs.Pareto.{undominated, placed, by_last, pareto}
use Rattle.rf_base_optimum.specs.Plain.{all_joined, plain}
use Rattle.rf_base_cut.specs.Cut.{cut, after, turned, extended}
use Rattle.rf_base_cut.specs.OneLine.{first_choices, flat_length, is_never_free, OneLine}
use Rattle.rf_base_cut.specs.Indifferent.{begins_with_break, indifferent}

-- costs that are numbers: each column past 3 costs 1, a break 10 and its indentation, a charge itself
abbrev pub counted : Costs ℕ
counted = record {
  is_value = λ a. true;
  text = λ column len. (column + len - 3) - (column - 3);
  newline = λ indentation. 10 + indentation;
  charge = λ k. k;
  add = λ a b. a + b;
  le = nat_le;
}

abbrev pub at_for : ℕ → ℕ → List Dir → Measure ℕ (List Dir)
at_for last cost choices = record { last = last; cost = cost; how = choices }

-- measures that end at 6, 4 and 2
abbrev three : List (Measure ℕ (List Dir))
three = at_for 6 0 [] ∷ at_for 4 1 [] ∷ at_for 2 2 [] ∷ []

-- the first that ends by the column is the last that stays
cut_by_column : (cut 4 three ≡ at_for 6 0 [] ∷ at_for 4 1 [] ∷ []) × (cut 3 three ≡ three)
    × (cut 6 three ≡ at_for 6 0 [] ∷ []) × (cut 5 three ≡ at_for 6 0 [] ∷ at_for 4 1 [] ∷ [])
unfolding cut
cut_by_column = (refl, refl, refl, refl)

-- where none ends by the column all stay
none_ends_there : cut 1 three ≡ three
unfolding cut
none_ends_there = refl

-- `aaaa` on one line, or `a` and under it `bb`
abbrev pub one_line_or_two : Doc
one_line_or_two =
    Choice (plain_text (codes "aaaa")) (Concat (plain_text (codes "a")) (Concat Newline (plain_text (codes "bb"))))

-- behind a measure at column 1: its cost and its choices come first
both_behind : after counted 5 one_line_or_two (at_for 1 7 (Right ∷ [])) 0 4
    ≡ at_for 5 9 (Right ∷ Left ∷ []) ∷ at_for 2 17 (Right ∷ Right ∷ []) ∷ []
unfolding after cut plain all_joined pareto undominated by_last placed
both_behind = refl

one_behind : after counted 5 one_line_or_two (at_for 1 7 (Right ∷ [])) 0 5 ≡ at_for 5 9 (Right ∷ Left ∷ []) ∷ []
unfolding after cut plain all_joined pareto undominated by_last placed
one_behind = refl

-- the direction stands behind the choices, what the next piece costs behind the cost
turned_left : turned Left (at_for 1 7 (Right ∷ [])) ≡ at_for 1 7 (Right ∷ Left ∷ [])
turned_left = refl

extended_for_five : extended counted (at_for 1 7 (Right ∷ [])) 4 5 ≡ at_for 4 12 (Right ∷ [])
extended_for_five = refl

-- both sides of a choice have to begin with a break, and the first part of a concatenation
begun_with_breaks : (begins_with_break (Choice Newline (Nest 2 (Concat Newline (plain_text [])))) ≡ true)
    × (begins_with_break (Choice (plain_text []) Newline) ≡ false)
    × (begins_with_break (Choice Newline (plain_text [])) ≡ false)
    × (begins_with_break (Concat (plain_text []) Newline) ≡ false)
unfolding begins_with_break
begun_with_breaks = (refl, refl, refl, refl)

-- a break below an alignment goes where the column is, one below a reset goes to the margin
where_breaks_go : (begins_with_break (Align Newline) ≡ false)
    × (plain counted 9 (Align Newline) 2 0 ≡ at_for 2 12 [] ∷ [])
    × (plain counted 9 (Align Newline) 3 0 ≡ at_for 3 13 [] ∷ [])
    × (begins_with_break (Reset (Charge 3 (Only Right Newline))) ≡ true)
unfolding begins_with_break plain
where_breaks_go = (refl, refl, refl, refl)

-- a text of length 2 that is cut at 5 and free up to 4 may begin at 2; one that is longer cuts nothing off
cuts_before : (indifferent 9 4 (plain_text (codes "bb")) 5 ≡ 2) × (indifferent 9 4 (plain_text (codes "bb")) 3 ≡ 1)
    × (indifferent 9 4 (Text [] 5) 5 ≡ 0) × (indifferent 9 4 (Concat (Text [] 1) (Only Left (Text [] 2))) 5 ≡ 1)
    × (indifferent 9 4 (Nest 2 Newline) 5 ≡ 9) × (indifferent 9 4 (Align Newline) 5 ≡ 0)
unfolding flat_length begins_with_break
cuts_before = (refl, refl, refl, refl, refl, refl)

-- texts of one length in a row, of which the choices take the first sides
abbrev flat : Doc
flat = Nest 3 (Concat (Text [] 1) (Choice (Text [] 2) (Only Left (Align (Concat (Text [] 1) (Text [] 1))))))

flat_is_three_long : flat_length flat ≡ Some 3
unfolding flat_length
flat_is_three_long = refl

flat_by_first : first_choices (Concat (Only Right flat) flat) ≡ Right ∷ Left ∷ Left ∷ []
unfolding first_choices
flat_by_first = refl

-- it is one text, also where that costs something
flat_ends_at_five : plain counted 9 flat 2 0 ≡ at_for 5 2 (Left ∷ []) ∷ []
unfolding plain all_joined pareto undominated by_last placed
flat_ends_at_five = refl

-- sides that aren't equally long, a break and a charge have no length
without_length : (flat_length (Choice (Text [] 2) (Text [] 1)) ≡ None)
    × (flat_length (Concat (Text [] 2) Newline) ≡ None) × (flat_length (Charge 1 (Text [] 2)) ≡ None)
unfolding flat_length
without_length = (refl, refl, refl)

-- of a row one part has to have a break or a charge, of a choice both sides; a charge of 0 is none
never_free : (is_never_free (Concat (Text [] 1) (Choice Newline (Charge 1 (Text [] 1)))) ≡ true)
    × (is_never_free (Choice Newline (Text [] 1)) ≡ false) × (is_never_free (Charge 0 (Text [] 1)) ≡ false)
unfolding is_never_free
never_free = (refl, refl, refl)

-- two parts of 2 columns and 1, the second below the first, or behind it, or flat
abbrev three_ways : Doc
three_ways =
    Choice (Concat (Text [] 2) (Concat Newline (Text [] 1))) (Choice (Concat (Text [] 2) (Text [] 1)) (Text [] 3))

-- on one line it is 3 columns long by the second way
second_way_on_one_line : OneLine three_ways 3 (Right ∷ Left ∷ [])
unfolding OneLine is_never_free
second_way_on_one_line = (
  Left ∷ [],
  inr (
    refl,
    refl,
    ([], inl (refl, (2, 1, [], [], refl, refl, (refl, refl), (refl, refl)), inr ([], (refl, refl)))),
  ),
)

-- so, as that costs nothing, it is first, by those choices
on_one_line_is_first : plain counted 9 three_ways 0 0 ≡ at_for 3 0 (Right ∷ Left ∷ []) ∷ at_for 1 10 (Left ∷ []) ∷ []
unfolding plain all_joined pareto undominated by_last placed
on_one_line_is_first = refl

-- a side that is charged is no way on one line, whether it is 5 columns long or not
charged_side_is_none : (how : List Dir) → OneLine (Charge 1 (Text [] 5)) 5 how → ⊥
unfolding OneLine
charged_side_is_none how h = h
