-- Worked examples, each of which computes: a definition that changes its meaning fails here.
use Rattle.std.proofs.Common.{◌≡◌, ℕ, ◌+◌, ◌*◌, true, List, [], ◌∷◌, refl, inl, inr, Some, None, arith}
use Rattle.std.specs.Prelude.{nat_le}
use lib.Chars.{codes}
use Rattle.rf_base_document.specs.Render.{Word, Break, Fee}
use Rattle.rf_base_document.specs.declared.directions.Dir.{Dir}
use Rattle.rf_base_document.specs.declared.directions.Dir.TheVariants.{Left, Right}
use Rattle.rf_base_cost.specs.declared.measures.Measure.{Measure}
use Rattle.rf_base_cost.specs.Cost.{Costs, piece_cost, cost_after, cost_of, PiecesAreCounted}
use Rattle.rf_base_cost.specs.Pareto.{undominated, placed, by_last, pareto, IsMember, all_rewayed, marked, shifted, raised, all_marked, all_shifted, all_raised, NoneFurther, NeverRises}

-- costs that are numbers: a text costs its length, a break 10, a charge itself
abbrev counted : Costs ℕ
counted = record {
  is_value = λ a. true;
  text = λ column len. len;
  newline = λ indentation. 10;
  charge = λ k. k;
  add = λ a b. a + b;
  le = nat_le;
}

abbrev at_for : ℕ → ℕ → ℕ → Measure ℕ ℕ
at_for last cost way = record { last = last; cost = cost; how = way }

-- (7, 1) is cheaper than (7, 3) and ends before (9, 1); (5, 4) ends before all others
dominated_go : pareto counted (at_for 9 1 0 ∷ at_for 7 1 1 ∷ at_for 7 3 2 ∷ at_for 5 4 3 ∷ [])
    ≡ at_for 7 1 1 ∷ at_for 5 4 3 ∷ []
unfolding pareto undominated by_last placed
dominated_go = refl

-- of equal measures the first stays, wherever they stand
first_of_equals : pareto counted (at_for 4 9 0 ∷ at_for 7 1 1 ∷ at_for 7 1 2 ∷ []) ≡ at_for 7 1 1 ∷ at_for 4 9 0 ∷ []
unfolding pareto undominated by_last placed
first_of_equals = refl

-- a later measure that ends further left and costs no more makes an earlier one go
later_may_outdo : pareto counted (at_for 6 4 0 ∷ at_for 4 4 1 ∷ []) ≡ at_for 4 4 1 ∷ []
unfolding pareto undominated by_last placed
later_may_outdo = refl

-- dearer measures that end further left stay, and cheaper ones that end further right
both_stay : pareto counted (at_for 4 9 0 ∷ at_for 6 2 1 ∷ []) ≡ at_for 6 2 1 ∷ at_for 4 9 0 ∷ []
unfolding pareto undominated by_last placed
both_stay = refl

-- costs are added in order, those of charges too
sum_in_order : cost_of counted (Word 0 (97 ∷ 98 ∷ []) 2 ∷ Break 4 ∷ Fee 3 ∷ Word 4 (99 ∷ []) 1 ∷ []) ≡ Some 16
unfolding cost_after
sum_in_order = refl

no_piece : cost_of counted [] ≡ None
no_piece = refl

abbrev one : Measure ℕ (List Dir)
one = record { last = 5; cost = 2; how = Left ∷ [] }

abbrev other : Measure ℕ (List Dir)
other = record { last = 3; cost = 4; how = Right ∷ Left ∷ [] }

-- behind another, a measure ends where it ended, for both costs and by both choices
behind_another : (shifted counted other one ≡ record { last = 5; cost = 6; how = Right ∷ Left ∷ Left ∷ [] })
    × (marked Right one ≡ record { last = 5; cost = 2; how = Right ∷ Left ∷ [] })
    × (raised counted 7 one ≡ record { last = 5; cost = 9; how = Left ∷ [] })
behind_another = (refl, refl, refl)

-- costs that are added as digits: the first before the second. A text costs its column and, behind it, its length
abbrev digits : Costs ℕ
digits = record {
  is_value = λ a. true;
  text = λ column len. 10 * column + len;
  newline = λ indentation. indentation;
  charge = λ k. k;
  add = λ a b. 10 * a + b;
  le = nat_le;
}

text_by_column_and_length : piece_cost digits (Word 3 (codes "ab") 4) ≡ 34
text_by_column_and_length = refl

added_in_order : cost_of digits (Word 0 (codes "a") 1 ∷ Break 2 ∷ Fee 3 ∷ []) ≡ Some 123
unfolding cost_after
added_in_order = refl

shifted_in_order : all_shifted digits other (one ∷ one ∷ []) ≡ shifted digits other one ∷ shifted digits other one ∷ []
shifted_in_order = refl

left_cost_first : shifted digits other one ≡ record { last = 5; cost = 42; how = Right ∷ Left ∷ Left ∷ [] }
left_cost_first = refl

charge_first : all_raised digits 7 (one ∷ other ∷ [])
    ≡ record { last = 5; cost = 72; how = Left ∷ [] } ∷ record { last = 3; cost = 74; how = Right ∷ Left ∷ [] } ∷ []
charge_first = refl

all_marked_left : all_marked Left (one ∷ other ∷ []) ≡ marked Left one ∷ marked Left other ∷ []
all_marked_left = refl

choices_seen_through : all_rewayed (λ (n : ℕ). n + 1) (at_for 9 8 7 ∷ at_for 6 5 4 ∷ [])
    ≡ at_for 9 8 8 ∷ at_for 6 5 5 ∷ []
choices_seen_through = refl

-- the first and the last are members, and nothing else is
first_and_last : IsMember {A = ℕ} 4 (4 ∷ 5 ∷ []) × IsMember {A = ℕ} 5 (4 ∷ 5 ∷ [])
unfolding IsMember
first_and_last = (inl refl, inr (inl refl))

no_other : IsMember {A = ℕ} 6 (4 ∷ 5 ∷ []) → ⊥
unfolding IsMember
no_other (inl e) = omega (arith, e)
no_other (inr (inl e)) = omega (arith, e)
no_other (inr (inr h)) = h

-- last columns that stay the same don't rise
equals_never_rise : NeverRises (at_for 5 0 0 ∷ at_for 5 0 1 ∷ at_for 3 0 2 ∷ [])
unfolding NeverRises NoneFurther
equals_never_rise = ((omega arith, (omega arith, tt)), ((omega arith, tt), (tt, tt)))

later_rises : NeverRises (at_for 5 0 0 ∷ at_for 3 0 1 ∷ at_for 4 0 2 ∷ []) → ⊥
unfolding NeverRises NoneFurther
later_rises h = omega (arith, h.1.0.0)

last_rises : NoneFurther (at_for 5 0 0) (at_for 3 0 1 ∷ at_for 6 0 2 ∷ []) → ⊥
unfolding NoneFurther
last_rises h = omega (arith, h.1.0)

-- each piece is counted, the last one too
one_not_counted : PiecesAreCounted (Break 0 ∷ Fee 1001 ∷ []) → ⊥
unfolding PiecesAreCounted
one_not_counted h = omega (arith, h.1.0)
