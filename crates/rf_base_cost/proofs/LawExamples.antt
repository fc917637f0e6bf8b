-- Worked examples of ways of counting: for each law one that breaks it at the last column, or with the greatest charge,
-- for which it holds; and a lawful one that breaks all of them further right and with greater charges.
use Rattle.std.proofs.Common.{◌≡◌, ℕ, ◌+◌, ◌-◌, ◌^◌, ◌≤◌, min, max, Bool, true, false, [], ◌∷◌, refl, ◌⊎◌, inl, inr, arith}
use Rattle.std.specs.Prelude.{nat_le, nat_eq, ◌&&◌, if◌then◌else◌, IsTrue}
use Rattle.std.proofs.lemmas.Bool.Decides.{nat_tests}
use Rattle.std.proofs.lemmas.Bool.{cases_Bool}
use Rattle.rf_base_document.specs.Render.{Word, Break, Fee}
use Rattle.rf_base_cost.specs.Cost.{Costs, IsValue, AtMost, IsColumn, IsCharge, Lawful, PieceIsCounted}
use Rattle.rf_base_cost.specs.Pareto.{EachIsValue}
use Rattle.rf_base_cost.proofs.Dominance.{nat_le-true}

-- the last column for which the laws hold, and the greatest charge
last_column : IsColumn (2 ^ 27)
last_column = omega arith

no_further_column : IsColumn (2 ^ 27 + 1) → ⊥
no_further_column h = omega (arith, h)

greatest_charge : IsCharge 1000
greatest_charge = omega arith

no_greater_charge : IsCharge 1001 → ⊥
no_greater_charge h = omega (arith, h)

-- a word is counted that ends at the last column, a break that goes there, and the greatest charge
counted_to_the_last : PieceIsCounted (Word (2 ^ 27 - 4) (97 ∷ []) 4) × PieceIsCounted (Break (2 ^ 27))
    × PieceIsCounted (Fee 1000)
counted_to_the_last = (omega arith, omega arith, omega arith)

word_not_counted : PieceIsCounted (Word (2 ^ 27 - 3) (97 ∷ []) 4) → ⊥
word_not_counted h = omega (arith, h)

break_not_counted : PieceIsCounted (Break (2 ^ 27 + 1)) → ⊥
break_not_counted h = omega (arith, h)

fee_not_counted : PieceIsCounted (Fee 1001) → ⊥
fee_not_counted h = omega (arith, h)

-- x where the numbers are the same, and otherwise y
abbrev at : ℕ → ℕ → ℕ → ℕ → ℕ
at m n x y = if nat_eq m n then x else y

-- costs from 0 to 9, of which sums stop at 9: of texts, of breaks and of charges
abbrev counting : (ℕ → ℕ → ℕ) → (ℕ → ℕ) → (ℕ → ℕ) → Costs ℕ
counting text newline charge = record {
  is_value = λ a. nat_le a 9;
  text = text;
  newline = newline;
  charge = charge;
  add = λ a b. min 9 (a + b);
  le = nat_le;
}

-- costs of nothing, added and compared so
abbrev adding : (ℕ → ℕ → ℕ) → (ℕ → ℕ → Bool) → Costs ℕ
adding add le = record {
  is_value = λ a. nat_le a 9;
  text = λ column len. 0;
  newline = λ indentation. 0;
  charge = λ k. 0;
  add = add;
  le = le;
}

value_or_not : EachIsValue {H = ℕ} (adding (λ a b. a) nat_le)
    (record { last = 0; cost = 9; how = 0 } ∷ record { last = 0; cost = 10; how = 0 } ∷ []) → ⊥
unfolding EachIsValue
value_or_not h = let wrong : IsTrue (nat_le 10 9) = h.1.0 in cc

-- the text of the greatest length at the last column is no value, the break to it, the greatest charge, a sum
text_no_value : Lawful (counting (λ column len. at column (2 ^ 27) (at len (2 ^ 27) 10 0) 0) (λ i. 0) (λ k. 0)) → ⊥
text_no_value h = let wrong : IsTrue (nat_le 10 9) = h.text_is_value (2 ^ 27) (2 ^ 27) (omega arith) (omega arith) in cc

break_no_value : Lawful (counting (λ column len. 0) (λ i. at i (2 ^ 27) 10 0) (λ k. 0)) → ⊥
break_no_value h = let wrong : IsTrue (nat_le 10 9) = h.newline_is_value (2 ^ 27) (omega arith) in cc

charge_no_value : Lawful (counting (λ column len. 0) (λ i. 0) (λ k. at k 1000 10 0)) → ⊥
charge_no_value h = let wrong : IsTrue (nat_le 10 9) = h.charge_is_value 1000 (omega arith) in cc

sum_no_value : Lawful (adding (λ a b. a + b) nat_le) → ⊥
sum_no_value h = let wrong : IsTrue (nat_le 10 9) = h.add_is_value 9 1 refl refl in cc

-- L1: an order that isn't total, one that isn't transitive, one that isn't antisymmetric
not_total : Lawful (adding (λ a b. max a b) (λ a b. false)) → ⊥
not_total h = elim (h.total 0 0 refl refl) [ inl wrong ↦ cc | inr wrong ↦ cc ]

not_transitive : Lawful (adding (λ a b. max a b) (λ a b. nat_le a (b + 1))) → ⊥
not_transitive h = let wrong : IsTrue (nat_le 2 1) = h.transitive 2 1 0 refl refl refl refl refl in cc

not_antisymmetric : Lawful (adding (λ a b. max a b) (λ a b. true)) → ⊥
not_antisymmetric h = let wrong : ◌≡◌ {A = ℕ} 0 1 = h.antisymmetric 0 1 refl refl refl refl in omega (arith, wrong)

-- L2: an addition that isn't associative
not_associative : Lawful (adding (λ a b. a - b) nat_le) → ⊥
not_associative h = let wrong : ◌≡◌ {A = ℕ} 0 1 = h.associative 1 1 1 refl refl refl in omega (arith, wrong)

-- L3: additions that aren't monotone in the first place, and in the second
falls_in_first : Lawful (adding (λ a b. 9 - a) nat_le) → ⊥
falls_in_first h = let wrong : IsTrue (nat_le 9 8) = h.monotone 0 1 0 0 refl refl refl refl refl refl in cc

falls_in_second : Lawful (adding (λ a b. 9 - b) nat_le) → ⊥
falls_in_second h = let wrong : IsTrue (nat_le 9 8) = h.monotone 0 0 0 1 refl refl refl refl refl refl in cc

-- L4: no text that costs something at the last column, and additions from which it can be left out on one side alone
no_text_costs : Lawful (counting (λ column len. at column (2 ^ 27) (at len 0 1 0) 0) (λ i. 0) (λ k. 0)) → ⊥
no_text_costs h = let wrong : ◌≡◌ {A = ℕ} 1 0 = (h.no_text (2 ^ 27) (omega arith) 0 refl).0 in omega (arith, wrong)

left_out_behind : Lawful (adding (λ a b. a) nat_le) → ⊥
left_out_behind h = let wrong : ◌≡◌ {A = ℕ} 0 1 = (h.no_text 0 (omega arith) 1 refl).0 in omega (arith, wrong)

left_out_before : Lawful (adding (λ a b. b) nat_le) → ⊥
left_out_before h = let wrong : ◌≡◌ {A = ℕ} 0 1 = (h.no_text 0 (omega arith) 1 refl).1 in omega (arith, wrong)

-- L5: a text to the last column that costs more than its parts
more_than_parts : Lawful (counting (λ column len. at (column + len) (2 ^ 27) (at len 2 1 0) 0) (λ i. 0) (λ k. 0)) → ⊥
more_than_parts h = let wrong : ◌≡◌ {A = ℕ} 1 0 = h.parts (2 ^ 27 - 2) 1 1 (omega arith) in omega (arith, wrong)

-- L6: a text that costs less where it ends at the last column
cheaper_to_the_right : Lawful (counting (λ column len. at (column + len) (2 ^ 27) 0 (at len 1 1 0)) (λ i. 0) (λ k. 0)) →
    ⊥
cheaper_to_the_right h =
    let wrong : IsTrue (nat_le 1 0) = h.further_right (2 ^ 27 - 2) (2 ^ 27 - 1) 1 (omega arith) (omega arith) in cc

-- L7: a break that costs less to the last column
cheaper_deeper : Lawful (counting (λ column len. 0) (λ i. at i (2 ^ 27) 0 1) (λ k. 0)) → ⊥
cheaper_deeper h = let wrong : IsTrue (nat_le 1 0) = h.deeper (2 ^ 27 - 1) (2 ^ 27) (omega arith) (omega arith) in cc

-- L8: a charge of nothing that costs something, and a greatest charge that costs less
nothing_costs : Lawful (counting (λ column len. 0) (λ i. 0) (λ k. 1)) → ⊥
nothing_costs h = let wrong : ◌≡◌ {A = ℕ} 1 0 = (h.no_charge 0 refl).0 in omega (arith, wrong)

cheaper_charge : Lawful (counting (λ column len. 0) (λ i. 0) (λ k. at k 1000 0 (at k 0 0 1))) → ⊥
cheaper_charge h = let wrong : IsTrue (nat_le 1 0) = h.dearer 999 1000 (omega arith) (omega arith) in cc

-- costs that are lawful up to the last column and the greatest charge, and no further: a text that ends behind it costs
-- 1 where it begins at column 0, and otherwise nothing; what begins or is longer than that is no value, and neither are
-- breaks and charges; and nothing is at most what is no value
abbrev limited : Costs ℕ
limited = record {
  is_value = λ a. nat_le a 1;
  text =
      λ column len. if nat_le (column + len) (2 ^ 27) then 0
      else if nat_le column (2 ^ 27) && nat_le len (2 ^ 27) then at column 0 1 0 else 2;
  newline = λ indentation. if nat_le indentation (2 ^ 27) then 0 else 2;
  charge = λ k. if nat_le k 1000 then 0 else 2;
  add = λ a b. max a b;
  le = λ a b. nat_le a b && nat_le b 1;
}

text_within : (column len : ℕ) → column + len ≤ 2 ^ 27 → limited.text column len ≡ 0
text_within column len p = grind (arith, nat_tests)

text_counted : (column len : ℕ) → column ≤ 2 ^ 27 → len ≤ 2 ^ 27 → IsValue limited (limited.text column len)
text_counted column len p q = grind (arith, nat_tests)

break_within : (indentation : ℕ) → indentation ≤ 2 ^ 27 → limited.newline indentation ≡ 0
break_within indentation p = grind (arith, nat_tests)

charge_within : (k : ℕ) → k ≤ 1000 → limited.charge k ≡ 0
charge_within k p = grind (arith, nat_tests)

-- comparing values
at_most : (a b : ℕ) → AtMost limited a b → a ≤ b
at_most a b h = grind (arith, nat_tests)

is_at_most : (a b : ℕ) → a ≤ b → IsValue limited b → AtMost limited a b
is_at_most a b p v = grind (arith, nat_tests)

small : (a : ℕ) → IsValue limited a → a ≤ 1
small a v = grind (arith, nat_tests)

is_small : (a : ℕ) → a ≤ 1 → IsValue limited a
is_small a p = grind (arith, nat_tests)

is_total : (a b : ℕ) → IsValue limited a → IsValue limited b → AtMost limited a b ⊎ AtMost limited b a
is_total a b v w =
    elim (cases_Bool (nat_le a b)) [
      | inl p ↦ inl (is_at_most a b (nat_le-true a b p) w)
      | inr p ↦ let less : b ≤ a = grind (arith, nat_tests) in inr (is_at_most b a less v)
    ]

-- the same text is at most the one further right, where that ends within
none_at_most : (column other len : ℕ) → column ≤ other → other + len ≤ 2 ^ 27 →
    AtMost limited (limited.text column len) (limited.text other len)
none_at_most column other len p q =
    let first = text_within column len (omega arith) in
    let second = text_within other len q in
    is_at_most (limited.text column len) (limited.text other len) (omega (arith, first, second))
    (is_small (limited.text other len) (omega (arith, second)))

limited_is_lawful : Lawful limited
limited_is_lawful = record {
  text_is_value = text_counted;
  newline_is_value = λ i p. is_small (limited.newline i) (omega (arith, break_within i p));
  charge_is_value = λ k p. is_small (limited.charge k) (omega (arith, charge_within k p));
  add_is_value = λ a b v w. let one = small a v in let two = small b w in is_small (max a b) (omega arith);
  total = is_total;
  transitive = λ a b c u v w h k. is_at_most a c (omega (arith, at_most a b h, at_most b c k)) w;
  antisymmetric = λ a b v w h k. omega (arith, at_most a b h, at_most b a k);
  associative = λ a b c u v w. omega arith;
  monotone = λ a b c d s t u v h k.
      let one = small b t in
      let two = small d v in
      is_at_most (max a c) (max b d) (omega (arith, at_most a b h, at_most c d k)) (is_small (max b d) (omega arith));
  no_text = λ column p a v. let none = text_within column 0 (omega arith) in (omega (arith, none), omega (arith, none));
  parts = λ column a b p.
      omega (
        arith,
        text_within column (a + b) (omega arith),
        text_within column a (omega arith),
        text_within
            (column + a) b p,
      );
  further_right = none_at_most;
  deeper = λ i j p q.
      is_at_most (limited.newline i) (limited.newline j) (omega (arith, break_within i (omega arith), break_within j q))
      (is_small (limited.newline j) (omega (arith, break_within j q)));
  no_charge = λ a v. (omega arith, omega arith);
  dearer = λ k j p q.
      is_at_most (limited.charge k) (limited.charge j) (omega (arith, charge_within k (omega arith), charge_within j q))
      (is_small (limited.charge j) (omega (arith, charge_within j q)));
}
