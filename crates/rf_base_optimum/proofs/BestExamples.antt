-- Worked examples of what is best, and of greater charges: a definition that changes its meaning fails here.
use Rattle.std.proofs.Common.{◌≡◌, ℕ, ◌+◌, ◌-◌, ◌<◌, ◌≤◌, true, false, List, [], ◌∷◌, refl, ◌∙◌, sym, ap, subst, inl, inr, Some, None, arith}
use Rattle.std.specs.Prelude.{nat_le}
use Rattle.std.proofs.lemmas.Bool.Decides.{nat_tests}
use lib.Chars.{codes}
use Rattle.rf_base_document.specs.declared.directions.Dir.{Dir}
use Rattle.rf_base_document.specs.declared.directions.Dir.TheVariants.{Left, Right}
use Rattle.rf_base_document.specs.Document.{Doc, Text, Newline, Hard, Concat, Flatten, Choice, Charge, plain_text}
use Rattle.rf_base_document.specs.Render.{Piece, Word, Laid, laid, render, EachEndsWithin}
use Rattle.rf_base_document.specs.Picks.{Picks, LaidOutBy}
use Rattle.rf_base_document.proofs.Render.{followed_by-is}
use Rattle.rf_base_document.proofs.Simple.{render_same}
use Rattle.rf_base_cost.specs.Cost.{Costs, AtMost, cost_after}
use Rattle.rf_base_optimum.specs.Best.{WithinBy, HasWithin, CostsAtMost, Best}
use Rattle.rf_base_optimum.specs.Dearer.{IsDearer}
use Rattle.rf_base_optimum.proofs.Shift.{ends-apart}
use Rattle.rf_base_optimum.proofs.Dearer.{laid_one}

abbrev four : Doc
four = plain_text (codes "aaaa")

abbrev five : Doc
five = plain_text (codes "bbbbb")

abbrev one : Doc
one = plain_text (codes "b")

-- a hard newline that is flat has no layout
flat_hard : (cs : List Dir) (whole : Laid) → LaidOutBy (Flatten Hard) cs 0 0 false whole → ⊥
unfolding Picks render
flat_hard cs whole h =
    let is : None ≡ Some whole =
    sym (ap (λ (x : Doc). render x 0 0 false) (h.1.1 ∙ ap (λ (x : Doc). Flatten x) h.1.2.1)) ∙ h.2 in cc

-- a text that is longer than the width isn't within it
pub text_past : (w : ℕ) (s : List ℕ) (len : ℕ) (cs : List Dir) (whole : Laid) → w < len →
    WithinBy w (Text s len) cs 0 0 false whole → ⊥
unfolding Picks render EachEndsWithin
text_past w s len cs whole less h =
    let is : Some (laid (Word 0 s len ∷ []) (0 + len)) ≡ Some whole =
    sym (ap (λ (x : Doc). render x 0 0 false) h.0.1.1) ∙ h.0.2 in
    let same : whole ≡ laid (Word 0 s len ∷ []) (0 + len) = cc in
    let ends : 0 + len ≤ w = (subst (λ (x : Laid). EachEndsWithin w x.pieces) same h.1.1).0 in
    omega arith

pub text_laid : (s : List ℕ) (len : ℕ) → LaidOutBy (Text s len) [] 0 0 false (laid (Word 0 s len ∷ []) (0 + len))
unfolding Picks render
text_laid s len = (Text s len, (refl, refl), refl)

text_best : {C : Type 0} (costs : Costs C) (w : ℕ) (s : List ℕ) (len : ℕ) → w < len →
    Best costs w (Text s len) 0 0 false []
unfolding Best
text_best costs w s len less =
    ((laid (Word 0 s len ∷ []) (0 + len), text_laid s len), inr (λ has. text_past w s len has.0 has.1 less has.2, refl))

-- where nothing is within and the first side has no layout, the second is best
second_side_alone : {C : Type 0} (costs : Costs C) → Best costs 3 (Choice (Flatten Hard) four) 0 0 false (Right ∷ [])
unfolding Best Picks
second_side_alone costs =
    let laid_out = text_laid (codes "aaaa") 4 in (
      (laid (Word 0 (codes "aaaa") 4 ∷ []) 4, (laid_out.0, ([], inr (refl, laid_out.1)), laid_out.2)),
      inr (
        λ has. elim has.2.0.1.1 [
          | inl k ↦ flat_hard has.2.0.1.0 has.1 (has.2.0.0, k.1, has.2.0.2)
          | inr k ↦ text_past 3 (codes "aaaa") 4 has.2.0.1.0 has.1 (omega arith) ((has.2.0.0, k.1, has.2.0.2), has.2.1)
        ],
        ([], inr (λ has. flat_hard has.0 has.1 has.2, refl, text_best costs 3 (codes "aaaa") 4 (omega arith))),
      ),
    )

-- a side without a layout is never best
no_layout_no_best : {C : Type 0} (costs : Costs C) → Best costs 3 (Choice (Flatten Hard) four) 0 0 false (Left ∷ []) → ⊥
unfolding Best Picks
no_layout_no_best costs h =
    elim h.0.1.1.1 [
      | inl k ↦ flat_hard h.0.1.1.0 h.0.0 (h.0.1.0, k.1, h.0.1.2)
      | inr k ↦ let same : Left ≡ Right = cc in cc
    ]

-- where nothing is within and both sides have a layout, the first is best and the second isn't
first_side_of_two : {C : Type 0} (costs : Costs C) → Best costs 3 (Choice five four) 0 0 false (Left ∷ [])
unfolding Best Picks
first_side_of_two costs =
    let laid_out = text_laid (codes "bbbbb") 5 in (
      (laid (Word 0 (codes "bbbbb") 5 ∷ []) 5, (laid_out.0, ([], inl (refl, laid_out.1)), laid_out.2)),
      inr (
        λ has. elim has.2.0.1.1 [
          | inl k ↦ text_past 3 (codes "bbbbb") 5 has.2.0.1.0 has.1 (omega arith) ((has.2.0.0, k.1, has.2.0.2), has.2.1)
          | inr k ↦ text_past 3 (codes "aaaa") 4 has.2.0.1.0 has.1 (omega arith) ((has.2.0.0, k.1, has.2.0.2), has.2.1)
        ],
        (
          [],
          inl (
            ([], laid (Word 0 (codes "bbbbb") 5 ∷ []) 5, laid_out),
            refl,
            text_best costs 3 (codes "bbbbb") 5
                (omega arith),
          ),
        ),
      ),
    )

not_the_second : {C : Type 0} (costs : Costs C) → Best costs 3 (Choice five four) 0 0 false (Right ∷ []) → ⊥
unfolding Best Picks
not_the_second costs h =
    elim h.1 [
      | inl least ↦ elim least.1.0.1.1 [
        | inl k ↦ let same : Right ≡ Left = cc in cc
        | inr k ↦
            text_past 3 (codes "aaaa") 4 least.1.0.1.0 least.0 (omega arith) (
              (least.1.0.0, k.1, least.1.0.2),
              least.1.1,
            )
      ]
      | inr parts ↦ elim parts.1.1 [
        | inl l ↦ let same : Right ≡ Left = cc in cc
        | inr r ↦ r.0 ([], laid (Word 0 (codes "bbbbb") 5 ∷ []) 5, text_laid (codes "bbbbb") 5)
      ]
    ]

-- where a side is within, one that isn't is not best
one_within : HasWithin 3 (Choice four one) 0 0 false
unfolding Picks EachEndsWithin
one_within =
    let laid_out = text_laid (codes "b") 1 in (
      Right
          ∷ [],
      laid (Word 0 (codes "b") 1 ∷ []) 1,
      (
        (laid_out.0, ([], inr (refl, laid_out.1)), laid_out.2),
        (omega arith, (omega arith, tt)),
      ),
    )

not_past_the_width : {C : Type 0} (costs : Costs C) → Best costs 3 (Choice four one) 0 0 false (Left ∷ []) → ⊥
unfolding Best Picks
not_past_the_width costs h =
    elim h.1 [
      | inl least ↦ elim least.1.0.1.1 [
        | inl k ↦
            text_past 3 (codes "aaaa") 4 least.1.0.1.0 least.0 (omega arith) (
              (least.1.0.0, k.1, least.1.0.2),
              least.1.1,
            )
        | inr k ↦ let same : Left ≡ Right = cc in cc
      ]
      | inr parts ↦ parts.0 one_within
    ]

-- a second part goes from where the first ends: past the width, and not where its own break would be within
past_first : (b : Doc) (cs : List Dir) (whole : Laid) → WithinBy 3 (Concat four b) cs 0 0 false whole → ⊥
unfolding Picks render
past_first b cs whole h =
    let picks = h.0.1 in
    let found = followed_by-is (render picks.2 0 0 false) (λ last. render picks.3 last 0 false) whole
    (render_same h.0.0 (Concat picks.2 picks.3) 0 0 false whole picks.5 h.0.2) in
    let apart =
    ends-apart 3 found.0.pieces found.1.pieces (subst (λ (ps : List Piece). EachEndsWithin 3 ps) found.4 h.1.1) in
    text_past 3 (codes "aaaa") 4 picks.0 found.0 (omega arith) ((picks.2, picks.6, found.2), (omega arith, apart.0))

from_where_the_first_ends : {C : Type 0} (costs : Costs C) →
    Best costs 3 (Concat four (Choice four Newline)) 0 0 false (Left ∷ [])
unfolding Best Picks render
from_where_the_first_ends costs =
    let first : Laid = laid (Word 0 (codes "aaaa") 4 ∷ []) 4 in
    let second : Laid = laid (Word 4 (codes "aaaa") 4 ∷ []) 8 in
    let past : 3 < 4 = omega arith in (
      (
        laid (Word 0 (codes "aaaa") 4 ∷ Word 4 (codes "aaaa") 4 ∷ []) 8,
        (Concat four four, ([], Left ∷ [], four, four, refl, refl, (refl, refl), ([], inl (refl, (refl, refl)))), refl),
      ),
      inr (
        λ has. past_first (Choice four Newline) has.0 has.1 has.2,
        (
          [],
          Left ∷ [],
          first,
          refl,
          text_best costs 3 (codes "aaaa") 4 past,
          text_laid (codes "aaaa") 4,
          (
            (second, (four, ([], inl (refl, (refl, refl))), refl)),
            inr (
              λ has. let begins : 4 ≤ 3 = has.2.1.0 in omega arith,
              (
                [],
                inl (
                  ([], first, text_laid (codes "aaaa") 4),
                  refl,
                  (
                    (second, (four, (refl, refl), refl)),
                    inr
                        (λ has. let begins : 4 ≤ 3 = has.2.1.0 in omega arith, refl),
                  ),
                ),
              ),
            ),
          ),
        ),
      ),
    )

-- of two sides within, one that costs more is not best, and one that costs nothing is
abbrev by_length : Costs ℕ
by_length = record {
  is_value = λ a. true;
  text = λ column len. len - 1;
  newline = λ indentation. 1;
  charge = λ k. k;
  add = λ a b. a + b;
  le = nat_le;
}

second_within : WithinBy 9 (Choice four one) (Right ∷ []) 0 0 false (laid (Word 0 (codes "b") 1 ∷ []) 1)
unfolding Picks EachEndsWithin
second_within =
    let laid_out = text_laid (codes "b") 1 in
    ((laid_out.0, ([], inr (refl, laid_out.1)), laid_out.2), (omega arith, (omega arith, tt)))

at_least_nothing : (b : ℕ) → AtMost by_length 0 b
at_least_nothing b = grind (arith, nat_tests)

costs_nothing : Best by_length 9 (Choice four one) 0 0 false (Right ∷ [])
unfolding Best cost_after
costs_nothing = (
  (laid (Word 0 (codes "b") 1 ∷ []) 1, second_within.0),
  inl (
    laid (Word 0 (codes "b") 1 ∷ []) 1,
    second_within,
    λ others other within a b e f. subst (λ (n : ℕ). AtMost by_length n b) (some_same 0 a e) (at_least_nothing b),
  ),
)
  where
    some_same : (a b : ℕ) → Some a ≡ Some b → a ≡ b
    some_same a b e = cc

costs_more : Best by_length 9 (Choice four one) 0 0 false (Left ∷ []) → ⊥
unfolding Best Picks cost_after
costs_more h =
    let laid_out = text_laid (codes "aaaa") 4 in
    let first : Laid = laid (Word 0 (codes "aaaa") 4 ∷ []) 4 in
    elim h.1 [
      | inl least ↦
          let same : least.0 ≡ first =
          laid_one (Choice four one) (Left ∷ []) 0 0 false least.0 first least.1.0 (
            laid_out.0,
            ([], inl (refl, laid_out.1)),
            laid_out.2,
          ) in
          let all =
          subst (λ (x : Laid). CostsAtMost by_length x.pieces (Word 0 (codes "b") 1 ∷ [])) same
          (least.2 (Right ∷ []) (laid (Word 0 (codes "b") 1 ∷ []) 1) second_within) in
          let less : false ≡ true = all 3 0 refl refl in
          cc
      | inr parts ↦ parts.0 (Right ∷ [], laid (Word 0 (codes "b") 1 ∷ []) 1, second_within)
    ]

-- a greater charge is dearer, a smaller one isn't, and nothing else may differ
greater_charge : IsDearer (Concat (Charge 1 four) one) (Concat (Charge 2 four) one)
unfolding IsDearer
greater_charge = (Charge 2 four, one, refl, (2, four, refl, omega arith, refl), refl)

smaller_charge : IsDearer (Charge 2 four) (Charge 1 four) → ⊥
unfolding IsDearer
smaller_charge h =
    let is : h.0 ≡ 1 = charge_same h.0 1 h.1 four (sym h.2) in
    let less : 2 ≤ h.0 = h.3 in
    omega arith
  where
    charge_same : (k n : ℕ) (a b : Doc) → Charge k a ≡ Charge n b → k ≡ n
    charge_same k n a b e = cc

other_text : IsDearer (Charge 1 four) (Charge 2 five) → ⊥
unfolding IsDearer
other_text h =
    let same : five ≡ four = sym (part_same h.0 2 h.1 five (sym h.2)) ∙ h.4 in
    let columns : 5 ≡ 4 = columns_same (codes "bbbbb") (codes "aaaa") 5 4 same in
    omega (arith, columns)
  where
    part_same : (k n : ℕ) (a b : Doc) → Charge k a ≡ Charge n b → a ≡ b
    part_same k n a b e = cc

    columns_same : (s t : List ℕ) (m n : ℕ) → Text s m ≡ Text t n → m ≡ n
    columns_same s t m n e = cc
