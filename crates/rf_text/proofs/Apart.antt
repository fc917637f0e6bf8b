-- Where two texts part, told byte by byte and told by their lines.
use Rattle.std.proofs.Common.{◌≡◌, ℕ, ◌+◌, ◌<◌, ◌≤◌, false, cond, ◌==◌, List, [], ◌∷◌, length, drop, get_or, Option, Some, None, refl, sym, ◌∙◌, inl, inr, arith, eq-eqb}
use Rattle.std.proofs.lemmas.Bool.{cases_Bool, false≢true}
use Rattle.std.proofs.lemmas.Bool.Decides.{nat_tests, Decides-eqb}
use Rattle.std.proofs.lemmas.List.{drop_more, drop_all}
use Rattle.rf_text.specs.Lines.{on_first, lines_of, line_apart, first_difference, line_of_next}

-- the number of the line at which the two part, where their first bytes stand on line n
unfoldable pub apart_from : ℕ → List ℕ → List ℕ → Option ℕ
apart_from n [] [] = None
apart_from n [] (y ∷ b) = Some (line_of_next n y)
apart_from n (x ∷ a) [] = Some (line_of_next n x)
apart_from n (x ∷ a) (y ∷ b) = cond (x == y) (apart_from (line_of_next n x) a b) (Some n)

-- the lines have a first one
first_line : (a : List ℕ) → (line : List ℕ) × ((lines : List (List ℕ)) × (lines_of a ≡ line ∷ lines))
unfolding lines_of
first_line [] = ([], ([], refl))
first_line (x ∷ a) =
    elim (cases_Bool (x == 10)) [
      | inl feed ↦ ([], (lines_of a, rw feed refl))
      | inr other ↦
          let r = first_line a in
          (x ∷ r.0, (r.1.0, rw (other, r.1.1) refl))
    ]

-- lines with the same byte at the front part where they part without it
apart-on_first : (n x : ℕ) (a b : List ℕ) → line_apart n (on_first x (lines_of a)) (on_first x (lines_of b)) ≡ line_apart n (lines_of a) (lines_of b)
unfolding line_apart
apart-on_first n x a b =
    let f = first_line a in
    let g = first_line b in
    rw (f.1.1, g.1.1, eq-eqb x x refl)

-- lines with other bytes at the front part there
apart-other : (n x y : ℕ) (a b : List ℕ) → (x == y) ≡ false → line_apart n (lines_of (x ∷ a)) (lines_of (y ∷ b)) ≡ Some n
unfolding line_apart lines_of
apart-other n x y a b other =
    let f = first_line a in
    let g = first_line b in
    elim (cases_Bool (x == 10)) [
      | inl feed ↦
          elim (cases_Bool (y == 10)) [
            | inl both ↦ absurd (false≢true (sym other ∙ eq-eqb x y ((Decides-eqb x 10).0 feed ∙ sym ((Decides-eqb y 10).0 both))))
            | inr more ↦ rw (feed, more, g.1.1)
          ]
      | inr letter ↦
          elim (cases_Bool (y == 10)) [
            | inl ended ↦ rw (letter, ended, f.1.1)
            | inr more ↦ rw (letter, more, f.1.1, g.1.1, other)
          ]
    ]

-- a text and one that goes on with a byte part where that byte's line ends, or behind it
apart-end : (n y : ℕ) (b : List ℕ) → line_apart n (lines_of []) (lines_of (y ∷ b)) ≡ Some (line_of_next n y)
unfolding line_apart lines_of
apart-end n y b =
    let g = first_line b in
    elim (cases_Bool (y == 10)) [
      | inl feed ↦ rw (feed, g.1.1)
      | inr letter ↦ rw (letter, g.1.1)
    ]

apart-start : (n x : ℕ) (a : List ℕ) → line_apart n (lines_of (x ∷ a)) (lines_of []) ≡ Some (line_of_next n x)
unfolding line_apart lines_of
apart-start n x a =
    let f = first_line a in
    elim (cases_Bool (x == 10)) [
      | inl feed ↦ rw (feed, f.1.1)
      | inr letter ↦ rw (letter, f.1.1)
    ]

-- lines that begin with the same byte part where they part behind it
apart-same : (n x : ℕ) (a b : List ℕ) → line_apart n (lines_of (x ∷ a)) (lines_of (x ∷ b)) ≡ line_apart (line_of_next n x) (lines_of a) (lines_of b)
unfolding lines_of line_apart
apart-same n x a b =
    elim (cases_Bool (x == 10)) [
      | inl feed ↦ rw feed
      | inr letter ↦ rw letter (apart-on_first n x a b)
    ]

-- nothing and nothing are the same
apart-nothing : (n : ℕ) → None ≡ line_apart n (lines_of []) (lines_of [])
unfolding line_apart lines_of
apart-nothing n = refl

-- told by lines it is the same
pub apart_by_lines : (n : ℕ) (a b : List ℕ) → apart_from n a b ≡ line_apart n (lines_of a) (lines_of b)
unfolding apart_from
apart_by_lines n [] [] = apart-nothing n
apart_by_lines n [] (y ∷ b) = sym (apart-end n y b)
apart_by_lines n (x ∷ a) [] = sym (apart-start n x a)
apart_by_lines n (x ∷ a) (y ∷ b) =
    elim (cases_Bool (x == y)) [
      | inl same ↦ rw (same, ← (Decides-eqb x y).0 same) (apart_by_lines (line_of_next n x) a b ∙ sym (apart-same n x a b))
      | inr other ↦ rw other (sym (apart-other n x y a b other))
    ]

-- no line is found where the two are the same, and only there
pub apart_none : (n : ℕ) (a b : List ℕ) → apart_from n a b ≡ None → a ≡ b
unfolding apart_from
apart_none n [] [] none = refl
apart_none n [] (y ∷ b) none = absurd (cc)
apart_none n (x ∷ a) [] none = absurd (cc)
apart_none n (x ∷ a) (y ∷ b) none =
    elim (cases_Bool (x == y)) [
      | inl same ↦
          let rest : a ≡ b = apart_none (line_of_next n x) a b (rw same at none) in
          rw ((Decides-eqb x y).0 same, rest)
      | inr other ↦ let bad : Some n ≡ None = rw other at none in absurd (cc)
    ]

-- a turn of the walk: both have a byte, or one of them has ended, or both have
pub turn-both : (n i : ℕ) (a b : List ℕ) → i < length a → i < length b
    → apart_from n (drop i a) (drop i b)
    ≡ cond (get_or a i 0 == get_or b i 0) (apart_from (line_of_next n (get_or a i 0)) (drop (i + 1) a) (drop (i + 1) b)) (Some n)
unfolding apart_from
turn-both n i a b here there = rw (drop_more a i 0 here, drop_more b i 0 there)

pub turn-first : (n i : ℕ) (a b : List ℕ) → i < length a → length b ≤ i → apart_from n (drop i a) (drop i b) ≡ Some (line_of_next n (get_or a i 0))
unfolding apart_from
turn-first n i a b here gone = rw (drop_more a i 0 here, drop_all i b gone)

pub turn-second : (n i : ℕ) (a b : List ℕ) → length a ≤ i → i < length b → apart_from n (drop i a) (drop i b) ≡ Some (line_of_next n (get_or b i 0))
unfolding apart_from
turn-second n i a b gone there = rw (drop_all i a gone, drop_more b i 0 there)

pub turn-none : (n i : ℕ) (a b : List ℕ) → length a ≤ i → length b ≤ i → apart_from n (drop i a) (drop i b) ≡ None
unfolding apart_from
turn-none n i a b gone over = rw (drop_all i a gone, drop_all i b over)

-- what is told byte by byte is the first difference
pub first_difference-from : (a b : List ℕ) → apart_from 1 a b ≡ first_difference a b
unfolding first_difference
first_difference-from a b = apart_by_lines 1 a b

-- bytes that aren't the same are told apart
pub other_byte : (x y : ℕ) → (x ≡ y → ⊥) → (x == y) ≡ false
other_byte x y apart = grind (arith, nat_tests)
