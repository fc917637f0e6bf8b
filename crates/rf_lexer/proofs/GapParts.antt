-- A gap at the front of a text, character by character.
use Rattle.std.proofs.Common.{◌≡◌, ℕ, ◌+◌, true, false, cond, List, [], ◌∷◌, ◌++◌, ◌==◌, ◌≤◌, nat_lt, refl, ap, sym, ◌∙◌, arith, subst}
use Rattle.std.proofs.lemmas.List.Sums.{sum_by-cons}
use Rattle.std.proofs.lemmas.Bool.{ne_eqb}
use Rattle.std.proofs.lemmas.Bool.Decides.{nat_tests}
use Rattle.std.specs.Char.{is_ascii_graphic}
use Rattle.rf_base_grammar.specs.Characters.{Each, is_white}
use Rattle.rf_base_grammar.specs.LanguageLine.{is_blank}
use Rattle.rf_lexer.specs.Classes.{IsBehindMarks}
use Rattle.rf_lexer.specs.Gaps.{EndsOrBegins, EndsGap}

-- no gap stands before the end, or before what is no white space
pub no_gap : (rest : List ℕ) → EndsOrBegins rest → EndsGap rest 0 rest
no_gap rest stops = record { gap = []; whole = refl; white = tt; feeds_are = refl; stops = stops }

-- the same, where a gap may stand further before
pub gap_here : (feeds : ℕ) (text rest : List ℕ) → ((n : ℕ) (r : List ℕ) → EndsGap rest n r → EndsGap text (feeds + n) r) → EndsOrBegins rest → EndsGap text feeds rest
gap_here feeds text rest from_here stops =
    subst (λ n. EndsGap text n rest) (omega arith) (from_here 0 rest (no_gap rest stops))

-- white space more at the front
pub gap_more : (c n m : ℕ) (rest behind r : List ℕ) → rest ≡ c ∷ behind → is_white c ≡ true → m ≡ cond (c == 10) 1 0 + n → EndsGap behind n r → EndsGap rest m r
gap_more c n m rest behind r is white sum g =
    record {
      gap = c ∷ g.gap;
      whole = is ∙ ap (λ xs. c ∷ xs) g.whole;
      white = (white, g.white);
      feeds_are = sum ∙ ap (λ k. cond (c == 10) 1 0 + k) g.feeds_are ∙ sym (sum_by-cons (λ d. cond (d == 10) 1 0) c g.gap);
      stops = g.stops;
    }

pub stops_nothing : (rest : List ℕ) → rest ≡ [] → EndsOrBegins rest
stops_nothing rest e = rw e tt

pub stops_mark : (c : ℕ) (rest behind : List ℕ) → rest ≡ c ∷ behind → is_white c ≡ false → EndsOrBegins rest
stops_mark c rest behind e white = rw e white

blank_white : (c : ℕ) → is_blank c ≡ true → is_white c ≡ true
unfolding is_white
blank_white c e = grind arith

blank_feeds : (c n : ℕ) → is_blank c ≡ true → n ≡ cond (c == 10) 1 0 + n
blank_feeds c n e = grind arith

gap_marks : (n : ℕ) (marks rest r : List ℕ) → Each is_blank marks → EndsGap rest n r → EndsGap (marks ++ rest) n r
gap_marks n [] rest r e g = g
gap_marks n (c ∷ marks) rest r e g =
    gap_more c n n (c ∷ (marks ++ rest)) (marks ++ rest) r refl (blank_white c e.0) (blank_feeds c n e.0) (gap_marks n marks rest r e.1 g)

-- blanks more at the front
pub gap_past : (n : ℕ) (text rest r : List ℕ) → IsBehindMarks is_blank text rest → EndsGap rest n r → EndsGap text n r
gap_past n text rest r m g = subst (λ xs. EndsGap xs n r) (sym m.2) (gap_marks n m.0 rest r m.1 g)

graphic_range : (c : ℕ) → is_ascii_graphic c ≡ true → (33 ≤ c) × (c ≤ 126)
graphic_range c e = (grind (arith, nat_tests), grind (arith, nat_tests))

range_white : (c : ℕ) → 33 ≤ c → c ≤ 126 → is_white c ≡ false
unfolding is_white
range_white c l h =
    let over : nat_lt 8 c ≡ true = grind (arith, nat_tests) in
    let past : nat_lt c 14 ≡ false = grind (arith, nat_tests) in
    let under : nat_lt 8191 c ≡ false = grind (arith, nat_tests) in
    rw (over, past, under, ne_eqb c 32 (λ e. omega arith), ne_eqb c 133 (λ e. omega arith), ne_eqb c 160 (λ e. omega arith), ne_eqb c 5760 (λ e. omega arith), ne_eqb c 8232 (λ e. omega arith), ne_eqb c 8233 (λ e. omega arith), ne_eqb c 8239 (λ e. omega arith), ne_eqb c 8287 (λ e. omega arith), ne_eqb c 12288 (λ e. omega arith)) refl

-- a graphic character of ASCII is no white space
pub graphic_white : (c : ℕ) → is_ascii_graphic c ≡ true → is_white c ≡ false
graphic_white c e = range_white c (graphic_range c e).0 (graphic_range c e).1
