-- How runs, strings and block comments go on behind a character.
use Rattle.std.proofs.Common.{◌≡◌, ℕ, ◌+◌, ◌-◌, Bool, true, false, Option, None, List, [], ◌∷◌, ◌++◌, zero, suc, refl, ap, sym, arith, not, ◌&&◌, ◌==◌, add-one}
use Rattle.std.proofs.Math.Numerals.{sub-one}
use Rattle.rf_lexer.specs.Strings.{StringEnds, StringGoesOn}
use Rattle.std.specs.Borrow.{Bor}
use Rattle.std.proofs.lemmas.Bool.{ne_eqb, and_parts}
use Rattle.rf_base_grammar.specs.Characters.{Each, is_delimiter, is_white}
use Rattle.rf_base_grammar.specs.Cuts.{Cut, Bare, also, run_cut, string_cut, block_cut, quoting_behind, barred_behind, step_of, Passes, Opens, Closes}
use Rattle.rf_lexer.specs.Classes.{is_plain, is_in_string, IsBehindMarks}
use Rattle.rf_lexer.specs.Places.{IsBehind}
use Rattle.rf_lexer.specs.Runs.{quoting, EndsBefore, RunGoesOn}
use Rattle.rf_lexer.specs.Blocks.{half_in, ClosesAt, BlockGoesOn}
use Rattle.rf_lexer.specs.declared.runs.Quoting.{Quoting}
use Rattle.rf_lexer.specs.declared.runs.Quoting.TheVariants.{Plain, Escape, Bars}
use Rattle.rf_lexer.specs.declared.blocks.Half.{Half}
use Rattle.rf_lexer.specs.declared.blocks.Half.TheVariants.{Neither}
use Rattle.rf_lexer.specs.declared.blocks.Inside.{Inside}

not_true : (a : Bool) → not a ≡ true → a ≡ false
not_true true h = absurd (cc)
not_true false h = refl

-- one character more at the front changes nothing behind
pub also_behind : (c : ℕ) (k : Option Cut) (r : Option (Bor (List ℕ))) → IsBehind k r → IsBehind (also c k) r
also_behind c None None h = tt
also_behind c _ _ h = h

pub plain_ends : (c : ℕ) → is_delimiter c ≡ true → EndsBefore Plain c
unfolding run_cut
plain_ends c e = λ text. rw e refl

pub plain_goes_on : (c : ℕ) (next : Quoting) → is_delimiter c ≡ false → quoting_behind c ≡ quoting next → RunGoesOn Plain c next
unfolding run_cut
plain_goes_on c next e same = λ text. rw (e, same) refl

pub escape_goes_on : (c : ℕ) → RunGoesOn Escape c Plain
unfolding run_cut
escape_goes_on c = λ text. refl

pub bars_go_on : (c : ℕ) (next : Quoting) → barred_behind c ≡ quoting next → RunGoesOn Bars c next
unfolding run_cut
bars_go_on c next same = λ text. rw same refl

-- what is behind the run from the next character on is behind it from this one on
pub run_step : (q next : Quoting) (c : ℕ) (rest behind : List ℕ) (r : Option (Bor (List ℕ))) → RunGoesOn q c next → rest ≡ c ∷ behind → IsBehind (run_cut (quoting next) behind) r → IsBehind (run_cut (quoting q) rest) r
run_step q next c rest behind r goes_on is h =
    rw (is, goes_on behind) (also_behind c (run_cut (quoting next) behind) r h)

-- how each character of a string is read
pub escaped_goes_on : (escaped : Bool) (c : ℕ) → escaped ≡ true → StringGoesOn escaped c false
unfolding string_cut
escaped_goes_on escaped c e = λ text. rw e refl

pub quote_ends : (escaped : Bool) (c : ℕ) → escaped ≡ false → c ≡ 34 → StringEnds escaped c
unfolding string_cut
quote_ends escaped c e is = λ text. rw (e, is) refl

pub other_goes_on : (escaped : Bool) (c : ℕ) → escaped ≡ false → (c ≡ 34 → ⊥) → StringGoesOn escaped c (c == 92)
unfolding string_cut
other_goes_on escaped c e is = λ text. rw (e, ne_eqb c 34 is) refl

pub closes_at : (at : Inside) (c : ℕ) → at.around ≡ 0 → step_of (half_in at.half) c ≡ Closes → ClosesAt at c
unfolding block_cut
closes_at at c none e = λ text. rw (e, none) refl

pub goes_deeper : (at next : Inside) (c : ℕ) → step_of (half_in at.half) c ≡ Opens → next ≡ record { around = at.around + 1; half = Neither } → BlockGoesOn at c next
unfolding block_cut
goes_deeper at next c e is = (omega (arith, ap (λ i. i.around) is), λ text. rw (is, e, add-one) refl)

pub goes_out : (around : ℕ) (half : Half) (next : Inside) (c : ℕ) → (around ≡ 0 → ⊥) → step_of (half_in half) c ≡ Closes → next ≡ record { around = around - 1; half = Neither } → BlockGoesOn (record { around = around; half = half }) c next
unfolding block_cut
goes_out zero half next c some e is = absurd (some refl)
goes_out (suc n) half next c some e is = (omega (arith, ap (λ i. i.around) is), λ text. rw (is, e, sub-one) refl)

pub passes : (at : Inside) (c : ℕ) (half : Half) → Passes (half_in half) ≡ step_of (half_in at.half) c → BlockGoesOn at c (record { around = at.around; half = half })
unfolding block_cut
passes at c half e = (omega arith, λ text. rw (sym e) refl)

-- a character that stands for itself
plain_step : (c : ℕ) → is_plain c ≡ true → (is_delimiter c ≡ false) × (quoting_behind c ≡ Bare)
plain_step c e =
    let delimits = and_parts (not (is_delimiter c)) (not (c == 92) && not (c == 124)) e in
    let quotes = and_parts (not (c == 92)) (not (c == 124)) delimits.1 in
    (not_true (is_delimiter c) delimits.0, rw (not_true (c == 92) quotes.0, not_true (c == 124) quotes.1) refl)

-- a character that stands for itself is of the run
pub plain_is_of : (c : ℕ) → is_plain c ≡ true → RunGoesOn Plain c Plain
plain_is_of c e = plain_goes_on c Plain (plain_step c e).0 (plain_step c e).1

pub backslash_quotes : (c : ℕ) → c ≡ 92 → RunGoesOn Plain c Escape
unfolding run_cut is_delimiter is_white
backslash_quotes c e = λ text. rw e refl

pub bar_quotes : (c : ℕ) → c ≡ 124 → RunGoesOn Plain c Bars
unfolding run_cut is_delimiter is_white
bar_quotes c e = λ text. rw e refl

delimits : (d a b : Bool) → (not d && (not a && not b)) ≡ false → a ≡ false → b ≡ false → d ≡ true
delimits true a b h e f = refl
delimits _ _ _ h e f = absurd (cc)

-- a character that neither stands for itself nor begins to quote ends the run
pub other_ends : (c : ℕ) → is_plain c ≡ false → (c ≡ 92 → ⊥) → (c ≡ 124 → ⊥) → EndsBefore Plain c
other_ends c e no_backslash no_bar =
    plain_ends c (delimits (is_delimiter c) (c == 92) (c == 124) e (ne_eqb c 92 no_backslash) (ne_eqb c 124 no_bar))

run_marks : (marks rest : List ℕ) (r : Option (Bor (List ℕ))) → Each is_plain marks → IsBehind (run_cut Bare rest) r → IsBehind (run_cut Bare (marks ++ rest)) r
run_marks [] rest r e h = h
run_marks (c ∷ marks) rest r e h =
    run_step Plain Plain c (c ∷ (marks ++ rest)) (marks ++ rest) r (plain_is_of c e.0) refl (run_marks marks rest r e.1 h)

-- what is behind a run from behind some of its plain characters on is behind it from its start on
pub run_past : (text rest : List ℕ) (r : Option (Bor (List ℕ))) → IsBehindMarks is_plain text rest → IsBehind (run_cut Bare rest) r → IsBehind (run_cut Bare text) r
run_past text rest r m h = rw m.2 (run_marks m.0 rest r m.1 h)

string_marks : (marks rest : List ℕ) (r : Option (Bor (List ℕ))) → Each is_in_string marks → IsBehind (string_cut false rest) r → IsBehind (string_cut false (marks ++ rest)) r
unfolding string_cut
string_marks [] rest r e h = h
string_marks (c ∷ marks) rest r e h =
    let parts = and_parts (not (c == 34)) (not (c == 92)) e.0 in
    rw (not_true (c == 34) parts.0, not_true (c == 92) parts.1) (also_behind c (string_cut false (marks ++ rest)) r (string_marks marks rest r e.1 h))

-- what is behind a string from behind some of its characters on is behind it from its start on
pub string_past : (text rest : List ℕ) (r : Option (Bor (List ℕ))) → IsBehindMarks is_in_string text rest → IsBehind (string_cut false rest) r → IsBehind (string_cut false text) r
string_past text rest r m h = rw m.2 (string_marks m.0 rest r m.1 h)

-- a run that begins with a character that stands for itself
pub plain_run : (c : ℕ) (behind : List ℕ) → is_plain c ≡ true → run_cut Bare (c ∷ behind) ≡ also c (run_cut (quoting_behind c) behind)
unfolding run_cut
plain_run c behind e = rw ((plain_step c e).0) refl
