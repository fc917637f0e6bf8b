-- Where the lines of a here string end, line by line.
use Rattle.std.proofs.Common.{◌≡◌, ◌≢◌, ℕ, true, false, Option, None, Some, List, [], ◌∷◌, ◌++◌, ◌==◌, refl, ap, sym, ◌∙◌, cond, arith, length, true≢false, ◌<◌, length-append}
use Rattle.std.specs.Borrow.{Bor}
use Rattle.std.specs.Str.{chars, bytes_eq}
use Rattle.std.proofs.lemmas.Bool.{eqb-true, eq-eqb, and_parts, and_from}
use Rattle.std.proofs.lemmas.Slice.Eq.{bytes_eq-Decides}
use Rattle.rf_base_grammar.specs.Characters.{Each}
use Rattle.rf_base_grammar.specs.Cuts.{span, here_cut, line_step, left_behind, Goes}
use Rattle.rf_base_grammar.specs.Reader.{is_of_terminator}
use Rattle.rf_base_grammar.proofs.Spans.{Stops, span_parts}
use Rattle.rf_base_grammar.proofs.HereCuts.{here_goes}
use Rattle.rf_lexer.specs.Places.{IsBehind}
use Rattle.rf_lexer.specs.HereLines.{feeds, ends_lines}
use Rattle.rf_lexer.proofs.Cuts.{also_behind}
use Rattle.rf_lexer.proofs.Spans.{span_whole}

-- what is left of the terminator behind a line
abbrev left_after : Option (List ℕ) → List ℕ → Option (List ℕ)
left_after left [] = left
left_after left (c ∷ line) = left_after (left_behind left c) line

left_none : (line : List ℕ) → left_after None line ≡ None
left_none [] = refl
left_none (c ∷ line) = left_none line

-- behind the terminator nothing is left of it
left_full : (line : List ℕ) → left_after (Some line) line ≡ Some []
left_full [] = refl
left_full (c ∷ line) = rw (eq-eqb c c refl) (left_full line)

-- where nothing is left the line was the terminator
left_same : (terminator line : List ℕ) → left_after (Some terminator) line ≡ Some [] → terminator ≡ line
left_same [] [] e = refl
left_same [] (c ∷ line) e = absurd (let none = left_none line in cc)
left_same (x ∷ terminator) [] e = absurd (cc)
left_same (x ∷ terminator) (c ∷ line) e =
    elim (x == c) as (λ b. (x == c) ≡ b → left_after (cond b (Some terminator) None) line ≡ Some [] → x ∷ terminator ≡ c ∷ line) [
      | true ↦ λ same rest. ap (λ y. y ∷ terminator) (eqb-true x c same) ∙ ap (λ ys. c ∷ ys) (left_same terminator line rest)
      | false ↦ λ same rest. absurd (let none = left_none line in cc)
    ] refl e

goes : (c : ℕ) → is_of_terminator c ≡ true → line_step c ≡ Goes
goes c h = grind arith

stop_is : (c : ℕ) → is_of_terminator c ≡ false → c ≢ 10 → c ≡ 13
stop_is c h other = grind arith

-- what is behind the here string from the end of a line on is behind it from its start on
here_walk : (terminator : List ℕ) (left : Option (List ℕ)) (line rest : List ℕ) (r : Option (Bor (List ℕ))) → Each is_of_terminator line → IsBehind (here_cut terminator (left_after left line) rest) r → IsBehind (here_cut terminator left (line ++ rest)) r
here_walk terminator left [] rest r each h = h
here_walk terminator left (c ∷ line) rest r each h =
    rw (here_goes terminator left c (line ++ rest), goes c each.0)
    (also_behind c (here_cut terminator (left_behind left c) (line ++ rest)) r (here_walk terminator (left_behind left c) line rest r each.1 h))

-- at the end of a line with nothing left the here string ends
ends_at : (terminator rest : List ℕ) (r : Bor (List ℕ)) → feeds rest ≡ true → chars r.now ≡ rest → IsBehind (here_cut terminator (Some []) rest) (Some r)
unfolding here_cut
ends_at terminator [] r h e = sym e
ends_at terminator (c ∷ rest) r h e =
    let feed : c ≡ 10 = eqb-true c 10 h in
    let next : c ∷ rest ≡ chars r.now = sym e in
    rw feed (rw feed at next)

-- the end of the text ends no here string of which something is left
open_at_end : (terminator : List ℕ) (left : Option (List ℕ)) → left ≢ Some [] → IsBehind (here_cut terminator left []) None
unfolding here_cut
open_at_end terminator None some = tt
open_at_end terminator (Some []) some = absurd (some refl)
open_at_end terminator (Some (x ∷ left)) some = tt

-- a CR ends it neither
open_at_return : (terminator : List ℕ) (left : Option (List ℕ)) (rest : List ℕ) → IsBehind (here_cut terminator left (13 ∷ rest)) None
open_at_return terminator left rest = rw (here_goes terminator left 13 rest) tt

-- behind a line of which something is left the next one begins
next_line : (terminator : List ℕ) (left : Option (List ℕ)) (next : List ℕ) (q : Option (Bor (List ℕ))) → left ≢ Some [] → IsBehind (here_cut terminator (Some terminator) next) q → IsBehind (here_cut terminator left (10 ∷ next)) q
unfolding here_cut
next_line terminator None next q some h = also_behind 10 (here_cut terminator (Some terminator) next) q h
next_line terminator (Some []) next q some h = absurd (some refl)
next_line terminator (Some (x ∷ left)) next q some h = also_behind 10 (here_cut terminator (Some terminator) next) q h

-- what stops a line is the end, an LF or a CR
stopped : (terminator : List ℕ) (left : Option (List ℕ)) (rest : List ℕ) → Stops is_of_terminator rest → (feeds rest ≡ true → left ≢ Some []) → ((next : List ℕ) → rest ≡ 10 ∷ next → ⊥) → IsBehind (here_cut terminator left rest) None
stopped terminator left [] stops some other = open_at_end terminator left (some refl)
stopped terminator left (c ∷ rest) stops some other =
    let no_feed : c ≢ 10 = λ e. other rest (ap (λ x. x ∷ rest) e) in
    let return : c ≡ 13 = stop_is c stops no_feed in
    rw return (open_at_return terminator left rest)

-- a line's characters, and what stops it
module _ (terminator lines line rest : List ℕ) (line_is : line ≡ (span is_of_terminator lines).front) (rest_is : rest ≡ (span is_of_terminator lines).behind) where
  whole : lines ≡ line ++ rest
  whole = rw (line_is, rest_is) (span_whole is_of_terminator lines)

  each : Each is_of_terminator line
  each = rw line_is (span_parts is_of_terminator lines).1

  stops : Stops is_of_terminator rest
  stops = rw rest_is (span_parts is_of_terminator lines).2

  walked : (r : Option (Bor (List ℕ))) → IsBehind (here_cut terminator (left_after (Some terminator) line) rest) r → IsBehind (here_cut terminator (Some terminator) lines) r
  walked r h = rw whole (here_walk terminator (Some terminator) line rest r each h)

  pub here_found : (r : Bor (List ℕ)) → ends_lines terminator line rest ≡ true → chars r.now ≡ rest → IsBehind (here_cut terminator (Some terminator) lines) (Some r)
  here_found r h e =
      let both = and_parts (bytes_eq terminator line) (feeds rest) h in
      let same : terminator ≡ line = (bytes_eq-Decides terminator line).0 both.0 in
      let full : left_after (Some terminator) line ≡ Some [] = rw same (left_full line) in
      walked (Some r) (rw full (ends_at terminator rest r both.1 e))

  unfinished : ends_lines terminator line rest ≡ false → feeds rest ≡ true → left_after (Some terminator) line ≢ Some []
  unfinished h feed e =
      let same = left_same terminator line e in
      let yes : bytes_eq terminator line ≡ true = (bytes_eq-Decides terminator line).1 same in
      true≢false (sym (and_from (bytes_eq terminator line) (feeds rest) yes feed) ∙ h)

  pub here_next : (next : List ℕ) (q : Option (Bor (List ℕ))) → ends_lines terminator line rest ≡ false → rest ≡ 10 ∷ next → IsBehind (here_cut terminator (Some terminator) next) q → IsBehind (here_cut terminator (Some terminator) lines) q
  here_next next q h e found =
      let left = unfinished h (rw e refl) in
      walked q (rw e (next_line terminator (left_after (Some terminator) line) next q left found))

  pub here_shorter : (next : List ℕ) → rest ≡ 10 ∷ next → length next < length lines
  here_shorter next e = omega (arith, ap length whole, length-append line rest, ap length e)

  pub here_none : ends_lines terminator line rest ≡ false → ((next : List ℕ) → rest ≡ 10 ∷ next → ⊥) → IsBehind (here_cut terminator (Some terminator) lines) None
  here_none h other = walked None (stopped terminator (left_after (Some terminator) line) rest stops (unfinished h) other)
