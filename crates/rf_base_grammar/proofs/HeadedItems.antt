-- The items that begin with a run and a bracket or a quote behind it: openers and strings, found where the definitions
-- say that they stand.
use Rattle.std.proofs.Common.{◌≡◌, ℕ, ◌||◌, ◌&&◌, inl, inr, not, Bool, true, false, Some, None, List, [], ◌∷◌, ◌++◌, refl, sym, ap, ◌∙◌, eqb, arith, leb, ◌≤◌, subst}
use Rattle.std.specs.Prelude.{codes}
use Rattle.std.specs.Char.{is_ascii_digit}
use Rattle.std.specs.Str.{bytes_eq}
use Rattle.std.proofs.lemmas.Bool.{and_parts, both_ways, false≢true, false_from_ne_true, not-true, and_right, or_from, or_right, leb-true, ne_eqb, lt-ltb, le-ltb}
use Rattle.std.proofs.lemmas.List.{append_assoc, append-nil}
use Rattle.rf_base_grammar.specs.Characters.{Each, is_white, is_delimiter, BeginsWith, IsOneOf, MadeOf}
use Rattle.rf_base_grammar.specs.Runs.{hash, IsRunPart, IsShortNumber, booleans, atom_beginnings, BeginsWithOneOf}
use Rattle.rf_base_grammar.specs.Strings.{quote, string_heads, IsString}
use Rattle.rf_base_grammar.specs.Spelled.{opening, opener_heads, IsOpenerHead, EndsOrDelimits}
use Rattle.rf_base_grammar.specs.Cuts.{Cut, Bare, run_cut, string_cut}
use Rattle.rf_base_grammar.specs.Reader.{Found, among, is_short, is_number_word, begins_among, is_atom_run, is_opener_head, opened_by, strip, label_behind, atom_item, opener_item, string_behind, string_item, run_item, front_item}
use Rattle.rf_base_grammar.specs.declared.kinds.Bracket.{Bracket}
use Rattle.rf_base_grammar.specs.declared.kinds.Bracket.TheVariants.{Round, Square, Curly}
use Rattle.rf_base_grammar.specs.declared.kinds.Kind.TheVariants.{Opener, Prefix, Str}
use Rattle.rf_base_grammar.proofs.StringCuts.{string_cut_parts}
use Rattle.rf_base_grammar.proofs.Spans.{span_all}
use Rattle.rf_base_grammar.proofs.Beginnings.{number_front}
use Rattle.rf_base_grammar.proofs.Words.{HoldsOfEach, one_of_each, among_found, begins_among_found}
use Rattle.rf_base_grammar.proofs.RunItems.{of_all, of_all_begun, run_answer, number_word}

-- behind this head the opener is found
abbrev FindsOpener : Bool → Bracket → List ℕ → List ℕ → Type 0
FindsOpener language b behind head =
    front_item language (head ++ opening b ∷ behind) ≡ Found (Opener b) (head ++ opening b ∷ []) behind

opener_word : (language : Bool) (b : Bracket) (head behind : List ℕ) → IsOneOf opener_heads head →
    FindsOpener language b behind head
unfolding front_item run_cut is_delimiter is_white
opener_word language b head behind is =
    one_of_each (FindsOpener language b behind) opener_heads head (each b) is
  where
    each : (b : Bracket) → HoldsOfEach (FindsOpener language b behind) opener_heads
    each Round = (refl, (refl, (refl, (refl, (refl, (refl, (refl, (refl, (refl, tt)))))))))
    each Square = (refl, (refl, (refl, (refl, (refl, (refl, (refl, (refl, (refl, tt)))))))))
    each Curly = (refl, (refl, (refl, (refl, (refl, (refl, (refl, (refl, (refl, tt)))))))))

-- a string's head and its opening quote
pub string_front : (language : Bool) (head text : List ℕ) → IsOneOf string_heads head →
    front_item language (head ++ quote ∷ text) ≡ string_item (head ++ quote ∷ []) (string_cut false text)
unfolding front_item run_cut is_delimiter is_white
string_front language head text is =
    one_of_each (λ h. front_item language (h ++ quote ∷ text) ≡ string_item (h ++ quote ∷ []) (string_cut false text))
    string_heads head (refl, (refl, (refl, (refl, (refl, (refl, tt)))))) is

-- a string is found
pub string_found : (language : Bool) (spelling behind : List ℕ) → IsString spelling →
    front_item language (spelling ++ behind) ≡ Found Str spelling behind
string_found language spelling behind h =
    let head = h.0 in
    let body = h.1 in
    let shape : spelling ++ behind ≡ head ++ quote ∷ (body ++ quote ∷ behind) =
    ap (λ xs. xs ++ behind) h.2 ∙ append_assoc head (quote ∷ (body ++ quote ∷ [])) behind
    ∙ ap (λ xs. head ++ quote ∷ xs) (append_assoc body (quote ∷ []) behind) in
    ap (λ xs. front_item language xs) shape
    ∙ string_front language head (body ++ quote ∷ behind) h.3
    ∙ ap (λ o. string_item (head ++ quote ∷ []) o) (string_cut_parts body behind h.4)
    ∙ ap (λ xs. Found Str xs behind) (append_assoc head (quote ∷ []) (body ++ quote ∷ []) ∙ sym h.2)

-- a digit is no delimiter and doesn't quote
digit_undelimited : (c : ℕ) → 48 ≤ c → c ≤ 57 → is_delimiter c ≡ false
unfolding is_delimiter is_white
digit_undelimited c low high =
    rw (
      lt-ltb 8 c (omega arith),
      le-ltb c 14 (omega arith),
      ne_eqb c 32 (λ e. omega arith),
      ne_eqb c 133 (λ e. omega arith),
      ne_eqb c 160 (λ e. omega arith),
      ne_eqb c 5760 (λ e. omega arith),
      le-ltb 8191 c (omega arith),
      ne_eqb c 8232 (λ e. omega arith),
      ne_eqb c 8233 (λ e. omega arith),
      ne_eqb c 8239 (λ e. omega arith),
      ne_eqb c 8287 (λ e. omega arith),
      ne_eqb c 12288 (λ e. omega arith),
      ne_eqb c 40 (λ e. omega arith),
      ne_eqb c 41 (λ e. omega arith),
      ne_eqb c 91 (λ e. omega arith),
      ne_eqb c 93 (λ e. omega arith),
      ne_eqb c 123 (λ e. omega arith),
      ne_eqb c 125 (λ e. omega arith),
      ne_eqb c 34 (λ e. omega arith),
      ne_eqb c 44 (λ e. omega arith),
      ne_eqb c 39 (λ e. omega arith),
      ne_eqb c 96 (λ e. omega arith),
      ne_eqb c 59 (λ e. omega arith),
    ) refl

digit_range : (c : ℕ) → is_ascii_digit c ≡ true → (48 ≤ c) × (c ≤ 57)
digit_range c h = let both = and_parts (leb 48 c) (leb c 57) h in (leb-true 48 c both.0, leb-true c 57 both.1)

digit_part : (c : ℕ) → is_ascii_digit c ≡ true → IsRunPart (c ∷ [])
digit_part c h =
    let r = digit_range c h in
    inl (c, refl, digit_undelimited c r.0 r.1, (λ e. omega (arith, r.0, r.1)), (λ e. omega (arith, r.0, r.1)))

digit_parts : (digits : List ℕ) → Each is_ascii_digit digits → MadeOf IsRunPart digits
digit_parts [] h = ([], tt, refl)
digit_parts (c ∷ digits) h =
    let m = digit_parts digits h.1 in
    ((c ∷ []) ∷ m.0, (digit_part c h.0, m.1), ap (λ xs. c ∷ xs) m.2)

hash_part : (run : List ℕ) → MadeOf IsRunPart run → MadeOf IsRunPart (hash ∷ run)
unfolding is_delimiter is_white
hash_part run m =
    let part : IsRunPart (hash ∷ []) = inl (hash, refl, refl, (λ e. omega arith), (λ e. omega arith)) in
    ((hash ∷ []) ∷ m.0, (part, m.1), ap (λ xs. hash ∷ xs) m.2)

-- whether the second character is a digit
abbrev has_digit : List ℕ → Bool
has_digit [] = false
has_digit (x ∷ []) = false
has_digit (x ∷ c ∷ word) = is_ascii_digit c

-- whether there is a second character, and it is no digit
abbrev has_other : List ℕ → Bool
has_other [] = false
has_other (x ∷ []) = false
has_other (x ∷ c ∷ word) = not (is_ascii_digit c)

other_is_no_digit : (word text : List ℕ) → has_other word ≡ true → BeginsWith word text → has_digit text ≡ true → ⊥
other_is_no_digit [] text h b d = false≢true h
other_is_no_digit (x ∷ []) text h b d = false≢true h
other_is_no_digit (x ∷ c ∷ word) text h b d =
    let digit : is_ascii_digit c ≡ true = subst (λ xs. has_digit xs ≡ true) b.1 d in
    both_ways (is_ascii_digit c) (not-true (is_ascii_digit c) h) digit

-- a hash sign and digits alone are no atom
number_no_atom : (digits : List ℕ) → IsShortNumber digits → is_atom_run (hash ∷ digits) ≡ false
number_no_atom [] h = absurd (omega (arith, h.1))
number_no_atom (d ∷ digits) h =
    let run = hash ∷ d ∷ digits in
    or_from _ (among booleans run || (begins_among atom_beginnings run || is_number_word (codes "#") run)) refl
    (or_from (among booleans run) _
    (false_from_ne_true (among booleans run) (λ e. no_boolean (among_found booleans run e)))
    (or_from (begins_among atom_beginnings run) _
    (false_from_ne_true (begins_among atom_beginnings run)
    (λ e. no_beginning (begins_among_found atom_beginnings run e)))
    number_only))
  where
    no_boolean : IsOneOf booleans (hash ∷ d ∷ digits) → ⊥
    no_boolean o =
        both_ways (is_ascii_digit d) (not-true (is_ascii_digit d)
        (of_all has_other booleans (hash ∷ d ∷ digits) refl o)) h.0.0

    no_beginning : BeginsWithOneOf atom_beginnings (hash ∷ d ∷ digits) → ⊥
    no_beginning b =
        let w = of_all_begun has_other atom_beginnings (hash ∷ d ∷ digits) refl b in
        other_is_no_digit w.0 (hash ∷ d ∷ digits) w.1 w.2 h.0.0

    number_only : is_number_word (codes "#") (hash ∷ d ∷ digits) ≡ false
    number_only =
        ap (λ (k : Cut). is_short k.front && bytes_eq (codes "#") k.behind) (span_all is_ascii_digit (d ∷ digits) h.0)
        ∙ and_right (is_short (d ∷ digits)) (bytes_eq (codes "#") []) refl

-- a bracket ends a run
bracket_ends : (b : Bracket) (behind : List ℕ) → EndsOrDelimits (opening b ∷ behind)
unfolding is_delimiter is_white
bracket_ends Round behind = refl
bracket_ends _ behind = refl

bracket_told : (b : Bracket) → opened_by (opening b) ≡ Some b
bracket_told Round = refl
bracket_told _ = refl

bracket_no_digit : (b : Bracket) → is_ascii_digit (opening b) ≡ false
bracket_no_digit Round = refl
bracket_no_digit _ = refl

bracket_no_label : (b : Bracket) (behind : List ℕ) → strip (codes "=") (opening b ∷ behind) ≡ None
bracket_no_label Round behind = refl
bracket_no_label _ behind = refl

number_heads : (digits : List ℕ) → IsShortNumber digits → is_opener_head (hash ∷ digits) ≡ true
number_heads digits h =
    or_right (among opener_heads (hash ∷ digits)) _
    (ap (λ xs. is_number_word [] (hash ∷ xs)) (sym (append-nil digits)) ∙ number_word [] digits h tt)

-- a vector's opener with its length
opener_number : (language : Bool) (b : Bracket) (digits behind : List ℕ) → IsShortNumber digits →
    front_item language (hash ∷ (digits ++ opening b ∷ behind))
    ≡ Found (Opener b) (hash ∷ (digits ++ opening b ∷ [])) behind
opener_number language b digits behind h =
    let run = hash ∷ digits in
    let other = run_item (run_cut Bare (run ++ opening b ∷ behind)) in
    number_front language digits (opening b ∷ behind) h (bracket_no_digit b)
    ∙ ap (λ o. label_behind true digits o other) (bracket_no_label b behind)
    ∙ run_answer run (opening b ∷ behind) (hash_part digits (digit_parts digits h.0)) (bracket_ends b behind)
    ∙ ap (λ t. atom_item false t run (opening b ∷ behind)) (number_no_atom digits h)
    ∙ ap (λ o. opener_item o (is_opener_head run) run (opening b) behind
    (string_behind (eqb (opening b) quote && among string_heads run) run behind)) (bracket_told b)
    ∙ ap (λ t. opener_item (Some b) t run (opening b) behind
    (string_behind (eqb (opening b) quote && among string_heads run) run behind)) (number_heads digits h)

-- an opener is found
pub opener_found : (language : Bool) (b : Bracket) (spelling behind head : List ℕ) → spelling ≡ head ++ opening b ∷ [] →
    IsOpenerHead head → front_item language (spelling ++ behind) ≡ Found (Opener b) spelling behind
opener_found language b spelling behind head e (inl h) =
    ap (λ xs. front_item language xs) (ap (λ xs. xs ++ behind) e ∙ append_assoc head (opening b ∷ []) behind)
    ∙ opener_word language b head behind h
    ∙ ap (λ xs. Found (Opener b) xs behind) (sym e)
opener_found language b spelling behind head e (inr h) =
    let shape : spelling ≡ hash ∷ (h.0 ++ opening b ∷ []) = e ∙ ap (λ xs. xs ++ opening b ∷ []) h.1 in
    ap (λ xs. front_item language xs) (ap (λ xs. xs ++ behind) shape
    ∙ ap (λ xs. hash ∷ xs) (append_assoc h.0 (opening b ∷ []) behind))
    ∙ opener_number language b h.0 behind h.2
    ∙ ap (λ xs. Found (Opener b) xs behind) (sym shape)

-- a label is found
pub label_found : (language : Bool) (spelling behind digits : List ℕ) → spelling ≡ hash ∷ (digits ++ codes "=") →
    IsShortNumber digits → front_item language (spelling ++ behind) ≡ Found Prefix spelling behind
label_found language spelling behind digits e h =
    ap (λ xs. front_item language xs) (ap (λ xs. xs ++ behind) e
    ∙ ap (λ xs. hash ∷ xs) (append_assoc digits (codes "=") behind))
    ∙ number_front language digits (61 ∷ behind) h refl
    ∙ ap (λ xs. Found Prefix xs behind) (sym e)
