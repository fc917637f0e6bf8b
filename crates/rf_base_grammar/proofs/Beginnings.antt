-- Texts that begin with no word that is looked for before runs.
use Rattle.std.proofs.Common.{◌≡◌, ℕ, ◌||◌, ◌&&◌, inl, inr, not, Bool, true, false, Some, List, [], ◌∷◌, ◌++◌, length, refl, sym, ap, ◌∙◌, eqb, arith, leb}
use Rattle.std.specs.Prelude.{codes}
use Rattle.std.specs.List.{AllByRecursion, list_all}
use Rattle.std.specs.Char.{is_ascii_digit}
use Rattle.std.proofs.lemmas.Bool.{eqb-true, eq-eqb, ne_eqb, both_ways, and_parts, and_from, le-leb, or_cases, not-true, false≢true, leb-true}
use Rattle.rf_base_grammar.specs.Characters.{is_white, is_delimiter, BeginsWith}
use Rattle.rf_base_grammar.specs.Runs.{hash, IsShortNumber}
use Rattle.rf_base_grammar.specs.Cuts.{Cut, Bare, run_cut}
use Rattle.rf_base_grammar.specs.Reader.{Answer, Reading, strip, readings, first_reading, label_item, label_behind, run_item, is_short, front_item}
use Rattle.rf_base_grammar.proofs.Words.{strip_none}
use Rattle.rf_base_grammar.proofs.Spans.{Stops, span_same}

-- no reading's word begins the text
pub no_reading : (rs : List Reading) (text : List ℕ) (other : Answer) →
    AllByRecursion (λ (r : Reading). BeginsWith r.word text → ⊥) rs → first_reading rs text other ≡ other
no_reading [] text other h = refl
no_reading (r ∷ rs) text other h = rw (strip_none r.word text h.0) (no_reading rs text other h.1)

-- whether a word begins with a hash sign or a delimiter
abbrev is_special : List ℕ → Bool
is_special [] = false
is_special (c ∷ word) = eqb c hash || is_delimiter c

special_apart : (word : List ℕ) (c : ℕ) (text : List ℕ) → is_special word ≡ true → (c ≡ hash → ⊥) →
    is_delimiter c ≡ false → BeginsWith word (c ∷ text) → ⊥
special_apart [] c text s n d b = absurd (false≢true s)
special_apart (w ∷ word) c text s n d b =
    let same : c ≡ w = cc in
    elim (or_cases _ _ s) [
      | inl e ↦ n (same ∙ eqb-true w hash e)
      | inr e ↦ both_ways (is_delimiter c) d (rw same e)
    ]

all_apart : (rs : List Reading) (c : ℕ) (text : List ℕ) → list_all (λ (r : Reading). is_special r.word) rs ≡ true →
    (c ≡ hash → ⊥) → is_delimiter c ≡ false → AllByRecursion (λ (r : Reading). BeginsWith r.word (c ∷ text) → ⊥) rs
all_apart [] c text s n d = tt
all_apart (r ∷ rs) c text s n d =
    let both = and_parts _ _ s in
    (special_apart r.word c text both.0 n d, all_apart rs c text both.1 n d)

-- a text that begins with neither a hash sign nor a delimiter is a run's
pub plain_front : (language : Bool) (c : ℕ) (text : List ℕ) → (c ≡ hash → ⊥) → is_delimiter c ≡ false →
    front_item language (c ∷ text) ≡ run_item (run_cut Bare (c ∷ text))
unfolding front_item is_delimiter is_white
plain_front language c text n d =
    no_reading (readings language) (c ∷ text)
    (label_item (strip (codes "#") (c ∷ text)) (run_item (run_cut Bare (c ∷ text))))
    (all_apart (readings language) c text refl n d)
    ∙ rw (strip_none (codes "#") (c ∷ text) (λ b. n cc)) refl

-- whether no text that begins with a hash sign and c begins with the word
abbrev is_apart : ℕ → List ℕ → Bool
is_apart c [] = false
is_apart c (w ∷ []) = not (eqb w hash)
is_apart c (w ∷ v ∷ word) = not (eqb w hash && eqb v c)

pub apart_word : (word : List ℕ) (c : ℕ) (text : List ℕ) → is_apart c word ≡ true → BeginsWith word (hash ∷ c ∷ text) →
    ⊥
apart_word [] c text h b = absurd (false≢true h)
apart_word (w ∷ []) c text h b = let same : w ≡ hash = cc in false≢true (sym (rw same refl) ∙ h)
apart_word (w ∷ v ∷ word) c text h b =
    let same : w ≡ hash = cc in
    let next : v ≡ c = cc in
    both_ways (eqb w hash && eqb v c) (not-true (eqb w hash && eqb v c) h)
    (and_from _ _ (eq-eqb w hash same) (eq-eqb v c next))

hash_apart : (rs : List Reading) (c : ℕ) (text : List ℕ) → list_all (λ (r : Reading). is_apart c r.word) rs ≡ true →
    AllByRecursion (λ (r : Reading). BeginsWith r.word (hash ∷ c ∷ text) → ⊥) rs
hash_apart [] c text s = tt
hash_apart (r ∷ rs) c text s =
    let both = and_parts _ _ s in
    (apart_word r.word c text both.0, hash_apart rs c text both.1)

-- whether texts that begin with a hash sign and c are no word's, whatever stands behind
abbrev pub is_free : Bool → ℕ → Bool
is_free language c = list_all (λ (r : Reading). is_apart c r.word) (readings language)

pub free_front : (language : Bool) (c : ℕ) (text : List ℕ) → is_free language c ≡ true →
    front_item language (hash ∷ c ∷ text) ≡ label_item (Some (c ∷ text)) (run_item (run_cut Bare (hash ∷ c ∷ text)))
unfolding front_item
free_front language c text f =
    no_reading (readings language) (hash ∷ c ∷ text)
    (label_item (strip (codes "#") (hash ∷ c ∷ text)) (run_item (run_cut Bare (hash ∷ c ∷ text))))
    (hash_apart (readings language) c text f)

-- a digit is no word's second character
digit_free : (language : Bool) (c : ℕ) → is_ascii_digit c ≡ true → is_free language c ≡ true
digit_free language c h =
    let both = and_parts (leb 48 c) (leb c 57) h in
    let low = leb-true 48 c both.0 in
    let high = leb-true c 57 both.1 in
    rw (
      ne_eqb 124 c (λ e. omega arith),
      ne_eqb 92 c (λ e. omega arith),
      ne_eqb 33 c (λ e. omega arith),
      ne_eqb 60 c (λ e. omega arith),
      ne_eqb 108 c (λ e. omega arith),
      ne_eqb 38 c (λ e. omega arith),
      ne_eqb 39 c (λ e. omega arith),
      ne_eqb 96 c (λ e. omega arith),
      ne_eqb 44 c (λ e. omega arith),
      ne_eqb 59 c (λ e. omega arith),
    ) refl

pub short_from : (digits : List ℕ) → IsShortNumber digits → is_short digits ≡ true
short_from digits h = and_from _ _ (le-leb 1 (length digits) h.1) (le-leb (length digits) 8 h.2)

-- a hash sign and a short number
pub number_front : (language : Bool) (digits behind : List ℕ) → IsShortNumber digits → Stops is_ascii_digit behind →
    front_item language (hash ∷ (digits ++ behind))
    ≡ label_behind true digits (strip (codes "=") behind) (run_item (run_cut Bare (hash ∷ (digits ++ behind))))
number_front language [] behind h s = absurd (omega (arith, h.1))
number_front language (d ∷ digits) behind h s =
    let run = run_item (run_cut Bare (hash ∷ d ∷ (digits ++ behind))) in
    free_front language d (digits ++ behind) (digit_free language d h.0.0)
    ∙ ap (λ (k : Cut). label_behind (is_short k.front) k.front (strip (codes "=") k.behind) run)
    (span_same is_ascii_digit (d ∷ digits) behind h.0 s)
    ∙ ap (λ short. label_behind short (d ∷ digits) (strip (codes "=") behind) run) (short_from (d ∷ digits) h)
