-- What texts begin with, told by their characters.
use Rattle.std.proofs.Common.{◌≡◌, ℕ, ◌<◌, ◌≤◌, Bool, true, false, Option, None, Some, List, [], ◌∷◌, ◌++◌, length, get_or, refl, ap, sym, ◌∙◌, arith}
use Rattle.std.specs.Prelude.{◌||◌, ◌&&◌, ◌==◌, if◌then◌else◌, is_some}
use Rattle.std.specs.List.{AllByRecursion}
use Rattle.std.specs.Char.{encode_utf8}
use Rattle.rf_base_grammar.specs.Reader.{strip, begins}
use Rattle.std.specs.Str.{chars, IsUtf8, encode_utf8_all}
use Rattle.std.proofs.lemmas.Bool.{false≢true}
use Rattle.std.proofs.lemmas.Bool.Decides.{nat_tests}
use Rattle.std.proofs.lemmas.Str.{encodes-chars}

-- the first of two tests decides, or the second does
pub first_decides : (first second r : Bool) → r ≡ first → r ≡ true → r ≡ (first || (second || false))
first_decides true second r e t = t
first_decides false second r e t = absurd (false≢true (sym e ∙ t))

pub second_decides : (first second q r : Bool) → q ≡ first → q ≡ false → r ≡ second → r ≡ (first || (second || false))
second_decides true second q r e f s = absurd (false≢true (sym f ∙ e))
second_decides false true q r e f s = s
second_decides false false q r e f s = s

-- a word of ASCII characters begins a text where it begins its bytes
begins_first : (d c : ℕ) (word text : List ℕ) → begins (d ∷ word) (c ∷ text) ≡ (if d == c then begins word text else false)
begins_first d c word text = by_test (d == c) (strip word text)
  where
    by_test : (b : Bool) (o : Option (List ℕ)) → is_some (if b then o else None) ≡ (if b then is_some o else false)
    by_test true o = refl
    by_test false o = refl

begins_encoded : (d c : ℕ) (word rest : List ℕ) → d < 128 → begins (d ∷ word) (encode_utf8 c ++ rest) ≡ (if d == c then begins word rest else false)
unfolding encode_utf8
begins_encoded d c word rest low = grind (arith, low)

begins_all : (word cs : List ℕ) → AllByRecursion (λ c. c < 128) word → begins word (encode_utf8_all cs) ≡ begins word cs
begins_all [] cs low = refl
begins_all (d ∷ word) [] low = refl
begins_all (d ∷ word) (c ∷ cs) low =
    begins_encoded d c word (encode_utf8_all cs) low.0
    ∙ ap (λ (b : Bool). if d == c then b else false) (begins_all word cs low.1)
    ∙ sym (begins_first d c word cs)

begins_by_bytes : (word text : List ℕ) → AllByRecursion (λ c. c < 128) word → IsUtf8 text → begins word text ≡ begins word (chars text)
begins_by_bytes word text low u = ap (begins word) (sym (encodes-chars text u)) ∙ begins_all word (chars text) low

-- a text begins with two ASCII characters where they are its first two bytes
both_begin : (d e : ℕ) (text : List ℕ) → 2 ≤ length text → begins (d ∷ e ∷ []) text ≡ ((d == get_or text 0 0) && (e == get_or text 1 0))
both_begin d e [] long = absurd (omega (arith, long))
both_begin d e (a ∷ []) long = absurd (omega (arith, long))
both_begin d e (a ∷ b ∷ text) long = by_tests (d == a) (e == b)
  where
    by_tests : (p q : Bool) → is_some (if p then (if q then Some text else None) else None) ≡ (p && q)
    by_tests true true = refl
    by_tests true false = refl
    by_tests false q = refl

short_begins : (d e : ℕ) (text : List ℕ) → length text < 2 → begins (d ∷ e ∷ []) text ≡ false
short_begins d e [] short = refl
short_begins d e (a ∷ []) short = by_test (d == a)
  where
    by_test : (p : Bool) → is_some (if p then strip (e ∷ []) [] else None) ≡ false
    by_test true = refl
    by_test false = refl
short_begins d e (a ∷ b ∷ text) short = absurd (omega (arith, short))

-- the characters begin with the word where the bytes do
by_bytes : (word bs text : List ℕ) → AllByRecursion (λ c. c < 128) word → IsUtf8 text → bs ≡ text → begins word bs ≡ begins word (chars text)
by_bytes word bs text low u is = ap (begins word) is ∙ begins_by_bytes word text low u

pub two_bytes : (d e : ℕ) (bs text : List ℕ) → d < 128 → e < 128 → IsUtf8 text → bs ≡ text → 2 ≤ length bs → get_or bs 0 0 ≡ d → get_or bs 1 0 ≡ e → true ≡ begins (d ∷ e ∷ []) (chars text)
two_bytes d e bs text low less u is long first second =
    let tests : ((d == get_or bs 0 0) && (e == get_or bs 1 0)) ≡ true = grind (arith, nat_tests) in
    sym (both_begin d e bs long ∙ tests) ∙ by_bytes (d ∷ e ∷ []) bs text (low, (less, tt)) u is

pub one_byte : (d e : ℕ) (bs text : List ℕ) → d < 128 → e < 128 → IsUtf8 text → bs ≡ text → length bs < 2 → false ≡ begins (d ∷ e ∷ []) (chars text)
one_byte d e bs text low less u is short = sym (short_begins d e bs short) ∙ by_bytes (d ∷ e ∷ []) bs text (low, (less, tt)) u is

pub other_first : (d e : ℕ) (bs text : List ℕ) → d < 128 → e < 128 → IsUtf8 text → bs ≡ text → 2 ≤ length bs → (get_or bs 0 0 ≡ d → ⊥) → false ≡ begins (d ∷ e ∷ []) (chars text)
other_first d e bs text low less u is long other =
    let tests : ((d == get_or bs 0 0) && (e == get_or bs 1 0)) ≡ false = grind (arith, nat_tests) in
    sym (both_begin d e bs long ∙ tests) ∙ by_bytes (d ∷ e ∷ []) bs text (low, (less, tt)) u is

pub other_second : (d e : ℕ) (bs text : List ℕ) → d < 128 → e < 128 → IsUtf8 text → bs ≡ text → 2 ≤ length bs → (get_or bs 1 0 ≡ e → ⊥) → false ≡ begins (d ∷ e ∷ []) (chars text)
other_second d e bs text low less u is long other =
    let tests : ((d == get_or bs 0 0) && (e == get_or bs 1 0)) ≡ false = grind (arith, nat_tests) in
    sym (both_begin d e bs long ∙ tests) ∙ by_bytes (d ∷ e ∷ []) bs text (low, (less, tt)) u is
