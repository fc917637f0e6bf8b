-- Texts in two parts, and how many bytes stand in each.
use Rattle.std.proofs.Common.{◌≡◌, ℕ, ◌+◌, ◌-◌, ◌≤◌, nat_eq, List, [], ◌∷◌, ◌++◌, length, take, refl, sym, ap, ◌∙◌, arith, length-append}
use Rattle.std.specs.Char.{len_utf8, encode_utf8}
use Rattle.std.specs.Str.{chars, IsUtf8, encode_utf8_all}
use Rattle.std.proofs.lemmas.Str.{encodes-chars, encodes-append, length-encode, len_utf8_bounds, chars-append, length-le-encodes}
use Rattle.std.proofs.lemmas.List.{append_cancel_right}
use Rattle.std.proofs.lemmas.Bool.Decides.{nat_tests}
use Rattle.std.proofs.lemmas.List.Sums.{sum_by-cons}
use Rattle.std.proofs.lemmas.Bool.{ne_eqb}
use Rattle.rf_base_grammar.specs.Characters.{byte_len}
use Rattle.rf_base_grammar.specs.Reader.{is_nothing}
use Rattle.rf_base_grammar.proofs.Texts.{byte_len-append}

length-encodes : (cs : List ℕ) → length (encode_utf8_all cs) ≡ byte_len cs
length-encodes [] = refl
length-encodes (c ∷ cs) =
    omega (arith, length-append (encode_utf8 c) (encode_utf8_all cs), length-encode c, length-encodes cs, sum_by-cons len_utf8 c cs)

-- a text takes as many bytes as its characters do
pub byte_len-chars : (bs : List ℕ) → IsUtf8 bs → byte_len (chars bs) ≡ length bs
byte_len-chars bs u = sym (length-encodes (chars bs)) ∙ ap length (encodes-chars bs u)

-- the bytes of a text whose characters are in two parts
pub parts_len : (text rest front : List ℕ) → IsUtf8 text → IsUtf8 rest → chars text ≡ front ++ chars rest → length text ≡ byte_len front + length rest
parts_len text rest front u v e =
    omega (arith, byte_len-chars text u, byte_len-chars rest v, ap byte_len e, byte_len-append front (chars rest))

pub parts_are : (text rest front : List ℕ) → IsUtf8 text → IsUtf8 rest → chars text ≡ front ++ chars rest → text ≡ encode_utf8_all front ++ rest
parts_are text rest front u v e =
    sym (encodes-chars text u) ∙ ap encode_utf8_all e ∙ encodes-append front (chars rest) ∙ ap (λ xs. encode_utf8_all front ++ xs) (encodes-chars rest v)

some_bytes : (c : ℕ) (front : List ℕ) → 1 ≤ byte_len (c ∷ front)
some_bytes c front = omega (arith, (len_utf8_bounds c).0, sum_by-cons len_utf8 c front)

-- nothing stands in front just where both texts take as many bytes
pub nothing_in_front : (text rest front : List ℕ) → IsUtf8 text → IsUtf8 rest → chars text ≡ front ++ chars rest → nat_eq (length text) (length rest) ≡ is_nothing front
nothing_in_front text rest [] u v e =
    let n = parts_len text rest [] u v e in
    grind (arith, nat_tests)
nothing_in_front text rest (c ∷ front) u v e =
    let n = parts_len text rest (c ∷ front) u v e in
    let some = some_bytes c front in
    ne_eqb (length text) (length rest) (λ same. omega arith)

pub length_front : (front : List ℕ) → length (encode_utf8_all front) ≡ byte_len front
length_front front = length-encodes front

take_front : (xs ys : List ℕ) → take (length xs) (xs ++ ys) ≡ xs
take_front [] ys = refl
take_front (x ∷ xs) ys = ap (λ zs. x ∷ zs) (take_front xs ys)

-- the first bytes of a text, which the characters in front spell
pub front_bytes : (text rest front : List ℕ) → IsUtf8 text → IsUtf8 rest → chars text ≡ front ++ chars rest → take (length text - length rest) text ++ rest ≡ text
front_bytes text rest front u v e =
    let whole = parts_are text rest front u v e in
    let n : length text - length rest ≡ length (encode_utf8_all front) = omega (arith, parts_len text rest front u v e, length_front front) in
    rw n (ap (λ xs. take (length (encode_utf8_all front)) xs ++ rest) whole ∙ ap (λ xs. xs ++ rest) (take_front (encode_utf8_all front) rest) ∙ sym whole)

pub front_chars : (text rest front taken : List ℕ) → IsUtf8 text → IsUtf8 rest → IsUtf8 taken → chars text ≡ front ++ chars rest → taken ≡ take (length text - length rest) text → chars taken ≡ front
front_chars text rest front taken u v w e is =
    append_cancel_right (chars taken) front (chars rest)
    (sym (chars-append taken rest w) ∙ ap chars (ap (λ xs. xs ++ rest) is ∙ front_bytes text rest front u v e) ∙ e)

-- a text has at most as many characters as bytes
pub chars_len : (bs : List ℕ) → IsUtf8 bs → length (chars bs) ≤ length bs
chars_len bs u = omega (arith, length-le-encodes (chars bs), ap length (encodes-chars bs u))
