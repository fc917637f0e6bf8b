-- A text has the byte 10 exactly where it has the character LF.
use Rattle.std.proofs.Common.{◌≡◌, ℕ, Bool, true, false, ◌||◌, nat_eq, List, [], ◌∷◌, get_or, refl, sym, ap, ◌∙◌, subst, true≢false, arith}
use Rattle.std.specs.Char.{encode_utf8}
use Rattle.std.specs.Str.{encode_utf8_all, chars, IsUtf8}
use Rattle.std.specs.List.{list_any}
use Rattle.std.proofs.lemmas.List.Folds.{list_any-append, Any-from_list_any, list_any_at}
use Rattle.std.proofs.lemmas.Str.{encodes-chars}
use Rattle.std.proofs.Common.{eq-eqb}
use Rattle.rf_base_document.specs.Document.{IsOneLine}
use Rattle.rf_text.specs.Lines.{HoldsLineEnd}

-- whether the number is that of LF
abbrev is_feed : ℕ → Bool
is_feed b = nat_eq b 10

-- a character has the byte 10 where it is LF
any_in_character : (c : ℕ) → list_any is_feed (encode_utf8 c) ≡ is_feed c
unfolding encode_utf8
any_in_character c = grind arith

-- characters have the byte 10 where one of them is LF
any_in_characters : (cs : List ℕ) → list_any is_feed (encode_utf8_all cs) ≡ list_any is_feed cs
any_in_characters [] = refl
any_in_characters (c ∷ cs) =
    list_any-append is_feed (encode_utf8 c) (encode_utf8_all cs)
    ∙ ap (λ b. b || list_any is_feed (encode_utf8_all cs)) (any_in_character c)
    ∙ ap (λ b. is_feed c || b) (any_in_characters cs)

-- a text has the byte 10 where one of its characters is LF
any_in_text : (bs : List ℕ) → IsUtf8 bs → list_any is_feed bs ≡ list_any is_feed (chars bs)
any_in_text bs u = ap (list_any is_feed) (sym (encodes-chars bs u)) ∙ any_in_characters (chars bs)

-- a byte 10 is a line end
pub HoldsLineEnd-byte : (bs : List ℕ) → IsUtf8 bs → list_any is_feed bs ≡ true → HoldsLineEnd (chars bs)
HoldsLineEnd-byte bs u found =
    let at = Any-from_list_any is_feed (chars bs) (sym (any_in_text bs u) ∙ found) in
    let same : at.1 ≡ 10 = grind (arith, at.4) in
    (at.0, at.2, subst (λ x. get_or (chars bs) at.0 x ≡ x) same at.3)

-- with no byte 10 there is no line end
pub IsOneLine-byte : (bs : List ℕ) → IsUtf8 bs → list_any is_feed bs ≡ false → IsOneLine (chars bs)
IsOneLine-byte bs u none held =
    true≢false (sym (list_any_at is_feed (chars bs) held.0 10 held.1 (eq-eqb _ 10 held.2)) ∙ sym (any_in_text bs u) ∙ none)
