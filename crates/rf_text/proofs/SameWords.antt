-- Words, by their bytes and by their characters.
use Rattle.std.proofs.Common.{◌≡◌, ℕ, List, ap, sym, ◌∙◌}
use Rattle.std.proofs.lemmas.Slice.Eq.{bytes_eq-Decides}
use Rattle.std.specs.Bool.{one_answer}
use Rattle.std.specs.Str.{chars, bytes_eq, IsUtf8, encode_utf8_all}
use Rattle.std.proofs.lemmas.Str.{encodes-chars}

-- two texts are the same where their characters are
pub same_text : (text word : List ℕ) → IsUtf8 text → IsUtf8 word → bytes_eq text word ≡ bytes_eq (chars word) (chars text)
same_text text word u v =
    let by_bytes = bytes_eq-Decides text word in
    let by_chars = bytes_eq-Decides (chars word) (chars text) in
    one_answer (bytes_eq text word) (bytes_eq (chars word) (chars text)) by_bytes (
      λ yes. sym (encodes-chars text u) ∙ ap encode_utf8_all (sym (by_chars.0 yes)) ∙ encodes-chars word v,
      λ same. by_chars.1 (ap chars (sym same)),
    )
