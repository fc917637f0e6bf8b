-- Whether the bytes are text is found first, and then whether the text is a document.
use Rattle.std.proofs.Common.{◌≡◌, false, List, ℕ, inl, inr, Some, Ok, rules}
use Rattle.std.specs.Str.{is_utf8, IsUtf8}
use Rattle.std.proofs.lemmas.Str.{IsUtf8-from_is_utf8, is_utf8-from_IsUtf8}
use Rattle.std.proofs.lemmas.Bool.{cases_Bool}
use Rattle.toml.specs.Parse.{parse_document}
use Rattle.toml.specs.Data.{Members}
use Rattle.rf_style.specs.StyleOf.{document_of}
use Rattle.rf_style.proofs.reading.document.Goals as goal

-- bytes that aren't UTF-8 fail its test
not_text : (bs : List ℕ) → (IsUtf8 bs → ⊥) → is_utf8 bs ≡ false
not_text bs apart =
    elim (cases_Bool (is_utf8 bs)) [
      | inl is ↦ absurd (apart (IsUtf8-from_is_utf8 bs is))
      | inr other ↦ other
    ]

pub returns-in-Err-clause-err : goal.returns-in-Err-clause-err
unfolding document_of
returns-in-Err-clause-err c = rw (not_text c.args.bytes.now c.in-Err.ensures.cases.0)

-- a text that is a document is what it says
document_of-text : (bytes text : List ℕ) (keys : Members) → text ≡ bytes → IsUtf8 bytes → parse_document text ≡ Some keys → document_of bytes ≡ Ok keys
unfolding document_of
document_of-text bytes text keys same is said = rw (is_utf8-from_IsUtf8 bytes is, ← same, said)

pub returns-in-Ok-table_from_str-clause-ok : goal.returns-in-Ok-table_from_str-clause-ok
returns-in-Ok-table_from_str-clause-ok c = document_of-text c.args.bytes.now c.in-Ok.text.now _ (search (rules, c.in-Ok.ensures.cases)) (search (rules, c.in-Ok.ensures.cases)) c.in-Ok-table_from_str.ensures.ok
