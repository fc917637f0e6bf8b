-- A source has one tree or one refusal, and never both.
use Rattle.std.proofs.Common.{◌≡◌, ℕ, ◌⊎◌, inl, inr, List, refl, sym, ap, ◌∙◌, subst}
use Rattle.std.specs.Str.{chars}
use Rattle.std.proofs.lemmas.Str.{utf8_valid_len-IsValidUpTo}
use Rattle.rf_base_grammar.specs.Token.{Token}
use Rattle.rf_base_grammar.specs.Sources.{HasItems}
use Rattle.rf_base_grammar.proofs.OneReading.{Itemised-apart, LexRefused-one}
use Rattle.rf_base_grammar.proofs.Sources.{valid_apart, one_items, bytes_lexed_or_refused}
use Rattle.rf_base_tree.specs.Trees.{Forest}
use Rattle.rf_base_tree.specs.Refusals.{TreeRefused}
use Rattle.rf_base_tree.specs.declared.refusals.TreeKind.{TreeKind}
use Rattle.rf_base_tree.proofs.OneTree.{Treed-apart, TreeRefused-one, treed_or_refused}
use Rattle.rf_base_source.specs.Sources.{HasTree, Refused}
use Rattle.rf_base_source.specs.declared.refusals.SourceKind.{SourceKind}
use Rattle.rf_base_source.specs.declared.refusals.SourceKind.TheVariants.{NotUtf8, Lex, Tree}

-- a source has one list of items, so what refuses these refuses those
same_refusal : (source : List ℕ) (ts us : List Token) (kind : TreeKind) (offset : ℕ) → HasItems source ts →
    HasItems source us → TreeRefused us kind offset → TreeRefused ts kind offset
same_refusal source ts us kind offset h k r = subst (λ vs. TreeRefused vs kind offset) (one_items source us ts k h) r

-- no source both has a tree and is refused
pub Refused-apart : (source : List ℕ) (ts : List Token) (trees : Forest) (kind : SourceKind) (offset : ℕ) →
    HasTree source ts trees → Refused source kind offset → ⊥
Refused-apart source ts trees NotUtf8 offset h r = valid_apart source offset h.0.0 r
Refused-apart source ts trees (Lex kind) offset h r = Itemised-apart (chars source) ts kind offset h.0.1 r.1
Refused-apart source ts trees (Tree kind) offset h r =
    Treed-apart ts trees kind offset h.1 (same_refusal source ts r.0 kind offset h.0 r.1 r.2)

-- a source is refused in one way
pub Refused-one : (source : List ℕ) (k k' : SourceKind) (o o' : ℕ) → Refused source k o → Refused source k' o' →
    (k ≡ k') × (o ≡ o')
Refused-one source NotUtf8 NotUtf8 o o' h h' = (
  refl,
  sym (utf8_valid_len-IsValidUpTo source o h) ∙ utf8_valid_len-IsValidUpTo source o' h',
)
Refused-one source NotUtf8 (Lex k') o o' h h' = absurd (valid_apart source o h'.0 h)
Refused-one source NotUtf8 (Tree k') o o' h h' = absurd (valid_apart source o h'.1.0 h)
Refused-one source (Lex k) NotUtf8 o o' h h' = absurd (valid_apart source o' h.0 h')
Refused-one source (Lex k) (Lex k') o o' h h' =
    let r = LexRefused-one (chars source) k k' o o' h.1 h'.1 in
    (ap Lex r.0, r.1)
Refused-one source (Lex k) (Tree k') o o' h h' = absurd (Itemised-apart (chars source) h'.0 k o h'.1.1 h.1)
Refused-one source (Tree k) NotUtf8 o o' h h' = absurd (valid_apart source o' h.1.0 h')
Refused-one source (Tree k) (Lex k') o o' h h' = absurd (Itemised-apart (chars source) h.0 k' o' h.1.1 h'.1)
Refused-one source (Tree k) (Tree k') o o' h h' =
    let r = TreeRefused-one h.0 k k' o o' h.2 (same_refusal source h.0 h'.0 k' o' h.1 h'.1 h'.2) in
    (ap Tree r.0, r.1)

-- each source has a tree or is refused
abbrev IsAnswered : List ℕ → Type 0
IsAnswered source =
    ((ts : List Token) × (trees : Forest) × HasTree source ts trees)
    ⊎ ((kind : SourceKind) × (offset : ℕ) × Refused source kind offset)

items_answered : (source : List ℕ) (ts : List Token) → HasItems source ts → IsAnswered source
items_answered source ts has =
    elim (treed_or_refused ts) [
      | inl good ↦ inl (ts, good.0, (has, good.1))
      | inr bad ↦ inr (Tree bad.0, bad.1, (ts, has, bad.2))
    ]

pub each_answered : (source : List ℕ) → IsAnswered source
each_answered source =
    elim (bytes_lexed_or_refused source) [
      | inl items ↦ items_answered source items.0 items.1
      | inr refused ↦ elim refused [
        | inl bytes ↦ inr (NotUtf8, bytes.0, bytes.1)
        | inr place ↦ inr (Lex place.0, place.1, (place.2, place.3))
      ]
    ]
