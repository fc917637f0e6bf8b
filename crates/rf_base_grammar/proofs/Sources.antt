-- The bytes of a source have items, or aren't UTF-8, or are refused by the lexer.
use Rattle.std.proofs.Common.{◌≡◌, ℕ, suc, zero, ◌<◌, ◌≤◌, ◌⊎◌, inl, inr, true, false, List, length, take, refl, sym, subst, arith}
use Rattle.std.specs.Str.{chars, IsUtf8, is_utf8, IsValidUpTo}
use Rattle.std.proofs.lemmas.Bool.{both_ways, cases_lt}
use Rattle.std.proofs.lemmas.List.{take_all}
use Rattle.std.proofs.lemmas.Str.{IsUtf8-from_is_utf8, is_utf8-from_IsUtf8, IsUtf8-nil}
use Rattle.rf_base_grammar.specs.Token.{Token}
use Rattle.rf_base_grammar.specs.Itemised.{Itemised}
use Rattle.rf_base_grammar.specs.Unreadable.{LexRefused}
use Rattle.rf_base_grammar.specs.Sources.{HasItems}
use Rattle.rf_base_grammar.specs.declared.refusals.LexKind.{LexKind}
use Rattle.rf_base_grammar.proofs.OneReading.{Itemised-one}
use Rattle.rf_base_grammar.proofs.Reached.{lexed_or_refused}

-- bytes that are UTF-8 aren't refused as no text
pub valid_apart : (source : List ℕ) (offset : ℕ) → IsUtf8 source → IsValidUpTo source offset → ⊥
valid_apart source offset u v =
    v.longest (length source) v.short (subst IsUtf8 (sym (take_all (length source) source (omega arith))) u)

-- a source has one list of items
pub one_items : (source : List ℕ) (ts us : List Token) → HasItems source ts → HasItems source us → ts ≡ us
one_items source ts us h k = Itemised-one (chars source) ts us h.1 k.1

-- the longest front of at most n bytes that is UTF-8, and that none between is
longest_front : (source : List ℕ) (n : ℕ) →
    (m : ℕ) × (m ≤ n) × IsUtf8 (take m source) × ((k : ℕ) → m < k → k ≤ n → IsUtf8 (take k source) → ⊥)
longest_front source zero = (0, omega arith, IsUtf8-nil, λ k l h u. omega arith)
longest_front source (suc n) =
    elim (is_utf8 (take (suc n) source)) as
    (λ b. is_utf8 (take (suc n) source) ≡ b →
    (m : ℕ) × (m ≤ suc n) × IsUtf8 (take m source) × ((k : ℕ) → m < k → k ≤ suc n → IsUtf8 (take k source) → ⊥)) [
      | true ↦ λ e. (suc n, omega arith, IsUtf8-from_is_utf8 (take (suc n) source) e, λ k l h u. omega arith)
      | false ↦ λ e.
          let r = longest_front source n in
          (r.0, omega (arith, r.1), r.2, λ k l h u. above e r.3 k l h u)
    ] refl
  where
    above : {m : ℕ} → is_utf8 (take (suc n) source) ≡ false → ((k : ℕ) → m < k → k ≤ n → IsUtf8 (take k source) → ⊥) →
        (k : ℕ) → m < k → k ≤ suc n → IsUtf8 (take k source) → ⊥
    above e none k l h u =
        elim (cases_lt n k) [
          | inl more ↦
              let same : k ≡ suc n = omega arith in
              both_ways (is_utf8 (take (suc n) source)) e
              (is_utf8-from_IsUtf8 (take (suc n) source) (subst (λ j. IsUtf8 (take j source)) same u))
          | inr less ↦ none k l less u
        ]

-- bytes that aren't UTF-8 are refused where they cease to be
not_text : (source : List ℕ) → (IsUtf8 source → ⊥) → (offset : ℕ) × IsValidUpTo source offset
not_text source n =
    let r = longest_front source (length source) in
    let whole : take (length source) source ≡ source = take_all (length source) source (omega arith) in
    (r.0, record { short = is_short r.0 r.1 r.2; front = r.2; longest = λ k l u. longer r.0 r.3 k l u })
  where
    is_short : (m : ℕ) → m ≤ length source → IsUtf8 (take m source) → m < length source
    is_short m l u =
        elim (cases_lt m (length source)) [
          | inl less ↦ less
          | inr more ↦ absurd (n (subst IsUtf8 (take_all m source more) u))
        ]

    longer : (m : ℕ) → ((k : ℕ) → m < k → k ≤ length source → IsUtf8 (take k source) → ⊥) → (k : ℕ) → m < k →
        IsUtf8 (take k source) → ⊥
    longer m none k l u =
        elim (cases_lt (length source) k) [
          | inl more ↦ n (subst IsUtf8 (take_all k source (omega arith)) u)
          | inr less ↦ none k l less u
        ]

-- each byte string has items, or isn't UTF-8, or is refused by the lexer
abbrev IsLexed : List ℕ → Type 0
IsLexed source =
    ((ts : List Token) × HasItems source ts)
    ⊎ ((offset : ℕ) × IsValidUpTo source offset)
    ⊎ ((kind : LexKind) × (offset : ℕ) × IsUtf8 source × LexRefused (chars source) kind offset)

pub bytes_lexed_or_refused : (source : List ℕ) → IsLexed source
bytes_lexed_or_refused source =
    elim (is_utf8 source) as (λ b. is_utf8 source ≡ b → IsLexed source) [
      | true ↦ λ e. text (IsUtf8-from_is_utf8 source e) (lexed_or_refused (chars source))
      | false ↦ λ e. inr (inl (not_text source (λ u. both_ways (is_utf8 source) e (is_utf8-from_IsUtf8 source u))))
    ] refl
  where
    text : IsUtf8 source →
        ((ts : List Token) × Itemised (chars source) ts)
        ⊎ ((kind : LexKind) × (offset : ℕ) × LexRefused (chars source) kind offset) → IsLexed source
    text u (inl h) = inl (h.0, (u, h.1))
    text u (inr r) = inr (inr (r.0, r.1, u, r.2))
