-- What the items of a text tell of its characters.
use Rattle.std.proofs.Common.{◌≡◌, ℕ, zero, suc, ◌+◌, ◌*◌, ◌<◌, ◌≤◌, length-append, List, [], ◌∷◌, ◌++◌, length, Some, slice_get, refl, sym, ap, ◌∙◌, subst, arith, sum_by}
use Rattle.std.proofs.lemmas.List.{append_assoc}
use Rattle.std.proofs.lemmas.List.Sums.{sum_by-append, sum_by-cons}
use Rattle.std.specs.Char.{len_utf8}
use Rattle.rf_base_grammar.specs.Characters.{byte_len}
use Rattle.rf_base_grammar.specs.Token.{Token}
use Rattle.rf_base_grammar.specs.Spelled.{Spelled}
use Rattle.rf_base_grammar.specs.Itemised.{Leads}
use Rattle.rf_base_grammar.specs.declared.kinds.Kind.{Kind}
use Rattle.rf_base_grammar.proofs.OneReading.{spelled_some}

pub byte_len-append : (xs ys : List ℕ) → byte_len (xs ++ ys) ≡ byte_len xs + byte_len ys
byte_len-append xs ys = sum_by-append len_utf8 xs ys

-- where a token stands in the text
pub record Stand (offset : ℕ) (text : List ℕ) (t : Token) : Type 0 where
  pub before : List ℕ
  pub after : List ℕ
  pub text_is : text ≡ before ++ (t.spelling ++ after)
  pub start_is : t.start ≡ offset + byte_len before
  pub spelled : Spelled t.kind t.spelling

pub Leads-stand : (kinds : List Kind) (offset : ℕ) (text : List ℕ) (ts : List Token) (rest : List ℕ) →
    Leads kinds offset text ts rest → (n : ℕ) (t : Token) → slice_get ts n ≡ Some t → Stand offset text t
Leads-stand kinds offset text [] rest h n t e = cc
Leads-stand kinds offset text (u ∷ ts) rest h zero t e =
    let same : u ≡ t = cc in
    let b = h.1 in
    subst (λ (v : Token). Stand offset text v) same
    (record {
      before = b.gap;
      after = h.0;
      text_is = b.text_is ∙ ap
          (λ xs. b.gap ++ xs) b.item.text_is;
      start_is = b.start_is;
      spelled = b.item.spelled;
    })
Leads-stand kinds offset text (u ∷ ts) rest h (suc n) t e =
    let b = h.1 in
    let c = Leads-stand (u.kind ∷ kinds) (u.start + byte_len u.spelling) h.0 ts rest h.2 n t e in
    let lengths : byte_len (b.gap ++ (u.spelling ++ c.before))
    ≡ byte_len b.gap + (byte_len u.spelling + byte_len c.before) =
    byte_len-append b.gap (u.spelling ++ c.before)
    ∙ ap (λ k. byte_len b.gap + k) (byte_len-append u.spelling c.before) in
    record {
      before = b.gap ++ (u.spelling ++ c.before);
      after = c.after;
      text_is =
          b.text_is ∙ ap (λ xs. b.gap ++ xs) (b.item.text_is ∙ ap (λ xs. u.spelling ++ xs) c.text_is)
          ∙ ap (λ xs. b.gap ++ xs) (sym (append_assoc u.spelling c.before (t.spelling ++ c.after)))
          ∙ sym (append_assoc b.gap (u.spelling ++ c.before) (t.spelling ++ c.after));
      start_is = omega (arith, c.start_is, b.start_is, lengths);
      spelled = c.spelled;
    }

-- a spelling isn't empty
some_length : (s : List ℕ) → (s ≡ [] → ⊥) → 0 < length s
some_length [] h = absurd (h refl)
some_length (c ∷ s) h = omega arith

-- the spellings, each counted with one character more, are at most twice as long as the text
pub Leads-lengths : (kinds : List Kind) (offset : ℕ) (text : List ℕ) (ts : List Token) (rest : List ℕ) →
    Leads kinds offset text ts rest → sum_by (λ t. length t.spelling + 1) ts + 2 * length rest ≤ 2 * length text
Leads-lengths kinds offset text [] rest h = omega (arith, ap length h)
Leads-lengths kinds offset text (t ∷ ts) rest h =
    let begins = h.1 in
    let some = some_length t.spelling (spelled_some t.kind t.spelling begins.item.spelled) in
    let whole : length text ≡ length begins.gap + (length t.spelling + length h.0) =
    ap length (begins.text_is ∙ ap (λ xs. begins.gap ++ xs) begins.item.text_is)
    ∙ length-append begins.gap (t.spelling ++ h.0)
    ∙ ap (λ k. length begins.gap + k) (length-append t.spelling h.0) in
    omega (
      arith,
      sum_by-cons (λ (u : Token). length u.spelling + 1) t ts,
      Leads-lengths (t.kind ∷ kinds)
          (t.start + byte_len t.spelling) h.0 ts rest h.2,
    )
