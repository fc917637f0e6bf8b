-- The characters of parts of a source, and of a text that is empty or one sign.
use Rattle.std.proofs.Common.{◌≡◌, ℕ, zero, suc, ◌<◌, ◌≤◌, Bool, true, List, [], ◌∷◌, ◌++◌, ◌+◌, ◌-◌, length, get_or, take, drop, take-add, drop-drop, slice_get, slice_range, Some, ap, sym, ◌∙◌, subst, arith}
use Rattle.std.specs.Char.{is_ascii_graphic}
use Rattle.std.specs.List.{slice_index}
use Rattle.std.proofs.lemmas.Bool.{false≢true}
use Rattle.std.specs.Str.{chars, IsUtf8, IsAscii}
use Rattle.std.proofs.lemmas.Option.{slice_get_within}
use Rattle.std.proofs.lemmas.Str.{chars-append, chars-nil, chars-IsAscii, IsUtf8-append, IsUtf8-nil, IsUtf8-from_ascii}
use Rattle.rf_base_document.specs.Document.{IsOneLine}
use Rattle.rf_lines.specs.Written.{IsPart}

pub no_chars : (s : List ℕ) → s ≡ [] → chars s ≡ []
no_chars s e = ap chars e ∙ chars-nil

-- a part of a source and the part behind it
cut_in_two : {A : Type 0} (xs : List A) (from to end : ℕ) → from ≤ to → to ≤ end → slice_range xs from end ≡ slice_range xs from to ++ slice_range xs to end
cut_in_two {A = A} xs from to end order behind =
    ap (λ (n : ℕ). take n (drop from xs)) (sums from to end order behind) ∙ take-add (to - from) (end - to) (drop from xs)
    ∙ ap (λ (ys : List A). slice_range xs from to ++ take (end - to) ys) (drop-drop (to - from) from xs ∙ ap (λ (n : ℕ). drop n xs) (place from to order))
  where
    sums : (from to end : ℕ) → from ≤ to → to ≤ end → end - from ≡ (to - from) + (end - to)
    sums from to end order behind = omega (arith, order, behind)

    place : (from to : ℕ) → from ≤ to → from + (to - from) ≡ to
    place from to order = omega (arith, order)

pub seam : (src : List ℕ) (from to end : ℕ) → IsPart src from to → IsPart src to end →
    IsPart src from end × (chars (slice_range src from end) ≡ chars (slice_range src from to) ++ chars (slice_range src to end))
seam src from to end h k =
    let cut : slice_range src from end ≡ slice_range src from to ++ slice_range src to end = cut_in_two src from to end h.ordered k.ordered in (
      record {
        ordered = omega (arith, h.ordered, k.ordered);
        within = k.within;
        utf8 = subst IsUtf8 (sym cut) (IsUtf8-append (slice_range src from to) (slice_range src to end) h.utf8 k.utf8);
      },
      ap chars cut ∙ chars-append (slice_range src from to) (slice_range src to end) h.utf8,
    )

-- no byte of it
nothing_more : (a : ℕ) → a - a ≡ 0
nothing_more a = omega arith

none_at : (src : List ℕ) (at : ℕ) → slice_range src at at ≡ []
none_at src at = ap (λ (n : ℕ). take n (drop at src)) (nothing_more at)

pub part_empty : (src : List ℕ) (at : ℕ) → at ≤ length src → IsPart src at at × (chars (slice_range src at at) ≡ [])
part_empty src at within =
    (record { ordered = omega arith; within = within; utf8 = subst IsUtf8 (sym (none_at src at)) IsUtf8-nil }, no_chars (slice_range src at at) (none_at src at))

-- one byte of it, which is a space
first_dropped : (src : List ℕ) (at b : ℕ) → slice_get src at ≡ Some b → take 1 (drop at src) ≡ b ∷ []
first_dropped [] at b e = cc
first_dropped (x ∷ src) zero b e = cc
first_dropped (x ∷ src) (suc at) b e = first_dropped src at b e

one_more : (a : ℕ) → a + 1 - a ≡ 1
one_more a = omega arith

-- a byte that is ASCII is one character, and a graphic one is no LF
ascii_one : (b : ℕ) → b < 128 → IsAscii (b ∷ [])
ascii_one b small = λ i. each i
  where
    each : (i : ℕ) → slice_index (b ∷ []) i < 128
    each zero = small
    each (suc i) = omega arith

one_char : (b : ℕ) → b < 128 → chars (b ∷ []) ≡ b ∷ []
one_char b small = chars-IsAscii (b ∷ []) (ascii_one b small)

pub part_space : (src : List ℕ) (at : ℕ) → slice_get src at ≡ Some 32 → IsPart src at (at + 1) × (chars (slice_range src at (at + 1)) ≡ 32 ∷ [])
part_space src at e =
    let is : slice_range src at (at + 1) ≡ 32 ∷ [] = ap (λ (n : ℕ). take n (drop at src)) (one_more at) ∙ first_dropped src at 32 e in
    let there : at < length src = slice_get_within src at 32 e in (
      record {
        ordered = omega arith;
        within = omega (arith, there);
        utf8 = subst IsUtf8 (sym is) (IsUtf8-from_ascii (32 ∷ []) (ascii_one 32 (omega arith)));
      },
      ap chars is ∙ one_char 32 (omega arith),
    )

no_feed : (b i : ℕ) → (b ≡ 10 → ⊥) → i < 1 → get_or (b ∷ []) i 10 ≡ 10 → ⊥
no_feed b zero other within e = other e
no_feed b (suc i) other within e = let less : suc i < 1 = within in omega (arith, less)

sign_is : (b : ℕ) → is_ascii_graphic b ≡ true → IsOneLine (chars (b ∷ [])) × (length (chars (b ∷ [])) ≡ 1)
sign_is b graphic =
    let are : chars (b ∷ []) ≡ b ∷ [] = one_char b (grind (arith, graphic)) in
    let other : b ≡ 10 → ⊥ = λ e. false≢true (ap is_ascii_graphic (sym e) ∙ graphic) in
    (subst IsOneLine (sym are) (λ held. no_feed b held.0 other held.1 held.2), ap length are)

pub one_sign : (bytes s : List ℕ) (d : ℕ) (q : Bool) → bytes ≡ s → 1 ≤ length bytes → length bytes < 2 → q ≡ is_ascii_graphic (get_or bytes 0 d) → q ≡ true → IsOneLine (chars s) × (length (chars s) ≡ 1)
one_sign [] s d q is low high e holds = absurd (let none : 1 ≤ 0 = low in omega (arith, none))
one_sign (b ∷ []) s d q is low high e holds =
    subst (λ (bs : List ℕ). IsOneLine (chars bs) × (length (chars bs) ≡ 1)) is (sign_is b (sym e ∙ holds))
one_sign (a ∷ b ∷ bytes) s d q is low high e holds = absurd (omega (arith, high))
