-- Elements of lists in a row, of slices, and halves of slices.
use Rattle.std.proofs.Common.{◌≡◌, ℕ, zero, suc, ◌+◌, ◌-◌, ◌≤◌, ◌<◌, List, [], ◌∷◌, ◌++◌, length, map, take, drop, refl, sym, ◌∙◌, ap, ap₂, subst, Some, None, slice_get, get_or, ltb, true, false, arith}
use Rattle.std.proofs.lemmas.List.{length-drop, length-take, drop-take, take-map, drop-map}
use Rattle.std.proofs.Math.Seq.{take-take, drop-drop}
use Rattle.std.proofs.lemmas.Bool.Decides.{nat_tests}
use Rattle.std.proofs.lemmas.Option.{slice_get_past, slice_get_read}
use Rattle.std.specs.List.{slice_range}
use Rattle.std.specs.Option.{option_map}
use Rattle.rf_base_document.specs.Document.{Doc, Concat}
use Rattle.rf_base_document.specs.Sequence.{half_up, seq}
use Rattle.rf_base_document.proofs.Sequence.{seq_joins_halves}

pub get_behind : {A : Type 0} (xs ys : List A) (p i : ℕ) → i ≡ length xs + p → slice_get (xs ++ ys) i ≡ slice_get ys p
get_behind [] ys p i is = ap (slice_get ys) (is ∙ omega arith)
get_behind (x ∷ xs) ys p zero is = absurd (omega (arith, is))
get_behind (x ∷ xs) ys p (suc i) is = get_behind xs ys p i (omega (arith, is))

pub get_dropped : {A : Type 0} (xs : List A) (a p : ℕ) → slice_get (drop a xs) p ≡ slice_get xs (a + p)
get_dropped xs zero p = ap (slice_get xs) (omega arith)
get_dropped [] (suc a) p = refl
get_dropped (x ∷ xs) (suc a) p = get_dropped xs a p ∙ sym (ap (slice_get (x ∷ xs)) (suc_plus a p)) where
  suc_plus : (a p : ℕ) → suc a + p ≡ suc (a + p)
  suc_plus a p = omega arith

get_taken : {A : Type 0} (xs : List A) (n p : ℕ) → p < n → slice_get (take n xs) p ≡ slice_get xs p
get_taken xs zero p less = absurd (omega (arith, less))
get_taken [] (suc n) p less = refl
get_taken (x ∷ xs) (suc n) zero less = refl
get_taken (x ∷ xs) (suc n) (suc p) less = get_taken xs n p (omega (arith, less))

-- an element of a slice
pub get_sliced : {A : Type 0} (xs : List A) (a b p : ℕ) → a + p < b → slice_get (slice_range xs a b) p ≡ slice_get xs (a + p)
get_sliced xs a b p less = get_taken (drop a xs) (b - a) p (omega (arith, less)) ∙ get_dropped xs a p

pub get_mapped : {A B : Type 0} (f : A → B) (xs : List A) (p : ℕ) → slice_get (map f xs) p ≡ option_map f (slice_get xs p)
get_mapped f [] p = refl
get_mapped f (x ∷ xs) zero = refl
get_mapped f (x ∷ xs) (suc p) = get_mapped f xs p

pub length_sliced : {A : Type 0} (xs : List A) (a b : ℕ) → b ≤ length xs → length (slice_range xs a b) ≡ b - a
length_sliced xs a b within =
    length-take (b - a) (drop a xs) ∙ omega (arith, within, length-drop a xs)

pub mapped_slice : {A B : Type 0} (f : A → B) (xs : List A) (a b : ℕ) → slice_range (map f xs) a b ≡ map f (slice_range xs a b)
mapped_slice f xs a b = ap (take (b - a)) (drop-map f a xs) ∙ take-map f (b - a) (drop a xs)

-- a slice of one element, and of none
one_more : (a : ℕ) → a + 1 - a ≡ 1
one_more a = omega arith

none_more : (a : ℕ) → a - a ≡ 0
none_more a = omega arith

first_dropped : {A : Type 0} (xs : List A) (a : ℕ) (x : A) → slice_get xs a ≡ Some x → take 1 (drop a xs) ≡ x ∷ []
first_dropped [] a x is = cc
first_dropped (y ∷ xs) zero x is = cc
first_dropped (y ∷ xs) (suc a) x is = first_dropped xs a x is

pub slice_of_one : {A : Type 0} (xs : List A) (a : ℕ) (x : A) → slice_get xs a ≡ Some x → slice_range xs a (a + 1) ≡ x ∷ []
slice_of_one xs a x is = ap (λ (n : ℕ). take n (drop a xs)) (one_more a) ∙ first_dropped xs a x is

pub slice_of_none : {A : Type 0} (xs : List A) (a : ℕ) → slice_range xs a a ≡ []
slice_of_none xs a = ap (λ (n : ℕ). take n (drop a xs)) (none_more a)

-- a sequence of a slice is those of its halves
pub slice_halves : (docs : List Doc) (from to mid : ℕ) → from + 2 ≤ to → to ≤ length docs → mid ≡ from + half_up (to - from) →
    seq (slice_range docs from to) ≡ Concat (seq (slice_range docs from mid)) (seq (slice_range docs mid to))
slice_halves docs from to mid some within is =
    seq_joins_halves part (omega (arith, count, some))
    ∙ ap₂ Concat (ap seq first) (ap seq second)
  where
    part : List Doc
    part = slice_range docs from to

    count : length part ≡ to - from
    count = length_sliced docs from to within

    half : ℕ
    half = half_up (length part)

    is_half : half ≡ mid - from
    is_half = ap half_up count ∙ omega (arith, is)

    small : half_up (to - from) ≤ to - from
    small = omega (arith, some)

    first : take half part ≡ slice_range docs from mid
    first = take-take half (to - from) (drop from docs) (omega (arith, is_half, is, small)) ∙ ap (λ (n : ℕ). take n (drop from docs)) is_half

    second : drop half part ≡ slice_range docs mid to
    second =
        ap (λ (n : ℕ). drop half (take n (drop from docs))) rest ∙ drop-take half (to - mid) (drop from docs)
        ∙ ap (take (to - mid)) (drop-drop half from docs ∙ ap (λ (n : ℕ). drop n docs) at)
      where
        rest : to - from ≡ half + (to - mid)
        rest = omega (arith, is_half, is, small, some)

        at : from + half ≡ mid
        at = omega (arith, is_half, is)

-- what `get` tells of a list
pub get_none : {A : Type 0} {xs ys : List A} (k : ℕ) → ys ≡ xs → false ≡ ltb k (length ys) → slice_get xs k ≡ None
get_none {xs = xs} {ys = ys} k same none =
    let past : length ys ≤ k = grind (arith, nat_tests) in
    slice_get_past xs k (subst (λ (zs : List _). length zs ≤ k) same past)

pub get_some : {A : Type 0} {xs ys : List A} (k : ℕ) {x : A} → ys ≡ xs → true ≡ ltb k (length ys) → x ≡ get_or ys k x → slice_get xs k ≡ Some x
get_some {xs = xs} {ys = ys} k {x} same some is =
    let less : k < length ys = grind (arith, nat_tests) in
    ap (λ (zs : List _). slice_get zs k) (sym same) ∙ slice_get_read ys (length ys) k x refl less is
