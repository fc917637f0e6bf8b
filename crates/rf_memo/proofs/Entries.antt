-- Lists of entries, each of which comes before those behind it.
use Rattle.std.proofs.lemmas.Bool.Decides.{nat_tests}
use Rattle.std.specs.Prelude.{◌&&◌, if◌then◌else◌}
use Rattle.std.proofs.Common.{Result, Ok, Err, OnOk, OnErr, set, ◌≡◌, ◌==◌, nat_lt, Bool, true, false, ℕ, zero, suc, ◌<◌, ◌≤◌, List, [], ◌∷◌, ◌++◌, length, take, drop, get_or, Option, Some, None, refl, sym, ◌∙◌, ap, ◌⊎◌, inl, inr, subst, arith}
use Rattle.std.proofs.lemmas.Bool.{cases_Bool, and_left}
use Rattle.rf_memo.specs.declared.page.Entry.{Entry}
use Rattle.rf_memo.specs.Page.{stands_at, value_at, Puts, precedes, EachBefore, EachBehind, IsOrdered, StartsFrom}

pub same_key : (a b : ℕ) → a ≡ b → (a == b) ≡ true
same_key a b e = grind (arith, nat_tests)

pub other_key : (a b : ℕ) → (a ≡ b → ⊥) → (a == b) ≡ false
other_key a b n = grind (arith, nat_tests)

-- a choice whose test is known
pub if_true : {A : Type 0} (b : Bool) (x y : A) → b ≡ true → (if b then x else y) ≡ x
if_true {A = A} b x y e = ap (λ (t : Bool). if t then x else y) e

pub if_false : {A : Type 0} (b : Bool) (x y : A) → b ≡ false → (if b then x else y) ≡ y
if_false {A = A} b x y e = ap (λ (t : Bool). if t then x else y) e

-- places as they precede one another
lt_true : (a b : ℕ) → a < b → nat_lt a b ≡ true
lt_true a b p = grind (arith, nat_tests)

is_lt : (a b : ℕ) → nat_lt a b ≡ true → a < b
is_lt a b p = grind (arith, nat_tests)

not_lt : (a b : ℕ) → nat_lt a b ≡ false → b ≤ a
not_lt a b p = grind (arith, nat_tests)

is_same : (a b : ℕ) → (a == b) ≡ true → a ≡ b
is_same a b p = grind (arith, nat_tests)

is_other : (a b : ℕ) → (a == b) ≡ false → a ≡ b → ⊥
is_other a b p = grind (arith, nat_tests)

clash : (b : Bool) → b ≡ true → b ≡ false → ⊥
clash b h k = cc

-- how one place precedes another
before_cases : (c i d j : ℕ) → precedes c i d j ≡ true → ((c ≡ d) × (i < j)) ⊎ (d < c)
before_cases c i d j p = elim (cases_Bool (c == d)) [
  | inl h ↦ inl (is_same c d h, is_lt i j (sym (if_true (c == d) (nat_lt i j) (nat_lt d c) h) ∙ p))
  | inr h ↦ inr (is_lt d c (sym (if_false (c == d) (nat_lt i j) (nat_lt d c) h) ∙ p))
]

before_left : (c i d j : ℕ) → d < c → precedes c i d j ≡ true
before_left c i d j p = if_false (c == d) (nat_lt i j) (nat_lt d c) (other_key c d (λ e. omega (arith, e, p))) ∙ lt_true d c p

before_there : (c i d j : ℕ) → c ≡ d → i < j → precedes c i d j ≡ true
before_there c i d j e p = if_true (c == d) (nat_lt i j) (nat_lt d c) (same_key c d e) ∙ lt_true i j p

before_then : (c i d j e k : ℕ) → precedes c i d j ≡ true → precedes d j e k ≡ true → precedes c i e k ≡ true
before_then c i d j e k p q = elim (before_cases c i d j p) [
  | inl a ↦
      let same : c ≡ d = a.0 in
      let less : i < j = a.1 in
      elim (before_cases d j e k q) [
        | inl b ↦ let there : d ≡ e = b.0 in let more : j < k = b.1 in before_there c i e k (same ∙ there) (omega (arith, less, more))
        | inr b ↦ let right : e < d = b in before_left c i e k (omega (arith, same, right))
      ]
  | inr a ↦
      let right : d < c = a in
      elim (before_cases d j e k q) [
        | inl b ↦ let there : d ≡ e = b.0 in before_left c i e k (omega (arith, right, there))
        | inr b ↦ let more : e < d = b in before_left c i e k (omega (arith, right, more))
      ]
]

both_true_left : (a b : Bool) → a ≡ true → (a && b) ≡ b
both_true_left a b e = ap (λ (t : Bool). t && b) e

-- a place isn't the one that it precedes
before_apart : (c i d j : ℕ) → precedes c i d j ≡ true → ((d == c) && (j == i)) ≡ false
before_apart c i d j p = elim (before_cases c i d j p) [
  | inl a ↦
      let same : c ≡ d = a.0 in
      let less : i < j = a.1 in
      both_true_left (d == c) (j == i) (same_key d c (sym same)) ∙ other_key j i (λ e. omega (arith, e, less))
  | inr a ↦ let right : d < c = a in and_left (d == c) (j == i) (other_key d c (λ e. omega (arith, e, right)))
]

behind_apart : (c i d j : ℕ) → precedes c i d j ≡ true → ((c == d) && (i == j)) ≡ false
behind_apart c i d j p = elim (before_cases c i d j p) [
  | inl a ↦
      let same : c ≡ d = a.0 in
      let less : i < j = a.1 in
      both_true_left (c == d) (i == j) (same_key c d same) ∙ other_key i j (λ e. omega (arith, e, less))
  | inr a ↦ let right : d < c = a in and_left (c == d) (i == j) (other_key c d (λ e. omega (arith, e, right)))
]

-- of two places that aren't the same one precedes the other
before_or : (c i d j : ℕ) → precedes c i d j ≡ false → ((d == c) && (j == i)) ≡ false → precedes d j c i ≡ true
before_or c i d j p q = elim (cases_Bool (c == d)) [
  | inl h ↦
      let same : c ≡ d = is_same c d h in
      let least : j ≤ i = not_lt i j (sym (if_true (c == d) (nat_lt i j) (nat_lt d c) h) ∙ p) in
      let other : j ≡ i → ⊥ = is_other j i (sym (both_true_left (d == c) (j == i) (same_key d c (sym same))) ∙ q) in
      before_there d j c i (sym same) (omega (arith, least, other))
  | inr h ↦
      let least : c ≤ d = not_lt d c (sym (if_false (c == d) (nat_lt i j) (nat_lt d c) h) ∙ p) in
      let other : c ≡ d → ⊥ = is_other c d h in
      before_left d j c i (omega (arith, least, other))
]

-- a place that is no other's
pub place_is : (c i d j : ℕ) → ((c == d) && (i == j)) ≡ true → (c ≡ d) × (i ≡ j)
place_is c i d j p = elim (cases_Bool (c == d)) [
  | inl h ↦ (is_same c d h, is_same i j (sym (both_true_left (c == d) (i == j) h) ∙ p))
  | inr h ↦ absurd (clash ((c == d) && (i == j)) p (and_left (c == d) (i == j) h))
]

-- what comes behind a place comes behind those that it comes behind
behind_more : {V : Type 0} (c i d j : ℕ) (xs : List (Entry V)) → precedes c i d j ≡ true → EachBehind d j xs → EachBehind c i xs
unfolding EachBehind
behind_more c i d j [] p h = tt
behind_more c i d j (x ∷ xs) p h = (before_then c i d j x.col x.indent p h.0, behind_more c i d j xs p h.1)

behind_none : {V : Type 0} (c i : ℕ) (xs : List (Entry V)) → EachBehind c i xs → value_at xs c i ≡ None
unfolding EachBehind value_at
behind_none c i [] h = refl
behind_none c i (x ∷ xs) h = if_false (stands_at x c i) (Some x.value) (value_at xs c i) (behind_apart c i x.col x.indent h.0) ∙ behind_none c i xs h.1

behind_at : {V : Type 0} (xs : List (Entry V)) (at c i : ℕ) (x : Entry V) → EachBehind c i xs → at < length xs → x ≡ get_or xs at x → precedes c i x.col x.indent ≡ true
unfolding EachBehind
behind_at [] at c i x a m e = absurd (omega arith)
behind_at {V = V} (y ∷ xs) zero c i x a m e = subst (λ (v : Entry V). precedes c i v.col v.indent ≡ true) (sym e) a.0
behind_at (y ∷ xs) (suc at) c i x a m e = behind_at xs at c i x a.1 (omega arith) e

-- the entries up to one that comes before the place come before it
pub before_up_to : {V : Type 0} (xs : List (Entry V)) (at c i : ℕ) (x : Entry V) → IsOrdered xs → at < length xs → x ≡ get_or xs at x → precedes x.col x.indent c i ≡ true → EachBefore c i (take (suc at) xs)
unfolding IsOrdered EachBefore
before_up_to [] at c i x r p e h = absurd (omega arith)
before_up_to {V = V} (y ∷ xs) zero c i x r p e h = (subst (λ (v : Entry V). precedes v.col v.indent c i ≡ true) e h, tt)
before_up_to (y ∷ xs) (suc at) c i x r p e h =
    (before_then y.col y.indent x.col x.indent c i (behind_at xs at y.col y.indent x r.0 (omega arith) e) h, before_up_to xs at c i x r.1 (omega arith) e h)

pub none_before : {V : Type 0} (c i : ℕ) (xs : List (Entry V)) → EachBefore c i (take 0 xs)
unfolding EachBefore
none_before c i [] = tt
none_before c i (x ∷ xs) = tt

pub none_start : {V : Type 0} (c i : ℕ) (xs : List (Entry V)) → StartsFrom c i (drop (length xs) xs)
none_start c i [] = tt
none_start c i (x ∷ xs) = none_start c i xs

-- the entry at the number is that of the place
found_hit : {V : Type 0} (xs : List (Entry V)) (at c i : ℕ) (x : Entry V) → EachBefore c i (take at xs) → at < length xs → x ≡ get_or xs at x → stands_at x c i ≡ true → value_at xs c i ≡ Some x.value
unfolding EachBefore value_at
found_hit [] at c i x b p e k = absurd (omega arith)
found_hit {V = V} (y ∷ xs) zero c i x b p e k =
    if_true (stands_at y c i) (Some y.value) (value_at xs c i) (subst (λ (v : Entry V). stands_at v c i ≡ true) e k) ∙ ap (λ (v : Entry V). Some v.value) (sym e)
found_hit (y ∷ xs) (suc at) c i x b p e k =
    if_false (stands_at y c i) (Some y.value) (value_at xs c i) (before_apart y.col y.indent c i b.0) ∙ found_hit xs at c i x b.1 (omega arith) e k

-- no entry comes before the place, and the first is another's
starts_behind : {V : Type 0} (xs : List (Entry V)) (c i : ℕ) → IsOrdered xs → StartsFrom c i xs → (0 < length xs → (x : Entry V) → x ≡ get_or xs 0 x → stands_at x c i ≡ false) → EachBehind c i xs
unfolding IsOrdered EachBehind
starts_behind [] c i r s n = tt
starts_behind (x ∷ xs) c i r s n =
    let first : precedes c i x.col x.indent ≡ true = before_or x.col x.indent c i s (n (omega arith) x refl) in
    (first, behind_more c i x.col x.indent xs first r.0)

behind_place : {V : Type 0} (xs : List (Entry V)) (at c i : ℕ) → IsOrdered xs → StartsFrom c i (drop at xs) → (at < length xs → (x : Entry V) → x ≡ get_or xs at x → stands_at x c i ≡ false) → EachBehind c i (drop at xs)
unfolding IsOrdered EachBehind
behind_place [] zero c i r s n = tt
behind_place [] (suc at) c i r s n = tt
behind_place (x ∷ xs) zero c i r s n = starts_behind (x ∷ xs) c i r s n
behind_place (x ∷ xs) (suc at) c i r s n = behind_place xs at c i r.1 s (λ p. n (omega arith))

found_miss : {V : Type 0} (xs : List (Entry V)) (at c i : ℕ) → EachBefore c i (take at xs) → EachBehind c i (drop at xs) → value_at xs c i ≡ None
unfolding EachBefore value_at
found_miss [] at c i b a = refl
found_miss (x ∷ xs) zero c i b a = behind_none c i (x ∷ xs) a
found_miss (x ∷ xs) (suc at) c i b a =
    if_false (stands_at x c i) (Some x.value) (value_at xs c i) (before_apart x.col x.indent c i b.0) ∙ found_miss xs at c i b.1 a

none_is : {A : Type 0} (o : Option A) (x : A) → o ≡ Some x → o ≡ None → ⊥
none_is o x h k = cc

-- where there is no value at the place, what doesn't come before it comes behind
behind_new : {V : Type 0} (xs : List (Entry V)) (at c i : ℕ) → IsOrdered xs → value_at xs c i ≡ None → EachBefore c i (take at xs) → StartsFrom c i (drop at xs) → EachBehind c i (drop at xs)
behind_new xs at c i r n b s = behind_place xs at c i r s (λ p x e. elim (cases_Bool (stands_at x c i)) [
  | inl h ↦ absurd (none_is (value_at xs c i) x.value (found_hit xs at c i x b p e h) n)
  | inr h ↦ h
])

else_same : {A : Type 0} (b c : Bool) (x y z : A) → c ≡ false → (if b then y else z) ≡ (if b then y else (if c then x else z))
else_same {A = A} b c x y z h = ap (λ (o : A). if b then y else o) (sym (if_false c x z h))

-- the tests of a place against two places of which one precedes the other can change sides
swap_places : {A : Type 0} (c i d j e k : ℕ) (x y z : A) → precedes d j e k ≡ true →
    (if (c == d) && (i == j) then x else (if (c == e) && (i == k) then y else z)) ≡ (if (c == e) && (i == k) then y else (if (c == d) && (i == j) then x else z))
swap_places c i d j e k x y z p =
    elim (cases_Bool ((c == d) && (i == j))) [
      | inl h ↦
          let at = place_is c i d j h in
          let column : c ≡ d = at.0 in
          let depth : i ≡ j = at.1 in
          let other : ((c == e) && (i == k)) ≡ false =
          ap (λ (n : ℕ). (n == e) && (i == k)) column ∙ (ap (λ (n : ℕ). (d == e) && (n == k)) depth ∙ behind_apart d j e k p) in
          if_true ((c == d) && (i == j)) x (if (c == e) && (i == k) then y else z) h
          ∙ (sym (if_true ((c == d) && (i == j)) x z h) ∙ sym (if_false ((c == e) && (i == k)) y (if (c == d) && (i == j) then x else z) other))
      | inr h ↦
          if_false ((c == d) && (i == j)) x (if (c == e) && (i == k) then y else z) h ∙ else_same ((c == e) && (i == k)) ((c == d) && (i == j)) x y z h
    ]

abbrev pub entry : {V : Type 0} → ℕ → ℕ → V → Entry V
entry col indent value = record { col = col; indent = indent; value = value }

insert_found : {V : Type 0} (xs : List (Entry V)) (at col indent : ℕ) (value : V) → EachBefore col indent (take at xs) → (c i : ℕ) →
    value_at (take at xs ++ entry col indent value ∷ drop at xs) c i ≡ (if (c == col) && (i == indent) then Some value else value_at xs c i)
unfolding value_at EachBefore
insert_found [] zero col indent value b c i = refl
insert_found [] (suc at) col indent value b c i = refl
insert_found (x ∷ xs) zero col indent value b c i = refl
insert_found {V = V} (x ∷ xs) (suc at) col indent value b c i =
    ap (λ (o : Option V). if stands_at x c i then Some x.value else o) (insert_found xs at col indent value b.1 c i)
    ∙ swap_places c i x.col x.indent col indent (Some x.value) (Some value) (value_at xs c i) b.0

insert_behind : {V : Type 0} (c i : ℕ) (xs : List (Entry V)) (at col indent : ℕ) (value : V) → EachBehind c i xs → precedes c i col indent ≡ true → EachBehind c i (take at xs ++ entry col indent value ∷ drop at xs)
unfolding EachBehind
insert_behind c i [] zero col indent value a p = (p, tt)
insert_behind c i [] (suc at) col indent value a p = (p, tt)
insert_behind c i (x ∷ xs) zero col indent value a p = (p, a)
insert_behind c i (x ∷ xs) (suc at) col indent value a p = (a.0, insert_behind c i xs at col indent value a.1 p)

insert_ordered : {V : Type 0} (xs : List (Entry V)) (at col indent : ℕ) (value : V) → IsOrdered xs → EachBefore col indent (take at xs) → EachBehind col indent (drop at xs) → IsOrdered (take at xs ++ entry col indent value ∷ drop at xs)
unfolding IsOrdered EachBefore EachBehind
insert_ordered [] zero col indent value r b a = (tt, tt)
insert_ordered [] (suc at) col indent value r b a = (tt, tt)
insert_ordered (x ∷ xs) zero col indent value r b a = (a, r)
insert_ordered (x ∷ xs) (suc at) col indent value r b a = (insert_behind x.col x.indent xs at col indent value r.0 b.0, insert_ordered xs at col indent value r.1 b.1 a)

-- an entry that was inserted at its place
pub inserted_puts : {V : Type 0} (xs ys : List (Entry V)) (at col indent : ℕ) (value : V) → ys ≡ take at xs ++ entry col indent value ∷ drop at xs → EachBefore col indent (take at xs) → Puts xs ys col indent value
inserted_puts {V = V} xs ys at col indent value e b c i = ap (λ (zs : List (Entry V)). value_at zs c i) e ∙ insert_found xs at col indent value b c i

pub inserted_ordered : {V : Type 0} (xs ys : List (Entry V)) (at col indent : ℕ) (value : V) → ys ≡ take at xs ++ entry col indent value ∷ drop at xs → IsOrdered xs → value_at xs col indent ≡ None →
    EachBefore col indent (take at xs) → StartsFrom col indent (drop at xs) → IsOrdered ys
inserted_ordered {V = V} xs ys at col indent value e r n b s =
    subst (λ (zs : List (Entry V)). IsOrdered zs) (sym e) (insert_ordered xs at col indent value r b (behind_new xs at col indent r n b s))

-- the place among what was read
pub same_before : {V : Type 0} (seen xs : List (Entry V)) (at c i : ℕ) → seen ≡ xs → EachBefore c i (take at seen) → EachBefore c i (take at xs)
same_before {V = V} seen xs at c i e b = subst (λ (zs : List (Entry V)). EachBefore c i (take at zs)) e b

pub same_behind : {V : Type 0} (seen xs : List (Entry V)) (at c i : ℕ) → seen ≡ xs → StartsFrom c i (drop at seen) → StartsFrom c i (drop at xs)
same_behind {V = V} seen xs at c i e b = subst (λ (zs : List (Entry V)). StartsFrom c i (drop at zs)) e b

only_there : {V : Type 0} (xs : List (Entry V)) (at : ℕ) (a b : Entry V) → at < length xs → get_or xs at a ≡ get_or xs at b
only_there [] at a b p = absurd (omega arith)
only_there (x ∷ xs) zero a b p = refl
only_there (x ∷ xs) (suc at) a b p = only_there xs at a b (omega arith)

-- no entry at the number
pub missed_end : {V : Type 0} (xs : List (Entry V)) (at c i : ℕ) → IsOrdered xs → EachBefore c i (take at xs) → StartsFrom c i (drop at xs) → length xs ≤ at → None ≡ value_at xs c i
missed_end xs at c i r b s p = sym (found_miss xs at c i b (behind_place xs at c i r s (λ q x e. absurd (omega (arith, p, q)))))

-- another's entry at the number
pub missed_entry : {V : Type 0} (xs : List (Entry V)) (at c i : ℕ) (a : Entry V) → IsOrdered xs → EachBefore c i (take at xs) → StartsFrom c i (drop at xs) → at < length xs → a ≡ get_or xs at a →
    stands_at a c i ≡ false → None ≡ value_at xs c i
missed_entry {V = V} xs at c i a r b s p d n =
    sym (found_miss xs at c i b (behind_place xs at c i r s (λ q x e. subst (λ (v : Entry V). stands_at v c i ≡ false) (d ∙ (only_there xs at a x p ∙ sym e)) n)))

-- the place's entry at the number
pub hit_entry : {V : Type 0} (xs : List (Entry V)) (at c i : ℕ) (a b : Entry V) → EachBefore c i (take at xs) → at < length xs → a ≡ get_or xs at a → stands_at a c i ≡ true → Some (get_or xs at b).value ≡ value_at xs c i
hit_entry {V = V} xs at c i a b h p d k =
    let there : stands_at (get_or xs at b) c i ≡ true = subst (λ (v : Entry V). stands_at v c i ≡ true) (d ∙ only_there xs at a b p) k in
    sym (found_hit xs at c i (get_or xs at b) h p (only_there xs at b (get_or xs at b) p) there)

-- the entry that stands in place, and the others
pub first_hit : {V : Type 0} (first : Entry V) (xs whole : List (Entry V)) (c i : ℕ) → first ∷ xs ≡ whole → stands_at first c i ≡ true → Some first.value ≡ value_at whole c i
unfolding value_at
first_hit {V = V} first xs whole c i e k =
    sym (if_true (stands_at first c i) (Some first.value) (value_at xs c i) k) ∙ ap (λ (zs : List (Entry V)). value_at zs c i) e

pub others_value : {V : Type 0} (first : Entry V) (xs whole : List (Entry V)) (c i : ℕ) → first ∷ xs ≡ whole → stands_at first c i ≡ false → value_at xs c i ≡ value_at whole c i
unfolding value_at
others_value {V = V} first xs whole c i e k =
    sym (if_false (stands_at first c i) (Some first.value) (value_at xs c i) k) ∙ ap (λ (zs : List (Entry V)). value_at zs c i) e

pub others_at : {V : Type 0} (first : Entry V) (xs seen whole : List (Entry V)) (c i : ℕ) (o : Option V) → first ∷ xs ≡ whole → stands_at first c i ≡ false → seen ≡ xs → o ≡ value_at seen c i → o ≡ value_at whole c i
others_at {V = V} first xs seen whole c i o e n s h = h ∙ (ap (λ (zs : List (Entry V)). value_at zs c i) s ∙ others_value first xs whole c i e n)

pub new_first : {V : Type 0} (first : Entry V) (xs whole : List (Entry V)) (c i : ℕ) → first ∷ xs ≡ whole → value_at whole c i ≡ None → stands_at first c i ≡ false
new_first first xs whole c i e n = elim (cases_Bool (stands_at first c i)) [
  | inl h ↦ absurd (none_is (value_at whole c i) first.value (sym (first_hit first xs whole c i e h)) n)
  | inr h ↦ h
]

pub new_others : {V : Type 0} (first : Entry V) (xs whole : List (Entry V)) (c i : ℕ) → first ∷ xs ≡ whole → value_at whole c i ≡ None → value_at xs c i ≡ None
new_others first xs whole c i e n = others_value first xs whole c i e (new_first first xs whole c i e n) ∙ n

-- the tests of a place against two different places can change sides
swap_apart : {A : Type 0} (c i d j e k : ℕ) (x y z : A) → ((e == d) && (k == j)) ≡ false →
    (if (c == d) && (i == j) then x else (if (c == e) && (i == k) then y else z)) ≡ (if (c == e) && (i == k) then y else (if (c == d) && (i == j) then x else z))
swap_apart c i d j e k x y z p =
    elim (cases_Bool ((c == e) && (i == k))) [
      | inl h ↦
          let at = place_is c i e k h in
          let column : c ≡ e = at.0 in
          let depth : i ≡ k = at.1 in
          let other : ((c == d) && (i == j)) ≡ false = ap (λ (n : ℕ). (n == d) && (i == j)) column ∙ (ap (λ (n : ℕ). (e == d) && (n == j)) depth ∙ p) in
          if_false ((c == d) && (i == j)) x (if (c == e) && (i == k) then y else z) other
          ∙ (if_true ((c == e) && (i == k)) y z h ∙ sym (if_true ((c == e) && (i == k)) y (if (c == d) && (i == j) then x else z) h))
      | inr h ↦
          sym (else_same ((c == d) && (i == j)) ((c == e) && (i == k)) y x z h) ∙ sym (if_false ((c == e) && (i == k)) y (if (c == d) && (i == j) then x else z) h)
    ]

pub puts_whole : {V : Type 0} (first : Entry V) (xs ys whole : List (Entry V)) (col indent : ℕ) (value : V) → first ∷ xs ≡ whole → value_at whole col indent ≡ None → Puts xs ys col indent value → Puts whole (first ∷ ys) col indent value
unfolding value_at
puts_whole {V = V} first xs ys whole col indent value e n p c i =
    ap (λ (o : Option V). if stands_at first c i then Some first.value else o) (p c i)
    ∙ (swap_apart c i first.col first.indent col indent (Some first.value) (Some value) (value_at xs c i) (new_first first xs whole col indent e n)
    ∙ ap (λ (zs : List (Entry V)). if (c == col) && (i == indent) then Some value else value_at zs c i) e)

pub on_ok : {T E : Type 0} (r : Result T E) (P Q : Type 0) → (P → Q) → OnOk r P → OnOk r Q
on_ok (Ok x) P Q f p = f p
on_ok (Err e) P Q f p = p

pub on_err : {T E : Type 0} (r : Result T E) (P Q : Type 0) → (P → Q) → OnErr r P → OnErr r Q
on_err (Ok x) P Q f p = p
on_err (Err e) P Q f p = f p

pub set_same : {V : Type 0} (xs : List (ℕ × V)) (at : ℕ) (pair : ℕ × V) (new : V) → pair ≡ get_or xs at pair → new ≡ pair.1 → set xs at (pair.0, new) ≡ xs
set_same [] zero pair new e n = refl
set_same [] (suc at) pair new e n = refl
set_same {V = V} (x ∷ xs) zero pair new e n = ap (λ (v : V). (pair.0, v) ∷ xs) n ∙ ap (λ (v : ℕ × V). v ∷ xs) e
set_same {V = V} (x ∷ xs) (suc at) pair new e n = ap (λ (zs : List (ℕ × V)). x ∷ zs) (set_same xs at pair new e n)
