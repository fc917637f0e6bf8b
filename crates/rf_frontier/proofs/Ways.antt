-- Ways and their choices, as ways are added.
use Rattle.std.proofs.lemmas.Bool.Decides.{nat_tests}
use Rattle.std.specs.Bool.{OnTrue, OnFalse}
use Rattle.std.proofs.Common.{◌≡◌, ◌==◌, max, ℕ, zero, suc, ◌+◌, ◌<◌, ◌≤◌, List, [], ◌∷◌, ◌++◌, length, get_or, refl, sym, ◌∙◌, ap, subst, Some, slice_get, ◌⊎◌, inl, inr, length-append, append_assoc, append-nil, arith}
use Rattle.std.proofs.lemmas.Option.{slice_get-get_or}
use Rattle.std.proofs.lemmas.Bool.{OnTrue_from, OnFalse_from}
use Rattle.rf_base_document.specs.declared.directions.Dir.{Dir}
use Rattle.rf_frontier.specs.declared.hows.How.{How}
use Rattle.rf_frontier.specs.declared.hows.How.TheVariants.{Leaf, Mark, Join}
use Rattle.rf_frontier.specs.Ways.{way_end, HasChoice, JoinsChoices, IsWays, way_choices, all_choices, choices_of, KeepsWays}

pub no_ways : IsWays []
unfolding IsWays
no_ways n way h = cc

get-append : {A : Type 0} (xs ys : List A) (n : ℕ) (d : A) → n < length xs → get_or (xs ++ ys) n d ≡ get_or xs n d
get-append [] ys n d p = absurd (omega arith)
get-append (x ∷ xs) ys zero d p = refl
get-append (x ∷ xs) ys (suc n) d p = get-append xs ys n d (omega arith)

get-end : {A : Type 0} (xs : List A) (x d : A) → get_or (xs ++ x ∷ []) (length xs) d ≡ x
get-end [] x d = refl
get-end (y ∷ ys) x d = get-end ys x d

all_choices-append : (older : List (List Dir)) (ways more : List How) → all_choices older (ways ++ more) ≡ all_choices (all_choices older ways) more
unfolding all_choices
all_choices-append older [] more = refl
all_choices-append older (way ∷ ways) more = all_choices-append (older ++ way_choices (λ n. get_or older n []) way ∷ []) ways more

all_choices-length : (older : List (List Dir)) (ways : List How) → length (all_choices older ways) ≡ length older + length ways
unfolding all_choices
all_choices-length older [] = omega arith
all_choices-length older (way ∷ ways) =
    let rest = all_choices-length (older ++ way_choices (λ n. get_or older n []) way ∷ []) ways in
    let more = length-append older (way_choices (λ n. get_or older n []) way ∷ []) in
    omega (arith, rest, more)

-- what was there stays there
all_choices-older : (older : List (List Dir)) (ways : List How) (n : ℕ) → n < length older → get_or (all_choices older ways) n [] ≡ get_or older n []
unfolding all_choices
all_choices-older older [] n p = refl
all_choices-older older (way ∷ ways) n p =
    let one : List (List Dir) = way_choices (λ k. get_or older k []) way ∷ [] in
    let more = length-append older one in
    all_choices-older (older ++ one) ways n (omega (arith, more)) ∙ get-append older one n [] p

choices_of-append : (ways more : List How) (n : ℕ) → n < length ways → choices_of (ways ++ more) n ≡ choices_of ways n
unfolding choices_of
choices_of-append ways more n p =
    let len : length (all_choices [] ways) ≡ length ways = omega (arith, all_choices-length [] ways) in
    ap (λ (all : List (List Dir)). get_or all n []) (all_choices-append [] ways more)
    ∙ all_choices-older (all_choices [] ways) more n (omega arith)

pub added_keeps : (ways : List How) (way : How) → KeepsWays ways (ways ++ way ∷ [])
unfolding KeepsWays
added_keeps ways way = (omega (arith, length-append ways (way ∷ [])), λ n p. choices_of-append ways (way ∷ []) n p)

pub added_choices : (ways : List How) (way : How) → choices_of (ways ++ way ∷ []) (length ways) ≡ way_choices (choices_of ways) way
unfolding choices_of all_choices
added_choices ways way =
    let len : length (all_choices [] ways) ≡ length ways = omega (arith, all_choices-length [] ways) in
    let new : List Dir = way_choices (λ n. get_or (all_choices [] ways) n []) way in
    ap (λ (all : List (List Dir)). get_or all (length ways) []) (all_choices-append [] ways (way ∷ []))
    ∙ (ap (λ (n : ℕ). get_or (all_choices [] ways ++ new ∷ []) n []) (sym len) ∙ get-end (all_choices [] ways) new [])

get_added : (xs : List How) (x y : How) (n : ℕ) → slice_get (xs ++ x ∷ []) n ≡ Some y → (slice_get xs n ≡ Some y) ⊎ ((y ≡ x) × (n ≡ length xs))
get_added [] x y zero h = inr (cc, refl)
get_added [] x y (suc n) h = cc
get_added (z ∷ xs) x y zero h = inl h
get_added (z ∷ xs) x y (suc n) h =
    elim (get_added xs x y n h) [
      | inl p ↦ inl p
      | inr p ↦ inr (p.0, (let e : n ≡ length xs = p.1 in omega arith))
    ]

pub added_is_ways : (ways : List How) (way : How) → IsWays ways → way_end way ≤ length ways → (0 < length ways → HasChoice way) → IsWays (ways ++ way ∷ [])
unfolding IsWays
added_is_ways ways way p q r n other h =
    elim (get_added ways way other n h) [
      | inl k ↦ p n other k
      | inr k ↦
          let fits : (way_end other ≤ length ways) × (0 < length ways → HasChoice other) =
          subst (λ (w : How). (way_end w ≤ length ways) × (0 < length ways → HasChoice w)) (sym k.0) (q, r) in
          subst (λ (m : ℕ). (way_end other ≤ m) × (0 < m → HasChoice other)) (sym k.1) fits
    ]

-- a list cut before the way at n
cut_at : (ways : List How) (n : ℕ) (way : How) → slice_get ways n ≡ Some way →
    (front : List How) × (back : List How) × (ways ≡ front ++ way ∷ back) × (length front ≡ n)
cut_at [] n way h = cc
cut_at (x ∷ ways) zero way h = ([], ways, (let e : x ≡ way = cc in ap (λ (w : How). w ∷ ways) e), refl)
cut_at (x ∷ ways) (suc n) way h =
    let found = cut_at ways n way h in
    (x ∷ found.0, found.1, ap (λ (ws : List How). x ∷ ws) found.2, (let e : length found.0 ≡ n = found.3 in omega arith))

same_parts : (f g : ℕ → List Dir) (way : How) (n : ℕ) → way_end way ≤ n → ((k : ℕ) → k < n → f k ≡ g k) → way_choices f way ≡ way_choices g way
same_parts f g Leaf n p h = refl
same_parts f g (Mark dir a) n p h = ap (λ (cs : List Dir). dir ∷ cs) (h a.0 (omega arith))
same_parts f g (Join a b) n p h =
    let first : f a.0 ≡ g a.0 = h a.0 (omega arith) in
    let second : f b.0 ≡ g b.0 = h b.0 (omega arith) in
    cc

one_front : (front back : List How) (way : How) → front ++ way ∷ back ≡ (front ++ way ∷ []) ++ back
one_front front back way = sym (append_assoc front (way ∷ []) back)

cut_unfolds : (front back : List How) (way : How) → way_end way ≤ length front →
    choices_of (front ++ way ∷ back) (length front) ≡ way_choices (choices_of (front ++ way ∷ back)) way
cut_unfolds front back way p =
    let longer : length front < length (front ++ way ∷ []) = omega (arith, length-append front (way ∷ [])) in
    ap (λ (ws : List How). choices_of ws (length front)) (one_front front back way)
    ∙ (choices_of-append (front ++ way ∷ []) back (length front) longer
    ∙ (added_choices front way
    ∙ same_parts (choices_of front) (choices_of (front ++ way ∷ back)) way (length front) p
    (λ k less. sym (choices_of-append front (way ∷ back) k less))))

-- a way unfolds to what its parts unfold to
pub unfolds : (ways : List How) (n : ℕ) (way : How) → slice_get ways n ≡ Some way → way_end way ≤ n → choices_of ways n ≡ way_choices (choices_of ways) way
unfolds ways n way h p =
    let found = cut_at ways n way h in
    let less : way_end way ≤ length found.0 = subst (λ (m : ℕ). way_end way ≤ m) (sym found.3) p in
    ap (λ (ws : List How). choices_of ws n) found.2
    ∙ (ap (λ (m : ℕ). choices_of (found.0 ++ way ∷ found.1) m) (sym found.3)
    ∙ (cut_unfolds found.0 found.1 way less
    ∙ ap (λ (ws : List How). way_choices (choices_of ws) way) (sym found.2)))

-- the first way of all has no choice
pub first_is_leaf : (ways : List How) → IsWays ways → 0 < length ways → choices_of ways 0 ≡ []
unfolding IsWays
first_is_leaf [] p h = absurd (omega arith)
first_is_leaf (Leaf ∷ ways) p h = unfolds (Leaf ∷ ways) 0 Leaf refl (p 0 Leaf refl).0
first_is_leaf (Mark dir a ∷ ways) p h = let q : way_end (Mark dir a) ≤ 0 = (p 0 (Mark dir a) refl).0 in absurd (omega arith)
first_is_leaf (Join a b ∷ ways) p h = let q : way_end (Join a b) ≤ 0 = (p 0 (Join a b) refl).0 in absurd (omega arith)

pub keeps_same : (ways : List How) → KeepsWays ways ways
unfolding KeepsWays
keeps_same ways = (omega arith, λ n p. refl)

pub keeps_then : (one two three : List How) → KeepsWays one two → KeepsWays two three → KeepsWays one three
unfolding KeepsWays
keeps_then one two three p q =
    let first : length one ≤ length two = p.0 in
    let second : length two ≤ length three = q.0 in
    (omega arith, λ n less. q.1 n (omega arith) ∙ p.1 n less)

pub keeps_choices : (old new : List How) (n : ℕ) → KeepsWays old new → n < length old → choices_of new n ≡ choices_of old n
unfolding KeepsWays
keeps_choices old new n p less = p.1 n less

pub keeps_length : (old new : List How) → KeepsWays old new → length old ≤ length new
unfolding KeepsWays
keeps_length old new p = p.0

pub behind_leaf : (ways : List How) (n z : ℕ) → IsWays ways → z < length ways → z ≡ 0 → choices_of ways n ≡ choices_of ways n ++ choices_of ways z
behind_leaf ways n z p less e =
    let none : choices_of ways z ≡ [] = ap (choices_of ways) e ∙ first_is_leaf ways p (omega arith) in
    sym (ap (λ (cs : List Dir). choices_of ways n ++ cs) none ∙ append-nil (choices_of ways n))

pub before_leaf : (ways : List How) (n z : ℕ) → IsWays ways → z < length ways → z ≡ 0 → choices_of ways n ≡ choices_of ways z ++ choices_of ways n
before_leaf ways n z p less e =
    let none : choices_of ways z ≡ [] = ap (choices_of ways) e ∙ first_is_leaf ways p (omega arith) in
    sym (ap (λ (cs : List Dir). cs ++ choices_of ways n) none)

-- what was read at n is the way at n
pub told_at : (ways seen : List How) (n : ℕ) (way : How) → ways ≡ seen → way ≡ get_or ways n way → n < length seen → slice_get ways n ≡ Some way
told_at ways seen n way e h p =
    let less : n < length ways = subst (λ (ws : List How). n < length ws) (sym e) p in
    slice_get-get_or ways n way less ∙ ap Some (sym h)

-- a way that begins with a direction, or joins ways that have choices, has one
way_has : (ways : List How) (n : ℕ) (way : How) → slice_get ways n ≡ Some way → way_end way ≤ n → HasChoice way → ((k : ℕ) → k < n → 0 < k → 0 < length (choices_of ways k)) → 0 < length (choices_of ways n)
way_has ways n Leaf h p q f = absurd q
way_has ways n (Mark dir a) h p q f =
    let same : length (choices_of ways n) ≡ length (way_choices (choices_of ways) (Mark dir a)) = ap length (unfolds ways n (Mark dir a) h p) in
    omega (arith, same)
way_has ways n (Join a b) h p q f =
    let same : length (choices_of ways n) ≡ length (choices_of ways a.0 ++ choices_of ways b.0) = ap length (unfolds ways n (Join a b) h p) in
    let both = length-append (choices_of ways a.0) (choices_of ways b.0) in
    let first : 0 < length (choices_of ways a.0) = f a.0 (omega arith) q.0 in
    omega (arith, same, both, first)

has_below : (ways : List How) → IsWays ways → (bound n : ℕ) → n < bound → n < length ways → 0 < n → 0 < length (choices_of ways n)
unfolding IsWays
has_below ways p zero n l m z = absurd (omega arith)
has_below ways p (suc bound) n l m z =
    let way : How = get_or ways n Leaf in
    let told : slice_get ways n ≡ Some way = slice_get-get_or ways n Leaf m in
    let fits : (way_end way ≤ n) × (0 < n → HasChoice way) = p n way told in
    way_has ways n way told fits.0 (fits.1 z) (λ k less some. has_below ways p bound k (omega arith) (omega arith) some)

-- each way but the first has a choice
pub has_choice : (ways : List How) (n : ℕ) → IsWays ways → n < length ways → 0 < n → 0 < length (choices_of ways n)
has_choice ways n p m z = has_below ways p (suc n) n (omega arith) m z

same_ways : (inside ways : List How) → inside ≡ ways → IsWays inside → IsWays ways
same_ways inside ways e p = subst IsWays e p

pub leaf_none : (inside ways : List How) (n : ℕ) → inside ≡ ways → IsWays inside → n < length ways → OnTrue (n == 0) (choices_of ways n ≡ [])
leaf_none inside ways n e p m =
    OnTrue_from (n == 0) (choices_of ways n ≡ []) (λ h. let zero_is : n ≡ 0 = grind (arith, nat_tests) in
    ap (choices_of ways) zero_is ∙ first_is_leaf ways (same_ways inside ways e p) (omega arith))

pub others_some : (inside ways : List How) (n : ℕ) → inside ≡ ways → IsWays inside → n < length ways → OnFalse (n == 0) (0 < length (choices_of ways n))
others_some inside ways n e p m =
    OnFalse_from (n == 0) (0 < length (choices_of ways n)) (λ h. let some : 0 < n = grind (arith, nat_tests) in has_choice ways n (same_ways inside ways e p) m some)

joins_at : (ways : List How) (n : ℕ) (way : How) → IsWays ways → n < length ways → (way_end way ≤ n) × (0 < n → HasChoice way) → JoinsChoices ways way
joins_at ways n (Join a b) p m q =
    let parts : max (suc a.0) (suc b.0) ≤ n = q.0 in
    let some : (0 < a.0) × (0 < b.0) = q.1 (omega arith) in
    (has_choice ways a.0 p (omega arith) some.0, has_choice ways b.0 p (omega arith) some.1)
joins_at ways n _ p m q = tt

-- no way that joins two ways joins the first of all
pub joins_choices : (inside ways : List How) (n : ℕ) (way : How) → inside ≡ ways → IsWays inside → slice_get inside n ≡ Some way → n < length ways → JoinsChoices ways way
unfolding IsWays
joins_choices inside ways n way e p h m = joins_at ways n way (same_ways inside ways e p) m (p n way h)

-- what is known of one more way, and of one that joins two
pub ruleset added = (added_keeps, added_choices, added_is_ways, keeps_same)

pub ruleset joined = (before_leaf, behind_leaf, keeps_same)
