-- Measures whose ways get choices before their own.
use Rattle.std.proofs.Common.{◌≡◌, ℕ, zero, suc, ◌+◌, ◌<◌, ◌≤◌, List, [], ◌∷◌, ◌++◌, length, take, drop, get_or, set, refl, sym, ◌∙◌, ap, subst, inl, inr, arith}
use Rattle.std.proofs.Math.Seq.{take-suc-set}
use Rattle.std.proofs.lemmas.List.{drop-set-lt, length-set}
use Rattle.rf_base_document.specs.declared.directions.Dir.{Dir}
use Rattle.rf_base_cost.specs.declared.measures.Measure.{Measure}
use Rattle.rf_base_cost.specs.Cost.{Costs}
use Rattle.rf_base_cost.specs.Pareto.{rewayed, pareto, IsMember, shifted, all_raised, all_shifted}
use Rattle.rf_base_cost.proofs.Pareto.{pareto_keeps_members, pareto-shorter}
use Rattle.rf_base_cost.proofs.Choices.{pareto_knows_no_choices}
use Rattle.rf_frontier.specs.declared.hows.How.{How}
use Rattle.rf_frontier.specs.declared.hows.HowId.{HowId}
use Rattle.rf_frontier.specs.declared.before.Before.{Before}
use Rattle.rf_frontier.specs.declared.before.Before.TheVariants.{Choice, Way}
use Rattle.rf_frontier.specs.Ways.{choices_of, KeepsWays, IsIn, choices_before}
use Rattle.rf_frontier.specs.Frontiers.{chosen, all_chosen, BelongTo, all_behind}
use Rattle.rf_frontier.proofs.Ways.{keeps_choices, keeps_length, keeps_then, keeps_same}

pub belong_keeps : {C : Type 0} (old new : List How) (xs : List (Measure C HowId)) → KeepsWays old new → BelongTo old xs → BelongTo new xs
unfolding BelongTo
belong_keeps old new [] k b = tt
belong_keeps old new (x ∷ xs) k b = let longer = keeps_length old new k in (omega (arith, b.0), belong_keeps old new xs k b.1)

pub chosen_keeps : {C : Type 0} (old new : List How) (xs : List (Measure C HowId)) → KeepsWays old new → BelongTo old xs → all_chosen new xs ≡ all_chosen old xs
unfolding BelongTo
chosen_keeps old new [] k b = refl
chosen_keeps {C = C} old new (x ∷ xs) k b =
    let head : choices_of new x.how.0 ≡ choices_of old x.how.0 = keeps_choices old new x.how.0 k b.0 in
    let tail = chosen_keeps old new xs k b.1 in
    let first : chosen new x ≡ chosen old x = ap (λ (cs : List Dir). let m : Measure C (List Dir) = record { last = x.last; cost = x.cost; how = cs } in m) head in
    cc

pub chosen_append : {C : Type 0} (ways : List How) (xs ys : List (Measure C HowId)) → all_chosen ways (xs ++ ys) ≡ all_chosen ways xs ++ all_chosen ways ys
chosen_append ways [] ys = refl
chosen_append ways (x ∷ xs) ys = let rest = chosen_append ways xs ys in cc

behind_append : {C : Type 0} (cs : List Dir) (xs ys : List (Measure C (List Dir))) → all_behind cs (xs ++ ys) ≡ all_behind cs xs ++ all_behind cs ys
behind_append cs [] ys = refl
behind_append cs (x ∷ xs) ys = let rest = behind_append cs xs ys in cc

pub belong_append : {C : Type 0} (ways : List How) (xs ys : List (Measure C HowId)) → BelongTo ways xs → BelongTo ways ys → BelongTo ways (xs ++ ys)
unfolding BelongTo
belong_append ways [] ys p q = q
belong_append ways (x ∷ xs) ys p q = (p.0, belong_append ways xs ys p.1 q)

pub belong_at : {C : Type 0} (ways : List How) (xs : List (Measure C HowId)) (n : ℕ) (m : Measure C HowId) → BelongTo ways xs → n < length xs → m ≡ get_or xs n m → m.how.0 < length ways
unfolding BelongTo
belong_at ways [] n m b p e = absurd (omega arith)
belong_at {C = C} ways (x ∷ xs) zero m b p e = subst (λ (v : Measure C HowId). v.how.0 < length ways) (sym e) b.0
belong_at ways (x ∷ xs) (suc n) m b p e = belong_at ways xs n m b.1 (omega arith) e

pub belong_member : {C : Type 0} (ways : List How) (xs : List (Measure C HowId)) (z : Measure C HowId) → BelongTo ways xs → IsMember z xs → z.how.0 < length ways
unfolding BelongTo IsMember
belong_member ways [] z b h = absurd h
belong_member {C = C} ways (x ∷ xs) z b (inl e) = subst (λ (v : Measure C HowId). v.how.0 < length ways) (sym e) b.0
belong_member ways (x ∷ xs) z b (inr h) = belong_member ways xs z b.1 h

belong_from : {C : Type 0} (ways : List How) (xs : List (Measure C HowId)) → ((z : Measure C HowId) → IsMember z xs → z.how.0 < length ways) → BelongTo ways xs
unfolding BelongTo IsMember
belong_from ways [] f = tt
belong_from ways (x ∷ xs) f = (f x (inl refl), belong_from ways xs (λ z h. f z (inr h)))

-- what stays of a list belongs to the ways that the list belongs to
pub belong_pareto : {C : Type 0} (costs : Costs C) (ways : List How) (xs : List (Measure C HowId)) → BelongTo ways xs → BelongTo ways (pareto costs xs)
belong_pareto costs ways xs b = belong_from ways (pareto costs xs) (λ z h. belong_member ways xs z b (pareto_keeps_members costs xs z h))

pub belong_raised : {C : Type 0} (costs : Costs C) (by : C) (ways : List How) (xs : List (Measure C HowId)) → BelongTo ways xs → BelongTo ways (all_raised costs by xs)
unfolding BelongTo
belong_raised costs by ways [] b = tt
belong_raised costs by ways (x ∷ xs) b = (b.0, belong_raised costs by ways xs b.1)

pub same_belong : {C : Type 0} (ways : List How) (xs ys : List (Measure C HowId)) → xs ≡ ys → BelongTo ways ys → BelongTo ways xs
same_belong {C = C} ways xs ys e b = subst (λ (ms : List (Measure C HowId)). BelongTo ways ms) (sym e) b

belongs_one : {C : Type 0} (ways : List How) (xs : List (Measure C HowId)) (n : Measure C HowId) → BelongTo ways xs → n.how.0 < length ways → BelongTo ways (xs ++ n ∷ [])
unfolding BelongTo
belongs_one ways xs n b p = belong_append ways xs (n ∷ []) b (p, tt)

pub in_keeps : (old new : List How) (before : Before) → KeepsWays old new → IsIn old before → IsIn new before
in_keeps old new (Choice dir) k i = tt
in_keeps old new (Way first) k i = let longer = keeps_length old new k in omega (arith, i)

pub before_keeps : (old new : List How) (before : Before) → KeepsWays old new → IsIn old before → choices_before new before ≡ choices_before old before
before_keeps old new (Choice dir) k i = refl
before_keeps old new (Way first) k i = keeps_choices old new first.0 k i

-- what is done of the loop over the measures
abbrev pub Rewaying : {C : Type 0} → List How → List How → Before → List (Measure C HowId) → List (Measure C HowId) → ℕ → Type 0
Rewaying old now before was list at =
    (all_chosen now (take at list) ≡ all_behind (choices_before old before) (all_chosen old (take at was)))
    × (drop at list ≡ drop at was) × BelongTo now (take at list) × KeepsWays old now × (length list ≡ length was)

take_next : {A : Type 0} (xs : List A) (n : ℕ) (m : A) → n < length xs → m ≡ get_or xs n m → take (suc n) xs ≡ take n xs ++ m ∷ []
take_next [] n m p e = absurd (omega arith)
take_next {A = A} (x ∷ xs) zero m p e = ap (λ (y : A). y ∷ []) (sym e)
take_next {A = A} (x ∷ xs) (suc n) m p e = ap (λ (ys : List A). x ∷ ys) (take_next xs n m (omega arith) e)

get_drop : {A : Type 0} (xs : List A) (n : ℕ) (d : A) → get_or (drop n xs) 0 d ≡ get_or xs n d
get_drop [] zero d = refl
get_drop [] (suc n) d = refl
get_drop (x ∷ xs) zero d = refl
get_drop (x ∷ xs) (suc n) d = get_drop xs n d

drop_gives : {A : Type 0} (xs ys : List A) (n : ℕ) (d : A) → drop n xs ≡ drop n ys → get_or xs n d ≡ get_or ys n d
drop_gives {A = A} xs ys n d e = sym (get_drop xs n d) ∙ (ap (λ (zs : List A). get_or zs 0 d) e ∙ get_drop ys n d)

drop_more : {A : Type 0} (xs : List A) (n : ℕ) → drop 1 (drop n xs) ≡ drop (suc n) xs
drop_more [] zero = refl
drop_more [] (suc n) = refl
drop_more (x ∷ xs) zero = refl
drop_more (x ∷ xs) (suc n) = drop_more xs n

drop_next : {A : Type 0} (xs ys : List A) (n : ℕ) → drop n xs ≡ drop n ys → drop (suc n) xs ≡ drop (suc n) ys
drop_next {A = A} xs ys n e = sym (drop_more xs n) ∙ (ap (λ (zs : List A). drop 1 zs) e ∙ drop_more ys n)

-- the new measure has the choices before those of the old one
one_behind : {C : Type 0} (old now new : List How) (before : Before) (m : Measure C HowId) (how : HowId) → KeepsWays old now → IsIn old before → m.how.0 < length old →
    choices_of new how.0 ≡ choices_before now before ++ choices_of now m.how.0 →
    (let n : Measure C HowId = record { last = m.last; cost = m.cost; how = how } in chosen new n ≡ rewayed (λ (own : List Dir). choices_before old before ++ own) (chosen old m))
one_behind {C = C} old now new before m how k i b e =
    let first : choices_before now before ≡ choices_before old before = before_keeps old now before k i in
    let second : choices_of now m.how.0 ≡ choices_of old m.how.0 = keeps_choices old now m.how.0 k b in
    let both : choices_of new how.0 ≡ choices_before old before ++ choices_of old m.how.0 =
    e ∙ (ap (λ (cs : List Dir). cs ++ choices_of now m.how.0) first ∙ ap (λ (cs : List Dir). choices_before old before ++ cs) second) in
    ap (λ (cs : List Dir). let n : Measure C (List Dir) = record { last = m.last; cost = m.cost; how = cs } in n) both

turn_with : {C : Type 0} (old now new : List How) (before : Before) (was list : List (Measure C HowId)) (at : ℕ) (m n : Measure C HowId) →
    BelongTo old was → at < length list → m ≡ get_or list at m → Rewaying old now before was list at →
    KeepsWays now new → n.how.0 < length new → chosen new n ≡ rewayed (λ own. choices_before old before ++ own) (chosen old m) →
    Rewaying old new before was (set list at n) (suc at)
turn_with {C = C} old now new before was list at m n b p e r k q c =
    let cs : List Dir = choices_before old before in
    let less : at < length was = (let len : length list ≡ length was = r.4 in omega arith) in
    let is : m ≡ get_or was at m = e ∙ drop_gives list was at m r.1 in
    let taken : take (suc at) (set list at n) ≡ take at list ++ n ∷ [] = take-suc-set list at n p in
    let seen : take (suc at) was ≡ take at was ++ m ∷ [] = take_next was at m less is in
    let one : all_chosen new (take (suc at) (set list at n)) ≡ all_chosen new (take at list) ++ (chosen new n ∷ []) =
    ap (λ (ms : List (Measure C HowId)). all_chosen new ms) taken ∙ chosen_append new (take at list) (n ∷ []) in
    let two : all_chosen new (take at list) ≡ all_behind cs (all_chosen old (take at was)) = chosen_keeps now new (take at list) k r.2 ∙ r.0 in
    let three : all_behind cs (all_chosen old (take (suc at) was)) ≡ all_behind cs (all_chosen old (take at was)) ++ (rewayed (λ (own : List Dir). cs ++ own) (chosen old m) ∷ []) =
    ap (λ (ms : List (Measure C HowId)). all_behind cs (all_chosen old ms)) seen
    ∙ (ap (λ (ms : List (Measure C (List Dir))). all_behind cs ms) (chosen_append old (take at was) (m ∷ [])) ∙ behind_append cs (all_chosen old (take at was)) (chosen old m ∷ [])) in
    let four : all_chosen new (take at list) ++ (chosen new n ∷ []) ≡ all_behind cs (all_chosen old (take at was)) ++ (rewayed (λ (own : List Dir). cs ++ own) (chosen old m) ∷ []) =
    ap (λ (ms : List (Measure C (List Dir))). ms ++ (chosen new n ∷ [])) two
    ∙ ap (λ (x : Measure C (List Dir)). all_behind cs (all_chosen old (take at was)) ++ (x ∷ [])) c in (
      one ∙ (four ∙ sym three),
      drop-set-lt (suc at) list at n (omega arith) ∙ drop_next list was at r.1,
      same_belong new (take (suc at) (set list at n)) (take at list ++ n ∷ []) taken (belongs_one new (take at list) n (belong_keeps now new (take at list) k r.2) q),
      keeps_then old now new r.3 k,
      length-set list at n ∙ r.4,
    )

-- one turn of the loop
pub behind_turn : {C : Type 0} (old now new : List How) (before : Before) (was list after : List (Measure C HowId)) (at : ℕ) (m n : Measure C HowId) (how : HowId) →
    IsIn old before → BelongTo old was → at < length list → m ≡ get_or list at m → Rewaying old now before was list at →
    KeepsWays now new → how.0 < length new → choices_of new how.0 ≡ choices_before now before ++ choices_of now m.how.0 →
    n ≡ record { last = m.last; cost = m.cost; how = how } → after ≡ set list at n → Rewaying old new before was after (at + 1)
behind_turn {C = C} old now new before was list after at m n how i b p e r k q c f a =
    let less : at < length was = (let len : length list ≡ length was = r.4 in omega arith) in
    let m_in : m.how.0 < length old = belong_at old was at m b less (e ∙ drop_gives list was at m r.1) in
    let new_m : Measure C HowId = record { last = m.last; cost = m.cost; how = how } in
    let found = turn_with old now new before was list at m new_m b p e r k q (one_behind old now new before m how r.3 i m_in c) in
    let next : suc at ≡ at + 1 = omega arith in
    subst (λ (n' : ℕ). Rewaying old new before was after n') next
    (subst (λ (ms : List (Measure C HowId)). Rewaying old new before was ms (suc at)) (sym (a ∙ ap (λ (x : Measure C HowId). set list at x) f)) found)

pub behind_begins : {C : Type 0} (old : List How) (before : Before) (list : List (Measure C HowId)) → Rewaying old old before list list 0
unfolding BelongTo
behind_begins old before list = (refl, refl, tt, keeps_same old, refl)

pub next_belongs : {C : Type 0} (old now : List How) (before : Before) (was list : List (Measure C HowId)) (at : ℕ) (m : Measure C HowId) → BelongTo old was → at < length list → m ≡ get_or list at m →
    Rewaying old now before was list at → m.how.0 < length now
next_belongs old now before was list at m b p e r =
    let less : at < length was = (let len : length list ≡ length was = r.4 in omega arith) in
    let inside : m.how.0 < length old = belong_at old was at m b less (e ∙ drop_gives list was at m r.1) in
    let longer : length old ≤ length now = keeps_length old now r.3 in
    omega arith

pub one_belongs : {C : Type 0} (ways : List How) (f : List (Measure C HowId)) (m : Measure C HowId) → f ≡ m ∷ [] → m.how.0 < length ways → BelongTo ways f
unfolding BelongTo
one_belongs ways f m e p = same_belong ways f (m ∷ []) e (p, tt)

shift_each : {C : Type 0} (costs : Costs C) (ways : List How) (left : Measure C HowId) (xs : List (Measure C HowId)) →
    all_behind (choices_of ways left.how.0) (all_chosen ways (all_raised costs left.cost xs)) ≡ all_shifted costs (chosen ways left) (all_chosen ways xs)
shift_each costs ways left [] = refl
shift_each {C = C} costs ways left (x ∷ xs) = ap (λ (ms : List (Measure C (List Dir))). shifted costs (chosen ways left) (chosen ways x) ∷ ms) (shift_each costs ways left xs)

-- raised, and then put behind the choices of the left measure: shifted
pub shifted_is : {C : Type 0} (costs : Costs C) (old new : List How) (left : Measure C HowId) (f kept seen right : List (Measure C HowId)) →
    kept ≡ pareto costs (all_raised costs left.cost seen) → seen ≡ right → all_chosen new f ≡ all_behind (choices_of old left.how.0) (all_chosen old kept) →
    all_chosen new f ≡ pareto costs (all_shifted costs (chosen old left) (all_chosen old right))
shifted_is {C = C} costs old new left f kept seen right k s e =
    let cs : List Dir = choices_of old left.how.0 in
    let one : all_behind cs (all_chosen old kept) ≡ all_behind cs (all_chosen old (pareto costs (all_raised costs left.cost right))) =
    ap (λ (ms : List (Measure C HowId)). all_behind cs (all_chosen old ms)) (k ∙ ap (λ (ms : List (Measure C HowId)). pareto costs (all_raised costs left.cost ms)) s) in
    let two : all_chosen old (pareto costs (all_raised costs left.cost right)) ≡ pareto costs (all_chosen old (all_raised costs left.cost right)) =
    pareto_knows_no_choices costs (λ (id : HowId). choices_of old id.0) (all_raised costs left.cost right) in
    let three : all_behind cs (pareto costs (all_chosen old (all_raised costs left.cost right))) ≡ pareto costs (all_behind cs (all_chosen old (all_raised costs left.cost right))) =
    pareto_knows_no_choices costs (λ (own : List Dir). cs ++ own) (all_chosen old (all_raised costs left.cost right)) in
    e ∙ (one ∙ (ap (all_behind cs) two ∙ (three ∙ ap (pareto costs) (shift_each costs old left right))))

pub raised-length : {C H : Type 0} (costs : Costs C) (by : C) (xs : List (Measure C H)) → length (all_raised costs by xs) ≡ length xs
raised-length costs by [] = refl
raised-length costs by (x ∷ xs) = ap suc (raised-length costs by xs)

pub shifted_length : {C H : Type 0} (costs : Costs C) (by : C) (kept seen right : List (Measure C H)) → kept ≡ pareto costs (all_raised costs by seen) → seen ≡ right → length kept ≤ length right
shifted_length {C = C} {H = H} costs by kept seen right k s =
    let one : length kept ≡ length (pareto costs (all_raised costs by seen)) = ap length k in
    let two : length (pareto costs (all_raised costs by seen)) ≤ length (all_raised costs by seen) = pareto-shorter costs (all_raised costs by seen) in
    let three : length (all_raised costs by seen) ≡ length seen = raised-length costs by seen in
    let four : length seen ≡ length right = ap length s in
    omega arith

pub shifted_belongs : {C : Type 0} (costs : Costs C) (by : C) (ways : List How) (kept seen right : List (Measure C HowId)) → kept ≡ pareto costs (all_raised costs by seen) → seen ≡ right →
    BelongTo ways right → BelongTo ways kept
shifted_belongs costs by ways kept seen right k s b =
    same_belong ways kept (pareto costs (all_raised costs by seen)) k
    (belong_pareto costs ways (all_raised costs by seen) (belong_raised costs by ways seen (same_belong ways seen right s b)))
