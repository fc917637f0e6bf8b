-- Choices that are still to come.
use Rattle.std.specs.Bool.{OnTrue, OnFalse}
use Rattle.std.proofs.Common.{◌≡◌, Bool, true, false, ℕ, ◌+◌, ◌<◌, ◌≤◌, List, [], ◌∷◌, ◌++◌, length, sym, ◌∙◌, ap, subst, append_assoc, append-nil, length-append, arith}
use Rattle.rf_base_document.specs.declared.directions.Dir.{Dir}
use Rattle.rf_frontier.specs.declared.hows.How.{How}
use Rattle.rf_frontier.specs.declared.hows.HowId.{HowId}
use Rattle.rf_frontier.specs.Ways.{choices_of}
use Rattle.rf_frontier.specs.Pending.{choices_to_come, EachHasChoices}

-- one more way comes first
pub to_come-push : (ways : List How) (xs : List HowId) (x : HowId) → choices_to_come ways (xs ++ x ∷ []) ≡ choices_of ways x.0 ++ choices_to_come ways xs
unfolding choices_to_come
to_come-push ways [] x = sym (append-nil (choices_of ways x.0))
to_come-push ways (y ∷ ys) x =
    ap (λ (cs : List Dir). cs ++ choices_of ways y.0) (to_come-push ways ys x)
    ∙ append_assoc (choices_of ways x.0) (choices_to_come ways ys) (choices_of ways y.0)

pub to_come-length : (ways : List How) (xs : List HowId) → EachHasChoices ways xs → length xs ≤ length (choices_to_come ways xs)
unfolding choices_to_come EachHasChoices
to_come-length ways [] h = omega arith
to_come-length ways (y ∷ ys) h =
    let rest = to_come-length ways ys h.2 in
    let both = length-append (choices_to_come ways ys) (choices_of ways y.0) in
    let some : 0 < length (choices_of ways y.0) = h.1 in
    omega (arith, rest, both, some)

push_each : (ways : List How) (xs : List HowId) (x : HowId) → EachHasChoices ways xs → x.0 < length ways → 0 < length (choices_of ways x.0) → EachHasChoices ways (xs ++ x ∷ [])
unfolding EachHasChoices
push_each ways [] x h p q = (p, q, tt)
push_each ways (z ∷ zs) x h p q = (h.0, h.1, push_each ways zs x h.2 p q)

pub each-push : (ways : List How) (xs ys : List HowId) (x : HowId) → ys ≡ xs ++ x ∷ [] → EachHasChoices ways xs → x.0 < length ways → 0 < length (choices_of ways x.0) → EachHasChoices ways ys
each-push ways xs ys x e h p q = subst (λ (zs : List HowId). EachHasChoices ways zs) (sym e) (push_each ways xs x h p q)

pop_each : (ways : List How) (xs : List HowId) (x : HowId) → EachHasChoices ways (xs ++ x ∷ []) → (x.0 < length ways) × (0 < length (choices_of ways x.0)) × EachHasChoices ways xs
unfolding EachHasChoices
pop_each ways [] x h = (h.0, h.1, tt)
pop_each ways (z ∷ zs) x h = let rest = pop_each ways zs x h.2 in (rest.0, rest.1, (h.0, h.1, rest.2))

pub each-pop : (ways : List How) (xs ys : List HowId) (x : HowId) → ys ≡ xs ++ x ∷ [] → EachHasChoices ways ys → (x.0 < length ways) × (0 < length (choices_of ways x.0)) × EachHasChoices ways xs
each-pop ways xs ys x e h = pop_each ways xs x (subst (λ (zs : List HowId). EachHasChoices ways zs) e h)

-- the direction was put at the end, and the choices behind it are to come
pub mark_same : (ways : List How) (dir : Dir) (choices : List Dir) (pending pending_new : List HowId) (into into_new : List Dir) →
    into_new ≡ into ++ dir ∷ [] → choices_to_come ways pending_new ≡ choices ++ choices_to_come ways pending →
    into_new ++ choices_to_come ways pending_new ≡ into ++ ((dir ∷ choices) ++ choices_to_come ways pending)
mark_same ways dir choices pending pending_new into into_new e p =
    ap (λ (cs : List Dir). cs ++ choices_to_come ways pending_new) e
    ∙ (append_assoc into (dir ∷ []) (choices_to_come ways pending_new)
    ∙ ap (λ (cs : List Dir). into ++ (dir ∷ cs)) p)

pub one_to_come : (ways : List How) (id : HowId) (pending pending_new : List HowId) → pending_new ≡ pending ++ id ∷ [] → choices_to_come ways pending_new ≡ choices_of ways id.0 ++ choices_to_come ways pending
one_to_come ways id pending pending_new e = ap (choices_to_come ways) e ∙ to_come-push ways pending id

-- the choices of both ways are to come
pub join_same : (ways : List How) (first second : HowId) (pending one two : List HowId) (into : List Dir) → one ≡ pending ++ second ∷ [] → two ≡ one ++ first ∷ [] →
    into ++ choices_to_come ways two ≡ into ++ ((choices_of ways first.0 ++ choices_of ways second.0) ++ choices_to_come ways pending)
join_same ways first second pending one two into e f =
    ap (λ (cs : List Dir). into ++ cs)
    (one_to_come ways first one two f
    ∙ (ap (λ (cs : List Dir). choices_of ways first.0 ++ cs) (one_to_come ways second pending one e)
    ∙ sym (append_assoc (choices_of ways first.0) (choices_of ways second.0) (choices_to_come ways pending))))

-- the next way was popped
pub popped_same : (ways : List How) (next : HowId) (pending rest : List HowId) (into whole : List Dir) → pending ≡ rest ++ next ∷ [] → into ++ choices_to_come ways pending ≡ whole →
    into ++ (choices_of ways next.0 ++ choices_to_come ways rest) ≡ whole
popped_same ways next pending rest into whole e p = ap (λ (cs : List Dir). into ++ cs) (sym (one_to_come ways next rest pending e)) ∙ p

-- nothing is pending any more
pub nothing_pending : (ways : List How) (pending : List HowId) (into whole : List Dir) → length pending ≡ 0 → into ++ choices_to_come ways pending ≡ whole → into ≡ whole
unfolding choices_to_come
nothing_pending ways [] into whole n p = sym (append-nil into) ∙ p
nothing_pending ways (x ∷ pending) into whole n p = absurd (omega arith)

pub only_pending : (ways : List How) (pending ways_in : List HowId) (id : HowId) → pending ≡ [] → ways_in ≡ pending ++ id ∷ [] → choices_to_come ways ways_in ≡ choices_of ways id.0
unfolding choices_to_come
only_pending ways pending ways_in id e f =
    let none : List HowId = [] in
    ap (choices_to_come ways) (f ∙ ap (λ (xs : List HowId). xs ++ id ∷ []) e)

pub none_each : (ways : List How) (pending : List HowId) → pending ≡ [] → EachHasChoices ways pending
unfolding EachHasChoices
none_each ways pending e = subst (λ (zs : List HowId). EachHasChoices ways zs) (sym e) tt

pub true_holds : (b : Bool) (P : Type 0) → b ≡ true → OnTrue b P → P
true_holds true P e h = h
true_holds false P e h = cc

pub false_holds : (b : Bool) (P : Type 0) → b ≡ false → OnFalse b P → P
false_holds true P e h = cc
false_holds false P e h = h

-- what is to be unfolded goes past the limit
pub goes_past : (into choices rest whole more : List Dir) (limit : ℕ) → into ++ (choices ++ rest) ≡ whole ++ more → limit < length into + length choices + length rest → length whole + length more ≤ limit → ⊥
goes_past into choices rest whole more limit e p q =
    let one = length-append into (choices ++ rest) in
    let two = length-append choices rest in
    let three = length-append whole more in
    let same : length (into ++ (choices ++ rest)) ≡ length (whole ++ more) = ap length e in
    omega (arith, one, two, three, same)

-- what was unfolded is within the limit
pub is_within : (into whole more : List Dir) (limit : ℕ) → into ≡ whole ++ more → length into ≤ limit → length whole + length more ≤ limit
is_within into whole more limit e p =
    let same : length into ≡ length (whole ++ more) = ap length e in
    omega (arith, same, length-append whole more)
