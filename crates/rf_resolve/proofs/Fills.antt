-- The stack of keys whose frontiers are sought, as the memo gains them.
use Rattle.std.proofs.Common.{◌≡◌, ℕ, ◌+◌, ◌*◌, ◌<◌, ◌≤◌, Bool, true, false, ◌==◌, ◌&&◌, List, [], ◌∷◌, ◌++◌, length, refl, sym, ◌∙◌, ap, subst, None, Some, ◌⊎◌, inl, inr, arith, length-append}
use Rattle.std.specs.Prelude.{⊤}
use Rattle.std.proofs.lemmas.Bool.{cases_eq}
use Rattle.std.proofs.lemmas.Bool.Decides.{nat_tests}
use Rattle.std.proofs.Math.Nat.{mul-le-mul}
use Rattle.rf_base_document.specs.Graph.{GraphNode}
use Rattle.rf_base_cost.specs.declared.measures.Measure.{Measure}
use Rattle.rf_base_cost.specs.Cost.{Costs}
use Rattle.rf_base_steps.specs.Steps.{MakesAtMost}
use Rattle.rf_frontier.specs.declared.hows.How.{How}
use Rattle.rf_frontier.specs.declared.hows.HowId.{HowId}
use Rattle.rf_memo.specs.Memo.{found, SameFound}
use Rattle.rf_resolve.specs.declared.keys.Key.{Key}
use Rattle.rf_resolve.specs.Gaps.{gaps, frontier_steps, PaidByGaps}
use Rattle.rf_resolve.specs.Keys.{IsAsked}
use Rattle.rf_resolve.specs.Holding.{MemoView, found_at, IsFrontierAt, MemoHolds, IsPlace, Gains}
use Rattle.rf_resolve.specs.Answers.{IsNeeded}
use Rattle.rf_resolve.specs.Joining.{IsKnown}
use Rattle.rf_resolve.proofs.Counting.{gap_closed, gap_open}

-- the memo has nothing at any of these keys, of which each names a node before that of the key below it
unfoldable pub AreMissing : {C : Type 0} → List GraphNode → ℕ → MemoView C → ℕ → List Key → Type 0
AreMissing nodes w memo before [] = ⊤
AreMissing nodes w memo before (key ∷ keys) =
    (key.node < before) × IsAsked nodes w key × (found_at memo key ≡ None) × AreMissing nodes w memo key.node keys

-- the key is the lowest one on the stack, or the memo has its frontier
abbrev pub IsAwaited : {C : Type 0} → MemoView C → Key → List Key → Type 0
IsAwaited memo key pending = ((rest : List Key) × (pending ≡ key ∷ rest)) ⊎ IsKnown memo key

eq_true : (a b : ℕ) → a ≡ b → (a == b) ≡ true
eq_true a b e = grind (arith, nat_tests)

eq_false : (a b : ℕ) → (a ≡ b → ⊥) → (a == b) ≡ false
eq_false a b e = grind (arith, nat_tests)

all_true : (a b c : Bool) → a ≡ true → b ≡ true → c ≡ true → (a && (b && c)) ≡ true
all_true a b c p q r = cc

-- a place is the key's, or one of its numbers is another
place_cases : (key : Key) (n c i : ℕ) → IsPlace key n c i ⊎ (((n == key.node) && ((c == key.column) && (i == key.indentation))) ≡ false)
place_cases key n c i = elim (cases_eq n key.node) [
  | inr other ↦ inr (ap (λ (b : Bool). b && ((c == key.column) && (i == key.indentation))) (eq_false n key.node other))
  | inl same ↦ elim (cases_eq c key.column) [
    | inr other ↦ inr (ap (λ (b : Bool). b && ((c == key.column) && (i == key.indentation))) (eq_true n key.node same) ∙ ap (λ (b : Bool). b && (i == key.indentation)) (eq_false c key.column other))
    | inl there ↦ elim (cases_eq i key.indentation) [
      | inr other ↦ inr (ap (λ (b : Bool). b && ((c == key.column) && (i == key.indentation))) (eq_true n key.node same)
          ∙ (ap (λ (b : Bool). b && (i == key.indentation)) (eq_true c key.column there) ∙ eq_false i key.indentation other))
      | inl deep ↦ inl (same, there, deep)
    ]
  ]
]

key_of : ℕ → ℕ → ℕ → Key
key_of n c i = record { node = n; column = c; indentation = i }

same_key : (key other : Key) → IsPlace other key.node key.column key.indentation → key ≡ other
unfolding key_of
same_key key other place =
    let first : key_of key.node key.column key.indentation ≡ key_of other.node key.column key.indentation = ap (λ (n : ℕ). key_of n key.column key.indentation) place.0 in
    let second : key_of other.node key.column key.indentation ≡ key_of other.node other.column key.indentation = ap (λ (n : ℕ). key_of other.node n key.indentation) place.1 in
    let third : key_of other.node other.column key.indentation ≡ key_of other.node other.column other.indentation = ap (λ (n : ℕ). key_of other.node other.column n) place.2 in
    first ∙ (second ∙ third)

not_place : (key other : Key) → ((other.node == key.node) && ((other.column == key.column) && (other.indentation == key.indentation))) ≡ false → IsPlace key other.node other.column other.indentation → ⊥
not_place key other apart place =
    let here = all_true _ _ _ (eq_true other.node key.node place.0) (eq_true other.column key.column place.1) (eq_true other.indentation key.indentation place.2) in
    let both : true ≡ false = sym here ∙ apart in
    cc

-- a memo that gains a frontier holds
gains_each : {C : Type 0} (costs : Costs C) (w : ℕ) (nodes : List GraphNode) (ways : List How) (old new : MemoView C) (key : Key) (f : List (Measure C HowId)) →
    Gains old key f new → IsFrontierAt costs w nodes ways key f →
    ((k : Key) (g : List (Measure C HowId)) → found_at old k ≡ Some g → IsFrontierAt costs w nodes ways k g) →
    (k : Key) (g : List (Measure C HowId)) → found_at new k ≡ Some g → IsFrontierAt costs w nodes ways k g
gains_each {C} costs w nodes ways old new key f gains at holds other h is = elim (place_cases key other.node other.column other.indentation) [
  | inl place ↦
      let same : other ≡ key = same_key other key place in
      let both : Some h ≡ Some f = sym is ∙ (ap (λ (k : Key). found_at new k) same ∙ gains.here) in
      let one : h ≡ f = cc in
      subst (λ (k : Key). IsFrontierAt costs w nodes ways k h) (sym same) (subst (λ (l : List (Measure C HowId)). IsFrontierAt costs w nodes ways key l) (sym one) at)
  | inr apart ↦ holds other h (sym (gains.elsewhere other.node other.column other.indentation (not_place key other apart)) ∙ is)
]

pub gains_holds : {C : Type 0} (costs : Costs C) (w : ℕ) (nodes : List GraphNode) (ways : List How) (old new : MemoView C) (key : Key) (f : List (Measure C HowId)) →
    Gains old key f new → IsFrontierAt costs w nodes ways key f → MemoHolds costs w nodes ways old → MemoHolds costs w nodes ways new
unfolding MemoHolds
gains_holds costs w nodes ways old new key f gains at holds = (holds.0, gains_each costs w nodes ways old new key f gains at holds.1)

-- the least number of a node that the stack names
lowest : ℕ → List Key → ℕ
lowest before [] = before
lowest before (key ∷ keys) = lowest key.node keys

lowest_below : {C : Type 0} (nodes : List GraphNode) (w : ℕ) (memo : MemoView C) (before : ℕ) (keys : List Key) → AreMissing nodes w memo before keys → lowest before keys + length keys ≤ before
unfolding AreMissing lowest
lowest_below nodes w memo before [] missing = omega arith
lowest_below nodes w memo before (key ∷ keys) missing =
    let rest : lowest key.node keys + length keys ≤ key.node = lowest_below nodes w memo key.node keys missing.3 in
    let first : key.node < before = missing.0 in
    omega (arith, rest, first)

lowest_last : (before : ℕ) (keys : List Key) (key : Key) → lowest before (keys ++ key ∷ []) ≡ key.node
unfolding lowest
lowest_last before [] key = refl
lowest_last before (x ∷ keys) key = lowest_last x.node keys key

-- the top of the stack, and what is below it
missing_top : {C : Type 0} (nodes : List GraphNode) (w : ℕ) (memo : MemoView C) (before : ℕ) (keys : List Key) (key : Key) → AreMissing nodes w memo before (keys ++ key ∷ []) →
    AreMissing nodes w memo before keys × (key.node < lowest before keys) × IsAsked nodes w key × (found_at memo key ≡ None)
unfolding AreMissing lowest
missing_top nodes w memo before [] key missing = (tt, missing.0, missing.1, missing.2)
missing_top nodes w memo before (x ∷ keys) key missing =
    let rest = missing_top nodes w memo x.node keys key missing.3 in
    ((missing.0, missing.1, missing.2, rest.0), rest.1, rest.2, rest.3)

missing_with : {C : Type 0} (nodes : List GraphNode) (w : ℕ) (memo : MemoView C) (before : ℕ) (keys : List Key) (key : Key) → AreMissing nodes w memo before keys → key.node < lowest before keys →
    IsAsked nodes w key → found_at memo key ≡ None → AreMissing nodes w memo before (keys ++ key ∷ [])
unfolding AreMissing lowest
missing_with nodes w memo before [] key missing less asked none = (less, asked, none, tt)
missing_with nodes w memo before (x ∷ keys) key missing less asked none = (missing.0, missing.1, missing.2, missing_with nodes w memo x.node keys key missing.3 less asked none)

-- one key more on the stack, that of a part
missing_more : {C : Type 0} (nodes : List GraphNode) (w : ℕ) (memo : MemoView C) (before : ℕ) (keys : List Key) (top part : Key) → AreMissing nodes w memo before (keys ++ top ∷ []) →
    part.node < top.node → IsAsked nodes w part → found_at memo part ≡ None → AreMissing nodes w memo before ((keys ++ top ∷ []) ++ part ∷ [])
missing_more nodes w memo before keys top part missing less asked none =
    missing_with nodes w memo before (keys ++ top ∷ []) part missing (subst (λ (n : ℕ). part.node < n) (sym (lowest_last before keys top)) less) asked none

-- what is below the top is still missing once the top's frontier is put
missing_still : {C : Type 0} (nodes : List GraphNode) (w : ℕ) (old new : MemoView C) (before : ℕ) (keys : List Key) (key : Key) (f : List (Measure C HowId)) → Gains old key f new →
    AreMissing nodes w old before keys → key.node < lowest before keys → AreMissing nodes w new before keys
unfolding AreMissing lowest
missing_still nodes w old new before [] key f gains missing less = tt
missing_still nodes w old new before (x ∷ keys) key f gains missing less =
    let under : lowest x.node keys + length keys ≤ x.node = lowest_below nodes w old x.node keys missing.3 in
    let other : (x.node ≡ key.node) → ⊥ = λ e. omega (arith, e, less, under) in
    (missing.0, missing.1, gains.elsewhere x.node x.column x.indentation (λ place. other place.0) ∙ missing.2, missing_still nodes w old new x.node keys key f gains missing.3 less)

stack_short : {C : Type 0} (nodes : List GraphNode) (w : ℕ) (memo : MemoView C) (before : ℕ) (keys : List Key) → AreMissing nodes w memo before keys → length keys ≤ before
stack_short nodes w memo before keys missing = omega (arith, lowest_below nodes w memo before keys missing)

-- the awaited key stays so
awaited_more : {C : Type 0} (memo : MemoView C) (key : Key) (pending more : List Key) → IsAwaited memo key pending → IsAwaited memo key (pending ++ more)
awaited_more memo key pending more awaited = elim awaited [
  | inl first ↦ inl (first.0 ++ more, ap (λ (l : List Key). l ++ more) first.1)
  | inr known ↦ inr known
]

known_still : {C : Type 0} (old new : MemoView C) (key top : Key) (f : List (Measure C HowId)) → Gains old top f new → IsKnown old key → IsKnown new key
known_still {C} old new key top f gains known = elim (place_cases top key.node key.column key.indentation) [
  | inl place ↦ (f, ap (λ (k : Key). found_at new k) (same_key key top place) ∙ gains.here)
  | inr apart ↦ (known.0, gains.elsewhere key.node key.column key.indentation (not_place top key apart) ∙ known.1)
]

awaited_put : {C : Type 0} (old new : MemoView C) (key top : Key) (pending : List Key) (f : List (Measure C HowId)) → Gains old top f new → IsAwaited old key (pending ++ top ∷ []) → IsAwaited new key pending
awaited_put old new key top [] f gains awaited = elim awaited [
  | inl first ↦ let same : top ≡ key = let e : top ∷ [] ≡ key ∷ first.0 = first.1 in cc in inr (f, ap (λ (k : Key). found_at new k) (sym same) ∙ gains.here)
  | inr known ↦ inr (known_still old new key top f gains known)
]
awaited_put old new key top (x ∷ pending) f gains awaited = elim awaited [
  | inl first ↦ let same : x ≡ key = let e : x ∷ (pending ++ top ∷ []) ≡ key ∷ first.0 = first.1 in cc in inl (pending, ap (λ (k : Key). k ∷ pending) same)
  | inr known ↦ inr (known_still old new key top f gains known)
]

-- a put frontier closes a gap
gains_gap : {C : Type 0} (nodes : List GraphNode) (w : ℕ) (old new : MemoView C) (key : Key) (f : List (Measure C HowId)) → Gains old key f new → IsAsked nodes w key → found_at old key ≡ None →
    gaps (found old) (length nodes) w ≡ gaps (found new) (length nodes) w + 1
gains_gap nodes w old new key f gains asked none =
    gap_closed (found old) (found new) (length nodes) w key.node key.column key.indentation f asked.node asked.column asked.indentation none gains.here gains.elsewhere

-- the steps for it are paid by it
pub paid_by_gap : (w start before after first now later : ℕ) → before ≡ after + 1 → PaidByGaps w start before first now → MakesAtMost (frontier_steps w) now later → PaidByGaps w start after first later
paid_by_gap w start before after first now later closed paid made =
    let spread : frontier_steps w * before ≡ frontier_steps w * after + frontier_steps w = ap (λ (n : ℕ). frontier_steps w * n) closed ∙ (let by : frontier_steps w * (after + 1) ≡ frontier_steps w * after + frontier_steps w = omega arith in by) in
    record { risen = omega (arith, paid.risen, made.0); paid = omega (arith, paid.paid, spread, made.1) }

pub within_gaps : (w start before first now later : ℕ) → 0 < before → PaidByGaps w start before first now → MakesAtMost (frontier_steps w) now later → MakesAtMost (frontier_steps w * start) first later
within_gaps w start before first now later some paid made =
    let at_least : frontier_steps w * 1 ≤ frontier_steps w * before = mul-le-mul (omega arith) some in
    (omega (arith, paid.risen, made.0), omega (arith, paid.paid, made.1, at_least))

-- a part is needed first
pub needs_turn : {C : Type 0} (nodes : List GraphNode) (w : ℕ) (memo : MemoView C) (key : Key) (items rest once twice : List Key) (top part : Key) → items ≡ rest ++ top ∷ [] → once ≡ rest ++ top ∷ [] →
    twice ≡ once ++ part ∷ [] → IsNeeded nodes w memo part top.node → AreMissing nodes w memo (length nodes) items → IsAwaited memo key items →
    AreMissing nodes w memo (length nodes) twice × IsAwaited memo key twice × (length twice ≡ length items + 1) × (length twice ≤ length nodes)
needs_turn nodes w memo key items rest once twice top part is first second needed missing awaited =
    let all : twice ≡ (rest ++ top ∷ []) ++ part ∷ [] = second ∙ ap (λ (l : List Key). l ++ part ∷ []) first in
    let more : twice ≡ items ++ part ∷ [] = all ∙ ap (λ (l : List Key). l ++ part ∷ []) (sym is) in
    let still : AreMissing nodes w memo (length nodes) twice =
    subst (λ (l : List Key). AreMissing nodes w memo (length nodes) l) (sym all)
    (missing_more nodes w memo (length nodes) rest top part (subst (λ (l : List Key). AreMissing nodes w memo (length nodes) l) is missing) needed.earlier needed.asked needed.missing) in
    let count : length twice ≡ length items + 1 = ap length more ∙ length-append items (part ∷ []) in (
      still,
      subst (λ (l : List Key). IsAwaited memo key l) (sym more) (awaited_more memo key items (part ∷ []) awaited),
      count,
      stack_short nodes w memo (length nodes) twice still,
    )

-- the top's frontier is put
pub put_turn : {C : Type 0} (nodes : List GraphNode) (w : ℕ) (old new : MemoView C) (key : Key) (items rest : List Key) (top : Key) (f : List (Measure C HowId)) → items ≡ rest ++ top ∷ [] → Gains old top f new →
    AreMissing nodes w old (length nodes) items → IsAwaited old key items →
    AreMissing nodes w new (length nodes) rest × IsAwaited new key rest × (length items ≡ length rest + 1) × (gaps (found old) (length nodes) w ≡ gaps (found new) (length nodes) w + 1)
put_turn nodes w old new key items rest top f is gains missing awaited =
    let parts = missing_top nodes w old (length nodes) rest top (subst (λ (l : List Key). AreMissing nodes w old (length nodes) l) is missing) in (
      missing_still nodes w old new (length nodes) rest top f gains parts.0 parts.1,
      awaited_put old new key top rest f gains (subst (λ (l : List Key). IsAwaited old key l) is awaited),
      ap length is ∙ length-append rest (top ∷ []),
      gains_gap nodes w old new top f gains parts.2 parts.3,
    )

pub top_asked : {C : Type 0} (nodes : List GraphNode) (w : ℕ) (memo : MemoView C) (items rest : List Key) (top : Key) → items ≡ rest ++ top ∷ [] → AreMissing nodes w memo (length nodes) items →
    IsAsked nodes w top × (found_at memo top ≡ None)
top_asked nodes w memo items rest top is missing =
    let parts = missing_top nodes w memo (length nodes) rest top (subst (λ (l : List Key). AreMissing nodes w memo (length nodes) l) is missing) in (parts.2, parts.3)

-- where something is missing there is a gap
pub some_gap : {C : Type 0} (nodes : List GraphNode) (w : ℕ) (memo : MemoView C) (key : Key) → IsAsked nodes w key → found_at memo key ≡ None → 0 < gaps (found memo) (length nodes) w
some_gap nodes w memo key asked none = gap_open (found memo) (length nodes) w key.node key.column key.indentation asked.node asked.column asked.indentation none

pub first_missing : {C : Type 0} (nodes : List GraphNode) (w : ℕ) (memo : MemoView C) (key : Key) (items : List Key) → items ≡ key ∷ [] → IsAsked nodes w key → found_at memo key ≡ None →
    AreMissing nodes w memo (length nodes) items × IsAwaited memo key items
unfolding AreMissing
first_missing nodes w memo key items is asked none = (
  subst (λ (l : List Key). AreMissing nodes w memo (length nodes) l) (sym is) (asked.node, asked, none, tt),
  inl ([], is),
)

pub none_paid : (w start steps : ℕ) → PaidByGaps w start start steps steps
none_paid w start steps = record { risen = omega arith; paid = omega arith }

pub same_holds : {C : Type 0} (costs : Costs C) (w : ℕ) (nodes : List GraphNode) (ways : List How) (old new : MemoView C) → SameFound old new → MemoHolds costs w nodes ways old → MemoHolds costs w nodes ways new
unfolding MemoHolds
same_holds costs w nodes ways old new same holds = (holds.0, λ key f is. holds.1 key f (sym (same key.node key.column key.indentation) ∙ is))

pub unpaid_still : (w start now first steps later : ℕ) → later ≡ steps → PaidByGaps w start now first steps → PaidByGaps w start now first later
unpaid_still w start now first steps later same paid = record { risen = omega (arith, paid.risen, same); paid = omega (arith, paid.paid, same) }

-- what was paid, and then as much as is left to pay
pub paid_and_most : (w start now first steps more : ℕ) → PaidByGaps w start now first steps → MakesAtMost (frontier_steps w * now) steps more → MakesAtMost (frontier_steps w * start) first more
paid_and_most w start now first steps more was made = (omega (arith, was.risen, made.0), omega (arith, was.paid, made.1))
