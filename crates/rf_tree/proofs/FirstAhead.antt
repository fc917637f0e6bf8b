-- The first of the slots that are ahead, at most so many.
use Rattle.std.proofs.Common.{◌≡◌, false, ℕ, zero, suc, ◌+◌, ◌≤◌, Option, None, Some, List, [], length, take, drop, refl, sym, ◌∙◌, ap, length-drop, arith}
use Rattle.std.proofs.lemmas.List.{drop-drop, drop_all}
use Rattle.std.specs.Option.{is_some}
use Rattle.rf_tree.specs.Slots.{NodeSlot}
use Rattle.rf_tree.specs.Ahead.{TakesFirst}
use Rattle.rf_tree.specs.declared.cursors.SlotRef.{SlotRef}

take_none : {A : Type 0} (n : ℕ) → take {A = A} n [] ≡ []
take_none zero = refl
take_none (suc n) = refl

pub first_of_more : (n : ℕ) (ahead : List NodeSlot) (slot : Option SlotRef) (rest : List NodeSlot) → TakesFirst ahead slot rest → TakesFirst (take (suc n) ahead) slot (take n rest)
first_of_more n ahead None rest h = (ap (take (suc n)) h.0, ap (take n) h.1 ∙ take_none n)
first_of_more n ahead (Some slot) rest h = ap (take (suc n)) h

-- where nothing is left behind the first m, nothing is behind the first n
ends : (m n : ℕ) (all : List NodeSlot) → m ≤ n → drop m all ≡ [] → drop n all ≡ []
ends m n all le e =
    let long : length (drop m all) ≡ 0 = ap length e in
    drop_all n all (omega (arith, length-drop m all, long))

pub none_behind : (m n : ℕ) (all ahead rest : List NodeSlot) (slot : Option SlotRef) → m ≤ n → ahead ≡ drop m all → TakesFirst ahead slot rest → is_some slot ≡ false →
    rest ≡ drop n all
none_behind m n all ahead rest None le e h none = h.1 ∙ sym (ends m n all le (sym e ∙ h.0))
none_behind m n all ahead rest (Some slot) le e h none = cc

-- where the first of those behind the first n is taken, those behind the first n + 1 are left
pub one_behind : (n : ℕ) (all ahead rest : List NodeSlot) (slot : Option SlotRef) → ahead ≡ drop n all → TakesFirst ahead slot rest → rest ≡ drop (n + 1) all
one_behind n all ahead rest None e h = none_behind n (n + 1) all ahead rest None (omega arith) e h refl
one_behind n all ahead rest (Some slot) e h = ap (drop 1) (sym h) ∙ ap (drop 1) e ∙ drop-drop 1 n all
