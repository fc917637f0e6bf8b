-- What is kept of measures.
use Rattle.std.proofs.Common.{Result, Ok, Err, IfOk, Option, Some, None, ◌≡◌, ℕ, List, [], ◌∷◌, Bool, true, false, cond, ◌++◌, append-nil, refl, sym, ap, ◌∙◌, subst}
use Rattle.std.specs.Prelude.{nat_le, IfSome}
use Rattle.rf_base_cost.specs.declared.measures.Measure.{Measure}
use Rattle.rf_base_cost.specs.Cost.{Costs, IsValue, Lawful}
use Rattle.rf_base_cost.specs.Pareto.{EachIsValue, IsFrontier, pareto, rewayed}
use Rattle.rf_base_cost.proofs.Pareto.{pareto_is_frontier, frontier_is_pareto}
use Rattle.rf_base_cost.proofs.Members.{value_append}
use Rattle.rf_base_cut.specs.Cut.{cut}
use Rattle.rf_base_cut.proofs.Cutting.{cut_mapped}
use Rattle.rf_frontier.specs.declared.hows.How.{How}
use Rattle.rf_frontier.specs.declared.hows.HowId.{HowId}
use Rattle.rf_frontier.specs.Ways.{choices_of}
use Rattle.rf_frontier.specs.Frontiers.{BelongTo, all_chosen}
use Rattle.rf_frontier.proofs.Behind.{belong_append, chosen_append}
use Rattle.rf_frontier.proofs.Cuts.{cut_single}
use Rattle.rf_frontier.proofs.Results.{are_pruned}
use Rattle.rf_search.specs.Taking.{measures_of}
use Rattle.rf_search.specs.declared.taking.Behind.{Behind}
use Rattle.rf_search.specs.declared.taking.Behind.TheVariants.{Nothing, One, Several}

pub none_belongs : {C : Type 0} (ways : List How) (f : List (Measure C HowId)) → f ≡ [] → BelongTo ways f
unfolding BelongTo
none_belongs {C = C} ways f e = subst (λ (z : List (Measure C HowId)). BelongTo ways z) (sym e) tt

-- cutting looks at last columns alone
pub chosen_cut : {C : Type 0} (ways : List How) (x : ℕ) (f : List (Measure C HowId)) → all_chosen ways (cut x f) ≡ cut x (all_chosen ways f)
chosen_cut ways x f = sym (cut_mapped x (rewayed (λ (id : HowId). choices_of ways id.0)) f (λ m. refl))

behind_belongs : {C : Type 0} (ways : List How) (list : List (Measure C HowId)) (b : Bool) → BelongTo ways list → BelongTo ways (cond b [] list)
unfolding BelongTo
behind_belongs ways list true h = tt
behind_belongs ways list false h = h

pub belong_cut : {C : Type 0} (ways : List How) (x : ℕ) (f : List (Measure C HowId)) → BelongTo ways f → BelongTo ways (cut x f)
unfolding BelongTo cut
belong_cut ways x [] h = tt
belong_cut ways x (m ∷ rest) h = (h.0, behind_belongs ways (cut x rest) (nat_le m.last x) (belong_cut ways x rest h.1))

-- what stands behind a measure as one is a value
pub one_value_of : {C : Type 0} (costs : Costs C) (behind : Behind) (k : Measure C HowId) (several : List (Measure C HowId)) → behind ≡ One → EachIsValue costs (measures_of behind k several) → IsValue costs k.cost
unfolding EachIsValue
one_value_of costs Nothing k several e v = cc
one_value_of costs One k several e v = v.0
one_value_of costs Several k several e v = cc

-- the frontier of measures and more of them, cut at x
pub record IsOneMore {C : Type 0} (costs : Costs C) (x : ℕ) (old more new : List (Measure C HowId)) : Type 0 where
  pub chosen : (ways : List How) → all_chosen ways new ≡ cut x (pareto costs (all_chosen ways old ++ all_chosen ways more))
  pub belongs : (ways : List How) → BelongTo ways old → BelongTo ways more → BelongTo ways new

one_more : {C : Type 0} (costs : Costs C) (laws : Lawful costs) (x : ℕ) (old more new : List (Measure C HowId)) → EachIsValue costs old → EachIsValue costs more →
    new ≡ cut x (pareto costs (old ++ more)) → IsOneMore costs x old more new
one_more {C = C} costs laws x old more new u v is =
    let list = old ++ more in
    let both = are_pruned {E = Unit {0}} costs laws (Ok (pareto costs list)) (pareto costs list) list (value_append costs old more u v) refl refl in
    record {
      chosen = λ ways.
          ap (λ z. all_chosen ways z) is
          ∙ (chosen_cut ways x (pareto costs list)
          ∙ ap (λ z. cut x z) (both.chosen ways ∙ ap (λ z. pareto costs z) (chosen_append ways old more)));
      belongs = λ ways p q. subst (λ z. BelongTo ways z) (sym is) (belong_cut ways x (pareto costs list) (both.belongs ways (belong_append ways old more p q)));
    }

-- the same of what stands behind a measure as one
pub one_kept : {C : Type 0} (costs : Costs C) (laws : Lawful costs) (x : ℕ) (old new : List (Measure C HowId)) (behind : Behind) (k : Measure C HowId) (several : List (Measure C HowId)) → behind ≡ One →
    EachIsValue costs old → EachIsValue costs (measures_of behind k several) → new ≡ cut x (pareto costs (old ++ k ∷ [])) → IsOneMore costs x old (measures_of behind k several) new
one_kept costs laws x old new behind k several one u v is =
    let more : measures_of behind k several ≡ k ∷ [] = ap (λ b. measures_of b k several) one in
    one_more costs laws x old (measures_of behind k several) new u v (is ∙ ap (λ z. cut x (pareto costs (old ++ z))) (sym more))

-- the same of one measure in all
pub alone_kept : {C : Type 0} (costs : Costs C) (laws : Lawful costs) (x : ℕ) (old more : List (Measure C HowId)) (k : Measure C HowId) → EachIsValue costs old → EachIsValue costs more →
    IsFrontier costs (old ++ more) → old ++ more ≡ k ∷ [] → IsOneMore costs x old more (k ∷ [])
alone_kept {C = C} costs laws x old more k u v frontier alone =
    one_more costs laws x old more (k ∷ []) u v
    (sym (ap (λ (z : List (Measure C HowId)). cut x z) (frontier_is_pareto costs laws (old ++ more) (value_append costs old more u v) frontier ∙ alone) ∙ cut_single x k))

-- where nothing stands first
pub second_alone : {C : Type 0} (costs : Costs C) (laws : Lawful costs) (x : ℕ) (old : List (Measure C HowId)) (behind : Behind) (k : Measure C HowId) (several : List (Measure C HowId)) → old ≡ [] → behind ≡ One →
    EachIsValue costs old → EachIsValue costs (measures_of behind k several) → IsFrontier costs (measures_of behind k several) → IsOneMore costs x old (measures_of behind k several) (k ∷ [])
second_alone {C = C} costs laws x old behind k several none one u v frontier =
    let more = measures_of behind k several in
    let all : old ++ more ≡ more = ap (λ (z : List (Measure C HowId)). z ++ more) none in
    alone_kept costs laws x old more k u v (subst (λ (z : List (Measure C HowId)). IsFrontier costs z) (sym all) frontier) (all ∙ ap (λ b. measures_of b k several) one)

-- and where nothing stands behind
pub first_alone : {C : Type 0} (costs : Costs C) (laws : Lawful costs) (x : ℕ) (old : List (Measure C HowId)) (behind : Behind) (first k : Measure C HowId) (several : List (Measure C HowId)) → old ≡ first ∷ [] → behind ≡ Nothing →
    EachIsValue costs old → EachIsValue costs (measures_of behind k several) → IsFrontier costs old → IsOneMore costs x old (measures_of behind k several) (first ∷ [])
first_alone {C = C} costs laws x old behind first k several alone none u v frontier =
    let more = measures_of behind k several in
    let all : old ++ more ≡ old = ap (λ b. old ++ measures_of b k several) none ∙ append-nil old in
    alone_kept costs laws x old more first u v (subst (λ (z : List (Measure C HowId)). IsFrontier costs z) (sym all) frontier) (all ∙ alone)

-- what follows of a value of which two facts are known
pub if_both : {T E : Type 0} (r : Result T E) (P Q R : T → Type 0) → ((x : T) → P x → Q x → R x) → IfOk r P → IfOk r Q → IfOk r R
if_both (Ok x) P Q R f p q = f x p q
if_both (Err e) P Q R f p q = p

-- what follows of an answer that was found
pub if_found : {T E : Type 0} (r : Result (Option T) E) (P Q : T → Type 0) → ((x : T) → P x → Q x) → IfOk r (λ o. IfSome o P) → IfOk r (λ o. IfSome o Q)
if_found (Ok (Some x)) P Q f h = f x h
if_found (Ok None) P Q f h = h
if_found (Err e) P Q f h = h

-- what is worth keeping of measures and one more is a frontier
pub one_more_is_frontier : {C : Type 0} (costs : Costs C) (laws : Lawful costs) (old new : List (Measure C HowId)) (k : Measure C HowId) → EachIsValue costs old → IsValue costs k.cost →
    new ≡ pareto costs (old ++ k ∷ []) → IsFrontier costs new
unfolding EachIsValue
one_more_is_frontier {C = C} costs laws old new k u v is =
    subst (λ (z : List (Measure C HowId)). IsFrontier costs z) (sym is) (pareto_is_frontier costs laws (old ++ k ∷ []) (value_append costs old (k ∷ []) u (v, tt)))
