-- What a walk finds picks a resolution that weighs at least what was counted.
use Rattle.std.proofs.Common.{◌≡◌, ℕ, ◌+◌, ◌≤◌, List, [], ◌∷◌, ◌++◌, length, refl, arith, length-append, inl}
use Rattle.rf_base_document.specs.declared.directions.Dir.{Dir}
use Rattle.rf_base_document.specs.Document.{Doc, Text, Newline, Hard, Concat, Nest, Align, Reset, Flatten, Choice, Only, Charge, IsDocument}
use Rattle.rf_base_document.specs.Simple.{IsCore}
use Rattle.rf_base_document.specs.Picks.{Picks, HasPicked, leaves_of, weight_of}
use Rattle.rf_base_cost.specs.declared.measures.Measure.{Measure}
use Rattle.rf_base_cost.specs.Cost.{Costs}
use Rattle.rf_base_optimum.specs.Plain.{plain}
use Rattle.rf_resolve.specs.Walk.{Walked, at_most_past, first_walked, walked_both, walk}

-- the choices pick a resolution that has at least this weight
abbrev pub IsWeighed : Doc → Walked → Type 0
IsWeighed d went = (e : Doc) × Picks d went.choices e × (went.weight ≤ weight_of e went.choices)

-- the choices of the first measure of each frontier pick a resolution
abbrev pub FirstsPick : {C : Type 0} → Costs C → ℕ → Type 0
FirstsPick {C} costs w =
    (d : Doc) (c i : ℕ) (m : Measure C (List Dir)) (rest : List (Measure C (List Dir))) → IsDocument d → IsCore d →
    plain costs w d c i ≡ m ∷ rest → HasPicked d m.how

by_frontier : {C : Type 0} (d : Doc) (found : List (Measure C (List Dir))) (went : Walked) →
    ((m : Measure C (List Dir)) (rest : List (Measure C (List Dir))) → found ≡ m ∷ rest → HasPicked d m.how) →
    IsWeighed d went → IsWeighed d (first_walked found went)
by_frontier d [] went firsts weighed = weighed
by_frontier d (m ∷ rest) went firsts weighed = let picked = firsts m rest refl in (picked.0, picked.1, omega arith)

both_weighed : (a b : Doc) (first : Walked) (second : ℕ → Walked) → IsWeighed a first → IsWeighed b (second first.last) →
    IsWeighed (Concat a b) (walked_both first second)
unfolding Picks leaves_of
both_weighed a b first second left right = (
  Concat left.0 right.0,
  (first.choices, (second first.last).choices, left.0, right.0, refl, refl, left.1, right.1),
  let all : length (first.choices ++ (second first.last).choices) ≡ length first.choices + length (second first.last).choices = length-append first.choices (second first.last).choices in
      omega (arith, left.2, right.2, all),
)

pub walk_weighed : {C : Type 0} (costs : Costs C) (w : ℕ) (firsts : FirstsPick costs w) (d : Doc) (c i : ℕ) → IsDocument d → IsCore d →
    IsWeighed d (walk costs w d c i)
unfolding walk IsDocument IsCore Picks leaves_of
walk_weighed costs w firsts (Text s len) c i doc core = by_frontier (Text s len) _ _ (λ m rest is. firsts (Text s len) c i m rest doc core is) (Text s len, (refl, refl), omega arith)
walk_weighed costs w firsts Newline c i doc core = by_frontier Newline _ _ (λ m rest is. firsts Newline c i m rest doc core is) (Newline, (refl, refl), omega arith)
walk_weighed costs w firsts (Concat a b) c i doc core =
    by_frontier (Concat a b) _ _ (λ m rest is. firsts (Concat a b) c i m rest doc core is)
    (both_weighed a b (walk costs w a c i) (λ last. walk costs w b last i) (walk_weighed costs w firsts a c i doc.0 core.0) (walk_weighed costs w firsts b (walk costs w a c i).last i doc.1 core.1))
walk_weighed costs w firsts (Nest n a) c i doc core =
    let part = walk_weighed costs w firsts a c (at_most_past w (i + n)) doc.1 core in
    by_frontier (Nest n a) _ _ (λ m rest is. firsts (Nest n a) c i m rest doc core is) (Nest n part.0, (part.0, refl, part.1), part.2)
walk_weighed costs w firsts (Align a) c i doc core =
    let part = walk_weighed costs w firsts a c c doc core in
    by_frontier (Align a) _ _ (λ m rest is. firsts (Align a) c i m rest doc core is) (Align part.0, (part.0, refl, part.1), part.2)
walk_weighed costs w firsts (Reset a) c i doc core =
    let part = walk_weighed costs w firsts a c 0 doc core in
    by_frontier (Reset a) _ _ (λ m rest is. firsts (Reset a) c i m rest doc core is) (Reset part.0, (part.0, refl, part.1), part.2)
walk_weighed costs w firsts (Choice a b) c i doc core =
    let part = walk_weighed costs w firsts a c i doc.0 core.0 in
    by_frontier (Choice a b) _ _ (λ m rest is. firsts (Choice a b) c i m rest doc core is)
    (part.0, ((walk costs w a c i).choices, inl (refl, part.1)), omega (arith, part.2))
walk_weighed costs w firsts (Only dir a) c i doc core =
    let part = walk_weighed costs w firsts a c i doc core in
    by_frontier (Only dir a) _ _ (λ m rest is. firsts (Only dir a) c i m rest doc core is)
    (part.0, ((walk costs w a c i).choices, refl, part.1), omega (arith, part.2))
walk_weighed costs w firsts (Charge k a) c i doc core =
    let part = walk_weighed costs w firsts a c i doc.1 core in
    by_frontier (Charge k a) _ _ (λ m rest is. firsts (Charge k a) c i m rest doc core is) (Charge k part.0, (part.0, refl, part.1), part.2)
walk_weighed costs w firsts _ c i doc core = absurd core
