-- What is chosen where the frontier isn't empty.
use Rattle.std.proofs.Common.{◌≡◌, ℕ, ◌+◌, Bool, true, false, ◌&&◌, List, [], ◌∷◌, refl, ◌∙◌, ap}
use Rattle.std.specs.Prelude.{nat_le}
use Rattle.rf_base_document.specs.declared.directions.Dir.{Dir}
use Rattle.rf_base_document.specs.declared.directions.Dir.TheVariants.{Left}
use Rattle.rf_base_document.specs.Document.{Doc, Text, Newline, Hard, Concat, Nest, Align, Reset, Flatten, Choice, Only, Charge}
use Rattle.rf_base_cost.specs.declared.measures.Measure.{Measure}
use Rattle.rf_base_cost.specs.Cost.{Costs}
use Rattle.rf_base_cost.specs.Pareto.{marked, all_marked}
use Rattle.rf_base_optimum.specs.Plain.{leaf_measure, where_within, plain}
use Rattle.rf_base_optimum.specs.Chosen.{Chosen, chosen, first_of, chosen_both, chosen_side, choose}

within_first : {C : Type 0} (b : Bool) (n m : Measure C (List Dir)) (rest : List (Measure C (List Dir))) →
    where_within b n ≡ m ∷ rest → n ≡ m
within_first true n m rest e = cc
within_first false n m rest e = cc

leaf_first : {C : Type 0} (b : Bool) (last : ℕ) (cost : C) (m : Measure C (List Dir))
    (rest : List (Measure C (List Dir))) →
    where_within b (leaf_measure last cost) ≡ m ∷ rest → chosen [] last ≡ chosen m.how m.last
leaf_first {C = C} b last cost m rest e =
    ap (λ (x : Measure C (List Dir)). chosen x.how x.last) (within_first b (leaf_measure last cost) m rest e)

marked_first : {C : Type 0} (dir : Dir) (xs : List (Measure C (List Dir))) (m : Measure C (List Dir))
    (rest : List (Measure C (List Dir))) →
    all_marked dir xs ≡ m ∷ rest →
    (n : Measure C (List Dir)) × (more : List (Measure C (List Dir))) × (xs ≡ n ∷ more) × (marked dir n ≡ m)
marked_first dir [] m rest e = cc
marked_first dir (x ∷ xs) m rest e = (x, xs, refl, cc)

-- where there is a measure within the width, the first one is chosen
pub choose_first : {C : Type 0} (costs : Costs C) (w : ℕ) (d : Doc) (c i : ℕ) (m : Measure C (List Dir))
    (rest : List (Measure C (List Dir))) →
    plain costs w d c i ≡ m ∷ rest → choose costs w d c i ≡ chosen m.how m.last
unfolding plain choose
choose_first costs w (Text s len) c i m rest e = leaf_first (nat_le (c + len) w) (c + len) (costs.text c len) m rest e
choose_first costs w Newline c i m rest e = leaf_first (nat_le c w && nat_le i w) i (costs.newline i) m rest e
choose_first {C = C} costs w (Concat a b) c i m rest e =
    ap (λ (xs : List (Measure C (List Dir))). first_of xs
    (chosen_both (choose costs w a c i) (λ last. choose costs w b last i))) e
choose_first costs w (Nest n a) c i m rest e = choose_first costs w a c (i + n) m rest e
choose_first costs w (Align a) c i m rest e = choose_first costs w a c c m rest e
choose_first costs w (Reset a) c i m rest e = choose_first costs w a c 0 m rest e
choose_first {C = C} costs w (Choice a b) c i m rest e =
    ap (λ (xs : List (Measure C (List Dir))). first_of xs (chosen_side Left (choose costs w a c i))) e
choose_first {C = C} costs w (Only dir a) c i m rest e =
    let found = marked_first dir (plain costs w a c i) m rest e in
    ap (λ (x : Chosen). chosen_side dir x) (choose_first costs w a c i found.0 found.1 found.2)
    ∙ ap (λ (x : Measure C (List Dir)). chosen x.how x.last) found.3
choose_first {C = C} costs w (Charge k a) c i m rest e =
    ap (λ (xs : List (Measure C (List Dir))). first_of xs (choose costs w a c i)) e
choose_first costs w _ c i m rest e = cc
