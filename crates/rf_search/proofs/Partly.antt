-- What is chosen of a document, flat or not, from what is chosen of its parts.
use Rattle.std.proofs.Common.{◌≡◌, ℕ, ◌+◌, ◌<◌, ◌&&◌, Bool, true, false, List, [], ◌∷◌, ◌++◌, Option, None, Some, refl, sym, ◌∙◌, ap, ap₂, subst, arith}
use Rattle.std.specs.Prelude.{nat_le}
use Rattle.std.specs.Option.{option_map}
use Rattle.std.proofs.lemmas.Bool.Decides.{nat_tests}
use Rattle.std.proofs.lemmas.Bool.{and_left}
use Rattle.rf_base_document.specs.declared.directions.Dir.{Dir}
use Rattle.rf_base_document.specs.declared.directions.Dir.TheVariants.{Left, Right}
use Rattle.rf_base_document.specs.Document.{Doc, Text, Newline, Hard, Concat, Nest, Align, Reset, Flatten, Choice, Only, Charge, IsDocument}
use Rattle.rf_base_document.specs.Simple.{simple, simple_concat, simple_choice}
use Rattle.rf_base_cost.specs.declared.measures.Measure.{Measure}
use Rattle.rf_base_cost.specs.Cost.{Costs, Lawful, IsColumn}
use Rattle.rf_base_cost.specs.Pareto.{pareto, undominated, by_last, all_marked, all_raised}
use Rattle.rf_base_optimum.specs.Chosen.{Chosen, chosen, choose, first_of, chosen_both, chosen_side}
use Rattle.rf_base_optimum.specs.Plain.{plain, all_joined, leaf_measure, where_within}
use Rattle.rf_base_optimum.proofs.CoreChoices.{core_document}
use Rattle.rf_base_optimum.proofs.Optimum.{chosen_laid}
use Rattle.rf_base_optimum.specs.Best.{HasWithin}
use Rattle.rf_base_document.specs.Render.{Laid}
use Rattle.rf_base_document.specs.Picks.{LaidOutBy}
use Rattle.rf_base_document.proofs.Simple.{is_core, core_has_no_more}
use Rattle.rf_search.specs.Best.{IsBest}
use Rattle.rf_base_cut.specs.Cut.{cut}
use Rattle.rf_base_cut.specs.Documents.{after_in}
use Rattle.rf_base_cut.proofs.Roots.{after_core, none_within, cut_of_none, none_of_cut}
use Rattle.rf_base_cut.proofs.Steps.{nothing_before}
use Rattle.rf_base_cut.proofs.DocumentCuts.{one_core}
use Rattle.rf_search.specs.Parting.{IsChosen, HasNothing, IsPart, IsFirstPart}

pub nothing_found : {C : Type 0} (costs : Costs C) (laws : Lawful costs) (w : ℕ) (d : Doc) (flat : Bool) (column i x : ℕ) → IsColumn w → IsColumn column → IsDocument d →
    after_in costs w d flat (leaf_measure column (costs.text column 0)) i x ≡ [] → HasNothing costs w d flat column i
nothing_found {C = C} costs laws w d flat column i x p q document e =
    λ s core.
    let before = nothing_before costs laws w s column i x p q (core_document d flat s document core) in
    cut_of_none x (plain costs w s column i) (sym before ∙ (sym (after_core costs w d s flat (leaf_measure column (costs.text column 0)) i x core) ∙ e))

pruned_none : {C : Type 0} (costs : Costs C) (xs : List (Measure C (List Dir))) → xs ≡ [] → pareto costs xs ≡ []
unfolding pareto undominated by_last
pruned_none {C = C} costs xs e = subst (λ (z : List (Measure C (List Dir))). pareto costs z ≡ []) (sym e) refl

-- where the frontier is none, parts are chosen
by_parts_none : {C : Type 0} (xs : List (Measure C (List Dir))) (parts : Chosen) → xs ≡ [] → first_of xs parts ≡ parts
by_parts_none [] parts e = refl
by_parts_none (m ∷ xs) parts e = cc

-- each kind of node
pub text_part : {C : Type 0} (costs : Costs C) (w : ℕ) (t : List ℕ) (len : ℕ) (flat : Bool) (column i : ℕ) → IsChosen costs w (Text t len) flat column i [] (column + len)
unfolding simple choose
text_part costs w t len flat column i = (Text t len, refl, refl)

pub space_part : {C : Type 0} (costs : Costs C) (w column i : ℕ) (flat : Bool) → flat ≡ true → IsChosen costs w Newline flat column i [] (column + 1)
unfolding simple choose
space_part costs w column i true e = (Text (32 ∷ []) 1, refl, refl)
space_part costs w column i false e = cc

pub newline_part : {C : Type 0} (costs : Costs C) (w column i : ℕ) (flat : Bool) → flat ≡ false → IsChosen costs w Newline flat column i [] i
unfolding simple choose
newline_part costs w column i true e = cc
newline_part costs w column i false e = (Newline, refl, refl)

pub hard_part : {C : Type 0} (costs : Costs C) (w column i : ℕ) (flat : Bool) → flat ≡ false → IsChosen costs w Hard flat column i [] i
unfolding simple choose
hard_part costs w column i true e = cc
hard_part costs w column i false e = (Newline, refl, refl)

pub no_hard : (flat : Bool) → flat ≡ true → simple Hard flat ≡ None
unfolding simple
no_hard true e = refl
no_hard false e = cc

pub nest_part : {C : Type 0} (costs : Costs C) (w n : ℕ) (a : Doc) (flat : Bool) (column i : ℕ) (xs : List Dir) (last : ℕ) → IsChosen costs w a flat column (i + n) xs last → IsChosen costs w (Nest n a) flat column i xs last
unfolding simple choose
nest_part costs w n a flat column i xs last h = (Nest n h.0, ap (option_map (Nest n)) h.1, h.2)

pub align_part : {C : Type 0} (costs : Costs C) (w : ℕ) (a : Doc) (flat : Bool) (column i : ℕ) (xs : List Dir) (last : ℕ) → IsChosen costs w a flat column column xs last → IsChosen costs w (Align a) flat column i xs last
unfolding simple choose
align_part costs w a flat column i xs last h = (Align h.0, ap (option_map Align) h.1, h.2)

pub reset_part : {C : Type 0} (costs : Costs C) (w : ℕ) (a : Doc) (flat : Bool) (column i : ℕ) (xs : List Dir) (last : ℕ) → IsChosen costs w a flat column 0 xs last → IsChosen costs w (Reset a) flat column i xs last
unfolding simple choose
reset_part costs w a flat column i xs last h = (Reset h.0, ap (option_map Reset) h.1, h.2)

pub flatten_part : {C : Type 0} (costs : Costs C) (w : ℕ) (a : Doc) (flat : Bool) (column i : ℕ) (xs : List Dir) (last : ℕ) → IsChosen costs w a true column i xs last → IsChosen costs w (Flatten a) flat column i xs last
unfolding simple
flatten_part costs w a flat column i xs last h = h

pub charge_part : {C : Type 0} (costs : Costs C) (w k : ℕ) (a : Doc) (flat : Bool) (column i : ℕ) (xs : List Dir) (last : ℕ) → HasNothing costs w (Charge k a) flat column i →
    IsChosen costs w a flat column i xs last → IsChosen costs w (Charge k a) flat column i xs last
unfolding simple choose
charge_part costs w k a flat column i xs last nothing h =
    let core : simple (Charge k a) flat ≡ Some (Charge k h.0) = ap (option_map (Charge k)) h.1 in
    (Charge k h.0, core, by_parts_none (plain costs w (Charge k h.0) column i) (choose costs w h.0 column i) (nothing (Charge k h.0) core) ∙ h.2)

pub concat_part : {C : Type 0} (costs : Costs C) (w : ℕ) (a b : Doc) (flat : Bool) (column i : ℕ) (xs ys : List Dir) (middle last : ℕ) → HasNothing costs w (Concat a b) flat column i →
    IsChosen costs w a flat column i xs middle → IsChosen costs w b flat middle i ys last → IsChosen costs w (Concat a b) flat column i (xs ++ ys) last
unfolding simple choose
concat_part costs w a b flat column i xs ys middle last nothing h k =
    let core : simple (Concat a b) flat ≡ Some (Concat h.0 k.0) = ap₂ simple_concat h.1 k.1 in
    let parts = λ (z : ℕ). choose costs w k.0 z i in
    let both : chosen_both (choose costs w h.0 column i) parts ≡ chosen (xs ++ ys) last =
    ap (λ (z : Chosen). chosen_both z parts) h.2 ∙ ap (λ (z : Chosen). chosen (xs ++ z.choices) z.last) k.2 in
    (Concat h.0 k.0, core, by_parts_none (plain costs w (Concat h.0 k.0) column i) (chosen_both (choose costs w h.0 column i) parts) (nothing (Concat h.0 k.0) core) ∙ both)

left_side : {C : Type 0} (costs : Costs C) (w : ℕ) (a b : Doc) (flat : Bool) (column i : ℕ) (xs : List Dir) (last : ℕ) (o : Option Doc) → simple b flat ≡ o → HasNothing costs w (Choice a b) flat column i →
    IsChosen costs w a flat column i xs last → IsChosen costs w (Choice a b) flat column i (Left ∷ xs) last
unfolding simple choose
left_side costs w a b flat column i xs last None e nothing h =
    (Only Left h.0, ap₂ simple_choice h.1 e, ap (chosen_side Left) h.2)
left_side costs w a b flat column i xs last (Some t) e nothing h =
    let core : simple (Choice a b) flat ≡ Some (Choice h.0 t) = ap₂ simple_choice h.1 e in
    (Choice h.0 t, core, by_parts_none (plain costs w (Choice h.0 t) column i) (chosen_side Left (choose costs w h.0 column i)) (nothing (Choice h.0 t) core) ∙ ap (chosen_side Left) h.2)

pub left_part : {C : Type 0} (costs : Costs C) (w : ℕ) (a b : Doc) (flat : Bool) (column i : ℕ) (xs : List Dir) (last : ℕ) → HasNothing costs w (Choice a b) flat column i →
    IsChosen costs w a flat column i xs last → IsChosen costs w (Choice a b) flat column i (Left ∷ xs) last
left_part costs w a b flat column i xs last nothing h = left_side costs w a b flat column i xs last (simple b flat) refl nothing h

pub right_part : {C : Type 0} (costs : Costs C) (w : ℕ) (a b : Doc) (flat : Bool) (column i : ℕ) (ys : List Dir) (last : ℕ) → simple a flat ≡ None →
    IsChosen costs w b flat column i ys last → IsChosen costs w (Choice a b) flat column i (Right ∷ ys) last
unfolding simple choose
right_part costs w a b flat column i ys last none h = (Only Right h.0, ap₂ simple_choice none h.1, ap (chosen_side Right) h.2)

-- what has no core
pub no_first : (a b : Doc) (flat : Bool) → simple a flat ≡ None → simple (Concat a b) flat ≡ None
unfolding simple
no_first a b flat e = ap (λ (z : Option Doc). simple_concat z (simple b flat)) e

pub no_second : (a b : Doc) (flat : Bool) (s : Doc) → simple a flat ≡ Some s → simple b flat ≡ None → simple (Concat a b) flat ≡ None
unfolding simple
no_second a b flat s e f = ap₂ simple_concat e f

pub no_sides : (a b : Doc) (flat : Bool) → simple a flat ≡ None → simple b flat ≡ None → simple (Choice a b) flat ≡ None
unfolding simple
no_sides a b flat e f = ap₂ simple_choice e f

pub no_nest : (n : ℕ) (a : Doc) (flat : Bool) → simple a flat ≡ None → simple (Nest n a) flat ≡ None
unfolding simple
no_nest n a flat e = ap (option_map (Nest n)) e

pub no_align : (a : Doc) (flat : Bool) → simple a flat ≡ None → simple (Align a) flat ≡ None
unfolding simple
no_align a flat e = ap (option_map Align) e

pub no_reset : (a : Doc) (flat : Bool) → simple a flat ≡ None → simple (Reset a) flat ≡ None
unfolding simple
no_reset a flat e = ap (option_map Reset) e

pub no_flatten : (a : Doc) (flat : Bool) → simple a true ≡ None → simple (Flatten a) flat ≡ None
unfolding simple
no_flatten a flat e = e

pub no_charge : (k : ℕ) (a : Doc) (flat : Bool) → simple a flat ≡ None → simple (Charge k a) flat ≡ None
unfolding simple
no_charge k a flat e = ap (option_map (Charge k)) e

-- so what is chosen of a node of one part is what is chosen of the part
pub of_one : {C : Type 0} (costs : Costs C) (w : ℕ) (d a : Doc) (flat other : Bool) (column i j : ℕ) (old new : List Dir) (last : Option ℕ) → (simple a other ≡ None → simple d flat ≡ None) →
    ((xs : List Dir) (end : ℕ) → IsChosen costs w a other column j xs end → IsChosen costs w d flat column i xs end) →
    IsPart costs w a other column j old new last → IsPart costs w d flat column i old new last
of_one costs w d a flat other column i j old new None none some h = (none h.0, h.1)
of_one costs w d a flat other column i j old new (Some end) none some h = (h.0, h.1, some h.0 end h.2)

pub nothing_within : {C : Type 0} (costs : Costs C) (laws : Lawful costs) (w : ℕ) (d : Doc) (flat : Bool) (column i : ℕ) (s : Doc) → IsColumn w → IsColumn column → IsDocument d → simple d flat ≡ Some s → HasNothing costs w d flat column i →
    HasWithin w d column i flat → ⊥
nothing_within {C = C} costs laws w d flat column i s p q document core nothing within =
    let before = nothing_before costs laws w s column i w p q (core_document d flat s document core) in
    (none_within costs laws w d flat column i w p q document).0
    (after_core costs w d s flat (leaf_measure column (costs.text column 0)) i w core ∙ (before ∙ none_of_cut w (plain costs w s column i) (nothing s core))) within

-- what is chosen has a layout
pub chosen_has_layout : {C : Type 0} (costs : Costs C) (laws : Lawful costs) (w : ℕ) (d : Doc) (flat : Bool) (column i : ℕ) (choices : List Dir) (last : ℕ) → IsColumn w → IsDocument d → IsChosen costs w d flat column i choices last →
    (whole : Laid) × LaidOutBy d choices column i flat whole
chosen_has_layout costs laws w d flat column i choices last p document h =
    let laid = chosen_laid costs laws w h.0 column i p (core_document d flat h.0 document h.1) (is_core d flat h.0 h.1) in
    let same : (choose costs w h.0 column i).choices ≡ choices = ap (λ (z : Chosen). z.choices) h.2 in
    (laid.0, core_has_no_more d flat h.0 choices column i laid.0 h.1 (subst (λ (z : List Dir). LaidOutBy h.0 z column i false laid.0) same laid.1))

of_core : {C : Type 0} (costs : Costs C) (w : ℕ) (d : Doc) (new : List Dir) (last : ℕ) → IsChosen costs w d false 0 0 new last → (s : Doc) → simple d false ≡ Some s → new ≡ (choose costs w s 0 0).choices
of_core costs w d new last h s e =
    let same : h.0 ≡ s = one_core h.0 s (sym h.1 ∙ e) in
    sym (ap (λ (z : Chosen). z.choices) h.2) ∙ ap (λ (z : Doc). (choose costs w z 0 0).choices) same

-- so what is chosen from the beginning is best
pub best_within : {C : Type 0} (costs : Costs C) (laws : Lawful costs) (w : ℕ) (d : Doc) (new : List Dir) (last : ℕ) → IsColumn w → IsDocument d → IsFirstPart costs w d false 0 0 [] new (Some last) → IsBest costs w d new true
best_within costs laws w d new last p document h =
    let part = subst (λ (z : List Dir). IsChosen costs w d false 0 0 z last) (sym h.1.1) h.1.2 in
    record {
      chosen = λ s e. of_core costs w d new last part s e;
      laid = chosen_has_layout costs laws w d false 0 0 new last p document part;
      within_is = (λ t. h.0, λ has. refl);
    }

pub best_by_parts : {C : Type 0} (costs : Costs C) (laws : Lawful costs) (w : ℕ) (d : Doc) (new : List Dir) (last : ℕ) → IsColumn w → IsDocument d → HasNothing costs w d false 0 0 → IsPart costs w d false 0 0 [] new (Some last) →
    IsBest costs w d new false
best_by_parts costs laws w d new last p document nothing h =
    let part = subst (λ (z : List Dir). IsChosen costs w d false 0 0 z last) (sym h.1) h.2 in
    record {
      chosen = λ s e. of_core costs w d new last part s e;
      laid = chosen_has_layout costs laws w d false 0 0 new last p document part;
      within_is = (λ t. cc, λ has. absurd (nothing_within costs laws w d false 0 0 part.0 p (omega arith) document part.1 nothing has));
    }
