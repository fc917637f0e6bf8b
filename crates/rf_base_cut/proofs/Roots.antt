-- What stands behind nothing of a document, flat or not.
use Rattle.std.proofs.Common.{◌≡◌, ◌↔◌, ℕ, ◌≤◌, Bool, false, List, [], ◌∷◌, length, refl, sym, ◌∙◌, ap, subst, inl, Option, Some, None, arith}
use Rattle.std.specs.Prelude.{slice_get}
use Rattle.rf_base_document.specs.declared.directions.Dir.{Dir}
use Rattle.rf_base_document.specs.Document.{Doc, IsDocument}
use Rattle.rf_base_document.specs.Render.{Laid}
use Rattle.rf_base_document.specs.Simple.{simple}
use Rattle.rf_base_document.proofs.Simple.{keeps_layouts, is_core, core_has_no_more}
use Rattle.rf_base_cost.specs.declared.measures.Measure.{Measure}
use Rattle.rf_base_cost.specs.Cost.{Costs, IsColumn, Lawful, cost_of}
use Rattle.rf_base_cost.specs.Pareto.{IsMember}
use Rattle.rf_base_optimum.specs.Best.{WithinBy, HasWithin}
use Rattle.rf_base_optimum.specs.Chosen.{chosen, choose}
use Rattle.rf_base_optimum.specs.Plain.{leaf_measure, plain, EachEndsBy}
use Rattle.rf_base_optimum.proofs.CoreChoices.{core_document}
use Rattle.rf_base_optimum.proofs.Pruning.{measure_of_resolution, frontier_where_within}
use Rattle.rf_base_cut.specs.Cut.{cut, after}
use Rattle.rf_base_cut.specs.Documents.{after_some, after_in}
use Rattle.rf_base_cut.proofs.Cutting.{member_of_all, cut_first}
use Rattle.rf_base_cut.proofs.DocumentCuts.{one_core}
use Rattle.rf_base_cut.proofs.Steps as step

-- nothing is left of a list exactly where there was nothing
pub cut_of_none : {C : Type 0} (x : ℕ) (xs : List (Measure C (List Dir))) → cut x xs ≡ [] → xs ≡ []
unfolding cut
cut_of_none x [] e = refl
cut_of_none x (m ∷ xs) e = cc

pub none_of_cut : {C : Type 0} (x : ℕ) (xs : List (Measure C (List Dir))) → xs ≡ [] → cut x xs ≡ []
unfolding cut
none_of_cut x [] e = refl
none_of_cut x (m ∷ xs) e = cc

none_left : {A : Type 0} (xs : List A) → ((xs ≡ [] → ⊥) → ⊥) → xs ≡ []
none_left [] h = refl
none_left (x ∷ xs) h = absurd (h (λ e. cc))

-- a document and its core have the same resolutions within w columns
within_core : (w : ℕ) (d s : Doc) (flat : Bool) (c i : ℕ) → simple d flat ≡ Some s → HasWithin w d c i flat →
    HasWithin w s c i false
within_core w d s flat c i e h =
    let core = (keeps_layouts d flat h.0 c i h.1).0 h.2.0 in
    let same : core.0 ≡ s = one_core core.0 s (sym core.1 ∙ e) in
    (h.0, h.1, subst (λ (z : Doc). WithinBy w z h.0 c i false h.1) same (core.2, h.2.1))

core_within : (w : ℕ) (d s : Doc) (flat : Bool) (c i : ℕ) → simple d flat ≡ Some s → HasWithin w s c i false →
    HasWithin w d c i flat
core_within w d s flat c i e h = (h.0, h.1, (core_has_no_more d flat s h.0 c i h.1 e h.2.0, h.2.1))

no_core_within : (w : ℕ) (d : Doc) (flat : Bool) (c i : ℕ) → simple d flat ≡ None → HasWithin w d c i flat → ⊥
no_core_within w d flat c i e h =
    let core = (keeps_layouts d flat h.0 c i h.1).0 h.2.0 in
    let both : None ≡ Some core.0 = sym e ∙ core.1 in cc

core_none : {C : Type 0} (costs : Costs C) (laws : Lawful costs) (w : ℕ) (d s : Doc) (flat : Bool) (c i x : ℕ) →
    IsColumn w → IsColumn c → IsDocument d → simple d flat ≡ Some s →
    (after costs w s (leaf_measure c (costs.text c 0)) i x ≡ []) ↔ (HasWithin w d c i flat → ⊥)
core_none costs laws w d s flat c i x p q document e =
    let of_core = core_document d flat s document e in
    let before = step.nothing_before costs laws w s c i x p q of_core in
    let within = frontier_where_within costs laws w s c i p of_core (is_core d flat s e) in (
      λ none has. within.1 (within_core w d s flat c i e has) (cut_of_none x (plain costs w s c i) (sym before ∙ none)),
      λ no. before
          ∙ none_of_cut x (plain costs w s c i) (none_left (plain costs w s c i)
          (λ some. no (core_within w d s flat c i e (within.0 some)))),
    )

none_some : {C : Type 0} (costs : Costs C) (laws : Lawful costs) (w : ℕ) (d : Doc) (flat : Bool) (o : Option Doc)
    (c i x : ℕ) → IsColumn w → IsColumn c → IsDocument d → simple d flat ≡ o →
    (after_some costs w o (leaf_measure c (costs.text c 0)) i x ≡ []) ↔ (HasWithin w d c i flat → ⊥)
none_some costs laws w d flat None c i x p q document e = (λ none. no_core_within w d flat c i e, λ no. refl)
none_some costs laws w d flat (Some s) c i x p q document e = core_none costs laws w d s flat c i x p q document e

pub none_within : {C : Type 0} (costs : Costs C) (laws : Lawful costs) (w : ℕ) (d : Doc) (flat : Bool) (c i x : ℕ) →
    IsColumn w → IsColumn c → IsDocument d →
    (after_in costs w d flat (leaf_measure c (costs.text c 0)) i x ≡ []) ↔ (HasWithin w d c i flat → ⊥)
unfolding after_in
none_within costs laws w d flat c i x p q document =
    none_some costs laws w d flat (simple d flat) c i x p q document refl

-- the first measure is what is chosen
pub after_core : {C : Type 0} (costs : Costs C) (w : ℕ) (d s : Doc) (flat : Bool) (m : Measure C (List Dir)) (i x : ℕ) →
    simple d flat ≡ Some s →
    after_in costs w d flat m i x ≡ after costs w s m i x
unfolding after_in
after_core costs w d s flat m i x e = ap (λ (o : Option Doc). after_some costs w o m i x) e

first_there : {C : Type 0} (m : Measure C (List Dir)) (xs rest : List (Measure C (List Dir))) → xs ≡ m ∷ rest →
    IsMember m xs
unfolding IsMember
first_there {C = C} m xs rest e = subst (λ (z : List (Measure C (List Dir))). IsMember m z) (sym e) (inl refl)

pub first_in_chosen : {C : Type 0} (costs : Costs C) (laws : Lawful costs) (w : ℕ) (d s : Doc) (flat : Bool) (c i x : ℕ)
    (m : Measure C (List Dir)) (rest : List (Measure C (List Dir))) →
    IsColumn w → IsColumn c → IsDocument d → simple d flat ≡ Some s →
    after_in costs w d flat (leaf_measure c (costs.text c 0)) i x ≡ m ∷ rest →
    (choose costs w s c i ≡ chosen m.how m.last)
    × ((whole : Laid) × WithinBy w d m.how c i flat whole × (whole.last ≡ m.last)
    × (cost_of costs whole.pieces ≡ Some m.cost))
first_in_chosen {C = C} costs laws w d s flat c i x m rest p q document e f =
    let of_core = core_document d flat s document e in
    let is : after costs w s (leaf_measure c (costs.text c 0)) i x ≡ m ∷ rest =
    sym (after_core costs w d s flat (leaf_measure c (costs.text c 0)) i x e) ∙ f in
    let is_cut : cut x (plain costs w s c i) ≡ m ∷ rest =
    sym (step.nothing_before costs laws w s c i x p q of_core) ∙ is in
    let of_resolution =
    measure_of_resolution costs laws w s c i m p of_core
    (member_of_all x m (plain costs w s c i) (first_there m (cut x (plain costs w s c i)) rest is_cut)) in
    let whole = of_resolution.0 in (
      step.first_chosen costs laws w s c i x m p q of_core (ap (λ (z : List (Measure C (List Dir))). slice_get z 0) is),
      (
        whole,
        (core_has_no_more d flat s m.how c i whole e of_resolution.1.0, of_resolution.1.1),
        of_resolution.2,
        of_resolution.3,
      ),
    )

-- of measures that end by w one stays
one_stays : {C : Type 0} (w : ℕ) (xs : List (Measure C (List Dir))) → EachEndsBy w xs → length (cut w xs) ≤ 1
unfolding cut EachEndsBy
one_stays w [] h = omega arith
one_stays {C = C} w (m ∷ xs) h =
    let one : cut w (m ∷ xs) ≡ m ∷ [] = cut_first w m xs h.0 in
    let size : length (cut w (m ∷ xs)) ≡ 1 = ap (λ (z : List (Measure C (List Dir))). length z) one in omega arith

one_some : {C : Type 0} (costs : Costs C) (w : ℕ) (o : Option Doc) (m : Measure C (List Dir)) (i : ℕ) →
    length (after_some costs w o m i w) ≤ 1
one_some costs w None m i = omega arith
one_some {C = C} costs w (Some s) m i =
    subst (λ (z : List (Measure C (List Dir))). length z ≤ 1) (step.after_again costs w s m i w w (omega arith))
    (one_stays w (after costs w s m i w) (step.after_ends costs w s m i w))

pub one_at_width : {C : Type 0} (costs : Costs C) (w : ℕ) (d : Doc) (flat : Bool) (m : Measure C (List Dir)) (i : ℕ) →
    length (after_in costs w d flat m i w) ≤ 1
unfolding after_in
one_at_width costs w d flat m i = one_some costs w (simple d flat) m i
