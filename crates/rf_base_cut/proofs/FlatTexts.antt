-- Documents without breaks and charges whose layouts are all equally long: their frontier is that of one text.
use Rattle.std.proofs.Common.{◌≡◌, ℕ, ◌+◌, ◌≤◌, Bool, true, false, cond, List, [], ◌∷◌, ◌++◌, refl, sym, ◌∙◌, ap, ap₂, subst, inl, Option, Some, None, arith}
use Rattle.std.specs.Prelude.{nat_le, nat_eq}
use Rattle.std.proofs.lemmas.Bool.Decides.{nat_tests}
use Rattle.rf_base_document.specs.declared.directions.Dir.{Dir}
use Rattle.rf_base_document.specs.declared.directions.Dir.TheVariants.{Left, Right}
use Rattle.rf_base_document.specs.Document.{Doc, Text, Newline, Hard, Concat, Nest, Align, Reset, Flatten, Choice, Only, Charge}
use Rattle.rf_base_cost.specs.declared.measures.Measure.{Measure}
use Rattle.rf_base_cost.specs.Cost.{Costs, IsValue, IsColumn, Lawful}
use Rattle.rf_base_cost.specs.Pareto.{undominated, placed, by_last, pareto, IsMember, EachIsValue, shifted, all_shifted, all_marked}
use Rattle.rf_base_cost.proofs.Dominance.{nat_le-true, dominates-from, true_le}
use Rattle.rf_base_cost.proofs.Pareto.{drop_dominated}
use Rattle.rf_base_optimum.specs.Plain.{where_within, all_joined, plain}
use Rattle.rf_base_optimum.proofs.Frontier.{pareto_nothing, joined_nothing}
use Rattle.rf_base_optimum.proofs.Pruning.{at_most_itself}
use Rattle.rf_base_cut.specs.Cut.{cut, after}
use Rattle.rf_base_cut.specs.OneLine.{measured, first_choices, both_lengths, same_length, flat_length}
use Rattle.rf_base_cut.proofs.Behind.{joined_one, behind_where}

-- the lengths of the parts
pub both_are : (a b : Option ℕ) (len : ℕ) → both_lengths a b ≡ Some len →
    (i : ℕ) × (j : ℕ) × (a ≡ Some i) × (b ≡ Some j) × (i + j ≡ len)
both_are (Some i) (Some j) len e = (i, j, refl, refl, cc)
both_are _ _ len e = cc

same_step : (i j len : ℕ) (b : Bool) → nat_eq i j ≡ b → cond b (Some i) None ≡ Some len → (i ≡ len) × (j ≡ len)
same_step i j len true e f =
    let one : i ≡ len = cc in
    let two : i ≡ j = grind (arith, nat_tests) in
    (one, sym two ∙ one)
same_step i j len false e f = cc

pub same_are : (a b : Option ℕ) (len : ℕ) → same_length a b ≡ Some len → (a ≡ Some len) × (b ≡ Some len)
same_are (Some i) (Some j) len e = let same = same_step i j len (nat_eq i j) refl e in (
  ap (λ (n : ℕ). Some n) same.0,
  ap (λ (n : ℕ). Some n) same.1,
)
same_are _ _ len e = cc

-- frontiers of one measure
pareto_one : {C : Type 0} (costs : Costs C) (m : Measure C (List Dir)) → pareto costs (m ∷ []) ≡ m ∷ []
unfolding pareto undominated by_last placed
pareto_one costs m = refl

joined_where : {C : Type 0} (costs : Costs C) (l r : Measure C (List Dir)) (first second : Bool)
    (behind : ℕ → List (Measure C (List Dir))) → (second ≡ true → first ≡ true) →
    behind l.last ≡ where_within second r →
    pareto costs (all_joined costs (where_within first l) behind) ≡ where_within second (shifted costs l r)
joined_where {C = C} costs l r true true behind f e =
    ap (pareto costs) (joined_one costs l behind ∙ ap (all_shifted costs l) e) ∙ pareto_one costs (shifted costs l r)
joined_where {C = C} costs l r true false behind f e =
    ap (pareto costs) (joined_one costs l behind ∙ ap (all_shifted costs l) e) ∙ pareto_nothing costs
joined_where costs l r false true behind f e = let wrong : false ≡ true = f refl in cc
joined_where costs l r false false behind f e = ap (pareto costs) (joined_nothing costs behind) ∙ pareto_nothing costs

choice_where : {C : Type 0} (costs : Costs C) (laws : Lawful costs) (last : ℕ) (cost : C) (x y : List Dir)
    (within : Bool) → (within ≡ true → IsValue costs cost) →
    pareto costs (all_marked Left (where_within within (measured last cost x))
    ++ all_marked Right (where_within within (measured last cost y)))
    ≡ where_within within (measured last cost (Left ∷ x))
unfolding EachIsValue IsMember
choice_where {C = C} costs laws last cost x y true f =
    let m : Measure C (List Dir) = measured last cost (Left ∷ x) in
    let n : Measure C (List Dir) = measured last cost (Right ∷ y) in
    let v = f refl in
    drop_dominated costs laws (m ∷ []) [] m n (v, tt) (v, tt) (inl refl)
    (dominates-from costs m n (omega arith) (at_most_itself costs laws cost v))
    ∙ pareto_one costs m
choice_where costs laws last cost x y false f = pareto_nothing costs

-- the text that a document without breaks and charges is
abbrev pub AsText : {C : Type 0} → Costs C → ℕ → Doc → ℕ → ℕ → ℕ → Type 0
AsText costs w d c i len =
    plain costs w d c i ≡ where_within (nat_le (c + len) w) (measured (c + len) (costs.text c len) (first_choices d))

pub text_value : {C : Type 0} (costs : Costs C) (laws : Lawful costs) (w c len : ℕ) → IsColumn w →
    nat_le (c + len) w ≡ true → IsValue costs (costs.text c len)
text_value costs laws w c len p e =
    let less : c + len ≤ w = nat_le-true (c + len) w e in laws.text_is_value c len (omega arith) (omega arith)

-- texts in a row cost what one text costs, where they are within
parts_where : {C : Type 0} (costs : Costs C) (laws : Lawful costs) (w c i j : ℕ) (how : List Dir) (within : Bool) →
    IsColumn w → nat_le ((c + i) + j) w ≡ within →
    where_within within (measured ((c + i) + j) (costs.add (costs.text c i) (costs.text (c + i) j)) how)
    ≡ where_within within (measured ((c + i) + j) (costs.text c (i + j)) how)
parts_where {C = C} costs laws w c i j how true p e =
    let less : (c + i) + j ≤ w = nat_le-true ((c + i) + j) w e in
    ap (λ (a : C). let z : Measure C (List Dir) = measured ((c + i) + j) a how in z ∷ [])
    (sym (laws.parts c i j (omega arith)))
parts_where costs laws w c i j how false p e = refl

concat_text : {C : Type 0} (costs : Costs C) (laws : Lawful costs) (w : ℕ) (a b : Doc) (c i x y : ℕ) → IsColumn w →
    AsText costs w a c i x → AsText costs w b (c + x) i y →
    AsText costs w (Concat a b) c i (x + y)
unfolding plain first_choices
concat_text {C = C} costs laws w a b c i x y p f g =
    let l : Measure C (List Dir) = measured (c + x) (costs.text c x) (first_choices a) in
    let r : Measure C (List Dir) = measured ((c + x) + y) (costs.text (c + x) y) (first_choices b) in
    let ends : (c + x) + y ≡ c + (x + y) = omega arith in
    ap (λ (z : List (Measure C (List Dir))). pareto costs (all_joined costs z (λ last. plain costs w b last i))) f
    ∙ joined_where costs l r (nat_le (c + x) w) (nat_le ((c + x) + y) w) (λ last. plain costs w b last i)
    (λ e. let less : (c + x) + y ≤ w = nat_le-true ((c + x) + y) w e in true_le (c + x) w (omega arith)) g
    ∙ parts_where costs laws w c x y (first_choices a ++ first_choices b) (nat_le ((c + x) + y) w) p refl
    ∙ ap (λ (n : ℕ). where_within (nat_le n w)
    (measured n (costs.text c (x + y)) (first_choices a ++ first_choices b))) ends

marked_where : {C : Type 0} (dir : Dir) (within : Bool) (last : ℕ) (cost : C) (how : List Dir) →
    all_marked dir (where_within within (measured last cost how)) ≡ where_within within (measured last cost (dir ∷ how))
marked_where dir true last cost how = refl
marked_where dir false last cost how = refl

pub flat_text : {C : Type 0} (costs : Costs C) (laws : Lawful costs) (w : ℕ) (d : Doc) (c i len : ℕ) → IsColumn w →
    flat_length d ≡ Some len → AsText costs w d c i len
unfolding plain flat_length first_choices
flat_text {C = C} costs laws w (Text s columns) c i len p e =
    let same : columns ≡ len = cc in
    ap (λ (n : ℕ). where_within (nat_le (c + n) w) (measured (c + n) (costs.text c n) [])) same
flat_text costs laws w (Concat a b) c i len p e =
    let parts = both_are (flat_length a) (flat_length b) len e in
    subst (λ (n : ℕ). AsText costs w (Concat a b) c i n) parts.4
    (concat_text costs laws w a b c i parts.0 parts.1 p (flat_text costs laws w a c i parts.0 p parts.2)
    (flat_text costs laws w b (c + parts.0) i parts.1 p parts.3))
flat_text costs laws w (Nest n a) c i len p e = flat_text costs laws w a c (i + n) len p e
flat_text costs laws w (Align a) c i len p e = flat_text costs laws w a c c len p e
flat_text costs laws w (Reset a) c i len p e = flat_text costs laws w a c 0 len p e
flat_text {C = C} costs laws w (Choice a b) c i len p e =
    let sides = same_are (flat_length a) (flat_length b) len e in
    ap₂ (λ (y z : List (Measure C (List Dir))). pareto costs (all_marked Left y ++ all_marked Right z))
    (flat_text costs laws w a c i len p sides.0) (flat_text costs laws w b c i len p sides.1)
    ∙ choice_where costs laws (c + len) (costs.text c len) (first_choices a) (first_choices b) (nat_le (c + len) w)
    (λ f. text_value costs laws w c len p f)
flat_text costs laws w (Only dir a) c i len p e =
    ap (all_marked dir) (flat_text costs laws w a c i len p e)
    ∙ marked_where dir (nat_le (c + len) w) (c + len) (costs.text c len) (first_choices a)
flat_text costs laws w _ c i len p e = cc

-- so behind a measure it is what one text is
pub after_flat : {C : Type 0} (costs : Costs C) (laws : Lawful costs) (w : ℕ) (d : Doc) (m : Measure C (List Dir))
    (i x len : ℕ) → IsColumn w → flat_length d ≡ Some len →
    after costs w d m i x
    ≡ where_within (nat_le (m.last + len) w)
    (measured (m.last + len) (costs.add m.cost (costs.text m.last len)) (m.how ++ first_choices d))
unfolding after
after_flat {C = C} costs laws w d m i x len p e =
    ap (λ (z : List (Measure C (List Dir))). cut x (all_shifted costs m z)) (flat_text costs laws w d m.last i len p e)
    ∙ behind_where costs m (measured (m.last + len) (costs.text m.last len) (first_choices d)) x
    (nat_le (m.last + len) w)
