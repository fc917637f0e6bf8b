-- Where the measures before a core can be cut.
use Rattle.std.proofs.Common.{◌≡◌, ℕ, ◌+◌, ◌-◌, ◌≤◌, ◌<◌, min, Bool, true, false, ◌&&◌, cond, List, [], ◌∷◌, ◌++◌, append_assoc, append-nil, refl, sym, ◌∙◌, ap, ap₂, subst, ◌⊎◌, inl, inr, Option, Some, None, arith}
use Rattle.std.specs.Prelude.{nat_le}
use Rattle.std.proofs.lemmas.Bool.{and_parts}
use Rattle.rf_base_document.specs.declared.directions.Dir.{Dir}
use Rattle.rf_base_document.specs.declared.directions.Dir.TheVariants.{Left, Right}
use Rattle.rf_base_document.specs.Document.{Doc, Text, Newline, Hard, Concat, Nest, Align, Reset, Flatten, Choice, Only, Charge, IsDocument}
use Rattle.rf_base_cost.specs.declared.measures.Measure.{Measure}
use Rattle.rf_base_cost.specs.Cost.{Costs, IsValue, IsColumn, Lawful}
use Rattle.rf_base_cost.specs.Pareto.{pareto, IsMember, EachFollows, IsFrontier, EachIsValue, shifted, all_shifted, all_marked, all_raised}
use Rattle.rf_base_cost.proofs.Dominance.{nat_le-true, true_le}
use Rattle.rf_base_cost.proofs.Members.{member-right, value_append}
use Rattle.rf_base_optimum.specs.Plain.{leaf_measure, where_within, all_joined, plain, EachEndsBy}
use Rattle.rf_base_optimum.specs.MostPieces.{most_pieces}
use Rattle.rf_base_optimum.proofs.Frontier.{within_values, plain_values, plain_frontier, plain_ends, shifted_values, joined_values, ends_member, joined_alike}
use Rattle.rf_base_optimum.proofs.Pruning.{member_map}
use Rattle.rf_base_optimum.proofs.Reflecting.{drop_all_behind}
use Rattle.rf_base_cut.specs.Cut.{cut, HasRoom}
use Rattle.rf_base_cut.specs.OneLine.{measured, first_choices, flat_length}
use Rattle.rf_base_cut.specs.Indifferent.{IsCutAt, begins_with_break, IsFree, IsFlatBy, MayCut, indifferent_to, indifferent}
use Rattle.rf_base_cut.proofs.Cutting.{nothing_cut, cut_values, cut_follows, cut_frontier, cut_ends}
use Rattle.rf_base_cut.proofs.Pruned.{drop_rest}
use Rattle.rf_base_cut.proofs.Behind.{joined_one, within_is}
use Rattle.rf_base_cut.proofs.FlatTexts.{text_value, flat_text}
use Rattle.rf_base_cut.proofs.Steps.{after_cut_at}

-- where a core begins with a break, the column doesn't matter
newline_anywhere : {C : Type 0} (costs : Costs C) (w c other i : ℕ) → c ≤ w → other ≤ w →
    where_within (nat_le c w && nat_le i w) (leaf_measure i (costs.newline i))
    ≡ where_within (nat_le other w && nat_le i w) (leaf_measure i (costs.newline i))
newline_anywhere costs w c other i p q =
    ap (λ (b : Bool). where_within (b && nat_le i w) (leaf_measure i (costs.newline i)))
    (true_le c w p ∙ sym (true_le other w q))

pub break_anywhere : {C : Type 0} (costs : Costs C) (w : ℕ) (d : Doc) (c other i : ℕ) → begins_with_break d ≡ true →
    c ≤ w → other ≤ w → plain costs w d c i ≡ plain costs w d other i
unfolding plain begins_with_break
break_anywhere costs w Newline c other i h p q = newline_anywhere costs w c other i p q
break_anywhere costs w Hard c other i h p q = refl
break_anywhere {C = C} costs w (Concat a b) c other i h p q =
    ap (λ (z : List (Measure C (List Dir))). pareto costs (all_joined costs z (λ last. plain costs w b last i)))
    (break_anywhere costs w a c other i h p q)
break_anywhere costs w (Nest n a) c other i h p q = break_anywhere costs w a c other (i + n) h p q
break_anywhere costs w (Reset a) c other i h p q = break_anywhere costs w a c other 0 h p q
break_anywhere costs w (Flatten a) c other i h p q = refl
break_anywhere {C = C} costs w (Choice a b) c other i h p q =
    let sides = and_parts (begins_with_break a) (begins_with_break b) h in
    ap₂ (λ (y z : List (Measure C (List Dir))). pareto costs (all_marked Left y ++ all_marked Right z))
    (break_anywhere costs w a c other i sides.0 p q) (break_anywhere costs w b c other i sides.1 p q)
break_anywhere costs w (Only dir a) c other i h p q = ap (all_marked dir) (break_anywhere costs w a c other i h p q)
break_anywhere {C = C} costs w (Charge k a) c other i h p q =
    ap (λ (z : List (Measure C (List Dir))). pareto costs (all_raised costs (costs.charge k) z))
    (break_anywhere costs w a c other i h p q)
break_anywhere costs w _ c other i h p q = cc

-- so of the measures before it the first is the last that matters
break_after_first : {C : Type 0} (costs : Costs C) (laws : Lawful costs) (w : ℕ) (b : Doc) (i : ℕ)
    (m : Measure C (List Dir)) (rest : List (Measure C (List Dir))) → IsColumn w → IsDocument b →
    begins_with_break b ≡ true → EachIsValue costs (m ∷ rest) → IsFrontier costs (m ∷ rest) → EachEndsBy w (m ∷ rest) →
    pareto costs (all_joined costs (m ∷ rest) (λ last. plain costs w b last i))
    ≡ pareto costs (all_shifted costs m (plain costs w b m.last i))
unfolding EachIsValue IsFrontier EachEndsBy all_joined
break_after_first {C = C} costs laws w b i m rest p d h v f e =
    let behind : ℕ → List (Measure C (List Dir)) = λ last. plain costs w b last i in
    let ns : List (Measure C (List Dir)) = behind m.last in
    let ns_values = plain_values costs laws w b m.last i p d in
    drop_all_behind costs laws m rest ns (all_shifted costs m ns) behind v.0 v.1 ns_values
    (shifted_values costs laws m ns v.0 ns_values) f.0
    (λ r l. break_anywhere costs w b r.last m.last i h (ends_member w r rest e.1 l) e.0)
    (λ n l. member_map (shifted costs m) n ns l)

break_step : {C : Type 0} (costs : Costs C) (laws : Lawful costs) (w : ℕ) (b : Doc) (i : ℕ) (m : Measure C (List Dir))
    (rest short : List (Measure C (List Dir))) (ends : Bool) → IsColumn w → IsDocument b →
    begins_with_break b ≡ true → EachIsValue costs (m ∷ rest) → IsFrontier costs (m ∷ rest) → EachEndsBy w (m ∷ rest) →
    EachIsValue costs (m ∷ short) → IsFrontier costs (m ∷ short) → EachEndsBy w (m ∷ short) →
    pareto costs (all_joined costs (m ∷ rest) (λ last. plain costs w b last i))
    ≡ pareto costs (all_joined costs (m ∷ cond ends [] short) (λ last. plain costs w b last i))
break_step costs laws w b i m rest short true p d h v f e v' f' e' =
    break_after_first costs laws w b i m rest p d h v f e
    ∙ ap (pareto costs) (sym (joined_one costs m (λ last. plain costs w b last i)))
break_step costs laws w b i m rest short false p d h v f e v' f' e' =
    break_after_first costs laws w b i m rest p d h v f e
    ∙ sym (break_after_first costs laws w b i m short p d h v' f' e')

before_break : {C : Type 0} (costs : Costs C) (laws : Lawful costs) (w : ℕ) (b : Doc) (i y : ℕ)
    (xs : List (Measure C (List Dir))) → IsColumn w → IsDocument b → begins_with_break b ≡ true →
    EachIsValue costs xs → IsFrontier costs xs → EachEndsBy w xs →
    pareto costs (all_joined costs xs (λ last. plain costs w b last i))
    ≡ pareto costs (all_joined costs (cut y xs) (λ last. plain costs w b last i))
unfolding cut EachIsValue IsFrontier EachEndsBy
before_break costs laws w b i y [] p d h v f e = refl
before_break costs laws w b i y (m ∷ rest) p d h v f e =
    break_step costs laws w b i m rest (cut y rest) (nat_le m.last y) p d h v f e
    (v.0, cut_values costs y rest v.1) (cut_follows costs y m rest f.0, cut_frontier costs y rest f.1)
    (e.0, cut_ends w y rest e.1)

pub after_before_break : {C : Type 0} (costs : Costs C) (laws : Lawful costs) (w : ℕ) (a b : Doc)
    (m : Measure C (List Dir)) (i x y : ℕ) → IsColumn w → IsDocument (Concat a b) →
    HasRoom costs (most_pieces (Concat a b)) m.cost → begins_with_break b ≡ true → IsCutAt costs w a b m i x y
unfolding IsDocument
after_before_break costs laws w a b m i x y p d h e =
    after_cut_at costs laws w a b m i x y p d h
    (ap (cut x) (before_break costs laws w b i y (plain costs w a m.last i) p d.1 e
    (plain_values costs laws w a m.last i p d.0) (plain_frontier costs laws w a m.last i p d.0)
    (plain_ends costs w a m.last i)))

-- the measure of one text, behind others
abbrev one_text : {C : Type 0} → Costs C → ℕ → ℕ → List Dir → ℕ → List (Measure C (List Dir))
one_text costs w len how last = where_within (nat_le (last + len) w) (measured (last + len) (costs.text last len) how)

text_behind : {C : Type 0} → Costs C → ℕ → List Dir → Measure C (List Dir) → Measure C (List Dir)
text_behind costs len how m = shifted costs m (measured (m.last + len) (costs.text m.last len) how)

one_text_values : {C : Type 0} (costs : Costs C) (laws : Lawful costs) (w len : ℕ) (how : List Dir) (last : ℕ) →
    IsColumn w → EachIsValue costs (one_text costs w len how last)
one_text_values costs laws w len how last p =
    within_values costs (nat_le (last + len) w) (measured (last + len) (costs.text last len) how)
    (λ e. text_value costs laws w last len p e)

-- measures of which each ends by y, and the text that ends by w behind each
joined_within : {C : Type 0} (costs : Costs C) (w len : ℕ) (how : List Dir) (m : Measure C (List Dir))
    (rest : List (Measure C (List Dir))) → m.last + len ≤ w →
    all_joined costs (m ∷ rest) (one_text costs w len how)
    ≡ text_behind costs len how m ∷ all_joined costs rest (one_text costs w len how)
unfolding all_joined text_behind
joined_within {C = C} costs w len how m rest p =
    ap (λ (z : List (Measure C (List Dir))). all_shifted costs m z ++ all_joined costs rest (one_text costs w len how))
    (within_is (nat_le (m.last + len) w) (measured (m.last + len) (costs.text m.last len) how)
    (true_le (m.last + len) w p))

-- behind a measure a text that is free adds nothing
pub free_adds : {C : Type 0} (costs : Costs C) (laws : Lawful costs) (free c len : ℕ) (a : C) → IsFree costs free →
    c + len ≤ free → IsValue costs a → costs.add a (costs.text c len) ≡ a
free_adds {C = C} costs laws free c len a f p v =
    ap (λ (b : C). costs.add a b) (f c len p) ∙ (laws.no_text 0 (omega arith) a v).1

joined_none : {C : Type 0} (costs : Costs C) (n : Measure C (List Dir)) (behind : ℕ → List (Measure C (List Dir))) →
    EachFollows costs n (all_joined costs [] behind)
unfolding all_joined EachFollows
joined_none costs n behind = tt

joined_follow : {C : Type 0} (costs : Costs C) (laws : Lawful costs) (w free len : ℕ) (how : List Dir)
    (m : Measure C (List Dir)) (rest : List (Measure C (List Dir))) → IsFree costs free →
    m.last + len ≤ free → m.last + len ≤ w → IsValue costs m.cost → EachIsValue costs rest → EachFollows costs m rest →
    EachFollows costs (text_behind costs len how m) (all_joined costs rest (one_text costs w len how))
unfolding EachIsValue EachFollows text_behind
joined_follow costs laws w free len how m [] f p q u v h =
    joined_none costs (text_behind costs len how m) (one_text costs w len how)
joined_follow {C = C} costs laws w free len how m (r ∷ rest) f p q u v h =
    let less : r.last < m.last = h.0 in
    let r_free : r.last + len ≤ free = omega arith in
    let r_within : r.last + len ≤ w = omega arith in
    let dear : costs.le (costs.add r.cost (costs.text r.last len)) (costs.add m.cost (costs.text m.last len)) ≡ false =
    ap₂ (λ (a b : C). costs.le a b) (free_adds costs laws free r.last len r.cost f r_free v.0)
    (free_adds costs laws free m.last len m.cost f p u) ∙ h.1 in
    subst (λ (z : List (Measure C (List Dir))). EachFollows costs (text_behind costs len how m) z)
    (sym (joined_within costs w len how r rest r_within))
    (omega arith, dear, joined_follow costs laws w free len how m rest f p q u v.1 h.2)

-- before a text that is free, of the measures by y the first is the last that matters
text_step : {C : Type 0} (costs : Costs C) (laws : Lawful costs) (w free len : ℕ) (how : List Dir) (x y : ℕ)
    (zs : List (Measure C (List Dir))) (m : Measure C (List Dir)) (rest short : List (Measure C (List Dir)))
    (b : Bool) →
    nat_le m.last y ≡ b → IsColumn w → IsFree costs free → y + len ≤ w → y + len ≤ free → y + len ≤ x →
    EachIsValue costs zs → IsValue costs m.cost → EachIsValue costs rest → EachFollows costs m rest →
    cut x (pareto costs
    ((zs ++ all_shifted costs m (one_text costs w len how m.last)) ++ all_joined costs rest (one_text costs w len how)))
    ≡ cut x (pareto costs
    ((zs ++ all_shifted costs m (one_text costs w len how m.last))
    ++ all_joined costs short (one_text costs w len how))) →
    cut x (pareto costs (zs ++ all_joined costs (m ∷ rest) (one_text costs w len how)))
    ≡ cut x (pareto costs (zs ++ all_joined costs (m ∷ cond b [] short) (one_text costs w len how)))
unfolding all_joined EachIsValue IsMember text_behind
text_step {C = C} costs laws w free len how x y zs m rest short true e p f ew ef ex t u v g k =
    let behind : ℕ → List (Measure C (List Dir)) = one_text costs w len how in
    let ends : m.last ≤ y = nat_le-true m.last y e in
    let j : Measure C (List Dir) = text_behind costs len how m in
    let values = joined_values costs laws rest behind v (λ last. one_text_values costs laws w len how last p) in
    let here : IsValue costs j.cost =
    subst (λ (a : C). IsValue costs a) (sym (free_adds costs laws free m.last len m.cost f (omega arith) u)) u in
    let follow = joined_follow costs laws w free len how m rest f (omega arith) (omega arith) u v g in
    ap (λ (z : List (Measure C (List Dir))). cut x (pareto costs (zs ++ z)))
    (joined_within costs w len how m rest (omega arith))
    ∙ ap (λ (z : List (Measure C (List Dir))). cut x (pareto costs z))
    (sym (append_assoc zs (j ∷ []) (all_joined costs rest behind)))
    ∙ ap (λ (z : List (Measure C (List Dir))). cut x (pareto costs ((zs ++ (j ∷ [])) ++ z)))
    (sym (append-nil (all_joined costs rest behind)))
    ∙ drop_rest costs laws x j (zs ++ (j ∷ [])) (all_joined costs rest behind) [] (value_append costs zs (j ∷ []) t (
      here,
      tt,
    )) values tt
    (member-right j zs (j ∷ []) (inl refl)) (omega arith) follow
    ∙ ap (λ (z : List (Measure C (List Dir))). cut x (pareto costs z)) (append_assoc zs (j ∷ []) [])
    ∙ ap (λ (z : List (Measure C (List Dir))). cut x (pareto costs (zs ++ z)))
    (sym (joined_within costs w len how m [] (omega arith)))
text_step {C = C} costs laws w free len how x y zs m rest short false e p f ew ef ex t u v g k =
    let behind : ℕ → List (Measure C (List Dir)) = one_text costs w len how in
    ap (λ (z : List (Measure C (List Dir))). cut x (pareto costs z))
    (sym (append_assoc zs (all_shifted costs m (behind m.last)) (all_joined costs rest behind)))
    ∙ k
    ∙ ap (λ (z : List (Measure C (List Dir))). cut x (pareto costs z))
    (append_assoc zs (all_shifted costs m (behind m.last)) (all_joined costs short behind))

before_text_behind : {C : Type 0} (costs : Costs C) (laws : Lawful costs) (w free len : ℕ) (how : List Dir) (x y : ℕ)
    (zs xs : List (Measure C (List Dir))) → IsColumn w →
    IsFree costs free → y + len ≤ w → y + len ≤ free → y + len ≤ x → EachIsValue costs zs → EachIsValue costs xs →
    IsFrontier costs xs →
    cut x (pareto costs (zs ++ all_joined costs xs (one_text costs w len how)))
    ≡ cut x (pareto costs (zs ++ all_joined costs (cut y xs) (one_text costs w len how)))
unfolding cut EachIsValue IsFrontier
before_text_behind costs laws w free len how x y zs [] p f ew ef ex t v g = refl
before_text_behind {C = C} costs laws w free len how x y zs (m ∷ xs) p f ew ef ex t v g =
    text_step costs laws w free len how x y zs m xs (cut y xs) (nat_le m.last y) refl p f ew ef ex t v.0 v.1 g.0
    (before_text_behind costs laws w free len how x y
    (zs ++ all_shifted costs m (one_text costs w len how m.last)) xs p f ew ef ex
    (value_append costs zs (all_shifted costs m (one_text costs w len how m.last)) t
    (shifted_values costs laws m (one_text costs w len how m.last) v.0
    (one_text_values costs laws w len how m.last p))) v.1 g.1)

before_flat : {C : Type 0} (costs : Costs C) (laws : Lawful costs) (w free : ℕ) (b : Doc) (i x y len : ℕ)
    (xs : List (Measure C (List Dir))) → IsColumn w → flat_length b ≡ Some len →
    IsFree costs free → y + len ≤ w → y + len ≤ free → y + len ≤ x → EachIsValue costs xs → IsFrontier costs xs →
    cut x (pareto costs (all_joined costs xs (λ last. plain costs w b last i)))
    ≡ cut x (pareto costs (all_joined costs (cut y xs) (λ last. plain costs w b last i)))
unfolding EachIsValue
before_flat {C = C} costs laws w free b i x y len xs p e f ew ef ex v g =
    let how = first_choices b in
    let is =
    λ (zs : List (Measure C (List Dir))). joined_alike costs zs (λ last. plain costs w b last i)
    (one_text costs w len how) (λ last. flat_text costs laws w b last i len p e) in
    ap (λ (z : List (Measure C (List Dir))). cut x (pareto costs z)) (is xs)
    ∙ before_text_behind costs laws w free len how x y [] xs p f ew ef ex tt v g
    ∙ ap (λ (z : List (Measure C (List Dir))). cut x (pareto costs z)) (sym (is (cut y xs)))

pub after_before_flat : {C : Type 0} (costs : Costs C) (laws : Lawful costs) (w free : ℕ) (a b : Doc)
    (m : Measure C (List Dir)) (i x y : ℕ) → IsColumn w → IsDocument (Concat a b) →
    HasRoom costs (most_pieces (Concat a b)) m.cost → IsFree costs free → IsFlatBy b y w free x →
    IsCutAt costs w a b m i x y
unfolding IsDocument
after_before_flat costs laws w free a b m i x y p d h f e =
    after_cut_at costs laws w a b m i x y p d h
    (before_flat costs laws w free b i x y e.0 (plain costs w a m.last i) p e.1 f e.2 e.3 e.4
    (plain_values costs laws w a m.last i p d.0) (plain_frontier costs laws w a m.last i p d.0))

-- before any core nothing need be cut
pub after_whole : {C : Type 0} (costs : Costs C) (laws : Lawful costs) (w : ℕ) (a b : Doc) (m : Measure C (List Dir))
    (i x : ℕ) → IsColumn w → IsDocument (Concat a b) →
    HasRoom costs (most_pieces (Concat a b)) m.cost → IsCutAt costs w a b m i x 0
unfolding IsDocument
after_whole {C = C} costs laws w a b m i x p d h =
    after_cut_at costs laws w a b m i x 0 p d h
    (ap (λ (z : List (Measure C (List Dir))). cut x
    (pareto costs (all_joined costs z (λ last. plain costs w b last i))))
    (sym (nothing_cut costs (plain costs w a m.last i) (plain_frontier costs laws w a m.last i p d.0))))

pub after_concat : {C : Type 0} (costs : Costs C) (laws : Lawful costs) (w free : ℕ) (a b : Doc)
    (m : Measure C (List Dir)) (i x y : ℕ) → IsColumn w → IsDocument (Concat a b) →
    HasRoom costs (most_pieces (Concat a b)) m.cost → IsFree costs free → MayCut w free b x y →
    IsCutAt costs w a b m i x y
after_concat costs laws w free a b m i x y p d h f (inl nowhere) =
    subst (λ (n : ℕ). IsCutAt costs w a b m i x n) (sym nowhere) (after_whole costs laws w a b m i x p d h)
after_concat costs laws w free a b m i x y p d h f (inr (inl begins)) =
    after_before_break costs laws w a b m i x y p d h begins
after_concat costs laws w free a b m i x y p d h f (inr (inr flat)) =
    after_before_flat costs laws w free a b m i x y p d h f flat

-- one column at which they may be cut
monus_fits : (a b : ℕ) → b ≤ a → (a - b) + b ≡ a
monus_fits a b p = omega arith

monus_none : (a b : ℕ) → a < b → a - b ≡ 0
monus_none a b p = omega arith

fits_or_not : (a b : ℕ) → (b ≤ a) ⊎ (a < b)
fits_or_not a b = grind arith

pub may_cut_at : (w free x : ℕ) (begins : Bool) (lens : Option ℕ) → free ≤ w →
    let y = indifferent_to w free begins lens x in
    (y ≡ 0) ⊎ ((begins ≡ true) ⊎ ((len : ℕ) × (lens ≡ Some len) × (y + len ≤ w) × (y + len ≤ free) × (y + len ≤ x)))
may_cut_at w free x true None p = inr (inl refl)
may_cut_at w free x false None p = inl refl
may_cut_at w free x begins (Some len) p =
    elim (fits_or_not (min x free) len) [
      | inl fits ↦
          let is = monus_fits (min x free) len fits in inr (inr (len, refl, omega arith, omega arith, omega arith))
      | inr past ↦ inl (monus_none (min x free) len past)
    ]

pub indifferent_may_cut : (w free x : ℕ) (d : Doc) → free ≤ w → MayCut w free d x (indifferent w free d x)
indifferent_may_cut w free x d p = may_cut_at w free x (begins_with_break d) (flat_length d) p

pub no_text_is_free : {C : Type 0} (costs : Costs C) → IsFree costs 0
no_text_is_free {C = C} costs c len p = ap₂ (λ (i j : ℕ). costs.text i j) (omega arith) (omega arith)
