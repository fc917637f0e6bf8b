-- What stands behind a measure of a document, flat or not, node by node.
use Rattle.std.proofs.Common.{◌≡◌, ℕ, suc, ◌+◌, ◌≤◌, max, Bool, true, false, List, [], ◌∷◌, ◌++◌, length, append-nil, refl, sym, ◌∙◌, ap, ap₂, subst, Option, Some, None, arith}
use Rattle.std.specs.Prelude.{flat_map}
use Rattle.std.specs.Option.{option_map}
use Rattle.rf_base_document.specs.declared.directions.Dir.{Dir}
use Rattle.rf_base_document.specs.declared.directions.Dir.TheVariants.{Left, Right}
use Rattle.rf_base_document.specs.Document.{Doc, Text, Newline, Hard, Concat, Nest, Align, Reset, Flatten, Choice, Only, Charge, IsDocument}
use Rattle.rf_base_document.specs.Simple.{simple_newline, simple_hard, simple_concat, simple_choice, simple}
use Rattle.rf_base_cost.specs.declared.measures.Measure.{Measure}
use Rattle.rf_base_cost.specs.Cost.{Costs, IsColumn, Lawful}
use Rattle.rf_base_cost.specs.Pareto.{pareto, IsMember, IsFrontier, EachIsValue, all_shifted}
use Rattle.rf_base_cost.proofs.Pareto.{frontier_is_pareto}
use Rattle.rf_base_optimum.specs.Plain.{leaf_measure, EachEndsBy}
use Rattle.rf_base_optimum.specs.MostPieces.{most_pieces}
use Rattle.rf_base_optimum.proofs.CoreChoices.{core_document}
use Rattle.rf_base_optimum.proofs.Frontier.{pareto_nothing}
use Rattle.rf_base_cut.specs.Cut.{cut, after, turned, extended, HasRoom}
use Rattle.rf_base_cut.specs.Indifferent.{IsFree, MayCut}
use Rattle.rf_base_cut.specs.Documents.{after_some, after_in, text_behind, break_behind}
use Rattle.rf_base_cut.proofs.Behind.{room_value, room_fewer}
use Rattle.rf_base_cut.proofs.Steps as step
use Rattle.rf_base_cut.proofs.Indifferent.{after_concat}
use Rattle.rf_base_document.proofs.Simple.{map_is, concat_is}

-- a core has at most as many pieces as its document
choice_pieces : (o p : Option Doc) (s : Doc) (i j : ℕ) → ((a : Doc) → o ≡ Some a → most_pieces a ≤ i) →
    ((b : Doc) → p ≡ Some b → most_pieces b ≤ j) →
    simple_choice o p ≡ Some s → most_pieces s ≤ max i j
unfolding most_pieces
choice_pieces None None s i j f g e = cc
choice_pieces None (Some b) s i j f g e =
    let same : Only Right b ≡ s = cc in
    let one : most_pieces b ≤ j = g b refl in
    subst (λ (x : Doc). most_pieces x ≤ max i j) same (omega arith)
choice_pieces (Some a) None s i j f g e =
    let same : Only Left a ≡ s = cc in
    let one : most_pieces a ≤ i = f a refl in
    subst (λ (x : Doc). most_pieces x ≤ max i j) same (omega arith)
choice_pieces (Some a) (Some b) s i j f g e =
    let same : Choice a b ≡ s = cc in
    let one : most_pieces a ≤ i = f a refl in
    let two : most_pieces b ≤ j = g b refl in
    subst (λ (x : Doc). most_pieces x ≤ max i j) same (omega arith)

newline_pieces : (flat : Bool) → most_pieces (simple_newline flat) ≤ 1
unfolding most_pieces
newline_pieces true = omega arith
newline_pieces false = omega arith

hard_pieces : (flat : Bool) (s : Doc) → simple_hard flat ≡ Some s → most_pieces s ≤ 1
unfolding most_pieces
hard_pieces true s e = cc
hard_pieces false s e = let same : Newline ≡ s = cc in subst (λ (x : Doc). most_pieces x ≤ 1) same (omega arith)

core_pieces : (d : Doc) (flat : Bool) (s : Doc) → simple d flat ≡ Some s → most_pieces s ≤ most_pieces d
unfolding simple most_pieces
core_pieces (Text t len) flat s e =
    let same : Text t len ≡ s = cc in subst (λ (x : Doc). most_pieces x ≤ 1) same (omega arith)
core_pieces Newline flat s e =
    let same : simple_newline flat ≡ s = cc in subst (λ (x : Doc). most_pieces x ≤ 1) same (newline_pieces flat)
core_pieces Hard flat s e = hard_pieces flat s e
core_pieces (Concat a b) flat s e =
    let parts = concat_is (simple a flat) (simple b flat) s e in
    let one : most_pieces parts.0 ≤ most_pieces a = core_pieces a flat parts.0 parts.2 in
    let two : most_pieces parts.1 ≤ most_pieces b = core_pieces b flat parts.1 parts.3 in
    subst (λ (x : Doc). most_pieces x ≤ most_pieces a + most_pieces b) (sym parts.4) (omega arith)
core_pieces (Nest n a) flat s e =
    let part = map_is (Nest n) (simple a flat) s e in
    subst (λ (x : Doc). most_pieces x ≤ most_pieces a) (sym part.2) (core_pieces a flat part.0 part.1)
core_pieces (Align a) flat s e =
    let part = map_is Align (simple a flat) s e in
    subst (λ (x : Doc). most_pieces x ≤ most_pieces a) (sym part.2) (core_pieces a flat part.0 part.1)
core_pieces (Reset a) flat s e =
    let part = map_is Reset (simple a flat) s e in
    subst (λ (x : Doc). most_pieces x ≤ most_pieces a) (sym part.2) (core_pieces a flat part.0 part.1)
core_pieces (Flatten a) flat s e = core_pieces a true s e
core_pieces (Choice a b) flat s e =
    choice_pieces (simple a flat) (simple b flat) s (most_pieces a) (most_pieces b) (λ x k. core_pieces a flat x k)
    (λ x k. core_pieces b flat x k) e
core_pieces (Only dir a) flat s e =
    let part = map_is (Only dir) (simple a flat) s e in
    subst (λ (x : Doc). most_pieces x ≤ most_pieces a) (sym part.2) (core_pieces a flat part.0 part.1)
core_pieces (Charge k a) flat s e =
    let part = map_is (Charge k) (simple a flat) s e in
    let under : most_pieces part.0 ≤ most_pieces a = core_pieces a flat part.0 part.1 in
    subst (λ (x : Doc). most_pieces x ≤ suc (most_pieces a)) (sym part.2) (omega arith)

-- a core, where there is one, keeps the limits of documents and has at most n pieces
abbrev pub Fits : Option Doc → ℕ → Type 0
Fits o n = (s : Doc) → o ≡ Some s → IsDocument s × (most_pieces s ≤ n)

pub core_fits : (d : Doc) (flat : Bool) → IsDocument d → Fits (simple d flat) (most_pieces d)
core_fits d flat q s e = (core_document d flat s q e, core_pieces d flat s e)

-- leaves
pub after_text : {C : Type 0} (costs : Costs C) (w : ℕ) (s : List ℕ) (len : ℕ) (flat : Bool) (m : Measure C (List Dir))
    (i x : ℕ) →
    after_in costs w (Text s len) flat m i x ≡ text_behind costs w m len
unfolding after_in simple
after_text costs w s len flat m i x = step.after_text costs w s len m i x

pub after_newline : {C : Type 0} (costs : Costs C) (w : ℕ) (m : Measure C (List Dir)) (i x : ℕ) →
    (after_in costs w Newline false m i x ≡ break_behind costs w m i)
    × (after_in costs w Newline true m i x ≡ text_behind costs w m 1)
unfolding after_in simple
after_newline costs w m i x = (step.after_newline costs w m i x, step.after_text costs w (32 ∷ []) 1 m i x)

pub after_hard : {C : Type 0} (costs : Costs C) (w : ℕ) (m : Measure C (List Dir)) (i x : ℕ) →
    (after_in costs w Hard false m i x ≡ break_behind costs w m i) × (after_in costs w Hard true m i x ≡ [])
unfolding after_in simple
after_hard costs w m i x = (step.after_newline costs w m i x, refl)

-- one part
nest_some : {C : Type 0} (costs : Costs C) (w n : ℕ) (o : Option Doc) (m : Measure C (List Dir)) (i x : ℕ) →
    after_some costs w (option_map (Nest n) o) m i x ≡ after_some costs w o m (i + n) x
nest_some costs w n None m i x = refl
nest_some costs w n (Some a) m i x = step.after_nest costs w n a m i x

pub after_nest : {C : Type 0} (costs : Costs C) (w n : ℕ) (a : Doc) (flat : Bool) (m : Measure C (List Dir)) (i x : ℕ) →
    after_in costs w (Nest n a) flat m i x ≡ after_in costs w a flat m (i + n) x
unfolding after_in simple
after_nest costs w n a flat m i x = nest_some costs w n (simple a flat) m i x

align_some : {C : Type 0} (costs : Costs C) (w : ℕ) (o : Option Doc) (m : Measure C (List Dir)) (i x : ℕ) →
    after_some costs w (option_map Align o) m i x ≡ after_some costs w o m m.last x
align_some costs w None m i x = refl
align_some costs w (Some a) m i x = step.after_align costs w a m i x

pub after_align : {C : Type 0} (costs : Costs C) (w : ℕ) (a : Doc) (flat : Bool) (m : Measure C (List Dir)) (i x : ℕ) →
    after_in costs w (Align a) flat m i x ≡ after_in costs w a flat m m.last x
unfolding after_in simple
after_align costs w a flat m i x = align_some costs w (simple a flat) m i x

reset_some : {C : Type 0} (costs : Costs C) (w : ℕ) (o : Option Doc) (m : Measure C (List Dir)) (i x : ℕ) →
    after_some costs w (option_map Reset o) m i x ≡ after_some costs w o m 0 x
reset_some costs w None m i x = refl
reset_some costs w (Some a) m i x = step.after_reset costs w a m i x

pub after_reset : {C : Type 0} (costs : Costs C) (w : ℕ) (a : Doc) (flat : Bool) (m : Measure C (List Dir)) (i x : ℕ) →
    after_in costs w (Reset a) flat m i x ≡ after_in costs w a flat m 0 x
unfolding after_in simple
after_reset costs w a flat m i x = reset_some costs w (simple a flat) m i x

pub after_flatten : {C : Type 0} (costs : Costs C) (w : ℕ) (a : Doc) (flat : Bool) (m : Measure C (List Dir))
    (i x : ℕ) →
    after_in costs w (Flatten a) flat m i x ≡ after_in costs w a true m i x
unfolding after_in simple
after_flatten costs w a flat m i x = refl

only_some : {C : Type 0} (costs : Costs C) (w : ℕ) (dir : Dir) (o : Option Doc) (m : Measure C (List Dir)) (i x : ℕ) →
    after_some costs w (option_map (Only dir) o) m i x ≡ after_some costs w o (turned dir m) i x
only_some costs w dir None m i x = refl
only_some costs w dir (Some a) m i x = step.after_only costs w dir a m i x

pub after_only : {C : Type 0} (costs : Costs C) (w : ℕ) (dir : Dir) (a : Doc) (flat : Bool) (m : Measure C (List Dir))
    (i x : ℕ) →
    after_in costs w (Only dir a) flat m i x ≡ after_in costs w a flat (turned dir m) i x
unfolding after_in simple
after_only costs w dir a flat m i x = only_some costs w dir (simple a flat) m i x

charge_some : {C : Type 0} (costs : Costs C) (laws : Lawful costs) (w k n : ℕ) (o : Option Doc)
    (m : Measure C (List Dir)) (i x : ℕ) → IsColumn w → k ≤ 1000 → Fits o n →
    HasRoom costs (suc n) m.cost →
    after_some costs w (option_map (Charge k) o) m i x
    ≡ after_some costs w o (extended costs m m.last (costs.charge k)) i x
unfolding IsDocument most_pieces
charge_some costs laws w k n None m i x p q f h = refl
charge_some costs laws w k n (Some a) m i x p q f h =
    let fits = f a refl in
    let short : most_pieces a ≤ n = fits.1 in
    step.after_charge costs laws w k a m i x p (q, fits.0)
    (room_fewer costs (suc (most_pieces a)) (suc n) m.cost (omega arith) h)

pub after_charge : {C : Type 0} (costs : Costs C) (laws : Lawful costs) (w k : ℕ) (a : Doc) (flat : Bool)
    (m : Measure C (List Dir)) (i x : ℕ) → IsColumn w → IsDocument (Charge k a) →
    HasRoom costs (most_pieces (Charge k a)) m.cost →
    after_in costs w (Charge k a) flat m i x ≡ after_in costs w a flat (extended costs m m.last (costs.charge k)) i x
unfolding after_in simple IsDocument most_pieces
after_charge costs laws w k a flat m i x p d h =
    charge_some costs laws w k (most_pieces a) (simple a flat) m i x p d.0 (core_fits a flat d.1) h

-- a frontier that stands behind a measure, alone in a list that is pruned and cut
alone : {C : Type 0} (costs : Costs C) (laws : Lawful costs) (w n : ℕ) (s : Doc) (m : Measure C (List Dir)) (i x : ℕ) →
    IsColumn w → IsDocument s → most_pieces s ≤ n → HasRoom costs n m.cost →
    cut x (pareto costs (after costs w s m i x)) ≡ after costs w s m i x
alone costs laws w n s m i x p d short h =
    let room = room_fewer costs (most_pieces s) n m.cost short h in
    ap (cut x) (frontier_is_pareto costs laws (after costs w s m i x)
    (step.after_values costs laws w s m i x p d (room_value costs laws n m.cost h))
    (step.after_frontier costs laws w s m i x p d room))
    ∙ step.after_again costs w s m i x x (omega arith)

-- two sides, of which one or both may have no layout
choice_some : {C : Type 0} (costs : Costs C) (laws : Lawful costs) (w j k : ℕ) (o q : Option Doc)
    (m : Measure C (List Dir)) (i x : ℕ) → IsColumn w → Fits o j → Fits q k →
    HasRoom costs (max j k) m.cost → after_some costs w (simple_choice o q) m i x
    ≡ cut x (pareto costs (after_some costs w o (turned Left m) i x ++ after_some costs w q (turned Right m) i x))
unfolding cut IsDocument most_pieces
choice_some costs laws w j k None None m i x p f g h = ap (cut x) (sym (pareto_nothing costs))
choice_some costs laws w j k None (Some b) m i x p f g h =
    let fits = g b refl in
    let short : most_pieces b ≤ k = fits.1 in
    step.after_only costs w Right b m i x
    ∙ sym (alone costs laws w (max j k) b (turned Right m) i x p fits.0 (omega arith) h)
choice_some {C = C} costs laws w j k (Some a) None m i x p f g h =
    let fits = f a refl in
    let short : most_pieces a ≤ j = fits.1 in
    step.after_only costs w Left a m i x
    ∙ sym (alone costs laws w (max j k) a (turned Left m) i x p fits.0 (omega arith) h)
    ∙ ap (λ (z : List (Measure C (List Dir))). cut x (pareto costs z))
    (sym (append-nil (after costs w a (turned Left m) i x)))
choice_some costs laws w j k (Some a) (Some b) m i x p f g h =
    let first = f a refl in
    let second = g b refl in
    let one : most_pieces a ≤ j = first.1 in
    let two : most_pieces b ≤ k = second.1 in
    step.after_choice costs laws w a b m i x p (first.0, second.0)
    (room_fewer costs (max (most_pieces a) (most_pieces b)) (max j k) m.cost (omega arith) h)

pub after_choice : {C : Type 0} (costs : Costs C) (laws : Lawful costs) (w : ℕ) (a b : Doc) (flat : Bool)
    (m : Measure C (List Dir)) (i x : ℕ) → IsColumn w → IsDocument (Choice a b) →
    HasRoom costs (most_pieces (Choice a b)) m.cost →
    after_in costs w (Choice a b) flat m i x
    ≡ cut x (pareto costs (after_in costs w a flat (turned Left m) i x ++ after_in costs w b flat (turned Right m) i x))
unfolding after_in simple IsDocument most_pieces
after_choice costs laws w a b flat m i x p d h =
    choice_some costs laws w (most_pieces a) (most_pieces b) (simple a flat) (simple b flat) m i x p
    (core_fits a flat d.0) (core_fits b flat d.1) h

-- two parts, of which one or both may have no layout
nothing_each : {A B : Type 0} (f : A → List B) (xs : List A) → ((k : A) → f k ≡ []) → flat_map f xs ≡ []
nothing_each f [] e = refl
nothing_each {B = B} f (x ∷ xs) e = ap₂ (λ (y z : List B). y ++ z) (e x) (nothing_each f xs e)

concat_some : {C : Type 0} (costs : Costs C) (laws : Lawful costs) (w free j k : ℕ) (o q : Option Doc)
    (m : Measure C (List Dir)) (i x y : ℕ) → IsColumn w → Fits o j → Fits q k →
    HasRoom costs (j + k) m.cost → IsFree costs free → ((t : Doc) → q ≡ Some t → MayCut w free t x y) →
    after_some costs w (simple_concat o q) m i x
    ≡ cut x (pareto costs (flat_map (λ r. after_some costs w q r i x) (after_some costs w o m i y)))
unfolding cut IsDocument most_pieces
concat_some costs laws w free j k None q m i x y p f g h e may = ap (cut x) (sym (pareto_nothing costs))
concat_some {C = C} costs laws w free j k (Some a) None m i x y p f g h e may =
    sym (ap (λ (z : List (Measure C (List Dir))). cut x (pareto costs z))
    (nothing_each (λ (r : Measure C (List Dir)). after_some costs w None r i x) (after costs w a m i y) (λ r. refl))
    ∙ ap (cut x) (pareto_nothing costs))
concat_some costs laws w free j k (Some a) (Some b) m i x y p f g h e may =
    let first = f a refl in
    let second = g b refl in
    let one : most_pieces a ≤ j = first.1 in
    let two : most_pieces b ≤ k = second.1 in
    after_concat costs laws w free a b m i x y p (first.0, second.0)
    (room_fewer costs (most_pieces a + most_pieces b) (j + k) m.cost (omega arith) h) e (may b refl)

-- so where the second part's core may be cut, it may
pub after_parts : {C : Type 0} (costs : Costs C) (laws : Lawful costs) (w free : ℕ) (a b : Doc) (flat : Bool)
    (m : Measure C (List Dir)) (i x y : ℕ) → IsColumn w → IsDocument (Concat a b) →
    HasRoom costs (most_pieces (Concat a b)) m.cost → IsFree costs free →
    ((t : Doc) → simple b flat ≡ Some t → MayCut w free t x y) →
    after_in costs w (Concat a b) flat m i x
    ≡ cut x (pareto costs (flat_map (λ k. after_in costs w b flat k i x) (after_in costs w a flat m i y)))
unfolding after_in simple IsDocument most_pieces
after_parts costs laws w free a b flat m i x y p d h e may =
    concat_some costs laws w free (most_pieces a) (most_pieces b) (simple a flat) (simple b flat) m i x y p
    (core_fits a flat d.0) (core_fits b flat d.1) h e may

-- what stands behind a measure as a whole
abbrev IsShort : {C : Type 0} → Costs C → ℕ → List (Measure C (List Dir)) → Type 0
IsShort costs w list = IsFrontier costs list × EachIsValue costs list × EachEndsBy w list × (length list ≤ w + 1)

frontier_some : {C : Type 0} (costs : Costs C) (laws : Lawful costs) (w n : ℕ) (o : Option Doc)
    (m : Measure C (List Dir)) (i x : ℕ) → IsColumn w → Fits o n → HasRoom costs n m.cost →
    IsShort costs w (after_some costs w o m i x)
unfolding IsFrontier EachIsValue EachEndsBy
frontier_some costs laws w n None m i x p f h = (tt, tt, tt, omega arith)
frontier_some costs laws w n (Some s) m i x p f h =
    let fits = f s refl in
    let room = room_fewer costs (most_pieces s) n m.cost fits.1 h in (
      step.after_frontier costs laws w s m i x p fits.0 room,
      step.after_values costs laws w s m i x p fits.0 (room_value costs laws n m.cost h),
      step.after_ends costs w s m i x,
      step.after_short costs laws w s m i x p fits.0 room,
    )

pub after_frontier : {C : Type 0} (costs : Costs C) (laws : Lawful costs) (w : ℕ) (d : Doc) (flat : Bool)
    (m : Measure C (List Dir)) (i x : ℕ) → IsColumn w → IsDocument d →
    HasRoom costs (most_pieces d) m.cost → IsShort costs w (after_in costs w d flat m i x)
unfolding after_in
after_frontier costs laws w d flat m i x p q h =
    frontier_some costs laws w (most_pieces d) (simple d flat) m i x p (core_fits d flat q) h

room_some : {C : Type 0} (costs : Costs C) (laws : Lawful costs) (w i x j n : ℕ) (o : Option Doc)
    (m k : Measure C (List Dir)) → IsColumn w → Fits o j → HasRoom costs (j + n) m.cost →
    IsMember k (after_some costs w o m i x) → HasRoom costs n k.cost
unfolding IsMember
room_some costs laws w i x j n None m k p f h l = absurd l
room_some costs laws w i x j n (Some s) m k p f h l =
    let fits = f s refl in
    let short : most_pieces s ≤ j = fits.1 in
    step.after_room costs laws w s m i x n k p fits.0
    (room_fewer costs (most_pieces s + n) (j + n) m.cost (omega arith) h) l

pub after_room : {C : Type 0} (costs : Costs C) (laws : Lawful costs) (w : ℕ) (d : Doc) (flat : Bool)
    (m k : Measure C (List Dir)) (i x n : ℕ) → IsColumn w → IsDocument d →
    HasRoom costs (most_pieces d + n) m.cost → IsMember k (after_in costs w d flat m i x) → HasRoom costs n k.cost
unfolding after_in
after_room costs laws w d flat m k i x n p q h l =
    room_some costs laws w i x (most_pieces d) n (simple d flat) m k p (core_fits d flat q) h l

again_some : {C : Type 0} (costs : Costs C) (w : ℕ) (o : Option Doc) (m : Measure C (List Dir)) (i x y : ℕ) → y ≤ x →
    cut x (after_some costs w o m i y) ≡ after_some costs w o m i x
unfolding cut
again_some costs w None m i x y p = refl
again_some costs w (Some s) m i x y p = step.after_again costs w s m i x y p

pub after_again : {C : Type 0} (costs : Costs C) (w : ℕ) (d : Doc) (flat : Bool) (m : Measure C (List Dir))
    (i x y : ℕ) → y ≤ x →
    cut x (after_in costs w d flat m i y) ≡ after_in costs w d flat m i x
unfolding after_in
after_again costs w d flat m i x y p = again_some costs w (simple d flat) m i x y p

row_some : {C : Type 0} (costs : Costs C) (laws : Lawful costs) (w n : ℕ) (o : Option Doc) (m : Measure C (List Dir))
    (i x y : ℕ) → IsColumn w → IsColumn m.last → Fits o n → y ≤ x →
    after_some costs w o m i x
    ≡ all_shifted costs m (cut x (after_some costs w o (leaf_measure m.last (costs.text m.last 0)) i y))
unfolding cut
row_some costs laws w n None m i x y p q f less = refl
row_some {C = C} costs laws w n (Some s) m i x y p q f less =
    step.after_row costs w s m i x y less
    ∙ ap (λ (z : List (Measure C (List Dir))). all_shifted costs m (cut x z))
    (sym (step.nothing_before costs laws w s m.last i y p q (f s refl).0))

pub after_row : {C : Type 0} (costs : Costs C) (laws : Lawful costs) (w : ℕ) (d : Doc) (flat : Bool)
    (m : Measure C (List Dir)) (i x y : ℕ) → IsColumn w → IsColumn m.last → IsDocument d → y ≤ x →
    after_in costs w d flat m i x
    ≡ all_shifted costs m (cut x (after_in costs w d flat (leaf_measure m.last (costs.text m.last 0)) i y))
unfolding after_in
after_row costs laws w d flat m i x y p q document less =
    row_some costs laws w (most_pieces d) (simple d flat) m i x y p q (core_fits d flat document) less
