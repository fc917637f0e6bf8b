-- Where the measures before a document, flat or not, can be cut: where those before its core can.
use Rattle.std.proofs.Common.{◌≡◌, ℕ, ◌+◌, ◌≤◌, Bool, true, false, not, cond, List, [], ◌∷◌, refl, sym, ◌∙◌, ap, ap₂, subst, inl, inr, Option, Some, None, arith}
use Rattle.std.specs.Prelude.{nat_eq}
use Rattle.std.specs.Option.{option_map}
use Rattle.std.proofs.lemmas.Bool.Decides.{nat_tests}
use Rattle.std.proofs.lemmas.Bool.{and_parts, and_from}
use Rattle.rf_base_document.specs.declared.directions.Dir.{Dir}
use Rattle.rf_base_document.specs.Document.{Doc, Text, Newline, Hard, Concat, Nest, Align, Reset, Flatten, Choice, Only, Charge, IsDocument}
use Rattle.rf_base_document.specs.Simple.{simple_newline, simple_hard, simple_concat, simple_choice, simple}
use Rattle.rf_base_cost.specs.declared.measures.Measure.{Measure}
use Rattle.rf_base_cost.specs.Cost.{Costs, IsColumn, Lawful}
use Rattle.rf_base_optimum.specs.MostPieces.{most_pieces}
use Rattle.rf_base_cut.specs.Cut.{HasRoom}
use Rattle.rf_base_cut.specs.OneLine.{first_choices, both_lengths, same_length, flat_length}
use Rattle.rf_base_cut.specs.Indifferent.{begins_with_break, IsFree, MayCut}
use Rattle.rf_base_cut.specs.Documents.{IsCutIn, begins_in, newline_length, flat_length_in, MayCutIn, indifferent_in}
use Rattle.rf_base_cut.specs.DocumentLines.{Line, line, line_of_both, line_behind, line_of_either, newline_line, one_line, IsLong, IsFlattenable}
use Rattle.rf_base_cut.proofs.FlatTexts.{both_are, same_are}
use Rattle.rf_base_cut.proofs.Indifferent.{may_cut_at}
use Rattle.rf_base_cut.proofs.DocumentSteps.{after_parts}
use Rattle.rf_base_document.proofs.Simple.{map_is, concat_is, choice_core}

-- a document that begins with a break has a core that does, where it has one
newline_begins : (flat : Bool) (s : Doc) → not flat ≡ true → simple_newline flat ≡ s → begins_with_break s ≡ true
unfolding begins_with_break
newline_begins true s b e = cc
newline_begins false s b e = subst (λ (x : Doc). begins_with_break x ≡ true) e refl

hard_begins : (flat : Bool) (s : Doc) → simple_hard flat ≡ Some s → begins_with_break s ≡ true
unfolding begins_with_break
hard_begins true s e = cc
hard_begins false s e = let same : Newline ≡ s = cc in subst (λ (x : Doc). begins_with_break x ≡ true) same refl

pub core_begins : (d : Doc) (flat : Bool) (s : Doc) → begins_in d flat ≡ true → simple d flat ≡ Some s →
    begins_with_break s ≡ true
unfolding simple begins_in begins_with_break
core_begins Newline flat s b e = newline_begins flat s b (let same : simple_newline flat ≡ s = cc in same)
core_begins Hard flat s b e = hard_begins flat s e
core_begins (Concat a c) flat s b e =
    let parts = concat_is (simple a flat) (simple c flat) s e in
    subst (λ (x : Doc). begins_with_break x ≡ true) (sym parts.4) (core_begins a flat parts.0 b parts.2)
core_begins (Nest n a) flat s b e =
    let part = map_is (Nest n) (simple a flat) s e in
    subst (λ (x : Doc). begins_with_break x ≡ true) (sym part.2) (core_begins a flat part.0 b part.1)
core_begins (Reset a) flat s b e =
    let part = map_is Reset (simple a flat) s e in
    subst (λ (x : Doc). begins_with_break x ≡ true) (sym part.2) (core_begins a flat part.0 b part.1)
core_begins (Flatten a) flat s b e = core_begins a true s b e
core_begins (Choice a c) flat s b e =
    let sides = and_parts (begins_in a flat) (begins_in c flat) b in
    choice_core (λ x. begins_with_break x ≡ true) (λ dir x k. k)
    (λ x y. and_from (begins_with_break x) (begins_with_break y)) (simple a flat) (simple c flat) s
    (λ x k. core_begins a flat x sides.0 k) (λ x k. core_begins c flat x sides.1 k) e
core_begins (Only dir a) flat s b e =
    let part = map_is (Only dir) (simple a flat) s e in
    subst (λ (x : Doc). begins_with_break x ≡ true) (sym part.2) (core_begins a flat part.0 b part.1)
core_begins (Charge k a) flat s b e =
    let part = map_is (Charge k) (simple a flat) s e in
    subst (λ (x : Doc). begins_with_break x ≡ true) (sym part.2) (core_begins a flat part.0 b part.1)
core_begins _ flat s b e = cc

-- a document of one length has a core of this length, and its line is by the core's first choices
abbrev pub HasFlatCore : Option Doc → Option Line → ℕ → Type 0
HasFlatCore o lined len =
    (s : Doc) × (o ≡ Some s) × (flat_length s ≡ Some len) × (lined ≡ Some (line len (first_choices s)))

newline_flat : (flat : Bool) (len : ℕ) → newline_length flat ≡ Some len →
    HasFlatCore (Some (simple_newline flat)) (newline_line flat) len
unfolding flat_length first_choices
newline_flat true len e =
    let same : 1 ≡ len = cc in (Text (32 ∷ []) 1, refl, e, ap (λ (n : ℕ). Some (line n [])) same)
newline_flat false len e = cc

concat_flat : (o p : Option Doc) (l r : Option Line) (i j : ℕ) → HasFlatCore o l i → HasFlatCore p r j →
    HasFlatCore (simple_concat o p) (line_of_both l r) (i + j)
unfolding flat_length first_choices
concat_flat o p l r i j f g = (
  Concat f.0 g.0,
  ap₂ simple_concat f.1 g.1,
  ap₂ (λ (a b : Option ℕ). both_lengths a b) f.2 g.2,
  ap₂ (λ (a b : Option Line). line_of_both a b) f.3 g.3,
)

same_again : (len : ℕ) → same_length (Some len) (Some len) ≡ Some len
same_again len =
    let same : nat_eq len len ≡ true = grind (arith, nat_tests) in ap (λ (b : Bool). cond b (Some len) None) same

choice_flat : (o p : Option Doc) (l r : Option Line) (len : ℕ) → HasFlatCore o l len → HasFlatCore p r len →
    HasFlatCore (simple_choice o p) (line_of_either l r) len
unfolding flat_length first_choices
choice_flat o p l r len f g = (
  Choice f.0 g.0,
  ap₂ simple_choice f.1 g.1,
  ap₂ (λ (a b : Option ℕ). same_length a b) f.2 g.2 ∙ same_again len,
  ap (λ (a : Option Line). line_of_either a r) f.3,
)

map_flat : (f : Doc → Doc) (o : Option Doc) (l : Option Line) (len : ℕ) →
    ((a : Doc) → flat_length (f a) ≡ flat_length a) → ((a : Doc) → first_choices (f a) ≡ first_choices a) →
    HasFlatCore o l len → HasFlatCore (option_map f o) l len
map_flat f o l len same alike h = (
  f h.0,
  ap (option_map f) h.1,
  same h.0 ∙ h.2,
  h.3 ∙ ap (λ (z : List Dir). Some (line len z)) (sym (alike h.0)),
)

only_flat : (dir : Dir) (o : Option Doc) (l : Option Line) (len : ℕ) → HasFlatCore o l len →
    HasFlatCore (option_map (Only dir) o) (option_map (line_behind dir) l) len
unfolding flat_length first_choices
only_flat dir o l len h = (Only dir h.0, ap (option_map (Only dir)) h.1, h.2, ap (option_map (line_behind dir)) h.3)

pub core_flat : (d : Doc) (flat : Bool) (len : ℕ) → flat_length_in d flat ≡ Some len →
    HasFlatCore (simple d flat) (one_line d flat) len
unfolding simple flat_length_in flat_length one_line first_choices
core_flat (Text t columns) flat len e =
    let same : columns ≡ len = cc in (Text t columns, refl, e, ap (λ (n : ℕ). Some (line n [])) same)
core_flat Newline flat len e = newline_flat flat len e
core_flat (Concat a b) flat len e =
    let parts = both_are (flat_length_in a flat) (flat_length_in b flat) len e in
    subst (λ (n : ℕ). HasFlatCore (simple_concat (simple a flat) (simple b flat))
    (line_of_both (one_line a flat) (one_line b flat)) n) parts.4
    (concat_flat (simple a flat) (simple b flat) (one_line a flat) (one_line b flat) parts.0 parts.1
    (core_flat a flat parts.0 parts.2) (core_flat b flat parts.1 parts.3))
core_flat (Nest n a) flat len e =
    map_flat (Nest n) (simple a flat) (one_line a flat) len (λ x. refl) (λ x. refl) (core_flat a flat len e)
core_flat (Align a) flat len e =
    map_flat Align (simple a flat) (one_line a flat) len (λ x. refl) (λ x. refl) (core_flat a flat len e)
core_flat (Reset a) flat len e =
    map_flat Reset (simple a flat) (one_line a flat) len (λ x. refl) (λ x. refl) (core_flat a flat len e)
core_flat (Flatten a) flat len e = core_flat a true len e
core_flat (Choice a b) flat len e =
    let sides = same_are (flat_length_in a flat) (flat_length_in b flat) len e in
    choice_flat (simple a flat) (simple b flat) (one_line a flat) (one_line b flat) len (core_flat a flat len sides.0)
    (core_flat b flat len sides.1)
core_flat (Only dir a) flat len e = only_flat dir (simple a flat) (one_line a flat) len (core_flat a flat len e)
core_flat _ flat len e = cc

-- what has no hard newline and no charge has, flat, the length that its layouts have
pub flat_where_long : (d : Doc) (len : ℕ) → IsFlattenable d → IsLong d true len → flat_length_in d true ≡ Some len
unfolding IsFlattenable IsLong flat_length_in
flat_where_long (Text t columns) len f h = ap (λ (n : ℕ). Some n) (sym h)
flat_where_long Newline len f h = ap (λ (n : ℕ). Some n) (sym h)
flat_where_long Hard len f h = absurd f
flat_where_long (Concat a b) len f h =
    ap₂ both_lengths (flat_where_long a h.0 f.0 h.3) (flat_where_long b h.1 f.1 h.4) ∙ ap (λ (n : ℕ). Some n) (sym h.2)
flat_where_long (Nest n a) len f h = flat_where_long a len f h
flat_where_long (Align a) len f h = flat_where_long a len f h
flat_where_long (Reset a) len f h = flat_where_long a len f h
flat_where_long (Flatten a) len f h = flat_where_long a len f h
flat_where_long (Choice a b) len f h =
    ap₂ same_length (flat_where_long a len f.0 h.0) (flat_where_long b len f.1 h.1) ∙ same_again len
flat_where_long (Only dir a) len f h = flat_where_long a len f h
flat_where_long (Charge k a) len f h = absurd f

-- a document has one core
pub one_core : (a b : Doc) → Some a ≡ Some b → a ≡ b
one_core a b e = cc

-- so where the measures before a document may be cut, those before its core may
core_may_cut : (w free : ℕ) (d : Doc) (flat : Bool) (x y : ℕ) (s : Doc) → MayCutIn w free d flat x y →
    simple d flat ≡ Some s → MayCut w free s x y
core_may_cut w free d flat x y s (inl nowhere) e = inl nowhere
core_may_cut w free d flat x y s (inr (inl begins)) e = inr (inl (core_begins d flat s begins e))
core_may_cut w free d flat x y s (inr (inr by)) e =
    let core = core_flat d flat by.0 by.1 in
    let same = one_core core.0 s (sym core.1 ∙ e) in
    inr (inr (by.0, ap flat_length (sym same) ∙ core.2, by.2, by.3, by.4))

pub after_concat : {C : Type 0} (costs : Costs C) (laws : Lawful costs) (w free : ℕ) (a b : Doc) (flat : Bool)
    (m : Measure C (List Dir)) (i x y : ℕ) → IsColumn w → IsDocument (Concat a b) →
    HasRoom costs (most_pieces (Concat a b)) m.cost → IsFree costs free → MayCutIn w free b flat x y →
    IsCutIn costs w (Concat a b) a b flat m i x y
after_concat costs laws w free a b flat m i x y p d h f may =
    after_parts costs laws w free a b flat m i x y p d h f (λ t e. core_may_cut w free b flat x y t may e)

pub indifferent_in_may_cut : (w free x : ℕ) (d : Doc) (flat : Bool) → free ≤ w →
    MayCutIn w free d flat x (indifferent_in w free d flat x)
indifferent_in_may_cut w free x d flat p =
    may_cut_at w free x (begins_in d flat) (flat_length_in d flat) p
