-- Documents on one line, flat or not, and their cores.
use Rattle.std.proofs.Common.{◌≡◌, ℕ, ◌+◌, ◌≤◌, Bool, true, false, ◌||◌, List, [], ◌∷◌, ◌++◌, append_assoc, append-nil, refl, sym, ◌∙◌, ap, ap₂, subst, ◌⊎◌, inl, inr, Option, Some, None, arith}
use Rattle.std.specs.Prelude.{nat_le}
use Rattle.std.specs.Option.{option_map}
use Rattle.std.proofs.lemmas.Bool.{and_from, or_left, or_right}
use Rattle.rf_base_document.specs.declared.directions.Dir.{Dir}
use Rattle.rf_base_document.specs.declared.directions.Dir.TheVariants.{Left, Right}
use Rattle.rf_base_document.specs.Document.{Doc, Text, Newline, Hard, Concat, Nest, Align, Reset, Flatten, Choice, Only, Charge, IsDocument}
use Rattle.rf_base_document.specs.Sequence.{seq}
use Rattle.rf_base_document.specs.Simple.{simple_newline, simple_hard, simple_concat, simple_choice, simple}
use Rattle.rf_base_cost.specs.declared.measures.Measure.{Measure}
use Rattle.rf_base_cost.specs.Cost.{Costs, IsValue, IsColumn, Lawful}
use Rattle.rf_base_optimum.specs.Plain.{where_within}
use Rattle.rf_base_optimum.proofs.CoreChoices.{core_document}
use Rattle.rf_base_cut.specs.OneLine.{measured, first_choices, is_never_free, OneLine, NothingIsLeast}
use Rattle.rf_base_cut.specs.Indifferent.{IsFree}
use Rattle.rf_base_cut.specs.Documents.{after_in, flat_length_in}
use Rattle.rf_base_cut.specs.DocumentLines.{Line, line, line_of_both, line_behind, line_of_either, newline_line, one_line, line_of_all, NewlineIsLong, IsLong, AreLong}
use Rattle.rf_base_cut.proofs.DocumentCuts.{core_flat, one_core}
use Rattle.rf_base_cut.proofs.FlatTexts as text
use Rattle.rf_base_cut.proofs.Halves.{seq_by_parts}
use Rattle.rf_base_cut.proofs.Lines as lines
use Rattle.rf_base_cut.proofs.Roots.{after_core}
use Rattle.rf_base_document.proofs.Simple.{map_is, concat_is, choice_core}
use Rattle.rf_base_cost.proofs.Dominance.{true_le}

-- what lines are made of
both_none : (a b : Option Line) → line_of_both a b ≡ None → (a ≡ None) ⊎ (b ≡ None)
both_none None b e = inl refl
both_none (Some a) None e = inr refl
both_none (Some a) (Some b) e = cc

abbrev pub AreBoth : Option Line → Option Line → Line → Type 0
AreBoth a b l = (x : Line) × (y : Line) × (a ≡ Some x) × (b ≡ Some y) × (l ≡ line (x.len + y.len) (x.how ++ y.how))

pub both_some : (a b : Option Line) (l : Line) → line_of_both a b ≡ Some l → AreBoth a b l
both_some (Some x) (Some y) l e = (x, y, refl, refl, cc)
both_some _ _ l e = cc

either_none : (a b : Option Line) → line_of_either a b ≡ None → (a ≡ None) × (b ≡ None)
either_none None None e = (refl, refl)
either_none _ _ e = cc

abbrev pub IsEither : Option Line → Option Line → Line → Type 0
IsEither a b l =
    ((x : Line) × (a ≡ Some x) × (l ≡ line_behind Left x))
    ⊎ ((a ≡ None) × ((y : Line) × (b ≡ Some y) × (l ≡ line_behind Right y)))

pub either_some : (a b : Option Line) (l : Line) → line_of_either a b ≡ Some l → IsEither a b l
either_some None None l e = cc
either_some None (Some y) l e = inr (refl, (y, refl, cc))
either_some (Some x) b l e = inl (x, refl, cc)

behind_none : (dir : Dir) (a : Option Line) → option_map (line_behind dir) a ≡ None → a ≡ None
behind_none dir None e = refl
behind_none dir (Some x) e = cc

pub behind_some : (dir : Dir) (a : Option Line) (l : Line) → option_map (line_behind dir) a ≡ Some l →
    (x : Line) × (a ≡ Some x) × (l ≡ line_behind dir x)
behind_some dir None l e = cc
behind_some dir (Some x) l e = (x, refl, cc)

-- where a document has no line, its core has none
newline_never : (flat : Bool) → newline_line flat ≡ None → is_never_free (simple_newline flat) ≡ true
unfolding is_never_free
newline_never true e = cc
newline_never false e = refl

pub hard_never : (flat : Bool) (s : Doc) → simple_hard flat ≡ Some s → is_never_free s ≡ true
unfolding is_never_free
hard_never true s e = cc
hard_never false s e = let same : Newline ≡ s = cc in subst (λ (x : Doc). is_never_free x ≡ true) same refl

pub choice_never : (o p : Option Doc) (s : Doc) → ((a : Doc) → o ≡ Some a → is_never_free a ≡ true) →
    ((b : Doc) → p ≡ Some b → is_never_free b ≡ true) →
    simple_choice o p ≡ Some s → is_never_free s ≡ true
unfolding is_never_free
choice_never =
    choice_core (λ x. is_never_free x ≡ true) (λ dir x k. k) (λ x y. and_from (is_never_free x) (is_never_free y))

pub no_line_never_free : (d s : Doc) (flat : Bool) (len : ℕ) → IsLong d flat len → one_line d flat ≡ None →
    simple d flat ≡ Some s → is_never_free s ≡ true
unfolding simple one_line IsLong is_never_free
no_line_never_free (Text t columns) s flat len h e f = cc
no_line_never_free Newline s flat len h e f =
    let same : simple_newline flat ≡ s = cc in subst (λ (x : Doc). is_never_free x ≡ true) same (newline_never flat e)
no_line_never_free Hard s flat len h e f = hard_never flat s f
no_line_never_free (Concat a b) s flat len h e f =
    let parts = concat_is (simple a flat) (simple b flat) s f in
    subst (λ (x : Doc). is_never_free x ≡ true) (sym parts.4)
    (elim (both_none (one_line a flat) (one_line b flat) e) [
      | inl none ↦
          or_left (is_never_free parts.0) (is_never_free parts.1)
          (no_line_never_free a parts.0 flat h.0 h.3 none parts.2)
      | inr none ↦
          or_right (is_never_free parts.0) (is_never_free parts.1)
          (no_line_never_free b parts.1 flat h.1 h.4 none parts.3)
    ])
no_line_never_free (Nest n a) s flat len h e f =
    let part = map_is (Nest n) (simple a flat) s f in
    subst (λ (x : Doc). is_never_free x ≡ true) (sym part.2) (no_line_never_free a part.0 flat len h e part.1)
no_line_never_free (Align a) s flat len h e f =
    let part = map_is Align (simple a flat) s f in
    subst (λ (x : Doc). is_never_free x ≡ true) (sym part.2) (no_line_never_free a part.0 flat len h e part.1)
no_line_never_free (Reset a) s flat len h e f =
    let part = map_is Reset (simple a flat) s f in
    subst (λ (x : Doc). is_never_free x ≡ true) (sym part.2) (no_line_never_free a part.0 flat len h e part.1)
no_line_never_free (Flatten a) s flat len h e f = no_line_never_free a s true len h e f
no_line_never_free (Choice a b) s flat len h e f =
    let none = either_none (one_line a flat) (one_line b flat) e in
    choice_never (simple a flat) (simple b flat) s (λ x k. no_line_never_free a x flat len h.0 none.0 k)
    (λ x k. no_line_never_free b x flat len h.1 none.1 k) f
no_line_never_free (Only dir a) s flat len h e f =
    let part = map_is (Only dir) (simple a flat) s f in
    subst (λ (x : Doc). is_never_free x ≡ true) (sym part.2)
    (no_line_never_free a part.0 flat len h (behind_none dir (one_line a flat) e) part.1)
no_line_never_free (Charge k a) s flat len h e f =
    let part = map_is (Charge k) (simple a flat) s f in
    subst (λ (x : Doc). is_never_free x ≡ true) (sym part.2)
    (or_left (nat_le 1 k) (is_never_free part.0) (true_le 1 k h))

-- where it has one, its core has it
abbrev pub HasLine : Option Doc → ℕ → Line → Type 0
HasLine o len l = (l.len ≡ len) × ((s : Doc) × (o ≡ Some s) × OneLine s l.len l.how)

same_line : (o : Option Doc) (len : ℕ) (l k : Line) → l ≡ k → HasLine o len l → HasLine o len k
same_line o len l k e h = subst (λ (z : Line). HasLine o len z) e h

newline_has : (flat : Bool) (len : ℕ) (l : Line) → NewlineIsLong flat len → newline_line flat ≡ Some l →
    HasLine (Some (simple_newline flat)) len l
unfolding OneLine
newline_has true len l h e =
    let same : line 1 [] ≡ l = cc in
    same_line (Some (Text (32 ∷ []) 1)) len (line 1 []) l same (sym h, (Text (32 ∷ []) 1, refl, (refl, refl)))
newline_has false len l h e = cc

pub concat_has : (o p : Option Doc) (i j : ℕ) (x y : Line) → HasLine o i x → HasLine p j y →
    HasLine (simple_concat o p) (i + j) (line (x.len + y.len) (x.how ++ y.how))
unfolding OneLine
concat_has o p i j x y f g = (
  ap₂ (λ (a b : ℕ). a + b) f.0 g.0,
  (
    Concat f.1.0 g.1.0,
    ap₂ simple_concat f.1.1 g.1.1,
    (x.len, y.len, x.how, y.how, refl, refl, f.1.2, g.1.2),
  ),
)

pub map_has : (f : Doc → Doc) (o : Option Doc) (len : ℕ) (l : Line) →
    ((s : Doc) → OneLine s l.len l.how → OneLine (f s) l.len l.how) → HasLine o len l → HasLine (option_map f o) len l
map_has f o len l keep h = (h.0, (f h.1.0, ap (option_map f) h.1.1, keep h.1.0 h.1.2))

pub only_has : (dir : Dir) (o : Option Doc) (len : ℕ) (x : Line) → HasLine o len x →
    HasLine (option_map (Only dir) o) len (line_behind dir x)
unfolding OneLine
only_has dir o len x h = (h.0, (Only dir h.1.0, ap (option_map (Only dir)) h.1.1, (x.how, refl, h.1.2)))

-- the core of another side has a break or a charge in each resolution, or is as long
abbrev pub OtherSide : Option Doc → ℕ → Type 0
OtherSide o len = (s : Doc) → o ≡ Some s → (is_never_free s ≡ true) ⊎ ((how : List Dir) × OneLine s len how)

other_side : (o : Option Doc) (len : ℕ) (lined : Option Line) →
    ((s : Doc) → lined ≡ None → o ≡ Some s → is_never_free s ≡ true) → ((l : Line) → lined ≡ Some l → HasLine o len l) →
    OtherSide o len
other_side o len None f g s e = inl (f s refl e)
other_side o len (Some l) f g s e =
    let has = g l refl in
    let same : has.1.0 ≡ s = one_core has.1.0 s (sym has.1.1 ∙ e) in
    inr (
      l.how,
      subst (λ (z : Doc). OneLine z len l.how) same (subst (λ (n : ℕ). OneLine has.1.0 n l.how) has.0 has.1.2),
    )

pub left_has : (o p : Option Doc) (len : ℕ) (x : Line) → HasLine o len x → OtherSide p len →
    HasLine (simple_choice o p) len (line_behind Left x)
unfolding OneLine
left_has o None len x h other = (
  h.0,
  (Only Left h.1.0, ap (λ (z : Option Doc). simple_choice z None) h.1.1, (x.how, refl, h.1.2)),
)
left_has o (Some b) len x h other =
    let side : (is_never_free b ≡ true) ⊎ ((how : List Dir) × OneLine b x.len how) =
    subst (λ (n : ℕ). (is_never_free b ≡ true) ⊎ ((how : List Dir) × OneLine b n how)) (sym h.0) (other b refl) in (
      h.0,
      (
        Choice h.1.0 b,
        ap (λ (z : Option Doc). simple_choice z (Some b)) h.1.1,
        (x.how, inl (refl, h.1.2, side)),
      ),
    )

pub right_has : (o p : Option Doc) (len : ℕ) (y : Line) → HasLine p len y →
    ((s : Doc) → o ≡ Some s → is_never_free s ≡ true) → HasLine (simple_choice o p) len (line_behind Right y)
unfolding OneLine
right_has None p len y h never = (
  h.0,
  (Only Right h.1.0, ap (λ (z : Option Doc). simple_choice None z) h.1.1, (y.how, refl, h.1.2)),
)
right_has (Some a) p len y h never = (
  h.0,
  (
    Choice a h.1.0,
    ap (λ (z : Option Doc). simple_choice (Some a) z) h.1.1,
    (y.how, inr (refl, never a refl, h.1.2)),
  ),
)

pub line_of_core : (d : Doc) (flat : Bool) (len : ℕ) (l : Line) → IsLong d flat len → one_line d flat ≡ Some l →
    HasLine (simple d flat) len l
unfolding simple one_line IsLong OneLine
line_of_core (Text t columns) flat len l h e =
    let same : line columns [] ≡ l = cc in
    same_line (Some (Text t columns)) len (line columns []) l same (sym h, (Text t columns, refl, (refl, refl)))
line_of_core Newline flat len l h e = newline_has flat len l h e
line_of_core (Concat a b) flat len l h e =
    let parts = both_some (one_line a flat) (one_line b flat) l e in
    let both : Option Doc = simple_concat (simple a flat) (simple b flat) in
    same_line both len (line (parts.0.len + parts.1.len) (parts.0.how ++ parts.1.how)) l (sym parts.4)
    (subst (λ (n : ℕ). HasLine both n (line (parts.0.len + parts.1.len) (parts.0.how ++ parts.1.how))) (sym h.2)
    (concat_has (simple a flat) (simple b flat) h.0 h.1 parts.0 parts.1 (line_of_core a flat h.0 parts.0 h.3 parts.2)
    (line_of_core b flat h.1 parts.1 h.4 parts.3)))
line_of_core (Nest n a) flat len l h e =
    map_has (Nest n) (simple a flat) len l (λ s k. k) (line_of_core a flat len l h e)
line_of_core (Align a) flat len l h e = map_has Align (simple a flat) len l (λ s k. k) (line_of_core a flat len l h e)
line_of_core (Reset a) flat len l h e = map_has Reset (simple a flat) len l (λ s k. k) (line_of_core a flat len l h e)
line_of_core (Flatten a) flat len l h e = line_of_core a true len l h e
line_of_core (Choice a b) flat len l h e =
    let core : Option Doc = simple_choice (simple a flat) (simple b flat) in
    elim (either_some (one_line a flat) (one_line b flat) l e) [
      | inl first ↦
          same_line core len (line_behind Left first.0) l (sym first.2)
          (left_has (simple a flat) (simple b flat) len first.0 (line_of_core a flat len first.0 h.0 first.1)
          (other_side (simple b flat) len (one_line b flat) (λ s k j. no_line_never_free b s flat len h.1 k j)
          (λ y k. line_of_core b flat len y h.1 k)))
      | inr second ↦
          same_line core len (line_behind Right second.1.0) l (sym second.1.2)
          (right_has (simple a flat) (simple b flat) len second.1.0 (line_of_core b flat len second.1.0 h.1 second.1.1)
          (λ s k. no_line_never_free a s flat len h.0 second.0 k))
    ]
line_of_core (Only dir a) flat len l h e =
    let part = behind_some dir (one_line a flat) l e in
    same_line (option_map (Only dir) (simple a flat)) len (line_behind dir part.0) l (sym part.2)
    (only_has dir (simple a flat) len part.0 (line_of_core a flat len part.0 h part.1))
line_of_core _ flat len l h e = cc

-- so where it costs nothing it is all that stands behind a measure
pub after_line : {C : Type 0} (costs : Costs C) (laws : Lawful costs) (least : NothingIsLeast costs) (w free : ℕ)
    (d : Doc) (flat : Bool) (m : Measure C (List Dir)) (i x len : ℕ) (l : Line) →
    IsColumn w → IsDocument d → IsFree costs free → IsValue costs m.cost → IsLong d flat len →
    one_line d flat ≡ Some l → m.last + l.len ≤ x → m.last + l.len ≤ free → m.last + l.len ≤ w →
    after_in costs w d flat m i x ≡ measured (m.last + l.len) m.cost (m.how ++ l.how) ∷ []
after_line costs laws least w free d flat m i x len l p q f v h e ex ef ew =
    let has = line_of_core d flat len l h e in
    after_core costs w d has.1.0 flat m i x has.1.1
    ∙ lines.after_one_line costs laws least w free has.1.0 m i x l.len l.how p
    (core_document d flat has.1.0 q has.1.1) f v has.1.2 ex ef ew

-- and where all its layouts are one text, that is
pub after_flat : {C : Type 0} (costs : Costs C) (laws : Lawful costs) (w : ℕ) (d : Doc) (flat : Bool)
    (m : Measure C (List Dir)) (i x len : ℕ) → IsColumn w → flat_length_in d flat ≡ Some len →
    (how : List Dir) × (one_line d flat ≡ Some (line len how))
    × (after_in costs w d flat m i x
    ≡ where_within (nat_le (m.last + len) w)
    (measured (m.last + len) (costs.add m.cost (costs.text m.last len)) (m.how ++ how)))
after_flat costs laws w d flat m i x len p e =
    let core = core_flat d flat len e in (
      first_choices core.0,
      core.3,
      after_core costs w d core.0 flat m i x core.1 ∙ text.after_flat costs laws w core.0 m i x len p core.2,
    )

-- lines of parts in a row
line_and_none : (o : Option Line) → o ≡ line_of_both o (Some (line 0 []))
line_and_none None = refl
line_and_none (Some a) = ap₂ (λ (n : ℕ) (h : List Dir). Some (line n h)) (omega arith) (sym (append-nil a.how))

none_and_line : (o : Option Line) → o ≡ line_of_both (Some (line 0 [])) o
none_and_line None = refl
none_and_line (Some a) = ap (λ (n : ℕ). Some (line n a.how)) (omega arith)

lines_assoc : (o p q : Option Line) → line_of_both o (line_of_both p q) ≡ line_of_both (line_of_both o p) q
lines_assoc (Some a) (Some b) (Some c) =
    ap₂ (λ (n : ℕ) (h : List Dir). Some (line n h)) (omega arith) (sym (append_assoc a.how b.how c.how))
lines_assoc _ _ _ = refl

lines_append : (ds es : List Doc) (flat : Bool) →
    line_of_all (ds ++ es) flat ≡ line_of_both (line_of_all ds flat) (line_of_all es flat)
unfolding line_of_all
lines_append [] es flat = none_and_line (line_of_all es flat)
lines_append (d ∷ ds) es flat =
    ap (line_of_both (one_line d flat)) (lines_append ds es flat)
    ∙ lines_assoc (one_line d flat) (line_of_all ds flat) (line_of_all es flat)

sequence_line : (parts : List Doc) (flat : Bool) → one_line (seq parts) flat ≡ line_of_all parts flat
unfolding one_line line_of_all
sequence_line parts flat =
    seq_by_parts (λ ds d. one_line d flat ≡ line_of_all ds flat) refl (λ d. line_and_none (one_line d flat))
    (λ d e ds es a b p q. ap₂ line_of_both p q ∙ sym (lines_append (d ∷ ds) (e ∷ es) flat)) parts

pub line_of_sequence : (parts more : List Doc) (flat : Bool) →
    (one_line (seq parts) flat ≡ line_of_all parts flat)
    × (line_of_all (parts ++ more) flat ≡ line_of_both (line_of_all parts flat) (line_of_all more flat))
line_of_sequence parts more flat = (sequence_line parts flat, lines_append parts more flat)

-- parts that share the columns out
long_apart : (ds es : List Doc) (flat : Bool) (len : ℕ) → AreLong (ds ++ es) flat len →
    (i : ℕ) × (j : ℕ) × (len ≡ i + j) × AreLong ds flat i × AreLong es flat j
unfolding AreLong
long_apart [] es flat len h = (0, len, omega arith, refl, h)
long_apart (d ∷ ds) es flat len h =
    let rest = long_apart ds es flat h.1 h.4 in
    let all : len ≡ h.0 + h.1 = h.2 in
    let behind : h.1 ≡ rest.0 + rest.1 = rest.2 in
    (h.0 + rest.0, rest.1, omega arith, (h.0, rest.0, refl, h.3, rest.3), rest.4)

pub long_sequence : (parts : List Doc) (flat : Bool) (len : ℕ) → AreLong parts flat len → IsLong (seq parts) flat len
unfolding IsLong AreLong
long_sequence parts flat =
    seq_by_parts (λ ds d. (len : ℕ) → AreLong ds flat len → IsLong d flat len) (λ len h. h)
    (λ d len h. subst (λ (n : ℕ). IsLong d flat n) (alone len h.0 h.1 h.2 h.4) h.3)
    (λ d e ds es a b p q len h.
    let apart = long_apart (d ∷ ds) (e ∷ es) flat len h in
    (apart.0, apart.1, apart.2, p apart.0 apart.3, q apart.1 apart.4)) parts
  where
    alone : (len i j : ℕ) → len ≡ i + j → j ≡ 0 → i ≡ len
    alone len i j e f = omega arith
