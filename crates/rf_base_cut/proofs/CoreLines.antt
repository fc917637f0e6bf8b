-- What is found out of a document's line node by node, flat or not, holds of its core.
use Rattle.std.proofs.Common.{◌≡◌, ℕ, ◌+◌, ◌≤◌, Bool, true, false, List, [], ◌∷◌, ◌++◌, refl, sym, ◌∙◌, ap, ap₂, subst, ◌⊎◌, inl, inr, Option, Some}
use Rattle.std.specs.Prelude.{not, nat_le}
use Rattle.std.specs.Option.{option_map}
use Rattle.std.proofs.lemmas.Bool.{and_parts, or_left, or_right, or_cases}
use Rattle.rf_base_document.specs.declared.directions.Dir.{Dir}
use Rattle.rf_base_document.specs.declared.directions.Dir.TheVariants.{Left, Right}
use Rattle.rf_base_document.specs.Document.{Doc, Text, Newline, Hard, Concat, Nest, Align, Reset, Flatten, Choice, Only, Charge, IsDocument}
use Rattle.rf_base_document.specs.Simple.{simple_newline, simple_concat, simple_choice, simple}
use Rattle.rf_base_cost.specs.declared.measures.Measure.{Measure}
use Rattle.rf_base_cost.specs.Cost.{Costs, IsValue, IsColumn, Lawful}
use Rattle.rf_base_optimum.specs.Plain.{where_within}
use Rattle.rf_base_optimum.proofs.CoreChoices.{core_document}
use Rattle.rf_base_cut.specs.OneLine.{measured, first_choices, flat_length, is_never_free, OneLine, NothingIsLeast}
use Rattle.rf_base_cut.specs.Indifferent.{IsFree}
use Rattle.rf_base_cut.specs.Documents.{after_in, flat_length_in}
use Rattle.rf_base_cut.specs.DocumentLines.{line, never_free_in, OneLineIn}
use Rattle.rf_base_cut.proofs.DocumentCuts.{core_flat, one_core}
use Rattle.rf_base_cut.proofs.DocumentLines.{hard_never, choice_never, HasLine, OtherSide, concat_has, map_has, only_has, left_has, right_has}
use Rattle.rf_base_cut.proofs.FlatTexts as text
use Rattle.rf_base_cut.proofs.FlatTexts.{both_are, same_are}
use Rattle.rf_base_cut.proofs.Lines as lines
use Rattle.rf_base_cut.proofs.Roots.{after_core}
use Rattle.rf_base_document.proofs.Simple.{map_is, concat_is}

-- where each resolution of a document that has a layout has a break or a charge, each of its core has
newline_broken : (flat : Bool) → not flat ≡ true → is_never_free (simple_newline flat) ≡ true
unfolding is_never_free
newline_broken true e = cc
newline_broken false e = refl

pub never_free_core : (d s : Doc) (flat : Bool) → never_free_in d flat ≡ true → simple d flat ≡ Some s →
    is_never_free s ≡ true
unfolding simple never_free_in is_never_free
never_free_core (Text t columns) s flat e f = cc
never_free_core Newline s flat e f =
    let same : simple_newline flat ≡ s = cc in subst (λ (x : Doc). is_never_free x ≡ true) same (newline_broken flat e)
never_free_core Hard s flat e f = hard_never flat s f
never_free_core (Concat a b) s flat e f =
    let parts = concat_is (simple a flat) (simple b flat) s f in
    subst (λ (x : Doc). is_never_free x ≡ true) (sym parts.4)
    (elim (or_cases (never_free_in a flat) (never_free_in b flat) e) [
      | inl first ↦
          or_left (is_never_free parts.0) (is_never_free parts.1) (never_free_core a parts.0 flat first parts.2)
      | inr second ↦
          or_right (is_never_free parts.0) (is_never_free parts.1) (never_free_core b parts.1 flat second parts.3)
    ])
never_free_core (Nest n a) s flat e f =
    let part = map_is (Nest n) (simple a flat) s f in
    subst (λ (x : Doc). is_never_free x ≡ true) (sym part.2) (never_free_core a part.0 flat e part.1)
never_free_core (Align a) s flat e f =
    let part = map_is Align (simple a flat) s f in
    subst (λ (x : Doc). is_never_free x ≡ true) (sym part.2) (never_free_core a part.0 flat e part.1)
never_free_core (Reset a) s flat e f =
    let part = map_is Reset (simple a flat) s f in
    subst (λ (x : Doc). is_never_free x ≡ true) (sym part.2) (never_free_core a part.0 flat e part.1)
never_free_core (Flatten a) s flat e f = never_free_core a s true e f
never_free_core (Choice a b) s flat e f =
    let sides = and_parts (never_free_in a flat) (never_free_in b flat) e in
    choice_never (simple a flat) (simple b flat) s (λ x k. never_free_core a x flat sides.0 k)
    (λ x k. never_free_core b x flat sides.1 k) f
never_free_core (Only dir a) s flat e f =
    let part = map_is (Only dir) (simple a flat) s f in
    subst (λ (x : Doc). is_never_free x ≡ true) (sym part.2) (never_free_core a part.0 flat e part.1)
never_free_core (Charge k a) s flat e f =
    let part = map_is (Charge k) (simple a flat) s f in
    subst (λ (x : Doc). is_never_free x ≡ true) (sym part.2)
    (elim (or_cases (nat_le 1 k) (never_free_in a flat) e) [
      | inl first ↦ or_left (nat_le 1 k) (is_never_free part.0) first
      | inr second ↦ or_right (nat_le 1 k) (is_never_free part.0) (never_free_core a part.0 flat second part.1)
    ])

-- the line of a document is its core's
abbrev IsLineOf : Option Doc → ℕ → List Dir → Type 0
IsLineOf o len how = HasLine o len (line len how)

same_how : (o : Option Doc) (len : ℕ) (how other : List Dir) → how ≡ other → IsLineOf o len other → IsLineOf o len how
same_how o len how other e h = subst (λ (z : List Dir). IsLineOf o len z) (sym e) h

newline_in : (flat : Bool) (len : ℕ) (how : List Dir) → flat ≡ true → len ≡ 1 → how ≡ [] →
    IsLineOf (Some (simple_newline flat)) len how
unfolding OneLine
newline_in true len how e f g = (refl, (Text (32 ∷ []) 1, refl, (f, g)))
newline_in false len how e f g = cc

-- another side of a document, and that of its core
other_in : (b : Doc) (flat : Bool) (len : ℕ) →
    (never_free_in b flat ≡ true) ⊎ ((other : List Dir) × IsLineOf (simple b flat) len other) →
    OtherSide (simple b flat) len
other_in b flat len (inl never) s e = inl (never_free_core b s flat never e)
other_in b flat len (inr alike) s e =
    let has = alike.1.1 in
    inr (alike.0, subst (λ (z : Doc). OneLine z len alike.0) (one_core has.0 s (sym has.1 ∙ e)) has.2)

pub line_in_core : (d : Doc) (flat : Bool) (len : ℕ) (how : List Dir) → OneLineIn d flat len how →
    IsLineOf (simple d flat) len how
unfolding simple OneLineIn OneLine
line_in_core (Text t columns) flat len how h = (refl, (Text t columns, refl, h))
line_in_core Newline flat len how h = newline_in flat len how h.0 h.1 h.2
line_in_core (Concat a b) flat len how h =
    let both : Option Doc = simple_concat (simple a flat) (simple b flat) in
    same_how both len how (h.2 ++ h.3) h.5
    (subst (λ (n : ℕ). IsLineOf both n (h.2 ++ h.3)) (sym h.4)
    (concat_has (simple a flat) (simple b flat) h.0 h.1 (line h.0 h.2) (line h.1 h.3) (line_in_core a flat h.0 h.2 h.6)
    (line_in_core b flat h.1 h.3 h.7)))
line_in_core (Nest n a) flat len how h =
    map_has (Nest n) (simple a flat) len (line len how) (λ s k. k) (line_in_core a flat len how h)
line_in_core (Align a) flat len how h =
    map_has Align (simple a flat) len (line len how) (λ s k. k) (line_in_core a flat len how h)
line_in_core (Reset a) flat len how h =
    map_has Reset (simple a flat) len (line len how) (λ s k. k) (line_in_core a flat len how h)
line_in_core (Flatten a) flat len how h = line_in_core a true len how h
line_in_core (Choice a b) flat len how h =
    let core : Option Doc = simple_choice (simple a flat) (simple b flat) in
    elim h.1 [
      | inl left ↦
          same_how core len how (Left ∷ h.0) left.0
          (left_has (simple a flat) (simple b flat) len (line len h.0) (line_in_core a flat len h.0 left.1)
          (elim left.2 [
            | inl broken ↦ other_in b flat len (inl broken)
            | inr alike ↦ other_in b flat len (inr (alike.0, line_in_core b flat len alike.0 alike.1))
          ]))
      | inr right ↦
          same_how core len how (Right ∷ h.0) right.0
          (right_has (simple a flat) (simple b flat) len (line len h.0) (line_in_core b flat len h.0 right.2)
          (λ s k. never_free_core a s flat right.1 k))
    ]
line_in_core (Only dir a) flat len how h =
    same_how (option_map (Only dir) (simple a flat)) len how (dir ∷ h.0) h.1
    (only_has dir (simple a flat) len (line len h.0) (line_in_core a flat len h.0 h.2))
line_in_core _ flat len how h = absurd h

-- so where it costs nothing it is all that stands behind a measure
pub after_line : {C : Type 0} (costs : Costs C) (laws : Lawful costs) (least : NothingIsLeast costs) (w free : ℕ)
    (d : Doc) (flat : Bool) (m : Measure C (List Dir)) (i x len : ℕ) (how : List Dir) →
    IsColumn w → IsDocument d → IsFree costs free → IsValue costs m.cost → OneLineIn d flat len how → m.last + len ≤ x →
    m.last + len ≤ free → m.last + len ≤ w →
    after_in costs w d flat m i x ≡ measured (m.last + len) m.cost (m.how ++ how) ∷ []
after_line costs laws least w free d flat m i x len how p q f v h ex ef ew =
    let has = (line_in_core d flat len how h).1 in
    after_core costs w d has.0 flat m i x has.1
    ∙ lines.after_one_line costs laws least w free has.0 m i x len how p
    (core_document d flat has.0 q has.1) f v has.2 ex ef ew

-- what has no break and no charge has a resolution without them
flat_is_free : (s : Doc) (len : ℕ) → flat_length s ≡ Some len → is_never_free s ≡ true → ⊥
unfolding flat_length is_never_free
flat_is_free (Concat a b) len e f =
    let parts = both_are (flat_length a) (flat_length b) len e in
    elim (or_cases (is_never_free a) (is_never_free b) f) [
      | inl first ↦ flat_is_free a parts.0 parts.2 first
      | inr second ↦ flat_is_free b parts.1 parts.3 second
    ]
flat_is_free (Nest n a) len e f = flat_is_free a len e f
flat_is_free (Align a) len e f = flat_is_free a len e f
flat_is_free (Reset a) len e f = flat_is_free a len e f
flat_is_free (Choice a b) len e f =
    flat_is_free a len (same_are (flat_length a) (flat_length b) len e).0
    (and_parts (is_never_free a) (is_never_free b) f).0
flat_is_free (Only dir a) len e f = flat_is_free a len e f
flat_is_free _ len e f = cc

-- so its line is by the first sides
by_first : (s : Doc) (len i : ℕ) (how : List Dir) → flat_length s ≡ Some len → OneLine s i how → how ≡ first_choices s
unfolding flat_length OneLine first_choices
by_first (Text t columns) len i how e h = h.1
by_first (Concat a b) len i how e h =
    let parts = both_are (flat_length a) (flat_length b) len e in
    h.5
    ∙ ap₂ (λ (x y : List Dir). x ++ y) (by_first a parts.0 h.0 h.2 parts.2 h.6) (by_first b parts.1 h.1 h.3 parts.3 h.7)
by_first (Nest n a) len i how e h = by_first a len i how e h
by_first (Align a) len i how e h = by_first a len i how e h
by_first (Reset a) len i how e h = by_first a len i how e h
by_first (Choice a b) len i how e h =
    let side = (same_are (flat_length a) (flat_length b) len e).0 in
    elim h.1 [
      | inl left ↦ left.0 ∙ ap (λ (z : List Dir). Left ∷ z) (by_first a len i h.0 side left.1)
      | inr right ↦ absurd (flat_is_free a len side right.1)
    ]
by_first (Only dir a) len i how e h = h.1 ∙ ap (λ (z : List Dir). dir ∷ z) (by_first a len i h.0 e h.2)
by_first _ len i how e h = absurd h

-- and where all its layouts are one text, that is by the choices of the line
pub after_text : {C : Type 0} (costs : Costs C) (laws : Lawful costs) (w : ℕ) (d : Doc) (flat : Bool)
    (m : Measure C (List Dir)) (i x len : ℕ) (how : List Dir) →
    IsColumn w → flat_length_in d flat ≡ Some len → OneLineIn d flat len how →
    after_in costs w d flat m i x
    ≡ where_within (nat_le (m.last + len) w)
    (measured (m.last + len) (costs.add m.cost (costs.text m.last len)) (m.how ++ how))
after_text {C = C} costs laws w d flat m i x len how p e h =
    let core = core_flat d flat len e in
    let has = (line_in_core d flat len how h).1 in
    let same : has.0 ≡ core.0 = one_core has.0 core.0 (sym has.1 ∙ core.1) in
    let first : how ≡ first_choices core.0 =
    by_first core.0 len len how core.2 (subst (λ (z : Doc). OneLine z len how) same has.2) in
    after_core costs w d core.0 flat m i x core.1
    ∙ text.after_flat costs laws w core.0 m i x len p core.2
    ∙ ap (λ (z : List Dir). where_within (nat_le (m.last + len) w)
    (measured (m.last + len) (costs.add m.cost (costs.text m.last len)) (m.how ++ z))) (sym first)
