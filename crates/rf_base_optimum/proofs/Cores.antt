-- Choices are best for a document exactly where they are best for its core.
use Rattle.std.proofs.Common.{◌≡◌, ◌↔◌, ℕ, ◌+◌, Bool, true, false, List, [], ◌∷◌, ◌++◌, refl, sym, ◌∙◌, ap, subst, ◌⊎◌, inl, inr, Option, Some, None}
use Rattle.rf_base_document.specs.declared.directions.Dir.{Dir}
use Rattle.rf_base_document.specs.declared.directions.Dir.TheVariants.{Left, Right}
use Rattle.rf_base_document.specs.Document.{Doc, Text, Newline, Hard, Concat, Nest, Align, Reset, Flatten, Choice, Only, Charge}
use Rattle.rf_base_document.specs.Render.{Laid, render}
use Rattle.rf_base_document.specs.Picks.{Picks, LaidOutBy, HasLayout}
use Rattle.rf_base_document.specs.Simple.{simple_newline, simple_hard, simple_choice, simple}
use Rattle.rf_base_document.proofs.Simple.{keeps_layouts, core_has_layout, map_is, concat_is, core_has_no_more}
use Rattle.rf_base_cost.specs.Cost.{Costs}
use Rattle.rf_base_optimum.specs.Best.{HasWithin, IsLeast, LeastOr, Best}

-- a document and its core have the same layouts by the same choices
laid_to_core : (d : Doc) (flat : Bool) (s : Doc) (cs : List Dir) (c i : ℕ) (whole : Laid) → simple d flat ≡ Some s →
    LaidOutBy d cs c i flat whole → LaidOutBy s cs c i false whole
laid_to_core d flat s cs c i whole e h =
    let core = (keeps_layouts d flat cs c i whole).0 h in
    let same : core.0 ≡ s = some_same core.0 s (sym core.1 ∙ e) in
    subst (λ (x : Doc). LaidOutBy x cs c i false whole) same core.2
  where
    some_same : (a b : Doc) → Some a ≡ Some b → a ≡ b
    some_same a b e = cc

-- two documents, flat or not, have the same layouts by the same choices
abbrev Alike : Doc → Bool → Doc → Bool → Type 0
Alike d flat s other =
    (cs : List Dir) (c i : ℕ) (whole : Laid) → LaidOutBy d cs c i flat whole ↔ LaidOutBy s cs c i other whole

core_alike : (d : Doc) (flat : Bool) (s : Doc) → simple d flat ≡ Some s → Alike d flat s false
core_alike d flat s e cs c i whole = (laid_to_core d flat s cs c i whole e, core_has_no_more d flat s cs c i whole e)

turned : (d : Doc) (flat : Bool) (s : Doc) (other : Bool) → Alike d flat s other → Alike s other d flat
turned d flat s other h cs c i whole = ((h cs c i whole).1, (h cs c i whole).0)

least_across : {C : Type 0} (costs : Costs C) (w : ℕ) (d : Doc) (flat : Bool) (s : Doc) (other : Bool) (c i : ℕ)
    (cs : List Dir) → Alike d flat s other →
    IsLeast costs w d c i flat cs → IsLeast costs w s c i other cs
least_across costs w d flat s other c i cs h least = (
  least.0,
  ((h cs c i least.0).0 least.1.0, least.1.1),
  λ others whole within. least.2 others whole ((h others c i whole).1 within.0, within.1),
)

none_across : (w : ℕ) (d : Doc) (flat : Bool) (s : Doc) (other : Bool) (c i : ℕ) → Alike d flat s other →
    (HasWithin w d c i flat → ⊥) → HasWithin w s c i other → ⊥
none_across w d flat s other c i h none has = none (has.0, has.1, ((h has.0 c i has.1).1 has.2.0, has.2.1))

least_or_across : {C : Type 0} (costs : Costs C) (w : ℕ) (d : Doc) (flat : Bool) (s : Doc) (other : Bool) (c i : ℕ)
    (cs : List Dir) (P Q : Type 0) →
    Alike d flat s other → (P → Q) → LeastOr costs w d c i flat cs P → LeastOr costs w s c i other cs Q
least_or_across costs w d flat s other c i cs P Q h f best = (
  (best.0.0, (h cs c i best.0.0).0 best.0.1),
  elim best.1 [
    | inl least ↦ inl (least_across costs w d flat s other c i cs h least)
    | inr parts ↦ inr (none_across w d flat s other c i h parts.0, f parts.1)
  ],
)

both_ways : {C : Type 0} (costs : Costs C) (w : ℕ) (d : Doc) (flat : Bool) (s : Doc) (other : Bool) (c i : ℕ)
    (cs : List Dir) (P Q : Type 0) →
    Alike d flat s other → P ↔ Q → LeastOr costs w d c i flat cs P ↔ LeastOr costs w s c i other cs Q
both_ways costs w d flat s other c i cs P Q h f = (
  least_or_across costs w d flat s other c i cs P Q h f.0,
  least_or_across costs w s other d flat c i cs Q P (turned d flat s other h) f.1,
)

-- what is best is least or nothing is within, and what is least is best
pub best_is : {C : Type 0} (costs : Costs C) (w : ℕ) (d : Doc) (c i : ℕ) (flat : Bool) (cs : List Dir) →
    Best costs w d c i flat cs →
    ((whole : Laid) × LaidOutBy d cs c i flat whole) × (IsLeast costs w d c i flat cs ⊎ (HasWithin w d c i flat → ⊥))
unfolding Best
best_is costs w (Charge k a) c i flat cs h = (h.0, elim h.1 [ inl l ↦ inl l | inr l ↦ inr l.0 ])
best_is costs w _ c i flat cs h = (h.0, elim h.1 [ inl k ↦ inl k | inr k ↦ inr k.0 ])

pub least_is_best : {C : Type 0} (costs : Costs C) (w : ℕ) (d : Doc) (c i : ℕ) (flat : Bool) (cs : List Dir) →
    IsLeast costs w d c i flat cs → Best costs w d c i flat cs
unfolding Best
least_is_best costs w (Text s len) c i flat cs h = ((h.0, h.1.0), inl h)
least_is_best costs w Newline c i flat cs h = ((h.0, h.1.0), inl h)
least_is_best costs w Hard c i flat cs h = ((h.0, h.1.0), inl h)
least_is_best costs w (Concat a b) c i flat cs h = ((h.0, h.1.0), inl h)
least_is_best costs w (Nest n a) c i flat cs h = ((h.0, h.1.0), inl h)
least_is_best costs w (Align a) c i flat cs h = ((h.0, h.1.0), inl h)
least_is_best costs w (Reset a) c i flat cs h = ((h.0, h.1.0), inl h)
least_is_best costs w (Flatten a) c i flat cs h = ((h.0, h.1.0), inl h)
least_is_best costs w (Choice a b) c i flat cs h = ((h.0, h.1.0), inl h)
least_is_best costs w (Only dir a) c i flat cs h = ((h.0, h.1.0), inl h)
least_is_best costs w (Charge k a) c i flat cs h = ((h.0, h.1.0), inl h)

-- a flattened part has its layouts flat
flatten_alike : (a : Doc) (flat : Bool) → Alike (Flatten a) flat a true
unfolding Picks render
flatten_alike a flat cs c i whole = (
  λ h. (h.1.0, h.1.2, ap (λ (x : Doc). render x c i flat) (sym h.1.1) ∙ h.2),
  λ h. (Flatten h.0, (h.0, refl, h.1), h.2),
)

flatten_best : {C : Type 0} (costs : Costs C) (w : ℕ) (a : Doc) (c i : ℕ) (flat : Bool) (cs : List Dir) →
    Best costs w (Flatten a) c i flat cs ↔ Best costs w a c i true cs
unfolding Best
flatten_best costs w a c i flat cs = (
  λ best.
      elim best.1 [
        | inl least ↦
            least_is_best costs w a c i true cs (least_across costs w (Flatten a) flat a true c i cs
            (flatten_alike a flat) least)
        | inr parts ↦ parts.1
      ],
  λ best.
      let is = best_is costs w a c i true cs best in
      let back = turned (Flatten a) flat a true (flatten_alike a flat) in (
        (is.0.0, (back cs c i is.0.0).0 is.0.1),
        elim is.1 [
          | inl least ↦ inl (least_across costs w a true (Flatten a) flat c i cs back least)
          | inr none ↦ inr (none_across w a true (Flatten a) flat c i back none, best)
        ],
      ),
)

-- the choices that are best for a document, flat or not, are those that are best for another at each place
abbrev BestAlike : {C : Type 0} → Costs C → ℕ → Doc → Bool → Doc → Type 0
BestAlike costs w d flat s = (c i : ℕ) (cs : List Dir) → Best costs w d c i flat cs ↔ Best costs w s c i false cs

newline_best : {C : Type 0} (costs : Costs C) (w : ℕ) (flat : Bool) →
    BestAlike costs w Newline flat (simple_newline flat)
unfolding Best simple
newline_best costs w true c i cs =
    both_ways costs w Newline true (simple_newline true) false c i cs (cs ≡ []) (cs ≡ [])
    (core_alike Newline true (simple_newline true) refl) (λ k. k, λ k. k)
newline_best costs w false c i cs =
    both_ways costs w Newline false (simple_newline false) false c i cs (cs ≡ []) (cs ≡ [])
    (core_alike Newline false (simple_newline false) refl) (λ k. k, λ k. k)

hard_best : {C : Type 0} (costs : Costs C) (w : ℕ) (flat : Bool) (s : Doc) → simple_hard flat ≡ Some s →
    BestAlike costs w Hard flat s
unfolding Best simple
hard_best costs w true s e c i cs = cc
hard_best costs w false s e c i cs =
    let same : Newline ≡ s = cc in
    subst (λ (x : Doc). Best costs w Hard c i false cs ↔ Best costs w x c i false cs) same
    (both_ways costs w Hard false Newline false c i cs (cs ≡ []) (cs ≡ []) (core_alike Hard false Newline refl)
    (λ k. k, λ k. k))

-- what goes part by part for a concatenation
abbrev ConcatByParts : {C : Type 0} → Costs C → ℕ → Doc → Doc → ℕ → ℕ → Bool → List Dir → Type 0
ConcatByParts costs w a b c i flat cs =
    (x : List Dir) × (y : List Dir) × (first : Laid) × (cs ≡ x ++ y) × Best costs w a c i flat x
    × LaidOutBy a x c i flat first × Best costs w b first.last i flat y

concat_by_parts : {C : Type 0} (costs : Costs C) (w : ℕ) (a b x y : Doc) (c i : ℕ) (flat : Bool) (cs : List Dir) →
    Alike a flat x false → BestAlike costs w a flat x → BestAlike costs w b flat y →
    ConcatByParts costs w a b c i flat cs ↔ ConcatByParts costs w x y c i false cs
concat_by_parts costs w a b x y c i flat cs h f g = (
  λ k. (k.0, k.1, k.2, k.3, (f c i k.0).0 k.4, (h k.0 c i k.2).0 k.5, (g k.2.last i k.1).0 k.6),
  λ k. (k.0, k.1, k.2, k.3, (f c i k.0).1 k.4, (h k.0 c i k.2).1 k.5, (g k.2.last i k.1).1 k.6),
)

-- what goes part by part for a choice
abbrev ChoiceByParts : {C : Type 0} → Costs C → ℕ → Doc → Doc → ℕ → ℕ → Bool → List Dir → Type 0
ChoiceByParts costs w a b c i flat cs =
    (rest : List Dir)
    × ((HasLayout a flat × (cs ≡ Left ∷ rest) × Best costs w a c i flat rest)
    ⊎ ((HasLayout a flat → ⊥) × (cs ≡ Right ∷ rest) × Best costs w b c i flat rest))

has_across : (d : Doc) (flat : Bool) (s : Doc) (other : Bool) → Alike d flat s other → HasLayout d flat →
    HasLayout s other
has_across d flat s other h has = (has.0, has.1, (h has.0 0 0 has.1).0 has.2)

choice_by_parts : {C : Type 0} (costs : Costs C) (w : ℕ) (a b x y : Doc) (c i : ℕ) (flat : Bool) (cs : List Dir) →
    Alike a flat x false → BestAlike costs w a flat x → BestAlike costs w b flat y →
    ChoiceByParts costs w a b c i flat cs ↔ ChoiceByParts costs w x y c i false cs
choice_by_parts costs w a b x y c i flat cs h f g = (
  λ k. (
    k.0,
    elim k.1 [
      | inl l ↦ inl (has_across a flat x false h l.0, l.1, (f c i k.0).0 l.2)
      | inr r ↦ inr (λ has. r.0 (has_across x false a flat (turned a flat x false h) has), r.1, (g c i k.0).0 r.2)
    ],
  ),
  λ k. (
    k.0,
    elim k.1 [
      | inl l ↦ inl (has_across x false a flat (turned a flat x false h) l.0, l.1, (f c i k.0).1 l.2)
      | inr r ↦ inr (λ has. r.0 (has_across a flat x false h has), r.1, (g c i k.0).1 r.2)
    ],
  ),
)

left_by_parts : {C : Type 0} (costs : Costs C) (w : ℕ) (a b x : Doc) (c i : ℕ) (flat : Bool) (cs : List Dir) →
    HasLayout a flat → BestAlike costs w a flat x →
    ChoiceByParts costs w a b c i flat cs ↔ ((rest : List Dir) × (cs ≡ Left ∷ rest) × Best costs w x c i false rest)
left_by_parts costs w a b x c i flat cs has f = (
  λ k. elim k.1 [ inl l ↦ (k.0, l.1, (f c i k.0).0 l.2) | inr r ↦ absurd (r.0 has) ],
  λ k. (k.0, inl (has, k.1, (f c i k.0).1 k.2)),
)

right_by_parts : {C : Type 0} (costs : Costs C) (w : ℕ) (a b y : Doc) (c i : ℕ) (flat : Bool) (cs : List Dir) →
    (HasLayout a flat → ⊥) → BestAlike costs w b flat y →
    ChoiceByParts costs w a b c i flat cs ↔ ((rest : List Dir) × (cs ≡ Right ∷ rest) × Best costs w y c i false rest)
right_by_parts costs w a b y c i flat cs none g = (
  λ k. elim k.1 [ inl l ↦ absurd (none l.0) | inr r ↦ (k.0, r.1, (g c i k.0).0 r.2) ],
  λ k. (k.0, inr (none, k.1, (g c i k.0).1 k.2)),
)

has_layout : (a : Doc) (flat : Bool) (x : Doc) → simple a flat ≡ Some x → HasLayout a flat
has_layout a flat x e = core_has_layout a flat x 0 0 e

has_none : (a : Doc) (flat : Bool) → simple a flat ≡ None → HasLayout a flat → ⊥
has_none a flat e has =
    let core = (keeps_layouts a flat has.0 0 0 has.1).0 has.2 in
    let two : None ≡ Some core.0 = sym e ∙ core.1 in cc

-- a choice by the cores of its sides
choice_best : {C : Type 0} (costs : Costs C) (w : ℕ) (a b : Doc) (flat : Bool) (o p : Option Doc) (s : Doc) →
    simple a flat ≡ o → simple b flat ≡ p →
    simple_choice o p ≡ Some s → Alike (Choice a b) flat s false →
    ((x : Doc) → o ≡ Some x → BestAlike costs w a flat x) →
    ((y : Doc) → p ≡ Some y → BestAlike costs w b flat y) → BestAlike costs w (Choice a b) flat s
unfolding Best
choice_best costs w a b flat None None s m n e h f g c i cs = cc
choice_best costs w a b flat None (Some y) s m n e h f g c i cs =
    let same : Only Right y ≡ s = cc in
    let alike = subst (λ (z : Doc). Alike (Choice a b) flat z false) (sym same) h in
    subst (λ (z : Doc). Best costs w (Choice a b) c i flat cs ↔ Best costs w z c i false cs) same
    (both_ways costs w (Choice a b) flat (Only Right y) false c i cs (ChoiceByParts costs w a b c i flat cs)
    ((rest : List Dir) × (cs ≡ Right ∷ rest) × Best costs w y c i false rest) alike
    (right_by_parts costs w a b y c i flat cs (has_none a flat m) (g y refl)))
choice_best costs w a b flat (Some x) None s m n e h f g c i cs =
    let same : Only Left x ≡ s = cc in
    let alike = subst (λ (z : Doc). Alike (Choice a b) flat z false) (sym same) h in
    subst (λ (z : Doc). Best costs w (Choice a b) c i flat cs ↔ Best costs w z c i false cs) same
    (both_ways costs w (Choice a b) flat (Only Left x) false c i cs (ChoiceByParts costs w a b c i flat cs)
    ((rest : List Dir) × (cs ≡ Left ∷ rest) × Best costs w x c i false rest) alike
    (left_by_parts costs w a b x c i flat cs (has_layout a flat x m) (f x refl)))
choice_best costs w a b flat (Some x) (Some y) s m n e h f g c i cs =
    let same : Choice x y ≡ s = cc in
    let alike = subst (λ (z : Doc). Alike (Choice a b) flat z false) (sym same) h in
    subst (λ (z : Doc). Best costs w (Choice a b) c i flat cs ↔ Best costs w z c i false cs) same
    (both_ways costs w (Choice a b) flat (Choice x y) false c i cs (ChoiceByParts costs w a b c i flat cs)
    (ChoiceByParts costs w x y c i false cs) alike
    (choice_by_parts costs w a b x y c i flat cs (core_alike a flat x m) (f x refl) (g y refl)))

pub core_best : {C : Type 0} (costs : Costs C) (w : ℕ) (d : Doc) (flat : Bool) (s : Doc) → simple d flat ≡ Some s →
    BestAlike costs w d flat s
unfolding Best simple
core_best costs w (Text t len) flat s e c i cs =
    let same : Text t len ≡ s = cc in
    subst (λ (z : Doc). Best costs w (Text t len) c i flat cs ↔ Best costs w z c i false cs) same
    (both_ways costs w (Text t len) flat (Text t len) false c i cs (cs ≡ []) (cs ≡ [])
    (core_alike (Text t len) flat (Text t len) refl) (λ k. k, λ k. k))
core_best costs w Newline flat s e c i cs =
    let same : simple_newline flat ≡ s = cc in
    subst (λ (z : Doc). Best costs w Newline c i flat cs ↔ Best costs w z c i false cs) same
    (newline_best costs w flat c i cs)
core_best costs w Hard flat s e c i cs = hard_best costs w flat s e c i cs
core_best costs w (Concat a b) flat s e c i cs =
    let parts = concat_is (simple a flat) (simple b flat) s e in
    subst (λ (z : Doc). Best costs w (Concat a b) c i flat cs ↔ Best costs w z c i false cs) (sym parts.4)
    (both_ways costs w (Concat a b) flat (Concat parts.0 parts.1) false c i cs (ConcatByParts costs w a b c i flat cs)
    (ConcatByParts costs w parts.0 parts.1 c i false cs)
    (core_alike (Concat a b) flat (Concat parts.0 parts.1) (e ∙ ap Some parts.4))
    (concat_by_parts costs w a b parts.0 parts.1 c i flat cs (core_alike a flat parts.0 parts.2)
    (core_best costs w a flat parts.0 parts.2) (core_best costs w b flat parts.1 parts.3)))
core_best costs w (Nest n a) flat s e c i cs =
    let part = map_is (Nest n) (simple a flat) s e in
    subst (λ (z : Doc). Best costs w (Nest n a) c i flat cs ↔ Best costs w z c i false cs) (sym part.2)
    (both_ways costs w (Nest n a) flat (Nest n part.0) false c i cs (Best costs w a c (i + n) flat cs)
    (Best costs w part.0 c (i + n) false cs)
    (core_alike (Nest n a) flat (Nest n part.0) (e ∙ ap Some part.2))
    (core_best costs w a flat part.0 part.1 c (i + n) cs))
core_best costs w (Align a) flat s e c i cs =
    let part = map_is Align (simple a flat) s e in
    subst (λ (z : Doc). Best costs w (Align a) c i flat cs ↔ Best costs w z c i false cs) (sym part.2)
    (both_ways costs w (Align a) flat (Align part.0) false c i cs (Best costs w a c c flat cs)
    (Best costs w part.0 c c false cs)
    (core_alike (Align a) flat (Align part.0) (e ∙ ap Some part.2)) (core_best costs w a flat part.0 part.1 c c cs))
core_best costs w (Reset a) flat s e c i cs =
    let part = map_is Reset (simple a flat) s e in
    subst (λ (z : Doc). Best costs w (Reset a) c i flat cs ↔ Best costs w z c i false cs) (sym part.2)
    (both_ways costs w (Reset a) flat (Reset part.0) false c i cs (Best costs w a c 0 flat cs)
    (Best costs w part.0 c 0 false cs)
    (core_alike (Reset a) flat (Reset part.0) (e ∙ ap Some part.2)) (core_best costs w a flat part.0 part.1 c 0 cs))
core_best costs w (Flatten a) flat s e c i cs =
    let outer = flatten_best costs w a c i flat cs in
    let inner = core_best costs w a true s e c i cs in
    (λ best. inner.0 (outer.0 best), λ best. outer.1 (inner.1 best))
core_best costs w (Choice a b) flat s e c i cs =
    choice_best costs w a b flat (simple a flat) (simple b flat) s refl refl e (core_alike (Choice a b) flat s e)
    (λ x f. core_best costs w a flat x f) (λ y f. core_best costs w b flat y f) c i cs
core_best costs w (Only dir a) flat s e c i cs =
    let part = map_is (Only dir) (simple a flat) s e in
    subst (λ (z : Doc). Best costs w (Only dir a) c i flat cs ↔ Best costs w z c i false cs) (sym part.2)
    (both_ways costs w (Only dir a) flat (Only dir part.0) false c i cs
    ((rest : List Dir) × (cs ≡ dir ∷ rest) × Best costs w a c i flat rest)
    ((rest : List Dir) × (cs ≡ dir ∷ rest) × Best costs w part.0 c i false rest)
    (core_alike (Only dir a) flat (Only dir part.0) (e ∙ ap Some part.2)) (
      λ k. (k.0, k.1, (core_best costs w a flat part.0 part.1 c i k.0).0 k.2),
      λ k. (k.0, k.1, (core_best costs w a flat part.0 part.1 c i k.0).1 k.2),
    ))
core_best costs w (Charge n a) flat s e c i cs =
    let part = map_is (Charge n) (simple a flat) s e in
    subst (λ (z : Doc). Best costs w (Charge n a) c i flat cs ↔ Best costs w z c i false cs) (sym part.2)
    (both_ways costs w (Charge n a) flat (Charge n part.0) false c i cs (Best costs w a c i flat cs)
    (Best costs w part.0 c i false cs)
    (core_alike (Charge n a) flat (Charge n part.0) (e ∙ ap Some part.2))
    (core_best costs w a flat part.0 part.1 c i cs))
