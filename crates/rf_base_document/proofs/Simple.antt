-- A document and its core have the same layouts by the same choices.
use Rattle.std.proofs.Common.{◌≡◌, ◌↔◌, ℕ, ◌+◌, ◌⊎◌, inl, inr, Bool, true, false, List, [], ◌∷◌, ◌++◌, refl, sym, ◌∙◌, ap, subst, Option, Some, None}
use Rattle.std.specs.Option.{option_map}
use Rattle.rf_base_document.specs.declared.directions.Dir.{Dir}
use Rattle.rf_base_document.specs.declared.directions.Dir.TheVariants.{Left, Right}
use Rattle.rf_base_document.specs.Document.{Doc, Text, Newline, Hard, Concat, Nest, Align, Reset, Flatten, Choice, Only, Charge}
use Rattle.rf_base_document.specs.Render.{Laid, laid, Word, Break, Fee, joined, followed_by, newline_laid, hard_laid, render}
use Rattle.rf_base_document.specs.Picks.{Picks, LaidOutBy}
use Rattle.rf_base_document.specs.Simple.{simple_newline, simple_hard, simple_concat, simple_choice, simple, IsCore}
use Rattle.rf_base_document.proofs.Render.{joined-is, followed_by-is}

-- a core that a document has, laid out by these choices
abbrev pub CoreLaidOutBy : Option Doc → List Dir → ℕ → ℕ → Laid → Type 0
CoreLaidOutBy o choices c i whole = (s : Doc) × (o ≡ Some s) × LaidOutBy s choices c i false whole

-- two layouts joined, from their parts
joined-of : (first second whole : Laid) (o : Option Laid) → o ≡ Some second →
    whole.pieces ≡ first.pieces ++ second.pieces →
    whole.last ≡ second.last → joined first o ≡ Some whole
joined-of first second whole o e f g =
    ap (λ p. joined first p) e ∙ ap (λ ps. Some (laid ps second.last)) (sym f)
    ∙ ap (λ n. Some (laid whole.pieces n)) (sym g)

followed_by-of : (first second whole : Laid) (o : Option Laid) (rest : ℕ → Option Laid) → o ≡ Some first →
    rest first.last ≡ Some second →
    whole.pieces ≡ first.pieces ++ second.pieces → whole.last ≡ second.last → followed_by o rest ≡ Some whole
followed_by-of first second whole o rest e f g h =
    ap (λ p. followed_by p rest) e ∙ joined-of first second whole (rest first.last) f g h

-- the layout of a document that is known by another name
pub render_same : (d e : Doc) (c i : ℕ) (flat : Bool) (whole : Laid) → d ≡ e → render d c i flat ≡ Some whole →
    render e c i flat ≡ Some whole
render_same d e c i flat whole same h = ap (λ x. render x c i flat) (sym same) ∙ h

-- a part of a core that is built of one
map_some : (f : Doc → Doc) (o : Option Doc) (s : Doc) → o ≡ Some s → option_map f o ≡ Some (f s)
map_some f o s e = ap (λ p. option_map f p) e

pub map_is : (f : Doc → Doc) (o : Option Doc) (s : Doc) → option_map f o ≡ Some s → (a : Doc) × (o ≡ Some a) × (s ≡ f a)
map_is f None s e = cc
map_is f (Some a) s e = (a, refl, cc)

concat_some : (o p : Option Doc) (a b : Doc) → o ≡ Some a → p ≡ Some b → simple_concat o p ≡ Some (Concat a b)
concat_some o p a b e f = ap (λ q. simple_concat q p) e ∙ ap (λ q. simple_concat (Some a) q) f

pub concat_is : (o p : Option Doc) (s : Doc) → simple_concat o p ≡ Some s →
    (a : Doc) × (b : Doc) × (o ≡ Some a) × (p ≡ Some b) × (s ≡ Concat a b)
concat_is (Some a) (Some b) s e = (a, b, refl, refl, cc)
concat_is _ _ s e = cc

-- the first side of a choice, and the second
first_side : (o p : Option Doc) (rest : List Dir) (c i : ℕ) (whole : Laid) → CoreLaidOutBy o rest c i whole →
    CoreLaidOutBy (simple_choice o p) (Left ∷ rest) c i whole
unfolding Picks
first_side None p rest c i whole h = let e : None ≡ Some h.0 = h.1 in cc
first_side (Some a) None rest c i whole h =
    let same : h.0 ≡ a = cc in
    (Only Left a, refl, (h.2.0, (rest, refl, subst (λ (d : Doc). Picks d rest h.2.0) same h.2.1), h.2.2))
first_side (Some a) (Some b) rest c i whole h =
    let same : h.0 ≡ a = cc in
    (Choice a b, refl, (h.2.0, (rest, inl (refl, subst (λ (d : Doc). Picks d rest h.2.0) same h.2.1)), h.2.2))

second_side : (o p : Option Doc) (rest : List Dir) (c i : ℕ) (whole : Laid) → CoreLaidOutBy p rest c i whole →
    CoreLaidOutBy (simple_choice o p) (Right ∷ rest) c i whole
unfolding Picks
second_side o None rest c i whole h = let e : None ≡ Some h.0 = h.1 in cc
second_side None (Some b) rest c i whole h =
    let same : h.0 ≡ b = cc in
    (Only Right b, refl, (h.2.0, (rest, refl, subst (λ (d : Doc). Picks d rest h.2.0) same h.2.1), h.2.2))
second_side (Some a) (Some b) rest c i whole h =
    let same : h.0 ≡ b = cc in
    (Choice a b, refl, (h.2.0, (rest, inr (refl, subst (λ (d : Doc). Picks d rest h.2.0) same h.2.1)), h.2.2))

-- a hard newline has a layout and a core where it isn't flat
hard_core : (cs : List Dir) (c i : ℕ) (flat : Bool) (whole : Laid) → cs ≡ [] → hard_laid i flat ≡ Some whole →
    CoreLaidOutBy (simple_hard flat) cs c i whole
unfolding Picks render
hard_core cs c i true whole none r = cc
hard_core cs c i false whole none r = (Newline, refl, (Newline, (none, refl), r))

newline_core : (cs : List Dir) (c i : ℕ) (flat : Bool) (whole : Laid) → cs ≡ [] →
    Some (newline_laid c i flat) ≡ Some whole →
    CoreLaidOutBy (Some (simple_newline flat)) cs c i whole
unfolding Picks render
newline_core cs c i true whole none r = (Text (32 ∷ []) 1, refl, (Text (32 ∷ []) 1, (none, refl), r))
newline_core cs c i false whole none r = (Newline, refl, (Newline, (none, refl), r))

-- a layout of a resolution is one of the core's, by the same choices
pub core_keeps : (d : Doc) (flat : Bool) (cs : List Dir) (e : Doc) (c i : ℕ) (whole : Laid) → Picks d cs e →
    render e c i flat ≡ Some whole → CoreLaidOutBy (simple d flat) cs c i whole
unfolding Picks render simple
core_keeps (Text s len) flat cs e c i whole h r =
    (Text s len, refl, (Text s len, (h.0, refl), render_same e (Text s len) c i flat whole h.1 r))
core_keeps Newline flat cs e c i whole h r =
    newline_core cs c i flat whole h.0 (render_same e Newline c i flat whole h.1 r)
core_keeps Hard flat cs e c i whole h r = hard_core cs c i flat whole h.0 (render_same e Hard c i flat whole h.1 r)
core_keeps (Concat a b) flat cs e c i whole h r =
    let found =
    followed_by-is (render h.2 c i flat) (λ last. render h.3 last i flat) whole
    (render_same e (Concat h.2 h.3) c i flat whole h.5 r) in
    let left = core_keeps a flat h.0 h.2 c i found.0 h.6 found.2 in
    let right = core_keeps b flat h.1 h.3 found.0.last i found.1 h.7 found.3 in (
      Concat left.0 right.0,
      concat_some (simple a flat) (simple b flat) left.0 right.0 left.1 right.1,
      (
        Concat left.2.0 right.2.0,
        (h.0, h.1, left.2.0, right.2.0, h.4, refl, left.2.1, right.2.1),
        followed_by-of found.0 found.1 whole (render left.2.0 c i false)
            (λ last. render right.2.0 last i false) left.2.2 right.2.2 found.4 found.5,
      ),
    )
core_keeps (Nest n a) flat cs e c i whole h r =
    let part = core_keeps a flat cs h.0 c (i + n) whole h.2 (render_same e (Nest n h.0) c i flat whole h.1 r) in (
      Nest n part.0,
      map_some (Nest n) (simple a flat) part.0 part.1,
      (Nest n part.2.0, (part.2.0, refl, part.2.1), part.2.2),
    )
core_keeps (Align a) flat cs e c i whole h r =
    let part = core_keeps a flat cs h.0 c c whole h.2 (render_same e (Align h.0) c i flat whole h.1 r) in
    (Align part.0, map_some Align (simple a flat) part.0 part.1, (Align part.2.0, (part.2.0, refl, part.2.1), part.2.2))
core_keeps (Reset a) flat cs e c i whole h r =
    let part = core_keeps a flat cs h.0 c 0 whole h.2 (render_same e (Reset h.0) c i flat whole h.1 r) in
    (Reset part.0, map_some Reset (simple a flat) part.0 part.1, (Reset part.2.0, (part.2.0, refl, part.2.1), part.2.2))
core_keeps (Flatten a) flat cs e c i whole h r =
    core_keeps a true cs h.0 c i whole h.2 (render_same e (Flatten h.0) c i flat whole h.1 r)
core_keeps (Choice a b) flat cs e c i whole h r =
    elim h.1 [
      | inl k ↦
          subst (λ (l : List Dir). CoreLaidOutBy (simple_choice (simple a flat) (simple b flat)) l c i whole) (sym k.0)
          (first_side (simple a flat) (simple b flat) h.0 c i whole (core_keeps a flat h.0 e c i whole k.1 r))
      | inr k ↦
          subst (λ (l : List Dir). CoreLaidOutBy (simple_choice (simple a flat) (simple b flat)) l c i whole) (sym k.0)
          (second_side (simple a flat) (simple b flat) h.0 c i whole (core_keeps b flat h.0 e c i whole k.1 r))
    ]
core_keeps (Only dir a) flat cs e c i whole h r =
    let part = core_keeps a flat h.0 e c i whole h.2 r in
    (Only dir part.0, map_some (Only dir) (simple a flat) part.0 part.1, (part.2.0, (h.0, h.1, part.2.1), part.2.2))
core_keeps (Charge k a) flat cs e c i whole h r =
    let found =
    joined-is (laid (Fee k ∷ []) c) (render h.0 c i flat) whole (render_same e (Charge k h.0) c i flat whole h.1 r) in
    let part = core_keeps a flat cs h.0 c i found.0 h.2 found.1 in (
      Charge k part.0,
      map_some (Charge k) (simple a flat) part.0 part.1,
      (
        Charge k part.2.0,
        (part.2.0, refl, part.2.1),
        joined-of (laid (Fee k ∷ []) c) found.0 whole (render part.2.0 c i false) part.2.2 found.2 found.3,
      ),
    )

-- what a core that is known by another name is laid out by
known : (s t : Doc) (cs : List Dir) (c i : ℕ) (whole : Laid) → s ≡ t → LaidOutBy s cs c i false whole →
    LaidOutBy t cs c i false whole
known s t cs c i whole same h = subst (λ (d : Doc). LaidOutBy d cs c i false whole) same h

text_laid : (s : List ℕ) (len : ℕ) (cs : List Dir) (c i : ℕ) (whole : Laid) (flat : Bool) →
    LaidOutBy (Text s len) cs c i false whole →
    (cs ≡ []) × (render (Text s len) c i flat ≡ Some whole)
unfolding Picks render
text_laid s len cs c i whole flat h = (h.1.0, render_same h.0 (Text s len) c i false whole h.1.1 h.2)

newline_back : (s : Doc) (cs : List Dir) (c i : ℕ) (flat : Bool) (whole : Laid) → Some (simple_newline flat) ≡ Some s →
    LaidOutBy s cs c i false whole →
    LaidOutBy Newline cs c i flat whole
unfolding Picks render
newline_back s cs c i true whole e h =
    let same : s ≡ Text (32 ∷ []) 1 = cc in
    let is = text_laid (32 ∷ []) 1 cs c i whole false (known s (Text (32 ∷ []) 1) cs c i whole same h) in
    (Newline, (is.0, refl), is.1)
newline_back s cs c i false whole e h = let same : s ≡ Newline = cc in known s Newline cs c i whole same h

hard_back : (s : Doc) (cs : List Dir) (c i : ℕ) (flat : Bool) (whole : Laid) → simple_hard flat ≡ Some s →
    LaidOutBy s cs c i false whole →
    LaidOutBy Hard cs c i flat whole
unfolding Picks render
hard_back s cs c i true whole e h = cc
hard_back s cs c i false whole e h =
    let same : s ≡ Newline = cc in
    let is = known s Newline cs c i whole same h in
    (Hard, (is.1.0, refl), render_same is.0 Newline c i false whole is.1.1 is.2)

-- the sides of a choice that has a core
choice_back : (o p : Option Doc) (s : Doc) (cs : List Dir) (c i : ℕ) (whole : Laid) → simple_choice o p ≡ Some s →
    LaidOutBy s cs c i false whole →
    (rest : List Dir)
    × (((cs ≡ Left ∷ rest) × CoreLaidOutBy o rest c i whole) ⊎ ((cs ≡ Right ∷ rest) × CoreLaidOutBy p rest c i whole))
unfolding Picks
choice_back None None s cs c i whole e h = cc
choice_back None (Some b) s cs c i whole e h =
    let same : s ≡ Only Right b = cc in
    let is = known s (Only Right b) cs c i whole same h in
    (is.1.0, inr (is.1.1, (b, refl, (is.0, is.1.2, is.2))))
choice_back (Some a) None s cs c i whole e h =
    let same : s ≡ Only Left a = cc in
    let is = known s (Only Left a) cs c i whole same h in
    (is.1.0, inl (is.1.1, (a, refl, (is.0, is.1.2, is.2))))
choice_back (Some a) (Some b) s cs c i whole e h =
    let same : s ≡ Choice a b = cc in
    let is = known s (Choice a b) cs c i whole same h in (
      is.1.0,
      elim is.1.1 [
        | inl k ↦ inl (k.0, (a, refl, (is.0, k.1, is.2)))
        | inr k ↦ inr (k.0, (b, refl, (is.0, k.1, is.2)))
      ],
    )

-- a layout of the core is one of a resolution, by the same choices
pub core_has_no_more : (d : Doc) (flat : Bool) (s : Doc) (cs : List Dir) (c i : ℕ) (whole : Laid) →
    simple d flat ≡ Some s →
    LaidOutBy s cs c i false whole → LaidOutBy d cs c i flat whole
unfolding Picks render simple
core_has_no_more (Text t len) flat s cs c i whole e h =
    let same : s ≡ Text t len = cc in
    let is = text_laid t len cs c i whole flat (known s (Text t len) cs c i whole same h) in
    (Text t len, (is.0, refl), is.1)
core_has_no_more Newline flat s cs c i whole e h = newline_back s cs c i flat whole e h
core_has_no_more Hard flat s cs c i whole e h = hard_back s cs c i flat whole e h
core_has_no_more (Concat a b) flat s cs c i whole e h =
    let parts = concat_is (simple a flat) (simple b flat) s e in
    let is = known s (Concat parts.0 parts.1) cs c i whole parts.4 h in
    let k = is.1 in
    let found =
    followed_by-is (render k.2 c i false) (λ last. render k.3 last i false) whole
    (render_same is.0 (Concat k.2 k.3) c i false whole k.5 is.2) in
    let left = core_has_no_more a flat parts.0 k.0 c i found.0 parts.2 (k.2, k.6, found.2) in
    let right = core_has_no_more b flat parts.1 k.1 found.0.last i found.1 parts.3 (k.3, k.7, found.3) in (
      Concat left.0 right.0,
      (k.0, k.1, left.0, right.0, k.4, refl, left.1, right.1),
      followed_by-of found.0 found.1 whole (render left.0 c i flat)
          (λ last. render right.0 last i flat) left.2 right.2 found.4 found.5,
    )
core_has_no_more (Nest n a) flat s cs c i whole e h =
    let part = map_is (Nest n) (simple a flat) s e in
    let is = known s (Nest n part.0) cs c i whole part.2 h in
    let under =
    core_has_no_more a flat part.0 cs c (i + n) whole part.1 (
      is.1.0,
      is.1.2,
      render_same is.0 (Nest n is.1.0) c i false whole is.1.1 is.2,
    ) in
    (Nest n under.0, (under.0, refl, under.1), under.2)
core_has_no_more (Align a) flat s cs c i whole e h =
    let part = map_is Align (simple a flat) s e in
    let is = known s (Align part.0) cs c i whole part.2 h in
    let under =
    core_has_no_more a flat part.0 cs c c whole part.1 (
      is.1.0,
      is.1.2,
      render_same is.0 (Align is.1.0) c i false whole is.1.1 is.2,
    ) in
    (Align under.0, (under.0, refl, under.1), under.2)
core_has_no_more (Reset a) flat s cs c i whole e h =
    let part = map_is Reset (simple a flat) s e in
    let is = known s (Reset part.0) cs c i whole part.2 h in
    let under =
    core_has_no_more a flat part.0 cs c 0 whole part.1 (
      is.1.0,
      is.1.2,
      render_same is.0 (Reset is.1.0) c i false whole is.1.1 is.2,
    ) in
    (Reset under.0, (under.0, refl, under.1), under.2)
core_has_no_more (Flatten a) flat s cs c i whole e h =
    let under = core_has_no_more a true s cs c i whole e h in
    (Flatten under.0, (under.0, refl, under.1), under.2)
core_has_no_more (Choice a b) flat s cs c i whole e h =
    let side = choice_back (simple a flat) (simple b flat) s cs c i whole e h in
    elim side.1 [
      | inl k ↦ let under = core_has_no_more a flat k.1.0 side.0 c i whole k.1.1 k.1.2 in
          (under.0, (side.0, inl (k.0, under.1)), under.2)
      | inr k ↦ let under = core_has_no_more b flat k.1.0 side.0 c i whole k.1.1 k.1.2 in
          (under.0, (side.0, inr (k.0, under.1)), under.2)
    ]
core_has_no_more (Only dir a) flat s cs c i whole e h =
    let part = map_is (Only dir) (simple a flat) s e in
    let is = known s (Only dir part.0) cs c i whole part.2 h in
    let under = core_has_no_more a flat part.0 is.1.0 c i whole part.1 (is.0, is.1.2, is.2) in
    (under.0, (is.1.0, is.1.1, under.1), under.2)
core_has_no_more (Charge k a) flat s cs c i whole e h =
    let part = map_is (Charge k) (simple a flat) s e in
    let is = known s (Charge k part.0) cs c i whole part.2 h in
    let found =
    joined-is (laid (Fee k ∷ []) c) (render is.1.0 c i false) whole
    (render_same is.0 (Charge k is.1.0) c i false whole is.1.1 is.2) in
    let under = core_has_no_more a flat part.0 cs c i found.0 part.1 (is.1.0, is.1.2, found.1) in (
      Charge k under.0,
      (under.0, refl, under.1),
      joined-of (laid (Fee k ∷ []) c) found.0 whole
          (render under.0 c i flat) under.2 found.2 found.3,
    )

-- choices that pick a resolution with a layout
abbrev HasLayout : Doc → ℕ → ℕ → Bool → Type 0
HasLayout d c i flat = (cs : List Dir) × (whole : Laid) × LaidOutBy d cs c i flat whole

hard_has : (s : Doc) (c i : ℕ) (flat : Bool) → simple_hard flat ≡ Some s → HasLayout Hard c i flat
unfolding Picks render
hard_has s c i true e = cc
hard_has s c i false e = ([], laid (Break i ∷ []) i, (Hard, (refl, refl), refl))

-- the side that a choice with a core has a core for
side_of : (o p : Option Doc) (s : Doc) → simple_choice o p ≡ Some s →
    ((a : Doc) × (o ≡ Some a)) ⊎ ((b : Doc) × (p ≡ Some b))
side_of None None s e = cc
side_of None (Some b) s e = inr (b, refl)
side_of (Some a) p s e = inl (a, refl)

pub core_has_layout : (d : Doc) (flat : Bool) (s : Doc) (c i : ℕ) → simple d flat ≡ Some s → HasLayout d c i flat
unfolding Picks render simple
core_has_layout (Text t len) flat s c i e = ([], laid (Word c t len ∷ []) (c + len), (Text t len, (refl, refl), refl))
core_has_layout Newline flat s c i e = ([], newline_laid c i flat, (Newline, (refl, refl), refl))
core_has_layout Hard flat s c i e = hard_has s c i flat e
core_has_layout (Concat a b) flat s c i e =
    let parts = concat_is (simple a flat) (simple b flat) s e in
    let left = core_has_layout a flat parts.0 c i parts.2 in
    let right = core_has_layout b flat parts.1 left.1.last i parts.3 in
    let whole : Laid = laid (left.1.pieces ++ right.1.pieces) right.1.last in (
      left.0 ++ right.0,
      whole,
      (
        Concat left.2.0 right.2.0,
        (left.0, right.0, left.2.0, right.2.0, refl, refl, left.2.1, right.2.1),
        followed_by-of left.1 right.1 whole (render left.2.0 c i flat)
            (λ last. render right.2.0 last i flat) left.2.2 right.2.2 refl refl,
      ),
    )
core_has_layout (Nest n a) flat s c i e =
    let part = map_is (Nest n) (simple a flat) s e in
    let under = core_has_layout a flat part.0 c (i + n) part.1 in
    (under.0, under.1, (Nest n under.2.0, (under.2.0, refl, under.2.1), under.2.2))
core_has_layout (Align a) flat s c i e =
    let part = map_is Align (simple a flat) s e in
    let under = core_has_layout a flat part.0 c c part.1 in
    (under.0, under.1, (Align under.2.0, (under.2.0, refl, under.2.1), under.2.2))
core_has_layout (Reset a) flat s c i e =
    let part = map_is Reset (simple a flat) s e in
    let under = core_has_layout a flat part.0 c 0 part.1 in
    (under.0, under.1, (Reset under.2.0, (under.2.0, refl, under.2.1), under.2.2))
core_has_layout (Flatten a) flat s c i e =
    let under = core_has_layout a true s c i e in
    (under.0, under.1, (Flatten under.2.0, (under.2.0, refl, under.2.1), under.2.2))
core_has_layout (Choice a b) flat s c i e =
    elim (side_of (simple a flat) (simple b flat) s e) [
      | inl k ↦ let under = core_has_layout a flat k.0 c i k.1 in
          (Left ∷ under.0, under.1, (under.2.0, (under.0, inl (refl, under.2.1)), under.2.2))
      | inr k ↦ let under = core_has_layout b flat k.0 c i k.1 in
          (Right ∷ under.0, under.1, (under.2.0, (under.0, inr (refl, under.2.1)), under.2.2))
    ]
core_has_layout (Only dir a) flat s c i e =
    let part = map_is (Only dir) (simple a flat) s e in
    let under = core_has_layout a flat part.0 c i part.1 in
    (dir ∷ under.0, under.1, (under.2.0, (under.0, refl, under.2.1), under.2.2))
core_has_layout (Charge k a) flat s c i e =
    let part = map_is (Charge k) (simple a flat) s e in
    let under = core_has_layout a flat part.0 c i part.1 in
    let whole : Laid = laid (Fee k ∷ under.1.pieces) under.1.last in (
      under.0,
      whole,
      (
        Charge k under.2.0,
        (under.2.0, refl, under.2.1),
        joined-of (laid (Fee k ∷ []) c) under.1 whole (render under.2.0 c i flat) under.2.2 refl refl,
      ),
    )

pub keeps_layouts : (d : Doc) (flat : Bool) (cs : List Dir) (c i : ℕ) (whole : Laid) →
    LaidOutBy d cs c i flat whole ↔ CoreLaidOutBy (simple d flat) cs c i whole
keeps_layouts d flat cs c i whole = (
  λ h. core_keeps d flat cs h.0 c i whole h.1 h.2,
  λ h. core_has_no_more d flat h.0 cs c i whole h.1 h.2,
)

-- either there is none or one, and two different ones can't be
none_or_some : (o : Option Laid) → ((whole : Laid) → o ≡ Some whole → ⊥) → o ≡ None
none_or_some None h = refl
none_or_some (Some whole) h = absurd (h whole refl)

no_core_or : (o : Option Doc) → ((s : Doc) → o ≡ Some s → ⊥) → o ≡ None
no_core_or None h = refl
no_core_or (Some s) h = absurd (h s refl)

pub where_layout : (d : Doc) (flat : Bool) (c i : ℕ) →
    (simple d flat ≡ None) ↔ ((cs : List Dir) (e : Doc) → Picks d cs e → render e c i flat ≡ None)
where_layout d flat c i = (
  λ none cs e picks. none_or_some (render e c i flat) (λ whole r.
      let core = core_keeps d flat cs e c i whole picks r in
      let two : None ≡ Some core.0 = sym none ∙ core.1 in cc),
  λ none. no_core_or (simple d flat) (λ s e.
      let has = core_has_layout d flat s c i e in
      let two : None ≡ Some has.1 = sym (none has.0 has.2.0 has.2.1) ∙ has.2.2 in cc),
)

-- no core has a `Flatten` or a `Hard`
newline_is_core : (flat : Bool) → IsCore (simple_newline flat)
unfolding IsCore
newline_is_core true = tt
newline_is_core false = tt

hard_is_core : (flat : Bool) (s : Doc) → simple_hard flat ≡ Some s → IsCore s
unfolding IsCore
hard_is_core true s e = cc
hard_is_core false s e = let same : Newline ≡ s = cc in subst (λ (d : Doc). IsCore d) same tt

-- what holds of the core of a choice, where it holds of a side that is left alone and of a choice of both
pub choice_core : (P : Doc → Type 0) → ((dir : Dir) (a : Doc) → P a → P (Only dir a)) →
    ((a b : Doc) → P a → P b → P (Choice a b)) → (o p : Option Doc) (s : Doc) → ((a : Doc) → o ≡ Some a → P a) →
    ((b : Doc) → p ≡ Some b → P b) → simple_choice o p ≡ Some s → P s
choice_core P alone both None None s f g e = cc
choice_core P alone both None (Some b) s f g e =
    let same : Only Right b ≡ s = cc in subst P same (alone Right b (g b refl))
choice_core P alone both (Some a) None s f g e =
    let same : Only Left a ≡ s = cc in subst P same (alone Left a (f a refl))
choice_core P alone both (Some a) (Some b) s f g e =
    let same : Choice a b ≡ s = cc in subst P same (both a b (f a refl) (g b refl))

-- what holds of the core of a document of one part or of two, where it holds of what is made of the parts' cores
pub map_core : (P : Doc → Type 0) (f : Doc → Doc) (o : Option Doc) (s : Doc) → ((a : Doc) → o ≡ Some a → P (f a)) →
    option_map f o ≡ Some s → P s
map_core P f o s h e = let part = map_is f o s e in subst P (sym part.2) (h part.0 part.1)

pub concat_core : (P : Doc → Type 0) (o p : Option Doc) (s : Doc) →
    ((a b : Doc) → o ≡ Some a → p ≡ Some b → P (Concat a b)) → simple_concat o p ≡ Some s → P s
concat_core P o p s h e =
    let parts = concat_is o p s e in subst P (sym parts.4) (h parts.0 parts.1 parts.2 parts.3)

pub is_core : (d : Doc) (flat : Bool) (s : Doc) → simple d flat ≡ Some s → IsCore s
unfolding IsCore simple
is_core (Text t len) flat s e = let same : Text t len ≡ s = cc in subst (λ (d : Doc). IsCore d) same tt
is_core Newline flat s e =
    let same : simple_newline flat ≡ s = cc in subst (λ (d : Doc). IsCore d) same (newline_is_core flat)
is_core Hard flat s e = hard_is_core flat s e
is_core (Concat a b) flat s e =
    concat_core IsCore (simple a flat) (simple b flat) s (λ x y k l. (is_core a flat x k, is_core b flat y l)) e
is_core (Nest n a) flat s e = map_core IsCore (Nest n) (simple a flat) s (is_core a flat) e
is_core (Align a) flat s e = map_core IsCore Align (simple a flat) s (is_core a flat) e
is_core (Reset a) flat s e = map_core IsCore Reset (simple a flat) s (is_core a flat) e
is_core (Flatten a) flat s e = is_core a true s e
is_core (Choice a b) flat s e =
    choice_core IsCore (λ dir x k. k) (λ x y k l. (k, l)) (simple a flat) (simple b flat) s (is_core a flat)
    (is_core b flat) e
is_core (Only dir a) flat s e = map_core IsCore (Only dir) (simple a flat) s (is_core a flat) e
is_core (Charge k a) flat s e = map_core IsCore (Charge k) (simple a flat) s (is_core a flat) e
