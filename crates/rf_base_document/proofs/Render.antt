-- Where a document has a layout, and how far right its layout goes.
use Rattle.std.proofs.Common.{◌≡◌, ℕ, ◌+◌, ◌≤◌, max, Bool, true, false, List, [], ◌∷◌, ◌++◌, refl, sym, ◌∙◌, ap, subst, Option, Some, None, IsSome, append_assoc, arith}
use Rattle.std.proofs.Math.Nat.{le-max_left, le-max_right}
use Rattle.rf_base_document.specs.Document.{Doc, Text, Newline, Hard, Concat, Nest, Align, Reset, Flatten, Choice, Only, Charge, width_of}
use Rattle.rf_base_document.specs.Render.{Piece, Word, Break, Fee, Laid, laid, joined, followed_by, newline_laid, hard_laid, render, layout, piece_text, EndsWithin, EachEndsWithin, Within}

-- a layout and what follows it, where they are joined
pub joined-is : (first : Laid) (o : Option Laid) (whole : Laid) → joined first o ≡ Some whole →
    (second : Laid) × (o ≡ Some second) × (whole.pieces ≡ first.pieces ++ second.pieces) × (whole.last ≡ second.last)
joined-is first None whole e = cc
joined-is first (Some second) whole e =
    let same : laid (first.pieces ++ second.pieces) second.last ≡ whole = cc in
    (second, refl, ap (λ (w : Laid). w.pieces) (sym same), ap (λ (w : Laid). w.last) (sym same))

pub followed_by-is : (o : Option Laid) (rest : ℕ → Option Laid) (whole : Laid) → followed_by o rest ≡ Some whole →
    (first : Laid) × (second : Laid) × (o ≡ Some first) × (rest first.last ≡ Some second)
    × (whole.pieces ≡ first.pieces ++ second.pieces) × (whole.last ≡ second.last)
followed_by-is None rest whole e = cc
followed_by-is (Some first) rest whole e =
    let found = joined-is first (rest first.last) whole e in
    (first, found.0, refl, found.1, found.2, found.3)

-- where there is a layout there is one of the parts, and the other way round
some_joined : (first : Laid) (o : Option Laid) → IsSome (joined first o) → IsSome o
some_joined first None h = h
some_joined first (Some second) h = refl

joined_some : (first : Laid) (o : Option Laid) → IsSome o → IsSome (joined first o)
joined_some first None h = h
joined_some first (Some second) h = refl

some_first : (o : Option Laid) (rest : ℕ → Option Laid) → IsSome (followed_by o rest) → IsSome o
some_first None rest h = h
some_first (Some first) rest h = refl

some_second : (o : Option Laid) (rest : ℕ → Option Laid) → IsSome (followed_by o rest) → (last : ℕ) × IsSome (rest last)
some_second None rest h = cc
some_second (Some first) rest h = (first.last, some_joined first (rest first.last) h)

both_some : (o : Option Laid) (rest : ℕ → Option Laid) → IsSome o → ((last : ℕ) → IsSome (rest last)) →
    IsSome (followed_by o rest)
both_some None rest h k = h
both_some (Some first) rest h k = joined_some first (rest first.last) (k first.last)

hard_anywhere : (i j : ℕ) (flat : Bool) → IsSome (hard_laid i flat) → IsSome (hard_laid j flat)
hard_anywhere i j true h = h
hard_anywhere i j false h = refl

pub render_anywhere : (d : Doc) (c i c' i' : ℕ) (flat : Bool) → IsSome (render d c i flat) →
    IsSome (render d c' i' flat)
unfolding render
render_anywhere Hard c i c' i' flat h = hard_anywhere i i' flat h
render_anywhere (Concat a b) c i c' i' flat h =
    let second = some_second (render a c i flat) (λ last. render b last i flat) h in
    both_some (render a c' i' flat) (λ last. render b last i' flat)
    (render_anywhere a c i c' i' flat (some_first (render a c i flat) (λ last. render b last i flat) h))
    (λ last. render_anywhere b second.0 i last i' flat second.1)
render_anywhere (Nest n a) c i c' i' flat h = render_anywhere a c (i + n) c' (i' + n) flat h
render_anywhere (Align a) c i c' i' flat h = render_anywhere a c c c' c' flat h
render_anywhere (Reset a) c i c' i' flat h = render_anywhere a c 0 c' 0 flat h
render_anywhere (Flatten a) c i c' i' flat h = render_anywhere a c i c' i' true h
render_anywhere (Choice a b) c i c' i' flat h = h
render_anywhere (Only dir a) c i c' i' flat h = h
render_anywhere (Charge k a) c i c' i' flat h =
    joined_some (laid (Fee k ∷ []) c') (render a c' i' flat)
    (render_anywhere a c i c' i' flat (some_joined (laid (Fee k ∷ []) c) (render a c i flat) h))
render_anywhere _ c i c' i' flat h = refl

-- pieces that end within v end within a greater w, and so do two lists in a row
pub EachEndsWithin-append : (w : ℕ) (ps qs : List Piece) → EachEndsWithin w ps → EachEndsWithin w qs →
    EachEndsWithin w (ps ++ qs)
unfolding EachEndsWithin
EachEndsWithin-append w [] qs h k = k
EachEndsWithin-append w (p ∷ ps) qs h k = (h.0, EachEndsWithin-append w ps qs h.1 k)

EndsWithin-le : (v w : ℕ) (p : Piece) → v ≤ w → EndsWithin v p → EndsWithin w p
EndsWithin-le v w (Fee k) le h = tt
EndsWithin-le v w _ le h = omega arith

pub EachEndsWithin-le : (v w : ℕ) (ps : List Piece) → v ≤ w → EachEndsWithin v ps → EachEndsWithin w ps
unfolding EachEndsWithin
EachEndsWithin-le v w [] le h = h
EachEndsWithin-le v w (p ∷ ps) le h = (EndsWithin-le v w p le h.0, EachEndsWithin-le v w ps le h.1)

-- a layout that stays within w columns and ends there
pub record Fits (w : ℕ) (whole : Laid) : Type 0 where
  pub pieces : EachEndsWithin w whole.pieces
  pub last : whole.last ≤ w

same_fits : (w : ℕ) (x y : Laid) → Some x ≡ Some y → Fits w x → Fits w y
same_fits w x y e h = let same : x ≡ y = cc in subst (λ (z : Laid). Fits w z) same h

joined_fits : (w : ℕ) (first second whole : Laid) → whole.pieces ≡ first.pieces ++ second.pieces →
    whole.last ≡ second.last →
    EachEndsWithin w first.pieces → Fits w second → Fits w whole
joined_fits w first second whole e f h k = record {
  pieces =
      subst (λ (ps : List Piece). EachEndsWithin w ps) (sym e)
      (EachEndsWithin-append w first.pieces second.pieces h k.pieces);
  last = subst (λ (n : ℕ). n ≤ w) (sym f) k.last;
}

newline_fits : (m c i : ℕ) (flat : Bool) → c ≤ m → i ≤ m → Fits (m + 1) (newline_laid c i flat)
unfolding EachEndsWithin
newline_fits m c i true p q = record { pieces = (omega arith, tt); last = omega arith }
newline_fits m c i false p q = record { pieces = (omega arith, tt); last = omega arith }

hard_fits : (m i : ℕ) (flat : Bool) (whole : Laid) → i ≤ m → hard_laid i flat ≡ Some whole → Fits (m + 0) whole
unfolding EachEndsWithin
hard_fits m i true whole q e = cc
hard_fits m i false whole q e =
    same_fits (m + 0) (laid (Break i ∷ []) i) whole e (record { pieces = (omega arith, tt); last = omega arith })

-- a layout begun at a column and an indentation of at most m passes m by no more than the document's width
pub render_fits : (d : Doc) (m c i : ℕ) (flat : Bool) (whole : Laid) → c ≤ m → i ≤ m → render d c i flat ≡ Some whole →
    Fits (m + width_of d) whole
unfolding render width_of EachEndsWithin
render_fits (Text s len) m c i flat whole p q e =
    same_fits (m + len) (laid (Word c s len ∷ []) (c + len)) whole e (record {
      pieces = (omega arith, tt);
      last = omega arith;
    })
render_fits Newline m c i flat whole p q e =
    same_fits (m + 1) (newline_laid c i flat) whole e (newline_fits m c i flat p q)
render_fits Hard m c i flat whole p q e = hard_fits m i flat whole q e
render_fits (Concat a b) m c i flat whole p q e =
    let found = followed_by-is (render a c i flat) (λ last. render b last i flat) whole e in
    let left : Fits (m + width_of a) found.0 = render_fits a m c i flat found.0 p q found.2 in
    let right : Fits (m + width_of a + width_of b) found.1 =
    render_fits b (m + width_of a) found.0.last i flat found.1 left.last (omega arith) found.3 in
    let right' : Fits (m + (width_of a + width_of b)) found.1 =
    subst (λ (n : ℕ). Fits n found.1) (omega arith) right in
    joined_fits (m + (width_of a + width_of b)) found.0 found.1 whole found.4 found.5
    (EachEndsWithin-le (m + width_of a) (m + (width_of a + width_of b)) found.0.pieces (omega arith) left.pieces) right'
render_fits (Nest n a) m c i flat whole p q e =
    subst (λ (w : ℕ). Fits w whole) (omega arith)
    (render_fits a (m + n) c (i + n) flat whole (omega arith) (omega arith) e)
render_fits (Align a) m c i flat whole p q e = render_fits a m c c flat whole p p e
render_fits (Reset a) m c i flat whole p q e = render_fits a m c 0 flat whole p (omega arith) e
render_fits (Flatten a) m c i flat whole p q e = render_fits a m c i true whole p q e
render_fits (Charge k a) m c i flat whole p q e =
    let found = joined-is (laid (Fee k ∷ []) c) (render a c i flat) whole e in
    joined_fits (m + width_of a) (laid (Fee k ∷ []) c) found.0 whole found.2 found.3 (tt, tt)
    (render_fits a m c i flat found.0 p q found.1)
render_fits _ m c i flat whole p q e = cc

pub render_within : (d : Doc) (c i : ℕ) (flat : Bool) (whole : Laid) → render d c i flat ≡ Some whole →
    Within c whole.pieces (max c i + width_of d) × (whole.last ≤ max c i + width_of d)
render_within d c i flat whole e =
    let fits : Fits (max c i + width_of d) whole =
    render_fits d (max c i) c i flat whole (le-max_left c i) (le-max_right c i) e in
    let begins : c ≤ max c i + width_of d = omega (arith, le-max_left c i) in
    ((begins, fits.pieces), fits.last)

-- the text of two lists of pieces in a row
pub layout-append : (ps qs : List Piece) → layout (ps ++ qs) ≡ layout ps ++ layout qs
unfolding layout
layout-append [] qs = refl
layout-append (p ∷ ps) qs =
    ap (λ t. piece_text p ++ t) (layout-append ps qs) ∙ sym (append_assoc (piece_text p) (layout ps) (layout qs))
