-- Layouts at a place no further right and no deeper, and what they cost.
use Rattle.std.proofs.Common.{◌≡◌, ℕ, ◌+◌, ◌≤◌, Bool, true, false, List, [], ◌∷◌, ◌++◌, refl, sym, ◌∙◌, ap, subst, Option, Some, arith}
use Rattle.std.specs.Prelude.{⊤}
use Rattle.rf_base_document.specs.Document.{Doc, Text, Newline, Hard, Concat, Nest, Align, Reset, Flatten, Choice, Only, Charge, IsDocument}
use Rattle.rf_base_document.specs.Render.{Piece, Word, Break, Fee, Laid, laid, joined, followed_by, newline_laid, hard_laid, render, EndsWithin, EachEndsWithin, Within}
use Rattle.rf_base_document.proofs.Render.{joined-is, followed_by-is}
use Rattle.rf_base_cost.specs.Cost.{Costs, IsValue, AtMost, IsColumn, Lawful, piece_cost, cost_after, PieceIsCounted, PiecesAreCounted}
use Rattle.rf_base_cost.proofs.Sums.{piece_is_value}
use Rattle.rf_base_optimum.specs.Best.{CostsAtMost}

-- the first piece is the second no further right, no deeper or for no greater charge
abbrev pub IsBelow : Piece → Piece → Type 0
IsBelow (Word column s len) q = (other : ℕ) × (q ≡ Word other s len) × (column ≤ other)
IsBelow (Break indentation) q = (other : ℕ) × (q ≡ Break other) × (indentation ≤ other)
IsBelow (Fee k) q = (other : ℕ) × (q ≡ Fee other) × (k ≤ other)

-- each of the first pieces is the second in its place so
unfoldable pub AllBelow : List Piece → List Piece → Type 0
AllBelow [] [] = ⊤
AllBelow [] (q ∷ qs) = ⊥
AllBelow (p ∷ ps) [] = ⊥
AllBelow (p ∷ ps) (q ∷ qs) = IsBelow p q × AllBelow ps qs

pub below-append : (ps qs ps' qs' : List Piece) → AllBelow ps qs → AllBelow ps' qs' → AllBelow (ps ++ ps') (qs ++ qs')
unfolding AllBelow
below-append [] [] ps' qs' h k = k
below-append [] (q ∷ qs) ps' qs' h k = absurd h
below-append (p ∷ ps) [] ps' qs' h k = absurd h
below-append (p ∷ ps) (q ∷ qs) ps' qs' h k = (h.0, below-append ps qs ps' qs' h.1 k)

is_below-ends : (w : ℕ) (p q : Piece) → IsBelow p q → EndsWithin w q → EndsWithin w p
is_below-ends w (Word column s len) q h e =
    let ends : h.0 + len ≤ w = subst (λ (r : Piece). EndsWithin w r) h.1 e in
    let less : column ≤ h.0 = h.2 in omega arith
is_below-ends w (Break indentation) q h e =
    let ends : h.0 ≤ w = subst (λ (r : Piece). EndsWithin w r) h.1 e in
    let less : indentation ≤ h.0 = h.2 in omega arith
is_below-ends w (Fee k) q h e = tt

pub below-ends : (w : ℕ) (ps qs : List Piece) → AllBelow ps qs → EachEndsWithin w qs → EachEndsWithin w ps
unfolding AllBelow EachEndsWithin
below-ends w [] [] h e = tt
below-ends w [] (q ∷ qs) h e = absurd h
below-ends w (p ∷ ps) [] h e = absurd h
below-ends w (p ∷ ps) (q ∷ qs) h e = (is_below-ends w p q h.0 e.0, below-ends w ps qs h.1 e.1)

is_below-counted : (p q : Piece) → IsBelow p q → PieceIsCounted q → PieceIsCounted p
is_below-counted (Word column s len) q h e =
    let ends : h.0 + len ≤ 134217728 = subst (λ (r : Piece). PieceIsCounted r) h.1 e in
    let less : column ≤ h.0 = h.2 in omega arith
is_below-counted (Break indentation) q h e =
    let ends : h.0 ≤ 134217728 = subst (λ (r : Piece). PieceIsCounted r) h.1 e in
    let less : indentation ≤ h.0 = h.2 in omega arith
is_below-counted (Fee k) q h e =
    let ends : h.0 ≤ 1000 = subst (λ (r : Piece). PieceIsCounted r) h.1 e in let less : k ≤ h.0 = h.2 in omega arith

pub below-counted : (ps qs : List Piece) → AllBelow ps qs → PiecesAreCounted qs → PiecesAreCounted ps
unfolding AllBelow PiecesAreCounted
below-counted [] [] h e = tt
below-counted [] (q ∷ qs) h e = absurd h
below-counted (p ∷ ps) [] h e = absurd h
below-counted (p ∷ ps) (q ∷ qs) h e = (is_below-counted p q h.0 e.0, below-counted ps qs h.1 e.1)

-- a piece that is below another costs no more
is_below-cost : {C : Type 0} (costs : Costs C) (laws : Lawful costs) (p q : Piece) → IsBelow p q → PieceIsCounted q →
    AtMost costs (piece_cost costs p) (piece_cost costs q)
is_below-cost costs laws (Word column s len) q h e =
    subst (λ (r : Piece). AtMost costs (costs.text column len) (piece_cost costs r)) (sym h.1)
    (laws.further_right column h.0 len h.2 (subst (λ (r : Piece). PieceIsCounted r) h.1 e))
is_below-cost costs laws (Break indentation) q h e =
    subst (λ (r : Piece). AtMost costs (costs.newline indentation) (piece_cost costs r)) (sym h.1)
    (laws.deeper indentation h.0 h.2 (subst (λ (r : Piece). PieceIsCounted r) h.1 e))
is_below-cost costs laws (Fee k) q h e =
    subst (λ (r : Piece). AtMost costs (costs.charge k) (piece_cost costs r)) (sym h.1)
    (laws.dearer k h.0 h.2 (subst (λ (r : Piece). PieceIsCounted r) h.1 e))

after_below : {C : Type 0} (costs : Costs C) (laws : Lawful costs) (a b : C) (ps qs : List Piece) → IsValue costs a →
    IsValue costs b → AtMost costs a b →
    AllBelow ps qs → PiecesAreCounted ps → PiecesAreCounted qs →
    AtMost costs (cost_after costs a ps) (cost_after costs b qs)
unfolding AllBelow PiecesAreCounted cost_after
after_below costs laws a b [] [] u v le h m n = le
after_below costs laws a b [] (q ∷ qs) u v le h m n = absurd h
after_below costs laws a b (p ∷ ps) [] u v le h m n = absurd h
after_below costs laws a b (p ∷ ps) (q ∷ qs) u v le h m n =
    let pv = piece_is_value costs laws p m.0 in
    let qv = piece_is_value costs laws q n.0 in
    after_below costs laws (costs.add a (piece_cost costs p)) (costs.add b (piece_cost costs q)) ps qs
    (laws.add_is_value a (piece_cost costs p) u pv) (laws.add_is_value b (piece_cost costs q) v qv)
    (laws.monotone a b (piece_cost costs p) (piece_cost costs q) u v pv qv le
    (is_below-cost costs laws p q h.0 n.0)) h.1 m.1 n.1

-- pieces that are below others cost no more
pub below-cost : {C : Type 0} (costs : Costs C) (laws : Lawful costs) (ps qs : List Piece) → AllBelow ps qs →
    PiecesAreCounted qs → CostsAtMost costs ps qs
unfolding AllBelow PiecesAreCounted
below-cost costs laws [] qs h n a b e f = cc
below-cost costs laws (p ∷ ps) [] h n a b e f = absurd h
below-cost {C = C} costs laws (p ∷ ps) (q ∷ qs) h n a b e f =
    let m = is_below-counted p q h.0 n.0 in
    let ms = below-counted ps qs h.1 n.1 in
    let first : cost_after costs (piece_cost costs p) ps ≡ a = cc in
    let second : cost_after costs (piece_cost costs q) qs ≡ b = cc in
    let less : AtMost costs (cost_after costs (piece_cost costs p) ps) (cost_after costs (piece_cost costs q) qs) =
    after_below costs laws (piece_cost costs p) (piece_cost costs q) ps qs (piece_is_value costs laws p m)
    (piece_is_value costs laws q n.0)
    (is_below-cost costs laws p q h.0 n.0) h.1 ms n.1 in
    subst (λ (x : C). AtMost costs x b) first
    (subst (λ (x : C). AtMost costs (cost_after costs (piece_cost costs p) ps) x) second less)

-- pieces of two lists in a row
pub ends-apart : (w : ℕ) (ps qs : List Piece) → EachEndsWithin w (ps ++ qs) → EachEndsWithin w ps × EachEndsWithin w qs
unfolding EachEndsWithin
ends-apart w [] qs h = (tt, h)
ends-apart w (p ∷ ps) qs h = let rest = ends-apart w ps qs h.1 in ((h.0, rest.0), rest.1)

pub counted-append : (ps qs : List Piece) → PiecesAreCounted ps → PiecesAreCounted qs → PiecesAreCounted (ps ++ qs)
unfolding PiecesAreCounted
counted-append [] qs h k = k
counted-append (p ∷ ps) qs h k = (h.0, counted-append ps qs h.1 k)

newline_counted : (w c i : ℕ) (flat : Bool) → IsColumn w → EachEndsWithin w (newline_laid c i flat).pieces →
    PiecesAreCounted (newline_laid c i flat).pieces
unfolding EachEndsWithin PiecesAreCounted
newline_counted w c i true p h = let less : c + 1 ≤ w = h.0 in (omega arith, tt)
newline_counted w c i false p h = let less : i ≤ w = h.0 in (omega arith, tt)

same_laid : (P : Laid → Type 0) (x y : Laid) → Some x ≡ Some y → P x → P y
same_laid P x y e h = let same : x ≡ y = cc in subst P same h

hard_counted : (w i : ℕ) (flat : Bool) (whole : Laid) → IsColumn w → hard_laid i flat ≡ Some whole →
    EachEndsWithin w whole.pieces → PiecesAreCounted whole.pieces
unfolding EachEndsWithin PiecesAreCounted
hard_counted w i true whole p e h = cc
hard_counted w i false whole p e h =
    same_laid (λ (x : Laid). EachEndsWithin w x.pieces → PiecesAreCounted x.pieces) (laid (Break i ∷ []) i) whole e
    (λ k. let less : i ≤ w = k.0 in (omega arith, tt)) h

-- the laws hold for the pieces of a document's layout within w columns
pub render_counted : (e : Doc) (w c i : ℕ) (flat : Bool) (whole : Laid) → IsColumn w → IsDocument e →
    render e c i flat ≡ Some whole →
    EachEndsWithin w whole.pieces → PiecesAreCounted whole.pieces
unfolding render IsDocument EachEndsWithin PiecesAreCounted
render_counted (Text s len) w c i flat whole p d r h =
    same_laid (λ (x : Laid). EachEndsWithin w x.pieces → PiecesAreCounted x.pieces)
    (laid (Word c s len ∷ []) (c + len)) whole r
    (λ k. let less : c + len ≤ w = k.0 in (omega arith, tt)) h
render_counted Newline w c i flat whole p d r h =
    same_laid (λ (x : Laid). EachEndsWithin w x.pieces → PiecesAreCounted x.pieces) (newline_laid c i flat) whole r
    (λ k. newline_counted w c i flat p k) h
render_counted Hard w c i flat whole p d r h = hard_counted w i flat whole p r h
render_counted (Concat a b) w c i flat whole p d r h =
    let found = followed_by-is (render a c i flat) (λ last. render b last i flat) whole r in
    let apart =
    ends-apart w found.0.pieces found.1.pieces (subst (λ (ps : List Piece). EachEndsWithin w ps) found.4 h) in
    subst (λ (ps : List Piece). PiecesAreCounted ps) (sym found.4)
    (counted-append found.0.pieces found.1.pieces
    (render_counted a w c i flat found.0 p d.0 found.2 apart.0)
    (render_counted b w found.0.last i flat found.1 p d.1 found.3 apart.1))
render_counted (Nest n a) w c i flat whole p d r h = render_counted a w c (i + n) flat whole p d.1 r h
render_counted (Align a) w c i flat whole p d r h = render_counted a w c c flat whole p d r h
render_counted (Reset a) w c i flat whole p d r h = render_counted a w c 0 flat whole p d r h
render_counted (Flatten a) w c i flat whole p d r h = render_counted a w c i true whole p d r h
render_counted (Charge k a) w c i flat whole p d r h =
    let found = joined-is (laid (Fee k ∷ []) c) (render a c i flat) whole r in
    let apart = ends-apart w (Fee k ∷ []) found.0.pieces (subst (λ (ps : List Piece). EachEndsWithin w ps) found.2 h) in
    subst (λ (ps : List Piece). PiecesAreCounted ps) (sym found.2) (
      d.0,
      render_counted a w c i flat found.0 p d.1 found.1 apart.1,
    )
render_counted _ w c i flat whole p d r h = cc

-- a layout whose pieces are all below those of the whole, and which ends no further right
abbrev pub Below : Option Laid → Laid → Type 0
Below o whole = (other : Laid) × (o ≡ Some other) × AllBelow other.pieces whole.pieces × (other.last ≤ whole.last)

newline_shift : (c i c' i' : ℕ) (flat : Bool) → c' ≤ c → i' ≤ i →
    Below (Some (newline_laid c' i' flat)) (newline_laid c i flat)
unfolding AllBelow
newline_shift c i c' i' true p q = (newline_laid c' i' true, refl, ((c, refl, p), tt), omega arith)
newline_shift c i c' i' false p q = (newline_laid c' i' false, refl, ((i, refl, q), tt), q)

hard_shift : (i i' : ℕ) (flat : Bool) (whole : Laid) → i' ≤ i → hard_laid i flat ≡ Some whole →
    Below (hard_laid i' flat) whole
unfolding AllBelow
hard_shift i i' true whole q e = cc
hard_shift i i' false whole q e =
    same_laid (λ (x : Laid). Below (Some (laid (Break i' ∷ []) i')) x) (laid (Break i ∷ []) i) whole e
    (laid (Break i' ∷ []) i', refl, ((i, refl, q), tt), q)

-- a resolution at a place no further right and no deeper has a layout that is below
pub render_shift : (e : Doc) (c i c' i' : ℕ) (flat : Bool) (whole : Laid) → c' ≤ c → i' ≤ i →
    render e c i flat ≡ Some whole → Below (render e c' i' flat) whole
unfolding render AllBelow
render_shift (Text s len) c i c' i' flat whole p q r =
    same_laid (λ (x : Laid). Below (Some (laid (Word c' s len ∷ []) (c' + len))) x)
    (laid (Word c s len ∷ []) (c + len)) whole r
    (laid (Word c' s len ∷ []) (c' + len), refl, ((c, refl, p), tt), omega arith)
render_shift Newline c i c' i' flat whole p q r =
    same_laid (λ (x : Laid). Below (Some (newline_laid c' i' flat)) x) (newline_laid c i flat) whole r
    (newline_shift c i c' i' flat p q)
render_shift Hard c i c' i' flat whole p q r = hard_shift i i' flat whole q r
render_shift (Concat a b) c i c' i' flat whole p q r =
    let found = followed_by-is (render a c i flat) (λ last. render b last i flat) whole r in
    let left = render_shift a c i c' i' flat found.0 p q found.2 in
    let right = render_shift b found.0.last i left.0.last i' flat found.1 left.3 q found.3 in (
      laid (left.0.pieces ++ right.0.pieces) right.0.last,
      ap (λ (o : Option Laid). followed_by o (λ last. render b last i' flat)) left.1
          ∙ ap (λ (o : Option Laid). joined left.0 o) right.1,
      subst (λ (ps : List Piece). AllBelow (left.0.pieces ++ right.0.pieces) ps) (sym found.4)
          (below-append left.0.pieces found.0.pieces right.0.pieces found.1.pieces left.2 right.2),
      subst (λ (n : ℕ). right.0.last ≤ n) (sym found.5) right.3,
    )
render_shift (Nest n a) c i c' i' flat whole p q r = render_shift a c (i + n) c' (i' + n) flat whole p (omega arith) r
render_shift (Align a) c i c' i' flat whole p q r = render_shift a c c c' c' flat whole p p r
render_shift (Reset a) c i c' i' flat whole p q r = render_shift a c 0 c' 0 flat whole p (omega arith) r
render_shift (Flatten a) c i c' i' flat whole p q r = render_shift a c i c' i' true whole p q r
render_shift (Charge k a) c i c' i' flat whole p q r =
    let found = joined-is (laid (Fee k ∷ []) c) (render a c i flat) whole r in
    let part = render_shift a c i c' i' flat found.0 p q found.1 in (
      laid (Fee k ∷ part.0.pieces) part.0.last,
      ap (λ (o : Option Laid). joined (laid (Fee k ∷ []) c') o) part.1,
      subst (λ (ps : List Piece). AllBelow (Fee k ∷ part.0.pieces) ps) (sym found.2) ((k, refl, omega arith), part.2),
      subst (λ (n : ℕ). part.0.last ≤ n) (sym found.3) part.3,
    )
render_shift _ c i c' i' flat whole p q r = cc

-- what is within at a place is within too no further right and no deeper, ends no further right there and costs no more
pub shift_keeps_within : {C : Type 0} (costs : Costs C) (laws : Lawful costs) (w : ℕ) (e : Doc) (c i c' i' : ℕ)
    (flat : Bool) (whole : Laid) →
    IsColumn w → IsDocument e → c' ≤ c → i' ≤ i → render e c i flat ≡ Some whole → Within c whole.pieces w →
    (other : Laid) × (render e c' i' flat ≡ Some other) × Within c' other.pieces w × (other.last ≤ whole.last)
    × CostsAtMost costs other.pieces whole.pieces
shift_keeps_within costs laws w e c i c' i' flat whole p d q q' r h =
    let below = render_shift e c i c' i' flat whole q q' r in
    let begins : c ≤ w = h.0 in (
      below.0,
      below.1,
      (omega arith, below-ends w below.0.pieces whole.pieces below.2 h.1),
      below.3,
      below-cost costs laws below.0.pieces whole.pieces below.2 (render_counted e w c i flat whole p d r h.1),
    )
