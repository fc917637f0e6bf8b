-- Walks one after another.
use Rattle.std.proofs.Common.{◌≡◌, ℕ, ◌+◌, ◌≤◌, List, [], ◌∷◌, ◌++◌, length, length-append, Option, None, Some, ap, sym, ◌∙◌, refl, append_assoc, append-nil, arith}
use Rattle.rf_base_document.specs.declared.directions.Dir.{Dir}
use Rattle.rf_base_document.specs.Render.{Piece, layout, piece_text}
use Rattle.rf_base_document.proofs.Render.{layout-append}
use Rattle.rf_base_document.specs.Document.{Doc}
use Rattle.rf_walk.specs.declared.walking.Frame.{Frame}
use Rattle.rf_walk.specs.Walked.{Walked, walked, and_walked, then_walked, walk_frame, walk_all, Ending, ending, ended}

and_walked-assoc : (x y : Walked) (o : Option Walked) →
    and_walked (walked (x.pieces ++ y.pieces) y.last (x.weight + y.weight) y.left) o ≡ and_walked x (and_walked y o)
and_walked-assoc x y None = refl
and_walked-assoc x y (Some z) =
    let sum : x.weight + y.weight + z.weight ≡ x.weight + (y.weight + z.weight) = omega arith in
    ap (λ ps. Some (walked ps z.last (x.weight + y.weight + z.weight) z.left)) (append_assoc x.pieces y.pieces z.pieces)
    ∙ ap (λ n. Some (walked (x.pieces ++ (y.pieces ++ z.pieces)) z.last n z.left)) sum

-- a first part, and what follows all
pub and_then : (x : Walked) (o : Option Walked) (g : ℕ → List Dir → Option Walked) → then_walked (and_walked x o) g ≡ and_walked x (then_walked o g)
and_then x None g = refl
and_then x (Some y) g = and_walked-assoc x y (g y.last y.left)

pub then_walked-assoc : (o : Option Walked) (f g : ℕ → List Dir → Option Walked) →
    then_walked (then_walked o f) g ≡ then_walked o (λ last left. then_walked (f last left) g)
then_walked-assoc None f g = refl
then_walked-assoc (Some x) f g = and_then x (f x.last x.left) g

pub then_walked-same : (o : Option Walked) (f g : ℕ → List Dir → Option Walked) → ((last : ℕ) (left : List Dir) → f last left ≡ g last left) → then_walked o f ≡ then_walked o g
then_walked-same None f g same = refl
then_walked-same (Some x) f g same = ap (λ o. and_walked x o) (same x.last x.left)

-- nothing before a walk, and nothing after it
after_nothing : (c : ℕ) (cs : List Dir) (o : Option Walked) → and_walked (walked [] c 0 cs) o ≡ o
after_nothing c cs None = refl
after_nothing c cs (Some x) = let sum : 0 + x.weight ≡ x.weight = omega arith in ap (λ n. Some (walked x.pieces x.last n x.left)) sum

before_nothing : (o : Option Walked) → then_walked o (λ last left. Some (walked [] last 0 left)) ≡ o
before_nothing None = refl
before_nothing (Some x) =
    let sum : x.weight + 0 ≡ x.weight = omega arith in
    ap (λ ps. Some (walked ps x.last (x.weight + 0) x.left)) (append-nil x.pieces) ∙ ap (λ n. Some (walked x.pieces x.last n x.left)) sum

-- the last frame is the first to be walked
pub walk_all-snoc : {N : Type 0} (doc : N → Doc) (fs : List (Frame N)) (f : Frame N) (c : ℕ) (cs : List Dir) →
    walk_all doc (fs ++ f ∷ []) c cs ≡ then_walked (walk_frame doc f c cs) (λ last left. walk_all doc fs last left)
unfolding walk_all
walk_all-snoc doc [] f c cs =
    after_nothing c cs (walk_frame doc f c cs) ∙ sym (before_nothing (walk_frame doc f c cs))
walk_all-snoc doc (x ∷ fs) f c cs =
    ap (λ o. then_walked o (λ last left. walk_frame doc x last left)) (walk_all-snoc doc fs f c cs)
    ∙ then_walked-assoc (walk_frame doc f c cs) (λ last left. walk_all doc fs last left) (λ last left. walk_frame doc x last left)

-- what was walked before stands already
pub ended-after : (ps : List Piece) (n : ℕ) (x : Walked) (o : Option Walked) → ended ps n (and_walked x o) ≡ ended (ps ++ x.pieces) (n + x.weight) o
ended-after ps n x None = refl
ended-after ps n x (Some y) =
    let sum : n + (x.weight + y.weight) ≡ n + x.weight + y.weight = omega arith in
    ap (λ l. Some (ending l (n + (x.weight + y.weight)) y.left)) (sym (append_assoc ps x.pieces y.pieces))
    ∙ ap (λ k. Some (ending (ps ++ x.pieces ++ y.pieces) k y.left)) sum

pub layout_one : (p : Piece) → layout (p ∷ []) ≡ piece_text p
unfolding layout
layout_one p = append-nil (piece_text p)

pub layout_length : (ps qs : List Piece) → length (layout (ps ++ qs)) ≡ length (layout ps) + length (layout qs)
layout_length ps qs = ap (λ (l : List ℕ). length l) (layout-append ps qs) ∙ length-append (layout ps) (layout qs)

-- the ending has at least what stands already
pub ended_least : (ps : List Piece) (n : ℕ) (o : Option Walked) (end : Ending) → ended ps n o ≡ Some end →
    (length (layout ps) ≤ length (layout end.pieces)) × (n ≤ end.weight)
ended_least ps n None end e = cc
ended_least ps n (Some x) end e =
    let same : ending (ps ++ x.pieces) (n + x.weight) x.left ≡ end = cc in
    let pieces : length (layout (ps ++ x.pieces)) ≡ length (layout end.pieces) = ap (λ (d : Ending). length (layout d.pieces)) same in
    let weight : n + x.weight ≡ end.weight = ap (λ (d : Ending). d.weight) same in
    (omega (arith, pieces, layout_length ps x.pieces), omega (arith, weight))

-- a walk that nothing follows
pub then_walked-none : {N : Type 0} (doc : N → Doc) (o : Option Walked) → then_walked o (λ last left. walk_all doc [] last left) ≡ o
unfolding walk_all
then_walked-none doc o = before_nothing o
