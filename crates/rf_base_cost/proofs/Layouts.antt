-- The pieces of layouts: that there is one, and that they are counted.
use Rattle.std.proofs.Common.{◌≡◌, ℕ, ◌+◌, ◌*◌, ◌≤◌, Bool, true, false, List, [], ◌∷◌, ◌++◌, length, length-append, refl, sym, subst, Some, IsSome, arith}
use Rattle.std.proofs.Math.ListN.{replicate}
use Rattle.std.proofs.lemmas.List.{length-replicate}
use Rattle.rf_base_document.specs.declared.limits.TheConstants.{LAYOUT_LIMIT}
use Rattle.rf_base_document.specs.Document.{Doc, Text, Newline, Hard, Concat, Nest, Align, Reset, Flatten, Choice, Only, Charge, IsDocument}
use Rattle.rf_base_document.specs.Render.{Piece, Word, Break, Fee, Laid, laid, newline_laid, hard_laid, render, layout, WordsRun}
use Rattle.rf_base_document.proofs.Render.{joined-is, followed_by-is}
use Rattle.rf_base_document.proofs.Running.{layout_runs, layout_pieces}
use Rattle.rf_base_cost.specs.Cost.{Costs, IsColumn, cost_of, PiecesAreCounted}

-- pieces of which there is one have a cost
has_cost : {C : Type 0} (costs : Costs C) (ps : List Piece) → 1 ≤ length ps → IsSome (cost_of costs ps)
has_cost costs [] h = absurd (omega arith)
has_cost costs (p ∷ ps) h = refl

pub layout_has_cost : {C : Type 0} (costs : Costs C) (e : Doc) (c i : ℕ) (flat : Bool) (whole : Laid) →
    render e c i flat ≡ Some whole →
    IsSome (cost_of costs whole.pieces)
layout_has_cost costs e c i flat whole h =
    let found = layout_pieces e c i flat whole h in has_cost costs whole.pieces (omega (arith, found.0, found.1))

-- the piece keeps the limits of the document that it is of
pub PieceKeepsLimits : Piece → Type 0
PieceKeepsLimits (Word column s len) = len ≤ 2 * length s
PieceKeepsLimits (Break indentation) = Unit {0}
PieceKeepsLimits (Fee k) = k ≤ 1000

-- each of the pieces does
pub EachKeepsLimits : List Piece → Type 0
EachKeepsLimits [] = Unit {0}
EachKeepsLimits (p ∷ ps) = PieceKeepsLimits p × EachKeepsLimits ps

EachKeepsLimits-append : (ps qs : List Piece) → EachKeepsLimits ps → EachKeepsLimits qs → EachKeepsLimits (ps ++ qs)
unfolding EachKeepsLimits
EachKeepsLimits-append [] qs h k = k
EachKeepsLimits-append (p ∷ ps) qs h k = (h.0, EachKeepsLimits-append ps qs h.1 k)

same_limits : (x y : Laid) → Some x ≡ Some y → EachKeepsLimits x.pieces → EachKeepsLimits y.pieces
same_limits x y e h = let same : x ≡ y = cc in subst (λ (l : Laid). EachKeepsLimits l.pieces) same h

newline_limits : (c i : ℕ) (flat : Bool) → EachKeepsLimits (newline_laid c i flat).pieces
unfolding EachKeepsLimits PieceKeepsLimits
newline_limits c i true = (omega arith, tt)
newline_limits c i false = (tt, tt)

hard_limits : (i : ℕ) (flat : Bool) (whole : Laid) → hard_laid i flat ≡ Some whole → EachKeepsLimits whole.pieces
unfolding EachKeepsLimits PieceKeepsLimits
hard_limits i true whole e = cc
hard_limits i false whole e = same_limits (laid (Break i ∷ []) i) whole e (tt, tt)

pieces_keep : (e : Doc) (c i : ℕ) (flat : Bool) (whole : Laid) → IsDocument e → render e c i flat ≡ Some whole →
    EachKeepsLimits whole.pieces
unfolding render IsDocument EachKeepsLimits PieceKeepsLimits
pieces_keep (Text s len) c i flat whole d e = same_limits (laid (Word c s len ∷ []) (c + len)) whole e (d.1, tt)
pieces_keep Newline c i flat whole d e = same_limits (newline_laid c i flat) whole e (newline_limits c i flat)
pieces_keep Hard c i flat whole d e = hard_limits i flat whole e
pieces_keep (Concat a b) c i flat whole d e =
    let found = followed_by-is (render a c i flat) (λ last. render b last i flat) whole e in
    subst EachKeepsLimits (sym found.4)
    (EachKeepsLimits-append found.0.pieces found.1.pieces (pieces_keep a c i flat found.0 d.0 found.2)
    (pieces_keep b found.0.last i flat found.1 d.1 found.3))
pieces_keep (Nest n a) c i flat whole d e = pieces_keep a c (i + n) flat whole d.1 e
pieces_keep (Align a) c i flat whole d e = pieces_keep a c c flat whole d e
pieces_keep (Reset a) c i flat whole d e = pieces_keep a c 0 flat whole d e
pieces_keep (Flatten a) c i flat whole d e = pieces_keep a c i true whole d e
pieces_keep (Charge k a) c i flat whole d e =
    let found = joined-is (laid (Fee k ∷ []) c) (render a c i flat) whole e in
    subst EachKeepsLimits (sym found.2) (d.0, pieces_keep a c i flat found.0 d.1 found.1)
pieces_keep _ c i flat whole d e = cc

-- pieces that run on from a column, of at most two for each of the n characters before it, are counted
counted_from : (c n : ℕ) (ps : List Piece) → c ≤ 2 * n → WordsRun c ps → EachKeepsLimits ps →
    n + length (layout ps) ≤ LAYOUT_LIMIT → PiecesAreCounted ps
unfolding WordsRun EachKeepsLimits PieceKeepsLimits layout PiecesAreCounted
counted_from c n [] near runs keep short = tt
counted_from c n (Word at s len ∷ ps) near runs keep short =
    let size = length-append s (layout ps) in
    let ends : IsColumn (at + len) = omega (arith, runs.0, keep.0, size) in
    (ends, counted_from (c + len) (n + length s) ps (omega (arith, keep.0)) runs.1 keep.1 (omega (arith, size)))
counted_from c n (Break indentation ∷ ps) near runs keep short =
    let size = length-append (10 ∷ replicate indentation 32) (layout ps) in
    let spaces = length-replicate {A = ℕ} indentation 32 in
    let ends : IsColumn indentation = omega (arith, size, spaces) in
    (ends, counted_from indentation (n + (1 + indentation)) ps (omega arith) runs keep.1 (omega (arith, size, spaces)))
counted_from c n (Fee k ∷ ps) near runs keep short = (keep.0, counted_from c n ps near runs keep.1 short)

pub layout_is_counted : (e : Doc) (flat : Bool) (whole : Laid) → IsDocument e → render e 0 0 flat ≡ Some whole →
    length (layout whole.pieces) ≤ LAYOUT_LIMIT → PiecesAreCounted whole.pieces
layout_is_counted e flat whole d h short =
    counted_from 0 0 whole.pieces (omega arith) (layout_runs e 0 0 flat whole h).0 (pieces_keep e 0 0 flat whole d h)
    (omega arith)
