-- A cell's document depends on its own pieces and on the cells before it alone.
use Rattle.std.proofs.Common.{◌≡◌, ℕ, zero, suc, ◌+◌, ◌-◌, ◌≤◌, ◌<◌, List, [], ◌∷◌, ◌++◌, length, map, take, drop, refl, sym, inl, inr, ◌∙◌, ap, ap₂, subst, Option, Some, None, slice_get, arith}
use Rattle.std.proofs.Math.Path.{fun_ext}
use Rattle.std.proofs.lemmas.List.{length-append, length-drop, drop_at}
use Rattle.std.proofs.Math.Seq.{take-append-le, drop-append-le, take-length}
use Rattle.std.proofs.lemmas.List.Elements.{All-nil, All-head, All-tail, All-weaker, All-same}
use Rattle.std.specs.List.{All, slice_range}
use Rattle.rf_base_document.specs.Document.{Doc, plain_text}
use Rattle.rf_rows.specs.declared.pieces.Fill.{Fill}
use Rattle.rf_rows.specs.declared.pieces.Piece.{Piece}
use Rattle.rf_rows.specs.declared.pieces.Piece.TheVariants.{Text, Space, Newline, Hard, BareBreak, Gap, Cell}
use Rattle.rf_rows.specs.declared.cells.Cell as declared
use Rattle.rf_base_document.proofs.Graph.{slice_get-added}
use Rattle.rf_rows.specs.Layouts.{Filled, cell_doc, AreMarks, AreCellLayouts}
use Rattle.rf_rows.specs.Cells.{piece_doc, filled_by, pieces_of, told_cell, cell_to, cell_at, IsBelow, CellStands, CellsStand}

-- pieces are the same documents where the cells that they name are told alike
same_piece : (f g : ℕ → Doc) (k : ℕ) → ((j : ℕ) → j < k → f j ≡ g j) → (fill : Fill) (p : Piece) → IsBelow k p → piece_doc f fill p ≡ piece_doc g fill p
same_piece f g k same fill (Cell j) below = same j below
same_piece f g k same fill _ below = refl

pub same_pieces : (f g : ℕ → Doc) (k : ℕ) → ((j : ℕ) → j < k → f j ≡ g j) → (fill : Fill) (ps : List Piece) → All (IsBelow k) ps →
    map (piece_doc f fill) ps ≡ map (piece_doc g fill) ps
same_pieces f g k same fill [] below = refl
same_pieces f g k same fill (p ∷ ps) below =
    ap₂ (λ (d : Doc) (ds : List Doc). d ∷ ds) (same_piece f g k same fill p (All-head (IsBelow k) p ps below))
    (same_pieces f g k same fill ps (All-tail (IsBelow k) p ps below))

pub same_filled : (f g : ℕ → Doc) (k : ℕ) → ((j : ℕ) → j < k → f j ≡ g j) → (ps : List Piece) → All (IsBelow k) ps → filled_by f ps ≡ filled_by g ps
same_filled f g k same ps below = fun_ext (λ fill. same_pieces f g k same fill ps below)

-- a cell, by its pieces in two lists of pieces
same_told : (f g : ℕ → Doc) (ps qs : List Piece) (k : ℕ) (c : declared.Cell) → ((j : ℕ) → j < k → f j ≡ g j) → All (IsBelow k) (pieces_of ps c) →
    pieces_of qs c ≡ pieces_of ps c → told_cell f ps (Some c) ≡ told_cell g qs (Some c)
same_told f g ps qs k c same below is =
    ap (λ (r : Filled). cell_doc c.marks c.count r c.layouts)
    (same_filled f g k same (pieces_of ps c) below ∙ ap (λ (xs : List Piece). filled_by g xs) (sym is))

-- whatever cell stands there, if any
same_found : (f g : ℕ → Doc) (ps qs : List Piece) (k : ℕ) (o : Option declared.Cell) → ((j : ℕ) → j < k → f j ≡ g j) →
    ((c : declared.Cell) → o ≡ Some c → All (IsBelow k) (pieces_of ps c) × (pieces_of qs c ≡ pieces_of ps c)) → told_cell f ps o ≡ told_cell g qs o
same_found f g ps qs k None same there = refl
same_found f g ps qs k (Some c) same there = let is = there c refl in same_told f g ps qs k c same is.0 is.1

-- deep enough, it is the same however deep
enough : (ps : List Piece) (cs : List declared.Cell) → CellsStand ps cs → (d e k : ℕ) → k < d → k < e → cell_to d ps cs k ≡ cell_to e ps cs k
unfolding cell_to CellsStand
enough ps cs stand zero e k p q = absurd (omega (arith, p))
enough ps cs stand (suc d) zero k p q = absurd (omega (arith, q))
enough ps cs stand (suc d) (suc e) k p q =
    same_found (cell_to d ps cs) (cell_to e ps cs) ps ps k (slice_get cs k)
    (λ j less. enough ps cs stand d e j (omega (arith, less, p)) (omega (arith, less, q))) (λ c is. ((stand k c is).below, refl))

-- a cell, by its pieces and the cells before it
pub cell_unfolds : (ps : List Piece) (cs : List declared.Cell) (k : ℕ) (c : declared.Cell) → CellsStand ps cs → slice_get cs k ≡ Some c →
    cell_at ps cs k ≡ told_cell (cell_at ps cs) ps (Some c)
unfolding cell_at cell_to CellsStand
cell_unfolds ps cs k c stand is =
    ap (λ (o : Option declared.Cell). told_cell (cell_to k ps cs) ps o) is
    ∙ same_told (cell_to k ps cs) (cell_at ps cs) ps ps k c (λ j less. enough ps cs stand k (suc j) j less (omega arith)) (stand k c is).below refl

pub no_cell : (ps : List Piece) (cs : List declared.Cell) (k : ℕ) → slice_get cs k ≡ None → cell_at ps cs k ≡ plain_text []
unfolding cell_at cell_to
no_cell ps cs k is = ap (λ (o : Option declared.Cell). told_cell (cell_to k ps cs) ps o) is

-- more pieces and one cell more behind the others
pub slice_kept : {A : Type 0} (xs more : List A) (a n : ℕ) → a + n ≤ length xs → slice_range (xs ++ more) a (a + n) ≡ slice_range xs a (a + n)
slice_kept xs more a n within =
    ap (λ (l : List _). take (a + n - a) l) (drop-append-le a xs more (omega (arith, within)))
    ∙ take-append-le (a + n - a) (drop a xs) more (omega (arith, within, length-drop a xs))

pub get_kept : {A : Type 0} (xs : List A) (x : A) (k : ℕ) → k < length xs → slice_get (xs ++ x ∷ []) k ≡ slice_get xs k
get_kept [] x k less = absurd (omega (arith, less))
get_kept (y ∷ xs) x zero less = refl
get_kept (y ∷ xs) x (suc k) less = get_kept xs x k (omega (arith, less))

pub get_last : {A : Type 0} (xs : List A) (x : A) → slice_get (xs ++ x ∷ []) (length xs) ≡ Some x
get_last [] x = refl
get_last (y ∷ xs) x = get_last xs x

kept_to : (ps more : List Piece) (cs : List declared.Cell) (c : declared.Cell) → CellsStand ps cs → (d k : ℕ) → k < length cs →
    cell_to d (ps ++ more) (cs ++ c ∷ []) k ≡ cell_to d ps cs k
unfolding cell_to CellsStand
kept_to ps more cs c stand zero k less = refl
kept_to ps more cs c stand (suc d) k less =
    ap (λ (o : Option declared.Cell). told_cell (cell_to d (ps ++ more) (cs ++ c ∷ [])) (ps ++ more) o) (get_kept cs c k less)
    ∙ sym (same_found (cell_to d ps cs) (cell_to d (ps ++ more) (cs ++ c ∷ [])) ps (ps ++ more) k (slice_get cs k)
    (λ j below. sym (kept_to ps more cs c stand d j (omega (arith, below, less))))
    (λ e is. ((stand k e is).below, slice_kept ps more e.from e.count (stand k e is).within)))

pub cell_kept : (ps more : List Piece) (cs : List declared.Cell) (c : declared.Cell) → CellsStand ps cs → (k : ℕ) → k < length cs →
    cell_at (ps ++ more) (cs ++ c ∷ []) k ≡ cell_at ps cs k
unfolding cell_at
cell_kept ps more cs c stand k less = kept_to ps more cs c stand (suc k) k less

-- what stands below a number stands below a greater one
below_more : (k n : ℕ) → k ≤ n → (p : Piece) → IsBelow k p → IsBelow n p
below_more k n more (Text len s) below = below
below_more k n more (Cell j) below = omega (arith, below, more)
below_more k n more _ below = tt

pub all_below_more : (k n : ℕ) → k ≤ n → (ps : List Piece) → All (IsBelow k) ps → All (IsBelow n) ps
all_below_more k n more ps below = All-weaker (IsBelow k) (IsBelow n) (below_more k n more) ps below

-- a cell of pieces that are put behind the others
pub new_pieces : (ps more : List Piece) (n : ℕ) → n ≡ length more → slice_range (ps ++ more) (length ps) (length ps + n) ≡ more
new_pieces ps more n is =
    ap (λ (l : List Piece). take (length ps + n - length ps) l) (drop_at ps more (length ps) refl)
    ∙ ap (λ (m : ℕ). take m more) (omega (arith, is)) ∙ take-length more

stands_wider : (ps more : List Piece) (k : ℕ) (c : declared.Cell) → CellStands ps k c → CellStands (ps ++ more) k c
stands_wider ps more k c s = record {
  within = omega (arith, s.within, length-append ps more);
  below = subst (λ (xs : List Piece). All (IsBelow k) xs) (sym (slice_kept ps more c.from c.count s.within)) s.below;
  marks = s.marks;
  layouts = s.layouts;
}

pub cells_stand_wider : (ps more : List Piece) (cs : List declared.Cell) → CellsStand ps cs → CellsStand (ps ++ more) cs
unfolding CellsStand
cells_stand_wider ps more cs stand k c is = stands_wider ps more k c (stand k c is)

pub cells_stand_more : (ps more : List Piece) (cs : List declared.Cell) (c : declared.Cell) → CellsStand ps cs → c.from ≡ length ps → c.count ≡ length more →
    All (IsBelow (length cs)) more → AreMarks c.marks c.count → AreCellLayouts c.layouts c.count → CellsStand (ps ++ more) (cs ++ c ∷ [])
unfolding CellsStand
cells_stand_more ps more cs c stand from count below marks layouts k e is =
    elim (slice_get-added cs c k e is) [
      | inl before ↦ stands_wider ps more k e (stand k e before)
      | inr new ↦ subst (λ (n : ℕ). CellStands (ps ++ more) n e) (sym new.0) (subst (λ (x : declared.Cell). CellStands (ps ++ more) (length cs) x) new.1 last)
    ]
  where
    slice : pieces_of (ps ++ more) c ≡ more
    slice = ap (λ (n : ℕ). slice_range (ps ++ more) n (n + c.count)) from ∙ new_pieces ps more c.count count

    last : CellStands (ps ++ more) (length cs) c
    last = record {
      within = omega (arith, from, count, length-append ps more);
      below = subst (λ (xs : List Piece). All (IsBelow (length cs)) xs) (sym slice) below;
      marks = marks;
      layouts = layouts;
    }

-- no cell, and no piece
pub none_stand : (ps : List Piece) (cs : List declared.Cell) (stack : List Piece) → ps ≡ [] → cs ≡ [] → stack ≡ [] →
    CellsStand ps cs × All (IsBelow (length cs)) ps × All (IsBelow (length cs)) stack
unfolding CellsStand
none_stand ps cs stack bare none empty = (
  λ k c is. cc,
  All-same (IsBelow (length cs)) ps [] bare (All-nil (IsBelow (length cs))),
  All-same (IsBelow (length cs)) stack [] empty (All-nil (IsBelow (length cs))),
)

pub few_of_none : (ps : List Piece) → ps ≡ [] → length ps < 4294967295
few_of_none [] none = omega arith
few_of_none (p ∷ ps) none = cc
