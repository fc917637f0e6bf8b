-- The documents of a stack as pieces are put on it and taken into cells.
use Rattle.std.proofs.Common.{◌≡◌, ℕ, zero, suc, ◌+◌, ◌-◌, ◌≤◌, ◌<◌, List, [], ◌∷◌, ◌++◌, length, map, take, drop, refl, sym, ◌∙◌, ap, ap₂, subst}
use Rattle.std.proofs.Common.{Result, Ok, Err, OnOk}
use Rattle.std.proofs.Math.Path.{fun_ext}
use Rattle.std.proofs.lemmas.List.{take-map, map_push, length-drop}
use Rattle.std.proofs.lemmas.List.Elements.{All-take, All-drop}
use Rattle.std.specs.List.{All, slice_range}
use Rattle.rf_base_document.specs.Document.{Doc}
use Rattle.rf_rows.specs.declared.pieces.Fill.{Fill}
use Rattle.rf_rows.specs.declared.pieces.Piece.{Piece}
use Rattle.rf_rows.specs.declared.pieces.Piece.TheVariants.{Cell}
use Rattle.rf_rows.specs.declared.cells.Cell as declared
use Rattle.rf_rows.specs.Layouts.{Filled, cell_doc, AreMarks, AreCellLayouts}
use Rattle.rf_rows.specs.Cells.{piece_doc, filled_by, pieces_of, cell_at, IsBelow, CellsStand}
use Rattle.rf_rows.proofs.Unfolding.{same_pieces, same_filled, cell_unfolds, cell_kept, new_pieces, get_last, cells_stand_more}

map-drop : {A B : Type 0} (f : A → B) (n : ℕ) (xs : List A) → map f (drop n xs) ≡ drop n (map f xs)
map-drop f zero xs = refl
map-drop f (suc n) [] = refl
map-drop f (suc n) (x ∷ xs) = map-drop f n xs

-- one piece more
pub put_on : (f : ℕ → Doc) (fill : Fill) (old new : List Piece) (p : Piece) → new ≡ old ++ p ∷ [] →
    filled_by f new fill ≡ filled_by f old fill ++ piece_doc f fill p ∷ []
put_on f fill old new p is = ap (map (piece_doc f fill)) is ∙ map_push (piece_doc f fill) old p

-- the pieces from a height on as one cell
pub closed : (ps qs : List Piece) (cs ds : List declared.Cell) (old new : List Piece) (height : ℕ) (c : declared.Cell) →
    CellsStand ps cs → All (IsBelow (length cs)) old → height ≤ length old → c.from ≡ length ps → c.count ≡ length old - height →
    AreMarks c.marks c.count → AreCellLayouts c.layouts c.count →
    qs ≡ ps ++ drop height old → ds ≡ cs ++ c ∷ [] → new ≡ take height old ++ Cell (length cs) ∷ [] →
    (fill : Fill) → filled_by (cell_at qs ds) new fill
    ≡ take height (filled_by (cell_at ps cs) old fill) ++ cell_doc c.marks c.count (λ g. drop height (filled_by (cell_at ps cs) old g)) c.layouts ∷ []
closed ps qs cs ds old new height c stand below within from count marks layouts more one put fill =
    ap₂ (λ (q : List Piece) (d : List declared.Cell). filled_by (cell_at q d) new fill) more one
    ∙ put_on f fill (take height old) new (Cell (length cs)) put
    ∙ ap₂ (λ (xs : List Doc) (d : Doc). xs ++ d ∷ []) rest top
  where
    all : List Piece
    all = ps ++ drop height old

    f : ℕ → Doc
    f = cell_at all (cs ++ c ∷ [])

    g : ℕ → Doc
    g = cell_at ps cs

    same : (j : ℕ) → j < length cs → f j ≡ g j
    same j less = cell_kept ps (drop height old) cs c stand j less

    counted : c.count ≡ length (drop height old)
    counted = count ∙ sym (length-drop height old)

    rest : map (piece_doc f fill) (take height old) ≡ take height (map (piece_doc g fill) old)
    rest = same_pieces f g (length cs) same fill (take height old) (All-take (IsBelow (length cs)) height old below) ∙ sym (take-map (piece_doc g fill) height old)

    stands : CellsStand all (cs ++ c ∷ [])
    stands = cells_stand_more ps (drop height old) cs c stand from counted (All-drop (IsBelow (length cs)) height old below) marks layouts

    slice : pieces_of all c ≡ drop height old
    slice = ap (λ (n : ℕ). slice_range all n (n + c.count)) from ∙ new_pieces ps (drop height old) c.count counted

    seen : filled_by f (pieces_of all c) ≡ (λ h. drop height (filled_by g old h))
    seen =
        ap (filled_by f) slice ∙ same_filled f g (length cs) same (drop height old) (All-drop (IsBelow (length cs)) height old below)
        ∙ fun_ext (λ h. map-drop (piece_doc g h) height old)

    top : f (length cs) ≡ cell_doc c.marks c.count (λ h. drop height (filled_by g old h)) c.layouts
    top =
        cell_unfolds all (cs ++ c ∷ []) (length cs) c stands (get_last cs c)
        ∙ ap (λ (r : Filled). cell_doc c.marks c.count r c.layouts) seen

pub closed_stands : (ps qs : List Piece) (cs ds : List declared.Cell) (old : List Piece) (height : ℕ) (c : declared.Cell) →
    CellsStand ps cs → All (IsBelow (length cs)) old → c.from ≡ length ps → c.count ≡ length old - height →
    AreMarks c.marks c.count → AreCellLayouts c.layouts c.count → qs ≡ ps ++ drop height old → ds ≡ cs ++ c ∷ [] → CellsStand qs ds
closed_stands ps qs cs ds old height c stand below from count marks layouts more one =
    subst (λ (q : List Piece). CellsStand q ds) (sym more)
    (subst (λ (d : List declared.Cell). CellsStand (ps ++ drop height old) d) (sym one)
    (cells_stand_more ps (drop height old) cs c stand from (count ∙ sym (length-drop height old)) (All-drop (IsBelow (length cs)) height old below) marks layouts))

-- what follows where a result is fine
pub on_ok : {A E : Type 0} (r : Result A E) (P Q : Type 0) → (P → Q) → OnOk r P → OnOk r Q
on_ok (Ok x) P Q f p = f p
on_ok (Err e) P Q f p = tt
