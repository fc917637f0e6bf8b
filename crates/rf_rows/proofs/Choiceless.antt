-- The documents of cells that are laid out in one way each have no choice.
use Rattle.std.proofs.Common.{◌≡◌, ℕ, zero, suc, ◌&&◌, Bool, true, false, List, [], ◌∷◌, Some, slice_get, refl, sym, ap, ◌∙◌}
use Rattle.std.specs.List.{list_all}
use Rattle.rf_rows.specs.declared.pieces.Piece.{Piece}
use Rattle.rf_rows.specs.declared.cells.Cell as declared
use Rattle.rf_rows.specs.declared.layouts.Layouts.{Layouts}
use Rattle.rf_rows.specs.declared.layouts.Layouts.TheVariants.{Bare, One, Two, Three, Unmade}
use Rattle.rf_rows.specs.Cells.{cell_at, CellsStand}
use Rattle.rf_rows.specs.Choiceless.{IsChoiceless, is_single}
use Rattle.rf_rows.proofs.Closed.{Closed, MayChoose, at_holds}

-- to have no choice is closed
pub choiceless : Closed IsChoiceless
unfolding IsChoiceless
choiceless = record {
  text = λ s len h. tt;
  newline = tt;
  hard = tt;
  bare = tt;
  concat = λ a b h k. (h, k);
  nest = λ a h. h;
  align = λ a h. h;
  flatten = λ a h. h;
  charge = λ k a few h. h;
}

may_choose : (ls : Layouts) → is_single ls ≡ true → MayChoose IsChoiceless ls
may_choose Bare is = tt
may_choose (One a) is = tt
may_choose _ is = cc

both : {a b : Bool} → (a && b) ≡ true → (a ≡ true) × (b ≡ true)
both {a = true} {b = true} h = (refl, refl)
both {a = true} {b = false} h = cc
both {a = false} {b = b} h = cc

-- a cell of these is laid out in one way
single_at : (cs : List declared.Cell) (k : ℕ) (c : declared.Cell) → list_all (λ x. is_single x.layouts) cs ≡ true → slice_get cs k ≡ Some c → is_single c.layouts ≡ true
single_at [] k c all is = cc
single_at (x ∷ cs) zero c all is = let same : x ≡ c = cc in ap (λ (y : declared.Cell). is_single y.layouts) (sym same) ∙ (both all).0
single_at (x ∷ cs) (suc k) c all is = single_at cs k c (both all).1 is

pub cells_choiceless : (ps : List Piece) (cs : List declared.Cell) → CellsStand ps cs → list_all (λ x. is_single x.layouts) cs ≡ true → (k : ℕ) → IsChoiceless (cell_at ps cs k)
cells_choiceless ps cs stand all k = at_holds IsChoiceless choiceless ps cs stand (λ j c is. may_choose c.layouts (single_at cs j c all is)) k
