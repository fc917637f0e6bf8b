-- What is put on the stack. The column up to which lists may stay unmade stays as it is.
use Rattle.std.specs.Prelude.{ℕ, ◌≡◌, List, ◌++◌, length, take}
use Rattle.rf_base_document.specs.Document.{Doc}
use Rattle.rf_rows.specs.declared.pieces.Fill.{Fill}
use Rattle.rf_rows.specs.declared.rows.Rows.{Rows}
use Rattle.rf_rows.specs.Layouts.{Filled}
use Rattle.rf_rows.specs.Rows.{stacked}

-- the new stack is the old one and, above that, these documents, by what stands in their gaps
pub record Fills (old new : Rows) (r : Filled) : Type 0 where
  pub free : new.free ≡ old.free
  pub docs : (fill : Fill) → stacked new fill ≡ stacked old fill ++ r fill

-- the same of documents without gaps
abbrev pub Puts : Rows → Rows → List Doc → Type 0
Puts old new ds = Fills old new (λ fill. ds)

-- it is the old one up to this height and, above that, these documents
pub record Closes (height : ℕ) (old new : Rows) (r : Filled) : Type 0 where
  pub free : new.free ≡ old.free
  pub docs : (fill : Fill) → stacked new fill ≡ take height (stacked old fill) ++ r fill

-- the stack is this high
abbrev pub IsHigh : Rows → ℕ → Type 0
IsHigh rows height = (fill : Fill) → length (stacked rows fill) ≡ height
