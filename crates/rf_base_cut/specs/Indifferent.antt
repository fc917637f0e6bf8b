-- Where the measures before a core can be cut: beyond which of them none matters, whatever stands before them all.
use Rattle.std.specs.Prelude.{◌≡◌, ℕ, ◌+◌, ◌-◌, ◌≤◌, ◌⊎◌, min, Bool, true, false, ◌&&◌, if◌then◌else◌, IsTrue, Option, None, Some, List, flat_map}
use Rattle.rf_base_document.specs.declared.directions.Dir.{Dir}
use Rattle.rf_base_document.specs.Document.{Doc, Text, Newline, Hard, Concat, Nest, Align, Reset, Flatten, Choice, Only, Charge}
use Rattle.rf_base_cost.specs.declared.measures.Measure.{Measure}
use Rattle.rf_base_cost.specs.Cost.{Costs}
use Rattle.rf_base_cost.specs.Pareto.{pareto}
use Rattle.rf_base_cut.specs.Cut.{cut, after}
use Rattle.rf_base_cut.specs.OneLine.{flat_length}

-- what stands behind m of both documents in a row is what stands of the second behind each measure of the first, whose
-- frontier is cut at y
abbrev pub IsCutAt : {C : Type 0} → Costs C → ℕ → Doc → Doc → Measure C (List Dir) → ℕ → ℕ → ℕ → Type 0
IsCutAt costs w a b m indentation x y =
    after costs w (Concat a b) m indentation x
    ≡ cut x (pareto costs (flat_map (λ k. after costs w b k indentation x) (after costs w a m indentation y)))

-- every resolution begins with a break whose indentation doesn't depend on the column: below an `Align` it does
unfoldable pub begins_with_break : Doc → Bool
begins_with_break (Text s len) = false
begins_with_break Newline = true
begins_with_break Hard = true
begins_with_break (Concat a b) = begins_with_break a
begins_with_break (Nest n a) = begins_with_break a
begins_with_break (Align a) = false
begins_with_break (Reset a) = begins_with_break a
begins_with_break (Flatten a) = false
begins_with_break (Choice a b) = begins_with_break a && begins_with_break b
begins_with_break (Only dir a) = begins_with_break a
begins_with_break (Charge k a) = begins_with_break a

-- a text that ends by this column costs what no text costs
abbrev pub IsFree : {C : Type 0} → Costs C → ℕ → Type 0
IsFree costs free = (column len : ℕ) → column + len ≤ free → costs.text column len ≡ costs.text 0 0

-- the document is flat, and where it begins at y it ends by each of these columns
abbrev pub IsFlatBy : Doc → ℕ → ℕ → ℕ → ℕ → Type 0
IsFlatBy d y w free x = (len : ℕ) × (flat_length d ≡ Some len) × (y + len ≤ w) × (y + len ≤ free) × (y + len ≤ x)

-- within w columns, and where texts cost nothing up to a column, the measures before d may be cut at y when what they
-- come to with d is cut at x: nowhere; anywhere before a break; and before a flat document where it still ends by these
abbrev pub MayCut : ℕ → ℕ → Doc → ℕ → ℕ → Type 0
MayCut w free d x y = (y ≡ 0) ⊎ (IsTrue (begins_with_break d) ⊎ IsFlatBy d y w free x)

-- before this length, or else where there is a break or none
abbrev pub indifferent_to : ℕ → ℕ → Bool → Option ℕ → ℕ → ℕ
indifferent_to w free begins None x = if begins then w else 0
indifferent_to w free begins (Some len) x = min x free - len

-- where the measures before d may be cut, so that the fewest stay: before a flat document where it still ends by x and
-- by the column up to which texts cost nothing, before a break at w, where the first alone stays, and else nowhere
abbrev pub indifferent : ℕ → ℕ → Doc → ℕ → ℕ
indifferent w free d x = indifferent_to w free (begins_with_break d) (flat_length d) x
