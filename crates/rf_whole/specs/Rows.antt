-- What slots in a row are laid out as.
use Rattle.std.specs.Prelude.{ℕ, List, ◌++◌}
use Rattle.rf_base_cost.specs.Cost.{Costs}
use Rattle.rf_base_optimum.specs.Paragraphs.{Paragraph, EachIsDocument, EachHasCore}
use Rattle.rf_base_grammar.specs.Token.{Token}
use Rattle.rf_base_style.specs.Table.{StyleView}
use Rattle.rf_base_tree.specs.Trees.{Tree, Forest}
use Rattle.rf_base_tree.specs.Slots.{Slot}
use Rattle.rf_tree.specs.Slots.{NodeSlot}
use Rattle.rf_tree.specs.declared.trees.Tree.{Tree as KeptTree}
use Rattle.rf_whole.specs.declared.lines.Lines.{Lines}
use Rattle.rf_whole.specs.Laid.{AreLinesOf}
use Rattle.rf_whole.specs.Lines.{ArePastLimit}
use Rattle.rf_whole.specs.Groups.{IsRow}
use Rattle.rf_joins.specs.Paragraphs.{slots_paragraphs}

-- the lines are those of the slots, with so many blank lines behind the last
abbrev pub AreRowLines : {C : Type 0} → Costs C → ℕ → StyleView → KeptTree → List NodeSlot → ℕ → Lines C → Type 0
AreRowLines costs w style tree kept behind lines =
    (ts : List Token) (trees : Forest) (slots : List (Slot Tree)) → IsRow style tree kept ts trees slots
    → AreLinesOf costs w (slots_paragraphs style ts behind slots) lines

-- the slots are past the limit together
abbrev pub IsRowPast : {C : Type 0} → Costs C → ℕ → StyleView → KeptTree → List NodeSlot → ℕ → Type 0
IsRowPast costs w style tree kept behind =
    (ts : List Token) (trees : Forest) (slots : List (Slot Tree)) → IsRow style tree kept ts trees slots
    → ArePastLimit costs w (slots_paragraphs style ts behind slots)

-- behind the lines of any paragraphs, the old ones, the new ones have those of the slots
abbrev pub AddsRow : {C : Type 0} → Costs C → ℕ → StyleView → KeptTree → List NodeSlot → ℕ → Lines C → Lines C → Type 0
AddsRow costs w style tree kept behind old new =
    (ts : List Token) (trees : Forest) (slots : List (Slot Tree)) → IsRow style tree kept ts trees slots
    → (ps : List Paragraph) → AreLinesOf costs w ps old
    → AreLinesOf costs w (ps ++ slots_paragraphs style ts behind slots) new

-- the slots are past the limit together with any paragraphs that have these lines
abbrev pub PassesWithRow : {C : Type 0} → Costs C → ℕ → StyleView → KeptTree → List NodeSlot → ℕ → Lines C → Type 0
PassesWithRow costs w style tree kept behind lines =
    (ts : List Token) (trees : Forest) (slots : List (Slot Tree)) → IsRow style tree kept ts trees slots
    → (ps : List Paragraph) → EachIsDocument ps → EachHasCore ps → AreLinesOf costs w ps lines
    → ArePastLimit costs w (ps ++ slots_paragraphs style ts behind slots)
