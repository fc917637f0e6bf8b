-- The first of the slots that are still to come, at most so many.
use Rattle.std.specs.Prelude.{List, take}
use Rattle.rf_tree.specs.Slots.{NodeSlot}
use Rattle.rf_tree.specs.Ahead.{slots_ahead, IsCursor}
use Rattle.rf_tree.specs.declared.stretches.Stretch.{Stretch}

-- the slots of a stretch
abbrev pub stretched : Stretch → List NodeSlot
stretched s = take s.most (slots_ahead s.slots)

-- its slots are still to come
abbrev pub IsStretch : Stretch → Type 0
IsStretch s = IsCursor s.slots
