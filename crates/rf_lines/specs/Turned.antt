-- Which layouts the program's are, and which slots break.
use Rattle.std.specs.Prelude.{◌≡◌, ◌≢◌, ◌⊎◌, Bool, true, None, List, [], ◌∷◌}
use Rattle.rf_base_lines.specs.Lists.{Turns as definition, turns}
use Rattle.rf_tree.specs.Slots.{NodeSlot}
use Rattle.rf_lines.specs.declared.turns.Turns.{Turns}

-- the layout to which the directions lead
abbrev pub told : Turns → definition
told t = turns t.dirs.now t.flat

-- the slot begins with a comment, behind which a datum stands; one of the slots does
abbrev pub IsLed : NodeSlot → Type 0
IsLed s = (s.leads ≢ []) × (s.datum ≢ None)

unfoldable pub SomeLed : List NodeSlot → Type 0
SomeLed [] = ⊥
SomeLed (s ∷ slots) = IsLed s ⊎ SomeLed slots

-- something holds of whether these slots are said to break, which is said only where one of them begins so
abbrev pub OfBreaks : List NodeSlot → (Bool → Type 0) → Type 0
OfBreaks slots P = (breaks : Bool) × (breaks ≡ true → SomeLed slots) × P breaks
