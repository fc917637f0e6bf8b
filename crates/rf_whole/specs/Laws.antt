-- Laws of what a file is laid out as.
use Rattle.std.specs.Prelude.{◌≡◌, ◌≤◌, ℕ, ◌^◌, List, length}
use Rattle.rf_base_cost.specs.Cost.{Lawful, IsColumn}
use Rattle.rf_base_cost.specs.Reflecting.{ReflectsOrderUpTo}
use Rattle.rf_base_grammar.specs.Token.{Token}
use Rattle.rf_base_grammar.specs.Sources.{HasItems}
use Rattle.rf_base_grammar.specs.declared.TheConstants.{SOURCE_LIMIT}
use Rattle.rf_base_style.specs.Table.{StyleView, IsStyle}
use Rattle.rf_base_tree.specs.Trees.{Forest}
use Rattle.rf_base_tree.specs.Formed.{Treed}
use Rattle.rf_base_file.specs.LaidOut.{Objective}
use Rattle.rf_base_file.specs.Formatted.{Layout, IsFormatted, IsTooLong}
use Rattle.rf_whole.specs.Whole.{IsWhole, IsWholeLong}

-- a file has one layout: its text, choices, cost and flag are determined
abbrev pub OneWhole : Type 0 → Type 0
OneWhole C =
    (objective : Objective C) (style : StyleView) (ts : List Token) (trees : Forest) (given other : Layout C)
    → IsWhole objective style ts trees given →
    IsWhole objective style ts trees other → given ≡ other

-- and none that is laid out is too long
abbrev pub WholeOrTooLong : Type 0 → Type 0
WholeOrTooLong C =
    (objective : Objective C) (style : StyleView) (ts : List Token) (trees : Forest) (given : Layout C)
    → IsWhole objective style ts trees given →
    IsWholeLong objective style ts trees → ⊥

-- addition reflects the order of what the layouts of a source cost
abbrev pub Reflects : {C : Type 0} → Objective C → Type 0
Reflects objective = Lawful objective.costs × IsColumn objective.limit × ReflectsOrderUpTo objective.costs (2 ^ 27)

-- where it does, the layout of a source form by form is that of its document as a whole
abbrev pub WholeIsFormatted : Type 0 → Type 0
WholeIsFormatted C =
    (objective : Objective C) (style : StyleView) (source : List ℕ) (ts : List Token) (trees : Forest)
    (given : Layout C) →
    Reflects objective → IsStyle style → length source ≤ SOURCE_LIMIT → HasItems source ts → Treed ts trees →
    IsWhole objective style ts trees given → (formatted : IsFormatted style objective source given)
    × (formatted.tokens ≡ ts)

-- and what is too long form by form is too long as a whole
abbrev pub LongIsTooLong : Type 0 → Type 0
LongIsTooLong C =
    (objective : Objective C) (style : StyleView) (source : List ℕ) (ts : List Token) (trees : Forest) →
    Reflects objective → IsStyle style → length source ≤ SOURCE_LIMIT → HasItems source ts → Treed ts trees →
    IsWholeLong objective style ts trees → IsTooLong style objective source
