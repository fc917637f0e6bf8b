-- What is proved of the definitions.
use Rattle.std.specs.Prelude.{◌≡◌, ◌≢◌, ℕ, ◌*◌, ◌≤◌, List, length, Some}
use Rattle.rf_base_style.specs.declared.columns.Columns.{Columns}
use Rattle.rf_base_style.specs.declared.rules.Rule.{Rule}
use Rattle.rf_base_style.specs.Columns.{length_in}
use Rattle.rf_base_style.specs.Table.{Table, rule_in, with_rule, head_rule, IsRule, AreRules, IsStyle}
use Rattle.rf_base_style.specs.Defaults.{default_style}

-- a text takes up at most two columns a character
abbrev pub LengthsKeepLimits : Type 0
LengthsKeepLimits = (columns : Columns) (text : List ℕ) → length_in columns text ≤ 2 * length text

-- a rule that is put into a table is the rule of its name, and other names keep theirs
abbrev pub RulesAreFound : Type 0
RulesAreFound =
    ((table : Table) (name : List ℕ) (rule : Rule) → rule_in (with_rule table name rule) name ≡ Some rule)
    × ((table : Table) (name other : List ℕ) (rule : Rule) →
    other ≢ name → rule_in (with_rule table name rule) other ≡ rule_in table other)

-- a table of rules stays one where a rule is put into it
abbrev pub TablesStayRules : Type 0
TablesStayRules =
    (table : Table) (name : List ℕ) (rule : Rule) → AreRules table → IsRule rule → AreRules (with_rule table name rule)

-- the rule of a head is one, whether or not the table has it
abbrev pub HeadsHaveRules : Type 0
HeadsHaveRules = (table : Table) (name : List ℕ) → AreRules table → IsRule (head_rule table name)

-- the style without a style file is one
abbrev pub DefaultsAreStyle : Type 0
DefaultsAreStyle = IsStyle default_style
