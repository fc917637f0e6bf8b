-- What a style's table says: rules by the names of heads. A name is a list of characters.
use Rattle.std.specs.Prelude.{◌≡◌, ℕ, ◌<◌, ◌≤◌, List, [], ◌∷◌, Option, Some, None, if◌then◌else◌, unwrap_or}
use Rattle.std.specs.List.{AllByRecursion}
use Rattle.std.specs.Str.{bytes_eq}
use Rattle.rf_base_style.specs.declared.columns.Columns.{Columns}
use Rattle.rf_base_style.specs.declared.rules.Form.{Form}
use Rattle.rf_base_style.specs.declared.rules.Form.TheVariants.{App, Bindings}
use Rattle.rf_base_style.specs.declared.rules.Charges.{Charges}
use Rattle.rf_base_style.specs.declared.rules.Rule.{Rule}

-- names and their rules, in order
abbrev pub Table : Type 0
Table = List (List ℕ × Rule)

-- the rule that the table has for the name, in the first entry of that name
unfoldable pub rule_in : Table → List ℕ → Option Rule
rule_in [] name = None
rule_in (entry ∷ table) name = if bytes_eq entry.0 name then Some entry.1 else rule_in table name

-- the table with this rule for the name: in the place of the name's own rule, or at the end
unfoldable pub with_rule : Table → List ℕ → Rule → Table
with_rule [] name rule = (name, rule) ∷ []
with_rule (entry ∷ table) name rule =
    if bytes_eq entry.0 name then (entry.0, rule) ∷ table else entry ∷ with_rule table name rule

-- nothing is charged
abbrev pub no_charges : Charges
no_charges = record { broken = 0; hung = 0; flat = 0 }

-- the rule of this shape with so many headers, where so many bodies may stand on one line, without charges
abbrev pub uncharged : Form → ℕ → ℕ → Rule
uncharged form header flat = record { form = form; header = header; flat = flat; charges = no_charges }

-- the rule of a head: that of its name, or an application without charges where the table has none
unfoldable pub head_rule : Table → List ℕ → Rule
head_rule table name = unwrap_or (rule_in table name) (uncharged App 0 0)

-- each charge is at most 1,000
pub record AreCharges (charges : Charges) : Type 0 where
  pub broken : charges.broken ≤ 1000
  pub hung : charges.hung ≤ 1000
  pub flat : charges.flat ≤ 1000

-- headers and bodies on one line are at most 9, charges are at most 1,000, and bindings have a header
pub record IsRule (rule : Rule) : Type 0 where
  pub header : rule.header ≤ 9
  pub flat : rule.flat ≤ 9
  pub charges : AreCharges rule.charges
  pub bindings : rule.form ≡ Bindings → 0 < rule.header

-- each rule of the table is one
unfoldable pub AreRules : Table → Type 0
AreRules table = AllByRecursion (λ entry. IsRule entry.1) table

-- a style as documents see it: the page width and the computation width in columns, how many blank lines in a row are
-- kept, how columns are counted, and the table
pub record StyleView : Type 0 where
  pub width : ℕ
  pub limit : ℕ
  pub blanks : ℕ
  pub columns : Columns
  pub table : Table

-- a page width or a computation width: from 1 to 400 columns
abbrev pub IsWidth : ℕ → Type 0
IsWidth n = (1 ≤ n) × (n ≤ 400)

-- the widths are from 1 to 400, at most 9 blank lines are kept, and each rule of the table is one
pub record IsStyle (style : StyleView) : Type 0 where
  pub width : IsWidth style.width
  pub limit : IsWidth style.limit
  pub blanks : style.blanks ≤ 9
  pub rules : AreRules style.table
