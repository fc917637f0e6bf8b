-- That a style is one, and its rules are, has one proof at most, so that a struct may keep it.
use Rattle.std.specs.Prelude.{ℕ}
use Rattle.std.specs.Coded.{×_prop, →_prop, le_prop}
use Rattle.std.specs.List.{AllByRecursion-prop}
use Rattle.rf_base_style.specs.declared.rules.Charges.{Charges}
use Rattle.rf_base_style.specs.Table.{AreCharges, IsRule, Table, AreRules, StyleView, IsStyle}
use Rattle.rf_base_style.specs.declared.rules.Rule.{Rule}

AreCharges-prop : (charges : Charges) → IsProp (AreCharges charges)
AreCharges-prop charges a b =
    λ i. record {
      broken = le_prop a.broken b.broken i;
      hung = le_prop a.hung b.hung i;
      flat = le_prop a.flat b.flat i;
    }

IsRule-prop : (rule : Rule) → IsProp (IsRule rule)
IsRule-prop rule a b =
    λ i. record {
      header = le_prop a.header b.header i;
      flat = le_prop a.flat b.flat i;
      charges = AreCharges-prop rule.charges a.charges b.charges i;
      bindings = →_prop le_prop a.bindings b.bindings i;
    }

pub AreRules-prop : (table : Table) → IsProp (AreRules table)
unfolding AreRules
AreRules-prop table = AllByRecursion-prop (λ entry. IsRule entry.1) (λ entry. IsRule-prop entry.1) table

pub IsStyle-prop : (style : StyleView) → IsProp (IsStyle style)
IsStyle-prop style a b =
    λ i. record {
      width = ×_prop le_prop le_prop a.width b.width i;
      limit = ×_prop le_prop le_prop a.limit b.limit i;
      blanks = le_prop a.blanks b.blanks i;
      rules = AreRules-prop style.table a.rules b.rules i;
    }
