-- What a table has for a name, and which tables hold rules alone.
use Rattle.std.proofs.Common.{◌≡◌, ℕ, ◌<◌, ◌≤◌, true, false, List, [], ◌∷◌, ◌++◌, Some, cond, refl, sym, ◌∙◌, inl, inr, arith, lit<, lit≤}
use Rattle.std.proofs.lemmas.Bool.{cases_Bool}
use Rattle.std.specs.Prelude.{◌≢◌}
use Rattle.std.specs.Str.{bytes_eq}
use Rattle.std.proofs.lemmas.Slice.Eq.{bytes_eq-Decides}
use Rattle.rf_base_style.specs.declared.rules.Form.{Form}
use Rattle.rf_base_style.specs.declared.rules.Form.TheVariants.{App, Hang, Plain, Body, Clauses, Bindings}
use Rattle.rf_base_style.specs.declared.rules.Rule.{Rule}
use Rattle.rf_base_style.specs.Table.{Table, rule_in, with_rule, head_rule, IsRule, AreRules, uncharged}
use Rattle.rf_base_style.specs.Defaults.{all_have, default_table}
use Rattle.rf_base_style.specs.Laws.{RulesAreFound, TablesStayRules, HeadsHaveRules, DefaultsAreStyle}

-- a text is itself
pub same_text : (name : List ℕ) → bytes_eq name name ≡ true
same_text name = (bytes_eq-Decides name name).1 refl

-- texts that aren't the same are told apart
pub other_text : (name other : List ℕ) → (name ≡ other → ⊥) → bytes_eq name other ≡ false
other_text name other apart =
    elim (cases_Bool (bytes_eq name other)) [
      | inl same ↦ absurd (apart ((bytes_eq-Decides name other).0 same))
      | inr differs ↦ differs
    ]

-- the rule that was put is found
found : (table : Table) (name : List ℕ) (rule : Rule) → rule_in (with_rule table name rule) name ≡ Some rule
unfolding rule_in with_rule
found [] name rule = rw (same_text name)
found (entry ∷ table) name rule =
    elim (cases_Bool (bytes_eq entry.0 name)) [
      | inl same ↦ rw (same, same)
      | inr other ↦ rw (other, other) (found table name rule)
    ]

-- the other names keep their rules
kept : (table : Table) (name other : List ℕ) (rule : Rule) → other ≢ name →
    rule_in (with_rule table name rule) other ≡ rule_in table other
unfolding rule_in with_rule
kept [] name other rule apart = rw (other_text name other (λ e. apart (sym e)))
kept (entry ∷ table) name other rule apart =
    elim (cases_Bool (bytes_eq entry.0 name)) [
      | inl same ↦
          let here : entry.0 ≡ name = (bytes_eq-Decides entry.0 name).0 same in
          rw (same, other_text entry.0 other (λ e. apart (sym e ∙ here)))
      | inr differs ↦ rw (differs, kept table name other rule apart)
    ]

pub rules_are_found : RulesAreFound
rules_are_found = (found, kept)

-- a rule without charges, whose numbers are small
rule_is : (form : Form) (header flat : ℕ) → header ≤ 9 → flat ≤ 9 → (form ≡ Bindings → 0 < header) →
    IsRule (uncharged form header flat)
rule_is form header flat few little some =
    record {
      header = few;
      flat = little;
      charges = record { broken = omega arith; hung = omega arith; flat = omega arith };
      bindings = some;
    }

pub tables_stay_rules : TablesStayRules
unfolding with_rule AreRules
tables_stay_rules [] name rule all is = (is, tt)
tables_stay_rules (entry ∷ table) name rule all is =
    elim (bytes_eq entry.0 name) as (λ b. AreRules
    (cond b ((entry.0, rule) ∷ table) (entry ∷ with_rule table name rule))) [
      | true ↦ (is, all.1)
      | false ↦ (all.0, tables_stay_rules table name rule all.1 is)
    ]

-- an application without charges is a rule
app_is : IsRule (uncharged App 0 0)
app_is = rule_is App 0 0 (lit≤ tt) (lit≤ tt) (λ e. cc)

pub heads_have_rules : HeadsHaveRules
unfolding head_rule rule_in AreRules
heads_have_rules [] name all = app_is
heads_have_rules (entry ∷ table) name all =
    elim (cases_Bool (bytes_eq entry.0 name)) [
      | inl same ↦ rw same all.0
      | inr other ↦ rw other (heads_have_rules table name all.1)
    ]

-- each of these names has a rule
all_rules : (rule : Rule) → IsRule rule → (names : List (List ℕ)) → AreRules (all_have rule names)
unfolding all_have AreRules
all_rules rule is [] = tt
all_rules rule is (name ∷ names) = (is, all_rules rule is names)

-- tables of rules one after another
both : (first second : Table) → AreRules first → AreRules second → AreRules (first ++ second)
unfolding AreRules
both [] second a b = b
both (entry ∷ first) second a b = (a.0, both first second a.1 b)

-- the rules with up to 9 headers and bodies on one line, but for bindings
plainly : (form : Form) (header flat : ℕ) → header ≤ 9 → flat ≤ 9 → (form ≡ Bindings → ⊥) → (names : List (List ℕ)) →
    AreRules (all_have (uncharged form header flat) names)
plainly form header flat few little other names =
    all_rules _ (rule_is form header flat few little (λ e. absurd (other e))) names

-- the rules of bindings with a header at least
binding : (header : ℕ) → header ≤ 9 → 0 < header → (names : List (List ℕ)) →
    AreRules (all_have (uncharged Bindings header 0) names)
binding header few some names = all_rules _ (rule_is Bindings header 0 few (omega arith) (λ e. some)) names

default_rules : AreRules default_table
unfolding default_table
default_rules =
    both _ _ (both _ _
    (both _ _ (both _ _ (both _ _ (both _ _ (both _ _ (both _ _ (both _ _ (both _ _ (both _ _ (both _ _ (both _ _
    (plainly Body 1 1 (lit≤ tt) (lit≤ tt) (λ e. cc) _)
    (plainly Body 1 1 (lit≤ tt) (lit≤ tt) (λ e. cc) _))
    (plainly Clauses 0 0 (lit≤ tt) (lit≤ tt) (λ e. cc) _))
    (plainly Clauses 1 0 (lit≤ tt) (lit≤ tt) (λ e. cc) _))
    (plainly Clauses 2 0 (lit≤ tt) (lit≤ tt) (λ e. cc) _))
    (binding 1 (lit≤ tt) (lit< tt) _))
    (binding 1 (lit≤ tt) (lit< tt) _))
    (binding 2 (lit≤ tt) (lit< tt) _))
    (plainly Body 1 0 (lit≤ tt) (lit≤ tt) (λ e. cc) _))
    (plainly Body 0 0 (lit≤ tt) (lit≤ tt) (λ e. cc) _))
    (plainly Body 2 0 (lit≤ tt) (lit≤ tt) (λ e. cc) _))
    (plainly Body 2 2 (lit≤ tt) (lit≤ tt) (λ e. cc) _))
    (plainly Hang 0 0 (lit≤ tt) (lit≤ tt) (λ e. cc) _))
    (plainly Plain 0 0 (lit≤ tt) (lit≤ tt) (λ e. cc) _)

pub defaults_are_style : DefaultsAreStyle
defaults_are_style =
    record {
      width = (lit≤ tt, lit≤ tt);
      limit = (lit≤ tt, lit≤ tt);
      blanks = lit≤ tt;
      rules = default_rules;
    }
