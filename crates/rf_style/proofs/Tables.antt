-- A map of rules beside the table that it is.
use Rattle.std.proofs.Common.{◌≡◌, ℕ, List, [], ◌∷◌, Some, None, String, Global, string_bytes, refl, sym, ap, ◌∙◌, inl, inr}
use Rattle.std.proofs.lemmas.Bool.{cases_Bool}
use Rattle.std.proofs.lemmas.Bool.Decides.{Decides-like, same_from_decides}
use Rattle.std.proofs.lemmas.Slice.Eq.{bytes_eq-Decides}
use Rattle.std.proofs.lemmas.Str.{encodes-chars, IsUtf8-string_bytes}
use Rattle.std.specs.Str.{bytes_eq, chars, IsUtf8}
use Rattle.std.specs.Prelude.{encode_utf8_all}
use Rattle.std.specs.String.{string_eq}
use Rattle.std.specs.Map.{lookup}
use Rattle.indexmap.specs.IndexMap.{insert_entry}
use Rattle.rf_base_style.specs.declared.rules.Form.TheVariants.{App}
use Rattle.rf_base_style.specs.declared.rules.Rule.{Rule}
use Rattle.rf_base_style.specs.Table.{Table, rule_in, with_rule, head_rule, uncharged}
use Rattle.rf_style.specs.Entries.{table_of}

-- texts with the same characters are the same
same_bytes : (a b : List ℕ) → IsUtf8 a → IsUtf8 b → chars a ≡ chars b → a ≡ b
same_bytes a b u v same = sym (encodes-chars a u) ∙ ap encode_utf8_all same ∙ encodes-chars b v

-- texts are told apart by their characters as by their bytes
pub same_name : (a b : List ℕ) → IsUtf8 a → IsUtf8 b → bytes_eq (chars a) (chars b) ≡ bytes_eq a b
same_name a b u v =
    same_from_decides _ _ (Decides-like _ (same_bytes a b u v) (ap chars) (bytes_eq-Decides (chars a) (chars b))) (bytes_eq-Decides a b)

-- which way round they are compared doesn't matter
pub either_way : (a b : List ℕ) → bytes_eq a b ≡ bytes_eq b a
either_way a b = same_from_decides _ _ (bytes_eq-Decides a b) (Decides-like _ sym sym (bytes_eq-Decides b a))

-- a rule that is put into the map is put into the table
pub table_of-insert : (entries : List (String Global × Rule)) (name : String Global) (rule : Rule)
    → table_of (insert_entry string_eq entries name rule) ≡ with_rule (table_of entries) (chars (string_bytes name)) rule
unfolding table_of with_rule
table_of-insert [] name rule = refl
table_of-insert (entry ∷ entries) name rule =
    let same = same_name (string_bytes entry.0) (string_bytes name) (IsUtf8-string_bytes entry.0) (IsUtf8-string_bytes name) ∙ either_way (string_bytes entry.0) (string_bytes name) in
    elim (cases_Bool (string_eq name entry.0)) [
      | inl here ↦ rw (here, same ∙ here)
      | inr other ↦ rw (other, same ∙ other, table_of-insert entries name rule)
    ]

-- what the map finds at a name is the table's rule
pub table_of-lookup : (entries : List (String Global × Rule)) (name : List ℕ) → IsUtf8 name
    → lookup (λ (k : String Global). bytes_eq name (string_bytes k)) entries ≡ rule_in (table_of entries) (chars name)
unfolding table_of rule_in
table_of-lookup [] name u = refl
table_of-lookup (entry ∷ entries) name u =
    let same = same_name (string_bytes entry.0) name (IsUtf8-string_bytes entry.0) u ∙ either_way (string_bytes entry.0) name in
    elim (cases_Bool (bytes_eq name (string_bytes entry.0))) [
      | inl here ↦ rw (here, same ∙ here)
      | inr other ↦ rw (other, same ∙ other, table_of-lookup entries name u)
    ]

-- the rule of a head that the table has, and of one that it lacks
pub head_rule-some : (table : Table) (name : List ℕ) (rule : Rule) → rule_in table name ≡ Some rule → rule ≡ head_rule table name
unfolding head_rule
head_rule-some table name rule found = rw found

pub head_rule-none : (table : Table) (name : List ℕ) → rule_in table name ≡ None → uncharged App 0 0 ≡ head_rule table name
unfolding head_rule
head_rule-none table name gone = rw gone
