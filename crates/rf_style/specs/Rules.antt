-- The rules of a style file.
use Rattle.std.specs.Prelude.{ℕ, pos, ◌==◌, Bool, true, false, ◌&&◌, List, Option, Some, None, Ok, Err, codes, unwrap_or, if◌then◌else◌}
use Rattle.std.specs.Str.{bytes_eq, chars}
use Rattle.toml.specs.Data.{Data, Members, no_members, member, as_table}
use Rattle.rf_base_style.specs.declared.rules.Form.{Form}
use Rattle.rf_base_style.specs.declared.rules.Form.TheVariants.{Bindings}
use Rattle.rf_base_style.specs.declared.rules.Rule.{Rule}
use Rattle.rf_base_style.specs.Table.{Table, with_rule, no_charges}
use Rattle.rf_style.specs.declared.rules.Draft.{Draft}
use Rattle.rf_style.specs.Faults.{Reading, style_key, style_value, style_range, and_then, reading_map}
use Rattle.rf_style.specs.Values.{number, word, form_named, charges}

-- a rule of which nothing is known yet
abbrev pub no_draft : Draft
no_draft = record { form = None; header = None; flat = 0; charges = no_charges }

-- the draft after one more key; only version 2 has charges
unfoldable pub with_key : Bool → Draft → List ℕ → Data → Reading Draft
with_key second draft key value =
    if bytes_eq key (codes "shape")
    then reading_map (λ form. record draft { form = Some form }) (word form_named key value)
    else if bytes_eq key (codes "header")
    then reading_map (λ n. record draft { header = Some n }) (number key 0 9 value)
    else if bytes_eq key (codes "flat") then reading_map (λ n. record draft { flat = n }) (number key 0 9 value)
    else if bytes_eq key (codes "charges") && second
    then reading_map (λ found. record draft { charges = found }) (charges key value)
    else Err (style_key key)

-- the draft after these keys, in order
unfoldable pub with_keys : Bool → Draft → Members → Reading Draft
with_keys second draft no_members = Ok draft
with_keys second draft (member key value keys) =
    and_then (λ next. with_keys second next keys) (with_key second draft key value)

-- how many headers a rule of this shape has by default
unfoldable pub default_header : Form → ℕ
default_header Bindings = 1
default_header _ = 0

-- the shape is that of bindings
abbrev pub is_bindings : Form → Bool
is_bindings Bindings = true
is_bindings _ = false

-- the rule of this shape, where the rest is known
abbrev pub shaped : Draft → Form → Rule
shaped draft form = record {
  form = form;
  header = unwrap_or draft.header (default_header form);
  flat = draft.flat;
  charges = draft.charges;
}

-- bindings have a header
abbrev pub with_header : Rule → Reading Rule
with_header rule =
    if is_bindings rule.form && (rule.header == 0) then Err (style_range (codes "header") (pos 0)) else Ok rule

-- the rule of the name, where its shape is known
abbrev pub finish : List ℕ → Draft → Option Form → Reading Rule
finish name draft None = Err (style_value name)
finish name draft (Some form) = with_header (shaped draft form)

-- the rule of the name, once its keys were read: it has a shape
unfoldable pub finished : List ℕ → Draft → Reading Rule
finished name draft = finish name draft draft.form

-- the rule of the name, where these are its keys
abbrev pub rule_with : Bool → List ℕ → Option Members → Reading Rule
rule_with second name None = Err (style_value name)
rule_with second name (Some keys) = and_then (finished name) (with_keys second no_draft keys)

-- the rule of the name: a table of its keys
unfoldable pub rule_of : Bool → List ℕ → Data → Reading Rule
rule_of second name value = rule_with second name (as_table value)

-- the table after these names, in order
unfoldable pub with_names : Bool → Table → Members → Reading Table
with_names second table no_members = Ok table
with_names second table (member name value names) =
    and_then (λ rule. with_names second (with_rule table (chars name) rule) names) (rule_of second name value)
