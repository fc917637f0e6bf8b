-- What a style file says.
use Rattle.std.specs.Prelude.{ℕ, ℤ, pos, Bool, false, ◌&&◌, List, Option, Some, None, Ok, Err, codes, if◌then◌else◌}
use Rattle.std.specs.Ordering.{int_eq}
use Rattle.std.specs.Option.{option_map_or}
use Rattle.std.specs.Prelude.{option_and_then}
use Rattle.std.specs.Str.{bytes_eq, is_utf8}
use Rattle.toml.specs.Data.{Data, Members, no_members, member, as_integer, as_table, get_member}
use Rattle.toml.specs.Parse.{parse_document}
use Rattle.rf_cost.specs.declared.kinds.CostKind.TheVariants.{Squares}
use Rattle.rf_cost.specs.Kinds.{cost_named}
use Rattle.rf_base_style.specs.declared.columns.Columns.TheVariants.{Characters}
use Rattle.rf_base_style.specs.Columns.{columns_named}
use Rattle.rf_base_style.specs.Table.{StyleView}
use Rattle.rf_base_style.specs.Defaults.{default_table}
use Rattle.rf_style.specs.declared.style.Style.{Style}
use Rattle.rf_style.specs.Faults.{Reading, style_text, style_key, style_value, and_then, reading_map}
use Rattle.rf_style.specs.Values.{number, word}
use Rattle.rf_style.specs.Rules.{with_names}

-- the style without a style file: pages of 102 columns, computed within 120, one blank line kept, squares
abbrev pub default_style : Style
default_style = record {
  width = 102;
  limit = 120;
  blanks = 1;
  cost = Squares;
  columns = Characters;
  forms = default_table;
}

-- the style as documents see it
abbrev pub seen : Style → StyleView
seen style = record {
  width = style.width;
  limit = style.limit;
  blanks = style.blanks;
  columns = style.columns;
  table = style.forms;
}

-- the style after the names of its key `forms`: a table of rules
abbrev pub with_forms : Bool → Style → List ℕ → Option Members → Reading Style
with_forms second style key None = Err (style_value key)
with_forms second style key (Some names) =
    reading_map (λ table. record style { forms = table }) (with_names second style.forms names)

-- the style after one more key; only version 2 has columns
unfoldable pub with_key : Bool → Style → List ℕ → Data → Reading Style
with_key second style key value =
    if bytes_eq key (codes "version") then reading_map (λ n. style) (number key 1 2 value)
    else if bytes_eq key (codes "width")
    then reading_map (λ n. record style { width = n }) (number key 1 400 value)
    else if bytes_eq key (codes "limit")
    then reading_map (λ n. record style { limit = n }) (number key 1 400 value)
    else if bytes_eq key (codes "max-blank-lines")
    then reading_map (λ n. record style { blanks = n }) (number key 0 9 value)
    else if bytes_eq key (codes "cost")
    then reading_map (λ cost. record style { cost = cost }) (word cost_named key value)
    else if bytes_eq key (codes "forms") then with_forms second style key (as_table value)
    else if bytes_eq key (codes "columns") && second
    then reading_map (λ columns. record style { columns = columns }) (word columns_named key value)
    else Err (style_key key)

-- the style after these keys, in order
unfoldable pub with_keys : Bool → Style → Members → Reading Style
with_keys second style no_members = Ok style
with_keys second style (member key value keys) =
    and_then (λ next. with_keys second next keys) (with_key second style key value)

-- the number is 2
abbrev pub is_two : ℤ → Bool
is_two z = int_eq z (pos 2)

-- the version is the number 2
unfoldable pub is_second : Members → Bool
is_second keys =
    option_map_or is_two (option_and_then as_integer (get_member (codes "version") keys)) false

-- what the document's keys say, by bytes in order, beside the default style; the first fault decides
unfoldable pub style_said : Members → Reading Style
style_said keys = with_keys (is_second keys) default_style keys

-- the TOML document that the bytes are, where they are text, and a document by the definition of `toml`
unfoldable pub document_of : List ℕ → Reading Members
document_of bytes =
    option_map_or (λ keys. Ok keys) (if is_utf8 bytes then parse_document bytes else None) (Err style_text)

-- what a style file of these bytes says, or its first fault
unfoldable pub style_of : List ℕ → Reading Style
style_of bytes = and_then style_said (document_of bytes)
