-- The values of a style file's keys.
use Rattle.std.specs.Prelude.{ℕ, ℤ, pos, negsuc, ◌&&◌, nat_le, List, Option, Some, None, option_map, option_and_then, Ok, Err, codes, if◌then◌else◌}
use Rattle.std.specs.Option.{option_map_or}
use Rattle.std.specs.Str.{bytes_eq}
use Rattle.toml.specs.Data.{Data, Items, no_items, item, as_str, as_integer, as_array}
use Rattle.rf_base_style.specs.declared.rules.Form.{Form}
use Rattle.rf_base_style.specs.declared.rules.Form.TheVariants.{App, Hang, Plain, Body, Clauses, Bindings}
use Rattle.rf_base_style.specs.declared.rules.Charges.{Charges}
use Rattle.rf_style.specs.Faults.{Reading, style_value, style_range, and_then, reading_map}

-- the whole number, where it is from least to most
unfoldable pub in_range : List ℕ → ℕ → ℕ → ℤ → Reading ℕ
in_range key least most (pos n) =
    if nat_le least n && nat_le n most then Ok n else Err (style_range key (pos n))
in_range key least most (negsuc n) = Err (style_range key (negsuc n))

-- the number of the key, from least to most
unfoldable pub number : List ℕ → ℕ → ℕ → Data → Reading ℕ
number key least most value = option_map_or (in_range key least most) (as_integer value) (Err (style_value key))

-- what the key's word was found to mean
abbrev pub chosen : {A : Type 0} → List ℕ → Option A → Reading A
chosen key meaning = option_map_or (λ x. Ok x) meaning (Err (style_value key))

-- what the key's word means, if it is one of the key's words
unfoldable pub word : {A : Type 0} → (List ℕ → Option A) → List ℕ → Data → Reading A
word meaning key value = chosen key (option_and_then meaning (as_str value))

-- the shape of this name
unfoldable pub form_named : List ℕ → Option Form
form_named text =
    if bytes_eq text (codes "app") then Some App
    else if bytes_eq text (codes "hang") then Some Hang
    else if bytes_eq text (codes "data") then Some Plain
    else if bytes_eq text (codes "body") then Some Body
    else if bytes_eq text (codes "clauses") then Some Clauses
    else if bytes_eq text (codes "bindings") then Some Bindings
    else None

-- three whole numbers, if the items are that
unfoldable pub three_numbers : Items → Option (ℤ × ℤ × ℤ)
three_numbers (item a (item b (item c no_items))) =
    option_and_then
    (λ x. option_and_then (λ y. option_map (λ z. (x, y, z)) (as_integer c)) (as_integer b)) (as_integer a)
three_numbers _ = None

-- three charges, each from 0 to 1,000
unfoldable pub charges_of : List ℕ → ℤ × ℤ × ℤ → Reading Charges
charges_of key three =
    and_then (λ broken.
    and_then (λ hung.
    reading_map (λ flat. record { broken = broken; hung = hung; flat = flat })
    (in_range key 0 1000 three.2)) (in_range key 0 1000 three.1)) (in_range key 0 1000 three.0)

-- the charges of the key: an array of three numbers, of which the first that is out of range is refused
unfoldable pub charges : List ℕ → Data → Reading Charges
charges key value =
    option_map_or (charges_of key) (option_and_then three_numbers (as_array value)) (Err (style_value key))
