-- Which shape a list has: its way of being laid out, by what it stands in, its first slot and the table.
use Rattle.std.specs.Prelude.{ℕ, suc, ◌+◌, ◌-◌, ◌==◌, ◌&&◌, leb, ltb, Bool, true, false, Option, None, Some, List, [], ◌∷◌, codes, if◌then◌else◌, is_some}
use Rattle.std.specs.Option.{option_map}
use Rattle.std.specs.Prelude.{map}
use Rattle.rf_base_document.specs.Document.{Doc}
use Rattle.rf_base_grammar.specs.Reader.{among}
use Rattle.rf_base_style.specs.declared.rules.Charges.{Charges}
use Rattle.rf_base_style.specs.declared.rules.Form.{Form}
use Rattle.rf_base_style.specs.declared.rules.Form.TheVariants as form
use Rattle.rf_base_style.specs.declared.rules.Rule.{Rule}
use Rattle.rf_base_style.specs.Table.{Table, no_charges, head_rule}
use Rattle.rf_base_tree.specs.Slots.{Entry, Slot}
use Rattle.rf_base_tree.specs.Cut.{slot}
use Rattle.rf_base_file.specs.Rows.{Part, part}
use Rattle.rf_base_file.specs.declared.shapes.Shape.{Shape}
use Rattle.rf_base_file.specs.declared.shapes.Shape.TheVariants.{Application, Hanging, Plain, Body}
use Rattle.rf_base_file.specs.declared.shapes.Role.{Role}
use Rattle.rf_base_file.specs.declared.shapes.Role.TheVariants.{Free, Clause, Bindings}
use Rattle.rf_base_file.specs.declared.shapes.Roles.{Roles}
use Rattle.rf_base_file.specs.declared.shapes.Roles.TheVariants.{AllFree, ClausesBehind, BindingsBehind}
use Rattle.rf_base_file.specs.declared.shapes.Way.{Way}

-- the role of the first slot's datum
abbrev pub first_role : Roles → Role
first_role AllFree = Free
first_role (ClausesBehind slots) = if slots == 0 then Clause else Free
first_role (BindingsBehind slots) = if slots == 0 then Bindings else Free

-- the roles of the others
abbrev pub later_roles : Roles → Roles
later_roles AllFree = AllFree
later_roles (ClausesBehind slots) = if slots == 0 then ClausesBehind 0 else ClausesBehind (slots - 1)
later_roles (BindingsBehind slots) = if slots == 0 then AllFree else BindingsBehind (slots - 1)

-- what stands at one place, before it is known what it stands in: its first and its last item, its characters if it is
-- an atom, and its document where it is quoted or not and has this role
pub record Piece : Type 0 where
  pub first : ℕ
  pub last : ℕ
  pub atom : Option (List ℕ)
  pub doc : Bool → Role → Doc

-- the part that a piece is in a place
abbrev pub part_in : Bool → Role → Piece → Part
part_in quoted role p = part p.first p.last (p.doc quoted role)

abbrev pub entry_in : Bool → Role → Entry Piece → Entry Part
entry_in quoted role e = record { sort = e.sort; what = part_in quoted role e.what }

-- a datum behind a key has no role
abbrev pub role_behind : Option (Entry Piece) → Role → Role
role_behind None role = role
role_behind (Some key) role = Free

-- a slot whose datum has this role
abbrev pub slot_in : Bool → Role → Slot Piece → Slot Part
slot_in quoted role s =
    slot (map (entry_in quoted Free) s.leads) (option_map (entry_in quoted Free) s.key)
    (option_map (entry_in quoted (role_behind s.key role)) s.datum) (option_map (entry_in quoted Free) s.trailing)

-- slots whose data have these roles
unfoldable pub slots_in : Bool → Roles → List (Slot Piece) → List (Slot Part)
slots_in quoted roles [] = []
slots_in quoted roles (s ∷ slots) = slot_in quoted (first_role roles) s ∷ slots_in quoted (later_roles roles) slots

-- how a list is laid out: its shape, its charges, and the roles of its slots' data
abbrev pub way : Shape → Charges → Roles → Way
way shape charges roles = record { shape = shape; charges = charges; roles = roles }

-- plain data without charges
abbrev pub plain_way : Roles → Way
plain_way roles = way Plain no_charges roles

-- the characters of a slot's datum, where it is an atom without a key
abbrev pub word_of : Option (Entry Piece) → Option (Entry Piece) → Option (List ℕ)
word_of None (Some datum) = datum.what.atom
word_of _ _ = None

abbrev pub first_word : List (Slot Piece) → Option (List ℕ)
first_word [] = None
first_word (s ∷ slots) = word_of s.key s.datum

abbrev pub second_word : List (Slot Piece) → Option (List ℕ)
second_word [] = None
second_word (s ∷ slots) = first_word slots

-- whether there is a datum, and how many slots have one
abbrev pub one_if_some : {A : Type 0} → Option A → ℕ → ℕ
one_if_some None n = n
one_if_some (Some x) n = suc n

unfoldable pub data_count : {A : Type 0} → List (Slot A) → ℕ
data_count [] = 0
data_count (s ∷ slots) = one_if_some s.datum (data_count slots)

-- the number of headers of bindings, where the second slot is a name or isn't: a name before one header is a header too
abbrev pub named_headers : ℕ → Bool → ℕ
named_headers headers named = if headers == 1 && named then 2 else headers

-- so many headers and at most so many bodies on one line, of this many data: a body with these roles, or an application
-- where headers are missing
abbrev pub body_way : Charges → ℕ → ℕ → ℕ → Roles → Way
body_way charges headers flat count roles =
    if ltb headers count then way (Body headers (leb (count - headers - 1) flat)) charges roles
    else way Application charges AllFree

-- the way of a list of this many data, whose second slot is a name or isn't, by the rule of its head
abbrev pub form_way : Form → Rule → Bool → ℕ → Way
form_way form.App rule named count = way Application rule.charges AllFree
form_way form.Hang rule named count = way Hanging rule.charges AllFree
form_way form.Plain rule named count = way Plain rule.charges AllFree
form_way form.Body rule named count = body_way rule.charges rule.header rule.flat count AllFree
form_way form.Clauses rule named count =
    body_way rule.charges rule.header rule.flat count (ClausesBehind (rule.header + 1))
form_way form.Bindings rule named count =
    body_way rule.charges (named_headers rule.header named) rule.flat count
    (BindingsBehind (named_headers rule.header named))

-- the way of a list whose first slot has this word: by the rule of that word, or data
abbrev pub word_way : Table → Option (List ℕ) → List (Slot Piece) → Way
word_way table None slots = plain_way AllFree
word_way table (Some name) slots =
    form_way (head_rule table name).form (head_rule table name) (is_some (second_word slots)) (data_count slots)

-- the way of a list of these slots with this role, where it is quoted or a vector, or isn't
abbrev pub way_of : Table → Bool → Role → List (Slot Piece) → Way
way_of table true role slots = plain_way AllFree
way_of table false Clause slots = plain_way AllFree
way_of table false Bindings slots = plain_way (ClausesBehind 0)
way_of table false Free slots = word_way table (first_word slots) slots

-- the prefixes that quote, and those that end quoting
abbrev pub quotes : List (List ℕ)
quotes = codes "'" ∷ codes "`" ∷ []

abbrev pub unquotes : List (List ℕ)
unquotes = codes "," ∷ codes ",@" ∷ []

-- whether what stands behind this prefix is quoted
abbrev pub quoted_behind : List ℕ → Bool → Bool
quoted_behind prefix quoted = if among quotes prefix then true else if among unquotes prefix then false else quoted
