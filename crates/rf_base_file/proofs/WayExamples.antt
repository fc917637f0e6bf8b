-- Worked examples of the ways of lists and of the limits of layouts: a definition that changes its meaning fails here.
use Rattle.std.proofs.Common.{◌≡◌, ℕ, ◌+◌, Bool, true, false, Option, List, [], ◌∷◌, length, refl, inl, inr, Some, None, arith}
use Rattle.std.specs.Prelude.{codes, map, if◌then◌else◌}
use Rattle.rf_base_document.specs.declared.directions.Dir.{Dir}
use Rattle.rf_base_document.specs.declared.limits.TheConstants.{LAYOUT_LIMIT}
use Rattle.rf_base_document.specs.Document.{Doc, Newline, Charge, plain_text}
use Rattle.rf_base_document.specs.Picks.{leaves_of}
use Rattle.rf_base_grammar.specs.Token.{Token}
use Rattle.rf_base_grammar.specs.declared.kinds.Kind.TheVariants.{Atom}
use Rattle.rf_base_style.specs.declared.rules.Charges.{Charges}
use Rattle.rf_base_style.specs.declared.rules.Form.{Form}
use Rattle.rf_base_style.specs.declared.rules.Form.TheVariants as form
use Rattle.rf_base_style.specs.declared.rules.Rule.{Rule}
use Rattle.rf_base_style.specs.Table.{rule_in, head_rule}
use Rattle.rf_base_tree.specs.Slots.{Datum, Entry, Slot}
use Rattle.rf_base_tree.specs.Cut.{slot}
use Rattle.rf_base_file.specs.declared.shapes.Shape.TheVariants.{Application, Hanging, Plain, Body}
use Rattle.rf_base_file.specs.declared.shapes.Role.{Role}
use Rattle.rf_base_file.specs.declared.shapes.Role.TheVariants.{Free, Clause, Bindings}
use Rattle.rf_base_file.specs.declared.shapes.Roles.TheVariants.{AllFree, ClausesBehind, BindingsBehind}
use Rattle.rf_base_file.specs.ByForms.{blanks_ahead}
use Rattle.rf_base_file.specs.LaidOut.{IsShort, IsLong}
use Rattle.rf_base_file.specs.Rows.{Part, part}
use Rattle.rf_base_file.specs.Shapes.{charged}
use Rattle.rf_base_file.specs.Ways.{Piece, entry_in, slot_in, first_role, later_roles, role_behind, way, plain_way, word_of, data_count, named_headers, body_way, form_way, way_of, quoted_behind}

-- a text and a weight of the limit are short, and one more of either is long
abbrev letter : Doc
letter = plain_text (codes "a")

short_to_the_limit : (text : List ℕ) (choices : List Dir) → length text ≡ LAYOUT_LIMIT →
    length choices + 1 ≡ LAYOUT_LIMIT → IsShort choices letter text
unfolding leaves_of
short_to_the_limit text choices is weighs = (omega (arith, is), omega (arith, weighs))

text_not_short : (text : List ℕ) → length text ≡ LAYOUT_LIMIT + 1 → IsShort [] letter text → ⊥
text_not_short text is h = omega (arith, is, h.0)

weight_not_short : (choices : List Dir) → length choices ≡ LAYOUT_LIMIT → IsShort choices letter [] → ⊥
unfolding leaves_of
weight_not_short choices weighs h = omega (arith, weighs, h.1)

long_text : (text : List ℕ) → length text ≡ LAYOUT_LIMIT + 1 → IsLong [] letter text
long_text text is = inl (omega (arith, is))

long_weight : (choices : List Dir) → length choices ≡ LAYOUT_LIMIT → IsLong choices letter []
unfolding leaves_of
long_weight choices weighs = inr (omega (arith, weighs))

not_long_at_the_limit : (text : List ℕ) (choices : List Dir) → length text ≡ LAYOUT_LIMIT →
    length choices + 1 ≡ LAYOUT_LIMIT → IsLong choices letter text → ⊥
unfolding leaves_of
not_long_at_the_limit text choices is weighs (inl long) = omega (arith, is, long)
not_long_at_the_limit text choices is weighs (inr long) = omega (arith, weighs, long)

-- clauses and bindings begin behind so many slots: clauses go on, and of bindings there is one list
roles_of_first : map first_role (AllFree ∷ ClausesBehind 0 ∷ ClausesBehind 1 ∷ BindingsBehind 0 ∷ BindingsBehind 1 ∷ [])
    ≡ Free ∷ Clause ∷ Free ∷ Bindings ∷ Free ∷ []
roles_of_first = refl

roles_of_later : map later_roles (AllFree ∷ ClausesBehind 0 ∷ ClausesBehind 2 ∷ BindingsBehind 0 ∷ BindingsBehind 2
    ∷ []) ≡ AllFree ∷ ClausesBehind 0 ∷ ClausesBehind 1 ∷ AllFree ∷ BindingsBehind 1 ∷ []
roles_of_later = refl

-- what stands behind a quote or a quasiquote is quoted, behind an unquote it isn't, and behind other prefixes it is as
-- before
quoted_by : map (λ prefix. quoted_behind prefix false)
    (codes "'" ∷ codes "`" ∷ codes "," ∷ codes ",@" ∷ codes "#'" ∷ codes "#`" ∷ codes "#&" ∷ [])
    ≡ true ∷ true ∷ false ∷ false ∷ false ∷ false ∷ false ∷ []
quoted_by = refl

unquoted_by : map (λ prefix. quoted_behind prefix true)
    (codes "'" ∷ codes "`" ∷ codes "," ∷ codes ",@" ∷ codes "#," ∷ codes "#,@" ∷ codes "#&" ∷ [])
    ≡ true ∷ true ∷ false ∷ false ∷ true ∷ true ∷ true ∷ []
unquoted_by = refl

-- a name before one header is a header too
headers_with_name : (named_headers 0 true ≡ 0) × (named_headers 1 true ≡ 2) × (named_headers 1 false ≡ 1)
    × (named_headers 2 true ≡ 2)
headers_with_name = (refl, refl, refl, refl)

abbrev dear : Charges
dear = record { broken = 1; hung = 2; flat = 3 }

-- behind the head and two headers, two bodies may stand on one line and three may not; where a header is missing a list
-- is an application
bodies_on_one_line : (body_way dear 2 2 5 AllFree ≡ way (Body 2 true) dear AllFree)
    × (body_way dear 2 2 6 AllFree ≡ way (Body 2 false) dear AllFree)
bodies_on_one_line = (refl, refl)

headers_alone : (body_way dear 2 0 3 (ClausesBehind 3) ≡ way (Body 2 true) dear (ClausesBehind 3))
    × (body_way dear 2 0 2 (ClausesBehind 3) ≡ way Application dear AllFree)
headers_alone = (refl, refl)

abbrev rule : Form → Rule
rule shape = record { form = shape; header = 1; flat = 1; charges = dear }

ways_of_forms : map (λ shape. form_way shape (rule shape) false 3)
    (form.App ∷ form.Hang ∷ form.Plain ∷ form.Body ∷ form.Clauses ∷ form.Bindings ∷ [])
    ≡ way Application dear AllFree ∷ way Hanging dear AllFree ∷ way Plain dear AllFree ∷ way (Body 1 true) dear AllFree
    ∷ way (Body 1 true) dear (ClausesBehind 2) ∷ way (Body 1 true) dear (BindingsBehind 1) ∷ []
ways_of_forms = refl

named_bindings : form_way form.Bindings (rule form.Bindings) true 4 ≡ way (Body 2 true) dear (BindingsBehind 2)
named_bindings = refl

-- slots of an atom, by itself and behind a key, and of comments alone
abbrev atom : Piece
atom = record { first = 0; last = 0; atom = Some (codes "a"); doc = λ quoted role. letter }

abbrev entry : Entry Piece
entry = record { sort = Datum; what = atom }

abbrev atom_slot : Slot Piece
atom_slot = slot [] None (Some entry) None

abbrev keyed_slot : Slot Piece
keyed_slot = slot [] (Some entry) (Some entry) None

abbrev comment_slot : Slot Piece
comment_slot = slot (entry ∷ []) None None None

data_are_counted : data_count (atom_slot ∷ comment_slot ∷ keyed_slot ∷ []) ≡ 2
unfolding data_count
data_are_counted = refl

-- a head is an atom without a key; a datum behind a key has no role
head_of_slot : (word_of None (Some entry) ≡ Some (codes "a")) × (word_of (Some entry) (Some entry) ≡ None)
    × (word_of None None ≡ None)
head_of_slot = (refl, refl, refl)

role_of_keyed : (role_behind None Clause ≡ Clause) × (role_behind (Some entry) Clause ≡ Free)
role_of_keyed = (refl, refl)

-- a slot whose documents tell where they stand: only its datum has the role, and all of it is quoted where it is
abbrev role_letter : Role → List ℕ
role_letter Free = codes "f"
role_letter Clause = codes "c"
role_letter Bindings = codes "b"

abbrev place : Bool → Role → Doc
place quoted role = plain_text (if quoted then 113 ∷ role_letter role else role_letter role)

abbrev placed : Entry Piece
placed = record { sort = Datum; what = record { first = 0; last = 0; atom = None; doc = place } }

abbrev docs_of : List (Entry Part) → List Doc
docs_of entries = map (λ e. e.what.doc) entries

abbrev placed_slot : Option (Entry Piece) → Slot Piece
placed_slot key = slot (placed ∷ []) key (Some placed) (Some placed)

datum_has_the_role : (slot_in true Clause (placed_slot None)
    ≡ slot (entry_in true Free placed ∷ []) None (Some (entry_in true Clause placed))
    (Some (entry_in true Free placed)))
    × (slot_in false Bindings (placed_slot (Some placed))
    ≡ slot (entry_in false Free placed ∷ []) (Some (entry_in false Free placed)) (Some (entry_in false Free placed))
    (Some (entry_in false Free placed)))
datum_has_the_role = (refl, refl)

entries_are_placed : docs_of (entry_in true Clause placed ∷ entry_in false Bindings placed ∷ [])
    ≡ plain_text (codes "qc") ∷ plain_text (codes "b") ∷ []
entries_are_placed = refl

-- what is quoted, a clause and bindings are data, whatever their head's rule
data_by_place : (way_of ((codes "a", rule form.App) ∷ []) true Free (atom_slot ∷ []) ≡ plain_way AllFree)
    × (way_of ((codes "a", rule form.App) ∷ []) false Clause (atom_slot ∷ []) ≡ plain_way AllFree)
    × (way_of ((codes "a", rule form.App) ∷ []) false Bindings (atom_slot ∷ []) ≡ plain_way (ClausesBehind 0))
data_by_place = (refl, refl, refl)

by_its_head : way_of ((codes "a", rule form.Hang) ∷ []) false Free (atom_slot ∷ []) ≡ way Hanging dear AllFree
unfolding head_rule rule_in
by_its_head = refl

without_a_head : way_of ((codes "a", rule form.Hang) ∷ []) false Free (comment_slot ∷ atom_slot ∷ [])
    ≡ plain_way AllFree
without_a_head = refl

-- a charge of nothing is none
charged_or_not : (charged 0 Newline ≡ Newline) × (charged 1 Newline ≡ Charge 1 Newline)
charged_or_not = (refl, refl)

-- the blank lines before the next part, and none behind the last
abbrev behind_two : List Token
behind_two = record { kind = Atom; start = 0; spelling = codes "a"; blanks = 2; own_line = false } ∷ []

blanks_before_next : (blanks_ahead behind_two (part 0 0 letter ∷ []) ≡ 2)
    × (blanks_ahead behind_two (part 1 1 letter ∷ []) ≡ 0) × (blanks_ahead behind_two [] ≡ 0)
blanks_before_next = (refl, refl, refl)
