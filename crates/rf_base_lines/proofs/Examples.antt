-- Worked examples of forms on one line, each of which computes: a definition that changes its meaning fails here.
use Rattle.std.proofs.Common.{◌≡◌, ℕ, false, true, List, [], ◌∷◌, ◌++◌, Option, Some, None, inl, inr, refl, sym, subst}
use lib.Chars.{codes}
use Rattle.rf_base_document.specs.declared.directions.Dir.TheVariants.{Left, Right}
use Rattle.rf_base_document.specs.Document.{Text, Newline, Hard, Concat, Nest, Flatten, Choice, Only, Charge}
use Rattle.rf_base_document.specs.Sequence.{seq_within, seq}
use Rattle.rf_base_cut.specs.DocumentLines.{IsFlattenable}
use Rattle.rf_base_grammar.specs.Characters.{is_delimiter, is_white}
use Rattle.rf_base_grammar.specs.Token.{Token}
use Rattle.rf_base_grammar.specs.Woven.{trails}
use Rattle.rf_base_grammar.specs.declared.kinds.Bracket.TheVariants.{Round}
use Rattle.rf_base_grammar.specs.declared.kinds.Kind.{Kind}
use Rattle.rf_base_grammar.specs.declared.kinds.Kind.TheVariants as kind
use Rattle.rf_base_style.specs.declared.columns.Columns.{Columns}
use Rattle.rf_base_style.specs.declared.columns.Columns.TheVariants.{Characters, Display}
use Rattle.rf_base_style.specs.declared.rules.Form.TheVariants as form
use Rattle.rf_base_style.specs.Columns.{display_length, length_in}
use Rattle.rf_base_style.specs.Table.{Table, StyleView, no_charges, uncharged, rule_in, head_rule}
use Rattle.rf_base_tree.specs.declared.separators.Want.TheVariants as want
use Rattle.rf_base_tree.specs.Trees.{Tree, Leaf, Point, Comment, Prefixed, DatumComment, Listed, Forest, Empty, Then}
use Rattle.rf_base_tree.specs.Slots.{Entry, sort_of}
use Rattle.rf_base_tree.specs.Cut.{slot, slots_of}
use Rattle.rf_base_file.specs.declared.shapes.Shape.TheVariants.{Application, Hanging, Plain, Body}
use Rattle.rf_base_file.specs.Rows.{part, item_doc, mark_doc, gap_docs, steps_docs, steps_last}
use Rattle.rf_base_file.specs.Shapes.{choice_of}
use Rattle.rf_base_file.specs.Ways.{slots_in, data_count}
use Rattle.rf_base_file.specs.FileDocument.{tree_piece, forest_entries, style_doc}
use Rattle.rf_base_lines.specs.Spelled.{Spelled, spelled, spelled_line, spelled_all}
use Rattle.rf_base_lines.specs.Flattenable.{EachIsFlattenable, PartsAreFlattenable}
use Rattle.rf_base_lines.specs.Lists.{between_docs, EachMayBreak, PartsMayBreak, SomeBreaks, BreaksWhere, IsUncharged, turns, fits, turns_of}

-- an item by its kind and its characters
abbrev token : Kind → List ℕ → Token
token kind spelling = record { kind = kind; start = 0; spelling = spelling; blanks = 0; own_line = false }

abbrev opener : Token
opener = token (kind.Opener Round) (codes "(")

abbrev closer : Token
closer = token (kind.Closer Round) (codes ")")

abbrev a : Token
a = token kind.Atom (codes "a")

abbrev b : Token
b = token kind.Atom (codes "b")

abbrev c : Token
c = token kind.Atom (codes "c")

abbrev comment : Token
comment = token kind.Line (codes "; c")

abbrev if_ : Token
if_ = token kind.Atom (codes "if")

abbrev define : Token
define = token kind.Atom (codes "define")

abbrev struct : Token
struct = token kind.Atom (codes "struct")

-- a style of some heads, its columns counted in this way
abbrev a_table : Table
a_table =
    (codes "if", uncharged form.Hang 0 0) ∷ (codes "define", uncharged form.Body 1 1) ∷ (codes "struct", uncharged form.Body 2 1)
    ∷ (codes "begin", uncharged form.Body 0 1)
    ∷ (codes "dear", record { form = form.App; header = 0; flat = 0; charges = record { broken = 1; hung = 0; flat = 2 } }) ∷ []

abbrev a_style : Columns → StyleView
a_style columns = record { width = 102; limit = 120; blanks = 1; columns = columns; table = a_table }

abbrev an_entry : List Token → Tree → Entry Tree
an_entry ts tree = record { sort = sort_of ts tree; what = tree }

-- what is written on one line of a top-level slot of this tree
abbrev written : List Token → Tree → Option Spelled
written ts tree = spelled_line (style_doc (a_style Characters) ts (slot [] None (Some (an_entry ts tree)) None)) false

-- the leaves of these numbers
abbrev two_leaves : ℕ → ℕ → Forest
two_leaves i j = Then (Leaf i) (Then (Leaf j) Empty)

abbrev three_leaves : ℕ → ℕ → ℕ → Forest
three_leaves i j k = Then (Leaf i) (two_leaves j k)

abbrev four_leaves : ℕ → ℕ → ℕ → ℕ → Forest
four_leaves i j k l = Then (Leaf i) (three_leaves j k l)

-- `()`: two brackets
empty : written (opener ∷ closer ∷ []) (Listed 0 Empty 1) ≡ Some (spelled 2 ([]) (codes "()") 2)
unfolding spelled_line spelled_all seq seq_within slots_of steps_docs steps_last tree_piece forest_entries style_doc slots_in data_count choice_of head_rule rule_in length_in is_delimiter is_white
empty = refl

-- `(a)`: one slot has no choice
single : written (opener ∷ a ∷ closer ∷ []) (Listed 0 (Then (Leaf 1) Empty) 2) ≡ Some (spelled 3 ([]) (codes "(a)") 3)
unfolding spelled_line spelled_all seq seq_within slots_of steps_docs steps_last tree_piece forest_entries style_doc slots_in data_count choice_of head_rule rule_in length_in is_delimiter is_white
single = refl

-- `(a b)`: two slots of an application stand on one line where the second is hung
pair : written (opener ∷ a ∷ b ∷ closer ∷ []) (Listed 0 (two_leaves 1 2) 3) ≡ Some (spelled 5 (Right ∷ Left ∷ []) (codes "(a b)") 5)
unfolding spelled_line spelled_all seq seq_within slots_of steps_docs steps_last tree_piece forest_entries style_doc slots_in data_count choice_of head_rule rule_in length_in is_delimiter is_white
pair = refl

-- `(a b c)`: three are flat
three : written (opener ∷ a ∷ b ∷ c ∷ closer ∷ []) (Listed 0 (three_leaves 1 2 3) 4) ≡ Some (spelled 7 (Right ∷ Right ∷ []) (codes "(a b c)") 7)
unfolding spelled_line spelled_all seq seq_within slots_of steps_docs steps_last tree_piece forest_entries style_doc slots_in data_count choice_of head_rule rule_in length_in is_delimiter is_white
three = refl

-- `(if a)` and `(if a b)`: what is hung
if_two : written (opener ∷ if_ ∷ a ∷ closer ∷ []) (Listed 0 (two_leaves 1 2) 3) ≡ Some (spelled 6 (Left ∷ []) (codes "(if a)") 5)
unfolding spelled_line spelled_all seq seq_within slots_of steps_docs steps_last tree_piece forest_entries style_doc slots_in data_count choice_of head_rule rule_in length_in is_delimiter is_white
if_two = refl

-- and what is flat
if_three : written (opener ∷ if_ ∷ a ∷ b ∷ closer ∷ []) (Listed 0 (three_leaves 1 2 3) 4) ≡ Some (spelled 8 (Right ∷ []) (codes "(if a b)") 7)
unfolding spelled_line spelled_all seq seq_within slots_of steps_docs steps_last tree_piece forest_entries style_doc slots_in data_count choice_of head_rule rule_in length_in is_delimiter is_white
if_three = refl

-- `(define a)`: a body form without a body is its first layout
define_header : written (opener ∷ define ∷ a ∷ closer ∷ []) (Listed 0 (two_leaves 1 2) 3) ≡ Some (spelled 10 (Left ∷ []) (codes "(define a)") 5)
unfolding spelled_line spelled_all seq seq_within slots_of steps_docs steps_last tree_piece forest_entries style_doc slots_in data_count choice_of head_rule rule_in length_in is_delimiter is_white
define_header = refl

-- `(define a b)`: with one it is flat
define_body : written (opener ∷ define ∷ a ∷ b ∷ closer ∷ []) (Listed 0 (three_leaves 1 2 3) 4) ≡ Some (spelled 12 (Right ∷ []) (codes "(define a b)") 7)
unfolding spelled_line spelled_all seq seq_within slots_of steps_docs steps_last tree_piece forest_entries style_doc slots_in data_count choice_of head_rule rule_in length_in is_delimiter is_white
define_body = refl

-- `(define a b c)`: of more bodies than may stand on one line none does
define_bodies : written (opener ∷ define ∷ a ∷ b ∷ c ∷ closer ∷ []) (Listed 0 (four_leaves 1 2 3 4) 5) ≡ None
unfolding spelled_line spelled_all seq seq_within slots_of steps_docs steps_last tree_piece forest_entries style_doc slots_in data_count choice_of head_rule rule_in length_in is_delimiter is_white
define_bodies = refl

-- `(struct a b)`: two headers without a body
struct_headers : written (opener ∷ struct ∷ a ∷ b ∷ closer ∷ []) (Listed 0 (three_leaves 1 2 3) 4) ≡ Some (spelled 12 (Left ∷ []) (codes "(struct a b)") 7)
unfolding spelled_line spelled_all seq seq_within slots_of steps_docs steps_last tree_piece forest_entries style_doc slots_in data_count choice_of head_rule rule_in length_in is_delimiter is_white
struct_headers = refl

-- `(struct a b c)`: behind two headers the flat layout is the third
struct_body : written (opener ∷ struct ∷ a ∷ b ∷ c ∷ closer ∷ []) (Listed 0 (four_leaves 1 2 3 4) 5) ≡ Some (spelled 14 (Right ∷ Right ∷ []) (codes "(struct a b c)") 9)
unfolding spelled_line spelled_all seq seq_within slots_of steps_docs steps_last tree_piece forest_entries style_doc slots_in data_count choice_of head_rule rule_in length_in is_delimiter is_white
struct_body = refl

-- `(struct a)`: where headers are missing it is an application
struct_name : written (opener ∷ struct ∷ a ∷ closer ∷ []) (Listed 0 (two_leaves 1 2) 3) ≡ Some (spelled 10 (Right ∷ Left ∷ []) (codes "(struct a)") 5)
unfolding spelled_line spelled_all seq seq_within slots_of steps_docs steps_last tree_piece forest_entries style_doc slots_in data_count choice_of head_rule rule_in length_in is_delimiter is_white
struct_name = refl

-- `(begin a)`: no header
begin_body : written (opener ∷ token kind.Atom (codes "begin") ∷ a ∷ closer ∷ []) (Listed 0 (two_leaves 1 2) 3) ≡ Some (spelled 9 (Right ∷ []) (codes "(begin a)") 5)
unfolding spelled_line spelled_all seq seq_within slots_of steps_docs steps_last tree_piece forest_entries style_doc slots_in data_count choice_of head_rule rule_in length_in is_delimiter is_white
begin_body = refl

-- `'(a b)`: what is quoted is flat from two slots on
quoted : written (token kind.Prefix (codes "'") ∷ opener ∷ a ∷ b ∷ closer ∷ []) (Prefixed 0 Empty (Listed 1 (two_leaves 2 3) 4)) ≡ Some (spelled 6 (Right ∷ []) (codes "'(a b)") 6)
unfolding spelled_line spelled_all seq seq_within slots_of steps_docs steps_last tree_piece forest_entries style_doc slots_in data_count choice_of head_rule rule_in length_in is_delimiter is_white
quoted = refl

-- `'(a . b)`: a dot and its datum are one slot
dotted : written (token kind.Prefix (codes "'") ∷ opener ∷ a ∷ token kind.Dot (codes ".") ∷ b ∷ closer ∷ []) (Prefixed 0 Empty (Listed 1 (Then (Leaf 2) (Then (Point 3) (Then (Leaf 4) Empty))) 5)) ≡ Some (spelled 8 (Right ∷ []) (codes "'(a . b)") 8)
unfolding spelled_line spelled_all seq seq_within slots_of steps_docs steps_last tree_piece forest_entries style_doc slots_in data_count choice_of head_rule rule_in length_in is_delimiter is_white
dotted = refl

-- `(a (b c))`: a list in what is hung isn't flat
nested : written (opener ∷ a ∷ opener ∷ b ∷ c ∷ closer ∷ closer ∷ []) (Listed 0 (Then (Leaf 1) (Then (Listed 2 (two_leaves 3 4) 5) Empty)) 6) ≡ Some (spelled 9 (Right ∷ Left ∷ Right ∷ Left ∷ []) (codes "(a (b c))") 9)
unfolding spelled_line spelled_all seq seq_within slots_of steps_docs steps_last tree_piece forest_entries style_doc slots_in data_count choice_of head_rule rule_in length_in is_delimiter is_white
nested = refl

-- `(a b (a c))`: a list in what is flat is its first layout
nested_flat : written (opener ∷ a ∷ b ∷ opener ∷ a ∷ c ∷ closer ∷ closer ∷ []) (Listed 0 (Then (Leaf 1) (Then (Leaf 2) (Then (Listed 3 (two_leaves 4 5) 6) Empty))) 7) ≡ Some (spelled 11 (Right ∷ Right ∷ Left ∷ []) (codes "(a b (a c))") 11)
unfolding spelled_line spelled_all seq seq_within slots_of steps_docs steps_last tree_piece forest_entries style_doc slots_in data_count choice_of head_rule rule_in length_in is_delimiter is_white
nested_flat = refl

-- `(dear a b)`: what is charged is no line
dear : written (opener ∷ token kind.Atom (codes "dear") ∷ a ∷ b ∷ closer ∷ []) (Listed 0 (three_leaves 1 2 3) 4) ≡ None
unfolding spelled_line spelled_all seq seq_within slots_of steps_docs steps_last tree_piece forest_entries style_doc slots_in data_count choice_of head_rule rule_in length_in is_delimiter is_white
dear = refl

-- a string of two lines is on no line, nor is a list with one
several_lines : written (token kind.Str (codes "\"x" ++ (10 ∷ codes "y\"")) ∷ []) (Leaf 0) ≡ None
unfolding spelled_line spelled_all seq seq_within slots_of steps_docs steps_last tree_piece forest_entries style_doc slots_in data_count choice_of head_rule rule_in length_in is_delimiter is_white
several_lines = refl

-- the same in a list
several_lines_inside : written (opener ∷ a ∷ token kind.Str (codes "\"x" ++ (10 ∷ codes "y\"")) ∷ closer ∷ []) (Listed 0 (two_leaves 1 2) 3) ≡ None
unfolding spelled_line spelled_all seq seq_within slots_of steps_docs steps_last tree_piece forest_entries style_doc slots_in data_count choice_of head_rule rule_in length_in is_delimiter is_white
several_lines_inside = refl

-- `(a ; c` and a closer on the next line
comment_inside : written (opener ∷ a ∷ comment ∷ closer ∷ []) (Listed 0 (Then (Leaf 1) (Then (Comment 2) Empty)) 3) ≡ None
unfolding spelled_line spelled_all seq seq_within slots_of steps_docs steps_last tree_piece forest_entries style_doc slots_in data_count choice_of head_rule rule_in length_in is_delimiter is_white
comment_inside = refl

-- `(a #;b c)`: a slot that begins with a comment is flat, and so is the list
skip_inside : written (opener ∷ a ∷ token kind.Skip (codes "#;") ∷ b ∷ c ∷ closer ∷ []) (Listed 0 (Then (Leaf 1) (Then (DatumComment 2 Empty (Leaf 3)) (Then (Leaf 4) Empty))) 5)
    ≡ Some (spelled 9 (Right ∷ Right ∷ []) (codes "(a #;b c)") 8)
unfolding spelled_line spelled_all seq seq_within slots_of steps_docs steps_last tree_piece forest_entries style_doc slots_in data_count choice_of head_rule rule_in length_in is_delimiter is_white
skip_inside = refl

-- `a ; c`: a comment behind a form on its line
trailing : spelled_line (style_doc (a_style Characters) (a ∷ comment ∷ []) (slot [] None (Some (an_entry (a ∷ comment ∷ []) (Leaf 0))) (Some (an_entry (a ∷ comment ∷ []) (Comment 1))))) false ≡ Some (spelled 5 [] (codes "a ; c") 3)
unfolding spelled_line spelled_all seq seq_within slots_of steps_docs steps_last tree_piece forest_entries style_doc slots_in data_count choice_of head_rule rule_in length_in is_delimiter is_white
trailing = refl

-- an item's columns are counted as the style does, and a mark's are its characters
wide : (spelled_line (item_doc Display (token kind.Atom (97 ∷ 0x6F22 ∷ []) ∷ []) 0) false ≡ Some (spelled (display_length (97 ∷ 0x6F22 ∷ [])) [] (97 ∷ 0x6F22 ∷ []) 1))
    × (spelled_line (mark_doc (token kind.Prefix (codes ",@") ∷ []) 0) false ≡ Some (spelled 2 [] (codes ",@") 1))
unfolding spelled_line seq seq_within length_in
wide = (refl, refl)

-- of a comment that trails a space is always wanted, and of other items what is
space_before_comment : spelled_all (gap_docs (a ∷ comment ∷ []) 0 1 want.Line) false ≡ Some (spelled 1 [] (32 ∷ []) 1)
unfolding spelled_line spelled_all
space_before_comment = refl

line_before_atom : (spelled_all (gap_docs (a ∷ b ∷ []) 0 1 want.Line) false ≡ None) × (spelled_all (gap_docs (a ∷ b ∷ []) 0 1 want.Line) true ≡ Some (spelled 1 [] (32 ∷ []) 1))
unfolding spelled_line spelled_all
line_before_atom = (refl, refl)

break_behind_comment : (spelled_all (gap_docs (comment ∷ b ∷ []) 0 1 want.Nothing) true ≡ None) × (spelled_all (gap_docs (a ∷ comment ∷ []) 5 6 want.Line) false ≡ Some (spelled 0 [] [] 0))
unfolding spelled_line spelled_all
break_behind_comment = (refl, refl)

-- choices stand in order, a direction before those of its side; a break, a flat hard one and a charge are none
directions : spelled_line (Concat (Choice Newline (Text (97 ∷ []) 1)) (Only Left (Nest 2 (Choice (Flatten Hard) (Flatten Newline))))) false
    ≡ Some (spelled 2 (Right ∷ Left ∷ Right ∷ []) (97 ∷ 32 ∷ []) 2)
unfolding spelled_line
directions = refl

no_line : (spelled_line Newline false ≡ None) × (spelled_line Hard true ≡ None) × (spelled_line (Charge 0 (Text [] 0)) true ≡ None)
unfolding spelled_line
no_line = (refl, refl, refl)

-- without parts nothing stands between brackets
between_none : between_docs (opener ∷ closer ∷ []) 0 [] 1 ≡ []
between_none = refl

-- lines may stand between atoms, and none before a comment that trails or an item that isn't there
atoms_may_break : PartsMayBreak (opener ∷ a ∷ b ∷ closer ∷ []) (part 1 1 Newline ∷ part 2 2 Newline ∷ [])
unfolding EachMayBreak
atoms_may_break = ((a, b, refl, refl, refl), tt)

three_may_break : PartsMayBreak (opener ∷ a ∷ b ∷ c ∷ closer ∷ []) (part 1 1 Newline ∷ part 2 2 Newline ∷ part 3 3 Newline ∷ [])
unfolding EachMayBreak
three_may_break = ((a, b, refl, refl, refl), ((b, c, refl, refl, refl), tt))

nothing_charged : IsUncharged no_charges
nothing_charged = (refl, refl, refl)

comment_may_not : PartsMayBreak (a ∷ comment ∷ []) (part 0 0 Newline ∷ part 1 1 Newline ∷ []) → ⊥
unfolding EachMayBreak
comment_may_not h =
    let next : Some comment ≡ Some h.0.1 = h.0.3 in
    let trails_not : true ≡ false = subst (λ (t : Token). trails t ≡ false) (sym (some_token comment h.0.1 next)) h.0.4 in
    cc
  where
    some_token : (x y : Token) → Some x ≡ Some y → x ≡ y
    some_token x y e = cc

missing_may_not : PartsMayBreak (a ∷ []) (part 0 0 Newline ∷ part 1 1 Newline ∷ []) → ⊥
unfolding EachMayBreak
missing_may_not h = let next : None ≡ Some h.0.1 = h.0.3 in cc

-- what is flat is the first layout of two slots or more, and there is none of bodies that may not stand on one line
flat_first : (turns_of Application 3 true false ≡ Some (turns (Left ∷ []) true)) × (turns_of (Body 2 true) 2 true false ≡ Some (turns (Left ∷ []) true)) × (turns_of Plain 1 true false ≡ Some (turns [] true))
flat_first = (refl, refl, refl)

bodies_apart : (turns_of (Body 1 false) 3 false false ≡ None) × (turns_of (Body 1 false) 1 false false ≡ Some (turns [] false))
bodies_apart = (refl, refl)

-- headers end where the number of slots tells
headers_end : (turns_of (Body 2 true) 3 false false ≡ Some (turns (Left ∷ []) false)) × (turns_of (Body 2 true) 4 false false ≡ Some (turns (Right ∷ Right ∷ []) true)) × (turns_of (Body 1 true) 3 false false ≡ Some (turns (Right ∷ []) true))
headers_end = (refl, refl, refl)

-- what breaks is flat whatever the number of its slots is
broken_is_flat : (turns_of Application 2 false true ≡ Some (turns (Right ∷ Right ∷ []) true)) × (turns_of Hanging 2 false true ≡ Some (turns (Right ∷ []) true))
    × (turns_of (Body 2 true) 3 false true ≡ Some (turns (Right ∷ Right ∷ []) true)) × (turns_of (Body 1 true) 2 false true ≡ Some (turns (Right ∷ []) true))
    × (turns_of Application 1 false true ≡ Some (turns [] false)) × (turns_of Hanging 2 true true ≡ Some (turns (Left ∷ []) true))
broken_is_flat = (refl, refl, refl, refl, refl, refl)

-- and what doesn't is told by that number
fits_are : (fits 2 2 false ≡ true) × (fits 3 2 false ≡ false) × (fits 2 2 true ≡ false)
fits_are = (refl, refl, refl)

-- a part that is on no line unless flat, among others
some_breaks_are : SomeBreaks (part 0 0 (Text (codes "a") 1) ∷ part 1 1 Newline ∷ []) × (SomeBreaks (part 0 0 (Flatten Newline) ∷ []) → ⊥) × (SomeBreaks [] → ⊥)
unfolding SomeBreaks spelled_line
some_breaks_are = (inr (inl refl), λ h. elim h [ inl e ↦ cc | inr e ↦ e ], λ h. h)

-- it breaks only where it is said to
breaks_where : BreaksWhere true (a ∷ b ∷ []) 0 (part 1 1 Newline ∷ []) 1 × BreaksWhere false (a ∷ b ∷ []) 0 [] 1
unfolding spelled_line spelled_all steps_docs steps_last is_delimiter is_white
breaks_where = (λ e. refl, λ e. cc)

-- each of some documents is flattenable, and so of parts: none has a hard newline or a charge
flattenable : EachIsFlattenable (Newline ∷ Text (codes "a") 1 ∷ []) × (EachIsFlattenable (Newline ∷ Hard ∷ []) → ⊥)
    × PartsAreFlattenable (part 0 0 Newline ∷ part 1 1 (Text (codes "a") 1) ∷ []) × (PartsAreFlattenable (part 0 0 Newline ∷ part 1 1 (Charge 1 Newline) ∷ []) → ⊥)
unfolding IsFlattenable
flattenable = ((tt, (tt, tt)), λ h. h.1.0, (tt, (tt, tt)), λ h. h.1.0)
