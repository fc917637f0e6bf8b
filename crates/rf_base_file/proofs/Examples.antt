-- Worked examples of layouts: a definition that changes its meaning fails here.
use Rattle.std.proofs.Common.{◌≡◌, ℕ, ◌+◌, Bool, false, true, List, [], ◌∷◌, Option, Some, None, refl}
use Rattle.std.specs.Prelude.{map, nat_le}
use Rattle.std.specs.Option.{option_map}
use lib.Chars.{codes}
use Prim.Native.String.{String}
use Rattle.rf_base_document.specs.declared.directions.Dir.{Dir}
use Rattle.rf_base_document.specs.declared.directions.Dir.TheVariants.{Left, Right}
use Rattle.rf_base_document.specs.Document.{Doc, Newline, Hard, Align, Flatten, Choice, Charge, plain_text}
use Rattle.rf_base_document.specs.Sequence.{seq_within, seq}
use Rattle.rf_base_document.specs.Render.{render, layout}
use Rattle.rf_base_document.specs.Simple.{simple}
use Rattle.rf_base_grammar.specs.Characters.{is_delimiter, is_white}
use Rattle.rf_base_grammar.specs.Token.{Token}
use Rattle.rf_base_grammar.specs.declared.kinds.Bracket.TheVariants.{Round}
use Rattle.rf_base_grammar.specs.declared.kinds.Kind.{Kind}
use Rattle.rf_base_grammar.specs.declared.kinds.Kind.TheVariants.{Opener, Closer, Prefix, Skip, Dot, Atom, Str, Line}
use Rattle.rf_base_tree.specs.Trees.{Tree, Leaf, Point, Comment, Prefixed, DatumComment, Listed, Forest, Empty, Then}
use Rattle.rf_base_tree.specs.Cut.{slots_of}
use Rattle.rf_base_cost.specs.Cost.{Costs}
use Rattle.rf_base_cost.specs.Pareto.{undominated, placed, by_last, pareto}
use Rattle.rf_base_optimum.specs.Plain.{all_joined, plain}
use Rattle.rf_base_optimum.specs.Chosen.{choose}
use Rattle.rf_base_style.specs.declared.columns.Columns.TheVariants.{Characters}
use Rattle.rf_base_style.specs.declared.rules.Form.TheVariants as form
use Rattle.rf_base_style.specs.Columns.{length_in}
use Rattle.rf_base_style.specs.Table.{Table, StyleView, uncharged, rule_in, head_rule}
use Rattle.rf_base_file.specs.Rows.{steps_docs, steps_last}
use Rattle.rf_base_file.specs.Shapes.{choice_of}
use Rattle.rf_base_file.specs.Ways.{slots_in, data_count}
use Rattle.rf_base_file.specs.FileDocument.{tree_piece, forest_entries, style_doc, file_doc}
use Rattle.rf_base_file.specs.LaidOut.{source_doc}
use Rattle.rf_base_file.specs.ByForms.{parts_paragraphs, file_paragraphs, chosen_by_slots, by_forms}
use Rattle.rf_base_file.proofs.Picking.{resolved, text_by, EachTold, each_told}

-- an item by its kind and its characters, behind this many blank lines
abbrev below : ℕ → Kind → String → Token
below blanks kind text = record { kind = kind; start = 0; spelling = codes text; blanks = blanks; own_line = false }

abbrev token : Kind → String → Token
token kind text = below 0 kind text

abbrev opener : Token
opener = token (Opener Round) "("

abbrev closer : Token
closer = token (Closer Round) ")"

abbrev a : Token
a = token Atom "a"

abbrev b : Token
b = token Atom "b"

abbrev c : Token
c = token Atom "c"

abbrev comment : Bool → Token
comment own_line = record { kind = Line; start = 0; spelling = codes "; c"; blanks = 0; own_line = own_line }

abbrev leaves : List ℕ → Forest
leaves [] = Empty
leaves (item ∷ items) = Then (Leaf item) (leaves items)

abbrev forest : List Tree → Forest
forest [] = Empty
forest (tree ∷ trees) = Then tree (forest trees)

-- a style of some heads
abbrev a_table : Table
a_table =
    (codes "if", uncharged form.Hang 0 0) ∷ (codes "define", uncharged form.Body 1 1)
    ∷ (codes "struct", uncharged form.Body 2 0)
    ∷ (codes "cond", uncharged form.Clauses 0 0) ∷ (codes "let", uncharged form.Bindings 1 0)
    ∷ (
      codes "dear",
      record { form = form.App; header = 0; flat = 0; charges = record { broken = 1; hung = 0; flat = 2 } },
    ) ∷ []

abbrev a_style : StyleView
a_style = record { width = 102; limit = 120; blanks = 1; columns = Characters; table = a_table }

abbrev writes : String → Option (List ℕ)
writes text = Some (codes text)

-- the source of these items and trees is laid out by each of these choices so, or by none where it says `None`
record LaidOut (ts : List Token) (trees : Forest) (rows : List (List Dir × Option (List ℕ))) : Type 0 where
  each : EachTold (source_doc a_style ts trees) rows

-- the text that these choices write
text_of : List Token → Forest → List Dir → Option (List ℕ)
unfolding resolved seq seq_within render layout slots_of steps_docs steps_last tree_piece forest_entries style_doc
    file_doc slots_in data_count choice_of head_rule rule_in length_in is_delimiter is_white
text_of ts trees choices = text_by (source_doc a_style ts trees) choices

laid_out : (ts : List Token) (trees : Forest) (rows : List (List Dir × Option (List ℕ))) →
    map (λ row. text_of ts trees row.0) rows ≡ map (λ row. row.1) rows → LaidOut ts trees rows
unfolding text_of
laid_out ts trees rows e = record { each = each_told (source_doc a_style ts trees) rows e }

-- costs that count breaks and charges
abbrev breaks : Costs ℕ
breaks = record {
  is_value = λ a. true;
  text = λ column len. 0;
  newline = λ indentation. 1;
  charge = λ k. k;
  add = λ a b. a + b;
  le = nat_le;
}

-- the choices that are chosen of a source where layouts within w columns are sought
chosen_within : ℕ → List Token → Forest → Option (List Dir)
chosen_within w ts trees =
    option_map (λ core. (choose breaks w core 0 0).choices) (simple (source_doc a_style ts trees) false)

-- `(a b)`: each slot on a line of its own; the first slot before the second; all on one line
abbrev pair : List Token
pair = opener ∷ a ∷ b ∷ closer ∷ []

abbrev pair_trees : Forest
pair_trees = forest (Listed 0 (leaves (1 ∷ 2 ∷ [])) 3 ∷ [])

pair_laid_out : LaidOut pair pair_trees
    ((Left ∷ [], writes "(a\n b)\n")
    ∷ (Right ∷ Left ∷ [], writes "(a b)\n")
    ∷ (Right ∷ Right ∷ [], writes "(a b)\n")
    ∷ [])
unfolding text_of
pair_laid_out = laid_out _ _ _ refl

-- `(a b c)`: what is hung stands below the second slot
three : LaidOut (opener ∷ a ∷ b ∷ c ∷ closer ∷ []) (forest (Listed 0 (leaves (1 ∷ 2 ∷ 3 ∷ [])) 4 ∷ []))
    ((Right ∷ Left ∷ [], writes "(a b\n   c)\n") ∷ (Right ∷ Right ∷ [], writes "(a b c)\n") ∷ [])
unfolding text_of
three = laid_out _ _ _ refl

-- `(a ; c` and a closer on the next line: the closer stands below the slot, and no choice is left
abbrev commented : List Token
commented = opener ∷ a ∷ comment false ∷ closer ∷ []

abbrev commented_trees : Forest
commented_trees = forest (Listed 0 (forest (Leaf 1 ∷ Comment 2 ∷ [])) 3 ∷ [])

commented_laid_out : LaidOut commented commented_trees (([], writes "(a ; c\n )\n") ∷ [])
unfolding text_of
commented_laid_out = laid_out _ _ _ refl

-- a comment on a line of its own is the lead of the slot behind it
led : LaidOut (opener ∷ a ∷ comment true ∷ b ∷ closer ∷ [])
    (forest (Listed 0 (forest (Leaf 1 ∷ Comment 2 ∷ Leaf 3 ∷ [])) 4 ∷ []))
    ((Right ∷ Left ∷ [], writes "(a\n ; c\n b)\n") ∷ [])
unfolding text_of
led = laid_out _ _ _ refl

-- `#;#;a b` and, on the next line, `c`: a datum comment whose lead is a datum comment
skipped : LaidOut (token Skip "#;" ∷ token Skip "#;" ∷ a ∷ b ∷ c ∷ [])
    (forest (DatumComment 0 (forest (DatumComment 1 Empty (Leaf 2) ∷ [])) (Leaf 3) ∷ Leaf 4 ∷ []))
    (([], writes "#;#;a b\nc\n") ∷ [])
unfolding text_of
skipped = laid_out _ _ _ refl

-- `'(a . b)`: behind the prefix the list is aligned, and the dot is the key of what is behind it
quoted : LaidOut (token Prefix "'" ∷ opener ∷ a ∷ token Dot "." ∷ b ∷ closer ∷ [])
    (forest (Prefixed 0 Empty (Listed 1 (forest (Leaf 2 ∷ Point 3 ∷ Leaf 4 ∷ [])) 5) ∷ []))
    ((Left ∷ [], writes "'(a\n  . b)\n") ∷ [])
unfolding text_of
quoted = laid_out _ _ _ refl

-- `(a #:k b)`: a keyword and its datum stand on one line
keyed : LaidOut (opener ∷ a ∷ token Atom "#:k" ∷ b ∷ closer ∷ []) (forest (Listed 0 (leaves (1 ∷ 2 ∷ 3 ∷ [])) 4 ∷ []))
    ((Left ∷ [], writes "(a\n #:k b)\n") ∷ [])
unfolding text_of
keyed = laid_out _ _ _ refl

-- of two blank lines between forms one is kept, and of those at the beginning none
apart : LaidOut (below 3 Atom "a" ∷ below 2 Atom "b" ∷ []) (leaves (0 ∷ 1 ∷ [])) (([], writes "a\n\nb\n") ∷ [])
unfolding text_of
apart = laid_out _ _ _ refl

-- a blank line in a list is kept whichever way is taken, and all on one line there is none then
parted : LaidOut (opener ∷ a ∷ below 1 Atom "b" ∷ closer ∷ []) pair_trees
    ((Right ∷ Left ∷ [], writes "(a\n\n b)\n") ∷ (Right ∷ Right ∷ [], None) ∷ [])
unfolding text_of
parted = laid_out _ _ _ refl

-- a string of two lines is kept as it is spelled, also where it is indented
lined : LaidOut (opener ∷ a ∷ token Str "\"x\ny\"" ∷ closer ∷ []) pair_trees
    ((Left ∷ [], writes "(a\n \"x\ny\")\n") ∷ [])
unfolding text_of
lined = laid_out _ _ _ refl

nothing : LaidOut [] Empty (([], writes "") ∷ [])
unfolding text_of
nothing = laid_out _ _ _ refl

-- `(a (b c))`: the outer list's choice and the inner one's
abbrev nested : List Token
nested = opener ∷ a ∷ opener ∷ b ∷ c ∷ closer ∷ closer ∷ []

abbrev nested_trees : Forest
nested_trees = forest (Listed 0 (forest (Leaf 1 ∷ Listed 2 (leaves (3 ∷ 4 ∷ [])) 5 ∷ [])) 6 ∷ [])

nested_laid_out : LaidOut nested nested_trees ((Left ∷ Left ∷ [], writes "(a\n (b\n  c))\n") ∷ [])
unfolding text_of
nested_laid_out = laid_out _ _ _ refl

-- five columns are just enough for one line, and of equal layouts the earlier one is chosen; in four it breaks; where
-- nothing is within, the first alternatives that have a layout; and where there is no choice, none
chosen : (chosen_within 5 pair pair_trees ≡ Some (Right ∷ Left ∷ []))
    × (chosen_within 4 pair pair_trees ≡ Some (Left ∷ []))
    × (chosen_within 1 nested nested_trees ≡ Some (Left ∷ Left ∷ []))
    × (chosen_within 5 commented commented_trees ≡ Some [])
unfolding chosen_within choose plain all_joined pareto undominated by_last placed simple seq seq_within slots_of
    steps_docs steps_last tree_piece forest_entries style_doc file_doc slots_in data_count choice_of head_rule rule_in
    length_in is_delimiter is_white
chosen = (refl, refl, refl, refl)

abbrev hanging_trees : Forest
hanging_trees = forest (Listed 0 (leaves (1 ∷ 2 ∷ 3 ∷ [])) 4 ∷ [])

-- `(if a b)`: below the second slot, or on one line
hanging : LaidOut (opener ∷ token Atom "if" ∷ a ∷ b ∷ closer ∷ []) hanging_trees
    ((Left ∷ [], writes "(if a\n    b)\n") ∷ (Right ∷ [], writes "(if a b)\n") ∷ [])
unfolding text_of
hanging = laid_out _ _ _ refl

-- `(define a b)`: the header beside the head, and the body below it or on the same line
bodied : LaidOut (opener ∷ token Atom "define" ∷ a ∷ b ∷ closer ∷ [])
    (forest (Listed 0 (leaves (1 ∷ 2 ∷ 3 ∷ [])) 4 ∷ []))
    ((Left ∷ [], writes "(define a\n  b)\n") ∷ (Right ∷ [], writes "(define a b)\n") ∷ [])
unfolding text_of
bodied = laid_out _ _ _ refl

-- `(struct a b c)`: two headers on one line, or below one another; the body never stands on their line
two_headers : LaidOut (opener ∷ token Atom "struct" ∷ a ∷ b ∷ c ∷ closer ∷ [])
    (forest (Listed 0 (leaves (1 ∷ 2 ∷ 3 ∷ 4 ∷ [])) 5 ∷ []))
    ((Left ∷ [], writes "(struct a b\n  c)\n") ∷ (Right ∷ [], writes "(struct a\n        b\n  c)\n") ∷ [])
unfolding text_of
two_headers = laid_out _ _ _ refl

-- `(cond (a b))`: a clause is data, so it has two layouts
clause : LaidOut (opener ∷ token Atom "cond" ∷ opener ∷ a ∷ b ∷ closer ∷ closer ∷ [])
    (forest (Listed 0 (forest (Leaf 1 ∷ Listed 2 (leaves (3 ∷ 4 ∷ [])) 5 ∷ [])) 6 ∷ []))
    ((Left ∷ [], writes "(cond\n  (a\n   b))\n") ∷ (Right ∷ [], writes "(cond\n  (a b))\n") ∷ [])
unfolding text_of
clause = laid_out _ _ _ refl

-- `(let ((if b)) c)`: bindings are clauses, whatever their first slot is
bound : LaidOut (opener ∷ token Atom "let" ∷ opener ∷ opener ∷ token Atom "if" ∷ b ∷ closer ∷ closer ∷ c ∷ closer ∷ [])
    (forest (Listed 0
    (forest (Leaf 1 ∷ Listed 2 (forest (Listed 3 (leaves (4 ∷ 5 ∷ [])) 6 ∷ [])) 7 ∷ Leaf 8 ∷ [])) 9 ∷ []))
    ((Left ∷ [], writes "(let ((if\n       b))\n  c)\n") ∷ (Right ∷ [], writes "(let ((if b))\n  c)\n") ∷ [])
unfolding text_of
bound = laid_out _ _ _ refl

-- `(let a ((b c)) a)`: a name before bindings is a header too
named : LaidOut (opener ∷ token Atom "let" ∷ a ∷ opener ∷ opener ∷ b ∷ c ∷ closer ∷ closer ∷ a ∷ closer ∷ [])
    (forest (Listed 0
    (forest (Leaf 1 ∷ Leaf 2 ∷ Listed 3 (forest (Listed 4 (leaves (5 ∷ 6 ∷ [])) 7 ∷ [])) 8 ∷ Leaf 9 ∷ [])) 10 ∷ []))
    ((Left ∷ Right ∷ [], writes "(let a ((b c))\n  a)\n")
    ∷ (Right ∷ Right ∷ [], writes "(let a\n     ((b c))\n  a)\n")
    ∷ [])
unfolding text_of
named = laid_out _ _ _ refl

-- `'(if a b)`: what is quoted is data
quoting : LaidOut (token Prefix "'" ∷ opener ∷ token Atom "if" ∷ a ∷ b ∷ closer ∷ [])
    (forest (Prefixed 0 Empty (Listed 1 (leaves (2 ∷ 3 ∷ 4 ∷ [])) 5) ∷ []))
    ((Left ∷ [], writes "'(if\n  a\n  b)\n") ∷ [])
unfolding text_of
quoting = laid_out _ _ _ refl

-- ``(a ,@(if b c))`: until it is unquoted
unquoting : LaidOut
    (token Prefix "`" ∷ opener ∷ a ∷ token Prefix ",@" ∷ opener ∷ token Atom "if" ∷ b ∷ c ∷ closer ∷ closer ∷ [])
    (forest (Prefixed 0 Empty (Listed 1
    (forest (Leaf 2 ∷ Prefixed 3 Empty (Listed 4 (leaves (5 ∷ 6 ∷ 7 ∷ [])) 8) ∷ [])) 9) ∷ []))
    ((Left ∷ Left ∷ [], writes "`(a\n  ,@(if b\n        c))\n") ∷ [])
unfolding text_of
unquoting = laid_out _ _ _ refl

-- `#(if a b)`: a vector is data
in_vector : LaidOut (token (Opener Round) "#(" ∷ token Atom "if" ∷ a ∷ b ∷ closer ∷ [])
    (forest (Listed 0 (leaves (1 ∷ 2 ∷ 3 ∷ [])) 4 ∷ []))
    ((Left ∷ [], writes "#(if\n  a\n  b)\n") ∷ [])
unfolding text_of
in_vector = laid_out _ _ _ refl

-- `(cond #:k (if a b))`: a list behind a key is no clause
keyed_clause : LaidOut
    (opener ∷ token Atom "cond" ∷ token Atom "#:k" ∷ opener ∷ token Atom "if" ∷ a ∷ b ∷ closer ∷ closer ∷ [])
    (forest (Listed 0
    (forest (Leaf 1 ∷ Leaf 2 ∷ Listed 3 (leaves (4 ∷ 5 ∷ 6 ∷ [])) 7 ∷ [])) 8 ∷ []))
    ((Left ∷ [], writes "(cond\n  #:k (if a\n          b))\n") ∷ [])
unfolding text_of
keyed_clause = laid_out _ _ _ refl

-- `((a) b)`: a list without an atom first is data
headless : LaidOut (opener ∷ opener ∷ a ∷ closer ∷ b ∷ closer ∷ [])
    (forest (Listed 0 (forest (Listed 1 (leaves (2 ∷ [])) 3 ∷ Leaf 4 ∷ [])) 5 ∷ []))
    ((Right ∷ [], writes "((a) b)\n") ∷ [])
unfolding text_of
headless = laid_out _ _ _ refl

-- `(struct a)`: where headers are missing a list is an application
missing : LaidOut (opener ∷ token Atom "struct" ∷ a ∷ closer ∷ []) (forest (Listed 0 (leaves (1 ∷ 2 ∷ [])) 3 ∷ []))
    ((Left ∷ [], writes "(struct\n a)\n") ∷ (Right ∷ Left ∷ [], writes "(struct a)\n") ∷ [])
unfolding text_of
missing = laid_out _ _ _ refl

-- `'(a (if b c))`: what is quoted is so all the way down
deeply_quoted : LaidOut (token Prefix "'" ∷ opener ∷ a ∷ opener ∷ token Atom "if" ∷ b ∷ c ∷ closer ∷ closer ∷ [])
    (forest (Prefixed 0 Empty (Listed 1 (forest (Leaf 2 ∷ Listed 3 (leaves (4 ∷ 5 ∷ 6 ∷ [])) 7 ∷ [])) 8) ∷ []))
    ((Left ∷ Left ∷ [], writes "'(a\n  (if\n   b\n   c))\n") ∷ [])
unfolding text_of
deeply_quoted = laid_out _ _ _ refl

-- `#;(if a b)` and `c`: a skip doesn't quote
skipped_list : LaidOut (token Skip "#;" ∷ opener ∷ token Atom "if" ∷ a ∷ b ∷ closer ∷ c ∷ [])
    (forest (DatumComment 0 Empty (Listed 1 (leaves (2 ∷ 3 ∷ 4 ∷ [])) 5) ∷ Leaf 6 ∷ []))
    ((Left ∷ [], writes "#;(if a\n      b)\nc\n") ∷ [])
unfolding text_of
skipped_list = laid_out _ _ _ refl

-- `'#;(if a b)c`: what stands in the lead of a quote is quoted
quoted_lead : LaidOut (token Prefix "'" ∷ token Skip "#;" ∷ opener ∷ token Atom "if" ∷ a ∷ b ∷ closer ∷ c ∷ [])
    (forest (Prefixed 0 (forest (DatumComment 1 Empty (Listed 2 (leaves (3 ∷ 4 ∷ 5 ∷ [])) 6) ∷ [])) (Leaf 7) ∷ []))
    ((Left ∷ [], writes "'#;(if\n    a\n    b) c\n") ∷ [])
unfolding text_of
quoted_lead = laid_out _ _ _ refl

-- `'#;a #;b c`: one space before each but the first
two_leads : LaidOut (token Prefix "'" ∷ token Skip "#;" ∷ a ∷ token Skip "#;" ∷ b ∷ c ∷ [])
    (forest (Prefixed 0 (forest (DatumComment 1 Empty (Leaf 2) ∷ DatumComment 3 Empty (Leaf 4) ∷ [])) (Leaf 5) ∷ []))
    (([], writes "'#;a #;b c\n") ∷ [])
unfolding text_of
two_leads = laid_out _ _ _ refl

-- `'; c` and `a`: what stands behind a prefix is aligned
commented_lead : LaidOut (token Prefix "'" ∷ comment false ∷ a ∷ [])
    (forest (Prefixed 0 (forest (Comment 1 ∷ [])) (Leaf 2) ∷ []))
    (([], writes "' ; c\n a\n") ∷ [])
unfolding text_of
commented_lead = laid_out _ _ _ refl

-- `(cond #'(if a b))`: a list behind a prefix is no clause
prefixed_clause : LaidOut
    (opener ∷ token Atom "cond" ∷ token Prefix "#'" ∷ opener ∷ token Atom "if" ∷ a ∷ b ∷ closer ∷ closer ∷ [])
    (forest (Listed 0 (forest (Leaf 1 ∷ Prefixed 2 Empty (Listed 3 (leaves (4 ∷ 5 ∷ 6 ∷ [])) 7) ∷ [])) 8 ∷ []))
    ((Left ∷ [], writes "(cond\n  #'(if a\n        b))\n") ∷ [])
unfolding text_of
prefixed_clause = laid_out _ _ _ refl

-- `#:k` and `a` in a file: there are no keys
keyword_in_file : LaidOut (token Atom "#:k" ∷ a ∷ []) (leaves (0 ∷ 1 ∷ [])) (([], writes "#:k\na\n") ∷ [])
unfolding text_of
keyword_in_file = laid_out _ _ _ refl

-- `(struct a b ; c` and a closer on the next line: the gap before the closer stands in what the last header stands in
closed_header : LaidOut (opener ∷ token Atom "struct" ∷ a ∷ b ∷ comment false ∷ closer ∷ [])
    (forest (Listed 0 (forest (Leaf 1 ∷ Leaf 2 ∷ Leaf 3 ∷ Comment 4 ∷ [])) 5 ∷ []))
    ((Left ∷ [], writes "(struct a b ; c\n  )\n")
    ∷ (Right ∷ Left ∷ [], writes "(struct a\n        b ; c\n        )\n")
    ∷ [])
unfolding text_of
closed_header = laid_out _ _ _ refl

-- `(if ; c` and `a b)`: behind a comment the second slot stands on a line of its own
hung_comment : LaidOut (opener ∷ token Atom "if" ∷ comment false ∷ a ∷ b ∷ closer ∷ [])
    (forest (Listed 0 (forest (Leaf 1 ∷ Comment 2 ∷ Leaf 3 ∷ Leaf 4 ∷ [])) 5 ∷ []))
    ((Left ∷ [], writes "(if ; c\n a\n b)\n") ∷ [])
unfolding text_of
hung_comment = laid_out _ _ _ refl

-- `(a b ; c` and `c)`: a comment behind a slot ends its line, so there is no layout on one line
trailing : LaidOut (opener ∷ a ∷ b ∷ comment false ∷ c ∷ closer ∷ [])
    (forest (Listed 0 (forest (Leaf 1 ∷ Leaf 2 ∷ Comment 3 ∷ Leaf 4 ∷ [])) 5 ∷ []))
    ((Right ∷ Left ∷ [], writes "(a b ; c\n   c)\n") ∷ (Right ∷ Right ∷ [], None) ∷ [])
unfolding text_of
trailing = laid_out _ _ _ refl

-- `(; c` and `a)`: a slot that begins with comments is aligned
led_first : LaidOut (opener ∷ comment false ∷ a ∷ closer ∷ [])
    (forest (Listed 0 (forest (Comment 1 ∷ Leaf 2 ∷ [])) 3 ∷ []))
    (([], writes "( ; c\n  a)\n") ∷ [])
unfolding text_of
led_first = laid_out _ _ _ refl

-- where the outer list stands on one line an inner one may take any of its layouts that has no break in any case:
-- `(a (b c))` below one another, `(a (if b c))` below the second slot, and `(a (struct a b c))` none
dropped_on_one_line : LaidOut nested nested_trees ((Right ∷ Right ∷ Left ∷ [], writes "(a (b c))\n") ∷ [])
unfolding text_of
dropped_on_one_line = laid_out _ _ _ refl

hung_inside : LaidOut (opener ∷ a ∷ opener ∷ token Atom "if" ∷ b ∷ c ∷ closer ∷ closer ∷ [])
    (forest (Listed 0 (forest (Leaf 1 ∷ Listed 2 (leaves (3 ∷ 4 ∷ 5 ∷ [])) 6 ∷ [])) 7 ∷ []))
    ((Right ∷ Right ∷ Left ∷ [], writes "(a (if b c))\n") ∷ [])
unfolding text_of
hung_inside = laid_out _ _ _ refl

body_inside : LaidOut (opener ∷ a ∷ opener ∷ token Atom "struct" ∷ a ∷ b ∷ c ∷ closer ∷ closer ∷ [])
    (forest (Listed 0 (forest (Leaf 1 ∷ Listed 2 (leaves (3 ∷ 4 ∷ 5 ∷ 6 ∷ [])) 7 ∷ [])) 8 ∷ []))
    ((Right ∷ Right ∷ Left ∷ [], None) ∷ (Right ∷ Right ∷ Right ∷ [], None) ∷ [])
unfolding text_of
body_inside = laid_out _ _ _ refl

-- `(dear a b)`: each layout that costs more is charged, and all on one line costs that alone
abbrev dear : List Token
dear = opener ∷ token Atom "dear" ∷ a ∷ b ∷ closer ∷ []

abbrev dear_lines : List Doc
dear_lines = plain_text (codes "dear") ∷ Newline ∷ plain_text (codes "a") ∷ Newline ∷ plain_text (codes "b") ∷ []

abbrev dear_hung : Doc
dear_hung =
    Align (seq
    (plain_text (codes "dear") ∷ plain_text (codes " ")
    ∷ Align (seq (plain_text (codes "a") ∷ Newline ∷ plain_text (codes "b") ∷ [])) ∷ []))

charges_added : source_doc a_style dear hanging_trees
    ≡ seq (seq (plain_text (codes "(")
    ∷ Choice (Charge 1 (Align (seq dear_lines))) (Choice dear_hung (Charge 2 (Flatten (Align (seq dear_lines)))))
    ∷ plain_text (codes ")") ∷ []) ∷ Hard ∷ [])
unfolding seq seq_within slots_of steps_docs steps_last tree_piece forest_entries style_doc file_doc slots_in data_count
    choice_of head_rule rule_in length_in is_delimiter is_white
charges_added = refl

-- a file form by form: behind `a` stands the blank line that stands before `b`, and behind `b` none
forms_apart : file_paragraphs a_style (a ∷ below 1 Atom "b" ∷ []) (leaves (0 ∷ 1 ∷ []))
    ≡ record { doc = plain_text (codes "a"); blanks = 1 } ∷ record { doc = plain_text (codes "b"); blanks = 0 } ∷ []
unfolding parts_paragraphs seq seq_within slots_of steps_docs steps_last tree_piece style_doc length_in
forms_apart = refl

-- the choices of the first form stand before those of the second; an atom has none
pairs : List Token
pairs = opener ∷ a ∷ b ∷ closer ∷ a ∷ opener ∷ a ∷ b ∷ c ∷ closer ∷ []

abbrev pairs_trees : Forest
pairs_trees = forest (Listed 0 (leaves (1 ∷ 2 ∷ [])) 3 ∷ Leaf 4 ∷ Listed 5 (leaves (6 ∷ 7 ∷ 8 ∷ [])) 9 ∷ [])

chosen_form_by_form : by_forms (record { costs = breaks; limit = 5 }) a_style pairs pairs_trees
    ≡ Right ∷ Left ∷ Right ∷ Left ∷ []
unfolding pairs chosen_by_slots choose plain all_joined pareto undominated by_last placed simple seq seq_within slots_of
    steps_docs steps_last tree_piece forest_entries style_doc slots_in data_count choice_of head_rule rule_in length_in
    is_delimiter is_white
chosen_form_by_form = refl
