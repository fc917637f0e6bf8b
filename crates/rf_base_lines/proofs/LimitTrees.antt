-- In a style the document of each tree keeps the limits of documents.
use Rattle.std.proofs.Common.{ℕ, ◌+◌, ◌-◌, ◌≤◌, ◌==◌, leb, ltb, if◌then◌else◌, Bool, true, false, Option, Some, None, List, [], ◌∷◌, refl, arith}
use Rattle.std.specs.Prelude.{⊤}
use Rattle.rf_base_document.specs.Document.{Doc, Charge, IsDocument}
use Rattle.rf_base_document.proofs.Document.{IsOneLine-from_test}
use Rattle.rf_base_grammar.specs.Token.{Token}
use Rattle.rf_base_style.specs.declared.columns.Columns.TheVariants.{Characters}
use Rattle.rf_base_style.specs.declared.rules.Charges.{Charges}
use Rattle.rf_base_style.specs.declared.rules.Form.{Form}
use Rattle.rf_base_style.specs.declared.rules.Form.TheVariants as form
use Rattle.rf_base_style.specs.declared.rules.Rule.{Rule}
use Rattle.rf_base_style.specs.Table.{Table, StyleView, head_rule, AreRules, AreCharges}
use Rattle.rf_base_style.proofs.Tables.{heads_have_rules}
use Rattle.rf_base_tree.specs.declared.separators.Want.{Want}
use Rattle.rf_base_tree.specs.declared.separators.Want.TheVariants as want
use Rattle.rf_base_tree.specs.Trees.{Tree}
use Rattle.rf_base_tree.specs.Slots.{Slot}
use Rattle.rf_base_file.specs.declared.shapes.Shape.{Shape}
use Rattle.rf_base_file.specs.declared.shapes.Shape.TheVariants.{Application, Hanging, Plain, Body}
use Rattle.rf_base_file.specs.declared.shapes.Role.{Role}
use Rattle.rf_base_file.specs.declared.shapes.Role.TheVariants.{Free, Clause, Bindings}
use Rattle.rf_base_file.specs.declared.shapes.Roles.{Roles}
use Rattle.rf_base_file.specs.declared.shapes.Roles.TheVariants.{AllFree, ClausesBehind, BindingsBehind}
use Rattle.rf_base_file.specs.declared.shapes.Way.{Way}
use Rattle.rf_base_file.specs.Rows.{Part, gap_docs, Step, steps_docs, row_docs}
use Rattle.rf_base_file.specs.Shapes.{charged}
use Rattle.rf_base_file.specs.Ways.{Piece, way, body_way, form_way, word_way, way_of, first_word, data_count, named_headers}
use Rattle.rf_base_file.specs.FileDocument.{tree_piece}
use Rattle.rf_base_file.proofs.Sizes.{DocsSized, item_sized, gap_pieces, gap_sized}
use Rattle.rf_base_lines.proofs.KeptShapes.{Keeps, Each, row_kept, seq_kept, Open, ShapeWants, AreCharged, WayWants, OpenBetween, list_kept}
use Rattle.rf_base_file.proofs.KeptTrees.{PartsKeep, StepsKeep, TreesKeep, tree_kept}

-- documents that are made of others
abbrev IsAny : Want → Type 0
IsAny w = ⊤

abbrev IsLow : ℕ → Type 0
IsLow k = k ≤ 1000

low_charged : (k : ℕ) (d : Doc) → IsLow k → IsDocument d → IsDocument (charged k d)
unfolding IsDocument
low_charged k d low h = by_test (k == 0)
  where
    by_test : (b : Bool) → IsDocument (if b then d else Charge k d)
    by_test true = h
    by_test false = (low, h)

limits_keep : Keeps IsDocument IsAny IsLow
unfolding IsDocument
limits_keep = record {
  nothing = (IsOneLine-from_test [] refl, omega arith);
  concat = λ a b h k. (h, k);
  nest = λ a h. (omega arith, h);
  align = λ a h. h;
  flatten = λ a h. h;
  choice = λ a b h k. (h, k);
  charge = low_charged;
  space = tt;
  line = tt;
}

-- gaps and steps
each_of : (docs : List Doc) (n : ℕ) → DocsSized docs n → Each IsDocument docs
unfolding DocsSized
each_of [] n h = tt
each_of (d ∷ docs) n h = (h.3.0, each_of docs h.1 h.4)

gap_limits : (ts : List Token) (before next : ℕ) (w : Want) → Each IsDocument (gap_docs ts before next w)
gap_limits ts before next w = each_of (gap_docs ts before next w) (gap_pieces ts next) (gap_sized ts before next w)

steps_limits : (ts : List Token) (before : ℕ) (steps : List Step) → StepsKeep IsDocument steps → Each IsDocument (steps_docs ts before steps)
unfolding steps_docs
steps_limits ts before [] h = tt
steps_limits ts before (s ∷ steps) h =
    row_kept IsDocument (gap_docs ts before s.part.first s.want) (s.part.doc ∷ steps_docs ts s.part.last steps) (gap_limits ts before s.part.first s.want)
    (h.0, steps_limits ts s.part.last steps h.1)

row_limits : (ts : List Token) (steps : List Step) → StepsKeep IsDocument steps → Each IsDocument (row_docs ts steps)
row_limits ts [] h = tt
row_limits ts (s ∷ steps) h = (h.0, steps_limits ts s.part.last steps h.1)

-- lists
open_limits : (ts : List Token) (before : ℕ) (parts : List Part) (closer : ℕ) → PartsKeep IsDocument parts → Open IsDocument IsAny ts before parts closer
unfolding Open
open_limits ts before [] closer h = gap_limits ts before closer want.Nothing
open_limits ts before (p ∷ parts) closer h = (λ w any. gap_limits ts before p.first w, h.0, open_limits ts p.last parts closer h.1)

between_limits : (ts : List Token) (opener : ℕ) (parts : List Part) (closer : ℕ) → PartsKeep IsDocument parts → OpenBetween IsDocument IsAny ts opener parts closer
between_limits ts opener [] closer h = tt
between_limits ts opener (p ∷ parts) closer h = (gap_limits ts opener p.first want.Nothing, h.0, open_limits ts p.last parts closer h.1)

shape_any : (shape : Shape) → ShapeWants IsAny shape
shape_any Application = tt
shape_any Hanging = tt
shape_any Plain = tt
shape_any (Body headers one_line) = tt

way_any : (shape : Shape) (parts : List Part) → WayWants IsAny shape parts
way_any shape [] = tt
way_any shape (p ∷ []) = tt
way_any shape (p ∷ next ∷ parts) = shape_any shape

-- the charges of a way are those of a rule, or there are none
body_low : (charges : Charges) (headers flat count : ℕ) (roles : Roles) → AreCharged IsLow charges → AreCharged IsLow (body_way charges headers flat count roles).charges
body_low charges headers flat count roles low = by_test (ltb headers count)
  where
    by_test : (b : Bool) →
        let w : Way = if b then way (Body headers (leb (count - headers - 1) flat)) charges roles else way Application charges AllFree in AreCharged IsLow w.charges
    by_test true = low
    by_test false = low

form_low : (f : Form) (rule : Rule) (named : Bool) (count : ℕ) → AreCharged IsLow rule.charges → AreCharged IsLow (form_way f rule named count).charges
form_low form.App rule named count low = low
form_low form.Hang rule named count low = low
form_low form.Plain rule named count low = low
form_low form.Body rule named count low = body_low rule.charges rule.header rule.flat count AllFree low
form_low form.Clauses rule named count low = body_low rule.charges rule.header rule.flat count (ClausesBehind (rule.header + 1)) low
form_low form.Bindings rule named count low =
    body_low rule.charges (named_headers rule.header named) rule.flat count (BindingsBehind (named_headers rule.header named)) low

charges_low : (charges : Charges) → AreCharges charges → AreCharged IsLow charges
charges_low charges are = (are.broken, are.hung, are.flat)

word_low : (table : Table) (o : Option (List ℕ)) (slots : List (Slot Piece)) → AreRules table → AreCharged IsLow (word_way table o slots).charges
word_low table None slots rules = (omega arith, omega arith, omega arith)
word_low table (Some name) slots rules =
    let rule : Rule = head_rule table name in
    form_low rule.form rule _ (data_count slots) (charges_low rule.charges (heads_have_rules table name rules).charges)

way_low : (table : Table) (quoted : Bool) (role : Role) (slots : List (Slot Piece)) → AreRules table → AreCharged IsLow (way_of table quoted role slots).charges
way_low table false Free slots rules = word_low table (first_word slots) slots rules
way_low table _ _ slots rules = (omega arith, omega arith, omega arith)

-- so trees
trees_keep : (style : StyleView) → AreRules style.table → TreesKeep style IsDocument
unfolding IsDocument
trees_keep style rules = record {
  item = λ columns ts item. (item_sized columns ts item).0;
  concat = λ a b h k. (h, k);
  align = λ a h. h;
  steps = λ ts before steps h. seq_kept limits_keep (steps_docs ts before steps) (steps_limits ts before steps h);
  row = λ ts steps h. seq_kept limits_keep (row_docs ts steps) (row_limits ts steps h);
  list =
      λ ts quoted role slots opener parts closer h.
      let w : Way = way_of style.table quoted role slots in
      list_kept limits_keep ts w opener parts closer (way_any w.shape parts) (way_low style.table quoted role slots rules) (item_sized Characters ts opener).0
      (between_limits ts opener parts closer h) (item_sized Characters ts closer).0;
}

pub tree_limits : (style : StyleView) (ts : List Token) (tree : Tree) (quoted : Bool) (role : Role) → AreRules style.table → IsDocument ((tree_piece style ts tree).doc quoted role)
tree_limits style ts tree quoted role rules = tree_kept style IsDocument (trees_keep style rules) ts tree quoted role
