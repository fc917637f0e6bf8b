-- Trees and slots on one line.
use Rattle.std.proofs.Common.{Bool, List}
use Rattle.rf_base_grammar.specs.Token.{Token}
use Rattle.rf_base_style.specs.Table.{StyleView}
use Rattle.rf_base_tree.specs.Trees.{Tree}
use Rattle.rf_base_tree.specs.Slots.{Slot}
use Rattle.rf_base_file.specs.declared.shapes.Role.{Role}
use Rattle.rf_base_file.specs.Rows.{steps_docs, row_docs}
use Rattle.rf_base_file.specs.Ways.{way_of}
use Rattle.rf_base_file.specs.FileDocument.{tree_piece, style_doc}
use Rattle.rf_base_lines.specs.Lengths.{HasLength}
use Rattle.rf_base_lines.proofs.LongRows.{any_seq, any_align, any_concat, item_long, steps_any, row_any}
use Rattle.rf_base_lines.proofs.LongShapes.{list_long}
use Rattle.rf_base_file.proofs.KeptTrees.{TreesKeep, tree_kept, style_doc_kept}

lengths_keep : (style : StyleView) → TreesKeep style HasLength
lengths_keep style = record {
  item = item_long;
  concat = any_concat;
  align = any_align;
  steps = λ ts before steps h. any_seq (steps_docs ts before steps) (steps_any ts before steps h);
  row = λ ts steps h. any_seq (row_docs ts steps) (row_any ts steps h);
  list = λ ts quoted role slots opener parts closer h. list_long ts (way_of style.table quoted role slots) opener parts closer h;
}

pub tree_long : (style : StyleView) (ts : List Token) (tree : Tree) (quoted : Bool) (role : Role) → HasLength ((tree_piece style ts tree).doc quoted role)
tree_long style ts tree quoted role = tree_kept style HasLength (lengths_keep style) ts tree quoted role

pub style_doc_long : (style : StyleView) (ts : List Token) (s : Slot Tree) → HasLength (style_doc style ts s)
style_doc_long style ts s = style_doc_kept style HasLength (lengths_keep style) ts s
