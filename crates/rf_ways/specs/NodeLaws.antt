-- Laws of the documents of what stands at nodes.
use Rattle.std.specs.Prelude.{◌≡◌, List}
use Rattle.rf_base_document.specs.Document.{IsDocument}
use Rattle.rf_base_grammar.specs.Token.{Token}
use Rattle.rf_base_style.specs.Table.{AreRules}
use Rattle.rf_base_tree.specs.Trees.{Tree, Forest}
use Rattle.rf_base_file.specs.FileDocument.{tree_piece}
use Rattle.rf_base_lines.specs.Lengths.{HasLength}
use Rattle.rf_style.specs.StyleOf.{seen}
use Rattle.rf_tree.specs.Kept.{IsTreeOf}
use Rattle.rf_tree.specs.Nodes.{UnfoldsTo}
use Rattle.rf_ways.specs.NodeDocuments.{node_doc}
use Rattle.rf_ways.specs.declared.places.Placed.{Placed}

-- the document of what stands at a node is that of the tree that the node is, unfolded
abbrev pub NodeHasOneDocument : Type 0
NodeHasOneDocument =
    (p : Placed) (ts : List Token) (trees : Forest) (t : Tree) → IsTreeOf p.tree.now ts trees →
    UnfoldsTo ts p.tree.now.nodes p.at.0 t →
    node_doc p ≡ (tree_piece (seen p.style.now) ts t).doc p.quoted p.role

-- it has one length on one line
abbrev pub NodeDocumentsHaveLengths : Type 0
NodeDocumentsHaveLengths = (p : Placed) → HasLength (node_doc p)

-- in a style whose rules are rules it keeps the limits of documents
abbrev pub NodeDocumentsAreDocuments : Type 0
NodeDocumentsAreDocuments = (p : Placed) → AreRules p.style.now.forms → IsDocument (node_doc p)
