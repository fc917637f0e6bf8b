-- The layout of each resolution of a file's document is woven of its items, and so reads back and has no trailing
-- space.
use Rattle.std.proofs.Common.{ℕ, false, List, refl}
use Rattle.rf_base_document.specs.declared.directions.Dir.{Dir}
use Rattle.rf_base_document.specs.Render.{Laid, layout}
use Rattle.rf_base_document.specs.Picks.{LaidOutBy}
use Rattle.rf_base_grammar.specs.Token.{Token, normal}
use Rattle.rf_base_grammar.specs.Itemised.{Itemised}
use Rattle.rf_base_grammar.specs.Woven.{Woven}
use Rattle.rf_base_grammar.specs.TrailingSpace.{NoTrailingSpace}
use Rattle.rf_base_grammar.proofs.Weaving.{Woven-itemised}
use Rattle.rf_base_grammar.proofs.TrailingSpaces.{Woven-clean}
use Rattle.rf_base_style.specs.Table.{StyleView}
use Rattle.rf_base_tree.specs.Trees.{Forest}
use Rattle.rf_base_tree.specs.Formed.{Treed}
use Rattle.rf_base_file.specs.FileDocument.{file_doc}
use Rattle.rf_base_file.specs.LaidOut.{source_doc}
use Rattle.rf_base_file.specs.Reading.{ReadsBack}
use Rattle.rf_base_file.specs.Strands.{file_strands}
use Rattle.rf_base_file.proofs.Signatures.{layouts_drawn}
use Rattle.rf_base_file.proofs.SameTrees.{Treed-same}
use Rattle.rf_base_file.proofs.GapWeaving.{drawn_woven}
use Rattle.rf_base_file.proofs.TreeStrands.{file_doc-signed}

-- the layout of each resolution is woven of the items
pub file_woven : (style : StyleView) (source : List ℕ) (ts : List Token) (max : ℕ) (trees : Forest) (choices : List Dir)
    (whole : Laid) → Itemised source ts → Treed ts trees →
    LaidOutBy (file_doc style (normal max ts) trees) choices 0 0 false whole →
    Woven (normal max ts) (layout whole.pieces)
file_woven style source ts max trees choices whole h t l =
    drawn_woven (normal max ts) (layout whole.pieces)
    (layouts_drawn (file_doc style (normal max ts) trees) (file_strands (normal max ts)) choices 0 0 false whole
    (file_doc-signed style ts max trees (Treed-same ts (normal max ts) trees max t refl)) l)

-- so it reads back
pub file_read_back : (style : StyleView) (source : List ℕ) (ts : List Token) (trees : Forest) (choices : List Dir)
    (whole : Laid) → Itemised source ts → Treed ts trees →
    LaidOutBy (source_doc style ts trees) choices 0 0 false whole → ReadsBack style ts trees (layout whole.pieces)
file_read_back style source ts trees choices whole h t l =
    let read =
    Woven-itemised source (layout whole.pieces) ts style.blanks h
    (file_woven style source ts style.blanks trees choices whole h t l) in
    record { back = read.0; itemised = read.1; same = read.2; treed = Treed-same ts read.0 trees style.blanks t read.2 }

-- and no line of it ends in a space but in an item
pub file_clean : (style : StyleView) (source : List ℕ) (ts : List Token) (trees : Forest) (choices : List Dir)
    (whole : Laid) → Itemised source ts → Treed ts trees →
    LaidOutBy (source_doc style ts trees) choices 0 0 false whole → NoTrailingSpace (layout whole.pieces)
file_clean style source ts trees choices whole h t l =
    Woven-clean source (layout whole.pieces) ts style.blanks h
    (file_woven style source ts style.blanks trees choices whole h t l)
