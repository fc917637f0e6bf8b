-- What stands at nodes: the trees that they are, unfolded.
use Rattle.std.proofs.Common.{◌≡◌, ℕ, ◌||◌, Bool, true, false, Option, Some, None, List, [], ◌∷◌, map, slice_get, refl, sym, ◌∙◌, ap, subst}
use Rattle.rf_base_document.specs.Document.{Doc}
use Rattle.rf_base_document.proofs.Sequence.{seq_of_one}
use Rattle.rf_base_grammar.specs.Token.{Token}
use Rattle.rf_base_style.specs.Table.{StyleView}
use Rattle.rf_base_tree.specs.Trees.{Tree, Leaf, Point, Comment, Prefixed, DatumComment, Listed, Forest, Empty, Then, spelling_at}
use Rattle.rf_base_tree.specs.Slots.{Slot, entries_of}
use Rattle.rf_base_tree.specs.Cut.{slots_of}
use Rattle.rf_base_file.specs.declared.shapes.Role.{Role}
use Rattle.rf_base_file.specs.declared.shapes.Role.TheVariants.{Free}
use Rattle.rf_base_file.specs.declared.shapes.Way.{Way}
use Rattle.rf_base_file.specs.Rows.{item_doc, prefixed_doc, steps_docs, slot_parts}
use Rattle.rf_base_file.specs.Ways.{Piece, part_in, slots_in, way_of, quoted_behind}
use Rattle.rf_base_file.specs.FileDocument.{is_vector, list_doc, tree_piece, forest_entries, slot_piece, style_doc}
use Rattle.rf_base_file.proofs.TreeStrands.{slots_are}
use Rattle.rf_tree.specs.Nodes.{UnfoldsTo, UnfoldTo}
use Rattle.rf_tree.specs.Slots.{SlotStands, kept_slot}
use Rattle.rf_tree.specs.declared.slotting.Slot.{Slot as KeptSlot}
use Rattle.rf_tree.specs.declared.nodes.At.{At}
use Rattle.rf_tree.specs.Told.{Node}
use Rattle.rf_tree.specs.Told as node
use Rattle.rf_ways.proofs.NodeParts.{prefixed_at, skipped_at}
use Rattle.rf_lines.specs.Written.{Lined, Stretch, IsLineOf}
use Rattle.rf_ways.specs.Nodes.{node_in, parts_of}
use Rattle.rf_lines.specs.Nodes.{IsWritten, WritesPiece}
use Rattle.rf_lines.specs.declared.writer.Writer.{Writer}
use Rattle.rf_lines.specs.declared.writer.LinePlace.{LinePlace}
use Rattle.rf_lines.proofs.Slots.{lone_slot}

-- an item by itself
pub leaf_written : (writer : Writer) (style : StyleView) (ts : List Token) (nodes : List Node) (at item : ℕ) (t : Tree) (place : LinePlace) (role : Role) (old new : Stretch) →
    slice_get nodes at ≡ Some (node.Leaf item) → UnfoldsTo ts nodes at t → IsWritten writer place.flat old new (item_doc style.columns ts item ∷ []) →
    WritesPiece writer (tree_piece style ts t) place role old new item
unfolding UnfoldsTo tree_piece
leaf_written writer style ts nodes at item (Leaf i) place role old new e h w =
    let is = h.0 in
    let same : item ≡ i = cc in
    (same, subst (λ (n : ℕ). IsWritten writer place.flat old new (item_doc style.columns ts n ∷ [])) same w)
leaf_written writer style ts nodes at item (Point i) place role old new e h w =
    let is = h.0 in
    let same : item ≡ i = cc in
    (same, subst (λ (n : ℕ). IsWritten writer place.flat old new (item_doc style.columns ts n ∷ [])) same w)
leaf_written writer style ts nodes at item (Comment i) place role old new e h w = cc
leaf_written writer style ts nodes at item (Prefixed i l x) place role old new e h w = let is = h.2 in cc
leaf_written writer style ts nodes at item (DatumComment i l x) place role old new e h w = let is = h.2 in cc
leaf_written writer style ts nodes at item (Listed o f c) place role old new e h w = let is = h.1 in cc

pub comment_written : (writer : Writer) (style : StyleView) (ts : List Token) (nodes : List Node) (at item : ℕ) (t : Tree) (place : LinePlace) (role : Role) (old new : Stretch) →
    slice_get nodes at ≡ Some (node.Comment item) → UnfoldsTo ts nodes at t → IsWritten writer place.flat old new (item_doc style.columns ts item ∷ []) →
    WritesPiece writer (tree_piece style ts t) place role old new item
unfolding UnfoldsTo tree_piece
comment_written writer style ts nodes at item (Comment i) place role old new e h w =
    let same : item ≡ i = cc in
    (same, subst (λ (n : ℕ). IsWritten writer place.flat old new (item_doc style.columns ts n ∷ [])) same w)
comment_written writer style ts nodes at item (Leaf i) place role old new e h w = let is = h.0 in cc
comment_written writer style ts nodes at item (Point i) place role old new e h w = let is = h.0 in cc
comment_written writer style ts nodes at item (Prefixed i l x) place role old new e h w = let is = h.2 in cc
comment_written writer style ts nodes at item (DatumComment i l x) place role old new e h w = let is = h.2 in cc
comment_written writer style ts nodes at item (Listed o f c) place role old new e h w = let is = h.1 in cc

-- a prefix or a skip without comments
no_trees : (ts : List Token) (nodes : List Node) (ats : List At) (f : Forest) → ats ≡ [] → UnfoldTo ts nodes ats f → f ≡ Empty
unfolding UnfoldTo
no_trees ts nodes [] Empty e h = refl
no_trees ts nodes [] (Then t f) e h = absurd h
no_trees ts nodes (a ∷ ats) f e h = cc

pub bare_prefix : (writer : Writer) (style : StyleView) (ts : List Token) (nodes : List Node) (at item : ℕ) (lead : List At) (inner : At) (t : Tree) (quoted : Bool) (place : LinePlace) (role : Role) (old new : Stretch) (last : ℕ) →
    slice_get nodes at ≡ Some (node.Prefixed item lead inner) → UnfoldsTo ts nodes at t → lead ≡ [] → quoted ≡ quoted_behind (spelling_at ts item) place.quoted →
    ((x : Tree) → UnfoldsTo ts nodes inner.0 x → (last ≡ (tree_piece style ts x).last) × IsWritten writer place.flat old new (prefixed_doc ts item [] (part_in quoted Free (tree_piece style ts x)) ∷ [])) →
    WritesPiece writer (tree_piece style ts t) place role old new last
unfolding tree_piece forest_entries
bare_prefix writer style ts nodes at item lead inner t quoted place role old new last e h bare q written =
    let p = prefixed_at ts nodes at item lead inner t e h in
    let none : p.comments ≡ Empty = no_trees ts nodes lead p.comments bare p.lead_unfolds in
    let is : t ≡ Prefixed item Empty p.datum = p.is ∙ ap (λ (f : Forest). Prefixed item f p.datum) none in
    let w = written p.datum p.inner_unfolds in
    subst (λ (u : Tree). WritesPiece writer (tree_piece style ts u) place role old new last) (sym is)
    (w.0, subst (λ (b : Bool). IsWritten writer place.flat old new (prefixed_doc ts item [] (part_in b Free (tree_piece style ts p.datum)) ∷ [])) q w.1)

pub bare_skip : (writer : Writer) (style : StyleView) (ts : List Token) (nodes : List Node) (at item : ℕ) (lead : List At) (inner : At) (t : Tree) (place : LinePlace) (role : Role) (old new : Stretch) (last : ℕ) →
    slice_get nodes at ≡ Some (node.DatumComment item lead inner) → UnfoldsTo ts nodes at t → lead ≡ [] →
    ((x : Tree) → UnfoldsTo ts nodes inner.0 x → (last ≡ (tree_piece style ts x).last) × IsWritten writer place.flat old new (prefixed_doc ts item [] (part_in place.quoted Free (tree_piece style ts x)) ∷ [])) →
    WritesPiece writer (tree_piece style ts t) place role old new last
unfolding tree_piece forest_entries
bare_skip writer style ts nodes at item lead inner t place role old new last e h bare written =
    let p = skipped_at ts nodes at item lead inner t e h in
    let none : p.comments ≡ Empty = no_trees ts nodes lead p.comments bare p.lead_unfolds in
    let is : t ≡ DatumComment item Empty p.datum = p.is ∙ ap (λ (f : Forest). DatumComment item f p.datum) none in
    subst (λ (u : Tree). WritesPiece writer (tree_piece style ts u) place role old new last) (sym is) (written p.datum p.inner_unfolds)

-- a list
abbrev laid_out : StyleView → List Token → ℕ → ℕ → Role → List (Slot Piece) → Bool → Doc
laid_out style ts opener closer role ss q =
    list_doc ts (way_of style.table q role ss) opener (slot_parts ts (slots_in q (way_of style.table q role ss).roles ss)) closer

pub list_is : (style : StyleView) (ts : List Token) (opener closer : ℕ) (f : Forest) (q quoted : Bool) (role : Role) (w : Way) → q ≡ (is_vector ts opener || quoted) →
    w ≡ way_of style.table q role (map (slot_piece style ts) (slots_of true (entries_of ts f))) →
    list_doc ts w opener (parts_of style ts q w.roles (slots_of true (entries_of ts f))) closer ≡ (node_in style ts quoted role (Listed opener f closer)).doc
unfolding tree_piece
list_is style ts opener closer f q quoted role w same ways =
    ap (λ (v : Way). list_doc ts v opener (parts_of style ts q v.roles (slots_of true (entries_of ts f))) closer) ways
    ∙ ap (λ (ss : List (Slot Piece)). laid_out style ts opener closer role ss q) (slots_are style ts true f)
    ∙ ap (λ (b : Bool). laid_out style ts opener closer role (slots_of true (forest_entries style ts f)) b) same

pub list_piece_written : (writer : Writer) (style : StyleView) (ts : List Token) (opener closer : ℕ) (f : Forest) (t : Tree) (place : LinePlace) (role : Role) (old new : Stretch) → t ≡ Listed opener f closer →
    IsWritten writer place.flat old new ((node_in style ts place.quoted role (Listed opener f closer)).doc ∷ []) → WritesPiece writer (tree_piece style ts t) place role old new closer
unfolding tree_piece
list_piece_written writer style ts opener closer f t place role old new is w =
    subst (λ (u : Tree). WritesPiece writer (tree_piece style ts u) place role old new closer) (sym is) (refl, w)

-- the number of a node's first item
abbrev pub first_named : Node → ℕ
first_named (node.Leaf item) = item
first_named (node.Prefixed item lead inner) = item
first_named (node.ListNode opener entries closer) = opener
first_named (node.Comment item) = item
first_named (node.DatumComment item lead inner) = item

same_node : (o : Option Node) (n m : Node) → o ≡ Some n → o ≡ Some m → first_named n ≡ first_named m
same_node o n m e f = let both : Some n ≡ Some m = sym e ∙ f in let same : n ≡ m = cc in ap first_named same

pub first_named_is : (style : StyleView) (ts : List Token) (nodes : List Node) (at : ℕ) (n : Node) (t : Tree) → slice_get nodes at ≡ Some n → UnfoldsTo ts nodes at t →
    first_named n ≡ (tree_piece style ts t).first
unfolding UnfoldsTo tree_piece
first_named_is style ts nodes at n (Leaf item) e h = same_node (slice_get nodes at) n (node.Leaf item) e h.0
first_named_is style ts nodes at n (Point item) e h = same_node (slice_get nodes at) n (node.Leaf item) e h.0
first_named_is style ts nodes at n (Comment item) e h = same_node (slice_get nodes at) n (node.Comment item) e h
first_named_is style ts nodes at n (Prefixed item lead inner) e h = same_node (slice_get nodes at) n (node.Prefixed item h.0 h.1) e h.2
first_named_is style ts nodes at n (DatumComment item lead inner) e h = same_node (slice_get nodes at) n (node.DatumComment item h.0 h.1) e h.2
first_named_is style ts nodes at n (Listed opener entries closer) e h = same_node (slice_get nodes at) n (node.ListNode opener h.0 closer) e h.1

-- a top-level slot of a datum alone
pub slot_written : (style : StyleView) (ts : List Token) (nodes : List Node) (kept : KeptSlot) (s : Slot Tree) (at : At) (l : Lined) →
    kept.leads.items ≡ [] → kept.key ≡ None → kept.datum ≡ Some at → kept.trailing ≡ None → SlotStands ts nodes kept s →
    ((t : Tree) → UnfoldsTo ts nodes at.0 t → IsLineOf false l ((tree_piece style ts t).doc false Free)) →
    IsLineOf false l (style_doc style ts s)
unfolding style_doc steps_docs
slot_written style ts nodes kept s at l leads key datum trailing h w =
    let o = lone_slot ts nodes (kept_slot kept) at s leads key datum trailing h in
    subst (λ (x : Slot Tree). IsLineOf false l (style_doc style ts x)) (sym o.is)
    (subst (λ (d : Doc). IsLineOf false l d) (sym (seq_of_one ((tree_piece style ts o.datum.what).doc false Free))) (w o.datum.what o.unfolds))
