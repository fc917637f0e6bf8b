-- The documents of slots that are comments alone keep the limits and have no choice.
use Rattle.std.proofs.Common.{ℕ, zero, suc, ◌==◌, Bool, Option, None, Some, List, [], ◌∷◌, replicate, slice_get, refl, sym, subst, false}
use Rattle.std.specs.List.{slice_split}
use Rattle.rf_base_document.specs.Document.{Doc, Hard, Newline, IsDocument}
use Rattle.rf_base_document.specs.Picks.{HasLayout}
use Rattle.rf_base_document.specs.Sequence.{seq}
use Rattle.rf_base_grammar.specs.Token.{Token}
use Rattle.rf_base_style.specs.Table.{StyleView}
use Rattle.rf_base_style.specs.declared.columns.Columns.{Columns}
use Rattle.rf_base_tree.specs.declared.separators.Separator.{Separator}
use Rattle.rf_base_tree.specs.declared.separators.Separator.TheVariants as separator
use Rattle.rf_base_tree.specs.declared.separators.Want.{Want}
use Rattle.rf_base_tree.specs.declared.separators.Want.TheVariants as want
use Rattle.rf_base_tree.specs.Trees.{Tree, spelling_at}
use Rattle.rf_base_tree.specs.Slots.{Entry}
use Rattle.rf_base_tree.specs.Slots as definition
use Rattle.rf_base_tree.specs.Cut.{separator_between}
use Rattle.rf_base_file.specs.declared.shapes.Role.{Role}
use Rattle.rf_base_file.specs.Rows.{bare_break, item_doc, lines_behind, lines_docs as spelled_lines, separator_docs, docs_between, steps_wanting}
use Rattle.rf_base_file.specs.FileDocument.{tree_piece, style_doc}
use Rattle.rf_base_file.proofs.Layouts.{slot_has_layout}
use Rattle.rf_base_file.proofs.Sizes.{item_sized}
use Rattle.rf_base_lines.proofs.KeptShapes.{row_kept}
use Rattle.rf_tree.specs.Slots.{SlotStands}
use Rattle.rf_tree.specs.declared.slotting.Slot.{Slot}
use Rattle.rf_tree.specs.declared.trees.Tree.{Tree as KeptTree}
use Rattle.rf_ways.specs.Steps.{gap_behind, docs_behind}
use Rattle.rf_rows.specs.Choiceless.{IsChoiceless}
use Rattle.rf_rows.specs.declared.pieces.Fill.TheVariants as fill
use Rattle.rf_rows.specs.declared.pieces.Piece.TheVariants as piece
use Rattle.rf_rows.proofs.Choiceless.{choiceless}
use Rattle.rf_rows.proofs.Closed.{Closed, Each, seq_holds, piece_holds}
use Rattle.rf_rows.proofs.Limits.{keeps}
use Rattle.rf_slot_rows.specs.Leads.{HasLeadsAlone, AreComments, lines_docs}
use Rattle.rf_ways.specs.Nodes.{node_in}
use Rattle.rf_slot_rows.specs.Nodes.{nodes_in, place_of_tops}
use Rattle.rf_slot_rows.proofs.LeadLines.{leads_doc}
use Rattle.rf_whole.proofs.Settled.{Single, single}

-- what is closed holds of what stands in gaps
separator_holds : (P : Doc → Type 0) → Closed P → (s : Separator) → Each P (separator_docs s)
separator_holds P closed separator.Empty = tt
separator_holds P closed separator.Space = (piece_holds P closed (λ k. Newline) 0 (λ k. closed.newline) fill.Space piece.Space tt, tt)
separator_holds P closed separator.Line = (closed.newline, tt)
separator_holds P closed (separator.Hard blanks) = row_kept P (replicate blanks bare_break) (Hard ∷ []) (blanks_hold blanks) (closed.hard, tt) where
  blanks_hold : (n : ℕ) → Each P (replicate n bare_break)
  blanks_hold zero = tt
  blanks_hold (suc n) = (closed.bare, blanks_hold n)

-- between tokens that may be there, and behind an item
between_holds : (P : Doc → Type 0) → Closed P → (a b : Option Token) (w : Want) → Each P (docs_between a b w)
between_holds P closed (Some a) (Some b) w = separator_holds P closed (separator_between a b w)
between_holds _ closed _ _ w = tt

gap_holds : (P : Doc → Type 0) → Closed P → (ts : List Token) (last : Option ℕ) (next : ℕ) (w : Want) → Each P (gap_behind ts last next w)
gap_holds P closed ts None next w = tt
gap_holds P closed ts (Some last) next w = between_holds P closed (slice_get ts last) (slice_get ts next) w

-- of comments in a row, where it holds of items
comments_hold : (P : Doc → Type 0) → Closed P → (style : StyleView) (ts : List Token) → ((item : ℕ) → P (item_doc style.columns ts item)) → (quoted : Bool) (role : Role) (last : Option ℕ) (es : List (Entry Tree)) →
    AreComments es → Each P (docs_behind ts last (steps_wanting want.Line (nodes_in style ts quoted role es)))
unfolding docs_behind tree_piece
comments_hold P closed style ts items quoted role last [] h = tt
comments_hold P closed style ts items quoted role last (e ∷ es) h =
    let p = node_in style ts quoted role e.what in
    row_kept P (gap_behind ts last p.first want.Line) (p.doc ∷ docs_behind ts (Some p.last) (steps_wanting want.Line (nodes_in style ts quoted role es)))
    (gap_holds P closed ts last p.first want.Line)
    (subst (λ (t : Tree). P (node_in style ts quoted role t).doc) (sym h.0.1) (items h.0.0), comments_hold P closed style ts items quoted role (Some p.last) es h.1)

-- and of a slot of comments alone
slot_holds : (P : Doc → Type 0) → Closed P → (style : StyleView) (ts : List Token) → ((item : ℕ) → P (item_doc style.columns ts item)) → (tree : KeptTree) (kept : Slot) (s : definition.Slot Tree) →
    HasLeadsAlone kept → SlotStands ts tree.nodes kept s → AreComments s.leads → P (style_doc style ts s)
slot_holds P closed style ts items tree kept s alone stands comments =
    let place = place_of_tops tree in
    let docs = lines_docs place style ts s.leads in
    subst P (sym (leads_doc style ts tree kept s refl alone stands))
    (closed.align (seq docs) (seq_holds P closed docs (comments_hold P closed style ts items place.quoted place.role None s.leads comments)))

-- such a document keeps the limits
slot_document : (style : StyleView) (ts : List Token) (tree : KeptTree) (kept : Slot) (s : definition.Slot Tree) →
    HasLeadsAlone kept → SlotStands ts tree.nodes kept s → AreComments s.leads → IsDocument (style_doc style ts s)
slot_document style ts = slot_holds IsDocument keeps style ts (λ item. (item_sized style.columns ts item).0)

-- the lines of an item have no choice
lines_choiceless : (columns : Columns) (lines : List (List ℕ)) → Each IsChoiceless (lines_behind columns lines)
unfolding IsChoiceless
lines_choiceless columns [] = tt
lines_choiceless columns (s ∷ lines) = (tt, (tt, lines_choiceless columns lines))

item_choiceless : (columns : Columns) (lines : List (List ℕ)) → Each IsChoiceless (spelled_lines columns lines)
unfolding IsChoiceless
item_choiceless columns [] = tt
item_choiceless columns (s ∷ lines) = (tt, lines_choiceless columns lines)

-- nor has such a document
slot_choiceless : (style : StyleView) (ts : List Token) (tree : KeptTree) (kept : Slot) (s : definition.Slot Tree) →
    HasLeadsAlone kept → SlotStands ts tree.nodes kept s → AreComments s.leads → IsChoiceless (style_doc style ts s)
slot_choiceless style ts =
    slot_holds IsChoiceless choiceless style ts
    (λ item. let lines = slice_split (λ c. c == 10) (spelling_at ts item) in seq_holds IsChoiceless choiceless (spelled_lines style.columns lines) (item_choiceless style.columns lines))

-- so its one layout is what is chosen
pub record Settles (d : Doc) : Type 0 where
  pub document : IsDocument d
  pub choiceless : IsChoiceless d
  pub layout : HasLayout d false
  pub one : Single d

pub slot_settles : (style : StyleView) (ts : List Token) (tree : KeptTree) (kept : Slot) (s : definition.Slot Tree) →
    HasLeadsAlone kept → SlotStands ts tree.nodes kept s → AreComments s.leads → Settles (style_doc style ts s)
slot_settles style ts tree kept s alone stands comments =
    let free = slot_choiceless style ts tree kept s alone stands comments in
    let layout = slot_has_layout style ts s in
    record {
      document = slot_document style ts tree kept s alone stands comments;
      choiceless = free;
      layout = layout;
      one = single (style_doc style ts s) free layout;
    }
