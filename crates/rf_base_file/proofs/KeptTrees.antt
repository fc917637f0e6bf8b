-- What the documents of items, prefixes, slots and lists keep, those of trees and of top-level slots do.
use Rattle.std.proofs.Common.{ℕ, ◌||◌, Bool, true, false, List, [], ◌∷◌, ◌++◌, sym, subst, Option, Some, None}
use Rattle.std.specs.List.{AllByRecursion}
use Rattle.std.specs.Prelude.{map}
use Rattle.std.specs.Option.{option_map}
use Rattle.rf_base_document.specs.Document.{Doc, Concat, Align}
use Rattle.rf_base_document.specs.Sequence.{seq}
use Rattle.rf_base_grammar.specs.Token.{Token}
use Rattle.rf_base_style.specs.declared.columns.Columns.{Columns}
use Rattle.rf_base_style.specs.declared.columns.Columns.TheVariants.{Characters}
use Rattle.rf_base_style.specs.Table.{StyleView}
use Rattle.rf_base_tree.specs.declared.separators.Want.{Want}
use Rattle.rf_base_tree.specs.declared.separators.Want.TheVariants as want
use Rattle.rf_base_tree.specs.Trees.{Tree, Leaf, Point, Comment, Prefixed, DatumComment, Listed, Forest, Empty, Then, spelling_at}
use Rattle.rf_base_tree.specs.Slots.{Entry, Slot}
use Rattle.rf_base_tree.specs.Cut.{slots_of}
use Rattle.rf_base_file.specs.declared.shapes.Role.{Role}
use Rattle.rf_base_file.specs.declared.shapes.Role.TheVariants.{Free}
use Rattle.rf_base_file.specs.declared.shapes.Roles.{Roles}
use Rattle.rf_base_file.specs.declared.shapes.Way.{Way}
use Rattle.rf_base_file.specs.Rows.{Part, item_doc, mark_doc, Step, step, steps_docs, row_docs, steps_wanting, prefixed_doc, whats, perhaps_step, lead_steps, datum_steps, slot_steps, aligned_behind, slot_doc, part_of, slot_parts}
use Rattle.rf_base_file.specs.Ways.{first_role, later_roles, Piece, part_in, entry_in, role_behind, slot_in, slots_in, way_of, quoted_behind}
use Rattle.rf_base_file.specs.FileDocument.{list_doc, is_vector, tree_piece, forest_entries, entry_piece, slot_piece, style_doc}
use Rattle.rf_base_file.proofs.SlotsHold.{EntriesHold, PerhapsHolds, SlotHolds, SlotsHold, slots_hold}
use Rattle.rf_base_file.proofs.SlotStrands.{whats_of}
use Rattle.rf_base_file.proofs.Each.{each-append, each-map}

-- the documents of these parts, and of the parts of these steps, keep P
abbrev pub PartsKeep : (Doc → Type 0) → List Part → Type 0
PartsKeep P parts = AllByRecursion (λ p. P p.doc) parts

abbrev pub StepsKeep : (Doc → Type 0) → List Step → Type 0
StepsKeep P steps = AllByRecursion (λ s. P s.part.doc) steps

-- in this style documents that are made of others keep P
pub record TreesKeep (style : StyleView) (P : Doc → Type 0) : Type 0 where
  pub item : (columns : Columns) (ts : List Token) (item : ℕ) → P (item_doc columns ts item)
  pub concat : (a b : Doc) → P a → P b → P (Concat a b)
  pub align : (a : Doc) → P a → P (Align a)
  pub steps : (ts : List Token) (before : ℕ) (steps : List Step) → StepsKeep P steps → P (seq (steps_docs ts before steps))
  pub row : (ts : List Token) (steps : List Step) → StepsKeep P steps → P (seq (row_docs ts steps))
  pub list : (ts : List Token) (quoted : Bool) (role : Role) (slots : List (Slot Piece)) (opener : ℕ) (parts : List Part) (closer : ℕ) → PartsKeep P parts →
      P (list_doc ts (way_of style.table quoted role slots) opener parts closer)

pub wanting_kept : (P : Doc → Type 0) (w : Want) (parts : List Part) → PartsKeep P parts → StepsKeep P (steps_wanting w parts)
wanting_kept P w parts h = each-map (λ p. P p.doc) (λ s. P s.part.doc) (step w) parts (λ p k. k) h

-- prefixes and skips
prefixed_kept : {style : StyleView} {P : Doc → Type 0} (k : TreesKeep style P) (ts : List Token) (item : ℕ) (lead : List Part) (inner : Part) → PartsKeep P lead → P inner.doc →
    P (prefixed_doc ts item lead inner)
prefixed_kept k ts item [] inner h g =
    let steps : List Step = step want.Nothing inner ∷ [] in
    k.concat (mark_doc ts item) (Align (seq (steps_docs ts item steps))) (k.item Characters ts item)
    (k.align (seq (steps_docs ts item steps)) (k.steps ts item steps (g, tt)))
prefixed_kept {P = P} k ts item (c ∷ lead) inner h g =
    let steps : List Step = step want.Nothing c ∷ (steps_wanting want.Space lead ++ step want.Space inner ∷ []) in
    let kept : StepsKeep P steps =
    (h.0, each-append (λ s. P s.part.doc) (steps_wanting want.Space lead) (step want.Space inner ∷ []) (wanting_kept P want.Space lead h.1) (g, tt)) in
    k.concat (mark_doc ts item) (Align (seq (steps_docs ts item steps))) (k.item Characters ts item)
    (k.align (seq (steps_docs ts item steps)) (k.steps ts item steps kept))

-- a piece keeps P whatever it stands in
abbrev pub PieceKeeps : (Doc → Type 0) → Piece → Type 0
PieceKeeps P p = (quoted : Bool) (role : Role) → P (p.doc quoted role)

whats_kept : (P : Doc → Type 0) (entries : List (Entry Piece)) → EntriesHold (PieceKeeps P) entries → AllByRecursion (λ p. PieceKeeps P p) (whats entries)
whats_kept P entries h = each-map (λ e. PieceKeeps P e.what) (λ p. PieceKeeps P p) (λ e. e.what) entries (λ e k. k) h

pieces_kept : (P : Doc → Type 0) (quoted : Bool) (role : Role) (pieces : List Piece) → AllByRecursion (λ p. PieceKeeps P p) pieces → PartsKeep P (map (part_in quoted role) pieces)
pieces_kept P quoted role pieces h = each-map (λ p. PieceKeeps P p) (λ p. P p.doc) (part_in quoted role) pieces (λ p k. k quoted role) h

entries_kept : (P : Doc → Type 0) (quoted : Bool) (role : Role) (entries : List (Entry Piece)) → EntriesHold (PieceKeeps P) entries →
    PartsKeep P (whats (map (entry_in quoted role) entries))
entries_kept P quoted role entries h =
    subst (λ (ps : List Part). PartsKeep P ps) (sym (whats_of quoted role entries)) (pieces_kept P quoted role (whats entries) (whats_kept P entries h))

-- slots
abbrev PartKeeps : (Doc → Type 0) → Part → Type 0
PartKeeps P p = P p.doc

perhaps_in : (P : Doc → Type 0) (quoted : Bool) (role : Role) (o : Option (Entry Piece)) → PerhapsHolds (PieceKeeps P) o → PerhapsHolds (PartKeeps P) (option_map (entry_in quoted role) o)
perhaps_in P quoted role None h = tt
perhaps_in P quoted role (Some e) h = h quoted role

perhaps_kept : (P : Doc → Type 0) (w : Want) (o : Option (Entry Part)) (steps : List Step) → PerhapsHolds (PartKeeps P) o → StepsKeep P steps → StepsKeep P (perhaps_step w o steps)
perhaps_kept P w None steps h k = k
perhaps_kept P w (Some e) steps h k = (h, k)

lead_kept : (P : Doc → Type 0) (w : Want) (leads : List Part) (rest : Want → List Step) → PartsKeep P leads → ((v : Want) → StepsKeep P (rest v)) → StepsKeep P (lead_steps w leads rest)
lead_kept P w [] rest h k = k w
lead_kept P w (c ∷ leads) rest h k =
    (h.0, each-append (λ s. P s.part.doc) (steps_wanting want.Line leads) (rest want.Line) (wanting_kept P want.Line leads h.1) (k want.Line))

datum_kept : (P : Doc → Type 0) (w : Want) (key datum trailing : Option (Entry Part)) → PerhapsHolds (PartKeeps P) key → PerhapsHolds (PartKeeps P) datum → PerhapsHolds (PartKeeps P) trailing →
    StepsKeep P (datum_steps w key datum trailing)
datum_kept P w None datum trailing h k l = perhaps_kept P w datum (perhaps_step want.Space trailing []) k (perhaps_kept P want.Space trailing [] l tt)
datum_kept P w (Some key) datum trailing h k l =
    (h, perhaps_kept P want.Space datum (perhaps_step want.Space trailing []) k (perhaps_kept P want.Space trailing [] l tt))

slot_steps_kept : (P : Doc → Type 0) (quoted : Bool) (role : Role) (s : Slot Piece) → SlotHolds (PieceKeeps P) s → StepsKeep P (slot_steps (slot_in quoted role s))
slot_steps_kept P quoted role s h =
    let inner : Slot Part = slot_in quoted role s in
    lead_kept P want.Nothing (whats inner.leads) (λ w. datum_steps w inner.key inner.datum inner.trailing) (entries_kept P quoted Free s.leads h.leads)
    (λ w. datum_kept P w inner.key inner.datum inner.trailing (perhaps_in P quoted Free s.key h.key) (perhaps_in P quoted (role_behind s.key role) s.datum h.datum)
    (perhaps_in P quoted Free s.trailing h.trailing))

aligned_kept : {style : StyleView} {P : Doc → Type 0} (k : TreesKeep style P) (leads : List (Entry Part)) (d : Doc) → P d → P (aligned_behind leads d)
aligned_kept k [] d h = h
aligned_kept k (c ∷ leads) d h = k.align d h

slot_kept : {style : StyleView} {P : Doc → Type 0} (k : TreesKeep style P) (ts : List Token) (quoted : Bool) (role : Role) (s : Slot Piece) → SlotHolds (PieceKeeps P) s →
    P (slot_doc ts (slot_in quoted role s))
slot_kept {P = P} k ts quoted role s h =
    let inner : Slot Part = slot_in quoted role s in
    aligned_kept k inner.leads (seq (row_docs ts (slot_steps inner))) (k.row ts (slot_steps inner) (slot_steps_kept P quoted role s h))

part_of_kept : (P : Doc → Type 0) (steps : List Step) (d : Doc) → P d → PartKeeps P (part_of steps d)
part_of_kept P [] d h = h
part_of_kept P (s ∷ steps) d h = h

pub slots_kept : {style : StyleView} {P : Doc → Type 0} (k : TreesKeep style P) (ts : List Token) (quoted : Bool) (roles : Roles) (slots : List (Slot Piece)) → SlotsHold (PieceKeeps P) slots →
    PartsKeep P (slot_parts ts (slots_in quoted roles slots))
unfolding slots_in
slots_kept k ts quoted roles [] h = tt
slots_kept {P = P} k ts quoted roles (s ∷ slots) h =
    let inner : Slot Part = slot_in quoted (first_role roles) s in (
      part_of_kept P (slot_steps inner) (slot_doc ts inner) (slot_kept k ts quoted (first_role roles) s h.0),
      slots_kept k ts quoted (later_roles roles) slots h.1,
    )

-- trees
mutual
  unfolding tree_piece forest_entries

  pub tree_kept : (style : StyleView) (P : Doc → Type 0) (k : TreesKeep style P) (ts : List Token) (tree : Tree) → PieceKeeps P (tree_piece style ts tree)
  tree_kept style P k ts (Leaf item) quoted role = k.item style.columns ts item
  tree_kept style P k ts (Point item) quoted role = k.item style.columns ts item
  tree_kept style P k ts (Comment item) quoted role = k.item style.columns ts item
  tree_kept style P k ts (Prefixed item lead inner) quoted role =
      let q : Bool = quoted_behind (spelling_at ts item) quoted in
      prefixed_kept k ts item (map (part_in q Free) (whats (forest_entries style ts lead))) (part_in q Free (tree_piece style ts inner))
      (pieces_kept P q Free (whats (forest_entries style ts lead)) (whats_kept P (forest_entries style ts lead) (forest_kept style P k ts lead))) (tree_kept style P k ts inner q Free)
  tree_kept style P k ts (DatumComment item lead inner) quoted role =
      prefixed_kept k ts item (map (part_in quoted Free) (whats (forest_entries style ts lead))) (part_in quoted Free (tree_piece style ts inner))
      (pieces_kept P quoted Free (whats (forest_entries style ts lead)) (whats_kept P (forest_entries style ts lead) (forest_kept style P k ts lead)))
      (tree_kept style P k ts inner quoted Free)
  tree_kept style P k ts (Listed opener entries closer) quoted role =
      let slots : List (Slot Piece) = slots_of true (forest_entries style ts entries) in
      let q : Bool = is_vector ts opener || quoted in
      let w : Way = way_of style.table q role slots in
      k.list ts q role slots opener (slot_parts ts (slots_in q w.roles slots)) closer
      (slots_kept k ts q w.roles slots (slots_hold (PieceKeeps P) true (forest_entries style ts entries) (forest_kept style P k ts entries)))

  pub forest_kept : (style : StyleView) (P : Doc → Type 0) (k : TreesKeep style P) (ts : List Token) (trees : Forest) → EntriesHold (PieceKeeps P) (forest_entries style ts trees)
  forest_kept style P k ts Empty = tt
  forest_kept style P k ts (Then tree rest) = (tree_kept style P k ts tree, forest_kept style P k ts rest)

-- slots of trees
entries_hold : (style : StyleView) (P : Doc → Type 0) (k : TreesKeep style P) (ts : List Token) (entries : List (Entry Tree)) → EntriesHold (PieceKeeps P) (map (entry_piece style ts) entries)
entries_hold style P k ts [] = tt
entries_hold style P k ts (e ∷ entries) = (tree_kept style P k ts e.what, entries_hold style P k ts entries)

perhaps_hold : (style : StyleView) (P : Doc → Type 0) (k : TreesKeep style P) (ts : List Token) (o : Option (Entry Tree)) → PerhapsHolds (PieceKeeps P) (option_map (entry_piece style ts) o)
perhaps_hold style P k ts None = tt
perhaps_hold style P k ts (Some e) = tree_kept style P k ts e.what

pub style_doc_kept : (style : StyleView) (P : Doc → Type 0) (k : TreesKeep style P) (ts : List Token) (s : Slot Tree) → P (style_doc style ts s)
unfolding style_doc
style_doc_kept style P k ts s =
    slot_kept k ts false Free (slot_piece style ts s) (record {
      leads = entries_hold style P k ts s.leads;
      key = perhaps_hold style P k ts s.key;
      datum = perhaps_hold style P k ts s.datum;
      trailing = perhaps_hold style P k ts s.trailing;
    })
