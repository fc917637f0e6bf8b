-- Slots in a row: their first items, their paragraphs, and both in two halves.
use Rattle.std.proofs.Common.{◌≡◌, ℕ, zero, suc, ◌^◌, ◌≤◌, Bool, false, Option, None, Some, List, [], ◌∷◌, ◌++◌, length, map, slice_get, take, drop, refl, sym, ◌∙◌, ap, subst}
use Rattle.std.proofs.lemmas.List.{nil_from_length, take-append-drop}
use Rattle.std.proofs.lemmas.Bool.{eqb-true}
use Rattle.std.specs.List.{AllByRecursion}
use Rattle.std.specs.Prelude.{IsSome, IsTrue, ◌==◌}
use Rattle.rf_base_document.specs.Document.{Doc, IsDocument}
use Rattle.rf_base_document.specs.Simple.{simple}
use Rattle.rf_base_document.proofs.Simple.{keeps_layouts}
use Rattle.rf_base_optimum.specs.MostPieces.{most_pieces}
use Rattle.rf_base_optimum.specs.Paragraphs.{Paragraph, EachIsDocument, EachHasCore}
use Rattle.rf_base_grammar.specs.Token.{Token}
use Rattle.rf_base_style.specs.Table.{StyleView}
use Rattle.rf_base_tree.specs.Trees.{Tree, Forest}
use Rattle.rf_base_tree.specs.Slots.{Entry, Slot, perhaps}
use Rattle.rf_base_tree.specs.Cut.{slot}
use Rattle.rf_base_file.specs.Rows.{Part, Step, slot_steps, part_of}
use Rattle.rf_base_file.specs.FileDocument.{tree_piece, top_slot, style_doc, top_part}
use Rattle.rf_base_file.specs.ByForms.{blanks_before, parts_paragraphs}
use Rattle.rf_base_file.proofs.Each.{each-take, each-drop}
use Rattle.rf_base_file.proofs.Layouts.{slot_has_layout}
use Rattle.rf_base_file.proofs.FileParagraphs.{part_doc}
use Rattle.rf_tree.specs.Nodes.{UnfoldsTo}
use Rattle.rf_tree.specs.Slots.{NodesStand, NodeStands, NodeSlotStands, NodeSlotsStand, NodeSlotsBelow, parts_in, NodeSlot}
use Rattle.rf_tree.specs.declared.nodes.At.{At}
use Rattle.rf_tree.specs.Told.{Node}
use Rattle.rf_tree.specs.declared.trees.Tree.{Tree as KeptTree}
use Rattle.rf_whole.specs.Groups.{IsRow, AreInRow}
use Rattle.rf_joins.specs.Paragraphs.{blanks_or, group_paragraphs, slots_paragraphs}
use Rattle.rf_joins.proofs.ParagraphsJoin.{group-append, parts-append}
use Rattle.rf_slot_rows.proofs.ListPieces.{below_drop}

-- the first item of a slot is that of its first node, if it has one
first_of : (style : StyleView) (ts : List Token) (nodes : List Node) (ats : List At) (key datum trailing : Option At) (leads : List (Entry Tree)) (k d t : Option (Entry Tree)) (at : At) →
    NodesStand ts nodes ats leads → NodeStands ts nodes key k → NodeStands ts nodes datum d → NodeStands ts nodes trailing t →
    slice_get (ats ++ perhaps key (perhaps datum (perhaps trailing []))) 0 ≡ Some at →
    (u : Tree) × UnfoldsTo ts nodes at.0 u × ((top_part style ts (slot leads k d t)).first ≡ (tree_piece style ts u).first)
first_of style ts nodes [] key datum trailing (e ∷ leads) k d t at h hk hd ht is = absurd h
first_of style ts nodes (a ∷ ats) key datum trailing [] k d t at h hk hd ht is = absurd h
first_of style ts nodes (a ∷ ats) key datum trailing (e ∷ leads) k d t at h hk hd ht is =
    let same : a ≡ at = cc in (e.what, subst (λ (b : At). UnfoldsTo ts nodes b.0 e.what) same h.0, refl)
first_of style ts nodes [] None datum trailing [] (Some e) d t at h hk hd ht is = absurd hk
first_of style ts nodes [] (Some a) datum trailing [] None d t at h hk hd ht is = absurd hk
first_of style ts nodes [] (Some a) datum trailing [] (Some e) d t at h hk hd ht is =
    let same : a ≡ at = cc in (e.what, subst (λ (b : At). UnfoldsTo ts nodes b.0 e.what) same hk, refl)
first_of style ts nodes [] None None trailing [] None (Some e) t at h hk hd ht is = absurd hd
first_of style ts nodes [] None (Some a) trailing [] None None t at h hk hd ht is = absurd hd
first_of style ts nodes [] None (Some a) trailing [] None (Some e) t at h hk hd ht is =
    let same : a ≡ at = cc in (e.what, subst (λ (b : At). UnfoldsTo ts nodes b.0 e.what) same hd, refl)
first_of style ts nodes [] None None None [] None None (Some e) at h hk hd ht is = absurd ht
first_of style ts nodes [] None None (Some a) [] None None None at h hk hd ht is = absurd ht
first_of style ts nodes [] None None None [] None None None at h hk hd ht is = cc
first_of style ts nodes [] None None (Some a) [] None None (Some e) at h hk hd ht is =
    let same : a ≡ at = cc in (e.what, subst (λ (b : At). UnfoldsTo ts nodes b.0 e.what) same ht, refl)

pub slot_first : (style : StyleView) (ts : List Token) (nodes : List Node) (kept : NodeSlot) (q : Slot Tree) (at : At) → NodeSlotStands ts nodes kept q → slice_get (parts_in kept) 0 ≡ Some at →
    (u : Tree) × UnfoldsTo ts nodes at.0 u × ((top_part style ts q).first ≡ (tree_piece style ts u).first)
slot_first style ts nodes kept q at h is =
    first_of style ts nodes kept.leads kept.key kept.datum kept.trailing q.leads q.key q.datum q.trailing at h.leads h.key h.datum h.trailing is

none_of : (style : StyleView) (ts : List Token) (nodes : List Node) (ats : List At) (key datum trailing : Option At) (leads : List (Entry Tree)) (k d t : Option (Entry Tree)) →
    NodesStand ts nodes ats leads → NodeStands ts nodes key k → NodeStands ts nodes datum d → NodeStands ts nodes trailing t →
    slice_get (ats ++ perhaps key (perhaps datum (perhaps trailing []))) 0 ≡ None → (top_part style ts (slot leads k d t)).first ≡ 0
none_of style ts nodes [] key datum trailing (e ∷ leads) k d t h hk hd ht is = absurd h
none_of style ts nodes (a ∷ ats) key datum trailing leads k d t h hk hd ht is = cc
none_of style ts nodes [] None datum trailing [] (Some e) d t h hk hd ht is = absurd hk
none_of style ts nodes [] (Some a) datum trailing [] k d t h hk hd ht is = cc
none_of style ts nodes [] None None trailing [] None (Some e) t h hk hd ht is = absurd hd
none_of style ts nodes [] None (Some a) trailing [] None d t h hk hd ht is = cc
none_of style ts nodes [] None None None [] None None (Some e) h hk hd ht is = absurd ht
none_of style ts nodes [] None None (Some a) [] None None t h hk hd ht is = cc
none_of style ts nodes [] None None None [] None None None h hk hd ht is = refl

pub slot_none : (style : StyleView) (ts : List Token) (nodes : List Node) (kept : NodeSlot) (q : Slot Tree) → NodeSlotStands ts nodes kept q → slice_get (parts_in kept) 0 ≡ None →
    (top_part style ts q).first ≡ 0
slot_none style ts nodes kept q h is =
    none_of style ts nodes kept.leads kept.key kept.datum kept.trailing q.leads q.key q.datum q.trailing h.leads h.key h.datum h.trailing is

pub top_doc : (style : StyleView) (ts : List Token) (q : Slot Tree) → (top_part style ts q).doc ≡ style_doc style ts q
top_doc style ts q = part_doc (slot_steps (top_slot style ts q)) (style_doc style ts q)

-- one slot as a paragraph
pub one_slot : (style : StyleView) (ts : List Token) (n : ℕ) (q : Slot Tree) → slots_paragraphs style ts n (q ∷ []) ≡ record { doc = style_doc style ts q; blanks = n } ∷ []
unfolding group_paragraphs
one_slot style ts n q = ap (λ (d : Doc). record { doc = d; blanks = n } ∷ []) (top_doc style ts q)

pub no_slot : (style : StyleView) (ts : List Token) (n : ℕ) → slots_paragraphs style ts n [] ≡ []
unfolding group_paragraphs
no_slot style ts n = refl

-- the paragraphs of two halves
slots_halves : (style : StyleView) (ts : List Token) (n k : ℕ) (qs : List (Slot Tree)) →
    slots_paragraphs style ts n qs ≡ slots_paragraphs style ts (blanks_or n ts (map (top_part style ts) (drop k qs))) (take k qs) ++ slots_paragraphs style ts n (drop k qs)
slots_halves style ts n k qs =
    ap (λ (xs : List (Slot Tree)). slots_paragraphs style ts n xs) (sym (take-append-drop k qs))
    ∙ ap (λ (xs : List Part). group_paragraphs n ts xs) (parts-append style ts (take k qs) (drop k qs))
    ∙ group-append n ts (map (top_part style ts) (take k qs)) (map (top_part style ts) (drop k qs))

-- the halves of slots in a row
stand_take : (ts : List Token) (nodes : List Node) (n : ℕ) (ks : List NodeSlot) (qs : List (Slot Tree)) → NodeSlotsStand ts nodes ks qs → NodeSlotsStand ts nodes (take n ks) (take n qs)
stand_take ts nodes zero ks qs h = tt
stand_take ts nodes (suc n) [] [] h = tt
stand_take ts nodes (suc n) [] (q ∷ qs) h = absurd h
stand_take ts nodes (suc n) (k ∷ ks) [] h = absurd h
stand_take ts nodes (suc n) (k ∷ ks) (q ∷ qs) h = (h.0, stand_take ts nodes n ks qs h.1)

stand_drop : (ts : List Token) (nodes : List Node) (n : ℕ) (ks : List NodeSlot) (qs : List (Slot Tree)) → NodeSlotsStand ts nodes ks qs → NodeSlotsStand ts nodes (drop n ks) (drop n qs)
stand_drop ts nodes zero ks qs h = h
stand_drop ts nodes (suc n) [] [] h = tt
stand_drop ts nodes (suc n) [] (q ∷ qs) h = absurd h
stand_drop ts nodes (suc n) (k ∷ ks) [] h = absurd h
stand_drop ts nodes (suc n) (k ∷ ks) (q ∷ qs) h = stand_drop ts nodes n ks qs h.1

below_take : (m n : ℕ) (ks : List NodeSlot) → NodeSlotsBelow m ks → NodeSlotsBelow m (take n ks)
below_take m zero ks h = tt
below_take m (suc n) [] h = tt
below_take m (suc n) (k ∷ ks) h = (h.0, below_take m n ks h.1)

-- a half, as it is kept
pub front_row : (style : StyleView) (tree : KeptTree) (ks front : List NodeSlot) (ts : List Token) (trees : Forest) (qs : List (Slot Tree)) (n : ℕ) → front ≡ take n ks →
    IsRow style tree ks ts trees qs → IsRow style tree front ts trees (take n qs)
front_row style tree ks front ts trees qs n e h = rw e (record {
  tree_of = h.tree_of;
  stand = stand_take ts tree.nodes n ks qs h.stand;
  below = below_take (length tree.nodes) n ks h.below;
  documents = each-take _ n qs h.documents;
  few = each-take _ n qs h.few;
})

pub back_row : (style : StyleView) (tree : KeptTree) (ks back : List NodeSlot) (ts : List Token) (trees : Forest) (qs : List (Slot Tree)) (n : ℕ) → back ≡ drop n ks →
    IsRow style tree ks ts trees qs → IsRow style tree back ts trees (drop n qs)
back_row style tree ks back ts trees qs n e h = rw e (record {
  tree_of = h.tree_of;
  stand = stand_drop ts tree.nodes n ks qs h.stand;
  below = below_drop (length tree.nodes) n ks h.below;
  documents = each-drop _ n qs h.documents;
  few = each-drop _ n qs h.few;
})

-- the paragraphs of slots in a row keep the limits of documents, and have cores
pub group_documents : (style : StyleView) (ts : List Token) (n : ℕ) (qs : List (Slot Tree)) → AllByRecursion (λ s. IsDocument (style_doc style ts s)) qs → EachIsDocument (slots_paragraphs style ts n qs)
unfolding group_paragraphs EachIsDocument
group_documents style ts n [] h = tt
group_documents style ts n (q ∷ qs) h = (subst (λ (d : Doc). IsDocument d) (sym (top_doc style ts q)) h.0, group_documents style ts n qs h.1)

pub row_documents : (style : StyleView) (tree : KeptTree) (ks : List NodeSlot) (ts : List Token) (trees : Forest) (qs : List (Slot Tree)) (n : ℕ) → IsRow style tree ks ts trees qs →
    EachIsDocument (slots_paragraphs style ts n qs)
row_documents style tree ks ts trees qs n h = group_documents style ts n qs h.documents

is_some : (o : Option Doc) (s : Doc) → o ≡ Some s → IsSome o
is_some None s e = cc
is_some (Some t) s e = refl

slot_core : (style : StyleView) (ts : List Token) (q : Slot Tree) → IsSome (simple (style_doc style ts q) false)
slot_core style ts q =
    let h = slot_has_layout style ts q in
    let core = (keeps_layouts (style_doc style ts q) false h.0 0 0 h.1).0 h.2 in
    is_some (simple (style_doc style ts q) false) core.0 core.1

pub row_cores : (style : StyleView) (ts : List Token) (n : ℕ) (qs : List (Slot Tree)) → EachHasCore (slots_paragraphs style ts n qs)
unfolding group_paragraphs EachHasCore
row_cores style ts n [] = tt
row_cores style ts n (q ∷ qs) = (subst (λ (d : Doc). IsSome (simple d false)) (sym (top_doc style ts q)) (slot_core style ts q), row_cores style ts n qs)

-- the paragraphs of a file
pub file_group : (ts : List Token) (ps : List Part) → parts_paragraphs ts ps ≡ group_paragraphs 0 ts ps
unfolding parts_paragraphs group_paragraphs
file_group ts [] = refl
file_group ts (p ∷ []) = refl
file_group ts (p ∷ r ∷ ps) = ap (λ (xs : List Paragraph). record { doc = p.doc; blanks = blanks_before (slice_get ts r.first) } ∷ xs) (file_group ts (r ∷ ps))

-- one slot in a row
pub record One (style : StyleView) (tree : KeptTree) (k : NodeSlot) (ts : List Token) (qs : List (Slot Tree)) : Type 0 where
  pub q : Slot Tree
  pub is : qs ≡ q ∷ []
  pub stands : NodeSlotStands ts tree.nodes k q
  pub document : IsDocument (style_doc style ts q)
  pub few : most_pieces (style_doc style ts q) ≤ 2 ^ 27

one_of : (style : StyleView) (tree : KeptTree) (k : NodeSlot) (ts : List Token) (qs : List (Slot Tree)) → NodeSlotsStand ts tree.nodes (k ∷ []) qs →
    AllByRecursion (λ s. IsDocument (style_doc style ts s)) qs → AllByRecursion (λ s. most_pieces (style_doc style ts s) ≤ 2 ^ 27) qs → One style tree k ts qs
one_of style tree k ts [] h d f = absurd h
one_of style tree k ts (q ∷ []) h d f = record { q = q; is = refl; stands = h.0; document = d.0; few = f.0 }
one_of style tree k ts (q ∷ r ∷ qs) h d f = absurd h.1

pub one_row : (style : StyleView) (tree : KeptTree) (k : NodeSlot) (ts : List Token) (trees : Forest) (qs : List (Slot Tree)) → IsRow style tree (k ∷ []) ts trees qs → One style tree k ts qs
one_row style tree k ts trees qs h = one_of style tree k ts qs h.stand h.documents h.few

pub one_paragraph : (style : StyleView) (tree : KeptTree) (k : NodeSlot) (ts : List Token) (qs : List (Slot Tree)) (n : ℕ) (one : One style tree k ts qs) →
    slots_paragraphs style ts n qs ≡ record { doc = style_doc style ts one.q; blanks = n } ∷ []
one_paragraph style tree k ts qs n one = ap (λ (xs : List (Slot Tree)). slots_paragraphs style ts n xs) one.is ∙ one_slot style ts n one.q

pub front_in_row : (style : StyleView) (tree : KeptTree) (ks front : List NodeSlot) (n : ℕ) → front ≡ take n ks → AreInRow style tree ks → AreInRow style tree front
front_in_row style tree ks front n e r = (r.0, r.1, take n r.2, front_row style tree ks front r.0 r.1 r.2 n e r.3)

pub back_in_row : (style : StyleView) (tree : KeptTree) (ks back : List NodeSlot) (n : ℕ) → back ≡ drop n ks → AreInRow style tree ks → AreInRow style tree back
back_in_row style tree ks back n e r = (r.0, r.1, drop n r.2, back_row style tree ks back r.0 r.1 r.2 n e r.3)

-- no slot in a row
none_of_none : (ts : List Token) (nodes : List Node) (qs : List (Slot Tree)) → NodeSlotsStand ts nodes [] qs → qs ≡ []
none_of_none ts nodes [] h = refl
none_of_none ts nodes (q ∷ qs) h = absurd h

pub none_row : (style : StyleView) (tree : KeptTree) (ks : List NodeSlot) (ts : List Token) (trees : Forest) (qs : List (Slot Tree)) (n : ℕ) → ks ≡ [] → IsRow style tree ks ts trees qs →
    slots_paragraphs style ts n qs ≡ []
none_row style tree ks ts trees qs n e h =
    ap (λ (xs : List (Slot Tree)). slots_paragraphs style ts n xs)
    (none_of_none ts tree.nodes qs (subst (λ (xs : List NodeSlot). NodeSlotsStand ts tree.nodes xs qs) e h.stand))
    ∙ no_slot style ts n

-- the paragraphs of two halves, where this is what stands between them
pub halves_are : (style : StyleView) (ts : List Token) (n k : ℕ) (qs : List (Slot Tree)) (between : ℕ) → between ≡ blanks_or n ts (map (top_part style ts) (drop k qs)) →
    slots_paragraphs style ts n qs ≡ slots_paragraphs style ts between (take k qs) ++ slots_paragraphs style ts n (drop k qs)
halves_are style ts n k qs between e =
    slots_halves style ts n k qs ∙ ap (λ (m : ℕ). slots_paragraphs style ts m (take k qs) ++ slots_paragraphs style ts n (drop k qs)) (sym e)

-- a list that is empty
pub is_nothing : {A : Type 0} (xs : List A) (empty : Bool) → empty ≡ (length xs == 0) → IsTrue empty → xs ≡ []
is_nothing xs empty e t = nil_from_length xs (eqb-true (length xs) 0 (sym e ∙ t))
