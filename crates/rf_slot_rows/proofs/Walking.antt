-- What is put on the stack for nodes: items, prefixes, and what stands behind an item.
use Rattle.std.proofs.Common.{◌≡◌, ℕ, suc, ◌+◌, Bool, false, Option, None, Some, List, [], ◌∷◌, ◌++◌, length, map, take, slice_get, refl, sym, ap, ap₂, ◌∙◌, subst, add-one}
use Rattle.std.specs.Option.{option_map}
use Rattle.std.specs.Prelude.{unwrap_or}
use Rattle.std.proofs.lemmas.List.{length-map, map-append}
use Rattle.rf_base_document.specs.Document.{Doc, Hard, Concat, Align}
use Rattle.rf_base_document.specs.Sequence.{seq, seq_within}
use Rattle.rf_base_grammar.specs.Token.{Token}
use Rattle.rf_base_style.specs.Table.{StyleView}
use Rattle.rf_base_tree.specs.declared.separators.Want.{Want}
use Rattle.rf_base_tree.specs.declared.separators.Want.TheVariants as want
use Rattle.rf_base_tree.specs.Trees.{Tree, Leaf, Point, Comment, Prefixed, DatumComment, Listed, Forest, spelling_at}
use Rattle.rf_base_tree.specs.Slots.{Entry, entries_of}
use Rattle.rf_base_tree.specs.Slots as definition
use Rattle.rf_base_file.specs.declared.shapes.Role.{Role}
use Rattle.rf_base_file.specs.declared.shapes.Role.TheVariants.{Free}
use Rattle.rf_base_file.specs.Rows.{Part, part, Step, step, item_doc, mark_doc, steps_docs, row_docs, steps_wanting, prefixed_doc, whats, perhaps_step, slot_steps, slot_doc, slot_part}
use Rattle.rf_base_file.specs.Ways.{Piece, part_in, entry_in, role_behind as a_role_behind, quoted_behind}
use Rattle.rf_base_file.specs.FileDocument.{tree_piece, entry_piece, top_slot, top_part, file_docs, style_doc}
use Rattle.rf_base_file.proofs.TreeStrands.{entries_are}
use Rattle.rf_base_file.proofs.FileParagraphs.{part_doc}
use Rattle.rf_tree.specs.Nodes.{UnfoldsTo}
use Rattle.rf_tree.specs.Slots.{NodeSlot, NodesStand, NodeStands, NodeSlotStands}
use Rattle.rf_tree.specs.declared.nodes.At.{At}
use Rattle.rf_tree.specs.Told.{Node}
use Rattle.rf_tree.specs.Told as node
use Rattle.rf_ways.specs.Steps.{role_behind}
use Rattle.rf_ways.specs.Steps.{prefixed_steps}
use Rattle.rf_ways.specs.Steps.{gap_behind, last_behind, docs_behind}
use Rattle.rf_ways.specs.Steps.{want_behind}
use Rattle.rf_ways.proofs.RowSteps.{prefixed_is}
use Rattle.rf_ways.proofs.NodeParts.{entries_length, parts_more, leads_same, role_same}
use Rattle.rf_ways.proofs.RowSteps.{last_behind-append, docs_behind-some, docs_behind-none}
use Rattle.rf_slot_rows.proofs.Slotting.{alike_docs, alike_part, slot_alike, last_is, steps_written_for}
use Rattle.rf_rows.specs.declared.rows.Rows.{Rows}
use Rattle.rf_rows.specs.Puts.{Puts}
use Rattle.rf_slot_rows.specs.Puts.{StepsPut}
use Rattle.rf_ways.specs.Nodes.{node_in, slot_of}
use Rattle.rf_slot_rows.specs.Nodes.{nodes_in, perhaps_in, tops_of, PartPut}
use Rattle.rf_slot_rows.proofs.Putting.{puts_same, fills_both, steps_none, steps_both}
use Rattle.rf_slot_rows.proofs.ShapeRows.{wanting-append}

-- a part that was put is the same part
pub same_part : (p q : Part) (old new : Rows) (last : ℕ) → p ≡ q → PartPut p old new last → PartPut q old new last
same_part p q old new last is put = subst (λ (x : Part). PartPut x old new last) is put

-- an item by itself
leaf_part : (style : StyleView) (ts : List Token) (nodes : List Node) (at item : ℕ) (t : Tree) (quoted : Bool) (role : Role) → slice_get nodes at ≡ Some (node.Leaf item) → UnfoldsTo ts nodes at t →
    part item item (item_doc style.columns ts item) ≡ node_in style ts quoted role t
unfolding UnfoldsTo tree_piece
leaf_part style ts nodes at item (Leaf i) quoted role e h =
    let is = h.0 in
    let same : item ≡ i = cc in
    ap (λ (n : ℕ). part n n (item_doc style.columns ts n)) same
leaf_part style ts nodes at item (Point i) quoted role e h =
    let is = h.0 in
    let same : item ≡ i = cc in
    ap (λ (n : ℕ). part n n (item_doc style.columns ts n)) same
leaf_part style ts nodes at item (Comment i) quoted role e h = cc
leaf_part style ts nodes at item (Prefixed i l x) quoted role e h = let is = h.2 in cc
leaf_part style ts nodes at item (DatumComment i l x) quoted role e h = let is = h.2 in cc
leaf_part style ts nodes at item (Listed o f c) quoted role e h = let is = h.1 in cc

-- what stands at a comment's node is this
pub comment_is : (ts : List Token) (nodes : List Node) (at item : ℕ) (t : Tree) → slice_get nodes at ≡ Some (node.Comment item) → UnfoldsTo ts nodes at t → t ≡ Comment item
unfolding UnfoldsTo
comment_is ts nodes at item (Comment i) e h = let same : i ≡ item = cc in ap Comment same
comment_is ts nodes at item (Prefixed i l x) e h = let is = h.2 in cc
comment_is ts nodes at item (DatumComment i l x) e h = let is = h.2 in cc
comment_is ts nodes at item (Listed o f c) e h = let is = h.1 in cc
comment_is ts nodes at item _ e h = let is = h.0 in cc

pub comment_part : (style : StyleView) (ts : List Token) (nodes : List Node) (at item : ℕ) (t : Tree) (quoted : Bool) (role : Role) → slice_get nodes at ≡ Some (node.Comment item) → UnfoldsTo ts nodes at t →
    part item item (item_doc style.columns ts item) ≡ node_in style ts quoted role t
unfolding tree_piece
comment_part style ts nodes at item t quoted role e h = ap (λ (x : Tree). node_in style ts quoted role x) (sym (comment_is ts nodes at item t e h))

pub leaf_put : (style : StyleView) (ts : List Token) (nodes : List Node) (at item : ℕ) (t : Tree) (quoted : Bool) (role : Role) (old new : Rows) → slice_get nodes at ≡ Some (node.Leaf item) → UnfoldsTo ts nodes at t →
    Puts old new (item_doc style.columns ts item ∷ []) → PartPut (node_in style ts quoted role t) old new item
leaf_put style ts nodes at item t quoted role old new e h put =
    same_part (part item item (item_doc style.columns ts item)) (node_in style ts quoted role t) old new item (leaf_part style ts nodes at item t quoted role e h) (refl, put)

pub comment_put : (style : StyleView) (ts : List Token) (nodes : List Node) (at item : ℕ) (t : Tree) (quoted : Bool) (role : Role) (old new : Rows) → slice_get nodes at ≡ Some (node.Comment item) → UnfoldsTo ts nodes at t →
    Puts old new (item_doc style.columns ts item ∷ []) → PartPut (node_in style ts quoted role t) old new item
comment_put style ts nodes at item t quoted role old new e h put =
    same_part (part item item (item_doc style.columns ts item)) (node_in style ts quoted role t) old new item (comment_part style ts nodes at item t quoted role e h) (refl, put)

-- a prefix and a skip
abbrev prefixed_with : StyleView → List Token → ℕ → List (Entry Piece) → Tree → Bool → Part
prefixed_with style ts item es x q =
    part item (tree_piece style ts x).last (prefixed_doc ts item (map (part_in q Free) (whats es)) (node_in style ts q Free x))

prefixed_part : (style : StyleView) (ts : List Token) (item : ℕ) (l : Forest) (x t : Tree) (q quoted : Bool) (role : Role) → t ≡ Prefixed item l x → q ≡ quoted_behind (spelling_at ts item) quoted →
    prefixed_with style ts item (map (entry_piece style ts) (entries_of ts l)) x q ≡ node_in style ts quoted role t
unfolding tree_piece
prefixed_part style ts item l x t q quoted role is same =
    ap (λ (b : Bool). prefixed_with style ts item (map (entry_piece style ts) (entries_of ts l)) x b) same
    ∙ ap (λ (es : List (Entry Piece)). prefixed_with style ts item es x (quoted_behind (spelling_at ts item) quoted)) (sym (entries_are style ts l))
    ∙ ap (λ (u : Tree). node_in style ts quoted role u) (sym is)

skipped_part : (style : StyleView) (ts : List Token) (item : ℕ) (l : Forest) (x t : Tree) (quoted : Bool) (role : Role) → t ≡ DatumComment item l x →
    prefixed_with style ts item (map (entry_piece style ts) (entries_of ts l)) x quoted ≡ node_in style ts quoted role t
unfolding tree_piece
skipped_part style ts item l x t quoted role is =
    ap (λ (es : List (Entry Piece)). prefixed_with style ts item es x quoted) (sym (entries_are style ts l))
    ∙ ap (λ (u : Tree). node_in style ts quoted role u) (sym is)

pub prefixed_put : (style : StyleView) (ts : List Token) (item : ℕ) (l : Forest) (x t : Tree) (q quoted : Bool) (role : Role) (old new : Rows) (last : ℕ) → t ≡ Prefixed item l x → q ≡ quoted_behind (spelling_at ts item) quoted →
    (last ≡ (node_in style ts q Free x).last) × Puts old new (prefixed_doc ts item (nodes_in style ts q Free (entries_of ts l)) (node_in style ts q Free x) ∷ []) →
    PartPut (node_in style ts quoted role t) old new last
prefixed_put style ts item l x t q quoted role old new last is same put =
    same_part (prefixed_with style ts item (map (entry_piece style ts) (entries_of ts l)) x q) (node_in style ts quoted role t) old new last (prefixed_part style ts item l x t q quoted role is same) put

pub skipped_put : (style : StyleView) (ts : List Token) (item : ℕ) (l : Forest) (x t : Tree) (quoted : Bool) (role : Role) (old new : Rows) (last : ℕ) → t ≡ DatumComment item l x →
    (last ≡ (node_in style ts quoted Free x).last) × Puts old new (prefixed_doc ts item (nodes_in style ts quoted Free (entries_of ts l)) (node_in style ts quoted Free x) ∷ []) →
    PartPut (node_in style ts quoted role t) old new last
skipped_put style ts item l x t quoted role old new last is put =
    same_part (prefixed_with style ts item (map (entry_piece style ts) (entries_of ts l)) x quoted) (node_in style ts quoted role t) old new last (skipped_part style ts item l x t quoted role is) put

seq_of_two : (a b : Doc) → seq (a ∷ b ∷ []) ≡ Concat a b
unfolding seq seq_within
seq_of_two a b = refl

pub prefix_joined : (ts : List Token) (item : ℕ) (qs : List Part) (q : Part) → seq (mark_doc ts item ∷ Align (seq (steps_docs ts item (prefixed_steps qs q))) ∷ []) ≡ prefixed_doc ts item qs q
prefix_joined ts item qs q = seq_of_two (mark_doc ts item) (Align (seq (steps_docs ts item (prefixed_steps qs q)))) ∙ sym (prefixed_is ts item qs q)

-- a part behind an item, with the gap before it
pub behind_put : (ts : List Token) (a b c : Rows) (before : Option ℕ) (next : ℕ) (w : Want) (p : Part) (last : ℕ) → next ≡ p.first → Puts a b (gap_behind ts before next w) → PartPut p b c last →
    StepsPut ts a c before (Some last) (step w p ∷ [])
unfolding last_behind docs_behind
behind_put ts a b c before next w p last first gap put =
    record {
      docs =
          fills_both a b c (λ f. gap_behind ts before p.first w) (λ f. p.doc ∷ [])
          (subst (λ (n : ℕ). Puts a b (gap_behind ts before n w)) first gap) put.1;
      last_is = ap (λ (n : ℕ). Some n) put.0;
    }

-- nodes, one more
pub nodes_more : (style : StyleView) (ts : List Token) (quoted : Bool) (role : Role) (w : Want) (es : List (Entry Tree)) (i : ℕ) (e : Entry Tree) → take (suc i) es ≡ take i es ++ e ∷ [] →
    steps_wanting w (nodes_in style ts quoted role (take i es)) ++ step w (node_in style ts quoted role e.what) ∷ [] ≡ steps_wanting w (nodes_in style ts quoted role (take (i + 1) es))
nodes_more style ts quoted role w es i e taken =
    sym (wanting-append w (nodes_in style ts quoted role (take i es)) (node_in style ts quoted role e.what ∷ []))
    ∙ ap (λ (ps : List Part). steps_wanting w ps) (sym (parts_more style ts quoted role (take i es) e))
    ∙ ap (λ (xs : List (Entry Tree)). steps_wanting w (nodes_in style ts quoted role xs)) (sym (ap (λ (n : ℕ). take n es) (add-one i) ∙ taken))

pub same_steps : (ts : List Token) (a b : Rows) (x y : Option ℕ) (s t : List Step) → s ≡ t → StepsPut ts a b x y s → StepsPut ts a b x y t
same_steps ts a b x y s t is put = subst (λ (v : List Step). StepsPut ts a b x y v) is put

-- a node that may be there
perhaps_no : (style : StyleView) (ts : List Token) (nodes : List Node) (quoted : Bool) (role : Role) (w : Want) (e : Option (Entry Tree)) → NodeStands ts nodes None e →
    [] ≡ perhaps_step w (perhaps_in style ts quoted role e) []
perhaps_no style ts nodes quoted role w None h = refl
perhaps_no style ts nodes quoted role w (Some e) h = absurd h

pub perhaps_none : (style : StyleView) (ts : List Token) (nodes : List Node) (quoted : Bool) (role : Role) (w : Want) (at : Option At) (e : Option (Entry Tree)) (a : Rows) (before : Option ℕ) → at ≡ None → NodeStands ts nodes at e →
    StepsPut ts a a before before (perhaps_step w (perhaps_in style ts quoted role e) [])
perhaps_none style ts nodes quoted role w at e a before is h =
    same_steps ts a a before before [] _ (perhaps_no style ts nodes quoted role w e (subst (λ (o : Option At). NodeStands ts nodes o e) is h)) (steps_none ts a before)

perhaps_yes : (style : StyleView) (ts : List Token) (nodes : List Node) (quoted : Bool) (role : Role) (w : Want) (at : At) (e : Option (Entry Tree)) (a b : Rows) (before last : Option ℕ) →
    ((t : Tree) → UnfoldsTo ts nodes at.0 t → StepsPut ts a b before last (step w (node_in style ts quoted role t) ∷ [])) → NodeStands ts nodes (Some at) e →
    StepsPut ts a b before last (perhaps_step w (perhaps_in style ts quoted role e) [])
perhaps_yes style ts nodes quoted role w at None a b before last put h = absurd h
perhaps_yes style ts nodes quoted role w at (Some e) a b before last put h = put e.what h

pub perhaps_some : (style : StyleView) (ts : List Token) (nodes : List Node) (quoted : Bool) (role : Role) (w : Want) (o : Option At) (at : At) (e : Option (Entry Tree)) (a b : Rows) (before last : Option ℕ) → o ≡ Some at →
    ((t : Tree) → UnfoldsTo ts nodes at.0 t → StepsPut ts a b before last (step w (node_in style ts quoted role t) ∷ [])) → NodeStands ts nodes o e →
    StepsPut ts a b before last (perhaps_step w (perhaps_in style ts quoted role e) [])
perhaps_some style ts nodes quoted role w o at e a b before last is put h =
    perhaps_yes style ts nodes quoted role w at e a b before last put (subst (λ (x : Option At). NodeStands ts nodes x e) is h)

-- the first of some nodes, and the others
pub record FirstEntry (ts : List Token) (nodes : List Node) (at : At) (others : List At) (es : List (Entry Tree)) : Type 0 where
  pub entry : Entry Tree
  pub entries : List (Entry Tree)
  pub is : es ≡ entry ∷ entries
  pub first : UnfoldsTo ts nodes at.0 entry.what
  pub rest : NodesStand ts nodes others entries

pub first_entry : (ts : List Token) (nodes : List Node) (all : List At) (at : At) (others : List At) (es : List (Entry Tree)) → all ≡ at ∷ others → NodesStand ts nodes all es → FirstEntry ts nodes at others es
first_entry ts nodes all at others es is h = go es (subst (λ (ats : List At). NodesStand ts nodes ats es) is h)
  where
    go : (es : List (Entry Tree)) → NodesStand ts nodes (at ∷ others) es → FirstEntry ts nodes at others es
    go [] h = absurd h
    go (e ∷ es) h = record { entry = e; entries = es; is = refl; first = h.0; rest = h.1 }

pub no_entries : (ts : List Token) (nodes : List Node) (all : List At) (es : List (Entry Tree)) → all ≡ [] → NodesStand ts nodes all es → es ≡ []
no_entries ts nodes all es is h = go es (subst (λ (ats : List At). NodesStand ts nodes ats es) is h)
  where
    go : (es : List (Entry Tree)) → NodesStand ts nodes [] es → es ≡ []
    go [] h = refl
    go (e ∷ es) h = absurd h

-- what stands behind a prefix or a skip
some_same : (m n : ℕ) → Some m ≡ Some n → m ≡ n
some_same m n e = cc

pub led_put : (ts : List Token) (a b : Rows) (item last : ℕ) (s : List Step) (w : Want) (p : Part) → StepsPut ts a b (Some item) (Some last) (s ++ step w p ∷ []) →
    (last ≡ p.last) × Puts a b (steps_docs ts item (s ++ step w p ∷ []))
unfolding last_behind
led_put ts a b item last s w p put = (
  some_same last p.last (put.last_is ∙ last_behind-append (Some item) s (step w p ∷ [])),
  puts_same a b (docs_behind ts (Some item) (s ++ step w p ∷ [])) _ (docs_behind-some ts item (s ++ step w p ∷ [])) put.docs,
)

-- the parts of a slot
want_same : (style : StyleView) (ts : List Token) (nodes : List Node) (quoted : Bool) (role : Role) (key : Option At) (e : Option (Entry Tree)) → NodeStands ts nodes key e → want_behind key ≡ want_behind (perhaps_in style ts quoted role e)
want_same style ts nodes quoted role None (Some e) h = absurd h
want_same style ts nodes quoted role (Some at) None h = absurd h
want_same style ts nodes quoted role _ _ h = refl

pub slot_steps_put : (style : StyleView) (ts : List Token) (nodes : List Node) (quoted : Bool) (role behind : Role) (w : Want) (kept : NodeSlot) (s : definition.Slot Tree) (a b c d e : Rows) (v x y z : Option ℕ) → NodeSlotStands ts nodes kept s →
    behind ≡ role_behind kept.key role → w ≡ want_behind kept.key → StepsPut ts a b None v (steps_wanting want.Line (nodes_in style ts quoted Free s.leads)) →
    StepsPut ts b c v x (perhaps_step want.Line (perhaps_in style ts quoted Free s.key) []) → StepsPut ts c d x y (perhaps_step w (perhaps_in style ts quoted behind s.datum) []) →
    StepsPut ts d e y z (perhaps_step want.Space (perhaps_in style ts quoted Free s.trailing) []) → StepsPut ts a e None z (steps_written_for (slot_of style ts quoted role s))
slot_steps_put style ts nodes quoted role behind w kept s a b c d e v x y z stands is wanted leads key datum trailing =
    let slot : definition.Slot Part = slot_of style ts quoted role s in
    let same_role : behind ≡ a_role_behind (option_map (entry_piece style ts) s.key) role = is ∙ role_same ts nodes style kept.key s.key role stands.key in
    let same_want : w ≡ want_behind slot.key = wanted ∙ want_same style ts nodes quoted Free kept.key s.key stands.key in
    let led : StepsPut ts a b None v (steps_wanting want.Line (whats slot.leads)) =
    same_steps ts a b None v _ _ (ap (λ (ps : List Part). steps_wanting want.Line ps) (sym (leads_same style ts quoted s.leads))) leads in
    let mid : StepsPut ts c d x y (perhaps_step (want_behind slot.key) slot.datum []) =
    same_steps ts c d x y _ _ (ap₂ (λ (u : Want) (r : Role). perhaps_step u (perhaps_in style ts quoted r s.datum) []) same_want same_role) datum in
    steps_both ts a b e None v z (steps_wanting want.Line (whats slot.leads)) _ led
    (steps_both ts b c e v x z (perhaps_step want.Line slot.key []) _ key
    (steps_both ts c d e x y z (perhaps_step (want_behind slot.key) slot.datum []) (perhaps_step want.Space slot.trailing []) mid trailing))

pub slot_row : (ts : List Token) (a b : Rows) (end : Option ℕ) (s : definition.Slot Part) → StepsPut ts a b None end (steps_written_for s) →
    (unwrap_or end 0 ≡ (slot_part ts s).last) × Puts a b (row_docs ts (slot_steps s))
slot_row ts a b end s put =
    let steps : List Step = steps_written_for s in (
      ap (λ (o : Option ℕ). unwrap_or o 0) put.last_is ∙ last_is steps (slot_doc ts s) ∙ ap (λ (p : Part). p.last) (alike_part (slot_doc ts s) steps (slot_steps s) (slot_alike s)),
      puts_same a b (docs_behind ts None steps) (row_docs ts (slot_steps s)) (docs_behind-none ts steps ∙ alike_docs ts steps (slot_steps s) (slot_alike s)) put.docs,
    )

-- a slot
pub slot_doc_is : (ts : List Token) (s : definition.Slot Part) → slot_doc ts s ∷ [] ≡ (slot_part ts s).doc ∷ []
slot_doc_is ts s = ap (λ (d : Doc). d ∷ []) (sym (part_doc (slot_steps s) (slot_doc ts s)))

pub leads_count : (style : StyleView) (ts : List Token) (nodes : List Node) (quoted : Bool) (role : Role) (kept : NodeSlot) (s : definition.Slot Tree) → NodeSlotStands ts nodes kept s →
    length (slot_of style ts quoted role s).leads ≡ length kept.leads
leads_count style ts nodes quoted role kept s stands =
    length-map (map (entry_piece style ts) s.leads) (entry_in quoted Free) ∙ length-map s.leads (entry_piece style ts) ∙ entries_length ts nodes kept.leads s.leads stands.leads

-- a top-level slot
pub top_put : (style : StyleView) (ts : List Token) (s : definition.Slot Tree) (old new : Rows) (last : ℕ) → PartPut (top_part style ts s) old new last → Puts old new (style_doc style ts s ∷ [])
top_put style ts s old new last put =
    puts_same old new _ _ (ap (λ (d : Doc). d ∷ []) (part_doc (slot_steps (top_slot style ts s)) (style_doc style ts s))) put.1

pub top_is : (style : StyleView) (ts : List Token) (s : definition.Slot Tree) → slot_part ts (slot_of style ts false Free s) ≡ top_part style ts s
unfolding style_doc
top_is style ts s = refl

-- top-level slots, one more
pub tops_more : (style : StyleView) (ts : List Token) (w : Want) (ss all : List (definition.Slot Tree)) (s : definition.Slot Tree) → all ≡ ss ++ s ∷ [] →
    steps_wanting w (tops_of style ts ss) ++ step w (top_part style ts s) ∷ [] ≡ steps_wanting w (tops_of style ts all)
tops_more style ts w ss all s is =
    sym (wanting-append w (tops_of style ts ss) (top_part style ts s ∷ []))
    ∙ ap (λ (ps : List Part). steps_wanting w ps) (sym (map-append (top_part style ts) ss (s ∷ [])))
    ∙ ap (λ (xs : List (definition.Slot Tree)). steps_wanting w (tops_of style ts xs)) (sym is)

-- a file of some slot
pub file_is : (ts : List Token) (ps : List Part) → (length ps ≡ 0 → ⊥) → row_docs ts (steps_wanting want.Must ps) ++ Hard ∷ [] ≡ file_docs ts ps
file_is ts [] some = absurd (some refl)
file_is ts (p ∷ ps) some = refl
