-- Each piece is that of what stands at its node.
use Rattle.std.proofs.Common.{◌≡◌, ◌≢◌, ℕ, ◌+◌, ◌-◌, ◌<◌, ◌≤◌, ◌||◌, ◌⊎◌, inl, inr, true, Some, List, [], ◌∷◌, ◌++◌, length, take, drop, get_or, refl, sym, ap, ◌∙◌, Ok, subst, add-one, arith, rules}
use Rattle.std.specs.List.{AllByRecursion}
use Rattle.std.specs.Prelude.{codes}
use Rattle.std.proofs.lemmas.Bool.{eqb-true, eqb-false}
use Rattle.std.proofs.lemmas.List.{take_all, nil_from_length, take-append-drop}
use Rattle.std.proofs.lemmas.List.Elements.{All-from_recursion}
use Rattle.std.proofs.lemmas.Option.{slice_get-get_or}
use Rattle.std.proofs.lemmas.Result.{IfOk-weaker}
use Rattle.rf_base_document.specs.Document.{Doc, Align}
use Rattle.rf_base_document.specs.Sequence.{seq}
use Rattle.rf_base_grammar.specs.Reader.{begins}
use Rattle.rf_base_grammar.specs.Token.{Token}
use Rattle.rf_base_tree.specs.Trees.{Tree, Forest, Listed, tree_items}
use Rattle.rf_base_tree.specs.Size.{size_of, slots_entries}
use Rattle.rf_base_tree.specs.Slots.{Entry, entries_of}
use Rattle.rf_base_tree.specs.Slots as definition
use Rattle.rf_base_tree.specs.Cut.{slots_of}
use Rattle.rf_base_tree.specs.declared.separators.Want.TheVariants as want
use Rattle.rf_base_file.specs.declared.shapes.Role.{Role}
use Rattle.rf_base_file.specs.declared.shapes.Roles.{Roles}
use Rattle.rf_base_file.specs.Rows.{Part, Step, step, mark_doc, steps_docs, steps_last, steps_wanting, prefixed_doc, slot_part, slot_doc, row_docs, slot_steps, gap_docs}
use Rattle.rf_base_file.specs.Ways.{first_role, later_roles, quoted_behind}
use Rattle.rf_base_file.specs.FileDocument.{body_docs, list_doc}
use Rattle.rf_style.specs.StyleOf.{seen}
use Rattle.rf_tree.specs.Nodes.{UnfoldsTo, UnfoldTo}
use Rattle.rf_tree.specs.Slots.{NodeSlot, read_slot, NodesStand, NodeSlotsStand, NodeSlotsBelow}
use Rattle.rf_tree.specs.Ahead.{slots_ahead, alone_slot}
use Rattle.rf_tree.specs.declared.nodes.At.{At}
use Rattle.rf_tree.specs.Told.{Node}
use Rattle.rf_tree.specs.declared.trees.Tree.{Tree as KeptTree}
use Rattle.rf_tree.specs.Told as node
use Rattle.rf_tree.proofs.ToldNodes.{told_at}
use Rattle.rf_ways.specs.Steps.{prefixed_steps}
use Rattle.rf_ways.proofs.Taking.{taken, none_taken, alone_taken, none_alone, below_cut, first_slot, no_slots}
use Rattle.rf_slot_rows.proofs.Runs.{begun_at, none_begun, begun_of, both_ok, run_taken, run_done, all_taken}
use Rattle.rf_slot_rows.proofs.FirstItems.{begun_there, begun_first}
use Rattle.rf_ways.proofs.Below.{below_front, slot_below, slots_wider}
use Rattle.rf_ways.proofs.NodeParts.{names_at, item_there, prefixed_at, skipped_at, listed_at, list_there, forest_stand, entry_at, entries_length, slots_length}
use Rattle.rf_rows.specs.Sizes.{rows_size, Grows}
use Rattle.rf_rows.specs.declared.rows.Rows.{Rows}
use Rattle.rf_rows.proofs.Stacks.{on_ok}
use Rattle.rf_rows.specs.Puts.{Fills, Puts, IsHigh}
use Rattle.rf_slot_rows.specs.Puts.{StepsPut}
use Rattle.rf_slot_rows.specs.declared.context.Context.{Context}
use Rattle.rf_ways.specs.declared.places.Place.{Place}
use Rattle.rf_slot_rows.specs.declared.nodes.Run.{Run}
use Rattle.rf_tree.specs.Kept.{IsTreeOf}
use Rattle.rf_tree.proofs.Unfolding.{UnfoldsTo-below}
use Rattle.rf_slot_rows.specs.Bodies.{free_steps, free_inner, first_docs, headers_docs, roles_behind}
use Rattle.rf_rows.specs.declared.pieces.Fill.TheVariants as fill
use Rattle.rf_base_file.specs.Shapes.{Slots}
use Rattle.rf_ways.specs.Nodes.{node_in, slot_of, parts_of}
use Rattle.rf_lines.proofs.NodesAt.{list_is}
use Rattle.rf_slot_rows.specs.Nodes.{nodes_in, PartPut, slots_behind, RunPut, OthersPut}
use Rattle.rf_slot_rows.proofs.Putting.{puts_none, puts_same, fills_both, no_lower, height_is, steps_none, steps_both}
use Rattle.rf_slot_rows.proofs.Walking.{leaf_put, comment_put, prefixed_put, skipped_put, prefix_joined, behind_put, nodes_more, same_steps, perhaps_none, perhaps_some, first_entry, no_entries, led_put, slot_steps_put, slot_row, slot_doc_is, leads_count}
use Rattle.rf_slot_rows.proofs.ListPieces.{list_last, roles_more, stand_take, stand_drop, below_drop, others_put, no_body, some_body, slot_taken, run_more, last_more, free_more, first_put, free_put, one_body, list_pieces, places_are, bodies_within, list_put, places, no_parts, some_parts, cut_parts, at_cut, no_run, none_run, roles_none, none_body, alone_is, rest_body}
use Rattle.rf_slot_rows.specs.Growth.{FewBlanks, EntriesGrow, SlotsAdd, SlotsGrow}
use Rattle.rf_slot_rows.proofs.Growing.{one_size}
use Rattle.rf_slot_rows.proofs.Sizes.{entries_begin, entries_more, slots_both, slots_begin, slots_more, slot_size, slot_length, none_grow, some_grow, leaf_items, comment_items, prefixed_size, skipped_size, list_grown, unmade_grown}
use Rattle.rf_slot_rows.proofs.Alone.{told_alone, alone_node, alone_below, alone_put, alone_grown}
use Rattle.rf_slot_rows.proofs.nodes.+nodes.Goals as goal
use Rattle.rf_slot_rows.proofs.ShapeRows.{body_pieces, places_of}

-- the comments before a datum stand as entries, and they and the datum stand before their node
lead_stands : (ts : List Token) (nodes : List Node) {ats : List At} (lead : List At) (f : Forest) → ats ≡ lead →
    UnfoldTo ts nodes lead f → NodesStand ts nodes ats (entries_of ts f)
lead_stands ts nodes lead f is unfolds =
    subst (λ (xs : List At). NodesStand ts nodes xs (entries_of ts f)) (sym is) (forest_stand ts nodes lead f unfolds)

lead_before : (n : ℕ) {ats : List At} (lead : List At) (inner : At) → ats ≡ lead →
    AllByRecursion (λ a. a.0 < n) (lead ++ inner ∷ []) → AllByRecursion (λ a. a.0 < n) ats × (inner.0 < n)
lead_before n lead inner is before =
    let both = below_front n lead (inner ∷ []) before in
    (subst (λ (xs : List At). AllByRecursion (λ a. a.0 < n) xs) (sym is) both.0, both.1.0)

-- slots behind so many others stand for those behind so many
back_stand : (ts : List Token) (nodes : List Node) (n : ℕ) (all : List NodeSlot) (ss : List (definition.Slot Tree))
    {left : List NodeSlot} → left ≡ drop n all → NodeSlotsStand ts nodes all ss → NodeSlotsStand ts nodes left (drop n ss)
back_stand ts nodes n all ss is stand =
    subst (λ (ks : List NodeSlot). NodeSlotsStand ts nodes ks (drop n ss)) (sym is) (stand_drop ts nodes n all ss stand)

-- the rows grow by slots as by the first so many, by those behind them and by a gap
others_grown : (tree : KeptTree) (more : ℕ) (all left : List NodeSlot) (most : ℕ) (a b c d : Rows) → left ≡ drop more all →
    length left ≤ most → SlotsGrow 0 tree (take more all) a b → SlotsGrow 0 tree (take most left) b c →
    (FewBlanks tree → Grows 40 c d) → SlotsGrow 40 tree all a d
others_grown tree more all left most a b c d is le first second gap few ts trees ss holds stand =
    let nodes = tree.nodes in
    let front = stand_take ts nodes more all ss stand in
    let back = back_stand ts nodes more all ss is stand in
    let taken = subst (λ (ks : List NodeSlot). NodeSlotsStand ts nodes ks (drop more ss)) (sym (all_taken left most le)) back in
    let both = slots_both ts (take more ss) (drop more ss) ss (sym (take-append-drop more ss)) in
    omega (arith, first few ts trees (take more ss) holds front, second few ts trees (drop more ss) holds taken, gap few, both.0, both.1, both.2)

-- slots behind the second one were put: so many of them, those behind these, and the gap before the closer; the bodies
-- stand at this height, which is that of all if there are none
others_told : (context : Context) (closer more : ℕ) (run begun ended : Run) (all left : List NodeSlot) (most : ℕ) (place : Place)
    (a b d e : Rows) (height : ℕ) → left ≡ drop more all → length left ≤ most →
    RunPut context run (take more all) place a b begun → RunPut context begun (take most left) place b d ended →
    ((ts : List Token) (trees : Forest) → IsTreeOf context.tree.now ts trees → Puts d e (gap_docs ts ended.last closer want.Nothing)) →
    ((length left ≡ 0) × IsHigh e height) ⊎ ((length left ≢ 0) × IsHigh b height) →
    OthersPut context closer more run all place a e height
others_told context closer more run begun ended all left most place a b d e height is le first second gap high ts trees ss holds stand =
    let nodes = context.tree.now.nodes in
    let style = seen context.style.now in
    let q = place.quoted in
    let heads : List Part = parts_of style ts q run.roles (take more ss) in
    let bodies : List Part = parts_of style ts q begun.roles (drop more ss) in
    let parts : List Part = parts_of style ts q run.roles ss in
    let behind = back_stand ts nodes more all ss is stand in
    let h = first ts trees (take more ss) holds (stand_take ts nodes more all ss stand) in
    let taken = subst (λ (ks : List NodeSlot). NodeSlotsStand ts nodes ks (drop more ss)) (sym (all_taken left most le)) behind in
    let k = second ts trees (drop more ss) holds taken in
    let cuts = cut_parts style ts q run.roles begun.roles more ss h.1 in
    let put = others_put ts a b d e run.last begun.last ended.last closer parts heads bodies cuts.all h.2 h.0 k.2 k.0 (gap ts trees holds) in
    let size = slots_length ts nodes left (drop more ss) behind in
    let tall : height ≡ length a.stack.items + length (headers_docs ts run.last heads bodies closer fill.Newline) = elim high [
      | inl w ↦ no_body ts a e run.last closer parts heads bodies height cuts.all
          (no_parts style ts q begun.roles (drop more ss) (nil_from_length (drop more ss) (size ∙ w.0))) put w.1
      | inr w ↦ some_body ts a b run.last closer heads bodies height
          (some_parts style ts q begun.roles (drop more ss) (length left) (sym size) w.0) h.2 w.1
    ] in
    (put, at_cut ts run.last closer (length a.stack.items) height heads bodies (take more parts) (drop more parts) cuts.heads cuts.bodies tall)

pub put_node-node-requires : goal.put_node-node-requires
put_node-node-requires t c =
    let less = UnfoldsTo-below c.requires.node.0 c.args.context.now.tree.now.nodes c.args.at.0 c.requires.node.2 c.requires.node.4 in search rules

pub put_node-put_item-requires-clause-there : goal.put_node-put_item-requires-clause-there
put_node-put_item-requires-clause-there t c =
    let r = c.requires.node in
    let nodes = c.args.context.now.tree.now.nodes in
    let at = told_at nodes c.args.at.0 c.node.ensures c.in-Leaf.is in
    item_there c.args.context.now.tree.now r.0 r.1 c.in-Leaf.item r.3 (names_at r.0 nodes c.args.at.0 _ r.3.sound at)

pub put_node-put_item-requires-in-Comment-clause-there : goal.put_node-put_item-requires-in-Comment-clause-there
put_node-put_item-requires-in-Comment-clause-there t c =
    let r = c.requires.node in
    let nodes = c.args.context.now.tree.now.nodes in
    let at = told_at nodes c.args.at.0 c.node.ensures c.in-Comment.is in
    item_there c.args.context.now.tree.now r.0 r.1 c.in-Comment.item r.3 (names_at r.0 nodes c.args.at.0 _ r.3.sound at)

pub put_node-text-requires-clause-there : goal.put_node-text-requires-clause-there
put_node-text-requires-clause-there t c =
    let r = c.requires.node in
    let nodes = c.args.context.now.tree.now.nodes in
    let at = told_at nodes c.args.at.0 c.node.ensures c.in-Prefixed.is in
    item_there c.args.context.now.tree.now r.0 r.1 c.in-Prefixed.item r.3 (names_at r.0 nodes c.args.at.0 _ r.3.sound at)

pub put_node-put_prefixed-requires : goal.put_node-put_prefixed-requires
put_node-put_prefixed-requires t c =
    let r = c.requires.node in
    let tree = c.args.context.now.tree.now in
    let nodes = tree.nodes in
    let at = told_at nodes c.args.at.0 c.node.ensures c.in-Prefixed.is in
    let f = prefixed_at r.0 nodes c.args.at.0 c.in-Prefixed.item c.in-Prefixed.lead.now c.in-Prefixed.inner r.2 at r.4 in
    let there = item_there tree r.0 r.1 c.in-Prefixed.item r.3 (names_at r.0 nodes c.args.at.0 _ r.3.sound at) in
    let lead = lead_stands r.0 nodes c.in-Prefixed.lead.now f.comments refl f.lead_unfolds in
    let before = lead_before c.args.at.0 c.in-Prefixed.lead.now c.in-Prefixed.inner refl (r.3.sound.parts_first c.args.at.0 _ at) in
    (omega (arith, c.decreases), (there, ((r.0, r.1, entries_of r.0 f.comments, f.datum, r.3, lead, f.inner_unfolds), (before.0, before.1))))

pub put_node-put_prefixed-requires-in-DatumComment : goal.put_node-put_prefixed-requires-in-DatumComment
put_node-put_prefixed-requires-in-DatumComment t c =
    let r = c.requires.node in
    let tree = c.args.context.now.tree.now in
    let nodes = tree.nodes in
    let at = told_at nodes c.args.at.0 c.node.ensures c.in-DatumComment.is in
    let f = skipped_at r.0 nodes c.args.at.0 c.in-DatumComment.item c.in-DatumComment.lead.now c.in-DatumComment.inner r.2 at r.4 in
    let there = item_there tree r.0 r.1 c.in-DatumComment.item r.3 (names_at r.0 nodes c.args.at.0 _ r.3.sound at) in
    let lead = lead_stands r.0 nodes c.in-DatumComment.lead.now f.comments refl f.lead_unfolds in
    let before = lead_before c.args.at.0 c.in-DatumComment.lead.now c.in-DatumComment.inner refl (r.3.sound.parts_first c.args.at.0 _ at) in
    (omega (arith, c.decreases), (there, ((r.0, r.1, entries_of r.0 f.comments, f.datum, r.3, lead, f.inner_unfolds), (before.0, before.1))))

pub put_node-put_list-requires : goal.put_node-put_list-requires
put_node-put_list-requires t c =
    let r = c.requires.node in
    let tree = c.args.context.now.tree.now in
    let nodes = tree.nodes in
    let at = told_at nodes c.args.at.0 c.node.ensures c.in-List.is in
    let f = listed_at r.0 nodes c.args.at.0 c.in-List.opener c.in-List.entries.now c.in-List.closer r.2 at r.4 in
    let names = names_at r.0 nodes c.args.at.0 (node.ListNode c.in-List.opener c.in-List.entries.now c.in-List.closer) r.3.sound at in
    let there = λ (i : ℕ) (less : i < length r.0). item_there tree r.0 r.1 i r.3 less in
    (omega (arith, c.decreases), ((r.0, r.1, f.entries, r.3, subst (λ (u : Tree). UnfoldsTo r.0 nodes c.args.at.0 u) f.is r.4), (there c.in-List.opener names.0, there c.in-List.closer names.1)))

pub put_node-returns-in_ok-put_item-in-Leaf-clause-put : goal.put_node-returns-in_ok-put_item-in-Leaf-clause-put
put_node-returns-in_ok-put_item-in-Leaf-clause-put t c ts trees u holds unfolds =
    let nodes = c.args.context.now.tree.now.nodes in
    let at = told_at nodes c.args.at.0 c.node.ensures c.in-Leaf.is in
    leaf_put (seen c.args.context.now.style.now) ts nodes c.args.at.0 c.in-Leaf.item u c.args.place.quoted c.args.place.role c.args.rows.now c.put_item.new.rows at unfolds
    (c.in_ok-put_item-in-Leaf.ensures.put ts trees holds)

pub put_node-returns-in_ok-put_item-in-Comment-clause-put : goal.put_node-returns-in_ok-put_item-in-Comment-clause-put
put_node-returns-in_ok-put_item-in-Comment-clause-put t c ts trees u holds unfolds =
    let nodes = c.args.context.now.tree.now.nodes in
    let at = told_at nodes c.args.at.0 c.node.ensures c.in-Comment.is in
    comment_put (seen c.args.context.now.style.now) ts nodes c.args.at.0 c.in-Comment.item u c.args.place.quoted c.args.place.role c.args.rows.now c.put_item-in-Comment.new.rows at unfolds
    (c.in_ok-put_item-in-Comment.ensures.put ts trees holds)

pub put_node-returns-in-Prefixed-clause-put : goal.put_node-returns-in-Prefixed-clause-put
put_node-returns-in-Prefixed-clause-put t c =
    let nodes = c.args.context.now.tree.now.nodes in
    IfOk-weaker c.put_prefixed.result _ _
    (λ last made ts trees u holds unfolds.
    let at = told_at nodes c.args.at.0 c.node.ensures c.in-Prefixed.is in
    let f = prefixed_at ts nodes c.args.at.0 c.in-Prefixed.item c.in-Prefixed.lead.now c.in-Prefixed.inner u at unfolds in
    prefixed_put (seen c.args.context.now.style.now) ts c.in-Prefixed.item f.comments f.datum u c.quoted_behind.result c.args.place.quoted c.args.place.role c.args.rows.now c.put_prefixed.new.rows last f.is
    (c.quoted_behind.ensures ∙ ap (λ (s : List ℕ). quoted_behind s c.args.place.quoted) (c.text.ensures.characters ts trees holds))
    (made ts trees (entries_of ts f.comments) f.datum holds
    (lead_stands ts nodes c.in-Prefixed.lead.now f.comments refl f.lead_unfolds) f.inner_unfolds))
    c.put_prefixed.ensures.put

pub put_node-returns-in-DatumComment-clause-put : goal.put_node-returns-in-DatumComment-clause-put
put_node-returns-in-DatumComment-clause-put t c =
    let nodes = c.args.context.now.tree.now.nodes in
    IfOk-weaker c.put_prefixed-in-DatumComment.result _ _
    (λ last made ts trees u holds unfolds.
    let at = told_at nodes c.args.at.0 c.node.ensures c.in-DatumComment.is in
    let f = skipped_at ts nodes c.args.at.0 c.in-DatumComment.item c.in-DatumComment.lead.now c.in-DatumComment.inner u at unfolds in
    skipped_put (seen c.args.context.now.style.now) ts c.in-DatumComment.item f.comments f.datum u c.args.place.quoted c.args.place.role c.args.rows.now c.put_prefixed-in-DatumComment.new.rows last f.is
    (made ts trees (entries_of ts f.comments) f.datum holds
    (lead_stands ts nodes c.in-DatumComment.lead.now f.comments refl f.lead_unfolds) f.inner_unfolds))
    c.put_prefixed-in-DatumComment.ensures.put

pub put_node-returns-in_ok-put_list-in-List-clause-put : goal.put_node-returns-in_ok-put_list-in-List-clause-put
put_node-returns-in_ok-put_list-in-List-clause-put t c ts trees u holds unfolds =
    let nodes = c.args.context.now.tree.now.nodes in
    let at = told_at nodes c.args.at.0 c.node.ensures c.in-List.is in
    let f = listed_at ts nodes c.args.at.0 c.in-List.opener c.in-List.entries.now c.in-List.closer u at unfolds in
    list_last (seen c.args.context.now.style.now) ts c.in-List.opener c.in-List.closer f.entries c.args.place.quoted c.args.place.role u c.args.rows.now c.put_list.new.rows f.is
    (c.in_ok-put_list-in-List.ensures.put ts trees f.entries holds (subst (λ (v : Tree). UnfoldsTo ts nodes c.args.at.0 v) f.is unfolds))

pub put_prefixed-join-requires : goal.put_prefixed-join-requires
put_prefixed-join-requires t c =
    let p = c.requires.parts in
    let marked = c.in_ok-put_item.ensures.put p.0 p.1 p.4 in
    let behind = c.in_ok-last.ensures.put p.0 p.1 p.2 p.3 p.4 p.5 p.6 in
    omega (arith, height_is c.args.rows.now c.height-height.result c.height-height.ensures, no_lower c.args.rows.now c.put_item.new.rows _ marked, no_lower c.put_item.new.rows c.put_aligned.new.rows _ behind.1)

pub put_prefixed-returns-clause-put : goal.put_prefixed-returns-clause-put
put_prefixed-returns-clause-put t c ts trees es u holds lead inner =
    let style = seen c.args.context.now.style.now in
    let qs : List Part = nodes_in style ts c.args.place.quoted c.args.place.role es in
    let q : Part = node_in style ts c.args.place.quoted c.args.place.role u in
    let mark : List Doc = mark_doc ts c.args.item ∷ [] in
    let rest : List Doc = Align (seq (steps_docs ts c.args.item (prefixed_steps qs q))) ∷ [] in
    let behind = c.in_ok-last.ensures.put ts trees es u holds lead inner in (
      behind.0,
      puts_same c.args.rows.now c.join.new.rows (seq (mark ++ rest) ∷ []) (prefixed_doc ts c.args.item qs q ∷ []) (ap (λ (d : Doc). d ∷ []) (prefix_joined ts c.args.item qs q))
          (c.in_ok-join.ensures.put c.args.rows.now (mark ++ rest) c.height-height.ensures
          (fills_both c.args.rows.now c.put_item.new.rows c.put_aligned.new.rows (λ f. mark) (λ f. rest) (c.in_ok-put_item.ensures.put ts trees holds) behind.1)),
    )

pub put_aligned-align-requires : goal.put_aligned-align-requires
put_aligned-align-requires t c =
    let p = c.requires.parts in
    let behind = c.in_ok-last.ensures.put p.0 p.1 p.2 p.3 p.4 p.5 p.6 in
    omega (arith, height_is c.args.rows.now c.height-height.result c.height-height.ensures, no_lower c.args.rows.now c.put_lead.new.rows _ behind.1)

pub put_aligned-returns-clause-put : goal.put_aligned-returns-clause-put
put_aligned-returns-clause-put t c ts trees es u holds lead inner =
    let behind = c.in_ok-last.ensures.put ts trees es u holds lead inner in
    (behind.0, c.in_ok-align.ensures.put c.args.rows.now _ c.height-height.ensures behind.1)

pub put_lead-returns-in-None-clause-put : goal.put_lead-returns-in-None-clause-put
put_lead-returns-in-None-clause-put t c =
    let style = seen c.args.context.now.style.now in
    IfOk-weaker c.put_behind.result _ _
    (λ last made ts trees es u holds lead inner.
    let q : Part = node_in style ts c.args.place.quoted c.args.place.role u in
    let none = no_entries ts c.args.context.now.tree.now.nodes c.args.lead.now es (nil_from_length c.args.lead.now c.in-None.ensures.cases) lead in
    subst (λ (xs : List (Entry Tree)). (last ≡ q.last) × Puts c.args.rows.now c.put_behind.new.rows (steps_docs ts c.args.item (prefixed_steps (nodes_in style ts c.args.place.quoted c.args.place.role xs) q))) (sym none)
    (led_put ts c.args.rows.now c.put_behind.new.rows c.args.item last [] want.Nothing q (made ts trees u holds inner)))
    c.put_behind.ensures.put

pub put_lead-returns-in_ok-last-in-Some-clause-put : goal.put_lead-returns-in_ok-last-in-Some-clause-put
put_lead-returns-in_ok-last-in-Some-clause-put t c =
    let style = seen c.args.context.now.style.now in
    let place = c.args.place in
    let item = c.args.item in
    let a = c.args.rows.now in
    let e = c.put_behind-in-Some-2.new.rows in
    IfOk-weaker c.put_behind-in-Some-2.result _ _
    (λ last made ts trees es u holds lead inner.
    let q : Part = node_in style ts place.quoted place.role u in
    let f = first_entry ts c.args.context.now.tree.now.nodes c.args.lead.now c.in-Some.first.now c.in-Some.rest.now es c.in-Some.ensures.cases.0 lead in
    let one : Part = node_in style ts place.quoted place.role f.entry.what in
    let others : List Step = steps_wanting want.Space (nodes_in style ts place.quoted place.role f.entries) in
    let all : StepsPut ts a e (Some item) (Some last) ((step want.Nothing one ∷ others) ++ step want.Space q ∷ []) =
    steps_both ts a c.put_nodes.new.rows e (Some item) c.in_ok-last-in-Some.last (Some last) (step want.Nothing one ∷ others) (step want.Space q ∷ [])
    (steps_both ts a c.put_behind-in-Some.new.rows c.put_nodes.new.rows (Some item) (Some c.in_ok-begun-in-Some.begun) c.in_ok-last-in-Some.last (step want.Nothing one ∷ []) others
    (c.in_ok-begun-in-Some.ensures.put ts trees f.entry.what holds f.first) (c.in_ok-last-in-Some.ensures.put ts trees f.entries holds f.rest)) (made ts trees u holds inner) in
    subst (λ (xs : List (Entry Tree)). (last ≡ q.last) × Puts a e (steps_docs ts item (prefixed_steps (nodes_in style ts place.quoted place.role xs) q))) (sym f.is)
    (led_put ts a e item last (step want.Nothing one ∷ others) want.Space q all))
    c.put_behind-in-Some-2.ensures.put

pub put_nodes-loop-at-init : goal.put_nodes-loop-at-init
put_nodes-loop-at-init t c =
    record { put = λ ts trees es holds stand. steps_none ts c.args.rows.now c.args.before; grown = λ few ts trees es holds stand. omega arith }

pub put_nodes-put_behind-requires : goal.put_nodes-put_behind-requires
put_nodes-put_behind-requires t c =
    let ats = c.args.nodes.now in
    let i = c.loop-at.at-index in
    let d : At = record { 0 = 0 } in
    let less = All-from_recursion (λ (a : At). a.0 < c.args.place.before) ats c.requires.below i d c.loop-at-test.true in
    let e = entry_at c.requires.nodes.0 c.args.context.now.tree.now.nodes ats c.requires.nodes.2 i (get_or ats i d) c.requires.nodes.4 (slice_get-get_or ats i d c.loop-at-test.true) in
    (omega (arith, less, c.decreases), ((c.requires.nodes.0, c.requires.nodes.1, e.entry.what, c.requires.nodes.3, e.stands), less))

pub put_nodes-loop-at-preserved : goal.put_nodes-loop-at-preserved
put_nodes-loop-at-preserved t c =
    let ats = c.args.nodes.now in
    let i = c.loop-at.at-index in
    let d : At = record { 0 = 0 } in
    let place = c.args.place in
    let style = seen c.args.context.now.style.now in
    record {
      put =
          λ ts trees es holds stand.
          let e = entry_at ts c.args.context.now.tree.now.nodes ats es i (get_or ats i d) stand (slice_get-get_or ats i d c.loop-at-test.true) in
          same_steps ts c.args.rows.now c.put_behind.new.rows c.args.before (Some c.in_ok-end.end) _ _ (nodes_more style ts place.quoted place.role c.args.want es i e.entry e.taken)
          (steps_both ts c.args.rows.now c.loop-at.rows c.put_behind.new.rows c.args.before c.loop-at.last (Some c.in_ok-end.end)
          (steps_wanting c.args.want (nodes_in style ts place.quoted place.role (take i es))) (step c.args.want (node_in style ts place.quoted place.role e.entry.what) ∷ [])
          (c.loop-at.invariant.put ts trees es holds stand) (c.in_ok-end.ensures.put ts trees e.entry.what holds e.stands));
      grown =
          λ few ts trees es holds stand.
          let e = entry_at ts c.args.context.now.tree.now.nodes ats es i (get_or ats i d) stand (slice_get-get_or ats i d c.loop-at-test.true) in
          let more = entries_more ts (take i es) (take (i + 1) es) e.entry (ap (λ (n : ℕ). take n es) (add-one i) ∙ e.taken) in
          omega (arith, c.loop-at.invariant.grown few ts trees es holds stand, c.in_ok-end.ensures.grown few ts trees e.entry.what holds e.stands, more.0, more.1);
    }

pub put_nodes-returns-clause-put : goal.put_nodes-returns-clause-put
put_nodes-returns-clause-put t c ts trees es holds stand =
    let size = entries_length ts c.args.context.now.tree.now.nodes c.args.nodes.now es stand in
    let all : take c.loop-at.at-index es ≡ es = take_all c.loop-at.at-index es (omega (arith, size, c.loop-at-test.false)) in
    subst (λ (xs : List (Entry Tree)). StepsPut ts c.args.rows.now c.loop-at.rows c.args.before c.loop-at.last (steps_wanting c.args.want (nodes_in (seen c.args.context.now.style.now) ts c.args.place.quoted c.args.place.role xs))) all
    (c.loop-at.invariant.put ts trees es holds stand)

pub put_perhaps-returns-in-None-clause-put : goal.put_perhaps-returns-in-None-clause-put
put_perhaps-returns-in-None-clause-put t c ts trees e holds stands =
    perhaps_none (seen c.args.context.now.style.now) ts c.args.context.now.tree.now.nodes c.args.place.quoted c.args.place.role c.args.want c.args.at e c.args.rows.now c.args.before c.in-None.is stands

pub put_perhaps-returns-in_ok-end-in-Some-clause-put : goal.put_perhaps-returns-in_ok-end-in-Some-clause-put
put_perhaps-returns-in_ok-end-in-Some-clause-put t c ts trees e holds stands =
    perhaps_some (seen c.args.context.now.style.now) ts c.args.context.now.tree.now.nodes c.args.place.quoted c.args.place.role c.args.want c.args.at c.in-Some.at e c.args.rows.now c.put_behind.new.rows c.args.before (Some c.in_ok-end-in-Some.end) c.in-Some.is
    (λ u unfolds. c.in_ok-end-in-Some.ensures.put ts trees u holds unfolds) stands

pub put_behind-first_item-requires : goal.put_behind-first_item-requires
put_behind-first_item-requires t c =
    UnfoldsTo-below c.requires.node.0 c.args.context.now.tree.now.nodes c.args.at.0 c.requires.node.2 c.requires.node.4

pub put_behind-returns-clause-put : goal.put_behind-returns-clause-put
put_behind-returns-clause-put t c =
    let style = seen c.args.context.now.style.now in
    IfOk-weaker c.put_node.result _ _
    (λ last made ts trees u holds unfolds.
    behind_put ts c.args.rows.now c.put_gap_behind.new.rows c.put_node.new.rows c.args.before c.first_item.result c.args.want (node_in style ts c.args.place.quoted c.args.place.role u) last
    (c.first_item.ensures style ts u unfolds) (c.in_ok-put_gap_behind.ensures.put ts trees holds) (made ts trees u holds unfolds))
    c.put_node.ensures.put

pub put_slot-put_node-requires : goal.put_slot-put_node-requires
put_slot-put_node-requires t c =
    let alone = told_alone (read_slot c.args.slot) c.datum_alone.result c.in-Some.at c.in-Some.is c.datum_alone.ensures in
    let r = c.requires.slot in
    let node = alone_node r.0 c.args.context.now.tree.now.nodes (read_slot c.args.slot) c.in-Some.at r.2 alone r.4 in
    let less = alone_below c.args.place.before (read_slot c.args.slot) c.in-Some.at alone c.requires.before in
    (omega (arith, less, c.decreases), (r.0, r.1, node.0, r.3, node.1))

pub put_together-join_behind-requires : goal.put_together-join_behind-requires
put_together-join_behind-requires t c =
    let parts = c.in_ok-last.ensures.put c.requires.slot.0 c.requires.slot.1 c.requires.slot.2 c.requires.slot.3 c.requires.slot.4 in
    omega (arith, height_is c.args.rows.now c.height-height.result c.height-height.ensures, no_lower c.args.rows.now c.put_parts.new.rows _ parts.1)

pub put_slot-returns-in-Some-clause-put : goal.put_slot-returns-in-Some-clause-put
put_slot-returns-in-Some-clause-put t c =
    let slot = read_slot c.args.slot in
    let alone = told_alone slot c.datum_alone.result c.in-Some.at c.in-Some.is c.datum_alone.ensures in
    IfOk-weaker c.put_node.result _ _
    (λ last made ts trees s holds stands.
    alone_put (seen c.args.context.now.style.now) ts c.args.context.now.tree.now.nodes c.args.place.quoted c.args.place.role slot c.in-Some.at s c.args.rows.now c.put_node.new.rows last alone stands
    (λ u unfolds. made ts trees u holds unfolds))
    c.put_node.ensures.put

pub put_together-returns-clause-put : goal.put_together-returns-clause-put
put_together-returns-clause-put t c ts trees s holds stands =
    let style = seen c.args.context.now.style.now in
    let slot : definition.Slot Part = slot_of style ts c.args.place.quoted c.args.place.role s in
    let parts = c.in_ok-last.ensures.put ts trees s holds stands in
    let count = leads_count style ts c.args.context.now.tree.now.nodes c.args.place.quoted c.args.place.role (read_slot c.args.slot) s stands in (
      c.unwrap_or.ensures ∙ parts.0,
      puts_same c.args.rows.now c.join_behind.new.rows (slot_doc ts slot ∷ []) ((slot_part ts slot).doc ∷ []) (slot_doc_is ts slot)
          (c.in_ok-join_behind.ensures.put c.args.rows.now slot.leads (row_docs ts (slot_steps slot)) count c.height-height.ensures parts.1),
    )

pub put_parts-put_perhaps-requires : goal.put_parts-put_perhaps-requires
put_parts-put_perhaps-requires t c =
    let below = slot_below c.args.place.before (read_slot c.args.slot) c.requires.before in
    (omega (arith, c.decreases), ((c.requires.slot.0, c.requires.slot.1, c.requires.slot.2.key, c.requires.slot.3, c.requires.slot.4.key), below.key))

pub put_parts-put_perhaps-requires-2 : goal.put_parts-put_perhaps-requires-2
put_parts-put_perhaps-requires-2 t c =
    let below = slot_below c.args.place.before (read_slot c.args.slot) c.requires.before in
    (omega (arith, c.decreases), ((c.requires.slot.0, c.requires.slot.1, c.requires.slot.2.datum, c.requires.slot.3, c.requires.slot.4.datum), below.datum))

pub put_parts-put_perhaps-requires-3 : goal.put_parts-put_perhaps-requires-3
put_parts-put_perhaps-requires-3 t c =
    let below = slot_below c.args.place.before (read_slot c.args.slot) c.requires.before in
    (omega (arith, c.decreases), ((c.requires.slot.0, c.requires.slot.1, c.requires.slot.2.trailing, c.requires.slot.3, c.requires.slot.4.trailing), below.trailing))

pub put_parts-returns-clause-put : goal.put_parts-returns-clause-put
put_parts-returns-clause-put t c =
    let style = seen c.args.context.now.style.now in
    let place = c.args.place in
    let e = c.put_perhaps-3.new.rows in
    IfOk-weaker c.put_perhaps-3.result _ _
    (λ last made ts trees s holds stands.
    slot_row ts c.args.rows.now e last (slot_of style ts place.quoted place.role s)
    (slot_steps_put style ts c.args.context.now.tree.now.nodes place.quoted place.role c.role_behind.result c.want_behind-wanted.result (read_slot c.args.slot) s c.args.rows.now c.put_nodes.new.rows c.put_perhaps.new.rows c.put_perhaps-2.new.rows e
    c.in_ok-leads.leads c.in_ok-key.key c.in_ok-datum.datum last stands c.role_behind.ensures c.want_behind-wanted.ensures
    (c.in_ok-leads.ensures.put ts trees s.leads holds stands.leads)
    (c.in_ok-key.ensures.put ts trees s.key holds stands.key) (c.in_ok-datum.ensures.put ts trees s.datum holds stands.datum) (made ts trees s.trailing holds stands.trailing)))
    c.put_perhaps-3.ensures.put

pub put_made-slots_in-slots-requires-clause-list : goal.put_made-slots_in-slots-requires-clause-list
put_made-slots_in-slots-requires-clause-list t c =
    list_there c.requires.node.0 c.args.context.now.tree.now.nodes c.args.at.0 c.args.list.opener c.args.list.closer c.requires.node.2 c.requires.node.4

pub put_made-way_of-way-requires-clause-slots : goal.put_made-way_of-way-requires-clause-slots
put_made-way_of-way-requires-clause-slots t c =
    let nodes = c.args.context.now.tree.now.nodes in
    let less = UnfoldsTo-below c.requires.node.0 nodes c.args.at.0 _ c.requires.node.4 in
    slots_wider c.args.at.0 (length nodes) (slots_ahead c.slots_in-slots.result) (omega (arith, less)) c.slots_in-slots.ensures.below

pub put_made-put_body-requires : goal.put_made-put_body-requires
put_made-put_body-requires t c =
    let r = c.requires.node in
    let stand = c.slots_in-slots.ensures.slots r.0 r.1 c.args.list.opener r.2 c.args.list.closer r.3 r.4 in
    let charges = c.way_of-way.ensures.charges in
    (omega (arith, c.decreases), (c.slots_in-slots.ensures.cursor, ((r.0, r.1, slots_of true (entries_of r.0 r.2), r.3, stand), (c.slots_in-slots.ensures.below, charges))))

pub put_made-join-requires : goal.put_made-join-requires
put_made-join-requires t c =
    let r = c.requires.node in
    let stand = c.slots_in-slots.ensures.slots r.0 r.1 c.args.list.opener r.2 c.args.list.closer r.3 r.4 in
    let high = height_is c.args.rows.now c.height-height.result c.height-height.ensures in
    let first = no_lower c.args.rows.now c.put_item.new.rows _ (c.in_ok-put_item.ensures.put r.0 r.1 r.3) in
    let body = no_lower c.put_item.new.rows c.put_body.new.rows _ (c.in_ok-put_body.ensures.put r.0 r.1 (slots_of true (entries_of r.0 r.2)) r.3 stand) in
    omega (arith, high, first, body, no_lower c.put_body.new.rows c.put_item-2.new.rows _ (c.in_ok-put_item-2.ensures.put r.0 r.1 r.3))

pub put_made-returns-clause-put : goal.put_made-returns-clause-put
put_made-returns-clause-put t c =
    let style = seen c.args.context.now.style.now in
    let opener = c.args.list.opener in
    let closer = c.args.list.closer in
    let q = c.quoted_inside.result in
    let way = c.way_of-way.result in
    on_ok c.join.result _ _
    (λ made ts trees f holds unfolds.
    let ss : List (definition.Slot Tree) = slots_of true (entries_of ts f) in
    let stand = c.slots_in-slots.ensures.slots ts trees opener f closer holds unfolds in
    let ways = c.way_of-way.ensures.way style ts trees ss holds stand in
    let body : List Doc = body_docs ts way opener (parts_of style ts q way.roles ss) closer in
    let quotes = c.quoted_inside.ensures ∙ ap (λ (s : List ℕ). begins (codes "#") s || c.args.place.quoted) (c.text.ensures.characters ts trees holds) in
    puts_same c.args.rows.now c.join.new.rows (list_doc ts way opener (parts_of style ts q way.roles ss) closer ∷ []) _
    (ap (λ (d : Doc). d ∷ []) (list_is style ts opener closer f q c.args.place.quoted c.args.place.role way quotes ways))
    (made c.args.rows.now (((mark_doc ts opener ∷ []) ++ body) ++ mark_doc ts closer ∷ []) c.height-height.ensures
    (fills_both c.args.rows.now c.put_body.new.rows c.put_item-2.new.rows (λ x. (mark_doc ts opener ∷ []) ++ body) (λ x. mark_doc ts closer ∷ [])
    (fills_both c.args.rows.now c.put_item.new.rows c.put_body.new.rows (λ x. mark_doc ts opener ∷ []) (λ x. body) (c.in_ok-put_item.ensures.put ts trees holds) (c.in_ok-put_body.ensures.put ts trees ss holds stand))
    (c.in_ok-put_item-2.ensures.put ts trees holds))))
    c.join.ensures.put

pub put_body-put_first-requires : goal.put_body-put_first-requires
put_body-put_first-requires t c =
    let begun = begun_at (slots_ahead c.args.slots) c.first.result c.in-Some.first c.in-Some.is c.first.ensures in
    (omega (arith, c.decreases), (c.requires.cursor, (begun, (c.requires.slots, c.requires.before))))

pub put_body-align-requires : goal.put_body-align-requires
put_body-align-requires t c =
    let r = c.requires.slots in
    let taken = c.in_ok-last-in-Some.ensures.put in
    let f = first_slot r.0 c.args.context.now.tree.now.nodes (slots_ahead c.args.slots) taken.0 (slots_ahead c.put_first.new.slots) r.2 taken.1 r.4 in
    let first = taken.2.0 r.0 r.1 f.slot r.3 f.first in
    omega (arith, height_is c.args.rows.now c.height-height.result c.height-height.ensures, no_lower c.args.rows.now c.put_first.new.rows _ first.1, no_lower c.put_first.new.rows c.put_gap.new.rows _ (c.in_ok-put_gap-in-None-first.ensures.put r.0 r.1 r.3))

pub put_body-put_rest-requires : goal.put_body-put_rest-requires
put_body-put_rest-requires t c =
    let r = c.requires.slots in
    let others = slots_ahead c.put_first.new.slots in
    let taken = c.in_ok-last-in-Some.ensures.put in
    let f = first_slot r.0 c.args.context.now.tree.now.nodes (slots_ahead c.args.slots) taken.0 others r.2 taken.1 r.4 in
    let below = below_cut c.args.place.before (slots_ahead c.args.slots) taken.0 others taken.1 c.requires.before in
    let first = taken.2.0 r.0 r.1 f.slot r.3 f.first in
    let begun = begun_at others c.first-in-Some.result c.in-Some-first.second c.in-Some-first.is c.first-in-Some.ensures in
    let high = height_is c.args.rows.now c.height-height.result c.height-height.ensures in
    let low = no_lower c.args.rows.now c.put_first.new.rows _ first.1 in
    (omega (arith, c.decreases), (c.in_ok-last-in-Some.ensures.cursor, (begun, ((r.0, r.1, f.slots, r.3, f.rest), (below.1, (c.requires.charges, omega (arith, high, low)))))))

pub put_body-returns-in-None-clause-put : goal.put_body-returns-in-None-clause-put
put_body-returns-in-None-clause-put t c ts trees ss holds stand =
    let none = no_slots ts c.args.context.now.tree.now.nodes (slots_ahead c.args.slots) ss (none_begun (slots_ahead c.args.slots) c.first.result c.in-None.is c.first.ensures) stand in
    puts_same c.args.rows.now c.args.rows.now [] _ (none_body (seen c.args.context.now.style.now) ts c.args.place.quoted c.args.way c.args.list ss none) (puts_none c.args.rows.now)

pub put_body-returns-in_ok-put_gap-in-None-first-clause-put : goal.put_body-returns-in_ok-put_gap-in-None-first-clause-put
put_body-returns-in_ok-put_gap-in-None-first-clause-put t c =
    let nodes = c.args.context.now.tree.now.nodes in
    let style = seen c.args.context.now.style.now in
    let list = c.args.list in
    let last = c.in_ok-last-in-Some.last in
    let others = slots_ahead c.put_first.new.slots in
    let taken = c.in_ok-last-in-Some.ensures.put in
    on_ok c.align.result _ _
    (λ made ts trees ss holds stand.
    let f = first_slot ts nodes (slots_ahead c.args.slots) taken.0 others ss taken.1 stand in
    let none = no_slots ts nodes others f.slots (none_begun others c.first-in-Some.result c.in-None-first.is c.first-in-Some.ensures) f.rest in
    let p : Part = slot_part ts (slot_of style ts c.args.place.quoted c.first_role-role.result f.slot) in
    let first = taken.2.0 ts trees f.slot holds f.first in
    let all : List Doc = first_docs ts list.opener p ++ gap_docs ts last list.closer want.Nothing in
    puts_same c.args.rows.now c.align.new.rows (Align (seq all) ∷ []) _
    (one_body ts c.args.way list p last first.0
    ∙ ap (λ (ps : List Part). body_docs ts c.args.way list.opener ps list.closer) (alone_is style ts c.args.place.quoted c.args.way.roles c.first_role-role.result f.slot f.slots ss c.first_role-role.ensures f.is none))
    (made c.args.rows.now all c.height-height.ensures
    (fills_both c.args.rows.now c.put_first.new.rows c.put_gap.new.rows (λ x. first_docs ts list.opener p) (λ x. gap_docs ts last list.closer want.Nothing) first.1
    (c.in_ok-put_gap-in-None-first.ensures.put ts trees holds))))
    c.align.ensures.put

pub put_body-returns-in-Some-first-clause-put : goal.put_body-returns-in-Some-first-clause-put
put_body-returns-in-Some-first-clause-put t c =
    let nodes = c.args.context.now.tree.now.nodes in
    let style = seen c.args.context.now.style.now in
    let others = slots_ahead c.put_first.new.slots in
    let taken = c.in_ok-last-in-Some.ensures.put in
    let begun = begun_at others c.first-in-Some.result c.in-Some-first.second c.in-Some-first.is c.first-in-Some.ensures in
    on_ok c.put_rest.result _ _
    (λ made ts trees ss holds stand.
    let f = first_slot ts nodes (slots_ahead c.args.slots) taken.0 others ss taken.1 stand in
    let g = first_slot ts nodes others begun.0 begun.1 f.slots begun.3 f.rest in
    let p : Part = slot_part ts (slot_of style ts c.args.place.quoted c.first_role-role.result f.slot) in
    let first = taken.2.0 ts trees f.slot holds f.first in
    puts_same c.args.rows.now c.put_rest.new.rows _ _
    (rest_body style ts c.args.place.quoted c.args.way c.first_role-role.result c.args.list f.slot g.slot f.slots g.slots ss c.first_role-role.ensures f.is g.is)
    (made c.args.rows.now p ts trees g.slot g.slots c.height-height.ensures first.0 first.1 holds
    (subst (λ (xs : List (definition.Slot Tree)). NodeSlotsStand ts nodes others xs) g.is f.rest)))
    c.put_rest.ensures.put

pub put_body-returns-in-None-clause-grown : goal.put_body-returns-in-None-clause-grown
put_body-returns-in-None-clause-grown t c few ts trees ss holds stand =
    let none = no_slots ts c.args.context.now.tree.now.nodes (slots_ahead c.args.slots) ss (none_begun (slots_ahead c.args.slots) c.first.result c.in-None.is c.first.ensures) stand in
    omega (arith, ap (λ (xs : List (definition.Slot Tree)). length (slots_entries xs)) none)

pub put_body-returns-in_ok-put_gap-in-None-first-clause-grown : goal.put_body-returns-in_ok-put_gap-in-None-first-clause-grown
put_body-returns-in_ok-put_gap-in-None-first-clause-grown t c =
    let nodes = c.args.context.now.tree.now.nodes in
    let others = slots_ahead c.put_first.new.slots in
    let taken = c.in_ok-last-in-Some.ensures.put in
    on_ok c.align.result _ _
    (λ made few ts trees ss holds stand.
    let f = first_slot ts nodes (slots_ahead c.args.slots) taken.0 others ss taken.1 stand in
    let none = no_slots ts nodes others f.slots (none_begun others c.first-in-Some.result c.in-None-first.is c.first-in-Some.ensures) f.rest in
    let begin = slots_begin ts f.slot f.slots ss f.is in
    omega (arith, taken.2.1 few ts trees f.slot holds f.first, c.in_ok-put_gap-in-None-first.ensures.grown few, made, begin.0, begin.1, begin.2, ap (λ (xs : List (definition.Slot Tree)). length (slots_entries xs)) none))
    c.align.ensures.grown

pub put_body-returns-in-Some-first-clause-grown : goal.put_body-returns-in-Some-first-clause-grown
put_body-returns-in-Some-first-clause-grown t c =
    let taken = c.in_ok-last-in-Some.ensures.put in
    on_ok c.put_rest.result _ _
    (λ made few ts trees ss holds stand.
    let f = first_slot ts c.args.context.now.tree.now.nodes (slots_ahead c.args.slots) taken.0 (slots_ahead c.put_first.new.slots) ss taken.1 stand in
    let begin = slots_begin ts f.slot f.slots ss f.is in
    omega (arith, taken.2.1 few ts trees f.slot holds f.first, made few ts trees f.slots holds f.rest, begin.0, begin.1, begin.2))
    c.put_rest.ensures.grown

pub put_first-first_item-next-requires : goal.put_first-first_item-next-requires
put_first-first_item-next-requires t c =
    let r = c.requires.slots in
    begun_there r.0 c.args.context.now.tree.now.nodes (slots_ahead c.args.slots.now) c.args.first r.2 c.requires.first r.4

pub put_first-returns-clause-put : goal.put_first-returns-clause-put
put_first-returns-clause-put t c =
    let style = seen c.args.context.now.style.now in
    let all = slots_ahead c.args.slots.now in
    let rest = slots_ahead c.put_next.new.slots in
    IfOk-weaker c.put_next.result _ _
    (λ last taken. (
      taken.0,
      taken.1,
      (
        λ ts trees s holds stands.
            first_put ts c.args.rows.now c.put_gap.new.rows c.put_next.new.rows c.args.opener c.first_item-next.result (slot_part ts (slot_of style ts c.args.place.quoted c.args.place.role s)) last
            (begun_first style ts c.args.context.now.tree.now.nodes all rest taken.0 c.args.first s c.args.place.quoted c.args.place.role c.first_item-next.result c.requires.first taken.1 (c.first_item-next.ensures style ts) stands)
            (c.in_ok-put_gap.ensures.put ts trees holds) (taken.2.0 ts trees s holds stands),
        λ few ts trees s holds stands. omega (arith, c.in_ok-put_gap.ensures.grown few, taken.2.1 few ts trees s holds stands),
      ),
    ))
    c.put_next.ensures.put

pub put_free-first_item-next-requires : goal.put_free-first_item-next-requires
put_free-first_item-next-requires t c =
    let r = c.requires.slots in
    begun_there r.0 c.args.context.now.tree.now.nodes (slots_ahead c.args.slots.now) c.args.first r.2 c.requires.first r.4

pub put_free-returns-clause-put : goal.put_free-returns-clause-put
put_free-returns-clause-put t c =
    let style = seen c.args.context.now.style.now in
    let all = slots_ahead c.args.slots.now in
    let rest = slots_ahead c.put_next.new.slots in
    IfOk-weaker c.put_next.result _ _
    (λ last taken. (
      taken.0,
      taken.1,
      (
        λ ts trees s holds stands.
            free_put ts c.args.rows.now c.put_free_gap.new.rows c.put_next.new.rows c.args.before c.first_item-next.result (slot_part ts (slot_of style ts c.args.place.quoted c.args.place.role s)) last
            (begun_first style ts c.args.context.now.tree.now.nodes all rest taken.0 c.args.first s c.args.place.quoted c.args.place.role c.first_item-next.result c.requires.first taken.1 (c.first_item-next.ensures style ts) stands)
            (c.in_ok-put_free_gap.ensures.put ts trees holds) (taken.2.0 ts trees s holds stands),
        λ few ts trees s holds stands. omega (arith, c.in_ok-put_free_gap.ensures.grown few, taken.2.1 few ts trees s holds stands),
      ),
    ))
    c.put_next.ensures.put

pub put_next-put_node-requires : goal.put_next-put_node-requires
put_next-put_node-requires t c =
    let r = c.requires.slots in
    let all = slots_ahead c.args.slots.now in
    let rest = slots_ahead c.next_alone.new.self in
    let at = c.in-Some.at in
    let is = alone_taken all rest c.next_alone.result at c.in-Some.is c.next_alone.ensures.next in
    let f = first_slot r.0 c.args.context.now.tree.now.nodes all (alone_slot at) rest r.2 is r.4 in
    let node = alone_node r.0 c.args.context.now.tree.now.nodes (alone_slot at) at f.slot refl f.first in
    let less = alone_below c.args.place.before (alone_slot at) at refl (below_cut c.args.place.before all (alone_slot at) rest is c.requires.before).0 in
    (omega (arith, less, c.decreases), (r.0, r.1, node.0, r.3, node.1))

pub put_next-put_parted-requires : goal.put_next-put_parted-requires
put_next-put_parted-requires t c =
    let r = c.requires.slots in
    let all = slots_ahead c.args.slots.now in
    let rest = slots_ahead c.next_alone.new.self in
    let same = none_alone all rest c.next_alone.result c.in-None.is c.next_alone.ensures.next in
    let some = subst (λ (ks : List NodeSlot). ks ≢ []) same c.requires.some in
    let stand = subst (λ (ks : List NodeSlot). NodeSlotsStand r.0 c.args.context.now.tree.now.nodes ks r.2) same r.4 in
    let below = subst (λ (ks : List NodeSlot). NodeSlotsBelow c.args.place.before ks) same c.requires.before in
    (omega (arith, c.decreases), (c.next_alone.ensures.cursor, (some, ((r.0, r.1, r.2, r.3, stand), below))))

pub put_next-returns-in-Some-clause-put : goal.put_next-returns-in-Some-clause-put
put_next-returns-in-Some-clause-put t c =
    let nodes = c.args.context.now.tree.now.nodes in
    let new = c.put_node.new.rows in
    let at = c.in-Some.at in
    let is = alone_taken (slots_ahead c.args.slots.now) (slots_ahead c.next_alone.new.self) c.next_alone.result at c.in-Some.is c.next_alone.ensures.next in
    IfOk-weaker c.put_node.result _ _
    (λ last made. (
      alone_slot at,
      is,
      (
        λ ts trees s holds stands. alone_put (seen c.args.context.now.style.now) ts nodes c.args.place.quoted c.args.place.role (alone_slot at) at s c.args.rows.now new last refl stands (λ u unfolds. made.0 ts trees u holds unfolds),
        λ few ts trees s holds stands. alone_grown ts nodes (alone_slot at) at s c.args.rows.now new refl stands (λ u unfolds. made.1 few ts trees u holds unfolds),
      ),
    ))
    (both_ok c.put_node.result _ _ c.put_node.ensures.put c.put_node.ensures.grown)

pub put_next-returns-in-None-clause-put : goal.put_next-returns-in-None-clause-put
put_next-returns-in-None-clause-put t c =
    let same = none_alone (slots_ahead c.args.slots.now) (slots_ahead c.next_alone.new.self) c.next_alone.result c.in-None.is c.next_alone.ensures.next in
    IfOk-weaker c.put_parted.result _ _ (λ last taken. (taken.0, same ∙ taken.1, taken.2)) c.put_parted.ensures.put

pub put_parted-put_slot-requires : goal.put_parted-put_slot-requires
put_parted-put_slot-requires t c =
    let r = c.requires.slots in
    let all = slots_ahead c.args.slots.now in
    let rest = slots_ahead c.next.new.self in
    let slot = read_slot c.in-Some.slot in
    let is = taken all rest c.next.result c.in-Some.slot c.in-Some.is c.next.ensures.next in
    let f = first_slot r.0 c.args.context.now.tree.now.nodes all slot rest r.2 is r.4 in
    (omega (arith, c.decreases), ((r.0, r.1, f.slot, r.3, f.first), (below_cut c.args.place.before all slot rest is c.requires.before).0))

pub put_parted-returns-in-Some-clause-put : goal.put_parted-returns-in-Some-clause-put
put_parted-returns-in-Some-clause-put t c =
    let is = taken (slots_ahead c.args.slots.now) (slots_ahead c.next.new.self) c.next.result c.in-Some.slot c.in-Some.is c.next.ensures.next in
    IfOk-weaker c.put_slot.result _ _ (λ last made. (read_slot c.in-Some.slot, is, made))
    (both_ok c.put_slot.result _ _ c.put_slot.ensures.put c.put_slot.ensures.grown)

pub put_parted-returns-in-None-clause-put : goal.put_parted-returns-in-None-clause-put
put_parted-returns-in-None-clause-put t c =
    absurd (c.requires.some (none_taken (slots_ahead c.args.slots.now) (slots_ahead c.next.new.self) c.next.result c.in-None.is c.next.ensures.next).0)

pub put_run-loop-next-init : goal.put_run-loop-next-init
put_run-loop-next-init t c =
    let style = seen c.args.context.now.style.now in
    let begun = c.args.begun in
    record {
      cursor = c.requires.cursor;
      within = omega arith;
      taken = omega arith;
      ahead = refl;
      roles = roles_none begun.roles;
      last = λ ts trees ss holds stand. no_run style ts c.args.place.quoted begun.roles begun.last ss;
      put = λ ts trees ss holds stand. none_run style ts c.args.place.quoted begun.roles begun.last ss c.args.rows.now;
      grown = λ few ts trees ss holds stand. omega arith;
    }

pub put_run-put_free-requires : goal.put_run-put_free-requires
put_run-put_free-requires t c =
    let all = slots_ahead c.args.slots in
    let i = c.loop-next.count in
    let r = c.requires.slots in
    let inv = c.loop-next.invariant in
    let ahead = slots_ahead c.loop-next.ahead in
    let begun = begun_of (c.args.most - i) ahead c.next_of.result c.in-Some.next c.in-Some.is c.next_of.ensures in
    let stand = back_stand r.0 c.args.context.now.tree.now.nodes i all r.2 inv.ahead r.4 in
    let below = subst (λ (ks : List NodeSlot). NodeSlotsBelow c.args.place.before ks) (sym inv.ahead) (below_drop c.args.place.before i all c.requires.before) in
    (omega (arith, c.decreases), (inv.cursor, (begun.1, ((r.0, r.1, drop i r.2, r.3, stand), below))))

pub put_run-loop-next-preserved : goal.put_run-loop-next-preserved
put_run-loop-next-preserved t c =
    let all = slots_ahead c.args.slots in
    let kept = take c.args.most all in
    let i = c.loop-next.count in
    let nodes = c.args.context.now.tree.now.nodes in
    let style = seen c.args.context.now.style.now in
    let q = c.args.place.quoted in
    let begun = c.args.begun in
    let inv = c.loop-next.invariant in
    let role = c.first_role-role.result in
    let ahead = slots_ahead c.loop-next.ahead in
    let first = begun_of (c.args.most - i) ahead c.next_of.result c.in-Some.next c.in-Some.is c.next_of.ensures in
    let taken = c.in_ok-last.ensures.put in
    let one = run_taken all ahead (slots_ahead c.put_free.new.slots) c.args.most i taken.0 inv.ahead inv.within first.0 taken.1 in
    record {
      cursor = c.in_ok-last.ensures.cursor;
      within = one.less;
      taken = one.within;
      ahead = one.rest_is;
      roles = c.later_roles.ensures ∙ ap later_roles inv.roles ∙ roles_more i begun.roles ∙ ap (λ (n : ℕ). roles_behind n begun.roles) (sym (add-one i));
      last =
          λ ts trees ss holds stand.
          let s = slot_taken ts nodes kept ss i taken.0 stand one.at in
          let f = taken.2.0 ts trees s.slot holds s.stands in
          let parts : List Part = parts_of style ts q begun.roles (take i ss) in
          last_more begun.last c.in_ok-last.last parts (slot_part ts (slot_of style ts q role s.slot)) (parts_of style ts q begun.roles (take (i + 1) ss)) f.0
          (run_more style ts q begun.roles c.loop-next.run.roles role ss i s.slot s.taken s.count inv.roles c.first_role-role.ensures);
      put =
          λ ts trees ss holds stand.
          let s = slot_taken ts nodes kept ss i taken.0 stand one.at in
          let f = taken.2.0 ts trees s.slot holds s.stands in
          let parts : List Part = parts_of style ts q begun.roles (take i ss) in
          free_more ts c.args.rows.now c.loop-next.rows c.put_free.new.rows begun.last c.loop-next.run.last parts (slot_part ts (slot_of style ts q role s.slot)) (parts_of style ts q begun.roles (take (i + 1) ss))
          (inv.put ts trees ss holds stand) (inv.last ts trees ss holds stand) f.1
          (run_more style ts q begun.roles c.loop-next.run.roles role ss i s.slot s.taken s.count inv.roles c.first_role-role.ensures);
      grown =
          λ few ts trees ss holds stand.
          let s = slot_taken ts nodes kept ss i taken.0 stand one.at in
          let more = slots_more ts (take i ss) (take (i + 1) ss) s.slot s.taken in
          omega (arith, inv.grown few ts trees ss holds stand, taken.2.1 few ts trees s.slot holds s.stands, more.0, more.1, more.2);
    }

pub put_run-returns-clause-left : goal.put_run-returns-clause-left
put_run-returns-clause-left t c =
    let inv = c.loop-next.invariant in
    (run_done (slots_ahead c.args.slots) (slots_ahead c.loop-next.ahead) c.args.most c.loop-next.count c.next_of.result c.in_default.is inv.ahead inv.within inv.taken c.next_of.ensures).left

pub put_run-returns-clause-put : goal.put_run-returns-clause-put
put_run-returns-clause-put t c ts trees ss holds stand =
    let i = c.loop-next.count in
    let style = seen c.args.context.now.style.now in
    let begun = c.args.begun in
    let inv = c.loop-next.invariant in
    let kept = take c.args.most (slots_ahead c.args.slots) in
    let done = run_done (slots_ahead c.args.slots) (slots_ahead c.loop-next.ahead) c.args.most i c.next_of.result c.in_default.is inv.ahead inv.within inv.taken c.next_of.ensures in
    let count : i ≡ length ss = sym (slots_length ts c.args.context.now.tree.now.nodes kept ss stand ∙ done.count) in
    let all : take i ss ≡ ss = take_all i ss (omega (arith, count)) in (
      inv.last ts trees ss holds stand ∙ ap (λ (xs : List (definition.Slot Tree)). steps_last begun.last (steps_wanting want.Line (parts_of style ts c.args.place.quoted begun.roles xs))) all,
      inv.roles ∙ ap (λ (n : ℕ). roles_behind n begun.roles) count,
      subst (λ (xs : List (definition.Slot Tree)). Fills c.args.rows.now c.loop-next.rows (free_steps ts begun.last (parts_of style ts c.args.place.quoted begun.roles xs))) all (inv.put ts trees ss holds stand),
    )

pub put_others-put_run-requires-2 : goal.put_others-put_run-requires-2
put_others-put_run-requires-2 t c =
    let r = c.requires.slots in
    let all = slots_ahead c.args.others in
    let stand = back_stand r.0 c.args.context.now.tree.now.nodes c.args.more all r.2 c.in_ok-begun.ensures.left r.4 in
    let below = subst (λ (ks : List NodeSlot). NodeSlotsBelow c.args.place.before ks) (sym c.in_ok-begun.ensures.left) (below_drop c.args.place.before c.args.more all c.requires.before) in
    (omega (arith, c.decreases), (c.in_ok-begun.ensures.cursor, ((r.0, r.1, drop c.args.more r.2, r.3, stand), below)))

pub put_others-returns-then-is_empty-clause-put : goal.put_others-returns-then-is_empty-clause-put
put_others-returns-then-is_empty-clause-put t c =
    others_told c.args.context.now c.args.list.list.closer c.args.more c.args.run c.in_ok-begun.begun c.in_ok-ended.ended (slots_ahead c.args.others) (slots_ahead c.in_ok-begun.bodies) c.most.result c.args.place
    c.args.rows.now c.put_run.new.rows c.put_run-2.new.rows c.put_gap.new.rows _ c.in_ok-begun.ensures.left c.most.ensures c.in_ok-begun.ensures.put c.in_ok-ended.ensures.put c.in_ok-put_gap.ensures.put
    (inl (eqb-true _ 0 (sym c.is_empty.ensures ∙ c.if-is_empty.true), c.height.ensures))

pub put_others-returns-else-is_empty-clause-put : goal.put_others-returns-else-is_empty-clause-put
put_others-returns-else-is_empty-clause-put t c =
    others_told c.args.context.now c.args.list.list.closer c.args.more c.args.run c.in_ok-begun.begun c.in_ok-ended.ended (slots_ahead c.args.others) (slots_ahead c.in_ok-begun.bodies) c.most.result c.args.place
    c.args.rows.now c.put_run.new.rows c.put_run-2.new.rows c.put_gap.new.rows _ c.in_ok-begun.ensures.left c.most.ensures c.in_ok-begun.ensures.put c.in_ok-ended.ensures.put c.in_ok-put_gap.ensures.put
    (inr (eqb-false _ 0 (sym c.is_empty.ensures ∙ c.if-is_empty.false), c.height-height.ensures))

pub put_rest-close_list-requires-clause-first : goal.put_rest-close_list-requires-clause-first
put_rest-close_list-requires-clause-first t c =
    omega (arith, height_is c.args.rows.now c.height-behind.result c.height-behind.ensures, c.requires.within)

pub put_rest-first_item-next-requires : goal.put_rest-first_item-next-requires
put_rest-first_item-next-requires t c =
    let r = c.requires.slots in
    begun_there r.0 c.args.context.now.tree.now.nodes (slots_ahead c.args.slots) c.args.second r.2 c.requires.second r.4

pub put_rest-put_others-requires : goal.put_rest-put_others-requires
put_rest-put_others-requires t c =
    let r = c.requires.slots in
    let all = slots_ahead c.args.slots in
    let rest = slots_ahead c.put_next.new.slots in
    let taken = c.in_ok-last.ensures.put in
    let f = first_slot r.0 c.args.context.now.tree.now.nodes all taken.0 rest r.2 taken.1 r.4 in
    let below = below_cut c.args.place.before all taken.0 rest taken.1 c.requires.before in
    (omega (arith, c.decreases), ((r.0, r.1, r.3), (c.in_ok-last.ensures.cursor, ((r.0, r.1, f.slots, r.3, f.rest), below.1))))

pub put_rest-close_list-requires-clause-second : goal.put_rest-close_list-requires-clause-second
put_rest-close_list-requires-clause-second t c =
    let r = c.requires.slots in
    omega (arith, height_is c.args.rows.now c.height-behind.result c.height-behind.ensures, height_is c.put_free_gap.new.rows c.height-below.result c.height-below.ensures, no_lower c.args.rows.now c.put_free_gap.new.rows _ (c.in_ok-put_free_gap.ensures.put r.0 r.1 r.3))

pub put_rest-close_list-requires-clause-bodies : goal.put_rest-close_list-requires-clause-bodies
put_rest-close_list-requires-clause-bodies t c =
    let r = c.requires.slots in
    let taken = c.in_ok-last.ensures.put in
    let f = first_slot r.0 c.args.context.now.tree.now.nodes (slots_ahead c.args.slots) taken.0 (slots_ahead c.put_next.new.slots) r.2 taken.1 r.4 in
    let second = taken.2.0 r.0 r.1 f.slot r.3 f.first in
    let others = c.in_ok-bodies.ensures.put r.0 r.1 f.slots r.3 f.rest in
    omega (arith, height_is c.put_free_gap.new.rows c.height-below.result c.height-below.ensures, no_lower c.put_free_gap.new.rows c.put_next.new.rows _ second.1, others.1)

pub put_rest-close_list-requires-clause-within : goal.put_rest-close_list-requires-clause-within
put_rest-close_list-requires-clause-within t c =
    let r = c.requires.slots in
    let f = first_slot r.0 c.args.context.now.tree.now.nodes (slots_ahead c.args.slots) c.in_ok-last.ensures.put.0 (slots_ahead c.put_next.new.slots) r.2 c.in_ok-last.ensures.put.1 r.4 in
    let others = c.in_ok-bodies.ensures.put r.0 r.1 f.slots r.3 f.rest in
    bodies_within r.0 _ _ c.more_headers-more.result c.args.begun.list.closer c.put_next.new.rows c.put_others.new.rows c.in_ok-bodies.bodies others.0 others.1

pub put_rest-returns-clause-put : goal.put_rest-returns-clause-put
put_rest-returns-clause-put t c =
    let style = seen c.args.context.now.style.now in
    let nodes = c.args.context.now.tree.now.nodes in
    let q = c.args.place.quoted in
    let begun = c.args.begun in
    let way = begun.way in
    let last = c.in_ok-last.last in
    let next = c.first_item-next.result in
    let more = c.more_headers-more.result in
    let all = slots_ahead c.args.slots in
    let rest_ahead = slots_ahead c.put_next.new.slots in
    let taken = c.in_ok-last.ensures.put in
    on_ok c.close_list.result _ _
    (λ closed base first ts trees s ss high at_first firsts holds stand.
    let both : NodeSlotsStand ts nodes (taken.0 ∷ rest_ahead) (s ∷ ss) = subst (λ (ks : List NodeSlot). NodeSlotsStand ts nodes ks (s ∷ ss)) taken.1 stand in
    let l : Slots = slots_behind style ts begun.list q (later_roles way.roles) first s ss in
    let role : c.first_role-role.result ≡ first_role (later_roles way.roles) = c.first_role-role.ensures ∙ ap first_role c.later_roles-roles.ensures in
    let roles : c.later_roles.result ≡ later_roles (later_roles way.roles) = c.later_roles.ensures ∙ ap later_roles c.later_roles-roles.ensures in
    let to : next ≡ l.second.first =
    begun_first style ts nodes all rest_ahead taken.0 c.args.second s q (first_role (later_roles way.roles)) next c.requires.second taken.1 (c.first_item-next.ensures style ts) both.0 in
    let gap = c.in_ok-put_free_gap.ensures.put ts trees holds in
    let second : PartPut l.second c.put_free_gap.new.rows c.put_next.new.rows last =
    subst (λ (r : Role). PartPut (slot_part ts (slot_of style ts q r s)) c.put_free_gap.new.rows c.put_next.new.rows last) role (taken.2.0 ts trees s holds both.0) in
    let rest = subst (λ (r : Roles). Fills c.put_next.new.rows c.put_others.new.rows (free_inner ts last (parts_of style ts q r ss) begun.list.closer)
    × (c.in_ok-bodies.bodies ≡ length c.put_next.new.rows.stack.items + length (headers_docs ts last (take more (parts_of style ts q r ss)) (drop more (parts_of style ts q r ss)) begun.list.closer fill.Newline))) roles
    (c.in_ok-bodies.ensures.put ts trees ss holds both.1) in
    let pieces = list_pieces ts base c.args.rows.now c.put_free_gap.new.rows c.put_next.new.rows c.put_others.new.rows l begun.last next last firsts at_first to gap second rest.0 in
    let places_stand = places_are ts base c.args.rows.now c.put_free_gap.new.rows c.put_next.new.rows l more begun.height c.height-behind.result c.height-below.result c.in_ok-bodies.bodies begun.last next last
    high firsts c.height-behind.ensures at_first to gap c.height-below.ensures second rest.1 in
    list_put ts base c.close_list.new.rows l way.shape way.charges begun.height (places c.height-behind.result c.height-below.result c.in_ok-bodies.bodies)
    (places_stand ∙ ap (λ (n : ℕ). places_of ts l n begun.height) c.more_headers-more.ensures) (closed base (body_pieces ts l) high pieces))
    c.close_list.ensures.put

pub put_node-returns-in_ok-put_item-in-Leaf-clause-grown : goal.put_node-returns-in_ok-put_item-in-Leaf-clause-grown
put_node-returns-in_ok-put_item-in-Leaf-clause-grown t c few ts trees u holds unfolds =
    let nodes = c.args.context.now.tree.now.nodes in
    let at = told_at nodes c.args.at.0 c.node.ensures c.in-Leaf.is in
    let items = leaf_items ts nodes c.args.at.0 c.in-Leaf.item u at unfolds in
    omega (arith, c.in_ok-put_item-in-Leaf.ensures.grown ts trees holds, ap (size_of ts) items, one_size ts c.in-Leaf.item)

pub put_node-returns-in_ok-put_item-in-Comment-clause-grown : goal.put_node-returns-in_ok-put_item-in-Comment-clause-grown
put_node-returns-in_ok-put_item-in-Comment-clause-grown t c few ts trees u holds unfolds =
    let nodes = c.args.context.now.tree.now.nodes in
    let at = told_at nodes c.args.at.0 c.node.ensures c.in-Comment.is in
    let items = comment_items ts nodes c.args.at.0 c.in-Comment.item u at unfolds in
    omega (arith, c.in_ok-put_item-in-Comment.ensures.grown ts trees holds, ap (size_of ts) items, one_size ts c.in-Comment.item)

pub put_node-returns-in-Prefixed-clause-grown : goal.put_node-returns-in-Prefixed-clause-grown
put_node-returns-in-Prefixed-clause-grown t c =
    let nodes = c.args.context.now.tree.now.nodes in
    on_ok c.put_prefixed.result _ _
    (λ made few ts trees u holds unfolds.
    let at = told_at nodes c.args.at.0 c.node.ensures c.in-Prefixed.is in
    let f = prefixed_at ts nodes c.args.at.0 c.in-Prefixed.item c.in-Prefixed.lead.now c.in-Prefixed.inner u at unfolds in
    let lead = lead_stands ts nodes c.in-Prefixed.lead.now f.comments refl f.lead_unfolds in
    omega (arith, made few ts trees (entries_of ts f.comments) f.datum holds lead f.inner_unfolds, ap (λ (v : Tree). size_of ts (tree_items v)) f.is, prefixed_size ts c.in-Prefixed.item f.comments f.datum))
    c.put_prefixed.ensures.grown

pub put_node-returns-in-DatumComment-clause-grown : goal.put_node-returns-in-DatumComment-clause-grown
put_node-returns-in-DatumComment-clause-grown t c =
    let nodes = c.args.context.now.tree.now.nodes in
    on_ok c.put_prefixed-in-DatumComment.result _ _
    (λ made few ts trees u holds unfolds.
    let at = told_at nodes c.args.at.0 c.node.ensures c.in-DatumComment.is in
    let f = skipped_at ts nodes c.args.at.0 c.in-DatumComment.item c.in-DatumComment.lead.now c.in-DatumComment.inner u at unfolds in
    let lead = lead_stands ts nodes c.in-DatumComment.lead.now f.comments refl f.lead_unfolds in
    omega (arith, made few ts trees (entries_of ts f.comments) f.datum holds lead f.inner_unfolds, ap (λ (v : Tree). size_of ts (tree_items v)) f.is, skipped_size ts c.in-DatumComment.item f.comments f.datum))
    c.put_prefixed-in-DatumComment.ensures.grown

pub put_node-returns-in_ok-put_list-in-List-clause-grown : goal.put_node-returns-in_ok-put_list-in-List-clause-grown
put_node-returns-in_ok-put_list-in-List-clause-grown t c few ts trees u holds unfolds =
    let nodes = c.args.context.now.tree.now.nodes in
    let at = told_at nodes c.args.at.0 c.node.ensures c.in-List.is in
    let f = listed_at ts nodes c.args.at.0 c.in-List.opener c.in-List.entries.now c.in-List.closer u at unfolds in
    omega (arith, c.in_ok-put_list-in-List.ensures.grown few ts trees f.entries holds (subst (λ (v : Tree). UnfoldsTo ts nodes c.args.at.0 v) f.is unfolds), ap (λ (v : Tree). size_of ts (tree_items v)) f.is)

pub put_lead-returns-in_ok-last-in-Some-clause-grown : goal.put_lead-returns-in_ok-last-in-Some-clause-grown
put_lead-returns-in_ok-last-in-Some-clause-grown t c =
    on_ok c.put_behind-in-Some-2.result _ _
    (λ made few ts trees es u holds lead inner.
    let f = first_entry ts c.args.context.now.tree.now.nodes c.args.lead.now c.in-Some.first.now c.in-Some.rest.now es c.in-Some.ensures.cases.0 lead in
    let begin = entries_begin ts f.entry f.entries es f.is in
    omega (arith, c.in_ok-begun-in-Some.ensures.grown few ts trees f.entry.what holds f.first, c.in_ok-last-in-Some.ensures.grown few ts trees f.entries holds f.rest, made few ts trees u holds inner, begin.0))
    c.put_behind-in-Some-2.ensures.grown

pub put_nodes-returns-clause-grown : goal.put_nodes-returns-clause-grown
put_nodes-returns-clause-grown t c few ts trees es holds stand =
    let size = entries_length ts c.args.context.now.tree.now.nodes c.args.nodes.now es stand in
    let all : take c.loop-at.at-index es ≡ es = take_all c.loop-at.at-index es (omega (arith, size, c.loop-at-test.false)) in
    subst (λ (xs : List (Entry Tree)). EntriesGrow ts xs c.args.rows.now c.loop-at.rows) all (c.loop-at.invariant.grown few ts trees es holds stand)

pub put_perhaps-returns-in-None-clause-grown : goal.put_perhaps-returns-in-None-clause-grown
put_perhaps-returns-in-None-clause-grown t c few ts trees e holds stands =
    none_grow ts c.args.context.now.tree.now.nodes c.args.at e c.args.rows.now c.in-None.is stands

pub put_perhaps-returns-in_ok-end-in-Some-clause-grown : goal.put_perhaps-returns-in_ok-end-in-Some-clause-grown
put_perhaps-returns-in_ok-end-in-Some-clause-grown t c few ts trees e holds stands =
    some_grow ts c.args.context.now.tree.now.nodes c.args.at c.in-Some.at e c.args.rows.now c.put_behind.new.rows c.in-Some.is
    (λ u unfolds. c.in_ok-end-in-Some.ensures.grown few ts trees u holds unfolds) stands

pub put_slot-returns-in-Some-clause-grown : goal.put_slot-returns-in-Some-clause-grown
put_slot-returns-in-Some-clause-grown t c =
    let slot = read_slot c.args.slot in
    let alone = told_alone slot c.datum_alone.result c.in-Some.at c.in-Some.is c.datum_alone.ensures in
    on_ok c.put_node.result _ _
    (λ made few ts trees s holds stands.
    alone_grown ts c.args.context.now.tree.now.nodes slot c.in-Some.at s c.args.rows.now c.put_node.new.rows alone stands (λ u unfolds. made few ts trees u holds unfolds))
    c.put_node.ensures.grown

pub put_parts-returns-clause-grown : goal.put_parts-returns-clause-grown
put_parts-returns-clause-grown t c =
    on_ok c.put_perhaps-3.result _ _
    (λ made few ts trees s holds stands.
    omega (
      arith,
      c.in_ok-leads.ensures.grown few ts trees s.leads holds stands.leads,
      c.in_ok-key.ensures.grown few ts trees s.key holds stands.key,
      c.in_ok-datum.ensures.grown few ts trees s.datum holds stands.datum,
      made few ts trees s.trailing holds stands.trailing,
      slot_size ts s,
      slot_length s,
    ))
    c.put_perhaps-3.ensures.grown

pub put_made-returns-clause-grown : goal.put_made-returns-clause-grown
put_made-returns-clause-grown t c =
    on_ok c.join.result _ _
    (λ made few ts trees f holds unfolds.
    let ss : List (definition.Slot Tree) = slots_of true (entries_of ts f) in
    let stand = c.slots_in-slots.ensures.slots ts trees c.args.list.opener f c.args.list.closer holds unfolds in
    list_grown ts c.args.list.opener f c.args.list.closer (rows_size c.args.rows.now) (rows_size c.put_item.new.rows) (rows_size c.put_body.new.rows) (rows_size c.put_item-2.new.rows) (rows_size c.join.new.rows)
    (c.in_ok-put_item.ensures.grown ts trees holds) (c.in_ok-put_body.ensures.grown few ts trees ss holds stand) (c.in_ok-put_item-2.ensures.grown ts trees holds) made)
    c.join.ensures.grown

pub put_run-returns-clause-grown : goal.put_run-returns-clause-grown
put_run-returns-clause-grown t c few ts trees ss holds stand =
    let inv = c.loop-next.invariant in
    let i = c.loop-next.count in
    let kept = take c.args.most (slots_ahead c.args.slots) in
    let done = run_done (slots_ahead c.args.slots) (slots_ahead c.loop-next.ahead) c.args.most i c.next_of.result c.in_default.is inv.ahead inv.within inv.taken c.next_of.ensures in
    let count : length ss ≡ i = slots_length ts c.args.context.now.tree.now.nodes kept ss stand ∙ done.count in
    let all : take i ss ≡ ss = take_all i ss (omega (arith, count)) in
    subst (λ (xs : List (definition.Slot Tree)). SlotsAdd 0 ts xs c.args.rows.now c.loop-next.rows) all (inv.grown few ts trees ss holds stand)

pub put_others-returns-then-is_empty-clause-grown : goal.put_others-returns-then-is_empty-clause-grown
put_others-returns-then-is_empty-clause-grown t c =
    others_grown c.args.context.now.tree.now c.args.more (slots_ahead c.args.others) (slots_ahead c.in_ok-begun.bodies) c.most.result c.args.rows.now c.put_run.new.rows c.put_run-2.new.rows c.put_gap.new.rows
    c.in_ok-begun.ensures.left c.most.ensures c.in_ok-begun.ensures.grown c.in_ok-ended.ensures.grown c.in_ok-put_gap.ensures.grown

pub put_others-returns-else-is_empty-clause-grown : goal.put_others-returns-else-is_empty-clause-grown
put_others-returns-else-is_empty-clause-grown t c =
    others_grown c.args.context.now.tree.now c.args.more (slots_ahead c.args.others) (slots_ahead c.in_ok-begun.bodies) c.most.result c.args.rows.now c.put_run.new.rows c.put_run-2.new.rows c.put_gap.new.rows
    c.in_ok-begun.ensures.left c.most.ensures c.in_ok-begun.ensures.grown c.in_ok-ended.ensures.grown c.in_ok-put_gap.ensures.grown

pub put_rest-returns-clause-grown : goal.put_rest-returns-clause-grown
put_rest-returns-clause-grown t c =
    let taken = c.in_ok-last.ensures.put in
    on_ok c.close_list.result _ _
    (λ made few ts trees ss holds stand.
    let f = first_slot ts c.args.context.now.tree.now.nodes (slots_ahead c.args.slots) taken.0 (slots_ahead c.put_next.new.slots) ss taken.1 stand in
    let begin = slots_begin ts f.slot f.slots ss f.is in
    omega (arith, c.in_ok-put_free_gap.ensures.grown few, taken.2.1 few ts trees f.slot holds f.first, c.in_ok-bodies.ensures.grown few ts trees f.slots holds f.rest, made, begin.0, begin.1, begin.2))
    c.close_list.ensures.grown

pub put_list-returns-then-branch-clause-put : goal.put_list-returns-then-branch-clause-put
put_list-returns-then-branch-clause-put t c ts trees f holds unfolds =
    c.in_ok-put_unmade.ensures.put (ap Ok c.if-branch.true) ts trees (Listed c.args.list.opener f c.args.list.closer) holds unfolds

pub put_list-returns-then-branch-clause-grown : goal.put_list-returns-then-branch-clause-grown
put_list-returns-then-branch-clause-grown t c few ts trees f holds unfolds =
    unmade_grown ts c.args.list.opener f c.args.list.closer (rows_size c.args.rows.now) (rows_size c.put_unmade.new.rows) (c.in_ok-put_unmade.ensures.grown (ap Ok c.if-branch.true))

pub put_list-returns-clause-put : goal.put_list-returns-clause-put
put_list-returns-clause-put t c =
    let same = c.in_ok-put_unmade.ensures.same (ap Ok c.if-branch.false) in
    on_ok c.put_made.result _ _
    (λ put ts trees f holds unfolds. fills_both c.args.rows.now c.put_unmade.new.rows c.put_made.new.rows (λ g. []) _ same (put ts trees f holds unfolds))
    c.put_made.ensures.put
