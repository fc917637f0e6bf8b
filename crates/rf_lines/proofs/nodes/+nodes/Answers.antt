-- Each node is written in its place.
use Rattle.std.proofs.Common.{◌≡◌, ℕ, ◌+◌, ◌<◌, ◌||◌, Bool, true, leb, Option, Some, List, [], ◌∷◌, ◌++◌, length, take, get_or, refl, sym, ap, ◌∙◌, subst, add-one, arith, rules}
use Rattle.std.specs.List.{AllByRecursion}
use Rattle.std.specs.Option.{option_map}
use Rattle.std.specs.Prelude.{codes}
use Rattle.std.proofs.lemmas.Bool.{eqb-true}
use Rattle.std.proofs.lemmas.List.{nil_from_length, take_all}
use Rattle.std.proofs.lemmas.List.Elements.{All-from_recursion}
use Rattle.std.proofs.lemmas.Option.{slice_get-get_or}
use Rattle.std.proofs.lemmas.Result.{IfOk-weaker, on_ok_weaker}
use Rattle.rf_base_document.specs.Document.{Doc}
use Rattle.rf_base_grammar.specs.Reader.{begins}
use Rattle.rf_base_tree.specs.declared.separators.Want.TheVariants as want
use Rattle.rf_base_tree.specs.Trees.{Tree}
use Rattle.rf_base_tree.specs.Slots.{Entry, Slot, entries_of}
use Rattle.rf_base_tree.specs.Cut.{slots_of}
use Rattle.rf_base_file.specs.declared.shapes.Role.{Role}
use Rattle.rf_base_file.specs.declared.shapes.Role.TheVariants.{Free}
use Rattle.rf_base_file.specs.declared.shapes.Roles.{Roles}
use Rattle.rf_base_file.specs.declared.shapes.Way.{Way}
use Rattle.rf_base_file.specs.Rows.{Part, gap_docs, slot_part}
use Rattle.rf_base_file.specs.Ways.{part_in, first_role, later_roles, quoted_behind}
use Rattle.rf_base_file.specs.FileDocument.{tree_piece}
use Rattle.rf_base_lines.specs.Lists.{between_docs, SomeBreaks, BreaksWhere, turns_of}
use Rattle.rf_base_lines.proofs.SpelledSteps.{parts_break}
use Rattle.rf_style.specs.StyleOf.{seen}
use Rattle.rf_tree.specs.Nodes.{UnfoldsTo}
use Rattle.rf_tree.specs.Slots.{NodeSlot, NodeStands, NodeSlotsStand, NodeSlotsBelow, read_slot}
use Rattle.rf_tree.specs.declared.nodes.At.{At}
use Rattle.rf_tree.specs.Ahead.{slots_ahead, alone_slot}
use Rattle.rf_tree.specs.Told as node
use Rattle.rf_tree.proofs.ToldNodes.{told_at}
use Rattle.rf_tree.proofs.Unfolding.{UnfoldsTo-below}
use Rattle.rf_ways.specs.Below.{AtBelow}
use Rattle.rf_ways.proofs.Below.{below_front, slot_below, slots_wider}
use Rattle.rf_ways.proofs.NodeParts.{names_at, item_there, prefixed_at, skipped_at, listed_at, list_there, entry_at, entries_length}
use Rattle.rf_ways.proofs.Taking.{taken, alone_taken, none_alone, below_cut, first_slot, no_slots}
use Rattle.rf_lines.specs.Written.{Stretch, turned, flat_dirs}
use Rattle.rf_ways.specs.Nodes.{node_in, slot_of, parts_of}
use Rattle.rf_lines.specs.Nodes.{IsWritten, WritesPart, WritesParts, comment_parts}
use Rattle.rf_lines.specs.Turned.{told, SomeLed}
use Rattle.rf_lines.proofs.Rows.{part_written, parts_none, parts_more, parts_end, body_none, body_some, list_written, prefixed_written}
use Rattle.rf_lines.proofs.Slots.{RowOf, key_tree, lone_slot, lone_written, bare_written, datum_written, keyed_written, parts_count, no_parts, first_parts}
use Rattle.rf_lines.proofs.LedSlots.{IsSlotBehind, AreOthers, comments_of, comments_end, led_written, remark_written, none_led, breaks_first}
use Rattle.rf_lines.proofs.NodesAt.{leaf_written, comment_written, bare_prefix, bare_skip, list_is, list_piece_written}
use Rattle.rf_lines.proofs.nodes.+nodes.Goals as goal

pub write_node-node-requires : goal.write_node-node-requires
write_node-node-requires t c =
    let less = UnfoldsTo-below c.requires.node.0 c.args.writer.now.tree.now.nodes c.args.at.0 c.requires.node.2 c.requires.node.4 in search rules

pub write_inner-node-requires : goal.write_inner-node-requires
write_inner-node-requires t c =
    let less = UnfoldsTo-below c.requires.node.0 c.args.writer.now.tree.now.nodes c.args.at.0 c.requires.node.2 c.requires.node.4 in search rules

pub write_node-write_item-requires-clause-there : goal.write_node-write_item-requires-clause-there
write_node-write_item-requires-clause-there t c =
    let ts = c.requires.node.0 in
    let holds = c.requires.node.3 in
    let tree = c.args.writer.now.tree.now in
    let nodes = tree.nodes in
    let at = told_at nodes c.args.at.0 c.node.ensures c.in-Leaf.is in
    item_there tree ts c.requires.node.1 c.in-Leaf.item holds (names_at ts nodes c.args.at.0 _ holds.sound at)

pub write_inner-text-requires-clause-there : goal.write_inner-text-requires-clause-there
write_inner-text-requires-clause-there t c =
    let ts = c.requires.node.0 in
    let holds = c.requires.node.3 in
    let tree = c.args.writer.now.tree.now in
    let nodes = tree.nodes in
    let at = told_at nodes c.args.at.0 c.node.ensures c.in-Prefixed.is in
    item_there tree ts c.requires.node.1 c.in-Prefixed.item holds (names_at ts nodes c.args.at.0 _ holds.sound at)

pub write_inner-write_prefixed-requires : goal.write_inner-write_prefixed-requires
write_inner-write_prefixed-requires t c =
    let ts = c.requires.node.0 in
    let trees = c.requires.node.1 in
    let holds = c.requires.node.3 in
    let unfolds = c.requires.node.4 in
    let tree = c.args.writer.now.tree.now in
    let nodes = tree.nodes in
    let at = told_at nodes c.args.at.0 c.node.ensures c.in-Prefixed.is in
    let f = prefixed_at ts nodes c.args.at.0 c.in-Prefixed.item c.in-Prefixed.lead.now c.in-Prefixed.inner c.requires.node.2 at unfolds in
    let before = below_front c.args.at.0 c.in-Prefixed.lead.now (c.in-Prefixed.inner ∷ []) (holds.sound.parts_first c.args.at.0 (node.Prefixed c.in-Prefixed.item c.in-Prefixed.lead.now c.in-Prefixed.inner) at) in (
      omega (arith, c.decreases),
      (
        item_there tree ts trees c.in-Prefixed.item holds (names_at ts nodes c.args.at.0 (node.Prefixed c.in-Prefixed.item c.in-Prefixed.lead.now c.in-Prefixed.inner) holds.sound at),
        ((ts, trees, f.datum, holds, f.inner_unfolds), before.1.0),
      ),
    )

pub write_inner-write_list-requires : goal.write_inner-write_list-requires
write_inner-write_list-requires t c =
    let ts = c.requires.node.0 in
    let trees = c.requires.node.1 in
    let holds = c.requires.node.3 in
    let unfolds = c.requires.node.4 in
    let tree = c.args.writer.now.tree.now in
    let nodes = tree.nodes in
    let at = told_at nodes c.args.at.0 c.node.ensures c.in-List.is in
    let l = listed_at ts nodes c.args.at.0 c.in-List.opener c.in-List.entries.now c.in-List.closer c.requires.node.2 at unfolds in
    let names = names_at ts nodes c.args.at.0 (node.ListNode c.in-List.opener c.in-List.entries.now c.in-List.closer) holds.sound at in (
      omega (arith, c.decreases),
      (
        (ts, trees, l.entries, holds, subst (λ (u : Tree). UnfoldsTo ts nodes c.args.at.0 u) l.is unfolds),
        (item_there tree ts trees c.in-List.opener holds names.0, item_there tree ts trees c.in-List.closer holds names.1),
      ),
    )

pub write_node-returns-in_ok-write_item-in-Leaf : goal.write_node-returns-in_ok-write_item-in-Leaf
write_node-returns-in_ok-write_item-in-Leaf t c ts trees u holds unfolds =
    let nodes = c.args.writer.now.tree.now.nodes in
    let at = told_at nodes c.args.at.0 c.node.ensures c.in-Leaf.is in
    leaf_written c.args.writer.now (seen c.args.writer.now.style.now) ts nodes c.args.at.0 c.in-Leaf.item u c.args.place c.args.role c.args.strip.now c.write_item.new.strip at unfolds
    (c.in_ok-write_item-in-Leaf.ensures ts trees c.args.place.flat holds)

pub write_inner-returns-then-is_empty : goal.write_inner-returns-then-is_empty
write_inner-returns-then-is_empty t c =
    let nodes = c.args.writer.now.tree.now.nodes in
    let place = c.args.place in
    let lead = c.in-Prefixed.lead.now in
    let none : length lead ≡ 0 = eqb-true (length lead) 0 (sym c.is_empty.ensures ∙ c.if-is_empty.true) in
    let bare : lead ≡ [] = nil_from_length lead none in
    IfOk-weaker c.write_prefixed.result _ _
    (λ last made ts trees u holds unfolds.
    let at = told_at nodes c.args.at.0 c.node.ensures c.in-Prefixed.is in
    bare_prefix c.args.writer.now (seen c.args.writer.now.style.now) ts nodes c.args.at.0 c.in-Prefixed.item lead c.in-Prefixed.inner u c.quoted_behind.result place c.args.role c.args.strip.now c.write_prefixed.new.strip last at unfolds bare
    (c.quoted_behind.ensures ∙ ap (λ (s : List ℕ). quoted_behind s place.quoted) (c.text.ensures.characters ts trees holds))
    (λ x h. made ts trees x holds h))
    c.write_prefixed.ensures

pub write_inner-returns-in_ok-write_list-in-List : goal.write_inner-returns-in_ok-write_list-in-List
write_inner-returns-in_ok-write_list-in-List t c ts trees u holds unfolds =
    let nodes = c.args.writer.now.tree.now.nodes in
    let at = told_at nodes c.args.at.0 c.node.ensures c.in-List.is in
    let l = listed_at ts nodes c.args.at.0 c.in-List.opener c.in-List.entries.now c.in-List.closer u at unfolds in
    list_piece_written c.args.writer.now (seen c.args.writer.now.style.now) ts c.in-List.opener c.in-List.closer l.entries u c.args.place c.args.role c.args.strip.now c.write_list.new.strip l.is
    (c.in_ok-write_list-in-List.ensures ts trees l.entries holds (subst (λ (x : Tree). UnfoldsTo ts nodes c.args.at.0 x) l.is unfolds))

pub write_comment-node-requires : goal.write_comment-node-requires
write_comment-node-requires t c =
    let less = UnfoldsTo-below c.requires.node.0 c.args.writer.now.tree.now.nodes c.args.at.0 c.requires.node.2 c.requires.node.4 in search rules

pub write_comment-write_prefixed-requires : goal.write_comment-write_prefixed-requires
write_comment-write_prefixed-requires t c =
    let ts = c.requires.node.0 in
    let trees = c.requires.node.1 in
    let holds = c.requires.node.3 in
    let unfolds = c.requires.node.4 in
    let tree = c.args.writer.now.tree.now in
    let nodes = tree.nodes in
    let item = c.in-DatumComment.item in
    let lead = c.in-DatumComment.lead.now in
    let inner = c.in-DatumComment.inner in
    let at = told_at nodes c.args.at.0 c.node.ensures c.in-DatumComment.is in
    let f = skipped_at ts nodes c.args.at.0 item lead inner c.requires.node.2 at unfolds in
    let before = below_front c.args.at.0 lead (inner ∷ []) (holds.sound.parts_first c.args.at.0 (node.DatumComment item lead inner) at) in (
      omega (arith, c.decreases),
      (item_there tree ts trees item holds (names_at ts nodes c.args.at.0 (node.DatumComment item lead inner) holds.sound at), ((ts, trees, f.datum, holds, f.inner_unfolds), before.1.0)),
    )

pub write_comment-write_item-requires-clause-there : goal.write_comment-write_item-requires-clause-there
write_comment-write_item-requires-clause-there t c =
    let ts = c.requires.node.0 in
    let holds = c.requires.node.3 in
    let tree = c.args.writer.now.tree.now in
    let at = told_at tree.nodes c.args.at.0 c.node.ensures c.in-Comment.is in
    item_there tree ts c.requires.node.1 c.in-Comment.item holds (names_at ts tree.nodes c.args.at.0 (node.Comment c.in-Comment.item) holds.sound at)

pub write_comment-returns-then-is_empty : goal.write_comment-returns-then-is_empty
write_comment-returns-then-is_empty t c =
    let nodes = c.args.writer.now.tree.now.nodes in
    let lead = c.in-DatumComment.lead.now in
    let bare : lead ≡ [] = nil_from_length lead (eqb-true (length lead) 0 (sym c.is_empty.ensures ∙ c.if-is_empty.true)) in
    IfOk-weaker c.write_prefixed.result _ _
    (λ last made role ts trees u holds unfolds.
    bare_skip c.args.writer.now (seen c.args.writer.now.style.now) ts nodes c.args.at.0 c.in-DatumComment.item lead c.in-DatumComment.inner u c.args.place role c.args.strip.now
    c.write_prefixed.new.strip last (told_at nodes c.args.at.0 c.node.ensures c.in-DatumComment.is) unfolds bare (λ x h. made ts trees x holds h))
    c.write_prefixed.ensures

pub write_comment-returns-in_ok-write_item-in-Comment : goal.write_comment-returns-in_ok-write_item-in-Comment
write_comment-returns-in_ok-write_item-in-Comment t c role ts trees u holds unfolds =
    let nodes = c.args.writer.now.tree.now.nodes in
    let at = told_at nodes c.args.at.0 c.node.ensures c.in-Comment.is in
    comment_written c.args.writer.now (seen c.args.writer.now.style.now) ts nodes c.args.at.0 c.in-Comment.item u c.args.place role c.args.strip.now c.write_item.new.strip at unfolds
    (c.in_ok-write_item-in-Comment.ensures ts trees c.args.place.flat holds)

pub write_prefixed-first_item-next-requires : goal.write_prefixed-first_item-next-requires
write_prefixed-first_item-next-requires t c =
    UnfoldsTo-below c.requires.inner.0 c.args.writer.now.tree.now.nodes c.args.inner.0 c.requires.inner.2 c.requires.inner.4

pub write_prefixed-returns : goal.write_prefixed-returns
write_prefixed-returns t c =
    let style = seen c.args.writer.now.style.now in
    let place = c.args.place in
    IfOk-weaker c.write_node.result _ _
    (λ last made ts trees u holds unfolds.
    let w = made ts trees u holds unfolds in
    let gap : IsWritten c.args.writer.now place.flat c.write_mark.new.strip c.write_gap.new.strip (gap_docs ts c.args.item (tree_piece style ts u).first want.Nothing) =
    subst (λ (n : ℕ). IsWritten c.args.writer.now place.flat c.write_mark.new.strip c.write_gap.new.strip (gap_docs ts c.args.item n want.Nothing)) (c.first_item-next.ensures style ts u unfolds)
    (c.in_ok-write_gap.ensures.written ts trees place.flat holds) in (
      w.0,
      prefixed_written c.args.writer.now ts c.args.item (part_in place.quoted Free (tree_piece style ts u)) place.flat c.args.strip.now c.write_mark.new.strip c.write_gap.new.strip c.write_node.new.strip
          (c.in_ok-write_mark.ensures ts trees place.flat holds) gap w.1,
    ))
    c.write_node.ensures

pub write_list-slots_in-slots-requires-clause-list : goal.write_list-slots_in-slots-requires-clause-list
write_list-slots_in-slots-requires-clause-list t c =
    list_there c.requires.node.0 c.args.writer.now.tree.now.nodes c.args.at.0 c.args.list.opener c.args.list.closer c.requires.node.2 c.requires.node.4

pub write_list-way_of-way-requires-clause-slots : goal.write_list-way_of-way-requires-clause-slots
write_list-way_of-way-requires-clause-slots t c =
    let nodes = c.args.writer.now.tree.now.nodes in
    let less = UnfoldsTo-below c.requires.node.0 nodes c.args.at.0 _ c.requires.node.4 in
    slots_wider c.args.at.0 (length nodes) (slots_ahead c.slots_in-slots.result) (omega (arith, less)) c.slots_in-slots.ensures.below

pub write_list-write_body-requires : goal.write_list-write_body-requires
write_list-write_body-requires t c =
    let r = c.requires.node in
    let stand = c.slots_in-slots.ensures.slots r.0 r.1 c.args.list.opener r.2 c.args.list.closer r.3 r.4 in
    (omega (arith, c.decreases), (c.slots_in-slots.ensures.cursor, ((r.0, r.1, slots_of true (entries_of r.0 r.2), r.3, stand), c.slots_in-slots.ensures.below)))

pub write_list-returns-in_ok-write_body-in-Some : goal.write_list-returns-in_ok-write_body-in-Some
write_list-returns-in_ok-write_body-in-Some t c =
    let writer = c.args.writer.now in
    let style = seen writer.style.now in
    let place = c.args.place in
    let opener = c.args.list.opener in
    let closer = c.args.list.closer in
    let old = c.args.strip.now in
    let begun = c.write_mark.new.strip in
    let inside = c.write_body.new.strip in
    let new = c.write_mark-in-Some.new.strip in
    let q = c.quoted_inside-quoted.result in
    let way : Way = c.way_of-way.result in
    let layout = told c.in-Some.turns in
    let flats = c.flat_dirs.result.now in
    on_ok_weaker c.write_mark-in-Some.result
    (λ closes ts trees f holds unfolds.
    let ss : List (Slot Tree) = slots_of true (entries_of ts f) in
    let parts : List Part = parts_of style ts q way.roles ss in
    let stand = c.slots_in-slots.ensures.slots ts trees opener f closer holds unfolds in
    let quotes = c.quoted_inside-quoted.ensures ∙ ap (λ (s : List ℕ). begins (codes "#") s || place.quoted) (c.text.ensures.characters ts trees holds) in
    let few = c.in_ok-write_body-in-Some.ensures.few in
    let body = c.in_ok-write_body-in-Some.ensures.written ts trees ss holds stand in
    let many : length (slots_ahead c.slots_in-slots.result) ≡ length parts = parts_count style ts q way.roles writer.tree.now.nodes _ ss stand in
    let turns : turns_of way.shape (length parts) place.flat (c.turns_of.ensures few).0 ≡ Some layout =
    ap (λ (n : ℕ). turns_of way.shape n place.flat (c.turns_of.ensures few).0) (sym many) ∙ sym (c.turns_of.ensures few).2 ∙ ap (option_map told) c.in-Some.is in
    let all : flats ≡ flat_dirs (length parts) = c.flat_dirs.ensures (length parts) (few ∙ ap (λ (n : ℕ). leb n 1) many) in
    let breaks = c.turns_of.ensures few in
    let none : BreaksWhere breaks.0 ts opener parts closer = λ e. parts_break ts opener parts closer (body.1 (breaks.1 e)) in
    let between : IsWritten writer layout.flat (turned begun layout.dirs flats) inside (between_docs ts opener parts closer) =
    subst (λ (s : Stretch). IsWritten writer layout.flat s inside (between_docs ts opener parts closer)) c.in_ok-turn-in-Some.ensures body.0.1 in
    subst (λ (d : Doc). IsWritten writer place.flat old new (d ∷ []))
    (list_is style ts opener closer f q place.quoted c.args.role way quotes (c.way_of-way.ensures.way style ts trees ss holds stand))
    (list_written writer ts way opener parts closer place.flat breaks.0 layout flats old begun inside new (c.is_charged.ensures c.if-is_charged.false) body.0.0 none turns all
    (c.in_ok-write_mark-in-Some.ensures ts trees place.flat holds) between (closes ts trees place.flat holds)))
    c.write_mark-in-Some.ensures

pub write_body-write_others-requires : goal.write_body-write_others-requires
write_body-write_others-requires t c =
    let r = c.requires.slots in
    let first = c.in_ok-begun.ensures.written in
    let rest = slots_ahead c.write_next.new.slots in
    let f = first_slot r.0 c.args.writer.now.tree.now.nodes (slots_ahead c.args.slots) first.0 rest r.2 first.1 r.4 in
    let below = below_cut c.args.place.before (slots_ahead c.args.slots) first.0 rest first.1 c.requires.before in
    (omega (arith, c.decreases), (c.in_ok-begun.ensures.cursor, ((r.0, r.1, f.slots, r.3, f.rest), below.1)))

pub write_body-returns-then-few-clause-written : goal.write_body-returns-then-few-clause-written
write_body-returns-then-few-clause-written t c ts trees ss holds stand =
    let style = seen c.args.writer.now.style.now in
    let place = c.args.place in
    let no_slot : slots_ahead c.args.slots ≡ [] = nil_from_length (slots_ahead c.args.slots) (eqb-true (length (slots_ahead c.args.slots)) 0 (sym c.is_empty.ensures ∙ c.if-is_empty.true)) in
    let none = no_slots ts c.args.writer.now.tree.now.nodes (slots_ahead c.args.slots) ss no_slot stand in (
      body_none c.args.writer.now ts c.args.list.opener c.args.list.closer (parts_of style ts place.quoted c.args.roles ss) place.flat c.args.strip.now
          (no_parts style ts place.quoted c.args.roles ss none),
      λ led. absurd (none_led (slots_ahead c.args.slots) no_slot led),
    )

pub write_body-returns-clause-written : goal.write_body-returns-clause-written
write_body-returns-clause-written t c =
    let writer = c.args.writer.now in
    let style = seen writer.style.now in
    let place = c.args.place in
    let first = c.in_ok-begun.ensures.written in
    let rest = slots_ahead c.write_next.new.slots in
    on_ok_weaker c.write_gap.result
    (λ gap ts trees ss holds stand.
    let f = first_slot ts writer.tree.now.nodes (slots_ahead c.args.slots) first.0 rest ss first.1 stand in
    let p : Part = slot_part ts (slot_of style ts place.quoted (first_role c.args.roles) f.slot) in
    let others = c.in_ok-last.ensures ts trees f.slots holds f.rest in
    let parts = first_parts style ts place.quoted c.args.roles ss f.slot f.slots f.is in
    let begun = subst (λ (r : Role). IsSlotBehind writer ts c.args.list.opener want.Nothing first.0 (slot_part ts (slot_of style ts place.quoted r f.slot)) place.flat c.args.strip.now c.write_next.new.strip c.in_ok-begun.begun)
    c.first_role-role.ensures (first.2 ts trees f.slot holds f.first) in
    let more = subst (λ (rs : Roles). AreOthers writer ts c.in_ok-begun.begun rest (parts_of style ts place.quoted rs f.slots) place.flat c.write_next.new.strip c.write_others.new.strip c.in_ok-last.last)
    c.later_roles.ensures others in (
      body_some writer ts c.args.list.opener c.args.list.closer (parts_of style ts place.quoted c.args.roles ss) p (parts_of style ts place.quoted (later_roles c.args.roles) f.slots) place.flat
          c.args.strip.now c.write_next.new.strip c.write_others.new.strip c.write_gap.new.strip c.in_ok-begun.begun c.in_ok-last.last
          parts begun.0 more.0 (gap ts trees place.flat holds),
      breaks_first (slots_ahead c.args.slots) first.0 rest (parts_of style ts place.quoted c.args.roles ss) p (parts_of style ts place.quoted (later_roles c.args.roles) f.slots) first.1 parts begun.1 more.1,
    ))
    c.write_gap.ensures.written

pub write_others-loop-ahead-init : goal.write_others-loop-ahead-init
write_others-loop-ahead-init t c =
    record {
      cursor = c.requires.cursor;
      slots = c.requires.slots;
      below = c.requires.before;
      left = λ ts trees ss holds stand. (ss, stand, λ new end written. written, λ breaks. breaks);
    }

pub write_others-write_next-requires : goal.write_others-write_next-requires
write_others-write_next-requires t c =
    let inv = c.loop-ahead.invariant in
    (omega (arith, c.decreases), (inv.cursor, (inv.slots, inv.below)))

pub write_others-loop-ahead-preserved : goal.write_others-loop-ahead-preserved
write_others-loop-ahead-preserved t c =
    let writer = c.args.writer.now in
    let style = seen writer.style.now in
    let place = c.args.place in
    let nodes = writer.tree.now.nodes in
    let inv = c.loop-ahead.invariant in
    let all = slots_ahead c.loop-ahead.ahead in
    let rest = slots_ahead c.write_next.new.slots in
    let next = c.in_ok-last.ensures.written in
    let r = inv.slots in
    let f = first_slot r.0 nodes all next.0 rest r.2 next.1 r.4 in
    record {
      cursor = c.in_ok-last.ensures.cursor;
      slots = (r.0, r.1, f.slots, r.3, f.rest);
      below = (below_cut place.before all next.0 rest next.1 inv.below).1;
      left =
          λ ts trees ss holds stand.
          let l = inv.left ts trees ss holds stand in
          let g = first_slot ts nodes all next.0 rest l.0 next.1 l.1 in
          let parts = first_parts style ts place.quoted c.loop-ahead.roles l.0 g.slot g.slots g.is in
          let taken = subst (λ (x : Role). IsSlotBehind writer ts c.loop-ahead.last want.Line next.0 (slot_part ts (slot_of style ts place.quoted x g.slot)) place.flat c.loop-ahead.strip c.write_next.new.strip c.in_ok-last.last)
          c.first_role-role.ensures (next.2 ts trees g.slot holds g.first) in (
            g.slots,
            g.rest,
            λ new end more.
                l.2 new end
                (subst (λ (ps : List Part). WritesParts writer ts c.loop-ahead.last ps place.flat c.loop-ahead.strip new end) (sym parts)
                (parts_more writer ts c.loop-ahead.last (slot_part ts (slot_of style ts place.quoted (first_role c.loop-ahead.roles) g.slot)) (parts_of style ts place.quoted (later_roles c.loop-ahead.roles) g.slots) place.flat
                c.loop-ahead.strip c.write_next.new.strip new c.in_ok-last.last end
                taken.0
                (subst (λ (rs : Roles). WritesParts writer ts c.in_ok-last.last (parts_of style ts place.quoted rs g.slots) place.flat c.write_next.new.strip new end) c.later_roles-roles.ensures more))),
            λ breaks.
                l.3
                (breaks_first all next.0 rest (parts_of style ts place.quoted c.loop-ahead.roles l.0) (slot_part ts (slot_of style ts place.quoted (first_role c.loop-ahead.roles) g.slot)) (parts_of style ts place.quoted (later_roles c.loop-ahead.roles) g.slots)
                next.1 parts taken.1 (subst (λ (rs : Roles). SomeLed rest → SomeBreaks (parts_of style ts place.quoted rs g.slots)) c.later_roles-roles.ensures breaks)),
          );
    }

pub write_others-returns : goal.write_others-returns
write_others-returns t c ts trees ss holds stand =
    let style = seen c.args.writer.now.style.now in
    let place = c.args.place in
    let ahead = slots_ahead c.loop-ahead.ahead in
    let l = c.loop-ahead.invariant.left ts trees ss holds stand in
    let empty : ahead ≡ [] = nil_from_length ahead (eqb-true (length ahead) 0 (sym c.is_empty.ensures ∙ c.loop-ahead-test.false)) in
    let none = no_slots ts c.args.writer.now.tree.now.nodes ahead l.0 empty l.1 in (
      l.2 c.loop-ahead.strip c.loop-ahead.last
          (subst (λ (ps : List Part). WritesParts c.args.writer.now ts c.loop-ahead.last ps place.flat c.loop-ahead.strip c.loop-ahead.strip c.loop-ahead.last) (sym (no_parts style ts place.quoted c.loop-ahead.roles l.0 none))
          (parts_none c.args.writer.now ts c.loop-ahead.last place.flat c.loop-ahead.strip)),
      l.3 (λ led. absurd (none_led ahead empty led)),
    )

pub write_next-write_behind-requires : goal.write_next-write_behind-requires
write_next-write_behind-requires t c =
    let r = c.requires.slots in
    let all = slots_ahead c.args.slots.now in
    let rest = slots_ahead c.next_alone.new.self in
    let at = c.in-Some.at in
    let is = alone_taken all rest c.next_alone.result at c.in-Some.is c.next_alone.ensures.next in
    let f = first_slot r.0 c.args.writer.now.tree.now.nodes all (alone_slot at) rest r.2 is r.4 in
    let o = lone_slot r.0 c.args.writer.now.tree.now.nodes (alone_slot at) at f.slot refl refl refl refl f.first in
    let below = (below_cut c.args.place.before all (alone_slot at) rest is c.requires.below).0 in
    (omega (arith, c.decreases), ((r.0, r.1, o.datum.what, r.3, o.unfolds), below.0))

pub write_next-write_parted-requires : goal.write_next-write_parted-requires
write_next-write_parted-requires t c =
    let r = c.requires.slots in
    let same = none_alone (slots_ahead c.args.slots.now) (slots_ahead c.next_alone.new.self) c.next_alone.result c.in-None.is c.next_alone.ensures.next in
    let stand = subst (λ (ks : List NodeSlot). NodeSlotsStand r.0 c.args.writer.now.tree.now.nodes ks r.2) same r.4 in
    let below = subst (λ (ks : List NodeSlot). NodeSlotsBelow c.args.place.before ks) same c.requires.below in
    (omega (arith, c.decreases), (c.next_alone.ensures.cursor, ((r.0, r.1, r.2, r.3, stand), below)))

pub write_next-returns-in-Some-clause-written : goal.write_next-returns-in-Some-clause-written
write_next-returns-in-Some-clause-written t c =
    let writer = c.args.writer.now in
    let place = c.args.place in
    let at = c.in-Some.at in
    let is = alone_taken (slots_ahead c.args.slots.now) (slots_ahead c.next_alone.new.self) c.next_alone.result at c.in-Some.is c.next_alone.ensures.next in
    IfOk-weaker c.write_behind.result _ _
    (λ last made. (
      alone_slot at,
      is,
      λ ts trees s holds stands. (
        lone_written writer (seen writer.style.now) ts writer.tree.now.nodes c.args.before c.args.want (alone_slot at) at s place.quoted c.args.role place.flat c.args.strip.now c.write_behind.new.strip last
            refl refl refl refl stands (λ u unfolds. made ts trees u holds unfolds),
        λ led. absurd (led.0 refl),
      ),
    ))
    c.write_behind.ensures

pub write_next-returns-in-None-clause-written : goal.write_next-returns-in-None-clause-written
write_next-returns-in-None-clause-written t c =
    let same = none_alone (slots_ahead c.args.slots.now) (slots_ahead c.next_alone.new.self) c.next_alone.result c.in-None.is c.next_alone.ensures.next in
    IfOk-weaker c.write_parted.result _ _ (λ last first. (first.0, same ∙ first.1, first.2)) c.write_parted.ensures.written

pub write_behind-first_item-requires : goal.write_behind-first_item-requires
write_behind-first_item-requires t c =
    UnfoldsTo-below c.requires.node.0 c.args.writer.now.tree.now.nodes c.args.at.0 c.requires.node.2 c.requires.node.4

pub write_behind-returns : goal.write_behind-returns
write_behind-returns t c =
    let writer = c.args.writer.now in
    let style = seen writer.style.now in
    let place = c.args.place in
    IfOk-weaker c.write_node.result _ _
    (λ last made ts trees u holds unfolds.
    let w = made ts trees u holds unfolds in
    part_written writer ts c.args.before c.first_item.result c.args.want (node_in style ts place.quoted c.args.role u) place.flat c.args.strip.now c.write_gap.new.strip c.write_node.new.strip last
    (c.first_item.ensures style ts u unfolds) (c.in_ok-write_gap.ensures.stands ts trees holds) (c.in_ok-write_gap.ensures.written ts trees place.flat holds) w.0 w.1)
    c.write_node.ensures

pub write_comment_behind-first_item-requires : goal.write_comment_behind-first_item-requires
write_comment_behind-first_item-requires t c =
    UnfoldsTo-below c.requires.node.0 c.args.writer.now.tree.now.nodes c.args.at.0 c.requires.node.2 c.requires.node.4

pub write_comment_behind-returns : goal.write_comment_behind-returns
write_comment_behind-returns t c =
    let writer = c.args.writer.now in
    let style = seen writer.style.now in
    let place = c.args.place in
    IfOk-weaker c.write_comment.result _ _
    (λ last made role ts trees u holds unfolds.
    let w = made role ts trees u holds unfolds in
    part_written writer ts c.args.before c.first_item.result c.args.want (node_in style ts place.quoted role u) place.flat c.args.strip.now c.write_gap.new.strip c.write_comment.new.strip last
    (c.first_item.ensures style ts u unfolds) (c.in_ok-write_gap.ensures.stands ts trees holds) (c.in_ok-write_gap.ensures.written ts trees place.flat holds) w.0 w.1)
    c.write_comment.ensures

pub write_parted-write_keyed-requires : goal.write_parted-write_keyed-requires
write_parted-write_keyed-requires t c =
    let r = c.requires.slots in
    let slot = read_slot c.in-Some.slot in
    let rest = slots_ahead c.next.new.self in
    let is = taken (slots_ahead c.args.slots.now) rest c.next.result c.in-Some.slot c.in-Some.is c.next.ensures.next in
    let f = first_slot r.0 c.args.writer.now.tree.now.nodes (slots_ahead c.args.slots.now) slot rest r.2 is r.4 in
    (omega (arith, c.decreases), ((r.0, r.1, f.slot, r.3, f.first), (below_cut c.args.place.before (slots_ahead c.args.slots.now) slot rest is c.requires.below).0))

pub write_parted-write_led-requires : goal.write_parted-write_led-requires
write_parted-write_led-requires t c =
    let r = c.requires.slots in
    let slot = read_slot c.in-Some.slot in
    let rest = slots_ahead c.next.new.self in
    let is = taken (slots_ahead c.args.slots.now) rest c.next.result c.in-Some.slot c.in-Some.is c.next.ensures.next in
    let f = first_slot r.0 c.args.writer.now.tree.now.nodes (slots_ahead c.args.slots.now) slot rest r.2 is r.4 in
    (omega (arith, c.decreases), ((r.0, r.1, f.slot, r.3, f.first), ((below_cut c.args.place.before (slots_ahead c.args.slots.now) slot rest is c.requires.below).0, search rules)))

pub write_parted-returns-then-is_empty-clause-written : goal.write_parted-returns-then-is_empty-clause-written
write_parted-returns-then-is_empty-clause-written t c =
    let writer = c.args.writer.now in
    let place = c.args.place in
    let slot = read_slot c.in-Some.slot in
    let is = taken (slots_ahead c.args.slots.now) (slots_ahead c.next.new.self) c.next.result c.in-Some.slot c.in-Some.is c.next.ensures.next in
    let bare : slot.leads ≡ [] = nil_from_length slot.leads (eqb-true (length slot.leads) 0 (sym c.is_empty.ensures ∙ c.if-is_empty.true)) in
    IfOk-weaker c.write_keyed.result _ _
    (λ last made. (
      slot,
      is,
      λ ts trees s holds stands. (
        bare_written writer (seen writer.style.now) ts writer.tree.now.nodes c.args.before c.args.want slot s place.quoted c.args.role place.flat c.args.strip.now c.write_keyed.new.strip last
            bare stands (made ts trees s holds stands).1,
        λ led. absurd (led.0 bare),
      ),
    ))
    c.write_keyed.ensures

pub write_parted-write_remark-requires : goal.write_parted-write_remark-requires
write_parted-write_remark-requires t c =
    let r = c.requires.slots in
    let slot = read_slot c.in-Some.slot in
    let rest = slots_ahead c.next.new.self in
    let is = taken (slots_ahead c.args.slots.now) rest c.next.result c.in-Some.slot c.in-Some.is c.next.ensures.next in
    let f = first_slot r.0 c.args.writer.now.tree.now.nodes (slots_ahead c.args.slots.now) slot rest r.2 is r.4 in
    (omega (arith, c.decreases), ((r.0, r.1, f.slot, r.3, f.first), (below_cut c.args.place.before (slots_ahead c.args.slots.now) slot rest is c.requires.below).0))

pub write_led-write_comments-requires : goal.write_led-write_comments-requires
write_led-write_comments-requires t c =
    let r = c.requires.slot in
    let slot = read_slot c.args.slot in
    let first = c.in-Some.first.now in
    let others = c.in-Some.others.now in
    let leads : slot.leads ≡ first ∷ others = search rules in
    let o = comments_of r.0 c.args.writer.now.tree.now.nodes slot.leads first others r.2.leads leads r.4.leads in
    let below = subst (λ (ats : List At). AllByRecursion (λ at. at.0 < c.args.place.before) ats) leads (slot_below c.args.place.before slot c.requires.below).leads in
    (omega (arith, c.decreases), ((r.0, r.1, o.entries, r.3, o.stand), below.1))

pub write_led-returns : goal.write_led-returns
write_led-returns t c =
    let writer = c.args.writer.now in
    let style = seen writer.style.now in
    let place = c.args.place in
    let slot = read_slot c.args.slot in
    let old = c.args.strip.now in
    let begun = c.write_comment_behind.new.strip in
    let led = c.write_comments.new.strip in
    let new = c.write_keyed.new.strip in
    let first = c.in-Some.first.now in
    let others = c.in-Some.others.now in
    let leads : slot.leads ≡ first ∷ others = search rules in
    IfOk-weaker c.write_keyed.result _ _
    (λ last made ts trees s holds stands.
    let w =
    led_written writer style ts writer.tree.now.nodes c.args.before c.args.want slot first others s place.quoted c.args.role old begun led new c.in_ok-begun.begun c.in_ok-led.led last leads stands
    (λ u unfolds. subst (λ (f : Bool). WritesPart writer ts c.args.before c.args.want (node_in style ts place.quoted Free u) f old begun c.in_ok-begun.begun) c.requires.flat (c.in_ok-begun.ensures Free ts trees u holds unfolds))
    (λ es stand. subst (λ (f : Bool). WritesParts writer ts c.in_ok-begun.begun (comment_parts style ts place.quoted es) f begun led c.in_ok-led.led) c.requires.flat (c.in_ok-led.ensures ts trees es holds stand))
    (subst (λ (f : Bool). RowOf writer style ts c.in_ok-led.led want.Line s place.quoted c.args.role f led new last) c.requires.flat (made ts trees s holds stands)) in (
      subst (λ (f : Bool). WritesPart writer ts c.args.before c.args.want (slot_part ts (slot_of style ts place.quoted c.args.role s)) f old new last) (sym c.requires.flat) w.0,
      λ begins. w.1,
    ))
    c.write_keyed.ensures

pub write_comments-loop-at-init : goal.write_comments-loop-at-init
write_comments-loop-at-init t c = λ ts trees es holds stand. parts_none c.args.writer.now ts c.args.before c.args.place.flat c.args.strip.now

pub write_comments-write_comment_behind-requires : goal.write_comments-write_comment_behind-requires
write_comments-write_comment_behind-requires t c =
    let r = c.requires.nodes in
    let ats = c.args.comments.now in
    let i = c.loop-at.at-index in
    let d : At = record { 0 = 0 } in
    let less = All-from_recursion (λ (a : At). a.0 < c.args.place.before) ats c.requires.below i d c.loop-at-test.true in
    let e = entry_at r.0 c.args.writer.now.tree.now.nodes ats r.2 i (get_or ats i d) r.4 (slice_get-get_or ats i d c.loop-at-test.true) in
    (omega (arith, less, c.decreases), ((r.0, r.1, e.entry.what, r.3, e.stands), less))

pub write_comments-loop-at-preserved : goal.write_comments-loop-at-preserved
write_comments-loop-at-preserved t c ts trees es holds stand =
    let writer = c.args.writer.now in
    let style = seen writer.style.now in
    let place = c.args.place in
    let ats = c.args.comments.now in
    let i = c.loop-at.at-index in
    let d : At = record { 0 = 0 } in
    let e = entry_at ts writer.tree.now.nodes ats es i (get_or ats i d) stand (slice_get-get_or ats i d c.loop-at-test.true) in
    let parts : List Part = comment_parts style ts place.quoted (take i es) in
    let more : comment_parts style ts place.quoted (take (i + 1) es) ≡ parts ++ node_in style ts place.quoted Free e.entry.what ∷ [] =
    ap (comment_parts style ts place.quoted) (ap (λ (n : ℕ). take n es) (add-one i) ∙ e.taken) ∙ comments_end style ts place.quoted (take i es) e.entry in
    subst (λ (ps : List Part). WritesParts writer ts c.args.before ps place.flat c.args.strip.now c.write_comment_behind.new.strip c.in_ok-last.last) (sym more)
    (parts_end writer ts c.args.before parts (node_in style ts place.quoted Free e.entry.what) place.flat c.args.strip.now c.loop-at.strip c.write_comment_behind.new.strip c.loop-at.last c.in_ok-last.last
    (c.loop-at.invariant ts trees es holds stand) (c.in_ok-last.ensures Free ts trees e.entry.what holds e.stands))

pub write_comments-returns : goal.write_comments-returns
write_comments-returns t c ts trees es holds stand =
    let writer = c.args.writer.now in
    let size = entries_length ts writer.tree.now.nodes c.args.comments.now es stand in
    let all : take c.loop-at.at-index es ≡ es = take_all c.loop-at.at-index es (omega (arith, size, c.loop-at-test.false)) in
    subst (λ (xs : List (Entry Tree)). WritesParts writer ts c.args.before (comment_parts (seen writer.style.now) ts c.args.place.quoted xs) c.args.place.flat c.args.strip.now c.loop-at.strip c.loop-at.last) all
    (c.loop-at.invariant ts trees es holds stand)

pub write_keyed-write_behind-requires-in-Some-Some-None : goal.write_keyed-write_behind-requires-in-Some-Some-None
write_keyed-write_behind-requires-in-Some-Some-None t c =
    let r = c.requires.slot in
    let nodes = c.args.writer.now.tree.now.nodes in
    let key = c.in-Some-Some-None.key in
    let k = key_tree r.0 nodes key r.2.key (subst (λ (o : Option At). NodeStands r.0 nodes o r.2.key) c.in-Some-Some-None.is-0 r.4.key) in
    let below = subst (AtBelow c.args.place.before) c.in-Some-Some-None.is-0 (slot_below c.args.place.before (read_slot c.args.slot) c.requires.below).key in
    (omega (arith, c.decreases), ((r.0, r.1, k.0.what, r.3, k.2), below))

pub write_keyed-write_behind-requires-in-Some-Some-None-2 : goal.write_keyed-write_behind-requires-in-Some-Some-None-2
write_keyed-write_behind-requires-in-Some-Some-None-2 t c =
    let r = c.requires.slot in
    let nodes = c.args.writer.now.tree.now.nodes in
    let at = c.in-Some-Some-None.at in
    let k = key_tree r.0 nodes at r.2.datum (subst (λ (o : Option At). NodeStands r.0 nodes o r.2.datum) c.in-Some-Some-None.is-1 r.4.datum) in
    let below = subst (AtBelow c.args.place.before) c.in-Some-Some-None.is-1 (slot_below c.args.place.before (read_slot c.args.slot) c.requires.below).datum in
    (omega (arith, c.decreases), ((r.0, r.1, k.0.what, r.3, k.2), below))

pub write_keyed-returns-in-None-Some-None : goal.write_keyed-returns-in-None-Some-None
write_keyed-returns-in-None-Some-None t c =
    let writer = c.args.writer.now in
    let place = c.args.place in
    IfOk-weaker c.write_behind.result _ _
    (λ last made ts trees s holds stands.
    datum_written writer (seen writer.style.now) ts writer.tree.now.nodes c.args.before c.args.want (read_slot c.args.slot) c.in-None-Some-None.at s place.quoted c.args.role place.flat
    c.args.strip.now c.write_behind.new.strip last c.in-None-Some-None.is-0 c.in-None-Some-None.is-1 c.in-None-Some-None.is-2 stands
    (λ u unfolds. made ts trees u holds unfolds))
    c.write_behind.ensures

pub write_keyed-returns-in_ok-last-in-Some-Some-None : goal.write_keyed-returns-in_ok-last-in-Some-Some-None
write_keyed-returns-in_ok-last-in-Some-Some-None t c =
    let writer = c.args.writer.now in
    let place = c.args.place in
    IfOk-weaker c.write_behind-in-Some-Some-None-2.result _ _
    (λ last made ts trees s holds stands.
    keyed_written writer (seen writer.style.now) ts writer.tree.now.nodes c.args.before c.args.want (read_slot c.args.slot) c.in-Some-Some-None.key c.in-Some-Some-None.at s place.quoted c.args.role place.flat
    c.args.strip.now c.write_behind-in-Some-Some-None.new.strip c.write_behind-in-Some-Some-None-2.new.strip c.in_ok-last-in-Some-Some-None.last last
    c.in-Some-Some-None.is-0 c.in-Some-Some-None.is-1 c.in-Some-Some-None.is-2 stands
    (λ u unfolds. c.in_ok-last-in-Some-Some-None.ensures ts trees u holds unfolds) (λ u unfolds. made ts trees u holds unfolds))
    c.write_behind-in-Some-Some-None-2.ensures

pub write_parted-returns-else-place-clause-written : goal.write_parted-returns-else-place-clause-written
write_parted-returns-else-place-clause-written t c =
    let is = taken (slots_ahead c.args.slots.now) (slots_ahead c.next.new.self) c.next.result c.in-Some.slot c.in-Some.is c.next.ensures.next in
    IfOk-weaker c.write_remark.result _ _ (λ last made. (read_slot c.in-Some.slot, is, made c.args.role)) c.write_remark.ensures

pub write_remark-returns-in-None-None-None : goal.write_remark-returns-in-None-None-None
write_remark-returns-in-None-None-None t c =
    let writer = c.args.writer.now in
    let place = c.args.place in
    let slot = read_slot c.args.slot in
    let at = c.in-Some.at.now in
    let behind = c.in-Some.behind.now in
    let leads : slot.leads ≡ at ∷ behind = search rules in
    let none : behind ≡ [] = nil_from_length behind (eqb-true (length behind) 0 (sym c.is_empty.ensures ∙ c.if-is_empty.true)) in
    IfOk-weaker c.write_comment_behind.result _ _
    (λ last made role ts trees s holds stands. (
      remark_written writer (seen writer.style.now) ts writer.tree.now.nodes c.args.before c.args.want slot at behind s place.quoted role place.flat c.args.strip.now c.write_comment_behind.new.strip last
          leads none c.in-None-None-None.is-0 c.in-None-None-None.is-1 c.in-None-None-None.is-2 stands (λ u unfolds. made Free ts trees u holds unfolds),
      λ led. absurd (led.1 c.in-None-None-None.is-1),
    ))
    c.write_comment_behind.ensures
