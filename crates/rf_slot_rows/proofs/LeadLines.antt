-- Slots that are comments alone are laid out comment by comment.
use Rattle.std.proofs.Common.{◌≡◌, ℕ, ◌+◌, ◌<◌, false, Option, None, Some, List, [], ◌∷◌, ◌++◌, length, drop, slice_index_or, append_assoc, append-nil, add-one, refl, sym, ap, ap₂, ◌∙◌, subst, arith}
use Rattle.std.proofs.lemmas.Option.{slice_get-get_or}
use Rattle.rf_base_document.specs.declared.directions.Dir.{Dir}
use Rattle.rf_base_document.specs.Document.{Doc, Align}
use Rattle.rf_base_document.specs.Render.{Piece}
use Rattle.rf_base_document.specs.Sequence.{seq}
use Rattle.rf_base_grammar.specs.Token.{Token}
use Rattle.rf_base_style.specs.Table.{StyleView}
use Rattle.rf_base_tree.specs.declared.separators.Want.TheVariants as want
use Rattle.rf_base_tree.specs.Trees.{Tree, Forest}
use Rattle.rf_base_tree.specs.Slots.{Entry}
use Rattle.rf_base_tree.specs.Slots as definition
use Rattle.rf_base_tree.specs.Cut.{slot}
use Rattle.rf_base_file.specs.Rows.{Step, step, row_docs, steps_wanting, slot_steps}
use Rattle.rf_base_file.specs.FileDocument.{style_doc, top_slot}
use Rattle.rf_style.specs.StyleOf.{seen}
use Rattle.rf_tree.specs.Kept.{IsTreeOf}
use Rattle.rf_tree.specs.Nodes.{UnfoldsTo}
use Rattle.rf_tree.specs.Slots.{NodesStand, NodeStands, SlotStands}
use Rattle.rf_tree.specs.declared.slotting.Slot.{Slot}
use Rattle.rf_tree.specs.declared.nodes.At.{At}
use Rattle.rf_tree.specs.Told.{Node}
use Rattle.rf_tree.specs.declared.trees.Tree.{Tree as KeptTree}
use Rattle.rf_walk.specs.declared.walking.Frame.{Frame}
use Rattle.rf_walk.specs.Papers.{EndsAt}
use Rattle.rf_walk.specs.Walked.{CanGoOn}
use Rattle.rf_walk.proofs.Ends.{RootLaidOut, root_ends, begins}
use Rattle.rf_ways.specs.Steps.{last_behind, docs_behind}
use Rattle.rf_ways.specs.declared.places.Place.{Place}
use Rattle.rf_ways.proofs.NodeParts.{EntryAt, entry_at, entries_length, leads_same}
use Rattle.rf_ways.proofs.RowSteps.{docs_behind-append, docs_behind-none}
use Rattle.rf_rows.specs.declared.laying.Spot.{Spot}
use Rattle.rf_rows.specs.declared.pieces.Fill.{Fill}
use Rattle.rf_rows.specs.declared.pieces.Fill.TheVariants as fill
use Rattle.rf_rows.specs.declared.rows.Rows.{Rows}
use Rattle.rf_rows.specs.Laying.{framed, frames_of}
use Rattle.rf_rows.specs.Rows.{stacked}
use Rattle.rf_rows.proofs.Frames.{same, GoesOn, frames_append, aligned_docs_on}
use Rattle.rf_slot_rows.specs.declared.context.Context.{Context}
use Rattle.rf_slot_rows.specs.Leads.{HasLeadsAlone, line_docs, lines_docs}
use Rattle.rf_ways.specs.Nodes.{node_in}
use Rattle.rf_slot_rows.specs.Nodes.{nodes_in, BehindPut, place_of_tops}
use Rattle.rf_rows.specs.Puts.{Puts}
use Rattle.rf_slot_rows.proofs.Slotting.{alike_docs, slot_alike, steps_written_for}

-- the entries from one on as steps
abbrev pub lines_from : Context → Place → List Token → List (Entry Tree) → ℕ → List Step
lines_from context place ts es i =
    steps_wanting want.Line (nodes_in (seen context.style.now) ts place.quoted place.role (drop i es))

-- what was put on an empty stack stands there alone
put_alone : (old new : Rows) (ds : List Doc) (f : Fill) → ((g : Fill) → stacked old g ≡ []) → Puts old new ds → stacked new f ≡ ds
put_alone old new ds f empty put = put.docs f ∙ ap (λ (l : List Doc). l ++ ds) (empty f)

-- the next entry, as a loop reads its node
abbrev pub next_entry : (context : Context) (ats : List At) (ts : List Token) (es : List (Entry Tree)) (i : ℕ) (other : At)
    → NodesStand ts context.tree.now.nodes ats es → i < length ats →
    EntryAt ts context.tree.now.nodes (slice_index_or ats i other) es i
next_entry context ats ts es i other stand less =
    entry_at ts context.tree.now.nodes ats es i (slice_index_or ats i other) stand (slice_get-get_or ats i other less)

-- the next of steps in a row
step_on : {P : Type 0} (holds : P → P → List Piece → ℕ → Type 0) {old paper : P} (spot : Spot) {fs : List (Frame Doc)}
    {cs : List Dir} (ts : List Token) (last end : Option ℕ) (s : Step) (rest : List Step) {steps : List Step}
    {docs : List Doc} → steps ≡ s ∷ rest → docs ≡ docs_behind ts last (s ∷ []) → end ≡ last_behind last (s ∷ []) →
    GoesOn holds old paper fs cs (λ o. o) (frames_of spot (docs_behind ts last steps)) cs →
    GoesOn holds old paper fs cs (λ o. o ++ frames_of spot (docs_behind ts end rest)) (frames_of spot docs) cs
step_on {P} holds {old} {paper} spot {fs} {cs} ts last end s rest {steps} {docs} is put last_is start = record {
  on = λ blank others e can.
      subst (λ (l : List (Frame Doc)). CanGoOn (holds blank paper) same l cs e) (frames others) (start.on blank others e can);
}
  where
    split : docs_behind ts last steps ≡ docs ++ docs_behind ts end rest
    split =
        ap (docs_behind ts last) is ∙ docs_behind-append ts last (s ∷ []) rest
        ∙ ap₂ (λ (xs : List Doc) (l : Option ℕ). xs ++ docs_behind ts l rest) (sym put) (sym last_is)

    frames : (others : List (Frame Doc)) → others ++ frames_of spot (docs_behind ts last steps)
        ≡ (others ++ frames_of spot (docs_behind ts end rest)) ++ frames_of spot docs
    frames others =
        ap (λ (l : List Doc). others ++ frames_of spot l) split
        ∙ ap (λ (l : List (Frame Doc)). others ++ l) (frames_append spot docs (docs_behind ts end rest))
        ∙ sym (append_assoc others (frames_of spot (docs_behind ts end rest)) (frames_of spot docs))

-- the next of nodes, as a loop reads it
pub node_on : {P : Type 0} (holds : P → P → List Piece → ℕ → Type 0) {old paper : P} (spot : Spot) (context : Context)
    (ats : List At) (place : Place) (ts : List Token) (es : List (Entry Tree)) (i : ℕ) (other : At) (last : Option ℕ)
    {end : ℕ} (stand : NodesStand ts context.tree.now.nodes ats es) (less : i < length ats) →
    end ≡ (node_in (seen context.style.now) ts place.quoted place.role (next_entry context ats ts es i other stand less).entry.what).last →
    GoesOn holds old paper (frames_of spot (lines_docs place (seen context.style.now) ts es)) [] (λ o. o)
    (frames_of spot (docs_behind ts last (lines_from context place ts es i))) [] →
    GoesOn holds old paper (frames_of spot (lines_docs place (seen context.style.now) ts es)) []
    (λ o. o ++ frames_of spot (docs_behind ts (Some end) (lines_from context place ts es (i + 1))))
    (frames_of spot (line_docs place (seen context.style.now) ts last (next_entry context ats ts es i other stand less).entry.what)) []
unfolding last_behind
node_on holds spot context ats place ts es i other last {end} stand less ends start =
    let style = seen context.style.now in
    let e = next_entry context ats ts es i other stand less in
    let next = step want.Line (node_in style ts place.quoted place.role e.entry.what) in
    let left : drop i es ≡ e.entry ∷ drop (i + 1) es = e.dropped ∙ ap (λ (n : ℕ). e.entry ∷ drop n es) (sym (add-one i)) in
    step_on holds spot ts last (Some end) next (lines_from context place ts es (i + 1))
    (ap (λ (xs : List (Entry Tree)). steps_wanting want.Line (nodes_in style ts place.quoted place.role xs)) left)
    refl (ap Some ends) start

-- what was put on an empty stack for a node behind an item
pub put_docs : (context : Context) (at : At) (place : Place) (before : Option ℕ) (cleared new : Rows) (end : ℕ)
    (ts : List Token) (trees : Forest) (t : Tree) → ((f : Fill) → stacked cleared f ≡ []) →
    BehindPut context at place want.Line before cleared new end → IsTreeOf context.tree.now ts trees →
    UnfoldsTo ts context.tree.now.nodes at.0 t →
    stacked new fill.Space ≡ line_docs place (seen context.style.now) ts before t
put_docs context at place before cleared new end ts trees t empty put tree unfolds =
    put_alone cleared new (line_docs place (seen context.style.now) ts before t) fill.Space empty (put ts trees t tree unfolds).docs

-- and its last item
pub put_last : (context : Context) (at : At) (place : Place) (before : Option ℕ) (cleared new : Rows) (end : ℕ)
    (ts : List Token) (trees : Forest) (t : Tree) → BehindPut context at place want.Line before cleared new end →
    IsTreeOf context.tree.now ts trees → UnfoldsTo ts context.tree.now.nodes at.0 t →
    end ≡ (node_in (seen context.style.now) ts place.quoted place.role t).last
unfolding last_behind
put_last context at place before cleared new end ts trees t put tree unfolds =
    let is : Some end ≡ Some (node_in (seen context.style.now) ts place.quoted place.role t).last = (put ts trees t tree unfolds).last_is in cc

-- where there is no node there is no entry
none_stands : (ts : List Token) (nodes : List Node) {at : Option At} (e : Option (Entry Tree)) → at ≡ None →
    NodeStands ts nodes at e → e ≡ None
none_stands ts nodes e none stands = by_entry e (subst (λ (o : Option At). NodeStands ts nodes o e) none stands) where
  by_entry : (e : Option (Entry Tree)) → NodeStands ts nodes None e → e ≡ None
  by_entry None h = refl
  by_entry (Some e) h = absurd h

-- a slot of comments alone is these, aligned
alone_doc : (style : StyleView) (ts : List Token) (tree : KeptTree) (es : List (Entry Tree)) → 0 < length es →
    style_doc style ts (slot es None None None) ≡ Align (seq (lines_docs (place_of_tops tree) style ts es))
unfolding style_doc
alone_doc style ts tree [] some = absurd (omega (arith, some))
alone_doc style ts tree (x ∷ es) some =
    let s = top_slot style ts (slot (x ∷ es) None None None) in
    let written : row_docs ts (slot_steps s) ≡ docs_behind ts None (steps_written_for s) =
    sym (docs_behind-none ts (steps_written_for s) ∙ alike_docs ts (steps_written_for s) (slot_steps s) (slot_alike s)) in
    ap (λ (ds : List Doc). Align (seq ds))
    (written ∙ ap (docs_behind ts None) (append-nil _ ∙ ap (steps_wanting want.Line) (leads_same style ts false (x ∷ es))))

-- so is the document of each slot that has comments alone
pub leads_doc : (style : StyleView) (ts : List Token) (tree : KeptTree) (kept : Slot) (s : definition.Slot Tree)
    {place : Place} → place ≡ place_of_tops tree → HasLeadsAlone kept → SlotStands ts tree.nodes kept s →
    style_doc style ts s ≡ Align (seq (lines_docs place style ts s.leads))
leads_doc style ts tree kept s {place} at alone stands =
    let nodes = tree.nodes in
    let count = entries_length ts nodes kept.leads.items s.leads stands.leads in
    let here : s ≡ slot s.leads None None None =
    ap (λ (k : Option (Entry Tree)). slot s.leads k s.datum s.trailing) (none_stands ts nodes s.key alone.key stands.key)
    ∙ ap (λ (d : Option (Entry Tree)). slot s.leads None d s.trailing) (none_stands ts nodes s.datum alone.datum stands.datum)
    ∙ ap (λ (t : Option (Entry Tree)). slot s.leads None None t) (none_stands ts nodes s.trailing alone.trailing stands.trailing) in
    ap (style_doc style ts) here ∙ alone_doc style ts tree s.leads (omega (arith, count, alone.some))
    ∙ ap (λ (p : Place). Align (seq (lines_docs p style ts s.leads))) (sym at)

-- some entries are some documents
some_lines : (style : StyleView) (ts : List Token) (place : Place) (es : List (Entry Tree)) → 0 < length es →
    0 < length (lines_docs place style ts es)
unfolding docs_behind
some_lines style ts place [] some = absurd (omega (arith, some))
some_lines style ts place (x ∷ es) some = omega arith

-- a walk over a slot of comments alone begins with these
pub slot_begins : {P : Type 0} (holds : P → P → List Piece → ℕ → Type 0) (paper : P) (style : StyleView) (ts : List Token)
    (tree : KeptTree) (kept : Slot) (s : definition.Slot Tree) {place : Place} (spot : Spot) → place ≡ place_of_tops tree →
    HasLeadsAlone kept → SlotStands ts tree.nodes kept s → EndsAt holds paper spot.indentation →
    spot.flat ≡ false → holds paper paper [] 0 → (given : RootLaidOut (style_doc style ts s) []) →
    CanGoOn (holds paper paper) same ([] ++ frames_of spot (lines_docs place style ts s.leads)) []
    (root_ends (style_doc style ts s) [] given).0
slot_begins holds paper style ts tree kept s {place} spot is alone stands at flat blank given =
    let d = style_doc style ts s in
    let docs = lines_docs place style ts s.leads in
    let top : Spot = record { flat = false; indentation = 0 } in
    let all = root_ends d [] given in
    let count = entries_length ts tree.nodes kept.leads.items s.leads stands.leads in
    let some = some_lines style ts place s.leads (omega (arith, count, alone.some)) in
    let whole = begins (holds paper paper) same d ([] ++ framed top d ∷ []) (framed top d) [] all.0 refl refl refl refl blank all.1 in
    (aligned_docs_on holds paper {spot = top} docs (leads_doc style ts tree kept s is alone stands) some at flat).on paper [] all.0 whole
