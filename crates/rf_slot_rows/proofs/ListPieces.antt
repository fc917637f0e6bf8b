-- What is put on the stack for lists: their slots, one behind another.
use Rattle.std.proofs.Common.{◌≡◌, ℕ, zero, suc, ◌+◌, ◌≤◌, Bool, Some, List, [], ◌∷◌, ◌++◌, length, take, drop, slice_get, refl, sym, ap, ap₂, ◌∙◌, subst, append_assoc, append-nil, length-append, arith}
use Rattle.std.proofs.lemmas.List.{take-append-drop}
use Rattle.rf_base_document.specs.Document.{Doc, Align}
use Rattle.rf_base_document.specs.Sequence.{seq}
use Rattle.rf_base_grammar.specs.Token.{Token}
use Rattle.rf_base_style.specs.Table.{StyleView}
use Rattle.rf_base_style.specs.declared.rules.Charges.{Charges}
use Rattle.rf_base_tree.specs.declared.separators.Want.TheVariants as want
use Rattle.rf_base_tree.specs.Trees.{Tree, Listed, Forest}
use Rattle.rf_base_tree.specs.Slots.{entries_of}
use Rattle.rf_base_tree.specs.Slots as definition
use Rattle.rf_base_file.specs.declared.shapes.Role.{Role}
use Rattle.rf_base_file.specs.declared.shapes.Roles.{Roles}
use Rattle.rf_base_file.specs.declared.shapes.Shape.{Shape}
use Rattle.rf_base_file.specs.declared.shapes.Way.{Way}
use Rattle.rf_base_file.specs.Rows.{Part, Step, gap_docs, steps_docs, steps_last, steps_wanting, slot_part}
use Rattle.rf_base_file.specs.Shapes.{Slots, shape_doc}
use Rattle.rf_base_file.specs.Ways.{first_role, later_roles, slots_in}
use Rattle.rf_base_file.specs.FileDocument.{body_docs, tree_piece}
use Rattle.rf_base_file.proofs.FileParagraphs.{last-append}
use Rattle.rf_base_lines.proofs.SpelledRows.{steps_append}
use Rattle.rf_tree.specs.Slots.{NodeSlot, NodeSlotStands, NodeSlotsStand, NodeSlotsBelow}
use Rattle.rf_tree.specs.Told.{Node}
use Rattle.rf_rows.specs.declared.pieces.Fill.{Fill}
use Rattle.rf_rows.specs.declared.pieces.Fill.TheVariants as fill
use Rattle.rf_rows.specs.declared.rows.Rows.{Rows}
use Rattle.rf_rows.specs.Layouts.{cell_doc}
use Rattle.rf_ways.specs.declared.places.Brackets.{Brackets}
use Rattle.rf_slot_rows.specs.declared.layouts.Places.{Places}
use Rattle.rf_rows.specs.Puts.{Fills, Puts, IsHigh}
use Rattle.rf_slot_rows.specs.Bodies.{want_of, free_steps, free_inner, first_docs, second_gap, headers_docs, more_headers, marks_at, layouts_of, roles_behind}
use Rattle.rf_ways.specs.Nodes.{node_in, slot_of, parts_of}
use Rattle.rf_slot_rows.specs.Nodes.{PartPut, slots_behind}
use Rattle.rf_slot_rows.proofs.Putting.{puts_none, fills_both, fills_same, higher, height_is}
use Rattle.rf_slot_rows.proofs.ShapeRows.{body_pieces, places_of, last_same, wanting-append, bodies_docs, split_is, shape_is}

pub list_last : (style : StyleView) (ts : List Token) (opener closer : ℕ) (f : Forest) (quoted : Bool) (role : Role) (t : Tree) (old new : Rows) → t ≡ Listed opener f closer →
    Puts old new ((node_in style ts quoted role (Listed opener f closer)).doc ∷ []) → PartPut (node_in style ts quoted role t) old new closer
unfolding tree_piece
list_last style ts opener closer f quoted role t old new is put =
    subst (λ (u : Tree). PartPut (node_in style ts quoted role u) old new closer) (sym is) (refl, put)

-- the roles of slots behind others
pub roles_more : (n : ℕ) (roles : Roles) → later_roles (roles_behind n roles) ≡ roles_behind (suc n) roles
unfolding roles_behind
roles_more zero roles = refl
roles_more (suc n) roles = roles_more n (later_roles roles)

pub parts-append : (style : StyleView) (ts : List Token) (quoted : Bool) (roles : Roles) (a b : List (definition.Slot Tree)) →
    parts_of style ts quoted roles (a ++ b) ≡ parts_of style ts quoted roles a ++ parts_of style ts quoted (roles_behind (length a) roles) b
unfolding roles_behind slots_in
parts-append style ts quoted roles [] b = refl
parts-append style ts quoted roles (s ∷ a) b =
    ap (λ (ps : List Part). slot_part ts (slot_of style ts quoted (first_role roles) s) ∷ ps) (parts-append style ts quoted (later_roles roles) a b)

pub parts_take : (style : StyleView) (ts : List Token) (quoted : Bool) (n : ℕ) (roles : Roles) (ss : List (definition.Slot Tree)) →
    parts_of style ts quoted roles (take n ss) ≡ take n (parts_of style ts quoted roles ss)
unfolding slots_in
parts_take style ts quoted zero roles ss = refl
parts_take style ts quoted (suc n) roles [] = refl
parts_take style ts quoted (suc n) roles (s ∷ ss) =
    ap (λ (ps : List Part). slot_part ts (slot_of style ts quoted (first_role roles) s) ∷ ps) (parts_take style ts quoted n (later_roles roles) ss)

pub parts_drop : (style : StyleView) (ts : List Token) (quoted : Bool) (n : ℕ) (roles : Roles) (ss : List (definition.Slot Tree)) →
    parts_of style ts quoted (roles_behind (length (take n ss)) roles) (drop n ss) ≡ drop n (parts_of style ts quoted roles ss)
unfolding slots_in roles_behind
parts_drop style ts quoted zero roles ss = refl
parts_drop style ts quoted (suc n) roles [] = refl
parts_drop style ts quoted (suc n) roles (s ∷ ss) = parts_drop style ts quoted n (later_roles roles) ss

-- slots that are cut stand for what is cut
pub stand_take : (ts : List Token) (nodes : List Node) (n : ℕ) (kept : List NodeSlot) (ss : List (definition.Slot Tree)) → NodeSlotsStand ts nodes kept ss → NodeSlotsStand ts nodes (take n kept) (take n ss)
stand_take ts nodes zero kept ss h = tt
stand_take ts nodes (suc n) [] [] h = tt
stand_take ts nodes (suc n) [] (s ∷ ss) h = absurd h
stand_take ts nodes (suc n) (k ∷ kept) [] h = absurd h
stand_take ts nodes (suc n) (k ∷ kept) (s ∷ ss) h = (h.0, stand_take ts nodes n kept ss h.1)

pub stand_drop : (ts : List Token) (nodes : List Node) (n : ℕ) (kept : List NodeSlot) (ss : List (definition.Slot Tree)) → NodeSlotsStand ts nodes kept ss → NodeSlotsStand ts nodes (drop n kept) (drop n ss)
stand_drop ts nodes zero kept ss h = h
stand_drop ts nodes (suc n) [] [] h = tt
stand_drop ts nodes (suc n) [] (s ∷ ss) h = absurd h
stand_drop ts nodes (suc n) (k ∷ kept) [] h = absurd h
stand_drop ts nodes (suc n) (k ∷ kept) (s ∷ ss) h = stand_drop ts nodes n kept ss h.1

pub below_drop : (b n : ℕ) (kept : List NodeSlot) → NodeSlotsBelow b kept → NodeSlotsBelow b (drop n kept)
below_drop b zero kept h = h
below_drop b (suc n) [] h = tt
below_drop b (suc n) (k ∷ kept) h = below_drop b n kept h.1

-- slots behind others, and the gap before the closer
pub free-append : (ts : List Token) (before : ℕ) (a b : List Part) (f : Fill) →
    free_steps ts before a f ++ free_steps ts (steps_last before (steps_wanting want.Line a)) b f ≡ free_steps ts before (a ++ b) f
free-append ts before a b f =
    ap (λ (k : ℕ). free_steps ts before a f ++ free_steps ts k b f) (last_same want.Line (want_of f) before a)
    ∙ sym (steps_append ts before (steps_wanting (want_of f) a) (steps_wanting (want_of f) b))
    ∙ ap (λ (s : List Step). steps_docs ts before s) (sym (wanting-append (want_of f) a b))

pub last_behind_all : (before : ℕ) (a b : List Part) →
    steps_last (steps_last before (steps_wanting want.Line a)) (steps_wanting want.Line b) ≡ steps_last before (steps_wanting want.Line (a ++ b))
last_behind_all before a b =
    sym (last-append before (steps_wanting want.Line a) (steps_wanting want.Line b))
    ∙ ap (λ (s : List Step). steps_last before s) (sym (wanting-append want.Line a b))

pub closed_inner : (ts : List Token) (before : ℕ) (parts : List Part) (closer : ℕ) (f : Fill) →
    free_steps ts before parts f ++ gap_docs ts (steps_last before (steps_wanting want.Line parts)) closer want.Nothing ≡ free_inner ts before parts closer f
closed_inner ts before parts closer f =
    ap (λ (k : ℕ). free_steps ts before parts f ++ gap_docs ts k closer want.Nothing) (last_same want.Line (want_of f) before parts)

-- all slots behind the second one, cut into headers and bodies, were put
pub others_put : (ts : List Token) (a b c d : Rows) (before mid last closer : ℕ) (all heads bodies : List Part) → heads ++ bodies ≡ all →
    Fills a b (free_steps ts before heads) → mid ≡ steps_last before (steps_wanting want.Line heads) → Fills b c (free_steps ts mid bodies) → last ≡ steps_last mid (steps_wanting want.Line bodies) →
    Puts c d (gap_docs ts last closer want.Nothing) → Fills a d (free_inner ts before all closer)
others_put ts a b c d before mid last closer all heads bodies is first at_mid then at_last gap =
    fills_same a d (λ f. (free_steps ts before heads f ++ free_steps ts mid bodies f) ++ gap_docs ts last closer want.Nothing) (free_inner ts before all closer)
    (λ f. ap₂ (λ (ds : List Doc) (k : ℕ). ds ++ gap_docs ts k closer want.Nothing) (docs f) ends ∙ closed_inner ts before all closer f)
    (fills_both a c d (λ f. free_steps ts before heads f ++ free_steps ts mid bodies f) (λ f. gap_docs ts last closer want.Nothing)
    (fills_both a b c (free_steps ts before heads) (free_steps ts mid bodies) first then) gap)
  where
    docs : (f : Fill) → free_steps ts before heads f ++ free_steps ts mid bodies f ≡ free_steps ts before all f
    docs f =
        ap (λ (k : ℕ). free_steps ts before heads f ++ free_steps ts k bodies f) at_mid ∙ free-append ts before heads bodies f
        ∙ ap (λ (ps : List Part). free_steps ts before ps f) is

    ends : last ≡ steps_last before (steps_wanting want.Line all)
    ends =
        at_last ∙ ap (λ (k : ℕ). steps_last k (steps_wanting want.Line bodies)) at_mid ∙ last_behind_all before heads bodies
        ∙ ap (λ (ps : List Part). steps_last before (steps_wanting want.Line ps)) is

-- the height at which the bodies stand
pub no_body : (ts : List Token) (a d : Rows) (before closer : ℕ) (all heads bodies : List Part) (height : ℕ) → heads ++ bodies ≡ all → bodies ≡ [] → Fills a d (free_inner ts before all closer) → IsHigh d height →
    height ≡ length a.stack.items + length (headers_docs ts before heads bodies closer fill.Newline)
no_body ts a d before closer all heads bodies height is empty put high =
    height_is d height high ∙ higher a d (free_inner ts before all closer) fill.Newline put
    ∙ ap (λ (n : ℕ). length a.stack.items + n)
    (ap (λ (ps : List Part). length (free_inner ts before ps closer fill.Newline)) (sym is ∙ ap (λ (ps : List Part). heads ++ ps) empty ∙ append-nil heads)
    ∙ ap (λ (ps : List Part). length (headers_docs ts before heads ps closer fill.Newline)) (sym empty))

pub some_body : (ts : List Token) (a b : Rows) (before closer : ℕ) (heads bodies : List Part) (height : ℕ) → (bodies ≡ [] → ⊥) → Fills a b (free_steps ts before heads) → IsHigh b height →
    height ≡ length a.stack.items + length (headers_docs ts before heads bodies closer fill.Newline)
some_body ts a b before closer heads [] height some put high = absurd (some refl)
some_body ts a b before closer heads (x ∷ bodies) height some put high =
    height_is b height high ∙ higher a b (free_steps ts before heads) fill.Newline put

-- one slot more
pub record SlotTaken (ts : List Token) (nodes : List Node) (k : NodeSlot) (ss : List (definition.Slot Tree)) (i : ℕ) : Type 0 where
  pub slot : definition.Slot Tree
  pub taken : take (i + 1) ss ≡ take i ss ++ slot ∷ []
  pub count : length (take i ss) ≡ i
  pub stands : NodeSlotStands ts nodes k slot

pub slot_taken : (ts : List Token) (nodes : List Node) (kept : List NodeSlot) (ss : List (definition.Slot Tree)) (i : ℕ) (k : NodeSlot) → NodeSlotsStand ts nodes kept ss → slice_get kept i ≡ Some k → SlotTaken ts nodes k ss i
slot_taken ts nodes [] ss i k h e = cc
slot_taken ts nodes (x ∷ kept) [] i k h e = absurd h
slot_taken ts nodes (x ∷ kept) (s ∷ ss) zero k h e =
    let same : x ≡ k = cc in record { slot = s; taken = refl; count = refl; stands = subst (λ (y : NodeSlot). NodeSlotStands ts nodes y s) same h.0 }
slot_taken ts nodes (x ∷ kept) (s ∷ ss) (suc i) k h e =
    let rest = slot_taken ts nodes kept ss i k h.1 e in
    record {
      slot = rest.slot;
      taken = (let more : suc i + 1 ≡ suc (i + 1) = omega arith in ap (λ (n : ℕ). take n (s ∷ ss)) more ∙ ap (λ (xs : List (definition.Slot Tree)). s ∷ xs) rest.taken);
      count = ap suc rest.count;
      stands = rest.stands;
    }

pub run_more : (style : StyleView) (ts : List Token) (quoted : Bool) (roles now : Roles) (role : Role) (ss : List (definition.Slot Tree)) (i : ℕ) (s : definition.Slot Tree) → take (i + 1) ss ≡ take i ss ++ s ∷ [] → length (take i ss) ≡ i →
    now ≡ roles_behind i roles → role ≡ first_role now →
    parts_of style ts quoted roles (take i ss) ++ slot_part ts (slot_of style ts quoted role s) ∷ [] ≡ parts_of style ts quoted roles (take (i + 1) ss)
unfolding slots_in
run_more style ts quoted roles now role ss i s taken count are is =
    ap (λ (r : Role). parts_of style ts quoted roles (take i ss) ++ slot_part ts (slot_of style ts quoted r s) ∷ []) (is ∙ ap first_role (are ∙ ap (λ (n : ℕ). roles_behind n roles) (sym count)))
    ∙ sym (parts-append style ts quoted roles (take i ss) (s ∷ []))
    ∙ ap (λ (xs : List (definition.Slot Tree)). parts_of style ts quoted roles xs) (sym taken)

pub last_more : (before last : ℕ) (parts : List Part) (p : Part) (all : List Part) → last ≡ p.last → parts ++ p ∷ [] ≡ all → last ≡ steps_last before (steps_wanting want.Line all)
unfolding steps_last
last_more before last parts p all is more =
    is ∙ last_behind_all before parts (p ∷ []) ∙ ap (λ (ps : List Part). steps_last before (steps_wanting want.Line ps)) more

pub free_more : (ts : List Token) (a b c : Rows) (before mid : ℕ) (parts : List Part) (p : Part) (all : List Part) → Fills a b (free_steps ts before parts) → mid ≡ steps_last before (steps_wanting want.Line parts) →
    Fills b c (free_steps ts mid (p ∷ [])) → parts ++ p ∷ [] ≡ all → Fills a c (free_steps ts before all)
free_more ts a b c before mid parts p all first is then more =
    fills_same a c (λ f. free_steps ts before parts f ++ free_steps ts mid (p ∷ []) f) (free_steps ts before all)
    (λ f. ap (λ (k : ℕ). free_steps ts before parts f ++ free_steps ts k (p ∷ []) f) is ∙ free-append ts before parts (p ∷ []) f ∙ ap (λ (ps : List Part). free_steps ts before ps f) more)
    (fills_both a b c (free_steps ts before parts) (free_steps ts mid (p ∷ [])) first then)

-- a slot behind the opener, and one behind a free gap
pub first_put : (ts : List Token) (a b c : Rows) (opener next : ℕ) (p : Part) (last : ℕ) → next ≡ p.first → Puts a b (gap_docs ts opener next want.Nothing) → PartPut p b c last →
    (last ≡ p.last) × Puts a c (first_docs ts opener p)
unfolding steps_docs
first_put ts a b c opener next p last first gap put = (
  put.0,
  fills_both a b c (λ f. gap_docs ts opener p.first want.Nothing) (λ f. p.doc ∷ [])
      (subst (λ (n : ℕ). Puts a b (gap_docs ts opener n want.Nothing)) first gap) put.1,
)

pub free_put : (ts : List Token) (a b c : Rows) (before next : ℕ) (p : Part) (last : ℕ) → next ≡ p.first → Fills a b (second_gap ts before next) → PartPut p b c last →
    (last ≡ p.last) × Fills a c (free_steps ts before (p ∷ []))
unfolding steps_docs
free_put ts a b c before next p last first gap put = (
  put.0,
  fills_both a b c (second_gap ts before p.first) (λ f. p.doc ∷ [])
      (subst (λ (n : ℕ). Fills a b (second_gap ts before n)) first gap) put.1,
)

-- a list of one slot
pub one_body : (ts : List Token) (w : Way) (list : Brackets) (p : Part) (last : ℕ) → last ≡ p.last →
    Align (seq (first_docs ts list.opener p ++ gap_docs ts last list.closer want.Nothing)) ∷ [] ≡ body_docs ts w list.opener (p ∷ []) list.closer
unfolding steps_last
one_body ts w list p last is =
    ap (λ (k : ℕ). Align (seq (first_docs ts list.opener p ++ gap_docs ts k list.closer want.Nothing)) ∷ []) is

-- a list of two slots or more
pub list_pieces : (ts : List Token) (base a b c d : Rows) (l : Slots) (before next last : ℕ) → Puts base a (first_docs ts l.opener l.first) → before ≡ l.first.last → next ≡ l.second.first →
    Fills a b (second_gap ts before next) → PartPut l.second b c last → Fills c d (free_inner ts last l.others l.closer) → Fills base d (body_pieces ts l)
list_pieces ts base a b c d l before next last first at_first at_second gap second others =
    fills_same base d (λ f. ((first_docs ts l.opener l.first ++ second_gap ts before next f) ++ l.second.doc ∷ []) ++ free_inner ts last l.others l.closer f) (body_pieces ts l)
    (λ f.
    ap₂ (λ (m n : ℕ). ((first_docs ts l.opener l.first ++ second_gap ts m n f) ++ l.second.doc ∷ []) ++ free_inner ts last l.others l.closer f) at_first at_second
    ∙ ap (λ (k : ℕ). ((first_docs ts l.opener l.first ++ second_gap ts l.first.last l.second.first f) ++ l.second.doc ∷ []) ++ free_inner ts k l.others l.closer f) second.0
    ∙ append_assoc (first_docs ts l.opener l.first ++ second_gap ts l.first.last l.second.first f) (l.second.doc ∷ []) (free_inner ts l.second.last l.others l.closer f)
    ∙ append_assoc (first_docs ts l.opener l.first) (second_gap ts l.first.last l.second.first f) (l.second.doc ∷ free_inner ts l.second.last l.others l.closer f))
    (fills_both base c d (λ f. (first_docs ts l.opener l.first ++ second_gap ts before next f) ++ l.second.doc ∷ []) (free_inner ts last l.others l.closer)
    (fills_both base b c (λ f. first_docs ts l.opener l.first ++ second_gap ts before next f) (λ f. l.second.doc ∷ [])
    (fills_both base a b (λ f. first_docs ts l.opener l.first) (second_gap ts before next) first gap) second.1) others)

-- where its slots stand
abbrev pub places : ℕ → ℕ → ℕ → Places
places first second bodies = record { first = first; second = second; bodies = bodies }

same_places : (a b c x y z : ℕ) → a ≡ x → b ≡ y → c ≡ z → places a b c ≡ places x y z
same_places a b c x y z p q r = ap₂ (λ (m n : ℕ). places m n c) p q ∙ ap (λ (k : ℕ). places x y k) r

pub places_are : (ts : List Token) (base a b c : Rows) (l : Slots) (more height first second bodies before next last : ℕ) → IsHigh base height → Puts base a (first_docs ts l.opener l.first) → IsHigh a first →
    before ≡ l.first.last → next ≡ l.second.first → Fills a b (second_gap ts before next) → IsHigh b second → PartPut l.second b c last →
    bodies ≡ length c.stack.items + length (headers_docs ts last (take more l.others) (drop more l.others) l.closer fill.Newline) → places first second bodies ≡ places_of ts l more height
places_are ts base a b c l more height first second bodies before next last high firsts at_first from to gap at_second part at_bodies =
    let one : first ≡ height + length (first_docs ts l.opener l.first) =
    height_is a first at_first ∙ higher base a (λ f. first_docs ts l.opener l.first) fill.Newline firsts ∙ ap (λ (n : ℕ). n + length (first_docs ts l.opener l.first)) (sym (height_is base height high)) in
    let gaps : Fills a b (second_gap ts l.first.last l.second.first) =
    fills_same a b (second_gap ts before next) (second_gap ts l.first.last l.second.first) (λ f. ap₂ (λ (m n : ℕ). second_gap ts m n f) from to) gap in
    let two : second ≡ first + length (second_gap ts l.first.last l.second.first fill.Newline) =
    height_is b second at_second ∙ higher a b (second_gap ts l.first.last l.second.first) fill.Newline gaps
    ∙ ap (λ (n : ℕ). n + length (second_gap ts l.first.last l.second.first fill.Newline)) (sym (height_is a first at_first)) in
    let three : length c.stack.items ≡ second + 1 =
    higher b c (λ f. l.second.doc ∷ []) fill.Newline part.1 ∙ ap (λ (n : ℕ). n + 1) (sym (height_is b second at_second)) in
    let heads : bodies ≡ second + 1 + length (headers_docs ts l.second.last (take more l.others) (drop more l.others) l.closer fill.Newline) =
    at_bodies ∙ ap₂ (λ (m k : ℕ). m + length (headers_docs ts k (take more l.others) (drop more l.others) l.closer fill.Newline)) three part.0 in
    same_places first second bodies _ _ _ one (two ∙ ap (λ (n : ℕ). n + length (second_gap ts l.first.last l.second.first fill.Newline)) one)
    (heads ∙ ap (λ (n : ℕ). n + 1 + length (headers_docs ts l.second.last (take more l.others) (drop more l.others) l.closer fill.Newline))
    (two ∙ ap (λ (n : ℕ). n + length (second_gap ts l.first.last l.second.first fill.Newline)) one))

-- the bodies stand no higher than all slots
pub bodies_within : (ts : List Token) (before : ℕ) (parts : List Part) (more closer : ℕ) (c d : Rows) (bodies : ℕ) → Fills c d (free_inner ts before parts closer) →
    bodies ≡ length c.stack.items + length (headers_docs ts before (take more parts) (drop more parts) closer fill.Newline) → bodies ≤ length d.stack.items
bodies_within ts before parts more closer c d bodies put at =
    let whole : length (free_inner ts before parts closer fill.Newline) ≡ length (headers_docs ts before (take more parts) (drop more parts) closer fill.Newline) + length (bodies_docs ts before (take more parts) (drop more parts) closer fill.Newline) =
    ap (λ (ps : List Part). length (free_inner ts before ps closer fill.Newline)) (sym (take-append-drop more parts))
    ∙ ap length (split_is ts before (take more parts) (drop more parts) closer fill.Newline)
    ∙ length-append (headers_docs ts before (take more parts) (drop more parts) closer fill.Newline) (bodies_docs ts before (take more parts) (drop more parts) closer fill.Newline) in
    omega (arith, higher c d (free_inner ts before parts closer) fill.Newline put, at, whole)

-- the layouts of the list that was put
pub list_put : (ts : List Token) (base new : Rows) (l : Slots) (s : Shape) (charges : Charges) (height : ℕ) (p : Places) → p ≡ places_of ts l (more_headers s) height →
    Fills base new (λ f. cell_doc (marks_at s height p) (length (body_pieces ts l fill.Newline)) (body_pieces ts l) (layouts_of s charges) ∷ []) → Puts base new (shape_doc s charges ts l ∷ [])
list_put ts base new l s charges height p is put =
    fills_same base new (λ f. cell_doc (marks_at s height p) (length (body_pieces ts l fill.Newline)) (body_pieces ts l) (layouts_of s charges) ∷ []) (λ f. shape_doc s charges ts l ∷ [])
    (λ f. ap (λ (d : Doc). d ∷ []) (ap (λ (q : Places). cell_doc (marks_at s height q) (length (body_pieces ts l fill.Newline)) (body_pieces ts l) (layouts_of s charges)) is ∙ shape_is ts l s charges height _ refl)) put

-- as many parts as slots
parts_count : (style : StyleView) (ts : List Token) (quoted : Bool) (roles : Roles) (ss : List (definition.Slot Tree)) → length (parts_of style ts quoted roles ss) ≡ length ss
unfolding slots_in
parts_count style ts quoted roles [] = refl
parts_count style ts quoted roles (s ∷ ss) = ap suc (parts_count style ts quoted (later_roles roles) ss)

pub no_parts : (style : StyleView) (ts : List Token) (quoted : Bool) (roles : Roles) (ss : List (definition.Slot Tree)) → ss ≡ [] → parts_of style ts quoted roles ss ≡ []
unfolding slots_in
no_parts style ts quoted roles ss is = ap (λ (xs : List (definition.Slot Tree)). parts_of style ts quoted roles xs) is

pub some_parts : (style : StyleView) (ts : List Token) (quoted : Bool) (roles : Roles) (ss : List (definition.Slot Tree)) (n : ℕ) → n ≡ length ss → (n ≡ 0 → ⊥) → parts_of style ts quoted roles ss ≡ [] → ⊥
some_parts style ts quoted roles ss n size some none = some (omega (arith, size, parts_count style ts quoted roles ss, ap length none))

-- slots behind the second one, cut where the headers end
pub record CutParts (style : StyleView) (ts : List Token) (quoted : Bool) (roles now : Roles) (more : ℕ) (ss : List (definition.Slot Tree)) : Type 0 where
  pub heads : parts_of style ts quoted roles (take more ss) ≡ take more (parts_of style ts quoted roles ss)
  pub bodies : parts_of style ts quoted now (drop more ss) ≡ drop more (parts_of style ts quoted roles ss)
  pub all : parts_of style ts quoted roles (take more ss) ++ parts_of style ts quoted now (drop more ss) ≡ parts_of style ts quoted roles ss

pub cut_parts : (style : StyleView) (ts : List Token) (quoted : Bool) (roles now : Roles) (more : ℕ) (ss : List (definition.Slot Tree)) → now ≡ roles_behind (length (take more ss)) roles → CutParts style ts quoted roles now more ss
cut_parts style ts quoted roles now more ss is =
    let heads = parts_take style ts quoted more roles ss in
    let bodies : parts_of style ts quoted now (drop more ss) ≡ drop more (parts_of style ts quoted roles ss) =
    ap (λ (r : Roles). parts_of style ts quoted r (drop more ss)) is ∙ parts_drop style ts quoted more roles ss in
    record {
      heads = heads;
      bodies = bodies;
      all = ap₂ (λ (a b : List Part). a ++ b) heads bodies ∙ take-append-drop more (parts_of style ts quoted roles ss);
    }

pub at_cut : (ts : List Token) (before closer n height : ℕ) (heads bodies xs ys : List Part) → heads ≡ xs → bodies ≡ ys → height ≡ n + length (headers_docs ts before heads bodies closer fill.Newline) →
    height ≡ n + length (headers_docs ts before xs ys closer fill.Newline)
at_cut ts before closer n height heads bodies xs ys p q is = is ∙ ap₂ (λ (a b : List Part). n + length (headers_docs ts before a b closer fill.Newline)) p q

-- the run so far
pub no_run : (style : StyleView) (ts : List Token) (quoted : Bool) (roles : Roles) (before : ℕ) (ss : List (definition.Slot Tree)) → before ≡ steps_last before (steps_wanting want.Line (parts_of style ts quoted roles (take 0 ss)))
unfolding steps_last slots_in
no_run style ts quoted roles before ss = refl

pub none_run : (style : StyleView) (ts : List Token) (quoted : Bool) (roles : Roles) (before : ℕ) (ss : List (definition.Slot Tree)) (a : Rows) → Fills a a (free_steps ts before (parts_of style ts quoted roles (take 0 ss)))
unfolding steps_docs slots_in
none_run style ts quoted roles before ss a = puts_none a

pub roles_none : (roles : Roles) → roles ≡ roles_behind 0 roles
unfolding roles_behind
roles_none roles = refl

-- the body of a list of these slots
pub none_body : (style : StyleView) (ts : List Token) (quoted : Bool) (w : Way) (list : Brackets) (ss : List (definition.Slot Tree)) → ss ≡ [] → [] ≡ body_docs ts w list.opener (parts_of style ts quoted w.roles ss) list.closer
none_body style ts quoted w list ss is = ap (λ (ps : List Part). body_docs ts w list.opener ps list.closer) (sym (no_parts style ts quoted w.roles ss is))

pub alone_is : (style : StyleView) (ts : List Token) (quoted : Bool) (roles : Roles) (role : Role) (s : definition.Slot Tree) (others ss : List (definition.Slot Tree)) → role ≡ first_role roles → ss ≡ s ∷ others → others ≡ [] →
    slot_part ts (slot_of style ts quoted role s) ∷ [] ≡ parts_of style ts quoted roles ss
unfolding slots_in
alone_is style ts quoted roles role s others ss is all none =
    ap (λ (r : Role). slot_part ts (slot_of style ts quoted r s) ∷ []) is
    ∙ ap (λ (xs : List (definition.Slot Tree)). parts_of style ts quoted roles (s ∷ xs)) (sym none)
    ∙ ap (λ (xs : List (definition.Slot Tree)). parts_of style ts quoted roles xs) (sym all)

pub rest_body : (style : StyleView) (ts : List Token) (quoted : Bool) (w : Way) (role : Role) (list : Brackets) (s t : definition.Slot Tree) (rest others ss : List (definition.Slot Tree)) → role ≡ first_role w.roles → ss ≡ s ∷ rest → rest ≡ t ∷ others →
    shape_doc w.shape w.charges ts (slots_behind style ts list quoted (later_roles w.roles) (slot_part ts (slot_of style ts quoted role s)) t others) ∷ []
    ≡ body_docs ts w list.opener (parts_of style ts quoted w.roles ss) list.closer
unfolding slots_in
rest_body style ts quoted w role list s t rest others ss is all more =
    ap (λ (r : Role). shape_doc w.shape w.charges ts (slots_behind style ts list quoted (later_roles w.roles) (slot_part ts (slot_of style ts quoted r s)) t others) ∷ []) is
    ∙ ap (λ (xs : List (definition.Slot Tree)). body_docs ts w list.opener (parts_of style ts quoted w.roles xs) list.closer) (ap (λ (xs : List (definition.Slot Tree)). s ∷ xs) (sym more) ∙ sym all)
