-- Documents of items that have other numbers among other items.
use Rattle.std.proofs.Common.{◌≡◌, ℕ, ◌-◌, ◌≤◌, leb, if◌then◌else◌, ◌||◌, Bool, true, false, Option, Some, None, List, [], ◌∷◌, ◌++◌, map, take, drop, codes, is_some, refl, sym, ap, ap₂, ◌∙◌, subst}
use Rattle.std.specs.Option.{option_map}
use Rattle.std.proofs.lemmas.List.{map-id, take-map, drop-map}
use Rattle.std.proofs.lemmas.Iterator.Adapters.{option_map_id}
use Rattle.rf_base_document.specs.Document.{Doc, Concat, Nest, Align, Flatten}
use Rattle.rf_base_document.specs.Sequence.{seq}
use Rattle.rf_base_grammar.specs.Reader.{begins}
use Rattle.rf_base_grammar.specs.Token.{Token}
use Rattle.rf_base_style.specs.declared.columns.Columns.TheVariants.{Characters}
use Rattle.rf_base_style.specs.declared.rules.Charges.{Charges}
use Rattle.rf_base_style.specs.Table.{StyleView, Table, head_rule}
use Rattle.rf_base_tree.specs.declared.separators.Want.{Want}
use Rattle.rf_base_tree.specs.declared.separators.Want.TheVariants as want
use Rattle.rf_base_tree.specs.Trees.{Tree, Leaf, Point, Comment, Prefixed, DatumComment, Listed, Forest, Empty, Then, spelling_at, tree_items, forest_items}
use Rattle.rf_base_tree.specs.Slots.{Sort, Entry, Slot, AreSlots, sort_of}
use Rattle.rf_base_tree.specs.Cut.{slot, slots_of}
use Rattle.rf_base_tree.proofs.Cuts.{slots_of_cut, map_entry, map_slot, slots_of_map}
use Rattle.rf_base_file.specs.declared.shapes.Shape.{Shape}
use Rattle.rf_base_file.specs.declared.shapes.Shape.TheVariants.{Application, Hanging, Plain, Body}
use Rattle.rf_base_file.specs.declared.shapes.Role.{Role}
use Rattle.rf_base_file.specs.declared.shapes.Role.TheVariants.{Free, Clause, Bindings}
use Rattle.rf_base_file.specs.declared.shapes.Roles.{Roles}
use Rattle.rf_base_file.specs.declared.shapes.Way.{Way}
use Rattle.rf_base_file.specs.Rows.{Part, part, step, steps_wanting, spelling_doc, mark_doc, gap_docs, Step, steps_docs, steps_last, row_docs, prefixed_doc, whats, lead_steps, datum_steps, slot_steps, aligned_behind, part_of, slot_part, slot_parts, inner_docs}
use Rattle.rf_base_file.specs.Shapes.{Slots, drop_doc, first_then, hung_docs, hang_doc, in_line_doc, column_part, column_docs, in_column_doc, body_want, charged, choice_of, column_layouts, line_layouts, shape_doc}
use Rattle.rf_base_file.specs.Ways.{first_role, later_roles, Piece, part_in, entry_in, role_behind, slot_in, slots_in, word_of, first_word, second_word, one_if_some, data_count, form_way, word_way, way_of, quoted_behind}
use Rattle.rf_base_file.specs.FileDocument.{body_docs, list_doc, is_vector, list_doc_in, atom_at, item_piece, prefixed_piece, list_piece, tree_piece, forest_entries}
use Rattle.rf_base_file.proofs.Firsts.{Later, BehindFirst, later_front, later_back, behind_front, behind_back, later_behind, firsts, step_firsts, entry_firsts, wanting_later, more_later, take_later, drop_later, IsRow, AreRows, slots_rows, slots_later}

-- functions that give the same are the same
pub funext : {A B : Type 0} (f g : A → B) → ((x : A) → f x ≡ g x) → f ≡ g
funext f g h = λ i x. h x i

-- slots whose entries are as they are
pub same_slots : {A : Type 0} (slots : List (Slot A)) → map (map_slot (λ (x : A). x)) slots ≡ slots
same_slots {A = A} [] = refl
same_slots {A = A} (s ∷ slots) =
    let same : map_slot (λ (x : A). x) s ≡ s =
    ap₂ (λ (leads : List (Entry A)) (key : Option (Entry A)). slot leads key
    (option_map (map_entry (λ (x : A). x)) s.datum) (option_map (map_entry (λ (x : A). x)) s.trailing))
    (map-id s.leads) (option_map_id s.key)
    ∙ ap₂ (λ (datum trailing : Option (Entry A)). slot s.leads s.key datum trailing) (option_map_id s.datum)
    (option_map_id s.trailing) in
    ap₂ (λ (x : Slot A) (xs : List (Slot A)). x ∷ xs) same (same_slots slots)

-- a part, a step and a piece of items with other numbers
abbrev pub renamed_part : (ℕ → ℕ) → Part → Part
renamed_part f p = part (f p.first) (f p.last) p.doc

abbrev pub renamed_step : (ℕ → ℕ) → Step → Step
renamed_step f s = step s.want (renamed_part f s.part)

abbrev piece : ℕ → ℕ → Option (List ℕ) → (Bool → Role → Doc) → Piece
piece first last atom d = record { first = first; last = last; atom = atom; doc = d }

abbrev pub renamed_piece : (ℕ → ℕ) → Piece → Piece
renamed_piece f p = piece (f p.first) (f p.last) p.atom p.doc

-- trees of items with other numbers
unfoldable mutual
  pub renamed : (ℕ → ℕ) → Tree → Tree
  renamed f (Leaf item) = Leaf (f item)
  renamed f (Point item) = Point (f item)
  renamed f (Comment item) = Comment (f item)
  renamed f (Prefixed item lead inner) = Prefixed (f item) (all_renamed f lead) (renamed f inner)
  renamed f (DatumComment item lead inner) = DatumComment (f item) (all_renamed f lead) (renamed f inner)
  renamed f (Listed opener entries closer) = Listed (f opener) (all_renamed f entries) (f closer)

  pub all_renamed : (ℕ → ℕ) → Forest → Forest
  all_renamed f Empty = Empty
  all_renamed f (Then tree rest) = Then (renamed f tree) (all_renamed f rest)

-- among the items ws those with other numbers are like the items us: the same stands between them, before those of a
-- number from this least one on, and they are spelled alike, of the same sorts, and atoms alike
pub record Renames (least : ℕ) (f : ℕ → ℕ) (us ws : List Token) : Type 0 where
  pub gaps : (n m : ℕ) (w : Want) → least ≤ m → gap_docs ws (f n) (f m) w ≡ gap_docs us n m w
  pub spellings : (n : ℕ) → spelling_at ws (f n) ≡ spelling_at us n
  pub sorts : (t : Tree) → sort_of ws (renamed f t) ≡ sort_of us t
  pub atoms : (n : ℕ) → atom_at ws (f n) ≡ atom_at us n

-- what stands between such items is the same
pub steps_renamed : (least : ℕ) (f : ℕ → ℕ) (us ws : List Token) → Renames least f us ws → (n : ℕ) (steps : List Step) →
    Later least (step_firsts steps) → steps_docs ws (f n) (map (renamed_step f) steps) ≡ steps_docs us n steps
unfolding steps_docs
steps_renamed least f us ws e n [] h = refl
steps_renamed least f us ws e n (s ∷ steps) h =
    ap₂ (λ (a b : List Doc). a ++ s.part.doc ∷ b) (e.gaps n s.part.first s.want h.0)
    (steps_renamed least f us ws e s.part.last steps h.1)

last_renamed : (f : ℕ → ℕ) (n : ℕ) (steps : List Step) →
    steps_last (f n) (map (renamed_step f) steps) ≡ f (steps_last n steps)
unfolding steps_last
last_renamed f n [] = refl
last_renamed f n (s ∷ steps) = last_renamed f s.part.last steps

more_renamed : (f : ℕ → ℕ) (w : Want) (parts : List Part) (steps : List Step) →
    steps_wanting w (map (renamed_part f) parts) ++ map (renamed_step f) steps
    ≡ map (renamed_step f) (steps_wanting w parts ++ steps)
more_renamed f w [] steps = refl
more_renamed f w (p ∷ parts) steps =
    ap (λ (ss : List Step). step w (renamed_part f p) ∷ ss) (more_renamed f w parts steps)

wanting_renamed : (f : ℕ → ℕ) (w : Want) (parts : List Part) →
    steps_wanting w (map (renamed_part f) parts) ≡ map (renamed_step f) (steps_wanting w parts)
wanting_renamed f w [] = refl
wanting_renamed f w (p ∷ parts) = ap (λ (ss : List Step). step w (renamed_part f p) ∷ ss) (wanting_renamed f w parts)

inner_renamed : (least : ℕ) (f : ℕ → ℕ) (us ws : List Token) → Renames least f us ws → (n : ℕ) (steps : List Step) (closer : ℕ) →
    Later least (step_firsts steps) → least ≤ closer →
    inner_docs ws (f n) (map (renamed_step f) steps) (f closer) ≡ inner_docs us n steps closer
inner_renamed least f us ws e n steps closer h c =
    ap₂ (λ (a b : List Doc). a ++ b) (steps_renamed least f us ws e n steps h)
    (ap (λ (k : ℕ). gap_docs ws k (f closer) want.Nothing) (last_renamed f n steps)
    ∙ e.gaps (steps_last n steps) closer want.Nothing c)

mark_renamed : (least : ℕ) (f : ℕ → ℕ) (us ws : List Token) → Renames least f us ws → (n : ℕ) → mark_doc ws (f n) ≡ mark_doc us n
mark_renamed least f us ws e n = ap (λ (s : List ℕ). spelling_doc Characters s) (e.spellings n)

prefixed_renamed : (least : ℕ) (f : ℕ → ℕ) (us ws : List Token) → Renames least f us ws → (item : ℕ) (lead : List Part) (inner : Part) →
    Later least (firsts lead) → least ≤ inner.first →
    prefixed_doc ws (f item) (map (renamed_part f) lead) (renamed_part f inner) ≡ prefixed_doc us item lead inner
prefixed_renamed least f us ws e item [] inner h c =
    ap₂ (λ (a : Doc) (b : List Doc). Concat a (Align (seq b))) (mark_renamed least f us ws e item)
    (steps_renamed least f us ws e item (step want.Nothing inner ∷ []) (c, tt))
prefixed_renamed least f us ws e item (p ∷ lead) inner h c =
    let steps : List Step = step want.Space inner ∷ [] in
    ap₂ (λ (a : Doc) (b : List Doc). Concat a (Align (seq b))) (mark_renamed least f us ws e item)
    (ap (λ (ss : List Step). steps_docs ws (f item) (step want.Nothing (renamed_part f p) ∷ ss))
    (more_renamed f want.Space lead steps)
    ∙ steps_renamed least f us ws e item (step want.Nothing p ∷ (steps_wanting want.Space lead ++ steps))
    (h.0, more_later least want.Space lead steps h.1 (c, tt)))

-- slots have the steps of such items
whats_renamed : (f : ℕ → ℕ) (entries : List (Entry Part)) →
    whats (map (map_entry (renamed_part f)) entries) ≡ map (renamed_part f) (whats entries)
whats_renamed f [] = refl
whats_renamed f (e ∷ entries) = ap (λ (ps : List Part). renamed_part f e.what ∷ ps) (whats_renamed f entries)

leads_renamed : (f : ℕ → ℕ) (leads : List Part) (rest more : Want → List Step) →
    ((w : Want) → more w ≡ map (renamed_step f) (rest w)) → (w : Want) →
    lead_steps w (map (renamed_part f) leads) more ≡ map (renamed_step f) (lead_steps w leads rest)
leads_renamed f [] rest more h w = h w
leads_renamed f (c ∷ leads) rest more h w =
    ap (λ (ss : List Step). step w (renamed_part f c) ∷ ss)
    (ap (λ (ss : List Step). steps_wanting want.Line (map (renamed_part f) leads) ++ ss) (h want.Line)
    ∙ more_renamed f want.Line leads (rest want.Line))

datum_renamed : (f : ℕ → ℕ) (w : Want) (key datum trailing : Option (Entry Part)) →
    datum_steps w (option_map (map_entry (renamed_part f)) key) (option_map (map_entry (renamed_part f)) datum)
    (option_map (map_entry (renamed_part f)) trailing)
    ≡ map (renamed_step f) (datum_steps w key datum trailing)
datum_renamed f w None None None = refl
datum_renamed f w None None (Some c) = refl
datum_renamed f w None (Some d) None = refl
datum_renamed f w None (Some d) (Some c) = refl
datum_renamed f w (Some k) None None = refl
datum_renamed f w (Some k) None (Some c) = refl
datum_renamed f w (Some k) (Some d) None = refl
datum_renamed f w (Some k) (Some d) (Some c) = refl

slot_steps_renamed : (f : ℕ → ℕ) (s : Slot Part) →
    slot_steps (map_slot (renamed_part f) s) ≡ map (renamed_step f) (slot_steps s)
slot_steps_renamed f s =
    let t : Slot Part = map_slot (renamed_part f) s in
    ap (λ (ps : List Part). lead_steps want.Nothing ps (λ w. datum_steps w t.key t.datum t.trailing))
    (whats_renamed f s.leads)
    ∙ leads_renamed f (whats s.leads) (λ w. datum_steps w s.key s.datum s.trailing)
    (λ w. datum_steps w t.key t.datum t.trailing) (λ w. datum_renamed f w s.key s.datum s.trailing) want.Nothing

-- and have the same documents
aligned_renamed : (f : ℕ → ℕ) (leads : List (Entry Part)) (d : Doc) →
    aligned_behind (map (map_entry (renamed_part f)) leads) d ≡ aligned_behind leads d
aligned_renamed f [] d = refl
aligned_renamed f (e ∷ leads) d = refl

row_renamed : (least : ℕ) (f : ℕ → ℕ) (us ws : List Token) → Renames least f us ws → (leads : List (Entry Part)) (steps : List Step) →
    IsRow least steps →
    part_of (map (renamed_step f) steps) (aligned_behind (map (map_entry (renamed_part f)) leads)
    (seq (row_docs ws (map (renamed_step f) steps))))
    ≡ renamed_part f (part_of steps (aligned_behind leads (seq (row_docs us steps))))
row_renamed least f us ws e leads [] h = absurd h
row_renamed least f us ws e leads (s ∷ steps) h =
    ap₂ (λ (k : ℕ) (d : Doc). part (f s.part.first) k d) (last_renamed f s.part.last steps)
    (aligned_renamed f leads _
    ∙ ap (λ (ds : List Doc). aligned_behind leads (seq (s.part.doc ∷ ds)))
    (steps_renamed least f us ws e s.part.last steps h))

slot_renamed : (least : ℕ) (f : ℕ → ℕ) (us ws : List Token) → Renames least f us ws → (s : Slot Part) → IsRow least (slot_steps s) →
    slot_part ws (map_slot (renamed_part f) s) ≡ renamed_part f (slot_part us s)
slot_renamed least f us ws e s h =
    let leads : List (Entry Part) = map (map_entry (renamed_part f)) s.leads in
    ap (λ (ss : List Step). part_of ss (aligned_behind leads (seq (row_docs ws ss)))) (slot_steps_renamed f s)
    ∙ row_renamed least f us ws e s.leads (slot_steps s) h

pub parts_renamed : (least : ℕ) (f : ℕ → ℕ) (us ws : List Token) → Renames least f us ws → (slots : List (Slot Part)) → AreRows least slots →
    slot_parts ws (map (map_slot (renamed_part f)) slots) ≡ map (renamed_part f) (slot_parts us slots)
parts_renamed least f us ws e [] h = refl
parts_renamed least f us ws e (s ∷ slots) h =
    ap₂ (λ (p : Part) (ps : List Part). p ∷ ps) (slot_renamed least f us ws e s h.0) (parts_renamed least f us ws e slots h.1)

-- pieces in a place
entries_in_renamed : (f : ℕ → ℕ) (quoted : Bool) (role : Role) (entries : List (Entry Piece)) →
    map (entry_in quoted role) (map (map_entry (renamed_piece f)) entries)
    ≡ map (map_entry (renamed_part f)) (map (entry_in quoted role) entries)
entries_in_renamed f quoted role [] = refl
entries_in_renamed f quoted role (e ∷ entries) =
    ap (λ (es : List (Entry Part)). map_entry (renamed_part f) (entry_in quoted role e) ∷ es)
    (entries_in_renamed f quoted role entries)

pieces_in_renamed : (f : ℕ → ℕ) (quoted : Bool) (role : Role) (pieces : List Piece) →
    map (part_in quoted role) (map (renamed_piece f) pieces) ≡ map (renamed_part f) (map (part_in quoted role) pieces)
pieces_in_renamed f quoted role [] = refl
pieces_in_renamed f quoted role (p ∷ pieces) =
    ap (λ (ps : List Part). renamed_part f (part_in quoted role p) ∷ ps) (pieces_in_renamed f quoted role pieces)

entry_in_renamed : (f : ℕ → ℕ) (quoted : Bool) (role : Role) (e : Option (Entry Piece)) →
    option_map (entry_in quoted role) (option_map (map_entry (renamed_piece f)) e)
    ≡ option_map (map_entry (renamed_part f)) (option_map (entry_in quoted role) e)
entry_in_renamed f quoted role None = refl
entry_in_renamed f quoted role (Some e) = refl

role_renamed : (f : ℕ → ℕ) (role : Role) (key : Option (Entry Piece)) →
    role_behind (option_map (map_entry (renamed_piece f)) key) role ≡ role_behind key role
role_renamed f role None = refl
role_renamed f role (Some k) = refl

slot_in_renamed : (f : ℕ → ℕ) (quoted : Bool) (role : Role) (s : Slot Piece) →
    slot_in quoted role (map_slot (renamed_piece f) s) ≡ map_slot (renamed_part f) (slot_in quoted role s)
slot_in_renamed f quoted role s =
    let leads = entries_in_renamed f quoted Free s.leads in
    let key = entry_in_renamed f quoted Free s.key in
    let datum = ap (λ (r : Role). option_map (entry_in quoted r) (option_map (map_entry (renamed_piece f)) s.datum))
    (role_renamed f role s.key) ∙ entry_in_renamed f quoted (role_behind s.key role) s.datum in
    let trailing = entry_in_renamed f quoted Free s.trailing in
    cc

pub slots_in_renamed : (f : ℕ → ℕ) (quoted : Bool) (roles : Roles) (slots : List (Slot Piece)) →
    slots_in quoted roles (map (map_slot (renamed_piece f)) slots)
    ≡ map (map_slot (renamed_part f)) (slots_in quoted roles slots)
unfolding slots_in
slots_in_renamed f quoted roles [] = refl
slots_in_renamed f quoted roles (s ∷ slots) =
    ap₂ (λ (x : Slot Part) (xs : List (Slot Part)). x ∷ xs) (slot_in_renamed f quoted (first_role roles) s)
    (slots_in_renamed f quoted (later_roles roles) slots)

-- and their way of being laid out
word_renamed : (f : ℕ → ℕ) (key datum : Option (Entry Piece)) →
    word_of (option_map (map_entry (renamed_piece f)) key) (option_map (map_entry (renamed_piece f)) datum)
    ≡ word_of key datum
word_renamed f None (Some d) = refl
word_renamed f None None = refl
word_renamed f (Some k) d = refl

first_word_renamed : (f : ℕ → ℕ) (slots : List (Slot Piece)) →
    first_word (map (map_slot (renamed_piece f)) slots) ≡ first_word slots
first_word_renamed f [] = refl
first_word_renamed f (s ∷ slots) = word_renamed f s.key s.datum

second_word_renamed : (f : ℕ → ℕ) (slots : List (Slot Piece)) →
    second_word (map (map_slot (renamed_piece f)) slots) ≡ second_word slots
second_word_renamed f [] = refl
second_word_renamed f (s ∷ slots) = first_word_renamed f slots

one_renamed : (f : ℕ → ℕ) (datum : Option (Entry Piece)) (n : ℕ) →
    one_if_some (option_map (map_entry (renamed_piece f)) datum) n ≡ one_if_some datum n
one_renamed f None n = refl
one_renamed f (Some d) n = refl

count_renamed : (f : ℕ → ℕ) (slots : List (Slot Piece)) →
    data_count (map (map_slot (renamed_piece f)) slots) ≡ data_count slots
unfolding data_count
count_renamed f [] = refl
count_renamed f (s ∷ slots) =
    one_renamed f s.datum (data_count (map (map_slot (renamed_piece f)) slots))
    ∙ ap (λ (n : ℕ). one_if_some s.datum n) (count_renamed f slots)

word_way_renamed : (f : ℕ → ℕ) (table : Table) (word : Option (List ℕ)) (slots : List (Slot Piece)) →
    word_way table word (map (map_slot (renamed_piece f)) slots) ≡ word_way table word slots
word_way_renamed f table None slots = refl
word_way_renamed f table (Some name) slots =
    ap₂ (λ (second : Option (List ℕ)) (count : ℕ). form_way (head_rule table name).form (head_rule table name)
    (is_some second) count) (second_word_renamed f slots) (count_renamed f slots)

way_renamed : (f : ℕ → ℕ) (table : Table) (quoted : Bool) (role : Role) (slots : List (Slot Piece)) →
    way_of table quoted role (map (map_slot (renamed_piece f)) slots) ≡ way_of table quoted role slots
way_renamed f table true role slots = refl
way_renamed f table false Clause slots = refl
way_renamed f table false Bindings slots = refl
way_renamed f table false Free slots =
    ap (λ (word : Option (List ℕ)). word_way table word (map (map_slot (renamed_piece f)) slots))
    (first_word_renamed f slots)
    ∙ word_way_renamed f table (first_word slots) slots

-- lists of each shape have the same documents
abbrev renamed_slots : (ℕ → ℕ) → Slots → Slots
renamed_slots f l = record {
  opener = f l.opener;
  first = renamed_part f l.first;
  second = renamed_part f l.second;
  others = map (renamed_part f) l.others;
  closer = f l.closer;
}

abbrev slots_firsts : Slots → List ℕ
slots_firsts l = firsts (l.first ∷ l.second ∷ l.others)

drop_renamed : (least : ℕ) (f : ℕ → ℕ) (us ws : List Token) → Renames least f us ws → (opener : ℕ) (s : Part) (slots : List Part)
    (closer : ℕ) → Later least (firsts (s ∷ slots)) → least ≤ closer →
    drop_doc ws (f opener) (renamed_part f s) (map (renamed_part f) slots) (f closer)
    ≡ drop_doc us opener s slots closer
drop_renamed least f us ws e opener s slots closer h c =
    ap (λ (ss : List Step). Align (seq (inner_docs ws (f opener) (step want.Nothing (renamed_part f s) ∷ ss)
    (f closer)))) (wanting_renamed f want.Line slots)
    ∙ ap (λ (ds : List Doc). Align (seq ds))
    (inner_renamed least f us ws e opener (step want.Nothing s ∷ steps_wanting want.Line slots) closer
    (h.0, wanting_later least want.Line slots h.1) c)

first_then_renamed : (least : ℕ) (f : ℕ → ℕ) (us ws : List Token) → Renames least f us ws → (l : Slots) (docs more : List Doc) →
    least ≤ l.first.first → docs ≡ more → first_then ws (renamed_slots f l) docs ≡ first_then us l more
first_then_renamed least f us ws e l docs more h same =
    ap₂ (λ (a b : List Doc). Align (seq (a ++ b)))
    (steps_renamed least f us ws e l.opener (step want.Nothing l.first ∷ []) (h, tt)) same

wanted_renamed : (least : ℕ) (f : ℕ → ℕ) (us ws : List Token) → Renames least f us ws → (n : ℕ) (w : Want) (parts : List Part)
    (closer : ℕ) → Later least (firsts parts) → least ≤ closer →
    inner_docs ws (f n) (steps_wanting w (map (renamed_part f) parts)) (f closer)
    ≡ inner_docs us n (steps_wanting w parts) closer
wanted_renamed least f us ws e n w parts closer h c =
    ap (λ (ss : List Step). inner_docs ws (f n) ss (f closer)) (wanting_renamed f w parts)
    ∙ inner_renamed least f us ws e n (steps_wanting w parts) closer (wanting_later least w parts h) c

hung_renamed : (least : ℕ) (f : ℕ → ℕ) (us ws : List Token) → Renames least f us ws → (before : ℕ) (next : Part) (slots : List Part)
    (closer : ℕ) → Later least (firsts (next ∷ slots)) → least ≤ closer →
    hung_docs ws (f before) (renamed_part f next) (map (renamed_part f) slots) (f closer)
    ≡ hung_docs us before next slots closer
hung_renamed least f us ws e before next slots closer h c =
    ap₂ (λ (a b : List Doc). a ++ Align (seq (next.doc ∷ b)) ∷ []) (e.gaps before next.first want.Space h.0)
    (wanted_renamed least f us ws e next.last want.Line slots closer h.1 c)

column_renamed : (least : ℕ) (f : ℕ → ℕ) (us ws : List Token) → Renames least f us ws → (next : Part) (headers : List Part) →
    Later least (firsts headers) →
    column_part ws (renamed_part f next) (map (renamed_part f) headers) ≡ renamed_part f (column_part us next headers)
column_renamed least f us ws e next headers h =
    ap (λ (ss : List Step). part (f next.first) (steps_last (f next.last) ss)
    (Align (seq (next.doc ∷ steps_docs ws (f next.last) ss)))) (wanting_renamed f want.Line headers)
    ∙ ap₂ (λ (k : ℕ) (ds : List Doc). part (f next.first) k (Align (seq (next.doc ∷ ds))))
    (last_renamed f next.last (steps_wanting want.Line headers))
    (steps_renamed least f us ws e next.last (steps_wanting want.Line headers) (wanting_later least want.Line headers h))

column_docs_renamed : (least : ℕ) (f : ℕ → ℕ) (us ws : List Token) → Renames least f us ws → (l : Slots) (headers : List Part) (w : Want)
    (bodies : List Part) → Later least (slots_firsts l) → least ≤ l.closer → Later least (firsts headers) → Later least (firsts bodies) →
    column_docs ws (renamed_slots f l) (map (renamed_part f) headers) w (map (renamed_part f) bodies)
    ≡ column_docs us l headers w bodies
column_docs_renamed least f us ws e l headers w [] h c heads rest =
    hung_renamed least f us ws e l.first.last l.second headers l.closer (h.1.0, heads) c
column_docs_renamed least f us ws e l headers w (b ∷ bodies) h c heads rest =
    let column : Part = column_part us l.second headers in
    ap₂ (λ (p : Part) (ss : List Step). inner_docs ws (f l.first.last) (step want.Space p ∷ ss) (f l.closer))
    (column_renamed least f us ws e l.second headers heads) (wanting_renamed f w (b ∷ bodies))
    ∙ inner_renamed least f us ws e l.first.last (step want.Space column ∷ steps_wanting w (b ∷ bodies)) l.closer
    (h.1.0, wanting_later least w (b ∷ bodies) rest) c

hang_renamed : (least : ℕ) (f : ℕ → ℕ) (us ws : List Token) → Renames least f us ws → (l : Slots) → Later least (slots_firsts l) →
    least ≤ l.closer → hang_doc ws (renamed_slots f l) ≡ hang_doc us l
hang_renamed least f us ws e l h c =
    first_then_renamed least f us ws e l _ _ h.0 (hung_renamed least f us ws e l.first.last l.second l.others l.closer h.1 c)

in_line_renamed : (least : ℕ) (f : ℕ → ℕ) (us ws : List Token) → Renames least f us ws → (l : Slots) (n : ℕ) (w : Want) →
    Later least (slots_firsts l) → least ≤ l.closer → in_line_doc ws (renamed_slots f l) n w ≡ in_line_doc us l n w
in_line_renamed least f us ws e l n w h c =
    let behind : List Part = l.second ∷ l.others in
    let headers : List Part = take n behind in
    let bodies : List Part = drop n behind in
    let steps : List Step = steps_wanting w bodies in
    first_then_renamed least f us ws e l _ _ h.0
    (ap₂ (λ (xs ys : List Part). Nest 1 (seq (inner_docs ws (f l.first.last)
    (steps_wanting want.Space xs ++ steps_wanting w ys) (f l.closer))) ∷ [])
    (take-map (renamed_part f) n behind) (drop-map (renamed_part f) n behind)
    ∙ ap (λ (ss : List Step). Nest 1 (seq (inner_docs ws (f l.first.last)
    (steps_wanting want.Space (map (renamed_part f) headers) ++ ss) (f l.closer))) ∷ []) (wanting_renamed f w bodies)
    ∙ ap (λ (ss : List Step). Nest 1 (seq (inner_docs ws (f l.first.last) ss (f l.closer))) ∷ [])
    (more_renamed f want.Space headers steps)
    ∙ ap (λ (ds : List Doc). Nest 1 (seq ds) ∷ [])
    (inner_renamed least f us ws e l.first.last (steps_wanting want.Space headers ++ steps) l.closer
    (more_later least want.Space headers steps (take_later least n behind h.1)
    (wanting_later least w bodies (drop_later least n behind h.1))) c))

in_column_renamed : (least : ℕ) (f : ℕ → ℕ) (us ws : List Token) → Renames least f us ws → (l : Slots) (n : ℕ) (w : Want) →
    Later least (slots_firsts l) → least ≤ l.closer → in_column_doc ws (renamed_slots f l) n w ≡ in_column_doc us l n w
in_column_renamed least f us ws e l n w h c =
    first_then_renamed least f us ws e l _ _ h.0
    (ap₂ (λ (xs ys : List Part). Nest 1 (seq (column_docs ws (renamed_slots f l) xs w ys)) ∷ [])
    (take-map (renamed_part f) n l.others) (drop-map (renamed_part f) n l.others)
    ∙ ap (λ (ds : List Doc). Nest 1 (seq ds) ∷ [])
    (column_docs_renamed least f us ws e l (take n l.others) w (drop n l.others) h c (take_later least n l.others h.1.1)
    (drop_later least n l.others h.1.1)))

column_layouts_renamed : (least : ℕ) (f : ℕ → ℕ) (us ws : List Token) → Renames least f us ws → (l : Slots) (n : ℕ) (w : Want) (k : ℕ) →
    Later least (slots_firsts l) → least ≤ l.closer → column_layouts ws (renamed_slots f l) n w k ≡ column_layouts us l n w k
column_layouts_renamed least f us ws e l n w k h c =
    ap (λ (d : Doc). if leb 2 n then charged k d ∷ [] else []) (in_column_renamed least f us ws e l (n - 1) w h c)

shape_renamed : (least : ℕ) (f : ℕ → ℕ) (us ws : List Token) → Renames least f us ws → (shape : Shape) (charges : Charges) (l : Slots) →
    Later least (slots_firsts l) → least ≤ l.closer →
    shape_doc shape charges ws (renamed_slots f l) ≡ shape_doc shape charges us l
shape_renamed least f us ws e Application charges l h c =
    ap₂ (λ (d hung : Doc). choice_of (charged charges.broken d)
    (charged charges.hung hung ∷ charged charges.flat (Flatten d) ∷ []))
    (drop_renamed least f us ws e l.opener l.first (l.second ∷ l.others) l.closer h c) (hang_renamed least f us ws e l h c)
shape_renamed least f us ws e Hanging charges l h c =
    ap₂ (λ (d hung : Doc). choice_of (charged charges.hung hung) (charged charges.flat (Flatten d) ∷ []))
    (drop_renamed least f us ws e l.opener l.first (l.second ∷ l.others) l.closer h c) (hang_renamed least f us ws e l h c)
shape_renamed least f us ws e Plain charges l h c =
    ap (λ (d : Doc). choice_of (charged charges.broken d) (charged charges.flat (Flatten d) ∷ []))
    (drop_renamed least f us ws e l.opener l.first (l.second ∷ l.others) l.closer h c)
shape_renamed least f us ws e (Body n one_line) charges l h c =
    ap₂ (λ (d : Doc) (more : List Doc). choice_of (charged charges.broken d)
    (more ++ line_layouts one_line d charges.flat))
    (in_line_renamed least f us ws e l n (body_want one_line) h c)
    (column_layouts_renamed least f us ws e l n (body_want one_line) charges.hung h c)

body_renamed : (least : ℕ) (f : ℕ → ℕ) (us ws : List Token) → Renames least f us ws → (w : Way) (opener : ℕ) (slots : List Part)
    (closer : ℕ) → Later least (firsts slots) → least ≤ closer →
    body_docs ws w (f opener) (map (renamed_part f) slots) (f closer) ≡ body_docs us w opener slots closer
body_renamed least f us ws e w opener [] closer h c = refl
body_renamed least f us ws e w opener (s ∷ []) closer h c =
    ap (λ (d : Doc). d ∷ []) (drop_renamed least f us ws e opener s [] closer h c)
body_renamed least f us ws e w opener (s ∷ next ∷ slots) closer h c =
    ap (λ (d : Doc). d ∷ [])
    (shape_renamed least f us ws e w.shape w.charges
    (record { opener = opener; first = s; second = next; others = slots; closer = closer }) h c)

list_renamed : (least : ℕ) (f : ℕ → ℕ) (us ws : List Token) → Renames least f us ws → (w : Way) (opener : ℕ) (slots : List Part)
    (closer : ℕ) → Later least (firsts slots) → least ≤ closer →
    list_doc ws w (f opener) (map (renamed_part f) slots) (f closer) ≡ list_doc us w opener slots closer
list_renamed least f us ws e w opener slots closer h c =
    ap₂ (λ (a : Doc) (more : List Doc). seq (a ∷ more)) (mark_renamed least f us ws e opener)
    (ap₂ (λ (ds : List Doc) (d : Doc). ds ++ d ∷ []) (body_renamed least f us ws e w opener slots closer h c)
    (mark_renamed least f us ws e closer))

list_in_renamed : (least : ℕ) (f : ℕ → ℕ) (style : StyleView) (us ws : List Token) → Renames least f us ws → (opener : ℕ)
    (entries : List (Entry Piece)) (slots : List (Slot Piece)) (closer : ℕ) → slots ≡ slots_of true entries →
    Later least (entry_firsts entries) → least ≤ closer → (quoted : Bool) (role : Role) →
    list_doc_in style ws (f opener) (map (map_slot (renamed_piece f)) slots) (f closer)
    (is_vector ws (f opener) || quoted) role
    ≡ list_doc_in style us opener slots closer (is_vector us opener || quoted) role
list_in_renamed least f style us ws e opener entries slots closer same h c quoted role =
    let q : Bool = is_vector us opener || quoted in
    let w : Way = way_of style.table q role slots in
    let cut = subst (λ (ss : List (Slot Piece)). AreSlots true entries ss) (sym same) (slots_of_cut true entries) in
    let parts : List (Slot Part) = slots_in q w.roles slots in
    ap (λ (s : List ℕ). list_doc_in style ws (f opener) (map (map_slot (renamed_piece f)) slots) (f closer)
    (begins (codes "#") s || quoted) role) (e.spellings opener)
    ∙ ap (λ (v : Way). list_doc ws v (f opener)
    (slot_parts ws (slots_in q v.roles (map (map_slot (renamed_piece f)) slots))) (f closer))
    (way_renamed f style.table q role slots)
    ∙ ap (λ (ss : List (Slot Part)). list_doc ws w (f opener) (slot_parts ws ss) (f closer))
    (slots_in_renamed f q w.roles slots)
    ∙ ap (λ (ps : List Part). list_doc ws w (f opener) ps (f closer))
    (parts_renamed least f us ws e parts (slots_rows least true q w.roles entries slots cut
    (later_behind least (entry_firsts entries) h)))
    ∙ list_renamed least f us ws e w opener (slot_parts us parts) closer
    (slots_later least us true q w.roles entries slots cut h) c

-- pieces with the same document wherever they stand
same_piece : (first last : ℕ) (atom : Option (List ℕ)) (d g : Bool → Role → Doc) →
    ((quoted : Bool) (role : Role) → d quoted role ≡ g quoted role) →
    piece first last atom d ≡ piece first last atom g
same_piece first last atom d g h =
    ap (λ (x : Bool → Role → Doc). piece first last atom x)
    (funext d g (λ quoted. funext (d quoted) (g quoted) (h quoted)))

item_renamed : (least : ℕ) (f : ℕ → ℕ) (style : StyleView) (us ws : List Token) → Renames least f us ws → (item : ℕ)
    (atom : Option (List ℕ)) → item_piece style ws (f item) atom ≡ renamed_piece f (item_piece style us item atom)
item_renamed least f style us ws e item atom =
    same_piece (f item) (f item) atom _ _
    (λ quoted role. ap (λ (s : List ℕ). spelling_doc style.columns s) (e.spellings item))

prefixed_piece_renamed : (least : ℕ) (f : ℕ → ℕ) (us ws : List Token) → Renames least f us ws → (item : ℕ) (quotes : Bool → Bool)
    (lead : List Piece) (inner : Piece) → Later least (map (λ (p : Piece). p.first) lead) → least ≤ inner.first →
    prefixed_piece ws (f item) quotes (map (renamed_piece f) lead) (renamed_piece f inner)
    ≡ renamed_piece f (prefixed_piece us item quotes lead inner)
prefixed_piece_renamed least f us ws e item quotes lead inner h c =
    same_piece (f item) (f inner.last) None _ _
    (λ quoted role. ap (λ (ps : List Part). prefixed_doc ws (f item) ps
    (renamed_part f (part_in (quotes quoted) Free inner))) (pieces_in_renamed f (quotes quoted) Free lead)
    ∙ prefixed_renamed least f us ws e item (map (part_in (quotes quoted) Free) lead) (part_in (quotes quoted) Free inner)
    (in_later (quotes quoted) lead h) c)
  where
    in_later : (quoted : Bool) (pieces : List Piece) → Later least (map (λ (p : Piece). p.first) pieces) →
        Later least (firsts (map (part_in quoted Free) pieces))
    in_later quoted [] k = tt
    in_later quoted (p ∷ pieces) k = (k.0, in_later quoted pieces k.1)

list_piece_renamed : (least : ℕ) (f : ℕ → ℕ) (style : StyleView) (us ws : List Token) → Renames least f us ws → (opener : ℕ)
    (entries : List (Entry Piece)) (closer : ℕ) → Later least (entry_firsts entries) → least ≤ closer →
    list_piece style ws (f opener) (map (map_slot (renamed_piece f)) (slots_of true entries)) (f closer)
    ≡ renamed_piece f (list_piece style us opener (slots_of true entries) closer)
list_piece_renamed least f style us ws e opener entries closer h c =
    same_piece (f opener) (f closer) None _ _
    (λ quoted role. list_in_renamed least f style us ws e opener entries (slots_of true entries) closer refl h c quoted role)

-- a tree begins with the first item of its piece
pub tree_begins : (style : StyleView) (ts : List Token) (t : Tree) →
    (ns : List ℕ) × (tree_items t ≡ (tree_piece style ts t).first ∷ ns)
unfolding tree_items tree_piece
tree_begins style ts (Prefixed item lead inner) = (forest_items lead ++ tree_items inner, refl)
tree_begins style ts (DatumComment item lead inner) = (forest_items lead ++ tree_items inner, refl)
tree_begins style ts (Listed opener entries closer) = (forest_items entries ++ closer ∷ [], refl)
tree_begins style ts _ = ([], refl)

tree_later : (least : ℕ) (style : StyleView) (ts : List Token) (t : Tree) → Later least (tree_items t) → least ≤ (tree_piece style ts t).first
tree_later least style ts t h =
    let begin = tree_begins style ts t in
    (subst (Later least) begin.1 h).0

pub forest_later : (least : ℕ) (style : StyleView) (ts : List Token) (g : Forest) → Later least (forest_items g) →
    Later least (entry_firsts (forest_entries style ts g))
unfolding forest_items forest_entries
forest_later least style ts Empty h = tt
forest_later least style ts (Then t g) h = (
  tree_later least style ts t (later_front least (tree_items t) (forest_items g) h),
  forest_later least style ts g (later_back least (tree_items t) (forest_items g) h),
)

whats_pieces : (f : ℕ → ℕ) (entries : List (Entry Piece)) →
    whats (map (map_entry (renamed_piece f)) entries) ≡ map (renamed_piece f) (whats entries)
whats_pieces f [] = refl
whats_pieces f (e ∷ entries) = ap (λ (ps : List Piece). renamed_piece f e.what ∷ ps) (whats_pieces f entries)

abbrev entry : Sort → Piece → Entry Piece
entry sort p = record { sort = sort; what = p }

lead_renamed : (least : ℕ) (f : ℕ → ℕ) (style : StyleView) (us ws : List Token) → Renames least f us ws → (item : ℕ)
    (quotes : Bool → Bool) (lead : Forest) (inner : Tree) (entries : List (Entry Piece)) (p : Piece) →
    Later least (forest_items lead) → Later least (tree_items inner) →
    entries ≡ map (map_entry (renamed_piece f)) (forest_entries style us lead) →
    p ≡ renamed_piece f (tree_piece style us inner) →
    prefixed_piece ws (f item) quotes (whats entries) p
    ≡ renamed_piece f (prefixed_piece us item quotes (whats (forest_entries style us lead)) (tree_piece style us inner))
lead_renamed least f style us ws e item quotes lead inner entries p h k same alike =
    ap₂ (λ (es : List (Entry Piece)) (x : Piece). prefixed_piece ws (f item) quotes (whats es) x) same alike
    ∙ ap (λ (ps : List Piece). prefixed_piece ws (f item) quotes ps (renamed_piece f (tree_piece style us inner)))
    (whats_pieces f (forest_entries style us lead))
    ∙ prefixed_piece_renamed least f us ws e item quotes (whats (forest_entries style us lead)) (tree_piece style us inner)
    (forest_later least style us lead h) (tree_later least style us inner k)

-- so a tree of such items is the same piece, but for the numbers of its first and its last item
mutual
  unfolding tree_piece forest_entries renamed all_renamed tree_items forest_items

  pub tree_renamed : (least : ℕ) (f : ℕ → ℕ) (style : StyleView) (us ws : List Token) → Renames least f us ws → (t : Tree) →
      BehindFirst least (tree_items t) → tree_piece style ws (renamed f t) ≡ renamed_piece f (tree_piece style us t)
  tree_renamed least f style us ws e (Leaf item) h =
      ap (λ (a : Option (List ℕ)). item_piece style ws (f item) a) (e.atoms item)
      ∙ item_renamed least f style us ws e item (atom_at us item)
  tree_renamed least f style us ws e (Point item) h = item_renamed least f style us ws e item None
  tree_renamed least f style us ws e (Comment item) h = item_renamed least f style us ws e item None
  tree_renamed least f style us ws e (Prefixed item lead inner) h =
      let front : Later least (forest_items lead) = later_front least (forest_items lead) (tree_items inner) h in
      let back : Later least (tree_items inner) = later_back least (forest_items lead) (tree_items inner) h in
      ap (λ (s : List ℕ). prefixed_piece ws (f item) (quoted_behind s)
      (whats (forest_entries style ws (all_renamed f lead))) (tree_piece style ws (renamed f inner)))
      (e.spellings item)
      ∙ lead_renamed least f style us ws e item (quoted_behind (spelling_at us item)) lead inner
      (forest_entries style ws (all_renamed f lead)) (tree_piece style ws (renamed f inner)) front back
      (forest_renamed least f style us ws e lead (later_behind least (forest_items lead) front))
      (tree_renamed least f style us ws e inner (later_behind least (tree_items inner) back))
  tree_renamed least f style us ws e (DatumComment item lead inner) h =
      let front : Later least (forest_items lead) = later_front least (forest_items lead) (tree_items inner) h in
      let back : Later least (tree_items inner) = later_back least (forest_items lead) (tree_items inner) h in
      lead_renamed least f style us ws e item (λ quoted. quoted) lead inner
      (forest_entries style ws (all_renamed f lead)) (tree_piece style ws (renamed f inner)) front back
      (forest_renamed least f style us ws e lead (later_behind least (forest_items lead) front))
      (tree_renamed least f style us ws e inner (later_behind least (tree_items inner) back))
  tree_renamed least f style us ws e (Listed opener entries closer) h =
      let front : Later least (forest_items entries) = later_front least (forest_items entries) (closer ∷ []) h in
      let back : Later least (closer ∷ []) = later_back least (forest_items entries) (closer ∷ []) h in
      ap (λ (es : List (Entry Piece)). list_piece style ws (f opener) (slots_of true es) (f closer))
      (forest_renamed least f style us ws e entries (later_behind least (forest_items entries) front))
      ∙ ap (λ (ss : List (Slot Piece)). list_piece style ws (f opener) ss (f closer))
      (slots_of_map (renamed_piece f) true (forest_entries style us entries))
      ∙ list_piece_renamed least f style us ws e opener (forest_entries style us entries) closer
      (forest_later least style us entries front) back.0

  pub forest_renamed : (least : ℕ) (f : ℕ → ℕ) (style : StyleView) (us ws : List Token) → Renames least f us ws → (g : Forest) →
      BehindFirst least (forest_items g) →
      forest_entries style ws (all_renamed f g) ≡ map (map_entry (renamed_piece f)) (forest_entries style us g)
  forest_renamed least f style us ws e Empty h = refl
  forest_renamed least f style us ws e (Then t g) h =
      ap₂ (λ (x : Entry Piece) (es : List (Entry Piece)). x ∷ es)
      (ap₂ (λ (sort : Sort) (p : Piece). entry sort p) (e.sorts t)
      (tree_renamed least f style us ws e t (behind_front least (tree_items t) (forest_items g) h)))
      (forest_renamed least f style us ws e g (behind_back least (tree_items t) (forest_items g) h))
