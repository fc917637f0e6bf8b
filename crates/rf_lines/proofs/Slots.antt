-- Slots as they are written: a datum alone, or behind its key.
use Rattle.std.proofs.Common.{◌≡◌, ℕ, zero, suc, Bool, Option, Some, None, List, [], ◌∷◌, ◌++◌, length, drop, refl, sym, ◌∙◌, ap, subst, arith}
use Rattle.std.specs.Prelude.{◌==◌, leb}
use Rattle.std.proofs.Math.Dec.{leb-zero, leb-suc-zero, leb-suc-suc}
use Rattle.std.proofs.lemmas.Bool.{ne_eqb}
use Rattle.rf_base_document.specs.Document.{Doc}
use Rattle.rf_base_document.specs.Sequence.{seq}
use Rattle.rf_base_document.proofs.Sequence.{seq_of_one}
use Rattle.rf_base_grammar.specs.Token.{Token}
use Rattle.rf_base_style.specs.Table.{StyleView}
use Rattle.rf_base_tree.specs.declared.separators.Want.{Want}
use Rattle.rf_base_tree.specs.declared.separators.Want.TheVariants as want
use Rattle.rf_base_tree.specs.Trees.{Tree}
use Rattle.rf_base_tree.specs.Slots.{Entry, Slot}
use Rattle.rf_base_tree.specs.Cut.{slot}
use Rattle.rf_base_file.specs.declared.shapes.Role.{Role}
use Rattle.rf_base_file.specs.declared.shapes.Role.TheVariants.{Free}
use Rattle.rf_base_file.specs.declared.shapes.Roles.{Roles}
use Rattle.rf_base_file.specs.Ways.{first_role, later_roles, slots_in}
use Rattle.rf_base_file.specs.Rows.{Part, part, gap_docs, Step, steps_docs, steps_last, row_docs, slot_steps, part_of, slot_part}
use Rattle.rf_base_lines.specs.Spelled.{Spelled, spelled_both, spelled_all}
use Rattle.rf_base_lines.proofs.FlatRows.{row_flat, seq_flat}
use Rattle.rf_base_lines.proofs.SpelledRows.{all_append, all_one, seq_spelled}
use Rattle.rf_tree.specs.Nodes.{UnfoldsTo}
use Rattle.rf_tree.specs.Slots.{NodeSlot, NodesStand, NodeStands, NodeSlotStands, NodeSlotsStand}
use Rattle.rf_tree.specs.declared.nodes.At.{At}
use Rattle.rf_tree.specs.Told.{Node}
use Rattle.rf_lines.specs.Written.{Stretch, spaced}
use Rattle.rf_ways.specs.Nodes.{node_in, slot_of, parts_of}
use Rattle.rf_lines.specs.Nodes.{IsWritten, WritesPart, WritesRow, behind_comments}
use Rattle.rf_lines.specs.declared.writer.Writer.{Writer}
use Rattle.rf_lines.proofs.Behind.{written_as}
use Rattle.rf_lines.proofs.Rows.{step_written, each_before, each_behind}

-- the trees of a slot without comments
record BareSlot (ts : List Token) (nodes : List Node) (key : Option At) (at : At) (s : Slot Tree) : Type 0 where
  keys : Option (Entry Tree)
  datum : Entry Tree
  is : s ≡ slot [] keys (Some datum) None
  key_stands : NodeStands ts nodes key keys
  unfolds : UnfoldsTo ts nodes at.0 datum.what

bare_slot : (ts : List Token) (nodes : List Node) (kept : NodeSlot) (key : Option At) (at : At) (s : Slot Tree) → kept.leads ≡ [] → kept.key ≡ key → kept.datum ≡ Some at → kept.trailing ≡ None →
    NodeSlotStands ts nodes kept s → BareSlot ts nodes key at s
bare_slot ts nodes kept key at s leads is datum trailing h =
    go s.leads s.key s.datum s.trailing (subst (λ (ats : List At). NodesStand ts nodes ats s.leads) leads h.leads)
    (subst (λ (a : Option At). NodeStands ts nodes a s.key) is h.key) (subst (λ (a : Option At). NodeStands ts nodes a s.datum) datum h.datum)
    (subst (λ (a : Option At). NodeStands ts nodes a s.trailing) trailing h.trailing)
  where
    go : (ls : List (Entry Tree)) (k d r : Option (Entry Tree)) → NodesStand ts nodes [] ls → NodeStands ts nodes key k → NodeStands ts nodes (Some at) d → NodeStands ts nodes None r →
        BareSlot ts nodes key at (slot ls k d r)
    go (e ∷ ls) k d r hl hk hd hr = absurd hl
    go [] k None r hl hk hd hr = absurd hd
    go [] k (Some e) (Some x) hl hk hd hr = absurd hr
    go [] k (Some e) None hl hk hd hr = record { keys = k; datum = e; is = refl; key_stands = hk; unfolds = hd }

-- of one that is a datum alone, and of one that has a key
pub record LoneSlot (ts : List Token) (nodes : List Node) (at : At) (s : Slot Tree) : Type 0 where
  pub datum : Entry Tree
  pub is : s ≡ slot [] None (Some datum) None
  pub unfolds : UnfoldsTo ts nodes at.0 datum.what

pub lone_slot : (ts : List Token) (nodes : List Node) (kept : NodeSlot) (at : At) (s : Slot Tree) → kept.leads ≡ [] → kept.key ≡ None → kept.datum ≡ Some at → kept.trailing ≡ None →
    NodeSlotStands ts nodes kept s → LoneSlot ts nodes at s
lone_slot ts nodes kept at s leads is datum trailing h =
    let o = bare_slot ts nodes kept None at s leads is datum trailing h in
    record { datum = o.datum; is = o.is ∙ ap (λ (k : Option (Entry Tree)). slot [] k (Some o.datum) None) (no_key o.keys o.key_stands); unfolds = o.unfolds }
  where
    no_key : (k : Option (Entry Tree)) → NodeStands ts nodes None k → k ≡ None
    no_key None h = refl
    no_key (Some e) h = absurd h

pub key_tree : (ts : List Token) (nodes : List Node) (key : At) (k : Option (Entry Tree)) → NodeStands ts nodes (Some key) k → (e : Entry Tree) × (k ≡ Some e) × UnfoldsTo ts nodes key.0 e.what
key_tree ts nodes key None h = absurd h
key_tree ts nodes key (Some e) h = (e, refl, h)

-- a datum alone is its part
lone_part : (style : StyleView) (ts : List Token) (quoted : Bool) (role : Role) (e : Entry Tree) → node_in style ts quoted role e.what ≡ slot_part ts (slot_of style ts quoted role (slot [] None (Some e) None))
unfolding steps_docs steps_last
lone_part style ts quoted role e =
    let p : Part = node_in style ts quoted role e.what in ap (λ (d : Doc). part p.first p.last d) (sym (seq_of_one p.doc))

pub lone_written : (writer : Writer) (style : StyleView) (ts : List Token) (nodes : List Node) (before : ℕ) (w : Want) (kept : NodeSlot) (at : At) (s : Slot Tree) (quoted : Bool) (role : Role) (flat : Bool) (a b : Stretch) (last : ℕ) →
    kept.leads ≡ [] → kept.key ≡ None → kept.datum ≡ Some at → kept.trailing ≡ None → NodeSlotStands ts nodes kept s →
    ((t : Tree) → UnfoldsTo ts nodes at.0 t → WritesPart writer ts before w (node_in style ts quoted role t) flat a b last) →
    WritesPart writer ts before w (slot_part ts (slot_of style ts quoted role s)) flat a b last
lone_written writer style ts nodes before w kept at s quoted role flat a b last leads key datum trailing stands written =
    let o = lone_slot ts nodes kept at s leads key datum trailing stands in
    subst (λ (p : Part). WritesPart writer ts before w p flat a b last)
    (lone_part style ts quoted role o.datum ∙ ap (λ (x : Slot Tree). slot_part ts (slot_of style ts quoted role x)) (sym o.is)) (written o.datum.what o.unfolds)

-- parts behind a gap, and the same as one document
row_all : (gap : List Doc) (d : Doc) (ds : List Doc) (flat : Bool) → spelled_all (gap ++ d ∷ ds) flat ≡ spelled_all (gap ++ seq (d ∷ ds) ∷ []) flat
row_all gap d ds flat =
    all_append gap (d ∷ ds) flat
    ∙ ap (λ (o : Option Spelled). spelled_both (spelled_all gap flat) o) (sym (all_one (seq (d ∷ ds)) flat ∙ seq_spelled (d ∷ ds) flat tt))
    ∙ sym (all_append gap (seq (d ∷ ds) ∷ []) flat)

pub row_written : (writer : Writer) (flat : Bool) (a b : Stretch) (gap : List Doc) (d : Doc) (ds : List Doc) → IsWritten writer flat a b (gap ++ d ∷ ds) → IsWritten writer flat a b (gap ++ seq (d ∷ ds) ∷ [])
row_written writer flat a b gap d ds h =
    written_as writer flat a b (gap ++ d ∷ ds) (gap ++ seq (d ∷ ds) ∷ []) (row_all gap d ds)
    (λ l some all. row_flat gap (seq (d ∷ ds) ∷ []) (each_before gap (d ∷ ds) all) (seq_flat (d ∷ ds) (each_behind gap (d ∷ ds) all), tt)) h

-- steps in a row as one part
row_part : (writer : Writer) (ts : List Token) (before : ℕ) (w : Want) (steps : List Step) (flat : Bool) (a b : Stretch) (last : ℕ) → WritesRow writer ts before w steps flat a b last →
    WritesPart writer ts before w (part_of steps (seq (row_docs ts steps))) flat a b last
row_part writer ts before w [] flat a b last h = absurd h
row_part writer ts before w (s ∷ steps) flat a b last h =
    (h.0, h.1, row_written writer flat a b (gap_docs ts before s.part.first (spaced w)) s.part.doc (steps_docs ts s.part.last steps) h.2)

-- what stands behind no comments is the slot
bare_is : (ts : List Token) (nodes : List Node) (kept : NodeSlot) (s : Slot Tree) → kept.leads ≡ [] → NodeSlotStands ts nodes kept s → s ≡ behind_comments s
bare_is ts nodes kept s none h =
    ap (λ (es : List (Entry Tree)). slot es s.key s.datum s.trailing) (no_entries s.leads (subst (λ (ats : List At). NodesStand ts nodes ats s.leads) none h.leads))
  where
    no_entries : (es : List (Entry Tree)) → NodesStand ts nodes [] es → es ≡ []
    no_entries [] h = refl
    no_entries (e ∷ es) h = absurd h

pub bare_written : (writer : Writer) (style : StyleView) (ts : List Token) (nodes : List Node) (before : ℕ) (w : Want) (kept : NodeSlot) (s : Slot Tree) (quoted : Bool) (role : Role) (flat : Bool) (a b : Stretch) (last : ℕ) →
    kept.leads ≡ [] → NodeSlotStands ts nodes kept s → WritesRow writer ts before w (slot_steps (slot_of style ts quoted role (behind_comments s))) flat a b last →
    WritesPart writer ts before w (slot_part ts (slot_of style ts quoted role s)) flat a b last
bare_written writer style ts nodes before w kept s quoted role flat a b last none stands row =
    subst (λ (x : Slot Tree). WritesPart writer ts before w (slot_part ts (slot_of style ts quoted role x)) flat a b last) (sym (bare_is ts nodes kept s none stands))
    (row_part writer ts before w (slot_steps (slot_of style ts quoted role (behind_comments s))) flat a b last row)

-- what stands behind the comments of a slot: there is a datum
abbrev pub RowOf : Writer → StyleView → List Token → ℕ → Want → Slot Tree → Bool → Role → Bool → Stretch → Stretch → ℕ → Type 0
RowOf writer style ts before w s quoted role flat a b last =
    ((e : Entry Tree) × (s.datum ≡ Some e)) × WritesRow writer ts before w (slot_steps (slot_of style ts quoted role (behind_comments s))) flat a b last

abbrev behind_leads : NodeSlot → NodeSlot
behind_leads k = record { leads = []; key = k.key; datum = k.datum; trailing = k.trailing }

all_behind : (ts : List Token) (nodes : List Node) (kept : NodeSlot) (s : Slot Tree) → NodeSlotStands ts nodes kept s → NodeSlotStands ts nodes (behind_leads kept) (behind_comments s)
all_behind ts nodes kept s h = record { leads = tt; key = h.key; datum = h.datum; trailing = h.trailing }

-- a key and its datum, which has no role
keyed_part : (writer : Writer) (style : StyleView) (ts : List Token) (before : ℕ) (w : Want) (k e : Entry Tree) (quoted : Bool) (role : Role) (flat : Bool) (a b c : Stretch) (mid last : ℕ) →
    WritesPart writer ts before w (node_in style ts quoted Free k.what) flat a b mid → WritesPart writer ts mid want.Space (node_in style ts quoted Free e.what) flat b c last →
    WritesRow writer ts before w (slot_steps (slot_of style ts quoted role (slot [] (Some k) (Some e) None))) flat a c last
unfolding steps_docs steps_last
keyed_part writer style ts before w k e quoted role flat a b c mid last first then =
    let p : Part = node_in style ts quoted Free k.what in
    let q : Part = node_in style ts quoted Free e.what in
    let gap : List Doc = gap_docs ts before p.first (spaced w) in
    let inner : List Doc = gap_docs ts p.last q.first want.Space in
    let behind : IsWritten writer flat b c (inner ++ q.doc ∷ []) = subst (λ (n : ℕ). IsWritten writer flat b c (gap_docs ts n q.first want.Space ++ q.doc ∷ [])) first.1 then.2 in (
      first.0,
      then.1,
      step_written writer flat a b c gap p.doc (inner ++ q.doc ∷ []) first.2 behind,
    )

pub keyed_written : (writer : Writer) (style : StyleView) (ts : List Token) (nodes : List Node) (before : ℕ) (w : Want) (kept : NodeSlot) (key at : At) (s : Slot Tree) (quoted : Bool) (role : Role) (flat : Bool) (a b c : Stretch) (mid last : ℕ) →
    kept.key ≡ Some key → kept.datum ≡ Some at → kept.trailing ≡ None → NodeSlotStands ts nodes kept s →
    ((t : Tree) → UnfoldsTo ts nodes key.0 t → WritesPart writer ts before w (node_in style ts quoted Free t) flat a b mid) →
    ((t : Tree) → UnfoldsTo ts nodes at.0 t → WritesPart writer ts mid want.Space (node_in style ts quoted Free t) flat b c last) →
    RowOf writer style ts before w s quoted role flat a c last
keyed_written writer style ts nodes before w kept key at s quoted role flat a b c mid last is datum trailing stands first then =
    let o = bare_slot ts nodes (behind_leads kept) (Some key) at (behind_comments s) refl is datum trailing (all_behind ts nodes kept s stands) in
    let k = key_tree ts nodes key o.keys o.key_stands in
    let same : behind_comments s ≡ slot [] (Some k.0) (Some o.datum) None = o.is ∙ ap (λ (x : Option (Entry Tree)). slot [] x (Some o.datum) None) k.1 in (
      (o.datum, ap (λ (x : Slot Tree). x.datum) same),
      subst (λ (x : Slot Tree). WritesRow writer ts before w (slot_steps (slot_of style ts quoted role x)) flat a c last) (sym same)
          (keyed_part writer style ts before w k.0 o.datum quoted role flat a b c mid last (first k.0.what k.2) (then o.datum.what o.unfolds)),
    )

pub datum_written : (writer : Writer) (style : StyleView) (ts : List Token) (nodes : List Node) (before : ℕ) (w : Want) (kept : NodeSlot) (at : At) (s : Slot Tree) (quoted : Bool) (role : Role) (flat : Bool) (a b : Stretch) (last : ℕ) →
    kept.key ≡ None → kept.datum ≡ Some at → kept.trailing ≡ None → NodeSlotStands ts nodes kept s →
    ((t : Tree) → UnfoldsTo ts nodes at.0 t → WritesPart writer ts before w (node_in style ts quoted role t) flat a b last) →
    RowOf writer style ts before w s quoted role flat a b last
unfolding steps_docs steps_last
datum_written writer style ts nodes before w kept at s quoted role flat a b last key datum trailing stands written =
    let o = lone_slot ts nodes (behind_leads kept) at (behind_comments s) refl key datum trailing (all_behind ts nodes kept s stands) in (
      (o.datum, ap (λ (x : Slot Tree). x.datum) o.is),
      subst (λ (x : Slot Tree). WritesRow writer ts before w (slot_steps (slot_of style ts quoted role x)) flat a b last) (sym o.is) (written o.datum.what o.unfolds),
    )

-- the parts of slots: none, or the first and the others; as many as the slots
pub no_parts : (style : StyleView) (ts : List Token) (quoted : Bool) (roles : Roles) (ss : List (Slot Tree)) → ss ≡ [] → parts_of style ts quoted roles ss ≡ []
unfolding slots_in
no_parts style ts quoted roles ss e = ap (λ (xs : List (Slot Tree)). parts_of style ts quoted roles xs) e

pub first_parts : (style : StyleView) (ts : List Token) (quoted : Bool) (roles : Roles) (all : List (Slot Tree)) (s : Slot Tree) (ss : List (Slot Tree)) → all ≡ s ∷ ss →
    parts_of style ts quoted roles all ≡ slot_part ts (slot_of style ts quoted (first_role roles) s) ∷ parts_of style ts quoted (later_roles roles) ss
unfolding slots_in
first_parts style ts quoted roles all s ss e = ap (λ (xs : List (Slot Tree)). parts_of style ts quoted roles xs) e

pub parts_count : (style : StyleView) (ts : List Token) (quoted : Bool) (roles : Roles) (nodes : List Node) (kept : List NodeSlot) (ss : List (Slot Tree)) → NodeSlotsStand ts nodes kept ss →
    length kept ≡ length (parts_of style ts quoted roles ss)
unfolding slots_in
parts_count style ts quoted roles nodes [] [] h = refl
parts_count style ts quoted roles nodes [] (s ∷ ss) h = absurd h
parts_count style ts quoted roles nodes (k ∷ kept) [] h = absurd h
parts_count style ts quoted roles nodes (k ∷ kept) (s ∷ ss) h = ap suc (parts_count style ts quoted (later_roles roles) nodes kept ss h.1)

-- whether none is left behind so many
pub none_left : {A : Type 0} (xs : List A) (n : ℕ) → (length (drop n xs) == 0) ≡ leb (length xs) n
none_left [] zero = sym (leb-zero zero)
none_left [] (suc n) = sym (leb-zero (suc n))
none_left (x ∷ xs) zero = ne_eqb (suc (length xs)) 0 (λ e. omega (arith, e)) ∙ sym (leb-suc-zero (length xs))
none_left (x ∷ xs) (suc n) = none_left xs n ∙ sym (leb-suc-suc (length xs) n)
