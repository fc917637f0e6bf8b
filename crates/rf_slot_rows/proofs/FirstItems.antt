-- The first items of slots.
use Rattle.std.proofs.Common.{◌≡◌, ℕ, ◌<◌, Bool, Option, None, Some, List, [], ◌∷◌, length, slice_get, refl, ap, ◌∙◌, subst}
use Rattle.rf_base_grammar.specs.Token.{Token}
use Rattle.rf_base_style.specs.Table.{StyleView}
use Rattle.rf_base_tree.specs.Trees.{Tree}
use Rattle.rf_base_tree.specs.Slots.{Entry, Slot, perhaps}
use Rattle.rf_base_file.specs.declared.shapes.Role.{Role}
use Rattle.rf_base_file.specs.Rows.{slot_part}
use Rattle.rf_base_file.specs.FileDocument.{tree_piece}
use Rattle.rf_tree.specs.Nodes.{UnfoldsTo}
use Rattle.rf_tree.specs.Slots.{NodeSlot, NodesStand, NodeStands, NodeSlotStands, NodeSlotsStand, parts_in}
use Rattle.rf_tree.specs.Ahead.{BeginWith}
use Rattle.rf_ways.proofs.Taking.{first_slot}
use Rattle.rf_tree.specs.declared.nodes.At.{At}
use Rattle.rf_tree.specs.Told.{Node}
use Rattle.rf_tree.proofs.Unfolding.{UnfoldsTo-below}
use Rattle.rf_ways.specs.Nodes.{slot_of}
use Rattle.rf_slot_rows.specs.Nodes.{first_or}

there : (ts : List Token) (nodes : List Node) (at : At) (e : Option (Entry Tree)) → NodeStands ts nodes (Some at) e → at.0 < length nodes
there ts nodes at None h = absurd h
there ts nodes at (Some e) h = UnfoldsTo-below ts nodes at.0 e.what h

pub entry_there : (ts : List Token) (nodes : List Node) (o : Option At) (at : At) (e : Option (Entry Tree)) → o ≡ Some at → NodeStands ts nodes o e → at.0 < length nodes
entry_there ts nodes o at e is h = there ts nodes at e (subst (λ (x : Option At). NodeStands ts nodes x e) is h)

none : (style : StyleView) (ts : List Token) (nodes : List Node) (e : Option (Entry Tree)) (n : ℕ) → NodeStands ts nodes None e → n ≡ first_or style ts e n
none style ts nodes None n h = refl
none style ts nodes (Some e) n h = absurd h

pub no_entry : (style : StyleView) (ts : List Token) (nodes : List Node) (o : Option At) (e : Option (Entry Tree)) (n : ℕ) → o ≡ None → NodeStands ts nodes o e → n ≡ first_or style ts e n
no_entry style ts nodes o e n is h = none style ts nodes e n (subst (λ (x : Option At). NodeStands ts nodes x e) is h)

some : (style : StyleView) (ts : List Token) (nodes : List Node) (at : At) (e : Option (Entry Tree)) (n r : ℕ) →
    ((t : Tree) → UnfoldsTo ts nodes at.0 t → r ≡ (tree_piece style ts t).first) → NodeStands ts nodes (Some at) e → r ≡ first_or style ts e n
some style ts nodes at None n r first h = absurd h
some style ts nodes at (Some e) n r first h = first e.what h

pub an_entry : (style : StyleView) (ts : List Token) (nodes : List Node) (o : Option At) (at : At) (e : Option (Entry Tree)) (n r : ℕ) → o ≡ Some at →
    ((t : Tree) → UnfoldsTo ts nodes at.0 t → r ≡ (tree_piece style ts t).first) → NodeStands ts nodes o e → r ≡ first_or style ts e n
an_entry style ts nodes o at e n r is first h = some style ts nodes at e n r first (subst (λ (x : Option At). NodeStands ts nodes x e) is h)

-- a slot without comments, and one with them
bare : (style : StyleView) (ts : List Token) (quoted : Bool) (role : Role) (key datum trailing : Option (Entry Tree)) →
    first_or style ts key (first_or style ts datum (first_or style ts trailing 0))
    ≡ (slot_part ts (slot_of style ts quoted role (record { leads = []; key = key; datum = datum; trailing = trailing }))).first
bare style ts quoted role None None None = refl
bare style ts quoted role None None (Some t) = refl
bare style ts quoted role None (Some d) None = refl
bare style ts quoted role None (Some d) (Some t) = refl
bare style ts quoted role (Some k) None None = refl
bare style ts quoted role (Some k) None (Some t) = refl
bare style ts quoted role (Some k) (Some d) None = refl
bare style ts quoted role (Some k) (Some d) (Some t) = refl

bare_first : (style : StyleView) (ts : List Token) (nodes : List Node) (quoted : Bool) (role : Role) (leads : List (Entry Tree)) (key datum trailing : Option (Entry Tree)) → NodesStand ts nodes [] leads →
    first_or style ts key (first_or style ts datum (first_or style ts trailing 0))
    ≡ (slot_part ts (slot_of style ts quoted role (record { leads = leads; key = key; datum = datum; trailing = trailing }))).first
bare_first style ts nodes quoted role [] key datum trailing h = bare style ts quoted role key datum trailing
bare_first style ts nodes quoted role (e ∷ leads) key datum trailing h = absurd h

pub slot_bare : (style : StyleView) (ts : List Token) (nodes : List Node) (kept : NodeSlot) (s : Slot Tree) (quoted : Bool) (role : Role) → kept.leads ≡ [] → NodeSlotStands ts nodes kept s →
    first_or style ts s.key (first_or style ts s.datum (first_or style ts s.trailing 0)) ≡ (slot_part ts (slot_of style ts quoted role s)).first
slot_bare style ts nodes kept s quoted role empty h =
    bare_first style ts nodes quoted role s.leads s.key s.datum s.trailing (subst (λ (ats : List At). NodesStand ts nodes ats s.leads) empty h.leads)

lead_first : (style : StyleView) (ts : List Token) (nodes : List Node) (quoted : Bool) (role : Role) (ats : List At) (at : At) (leads : List (Entry Tree)) (key datum trailing : Option (Entry Tree)) (r : ℕ) →
    ((t : Tree) → UnfoldsTo ts nodes at.0 t → r ≡ (tree_piece style ts t).first) → slice_get ats 0 ≡ Some at → NodesStand ts nodes ats leads →
    r ≡ (slot_part ts (slot_of style ts quoted role (record { leads = leads; key = key; datum = datum; trailing = trailing }))).first
lead_first style ts nodes quoted role [] at leads key datum trailing r first is h = cc
lead_first style ts nodes quoted role (a ∷ ats) at [] key datum trailing r first is h = absurd h
lead_first style ts nodes quoted role (a ∷ ats) at (e ∷ leads) key datum trailing r first is h =
    let same : a ≡ at = cc in first e.what (subst (λ (x : At). UnfoldsTo ts nodes x.0 e.what) same h.0)

pub slot_led : (style : StyleView) (ts : List Token) (nodes : List Node) (kept : NodeSlot) (at : At) (s : Slot Tree) (quoted : Bool) (role : Role) (r : ℕ) →
    ((t : Tree) → UnfoldsTo ts nodes at.0 t → r ≡ (tree_piece style ts t).first) → slice_get kept.leads 0 ≡ Some at → NodeSlotStands ts nodes kept s →
    r ≡ (slot_part ts (slot_of style ts quoted role s)).first
slot_led style ts nodes kept at s quoted role r first is h = lead_first style ts nodes quoted role kept.leads at s.leads s.key s.datum s.trailing r first is h.leads

pub lead_there : (ts : List Token) (nodes : List Node) (ats : List At) (at : At) (leads : List (Entry Tree)) → slice_get ats 0 ≡ Some at → NodesStand ts nodes ats leads → at.0 < length nodes
lead_there ts nodes [] at leads is h = cc
lead_there ts nodes (a ∷ ats) at [] is h = absurd h
lead_there ts nodes (a ∷ ats) at (e ∷ leads) is h =
    let same : a ≡ at = cc in subst (λ (x : At). x.0 < length nodes) same (UnfoldsTo-below ts nodes a.0 e.what h.0)

-- a slot that begins with this node
parts_there : (ts : List Token) (nodes : List Node) (at : At) (others : List At) (key datum trailing : Option At) (k d t : Option (Entry Tree)) → perhaps key (perhaps datum (perhaps trailing [])) ≡ at ∷ others →
    NodeStands ts nodes key k → NodeStands ts nodes datum d → NodeStands ts nodes trailing t → at.0 < length nodes
parts_there ts nodes at others (Some a) datum trailing k d t is hk hd ht =
    let same : a ≡ at = cc in subst (λ (x : At). x.0 < length nodes) same (there ts nodes a k hk)
parts_there ts nodes at others None (Some a) trailing k d t is hk hd ht =
    let same : a ≡ at = cc in subst (λ (x : At). x.0 < length nodes) same (there ts nodes a d hd)
parts_there ts nodes at others None None (Some a) k d t is hk hd ht =
    let same : a ≡ at = cc in subst (λ (x : At). x.0 < length nodes) same (there ts nodes a t ht)
parts_there ts nodes at others None None None k d t is hk hd ht = cc

slot_there : (ts : List Token) (nodes : List Node) (at : At) (others leads : List At) (key datum trailing : Option At) (s : Slot Tree) → parts_in (record { leads = leads; key = key; datum = datum; trailing = trailing }) ≡ at ∷ others →
    NodeSlotStands ts nodes (record { leads = leads; key = key; datum = datum; trailing = trailing }) s → at.0 < length nodes
slot_there ts nodes at others [] key datum trailing s is h =
    parts_there ts nodes at others key datum trailing s.key s.datum s.trailing is h.key h.datum h.trailing
slot_there ts nodes at others (a ∷ leads) key datum trailing s is h =
    let same : a ≡ at = cc in
    lead_there ts nodes (a ∷ leads) at s.leads (ap (λ (x : At). Some x) same) h.leads

pub begun_there : (ts : List Token) (nodes : List Node) (ks : List NodeSlot) (at : At) (ss : List (Slot Tree)) → BeginWith ks (Some at) → NodeSlotsStand ts nodes ks ss → at.0 < length nodes
begun_there ts nodes ks at ss begun stand =
    let k = begun.0 in
    let first = first_slot ts nodes ks k begun.1 ss begun.3 stand in
    slot_there ts nodes at begun.2 k.leads k.key k.datum k.trailing first.slot begun.4 first.first

-- and its first item
parts_first : (style : StyleView) (ts : List Token) (nodes : List Node) (at : At) (others : List At) (key datum trailing : Option At) (k d t : Option (Entry Tree)) (r : ℕ) →
    ((u : Tree) → UnfoldsTo ts nodes at.0 u → r ≡ (tree_piece style ts u).first) → perhaps key (perhaps datum (perhaps trailing [])) ≡ at ∷ others →
    NodeStands ts nodes key k → NodeStands ts nodes datum d → NodeStands ts nodes trailing t → r ≡ first_or style ts k (first_or style ts d (first_or style ts t 0))
parts_first style ts nodes at others (Some a) datum trailing k d t r first is hk hd ht =
    let same : a ≡ at = cc in an_entry style ts nodes (Some a) at k _ r (ap (λ (x : At). Some x) same) first hk
parts_first style ts nodes at others None (Some a) trailing k d t r first is hk hd ht =
    let same : a ≡ at = cc in
    an_entry style ts nodes (Some a) at d _ r (ap (λ (x : At). Some x) same) first hd ∙ no_entry style ts nodes None k _ refl hk
parts_first style ts nodes at others None None (Some a) k d t r first is hk hd ht =
    let same : a ≡ at = cc in
    an_entry style ts nodes (Some a) at t 0 r (ap (λ (x : At). Some x) same) first ht ∙ no_entry style ts nodes None d _ refl hd ∙ no_entry style ts nodes None k _ refl hk
parts_first style ts nodes at others None None None k d t r first is hk hd ht = cc

slot_first : (style : StyleView) (ts : List Token) (nodes : List Node) (at : At) (others leads : List At) (key datum trailing : Option At) (s : Slot Tree) (quoted : Bool) (role : Role) (r : ℕ) →
    ((u : Tree) → UnfoldsTo ts nodes at.0 u → r ≡ (tree_piece style ts u).first) → parts_in (record { leads = leads; key = key; datum = datum; trailing = trailing }) ≡ at ∷ others →
    NodeSlotStands ts nodes (record { leads = leads; key = key; datum = datum; trailing = trailing }) s → r ≡ (slot_part ts (slot_of style ts quoted role s)).first
slot_first style ts nodes at others [] key datum trailing s quoted role r first is h =
    parts_first style ts nodes at others key datum trailing s.key s.datum s.trailing r first is h.key h.datum h.trailing
    ∙ slot_bare style ts nodes (record { leads = []; key = key; datum = datum; trailing = trailing }) s quoted role refl h
slot_first style ts nodes at others (a ∷ leads) key datum trailing s quoted role r first is h =
    let same : a ≡ at = cc in
    slot_led style ts nodes (record { leads = a ∷ leads; key = key; datum = datum; trailing = trailing }) at s quoted role r first (ap (λ (x : At). Some x) same) h

same_front : (ks rest others : List NodeSlot) (k front : NodeSlot) → ks ≡ k ∷ rest → ks ≡ front ∷ others → front ≡ k
same_front ks rest others k front is at_front = cc

pub begun_first : (style : StyleView) (ts : List Token) (nodes : List Node) (ks rest : List NodeSlot) (k : NodeSlot) (at : At) (s : Slot Tree) (quoted : Bool) (role : Role) (r : ℕ) → BeginWith ks (Some at) → ks ≡ k ∷ rest →
    ((u : Tree) → UnfoldsTo ts nodes at.0 u → r ≡ (tree_piece style ts u).first) → NodeSlotStands ts nodes k s → r ≡ (slot_part ts (slot_of style ts quoted role s)).first
begun_first style ts nodes ks rest k at s quoted role r begun is first stands =
    let parts = subst (λ (x : NodeSlot). parts_in x ≡ at ∷ begun.2) (same_front ks rest begun.1 k begun.0 is begun.3) begun.4 in
    slot_first style ts nodes at begun.2 k.leads k.key k.datum k.trailing s quoted role r first parts stands
