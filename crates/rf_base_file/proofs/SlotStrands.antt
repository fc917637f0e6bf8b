-- Slots have the strands of their items, whatever they stand in.
use Rattle.std.proofs.Common.{◌≡◌, ◌≢◌, ℕ, Bool, Option, Some, None, List, [], ◌∷◌, ◌++◌, map, refl, sym, ap, ◌∙◌, subst}
use Rattle.std.specs.Prelude.{⊤}
use Rattle.std.specs.Option.{option_map}
use Rattle.rf_base_document.specs.Document.{Doc}
use Rattle.rf_base_document.specs.Sequence.{seq}
use Rattle.rf_base_grammar.specs.Token.{Token}
use Rattle.rf_base_tree.specs.declared.separators.Want.{Want}
use Rattle.rf_base_tree.specs.declared.separators.Want.TheVariants as want
use Rattle.rf_base_tree.specs.Slots.{Entry, Slot, perhaps, slot_entries, MayStandTogether, AreSlots}
use Rattle.rf_base_tree.specs.Cut.{slot}
use Rattle.rf_base_file.specs.declared.shapes.Role.{Role}
use Rattle.rf_base_file.specs.declared.shapes.Role.TheVariants.{Free}
use Rattle.rf_base_file.specs.declared.shapes.Roles.{Roles}
use Rattle.rf_base_file.specs.Rows.{Part, Step, row_docs, steps_wanting, whats, lead_steps, datum_steps, slot_steps, aligned_behind, slot_doc, part_of, slot_part, slot_parts}
use Rattle.rf_base_file.specs.Ways.{first_role, later_roles, Piece, part_in, entry_in, role_behind, slot_in, slots_in}
use Rattle.rf_base_file.specs.Signature.{Strand, Signed}
use Rattle.rf_base_file.proofs.Signatures.{SignedParts, seq-signed}
use Rattle.rf_base_file.proofs.Parts.{items_strands, PartSigned, Sections, SectionsCut, Sections-cut, PartsSigned, step_parts, step_parts-wanting, RowSigned, row-signed}

-- the parts of steps in a row, and what entries in a row hold
pub step_parts-append : (steps others : List Step) →
    step_parts (steps ++ others) ≡ step_parts steps ++ step_parts others
unfolding step_parts
step_parts-append [] others = refl
step_parts-append (s ∷ steps) others = ap (λ ps. s.part ∷ ps) (step_parts-append steps others)

pub whats-append : {A : Type 0} (entries others : List (Entry A)) →
    whats (entries ++ others) ≡ whats entries ++ whats others
whats-append [] others = refl
whats-append (e ∷ entries) others = ap (λ ps. e.what ∷ ps) (whats-append entries others)

-- the parts of a slot are what its entries hold
datum_parts : (w : Want) (key datum trailing : Option (Entry Part)) →
    step_parts (datum_steps w key datum trailing) ≡ whats (perhaps key (perhaps datum (perhaps trailing [])))
unfolding step_parts
datum_parts w None None None = refl
datum_parts w None None (Some c) = refl
datum_parts w None (Some d) None = refl
datum_parts w None (Some d) (Some c) = refl
datum_parts w (Some k) None None = refl
datum_parts w (Some k) None (Some c) = refl
datum_parts w (Some k) (Some d) None = refl
datum_parts w (Some k) (Some d) (Some c) = refl

lead_parts : (leads : List Part) (rest : Want → List Step) (parts : List Part) →
    ((w : Want) → step_parts (rest w) ≡ parts) →
    step_parts (lead_steps want.Nothing leads rest) ≡ leads ++ parts
unfolding step_parts
lead_parts [] rest parts h = h want.Nothing
lead_parts (c ∷ leads) rest parts h =
    ap (λ ps. c ∷ ps) (step_parts-append (steps_wanting want.Line leads) (rest want.Line)
    ∙ ap (λ ps. ps ++ step_parts (rest want.Line)) (step_parts-wanting want.Line leads)
    ∙ ap (λ ps. leads ++ ps) (h want.Line))

pub slot_steps-are : (s : Slot Part) → step_parts (slot_steps s) ≡ whats (slot_entries s)
slot_steps-are s =
    let behind_leads : List (Entry Part) = perhaps s.key (perhaps s.datum (perhaps s.trailing [])) in
    lead_parts (whats s.leads) (λ w. datum_steps w s.key s.datum s.trailing) (whats behind_leads)
    (λ w. datum_parts w s.key s.datum s.trailing)
    ∙ sym (whats-append s.leads behind_leads)

-- a slot holds something
pub some_steps : (in_list quoted : Bool) (role : Role) (leads : List (Entry Piece))
    (key datum trailing : Option (Entry Piece)) → MayStandTogether in_list leads key datum →
    slot_steps (slot_in quoted role (slot leads key datum trailing)) ≢ []
some_steps in_list quoted role [] None None trailing h = λ e. h refl
some_steps in_list quoted role _ _ _ trailing h = λ e. cc

-- the part of steps has their strands, where its document has what their row has
part_of-signed : (ts : List Token) (steps : List Step) (items : List ℕ) (d : Doc) → steps ≢ [] →
    PartsSigned ts (step_parts steps) items →
    ((strands : List Strand) → ((i : ℕ) (flat : Bool) → SignedParts (row_docs ts steps) i flat strands) →
    (i : ℕ) (flat : Bool) → Signed d i flat strands) →
    PartSigned ts (part_of steps d) items
part_of-signed ts [] items d n h k = absurd (n refl)
part_of-signed ts (s ∷ steps) items d n h k =
    let row : RowSigned ts s steps items = row-signed ts s steps items h in
    record {
      later = row.later;
      items_are = row.items_are;
      last_is = row.last_is;
      signed = k (items_strands ts s.part.first row.later) row.signed;
    }

aligned-signed : (leads : List (Entry Part)) (d : Doc) (strands : List Strand) →
    ((i : ℕ) (flat : Bool) → Signed d i flat strands) → (i : ℕ) (flat : Bool) →
    Signed (aligned_behind leads d) i flat strands
unfolding Signed
aligned-signed [] d strands h i flat = h i flat
aligned-signed (c ∷ leads) d strands h i flat = λ column. h column flat

-- a piece stands for these items, whatever it stands in, and so do pieces one after another
abbrev pub PieceSigned : List Token → Piece → List ℕ → Type 0
PieceSigned ts p items = (quoted : Bool) (role : Role) → PartSigned ts (part_in quoted role p) items

abbrev pub PiecesSigned : List Token → List Piece → List ℕ → Type 0
PiecesSigned ts pieces items = Sections (PieceSigned ts) pieces items

-- the parts are these pieces, each in some place
unfoldable pub PartsOf : List Part → List Piece → Type 0
PartsOf [] [] = ⊤
PartsOf [] (c ∷ pieces) = ⊥
PartsOf (p ∷ parts) [] = ⊥
PartsOf (p ∷ parts) (c ∷ pieces) =
    ((quoted : Bool) × (role : Role) × (p ≡ part_in quoted role c)) × PartsOf parts pieces

PartsOf-signed : (ts : List Token) (parts : List Part) (pieces : List Piece) (items : List ℕ) → PartsOf parts pieces →
    PiecesSigned ts pieces items → PartsSigned ts parts items
unfolding PartsOf Sections
PartsOf-signed ts [] [] items o h = h
PartsOf-signed ts [] (c ∷ pieces) items o h = absurd o
PartsOf-signed ts (p ∷ parts) [] items o h = absurd o
PartsOf-signed ts (p ∷ parts) (c ∷ pieces) items o h = (
  h.0,
  h.1,
  h.2,
  subst (λ (q : Part). PartSigned ts q h.0) (sym o.0.2) (h.3 o.0.0 o.0.1),
  PartsOf-signed ts parts pieces h.1 o.1 h.4,
)

PartsOf-append : (parts others : List Part) (pieces more : List Piece) → PartsOf parts pieces → PartsOf others more →
    PartsOf (parts ++ others) (pieces ++ more)
unfolding PartsOf
PartsOf-append [] others [] more h k = k
PartsOf-append [] others (c ∷ pieces) more h k = absurd h
PartsOf-append (p ∷ parts) others [] more h k = absurd h
PartsOf-append (p ∷ parts) others (c ∷ pieces) more h k = (h.0, PartsOf-append parts others pieces more h.1 k)

pub whats_of : (quoted : Bool) (role : Role) (entries : List (Entry Piece)) →
    whats (map (entry_in quoted role) entries) ≡ map (part_in quoted role) (whats entries)
whats_of quoted role [] = refl
whats_of quoted role (e ∷ entries) = ap (λ ps. part_in quoted role e.what ∷ ps) (whats_of quoted role entries)

pub map_of : (quoted : Bool) (role : Role) (pieces : List Piece) → PartsOf (map (part_in quoted role) pieces) pieces
unfolding PartsOf
map_of quoted role [] = tt
map_of quoted role (c ∷ pieces) = ((quoted, role, refl), map_of quoted role pieces)

-- pieces in a place have the strands of their items
pub pieces-signed : (ts : List Token) (quoted : Bool) (role : Role) (pieces : List Piece) (items : List ℕ) →
    PiecesSigned ts pieces items → PartsSigned ts (map (part_in quoted role) pieces) items
pieces-signed ts quoted role pieces items h =
    PartsOf-signed ts (map (part_in quoted role) pieces) pieces items (map_of quoted role pieces) h

datum_of : (quoted : Bool) (role : Role) (key datum trailing : Option (Entry Piece)) →
    PartsOf (whats
    (perhaps (option_map (entry_in quoted Free) key)
    (perhaps (option_map (entry_in quoted role) datum) (perhaps (option_map (entry_in quoted Free) trailing) []))))
    (whats (perhaps key (perhaps datum (perhaps trailing []))))
unfolding PartsOf
datum_of quoted role None None None = tt
datum_of quoted role None (Some d) None = ((quoted, role, refl), tt)
datum_of quoted role None (Some d) (Some t) = ((quoted, role, refl), ((quoted, Free, refl), tt))
datum_of quoted role (Some k) None (Some t) = ((quoted, Free, refl), ((quoted, Free, refl), tt))
datum_of quoted role (Some k) (Some d) None = ((quoted, Free, refl), ((quoted, role, refl), tt))
datum_of quoted role (Some k) (Some d) (Some t) = (
  (quoted, Free, refl),
  ((quoted, role, refl), ((quoted, Free, refl), tt)),
)
datum_of quoted role _ _ _ = ((quoted, Free, refl), tt)

pub slot_of : (quoted : Bool) (role : Role) (s : Slot Piece) →
    PartsOf (whats (slot_entries (slot_in quoted role s))) (whats (slot_entries s))
slot_of quoted role s =
    let inner : Slot Part = slot_in quoted role s in
    let parts : List (Entry Part) = perhaps inner.key (perhaps inner.datum (perhaps inner.trailing [])) in
    let pieces : List (Entry Piece) = perhaps s.key (perhaps s.datum (perhaps s.trailing [])) in
    subst (λ (ps : List Part). PartsOf ps (whats (slot_entries s))) (sym (whats-append inner.leads parts))
    (subst (λ (cs : List Piece). PartsOf (whats inner.leads ++ whats parts) cs) (sym (whats-append s.leads pieces))
    (PartsOf-append (whats inner.leads) (whats parts) (whats s.leads) (whats pieces)
    (subst (λ (ps : List Part). PartsOf ps (whats s.leads)) (sym (whats_of quoted Free s.leads))
    (map_of quoted Free (whats s.leads)))
    (datum_of quoted (role_behind s.key role) s.key s.datum s.trailing)))

-- a slot has the strands of its items
slot-signed : (ts : List Token) (in_list quoted : Bool) (role : Role) (s : Slot Piece) (items : List ℕ) →
    MayStandTogether in_list s.leads s.key s.datum → PiecesSigned ts (whats (slot_entries s)) items →
    PartSigned ts (slot_part ts (slot_in quoted role s)) items
slot-signed ts in_list quoted role s items m h =
    let inner : Slot Part = slot_in quoted role s in
    part_of-signed ts (slot_steps inner) items (slot_doc ts inner)
    (some_steps in_list quoted role s.leads s.key s.datum s.trailing m)
    (subst (λ (ps : List Part). PartsSigned ts ps items) (sym (slot_steps-are inner))
    (PartsOf-signed ts (whats (slot_entries inner)) (whats (slot_entries s)) items (slot_of quoted role s) h))
    (λ strands row. aligned-signed inner.leads (seq (row_docs ts (slot_steps inner))) strands
    (λ i flat. seq-signed (row_docs ts (slot_steps inner)) i flat strands (row i flat)))

-- the slots that entries are cut into have the strands of the entries' items, whatever roles their data have
pub slots-signed : (ts : List Token) (in_list quoted : Bool) (roles : Roles) (entries : List (Entry Piece))
    (slots : List (Slot Piece)) (items : List ℕ) → AreSlots in_list entries slots →
    PiecesSigned ts (whats entries) items →
    PartsSigned ts (slot_parts ts (slots_in quoted roles slots)) items
unfolding Sections slots_in
slots-signed ts in_list quoted roles entries [] items c h =
    subst (λ (es : List (Entry Piece)). PiecesSigned ts (whats es) items) c h
slots-signed ts in_list quoted roles entries (s ∷ slots) items c h =
    let cut : SectionsCut (PieceSigned ts) (whats (slot_entries s)) (whats c.0) items =
    Sections-cut (PieceSigned ts) (whats (slot_entries s)) (whats c.0) items
    (subst (λ (ps : List Piece). PiecesSigned ts ps items)
    (ap (λ (es : List (Entry Piece)). whats es) c.1 ∙ whats-append (slot_entries s) c.0) h) in (
      cut.front,
      cut.rest,
      cut.items_are,
      slot-signed ts in_list quoted (first_role roles) s cut.front c.3 cut.first,
      slots-signed ts in_list quoted (later_roles roles) c.0 slots cut.rest c.6 cut.second,
    )
