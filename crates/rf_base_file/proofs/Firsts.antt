-- The numbers of first items, from a least one on, or where none but the first of a row is the first item of all.
use Rattle.std.proofs.Common.{arith, ◌≡◌, ◌≢◌, ℕ, ◌≤◌, Bool, List, [], ◌∷◌, ◌++◌, map, take, drop, refl, sym, ap, ◌∙◌, subst}
use Rattle.std.specs.Prelude.{⊤}
use Rattle.std.specs.List.{AllByRecursion}
use Rattle.std.proofs.lemmas.List.{map-append, take-map, drop-map}
use Rattle.rf_base_document.specs.Document.{Doc}
use Rattle.rf_base_grammar.specs.Token.{Token}
use Rattle.rf_base_tree.specs.declared.separators.Want.{Want}
use Rattle.rf_base_tree.specs.Slots.{Entry, Slot, slot_entries, AreSlots}
use Rattle.rf_base_file.specs.declared.shapes.Role.{Role}
use Rattle.rf_base_file.specs.declared.shapes.Roles.{Roles}
use Rattle.rf_base_file.specs.Rows.{Part, Step, steps_wanting, whats, slot_steps, slot_doc, part_of, slot_parts}
use Rattle.rf_base_file.specs.Ways.{first_role, later_roles, Piece, slot_in, slots_in}
use Rattle.rf_base_file.proofs.Each.{each-take, each-drop}
use Rattle.rf_base_file.proofs.Parts.{step_parts}
use Rattle.rf_base_file.proofs.SlotStrands.{whats-append, slot_steps-are, some_steps, PartsOf, slot_of}

-- the numbers are from a least one on; those behind the first are; and the first is 0, and those behind it are later
abbrev pub Later : ℕ → List ℕ → Type 0
Later least ns = AllByRecursion (λ n. least ≤ n) ns

abbrev pub BehindFirst : ℕ → List ℕ → Type 0
BehindFirst least [] = ⊤
BehindFirst least (n ∷ ns) = Later least ns

abbrev pub Begins : List ℕ → Type 0
Begins [] = ⊤
Begins (n ∷ ns) = (n ≡ 0) × Later 1 ns

pub none_early : (ns : List ℕ) → Later 0 ns
none_early [] = tt
none_early (n ∷ ns) = (omega arith, none_early ns)

pub later_behind : (least : ℕ) (ns : List ℕ) → Later least ns → BehindFirst least ns
later_behind least [] h = tt
later_behind least (n ∷ ns) h = h.1

pub begins_behind : (ns : List ℕ) → Begins ns → BehindFirst 1 ns
begins_behind [] h = tt
begins_behind (n ∷ ns) h = h.1

-- what holds of each of a list holds of each of its parts
pub each_front : {A : Type 0} (P : A → Type 0) (xs ys : List A) → AllByRecursion P (xs ++ ys) → AllByRecursion P xs
each_front P [] ys h = tt
each_front P (x ∷ xs) ys h = (h.0, each_front P xs ys h.1)

pub each_back : {A : Type 0} (P : A → Type 0) (xs ys : List A) → AllByRecursion P (xs ++ ys) → AllByRecursion P ys
each_back P [] ys h = h
each_back P (x ∷ xs) ys h = each_back P xs ys h.1

pub later_front : (least : ℕ) (xs ys : List ℕ) → Later least (xs ++ ys) → Later least xs
later_front least xs ys h = each_front (λ n. least ≤ n) xs ys h

pub later_back : (least : ℕ) (xs ys : List ℕ) → Later least (xs ++ ys) → Later least ys
later_back least xs ys h = each_back (λ n. least ≤ n) xs ys h

pub behind_front : (least : ℕ) (xs ys : List ℕ) → BehindFirst least (xs ++ ys) → BehindFirst least xs
behind_front least [] ys h = tt
behind_front least (x ∷ xs) ys h = later_front least xs ys h

pub behind_back : (least : ℕ) (xs ys : List ℕ) → BehindFirst least (xs ++ ys) → BehindFirst least ys
behind_back least [] ys h = h
behind_back least (x ∷ xs) ys h = later_behind least ys (later_back least xs ys h)

begins_front : (xs ys : List ℕ) → Begins (xs ++ ys) → Begins xs
begins_front [] ys h = tt
begins_front (x ∷ xs) ys h = (h.0, later_front 1 xs ys h.1)

begins_back : (xs ys : List ℕ) → xs ≢ [] → Begins (xs ++ ys) → Later 1 ys
begins_back [] ys n h = absurd (n refl)
begins_back (x ∷ xs) ys n h = later_back 1 xs ys h.1

-- the numbers of the first items of parts, of steps and of entries
abbrev pub firsts : List Part → List ℕ
firsts parts = map (λ p. p.first) parts

abbrev pub step_firsts : List Step → List ℕ
step_firsts steps = map (λ s. s.part.first) steps

abbrev pub entry_firsts : List (Entry Piece) → List ℕ
entry_firsts entries = map (λ p. p.first) (whats entries)

entry_firsts-append : (es fs : List (Entry Piece)) → entry_firsts (es ++ fs) ≡ entry_firsts es ++ entry_firsts fs
entry_firsts-append es fs =
    ap (λ (ps : List Piece). map (λ (p : Piece). p.first) ps) (whats-append es fs)
    ∙ map-append (λ (p : Piece). p.first) (whats es) (whats fs)

-- of parts with the same want before each, of some of them, and of others behind them
pub wanting_later : (least : ℕ) (w : Want) (parts : List Part) → Later least (firsts parts) → Later least (step_firsts (steps_wanting w parts))
wanting_later least w [] h = tt
wanting_later least w (p ∷ parts) h = (h.0, wanting_later least w parts h.1)

pub more_later : (least : ℕ) (w : Want) (parts : List Part) (steps : List Step) → Later least (firsts parts) → Later least (step_firsts steps) →
    Later least (step_firsts (steps_wanting w parts ++ steps))
more_later least w [] steps h k = k
more_later least w (p ∷ parts) steps h k = (h.0, more_later least w parts steps h.1 k)

pub take_later : (least : ℕ) (n : ℕ) (parts : List Part) → Later least (firsts parts) → Later least (firsts (take n parts))
take_later least n parts h =
    subst (Later least) (take-map (λ (p : Part). p.first) n parts) (each-take (λ k. least ≤ k) n (firsts parts) h)

pub drop_later : (least : ℕ) (n : ℕ) (parts : List Part) → Later least (firsts parts) → Later least (firsts (drop n parts))
drop_later least n parts h =
    subst (Later least) (drop-map (λ (p : Part). p.first) n parts) (each-drop (λ k. least ≤ k) n (firsts parts) h)

-- the steps of a slot begin where its entries do
parts_firsts : (steps : List Step) → step_firsts steps ≡ firsts (step_parts steps)
unfolding step_parts
parts_firsts [] = refl
parts_firsts (s ∷ steps) = ap (λ (ns : List ℕ). s.part.first ∷ ns) (parts_firsts steps)

pieces_firsts : (parts : List Part) (pieces : List Piece) → PartsOf parts pieces →
    firsts parts ≡ map (λ (p : Piece). p.first) pieces
unfolding PartsOf
pieces_firsts [] [] h = refl
pieces_firsts [] (c ∷ pieces) h = absurd h
pieces_firsts (p ∷ parts) [] h = absurd h
pieces_firsts (p ∷ parts) (c ∷ pieces) h =
    let first : p.first ≡ c.first = ap (λ (q : Part). q.first) h.0.2 in
    let rest : firsts parts ≡ map (λ (q : Piece). q.first) pieces = pieces_firsts parts pieces h.1 in
    ap (λ (n : ℕ). n ∷ firsts parts) first ∙ ap (λ (ns : List ℕ). c.first ∷ ns) rest

slot_firsts : (quoted : Bool) (role : Role) (s : Slot Piece) →
    step_firsts (slot_steps (slot_in quoted role s)) ≡ entry_firsts (slot_entries s)
slot_firsts quoted role s =
    parts_firsts (slot_steps (slot_in quoted role s))
    ∙ ap (λ (ps : List Part). firsts ps) (slot_steps-are (slot_in quoted role s))
    ∙ pieces_firsts (whats (slot_entries (slot_in quoted role s))) (whats (slot_entries s)) (slot_of quoted role s)

-- there are steps, and those behind the first one begin later
abbrev pub IsRow : ℕ → List Step → Type 0
IsRow least [] = ⊥
IsRow least (s ∷ steps) = Later least (step_firsts steps)

abbrev pub AreRows : ℕ → List (Slot Part) → Type 0
AreRows least slots = AllByRecursion (λ s. IsRow least (slot_steps s)) slots

is_row : (least : ℕ) (steps : List Step) → steps ≢ [] → BehindFirst least (step_firsts steps) → IsRow least steps
is_row least [] n h = absurd (n refl)
is_row least (s ∷ steps) n h = h

-- the part of steps begins with the first of them
part_later : (least : ℕ) (steps : List Step) (d : Doc) → steps ≢ [] → Later least (step_firsts steps) → least ≤ (part_of steps d).first
part_later least [] d n h = absurd (n refl)
part_later least (s ∷ steps) d n h = h.0

part_begins : (steps : List Step) (d : Doc) → steps ≢ [] → Begins (step_firsts steps) → (part_of steps d).first ≡ 0
part_begins [] d n h = absurd (n refl)
part_begins (s ∷ steps) d n h = h.0

some_firsts : (steps : List Step) → steps ≢ [] → step_firsts steps ≢ []
some_firsts [] n = λ e. n refl
some_firsts (s ∷ steps) n = λ e. cc

-- the slots that entries are cut into are rows, where all entries behind the first one begin late enough
cut_firsts : (entries : List (Entry Piece)) (s : Slot Piece) (after : List (Entry Piece)) (quoted : Bool)
    (role : Role) → entries ≡ slot_entries s ++ after →
    entry_firsts entries ≡ step_firsts (slot_steps (slot_in quoted role s)) ++ entry_firsts after
cut_firsts entries s after quoted role e =
    ap (λ (es : List (Entry Piece)). entry_firsts es) e ∙ entry_firsts-append (slot_entries s) after
    ∙ ap (λ (ns : List ℕ). ns ++ entry_firsts after) (sym (slot_firsts quoted role s))

pub slots_rows : (least : ℕ) (in_list quoted : Bool) (roles : Roles) (entries : List (Entry Piece)) (slots : List (Slot Piece)) →
    AreSlots in_list entries slots → BehindFirst least (entry_firsts entries) → AreRows least (slots_in quoted roles slots)
unfolding slots_in
slots_rows least in_list quoted roles entries [] h b = tt
slots_rows least in_list quoted roles entries (s ∷ slots) h b =
    let role : Role = first_role roles in
    let steps : List Step = slot_steps (slot_in quoted role s) in
    let row : BehindFirst least (step_firsts steps ++ entry_firsts h.0) =
    subst (BehindFirst least) (cut_firsts entries s h.0 quoted role h.1) b in (
      is_row least steps (some_steps in_list quoted role s.leads s.key s.datum s.trailing h.3)
          (behind_front least (step_firsts steps) (entry_firsts h.0) row),
      slots_rows least in_list quoted (later_roles roles) h.0 slots h.6
          (behind_back least (step_firsts steps) (entry_firsts h.0) row),
    )

-- so begin the slots as parts
pub slots_later : (least : ℕ) (ts : List Token) (in_list quoted : Bool) (roles : Roles) (entries : List (Entry Piece))
    (slots : List (Slot Piece)) → AreSlots in_list entries slots → Later least (entry_firsts entries) →
    Later least (firsts (slot_parts ts (slots_in quoted roles slots)))
unfolding slots_in
slots_later least ts in_list quoted roles entries [] h b = tt
slots_later least ts in_list quoted roles entries (s ∷ slots) h b =
    let role : Role = first_role roles in
    let inner : Slot Part = slot_in quoted role s in
    let steps : List Step = slot_steps inner in
    let row : Later least (step_firsts steps ++ entry_firsts h.0) =
    subst (Later least) (cut_firsts entries s h.0 quoted role h.1) b in (
      part_later least steps (slot_doc ts inner) (some_steps in_list quoted role s.leads s.key s.datum s.trailing h.3)
          (later_front least (step_firsts steps) (entry_firsts h.0) row),
      slots_later least ts in_list quoted (later_roles roles) h.0 slots h.6
          (later_back least (step_firsts steps) (entry_firsts h.0) row),
    )

pub slots_begin : (ts : List Token) (in_list quoted : Bool) (roles : Roles) (entries : List (Entry Piece))
    (slots : List (Slot Piece)) → AreSlots in_list entries slots → Begins (entry_firsts entries) →
    Begins (firsts (slot_parts ts (slots_in quoted roles slots)))
unfolding slots_in
slots_begin ts in_list quoted roles entries [] h b = tt
slots_begin ts in_list quoted roles entries (s ∷ slots) h b =
    let role : Role = first_role roles in
    let inner : Slot Part = slot_in quoted role s in
    let steps : List Step = slot_steps inner in
    let some : steps ≢ [] = some_steps in_list quoted role s.leads s.key s.datum s.trailing h.3 in
    let row : Begins (step_firsts steps ++ entry_firsts h.0) =
    subst Begins (cut_firsts entries s h.0 quoted role h.1) b in (
      part_begins steps (slot_doc ts inner) some (begins_front (step_firsts steps) (entry_firsts h.0) row),
      slots_later 1 ts in_list quoted (later_roles roles) h.0 slots h.6
          (begins_back (step_firsts steps) (entry_firsts h.0) (some_firsts steps some) row),
    )
