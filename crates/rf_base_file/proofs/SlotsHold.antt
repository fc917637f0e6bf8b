-- What holds of all entries holds of all that stands in the slots that they are cut into.
use Rattle.std.proofs.Common.{Bool, true, List, [], ◌∷◌, Option, Some, None}
use Rattle.std.specs.Prelude.{⊤}
use Rattle.std.specs.List.{AllByRecursion}
use Rattle.rf_base_tree.specs.Slots.{Sort, Remark, Keyword, Dotted, Datum, Entry, Slot}
use Rattle.rf_base_tree.specs.Cut.{slot, behind_comment, unless_empty, alone, trailed_by, before_leads, behind_datum, keyed_by, before_parts, behind_key, put_by, slots_of}

-- P holds of what the entries hold, and of an entry if there is one
abbrev pub EntriesHold : {A : Type 0} → (A → Type 0) → List (Entry A) → Type 0
EntriesHold P entries = AllByRecursion (λ e. P e.what) entries

abbrev pub PerhapsHolds : {A : Type 0} → (A → Type 0) → Option (Entry A) → Type 0
PerhapsHolds P None = ⊤
PerhapsHolds P (Some e) = P e.what

-- P holds of what the slot's entries hold
pub record SlotHolds {A : Type 0} (P : A → Type 0) (s : Slot A) : Type 0 where
  pub leads : EntriesHold P s.leads
  pub key : PerhapsHolds P s.key
  pub datum : PerhapsHolds P s.datum
  pub trailing : PerhapsHolds P s.trailing

abbrev pub SlotsHold : {A : Type 0} → (A → Type 0) → List (Slot A) → Type 0
SlotsHold P slots = AllByRecursion (λ s. SlotHolds P s) slots

slot_holds : {A : Type 0} (P : A → Type 0) (leads : List (Entry A)) (key datum trailing : Option (Entry A)) →
    EntriesHold P leads →
    PerhapsHolds P key → PerhapsHolds P datum → PerhapsHolds P trailing → SlotHolds P (slot leads key datum trailing)
slot_holds P leads key datum trailing h k l m = record { leads = h; key = k; datum = l; trailing = m }

alone_hold : {A : Type 0} (P : A → Type 0) (e : Entry A) (slots : List (Slot A)) → P e.what → SlotsHold P slots →
    SlotsHold P (alone e slots)
alone_hold P e slots h k = (slot_holds P [] None (Some e) None tt tt h tt, k)

comment_hold : {A : Type 0} (P : A → Type 0) (e : Entry A) (slots : List (Slot A)) → P e.what → SlotsHold P slots →
    SlotsHold P (behind_comment e slots)
comment_hold P e [] h k = (slot_holds P (e ∷ []) None None None (h, tt) tt tt tt, tt)
comment_hold P e (s ∷ slots) h k =
    (slot_holds P (e ∷ s.leads) s.key s.datum s.trailing (h, k.0.leads) k.0.key k.0.datum k.0.trailing, k.1)

unless_empty_hold : {A : Type 0} (P : A → Type 0) (leads : List (Entry A)) (key datum trailing : Option (Entry A))
    (slots : List (Slot A)) →
    EntriesHold P leads → PerhapsHolds P key → PerhapsHolds P datum → PerhapsHolds P trailing → SlotsHold P slots →
    SlotsHold P (unless_empty leads key datum trailing slots)
unless_empty_hold P [] None None trailing slots h k l m n = n
unless_empty_hold P [] None (Some d) trailing slots h k l m n = (slot_holds P [] None (Some d) trailing h k l m, n)
unless_empty_hold P [] (Some key) datum trailing slots h k l m n = (
  slot_holds P [] (Some key) datum trailing h k l m,
  n,
)
unless_empty_hold P (c ∷ leads) key datum trailing slots h k l m n = (
  slot_holds P (c ∷ leads) key datum trailing h k l m,
  n,
)

trailed_hold : {A : Type 0} (P : A → Type 0) (sort : Sort) (e c : Entry A) (leads : List (Entry A)) (s : Slot A)
    (slots : List (Slot A)) →
    P e.what → P c.what → EntriesHold P leads → SlotHolds P s → SlotsHold P slots →
    SlotsHold P (trailed_by sort e c leads s slots)
trailed_hold P (Remark true) e c leads s slots h k l m n = (
  slot_holds P [] None (Some e)
      (Some c) tt tt h k,
  unless_empty_hold P leads s.key s.datum s.trailing slots l m.key m.datum m.trailing n,
)
trailed_hold P _ e c leads s slots h k l m n = alone_hold P e (s ∷ slots) h (m, n)

leads_hold : {A : Type 0} (P : A → Type 0) (e : Entry A) (leads : List (Entry A)) (s : Slot A) (slots : List (Slot A)) →
    P e.what → EntriesHold P leads → SlotHolds P s → SlotsHold P slots → SlotsHold P (before_leads e leads s slots)
leads_hold P e [] s slots h k m n = alone_hold P e (s ∷ slots) h (m, n)
leads_hold P e (c ∷ leads) s slots h k m n = trailed_hold P c.sort e c leads s slots h k.0 k.1 m n

datum_hold : {A : Type 0} (P : A → Type 0) (e : Entry A) (slots : List (Slot A)) → P e.what → SlotsHold P slots →
    SlotsHold P (behind_datum e slots)
datum_hold P e [] h k = alone_hold P e [] h tt
datum_hold P e (s ∷ slots) h k = leads_hold P e s.leads s slots h k.0.leads k.0 k.1

keyed_hold : {A : Type 0} (P : A → Type 0) (sort : Sort) (e d : Entry A) (s : Slot A) (slots : List (Slot A)) →
    P e.what → P d.what → SlotHolds P s → SlotsHold P slots → SlotsHold P (keyed_by sort e d s slots)
keyed_hold P Datum e d s slots h k m n = (slot_holds P [] (Some e) (Some d) s.trailing tt h k m.trailing, n)
keyed_hold P _ e d s slots h k m n = datum_hold P e (s ∷ slots) h (m, n)

parts_hold : {A : Type 0} (P : A → Type 0) (e : Entry A) (leads : List (Entry A)) (key datum : Option (Entry A))
    (s : Slot A) (slots : List (Slot A)) →
    P e.what → PerhapsHolds P datum → SlotHolds P s → SlotsHold P slots →
    SlotsHold P (before_parts e leads key datum s slots)
parts_hold P e [] None (Some d) s slots h l m n = keyed_hold P d.sort e d s slots h l m n
parts_hold P e _ _ _ s slots h l m n = datum_hold P e (s ∷ slots) h (m, n)

key_hold : {A : Type 0} (P : A → Type 0) (e : Entry A) (slots : List (Slot A)) → P e.what → SlotsHold P slots →
    SlotsHold P (behind_key e slots)
key_hold P e [] h k = datum_hold P e [] h k
key_hold P e (s ∷ slots) h k = parts_hold P e s.leads s.key s.datum s slots h k.0.datum k.0 k.1

put_hold : {A : Type 0} (P : A → Type 0) (in_list : Bool) (sort : Sort) (e : Entry A) (slots : List (Slot A)) →
    P e.what → SlotsHold P slots → SlotsHold P (put_by in_list sort e slots)
put_hold P in_list (Remark trailing) e slots h k = comment_hold P e slots h k
put_hold P true Keyword e slots h k = key_hold P e slots h k
put_hold P true Dotted e slots h k = key_hold P e slots h k
put_hold P _ _ e slots h k = datum_hold P e slots h k

pub slots_hold : {A : Type 0} (P : A → Type 0) (in_list : Bool) (entries : List (Entry A)) → EntriesHold P entries →
    SlotsHold P (slots_of in_list entries)
unfolding slots_of
slots_hold P in_list [] h = tt
slots_hold P in_list (e ∷ entries) h =
    put_hold P in_list e.sort e (slots_of in_list entries) h.0 (slots_hold P in_list entries h.1)
