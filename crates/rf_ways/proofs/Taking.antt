-- The first of the slots that are still to come.
use Rattle.std.proofs.Common.{◌≡◌, ℕ, ◌<◌, Bool, true, Option, None, Some, List, [], ◌∷◌, refl, sym, ◌∙◌, subst, true≢false}
use Rattle.std.specs.Prelude.{is_some}
use Rattle.std.specs.List.{AllByRecursion}
use Rattle.rf_base_grammar.specs.Token.{Token}
use Rattle.rf_base_tree.specs.Trees.{Tree}
use Rattle.rf_base_tree.specs.Slots as definition
use Rattle.rf_tree.specs.Slots.{NodeSlot, NodeSlotStands, NodeSlotsStand, NodeSlotsBelow, parts_in, read_slot}
use Rattle.rf_tree.specs.Ahead.{TakesFirst, TakesAlone, BeginWithDatum, alone_slot}
use Rattle.rf_tree.specs.declared.nodes.At.{At}
use Rattle.rf_tree.specs.declared.cursors.SlotRef.{SlotRef}
use Rattle.rf_tree.specs.Told.{Node}

-- what was taken stood first, and where nothing was nothing stood there
pub taken : (all rest : List NodeSlot) (o : Option SlotRef) (s : SlotRef) → o ≡ Some s → TakesFirst all o rest → all ≡ read_slot s ∷ rest
taken all rest o s is h = subst (λ (x : Option SlotRef). TakesFirst all x rest) is h

pub none_taken : (all rest : List NodeSlot) (o : Option SlotRef) → o ≡ None → TakesFirst all o rest → (all ≡ []) × (rest ≡ [])
none_taken all rest o is h = subst (λ (x : Option SlotRef). TakesFirst all x rest) is h

-- the same of a datum alone
pub alone_taken : (all rest : List NodeSlot) (o : Option At) (at : At) → o ≡ Some at → TakesAlone all o rest → all ≡ alone_slot at ∷ rest
alone_taken all rest o at is h = subst (λ (x : Option At). TakesAlone all x rest) is h

pub none_alone : (all rest : List NodeSlot) (o : Option At) → o ≡ None → TakesAlone all o rest → all ≡ rest
none_alone all rest o is h = subst (λ (x : Option At). TakesAlone all x rest) is h

-- a datum begins the first
pub begun_with : (all : List NodeSlot) (o : Option At) (at : At) → o ≡ Some at → BeginWithDatum all o → BeginWithDatum all (Some at)
begun_with all o at is h = subst (λ (x : Option At). BeginWithDatum all x) is h

pub some_alone : (all rest : List NodeSlot) (o : Option At) (b : Bool) → b ≡ is_some o → b ≡ true → TakesAlone all o rest → (slot : NodeSlot) × (all ≡ slot ∷ rest) × (true ≡ is_some slot.datum)
some_alone all rest None b is t h = absurd (true≢false (sym t ∙ is))
some_alone all rest (Some at) b is t h = (alone_slot at, h, refl)

pub below_cut : (n : ℕ) (all : List NodeSlot) (k : NodeSlot) (others : List NodeSlot) → all ≡ k ∷ others → NodeSlotsBelow n all → AllByRecursion (λ at. at.0 < n) (parts_in k) × NodeSlotsBelow n others
below_cut n all k others is h = subst (λ (ks : List NodeSlot). NodeSlotsBelow n ks) is h

-- the first of some slots, and the others
pub record FirstSlot (ts : List Token) (nodes : List Node) (kept : NodeSlot) (others : List NodeSlot) (ss : List (definition.Slot Tree)) : Type 0 where
  pub slot : definition.Slot Tree
  pub slots : List (definition.Slot Tree)
  pub is : ss ≡ slot ∷ slots
  pub first : NodeSlotStands ts nodes kept slot
  pub rest : NodeSlotsStand ts nodes others slots

pub first_slot : (ts : List Token) (nodes : List Node) (all : List NodeSlot) (k : NodeSlot) (others : List NodeSlot) (ss : List (definition.Slot Tree)) → all ≡ k ∷ others → NodeSlotsStand ts nodes all ss → FirstSlot ts nodes k others ss
first_slot ts nodes all k others ss is h = go ss (subst (λ (ks : List NodeSlot). NodeSlotsStand ts nodes ks ss) is h)
  where
    go : (ss : List (definition.Slot Tree)) → NodeSlotsStand ts nodes (k ∷ others) ss → FirstSlot ts nodes k others ss
    go [] h = absurd h
    go (s ∷ ss) h = record { slot = s; slots = ss; is = refl; first = h.0; rest = h.1 }

pub no_slots : (ts : List Token) (nodes : List Node) (all : List NodeSlot) (ss : List (definition.Slot Tree)) → all ≡ [] → NodeSlotsStand ts nodes all ss → ss ≡ []
no_slots ts nodes all ss is h = go ss (subst (λ (ks : List NodeSlot). NodeSlotsStand ts nodes ks ss) is h)
  where
    go : (ss : List (definition.Slot Tree)) → NodeSlotsStand ts nodes [] ss → ss ≡ []
    go [] h = refl
    go (s ∷ ss) h = absurd h
