-- The steps that are written for a slot are those of the definition, but for what is wanted before the first, where no
-- gap stands.
use Rattle.std.proofs.Common.{◌≡◌, ℕ, Option, None, Some, List, [], ◌∷◌, ◌++◌, unwrap_or, refl, ap}
use Rattle.std.specs.Prelude.{⊤}
use Rattle.rf_base_document.specs.Document.{Doc}
use Rattle.rf_base_grammar.specs.Token.{Token}
use Rattle.rf_base_tree.specs.Slots.{Entry}
use Rattle.rf_base_tree.specs.Slots as definition
use Rattle.rf_base_tree.specs.declared.separators.Want.TheVariants as want
use Rattle.rf_base_file.specs.Rows.{Part as a_part, Step, row_docs, steps_wanting, whats, perhaps_step, lead_steps, datum_steps, slot_steps, part_of}
use Rattle.rf_ways.specs.Steps.{last_behind, want_behind}
use Rattle.rf_ways.proofs.RowSteps.{last_behind-some}

-- the same steps, but for what is wanted before the first
abbrev pub Alike : List Step → List Step → Type 0
Alike [] [] = ⊤
Alike [] (t ∷ b) = ⊥
Alike (s ∷ a) [] = ⊥
Alike (s ∷ a) (t ∷ b) = (s.part ≡ t.part) × (a ≡ b)

pub alike_docs : (ts : List Token) (a b : List Step) → Alike a b → row_docs ts a ≡ row_docs ts b
alike_docs ts [] [] h = refl
alike_docs ts [] (t ∷ b) h = absurd h
alike_docs ts (s ∷ a) [] h = absurd h
alike_docs ts (s ∷ a) (t ∷ b) h = rw (h.0, h.1) refl

pub alike_part : (d : Doc) (a b : List Step) → Alike a b → part_of a d ≡ part_of b d
alike_part d [] [] h = refl
alike_part d [] (t ∷ b) h = absurd h
alike_part d (s ∷ a) [] h = absurd h
alike_part d (s ∷ a) (t ∷ b) h = rw (h.0, h.1) refl

-- the steps that are written behind comments, and for a slot
abbrev datum_written : Option (Entry a_part) → Option (Entry a_part) → Option (Entry a_part) → List Step
datum_written key datum trailing =
    perhaps_step want.Line key [] ++ (perhaps_step (want_behind key) datum [] ++ perhaps_step want.Space trailing [])

abbrev pub steps_written_for : definition.Slot a_part → List Step
steps_written_for s = steps_wanting want.Line (whats s.leads) ++ datum_written s.key s.datum s.trailing

datum_same : (key datum trailing : Option (Entry a_part)) → datum_written key datum trailing ≡ datum_steps want.Line key datum trailing
datum_same None None None = refl
datum_same None None (Some t) = refl
datum_same None (Some d) None = refl
datum_same None (Some d) (Some t) = refl
datum_same (Some k) None None = refl
datum_same (Some k) None (Some t) = refl
datum_same (Some k) (Some d) None = refl
datum_same (Some k) (Some d) (Some t) = refl

datum_alike : (key datum trailing : Option (Entry a_part)) → Alike (datum_written key datum trailing) (datum_steps want.Nothing key datum trailing)
datum_alike None None None = tt
datum_alike None None (Some t) = (refl, refl)
datum_alike None (Some d) None = (refl, refl)
datum_alike None (Some d) (Some t) = (refl, refl)
datum_alike (Some k) None None = (refl, refl)
datum_alike (Some k) None (Some t) = (refl, refl)
datum_alike (Some k) (Some d) None = (refl, refl)
datum_alike (Some k) (Some d) (Some t) = (refl, refl)

leads_alike : (leads : List (Entry a_part)) (key datum trailing : Option (Entry a_part)) → Alike (steps_wanting want.Line (whats leads) ++ datum_written key datum trailing) (lead_steps want.Nothing (whats leads) (λ w. datum_steps w key datum trailing))
leads_alike [] key datum trailing = datum_alike key datum trailing
leads_alike (c ∷ leads) key datum trailing =
    (refl, ap (λ (steps : List Step). steps_wanting want.Line (whats leads) ++ steps) (datum_same key datum trailing))

pub slot_alike : (s : definition.Slot a_part) → Alike (steps_written_for s) (slot_steps s)
slot_alike s = leads_alike s.leads s.key s.datum s.trailing

-- the last item of these steps, and their document, are those of their part
pub last_is : (steps : List Step) (d : Doc) → unwrap_or (last_behind None steps) 0 ≡ (part_of steps d).last
unfolding last_behind
last_is [] d = refl
last_is (s ∷ steps) d = ap (λ (l : Option ℕ). unwrap_or l 0) (last_behind-some s.part.last steps)
