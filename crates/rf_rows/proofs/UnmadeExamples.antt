-- Worked examples of lists that aren't made of pieces: a definition that changes its meaning fails here.
use Rattle.std.proofs.Common.{◌≡◌, ℕ, ◌<◌, true, false, List, [], ◌∷◌, Option, Some, None, refl, sym, ap, ◌∙◌, subst, arith}
use Rattle.std.specs.Str.{chars}
use Rattle.rf_base_document.specs.declared.directions.Dir.{Dir}
use Rattle.rf_base_document.specs.declared.directions.Dir.TheVariants.{Left, Right}
use Rattle.rf_base_document.specs.declared.limits.TheConstants.{LAYOUT_LIMIT}
use Rattle.rf_base_document.specs.Render.{Piece}
use Rattle.rf_base_lines.specs.Spelled.{Spelled, spelled, spelled_line}
use Rattle.rf_ways.specs.NodeDocuments.{node_doc}
use Rattle.rf_rows.specs.declared.cells.Cell.{Cell}
use Rattle.rf_rows.specs.declared.layouts.Layouts.{Layouts}
use Rattle.rf_rows.specs.declared.layouts.Layouts.TheVariants.{Bare, One}
use Rattle.rf_rows.specs.declared.layouts.Layouts.TheVariants as layouts
use Rattle.rf_rows.specs.declared.layouts.Marks.{Marks}
use Rattle.rf_rows.specs.declared.layouts.Which.TheVariants.{First, Second}
use Rattle.rf_rows.specs.declared.unmade.ListLine.{ListLine}
use Rattle.rf_rows.specs.declared.unmade.Unmade.{Unmade}
use Rattle.rf_rows.specs.Layouts.{Filled, cell_doc, AreLayouts, AreCellLayouts}
use Rattle.rf_rows.specs.Nodes.{nothing, layout_at, others_doc}
use Rattle.rf_rows.specs.Unmade.{list_doc, written, IsLineOf, turns_of, IsUnmade, IsKept, HasLine, HaveLines, IsMade, AllAreMade}
use Rattle.rf_rows.specs.Laying.{GainsChoices, PassesByChoices}

-- a list behind one choice of others, with two where it isn't flat and one where it is
abbrev list : ListLine → Unmade
list line = record { line = line; turns = 1; loose = 2; flat = 1 }

abbrev turns : List Dir
turns = Left ∷ Right ∷ Left ∷ Right ∷ Left ∷ []

turns_are : (line : ListLine) → (turns_of turns (list line) false ≡ Right ∷ Left ∷ []) × (turns_of turns (list line) true ≡ Right ∷ [])
turns_are line = (refl, refl)

-- its choices are there
too_few : (line : ListLine) → IsUnmade (Left ∷ Right ∷ Left ∷ []) (list line) → ⊥
too_few line h = omega (arith, h.within)

-- it is written as its line says, flat by its own choices; otherwise the line isn't its own
written_is : (line : ListLine) → line.columns ≡ 7 → line.words ≡ 3 → written line (Left ∷ []) ≡ spelled 7 (Left ∷ []) (chars line.text.now) 3
written_is line c w = ap (λ n. spelled n (Left ∷ []) (chars line.text.now) line.words) c ∙ ap (λ n. spelled 7 (Left ∷ []) (chars line.text.now) n) w

own_line : (line : ListLine) → IsUnmade turns (list line) → (spelled_line (list_doc line) false ≡ Some (written line (Right ∷ Left ∷ [])))
    × (spelled_line (list_doc line) true ≡ Some (written line (Right ∷ [])))
own_line line h = (h.line.loose_is, h.line.flat_is)

never_none : (line : ListLine) (loose flat : List Dir) → spelled_line (list_doc line) false ≡ None → IsLineOf line loose flat → ⊥
never_none line loose flat none h = (let is : Some (written line loose) ≡ None = sym h.loose_is ∙ none in cc)

abbrev how_of : Option Spelled → List Dir
how_of None = []
how_of (Some l) = l.how

other_choices : (line : ListLine) (flat : List Dir) → spelled_line (list_doc line) false ≡ Some (written line (Left ∷ [])) → IsLineOf line (Right ∷ []) flat → ⊥
other_choices line flat is h = (let same : Right ∷ [] ≡ Left ∷ [] = ap how_of (sym h.loose_is ∙ is) in cc)

-- its choices are put behind the others, those where it isn't flat first
kept_is : (line : ListLine) (new : List Dir) → IsKept (Left ∷ []) new line (Right ∷ Left ∷ []) (Right ∷ []) (list line) → new ≡ Left ∷ Right ∷ Left ∷ Right ∷ []
kept_is line new h = h.turns_are

kept_first : (line : ListLine) (new : List Dir) → IsKept [] new line (Right ∷ Left ∷ []) (Right ∷ []) (list line) → ⊥
kept_first line new h = omega (arith, h.first)

-- its document is that of its node, whatever pieces there are, and it has no other layout
document_is : (m : Marks) (count : ℕ) (r : Filled) (line : ListLine) → cell_doc m count r (layouts.Unmade (list line)) ≡ node_doc line.placed
unfolding cell_doc
document_is m count r line = refl

layouts_are : (line : ListLine) → (layout_at (layouts.Unmade (list line)) First ≡ None) × (layout_at (layouts.Unmade (list line)) Second ≡ None)
    × (others_doc (λ l. nothing) (layouts.Unmade (list line)) ≡ nothing)
layouts_are line = (refl, refl, refl)

-- no pieces have its layouts, and it isn't made
never_of_pieces : (line : ListLine) → (AreLayouts (layouts.Unmade (list line)) 2 → ⊥) × (IsMade (layouts.Unmade (list line)) → ⊥) × IsMade Bare × (AreCellLayouts Bare 1 → ⊥)
never_of_pieces line = (λ h. h, λ h. h, tt, λ h. absurd (omega (arith, h)))

one_unmade : (line : ListLine) (c : Cell) → c.layouts ≡ layouts.Unmade (list line) → AllAreMade (c ∷ []) → ⊥
unfolding AllAreMade
one_unmade line c is h = (let made : IsMade (layouts.Unmade (list line)) = subst (λ (l : Layouts). IsMade l) is (h 0 c refl) in made)

one_line : (line : ListLine) (c : Cell) → c.layouts ≡ layouts.Unmade (list line) → HaveLines (c ∷ []) [] → ⊥
unfolding HaveLines
one_line line c is h = (let its : IsUnmade [] (list line) = subst (λ (l : Layouts). HasLine [] l) is (h 0 c refl) in omega (arith, its.within))

-- choices that are counted weigh one each
counted : {P : Type 0} (holds : P → P → List Piece → ℕ → Type 0) (blank old new : P) → holds blank old [] 2 → GainsChoices holds old new 3 → holds blank new [] 5
counted holds blank old new held gains = gains blank [] 2 held

never_past : {P : Type 0} (holds : P → P → List Piece → ℕ → Type 0) (blank old : P) → holds blank old [] 0 → PassesByChoices holds old 2 → ⊥
never_past holds blank old held passes = (let past : LAYOUT_LIMIT < 2 = passes blank [] 0 held in omega (arith, past))
