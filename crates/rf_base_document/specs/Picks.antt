-- Resolutions: what a document is once each of its choices is taken.
use Rattle.std.specs.Prelude.{◌≡◌, ℕ, ◌+◌, ◌⊎◌, Bool, List, [], ◌∷◌, ◌++◌, length, Some}
use Rattle.rf_base_document.specs.declared.directions.Dir.{Dir}
use Rattle.rf_base_document.specs.declared.directions.Dir.TheVariants.{Left, Right}
use Rattle.rf_base_document.specs.Document.{Doc, Text, Newline, Hard, Concat, Nest, Align, Reset, Flatten, Choice, Only, Charge}
use Rattle.rf_base_document.specs.Render.{Piece, Word, Break, Fee, Laid, render}

-- e is d without choices: each choice that is reached takes the next direction, itself before those of the side that it
-- takes, a first part before a second; no direction is left
unfoldable pub Picks : Doc → List Dir → Doc → Type 0
Picks (Text s len) choices e = (choices ≡ []) × (e ≡ Text s len)
Picks Newline choices e = (choices ≡ []) × (e ≡ Newline)
Picks Hard choices e = (choices ≡ []) × (e ≡ Hard)
Picks (Concat a b) choices e =
    (x : List Dir) × (y : List Dir) × (p : Doc) × (q : Doc) × (choices ≡ x ++ y) × (e ≡ Concat p q) × Picks a x p
    × Picks b y q
Picks (Nest n a) choices e = (p : Doc) × (e ≡ Nest n p) × Picks a choices p
Picks (Align a) choices e = (p : Doc) × (e ≡ Align p) × Picks a choices p
Picks (Reset a) choices e = (p : Doc) × (e ≡ Reset p) × Picks a choices p
Picks (Flatten a) choices e = (p : Doc) × (e ≡ Flatten p) × Picks a choices p
Picks (Choice a b) choices e =
    (rest : List Dir) × (((choices ≡ Left ∷ rest) × Picks a rest e) ⊎ ((choices ≡ Right ∷ rest) × Picks b rest e))
Picks (Only dir a) choices e = (rest : List Dir) × (choices ≡ dir ∷ rest) × Picks a rest e
Picks (Charge k a) choices e = (p : Doc) × (e ≡ Charge k p) × Picks a choices p

-- the choices pick a resolution of the document
abbrev pub HasPicked : Doc → List Dir → Type 0
HasPicked d choices = (e : Doc) × Picks d choices e

-- the choices pick a resolution that has this layout at this column and indentation, flat or not
abbrev pub LaidOutBy : Doc → List Dir → ℕ → ℕ → Bool → Laid → Type 0
LaidOutBy d choices column indentation flat whole =
    (e : Doc) × Picks d choices e × (render e column indentation flat ≡ Some whole)

-- a resolution of the document has a layout, flat or not; which place it is laid out at doesn't matter
abbrev pub HasLayout : Doc → Bool → Type 0
HasLayout d flat = (choices : List Dir) × (whole : Laid) × LaidOutBy d choices 0 0 flat whole

-- the number of texts, newlines and hard newlines of a resolution
unfoldable pub leaves_of : Doc → ℕ
leaves_of (Text s len) = 1
leaves_of Newline = 1
leaves_of Hard = 1
leaves_of (Concat a b) = leaves_of a + leaves_of b
leaves_of (Nest n a) = leaves_of a
leaves_of (Align a) = leaves_of a
leaves_of (Reset a) = leaves_of a
leaves_of (Flatten a) = leaves_of a
leaves_of (Choice a b) = leaves_of a + leaves_of b
leaves_of (Only dir a) = leaves_of a
leaves_of (Charge k a) = leaves_of a

-- the number of charges of a resolution
unfoldable pub charges_of : Doc → ℕ
charges_of (Text s len) = 0
charges_of Newline = 0
charges_of Hard = 0
charges_of (Concat a b) = charges_of a + charges_of b
charges_of (Nest n a) = charges_of a
charges_of (Align a) = charges_of a
charges_of (Reset a) = charges_of a
charges_of (Flatten a) = charges_of a
charges_of (Choice a b) = charges_of a + charges_of b
charges_of (Only dir a) = charges_of a
charges_of (Charge k a) = 1 + charges_of a

-- the weight of the resolution e that these choices pick: its texts, newlines, hard newlines and choices
abbrev pub weight_of : Doc → List Dir → ℕ
weight_of e choices = leaves_of e + length choices

-- a word or a break counts 1, a fee 0
abbrev pub mark_of : Piece → ℕ
mark_of (Word column s len) = 1
mark_of (Break indentation) = 1
mark_of (Fee k) = 0

-- the number of words and breaks
unfoldable pub marks_of : List Piece → ℕ
marks_of [] = 0
marks_of (piece ∷ pieces) = mark_of piece + marks_of pieces
