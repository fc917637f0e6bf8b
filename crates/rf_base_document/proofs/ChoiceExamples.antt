-- Worked examples of resolutions and cores: a definition that changes its meaning fails here.
use Rattle.std.proofs.Common.{◌≡◌, inl, inr, false, true, [], ◌∷◌, refl, Some, None}
use lib.Chars.{codes}
use Rattle.rf_base_document.specs.declared.directions.Dir.TheVariants.{Left, Right}
use Rattle.rf_base_document.specs.Document.{Doc, Text, Newline, Hard, Concat, Nest, Align, Reset, Flatten, Choice, Only, Charge, plain_text}
use Rattle.rf_base_document.specs.Graph.{TextNode, OnlyNode, StandsFor}
use Rattle.rf_base_document.specs.Picks.{Picks, LaidOutBy, weight_of, leaves_of, charges_of}
use Rattle.rf_base_document.specs.Render.{Word, Break, laid, render}
use Rattle.rf_base_document.specs.Simple.{IsCore, simple}

abbrev a : Doc
a = plain_text (codes "a")

abbrev b : Doc
b = plain_text (codes "b")

abbrev c : Doc
c = plain_text (codes "c")

-- a choice gives its own direction first, then those of the side that it takes
outer_first : Picks (Choice (Choice a b) c) (Left ∷ Right ∷ []) b
unfolding Picks
outer_first = (Right ∷ [], inl (refl, ([], inr (refl, (refl, refl)))))

-- a first part gives its directions before a second
first_part_first : Picks (Concat (Choice a b) (Choice b c)) (Left ∷ Right ∷ []) (Concat a c)
unfolding Picks
first_part_first = (
  Left ∷ [],
  Right ∷ [],
  a,
  c,
  refl,
  refl,
  ([], inl (refl, (refl, refl))),
  ([], inr (refl, (refl, refl))),
)

-- a direction that is left over picks nothing, and neither does one that is missing
none_left_over : (e : Doc) → Picks a (Left ∷ []) e → ⊥
unfolding Picks
none_left_over e h = cc

only_takes_its_direction : (e : Doc) → Picks (Only Right a) (Left ∷ []) e → ⊥
unfolding Picks
only_takes_its_direction e h = cc

only_is_its_part : Picks (Only Right (Nest 2 a)) (Right ∷ []) (Nest 2 a)
unfolding Picks
only_is_its_part = ([], refl, (a, refl, (refl, refl)))

-- charges don't count in the weight, choices do
weight_counts : weight_of (Concat (Charge 3 a) (Nest 1 Newline)) (Left ∷ Right ∷ []) ≡ 4
unfolding leaves_of
weight_counts = refl

-- flat in flat, a hard newline in a choice, one side, no side
sides_left : (simple (Flatten (Concat Newline (Flatten a))) false ≡ Some (Concat (Text (codes " ") 1) a))
    × (simple (Flatten (Choice (Concat a Hard) (Reset b))) false ≡ Some (Only Right (Reset b)))
    × (simple (Choice Hard (Align Newline)) false ≡ Some (Choice Newline (Align Newline)))
    × (simple (Nest 2 (Choice (Flatten Hard) (Charge 4 (Flatten (Concat Hard a))))) false ≡ None)
unfolding simple
sides_left = (refl, refl, refl, refl)

-- an only of a core is one node
only_stands : StandsFor (TextNode (codes "a") 1 ∷ OnlyNode Left 0 ∷ []) 1 (Only Left a)
unfolding StandsFor
only_stands = (0, refl, refl)

-- no direction is left over at a newline or a hard one, and what stands around a part stays
none_left_at_newline : (e : Doc) → Picks Newline (Left ∷ []) e → ⊥
unfolding Picks
none_left_at_newline e h = cc

none_left_at_hard : (e : Doc) → Picks Hard (Left ∷ []) e → ⊥
unfolding Picks
none_left_at_hard e h = cc

abbrev around : Doc → Doc
around d = Align (Reset (Flatten (Charge 2 d)))

around_its_part : Picks (around (Choice Newline Hard)) (Right ∷ []) (around Hard)
unfolding Picks
around_its_part = (
  Reset (Flatten (Charge 2 Hard)),
  refl,
  (Flatten (Charge 2 Hard), refl, (Charge 2 Hard, refl, (Hard, refl, ([], inr (refl, (refl, refl)))))),
)

-- a layout by choices is that at its place, flat or not
broken_at_its_place : LaidOutBy (Choice Newline a) (Left ∷ []) 3 2 false (laid (Break 2 ∷ []) 2)
unfolding Picks render
broken_at_its_place = (Newline, ([], inl (refl, (refl, refl))), refl)

flat_at_its_place : LaidOutBy (Choice Newline a) (Left ∷ []) 3 2 true (laid (Word 3 (codes " ") 1 ∷ []) 4)
unfolding Picks render
flat_at_its_place = (Newline, ([], inl (refl, (refl, refl))), refl)

-- a leaf is a text, a newline or a hard one, and a charge counts once, whatever it is; of a choice both sides do
leaves_of_sides : leaves_of (Choice (Concat Newline Hard) (Align (Reset (Flatten (Only Left a))))) ≡ 3
unfolding leaves_of
leaves_of_sides = refl

charges_of_sides : charges_of (Choice (Charge 7 a) (Concat (Charge 5 (Charge 0 Hard)) Newline)) ≡ 3
unfolding charges_of
charges_of_sides = refl

-- what is flattened and a hard newline are no core, wherever they stand
newline_is_core : IsCore (Nest 1 (Align (Reset (Only Left (Charge 2 (Choice (Concat a Newline) b))))))
unfolding IsCore
newline_is_core = ((tt, tt), tt)

flattened_is_none : IsCore (Flatten a) → ⊥
unfolding IsCore
flattened_is_none h = h

hard_is_none : IsCore (Nest 1 (Align (Reset (Only Left (Charge 2 (Choice (Concat a Hard) b)))))) → ⊥
unfolding IsCore
hard_is_none h = h.0.1

first_part_is_none : IsCore (Concat Hard a) → ⊥
unfolding IsCore
first_part_is_none h = h.0

second_side_is_none : IsCore (Choice a Hard) → ⊥
unfolding IsCore
second_side_is_none h = h.1
