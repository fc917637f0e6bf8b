-- Worked examples of papers, of their limits and of walks: a definition that changes its meaning fails here.
use Rattle.std.proofs.Common.{◌≡◌, ℕ, ◌+◌, ◌<◌, ◌≤◌, inl, inr, false, true, List, [], ◌∷◌, length, replicate, refl, sym, subst, Some, None, ap, arith, length-append}
use Rattle.std.specs.Borrow.{Bor}
use Rattle.std.specs.Prelude.{map}
use Rattle.std.specs.Str.{chars}
use Rattle.std.proofs.lemmas.List.{length-replicate}
use Rattle.rf_base_document.specs.declared.directions.Dir.TheVariants.{Left, Right}
use Rattle.rf_base_document.specs.declared.limits.TheConstants.{LAYOUT_LIMIT}
use Rattle.rf_base_document.specs.Document.{Doc, Text, Newline, Hard, Concat, Nest, Align, Reset, Flatten, Choice, Only, Charge}
use Rattle.rf_base_document.specs.Picks.{leaves_of}
use Rattle.rf_base_document.specs.Render.{Piece, Word, Break, Fee, laid, render, layout, column_after, WordsRun}
use Rattle.rf_base_cut.specs.DocumentLines.{EachIsWord}
use Rattle.rf_walk.specs.declared.extents.Extent.{Extent}
use Rattle.rf_walk.specs.declared.kinds.Kind.TheVariants as kind
use Rattle.rf_walk.specs.Extents.{Covers, Weighed, HasRoom}
use Rattle.rf_walk.specs.Kinds.{kind_doc}
use Rattle.rf_walk.specs.LaidOut.{IsLaidOn}
use Rattle.rf_walk.specs.Papers.{IsWithinLimits, IsPastLimits, with_piece, HoldsSome, EndsAt, Gains, Passes, GainsChoice, PassesByChoice, IsLineOf, GainsLine, PassesLine, FitsLine}
use Rattle.rf_walk.specs.Walked.{walked, deeper, walk, newline_piece, ending, ended}

-- a paper that holds its pieces and its weight
abbrev Sheet : Type 0
Sheet = List Piece × ℕ

abbrev holds : Sheet → Sheet → List Piece → ℕ → Type 0
holds blank paper pieces weight = (pieces ≡ paper.0) × (weight ≡ paper.1)

abbrev a_break : List Piece
a_break = Break 2 ∷ []

abbrev a_word : ℕ → Piece
a_word column = Word column (97 ∷ []) 1

-- a sheet holds what stands on it, and ends where that ends
something_held : HoldsSome holds (a_break, 1)
something_held = (([], 0), a_break, 1, (refl, refl))

ends_at_two : EndsAt holds (a_break, 1) 2
unfolding column_after
ends_at_two blank pieces weight held = ap (column_after 0) (sym held.0)

ends_nowhere_else : (column : ℕ) → EndsAt holds (a_break, 1) column → column ≡ 2
unfolding column_after
ends_nowhere_else column ends = ends ([], 0) a_break 1 (refl, refl)

-- a word begins where the pieces before it end
word_gained : Gains holds (a_break, 1) (Break 2 ∷ Word 2 (97 ∷ []) 1 ∷ [], 2) a_word 1
unfolding column_after
word_gained blank pieces weight held =
    (ap (λ (l : List Piece). with_piece l a_word) held.0, omega (arith, held.1))

gained_is : (new : Sheet) → Gains holds (a_break, 1) new a_word 1 →
    (new.0 ≡ Break 2 ∷ Word 2 (97 ∷ []) 1 ∷ []) × (new.1 ≡ 2)
unfolding column_after
gained_is new gains = let held = gains ([], 0) a_break 1 (refl, refl) in (sym held.0, sym held.1)

choice_gained : (new : Sheet) → GainsChoice holds (a_break, 1) new → (new.0 ≡ a_break) × (new.1 ≡ 2)
choice_gained new gains = let held = gains ([], 0) a_break 1 (refl, refl) in (sym held.0, sym held.1)

-- the characters and the weight are at most the limit, and may be it
break_length : (n : ℕ) → length (layout (Break n ∷ [])) ≡ n + 1
unfolding layout
break_length n = omega (arith, length-append {A = ℕ} (10 ∷ replicate n 32) [], length-replicate {A = ℕ} n 32)

at_the_limits : (n : ℕ) → n + 1 ≡ LAYOUT_LIMIT → IsWithinLimits (Break n ∷ []) LAYOUT_LIMIT
at_the_limits n e = (omega (arith, e, break_length n), omega arith)

within_is_not_past : (n : ℕ) → n + 1 ≡ LAYOUT_LIMIT → IsPastLimits (Break n ∷ []) LAYOUT_LIMIT → ⊥
within_is_not_past n e (inl long) = omega (arith, e, break_length n, long)
within_is_not_past n e (inr heavy) = omega (arith, heavy)

past_the_length : (n : ℕ) → n ≡ LAYOUT_LIMIT → (IsWithinLimits (Break n ∷ []) 0 → ⊥) × IsPastLimits (Break n ∷ []) 0
past_the_length n e = (λ h. omega (arith, e, break_length n, h.0), inl (omega (arith, e, break_length n)))

past_the_weight : (IsWithinLimits [] (LAYOUT_LIMIT + 1) → ⊥) × IsPastLimits [] (LAYOUT_LIMIT + 1)
past_the_weight = (λ h. omega (arith, h.1), inr (omega arith))

-- what the piece would be past is what stands with it
break_passes : (n : ℕ) → n ≡ LAYOUT_LIMIT → Passes holds ([], 0) (λ column. Break n) 1
break_passes n e blank pieces weight held =
    let long : LAYOUT_LIMIT < length (layout (Break n ∷ [])) = omega (arith, e, break_length n) in
    inl (subst (λ (l : List Piece). LAYOUT_LIMIT < length (layout (with_piece l (λ column. Break n)))) (sym held.0) long)

word_does_not : Passes holds (a_break, 1) a_word 1 → ⊥
unfolding column_after layout
word_does_not passes = elim (passes ([], 0) a_break 1 (refl, refl)) [
  | inl long ↦ let e : 67108864 < 4 = long in omega (arith, e)
  | inr heavy ↦ let e : 67108864 < 2 = heavy in omega (arith, e)
]

choice_passes : PassesByChoice holds ([], LAYOUT_LIMIT)
choice_passes blank pieces weight held = let e : weight ≡ LAYOUT_LIMIT = held.1 in omega (arith, e)

choice_does_not : (n : ℕ) → n + 1 ≡ LAYOUT_LIMIT → PassesByChoice holds ([], n) → ⊥
choice_does_not n e passes =
    let past : LAYOUT_LIMIT < n + 1 = passes ([], 0) [] n (refl, refl) in omega (arith, e, past)

-- a line of two words
abbrev a_text : List ℕ
a_text = 97 ∷ 98 ∷ 99 ∷ []

abbrev a_line : List Piece
a_line = Word 2 (97 ∷ []) 1 ∷ Word 3 (98 ∷ 99 ∷ []) 2 ∷ []

line_is : IsLineOf a_line 2 a_text 3 2
unfolding EachIsWord WordsRun layout column_after
line_is = record { alone = tt; runs = (refl, (refl, tt)); text_is = refl; ends = refl; count_is = refl }

line_is_no_other : (s : List ℕ) (len words : ℕ) → IsLineOf a_line 2 s len words → (s ≡ a_text) × (len ≡ 3) × (words ≡ 2)
unfolding layout column_after
line_is_no_other s len words is =
    let ends : 5 ≡ 2 + len = is.ends in (sym is.text_is, omega (arith, ends), sym is.count_is)

line_begins_at_its_column : (s : List ℕ) (len words : ℕ) → IsLineOf a_line 3 s len words → ⊥
unfolding WordsRun
line_begins_at_its_column s len words is = let e : 2 ≡ 3 = is.runs.0 in omega (arith, e)

words_stand_without_a_gap : (s : List ℕ) (len words : ℕ) →
    IsLineOf (Word 2 (97 ∷ []) 1 ∷ Word 4 (98 ∷ []) 1 ∷ []) 2 s len words → ⊥
unfolding WordsRun
words_stand_without_a_gap s len words is = let e : 4 ≡ 3 = is.runs.1.0 in omega (arith, e)

no_break_is_in_a_line : (s : List ℕ) (len words : ℕ) → IsLineOf (Word 2 (97 ∷ []) 1 ∷ Break 3 ∷ []) 2 s len words → ⊥
unfolding EachIsWord
no_break_is_in_a_line s len words is = is.alone

no_charge_is_in_a_line : (s : List ℕ) (len words : ℕ) → IsLineOf (Fee 0 ∷ a_line) 2 s len words → ⊥
unfolding EachIsWord
no_charge_is_in_a_line s len words is = is.alone

-- each of its words is put, and counted as a text
line_gained_is : (new : Sheet) → GainsLine holds (a_break, 1) new a_text 3 2 → (new.0 ≡ Break 2 ∷ a_line) × (new.1 ≡ 3)
unfolding column_after
line_gained_is new gains =
    let held = gains ([], 0) a_break 1 (refl, refl) a_line line_is in (sym held.0, sym held.1)

line_passes : (n : ℕ) → n + 1 ≡ LAYOUT_LIMIT → PassesLine holds (a_break, n) a_text 3 2
line_passes n e blank pieces weight held line is =
    let at : weight ≡ n = held.1 in inr (omega (arith, e, at))

line_does_not : PassesLine holds (a_break, 1) a_text 3 2 → ⊥
unfolding column_after layout
line_does_not passes = elim (passes ([], 0) a_break 1 (refl, refl) a_line line_is) [
  | inl long ↦ let e : 67108864 < 6 = long in omega (arith, e)
  | inr heavy ↦ let e : 67108864 < 3 = heavy in omega (arith, e)
]

line_fits : (n : ℕ) → n + 2 ≡ LAYOUT_LIMIT → FitsLine holds (a_break, n) a_text 2
unfolding layout
line_fits n e blank pieces weight held =
    let at : weight ≡ n = held.1 in
    let size : length (layout pieces) ≡ 3 = ap (λ (l : List Piece). length (layout l)) held.0 in
    (omega (arith, size), omega (arith, e, at))

line_is_too_heavy : (n : ℕ) → n + 1 ≡ LAYOUT_LIMIT → FitsLine holds (a_break, n) a_text 2 → ⊥
line_is_too_heavy n e fits = omega (arith, e, (fits ([], 0) a_break n (refl, refl)).1)

-- an extent counts the characters, the weight and the last column of its pieces
abbrev extent : ℕ → ℕ → ℕ → Extent
extent characters weight column = record { characters = characters; weight = weight; column = column }

covered_is : (characters weight column : ℕ) → Covers (extent characters weight column) (Break 2 ∷ Word 2 (97 ∷ []) 1 ∷ []) 5 →
    (characters ≡ 4) × (weight ≡ 5) × (column ≡ 3)
unfolding layout column_after
covered_is characters weight column covers = (covers.counted, covers.weighed, covers.ends)

covered_within : (e : Extent) (pieces : List Piece) (weight : ℕ) → Covers e pieces weight →
    (e.characters ≤ LAYOUT_LIMIT) × (e.weight ≤ LAYOUT_LIMIT) × (e.column ≤ e.characters + e.characters)
covered_within e pieces weight covers = (covers.short, covers.light, omega (arith, covers.near))

weighed_is : (new : Extent) → Weighed (extent 4 5 3) 2 new → (new.characters ≡ 4) × (new.weight ≡ 7) × (new.column ≡ 3)
    × (new.weight ≤ LAYOUT_LIMIT)
weighed_is new weighed = (weighed.characters, weighed.weight, weighed.column, weighed.light)

room_is : (new : Extent) → HasRoom (extent 4 5 3) 2 new → (new.characters ≡ 6) × (new.weight ≡ 5) × (new.column ≡ 3)
    × (new.characters ≤ LAYOUT_LIMIT)
room_is new room = (room.characters, room.weight, room.column, room.short)

-- each kind of node, over parts that are texts of their numbers
abbrev part : ℕ → Doc
part n = Text (n ∷ []) n

text_is : (s : Bor (List ℕ)) (len : ℕ) → kind_doc part (kind.Text s len) ≡ Text (chars s.now) len
text_is s len = refl

kinds_are : map (kind_doc part)
    (kind.Newline ∷ kind.Hard ∷ kind.Concat 0 1 ∷ kind.Nest 7 2 ∷ kind.Align 3 ∷ kind.Reset 4 ∷ kind.Flatten 5 ∷ kind.Choice 1 6
    ∷ kind.Only Right 5 ∷ kind.Charge 9 8 ∷ [])
    ≡ Newline ∷ Hard ∷ Concat (part 0) (part 1) ∷ Nest 7 (part 2) ∷ Align (part 3) ∷ Reset (part 4) ∷ Flatten (part 5)
    ∷ Choice (part 1) (part 6) ∷ Only Right (part 5) ∷ Charge 9 (part 8) ∷ []
kinds_are = refl

-- the resolution is laid out at column 0 and indentation 0, and not flat
abbrev is_break : List Piece → ℕ → Type 0
is_break pieces weight = (pieces ≡ Break 0 ∷ []) × (weight ≡ 2)

laid_on : IsLaidOn is_break Newline (Left ∷ [])
unfolding render leaves_of
laid_on = (laid (Break 0 ∷ []) 0, refl, (refl, refl))

laid_with_its_weight : IsLaidOn is_break Newline [] → ⊥
unfolding render leaves_of
laid_with_its_weight h = let e : 1 ≡ 2 = h.2.1 in omega (arith, e)

-- walks over cores: indentation past one more than the limit isn't counted
depths_are : (deeper 3 4 ≡ 7) × (deeper 67108860 7 ≡ 67108865)
depths_are = (refl, refl)

walks_are : (walk (Concat (Nest 4 (Concat (Text (97 ∷ []) 1) Newline)) (Charge 7 (Choice Newline (Align Newline)))) 3 2 (Right ∷ Left ∷ [])
    ≡ Some (walked (Word 3 (97 ∷ []) 1 ∷ Break 6 ∷ Fee 7 ∷ Break 6 ∷ []) 6 4 (Left ∷ [])))
    × (walk (Reset (Only Left Newline)) 3 2 (Left ∷ []) ≡ Some (walked (Break 0 ∷ []) 0 2 []))
    × (walk (Choice Newline (Text [] 0)) 3 2 (Left ∷ []) ≡ Some (walked (Break 2 ∷ []) 2 2 []))
    × (walk (Only Left Newline) 3 2 (Right ∷ []) ≡ None) × (walk (Only Right Newline) 3 2 (Left ∷ []) ≡ None)
    × (walk (Only Right Newline) 3 2 (Right ∷ []) ≡ Some (walked (Break 2 ∷ []) 2 2 []))
    × (walk (Choice Newline Newline) 3 2 [] ≡ None) × (walk (Only Left Newline) 3 2 [] ≡ None)
    × (walk Hard 3 2 [] ≡ None) × (walk (Flatten Newline) 3 2 [] ≡ None)
unfolding walk
walks_are = (refl, refl, refl, refl, refl, refl, refl, refl, refl, refl)

newlines_are : (newline_piece true 2 3 ≡ Word 3 (32 ∷ []) 1) × (newline_piece false 2 3 ≡ Break 2)
newlines_are = (refl, refl)

ended_is : (ended (Fee 1 ∷ []) 3 (Some (walked (Break 2 ∷ []) 2 1 (Left ∷ []))) ≡ Some (ending (Fee 1 ∷ Break 2 ∷ []) 4 (Left ∷ [])))
    × (ended (Fee 1 ∷ []) 3 None ≡ None)
ended_is = (refl, refl)
