-- Worked examples of what the lexer answers and how it tells places: a definition that changes its meaning fails here.
use Rattle.std.proofs.Common.{◌≡◌, ℕ, true, false, List, [], ◌∷◌, ◌==◌, ◌||◌, map, Some, None, codes, refl, sym, subst, arith}
use Rattle.std.specs.Borrow.{Bor}
use Rattle.std.specs.Str.{chars}
use Rattle.std.specs.Char.{is_ascii_digit}
use Rattle.rf_base_grammar.specs.declared.kinds.Kind.TheVariants as kind
use Rattle.rf_base_grammar.specs.declared.kinds.Bracket.TheVariants.{Round, Square, Curly}
use Rattle.rf_base_grammar.specs.declared.refusals.LexKind.{LexKind}
use Rattle.rf_base_grammar.specs.Cuts.{NoHalf, HashHalf, BarHalf, Opens, Closes, Passes, Bare, Escaped, Barred, cut, run_cut, string_cut, block_cut}
use Rattle.rf_base_grammar.specs.Characters.{is_delimiter, is_white}
use Rattle.rf_base_grammar.specs.Unreadable.{LexRefused}
use Rattle.rf_lexer.specs.declared.faults.LexError.TheVariants as fault
use Rattle.rf_lexer.specs.declared.blocks.Half.{Half}
use Rattle.rf_lexer.specs.declared.blocks.Half.TheVariants as half
use Rattle.rf_lexer.specs.declared.blocks.Inside.{Inside}
use Rattle.rf_lexer.specs.declared.blocks.Step.TheVariants as step
use Rattle.rf_lexer.specs.declared.classes.Class.TheVariants as class
use Rattle.rf_lexer.specs.declared.runs.Quoting.TheVariants as quote
use Rattle.rf_lexer.specs.Blocks.{half_in, step_in, ClosesAt, BlockGoesOn}
use Rattle.rf_lexer.specs.Classes.{is_plain, is_in_string, test_of, IsMark}
use Rattle.rf_lexer.specs.Fronts.{closed_by, is_quote, is_hash_quote, IsBangMark, BeginsAtom}
use Rattle.rf_lexer.specs.HereLines.{ends_lines}
use Rattle.rf_lexer.specs.Next.{is_none}
use Rattle.rf_lexer.specs.Places.{IsBehind, AreCut, IsStripped}
use Rattle.rf_lexer.specs.Runs.{quoting, EndsBefore, RunGoesOn}
use Rattle.rf_lexer.specs.Scan.{LexFault, IsRefusal}
use Rattle.rf_lexer.specs.Strings.{StringEnds, StringGoesOn}
use Rattle.rf_lexer.specs.Words.{is_hash_atom}

-- a fault is a refusal of the source, at its place, or want of memory
refusals_are : (source : List ℕ) (k : LexKind) (offset : ℕ) → LexFault source (fault.Refused k offset) → LexRefused source k offset
refusals_are source k offset h = h

refusal_is : (k : LexKind) (offset : ℕ) → IsRefusal (fault.Refused k offset)
refusal_is k offset = tt

-- how the plain reader calls a state of a block comment, and what a character does
halves_are : map half_in (half.Neither ∷ half.Hash ∷ half.Bar ∷ []) ≡ NoHalf ∷ HashHalf ∷ BarHalf ∷ []
halves_are = refl

steps_are : map step_in (step.Opening ∷ step.Closing ∷ step.Passing half.Bar ∷ []) ≡ Opens ∷ Closes ∷ Passes BarHalf ∷ []
steps_are = refl

-- a hash sign behind a bar closes the comment where no other is around, and one behind a bar in another doesn't
abbrev inside : ℕ → Half → Inside
inside around half = record { around = around; half = half }

comment_closes : ClosesAt (inside 0 half.Bar) 35 × (ClosesAt (inside 1 half.Bar) 35 → ⊥) × (ClosesAt (inside 0 half.Hash) 35 → ⊥)
unfolding block_cut
comment_closes = (λ text. refl, λ closes. (let e = closes [] in cc), λ closes. (let e = closes [] in cc))

comment_goes_on : BlockGoesOn (inside 0 half.Hash) 124 (inside 1 half.Neither)
    × BlockGoesOn (inside 1 half.Bar) 35 (inside 0 half.Neither) × BlockGoesOn (inside 0 half.Neither) 124 (inside 0 half.Bar)
unfolding block_cut
comment_goes_on = ((omega arith, λ text. refl), (omega arith, λ text. refl), (omega arith, λ text. refl))

quotings_are : map quoting (quote.Plain ∷ quote.Escape ∷ quote.Bars ∷ []) ≡ Bare ∷ Escaped ∷ Barred ∷ []
quotings_are = refl

-- a run ends before a blank, unless it is quoted, and goes on behind a bar between bars
run_ends : EndsBefore quote.Plain 32 × (EndsBefore quote.Bars 32 → ⊥)
unfolding run_cut is_delimiter is_white
run_ends = (λ text. refl, λ ends. (let e = ends [] in cc))

run_goes_on : RunGoesOn quote.Plain 124 quote.Bars × RunGoesOn quote.Bars 124 quote.Plain × RunGoesOn quote.Plain 92 quote.Escape
    × RunGoesOn quote.Escape 32 quote.Plain
unfolding run_cut is_delimiter is_white
run_goes_on = (λ text. refl, λ text. refl, λ text. refl, λ text. refl)

-- a string ends at its quotation mark, unless a backslash stands before it
string_ends : StringEnds false 34 × (StringEnds true 34 → ⊥)
unfolding string_cut
string_ends = (λ text. refl, λ ends. (let e = ends [] in cc))

string_goes_on : StringGoesOn false 92 true × StringGoesOn true 34 false × StringGoesOn false 97 false
unfolding string_cut
string_goes_on = (λ text. refl, λ text. refl, λ text. refl)

-- what stands for itself in a run, and in a string
plain_are : map is_plain (codes "a#. (|\\") ≡ true ∷ true ∷ true ∷ false ∷ false ∷ false ∷ false ∷ []
unfolding is_delimiter is_white
plain_are = refl

in_string_are : map is_in_string (codes "a (\"\\") ≡ true ∷ true ∷ true ∷ false ∷ false ∷ []
in_string_are = refl

-- each class by its test
classes_are : (c : ℕ) → (test_of class.Plain c ≡ is_plain c) × (test_of class.Digit c ≡ is_ascii_digit c)
    × (test_of class.InString c ≡ is_in_string c)
classes_are c = (refl, refl, refl)

undelimited_are : map (test_of class.Undelimited) (codes "a|\\ (") ≡ true ∷ true ∷ true ∷ false ∷ false ∷ []
unfolding is_delimiter is_white
undelimited_are = refl

on_line_are : map (test_of class.OnLine) (97 ∷ 32 ∷ 10 ∷ []) ≡ true ∷ true ∷ false ∷ []
on_line_are = refl

-- ASCII characters alone are marks
marks_are : IsMark (λ c. true) 127 × (IsMark (λ c. true) 128 → ⊥) × (IsMark (λ c. false) 97 → ⊥)
marks_are = ((omega arith, refl), λ h. omega (arith, h.0), λ h. (let e = h.1 in cc))

-- brackets by their closers, and prefixes
closers_are : map closed_by (codes ")]}(a") ≡ Some Round ∷ Some Square ∷ Some Curly ∷ None ∷ None ∷ []
closers_are = refl

quotes_are : map is_quote (codes "'`&,a") ≡ true ∷ true ∷ false ∷ false ∷ false ∷ []
quotes_are = refl

hash_quotes_are : map is_hash_quote (codes "'`&,a") ≡ true ∷ true ∷ true ∷ false ∷ false ∷ []
hash_quotes_are = refl

not_bang : IsBangMark (codes "a") [] → ⊥
not_bang h =
    let t : 97 ∷ [] ≡ h.0 ∷ [] = h.1 in
    let e : 97 ≡ h.0 = cc in
    let f : (97 == 47 || 97 == 32) ≡ true = subst (λ (c : ℕ). (c == 47 || c == 32) ≡ true) (sym e) h.2 in
    cc

bang_marks : IsBangMark (codes "/a") (codes "a") × IsBangMark (codes " a") (codes "a") × (IsBangMark (codes "a") [] → ⊥)
bang_marks = ((47, refl, refl), (32, refl, refl), not_bang)

-- an atom begins with what stands for itself, but with no hash sign and no dot
atoms_begin : BeginsAtom 97 (codes "ab") × ((text : List ℕ) → BeginsAtom 35 text → ⊥) × ((text : List ℕ) → BeginsAtom 46 text → ⊥)
unfolding is_delimiter is_white
atoms_begin = ((codes "b", refl, refl, λ e. omega (arith, e), λ e. omega (arith, e)), λ text h. h.3 refl, λ text h. h.4 refl)

-- a here string's last line is its terminator, and ends the text or its line
lines_end : (ends_lines (codes "END") (codes "END") [] ≡ true) × (ends_lines (codes "END") (codes "END") (10 ∷ 97 ∷ []) ≡ true)
    × (ends_lines (codes "END") (codes "END") (13 ∷ []) ≡ false) × (ends_lines (codes "END") (codes "ENDS") [] ≡ false)
lines_end = (refl, refl, refl, refl)

nothing_before : (is_none [] ≡ true) × (is_none (kind.Atom ∷ []) ≡ false)
nothing_before = (refl, refl)

-- what is behind a cut, or no cut
behind_are : IsBehind None None × ((rest : Bor (List ℕ)) → IsBehind None (Some rest) → ⊥)
    × (IsBehind (Some (cut [] (97 ∷ []))) None → ⊥)
    × ((rest : Bor (List ℕ)) → IsBehind (Some (cut (98 ∷ []) (chars rest.now))) (Some rest))
    × ((rest : Bor (List ℕ)) → IsBehind (Some (cut (98 ∷ []) (98 ∷ chars rest.now))) (Some rest) → chars rest.now ≡ 98 ∷ chars rest.now)
behind_are = (tt, λ rest h. h, λ h. h, λ rest. refl, λ rest h. sym h)

cut_is : (one other : Bor (List ℕ)) → AreCut (cut (chars one.now) (chars other.now)) (one, other)
cut_is one other = (refl, refl)

stripped_are : IsStripped None None × ((rest : Bor (List ℕ)) → IsStripped None (Some rest) → ⊥) × (IsStripped (Some []) None → ⊥)
    × ((rest : Bor (List ℕ)) → IsStripped (Some (97 ∷ [])) (Some rest) → chars rest.now ≡ 97 ∷ [])
stripped_are = (tt, λ rest h. h, λ h. h, λ rest h. h)

-- runs that begin with a hash sign: booleans, beginnings of atoms, and references
hash_atoms : map is_hash_atom (codes "#t" ∷ codes "#false" ∷ codes "#%a" ∷ codes "#x1F" ∷ codes "#7#" ∷ codes "#zz" ∷ codes "#7" ∷ [])
    ≡ true ∷ true ∷ true ∷ true ∷ true ∷ false ∷ false ∷ []
hash_atoms = refl
