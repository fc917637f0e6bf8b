-- Worked examples of tokens as they are kept and compared, and of refusals and the bytes that they tell.
use Rattle.std.proofs.Common.{◌≡◌, ℕ, Bool, true, false, List, [], ◌∷◌, ◌++◌, inl, refl, arith}
use Rattle.std.specs.Prelude.{codes, map}
use Rattle.rf_base_grammar.specs.Characters.{is_white, is_delimiter}
use Rattle.rf_base_grammar.specs.Cuts.{run_cut, string_cut}
use Rattle.rf_base_grammar.specs.Itemised.{Itemised, begins_line, line_ends}
use Rattle.rf_base_grammar.specs.Reader.{front_item}
use Rattle.rf_base_grammar.specs.Spelled.{language_may_stand}
use Rattle.rf_base_grammar.specs.Token.{Token, item_of, unplaced, normal, settled, is_line_comment}
use Rattle.rf_base_grammar.specs.TrailingSpace.{IsInItem}
use Rattle.rf_base_grammar.specs.Unreadable.{LexRefused}
use Rattle.rf_base_grammar.specs.Woven.{Needs}
use Rattle.rf_base_grammar.specs.declared.kinds.Bracket.TheVariants.{Round}
use Rattle.rf_base_grammar.specs.declared.kinds.Kind.{Kind}
use Rattle.rf_base_grammar.specs.declared.kinds.Kind.TheVariants.{Opener, Closer, Prefix, Skip, Dot, Atom, Str, Here, Block, Line, Lang}
use Rattle.rf_base_grammar.specs.declared.refusals.LexKind.TheVariants.{OpenString, StrayLineEnd}
use Rattle.rf_base_grammar.proofs.ReaderIsExact.{front_found, front_wrong}
use Rattle.rf_base_grammar.proofs.Reached.{begins_of}

-- a token of the kind at the offset, behind so many blank lines, or a line comment on a line of its own
abbrev token : Kind → ℕ → List ℕ → ℕ → Bool → Token
token kind start spelling blanks own_line = record {
  kind = kind;
  start = start;
  spelling = spelling;
  blanks = blanks;
  own_line = own_line;
}

-- an item is kept with the offsets of its first byte and past its last one; here it is of four bytes
kept_by_bytes : item_of (token Line 7 (codes ";a" ++ 0x3BB ∷ []) 2 true)
    ≡ record { kind = Line; start = 7; end = 11; blanks = 2; own_line = true }
kept_by_bytes = refl

-- where it stands doesn't matter, and all else does
all_but_the_place : unplaced (token Line 7 (codes ";a") 2 true) ≡ token Line 0 (codes ";a") 2 true
all_but_the_place = refl

-- of 2 blank lines 1 is kept, and none at the beginning, behind an opener, a prefix or a skip, and before a closer
abbrev behind_two : List Token
behind_two =
    map (λ kind. token kind 0 [] 2 false) (Atom ∷ Atom ∷ Opener Round ∷ Atom ∷ Prefix ∷ Atom ∷ Skip ∷ Atom
    ∷ Closer Round ∷ Line ∷ Block ∷ [])

one_is_kept : map (λ t. t.blanks) (normal 1 behind_two) ≡ 0 ∷ 1 ∷ 1 ∷ 0 ∷ 1 ∷ 0 ∷ 1 ∷ 0 ∷ 0 ∷ 1 ∷ 1 ∷ []
one_is_kept = refl

no_more_than_there_are : map (λ t. t.blanks) (settled false 3 behind_two)
    ≡ 2 ∷ 2 ∷ 2 ∷ 0 ∷ 2 ∷ 0 ∷ 2 ∷ 0 ∷ 0 ∷ 2 ∷ 2 ∷ []
no_more_than_there_are = refl

all_else_is_kept : normal 0 (token Line 7 (codes ";a") 2 true ∷ []) ≡ token Line 7 (codes ";a") 0 true ∷ []
all_else_is_kept = refl

-- a line comment is one, and no block comment
line_comments : map is_line_comment (Line ∷ Block ∷ Skip ∷ Atom ∷ []) ≡ true ∷ false ∷ false ∷ false ∷ []
line_comments = refl

-- a language line stands behind comments of one item alone, and behind nothing
behind_comments : language_may_stand (Line ∷ Block ∷ []) ≡ true
behind_comments = refl

behind_each : map (λ kind. language_may_stand (Line ∷ kind ∷ []))
    (Opener Round ∷ Closer Round ∷ Prefix ∷ Skip ∷ Dot ∷ Atom ∷ Str ∷ Here ∷ Lang ∷ [])
    ≡ false ∷ false ∷ false ∷ false ∷ false ∷ false ∷ false ∷ false ∷ false ∷ []
behind_each = refl

-- behind a here string and the language line anything needs a gap, and behind other items nothing does
abbrev by_kind : Kind → Token
by_kind kind = token kind 0 (codes "\"a\"") 0 false

here_needs : Needs (by_kind Here) (by_kind Atom) × Needs (by_kind Lang) (by_kind Atom)
here_needs = (tt, tt)

string_glued : Needs (by_kind Str) (by_kind Atom) → ⊥
string_glued h = h

block_glued : Needs (by_kind Block) (by_kind Atom) → ⊥
block_glued h = h

skip_glued : Needs (by_kind Skip) (by_kind Atom) → ⊥
skip_glued h = h

-- an item begins its line where it is the first, or the gap before it has a line end; of three there are two blank
-- lines
lines_begun : map (λ before. begins_line before (codes " ")) ([] ∷ (Atom ∷ []) ∷ []) ≡ true ∷ false ∷ []
lines_begun = refl

line_begun_by_gap : (begins_line (Atom ∷ []) (codes " \n ") ≡ true) × (line_ends (codes "\n \n\r\n") ≡ 3)
line_begun_by_gap = (refl, refl)

-- two comments, each on a line of its own, and two blank lines between them
two_comments : Itemised (codes ";\n \n\n;\n") (token Line 0 (codes ";") 0 true ∷ token Line 5 (codes ";") 2 true ∷ [])
unfolding is_white front_item
two_comments = (
  codes "\n",
  (
    codes "\n \n\n;\n",
    begins_of [] (codes ";\n \n\n;\n") refl tt
        (front_found [] (codes ";\n \n\n;\n") Line (codes ";") (codes "\n \n\n;\n") refl refl),
    (
      codes "\n",
      begins_of (codes "\n \n\n") (codes ";\n") refl (refl, (refl, (refl, (refl, tt))))
          (front_found (Line ∷ []) (codes ";\n") Line (codes ";") (codes "\n") refl refl),
      refl,
    ),
  ),
  (refl, tt),
)

-- `a ;`: a comment behind an item on its line
abbrev behind_an_atom : List Token
behind_an_atom = token Atom 0 (codes "a") 0 false ∷ token Line 2 (codes ";") 0 false ∷ []

trailing_comment : Itemised (codes "a ;") behind_an_atom
unfolding is_white is_delimiter front_item run_cut
trailing_comment = (
  [],
  (
    codes " ;",
    begins_of [] (codes "a ;") refl tt (front_found [] (codes "a ;") Atom (codes "a") (codes " ;") refl refl),
    (
      [],
      begins_of (codes " ") (codes ";") refl (refl, tt)
          (front_found (Atom ∷ []) (codes ";") Line (codes ";") [] refl refl),
      refl,
    ),
  ),
  tt,
)

-- an item holds its first byte and its last, and not the one behind it
first_byte : IsInItem (token Atom 3 (codes "ab") 0 false ∷ []) 3
first_byte = inl (omega arith, omega arith)

last_byte : IsInItem (token Atom 3 (0x3BB ∷ []) 0 false ∷ []) 4
last_byte = inl (omega arith, omega arith)

-- the string that is open in `λ "a` begins at byte 3
pub open_string_at : LexRefused (0x3BB ∷ codes " \"a") OpenString 3
unfolding is_white is_delimiter front_item run_cut string_cut
open_string_at =
    let wrong = front_wrong (Atom ∷ []) (codes "\"a") OpenString [] refl refl in
    record {
      items = token Atom 0 (0x3BB ∷ []) 0 false ∷ [];
      rest = codes " \"a";
      leads = (
        codes " \"a",
        begins_of [] (0x3BB ∷ codes " \"a") refl tt
            (front_found [] (0x3BB ∷ codes " \"a") Atom (0x3BB ∷ []) (codes " \"a") refl refl),
        refl,
      );
      gap = codes " ";
      place = codes "\"a";
      rest_is = refl;
      white = (refl, tt);
      begins = refl;
      none = wrong.1;
      clean = [];
      stands = wrong.0;
      offset_is = refl;
    }

-- the stray line end in ` ;λ` and a CR is that CR, at byte 4
stray_at : LexRefused (codes " ;" ++ 0x3BB ∷ 13 ∷ []) StrayLineEnd 4
unfolding is_white is_delimiter front_item
stray_at =
    let wrong = front_wrong [] (codes ";" ++ 0x3BB ∷ 13 ∷ []) StrayLineEnd (codes ";" ++ 0x3BB ∷ []) refl refl in
    record {
      items = [];
      rest = codes " ;" ++ 0x3BB ∷ 13 ∷ [];
      leads = refl;
      gap = codes " ";
      place = codes ";" ++ 0x3BB ∷ 13 ∷ [];
      rest_is = refl;
      white = (refl, tt);
      begins = refl;
      none = wrong.1;
      clean = codes ";" ++ 0x3BB ∷ [];
      stands = wrong.0;
      offset_is = refl;
    }
