-- Worked examples of sources that have a tree, and of some that are refused.
use Rattle.std.proofs.Common.{ℕ, zero, suc, ◌<◌, false, List, [], ◌∷◌, take, refl, arith}
use Rattle.std.proofs.lemmas.Bool.{false≢true}
use Rattle.std.specs.Char.{encode_utf8}
use Rattle.std.specs.Str.{chars, IsUtf8, is_utf8}
use Rattle.std.proofs.lemmas.Str.{IsUtf8-from_is_utf8, is_utf8-from_IsUtf8}
use lib.Chars.{codes}
use Rattle.rf_base_grammar.specs.Characters.{is_white}
use Rattle.rf_base_grammar.specs.Token.{Token}
use Rattle.rf_base_grammar.specs.Sources.{HasItems}
use Rattle.rf_base_grammar.specs.declared.kinds.Bracket.TheVariants.{Round}
use Rattle.rf_base_grammar.specs.declared.kinds.Kind.{Kind}
use Rattle.rf_base_grammar.specs.declared.kinds.Kind.TheVariants.{Closer}
use Rattle.rf_base_grammar.specs.declared.refusals.LexKind.TheVariants.{OpenString}
use Rattle.rf_base_grammar.proofs.Reached.{begins_of}
use Rattle.rf_base_grammar.proofs.TokenExamples.{open_string_at}
use Rattle.rf_base_tree.specs.Trees.{Empty, forest_items, forest_depth}
use Rattle.rf_base_tree.specs.Dots.{marks_of}
use Rattle.rf_base_tree.specs.Formed.{AreFormed}
use Rattle.rf_base_tree.specs.declared.refusals.TreeKind.TheVariants.{CloseWithout}
use Rattle.rf_base_source.specs.Sources.{HasTree, Refused}
use Rattle.rf_base_source.specs.declared.refusals.SourceKind.TheVariants.{NotUtf8, Lex, Tree}

-- an item by its offset
abbrev item_at : Kind → List ℕ → ℕ → Token
item_at kind spelling start = record { kind = kind; start = start; spelling = spelling; blanks = 0; own_line = false }

-- nothing has no items and no trees
nothing_accepted : HasTree [] [] Empty
unfolding is_utf8 chars encode_utf8 forest_items forest_depth AreFormed marks_of
nothing_accepted = (
  (IsUtf8-from_is_utf8 _ refl, ([], refl, tt)),
  record { items_are = refl; formed = tt; dotless = tt; shallow = omega arith },
)

-- ` )` is refused at its closer
closer_items : HasItems (codes " )") (item_at (Closer Round) (codes ")") 1 ∷ [])
unfolding is_utf8 chars encode_utf8 is_white
closer_items = (
  IsUtf8-from_is_utf8 _ refl,
  (
    [],
    (
      [],
      begins_of (codes " ") (codes ")") refl (refl, tt)
          (record { text_is = refl; spelled = refl; follows = tt; stands = tt }),
      refl,
    ),
    tt,
  ),
)

closer_refused : Refused (codes " )") (Tree CloseWithout) 1
unfolding forest_items forest_depth AreFormed marks_of
closer_refused = (
  item_at (Closer Round) (codes ")") 1 ∷ [],
  closer_items,
  record {
    n = 0;
    frames = [];
    here = Empty;
    place = record { items_are = refl; lawful = (tt, tt, omega arith) };
    item = 0;
    halts = (refl, (Closer Round, refl, refl), refl);
    offset_is = refl;
  },
)

-- the byte 0xFF is no text, at 0
no_front : (k : ℕ) → 0 < k → IsUtf8 (take k (0xFF ∷ [])) → ⊥
unfolding is_utf8 chars
no_front zero l u = absurd (omega arith)
no_front (suc zero) l u = false≢true (is_utf8-from_IsUtf8 (0xFF ∷ []) u)
no_front (suc (suc k)) l u = false≢true (is_utf8-from_IsUtf8 (0xFF ∷ []) u)

byte_refused : Refused (0xFF ∷ []) NotUtf8 0
unfolding is_utf8 chars
byte_refused = record { short = omega arith; front = IsUtf8-from_is_utf8 [] refl; longest = no_front }

-- `λ "a`, in bytes: the string that is open begins at byte 3
string_refused : Refused (0xCE ∷ 0xBB ∷ codes " \"a") (Lex OpenString) 3
unfolding is_utf8 chars encode_utf8
string_refused = (IsUtf8-from_is_utf8 _ refl, open_string_at)
