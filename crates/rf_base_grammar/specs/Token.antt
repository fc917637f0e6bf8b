-- Items as definitions see them: told by their characters.
use Rattle.std.specs.Prelude.{ℕ, ◌+◌, ◌||◌, if◌then◌else◌, Bool, true, false, List, [], ◌∷◌, min}
use Rattle.rf_base_grammar.specs.Characters.{byte_len}
use Rattle.rf_base_grammar.specs.declared.kinds.Kind.{Kind}
use Rattle.rf_base_grammar.specs.declared.kinds.Kind.TheVariants.{Opener, Closer, Prefix, Skip, Line}
use Rattle.rf_base_grammar.specs.declared.items.Item.{Item}

-- an item: what it is, the offset of its first byte, its characters, the blank lines before it, and whether it is
-- a line comment that begins its line
pub record Token : Type 0 where
  pub kind : Kind
  pub start : ℕ
  pub spelling : List ℕ
  pub blanks : ℕ
  pub own_line : Bool

-- the item as the program keeps it: its characters are told by the offsets of the first byte and past the last one
abbrev pub item_of : Token → Item
item_of t =
    record {
      kind = t.kind;
      start = t.start;
      end = t.start + byte_len t.spelling;
      blanks = t.blanks;
      own_line = t.own_line;
    }

-- the token wherever it stands: two items are the same where all but their offsets are
abbrev pub unplaced : Token → Token
unplaced t = record { kind = t.kind; start = 0; spelling = t.spelling; blanks = t.blanks; own_line = t.own_line }

-- the token with this many blank lines before it
abbrev pub with_blanks : Token → ℕ → Token
with_blanks t n = record { kind = t.kind; start = t.start; spelling = t.spelling; blanks = n; own_line = t.own_line }

-- whether the kind is a line comment
abbrev pub is_line_comment : Kind → Bool
is_line_comment Line = true
is_line_comment _ = false

-- whether no blank line is kept behind the kind
abbrev pub opens : Kind → Bool
opens (Opener b) = true
opens Prefix = true
opens Skip = true
opens _ = false

-- whether no blank line is kept before the kind
abbrev pub closes : Kind → Bool
closes (Closer b) = true
closes _ = false

-- the tokens with at most max blank lines before each, and with none where no blank line is kept; bare says that none
-- is kept before the first one
abbrev pub settled : Bool → ℕ → List Token → List Token
settled bare max [] = []
settled bare max (t ∷ ts) =
    with_blanks t (if bare || closes t.kind then 0 else min t.blanks max) ∷ settled (opens t.kind) max ts

-- the tokens as a layout keeps them: no blank line before the first one
abbrev pub normal : ℕ → List Token → List Token
normal max ts = settled true max ts
