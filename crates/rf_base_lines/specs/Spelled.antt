-- Documents on one line as they are written: how many columns they take up there, by which choices, and the text.
use Rattle.std.specs.Prelude.{ℕ, ◌+◌, Bool, true, false, Option, None, Some, List, [], ◌∷◌, ◌++◌}
use Rattle.std.specs.Option.{option_map}
use Rattle.rf_base_document.specs.declared.directions.Dir.{Dir}
use Rattle.rf_base_document.specs.declared.directions.Dir.TheVariants.{Left, Right}
use Rattle.rf_base_document.specs.Document.{Doc, Text, Newline, Hard, Concat, Nest, Align, Reset, Flatten, Choice, Only, Charge}

-- a layout on one line as it is written: how many columns it takes up, the choices that give it, its characters, and
-- how many texts it has
pub record Spelled : Type 0 where
  pub len : ℕ
  pub how : List Dir
  pub text : List ℕ
  pub words : ℕ

abbrev pub spelled : ℕ → List Dir → List ℕ → ℕ → Spelled
spelled len how text words = record { len = len; how = how; text = text; words = words }

-- one text of these characters and so many columns, without a choice
abbrev pub spelled_text : List ℕ → ℕ → Spelled
spelled_text s len = spelled len [] s 1

-- no text and no choice
abbrev pub spelled_nothing : Spelled
spelled_nothing = spelled 0 [] [] 0

-- both in a row
abbrev pub spelled_both : Option Spelled → Option Spelled → Option Spelled
spelled_both (Some a) (Some b) = Some (spelled (a.len + b.len) (a.how ++ b.how) (a.text ++ b.text) (a.words + b.words))
spelled_both _ _ = None

-- the same behind these directions
abbrev pub spelled_behind : List Dir → Spelled → Spelled
spelled_behind dirs a = spelled a.len (dirs ++ a.how) a.text a.words

-- the first side, and where it has none the second, behind the direction to it
abbrev pub spelled_either : Option Spelled → Option Spelled → Option Spelled
spelled_either None b = option_map (spelled_behind (Right ∷ [])) b
spelled_either (Some a) b = Some (spelled_behind (Left ∷ []) a)

-- a newline is one space where flat, and otherwise a break
abbrev pub spelled_newline : Bool → Option Spelled
spelled_newline true = Some (spelled_text (32 ∷ []) 1)
spelled_newline false = None

-- the document, flat or not, by the first choices that give it a layout without a break and a charge, if there are such
unfoldable pub spelled_line : Doc → Bool → Option Spelled
spelled_line (Text s len) flat = Some (spelled_text s len)
spelled_line Newline flat = spelled_newline flat
spelled_line Hard flat = None
spelled_line (Concat a b) flat = spelled_both (spelled_line a flat) (spelled_line b flat)
spelled_line (Nest n a) flat = spelled_line a flat
spelled_line (Align a) flat = spelled_line a flat
spelled_line (Reset a) flat = spelled_line a flat
spelled_line (Flatten a) flat = spelled_line a true
spelled_line (Choice a b) flat = spelled_either (spelled_line a flat) (spelled_line b flat)
spelled_line (Only dir a) flat = option_map (spelled_behind (dir ∷ [])) (spelled_line a flat)
spelled_line (Charge k a) flat = None

-- these documents in a row, flat or not, where each is on one line
unfoldable pub spelled_all : List Doc → Bool → Option Spelled
spelled_all [] flat = Some spelled_nothing
spelled_all (d ∷ parts) flat = spelled_both (spelled_line d flat) (spelled_all parts flat)
