-- Paragraphs: documents one below the other, each on lines of its own, and what is chosen of each by itself.
use Rattle.std.specs.Prelude.{ℕ, suc, ◌≡◌, false, Option, None, Some, IsSome, List, [], ◌∷◌, ◌++◌, replicate, ⊤}
use Rattle.rf_base_document.specs.declared.directions.Dir.{Dir}
use Rattle.rf_base_document.specs.Document.{Doc, Hard, Reset, IsDocument}
use Rattle.rf_base_document.specs.Render.{Piece, Break, Laid}
use Rattle.rf_base_document.specs.Picks.{LaidOutBy}
use Rattle.rf_base_document.specs.Simple.{simple}
use Rattle.rf_base_cost.specs.Cost.{Costs}
use Rattle.rf_base_optimum.specs.Chosen.{choose}
use Rattle.rf_base_optimum.specs.Best.{HasWithin, Best}

-- a paragraph: its document, and how many blank lines stand behind it
pub record Paragraph : Type 0 where
  pub doc : Doc
  pub blanks : ℕ

-- the line ends behind a paragraph: one without indentation for each blank line, and one more
abbrev pub line_ends : ℕ → List Doc
line_ends blanks = replicate blanks (Reset Hard) ++ Hard ∷ []

-- the paragraphs in order, with the line ends behind each
unfoldable pub paragraphs_docs : List Paragraph → List Doc
paragraphs_docs [] = []
paragraphs_docs (p ∷ paragraphs) = p.doc ∷ (line_ends p.blanks ++ paragraphs_docs paragraphs)

-- each paragraph keeps the limits of documents
unfoldable pub EachIsDocument : List Paragraph → Type 0
EachIsDocument [] = ⊤
EachIsDocument (p ∷ paragraphs) = IsDocument p.doc × EachIsDocument paragraphs

-- each paragraph has a core
unfoldable pub EachHasCore : List Paragraph → Type 0
EachHasCore [] = ⊤
EachHasCore (p ∷ paragraphs) = IsSome (simple p.doc false) × EachHasCore paragraphs

-- the choices are those of each paragraph in order, which are best for it by itself, at column 0 and indentation 0
unfoldable pub EachBest : {C : Type 0} → Costs C → ℕ → List Paragraph → List Dir → Type 0
EachBest costs w [] choices = choices ≡ []
EachBest costs w (p ∷ paragraphs) choices =
    (x : List Dir) × (y : List Dir) × (choices ≡ x ++ y) × Best costs w p.doc 0 0 false x
    × EachBest costs w paragraphs y

-- the choices that are chosen of a core, if there is one, at column 0 and indentation 0
abbrev pub chosen_of : {C : Type 0} → Costs C → ℕ → Option Doc → List Dir
chosen_of costs w None = []
chosen_of costs w (Some core) = (choose costs w core 0 0).choices

-- what is chosen of the core of each paragraph by itself, one after the other
unfoldable pub chosen_apart : {C : Type 0} → Costs C → ℕ → List Paragraph → List Dir
chosen_apart costs w [] = []
chosen_apart costs w (p ∷ paragraphs) = chosen_of costs w (simple p.doc false) ++ chosen_apart costs w paragraphs

-- the breaks of the line ends behind a paragraph
abbrev pub line_breaks : ℕ → List Piece
line_breaks blanks = replicate (suc blanks) (Break 0)

-- the choices are those of each paragraph in order, and the pieces are those of each by itself, at column 0 and
-- indentation 0, with the breaks of the line ends behind each
unfoldable pub EachLaidOut : List Paragraph → List Dir → List Piece → Type 0
EachLaidOut [] choices pieces = (choices ≡ []) × (pieces ≡ [])
EachLaidOut (p ∷ paragraphs) choices pieces =
    (x : List Dir) × (y : List Dir) × (first : Laid) × (rest : List Piece) × (choices ≡ x ++ y)
    × (pieces ≡ first.pieces ++ (line_breaks p.blanks ++ rest)) × LaidOutBy p.doc x 0 0 false first
    × EachLaidOut paragraphs y rest

-- each paragraph by itself has a resolution within w columns, at column 0 and indentation 0
unfoldable pub EachHasWithin : ℕ → List Paragraph → Type 0
EachHasWithin w [] = ⊤
EachHasWithin w (p ∷ paragraphs) = HasWithin w p.doc 0 0 false × EachHasWithin w paragraphs
