-- Documents one after another, and the document that they are.
use Rattle.std.specs.Prelude.{◌≡◌, List, [], ◌∷◌, ◌++◌}
use Rattle.rf_base_document.specs.Document.{Doc, Concat}

-- documents concatenated two by two
pub data Joined : Type 0 where
  One : (d : Doc) → Joined
  Both : (a b : Joined) → Joined

-- the documents from first to last
unfoldable pub in_order : Joined → List Doc
in_order (One d) = d ∷ []
in_order (Both a b) = in_order a ++ in_order b

-- the document that they are
unfoldable pub joined : Joined → Doc
joined (One d) = d
joined (Both a b) = Concat (joined a) (joined b)

-- the document is these one after another, concatenated two by two in some way
abbrev pub IsSequence : List Doc → Doc → Type 0
IsSequence ds d = (t : Joined) × (in_order t ≡ ds) × (joined t ≡ d)
