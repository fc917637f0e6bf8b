-- What documents take of a list of choices, and what is left of it.
use Rattle.std.specs.Prelude.{◌≡◌, ℕ, ◌+◌, ◌<◌, List, [], ◌∷◌, ◌++◌, length, Option, None, Some, ⊤}
use Rattle.std.specs.Option.{option_and_then}
use Rattle.rf_base_document.specs.declared.directions.Dir.{Dir}
use Rattle.rf_base_document.specs.declared.directions.Dir.TheVariants.{Left, Right}
use Rattle.rf_base_document.specs.Document.{Doc, Text, Newline, Hard, Concat, Nest, Align, Reset, Flatten, Choice, Only}
use Rattle.rf_base_document.specs.Document.{Charge}
use Rattle.rf_base_document.specs.Graph.{GraphNode, unfolded}

-- what is left where the first choice goes to one of two sides
abbrev pub side_left : (List Dir → Option (List Dir)) → (List Dir → Option (List Dir)) → List Dir → Option (List Dir)
side_left first second [] = None
side_left first second (Left ∷ choices) = first choices
side_left first second (Right ∷ choices) = second choices

-- what is left where one side alone is
abbrev pub only_left : Dir → (List Dir → Option (List Dir)) → List Dir → Option (List Dir)
only_left Left side (Left ∷ choices) = side choices
only_left Right side (Right ∷ choices) = side choices
only_left _ side _ = None

-- what is left of the choices once the document has taken its own, if they pick a resolution of it
unfoldable pub left_by : Doc → List Dir → Option (List Dir)
left_by (Text s len) choices = Some choices
left_by Newline choices = Some choices
left_by Hard choices = Some choices
left_by (Concat a b) choices = option_and_then (λ rest. left_by b rest) (left_by a choices)
left_by (Nest n a) choices = left_by a choices
left_by (Align a) choices = left_by a choices
left_by (Reset a) choices = left_by a choices
left_by (Flatten a) choices = left_by a choices
left_by (Choice a b) choices = side_left (λ rest. left_by a rest) (λ rest. left_by b rest) choices
left_by (Only dir a) choices = only_left dir (λ rest. left_by a rest) choices
left_by (Charge k a) choices = left_by a choices

-- what is left once the numbered nodes' documents have, the last one first
unfoldable pub left_by_all : List GraphNode → List ℕ → List Dir → Option (List Dir)
left_by_all graph [] choices = Some choices
left_by_all graph (n ∷ nodes) choices =
    option_and_then (λ rest. left_by (unfolded graph n) rest) (left_by_all graph nodes choices)

-- the number of texts, line breaks and other nodes of a tree
unfoldable pub size_of : Doc → ℕ
size_of (Text s len) = 1
size_of Newline = 1
size_of Hard = 1
size_of (Concat a b) = 1 + (size_of a + size_of b)
size_of (Nest n a) = 1 + size_of a
size_of (Align a) = 1 + size_of a
size_of (Reset a) = 1 + size_of a
size_of (Flatten a) = 1 + size_of a
size_of (Choice a b) = 1 + (size_of a + size_of b)
size_of (Only dir a) = 1 + size_of a
size_of (Charge k a) = 1 + size_of a

-- the nodes are the graph's
unfoldable pub AreNodes : List GraphNode → List ℕ → Type 0
AreNodes graph [] = ⊤
AreNodes graph (n ∷ nodes) = (n < length graph) × AreNodes graph nodes

-- how many turns the nodes take at most
unfoldable pub turns_of : List GraphNode → List ℕ → ℕ
turns_of graph [] = 0
turns_of graph (n ∷ nodes) = size_of (unfolded graph n) + turns_of graph nodes

-- node n, the last of the nodes, took its choices as far as its own kind goes: other nodes stand for its parts, and
-- what all leave is the same; or the choices don't go on
abbrev pub Took : List GraphNode → List ℕ → ℕ → List Dir → List ℕ → Option (List Dir) → Type 0
Took graph nodes n choices after None = left_by_all graph (nodes ++ n ∷ []) choices ≡ None
Took graph nodes n choices after (Some rest) =
    AreNodes graph after × (left_by_all graph after rest ≡ left_by_all graph (nodes ++ n ∷ []) choices)
    × (turns_of graph after < turns_of graph (nodes ++ n ∷ []))

-- the side of a choice
abbrev pub side_of : {N : Type 0} → Dir → N → N → N
side_of Left a b = a
side_of Right a b = b

-- the choices begin with this one and go on so, or they don't begin with it
abbrev pub AfterFirst : Dir → List Dir → Option (List Dir) → Type 0
AfterFirst dir choices None = (rest : List Dir) → choices ≡ dir ∷ rest → ⊥
AfterFirst dir choices (Some rest) = choices ≡ dir ∷ rest
