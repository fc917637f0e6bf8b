-- How many pieces the first nodes of a graph have.
use Rattle.std.specs.Prelude.{ℕ, ◌<◌, ◌≤◌, List, length, slice_index_or}
use Rattle.rf_base_document.specs.Graph.{GraphNode, unfolded}
use Rattle.rf_base_optimum.specs.MostPieces.{most_pieces}

-- each number is no less than the pieces that the node of its place has
unfoldable pub AreCounted : List GraphNode → List ℕ → Type 0
AreCounted graph counts = (n : ℕ) → n < length counts → most_pieces (unfolded graph n) ≤ slice_index_or counts n 0
