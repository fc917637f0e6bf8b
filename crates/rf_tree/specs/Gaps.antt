-- What is told of two items of a tree.
use Rattle.std.specs.Prelude.{ℕ, ◌≡◌, Some, slice_get}
use Rattle.rf_base_grammar.specs.Token.{Token}
use Rattle.rf_base_grammar.specs.declared.items.Item.{Item}
use Rattle.rf_tree.specs.Sorts.{token_of}
use Rattle.rf_tree.specs.declared.trees.Tree.{Tree}

-- this holds of the two items of these numbers, with their characters
abbrev pub OfItems : Tree → ℕ → ℕ → (Token → Token → Type 0) → Type 0
OfItems tree m n P =
    (a b : Item) → slice_get tree.items.items m ≡ Some a → slice_get tree.items.items n ≡ Some b →
    P (token_of tree a) (token_of tree b)
