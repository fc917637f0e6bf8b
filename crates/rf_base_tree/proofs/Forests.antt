-- Trees in order, and one more tree behind them.
use Rattle.std.proofs.Common.{◌≡◌, ℕ, ◌≤◌, List, [], ◌++◌, refl, sym, ap, ◌∙◌, arith}
use Rattle.std.proofs.lemmas.List.{append_assoc, append-nil}
use Rattle.rf_base_grammar.specs.Token.{Token}
use Rattle.rf_base_tree.specs.Trees.{Tree, Leaf, Forest, Empty, Then, tree_items, forest_items, tree_depth, forest_depth}
use Rattle.rf_base_tree.specs.Dots.{Mark, marked, marks_of}
use Rattle.rf_base_tree.specs.Moves.{push}
use Rattle.rf_base_tree.specs.Formed.{IsFormed, AreFormed}

-- the trees of both, in order
abbrev pub append : Forest → Forest → Forest
append f Empty = f
append f (Then t g) = append (push f t) g

pub forest_items-push : (f : Forest) (t : Tree) → forest_items (push f t) ≡ forest_items f ++ tree_items t
unfolding forest_items
forest_items-push Empty t = append-nil (tree_items t)
forest_items-push (Then u f) t =
    ap (λ xs. tree_items u ++ xs) (forest_items-push f t)
    ∙ sym (append_assoc (tree_items u) (forest_items f) (tree_items t))

pub AreFormed-push : (ts : List Token) (f : Forest) (t : Tree) → AreFormed ts f → IsFormed ts t →
    AreFormed ts (push f t)
unfolding AreFormed
AreFormed-push ts Empty t h k = (k, tt)
AreFormed-push ts (Then u f) t h k = (h.0, AreFormed-push ts f t h.1 k)

pub forest_depth-push : (f : Forest) (t : Tree) (n : ℕ) → forest_depth f ≤ n → tree_depth t ≤ n →
    forest_depth (push f t) ≤ n
unfolding forest_depth
forest_depth-push Empty t n h k = omega arith
forest_depth-push (Then u f) t n h k =
    let rest : forest_depth (push f t) ≤ n = forest_depth-push f t n (omega arith) k in
    omega arith

-- a tree's mark stands before what follows
pub marked_append : (t : Tree) (xs : List Mark) → marked t xs ≡ marked t [] ++ xs
marked_append (Leaf item) xs = refl
marked_append _ xs = refl

pub marks_of-push : (f : Forest) (t : Tree) → marks_of (push f t) ≡ marks_of f ++ marked t []
unfolding marks_of
marks_of-push Empty t = refl
marks_of-push (Then u f) t =
    ap (λ xs. marked u xs) (marks_of-push f t)
    ∙ marked_append u (marks_of f ++ marked t [])
    ∙ sym (append_assoc (marked u []) (marks_of f) (marked t []))
    ∙ ap (λ xs. xs ++ marked t []) (sym (marked_append u (marks_of f)))

-- a forest is what is appended to none
push_append : (f : Forest) (t : Tree) (g : Forest) → append (Then t f) g ≡ Then t (append f g)
push_append f t Empty = refl
push_append f t (Then u g) = push_append (push f u) t g

pub append_to_none : (g : Forest) → append Empty g ≡ g
append_to_none Empty = refl
append_to_none (Then t g) = push_append Empty t g ∙ ap (λ f. Then t f) (append_to_none g)
