-- What stands in a core as nodes are added to it.
use Rattle.std.proofs.Common.{◌≡◌, ℕ, ◌≤◌, List, [], ◌∷◌, ◌++◌, length, Option, None, Some, slice_get, inl, inr, ap, sym, subst, ◌∙◌, ◌+◌, length-append, arith}
use Rattle.std.proofs.lemmas.List.{map_push}
use Rattle.rf_base_document.specs.Document.{Doc}
use Rattle.rf_base_document.specs.Graph.{GraphNode, IsGraph, NodeKeepsLimits, parts_end}
use Rattle.rf_base_document.proofs.Graph.{IsGraph-added, StandsFor-append, slice_get-added}
use Rattle.rf_flat.specs.declared.cores.CoreNode.{CoreNode}
use Rattle.rf_flat.specs.declared.simple_nodes.Places.{Places}
use Rattle.rf_flat.specs.declared.simple_nodes.Made.{Made}
use Rattle.rf_flat.specs.declared.simple_nodes.Made.TheVariants.{Newer}
use Rattle.rf_flat.specs.Cores.{core_node, core_nodes}
use Rattle.rf_flat.specs.Places.{Placed, BothPlaced, ArePlaced, Makes, Grows}

pub added_is_graph : (xs ys : List CoreNode) (node : CoreNode) → ys ≡ xs ++ node ∷ [] → IsGraph (core_nodes xs) →
    (parts_end (core_node node) ≤ length (core_nodes xs)) × NodeKeepsLimits (core_node node) → IsGraph (core_nodes ys)
added_is_graph xs ys node is whole fits =
    subst (λ (g : List GraphNode). IsGraph g) (sym (ap core_nodes is ∙ map_push core_node xs node))
    (IsGraph-added (core_nodes xs) (core_node node) whole fits.0 fits.1)

-- a node that is to be added fits the core
new_fits : (nodes : List GraphNode) (o : Option Doc) (node : CoreNode) → Makes nodes o (Newer node) →
    (parts_end (core_node node) ≤ length nodes) × NodeKeepsLimits (core_node node)
new_fits nodes None node makes = absurd makes
new_fits nodes (Some s) node makes = (makes.0, makes.1)

pub newer_fits : (xs ys : List CoreNode) (o : Option Doc) (made : Made) (node : CoreNode) → xs ≡ ys → made ≡ Newer node → Makes (core_nodes xs) o made →
    (parts_end (core_node node) ≤ length (core_nodes ys)) × NodeKeepsLimits (core_node node)
newer_fits xs ys o made node same is makes =
    new_fits (core_nodes ys) o node
    (subst (λ (l : List CoreNode). Makes (core_nodes l) o (Newer node)) same (subst (λ (m : Made). Makes (core_nodes xs) o m) is makes))

pub placed_still : (old new : List GraphNode) (o : Option Doc) (p : Option ℕ) → Grows old new → Placed old o p → Placed new o p
placed_still old new None None grows h = h
placed_still old new (Some s) (Some m) grows h =
    subst (λ (g : List GraphNode). Placed g (Some s) (Some m)) (sym grows.1) (StandsFor-append old grows.0 m s h)
placed_still old new _ _ grows h = absurd h

pub are_placed_still : (graph old new : List GraphNode) (all : List Places) → Grows old new → ArePlaced graph old all → ArePlaced graph new all
unfolding ArePlaced
are_placed_still graph old new all grows placed n places found =
    let both = placed n places found in (placed_still old new _ places.broken grows both.0, placed_still old new _ places.flat grows both.1)

pub are_placed_one_more : (graph nodes : List GraphNode) (all more : List Places) (n : ℕ) (both : Places) → more ≡ all ++ both ∷ [] → length all ≡ n →
    ArePlaced graph nodes all → BothPlaced graph nodes n both → ArePlaced graph nodes more
unfolding ArePlaced
are_placed_one_more graph nodes all more n both is count placed new k places found =
    elim (slice_get-added all both k places (ap (λ (l : List Places). slice_get l k) (sym is) ∙ found)) [
      | inl h ↦ placed k places h
      | inr h ↦ subst (λ (m : ℕ). BothPlaced graph nodes m places) (sym (h.0 ∙ count)) (subst (λ (p : Places). BothPlaced graph nodes n p) h.1 new)
    ]

pub no_places : (graph nodes : List GraphNode) (all : List Places) → all ≡ [] → ArePlaced graph nodes all
unfolding ArePlaced
no_places graph nodes all none k places found = let empty : None ≡ Some places = ap (λ (l : List Places). slice_get l k) (sym none) ∙ found in cc

pub no_nodes : (nodes : List CoreNode) → nodes ≡ [] → IsGraph (core_nodes nodes)
unfolding IsGraph
no_nodes nodes none = subst (λ (l : List CoreNode). IsGraph (core_nodes l)) (sym none) (λ n node found. cc)

pub one_longer : {A : Type 0} (xs ys : List A) (x : A) (n : ℕ) → ys ≡ xs ++ x ∷ [] → length xs ≡ n → length ys ≡ n + 1
one_longer {A = A} xs ys x n is count = ap (λ (l : List A). length l) is ∙ omega (arith, length-append xs (x ∷ []), count)
