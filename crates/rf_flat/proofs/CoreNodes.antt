-- Cores as they are kept and as they are seen.
use Rattle.std.proofs.Common.{◌≡◌, ℕ, ◌<◌, ◌≤◌, List, [], ◌∷◌, ◌++◌, length, Some, slice_get, get_or, Option, None, ap, sym, subst, ◌∙◌, refl, arith}
use Rattle.std.specs.Option.{option_map}
use Rattle.std.proofs.lemmas.List.{length-map, map_push}
use Rattle.std.proofs.lemmas.Option.{slice_get_read, slice_get-get_or, slice_get-map}
use Rattle.rf_base_document.specs.Document.{Doc}
use Rattle.rf_base_document.specs.Document.{Text as TextDoc, Newline as NewlineDoc, Hard as HardDoc, Concat as ConcatDoc, Nest as NestDoc, Align as AlignDoc, Reset as ResetDoc, Flatten as FlattenDoc, Choice as ChoiceDoc, Only as OnlyDoc, Charge as ChargeDoc}
use Rattle.rf_base_document.specs.Simple.{IsCore}
use Rattle.rf_base_document.specs.Graph.{GraphNode, HardNode, FlattenNode, IsNode, IsGraph, StandsFor, parts_end}
use Rattle.rf_base_document.proofs.Graph.{parts_come_first}
use Rattle.rf_flat.specs.declared.cores.CoreNode.{CoreNode}
use Rattle.rf_flat.specs.declared.cores.CoreNode.TheVariants.{Text}
use Rattle.rf_flat.specs.Cores.{core_node, core_nodes, CoreGraph, core_graph, IsCoreGraph}

-- a node that is read is the graph's node of that number
pub told_at : (xs : List CoreNode) (n : ℕ) (x : CoreNode) → x ≡ get_or xs n x → n < length xs → IsNode (core_nodes xs) n (core_node x)
told_at xs n x found within =
    let stored : slice_get xs n ≡ Some x = slice_get_read xs (length xs) n x refl within found in
    slice_get-map core_node xs n ∙ ap (λ (o : Option CoreNode). option_map core_node o) stored

pub told_or : (xs : List CoreNode) (n : ℕ) (d : CoreNode) → n < length xs → IsNode (core_nodes xs) n (core_node (get_or xs n d))
told_or xs n d within = slice_get-map core_node xs n ∙ ap (λ (o : Option CoreNode). option_map core_node o) (slice_get-get_or xs n d within)

-- the parts of a node that is read come before it
pub parts_within : (xs : List CoreNode) (n k : ℕ) (d : CoreNode) → IsGraph (core_nodes xs) → n < length xs → n ≤ k → parts_end (core_node (get_or xs n d)) ≤ k
parts_within xs n k d whole within le = omega (arith, parts_come_first (core_nodes xs) n (core_node (get_or xs n d)) whole (told_or xs n d within))

pub nodes_count : (xs : List CoreNode) → length (core_nodes xs) ≡ length xs
nodes_count xs = length-map xs core_node

pub told_seen : (xs : List CoreNode) (root n : ℕ) (core : CoreGraph) (x : CoreNode) → core_graph (core_nodes xs) root ≡ core →
    x ≡ get_or xs n x → n < length core.nodes → IsNode core.nodes n (core_node x)
told_seen xs root n core x view found within =
    let same : core_nodes xs ≡ core.nodes = ap (λ (k : CoreGraph). k.nodes) view in
    subst (λ (g : List GraphNode). IsNode g n (core_node x)) same
    (told_at xs n x found (omega (arith, ap (λ (g : List GraphNode). length g) same, nodes_count xs)))

pub seen_is_graph : (xs : List CoreNode) (root : ℕ) (core : CoreGraph) → core_graph (core_nodes xs) root ≡ core →
    IsCoreGraph (core_graph (core_nodes xs) root) → IsGraph core.nodes
seen_is_graph xs root core view whole = subst (λ (k : CoreGraph). IsGraph k.nodes) view whole.0

pub nodes_pushed : (xs ys : List CoreNode) (x : CoreNode) → ys ≡ xs ++ x ∷ [] → core_nodes ys ≡ core_nodes xs ++ core_node x ∷ []
nodes_pushed xs ys x e = ap (λ (l : List CoreNode). core_nodes l) e ∙ map_push core_node xs x

-- a node that is told by another name
pub told_as : (g : List GraphNode) (n : ℕ) (x y : CoreNode) → x ≡ y → IsNode g n (core_node x) → IsNode g n (core_node y)
told_as g n x y same h = subst (λ (z : CoreNode). IsNode g n (core_node z)) same h

-- a core's node is no `Flatten` and no `Hard`
IsCoreNode : GraphNode → Type 0
IsCoreNode HardNode = ⊥
IsCoreNode (FlattenNode a) = ⊥
IsCoreNode _ = Unit {0}

core_node_is : (x : CoreNode) → IsCoreNode (core_node x)
unfolding IsCoreNode
core_node_is (Text s len) = tt
core_node_is _ = tt

found_is : (o : Option CoreNode) (node : GraphNode) → option_map core_node o ≡ Some node → IsCoreNode node
found_is None node e = cc
found_is (Some x) node e = let same : core_node x ≡ node = cc in subst (λ (y : GraphNode). IsCoreNode y) same (core_node_is x)

kind_at : (xs : List CoreNode) (n : ℕ) (node : GraphNode) → IsNode (core_nodes xs) n node → IsCoreNode node
kind_at xs n node is = found_is (slice_get xs n) node (sym (slice_get-map core_node xs n) ∙ is)

-- what a core's node stands for has neither
core_stands : (xs : List CoreNode) (d : Doc) (n : ℕ) → StandsFor (core_nodes xs) n d → IsCore d
unfolding StandsFor IsCore IsCoreNode
core_stands xs (TextDoc s len) n h = tt
core_stands xs NewlineDoc n h = tt
core_stands xs HardDoc n h = kind_at xs n HardNode h
core_stands xs (ConcatDoc a b) n h = (core_stands xs a h.0 h.3, core_stands xs b h.1 h.4)
core_stands xs (NestDoc k a) n h = core_stands xs a h.0 h.2
core_stands xs (AlignDoc a) n h = core_stands xs a h.0 h.2
core_stands xs (ResetDoc a) n h = core_stands xs a h.0 h.2
core_stands xs (FlattenDoc a) n h = kind_at xs n (FlattenNode h.0) h.1
core_stands xs (ChoiceDoc a b) n h = (core_stands xs a h.0 h.3, core_stands xs b h.1 h.4)
core_stands xs (OnlyDoc dir a) n h = core_stands xs a h.0 h.2
core_stands xs (ChargeDoc k a) n h = core_stands xs a h.0 h.2

pub seen_stands : (xs : List CoreNode) (root : ℕ) (core : CoreGraph) → core_graph (core_nodes xs) root ≡ core → (d : Doc) →
    StandsFor core.nodes core.root d → IsCore d
seen_stands xs root core view d h =
    core_stands xs d root (subst (λ (k : CoreGraph). StandsFor k.nodes k.root d) (sym view) h)
