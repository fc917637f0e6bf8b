-- Frontiers that are those of a part.
use Rattle.std.proofs.Common.{◌≡◌, ℕ, zero, suc, ◌+◌, ◌≤◌, List, refl, sym, ◌∙◌, ap, Option, None, Some}
use Rattle.rf_base_document.specs.Document.{Doc, Nest, Align, Reset}
use Rattle.rf_base_document.specs.Graph.{GraphNode, NestNode, AlignNode, ResetNode, IsNode, IsGraph, unfolded}
use Rattle.rf_base_document.proofs.Graph.{unfolded-node}
use Rattle.rf_base_cost.specs.Cost.{Costs}
use Rattle.rf_base_optimum.specs.Plain.{plain}
use Rattle.rf_base_optimum.proofs.Frontier.{plain_deep}
use Rattle.rf_resolve.specs.declared.keys.Key.{Key}
use Rattle.rf_resolve.specs.Keys.{frontier_of, SameFrontier, key_at, nested_key, placed_part, seen_behind, seen_to}

-- what `plain` says of a node's tree, where the tree is known
plain_at : {C : Type 0} (costs : Costs C) (w : ℕ) (d e : Doc) (c i : ℕ) → d ≡ e → plain costs w d c i ≡ plain costs w e c i
plain_at costs w d e c i same = ap (λ (x : Doc). plain costs w x c i) same

pub nest_same : {C : Type 0} (costs : Costs C) (w : ℕ) (nodes : List GraphNode) (key next : Key) (n a : ℕ) →
    IsGraph nodes → IsNode nodes key.node (NestNode n a) → next ≡ nested_key w key n a → SameFrontier costs w nodes key next
unfolding plain
nest_same {C} costs w nodes key next n a whole is at =
    let parts : unfolded nodes key.node ≡ Nest n (unfolded nodes a) = unfolded-node nodes key.node _ whole is in
    ap (λ (k : Key). frontier_of costs w nodes k) at
    ∙ (plain_deep costs w (unfolded nodes a) key.column (key.indentation + n)
    ∙ sym (plain_at costs w _ _ key.column key.indentation parts))

pub align_same : {C : Type 0} (costs : Costs C) (w : ℕ) (nodes : List GraphNode) (key next : Key) (a : ℕ) →
    IsGraph nodes → IsNode nodes key.node (AlignNode a) → next ≡ key_at key a key.column → SameFrontier costs w nodes key next
unfolding plain
align_same {C} costs w nodes key next a whole is at =
    let parts : unfolded nodes key.node ≡ Align (unfolded nodes a) = unfolded-node nodes key.node _ whole is in
    ap (λ (k : Key). frontier_of costs w nodes k) at ∙ sym (plain_at costs w _ _ key.column key.indentation parts)

pub reset_same : {C : Type 0} (costs : Costs C) (w : ℕ) (nodes : List GraphNode) (key next : Key) (a : ℕ) →
    IsGraph nodes → IsNode nodes key.node (ResetNode a) → next ≡ key_at key a 0 → SameFrontier costs w nodes key next
unfolding plain
reset_same {C} costs w nodes key next a whole is at =
    let parts : unfolded nodes key.node ≡ Reset (unfolded nodes a) = unfolded-node nodes key.node _ whole is in
    ap (λ (k : Key). frontier_of costs w nodes k) at ∙ sym (plain_at costs w _ _ key.column key.indentation parts)

-- a nesting of a graph is of at most 1,000 columns
pub nest_limit : (nodes : List GraphNode) (m n a : ℕ) → IsGraph nodes → IsNode nodes m (NestNode n a) → n ≤ 1000
unfolding IsGraph
nest_limit nodes m n a whole is = (whole m (NestNode n a) is).1

-- what is seen from a key that has a part is what is seen from the part
pub seen_step : (n m : ℕ) (nodes : List GraphNode) (w : ℕ) (key next : Key) → n ≡ suc m → placed_part nodes w key ≡ Some next →
    seen_to n nodes w key ≡ seen_to m nodes w next
unfolding seen_to
seen_step n m nodes w key next is placed =
    ap (λ (k : ℕ). seen_to k nodes w key) is ∙ ap (λ (o : Option Key). seen_behind key o (seen_to m nodes w)) placed

-- from a key without such a part itself is seen
pub seen_stops : (n : ℕ) (nodes : List GraphNode) (w : ℕ) (key : Key) → placed_part nodes w key ≡ None → seen_to n nodes w key ≡ key
unfolding seen_to
seen_stops zero nodes w key none = refl
seen_stops (suc n) nodes w key none = ap (λ (o : Option Key). seen_behind key o (seen_to n nodes w)) none

pub seen_none_more : (n : ℕ) (nodes : List GraphNode) (w : ℕ) (key : Key) → n ≡ 0 → seen_to n nodes w key ≡ key
unfolding seen_to
seen_none_more n nodes w key none = ap (λ (k : ℕ). seen_to k nodes w key) none
