-- Parts of nodes, and what their frontiers are.
use Rattle.std.proofs.Common.{◌≡◌, ℕ, suc, ◌+◌, ◌<◌, ◌≤◌, List, [], ◌∷◌, length, sym, ◌∙◌, ap, subst, Option, None, Some, IfSome, Bor, arith}
use Rattle.std.specs.Option.{option_copied}
use Rattle.std.proofs.lemmas.List.{length-map}
use Rattle.rf_base_document.specs.declared.directions.Dir.{Dir}
use Rattle.rf_base_document.specs.Document.{IsDocument}
use Rattle.rf_base_document.specs.Graph.{GraphNode, IsNode, IsGraph, parts_end, unfolded}
use Rattle.rf_base_document.proofs.Graph.{StandsFor-unfolded, StandsFor-documents}
use Rattle.rf_base_cost.specs.declared.measures.Measure.{Measure}
use Rattle.rf_base_cost.specs.Cost.{Costs, Lawful, IsColumn}
use Rattle.rf_base_cost.specs.Pareto.{IsFrontier, EachIsValue, rewayed, all_rewayed}
use Rattle.rf_base_cost.proofs.Choices.{frontier_back, values_back}
use Rattle.rf_base_optimum.specs.Plain.{EachEndsBy}
use Rattle.rf_base_optimum.proofs.Frontier.{plain_frontier, plain_values, plain_ends, plain_short}
use Rattle.rf_frontier.specs.declared.hows.How.{How}
use Rattle.rf_frontier.specs.declared.hows.HowId.{HowId}
use Rattle.rf_frontier.specs.Ways.{choices_of, KeepsWays}
use Rattle.rf_frontier.specs.Frontiers.{all_chosen}
use Rattle.rf_frontier.proofs.Behind.{belong_keeps, chosen_keeps}
use Rattle.rf_resolve.specs.declared.keys.Key.{Key}
use Rattle.rf_resolve.specs.Keys.{frontier_of, IsAsked, SameFrontier, key_at}
use Rattle.rf_resolve.specs.Holding.{IsFrontierAt, MemoHolds, found_at, MemoView}

-- a part of the node may be asked for at the node's column, and stands before it
pub part_asked : (nodes : List GraphNode) (w : ℕ) (key part : Key) (node : GraphNode) (a i : ℕ) → IsAsked nodes w key → IsNode nodes key.node node →
    suc a ≤ parts_end node → i ≤ w + 1 → part ≡ key_at key a i → IsAsked nodes w part × (part.node < key.node)
unfolding IsGraph
part_asked nodes w key part node a i asked is part_of deep at =
    let first : parts_end node ≤ key.node = (asked.graph key.node node is).0 in
    subst (λ (k : Key). IsAsked nodes w k × (k.node < key.node)) (sym at) (
      record {
        graph = asked.graph;
        node = omega (arith, part_of, first, asked.node);
        column = asked.column;
        indentation = deep;
      },
      omega (arith, part_of, first),
    )

pub narrow_column : (w : ℕ) → w ≤ 400 → IsColumn w
narrow_column w narrow = omega (arith, narrow)

pub node_document : (nodes : List GraphNode) (n : ℕ) → IsGraph nodes → n < length nodes → IsDocument (unfolded nodes n)
node_document nodes n whole within = StandsFor-documents nodes n (unfolded nodes n) whole (StandsFor-unfolded nodes n whole within)

-- a frontier that is known is one, of values, within the width, and short
pub at_frontier : {C : Type 0} (costs : Costs C) (laws : Lawful costs) (w : ℕ) (nodes : List GraphNode) (ways : List How) (key : Key) (f : List (Measure C HowId)) →
    w ≤ 400 → IsAsked nodes w key → IsFrontierAt costs w nodes ways key f → IsFrontier costs f
at_frontier costs laws w nodes ways key f narrow asked at =
    frontier_back costs (λ (id : HowId). choices_of ways id.0) f
    (subst (λ (l : List (Measure _ (List Dir))). IsFrontier costs l) (sym at.measures)
    (plain_frontier costs laws w (unfolded nodes key.node) key.column key.indentation (narrow_column w narrow) (node_document nodes key.node asked.graph asked.node)))

pub at_values : {C : Type 0} (costs : Costs C) (laws : Lawful costs) (w : ℕ) (nodes : List GraphNode) (ways : List How) (key : Key) (f : List (Measure C HowId)) →
    w ≤ 400 → IsAsked nodes w key → IsFrontierAt costs w nodes ways key f → EachIsValue costs f
at_values costs laws w nodes ways key f narrow asked at =
    values_back costs (λ (id : HowId). choices_of ways id.0) f
    (subst (λ (l : List (Measure _ (List Dir))). EachIsValue costs l) (sym at.measures)
    (plain_values costs laws w (unfolded nodes key.node) key.column key.indentation (narrow_column w narrow) (node_document nodes key.node asked.graph asked.node)))

pub ends_back : {C H K : Type 0} (w : ℕ) (see : H → K) (f : List (Measure C H)) → EachEndsBy w (all_rewayed see f) → EachEndsBy w f
unfolding EachEndsBy
ends_back w see [] ends = tt
ends_back w see (m ∷ rest) ends = (ends.0, ends_back w see rest ends.1)

pub at_ends : {C : Type 0} (costs : Costs C) (w : ℕ) (nodes : List GraphNode) (ways : List How) (key : Key) (f : List (Measure C HowId)) →
    IsFrontierAt costs w nodes ways key f → EachEndsBy w f
at_ends costs w nodes ways key f at =
    ends_back w (λ (id : HowId). choices_of ways id.0) f
    (subst (λ (l : List (Measure _ (List Dir))). EachEndsBy w l) (sym at.measures) (plain_ends costs w (unfolded nodes key.node) key.column key.indentation))

pub at_short : {C : Type 0} (costs : Costs C) (laws : Lawful costs) (w : ℕ) (nodes : List GraphNode) (ways : List How) (key : Key) (f : List (Measure C HowId)) →
    w ≤ 400 → IsAsked nodes w key → IsFrontierAt costs w nodes ways key f → length f ≤ w + 1
at_short costs laws w nodes ways key f narrow asked at =
    let same : length (all_chosen ways f) ≡ length f = length-map f (rewayed (λ (id : HowId). choices_of ways id.0)) in
    let short : length (frontier_of costs w nodes key) ≤ w + 1 =
    plain_short costs laws w (unfolded nodes key.node) key.column key.indentation (narrow_column w narrow) (node_document nodes key.node asked.graph asked.node) in
    let counts : length (all_chosen ways f) ≡ length (frontier_of costs w nodes key) = ap length at.measures in
    omega (arith, same, short, counts)

-- what the memo has at a key whose frontier is another's
pub held_at : {C : Type 0} (costs : Costs C) (w : ℕ) (nodes : List GraphNode) (ways : List How) (memo : MemoView C) (key : Key) (f : List (Measure C HowId)) →
    MemoHolds costs w nodes ways memo → found_at memo key ≡ Some f → IsFrontierAt costs w nodes ways key f
unfolding MemoHolds
held_at costs w nodes ways memo key f holds found = holds.1 key f found

-- the same of what was asked of the memo
pub held_if : {C : Type 0} (costs : Costs C) (w : ℕ) (nodes : List GraphNode) (ways : List How) (memo : MemoView C) (key : Key) (told : Option (Bor (List (Measure C HowId)))) →
    MemoHolds costs w nodes ways memo → option_copied told ≡ found_at memo key → IfSome told (λ f. IsFrontierAt costs w nodes ways key f.now)
held_if costs w nodes ways memo key None holds is = tt
held_if costs w nodes ways memo key (Some f) holds is = held_at costs w nodes ways memo key f.now holds (sym is)

-- the frontier of a key that has the same
pub at_same : {C : Type 0} (costs : Costs C) (w : ℕ) (nodes : List GraphNode) (ways : List How) (key other : Key) (f : List (Measure C HowId)) →
    SameFrontier costs w nodes key other → IsFrontierAt costs w nodes ways other f → IsFrontierAt costs w nodes ways key f
at_same costs w nodes ways key other f same at = record { measures = at.measures ∙ same; belong = at.belong }

-- frontiers and memos go on where ways are added
pub at_later : {C : Type 0} (costs : Costs C) (w : ℕ) (nodes : List GraphNode) (old new : List How) (key : Key) (f : List (Measure C HowId)) →
    KeepsWays old new → IsFrontierAt costs w nodes old key f → IsFrontierAt costs w nodes new key f
at_later costs w nodes old new key f keeps at =
    record { measures = chosen_keeps old new f keeps at.belong ∙ at.measures; belong = belong_keeps old new f keeps at.belong }

pub memo_later : {C : Type 0} (costs : Costs C) (w : ℕ) (nodes : List GraphNode) (old new : List How) (memo : MemoView C) →
    KeepsWays old new → MemoHolds costs w nodes old memo → MemoHolds costs w nodes new memo
unfolding MemoHolds KeepsWays
memo_later costs w nodes old new memo keeps holds = (omega (arith, holds.0, keeps.0), λ key f found. at_later costs w nodes old new key f keeps (holds.1 key f found))
