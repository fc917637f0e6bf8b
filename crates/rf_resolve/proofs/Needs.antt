-- What is needed first, and how many steps a frontier takes.
use Rattle.std.proofs.Common.{◌≡◌, ℕ, suc, ◌+◌, ◌*◌, ◌<◌, ◌≤◌, None, arith}
use Rattle.std.proofs.Math.Nat.{mul-le-mul}
use Rattle.std.specs.Prelude.{List}
use Rattle.rf_base_document.specs.Graph.{GraphNode, IsNode, parts_end}
use Rattle.rf_base_steps.specs.Steps.{MakesAtMost}
use Rattle.rf_resolve.specs.declared.keys.Key.{Key}
use Rattle.rf_resolve.specs.Gaps.{frontier_steps}
use Rattle.rf_base_cost.specs.Cost.{Costs}
use Rattle.rf_frontier.specs.declared.hows.How.{How}
use Rattle.rf_resolve.specs.Keys.{IsAsked, SameFrontier, key_at}
use Rattle.rf_resolve.specs.Holding.{MemoView, found_at}
use Rattle.rf_resolve.specs.Answers.{IsNeeded, Answers}
use Rattle.rf_resolve.specs.declared.answering.Answer.{Answer}
use Rattle.rf_resolve.specs.declared.answering.Answer.TheVariants.{Frontier, Needs}
use Rattle.rf_resolve.proofs.Parts.{part_asked, at_same}

-- the part of a node that is needed, by the key at which it is sought
pub part_needed : {C : Type 0} (nodes : List GraphNode) (w : ℕ) (memo : MemoView C) (key at part : Key) (node : GraphNode) (a i : ℕ) → IsAsked nodes w key → IsNode nodes key.node node →
    suc a ≤ parts_end node → i ≤ w + 1 → at ≡ key_at key a i → IsAsked nodes w part → part.node ≤ at.node → found_at memo part ≡ None → IsNeeded nodes w memo part key.node
part_needed nodes w memo key at part node a i asked is part_of deep at_is part_is earlier missing =
    let before : at.node < key.node = (part_asked nodes w key at node a i asked is part_of deep at_is).1 in
    record { asked = part_is; earlier = omega (arith, before, earlier); missing = missing }

-- two steps for each of w + 1 measures are no more than a frontier may take
pub few_steps : (w n before after : ℕ) → n ≤ w + 1 → MakesAtMost (2 * n) before after → MakesAtMost (frontier_steps w) before after
few_steps w n before after short made =
    let wide : (w + 1) * 1 ≤ (w + 1) * (w + 1) = mul-le-mul (omega arith) (omega arith) in
    (made.0, omega (arith, made.1, short, wide))

pub few_steps_of_two : (w n m before after : ℕ) → n ≤ w + 1 → m ≤ w + 1 → MakesAtMost (n + m) before after → MakesAtMost (frontier_steps w) before after
few_steps_of_two w n m before after short other made =
    let wide : (w + 1) * 1 ≤ (w + 1) * (w + 1) = mul-le-mul (omega arith) (omega arith) in
    (made.0, omega (arith, made.1, short, other, wide))

-- three for each of w + 1, for as many measures
pub few_steps_each : (w n before after : ℕ) → n ≤ w + 1 → MakesAtMost (3 * (w + 1) * n) before after → MakesAtMost (frontier_steps w) before after
few_steps_each w n before after short made =
    let wide : (w + 1) * n ≤ (w + 1) * (w + 1) = mul-le-mul (omega arith) short in
    let same : 3 * (w + 1) * n ≡ 3 * ((w + 1) * n) = omega arith in
    (made.0, omega (arith, made.1, same, wide))

-- what is needed before a node is needed before a later one
pub earlier_needed : {C : Type 0} (nodes : List GraphNode) (w : ℕ) (memo : MemoView C) (part : Key) (before other : ℕ) → before ≤ other → IsNeeded nodes w memo part before → IsNeeded nodes w memo part other
earlier_needed nodes w memo part before other less needed = record { asked = needed.asked; earlier = omega (arith, less, needed.earlier); missing = needed.missing }

-- what is said of a part's frontier is said of the node that has the same
pub said_of_part : {C : Type 0} (costs : Costs C) (w : ℕ) (nodes : List GraphNode) (ways : List How) (memo : MemoView C) (key part : Key) (said : Answer C) → SameFrontier costs w nodes key part →
    part.node < key.node → Answers costs w nodes ways memo part (part.node + 1) said → Answers costs w nodes ways memo key key.node said
said_of_part costs w nodes ways memo key part (Frontier f) same less said = at_same costs w nodes ways key part f same said
said_of_part costs w nodes ways memo key part (Needs first) same less said = earlier_needed nodes w memo first (part.node + 1) key.node (omega (arith, less)) said
