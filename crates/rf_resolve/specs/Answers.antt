-- What is said of a node's frontier while not all frontiers are known.
use Rattle.std.specs.Prelude.{◌≡◌, ℕ, ◌+◌, ◌<◌, List, [], ◌∷◌, None, ⊤}
use Rattle.rf_base_document.specs.Graph.{GraphNode}
use Rattle.rf_base_cost.specs.Cost.{Costs}
use Rattle.rf_base_cost.specs.declared.measures.Measure.{Measure}
use Rattle.rf_frontier.specs.declared.hows.How.{How}
use Rattle.rf_frontier.specs.declared.hows.HowId.{HowId}
use Rattle.rf_frontier.specs.Frontiers.{BelongTo, chosen, all_chosen}
use Rattle.rf_resolve.specs.declared.keys.Key.{Key}
use Rattle.rf_resolve.specs.declared.answering.Answer.{Answer}
use Rattle.rf_resolve.specs.declared.answering.Answer.TheVariants.{Frontier, Needs}
use Rattle.rf_resolve.specs.Keys.{IsAsked}
use Rattle.rf_resolve.specs.Holding.{IsFrontierAt, found_at, MemoView}
use Rattle.rf_resolve.specs.Joining.{joined_behind}

-- the memo has no frontier at the part's key, whose node stands at least so far before a node
pub record IsNeeded {C : Type 0} (nodes : List GraphNode) (w : ℕ) (memo : MemoView C) (part : Key)
    (before : ℕ) : Type 0 where
  pub asked : IsAsked nodes w part
  pub earlier : part.node < before
  pub missing : found_at memo part ≡ None

-- the answer is the frontier at the key, or the key of a part, before this node, whose frontier is missing
abbrev pub Answers : {C : Type 0} → Costs C → ℕ → List GraphNode → List How → MemoView C → Key → ℕ → Answer C → Type 0
Answers costs w nodes ways memo key before (Frontier f) = IsFrontierAt costs w nodes ways key f
Answers costs w nodes ways memo key before (Needs part) = IsNeeded nodes w memo part before

-- the answer is the frontier of one measure with the part behind it, or the key of a part that is needed first
abbrev pub JoinsAlone : {C : Type 0} → Costs C → ℕ → List GraphNode → List How → List How → MemoView C → Key →
    Measure C HowId → Answer C → Type 0
JoinsAlone costs w nodes old new memo part m (Frontier f) =
    (all_chosen new f ≡ joined_behind costs w nodes part (chosen old m ∷ [])) × BelongTo new f
JoinsAlone costs w nodes old new memo part m (Needs key) = IsNeeded nodes w memo key (part.node + 1)

-- no step was made where a frontier is needed first
abbrev pub IsUnpaid : {C : Type 0} → Answer C → ℕ → ℕ → Type 0
IsUnpaid (Frontier f) before after = ⊤
IsUnpaid (Needs part) before after = after ≡ before
