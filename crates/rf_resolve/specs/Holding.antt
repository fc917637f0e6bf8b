-- What is known of frontiers.
use Rattle.std.specs.Prelude.{◌≡◌, ℕ, ◌<◌, List, [], ◌∷◌, length, Option, None, Some}
use Rattle.rf_base_document.specs.Graph.{GraphNode}
use Rattle.rf_base_cost.specs.declared.measures.Measure.{Measure}
use Rattle.rf_base_cost.specs.Cost.{Costs}
use Rattle.rf_frontier.specs.declared.hows.How.{How}
use Rattle.rf_frontier.specs.declared.hows.HowId.{HowId}
use Rattle.rf_frontier.specs.Frontiers.{BelongTo, chosen, all_chosen}
use Rattle.rf_memo.specs.declared.page.Entry.{Entry}
use Rattle.rf_memo.specs.Memo.{found}
use Rattle.rf_resolve.specs.declared.keys.Key.{Key}
use Rattle.rf_resolve.specs.Keys.{frontier_of}

-- the measures are the frontier of the node at the key, with ways for their choices
pub record IsFrontierAt {C : Type 0} (costs : Costs C) (w : ℕ) (nodes : List GraphNode) (ways : List How) (key : Key)
    (f : List (Measure C HowId)) : Type 0 where
  pub measures : all_chosen ways f ≡ frontier_of costs w nodes key
  pub belong : BelongTo ways f

-- the frontier of the node at the key is this measure alone, with a way for its choices, or empty
abbrev pub IsLeafMeasure : {C : Type 0} → Costs C → ℕ → List GraphNode → List How → Key → Option (Measure C HowId) →
    Type 0
IsLeafMeasure costs w nodes ways key None = frontier_of costs w nodes key ≡ []
IsLeafMeasure costs w nodes ways key (Some m) =
    (frontier_of costs w nodes key ≡ chosen ways m ∷ []) × (m.how.0 < length ways)

-- a memo as it is seen: its entries by node
abbrev pub MemoView : Type 0 → Type 0
MemoView C = List (List (Entry (List (Measure C HowId))))

-- what the memo has at the key
abbrev pub found_at : {C : Type 0} → MemoView C → Key → Option (List (Measure C HowId))
found_at memo key = found memo key.node key.column key.indentation

-- there is a way, and whatever the memo has at a key is the frontier there
unfoldable pub MemoHolds : {C : Type 0} → Costs C → ℕ → List GraphNode → List How → MemoView C → Type 0
MemoHolds {C} costs w nodes ways memo =
    (0 < length ways)
    × ((key : Key) (f : List (Measure C HowId)) → found_at memo key ≡ Some f → IsFrontierAt costs w nodes ways key f)

-- this is the place of the key
abbrev pub IsPlace : Key → ℕ → ℕ → ℕ → Type 0
IsPlace key n column indentation = (n ≡ key.node) × (column ≡ key.column) × (indentation ≡ key.indentation)

-- the memo has these measures at the key, and elsewhere what it had
pub record Gains {C : Type 0} (old : MemoView C) (key : Key) (f : List (Measure C HowId))
    (new : MemoView C) : Type 0 where
  pub here : found_at new key ≡ Some f
  pub elsewhere : (n column indentation : ℕ) → (IsPlace key n column indentation → ⊥) →
      found new n column indentation ≡ found old n column indentation
