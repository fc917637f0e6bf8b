-- Nodes that stand before a number.
use Rattle.std.specs.Prelude.{ℕ, ◌<◌, Option, None, Some, ⊤}
use Rattle.rf_tree.specs.declared.nodes.At.{At}

-- the node, if there is one, is among the first n
abbrev pub AtBelow : ℕ → Option At → Type 0
AtBelow n None = ⊤
AtBelow n (Some at) = at.0 < n
