-- How many steps a call makes, by the counter before and after it.
use Rattle.std.specs.Prelude.{◌≡◌, ℕ, ◌+◌, ◌≤◌}

-- one step was counted
abbrev pub MakesOneStep : ℕ → ℕ → Type 0
MakesOneStep before after = after ≡ before + 1

-- at most n steps were counted, and none was taken back
abbrev pub MakesAtMost : ℕ → ℕ → ℕ → Type 0
MakesAtMost n before after = (before ≤ after) × (after ≤ before + n)
