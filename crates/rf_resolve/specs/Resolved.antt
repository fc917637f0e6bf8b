-- What is said of the chosen resolution.
use Rattle.std.specs.Prelude.{ℕ, ◌+◌, ◌*◌}

-- the most comparisons of costs that resolving a core of so many nodes takes, within w columns
abbrev pub resolve_steps : ℕ → ℕ → ℕ
resolve_steps nodes w = 6 * nodes * ((w + 1) * (w + 1) * (w + 1)) * (w + 2)
