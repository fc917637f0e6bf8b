-- Counts of faults, which are kept in 64 bits and stand still at their greatest value.
use Rattle.std.specs.Prelude.{◌≡◌, ℕ, ◌+◌, ◌<◌, ◌≤◌, ◌⊎◌, min}

-- the count of faults rose: it is greater after than before, or stands at the greatest u64
abbrev pub Rose : ℕ → ℕ → Type 0
Rose before after = (before < after) ⊎ (after ≡ 18446744073709551615)

-- the count of faults didn't fall, and where it fitted 64 bits it still does
abbrev pub Lasts : ℕ → ℕ → Type 0
Lasts before after = (before ≤ after) × (before ≤ 18446744073709551615 → after ≤ 18446744073709551615)

-- a count with one more, which stands still at the greatest u64
abbrev pub next_count : ℕ → ℕ
next_count n = min (n + 1) 18446744073709551615
