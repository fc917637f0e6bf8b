-- What the forms of the edges in memory hold, as contracts see it.
use Rattle.std.specs.Prelude.{ℕ, List}

-- which calls fail: how many calls there were, the numbers of those that fail, from 1, and how many faults there were
pub record Plan : Type 0 where
  pub calls : ℕ
  pub fails : List ℕ
  pub faults : ℕ

-- the bytes still to come, and how many a call gives at most
pub record Tape : Type 0 where
  pub left : List ℕ
  pub step : ℕ

-- a source in memory: a tape, and which calls fail
pub record Feed : Type 0 where
  pub left : List ℕ
  pub step : ℕ
  pub calls : ℕ
  pub fails : List ℕ
  pub faults : ℕ

-- a sink in memory: the bytes that were written, for how many there is room, how many a call takes at most, and which
-- calls fail
pub record Store : Type 0 where
  pub written : List ℕ
  pub room : ℕ
  pub step : ℕ
  pub calls : ℕ
  pub fails : List ℕ
  pub faults : ℕ

-- a shelf in memory: the names and bytes of its files, and which calls fail
pub record Cabinet : Type 0 where
  pub files : List (List ℕ × List ℕ)
  pub calls : ℕ
  pub fails : List ℕ
  pub faults : ℕ
