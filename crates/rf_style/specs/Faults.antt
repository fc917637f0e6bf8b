-- Why a style file is refused, and what reading a part of it gives.
use Rattle.std.specs.Prelude.{ℕ, ℤ, List, Result, Ok, Err}

-- the first fault of a style file
pub data Fault : Type 0 where
  -- its bytes are no TOML
  style_text : Fault
  -- the key is none of its table
  style_key : List ℕ → Fault
  -- the key's value has another type than is asked, or is none of its words; or the name has no rule
  style_value : List ℕ → Fault
  -- the key's number is out of its range
  style_range : List ℕ → ℤ → Fault

-- what was read, or the first fault
abbrev pub Reading : Type 0 → Type 0
Reading A = Result A Fault

module _ {A B : Type 0} where
  -- what is read on from what was read; the first fault stays
  abbrev pub and_then : (A → Reading B) → Reading A → Reading B
  and_then next (Ok x) = next x
  and_then next (Err fault) = Err fault

  -- what was read, under f
  abbrev pub reading_map : (A → B) → Reading A → Reading B
  reading_map f (Ok x) = Ok (f x)
  reading_map f (Err fault) = Err fault
