-- What is known of the bytes that a source has left and a sink was given, where those are told.
use Rattle.std.specs.Prelude.{◌≡◌, ℕ, ◌<◌, ◌≤◌, List, [], length, drop, take, Option, Result, Some, IfSome, IfOk, ◌↔◌}
use Rattle.std.specs.Io.KnownBytes.{Appends}

-- a read into a buffer that isn't empty gives no byte exactly where no told byte was left
abbrev pub EndsExactly : {E : Type 0} → Option (List ℕ) → Result ℕ E → List ℕ → Type 0
EndsExactly left r buf = IfSome left (λ bytes. IfOk r (λ n. 0 < length buf → ((n ≡ 0) ↔ (bytes ≡ []))))

-- of the told bytes the first n, which are there, were taken, and the others are left
abbrev pub Takes : Option (List ℕ) → Option (List ℕ) → ℕ → Type 0
Takes old new n = IfSome old (λ xs. (n ≤ length xs) × (new ≡ Some (drop n xs)))

-- of the told bytes at most n were taken, from the front
abbrev pub TakesAtMost : Option (List ℕ) → Option (List ℕ) → ℕ → Type 0
TakesAtMost old new n = (k : ℕ) × (k ≤ n) × Takes old new k

-- a prefix of these bytes was appended to the told ones
abbrev pub AppendsPrefix : Option (List ℕ) → Option (List ℕ) → List ℕ → Type 0
AppendsPrefix old new bytes = (k : ℕ) × (k ≤ length bytes) × Appends old new (take k bytes)
