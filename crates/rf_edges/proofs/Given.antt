-- What a sink was given of some bytes, over several writes.
use Rattle.std.proofs.Common.{◌≡◌, ℕ, ◌+◌, ◌-◌, List, ◌++◌, Option, length, take, drop, sym, ap, ◌∙◌, subst}
use Rattle.std.proofs.Math.Seq.{take-add}
use Rattle.std.proofs.lemmas.List.{take_rest}
use Rattle.std.proofs.KnownBytes.{Appends-trans}
use Rattle.std.specs.Io.KnownBytes.{Appends}

-- the first i bytes were appended, and then n of the piece `&xs[i..]`
pub Appends-more : (a b c : Option (List ℕ)) (xs : List ℕ) (i n : ℕ) → Appends a b (take i xs) → Appends b c (take n (take (length xs - i) (drop i xs))) → Appends a c (take (i + n) xs)
Appends-more a b c xs i n p q =
    let piece : take i xs ++ take n (take (length xs - i) (drop i xs)) ≡ take (i + n) xs =
    ap (λ l. take i xs ++ take n l) (take_rest xs i) ∙ sym (take-add i n xs) in
    subst (Appends a c) piece (Appends-trans a b c _ _ p q)
