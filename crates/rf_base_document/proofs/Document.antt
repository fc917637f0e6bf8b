-- A test of texts of one line, for texts that are written out.
use Rattle.std.proofs.Common.{◌≡◌, ℕ, zero, suc, Bool, true, false, cond, ◌==◌, List, [], ◌∷◌, refl, eq-eqb, arith}
use Rattle.rf_base_document.specs.Document.{IsOneLine}

-- no character is LF
abbrev pub has_no_line_feed : List ℕ → Bool
has_no_line_feed [] = true
has_no_line_feed (c ∷ s) = cond (c == 10) false (has_no_line_feed s)

-- a test that passes where another fails
both_tests : (b x : Bool) → cond b false x ≡ true → (b ≡ false) × (x ≡ true)
both_tests true x h = cc
both_tests false x h = (refl, h)

pub IsOneLine-from_test : (s : List ℕ) → has_no_line_feed s ≡ true → IsOneLine s
IsOneLine-from_test [] h (k, less, e) = omega arith
IsOneLine-from_test (c ∷ s) h (zero, less, e) =
    let here = both_tests (c == 10) (has_no_line_feed s) h in
    let is : (c == 10) ≡ true = eq-eqb c 10 e in
    cc
IsOneLine-from_test (c ∷ s) h (suc k, less, e) = IsOneLine-from_test s (both_tests (c == 10) (has_no_line_feed s) h).1 (
  k,
  omega arith,
  e,
)
