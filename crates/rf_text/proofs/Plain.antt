-- Bytes that are plain are characters of their own, and none of them is LF.
use Rattle.std.proofs.Common.{◌≡◌, ℕ, true, false, nat_eq, List, [], ◌∷◌, refl, arith}
use Rattle.std.specs.List.{list_all, list_any}
use Rattle.std.specs.Str.{IsAscii}
use Rattle.std.proofs.lemmas.Str.Ascii.{IsAscii-nil, IsAscii-cons}
use Rattle.rf_text.specs.Lines.{is_plain}

pub plain_ascii : (bs : List ℕ) → list_all is_plain bs ≡ true → IsAscii bs
plain_ascii [] h = IsAscii-nil
plain_ascii (b ∷ bs) h = IsAscii-cons b bs (grind (arith, h)) (plain_ascii bs (grind (arith, h)))

pub plain_feed : (bs : List ℕ) → list_all is_plain bs ≡ true → list_any (λ b. nat_eq b 10) bs ≡ false
plain_feed [] h = refl
plain_feed (b ∷ bs) h = grind (arith, h, plain_feed bs (grind (arith, h)))
