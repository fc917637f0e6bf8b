-- Directions, one after another.
use Rattle.std.proofs.Common.{◌≡◌, ℕ, ◌+◌, ◌<◌, List, [], ◌∷◌, ◌++◌, length, take, get_or, ap, sym, ◌∙◌, append_assoc, append-nil}
use Rattle.std.proofs.lemmas.List.{take_more}
use Rattle.rf_base_document.specs.declared.directions.Dir.{Dir}
use Rattle.rf_base_document.specs.Directions.{letter}
use Rattle.rf_top.specs.Answer.{directions}

directions-snoc : (choices : List Dir) (dir : Dir) → directions (choices ++ dir ∷ []) ≡ directions choices ++ letter dir
directions-snoc [] dir = append-nil (letter dir)
directions-snoc (c ∷ choices) dir =
    ap (λ l. letter c ++ l) (directions-snoc choices dir) ∙ sym (append_assoc (letter c) (directions choices) (letter dir))

-- one more
pub directions-more : (choices : List Dir) (n : ℕ) (other : Dir) → n < length choices →
    directions (take (n + 1) choices) ≡ directions (take n choices) ++ letter (get_or choices n other)
directions-more choices n other h =
    ap directions (take_more choices n other h) ∙ directions-snoc (take n choices) (get_or choices n other)
