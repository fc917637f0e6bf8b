-- What is drawn of strands in a row.
use Rattle.std.proofs.Common.{◌≡◌, ℕ, List, [], ◌∷◌, ◌++◌, refl, sym, ap, ◌∙◌, subst, append_assoc, append-nil}
use Rattle.rf_base_file.specs.Signature.{Strand, IsDrawn, Drawn}

-- two texts in a row are drawn of both their strands
pub Drawn-append : (front rest : List Strand) (x y : List ℕ) → Drawn front x → Drawn rest y →
    Drawn (front ++ rest) (x ++ y)
unfolding Drawn
Drawn-append [] rest x y h k = subst (λ (s : List ℕ). Drawn rest (s ++ y)) (sym h) k
Drawn-append (strand ∷ front) rest x y h k =
    (h.0, h.1 ++ y, ap (λ s. s ++ y) h.2 ∙ append_assoc h.0 h.1 y, h.3, Drawn-append front rest h.1 y h.4 k)

-- what is drawn of strands in a row is two texts in a row
pub record Cut (front rest : List Strand) (text : List ℕ) : Type 0 where
  pub before : List ℕ
  pub behind : List ℕ
  pub text_is : text ≡ before ++ behind
  pub first : Drawn front before
  pub second : Drawn rest behind

pub Drawn-cut : (front rest : List Strand) (text : List ℕ) → Drawn (front ++ rest) text → Cut front rest text
unfolding Drawn
Drawn-cut [] rest text h = record { before = []; behind = text; text_is = refl; first = refl; second = h }
Drawn-cut (strand ∷ front) rest text h =
    let cut = Drawn-cut front rest h.1 h.4 in
    record {
      before = h.0 ++ cut.before;
      behind = cut.behind;
      text_is = h.2 ∙ ap (λ xs. h.0 ++ xs) cut.text_is ∙ sym (append_assoc h.0 cut.before cut.behind);
      first = (h.0, cut.before, refl, h.3, cut.first);
      second = cut.second;
    }

-- a text of one strand
pub Drawn-one : (strand : Strand) (text : List ℕ) → IsDrawn strand text → Drawn (strand ∷ []) text
unfolding Drawn
Drawn-one strand text h = (text, [], sym (append-nil text), h, refl)

pub one_drawn : (strand : Strand) (text : List ℕ) → Drawn (strand ∷ []) text → IsDrawn strand text
unfolding Drawn
one_drawn strand text h = subst (IsDrawn strand) (sym (append-nil h.0) ∙ sym (h.2 ∙ ap (λ xs. h.0 ++ xs) h.4)) h.3
