-- A sequence is the same however many cuts are allowed, if there are enough; so it is its halves' sequences.
use Rattle.std.proofs.Common.{◌≡◌, ℕ, zero, suc, ◌≤◌, List, [], ◌∷◌, refl, length, take, drop, arith}
use Rattle.std.proofs.lemmas.List.{length-take, length-drop}
use Rattle.rf_base_document.specs.Document.{Doc, Concat, plain_text}
use Rattle.rf_base_document.specs.Sequence.{half_up, seq_within, seq}

-- two concatenations with equal parts
same_concat : {a b c d : Doc} → a ≡ c → b ≡ d → Concat a b ≡ Concat c d
same_concat p q = cc

pub seq_within-enough : (f g : ℕ) (parts : List Doc) → length parts ≤ f → length parts ≤ g →
    seq_within f parts ≡ seq_within g parts
unfolding seq_within
seq_within-enough zero zero parts p q = refl
seq_within-enough zero (suc g) [] p q = refl
seq_within-enough zero (suc g) (a ∷ parts) p q = absurd (omega arith)
seq_within-enough (suc f) zero [] p q = refl
seq_within-enough (suc f) zero (a ∷ parts) p q = absurd (omega arith)
seq_within-enough (suc f) (suc g) [] p q = refl
seq_within-enough (suc f) (suc g) (a ∷ []) p q = refl
seq_within-enough (suc f) (suc g) (a ∷ b ∷ parts) p q =
    let all : List Doc = a ∷ b ∷ parts in
    let h : ℕ = half_up (length all) in
    same_concat
    (seq_within-enough f g (take h all) (omega (arith, length-take h all)) (omega (arith, length-take h all)))
    (seq_within-enough f g (drop h all) (omega (arith, length-drop h all)) (omega (arith, length-drop h all)))

pub seq_joins_halves : (parts : List Doc) → 2 ≤ length parts →
    seq parts ≡ Concat (seq (take (half_up (length parts)) parts)) (seq (drop (half_up (length parts)) parts))
unfolding seq seq_within
seq_joins_halves [] p = absurd (omega arith)
seq_joins_halves (a ∷ []) p = absurd (omega arith)
seq_joins_halves (a ∷ b ∷ parts) p =
    let all : List Doc = a ∷ b ∷ parts in
    let h : ℕ = half_up (length all) in
    same_concat
    (seq_within-enough (suc (length parts)) (length (take h all)) (take h all) (omega (arith, length-take h all))
    (omega arith))
    (seq_within-enough (suc (length parts)) (length (drop h all)) (drop h all) (omega (arith, length-drop h all))
    (omega arith))

pub seq_of_none : seq [] ≡ plain_text []
unfolding seq seq_within
seq_of_none = refl

pub seq_of_one : (a : Doc) → seq (a ∷ []) ≡ a
unfolding seq seq_within
seq_of_one a = refl
