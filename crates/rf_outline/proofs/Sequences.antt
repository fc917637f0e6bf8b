-- Documents one after another.
use Rattle.std.proofs.Common.{ℕ, zero, suc, ◌≤◌, ◌<◌, List, [], ◌∷◌, ◌++◌, length, take, drop, refl, sym, ◌∙◌, ap₂, arith}
use Rattle.std.proofs.lemmas.List.{length-take, length-drop, take-append-drop}
use Rattle.rf_base_document.specs.Document.{Doc, Concat}
use Rattle.rf_base_document.specs.Sequence.{half_up, seq}
use Rattle.rf_base_document.proofs.Sequence.{seq_joins_halves, seq_of_one}
use Rattle.rf_outline.specs.Sequences.{One, Both, in_order, joined, IsSequence}

pub alone : (d : Doc) → IsSequence (d ∷ []) d
unfolding in_order joined
alone d = (One d, refl, refl)

pub both_parts : (ds es : List Doc) (d e : Doc) → IsSequence ds d → IsSequence es e → IsSequence (ds ++ es) (Concat d e)
unfolding in_order joined
both_parts ds es d e a b = (Both a.0 b.0, ap₂ (λ (x y : List Doc). x ++ y) a.1 b.1, ap₂ Concat a.2 b.2)

-- a sequence of at least one document, by the depth that its cuts into halves have at most
halved : (depth : ℕ) (ds : List Doc) → 0 < length ds → length ds ≤ depth → IsSequence ds (seq ds)
halved zero ds some few = absurd (omega (arith, some, few))
halved (suc depth) [] some few = absurd (omega (arith, some))
halved (suc depth) (a ∷ []) some few =
    let own = alone a in
    (own.0, own.1, own.2 ∙ sym (seq_of_one a))
halved (suc depth) (a ∷ b ∷ ds) some few =
    let all : List Doc = a ∷ b ∷ ds in
    let half : ℕ = half_up (length all) in
    let first = halved depth (take half all) (omega (arith, length-take half all)) (omega (arith, few, length-take half all)) in
    let second = halved depth (drop half all) (omega (arith, length-drop half all)) (omega (arith, few, length-drop half all)) in
    let whole = both_parts (take half all) (drop half all) (seq (take half all)) (seq (drop half all)) first second in
    (whole.0, whole.1 ∙ take-append-drop half all, whole.2 ∙ sym (seq_joins_halves all (omega arith)))

pub seq_is_sequence : (ds : List Doc) → 0 < length ds → IsSequence ds (seq ds)
seq_is_sequence ds some = halved (length ds) ds some (omega arith)
