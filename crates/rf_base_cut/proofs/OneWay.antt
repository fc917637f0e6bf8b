-- A document on one line has one length, by one list of choices.
use Rattle.std.proofs.Common.{◌≡◌, ℕ, ◌+◌, Bool, false, ◌||◌, List, ◌∷◌, ◌++◌, refl, sym, ◌∙◌, ap, ap₂, inl, inr}
use Rattle.std.proofs.lemmas.Bool.{or_from, and_left, and_right}
use Rattle.rf_base_document.specs.declared.directions.Dir.{Dir}
use Rattle.rf_base_document.specs.declared.directions.Dir.TheVariants.{Left, Right}
use Rattle.rf_base_document.specs.Document.{Doc, Text, Newline, Hard, Concat, Nest, Align, Reset, Flatten, Choice, Only, Charge}
use Rattle.rf_base_cost.proofs.Dominance.{true_not_false}
use Rattle.rf_base_cut.specs.OneLine.{is_never_free, OneLine}

-- what is on one line may cost nothing
line_may_be_free : (d : Doc) (len : ℕ) (how : List Dir) → OneLine d len how → is_never_free d ≡ false
unfolding OneLine is_never_free
line_may_be_free (Text s columns) len how h = refl
line_may_be_free (Concat a b) len how h =
    or_from (is_never_free a) (is_never_free b) (line_may_be_free a h.0 h.2 h.6) (line_may_be_free b h.1 h.3 h.7)
line_may_be_free (Nest n a) len how h = line_may_be_free a len how h
line_may_be_free (Align a) len how h = line_may_be_free a len how h
line_may_be_free (Reset a) len how h = line_may_be_free a len how h
line_may_be_free (Choice a b) len how h =
    elim h.1 [
      | inl left ↦ and_left (is_never_free a) (is_never_free b) (line_may_be_free a len h.0 left.1)
      | inr right ↦ and_right (is_never_free a) (is_never_free b) (line_may_be_free b len h.0 right.2)
    ]
line_may_be_free (Only dir a) len how h = line_may_be_free a len h.0 h.2
line_may_be_free _ len how h = absurd h

-- and has one length by one list of choices
one_way : (d : Doc) (len other : ℕ) (how others : List Dir) → OneLine d len how → OneLine d other others →
    (other ≡ len) × (others ≡ how)
unfolding OneLine is_never_free
one_way (Text s columns) len other how others h k = (k.0 ∙ sym h.0, k.1 ∙ sym h.1)
one_way (Concat a b) len other how others h k =
    let first = one_way a h.0 k.0 h.2 k.2 h.6 k.6 in
    let second = one_way b h.1 k.1 h.3 k.3 h.7 k.7 in (
      k.4 ∙ ap₂ (λ (i j : ℕ). i + j) first.0 second.0 ∙ sym h.4,
      k.5 ∙ ap₂ (λ (x y : List Dir). x ++ y) first.1 second.1 ∙ sym h.5,
    )
one_way (Nest n a) len other how others h k = one_way a len other how others h k
one_way (Align a) len other how others h k = one_way a len other how others h k
one_way (Reset a) len other how others h k = one_way a len other how others h k
one_way (Choice a b) len other how others h k =
    elim h.1 [
      | inl left ↦ elim k.1 [
        | inl left' ↦
            let same = one_way a len other h.0 k.0 left.1 left'.1 in
            (same.0, left'.0 ∙ ap (λ (z : List Dir). Left ∷ z) same.1 ∙ sym left.0)
        | inr right ↦ true_not_false (is_never_free a) right.1 (line_may_be_free a len h.0 left.1)
      ]
      | inr right ↦ elim k.1 [
        | inl left ↦ true_not_false (is_never_free a) right.1 (line_may_be_free a other k.0 left.1)
        | inr right' ↦
            let same = one_way b len other h.0 k.0 right.2 right'.2 in
            (same.0, right'.0 ∙ ap (λ (z : List Dir). Right ∷ z) same.1 ∙ sym right.0)
      ]
    ]
one_way (Only dir a) len other how others h k =
    let same = one_way a len other h.0 k.0 h.2 k.2 in
    (same.0, k.1 ∙ ap (λ (z : List Dir). dir ∷ z) same.1 ∙ sym h.1)
one_way _ len other how others h _ = absurd h

pub one_line_one : (d : Doc) (len : ℕ) (how : List Dir) → OneLine d len how →
    (is_never_free d ≡ false)
    × ((other : ℕ) (others : List Dir) → OneLine d other others → (other ≡ len) × (others ≡ how))
one_line_one d len how h = (line_may_be_free d len how h, λ other others k. one_way d len other how others h k)
