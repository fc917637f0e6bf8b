-- Choices pick at most one resolution of a document.
use Rattle.std.proofs.Common.{◌≡◌, refl, inl, inr, List, [], ◌∷◌, ◌++◌, sym, ◌∙◌, ap, ap₂, append_assoc}
use Rattle.rf_base_document.specs.declared.directions.Dir.{Dir}
use Rattle.rf_base_document.specs.declared.directions.Dir.TheVariants.{Left, Right}
use Rattle.rf_base_document.specs.Document.{Doc, Text, Newline, Hard, Concat, Nest, Align, Reset, Flatten, Choice, Only, Charge}
use Rattle.rf_base_document.specs.Picks.{Picks}

-- where choices pick resolutions of the same document and the same directions are left over, they are the same
abbrev AreOne : List Dir → List Dir → List Dir → List Dir → Doc → Doc → Type 0
AreOne x y s t e f = (x ≡ y) × (e ≡ f) × (s ≡ t)

leaf_is_one : (d e f : Doc) (x y s t : List Dir) → (x ≡ []) × (e ≡ d) → (y ≡ []) × (f ≡ d) → x ++ s ≡ y ++ t →
    AreOne x y s t e f
leaf_is_one d e f x y s t h k same =
    (h.0 ∙ sym k.0, h.1 ∙ sym k.1, ap (λ p. p ++ s) (sym h.0) ∙ same ∙ ap (λ p. p ++ t) k.0)

built_is_one : (g : Doc → Doc) (x y s t : List Dir) (e f p q : Doc) → e ≡ g p → f ≡ g q → AreOne x y s t p q →
    AreOne x y s t e f
built_is_one g x y s t e f p q h k one = (one.0, h ∙ ap g one.1 ∙ sym k, one.2)

-- a direction in front of both
marked_is_one : (dir : Dir) (x y rest left s t : List Dir) (e f : Doc) → x ≡ dir ∷ rest → y ≡ dir ∷ left →
    x ++ s ≡ y ++ t →
    (rest ++ s ≡ left ++ t → AreOne rest left s t e f) → AreOne x y s t e f
marked_is_one dir x y rest left s t e f h k same under =
    let ahead : dir ∷ (rest ++ s) ≡ dir ∷ (left ++ t) = ap (λ p. p ++ s) (sym h) ∙ same ∙ ap (λ p. p ++ t) k in
    let behind : rest ++ s ≡ left ++ t = cc in
    let one = under behind in
    (h ∙ ap (λ p. dir ∷ p) one.0 ∙ sym k, one.1, one.2)

two_ways : (x y rest left s t : List Dir) → x ≡ Left ∷ rest → y ≡ Right ∷ left → x ++ s ≡ y ++ t → ⊥
two_ways x y rest left s t h k same =
    let ahead : Left ∷ (rest ++ s) ≡ Right ∷ (left ++ t) = ap (λ p. p ++ s) (sym h) ∙ same ∙ ap (λ p. p ++ t) k in
    cc

picks_are_one : (d : Doc) (x y s t : List Dir) (e f : Doc) → Picks d x e → Picks d y f → x ++ s ≡ y ++ t →
    AreOne x y s t e f
unfolding Picks
picks_are_one (Text u len) x y s t e f h k same = leaf_is_one (Text u len) e f x y s t h k same
picks_are_one Newline x y s t e f h k same = leaf_is_one Newline e f x y s t h k same
picks_are_one Hard x y s t e f h k same = leaf_is_one Hard e f x y s t h k same
picks_are_one (Concat a b) x y s t e f h k same =
    let ahead : h.0 ++ (h.1 ++ s) ≡ k.0 ++ (k.1 ++ t) =
    sym (append_assoc h.0 h.1 s) ∙ ap (λ p. p ++ s) (sym h.4) ∙ same ∙ ap (λ p. p ++ t) k.4 ∙ append_assoc k.0 k.1 t in
    let first = picks_are_one a h.0 k.0 (h.1 ++ s) (k.1 ++ t) h.2 k.2 h.6 k.6 ahead in
    let second = picks_are_one b h.1 k.1 s t h.3 k.3 h.7 k.7 first.2 in (
      h.4 ∙ ap₂ (λ p q. p ++ q) first.0 second.0 ∙ sym k.4,
      h.5 ∙ ap₂ (λ p q. Concat p q) first.1 second.1 ∙ sym k.5,
      second.2,
    )
picks_are_one (Nest n a) x y s t e f h k same =
    built_is_one (Nest n) x y s t e f h.0 k.0 h.1 k.1 (picks_are_one a x y s t h.0 k.0 h.2 k.2 same)
picks_are_one (Align a) x y s t e f h k same =
    built_is_one Align x y s t e f h.0 k.0 h.1 k.1 (picks_are_one a x y s t h.0 k.0 h.2 k.2 same)
picks_are_one (Reset a) x y s t e f h k same =
    built_is_one Reset x y s t e f h.0 k.0 h.1 k.1 (picks_are_one a x y s t h.0 k.0 h.2 k.2 same)
picks_are_one (Flatten a) x y s t e f h k same =
    built_is_one Flatten x y s t e f h.0 k.0 h.1 k.1 (picks_are_one a x y s t h.0 k.0 h.2 k.2 same)
picks_are_one (Choice a b) x y s t e f h k same =
    elim h.1 [
      | inl p ↦ elim k.1 [
        | inl q ↦
            marked_is_one Left x y h.0 k.0 s t e f p.0 q.0 same
            (λ behind. picks_are_one a h.0 k.0 s t e f p.1 q.1 behind)
        | inr q ↦ absurd (two_ways x y h.0 k.0 s t p.0 q.0 same)
      ]
      | inr p ↦ elim k.1 [
        | inl q ↦ absurd (two_ways y x k.0 h.0 t s q.0 p.0 (sym same))
        | inr q ↦
            marked_is_one Right x y h.0 k.0 s t e f p.0 q.0 same
            (λ behind. picks_are_one b h.0 k.0 s t e f p.1 q.1 behind)
      ]
    ]
picks_are_one (Only dir a) x y s t e f h k same =
    marked_is_one dir x y h.0 k.0 s t e f h.1 k.1 same (λ behind. picks_are_one a h.0 k.0 s t e f h.2 k.2 behind)
picks_are_one (Charge n a) x y s t e f h k same =
    built_is_one (Charge n) x y s t e f h.0 k.0 h.1 k.1 (picks_are_one a x y s t h.0 k.0 h.2 k.2 same)

pub picks_one : (d : Doc) (choices : List Dir) (e f : Doc) → Picks d choices e → Picks d choices f → e ≡ f
picks_one d choices e f h k = (picks_are_one d choices choices [] [] e f h k refl).1
