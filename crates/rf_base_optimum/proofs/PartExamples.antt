-- Worked examples of choices that aren't best part by part: a definition that changes its meaning fails here.
use Rattle.std.proofs.Common.{◌≡◌, ℕ, ◌+◌, Bool, false, true, List, [], ◌∷◌, ◌++◌, append-nil, refl, subst, inl, inr, arith}
use lib.Chars.{codes}
use Rattle.rf_base_document.specs.declared.directions.Dir.{Dir}
use Rattle.rf_base_document.specs.declared.directions.Dir.TheVariants.{Left, Right}
use Rattle.rf_base_document.specs.Document.{Doc, Newline, Hard, Concat, Nest, Align, Reset, Flatten, Choice, Only, Charge, plain_text, IsDocument}
use Rattle.rf_base_document.specs.Render.{Word, Fee, Laid, laid, render, EachEndsWithin}
use Rattle.rf_base_document.specs.Picks.{Picks, LaidOutBy, HasLayout}
use Rattle.rf_base_document.specs.Simple.{simple}
use Rattle.rf_base_cost.specs.Cost.{Costs}
use Rattle.rf_base_optimum.specs.Best.{LeastOr, Best}
use Rattle.rf_base_optimum.specs.Dearer.{IsDearer}
use Rattle.rf_base_optimum.specs.MostPieces.{most_pieces}
use Rattle.rf_base_optimum.specs.Paragraphs.{Paragraph, EachIsDocument, EachHasCore, EachBest}
use Rattle.rf_base_optimum.proofs.Dearer.{laid_one}

abbrev four : Doc
four = plain_text (codes "aaaa")

abbrev five : Doc
five = plain_text (codes "bbbbb")

-- within three columns neither side is, so that the first one is best
abbrev either : Doc
either = Choice five four

-- where the choices' layout isn't within the width, they are best by parts
by_parts : {C : Type 0} (costs : Costs C) (w : ℕ) (d : Doc) (column indentation : ℕ) (flat : Bool) (choices : List Dir)
    (whole : Laid) (parts : Type 0) → LaidOutBy d choices column indentation flat whole →
    (EachEndsWithin w whole.pieces → ⊥) → LeastOr costs w d column indentation flat choices parts → parts
by_parts costs w d column indentation flat choices whole parts laid_out past h =
    elim h.1 [
      | inl least ↦
          let same = laid_one d choices column indentation flat least.0 whole least.1.0 laid_out in
          absurd (past (subst (λ (x : Laid). EachEndsWithin w x.pieces) same least.1.1.1))
      | inr rest ↦ rest.1
    ]

-- the second side
abbrev second : ℕ → Laid
second column = laid (Word column (codes "aaaa") 4 ∷ []) (column + 4)

second_picked : Picks either (Right ∷ []) four
unfolding Picks
second_picked = ([], inr (refl, (refl, refl)))

second_laid : (column indentation : ℕ) (flat : Bool) →
    LaidOutBy either (Right ∷ []) column indentation flat (second column)
unfolding render
second_laid column indentation flat = (four, second_picked, refl)

second_past : (column : ℕ) → EachEndsWithin 3 (second column).pieces → ⊥
unfolding EachEndsWithin
second_past column h = let ends = h.0 in omega (arith, ends)

five_has_layout : (flat : Bool) → HasLayout five flat
unfolding Picks render
five_has_layout flat = ([], laid (Word 0 (codes "bbbbb") 5 ∷ []) 5, (five, (refl, refl), refl))

second_not_best : {C : Type 0} (costs : Costs C) (column indentation : ℕ) (flat : Bool) →
    Best costs 3 either column indentation flat (Right ∷ []) → ⊥
unfolding Best
second_not_best costs column indentation flat h =
    let parts =
    by_parts costs 3 either column indentation flat (Right ∷ []) (second column) _ (second_laid column indentation flat)
    (second_past column) h in
    elim parts.1 [ inl l ↦ let same : Right ≡ Left = cc in cc | inr r ↦ r.0 (five_has_layout flat) ]

-- what isn't best of a part isn't best of what holds it
nested_not_best : {C : Type 0} (costs : Costs C) → Best costs 3 (Nest 1 either) 0 0 false (Right ∷ []) → ⊥
unfolding Best Picks render
nested_not_best costs h =
    second_not_best costs 0 1 false (by_parts costs 3 (Nest 1 either) 0 0 false (Right ∷ []) (second 0) _ (
      Nest 1 four,
      (four, refl, second_picked),
      refl,
    ) (second_past 0) h)

aligned_not_best : {C : Type 0} (costs : Costs C) → Best costs 3 (Align either) 0 0 false (Right ∷ []) → ⊥
unfolding Best Picks render
aligned_not_best costs h =
    second_not_best costs 0 0 false (by_parts costs 3 (Align either) 0 0 false (Right ∷ []) (second 0) _ (
      Align four,
      (four, refl, second_picked),
      refl,
    ) (second_past 0) h)

reset_not_best : {C : Type 0} (costs : Costs C) → Best costs 3 (Reset either) 0 1 false (Right ∷ []) → ⊥
unfolding Best Picks render
reset_not_best costs h =
    second_not_best costs 0 0 false (by_parts costs 3 (Reset either) 0 1 false (Right ∷ []) (second 0) _ (
      Reset four,
      (four, refl, second_picked),
      refl,
    ) (second_past 0) h)

flattened_not_best : {C : Type 0} (costs : Costs C) → Best costs 3 (Flatten either) 0 0 false (Right ∷ []) → ⊥
unfolding Best Picks render
flattened_not_best costs h =
    second_not_best costs 0 0 true (by_parts costs 3 (Flatten either) 0 0 false (Right ∷ []) (second 0) _ (
      Flatten four,
      (four, refl, second_picked),
      refl,
    ) (second_past 0) h)

charged_not_best : {C : Type 0} (costs : Costs C) → Best costs 3 (Charge 7 either) 0 0 false (Right ∷ []) → ⊥
unfolding Best Picks render EachEndsWithin
charged_not_best costs h =
    second_not_best costs 0 0 false (by_parts costs 3 (Charge 7 either) 0 0 false (Right ∷ [])
    (laid (Fee 7 ∷ Word 0 (codes "aaaa") 4 ∷ []) 4) _ (Charge 7 four, (four, refl, second_picked), refl)
    (λ e. second_past 0 e.1) h)

only_not_best : {C : Type 0} (costs : Costs C) → Best costs 3 (Only Left either) 0 0 false (Left ∷ Right ∷ []) → ⊥
unfolding Best Picks render
only_not_best costs h =
    let parts =
    by_parts costs 3 (Only Left either) 0 0 false (Left ∷ Right ∷ []) (second 0) _ (
      four,
      (Right ∷ [], refl, second_picked),
      refl,
    ) (second_past 0) h in
    let rest : parts.0 ≡ Right ∷ [] = cc in
    second_not_best costs 0 0 false (subst (λ (choices : List Dir). Best costs 3 either 0 0 false choices) rest parts.2)

side_not_best : {C : Type 0} (costs : Costs C) → Best costs 3 (Choice either five) 0 0 false (Left ∷ Right ∷ []) → ⊥
unfolding Best Picks render
side_not_best costs h =
    let parts =
    by_parts costs 3 (Choice either five) 0 0 false (Left ∷ Right ∷ []) (second 0) _ (
      four,
      (Right ∷ [], inl (refl, second_picked)),
      refl,
    ) (second_past 0) h in
    elim parts.1 [
      | inl l ↦
          let rest : parts.0 ≡ Right ∷ [] = cc in
          second_not_best costs 0 0 false (subst
          (λ (choices : List Dir). Best costs 3 either 0 0 false choices) rest l.2)
      | inr r ↦ let same : Left ≡ Right = cc in cc
    ]

-- each charge may be greater, wherever it stands, and else nothing may differ
abbrev around : ℕ → Doc
around k = Nest 1 (Align (Reset (Flatten (Only Left (Choice (Charge k four) (Concat Newline (Charge k Hard)))))))

charges_inside : IsDearer (around 1) (around 2)
unfolding IsDearer
charges_inside = (
  Align (Reset (Flatten (Only Left (Choice (Charge 2 four) (Concat Newline (Charge 2 Hard)))))),
  refl,
  (
    Reset (Flatten (Only Left (Choice (Charge 2 four) (Concat Newline (Charge 2 Hard))))),
    refl,
    (
      Flatten (Only Left (Choice (Charge 2 four) (Concat Newline (Charge 2 Hard)))),
      refl,
      (
        Only Left (Choice (Charge 2 four) (Concat Newline (Charge 2 Hard))),
        refl,
        (
          Choice (Charge 2 four) (Concat Newline (Charge 2 Hard)),
          refl,
          (
            Charge 2 four,
            Concat Newline (Charge 2 Hard),
            refl,
            (2, four, refl, omega arith, refl),
            (Newline, Charge 2 Hard, refl, refl, (2, Hard, refl, omega arith, refl)),
          ),
        ),
      ),
    ),
  ),
)

same_charges : IsDearer (Charge 1 four) (Charge 1 four)
unfolding IsDearer
same_charges = (1, four, refl, omega arith, refl)

-- each text, newline and charge of a resolution is a piece
pieces_inside : most_pieces (Nest 1 (Align (Flatten (Only Left (Choice (Concat Newline Hard) four))))) ≡ 2
unfolding most_pieces
pieces_inside = refl

second_side_has_more : most_pieces (Choice four (Concat Newline (Reset (Charge 0 Hard)))) ≡ 3
unfolding most_pieces
second_side_has_more = refl

-- of paragraphs each one counts, the second too
abbrev paragraphs : Doc → Doc → List Paragraph
paragraphs d e = record { doc = d; blanks = 0 } ∷ record { doc = e; blanks = 1 } ∷ []

second_too_deep : EachIsDocument (paragraphs Newline (Nest 1001 Newline)) → ⊥
unfolding EachIsDocument IsDocument
second_too_deep h = let most = h.1.0.0 in omega (arith, most)

first_too_deep : EachIsDocument (paragraphs (Nest 1001 Newline) Newline) → ⊥
unfolding EachIsDocument IsDocument
first_too_deep h = let most = h.0.0 in omega (arith, most)

both_have_cores : EachHasCore (paragraphs four Hard)
unfolding EachHasCore simple
both_have_cores = (refl, (refl, tt))

second_has_none : EachHasCore (paragraphs four (Flatten Hard)) → ⊥
unfolding EachHasCore simple
second_has_none h = let none : false ≡ true = h.1.0 in cc

-- the choices of the second stand behind those of the first, and are best for it by itself
not_best_of_second : {C : Type 0} (costs : Costs C) →
    EachBest costs 3 (paragraphs (Only Left four) either) (Left ∷ Right ∷ []) → ⊥
unfolding EachBest Best Picks
not_best_of_second costs h =
    let first = h.3.0.1.1 in
    let apart = h.4 in
    let left : h.0 ≡ Left ∷ [] = cc in
    let rest : apart.1 ≡ [] = apart.4 in
    let joined : apart.0 ++ [] ≡ apart.0 = append-nil apart.0 in
    let right : apart.0 ≡ Right ∷ [] = cc in
    second_not_best costs 0 0 false (subst
    (λ (choices : List Dir). Best costs 3 either 0 0 false choices) right apart.3)
