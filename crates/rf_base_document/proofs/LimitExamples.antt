-- Worked examples of limits and of graphs: a definition that changes its meaning fails here.
use Rattle.std.proofs.Common.{◌≡◌, ℕ, zero, suc, ◌+◌, ◌<◌, ◌≤◌, List, [], ◌∷◌, ◌++◌, length, replicate, append-nil, ap, refl, subst, inl, inr, Some, arith}
use Rattle.std.proofs.lemmas.List.{length-replicate}
use lib.Chars.{codes}
use Rattle.rf_base_document.specs.declared.directions.Dir.{Dir}
use Rattle.rf_base_document.specs.declared.directions.Dir.TheVariants.{Left}
use Rattle.rf_base_document.specs.declared.limits.TheConstants.{LAYOUT_LIMIT}
use Rattle.rf_base_document.specs.Document.{Doc, Text, Newline, Hard, Concat, Nest, Align, Reset, Flatten, Choice, Only, Charge, plain_text, IsOneLine, KeepsTextLimits, IsDocument}
use Rattle.rf_base_document.specs.Graph.{GraphNode, TextNode, NewlineNode, HardNode, ConcatNode, NestNode, AlignNode, ResetNode, FlattenNode, ChoiceNode, OnlyNode, ChargeNode, parts_end, NodeKeepsLimits, IsGraph, StandsFor, EachStandsFor}
use Rattle.rf_base_document.specs.Picks.{leaves_of}
use Rattle.rf_base_document.specs.Render.{Word, Break, Laid, laid, render, layout}
use Rattle.rf_base_document.specs.TooLong.{IsTooLong}
use Rattle.rf_base_document.proofs.Document.{IsOneLine-from_test}

-- LF ends a line, and CR doesn't
return_on_one_line : IsOneLine (97 ∷ 13 ∷ [])
return_on_one_line = IsOneLine-from_test (97 ∷ 13 ∷ []) refl

feed_on_two_lines : IsOneLine (97 ∷ 10 ∷ []) → ⊥
feed_on_two_lines h = h (1, omega arith, refl)

-- a character takes up at most two columns
two_columns_each : KeepsTextLimits (codes "ab") 4
two_columns_each = (IsOneLine-from_test (codes "ab") refl, omega arith)

no_third_column : KeepsTextLimits (codes "ab") 5 → ⊥
no_third_column h = omega (arith, h.1)

-- a nesting and a charge are at most 1,000
at_most_thousand : IsDocument (Nest 1000
    (Charge 1000 (Concat (Choice Newline Hard) (Align (Reset (Flatten (Only Left (plain_text []))))))))
unfolding IsDocument
at_most_thousand = (omega arith, (omega arith, ((tt, tt), (IsOneLine-from_test [] refl, omega arith))))

abbrev too_deep : Doc
too_deep = Nest 1001 Newline

not_deeper : IsDocument too_deep → ⊥
unfolding IsDocument
not_deeper h = omega (arith, h.0)

not_dearer : IsDocument (Charge 1001 Newline) → ⊥
unfolding IsDocument
not_dearer h = omega (arith, h.0)

text_too_long : IsDocument (Text (codes "ab") 5) → ⊥
unfolding IsDocument
text_too_long h = no_third_column h

-- no part may be
not_inside : IsDocument (Nest 1 (Charge 2 (Align (Reset (Flatten (Only Left too_deep)))))) → ⊥
unfolding IsDocument
not_inside h = not_deeper h.1.1

no_first_part : IsDocument (Concat too_deep Newline) → ⊥
unfolding IsDocument
no_first_part h = not_deeper h.0

no_second_part : IsDocument (Concat Newline too_deep) → ⊥
unfolding IsDocument
no_second_part h = not_deeper h.1

no_first_side : IsDocument (Choice too_deep Newline) → ⊥
unfolding IsDocument
no_first_side h = not_deeper h.0

no_second_side : IsDocument (Choice Newline too_deep) → ⊥
unfolding IsDocument
no_second_side h = not_deeper h.1

-- the limits of a node
node_at_limits : NodeKeepsLimits (TextNode (codes "ab") 4) × NodeKeepsLimits (NestNode 1000 0)
    × NodeKeepsLimits (ChargeNode 1000 0)
node_at_limits = (two_columns_each, omega arith, omega arith)

node_too_long : NodeKeepsLimits (TextNode (codes "ab") 5) → ⊥
node_too_long h = no_third_column h

node_too_deep : NodeKeepsLimits (NestNode 1001 0) → ⊥
node_too_deep h = omega (arith, h)

node_too_dear : NodeKeepsLimits (ChargeNode 1001 0) → ⊥
node_too_dear h = omega (arith, h)

-- a node's parts end behind the greatest number of one
ends_of_two : (parts_end (ConcatNode 4 2) ≡ 5) × (parts_end (ConcatNode 2 4) ≡ 5) × (parts_end (ChoiceNode 4 2) ≡ 5)
    × (parts_end (ChoiceNode 2 4) ≡ 5)
ends_of_two = (refl, refl, refl, refl)

ends_of_one : (parts_end (NestNode 9 2) ≡ 3) × (parts_end (AlignNode 2) ≡ 3) × (parts_end (ResetNode 2) ≡ 3)
    × (parts_end (FlattenNode 2) ≡ 3) × (parts_end (OnlyNode Left 2) ≡ 3) × (parts_end (ChargeNode 9 2) ≡ 3)
ends_of_one = (refl, refl, refl, refl, refl, refl)

ends_of_none : (parts_end (TextNode [] 3) ≡ 0) × (parts_end NewlineNode ≡ 0) × (parts_end HardNode ≡ 0)
ends_of_none = (refl, refl, refl)

-- a part stands before its node, the nearest one too
abbrev aligned : List GraphNode
aligned = NewlineNode ∷ AlignNode 0 ∷ []

same_node : (x y : GraphNode) → ◌≡◌ {A = _} (Some x) (Some y) → x ≡ y
same_node x y e = cc

aligned_is_graph : IsGraph aligned
unfolding IsGraph
aligned_is_graph zero node e =
    let is : NewlineNode ≡ node = same_node _ _ e in
    subst (λ (x : GraphNode). (parts_end x ≤ 0) × NodeKeepsLimits x) is (omega arith, tt)
aligned_is_graph (suc zero) node e =
    let is : AlignNode 0 ≡ node = same_node _ _ e in
    subst (λ (x : GraphNode). (parts_end x ≤ 1) × NodeKeepsLimits x) is (omega arith, tt)
aligned_is_graph (suc (suc n)) node e = cc

no_part_of_itself : IsGraph (AlignNode 0 ∷ []) → ⊥
unfolding IsGraph
no_part_of_itself h = let below = (h 0 (AlignNode 0) refl).0 in omega (arith, below)

no_dear_node : IsGraph (NewlineNode ∷ ChargeNode 1001 0 ∷ []) → ⊥
unfolding IsGraph
no_dear_node h = node_too_dear (h 1 (ChargeNode 1001 0) refl).1

-- each of the numbered nodes stands for a document, and none is left over
each_in_order : EachStandsFor aligned (1 ∷ 0 ∷ []) (Align Newline ∷ Newline ∷ [])
unfolding EachStandsFor StandsFor
each_in_order = ((0, refl, refl), (refl, tt))

node_left_over : EachStandsFor aligned (0 ∷ []) [] → ⊥
unfolding EachStandsFor
node_left_over h = h

document_left_over : EachStandsFor aligned [] (Newline ∷ []) → ⊥
unfolding EachStandsFor
document_left_over h = h

-- a text of as many characters as a layout may have isn't too long, and one more is
text_laid : (s : List ℕ) (len : ℕ) → length (layout (laid (Word 0 s len ∷ []) len).pieces) ≡ length s
unfolding layout
text_laid s len = ap (λ (t : List ℕ). length t) (append-nil s)

one_more_is_too_long : (s : List ℕ) (len : ℕ) → length s ≡ LAYOUT_LIMIT + 1 → IsTooLong (Text s len) []
unfolding render
one_more_is_too_long s len is = (laid (Word 0 s len ∷ []) (0 + len), refl, inl (omega (arith, is, text_laid s len)))

as_many_is_not : (s : List ℕ) (len : ℕ) → length s ≡ LAYOUT_LIMIT → IsTooLong (Text s len) [] → ⊥
unfolding render leaves_of
as_many_is_not s len is h =
    let same : h.0 ≡ laid (Word 0 s len ∷ []) (0 + len) = cc in
    elim h.2 [
      | inl long ↦
          let past = subst (λ (x : Laid). LAYOUT_LIMIT < length (layout x.pieces)) same long in
          omega (arith, past, is, text_laid s len)
      | inr heavy ↦ omega (arith, heavy)
    ]

-- a break of as many characters isn't, laid out at indentation 0
break_is_not : (n : ℕ) → n + 1 ≡ LAYOUT_LIMIT → IsTooLong (Nest n Newline) [] → ⊥
unfolding render layout leaves_of
break_is_not n is h =
    let same : h.0 ≡ laid (Break (0 + n) ∷ []) (0 + n) = cc in
    let joined : length ((10 ∷ replicate (0 + n) 32) ++ []) ≡ suc (length (replicate (0 + n) 32)) =
    ap (λ (t : List ℕ). length t) (append-nil (10 ∷ replicate (0 + n) 32)) in
    elim h.2 [
      | inl long ↦
          let past = subst (λ (x : Laid). LAYOUT_LIMIT < length (layout x.pieces)) same long in
          omega (arith, past, is, joined, length-replicate {A = ℕ} (0 + n) 32)
      | inr heavy ↦ omega (arith, heavy)
    ]

-- choices weigh as much as texts
one_choice_more : (choices : List Dir) → length choices ≡ LAYOUT_LIMIT → IsTooLong Newline choices
unfolding render leaves_of
one_choice_more choices is = (_, refl, inr (omega (arith, is)))

choices_of_the_limit : (choices : List Dir) → length choices + 1 ≡ LAYOUT_LIMIT → IsTooLong Newline choices → ⊥
unfolding render layout leaves_of
choices_of_the_limit choices is h =
    let same : h.0 ≡ laid (Break 0 ∷ []) 0 = cc in
    elim h.2 [
      | inl long ↦
          let past = subst (λ (x : Laid). LAYOUT_LIMIT < length (layout x.pieces)) same long in omega (arith, past)
      | inr heavy ↦ omega (arith, heavy, is)
    ]
