-- Worked examples, each of which computes: a definition that changes its meaning fails here.
use Rattle.std.proofs.Common.{◌≡◌, ℕ, false, List, [], ◌∷◌, ◌++◌, refl, Option, Some, None, arith}
use lib.Chars.{codes}
use Rattle.rf_base_document.specs.declared.directions.Dir.TheVariants.{Left}
use Rattle.rf_base_document.specs.Document.{Doc, Text, Newline, Hard, Concat, Nest, Align, Reset, Flatten, Choice, Only, Charge, plain_text, width_of}
use Rattle.rf_base_document.specs.Sequence.{seq_within, seq}
use Rattle.rf_base_document.specs.Render.{Piece, Word, Break, Fee, Laid, render, layout, EachEndsWithin, Within, column_after, WordsRun}
use Rattle.rf_base_document.specs.Graph.{TextNode, ConcatNode, AlignNode, StandsFor}

-- the text and the last column of a document laid out at column 0 and indentation 0
shown : Option Laid → Option (List ℕ × ℕ)
shown None = None
shown (Some whole) = Some (layout whole.pieces, whole.last)

abbrev a_b_broken : Doc
a_b_broken =
    Concat (plain_text (codes "(")) (Concat
    (Align (Concat (plain_text (codes "a")) (Concat Newline (plain_text (codes "b"))))) (plain_text (codes ")")))

-- `(a` and under it ` b)`
under_the_first : shown (render a_b_broken 0 0 false) ≡ Some (codes "(a" ++ (10 ∷ codes " b)"), 3)
unfolding shown render layout
under_the_first = refl

-- the same flat: a newline is one space
flat_is_a_space : shown (render (Flatten a_b_broken) 0 0 false) ≡ Some (codes "(a b)", 5)
unfolding shown render layout
flat_is_a_space = refl

-- a text with a length of its own moves what is aligned after it
lengths_and_breaks : (shown
    (render (Concat (Text (codes "ab") 4) (Align (Concat Newline (plain_text (codes "c"))))) 0 0 false)
    ≡ Some (codes "ab" ++ (10 ∷ codes "    c"), 5))
    × (render (Flatten (Concat (plain_text (codes "a")) Hard)) 0 0 false ≡ None)
    × (shown (render (Nest 2 Hard) 7 1 false) ≡ Some (10 ∷ codes "   ", 3))
unfolding shown render layout
lengths_and_breaks = (refl, refl, refl)

-- nesting adds to the indentation outside, alignment takes the column, a reset takes nothing
where_breaks_go : (shown (render (Nest 2 (Nest 1 (Concat Newline (plain_text (codes "a"))))) 0 0 false)
    ≡ Some (10 ∷ codes "   a", 4))
    × (shown (render (Nest 2 (Align (Reset (Concat Newline (plain_text (codes "a")))))) 5 5 false)
    ≡ Some (10 ∷ codes "a", 1)) × (render (Choice Newline Hard) 0 0 false ≡ None)
unfolding shown render layout
where_breaks_go = (refl, refl, refl)

-- a charge is a piece before its part, and no text
charge_is_a_fee : render (Charge 3 (plain_text (codes "a"))) 2 0 false
    ≡ Some (record { pieces = Fee 3 ∷ Word 2 (codes "a") 1 ∷ []; last = 3 })
unfolding render
charge_is_a_fee = refl

charge_has_no_text : shown (render (Charge 3 (plain_text (codes "a"))) 0 0 false) ≡ Some (codes "a", 1)
unfolding shown render layout
charge_has_no_text = refl

-- five parts: three and two, of the three two and one
five_parts : (a b c d e : Doc) → seq (a ∷ b ∷ c ∷ d ∷ e ∷ []) ≡ Concat (Concat (Concat a b) c) (Concat d e)
unfolding seq seq_within
five_parts a b c d e = refl

no_part : seq [] ≡ Text [] 0
unfolding seq seq_within
no_part = refl

-- a word that ends at the limit is within, and one column further is not
ends_at_the_limit : Within 2 (Word 2 (codes "ab") 2 ∷ Break 4 ∷ Fee 9 ∷ []) 4
unfolding EachEndsWithin
ends_at_the_limit = (omega arith, (omega arith, (omega arith, (tt, tt))))

word_past_the_limit : Within 2 (Word 2 (codes "ab") 2 ∷ []) 3 → ⊥
unfolding EachEndsWithin
word_past_the_limit h = omega arith

break_past_the_limit : Within 0 (Break 4 ∷ []) 3 → ⊥
unfolding EachEndsWithin
break_past_the_limit h = omega arith

column_past_the_limit : Within 4 [] 3 → ⊥
column_past_the_limit h = omega arith

-- a shared node stands for each of its uses
shared_text : StandsFor (TextNode (codes "a") 1 ∷ AlignNode 0 ∷ ConcatNode 1 0 ∷ []) 2
    (Concat (Align (plain_text (codes "a"))) (plain_text (codes "a")))
unfolding StandsFor
shared_text = (1, 0, refl, (0, refl, refl), refl)

widths_add_up : width_of (Concat (Text (codes "ab") 4) (Nest 2 Newline)) ≡ 7
unfolding width_of
widths_add_up = refl

-- both sides of a choice count, a hard newline and a charge don't
widths_of_sides : width_of (Choice (Text (codes "ab") 4) (Concat Newline Hard)) ≡ 5
unfolding width_of
widths_of_sides = refl

widths_inside : width_of (Align (Reset (Flatten (Only Left (Charge 5 (Text (codes "ab") 4)))))) ≡ 4
unfolding width_of
widths_inside = refl

-- words run on from column 2, behind a fee too, and behind a break from its indentation
abbrev running : List Piece
running = Word 2 (codes "ab") 2 ∷ Fee 9 ∷ Word 4 (codes "c") 1 ∷ Break 3 ∷ Word 3 (codes "d") 1 ∷ []

words_run : WordsRun 2 running
unfolding WordsRun
words_run = (refl, (refl, (refl, tt)))

words_end : column_after 2 running ≡ 4
unfolding column_after
words_end = refl

break_ends : column_after 2 (Break 3 ∷ Fee 9 ∷ []) ≡ 3
unfolding column_after
break_ends = refl

word_further_right : WordsRun 2 (Word 3 (codes "a") 1 ∷ []) → ⊥
unfolding WordsRun
word_further_right h = let is : ◌≡◌ {A = ℕ} 3 2 = h.0 in omega arith

word_not_behind_fee : WordsRun 2 (Fee 9 ∷ Word 3 (codes "a") 1 ∷ []) → ⊥
unfolding WordsRun
word_not_behind_fee h = let is : ◌≡◌ {A = ℕ} 3 2 = h.0 in omega arith

word_not_behind_break : WordsRun 2 (Break 3 ∷ Word 2 (codes "a") 1 ∷ []) → ⊥
unfolding WordsRun
word_not_behind_break h = let is : ◌≡◌ {A = ℕ} 2 3 = h.0 in omega arith
