-- Worked examples of paragraphs: a definition that changes its meaning fails here.
use Rattle.std.proofs.Common.{◌≡◌, ℕ, ◌+◌, true, [], ◌∷◌, refl, arith}
use Rattle.std.specs.Prelude.{nat_le}
use lib.Chars.{codes}
use Rattle.rf_base_document.specs.declared.directions.Dir.TheVariants.{Left, Right}
use Rattle.rf_base_document.specs.Document.{Doc, Newline, Hard, Concat, Reset, Flatten, Choice, Charge, plain_text}
use Rattle.rf_base_document.specs.Render.{Word, Break, laid, EachEndsWithin}
use Rattle.rf_base_document.specs.Simple.{simple}
use Rattle.rf_base_cost.specs.Cost.{Costs}
use Rattle.rf_base_cost.specs.Pareto.{undominated, placed, by_last, pareto}
use Rattle.rf_base_optimum.specs.Plain.{plain}
use Rattle.rf_base_optimum.specs.Chosen.{choose}
use Rattle.rf_base_optimum.specs.MostPieces.{most_pieces}
use Rattle.rf_base_optimum.specs.Paragraphs.{Paragraph, paragraphs_docs, line_breaks, EachLaidOut, EachHasWithin, chosen_apart}
use Rattle.rf_base_optimum.proofs.BestExamples.{text_past, text_laid}

abbrev paragraph : Doc → ℕ → Paragraph
paragraph d blanks = record { doc = d; blanks = blanks }

-- a line end behind each, and one more for each blank line, behind the last one too
one_blank_line : (d e : Doc) →
    paragraphs_docs (paragraph d 1 ∷ paragraph e 0 ∷ []) ≡ d ∷ Reset Hard ∷ Hard ∷ e ∷ Hard ∷ []
unfolding paragraphs_docs
one_blank_line d e = refl

breaks_of_two_blank_lines : line_breaks 2 ≡ Break 0 ∷ Break 0 ∷ Break 0 ∷ []
breaks_of_two_blank_lines = refl

-- a text costs its length, a break 1, a charge itself
abbrev counted : Costs ℕ
counted = record {
  is_value = λ a. true;
  text = λ column len. len;
  newline = λ indentation. 1;
  charge = λ k. k;
  add = λ a b. a + b;
  le = nat_le;
}

abbrev long : Doc
long = plain_text (codes "aaaa")

abbrev short : Doc
short = plain_text (codes "b")

-- each is chosen by itself: the short side where both are within, the first side where none is
chosen_each : chosen_apart counted 4 (paragraph (Choice long short) 0 ∷ paragraph (Choice short long) 1 ∷ [])
    ≡ Right ∷ Left ∷ []
unfolding chosen_apart choose plain simple pareto undominated by_last placed
chosen_each = refl

chosen_each_tainted : chosen_apart counted 0
    (paragraph (Choice long short) 0 ∷ paragraph (Choice (Flatten Hard) short) 1 ∷ []) ≡ Left ∷ Right ∷ []
unfolding chosen_apart choose plain simple pareto undominated by_last placed
chosen_each_tainted = refl

-- a paragraph begins at column 0, whatever stood above
laid_out_each : EachLaidOut (paragraph long 1 ∷ paragraph short 0 ∷ []) []
    (Word 0 (codes "aaaa") 4 ∷ Break 0 ∷ Break 0 ∷ Word 0 (codes "b") 1 ∷ Break 0 ∷ [])
unfolding EachLaidOut
laid_out_each = (
  [],
  [],
  laid (Word 0 (codes "aaaa") 4 ∷ []) 4,
  Word 0 (codes "b") 1 ∷ Break 0 ∷ [],
  refl,
  refl,
  text_laid (codes "aaaa") 4,
  ([], [], laid (Word 0 (codes "b") 1 ∷ []) 1, [], refl, refl, text_laid (codes "b") 1, (refl, refl)),
)

-- all are within four columns and not all within three
within_four : EachHasWithin 4 (paragraph short 0 ∷ paragraph long 0 ∷ [])
unfolding EachHasWithin EachEndsWithin
within_four = (
  ([], laid (Word 0 (codes "b") 1 ∷ []) 1, (text_laid (codes "b") 1, (omega arith, (omega arith, tt)))),
  (([], laid (Word 0 (codes "aaaa") 4 ∷ []) 4, (text_laid (codes "aaaa") 4, (omega arith, (omega arith, tt)))), tt),
)

not_within_three : EachHasWithin 3 (paragraph short 0 ∷ paragraph long 0 ∷ []) → ⊥
unfolding EachHasWithin
not_within_three h = text_past 3 (codes "aaaa") 4 h.1.0.0 h.1.0.1 (omega arith) h.1.0.2

-- a choice has as many pieces as the longer of its sides, and a charge is a piece
pieces_of_a_choice : most_pieces (Choice (Charge 5 short) (Concat short (Concat Newline long))) ≡ 3
unfolding most_pieces
pieces_of_a_choice = refl

pieces_of_a_charge : most_pieces (Charge 5 (Concat Hard (Reset Hard))) ≡ 3
unfolding most_pieces
pieces_of_a_charge = refl
