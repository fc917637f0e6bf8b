-- Line comments that begin with #!.
use Rattle.std.proofs.Common.{◌≡◌, ℕ, true, false, not, List, [], ◌∷◌, ◌++◌, refl, ap, ◌∙◌}
use Rattle.std.specs.Prelude.{codes}
use Rattle.rf_base_grammar.specs.Comments.{breaks_line}
use Rattle.rf_base_grammar.specs.Reader.{Found, Wrong, bang_item, comment_item, line_ends_well, line_cut, ends_in}
use Rattle.rf_base_grammar.specs.declared.kinds.Kind.TheVariants.{Line}
use Rattle.rf_base_grammar.specs.declared.refusals.LexKind.TheVariants.{BadHash}
use Rattle.rf_lexer.specs.Fronts.{IsBangMark}
use Rattle.rf_lexer.proofs.Spans.{span_whole}

-- the comment, from its body's first line and what is behind it
pub bang_is : (behind body run rest : List ℕ) (m : IsBangMark behind body) → run ≡ (line_cut body).front → rest ≡ (line_cut body).behind → bang_item behind ≡ comment_item (line_ends_well rest) (ends_in 92 run) (codes "#!" ++ m.0 ∷ run) rest
bang_is behind body run rest m front_is rest_is = rw (m.1, m.2, front_is, rest_is) refl

-- it stands in the text
pub bang_whole : (text behind body run rest : List ℕ) (m : IsBangMark behind body) → text ≡ codes "#!" ++ behind → run ≡ (line_cut body).front → rest ≡ (line_cut body).behind → text ≡ (codes "#!" ++ m.0 ∷ run) ++ rest
bang_whole text behind body run rest m is front_is rest_is = rw (is, m.1, front_is, rest_is) (ap (λ xs. codes "#!" ++ m.0 ∷ xs) (span_whole (λ c. not (breaks_line c)) body))

pub bang_quoted : (behind body run rest : List ℕ) (m : IsBangMark behind body) → run ≡ (line_cut body).front → rest ≡ (line_cut body).behind → line_ends_well rest ≡ true → ends_in 92 run ≡ true → bang_item behind ≡ Wrong BadHash []
bang_quoted behind body run rest m front_is rest_is well quoted =
    bang_is behind body run rest m front_is rest_is ∙ ap (λ b. comment_item b (ends_in 92 run) (codes "#!" ++ m.0 ∷ run) rest) well ∙ ap (λ b. comment_item true b (codes "#!" ++ m.0 ∷ run) rest) quoted

pub bang_line : (behind body run rest : List ℕ) (m : IsBangMark behind body) → run ≡ (line_cut body).front → rest ≡ (line_cut body).behind → line_ends_well rest ≡ true → ends_in 92 run ≡ false → bang_item behind ≡ Found Line (codes "#!" ++ m.0 ∷ run) rest
bang_line behind body run rest m front_is rest_is well quoted =
    bang_is behind body run rest m front_is rest_is ∙ ap (λ b. comment_item b (ends_in 92 run) (codes "#!" ++ m.0 ∷ run) rest) well ∙ ap (λ b. comment_item true b (codes "#!" ++ m.0 ∷ run) rest) quoted
