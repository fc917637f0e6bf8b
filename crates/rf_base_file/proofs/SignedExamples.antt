-- Worked examples of signatures: a definition that changes its meaning fails here.
use Rattle.std.proofs.Common.{◌≡◌, ℕ, ◌+◌, inl, inr, false, true, [], ◌∷◌, ◌++◌, refl, sym, ap₂, ◌∙◌, append-nil}
use lib.Chars.{codes}
use Rattle.rf_base_document.specs.Document.{Doc, Newline, Hard, Concat, Nest, Reset, Flatten, Choice, plain_text}
use Rattle.rf_base_file.specs.Signature.{Exact, Loose, Firm, one_space, line_break, Drawn, Signed}

-- two texts and a newline between them
abbrev a_or_b : Doc
a_or_b = Concat (plain_text (codes "a")) (Concat Newline (plain_text (codes "b")))

-- a newline is a loose gap, flat or not, and both sides of a choice have it
choice_signed : (i : ℕ) →
    Signed (Choice (Nest 2 a_or_b) (Flatten a_or_b)) i false (Exact (codes "a") ∷ Loose ∷ Exact (codes "b") ∷ [])
unfolding Signed Drawn
choice_signed i =
    let a : Drawn (Exact (codes "a") ∷ []) (codes "a") = (codes "a", [], refl, refl, refl) in
    let b : Drawn (Exact (codes "b") ∷ []) (codes "b") = (codes "b", [], refl, refl, refl) in
    let broken : Drawn (Loose ∷ []) (line_break (i + 2)) =
    (line_break (i + 2), [], sym (append-nil (line_break (i + 2))), inr (i + 2, refl), refl) in
    let flat : Drawn (Loose ∷ []) one_space = (one_space, [], refl, inl refl, refl) in (
      (
        Exact (codes "a") ∷ [],
        Loose ∷ Exact (codes "b")
            ∷ [],
        refl,
        a,
        (Loose ∷ [], Exact (codes "b") ∷ [], refl, broken, b),
      ),
      (
        Exact (codes "a") ∷ [],
        Loose ∷ Exact (codes "b")
            ∷ [],
        refl,
        a,
        (Loose ∷ [], Exact (codes "b") ∷ [], refl, flat, b),
      ),
    )

-- a blank line: a line end without spaces behind it, and then a firm one
blank_line_signed : (i : ℕ) → Signed (Concat (Reset Hard) Hard) i false (Exact (10 ∷ []) ∷ Firm ∷ [])
unfolding Signed Drawn
blank_line_signed i = (
  Exact (10 ∷ []) ∷ [],
  Firm
      ∷ [],
  refl,
  (10 ∷ [], [], refl, refl, refl),
  (line_break i, [], sym (append-nil (line_break i)), (i, refl), refl),
)

-- where the line ends may stand spaces, which a line end alone doesn't allow
indented_not_signed : Signed Newline 1 false (Exact (10 ∷ []) ∷ []) → ⊥
unfolding Signed Drawn
indented_not_signed h =
    let whole : 10 ∷ codes " " ≡ 10 ∷ [] = h.2 ∙ ap₂ (λ x y. x ++ y) h.3 h.4 in
    cc

-- a flat newline is no firm break
flat_not_firm : Signed Newline 0 true (Firm ∷ []) → ⊥
unfolding Signed Drawn
flat_not_firm h =
    let whole : codes " " ≡ line_break h.3.0 ++ [] = h.2 ∙ ap₂ (λ x y. x ++ y) h.3.1 h.4 in
    cc

-- no side of a choice may leave an item out
left_out_not_signed : Signed (Choice (plain_text (codes "a")) (plain_text [])) 0 false (Exact (codes "a") ∷ []) → ⊥
unfolding Signed Drawn
left_out_not_signed h =
    let side = h.1 in
    let whole : [] ≡ codes "a" = side.2 ∙ ap₂ (λ x y. x ++ y) side.3 side.4 in
    cc
