-- Worked examples of gaps: what may part two neighbours, and what may not.
use Rattle.std.proofs.Common.{◌≡◌, ℕ, ◌⊎◌, inl, inr, Bool, true, false, List, [], ◌∷◌, ◌++◌, replicate, refl, sym, ◌∙◌, arith}
use Rattle.std.proofs.lemmas.Bool.{false≢true}
use lib.Chars.{codes}
use Rattle.rf_base_grammar.specs.Characters.{is_white, is_delimiter}
use Rattle.rf_base_grammar.specs.Token.{Token}
use Rattle.rf_base_grammar.specs.Woven.{Needs, ends_line, MayPart, WovenBehind, Woven}
use Rattle.rf_base_grammar.specs.declared.kinds.Bracket.TheVariants.{Round}
use Rattle.rf_base_grammar.specs.declared.kinds.Kind.{Kind}
use Rattle.rf_base_grammar.specs.declared.kinds.Kind.TheVariants.{Opener, Closer, Prefix, Dot, Atom, Here, Line, Lang}

-- tokens by the blank lines before them
abbrev token : Kind → List ℕ → ℕ → Bool → Token
token kind spelling blanks own_line = record {
  kind = kind;
  start = 0;
  spelling = spelling;
  blanks = blanks;
  own_line = own_line;
}

abbrev atom : ℕ → Token
atom blanks = token Atom (codes "a") blanks false

abbrev opener : Token
opener = token (Opener Round) (codes "(") 0 false

abbrev closer : Token
closer = token (Closer Round) (codes ")") 0 false

abbrev prefix : List ℕ → Token
prefix spelling = token Prefix spelling 0 false

-- a line comment, behind another item or on a line of its own
abbrev trailing : Token
trailing = token Line (codes ";c") 0 false

abbrev own_line : ℕ → Token
own_line blanks = token Line (codes ";c") blanks true

-- texts whose first characters differ
apart : (c d : ℕ) (x y : List ℕ) → (c ≡ d → ⊥) → c ∷ x ≡ d ∷ y → ⊥
apart c d x y n e = n cc

line_space : ◌≡◌ {A = ℕ} 10 32 → ⊥
line_space e = omega arith

space_line : ◌≡◌ {A = ℕ} 32 10 → ⊥
space_line e = omega arith

comma_or_hash : ◌≡◌ {A = ℕ} 44 35 → ⊥
comma_or_hash e = omega arith

-- atoms are parted by one space, or by a line end and spaces
atoms_on_one_line : MayPart (atom 0) (atom 0) (codes " ")
atoms_on_one_line = inr (refl, inr ((refl, refl, refl), inr refl))

atoms_on_two_lines : MayPart (atom 0) (atom 0) (10 ∷ codes "   ")
atoms_on_two_lines = inr (refl, inl (3, refl))

-- nothing stands behind an opener and before a closer, and between atoms something must
opener_glued : MayPart opener (atom 0) []
opener_glued = inr (refl, inr ((refl, refl, refl), inl (refl, λ n. n)))

closer_glued : MayPart (atom 0) closer []
unfolding is_delimiter is_white
closer_glued = inr (refl, inr ((refl, refl, refl), inl (refl, λ n. false≢true (sym n))))

atoms_need : Needs (atom 0) (atom 0)
unfolding is_delimiter is_white
atoms_need = refl

-- a dot and an atom need a gap too
dot_needs : Needs (token Dot (codes ".") 0 false) (atom 0)
unfolding is_delimiter is_white
dot_needs = refl

-- an unquote needs one before what begins with @, and no other prefix does
unquote_needs : Needs (prefix (codes ",")) (token Atom (codes "@a") 0 false)
unquote_needs = (inl refl, (codes "a", refl))

syntax_unquote_needs : Needs (prefix (codes "#,")) (token Atom (codes "@a") 0 false)
syntax_unquote_needs = (inr (inl refl), (codes "a", refl))

at_or_a : ◌≡◌ {A = ℕ} 97 64 → ⊥
at_or_a e = omega arith

unquote_glued : Needs (prefix (codes ",")) (atom 0) → ⊥
unquote_glued h = apart 97 64 [] h.1.0 at_or_a h.1.1

splice_glued : Needs (prefix (codes ",@")) (token Atom (codes "@a") 0 false) → ⊥
splice_glued h =
    elim (h.0) [ inl one ↦ cc | inr more ↦ elim more [ inl two ↦ apart 44 35 _ _ comma_or_hash two | inr none ↦ none ] ]

-- behind what needs a line end anything needs a gap
comment_needs : Needs trailing (atom 0)
comment_needs = tt

-- no other gap parts atoms
atoms_parted : (gap : List ℕ) → MayPart (atom 0) (atom 0) gap →
    (gap ≡ codes " ") ⊎ ((spaces : ℕ) × (gap ≡ 10 ∷ replicate spaces 32))
atoms_parted gap h =
    elim h [
      | inl t ↦ inl t.1
      | inr o ↦ elim (o.1) [
        | inl lines ↦ inr lines
        | inr line ↦ elim (line.1) [ inl n ↦ absurd (n.1 atoms_need) | inr e ↦ inl e ]
      ]
    ]

-- a blank line is kept, and no other one is put in
one_blank_line : MayPart (atom 0) (atom 1) (10 ∷ 10 ∷ codes "  ")
one_blank_line = inr (refl, inl (2, refl))

blank_line_not_lost : MayPart (atom 0) (atom 1) (10 ∷ codes " ") → ⊥
blank_line_not_lost h =
    elim h [
      | inl t ↦ false≢true t.0
      | inr o ↦ elim (o.1) [
        | inl lines ↦
            let second : 32 ∷ [] ≡ 10 ∷ replicate lines.0 32 = cc in
            apart 32 10 [] (replicate lines.0 32) space_line second
        | inr line ↦ let none : ◌≡◌ {A = ℕ} 1 0 = line.0.1 in omega arith
      ]
    ]

blank_line_not_flat : MayPart (atom 0) (atom 1) (codes " ") → ⊥
blank_line_not_flat h =
    elim h [
      | inl t ↦ false≢true t.0
      | inr o ↦ elim (o.1) [
        | inl lines ↦ apart 32 10 [] (10 ∷ replicate lines.0 32) space_line lines.1
        | inr line ↦ let none : ◌≡◌ {A = ℕ} 1 0 = line.0.1 in omega arith
      ]
    ]

-- a line comment behind an item stays on its line, and what follows it doesn't
trailing_on_line : MayPart (atom 0) trailing (codes " ")
trailing_on_line = inl (refl, refl)

trailing_not_moved : MayPart (atom 0) trailing (10 ∷ []) → ⊥
trailing_not_moved h = elim h [ inl t ↦ apart 10 32 [] [] line_space t.1 | inr o ↦ false≢true (sym o.0) ]

line_ended : (k : Kind) (s : List ℕ) → ends_line k ≡ true → MayPart (token k s 0 false) (atom 0) (codes " ") → ⊥
line_ended k s ends h =
    elim h [
      | inl t ↦ false≢true t.0
      | inr o ↦ elim (o.1) [
        | inl lines ↦ apart 32 10 [] (replicate lines.0 32) space_line lines.1
        | inr line ↦ false≢true (sym line.0.2 ∙ ends)
      ]
    ]

comment_ends_line : MayPart trailing (atom 0) (codes " ") → ⊥
comment_ends_line h = line_ended Line (codes ";c") refl h

-- nor does anything follow a here string or the language line on its line
here_ends_line : MayPart (token Here (codes "#<<E" ++ (10 ∷ codes "E")) 0 false) (atom 0) (codes " ") → ⊥
here_ends_line h = line_ended Here (codes "#<<E" ++ (10 ∷ codes "E")) refl h

language_ends_line : MayPart (token Lang (codes "#lang racket") 0 false) (atom 0) (codes " ") → ⊥
language_ends_line h = line_ended Lang (codes "#lang racket") refl h

-- a line comment may trail the language line
language_trailed : MayPart (token Lang (codes "#lang racket") 0 false) trailing (codes " ")
language_trailed = inl (refl, refl)

-- a line comment on a line of its own stays there
own_line_kept : MayPart (atom 0) (own_line 0) (10 ∷ codes "  ")
own_line_kept = inr (refl, inl (2, refl))

own_line_not_moved : MayPart (atom 0) (own_line 0) (codes " ") → ⊥
own_line_not_moved h =
    elim h [
      | inl t ↦ false≢true t.0
      | inr o ↦ elim (o.1) [
        | inl lines ↦ apart 32 10 [] (replicate lines.0 32) space_line lines.1
        | inr line ↦ false≢true (sym line.0.0)
      ]
    ]

-- `a ;c`, and under it `a`
comment_woven : Woven (atom 0 ∷ trailing ∷ atom 0 ∷ []) (codes "a ;c" ++ (10 ∷ codes "a") ++ 10 ∷ [])
unfolding WovenBehind
comment_woven =
    (_, refl, (codes " ", _, refl, trailing_on_line, (10 ∷ [], 10 ∷ [], refl, inr (refl, inl (0, refl)), refl)))

-- no items are woven into the empty text
nothing_woven : Woven [] []
nothing_woven = refl
