-- Worked examples of sources and their items, and of a trailing space.
use Rattle.std.proofs.Common.{◌≡◌, ℕ, inl, inr, false, List, [], ◌∷◌, refl, arith}
use Rattle.std.specs.Char.{encode_utf8}
use Rattle.std.specs.Str.{chars, is_utf8}
use Rattle.std.proofs.lemmas.Str.{IsUtf8-from_is_utf8}
use lib.Chars.{codes}
use Rattle.rf_base_grammar.specs.Characters.{is_white, is_delimiter}
use Rattle.rf_base_grammar.specs.Runs.{IsRunPart}
use Rattle.rf_base_grammar.specs.Token.{Token}
use Rattle.rf_base_grammar.specs.Spelled.{Spelled}
use Rattle.rf_base_grammar.specs.Itemised.{Itemised}
use Rattle.rf_base_grammar.specs.Sources.{HasItems}
use Rattle.rf_base_grammar.specs.TrailingSpace.{IsInItem, NoTrailingSpace}
use Rattle.rf_base_grammar.specs.declared.kinds.Bracket.TheVariants.{Round}
use Rattle.rf_base_grammar.specs.declared.kinds.Kind.{Kind}
use Rattle.rf_base_grammar.specs.declared.kinds.Kind.TheVariants.{Opener, Closer, Atom, Str}
use Rattle.rf_base_grammar.proofs.Reached.{begins_of}

-- tokens by their offsets
abbrev token : Kind → List ℕ → ℕ → Token
token kind spelling start = record { kind = kind; start = start; spelling = spelling; blanks = 0; own_line = false }

-- how the items of the examples are spelled
opener_spelled : Spelled (Opener Round) (codes "(")
opener_spelled = ([], refl, inl (inl refl))

-- an atom of one character that is a part of a run, and neither the hash sign nor the dot
letter_spelled : (c : ℕ) → IsRunPart (c ∷ []) → (c ≡ 35 → ⊥) → (c ≡ 46 → ⊥) → Spelled Atom (c ∷ [])
letter_spelled c part hash dot =
    inl ((λ e. cc, ((c ∷ []) ∷ [], (part, tt), refl)), inl (λ begins. let no = begins.1 in hash cc, λ e. dot cc))

-- the letter λ, of two bytes
letter_lambda : Spelled Atom (0x3BB ∷ [])
unfolding is_delimiter is_white
letter_lambda =
    letter_spelled 0x3BB (inl (0x3BB, refl, refl, λ e. omega arith, λ e. omega arith)) (λ e. omega arith)
    (λ e. omega arith)

-- `(λ)`: offsets count bytes
lambda_items : HasItems (40 ∷ 0xCE ∷ 0xBB ∷ 41 ∷ [])
    (token (Opener Round) (codes "(") 0 ∷ token Atom (0x3BB ∷ []) 1 ∷ token (Closer Round) (codes ")") 3 ∷ [])
unfolding is_utf8 chars encode_utf8 is_delimiter is_white
lambda_items = (
  IsUtf8-from_is_utf8 _ refl,
  (
    [],
    (
      0x3BB ∷ codes ")",
      begins_of [] (40 ∷ 0x3BB ∷ codes ")") refl tt
          (record { text_is = refl; spelled = opener_spelled; follows = tt; stands = tt }),
      (
        codes ")",
        begins_of [] (0x3BB ∷ codes ")") refl tt
            (record { text_is = refl; spelled = letter_lambda; follows = refl; stands = tt }),
        (
          [],
          begins_of [] (codes ")") refl tt (record { text_is = refl; spelled = refl; follows = tt; stands = tt }),
          refl,
        ),
      ),
    ),
    tt,
  ),
)

-- `(` and a space on a line: the space at its end stands in no item
spaced_items : Itemised (40 ∷ 32 ∷ 10 ∷ []) (token (Opener Round) (codes "(") 0 ∷ [])
unfolding is_white
spaced_items = (
  32 ∷ 10 ∷ [],
  (
    32 ∷ 10 ∷ [],
    begins_of [] (40 ∷ 32 ∷ 10 ∷ []) refl tt
        (record { text_is = refl; spelled = opener_spelled; follows = tt; stands = tt }),
    refl,
  ),
  (refl, (refl, tt)),
)

behind_the_item : IsInItem (token (Opener Round) (codes "(") 0 ∷ []) 1 → ⊥
behind_the_item (inl h) = omega (arith, h.1)
behind_the_item (inr h) = h

space_trails : NoTrailingSpace (40 ∷ 32 ∷ 10 ∷ []) → ⊥
space_trails h =
    behind_the_item (h (token (Opener Round) (codes "(") 0 ∷ []) (40 ∷ []) (10 ∷ []) spaced_items refl (inr (inl (
      [],
      refl,
    ))))

-- the space at the end of a string's first line stands in the string
space_in_string : IsInItem (token Str (34 ∷ 32 ∷ 10 ∷ 34 ∷ []) 0 ∷ []) 1
space_in_string = inl (omega arith, omega arith)
