-- The characters of a class that a text begins with.
use Rattle.std.proofs.Common.{◌≡◌, ℕ, Bool, true, List, ◌∷◌, ◌++◌, refl, ap, sym, ◌∙◌, append_assoc}
use Rattle.std.proofs.Math.Numerals.{one-add}
use Rattle.std.proofs.lemmas.List.{take-append-drop}
use Rattle.std.specs.List.{prefix_len}
use Rattle.rf_base_grammar.specs.Characters.{EndsWith}
use Rattle.rf_base_grammar.specs.Cuts.{span}

-- the two parts of a text
pub span_whole : (test : ℕ → Bool) (text : List ℕ) → text ≡ (span test text).front ++ (span test text).behind
span_whole test text = sym (take-append-drop (prefix_len test text) text)

-- behind a character of the class the text goes on
pub span_more : (test : ℕ → Bool) (c : ℕ) (text : List ℕ) → test c ≡ true → (span test (c ∷ text)).behind ≡ (span test text).behind
span_more test c text e = rw (e, one-add) refl

-- a text ends with what is behind its characters of the class
pub span_ends : (test : ℕ → Bool) (text rest : List ℕ) → rest ≡ (span test text).behind → EndsWith rest text
span_ends test text rest e =
    ((span test text).front, span_whole test text ∙ ap (λ xs. (span test text).front ++ xs) (sym e))

-- so does a longer text that ends with this one
pub span_ends_behind : (test : ℕ → Bool) (text head behind rest : List ℕ) → text ≡ head ++ behind → rest ≡ (span test behind).behind → EndsWith rest text
span_ends_behind test text head behind rest is e =
    let k = span test behind in
    let parts : behind ≡ k.front ++ rest = span_whole test behind ∙ ap (λ xs. k.front ++ xs) (sym e) in
    (head ++ k.front, is ∙ ap (λ xs. head ++ xs) parts ∙ sym (append_assoc head k.front rest))
