-- Where a string ends: the reader's cut is that of the definitions.
use Rattle.std.proofs.Common.{◌≡◌, ℕ, inl, inr, Bool, true, false, Some, None, List, [], ◌∷◌, ◌++◌, refl, ap, ◌∙◌, eqb}
use Rattle.std.specs.List.{AllByRecursion, concat}
use Rattle.std.proofs.lemmas.Bool.{eqb-true, eqb-false, ne_eqb}
use Rattle.std.proofs.lemmas.List.{append_assoc, append-nil}
use Rattle.rf_base_grammar.specs.Characters.{MadeOf}
use Rattle.rf_base_grammar.specs.Runs.{backslash}
use Rattle.rf_base_grammar.specs.Strings.{quote, IsStringPart}
use Rattle.rf_base_grammar.specs.Cuts.{Cut, cut, also, unless_quote, string_cut}
use Rattle.rf_base_grammar.proofs.RunCuts.{prepend, also_some, prepend-also, prepend-one, prepend-append}

-- one part of a string
string_part_cut : (part text : List ℕ) → IsStringPart part →
    string_cut false (part ++ text) ≡ prepend part (string_cut false text)
unfolding string_cut
string_part_cut part text (inl h) =
    rw (h.1, ne_eqb h.0 quote h.2, ne_eqb h.0 backslash h.3) (prepend-one h.0 (string_cut false text))
string_part_cut part text (inr h) =
    rw h.1 (ap (λ o. also backslash o) (prepend-one h.0 (string_cut false text))
    ∙ prepend-also backslash (h.0 ∷ []) (string_cut false text))

string_parts_cut : (parts : List (List ℕ)) (text : List ℕ) → AllByRecursion IsStringPart parts →
    string_cut false (concat parts ++ text) ≡ prepend (concat parts) (string_cut false text)
string_parts_cut [] text h =
    elim (string_cut false text) as (λ o. o ≡ prepend [] o) [ None ↦ refl | Some k ↦ refl ]
string_parts_cut (part ∷ parts) text h =
    ap (λ xs. string_cut false xs) (append_assoc part (concat parts) text)
    ∙ string_part_cut part (concat parts ++ text) h.0
    ∙ ap (λ o. prepend part o) (string_parts_cut parts text h.1)
    ∙ prepend-append part (concat parts) (string_cut false text)

-- a string is cut off at its closing quote
pub string_cut_parts : (body behind : List ℕ) → MadeOf IsStringPart body →
    string_cut false (body ++ quote ∷ behind) ≡ Some (cut body behind)
unfolding string_cut
string_cut_parts body behind h =
    rw h.2 (string_parts_cut h.0 (quote ∷ behind) h.1 ∙ ap (λ xs. Some (cut xs behind)) (append-nil (concat h.0)))

-- what is left of a string's body, where a backslash takes its first character with it or not
abbrev BodyReads : Bool → List ℕ → Type 0
BodyReads false text = MadeOf IsStringPart text
BodyReads true text = (c : ℕ) × (more : List ℕ) × (text ≡ c ∷ more) × MadeOf IsStringPart more

one_more : (part more : List ℕ) → IsStringPart part → MadeOf IsStringPart more → MadeOf IsStringPart (part ++ more)
one_more part more p m = (part ∷ m.0, (p, m.1), ap (λ xs. part ++ xs) m.2)

body_plain : (c : ℕ) (more : List ℕ) → eqb c quote ≡ false → BodyReads (eqb c backslash) more →
    MadeOf IsStringPart (c ∷ more)
body_plain c more q r =
    elim (eqb c backslash) as (λ b. eqb c backslash ≡ b → BodyReads b more → MadeOf IsStringPart (c ∷ more)) [
      | true ↦ λ e r. rw (r.2, eqb-true c backslash e) (one_more (backslash ∷ r.0 ∷ []) r.1 (inr (r.0, refl)) r.3)
      | false ↦ λ e r. one_more (c ∷ []) more (inl (c, refl, eqb-false c quote q, eqb-false c backslash e)) r
    ] refl r

-- what is cut off as a string's body is one, and its closing quote stands behind it
abbrev IsStringCut : Bool → List ℕ → Cut → Type 0
IsStringCut escaped text k = (text ≡ k.front ++ quote ∷ k.behind) × BodyReads escaped k.front

string_longer : (e f : Bool) (c : ℕ) (text : List ℕ) (k : Cut) →
    ((j : Cut) → string_cut e text ≡ Some j → IsStringCut e text j) →
    ((more : List ℕ) → BodyReads e more → BodyReads f (c ∷ more)) → also c (string_cut e text) ≡ Some k →
    IsStringCut f (c ∷ text) k
string_longer e f c text k rest more h =
    let a = also_some c (string_cut e text) k h in
    let j = rest a.0 a.1 in
    rw a.2 (ap (λ xs. c ∷ xs) j.0, more a.0.front j.1)

string_cut_reads : (escaped : Bool) (text : List ℕ) (k : Cut) → string_cut escaped text ≡ Some k →
    IsStringCut escaped text k
unfolding string_cut
string_cut_reads true [] k h = absurd cc
string_cut_reads false [] k h = absurd cc
string_cut_reads true (c ∷ text) k h =
    string_longer false true c text k (λ j. string_cut_reads false text j) (λ more r. (c, more, refl, r)) h
string_cut_reads false (c ∷ text) k h =
    elim (eqb c quote) as (λ b. eqb c quote ≡ b → unless_quote b c text (string_cut (eqb c backslash) text) ≡ Some k →
    IsStringCut false (c ∷ text) k) [
      | true ↦ λ e h.
          let same : k ≡ cut [] text = cc in
          rw same (ap (λ d. d ∷ text) (eqb-true c quote e), ([], tt, refl))
      | false ↦
          λ e h. string_longer (eqb c backslash) false c text k (λ j. string_cut_reads (eqb c backslash) text j)
          (λ more. body_plain c more e) h
    ] refl h

pub string_cut_found : (text : List ℕ) (k : Cut) → string_cut false text ≡ Some k →
    (text ≡ k.front ++ quote ∷ k.behind) × MadeOf IsStringPart k.front
string_cut_found text k h = string_cut_reads false text k h
