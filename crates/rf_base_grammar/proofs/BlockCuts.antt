-- Where a block comment ends: the reader's cut is that of the definitions.
use Rattle.std.proofs.Common.{◌≡◌, ℕ, zero, suc, cond, true, false, Option, Some, None, List, [], ◌∷◌, ◌++◌, refl, sym, ap, ◌∙◌, subst, eqb}
use Rattle.std.specs.Prelude.{codes}
use Rattle.std.proofs.lemmas.Bool.{eqb-true, eqb-false, ne_eqb}
use Rattle.std.proofs.lemmas.List.{append_assoc}
use Rattle.rf_base_grammar.specs.Characters.{BeginsWith}
use Rattle.rf_base_grammar.specs.Runs.{bar, hash}
use Rattle.rf_base_grammar.specs.Comments.{ClosesTo, Mark, Nested, Passed}
use Rattle.rf_base_grammar.specs.Cuts.{Cut, cut, also, Half, NoHalf, HashHalf, BarHalf, half_of, Step, Opens, Closes, Passes, step_of, block_step, block_cut}
use Rattle.rf_base_grammar.proofs.RunCuts.{prepend, also_some, prepend-also, prepend-one, prepend-append}

-- what is behind a comment that closes: where others are open around it the reading goes on in the next of them
abbrev closed : ℕ → List ℕ → Option Cut
closed zero rest = Some (cut [] rest)
closed (suc around) rest = block_cut around NoHalf rest

-- a half mark that the next character doesn't complete changes nothing
half_forgotten : (half : Half) (around c : ℕ) (text : List ℕ) → (half ≡ HashHalf → c ≡ bar → ⊥) →
    (half ≡ BarHalf → c ≡ hash → ⊥) → block_cut around half (c ∷ text) ≡ block_cut around NoHalf (c ∷ text)
unfolding block_cut
half_forgotten NoHalf around c text h k = refl
half_forgotten HashHalf around c text h k = rw (ne_eqb c bar (λ e. h refl e)) refl
half_forgotten BarHalf around c text h k = rw (ne_eqb c hash (λ e. k refl e)) refl

-- a character that is half a mark
half_is_hash : (c : ℕ) → half_of c ≡ HashHalf → c ≡ hash
half_is_hash c h =
    elim (eqb c hash) as (λ b. eqb c hash ≡ b → cond b HashHalf (cond (eqb c bar) BarHalf NoHalf) ≡ HashHalf →
    c ≡ hash) [
      | true ↦ λ e h. eqb-true c hash e
      | false ↦
          λ e h. elim (eqb c bar) as (λ b. cond b BarHalf NoHalf ≡ HashHalf →
          c ≡ hash) [ true ↦ λ h. absurd cc | false ↦ λ h. absurd cc ] h
    ] refl h

half_is_bar : (c : ℕ) → half_of c ≡ BarHalf → c ≡ bar
half_is_bar c h =
    elim (eqb c hash) as (λ b. cond b HashHalf (cond (eqb c bar) BarHalf NoHalf) ≡ BarHalf → c ≡ bar) [
      | true ↦ λ h. absurd cc
      | false ↦
          λ h. elim (eqb c bar) as (λ b. eqb c bar ≡ b → cond b BarHalf NoHalf ≡ BarHalf →
          c ≡ bar) [ true ↦ λ e h. eqb-true c bar e | false ↦ λ e h. absurd cc ] refl h
    ] h

closes_some : (text rest : List ℕ) → ClosesTo text rest → text ≡ [] → ⊥
closes_some _ _ (Mark text rest e) n = cc
closes_some _ _ (Nested text inner behind rest e h k) n = cc
closes_some _ _ (Passed c text after rest e a b h) n = cc

-- the first character of what is behind a passed one completes no mark
passed_cut : (around c : ℕ) (after more : List ℕ) → (after ≡ [] → ⊥) → (BeginsWith (codes "#|") (c ∷ after) → ⊥) →
    (BeginsWith (codes "|#") (c ∷ after) → ⊥) →
    block_cut around NoHalf (c ∷ (after ++ more)) ≡ also c (block_cut around NoHalf (after ++ more))
unfolding block_cut
passed_cut around c [] more n a b = absurd (n refl)
passed_cut around c (d ∷ after) more n a b =
    ap (λ o. also c o)
    (half_forgotten (half_of c) around d (after ++ more)
    (λ h e. a (after, rw (half_is_hash c h, e) refl))
    (λ h e. b (after, rw (half_is_bar c h, e) refl)))

mark_cut : (around : ℕ) (rest : List ℕ) →
    block_cut around NoHalf (codes "|#" ++ rest) ≡ prepend (codes "|#") (closed around rest)
unfolding block_cut
mark_cut zero rest = refl
mark_cut (suc around) rest =
    ap (λ o. also bar o) (prepend-one hash (block_cut around NoHalf rest))
    ∙ prepend-also bar (hash ∷ []) (block_cut around NoHalf rest)

nested_cut : (around : ℕ) (inner : List ℕ) →
    block_cut around NoHalf (codes "#|" ++ inner) ≡ prepend (codes "#|") (block_cut (suc around) NoHalf inner)
unfolding block_cut
nested_cut around inner =
    ap (λ o. also hash o) (prepend-one bar (block_cut (suc around) NoHalf inner))
    ∙ prepend-also hash (bar ∷ []) (block_cut (suc around) NoHalf inner)

-- the reading of a text that closes goes up to the closing mark, and then on
closes_cut : (around : ℕ) (text rest : List ℕ) → ClosesTo text rest → (more : List ℕ) →
    (front : List ℕ) × (text ≡ front ++ rest)
    × (block_cut around NoHalf (text ++ more) ≡ prepend front (closed around (rest ++ more)))
closes_cut around _ _ (Mark text rest e) more =
    (codes "|#", e, ap (λ xs. block_cut around NoHalf (xs ++ more)) e ∙ mark_cut around (rest ++ more))
closes_cut around _ _ (Nested text inner behind rest e h k) more =
    let a = closes_cut (suc around) inner behind h more in
    let b = closes_cut around behind rest k more in (
      codes "#|" ++ (a.0 ++ b.0),
      e ∙ ap (λ xs. codes "#|" ++ xs) (a.1 ∙ ap (λ xs. a.0 ++ xs) b.1 ∙ sym (append_assoc a.0 b.0 rest)),
      ap (λ xs. block_cut around NoHalf (xs ++ more)) e
          ∙ nested_cut around (inner ++ more)
          ∙ ap (λ o. prepend (codes "#|") o) (a.2 ∙ ap (λ o. prepend a.0 o) b.2
          ∙ prepend-append a.0 b.0 (closed around (rest ++ more)))
          ∙ prepend-append (codes "#|") (a.0 ++ b.0) (closed around (rest ++ more)),
    )
closes_cut around _ _ (Passed c text after rest e n m h) more =
    let a = closes_cut around after rest h more in
    let no_open : BeginsWith (codes "#|") (c ∷ after) → ⊥ =
    λ b. n (subst (λ xs. BeginsWith (codes "#|") xs) (sym e) b) in
    let no_close : BeginsWith (codes "|#") (c ∷ after) → ⊥ =
    λ b. m (subst (λ xs. BeginsWith (codes "|#") xs) (sym e) b) in (
      c ∷ a.0,
      e ∙ ap (λ xs. c ∷ xs) a.1,
      ap (λ xs. block_cut around NoHalf (xs ++ more)) e
          ∙ passed_cut around c after more (closes_some after rest h) no_open no_close
          ∙ ap (λ o. also c o) a.2
          ∙ prepend-also c a.0 (closed around (rest ++ more)),
    )

-- a block comment is cut off at its end
pub block_cut_closes : (inner behind : List ℕ) → ClosesTo inner [] →
    block_cut 0 NoHalf (inner ++ behind) ≡ Some (cut inner behind)
block_cut_closes inner behind h =
    let a = closes_cut 0 inner [] h behind in
    a.2 ∙ ap (λ xs. Some (cut xs behind)) (sym a.1)

-- the text closes as many comments and one, the last at the text's end
abbrev Chain : ℕ → List ℕ → Type 0
Chain zero text = ClosesTo text []
Chain (suc around) text = (behind : List ℕ) × ClosesTo text behind × Chain around behind

-- the same, where half a mark was read before the text
abbrev HalfChain : Half → ℕ → List ℕ → Type 0
HalfChain NoHalf around text = Chain around text
HalfChain HashHalf around text = Chain around (hash ∷ text)
HalfChain BarHalf around text = Chain around (bar ∷ text)

chain_passed : (c around : ℕ) (text : List ℕ) → (BeginsWith (codes "#|") (c ∷ text) → ⊥) →
    (BeginsWith (codes "|#") (c ∷ text) → ⊥) → Chain around text → Chain around (c ∷ text)
chain_passed c zero text n m h = Passed c (c ∷ text) text [] refl n m h
chain_passed c (suc around) text n m h = (h.0, Passed c (c ∷ text) text h.0 refl n m h.1, h.2)

chain_nested : (around : ℕ) (text : List ℕ) → Chain (suc around) text → Chain around (hash ∷ bar ∷ text)
chain_nested zero text h = Nested (hash ∷ bar ∷ text) text h.0 [] refl h.1 h.2
chain_nested (suc around) text h = (h.2.0, Nested (hash ∷ bar ∷ text) text h.0 h.2.0 refl h.1 h.2.1, h.2.2)

chain_mark : (around : ℕ) (text : List ℕ) → Chain around text → Chain (suc around) (bar ∷ hash ∷ text)
chain_mark around text h = (text, Mark (bar ∷ hash ∷ text) text refl, h)

-- a character by itself in front
chain_pass : (c around : ℕ) (text : List ℕ) → HalfChain (half_of c) around text → Chain around (c ∷ text)
chain_pass c around text h =
    elim (eqb c hash) as (λ b. eqb c hash ≡ b →
    HalfChain (cond b HashHalf (cond (eqb c bar) BarHalf NoHalf)) around text → Chain around (c ∷ text)) [
      | true ↦ λ e h. rw (eqb-true c hash e) h
      | false ↦ λ e h.
          elim (eqb c bar) as (λ b. eqb c bar ≡ b → HalfChain (cond b BarHalf NoHalf) around text →
          Chain around (c ∷ text)) [
            | true ↦ λ f h. rw (eqb-true c bar f) h
            | false ↦ λ f h. chain_passed c around text (λ b. eqb-false c hash e cc) (λ b. eqb-false c bar f cc) h
          ] refl h
    ] refl h

-- what is cut off closes as many comments
abbrev IsBlockCut : Half → ℕ → List ℕ → Cut → Type 0
IsBlockCut half around text k = (text ≡ k.front ++ k.behind) × HalfChain half around k.front

block_longer : (half other : Half) (around n c : ℕ) (text : List ℕ) (k : Cut) →
    ((j : Cut) → block_cut n other text ≡ Some j → IsBlockCut other n text j) →
    ((front : List ℕ) → HalfChain other n front → HalfChain half around (c ∷ front)) →
    also c (block_cut n other text) ≡ Some k → IsBlockCut half around (c ∷ text) k
block_longer half other around n c text k rest more h =
    let a = also_some c (block_cut n other text) k h in
    let j = rest a.0 a.1 in
    rw a.2 (ap (λ xs. c ∷ xs) j.0, more a.0.front j.1)

-- the text behind is read so, whatever is open
abbrev ReadsOn : List ℕ → Type 0
ReadsOn text = (n : ℕ) (h : Half) (j : Cut) → block_cut n h text ≡ Some j → IsBlockCut h n text j

-- one character is read so, in a step
abbrev StepReads : Half → ℕ → ℕ → List ℕ → Step → Type 0
StepReads half around c text step =
    (k : Cut) → block_step step around c text (λ n h. block_cut n h text) ≡ Some k → IsBlockCut half around (c ∷ text) k

passing : (half other : Half) (around c : ℕ) (text : List ℕ) → ReadsOn text →
    ((front : List ℕ) → HalfChain other around front → HalfChain half around (c ∷ front)) →
    StepReads half around c text (Passes other)
passing half other around c text rest more k h =
    block_longer half other around around c text k (rest around other) more h

opening : (around c : ℕ) (text : List ℕ) → ReadsOn text → c ≡ bar → StepReads HashHalf around c text Opens
opening around c text rest e k h =
    block_longer HashHalf NoHalf around (suc around) c text k (rest (suc around) NoHalf)
    (λ front m. rw e (chain_nested around front m)) h

closing : (around c : ℕ) (text : List ℕ) → ReadsOn text → c ≡ hash → StepReads BarHalf around c text Closes
closing zero c text rest e k h =
    let same : k ≡ cut (c ∷ []) text = cc in
    rw same (refl, Mark (bar ∷ c ∷ []) [] (ap (λ d. bar ∷ d ∷ []) e))
closing (suc n) c text rest e k h =
    block_longer BarHalf NoHalf (suc n) n c text k (rest n NoHalf) (λ front m. rw e (chain_mark n front m)) h

no_opening : (c : ℕ) (text : List ℕ) → (c ≡ bar → ⊥) → BeginsWith (codes "#|") (hash ∷ c ∷ text) → ⊥
no_opening c text n b = n cc

no_closing : (c : ℕ) (text : List ℕ) → (c ≡ hash → ⊥) → BeginsWith (codes "|#") (bar ∷ c ∷ text) → ⊥
no_closing c text n b = n cc

no_closing_hash : (text : List ℕ) → BeginsWith (codes "|#") (hash ∷ text) → ⊥
no_closing_hash text b = cc

no_opening_bar : (text : List ℕ) → BeginsWith (codes "#|") (bar ∷ text) → ⊥
no_opening_bar text b = cc

-- a character by itself, where it is the half `other` by itself, behind a hash sign and behind a bar
behind_hash : (other : Half) (around c : ℕ) → (c ≡ bar → ⊥) →
    ((front : List ℕ) → HalfChain other around front → Chain around (c ∷ front)) → (front : List ℕ) →
    HalfChain other around front → Chain around (hash ∷ c ∷ front)
behind_hash other around c n pass front m =
    chain_passed hash around (c ∷ front) (no_opening c front n) (no_closing_hash (c ∷ front)) (pass front m)

behind_bar : (other : Half) (around c : ℕ) → (c ≡ hash → ⊥) →
    ((front : List ℕ) → HalfChain other around front → Chain around (c ∷ front)) → (front : List ℕ) →
    HalfChain other around front → Chain around (bar ∷ c ∷ front)
behind_bar other around c n pass front m =
    chain_passed bar around (c ∷ front) (no_opening_bar (c ∷ front)) (no_closing c front n) (pass front m)

-- one character is read so behind a hash sign and behind a bar
hash_reads : (other : Half) (around c : ℕ) (text : List ℕ) → ReadsOn text →
    ((front : List ℕ) → HalfChain other around front → Chain around (c ∷ front)) →
    StepReads HashHalf around c text (cond (eqb c bar) Opens (Passes other))
hash_reads other around c text rest pass =
    elim (eqb c bar) as (λ b. eqb c bar ≡ b → StepReads HashHalf around c text (cond b Opens (Passes other))) [
      | true ↦ λ e. opening around c text rest (eqb-true c bar e)
      | false ↦ λ e. passing HashHalf other around c text rest (behind_hash other around c (eqb-false c bar e) pass)
    ] refl

bar_reads : (other : Half) (around c : ℕ) (text : List ℕ) → ReadsOn text →
    ((front : List ℕ) → HalfChain other around front → Chain around (c ∷ front)) →
    StepReads BarHalf around c text (cond (eqb c hash) Closes (Passes other))
bar_reads other around c text rest pass =
    elim (eqb c hash) as (λ b. eqb c hash ≡ b → StepReads BarHalf around c text (cond b Closes (Passes other))) [
      | true ↦ λ e. closing around c text rest (eqb-true c hash e)
      | false ↦ λ e. passing BarHalf other around c text rest (behind_bar other around c (eqb-false c hash e) pass)
    ] refl

-- one character is read so, behind any half
step_reads : (half : Half) (around c : ℕ) (text : List ℕ) → ReadsOn text → StepReads half around c text (step_of half c)
step_reads NoHalf around c text rest = passing NoHalf (half_of c) around c text rest (chain_pass c around)
step_reads HashHalf around c text rest = hash_reads (half_of c) around c text rest (chain_pass c around)
step_reads BarHalf around c text rest = bar_reads (half_of c) around c text rest (chain_pass c around)

block_cut_ended : (around : ℕ) (half : Half) → block_cut around half [] ≡ None
unfolding block_cut
block_cut_ended around half = refl

block_cut_step : (around : ℕ) (half : Half) (c : ℕ) (text : List ℕ) →
    block_cut around half (c ∷ text) ≡ block_step (step_of half c) around c text (λ n h. block_cut n h text)
unfolding block_cut
block_cut_step around half c text = refl

block_cut_reads : (text : List ℕ) → ReadsOn text
block_cut_reads [] around half k h = absurd (none_some (sym (block_cut_ended around half) ∙ h))
  where
    none_some : None ≡ Some k → ⊥
    none_some e = cc
block_cut_reads (c ∷ text) around half k h =
    step_reads half around c text (block_cut_reads text) k (sym (block_cut_step around half c text) ∙ h)

pub block_cut_found : (text : List ℕ) (k : Cut) → block_cut 0 NoHalf text ≡ Some k →
    (text ≡ k.front ++ k.behind) × ClosesTo k.front []
block_cut_found text k h = block_cut_reads text 0 NoHalf k h
