-- What the reader's answer for a whole text means.
use Rattle.std.proofs.Common.{◌≡◌, ℕ, inl, inr, false, Some, None, List, [], ◌∷◌, ◌++◌, refl, sym, ap, ◌∙◌, subst}
use Rattle.std.specs.Prelude.{codes}
use Rattle.std.specs.List.{AllByRecursion}
use Rattle.std.proofs.lemmas.Bool.{both_ways}
use Rattle.std.proofs.lemmas.List.{append_assoc}
use Rattle.rf_base_grammar.specs.Characters.{BeginsWith, IsOneOf}
use Rattle.rf_base_grammar.specs.Spelled.{closing, prefixes, unquotes, language_may_stand}
use Rattle.rf_base_grammar.specs.Unreadable.{BeginsMark}
use Rattle.rf_base_grammar.specs.Cuts.{Bare, run_cut}
use Rattle.rf_base_grammar.specs.Reader.{Answer, Found, Reading, strip, among, read_behind, readings, first_reading, label_item, run_item, front_item}
use Rattle.rf_base_grammar.specs.declared.kinds.Bracket.{Bracket}
use Rattle.rf_base_grammar.specs.declared.kinds.Bracket.TheVariants.{Round, Square, Curly}
use Rattle.rf_base_grammar.specs.declared.kinds.Kind.{Kind}
use Rattle.rf_base_grammar.specs.declared.kinds.Kind.TheVariants.{Closer, Prefix, Skip}
use Rattle.rf_base_grammar.proofs.Words.{strip_found, not_stripped, among_one}
use Rattle.rf_base_grammar.proofs.Answers.{Means, block_means, character_means, bang_means, here_means, semicolon_means}
use Rattle.rf_base_grammar.proofs.LanguageAnswers.{language_means}
use Rattle.rf_base_grammar.proofs.RunAnswers.{label_means, run_means}

-- each reading means what it answers, where its word begins the text and those before it don't
abbrev Reads : List Kind → List ℕ → List Reading → Type 0
Reads before text [] = Unit {0}
Reads before text (r ∷ rs) =
    ((behind : List ℕ) → text ≡ r.word ++ behind → Means before text (r.answer behind))
    × ((BeginsWith r.word text → ⊥) → Reads before text rs)

first_means : (before : List Kind) (text : List ℕ) (rs : List Reading) (other : Answer) → Reads before text rs →
    (AllByRecursion (λ (r : Reading). BeginsWith r.word text → ⊥) rs → Means before text other) →
    Means before text (first_reading rs text other)
first_means before text [] other h o = o tt
first_means before text (r ∷ rs) other h o =
    elim (strip r.word text) as (λ s. strip r.word text ≡ s →
    Means before text (read_behind s r.answer (first_reading rs text other))) [
      | Some behind ↦ λ e. h.0 behind (strip_found r.word text behind e)
      | None ↦ λ e.
          let n = not_stripped r.word text e in
          first_means before text rs other (h.1 n) (λ a. o (n, a))
    ] refl

-- a reading whose answer is known for the word and what is behind it
known : (before : List Kind) (text word : List ℕ) (answer : List ℕ → Answer) →
    ((behind : List ℕ) → Means before (word ++ behind) (answer behind)) → (behind : List ℕ) → text ≡ word ++ behind →
    Means before text (answer behind)
known before text word answer m behind e = subst (λ xs. Means before xs (answer behind)) (sym e) (m behind)

-- the same, where the answer is the word itself
whole : (before : List Kind) (text word : List ℕ) (kind : Kind) →
    ((behind : List ℕ) → Means before (word ++ behind) (Found kind word behind)) → (behind : List ℕ) →
    text ≡ word ++ behind → Means before text (Found kind word behind)
whole before text word kind m = known before text word (λ behind. Found kind word behind) m

-- a prefix of one spelling, which no @ would make longer
prefix_means : (before : List Kind) (word behind : List ℕ) → IsOneOf prefixes word → among unquotes word ≡ false →
    Means before (word ++ behind) (Found Prefix word behind)
prefix_means before word behind p n =
    record {
      text_is = refl;
      spelled = inl p;
      follows = λ q. absurd (both_ways (among unquotes word) n (among_one unquotes word q));
      stands = tt;
    }

-- a prefix that an @ would make longer
unquote_means : (before : List Kind) (text word behind : List ℕ) → IsOneOf prefixes word →
    (BeginsWith (word ++ codes "@") text → ⊥) → text ≡ word ++ behind → Means before text (Found Prefix word behind)
unquote_means before text word behind p n e =
    record {
      text_is = e;
      spelled = inl p;
      follows = λ q b. n (b.0, e ∙ ap (λ xs. word ++ xs) b.1 ∙ sym (append_assoc word (codes "@") b.0));
      stands = tt;
    }

closer_means : (before : List Kind) (b : Bracket) (behind : List ℕ) →
    Means before (closing b ∷ behind) (Found (Closer b) (closing b ∷ []) behind)
closer_means before b behind = record { text_is = refl; spelled = refl; follows = tt; stands = tt }

skip_means : (before : List Kind) (behind : List ℕ) →
    Means before (codes "#;" ++ behind) (Found Skip (codes "#;") behind)
skip_means before behind = record { text_is = refl; spelled = refl; follows = tt; stands = tt }

-- the readings mean what they answer
all_read : (before : List Kind) (text : List ℕ) → Reads before text (readings (language_may_stand before))
all_read before text = (
  known before text (codes "#|") _ (block_means before),
  λ n. (
    known before text (codes "#\\") _ (character_means before),
    λ n. (
      known before text (codes "#!") _ (bang_means before),
      λ n. (
        known before text (codes "#<<") _ (here_means before),
        λ n. (
          known before text (codes "#lang") _ (language_means before),
          λ n. (
            whole before text (codes "#&") Prefix (λ t. prefix_means before (codes "#&") t
                (inr (inr (inr (inr (inr (inr (inr (inr (inl refl))))))))) refl),
            λ n. (
              whole before text (codes "#'") Prefix (λ t. prefix_means before (codes "#'") t
                  (inr (inr (inr (inr (inl refl))))) refl),
              λ n. (
                whole before text (codes "#`") Prefix (λ t. prefix_means before (codes "#`") t
                    (inr (inr (inr (inr (inr (inl refl)))))) refl),
                λ n. (
                  whole before text (codes "#,@") Prefix (λ t. prefix_means before (codes "#,@") t
                      (inr (inr (inr (inr (inr (inr (inr (inl refl)))))))) refl),
                  λ n. (
                    (λ t e. unquote_means before text (codes "#,") t
                        (inr (inr (inr (inr (inr (inr (inl refl))))))) n e),
                    λ n. (
                      whole before text (codes "#;") Skip (skip_means before),
                      λ n. (
                        whole before text (codes ")") (Closer Round) (closer_means before Round),
                        λ n. (
                          whole before text (codes "]") (Closer Square) (closer_means before Square),
                          λ n. (
                            whole before text (codes "}") (Closer Curly) (closer_means before Curly),
                            λ n. (
                              whole before text (codes "'") Prefix (λ t. prefix_means before (codes "'") t
                                  (inl refl) refl),
                              λ n. (
                                whole before text (codes "`") Prefix (λ t. prefix_means before (codes "`") t
                                    (inr (inl refl)) refl),
                                λ n. (
                                  whole before text (codes ",@") Prefix (λ t. prefix_means before (codes ",@") t
                                      (inr (inr (inr (inl refl)))) refl),
                                  λ n. (
                                    (λ t e. unquote_means before text (codes ",") t (inr (inr (inl refl))) n e),
                                    λ n. (
                                      known before text (codes ";") _ (semicolon_means before),
                                      λ n. tt,
                                    ),
                                  ),
                                ),
                              ),
                            ),
                          ),
                        ),
                      ),
                    ),
                  ),
                ),
              ),
            ),
          ),
        ),
      ),
    ),
  ),
)

-- the reader's answer for a text that begins with no white space means an item, or where a refusal may stand
pub reader_means : (before : List Kind) (text : List ℕ) → BeginsMark text →
    Means before text (front_item (language_may_stand before) text)
unfolding front_item
reader_means before text m =
    first_means before text (readings (language_may_stand before))
    (label_item (strip (codes "#") text) (run_item (run_cut Bare text))) (all_read before text)
    (λ u. label_means before text (run_item (run_cut Bare text))
    (run_means before (language_may_stand before) text m u))
