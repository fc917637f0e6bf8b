-- Closers, prefixes, characters, comments and here strings: what the reader finds where the definitions say that they
-- stand.
use Rattle.std.proofs.Common.{◌≡◌, ℕ, ◌||◌, inl, inr, not, Bool, true, false, List, [], ◌∷◌, ◌++◌, refl, sym, ap, ◌∙◌, eqb}
use Rattle.std.specs.Prelude.{codes}
use Rattle.std.proofs.lemmas.Bool.{eqb-true, ne_eqb, and_from, false_from_ne_true}
use Rattle.std.proofs.lemmas.List.{append_assoc}
use Rattle.rf_base_grammar.specs.Characters.{Each, is_delimiter, BeginsWith, EndsWith, IsOneOf}
use Rattle.rf_base_grammar.specs.Runs.{hash, backslash, IsCharacter}
use Rattle.rf_base_grammar.specs.Strings.{is_no_feed, is_no_return, IsHereString, ended_lines}
use Rattle.rf_base_grammar.specs.Comments.{IsBlock, breaks_line, IsOnOneLine, bang_heads, IsLineComment, EndsLine}
use Rattle.rf_base_grammar.specs.Spelled.{closing, prefixes, unquotes, EndsOrDelimits}
use Rattle.rf_base_grammar.specs.Cuts.{Cut, cut, block_cut, NoHalf}
use Rattle.rf_base_grammar.specs.Reader.{Found, strip, ends_in, character_item, block_item, line_ends_well, comment_item, line_cut, semicolon_item, bang_behind, bang_item, is_of_terminator, here_behind, here_lines, here_item, front_item}
use Rattle.rf_base_grammar.specs.declared.kinds.Bracket.{Bracket}
use Rattle.rf_base_grammar.specs.declared.kinds.Bracket.TheVariants.{Round}
use Rattle.rf_base_grammar.specs.declared.kinds.Kind.TheVariants.{Closer, Prefix, Skip, Atom, Here, Block, Line}
use Rattle.rf_base_grammar.proofs.Spans.{Stops, span_same, Each-front, Each-back}
use Rattle.rf_base_grammar.proofs.BlockCuts.{block_cut_closes}
use Rattle.rf_base_grammar.proofs.HereCuts.{EndsHere, here_cut_lines}

pub closer_found : (language : Bool) (b : Bracket) (spelling behind : List ℕ) → spelling ≡ closing b ∷ [] →
    front_item language (spelling ++ behind) ≡ Found (Closer b) spelling behind
unfolding front_item
closer_found language Round spelling behind e = rw e refl
closer_found language _ spelling behind e = rw e refl

pub skip_found : (language : Bool) (spelling behind : List ℕ) → spelling ≡ codes "#;" →
    front_item language (spelling ++ behind) ≡ Found Skip spelling behind
unfolding front_item
skip_found language spelling behind e = rw e refl

-- a prefix that an @ would make longer
comma_found : (language : Bool) (behind : List ℕ) → (BeginsWith (codes "@") behind → ⊥) →
    front_item language (codes "," ++ behind) ≡ Found Prefix (codes ",") behind
unfolding front_item
comma_found language [] n = refl
comma_found language (c ∷ behind) n = rw (ne_eqb 64 c (λ e. n (behind, ap (λ d. d ∷ behind) (sym e)))) refl

hash_comma_found : (language : Bool) (behind : List ℕ) → (BeginsWith (codes "@") behind → ⊥) →
    front_item language (codes "#," ++ behind) ≡ Found Prefix (codes "#,") behind
unfolding front_item
hash_comma_found language [] n = refl
hash_comma_found language (c ∷ behind) n = rw (ne_eqb 64 c (λ e. n (behind, ap (λ d. d ∷ behind) (sym e)))) refl

pub prefix_found : (language : Bool) (spelling behind : List ℕ) → IsOneOf prefixes spelling →
    (IsOneOf unquotes spelling → BeginsWith (codes "@") behind → ⊥) →
    front_item language (spelling ++ behind) ≡ Found Prefix spelling behind
unfolding front_item
prefix_found language spelling behind (inl e) n = rw e refl
prefix_found language spelling behind (inr (inl e)) n = rw e refl
prefix_found language spelling behind (inr (inr (inl e))) n = rw e (comma_found language behind (n (inl e)))
prefix_found language spelling behind (inr (inr (inr (inl e)))) n = rw e refl
prefix_found language spelling behind (inr (inr (inr (inr (inl e))))) n = rw e refl
prefix_found language spelling behind (inr (inr (inr (inr (inr (inl e)))))) n = rw e refl
prefix_found language spelling behind (inr (inr (inr (inr (inr (inr (inl e))))))) n =
    rw e (hash_comma_found language behind (n (inr (inl e))))
prefix_found language spelling behind (inr (inr (inr (inr (inr (inr (inr (inl e)))))))) n = rw e refl
prefix_found language spelling behind (inr (inr (inr (inr (inr (inr (inr (inr (inl e))))))))) n = rw e refl
prefix_found language spelling behind (inr (inr (inr (inr (inr (inr (inr (inr (inr x))))))))) n = elim x [ ]

-- a character
character_front : (language : Bool) (c : ℕ) (text : List ℕ) →
    front_item language (hash ∷ backslash ∷ c ∷ text) ≡ character_item (c ∷ text)
unfolding front_item
character_front language c text = refl

stops_at_delimiter : (behind : List ℕ) → EndsOrDelimits behind → Stops (λ d. not (is_delimiter d)) behind
stops_at_delimiter [] h = tt
stops_at_delimiter (c ∷ behind) h = rw h refl

pub character_found : (language : Bool) (spelling behind : List ℕ) → IsCharacter spelling → EndsOrDelimits behind →
    front_item language (spelling ++ behind) ≡ Found Atom spelling behind
character_found language spelling behind h e =
    ap (λ xs. front_item language (xs ++ behind)) h.2
    ∙ character_front language h.0 (h.1 ++ behind)
    ∙ ap (λ (k : Cut). Found Atom (codes "#\\" ++ h.0 ∷ k.front) k.behind)
    (span_same (λ d. not (is_delimiter d)) h.1 behind h.3 (stops_at_delimiter behind e))
    ∙ ap (λ xs. Found Atom xs behind) (sym h.2)

-- a block comment
pub block_front : (language : Bool) (text : List ℕ) →
    front_item language (codes "#|" ++ text) ≡ block_item (block_cut 0 NoHalf text)
unfolding front_item
block_front language text = refl

pub block_found : (language : Bool) (spelling behind : List ℕ) → IsBlock spelling →
    front_item language (spelling ++ behind) ≡ Found Block spelling behind
block_found language spelling behind h =
    ap (λ xs. front_item language (xs ++ behind)) h.1
    ∙ block_front language (h.0 ++ behind)
    ∙ ap block_item (block_cut_closes h.0 behind h.2)
    ∙ ap (λ xs. Found Block xs behind) (sym h.1)

-- what ends a line stops a comment, and ends it well
stops_at_end : (behind : List ℕ) → EndsLine behind → Stops (λ c. not (breaks_line c)) behind
stops_at_end behind (inl e) = rw e tt
stops_at_end behind (inr (inl b)) = rw b.1 refl
stops_at_end behind (inr (inr b)) = rw b.1 refl

pub ends_line_well : (behind : List ℕ) → EndsLine behind → line_ends_well behind ≡ true
ends_line_well behind (inl e) = rw e refl
ends_line_well behind (inr (inl b)) = rw b.1 refl
ends_line_well behind (inr (inr b)) = rw b.1 refl

line_cut_same : (body behind : List ℕ) → IsOnOneLine body → EndsLine behind →
    line_cut (body ++ behind) ≡ cut body behind
line_cut_same body behind h e = span_same (λ c. not (breaks_line c)) body behind h (stops_at_end behind e)

pub semicolon_front : (language : Bool) (text : List ℕ) → front_item language (codes ";" ++ text) ≡ semicolon_item text
unfolding front_item
semicolon_front language text = refl

pub bang_front : (language : Bool) (text : List ℕ) → front_item language (codes "#!" ++ text) ≡ bang_item text
unfolding front_item
bang_front language text = refl

-- what doesn't end with the character
ends_in_found : (c : ℕ) (text : List ℕ) → ends_in c text ≡ true → EndsWith (c ∷ []) text
ends_in_found c [] h = absurd cc
ends_in_found c (d ∷ []) h = ([], ap (λ x. x ∷ []) (sym (eqb-true c d h)))
ends_in_found c (d ∷ e ∷ text) h =
    let r = ends_in_found c (e ∷ text) h in
    (d ∷ r.0, ap (λ xs. d ∷ xs) r.1)

pub ends_not : (c : ℕ) (text : List ℕ) → (EndsWith (c ∷ []) text → ⊥) → ends_in c text ≡ false
ends_not c text h = false_from_ne_true (ends_in c text) (λ e. h (ends_in_found c text e))

semicolon_found : (language : Bool) (body behind : List ℕ) → IsOnOneLine body → EndsLine behind →
    front_item language (codes ";" ++ (body ++ behind)) ≡ Found Line (codes ";" ++ body) behind
semicolon_found language body behind h e =
    semicolon_front language (body ++ behind)
    ∙ ap (λ (k : Cut). comment_item (line_ends_well k.behind) false (codes ";" ++ k.front) k.behind)
    (line_cut_same body behind h e)
    ∙ ap (λ b. comment_item b false (codes ";" ++ body) behind) (ends_line_well behind e)

bang_found : (c : ℕ) (body behind : List ℕ) → (eqb c 47 || eqb c 32) ≡ true → IsOnOneLine body →
    (EndsWith (codes "\\") body → ⊥) → EndsLine behind →
    bang_item (c ∷ (body ++ behind)) ≡ Found Line (codes "#!" ++ c ∷ body) behind
bang_found c body behind b h n e =
    ap (λ t. bang_behind t c (body ++ behind)) b
    ∙ ap (λ (k : Cut). comment_item (line_ends_well k.behind) (ends_in 92 k.front) (codes "#!" ++ c ∷ k.front) k.behind)
    (line_cut_same body behind h e)
    ∙ ap (λ t. comment_item t (ends_in 92 body) (codes "#!" ++ c ∷ body) behind) (ends_line_well behind e)
    ∙ ap (λ t. comment_item true t (codes "#!" ++ c ∷ body) behind) (ends_not 92 body n)

bang_line_found : (language : Bool) (head body behind : List ℕ) → IsOneOf bang_heads head → IsOnOneLine body →
    (EndsWith (codes "\\") body → ⊥) → EndsLine behind →
    front_item language (head ++ (body ++ behind)) ≡ Found Line (head ++ body) behind
bang_line_found language head body behind (inl s) h n e =
    rw s (bang_front language (47 ∷ (body ++ behind)) ∙ bang_found 47 body behind refl h n e)
bang_line_found language head body behind (inr (inl s)) h n e =
    rw s (bang_front language (32 ∷ (body ++ behind)) ∙ bang_found 32 body behind refl h n e)
bang_line_found language head body behind (inr (inr x)) h n e = elim x [ ]

pub line_found : (language : Bool) (spelling behind : List ℕ) → IsLineComment spelling → EndsLine behind →
    front_item language (spelling ++ behind) ≡ Found Line spelling behind
line_found language spelling behind (inl h) e =
    ap (λ xs. front_item language (xs ++ behind)) h.1
    ∙ semicolon_found language h.0 behind h.2 e
    ∙ ap (λ xs. Found Line xs behind) (sym h.1)
line_found language spelling behind (inr h) e =
    ap (λ xs. front_item language xs) (ap (λ xs. xs ++ behind) h.2 ∙ append_assoc h.0 h.1 behind)
    ∙ bang_line_found language h.0 h.1 behind h.3 h.4 h.5 e
    ∙ ap (λ xs. Found Line xs behind) (sym h.2)

-- a here string
pub here_front : (language : Bool) (text : List ℕ) → front_item language (codes "#<<" ++ text) ≡ here_item text
unfolding front_item
here_front language text = refl

both_pass : (text : List ℕ) → Each is_no_feed text → Each is_no_return text → Each is_of_terminator text
both_pass [] h k = tt
both_pass (c ∷ text) h k = (and_from (is_no_feed c) (is_no_return c) h.0 k.0, both_pass text h.1 k.1)

pub here_found : (language : Bool) (spelling behind : List ℕ) → IsHereString spelling → EndsHere behind →
    front_item language (spelling ++ behind) ≡ Found Here spelling behind
here_found language spelling behind h e =
    let terminator = h.0 in
    let lines = ended_lines h.1 ++ terminator in
    let clean : Each is_no_return (terminator ++ 10 ∷ lines) =
    Each-back is_no_return (codes "#<<") (terminator ++ 10 ∷ lines) (rw h.2 at h.5) in
    let after = Each-back is_no_return terminator (10 ∷ lines) clean in
    let text = terminator ++ 10 ∷ (lines ++ behind) in
    ap (λ xs. front_item language xs)
    (ap (λ xs. xs ++ behind) h.2 ∙ ap (λ xs. codes "#<<" ++ xs) (append_assoc terminator (10 ∷ lines) behind))
    ∙ here_front language text
    ∙ ap (λ (k : Cut). here_lines text k (strip (10 ∷ []) k.behind))
    (span_same is_of_terminator terminator (10 ∷ (lines ++ behind))
    (both_pass terminator h.3 (Each-front is_no_return terminator (10 ∷ lines) clean)) refl)
    ∙ ap (λ o. here_behind text terminator o) (here_cut_lines terminator h.1 behind h.3 h.4 after.1 e)
    ∙ ap (λ xs. Found Here xs behind) (sym h.2)
