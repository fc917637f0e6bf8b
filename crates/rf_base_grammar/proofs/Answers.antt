-- What the reader's answers mean: an item, or where a refusal may stand.
use Rattle.std.proofs.Common.{◌≡◌, ℕ, ◌||◌, inl, inr, cond, not, Bool, true, false, Some, None, List, [], ◌∷◌, ◌++◌, refl, sym, ap, ◌∙◌, subst, eqb}
use Rattle.std.specs.Prelude.{codes}
use Rattle.std.proofs.lemmas.Bool.{eqb-true, eq-eqb, both_ways, and_parts, or_cases, not-false, false≢true}
use Rattle.std.proofs.lemmas.List.{append_assoc, append-nil}
use Rattle.rf_base_grammar.specs.Characters.{Each, is_delimiter, BeginsWith, EndsWith, IsOneOf}
use Rattle.rf_base_grammar.specs.Runs.{backslash}
use Rattle.rf_base_grammar.specs.Strings.{quote, string_heads, is_no_feed, is_no_return}
use Rattle.rf_base_grammar.specs.Comments.{breaks_line, bang_heads, EndsLine}
use Rattle.rf_base_grammar.specs.Spelled.{Spelled, EndsOrDelimits, BeginsItem}
use Rattle.rf_base_grammar.specs.Unreadable.{IsOpenBar, IsOpenHere, IsStray, IsStrayBehind, IsReaderOfOther}
use Rattle.rf_base_grammar.specs.Cuts.{Cut, span, block_cut, NoHalf, here_cut}
use Rattle.rf_base_grammar.specs.Reader.{Answer, Found, Wrong, strip, is_nothing, ends_in, block_item, character_item, line_ends_well, comment_item, line_cut, semicolon_item, bang_behind, bang_item, is_of_terminator, open_here, here_behind, here_lines, here_item}
use Rattle.rf_base_grammar.specs.declared.kinds.Kind.{Kind}
use Rattle.rf_base_grammar.specs.declared.kinds.Kind.TheVariants.{Line}
use Rattle.rf_base_grammar.specs.declared.refusals.LexKind.{LexKind}
use Rattle.rf_base_grammar.specs.declared.refusals.LexKind.TheVariants.{BadHash, OpenString, OpenComment, OpenBar, OpenHere, StrayLineEnd, LanguageLine, LanguageReader}
use Rattle.rf_base_grammar.proofs.Words.{strip_found, begins_found, not_begins, nothing_found}
use Rattle.rf_base_grammar.proofs.Spans.{Stops, span_parts, Each-append}
use Rattle.rf_base_grammar.proofs.BlockCuts.{block_cut_found}
use Rattle.rf_base_grammar.proofs.HereCuts.{here_cut_found}
use Rattle.rf_base_grammar.proofs.PlainItems.{ends_line_well}

-- a hash sign begins the text, and neither an open run nor a language line does
abbrev pub IsLoneHash : List ℕ → Type 0
IsLoneHash text = BeginsWith (codes "#") text × (IsOpenBar text → ⊥) × (BeginsWith (codes "#lang") text → ⊥)

-- where a refusal of the kind may stand, if no item does
abbrev pub MayRefuse : List Kind → LexKind → List ℕ → List ℕ → Type 0
MayRefuse before BadHash clean text = (clean ≡ []) × IsLoneHash text
MayRefuse before OpenString clean text =
    (clean ≡ []) × ((head : List ℕ) × IsOneOf string_heads head × BeginsWith (head ++ quote ∷ []) text)
MayRefuse before OpenComment clean text = (clean ≡ []) × BeginsWith (codes "#|") text
MayRefuse before OpenBar clean text = (clean ≡ []) × IsOpenBar text
MayRefuse before OpenHere clean text = (clean ≡ []) × IsOpenHere text
MayRefuse before StrayLineEnd clean text = IsStrayBehind before clean text
MayRefuse before LanguageLine clean text = (clean ≡ []) × BeginsWith (codes "#lang") text
MayRefuse before LanguageReader clean text = (clean ≡ []) × IsReaderOfOther before text

-- what an answer means of the text
abbrev pub Means : List Kind → List ℕ → Answer → Type 0
Means before text (Found kind spelling behind) = BeginsItem before text kind spelling behind
Means before text (Wrong kind clean) = MayRefuse before kind clean text

-- a hash sign that begins nothing, behind #\ and #!
character_is_lone : (before : List Kind) (text : List ℕ) → Means before (codes "#\\" ++ text) (Wrong BadHash [])
character_is_lone before text = (
  refl,
  (
    (backslash ∷ text, refl),
    (λ o. o.1 (inr (inl (text, refl)))),
    not_begins (codes "#lang")
        (codes "#\\" ++ text) refl,
  ),
)

bang_is_lone : (before : List Kind) (text : List ℕ) → Means before (codes "#!" ++ text) (Wrong BadHash [])
bang_is_lone before text = (
  refl,
  ((33 ∷ text, refl), (λ o. o.1 (inr (inr (inl (text, refl))))), not_begins (codes "#lang") (codes "#!" ++ text) refl),
)

-- a block comment
pub block_means : (before : List Kind) (text : List ℕ) →
    Means before (codes "#|" ++ text) (block_item (block_cut 0 NoHalf text))
block_means before text =
    elim (block_cut 0 NoHalf text) as (λ o. block_cut 0 NoHalf text ≡ o →
    Means before (codes "#|" ++ text) (block_item o)) [
      | None ↦ λ e. (refl, (text, refl))
      | Some k ↦ λ e.
          let r = block_cut_found text k e in
          record {
            text_is = ap (λ xs. codes "#|" ++ xs) r.0;
            spelled = (k.front, refl, r.1);
            follows = tt;
            stands = tt;
          }
    ] refl

-- what stops at a delimiter ends or delimits
delimits_behind : (text : List ℕ) → Stops (λ d. not (is_delimiter d)) text → EndsOrDelimits text
delimits_behind [] s = tt
delimits_behind (c ∷ text) s = not-false (is_delimiter c) s

-- a character
pub character_means : (before : List Kind) (text : List ℕ) → Means before (codes "#\\" ++ text) (character_item text)
character_means before [] = character_is_lone before []
character_means before (c ∷ text) =
    let r = span_parts (λ d. not (is_delimiter d)) text in
    record {
      text_is = ap (λ xs. codes "#\\" ++ c ∷ xs) r.0;
      spelled = inr (c, (span (λ d. not (is_delimiter d)) text).front, refl, r.1);
      follows = delimits_behind (span (λ d. not (is_delimiter d)) text).behind r.2;
      stands = tt;
    }

-- a line that ends well
pub ends_line_found : (text : List ℕ) → line_ends_well text ≡ true → EndsLine text
ends_line_found [] h = inl refl
ends_line_found (c ∷ text) h =
    elim (or_cases _ _ h) [
      | inl e ↦ inr (inl (text, ap (λ d. d ∷ text) (eqb-true c 10 e)))
      | inr e ↦
          let both = and_parts _ _ e in
          let b = begins_found (10 ∷ []) text both.1 in
          let first : c ≡ 13 = eqb-true c 13 both.0 in
          inr (inr (b.0, ap (λ d. d ∷ text) first ∙ ap (λ xs. 13 ∷ xs) b.1))
    ]

-- a line that doesn't has a stray line end
pub stray_found : (clean rest : List ℕ) → Stops (λ c. not (breaks_line c)) rest → line_ends_well rest ≡ false →
    IsStray clean (clean ++ rest)
stray_found clean [] s h = absurd (false≢true (sym h))
stray_found clean (c ∷ rest) s h = (
  c,
  rest,
  refl,
  not-false (breaks_line c) s,
  λ e. both_ways (line_ends_well (c ∷ rest)) h
      (ends_line_well (c ∷ rest) e),
)

ends_in_told : (c : ℕ) (before : List ℕ) → ends_in c (before ++ c ∷ []) ≡ true
ends_in_told c [] = eq-eqb c c refl
ends_in_told c (d ∷ []) = ends_in_told c []
ends_in_told c (d ∷ e ∷ before) = ends_in_told c (e ∷ before)

pub not_ends : (c : ℕ) (text : List ℕ) → ends_in c text ≡ false → EndsWith (c ∷ []) text → ⊥
not_ends c text h e = both_ways (ends_in c text) h (ap (λ xs. ends_in c xs) e.1 ∙ ends_in_told c e.0)

-- the answer for a line comment: a stray line end, no backslash at its end, and the comment
comment_means : (before : List Kind) (well quoted : Bool) (head body behind : List ℕ) →
    (IsOneOf (codes ";" ∷ bang_heads) head) → Each (λ c. not (breaks_line c)) body →
    Stops (λ c. not (breaks_line c)) behind → line_ends_well behind ≡ well →
    (quoted ≡ true → BeginsWith (codes "#!") head) → (quoted ≡ false → Spelled Line (head ++ body)) →
    Means before ((head ++ body) ++ behind) (comment_item well quoted (head ++ body) behind)
comment_means before false quoted head body behind o b s w q l =
    inl (head, body, refl, o, b, stray_found (head ++ body) behind s w)
comment_means before true true head body behind o b s w q l =
    let h = q refl in
    subst (λ xs. Means before ((xs ++ body) ++ behind) (Wrong BadHash [])) (sym h.1)
    (bang_is_lone before ((h.0 ++ body) ++ behind))
comment_means before true false head body behind o b s w q l =
    record { text_is = refl; spelled = l refl; follows = ends_line_found behind w; stands = tt }

pub semicolon_means : (before : List Kind) (text : List ℕ) → Means before (codes ";" ++ text) (semicolon_item text)
semicolon_means before text =
    let k = line_cut text in
    let r = span_parts (λ c. not (breaks_line c)) text in
    subst (λ xs. Means before xs (semicolon_item text)) (ap (λ xs. codes ";" ++ xs) (sym r.0))
    (comment_means before (line_ends_well k.behind) false (codes ";") k.front k.behind (inl refl) r.1 r.2 refl
    (λ e. absurd (false≢true e)) (λ e. inl (k.front, refl, r.1)))

bang_head : (c : ℕ) → (eqb c 47 || eqb c 32) ≡ true → IsOneOf bang_heads (codes "#!" ++ c ∷ [])
bang_head c h =
    elim (or_cases _ _ h) [
      | inl e ↦ inl (ap (λ d. codes "#!" ++ d ∷ []) (eqb-true c 47 e))
      | inr e ↦ inr (inl (ap (λ d. codes "#!" ++ d ∷ []) (eqb-true c 32 e)))
    ]

bang_read : (before : List Kind) (c : ℕ) (text : List ℕ) → (eqb c 47 || eqb c 32) ≡ true →
    Means before (codes "#!" ++ c ∷ text) (bang_behind true c text)
bang_read before c text h =
    let k = line_cut text in
    let r = span_parts (λ c. not (breaks_line c)) text in
    let o = bang_head c h in
    subst (λ xs. Means before xs (bang_behind true c text)) (ap (λ xs. codes "#!" ++ c ∷ xs) (sym r.0))
    (comment_means before (line_ends_well k.behind) (ends_in 92 k.front) (codes "#!" ++ c ∷ []) k.front k.behind
    (inr o) r.1 r.2 refl
    (λ e. (c ∷ [], refl))
    (λ e. inr (codes "#!" ++ c ∷ [], k.front, refl, o, r.1, not_ends 92 k.front e)))

pub bang_means : (before : List Kind) (text : List ℕ) → Means before (codes "#!" ++ text) (bang_item text)
bang_means before [] = bang_is_lone before []
bang_means before (c ∷ text) =
    elim (eqb c 47 || eqb c 32) as (λ b. (eqb c 47 || eqb c 32) ≡ b →
    Means before (codes "#!" ++ c ∷ text) (bang_behind b c text)) [
      | true ↦ λ e. bang_read before c text e
      | false ↦ λ e. bang_is_lone before (c ∷ text)
    ] refl

-- a here string that isn't ended
first_return : (text : List ℕ) → Stops is_no_return text → is_nothing text ≡ false →
    (after : List ℕ) × (text ≡ 13 ∷ after)
first_return [] s h = absurd (false≢true (sym h))
first_return (c ∷ text) s h = (text, ap (λ d. d ∷ text) (eqb-true c 13 (not-false (eqb c 13) s)))

open_here_means : (before : List Kind) (text : List ℕ) →
    Means before (codes "#<<" ++ text) (open_here (span is_no_return text))
open_here_means before text =
    let k = span is_no_return text in
    let r = span_parts is_no_return text in
    elim (is_nothing k.behind) as (λ b. is_nothing k.behind ≡ b →
    Means before (codes "#<<" ++ text) (cond b (Wrong OpenHere []) (Wrong StrayLineEnd (codes "#<<" ++ k.front)))) [
      | true ↦ λ e.
          let whole : text ≡ k.front = r.0 ∙ ap (λ xs. k.front ++ xs) (nothing_found k.behind e) ∙ append-nil k.front in
          (refl, (text, refl, subst (Each is_no_return) (sym whole) r.1))
      | false ↦ λ e.
          let f = first_return k.behind r.2 e in
          let whole : text ≡ (k.front ++ 13 ∷ []) ++ f.0 =
          r.0 ∙ ap (λ xs. k.front ++ xs) f.1 ∙ sym (append_assoc k.front (13 ∷ []) f.0) in
          inr (inl (k.front, refl, r.1, (f.0, ap (λ xs. codes "#<<" ++ xs) whole)))
    ] refl

terminator_parts : (text : List ℕ) → Each is_of_terminator text → Each is_no_feed text × Each is_no_return text
terminator_parts [] h = (tt, tt)
terminator_parts (c ∷ text) h =
    let both = and_parts (is_no_feed c) (is_no_return c) h.0 in
    let rest = terminator_parts text h.1 in
    ((both.0, rest.0), (both.1, rest.1))

here_string_means : (before : List Kind) (terminator lines : List ℕ) → Each is_of_terminator terminator →
    Means before (codes "#<<" ++ (terminator ++ 10 ∷ lines))
    (here_behind (terminator ++ 10 ∷ lines) terminator (here_cut terminator (Some terminator) lines))
here_string_means before terminator lines h =
    elim (here_cut terminator (Some terminator) lines) as
    (λ o. here_cut terminator (Some terminator) lines ≡ o →
    Means before (codes "#<<" ++ (terminator ++ 10 ∷ lines)) (here_behind (terminator ++ 10 ∷ lines) terminator o)) [
      | None ↦ λ e. open_here_means before (terminator ++ 10 ∷ lines)
      | Some k ↦ λ e.
          let r = here_cut_found terminator lines k e in
          let parts = terminator_parts terminator h in
          record {
            text_is =
                ap (λ xs. codes "#<<" ++ xs) (ap (λ xs. terminator ++ 10 ∷ xs) r.0
                ∙ sym (append_assoc terminator (10 ∷ k.front) k.behind));
            spelled = (
              terminator,
              r.1.0,
              ap (λ xs. codes "#<<" ++ (terminator ++ 10 ∷ xs)) r.1.1,
              parts.0,
              r.1.2,
              (refl, (refl, (refl, Each-append is_no_return terminator (10 ∷ k.front) parts.1 (refl, r.2)))),
            );
            follows = r.3;
            stands = tt;
          }
    ] refl

here_lines_means : (before : List Kind) (text : List ℕ) (k : Cut) → text ≡ k.front ++ k.behind →
    Each is_of_terminator k.front → Means before (codes "#<<" ++ text) (here_lines text k (strip (10 ∷ []) k.behind))
here_lines_means before text k w h =
    elim (strip (10 ∷ []) k.behind) as (λ o. strip (10 ∷ []) k.behind ≡ o →
    Means before (codes "#<<" ++ text) (here_lines text k o)) [
      | None ↦ λ e. open_here_means before text
      | Some lines ↦ λ e.
          let whole : text ≡ k.front ++ 10 ∷ lines =
          w ∙ ap (λ xs. k.front ++ xs) (strip_found (10 ∷ []) k.behind lines e) in
          subst (λ xs. Means before (codes "#<<" ++ xs)
          (here_behind xs k.front (here_cut k.front (Some k.front) lines))) (sym whole)
          (here_string_means before k.front lines h)
    ] refl

pub here_means : (before : List Kind) (text : List ℕ) → Means before (codes "#<<" ++ text) (here_item text)
here_means before text =
    let r = span_parts is_of_terminator text in
    here_lines_means before text (span is_of_terminator text) r.0 r.1
