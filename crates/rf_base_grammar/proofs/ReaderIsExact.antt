-- The reader answers just what the definitions say: the one item, or the one refusal.
use Rattle.std.proofs.Common.{◌≡◌, ℕ, ◌⊎◌, ◌||◌, inl, inr, cond, not, Bool, true, false, Option, Some, None, List, [], ◌∷◌, ◌++◌, refl, sym, ap, ◌∙◌, subst, eqb, arith}
use Rattle.std.specs.Prelude.{codes}
use Rattle.std.specs.List.{list_any}
use Rattle.std.proofs.lemmas.Bool.{eqb-true, or_from, and_left, false_from_ne_true, false≢true, or_cases}
use Rattle.std.proofs.lemmas.List.{append_assoc}
use Rattle.rf_base_grammar.specs.Characters.{is_white, is_delimiter, BeginsWith, IsOneOf}
use Rattle.rf_base_grammar.specs.Strings.{quote, string_heads, is_no_return}
use Rattle.rf_base_grammar.specs.Comments.{breaks_line, IsOnOneLine, bang_heads, EndsLine}
use Rattle.rf_base_grammar.specs.LanguageLine.{is_name_mark, is_blank, is_path_mark}
use Rattle.rf_base_grammar.specs.Spelled.{MayFollow, MayStand, language_may_stand, BeginsItem}
use Rattle.rf_base_grammar.specs.Unreadable.{NoItem, NoneSpelled, IsOpenString, IsOpenComment, IsOpenBar, IsOpenHere, IsStrayInComment, IsReturnInHere, EndsName, BeginsLanguage, IsReaderOfOther, IsStrayInLanguage, IsStrayBehind, IsBadLanguageLine, IsBadHash, Stands, BeginsMark}
use Rattle.rf_base_grammar.specs.Cuts.{Cut, cut, span, Bare, run_cut, string_cut, block_cut, NoHalf, here_cut}
use Rattle.rf_base_grammar.specs.Reader.{Answer, Found, Wrong, strip, begins, string_item, block_item, line_ends_well, comment_item, bang_behind, ends_in, open_here, here_behind, here_lines, here_item, is_of_terminator, bad_language, language_ends_well, breaks, language_of, front_item}
use Rattle.rf_base_grammar.specs.declared.kinds.Kind.{Kind}
use Rattle.rf_base_grammar.specs.declared.kinds.Kind.TheVariants.{Str, Here, Block, Lang}
use Rattle.rf_base_grammar.specs.declared.refusals.LexKind.{LexKind}
use Rattle.rf_base_grammar.specs.declared.refusals.LexKind.TheVariants.{BadHash, OpenString, OpenComment, OpenBar, OpenHere, StrayLineEnd, LanguageLine, LanguageReader}
use Rattle.rf_base_grammar.proofs.Words.{not_begins, one_of_each}
use Rattle.rf_base_grammar.proofs.Spans.{Stops, span_same, span_all}
use Rattle.rf_base_grammar.proofs.RunCuts.{run_cut_open}
use Rattle.rf_base_grammar.proofs.HeadedItems.{string_front}
use Rattle.rf_base_grammar.proofs.PlainItems.{block_front, semicolon_front, bang_front, here_front}
use Rattle.rf_base_grammar.proofs.LanguageItems.{Tail, TailMark, other_told, name_front, part_front}
use Rattle.rf_base_grammar.proofs.Answers.{MayRefuse, Means, ends_line_found}
use Rattle.rf_base_grammar.proofs.ReaderFinds.{found_front}
use Rattle.rf_base_grammar.proofs.ReaderMeans.{reader_means}

-- what the reader finds is an item
pub front_found : (before : List Kind) (text : List ℕ) (kind : Kind) (spelling behind : List ℕ) → BeginsMark text →
    front_item (language_may_stand before) text ≡ Found kind spelling behind →
    BeginsItem before text kind spelling behind
front_found before text kind spelling behind m e = subst (λ a. Means before text a) e (reader_means before text m)

-- where it finds none, none is
front_none : (before : List Kind) (text : List ℕ) (kind : LexKind) (clean : List ℕ) →
    front_item (language_may_stand before) text ≡ Wrong kind clean → NoItem before text
front_none before text kind clean e k spelling behind item =
    let found = found_front before text k spelling behind item in
    let both : Found k spelling behind ≡ Wrong kind clean = sym found ∙ e in
    cc

-- where no item stands, an answer that is an item or a refusal is the refusal
abbrev IsOr : Answer → Answer → Type 0
IsOr answer wrong =
    (answer ≡ wrong) ⊎ ((k : Kind) × (spelling : List ℕ) × (behind : List ℕ) × (answer ≡ Found k spelling behind))

must_refuse : (before : List Kind) (text : List ℕ) (answer wrong : Answer) → BeginsMark text → NoItem before text →
    front_item (language_may_stand before) text ≡ answer → IsOr answer wrong →
    front_item (language_may_stand before) text ≡ wrong
must_refuse before text answer wrong m none e (inl w) = e ∙ w
must_refuse before text answer wrong m none e (inr f) =
    absurd (none f.0 f.1 f.2 (front_found before text f.0 f.1 f.2 m (e ∙ f.3)))

-- a string without its closing quote
string_or : (start : List ℕ) (o : Option Cut) → IsOr (string_item start o) (Wrong OpenString [])
string_or start None = inl refl
string_or start (Some k) = inr (Str, start ++ (k.front ++ quote ∷ []), k.behind, refl)

open_string_front : (before : List Kind) (text : List ℕ) → BeginsMark text → NoItem before text → IsOpenString text →
    front_item (language_may_stand before) text ≡ Wrong OpenString []
open_string_front before text m none h =
    let head = h.0.0 in
    let after = h.0.2.0 in
    let shape : text ≡ head ++ quote ∷ after = h.0.2.1 ∙ append_assoc head (quote ∷ []) after in
    must_refuse before text (string_item (head ++ quote ∷ []) (string_cut false after)) (Wrong OpenString []) m none
    (ap (λ xs. front_item (language_may_stand before) xs) shape
    ∙ string_front (language_may_stand before) head after h.0.1)
    (string_or (head ++ quote ∷ []) (string_cut false after))

-- a block comment that isn't closed
block_or : (o : Option Cut) → IsOr (block_item o) (Wrong OpenComment [])
block_or None = inl refl
block_or (Some k) = inr (Block, codes "#|" ++ k.front, k.behind, refl)

open_comment_front : (before : List Kind) (text : List ℕ) → BeginsMark text → NoItem before text → IsOpenComment text →
    front_item (language_may_stand before) text ≡ Wrong OpenComment []
open_comment_front before text m none h =
    must_refuse before text (block_item (block_cut 0 NoHalf h.0.0)) (Wrong OpenComment []) m none
    (ap (λ xs. front_item (language_may_stand before) xs) h.0.1 ∙ block_front (language_may_stand before) h.0.0)
    (block_or (block_cut 0 NoHalf h.0.0))

-- a here string that isn't ended
here_behind_or : (text terminator : List ℕ) (o : Option Cut) →
    IsOr (here_behind text terminator o) (open_here (span is_no_return text))
here_behind_or text terminator None = inl refl
here_behind_or text terminator (Some k) = inr (Here, codes "#<<" ++ (terminator ++ 10 ∷ k.front), k.behind, refl)

here_lines_or : (text : List ℕ) (k : Cut) (o : Option (List ℕ)) →
    IsOr (here_lines text k o) (open_here (span is_no_return text))
here_lines_or text k None = inl refl
here_lines_or text k (Some lines) = here_behind_or text k.front (here_cut k.front (Some k.front) lines)

open_here_answer : (before : List Kind) (text after : List ℕ) → BeginsMark text → NoItem before text →
    text ≡ codes "#<<" ++ after → front_item (language_may_stand before) text ≡ open_here (span is_no_return after)
open_here_answer before text after m none e =
    must_refuse before text (here_item after) (open_here (span is_no_return after)) m none
    (ap (λ xs. front_item (language_may_stand before) xs) e ∙ here_front (language_may_stand before) after)
    (here_lines_or after (span is_of_terminator after) (strip (10 ∷ []) (span is_of_terminator after).behind))

open_here_front : (before : List Kind) (text : List ℕ) → BeginsMark text → NoItem before text → IsOpenHere text →
    front_item (language_may_stand before) text ≡ Wrong OpenHere []
open_here_front before text m none h =
    open_here_answer before text h.0 m none h.1 ∙ ap open_here (span_all is_no_return h.0 h.2)

abbrev return_begins : (clean text : List ℕ) → IsReturnInHere clean text → BeginsWith (codes "#<<") text
return_begins clean text h = (
  h.0 ++ 13 ∷ h.3.0,
  h.3.1 ∙ ap (λ xs. (xs ++ 13 ∷ []) ++ h.3.0) h.1 ∙ ap (λ xs. codes "#<<" ++ xs) (append_assoc h.0 (13 ∷ []) h.3.0),
)

return_front : (before : List Kind) (clean text : List ℕ) → BeginsMark text → NoItem before text →
    IsReturnInHere clean text → front_item (language_may_stand before) text ≡ Wrong StrayLineEnd clean
return_front before clean text m none h =
    let b = return_begins clean text h in
    open_here_answer before text b.0 m none b.1
    ∙ ap open_here (span_same is_no_return h.0 (13 ∷ h.3.0) h.2 refl)
    ∙ ap (λ xs. Wrong StrayLineEnd xs) (sym h.1)

-- a stray line end in a line comment
stray_stops : (c : ℕ) (after : List ℕ) → breaks_line c ≡ true → Stops (λ d. not (breaks_line d)) (c ∷ after)
stray_stops c after b = rw b refl

stray_ends : (c : ℕ) (after : List ℕ) → (EndsLine (c ∷ after) → ⊥) → line_ends_well (c ∷ after) ≡ false
stray_ends c after n = false_from_ne_true (line_ends_well (c ∷ after)) (λ e. n (ends_line_found (c ∷ after) e))

semicolon_stray : (language : Bool) (body : List ℕ) (c : ℕ) (after : List ℕ) → IsOnOneLine body → breaks_line c ≡ true →
    (EndsLine (c ∷ after) → ⊥) →
    front_item language (codes ";" ++ (body ++ c ∷ after)) ≡ Wrong StrayLineEnd (codes ";" ++ body)
semicolon_stray language body c after h b n =
    semicolon_front language (body ++ c ∷ after)
    ∙ ap (λ (k : Cut). comment_item (line_ends_well k.behind) false (codes ";" ++ k.front) k.behind)
    (span_same (λ d. not (breaks_line d)) body (c ∷ after) h (stray_stops c after b))
    ∙ ap (λ t. comment_item t false (codes ";" ++ body) (c ∷ after)) (stray_ends c after n)

bang_stray : (language : Bool) (d : ℕ) (body : List ℕ) (c : ℕ) (after : List ℕ) → (eqb d 47 || eqb d 32) ≡ true →
    IsOnOneLine body → breaks_line c ≡ true → (EndsLine (c ∷ after) → ⊥) →
    front_item language (codes "#!" ++ d ∷ (body ++ c ∷ after)) ≡ Wrong StrayLineEnd (codes "#!" ++ d ∷ body)
bang_stray language d body c after t h b n =
    bang_front language (d ∷ (body ++ c ∷ after))
    ∙ ap (λ u. bang_behind u d (body ++ c ∷ after)) t
    ∙ ap (λ (k : Cut). comment_item (line_ends_well k.behind) (ends_in 92 k.front) (codes "#!" ++ d ∷ k.front) k.behind)
    (span_same (λ x. not (breaks_line x)) body (c ∷ after) h (stray_stops c after b))
    ∙ ap (λ u. comment_item u (ends_in 92 body) (codes "#!" ++ d ∷ body) (c ∷ after)) (stray_ends c after n)

comment_stray : (language : Bool) (head body : List ℕ) (c : ℕ) (after : List ℕ) →
    IsOneOf (codes ";" ∷ bang_heads) head → IsOnOneLine body → breaks_line c ≡ true → (EndsLine (c ∷ after) → ⊥) →
    front_item language (head ++ (body ++ c ∷ after)) ≡ Wrong StrayLineEnd (head ++ body)
comment_stray language head body c after (inl e) h b n = rw e (semicolon_stray language body c after h b n)
comment_stray language head body c after (inr (inl e)) h b n = rw e (bang_stray language 47 body c after refl h b n)
comment_stray language head body c after (inr (inr (inl e))) h b n =
    rw e (bang_stray language 32 body c after refl h b n)
comment_stray language head body c after (inr (inr (inr x))) h b n = absurd x

comment_stray_front : (language : Bool) (clean text : List ℕ) → IsStrayInComment clean text →
    front_item language text ≡ Wrong StrayLineEnd clean
comment_stray_front language clean text h =
    let s = h.5 in
    let shape : text ≡ h.0 ++ (h.1 ++ s.0 ∷ s.1) =
    s.2 ∙ ap (λ xs. xs ++ s.0 ∷ s.1) h.2 ∙ append_assoc h.0 h.1 (s.0 ∷ s.1) in
    ap (λ xs. front_item language xs) shape
    ∙ comment_stray language h.0 h.1 s.0 s.1 h.3 h.4 s.3 s.4
    ∙ ap (λ xs. Wrong StrayLineEnd xs) (sym h.2)

-- another reader
stops_at_end : (text : List ℕ) → EndsName text → Stops is_name_mark text
stops_at_end [] h = tt
stops_at_end (c ∷ text) h = h

reader_front : (before : List Kind) (text : List ℕ) → IsReaderOfOther before text →
    front_item (language_may_stand before) text ≡ Wrong LanguageReader []
reader_front before text h =
    let b = h.2 in
    ap (λ l. front_item l text) b.0
    ∙ ap (λ xs. front_item true xs) b.1
    ∙ name_front h.0 h.1 b.2 (stops_at_end h.1 b.3)
    ∙ ap (λ r. language_of true r h.0 h.1) (other_told h.0 h.3)

-- a stray line end on a language line
abbrev AllMarks : List ℕ → (ℕ → Type 0) → Type 0
AllMarks [] P = Unit {0}
AllMarks (m ∷ marks) P = P m × AllMarks marks P

breaking_cases : (c : ℕ) (marks : List ℕ) (P : ℕ → Type 0) → list_any (λ m. eqb c m) marks ≡ true → AllMarks marks P →
    P c
breaking_cases c [] P h a = absurd (false≢true h)
breaking_cases c (m ∷ marks) P h a =
    elim (or_cases _ _ h) [
      | inl e ↦ subst P (sym (eqb-true c m e)) a.0
      | inr r ↦ breaking_cases c marks P r a.1
    ]

breaking_tail : (c : ℕ) (after : List ℕ) → breaks_line c ≡ true → Tail (c ∷ after)
breaking_tail c after h =
    breaking_cases c (10 ∷ 13 ∷ 0x85 ∷ 0x2028 ∷ 0x2029 ∷ []) (λ d. Tail (d ∷ after)) h (
      tail 10 refl refl refl (λ e. omega arith),
      (
        tail 13 refl refl refl (λ e. omega arith),
        (
          tail 0x85 refl refl refl (λ e. omega arith),
          (tail 0x2028 refl refl refl (λ e. omega arith), (tail 0x2029 refl refl refl (λ e. omega arith), tt)),
        ),
      ),
    )
  where
    tail : (d : ℕ) → is_name_mark d ≡ false → is_blank d ≡ false → is_path_mark d ≡ false → (d ≡ 34 → ⊥) →
        Tail (d ∷ after)
    tail d n b p q = TailMark d (d ∷ after) after refl n b p q

no_semicolon : (c : ℕ) (after : List ℕ) → breaks_line c ≡ true → begins (codes ";") (c ∷ after) ≡ false
no_semicolon c after h =
    breaking_cases c (10 ∷ 13 ∷ 0x85 ∷ 0x2028 ∷ 0x2029 ∷ []) (λ d. begins (codes ";") (d ∷ after) ≡ false) h (
      refl,
      (refl, (refl, (refl, (refl, tt)))),
    )

language_stray_front : (before : List Kind) (clean text : List ℕ) → IsStrayInLanguage before clean text →
    front_item (language_may_stand before) text ≡ Wrong StrayLineEnd clean
language_stray_front before clean text h =
    let name = h.0 in
    let part = h.2 in
    let blanks = h.3 in
    let b = h.4 in
    let s = h.9 in
    let rest = s.0 ∷ s.1 in
    let well : language_ends_well part blanks rest ≡ false =
    or_from (line_ends_well rest) _ (stray_ends s.0 s.1 s.4)
    (and_left (begins (codes ";") rest) _ (no_semicolon s.0 s.1 s.3)) in
    let shape : text ≡ codes "#lang " ++ (name ++ (part ++ (blanks ++ rest))) =
    s.2
    ∙ ap (λ xs. xs ++ rest) h.8
    ∙ ap (λ xs. codes "#lang " ++ xs) (append_assoc name (part ++ blanks) rest
    ∙ ap (λ xs. name ++ xs) (append_assoc part blanks rest)) in
    ap (λ l. front_item l text) b.0
    ∙ ap (λ xs. front_item true xs) shape
    ∙ part_front name part blanks rest b.2 h.5 h.6 h.7 (breaking_tail s.0 s.1 s.3)
    ∙ ap (λ t. cond t (Found Lang (codes "#lang " ++ (name ++ part)) (blanks ++ rest))
    (cond (breaks rest) (Wrong StrayLineEnd (codes "#lang " ++ (name ++ (part ++ blanks)))) bad_language)) well
    ∙ ap (λ t. cond t (Wrong StrayLineEnd (codes "#lang " ++ (name ++ (part ++ blanks)))) bad_language) s.3
    ∙ ap (λ xs. Wrong StrayLineEnd xs) (sym h.8)

stray_front : (before : List Kind) (clean text : List ℕ) → BeginsMark text → NoItem before text →
    IsStrayBehind before clean text → front_item (language_may_stand before) text ≡ Wrong StrayLineEnd clean
stray_front before clean text m none (inl h) = comment_stray_front (language_may_stand before) clean text h
stray_front before clean text m none (inr (inl h)) = return_front before clean text m none h
stray_front before clean text m none (inr (inr h)) = language_stray_front before clean text h

-- two refusals of one answer are one
one_wrong : (answer : Answer) (k k' : LexKind) (c c' : List ℕ) → answer ≡ Wrong k c → answer ≡ Wrong k' c' → k ≡ k'
one_wrong answer k k' c c' e f = let both : Wrong k c ≡ Wrong k' c' = sym e ∙ f in cc

-- where no item stands and any may follow, none is spelled
none_spelled : (before : List Kind) (kind : Kind) (text : List ℕ) → NoItem before text →
    ((spelling behind : List ℕ) → MayFollow kind spelling behind × MayStand before kind spelling) →
    NoneSpelled kind text
none_spelled before kind text none free spelling behind e s =
    let f = free spelling behind in
    none kind spelling behind (record { text_is = e; spelled = s; follows = f.0; stands = f.1 })

bad_language_stands : (before : List Kind) (text clean : List ℕ) → BeginsMark text → NoItem before text →
    front_item (language_may_stand before) text ≡ Wrong LanguageLine clean → BeginsWith (codes "#lang") text →
    IsBadLanguageLine before text
bad_language_stands before text clean m none e b = (
  b,
  (λ r. not_reader (one_wrong _ _ _ _ _ e (reader_front before text r))),
  (λ c s. not_stray (one_wrong _ _ _ _ _ e (language_stray_front before c text s))),
)
  where
    not_reader : LanguageLine ≡ LanguageReader → ⊥
    not_reader e = cc

    not_stray : LanguageLine ≡ StrayLineEnd → ⊥
    not_stray e = cc

-- an open run is no language line
open_bar_not_lang : (text : List ℕ) → BeginsWith (codes "#lang") text → IsOpenBar text → ⊥
open_bar_not_lang text b o = o.1 (inr (inr (inr (inr (inl b)))))

-- no text begins with both words
no_both : (word other text : List ℕ) → BeginsWith word text →
    ((after : List ℕ) → begins other (word ++ after) ≡ false) → BeginsWith other text → ⊥
no_both word other text b n c = not_begins other (word ++ b.0) (n b.0) (subst (BeginsWith other) b.1 c)

string_not_lang : (text head : List ℕ) → IsOneOf string_heads head → BeginsWith (head ++ quote ∷ []) text →
    BeginsWith (codes "#lang") text → ⊥
string_not_lang text head is b =
    no_both (head ++ quote ∷ []) (codes "#lang") text b
    (λ t. one_of_each (λ h. begins (codes "#lang") ((h ++ quote ∷ []) ++ t) ≡ false) string_heads head
    (refl, (refl, (refl, (refl, (refl, (refl, tt)))))) is)

-- what a stray line end stands behind
comment_begins : (clean text : List ℕ) (h : IsStrayInComment clean text) → BeginsWith h.0 text
comment_begins clean text h = (
  h.1 ++ h.5.0 ∷ h.5.1,
  h.5.2 ∙ ap (λ xs. xs ++ h.5.0 ∷ h.5.1) h.2 ∙ append_assoc h.0 h.1 (h.5.0 ∷ h.5.1),
)

comment_not_lang : (clean text : List ℕ) → IsStrayInComment clean text → BeginsWith (codes "#lang") text → ⊥
comment_not_lang clean text h = by_head h.0 h.3 (comment_begins clean text h)
  where
    by_head : (head : List ℕ) → IsOneOf (codes ";" ∷ bang_heads) head → BeginsWith head text →
        BeginsWith (codes "#lang") text → ⊥
    by_head head (inl e) b = no_both (codes ";") (codes "#lang") text (subst (λ w. BeginsWith w text) e b) (λ t. refl)
    by_head head (inr (inl e)) b =
        no_both (codes "#!/") (codes "#lang") text (subst (λ w. BeginsWith w text) e b) (λ t. refl)
    by_head head (inr (inr (inl e))) b =
        no_both (codes "#! ") (codes "#lang") text (subst (λ w. BeginsWith w text) e b) (λ t. refl)
    by_head head (inr (inr (inr x))) b = absurd x

here_not_lang : (text after : List ℕ) → text ≡ codes "#<<" ++ after → BeginsWith (codes "#lang") text → ⊥
here_not_lang text after e = no_both (codes "#<<") (codes "#lang") text (after, e) (λ t. refl)

return_not_lang : (clean text : List ℕ) → IsReturnInHere clean text → BeginsWith (codes "#lang") text → ⊥
return_not_lang clean text h = let b = return_begins clean text h in here_not_lang text b.0 b.1

-- what the answer for a bad language line is
bad_language_front : (before : List Kind) (text : List ℕ) → BeginsMark text → NoItem before text →
    IsBadLanguageLine before text → front_item (language_may_stand before) text ≡ Wrong LanguageLine []
bad_language_front before text m none h =
    by_answer (front_item (language_may_stand before) text) refl (reader_means before text m)
  where
    by_kind : (kind : LexKind) (clean : List ℕ) → MayRefuse before kind clean text →
        Wrong kind clean ≡ Wrong LanguageLine []
    by_kind BadHash clean r = absurd (r.1.2 h.0)
    by_kind OpenString clean r = absurd (string_not_lang text r.1.0 r.1.1 r.1.2 h.0)
    by_kind OpenComment clean r = absurd (no_both (codes "#|") (codes "#lang") text r.1 (λ t. refl) h.0)
    by_kind OpenBar clean r = absurd (open_bar_not_lang text h.0 r.1)
    by_kind OpenHere clean r = absurd (here_not_lang text r.1.0 r.1.1 h.0)
    by_kind StrayLineEnd clean (inl r) = absurd (comment_not_lang clean text r h.0)
    by_kind StrayLineEnd clean (inr (inl r)) = absurd (return_not_lang clean text r h.0)
    by_kind StrayLineEnd clean (inr (inr r)) = absurd (h.2 clean r)
    by_kind LanguageLine clean r = ap (λ c. Wrong LanguageLine c) r.0
    by_kind LanguageReader clean r = absurd (h.1 r.1)

    by_answer : (answer : Answer) → front_item (language_may_stand before) text ≡ answer → Means before text answer →
        front_item (language_may_stand before) text ≡ Wrong LanguageLine []
    by_answer (Found kind spelling behind) e item = absurd (none kind spelling behind item)
    by_answer (Wrong kind clean) e r = e ∙ by_kind kind clean r

-- a text that begins with a run's end is no open run
ends_not_open : (word text : List ℕ) → BeginsWith word text →
    ((after : List ℕ) → (k : Cut) × (run_cut Bare (word ++ after) ≡ Some k)) → IsOpenBar text → ⊥
ends_not_open word text b ends o =
    let e = ends b.0 in
    let some : run_cut Bare text ≡ Some e.0 = ap (λ xs. run_cut Bare xs) b.1 ∙ e.1 in
    let both : None ≡ Some e.0 = sym (run_cut_open text o.0) ∙ some in
    cc

string_not_open : (text head : List ℕ) → IsOneOf string_heads head → BeginsWith (head ++ quote ∷ []) text →
    IsOpenBar text → ⊥
unfolding run_cut is_delimiter is_white
string_not_open text head is b =
    ends_not_open (head ++ quote ∷ []) text b (λ t. (
      cut head (quote ∷ t),
      one_of_each (λ h. run_cut Bare ((h ++ quote ∷ []) ++ t) ≡ Some (cut h (quote ∷ t))) string_heads head
          (refl, (refl, (refl, (refl, (refl, (refl, tt)))))) is,
    ))

lang_begins : (before : List Kind) (text name behind : List ℕ) → BeginsLanguage before text name behind →
    BeginsWith (codes "#lang") text
lang_begins before text name behind b = (32 ∷ (name ++ behind), b.1)

bang_not_open : (c : ℕ) (text : List ℕ) → BeginsWith (codes "#!" ++ c ∷ []) text → IsOpenBar text → ⊥
bang_not_open c text b o = o.1 (inr (inr (inl (c ∷ b.0, b.1))))

head_not_open : (head text : List ℕ) → IsOneOf (codes ";" ∷ bang_heads) head → BeginsWith head text → IsOpenBar text → ⊥
unfolding run_cut is_delimiter is_white
head_not_open head text (inl e) b = ends_not_open (codes ";") text (subst (λ w. BeginsWith w text) e b) (λ t. (
  cut [] (59 ∷ t),
  refl,
))
head_not_open head text (inr (inl e)) b = bang_not_open 47 text (subst (λ w. BeginsWith w text) e b)
head_not_open head text (inr (inr (inl e))) b = bang_not_open 32 text (subst (λ w. BeginsWith w text) e b)
head_not_open head text (inr (inr (inr x))) b = absurd x

stray_not_open : (before : List Kind) (clean text : List ℕ) → IsStrayBehind before clean text → IsOpenBar text → ⊥
stray_not_open before clean text (inl h) = head_not_open h.0 text h.3 (comment_begins clean text h)
stray_not_open before clean text (inr (inl h)) = λ o. o.1 (inr (inr (inr (inl (return_begins clean text h)))))
stray_not_open before clean text (inr (inr h)) = open_bar_not_lang text (lang_begins before text h.0 h.1 h.4)

open_bar_front : (before : List Kind) (text : List ℕ) → BeginsMark text → NoItem before text → IsOpenBar text →
    front_item (language_may_stand before) text ≡ Wrong OpenBar []
open_bar_front before text m none h =
    by_answer (front_item (language_may_stand before) text) refl (reader_means before text m)
  where
    by_kind : (kind : LexKind) (clean : List ℕ) → MayRefuse before kind clean text → Wrong kind clean ≡ Wrong OpenBar []
    by_kind BadHash clean r = absurd (r.1.1 h)
    by_kind OpenString clean r = absurd (string_not_open text r.1.0 r.1.1 r.1.2 h)
    by_kind OpenComment clean r = absurd (h.1 (inl r.1))
    by_kind OpenBar clean r = ap (λ c. Wrong OpenBar c) r.0
    by_kind OpenHere clean r = absurd (h.1 (inr (inr (inr (inl (r.1.0, r.1.1))))))
    by_kind StrayLineEnd clean r = absurd (stray_not_open before clean text r h)
    by_kind LanguageLine clean r = absurd (open_bar_not_lang text r.1 h)
    by_kind LanguageReader clean r = absurd (open_bar_not_lang text (lang_begins before text r.1.0 r.1.1 r.1.2) h)

    by_answer : (answer : Answer) → front_item (language_may_stand before) text ≡ answer → Means before text answer →
        front_item (language_may_stand before) text ≡ Wrong OpenBar []
    by_answer (Found kind spelling behind) e item = absurd (none kind spelling behind item)
    by_answer (Wrong kind clean) e r = e ∙ by_kind kind clean r

-- a refusal that may stand stands, where no item does
bad_hash_stands : (before : List Kind) (text clean : List ℕ) → BeginsMark text → NoItem before text →
    front_item (language_may_stand before) text ≡ Wrong BadHash clean → BeginsWith (codes "#") text →
    IsBadHash before text
bad_hash_stands before text clean m none e b = (
  b,
  (λ h. let same = other OpenString [] (open_string_front before text m none h) in cc),
  (λ h. let same = other OpenComment [] (open_comment_front before text m none h) in cc),
  (λ h. let same = other OpenBar [] (open_bar_front before text m none h) in cc),
  (λ h. let same = other OpenHere [] (open_here_front before text m none h) in cc),
  (λ c h. let same = other StrayLineEnd c (stray_front before c text m none h) in cc),
  (λ h. let same = other LanguageReader [] (reader_front before text h) in cc),
  (λ h. let same = other LanguageLine [] (bad_language_front before text m none h) in cc),
)
  where
    other : (kind : LexKind) (c : List ℕ) → front_item (language_may_stand before) text ≡ Wrong kind c → BadHash ≡ kind
    other kind c f = one_wrong (front_item (language_may_stand before) text) BadHash kind clean c e f

stands : (before : List Kind) (text : List ℕ) (kind : LexKind) (clean : List ℕ) → BeginsMark text → NoItem before text →
    front_item (language_may_stand before) text ≡ Wrong kind clean → MayRefuse before kind clean text →
    Stands before kind clean text
stands before text BadHash clean m none e r = (r.0, bad_hash_stands before text clean m none e r.1.0)
stands before text OpenString clean m none e r = (r.0, (r.1, none_spelled before Str text none (λ s b. (tt, tt))))
stands before text OpenComment clean m none e r = (r.0, (r.1, none_spelled before Block text none (λ s b. (tt, tt))))
stands before text LanguageLine clean m none e r = (r.0, bad_language_stands before text clean m none e r.1)
stands before text _ clean m none e r = r

-- a bad hash sign
bad_hash_front : (before : List Kind) (text : List ℕ) → BeginsMark text → NoItem before text → IsBadHash before text →
    front_item (language_may_stand before) text ≡ Wrong BadHash []
bad_hash_front before text m none h =
    by_answer (front_item (language_may_stand before) text) refl (reader_means before text m)
  where
    by_kind : (kind : LexKind) (clean : List ℕ) → Stands before kind clean text → Wrong kind clean ≡ Wrong BadHash []
    by_kind BadHash clean r = ap (λ c. Wrong BadHash c) r.0
    by_kind OpenString clean r = absurd (h.1 r.1)
    by_kind OpenComment clean r = absurd (h.2 r.1)
    by_kind OpenBar clean r = absurd (h.3 r.1)
    by_kind OpenHere clean r = absurd (h.4 r.1)
    by_kind StrayLineEnd clean r = absurd (h.5 clean r)
    by_kind LanguageLine clean r = absurd (h.7 r.1)
    by_kind LanguageReader clean r = absurd (h.6 r.1)

    by_answer : (answer : Answer) → front_item (language_may_stand before) text ≡ answer → Means before text answer →
        front_item (language_may_stand before) text ≡ Wrong BadHash []
    by_answer (Found kind spelling behind) e item = absurd (none kind spelling behind item)
    by_answer (Wrong kind clean) e r = e ∙ by_kind kind clean (stands before text kind clean m none e r)

-- where no item stands, the refusal that the reader answers stands
pub front_wrong : (before : List Kind) (text : List ℕ) (kind : LexKind) (clean : List ℕ) → BeginsMark text →
    front_item (language_may_stand before) text ≡ Wrong kind clean → Stands before kind clean text × NoItem before text
front_wrong before text kind clean m e =
    let none = front_none before text kind clean e in
    (stands before text kind clean m none e (subst (λ a. Means before text a) e (reader_means before text m)), none)

-- and the refusal that stands is the reader's
pub stands_front : (before : List Kind) (text : List ℕ) (kind : LexKind) (clean : List ℕ) → BeginsMark text →
    NoItem before text → Stands before kind clean text → front_item (language_may_stand before) text ≡ Wrong kind clean
stands_front before text BadHash clean m none h =
    bad_hash_front before text m none h.1 ∙ ap (λ c. Wrong BadHash c) (sym h.0)
stands_front before text OpenString clean m none h =
    open_string_front before text m none h.1 ∙ ap (λ c. Wrong OpenString c) (sym h.0)
stands_front before text OpenComment clean m none h =
    open_comment_front before text m none h.1 ∙ ap (λ c. Wrong OpenComment c) (sym h.0)
stands_front before text OpenBar clean m none h =
    open_bar_front before text m none h.1 ∙ ap (λ c. Wrong OpenBar c) (sym h.0)
stands_front before text OpenHere clean m none h =
    open_here_front before text m none h.1 ∙ ap (λ c. Wrong OpenHere c) (sym h.0)
stands_front before text StrayLineEnd clean m none h = stray_front before clean text m none h
stands_front before text LanguageLine clean m none h =
    bad_language_front before text m none h.1 ∙ ap (λ c. Wrong LanguageLine c) (sym h.0)
stands_front before text LanguageReader clean m none h =
    reader_front before text h.1 ∙ ap (λ c. Wrong LanguageReader c) (sym h.0)
