-- The language line: what the reader finds where the definitions say that one stands, or that it has another reader or
-- a stray line end.
use Rattle.std.proofs.Common.{◌≡◌, ℕ, ◌⊎◌, ◌||◌, ◌&&◌, inl, inr, cond, Bool, true, false, List, [], ◌∷◌, ◌++◌, refl, sym, ap, ◌∙◌, arith}
use Rattle.std.specs.Prelude.{codes}
use Rattle.std.proofs.lemmas.Bool.{eqb-true, both_ways, not_from_false, or_left, or_right, or_from, or_cases, and_from, false_from_ne_true}
use Rattle.std.proofs.lemmas.List.{append_assoc}
use Rattle.rf_base_grammar.specs.Characters.{Each, BeginsWith}
use Rattle.rf_base_grammar.specs.Comments.{EndsLine}
use Rattle.rf_base_grammar.specs.LanguageLine.{is_name_mark, IsName, is_blank, is_path_mark, is_quoted_path_mark, IsModulePath, IsPathPart, IsLanguageLine, IsOtherReader, EndsLanguageLine}
use Rattle.rf_base_grammar.specs.Cuts.{Cut, cut, span}
use Rattle.rf_base_grammar.specs.Reader.{Found, Wrong, strip, begins, is_nothing, is_name, is_other_reader, quoted_path, module_path, path_part, path_cut, bad_language, language_ends_well, breaks, ended_language, named_language, language_of, language_item, front_item}
use Rattle.rf_base_grammar.specs.declared.kinds.Kind.TheVariants.{Lang}
use Rattle.rf_base_grammar.specs.declared.refusals.LexKind.TheVariants.{StrayLineEnd}
use Rattle.rf_base_grammar.proofs.Words.{strip_none, begins_word, begins_found, begins_not, among_one, among_found, nothing_not}
use Rattle.rf_base_grammar.proofs.Spans.{Stops, span_same}
use Rattle.rf_base_grammar.proofs.PlainItems.{ends_line_well, ends_not}

-- what stands behind a language line's blanks: the end, a line end, a comment, or a stray line end; it goes on no name,
-- no blanks and no path
pub data Tail : List ℕ → Type 0 where
  NoTail : (text : List ℕ) → text ≡ [] → Tail text
  TailMark : (c : ℕ) (text after : List ℕ) → text ≡ c ∷ after → is_name_mark c ≡ false → is_blank c ≡ false →
      is_path_mark c ≡ false → (c ≡ 34 → ⊥) → Tail text

pub tail_from_end : (text : List ℕ) → EndsLine text → Tail text
tail_from_end text (inl e) = NoTail text e
tail_from_end text (inr (inl b)) = TailMark 10 text b.0 b.1 refl refl refl (λ e. omega arith)
tail_from_end text (inr (inr b)) = TailMark 13 text (10 ∷ b.0) b.1 refl refl refl (λ e. omega arith)

tail_from_comment : (text : List ℕ) → BeginsWith (codes ";") text → Tail text
tail_from_comment text b = TailMark 59 text b.0 b.1 refl refl refl (λ e. omega arith)

pub tail_of : (part rest blanks : List ℕ) →
    EndsLine rest ⊎ (BeginsWith (codes ";") rest × (part ≡ [] → (blanks ≡ [] → ⊥))) → Tail rest
tail_of part rest blanks (inl e) = tail_from_end rest e
tail_of part rest blanks (inr b) = tail_from_comment rest b.0

stops_name : (text : List ℕ) → Tail text → Stops is_name_mark text
stops_name _ (NoTail text e) = rw e tt
stops_name _ (TailMark c text after e n b p q) = rw e n

stops_blank : (text : List ℕ) → Tail text → Stops is_blank text
stops_blank _ (NoTail text e) = rw e tt
stops_blank _ (TailMark c text after e n b p q) = rw e b

stops_path : (text : List ℕ) → Tail text → Stops is_path_mark text
stops_path _ (NoTail text e) = rw e tt
stops_path _ (TailMark c text after e n b p q) = rw e p

no_quote : (text : List ℕ) → Tail text → BeginsWith (codes "\"") text → ⊥
no_quote _ (NoTail text e) b = let both = sym e ∙ b.1 in cc
no_quote _ (TailMark c text after e n b p q) w = let both : c ∷ after ≡ 34 ∷ w.0 = sym e ∙ w.1 in q cc

-- a blank is no name's and no path's character
blank_cases : (c : ℕ) → is_blank c ≡ true → (c ≡ 32) ⊎ (c ≡ 9)
blank_cases c h = elim (or_cases _ _ h) [ inl e ↦ inl (eqb-true c 32 e) | inr e ↦ inr (eqb-true c 9 e) ]

blank_is_no_path : (c : ℕ) → is_blank c ≡ true → is_path_mark c ≡ false
blank_is_no_path c h = elim (blank_cases c h) [ inl e ↦ rw e refl | inr e ↦ rw e refl ]

pub blank_is_no_name : (c : ℕ) → is_blank c ≡ true → is_name_mark c ≡ false
blank_is_no_name c h = elim (blank_cases c h) [ inl e ↦ rw e refl | inr e ↦ rw e refl ]

-- blanks and a tail stop names and paths
stops_path_blanks : (blanks rest : List ℕ) → Each is_blank blanks → Tail rest → Stops is_path_mark (blanks ++ rest)
stops_path_blanks [] rest h t = stops_path rest t
stops_path_blanks (c ∷ blanks) rest h t = blank_is_no_path c h.0

stops_name_blanks : (blanks rest : List ℕ) → Each is_blank blanks → Tail rest → Stops is_name_mark (blanks ++ rest)
stops_name_blanks [] rest h t = stops_name rest t
stops_name_blanks (c ∷ blanks) rest h t = blank_is_no_name c h.0

-- what the path is cut from, by its blanks and what is behind them
path_cut_from : (text : List ℕ) (k : Cut) → span is_blank text ≡ k →
    path_cut text ≡ path_part text k.front (module_path k.behind (strip (codes "\"") k.behind))
path_cut_from text k e = ap (λ (j : Cut). path_part text j.front (module_path j.behind (strip (codes "\"") j.behind))) e

-- without a path
no_path_cut : (blanks rest : List ℕ) → Each is_blank blanks → Tail rest →
    path_cut (blanks ++ rest) ≡ cut [] (blanks ++ rest)
no_path_cut blanks rest h t =
    path_cut_from (blanks ++ rest) (cut blanks rest) (span_same is_blank blanks rest h (stops_blank rest t))
    ∙ ap (λ o. path_part (blanks ++ rest) blanks (module_path rest o)) (strip_none (codes "\"") rest (no_quote rest t))
    ∙ ap (λ k. path_part (blanks ++ rest) blanks k) (span_same is_path_mark [] rest tt (stops_path rest t))
    ∙ ap (λ b. cond b (cut [] (blanks ++ rest)) (cut (blanks ++ []) rest)) (or_right (is_nothing blanks) true refl)

-- a module path begins with no blank
path_mark_is_no_blank : (c : ℕ) → is_path_mark c ≡ true → is_blank c ≡ false
path_mark_is_no_blank c h = false_from_ne_true (is_blank c) (λ b. both_ways (is_path_mark c) (blank_is_no_path c b) h)

path_no_quote : (path behind : List ℕ) → (path ≡ [] → ⊥) → Each is_path_mark path →
    BeginsWith (codes "\"") (path ++ behind) → ⊥
path_no_quote [] behind n h b = n refl
path_no_quote (c ∷ path) behind n h b = let same : c ≡ 34 = cc in both_ways (is_path_mark c) (rw same refl) h.0

stops_blank_path : (path behind : List ℕ) → (path ≡ [] → ⊥) → Each is_path_mark path → Stops is_blank (path ++ behind)
stops_blank_path [] behind n h = absurd (n refl)
stops_blank_path (c ∷ path) behind n h = path_mark_is_no_blank c h.0

both_some : (blanks path : List ℕ) → (blanks ≡ [] → ⊥) → (path ≡ [] → ⊥) →
    (is_nothing blanks || is_nothing path) ≡ false
both_some blanks path n m = or_from _ _ (nothing_not blanks n) (nothing_not path m)

-- with a path
plain_path_cut : (blanks path behind : List ℕ) → (blanks ≡ [] → ⊥) → Each is_blank blanks → (path ≡ [] → ⊥) →
    Each is_path_mark path → Stops is_path_mark behind →
    path_cut (blanks ++ (path ++ behind)) ≡ cut (blanks ++ path) behind
plain_path_cut blanks path behind n h m p s =
    let text = blanks ++ (path ++ behind) in
    path_cut_from text (cut blanks (path ++ behind))
    (span_same is_blank blanks (path ++ behind) h (stops_blank_path path behind m p))
    ∙ ap (λ o. path_part text blanks (module_path (path ++ behind) o))
    (strip_none (codes "\"") (path ++ behind) (path_no_quote path behind m p))
    ∙ ap (λ k. path_part text blanks k) (span_same is_path_mark path behind p s)
    ∙ ap (λ b. cond b (cut [] text) (cut (blanks ++ path) behind)) (both_some blanks path n m)

quoted_path_cut : (blanks inner behind : List ℕ) → (blanks ≡ [] → ⊥) → Each is_blank blanks →
    Each is_quoted_path_mark inner →
    path_cut (blanks ++ (34 ∷ (inner ++ 34 ∷ behind))) ≡ cut (blanks ++ (34 ∷ (inner ++ codes "\""))) behind
quoted_path_cut blanks inner behind n h q =
    let text = blanks ++ (34 ∷ (inner ++ 34 ∷ behind)) in
    path_cut_from text (cut blanks (34 ∷ (inner ++ 34 ∷ behind)))
    (span_same is_blank blanks (34 ∷ (inner ++ 34 ∷ behind)) h refl)
    ∙ ap (λ (k : Cut). path_part text blanks
    (quoted_path (34 ∷ (inner ++ 34 ∷ behind)) k.front
    (strip (codes "\"") k.behind))) (span_same is_quoted_path_mark inner (34 ∷ behind) q refl)
    ∙ ap (λ b. cond b (cut [] text) (cut (blanks ++ (34 ∷ (inner ++ codes "\""))) behind))
    (both_some blanks (34 ∷ (inner ++ codes "\"")) n (λ e. cc))

-- the module path and what is behind it are cut apart
pub path_cut_same : (part blanks rest : List ℕ) → IsPathPart part → Each is_blank blanks → Tail rest →
    path_cut (part ++ (blanks ++ rest)) ≡ cut part (blanks ++ rest)
path_cut_same part blanks rest (inl e) h t = rw e (no_path_cut blanks rest h t)
path_cut_same part blanks rest (inr p) h t = by_path p.5
  where
    behind : List ℕ
    behind = blanks ++ rest

    by_path : IsModulePath p.1 → path_cut (part ++ behind) ≡ cut part behind
    by_path (inl m) =
        ap path_cut (ap (λ xs. xs ++ behind) p.2 ∙ append_assoc p.0 p.1 behind)
        ∙ plain_path_cut p.0 p.1 behind p.3 p.4 m.0 m.1 (stops_path_blanks blanks rest h t)
        ∙ ap (λ xs. cut xs behind) (sym p.2)
    by_path (inr m) =
        let whole : part ≡ p.0 ++ (34 ∷ (m.0 ++ codes "\"")) = p.2 ∙ ap (λ xs. p.0 ++ xs) m.1 in
        ap path_cut (ap (λ xs. xs ++ behind) whole ∙ append_assoc p.0 (34 ∷ (m.0 ++ codes "\"")) behind
        ∙ ap (λ xs. p.0 ++ (34 ∷ xs)) (append_assoc m.0 (codes "\"") behind))
        ∙ quoted_path_cut p.0 m.0 behind p.3 p.4 m.2
        ∙ ap (λ xs. cut xs behind) (sym whole)

-- a name is told as one
pub name_told : (name : List ℕ) → IsName name → is_name name ≡ true
name_told name h =
    and_from _ _ (not_from_false (is_nothing name) (nothing_not name h.0))
    (and_from _ _ (not_from_false (begins (codes "/") name) (begins_not (codes "/") name h.2))
    (not_from_false _ (ends_not 47 name h.3)))

-- another reader is told
pub other_told : (name : List ℕ) → IsOtherReader name → is_other_reader name ≡ true
other_told name (inl h) = or_left _ _ (among_one (codes "at-exp" ∷ codes "datalog" ∷ codes "rhombus" ∷ []) name h)
other_told name (inr (inl b)) = or_right _ _ (or_left _ _ (begins_word (codes "rhombus/") name b))
other_told name (inr (inr b)) = or_right _ _ (or_right _ _ (begins_word (codes "scribble/") name b))

pub other_found : (name : List ℕ) → is_other_reader name ≡ true → IsOtherReader name
other_found name h =
    elim (or_cases _ _ h) [
      | inl e ↦ inl (among_found (codes "at-exp" ∷ codes "datalog" ∷ codes "rhombus" ∷ []) name e)
      | inr r ↦ elim (or_cases _ _ r) [
        | inl e ↦ inr (inl (begins_found (codes "rhombus/") name e))
        | inr e ↦ inr (inr (begins_found (codes "scribble/") name e))
      ]
    ]

pub not_other : (name : List ℕ) → (IsOtherReader name → ⊥) → is_other_reader name ≡ false
not_other name h = false_from_ne_true (is_other_reader name) (λ e. h (other_found name e))

language_front : (language : Bool) (text : List ℕ) →
    front_item language (codes "#lang" ++ text) ≡ language_item language text
unfolding front_item
language_front language text = refl

-- a name and what stands behind it
pub name_front : (name behind : List ℕ) → IsName name → Stops is_name_mark behind →
    front_item true (codes "#lang " ++ (name ++ behind)) ≡ language_of true (is_other_reader name) name behind
name_front name behind h s =
    language_front true (32 ∷ (name ++ behind))
    ∙ ap (λ (k : Cut). language_of (is_name k.front) (is_other_reader k.front) k.front k.behind)
    (span_same is_name_mark name behind h.1 s)
    ∙ ap (λ b. language_of b (is_other_reader name) name behind) (name_told name h)

-- a name with the plain reader, a module path, blanks and what stands behind them
pub part_front : (name part blanks rest : List ℕ) → IsName name → (IsOtherReader name → ⊥) → IsPathPart part →
    Each is_blank blanks → Tail rest →
    front_item true (codes "#lang " ++ (name ++ (part ++ (blanks ++ rest))))
    ≡ ended_language name part (blanks ++ rest) (cut blanks rest)
part_front name part blanks rest h o p b t =
    name_front name (part ++ (blanks ++ rest)) h (stops part p)
    ∙ ap (λ r. language_of true r name (part ++ (blanks ++ rest))) (not_other name o)
    ∙ ap (λ (k : Cut). named_language name k) (path_cut_same part blanks rest p b t)
    ∙ ap (λ (k : Cut). ended_language name part (blanks ++ rest) k)
    (span_same is_blank blanks rest b (stops_blank rest t))
  where
    first_blank : (bs path more : List ℕ) → (bs ≡ [] → ⊥) → Each is_blank bs → Stops is_name_mark ((bs ++ path) ++ more)
    first_blank [] path more n h = absurd (n refl)
    first_blank (c ∷ bs) path more n h = blank_is_no_name c h.0

    stops : (part : List ℕ) → IsPathPart part → Stops is_name_mark (part ++ (blanks ++ rest))
    stops part (inl e) = rw e (stops_name_blanks blanks rest b t)
    stops part (inr q) = rw q.2 (first_blank q.0 q.1 (blanks ++ rest) q.3 q.4)

-- a language line that ends as it may
ends_told : (part blanks rest : List ℕ) →
    EndsLine rest ⊎ (BeginsWith (codes ";") rest × (part ≡ [] → (blanks ≡ [] → ⊥))) →
    language_ends_well part blanks rest ≡ true
ends_told part blanks rest (inl e) = or_left _ _ (ends_line_well rest e)
ends_told part blanks rest (inr b) =
    or_right _ _ (and_from _ _ (begins_word (codes ";") rest b.0) (not_from_false _ (some_told part blanks b.1)))
  where
    some_told : (part blanks : List ℕ) → (part ≡ [] → (blanks ≡ [] → ⊥)) →
        (is_nothing part && is_nothing blanks) ≡ false
    some_told [] blanks n = nothing_not blanks (n refl)
    some_told (c ∷ part) blanks n = refl

-- a language line is found
pub language_found : (spelling name part behind : List ℕ) → IsLanguageLine spelling name part →
    (IsOtherReader name → ⊥) → EndsLanguageLine part behind →
    front_item true (spelling ++ behind) ≡ Found Lang spelling behind
language_found spelling name part behind h o e =
    let blanks = e.0 in
    let rest = e.1 in
    let shape : spelling ++ behind ≡ codes "#lang " ++ (name ++ (part ++ (blanks ++ rest))) =
    ap (λ xs. xs ++ behind) h.text_is ∙ ap (λ xs. codes "#lang " ++ xs) (append_assoc name part behind)
    ∙ ap (λ xs. codes "#lang " ++ (name ++ (part ++ xs))) e.2 in
    ap (λ xs. front_item true xs) shape
    ∙ part_front name part blanks rest h.name_is o h.part_is e.3 (tail_of part rest blanks e.4)
    ∙ ap (λ b. cond b (Found Lang (codes "#lang " ++ (name ++ part)) (blanks ++ rest))
    (cond (breaks rest)
    (Wrong StrayLineEnd (codes "#lang " ++ (name ++ (part ++ blanks)))) bad_language)) (ends_told part blanks rest e.4)
    ∙ ap (λ xs. Found Lang (codes "#lang " ++ (name ++ part)) xs) (sym e.2)
    ∙ ap (λ xs. Found Lang xs behind) (sym h.text_is)
