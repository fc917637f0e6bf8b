-- What the reader's answers for a language line mean.
use Rattle.std.proofs.Common.{◌≡◌, ℕ, ◌⊎◌, ◌||◌, ◌&&◌, inl, inr, cond, true, false, Some, None, List, [], ◌∷◌, ◌++◌, refl, sym, ap, ◌∙◌, subst}
use Rattle.std.specs.Prelude.{codes}
use Rattle.std.proofs.lemmas.Bool.{both_ways, and_parts, or_cases, not-true, false≢true, or_parts}
use Rattle.std.proofs.lemmas.List.{append_assoc, append_cancel_left}
use Rattle.rf_base_grammar.specs.Characters.{Each, BeginsWith}
use Rattle.rf_base_grammar.specs.Comments.{EndsLine}
use Rattle.rf_base_grammar.specs.LanguageLine.{is_name_mark, IsName, is_blank, is_path_mark, is_quoted_path_mark, IsModulePath, IsPathPart, IsLanguageLine, IsOtherReader}
use Rattle.rf_base_grammar.specs.Spelled.{language_may_stand}
use Rattle.rf_base_grammar.specs.Unreadable.{EndsName, IsStray}
use Rattle.rf_base_grammar.specs.Cuts.{Cut, cut, span}
use Rattle.rf_base_grammar.specs.Reader.{Found, Wrong, strip, begins, is_nothing, is_name, is_other_reader, line_ends_well, quoted_path, module_path, path_part, path_cut, bad_language, language_ends_well, breaks, ended_language, named_language, language_of, spaced_language, language_item}
use Rattle.rf_base_grammar.specs.declared.kinds.Kind.{Kind}
use Rattle.rf_base_grammar.specs.declared.kinds.Kind.TheVariants.{Lang}
use Rattle.rf_base_grammar.specs.declared.refusals.LexKind.TheVariants.{StrayLineEnd}
use Rattle.rf_base_grammar.proofs.Words.{strip_found, begins_found, not_begins}
use Rattle.rf_base_grammar.proofs.Spans.{Stops, span_parts, span_same}
use Rattle.rf_base_grammar.proofs.PlainItems.{ends_line_well}
use Rattle.rf_base_grammar.proofs.LanguageItems.{other_found, other_told, blank_is_no_name}
use Rattle.rf_base_grammar.proofs.Answers.{Means, ends_line_found, not_ends}

-- what is told to hold something does
something : (text : List ℕ) → is_nothing text ≡ false → text ≡ [] → ⊥
something [] h e = false≢true (sym h)
something (c ∷ text) h e = cc

-- what is told to be a name is one
name_found : (name : List ℕ) → Each is_name_mark name → is_name name ≡ true → IsName name
name_found name m h =
    let first = and_parts _ _ h in
    let second = and_parts _ _ first.1 in (
      something name (not-true (is_nothing name) first.0),
      m,
      not_begins (codes "/") name (not-true (begins (codes "/") name) second.0),
      not_ends 47 name (not-true _ second.1),
    )

-- a path that isn't empty is a module path, and what it was cut from is the path and what is behind it
IsPathCut : List ℕ → Cut → Type 0
IsPathCut text k = (text ≡ k.front ++ k.behind) × ((k.front ≡ [] → ⊥) → IsModulePath k.front)

quoted_path_found : (text inner rest : List ℕ) → text ≡ codes "\"" ++ (inner ++ rest) → Each is_quoted_path_mark inner →
    IsPathCut text (quoted_path text inner (strip (codes "\"") rest))
unfolding IsPathCut
quoted_path_found text inner rest w q =
    elim (strip (codes "\"") rest) as (λ o. strip (codes "\"") rest ≡ o → IsPathCut text (quoted_path text inner o)) [
      | None ↦ λ e. (refl, λ n. absurd (n refl))
      | Some behind ↦ λ e. (
        w ∙ ap (λ xs. codes "\"" ++ xs) (ap (λ xs. inner ++ xs) (strip_found (codes "\"") rest behind e)
            ∙ sym (append_assoc inner (codes "\"") behind)),
        λ n. inr (inner, refl, q),
      )
    ] refl

module_path_found : (text : List ℕ) → IsPathCut text (module_path text (strip (codes "\"") text))
unfolding IsPathCut
module_path_found text =
    elim (strip (codes "\"") text) as (λ o. strip (codes "\"") text ≡ o → IsPathCut text (module_path text o)) [
      | None ↦ λ e. let r = span_parts is_path_mark text in (r.0, λ n. inl (n, r.1))
      | Some inner ↦ λ e.
          let r = span_parts is_quoted_path_mark inner in
          let k = span is_quoted_path_mark inner in
          quoted_path_found text k.front k.behind
          (strip_found (codes "\"") text inner e ∙ ap (λ xs. codes "\"" ++ xs) r.0) r.1
    ] refl

-- what is cut off as blanks and a path is one
path_part_found : (text blanks rest : List ℕ) (path : Cut) → text ≡ blanks ++ rest → Each is_blank blanks →
    IsPathCut rest path →
    (text ≡ (path_part text blanks path).front ++ (path_part text blanks path).behind)
    × IsPathPart (path_part text blanks path).front
unfolding IsPathCut
path_part_found text blanks rest path w b p =
    elim (is_nothing blanks || is_nothing path.front) as
    (λ t. (is_nothing blanks || is_nothing path.front) ≡ t →
    let k = cond t (cut [] text) (cut (blanks ++ path.front) path.behind) in
    (text ≡ k.front ++ k.behind) × IsPathPart k.front) [
      | true ↦ λ e. (refl, inl refl)
      | false ↦ λ e.
          let both = or_parts _ _ e in (
            w ∙ ap (λ xs. blanks ++ xs) p.0 ∙ sym (append_assoc blanks path.front path.behind),
            inr (blanks, path.front, refl, something blanks both.0, b, p.1 (something path.front both.1)),
          )
    ] refl

path_cut_found : (text : List ℕ) →
    (text ≡ (path_cut text).front ++ (path_cut text).behind) × IsPathPart (path_cut text).front
path_cut_found text =
    let r = span_parts is_blank text in
    let k = span is_blank text in
    path_part_found text k.front k.behind (module_path k.behind (strip (codes "\"") k.behind)) r.0 r.1
    (module_path_found k.behind)

-- a language line has one name
stops_at_part : (part : List ℕ) → IsPathPart part → Stops is_name_mark part
stops_at_part part (inl e) = rw e tt
stops_at_part part (inr p) = rw p.2 (first_blank p.0 p.1 p.3 p.4)
  where
    first_blank : (bs path : List ℕ) → (bs ≡ [] → ⊥) → Each is_blank bs → Stops is_name_mark (bs ++ path)
    first_blank [] path n h = absurd (n refl)
    first_blank (c ∷ bs) path n h = blank_is_no_name c h.0

one_name : (text name part other more : List ℕ) → IsLanguageLine text name part → IsLanguageLine text other more →
    name ≡ other
one_name text name part other more h k =
    let same : name ++ part ≡ other ++ more =
    append_cancel_left (codes "#lang ") (name ++ part) (other ++ more) (sym h.text_is ∙ k.text_is) in
    let a = span_same is_name_mark name part h.name_is.1 (stops_at_part part h.part_is) in
    let b = span_same is_name_mark other more k.name_is.1 (stops_at_part more k.part_is) in
    ap (λ (c : Cut). c.front) (sym a ∙ ap (λ xs. span is_name_mark xs) same ∙ b)

-- how a language line ends
ends_found : (part blanks rest : List ℕ) → language_ends_well part blanks rest ≡ true →
    EndsLine rest ⊎ (BeginsWith (codes ";") rest × (part ≡ [] → (blanks ≡ [] → ⊥)))
ends_found part blanks rest h =
    elim (or_cases _ _ h) [
      | inl e ↦ inl (ends_line_found rest e)
      | inr e ↦
          let both = and_parts _ _ e in
          inr (begins_found (codes ";") rest both.0, no_both part blanks (not-true _ both.1))
    ]
  where
    no_both : (part blanks : List ℕ) → (is_nothing part && is_nothing blanks) ≡ false → part ≡ [] → (blanks ≡ [] → ⊥)
    no_both part blanks h e f =
        let both : (is_nothing part && is_nothing blanks) ≡ true = rw (e, f) refl in both_ways _ h both

-- a stray line end of a language line
stray_in_line : (clean rest : List ℕ) → breaks rest ≡ true → line_ends_well rest ≡ false → IsStray clean (clean ++ rest)
stray_in_line clean [] b w = absurd (false≢true b)
stray_in_line clean (c ∷ rest) b w = (
  c,
  rest,
  refl,
  b,
  λ e. both_ways (line_ends_well (c ∷ rest)) w (ends_line_well (c ∷ rest) e),
)

-- a language line, from its name, its module path and what is behind it
ended_means : (before : List Kind) (name part blanks rest : List ℕ) → language_may_stand before ≡ true → IsName name →
    (IsOtherReader name → ⊥) → EndsName (part ++ (blanks ++ rest)) → IsPathPart part → Each is_blank blanks →
    Means before (codes "#lang " ++ (name ++ (part ++ (blanks ++ rest))))
    (ended_language name part (blanks ++ rest) (cut blanks rest))
ended_means before name part blanks rest l n o s p b =
    let text = codes "#lang " ++ (name ++ (part ++ (blanks ++ rest))) in
    let line = codes "#lang " ++ (name ++ part) in
    let clean = codes "#lang " ++ (name ++ (part ++ blanks)) in
    let is_line : IsLanguageLine line name part = record { text_is = refl; name_is = n; part_is = p } in
    elim (language_ends_well part blanks rest) as
    (λ t. language_ends_well part blanks rest ≡ t →
    Means before text (cond t (Found Lang line (blanks ++ rest))
    (cond (breaks rest) (Wrong StrayLineEnd clean) bad_language))) [
      | true ↦ λ e. record {
        text_is = ap (λ xs. codes "#lang " ++ xs) (sym (append_assoc name part (blanks ++ rest)));
        spelled = (name, part, is_line);
        follows = (name, part, is_line, (blanks, rest, refl, b, ends_found part blanks rest e));
        stands = (l, λ other more k q. o (subst IsOtherReader (one_name line other more name part k is_line) q));
      }
      | false ↦ λ e.
          elim (breaks rest) as (λ t. breaks rest ≡ t →
          Means before text (cond t (Wrong StrayLineEnd clean) bad_language)) [
            | true ↦ λ f.
                let shape : text ≡ clean ++ rest =
                ap (λ xs. codes "#lang " ++ xs) (ap (λ xs. name ++ xs) (sym (append_assoc part blanks rest))
                ∙ sym (append_assoc name (part ++ blanks) rest)) in
                inr (inr (
                  name,
                  part ++ (blanks ++ rest),
                  part,
                  blanks,
                  (l, refl, n, s),
                  o,
                  p,
                  b,
                  refl,
                  subst (λ xs. IsStray clean xs) (sym shape) (stray_in_line clean rest f (or_parts _ _ e).0),
                ))
            | false ↦ λ f. (refl, (32 ∷ (name ++ (part ++ (blanks ++ rest))), refl))
          ] refl
    ] refl

ends_name : (text : List ℕ) → Stops is_name_mark text → EndsName text
ends_name [] s = tt
ends_name (c ∷ text) s = s

-- from its name and what is behind it
named_means : (before : List Kind) (name behind : List ℕ) → language_may_stand before ≡ true → IsName name →
    (IsOtherReader name → ⊥) → EndsName behind →
    Means before (codes "#lang " ++ (name ++ behind)) (named_language name (path_cut behind))
named_means before name behind l n o s =
    let k = path_cut behind in
    let r = path_cut_found behind in
    let c = span_parts is_blank k.behind in
    let j = span is_blank k.behind in
    let whole : behind ≡ k.front ++ (j.front ++ j.behind) = r.0 ∙ ap (λ xs. k.front ++ xs) c.0 in
    subst (λ xs. Means before (codes "#lang " ++ (name ++ xs)) (named_language name k)) (sym whole)
    (subst
    (λ xs. Means before (codes "#lang " ++ (name ++ (k.front ++ (j.front ++ j.behind))))
    (ended_language name k.front xs j)) (sym c.0)
    (ended_means before name k.front j.front j.behind l n o (subst EndsName whole s) r.1 c.1))

-- behind #lang and a space
spaced_means : (before : List Kind) (name behind : List ℕ) → language_may_stand before ≡ true → Each is_name_mark name →
    EndsName behind →
    Means before (codes "#lang " ++ (name ++ behind)) (language_of (is_name name) (is_other_reader name) name behind)
spaced_means before name behind l m s =
    elim (is_name name) as (λ t. is_name name ≡ t →
    Means before (codes "#lang " ++ (name ++ behind)) (language_of t (is_other_reader name) name behind)) [
      | false ↦ λ e. (refl, (32 ∷ (name ++ behind), refl))
      | true ↦ λ e.
          elim (is_other_reader name) as (λ t. is_other_reader name ≡ t →
          Means before (codes "#lang " ++ (name ++ behind)) (language_of true t name behind)) [
            | true ↦ λ f. (refl, (name, behind, (l, refl, name_found name m e, s), other_found name f))
            | false ↦
                λ f. named_means before name behind l (name_found name m e)
                (λ q. both_ways (is_other_reader name) f (other_told name q)) s
          ] refl
    ] refl

may_stand_means : (before : List Kind) (text : List ℕ) → language_may_stand before ≡ true →
    Means before (codes "#lang" ++ text) (language_item true text)
may_stand_means before text l =
    elim (strip (codes " ") text) as (λ o. strip (codes " ") text ≡ o →
    Means before (codes "#lang" ++ text) (spaced_language o)) [
      | None ↦ λ e. (refl, (text, refl))
      | Some more ↦ λ e.
          let r = span_parts is_name_mark more in
          let k = span is_name_mark more in
          let whole : text ≡ codes " " ++ (k.front ++ k.behind) =
          strip_found (codes " ") text more e ∙ ap (λ xs. codes " " ++ xs) r.0 in
          subst (λ xs. Means before (codes "#lang" ++ xs) (spaced_language (Some more))) (sym whole)
          (spaced_means before k.front k.behind l r.1 (ends_name k.behind r.2))
    ] refl

pub language_means : (before : List Kind) (text : List ℕ) →
    Means before (codes "#lang" ++ text) (language_item (language_may_stand before) text)
language_means before text =
    elim (language_may_stand before) as (λ t. language_may_stand before ≡ t →
    Means before (codes "#lang" ++ text) (language_item t text)) [
      | true ↦ λ e. may_stand_means before text e
      | false ↦ λ e. (refl, (text, refl))
    ] refl
