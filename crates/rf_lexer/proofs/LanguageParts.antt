-- The parts of a language line.
use Rattle.std.proofs.Common.{◌≡◌, ℕ, Bool, true, false, cond, Option, None, Some, List, [], ◌∷◌, ◌++◌, ◌==◌, ◌||◌, refl, ap, sym, ◌∙◌, append_assoc}
use Rattle.std.specs.Prelude.{codes}
use Rattle.std.proofs.lemmas.Bool.{eqb-true}
use Rattle.rf_base_grammar.specs.Characters.{EndsWith}
use Rattle.rf_base_grammar.specs.LanguageLine.{is_blank, is_path_mark, is_quoted_path_mark}
use Rattle.rf_base_grammar.specs.Cuts.{Cut, cut, span}
use Rattle.rf_base_grammar.specs.Reader.{Wrong, strip, quoted_path, module_path, path_part, path_cut, is_nothing, language_ends_well, breaks, named_language, bad_language, language_item, spaced_language}
use Rattle.rf_base_grammar.specs.declared.refusals.LexKind.TheVariants.{StrayLineEnd}
use Rattle.rf_lexer.proofs.Spans.{span_whole}

-- a text that a character was stripped of begins with it
strip_whole : (c : ℕ) (text rest : List ℕ) → strip (c ∷ []) text ≡ Some rest → text ≡ c ∷ rest
strip_whole c [] rest e = absurd (cc)
strip_whole c (d ∷ text) rest e =
    elim (c == d) as (λ b. (c == d) ≡ b → cond b (Some text) None ≡ Some rest → d ∷ text ≡ c ∷ rest) [
      | true ↦ λ same f. let g = eqb-true c d same in cc
      | false ↦ λ same f. absurd (cc)
    ] refl e

-- a text is its quoted path and what is behind it
quoted_whole : (text inner behind : List ℕ) (k : Option (List ℕ)) → text ≡ 34 ∷ (inner ++ behind) → strip (codes "\"") behind ≡ k → text ≡ (quoted_path text inner k).front ++ (quoted_path text inner k).behind
quoted_whole text inner behind None is e = refl
quoted_whole text inner behind (Some rest) is e =
    is ∙ ap (λ xs. 34 ∷ (inner ++ xs)) (strip_whole 34 behind rest e) ∙ ap (λ xs. 34 ∷ xs) (sym (append_assoc inner (34 ∷ []) rest))

module_whole : (text : List ℕ) (k : Option (List ℕ)) → strip (codes "\"") text ≡ k → text ≡ (module_path text k).front ++ (module_path text k).behind
module_whole text None e = span_whole is_path_mark text
module_whole text (Some inner) e =
    quoted_whole text (span is_quoted_path_mark inner).front (span is_quoted_path_mark inner).behind _
    (strip_whole 34 text inner e ∙ ap (λ xs. 34 ∷ xs) (span_whole is_quoted_path_mark inner)) refl

-- a text ends with what is behind its module path
pub module_ends : (text rest : List ℕ) → rest ≡ (module_path text (strip (codes "\"") text)).behind → EndsWith rest text
module_ends text rest e =
    let k = module_path text (strip (codes "\"") text) in
    (k.front, module_whole text (strip (codes "\"") text) refl ∙ ap (λ xs. k.front ++ xs) (sym e))

part_whole : (text blanks : List ℕ) (path : Cut) → text ≡ blanks ++ (path.front ++ path.behind) → text ≡ (path_part text blanks path).front ++ (path_part text blanks path).behind
part_whole text blanks path e =
    elim (is_nothing blanks || is_nothing path.front) as (λ b. text ≡ (cond b (cut [] text) (cut (blanks ++ path.front) path.behind)).front ++ (cond b (cut [] text) (cut (blanks ++ path.front) path.behind)).behind) [
      | true ↦ refl
      | false ↦ e ∙ sym (append_assoc blanks path.front path.behind)
    ]

-- a text is its module path and what is behind it
pub path_whole : (text : List ℕ) → text ≡ (path_cut text).front ++ (path_cut text).behind
path_whole text =
    let k = span is_blank text in
    let path = module_path k.behind (strip (codes "\"") k.behind) in
    part_whole text k.front path (span_whole is_blank text ∙ ap (λ xs. k.front ++ xs) (module_whole k.behind (strip (codes "\"") k.behind) refl))

-- what a language line that doesn't end well is told as
stray_at : (name : List ℕ) (k : Cut) (end : List ℕ) → (span is_blank k.behind).behind ≡ end → language_ends_well k.front (span is_blank k.behind).front end ≡ false → breaks end ≡ true → named_language name k ≡ Wrong StrayLineEnd (codes "#lang " ++ (name ++ (k.front ++ (span is_blank k.behind).front)))
stray_at name k end e well stray = rw (e, well, stray) refl

bad_at : (name : List ℕ) (k : Cut) (end : List ℕ) → (span is_blank k.behind).behind ≡ end → language_ends_well k.front (span is_blank k.behind).front end ≡ false → breaks end ≡ false → named_language name k ≡ bad_language
bad_at name k end e well stray = rw (e, well, stray) refl

-- the rest of a language line, from what is behind its name
module _ (behind rest end : List ℕ) (rest_is : rest ≡ (path_cut behind).behind) (end_is : end ≡ (span is_blank rest).behind) where
  pub line_parts : behind ≡ (path_cut behind).front ++ ((span is_blank (path_cut behind).behind).front ++ end)
  line_parts =
      let k = path_cut behind in
      path_whole behind ∙ ap (λ xs. k.front ++ xs) (span_whole is_blank k.behind ∙ ap (λ xs. (span is_blank k.behind).front ++ xs) (ap (λ xs. (span is_blank xs).behind) (sym rest_is) ∙ sym end_is))

  pub line_ends : EndsWith end behind
  line_ends =
      let k = path_cut behind in
      (k.front ++ (span is_blank k.behind).front, line_parts ∙ sym (append_assoc k.front (span is_blank k.behind).front end))

  end_behind : (span is_blank (path_cut behind).behind).behind ≡ end
  end_behind = ap (λ xs. (span is_blank xs).behind) (sym rest_is) ∙ sym end_is

  pub line_stray : (name : List ℕ) → language_ends_well (path_cut behind).front (span is_blank (path_cut behind).behind).front end ≡ false → breaks end ≡ true → named_language name (path_cut behind) ≡ Wrong StrayLineEnd (codes "#lang " ++ (name ++ ((path_cut behind).front ++ (span is_blank (path_cut behind).behind).front)))
  line_stray name well stray = stray_at name (path_cut behind) end end_behind well stray

  pub line_bad : (name : List ℕ) → language_ends_well (path_cut behind).front (span is_blank (path_cut behind).behind).front end ≡ false → breaks end ≡ false → named_language name (path_cut behind) ≡ bad_language
  line_bad name well stray = bad_at name (path_cut behind) end end_behind well stray

-- a language line, where it may stand
pub language_is : (language : Bool) (behind : List ℕ) (k : Option (List ℕ)) → language ≡ true → strip (codes " ") behind ≡ k → language_item language behind ≡ spaced_language k
language_is language behind k e s = rw (e, s) refl
