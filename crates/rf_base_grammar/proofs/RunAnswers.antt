-- What the reader's answers for runs mean.
use Rattle.std.proofs.Common.{◌≡◌, length-append, ℕ, ◌⊎◌, ◌&&◌, inl, inr, cond, not, Bool, true, false, Some, None, List, [], ◌∷◌, ◌++◌, length, refl, sym, ap, ◌∙◌, subst, eqb, arith}
use Rattle.std.specs.Prelude.{codes}
use Rattle.std.specs.List.{AllByRecursion, list_any}
use Rattle.std.specs.Char.{is_ascii_digit}
use Rattle.std.specs.Str.{bytes_eq}
use Rattle.std.proofs.lemmas.Bool.{eqb-true, both_ways, and_parts, or_cases, or_parts, not-true, not-false, false≢true, leb-true}
use Rattle.std.proofs.lemmas.List.{append_assoc, append-nil}
use Rattle.rf_base_grammar.specs.Characters.{Each, is_white, punctuation, is_delimiter, BeginsWith, IsOneOf, MadeOf}
use Rattle.rf_base_grammar.specs.Runs.{hash, IsRunPart, IsShortNumber, booleans, atom_beginnings, BeginsWithOneOf, IsAtomRun}
use Rattle.rf_base_grammar.specs.Strings.{quote, string_heads}
use Rattle.rf_base_grammar.specs.Spelled.{opening, opener_heads, IsOpenerHead, unquotes, EndsOrDelimits}
use Rattle.rf_base_grammar.specs.Unreadable.{first_beginnings, IsOpenBar, BeginsMark}
use Rattle.rf_base_grammar.specs.Cuts.{cut, span, Bare, run_cut, string_cut}
use Rattle.rf_base_grammar.specs.Reader.{Answer, Found, Wrong, Reading, strip, begins, among, is_short, is_number_word, is_atom_run, is_opener_head, opened_by, string_item, opener_item, string_behind, headed_item, atom_item, run_item, label_behind, label_item, readings}
use Rattle.rf_base_grammar.specs.declared.kinds.Bracket.{Bracket}
use Rattle.rf_base_grammar.specs.declared.kinds.Bracket.TheVariants.{Round, Square, Curly}
use Rattle.rf_base_grammar.specs.declared.kinds.Kind.{Kind}
use Rattle.rf_base_grammar.specs.declared.kinds.Kind.TheVariants.{Opener}
use Rattle.rf_base_grammar.specs.declared.refusals.LexKind.TheVariants.{BadHash}
use Rattle.rf_base_grammar.proofs.Words.{strip_found, begins_found, not_begins, same_found, same_from, among_found, begins_among_found}
use Rattle.rf_base_grammar.proofs.Spans.{span_parts}
use Rattle.rf_base_grammar.proofs.RunCuts.{run_cut_parts, run_cut_open, run_cut_found, run_cut_is_open}
use Rattle.rf_base_grammar.proofs.StringCuts.{string_cut_found}
use Rattle.rf_base_grammar.proofs.Answers.{Means}

short_found : (digits : List ℕ) → Each is_ascii_digit digits → is_short digits ≡ true → IsShortNumber digits
short_found digits d h =
    let both = and_parts _ _ h in
    (d, leb-true 1 (length digits) both.0, leb-true (length digits) 8 both.1)

-- what is told to be a hash sign, a number and an end is that
number_word_found : (end run : List ℕ) → is_number_word end run ≡ true →
    (digits : List ℕ) × (run ≡ hash ∷ (digits ++ end)) × IsShortNumber digits
number_word_found end [] h = absurd (false≢true h)
number_word_found end (c ∷ text) h =
    let first = and_parts _ _ h in
    let second = and_parts _ _ first.1 in
    let k = span is_ascii_digit text in
    let r = span_parts is_ascii_digit text in
    let whole : text ≡ k.front ++ end = r.0 ∙ ap (λ xs. k.front ++ xs) (sym (same_found end k.behind second.1)) in (
      k.front,
      ap (λ d. d ∷ text) (eqb-true c hash first.0)
          ∙ ap (λ xs. hash ∷ xs) whole,
      short_found k.front r.1 second.0,
    )

-- what is told to be an atom's run is one
atom_run_found : (run : List ℕ) → is_atom_run run ≡ true → (run ≡ codes "." → ⊥) → IsAtomRun run
atom_run_found run h n =
    elim (or_cases _ _ h) [
      | inl a ↦ inl (not_begins (codes "#") run (not-true (begins (codes "#") run) (and_parts _ _ a).1), n)
      | inr r ↦ elim (or_cases _ _ r) [
        | inl b ↦ inr (inl (among_found booleans run b))
        | inr s ↦ elim (or_cases _ _ s) [
          | inl b ↦ inr (inr (inl (begins_among_found atom_beginnings run b)))
          | inr w ↦ inr (inr (inr (number_word_found (codes "#") run w)))
        ]
      ]
    ]

opener_head_found : (run : List ℕ) → is_opener_head run ≡ true → IsOpenerHead run
opener_head_found run h =
    elim (or_cases _ _ h) [
      | inl a ↦ inl (among_found opener_heads run a)
      | inr w ↦ let r = number_word_found [] run w in inr (r.0, r.1 ∙ ap (λ xs. hash ∷ xs) (append-nil r.0), r.2)
    ]

opened_found : (c : ℕ) (b : Bracket) → opened_by c ≡ Some b → c ≡ opening b
opened_found c b h =
    elim (eqb c 40) as (λ t. eqb c 40 ≡ t →
    cond t (Some Round) (cond (eqb c 91) (Some Square) (cond (eqb c 123) (Some Curly) None)) ≡ Some b → c ≡ opening b) [
      | true ↦ λ e h. let same : Round ≡ b = cc in eqb-true c 40 e ∙ ap opening same
      | false ↦ λ e h.
          elim (eqb c 91) as (λ t. eqb c 91 ≡ t → cond t (Some Square) (cond (eqb c 123) (Some Curly) None) ≡ Some b →
          c ≡ opening b) [
            | true ↦ λ e h. let same : Square ≡ b = cc in eqb-true c 91 e ∙ ap opening same
            | false ↦ λ e h.
                elim (eqb c 123) as (λ t. eqb c 123 ≡ t → cond t (Some Curly) None ≡ Some b → c ≡ opening b) [
                  | true ↦ λ e h. let same : Curly ≡ b = cc in eqb-true c 123 e ∙ ap opening same
                  | false ↦ λ e h. absurd cc
                ] refl h
          ] refl h
    ] refl h

-- a string, behind its head and opening quote
string_means : (before : List Kind) (head text : List ℕ) → IsOneOf string_heads head →
    Means before (head ++ quote ∷ text) (string_item (head ++ quote ∷ []) (string_cut false text))
string_means before head text h =
    elim (string_cut false text) as (λ o. string_cut false text ≡ o →
    Means before (head ++ quote ∷ text) (string_item (head ++ quote ∷ []) o)) [
      | None ↦ λ e. (refl, (head, h, (text, sym (append_assoc head (quote ∷ []) text))))
      | Some k ↦ λ e.
          let r = string_cut_found text k e in
          let spelling = (head ++ quote ∷ []) ++ (k.front ++ quote ∷ []) in
          let shape : spelling ≡ head ++ quote ∷ (k.front ++ quote ∷ []) =
          append_assoc head (quote ∷ []) (k.front ++ quote ∷ []) in
          record {
            text_is =
                ap (λ xs. head ++ quote ∷ xs) (r.0 ∙ sym (append_assoc k.front (quote ∷ []) k.behind))
                ∙ sym (ap (λ xs. xs ++ k.behind) shape ∙ append_assoc head (quote ∷ (k.front ++ quote ∷ [])) k.behind);
            spelled = (head, k.front, shape, h, r.1);
            follows = tt;
            stands = tt;
          }
    ] refl

-- a run and a quote, or a hash sign that begins nothing
string_behind_means : (before : List Kind) (run : List ℕ) (c : ℕ) (behind : List ℕ) →
    Means before (run ++ c ∷ behind) (Wrong BadHash []) →
    Means before (run ++ c ∷ behind) (string_behind (eqb c quote && among string_heads run) run behind)
string_behind_means before run c behind b =
    elim (eqb c quote && among string_heads run) as
    (λ t. (eqb c quote && among string_heads run) ≡ t → Means before (run ++ c ∷ behind) (string_behind t run behind)) [
      | true ↦ λ e.
          let both = and_parts _ _ e in
          let same : c ≡ quote = eqb-true c quote both.0 in
          rw same (string_means before run behind (among_found string_heads run both.1))
      | false ↦ λ e. b
    ] refl

-- a run that is no atom, and what is behind it
opener_item_means : (before : List Kind) (run : List ℕ) (c : ℕ) (behind : List ℕ) (other : Answer) →
    Means before (run ++ c ∷ behind) other →
    Means before (run ++ c ∷ behind) (opener_item (opened_by c) (is_opener_head run) run c behind other)
opener_item_means before run c behind other m =
    elim (opened_by c) as (λ o. opened_by c ≡ o →
    Means before (run ++ c ∷ behind) (opener_item o (is_opener_head run) run c behind other)) [
      | None ↦ λ e. m
      | Some b ↦ λ e.
          elim (is_opener_head run) as (λ t. is_opener_head run ≡ t →
          Means before (run ++ c ∷ behind) (opener_item (Some b) t run c behind other)) [
            | false ↦ λ f. m
            | true ↦ λ f. record {
              text_is = sym (append_assoc run (c ∷ []) behind);
              spelled = (run, ap (λ d. run ++ d ∷ []) (opened_found c b e), opener_head_found run f);
              follows = tt;
              stands = tt;
            }
          ] refl
    ] refl

headed_means : (before : List Kind) (run behind : List ℕ) → Means before (run ++ behind) (Wrong BadHash []) →
    Means before (run ++ behind) (headed_item run behind)
headed_means before run [] b = b
headed_means before run (c ∷ behind) b =
    opener_item_means before run c behind _ (string_behind_means before run c behind b)

-- the character is one of these
abbrev IsOneMark : List ℕ → ℕ → Type 0
IsOneMark [] c = ⊥
IsOneMark (m ∷ marks) c = (c ≡ m) ⊎ IsOneMark marks c

mark_found : (marks : List ℕ) (c : ℕ) → list_any (λ m. eqb c m) marks ≡ true → IsOneMark marks c
mark_found [] c h = absurd (false≢true h)
mark_found (m ∷ marks) c h =
    elim (or_cases _ _ h) [ inl e ↦ inl (eqb-true c m e) | inr r ↦ inr (mark_found marks c r) ]

-- no word that is looked for before runs begins the text
abbrev pub IsUntaken : Bool → List ℕ → Type 0
IsUntaken language text = AllByRecursion (λ (r : Reading). BeginsWith r.word text → ⊥) (readings language)

-- an opening bracket by itself
bracket_means : (before : List Kind) (b : Bracket) (text : List ℕ) →
    Means before (opening b ∷ text) (Found (Opener b) (opening b ∷ []) text)
bracket_means before b text = record { text_is = refl; spelled = ([], refl, inl (inl refl)); follows = tt; stands = tt }

-- a text that begins with punctuation and with no such word begins with an opening bracket or a quote
mark_means : (before : List Kind) (language : Bool) (c : ℕ) (text : List ℕ) → IsUntaken language (c ∷ text) →
    IsOneMark punctuation c → Means before (c ∷ text) (headed_item [] (c ∷ text))
mark_means before language c text u (inl e) =
    subst (λ d. Means before (d ∷ text) (headed_item [] (d ∷ text))) (sym e) (bracket_means before Round text)
mark_means before language c text u (inr (inl e)) = absurd (u.1.1.1.1.1.1.1.1.1.1.1.0 (text, ap (λ d. d ∷ text) e))
mark_means before language c text u (inr (inr (inl e))) =
    subst (λ d. Means before (d ∷ text) (headed_item [] (d ∷ text))) (sym e) (bracket_means before Square text)
mark_means before language c text u (inr (inr (inr (inl e)))) = absurd (u.1.1.1.1.1.1.1.1.1.1.1.1.0 (
  text,
  ap (λ d. d ∷ text) e,
))
mark_means before language c text u (inr (inr (inr (inr (inl e))))) =
    subst (λ d. Means before (d ∷ text) (headed_item [] (d ∷ text))) (sym e) (bracket_means before Curly text)
mark_means before language c text u (inr (inr (inr (inr (inr (inl e)))))) = absurd (u.1.1.1.1.1.1.1.1.1.1.1.1.1.0 (
  text,
  ap (λ d. d ∷ text) e,
))
mark_means before language c text u (inr (inr (inr (inr (inr (inr (inl e))))))) =
    subst (λ d. Means before (d ∷ text) (headed_item [] (d ∷ text))) (sym e) (string_means before [] text (inl refl))
mark_means before language c text u (inr (inr (inr (inr (inr (inr (inr (inl e)))))))) =
    absurd (u.1.1.1.1.1.1.1.1.1.1.1.1.1.1.1.1.1.0 (text, ap (λ d. d ∷ text) e))
mark_means before language c text u (inr (inr (inr (inr (inr (inr (inr (inr (inl e))))))))) =
    absurd (u.1.1.1.1.1.1.1.1.1.1.1.1.1.1.0 (text, ap (λ d. d ∷ text) e))
mark_means before language c text u (inr (inr (inr (inr (inr (inr (inr (inr (inr (inl e)))))))))) =
    absurd (u.1.1.1.1.1.1.1.1.1.1.1.1.1.1.1.0 (text, ap (λ d. d ∷ text) e))
mark_means before language c text u (inr (inr (inr (inr (inr (inr (inr (inr (inr (inr (inl e))))))))))) =
    absurd (u.1.1.1.1.1.1.1.1.1.1.1.1.1.1.1.1.1.1.0 (text, ap (λ d. d ∷ text) e))
mark_means before language c text u (inr (inr (inr (inr (inr (inr (inr (inr (inr (inr (inr (x)))))))))))) = absurd x

mark_of : (c : ℕ) → is_delimiter c ≡ true → is_white c ≡ false → IsOneMark punctuation c
unfolding is_delimiter
mark_of c d w =
    elim (or_cases _ _ d) [
      | inl e ↦ absurd (both_ways (is_white c) w e)
      | inr e ↦ mark_found punctuation c e
    ]

-- a run that is no atom begins with a hash sign, where it holds something
no_atom_begins : (c : ℕ) (run : List ℕ) → is_atom_run (c ∷ run) ≡ false → BeginsWith (codes "#") (c ∷ run)
no_atom_begins c run h =
    begins_found (codes "#") (c
    ∷ run) (not-false (begins (codes "#") (c ∷ run)) (or_parts (not (begins (codes "#") (c ∷ run))) _ h).0)

-- a run that ends is no open one
no_open : (run behind : List ℕ) → MadeOf IsRunPart run → EndsOrDelimits behind → IsOpenBar (run ++ behind) → ⊥
no_open run behind p e o =
    let none : run_cut Bare (run ++ behind) ≡ None = run_cut_open (run ++ behind) o.0 in
    let some : run_cut Bare (run ++ behind) ≡ Some (cut run behind) = run_cut_parts run behind p e in
    cc

begins_longer : (word run behind : List ℕ) → BeginsWith word run → BeginsWith word (run ++ behind)
begins_longer word run behind b = (b.0 ++ behind, ap (λ xs. xs ++ behind) b.1 ∙ append_assoc word b.0 behind)

no_atom_means : (before : List Kind) (language : Bool) (run behind : List ℕ) → BeginsMark (run ++ behind) →
    MadeOf IsRunPart run → EndsOrDelimits behind → IsUntaken language (run ++ behind) → is_atom_run run ≡ false →
    Means before (run ++ behind) (headed_item run behind)
no_atom_means before language [] [] m p e u h = absurd m
no_atom_means before language [] (c ∷ behind) m p e u h = mark_means before language c behind u (mark_of c e m)
no_atom_means before language (c ∷ run) behind m p e u h =
    headed_means before (c ∷ run) behind (
      refl,
      (begins_longer (codes "#") (c ∷ run) behind (no_atom_begins c run h), no_open (c ∷ run) behind p e, u.1.1.1.1.0),
    )

atom_something : (run : List ℕ) → is_atom_run run ≡ true → run ≡ [] → ⊥
atom_something [] h e = false≢true h
atom_something (c ∷ run) h e = cc

atom_item_means : (before : List Kind) (language : Bool) (run behind : List ℕ) → BeginsMark (run ++ behind) →
    MadeOf IsRunPart run → EndsOrDelimits behind → IsUntaken language (run ++ behind) →
    Means before (run ++ behind) (atom_item (bytes_eq run (codes ".")) (is_atom_run run) run behind)
atom_item_means before language run behind m p e u =
    elim (bytes_eq run (codes ".")) as (λ t. bytes_eq run (codes ".") ≡ t →
    Means before (run ++ behind) (atom_item t (is_atom_run run) run behind)) [
      | true ↦ λ f. record { text_is = refl; spelled = same_found run (codes ".") f; follows = e; stands = tt }
      | false ↦ λ f.
          elim (is_atom_run run) as (λ t. is_atom_run run ≡ t →
          Means before (run ++ behind) (atom_item false t run behind)) [
            | true ↦ λ g. record {
              text_is = refl;
              spelled = inl (
                (atom_something run g, p),
                atom_run_found run g (λ d. both_ways (bytes_eq run (codes ".")) f (same_from run (codes ".") d)),
              );
              follows = e;
              stands = tt;
            }
            | false ↦ λ g. no_atom_means before language run behind m p e u g
          ] refl
    ] refl

-- none of the beginnings that are looked at before quoting begins the text
no_first : (language : Bool) (text : List ℕ) → IsUntaken language text → BeginsWithOneOf first_beginnings text → ⊥
no_first language text u (inl b) = u.0 b
no_first language text u (inr (inl b)) = u.1.0 b
no_first language text u (inr (inr (inl b))) = u.1.1.0 b
no_first language text u (inr (inr (inr (inl b)))) = u.1.1.1.0 b
no_first language text u (inr (inr (inr (inr (inl b))))) = u.1.1.1.1.0 b
no_first language text u (inr (inr (inr (inr (inr x))))) = x

pub run_means : (before : List Kind) (language : Bool) (text : List ℕ) → BeginsMark text → IsUntaken language text →
    Means before text (run_item (run_cut Bare text))
run_means before language text m u =
    elim (run_cut Bare text) as (λ o. run_cut Bare text ≡ o → Means before text (run_item o)) [
      | None ↦ λ e. (refl, (run_cut_is_open text e, no_first language text u))
      | Some k ↦ λ e.
          let r = run_cut_found text k e in
          subst (λ xs. Means before xs (run_item (Some k))) (sym r.0)
          (atom_item_means before language k.front k.behind (subst BeginsMark r.0 m) r.1 r.2
          (subst (IsUntaken language) r.0 u))
    ] refl

-- a label is no unquote
no_comma : (digits : List ℕ) → hash ∷ (digits ++ codes "=") ≡ codes "," → ⊥
no_comma digits e = cc

no_hash_comma : (digits : List ℕ) → IsShortNumber digits → hash ∷ (digits ++ codes "=") ≡ codes "#," → ⊥
no_hash_comma digits h e =
    let lengths : length (hash ∷ (digits ++ codes "=")) ≡ 2 = ap length e in
    omega (arith, h.1, length-append digits (codes "="))

label_no_unquote : (digits : List ℕ) → IsShortNumber digits → IsOneOf unquotes (hash ∷ (digits ++ codes "=")) → ⊥
label_no_unquote digits h (inl e) = no_comma digits e
label_no_unquote digits h (inr (inl e)) = no_hash_comma digits h e
label_no_unquote digits h (inr (inr x)) = x

label_behind_means : (before : List Kind) (digits rest : List ℕ) (other : Answer) → Each is_ascii_digit digits →
    Means before (hash ∷ (digits ++ rest)) other →
    Means before (hash ∷ (digits ++ rest)) (label_behind (is_short digits) digits (strip (codes "=") rest) other)
label_behind_means before digits rest other d m =
    elim (is_short digits) as (λ t. is_short digits ≡ t →
    Means before (hash ∷ (digits ++ rest)) (label_behind t digits (strip (codes "=") rest) other)) [
      | false ↦ λ e. m
      | true ↦ λ e.
          elim (strip (codes "=") rest) as (λ o. strip (codes "=") rest ≡ o →
          Means before (hash ∷ (digits ++ rest)) (label_behind true digits o other)) [
            | None ↦ λ f. m
            | Some behind ↦ λ f.
                let short = short_found digits d e in
                record {
                  text_is =
                      ap (λ xs. hash ∷ (digits ++ xs)) (strip_found (codes "=") rest behind f)
                      ∙ ap (λ xs. hash ∷ xs) (sym (append_assoc digits (codes "=") behind));
                  spelled = inr (digits, refl, short);
                  follows = λ q. absurd (label_no_unquote digits short q);
                  stands = tt;
                }
          ] refl
    ] refl

-- a label, or what else the text means
pub label_means : (before : List Kind) (text : List ℕ) (other : Answer) → Means before text other →
    Means before text (label_item (strip (codes "#") text) other)
label_means before text other m =
    elim (strip (codes "#") text) as (λ o. strip (codes "#") text ≡ o → Means before text (label_item o other)) [
      | None ↦ λ e. m
      | Some more ↦ λ e.
          let r = span_parts is_ascii_digit more in
          let k = span is_ascii_digit more in
          let whole : text ≡ hash ∷ (k.front ++ k.behind) =
          strip_found (codes "#") text more e ∙ ap (λ xs. hash ∷ xs) r.0 in
          subst (λ xs. Means before xs (label_item (Some more) other)) (sym whole)
          (label_behind_means before k.front k.behind other r.1 (subst (λ xs. Means before xs other) whole m))
    ] refl
