-- Where a run ends: the reader's cut is that of the definitions.
use Rattle.std.proofs.Common.{◌≡◌, ℕ, ◌⊎◌, inl, inr, cond, not, Bool, true, false, Option, Some, None, List, [], ◌∷◌, ◌++◌, refl, sym, ap, ◌∙◌, subst, eqb}
use Rattle.std.specs.List.{AllByRecursion, concat}
use Rattle.std.proofs.lemmas.Bool.{eqb-true, eqb-false, ne_eqb, not-true, not_from_false}
use Rattle.std.proofs.lemmas.List.{append_assoc, append-nil}
use Rattle.rf_base_grammar.specs.Characters.{Each, is_white, is_delimiter, MadeOf}
use Rattle.rf_base_grammar.specs.Runs.{backslash, bar, IsRunPart}
use Rattle.rf_base_grammar.specs.Spelled.{EndsOrDelimits}
use Rattle.rf_base_grammar.specs.Unreadable.{IsOpenRun}
use Rattle.rf_base_grammar.specs.Cuts.{Cut, cut, also, Quoting, Bare, Escaped, Barred, quoting_behind, barred_behind, unless_ended, run_cut}

-- more at the front of a cut
abbrev pub prepend : List ℕ → Option Cut → Option Cut
prepend text None = None
prepend text (Some k) = Some (cut (text ++ k.front) k.behind)

pub also_some : (c : ℕ) (o : Option Cut) (k : Cut) → also c o ≡ Some k →
    (j : Cut) × (o ≡ Some j) × (k ≡ cut (c ∷ j.front) j.behind)
also_some c None k h = absurd cc
also_some c (Some j) k h = (j, refl, cc)

pub also_none : (c : ℕ) (o : Option Cut) → also c o ≡ None → o ≡ None
also_none c None h = refl
also_none c (Some j) h = absurd cc

pub prepend-also : (c : ℕ) (text : List ℕ) (o : Option Cut) → also c (prepend text o) ≡ prepend (c ∷ text) o
prepend-also c text None = refl
prepend-also c text (Some k) = refl

pub prepend-one : (c : ℕ) (o : Option Cut) → also c o ≡ prepend (c ∷ []) o
prepend-one c None = refl
prepend-one c (Some k) = refl

pub prepend-append : (xs ys : List ℕ) (o : Option Cut) → prepend xs (prepend ys o) ≡ prepend (xs ++ ys) o
prepend-append xs ys None = refl
prepend-append xs ys (Some k) = ap (λ zs. Some (cut zs k.behind)) (sym (append_assoc xs ys k.front))

-- whether a character is no bar
abbrev is_no_bar : ℕ → Bool
is_no_bar c = not (eqb c bar)

-- what bars enclose, up to the second bar
barred_cut : (inner text : List ℕ) → Each is_no_bar inner →
    run_cut Barred (inner ++ bar ∷ text) ≡ prepend (inner ++ bar ∷ []) (run_cut Bare text)
unfolding run_cut
barred_cut [] text h = prepend-one bar (run_cut Bare text)
barred_cut (c ∷ inner) text h =
    rw (not-true (eqb c bar) h.0) (ap (λ o. also c o) (barred_cut inner text h.1)
    ∙ prepend-also c (inner ++ bar ∷ []) (run_cut Bare text))

barred_open : (inner : List ℕ) → Each is_no_bar inner → run_cut Barred inner ≡ None
unfolding run_cut
barred_open [] h = refl
barred_open (c ∷ inner) h = rw (not-true (eqb c bar) h.0) (ap (λ o. also c o) (barred_open inner h.1))

-- one part of a run
part_cut : (part text : List ℕ) → IsRunPart part → run_cut Bare (part ++ text) ≡ prepend part (run_cut Bare text)
unfolding run_cut is_delimiter is_white
part_cut part text (inl h) =
    rw (h.1, h.2, ne_eqb h.0 backslash h.3, ne_eqb h.0 bar h.4) (prepend-one h.0 (run_cut Bare text))
part_cut part text (inr (inl h)) =
    rw h.1 (ap (λ o. also backslash o) (prepend-one h.0 (run_cut Bare text))
    ∙ prepend-also backslash (h.0 ∷ []) (run_cut Bare text))
part_cut part text (inr (inr h)) =
    rw (h.1, append_assoc h.0 (bar ∷ []) text)
    (ap (λ o. also bar o) (barred_cut h.0 text h.2) ∙ prepend-also bar (h.0 ++ bar ∷ []) (run_cut Bare text))

-- the parts of a run, and what is behind them
parts_cut : (parts : List (List ℕ)) (text : List ℕ) → AllByRecursion IsRunPart parts →
    run_cut Bare (concat parts ++ text) ≡ prepend (concat parts) (run_cut Bare text)
parts_cut [] text h =
    elim (run_cut Bare text) as (λ o. o ≡ prepend [] o) [ None ↦ refl | Some k ↦ refl ]
parts_cut (part ∷ parts) text h =
    ap (λ xs. run_cut Bare xs) (append_assoc part (concat parts) text)
    ∙ part_cut part (concat parts ++ text) h.0
    ∙ ap (λ o. prepend part o) (parts_cut parts text h.1)
    ∙ prepend-append part (concat parts) (run_cut Bare text)

run_cut_nothing : (behind : List ℕ) → EndsOrDelimits behind → run_cut Bare behind ≡ Some (cut [] behind)
unfolding run_cut
run_cut_nothing [] h = refl
run_cut_nothing (c ∷ behind) h = rw h refl

-- a run is cut off at its end
pub run_cut_parts : (front behind : List ℕ) → MadeOf IsRunPart front → EndsOrDelimits behind →
    run_cut Bare (front ++ behind) ≡ Some (cut front behind)
run_cut_parts front behind h e =
    rw h.2 (parts_cut h.0 behind h.1 ∙ ap (λ o. prepend (concat h.0) o) (run_cut_nothing behind e)
    ∙ ap (λ xs. Some (cut xs behind)) (append-nil (concat h.0)))

-- an open run is no run
pub run_cut_open : (text : List ℕ) → IsOpenRun text → run_cut Bare text ≡ None
unfolding run_cut is_delimiter is_white
run_cut_open text h =
    let read = h.3 in
    let behind : run_cut Bare h.1 ≡ None = left_open h.1 h.4 in
    rw (h.2, read.2) (parts_cut read.0 h.1 read.1 ∙ ap (λ o. prepend (concat read.0) o) behind)
  where
    left_open : (left : List ℕ) →
        (left ≡ backslash ∷ []) ⊎ ((inner : List ℕ) × (left ≡ bar ∷ inner) × Each is_no_bar inner) →
        run_cut Bare left ≡ None
    left_open left (inl e) = rw e refl
    left_open left (inr b) = rw b.1 (ap (λ o. also bar o) (barred_open b.0 b.2))

-- what is left of a run, by how its next character is read
abbrev Reads : Quoting → List ℕ → Type 0
Reads Bare text = MadeOf IsRunPart text
Reads Escaped text = (c : ℕ) × (more : List ℕ) × (text ≡ c ∷ more) × MadeOf IsRunPart more
Reads Barred text =
    (inner : List ℕ) × (more : List ℕ) × (text ≡ inner ++ bar ∷ more) × Each is_no_bar inner × MadeOf IsRunPart more

-- one more part in front
one_more : (part more : List ℕ) → IsRunPart part → MadeOf IsRunPart more → MadeOf IsRunPart (part ++ more)
one_more part more p m = (part ∷ m.0, (p, m.1), ap (λ xs. part ++ xs) m.2)

reads_bare : (c : ℕ) (more : List ℕ) → is_delimiter c ≡ false → Reads (quoting_behind c) more →
    MadeOf IsRunPart (c ∷ more)
reads_bare c more d r =
    elim (eqb c backslash) as (λ b. eqb c backslash ≡ b → Reads (cond b Escaped (cond (eqb c bar) Barred Bare)) more →
    MadeOf IsRunPart (c ∷ more)) [
      | true ↦ λ e r.
          let same : c ≡ backslash = eqb-true c backslash e in
          rw (r.2, same) (one_more (backslash ∷ r.0 ∷ []) r.1 (inr (inl (r.0, refl))) r.3)
      | false ↦ λ e r.
          elim (eqb c bar) as (λ b. eqb c bar ≡ b → Reads (cond b Barred Bare) more → MadeOf IsRunPart (c ∷ more)) [
            | true ↦ λ f r.
                let same : c ≡ bar = eqb-true c bar f in
                let part : IsRunPart (bar ∷ (r.0 ++ bar ∷ [])) = inr (inr (r.0, refl, r.3)) in
                rw (r.2, same) (subst (λ xs. MadeOf IsRunPart (bar ∷ xs)) (append_assoc r.0 (bar ∷ []) r.1)
                (one_more (bar ∷ (r.0 ++ bar ∷ [])) r.1 part r.4))
            | false ↦ λ f r. one_more (c ∷ []) more (inl (c, refl, d, eqb-false c backslash e, eqb-false c bar f)) r
          ] refl r
    ] refl r

reads_barred : (c : ℕ) (more : List ℕ) → Reads (barred_behind c) more → Reads Barred (c ∷ more)
reads_barred c more r =
    elim (eqb c bar) as (λ b. eqb c bar ≡ b → Reads (cond b Bare Barred) more → Reads Barred (c ∷ more)) [
      | true ↦ λ e r. ([], more, ap (λ d. d ∷ more) (eqb-true c bar e), tt, r)
      | false ↦ λ e r. (c ∷ r.0, r.1, ap (λ xs. c ∷ xs) r.2, (not_from_false (eqb c bar) e, r.3), r.4)
    ] refl r

-- what is cut off as a run is one, and ends there
abbrev IsRunCut : Quoting → List ℕ → Cut → Type 0
IsRunCut q text k = (text ≡ k.front ++ k.behind) × Reads q k.front × EndsOrDelimits k.behind

-- one character more, where what it leaves is read so
longer : (q r : Quoting) (c : ℕ) (text : List ℕ) (k : Cut) → ((j : Cut) → run_cut q text ≡ Some j → IsRunCut q text j) →
    ((more : List ℕ) → Reads q more → Reads r (c ∷ more)) → also c (run_cut q text) ≡ Some k → IsRunCut r (c ∷ text) k
longer q r c text k rest more h =
    let a = also_some c (run_cut q text) k h in
    let j = rest a.0 a.1 in
    rw a.2 (ap (λ xs. c ∷ xs) j.0, more a.0.front j.1, j.2)

run_cut_reads : (q : Quoting) (text : List ℕ) (k : Cut) → run_cut q text ≡ Some k → IsRunCut q text k
unfolding run_cut
run_cut_reads Bare [] k h = let same : k ≡ cut [] [] = cc in rw same (refl, ([], tt, refl), tt)
run_cut_reads Escaped [] k h = absurd cc
run_cut_reads Barred [] k h = absurd cc
run_cut_reads Bare (c ∷ text) k h =
    elim (is_delimiter c) as (λ b. is_delimiter c ≡ b →
    unless_ended b c text (run_cut (quoting_behind c) text) ≡ Some k → IsRunCut Bare (c ∷ text) k) [
      | true ↦ λ e h. let same : k ≡ cut [] (c ∷ text) = cc in rw same (refl, ([], tt, refl), e)
      | false ↦
          λ e h. longer (quoting_behind c) Bare c text k (λ j. run_cut_reads (quoting_behind c) text j)
          (λ more. reads_bare c more e) h
    ] refl h
run_cut_reads Escaped (c ∷ text) k h =
    longer Bare Escaped c text k (λ j. run_cut_reads Bare text j) (λ more r. (c, more, refl, r)) h
run_cut_reads Barred (c ∷ text) k h =
    longer (barred_behind c) Barred c text k (λ j. run_cut_reads (barred_behind c) text j)
    (λ more. reads_barred c more) h

pub run_cut_found : (text : List ℕ) (k : Cut) → run_cut Bare text ≡ Some k →
    (text ≡ k.front ++ k.behind) × MadeOf IsRunPart k.front × EndsOrDelimits k.behind
run_cut_found text k h = run_cut_reads Bare text k h

-- what is left of an open run, by how its next character is read
abbrev OpenReads : Quoting → List ℕ → Type 0
OpenReads Bare text = IsOpenRun text
OpenReads Escaped text = (text ≡ []) ⊎ ((c : ℕ) × (more : List ℕ) × (text ≡ c ∷ more) × IsOpenRun more)
OpenReads Barred text =
    Each is_no_bar text
    ⊎ ((inner : List ℕ) × (more : List ℕ) × (text ≡ inner ++ bar ∷ more) × Each is_no_bar inner × IsOpenRun more)

-- one more part in front of an open run
open_more : (part more : List ℕ) → IsRunPart part → IsOpenRun more → IsOpenRun (part ++ more)
open_more part more p o =
    (part ++ o.0, o.1, ap (λ xs. part ++ xs) o.2 ∙ sym (append_assoc part o.0 o.1), one_more part o.0 p o.3, o.4)

open_bare : (c : ℕ) (more : List ℕ) → is_delimiter c ≡ false → OpenReads (quoting_behind c) more → IsOpenRun (c ∷ more)
open_bare c more d r =
    elim (eqb c backslash) as (λ b. eqb c backslash ≡ b →
    OpenReads (cond b Escaped (cond (eqb c bar) Barred Bare)) more → IsOpenRun (c ∷ more)) [
      | true ↦ λ e r. rw (eqb-true c backslash e) (escaped more r)
      | false ↦ λ e r.
          elim (eqb c bar) as (λ b. eqb c bar ≡ b → OpenReads (cond b Barred Bare) more → IsOpenRun (c ∷ more)) [
            | true ↦ λ f r. rw (eqb-true c bar f) (barred more r)
            | false ↦ λ f r. open_more (c ∷ []) more (inl (c, refl, d, eqb-false c backslash e, eqb-false c bar f)) r
          ] refl r
    ] refl r
  where
    escaped : (more : List ℕ) → OpenReads Escaped more → IsOpenRun (backslash ∷ more)
    escaped more (inl e) = ([], backslash ∷ [], ap (λ xs. backslash ∷ xs) e, ([], tt, refl), inl refl)
    escaped more (inr r) = rw r.2 (open_more (backslash ∷ r.0 ∷ []) r.1 (inr (inl (r.0, refl))) r.3)

    barred : (more : List ℕ) → OpenReads Barred more → IsOpenRun (bar ∷ more)
    barred more (inl e) = ([], bar ∷ more, refl, ([], tt, refl), inr (more, refl, e))
    barred more (inr r) =
        let part : IsRunPart (bar ∷ (r.0 ++ bar ∷ [])) = inr (inr (r.0, refl, r.3)) in
        rw r.2 (subst (λ xs. IsOpenRun (bar ∷ xs)) (append_assoc r.0 (bar ∷ []) r.1)
        (open_more (bar ∷ (r.0 ++ bar ∷ [])) r.1 part r.4))

open_barred : (c : ℕ) (more : List ℕ) → OpenReads (barred_behind c) more → OpenReads Barred (c ∷ more)
open_barred c more r =
    elim (eqb c bar) as (λ b. eqb c bar ≡ b → OpenReads (cond b Bare Barred) more → OpenReads Barred (c ∷ more)) [
      | true ↦ λ e r. inr ([], more, ap (λ d. d ∷ more) (eqb-true c bar e), tt, r)
      | false ↦ λ e r. still e r
    ] refl r
  where
    still : eqb c bar ≡ false → OpenReads Barred more → OpenReads Barred (c ∷ more)
    still e (inl all) = inl (not_from_false (eqb c bar) e, all)
    still e (inr r) = inr (c ∷ r.0, r.1, ap (λ xs. c ∷ xs) r.2, (not_from_false (eqb c bar) e, r.3), r.4)

run_cut_none : (q : Quoting) (text : List ℕ) → run_cut q text ≡ None → OpenReads q text
unfolding run_cut
run_cut_none Bare [] h = absurd cc
run_cut_none Escaped [] h = inl refl
run_cut_none Barred [] h = inl tt
run_cut_none Bare (c ∷ text) h =
    elim (is_delimiter c) as (λ b. is_delimiter c ≡ b → unless_ended b c text (run_cut (quoting_behind c) text) ≡ None →
    IsOpenRun (c ∷ text)) [
      | true ↦ λ e h. absurd cc
      | false ↦
          λ e h. open_bare c text e (run_cut_none (quoting_behind c) text
          (also_none c (run_cut (quoting_behind c) text) h))
    ] refl h
run_cut_none Escaped (c ∷ text) h = inr (c, text, refl, run_cut_none Bare text (also_none c (run_cut Bare text) h))
run_cut_none Barred (c ∷ text) h =
    open_barred c text (run_cut_none (barred_behind c) text (also_none c (run_cut (barred_behind c) text) h))

-- where no run is cut off an open run stands
pub run_cut_is_open : (text : List ℕ) → run_cut Bare text ≡ None → IsOpenRun text
run_cut_is_open text h = run_cut_none Bare text h
