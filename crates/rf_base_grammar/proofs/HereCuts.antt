-- Where a here string ends: the reader's cut is that of the definitions.
use Rattle.std.proofs.Common.{◌≡◌, ℕ, ◌⊎◌, inl, inr, cond, true, false, Option, Some, None, List, [], ◌∷◌, ◌++◌, refl, sym, ap, ◌∙◌, eqb}
use Rattle.std.specs.List.{AllByRecursion}
use Rattle.std.proofs.lemmas.Bool.{eqb-true, eq-eqb, not-true, not_from_false}
use Rattle.std.proofs.lemmas.List.{append_assoc}
use Rattle.rf_base_grammar.specs.Characters.{Each, BeginsWith}
use Rattle.rf_base_grammar.specs.Strings.{is_no_feed, is_no_return, IsOtherLine, ended_lines}
use Rattle.rf_base_grammar.specs.Cuts.{Cut, cut, also, left_behind, LineStep, Feeds, Returns, Goes, line_step, here_step, here_cut}
use Rattle.rf_base_grammar.proofs.Spans.{Each-front, Each-back}
use Rattle.rf_base_grammar.proofs.RunCuts.{prepend, also_some, prepend-also, prepend-one}

-- what holds of each step that a character may be holds of its step
by_step : (c : ℕ) (P : LineStep → Type 0) → (c ≡ 10 → P Feeds) → (c ≡ 13 → P Returns) →
    (is_no_feed c ≡ true → is_no_return c ≡ true → P Goes) → P (line_step c)
by_step c P feeds returns goes =
    elim (eqb c 10) as (λ b. eqb c 10 ≡ b → P (cond b Feeds (cond (eqb c 13) Returns Goes))) [
      | true ↦ λ e. feeds (eqb-true c 10 e)
      | false ↦ λ e.
          elim (eqb c 13) as (λ b. eqb c 13 ≡ b → P (cond b Returns Goes)) [
            | true ↦ λ f. returns (eqb-true c 13 f)
            | false ↦ λ f. goes (not_from_false (eqb c 10) e) (not_from_false (eqb c 13) f)
          ] refl
    ] refl

step_goes : (c : ℕ) → is_no_feed c ≡ true → is_no_return c ≡ true → line_step c ≡ Goes
step_goes c h k = rw (not-true (eqb c 10) h, not-true (eqb c 13) k) refl

here_ends : (terminator : List ℕ) → here_cut terminator (Some []) [] ≡ Some (cut [] [])
unfolding here_cut
here_ends terminator = refl

here_fed : (terminator text : List ℕ) → here_cut terminator (Some []) (10 ∷ text) ≡ Some (cut [] (10 ∷ text))
unfolding here_cut
here_fed terminator text = refl

pub here_goes : (terminator : List ℕ) (left : Option (List ℕ)) (c : ℕ) (text : List ℕ) →
    here_cut terminator left (c ∷ text)
    ≡ here_step (line_step c) terminator left c text (λ l. here_cut terminator l text)
unfolding here_cut
here_goes terminator None c text = refl
here_goes terminator (Some []) c text = refl
here_goes terminator (Some (x ∷ left)) c text = refl

-- the text is at its end or goes on with LF
abbrev pub EndsHere : List ℕ → Type 0
EndsHere text = (text ≡ []) ⊎ BeginsWith (10 ∷ []) text

-- the terminating line
here_last : (terminator line behind : List ℕ) → Each is_no_feed line → Each is_no_return line → EndsHere behind →
    here_cut terminator (Some line) (line ++ behind) ≡ Some (cut line behind)
here_last terminator [] behind h k (inl e) = rw e (here_ends terminator)
here_last terminator [] behind h k (inr b) = rw b.1 (here_fed terminator b.0)
here_last terminator (c ∷ line) behind h k e =
    here_goes terminator (Some (c ∷ line)) c (line ++ behind)
    ∙ rw (step_goes c h.0 k.0, eq-eqb c c refl) (ap (λ o. also c o) (here_last terminator line behind h.1 k.1 e))

-- what is left of the terminator is told by the next character
left_not : (left : Option (List ℕ)) (c : ℕ) (line : List ℕ) → (left ≡ Some (c ∷ line) → ⊥) →
    left_behind left c ≡ Some line → ⊥
left_not None c line n e = cc
left_not (Some []) c line n e = cc
left_not (Some (x ∷ left)) c line n e =
    elim (eqb x c) as (λ b. eqb x c ≡ b → cond b (Some left) None ≡ Some line → ⊥) [
      | true ↦ λ f e. let same : x ≡ c = eqb-true x c f in n cc
      | false ↦ λ f e. cc
    ] refl e

-- another line
here_other : (terminator : List ℕ) (left : Option (List ℕ)) (line text : List ℕ) → (left ≡ Some line → ⊥) →
    Each is_no_feed line → Each is_no_return line →
    here_cut terminator left (line ++ 10 ∷ text)
    ≡ prepend (line ++ 10 ∷ []) (here_cut terminator (Some terminator) text)
here_other terminator None [] text n h k =
    here_goes terminator None 10 text ∙ prepend-one 10 (here_cut terminator (Some terminator) text)
here_other terminator (Some []) [] text n h k = absurd (n refl)
here_other terminator (Some (x ∷ left)) [] text n h k =
    here_goes terminator (Some (x ∷ left)) 10 text ∙ prepend-one 10 (here_cut terminator (Some terminator) text)
here_other terminator left (c ∷ line) text n h k =
    here_goes terminator left c (line ++ 10 ∷ text)
    ∙ rw (step_goes c h.0 k.0)
    (ap (λ o. also c o) (here_other terminator (left_behind left c) line text (left_not left c line n) h.1 k.1)
    ∙ prepend-also c (line ++ 10 ∷ []) (here_cut terminator (Some terminator) text))

some_not : (a b : List ℕ) → (b ≡ a → ⊥) → Some a ≡ Some b → ⊥
some_not a b n e = n cc

-- a here string is cut off at the end of its terminating line
pub here_cut_lines : (terminator : List ℕ) (lines : List (List ℕ)) (behind : List ℕ) → Each is_no_feed terminator →
    AllByRecursion (IsOtherLine terminator) lines → Each is_no_return (ended_lines lines ++ terminator) →
    EndsHere behind →
    here_cut terminator (Some terminator) ((ended_lines lines ++ terminator) ++ behind)
    ≡ Some (cut (ended_lines lines ++ terminator) behind)
here_cut_lines terminator [] behind f h r e = here_last terminator terminator behind f r e
here_cut_lines terminator (line ∷ lines) behind f h r e =
    let rest = ended_lines lines ++ terminator in
    let whole : (ended_lines (line ∷ lines) ++ terminator) ≡ (line ++ 10 ∷ []) ++ rest =
    append_assoc (line ++ 10 ∷ []) (ended_lines lines) terminator in
    let returns : Each is_no_return ((line ++ 10 ∷ []) ++ rest) = rw whole at r in
    let first = Each-front is_no_return line (10 ∷ []) (Each-front is_no_return (line ++ 10 ∷ []) rest returns) in
    rw whole
    (ap (λ xs. here_cut terminator (Some terminator) xs)
    (append_assoc (line ++ 10 ∷ []) rest behind ∙ append_assoc line (10 ∷ []) (rest ++ behind))
    ∙ here_other terminator (Some terminator) line (rest ++ behind) (some_not terminator line h.0.1) h.0.0 first
    ∙ ap (λ o. prepend (line ++ 10 ∷ []) o)
    (here_cut_lines terminator lines behind f h.1 (Each-back is_no_return (line ++ 10 ∷ []) rest returns) e))

-- what is cut off: what is left of the terminating line, or the rest of another line and all up to that line
abbrev IsRestOfLines : List ℕ → Option (List ℕ) → List ℕ → Type 0
IsRestOfLines terminator left front =
    (left ≡ Some front)
    ⊎ ((line : List ℕ) × (lines : List (List ℕ)) × (front ≡ line ++ 10 ∷ (ended_lines lines ++ terminator))
    × (left ≡ Some line → ⊥) × Each is_no_feed line × AllByRecursion (IsOtherLine terminator) lines)

abbrev IsHereCut : List ℕ → Option (List ℕ) → List ℕ → Cut → Type 0
IsHereCut terminator left text k =
    (text ≡ k.front ++ k.behind) × IsRestOfLines terminator left k.front × Each is_no_return k.front × EndsHere k.behind

-- one character is read so, in a step, where the text behind it is
abbrev HereReads : List ℕ → List ℕ → Type 0
HereReads terminator text =
    (left : Option (List ℕ)) (k : Cut) → here_cut terminator left text ≡ Some k → IsHereCut terminator left text k

abbrev HereStepReads : List ℕ → Option (List ℕ) → ℕ → List ℕ → LineStep → Type 0
HereStepReads terminator left c text step =
    (k : Cut) → here_step step terminator left c text (λ l. here_cut terminator l text) ≡ Some k →
    IsHereCut terminator left (c ∷ text) k

-- behind a line end begins another line
next_line : (terminator : List ℕ) (left : Option (List ℕ)) (front : List ℕ) → (left ≡ Some [] → ⊥) →
    IsRestOfLines terminator (Some terminator) front → IsRestOfLines terminator left (10 ∷ front)
next_line terminator left front n (inl e) = let same : terminator ≡ front = cc in inr (
  [],
  [],
  ap (λ xs. 10 ∷ xs) (sym same),
  n,
  tt,
  tt,
)
next_line terminator left front n (inr r) =
    inr (
      [],
      r.0 ∷ r.1,
      ap (λ xs. 10 ∷ xs) (r.2 ∙ shape r.0 (ended_lines r.1) terminator),
      n,
      tt,
      ((r.4, λ e. r.3 (ap Some (sym e))), r.5),
    )
  where
    shape : (line lines end : List ℕ) → line ++ 10 ∷ (lines ++ end) ≡ ((line ++ 10 ∷ []) ++ lines) ++ end
    shape line lines end = sym (append_assoc (line ++ 10 ∷ []) lines end ∙ append_assoc line (10 ∷ []) (lines ++ end))

feeding : (terminator : List ℕ) (left : Option (List ℕ)) (text : List ℕ) → (left ≡ Some [] → ⊥) →
    HereReads terminator text → (k : Cut) → also 10 (here_cut terminator (Some terminator) text) ≡ Some k →
    IsHereCut terminator left (10 ∷ text) k
feeding terminator left text n rest k h =
    let a = also_some 10 (here_cut terminator (Some terminator) text) k h in
    let j = rest (Some terminator) a.0 a.1 in
    rw a.2 (ap (λ xs. 10 ∷ xs) j.0, next_line terminator left a.0.front n j.1, (refl, j.2), j.3)

feeds : (terminator : List ℕ) (left : Option (List ℕ)) (text : List ℕ) → HereReads terminator text →
    HereStepReads terminator left 10 text Feeds
feeds terminator None text rest k h = feeding terminator None text (λ e. cc) rest k h
feeds terminator (Some []) text rest k h =
    let same : k ≡ cut [] (10 ∷ text) = cc in
    rw same (refl, inl refl, tt, inr (text, refl))
feeds terminator (Some (x ∷ left)) text rest k h = feeding terminator (Some (x ∷ left)) text (λ e. cc) rest k h

left_was : (left : Option (List ℕ)) (c : ℕ) (front : List ℕ) → left_behind left c ≡ Some front → left ≡ Some (c ∷ front)
left_was None c front e = absurd cc
left_was (Some []) c front e = absurd cc
left_was (Some (x ∷ left)) c front e =
    elim (eqb x c) as (λ b. eqb x c ≡ b → cond b (Some left) None ≡ Some front → Some (x ∷ left) ≡ Some (c ∷ front)) [
      | true ↦ λ f e. let same : x ≡ c = eqb-true x c f in cc
      | false ↦ λ f e. absurd cc
    ] refl e

left_is : (left : Option (List ℕ)) (c : ℕ) (line : List ℕ) → left ≡ Some (c ∷ line) → left_behind left c ≡ Some line
left_is left c line e = rw (e, eq-eqb c c refl) refl

-- a character more of a line
same_line : (terminator : List ℕ) (left : Option (List ℕ)) (c : ℕ) (front : List ℕ) → is_no_feed c ≡ true →
    IsRestOfLines terminator (left_behind left c) front → IsRestOfLines terminator left (c ∷ front)
same_line terminator left c front h (inl e) = inl (left_was left c front e)
same_line terminator left c front h (inr r) =
    inr (c ∷ r.0, r.1, ap (λ xs. c ∷ xs) r.2, (λ e. r.3 (left_is left c r.0 e)), (h, r.4), r.5)

goes : (terminator : List ℕ) (left : Option (List ℕ)) (c : ℕ) (text : List ℕ) → HereReads terminator text →
    is_no_feed c ≡ true → is_no_return c ≡ true → HereStepReads terminator left c text Goes
goes terminator left c text rest f r k h =
    let a = also_some c (here_cut terminator (left_behind left c) text) k h in
    let j = rest (left_behind left c) a.0 a.1 in
    rw a.2 (ap (λ xs. c ∷ xs) j.0, same_line terminator left c a.0.front f j.1, (r, j.2), j.3)

returns : (terminator : List ℕ) (left : Option (List ℕ)) (c : ℕ) (text : List ℕ) →
    HereStepReads terminator left c text Returns
returns terminator None c text k h = absurd cc
returns terminator (Some []) c text k h = absurd cc
returns terminator (Some (x ∷ left)) c text k h = absurd cc

here_ended : (terminator : List ℕ) → HereReads terminator []
unfolding here_cut
here_ended terminator None k h = absurd cc
here_ended terminator (Some []) k h = let same : k ≡ cut [] [] = cc in rw same (refl, inl refl, tt, inl refl)
here_ended terminator (Some (x ∷ left)) k h = absurd cc

here_feeds : (terminator : List ℕ) (left : Option (List ℕ)) (c : ℕ) (text : List ℕ) → HereReads terminator text →
    c ≡ 10 → HereStepReads terminator left c text Feeds
here_feeds terminator left c text rest e = rw e (feeds terminator left text rest)

here_cut_reads : (terminator text : List ℕ) → HereReads terminator text
here_cut_reads terminator [] = here_ended terminator
here_cut_reads terminator (c ∷ text) = λ left k h.
    by_step c (λ step. HereStepReads terminator left c text step)
    (here_feeds terminator left c text (here_cut_reads terminator text))
    (λ e. returns terminator left c text)
    (goes terminator left c text (here_cut_reads terminator text))
    k (sym (here_goes terminator left c text) ∙ h)

-- what is cut off are other lines and the terminating one
pub here_cut_found : (terminator text : List ℕ) (k : Cut) → here_cut terminator (Some terminator) text ≡ Some k →
    (text ≡ k.front ++ k.behind)
    × ((lines : List (List ℕ)) × (k.front ≡ ended_lines lines ++ terminator)
    × AllByRecursion (IsOtherLine terminator) lines) × Each is_no_return k.front × EndsHere k.behind
here_cut_found terminator text k h =
    let r = here_cut_reads terminator text (Some terminator) k h in
    (r.0, whole r.1, r.2, r.3)
  where
    whole : IsRestOfLines terminator (Some terminator) k.front →
        (lines : List (List ℕ)) × (k.front ≡ ended_lines lines ++ terminator)
        × AllByRecursion (IsOtherLine terminator) lines
    whole (inl e) = let same : terminator ≡ k.front = cc in ([], sym same, tt)
    whole (inr r) = (
      r.0 ∷ r.1,
      r.2
          ∙ sym (append_assoc (r.0 ++ 10 ∷ []) (ended_lines r.1) terminator
          ∙ append_assoc r.0 (10 ∷ []) (ended_lines r.1 ++ terminator)),
      ((r.4, λ e. r.3 (ap Some (sym e))), r.5),
    )
