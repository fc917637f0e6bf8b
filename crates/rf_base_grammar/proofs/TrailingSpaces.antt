-- A woven text has no trailing space but in its items.
use Rattle.std.proofs.Common.{◌≡◌, ℕ, zero, suc, ◌+◌, ◌<◌, ◌≤◌, ◌⊎◌, inl, inr, false, List, [], ◌∷◌, ◌++◌, map, replicate, refl, sym, ap, ◌∙◌, subst, arith}
use Rattle.std.proofs.lemmas.Bool.{both_ways}
use Rattle.std.proofs.lemmas.List.{append_cancel_left}
use Rattle.std.proofs.lemmas.List.Sums.{sum_by-cons}
use Rattle.std.specs.Char.{len_utf8}
use Rattle.rf_base_grammar.specs.Characters.{is_white, byte_len}
use Rattle.rf_base_grammar.specs.Comments.{EndsLine}
use Rattle.rf_base_grammar.specs.Token.{Token, unplaced, normal}
use Rattle.rf_base_grammar.specs.Itemised.{IsGap, Begins, Leads, Itemised}
use Rattle.rf_base_grammar.specs.Unreadable.{BeginsMark}
use Rattle.rf_base_grammar.specs.Woven.{MayPart, WovenBehind, Woven}
use Rattle.rf_base_grammar.specs.TrailingSpace.{IsInItem, NoTrailingSpace}
use Rattle.rf_base_grammar.specs.declared.kinds.Kind.{Kind}
use Rattle.rf_base_grammar.proofs.OneReading.{spelled_some, item_begins, one_gap, Itemised-one}
use Rattle.rf_base_grammar.proofs.Texts.{byte_len-append}
use Rattle.rf_base_grammar.proofs.Weaving.{lines_are_white, Woven-itemised}

-- where a character of two texts in a row stands: in the first or in the second
abbrev InFirst : List ℕ → ℕ → List ℕ → List ℕ → List ℕ → Type 0
InFirst before c behind first second = (more : List ℕ) × (first ≡ before ++ c ∷ more) × (behind ≡ more ++ second)

abbrev InSecond : List ℕ → ℕ → List ℕ → List ℕ → List ℕ → Type 0
InSecond before c behind first second = (more : List ℕ) × (before ≡ first ++ more) × (second ≡ more ++ c ∷ behind)

stands_in : (before : List ℕ) (c : ℕ) (behind first second : List ℕ) → first ++ second ≡ before ++ c ∷ behind →
    InFirst before c behind first second ⊎ InSecond before c behind first second
stands_in before c behind [] second e = inr (before, refl, e)
stands_in [] c behind (f ∷ first) second e =
    let same : f ≡ c = cc in
    let rest : first ++ second ≡ behind = cc in
    inl (first, ap (λ d. d ∷ first) same, sym rest)
stands_in (b ∷ before) c behind (f ∷ first) second e =
    let same : f ≡ b = cc in
    let rest : first ++ second ≡ before ++ c ∷ behind = cc in
    elim (stands_in before c behind first second rest) [
      | inl h ↦ inl (h.0, (λ i. same i ∷ h.1 i), h.2)
      | inr h ↦ inr (h.0, (λ i. sym same i ∷ h.1 i), h.2)
    ]

-- line ends and then spaces
abbrev IsFeeds : List ℕ → Type 0
IsFeeds gap = (n : ℕ) × (m : ℕ) × (gap ≡ replicate n 10 ++ replicate m 32)

MayPart-feeds : (a b : Token) (gap : List ℕ) → MayPart a b gap → IsFeeds gap
MayPart-feeds a b gap h =
    elim h [
      | inl t ↦ (0, 1, t.1)
      | inr o ↦ elim (o.1) [
        | inl lines ↦ (b.blanks + 1, lines.0, lines.1)
        | inr line ↦ elim (line.1) [ inl n ↦ (0, 0, n.0) | inr s ↦ (0, 1, s) ]
      ]
    ]

feeds_white : (gap : List ℕ) → IsFeeds gap → IsGap gap
feeds_white gap f = subst IsGap (sym f.2) (lines_are_white f.0 f.1)

-- behind a space of such a gap stand spaces alone
line_space : ◌≡◌ {A = ℕ} 10 32 → ⊥
line_space e = omega arith

spaces_behind : (before more : List ℕ) (n m : ℕ) → replicate n 10 ++ replicate m 32 ≡ before ++ 32 ∷ more →
    (k : ℕ) × (more ≡ replicate k 32)
spaces_behind [] more zero (suc m) e = let same : replicate m 32 ≡ more = cc in (m, sym same)
spaces_behind [] more (suc n) m e = absurd (line_space cc)
spaces_behind (c ∷ before) more zero (suc m) e = spaces_behind before more zero m cc
spaces_behind (c ∷ before) more (suc n) m e = spaces_behind before more n m cc
spaces_behind _ more _ _ e = cc

-- and behind these and an item's beginning no line ends
mark_ends_none : (c : ℕ) (place : List ℕ) → is_white c ≡ false → EndsLine (c ∷ place) → ⊥
unfolding is_white
mark_ends_none c place m (inl e) = cc
mark_ends_none c place m (inr (inl b)) =
    let same : c ≡ 10 = cc in both_ways (is_white 10) (subst (λ d. is_white d ≡ false) same m) refl
mark_ends_none c place m (inr (inr b)) =
    let same : c ≡ 13 = cc in both_ways (is_white 13) (subst (λ d. is_white d ≡ false) same m) refl

space_ends_none : (place : List ℕ) → EndsLine (32 ∷ place) → ⊥
space_ends_none place (inl e) = cc
space_ends_none place (inr (inl b)) = let same : ◌≡◌ {A = ℕ} 32 10 = cc in line_space (sym same)
space_ends_none place (inr (inr b)) = let same : ◌≡◌ {A = ℕ} 32 13 = cc in omega arith

ends_none : (k : ℕ) (place : List ℕ) → BeginsMark place → EndsLine (replicate k 32 ++ place) → ⊥
ends_none zero [] m e = m
ends_none zero (c ∷ place) m e = mark_ends_none c place m e
ends_none (suc k) place m e = space_ends_none (replicate k 32 ++ place) e

gap_ends_none : (gap place before behind : List ℕ) → IsFeeds gap → BeginsMark place →
    InFirst before 32 behind gap place → EndsLine behind → ⊥
gap_ends_none gap place before behind f m h e =
    let spaces = spaces_behind before h.0 f.0 f.1 (sym f.2 ∙ h.1) in
    ends_none spaces.0 place m (subst EndsLine (h.2 ∙ ap (λ xs. xs ++ place) spaces.1) e)

-- a place in an item's spelling is in the item
in_spelling : (t : Token) (offset : ℕ) (gap before inner more : List ℕ) → t.start ≡ offset + byte_len gap →
    before ≡ gap ++ inner → t.spelling ≡ inner ++ 32 ∷ more →
    (t.start ≤ offset + byte_len before) × (offset + byte_len before < t.start + byte_len t.spelling)
in_spelling t offset gap before inner more s e f =
    let front : byte_len before ≡ byte_len gap + byte_len inner = ap byte_len e ∙ byte_len-append gap inner in
    let whole : byte_len t.spelling ≡ byte_len inner + byte_len (32 ∷ more) =
    ap byte_len f ∙ byte_len-append inner (32 ∷ more) in
    let space : byte_len (32 ∷ more) ≡ 1 + byte_len more = sum_by-cons len_utf8 32 more in
    (omega (arith, s, front), omega (arith, s, front, whole, space))

-- what begins a text begins it, whatever is behind it
mark_of : (s xs ys : List ℕ) → (s ≡ [] → ⊥) → BeginsMark (s ++ xs) → BeginsMark (s ++ ys)
mark_of [] xs ys n m = absurd (n refl)
mark_of (c ∷ s) xs ys n m = m

-- behind the item t, so far from the beginning, each trailing space is in one of these items
abbrev CleanBehind : Token → List Token → List ℕ → Type 0
CleanBehind t ts text =
    (before behind : List ℕ) → text ≡ before ++ 32 ∷ behind → EndsLine behind →
    IsInItem ts (t.start + byte_len t.spelling + byte_len before)

-- a gap and an item before these
item_clean : (kinds : List Kind) (offset : ℕ) (text after : List ℕ) (t : Token) (ts : List Token) →
    (b : Begins kinds offset text t after) → IsFeeds b.gap → CleanBehind t ts after →
    (before behind : List ℕ) → text ≡ before ++ 32 ∷ behind → EndsLine behind →
    IsInItem (t ∷ ts) (offset + byte_len before)
item_clean kinds offset text after t ts b f clean before behind e ends =
    elim (stands_in before 32 behind b.gap b.place (sym b.text_is ∙ e)) [
      | inl h ↦
          absurd (gap_ends_none b.gap b.place before behind f
          (item_begins kinds b.place t.kind t.spelling after b.item) h ends)
      | inr h ↦ elim (stands_in h.0 32 behind t.spelling after (sym b.item.text_is ∙ h.2)) [
        | inl k ↦ inl (in_spelling t offset b.gap before h.0 k.0 b.start_is h.1 k.1)
        | inr k ↦
            let front : byte_len before ≡ byte_len b.gap + byte_len h.0 = ap byte_len h.1 ∙ byte_len-append b.gap h.0 in
            let inner : byte_len h.0 ≡ byte_len t.spelling + byte_len k.0 =
            ap byte_len k.1 ∙ byte_len-append t.spelling k.0 in
            let here : t.start + byte_len t.spelling + byte_len k.0 ≡ offset + byte_len before =
            omega (arith, b.start_is, front, inner) in
            inr (subst (λ n. IsInItem ts n) here (clean k.0 behind k.2 ends))
      ]
    ]

-- a text that is so woven is read so
record Met {kinds : List Kind} {offset : ℕ} {text after : List ℕ} {t : Token} (b : Begins kinds offset text t after)
    (gap rest : List ℕ) : Type 0 where
  gap_is : b.gap ≡ gap
  rest_is : after ≡ rest

met : (kinds : List Kind) (offset : ℕ) (text after gap rest : List ℕ) (t u : Token) →
    (b : Begins kinds offset text t after) → t.spelling ≡ u.spelling → IsGap gap → text ≡ gap ++ (u.spelling ++ rest) →
    Met b gap rest
met kinds offset text after gap rest t u b same white e =
    let begins = item_begins kinds b.place t.kind t.spelling after b.item in
    let mark =
    mark_of t.spelling after rest (spelled_some t.kind t.spelling b.item.spelled)
    (subst BeginsMark b.item.text_is begins) in
    let whole : b.gap ++ b.place ≡ gap ++ (t.spelling ++ rest) =
    sym b.text_is ∙ e ∙ ap (λ s. gap ++ (s ++ rest)) (sym same) in
    let one = one_gap b.gap gap b.place (t.spelling ++ rest) b.white white begins mark whole in
    record { gap_is = one.0; rest_is = append_cancel_left t.spelling after rest (sym b.item.text_is ∙ one.1) }

same_spelling : (t u : Token) (ts us : List Token) → map unplaced (t ∷ ts) ≡ map unplaced (u ∷ us) →
    t.spelling ≡ u.spelling
same_spelling t u ts us e = let heads : unplaced t ≡ unplaced u = cc in ap (λ (x : Token). x.spelling) heads

-- the line end at a text's end is no space
end_is_none : (before behind : List ℕ) → 10 ∷ [] ≡ before ++ 32 ∷ behind → ⊥
end_is_none [] behind e = line_space cc
end_is_none (c ∷ []) behind e = cc
end_is_none (c ∷ d ∷ before) behind e = cc

behind_clean : (kinds : List Kind) (a t : Token) (us ts : List Token) (text rest : List ℕ) → WovenBehind a us text →
    Leads kinds (t.start + byte_len t.spelling) text ts rest → map unplaced ts ≡ map unplaced us → CleanBehind t ts text
unfolding WovenBehind
behind_clean kinds a t [] [] text rest w l same before behind e ends = absurd (end_is_none before behind (sym w ∙ e))
behind_clean kinds a t [] (x ∷ ts) text rest w l same before behind e ends = cc
behind_clean kinds a t (u ∷ us) [] text rest w l same before behind e ends = cc
behind_clean kinds a t (u ∷ us) (x ∷ ts) text rest w l same before behind e ends =
    let f = MayPart-feeds a u w.0 w.3 in
    let m =
    met kinds (t.start + byte_len t.spelling) text l.0 w.0 w.1 x u l.1 (same_spelling x u ts us same)
    (feeds_white w.0 f) w.2 in
    let tails : map unplaced ts ≡ map unplaced us = cc in
    item_clean kinds (t.start + byte_len t.spelling) text l.0 x ts l.1 (subst IsFeeds (sym m.gap_is) f)
    (behind_clean (x.kind ∷ kinds) u x us ts l.0 rest
    (subst (λ xs. WovenBehind u us xs) (sym m.rest_is) w.4) l.2 tails) before behind e ends

-- no trailing space is outside of these items, which are those that the text is woven of
all_clean : (us ts : List Token) (text rest before behind : List ℕ) → Woven us text → Leads [] 0 text ts rest →
    map unplaced ts ≡ map unplaced us → text ≡ before ++ 32 ∷ behind → EndsLine behind → IsInItem ts (byte_len before)
all_clean [] [] text rest [] behind w l same e ends = cc
all_clean [] [] text rest (c ∷ before) behind w l same e ends = cc
all_clean [] (x ∷ ts) text rest before behind w l same e ends = cc
all_clean (u ∷ us) [] text rest before behind w l same e ends = cc
all_clean (u ∷ us) (x ∷ ts) text rest before behind w l same e ends =
    let m = met [] 0 text l.0 [] w.0 x u l.1 (same_spelling x u ts us same) tt w.1 in
    let tails : map unplaced ts ≡ map unplaced us = cc in
    let here : 0 + byte_len before ≡ byte_len before = omega arith in
    subst (λ n. IsInItem (x ∷ ts) n) here
    (item_clean [] 0 text l.0 x ts l.1 (0, 0, m.gap_is)
    (behind_clean (x.kind ∷ []) u x us ts l.0 rest
    (subst (λ xs. WovenBehind u us xs) (sym m.rest_is) w.2) l.2 tails) before behind e ends)

pub Woven-clean : (source text : List ℕ) (ts : List Token) (max : ℕ) → Itemised source ts → Woven (normal max ts) text →
    NoTrailingSpace text
Woven-clean source text ts max h w items before behind i e ends =
    let read = Woven-itemised source text ts max h w in
    let one : read.0 ≡ items = Itemised-one text read.0 items read.1 i in
    all_clean (normal max ts) items text i.0 before behind w i.1
    (subst (λ us. map unplaced us ≡ map unplaced (normal max ts)) one read.2) e ends
