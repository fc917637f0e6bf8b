-- A text is read in one way: it has one list of items, or one refusal.
use Rattle.std.proofs.Common.{◌≡◌, ℕ, ◌+◌, ◌-◌, ◌&&◌, inl, inr, not, Bool, true, false, List, [], ◌∷◌, ◌++◌, refl, sym, ap, ◌∙◌, subst}
use Rattle.std.specs.Prelude.{codes}
use Rattle.std.specs.List.{AllByRecursion, list_all}
use Rattle.std.proofs.lemmas.Bool.{both_ways, and_parts, not-true, false≢true, ne_eqb, or_left}
use Rattle.rf_base_grammar.specs.Characters.{is_white, is_delimiter, BeginsWith, IsOneOf, byte_len}
use Rattle.rf_base_grammar.specs.Token.{Token, is_line_comment}
use Rattle.rf_base_grammar.specs.Spelled.{opening, prefixes, Spelled, language_may_stand, BeginsItem}
use Rattle.rf_base_grammar.specs.Strings.{quote}
use Rattle.rf_base_grammar.specs.Comments.{bang_heads}
use Rattle.rf_base_grammar.specs.Itemised.{IsGap, line_ends, begins_line, Begins, Leads, Itemised, end_of, kinds_of}
use Rattle.rf_base_grammar.specs.Unreadable.{NoItem, BeginsMark, LexRefused}
use Rattle.rf_base_grammar.specs.Cuts.{Cut, cut, span, Bare, run_cut}
use Rattle.rf_base_grammar.specs.Reader.{Found, Wrong, is_nothing, Reading, strip, readings, label_item, run_item, front_item}
use Rattle.rf_base_grammar.specs.declared.kinds.Kind.{Kind}
use Rattle.rf_base_grammar.specs.declared.kinds.Kind.TheVariants.{Opener, Prefix, Atom, Str, Here, Block, Line, Lang}
use Rattle.rf_base_grammar.specs.declared.refusals.LexKind.{LexKind}
use Rattle.rf_base_grammar.specs.declared.refusals.LexKind.TheVariants.{BadHash}
use Rattle.rf_base_grammar.proofs.Words.{strip_none}
use Rattle.rf_base_grammar.proofs.Spans.{Stops, span_same}
use Rattle.rf_base_grammar.proofs.Beginnings.{no_reading}
use Rattle.rf_base_grammar.proofs.RunItems.{of_all}
use Rattle.rf_base_grammar.proofs.ReaderFinds.{found_front}
use Rattle.rf_base_grammar.proofs.ReaderIsExact.{stands_front}

-- whether each word holds a character
nothing_among : (words : List (List ℕ)) (text : List ℕ) → list_all (λ w. not (is_nothing w)) words ≡ true →
    IsOneOf words text → text ≡ [] → ⊥
nothing_among words text a o e =
    let some : not (is_nothing text) ≡ true = of_all (λ w. not (is_nothing w)) words text a o in
    false≢true (sym (rw e refl) ∙ some)

-- each spelling holds a character
pub spelled_some : (kind : Kind) (spelling : List ℕ) → Spelled kind spelling → spelling ≡ [] → ⊥
spelled_some (Opener b) spelling h e = by_head h.0 (sym h.1 ∙ e)
  where
    by_head : (head : List ℕ) → head ++ opening b ∷ [] ≡ [] → ⊥
    by_head [] e = cc
    by_head (c ∷ head) e = cc
spelled_some Prefix spelling (inl h) e = nothing_among prefixes spelling refl h e
spelled_some Prefix spelling (inr h) e = let both = sym h.1 ∙ e in cc
spelled_some Atom spelling (inl h) e = h.0.0 e
spelled_some Atom spelling (inr h) e = let both = sym h.2 ∙ e in cc
spelled_some Str spelling h e = by_head h.0 (sym h.2 ∙ e)
  where
    by_head : (head : List ℕ) → head ++ quote ∷ (h.1 ++ quote ∷ []) ≡ [] → ⊥
    by_head [] e = cc
    by_head (c ∷ head) e = cc
spelled_some Here spelling h e = let both = sym h.2 ∙ e in cc
spelled_some Block spelling h e = let both = sym h.1 ∙ e in cc
spelled_some Line spelling (inl h) e = let both = sym h.1 ∙ e in cc
spelled_some Line spelling (inr h) e = bang_some h.0 h.3 (sym h.2 ∙ e)
  where
    bang_some : (head : List ℕ) → IsOneOf bang_heads head → head ++ h.1 ≡ [] → ⊥
    bang_some [] o e = nothing_among bang_heads [] refl o refl
    bang_some (c ∷ head) o e = cc
spelled_some Lang spelling h e = let both = sym h.2.text_is ∙ e in cc
spelled_some _ spelling h e = let both = sym h ∙ e in cc

-- whether a word begins with a character that isn't white
abbrev begins_dark : List ℕ → Bool
begins_dark [] = false
begins_dark (c ∷ word) = not (is_white c)

dark_apart : (word : List ℕ) (c : ℕ) (text : List ℕ) → begins_dark word ≡ true → is_white c ≡ true →
    BeginsWith word (c ∷ text) → ⊥
dark_apart [] c text d w b = false≢true d
dark_apart (x ∷ word) c text d w b =
    let same : c ≡ x = cc in
    both_ways (is_white x) (not-true (is_white x) d) (subst (λ y. is_white y ≡ true) same w)

all_dark : (rs : List Reading) (c : ℕ) (text : List ℕ) → list_all (λ (r : Reading). begins_dark r.word) rs ≡ true →
    is_white c ≡ true → AllByRecursion (λ (r : Reading). BeginsWith r.word (c ∷ text) → ⊥) rs
all_dark [] c text d w = tt
all_dark (r ∷ rs) c text d w =
    let both = and_parts _ _ d in
    (dark_apart r.word c text both.0 w, all_dark rs c text both.1 w)

-- white space is no bracket and no quote
not_white : (c m : ℕ) → is_white m ≡ false → is_white c ≡ true → c ≡ m → ⊥
not_white c m n w e = both_ways (is_white m) n (subst (λ y. is_white y ≡ true) e w)

-- the reader finds no item where white space stands, or nothing
white_front : (language : Bool) (c : ℕ) (text : List ℕ) → is_white c ≡ true →
    front_item language (c ∷ text) ≡ Wrong BadHash []
unfolding front_item run_cut is_delimiter is_white
white_front language c text w =
    no_reading (readings language) (c ∷ text)
    (label_item (strip (codes "#") (c ∷ text)) (run_item (run_cut Bare (c ∷ text))))
    (all_dark (readings language) c text refl w)
    ∙ rw (
      strip_none (codes "#") (c ∷ text) (λ b. dark_apart (codes "#") c text refl w b),
      or_left _ _ w,
      ne_eqb c 40
          (not_white c 40 refl w),
      ne_eqb c 91 (not_white c 91 refl w),
      ne_eqb c 123 (not_white c 123 refl w),
      ne_eqb c 34
          (not_white c 34 refl w),
    ) refl

nothing_front : (language : Bool) → front_item language [] ≡ Wrong BadHash []
unfolding front_item run_cut
nothing_front language = refl

-- an item begins with a character that isn't white
pub item_begins : (before : List Kind) (text : List ℕ) (kind : Kind) (spelling behind : List ℕ) →
    BeginsItem before text kind spelling behind → BeginsMark text
item_begins before [] kind spelling behind item =
    let both : Found kind spelling behind ≡ Wrong BadHash [] =
    sym (found_front before [] kind spelling behind item) ∙ nothing_front (language_may_stand before) in
    absurd cc
item_begins before (c ∷ text) kind spelling behind item =
    elim (is_white c) as (λ w. is_white c ≡ w → w ≡ false) [
      | false ↦ λ e. refl
      | true ↦ λ e.
          let both : Found kind spelling behind ≡ Wrong BadHash [] =
          sym (found_front before (c ∷ text) kind spelling behind item)
          ∙ white_front (language_may_stand before) c text e in
          absurd cc
    ] refl

-- an item has a spelling of some characters: else it would stand wherever it is found, without an end
pub item_some : (before : List Kind) (text : List ℕ) (kind : Kind) (spelling behind : List ℕ) → BeginsMark text →
    BeginsItem before text kind spelling behind → spelling ≡ [] → ⊥
item_some before text kind spelling behind m item e = spelled_some kind spelling item.spelled e

-- what begins with such a character stops white space
pub mark_stops : (text : List ℕ) → BeginsMark text → Stops is_white text
mark_stops [] m = tt
mark_stops (c ∷ text) m = m

-- a gap and what it leads to are one
pub one_gap : (gap other place elsewhere : List ℕ) → IsGap gap → IsGap other → BeginsMark place → BeginsMark elsewhere →
    gap ++ place ≡ other ++ elsewhere → (gap ≡ other) × (place ≡ elsewhere)
one_gap gap other place elsewhere g h m n e =
    let same : cut gap place ≡ cut other elsewhere =
    sym (span_same is_white gap place g (mark_stops place m)) ∙ ap (λ xs. span is_white xs) e
    ∙ span_same is_white other elsewhere h (mark_stops elsewhere n) in
    (ap (λ (k : Cut). k.front) same, ap (λ (k : Cut). k.behind) same)

-- a text begins with one item
one_item : (before : List Kind) (text : List ℕ) (k j : Kind) (s r xs ys : List ℕ) → BeginsItem before text k s xs →
    BeginsItem before text j r ys → (k ≡ j) × (s ≡ r) × (xs ≡ ys)
one_item before text k j s r xs ys a b =
    let same : Found k s xs ≡ Found j r ys =
    sym (found_front before text k s xs a) ∙ found_front before text j r ys b in
    (cc, cc, cc)

Begins-one : (before : List Kind) (offset : ℕ) (text : List ℕ) (t u : Token) (xs ys : List ℕ) →
    Begins before offset text t xs → Begins before offset text u ys → (t ≡ u) × (xs ≡ ys)
Begins-one before offset text t u xs ys a b =
    let places =
    one_gap a.gap b.gap a.place b.place a.white b.white (item_begins before a.place t.kind t.spelling xs a.item)
    (item_begins before b.place u.kind u.spelling ys b.item) (sym a.text_is ∙ b.text_is) in
    let items =
    one_item before b.place t.kind u.kind t.spelling u.spelling xs ys
    (subst (λ p. BeginsItem before p t.kind t.spelling xs) places.1 a.item) b.item in
    let kinds : t.kind ≡ u.kind = items.0 in
    let spellings : t.spelling ≡ u.spelling = items.1 in
    let starts : t.start ≡ u.start = a.start_is ∙ ap (λ g. offset + byte_len g) places.0 ∙ sym b.start_is in
    let blanks : t.blanks ≡ u.blanks = a.blanks_is ∙ ap (λ g. line_ends g - 1) places.0 ∙ sym b.blanks_is in
    let lines : t.own_line ≡ u.own_line =
    a.own_line_is ∙ ap (λ k. is_line_comment k && begins_line before a.gap) items.0
    ∙ ap (λ g. is_line_comment u.kind && begins_line before g) places.0 ∙ sym b.own_line_is in (
      λ i. record { kind = kinds i; start = starts i; spelling = spellings i; blanks = blanks i; own_line = lines i },
      items.2,
    )

-- no item begins the text behind any gap
abbrev IsStuck : List Kind → List ℕ → Type 0
IsStuck before text = (offset : ℕ) (t : Token) (behind : List ℕ) → Begins before offset text t behind → ⊥

-- two readings that both go on as far as they can are one
Leads-one : (before : List Kind) (offset : ℕ) (text : List ℕ) (ts us : List Token) (xs ys : List ℕ) →
    Leads before offset text ts xs → Leads before offset text us ys → IsStuck (kinds_of before ts) xs →
    IsStuck (kinds_of before us) ys → (ts ≡ us) × (xs ≡ ys)
Leads-one before offset text [] [] xs ys h k s w = (refl, sym h ∙ k)
Leads-one before offset text [] (u ∷ us) xs ys h k s w =
    absurd (s offset u k.0 (subst (λ zs. Begins before offset zs u k.0) h k.1))
Leads-one before offset text (t ∷ ts) [] xs ys h k s w =
    absurd (w offset t h.0 (subst (λ zs. Begins before offset zs t h.0) k h.1))
Leads-one before offset text (t ∷ ts) (u ∷ us) xs ys h k s w =
    let one = Begins-one before offset text t u h.0 k.0 h.1 k.1 in
    let back : u ≡ t = sym one.0 in
    let behind : Leads (t.kind ∷ before) (t.start + byte_len t.spelling) h.0 us ys =
    subst (λ (v : Token). Leads (v.kind ∷ before) (v.start + byte_len v.spelling) h.0 us ys) back
    (subst (λ zs. Leads (u.kind ∷ before) (u.start + byte_len u.spelling) zs us ys) (sym one.1) k.2) in
    let stuck : IsStuck (kinds_of (t.kind ∷ before) us) ys =
    subst (λ (v : Token). IsStuck (kinds_of (v.kind ∷ before) us) ys) back w in
    let rest = Leads-one (t.kind ∷ before) (t.start + byte_len t.spelling) h.0 ts us xs ys h.2 behind s stuck in
    let tails : ts ≡ us = rest.0 in
    (λ i. one.0 i ∷ tails i, rest.1)

-- no item begins in a gap
all_white : (gap place : List ℕ) → IsGap (gap ++ place) → BeginsMark place → ⊥
all_white [] [] g m = m
all_white [] (c ∷ place) g m = both_ways (is_white c) m g.0
all_white (c ∷ gap) place g m = all_white gap place g.1 m

gap_stuck : (before : List Kind) (rest : List ℕ) → IsGap rest → IsStuck before rest
gap_stuck before rest g offset t behind b =
    all_white b.gap b.place (subst IsGap b.text_is g) (item_begins before b.place t.kind t.spelling behind b.item)

-- none begins where none can be read
place_stuck : (before : List Kind) (rest gap place : List ℕ) → rest ≡ gap ++ place → IsGap gap → BeginsMark place →
    NoItem before place → IsStuck before rest
place_stuck before rest gap place e g m none offset t behind b =
    let same =
    one_gap b.gap gap b.place place b.white g (item_begins before b.place t.kind t.spelling behind b.item) m
    (sym b.text_is ∙ e) in
    none t.kind t.spelling behind (subst (λ p. BeginsItem before p t.kind t.spelling behind) same.1 b.item)

-- a text has one list of items
pub Itemised-one : (text : List ℕ) (a b : List Token) → Itemised text a → Itemised text b → a ≡ b
Itemised-one text a b h k =
    (Leads-one [] 0 text a b h.0 k.0 h.1 k.1 (gap_stuck (kinds_of [] a) h.0 h.2) (gap_stuck (kinds_of [] b) k.0 k.2)).0

refused_stuck : (source : List ℕ) (kind : LexKind) (offset : ℕ) (r : LexRefused source kind offset) →
    IsStuck (kinds_of [] r.items) r.rest
refused_stuck source kind offset r =
    place_stuck (kinds_of [] r.items) r.rest r.gap r.place r.rest_is r.white r.begins r.none

-- no text that has items is refused
pub Itemised-apart : (source : List ℕ) (ts : List Token) (kind : LexKind) (offset : ℕ) → Itemised source ts →
    LexRefused source kind offset → ⊥
Itemised-apart source ts kind offset h r =
    let one =
    Leads-one [] 0 source ts r.items h.0 r.rest h.1 r.leads (gap_stuck (kinds_of [] ts) h.0 h.2)
    (refused_stuck source kind offset r) in
    all_white r.gap r.place (subst IsGap (one.1 ∙ r.rest_is) h.2) r.begins

-- a text has one refusal
pub LexRefused-one : (source : List ℕ) (k k' : LexKind) (o o' : ℕ) → LexRefused source k o → LexRefused source k' o' →
    (k ≡ k') × (o ≡ o')
LexRefused-one source k k' o o' h h' =
    let one =
    Leads-one [] 0 source h.items h'.items h.rest h'.rest h.leads h'.leads (refused_stuck source k o h)
    (refused_stuck source k' o' h') in
    let places =
    one_gap h.gap h'.gap h.place h'.place h.white h'.white h.begins h'.begins (sym h.rest_is ∙ one.1 ∙ h'.rest_is) in
    let here = stands_front (kinds_of [] h.items) h.place k h.clean h.begins h.none h.stands in
    let there = stands_front (kinds_of [] h'.items) h'.place k' h'.clean h'.begins h'.none h'.stands in
    let same : Wrong k h.clean ≡ Wrong k' h'.clean =
    sym here
    ∙ ap (λ ts. front_item (language_may_stand (kinds_of [] ts)) h.place) one.0
    ∙ ap (λ p. front_item (language_may_stand (kinds_of [] h'.items)) p) places.1
    ∙ there in
    let cleans : h.clean ≡ h'.clean = cc in (
      cc,
      h.offset_is
          ∙ ap (λ ts. end_of 0 ts + byte_len h.gap + byte_len h.clean) one.0
          ∙ ap (λ g. end_of 0 h'.items + byte_len g + byte_len h.clean) places.0
          ∙ ap (λ c. end_of 0 h'.items + byte_len h'.gap + byte_len c) cleans
          ∙ sym h'.offset_is,
    )
