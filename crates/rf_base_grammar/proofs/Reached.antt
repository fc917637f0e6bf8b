-- Each text is read to its end, or to where it is refused.
use Rattle.std.proofs.Common.{◌≡◌, ℕ, suc, zero, ◌+◌, ◌-◌, ◌≤◌, ◌⊎◌, ◌&&◌, inl, inr, List, [], ◌∷◌, ◌++◌, length, length-append, refl, sym, ap, ◌∙◌, subst, arith}
use Rattle.std.proofs.lemmas.List.{append-nil}
use Rattle.rf_base_grammar.specs.Characters.{is_white, byte_len}
use Rattle.rf_base_grammar.specs.Token.{Token, is_line_comment}
use Rattle.rf_base_grammar.specs.Spelled.{language_may_stand, BeginsItem}
use Rattle.rf_base_grammar.specs.Itemised.{IsGap, line_ends, begins_line, Begins, Leads, Itemised, end_of, kinds_of}
use Rattle.rf_base_grammar.specs.Unreadable.{BeginsMark, LexRefused}
use Rattle.rf_base_grammar.specs.Cuts.{span}
use Rattle.rf_base_grammar.specs.Reader.{Answer, Found, Wrong, front_item}
use Rattle.rf_base_grammar.specs.declared.kinds.Kind.{Kind}
use Rattle.rf_base_grammar.specs.declared.refusals.LexKind.{LexKind}
use Rattle.rf_base_grammar.proofs.Spans.{Stops, span_parts}
use Rattle.rf_base_grammar.proofs.ReaderIsExact.{front_found, front_wrong}
use Rattle.rf_base_grammar.proofs.OneReading.{item_some}

-- how far a text is read: to a gap at its end, or to a place where the reader refuses it
abbrev Reached : List Kind → ℕ → List ℕ → Type 0
Reached before offset text =
    (ts : List Token) × (rest : List ℕ) × Leads before offset text ts rest
    × (IsGap rest
    ⊎ ((gap : List ℕ) × (place : List ℕ) × (rest ≡ gap ++ place) × IsGap gap × BeginsMark place
    × ((kind : LexKind) × (clean : List ℕ)
    × (front_item (language_may_stand (kinds_of before ts)) place ≡ Wrong kind clean))))

-- the token of an item behind a gap
abbrev token_of : List Kind → ℕ → List ℕ → Kind → List ℕ → Token
token_of before offset gap kind spelling =
    record {
      kind = kind;
      start = offset + byte_len gap;
      spelling = spelling;
      blanks = line_ends gap - 1;
      own_line = is_line_comment kind && begins_line before gap;
    }

pub begins_of : {before : List Kind} {offset : ℕ} {text : List ℕ} (gap place : List ℕ) {kind : Kind}
    {spelling behind : List ℕ} → text ≡ gap ++ place → IsGap gap → BeginsItem before place kind spelling behind →
    Begins before offset text (token_of before offset gap kind spelling) behind
begins_of gap place e g item =
    record {
      gap = gap;
      place = place;
      text_is = e;
      white = g;
      item = item;
      start_is = refl;
      blanks_is = refl;
      own_line_is = refl;
    }

-- what is left behind an item is shorter
shorter : (text gap spelling behind : List ℕ) (n : ℕ) → text ≡ gap ++ (spelling ++ behind) → (spelling ≡ [] → ⊥) →
    length text ≤ suc n → length behind ≤ n
shorter text gap [] behind n e s l = absurd (s refl)
shorter text gap (c ∷ spelling) behind n e s l =
    omega (arith, ap length e, length-append gap (c ∷ (spelling ++ behind)), length-append spelling behind)

one_more : (before : List Kind) (offset : ℕ) (text : List ℕ) (t : Token) (behind : List ℕ) →
    Begins before offset text t behind → Reached (t.kind ∷ before) (t.start + byte_len t.spelling) behind →
    Reached before offset text
one_more before offset text t behind b r = (t ∷ r.0, r.1, (behind, b, r.2), r.3)

stops_mark : (c : ℕ) (place : List ℕ) → Stops is_white (c ∷ place) → BeginsMark (c ∷ place)
stops_mark c place s = s

-- what follows, where shorter texts are read so
ReachesShorter : ℕ → Type 0
ReachesShorter n = (before : List Kind) (offset : ℕ) (text : List ℕ) → length text ≤ n → Reached before offset text

reached_place : (n : ℕ) → ReachesShorter n → (before : List Kind) (offset : ℕ) (text gap place : List ℕ) →
    length text ≤ suc n → text ≡ gap ++ place → IsGap gap → BeginsMark place → (answer : Answer) →
    front_item (language_may_stand before) place ≡ answer → Reached before offset text
unfolding ReachesShorter
reached_place n rest before offset text gap place l e g m (Wrong kind clean) a = (
  [],
  text,
  refl,
  inr (gap, place, e, g, m, (kind, clean, a)),
)
reached_place n rest before offset text gap place l e g m (Found kind spelling behind) a =
    let item = front_found before place kind spelling behind m a in
    let whole : text ≡ gap ++ (spelling ++ behind) = e ∙ ap (λ xs. gap ++ xs) item.text_is in
    let t = token_of before offset gap kind spelling in
    one_more before offset text t behind (begins_of gap place e g item)
    (rest (kind ∷ before) (t.start + byte_len spelling) behind
    (shorter text gap spelling behind n whole (item_some before place kind spelling behind m item) l))

reached_behind : (n : ℕ) → ReachesShorter n → (before : List Kind) (offset : ℕ) (text gap place : List ℕ) →
    length text ≤ suc n → text ≡ gap ++ place → IsGap gap → Stops is_white place → Reached before offset text
reached_behind n rest before offset text gap [] l e g s = (
  [],
  text,
  refl,
  inl (subst IsGap (sym (e ∙ append-nil gap)) g),
)
reached_behind n rest before offset text gap (c ∷ place) l e g s =
    reached_place n rest before offset text gap (c ∷ place) l e g (stops_mark c place s)
    (front_item (language_may_stand before) (c ∷ place)) refl

nothing_reached : (before : List Kind) (offset : ℕ) (text : List ℕ) → length text ≤ 0 → Reached before offset text
nothing_reached before offset [] l = ([], [], refl, inl tt)
nothing_reached before offset (c ∷ text) l = absurd (omega arith)

-- a text of at most n characters is read to its end, or to where it is refused
reached : (n : ℕ) → ReachesShorter n
unfolding ReachesShorter
reached zero before offset text l = nothing_reached before offset text l
reached (suc n) before offset text l =
    let r = span_parts is_white text in
    let k = span is_white text in
    reached_behind n (reached n) before offset text k.front k.behind l r.0 r.1 r.2

-- each text has items, or is refused
pub lexed_or_refused : (text : List ℕ) →
    ((ts : List Token) × Itemised text ts) ⊎ ((kind : LexKind) × (offset : ℕ) × LexRefused text kind offset)
unfolding ReachesShorter
lexed_or_refused text = told (reached (length text) [] 0 text (omega arith))
  where
    told : Reached [] 0 text →
        ((ts : List Token) × Itemised text ts) ⊎ ((kind : LexKind) × (offset : ℕ) × LexRefused text kind offset)
    told r = by_end r.0 r.1 r.2 r.3
      where
        by_end : (ts : List Token) (rest : List ℕ) → Leads [] 0 text ts rest →
            (IsGap rest ⊎ ((gap : List ℕ) × (place : List ℕ) × (rest ≡ gap ++ place) × IsGap gap × BeginsMark place
            × ((kind : LexKind) × (clean : List ℕ)
            × (front_item (language_may_stand (kinds_of [] ts)) place ≡ Wrong kind clean)))) →
            ((ts : List Token) × Itemised text ts) ⊎ ((kind : LexKind) × (offset : ℕ) × LexRefused text kind offset)
        by_end ts rest leads (inl g) = inl (ts, (rest, leads, g))
        by_end ts rest leads (inr p) =
            let f = p.5 in
            let w = front_wrong (kinds_of [] ts) p.1 f.0 f.1 p.4 f.2 in
            inr (
              f.0,
              end_of 0 ts + byte_len p.0 + byte_len f.1,
              record {
                items = ts;
                rest = rest;
                leads = leads;
                gap = p.0;
                place = p.1;
                rest_is = p.2;
                white = p.3;
                begins = p.4;
                none = w.1;
                clean = f.1;
                stands = w.0;
                offset_is = refl;
              },
            )
