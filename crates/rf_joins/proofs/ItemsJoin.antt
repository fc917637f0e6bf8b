-- The items of a text behind another one, and the first item of a text.
use Rattle.std.proofs.Common.{◌≡◌, ◌≢◌, ℕ, ◌+◌, ◌-◌, ◌&&◌, inl, inr, not, Bool, true, false, List, [], ◌∷◌, ◌++◌, map, refl, sym, ap, ◌∙◌, subst, arith}
use Rattle.std.specs.Prelude.{codes}
use Rattle.std.proofs.lemmas.Bool.{both_ways}
use Rattle.std.proofs.lemmas.List.{append_assoc}
use Rattle.rf_base_grammar.specs.Characters.{is_white, is_delimiter, byte_len, BeginsWith}
use Rattle.rf_base_grammar.specs.Comments.{EndsLine}
use Rattle.rf_base_grammar.specs.Cuts.{Cut, span}
use Rattle.rf_base_grammar.specs.Itemised.{line_ends, begins_line, Begins, Leads, end_of, kinds_of}
use Rattle.rf_base_grammar.specs.LanguageLine.{EndsLanguageLine}
use Rattle.rf_base_grammar.specs.Spelled.{MayFollow, MayStand, EndsOrDelimits}
use Rattle.rf_base_grammar.specs.Token.{Token, is_line_comment}
use Rattle.rf_base_grammar.specs.Unreadable.{BeginsMark}
use Rattle.rf_base_grammar.specs.declared.kinds.Kind.{Kind}
use Rattle.rf_base_grammar.specs.declared.kinds.Kind.TheVariants.{Prefix, Dot, Atom, Here, Line, Lang}
use Rattle.rf_base_grammar.proofs.OneReading.{item_begins, mark_stops}
use Rattle.rf_base_grammar.proofs.Spans.{span_same}
use Rattle.rf_base_grammar.proofs.Texts.{byte_len-append}
use Rattle.rf_base_grammar.proofs.RunItems.{begins_more}
use Rattle.rf_joins.specs.Laws.{ItemsJoin, FirstItemStands}
use Rattle.rf_joins.specs.Moved.{further, HaveNoLanguage}

-- what may follow an item may follow it with a line end and more behind it
delimits_more : (text b : List ℕ) → BeginsWith (10 ∷ []) b → EndsOrDelimits text → EndsOrDelimits (text ++ b)
unfolding is_delimiter is_white
delimits_more [] b l h = subst EndsOrDelimits (sym l.1) refl
delimits_more (c ∷ text) b l h = h

ends_more : (text b : List ℕ) → BeginsWith (10 ∷ []) b → EndsLine text → EndsLine (text ++ b)
ends_more text b l (inl e) = inr (inl (l.0, ap (λ xs. xs ++ b) e ∙ l.1))
ends_more text b l (inr (inl h)) = inr (inl (begins_more (10 ∷ []) text b h))
ends_more text b l (inr (inr h)) = inr (inr (begins_more (13 ∷ 10 ∷ []) text b h))

language_more : (part text b : List ℕ) → BeginsWith (10 ∷ []) b → EndsLanguageLine part text →
    EndsLanguageLine part (text ++ b)
language_more part text b l h = (
  h.0,
  h.1 ++ b,
  ap (λ xs. xs ++ b) h.2 ∙ append_assoc h.0 h.1 b,
  h.3,
  elim (h.4) [ inl e ↦ inl (ends_more h.1 b l e) | inr c ↦ inr (begins_more (codes ";") h.1 b c.0, c.1) ],
)

at_before : (text b : List ℕ) → BeginsWith (10 ∷ []) b → BeginsWith (codes "@") (text ++ b) →
    BeginsWith (codes "@") text
at_before [] b l h = let apart : ◌≡◌ {A = ℕ} 10 64 = cc (l.1, h.1) in absurd (omega arith)
at_before (c ∷ text) b l h = let same : c ≡ 64 = cc in (text, ap (λ d. d ∷ text) same)

follows_more : (k : Kind) (s text b : List ℕ) → BeginsWith (10 ∷ []) b → MayFollow k s text → MayFollow k s (text ++ b)
follows_more Prefix s text b l h = λ u at. h u (at_before text b l at)
follows_more Dot s text b l h = delimits_more text b l h
follows_more Atom s text b l h = delimits_more text b l h
follows_more Here s text b l (inl e) = inr (l.0, ap (λ xs. xs ++ b) e ∙ l.1)
follows_more Here s text b l (inr h) = inr (begins_more (10 ∷ []) text b h)
follows_more Line s text b l h = ends_more text b l h
follows_more Lang s text b l h = (h.0, h.1, h.2, language_more h.1 text b l h.3)
follows_more _ s text b l h = tt

-- an item stands with more behind it that may follow it
pub item_stands : (before : List Kind) (offset : ℕ) (text b : List ℕ) (t : Token) (behind : List ℕ) →
    (h : Begins before offset text t behind) → MayFollow t.kind t.spelling (behind ++ b) →
    Begins before offset (text ++ b) t (behind ++ b)
item_stands before offset text b t behind h follows =
    record {
      gap = h.gap;
      place = h.place ++ b;
      text_is = ap (λ xs. xs ++ b) h.text_is ∙ append_assoc h.gap h.place b;
      white = h.white;
      item = record {
        text_is = ap (λ xs. xs ++ b) h.item.text_is ∙ append_assoc t.spelling behind b;
        spelled = h.item.spelled;
        follows = follows;
        stands = h.item.stands;
      };
      start_is = h.start_is;
      blanks_is = h.blanks_is;
      own_line_is = h.own_line_is;
    }

-- the items of a text are those of the text with a line end and more behind it, as far as they go
Begins-more : (before : List Kind) (offset : ℕ) (text b : List ℕ) (t : Token) (behind : List ℕ) →
    BeginsWith (10 ∷ []) b → Begins before offset text t behind → Begins before offset (text ++ b) t (behind ++ b)
Begins-more before offset text b t behind l h =
    item_stands before offset text b t behind h (follows_more t.kind t.spelling behind b l h.item.follows)

pub Leads-more : (before : List Kind) (offset : ℕ) (text b : List ℕ) (ts : List Token) (rest : List ℕ) →
    BeginsWith (10 ∷ []) b → Leads before offset text ts rest → Leads before offset (text ++ b) ts (rest ++ b)
Leads-more before offset text b [] rest l h = ap (λ xs. xs ++ b) h
Leads-more before offset text b (t ∷ ts) rest l h = (
  h.0 ++ b,
  Begins-more before offset text b t h.0 l h.1,
  Leads-more (t.kind ∷ before) (t.start + byte_len t.spelling) h.0 b ts rest l h.2,
)

-- items, and those of what is behind them
pub Leads-append : (before : List Kind) (offset : ℕ) (text : List ℕ) (us vs : List Token) (middle rest : List ℕ) →
    Leads before offset text us middle → Leads (kinds_of before us) (end_of offset us) middle vs rest →
    Leads before offset text (us ++ vs) rest
Leads-append before offset text [] vs middle rest h k =
    subst (λ xs. Leads before offset xs vs rest) (sym h) k
Leads-append before offset text (u ∷ us) vs middle rest h k = (
  h.0,
  h.1,
  Leads-append (u.kind ∷ before) (u.start + byte_len u.spelling) h.0 us vs middle rest h.2 k,
)

-- the items end where what is behind them begins
pub Leads-end : (before : List Kind) (offset : ℕ) (text : List ℕ) (ts : List Token) (rest : List ℕ) →
    Leads before offset text ts rest → end_of offset ts + byte_len rest ≡ offset + byte_len text
Leads-end before offset text [] rest h = ap (λ xs. offset + byte_len xs) (sym h)
Leads-end before offset text (t ∷ ts) rest h =
    let begins = h.1 in
    let whole : byte_len text ≡ byte_len begins.gap + (byte_len t.spelling + byte_len h.0) =
    ap byte_len (begins.text_is ∙ ap (λ xs. begins.gap ++ xs) begins.item.text_is)
    ∙ byte_len-append begins.gap (t.spelling ++ h.0)
    ∙ ap (λ k. byte_len begins.gap + k) (byte_len-append t.spelling h.0) in
    omega (
      arith,
      whole,
      begins.start_is,
      Leads-end (t.kind ∷ before) (t.start + byte_len t.spelling) h.0 ts rest h.2,
    )

-- an item that is no language line may stand behind items of any kinds, at any offset
stands_anywhere : (before others : List Kind) (k : Kind) (s : List ℕ) → k ≢ Lang → MayStand before k s →
    MayStand others k s
stands_anywhere before others Lang s n h = absurd (n refl)
stands_anywhere before others _ s n h = tt

Begins-further : (before others : List Kind) (n offset : ℕ) (text : List ℕ) (t : Token) (behind : List ℕ) →
    t.kind ≢ Lang → (h : Begins before offset text t behind) → begins_line others h.gap ≡ begins_line before h.gap →
    Begins others (n + offset) text (further n t) behind
Begins-further before others n offset text t behind free h e =
    record {
      gap = h.gap;
      place = h.place;
      text_is = h.text_is;
      white = h.white;
      item = record {
        text_is = h.item.text_is;
        spelled = h.item.spelled;
        follows = h.item.follows;
        stands = stands_anywhere before others t.kind t.spelling free h.item.stands;
      };
      start_is = omega (arith, h.start_is);
      blanks_is = h.blanks_is;
      own_line_is = h.own_line_is ∙ ap (λ b. is_line_comment t.kind && b) (sym e);
    }

Leads-further : (k j : Kind) (before others : List Kind) (n offset : ℕ) (text : List ℕ) (ts : List Token)
    (rest : List ℕ) → HaveNoLanguage ts → Leads (k ∷ before) offset text ts rest →
    Leads (j ∷ others) (n + offset) text (map (further n) ts) rest
Leads-further k j before others n offset text [] rest free h = h
Leads-further k j before others n offset text (t ∷ ts) rest free h =
    let same : n + (t.start + byte_len t.spelling) ≡ n + t.start + byte_len t.spelling = omega arith in (
      h.0,
      Begins-further (k ∷ before) (j ∷ others) n offset text t h.0 free.0 h.1 refl,
      subst (λ m. Leads (t.kind ∷ j ∷ others) m h.0 (map (further n) ts) rest) same
          (Leads-further t.kind t.kind (k ∷ before) (j ∷ others) n (t.start + byte_len t.spelling) h.0 ts rest free.1
          h.2),
    )

-- the first item of a text that begins with a line end begins its line wherever the text stands
feed_in_gap : (before : List Kind) (gap place b : List ℕ) → BeginsMark place → gap ++ place ≡ 10 ∷ b →
    begins_line before gap ≡ true
unfolding is_white
feed_in_gap [] gap place b m e = refl
feed_in_gap (k ∷ before) [] [] b m e = absurd m
feed_in_gap (k ∷ before) [] (c ∷ place) b m e =
    let same : c ≡ 10 = cc in absurd (both_ways (is_white 10) (subst (λ d. is_white d ≡ false) same m) refl)
feed_in_gap (k ∷ before) (c ∷ gap) place b m e = let same : c ≡ 10 = cc in rw same refl

pub Leads-behind : (k : Kind) (others : List Kind) (n : ℕ) (b : List ℕ) (ts : List Token) (rest : List ℕ) →
    BeginsWith (10 ∷ []) b → HaveNoLanguage ts → Leads [] 0 b ts rest →
    Leads (k ∷ others) n b (map (further n) ts) rest
Leads-behind k others n b [] rest l free h = h
Leads-behind k others n b (t ∷ ts) rest l free h =
    let begins = h.1 in
    let line : begins_line (k ∷ others) begins.gap ≡ true =
    feed_in_gap (k ∷ others) begins.gap begins.place l.0
    (item_begins [] begins.place t.kind t.spelling h.0 begins.item) (sym begins.text_is ∙ l.1) in
    let start : n + 0 ≡ n = omega arith in
    let same : n + (t.start + byte_len t.spelling) ≡ n + t.start + byte_len t.spelling = omega arith in (
      h.0,
      subst (λ m. Begins (k ∷ others) m b (further n t) h.0) start
          (Begins-further [] (k ∷ others) n 0 b t h.0 free.0 begins line),
      subst (λ m. Leads (t.kind ∷ k ∷ others) m h.0 (map (further n) ts) rest) same
          (Leads-further t.kind t.kind [] (k ∷ others) n (t.start + byte_len t.spelling) h.0 ts rest free.1 h.2),
    )

-- items leave the kind of the last of them
some_kinds : (before : List Kind) (u : Token) (us : List Token) →
    (k : Kind) × (others : List Kind) × (kinds_of before (u ∷ us) ≡ k ∷ others)
some_kinds before u [] = (u.kind, before, refl)
some_kinds before u (v ∷ us) = some_kinds (u.kind ∷ before) v us

pub items_joined : ItemsJoin
items_joined a b rest [] vs some h l k free = absurd (some refl)
items_joined a b rest (u ∷ us) vs some h l k free =
    let kinds = some_kinds [] u us in
    let end : byte_len a ≡ end_of 0 (u ∷ us) = omega (arith, Leads-end [] 0 a (u ∷ us) [] h) in
    let behind : Leads (kinds_of [] (u ∷ us)) (end_of 0 (u ∷ us)) b (map (further (byte_len a)) vs) rest =
    subst (λ ks. Leads ks (end_of 0 (u ∷ us)) b (map (further (byte_len a)) vs) rest) (sym kinds.2)
    (subst (λ m. Leads (kinds.0 ∷ kinds.1) m b (map (further (byte_len a)) vs) rest) end
    (Leads-behind kinds.0 kinds.1 (byte_len a) b vs rest l free k)) in
    Leads-append [] 0 (a ++ b) (u ∷ us) (map (further (byte_len a)) vs) b rest (Leads-more [] 0 a b (u ∷ us) [] l h)
    behind

trails_nothing : (k : Kind) (o : Bool) → o ≡ (is_line_comment k && true) → (is_line_comment k && not o) ≡ false
trails_nothing Line o e = rw e refl
trails_nothing _ o e = refl

pub first_stands : FirstItemStands
first_stands text rest t ts h =
    let begins = h.1 in
    let mark = item_begins [] begins.place t.kind t.spelling h.0 begins.item in
    let front : (span is_white text).front ≡ begins.gap =
    ap (λ xs. (span is_white xs).front) begins.text_is
    ∙ ap (λ (k : Cut). k.front)
    (span_same is_white begins.gap begins.place begins.white (mark_stops begins.place mark)) in (
      begins.blanks_is ∙ ap (λ g. line_ends g - 1) (sym front),
      trails_nothing t.kind t.own_line begins.own_line_is,
    )
