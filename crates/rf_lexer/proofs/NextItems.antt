-- What a text begins with behind its gap.
use Rattle.std.proofs.Common.{◌≡◌, ℕ, ◌+◌, ◌-◌, ◌≤◌, ◌<◌, Bool, true, false, cond, List, [], ◌∷◌, ◌++◌, ◌==◌, ◌||◌, nat_lt, length, length-append, map, inl, inr, refl, ap, sym, ◌∙◌, subst, arith, append_assoc}
use Rattle.std.specs.List.{list_any}
use Rattle.std.specs.Borrow.{Bor}
use Rattle.std.specs.Str.{chars, IsUtf8, encode_utf8_all}
use Rattle.std.proofs.lemmas.Str.{encodes-chars, chars-nil}
use Rattle.std.proofs.lemmas.Bool.Decides.{nat_tests}
use Rattle.std.proofs.lemmas.List.{nil_from_length, append-nil, map_push}
use Rattle.std.proofs.lemmas.List.Sums.{sum_by-cons}
use Rattle.rf_base_grammar.specs.Characters.{byte_len}
use Rattle.rf_base_grammar.specs.Spelled.{language_may_stand, BeginsItem}
use Rattle.rf_base_grammar.specs.Token.{Token, item_of}
use Rattle.rf_base_grammar.specs.Itemised.{IsGap, Begins, Leads, line_ends, begins_line, end_of, kinds_of}
use Rattle.rf_base_grammar.specs.Unreadable.{NoItem, Stands, BeginsMark}
use Rattle.rf_base_grammar.specs.Reader.{Answer, Found, Wrong, front_item}
use Rattle.rf_base_grammar.specs.declared.items.Item.{Item}
use Rattle.rf_base_grammar.specs.declared.kinds.Kind.{Kind}
use Rattle.rf_base_grammar.specs.declared.kinds.Kind.TheVariants.{Atom}
use Rattle.rf_base_grammar.specs.declared.refusals.LexKind.{LexKind}
use Rattle.rf_base_grammar.specs.declared.refusals.LexKind.TheVariants.{StrayLineEnd}
use Rattle.rf_base_grammar.proofs.ReaderIsExact.{front_found, front_wrong}
use Rattle.rf_base_grammar.proofs.OneReading.{spelled_some}
use Rattle.rf_base_grammar.proofs.Texts.{byte_len-append}
use Rattle.rf_lexer.specs.declared.front.Front.TheVariants.{Read, Unread}
use Rattle.rf_lexer.specs.Fronts.{Tells}
use Rattle.rf_lexer.specs.Gaps.{EndsGap, EndsOrBegins}
use Rattle.rf_lexer.specs.Next.{is_none, AreBefore, IsNext}
use Rattle.rf_lexer.specs.declared.before.Before.{Before}
use Rattle.rf_lexer.specs.declared.scan.Next.TheVariants as next
use Rattle.rf_lexer.proofs.Leads.{Leads-push, end_of-push, kinds_of-push}
use Rattle.rf_lexer.proofs.Places.{byte_len-chars}

-- some kinds behind which a language line may stand, or may not
pub some_before : (language : Bool) → (kinds : List Kind) × (language ≡ language_may_stand kinds)
some_before true = ([], refl)
some_before false = (Atom ∷ [], refl)

-- a gap alone
pub gap_alone : (text place : List ℕ) (feeds : ℕ) → EndsGap (chars text) feeds (chars place) → length place ≡ 0 → IsGap (chars text)
gap_alone text place feeds g none =
    let nothing : chars place ≡ [] = ap chars (nil_from_length place none) ∙ chars-nil in
    subst IsGap (sym (g.whole ∙ ap (λ xs. g.gap ++ xs) nothing ∙ append-nil g.gap)) g.white

mark_from : (place : List ℕ) → EndsOrBegins place → (place ≡ [] → ⊥) → BeginsMark place
mark_from [] h some = absurd (some refl)
mark_from (c ∷ place) h some = h

-- where something stands behind the gap, no white space begins it
pub begins_mark : (place : List ℕ) → IsUtf8 place → EndsOrBegins (chars place) → (length place ≡ 0 → ⊥) → BeginsMark (chars place)
begins_mark place u h some =
    mark_from (chars place) h (λ none. some (ap length (sym (encodes-chars place u) ∙ ap encode_utf8_all none)))

-- the answer that the program tells
pub told_item : (a : Answer) (kind : Kind) (r : Bor (List ℕ)) → Tells a (Read kind r) → (spelling : List ℕ) × (a ≡ Found kind spelling (chars r.now))
told_item (Found k spelling behind) kind r h = (spelling, ap (λ x. Found x spelling behind) (sym h.0) ∙ ap (λ xs. Found kind spelling xs) (sym h.1))
told_item (Wrong k clean) kind r h = absurd h

pub told_fault : (a : Answer) (kind : LexKind) (offset : ℕ) → Tells a (Unread kind offset) → (clean : List ℕ) × (a ≡ Wrong kind clean) × (offset ≡ byte_len clean)
told_fault (Found k spelling behind) kind offset h = absurd h
told_fault (Wrong k clean) kind offset h = (clean, ap (λ x. Wrong x clean) (sym h.0), h.1)

-- what stands before a refused character is of the text
within : (clean more text : List ℕ) → text ≡ clean ++ more → byte_len clean ≤ byte_len text
within clean more text e = omega (arith, ap byte_len e, byte_len-append clean more)

none_within : (clean text : List ℕ) → clean ≡ [] → byte_len clean ≤ byte_len text
none_within clean text e = rw e (omega arith)

pub clean_within : (before : List Kind) (kind : LexKind) (clean text : List ℕ) → Stands before kind clean text → byte_len clean ≤ byte_len text
clean_within before StrayLineEnd clean text (inl a) = within clean (a.5.0 ∷ a.5.1) text a.5.2
clean_within before StrayLineEnd clean text (inr (inl a)) = within clean (13 ∷ a.3.0) text (a.3.1 ∙ append_assoc clean (13 ∷ []) a.3.0)
clean_within before StrayLineEnd clean text (inr (inr a)) = within clean (a.9.0 ∷ a.9.1) text a.9.2
clean_within before _ clean text s = none_within clean text s.0

-- what stands behind the gap, where items of these kinds stand before it
module _ (kinds : List Kind) (language : Bool) (place : List ℕ) (u : IsUtf8 place) (stops : EndsOrBegins (chars place)) (some : length place ≡ 0 → ⊥) (stands : language ≡ language_may_stand kinds) where
  pub item_at : (kind : Kind) (r : Bor (List ℕ)) → Tells (front_item language (chars place)) (Read kind r) → (spelling : List ℕ) × BeginsItem kinds (chars place) kind spelling (chars r.now)
  item_at kind r h =
      let told = told_item (front_item language (chars place)) kind r h in
      (told.0, front_found kinds (chars place) kind told.0 (chars r.now) (begins_mark place u stops some) (ap (λ l. front_item l (chars place)) (sym stands) ∙ told.1))

  pub fault_at : (kind : LexKind) (offset : ℕ) → Tells (front_item language (chars place)) (Unread kind offset) → (clean : List ℕ) × (Stands kinds kind clean (chars place) × NoItem kinds (chars place)) × (offset ≡ byte_len clean)
  fault_at kind offset h =
      let told = told_fault (front_item language (chars place)) kind offset h in
      (told.0, front_wrong kinds (chars place) kind told.0 (begins_mark place u stops some) (ap (λ l. front_item l (chars place)) (sym stands) ∙ told.1), told.2)

any_from : (b rest : Bool) (n m : ℕ) → n ≡ cond b 1 0 + m → rest ≡ nat_lt 0 m → (b || rest) ≡ nat_lt 0 n
any_from true rest n m e f = grind (arith, nat_tests)
any_from false rest n m e f = f ∙ ap (λ k. nat_lt 0 k) (omega arith)

-- a gap holds a line end just where it holds some
any_feed : (gap : List ℕ) → list_any (λ c. c == 10) gap ≡ nat_lt 0 (line_ends gap)
any_feed [] = refl
any_feed (c ∷ gap) =
    any_from (c == 10) (list_any (λ d. d == 10) gap) (line_ends (c ∷ gap)) (line_ends gap) (sum_by-cons (λ d. cond (d == 10) 1 0) c gap) (any_feed gap)

pub line_begins : (kinds : List Kind) (none : Bool) (gap : List ℕ) (feeds : ℕ) → none ≡ is_none kinds → feeds ≡ line_ends gap → (none || nat_lt 0 feeds) ≡ begins_line kinds gap
line_begins [] none gap feeds e f = rw e refl
line_begins (k ∷ kinds) none gap feeds e f = rw (e, f) (sym (any_feed gap))

pub same_item : (kind : Kind) (s s' e e' b b' : ℕ) (o o' : Bool) → s ≡ s' → e ≡ e' → b ≡ b' → o ≡ o' → ◌≡◌ {A = Item} (record { kind = kind; start = s; end = e; blanks = b; own_line = o }) (record { kind = kind; start = s'; end = e'; blanks = b'; own_line = o' })
same_item kind s s' e e' b b' o o' p q r t = rw (p, q, r, t) refl

-- the bytes that a gap and an item take
pub taken : (text behind gap place spelling : List ℕ) → IsUtf8 text → IsUtf8 behind → chars text ≡ gap ++ place → place ≡ spelling ++ chars behind → length text ≡ byte_len gap + (byte_len spelling + length behind)
taken text behind gap place spelling u v e f =
    omega (arith, byte_len-chars text u, byte_len-chars behind v, ap byte_len e, ap byte_len f, byte_len-append gap place, byte_len-append spelling (chars behind))

positive : (text : List ℕ) → (text ≡ [] → ⊥) → 0 < length text
positive [] some = absurd (some refl)
positive (c ∷ text) some = omega arith

-- behind an item less text is left
pub less_left : (kinds : List Kind) (at : ℕ) (text : List ℕ) (t : Token) (behind : List ℕ) → Begins kinds at text t behind → length behind < length text
less_left kinds at text t behind b =
    omega (arith, ap length b.text_is, length-append b.gap b.place, ap length b.item.text_is, length-append t.spelling behind, positive t.spelling (spelled_some t.kind t.spelling b.item.spelled))

-- behind items of these kinds, and so many bytes, items lead from the one text to the other, behind which this is known
pub record Reaches (kinds : List Kind) (at : ℕ) (from text : List ℕ) (before : Before) : Type 0 where
  pub tokens : List Token
  pub leads : Leads kinds at (chars from) tokens (chars text)
  pub length_is : end_of at tokens + length text ≡ at + length from
  pub known : AreBefore (kinds_of kinds tokens) before

-- no item was read yet
reaches_first : (kinds : List Kind) (at : ℕ) (from : List ℕ) (before : Before) → AreBefore kinds before → Reaches kinds at from from before
reaches_first kinds at from before known = record { tokens = []; leads = refl; length_is = refl; known = known }

-- the next item leads on
pub reaches_more : (kinds : List Kind) (at len : ℕ) (from text : List ℕ) (before after : Before) (item : Item) (r : Bor (List ℕ)) → IsUtf8 text → IsUtf8 r.now → at + length from ≡ len → (reached : Reaches kinds at from text before) → ((others : List Kind) → AreBefore others before → IsNext others (len - length text) (chars text) (next.Found item r)) → ((others : List Kind) → AreBefore others before → AreBefore (item.kind ∷ others) after) → Reaches kinds at from r.now after
reaches_more kinds at len from text before after item r u v whole reached is_next goes_on =
    let ts = reached.tokens in
    let others = kinds_of kinds ts in
    let step = is_next others reached.known in
    let t = step.0 in
    let place : len - length text ≡ end_of at ts = omega (arith, reached.length_is, whole) in
    let begins : Begins others (end_of at ts) (chars text) t (chars r.now) =
    subst (λ (n : ℕ). Begins others n (chars text) t (chars r.now)) place step.2 in
    let used = taken text r.now begins.gap begins.place t.spelling u v begins.text_is begins.item.text_is in
    record {
      tokens = ts ++ t ∷ [];
      leads = Leads-push kinds at (chars from) ts (chars text) t (chars r.now) reached.leads begins;
      length_is = omega (arith, end_of-push at ts t, begins.start_is, used, reached.length_is);
      known =
          subst (λ ks. AreBefore ks after) (sym (kinds_of-push kinds ts t))
          (subst (λ k. AreBefore (k ∷ others) after) (ap (λ i. i.kind) step.1) (goes_on others reached.known));
    }

-- and leaves less text
pub reaches_less : (kinds : List Kind) (at len : ℕ) (from text : List ℕ) (before : Before) (item : Item) (r : Bor (List ℕ)) → (reached : Reaches kinds at from text before) → ((others : List Kind) → AreBefore others before → IsNext others (len - length text) (chars text) (next.Found item r)) → length (chars r.now) < length (chars text)
reaches_less kinds at len from text before item r reached is_next =
    let step = is_next (kinds_of kinds reached.tokens) reached.known in
    less_left (kinds_of kinds reached.tokens) (len - length text) (chars text) step.0 (chars r.now) step.2

pub reaches_within : (kinds : List Kind) (at len : ℕ) (from text : List ℕ) (before : Before) → at + length from ≡ len → Reaches kinds at from text before → length text ≤ len
reaches_within kinds at len from text before whole reached = omega (arith, reached.length_is, whole)

-- the items so far lead to the text, which is the end of the source
abbrev pub Reads : List ℕ → List ℕ → List Item → Before → Type 0
Reads src text items before =
    (reached : Reaches [] 0 src text before) × (items ≡ map item_of reached.tokens)

-- no item was read yet
pub reads_first : (src : List ℕ) (items : List Item) (before : Before) → items ≡ [] → AreBefore [] before → Reads src src items before
unfolding reaches_first
reads_first src items before none known = (reaches_first [] 0 src before known, none)

-- the next item leads on
pub reads_more : (src text : List ℕ) (items more : List Item) (before after : Before) (item : Item) (r : Bor (List ℕ)) → IsUtf8 text → IsUtf8 r.now → Reads src text items before → ((kinds : List Kind) → AreBefore kinds before → IsNext kinds (length src - length text) (chars text) (next.Found item r)) → more ≡ items ++ item ∷ [] → ((kinds : List Kind) → AreBefore kinds before → AreBefore (item.kind ∷ kinds) after) → Reads src r.now more after
unfolding reaches_more
reads_more src text items more before after item r u v read is_next pushed goes_on =
    let ts = read.0.tokens in
    let step = is_next (kinds_of [] ts) read.0.known in (
      reaches_more [] 0 (length src) src text before after item r u v (omega arith) read.0 is_next goes_on,
      pushed ∙ ap (λ xs. xs ++ item ∷ []) read.1 ∙ ap (λ i. map item_of ts ++ i ∷ []) step.1 ∙ sym (map_push item_of ts step.0),
    )
