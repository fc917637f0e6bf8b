-- A woven text has the items that it is woven of.
use Rattle.std.proofs.Common.{◌≡◌, ℕ, zero, suc, ◌+◌, ◌-◌, ◌==◌, ◌&&◌, ◌||◌, if◌then◌else◌, min, inl, inr, not, Bool, true, false, List, [], ◌∷◌, ◌++◌, map, replicate, refl, sym, ap, ◌∙◌, subst, arith}
use Rattle.std.proofs.Math.Numerals.{add-one}
use Rattle.std.proofs.lemmas.Bool.{cases_Bool, false≢true}
use Rattle.std.proofs.lemmas.List.Sums.{sum_by-cons}
use Rattle.std.specs.List.{list_any}
use Rattle.rf_base_grammar.specs.Characters.{is_white, is_delimiter, byte_len}
use Rattle.rf_base_grammar.specs.Token.{Token, is_line_comment, unplaced, with_blanks, opens, closes, settled, normal}
use Rattle.rf_base_grammar.specs.Spelled.{Spelled, MayFollow}
use Rattle.rf_base_grammar.specs.Itemised.{IsGap, line_ends, begins_line, Begins, Leads, Itemised}
use Rattle.rf_base_grammar.specs.Woven.{NeedsGap, ends_line, trails, IsOneSpace, MayPart, WovenBehind, Woven}
use Rattle.rf_base_grammar.specs.declared.kinds.Kind.{Kind}
use Rattle.rf_base_grammar.specs.declared.kinds.Kind.TheVariants.{Prefix, Dot, Atom, Here, Line, Lang}
use Rattle.rf_base_grammar.proofs.OneReading.{spelled_some}
use Rattle.rf_base_grammar.proofs.Neighbours.{Told, MayTrail, AreTold, Told-source}

-- what is told of items is told of them with other blank lines
still_settled : (bare : Bool) (t : Token) (max : ℕ) → t.blanks ≡ 0 → (if bare then 0 else min t.blanks max) ≡ 0
still_settled true t max e = refl
still_settled false t max e = omega (arith, e)

Told-settled : (before : List Kind) (bare : Bool) (max : ℕ) (t : Token) → Told before t →
    Told before (with_blanks t (if bare then 0 else min t.blanks max))
Told-settled before bare max t h =
    record {
      spelled = h.spelled;
      stands = h.stands;
      only_comments = h.only_comments;
      still = λ e. still_settled bare t max (h.still e);
    }

AreTold-settled : (before : List Kind) (a : Token) (bare : Bool) (max : ℕ) (ts : List Token) (n : ℕ) →
    AreTold before a ts → AreTold before (with_blanks a n) (settled bare max ts)
AreTold-settled before a bare max [] n h = tt
AreTold-settled before a bare max (b ∷ ts) n h = (
  Told-settled before (bare || closes b.kind) max b h.0,
  h.1,
  AreTold-settled (b.kind ∷ before) b (opens b.kind) max ts (if bare || closes b.kind then 0 else min b.blanks max) h.2,
)

-- gaps are white space
white_append : (xs ys : List ℕ) → IsGap xs → IsGap ys → IsGap (xs ++ ys)
white_append [] ys h k = k
white_append (x ∷ xs) ys h k = (h.0, white_append xs ys h.1 k)

white_many : (n c : ℕ) → is_white c ≡ true → IsGap (replicate n c)
white_many zero c h = tt
white_many (suc n) c h = (h, white_many n c h)

pub lines_are_white : (n m : ℕ) → IsGap (replicate n 10 ++ replicate m 32)
unfolding is_white
lines_are_white n m = white_append (replicate n 10) (replicate m 32) (white_many n 10 refl) (white_many m 32 refl)

space_is_white : (gap : List ℕ) → IsOneSpace gap → IsGap gap
unfolding is_white
space_is_white gap e = rw e (refl, tt)

pub MayPart-white : (a b : Token) (gap : List ℕ) → MayPart a b gap → IsGap gap
MayPart-white a b gap h =
    elim h [
      | inl t ↦ space_is_white gap t.1
      | inr o ↦ elim (o.1) [
        | inl lines ↦ subst IsGap (sym lines.1) (lines_are_white (b.blanks + 1) lines.0)
        | inr line ↦ elim (line.1) [ inl n ↦ rw n.0 tt | inr s ↦ space_is_white gap s ]
      ]
    ]

-- a gap tells the blank lines
spaces_end_none : (m : ℕ) → line_ends (replicate m 32) ≡ 0
spaces_end_none zero = refl
spaces_end_none (suc m) = sum_by-cons _ 32 (replicate m 32) ∙ omega (arith, spaces_end_none m)

lines_end : (n m : ℕ) → line_ends (replicate n 10 ++ replicate m 32) ≡ n
lines_end zero m = spaces_end_none m
lines_end (suc n) m = sum_by-cons _ 10 (replicate n 10 ++ replicate m 32) ∙ omega (arith, lines_end n m)

MayPart-blanks : (a b : Token) (gap : List ℕ) → (trails b ≡ true → b.blanks ≡ 0) → MayPart a b gap →
    b.blanks ≡ line_ends gap - 1
MayPart-blanks a b gap still h =
    elim h [
      | inl t ↦ still t.0 ∙ sym (ap (λ g. line_ends g - 1) t.1)
      | inr o ↦ elim (o.1) [
        | inl lines ↦ omega (arith, ap line_ends lines.1, lines_end (b.blanks + 1) lines.0)
        | inr line ↦ elim (line.1) [
          | inl n ↦ line.0.1 ∙ sym (ap (λ g. line_ends g - 1) n.0)
          | inr e ↦ line.0.1 ∙ sym (ap (λ g. line_ends g - 1) e)
        ]
      ]
    ]

-- a gap tells whether a comment begins its line
own_behind_space : (k o : Bool) → (k && not o) ≡ true → o ≡ (k && false)
own_behind_space true false t = refl
own_behind_space _ _ t = absurd (false≢true t)

own_behind_lines : (k o : Bool) → o ≡ (k && o) → (k && not o) ≡ false → o ≡ (k && true)
own_behind_lines true true e t = refl
own_behind_lines true false e t = absurd (false≢true (sym t))
own_behind_lines false o e t = e

MayPart-own : (a b : Token) (gap : List ℕ) → b.own_line ≡ (is_line_comment b.kind && b.own_line) → MayPart a b gap →
    b.own_line ≡ (is_line_comment b.kind && list_any (λ c. c == 10) gap)
MayPart-own a b gap only h =
    elim h [
      | inl t ↦ rw t.1 (own_behind_space (is_line_comment b.kind) b.own_line t.0)
      | inr o ↦ elim (o.1) [
        | inl lines ↦ rw (lines.1, add-one) (own_behind_lines (is_line_comment b.kind) b.own_line only o.0)
        | inr line ↦
            only ∙ ap (λ k. k && b.own_line) line.0.0 ∙ sym (ap (λ k. k && list_any (λ c. c == 10) gap) line.0.0)
      ]
    ]

-- what follows an item in a woven text may follow it
feed_follows : (k : Kind) (s rest : List ℕ) → Spelled k s → MayFollow k s (10 ∷ rest)
unfolding is_delimiter is_white
feed_follows Prefix s rest h = λ u at. let no : ◌≡◌ {A = ℕ} 10 64 = cc in omega arith
feed_follows Dot s rest h = refl
feed_follows Atom s rest h = refl
feed_follows Here s rest h = inr (rest, refl)
feed_follows Line s rest h = inr (inl (rest, refl))
feed_follows Lang s rest h = (h.0, h.1, h.2, ([], 10 ∷ rest, refl, tt, inl (inr (inl (rest, refl)))))
feed_follows _ s rest h = tt

space_follows : (k : Kind) (s rest : List ℕ) → ends_line k ≡ false → MayFollow k s (32 ∷ rest)
unfolding is_delimiter is_white
space_follows Prefix s rest e = λ u at. let no : ◌≡◌ {A = ℕ} 32 64 = cc in omega arith
space_follows Dot s rest e = refl
space_follows Atom s rest e = refl
space_follows Here s rest e = absurd (false≢true (sym e))
space_follows Line s rest e = absurd (false≢true (sym e))
space_follows Lang s rest e = absurd (false≢true (sym e))
space_follows _ s rest e = tt

delimiter_or_not : (c : ℕ) → (is_delimiter c ≡ false → ⊥) → is_delimiter c ≡ true
delimiter_or_not c h = elim (cases_Bool (is_delimiter c)) [ inl d ↦ d | inr e ↦ absurd (h e) ]

unneeded_follows : (k : Kind) (s next rest : List ℕ) → ends_line k ≡ false → (next ≡ [] → ⊥) → (NeedsGap k s next → ⊥) →
    MayFollow k s (next ++ rest)
unneeded_follows k s [] rest e n h = absurd (n refl)
unneeded_follows Prefix s (c ∷ next) rest e n h = λ u at. let same : c ≡ 64 = cc in h (
  u,
  (next, ap (λ d. d ∷ next) same),
)
unneeded_follows Dot s (c ∷ next) rest e n h = delimiter_or_not c h
unneeded_follows Atom s (c ∷ next) rest e n h = delimiter_or_not c h
unneeded_follows Here s (c ∷ next) rest e n h = absurd (false≢true (sym e))
unneeded_follows Line s (c ∷ next) rest e n h = absurd (false≢true (sym e))
unneeded_follows Lang s (c ∷ next) rest e n h = absurd (false≢true (sym e))
unneeded_follows _ s (c ∷ next) rest e n h = tt

MayPart-follows : (a b : Token) (gap rest : List ℕ) → Spelled a.kind a.spelling → Spelled b.kind b.spelling →
    MayTrail a b → MayPart a b gap → MayFollow a.kind a.spelling (gap ++ (b.spelling ++ rest))
MayPart-follows a b gap rest s t trail h =
    elim h [
      | inl one ↦ rw one.1 (trail one.0 rest)
      | inr o ↦ elim (o.1) [
        | inl lines ↦
            rw (lines.1, add-one) (feed_follows a.kind a.spelling
            ((replicate b.blanks 10 ++ replicate lines.0 32) ++ (b.spelling ++ rest)) s)
        | inr line ↦ elim (line.1) [
          | inl n ↦
              rw n.0 (unneeded_follows a.kind a.spelling b.spelling rest line.0.2
              (spelled_some b.kind b.spelling t) n.1)
          | inr e ↦ rw e (space_follows a.kind a.spelling (b.spelling ++ rest) line.0.2)
        ]
      ]
    ]

WovenBehind-follows : (before : List Kind) (a : Token) (ts : List Token) (text : List ℕ) → Spelled a.kind a.spelling →
    AreTold before a ts → WovenBehind a ts text → MayFollow a.kind a.spelling text
unfolding WovenBehind
WovenBehind-follows before a [] text s t h = rw h (feed_follows a.kind a.spelling [] s)
WovenBehind-follows before a (b ∷ ts) text s t h = rw h.2 (MayPart-follows a b h.0 h.1 s t.0.spelled t.1 h.3)

-- the token with its first byte at this offset
abbrev placed : ℕ → Token → Token
placed offset t =
    record { kind = t.kind; start = offset; spelling = t.spelling; blanks = t.blanks; own_line = t.own_line }

-- a text from this offset on, behind items of these kinds, has these items and then a gap
record Read (before : List Kind) (offset : ℕ) (text : List ℕ) (ts : List Token) : Type 0 where
  back : List Token
  rest : List ℕ
  leads : Leads before offset text back rest
  white : IsGap rest
  same : map unplaced back ≡ map unplaced ts

-- a gap and an item, and what has been read behind it
Read-more : (before : List Kind) (offset : ℕ) (text gap behind : List ℕ) (t : Token) (ts : List Token) →
    text ≡ gap ++ (t.spelling ++ behind) → IsGap gap →
    Told before t → MayFollow t.kind t.spelling behind → t.blanks ≡ line_ends gap - 1 →
    t.own_line ≡ (is_line_comment t.kind && begins_line before gap) →
    Read (t.kind ∷ before) (offset + byte_len gap + byte_len t.spelling) behind ts → Read before offset text (t ∷ ts)
Read-more before offset text gap behind t ts text_is white told follows blanks_is own_line_is read =
    let here : Token = placed (offset + byte_len gap) t in
    let begins : Begins before offset text here behind = record {
      gap = gap;
      place = t.spelling ++ behind;
      text_is = text_is;
      white = white;
      item = record { text_is = refl; spelled = told.spelled; follows = follows; stands = told.stands };
      start_is = refl;
      blanks_is = blanks_is;
      own_line_is = own_line_is;
    } in
    record {
      back = here ∷ read.back;
      rest = read.rest;
      leads = (behind, begins, read.leads);
      white = read.white;
      same = ap (λ us. unplaced t ∷ us) read.same;
    }

WovenBehind-read : (kinds : List Kind) (offset : ℕ) (a : Token) (ts : List Token) (text : List ℕ) →
    AreTold (a.kind ∷ kinds) a ts → WovenBehind a ts text → Read (a.kind ∷ kinds) offset text ts
unfolding WovenBehind is_white
WovenBehind-read kinds offset a [] text t h = record {
  back = [];
  rest = text;
  leads = refl;
  white = rw h (refl, tt);
  same = refl;
}
WovenBehind-read kinds offset a (b ∷ ts) text t h =
    Read-more (a.kind ∷ kinds) offset text h.0 h.1 b ts h.2 (MayPart-white a b h.0 h.3) t.0
    (WovenBehind-follows (b.kind ∷ a.kind ∷ kinds) b ts h.1 t.0.spelled t.2 h.4)
    (MayPart-blanks a b h.0 t.0.still h.3) (MayPart-own a b h.0 t.0.only_comments h.3)
    (WovenBehind-read (a.kind ∷ kinds) (offset + byte_len h.0 + byte_len b.spelling) b ts h.1 t.2 h.4)

-- a text that is woven of a source's items, the first without blank lines before it, has them
Woven-read : (source : List ℕ) (max : ℕ) (ts : List Token) (rest text : List ℕ) → Leads [] 0 source ts rest →
    Woven (normal max ts) text → Read [] 0 text (normal max ts)
unfolding is_white
Woven-read source max [] rest text l h = record { back = []; rest = text; leads = refl; white = rw h tt; same = refl }
Woven-read source max (t ∷ ts) rest text l h =
    let told = Told-source source t ts rest l in
    let first : Token = with_blanks t 0 in
    let behind : List Token = settled (opens t.kind) max ts in
    let are_told : AreTold (t.kind ∷ []) first behind =
    AreTold-settled (t.kind ∷ []) t (opens t.kind) max ts 0 told.1 in
    Read-more [] 0 text [] h.0 first behind h.1 tt (Told-settled [] true max t told.0)
    (WovenBehind-follows (t.kind ∷ []) first behind h.0 told.0.spelled are_told h.2)
    refl told.2 (WovenBehind-read [] (0 + byte_len [] + byte_len t.spelling) first behind h.0 are_told h.2)

pub Woven-itemised : (source text : List ℕ) (ts : List Token) (max : ℕ) → Itemised source ts →
    Woven (normal max ts) text →
    (back : List Token) × Itemised text back × (map unplaced back ≡ map unplaced (normal max ts))
Woven-itemised source text ts max h w =
    let read = Woven-read source max ts h.0 text h.1 w in
    (read.back, (read.rest, read.leads, read.white), read.same)
