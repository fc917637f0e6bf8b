-- What the items of a source tell of each item and of those behind it on its line.
use Rattle.std.proofs.Common.{◌≡◌, ℕ, ◌+◌, ◌-◌, ◌==◌, ◌&&◌, ◌⊎◌, inl, inr, not, Bool, true, false, List, [], ◌∷◌, ◌++◌, refl, sym, ap, ◌∙◌, subst, arith}
use Rattle.std.specs.Prelude.{codes}
use Rattle.std.specs.List.{list_any}
use Rattle.std.proofs.lemmas.Bool.{eq-eqb, cases_Bool, both_ways, not-true, false≢true, or_left, or_right}
use Rattle.std.proofs.lemmas.List.Sums.{sum_by-cons}
use Rattle.rf_base_grammar.specs.Characters.{Each, is_white, is_delimiter, BeginsWith, IsOneOf, byte_len}
use Rattle.rf_base_grammar.specs.Comments.{bang_heads, IsLineComment, EndsLine}
use Rattle.rf_base_grammar.specs.LanguageLine.{is_blank}
use Rattle.rf_base_grammar.specs.Token.{Token, is_line_comment}
use Rattle.rf_base_grammar.specs.Spelled.{Spelled, MayFollow, MayStand}
use Rattle.rf_base_grammar.specs.Itemised.{IsGap, line_ends, Begins, Leads}
use Rattle.rf_base_grammar.specs.Woven.{trails}
use Rattle.rf_base_grammar.specs.declared.kinds.Kind.{Kind}
use Rattle.rf_base_grammar.specs.declared.kinds.Kind.TheVariants.{Prefix, Dot, Atom, Here, Line, Lang}

-- what a source tells of an item behind items of these kinds
pub record Told (before : List Kind) (t : Token) : Type 0 where
  pub spelled : Spelled t.kind t.spelling
  pub stands : MayStand before t.kind t.spelling
  -- only a line comment is told to begin its line
  pub only_comments : t.own_line ≡ (is_line_comment t.kind && t.own_line)
  -- a comment that trails has no blank lines before it
  pub still : trails t ≡ true → t.blanks ≡ 0

-- if b trails, it may stand behind a and one space
abbrev pub MayTrail : Token → Token → Type 0
MayTrail a b = trails b ≡ true → (rest : List ℕ) → MayFollow a.kind a.spelling (32 ∷ (b.spelling ++ rest))

-- so much is told of each of these items, which stand behind a
abbrev pub AreTold : List Kind → Token → List Token → Type 0
AreTold before a [] = Unit {0}
AreTold before a (b ∷ ts) = Told before b × MayTrail a b × AreTold (b.kind ∷ before) b ts

-- whether the gap holds a line end
abbrev holds_feed : List ℕ → Bool
holds_feed gap = list_any (λ c. c == 10) gap

no_feed_here : (c : ℕ) (gap : List ℕ) → holds_feed (c ∷ gap) ≡ false → c ≡ 10 → ⊥
no_feed_here c gap n e = both_ways (holds_feed (c ∷ gap)) n (or_left _ _ (eq-eqb c 10 e))

no_feed_behind : (c : ℕ) (gap : List ℕ) → holds_feed (c ∷ gap) ≡ false → holds_feed gap ≡ false
no_feed_behind c gap n =
    elim (cases_Bool (holds_feed gap)) [
      | inl t ↦ absurd
          (both_ways (holds_feed (c ∷ gap)) n (or_right _ _ t))
      | inr f ↦ f
    ]

-- a gap without a line end has no blank lines
no_line_ends : (gap : List ℕ) → holds_feed gap ≡ false → line_ends gap ≡ 0
no_line_ends [] n = refl
no_line_ends (c ∷ gap) n =
    let here : (c == 10) ≡ false =
    elim (cases_Bool (c == 10)) [ inl t ↦ absurd (both_ways (holds_feed (c ∷ gap)) n (or_left _ _ t)) | inr f ↦ f ] in
    sum_by-cons _ c gap ∙ rw here (omega (arith, no_line_ends gap (no_feed_behind c gap n)))

-- what tells that a comment stands behind another item on its line
trailing_flag : (k o f : Bool) → o ≡ (k && f) → (k && not o) ≡ true → f ≡ false
trailing_flag true o f e t = sym e ∙ not-true o t
trailing_flag false o f e t = absurd (false≢true t)

own_flag : (k o f : Bool) → o ≡ (k && f) → o ≡ (k && o)
own_flag true o f e = refl
own_flag false o f e = e

comment_of : (k : Kind) (s : List ℕ) → (o : Bool) → (is_line_comment k && not o) ≡ true → Spelled k s → IsLineComment s
comment_of Line s o t h = h
comment_of _ s o t h = absurd (false≢true t)

-- a line comment begins with a semicolon or a hash sign
bang_mark : (head s body : List ℕ) → IsOneOf bang_heads head → s ≡ head ++ body → (rest : List ℕ) × (s ≡ 35 ∷ rest)
bang_mark head s body (inl h) e = (codes "!/" ++ body, e ∙ ap (λ xs. xs ++ body) h)
bang_mark head s body (inr (inl h)) e = (codes "! " ++ body, e ∙ ap (λ xs. xs ++ body) h)
bang_mark head s body (inr (inr h)) e = absurd h

comment_mark : (s : List ℕ) → IsLineComment s → (c : ℕ) × (body : List ℕ) × (s ≡ c ∷ body) × ((c ≡ 59) ⊎ (c ≡ 35))
comment_mark s (inl h) = (59, h.0, h.1, inl refl)
comment_mark s (inr h) = let b = bang_mark h.0 s h.1 h.3 h.2 in (35, b.0, b.1, inr refl)

-- such a mark ends no line and is no blank
mark_no_end : (c : ℕ) → (c ≡ 59) ⊎ (c ≡ 35) → (c ≡ 10 → ⊥) × (c ≡ 13 → ⊥) × (is_blank c ≡ false)
mark_no_end c (inl e) = (λ h. omega arith, λ h. omega arith, rw e refl)
mark_no_end c (inr e) = (λ h. omega arith, λ h. omega arith, rw e refl)

-- where a gap holds no line end, none begins it and what follows
no_feed_first : (gap : List ℕ) (c : ℕ) (more rest : List ℕ) → holds_feed gap ≡ false → (c ≡ 10 → ⊥) →
    gap ++ c ∷ more ≡ 10 ∷ rest → ⊥
no_feed_first [] c more rest n m e = m cc
no_feed_first (g ∷ gap) c more rest n m e = no_feed_here g gap n cc

no_line_end : (gap : List ℕ) (c : ℕ) (more : List ℕ) → holds_feed gap ≡ false →
    (c ≡ 10 → ⊥) × (c ≡ 13 → ⊥) × (is_blank c ≡ false) → EndsLine (gap ++ c ∷ more) → ⊥
no_line_end [] c more n m (inl e) = cc
no_line_end (g ∷ gap) c more n m (inl e) = cc
no_line_end gap c more n m (inr (inl b)) = no_feed_first gap c more b.0 n m.0 b.1
no_line_end [] c more n m (inr (inr b)) = m.1 cc
no_line_end (g ∷ gap) c more n m (inr (inr b)) = no_feed_first gap c more b.0 (no_feed_behind g gap n) m.0 cc

-- a comment that stands behind a language line on its line has a semicolon
semicolon : (blanks rest gap : List ℕ) (c : ℕ) (more : List ℕ) → gap ++ c ∷ more ≡ blanks ++ rest →
    Each is_blank blanks → IsGap gap → holds_feed gap ≡ false →
    (c ≡ 10 → ⊥) × (c ≡ 13 → ⊥) × (is_blank c ≡ false) → EndsLine rest ⊎ BeginsWith (codes ";") rest → c ≡ 59
unfolding is_white
semicolon [] rest gap c more e b w n m (inl ends) = absurd (no_line_end gap c more n m (subst EndsLine (sym e) ends))
semicolon [] rest [] c more e b w n m (inr begins) = let both : c ∷ more ≡ 59 ∷ begins.0 = e ∙ begins.1 in cc
semicolon [] rest (g ∷ gap) c more e b w n m (inr begins) =
    let both : g ∷ (gap ++ c ∷ more) ≡ 59 ∷ begins.0 = e ∙ begins.1 in
    let same : g ≡ 59 = cc in
    absurd (false≢true (subst (λ d. is_white d ≡ true) same w.0))
semicolon (d ∷ blanks) rest [] c more e b w n m tail =
    let same : c ≡ d = cc in absurd (both_ways (is_blank d) (subst (λ x. is_blank x ≡ false) same m.2) b.0)
semicolon (d ∷ blanks) rest (g ∷ gap) c more e b w n m tail =
    semicolon blanks rest gap c more (cc) b.1 w.1 (no_feed_behind g gap n) m tail

-- what follows an item of a kind on its line, if a comment does in the source
trails_behind : (k : Kind) (s gap body : List ℕ) (c : ℕ) (more : List ℕ) → MayFollow k s (gap ++ c ∷ body) → IsGap gap →
    holds_feed gap ≡ false →
    (c ≡ 59) ⊎ (c ≡ 35) → MayFollow k s (32 ∷ c ∷ more)
unfolding is_delimiter is_white
trails_behind Prefix s gap body c more f w n m = λ u at. let no : ◌≡◌ {A = ℕ} 32 64 = cc in omega arith
trails_behind Dot s gap body c more f w n m = refl
trails_behind Atom s gap body c more f w n m = refl
trails_behind Here s gap body c more (inl e) w n m = absurd (no_line_end gap c body n (mark_no_end c m) (inl e))
trails_behind Here s gap body c more (inr b) w n m = absurd (no_line_end gap c body n (mark_no_end c m) (inr (inl b)))
trails_behind Line s gap body c more f w n m = absurd (no_line_end gap c body n (mark_no_end c m) f)
trails_behind Lang s gap body c more f w n m =
    let ends = f.3 in
    let same : c ≡ 59 =
    semicolon ends.0 ends.1 gap c body ends.2 ends.3 w n (mark_no_end c m)
    (elim (ends.4) [ inl e ↦ inl e | inr b ↦ inr b.0 ]) in
    (f.0, f.1, f.2, (32 ∷ [], c ∷ more, refl, (refl, tt), inr ((more, ap (λ d. d ∷ more) same), λ e no. cc)))
trails_behind _ s gap body c more f w n m = tt

-- if an item trails in the source, it may trail behind the item before it
MayTrail-source : (kinds : List Kind) (a b : Token) (offset : ℕ) (text behind : List ℕ) →
    MayFollow a.kind a.spelling text → Begins (a.kind ∷ kinds) offset text b behind → MayTrail a b
MayTrail-source kinds a b offset text behind follows h = λ t rest.
    let mark = comment_mark b.spelling (comment_of b.kind b.spelling b.own_line t h.item.spelled) in
    let whole : text ≡ h.gap ++ mark.0 ∷ (mark.1 ++ behind) =
    h.text_is ∙ ap (λ xs. h.gap ++ xs) (h.item.text_is ∙ ap (λ xs. xs ++ behind) mark.2) in
    let free : holds_feed h.gap ≡ false =
    trailing_flag (is_line_comment b.kind) b.own_line (holds_feed h.gap) h.own_line_is t in
    rw mark.2 (trails_behind a.kind a.spelling h.gap (mark.1 ++ behind) mark.0 (mark.1 ++ rest)
    (subst (λ xs. MayFollow a.kind a.spelling xs) whole follows) h.white free mark.3)

-- what is told of the first item, and of an item behind others
Told-first : (offset : ℕ) (text : List ℕ) (t : Token) (behind : List ℕ) → Begins [] offset text t behind → Told [] t
Told-first offset text t behind h =
    record {
      spelled = h.item.spelled;
      stands = h.item.stands;
      only_comments = own_flag (is_line_comment t.kind) t.own_line true h.own_line_is;
      still = λ e. absurd (false≢true (sym (trailing_flag (is_line_comment t.kind) t.own_line true h.own_line_is e)));
    }

Told-behind : (kind : Kind) (kinds : List Kind) (offset : ℕ) (text : List ℕ) (t : Token) (behind : List ℕ) →
    Begins (kind ∷ kinds) offset text t behind → Told (kind ∷ kinds) t
Told-behind kind kinds offset text t behind h =
    record {
      spelled = h.item.spelled;
      stands = h.item.stands;
      only_comments = own_flag (is_line_comment t.kind) t.own_line (holds_feed h.gap) h.own_line_is;
      still =
          λ e. h.blanks_is
          ∙ ap (λ n. n - 1) (no_line_ends h.gap
          (trailing_flag (is_line_comment t.kind) t.own_line (holds_feed h.gap) h.own_line_is e));
    }

-- what is told of the items of a source
pub AreTold-Leads : (kinds : List Kind) (offset : ℕ) (a : Token) (text : List ℕ) (ts : List Token) (rest : List ℕ) →
    MayFollow a.kind a.spelling text → Leads (a.kind ∷ kinds) offset text ts rest → AreTold (a.kind ∷ kinds) a ts
AreTold-Leads kinds offset a text [] rest f h = tt
AreTold-Leads kinds offset a text (b ∷ ts) rest f h = (
  Told-behind a.kind kinds offset text b h.0 h.1,
  MayTrail-source kinds a b offset text h.0 f h.1,
  AreTold-Leads (a.kind ∷ kinds) (b.start + byte_len b.spelling) b h.0 ts rest h.1.item.follows h.2,
)

pub Told-source : (text : List ℕ) (t : Token) (ts : List Token) (rest : List ℕ) → Leads [] 0 text (t ∷ ts) rest →
    Told [] t × AreTold (t.kind ∷ []) t ts × (t.own_line ≡ (is_line_comment t.kind && true))
Told-source text t ts rest h = (
  Told-first 0 text t h.0 h.1,
  AreTold-Leads [] (t.start + byte_len t.spelling) t h.0 ts rest h.1.item.follows h.2,
  h.1.own_line_is,
)
