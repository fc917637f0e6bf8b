-- What stands of a text, whatever stands behind it.
use Rattle.std.proofs.Common.{◌≡◌, ◌≢◌, ℕ, Bool, Some, inl, inr, List, [], ◌∷◌, ◌++◌, ◌+◌, refl, sym, ap, ◌∙◌, subst, arith, zero-add}
use Rattle.std.specs.Prelude.{slice_get, codes}
use Rattle.std.specs.Option.{option_map}
use Rattle.rf_base_document.proofs.Graph.{slice_get-append}
use Rattle.rf_base_grammar.specs.Characters.{BeginsWith, byte_len}
use Rattle.rf_base_grammar.specs.Itemised.{Begins, Leads}
use Rattle.rf_base_grammar.specs.Spelled.{MayFollow}
use Rattle.rf_base_grammar.specs.Token.{Token}
use Rattle.rf_base_grammar.specs.declared.kinds.Kind.{Kind}
use Rattle.rf_base_grammar.specs.declared.kinds.Kind.TheVariants.{Prefix, Dot, Atom, Here, Line, Lang}
use Rattle.rf_base_grammar.proofs.OneReading.{spelled_some}
use Rattle.rf_base_tree.specs.Dots.{marks_of}
use Rattle.rf_base_tree.specs.Formed.{KindPasses, AreFormed}
use Rattle.rf_base_tree.specs.Places.{Frame, InList, InPrefix, InSkip, IsLawful}
use Rattle.rf_base_tree.specs.Refusals.{NoDotHere, CannotGoOn}
use Rattle.rf_base_tree.specs.Trees.{Forest, Empty, kind_at, spelling_at, start_at, forest_depth}
use Rattle.rf_base_tree.specs.declared.refusals.TreeKind.{TreeKind}
use Rattle.rf_base_tree.specs.declared.refusals.TreeKind.TheVariants.{CloseWithout, CloseMismatch, OpenList, NothingAfter, BadDot, TooDeep}
use Rattle.rf_tree.proofs.ItemTexts.{spelling_of}
use Rattle.rf_joins.specs.Laws.{ItemsStand, TreeRefusalsStand, TellsItem}
use Rattle.rf_joins.specs.Moved.{HaveNoLanguage, MayBeFollowed}
use Rattle.rf_joins.proofs.ItemsJoin.{item_stands}
use Rattle.rf_base_grammar.proofs.RunItems.{begins_more}
use Rattle.rf_joins.proofs.TreesJoin.{Carried, token_at, all_moved_none}
use Rattle.rf_joins.proofs.TreeRefusalsJoin.{frame_far, frames_far, here_far, lawful_far, start_of, told_there}

-- a text that goes on with something goes on with it whatever stands behind it
at_stands : (c : ℕ) (text b : List ℕ) → BeginsWith (codes "@") ((c ∷ text) ++ b) → BeginsWith (codes "@") (c ∷ text)
at_stands c text b h = let same : c ≡ 64 = cc in (text, ap (λ d. d ∷ text) same)

follows_on : (k : Kind) (s : List ℕ) (c : ℕ) (text b : List ℕ) → k ≢ Lang → MayFollow k s (c ∷ text) →
    MayFollow k s ((c ∷ text) ++ b)
follows_on Prefix s c text b other h = λ unquote at. h unquote (at_stands c text b at)
follows_on Dot s c text b other h = h
follows_on Atom s c text b other h = h
follows_on Here s c text b other (inl e) = cc
follows_on Here s c text b other (inr h) = inr (begins_more (10 ∷ []) (c ∷ text) b h)
follows_on Line s c text b other (inl e) = cc
follows_on Line s c text b other (inr (inl h)) = inr (inl (begins_more (10 ∷ []) (c ∷ text) b h))
follows_on Line s c text b other (inr (inr h)) = inr (inr (begins_more (13 ∷ 10 ∷ []) (c ∷ text) b h))
follows_on Lang s c text b other h = absurd (other refl)
follows_on _ s c text b other h = tt

-- a text that an item begins has a first character
nothing_behind : (gap spelling behind : List ℕ) → [] ≡ gap ++ (spelling ++ behind) → spelling ≡ []
nothing_behind [] [] behind e = refl
nothing_behind [] (c ∷ spelling) behind e = cc
nothing_behind (c ∷ gap) spelling behind e = cc

some_begins : (before : List Kind) (offset : ℕ) (text : List ℕ) (t : Token) (behind : List ℕ) →
    Begins before offset text t behind → (c : ℕ) × (rest : List ℕ) × (text ≡ c ∷ rest)
some_begins before offset [] t behind h =
    absurd (spelled_some t.kind t.spelling h.item.spelled
    (nothing_behind h.gap t.spelling behind (h.text_is ∙ ap (λ xs. h.gap ++ xs) h.item.text_is)))
some_begins before offset (c ∷ rest) t behind h = (c, rest, refl)

items_lead : (before : List Kind) (offset : ℕ) (a b : List ℕ) (ts : List Token) → Leads before offset a ts [] →
    HaveNoLanguage ts → MayBeFollowed ts b → Leads before offset (a ++ b) ts b
items_lead before offset a b [] h none follows = ap (λ xs. xs ++ b) h
items_lead before offset a b (t ∷ []) h none follows = (
  h.0 ++ b,
  item_stands before offset a b t h.0 h.1
      (subst (λ (xs : List ℕ). MayFollow t.kind t.spelling (xs ++ b)) (sym h.2) follows),
  ap (λ xs. xs ++ b) h.2,
)
items_lead before offset a b (t ∷ u ∷ ts) h none follows =
    let some = some_begins (t.kind ∷ before) (t.start + byte_len t.spelling) h.0 u h.2.0 h.2.1 in (
      h.0 ++ b,
      item_stands before offset a b t h.0 h.1
          (subst (λ (xs : List ℕ). MayFollow t.kind t.spelling (xs ++ b)) (sym some.2)
          (follows_on t.kind t.spelling some.0 some.1 b none.0
          (subst (λ (xs : List ℕ). MayFollow t.kind t.spelling xs) some.2 h.1.item.follows))),
      items_lead (t.kind ∷ before) (t.start + byte_len t.spelling) h.0 b (u ∷ ts) h.2 none.1 follows,
    )

pub items_stand : ItemsStand
items_stand a b ts h none follows = items_lead [] 0 a b ts h none follows

-- tokens stand where they stood with more behind them
carried_on : (ts more : List Token) → Carried 0 ts (ts ++ more)
carried_on ts more i t h = (
  t,
  ap (λ k. slice_get (ts ++ more) k) (zero-add i) ∙ slice_get-append ts more i t h,
  refl,
  refl,
  refl,
)

kind_on : (ts more : List Token) (i : ℕ) (k : Kind) → kind_at ts i ≡ Some k → kind_at (ts ++ more) i ≡ Some k
kind_on ts more i k h =
    let t = token_at ts i k h in
    ap (λ o. option_map (λ (w : Token). w.kind) o) (slice_get-append ts more i t.0 t.1) ∙ ap (λ x. Some x) t.2

spelling_on : (ts more : List Token) (i : ℕ) (k : Kind) → kind_at ts i ≡ Some k →
    spelling_at (ts ++ more) i ≡ spelling_at ts i
spelling_on ts more i k h =
    let t = token_at ts i k h in
    spelling_of (ts ++ more) i t.0 (slice_get-append ts more i t.0 t.1) ∙ sym (spelling_of ts i t.0 t.1)

start_on : (ts more : List Token) (i : ℕ) (k : Kind) → kind_at ts i ≡ Some k → start_at (ts ++ more) i ≡ start_at ts i
start_on ts more i k h =
    let t = token_at ts i k h in
    start_of (ts ++ more) i t.0 (slice_get-append ts more i t.0 t.1) ∙ sym (start_of ts i t.0 t.1)

passes_on : (test : Kind → Bool) (ts more : List Token) (i : ℕ) → KindPasses test ts i → KindPasses test (ts ++ more) i
passes_on test ts more i h = (h.0, kind_on ts more i h.0 h.1, h.2)

passes_back : (test other : Kind → Bool) (ts more : List Token) (i : ℕ) → KindPasses other ts i →
    KindPasses test (ts ++ more) i → KindPasses test ts i
passes_back test other ts more i there h =
    let same : Some there.0 ≡ Some h.0 = sym (kind_on ts more i there.0 there.1) ∙ h.1 in
    (h.0, there.1 ∙ same, h.2)

-- what was begun, further on by nothing and behind nothing
frame_same : (f : Frame) → frame_far 0 Empty f ≡ f
frame_same (InList before opener) = rw (all_moved_none before, zero-add opener) refl
frame_same (InPrefix before item) = rw (all_moved_none before, zero-add item) refl
frame_same (InSkip before item) = rw (all_moved_none before, zero-add item) refl

frames_same : (frames : List Frame) → frames_far 0 Empty frames ≡ frames
frames_same [] = refl
frames_same (f ∷ []) = ap (λ (g : Frame). g ∷ []) (frame_same f)
frames_same (f ∷ g ∷ frames) = rw (frame_same f, frames_same (g ∷ frames)) refl

here_same : (frames : List Frame) (here : Forest) → here_far 0 Empty frames here ≡ here
here_same [] here = all_moved_none here
here_same (f ∷ frames) here = all_moved_none here

lawful_on : (ts more : List Token) (frames : List Frame) (here : Forest) → IsLawful ts frames here [] →
    IsLawful (ts ++ more) frames here []
unfolding AreFormed marks_of forest_depth
lawful_on ts more frames here h =
    subst (λ (g : Forest). IsLawful (ts ++ more) frames g []) (here_same frames here)
    (subst (λ (fs : List Frame). IsLawful (ts ++ more) fs (here_far 0 Empty frames here) []) (frames_same frames)
    (lawful_far 0 ts (ts ++ more) Empty frames here [] (carried_on ts more) tt tt (omega arith) h))

no_dot_on : (ts more : List Token) (frames : List Frame) (here : Forest) → IsLawful ts frames here [] →
    NoDotHere ts frames (marks_of here) → NoDotHere (ts ++ more) frames (marks_of here)
no_dot_on ts more [] here l h = tt
no_dot_on ts more (InList before opener ∷ frames) here l h =
    elim h [
      | inl b ↦ inl (subst (λ (s : List ℕ). BeginsWith (codes "#") s) (sym (spelling_on ts more opener _ l.1.1)) b)
      | inr other ↦ inr other
    ]
no_dot_on ts more (InPrefix before item ∷ frames) here l h = tt
no_dot_on ts more (InSkip before item ∷ frames) here l h = tt

halts_on : (ts more : List Token) (i : ℕ) (frames : List Frame) (here : Forest) (kind : TreeKind) (item : ℕ) →
    TellsItem kind → IsLawful ts frames here [] → CannotGoOn ts i frames here kind item →
    CannotGoOn (ts ++ more) i frames here kind item
halts_on ts more i frames here CloseWithout item tells l h = (h.0, passes_on _ ts more i h.1, h.2)
halts_on ts more i frames here CloseMismatch item tells l h = (
  h.0,
  (
    h.1.0,
    h.1.1,
    h.1.2,
    h.1.3,
    kind_on ts more h.1.0 _ h.1.4,
    kind_on ts more i _ h.1.5,
    h.1.6,
  ),
)
halts_on ts more i frames here OpenList item tells l h = absurd tells
halts_on ts more i frames here NothingAfter item tells l h = absurd tells
halts_on ts more i frames here BadDot item tells l h = (
  h.0,
  elim (h.1) [
    | inl ends ↦
        inl (ends.0, ends.1, ends.2, (ends.3.0, kind_on ts more ends.0 _ ends.3.1, kind_on ts more i _ ends.3.2))
    | inr (inl dot) ↦ inr (inl (kind_on ts more i _ dot.0, no_dot_on ts more frames here l dot.1))
    | inr (inr datum) ↦ inr (inr (passes_on _ ts more i datum.0, datum.1))
  ],
)
halts_on ts more i frames here TooDeep item tells l h = (
  h.0,
  passes_on _ ts more i h.1,
  h.2,
  λ datum none. h.3 (passes_back _ _ ts more i h.1 datum) none,
)

pub tree_refusals_stand : TreeRefusalsStand
tree_refusals_stand ts more kind offset tells r =
    let told = told_there ts r.n r.frames r.here kind r.item r.place.lawful r.halts in
    record {
      n = r.n;
      frames = r.frames;
      here = r.here;
      place = record {
        items_are = r.place.items_are;
        lawful = lawful_on ts more r.frames r.here r.place.lawful;
      };
      item = r.item;
      halts = halts_on ts more r.n r.frames r.here kind r.item tells r.place.lawful r.halts;
      offset_is = r.offset_is ∙ sym (start_on ts more r.item told.0 told.1);
    }
