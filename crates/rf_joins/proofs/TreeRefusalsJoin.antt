-- Items behind others that make trees are refused as they are by themselves.
use Rattle.std.proofs.Common.{◌≡◌, ℕ, zero, suc, ◌+◌, ◌≤◌, Bool, Option, None, Some, inl, inr, List, [], ◌∷◌, ◌++◌, length, refl, sym, ap, ◌∙◌, subst}
use Rattle.std.specs.Prelude.{map, slice_get, codes}
use Rattle.std.specs.Option.{option_map}
use Rattle.std.proofs.lemmas.List.{append_assoc, map-append}
use Rattle.std.proofs.lemmas.Option.{slice_get-map}
use Rattle.rf_base_grammar.specs.Characters.{BeginsWith}
use Rattle.rf_base_grammar.specs.Token.{Token}
use Rattle.rf_base_grammar.specs.declared.kinds.Kind.{Kind}
use Rattle.rf_base_grammar.specs.declared.kinds.Kind.TheVariants.{Opener, Closer, Prefix, Skip, Dot}
use Rattle.rf_base_tree.specs.Trees.{Forest, Empty, kind_at, start_at, forest_items, forest_depth}
use Rattle.rf_base_tree.specs.Dots.{Mark, OfDatum, marks_of, AllData, MayGoOn}
use Rattle.rf_base_tree.specs.Formed.{KindPasses, AreFormed, depth_limit}
use Rattle.rf_base_tree.specs.Places.{Frame, InList, InPrefix, InSkip, before_of, item_of, becomes, place_items, MayHold, HasItsKind, IsLawful}
use Rattle.rf_base_tree.specs.Refusals.{IsDotted, TakesNoDot, EndsInDot, IsOnTop, NoDotHere, NoDatumHere, IsOpenHere, CannotGoOn}
use Rattle.rf_base_tree.specs.declared.refusals.TreeKind.{TreeKind}
use Rattle.rf_base_tree.specs.declared.refusals.TreeKind.TheVariants.{CloseWithout, CloseMismatch, OpenList, NothingAfter, BadDot, TooDeep}
use Rattle.rf_base_file.proofs.Each.{each-append}
use Rattle.rf_tree.specs.Next.{followed_by}
use Rattle.rf_tree.proofs.SlotEnds.{items_behind}
use Rattle.rf_joins.specs.Laws.{TreeRefusalsJoin}
use Rattle.rf_joins.specs.Moved.{all_moved, further, joined}
use Rattle.rf_joins.proofs.TreesJoin.{Carried, token_at, kind_carried, spelling_carried, marks_moved, marks_behind, forest_carried, formed_behind, all_moved_none, all_items_moved, range_joined, all_depth_moved, depth_behind, first_carried, get_behind, behind_carried, length_joined}

-- what was begun, so many items further on and behind these trees
abbrev pub frame_far : ℕ → Forest → Frame → Frame
frame_far n done (InList before opener) = InList (followed_by done (all_moved n before)) (n + opener)
frame_far n done (InPrefix before item) = InPrefix (followed_by done (all_moved n before)) (n + item)
frame_far n done (InSkip before item) = InSkip (followed_by done (all_moved n before)) (n + item)

-- all that was begun, and the trees on the innermost level, where the trees before stand at the top
abbrev pub frames_far : ℕ → Forest → List Frame → List Frame
frames_far n done [] = []
frames_far n done (f ∷ []) = frame_far n done f ∷ []
frames_far n done (f ∷ g ∷ frames) = frame_far n Empty f ∷ frames_far n done (g ∷ frames)

abbrev pub here_far : ℕ → Forest → List Frame → Forest → Forest
here_far n done [] here = followed_by done (all_moved n here)
here_far n done (f ∷ frames) here = all_moved n here

length_far : (n : ℕ) (done : Forest) (frames : List Frame) → length (frames_far n done frames) ≡ length frames
length_far n done [] = refl
length_far n done (f ∷ []) = refl
length_far n done (f ∷ g ∷ frames) = ap suc (length_far n done (g ∷ frames))

-- what was begun last
top_far : (n : ℕ) (done : Forest) (f : Frame) (frames : List Frame) →
    (over : Forest) × (rest : List Frame) × (frames_far n done (f ∷ frames) ≡ frame_far n over f ∷ rest)
top_far n done f [] = (done, [], refl)
top_far n done f (g ∷ frames) = (Empty, frames_far n done (g ∷ frames), refl)

-- the parts of what was begun
before_far : (n : ℕ) (done : Forest) (f : Frame) →
    before_of (frame_far n done f) ≡ followed_by done (all_moved n (before_of f))
before_far n done (InList before opener) = refl
before_far n done (InPrefix before item) = refl
before_far n done (InSkip before item) = refl

item_far : (n : ℕ) (done : Forest) (f : Frame) → item_of (frame_far n done f) ≡ n + item_of f
item_far n done (InList before opener) = refl
item_far n done (InPrefix before item) = refl
item_far n done (InSkip before item) = refl

becomes_far : (n : ℕ) (done : Forest) (f : Frame) → becomes (frame_far n done f) ≡ becomes f
becomes_far n done (InList before opener) = refl
becomes_far n done (InPrefix before item) = refl
becomes_far n done (InSkip before item) = refl

-- the items that lead to the place
level_far : (n : ℕ) (done over : Forest) (f : Frame) (here : Forest) (items outer : List ℕ) →
    outer ≡ forest_items done ++ map (λ i. n + i) items →
    outer ++ item_of (frame_far n over f) ∷ forest_items (all_moved n here)
    ≡ forest_items done ++ map (λ i. n + i) (items ++ item_of f ∷ forest_items here)
level_far n done over f here items outer e =
    rw (e, item_far n over f, all_items_moved n here)
    (append_assoc (forest_items done) (map (λ i. n + i) items) (map (λ i. n + i) (item_of f ∷ forest_items here))
    ∙ ap (λ is. forest_items done ++ is) (sym (map-append (λ i. n + i) items (item_of f ∷ forest_items here))))

items_far : (n : ℕ) (done : Forest) (frames : List Frame) (here : Forest) →
    place_items (frames_far n done frames) (here_far n done frames here)
    ≡ forest_items done ++ map (λ i. n + i) (place_items frames here)
items_far n done [] here =
    items_behind done (all_moved n here) ∙ ap (λ is. forest_items done ++ is) (all_items_moved n here)
items_far n done (f ∷ []) here =
    level_far n done done f here (forest_items (before_of f)) (forest_items (before_of (frame_far n done f)))
    (ap (λ (g : Forest). forest_items g) (before_far n done f) ∙ items_far n done [] (before_of f))
items_far n done (f ∷ g ∷ frames) here =
    level_far n done Empty f here (place_items (g ∷ frames) (before_of f))
    (place_items (frames_far n done (g ∷ frames)) (before_of (frame_far n Empty f)))
    (ap (λ (b : Forest). place_items (frames_far n done (g ∷ frames)) b) (before_far n Empty f)
    ∙ items_far n done (g ∷ frames) (before_of f))

-- what was begun has its kind, and may hold what it may
kind_begun : (n : ℕ) (ts us : List Token) (done : Forest) (f : Frame) → Carried n ts us → HasItsKind ts f →
    HasItsKind us (frame_far n done f)
kind_begun n ts us done (InList before opener) c h = (h.0, kind_carried n ts us opener _ c h.1)
kind_begun n ts us done (InPrefix before item) c h = kind_carried n ts us item _ c h
kind_begun n ts us done (InSkip before item) c h = kind_carried n ts us item _ c h

hold_far : (n : ℕ) (ts us : List Token) (done : Forest) (f : Frame) (here : Forest) (next : List Mark) →
    Carried n ts us → HasItsKind ts f → MayHold ts f here next →
    MayHold us (frame_far n done f) (all_moved n here) next
hold_far n ts us done (InList before opener) here next c k h = (
  subst (λ (marks : List Mark). MayGoOn (marks ++ next)) (sym (marks_moved n here)) h.0,
  λ b. subst (λ (marks : List Mark). AllData (marks ++ next)) (sym (marks_moved n here))
      (h.1 (subst (λ (s : List ℕ). BeginsWith (codes "#") s) (spelling_carried n ts us opener _ c k.1) b)),
)
hold_far n ts us done (InPrefix before item) here next c k h = marks_moved n here ∙ h
hold_far n ts us done (InSkip before item) here next c k h = marks_moved n here ∙ h

-- what stands there is lawful
pub lawful_far : (n : ℕ) (ts us : List Token) (done : Forest) (frames : List Frame) (here : Forest) (next : List Mark) →
    Carried n ts us → AreFormed us done → AllData (marks_of done) → forest_depth done ≤ depth_limit →
    IsLawful ts frames here next → IsLawful us (frames_far n done frames) (here_far n done frames here) next
lawful_far n ts us done [] here next c formed dotless shallow h = (
  formed_behind us done (all_moved n here) formed (forest_carried n ts us here c h.0),
  subst (λ (marks : List Mark). AllData (marks ++ next))
      (sym
      (marks_behind done (all_moved n here) ∙ ap (λ (marks : List Mark). marks_of done ++ marks) (marks_moved n here)))
      (subst AllData (sym (append_assoc (marks_of done) (marks_of here) next))
      (each-append (λ mark. mark ≡ OfDatum) (marks_of done) (marks_of here ++ next) dotless h.1)),
  depth_behind done (all_moved n here) _ shallow
      (subst (λ (d : ℕ). d ≤ depth_limit) (sym (all_depth_moved n here)) h.2),
)
lawful_far n ts us done (f ∷ []) here next c formed dotless shallow h = (
  subst (λ (b : Forest). IsLawful us [] b (becomes (frame_far n done f))) (sym (before_far n done f))
      (subst (λ (marks : List Mark). IsLawful us [] (followed_by done (all_moved n (before_of f))) marks)
      (sym (becomes_far n done f))
      (lawful_far n ts us done [] (before_of f) (becomes f) c formed dotless shallow h.0)),
  kind_begun n ts us done f c h.1,
  forest_carried n ts us here c h.2,
  hold_far n ts us done f here next c h.1 h.3,
  subst (λ (d : ℕ). 0 + 1 + d ≤ depth_limit) (sym (all_depth_moved n here)) h.4,
)
lawful_far n ts us done (f ∷ g ∷ frames) here next c formed dotless shallow h = (
  subst (λ (b : Forest). IsLawful us (frames_far n done (g ∷ frames)) b (becomes (frame_far n Empty f)))
      (sym (before_far n Empty f))
      (subst (λ (marks : List Mark). IsLawful us (frames_far n done (g ∷ frames)) (all_moved n (before_of f)) marks)
      (sym (becomes_far n Empty f))
      (lawful_far n ts us done (g ∷ frames) (before_of f) (becomes f) c formed dotless shallow h.0)),
  kind_begun n ts us Empty f c h.1,
  forest_carried n ts us here c h.2,
  hold_far n ts us Empty f here next c h.1 h.3,
  subst (λ (d : ℕ). length (frames_far n done (g ∷ frames)) + 1 + d ≤ depth_limit) (sym (all_depth_moved n here))
      (subst (λ (k : ℕ). k + 1 + forest_depth here ≤ depth_limit) (sym (length_far n done (g ∷ frames))) h.4),
)

-- the kinds and the offsets of the items behind others
kind_of_further : (n : ℕ) (o : Option Token) →
    option_map (λ (t : Token). t.kind) (option_map (further n) o) ≡ option_map (λ (t : Token). t.kind) o
kind_of_further n None = refl
kind_of_further n (Some t) = refl

kind_joined : (n : ℕ) (us vs : List Token) (i : ℕ) → kind_at (joined n us vs) (length us + i) ≡ kind_at vs i
kind_joined n us vs i =
    ap (λ o. option_map (λ (t : Token). t.kind) o)
    (get_behind us (map (further n) vs) i ∙ slice_get-map (further n) vs i)
    ∙ kind_of_further n (slice_get vs i)

pub start_of : (ts : List Token) (i : ℕ) (t : Token) → slice_get ts i ≡ Some t → start_at ts i ≡ t.start
start_of [] i t e = cc
start_of (u ∷ us) zero t e = let same : u ≡ t = cc in ap (λ (x : Token). x.start) same
start_of (u ∷ us) (suc i) t e = start_of us i t e

start_joined : (n : ℕ) (us vs : List Token) (i : ℕ) (k : Kind) → kind_at vs i ≡ Some k →
    start_at (joined n us vs) (length us + i) ≡ n + start_at vs i
start_joined n us vs i k e =
    let t = token_at vs i k e in
    start_of (joined n us vs) (length us + i) (further n t.0)
    (get_behind us (map (further n) vs) i ∙ slice_get-map (further n) vs i ∙ ap (λ o. option_map (further n) o) t.1)
    ∙ ap (λ s. n + s) (sym (start_of vs i t.0 t.1))

passes_joined : (test : Kind → Bool) (n : ℕ) (us vs : List Token) (i : ℕ) → KindPasses test vs i →
    KindPasses test (joined n us vs) (length us + i)
passes_joined test n us vs i h = (h.0, kind_joined n us vs i ∙ h.1, h.2)

passes_alone : (test : Kind → Bool) (n : ℕ) (us vs : List Token) (i : ℕ) →
    KindPasses test (joined n us vs) (length us + i) → KindPasses test vs i
passes_alone test n us vs i h = (h.0, sym (kind_joined n us vs i) ∙ h.1, h.2)

-- what is on top
open_far : (n : ℕ) (done : Forest) (frames : List Frame) (item : ℕ) → IsOpenHere frames item →
    IsOpenHere (frames_far n done frames) (n + item)
open_far n done [] item h = absurd h
open_far n done (InList before opener ∷ frames) item h =
    let top = top_far n done (InList before opener) frames in
    subst (λ (fs : List Frame). IsOpenHere fs (n + item)) (sym top.2) (ap (λ i. n + i) h)
open_far n done (InPrefix before prefix ∷ frames) item h = absurd h
open_far n done (InSkip before skip ∷ frames) item h = absurd h

on_top_far : (n : ℕ) (done : Forest) (frames : List Frame) (item : ℕ) → IsOnTop frames item →
    IsOnTop (frames_far n done frames) (n + item)
on_top_far n done [] item h = absurd h
on_top_far n done (InList before opener ∷ frames) item h = absurd h
on_top_far n done (InPrefix before prefix ∷ frames) item h =
    let top = top_far n done (InPrefix before prefix) frames in
    subst (λ (fs : List Frame). IsOnTop fs (n + item)) (sym top.2) (ap (λ i. n + i) h)
on_top_far n done (InSkip before skip ∷ frames) item h =
    let top = top_far n done (InSkip before skip) frames in
    subst (λ (fs : List Frame). IsOnTop fs (n + item)) (sym top.2) (ap (λ i. n + i) h)

-- what stands in the list on top
ends_far : (n : ℕ) (done : Forest) (frames : List Frame) (here : Forest) (item : ℕ) → IsOpenHere frames item →
    EndsInDot (marks_of here) → EndsInDot (marks_of (here_far n done frames here))
ends_far n done [] here item h e = absurd h
ends_far n done (f ∷ frames) here item h e = subst EndsInDot (sym (marks_moved n here)) e

no_dot_far : (n : ℕ) (ts us : List Token) (done : Forest) (frames : List Frame) (here : Forest) → Carried n ts us →
    IsLawful ts frames here [] → NoDotHere ts frames (marks_of here) →
    NoDotHere us (frames_far n done frames) (marks_of (here_far n done frames here))
no_dot_far n ts us done [] here c l h = tt
no_dot_far n ts us done (InList before opener ∷ frames) here c l h =
    let top = top_far n done (InList before opener) frames in
    subst (λ (fs : List Frame). NoDotHere us fs (marks_of (all_moved n here))) (sym top.2)
    (subst (λ (marks : List Mark). TakesNoDot us (n + opener) marks) (sym (marks_moved n here))
    (elim h [
      | inl b ↦
          inl (subst (λ (s : List ℕ). BeginsWith (codes "#") s) (sym (spelling_carried n ts us opener _ c l.1.1)) b)
      | inr more ↦ inr more
    ]))
no_dot_far n ts us done (InPrefix before item ∷ frames) here c l h =
    let top = top_far n done (InPrefix before item) frames in
    subst (λ (fs : List Frame). NoDotHere us fs (marks_of (all_moved n here))) (sym top.2) tt
no_dot_far n ts us done (InSkip before item ∷ frames) here c l h =
    let top = top_far n done (InSkip before item) frames in
    subst (λ (fs : List Frame). NoDotHere us fs (marks_of (all_moved n here))) (sym top.2) tt

no_datum_far : (n : ℕ) (done : Forest) (frames : List Frame) (here : Forest) →
    NoDatumHere (frames_far n done frames) (marks_of (here_far n done frames here))
    ≡ NoDatumHere frames (marks_of here)
no_datum_far n done [] here = refl
no_datum_far n done (InList before opener ∷ frames) here =
    let top = top_far n done (InList before opener) frames in
    ap (λ (fs : List Frame). NoDatumHere fs (marks_of (all_moved n here))) top.2 ∙ ap IsDotted (marks_moved n here)
no_datum_far n done (InPrefix before item ∷ frames) here =
    let top = top_far n done (InPrefix before item) frames in
    ap (λ (fs : List Frame). NoDatumHere fs (marks_of (all_moved n here))) top.2
no_datum_far n done (InSkip before item ∷ frames) here =
    let top = top_far n done (InSkip before item) frames in
    ap (λ (fs : List Frame). NoDatumHere fs (marks_of (all_moved n here))) top.2

-- the item that is told is there
open_there : (ts : List Token) (frames : List Frame) (here : Forest) (item : ℕ) → IsLawful ts frames here [] →
    IsOpenHere frames item → (k : Kind) × (kind_at ts item ≡ Some k)
open_there ts [] here item l h = absurd h
open_there ts (InList before opener ∷ frames) here item l h =
    (Opener l.1.0, ap (λ i. kind_at ts i) h ∙ l.1.1)
open_there ts (InPrefix before prefix ∷ frames) here item l h = absurd h
open_there ts (InSkip before skip ∷ frames) here item l h = absurd h

on_top_there : (ts : List Token) (frames : List Frame) (here : Forest) (item : ℕ) → IsLawful ts frames here [] →
    IsOnTop frames item → (k : Kind) × (kind_at ts item ≡ Some k)
on_top_there ts [] here item l h = absurd h
on_top_there ts (InList before opener ∷ frames) here item l h = absurd h
on_top_there ts (InPrefix before prefix ∷ frames) here item l h = (Prefix, ap (λ i. kind_at ts i) h ∙ l.1)
on_top_there ts (InSkip before skip ∷ frames) here item l h = (Skip, ap (λ i. kind_at ts i) h ∙ l.1)

pub told_there : (ts : List Token) (i : ℕ) (frames : List Frame) (here : Forest) (kind : TreeKind) (item : ℕ) →
    IsLawful ts frames here [] → CannotGoOn ts i frames here kind item → (k : Kind) × (kind_at ts item ≡ Some k)
told_there ts i frames here CloseWithout item l h = (h.1.0, ap (λ j. kind_at ts j) h.0 ∙ h.1.1)
told_there ts i frames here CloseMismatch item l h = (Closer h.1.2, ap (λ j. kind_at ts j) h.0 ∙ h.1.5)
told_there ts i frames here OpenList item l h = open_there ts frames here item l h.1
told_there ts i frames here NothingAfter item l h = on_top_there ts frames here item l h.0
told_there ts i frames here BadDot item l h =
    elim (h.1) [
      | inl ends ↦ (Closer ends.3.0, ap (λ j. kind_at ts j) h.0 ∙ ends.3.2)
      | inr (inl dot) ↦ (Dot, ap (λ j. kind_at ts j) h.0 ∙ dot.0)
      | inr (inr datum) ↦ (datum.0.0, ap (λ j. kind_at ts j) h.0 ∙ datum.0.1)
    ]
told_there ts i frames here TooDeep item l h = (h.1.0, ap (λ j. kind_at ts j) h.0 ∙ h.1.1)

-- and it can't go on there either
halts_far : (n : ℕ) (us vs : List Token) (done : Forest) (i : ℕ) (frames : List Frame) (here : Forest)
    (kind : TreeKind) (item : ℕ) → IsLawful vs frames here [] → CannotGoOn vs i frames here kind item →
    CannotGoOn (joined n us vs) (length us + i) (frames_far (length us) done frames)
    (here_far (length us) done frames here) kind (length us + item)
halts_far n us vs done i frames here CloseWithout item l h = (
  ap (λ j. length us + j) h.0,
  passes_joined _ n us vs i h.1,
  ap (λ (fs : List Frame). frames_far (length us) done fs) h.2,
)
halts_far n us vs done i frames here CloseMismatch item l h = (
  ap (λ j. length us + j) h.0,
  (
    length us + h.1.0,
    h.1.1,
    h.1.2,
    open_far (length us) done frames h.1.0 h.1.3,
    kind_joined n us vs h.1.0 ∙ h.1.4,
    kind_joined n us vs i ∙ h.1.5,
    h.1.6,
  ),
)
halts_far n us vs done i frames here OpenList item l h = (
  ap (λ j. length us + j) h.0 ∙ sym (length_joined n us vs),
  open_far (length us) done frames item h.1,
)
halts_far n us vs done i frames here NothingAfter item l h = (
  on_top_far (length us) done frames item h.0,
  elim (h.1) [
    | inl closer ↦ inl (passes_joined _ n us vs i closer)
    | inr end ↦ inr (ap (λ j. length us + j) end ∙ sym (length_joined n us vs))
  ],
)
halts_far n us vs done i frames here BadDot item l h = (
  ap (λ j. length us + j) h.0,
  elim (h.1) [
    | inl ends ↦
        inl (
          length us + ends.0,
          open_far (length us) done frames ends.0 ends.1,
          ends_far (length us) done frames here ends.0 ends.1 ends.2,
          (ends.3.0, kind_joined n us vs ends.0 ∙ ends.3.1, kind_joined n us vs i ∙ ends.3.2),
        )
    | inr (inl dot) ↦
        inr
        (inl (
          kind_joined n us vs i ∙ dot.0,
          no_dot_far (length us) vs (joined n us vs) done frames here (behind_carried n us vs) l dot.1,
        ))
    | inr (inr datum) ↦
        inr
        (inr (
          passes_joined _ n us vs i datum.0,
          subst (λ X. X) (sym (no_datum_far (length us) done frames here)) datum.1,
        ))
  ],
)
halts_far n us vs done i frames here TooDeep item l h = (
  ap (λ j. length us + j) h.0,
  passes_joined _ n us vs i h.1,
  length_far (length us) done frames ∙ h.2,
  λ datum none. h.3 (passes_alone _ n us vs i datum) (subst (λ X. X) (no_datum_far (length us) done frames here) none),
)

pub tree_refusals_joined : TreeRefusalsJoin
tree_refusals_joined n us vs f kind offset u r =
    let all : List Token = joined n us vs in
    let formed : AreFormed all f =
    subst (λ (e : Forest). AreFormed all e) (all_moved_none f)
    (forest_carried 0 us all f (first_carried n us vs) u.formed) in
    let told = told_there vs r.n r.frames r.here kind r.item r.place.lawful r.halts in
    record {
      n = length us + r.n;
      frames = frames_far (length us) f r.frames;
      here = here_far (length us) f r.frames r.here;
      place = record {
        items_are =
            items_far (length us) f r.frames r.here
            ∙ rw (u.items_are, r.place.items_are) (sym (range_joined (length us) r.n));
        lawful =
            lawful_far (length us) vs all f r.frames r.here [] (behind_carried n us vs) formed u.dotless u.shallow
            r.place.lawful;
      };
      item = length us + r.item;
      halts = halts_far n us vs f r.n r.frames r.here kind r.item r.place.lawful r.halts;
      offset_is = ap (λ s. n + s) r.offset_is ∙ sym (start_joined n us vs r.item told.0 told.1);
    }
