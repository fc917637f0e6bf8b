-- Items have one tree or one refusal, never both, and always one of them.
use Rattle.std.proofs.Common.{add-zero, zero-add, ◌≡◌, ℕ, zero, suc, ◌+◌, ◌-◌, ◌<◌, ◌⊎◌, inl, inr, cond, not, true, false, Some, None, List, [], ◌∷◌, ◌++◌, length, refl, sym, ap, ◌∙◌, subst, arith}
use Rattle.std.specs.Prelude.{codes}
use Rattle.std.specs.List.{range_with_len}
use Rattle.std.specs.Option.{option_map}
use Rattle.std.proofs.lemmas.Bool.{and_left, and_right, not_from_true, false≢true, le-ltb, false_from_ne_true, true_from_ne_false, cases_lt}
use Rattle.std.proofs.lemmas.List.{append_assoc, append-nil}
use Rattle.std.proofs.lemmas.Option.{slice_get_past}
use Rattle.rf_base_grammar.specs.Reader.{begins}
use Rattle.rf_base_grammar.specs.Token.{Token, opens, closes}
use Rattle.rf_base_grammar.specs.declared.kinds.Bracket.{Bracket}
use Rattle.rf_base_grammar.specs.declared.kinds.Kind.{Kind}
use Rattle.rf_base_grammar.specs.declared.kinds.Kind.TheVariants.{Opener, Closer, Prefix, Skip, Dot, Atom, Str, Here, Lang}
use Rattle.rf_base_grammar.proofs.Words.{begins_word}
use Rattle.rf_base_tree.specs.Trees.{Point, Listed, Leaf, Forest, Empty, kind_at, start_at, spelling_at, forest_items, forest_depth}
use Rattle.rf_base_tree.specs.Dots.{Mark, marks_of, AllData, MayGoOn}
use Rattle.rf_base_tree.specs.Dotting.{takes_dot, ends_in_dot}
use Rattle.rf_base_tree.specs.Formed.{KindPasses, AreFormed, depth_limit, Treed}
use Rattle.rf_base_tree.specs.Places.{Frame, InList, InPrefix, InSkip, before_of, item_of, becomes, place_items, HasItsKind, IsLawful, IsPlace}
use Rattle.rf_base_tree.specs.Refusals.{begins_datum, EndsInDot, NoDotHere, NoDatumHere, IsOnTop, IsOpenHere, ClosesBehindDot, CannotGoOn, TreeRefused}
use Rattle.rf_base_tree.specs.Moves.{Move, Goes, Halts, push, dots_so_far, datum_may_stand, dot_may_stand, unless_bad_dot, behind_datum, begin, same_bracket, close_list, move_at}
use Rattle.rf_base_tree.specs.declared.refusals.TreeKind.{TreeKind}
use Rattle.rf_base_tree.specs.declared.refusals.TreeKind.TheVariants.{CloseWithout, CloseMismatch, OpenList, NothingAfter, BadDot, TooDeep}
use Rattle.rf_base_tree.proofs.Forests.{append_to_none}
use Rattle.rf_base_tree.proofs.Dotting.{takes_some_dot, ends_walked}
use Rattle.rf_base_tree.proofs.MoveMeans.{same_found, same_refl, no_datum_here, some_datum_here, MoveMeans, move_means, End, Ended, Unended, end_at, EndMeans, end_means}
use Rattle.rf_base_tree.proofs.TreeReading.{Good, Bad, follow, verdict_of, reads, verdict, reads_item, reads_same, datum_stands, fewer_lawful, begin_goes, read_begin, AllStand, all_in_list, all_at_top, all_comments, forest_read}

-- what was begun is begun again by its first item
begun_again : (ts : List Token) (f : Frame) (ns : List ℕ) (frames : List Frame) →
    IsLawful ts frames (before_of f) (becomes f) → HasItsKind ts f → length frames < depth_limit →
    reads ts (item_of f ∷ ns) frames (before_of f) ≡ reads ts ns (f ∷ frames) Empty
begun_again ts (InList before opener) ns frames l k room =
    reads_item ts opener ns frames before (Opener k.0) k.1
    ∙ read_begin ts opener ns frames before (InList before opener) (datum_stands ts frames before l) room
begun_again ts (InPrefix before item) ns frames l k room =
    reads_item ts item ns frames before Prefix k
    ∙ read_begin ts item ns frames before (InPrefix before item) (datum_stands ts frames before l) room
begun_again ts (InSkip before item) ns frames l k room =
    reads_item ts item ns frames before Skip k
    ∙ ap (λ mv. follow mv (λ fs h. reads ts ns fs h)) (begin_goes (InSkip before item) item frames room)

-- a place's trees may come next where nothing stands yet
none_yet : (ts : List Token) (f : Frame) (frames : List Frame) (here : Forest) (next : List Mark) →
    IsLawful ts (f ∷ frames) here next → IsLawful ts (f ∷ frames) Empty (marks_of here)
unfolding marks_of forest_depth AreFormed
none_yet ts (InList before opener) frames here next l =
    let less =
    fewer_lawful ts (InList before opener ∷ frames) Empty (marks_of here) next
    (l.0, l.1, tt, l.3, omega (arith, l.4)) in
    (l.0, l.1, tt, less.3, omega (arith, l.4))
none_yet ts _ frames here next l = (l.0, l.1, tt, refl, omega (arith, l.4))

none_at_top : (ts : List Token) (here : Forest) (next : List Mark) → IsLawful ts [] here next →
    IsLawful ts [] Empty (marks_of here)
unfolding marks_of forest_depth AreFormed
none_at_top ts here next l =
    let less = fewer_lawful ts [] here [] next l in
    (tt, subst AllData (append-nil (marks_of here)) less.1, omega arith)

all_stand_here : (ts : List Token) (f : Frame) (frames : List Frame) (here : Forest) (next : List Mark) →
    IsLawful ts (f ∷ frames) here next → AllStand (f ∷ frames) here
all_stand_here ts (InList before opener) frames here next l = all_in_list before opener frames here
all_stand_here ts (InPrefix before item) frames here next l = all_comments (InPrefix before item ∷ frames) here l.3
all_stand_here ts (InSkip before item) frames here next l = all_comments (InSkip before item ∷ frames) here l.3

-- reading the items of a lawful place from the start leads to that place
place_read : (ts : List Token) (frames : List Frame) (here : Forest) (next : List Mark) (ns : List ℕ) →
    IsLawful ts frames here next → reads ts (place_items frames here ++ ns) [] Empty ≡ reads ts ns frames here
place_read ts [] here next ns l =
    forest_read ts here ns [] Empty l.0 (none_at_top ts here next l) (all_at_top here) (omega (arith, l.2))
    ∙ ap (λ f. reads ts ns [] f) (append_to_none here)
place_read ts (f ∷ frames) here next ns l =
    reads_same ts _ _ [] Empty (append_assoc (place_items frames (before_of f)) (item_of f ∷ forest_items here) ns)
    ∙ place_read ts frames (before_of f) (becomes f) (item_of f ∷ (forest_items here ++ ns)) l.0
    ∙ begun_again ts f (forest_items here ++ ns) frames l.0 l.1 (omega (arith, l.4))
    ∙ forest_read ts here ns (f ∷ frames) Empty l.2 (none_yet ts f frames here next l)
    (all_stand_here ts f frames here next l) (omega (arith, l.4))
    ∙ ap (λ g. reads ts ns (f ∷ frames) g) (append_to_none here)

-- numbers in two parts
range_split : (a n m : ℕ) → range_with_len a (n + m) ≡ range_with_len a n ++ range_with_len (a + n) m
range_split a zero m = rw (zero-add, add-zero) refl
range_split a (suc n) m =
    let shift : a + 1 + n ≡ a + suc n = omega arith in
    let more : suc n + m ≡ suc (n + m) = omega arith in
    rw more (ap (λ ks. a ∷ ks)
    (range_split (a + 1) n m ∙ ap (λ k. range_with_len (a + 1) n ++ range_with_len k m) shift))

-- what is read from a place is what all the items come to
from_place : (ts : List Token) (n m : ℕ) (frames : List Frame) (here : Forest) → IsPlace ts n frames here →
    length ts ≡ n + m → verdict ts ≡ reads ts (range_with_len n m) frames here
unfolding verdict
from_place ts n m frames here p e =
    let split : range_with_len 0 (n + m) ≡ range_with_len 0 n ++ range_with_len n m =
    range_split 0 n m ∙ ap (λ k. range_with_len 0 n ++ range_with_len k m) (zero-add n) in
    reads_same ts _ _ [] Empty
    (ap (λ k. range_with_len 0 k) e ∙ split ∙ ap (λ ks. ks ++ range_with_len n m) (sym p.items_are))
    ∙ place_read ts frames here [] (range_with_len n m) p.lawful

-- an item with a kind is one of the items
pub kind_within : (ts : List Token) (n : ℕ) (k : Kind) → kind_at ts n ≡ Some k → n < length ts
kind_within ts n k e =
    elim (cases_lt n (length ts)) [
      | inl l ↦ l
      | inr g ↦
          let none : kind_at ts n ≡ None = ap (λ o. option_map (λ (t : Token). t.kind) o) (slice_get_past ts n g) in cc
    ]

-- at a place whose next item is of a kind that halts, all the items come to that halt
halts_here : (ts : List Token) (n : ℕ) (frames : List Frame) (here : Forest) (k : Kind) (kind : TreeKind) (item : ℕ) →
    IsPlace ts n frames here → kind_at ts n ≡ Some k → move_at ts k n frames here ≡ Halts kind item →
    verdict ts ≡ Bad kind item
halts_here ts n frames here k kind item p e m =
    let within : n < length ts = kind_within ts n k e in
    from_place ts n (suc (length ts - (n + 1))) frames here p (omega arith)
    ∙ reads_item ts n (range_with_len (n + 1) (length ts - (n + 1))) frames here k e
    ∙ ap (λ mv. follow mv (λ fs h. reads ts (range_with_len (n + 1) (length ts - (n + 1))) fs h)) m

ends_here : (ts : List Token) (frames : List Frame) (here : Forest) (kind : TreeKind) (item : ℕ) →
    IsPlace ts (length ts) frames here → end_at frames here ≡ Unended kind item → verdict ts ≡ Bad kind item
unfolding reads
ends_here ts frames here kind item p e = from_place ts (length ts) 0 frames here p (omega arith) ∙ ap verdict_of e

-- trees come to themselves
pub verdict-Treed : (ts : List Token) (trees : Forest) → Treed ts trees → verdict ts ≡ Good trees
unfolding verdict reads
verdict-Treed ts trees h =
    reads-of-trees ts trees (place_read ts [] trees [] [] (
      h.formed,
      subst AllData (sym (append-nil (marks_of trees))) h.dotless,
      h.shallow,
    )) h
  where
    reads-of-trees : (ts : List Token) (trees : Forest) →
        reads ts (place_items [] trees ++ []) [] Empty ≡ reads ts [] [] trees → Treed ts trees →
        reads ts (range_with_len 0 (length ts)) [] Empty ≡ Good trees
    reads-of-trees ts trees r h =
        reads_same ts _ _ [] Empty (sym h.items_are ∙ sym (append-nil (forest_items trees))) ∙ r

-- a closer's move is its own
is_closer : (k : Kind) → closes k ≡ true → (c : Bracket) × (k ≡ Closer c)
is_closer (Closer b) h = (b, refl)
is_closer _ h = absurd (false≢true h)

-- with nothing begun a closer halts
without_halts : (ts : List Token) (n : ℕ) (frames : List Frame) (here : Forest) (k : Kind) → closes k ≡ true →
    frames ≡ [] → move_at ts k n frames here ≡ Halts CloseWithout n
without_halts ts n frames here k h e =
    let c = is_closer k h in
    ap (λ j. move_at ts j n frames here) c.1 ∙ ap (λ fs. move_at ts (Closer c.0) n fs here) e

-- behind a prefix or a skip a closer halts
nothing_halts : (ts : List Token) (n : ℕ) (frames : List Frame) (here : Forest) (k : Kind) (item : ℕ) →
    closes k ≡ true → IsOnTop frames item → move_at ts k n frames here ≡ Halts NothingAfter item
nothing_halts ts n frames here k item h t =
    let c = is_closer k h in
    ap (λ j. move_at ts j n frames here) c.1 ∙ on_top c.0 frames t
  where
    on_top : (c : Bracket) (frames : List Frame) → IsOnTop frames item →
        move_at ts (Closer c) n frames here ≡ Halts NothingAfter item
    on_top c [] t = absurd t
    on_top c (InList before opener ∷ frames) t = absurd t
    on_top c (InPrefix before prefix ∷ frames) t = ap (λ i. Halts NothingAfter i) (sym t)
    on_top c (InSkip before skip ∷ frames) t = ap (λ i. Halts NothingAfter i) (sym t)

different : (b c : Bracket) → (b ≡ c → ⊥) → same_bracket b c ≡ false
different b c n = false_from_ne_true (same_bracket b c) (λ h. n (same_found b c h))

-- a closer of another bracket halts
mismatch_halts : (ts : List Token) (n : ℕ) (frames : List Frame) (here : Forest) (opener : ℕ) (b c : Bracket) →
    IsOpenHere frames opener → kind_at ts opener ≡ Some (Opener b) → (b ≡ c → ⊥) →
    move_at ts (Closer c) n frames here ≡ Halts CloseMismatch n
mismatch_halts ts n (InList before first ∷ frames) here opener b c t o d =
    ap (λ k. close_list k c n frames before first here) (sym (ap (λ i. kind_at ts i) t) ∙ o)
    ∙ ap (λ s. cond s
    (unless_bad_dot (not (ends_in_dot (dots_so_far here))) n (behind_datum frames before (Listed first here n)))
    (Halts CloseMismatch n)) (different b c d)
mismatch_halts ts n _ here opener b c t o d = absurd t

-- a closer behind a dot halts
dot_close_halts : (ts : List Token) (n : ℕ) (frames : List Frame) (here : Forest) (opener : ℕ) (b : Bracket) →
    IsLawful ts frames here [] → IsOpenHere frames opener → EndsInDot (marks_of here) →
    kind_at ts opener ≡ Some (Opener b) → move_at ts (Closer b) n frames here ≡ Halts BadDot n
dot_close_halts ts n (InList before first ∷ frames) here opener b l t d o =
    ap (λ k. close_list k b n frames before first here) (sym (ap (λ i. kind_at ts i) t) ∙ o)
    ∙ ap (λ s. cond s
    (unless_bad_dot (not (ends_in_dot (dots_so_far here))) n (behind_datum frames before (Listed first here n)))
    (Halts CloseMismatch n)) (same_refl b)
    ∙ ap (λ s. unless_bad_dot (not s) n (behind_datum frames before (Listed first here n)))
    (ends_walked (marks_of here) (subst MayGoOn (append-nil (marks_of here)) l.3.0) d)
dot_close_halts ts n _ here opener b l t d o = absurd t

-- no dot may stand where the definitions say that none can
no_dot_stands : (ts : List Token) (frames : List Frame) (here : Forest) → IsLawful ts frames here [] →
    NoDotHere ts frames (marks_of here) → dot_may_stand ts frames here ≡ false
no_dot_stands ts (InList before opener ∷ frames) here l (inl b) =
    and_left (not (begins (codes "#") (spelling_at ts opener))) _
    (not_from_true (begins (codes "#") (spelling_at ts opener)) (begins_word (codes "#") (spelling_at ts opener) b))
no_dot_stands ts (InList before opener ∷ frames) here l (inr d) =
    and_right (not (begins (codes "#") (spelling_at ts opener))) _
    (false_from_ne_true (takes_dot (dots_so_far here)) (λ t. takes_some_dot (marks_of here) t d))
no_dot_stands ts _ here l h = refl

-- no datum may stand where they say that none can
no_datum_stands : (ts : List Token) (frames : List Frame) (here : Forest) → IsLawful ts frames here [] →
    NoDatumHere frames (marks_of here) → datum_may_stand frames here ≡ false
no_datum_stands ts frames here l h =
    false_from_ne_true (datum_may_stand frames here) (λ t. some_datum_here ts frames here l t h)

-- a datum's first item halts where none can stand
datum_halts : (ts : List Token) (n : ℕ) (frames : List Frame) (here : Forest) (k : Kind) → begins_datum k ≡ true →
    datum_may_stand frames here ≡ false → move_at ts k n frames here ≡ Halts BadDot n
datum_halts ts n frames here (Opener b) h f = ap (λ t. unless_bad_dot t n (begin (InList here n) n frames)) f
datum_halts ts n frames here Prefix h f = ap (λ t. unless_bad_dot t n (begin (InPrefix here n) n frames)) f
datum_halts ts n frames here Atom h f = ap (λ t. unless_bad_dot t n (behind_datum frames here (Leaf n))) f
datum_halts ts n frames here Str h f = ap (λ t. unless_bad_dot t n (behind_datum frames here (Leaf n))) f
datum_halts ts n frames here Here h f = ap (λ t. unless_bad_dot t n (behind_datum frames here (Leaf n))) f
datum_halts ts n frames here Lang h f = ap (λ t. unless_bad_dot t n (behind_datum frames here (Leaf n))) f
datum_halts ts n frames here _ h f = absurd (false≢true h)

-- where as much is begun as may be, what begins more halts
full : (f : Frame) (n : ℕ) (frames : List Frame) → length frames ≡ depth_limit → begin f n frames ≡ Halts TooDeep n
full f n frames e =
    ap (λ b. cond b (Goes (f ∷ frames) Empty) (Halts TooDeep n)) (le-ltb (length frames) depth_limit (omega arith))

may_stand : (frames : List Frame) (here : Forest) → (NoDatumHere frames (marks_of here) → ⊥) → (ts : List Token) →
    IsLawful ts frames here [] → datum_may_stand frames here ≡ true
may_stand frames here n ts l =
    true_from_ne_false (datum_may_stand frames here) (λ f. n (no_datum_here ts frames here l f))

deep_halts : (ts : List Token) (n : ℕ) (frames : List Frame) (here : Forest) (k : Kind) → IsLawful ts frames here [] →
    opens k ≡ true → length frames ≡ depth_limit →
    (begins_datum k ≡ true → NoDatumHere frames (marks_of here) → ⊥) → move_at ts k n frames here ≡ Halts TooDeep n
deep_halts ts n frames here (Opener b) l h e d =
    ap (λ t. unless_bad_dot t n (begin (InList here n) n frames)) (may_stand frames here (d refl) ts l)
    ∙ full (InList here n) n frames e
deep_halts ts n frames here Prefix l h e d =
    ap (λ t. unless_bad_dot t n (begin (InPrefix here n) n frames)) (may_stand frames here (d refl) ts l)
    ∙ full (InPrefix here n) n frames e
deep_halts ts n frames here Skip l h e d = full (InSkip here n) n frames e
deep_halts ts n frames here _ l h e d = absurd (false≢true h)

-- what stands open at the end halts
open_ends : (frames : List Frame) (here : Forest) (opener : ℕ) → IsOpenHere frames opener →
    end_at frames here ≡ Unended OpenList opener
open_ends (InList before first ∷ frames) here opener t = ap (λ i. Unended OpenList i) (sym t)
open_ends _ here opener t = absurd t

nothing_ends : (frames : List Frame) (here : Forest) (item : ℕ) → IsOnTop frames item →
    end_at frames here ≡ Unended NothingAfter item
nothing_ends (InPrefix before prefix ∷ frames) here item t = ap (λ i. Unended NothingAfter i) (sym t)
nothing_ends (InSkip before skip ∷ frames) here item t = ap (λ i. Unended NothingAfter i) (sym t)
nothing_ends _ here item t = absurd t

-- where no item can go on, all the items come to that refusal
refused_here : (ts : List Token) (n : ℕ) (frames : List Frame) (here : Forest) (kind : TreeKind) (item : ℕ) →
    IsPlace ts n frames here → CannotGoOn ts n frames here kind item → verdict ts ≡ Bad kind item
refused_here ts n frames here CloseWithout item p h =
    halts_here ts n frames here h.1.0 CloseWithout n p h.1.1 (without_halts ts n frames here h.1.0 h.1.2 h.2)
    ∙ ap (λ i. Bad CloseWithout i) (sym h.0)
refused_here ts n frames here CloseMismatch item p h =
    let m = h.1 in
    halts_here ts n frames here (Closer m.2) CloseMismatch n p m.5
    (mismatch_halts ts n frames here m.0 m.1 m.2 m.3 m.4 m.6) ∙ ap (λ i. Bad CloseMismatch i) (sym h.0)
refused_here ts n frames here OpenList item p h =
    ends_here ts frames here OpenList item (subst (λ m. IsPlace ts m frames here) h.0 p)
    (open_ends frames here item h.1)
refused_here ts n frames here NothingAfter item p h = nothing h.1
  where
    nothing : KindPasses closes ts n ⊎ (n ≡ length ts) → verdict ts ≡ Bad NothingAfter item
    nothing (inl c) =
        halts_here ts n frames here c.0 NothingAfter item p c.1 (nothing_halts ts n frames here c.0 item c.2 h.0)
    nothing (inr e) =
        ends_here ts frames here NothingAfter item (subst (λ m. IsPlace ts m frames here) e p)
        (nothing_ends frames here item h.0)
refused_here ts n frames here BadDot item p h = dot h.1 ∙ ap (λ i. Bad BadDot i) (sym h.0)
  where
    dot : ClosesBehindDot ts n frames (marks_of here)
        ⊎ (((kind_at ts n ≡ Some Dot) × NoDotHere ts frames (marks_of here))
        ⊎ (KindPasses begins_datum ts n × NoDatumHere frames (marks_of here))) → verdict ts ≡ Bad BadDot n
    dot (inl c) =
        halts_here ts n frames here (Closer c.3.0) BadDot n p c.3.2
        (dot_close_halts ts n frames here c.0 c.3.0 p.lawful c.1 c.2 c.3.1)
    dot (inr (inl d)) =
        halts_here ts n frames here Dot BadDot n p d.0
        (ap (λ t. unless_bad_dot t n (Goes frames (push here (Point n)))) (no_dot_stands ts frames here p.lawful d.1))
    dot (inr (inr d)) =
        halts_here ts n frames here d.0.0 BadDot n p d.0.1
        (datum_halts ts n frames here d.0.0 d.0.2 (no_datum_stands ts frames here p.lawful d.1))
refused_here ts n frames here TooDeep item p h =
    let k = h.1 in
    halts_here ts n frames here k.0 TooDeep n p k.1 (deep_halts ts n frames here k.0 p.lawful k.2 h.2 (λ b. h.3 (
      k.0,
      k.1,
      b,
    ))) ∙ ap (λ i. Bad TooDeep i) (sym h.0)

pub verdict-TreeRefused : (ts : List Token) (kind : TreeKind) (offset : ℕ) (r : TreeRefused ts kind offset) →
    verdict ts ≡ Bad kind r.item
verdict-TreeRefused ts kind offset r = refused_here ts r.n r.frames r.here kind r.item r.place r.halts

-- items have one tree
pub Treed-one : (ts : List Token) (a b : Forest) → Treed ts a → Treed ts b → a ≡ b
Treed-one ts a b h k =
    let same : Good a ≡ Good b = sym (verdict-Treed ts a h) ∙ verdict-Treed ts b k in
    cc

-- no items have both a tree and a refusal
pub Treed-apart : (ts : List Token) (trees : Forest) (kind : TreeKind) (offset : ℕ) → Treed ts trees →
    TreeRefused ts kind offset → ⊥
Treed-apart ts trees kind offset h r =
    let same : Good trees ≡ Bad kind r.item = sym (verdict-Treed ts trees h) ∙ verdict-TreeRefused ts kind offset r in
    cc

-- items are refused in one way
pub TreeRefused-one : (ts : List Token) (k k' : TreeKind) (o o' : ℕ) → TreeRefused ts k o → TreeRefused ts k' o' →
    (k ≡ k') × (o ≡ o')
TreeRefused-one ts k k' o o' h h' =
    let same : Bad k h.item ≡ Bad k' h'.item = sym (verdict-TreeRefused ts k o h) ∙ verdict-TreeRefused ts k' o' h' in
    let item : h.item ≡ h'.item = cc in
    (cc, h.offset_is ∙ ap (λ n. start_at ts n) item ∙ sym h'.offset_is)

-- each list of items has a tree or a refusal
abbrev TreedOrRefused : List Token → Type 0
TreedOrRefused ts =
    ((trees : Forest) × Treed ts trees) ⊎ ((kind : TreeKind) × (offset : ℕ) × TreeRefused ts kind offset)

refused_at : (ts : List Token) (n : ℕ) (frames : List Frame) (here : Forest) (kind : TreeKind) (item : ℕ) →
    IsPlace ts n frames here → CannotGoOn ts n frames here kind item → TreedOrRefused ts
refused_at ts n frames here kind item p h =
    inr (
      kind,
      start_at ts item,
      record { n = n; frames = frames; here = here; place = p; item = item; halts = h; offset_is = refl },
    )

ended : (ts : List Token) (frames : List Frame) (here : Forest) → IsPlace ts (length ts) frames here → (end : End) →
    EndMeans ts frames here end → TreedOrRefused ts
ended ts frames here p (Ended trees) m = inl (trees, m)
ended ts frames here p (Unended kind item) m = refused_at ts (length ts) frames here kind item p m

kind_of_each : (ts : List Token) (n : ℕ) → n < length ts → (k : Kind) × (kind_at ts n ≡ Some k)
kind_of_each [] n l = absurd (omega arith)
kind_of_each (t ∷ ts) zero l = (t.kind, refl)
kind_of_each (t ∷ ts) (suc n) l = kind_of_each ts n (omega arith)

-- on from a place, where fewer items are left
ReachesFrom : List Token → ℕ → Type 0
ReachesFrom ts left =
    (n : ℕ) (frames : List Frame) (here : Forest) → IsPlace ts n frames here → n + left ≡ length ts → TreedOrRefused ts

moved : (ts : List Token) (left n : ℕ) (frames : List Frame) (here : Forest) → ReachesFrom ts left →
    IsPlace ts n frames here → n + suc left ≡ length ts → (move : Move) → MoveMeans ts n frames here move →
    TreedOrRefused ts
unfolding ReachesFrom
moved ts left n frames here rest p e (Goes fs h) m = rest (n + 1) fs h m (omega arith)
moved ts left n frames here rest p e (Halts kind item) m = refused_at ts n frames here kind item p m

on_from : (ts : List Token) (left : ℕ) → ReachesFrom ts left
unfolding ReachesFrom
on_from ts zero n frames here p e =
    let end : n ≡ length ts = omega arith in
    let q = subst (λ m. IsPlace ts m frames here) end p in
    ended ts frames here q (end_at frames here) (end_means ts frames here q)
on_from ts (suc left) n frames here p e =
    let k = kind_of_each ts n (omega arith) in
    moved ts left n frames here (on_from ts left) p e (move_at ts k.0 n frames here)
    (move_means ts n frames here k.0 p k.1)

pub start : (ts : List Token) → IsPlace ts 0 [] Empty
unfolding forest_items forest_depth AreFormed marks_of
start ts = record { items_are = refl; lawful = (tt, tt, omega arith) }

pub treed_or_refused : (ts : List Token) →
    ((trees : Forest) × Treed ts trees) ⊎ ((kind : TreeKind) × (offset : ℕ) × TreeRefused ts kind offset)
unfolding ReachesFrom
treed_or_refused ts = on_from ts (length ts) 0 [] Empty (start ts) (omega arith)
