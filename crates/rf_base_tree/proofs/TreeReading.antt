-- Trees and refusals by one reading of the items, from left to right.
use Rattle.std.proofs.Common.{◌≡◌, ℕ, ◌+◌, ◌<◌, ◌≤◌, cond, not, true, false, Option, Some, None, List, [], ◌∷◌, ◌++◌, length, refl, sym, ap, ◌∙◌, subst, arith}
use Rattle.std.specs.Prelude.{codes}
use Rattle.std.specs.List.{range_with_len}
use Rattle.std.proofs.lemmas.Bool.{and_from, not_from_false, false≢true, lt-ltb}
use Rattle.std.proofs.lemmas.List.{append_assoc, append-nil}
use Rattle.rf_base_grammar.specs.Reader.{begins}
use Rattle.rf_base_grammar.specs.Token.{Token}
use Rattle.rf_base_grammar.specs.declared.kinds.Bracket.{Bracket}
use Rattle.rf_base_grammar.specs.declared.kinds.Kind.{Kind}
use Rattle.rf_base_grammar.specs.declared.kinds.Kind.TheVariants.{Opener, Closer, Prefix, Skip, Dot, Atom, Str, Here, Block, Line, Lang}
use Rattle.rf_base_grammar.proofs.Words.{begins_not}
use Rattle.rf_base_tree.specs.Trees.{Tree, Leaf, Point, Comment, Prefixed, DatumComment, Listed, Forest, Empty, Then, kind_at, spelling_at, tree_items, forest_items, tree_depth, forest_depth}
use Rattle.rf_base_tree.specs.Dots.{Mark, OfDatum, OfDot, marked, marks_of, AllData, AreLawful, MayGoOn}
use Rattle.rf_base_tree.specs.Dotting.{Dotting, NoData, Data, Paired, Broken, step, takes_datum, takes_dot, ends_in_dot}
use Rattle.rf_base_tree.specs.Formed.{is_whole, is_remark, IsDatum, IsFormed, AreFormed, AreComments, depth_limit}
use Rattle.rf_base_tree.specs.Places.{Frame, InList, InPrefix, InSkip, IsLawful}
use Rattle.rf_base_tree.specs.Moves.{Move, Goes, Halts, push, behind_datum, dots_so_far, datum_may_stand, dot_may_stand, unless_bad_dot, begin, close_list, move_at}
use Rattle.rf_base_tree.specs.declared.refusals.TreeKind.{TreeKind}
use Rattle.rf_base_tree.specs.declared.refusals.TreeKind.TheVariants.{CloseMismatch, OpenList, TooDeep}
use Rattle.rf_base_tree.proofs.Forests.{append, marked_append, append_to_none}
use Rattle.rf_base_tree.proofs.Dotting.{walk-append, go_on_walk, lawful_has_no_end}
use Rattle.rf_base_tree.proofs.MoveMeans.{End, Ended, Unended, end_at, StandsOn, comment_stands, push_lawful, same_refl}

-- what the items come to: trees, or a refusal at an item
pub data Verdict : Type 0 where
  Good : (trees : Forest) → Verdict
  Bad : (kind : TreeKind) (item : ℕ) → Verdict

-- on from a move
abbrev pub follow : Move → (List Frame → Forest → Verdict) → Verdict
follow (Goes frames here) go = go frames here
follow (Halts kind item) go = Bad kind item

-- one item, by its kind; where there is no such item any verdict serves
abbrev pub turn : List Token → Option Kind → ℕ → List Frame → Forest → (List Frame → Forest → Verdict) → Verdict
turn ts None n frames here go = Bad OpenList n
turn ts (Some k) n frames here go = follow (move_at ts k n frames here) go

abbrev pub verdict_of : End → Verdict
verdict_of (Ended trees) = Good trees
verdict_of (Unended kind item) = Bad kind item

-- the items with these numbers, read from a place
unfoldable pub reads : List Token → List ℕ → List Frame → Forest → Verdict
reads ts [] frames here = verdict_of (end_at frames here)
reads ts (n ∷ ns) frames here = turn ts (kind_at ts n) n frames here (λ fs h. reads ts ns fs h)

-- all the items, from the start
unfoldable pub verdict : List Token → Verdict
verdict ts = reads ts (range_with_len 0 (length ts)) [] Empty

-- what follows a tree that is complete: a datum completes what it stands behind
abbrev behind : List Token → List ℕ → List Frame → Forest → Tree → Verdict
behind ts ns frames here (Point item) = reads ts ns frames (push here (Point item))
behind ts ns frames here (Comment item) = reads ts ns frames (push here (Comment item))
behind ts ns frames here (DatumComment item lead inner) = reads ts ns frames (push here (DatumComment item lead inner))
behind ts ns frames here t = follow (behind_datum frames here t) (λ fs h. reads ts ns fs h)

-- one item is read as its kind says
pub reads_item : (ts : List Token) (n : ℕ) (ns : List ℕ) (frames : List Frame) (here : Forest) (k : Kind) →
    kind_at ts n ≡ Some k →
    reads ts (n ∷ ns) frames here ≡ follow (move_at ts k n frames here) (λ fs h. reads ts ns fs h)
unfolding reads
reads_item ts n ns frames here k e = ap (λ o. turn ts o n frames here (λ fs h. reads ts ns fs h)) e

pub reads_same : (ts : List Token) (ns ms : List ℕ) (frames : List Frame) (here : Forest) → ns ≡ ms →
    reads ts ns frames here ≡ reads ts ms frames here
reads_same ts ns ms frames here e = ap (λ ks. reads ts ks frames here) e

-- where a datum comes next it may stand
datum_taken : (s : Dotting) → (step s OfDatum ≡ Broken → ⊥) → takes_datum s ≡ true
datum_taken Paired n = absurd (n refl)
datum_taken Broken n = absurd (n refl)
datum_taken _ n = refl

dot_taken : (s : Dotting) → (step s OfDot ≡ Broken → ⊥) → takes_dot s ≡ true
dot_taken Data n = refl
dot_taken Paired n = refl
dot_taken _ n = absurd (n refl)

pub datum_stands : (ts : List Token) (frames : List Frame) (here : Forest) → IsLawful ts frames here (OfDatum ∷ []) →
    datum_may_stand frames here ≡ true
datum_stands ts (InList before opener ∷ frames) here h =
    datum_taken (dots_so_far here) (λ e. go_on_walk (marks_of here ++ OfDatum ∷ []) h.3.0
    (walk-append NoData (marks_of here) (OfDatum ∷ []) ∙ e))
datum_stands ts _ here h = refl

no_dot_in_data : (marks : List Mark) → AllData (marks ++ OfDot ∷ []) → ⊥
no_dot_in_data [] h = let e = h.0 in cc
no_dot_in_data (m ∷ marks) h = no_dot_in_data marks h.1

dot_stands : (ts : List Token) (frames : List Frame) (here : Forest) (n : ℕ) → IsLawful ts frames here (OfDot ∷ []) →
    StandsOn frames (Point n) → dot_may_stand ts frames here ≡ true
dot_stands ts [] here n h s = absurd (no_dot_in_data (marks_of here) h.1)
dot_stands ts (InList before opener ∷ frames) here n h s =
    and_from _ _
    (not_from_false (begins (codes "#") (spelling_at ts opener))
    (begins_not (codes "#") (spelling_at ts opener) (λ b. no_dot_in_data (marks_of here) (h.3.1 b))))
    (dot_taken (dots_so_far here)
    (λ e. go_on_walk (marks_of here ++ OfDot ∷ []) h.3.0 (walk-append NoData (marks_of here) (OfDot ∷ []) ∙ e)))
dot_stands ts _ here n h s = absurd cc

-- fewer marks that come next
fewer_data : (xs ys : List Mark) → AllData (xs ++ ys) → AllData xs
fewer_data [] ys h = tt
fewer_data (x ∷ xs) ys h = (h.0, fewer_data xs ys h.1)

fewer_go_on : (xs ys : List Mark) → MayGoOn (xs ++ ys) → MayGoOn xs
fewer_go_on xs ys h = (ys ++ h.0, subst AreLawful (append_assoc xs ys h.0) h.1)

pub fewer_lawful : (ts : List Token) (frames : List Frame) (here : Forest) (xs ys : List Mark) →
    IsLawful ts frames here (xs ++ ys) → IsLawful ts frames here xs
fewer_lawful ts [] here xs ys h = (
  h.0,
  fewer_data (marks_of here ++ xs) ys (subst AllData (sym (append_assoc (marks_of here) xs ys)) h.1),
  h.2,
)
fewer_lawful ts (InList before opener ∷ frames) here xs ys h =
    let whole = sym (append_assoc (marks_of here) xs ys) in (
      h.0,
      h.1,
      h.2,
      (
        fewer_go_on (marks_of here ++ xs) ys (subst MayGoOn whole h.3.0),
        λ b. fewer_data (marks_of here ++ xs) ys
            (subst AllData whole (h.3.1 b)),
      ),
      h.4,
    )
fewer_lawful ts _ here xs ys h = h

first_lawful : (ts : List Token) (frames : List Frame) (here : Forest) (t : Tree) (next : List Mark) →
    IsLawful ts frames here (marked t next) → IsLawful ts frames here (marked t [])
first_lawful ts frames here t next h =
    fewer_lawful ts frames here (marked t []) next (subst (λ xs. IsLawful ts frames here xs) (marked_append t next) h)

-- room for what is begun
pub begin_goes : (f : Frame) (n : ℕ) (frames : List Frame) → length frames < depth_limit →
    begin f n frames ≡ Goes (f ∷ frames) Empty
begin_goes f n frames room =
    ap (λ b. cond b (Goes (f ∷ frames) Empty) (Halts TooDeep n)) (lt-ltb (length frames) depth_limit room)

-- each of the trees stands on its level by itself
abbrev pub AllStand : List Frame → Forest → Type 0
AllStand frames Empty = Unit {0}
AllStand frames (Then t rest) = StandsOn frames t × AllStand frames rest

pub all_in_list : (before : Forest) (opener : ℕ) (frames : List Frame) (f : Forest) →
    AllStand (InList before opener ∷ frames) f
all_in_list before opener frames Empty = tt
all_in_list before opener frames (Then t f) = (tt, all_in_list before opener frames f)

pub all_at_top : (f : Forest) → AllStand [] f
all_at_top Empty = tt
all_at_top (Then t f) = (tt, all_at_top f)

no_mark : (t : Tree) (xs : List Mark) → marked t xs ≡ [] → (marked t [] ≡ []) × (xs ≡ [])
no_mark (Comment item) xs e = (refl, e)
no_mark (DatumComment item lead inner) xs e = (refl, e)
no_mark _ xs e = absurd cc

pub all_comments : (frames : List Frame) (f : Forest) → AreComments f → AllStand frames f
unfolding marks_of
all_comments frames Empty c = tt
all_comments frames (Then t f) c =
    let n = no_mark t (marks_of f) c in
    (comment_stands frames t n.0, all_comments frames f n.1)

-- behind a tree that stands by itself the reading goes on with the tree added
behind_stands : (ts : List Token) (ns : List ℕ) (frames : List Frame) (here : Forest) (t : Tree) → StandsOn frames t →
    behind ts ns frames here t ≡ reads ts ns frames (push here t)
behind_stands ts ns frames here (Point item) s = refl
behind_stands ts ns frames here (Comment item) s = refl
behind_stands ts ns frames here (DatumComment item lead inner) s = refl
behind_stands ts ns (InPrefix before first ∷ frames) here _ s = absurd cc
behind_stands ts ns (InSkip before first ∷ frames) here _ s = absurd cc
behind_stands ts ns _ here _ s = refl

-- what may stand behind a tree: a datum anywhere, and what is none where it stands by itself
abbrev MayBeRead : List Frame → Tree → Type 0
MayBeRead frames (Point item) = StandsOn frames (Point item)
MayBeRead frames t = Unit {0}

datum_may_be_read : (frames : List Frame) (t : Tree) → IsDatum t → MayBeRead frames t
datum_may_be_read frames (Point item) d = absurd cc
datum_may_be_read frames _ d = tt

stands_may_be_read : (frames : List Frame) (t : Tree) → StandsOn frames t → MayBeRead frames t
stands_may_be_read frames (Point item) s = s
stands_may_be_read frames _ s = tt

behind_datum_is : (ts : List Token) (ns : List ℕ) (frames : List Frame) (here : Forest) (t : Tree) → IsDatum t →
    behind ts ns frames here t ≡ follow (behind_datum frames here t) (λ fs h. reads ts ns fs h)
behind_datum_is ts ns frames here (Point item) d = absurd cc
behind_datum_is ts ns frames here (Comment item) d = absurd cc
behind_datum_is ts ns frames here (DatumComment item lead inner) d = absurd cc
behind_datum_is ts ns frames here _ d = refl

read_leaf : (ts : List Token) (n : ℕ) (ns : List ℕ) (frames : List Frame) (here : Forest) (k : Kind) →
    kind_at ts n ≡ Some k → is_whole k ≡ true → datum_may_stand frames here ≡ true →
    reads ts (n ∷ ns) frames here ≡ behind ts ns frames here (Leaf n)
read_leaf ts n ns frames here k e w d = reads_item ts n ns frames here k e ∙ by_kind k w
  where
    leaf : follow (unless_bad_dot (datum_may_stand frames here) n (behind_datum frames here (Leaf n)))
        (λ fs h. reads ts ns fs h) ≡ behind ts ns frames here (Leaf n)
    leaf = ap (λ b. follow (unless_bad_dot b n (behind_datum frames here (Leaf n))) (λ fs h. reads ts ns fs h)) d

    by_kind : (k : Kind) → is_whole k ≡ true →
        follow (move_at ts k n frames here) (λ fs h. reads ts ns fs h) ≡ behind ts ns frames here (Leaf n)
    by_kind (Opener b) w = absurd (false≢true w)
    by_kind (Closer b) w = absurd (false≢true w)
    by_kind Prefix w = absurd (false≢true w)
    by_kind Skip w = absurd (false≢true w)
    by_kind Dot w = absurd (false≢true w)
    by_kind Atom w = leaf
    by_kind Str w = leaf
    by_kind Here w = leaf
    by_kind Block w = absurd (false≢true w)
    by_kind Line w = absurd (false≢true w)
    by_kind Lang w = leaf

read_comment : (ts : List Token) (n : ℕ) (ns : List ℕ) (frames : List Frame) (here : Forest) (k : Kind) →
    kind_at ts n ≡ Some k → is_remark k ≡ true →
    reads ts (n ∷ ns) frames here ≡ reads ts ns frames (push here (Comment n))
read_comment ts n ns frames here k e r = reads_item ts n ns frames here k e ∙ by_kind k r
  where
    by_kind : (k : Kind) → is_remark k ≡ true →
        follow (move_at ts k n frames here) (λ fs h. reads ts ns fs h) ≡ reads ts ns frames (push here (Comment n))
    by_kind (Opener b) w = absurd (false≢true w)
    by_kind (Closer b) w = absurd (false≢true w)
    by_kind Prefix w = absurd (false≢true w)
    by_kind Skip w = absurd (false≢true w)
    by_kind Dot w = absurd (false≢true w)
    by_kind Atom w = absurd (false≢true w)
    by_kind Str w = absurd (false≢true w)
    by_kind Here w = absurd (false≢true w)
    by_kind Block w = refl
    by_kind Line w = refl
    by_kind Lang w = absurd (false≢true w)

-- what is begun by a datum's first item, where a datum may stand and there is room
pub read_begin : (ts : List Token) (n : ℕ) (ns : List ℕ) (frames : List Frame) (here : Forest) (f : Frame) →
    datum_may_stand frames here ≡ true → length frames < depth_limit →
    follow (unless_bad_dot (datum_may_stand frames here) n (begin f n frames)) (λ fs h. reads ts ns fs h)
    ≡ reads ts ns (f ∷ frames) Empty
read_begin ts n ns frames here f d room =
    ap (λ b. follow (unless_bad_dot b n (begin f n frames)) (λ fs h. reads ts ns fs h)) d
    ∙ ap (λ m. follow m (λ fs h. reads ts ns fs h)) (begin_goes f n frames room)

-- a closer of its list
read_close : (ts : List Token) (n : ℕ) (ns : List ℕ) (before here : Forest) (opener : ℕ) (frames : List Frame)
    (b : Bracket) → kind_at ts opener ≡ Some (Opener b) → kind_at ts n ≡ Some (Closer b) →
    ends_in_dot (dots_so_far here) ≡ false →
    reads ts (n ∷ ns) (InList before opener ∷ frames) here ≡ behind ts ns frames before (Listed opener here n)
read_close ts n ns before here opener frames b o c d =
    reads_item ts n ns (InList before opener ∷ frames) here (Closer b) c
    ∙ ap (λ k. follow (close_list k b n frames before opener here) (λ fs h. reads ts ns fs h)) o
    ∙ ap (λ t. follow
    (cond t
    (unless_bad_dot (not (ends_in_dot (dots_so_far here))) n (behind_datum frames before (Listed opener here n)))
    (Halts CloseMismatch n)) (λ fs h. reads ts ns fs h)) (same_refl b)
    ∙ ap (λ t. follow (unless_bad_dot (not t) n (behind_datum frames before (Listed opener here n)))
    (λ fs h. reads ts ns fs h)) d

-- reading the items of a formed tree that may stand there leads behind it
mutual
  unfolding tree_items forest_items tree_depth forest_depth IsFormed AreFormed marks_of

  pub tree_read : (ts : List Token) (t : Tree) (ns : List ℕ) (frames : List Frame) (here : Forest) → IsFormed ts t →
      IsLawful ts frames here (marked t []) → MayBeRead frames t → length frames + tree_depth t ≤ depth_limit →
      reads ts (tree_items t ++ ns) frames here ≡ behind ts ns frames here t
  tree_read ts (Leaf n) ns frames here k l m d =
      read_leaf ts n ns frames here k.0 k.1 k.2 (datum_stands ts frames here l)
  tree_read ts (Point n) ns frames here k l m d =
      reads_item ts n ns frames here Dot k
      ∙ ap (λ b. follow (unless_bad_dot b n (Goes frames (push here (Point n)))) (λ fs h. reads ts ns fs h))
      (dot_stands ts frames here n l m)
  tree_read ts (Comment n) ns frames here k l m d = read_comment ts n ns frames here k.0 k.1 k.2
  tree_read ts (Prefixed n lead inner) ns frames here k l m d =
      reads_same ts _ _ frames here (ap (λ ks. n ∷ ks) (append_assoc (forest_items lead) (tree_items inner) ns))
      ∙ reads_item ts n (forest_items lead ++ (tree_items inner ++ ns)) frames here Prefix k.0
      ∙ read_begin ts n (forest_items lead ++ (tree_items inner ++ ns)) frames here (InPrefix here n)
      (datum_stands ts frames here l) (omega arith)
      ∙ forest_read ts lead (tree_items inner ++ ns) (InPrefix here n ∷ frames) Empty k.1 (
        l,
        k.0,
        tt,
        refl,
        omega arith,
      ) (all_comments (InPrefix here n ∷ frames) lead k.2) (omega arith)
      ∙ ap (λ f. reads ts (tree_items inner ++ ns) (InPrefix here n ∷ frames) f) (append_to_none lead)
      ∙ tree_read ts inner ns (InPrefix here n ∷ frames) lead k.3 (l, k.0, k.1, k.2, omega arith)
      (datum_may_be_read (InPrefix here n ∷ frames) inner k.4) (omega arith)
      ∙ behind_datum_is ts ns (InPrefix here n ∷ frames) lead inner k.4
  tree_read ts (DatumComment n lead inner) ns frames here k l m d =
      reads_same ts _ _ frames here (ap (λ ks. n ∷ ks) (append_assoc (forest_items lead) (tree_items inner) ns))
      ∙ reads_item ts n (forest_items lead ++ (tree_items inner ++ ns)) frames here Skip k.0
      ∙ ap (λ mv. follow mv (λ fs h. reads ts (forest_items lead ++ (tree_items inner ++ ns)) fs h))
      (begin_goes (InSkip here n) n frames (omega arith))
      ∙ forest_read ts lead (tree_items inner ++ ns) (InSkip here n ∷ frames) Empty k.1 (l, k.0, tt, refl, omega arith)
      (all_comments (InSkip here n ∷ frames) lead k.2) (omega arith)
      ∙ ap (λ f. reads ts (tree_items inner ++ ns) (InSkip here n ∷ frames) f) (append_to_none lead)
      ∙ tree_read ts inner ns (InSkip here n ∷ frames) lead k.3 (l, k.0, k.1, k.2, omega arith)
      (datum_may_be_read (InSkip here n ∷ frames) inner k.4) (omega arith)
      ∙ behind_datum_is ts ns (InSkip here n ∷ frames) lead inner k.4
  tree_read ts (Listed opener entries closer) ns frames here k l m d =
      reads_same ts _ _ frames here (ap (λ ks. opener ∷ ks) (append_assoc (forest_items entries) (closer ∷ []) ns))
      ∙ reads_item ts opener (forest_items entries ++ closer ∷ ns) frames here (Opener k.0) k.1
      ∙ read_begin ts opener (forest_items entries ++ closer ∷ ns) frames here (InList here opener)
      (datum_stands ts frames here l) (omega arith)
      ∙ forest_read ts entries (closer ∷ ns) (InList here opener ∷ frames) Empty k.2 (
        l,
        (k.0, k.1),
        tt,
        (([], subst AreLawful (sym (append-nil (marks_of entries))) k.4), k.5),
        omega arith,
      ) (all_in_list here opener frames entries) (omega arith)
      ∙ ap (λ f. reads ts (closer ∷ ns) (InList here opener ∷ frames) f) (append_to_none entries)
      ∙ read_close ts closer ns here entries opener frames k.0 k.1 k.3 (lawful_has_no_end (marks_of entries) k.4)

  pub forest_read : (ts : List Token) (f : Forest) (ns : List ℕ) (frames : List Frame) (here : Forest) →
      AreFormed ts f → IsLawful ts frames here (marks_of f) → AllStand frames f →
      length frames + forest_depth f ≤ depth_limit →
      reads ts (forest_items f ++ ns) frames here ≡ reads ts ns frames (append here f)
  forest_read ts Empty ns frames here k l s d = refl
  forest_read ts (Then t f) ns frames here k l s d =
      reads_same ts _ _ frames here (append_assoc (tree_items t) (forest_items f) ns)
      ∙ tree_read ts t (forest_items f ++ ns) frames here k.0 (first_lawful ts frames here t (marks_of f) l)
      (stands_may_be_read frames t s.0) (omega arith)
      ∙ behind_stands ts (forest_items f ++ ns) frames here t s.0
      ∙ forest_read ts f ns frames (push here t) k.1
      (push_lawful ts frames here t (marks_of f) l s.0 k.0 (omega arith)) s.1 (omega arith)
