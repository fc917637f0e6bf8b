-- What the moves mean: each goes on to the next place, or halts just where the definitions say that no item can go on.
use Rattle.std.proofs.Common.{add-zero, zero-add, ◌≡◌, ℕ, zero, suc, ◌+◌, ◌-◌, ◌≤◌, inl, inr, cond, not, ltb, true, false, Some, List, [], ◌∷◌, ◌++◌, length, refl, sym, ap, ◌∙◌, subst, arith}
use Rattle.std.specs.Prelude.{codes}
use Rattle.std.specs.List.{range_with_len}
use Rattle.std.proofs.Math.Numerals.{add-one}
use Rattle.std.proofs.lemmas.Bool.{both_ways, and_cases, and_parts, not-true, not-false, false≢true, ltb-true, ltb-false}
use Rattle.std.proofs.lemmas.List.{append_assoc, append-nil}
use Rattle.rf_base_grammar.specs.Reader.{begins}
use Rattle.rf_base_grammar.specs.Token.{Token, opens}
use Rattle.rf_base_grammar.specs.declared.kinds.Bracket.{Bracket}
use Rattle.rf_base_grammar.specs.declared.kinds.Bracket.TheVariants.{Round, Square, Curly}
use Rattle.rf_base_grammar.specs.declared.kinds.Kind.{Kind}
use Rattle.rf_base_grammar.specs.declared.kinds.Kind.TheVariants.{Opener, Closer, Prefix, Skip, Dot, Atom, Str, Here, Block, Line, Lang}
use Rattle.rf_base_grammar.proofs.Words.{begins_found, not_begins}
use Rattle.rf_base_tree.specs.Trees.{Tree, Leaf, Point, Comment, Prefixed, DatumComment, Listed, Forest, Empty, kind_at, spelling_at, tree_items, forest_items, tree_depth, forest_depth}
use Rattle.rf_base_tree.specs.Dots.{Mark, OfDatum, OfDot, marked, marks_of, AllData, MayGoOn}
use Rattle.rf_base_tree.specs.Dotting.{ends_in_dot}
use Rattle.rf_base_tree.specs.Formed.{is_whole, is_remark, IsDatum, IsFormed, AreFormed, depth_limit, Treed}
use Rattle.rf_base_tree.specs.Places.{Frame, InList, InPrefix, InSkip, before_of, item_of, becomes, place_items, MayHold, HasItsKind, IsLawful, IsPlace}
use Rattle.rf_base_tree.specs.Refusals.{begins_datum, NoDotHere, NoDatumHere, CannotGoOn}
use Rattle.rf_base_tree.specs.Moves.{Move, Goes, Halts, push, behind_datum, dots_so_far, datum_may_stand, dot_may_stand, unless_bad_dot, begin, same_bracket, close_list, close, move_at}
use Rattle.rf_base_tree.specs.declared.refusals.TreeKind.{TreeKind}
use Rattle.rf_base_tree.specs.declared.refusals.TreeKind.TheVariants.{CloseMismatch, OpenList, NothingAfter, TooDeep}
use Rattle.rf_base_tree.proofs.Forests.{forest_items-push, AreFormed-push, forest_depth-push, marked_append, marks_of-push}
use Rattle.rf_base_tree.proofs.Dotting.{go_on_datum, go_on_dot, takes_no_datum, takes_some_datum, takes_no_dot, ends_told, no_end_is_lawful, all_data-push}

-- one number more
range_more : (a n : ℕ) → range_with_len a (suc n) ≡ range_with_len a n ++ (a + n) ∷ []
range_more a zero = ap (λ k. k ∷ []) (sym (add-zero a))
range_more a (suc n) =
    let same : a + 1 + n ≡ a + suc n = omega arith in
    ap (λ ks. a ∷ ks) (range_more (a + 1) n ∙ ap (λ k. range_with_len (a + 1) n ++ k ∷ []) same)

pub first_numbers-more : (n : ℕ) → range_with_len 0 (n + 1) ≡ range_with_len 0 n ++ n ∷ []
first_numbers-more n = rw add-one (range_more 0 n ∙ ap (λ k. range_with_len 0 n ++ k ∷ []) (zero-add n))

-- no more is begun than may be
pub frames_fit : (ts : List Token) (frames : List Frame) (here : Forest) (next : List Mark) →
    IsLawful ts frames here next → length frames ≤ depth_limit
frames_fit ts [] here next h = omega arith
frames_fit ts (f ∷ frames) here next h = omega (arith, h.4)

place_items-push : (frames : List Frame) (here : Forest) (t : Tree) →
    place_items frames (push here t) ≡ place_items frames here ++ tree_items t
place_items-push [] here t = forest_items-push here t
place_items-push (f ∷ frames) here t =
    ap (λ ks. place_items frames (before_of f) ++ item_of f ∷ ks) (forest_items-push here t)
    ∙ sym (append_assoc (place_items frames (before_of f)) (item_of f ∷ forest_items here) (tree_items t))

-- the tree may stand by itself on this level: behind a prefix or a skip only a comment does
abbrev pub StandsOn : List Frame → Tree → Type 0
StandsOn (InPrefix before item ∷ frames) t = marked t [] ≡ []
StandsOn (InSkip before item ∷ frames) t = marked t [] ≡ []
StandsOn _ t = Unit {0}

pub comment_stands : (frames : List Frame) (t : Tree) → marked t [] ≡ [] → StandsOn frames t
comment_stands (InPrefix before item ∷ frames) t e = e
comment_stands (InSkip before item ∷ frames) t e = e
comment_stands _ t e = tt

marks_pushed : (here : Forest) (t : Tree) (next : List Mark) →
    marks_of here ++ marked t next ≡ marks_of (push here t) ++ next
marks_pushed here t next =
    ap (λ xs. marks_of here ++ xs) (marked_append t next)
    ∙ sym (append_assoc (marks_of here) (marked t []) next)
    ∙ ap (λ xs. xs ++ next) (sym (marks_of-push here t))

comments_push : (here : Forest) (t : Tree) → marks_of here ≡ [] → marked t [] ≡ [] → marks_of (push here t) ≡ []
comments_push here t h s = marks_of-push here t ∙ rw (h, s) refl

-- what is lawful stays so with a tree that fits
pub push_lawful : (ts : List Token) (frames : List Frame) (here : Forest) (t : Tree) (next : List Mark) →
    IsLawful ts frames here (marked t next) → StandsOn frames t → IsFormed ts t →
    length frames + tree_depth t ≤ depth_limit → IsLawful ts frames (push here t) next
push_lawful ts [] here t next h s k d = (
  AreFormed-push ts here t h.0 k,
  subst AllData
      (marks_pushed here t next) h.1,
  forest_depth-push here t depth_limit h.2 (omega arith),
)
push_lawful ts (InList before opener ∷ frames) here t next h s k d =
    let room : forest_depth (push here t) ≤ depth_limit - (length frames + 1) =
    forest_depth-push here t (depth_limit - (length frames + 1)) (omega (arith, h.4)) (omega arith) in (
      h.0,
      h.1,
      AreFormed-push ts here t h.2 k,
      (subst MayGoOn (marks_pushed here t next) h.3.0, λ b. subst AllData (marks_pushed here t next) (h.3.1 b)),
      omega (arith, h.4),
    )
push_lawful ts (InPrefix before item ∷ frames) here t next h s k d =
    let room : forest_depth (push here t) ≤ depth_limit - (length frames + 1) =
    forest_depth-push here t (depth_limit - (length frames + 1)) (omega (arith, h.4)) (omega arith) in
    (h.0, h.1, AreFormed-push ts here t h.2 k, comments_push here t h.3 s, omega (arith, h.4))
push_lawful ts (InSkip before item ∷ frames) here t next h s k d =
    let room : forest_depth (push here t) ≤ depth_limit - (length frames + 1) =
    forest_depth-push here t (depth_limit - (length frames + 1)) (omega (arith, h.4)) (omega arith) in
    (h.0, h.1, AreFormed-push ts here t h.2 k, comments_push here t h.3 s, omega (arith, h.4))

-- the move goes on to a lawful place, to which these items lead
abbrev GoesTo : List Token → List ℕ → Move → Type 0
GoesTo ts ks (Goes frames here) = (place_items frames here ≡ ks) × IsLawful ts frames here []
GoesTo ts ks (Halts kind item) = ⊥

goes_same : (ts : List Token) (ks ls : List ℕ) (move : Move) → ks ≡ ls → GoesTo ts ks move → GoesTo ts ls move
goes_same ts ks ls (Goes frames here) e g = (g.0 ∙ e, g.1)
goes_same ts ks ls (Halts kind item) e g = absurd g

datum_marks : (ts : List Token) (frames : List Frame) (here : Forest) (t : Tree) → IsDatum t →
    IsLawful ts frames here (OfDatum ∷ []) → IsLawful ts frames here (marked t [])
datum_marks ts frames here t d h = subst (λ next. IsLawful ts frames here next) (sym d) h

-- behind a datum
behind_datum_goes : (ts : List Token) (frames : List Frame) (here : Forest) (t : Tree) →
    IsLawful ts frames here (OfDatum ∷ []) → IsFormed ts t → IsDatum t → length frames + tree_depth t ≤ depth_limit →
    GoesTo ts (place_items frames here ++ tree_items t) (behind_datum frames here t)
unfolding tree_items tree_depth IsFormed
behind_datum_goes ts [] here t h k d room = (
  place_items-push [] here t,
  push_lawful ts [] here t [] (datum_marks ts [] here t d h) tt k room,
)
behind_datum_goes ts (InList before opener ∷ frames) here t h k d room = (
  place_items-push (InList before opener ∷ frames) here t,
  push_lawful ts (InList before opener ∷ frames) here t []
      (datum_marks ts (InList before opener ∷ frames) here t d h) tt k room,
)
behind_datum_goes ts (InPrefix before item ∷ frames) here t h k d room =
    goes_same ts _ _ (behind_datum frames before (Prefixed item here t))
    (sym (append_assoc (place_items frames before) (item ∷ forest_items here) (tree_items t)))
    (behind_datum_goes ts frames before (Prefixed item here t) h.0 (h.1, h.2, h.3, k, d) refl (omega (arith, h.4)))
behind_datum_goes ts (InSkip before item ∷ frames) here t h k d room = (
  place_items-push frames before (DatumComment item here t)
      ∙ sym (append_assoc (place_items frames before) (item ∷ forest_items here) (tree_items t)),
  push_lawful ts frames before (DatumComment item here t) [] h.0 (comment_stands frames (DatumComment item here t) refl)
      (h.1, h.2, h.3, k, d) (omega (arith, h.4)),
)

goes_on : (here : Forest) → MayGoOn (marks_of here ++ []) → MayGoOn (marks_of here)
goes_on here h = subst MayGoOn (append-nil (marks_of here)) h

datum_next : (ts : List Token) (frames : List Frame) (here : Forest) → IsLawful ts frames here [] →
    datum_may_stand frames here ≡ true → IsLawful ts frames here (OfDatum ∷ [])
datum_next ts [] here h t = (h.0, all_data-push (marks_of here) (subst AllData (append-nil (marks_of here)) h.1), h.2)
datum_next ts (InList before opener ∷ frames) here h t = (
  h.0,
  h.1,
  h.2,
  (
    go_on_datum (marks_of here) t,
    λ b. all_data-push (marks_of here)
        (subst AllData (append-nil (marks_of here)) (h.3.1 b)),
  ),
  h.4,
)
datum_next ts _ here h t = h

pub no_datum_here : (ts : List Token) (frames : List Frame) (here : Forest) → IsLawful ts frames here [] →
    datum_may_stand frames here ≡ false → NoDatumHere frames (marks_of here)
no_datum_here ts (InList before opener ∷ frames) here h t = takes_no_datum (marks_of here) (goes_on here h.3.0) t
no_datum_here ts _ here h t = absurd (false≢true (sym t))

pub some_datum_here : (ts : List Token) (frames : List Frame) (here : Forest) → IsLawful ts frames here [] →
    datum_may_stand frames here ≡ true → NoDatumHere frames (marks_of here) → ⊥
some_datum_here ts (InList before opener ∷ frames) here h t n =
    takes_some_datum (marks_of here) (goes_on here h.3.0) t n
some_datum_here ts _ here h t n = n

-- where a dot may stand it may come next
dot_next : (ts : List Token) (frames : List Frame) (here : Forest) (n : ℕ) → IsLawful ts frames here [] →
    dot_may_stand ts frames here ≡ true → IsLawful ts frames here (OfDot ∷ []) × StandsOn frames (Point n)
dot_next ts (InList before opener ∷ frames) here n h t =
    let both = and_parts _ _ t in
    let no_hash =
    not_begins (codes "#") (spelling_at ts opener) (not-true (begins (codes "#") (spelling_at ts opener)) both.0) in
    ((h.0, h.1, h.2, (go_on_dot (marks_of here) both.1, λ b. absurd (no_hash b)), h.4), tt)
dot_next ts _ here n h t = absurd (false≢true t)

no_dot_here : (ts : List Token) (frames : List Frame) (here : Forest) → IsLawful ts frames here [] →
    dot_may_stand ts frames here ≡ false → NoDotHere ts frames (marks_of here)
no_dot_here ts (InList before opener ∷ frames) here h t =
    elim (and_cases _ _ t) [
      | inl a ↦
          inl (begins_found (codes "#") (spelling_at ts opener)
          (not-false (begins (codes "#") (spelling_at ts opener)) a))
      | inr b ↦ inr (takes_no_dot (marks_of here) (goes_on here h.3.0) b)
    ]
no_dot_here ts _ here h t = tt

-- what a move means of the place
abbrev pub MoveMeans : List Token → ℕ → List Frame → Forest → Move → Type 0
MoveMeans ts n frames here (Goes fs h) = IsPlace ts (n + 1) fs h
MoveMeans ts n frames here (Halts kind item) = CannotGoOn ts n frames here kind item

to_place : (ts : List Token) (n : ℕ) (frames : List Frame) (here : Forest) (ks : List ℕ) (move : Move) →
    ks ≡ range_with_len 0 (n + 1) → GoesTo ts ks move → MoveMeans ts n frames here move
to_place ts n frames here ks (Goes fs h) e g = record { items_are = g.0 ∙ e; lawful = g.1 }
to_place ts n frames here ks (Halts kind item) e g = absurd g

next_items : (ts : List Token) (n : ℕ) (frames : List Frame) (here : Forest) → IsPlace ts n frames here →
    place_items frames here ++ n ∷ [] ≡ range_with_len 0 (n + 1)
next_items ts n frames here p = ap (λ ks. ks ++ n ∷ []) p.items_are ∙ sym (first_numbers-more n)

-- a move that a datum's beginning makes, where a datum may stand
datum_or_halt : (ts : List Token) (n : ℕ) (frames : List Frame) (here : Forest) (k : Kind) (move : Move) →
    IsPlace ts n frames here → kind_at ts n ≡ Some k → begins_datum k ≡ true →
    (datum_may_stand frames here ≡ true → MoveMeans ts n frames here move) →
    MoveMeans ts n frames here (unless_bad_dot (datum_may_stand frames here) n move)
datum_or_halt ts n frames here k move p e b m =
    elim (datum_may_stand frames here) as (λ t. datum_may_stand frames here ≡ t →
    MoveMeans ts n frames here (unless_bad_dot t n move)) [
      | true ↦ λ f. m f
      | false ↦ λ f. (refl, inr (inr ((k, e, b), no_datum_here ts frames here p.lawful f)))
    ] refl

-- a datum of one item
leaf_means : (ts : List Token) (n : ℕ) (frames : List Frame) (here : Forest) (k : Kind) → IsPlace ts n frames here →
    kind_at ts n ≡ Some k → is_whole k ≡ true → begins_datum k ≡ true →
    MoveMeans ts n frames here (unless_bad_dot (datum_may_stand frames here) n (behind_datum frames here (Leaf n)))
unfolding tree_items tree_depth IsFormed
leaf_means ts n frames here k p e w b =
    datum_or_halt ts n frames here k (behind_datum frames here (Leaf n)) p e b
    (λ t. to_place ts n frames here (place_items frames here ++ n ∷ []) (behind_datum frames here (Leaf n))
    (next_items ts n frames here p)
    (behind_datum_goes ts frames here (Leaf n) (datum_next ts frames here p.lawful t) (k, e, w) refl
    (omega (arith, frames_fit ts frames here [] p.lawful))))

-- a comment
comment_means : (ts : List Token) (n : ℕ) (frames : List Frame) (here : Forest) (k : Kind) → IsPlace ts n frames here →
    kind_at ts n ≡ Some k → is_remark k ≡ true → IsPlace ts (n + 1) frames (push here (Comment n))
unfolding tree_items tree_depth IsFormed
comment_means ts n frames here k p e r =
    record {
      items_are = place_items-push frames here (Comment n) ∙ next_items ts n frames here p;
      lawful =
          push_lawful ts frames here (Comment n) [] p.lawful (comment_stands frames (Comment n) refl) (k, e, r)
          (omega (arith, frames_fit ts frames here [] p.lawful));
    }

-- a dot
dot_means : (ts : List Token) (n : ℕ) (frames : List Frame) (here : Forest) → IsPlace ts n frames here →
    kind_at ts n ≡ Some Dot →
    MoveMeans ts n frames here (unless_bad_dot (dot_may_stand ts frames here) n (Goes frames (push here (Point n))))
unfolding tree_items tree_depth IsFormed
dot_means ts n frames here p e =
    elim (dot_may_stand ts frames here) as (λ t. dot_may_stand ts frames here ≡ t →
    MoveMeans ts n frames here (unless_bad_dot t n (Goes frames (push here (Point n))))) [
      | true ↦ λ f.
          let d = dot_next ts frames here n p.lawful f in
          record {
            items_are = place_items-push frames here (Point n) ∙ next_items ts n frames here p;
            lawful =
                push_lawful ts frames here (Point n) [] d.0 d.1 e
                (omega (arith, frames_fit ts frames here [] p.lawful));
          }
      | false ↦ λ f. (refl, inr (inl (e, no_dot_here ts frames here p.lawful f)))
    ] refl

-- an item has one kind
one_kind : (ts : List Token) (n : ℕ) (j k : Kind) → kind_at ts n ≡ Some j → kind_at ts n ≡ Some k → j ≡ k
one_kind ts n j k e f = let both : Some j ≡ Some k = sym e ∙ f in cc

-- what is begun, where there is room, and holds nothing yet
begin_means : (ts : List Token) (n : ℕ) (frames : List Frame) (here : Forest) (f : Frame) (k : Kind) →
    IsPlace ts n frames here → kind_at ts n ≡ Some k → before_of f ≡ here → item_of f ≡ n → opens k ≡ true →
    IsLawful ts frames (before_of f) (becomes f) → HasItsKind ts f → MayHold ts f Empty [] →
    (begins_datum k ≡ true → NoDatumHere frames (marks_of here) → ⊥) → MoveMeans ts n frames here (begin f n frames)
unfolding forest_items forest_depth AreFormed
begin_means ts n frames here f k p e b i m l h s d =
    elim (ltb (length frames) depth_limit) as
    (λ t. ltb (length frames) depth_limit ≡ t →
    MoveMeans ts n frames here (cond t (Goes (f ∷ frames) Empty) (Halts TooDeep n))) [
      | true ↦ λ r. record {
        items_are =
            ap (λ x. place_items frames x ++ item_of f ∷ []) b ∙ ap (λ x. place_items frames here ++ x ∷ []) i
            ∙ next_items ts n frames here p;
        lawful = (l, h, tt, s, omega (arith, ltb-true (length frames) depth_limit r));
      }
      | false ↦ λ r. (
        refl,
        (k, e, m),
        omega (arith, ltb-false (length frames) depth_limit r, frames_fit ts frames here [] p.lawful),
        λ passes. d (subst (λ j. begins_datum j ≡ true) (one_kind ts n passes.0 k passes.1 e) passes.2),
      )
    ] refl

pub list_holds_none : (ts : List Token) (here : Forest) (n : ℕ) → MayHold ts (InList here n) Empty []
unfolding marks_of
list_holds_none ts here n = (([], inl tt), λ b. tt)

prefix_holds_none : (ts : List Token) (here : Forest) (n : ℕ) → MayHold ts (InPrefix here n) Empty []
unfolding marks_of
prefix_holds_none ts here n = refl

skip_holds_none : (ts : List Token) (here : Forest) (n : ℕ) → MayHold ts (InSkip here n) Empty []
unfolding marks_of
skip_holds_none ts here n = refl

opener_means : (ts : List Token) (n : ℕ) (frames : List Frame) (here : Forest) (b : Bracket) →
    IsPlace ts n frames here → kind_at ts n ≡ Some (Opener b) →
    MoveMeans ts n frames here (unless_bad_dot (datum_may_stand frames here) n (begin (InList here n) n frames))
opener_means ts n frames here b p e =
    datum_or_halt ts n frames here (Opener b) (begin (InList here n) n frames) p e refl
    (λ t. begin_means ts n frames here (InList here n) (Opener b) p e refl refl refl
    (datum_next ts frames here p.lawful t) (b, e) (list_holds_none ts here n)
    (λ d. some_datum_here ts frames here p.lawful t))

prefix_means : (ts : List Token) (n : ℕ) (frames : List Frame) (here : Forest) → IsPlace ts n frames here →
    kind_at ts n ≡ Some Prefix →
    MoveMeans ts n frames here (unless_bad_dot (datum_may_stand frames here) n (begin (InPrefix here n) n frames))
prefix_means ts n frames here p e =
    datum_or_halt ts n frames here Prefix (begin (InPrefix here n) n frames) p e refl
    (λ t. begin_means ts n frames here (InPrefix here n) Prefix p e refl refl refl
    (datum_next ts frames here p.lawful t) e (prefix_holds_none ts here n)
    (λ d. some_datum_here ts frames here p.lawful t))

skip_means : (ts : List Token) (n : ℕ) (frames : List Frame) (here : Forest) → IsPlace ts n frames here →
    kind_at ts n ≡ Some Skip → MoveMeans ts n frames here (begin (InSkip here n) n frames)
skip_means ts n frames here p e =
    begin_means ts n frames here (InSkip here n) Skip p e refl refl refl p.lawful e (skip_holds_none ts here n)
    (λ d. absurd (false≢true d))

-- brackets that are told to be the same are
pub same_found : (b c : Bracket) → same_bracket b c ≡ true → b ≡ c
same_found Round Round h = refl
same_found Square Square h = refl
same_found Curly Curly h = refl
same_found _ _ h = absurd (false≢true h)

pub same_refl : (b : Bracket) → same_bracket b b ≡ true
same_refl Round = refl
same_refl _ = refl

not_same : (b c : Bracket) → same_bracket b c ≡ false → b ≡ c → ⊥
not_same b c h e = both_ways (same_bracket b c) h (subst (λ d. same_bracket b d ≡ true) e (same_refl b))

-- a closer of the list on top
close_list_means : (ts : List Token) (n : ℕ) (before here : Forest) (opener : ℕ) (frames : List Frame) (b c : Bracket) →
    IsPlace ts n (InList before opener ∷ frames) here → kind_at ts opener ≡ Some (Opener b) →
    kind_at ts n ≡ Some (Closer c) →
    MoveMeans ts n (InList before opener ∷ frames) here (close_list (Some (Opener b)) c n frames before opener here)
unfolding tree_items tree_depth IsFormed
close_list_means ts n before here opener frames b c p o e =
    let l = p.lawful in
    let listed = Listed opener here n in
    elim (same_bracket b c) as (λ t. same_bracket b c ≡ t →
    MoveMeans ts n (InList before opener ∷ frames) here
    (cond t (unless_bad_dot (not (ends_in_dot (dots_so_far here))) n (behind_datum frames before listed))
    (Halts CloseMismatch n))) [
      | false ↦ λ f. (refl, (opener, b, c, refl, o, e, not_same b c f))
      | true ↦ λ f.
          let closer : kind_at ts n ≡ Some (Closer b) = e ∙ ap (λ d. Some (Closer d)) (sym (same_found b c f)) in
          elim (ends_in_dot (dots_so_far here)) as
          (λ t. ends_in_dot (dots_so_far here) ≡ t →
          MoveMeans ts n (InList before opener ∷ frames) here
          (unless_bad_dot (not t) n (behind_datum frames before listed))) [
            | true ↦ λ d. (refl, inl (opener, refl, ends_told (marks_of here) d, (b, o, closer)))
            | false ↦ λ d.
                to_place ts n (InList before opener ∷ frames) here (place_items frames before ++ tree_items listed)
                (behind_datum frames before listed)
                (sym (append_assoc (place_items frames before) (opener ∷ forest_items here) (n ∷ []))
                ∙ next_items ts n (InList before opener ∷ frames) here p)
                (behind_datum_goes ts frames before listed l.0 (
                  b,
                  o,
                  l.2,
                  closer,
                  no_end_is_lawful (marks_of here) (goes_on here l.3.0) d,
                  λ h. subst AllData
                      (append-nil (marks_of here)) (l.3.1 h),
                )
                refl (omega (arith, l.4)))
          ] refl
    ] refl

close_means : (ts : List Token) (n : ℕ) (frames : List Frame) (here : Forest) (c : Bracket) → IsPlace ts n frames here →
    kind_at ts n ≡ Some (Closer c) → MoveMeans ts n frames here (close ts c n frames here)
close_means ts n [] here c p e = (refl, (Closer c, e, refl), refl)
close_means ts n (InList before opener ∷ frames) here c p e =
    let k = p.lawful.1 in
    subst (λ o. MoveMeans ts n (InList before opener ∷ frames) here (close_list o c n frames before opener here))
    (sym k.1)
    (close_list_means ts n before here opener frames k.0 c p k.1 e)
close_means ts n _ here c p e = (refl, inl (Closer c, e, refl))

-- each move goes on to the next place, or halts where no item can go on
pub move_means : (ts : List Token) (n : ℕ) (frames : List Frame) (here : Forest) (k : Kind) → IsPlace ts n frames here →
    kind_at ts n ≡ Some k → MoveMeans ts n frames here (move_at ts k n frames here)
move_means ts n frames here (Opener b) p e = opener_means ts n frames here b p e
move_means ts n frames here (Closer c) p e = close_means ts n frames here c p e
move_means ts n frames here Prefix p e = prefix_means ts n frames here p e
move_means ts n frames here Skip p e = skip_means ts n frames here p e
move_means ts n frames here Dot p e = dot_means ts n frames here p e
move_means ts n frames here Atom p e = leaf_means ts n frames here Atom p e refl refl
move_means ts n frames here Str p e = leaf_means ts n frames here Str p e refl refl
move_means ts n frames here Here p e = leaf_means ts n frames here Here p e refl refl
move_means ts n frames here Block p e = comment_means ts n frames here Block p e refl
move_means ts n frames here Line p e = comment_means ts n frames here Line p e refl
move_means ts n frames here Lang p e = leaf_means ts n frames here Lang p e refl refl

-- at the end: the trees, or a halt
pub data End : Type 0 where
  Ended : (trees : Forest) → End
  Unended : (kind : TreeKind) (item : ℕ) → End

abbrev pub end_at : List Frame → Forest → End
end_at [] here = Ended here
end_at (InList before opener ∷ frames) here = Unended OpenList opener
end_at (InPrefix before item ∷ frames) here = Unended NothingAfter item
end_at (InSkip before item ∷ frames) here = Unended NothingAfter item

-- what the end means of the place
abbrev pub EndMeans : List Token → List Frame → Forest → End → Type 0
EndMeans ts frames here (Ended trees) = Treed ts trees
EndMeans ts frames here (Unended kind item) = CannotGoOn ts (length ts) frames here kind item

pub end_means : (ts : List Token) (frames : List Frame) (here : Forest) → IsPlace ts (length ts) frames here →
    EndMeans ts frames here (end_at frames here)
end_means ts [] here p =
    record {
      items_are = p.items_are;
      formed = p.lawful.0;
      dotless = subst AllData (append-nil (marks_of here)) p.lawful.1;
      shallow = p.lawful.2;
    }
end_means ts (InList before opener ∷ frames) here p = (refl, refl)
end_means ts _ here p = (refl, inr refl)
