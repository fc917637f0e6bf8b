-- The dots of a list, read from left to right.
use Rattle.std.proofs.Common.{◌≡◌, ℕ, ◌≤◌, ◌<◌, ◌⊎◌, inl, inr, Bool, true, false, List, [], ◌∷◌, ◌++◌, refl, sym, ap, ◌∙◌, subst, arith}
use Rattle.std.proofs.lemmas.Bool.{false≢true}
use Rattle.std.proofs.lemmas.List.{append_assoc, append-nil}
use Rattle.rf_base_tree.specs.Dots.{Mark, OfDatum, OfDot, AllData, SomeData, HasOneDot, HasTwoDots, AreLawful, MayGoOn}
use Rattle.rf_base_tree.specs.Dotting.{Dotting, NoData, Data, Dotted, Paired, Infixed, Closed, Broken, step, walk, takes_datum, takes_dot, ends_in_dot}
use Rattle.rf_base_tree.specs.Refusals.{EndsInDot, IsDotted, HoldsTwoDots}

pub walk-append : (s : Dotting) (xs ys : List Mark) → walk s (xs ++ ys) ≡ walk (walk s xs) ys
walk-append s [] ys = refl
walk-append s (x ∷ xs) ys = walk-append (step s x) xs ys

-- what such data and dots look like
abbrev pub HasShape : Dotting → List Mark → Type 0
HasShape NoData marks = marks ≡ []
HasShape Data marks = SomeData marks
HasShape Dotted marks = (front : List Mark) × (marks ≡ front ++ OfDot ∷ []) × SomeData front
HasShape Paired marks = HasOneDot marks
HasShape Infixed marks = (front : List Mark) × (marks ≡ front ++ OfDot ∷ OfDatum ∷ OfDot ∷ []) × SomeData front
HasShape Closed marks = HasTwoDots marks
HasShape Broken marks = Unit {0}

pub all_data-push : (marks : List Mark) → AllData marks → AllData (marks ++ OfDatum ∷ [])
all_data-push [] h = (refl, tt)
all_data-push (m ∷ marks) h = (h.0, all_data-push marks h.1)

some_push : (marks : List Mark) (m : Mark) → marks ++ m ∷ [] ≡ [] → ⊥
some_push [] m e = cc
some_push (x ∷ marks) m e = cc

some_data-push : (marks : List Mark) → AllData marks → SomeData (marks ++ OfDatum ∷ [])
some_data-push marks h = (some_push marks OfDatum, all_data-push marks h)

shape_step : (s : Dotting) (marks : List Mark) (m : Mark) → HasShape s marks → HasShape (step s m) (marks ++ m ∷ [])
shape_step NoData marks OfDatum h = some_data-push marks (subst AllData (sym h) tt)
shape_step Data marks OfDatum h = some_data-push marks h.1
shape_step Data marks OfDot h = (marks, refl, h)
shape_step Dotted marks OfDatum h = (
  h.0,
  ap (λ xs. xs ++ OfDatum ∷ []) h.1 ∙ append_assoc h.0 (OfDot ∷ []) (OfDatum ∷ []),
  h.2,
)
shape_step Paired marks OfDot h = (
  h.0,
  ap (λ xs. xs ++ OfDot ∷ []) h.1 ∙ append_assoc h.0 (OfDot ∷ OfDatum ∷ []) (OfDot ∷ []),
  h.2,
)
shape_step Infixed marks OfDatum h = (
  h.0,
  OfDatum ∷ [],
  ap (λ xs. xs ++ OfDatum ∷ []) h.1
      ∙ append_assoc h.0 (OfDot ∷ OfDatum ∷ OfDot ∷ []) (OfDatum ∷ []),
  h.2,
  some_data-push [] tt,
)
shape_step Closed marks OfDatum h = (
  h.0,
  h.1 ++ OfDatum ∷ [],
  ap (λ xs. xs ++ OfDatum ∷ []) h.2
      ∙ append_assoc h.0 (OfDot ∷ OfDatum ∷ OfDot ∷ h.1) (OfDatum ∷ []),
  h.3,
  some_data-push h.1 h.4.1,
)
shape_step _ marks _ h = tt

shape_walk : (s : Dotting) (before marks : List Mark) → HasShape s before → HasShape (walk s marks) (before ++ marks)
shape_walk s before [] h = subst (HasShape s) (sym (append-nil before)) h
shape_walk s before (m ∷ marks) h =
    subst (HasShape (walk (step s m) marks)) (append_assoc before (m ∷ []) marks)
    (shape_walk (step s m) (before ++ m ∷ []) marks (shape_step s before m h))

-- all data and dots have the shape that they are read as
pub has_shape : (marks : List Mark) → HasShape (walk NoData marks) marks
has_shape marks = shape_walk NoData [] marks refl

-- data alone
data_walk : (marks : List Mark) → AllData marks → walk Data marks ≡ Data
data_walk [] h = refl
data_walk (m ∷ marks) h = rw h.0 (data_walk marks h.1)

closed_walk : (marks : List Mark) → AllData marks → walk Closed marks ≡ Closed
closed_walk [] h = refl
closed_walk (m ∷ marks) h = rw h.0 (closed_walk marks h.1)

pub some_data_walk : (marks : List Mark) → SomeData marks → walk NoData marks ≡ Data
some_data_walk [] h = absurd (h.0 refl)
some_data_walk (m ∷ marks) h = rw h.1.0 (data_walk marks h.1.1)

some_closed_walk : (marks : List Mark) → SomeData marks → walk Infixed marks ≡ Closed
some_closed_walk [] h = absurd (h.0 refl)
some_closed_walk (m ∷ marks) h = rw h.1.0 (closed_walk marks h.1.1)

-- whether dots that are read so are lawful
abbrev is_lawful : Dotting → Bool
is_lawful Dotted = false
is_lawful Infixed = false
is_lawful Broken = false
is_lawful _ = true

all_data_lawful : (marks : List Mark) → AllData marks → is_lawful (walk NoData marks) ≡ true
all_data_lawful [] h = refl
all_data_lawful (m ∷ marks) h = rw (h.0, data_walk marks h.1) refl

pub lawful_walk : (marks : List Mark) → AreLawful marks → is_lawful (walk NoData marks) ≡ true
lawful_walk marks (inl h) = all_data_lawful marks h
lawful_walk marks (inr (inl h)) = rw (h.1, walk-append NoData h.0 (OfDot ∷ OfDatum ∷ []), some_data_walk h.0 h.2) refl
lawful_walk marks (inr (inr h)) =
    rw (
      h.2,
      walk-append NoData h.0
          (OfDot ∷ OfDatum ∷ OfDot ∷ h.1),
      some_data_walk h.0 h.3,
      some_closed_walk h.1 h.4,
    ) refl

pub walk_lawful : (marks : List Mark) → is_lawful (walk NoData marks) ≡ true → AreLawful marks
walk_lawful marks h = by_shape (walk NoData marks) h (has_shape marks)
  where
    by_shape : (s : Dotting) → is_lawful s ≡ true → HasShape s marks → AreLawful marks
    by_shape NoData l h = inl (subst AllData (sym h) tt)
    by_shape Data l h = inl h.1
    by_shape Dotted l h = absurd (false≢true l)
    by_shape Paired l h = inr (inl h)
    by_shape Infixed l h = absurd (false≢true l)
    by_shape Closed l h = inr (inr h)
    by_shape Broken l h = absurd (false≢true l)

-- what is broken stays so
broken_walk : (marks : List Mark) → walk Broken marks ≡ Broken
broken_walk [] = refl
broken_walk (m ∷ marks) = broken_walk marks

pub go_on_walk : (marks : List Mark) → MayGoOn marks → walk NoData marks ≡ Broken → ⊥
go_on_walk marks h e =
    let all : walk NoData (marks ++ h.0) ≡ Broken =
    walk-append NoData marks h.0 ∙ ap (λ s. walk s h.0) e ∙ broken_walk h.0 in
    false≢true (sym (ap is_lawful all) ∙ lawful_walk (marks ++ h.0) h.1)

pub walk_go_on : (marks : List Mark) → (walk NoData marks ≡ Broken → ⊥) → MayGoOn marks
walk_go_on marks n = by_state (walk NoData marks) refl n
  where
    by_state : (s : Dotting) → walk NoData marks ≡ s → (s ≡ Broken → ⊥) → MayGoOn marks
    by_state NoData e n = ([], walk_lawful (marks ++ []) (rw (walk-append NoData marks [], e) refl))
    by_state Data e n = ([], walk_lawful (marks ++ []) (rw (walk-append NoData marks [], e) refl))
    by_state Dotted e n = (
      OfDatum ∷ [],
      walk_lawful (marks ++ OfDatum ∷ []) (rw (walk-append NoData marks (OfDatum ∷ []), e) refl),
    )
    by_state Paired e n = ([], walk_lawful (marks ++ []) (rw (walk-append NoData marks [], e) refl))
    by_state Infixed e n = (
      OfDatum ∷ [],
      walk_lawful (marks ++ OfDatum ∷ []) (rw (walk-append NoData marks (OfDatum ∷ []), e) refl),
    )
    by_state Closed e n = ([], walk_lawful (marks ++ []) (rw (walk-append NoData marks [], e) refl))
    by_state Broken e n = absurd (n refl)

-- the list holds exactly one dot and one datum behind it where it is read as paired
pub dotted_walk : (marks : List Mark) → MayGoOn marks → IsDotted marks → walk NoData marks ≡ Paired
dotted_walk marks g d = by_front d.0 d.1 d.2
  where
    by_front : (front : List Mark) → marks ≡ front ++ OfDot ∷ OfDatum ∷ [] → AllData front → walk NoData marks ≡ Paired
    by_front [] e a = absurd (go_on_walk marks g (ap (λ xs. walk NoData xs) e))
    by_front (m ∷ front) e a =
        rw (e, walk-append NoData (m ∷ front) (OfDot ∷ OfDatum ∷ []), some_data_walk (m ∷ front) ((λ f. cc), a)) refl

pub paired_is_dotted : (marks : List Mark) → walk NoData marks ≡ Paired → IsDotted marks
paired_is_dotted marks e = let h = subst (λ s. HasShape s marks) e (has_shape marks) in (h.0, h.1, h.2.1)

-- with a datum, or a dot, the dots can still become lawful
still_not_broken : (s : Dotting) → takes_datum s ≡ true → step s OfDatum ≡ Broken → ⊥
still_not_broken Paired t e = false≢true t
still_not_broken Broken t e = false≢true t
still_not_broken _ t e = cc

dot_not_broken : (s : Dotting) → takes_dot s ≡ true → step s OfDot ≡ Broken → ⊥
dot_not_broken Data t e = cc
dot_not_broken Paired t e = cc
dot_not_broken _ t e = false≢true t

pub go_on_datum : (marks : List Mark) → takes_datum (walk NoData marks) ≡ true → MayGoOn (marks ++ OfDatum ∷ [])
go_on_datum marks t =
    walk_go_on (marks ++ OfDatum
    ∷ []) (λ e. still_not_broken (walk NoData marks) t (sym (walk-append NoData marks (OfDatum ∷ [])) ∙ e))

pub go_on_dot : (marks : List Mark) → takes_dot (walk NoData marks) ≡ true → MayGoOn (marks ++ OfDot ∷ [])
go_on_dot marks t =
    walk_go_on (marks ++ OfDot
    ∷ []) (λ e. dot_not_broken (walk NoData marks) t (sym (walk-append NoData marks (OfDot ∷ [])) ∙ e))

-- a list that takes no datum holds one dot and one datum behind it
pub takes_no_datum : (marks : List Mark) → MayGoOn marks → takes_datum (walk NoData marks) ≡ false → IsDotted marks
takes_no_datum marks g t = by_state (walk NoData marks) refl t
  where
    by_state : (s : Dotting) → walk NoData marks ≡ s → takes_datum s ≡ false → IsDotted marks
    by_state NoData e t = absurd (false≢true (sym t))
    by_state Data e t = absurd (false≢true (sym t))
    by_state Dotted e t = absurd (false≢true (sym t))
    by_state Paired e t = paired_is_dotted marks e
    by_state Infixed e t = absurd (false≢true (sym t))
    by_state Closed e t = absurd (false≢true (sym t))
    by_state Broken e t = absurd (go_on_walk marks g e)

pub takes_some_datum : (marks : List Mark) → MayGoOn marks → takes_datum (walk NoData marks) ≡ true → IsDotted marks → ⊥
takes_some_datum marks g t d = false≢true (sym (ap takes_datum (dotted_walk marks g d)) ∙ t)

-- a list that takes no dot has no datum yet, or two dots already, or ends in a dot
pub takes_no_dot : (marks : List Mark) → MayGoOn marks → takes_dot (walk NoData marks) ≡ false →
    (marks ≡ []) ⊎ (HoldsTwoDots marks ⊎ EndsInDot marks)
takes_no_dot marks g t = by_state (walk NoData marks) refl t (has_shape marks)
  where
    by_state : (s : Dotting) → walk NoData marks ≡ s → takes_dot s ≡ false → HasShape s marks →
        (marks ≡ []) ⊎ (HoldsTwoDots marks ⊎ EndsInDot marks)
    by_state NoData e t h = inl h
    by_state Data e t h = absurd (false≢true (sym t))
    by_state Dotted e t h = inr (inr (h.0, h.1))
    by_state Paired e t h = absurd (false≢true (sym t))
    by_state Infixed e t h = inr (inr (
      h.0 ++ OfDot ∷ OfDatum ∷ [],
      h.1 ∙ sym (append_assoc h.0 (OfDot ∷ OfDatum ∷ []) (OfDot ∷ [])),
    ))
    by_state Closed e t h = inr (inl (h.0, OfDatum ∷ [], h.1, h.2))
    by_state Broken e t h = absurd (go_on_walk marks g e)

-- the number of dots that were read, where broken ones count as two
abbrev level : Dotting → ℕ
level NoData = 0
level Data = 0
level Dotted = 1
level Paired = 1
level _ = 2

level_step : (s : Dotting) (m : Mark) → level s ≤ level (step s m)
level_step NoData OfDatum = omega arith
level_step NoData OfDot = omega arith
level_step _ OfDatum = omega arith
level_step _ OfDot = omega arith

level_walk : (s : Dotting) (marks : List Mark) → level s ≤ level (walk s marks)
level_walk s [] = omega arith
level_walk s (m ∷ marks) = omega (arith, level_step s m, level_walk (step s m) marks)

level_dot : (s : Dotting) (n : ℕ) → n < 2 → n ≤ level s → n < level (step s OfDot)
level_dot NoData n l h = omega arith
level_dot _ n l h = omega arith

two_dots_level : (marks : List Mark) → HoldsTwoDots marks → 2 ≤ level (walk NoData marks)
two_dots_level marks h =
    let first = walk NoData h.0 in
    let second = walk (step first OfDot) h.1 in
    let last = step second OfDot in
    let whole : walk NoData marks ≡ walk last h.2 =
    ap (λ xs. walk NoData xs) h.3 ∙ walk-append NoData h.0 (OfDot ∷ (h.1 ++ OfDot ∷ h.2))
    ∙ walk-append (step first OfDot) h.1 (OfDot ∷ h.2) in
    let one : 0 < level (step first OfDot) = level_dot first 0 (omega arith) (omega arith) in
    let still : 1 ≤ level second = omega (arith, level_walk (step first OfDot) h.1) in
    let two : 1 < level last = level_dot second 1 (omega arith) still in
    let end : level last ≤ level (walk last h.2) = level_walk last h.2 in
    rw whole (omega arith)

takes_dot_level : (s : Dotting) → takes_dot s ≡ true → level s < 2
takes_dot_level Infixed t = absurd (false≢true t)
takes_dot_level Closed t = absurd (false≢true t)
takes_dot_level Broken t = absurd (false≢true t)
takes_dot_level _ t = omega arith

dot_takes_none : (s : Dotting) → takes_dot (step s OfDot) ≡ false
dot_takes_none NoData = refl
dot_takes_none _ = refl

ends_walk : (marks : List Mark) (h : EndsInDot marks) → walk NoData marks ≡ step (walk NoData h.0) OfDot
ends_walk marks h = ap (λ xs. walk NoData xs) h.1 ∙ walk-append NoData h.0 (OfDot ∷ [])

pub takes_some_dot : (marks : List Mark) → takes_dot (walk NoData marks) ≡ true →
    (marks ≡ []) ⊎ (HoldsTwoDots marks ⊎ EndsInDot marks) → ⊥
takes_some_dot marks t (inl e) = false≢true (sym (ap (λ xs. takes_dot (walk NoData xs)) e) ∙ t)
takes_some_dot marks t (inr (inl h)) = omega (arith, two_dots_level marks h, takes_dot_level (walk NoData marks) t)
takes_some_dot marks t (inr (inr h)) =
    false≢true (sym (dot_takes_none (walk NoData h.0)) ∙ sym (ap takes_dot (ends_walk marks h)) ∙ t)

-- a list that can go on ends in a dot where it is told to
pub ends_told : (marks : List Mark) → ends_in_dot (walk NoData marks) ≡ true → EndsInDot marks
ends_told marks t = by_state (walk NoData marks) t (has_shape marks)
  where
    by_state : (s : Dotting) → ends_in_dot s ≡ true → HasShape s marks → EndsInDot marks
    by_state NoData t h = absurd (false≢true t)
    by_state Data t h = absurd (false≢true t)
    by_state Dotted t h = (h.0, h.1)
    by_state Paired t h = absurd (false≢true t)
    by_state Infixed t h = (
      h.0 ++ OfDot ∷ OfDatum ∷ [],
      h.1 ∙ sym (append_assoc h.0 (OfDot ∷ OfDatum ∷ []) (OfDot ∷ [])),
    )
    by_state Closed t h = absurd (false≢true t)
    by_state Broken t h = absurd (false≢true t)

ends_or_broken : (s : Dotting) → (step s OfDot ≡ Broken → ⊥) → ends_in_dot (step s OfDot) ≡ true
ends_or_broken Data n = refl
ends_or_broken Paired n = refl
ends_or_broken _ n = absurd (n refl)

pub ends_walked : (marks : List Mark) → MayGoOn marks → EndsInDot marks → ends_in_dot (walk NoData marks) ≡ true
ends_walked marks g h =
    ap ends_in_dot (ends_walk marks h)
    ∙ ends_or_broken (walk NoData h.0) (λ e. go_on_walk marks g (ends_walk marks h ∙ e))

-- dots that can go on and don't end in one are lawful
lawful_or : (s : Dotting) → (s ≡ Broken → ⊥) → ends_in_dot s ≡ false → is_lawful s ≡ true
lawful_or Dotted n t = absurd (false≢true (sym t))
lawful_or Infixed n t = absurd (false≢true (sym t))
lawful_or Broken n t = absurd (n refl)
lawful_or _ n t = refl

pub no_end_is_lawful : (marks : List Mark) → MayGoOn marks → ends_in_dot (walk NoData marks) ≡ false → AreLawful marks
no_end_is_lawful marks g t = walk_lawful marks (lawful_or (walk NoData marks) (go_on_walk marks g) t)

lawful_no_end : (s : Dotting) → is_lawful s ≡ true → ends_in_dot s ≡ false
lawful_no_end Dotted t = absurd (false≢true t)
lawful_no_end Infixed t = absurd (false≢true t)
lawful_no_end Broken t = absurd (false≢true t)
lawful_no_end _ t = refl

pub lawful_has_no_end : (marks : List Mark) → AreLawful marks → ends_in_dot (walk NoData marks) ≡ false
lawful_has_no_end marks l = lawful_no_end (walk NoData marks) (lawful_walk marks l)
