-- What nodes stand for stays so when a node is added behind them.
use Rattle.std.proofs.Common.{◌≡◌, ℕ, zero, suc, ◌<◌, ◌⊎◌, inl, inr, List, [], ◌∷◌, ◌++◌, length, Some, slice_get, refl, sym, ap, ◌∙◌, subst}
use Rattle.std.specs.List.{AllByRecursion}
use Rattle.std.proofs.lemmas.Option.{slice_get_within}
use Rattle.rf_base_grammar.specs.Token.{Token}
use Rattle.rf_base_tree.specs.Trees.{Tree, Leaf, Point, Comment, Prefixed, DatumComment, Listed, Forest, Empty, Then}
use Rattle.rf_base_tree.specs.Dots.{marked, marks_of}
use Rattle.rf_base_tree.specs.Dotting.{NoData, walk}
use Rattle.rf_base_tree.specs.Moves.{push}
use Rattle.rf_base_tree.proofs.Forests.{marks_of-push}
use Rattle.rf_base_tree.proofs.Dotting.{walk-append}
use Rattle.rf_tree.specs.Nodes.{UnfoldsTo, UnfoldTo, parts_of, PartsStandFirst, NamesBelow, AreSound}
use Rattle.rf_tree.specs.Levels.{IsLevel, Gains}
use Rattle.rf_tree.specs.Parsing.{Makes}
use Rattle.rf_tree.specs.declared.nodes.At.{At}
use Rattle.rf_tree.specs.Told.{Node}
use Rattle.rf_tree.specs.declared.levels.Level.{Level}

slice_get_more : {A : Type 0} (xs ys : List A) (k : ℕ) (x : A) → slice_get xs k ≡ Some x → slice_get (xs ++ ys) k ≡ Some x
slice_get_more [] ys k x h = cc
slice_get_more (y ∷ xs) ys zero x h = h
slice_get_more (y ∷ xs) ys (suc k) x h = slice_get_more xs ys k x h

mutual
  unfolding UnfoldsTo UnfoldTo

  pub UnfoldsTo-more : (ts : List Token) (nodes : List Node) (added : Node) (at : ℕ) (t : Tree) → UnfoldsTo ts nodes at t → UnfoldsTo ts (nodes ++ added ∷ []) at t
  UnfoldsTo-more ts nodes added at (Leaf item) h = (slice_get_more nodes (added ∷ []) at _ h.0, h.1)
  UnfoldsTo-more ts nodes added at (Point item) h = (slice_get_more nodes (added ∷ []) at _ h.0, h.1)
  UnfoldsTo-more ts nodes added at (Comment item) h = slice_get_more nodes (added ∷ []) at _ h
  UnfoldsTo-more ts nodes added at (Prefixed item lead inner) h =
      (h.0, h.1, slice_get_more nodes (added ∷ []) at _ h.2, UnfoldTo-more ts nodes added h.0 lead h.3, UnfoldsTo-more ts nodes added h.1.0 inner h.4)
  UnfoldsTo-more ts nodes added at (DatumComment item lead inner) h =
      (h.0, h.1, slice_get_more nodes (added ∷ []) at _ h.2, UnfoldTo-more ts nodes added h.0 lead h.3, UnfoldsTo-more ts nodes added h.1.0 inner h.4)
  UnfoldsTo-more ts nodes added at (Listed opener entries closer) h =
      (h.0, slice_get_more nodes (added ∷ []) at _ h.1, UnfoldTo-more ts nodes added h.0 entries h.2)

  pub UnfoldTo-more : (ts : List Token) (nodes : List Node) (added : Node) (ats : List At) (f : Forest) → UnfoldTo ts nodes ats f → UnfoldTo ts (nodes ++ added ∷ []) ats f
  UnfoldTo-more ts nodes added [] Empty h = tt
  UnfoldTo-more ts nodes added [] (Then t f) h = absurd h
  UnfoldTo-more ts nodes added (at ∷ ats) Empty h = absurd h
  UnfoldTo-more ts nodes added (at ∷ ats) (Then t f) h = (UnfoldsTo-more ts nodes added at.0 t h.0, UnfoldTo-more ts nodes added ats f h.1)

-- a node that stands for a tree is there
pub UnfoldsTo-below : (ts : List Token) (nodes : List Node) (at : ℕ) (t : Tree) → UnfoldsTo ts nodes at t → at < length nodes
unfolding UnfoldsTo
UnfoldsTo-below ts nodes at (Comment item) h = slice_get_within nodes at _ h
UnfoldsTo-below ts nodes at (Prefixed item lead inner) h = slice_get_within nodes at _ h.2
UnfoldsTo-below ts nodes at (DatumComment item lead inner) h = slice_get_within nodes at _ h.2
UnfoldsTo-below ts nodes at (Listed opener entries closer) h = slice_get_within nodes at _ h.1
UnfoldsTo-below ts nodes at _ h = slice_get_within nodes at _ h.0

pub UnfoldTo-below : (ts : List Token) (nodes : List Node) (ats : List At) (f : Forest) → UnfoldTo ts nodes ats f → AllByRecursion (λ at. at.0 < length nodes) ats
unfolding UnfoldTo
UnfoldTo-below ts nodes [] Empty h = tt
UnfoldTo-below ts nodes [] (Then t f) h = absurd h
UnfoldTo-below ts nodes (at ∷ ats) Empty h = absurd h
UnfoldTo-below ts nodes (at ∷ ats) (Then t f) h = (UnfoldsTo-below ts nodes at.0 t h.0, UnfoldTo-below ts nodes ats f h.1)

-- one more tree behind the others
UnfoldTo-push : (ts : List Token) (nodes : List Node) (ats : List At) (f : Forest) (at : At) (t : Tree) → UnfoldTo ts nodes ats f → UnfoldsTo ts nodes at.0 t → UnfoldTo ts nodes (ats ++ at ∷ []) (push f t)
unfolding UnfoldTo
UnfoldTo-push ts nodes [] Empty at t h k = (k, tt)
UnfoldTo-push ts nodes [] (Then u f) at t h k = absurd h
UnfoldTo-push ts nodes (a ∷ ats) Empty at t h k = absurd h
UnfoldTo-push ts nodes (a ∷ ats) (Then u f) at t h k = (h.0, UnfoldTo-push ts nodes ats f at t h.1 k)

pub UnfoldTo-none : (ts : List Token) (nodes : List Node) → UnfoldTo ts nodes [] Empty
unfolding UnfoldTo
UnfoldTo-none ts nodes = tt

-- the node that was added stands at the end
pub slice_get_last : {A : Type 0} (xs : List A) (x : A) → slice_get (xs ++ x ∷ []) (length xs) ≡ Some x
slice_get_last [] x = refl
slice_get_last (y ∷ xs) x = slice_get_last xs x

-- a node is an older one or the one that was added
slice_get_push : {A : Type 0} (xs : List A) (x y : A) (k : ℕ) → slice_get (xs ++ x ∷ []) k ≡ Some y → (slice_get xs k ≡ Some y) ⊎ ((k ≡ length xs) × (x ≡ y))
slice_get_push [] x y zero h = inr (refl, cc)
slice_get_push [] x y (suc k) h = cc
slice_get_push (z ∷ xs) x y zero h = inl h
slice_get_push (z ∷ xs) x y (suc k) h =
    elim (slice_get_push xs x y k h) [ inl p ↦ inl p | inr p ↦ inr (ap suc p.0, p.1) ]

pub all_push : {A : Type 0} (P : A → Type 0) (xs : List A) (x : A) → AllByRecursion P xs → P x → AllByRecursion P (xs ++ x ∷ [])
all_push P [] x h p = (p, tt)
all_push P (y ∷ xs) x h p = (h.0, all_push P xs x h.1 p)

first_push : (nodes : List Node) (added : Node) → PartsStandFirst nodes → AllByRecursion (λ part. part.0 < length nodes) (parts_of added) → PartsStandFirst (nodes ++ added ∷ [])
first_push nodes added h below at n e =
    elim (slice_get_push nodes added n at e) [
      | inl old ↦ h at n old
      | inr new ↦
          subst (λ (k : ℕ). AllByRecursion (λ part. part.0 < k) (parts_of n)) (sym new.0)
          (subst (λ (m : Node). AllByRecursion (λ part. part.0 < length nodes) (parts_of m)) new.1 below)
    ]

-- a node that was made behind sound ones leaves them sound
pub AreSound-push : (ts : List Token) (nodes : List Node) (added : Node) (t : Tree) → AreSound ts nodes → Makes ts nodes added t → AreSound ts (nodes ++ added ∷ [])
AreSound-push ts nodes added t sound makes =
    record {
      parts_first = first_push nodes added sound.parts_first makes.parts_first;
      names = all_push (NamesBelow (length ts)) nodes added sound.names makes.names;
    }

pub IsLevel-more : (ts : List Token) (nodes : List Node) (added : Node) (level : Level) (f : Forest) → IsLevel ts nodes level f → IsLevel ts (nodes ++ added ∷ []) level f
IsLevel-more ts nodes added level f h = (UnfoldTo-more ts nodes added level.nodes.items f h.0, h.1)

-- one more tree on the level
pub IsLevel-push : (ts : List Token) (nodes : List Node) (at : At) (old new : Level) (f : Forest) (t : Tree) → IsLevel ts nodes old f → Gains at (marked t []) old new → UnfoldsTo ts nodes at.0 t → IsLevel ts nodes new (push f t)
IsLevel-push ts nodes at old new f t h gains k = (
  subst (λ (ats : List At). UnfoldTo ts nodes ats (push f t)) (sym gains.nodes) (UnfoldTo-push ts nodes old.nodes.items f at t h.0 k),
  gains.dots ∙ ap (λ s. walk s (marked t [])) h.1 ∙ sym (walk-append NoData (marks_of f) (marked t [])) ∙ ap (λ xs. walk NoData xs) (sym (marks_of-push f t)),
)
