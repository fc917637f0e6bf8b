-- What is chosen of a node, from what is chosen of its parts.
use Rattle.std.proofs.Common.{◌≡◌, ℕ, zero, suc, ◌≤◌, Bool, List, [], ◌∷◌, ◌++◌, length, take, Option, None, Some, refl, sym, ◌∙◌, ap, subst, append_assoc, append-nil, arith}
use Rattle.rf_base_document.specs.declared.directions.Dir.{Dir}
use Rattle.rf_base_document.specs.declared.directions.Dir.TheVariants.{Left, Right}
use Rattle.rf_base_document.specs.Document.{Doc, Concat, Choice}
use Rattle.rf_base_document.specs.Simple.{simple}
use Rattle.rf_base_cost.specs.Cost.{Costs}
use Rattle.rf_search.specs.Tasks.{Task}
use Rattle.rf_search.specs.Parting.{IsChosen, HasNothing, IsPart}
use Rattle.rf_search.proofs.Partly.{concat_part, left_part, right_part, no_first, no_second, no_sides}

-- what is chosen of a node, wherever it stands
abbrev pub IsPartOfNode : {C N : Type 0} → Task C N → N → Bool → ℕ → ℕ → List Dir → List Dir → Option ℕ → Type 0
IsPartOfNode task n = IsPart task.costs task.sought.limit (task.documents.document n)

pub moved_part : {C N : Type 0} (task : Task C N) (n k : N) (flat other : Bool) (column i j : ℕ) (old new : List Dir) (last : Option ℕ) → n ≡ k → flat ≡ other → i ≡ j →
    IsPartOfNode task n flat column i old new last → IsPartOfNode task k other column j old new last
moved_part {N = N} task n k flat other column i j old new last e f g h =
    subst (λ (z : ℕ). IsPartOfNode task k other column z old new last) g
    (subst (λ (z : Bool). IsPartOfNode task k z column i old new last) f
    (subst (λ (z : N). IsPartOfNode task z flat column i old new last) e h))

-- a node stands for its document
pub node_part : {C N : Type 0} (task : Task C N) (n : N) (d : Doc) (flat : Bool) (column i : ℕ) (old new : List Dir) (last : Option ℕ) → task.documents.document n ≡ d → IsPart task.costs task.sought.limit d flat column i old new last →
    IsPartOfNode task n flat column i old new last
node_part task n d flat column i old new last e h = subst (λ (z : Doc). IsPart task.costs task.sought.limit z flat column i old new last) (sym e) h

pub node_nothing : {C N : Type 0} (task : Task C N) (n : N) (d : Doc) (flat : Bool) (column i : ℕ) → task.documents.document n ≡ d → HasNothing task.costs task.sought.limit (task.documents.document n) flat column i → HasNothing task.costs task.sought.limit d flat column i
node_nothing task n d flat column i e h = subst (λ (z : Doc). HasNothing task.costs task.sought.limit z flat column i) e h

-- a leaf adds no choice
pub leaf_part : {C : Type 0} (costs : Costs C) (w : ℕ) (d : Doc) (flat : Bool) (column i last end : ℕ) (old : List Dir) → last ≡ end → IsChosen costs w d flat column i [] end → IsPart costs w d flat column i old old (Some last)
leaf_part costs w d flat column i last end old e h = ([], sym (append-nil old), subst (λ (z : ℕ). IsChosen costs w d flat column i [] z) (sym e) h)

take_none : {A : Type 0} (xs : List A) → take (length xs) xs ≡ xs
take_none [] = refl
take_none {A = A} (x ∷ xs) = ap (λ (z : List A). x ∷ z) (take_none xs)

pub nothing_part : {C : Type 0} (costs : Costs C) (w : ℕ) (d : Doc) (flat : Bool) (column i : ℕ) (old : List Dir) → simple d flat ≡ None → IsPart costs w d flat column i old old None
nothing_part costs w d flat column i old e = (e, take_none old)

take_front : {A : Type 0} (xs ys : List A) → take (length xs) (xs ++ ys) ≡ xs
take_front [] ys = refl
take_front {A = A} (x ∷ xs) ys = ap (λ (z : List A). x ∷ z) (take_front xs ys)

take_less : {A : Type 0} (k n : ℕ) (xs : List A) → k ≤ n → take k (take n xs) ≡ take k xs
take_less (suc k) zero xs p = absurd (omega arith)
take_less {A = A} (suc k) (suc n) (x ∷ xs) p = ap (λ (z : List A). x ∷ z) (take_less k n xs (omega arith))
take_less _ _ _ p = refl

front_length : {A : Type 0} (xs ys : List A) → length xs ≤ length (xs ++ ys)
front_length [] ys = omega arith
front_length (x ∷ xs) ys = omega (arith, front_length xs ys)

-- what begins with a list begins with its beginning
begins_less : {A : Type 0} (old added mid new : List A) → mid ≡ old ++ added → take (length mid) new ≡ mid → take (length old) new ≡ old
begins_less {A = A} old added mid new e h =
    sym (take_less (length old) (length mid) new (subst (λ (z : List A). length old ≤ length z) (sym e) (front_length old added)))
    ∙ (ap (λ (z : List A). take (length old) z) (h ∙ e) ∙ take_front old added)

-- both parts
pub concat_none : {C : Type 0} (costs : Costs C) (w : ℕ) (a b : Doc) (flat : Bool) (column i : ℕ) (old new : List Dir) → IsPart costs w a flat column i old new None → IsPart costs w (Concat a b) flat column i old new None
concat_none costs w a b flat column i old new h = (no_first a b flat h.0, h.1)

pub concat_found : {C : Type 0} (costs : Costs C) (w : ℕ) (a b : Doc) (flat : Bool) (column i middle : ℕ) (old mid new : List Dir) (last : Option ℕ) → HasNothing costs w (Concat a b) flat column i →
    IsPart costs w a flat column i old mid (Some middle) → IsPart costs w b flat middle i mid new last → IsPart costs w (Concat a b) flat column i old new last
concat_found costs w a b flat column i middle old mid new None nothing h k = (no_second a b flat h.2.0 h.2.1 k.0, begins_less old h.0 mid new h.1 k.1)
concat_found costs w a b flat column i middle old mid new (Some end) nothing h k =
    (h.0 ++ k.0, k.1 ∙ (ap (λ (z : List Dir). z ++ k.0) h.1 ∙ append_assoc old h.0 k.0), concat_part costs w a b flat column i h.0 k.0 middle end nothing h.2 k.2)

-- a side behind its direction
behind_turn : (old pushed added : List Dir) (dir : Dir) → pushed ≡ old ++ dir ∷ [] → pushed ++ added ≡ old ++ dir ∷ added
behind_turn old pushed added dir e = ap (λ (z : List Dir). z ++ added) e ∙ append_assoc old (dir ∷ []) added

pub left_found : {C : Type 0} (costs : Costs C) (w : ℕ) (a b : Doc) (flat : Bool) (column i last : ℕ) (old pushed new : List Dir) → HasNothing costs w (Choice a b) flat column i → pushed ≡ old ++ Left ∷ [] →
    IsPart costs w a flat column i pushed new (Some last) → IsPart costs w (Choice a b) flat column i old new (Some last)
left_found costs w a b flat column i last old pushed new nothing e h =
    (Left ∷ h.0, h.1 ∙ behind_turn old pushed h.0 Left e, left_part costs w a b flat column i h.0 last nothing h.2)

pub right_found : {C : Type 0} (costs : Costs C) (w : ℕ) (a b : Doc) (flat : Bool) (column i : ℕ) (old pushed new : List Dir) (last : Option ℕ) → simple a flat ≡ None → pushed ≡ old ++ Right ∷ [] →
    IsPart costs w b flat column i pushed new last → IsPart costs w (Choice a b) flat column i old new last
right_found costs w a b flat column i old pushed new None none e h = (no_sides a b flat none h.0, begins_less old (Right ∷ []) pushed new e h.1)
right_found costs w a b flat column i old pushed new (Some last) none e h =
    (Right ∷ h.0, h.1 ∙ behind_turn old pushed h.0 Right e, right_part costs w a b flat column i h.0 last none h.2)

-- the directions before the first side stand again
pub stands_again : (old pushed new again : List Dir) (dir : Dir) → pushed ≡ old ++ dir ∷ [] → take (length pushed) new ≡ pushed → again ≡ take (length old) new → again ≡ old
stands_again old pushed new again dir e h is = is ∙ begins_less old (dir ∷ []) pushed new e h

pub if_last : {C N : Type 0} (task : Task C N) (n : N) (flat : Bool) (column i : ℕ) (old new : List Dir) (o last : Option ℕ) → o ≡ last → IsPartOfNode task n flat column i old new o → IsPartOfNode task n flat column i old new last
if_last task n flat column i old new o last e h = subst (λ (z : Option ℕ). IsPartOfNode task n flat column i old new z) e h
