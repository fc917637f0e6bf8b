-- What results and compared directions say.
use Rattle.std.proofs.Common.{◌≡◌, ℕ, zero, suc, ◌<◌, ◌≤◌, List, [], ◌∷◌, length, drop, get_or, arith, Bool, true, false, Option, None, Some, Result, Ok, Err, IsErrAnd, IfOk, IfSome, refl, sym, ap, subst, ◌∙◌}
use Rattle.std.specs.Prelude.{IsErrOf}
use Rattle.std.specs.Option.{MatchOption}
use Rattle.std.proofs.lemmas.Result.{err_from_is_err_and}
use Rattle.std.specs.Bool.{Decides}
use Rattle.rf_base_document.specs.declared.directions.Dir.{Dir}
use Rattle.rf_base_document.specs.declared.directions.Dir.TheVariants.{Left, Right}

pub is_ok : {A E : Type 0} (r : Result A E) (x : A) (P : A → Type 0) → r ≡ Ok x → IfOk r P → P x
is_ok r x P is h = subst (λ (q : Result _ _). IfOk q P) is h

-- an error that goes on is the same one
pub same_err : {T U E : Type 0} {r : Result T E} {e other : E} → IsErrAnd r (λ h. h ≡ e) → IsErrOf r other →
    IsErrOf {T = U} (Err e) other
same_err {r = r} is was = let p = err_from_is_err_and r is in cc

pub if_some_of : {A : Type 0} (o : Option A) (P : Type 0) (Q : A → Type 0) → MatchOption o P Q → IfSome o Q
if_some_of None P Q h = tt
if_some_of (Some x) P Q h = h

-- a comparison of directions that tells them apart
pub dirs_decide : (same : Dir → Dir → Bool) → same Left Left ≡ true → same Left Right ≡ false → same Right Left ≡ false → same Right Right ≡ true → (a b : Dir) → Decides (same a b) (a ≡ b)
dirs_decide same ll lr rl rr Left Left = (λ e. refl, λ e. ll)
dirs_decide same ll lr rl rr Right Right = (λ e. refl, λ e. rr)
dirs_decide same ll lr rl rr _ _ = (λ e. cc, λ e. cc)

-- the elements from a place on, and behind all of them
drop_all : {A : Type 0} (xs : List A) → drop (length xs) xs ≡ []
drop_all [] = refl
drop_all (x ∷ xs) = drop_all xs

pub drop_whole : {A : Type 0} (xs : List A) (n : ℕ) → n ≡ length xs → drop n xs ≡ []
drop_whole xs n is = ap (λ (k : ℕ). drop k xs) is ∙ drop_all xs

drop_next : {A : Type 0} (xs : List A) (i : ℕ) (d : A) → i < length xs → drop i xs ≡ get_or xs i d ∷ drop (suc i) xs
drop_next [] i d less = absurd (omega (arith, less))
drop_next (x ∷ xs) zero d less = refl
drop_next (x ∷ xs) (suc i) d less = drop_next xs i d (omega (arith, less))

pub drop_before : {A : Type 0} (xs : List A) (m n : ℕ) (d : A) → n ≡ suc m → n ≤ length xs → drop m xs ≡ get_or xs m d ∷ drop n xs
drop_before xs m n d is within = drop_next xs m d (omega (arith, is, within)) ∙ ap (λ (k : ℕ). get_or xs m d ∷ drop k xs) (sym is)
