-- What is written of a document on one line is the only line of its layouts.
use Rattle.std.proofs.Common.{◌≡◌, ℕ, ◌+◌, Bool, true, false, ◌&&◌, List, [], ◌∷◌, ◌++◌, refl, sym, ◌∙◌, ap, ap₂, subst, ◌⊎◌, inl, inr, Option, Some, None}
use Rattle.std.specs.Prelude.{nat_le, not, IsTrue}
use Rattle.std.specs.Option.{option_map}
use Rattle.std.proofs.lemmas.Bool.{or_left, or_right, and_from}
use Rattle.rf_base_document.specs.declared.directions.Dir.{Dir}
use Rattle.rf_base_document.specs.declared.directions.Dir.TheVariants.{Left, Right}
use Rattle.rf_base_document.specs.Document.{Doc, Text, Newline, Hard, Concat, Nest, Align, Reset, Flatten, Choice, Only, Charge}
use Rattle.rf_base_cost.proofs.Dominance.{true_le}
use Rattle.rf_base_cut.specs.Documents.{flat_length_in}
use Rattle.rf_base_cut.specs.DocumentLines.{IsLong, IsFlattenable, never_free_in, OneLineIn}
use Rattle.rf_base_cut.proofs.DocumentCuts.{flat_where_long}
use Rattle.rf_base_lines.specs.Spelled.{Spelled, spelled, spelled_text, spelled_both, spelled_behind, spelled_either, spelled_newline, spelled_line}
use Rattle.rf_base_lines.specs.Lengths.{HasLength}
use Rattle.rf_base_lines.proofs.Spelling.{both_some, behind_some}

-- where nothing is written of a document, each resolution has a break or a charge
newline_shut : (flat : Bool) → spelled_newline flat ≡ None → not flat ≡ true
newline_shut true e = cc
newline_shut false e = refl

both_none : (a b : Option Spelled) → spelled_both a b ≡ None → (a ≡ None) ⊎ (b ≡ None)
both_none None b e = inl refl
both_none (Some a) None e = inr refl
both_none (Some a) (Some b) e = cc

either_none : (a b : Option Spelled) → spelled_either a b ≡ None → (a ≡ None) × (b ≡ None)
either_none None None e = (refl, refl)
either_none _ _ e = cc

behind_none : (dir : Dir) (a : Option Spelled) → option_map (spelled_behind (dir ∷ [])) a ≡ None → a ≡ None
behind_none dir None e = refl
behind_none dir (Some x) e = cc

unspelled_never_free : (d : Doc) (flat : Bool) (len : ℕ) → IsLong d flat len → spelled_line d flat ≡ None → never_free_in d flat ≡ true
unfolding spelled_line never_free_in IsLong
unspelled_never_free (Text s columns) flat len h e = cc
unspelled_never_free Newline flat len h e = newline_shut flat e
unspelled_never_free Hard flat len h e = refl
unspelled_never_free (Concat a b) flat len h e =
    elim (both_none (spelled_line a flat) (spelled_line b flat) e) [
      | inl none ↦ or_left (never_free_in a flat) (never_free_in b flat) (unspelled_never_free a flat h.0 h.3 none)
      | inr none ↦ or_right (never_free_in a flat) (never_free_in b flat) (unspelled_never_free b flat h.1 h.4 none)
    ]
unspelled_never_free (Nest n a) flat len h e = unspelled_never_free a flat len h e
unspelled_never_free (Align a) flat len h e = unspelled_never_free a flat len h e
unspelled_never_free (Reset a) flat len h e = unspelled_never_free a flat len h e
unspelled_never_free (Flatten a) flat len h e = unspelled_never_free a true len h e
unspelled_never_free (Choice a b) flat len h e =
    let none = either_none (spelled_line a flat) (spelled_line b flat) e in
    and_from (never_free_in a flat) (never_free_in b flat) (unspelled_never_free a flat len h.0 none.0) (unspelled_never_free b flat len h.1 none.1)
unspelled_never_free (Only dir a) flat len h e = unspelled_never_free a flat len h (behind_none dir (spelled_line a flat) e)
unspelled_never_free (Charge k a) flat len h e = or_left (nat_le 1 k) (never_free_in a flat) (true_le 1 k h)

-- where something is, it is one line, and as long as each
abbrev OneLineOf : Doc → Bool → ℕ → Spelled → Type 0
OneLineOf d flat len l = (l.len ≡ len) × OneLineIn d flat l.len l.how

same_of : (d : Doc) (flat : Bool) (len : ℕ) (l k : Spelled) → l ≡ k → OneLineOf d flat len l → OneLineOf d flat len k
same_of d flat len l k e h = subst (λ (z : Spelled). OneLineOf d flat len z) e h

newline_of : (flat : Bool) (len : ℕ) (l : Spelled) → IsLong Newline flat len → spelled_newline flat ≡ Some l → OneLineOf Newline flat len l
unfolding IsLong OneLineIn
newline_of true len l h e =
    let same : spelled_text (32 ∷ []) 1 ≡ l = cc in
    same_of Newline true len (spelled_text (32 ∷ []) 1) l same (sym h, (refl, refl, refl))
newline_of false len l h e = cc

concat_of : (a b : Doc) (flat : Bool) (i j : ℕ) (x y : Spelled) → OneLineOf a flat i x → OneLineOf b flat j y →
    OneLineOf (Concat a b) flat (i + j) (spelled (x.len + y.len) (x.how ++ y.how) (x.text ++ y.text) (x.words + y.words))
unfolding OneLineIn
concat_of a b flat i j x y h k =
    (ap₂ (λ (n m : ℕ). n + m) h.0 k.0, (x.len, y.len, x.how, y.how, refl, refl, h.1, k.1))

-- the other side of a choice has a break or a charge, or is as long
abbrev IsOther : Doc → Bool → ℕ → Type 0
IsOther b flat len = IsTrue (never_free_in b flat) ⊎ ((other : List Dir) × OneLineIn b flat len other)

other_of : (b : Doc) (flat : Bool) (len : ℕ) (o : Option Spelled) → (o ≡ None → never_free_in b flat ≡ true) →
    ((y : Spelled) → o ≡ Some y → OneLineOf b flat len y) → IsOther b flat len
other_of b flat len None f g = inl (f refl)
other_of b flat len (Some y) f g =
    let of = g y refl in inr (y.how, subst (λ (n : ℕ). OneLineIn b flat n y.how) of.0 of.1)

left_of : (a b : Doc) (flat : Bool) (len : ℕ) (x : Spelled) → OneLineOf a flat len x → IsOther b flat len →
    OneLineOf (Choice a b) flat len (spelled_behind (Left ∷ []) x)
unfolding OneLineIn
left_of a b flat len x h other =
    (h.0, (x.how, inl (refl, h.1, subst (λ (n : ℕ). IsOther b flat n) (sym h.0) other)))

right_of : (a b : Doc) (flat : Bool) (len : ℕ) (y : Spelled) → OneLineOf b flat len y → never_free_in a flat ≡ true →
    OneLineOf (Choice a b) flat len (spelled_behind (Right ∷ []) y)
unfolding OneLineIn
right_of a b flat len y h never = (h.0, (y.how, inr (refl, never, h.1)))

only_of : (dir : Dir) (a : Doc) (flat : Bool) (len : ℕ) (x : Spelled) → OneLineOf a flat len x →
    OneLineOf (Only dir a) flat len (spelled_behind (dir ∷ []) x)
unfolding OneLineIn
only_of dir a flat len x h = (h.0, (x.how, refl, h.1))

-- a line of the first side, or, where that has none, of the second
abbrev IsFirstOf : Option Spelled → Option Spelled → Spelled → Type 0
IsFirstOf a b l =
    ((x : Spelled) × (a ≡ Some x) × (spelled_behind (Left ∷ []) x ≡ l))
    ⊎ ((a ≡ None) × ((y : Spelled) × (b ≡ Some y) × (spelled_behind (Right ∷ []) y ≡ l)))

first_some : (a b : Option Spelled) (l : Spelled) → spelled_either a b ≡ Some l → IsFirstOf a b l
first_some None None l e = cc
first_some None (Some y) l e = inr (refl, (y, refl, cc))
first_some (Some x) b l e = inl (x, refl, cc)

line_is : (d : Doc) (flat : Bool) (len : ℕ) (l : Spelled) → IsLong d flat len → spelled_line d flat ≡ Some l → OneLineOf d flat len l
unfolding spelled_line IsLong OneLineIn
line_is (Text s columns) flat len l h e =
    let same : spelled_text s columns ≡ l = cc in same_of (Text s columns) flat len (spelled_text s columns) l same (sym h, (refl, refl))
line_is Newline flat len l h e = newline_of flat len l h e
line_is Hard flat len l h e = cc
line_is (Concat a b) flat len l h e =
    let parts = both_some (spelled_line a flat) (spelled_line b flat) l e in
    let x = parts.0 in
    let y = parts.1 in
    let both : Spelled = spelled (x.len + y.len) (x.how ++ y.how) (x.text ++ y.text) (x.words + y.words) in
    same_of (Concat a b) flat len both l parts.4
    (subst (λ (n : ℕ). OneLineOf (Concat a b) flat n both) (sym h.2)
    (concat_of a b flat h.0 h.1 x y (line_is a flat h.0 x h.3 parts.2) (line_is b flat h.1 y h.4 parts.3)))
line_is (Nest n a) flat len l h e = line_is a flat len l h e
line_is (Align a) flat len l h e = line_is a flat len l h e
line_is (Reset a) flat len l h e = line_is a flat len l h e
line_is (Flatten a) flat len l h e = line_is a true len l h e
line_is (Choice a b) flat len l h e =
    elim (first_some (spelled_line a flat) (spelled_line b flat) l e) [
      | inl first ↦
          same_of (Choice a b) flat len (spelled_behind (Left ∷ []) first.0) l first.2
          (left_of a b flat len first.0 (line_is a flat len first.0 h.0 first.1)
          (other_of b flat len (spelled_line b flat) (λ none. unspelled_never_free b flat len h.1 none)
          (λ y some. line_is b flat len y h.1 some)))
      | inr second ↦
          same_of (Choice a b) flat len (spelled_behind (Right ∷ []) second.1.0) l second.1.2
          (right_of a b flat len second.1.0 (line_is b flat len second.1.0 h.1 second.1.1) (unspelled_never_free a flat len h.0 second.0))
    ]
line_is (Only dir a) flat len l h e =
    let part = behind_some dir (spelled_line a flat) l e in
    same_of (Only dir a) flat len (spelled_behind (dir ∷ []) part.0) l part.2 (only_of dir a flat len part.0 (line_is a flat len part.0 h part.1))
line_is (Charge k a) flat len l h e = cc

pub spelled_one_line_in : (d : Doc) (flat : Bool) (l : Spelled) → HasLength d → spelled_line d flat ≡ Some l → OneLineIn d flat l.len l.how
spelled_one_line_in d flat l h e = (line_is d flat h.0 l (h.1 flat) e).1

-- flat, without a hard newline and a charge, it is one text
pub spelled_text_is : (d : Doc) (l : Spelled) → HasLength d → IsFlattenable d → spelled_line d true ≡ Some l → flat_length_in d true ≡ Some l.len
spelled_text_is d l h f e =
    flat_where_long d h.0 f (h.1 true) ∙ ap (λ (n : ℕ). Some n) (sym (line_is d true h.0 l (h.1 true) e).0)

-- what is on one line where it isn't flat is so where it is

both_of : (a b : Option Spelled) (x y : Spelled) → a ≡ Some x → b ≡ Some y → (m : Spelled) × (spelled_both a b ≡ Some m)
both_of a b x y e f =
    (spelled (x.len + y.len) (x.how ++ y.how) (x.text ++ y.text) (x.words + y.words), ap₂ spelled_both e f)

first_either : (a b : Option Spelled) (x : Spelled) → a ≡ Some x → (m : Spelled) × (spelled_either a b ≡ Some m)
first_either a b x e = (spelled_behind (Left ∷ []) x, ap (λ (o : Option Spelled). spelled_either o b) e)

second_either : (a b : Option Spelled) (y : Spelled) → b ≡ Some y → (m : Spelled) × (spelled_either a b ≡ Some m)
second_either None b y e = (spelled_behind (Right ∷ []) y, ap (λ (o : Option Spelled). spelled_either None o) e)
second_either (Some x) b y e = (spelled_behind (Left ∷ []) x, refl)

pub spelled_flat : (d : Doc) (l : Spelled) → spelled_line d false ≡ Some l → (m : Spelled) × (spelled_line d true ≡ Some m)
unfolding spelled_line
spelled_flat (Text s columns) l e = (spelled_text s columns, refl)
spelled_flat (Concat a b) l e =
    let parts = both_some (spelled_line a false) (spelled_line b false) l e in
    let first = spelled_flat a parts.0 parts.2 in
    let second = spelled_flat b parts.1 parts.3 in
    both_of (spelled_line a true) (spelled_line b true) first.0 second.0 first.1 second.1
spelled_flat (Nest n a) l e = spelled_flat a l e
spelled_flat (Align a) l e = spelled_flat a l e
spelled_flat (Reset a) l e = spelled_flat a l e
spelled_flat (Flatten a) l e = (l, e)
spelled_flat (Choice a b) l e =
    elim (first_some (spelled_line a false) (spelled_line b false) l e) [
      | inl first ↦ let one = spelled_flat a first.0 first.1 in first_either (spelled_line a true) (spelled_line b true) one.0 one.1
      | inr second ↦ let one = spelled_flat b second.1.0 second.1.1 in second_either (spelled_line a true) (spelled_line b true) one.0 one.1
    ]
spelled_flat (Only dir a) l e =
    let part = behind_some dir (spelled_line a false) l e in
    let one = spelled_flat a part.0 part.1 in
    (spelled_behind (dir ∷ []) one.0, ap (option_map (spelled_behind (dir ∷ []))) one.1)
spelled_flat _ l e = cc
