-- What the plain reader answers by the first characters.
use Rattle.std.proofs.Common.{◌≡◌, ◌≢◌, ℕ, Bool, true, false, cond, if◌then◌else◌, ◌⊎◌, Option, None, Some, List, [], ◌∷◌, ◌==◌, ◌||◌, refl, sym, inl, inr, unwrap_or}
use Rattle.std.specs.Prelude.{codes}
use Rattle.std.proofs.lemmas.Bool.{ne_eqb, eqb-true, eqb-false, or_cases, or_parts}
use Rattle.std.specs.Borrow.{Bor}
use Rattle.std.specs.Str.{chars}
use Rattle.rf_base_grammar.specs.Cuts.{run_cut, Bare}
use Rattle.rf_base_grammar.specs.Reader.{Found, opened_by, front_item, strip, read_behind, here_item, language_item, label_item, run_item}
use Rattle.rf_lexer.specs.Fronts.{Tells, closed_by, is_quote, is_hash_quote}
use Rattle.rf_lexer.specs.declared.front.Front.TheVariants.{Read}
use Rattle.rf_base_grammar.specs.declared.kinds.Kind.TheVariants.{Opener, Closer, Prefix}
use Rattle.rf_base_grammar.specs.declared.kinds.Bracket.{Bracket}
use Rattle.rf_base_grammar.specs.declared.kinds.Bracket.TheVariants.{Round, Square, Curly}
use Rattle.rf_base_grammar.specs.Characters.{is_delimiter, is_white}

pub other : (a c : ℕ) → c ≢ a → (a == c) ≡ false
other a c h = ne_eqb a c (λ e. h (sym e))

-- a prefix that an @ makes longer
comma_told : (k : Option (List ℕ)) (behind short long : List ℕ) (r : Bor (List ℕ)) → chars r.now ≡ unwrap_or k behind → Tells (read_behind k (λ b. Found Prefix long b) (Found Prefix short behind)) (Read Prefix r)
comma_told None behind short long r e = (refl, e)
comma_told (Some b) behind short long r e = (refl, e)

pub letter_is : (language : Bool) (after : List ℕ) (k : Option (List ℕ)) → strip (codes "ang") after ≡ k → front_item language (35 ∷ 108 ∷ after) ≡ read_behind k (language_item language) (label_item (Some (108 ∷ after)) (run_item (run_cut Bare (35 ∷ 108 ∷ after))))
unfolding front_item
letter_is language after k e = rw e refl

pub angle_is : (language : Bool) (after : List ℕ) (k : Option (List ℕ)) → strip (codes "<") after ≡ k → front_item language (35 ∷ 60 ∷ after) ≡ read_behind k here_item (label_item (Some (60 ∷ after)) (run_item (run_cut Bare (35 ∷ 60 ∷ after))))
unfolding front_item
angle_is language after k e = rw e refl

-- , and ,@
pub comma_is : (language : Bool) (behind : List ℕ) (r : Bor (List ℕ)) → chars r.now ≡ unwrap_or (strip (codes "@") behind) behind → Tells (front_item language (44 ∷ behind)) (Read Prefix r)
unfolding front_item
comma_is language behind r e = comma_told (strip (codes "@") behind) behind (codes ",") (codes ",@") r e

pub hash_comma_is : (language : Bool) (behind : List ℕ) (r : Bor (List ℕ)) → chars r.now ≡ unwrap_or (strip (codes "@") behind) behind → Tells (front_item language (35 ∷ 44 ∷ behind)) (Read Prefix r)
unfolding front_item
hash_comma_is language behind r e = comma_told (strip (codes "@") behind) behind (codes "#,") (codes "#,@") r e

-- the other prefixes
pub quote_alone : (language : Bool) (c : ℕ) (behind : List ℕ) → (c ≡ 39) ⊎ (c ≡ 96) → front_item language (c ∷ behind) ≡ Found Prefix (c ∷ []) behind
unfolding front_item
quote_alone language c behind (inl e) = rw e refl
quote_alone language c behind (inr e) = rw e refl

pub quote_is : (language : Bool) (c : ℕ) (r : Bor (List ℕ)) → is_quote c ≡ true → Tells (front_item language (c ∷ chars r.now)) (Read Prefix r)
unfolding front_item
quote_is language c r h =
    elim (or_cases _ _ h) [
      | inl e ↦ rw (← eqb-true 39 c e) (refl, refl)
      | inr e ↦ rw (← eqb-true 96 c e) (refl, refl)
    ]

pub hash_quote_alone : (language : Bool) (c : ℕ) (behind : List ℕ) → (c ≡ 39) ⊎ (c ≡ 96) → front_item language (35 ∷ c ∷ behind) ≡ Found Prefix (35 ∷ c ∷ []) behind
unfolding front_item
hash_quote_alone language c behind (inl e) = rw e refl
hash_quote_alone language c behind (inr e) = rw e refl

pub hash_quote_is : (language : Bool) (c : ℕ) (r : Bor (List ℕ)) → is_hash_quote c ≡ true → Tells (front_item language (35 ∷ c ∷ chars r.now)) (Read Prefix r)
unfolding front_item
hash_quote_is language c r h =
    elim (or_cases _ _ h) [
      | inl e ↦ rw (← eqb-true 38 c e) (refl, refl)
      | inr g ↦ elim (or_cases _ _ g) [
        | inl e ↦ rw (← eqb-true 39 c e) (refl, refl)
        | inr e ↦ rw (← eqb-true 96 c e) (refl, refl)
      ]
    ]

-- what makes no word of a hash sign makes a label or a run of it
pub label_is : (language : Bool) (c : ℕ) (after : List ℕ) → c ≢ 124 → c ≢ 92 → c ≢ 33 → c ≢ 60 → c ≢ 108 → c ≢ 44 → c ≢ 59 → is_hash_quote c ≡ false → front_item language (35 ∷ c ∷ after) ≡ label_item (Some (c ∷ after)) (run_item (run_cut Bare (35 ∷ c ∷ after)))
unfolding front_item
label_is language c after bar slash bang angle letter comma semicolon quote =
    let q = or_parts (38 == c) (39 == c || 96 == c) quote in
    let q' = or_parts (39 == c) (96 == c) q.1 in
    let e0 : (124 == c) ≡ false = other 124 c bar in
    let e1 : (92 == c) ≡ false = other 92 c slash in
    let e2 : (33 == c) ≡ false = other 33 c bang in
    let e3 : (60 == c) ≡ false = other 60 c angle in
    let e4 : (108 == c) ≡ false = other 108 c letter in
    let e5 : (44 == c) ≡ false = other 44 c comma in
    let e6 : (59 == c) ≡ false = other 59 c semicolon in
    let e7 : (38 == c) ≡ false = q.0 in
    let e8 : (39 == c) ≡ false = q'.0 in
    let e9 : (96 == c) ≡ false = q'.1 in
    simp (e0, e1, e2, e3, e4, e5, e6, e7, e8, e9) refl

-- the bracket that one of three characters is
brackets : ℕ → ℕ → ℕ → ℕ → Option Bracket
brackets x y z c = if c == x then Some Round else if c == y then Some Square else if c == z then Some Curly else None

bracket_told : (x y z c : ℕ) (b : Bracket) (P : ℕ → Bracket → Type 0) → P x Round → P y Square → P z Curly → brackets x y z c ≡ Some b → P c b
unfolding brackets
bracket_told x y z c b P round square curly e =
    elim (c == x) as (λ t. (c == x) ≡ t → (cond t (Some Round) (cond (c == y) (Some Square) (cond (c == z) (Some Curly) None))) ≡ Some b → P c b) [
      | true ↦ λ is f. let same : Round ≡ b = cc in rw (eqb-true c x is, ← same) round
      | false ↦
          λ _ f.
          elim (c == y) as (λ t. (c == y) ≡ t → (cond t (Some Square) (cond (c == z) (Some Curly) None)) ≡ Some b → P c b) [
            | true ↦ λ is g. let same : Square ≡ b = cc in rw (eqb-true c y is, ← same) square
            | false ↦
                λ _ g.
                elim (c == z) as (λ t. (c == z) ≡ t → (cond t (Some Curly) None) ≡ Some b → P c b) [
                  | true ↦ λ is h. let same : Curly ≡ b = cc in rw (eqb-true c z is, ← same) curly
                  | false ↦ λ _ h. absurd (cc)
                ] refl g
          ] refl f
    ] refl e

no_bracket : (x y z c : ℕ) → brackets x y z c ≡ None → ((c == x) ≡ false) × ((c == y) ≡ false) × ((c == z) ≡ false)
unfolding brackets
no_bracket x y z c e =
    elim (c == x) as (λ t. (cond t (Some Round) (cond (c == y) (Some Square) (cond (c == z) (Some Curly) None))) ≡ None → (t ≡ false) × ((c == y) ≡ false) × ((c == z) ≡ false)) [
      | true ↦ λ f. absurd (cc)
      | false ↦
          λ f.
          elim (c == y) as (λ t. (cond t (Some Square) (cond (c == z) (Some Curly) None)) ≡ None → (false ≡ false) × (t ≡ false) × ((c == z) ≡ false)) [
            | true ↦ λ g. absurd (cc)
            | false ↦
                λ g.
                elim (c == z) as (λ t. (cond t (Some Curly) None) ≡ None → (false ≡ false) × (false ≡ false) × (t ≡ false)) [
                  | true ↦ λ h. absurd (cc)
                  | false ↦ λ h. (refl, refl, refl)
                ] g
          ] f
    ] e

-- an opening bracket by itself
pub opener_is : (language : Bool) (c : ℕ) (b : Bracket) (behind : List ℕ) → opened_by c ≡ Some b → front_item language (c ∷ behind) ≡ Found (Opener b) (c ∷ []) behind
unfolding front_item run_cut is_delimiter is_white brackets
opener_is language c b behind e =
    bracket_told 40 91 123 c b (λ d k. front_item language (d ∷ behind) ≡ Found (Opener k) (d ∷ []) behind) refl refl refl e

-- a closing bracket
pub closer_is : (language : Bool) (c : ℕ) (b : Bracket) (behind : List ℕ) → closed_by c ≡ Some b → front_item language (c ∷ behind) ≡ Found (Closer b) (c ∷ []) behind
unfolding front_item brackets
closer_is language c b behind e =
    bracket_told 41 93 125 c b (λ d k. front_item language (d ∷ behind) ≡ Found (Closer k) (d ∷ []) behind) refl refl refl e

closes_nothing : (c : ℕ) → closed_by c ≡ None → ((c == 41) ≡ false) × ((c == 93) ≡ false) × ((c == 125) ≡ false)
unfolding brackets
closes_nothing c e = no_bracket 41 93 125 c e

-- what begins no word begins a run
pub run_is : (language : Bool) (c : ℕ) (behind : List ℕ) → c ≢ 35 → c ≢ 59 → closed_by c ≡ None → c ≢ 44 → is_quote c ≡ false → front_item language (c ∷ behind) ≡ run_item (run_cut Bare (c ∷ behind))
unfolding front_item
run_is language c behind hash semicolon closer comma quote =
    let shut = closes_nothing c closer in
    let q = or_parts (39 == c) (96 == c) quote in
    let e0 : (35 == c) ≡ false = other 35 c hash in
    let e1 : (59 == c) ≡ false = other 59 c semicolon in
    let e2 : (41 == c) ≡ false = other 41 c (eqb-false c 41 shut.0) in
    let e3 : (93 == c) ≡ false = other 93 c (eqb-false c 93 shut.1) in
    let e4 : (125 == c) ≡ false = other 125 c (eqb-false c 125 shut.2) in
    let e5 : (44 == c) ≡ false = other 44 c comma in
    let e6 : (39 == c) ≡ false = q.0 in
    let e7 : (96 == c) ≡ false = q.1 in
    simp (e0, e1, e2, e3, e4, e5, e6, e7) refl
