-- Parts of a file follow one another item by item, and no comment trails behind a line comment.
use Rattle.std.proofs.Common.{◌≡◌, ℕ, zero, suc, ◌+◌, ◌<◌, ◌≤◌, Bool, true, List, [], ◌∷◌, ◌++◌, length, slice_get, Some, refl, sym, ◌∙◌, ap, subst, inl, inr, arith}
use Rattle.std.specs.List.{range_with_len}
use Rattle.std.specs.Prelude.{if◌then◌else◌, ◌||◌, min}
use Rattle.rf_base_grammar.specs.Comments.{EndsLine}
use Rattle.rf_base_grammar.specs.Itemised.{Itemised}
use Rattle.rf_base_grammar.specs.Spelled.{MayFollow}
use Rattle.rf_base_grammar.specs.Token.{Token, with_blanks, opens, closes, settled, normal}
use Rattle.rf_base_grammar.specs.Woven.{trails}
use Rattle.rf_base_grammar.specs.declared.kinds.Kind.{Kind}
use Rattle.rf_base_grammar.specs.declared.kinds.Kind.TheVariants.{Line}
use Rattle.rf_base_grammar.proofs.Neighbours.{AreTold, Told-source}
use Rattle.rf_base_file.specs.Rows.{Part}
use Rattle.rf_base_file.proofs.Parts.{last_of, PartSigned, Sections, PartsSigned}

-- numbers in order, of which the first ones are a part's
numbers_behind : (f : ℕ) (later rest : List ℕ) (n m : ℕ) → (f ∷ later) ++ rest ≡ range_with_len n m →
    (f ≡ n) × (k : ℕ) × (rest ≡ range_with_len (suc (last_of f later)) k) × (suc (last_of f later) + k ≡ n + m)
    × (n ≤ last_of f later)
unfolding last_of
numbers_behind f [] rest n (suc m) e =
    let first : f ≡ n = cc in
    let behind : rest ≡ range_with_len (n + 1) m = cc in
    let next : n + 1 ≡ suc f = omega arith in
    (first, m, behind ∙ ap (λ k. range_with_len k m) next, omega arith, omega arith)
numbers_behind f (g ∷ later) rest n (suc m) e =
    let first : f ≡ n = cc in
    let behind : (g ∷ later) ++ rest ≡ range_with_len (n + 1) m = cc in
    let found = numbers_behind g later rest (n + 1) m behind in
    let sum : suc (last_of g later) + found.1 ≡ n + 1 + m = found.3 in
    let less : n + 1 ≤ last_of g later = found.4 in
    (first, found.1, found.2, omega arith, omega arith)
numbers_behind f _ rest n _ e = cc

-- of two parts in a row the second begins with the item behind the first one's last, and both are there
pub parts_follow : (ts : List Token) (p q : Part) (parts : List Part) (items : List ℕ) (n m : ℕ) →
    PartsSigned ts (p ∷ q ∷ parts) items →
    items ≡ range_with_len n m → n + m ≡ length ts →
    (k : ℕ) × (rest : List ℕ) × PartsSigned ts (q ∷ parts) rest × (rest ≡ range_with_len (suc p.last) k)
    × (suc p.last + k ≡ length ts)
    × (q.first ≡ suc p.last) × (suc p.last < length ts)
unfolding Sections
parts_follow ts p q parts items n m h e len =
    let front = h.0 in
    let rest = h.1 in
    let first : PartSigned ts p front = h.3 in
    let split : (p.first ∷ first.later) ++ rest ≡ range_with_len n m =
    ap (λ xs. xs ++ rest) (sym first.items_are) ∙ sym h.2 ∙ e in
    let found = numbers_behind p.first first.later rest n m split in
    let behind : rest ≡ range_with_len (suc p.last) found.1 =
    found.2 ∙ ap (λ k. range_with_len (suc k) found.1) first.last_is in
    let sum : suc p.last + found.1 ≡ length ts = ap (λ k. suc k + found.1) (sym first.last_is) ∙ found.3 ∙ len in
    let second : PartSigned ts q h.4.0 = h.4.3 in
    let again : (q.first ∷ second.later) ++ h.4.1 ≡ range_with_len (suc p.last) found.1 =
    ap (λ xs. xs ++ h.4.1) (sym second.items_are) ∙ sym h.4.2 ∙ behind in
    let next = numbers_behind q.first second.later h.4.1 (suc p.last) found.1 again in
    let sum_next : suc (last_of q.first second.later) + next.1 ≡ suc p.last + found.1 = next.3 in
    let at_least : suc p.last ≤ last_of q.first second.later = next.4 in
    (found.1, rest, h.4, behind, sum, next.0, omega arith)

-- an item of a number below the length is there
pub item_there : (ts : List Token) (n : ℕ) → n < length ts → (t : Token) × (slice_get ts n ≡ Some t)
item_there [] n p = absurd (omega arith)
item_there (t ∷ ts) zero p = (t, refl)
item_there (t ∷ ts) (suc n) p = item_there ts n (omega arith)

-- behind a line comment no comment trails
unfoldable pub NoneTrailsBehindLine : List Token → Type 0
NoneTrailsBehindLine ts =
    (n : ℕ) (a b : Token) → slice_get ts n ≡ Some a → slice_get ts (suc n) ≡ Some b → a.kind ≡ Line → trails b ≡ true →
    ⊥

no_space_ends_line : (rest : List ℕ) → EndsLine (32 ∷ rest) → ⊥
no_space_ends_line rest (inl e) = cc
no_space_ends_line rest (inr (inl begins)) =
    let both : 32 ∷ rest ≡ 10 ∷ begins.0 = begins.1 in let same : ◌≡◌ {A = ℕ} 32 10 = cc in omega arith
no_space_ends_line rest (inr (inr begins)) =
    let both : 32 ∷ rest ≡ 13 ∷ 10 ∷ begins.0 = begins.1 in let same : ◌≡◌ {A = ℕ} 32 13 = cc in omega arith

none_trails_told : (bare : Bool) (max : ℕ) (kinds : List Kind) (a told : Token) (ts : List Token) → a.kind ≡ told.kind →
    AreTold kinds told ts →
    NoneTrailsBehindLine (a ∷ settled bare max ts)
unfolding NoneTrailsBehindLine
none_trails_told bare max kinds a told [] same h zero x y f g k t = cc
none_trails_told bare max kinds a told [] same h (suc n) x y f g k t = cc
none_trails_told bare max kinds a told (b ∷ ts) same h zero x y f g k t =
    let first : a ≡ x = cc in
    let kept : Token = with_blanks b (if bare || closes b.kind then 0 else min b.blanks max) in
    let second : kept ≡ y = cc in
    let line : told.kind ≡ Line = sym same ∙ ap (λ (z : Token). z.kind) first ∙ k in
    let trailing : trails b ≡ true = ap (λ (z : Token). trails z) second ∙ t in
    no_space_ends_line (b.spelling
    ++ []) (subst (λ (z : Kind). MayFollow z told.spelling (32 ∷ (b.spelling ++ []))) line (h.1 trailing []))
none_trails_told bare max kinds a told (b ∷ ts) same h (suc n) x y f g k t =
    none_trails_told (opens b.kind) max (b.kind ∷ kinds)
    (with_blanks b (if bare || closes b.kind then 0 else min b.blanks max)) b ts refl h.2 n x y f g k t

pub none_trails_behind_line : (source : List ℕ) (ts : List Token) (max : ℕ) → Itemised source ts →
    NoneTrailsBehindLine (normal max ts)
unfolding NoneTrailsBehindLine
none_trails_behind_line source [] max h n a b f g k t = cc
none_trails_behind_line source (u ∷ ts) max h n a b f g k t =
    none_trails_told (opens u.kind) max (u.kind ∷ [])
    (with_blanks u (if true || closes u.kind then 0 else min u.blanks max)) u ts refl
    (Told-source source u ts h.0 h.1).1 n a b f g k t
