-- A text that is woven of a source's items holds the source's characters, spaces and line ends, so its bytes are UTF-8.
use Rattle.std.proofs.Common.{◌≡◌, ◌+◌, ℕ, zero, suc, Bool, true, false, ◌&&◌, inl, inr, List, [], ◌∷◌, ◌++◌, replicate, refl, sym, subst}
use Rattle.std.specs.Prelude.{⊤}
use Rattle.std.specs.Str.{chars, IsUtf8, all_scalars}
use Rattle.std.proofs.lemmas.Str.{scalars-chars}
use Rattle.std.proofs.lemmas.Bool.{and_parts, and_from}
use Rattle.rf_base_grammar.specs.declared.kinds.Kind.{Kind}
use Rattle.rf_base_grammar.specs.Token.{Token, normal, opens, settled}
use Rattle.rf_base_grammar.specs.Itemised.{Leads, Itemised}
use Rattle.rf_base_grammar.specs.Woven.{MayPart, Woven, WovenBehind}

-- each character is a Unicode scalar value
abbrev AreScalars : List ℕ → Type 0
AreScalars text = all_scalars text ≡ true

joined_scalars : (a b : List ℕ) → AreScalars a → AreScalars b → AreScalars (a ++ b)
joined_scalars [] b h k = k
joined_scalars (c ∷ a) b h k = let parts = and_parts _ (all_scalars a) h in and_from _ (all_scalars (a ++ b)) parts.0 (joined_scalars a b parts.1 k)

parted_scalars : (a b : List ℕ) → AreScalars (a ++ b) → AreScalars a × AreScalars b
parted_scalars [] b h = (refl, h)
parted_scalars (c ∷ a) b h =
    let parts = and_parts _ (all_scalars (a ++ b)) h in
    let rest = parted_scalars a b parts.1 in
    (and_from _ (all_scalars a) parts.0 rest.0, rest.1)

-- so is each item's spelling
abbrev EachScalars : List Token → Type 0
EachScalars [] = ⊤
EachScalars (t ∷ ts) = AreScalars t.spelling × EachScalars ts

items_scalars : (before : List Kind) (offset : ℕ) (text : List ℕ) (ts : List Token) (rest : List ℕ) → Leads before offset text ts rest → AreScalars text → EachScalars ts
items_scalars before offset text [] rest h s = tt
items_scalars before offset text (t ∷ ts) rest h s =
    let begins = h.1 in
    let place = (parted_scalars begins.gap begins.place (subst AreScalars begins.text_is s)).1 in
    let parts = parted_scalars t.spelling h.0 (subst AreScalars begins.item.text_is place) in
    (parts.0, items_scalars (t.kind ∷ before) _ h.0 ts rest h.2 parts.1)

settled_scalars : (bare : Bool) (max : ℕ) (ts : List Token) → EachScalars ts → EachScalars (settled bare max ts)
settled_scalars bare max [] s = tt
settled_scalars bare max (t ∷ ts) s = (s.0, settled_scalars (opens t.kind) max ts s.1)

same_scalars : (n c : ℕ) → AreScalars (c ∷ []) → AreScalars (replicate n c)
same_scalars zero c s = refl
same_scalars (suc n) c s = and_from _ (all_scalars (replicate n c)) (and_parts _ true s).0 (same_scalars n c s)

gap_scalars : (a b : Token) (gap : List ℕ) → MayPart a b gap → AreScalars gap
gap_scalars a b gap (inl h) = subst AreScalars (sym h.1) refl
gap_scalars a b gap (inr (h, inl lines)) =
    subst AreScalars (sym lines.1) (joined_scalars (replicate (b.blanks + 1) 10) (replicate lines.0 32) (same_scalars (b.blanks + 1) 10 refl) (same_scalars lines.0 32 refl))
gap_scalars a b gap (inr (h, inr (share, inl nothing))) = subst AreScalars (sym nothing.0) refl
gap_scalars a b gap (inr (h, inr (share, inr space))) = subst AreScalars (sym space) refl

behind_scalars : (a : Token) (ts : List Token) (text : List ℕ) → EachScalars ts → WovenBehind a ts text → AreScalars text
unfolding WovenBehind
behind_scalars a [] text s h = subst AreScalars (sym h) refl
behind_scalars a (b ∷ ts) text s h =
    subst AreScalars (sym h.2)
    (joined_scalars h.0 (b.spelling ++ h.1) (gap_scalars a b h.0 h.3) (joined_scalars b.spelling h.1 s.0 (behind_scalars b ts h.1 s.1 h.4)))

woven_scalars : (ts : List Token) (text : List ℕ) → EachScalars ts → Woven ts text → AreScalars text
woven_scalars [] text s h = subst AreScalars (sym h) refl
woven_scalars (t ∷ ts) text s h =
    subst AreScalars (sym h.1) (joined_scalars t.spelling h.0 s.0 (behind_scalars t ts h.0 s.1 h.2))

-- so is the text that is woven of a source's items
pub woven_is_text : (source text : List ℕ) (ts : List Token) (max : ℕ) → IsUtf8 source → Itemised (chars source) ts → Woven (normal max ts) text → all_scalars text ≡ true
woven_is_text source text ts max utf8 h woven =
    woven_scalars (normal max ts) text (settled_scalars true max ts (items_scalars [] 0 (chars source) ts h.0 h.1 (scalars-chars source utf8))) woven
