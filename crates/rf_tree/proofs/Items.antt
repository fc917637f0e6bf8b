-- The items of a text, as the program keeps them.
use Rattle.std.proofs.Common.{◌≡◌, ℕ, zero, suc, ◌+◌, ◌-◌, ◌<◌, ◌≤◌, inl, inr, nat_lt, Bool, true, List, [], ◌∷◌, ◌++◌, length, map, Some, slice_get, get_or, refl, sym, ap, ◌∙◌, subst, arith}
use Rattle.std.specs.Prelude.{codes}
use Rattle.std.specs.List.{AllByRecursion}
use Rattle.std.specs.Char.{len_utf8}
use Rattle.std.proofs.lemmas.Bool.{lt-ltb}
use Rattle.std.proofs.lemmas.List.Sums.{sum_by-append}
use Rattle.std.proofs.lemmas.Option.{slice_get-get_or}
use Rattle.std.proofs.lemmas.Str.{len_utf8_bounds}
use Rattle.rf_base_grammar.specs.Characters.{byte_len, IsOneOf}
use Rattle.rf_base_grammar.specs.Reader.{begins}
use Rattle.rf_base_grammar.specs.Runs.{hash}
use Rattle.rf_base_grammar.specs.Token.{Token, item_of, opens, settled}
use Rattle.rf_base_grammar.specs.Itemised.{Leads}
use Rattle.rf_base_grammar.specs.Spelled.{opening, IsOpenerHead, Spelled}
use Rattle.rf_base_grammar.specs.declared.items.Item.{Item}
use Rattle.rf_base_grammar.specs.declared.kinds.Bracket.{Bracket}
use Rattle.rf_base_grammar.specs.declared.kinds.Bracket.TheVariants.{Round, Square, Curly}
use Rattle.rf_base_grammar.specs.declared.kinds.Kind.{Kind}
use Rattle.rf_base_grammar.specs.declared.kinds.Kind.TheVariants.{Opener}
use Rattle.rf_tree.specs.Texts.{AreTokensOf, AreItemsOf}
use Rattle.rf_tree.specs.Parsing.{IsItem}

-- each token is spelled as its kind is
abbrev pub AreSpelled : List Token → Type 0
AreSpelled ts = AllByRecursion (λ t. Spelled t.kind t.spelling) ts

leads_spelled : (before : List Kind) (offset : ℕ) (text rest : List ℕ) (ts : List Token) → Leads before offset text ts rest → AreSpelled ts
leads_spelled before offset text rest [] h = tt
leads_spelled before offset text rest (t ∷ ts) h = (h.1.item.spelled, leads_spelled (t.kind ∷ before) (t.start + byte_len t.spelling) h.0 rest ts h.2)

settled_spelled : (bare : Bool) (most : ℕ) (ts : List Token) → AreSpelled ts → AreSpelled (settled bare most ts)
settled_spelled bare most [] h = tt
settled_spelled bare most (t ∷ ts) h = (h.0, settled_spelled (opens t.kind) most ts h.1)

pub are_spelled : (text : List ℕ) (ts : List Token) → AreTokensOf text ts → AreSpelled ts
are_spelled text ts h =
    let read = leads_spelled [] 0 text h.1.0 h.0 h.1.1 in
    elim h.2 [
      | inl same ↦ subst AreSpelled (sym same) read
      | inr more ↦ subst AreSpelled (sym more.1) (settled_spelled true more.0 h.0 read)
    ]

-- an opener of more than one byte begins with a hash sign
hashed_word : (words : List (List ℕ)) (head : List ℕ) → AllByRecursion (λ w. (rest : List ℕ) × (w ≡ hash ∷ rest)) words → IsOneOf words head → (rest : List ℕ) × (head ≡ hash ∷ rest)
hashed_word [] head all h = absurd h
hashed_word (w ∷ words) head all (inl e) = (all.0.0, e ∙ all.0.1)
hashed_word (w ∷ words) head all (inr h) = hashed_word words head all.1 h

plain_opener : (b : Bracket) → begins (codes "#") (opening b ∷ []) ≡ nat_lt 1 (byte_len (opening b ∷ []))
plain_opener Round = refl
plain_opener Square = refl
plain_opener Curly = refl

hashed_opener : (b : Bracket) (rest : List ℕ) → begins (codes "#") (hash ∷ (rest ++ opening b ∷ [])) ≡ nat_lt 1 (byte_len (hash ∷ (rest ++ opening b ∷ [])))
hashed_opener b rest =
    let all = sum_by-append len_utf8 rest (opening b ∷ []) in
    let one = (len_utf8_bounds (opening b)).0 in
    let whole : byte_len (hash ∷ (rest ++ opening b ∷ [])) ≡ 1 + byte_len (rest ++ opening b ∷ []) =
    sum_by-append len_utf8 (hash ∷ []) (rest ++ opening b ∷ []) in
    let end : byte_len (opening b ∷ []) ≡ 0 + len_utf8 (opening b) = refl in
    let long : 1 < byte_len (hash ∷ (rest ++ opening b ∷ [])) = omega (arith, all, one, whole, end) in
    sym (lt-ltb 1 (byte_len (hash ∷ (rest ++ opening b ∷ []))) long)

abbrev IsToldByLength : List ℕ → Type 0
IsToldByLength text = begins (codes "#") text ≡ nat_lt 1 (byte_len text)

hash_head : (b : Bracket) (head text : List ℕ) → text ≡ head ++ opening b ∷ [] → (rest : List ℕ) × (head ≡ hash ∷ rest) → IsToldByLength text
hash_head b head text e h =
    subst IsToldByLength (sym (e ∙ ap (λ (xs : List ℕ). xs ++ opening b ∷ []) h.1)) (hashed_opener b h.0)

-- the heads of more than no character
abbrev hashed_heads : List (List ℕ)
hashed_heads =
    codes "#" ∷ codes "#s" ∷ codes "#hash" ∷ codes "#hasheq" ∷ codes "#hasheqv" ∷ codes "#hashalw" ∷ codes "#fl" ∷ codes "#fx" ∷ []

all_hashed : AllByRecursion (λ w. (rest : List ℕ) × (w ≡ hash ∷ rest)) hashed_heads
all_hashed =
    ((codes "", refl), ((codes "s", refl), ((codes "hash", refl), ((codes "hasheq", refl), ((codes "hasheqv", refl), ((codes "hashalw", refl), ((codes "fl", refl), ((codes "fx", refl), tt))))))))

opener_told : (b : Bracket) (text : List ℕ) → Spelled (Opener b) text → IsToldByLength text
opener_told b text h = by_head h.2
  where
    by_head : IsOpenerHead h.0 → IsToldByLength text
    by_head (inl (inl e)) = subst IsToldByLength (sym (h.1 ∙ ap (λ (xs : List ℕ). xs ++ opening b ∷ []) e)) (plain_opener b)
    by_head (inl (inr words)) =
        hash_head b h.0 text h.1 (hashed_word hashed_heads h.0 all_hashed words)
    by_head (inr number) = hash_head b h.0 text h.1 (number.0, number.1)

-- the item of a number, as the program keeps it
IsItem-at : (ts : List Token) (n : ℕ) (item : Item) → AreSpelled ts → slice_get (map item_of ts) n ≡ Some item → IsItem ts n item
IsItem-at [] n item s e = cc
IsItem-at (t ∷ ts) zero item s e =
    let same : item_of t ≡ item = cc in
    subst (λ (i : Item). IsItem (t ∷ ts) zero i) same
    (record {
      kind_is = refl;
      start_is = refl;
      hash_is =
          λ b k.
          let len : t.start + byte_len t.spelling - t.start ≡ byte_len t.spelling = omega arith in
          opener_told b t.spelling (subst (λ (x : Kind). Spelled x t.spelling) k s.0) ∙ ap (λ (x : ℕ). nat_lt 1 x) (sym len);
    })
IsItem-at (t ∷ ts) (suc n) item s e =
    let h = IsItem-at ts n item s.1 e in
    record { kind_is = h.kind_is; start_is = h.start_is; hash_is = h.hash_is }

pub IsItem-of : (text : List ℕ) (ts : List Token) (items : List Item) (n : ℕ) (d : Item) → AreTokensOf text ts → items ≡ map item_of ts → n < length items → IsItem ts n (get_or items n d)
IsItem-of text ts items n d h e lt =
    IsItem-at ts n (get_or items n d) (are_spelled text ts h) (ap (λ (xs : List Item). slice_get xs n) (sym e) ∙ slice_get-get_or items n d lt)

-- an item ends where it begins or behind that
ends_behind : (ts : List Token) (n : ℕ) (item : Item) → slice_get (map item_of ts) n ≡ Some item → item.start ≤ item.end
ends_behind [] n item e = cc
ends_behind (t ∷ ts) zero item e =
    let same : item_of t ≡ item = cc in
    subst (λ (i : Item). i.start ≤ i.end) same (omega arith)
ends_behind (t ∷ ts) (suc n) item e = ends_behind ts n item e

pub item_ends : (text : List ℕ) (items : List Item) (n : ℕ) (d : Item) → AreItemsOf text items → n < length items → (get_or items n d).start ≤ (get_or items n d).end
item_ends text items n d h lt =
    ends_behind h.0 n (get_or items n d) (ap (λ (xs : List Item). slice_get xs n) (sym h.2) ∙ slice_get-get_or items n d lt)
