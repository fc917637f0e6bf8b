-- How the items of a tree stand in the bytes of its source.
use Rattle.std.proofs.Common.{◌≡◌, ℕ, zero, suc, ◌+◌, ◌-◌, ◌<◌, ◌≤◌, Bool, cond, ◌||◌, min, true, List, [], ◌∷◌, ◌++◌, length, map, Option, None, Some, slice_get, slice_index_or, slice_range, refl, sym, ap, ◌∙◌, subst, inl, inr, arith}
use Rattle.std.specs.Char.{encode_utf8, len_utf8}
use Rattle.std.specs.Str.{chars, encode_utf8_all, IsUtf8, IsCharBoundary}
use Rattle.std.specs.Option.{option_map}
use Rattle.std.proofs.Math.Utf8.{scalars}
use Rattle.std.proofs.lemmas.Bool.{and_parts}
use Rattle.std.proofs.lemmas.List.{drop_at, take_at, length-append, append_assoc}
use Rattle.std.proofs.lemmas.List.Sums.{sum_by-cons}
use Rattle.std.proofs.lemmas.Option.{slice_get-map, slice_get_read}
use Rattle.std.proofs.lemmas.Str.{length-encode, encodes-append, encodes-chars, scalars-chars, chars-encodes, IsUtf8-append, IsCharBoundary-at_seam}
use Rattle.rf_base_grammar.specs.Characters.{byte_len}
use Rattle.rf_base_grammar.specs.Token.{Token, item_of, with_blanks, opens, closes, settled}
use Rattle.rf_base_grammar.specs.declared.items.Item.{Item}
use Rattle.rf_base_grammar.proofs.Texts.{Stand, Leads-stand}
use Rattle.rf_base_tree.specs.Trees.{Forest, spelling_at}
use Rattle.rf_tree.specs.Texts.{AreTokensOf}
use Rattle.rf_tree.specs.Kept.{IsTreeOf}
use Rattle.rf_tree.specs.Sorts.{token_of, token_at}
use Rattle.rf_tree.specs.declared.trees.Tree.{Tree}

-- characters take as many bytes as their lengths together
length-bytes : (cs : List ℕ) → length (encode_utf8_all cs) ≡ byte_len cs
length-bytes [] = refl
length-bytes (c ∷ cs) =
    length-append (encode_utf8 c) (encode_utf8_all cs) ∙ omega (arith, length-encode c, length-bytes cs, sum_by-cons len_utf8 c cs)

-- both parts of a list of characters are characters
scalars-parts : (xs ys : List ℕ) → scalars (xs ++ ys) ≡ true → (scalars xs ≡ true) × (scalars ys ≡ true)
scalars-parts [] ys h = (refl, h)
scalars-parts (x ∷ xs) ys h =
    let both = and_parts _ (scalars (xs ++ ys)) h in
    let rest = scalars-parts xs ys both.1 in
    (rw (both.0, rest.0) refl, rest.1)

-- these offsets stand between characters of the text, and these characters stand between the offsets
pub record StandsIn (text : List ℕ) (start end : ℕ) (spelling : List ℕ) : Type 0 where
  pub ordered : start ≤ end
  pub begins : IsCharBoundary text start
  pub ends : IsCharBoundary text end
  pub chars_are : chars (slice_range text start end) ≡ spelling

stands_in : (text : List ℕ) (t : Token) → IsUtf8 text → Stand 0 (chars text) t → StandsIn text t.start (t.start + byte_len t.spelling) t.spelling
stands_in text t u stand =
    let before = encode_utf8_all stand.before in
    let part = encode_utf8_all t.spelling in
    let after = encode_utf8_all stand.after in
    let all : scalars (stand.before ++ (t.spelling ++ stand.after)) ≡ true = subst (λ cs. scalars cs ≡ true) stand.text_is (scalars-chars text u) in
    let behind = scalars-parts stand.before (t.spelling ++ stand.after) all in
    let parts = scalars-parts t.spelling stand.after behind.1 in
    let after_utf8 : IsUtf8 after = (stand.after, (parts.1, refl)) in
    let bytes : text ≡ before ++ (part ++ after) =
    sym (encodes-chars text u) ∙ ap encode_utf8_all stand.text_is ∙ encodes-append stand.before (t.spelling ++ stand.after)
    ∙ ap (λ xs. before ++ xs) (encodes-append t.spelling stand.after) in
    let start : length before ≡ t.start = omega (arith, length-bytes stand.before, stand.start_is) in
    let part_length : length part ≡ byte_len t.spelling = length-bytes t.spelling in
    let end : length (before ++ part) ≡ t.start + byte_len t.spelling = omega (arith, length-append before part, start, part_length) in
    let part_is : slice_range text t.start (t.start + byte_len t.spelling) ≡ part =
    rw (bytes, drop_at before (part ++ after) t.start start)
    (take_at part after (t.start + byte_len t.spelling - t.start) (omega arith)) in
    record {
      ordered = omega arith;
      begins =
          subst (IsCharBoundary text) start
          (IsCharBoundary-at_seam text before (part ++ after) bytes (IsUtf8-append part after (t.spelling, (parts.0, refl)) after_utf8));
      ends =
          subst (IsCharBoundary text) end
          (IsCharBoundary-at_seam text (before ++ part) after (bytes ∙ sym (append_assoc before part after)) after_utf8);
      chars_are = ap chars part_is ∙ chars-encodes t.spelling parts.0;
    }

-- each token that was read stands in the text
abbrev StandEach : List ℕ → List Token → Type 0
StandEach text ts = (n : ℕ) (t : Token) → slice_get ts n ≡ Some t → StandsIn text t.start (t.start + byte_len t.spelling) t.spelling

-- settling keeps where tokens stand
settled_stand : (text : List ℕ) (bare : Bool) (most : ℕ) (ts : List Token) → StandEach text ts → StandEach text (settled bare most ts)
settled_stand text bare most [] h n t e = cc
settled_stand text bare most (u ∷ us) h zero t e =
    let same : with_blanks u (cond (bare || closes u.kind) 0 (min u.blanks most)) ≡ t = cc in
    subst (λ (x : Token). StandsIn text x.start (x.start + byte_len x.spelling) x.spelling) same (h zero u refl)
settled_stand text bare most (u ∷ us) h (suc n) t e = settled_stand text (opens u.kind) most us (λ k. h (suc k)) n t e

pub token_stands : (text : List ℕ) (ts : List Token) → IsUtf8 text → AreTokensOf (chars text) ts → StandEach text ts
token_stands text ts u h =
    let read : StandEach text h.0 = λ n t e. stands_in text t u (Leads-stand [] 0 (chars text) h.0 h.1.0 h.1.1 n t e) in
    elim h.2 [
      | inl same ↦ subst (StandEach text) (sym same) read
      | inr more ↦ subst (StandEach text) (sym more.1) (settled_stand text true more.0 h.0 read)
    ]

-- a token and its number
pub spelling_of : (ts : List Token) (n : ℕ) (t : Token) → slice_get ts n ≡ Some t → spelling_at ts n ≡ t.spelling
spelling_of [] n t e = cc
spelling_of (u ∷ us) zero t e = let same : u ≡ t = cc in ap (λ (x : Token). x.spelling) same
spelling_of (u ∷ us) (suc n) t e = spelling_of us n t e

-- the item of a number is that of a token
pub record IsItemOf (ts : List Token) (n : ℕ) (item : Item) : Type 0 where
  pub token : Token
  pub there : slice_get ts n ≡ Some token
  pub is : item_of token ≡ item

pub item_token : (ts : List Token) (n : ℕ) (item : Item) → slice_get (map item_of ts) n ≡ Some item → IsItemOf ts n item
item_token [] n item e = cc
item_token (t ∷ ts) zero item e = record { token = t; there = refl; is = cc }
item_token (t ∷ ts) (suc n) item e =
    let rest = item_token ts n item e in record { token = rest.token; there = rest.there; is = rest.is }

-- each item of a tree stands in its source
pub item_stands : (tree : Tree) (ts : List Token) (trees : Forest) (n : ℕ) (item : Item) → IsTreeOf tree ts trees → slice_get tree.items.items n ≡ Some item → StandsIn tree.src.now item.start item.end (spelling_at ts n)
item_stands tree ts trees n item h e =
    let at = item_token ts n item (ap (λ (xs : List Item). slice_get xs n) (sym h.items_are) ∙ e) in
    let stands = token_stands tree.src.now ts h.utf8 h.tokens n at.token at.there in
    subst (λ (i : Item). StandsIn tree.src.now i.start i.end (spelling_at ts n)) at.is
    (subst (λ (s : List ℕ). StandsIn tree.src.now at.token.start (at.token.start + byte_len at.token.spelling) s) (sym (spelling_of ts n at.token at.there)) stands)

-- the item that was read is the one of its number
pub item_read : (tree : Tree) (n : ℕ) (item : Item) → n < length tree.items.items → item ≡ slice_index_or tree.items.items n item → slice_get tree.items.items n ≡ Some item
item_read tree n item lt e = slice_get_read tree.items.items (length tree.items.items) n item refl lt e

-- a token is the item of its number with its characters
pub record IsKept (tree : Tree) (n : ℕ) (t : Token) : Type 0 where
  pub there : slice_get tree.items.items n ≡ Some (item_of t)
  pub is : token_of tree (item_of t) ≡ t

pub token_kept : (tree : Tree) (ts : List Token) (trees : Forest) (n : ℕ) (t : Token) → IsTreeOf tree ts trees → slice_get ts n ≡ Some t → IsKept tree n t
token_kept tree ts trees n t h e =
    let there : slice_get tree.items.items n ≡ Some (item_of t) =
    ap (λ (xs : List Item). slice_get xs n) h.items_are ∙ slice_get-map item_of ts n ∙ ap (option_map item_of) e in
    record {
      there = there;
      is =
          ap (λ (s : List ℕ). record { kind = t.kind; start = t.start; spelling = s; blanks = t.blanks; own_line = t.own_line })
          ((item_stands tree ts trees n (item_of t) h there).chars_are ∙ spelling_of ts n t e);
    }

-- the tokens that are told are those of the source
pub token_at_is : (tree : Tree) (ts : List Token) (trees : Forest) (n : ℕ) → IsTreeOf tree ts trees → token_at tree n ≡ slice_get ts n
token_at_is tree ts trees n h = by_token (slice_get ts n) refl
  where
    by_token : (o : Option Token) → slice_get ts n ≡ o → token_at tree n ≡ o
    by_token None e =
        ap (λ (xs : List Item). option_map (token_of tree) (slice_get xs n)) h.items_are
        ∙ ap (option_map (token_of tree)) (slice_get-map item_of ts n ∙ ap (option_map item_of) e)
    by_token (Some t) e =
        let k = token_kept tree ts trees n t h e in
        ap (option_map (token_of tree)) k.there ∙ ap (λ (x : Token). Some x) k.is
