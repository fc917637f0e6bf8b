-- Trees of items, and trees of items behind them, are the trees of all.
use Rattle.std.proofs.Common.{◌≡◌, ℕ, zero, suc, ◌+◌, ◌≤◌, Bool, Option, None, Some, List, [], ◌∷◌, ◌++◌, length, length-append, refl, sym, ap, ◌∙◌, subst, arith, zero-add}
use Rattle.std.specs.Prelude.{map, slice_get, codes}
use Rattle.std.specs.Option.{option_map}
use Rattle.std.specs.List.{range_with_len}
use Rattle.std.proofs.lemmas.List.{append_assoc, map-append, length-map}
use Rattle.std.proofs.lemmas.Option.{slice_get-map}
use Rattle.rf_base_grammar.specs.Characters.{BeginsWith}
use Rattle.rf_base_grammar.specs.Token.{Token}
use Rattle.rf_base_grammar.specs.declared.kinds.Kind.{Kind}
use Rattle.rf_base_document.proofs.Graph.{slice_get-append}
use Rattle.rf_base_tree.specs.Trees.{Tree, Leaf, Point, Comment, Prefixed, DatumComment, Listed, Forest, Empty, Then, kind_at, spelling_at, tree_items, forest_items, tree_depth, forest_depth}
use Rattle.rf_base_tree.specs.Slots.{Slot}
use Rattle.rf_base_tree.specs.Dots.{Mark, OfDatum, marked, marks_of, AllData, AreLawful}
use Rattle.rf_base_tree.specs.Formed.{KindPasses, IsDatum, AreComments, IsFormed, AreFormed, depth_limit, Treed}
use Rattle.rf_base_tree.proofs.Cuts.{map_slot}
use Rattle.rf_base_tree.proofs.Forests.{marked_append}
use Rattle.rf_base_file.proofs.Each.{each-append}
use Rattle.rf_tree.specs.Next.{followed_by}
use Rattle.rf_tree.proofs.ItemTexts.{spelling_of}
use Rattle.rf_tree.proofs.SlotEnds.{items_behind}
use Rattle.rf_joins.specs.Moved.{moved, all_moved, further, joined}

-- the tokens of ts stand in us, so many items further on, but for their offsets and the blank lines before them
abbrev pub Carried : ℕ → List Token → List Token → Type 0
Carried n ts us =
    (i : ℕ) (t : Token) → slice_get ts i ≡ Some t →
    (u : Token) × (slice_get us (n + i) ≡ Some u) × (u.kind ≡ t.kind) × (u.spelling ≡ t.spelling)
    × (u.own_line ≡ t.own_line)

-- the token of a number, where its kind is known
pub token_at : (ts : List Token) (i : ℕ) (k : Kind) → kind_at ts i ≡ Some k →
    (t : Token) × (slice_get ts i ≡ Some t) × (t.kind ≡ k)
token_at ts i k h = by_option (slice_get ts i) h
  where
    by_option : (o : Option Token) → option_map (λ t. t.kind) o ≡ Some k → (t : Token) × (o ≡ Some t) × (t.kind ≡ k)
    by_option None e = cc
    by_option (Some t) e = (t, refl, cc)

-- kinds, and what is spelled, are carried
pub kind_carried : (n : ℕ) (ts us : List Token) (i : ℕ) (k : Kind) → Carried n ts us → kind_at ts i ≡ Some k →
    kind_at us (n + i) ≡ Some k
kind_carried n ts us i k c h =
    let t = token_at ts i k h in
    let u = c i t.0 t.1 in
    ap (λ o. option_map (λ (w : Token). w.kind) o) u.1 ∙ ap (λ x. Some x) (u.2 ∙ t.2)

passes_carried : (test : Kind → Bool) (n : ℕ) (ts us : List Token) (i : ℕ) → Carried n ts us → KindPasses test ts i →
    KindPasses test us (n + i)
passes_carried test n ts us i c h = (h.0, kind_carried n ts us i h.0 c h.1, h.2)

pub spelling_carried : (n : ℕ) (ts us : List Token) (i : ℕ) (k : Kind) → Carried n ts us → kind_at ts i ≡ Some k →
    spelling_at us (n + i) ≡ spelling_at ts i
spelling_carried n ts us i k c h =
    let t = token_at ts i k h in
    let u = c i t.0 t.1 in
    spelling_of us (n + i) u.0 u.1 ∙ u.3 ∙ sym (spelling_of ts i t.0 t.1)

-- what is moved is what it was: a datum, a dot or a comment
marked_moved : (n : ℕ) (t : Tree) (marks : List Mark) → marked (moved n t) marks ≡ marked t marks
unfolding moved
marked_moved n (Leaf item) marks = refl
marked_moved n _ marks = refl

pub marks_moved : (n : ℕ) (f : Forest) → marks_of (all_moved n f) ≡ marks_of f
unfolding moved marks_of
marks_moved n Empty = refl
marks_moved n (Then t f) =
    marked_moved n t (marks_of (all_moved n f)) ∙ ap (λ marks. marked t marks) (marks_moved n f)

pub marks_behind : (f g : Forest) → marks_of (followed_by f g) ≡ marks_of f ++ marks_of g
unfolding marks_of
marks_behind Empty g = refl
marks_behind (Then t f) g =
    ap (λ marks. marked t marks) (marks_behind f g)
    ∙ marked_append t (marks_of f ++ marks_of g)
    ∙ sym (append_assoc (marked t []) (marks_of f) (marks_of g))
    ∙ ap (λ marks. marks ++ marks_of g) (sym (marked_append t (marks_of f)))

-- comments and a datum behind an item of this kind are formed
abbrev IsBegun : List Token → ℕ → Kind → Forest → Tree → Type 0
IsBegun ts item k lead inner =
    (kind_at ts item ≡ Some k) × AreFormed ts lead × AreComments lead × IsFormed ts inner × IsDatum inner

begun_carried : (n : ℕ) (ts us : List Token) (item : ℕ) (lead : Forest) (inner : Tree) (k : Kind) → Carried n ts us →
    IsBegun ts item k lead inner → AreFormed us (all_moved n lead) → IsFormed us (moved n inner) →
    IsBegun us (n + item) k (all_moved n lead) (moved n inner)
begun_carried n ts us item lead inner k c h front behind =
    (kind_carried n ts us item k c h.0, front, marks_moved n lead ∙ h.2, behind, marked_moved n inner [] ∙ h.4)

-- trees are formed where their items are carried to
mutual
  unfolding moved IsFormed AreFormed

  formed_carried : (n : ℕ) (ts us : List Token) (t : Tree) → Carried n ts us → IsFormed ts t → IsFormed us (moved n t)
  formed_carried n ts us (Leaf item) c h = passes_carried _ n ts us item c h
  formed_carried n ts us (Point item) c h = kind_carried n ts us item _ c h
  formed_carried n ts us (Comment item) c h = passes_carried _ n ts us item c h
  formed_carried n ts us (Prefixed item lead inner) c h =
      begun_carried n ts us item lead inner _ c h (forest_carried n ts us lead c h.1)
      (formed_carried n ts us inner c h.3)
  formed_carried n ts us (DatumComment item lead inner) c h =
      begun_carried n ts us item lead inner _ c h (forest_carried n ts us lead c h.1)
      (formed_carried n ts us inner c h.3)
  formed_carried n ts us (Listed opener entries closer) c h = (
    h.0,
    kind_carried n ts us opener _ c h.1,
    forest_carried n ts us entries c h.2,
    kind_carried n ts us closer _ c h.3,
    subst AreLawful (sym (marks_moved n entries)) h.4,
    λ b. subst AllData (sym (marks_moved n entries))
        (h.5 (subst (λ (s : List ℕ). BeginsWith (codes "#") s) (spelling_carried n ts us opener _ c h.1) b)),
  )

  pub forest_carried : (n : ℕ) (ts us : List Token) (f : Forest) → Carried n ts us → AreFormed ts f →
      AreFormed us (all_moved n f)
  forest_carried n ts us Empty c h = tt
  forest_carried n ts us (Then t f) c h = (formed_carried n ts us t c h.0, forest_carried n ts us f c h.1)

pub formed_behind : (ts : List Token) (f g : Forest) → AreFormed ts f → AreFormed ts g → AreFormed ts (followed_by f g)
unfolding AreFormed
formed_behind ts Empty g h k = k
formed_behind ts (Then t f) g h k = (h.0, formed_behind ts f g h.1 k)

-- what is moved by nothing
mutual
  unfolding moved

  pub moved_none : (t : Tree) → moved 0 t ≡ t
  moved_none (Leaf item) = ap (λ i. Leaf i) (zero-add item)
  moved_none (Point item) = ap (λ i. Point i) (zero-add item)
  moved_none (Comment item) = ap (λ i. Comment i) (zero-add item)
  moved_none (Prefixed item lead inner) = rw (zero-add item, all_moved_none lead, moved_none inner) refl
  moved_none (DatumComment item lead inner) = rw (zero-add item, all_moved_none lead, moved_none inner) refl
  moved_none (Listed opener entries closer) = rw (zero-add opener, all_moved_none entries, zero-add closer) refl

  pub all_moved_none : (f : Forest) → all_moved 0 f ≡ f
  all_moved_none Empty = refl
  all_moved_none (Then t f) = rw (moved_none t, all_moved_none f) refl

-- the slot of the trees of a slot, moved
abbrev pub moved_slot : ℕ → Slot Tree → Slot Tree
moved_slot n s = map_slot (moved n) s

-- the items of what is moved
mutual
  unfolding moved tree_items

  items_moved : (n : ℕ) (t : Tree) → tree_items (moved n t) ≡ map (λ i. n + i) (tree_items t)
  items_moved n (Leaf item) = refl
  items_moved n (Point item) = refl
  items_moved n (Comment item) = refl
  items_moved n (Prefixed item lead inner) =
      rw (all_items_moved n lead, items_moved n inner)
      (ap (λ is. (n + item) ∷ is) (sym (map-append (λ i. n + i) (forest_items lead) (tree_items inner))))
  items_moved n (DatumComment item lead inner) =
      rw (all_items_moved n lead, items_moved n inner)
      (ap (λ is. (n + item) ∷ is) (sym (map-append (λ i. n + i) (forest_items lead) (tree_items inner))))
  items_moved n (Listed opener entries closer) =
      ap (λ is. (n + opener) ∷ (is ++ (n + closer) ∷ [])) (all_items_moved n entries)
      ∙ ap (λ is. (n + opener) ∷ is) (sym (map-append (λ i. n + i) (forest_items entries) (closer ∷ [])))

  pub all_items_moved : (n : ℕ) (f : Forest) → forest_items (all_moved n f) ≡ map (λ i. n + i) (forest_items f)
  all_items_moved n Empty = refl
  all_items_moved n (Then t f) =
      rw (items_moved n t, all_items_moved n f) (sym (map-append (λ i. n + i) (tree_items t) (forest_items f)))

-- numbers in two parts, of which the second is moved
range_moved : (n k m : ℕ) → range_with_len (n + k) m ≡ map (λ i. n + i) (range_with_len k m)
range_moved n k zero = refl
range_moved n k (suc m) =
    let shift : n + k + 1 ≡ n + (k + 1) = omega arith in
    ap (λ is. (n + k) ∷ is) (ap (λ a. range_with_len a m) shift ∙ range_moved n (k + 1) m)

range_split : (a n m : ℕ) → range_with_len a (n + m) ≡ range_with_len a n ++ range_with_len (n + a) m
range_split a zero m = rw (zero-add m, zero-add a) refl
range_split a (suc n) m =
    let shift : n + (a + 1) ≡ suc n + a = omega arith in
    let more : suc n + m ≡ suc (n + m) = omega arith in
    rw more (ap (λ is. a ∷ is)
    (range_split (a + 1) n m ∙ ap (λ k. range_with_len (a + 1) n ++ range_with_len k m) shift))

pub range_joined : (n m : ℕ) → range_with_len 0 (n + m) ≡ range_with_len 0 n ++ map (λ i. n + i) (range_with_len 0 m)
range_joined n m = range_split 0 n m ∙ ap (λ is. range_with_len 0 n ++ is) (range_moved n 0 m)

-- depths of what is moved, and of what stands one behind the other
mutual
  unfolding moved tree_depth

  depth_moved : (n : ℕ) (t : Tree) → tree_depth (moved n t) ≡ tree_depth t
  depth_moved n (Leaf item) = refl
  depth_moved n (Point item) = refl
  depth_moved n (Comment item) = refl
  depth_moved n (Prefixed item lead inner) = rw (all_depth_moved n lead, depth_moved n inner) refl
  depth_moved n (DatumComment item lead inner) = rw (all_depth_moved n lead, depth_moved n inner) refl
  depth_moved n (Listed opener entries closer) = ap (λ d. d + 1) (all_depth_moved n entries)

  pub all_depth_moved : (n : ℕ) (f : Forest) → forest_depth (all_moved n f) ≡ forest_depth f
  all_depth_moved n Empty = refl
  all_depth_moved n (Then t f) = rw (depth_moved n t, all_depth_moved n f) refl

pub depth_behind : (f g : Forest) (n : ℕ) → forest_depth f ≤ n → forest_depth g ≤ n → forest_depth (followed_by f g) ≤ n
unfolding forest_depth
depth_behind Empty g n h k = k
depth_behind (Then t f) g n h k =
    let rest : forest_depth (followed_by f g) ≤ n = depth_behind f g n (omega (arith, h)) k in
    omega (arith, h, rest)

-- the items of both texts are carried to where they stand in both together
pub first_carried : (n : ℕ) (us vs : List Token) → Carried 0 us (joined n us vs)
first_carried n us vs i t h =
    let there : slice_get (joined n us vs) (0 + i) ≡ Some t =
    ap (λ k. slice_get (joined n us vs) k) (zero-add i) ∙ slice_get-append us (map (further n) vs) i t h in
    (t, there, refl, refl, refl)

pub get_behind : (us ws : List Token) (i : ℕ) → slice_get (us ++ ws) (length us + i) ≡ slice_get ws i
get_behind [] ws i = ap (λ k. slice_get ws k) (zero-add i)
get_behind (u ∷ us) ws i =
    let shift : suc (length us) + i ≡ suc (length us + i) = omega arith in
    ap (λ k. slice_get (u ∷ (us ++ ws)) k) shift ∙ get_behind us ws i

pub behind_carried : (n : ℕ) (us vs : List Token) → Carried (length us) vs (joined n us vs)
behind_carried n us vs i t h = (
  further n t,
  get_behind us (map (further n) vs) i ∙ slice_get-map (further n) vs i ∙ ap (λ o. option_map (further n) o) h,
  refl,
  refl,
  refl,
)

pub length_joined : (n : ℕ) (us vs : List Token) → length (joined n us vs) ≡ length us + length vs
length_joined n us vs =
    length-append us (map (further n) vs) ∙ ap (λ k. length us + k) (length-map vs (further n))

-- the trees of both texts are those of both together
pub trees_joined : (n : ℕ) (us vs : List Token) (f g : Forest) → Treed us f → Treed vs g →
    Treed (joined n us vs) (followed_by f (all_moved (length us) g))
trees_joined n us vs f g h k = record {
  items_are =
      items_behind f (all_moved (length us) g)
      ∙ rw (h.items_are, all_items_moved (length us) g, k.items_are, length_joined n us vs)
      (sym (range_joined (length us) (length vs)));
  formed =
      formed_behind (joined n us vs) f (all_moved (length us) g)
      (subst (λ (e : Forest). AreFormed (joined n us vs) e) (all_moved_none f)
      (forest_carried 0 us (joined n us vs) f (first_carried n us vs) h.formed))
      (forest_carried (length us) vs (joined n us vs) g (behind_carried n us vs) k.formed);
  dotless =
      subst AllData (sym (marks_behind f (all_moved (length us) g)))
      (each-append (λ mark. mark ≡ OfDatum) (marks_of f) (marks_of (all_moved (length us) g)) h.dotless
      (subst AllData (sym (marks_moved (length us) g)) k.dotless));
  shallow =
      depth_behind f (all_moved (length us) g) _ h.shallow
      (subst (λ (d : ℕ). d ≤ depth_limit) (sym (all_depth_moved (length us) g)) k.shallow);
}
