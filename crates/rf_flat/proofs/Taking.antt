-- What a turn over a node takes of the choices, by the node's kind.
use Rattle.std.proofs.Common.{◌≡◌, ◌↔◌, ℕ, suc, ◌+◌, ◌<◌, ◌≤◌, inl, inr, List, [], ◌∷◌, ◌++◌, length, Option, None, Some, Bool, true, false, ◌==◌, IsTrue, ap, sym, subst, ◌∙◌, refl, append_assoc, append-nil, arith}
use Rattle.std.proofs.lemmas.Bool.{eqb-true}
use Rattle.std.specs.Option.{option_and_then, option_copied}
use denote.Bor.{Bor}
use Rattle.rf_base_document.specs.declared.directions.Dir.{Dir}
use Rattle.rf_base_document.specs.declared.directions.Dir.TheVariants.{Left, Right}
use Rattle.rf_base_document.specs.Document.{Doc, Text, Newline, Hard, Concat, Nest, Align, Reset, Flatten, Choice, Only, Charge}
use Rattle.rf_base_document.specs.Picks.{Picks, HasPicked}
use Rattle.rf_base_document.specs.Graph.{GraphNode, TextNode, NewlineNode, ConcatNode, NestNode, AlignNode, ResetNode, ChoiceNode, OnlyNode, ChargeNode, IsNode, IsGraph, StandsFor, parts_end, unfolded}
use Rattle.rf_base_document.proofs.Graph.{unfolded-node, unfolded-is, parts_before}
use Rattle.rf_flat.specs.Taken.{left_by, left_by_all, size_of, AreNodes, turns_of, Took, AfterFirst, side_of}

-- one step after another
and_then_some : (o : Option (List Dir)) → option_and_then (λ rest. Some rest) o ≡ o
and_then_some None = refl
and_then_some (Some cs) = refl

and_then_assoc : (f g : List Dir → Option (List Dir)) (o : Option (List Dir)) →
    option_and_then g (option_and_then f o) ≡ option_and_then (λ rest. option_and_then g (f rest)) o
and_then_assoc f g None = refl
and_then_assoc f g (Some cs) = refl

and_then_same : (f g : List Dir → Option (List Dir)) (o : Option (List Dir)) → ((cs : List Dir) → f cs ≡ g cs) → option_and_then f o ≡ option_and_then g o
and_then_same f g None same = refl
and_then_same f g (Some cs) same = same cs

-- the last node is the first to take
pub left_by_all-snoc : (g : List GraphNode) (ns : List ℕ) (n : ℕ) (cs : List Dir) →
    left_by_all g (ns ++ n ∷ []) cs ≡ option_and_then (λ rest. left_by_all g ns rest) (left_by (unfolded g n) cs)
unfolding left_by_all
left_by_all-snoc g [] n cs = sym (and_then_some (left_by (unfolded g n) cs))
left_by_all-snoc g (x ∷ ns) n cs =
    ap (λ o. option_and_then (λ rest. left_by (unfolded g x) rest) o) (left_by_all-snoc g ns n cs)
    ∙ and_then_assoc (λ rest. left_by_all g ns rest) (λ rest. left_by (unfolded g x) rest) (left_by (unfolded g n) cs)

turns_of-snoc : (g : List GraphNode) (ns : List ℕ) (n : ℕ) → turns_of g (ns ++ n ∷ []) ≡ turns_of g ns + size_of (unfolded g n)
unfolding turns_of
turns_of-snoc g [] n = omega arith
turns_of-snoc g (x ∷ ns) n = omega (arith, turns_of-snoc g ns n)

AreNodes-snoc : (g : List GraphNode) (ns : List ℕ) (n : ℕ) → AreNodes g ns → n < length g → AreNodes g (ns ++ n ∷ [])
unfolding AreNodes
AreNodes-snoc g [] n h k = (k, tt)
AreNodes-snoc g (x ∷ ns) n h k = (h.0, AreNodes-snoc g ns n h.1 k)

AreNodes-first : (g : List GraphNode) (ns : List ℕ) (n : ℕ) → AreNodes g (ns ++ n ∷ []) → AreNodes g ns
unfolding AreNodes
AreNodes-first g [] n h = tt
AreNodes-first g (x ∷ ns) n h = (h.0, AreNodes-first g ns n h.1)

pub AreNodes-last : (g : List GraphNode) (ns : List ℕ) (n : ℕ) → AreNodes g (ns ++ n ∷ []) → n < length g
unfolding AreNodes
AreNodes-last g [] n h = h.0
AreNodes-last g (x ∷ ns) n h = AreNodes-last g ns n h.1

-- a document has a node
has_size : (d : Doc) → 1 ≤ size_of d
unfolding size_of
has_size (Text s len) = omega arith
has_size _ = omega arith

-- a node that takes nothing
pub leaf_took : (g : List GraphNode) (ns : List ℕ) (n : ℕ) (cs : List Dir) → AreNodes g (ns ++ n ∷ []) → left_by (unfolded g n) cs ≡ Some cs →
    Took g ns n cs ns (Some cs)
leaf_took g ns n cs nodes takes = (
  AreNodes-first g ns n nodes,
  sym (left_by_all-snoc g ns n cs ∙ ap (λ o. option_and_then (λ rest. left_by_all g ns rest) o) takes),
  omega (arith, turns_of-snoc g ns n, has_size (unfolded g n)),
)

-- a node that leaves what its part leaves of the rest
pub one_took : (g : List GraphNode) (ns ns' : List ℕ) (n a : ℕ) (cs rest : List Dir) → AreNodes g (ns ++ n ∷ []) → ns' ≡ ns ++ a ∷ [] → a < length g →
    size_of (unfolded g a) < size_of (unfolded g n) → left_by (unfolded g n) cs ≡ left_by (unfolded g a) rest →
    Took g ns n cs ns' (Some rest)
one_took g ns ns' n a cs rest nodes is within smaller takes =
    subst (λ (l : List ℕ). Took g ns n cs l (Some rest)) (sym is) (
      AreNodes-snoc g ns a (AreNodes-first g ns n nodes) within,
      left_by_all-snoc g ns a rest ∙ ap (λ o. option_and_then (λ r. left_by_all g ns r) o) (sym takes) ∙ sym (left_by_all-snoc g ns n cs),
      omega (arith, turns_of-snoc g ns n, turns_of-snoc g ns a, smaller),
    )

-- a node that stops
pub none_took : (g : List GraphNode) (ns : List ℕ) (n : ℕ) (cs : List Dir) → left_by (unfolded g n) cs ≡ None → left_by_all g (ns ++ n ∷ []) cs ≡ None
none_took g ns n cs takes = left_by_all-snoc g ns n cs ∙ ap (λ o. option_and_then (λ rest. left_by_all g ns rest) o) takes

-- a concatenation
pub concat_took : (g : List GraphNode) (ns mid ns' : List ℕ) (n a b : ℕ) (cs : List Dir) → IsGraph g → IsNode g n (ConcatNode a b) → AreNodes g (ns ++ n ∷ []) →
    mid ≡ ns ++ b ∷ [] → ns' ≡ mid ++ a ∷ [] → Took g ns n cs ns' (Some cs)
unfolding left_by size_of
concat_took g ns mid ns' n a b cs whole is nodes first second =
    let left : Doc = unfolded g a in
    let right : Doc = unfolded g b in
    let known : unfolded g n ≡ Concat left right = unfolded-node g n _ whole is in
    let size : size_of (unfolded g n) ≡ 1 + (size_of left + size_of right) = ap size_of known in
    let before = parts_before g n _ whole is in
    subst (λ (l : List ℕ). Took g ns n cs l (Some cs)) (sym (second ∙ ap (λ l. l ++ a ∷ []) first)) (
      AreNodes-snoc g (ns ++ b ∷ []) a (AreNodes-snoc g ns b (AreNodes-first g ns n nodes) (omega arith)) (omega arith),
      left_by_all-snoc g (ns ++ b ∷ []) a cs
          ∙ and_then_same (λ rest. left_by_all g (ns ++ b ∷ []) rest) (λ rest. option_and_then (λ r. left_by_all g ns r) (left_by right rest)) (left_by left cs)
          (λ rest. left_by_all-snoc g ns b rest)
          ∙ sym (and_then_assoc (λ rest. left_by right rest) (λ r. left_by_all g ns r) (left_by left cs))
          ∙ ap (λ d. option_and_then (λ r. left_by_all g ns r) (left_by d cs)) (sym known) ∙ sym (left_by_all-snoc g ns n cs),
      omega (arith, turns_of-snoc g ns n, turns_of-snoc g (ns ++ b ∷ []) a, turns_of-snoc g ns b, size),
    )

-- the size of a part, and a part's place
part_size : (g : List GraphNode) (n a : ℕ) (f : Doc → Doc) → ((d : Doc) → size_of (f d) ≡ 1 + size_of d) → unfolded g n ≡ f (unfolded g a) →
    size_of (unfolded g a) < size_of (unfolded g n)
part_size g n a f size known = omega (arith, size (unfolded g a), ap size_of known)

-- a node of one part that is laid out elsewhere
under_took : (g : List GraphNode) (ns ns' : List ℕ) (n a : ℕ) (cs : List Dir) (node : GraphNode) (f : Doc → Doc) → IsGraph g → IsNode g n node →
    AreNodes g (ns ++ n ∷ []) → ns' ≡ ns ++ a ∷ [] → parts_end node ≡ suc a → unfolded g n ≡ f (unfolded g a) →
    ((d : Doc) → size_of (f d) ≡ 1 + size_of d) → ((d : Doc) → left_by (f d) cs ≡ left_by d cs) → Took g ns n cs ns' (Some cs)
under_took g ns ns' n a cs node f whole is nodes next end known size takes =
    let before = parts_before g n node whole is in
    one_took g ns ns' n a cs cs nodes next (omega arith) (part_size g n a f size known)
    (ap (λ d. left_by d cs) known ∙ takes (unfolded g a))

-- the same, where what is left is known by another name
under_as : (g : List GraphNode) (ns ns' : List ℕ) (n : ℕ) (cs : List Dir) (left : Option (List Dir)) → left ≡ Some cs → Took g ns n cs ns' (Some cs) → Took g ns n cs ns' left
under_as g ns ns' n cs left is took = subst (λ (o : Option (List Dir)). Took g ns n cs ns' o) (sym is) took

pub nest_took : (g : List GraphNode) (ns ns' : List ℕ) (n k a : ℕ) (cs : List Dir) (left : Option (List Dir)) → IsGraph g → IsNode g n (NestNode k a) →
    AreNodes g (ns ++ n ∷ []) → ns' ≡ ns ++ a ∷ [] → left ≡ Some cs → Took g ns n cs ns' left
unfolding left_by size_of
nest_took g ns ns' n k a cs left whole is nodes next same =
    under_as g ns ns' n cs left same
    (under_took g ns ns' n a cs (NestNode k a) (Nest k) whole is nodes next refl (unfolded-node g n _ whole is) (λ d. refl) (λ d. refl))

pub align_took : (g : List GraphNode) (ns ns' : List ℕ) (n a : ℕ) (cs : List Dir) (left : Option (List Dir)) → IsGraph g → IsNode g n (AlignNode a) →
    AreNodes g (ns ++ n ∷ []) → ns' ≡ ns ++ a ∷ [] → left ≡ Some cs → Took g ns n cs ns' left
unfolding left_by size_of
align_took g ns ns' n a cs left whole is nodes next same =
    under_as g ns ns' n cs left same
    (under_took g ns ns' n a cs (AlignNode a) Align whole is nodes next refl (unfolded-node g n _ whole is) (λ d. refl) (λ d. refl))

pub reset_took : (g : List GraphNode) (ns ns' : List ℕ) (n a : ℕ) (cs : List Dir) (left : Option (List Dir)) → IsGraph g → IsNode g n (ResetNode a) →
    AreNodes g (ns ++ n ∷ []) → ns' ≡ ns ++ a ∷ [] → left ≡ Some cs → Took g ns n cs ns' left
unfolding left_by size_of
reset_took g ns ns' n a cs left whole is nodes next same =
    under_as g ns ns' n cs left same
    (under_took g ns ns' n a cs (ResetNode a) Reset whole is nodes next refl (unfolded-node g n _ whole is) (λ d. refl) (λ d. refl))

pub charge_took : (g : List GraphNode) (ns ns' : List ℕ) (n k a : ℕ) (cs : List Dir) (left : Option (List Dir)) → IsGraph g → IsNode g n (ChargeNode k a) →
    AreNodes g (ns ++ n ∷ []) → ns' ≡ ns ++ a ∷ [] → left ≡ Some cs → Took g ns n cs ns' left
unfolding left_by size_of
charge_took g ns ns' n k a cs left whole is nodes next same =
    under_as g ns ns' n cs left same
    (under_took g ns ns' n a cs (ChargeNode k a) (Charge k) whole is nodes next refl (unfolded-node g n _ whole is) (λ d. refl) (λ d. refl))

-- a text, and a newline
pub text_takes : (g : List GraphNode) (n len : ℕ) (s : List ℕ) (cs : List Dir) → IsGraph g → IsNode g n (TextNode s len) → left_by (unfolded g n) cs ≡ Some cs
unfolding left_by
text_takes g n len s cs whole is = ap (λ d. left_by d cs) (unfolded-node g n _ whole is)

pub newline_takes : (g : List GraphNode) (n : ℕ) (cs : List Dir) → IsGraph g → IsNode g n NewlineNode → left_by (unfolded g n) cs ≡ Some cs
unfolding left_by
newline_takes g n cs whole is = ap (λ d. left_by d cs) (unfolded-node g n _ whole is)

pub empty_list : (cs : List Dir) → length cs ≡ 0 → cs ≡ []
empty_list [] e = refl
empty_list (dir ∷ cs) e = absurd (omega arith)

-- a choice
pub choice_stopped : (g : List GraphNode) (ns : List ℕ) (n a b : ℕ) (cs : List Dir) → IsGraph g → IsNode g n (ChoiceNode a b) → cs ≡ [] →
    left_by_all g (ns ++ n ∷ []) cs ≡ None
unfolding left_by
choice_stopped g ns n a b cs whole is none =
    none_took g ns n cs (ap (λ d. left_by d cs) (unfolded-node g n _ whole is) ∙ ap (λ l. left_by (Choice (unfolded g a) (unfolded g b)) l) none)

side_takes : (g : List GraphNode) (a b : ℕ) (dir : Dir) (rest : List Dir) →
    left_by (Choice (unfolded g a) (unfolded g b)) (dir ∷ rest) ≡ left_by (unfolded g (side_of dir a b)) rest
unfolding left_by
side_takes g a b Left rest = refl
side_takes g a b Right rest = refl

side_size : (g : List GraphNode) (a b : ℕ) (dir : Dir) → size_of (unfolded g (side_of dir a b)) < size_of (Choice (unfolded g a) (unfolded g b))
unfolding size_of
side_size g a b Left = omega arith
side_size g a b Right = omega arith

side_within : (a b n : ℕ) (dir : Dir) → a < n → b < n → side_of dir a b < n
side_within a b n Left p q = p
side_within a b n Right p q = q

pub choice_took : (g : List GraphNode) (ns ns' : List ℕ) (n a b s : ℕ) (cs rest : List Dir) (dir : Dir) → IsGraph g → IsNode g n (ChoiceNode a b) →
    AreNodes g (ns ++ n ∷ []) → cs ≡ dir ∷ rest → s ≡ side_of dir a b → ns' ≡ ns ++ s ∷ [] → Took g ns n cs ns' (Some rest)
choice_took g ns ns' n a b s cs rest dir whole is nodes first side next =
    let known : unfolded g n ≡ Choice (unfolded g a) (unfolded g b) = unfolded-node g n _ whole is in
    let before = parts_before g n _ whole is in
    one_took g ns ns' n (side_of dir a b) cs rest nodes (next ∙ ap (λ k. ns ++ k ∷ []) side)
    (side_within a b (length g) dir (omega arith) (omega arith))
    (omega (arith, side_size g a b dir, ap size_of known))
    (ap (λ d. left_by d cs) known ∙ ap (λ l. left_by (Choice (unfolded g a) (unfolded g b)) l) first ∙ side_takes g a b dir rest)

-- a side alone
only_takes : (dir : Dir) (a : Doc) (rest : List Dir) → left_by (Only dir a) (dir ∷ rest) ≡ left_by a rest
unfolding left_by
only_takes Left a rest = refl
only_takes Right a rest = refl

only_stops : (dir : Dir) (a : Doc) (cs : List Dir) → AfterFirst dir cs None → left_by (Only dir a) cs ≡ None
unfolding left_by
only_stops Left a (Left ∷ cs) h = absurd (h cs refl)
only_stops Right a (Right ∷ cs) h = absurd (h cs refl)
only_stops _ a _ h = refl

pub only_stopped : (g : List GraphNode) (ns : List ℕ) (n a : ℕ) (cs : List Dir) (dir : Dir) → IsGraph g → IsNode g n (OnlyNode dir a) → AfterFirst dir cs None →
    left_by_all g (ns ++ n ∷ []) cs ≡ None
only_stopped g ns n a cs dir whole is other =
    none_took g ns n cs (ap (λ d. left_by d cs) (unfolded-node g n _ whole is) ∙ only_stops dir (unfolded g a) cs other)

only_size : (dir : Dir) (a : Doc) → size_of (Only dir a) ≡ 1 + size_of a
unfolding size_of
only_size dir a = refl

pub only_took : (g : List GraphNode) (ns ns' : List ℕ) (n a : ℕ) (cs rest : List Dir) (dir : Dir) → IsGraph g → IsNode g n (OnlyNode dir a) →
    AreNodes g (ns ++ n ∷ []) → cs ≡ dir ∷ rest → ns' ≡ ns ++ a ∷ [] → Took g ns n cs ns' (Some rest)
only_took g ns ns' n a cs rest dir whole is nodes first next =
    let known : unfolded g n ≡ Only dir (unfolded g a) = unfolded-node g n _ whole is in
    let before = parts_before g n _ whole is in
    one_took g ns ns' n a cs rest nodes next (omega arith) (part_size g n a (Only dir) (only_size dir) known)
    (ap (λ d. left_by d cs) known ∙ ap (λ l. left_by (Only dir (unfolded g a)) l) first ∙ only_takes dir (unfolded g a) rest)

-- what a document leaves after the choices that pick a resolution of it
pub picks_left : (d : Doc) (x y : List Dir) (e : Doc) → Picks d x e → left_by d (x ++ y) ≡ Some y
unfolding Picks left_by
picks_left (Concat a b) x y e h =
    ap (λ l. option_and_then (λ rest. left_by b rest) (left_by a (l ++ y))) h.4
    ∙ ap (λ l. option_and_then (λ rest. left_by b rest) (left_by a l)) (append_assoc h.0 h.1 y)
    ∙ ap (λ o. option_and_then (λ rest. left_by b rest) o) (picks_left a h.0 (h.1 ++ y) h.2 h.6) ∙ picks_left b h.1 y h.3 h.7
picks_left (Nest n a) x y e h = picks_left a x y h.0 h.2
picks_left (Align a) x y e h = picks_left a x y h.0 h.2
picks_left (Reset a) x y e h = picks_left a x y h.0 h.2
picks_left (Flatten a) x y e h = picks_left a x y h.0 h.2
picks_left (Choice a b) x y e h =
    elim h.1 [
      | inl k ↦ ap (λ l. left_by (Choice a b) (l ++ y)) k.0 ∙ picks_left a h.0 y e k.1
      | inr k ↦ ap (λ l. left_by (Choice a b) (l ++ y)) k.0 ∙ picks_left b h.0 y e k.1
    ]
picks_left (Only dir a) x y e h = ap (λ l. left_by (Only dir a) (l ++ y)) h.1 ∙ only_takes dir a (h.0 ++ y) ∙ picks_left a h.0 y e h.2
picks_left (Charge k a) x y e h = picks_left a x y h.0 h.2
picks_left _ x y e h = ap (λ l. Some (l ++ y)) h.0

-- the choices that a document took pick a resolution of it
pub record TakenBy (d : Doc) (cs y : List Dir) : Type 0 where
  pub x : List Dir
  pub e : Doc
  pub is : cs ≡ x ++ y
  pub picks : Picks d x e

same_rest : (cs y : List Dir) → Some cs ≡ Some y → cs ≡ y
same_rest cs y e = cc

and_then_is : (f : List Dir → Option (List Dir)) (o : Option (List Dir)) (y : List Dir) → option_and_then f o ≡ Some y → (r : List Dir) × (o ≡ Some r) × (f r ≡ Some y)
and_then_is f None y e = cc
and_then_is f (Some r) y e = (r, refl, e)

pub left_picks : (d : Doc) (cs y : List Dir) → left_by d cs ≡ Some y → TakenBy d cs y
unfolding Picks left_by
left_picks (Text s len) cs y h = record { x = []; e = Text s len; is = same_rest cs y h; picks = (refl, refl) }
left_picks Newline cs y h = record { x = []; e = Newline; is = same_rest cs y h; picks = (refl, refl) }
left_picks Hard cs y h = record { x = []; e = Hard; is = same_rest cs y h; picks = (refl, refl) }
left_picks (Concat a b) cs y h =
    let both = and_then_is (λ rest. left_by b rest) (left_by a cs) y h in
    let left = left_picks a cs both.0 both.1 in
    let right = left_picks b both.0 y both.2 in
    record {
      x = left.x ++ right.x;
      e = Concat left.e right.e;
      is = left.is ∙ ap (λ l. left.x ++ l) right.is ∙ sym (append_assoc left.x right.x y);
      picks = (left.x, right.x, left.e, right.e, refl, refl, left.picks, right.picks);
    }
left_picks (Nest n a) cs y h = let part = left_picks a cs y h in record { x = part.x; e = Nest n part.e; is = part.is; picks = (part.e, refl, part.picks) }
left_picks (Align a) cs y h = let part = left_picks a cs y h in record { x = part.x; e = Align part.e; is = part.is; picks = (part.e, refl, part.picks) }
left_picks (Reset a) cs y h = let part = left_picks a cs y h in record { x = part.x; e = Reset part.e; is = part.is; picks = (part.e, refl, part.picks) }
left_picks (Flatten a) cs y h = let part = left_picks a cs y h in record { x = part.x; e = Flatten part.e; is = part.is; picks = (part.e, refl, part.picks) }
left_picks (Choice a b) (Left ∷ cs) y h =
    let part = left_picks a cs y h in
    record { x = Left ∷ part.x; e = part.e; is = ap (λ l. Left ∷ l) part.is; picks = (part.x, inl (refl, part.picks)) }
left_picks (Choice a b) (Right ∷ cs) y h =
    let part = left_picks b cs y h in
    record { x = Right ∷ part.x; e = part.e; is = ap (λ l. Right ∷ l) part.is; picks = (part.x, inr (refl, part.picks)) }
left_picks (Only Left a) (Left ∷ cs) y h =
    let part = left_picks a cs y h in
    record { x = Left ∷ part.x; e = part.e; is = ap (λ l. Left ∷ l) part.is; picks = (part.x, refl, part.picks) }
left_picks (Only Right a) (Right ∷ cs) y h =
    let part = left_picks a cs y h in
    record { x = Right ∷ part.x; e = part.e; is = ap (λ l. Right ∷ l) part.is; picks = (part.x, refl, part.picks) }
left_picks (Charge k a) cs y h = let part = left_picks a cs y h in record { x = part.x; e = Charge k part.e; is = part.is; picks = (part.e, refl, part.picks) }
left_picks _ _ y h = cc

-- choices fit exactly where none are left
pub fits_where_none_left : (d : Doc) (cs : List Dir) → (left_by d cs ≡ Some []) ↔ HasPicked d cs
fits_where_none_left d cs = (
  λ h. let taken = left_picks d cs [] h in
      let same : taken.x ≡ cs = sym (append-nil taken.x) ∙ sym taken.is in
      (taken.e, subst (λ (l : List Dir). Picks d l taken.e) same taken.picks),
  λ h. ap (λ l. left_by d l) (sym (append-nil cs)) ∙ picks_left d cs [] h.0 h.1,
)

-- the beginning of a walk over a document
none_are : (g : List GraphNode) → AreNodes g []
unfolding AreNodes
none_are g = tt

left_by_none : (g : List GraphNode) (o : Option (List Dir)) → option_and_then (λ rest. left_by_all g [] rest) o ≡ o
unfolding left_by_all
left_by_none g None = refl
left_by_none g (Some cs) = refl

pub begins : (g : List GraphNode) (root : ℕ) (ns : List ℕ) (cs : List Dir) → ns ≡ [] ++ root ∷ [] → root < length g →
    AreNodes g ns × (left_by_all g ns cs ≡ left_by (unfolded g root) cs)
begins g root ns cs is within =
    subst (λ (l : List ℕ). AreNodes g l × (left_by_all g l cs ≡ left_by (unfolded g root) cs)) (sym is)
    (AreNodes-snoc g [] root (none_are g) within, left_by_all-snoc g [] root cs ∙ left_by_none g (left_by (unfolded g root) cs))

-- its end: no node, and what is left
pub ends : (g : List GraphNode) (root : ℕ) (ns : List ℕ) (cs left : List Dir) → IsGraph g → ns ≡ [] →
    left_by_all g ns left ≡ left_by (unfolded g root) cs → (d : Doc) → StandsFor g root d → left_by d cs ≡ Some left
unfolding left_by_all
ends g root ns cs left whole none same d stands =
    ap (λ x. left_by x cs) (sym (unfolded-is g root d whole stands)) ∙ sym same ∙ ap (λ (l : List ℕ). left_by_all g l left) none

pub stops : (g : List GraphNode) (root : ℕ) (cs : List Dir) → IsGraph g → left_by (unfolded g root) cs ≡ None →
    (d : Doc) → StandsFor g root d → left_by d cs ≡ None
stops g root cs whole none d stands = ap (λ x. left_by x cs) (sym (unfolded-is g root d whole stands)) ∙ none

-- what the answer says, by what is left
pub no_fit : (d : Doc) (cs : List Dir) → left_by d cs ≡ None → IsTrue false ↔ HasPicked d cs
no_fit d cs none = (
  λ h. cc,
  λ h. let two : None ≡ Some [] = sym none ∙ (fits_where_none_left d cs).1 h in cc,
)

nothing_left : (left : List Dir) → (length left == 0) ≡ true → left ≡ []
nothing_left [] h = refl
nothing_left (dir ∷ left) h = empty_list (dir ∷ left) (eqb-true (length (dir ∷ left)) 0 h)

pub fit : (d : Doc) (cs left : List Dir) (b : Bool) → left_by d cs ≡ Some left → b ≡ (length left == 0) → IsTrue b ↔ HasPicked d cs
fit d cs left b some is = (
  λ h. (fits_where_none_left d cs).0 (some ∙ ap (λ l. Some l) (nothing_left left (sym is ∙ h))),
  λ h.
      let two : Some left ≡ Some [] = sym some ∙ (fits_where_none_left d cs).1 h in
      let none : left ≡ [] = cc in
      is ∙ ap (λ (l : List Dir). length l == 0) none,
)

-- a turn that stopped
pub stopped : (g : List GraphNode) (ns ns' stack : List ℕ) (n root : ℕ) (cs left : List Dir) (o : Option (Bor (List Dir))) → o ≡ None →
    stack ≡ ns ++ n ∷ [] → left_by_all g stack left ≡ left_by (unfolded g root) cs → Took g ns n left ns' (option_copied o) → left_by (unfolded g root) cs ≡ None
stopped g ns ns' stack n root cs left o none is same took =
    let end : left_by_all g (ns ++ n ∷ []) left ≡ None = subst (λ (p : Option (Bor (List Dir))). Took g ns n left ns' (option_copied p)) none took in
    sym same ∙ ap (λ (l : List ℕ). left_by_all g l left) is ∙ end
