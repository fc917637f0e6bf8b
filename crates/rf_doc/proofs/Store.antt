-- A store that grows at its end has the older texts as before, and the new one behind them.
use Rattle.std.proofs.Common.{◌≡◌, ℕ, ◌+◌, ◌-◌, ◌<◌, ◌≤◌, ◌⊎◌, inl, inr, List, [], ◌∷◌, ◌++◌, length, take, drop, slice_range, get_or, refl, ap, subst, ◌∙◌, arith, length-append, length-drop}
use Rattle.std.specs.Str.{chars, IsUtf8, IsCharBoundary}
use Rattle.std.proofs.lemmas.Bool.{cases_lt}
use Rattle.std.proofs.lemmas.List.{take-append-le, drop-append-le, get_or_append_left, take_all, drop_at, map_push}
use Rattle.std.proofs.lemmas.List.Elements.{All-head, All-tail, All-weaker, All-push}
use Rattle.std.proofs.lemmas.Str.{IsCharBoundary-at_seam, IsCharBoundary-end}
use Rattle.rf_base_document.specs.Graph.{GraphNode, TextNode}
use Rattle.rf_doc.specs.declared.stored.Stored.{Stored}
use Rattle.rf_doc.specs.declared.stored.Stored.TheVariants.{Text}
use Rattle.rf_doc.specs.Nodes.{stored_node, seen, StandsIn, EachStandsIn, HasNoText}

-- where a store may be cut, it may be cut once a text is added behind it
cut_of : (bs ts : List ℕ) (i : ℕ) → IsUtf8 ts → IsCharBoundary bs i → (i < length bs) ⊎ (length bs ≤ i) → IsCharBoundary (bs ++ ts) i
cut_of bs ts i text at (inl before) =
    let same : get_or (bs ++ ts) i 0 ≡ get_or bs i 0 = get_or_append_left bs ts 0 i before in
    (omega (arith, length-append bs ts), λ inside big. omega (arith, same, at.1 before (omega (arith, same, big))))
cut_of bs ts i text at (inr end) =
    subst (λ (n : ℕ). IsCharBoundary (bs ++ ts) n) (omega (arith, at.0)) (IsCharBoundary-at_seam (bs ++ ts) bs ts refl text)

cut_longer : (bs ts : List ℕ) (i : ℕ) → IsUtf8 ts → IsCharBoundary bs i → IsCharBoundary (bs ++ ts) i
cut_longer bs ts i text at = cut_of bs ts i text at (cases_lt i (length bs))

-- a part of a store is the same part of the longer one
part_longer : (bs ts : List ℕ) (start len : ℕ) → start + len ≤ length bs → slice_range (bs ++ ts) start (start + len) ≡ slice_range bs start (start + len)
part_longer bs ts start len within =
    ap (λ (l : List ℕ). take (start + len - start) l) (drop-append-le start bs ts (omega arith))
    ∙ take-append-le (start + len - start) (drop start bs) ts (omega (arith, length-drop start bs))

node_longer : (bs ts : List ℕ) (x : Stored) → StandsIn bs x → stored_node (bs ++ ts) x ≡ stored_node bs x
node_longer bs ts (Text start len width) at = ap (λ (s : List ℕ). TextNode (chars s) width) (part_longer bs ts start len at.1.0)
node_longer bs ts _ at = refl

stands_longer : (bs ts : List ℕ) → IsUtf8 ts → (x : Stored) → StandsIn bs x → StandsIn (bs ++ ts) x
stands_longer bs ts text (Text start len width) at = (cut_longer bs ts start text at.0, cut_longer bs ts (start + len) text at.1)
stands_longer bs ts text _ at = at

seen_longer : (bs ts : List ℕ) (xs : List Stored) → EachStandsIn bs xs → seen (bs ++ ts) xs ≡ seen bs xs
seen_longer bs ts [] each = refl
seen_longer bs ts (x ∷ xs) each =
    ap (λ (node : GraphNode). node ∷ seen (bs ++ ts) xs) (node_longer bs ts x (All-head (StandsIn bs) x xs each))
    ∙ ap (λ (l : List GraphNode). stored_node bs x ∷ l) (seen_longer bs ts xs (All-tail (StandsIn bs) x xs each))

-- the part that was added is the text
part_added : (bs ts : List ℕ) → slice_range (bs ++ ts) (length bs) (length bs + length ts) ≡ ts
part_added bs ts =
    ap (λ (l : List ℕ). take (length bs + length ts - length bs) l) (drop_at bs ts (length bs) refl)
    ∙ take_all (length bs + length ts - length bs) ts (omega arith)

-- the nodes seen after a text is stored behind the older ones
pub seen_text : (bs ts cs : List ℕ) (xs ys : List Stored) (start width : ℕ) →
    cs ≡ bs ++ ts → ys ≡ xs ++ Text start (length ts) width ∷ [] → start ≡ length bs →
    EachStandsIn bs xs → seen cs ys ≡ seen bs xs ++ TextNode (chars ts) width ∷ []
seen_text bs ts cs xs ys start width store nodes place each =
    let node : Stored = Text (length bs) (length ts) width in
    rw (store, nodes, place)
    (map_push (stored_node (bs ++ ts)) xs node
    ∙ ap (λ (l : List GraphNode). l ++ stored_node (bs ++ ts) node ∷ []) (seen_longer bs ts xs each)
    ∙ ap (λ (s : List ℕ). seen bs xs ++ TextNode (chars s) width ∷ []) (part_added bs ts))

-- each text stands in the longer store
pub each_text : (bs ts cs : List ℕ) (xs ys : List Stored) (start width : ℕ) →
    cs ≡ bs ++ ts → ys ≡ xs ++ Text start (length ts) width ∷ [] → start ≡ length bs →
    IsUtf8 ts → EachStandsIn bs xs → EachStandsIn cs ys
each_text bs ts cs xs ys start width store nodes place text each =
    rw (store, nodes, place)
    (All-push (StandsIn (bs ++ ts)) xs (Text (length bs) (length ts) width)
    (All-weaker (StandsIn bs) (StandsIn (bs ++ ts)) (stands_longer bs ts text) xs each) (
      IsCharBoundary-at_seam (bs ++ ts) bs ts refl text,
      subst (λ (n : ℕ). IsCharBoundary (bs ++ ts) n) (length-append bs ts) (IsCharBoundary-end (bs ++ ts)),
    ))

-- a node that is no text is seen the same over each store, and stands in each
pub same_over : (bs cs : List ℕ) (x : Stored) → HasNoText x → stored_node bs x ≡ stored_node cs x
same_over bs cs (Text start len width) none = absurd none
same_over bs cs _ none = refl

pub stands_over : (bs : List ℕ) (x : Stored) → HasNoText x → StandsIn bs x
stands_over bs (Text start len width) none = absurd none
stands_over bs _ none = none
