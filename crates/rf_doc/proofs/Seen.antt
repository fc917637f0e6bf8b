-- How stored nodes are seen, and what one more at the end does to the graph that is seen.
use Rattle.std.proofs.Common.{◌≡◌, ℕ, ◌*◌, ◌≤◌, List, [], ◌∷◌, ◌++◌, length, take, Some, slice_get, refl, ap, sym, subst, ◌∙◌, arith, get_or, ◌<◌, ◌+◌, Option, Ok, Err}
use Rattle.std.specs.declared.alloc.AllocError.{AllocError}
use Rattle.std.proofs.lemmas.List.{take-map, length-map, map_push, length-append}
use Rattle.std.proofs.lemmas.List.Elements.{All-nil, All-push, All-same, All-take}
use Rattle.std.proofs.lemmas.Option.{slice_get_read, slice_get-map}
use Rattle.std.specs.Option.{option_map}
use Rattle.std.proofs.Math.Seq.{take-append_seam, take-length}
use Rattle.rf_base_document.specs.Document.{Doc, Text, Newline, Hard, Concat, Nest, Align, Reset, Flatten, Choice, Charge, IsOneLine}
use Rattle.rf_base_document.specs.Graph.{GraphNode, TextNode, NewlineNode, HardNode, ConcatNode, NestNode, AlignNode, ResetNode, FlattenNode, ChoiceNode, ChargeNode, IsNode, parts_end, NodeKeepsLimits, IsGraph, StandsFor}
use Rattle.rf_base_document.proofs.Graph.{IsGraph-added}
use Rattle.rf_doc.specs.declared.stored.Stored.{Stored}
use Rattle.rf_doc.specs.Nodes.{stored_node, seen, StandsIn, EachStandsIn, HasNoText, Extends, Adds}
use Rattle.rf_doc.proofs.Extending.{extends_keeps}
use Rattle.rf_doc.proofs.Store.{same_over, stands_over}

-- the nodes seen after one more is stored, which is no text
pub seen_added : (bs : List ℕ) (xs ys : List Stored) (x : Stored) → HasNoText x → ys ≡ xs ++ x ∷ [] → seen bs ys ≡ seen bs xs ++ stored_node [] x ∷ []
seen_added bs xs ys x none e =
    ap (λ (l : List Stored). seen bs l) e ∙ map_push (stored_node bs) xs x
    ∙ ap (λ (node : GraphNode). seen bs xs ++ node ∷ []) (same_over bs [] x none)

pub each_added : (bs : List ℕ) (xs ys : List Stored) (x : Stored) → HasNoText x → ys ≡ xs ++ x ∷ [] → EachStandsIn bs xs → EachStandsIn bs ys
each_added bs xs ys x none e each = All-same (StandsIn bs) ys (xs ++ x ∷ []) e (All-push (StandsIn bs) xs x each (stands_over bs x none))

slice_get-end : {A : Type 0} (xs : List A) (x : A) → slice_get (xs ++ x ∷ []) (length xs) ≡ Some x
slice_get-end [] x = refl
slice_get-end (y ∷ xs) x = slice_get-end xs x

-- the graph g with a node more is the list h: a graph, whose last node is the new one, and which keeps the older ones
pub is_graph_of : (g h : List GraphNode) (node : GraphNode) → h ≡ g ++ node ∷ [] → IsGraph g → parts_end node ≤ length g →
    NodeKeepsLimits node → IsGraph h
is_graph_of g h node e whole below limits = subst (λ (l : List GraphNode). IsGraph l) (sym e) (IsGraph-added g node whole below limits)

pub last_of : (g h : List GraphNode) (node : GraphNode) (n : ℕ) → h ≡ g ++ node ∷ [] → n ≡ length g → IsNode h n node
last_of g h node n e place = rw (e, place) (slice_get-end g node)

pub adds_one : (g h : List GraphNode) (node : GraphNode) (n : ℕ) → h ≡ g ++ node ∷ [] → n ≡ length g → Adds 1 g h (Ok (record { 0 = n }))
adds_one g h node n e place =
    let longer : length h ≡ length g + 1 = ap (λ (l : List GraphNode). length l) e ∙ length-append g (node ∷ []) in
    record { in_graph = omega (arith, longer, place); at_end = rw e (take-append_seam g (node ∷ [])); few = omega (arith, longer); err = tt }

-- a part of a new node, kept as p, stands for what it stood for as a
kept : (g h : List GraphNode) (p a : ℕ) → Extends g h → p ≡ a → (d : Doc) → StandsFor g a d → StandsFor h p d
kept g h p a extends is_a d stands = subst (λ (n : ℕ). StandsFor h n d) (sym is_a) (extends_keeps g h extends a d stands)

-- what the new node stands for, by its kind
pub text_stands : (h : List GraphNode) (id n : ℕ) (s : List ℕ) → IsNode h id (TextNode s n) → StandsFor h id (Text s n)
unfolding StandsFor
text_stands h id n s e = e

pub newline_stands : (h : List GraphNode) (id : ℕ) → IsNode h id NewlineNode → StandsFor h id Newline
unfolding StandsFor
newline_stands h id e = e

pub hard_stands : (h : List GraphNode) (id : ℕ) → IsNode h id HardNode → StandsFor h id Hard
unfolding StandsFor
hard_stands h id e = e

pub concat_stands : (g h : List GraphNode) (id a b p q : ℕ) → Extends g h → p ≡ a → q ≡ b → IsNode h id (ConcatNode p q) →
    (d e : Doc) → StandsFor g a d → StandsFor g b e → StandsFor h id (Concat d e)
unfolding StandsFor
concat_stands g h id a b p q extends is_a is_b node d e k l = (p, q, node, kept g h p a extends is_a d k, kept g h q b extends is_b e l)

pub choice_stands : (g h : List GraphNode) (id a b p q : ℕ) → Extends g h → p ≡ a → q ≡ b → IsNode h id (ChoiceNode p q) →
    (d e : Doc) → StandsFor g a d → StandsFor g b e → StandsFor h id (Choice d e)
unfolding StandsFor
choice_stands g h id a b p q extends is_a is_b node d e k l = (p, q, node, kept g h p a extends is_a d k, kept g h q b extends is_b e l)

pub align_stands : (g h : List GraphNode) (id a p : ℕ) → Extends g h → p ≡ a → IsNode h id (AlignNode p) →
    (d : Doc) → StandsFor g a d → StandsFor h id (Align d)
unfolding StandsFor
align_stands g h id a p extends is_a node d k = (p, node, kept g h p a extends is_a d k)

pub reset_stands : (g h : List GraphNode) (id a p : ℕ) → Extends g h → p ≡ a → IsNode h id (ResetNode p) →
    (d : Doc) → StandsFor g a d → StandsFor h id (Reset d)
unfolding StandsFor
reset_stands g h id a p extends is_a node d k = (p, node, kept g h p a extends is_a d k)

pub flatten_stands : (g h : List GraphNode) (id a p : ℕ) → Extends g h → p ≡ a → IsNode h id (FlattenNode p) →
    (d : Doc) → StandsFor g a d → StandsFor h id (Flatten d)
unfolding StandsFor
flatten_stands g h id a p extends is_a node d k = (p, node, kept g h p a extends is_a d k)

pub nest_stands : (g h : List GraphNode) (id n a p : ℕ) → Extends g h → p ≡ a → IsNode h id (NestNode n p) →
    (d : Doc) → StandsFor g a d → StandsFor h id (Nest n d)
unfolding StandsFor
nest_stands g h id n a p extends is_a node d k = (p, node, kept g h p a extends is_a d k)

pub charge_stands : (g h : List GraphNode) (id n a p : ℕ) → Extends g h → p ≡ a → IsNode h id (ChargeNode n p) →
    (d : Doc) → StandsFor g a d → StandsFor h id (Charge n d)
unfolding StandsFor
charge_stands g h id n a p extends is_a node d k = (p, node, kept g h p a extends is_a d k)

-- a text of one line keeps the limits, whose length is at most two columns a character
pub text_limits : (s : List ℕ) (n : ℕ) → n ≤ 2 * length s → IsOneLine s → NodeKeepsLimits (TextNode s n)
text_limits s n few line = (line, few)

pub no_node_is_graph : (bs : List ℕ) (xs : List Stored) → xs ≡ [] → IsGraph (seen bs xs)
unfolding IsGraph
no_node_is_graph bs xs e = subst (λ (l : List Stored). IsGraph (seen bs l)) (sym e) (λ n node found. cc)

pub no_node_stands : (bs : List ℕ) (xs : List Stored) → xs ≡ [] → EachStandsIn bs xs
no_node_stands bs xs e = All-same (StandsIn bs) xs [] e (All-nil (StandsIn bs))

-- the stored nodes cut back to the number of the old graph's are seen as that graph
pub cut_back : (bs : List ℕ) (g h : List GraphNode) (xs ys : List Stored) (k : ℕ) → seen bs xs ≡ h → ys ≡ take k xs → k ≡ length g →
    Extends g h → seen bs ys ≡ g
cut_back bs g h xs ys k view cut place extends =
    ap (λ (l : List Stored). seen bs l) cut ∙ sym (take-map (stored_node bs) k xs) ∙ ap (λ (l : List GraphNode). take k l) view
    ∙ ap (λ n. take n h) place ∙ extends

pub each_cut : (bs : List ℕ) (xs ys : List Stored) (k : ℕ) → ys ≡ take k xs → EachStandsIn bs xs → EachStandsIn bs ys
each_cut bs xs ys k cut each = All-same (StandsIn bs) ys (take k xs) cut (All-take (StandsIn bs) k xs each)

pub is_graph_again : (g f h : List GraphNode) → f ≡ g → h ≡ g → IsGraph f → IsGraph h
is_graph_again g f h was is whole = subst (λ (l : List GraphNode). IsGraph l) (was ∙ sym is) whole

-- a graph that is the same after an Err
pub adds_none : (most : ℕ) (g h : List GraphNode) (error : AllocError) → h ≡ g → Adds most g h (Err error)
adds_none most g h error e =
    record { in_graph = tt; at_end = rw e (take-length g); few = omega (arith, ap (λ (l : List GraphNode). length l) e); err = e }

-- a stored node is told as it is seen
pub tells : (bs : List ℕ) (xs : List Stored) (g : List GraphNode) (n : ℕ) (x y : Stored) → seen bs xs ≡ g → x ≡ get_or xs n x → n < length g → x ≡ y →
    IsNode g n (stored_node bs y)
tells bs xs g n x y view found within same =
    let inside : n < length xs = omega (arith, ap (λ (l : List GraphNode). length l) view, length-map xs (stored_node bs)) in
    let stored : slice_get xs n ≡ Some x = slice_get_read xs (length xs) n x refl inside found in
    ap (λ (l : List GraphNode). slice_get l n) (sym view) ∙ slice_get-map (stored_node bs) xs n
    ∙ ap (λ (o : Option Stored). option_map (stored_node bs) o) stored ∙ ap (λ (z : Stored). Some (stored_node bs z)) same

pub seen_is_graph : (bs : List ℕ) (xs : List Stored) (g : List GraphNode) → seen bs xs ≡ g → IsGraph (seen bs xs) → IsGraph g
seen_is_graph bs xs g view whole = subst (λ (l : List GraphNode). IsGraph l) view whole
