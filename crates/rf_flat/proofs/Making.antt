-- What is done for the core of a node stands for it, by the node's kind.
use Rattle.std.proofs.Common.{◌≡◌, ℕ, suc, ◌<◌, ◌≤◌, Bool, true, false, List, [], ◌∷◌, ◌++◌, length, Option, None, Some, slice_get, get_or, sym, subst, refl, arith}
use Rattle.std.specs.Option.{option_map}
use Rattle.std.proofs.lemmas.Option.{slice_get-get_or}
use Rattle.rf_base_document.specs.declared.directions.Dir.{Dir}
use Rattle.rf_base_document.specs.declared.directions.Dir.TheVariants.{Left, Right}
use Rattle.rf_base_document.specs.Document.{Doc, Text, Newline, Concat, Nest, Align, Reset, Choice, Only, Charge}
use Rattle.rf_base_document.specs.Simple.{simple, simple_newline, simple_hard, simple_concat, simple_choice}
use Rattle.rf_base_document.specs.Graph.{GraphNode, TextNode, NewlineNode, IsNode, IsGraph, NodeKeepsLimits, parts_end, StandsFor, tree_of, unfolded}
use Rattle.rf_base_document.proofs.Document.{IsOneLine-from_test}
use Rattle.rf_base_document.proofs.Graph.{unfolded-node, StandsFor-append, StandsFor-within}
use Rattle.rf_flat.specs.declared.cores.CoreNode.{CoreNode}
use Rattle.rf_flat.specs.declared.cores.CoreNode.TheVariants.{Newline as NewlineOf, Concat as ConcatOf, Nest as NestOf, Align as AlignOf, Reset as ResetOf, Choice as ChoiceOf, Only as OnlyOf, Charge as ChargeOf}
use Rattle.rf_flat.specs.declared.simple_nodes.Places.{Places}
use Rattle.rf_flat.specs.declared.simple_nodes.Made.{Made}
use Rattle.rf_flat.specs.declared.simple_nodes.Made.TheVariants.{Nothing, Older, Newer}
use Rattle.rf_flat.specs.Cores.{core_node}
use Rattle.rf_flat.specs.Places.{Placed, core_at, place_of, ArePlaced, NewStandsFor, Makes, concat_made, choice_made, newline_made, hard_made}

-- the last node of a graph
pub node_at_end : (g : List GraphNode) (node : GraphNode) → IsNode (g ++ node ∷ []) (length g) node
node_at_end [] node = refl
node_at_end (x ∷ g) node = node_at_end g node

-- what is done for the tree that a node is known to be unfolded to
pub at_node : (graph nodes : List GraphNode) (n : ℕ) (node : GraphNode) (flat : Bool) (made : Made) → IsGraph graph → IsNode graph n node →
    Makes nodes (simple (tree_of (unfolded graph) (Some node)) flat) made → Makes nodes (core_at graph n flat) made
at_node graph nodes n node flat made whole is makes =
    subst (λ (d : Doc). Makes nodes (simple d flat) made) (sym (unfolded-node graph n node whole is)) makes

-- a node of a graph keeps the limits
pub limits_of : (graph : List GraphNode) (n : ℕ) (node : GraphNode) → IsGraph graph → IsNode graph n node → NodeKeepsLimits node
unfolding IsGraph
limits_of graph n node whole is = (whole n node is).1

-- a part's place
pub part_placed : (graph nodes : List GraphNode) (places : List Places) (m : ℕ) (flat : Bool) (place : Option ℕ) → ArePlaced graph nodes places →
    m < length places → ((p : Places) → slice_get places m ≡ Some p → place ≡ place_of p flat) → Placed nodes (core_at graph m flat) place
unfolding ArePlaced
part_placed graph nodes places m flat place placed within is =
    let broken : Places = record { broken = None; flat = None } in
    let p : Places = get_or places m broken in
    let found : slice_get places m ≡ Some p = slice_get-get_or places m broken within in
    let both = placed m p found in
    subst (λ (o : Option ℕ). Placed nodes (core_at graph m flat) o) (sym (is p found))
    (elim flat as (λ (f : Bool). Placed nodes (core_at graph m f) (place_of p f)) [ true ↦ both.1 | false ↦ both.0 ])

-- what stands in a core stands there with one node more
later : (nodes : List GraphNode) (node : GraphNode) (m : ℕ) (s : Doc) → StandsFor nodes m s → StandsFor (nodes ++ node ∷ []) m s
later nodes node m s stands = StandsFor-append nodes (node ∷ []) m s stands

-- none where the part has none
pub none_made : (nodes : List GraphNode) (f : Doc → Doc) (o : Option Doc) (p : Option ℕ) → p ≡ None → Placed nodes o p → Makes nodes (option_map f o) Nothing
none_made nodes f None p is placed = tt
none_made nodes f (Some s) p is placed = subst (λ (q : Option ℕ). Placed nodes (Some s) q) is placed

pub older_made : (nodes : List GraphNode) (o : Option Doc) (p : Option ℕ) (m : ℕ) → p ≡ Some m → Placed nodes o p → Makes nodes o (Older m)
older_made nodes None p m is placed = subst (λ (q : Option ℕ). Placed nodes None q) is placed
older_made nodes (Some s) p m is placed = subst (λ (q : Option ℕ). Placed nodes (Some s) q) is placed

pub no_older_made : (nodes : List GraphNode) (o : Option Doc) (p : Option ℕ) → p ≡ None → Placed nodes o p → Makes nodes o Nothing
no_older_made nodes None p is placed = tt
no_older_made nodes (Some s) p is placed = subst (λ (q : Option ℕ). Placed nodes (Some s) q) is placed

-- a node of one part, which stands for f of what the part stands for
one_made : (nodes : List GraphNode) (node : CoreNode) (f : Doc → Doc) (m : ℕ) → parts_end (core_node node) ≡ suc m → NodeKeepsLimits (core_node node) →
    ((g : List GraphNode) (n : ℕ) (s : Doc) → IsNode g n (core_node node) → StandsFor g m s → StandsFor g n (f s)) →
    (o : Option Doc) (p : Option ℕ) → p ≡ Some m → Placed nodes o p → Makes nodes (option_map f o) (Newer node)
one_made nodes node f m end limits stands None p is placed = subst (λ (q : Option ℕ). Placed nodes None q) is placed
one_made nodes node f m end limits stands (Some s) p is placed =
    let part : StandsFor nodes m s = subst (λ (q : Option ℕ). Placed nodes (Some s) q) is placed in
    let within : m < length nodes = StandsFor-within nodes m s part in
    (omega arith, limits, stands (nodes ++ core_node node ∷ []) (length nodes) s (node_at_end nodes (core_node node)) (later nodes (core_node node) m s part))

pub nest_made : (nodes : List GraphNode) (k m : ℕ) → k ≤ 1000 → (o : Option Doc) (p : Option ℕ) → p ≡ Some m → Placed nodes o p →
    Makes nodes (option_map (Nest k) o) (Newer (NestOf k m))
unfolding StandsFor
nest_made nodes k m limits o p is placed = one_made nodes (NestOf k m) (Nest k) m refl limits (λ g n s e h. (m, e, h)) o p is placed

pub align_made : (nodes : List GraphNode) (m : ℕ) (o : Option Doc) (p : Option ℕ) → p ≡ Some m → Placed nodes o p →
    Makes nodes (option_map Align o) (Newer (AlignOf m))
unfolding StandsFor
align_made nodes m o p is placed = one_made nodes (AlignOf m) Align m refl tt (λ g n s e h. (m, e, h)) o p is placed

pub reset_made : (nodes : List GraphNode) (m : ℕ) (o : Option Doc) (p : Option ℕ) → p ≡ Some m → Placed nodes o p →
    Makes nodes (option_map Reset o) (Newer (ResetOf m))
unfolding StandsFor
reset_made nodes m o p is placed = one_made nodes (ResetOf m) Reset m refl tt (λ g n s e h. (m, e, h)) o p is placed

pub charge_made : (nodes : List GraphNode) (k m : ℕ) → k ≤ 1000 → (o : Option Doc) (p : Option ℕ) → p ≡ Some m → Placed nodes o p →
    Makes nodes (option_map (Charge k) o) (Newer (ChargeOf k m))
unfolding StandsFor
charge_made nodes k m limits o p is placed = one_made nodes (ChargeOf k m) (Charge k) m refl limits (λ g n s e h. (m, e, h)) o p is placed

only_made : (nodes : List GraphNode) (dir : Dir) (m : ℕ) (s : Doc) → StandsFor nodes m s → NewStandsFor nodes (OnlyOf dir m) (Only dir s)
unfolding StandsFor
only_made nodes dir m s part =
    one_made nodes (OnlyOf dir m) (Only dir) m refl tt (λ g n t e h. (m, e, h)) (Some s) (Some m) refl part

-- a node of two parts
two_made : (nodes : List GraphNode) (node : CoreNode) (d : Doc) (m n : ℕ) (s t : Doc) → (suc m ≤ parts_end (core_node node)) × (suc n ≤ parts_end (core_node node)) →
    ((k : ℕ) → m < k → n < k → parts_end (core_node node) ≤ k) → NodeKeepsLimits (core_node node) →
    ((g : List GraphNode) (k : ℕ) → IsNode g k (core_node node) → StandsFor g m s → StandsFor g n t → StandsFor g k d) →
    StandsFor nodes m s → StandsFor nodes n t → NewStandsFor nodes node d
two_made nodes node d m n s t ends most limits stands first second = (
  most (length nodes) (StandsFor-within nodes m s first) (StandsFor-within nodes n t second),
  limits,
  stands (nodes ++ core_node node ∷ []) (length nodes) (node_at_end nodes (core_node node)) (later nodes (core_node node) m s first)
      (later nodes (core_node node) n t second),
)

concat_both : (nodes : List GraphNode) (m n : ℕ) (s t : Doc) → StandsFor nodes m s → StandsFor nodes n t → NewStandsFor nodes (ConcatOf m n) (Concat s t)
unfolding StandsFor
concat_both nodes m n s t first second =
    two_made nodes (ConcatOf m n) (Concat s t) m n s t (omega arith, omega arith) (λ k p q. omega arith) tt (λ g k e h i. (m, n, e, h, i)) first second

choice_both : (nodes : List GraphNode) (m n : ℕ) (s t : Doc) → StandsFor nodes m s → StandsFor nodes n t → NewStandsFor nodes (ChoiceOf m n) (Choice s t)
unfolding StandsFor
choice_both nodes m n s t first second =
    two_made nodes (ChoiceOf m n) (Choice s t) m n s t (omega arith, omega arith) (λ k p q. omega arith) tt (λ g k e h i. (m, n, e, h, i)) first second

concat_cases : (nodes : List GraphNode) (o r : Option Doc) (p q : Option ℕ) → Placed nodes o p → Placed nodes r q →
    Makes nodes (simple_concat o r) (concat_made p q)
concat_cases nodes None r (Some m) q h k = absurd h
concat_cases nodes (Some s) r None q h k = absurd h
concat_cases nodes (Some s) None (Some m) (Some n) h k = absurd k
concat_cases nodes (Some s) (Some t) (Some m) None h k = absurd k
concat_cases nodes (Some s) (Some t) (Some m) (Some n) h k = concat_both nodes m n s t h k
concat_cases nodes _ _ _ _ h k = tt

choice_cases : (nodes : List GraphNode) (o r : Option Doc) (p q : Option ℕ) → Placed nodes o p → Placed nodes r q →
    Makes nodes (simple_choice o r) (choice_made p q)
choice_cases nodes None None None None h k = tt
choice_cases nodes None r (Some m) q h k = absurd h
choice_cases nodes None (Some t) None (Some n) h k = only_made nodes Right n t k
choice_cases nodes (Some s) r None q h k = absurd h
choice_cases nodes (Some s) None (Some m) None h k = only_made nodes Left m s h
choice_cases nodes (Some s) (Some t) (Some m) (Some n) h k = choice_both nodes m n s t h k
choice_cases nodes _ _ _ _ h k = absurd k

pub concat_is_made : (nodes : List GraphNode) (o r : Option Doc) (p q : Option ℕ) (made : Made) → made ≡ concat_made p q → Placed nodes o p → Placed nodes r q →
    Makes nodes (simple_concat o r) made
concat_is_made nodes o r p q made is h k = subst (λ (m : Made). Makes nodes (simple_concat o r) m) (sym is) (concat_cases nodes o r p q h k)

pub choice_is_made : (nodes : List GraphNode) (o r : Option Doc) (p q : Option ℕ) (made : Made) → made ≡ choice_made p q → Placed nodes o p → Placed nodes r q →
    Makes nodes (simple_choice o r) made
choice_is_made nodes o r p q made is h k = subst (λ (m : Made). Makes nodes (simple_choice o r) m) (sym is) (choice_cases nodes o r p q h k)

-- texts and newlines
pub text_made : (nodes : List GraphNode) (node : CoreNode) (s : List ℕ) (len : ℕ) → core_node node ≡ TextNode s len → NodeKeepsLimits (TextNode s len) →
    Makes nodes (Some (Text s len)) (Newer node)
unfolding StandsFor
text_made nodes node s len is limits = (
  subst (λ (x : GraphNode). parts_end x ≤ length nodes) (sym is) (omega arith),
  subst (λ (x : GraphNode). NodeKeepsLimits x) (sym is) limits,
  subst (λ (x : GraphNode). IsNode (nodes ++ x ∷ []) (length nodes) (TextNode s len)) (sym is) (node_at_end nodes (TextNode s len)),
)

break_made : (nodes : List GraphNode) (node : CoreNode) → core_node node ≡ NewlineNode → Makes nodes (Some Newline) (Newer node)
unfolding StandsFor
break_made nodes node is = (
  subst (λ (x : GraphNode). parts_end x ≤ length nodes) (sym is) (omega arith),
  subst (λ (x : GraphNode). NodeKeepsLimits x) (sym is) tt,
  subst (λ (x : GraphNode). IsNode (nodes ++ x ∷ []) (length nodes) NewlineNode) (sym is) (node_at_end nodes NewlineNode),
)

space_limits : NodeKeepsLimits (TextNode (32 ∷ []) 1)
space_limits = (IsOneLine-from_test (32 ∷ []) refl, omega arith)

pub newline_is_made : (nodes : List GraphNode) (flat : Bool) (node : CoreNode) → core_node node ≡ newline_made flat →
    Makes nodes (Some (simple_newline flat)) (Newer node)
newline_is_made nodes true node is = text_made nodes node (32 ∷ []) 1 is space_limits
newline_is_made nodes false node is = break_made nodes node is

hard_cases : (nodes : List GraphNode) (flat : Bool) → Makes nodes (simple_hard flat) (hard_made flat)
hard_cases nodes true = tt
hard_cases nodes false = break_made nodes NewlineOf refl

pub hard_is_made : (nodes : List GraphNode) (flat : Bool) (made : Made) → made ≡ hard_made flat → Makes nodes (simple_hard flat) made
hard_is_made nodes flat made is = subst (λ (m : Made). Makes nodes (simple_hard flat) m) (sym is) (hard_cases nodes flat)
