-- A node stands for one document, and keeps it when nodes are added at the end.
use Rattle.std.proofs.Common.{◌≡◌, ℕ, zero, suc, ◌<◌, ◌≤◌, List, [], ◌∷◌, ◌++◌, length, take, drop, get_or, refl, sym, ap, subst, ◌⊎◌, inl, inr, Option, None, Some, slice_get, arith}
use Rattle.std.proofs.lemmas.Option.{slice_get-get_or, slice_get_within, slice_get_past}
use Rattle.std.proofs.lemmas.Bool.{cases_lt}
use Rattle.rf_base_document.specs.Document.{Doc, plain_text, Text, Newline, Hard, Concat, Nest, Align, Reset, Flatten, Choice, Only, Charge, IsDocument}
use Rattle.rf_base_document.specs.Graph.{GraphNode, TextNode, NewlineNode, HardNode, ConcatNode, NestNode, AlignNode, ResetNode, FlattenNode, ChoiceNode, OnlyNode, ChargeNode, IsNode, parts_end, NodeKeepsLimits, IsGraph, StandsFor, EachStandsFor, tree_of, unfolded_to, unfolded}

pub slice_get-append : {A : Type 0} (xs ys : List A) (k : ℕ) (x : A) → slice_get xs k ≡ Some x →
    slice_get (xs ++ ys) k ≡ Some x
slice_get-append [] ys k x e = cc
slice_get-append (a ∷ xs) ys zero x e = e
slice_get-append (a ∷ xs) ys (suc k) x e = slice_get-append xs ys k x e

pub StandsFor-append : (g more : List GraphNode) (n : ℕ) (d : Doc) → StandsFor g n d → StandsFor (g ++ more) n d
unfolding StandsFor
StandsFor-append g more n (Concat a b) h =
    (h.0, h.1, slice_get-append g more n _ h.2, StandsFor-append g more h.0 a h.3, StandsFor-append g more h.1 b h.4)
StandsFor-append g more n (Nest k a) h = (h.0, slice_get-append g more n _ h.1, StandsFor-append g more h.0 a h.2)
StandsFor-append g more n (Align a) h = (h.0, slice_get-append g more n _ h.1, StandsFor-append g more h.0 a h.2)
StandsFor-append g more n (Reset a) h = (h.0, slice_get-append g more n _ h.1, StandsFor-append g more h.0 a h.2)
StandsFor-append g more n (Flatten a) h = (h.0, slice_get-append g more n _ h.1, StandsFor-append g more h.0 a h.2)
StandsFor-append g more n (Choice a b) h =
    (h.0, h.1, slice_get-append g more n _ h.2, StandsFor-append g more h.0 a h.3, StandsFor-append g more h.1 b h.4)
StandsFor-append g more n (Only dir a) h = (h.0, slice_get-append g more n _ h.1, StandsFor-append g more h.0 a h.2)
StandsFor-append g more n (Charge k a) h = (h.0, slice_get-append g more n _ h.1, StandsFor-append g more h.0 a h.2)
StandsFor-append g more n _ h = slice_get-append g more n _ h

-- what node x stands for, node y stands for where it is the same
at_same : (g : List GraphNode) (x y : ℕ) (d : Doc) → x ≡ y → StandsFor g y d → StandsFor g x d
at_same g x y d e h = subst (λ k. StandsFor g k d) (sym e) h

pub StandsFor-one : (g : List GraphNode) (n : ℕ) (d e : Doc) → StandsFor g n d → StandsFor g n e → d ≡ e
unfolding StandsFor
StandsFor-one g n (Text s len) (Text t len') p q = cc
StandsFor-one g n (Text s len) _ p q = cc
StandsFor-one g n Newline Newline p q = refl
StandsFor-one g n Newline _ p q = cc
StandsFor-one g n Hard Hard p q = refl
StandsFor-one g n Hard _ p q = cc
StandsFor-one g n (Concat a b) (Concat a' b') p q =
    let left : p.0 ≡ q.0 = cc in
    let right : p.1 ≡ q.1 = cc in
    let same_left : a ≡ a' = StandsFor-one g p.0 a a' p.3 (at_same g p.0 q.0 a' left q.3) in
    let same_right : b ≡ b' = StandsFor-one g p.1 b b' p.4 (at_same g p.1 q.1 b' right q.4) in
    cc
StandsFor-one g n (Concat a b) _ p q = cc
StandsFor-one g n (Nest k a) (Nest k' a') p q =
    let part : p.0 ≡ q.0 = cc in
    let same : a ≡ a' = StandsFor-one g p.0 a a' p.2 (at_same g p.0 q.0 a' part q.2) in
    cc
StandsFor-one g n (Nest k a) _ p q = cc
StandsFor-one g n (Align a) (Align a') p q =
    let part : p.0 ≡ q.0 = cc in ap Align (StandsFor-one g p.0 a a' p.2 (at_same g p.0 q.0 a' part q.2))
StandsFor-one g n (Align a) _ p q = cc
StandsFor-one g n (Reset a) (Reset a') p q =
    let part : p.0 ≡ q.0 = cc in ap Reset (StandsFor-one g p.0 a a' p.2 (at_same g p.0 q.0 a' part q.2))
StandsFor-one g n (Reset a) _ p q = cc
StandsFor-one g n (Flatten a) (Flatten a') p q =
    let part : p.0 ≡ q.0 = cc in ap Flatten (StandsFor-one g p.0 a a' p.2 (at_same g p.0 q.0 a' part q.2))
StandsFor-one g n (Flatten a) _ p q = cc
StandsFor-one g n (Choice a b) (Choice a' b') p q =
    let left : p.0 ≡ q.0 = cc in
    let right : p.1 ≡ q.1 = cc in
    let same_left : a ≡ a' = StandsFor-one g p.0 a a' p.3 (at_same g p.0 q.0 a' left q.3) in
    let same_right : b ≡ b' = StandsFor-one g p.1 b b' p.4 (at_same g p.1 q.1 b' right q.4) in
    cc
StandsFor-one g n (Choice a b) _ p q = cc
StandsFor-one g n (Only dir a) (Only dir' a') p q =
    let part : p.0 ≡ q.0 = cc in
    let same : a ≡ a' = StandsFor-one g p.0 a a' p.2 (at_same g p.0 q.0 a' part q.2) in
    cc
StandsFor-one g n (Only dir a) _ p q = cc
StandsFor-one g n (Charge k a) (Charge k' a') p q =
    let part : p.0 ≡ q.0 = cc in
    let same : a ≡ a' = StandsFor-one g p.0 a a' p.2 (at_same g p.0 q.0 a' part q.2) in
    cc
StandsFor-one g n (Charge k a) _ p q = cc

-- a node of a longer graph is one of the graph's, or the one that was added
pub slice_get-added : {A : Type 0} (xs : List A) (y : A) (k : ℕ) (x : A) → slice_get (xs ++ y ∷ []) k ≡ Some x →
    (slice_get xs k ≡ Some x) ⊎ ((k ≡ length xs) × (y ≡ x))
slice_get-added [] y zero x e = inr (refl, cc)
slice_get-added [] y (suc k) x e = cc
slice_get-added (a ∷ xs) y zero x e = inl e
slice_get-added (a ∷ xs) y (suc k) x e =
    elim (slice_get-added xs y k x e) [ inl h ↦ inl h | inr h ↦ inr (ap suc h.0, h.1) ]

pub IsGraph-added : (g : List GraphNode) (node : GraphNode) → IsGraph g → parts_end node ≤ length g →
    NodeKeepsLimits node → IsGraph (g ++ node ∷ [])
unfolding IsGraph
IsGraph-added g node whole below limits n other e =
    elim (slice_get-added g node n other e) [
      | inl h ↦ whole n other h
      | inr h ↦ subst (λ (m : ℕ). (parts_end other ≤ m) × NodeKeepsLimits other) (sym h.0)
          (subst (λ (o : GraphNode). (parts_end o ≤ length g) × NodeKeepsLimits o) h.1 (below, limits))
    ]

-- what a node stands for where its parts stand for documents
abbrev Stands : List GraphNode → ℕ → Type 0
Stands g n = (d : Doc) × StandsFor g n d × IsDocument d

-- a node with one part, and with two
node_of_parts : (g : List GraphNode) (n : ℕ) (node : GraphNode) → IsNode g n node →
    ((m : ℕ) → m < n → Stands g m) → parts_end node ≤ n → NodeKeepsLimits node → Stands g n
unfolding StandsFor IsDocument
node_of_parts g n (TextNode s len) e parts below limits = (Text s len, e, limits)
node_of_parts g n NewlineNode e parts below limits = (Newline, e, tt)
node_of_parts g n HardNode e parts below limits = (Hard, e, tt)
node_of_parts g n (ConcatNode a b) e parts below limits =
    let left = parts a (omega arith) in
    let right = parts b (omega arith) in
    (Concat left.0 right.0, (a, b, e, left.1, right.1), (left.2, right.2))
node_of_parts g n (NestNode k a) e parts below limits =
    let part = parts a (omega arith) in (Nest k part.0, (a, e, part.1), (limits, part.2))
node_of_parts g n (AlignNode a) e parts below limits =
    let part = parts a (omega arith) in (Align part.0, (a, e, part.1), part.2)
node_of_parts g n (ResetNode a) e parts below limits =
    let part = parts a (omega arith) in (Reset part.0, (a, e, part.1), part.2)
node_of_parts g n (FlattenNode a) e parts below limits =
    let part = parts a (omega arith) in (Flatten part.0, (a, e, part.1), part.2)
node_of_parts g n (ChoiceNode a b) e parts below limits =
    let left = parts a (omega arith) in
    let right = parts b (omega arith) in
    (Choice left.0 right.0, (a, b, e, left.1, right.1), (left.2, right.2))
node_of_parts g n (OnlyNode dir a) e parts below limits =
    let part = parts a (omega arith) in (Only dir part.0, (a, e, part.1), part.2)
node_of_parts g n (ChargeNode k a) e parts below limits =
    let part = parts a (omega arith) in (Charge k part.0, (a, e, part.1), (limits, part.2))

-- each node below a bound stands for a document
stands_below : (g : List GraphNode) → IsGraph g → (bound n : ℕ) → n < bound → n < length g → Stands g n
unfolding IsGraph
stands_below g whole zero n below within = absurd (omega arith)
stands_below g whole (suc bound) n below within =
    let e = slice_get-get_or g n NewlineNode within in
    let node : GraphNode = get_or g n NewlineNode in
    node_of_parts g n node e
    (λ m less. stands_below g whole bound m (omega arith) (omega arith))
    (whole n node e).0 (whole n node e).1

pub StandsFor-some : (g : List GraphNode) (n : ℕ) → IsGraph g → n < length g →
    (d : Doc) × StandsFor g n d × IsDocument d
StandsFor-some g n whole within = stands_below g whole (suc n) n (omega arith) within

-- the tree of a node of which each part's tree is what it stands for
tree_stands : (g : List GraphNode) (n : ℕ) (f : ℕ → Doc) (node : GraphNode) → IsNode g n node →
    ((m : ℕ) → m < n → StandsFor g m (f m)) → parts_end node ≤ n → StandsFor g n (tree_of f (Some node))
unfolding StandsFor
tree_stands g n f (ConcatNode a b) e parts below = (a, b, e, parts a (omega arith), parts b (omega arith))
tree_stands g n f (NestNode k a) e parts below = (a, e, parts a (omega arith))
tree_stands g n f (AlignNode a) e parts below = (a, e, parts a (omega arith))
tree_stands g n f (ResetNode a) e parts below = (a, e, parts a (omega arith))
tree_stands g n f (FlattenNode a) e parts below = (a, e, parts a (omega arith))
tree_stands g n f (ChoiceNode a b) e parts below = (a, b, e, parts a (omega arith), parts b (omega arith))
tree_stands g n f (OnlyNode dir a) e parts below = (a, e, parts a (omega arith))
tree_stands g n f (ChargeNode k a) e parts below = (a, e, parts a (omega arith))
tree_stands g n f _ e parts below = e

unfolded_to_stands : (g : List GraphNode) → IsGraph g → (depth n : ℕ) → n < depth → n < length g →
    StandsFor g n (unfolded_to depth g n)
unfolding IsGraph unfolded_to
unfolded_to_stands g whole zero n below within = absurd (omega arith)
unfolded_to_stands g whole (suc depth) n below within =
    let e = slice_get-get_or g n NewlineNode within in
    let node : GraphNode = get_or g n NewlineNode in
    subst (λ (o : Option GraphNode). StandsFor g n (tree_of (unfolded_to depth g) o)) (sym e)
    (tree_stands g n (unfolded_to depth g) node e
    (λ m less. unfolded_to_stands g whole depth m (omega arith) (omega arith)) (whole n node e).0)

pub StandsFor-unfolded : (g : List GraphNode) (n : ℕ) → IsGraph g → n < length g → StandsFor g n (unfolded g n)
unfolding unfolded
StandsFor-unfolded g n whole within = unfolded_to_stands g whole (suc n) n (omega arith) within

-- a node that stands for something is a node of the graph
pub StandsFor-within : (g : List GraphNode) (n : ℕ) (d : Doc) → StandsFor g n d → n < length g
unfolding StandsFor
StandsFor-within g n (Text s len) h = slice_get_within g n _ h
StandsFor-within g n Newline h = slice_get_within g n _ h
StandsFor-within g n Hard h = slice_get_within g n _ h
StandsFor-within g n (Concat a b) h = slice_get_within g n _ h.2
StandsFor-within g n (Choice a b) h = slice_get_within g n _ h.2
StandsFor-within g n _ h = slice_get_within g n _ h.1

pub StandsFor-documents : (g : List GraphNode) (n : ℕ) (d : Doc) → IsGraph g → StandsFor g n d → IsDocument d
StandsFor-documents g n d whole h =
    let found = StandsFor-some g n whole (StandsFor-within g n d h) in
    subst (λ (e : Doc). IsDocument e) (StandsFor-one g n found.0 d found.1 h) found.2

-- what a node stands for: one document and no other, also once nodes are added
pub ruleset stands = (StandsFor-one, StandsFor-unfolded, StandsFor-documents, StandsFor-append)

-- as many documents as nodes, and so for the first parts and the rest
pub EachStandsFor-length : (g : List GraphNode) (ns : List ℕ) (ds : List Doc) → EachStandsFor g ns ds →
    length ds ≡ length ns
unfolding EachStandsFor
EachStandsFor-length g [] [] h = refl
EachStandsFor-length g [] (d ∷ ds) h = absurd h
EachStandsFor-length g (n ∷ ns) [] h = absurd h
EachStandsFor-length g (n ∷ ns) (d ∷ ds) h = ap suc (EachStandsFor-length g ns ds h.1)

pub EachStandsFor-take : (g : List GraphNode) (k : ℕ) (ns : List ℕ) (ds : List Doc) → EachStandsFor g ns ds →
    EachStandsFor g (take k ns) (take k ds)
unfolding EachStandsFor
EachStandsFor-take g zero ns ds h = tt
EachStandsFor-take g (suc k) [] [] h = h
EachStandsFor-take g (suc k) [] (d ∷ ds) h = absurd h
EachStandsFor-take g (suc k) (n ∷ ns) [] h = absurd h
EachStandsFor-take g (suc k) (n ∷ ns) (d ∷ ds) h = (h.0, EachStandsFor-take g k ns ds h.1)

pub EachStandsFor-drop : (g : List GraphNode) (k : ℕ) (ns : List ℕ) (ds : List Doc) → EachStandsFor g ns ds →
    EachStandsFor g (drop k ns) (drop k ds)
unfolding EachStandsFor
EachStandsFor-drop g zero ns ds h = h
EachStandsFor-drop g (suc k) [] [] h = h
EachStandsFor-drop g (suc k) [] (d ∷ ds) h = absurd h
EachStandsFor-drop g (suc k) (n ∷ ns) [] h = absurd h
EachStandsFor-drop g (suc k) (n ∷ ns) (d ∷ ds) h = EachStandsFor-drop g k ns ds h.1

-- documents are kept where each node's is
pub EachStandsFor-kept : (g h : List GraphNode) → ((n : ℕ) (d : Doc) → StandsFor g n d → StandsFor h n d) →
    (ns : List ℕ) (ds : List Doc) → EachStandsFor g ns ds → EachStandsFor h ns ds
unfolding EachStandsFor
EachStandsFor-kept g h keep [] [] e = e
EachStandsFor-kept g h keep [] (d ∷ ds) e = e
EachStandsFor-kept g h keep (n ∷ ns) [] e = e
EachStandsFor-kept g h keep (n ∷ ns) (d ∷ ds) e = (keep n d e.0, EachStandsFor-kept g h keep ns ds e.1)

-- a node unfolded is the one document that it stands for
pub unfolded-is : (g : List GraphNode) (n : ℕ) (d : Doc) → IsGraph g → StandsFor g n d → unfolded g n ≡ d
unfolded-is g n d whole h =
    StandsFor-one g n (unfolded g n) d (StandsFor-unfolded g n whole (StandsFor-within g n d h)) h

-- what a node is unfolded to, by its kind
pub unfolded-node : (g : List GraphNode) (n : ℕ) (node : GraphNode) → IsGraph g → IsNode g n node →
    unfolded g n ≡ tree_of (unfolded g) (Some node)
unfolding IsGraph
unfolded-node g n node whole e =
    let within : n < length g = slice_get_within g n node e in
    unfolded-is g n (tree_of (unfolded g) (Some node)) whole
    (tree_stands g n (unfolded g) node e (λ m less. StandsFor-unfolded g m whole (omega arith)) (whole n node e).0)

-- the parts of a node are nodes of the graph before it
pub parts_come_first : (g : List GraphNode) (n : ℕ) (node : GraphNode) → IsGraph g → IsNode g n node →
    parts_end node ≤ n
unfolding IsGraph
parts_come_first g n node whole e = (whole n node e).0

pub parts_before : (g : List GraphNode) (n : ℕ) (node : GraphNode) → IsGraph g → IsNode g n node →
    (parts_end node ≤ n) × (n < length g)
unfolding IsGraph
parts_before g n node whole e = ((whole n node e).0, slice_get_within g n node e)

pub unfolded_past : (g : List GraphNode) (n : ℕ) → length g ≤ n → unfolded g n ≡ plain_text []
unfolding unfolded unfolded_to
unfolded_past g n p = ap (λ (o : Option GraphNode). tree_of (unfolded_to n g) o) (slice_get_past g n p)

-- what a number is unfolded to keeps the limits
nothing_document : IsDocument (plain_text [])
unfolding IsDocument
nothing_document = (λ h. absurd (omega (arith, h.1)), omega arith)

pub unfolded_document : (g : List GraphNode) (n : ℕ) → IsGraph g → IsDocument (unfolded g n)
unfolded_document g n whole =
    elim (cases_lt n (length g)) [
      | inl less ↦ StandsFor-documents g n (unfolded g n) whole (StandsFor-unfolded g n whole less)
      | inr past ↦ subst (λ (d : Doc). IsDocument d) (sym (unfolded_past g n past)) nothing_document
    ]
