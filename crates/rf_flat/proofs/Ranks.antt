-- New numbers of marked nodes, and the graph of those alone.
use Rattle.std.proofs.Common.{◌≡◌, ℕ, zero, suc, ◌+◌, ◌-◌, ◌<◌, ◌≤◌, inl, inr, Bool, true, false, List, [], ◌∷◌, ◌++◌, length, get_or, slice_index, ap, sym, subst, ◌∙◌, refl, length-append, arith}
use Rattle.std.proofs.lemmas.Bool.{cases_lt}
use Rattle.std.proofs.lemmas.List.{get_or_append_left}
use Rattle.std.proofs.Math.Seq.{get_or-append_seam}
use Rattle.rf_base_document.specs.Document.{Doc, Concat, Nest, Align, Reset, Flatten, Choice, Only, Charge}
use Rattle.rf_base_document.specs.Graph.{GraphNode, TextNode, NewlineNode, HardNode, ConcatNode, NestNode, AlignNode, ResetNode, FlattenNode, ChoiceNode, OnlyNode, ChargeNode, IsNode, IsGraph, NodeKeepsLimits, parts_end, StandsFor}
use Rattle.rf_base_document.proofs.Graph.{slice_get-append, IsGraph-added}
use Rattle.rf_flat.specs.Cores.{IsPart, core_graph, RootReachesAll}
use Rattle.rf_flat.specs.Reached.{IsMarked, MarkedDownTo}
use Rattle.rf_flat.specs.Kept.{mark_count, rank, with_parts, KeptUpTo}
use Rattle.rf_flat.proofs.Marks.{part_before, marked_within, same_node}
use Rattle.rf_flat.proofs.Making.{node_at_end, limits_of}

-- one node more
rank_marked : (marks : List Bool) (n : ℕ) → IsMarked marks n → rank marks (suc n) ≡ rank marks n + 1
unfolding rank
rank_marked marks n marked = ap (λ b. rank marks n + mark_count b) marked

rank_unmarked : (marks : List Bool) (n : ℕ) → get_or marks n false ≡ false → rank marks (suc n) ≡ rank marks n
unfolding rank
rank_unmarked marks n none = let e : rank marks n + mark_count (get_or marks n false) ≡ rank marks n + 0 = ap (λ b. rank marks n + mark_count b) none in omega (arith, e)

next_marked : (marks : List Bool) (n : ℕ) → IsMarked marks n → rank marks (n + 1) ≡ rank marks n + 1
next_marked marks n marked = let e : n + 1 ≡ suc n = omega arith in ap (rank marks) e ∙ rank_marked marks n marked

next_unmarked : (marks : List Bool) (n : ℕ) → get_or marks n false ≡ false → rank marks (n + 1) ≡ rank marks n
next_unmarked marks n none = let e : n + 1 ≡ suc n = omega arith in ap (rank marks) e ∙ rank_unmarked marks n none

rank_step : (marks : List Bool) (n : ℕ) → rank marks n ≤ rank marks (suc n)
unfolding rank
rank_step marks n = omega arith

rank_le : (marks : List Bool) (k n : ℕ) → k ≤ n → rank marks k ≤ rank marks n
rank_le marks k zero h = let e : k ≡ zero = omega arith in omega (arith, ap (rank marks) e)
rank_le marks k (suc n) h =
    elim (cases_lt k (suc n)) [
      | inl less ↦ omega (arith, rank_le marks k n (omega arith), rank_step marks n)
      | inr le ↦ let e : k ≡ suc n = omega arith in omega (arith, ap (rank marks) e)
    ]

-- a marked node's new number is below those of later ones
pub rank_less : (marks : List Bool) (k n : ℕ) → k < n → IsMarked marks k → rank marks k < rank marks n
rank_less marks k n less marked = omega (arith, rank_marked marks k marked, rank_le marks (suc k) n (omega arith))

pub rank_most : (marks : List Bool) (n : ℕ) → rank marks n ≤ n
unfolding rank
rank_most marks zero = omega arith
rank_most marks (suc n) =
    elim (get_or marks n false) as (λ b. rank marks n + mark_count b ≤ suc n) [
      | true ↦ omega (arith, rank_most marks n)
      | false ↦ omega (arith, rank_most marks n)
    ]

-- each number below the count is that of a marked node
pub rank_onto : (marks : List Bool) (n m : ℕ) → m < rank marks n → (k : ℕ) × (k < n) × IsMarked marks k × (rank marks k ≡ m)
unfolding rank
rank_onto marks zero m h = absurd (omega arith)
rank_onto marks (suc n) m h =
    elim (cases_lt m (rank marks n)) [
      | inl less ↦ let found = rank_onto marks n m less in (found.0, omega arith, found.2, found.3)
      | inr le ↦ last (get_or marks n false) refl le h
    ]
  where
    last : (b : Bool) → get_or marks n false ≡ b → rank marks n ≤ m → m < rank marks n + mark_count b →
        (k : ℕ) × (k < suc n) × IsMarked marks k × (rank marks k ≡ m)
    last true e le h = (n, omega arith, e, omega arith)
    last false e le h = absurd (omega arith)

-- the same parts give the same node
with_same_parts : (f g : ℕ → ℕ) (node : GraphNode) → ((k : ℕ) → IsPart node k → f k ≡ g k) → with_parts f node ≡ with_parts g node
with_same_parts f g (ConcatNode a b) same = let p = same a (inl refl) in let q = same b (inr refl) in cc
with_same_parts f g (NestNode k a) same = ap (NestNode k) (same a refl)
with_same_parts f g (AlignNode a) same = ap AlignNode (same a refl)
with_same_parts f g (ResetNode a) same = ap ResetNode (same a refl)
with_same_parts f g (FlattenNode a) same = ap FlattenNode (same a refl)
with_same_parts f g (ChoiceNode a b) same = let p = same a (inl refl) in let q = same b (inr refl) in cc
with_same_parts f g (OnlyNode dir a) same = ap (OnlyNode dir) (same a refl)
with_same_parts f g (ChargeNode k a) same = ap (ChargeNode k) (same a refl)
with_same_parts f g _ same = refl

-- the parts of a node with new parts end before n where each new part does
with_parts_end : (f : ℕ → ℕ) (node : GraphNode) (n : ℕ) → ((k : ℕ) → IsPart node k → f k < n) → parts_end (with_parts f node) ≤ n
with_parts_end f (ConcatNode a b) n below = omega (arith, below a (inl refl), below b (inr refl))
with_parts_end f (NestNode k a) n below = omega (arith, below a refl)
with_parts_end f (AlignNode a) n below = omega (arith, below a refl)
with_parts_end f (ResetNode a) n below = omega (arith, below a refl)
with_parts_end f (FlattenNode a) n below = omega (arith, below a refl)
with_parts_end f (ChoiceNode a b) n below = omega (arith, below a (inl refl), below b (inr refl))
with_parts_end f (OnlyNode dir a) n below = omega (arith, below a refl)
with_parts_end f (ChargeNode k a) n below = omega (arith, below a refl)
with_parts_end f _ n below = omega arith

with_parts_limits : (f : ℕ → ℕ) (node : GraphNode) → NodeKeepsLimits node → NodeKeepsLimits (with_parts f node)
with_parts_limits f (TextNode s len) h = h
with_parts_limits f _ h = h

-- a part's new number is a part of the node with new numbers
part_renamed : (f : ℕ → ℕ) (node : GraphNode) (k : ℕ) → IsPart node k → IsPart (with_parts f node) (f k)
part_renamed f (TextNode s len) k h = absurd h
part_renamed f NewlineNode k h = absurd h
part_renamed f HardNode k h = absurd h
part_renamed f (ConcatNode a b) k h = elim h [ inl e ↦ inl (ap f e) | inr e ↦ inr (ap f e) ]
part_renamed f (ChoiceNode a b) k h = elim h [ inl e ↦ inl (ap f e) | inr e ↦ inr (ap f e) ]
part_renamed f _ k h = ap f h

-- nothing is kept yet
pub none_kept : (graph : List GraphNode) (marks : List Bool) (places : List ℕ) (kept : List GraphNode) → places ≡ [] → kept ≡ [] → KeptUpTo graph marks 0 places kept
unfolding rank IsGraph
none_kept graph marks places kept no_place none = record {
  count = ap (λ (l : List ℕ). length l) no_place;
  placed = λ k less. absurd (omega arith);
  size = ap (λ (l : List GraphNode). length l) none;
  nodes = λ k node less marked is. absurd (omega arith);
  is_graph = subst (λ (g : List GraphNode). IsGraph g) (sym none) (λ n node found. cc);
}

-- places with that of one node more
more_places : (marks : List Bool) (n m : ℕ) (places places' : List ℕ) → length places ≡ n → ((k : ℕ) → k < n → slice_index places k ≡ rank marks k) →
    places' ≡ places ++ m ∷ [] → m ≡ rank marks n → (k : ℕ) → k < n + 1 → slice_index places' k ≡ rank marks k
more_places marks n m places places' count placed is place k less =
    elim (cases_lt k n) [
      | inl before ↦ ap (λ (l : List ℕ). slice_index l k) is ∙ get_or_append_left places (m ∷ []) 0 k (omega arith) ∙ placed k before
      | inr le ↦
          let last : k ≡ length places = omega arith in
          let same : n ≡ k = omega arith in
          ap (λ (l : List ℕ). slice_index l k) is ∙ ap (λ j. slice_index (places ++ m ∷ []) j) last ∙ get_or-append_seam places m [] 0
          ∙ place ∙ ap (rank marks) same
    ]

one_place_more : (places places' : List ℕ) (m n : ℕ) → places' ≡ places ++ m ∷ [] → length places ≡ n → length places' ≡ n + 1
one_place_more places places' m n is count = ap (λ (l : List ℕ). length l) is ∙ omega (arith, length-append places (m ∷ []), count)

-- a marked node is kept
pub one_kept : (graph : List GraphNode) (marks : List Bool) (root n m : ℕ) (node new : GraphNode) (places places' : List ℕ) (kept kept' : List GraphNode) →
    IsGraph graph → MarkedDownTo graph root 0 marks → KeptUpTo graph marks n places kept → IsMarked marks n → IsNode graph n node →
    places' ≡ places ++ m ∷ [] → m ≡ length kept → new ≡ with_parts (λ k. slice_index places' k) node → kept' ≡ kept ++ new ∷ [] →
    KeptUpTo graph marks (n + 1) places' kept'
one_kept graph marks root n m node new places places' kept kept' whole marked so_far here is places_are place new_is kept_is =
    let placed : (k : ℕ) → k < n + 1 → slice_index places' k ≡ rank marks k =
    more_places marks n m places places' so_far.count so_far.placed places_are (place ∙ so_far.size) in
    let renamed : new ≡ with_parts (rank marks) node =
    new_is ∙ with_same_parts (λ k. slice_index places' k) (rank marks) node (λ k part. placed k (omega (arith, part_before graph n k node whole is part))) in
    let below : (k : ℕ) → IsPart node k → rank marks k < length kept =
    λ k part. omega (arith, so_far.size, rank_less marks k n (part_before graph n k node whole is part) (marked.closed n k node (omega arith) here is part)) in
    let grown : kept' ≡ kept ++ with_parts (rank marks) node ∷ [] = kept_is ∙ ap (λ (x : GraphNode). kept ++ x ∷ []) renamed in
    let one : rank marks (n + 1) ≡ rank marks n + 1 = next_marked marks n here in
    record {
      count = one_place_more places places' m n places_are so_far.count;
      placed = placed;
      size = omega (arith, ap (λ (l : List GraphNode). length l) grown, length-append kept (with_parts (rank marks) node ∷ []), so_far.size, one);
      nodes = λ k node' less marked' is'.
          elim (cases_lt k n) [
            | inl before ↦
                subst (λ (g : List GraphNode). IsNode g (rank marks k) (with_parts (rank marks) node')) (sym grown)
                (slice_get-append kept (with_parts (rank marks) node ∷ []) (rank marks k) _ (so_far.nodes k node' before marked' is'))
            | inr le ↦
                let same : k ≡ n = omega arith in
                let known : node' ≡ node = same_node graph n node' node (subst (λ (j : ℕ). IsNode graph j node') same is') is in
                let end : rank marks k ≡ length kept = ap (rank marks) same ∙ sym so_far.size in
                subst (λ (g : List GraphNode). IsNode g (rank marks k) (with_parts (rank marks) node')) (sym grown)
                (subst (λ (x : GraphNode). IsNode (kept ++ with_parts (rank marks) node ∷ []) (rank marks k) (with_parts (rank marks) x)) (sym known)
                (subst (λ (j : ℕ). IsNode (kept ++ with_parts (rank marks) node ∷ []) j (with_parts (rank marks) node)) (sym end)
                (node_at_end kept (with_parts (rank marks) node))))
          ];
      is_graph = subst (λ (g : List GraphNode). IsGraph g) (sym grown)
          (IsGraph-added kept (with_parts (rank marks) node) so_far.is_graph (with_parts_end (rank marks) node (length kept) below)
          (with_parts_limits (rank marks) node (limits_of graph n node whole is)));
    }

-- a node without a mark isn't
pub none_more_kept : (graph : List GraphNode) (marks : List Bool) (n m : ℕ) (places places' : List ℕ) (kept : List GraphNode) →
    KeptUpTo graph marks n places kept → get_or marks n false ≡ false → places' ≡ places ++ m ∷ [] → m ≡ length kept →
    KeptUpTo graph marks (n + 1) places' kept
none_more_kept graph marks n m places places' kept so_far none places_are place =
    let same : rank marks (n + 1) ≡ rank marks n = next_unmarked marks n none in
    record {
      count = one_place_more places places' m n places_are so_far.count;
      placed = more_places marks n m places places' so_far.count so_far.placed places_are (place ∙ so_far.size);
      size = so_far.size ∙ sym same;
      nodes = λ k node less marked is.
          elim (cases_lt k n) [
            | inl before ↦ so_far.nodes k node before marked is
            | inr le ↦
                let last : k ≡ n = omega arith in
                let two : true ≡ false = sym marked ∙ ap (λ j. get_or marks j false) last ∙ none in cc
          ];
      is_graph = so_far.is_graph;
    }

-- what a marked node stands for, its new number stands for in the new graph
pub stands_renamed : (graph : List GraphNode) (marks : List Bool) (root : ℕ) (places : List ℕ) (kept : List GraphNode) → MarkedDownTo graph root 0 marks →
    KeptUpTo graph marks (length marks) places kept → (d : Doc) (n : ℕ) → IsMarked marks n → StandsFor graph n d → StandsFor kept (rank marks n) d
unfolding StandsFor
stands_renamed graph marks root places kept marked all d n here h = renamed d n here h
  where
    node : (n : ℕ) (x : GraphNode) → IsMarked marks n → IsNode graph n x → IsNode kept (rank marks n) (with_parts (rank marks) x)
    node n x here is = all.nodes n x (marked_within marks n here) here is

    part : (n m : ℕ) (x : GraphNode) → IsMarked marks n → IsNode graph n x → IsPart x m → IsMarked marks m
    part n m x here is at = marked.closed n m x (omega arith) here is at

    renamed : (d : Doc) (n : ℕ) → IsMarked marks n → StandsFor graph n d → StandsFor kept (rank marks n) d
    renamed (Concat a b) n here h = (
      rank marks h.0,
      rank marks h.1,
      node n _ here h.2,
      renamed a h.0 (part n h.0 _ here h.2 (inl refl)) h.3,
      renamed b h.1 (part n h.1 _ here h.2 (inr refl)) h.4,
    )
    renamed (Choice a b) n here h = (
      rank marks h.0,
      rank marks h.1,
      node n _ here h.2,
      renamed a h.0 (part n h.0 _ here h.2 (inl refl)) h.3,
      renamed b h.1 (part n h.1 _ here h.2 (inr refl)) h.4,
    )
    renamed (Nest k a) n here h = (rank marks h.0, node n _ here h.1, renamed a h.0 (part n h.0 _ here h.1 refl) h.2)
    renamed (Align a) n here h = (rank marks h.0, node n _ here h.1, renamed a h.0 (part n h.0 _ here h.1 refl) h.2)
    renamed (Reset a) n here h = (rank marks h.0, node n _ here h.1, renamed a h.0 (part n h.0 _ here h.1 refl) h.2)
    renamed (Flatten a) n here h = (rank marks h.0, node n _ here h.1, renamed a h.0 (part n h.0 _ here h.1 refl) h.2)
    renamed (Only dir a) n here h = (rank marks h.0, node n _ here h.1, renamed a h.0 (part n h.0 _ here h.1 refl) h.2)
    renamed (Charge k a) n here h = (rank marks h.0, node n _ here h.1, renamed a h.0 (part n h.0 _ here h.1 refl) h.2)
    renamed _ n here h = node n _ here h

-- the new root is the last node, and each other node is a part of a later one
pub root_reaches : (graph : List GraphNode) (marks : List Bool) (root : ℕ) (places : List ℕ) (kept : List GraphNode) → IsGraph graph →
    MarkedDownTo graph root 0 marks → KeptUpTo graph marks (length marks) places kept → RootReachesAll (core_graph kept (rank marks root))
root_reaches graph marks root places kept whole marked all =
    let last : rank marks (root + 1) ≡ rank marks root + 1 = next_marked marks root marked.root_is in (
      sym last ∙ ap (rank marks) (sym marked.count) ∙ sym all.size,
      λ n less.
          let old = rank_onto marks root n less in
          let later = marked.only old.0 old.2 old.1 in (
            rank marks later.0,
            with_parts (rank marks) later.1,
            subst (λ (k : ℕ). k < rank marks later.0) old.3 (rank_less marks old.0 later.0 later.2 old.2),
            all.nodes later.0 later.1 (marked_within marks later.0 later.3) later.3 later.4,
            subst (λ (k : ℕ). IsPart (with_parts (rank marks) later.1) k) old.3 (part_renamed (rank marks) later.1 old.0 later.5),
          ),
    )

-- the new root's number
pub root_rank : (graph : List GraphNode) (marks : List Bool) (root : ℕ) (places : List ℕ) (kept : List GraphNode) →
    MarkedDownTo graph root 0 marks → KeptUpTo graph marks (length marks) places kept → length kept ≡ rank marks root + 1
root_rank graph marks root places kept marked all = all.size ∙ ap (rank marks) marked.count ∙ next_marked marks root marked.root_is

pub kept_all : (graph : List GraphNode) (marks : List Bool) (n m : ℕ) (places : List ℕ) (kept : List GraphNode) → n ≡ m → KeptUpTo graph marks n places kept →
    KeptUpTo graph marks m places kept
kept_all graph marks n m places kept e h = subst (λ (k : ℕ). KeptUpTo graph marks k places kept) e h

pub moved_over : (xs ys : List ℕ) (node new : GraphNode) → xs ≡ ys → new ≡ with_parts (λ k. slice_index xs k) node → new ≡ with_parts (λ k. slice_index ys k) node
moved_over xs ys node new e h = subst (λ (l : List ℕ). new ≡ with_parts (λ k. slice_index l k) node) e h

-- what the kept nodes are, whose number is k
pub record Finished (graph : List GraphNode) (root : ℕ) (kept : List GraphNode) (k : ℕ) : Type 0 where
  pub some : 1 ≤ k
  pub is_core : IsGraph kept × (k - 1 < length kept)
  pub same : (s : Doc) → StandsFor graph root s → StandsFor kept (k - 1) s
  pub no_more : length kept ≤ length graph
  pub reached : RootReachesAll (core_graph kept (k - 1))

pub finished : (graph : List GraphNode) (marks marks' : List Bool) (root : ℕ) (places : List ℕ) (kept : List GraphNode) (k : ℕ) → IsGraph graph → root < length graph →
    marks' ≡ marks → MarkedDownTo graph root 0 marks → KeptUpTo graph marks' (length marks') places kept → k ≡ length kept → Finished graph root kept k
finished graph marks marks' root places kept k whole within same marked all' number =
    let all : KeptUpTo graph marks (length marks) places kept = subst (λ (l : List Bool). KeptUpTo graph l (length l) places kept) same all' in
    let size : length kept ≡ rank marks root + 1 = root_rank graph marks root places kept marked all in
    let last : rank marks root ≡ k - 1 = omega arith in
    record {
      some = omega arith;
      is_core = (all.is_graph, omega arith);
      same = λ s stands.
          subst (λ (n : ℕ). StandsFor kept n s) last (stands_renamed graph marks root places kept marked all s root marked.root_is stands);
      no_more = omega (arith, rank_most marks root);
      reached = subst (λ (n : ℕ). RootReachesAll (core_graph kept n)) last (root_reaches graph marks root places kept whole marked all);
    }
