-- What is told holds as ways are added, of documents of each kind and of a graph's nodes.
use Rattle.std.proofs.lemmas.Bool.Decides.{nat_tests}
use Rattle.std.specs.Prelude.{nat_le}
use Rattle.std.proofs.Common.{◌≡◌, ℕ, ◌+◌, ◌<◌, Bool, true, false, List, [], ◌∷◌, ◌++◌, length, sym, ap, subst, inl, inr, Some, slice_get, length-append, arith}
use Rattle.rf_base_document.specs.declared.directions.Dir.{Dir}
use Rattle.std.specs.Option.{option_map}
use Rattle.std.proofs.lemmas.Bool.{or_left, or_right, and_from}
use Rattle.rf_base_document.specs.Simple.{simple}
use Rattle.rf_base_document.specs.Document.{Doc, Concat, Nest, Align, Reset, Flatten, Choice, Charge}
use Rattle.rf_base_document.specs.Graph.{GraphNode, IsNode, IsGraph, tree_of, unfolded}
use Rattle.rf_base_document.proofs.Graph.{unfolded-node, slice_get-added}
use Rattle.rf_base_cut.specs.Documents.{flat_length_in, begins_in}
use Rattle.rf_base_cut.specs.DocumentLines.{never_free_in, OneLineIn}
use Rattle.rf_frontier.specs.declared.hows.How.{How}
use Rattle.rf_frontier.specs.Ways.{KeepsWays}
use Rattle.rf_outline.specs.declared.facts.Line.{Line}
use Rattle.rf_outline.specs.declared.facts.Line.TheVariants.{Nothing, Never, Long, Text, Unsure}
use Rattle.rf_outline.specs.declared.facts.Facts.{Facts}
use Rattle.rf_outline.specs.declared.facts.Known.{Known}
use Rattle.rf_outline.specs.Known.{LineHolds, FactsHold, KnownHolds, AreKnown}
use Rattle.rf_outline.specs.Parts.{LineIsIn, KnownIsIn, LineOfPart, FactsOfPart, KnownOfPart, LineOfBoth, FactsOfBoth, KnownOfBoth}

-- the way of what holds is one of the ways
pub line_is_in : (ways : List How) (d : Doc) (flat : Bool) (line : Line) → LineHolds ways d flat line → LineIsIn ways line
line_is_in ways d flat (Long len how) p = p.0
line_is_in ways d flat (Text len how) p = p.0
line_is_in ways d flat _ p = tt

pub known_is_in : (ways : List How) (d : Doc) (known : Known) → KnownHolds ways d known → KnownIsIn ways known
known_is_in ways d known p =
    (line_is_in ways d false known.loose.line p.0.0, line_is_in ways d true known.flat.line p.1.0)

pub in_kept : (old new : List How) (line : Line) → KeepsWays old new → LineIsIn old line → LineIsIn new line
unfolding KeepsWays
in_kept old new (Long len how) keeps p = omega (arith, keeps.0, p)
in_kept old new (Text len how) keeps p = omega (arith, keeps.0, p)
in_kept old new _ keeps p = tt

-- what held holds as ways are added
pub line_kept : (old new : List How) (d : Doc) (flat : Bool) (line : Line) → KeepsWays old new → LineHolds old d flat line → LineHolds new d flat line
unfolding KeepsWays
line_kept old new d flat (Long len how) keeps p =
    (omega (arith, keeps.0, p.0), subst (λ (cs : List Dir). OneLineIn d flat len cs) (sym (keeps.1 how.0 p.0)) p.1)
line_kept old new d flat (Text len how) keeps p =
    (omega (arith, keeps.0, p.0), subst (λ (cs : List Dir). OneLineIn d flat len cs) (sym (keeps.1 how.0 p.0)) p.1, p.2)
line_kept old new d flat Unsure keeps p = tt
line_kept old new d flat _ keeps p = p

facts_kept : (old new : List How) (d : Doc) (flat : Bool) (facts : Facts) → KeepsWays old new → FactsHold old d flat facts → FactsHold new d flat facts
facts_kept old new d flat facts keeps p = (line_kept old new d flat facts.line keeps p.0, p.1)

pub known_kept : (old new : List How) (d : Doc) (known : Known) → KeepsWays old new → KnownHolds old d known → KnownHolds new d known
known_kept old new d known keeps p =
    (facts_kept old new d false known.loose keeps p.0, facts_kept old new d true known.flat keeps p.1)

pub are_known_kept : (old new : List How) (graph : List GraphNode) (list : List Known) → KeepsWays old new → AreKnown old graph list → AreKnown new graph list
unfolding AreKnown
are_known_kept old new graph list keeps p n known found = known_kept old new (unfolded graph n) known keeps (p n known found)

-- documents of one part
nest_line : (ways : List How) (n : ℕ) (d : Doc) (flat : Bool) (line : Line) → LineHolds ways d flat line → LineHolds ways (Nest n d) flat line
unfolding never_free_in OneLineIn flat_length_in simple
nest_line ways n d flat Nothing p = (p.0, ap (option_map (Nest n)) p.1)
nest_line ways n d flat _ p = p

reset_line : (ways : List How) (d : Doc) (flat : Bool) (line : Line) → LineHolds ways d flat line → LineHolds ways (Reset d) flat line
unfolding never_free_in OneLineIn flat_length_in simple
reset_line ways d flat Nothing p = (p.0, ap (option_map Reset) p.1)
reset_line ways d flat _ p = p

align_line : (ways : List How) (d : Doc) (flat : Bool) (line : Line) → LineHolds ways d flat line → LineHolds ways (Align d) flat line
unfolding never_free_in OneLineIn flat_length_in simple
align_line ways d flat Nothing p = (p.0, ap (option_map Align) p.1)
align_line ways d flat _ p = p

flatten_line : (ways : List How) (d : Doc) (flat : Bool) (line : Line) → LineHolds ways d true line → LineHolds ways (Flatten d) flat line
unfolding never_free_in OneLineIn flat_length_in simple
flatten_line ways d flat Nothing p = p
flatten_line ways d flat Never p = p
flatten_line ways d flat (Long len how) p = p
flatten_line ways d flat (Text len how) p = p
flatten_line ways d flat Unsure p = p

pub nested : (ways : List How) (n : ℕ) (known : Known) → KnownOfPart (Nest n) ways known known
unfolding begins_in
nested ways n known d p =
    ((nest_line ways n d false known.loose.line p.0.0, p.0.1), (nest_line ways n d true known.flat.line p.1.0, p.1.1))

pub without : (ways : List How) (known : Known) → KnownOfPart Reset ways known known
unfolding begins_in
without ways known d p =
    ((reset_line ways d false known.loose.line p.0.0, p.0.1), (reset_line ways d true known.flat.line p.1.0, p.1.1))

pub aligned_holds : (ways : List How) (a : Known) → KnownOfPart Align ways a
    (record { loose = record { line = a.loose.line; begins = false }; flat = record { line = a.flat.line; begins = false } })
aligned_holds ways a d p =
    ((align_line ways d false a.loose.line p.0.0, λ t. cc), (align_line ways d true a.flat.line p.1.0, λ t. cc))

pub flattened_holds : (ways : List How) (a : Known) → KnownOfPart Flatten ways a (record { loose = a.flat; flat = a.flat })
unfolding begins_in
flattened_holds ways a d p =
    ((flatten_line ways d false a.flat.line p.1.0, p.1.1), (flatten_line ways d true a.flat.line p.1.0, p.1.1))

-- what is charged for at least 1, and what never is on one line
pub charge_never : (ways : List How) (k : ℕ) (a : Line) → 0 < k → LineOfPart (Charge k) ways a Never
unfolding never_free_in
charge_never ways k a some d flat p =
    let one : nat_le 1 k ≡ true = grind (arith, nat_tests) in or_left (nat_le 1 k) (never_free_in d flat) one

pub charge_of_never : (ways : List How) (k : ℕ) (a : Line) → a ≡ Never → LineOfPart (Charge k) ways a Never
unfolding never_free_in
charge_of_never ways k a is d flat p =
    or_right (nat_le 1 k) (never_free_in d flat) (subst (λ (l : Line). LineHolds ways d flat l) is p)

pub charge_of_nothing : (ways : List How) (k : ℕ) (a : Line) → a ≡ Nothing → LineOfPart (Charge k) ways a Nothing
unfolding never_free_in simple
charge_of_nothing ways k a is d flat p =
    let h = subst (λ (l : Line). LineHolds ways d flat l) is p in
    (or_right (nat_le 1 k) (never_free_in d flat) h.0, ap (option_map (Charge k)) h.1)

pub charged_facts_hold : (ways : List How) (k : ℕ) (a : Facts) (line : Line) → LineOfPart (Charge k) ways a.line line →
    FactsOfPart (Charge k) ways a (record { line = line; begins = a.begins })
unfolding begins_in
charged_facts_hold ways k a line h d flat p = (h d flat p.0, p.1)

-- documents of two parts
pub concat_facts_hold : (old new : List How) (a b : Facts) (line : Line) → LineOfBoth Concat old new a.line b.line line →
    FactsOfBoth Concat old new a b (record { line = line; begins = a.begins })
unfolding begins_in
concat_facts_hold old new a b line h d e flat p q = (h d e flat p.0 q.0, p.1)

pub choice_facts_hold : (old new : List How) (a b : Facts) (line : Line) (begins : Bool) → LineOfBoth Choice old new a.line b.line line →
    (begins ≡ true → (a.begins ≡ true) × (b.begins ≡ true)) → FactsOfBoth Choice old new a b (record { line = line; begins = begins })
unfolding begins_in
choice_facts_hold old new a b line begins h f d e flat p q =
    (h d e flat p.0 q.0, λ t. and_from (begins_in d flat) (begins_in e flat) (p.1 (f t).0) (q.1 (f t).1))

pub known_of_both : (f : Doc → Doc → Doc) (old mid new : List How) (a b : Known) (loose flat : Facts) → KeepsWays old mid → KeepsWays mid new →
    FactsOfBoth f old mid a.loose b.loose loose → FactsOfBoth f mid new a.flat b.flat flat →
    KnownOfBoth f old new a b (record { loose = loose; flat = flat })
known_of_both f old mid new a b loose flat one two h k d e p q = (
  facts_kept mid new (f d e) false loose two (h d e false p.0 q.0),
  k d e true (facts_kept old mid d true a.flat one p.1) (facts_kept old mid e true b.flat one q.1),
)

-- what holds of the tree that a node is unfolded to holds of the node
pub at_node : (ways : List How) (graph : List GraphNode) (n : ℕ) (node : GraphNode) (known : Known) → IsGraph graph → IsNode graph n node →
    KnownHolds ways (tree_of (unfolded graph) (Some node)) known → KnownHolds ways (unfolded graph n) known
at_node ways graph n node known whole is p =
    subst (λ (d : Doc). KnownHolds ways d known) (sym (unfolded-node graph n node whole is)) p

pub part_holds : (ways : List How) (graph : List GraphNode) (list : List Known) (n : ℕ) (known : Known) → AreKnown ways graph list → slice_get list n ≡ Some known →
    KnownHolds ways (unfolded graph n) known
unfolding AreKnown
part_holds ways graph list n known p found = p n known found

-- of no node, and of one node more
pub none_known : (ways : List How) (graph : List GraphNode) (list : List Known) → list ≡ [] → AreKnown ways graph list
unfolding AreKnown
none_known ways graph list is n known found = cc

pub one_more_known : (ways : List How) (graph : List GraphNode) (list new : List Known) (n : ℕ) (known : Known) → new ≡ list ++ known ∷ [] → length list ≡ n →
    AreKnown ways graph list → KnownHolds ways (unfolded graph n) known → AreKnown ways graph new
unfolding AreKnown
one_more_known ways graph list new n known is count p h m other found =
    let within : slice_get (list ++ known ∷ []) m ≡ Some other = subst (λ (l : List Known). slice_get l m ≡ Some other) is found in
    elim (slice_get-added list known m other within) [
      | inl k ↦ p m other k
      | inr k ↦
          let at : m ≡ n = omega (arith, k.0, count) in
          subst (λ (i : ℕ). KnownHolds ways (unfolded graph i) other) (sym at) (subst (λ (o : Known). KnownHolds ways (unfolded graph n) o) k.1 h)
    ]

pub one_longer : {A : Type 0} (list new : List A) (n : ℕ) (x : A) → new ≡ list ++ x ∷ [] → length list ≡ n → length new ≡ n + 1
one_longer {A = A} list new n x is count =
    let more = length-append list (x ∷ []) in
    let same : length new ≡ length (list ++ x ∷ []) = ap (λ (l : List A). length l) is in
    omega (arith, more, same, count)

-- where there was a way there is one
pub some_kept : (old new : List How) → KeepsWays old new → 0 < length old → 0 < length new
unfolding KeepsWays
some_kept old new keeps some = omega (arith, keeps.0, some)
