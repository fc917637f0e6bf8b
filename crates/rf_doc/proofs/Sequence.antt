-- Two halves that stand for their sequences, and their concatenation for the whole.
use Rattle.std.proofs.Common.{◌≡◌, ℕ, ◌+◌, ◌/◌, ◌%◌, ◌<◌, ◌≤◌, List, [], ◌∷◌, length, take, drop, min, zero, suc, ap, sym, subst, ◌∙◌, slice_index_or, arith}
use Rattle.std.specs.List.{All}
use Rattle.std.proofs.lemmas.List.{take-map, drop-map, length-map}
use Rattle.std.proofs.lemmas.List.Elements.{All-take, All-drop}
use Rattle.rf_base_document.specs.Document.{Doc, Concat, plain_text}
use Rattle.rf_base_document.specs.Sequence.{half_up, seq}
use Rattle.rf_base_document.specs.Graph.{GraphNode, StandsFor, EachStandsFor}
use Rattle.rf_base_document.proofs.Graph.{EachStandsFor-length, EachStandsFor-take, EachStandsFor-drop, EachStandsFor-kept}
use Rattle.rf_base_document.proofs.Sequence.{seq_joins_halves, seq_of_one, seq_of_none}
use Rattle.rf_doc.specs.declared.nodes.NodeId.{NodeId}
use Rattle.rf_doc.specs.Nodes.{numbers, Extends, joints}
use Rattle.rf_doc.proofs.Extending.{extends_keeps}

-- no part, one part, and more
pub no_part_stands : (g h : List GraphNode) (id : ℕ) (parts : List NodeId) → length parts ≡ 0 → StandsFor h id (plain_text []) →
    (ds : List Doc) → EachStandsFor g (numbers parts) ds → StandsFor h id (seq ds)
unfolding EachStandsFor
no_part_stands g h id [] none s [] e = subst (λ (d : Doc). StandsFor h id d) (sym seq_of_none) s
no_part_stands g h id [] none s (d ∷ ds) e = absurd e
no_part_stands g h id (p ∷ parts) none s ds e = absurd (omega arith)

pub one_part_stands : (g : List GraphNode) (parts : List NodeId) (d : NodeId) → length parts ≡ 1 →
    (ds : List Doc) → EachStandsFor g (numbers parts) ds → StandsFor g (slice_index_or parts 0 d).0 (seq ds)
unfolding EachStandsFor
one_part_stands g [] d one ds e = absurd (omega arith)
one_part_stands g (p ∷ q ∷ parts) d one ds e = absurd (omega arith)
one_part_stands g (p ∷ []) d one [] e = absurd e
one_part_stands g (p ∷ []) d one (a ∷ []) e = subst (λ (x : Doc). StandsFor g p.0 x) (sym (seq_of_one a)) e.0
one_part_stands g (p ∷ []) d one (a ∷ b ∷ ds) e = absurd e.1

pub halves_stand : (g0 g1 g2 g3 : List GraphNode) (parts first rest : List NodeId) (k a b id : ℕ) →
    2 ≤ length parts → k ≡ half_up (length parts) → first ≡ take k parts → rest ≡ drop k parts →
    ((ds : List Doc) → EachStandsFor g0 (numbers first) ds → StandsFor g1 a (seq ds)) →
    ((ds : List Doc) → EachStandsFor g1 (numbers rest) ds → StandsFor g2 b (seq ds)) →
    Extends g0 g1 → Extends g1 g2 →
    ((d e : Doc) → StandsFor g2 a d → StandsFor g2 b e → StandsFor g3 id (Concat d e)) →
    (ds : List Doc) → EachStandsFor g0 (numbers parts) ds → StandsFor g3 id (seq ds)
halves_stand g0 g1 g2 g3 parts first rest k a b id two half is_first is_rest left right extends more join ds e =
    let many : length ds ≡ length parts = EachStandsFor-length g0 (numbers parts) ds e ∙ length-map parts (λ (p : NodeId). p.0) in
    let place : k ≡ half_up (length ds) = half ∙ ap half_up (sym many) in
    let first_numbers : take k (numbers parts) ≡ numbers first =
    take-map (λ (p : NodeId). p.0) k parts ∙ ap numbers (sym is_first) in
    let rest_numbers : drop k (numbers parts) ≡ numbers rest =
    drop-map (λ (p : NodeId). p.0) k parts ∙ ap numbers (sym is_rest) in
    let firsts : EachStandsFor g0 (numbers first) (take k ds) =
    subst (λ (ns : List ℕ). EachStandsFor g0 ns (take k ds)) first_numbers (EachStandsFor-take g0 k (numbers parts) ds e) in
    let rests : EachStandsFor g1 (numbers rest) (drop k ds) =
    subst (λ (ns : List ℕ). EachStandsFor g1 ns (drop k ds)) rest_numbers
    (EachStandsFor-kept g0 g1 (extends_keeps g0 g1 extends) (drop k (numbers parts)) (drop k ds) (EachStandsFor-drop g0 k (numbers parts) ds e)) in
    let whole : seq ds ≡ Concat (seq (take k ds)) (seq (drop k ds)) =
    subst (λ (m : ℕ). seq ds ≡ Concat (seq (take m ds)) (seq (drop m ds))) (sym place) (seq_joins_halves ds (omega arith)) in
    subst (λ (d : Doc). StandsFor g3 id d) (sym whole)
    (join (seq (take k ds)) (seq (drop k ds)) (extends_keeps g1 g2 more a (seq (take k ds)) (left (take k ds) firsts)) (right (drop k ds) rests))

-- half of a number, rounded up, as the code has it
pub half_up_is : (n k : ℕ) → k ≡ n / 2 + min 1 (n % 2) → k ≡ half_up n
half_up_is n k e = omega arith

-- the numbers of some of the parts are below what all of them are below
pub take_below : (m k : ℕ) (parts first : List NodeId) → first ≡ take k parts → All (λ n. n < m) (numbers parts) → All (λ n. n < m) (numbers first)
take_below m k parts first e below =
    subst (λ (ns : List ℕ). All (λ n. n < m) ns) (take-map (λ (p : NodeId). p.0) k parts ∙ ap numbers (sym e))
    (All-take (λ n. n < m) k (numbers parts) below)

pub drop_below : (m k : ℕ) (parts rest : List NodeId) → rest ≡ drop k parts → All (λ n. n < m) (numbers parts) → All (λ n. n < m) (numbers rest)
drop_below m k parts rest e below =
    subst (λ (ns : List ℕ). All (λ n. n < m) ns) (drop-map (λ (p : NodeId). p.0) k parts ∙ ap numbers (sym e))
    (All-drop (λ n. n < m) k (numbers parts) below)

-- a list of which all is below a number is below a greater one
pub All-below : (m n : ℕ) (ns : List ℕ) → m ≤ n → All (λ k. k < m) ns → All (λ k. k < n) ns
All-below m n ns le below k d less = omega (arith, below k d less)

-- the nodes that join two halves, and one more
pub joints_of_halves : (f r n : ℕ) → 1 ≤ f → 1 ≤ r → f + r ≡ n → joints f + joints r + 1 ≡ joints n
joints_of_halves (suc f) (suc r) (suc n) p q e = omega arith
joints_of_halves _ _ _ p q e = absurd (omega arith)
