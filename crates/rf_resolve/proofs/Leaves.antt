-- Frontiers of texts and of line breaks.
use Rattle.std.proofs.Common.{◌≡◌, ℕ, ◌+◌, ◌<◌, ◌≤◌, Bool, true, false, nat_le, ◌&&◌, List, [], ◌∷◌, Option, None, Some, sym, ◌∙◌, ap, subst, arith}
use Rattle.std.specs.Option.{option_to_list}
use Rattle.std.proofs.lemmas.Bool.Decides.{nat_tests}
use Rattle.rf_base_document.specs.declared.directions.Dir.{Dir}
use Rattle.rf_base_document.specs.Document.{Doc}
use Rattle.rf_base_document.specs.Graph.{GraphNode, TextNode, NewlineNode, IsNode, IsGraph}
use Rattle.rf_base_document.proofs.Graph.{unfolded-node}
use Rattle.rf_base_cost.specs.declared.measures.Measure.{Measure}
use Rattle.rf_base_cost.specs.Cost.{Costs}
use Rattle.rf_base_cost.proofs.Dominance.{false_le, true_le}
use Rattle.rf_base_optimum.specs.Plain.{plain, where_within, leaf_measure}
use Rattle.rf_base_optimum.proofs.Frontier.{not_within}
use Rattle.rf_frontier.specs.declared.hows.How.{How}
use Rattle.rf_frontier.specs.declared.hows.HowId.{HowId}
use Rattle.rf_frontier.specs.Frontiers.{BelongTo, chosen}
use Rattle.rf_resolve.specs.declared.keys.Key.{Key}
use Rattle.rf_resolve.specs.Keys.{frontier_of}
use Rattle.rf_resolve.specs.Holding.{IsFrontierAt, IsLeafMeasure}

alone : {C : Type 0} (b : Bool) (m : Measure C (List Dir)) → b ≡ true → where_within b m ≡ m ∷ []
alone b m e = ap (λ (v : Bool). where_within v m) e

and_true : (a b : Bool) → a ≡ true → (a && b) ≡ b
and_true a b e = ap (λ (v : Bool). v && b) e

text_frontier : {C : Type 0} (costs : Costs C) (w : ℕ) (nodes : List GraphNode) (key : Key) (s : List ℕ) (len : ℕ) → IsGraph nodes → IsNode nodes key.node (TextNode s len) →
    frontier_of costs w nodes key ≡ where_within (nat_le (key.column + len) w) (leaf_measure (key.column + len) (costs.text key.column len))
unfolding plain
text_frontier costs w nodes key s len whole is = ap (λ (d : Doc). plain costs w d key.column key.indentation) (unfolded-node nodes key.node _ whole is)

newline_frontier : {C : Type 0} (costs : Costs C) (w : ℕ) (nodes : List GraphNode) (key : Key) → IsGraph nodes → IsNode nodes key.node NewlineNode → key.column ≤ w →
    frontier_of costs w nodes key ≡ where_within (nat_le key.indentation w) (leaf_measure key.indentation (costs.newline key.indentation))
unfolding plain
newline_frontier costs w nodes key whole is near =
    ap (λ (d : Doc). plain costs w d key.column key.indentation) (unfolded-node nodes key.node _ whole is)
    ∙ ap (λ (b : Bool). where_within b (leaf_measure key.indentation (costs.newline key.indentation)))
    (and_true (nat_le key.column w) (nat_le key.indentation w) (true_le key.column w near))

pub text_past : {C : Type 0} (costs : Costs C) (w : ℕ) (nodes : List GraphNode) (key : Key) (s : List ℕ) (len : ℕ) →
    IsGraph nodes → IsNode nodes key.node (TextNode s len) → w < key.column + len → frontier_of costs w nodes key ≡ []
text_past costs w nodes key s len whole is past = text_frontier costs w nodes key s len whole is ∙ not_within _ _ (false_le (key.column + len) w past)

pub text_here : {C : Type 0} (costs : Costs C) (w : ℕ) (nodes : List GraphNode) (ways : List How) (key : Key) (s : List ℕ) (len last : ℕ) (cost : C) (m : Measure C HowId) →
    IsGraph nodes → IsNode nodes key.node (TextNode s len) → key.column + len ≤ w → last ≡ key.column + len → cost ≡ costs.text key.column len →
    chosen ways m ≡ leaf_measure last cost → frontier_of costs w nodes key ≡ chosen ways m ∷ []
text_here {C} costs w nodes ways key s len last cost m whole is near ends costs_so one =
    text_frontier costs w nodes key s len whole is
    ∙ (alone _ _ (true_le (key.column + len) w near)
    ∙ sym (ap (λ (x : Measure C (List Dir)). x ∷ []) one ∙ (ap (λ (n : ℕ). leaf_measure n cost ∷ []) ends ∙ ap (λ (x : C). leaf_measure (key.column + len) x ∷ []) costs_so)))

pub newline_past : {C : Type 0} (costs : Costs C) (w : ℕ) (nodes : List GraphNode) (key : Key) →
    IsGraph nodes → IsNode nodes key.node NewlineNode → key.column ≤ w → w < key.indentation → frontier_of costs w nodes key ≡ []
newline_past costs w nodes key whole is near past = newline_frontier costs w nodes key whole is near ∙ not_within _ _ (false_le key.indentation w past)

pub newline_here : {C : Type 0} (costs : Costs C) (w : ℕ) (nodes : List GraphNode) (ways : List How) (key : Key) (cost : C) (m : Measure C HowId) →
    IsGraph nodes → IsNode nodes key.node NewlineNode → key.column ≤ w → key.indentation ≤ w → cost ≡ costs.newline key.indentation →
    chosen ways m ≡ leaf_measure key.indentation cost → frontier_of costs w nodes key ≡ chosen ways m ∷ []
newline_here {C} costs w nodes ways key cost m whole is near shallow costs_so one =
    newline_frontier costs w nodes key whole is near
    ∙ (alone _ _ (true_le key.indentation w shallow)
    ∙ sym (ap (λ (x : Measure C (List Dir)). x ∷ []) one ∙ ap (λ (x : C). leaf_measure key.indentation x ∷ []) costs_so))

-- the frontier of at most one measure
leaf_list : {C : Type 0} (costs : Costs C) (w : ℕ) (nodes : List GraphNode) (ways : List How) (key : Key) (m : Option (Measure C HowId)) →
    IsLeafMeasure costs w nodes ways key m → IsFrontierAt costs w nodes ways key (option_to_list m)
unfolding BelongTo
leaf_list costs w nodes ways key None is = record { measures = sym is; belong = tt }
leaf_list costs w nodes ways key (Some m) is = record { measures = sym is.0; belong = (is.1, tt) }

pub leaf_is : {C : Type 0} (costs : Costs C) (w : ℕ) (nodes : List GraphNode) (ways : List How) (key : Key) (m : Option (Measure C HowId)) (f : List (Measure C HowId)) →
    f ≡ option_to_list m → IsLeafMeasure costs w nodes ways key m → IsFrontierAt costs w nodes ways key f
leaf_is {C} costs w nodes ways key m f e is = subst (λ (l : List (Measure C HowId)). IsFrontierAt costs w nodes ways key l) (sym e) (leaf_list costs w nodes ways key m is)
