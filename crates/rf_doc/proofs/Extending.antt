-- What follows where the new nodes of a graph stand after the old ones.
use Rattle.std.proofs.Common.{ℕ, ◌≤◌, List, ◌++◌, length, take, drop, ap, sym, subst, ◌∙◌, arith}
use Rattle.std.proofs.lemmas.List.{length-take, take-take, take-append-drop}
use Rattle.std.proofs.Math.Seq.{take-length}
use Rattle.rf_base_document.specs.Document.{Doc}
use Rattle.rf_base_document.specs.Graph.{GraphNode, StandsFor}
use Rattle.rf_base_document.proofs.Graph.{StandsFor-append}
use Rattle.rf_doc.specs.Nodes.{Extends}

-- the older nodes stand for what they stood for
pub extends_keeps : (g h : List GraphNode) → Extends g h → (n : ℕ) (d : Doc) → StandsFor g n d → StandsFor h n d
extends_keeps g h extends n d stands =
    subst (λ (l : List GraphNode). StandsFor l n d)
    (ap (λ (l : List GraphNode). l ++ drop (length g) h) (sym extends) ∙ take-append-drop (length g) h)
    (StandsFor-append g (drop (length g) h) n d stands)

-- there are no fewer
pub extends_longer : (g h : List GraphNode) → Extends g h → length g ≤ length h
extends_longer g h extends = omega (arith, ap (λ (l : List GraphNode). length l) extends, length-take (length g) h)

-- a graph extends itself, and what extends one that extends a first extends the first
pub extends_itself : (g : List GraphNode) → Extends g g
extends_itself g = take-length g

pub extends_both : (g h i : List GraphNode) → Extends g h → Extends h i → Extends g i
extends_both g h i first second =
    sym (take-take (length g) (length h) i (extends_longer g h first)) ∙ ap (λ (l : List GraphNode). take (length g) l) second ∙ first
