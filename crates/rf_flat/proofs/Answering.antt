-- What is answered is the core of the root's document.
use Rattle.std.proofs.Common.{◌≡◌, ℕ, ◌<◌, false, List, length, Option, None, Some, sym, subst, refl}
use Rattle.rf_base_document.specs.Document.{Doc}
use Rattle.rf_base_document.specs.Simple.{simple}
use Rattle.rf_base_document.specs.Graph.{GraphNode, IsGraph, StandsFor}
use Rattle.rf_base_document.proofs.Graph.{unfolded-is, StandsFor-within}
use Rattle.rf_base_document.proofs.Simple.{where_layout}
use Rattle.rf_flat.specs.Cores.{CoreGraph}
use Rattle.rf_flat.specs.Places.{Placed, core_at}
use Rattle.rf_flat.specs.Simplified.{StandsForCore, HasNoLayout}

-- the core at the root's place, by the document that the root stands for
at_root : (graph nodes : List GraphNode) (root : ℕ) (place : Option ℕ) (d : Doc) → IsGraph graph → StandsFor graph root d →
    Placed nodes (core_at graph root false) place → Placed nodes (simple d false) place
at_root graph nodes root place d whole stands h = subst (λ (x : Doc). Placed nodes (simple x false) place) (unfolded-is graph root d whole stands) h

no_core : (nodes : List GraphNode) (o : Option Doc) → Placed nodes o None → o ≡ None
no_core nodes None h = refl
no_core nodes (Some s) h = absurd h

-- without a place there is no core, and so no layout
pub none_at_root : (graph nodes : List GraphNode) (root : ℕ) (place : Option ℕ) (d : Doc) → IsGraph graph → place ≡ None →
    Placed nodes (core_at graph root false) place → StandsFor graph root d → simple d false ≡ None
none_at_root graph nodes root place d whole none h stands =
    no_core nodes (simple d false) (subst (λ (p : Option ℕ). Placed nodes (simple d false) p) none (at_root graph nodes root place d whole stands h))

pub none_stands : (o : Option Doc) → o ≡ None → StandsForCore None o
none_stands o e = subst (λ (x : Option Doc). StandsForCore None x) (sym e) tt

pub no_layout : (d : Doc) → simple d false ≡ None → HasNoLayout d
no_layout d none choices e column indentation picks = (where_layout d false column indentation).0 none choices e picks

-- at a place there is a core
core_is : (nodes : List GraphNode) (core : CoreGraph) (m : ℕ) (o : Option Doc) → ((s : Doc) → StandsFor nodes m s → StandsFor core.nodes core.root s) →
    Placed nodes o (Some m) → StandsForCore (Some core) o
core_is nodes core m None same h = absurd h
core_is nodes core m (Some s) same h = same s h

pub some_at_root : (graph nodes : List GraphNode) (root m : ℕ) (place : Option ℕ) (core : CoreGraph) (d : Doc) → IsGraph graph → place ≡ Some m →
    Placed nodes (core_at graph root false) place → ((s : Doc) → StandsFor nodes m s → StandsFor core.nodes core.root s) → StandsFor graph root d →
    StandsForCore (Some core) (simple d false)
some_at_root graph nodes root m place core d whole is h same stands =
    core_is nodes core m (simple d false) same
    (subst (λ (p : Option ℕ). Placed nodes (simple d false) p) is (at_root graph nodes root place d whole stands h))

-- the place is within the core
within_core : (nodes : List GraphNode) (m : ℕ) (o : Option Doc) → Placed nodes o (Some m) → m < length nodes
within_core nodes m None h = absurd h
within_core nodes m (Some s) h = StandsFor-within nodes m s h

pub place_within : (nodes : List GraphNode) (m : ℕ) (o : Option Doc) (place : Option ℕ) → place ≡ Some m → Placed nodes o place → m < length nodes
place_within nodes m o place is h = within_core nodes m o (subst (λ (p : Option ℕ). Placed nodes o p) is h)
