-- The first measure behind nothing is the best.
use Rattle.std.proofs.Common.{◌≡◌, ℕ, ◌<◌, ◌≤◌, ◌^◌, Bool, List, [], ◌∷◌, Option, None, Some, refl, sym, ◌∙◌, ap, subst, arith}
use Rattle.rf_base_document.specs.declared.directions.Dir.{Dir}
use Rattle.rf_base_document.specs.declared.directions.Dir.TheVariants.{Left, Right}
use Rattle.rf_base_document.specs.Document.{Doc}
use Rattle.rf_base_document.specs.Simple.{simple}
use Rattle.rf_base_cost.specs.declared.measures.Measure.{Measure}
use Rattle.rf_base_cost.specs.Cost.{Costs, Lawful}
use Rattle.rf_base_cost.specs.Reflecting.{ReflectsOrderUpTo}
use Rattle.rf_base_cut.specs.Cut.{HasRoom}
use Rattle.rf_base_cut.specs.Free.{TextsAreFree}
use Rattle.rf_base_cut.specs.Indifferent.{IsFree}
use Rattle.rf_base_cut.specs.Documents.{after_some, after_in}
use Rattle.rf_base_cut.proofs.Behind.{nothing_room}
use Rattle.rf_base_document.specs.Graph.{GraphNode, IsGraph, StandsFor, unfolded}
use Rattle.rf_base_document.proofs.Graph.{unfolded-is}
use Rattle.std.specs.Prelude.{slice_get, IfSome}
use Rattle.rf_frontier.specs.declared.hows.How.{How}
use Rattle.rf_frontier.specs.Ways.{choices_of, KeepsWays}
use Rattle.rf_frontier.proofs.Ways.{keeps_length}
use Rattle.rf_outline.specs.Documents.{IsTold}
use Rattle.rf_rows.specs.declared.pieces.Fill.TheVariants.{Space}
use Rattle.rf_rows.specs.declared.rows.Rows.{Rows}
use Rattle.rf_search.specs.Tasks.{Task}
use Rattle.rf_search.specs.declared.sought.Found.{Found}
use Rattle.rf_search.specs.declared.rows.Row.{Row}
use Rattle.rf_search.specs.Rows.{RowsHold}
use Rattle.rf_search.specs.Best.{IsBest}
use Rattle.rf_rows.specs.Alone.{StandsAlone}
use Rattle.rf_search.specs.Holding.{Holds, IsBegun}
use Rattle.rf_search.proofs.Told.{turns_go_on}

-- what has something behind it has a core
some_core : {C : Type 0} (costs : Costs C) (w : ℕ) (o : Option Doc) (m : Measure C (List Dir)) (i x : ℕ) (first : Measure C (List Dir)) (rest : List (Measure C (List Dir))) → after_some costs w o m i x ≡ first ∷ rest →
    (s : Doc) × (o ≡ Some s)
some_core costs w None m i x first rest e = cc
some_core costs w (Some s) m i x first rest e = (s, refl)

pub has_core : {C : Type 0} (costs : Costs C) (w : ℕ) (d : Doc) (flat : Bool) (m : Measure C (List Dir)) (i x : ℕ) (first : Measure C (List Dir)) (rest : List (Measure C (List Dir))) → after_in costs w d flat m i x ≡ first ∷ rest →
    (s : Doc) × (simple d flat ≡ Some s)
unfolding after_in
has_core costs w d flat m i x first rest e = some_core costs w (simple d flat) m i x first rest e

-- behind nothing there is room for as many pieces
pub room_at_first : {C : Type 0} (costs : Costs C) (n : ℕ) → ReflectsOrderUpTo costs (2 ^ 32) → n < 2 ^ 32 → HasRoom costs n (costs.text 0 0)
room_at_first costs n reflects few =
    nothing_room costs n 0 (omega arith) (λ pieces others more x y z a b e k l f q r. reflects pieces others more x y z a b e (omega (arith, k, few)) (omega (arith, l, few)) f q r)

pub head_there : {A : Type 0} (xs : List A) (x : A) → slice_get xs 0 ≡ Some x → (rest : List A) × (xs ≡ x ∷ rest)
head_there [] x e = cc
head_there {A = A} (y ∷ ys) x e = let same : y ≡ x = cc in (ys, ap (λ (z : A). z ∷ ys) same)

-- a direction before no choice is a way of it alone
pub turn_alone : (ways : List How) (id : ℕ) (dir : Dir) (own : List Dir) → choices_of ways id ≡ dir ∷ own → own ≡ [] → choices_of ways id ≡ dir ∷ []
turn_alone ways id dir own e none = e ∙ ap (λ (z : List Dir). dir ∷ z) none

pub none_hold : {C N : Type 0} (task : Task C N) (ways : List How) (rows : List (Row C)) → rows ≡ [] → RowsHold task ways rows
unfolding RowsHold
none_hold task ways [] e = λ n row there. cc
none_hold task ways (r ∷ rows) e = cc

pub some_is : {A : Type 0} (o : Option A) (x : A) (P : A → Type 0) → o ≡ Some x → IfSome o P → P x
some_is {A = A} o x P e h = subst (λ (z : Option A). IfSome z P) e h

-- what holds where nothing is found yet and ways were added holds of what is told by them
pub holds_at_first : {C N : Type 0} (task : Task C N) (limit free : ℕ) (old new : Found C) → Lawful task.costs → limit ≤ 400 → free ≤ limit → TextsAreFree task.costs free →
    IsBegun limit free task.sought old → KeepsWays old.hows new.hows → new.rows.items ≡ old.rows.items → IsTold task.documents new.hows → Holds task new
holds_at_first {C = C} task limit free old new lawful narrow near texts begun kept same told =
    record {
      told = record {
        lawful = lawful;
        narrow = omega (arith, begun.limit_is, narrow);
        near = omega (arith, begun.limit_is, begun.free_is, near);
        texts = subst (λ (z : ℕ). IsFree task.costs z) (sym begun.free_is) texts.texts;
        nothing = texts.nothing;
        told = told;
        some = omega (arith, keeps_length old.hows new.hows kept, begun.some);
        left = turns_go_on old.hows new.hows task.sought.left Left kept begun.left;
        right = turns_go_on old.hows new.hows task.sought.right Right kept begun.right;
      };
      rows = none_hold task new.hows new.rows.items (same ∙ begun.rows);
    }

-- what a node stands for is what its unfolding is
pub best_of_node : {C : Type 0} (costs : Costs C) (w : ℕ) (graph : List GraphNode) (n : ℕ) (d : Doc) (choices : List Dir) (within : Bool) → IsGraph graph → StandsFor graph n d →
    IsBest costs w (unfolded graph n) choices within → IsBest costs w d choices within
best_of_node costs w graph n d choices within whole stands h = subst (λ (z : Doc). IsBest costs w z choices within) (unfolded-is graph n d whole stands) h

-- one document alone stands on a stack
pub best_alone : {C : Type 0} (costs : Costs C) (w : ℕ) (rows : Rows) (whole d : Doc) (choices : List Dir) (within : Bool) → StandsAlone rows whole → StandsAlone rows d →
    IsBest costs w whole choices within → IsBest costs w d choices within
best_alone costs w rows whole d choices within one other h =
    let both : whole ∷ [] ≡ d ∷ [] = sym (one Space) ∙ other Space in
    let same : whole ≡ d = cc in
    subst (λ (z : Doc). IsBest costs w z choices within) same h
