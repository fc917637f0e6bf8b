-- What is told of nodes, and how it goes on as ways are added.
use Rattle.std.proofs.Common.{◌≡◌, ℕ, inl, inr, ◌++◌, ◌≤◌, Bool, List, [], ◌∷◌, length, Some, sym, ◌∙◌, subst, arith}
use Rattle.std.specs.Prelude.{slice_get}
use Rattle.rf_base_document.specs.declared.directions.Dir.{Dir}
use Rattle.rf_base_document.specs.Document.{IsDocument}
use Rattle.rf_base_document.proofs.Graph.{slice_get-added}
use Rattle.rf_base_document.specs.Render.{Piece}
use Rattle.rf_base_cost.specs.Cost.{Costs, IsColumn, cost_of}
use Rattle.rf_base_cut.specs.Cut.{HasRoom}
use Rattle.rf_base_cut.proofs.Behind.{nothing_room}
use Rattle.rf_frontier.specs.declared.hows.How.{How}
use Rattle.rf_frontier.specs.declared.hows.HowId.{HowId}
use Rattle.rf_frontier.specs.Ways.{KeepsWays}
use Rattle.rf_frontier.proofs.Ways.{keeps_same, keeps_then, keeps_choices, keeps_length}
use Rattle.rf_frontier.proofs.Behind.{belong_keeps, chosen_keeps}
use Rattle.rf_outline.proofs.Tellings.{told_goes_on}
use Rattle.rf_outline.specs.Documents.{Told, ToldHolds}
use Rattle.rf_search.specs.Tasks.{Task}
use Rattle.rf_search.specs.declared.sought.Found.{Found}
use Rattle.rf_search.specs.declared.rows.Row.{Row}
use Rattle.rf_search.specs.Sought.{Turns, IsSought}
use Rattle.rf_search.specs.Rows.{RowHolds, RowsHold}
use Rattle.rf_search.specs.Holding.{Holds, GoesOn}

-- each node stands for a document
pub is_document : {C N : Type 0} (task : Task C N) (ways : List How) (n : N) → IsSought task ways → IsDocument (task.documents.document n)
is_document task ways n told = told.told.documents n

-- what is told of a node holds of it
pub told_at : {C N : Type 0} (task : Task C N) (ways : List How) (n : N) (flat : Bool) (t : Told) → IsSought task ways →
    t ≡ task.documents.told n flat → ToldHolds (task.documents.document n) flat t
told_at task ways n flat t told is =
    subst (λ (z : Told). ToldHolds (task.documents.document n) flat z) (sym is) (told.told.told n flat)

-- a way of one direction stays one
pub turns_go_on : (old new : List How) (id : HowId) (dir : Dir) → KeepsWays old new → Turns old id dir → Turns new id dir
turns_go_on old new id dir kept h = (omega (arith, keeps_length old new kept, h.0), keeps_choices old new id.0 kept h.0 ∙ h.1)

-- it goes on to
pub sought_goes_on : {C N : Type 0} (task : Task C N) (old new : List How) → KeepsWays old new → IsSought task old → IsSought task new
sought_goes_on task old new kept told =
    record {
      lawful = told.lawful;
      narrow = told.narrow;
      near = told.near;
      texts = told.texts;
      nothing = told.nothing;
      told = told_goes_on task.documents old new kept told.told;
      some = omega (arith, keeps_length old new kept, told.some);
      left = turns_go_on old new task.sought.left _ kept told.left;
      right = turns_go_on old new task.sought.right _ kept told.right;
    }

row_goes_on : {C N : Type 0} (task : Task C N) (old new : List How) (row : Row C) → KeepsWays old new → RowHolds task old row → RowHolds task new row
row_goes_on task old new row kept h =
    (belong_keeps old new row.measures kept h.0, λ n i e. chosen_keeps old new row.measures kept h.0 ∙ h.1 n i e)

pub row_at : {C N : Type 0} (task : Task C N) (ways : List How) (rows : List (Row C)) (n : ℕ) (row : Row C) → RowsHold task ways rows → slice_get rows n ≡ Some row → RowHolds task ways row
unfolding RowsHold
row_at task ways rows n row h e = h n row e

pub rows_go_on : {C N : Type 0} (task : Task C N) (old new : List How) (rows : List (Row C)) → KeepsWays old new → RowsHold task old rows → RowsHold task new rows
unfolding RowsHold
rows_go_on task old new rows kept h = λ n row e. row_goes_on task old new row kept (h n row e)

pub rows_put : {C N : Type 0} (task : Task C N) (ways : List How) (old new : List (Row C)) (row : Row C) → new ≡ old ++ row ∷ [] → RowsHold task ways old → RowHolds task ways row → RowsHold task ways new
unfolding RowsHold
rows_put {C = C} task ways old new row e h k =
    λ n other there.
    elim (slice_get-added old row n other (subst (λ (z : List (Row C)). slice_get z n ≡ Some other) e there)) [
      | inl at ↦ h n other at
      | inr at ↦ subst (λ (z : Row C). RowHolds task ways z) at.1 k
    ]

-- so all of it goes on where ways are added
pub goes_on_by : {C N : Type 0} (task : Task C N) (old new : Found C) → KeepsWays old.hows new.hows → new.rows.items ≡ old.rows.items → Holds task old → GoesOn task old new
goes_on_by {C = C} task old new kept rows holds =
    record {
      older = kept;
      holds = record {
        told = sought_goes_on task old.hows new.hows kept holds.told;
        rows = subst (λ (z : List (Row C)). RowsHold task new.hows z) (sym rows) (rows_go_on task old.hows new.hows old.rows.items kept holds.rows);
      };
    }

pub goes_on_then : {C N : Type 0} (task : Task C N) (one two three : Found C) → GoesOn task one two → GoesOn task two three → GoesOn task one three
goes_on_then task one two three a b = record { older = keeps_then one.hows two.hows three.hows a.older b.older; holds = b.holds }

pub goes_on_same : {C N : Type 0} (task : Task C N) (found : Found C) → Holds task found → GoesOn task found found
goes_on_same task found holds = record { older = keeps_same found.hows; holds = holds }

some_pieces : {C : Type 0} (costs : Costs C) (pieces : List Piece) (cost : C) → cost_of costs pieces ≡ Some cost → 1 ≤ length pieces
some_pieces costs [] cost e = cc
some_pieces costs (p ∷ pieces) cost e = omega arith

-- where there is room behind a cost there is room behind nothing
pub room_for_nothing : {C : Type 0} (costs : Costs C) (n c : ℕ) (cost : C) → IsColumn c → HasRoom costs n cost → HasRoom costs n (costs.text c 0)
unfolding HasRoom
room_for_nothing costs n c cost p h =
    nothing_room costs n c p (λ pieces others more x y z a b e k l f q r. h.3 pieces others more x y z a b e (omega (arith, k, some_pieces costs h.0 cost h.2)) (omega (arith, l, some_pieces costs h.0 cost h.2)) f q r)
