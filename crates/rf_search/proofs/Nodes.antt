-- What stands behind a measure of a node, from what stands behind measures of its parts.
use Rattle.std.proofs.Common.{Option, ◌≡◌, ℕ, ◌+◌, ◌-◌, ◌<◌, ◌≤◌, min, Bool, true, false, ◌&&◌, cond, List, [], ◌∷◌, ◌++◌, length, Some, inl, inr, refl, sym, ◌∙◌, ap, subst, append-nil, arith}
use Rattle.std.specs.Prelude.{nat_le}
use Rattle.std.proofs.lemmas.Bool.Decides.{nat_tests}
use Rattle.rf_base_document.specs.declared.directions.Dir.{Dir}
use Rattle.rf_base_document.specs.Document.{Doc, Newline, Hard}
use Rattle.rf_base_cost.specs.declared.measures.Measure.{Measure}
use Rattle.rf_base_cost.specs.Cost.{Costs, IsColumn}
use Rattle.rf_base_cost.specs.Pareto.{IsFrontier, EachIsValue}
use Rattle.rf_base_cost.proofs.Choices.{frontier_back, values_back}
use Rattle.rf_base_cost.proofs.Dominance.{false_le, true_le}
use Rattle.rf_base_optimum.specs.MostPieces.{most_pieces}
use Rattle.rf_base_optimum.specs.Plain.{where_within}
use Rattle.rf_base_cut.specs.Cut.{extended}
use Rattle.rf_base_cut.specs.OneLine.{measured}
use Rattle.rf_base_cut.specs.Documents.{after_some, after_in, text_behind, break_behind, flat_length_in, begins_in, MayCutIn}
use Rattle.rf_base_cut.proofs.Behind.{room_value, room_fewer}
use Rattle.rf_base_cut.proofs.CoreLines as line
use Rattle.rf_base_cut.proofs.DocumentSteps as step
use Rattle.rf_base_cut.proofs.Indifferent.{may_cut_at}
use Rattle.rf_frontier.specs.declared.hows.How.{How}
use Rattle.rf_frontier.specs.declared.hows.HowId.{HowId}
use Rattle.rf_frontier.specs.Ways.{choices_of}
use Rattle.rf_frontier.specs.Frontiers.{BelongTo, chosen, all_chosen}
use Rattle.rf_frontier.proofs.Behind.{one_belongs}
use Rattle.rf_outline.specs.Documents.{Told, SpanHolds, IsWayOf, ToldHolds, IsLineBreak}
use Rattle.rf_outline.specs.declared.documents.Span.{Span}
use Rattle.rf_outline.specs.declared.documents.Span.TheVariants as spans
use Rattle.rf_search.specs.Tasks.{Task}
use Rattle.rf_search.specs.Sought.{IsSought}
use Rattle.rf_search.specs.Places.{line_cut, cut_of}
use Rattle.rf_search.specs.Behind.{IsBefore, AreBehind}
use Rattle.rf_search.proofs.Told.{is_document}

-- the width is a column of task.costs
pub is_column : {C N : Type 0} (task : Task C N) (ways : List How) → IsSought task ways → IsColumn task.sought.limit
is_column task ways told = omega (arith, told.narrow)

-- what stands behind a measure is a frontier of values
pub found_frontier : {C N : Type 0} (task : Task C N) (old new : List How) (n : N) (flat : Bool) (i x : ℕ) (m : Measure C HowId) (kept : List (Measure C HowId)) →
    IsSought task old → IsBefore task old n m → AreBehind task old new n flat i x m kept → IsFrontier task.costs kept × EachIsValue task.costs kept
found_frontier {C = C} task old new n flat i x m kept told before h =
    let short = step.after_frontier task.costs told.lawful task.sought.limit (task.documents.document n) flat (chosen old m) i x (is_column task old told) (is_document task old n told) before.2 in (
      frontier_back task.costs (λ (id : HowId). choices_of new id.0) kept (subst (λ (z : List (Measure C (List Dir))). IsFrontier task.costs z) (sym h.1) short.0),
      values_back task.costs (λ (id : HowId). choices_of new id.0) kept (subst (λ (z : List (Measure C (List Dir))). EachIsValue task.costs z) (sym h.1) short.1),
    )

-- the same place said in other words
pub moved : {C N : Type 0} (task : Task C N) (old new : List How) (n k : N) (flat other : Bool) (i j x y : ℕ) (m : Measure C HowId) (kept : List (Measure C HowId)) →
    n ≡ k → flat ≡ other → i ≡ j → x ≡ y → AreBehind task old new n flat i x m kept → AreBehind task old new k other j y m kept
moved {N = N} task old new n k flat other i j x y m kept e f g h behind =
    subst (λ (z : ℕ). AreBehind task old new k other j z m kept) h
    (subst (λ (z : ℕ). AreBehind task old new k other z x m kept) g
    (subst (λ (z : Bool). AreBehind task old new k z i x m kept) f
    (subst (λ (z : N). AreBehind task old new z flat i x m kept) e behind)))

-- a node of one part stands where the part does
pub of_part : {C N : Type 0} (task : Task C N) (old new : List How) (n a : N) (d : Doc) (flat other : Bool) (i j x : ℕ) (m k : Measure C HowId) (kept : List (Measure C HowId)) →
    task.documents.document n ≡ d →
    after_in task.costs task.sought.limit d flat (chosen old m) i x ≡ after_in task.costs task.sought.limit (task.documents.document a) other (chosen old k) j x →
    AreBehind task old new a other j x k kept → AreBehind task old new n flat i x m kept
of_part task old new n a d flat other i j x m k kept is same h =
    (h.0, h.1 ∙ sym (ap (λ (z : Doc). after_in task.costs task.sought.limit z flat (chosen old m) i x) is ∙ same))

-- and may be asked for where the node may
pub part_before : {C N : Type 0} (task : Task C N) (ways : List How) (n a : N) (m : Measure C HowId) → most_pieces (task.documents.document a) ≤ most_pieces (task.documents.document n) →
    IsBefore task ways n m → IsBefore task ways a m
part_before task ways n a m fewer h = (h.0, h.1, room_fewer task.costs (most_pieces (task.documents.document a)) (most_pieces (task.documents.document n)) m.cost fewer h.2)

-- a text that is known to be one
pub text_found : {C N : Type 0} (task : Task C N) (old new : List How) (n : N) (flat : Bool) (i x len : ℕ) (how : HowId) (m : Measure C HowId) (kept : List (Measure C HowId)) →
    IsSought task old → IsWayOf old (task.documents.document n) flat (spans.Text len) how → BelongTo new kept →
    all_chosen new kept ≡ where_within (nat_le (m.last + len) task.sought.limit) (measured (m.last + len) (task.costs.add m.cost (task.costs.text m.last len)) (choices_of old m.how.0 ++ choices_of old how.0)) →
    AreBehind task old new n flat i x m kept
text_found task old new n flat i x len how m kept told holds belong is =
    (belong, is ∙ sym (line.after_text task.costs told.lawful task.sought.limit (task.documents.document n) flat (chosen old m) i x len (choices_of old how.0) (is_column task old told) holds.1.1 holds.1.0))

-- a leaf that is a text
pub leaf_text_found : {C N : Type 0} (task : Task C N) (ways : List How) (n : N) (flat : Bool) (i x len : ℕ) (m k : Measure C HowId) →
    IsSought task ways → SpanHolds (task.documents.document n) flat (spans.Text len) [] → m.how.0 < length ways → m.last + len ≤ task.sought.limit →
    k ≡ extended task.costs m (m.last + len) (task.costs.text m.last len) → AreBehind task ways ways n flat i x m (k ∷ [])
leaf_text_found {C = C} task ways n flat i x len m k told holds way near is =
    let w = task.sought.limit in
    let own = choices_of ways m.how.0 in
    let text : List Dir → Measure C (List Dir) = λ how. measured (m.last + len) (task.costs.add m.cost (task.costs.text m.last len)) how in
    let one : Measure C HowId = extended task.costs m (m.last + len) (task.costs.text m.last len) in
    subst (λ (z : Measure C HowId). AreBehind task ways ways n flat i x m (z ∷ [])) (sym is) (
      one_belongs ways (one ∷ []) one refl way,
      ap (λ (b : Bool). where_within b (text own)) (sym (true_le (m.last + len) w near))
          ∙ (ap (λ (z : List Dir). where_within (nat_le (m.last + len) w) (text z)) (sym (append-nil own))
          ∙ sym (line.after_text task.costs told.lawful w (task.documents.document n) flat (chosen ways m) i x len [] (is_column task ways told) holds.1 holds.0)),
    )

-- one that goes past the width, by whatever way
pub long_text_found : {C N : Type 0} (task : Task C N) (old : List How) (n : N) (flat : Bool) (i x len : ℕ) (m : Measure C HowId) (kept : List (Measure C HowId)) →
    IsSought task old → (how : List Dir) × SpanHolds (task.documents.document n) flat (spans.Text len) how → task.sought.limit < m.last + len → kept ≡ [] → AreBehind task old old n flat i x m kept
unfolding BelongTo
long_text_found {C = C} task old n flat i x len m kept told holds long e =
    let text : Measure C (List Dir) = measured (m.last + len) (task.costs.add m.cost (task.costs.text m.last len)) (choices_of old m.how.0 ++ holds.0) in
    let none : after_in task.costs task.sought.limit (task.documents.document n) flat (chosen old m) i x ≡ [] =
    line.after_text task.costs told.lawful task.sought.limit (task.documents.document n) flat (chosen old m) i x len holds.0 (is_column task old told) holds.1.1 holds.1.0
    ∙ ap (λ (b : Bool). where_within b text) (false_le (m.last + len) task.sought.limit long) in
    subst (λ (z : List (Measure C HowId)). AreBehind task old old n flat i x m z) (sym e) (tt, sym none)

-- one that has no layout
pub nothing_found : {C N : Type 0} (task : Task C N) (old : List How) (n : N) (flat : Bool) (i x : ℕ) (m : Measure C HowId) (kept : List (Measure C HowId)) →
    (how : List Dir) × SpanHolds (task.documents.document n) flat spans.Nothing how → kept ≡ [] → AreBehind task old old n flat i x m kept
unfolding BelongTo after_in
nothing_found {C = C} task old n flat i x m kept holds e =
    subst (λ (z : List (Measure C HowId)). AreBehind task old old n flat i x m z) (sym e)
    (tt, sym (ap (λ (o : Option Doc). after_some task.costs task.sought.limit o (chosen old m) i x) holds.1))

-- a line that task.costs nothing
pub line_found : {C N : Type 0} (task : Task C N) (old new : List How) (n : N) (flat : Bool) (i x len : ℕ) (how : HowId) (m : Measure C HowId) (kept : List (Measure C HowId)) →
    IsSought task old → IsBefore task old n m → IsWayOf old (task.documents.document n) flat (spans.Long len) how → BelongTo new kept →
    m.last + len ≤ task.sought.free → m.last + len ≤ x →
    all_chosen new kept ≡ measured (m.last + len) m.cost (choices_of old m.how.0 ++ choices_of old how.0) ∷ [] →
    AreBehind task old new n flat i x m kept
line_found task old new n flat i x len how m kept told before holds belong free near is =
    let d = task.documents.document n in (
      belong,
      is ∙ sym (line.after_line task.costs told.lawful told.nothing task.sought.limit task.sought.free d flat (chosen old m) i x len (choices_of old how.0)
          (is_column task old told) (is_document task old n told) told.texts (room_value task.costs told.lawful (most_pieces d) m.cost before.2) holds.1 near free (omega (arith, free, told.near))),
    )

-- a break
break_there : {C : Type 0} (costs : Costs C) (w : ℕ) (m : Measure C (List Dir)) (i : ℕ) (b : Bool) → b ≡ true →
    where_within (nat_le i w) (extended costs m i (costs.newline i)) ≡ where_within (b && nat_le i w) (extended costs m i (costs.newline i))
break_there costs w m i true e = refl
break_there costs w m i false e = cc

pub break_found : {C N : Type 0} (task : Task C N) (old : List How) (n : N) (d : Doc) (flat : Bool) (i x : ℕ) (m : Measure C HowId) (kept : List (Measure C HowId)) →
    IsBefore task old n m → task.documents.document n ≡ d → after_in task.costs task.sought.limit d flat (chosen old m) i x ≡ break_behind task.costs task.sought.limit (chosen old m) i → BelongTo old kept →
    all_chosen old kept ≡ where_within (nat_le i task.sought.limit) (extended task.costs (chosen old m) i (task.costs.newline i)) →
    AreBehind task old old n flat i x m kept
break_found task old n d flat i x m kept before is breaks belong e = (
  belong,
  e ∙ (break_there task.costs task.sought.limit (chosen old m) i (nat_le m.last task.sought.limit) (true_le m.last task.sought.limit before.0)
      ∙ sym (ap (λ (z : Doc). after_in task.costs task.sought.limit z flat (chosen old m) i x) is ∙ breaks)),
)

-- nothing
pub none_found : {C N : Type 0} (task : Task C N) (old : List How) (n : N) (d : Doc) (flat : Bool) (i x : ℕ) (m : Measure C HowId) (kept : List (Measure C HowId)) →
    task.documents.document n ≡ d → after_in task.costs task.sought.limit d flat (chosen old m) i x ≡ [] → kept ≡ [] → AreBehind task old old n flat i x m kept
unfolding BelongTo
none_found {C = C} task old n d flat i x m kept is none e =
    subst (λ (z : List (Measure C HowId)). AreBehind task old old n flat i x m z) (sym e)
    (tt, sym (ap (λ (z : Doc). after_in task.costs task.sought.limit z flat (chosen old m) i x) is ∙ none))

-- a text or a space, by no choice
pub plain_text_found : {C N : Type 0} (task : Task C N) (old : List How) (n : N) (d : Doc) (flat : Bool) (i x len : ℕ) (m : Measure C HowId) (kept : List (Measure C HowId)) →
    task.documents.document n ≡ d → after_in task.costs task.sought.limit d flat (chosen old m) i x ≡ text_behind task.costs task.sought.limit (chosen old m) len → BelongTo old kept →
    all_chosen old kept ≡ where_within (nat_le (m.last + len) task.sought.limit) (extended task.costs (chosen old m) (m.last + len) (task.costs.text m.last len)) →
    AreBehind task old old n flat i x m kept
plain_text_found task old n d flat i x len m kept is text belong e =
    (belong, e ∙ sym (ap (λ (z : Doc). after_in task.costs task.sought.limit z flat (chosen old m) i x) is ∙ text))

-- where the measures before a node may be cut
pub may_cut : (w free x y : ℕ) (d : Doc) (flat : Bool) (t : Told) → ToldHolds d flat t → free ≤ w → y ≡ cut_of w free t x → MayCutIn w free d flat x y
may_cut w free x y d flat t h near e = by_span w free x y d flat t.span t.begins h.0 h.1 near e
  where
    by_break : (w free x y : ℕ) (d : Doc) (flat begins : Bool) → (begins ≡ true → begins_in d flat ≡ true) → y ≡ cond begins w 0 → MayCutIn w free d flat x y
    by_break w free x y d flat true f e = inr (inl (f refl))
    by_break w free x y d flat false f e = inl e

    by_text : (w free x y len : ℕ) (d : Doc) (flat : Bool) → flat_length_in d flat ≡ Some len → free ≤ w → y ≡ min x free - len → MayCutIn w free d flat x y
    by_text w free x y len d flat known near e =
        elim (may_cut_at w free x false (Some len) near) [
          | inl none ↦ inl (e ∙ none)
          | inr (inl begins) ↦ cc
          | inr (inr by) ↦
              let same : by.0 ≡ len = cc in
              inr (inr (len, known, omega (arith, e, same, by.2), omega (arith, e, same, by.3), omega (arith, e, same, by.4)))
        ]

    by_span : (w free x y : ℕ) (d : Doc) (flat : Bool) (l : Span) (begins : Bool) → (how : List Dir) × SpanHolds d flat l how → (begins ≡ true → begins_in d flat ≡ true) → free ≤ w →
        y ≡ line_cut w free l begins x → MayCutIn w free d flat x y
    by_span w free x y d flat spans.Nothing begins h f near e = by_break w free x y d flat begins f e
    by_span w free x y d flat spans.Never begins h f near e = by_break w free x y d flat begins f e
    by_span w free x y d flat (spans.Long len) begins h f near e = by_break w free x y d flat begins f e
    by_span w free x y d flat (spans.Text len) begins h f near e = by_text w free x y len d flat h.1.1 near e
    by_span w free x y d flat spans.Unsure begins h f near e = by_break w free x y d flat begins f e

-- newlines, flat and not
pub flat_newline : {C : Type 0} (costs : Costs C) (w : ℕ) (flat : Bool) (m : Measure C (List Dir)) (i x : ℕ) → flat ≡ true → after_in costs w Newline flat m i x ≡ text_behind costs w m 1
flat_newline costs w true m i x e = (step.after_newline costs w m i x).1
flat_newline costs w false m i x e = cc

pub loose_newline : {C : Type 0} (costs : Costs C) (w : ℕ) (flat : Bool) (m : Measure C (List Dir)) (i x : ℕ) → flat ≡ false → after_in costs w Newline flat m i x ≡ break_behind costs w m i
loose_newline costs w true m i x e = cc
loose_newline costs w false m i x e = (step.after_newline costs w m i x).0

pub flat_hard : {C : Type 0} (costs : Costs C) (w : ℕ) (flat : Bool) (m : Measure C (List Dir)) (i x : ℕ) → flat ≡ true → after_in costs w Hard flat m i x ≡ []
flat_hard costs w true m i x e = (step.after_hard costs w m i x).1
flat_hard costs w false m i x e = cc

pub loose_hard : {C : Type 0} (costs : Costs C) (w : ℕ) (flat : Bool) (m : Measure C (List Dir)) (i x : ℕ) → flat ≡ false → after_in costs w Hard flat m i x ≡ break_behind costs w m i
loose_hard costs w true m i x e = cc
loose_hard costs w false m i x e = (step.after_hard costs w m i x).0

-- a line break, and one past the width
pub loose_break : {C : Type 0} (costs : Costs C) (w : ℕ) (d : Doc) (flat : Bool) (m : Measure C (List Dir)) (i x : ℕ) → IsLineBreak d flat → after_in costs w d flat m i x ≡ break_behind costs w m i
loose_break costs w d flat m i x (inl is, loose) = ap (λ (z : Doc). after_in costs w z flat m i x) is ∙ loose_newline costs w flat m i x loose
loose_break costs w d flat m i x (inr is, loose) = ap (λ (z : Doc). after_in costs w z flat m i x) is ∙ loose_hard costs w flat m i x loose

no_break : {C : Type 0} (costs : Costs C) (w : ℕ) (m : Measure C (List Dir)) (i : ℕ) (b c : Bool) → c ≡ false → where_within (b && c) (extended costs m i (costs.newline i)) ≡ []
no_break costs w m i true false e = refl
no_break costs w m i false false e = refl
no_break costs w m i b true e = cc

pub far_break : {C : Type 0} (costs : Costs C) (w : ℕ) (d : Doc) (flat : Bool) (m : Measure C (List Dir)) (i x : ℕ) → IsLineBreak d flat → w < i → after_in costs w d flat m i x ≡ []
far_break costs w d flat m i x loose far =
    loose_break costs w d flat m i x loose ∙ no_break costs w m i (nat_le m.last w) (nat_le i w) (false_le i w far)
