-- Laws of cut frontiers and of what stands behind a measure, for each lawful way of counting costs.
use Rattle.std.specs.Prelude.{◌≡◌, ◌≤◌, ℕ, ◌+◌, ◌&&◌, nat_le, IsTrue, IsFalse, Some, List, [], ◌∷◌, ◌++◌, length, map, flat_map, slice_get}
use Rattle.rf_base_document.specs.declared.directions.Dir.{Dir}
use Rattle.rf_base_document.specs.declared.directions.Dir.TheVariants.{Left, Right}
use Rattle.rf_base_document.specs.Document.{Doc, Text, Newline, Concat, Nest, Align, Reset, Choice, Only, Charge, IsDocument}
use Rattle.rf_base_cost.specs.declared.measures.Measure.{Measure}
use Rattle.rf_base_cost.specs.Cost.{Costs, IsValue, IsColumn, IsCharge, Lawful}
use Rattle.rf_base_cost.specs.Pareto.{pareto, IsMember, IsFrontier, EachIsValue, all_marked, all_shifted, all_raised}
use Rattle.rf_base_cost.specs.Reflecting.{ReflectsOrderUpTo}
use Rattle.rf_base_optimum.specs.Plain.{leaf_measure, where_within, plain, EachEndsBy}
use Rattle.rf_base_optimum.specs.Chosen.{chosen, choose}
use Rattle.rf_base_optimum.specs.MostPieces.{most_pieces}
use Rattle.rf_base_cut.specs.Cut.{cut, after, turned, extended, EachCostsPieces, HasRoom}
use Rattle.rf_base_cut.specs.OneLine.{measured, first_choices, flat_length, is_never_free, OneLine, NothingIsLeast}
use Rattle.rf_base_cut.specs.Indifferent.{IsCutAt, begins_with_break, IsFree, MayCut, indifferent}

-- a frontier cut at 0 is whole
abbrev pub NothingCutOff : Type 0 → Type 0 → Type 0
NothingCutOff C H = (costs : Costs C) (list : List (Measure C H)) → IsFrontier costs list → cut 0 list ≡ list

-- what was cut further left can be cut further
abbrev pub CutAgain : Type 0 → Type 0 → Type 0
CutAgain C H = (x y : ℕ) (list : List (Measure C H)) → y ≤ x → cut x (cut y list) ≡ cut x list

-- cutting looks at last columns alone, so measures can be shifted, marked and raised before or after
abbrev pub CutLooksAtLasts : Type 0 → Type 0 → Type 0 → Type 0
CutLooksAtLasts C H K =
    (x : ℕ) (f : Measure C H → Measure C K) (list : List (Measure C H)) →
    ((m : Measure C H) → (f m).last ≡ m.last) → cut x (map f list) ≡ map f (cut x list)

-- the first measure is never cut off
abbrev pub FirstStays : Type 0 → Type 0 → Type 0
FirstStays C H = (x : ℕ) (list : List (Measure C H)) → slice_get (cut x list) 0 ≡ slice_get list 0

-- where the first measure ends by x, it alone stays
abbrev pub FirstIsEnough : Type 0 → Type 0 → Type 0
FirstIsEnough C H = (x : ℕ) (m : Measure C H) (rest : List (Measure C H)) → m.last ≤ x → cut x (m ∷ rest) ≡ m ∷ []

-- a frontier of values that is cut is one
abbrev pub CutIsFrontier : Type 0 → Type 0 → Type 0
CutIsFrontier C H =
    (costs : Costs C) (x : ℕ) (list : List (Measure C H)) → IsFrontier costs list → EachIsValue costs list →
    IsFrontier costs (cut x list) × EachIsValue costs (cut x list)

-- two frontiers can be cut before they are pruned as one list and cut
abbrev pub CutBothFirst : Type 0 → Type 0 → Type 0
CutBothFirst C H =
    (costs : Costs C) (x : ℕ) (list more : List (Measure C H)) → Lawful costs →
    EachIsValue costs list → EachIsValue costs more → IsFrontier costs list → IsFrontier costs more →
    cut x (pareto costs (list ++ more)) ≡ cut x (pareto costs (cut x list ++ cut x more))

-- all frontiers of a row can be cut before they are pruned as one list and cut
abbrev pub CutEachFirst : Type 0 → Type 0 → Type 0 → Type 0
CutEachFirst A C H =
    (costs : Costs C) (x : ℕ) (f : A → List (Measure C H)) (row : List A) → Lawful costs →
    ((k : A) → IsMember k row → EachIsValue costs (f k) × IsFrontier costs (f k)) →
    cut x (pareto costs (flat_map f row)) ≡ cut x (pareto costs (flat_map (λ k. cut x (f k)) row))

-- pruning and cutting two parts, and then both as one list, prunes and cuts the whole
abbrev pub CutByParts : Type 0 → Type 0 → Type 0
CutByParts C H =
    (costs : Costs C) (x : ℕ) (list more : List (Measure C H)) → Lawful costs →
    EachIsValue costs list → EachIsValue costs more →
    cut x (pareto costs (cut x (pareto costs list) ++ cut x (pareto costs more))) ≡ cut x (pareto costs (list ++ more))

-- what comes to a list that is pruned and cut is pruned and cut with it
abbrev pub CutOnwards : Type 0 → Type 0 → Type 0
CutOnwards C H =
    (costs : Costs C) (x : ℕ) (list more : List (Measure C H)) → Lawful costs →
    EachIsValue costs list → EachIsValue costs more →
    cut x (pareto costs (cut x (pareto costs list) ++ more)) ≡ cut x (pareto costs (list ++ more))

-- a frontier behind a measure is one, where there is room for what its measures cost
abbrev pub ShiftedIsFrontier : Type 0 → Type 0
ShiftedIsFrontier C =
    (costs : Costs C) (n : ℕ) (m : Measure C (List Dir)) (list : List (Measure C (List Dir))) →
    HasRoom costs n m.cost → EachCostsPieces costs n list → IsFrontier costs list →
    IsFrontier costs (all_shifted costs m list)

-- a frontier that is raised by a cost is one, where there is room behind the cost for what its measures cost
abbrev pub RaisedIsFrontier : Type 0 → Type 0
RaisedIsFrontier C =
    (costs : Costs C) (n : ℕ) (by : C) (list : List (Measure C (List Dir))) →
    HasRoom costs n by → EachCostsPieces costs n list → IsFrontier costs list →
    IsFrontier costs (all_raised costs by list)

-- a frontier that is marked is one
abbrev pub MarkedIsFrontier : Type 0 → Type 0
MarkedIsFrontier C =
    (costs : Costs C) (dir : Dir) (list : List (Measure C (List Dir))) → IsFrontier costs list →
    IsFrontier costs (all_marked dir list)

-- each measure of a core's frontier costs what counted pieces cost, at most as many as a resolution may have
abbrev pub PlainCostsPieces : Type 0 → Type 0
PlainCostsPieces C =
    (costs : Costs C) (w : ℕ) (d : Doc) (column indentation : ℕ) → Lawful costs → IsColumn w → IsDocument d →
    EachCostsPieces costs (most_pieces d) (plain costs w d column indentation)

-- behind nothing there is room for n pieces where addition reflects the order of what one piece more costs
abbrev pub NothingHasRoom : Type 0 → Type 0
NothingHasRoom C =
    (costs : Costs C) (n column : ℕ) → IsColumn column → ReflectsOrderUpTo costs (n + 1) →
    HasRoom costs n (costs.text column 0)

-- where there is room the cost is a value
abbrev pub RoomIsValue : Type 0 → Type 0
RoomIsValue C = (costs : Costs C) (n : ℕ) (cost : C) → Lawful costs → HasRoom costs n cost → IsValue costs cost

-- where there is room for more pieces there is room for fewer
abbrev pub RoomForFewer : Type 0 → Type 0
RoomForFewer C = (costs : Costs C) (n more : ℕ) (cost : C) → n ≤ more → HasRoom costs more cost → HasRoom costs n cost

-- behind what stands behind a measure there is room for what there was room for behind the core
abbrev pub AfterHasRoom : Type 0 → Type 0
AfterHasRoom C =
    (costs : Costs C) (w : ℕ) (d : Doc) (m k : Measure C (List Dir)) (indentation x n : ℕ) →
    Lawful costs → IsColumn w → IsDocument d → HasRoom costs (most_pieces d + n) m.cost →
    IsMember k (after costs w d m indentation x) → HasRoom costs n k.cost

-- behind a charge there is room for one piece less than before it
abbrev pub ChargedHasRoom : Type 0 → Type 0
ChargedHasRoom C =
    (costs : Costs C) (n k : ℕ) (cost : C) → Lawful costs → IsCharge k → HasRoom costs (n + 1) cost →
    HasRoom costs n (costs.add cost (costs.charge k))

-- what stands behind a measure is a frontier of values, of which none ends past w
abbrev pub AfterIsFrontier : Type 0 → Type 0
AfterIsFrontier C =
    (costs : Costs C) (w : ℕ) (d : Doc) (m : Measure C (List Dir)) (indentation x : ℕ) →
    Lawful costs → IsColumn w → IsDocument d → HasRoom costs (most_pieces d) m.cost →
    IsFrontier costs (after costs w d m indentation x) × EachIsValue costs (after costs w d m indentation x)
    × EachEndsBy w (after costs w d m indentation x) × (length (after costs w d m indentation x) ≤ w + 1)

-- behind nothing stands a core's frontier, cut
abbrev pub NothingBefore : Type 0 → Type 0
NothingBefore C =
    (costs : Costs C) (w : ℕ) (d : Doc) (column indentation x : ℕ) →
    Lawful costs → IsColumn w → IsColumn column → IsDocument d →
    after costs w d (leaf_measure column (costs.text column 0)) indentation x
    ≡ cut x (plain costs w d column indentation)

-- the first measure behind nothing is chosen, wherever it is cut
abbrev pub FirstIsChosen : Type 0 → Type 0
FirstIsChosen C =
    (costs : Costs C) (w : ℕ) (d : Doc) (column indentation x : ℕ) (m : Measure C (List Dir)) →
    Lawful costs → IsColumn w → IsColumn column → IsDocument d →
    slice_get (after costs w d (leaf_measure column (costs.text column 0)) indentation x) 0 ≡ Some m →
    choose costs w d column indentation ≡ chosen m.how m.last

-- what stands behind a measure, cut no further right, can be cut further
abbrev pub AfterAgain : Type 0 → Type 0
AfterAgain C =
    (costs : Costs C) (w : ℕ) (d : Doc) (m : Measure C (List Dir)) (indentation x y : ℕ) → y ≤ x →
    cut x (after costs w d m indentation y) ≡ after costs w d m indentation x

-- what stands behind a measure can be had from the core's frontier that was cut no further right
abbrev pub AfterRow : Type 0 → Type 0
AfterRow C =
    (costs : Costs C) (w : ℕ) (d : Doc) (m : Measure C (List Dir)) (indentation x y : ℕ) → y ≤ x →
    after costs w d m indentation x ≡ all_shifted costs m (cut x (cut y (plain costs w d m.last indentation)))

-- a text stands behind a measure where it ends within w
abbrev pub AfterText : Type 0 → Type 0
AfterText C =
    (costs : Costs C) (w : ℕ) (s : List ℕ) (len : ℕ) (m : Measure C (List Dir)) (indentation x : ℕ) →
    after costs w (Text s len) m indentation x
    ≡ where_within (nat_le (m.last + len) w) (extended costs m (m.last + len) (costs.text m.last len))

-- a newline stands behind a measure, and ends at the indentation, where both are within w
abbrev pub AfterNewline : Type 0 → Type 0
AfterNewline C =
    (costs : Costs C) (w : ℕ) (m : Measure C (List Dir)) (indentation x : ℕ) →
    after costs w Newline m indentation x
    ≡ where_within (nat_le m.last w && nat_le indentation w) (extended costs m indentation (costs.newline indentation))

-- what is nested stands behind a measure with more indentation
abbrev pub AfterNest : Type 0 → Type 0
AfterNest C =
    (costs : Costs C) (w n : ℕ) (a : Doc) (m : Measure C (List Dir)) (indentation x : ℕ) →
    after costs w (Nest n a) m indentation x ≡ after costs w a m (indentation + n) x

-- what is aligned stands behind a measure with its last column as indentation, whatever the indentation was
abbrev pub AfterAlign : Type 0 → Type 0
AfterAlign C =
    (costs : Costs C) (w : ℕ) (a : Doc) (m : Measure C (List Dir)) (indentation x : ℕ) →
    after costs w (Align a) m indentation x ≡ after costs w a m m.last x

-- what is reset stands behind a measure without indentation
abbrev pub AfterReset : Type 0 → Type 0
AfterReset C =
    (costs : Costs C) (w : ℕ) (a : Doc) (m : Measure C (List Dir)) (indentation x : ℕ) →
    after costs w (Reset a) m indentation x ≡ after costs w a m 0 x

-- the side that is left of a choice stands behind the measure that has its direction too
abbrev pub AfterOnly : Type 0 → Type 0
AfterOnly C =
    (costs : Costs C) (w : ℕ) (dir : Dir) (a : Doc) (m : Measure C (List Dir)) (indentation x : ℕ) →
    after costs w (Only dir a) m indentation x ≡ after costs w a (turned dir m) indentation x

-- what is charged stands behind the measure that has the charge too
abbrev pub AfterCharge : Type 0 → Type 0
AfterCharge C =
    (costs : Costs C) (w k : ℕ) (a : Doc) (m : Measure C (List Dir)) (indentation x : ℕ) →
    Lawful costs → IsColumn w → IsDocument (Charge k a) → HasRoom costs (most_pieces (Charge k a)) m.cost →
    after costs w (Charge k a) m indentation x
    ≡ after costs w a (extended costs m m.last (costs.charge k)) indentation x

-- each side of a choice stands behind the measure that has its direction too, and what is worth keeping of both stays
abbrev pub AfterChoice : Type 0 → Type 0
AfterChoice C =
    (costs : Costs C) (w : ℕ) (a b : Doc) (m : Measure C (List Dir)) (indentation x : ℕ) →
    Lawful costs → IsColumn w → IsDocument (Choice a b) → HasRoom costs (most_pieces (Choice a b)) m.cost →
    after costs w (Choice a b) m indentation x
    ≡ cut x (pareto costs
    (after costs w a (turned Left m) indentation x ++ after costs w b (turned Right m) indentation x))

-- the second part of two stands behind each measure of the first, whose frontier may be cut
abbrev pub AfterConcat : Type 0 → Type 0
AfterConcat C =
    (costs : Costs C) (w free : ℕ) (a b : Doc) (m : Measure C (List Dir)) (indentation x y : ℕ) →
    Lawful costs → IsColumn w → IsDocument (Concat a b) → HasRoom costs (most_pieces (Concat a b)) m.cost →
    IsFree costs free → MayCut w free b x y → IsCutAt costs w a b m indentation x y

-- it may be cut where the second part is indifferent
abbrev pub IndifferentMayCut : Type 0
IndifferentMayCut = (w free x : ℕ) (d : Doc) → free ≤ w → MayCut w free d x (indifferent w free d x)

-- up to column 0 texts cost nothing
abbrev pub NoTextIsFree : Type 0 → Type 0
NoTextIsFree C = (costs : Costs C) → IsFree costs 0

-- a core without breaks and charges whose layouts are equally long has the frontier of one text, by its first choices
abbrev pub FlatIsText : Type 0 → Type 0
FlatIsText C =
    (costs : Costs C) (w : ℕ) (d : Doc) (column indentation len : ℕ) →
    Lawful costs → IsColumn w → flat_length d ≡ Some len →
    plain costs w d column indentation
    ≡ where_within (nat_le (column + len) w) (measured (column + len) (costs.text column len) (first_choices d))

-- what is flat stands behind a measure as one text, by its first choices
abbrev pub AfterFlat : Type 0 → Type 0
AfterFlat C =
    (costs : Costs C) (w : ℕ) (d : Doc) (m : Measure C (List Dir)) (indentation x len : ℕ) →
    Lawful costs → IsColumn w → flat_length d ≡ Some len →
    after costs w d m indentation x
    ≡ where_within (nat_le (m.last + len) w)
    (measured (m.last + len) (costs.add m.cost (costs.text m.last len)) (m.how ++ first_choices d))

-- a core that begins with a break has one frontier at all columns within w
abbrev pub BreakKnowsNoColumn : Type 0 → Type 0
BreakKnowsNoColumn C =
    (costs : Costs C) (w : ℕ) (d : Doc) (column other indentation : ℕ) → IsTrue (begins_with_break d) →
    column ≤ w → other ≤ w → plain costs w d column indentation ≡ plain costs w d other indentation

-- where each resolution has a break or a charge, each measure costs more than nothing
abbrev pub NeverFreeCosts : Type 0 → Type 0
NeverFreeCosts C =
    (costs : Costs C) (w : ℕ) (d : Doc) (column indentation : ℕ) (m : Measure C (List Dir)) →
    Lawful costs → NothingIsLeast costs → IsColumn w → IsDocument d → IsTrue (is_never_free d) →
    IsMember m (plain costs w d column indentation) → IsFalse (costs.le m.cost (costs.text 0 0))

-- on one line a document takes up one number of columns, by one list of choices; where each resolution has a break or
-- a charge there is none
abbrev pub OneLineIsOne : Type 0
OneLineIsOne =
    (d : Doc) (len : ℕ) (how : List Dir) → OneLine d len how →
    IsFalse (is_never_free d)
    × ((other : ℕ) (others : List Dir) → OneLine d other others → (other ≡ len) × (others ≡ how))

-- a layout on one line that costs nothing is the first measure of the frontier
abbrev pub OneLineIsFirst : Type 0 → Type 0
OneLineIsFirst C =
    (costs : Costs C) (w free : ℕ) (d : Doc) (column indentation len : ℕ) (how : List Dir) →
    Lawful costs → NothingIsLeast costs → IsColumn w → IsDocument d → IsFree costs free → OneLine d len how →
    column + len ≤ free → column + len ≤ w →
    (rest : List (Measure C (List Dir)))
    × (plain costs w d column indentation ≡ measured (column + len) (costs.text 0 0) how ∷ rest)

-- where a layout on one line costs nothing and ends by x, it is all that stands behind a measure
abbrev pub AfterOneLine : Type 0 → Type 0
AfterOneLine C =
    (costs : Costs C) (w free : ℕ) (d : Doc) (m : Measure C (List Dir)) (indentation x len : ℕ) (how : List Dir) →
    Lawful costs → NothingIsLeast costs → IsColumn w → IsDocument d → IsFree costs free → IsValue costs m.cost →
    OneLine d len how → m.last + len ≤ x → m.last + len ≤ free → m.last + len ≤ w →
    after costs w d m indentation x ≡ measured (m.last + len) m.cost (m.how ++ how) ∷ []
