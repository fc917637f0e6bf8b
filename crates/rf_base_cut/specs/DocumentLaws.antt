-- Laws of what stands behind a measure of a document, flat or not, for each lawful way of counting costs.
use Rattle.std.specs.Prelude.{◌≡◌, ◌↔◌, ◌≤◌, ℕ, ◌+◌, Bool, true, false, nat_le, IsTrue, None, Some, List, [], ◌∷◌, ◌++◌, length, take, drop}
use Rattle.rf_base_document.specs.declared.directions.Dir.{Dir}
use Rattle.rf_base_document.specs.declared.directions.Dir.TheVariants.{Left, Right}
use Rattle.rf_base_document.specs.Document.{Doc, Text, Newline, Hard, Concat, Nest, Align, Reset, Flatten, Choice, Only, Charge, IsDocument}
use Rattle.rf_base_document.specs.Sequence.{half_up, seq}
use Rattle.rf_base_document.specs.Render.{Piece, Laid, laid}
use Rattle.rf_base_document.specs.Picks.{LaidOutBy}
use Rattle.rf_base_document.specs.Simple.{simple}
use Rattle.rf_base_cost.specs.declared.measures.Measure.{Measure}
use Rattle.rf_base_cost.specs.Cost.{Costs, IsValue, IsColumn, Lawful, cost_of}
use Rattle.rf_base_cost.specs.Pareto.{pareto, IsMember, IsFrontier, EachIsValue, all_shifted}
use Rattle.rf_base_optimum.specs.Plain.{leaf_measure, where_within, EachEndsBy}
use Rattle.rf_base_optimum.specs.Best.{WithinBy, HasWithin}
use Rattle.rf_base_optimum.specs.Chosen.{chosen, choose}
use Rattle.rf_base_optimum.specs.MostPieces.{most_pieces}
use Rattle.rf_base_cut.specs.Cut.{cut, turned, extended, HasRoom}
use Rattle.rf_base_cut.specs.OneLine.{measured, is_never_free, OneLine, NothingIsLeast}
use Rattle.rf_base_cut.specs.Indifferent.{IsFree}
use Rattle.rf_base_cut.specs.Documents.{after_in, text_behind, break_behind, IsCutIn, begins_in, flat_length_in, flat_lengths_in, first_begins_in, MayCutIn, indifferent_in, KnowsNoIndentation}
use Rattle.rf_base_cut.specs.DocumentLines.{Line, line, one_line, line_of_both, line_of_all, IsLong, IsFlattenable, AreLong, EachIsWord, OneLineIn}

-- a text stands behind a measure, flat or not, where it ends within w
abbrev pub AfterInText : Type 0 → Type 0
AfterInText C =
    (costs : Costs C) (w : ℕ) (s : List ℕ) (len : ℕ) (flat : Bool) (m : Measure C (List Dir)) (indentation x : ℕ) →
    after_in costs w (Text s len) flat m indentation x ≡ text_behind costs w m len

-- a newline stands behind a measure as a break, and where flat as a text of one space
abbrev pub AfterInNewline : Type 0 → Type 0
AfterInNewline C =
    (costs : Costs C) (w : ℕ) (m : Measure C (List Dir)) (indentation x : ℕ) →
    (after_in costs w Newline false m indentation x ≡ break_behind costs w m indentation)
    × (after_in costs w Newline true m indentation x ≡ text_behind costs w m 1)

-- a hard newline stands behind a measure as a break, and nowhere where flat
abbrev pub AfterInHard : Type 0 → Type 0
AfterInHard C =
    (costs : Costs C) (w : ℕ) (m : Measure C (List Dir)) (indentation x : ℕ) →
    (after_in costs w Hard false m indentation x ≡ break_behind costs w m indentation)
    × (after_in costs w Hard true m indentation x ≡ [])

-- what is nested stands behind a measure with more indentation
abbrev pub AfterInNest : Type 0 → Type 0
AfterInNest C =
    (costs : Costs C) (w n : ℕ) (a : Doc) (flat : Bool) (m : Measure C (List Dir)) (indentation x : ℕ) →
    after_in costs w (Nest n a) flat m indentation x ≡ after_in costs w a flat m (indentation + n) x

-- what is aligned stands behind a measure with its last column as indentation, whatever the indentation was
abbrev pub AfterInAlign : Type 0 → Type 0
AfterInAlign C =
    (costs : Costs C) (w : ℕ) (a : Doc) (flat : Bool) (m : Measure C (List Dir)) (indentation x : ℕ) →
    after_in costs w (Align a) flat m indentation x ≡ after_in costs w a flat m m.last x

-- what is reset stands behind a measure without indentation
abbrev pub AfterInReset : Type 0 → Type 0
AfterInReset C =
    (costs : Costs C) (w : ℕ) (a : Doc) (flat : Bool) (m : Measure C (List Dir)) (indentation x : ℕ) →
    after_in costs w (Reset a) flat m indentation x ≡ after_in costs w a flat m 0 x

-- what is flattened stands behind a measure flat, whether it was flat or not
abbrev pub AfterInFlatten : Type 0 → Type 0
AfterInFlatten C =
    (costs : Costs C) (w : ℕ) (a : Doc) (flat : Bool) (m : Measure C (List Dir)) (indentation x : ℕ) →
    after_in costs w (Flatten a) flat m indentation x ≡ after_in costs w a true m indentation x

-- the side that is left of a choice stands behind the measure that has its direction too
abbrev pub AfterInOnly : Type 0 → Type 0
AfterInOnly C =
    (costs : Costs C) (w : ℕ) (dir : Dir) (a : Doc) (flat : Bool) (m : Measure C (List Dir)) (indentation x : ℕ) →
    after_in costs w (Only dir a) flat m indentation x ≡ after_in costs w a flat (turned dir m) indentation x

-- what is charged stands behind the measure that has the charge too
abbrev pub AfterInCharge : Type 0 → Type 0
AfterInCharge C =
    (costs : Costs C) (w k : ℕ) (a : Doc) (flat : Bool) (m : Measure C (List Dir)) (indentation x : ℕ) →
    Lawful costs → IsColumn w → IsDocument (Charge k a) → HasRoom costs (most_pieces (Charge k a)) m.cost →
    after_in costs w (Charge k a) flat m indentation x
    ≡ after_in costs w a flat (extended costs m m.last (costs.charge k)) indentation x

-- each side of a choice stands behind the measure that has its direction too, and what is worth keeping of both stays;
-- where a side has no layout nothing of it stands there
abbrev pub AfterInChoice : Type 0 → Type 0
AfterInChoice C =
    (costs : Costs C) (w : ℕ) (a b : Doc) (flat : Bool) (m : Measure C (List Dir)) (indentation x : ℕ) →
    Lawful costs → IsColumn w → IsDocument (Choice a b) → HasRoom costs (most_pieces (Choice a b)) m.cost →
    after_in costs w (Choice a b) flat m indentation x
    ≡ cut x (pareto costs
    (after_in costs w a flat (turned Left m) indentation x ++ after_in costs w b flat (turned Right m) indentation x))

-- the second part of two stands behind each measure of the first, whose frontier may be cut; where a part has no layout
-- nothing stands there
abbrev pub AfterInConcat : Type 0 → Type 0
AfterInConcat C =
    (costs : Costs C) (w free : ℕ) (a b : Doc) (flat : Bool) (m : Measure C (List Dir)) (indentation x y : ℕ) →
    Lawful costs → IsColumn w → IsDocument (Concat a b) → HasRoom costs (most_pieces (Concat a b)) m.cost →
    IsFree costs free → MayCutIn w free b flat x y → IsCutIn costs w (Concat a b) a b flat m indentation x y

-- it may be cut where the second part is indifferent
abbrev pub IndifferentInMayCut : Type 0
IndifferentInMayCut =
    (w free x : ℕ) (d : Doc) (flat : Bool) → free ≤ w → MayCutIn w free d flat x (indifferent_in w free d flat x)

-- what stands behind a measure is a frontier of values, of which none ends past w
abbrev pub AfterInIsFrontier : Type 0 → Type 0
AfterInIsFrontier C =
    (costs : Costs C) (w : ℕ) (d : Doc) (flat : Bool) (m : Measure C (List Dir)) (indentation x : ℕ) →
    Lawful costs → IsColumn w → IsDocument d → HasRoom costs (most_pieces d) m.cost →
    let list = after_in costs w d flat m indentation x in
    IsFrontier costs list × EachIsValue costs list × EachEndsBy w list × (length list ≤ w + 1)

-- behind what stands behind a measure there is room for what there was room for behind the document
abbrev pub AfterInHasRoom : Type 0 → Type 0
AfterInHasRoom C =
    (costs : Costs C) (w : ℕ) (d : Doc) (flat : Bool) (m k : Measure C (List Dir)) (indentation x n : ℕ) →
    Lawful costs → IsColumn w → IsDocument d → HasRoom costs (most_pieces d + n) m.cost →
    IsMember k (after_in costs w d flat m indentation x) → HasRoom costs n k.cost

-- what stands behind a measure, cut no further right, can be cut further
abbrev pub AfterInAgain : Type 0 → Type 0
AfterInAgain C =
    (costs : Costs C) (w : ℕ) (d : Doc) (flat : Bool) (m : Measure C (List Dir)) (indentation x y : ℕ) → y ≤ x →
    cut x (after_in costs w d flat m indentation y) ≡ after_in costs w d flat m indentation x

-- what stands behind a measure can be had from what stands behind nothing at its last column, cut no further right
abbrev pub AfterInRow : Type 0 → Type 0
AfterInRow C =
    (costs : Costs C) (w : ℕ) (d : Doc) (flat : Bool) (m : Measure C (List Dir)) (indentation x y : ℕ) →
    Lawful costs → IsColumn w → IsColumn m.last → IsDocument d → y ≤ x →
    let nothing = leaf_measure m.last (costs.text m.last 0) in
    after_in costs w d flat m indentation x
    ≡ all_shifted costs m (cut x (after_in costs w d flat nothing indentation y))

-- what knows no indentation stands behind a measure alike at each
abbrev pub AfterInAnyIndentation : Type 0 → Type 0
AfterInAnyIndentation C =
    (costs : Costs C) (w : ℕ) (d : Doc) (flat : Bool) (m : Measure C (List Dir)) (indentation other x : ℕ) →
    KnowsNoIndentation d flat → after_in costs w d flat m indentation x ≡ after_in costs w d flat m other x

-- a sequence of at least two parts: the second half stands behind each measure of the first half, rounded up, whose
-- frontier may be cut
abbrev pub AfterInSequence : Type 0 → Type 0
AfterInSequence C =
    (costs : Costs C) (w free : ℕ) (parts : List Doc) (flat : Bool) (m : Measure C (List Dir)) (indentation x y : ℕ) →
    Lawful costs → IsColumn w → IsDocument (seq parts) → HasRoom costs (most_pieces (seq parts)) m.cost →
    IsFree costs free → 2 ≤ length parts →
    let first = seq (take (half_up (length parts)) parts) in
    let second = seq (drop (half_up (length parts)) parts) in
    MayCutIn w free second flat x y → IsCutIn costs w (seq parts) first second flat m indentation x y

-- a sequence of one part stands behind a measure as the part does, and one of none as a text of nothing
abbrev pub AfterInFew : Type 0 → Type 0
AfterInFew C =
    (costs : Costs C) (w : ℕ) (d : Doc) (flat : Bool) (m : Measure C (List Dir)) (indentation x : ℕ) →
    (after_in costs w (seq (d ∷ [])) flat m indentation x ≡ after_in costs w d flat m indentation x)
    × (after_in costs w (seq []) flat m indentation x ≡ text_behind costs w m 0)

-- both halves of a sequence of at least two parts keep the limits of documents where it does, and have its pieces
-- between them
abbrev pub HalvesShareOut : Type 0
HalvesShareOut =
    (parts : List Doc) → IsDocument (seq parts) → 2 ≤ length parts →
    let first = seq (take (half_up (length parts)) parts) in
    let second = seq (drop (half_up (length parts)) parts) in
    IsDocument first × IsDocument second × (most_pieces (seq parts) ≡ most_pieces first + most_pieces second)

-- a sequence begins with a break where its first part does, and its length is its parts' lengths added
abbrev pub SequenceFromParts : Type 0
SequenceFromParts =
    (parts : List Doc) (flat : Bool) →
    (begins_in (seq parts) flat ≡ first_begins_in parts flat)
    × (flat_length_in (seq parts) flat ≡ flat_lengths_in parts flat)

-- behind nothing a document, flat or not, has no measure exactly where no resolution of it is within w columns
abbrev pub NoneWithin : Type 0 → Type 0
NoneWithin C =
    (costs : Costs C) (w : ℕ) (d : Doc) (flat : Bool) (column indentation x : ℕ) →
    Lawful costs → IsColumn w → IsColumn column → IsDocument d →
    (after_in costs w d flat (leaf_measure column (costs.text column 0)) indentation x ≡ [])
    ↔ (HasWithin w d column indentation flat → ⊥)

-- where it has one, wherever it is cut, the first is what is chosen of its core: its choices pick a resolution within w
-- columns, which ends at the measure's last column and costs what the measure costs
abbrev pub FirstInIsChosen : Type 0 → Type 0
FirstInIsChosen C =
    (costs : Costs C) (w : ℕ) (d s : Doc) (flat : Bool) (column indentation x : ℕ) (m : Measure C (List Dir))
    (rest : List (Measure C (List Dir))) →
    Lawful costs → IsColumn w → IsColumn column → IsDocument d → simple d flat ≡ Some s →
    after_in costs w d flat (leaf_measure column (costs.text column 0)) indentation x ≡ m ∷ rest →
    (choose costs w s column indentation ≡ chosen m.how m.last)
    × ((whole : Laid) × WithinBy w d m.how column indentation flat whole × (whole.last ≡ m.last)
    × (cost_of costs whole.pieces ≡ Some m.cost))

-- cut at w, at most one measure stands behind a measure
abbrev pub OneAtWidth : Type 0 → Type 0
OneAtWidth C =
    (costs : Costs C) (w : ℕ) (d : Doc) (flat : Bool) (m : Measure C (List Dir)) (indentation : ℕ) →
    length (after_in costs w d flat m indentation w) ≤ 1

-- a document's first line is one of its layouts, at each place
abbrev pub LineIsLaidOut : Type 0
LineIsLaidOut =
    (d : Doc) (flat : Bool) (l : Line) (column indentation : ℕ) → one_line d flat ≡ Some l →
    (pieces : List Piece) × LaidOutBy d l.how column indentation flat (laid pieces (column + l.len)) × EachIsWord pieces

-- where each layout of a document on one line is told to be len columns long, it is
abbrev pub LongIsLong : Type 0
LongIsLong =
    (d : Doc) (choices : List Dir) (column indentation : ℕ) (flat : Bool) (len : ℕ) (whole : Laid) →
    IsLong d flat len → LaidOutBy d choices column indentation flat whole → EachIsWord whole.pieces →
    whole.last ≡ column + len

-- where each layout on one line is len columns long, a document's first line is one of its core, and as long
abbrev pub LineOfCore : Type 0
LineOfCore =
    (d : Doc) (flat : Bool) (len : ℕ) (l : Line) → IsLong d flat len → one_line d flat ≡ Some l →
    (l.len ≡ len) × ((s : Doc) × (simple d flat ≡ Some s) × OneLine s l.len l.how)

-- and where it has no line, each resolution of its core has a break or a charge
abbrev pub NoLineNeverFree : Type 0
NoLineNeverFree =
    (d s : Doc) (flat : Bool) (len : ℕ) → IsLong d flat len → one_line d flat ≡ None → simple d flat ≡ Some s →
    IsTrue (is_never_free s)

-- so where a document's first line costs nothing and ends by x, it is all that stands behind a measure
abbrev pub AfterInLine : Type 0 → Type 0
AfterInLine C =
    (costs : Costs C) (w free : ℕ) (d : Doc) (flat : Bool) (m : Measure C (List Dir)) (indentation x len : ℕ)
    (l : Line) →
    Lawful costs → NothingIsLeast costs → IsColumn w → IsDocument d → IsFree costs free → IsValue costs m.cost →
    IsLong d flat len → one_line d flat ≡ Some l → m.last + l.len ≤ x → m.last + l.len ≤ free → m.last + l.len ≤ w →
    after_in costs w d flat m indentation x ≡ measured (m.last + l.len) m.cost (m.how ++ l.how) ∷ []

-- what has no hard newline and no charge has, flat, the one length of its layouts
abbrev pub FlatWhereLong : Type 0
FlatWhereLong =
    (d : Doc) (len : ℕ) → IsFlattenable d → IsLong d true len → flat_length_in d true ≡ Some len

-- a document without breaks and charges whose layouts are equally long stands behind a measure as one text, by the
-- choices of its first line
abbrev pub AfterInFlat : Type 0 → Type 0
AfterInFlat C =
    (costs : Costs C) (w : ℕ) (d : Doc) (flat : Bool) (m : Measure C (List Dir)) (indentation x len : ℕ) →
    Lawful costs → IsColumn w → flat_length_in d flat ≡ Some len →
    (how : List Dir) × (one_line d flat ≡ Some (line len how))
    × (after_in costs w d flat m indentation x
    ≡ where_within (nat_le (m.last + len) w)
    (measured (m.last + len) (costs.add m.cost (costs.text m.last len)) (m.how ++ how)))

-- the first line of a sequence is its parts' first lines in a row, and so is that of two rows in a row
abbrev pub LineOfSequence : Type 0
LineOfSequence =
    (parts more : List Doc) (flat : Bool) →
    (one_line (seq parts) flat ≡ line_of_all parts flat)
    × (line_of_all (parts ++ more) flat ≡ line_of_both (line_of_all parts flat) (line_of_all more flat))

-- where parts share the columns out, each layout of their sequence on one line is as long
abbrev pub LongSequence : Type 0
LongSequence = (parts : List Doc) (flat : Bool) (len : ℕ) → AreLong parts flat len → IsLong (seq parts) flat len

-- where a document's layout on one line costs nothing and ends by x, it is all that stands behind a measure
abbrev pub AfterInOneLine : Type 0 → Type 0
AfterInOneLine C =
    (costs : Costs C) (w free : ℕ) (d : Doc) (flat : Bool) (m : Measure C (List Dir)) (indentation x len : ℕ)
    (how : List Dir) →
    Lawful costs → NothingIsLeast costs → IsColumn w → IsDocument d → IsFree costs free → IsValue costs m.cost →
    OneLineIn d flat len how → m.last + len ≤ x → m.last + len ≤ free → m.last + len ≤ w →
    after_in costs w d flat m indentation x ≡ measured (m.last + len) m.cost (m.how ++ how) ∷ []

-- a document without breaks and charges whose layouts are equally long stands behind a measure as one text, by the
-- choices that lay it out on one line
abbrev pub AfterInOneText : Type 0 → Type 0
AfterInOneText C =
    (costs : Costs C) (w : ℕ) (d : Doc) (flat : Bool) (m : Measure C (List Dir)) (indentation x len : ℕ)
    (how : List Dir) →
    Lawful costs → IsColumn w → flat_length_in d flat ≡ Some len → OneLineIn d flat len how →
    after_in costs w d flat m indentation x
    ≡ where_within (nat_le (m.last + len) w)
    (measured (m.last + len) (costs.add m.cost (costs.text m.last len)) (m.how ++ how))
