-- Laws of frontiers, of what is chosen and of paragraphs, for each lawful way of counting costs.
use Rattle.std.specs.Prelude.{◌≡◌, ◌↔◌, ◌≢◌, ℕ, ◌+◌, ◌<◌, ◌≤◌, min, Bool, false, List, [], ◌∷◌, length, Some}
use Rattle.rf_base_document.specs.declared.directions.Dir.{Dir}
use Rattle.rf_base_document.specs.Document.{Doc, IsDocument}
use Rattle.rf_base_document.specs.Sequence.{seq}
use Rattle.rf_base_document.specs.Render.{Laid, render, Within}
use Rattle.rf_base_document.specs.Picks.{LaidOutBy}
use Rattle.rf_base_document.specs.Simple.{IsCore, simple}
use Rattle.rf_base_cost.specs.declared.measures.Measure.{Measure}
use Rattle.rf_base_cost.specs.Cost.{Costs, IsColumn, Lawful, AtMost, cost_of}
use Rattle.rf_base_cost.specs.Pareto.{IsMember, IsFrontier, EachIsValue}
use Rattle.rf_base_cost.specs.Reflecting.{ReflectsOrderUpTo}
use Rattle.rf_base_optimum.specs.Plain.{plain, EachEndsBy}
use Rattle.rf_base_optimum.specs.Chosen.{chosen, choose}
use Rattle.rf_base_optimum.specs.Best.{WithinBy, HasWithin, CostsAtMost, IsLeast, Best}
use Rattle.rf_base_optimum.specs.Dearer.{IsDearer}
use Rattle.rf_base_optimum.specs.MostPieces.{most_pieces}
use Rattle.rf_base_optimum.specs.Paragraphs.{Paragraph, paragraphs_docs, EachIsDocument, EachHasCore, EachBest, chosen_apart, EachLaidOut, EachHasWithin}

-- a frontier of a core is one: last columns strictly fall, costs strictly rise, and no measure ends behind w
abbrev pub PlainIsFrontier : Type 0 → Type 0
PlainIsFrontier C =
    (costs : Costs C) (w : ℕ) (d : Doc) (column indentation : ℕ) → Lawful costs → IsColumn w → IsDocument d →
    IsFrontier costs (plain costs w d column indentation) × EachIsValue costs (plain costs w d column indentation)
    × EachEndsBy w (plain costs w d column indentation) × (length (plain costs w d column indentation) ≤ w + 1)

-- nothing is within w columns that begins behind them
abbrev pub NothingPastWidth : Type 0 → Type 0
NothingPastWidth C =
    (costs : Costs C) (w : ℕ) (d : Doc) (column indentation : ℕ) →
    w < column → plain costs w d column indentation ≡ []

-- all indentations past w give the same frontier
abbrev pub DeepIndentationsAlike : Type 0 → Type 0
DeepIndentationsAlike C =
    (costs : Costs C) (w : ℕ) (d : Doc) (column indentation : ℕ) →
    plain costs w d column (min indentation (w + 1)) ≡ plain costs w d column indentation

-- a resolution that is within w columns at a place is within them too at a place no further right and no deeper, and
-- there it ends no further right and costs no more
abbrev pub ShiftKeepsWithin : Type 0 → Type 0
ShiftKeepsWithin C =
    (costs : Costs C) (w : ℕ) (e : Doc) (column indentation other_column other_indentation : ℕ) (flat : Bool)
    (whole : Laid) →
    Lawful costs → IsColumn w → IsDocument e → other_column ≤ column → other_indentation ≤ indentation →
    render e column indentation flat ≡ Some whole → Within column whole.pieces w →
    (other : Laid) × (render e other_column other_indentation flat ≡ Some other) × Within other_column other.pieces w
    × (other.last ≤ whole.last) × CostsAtMost costs other.pieces whole.pieces

-- each measure of a frontier is that of a resolution within w columns, which its choices pick
abbrev pub MeasuresAreOfResolutions : Type 0 → Type 0
MeasuresAreOfResolutions C =
    (costs : Costs C) (w : ℕ) (d : Doc) (column indentation : ℕ) (m : Measure C (List Dir)) →
    Lawful costs → IsColumn w → IsDocument d → IsCore d → IsMember m (plain costs w d column indentation) →
    (whole : Laid) × WithinBy w d m.how column indentation false whole × (whole.last ≡ m.last)
    × (cost_of costs whole.pieces ≡ Some m.cost)

-- each resolution within w columns is dominated by a measure of the frontier
abbrev pub ResolutionsAreDominated : Type 0 → Type 0
ResolutionsAreDominated C =
    (costs : Costs C) (w : ℕ) (d : Doc) (column indentation : ℕ) (choices : List Dir) (whole : Laid) →
    Lawful costs → IsColumn w → IsDocument d → IsCore d → WithinBy w d choices column indentation false whole →
    (m : Measure C (List Dir)) × IsMember m (plain costs w d column indentation) × (m.last ≤ whole.last)
    × ((cost : C) → cost_of costs whole.pieces ≡ Some cost → AtMost costs m.cost cost)

-- the frontier has a measure exactly where some resolution is within w columns
abbrev pub FrontierWhereWithin : Type 0 → Type 0
FrontierWhereWithin C =
    (costs : Costs C) (w : ℕ) (d : Doc) (column indentation : ℕ) → Lawful costs → IsColumn w → IsDocument d → IsCore d →
    (plain costs w d column indentation ≢ []) ↔ HasWithin w d column indentation false

-- where the frontier isn't empty, what is chosen is its first measure, which costs least
abbrev pub ChosenIsFirst : Type 0 → Type 0
ChosenIsFirst C =
    (costs : Costs C) (w : ℕ) (d : Doc) (column indentation : ℕ) (m : Measure C (List Dir))
    (rest : List (Measure C (List Dir))) →
    plain costs w d column indentation ≡ m ∷ rest → choose costs w d column indentation ≡ chosen m.how m.last

-- the choices that are chosen of a core pick a resolution with a layout that ends at the column that is told
abbrev pub ChosenIsLaidOut : Type 0 → Type 0
ChosenIsLaidOut C =
    (costs : Costs C) (w : ℕ) (d : Doc) (column indentation : ℕ) → Lawful costs → IsColumn w → IsDocument d → IsCore d →
    (whole : Laid) × LaidOutBy d (choose costs w d column indentation).choices column indentation false whole
    × (whole.last ≡ (choose costs w d column indentation).last)

-- the choices that are chosen of a core are best for it
abbrev pub ChosenIsBest : Type 0 → Type 0
ChosenIsBest C =
    (costs : Costs C) (w : ℕ) (d : Doc) (column indentation : ℕ) → Lawful costs → IsColumn w → IsDocument d → IsCore d →
    Best costs w d column indentation false (choose costs w d column indentation).choices

-- choices are best for a document, flat or not, exactly where they are best for its core
abbrev pub CoreIsBestAlike : Type 0 → Type 0
CoreIsBestAlike C =
    (costs : Costs C) (w : ℕ) (d : Doc) (flat : Bool) (s : Doc) (column indentation : ℕ) (choices : List Dir) →
    simple d flat ≡ Some s →
    Best costs w d column indentation flat choices ↔ Best costs w s column indentation false choices

-- what is chosen of a document's core is best for the document, flat or not
abbrev pub ChosenOfCoreIsBest : Type 0 → Type 0
ChosenOfCoreIsBest C =
    (costs : Costs C) (w : ℕ) (d : Doc) (flat : Bool) (s : Doc) (column indentation : ℕ) →
    Lawful costs → IsColumn w → IsDocument d → simple d flat ≡ Some s →
    Best costs w d column indentation flat (choose costs w s column indentation).choices

-- what is within w columns with greater charges is within them by the same choices without these, ends at the same
-- column and costs no more
abbrev pub DearerKeepsWithin : Type 0 → Type 0
DearerKeepsWithin C =
    (costs : Costs C) (w : ℕ) (d dearer : Doc) (column indentation : ℕ) (flat : Bool) (choices : List Dir)
    (whole : Laid) →
    Lawful costs → IsColumn w → IsDocument dearer → IsDearer d dearer →
    WithinBy w dearer choices column indentation flat whole →
    (other : Laid) × WithinBy w d choices column indentation flat other × (other.last ≡ whole.last)
    × CostsAtMost costs other.pieces whole.pieces

-- where some charges are made greater, no resolution within w columns costs less than a least one without them
abbrev pub DearerCostsNoLess : Type 0 → Type 0
DearerCostsNoLess C =
    (costs : Costs C) (w : ℕ) (d dearer : Doc) (column indentation : ℕ) (flat : Bool) (choices others : List Dir)
    (whole other : Laid) →
    Lawful costs → IsColumn w → IsDocument dearer → IsDearer d dearer →
    IsLeast costs w d column indentation flat choices → LaidOutBy d choices column indentation flat whole →
    WithinBy w dearer others column indentation flat other → CostsAtMost costs whole.pieces other.pieces

-- no layout has more pieces than that of a resolution may have
abbrev pub MostPiecesAreMost : Type 0
MostPiecesAreMost =
    (d : Doc) (choices : List Dir) (column indentation : ℕ) (flat : Bool) (whole : Laid) →
    LaidOutBy d choices column indentation flat whole → length whole.pieces ≤ most_pieces d

-- choices that are best for each paragraph by itself are best for the paragraphs one below the other
abbrev pub BestApart : Type 0 → Type 0
BestApart C =
    (costs : Costs C) (w : ℕ) (paragraphs : List Paragraph) (choices : List Dir) →
    Lawful costs → IsColumn w → EachIsDocument paragraphs → EachBest costs w paragraphs choices →
    Best costs w (seq (paragraphs_docs paragraphs)) 0 0 false choices

-- so what is chosen of each paragraph's core by itself is best for them
abbrev pub ChosenApartIsBest : Type 0 → Type 0
ChosenApartIsBest C =
    (costs : Costs C) (w : ℕ) (paragraphs : List Paragraph) →
    Lawful costs → IsColumn w → EachIsDocument paragraphs → EachHasCore paragraphs →
    Best costs w (seq (paragraphs_docs paragraphs)) 0 0 false (chosen_apart costs w paragraphs)

-- paragraphs one below the other are laid out as each by itself, with line ends behind each, and end at column 0
abbrev pub LaidOutApart : Type 0
LaidOutApart =
    (p : Paragraph) (paragraphs : List Paragraph) (choices : List Dir) (whole : Laid) →
    LaidOutBy (seq (paragraphs_docs (p ∷ paragraphs))) choices 0 0 false whole
    ↔ (EachLaidOut (p ∷ paragraphs) choices whole.pieces × (whole.last ≡ 0))

-- some resolution of them is within w columns exactly where one of each is
abbrev pub WithinApart : Type 0
WithinApart =
    (w : ℕ) (p : Paragraph) (paragraphs : List Paragraph) →
    HasWithin w (seq (paragraphs_docs (p ∷ paragraphs))) 0 0 false ↔ EachHasWithin w (p ∷ paragraphs)

-- where addition reflects the order of what their layouts cost, what is chosen of their core is what is chosen of each
abbrev pub ChosenAsApart : Type 0 → Type 0
ChosenAsApart C =
    (costs : Costs C) (w : ℕ) (paragraphs : List Paragraph) (core : Doc) →
    Lawful costs → IsColumn w → EachIsDocument paragraphs →
    ReflectsOrderUpTo costs (most_pieces (seq (paragraphs_docs paragraphs))) →
    simple (seq (paragraphs_docs paragraphs)) false ≡ Some core →
    (choose costs w core 0 0).choices ≡ chosen_apart costs w paragraphs
