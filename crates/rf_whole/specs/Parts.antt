-- What a source is laid out as part by part.
use Rattle.std.specs.Prelude.{ℕ, ◌≡◌, ◌≤◌, ◌⊎◌, List, [], ◌++◌, length, map, slice_get, ⊤}
use Rattle.std.specs.Str.{chars, IsUtf8}
use Rattle.rf_base_cost.specs.Cost.{Costs}
use Rattle.rf_base_grammar.specs.declared.TheConstants.{SOURCE_LIMIT}
use Rattle.rf_base_grammar.specs.declared.items.Item.{Item}
use Rattle.rf_base_grammar.specs.Token.{Token, item_of}
use Rattle.rf_base_grammar.specs.Itemised.{Itemised}
use Rattle.rf_base_optimum.specs.Paragraphs.{Paragraph, EachIsDocument, EachHasCore}
use Rattle.rf_base_style.specs.Table.{StyleView}
use Rattle.rf_base_tree.specs.Trees.{Forest}
use Rattle.rf_base_tree.specs.Formed.{Treed}
use Rattle.rf_base_tree.specs.Places.{IsPlace}
use Rattle.rf_base_file.specs.LaidOut.{kept, Objective}
use Rattle.rf_base_file.specs.ByForms.{blanks_before, top_slots}
use Rattle.rf_style.specs.StyleOf.{seen}
use Rattle.rf_tree.specs.Parsing.{TreeFault}
use Rattle.rf_tree.specs.declared.trees.Tree.{Tree as KeptTree}
use Rattle.rf_tree.specs.Next.{followed_by, SlotsEnd}
use Rattle.rf_whole.specs.declared.faults.FormatError.{FormatError}
use Rattle.rf_whole.specs.declared.faults.FormatError.TheVariants.{TooLong, Memory}
use Rattle.rf_whole.specs.declared.faults.SourceError.{SourceError}
use Rattle.rf_whole.specs.declared.faults.SourceError.TheVariants as source
use Rattle.rf_whole.specs.declared.lines.Lines.{Lines}
use Rattle.rf_whole.specs.declared.settings.Setting.{Setting}
use Rattle.rf_whole.specs.Groups.{HasTops}
use Rattle.rf_joins.specs.Paragraphs.{slots_paragraphs}
use Rattle.rf_whole.specs.Laid.{AreLinesOf}
use Rattle.rf_whole.specs.Lines.{ArePastLimit}
use Rattle.rf_whole.specs.Whole.{sought, IsWholeLong}

-- the text has these tokens, and the items are theirs as a layout in this style keeps them
abbrev pub AreKeptItems : StyleView → List ℕ → List Token → List Item → Type 0
AreKeptItems style text ts items = Itemised text ts × (items ≡ map item_of (kept style ts))

-- the trees of these tokens aren't laid out for this reason
abbrev pub LayoutFault : {C : Type 0} → Objective C → StyleView → List Token → FormatError → Type 0
LayoutFault objective style ts TooLong = (trees : Forest) × Treed ts trees × IsWholeLong objective style ts trees
LayoutFault objective style ts (Memory e) = ⊤

-- the tokens have no tree, or their trees aren't laid out, for this reason
abbrev pub SourceFault : {C : Type 0} → Objective C → StyleView → List Token → SourceError → Type 0
SourceFault objective style ts (source.Tree fault) = TreeFault ts fault
SourceFault objective style ts (source.Layout fault) = LayoutFault objective style ts fault

-- the tree holds a source of a source's length, and its items as a layout in this style keeps them
pub record HoldsSource (style : StyleView) (tree : KeptTree) : Type 0 where
  pub utf8 : IsUtf8 tree.src.now
  pub short : length tree.src.now ≤ SOURCE_LIMIT
  pub items : (ts : List Token) × AreKeptItems style (chars tree.src.now) ts tree.items.items

-- the top-level slots of these trees as paragraphs; behind the last stand the blank lines before this item
abbrev pub paragraphs_to : StyleView → List Token → ℕ → Forest → List Paragraph
paragraphs_to style ts next trees =
    slots_paragraphs style ts (blanks_before (slice_get ts next)) (top_slots ts trees)

-- the lines are those of the first trees, up to the item of this number, where slots end, and the blank lines before
-- that item stand behind them
pub record AreLinesTo {C : Type 0} (costs : Costs C) (w : ℕ) (style : StyleView) (ts : List Token) (next : ℕ)
    (lines : Lines C) : Type 0 where
  pub done : Forest
  pub place : IsPlace ts next [] done
  pub ends : (next ≡ length ts) ⊎ SlotsEnd ts done
  pub lines_are : AreLinesOf costs w (paragraphs_to style ts next done) lines

-- the same of the source that the tree holds
abbrev pub HasLinesTo : {C R F G : Type 0} → Costs C → Setting R F G → KeptTree → ℕ → Lines C → Type 0
HasLinesTo costs setting tree next lines =
    (ts : List Token) → AreKeptItems (seen setting.style.now) (chars tree.src.now) ts tree.items.items
    → AreLinesTo costs setting.limit (seen setting.style.now) (kept (seen setting.style.now) ts) next lines

-- behind the lines of any paragraphs, the old ones, the new ones have those of the tree's top-level slots, with the
-- blank lines before the item of this number behind the last
abbrev pub AddsTops : {C R F G : Type 0} → Costs C → Setting R F G → KeptTree → ℕ → Lines C → Lines C → Type 0
AddsTops costs setting tree next old new =
    (ts : List Token) (trees : Forest) (ps : List Paragraph) → HasTops (seen setting.style.now) tree ts trees
    → AreLinesOf costs setting.limit ps old
    → AreLinesOf costs setting.limit (ps ++ paragraphs_to (seen setting.style.now) ts next trees) new

-- the tree's top-level slots are past the limit together with any paragraphs that have these lines
abbrev pub PassesWithTops : {C R F G : Type 0} → Costs C → Setting R F G → KeptTree → ℕ → Lines C → Type 0
PassesWithTops costs setting tree next lines =
    (ts : List Token) (trees : Forest) (ps : List Paragraph) → HasTops (seen setting.style.now) tree ts trees
    → EachIsDocument ps → EachHasCore ps → AreLinesOf costs setting.limit ps lines
    → ArePastLimit costs setting.limit (ps ++ paragraphs_to (seen setting.style.now) ts next trees)

-- the source that the tree holds isn't laid out for this reason
abbrev pub IsStopped : {C R F G : Type 0} → Costs C → Setting R F G → KeptTree → SourceError → Type 0
IsStopped costs setting tree fault =
    (ts : List Token) → AreKeptItems (seen setting.style.now) (chars tree.src.now) ts tree.items.items
    → SourceFault (sought costs setting.limit) (seen setting.style.now) ts fault

-- some trees behind these are the last
abbrev pub HaveRest : List Token → Forest → Type 0
HaveRest ts done = (rest : Forest) × IsPlace ts (length ts) [] (followed_by done rest)

-- what is told where trees aren't laid out for a reason: that the items behind them are refused, or else the reason,
-- which is told of layouts that are too long only where the items behind them have trees too
abbrev pub IsToldBehind : List Token → Forest → FormatError → SourceError → Type 0
IsToldBehind ts done fault (source.Tree refusal) = TreeFault ts refusal
IsToldBehind ts done fault (source.Layout told) = (told ≡ fault) × (fault ≡ TooLong → HaveRest ts done)
