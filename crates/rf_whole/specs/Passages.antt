-- What is laid out of stretches of a source that are read by themselves.
use Rattle.std.specs.Prelude.{ℕ, ◌≡◌, ◌≢◌, ◌+◌, ◌-◌, ◌⊎◌, Bool, false, Some, List, [], ◌∷◌, ◌++◌, length, min, slice_get, ⊤}
use Rattle.std.specs.Str.{chars}
use Rattle.rf_base_cost.specs.Cost.{Costs}
use Rattle.rf_base_optimum.specs.Paragraphs.{Paragraph}
use Rattle.rf_base_grammar.specs.Characters.{is_white, BeginsWith}
use Rattle.rf_base_grammar.specs.Cuts.{span}
use Rattle.rf_base_grammar.specs.Itemised.{Leads, IsGap, Itemised, line_ends}
use Rattle.rf_base_grammar.specs.Token.{Token}
use Rattle.rf_base_grammar.specs.Unreadable.{LexRefused}
use Rattle.rf_base_style.specs.Table.{StyleView}
use Rattle.rf_base_tree.specs.Trees.{Forest}
use Rattle.rf_base_tree.specs.Formed.{Treed}
use Rattle.rf_base_tree.specs.Refusals.{TreeRefused}
use Rattle.rf_joins.specs.Moved.{HaveNoLanguage, EndInDatum}
use Rattle.rf_joins.specs.Paragraphs.{trees_paragraphs}
use Rattle.rf_tree.specs.declared.nodes.At.{At}
use Rattle.rf_tree.specs.Told as node
use Rattle.rf_tree.specs.declared.trees.Tree.{Tree as KeptTree}
use Rattle.rf_style.specs.StyleOf.{seen}
use Rattle.rf_whole.specs.declared.passages.Excerpt.{Excerpt}
use Rattle.rf_whole.specs.declared.faults.Miss.{Miss}
use Rattle.rf_whole.specs.declared.faults.Miss.TheVariants as miss
use Rattle.rf_whole.specs.declared.passages.Passage.{Passage}
use Rattle.rf_whole.specs.declared.settings.Setting.{Setting}
use Rattle.rf_whole.specs.Laid.{AreLinesOf}
use Rattle.rf_whole.specs.Whole.{IsSettled}

-- the text is at its end, or a line end begins it
abbrev pub EndsOrFeeds : List ℕ → Type 0
EndsOrFeeds text = (text ≡ []) ⊎ BeginsWith (10 ∷ []) text

-- the blank lines that a layout in this style keeps before what the text begins with
abbrev pub blanks_ahead : StyleView → List ℕ → ℕ
blanks_ahead style text = min (line_ends (span is_white text).front - 1) style.blanks

-- the tree is that of this text by itself
abbrev pub IsTreeAlone : StyleView → List ℕ → KeptTree → Type 0
IsTreeAlone style text tree =
    (tree.src.now ≡ text) × ((ts : List Token) × (trees : Forest) × IsSettled style tree (chars text) ts trees)

-- others may stand before the text of these items and trees, unless it is the first of its source, and behind it,
-- unless it is the last: it has no language line, and it ends in a datum
pub record StandsWithOthers (first last : Bool) (ts : List Token) (trees : Forest) (rest : List ℕ) : Type 0 where
  pub some : ts ≢ []
  pub begins : first ≡ false → HaveNoLanguage ts
  pub ends : last ≡ false → (rest ≡ []) × EndInDatum trees

-- the same of the text that the tree has by itself
abbrev pub StandsSo : KeptTree → Bool → Bool → Type 0
StandsSo tree first last =
    (style : StyleView) (ts : List Token) (trees : Forest) (rest : List ℕ) →
    IsSettled style tree (chars tree.src.now) ts trees → Leads [] 0 (chars tree.src.now) ts rest → IsGap rest →
    StandsWithOthers first last ts trees rest

-- the node is a compound datum: a list, or a prefix with its datum
abbrev pub IsCompound : node.Node → Type 0
IsCompound (node.Prefixed item lead inner) = ⊤
IsCompound (node.ListNode opener entries closer) = ⊤
IsCompound _ = ⊥

-- the last of the tree's top-level nodes is a compound datum
abbrev pub EndsInCompound : KeptTree → Type 0
EndsInCompound tree =
    (at : At) × (last : node.Node) × (slice_get tree.tops.items (length tree.tops.items - 1) ≡ Some at)
    × (slice_get tree.nodes at.0 ≡ Some last) × IsCompound last

-- the passage is what the text is laid out as by itself, with so many blank lines behind its last slot; others may
-- stand before and behind it as told
pub record IsPassage {C : Type 0} (costs : Costs C) (w : ℕ) (style : StyleView) (first last : Bool) (text : List ℕ)
    (behind : ℕ) (passage : Passage C) : Type 0 where
  pub tokens : List Token
  pub trees : Forest
  pub itemised : Itemised text tokens
  pub treed : Treed tokens trees
  pub stands : StandsWithOthers first last tokens trees itemised.0
  pub lines_are : AreLinesOf costs w (trees_paragraphs style tokens behind trees) passage.lines
  pub count : passage.items ≡ length tokens

-- the text begins with the passage, and goes on with the rest, if there is any: then a line end begins that, and the
-- blank lines there stand behind the passage
pub record IsFirstPassage {C : Type 0} (costs : Costs C) (w : ℕ) (style : StyleView) (first last : Bool) (text : List ℕ)
    (behind : ℕ) (passage : Passage C) (rest : List ℕ) : Type 0 where
  pub front : List ℕ
  pub text_is : text ≡ front ++ rest
  pub feeds : EndsOrFeeds rest
  pub whole : rest ≡ [] → IsPassage costs w style first last front behind passage
  pub part : rest ≢ [] → IsPassage costs w style first false front (blanks_ahead style rest) passage

-- the passage is what the excerpt is laid out as, in this setting
abbrev pub IsLaidOut : {C R F G : Type 0} → Costs C → Setting R F G → Excerpt → Passage C → Type 0
IsLaidOut costs setting excerpt =
    IsPassage costs setting.limit (seen setting.style.now) excerpt.first excerpt.last (chars excerpt.text.now)
    excerpt.behind

-- the passage is two passages, one behind the other
pub record ArePutTogether {C : Type 0} (costs : Costs C) (first second both : Passage C) : Type 0 where
  pub count : both.items ≡ first.items + second.items
  pub lines_are : (w : ℕ) (ps qs : List Paragraph) → AreLinesOf costs w ps first.lines →
      AreLinesOf costs w qs second.lines → AreLinesOf costs w (ps ++ qs) both.lines

-- the text is refused for this reason, unless it isn't known or memory ran out
abbrev pub IsMissed : List ℕ → Miss → Type 0
IsMissed text (miss.Items kind offset) = LexRefused text kind offset
IsMissed text (miss.Tree kind offset) = (ts : List Token) × Itemised text ts × TreeRefused ts kind offset
IsMissed text _ = ⊤

-- the text is one that has items up to its end, and a tree, and behind that the rest, which a line end begins
abbrev pub IsAcceptedBefore : List ℕ → List ℕ → Type 0
IsAcceptedBefore text rest =
    (front : List ℕ) × (ts : List Token) × (trees : Forest) × (text ≡ front ++ rest) × BeginsWith (10 ∷ []) rest
    × (ts ≢ []) × Leads [] 0 front ts [] × Treed ts trees
