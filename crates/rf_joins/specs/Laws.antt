-- Laws of a text behind another one.
use Rattle.std.specs.Prelude.{ℕ, ◌≡◌, ◌≢◌, ◌+◌, ◌-◌, min, false, List, [], ◌∷◌, ◌++◌, length, ⊤}
use Rattle.rf_base_grammar.specs.Characters.{is_white, byte_len, BeginsWith}
use Rattle.rf_base_grammar.specs.Cuts.{span}
use Rattle.rf_base_grammar.specs.Itemised.{Leads, line_ends}
use Rattle.rf_base_grammar.specs.Token.{Token}
use Rattle.rf_base_grammar.specs.Unreadable.{LexRefused}
use Rattle.rf_base_grammar.specs.Woven.{trails}
use Rattle.rf_base_grammar.specs.declared.refusals.LexKind.{LexKind}
use Rattle.rf_base_style.specs.Table.{StyleView}
use Rattle.rf_base_tree.specs.Trees.{Forest}
use Rattle.rf_base_tree.specs.Formed.{Treed}
use Rattle.rf_base_tree.specs.Refusals.{TreeRefused}
use Rattle.rf_base_tree.specs.declared.refusals.TreeKind.{TreeKind}
use Rattle.rf_base_tree.specs.declared.refusals.TreeKind.TheVariants.{CloseWithout, CloseMismatch, BadDot, TooDeep}
use Rattle.rf_tree.specs.Next.{followed_by}
use Rattle.rf_joins.specs.Moved.{all_moved, joined, HaveNoLanguage, MayBeFollowed, EndInDatum, HoldsNoLanguage}
use Rattle.rf_joins.specs.Paragraphs.{trees_paragraphs}

-- the items of a text that ends in one, and of one behind it that begins with a line end and has no language line, are
-- those of both together
abbrev pub ItemsJoin : Type 0
ItemsJoin =
    (a b rest : List ℕ) (us vs : List Token) → us ≢ [] → Leads [] 0 a us [] → BeginsWith (10 ∷ []) b →
    Leads [] 0 b vs rest → HaveNoLanguage vs → Leads [] 0 (a ++ b) (joined (byte_len a) us vs) rest

-- the first item of a text has the blank lines of the white space at the text's front before it, and trails nothing
abbrev pub FirstItemStands : Type 0
FirstItemStands =
    (text rest : List ℕ) (t : Token) (ts : List Token) → Leads [] 0 text (t ∷ ts) rest →
    (t.blanks ≡ line_ends (span is_white text).front - 1) × (trails t ≡ false)

-- the items of a text that ends in one and has no language line stand there with whatever may follow behind them
abbrev pub ItemsStand : Type 0
ItemsStand =
    (a b : List ℕ) (ts : List Token) → Leads [] 0 a ts [] → HaveNoLanguage ts → MayBeFollowed ts b →
    Leads [] 0 (a ++ b) ts b

-- trees of items, and trees of items behind them, are the trees of all
abbrev pub TreesJoin : Type 0
TreesJoin =
    (n : ℕ) (us vs : List Token) (f g : Forest) → Treed us f → Treed vs g →
    Treed (joined n us vs) (followed_by f (all_moved (length us) g))

-- the paragraphs of trees that end in a datum, and those of trees behind them, are those of all: between them stand the
-- blank lines before the first item of the latter, which is no comment behind a datum on its line, as many as are kept
abbrev pub ParagraphsJoin : Type 0
ParagraphsJoin =
    (style : StyleView) (n behind : ℕ) (us vs : List Token) (v : Token) (f g : Forest) → Treed us f → EndInDatum f →
    Treed (v ∷ vs) g → trails v ≡ false →
    trees_paragraphs style (joined n us (v ∷ vs)) behind (followed_by f (all_moved (length us) g))
    ≡ trees_paragraphs style us (min v.blanks style.blanks) f ++ trees_paragraphs style (v ∷ vs) behind g

-- a text behind one that ends in an item is refused as it is by itself, if it begins with a line end and no language
-- line begins in it
abbrev pub LexRefusalsJoin : Type 0
LexRefusalsJoin =
    (a b : List ℕ) (us : List Token) (kind : LexKind) (offset : ℕ) → us ≢ [] → Leads [] 0 a us [] →
    BeginsWith (10 ∷ []) b → HoldsNoLanguage b → LexRefused b kind offset →
    LexRefused (a ++ b) kind (byte_len a + offset)

-- items behind others that make trees are refused as they are by themselves
abbrev pub TreeRefusalsJoin : Type 0
TreeRefusalsJoin =
    (n : ℕ) (us vs : List Token) (f : Forest) (kind : TreeKind) (offset : ℕ) → Treed us f →
    TreeRefused vs kind offset → TreeRefused (joined n us vs) kind (n + offset)

-- a refusal that tells the item that can't go on, and not the end
abbrev pub TellsItem : TreeKind → Type 0
TellsItem CloseWithout = ⊤
TellsItem CloseMismatch = ⊤
TellsItem BadDot = ⊤
TellsItem TooDeep = ⊤
TellsItem _ = ⊥

-- items of which one can't go on are refused so whatever stands behind them
abbrev pub TreeRefusalsStand : Type 0
TreeRefusalsStand =
    (ts more : List Token) (kind : TreeKind) (offset : ℕ) → TellsItem kind → TreeRefused ts kind offset →
    TreeRefused (ts ++ more) kind offset
