-- What stands between two neighbours, by what the layout wants there.
use Rattle.std.specs.Prelude.{◌≡◌, ◌≢◌, ◌⊎◌, true, false}
use Rattle.rf_base_grammar.specs.Token.{Token, is_line_comment}
use Rattle.rf_base_grammar.specs.Woven.{Needs, ends_line, trails}
use Rattle.rf_base_tree.specs.declared.separators.Want.{Want}
use Rattle.rf_base_tree.specs.declared.separators.Want.TheVariants as want
use Rattle.rf_base_tree.specs.declared.separators.Separator.{Separator}
use Rattle.rf_base_tree.specs.declared.separators.Separator.TheVariants as separator

-- a line break stands between the two: the first ends its line, the second is a line comment, or it has blank lines
-- before it
abbrev pub NeedsBreak : Token → Token → Type 0
NeedsBreak a b = (ends_line a.kind ≡ true) ⊎ (is_line_comment b.kind ≡ true) ⊎ (b.blanks ≢ 0)

-- what stands where no break is needed: nothing, if that is wanted and may be, or what is wanted
abbrev pub IsAsWanted : Token → Token → Want → Separator → Type 0
IsAsWanted a b want.Nothing s =
    (Needs a b × (s ≡ separator.Space)) ⊎ ((Needs a b → ⊥) × (s ≡ separator.Empty))
IsAsWanted a b want.Space s = s ≡ separator.Space
IsAsWanted a b want.Line s = s ≡ separator.Line
IsAsWanted a b want.Must s = s ≡ separator.Hard 0

-- the separator stands between the neighbours a and b: one space before a comment that trails; otherwise b's blank
-- lines and a break, where one is needed; and otherwise what is wanted
abbrev pub Separates : Token → Token → Want → Separator → Type 0
Separates a b w s =
    ((trails b ≡ true) × (s ≡ separator.Space))
    ⊎ ((trails b ≡ false) × NeedsBreak a b × (s ≡ separator.Hard b.blanks))
    ⊎ ((trails b ≡ false) × (NeedsBreak a b → ⊥) × IsAsWanted a b w s)
