-- What a source's trees and its layout say of the source.
use Rattle.std.proofs.Common.{◌≡◌, ℕ, ◌^◌, ◌≤◌, List, length, subst, arith}
use Rattle.std.specs.Str.{chars, IsUtf8}
use Rattle.rf_base_grammar.specs.Token.{Token}
use Rattle.rf_base_grammar.specs.Itemised.{Itemised}
use Rattle.rf_base_grammar.specs.Sources.{HasItems}
use Rattle.rf_base_tree.specs.Trees.{Forest}
use Rattle.rf_base_file.specs.Formatted.{Layout, IsFormatted, IsTooLong}
use Rattle.rf_base_cost.specs.Cost.{Costs}
use Rattle.rf_cost.specs.Factories.{squares, linear, lines, squares_text, squares_newline, linear_text, linear_newline}
use Rattle.rf_cost.proofs.Sums.{squares_sum_plainly, linear_sums_plainly, lines_sum_plainly}
use Rattle.rf_cost.proofs.Reflecting.{reflects}
use Rattle.rf_base_tree.specs.Formed.{Treed}
use Rattle.rf_tree.specs.declared.trees.TreeError.TheVariants as parsed
use Rattle.rf_whole.specs.Laws.{Reflects}
use Rattle.rf_whole.specs.Whole.{IsWhole, IsWholeLong}
use Rattle.rf_whole.specs.Parts.{SourceFault}
use Rattle.rf_whole.specs.declared.faults.SourceError.{SourceError}
use Rattle.rf_whole.specs.declared.faults.SourceError.TheVariants as fault
use Rattle.rf_whole.specs.declared.faults.FormatError.TheVariants as laid
use Rattle.rf_whole.proofs.AsDocument.{whole_is_formatted, long_is_too_long}
use Rattle.rf_base_cost.specs.Reflecting.{ReflectsOrderUpTo}
use Rattle.rf_base_style.specs.Table.{IsStyle}
use Rattle.rf_cost.specs.declared.kinds.CostKind.{CostKind}
use Rattle.rf_cost.specs.declared.kinds.CostKind.TheVariants.{Squares, Linear, Lines}
use Rattle.rf_base_grammar.specs.declared.TheConstants.{SOURCE_LIMIT}
use Rattle.rf_style.specs.StyleOf.{seen}
use Rattle.rf_style.specs.declared.style.Style.{Style}
use Rattle.rf_top.specs.Lines.{SourceStops}
use Rattle.rf_top.specs.Objective.{costs_of, objective}
use Rattle.rf_top.proofs.Objective.{costs_lawful, width_is_column}
use Rattle.rf_top.specs.Running.{OfLayout, OrOutside}
use Rattle.rf_top.specs.Stopping.{source_stop}

-- the bytes of a text whose items are these
pub has_items : (source text : List ℕ) (ts : List Token) → text ≡ source → IsUtf8 source → Itemised (chars text) ts → HasItems source ts
has_items source text ts same utf8 itemised = (utf8, subst (λ (bytes : List ℕ). Itemised (chars bytes) ts) same itemised)

-- how a style's factory counts reflects the order of costs
-- (of as many pieces as a source's document has)
fewer : {C : Type 0} (costs : Costs C) → ReflectsOrderUpTo costs (2 ^ 32) → ReflectsOrderUpTo costs (2 ^ 27)
fewer costs order pieces others more a b c q r t short shorter =
    order pieces others more a b c q r t (omega (arith, short)) (omega (arith, shorter))

sums_reflect : (kind : CostKind) (width : ℕ) → ReflectsOrderUpTo (costs_of kind width) (2 ^ 27)
sums_reflect Squares width = fewer (squares width) (reflects (squares_text width) (squares_newline width) (squares_sum_plainly width))
sums_reflect Linear width = fewer (linear width) (reflects (linear_text width) (linear_newline width) (linear_sums_plainly width))
sums_reflect Lines width = fewer lines (reflects (λ column len. 0) (λ indentation. 1) lines_sum_plainly)

style_reflects : (style : Style) → IsStyle (seen style) → Reflects (objective style)
style_reflects style is = (costs_lawful style.cost style.width, width_is_column style.limit is.limit, sums_reflect style.cost style.width)

-- what a source's items are laid out as is what the source is formatted as
pub formatted : (style : Style) (source text : List ℕ) (ts : List Token) (trees : Forest) (given : Layout ℕ) → IsStyle (seen style) → length source ≤ SOURCE_LIMIT → text ≡ source →
    IsUtf8 source → Itemised (chars text) ts → Treed ts trees → IsWhole (objective style) (seen style) ts trees given →
    (f : IsFormatted (seen style) (objective style) source given) × (f.tokens ≡ ts)
formatted style source text ts trees given is short same utf8 itemised treed whole =
    whole_is_formatted (objective style) (seen style) source ts trees given (style_reflects style is) is short (has_items source text ts same utf8 itemised) treed whole

too_long : (style : Style) (source : List ℕ) (ts : List Token) (trees : Forest) → IsStyle (seen style) → length source ≤ SOURCE_LIMIT → HasItems source ts → Treed ts trees →
    IsWholeLong (objective style) (seen style) ts trees → IsTooLong (seen style) (objective style) source
too_long style source ts trees is short items treed long = long_is_too_long (objective style) (seen style) source ts trees (style_reflects style is) is short items treed long

-- what a source's items have no tree or no layout for stops the run
pub source_stopped : (style : Style) (e : SourceError) (source text : List ℕ) (ts : List Token) → IsStyle (seen style) → length source ≤ SOURCE_LIMIT → text ≡ source → IsUtf8 source →
    Itemised (chars text) ts → SourceFault (objective style) (seen style) ts e → OrOutside (source_stop e) (SourceStops style source (source_stop e))
source_stopped style (fault.Tree (parsed.Refused k offset)) source text ts is short same utf8 itemised refused = (short, (ts, has_items source text ts same utf8 itemised, refused))
source_stopped style (fault.Tree (parsed.Memory a)) source text ts is short same utf8 itemised h = tt
source_stopped style (fault.Layout laid.TooLong) source text ts is short same utf8 itemised h =
    (short, too_long style source ts h.0 is short (has_items source text ts same utf8 itemised) h.1 h.2)
source_stopped style (fault.Layout (laid.Memory a)) source text ts is short same utf8 itemised h = tt

-- and is of its reasons
pub source_only : (e : SourceError) → OfLayout (source_stop e)
source_only (fault.Tree (parsed.Refused k offset)) = tt
source_only (fault.Tree (parsed.Memory a)) = tt
source_only (fault.Layout laid.TooLong) = tt
source_only (fault.Layout (laid.Memory a)) = tt
