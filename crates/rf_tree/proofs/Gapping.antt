-- What stands between neighbours, by the two tests.
use Rattle.std.proofs.Common.{◌≡◌, ℕ, Bool, true, false, if◌then◌else◌, Some, slice_get, List, ap, sym, ◌∙◌, subst}
use Rattle.std.specs.Prelude.{◌&&◌, ◌||◌, ◌==◌, not}
use Rattle.std.proofs.lemmas.Bool.{false≢true}
use Rattle.std.proofs.lemmas.Option.{same_Some}
use Rattle.rf_base_grammar.specs.Token.{Token, item_of, is_line_comment}
use Rattle.rf_base_grammar.specs.Woven.{ends_line, trails}
use Rattle.rf_base_grammar.specs.declared.items.Item.{Item}
use Rattle.rf_base_tree.specs.Trees.{Forest}
use Rattle.rf_base_tree.specs.Cut.{needs_gap, as_wanted, needs_break, separator_between}
use Rattle.rf_base_tree.specs.declared.separators.Want.{Want}
use Rattle.rf_base_tree.specs.declared.separators.Separator.{Separator}
use Rattle.rf_base_tree.specs.declared.separators.Separator.TheVariants as separator
use Rattle.rf_tree.specs.Kept.{IsTreeOf}
use Rattle.rf_tree.specs.Sorts.{token_of}
use Rattle.rf_tree.specs.Gaps.{OfItems}
use Rattle.rf_tree.specs.declared.trees.Tree.{Tree}
use Rattle.rf_tree.proofs.ItemTexts.{token_kept}

-- neither test holds
third : {A : Type 0} (first second : Bool) (a b c r : A) → first ≡ false → second ≡ false → r ≡ c → r ≡ if first then a else if second then b else c
third true second a b c r f s e = absurd (false≢true (sym f))
third false true a b c r f s e = absurd (false≢true (sym s))
third false false a b c r f s e = e

-- what is told of the items is so of their tokens
pub of_tokens : (tree : Tree) (ts : List Token) (trees : Forest) (m n : ℕ) (a b : Token) (P : Token → Token → Type 0) → IsTreeOf tree ts trees → slice_get ts m ≡ Some a → slice_get ts n ≡ Some b → OfItems tree m n P → P a b
of_tokens tree ts trees m n a b P h e f p =
    let k = token_kept tree ts trees m a h e in
    let l = token_kept tree ts trees n b h f in
    subst (λ (x : Token). P x b) k.is
    (subst (λ (y : Token). P (token_of tree (item_of a)) y) l.is (p (item_of a) (item_of b) k.there l.there))

-- where neither test holds of the items, what is wanted stands between their tokens
pub gap_plain : (tree : Tree) (ts : List Token) (trees : Forest) (m n : ℕ) (a b : Token) (i j : Item) (w : Want) (r : Separator) → IsTreeOf tree ts trees → slice_get ts m ≡ Some a → slice_get ts n ≡ Some b → slice_get tree.items.items m ≡ Some i → slice_get tree.items.items n ≡ Some j → (is_line_comment j.kind && not j.own_line) ≡ false → (ends_line i.kind || is_line_comment j.kind || not (j.blanks == 0)) ≡ false → OfItems tree m n (λ x y. r ≡ as_wanted (needs_gap x.kind x.spelling y.spelling) w) → r ≡ separator_between a b w
gap_plain tree ts trees m n a b i j w r h e f at_i at_j t k wanted =
    let first = token_kept tree ts trees m a h e in
    let second = token_kept tree ts trees n b h f in
    let first_is : item_of a ≡ i = same_Some (item_of a) i (sym first.there ∙ at_i) in
    let second_is : item_of b ≡ j = same_Some (item_of b) j (sym second.there ∙ at_j) in
    let no_trail : trails b ≡ false = ap (λ (x : Item). is_line_comment x.kind && not x.own_line) second_is ∙ t in
    let no_break : needs_break a b ≡ false =
    ap (λ (x : Item). ends_line x.kind || is_line_comment b.kind || not (b.blanks == 0)) first_is
    ∙ ap (λ (y : Item). ends_line i.kind || is_line_comment y.kind || not (y.blanks == 0)) second_is
    ∙ k in
    third (trails b) (needs_break a b) separator.Space (separator.Hard b.blanks) (as_wanted (needs_gap a.kind a.spelling b.spelling) w) r no_trail no_break
    (of_tokens tree ts trees m n a b (λ x y. r ≡ as_wanted (needs_gap x.kind x.spelling y.spelling) w) h e f wanted)
