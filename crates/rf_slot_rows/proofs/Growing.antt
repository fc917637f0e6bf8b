-- How much gaps and items grow rows.
use Rattle.std.proofs.Common.{cond, eqb, ◌≡◌, ℕ, zero, suc, ◌+◌, ◌≤◌, ◌||◌, Bool, true, false, Option, Some, List, [], ◌∷◌, ◌++◌, length, length-append, map, min, replicate, slice_get, if◌then◌else◌, refl, sym, ap, ◌∙◌, subst, arith}
use Rattle.std.specs.List.{AllByRecursion}
use Rattle.std.proofs.lemmas.List.{length-replicate}
use Rattle.std.proofs.lemmas.List.Sums.{sum_by-cons}
use Rattle.rf_base_document.specs.Document.{Hard}
use Rattle.rf_base_grammar.specs.Token.{Token, item_of, opens, closes, settled}
use Rattle.rf_base_grammar.specs.Woven.{trails}
use Rattle.rf_base_grammar.specs.declared.items.Item.{Item}
use Rattle.rf_base_grammar.specs.Itemised.{line_ends}
use Rattle.rf_base_style.specs.Table.{StyleView}
use Rattle.rf_base_tree.specs.Trees.{Forest, spelling_at}
use Rattle.rf_base_tree.specs.Size.{size_of}
use Rattle.rf_base_tree.proofs.Sizes.{size_of-cons}
use Rattle.rf_base_tree.specs.Cut.{needs_gap, needs_break, as_wanted}
use Rattle.rf_base_tree.specs.declared.separators.Want.{Want}
use Rattle.rf_base_tree.specs.declared.separators.Want.TheVariants as want
use Rattle.rf_base_tree.specs.declared.separators.Separator.TheVariants as separator
use Rattle.rf_base_file.specs.Rows.{bare_break, separator_docs, docs_between, gap_docs}
use Rattle.rf_tree.specs.Kept.{IsTreeOf}
use Rattle.rf_tree.specs.declared.trees.Tree.{Tree as KeptTree}
use Rattle.rf_slot_rows.specs.Growth.{FewBlanks, AreKept}

-- the parts of a hard separator
pub hard_length : (blanks : ℕ) → length (separator_docs (separator.Hard blanks)) ≡ blanks + 1
hard_length blanks =
    omega (arith, length-append (replicate blanks bare_break) (Hard ∷ []), length-replicate blanks bare_break)

-- a gap before an item with at most 9 blank lines has at most ten parts
hard_few : (blanks : ℕ) → blanks ≤ 9 → length (separator_docs (separator.Hard blanks)) ≤ 10
hard_few blanks h = omega (arith, hard_length blanks)

wanted_few : (needs : Bool) (w : Want) → length (separator_docs (as_wanted needs w)) ≤ 10
wanted_few true want.Nothing = omega arith
wanted_few false want.Nothing = omega arith
wanted_few needs want.Space = omega arith
wanted_few needs want.Line = omega arith
wanted_few needs want.Must = omega arith

tests_few : (trailing breaks needs : Bool) (blanks : ℕ) (w : Want) → blanks ≤ 9 →
    length (separator_docs (if trailing then separator.Space else if breaks then separator.Hard blanks else as_wanted needs w)) ≤ 10
tests_few true breaks needs blanks w h = omega arith
tests_few false true needs blanks w h = hard_few blanks h
tests_few false false needs blanks w h = wanted_few needs w

blanks_at : (ts : List Token) (n : ℕ) (b : Token) → AllByRecursion (λ (i : Item). i.blanks ≤ 9) (map item_of ts) → slice_get ts n ≡ Some b → b.blanks ≤ 9
blanks_at [] n b h e = cc
blanks_at (t ∷ ts) zero b h e = let same : t ≡ b = cc in subst (λ (u : Token). u.blanks ≤ 9) same h.0
blanks_at (t ∷ ts) (suc n) b h e = blanks_at ts n b h.1 e

between_few : (a b : Option Token) (w : Want) → ((t : Token) → b ≡ Some t → t.blanks ≤ 9) → length (docs_between a b w) ≤ 10
between_few (Some a) (Some b) w h =
    tests_few (trails b) (needs_break a b) (needs_gap a.kind a.spelling b.spelling) b.blanks w (h b refl)
between_few _ _ w h = omega arith

pub gap_few : (tree : KeptTree) (ts : List Token) (trees : Forest) (before next : ℕ) (w : Want) → IsTreeOf tree ts trees → FewBlanks tree → length (gap_docs ts before next w) ≤ 10
gap_few tree ts trees before next w h few =
    between_few (slice_get ts before) (slice_get ts next) w
    (λ t e. blanks_at ts next t (subst (λ is. AllByRecursion (λ (i : Item). i.blanks ≤ 9) is) h.items_are few) e)

-- a line end stands behind a line
pub line_ends-cut : (line behind : List ℕ) → line_ends behind + 1 ≤ line_ends (line ++ 10 ∷ behind)
line_ends-cut [] behind =
    let one : line_ends (10 ∷ behind) ≡ 1 + line_ends behind = sum_by-cons _ 10 behind in
    omega (arith, one)
line_ends-cut (c ∷ line) behind =
    let more : line_ends (c ∷ (line ++ 10 ∷ behind)) ≡ cond (eqb c 10) 1 0 + line_ends (line ++ 10 ∷ behind) = sum_by-cons _ c (line ++ 10 ∷ behind) in
    omega (arith, more, line_ends-cut line behind)

-- the size of one item
pub one_size : (ts : List Token) (item : ℕ) → size_of ts (item ∷ []) ≡ line_ends (spelling_at ts item) + 1
one_size ts item = omega (arith, size_of-cons ts item [])

-- a style keeps at most 9 blank lines
blanks_least : (none : Bool) (n max : ℕ) → max ≤ 9 → (if none then 0 else min n max) ≤ 9
blanks_least true n max h = omega arith
blanks_least false n max h = omega (arith, h)

blanks_settled : (bare : Bool) (max : ℕ) (ts : List Token) → max ≤ 9 → AllByRecursion (λ (i : Item). i.blanks ≤ 9) (map item_of (settled bare max ts))
blanks_settled bare max [] h = tt
blanks_settled bare max (t ∷ ts) h =
    (blanks_least (bare || closes t.kind) t.blanks max h, blanks_settled (opens t.kind) max ts h)

pub kept_few : (style : StyleView) (tree : KeptTree) (ts : List Token) (trees : Forest) → style.blanks ≤ 9 → AreKept style ts → IsTreeOf tree ts trees → FewBlanks tree
kept_few style tree ts trees h read holds =
    subst (λ is. AllByRecursion (λ (i : Item). i.blanks ≤ 9) is) (sym (holds.items_are ∙ ap (λ us. map item_of us) read.1)) (blanks_settled true style.blanks read.0 h)
