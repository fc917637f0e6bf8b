-- No resolution of a slot's document has many pieces.
use Rattle.std.proofs.Common.{◌≡◌, inl, inr, ℕ, zero, suc, ◌+◌, ◌*◌, ◌^◌, ◌≤◌, ◌||◌, min, if◌then◌else◌, Bool, true, false, List, [], ◌∷◌, ◌++◌, length, map, slice_get, refl, ap, sym, ◌∙◌, subst, arith}
use Rattle.std.specs.List.{AllByRecursion, range_with_len}
use Rattle.std.specs.Prelude.{sum_by}
use Rattle.std.specs.Str.{chars, IsUtf8}
use Rattle.std.proofs.lemmas.List.Sums.{sum_by-cons}
use Rattle.rf_base_document.specs.Document.{Doc}
use Rattle.rf_base_optimum.specs.MostPieces.{most_pieces}
use Rattle.rf_base_grammar.specs.Itemised.{Itemised}
use Rattle.rf_base_grammar.specs.Token.{Token, opens, closes, with_blanks, settled}
use Rattle.rf_base_grammar.proofs.Texts.{Leads-lengths}
use Rattle.rf_base_style.specs.Table.{StyleView, IsStyle}
use Rattle.rf_base_grammar.specs.declared.TheConstants.{SOURCE_LIMIT}
use Rattle.rf_base_tree.specs.Trees.{Tree, Forest, spelling_at, forest_items}
use Rattle.rf_base_tree.specs.Places.{IsPlace}
use Rattle.rf_base_tree.specs.Slots.{Slot}
use Rattle.rf_base_file.specs.FileDocument.{style_doc, top_part}
use Rattle.rf_base_file.specs.LaidOut.{kept}
use Rattle.rf_base_file.specs.ByForms.{blanks_before, top_slots}
use Rattle.rf_base_file.proofs.TreeStrands.{EachAt, each_at}
use Rattle.rf_base_file.proofs.Sizes.{gap_pieces, PartsSized}
use Rattle.rf_base_file.proofs.ListSizes.{room, rooms, rooms-append, tops_sized}
use Rattle.rf_base_file.proofs.FewPieces.{tokens_room, few_rooms, kept_blanks}
use Rattle.rf_lexer.proofs.Places.{chars_len}
use Rattle.rf_tree.specs.Texts.{AreTokensOf}
use Rattle.rf_tree.specs.Next.{followed_by}
use Rattle.rf_tree.proofs.SlotEnds.{items_behind}
use Rattle.rf_tree.specs.declared.trees.Tree.{Tree as KeptTree}
use Rattle.rf_whole.specs.Whole.{IsSettled}
use Rattle.rf_whole.proofs.GroupRows.{top_doc}

-- the characters of items, each counted with one more
spelled : List Token → ℕ
spelled ts = sum_by (λ t. length t.spelling + 1) ts

settled_spelled : (bare : Bool) (max : ℕ) (ts : List Token) → spelled (settled bare max ts) ≡ spelled ts
unfolding spelled
settled_spelled bare max [] = refl
settled_spelled bare max (t ∷ ts) =
    let rest = settled_spelled (opens t.kind) max ts in
    let first : Token = with_blanks t (if bare || closes t.kind then 0 else min t.blanks max) in
    sum_by-cons (λ (u : Token). length u.spelling + 1) first (settled (opens t.kind) max ts) ∙ ap (λ (n : ℕ). length t.spelling + 1 + n) rest
    ∙ sym (sum_by-cons (λ (u : Token). length u.spelling + 1) t ts)

read_spelled : (text : List ℕ) (ts : List Token) → Itemised text ts → spelled ts ≤ 2 * length text
unfolding spelled
read_spelled text ts h = omega (arith, Leads-lengths [] 0 text ts h.0 h.1)

kept_spelled : (text : List ℕ) (ts : List Token) → AreTokensOf text ts → spelled ts ≤ 2 * length text
kept_spelled text ts (read, h, inl is) = subst (λ (us : List Token). spelled us ≤ 2 * length text) (sym is) (read_spelled text read h)
kept_spelled text ts (read, h, inr (most, is)) =
    let same : spelled ts ≡ spelled read = ap spelled is ∙ settled_spelled true most read in
    omega (arith, same, read_spelled text read h)

-- the items of the tree have room for few pieces
few_in_all : (style : StyleView) (tree : KeptTree) (source : List ℕ) (ts : List Token) (trees : Forest) → IsStyle style → IsSettled style tree source ts trees →
    rooms (kept style ts) (forest_items trees) ≤ 2 ^ 27
unfolding spelled
few_in_all style tree source ts trees is h =
    let all = few_rooms style ts trees is h.treed in
    let same = settled_spelled true style.blanks ts in
    let here = kept_spelled (chars tree.src.now) (kept style ts) h.tree_of.tokens in
    let bytes = chars_len tree.src.now h.tree_of.utf8 in
    omega (arith, all, same, here, bytes, h.tree_of.short)

-- so have the documents of slots
each_has_few : (style : StyleView) (ts : List Token) (qs : List (Slot Tree)) (n : ℕ) → n ≤ 2 ^ 27 → PartsSized ts (map (top_part style ts) qs) n →
    AllByRecursion (λ s. most_pieces (style_doc style ts s) ≤ 2 ^ 27) qs
unfolding PartsSized
each_has_few style ts [] n p h = tt
each_has_few style ts (q ∷ qs) n p h =
    let sum : h.0 + h.1 ≤ n = h.2 in
    let here = h.3.1 in (
      subst (λ (d : Doc). most_pieces d ≤ 2 ^ 27) (top_doc style ts q) (omega (arith, p, sum, here)),
      each_has_few style ts qs h.1 (omega (arith, p, sum)) h.4,
    )

pub slots_have_few : (style : StyleView) (tree : KeptTree) (source : List ℕ) (ts : List Token) (trees : Forest) → IsStyle style → IsSettled style tree source ts trees →
    AllByRecursion (λ s. most_pieces (style_doc style (kept style ts) s) ≤ 2 ^ 27) (top_slots (kept style ts) trees)
slots_have_few style tree source ts trees is h =
    each_has_few style (kept style ts) (top_slots (kept style ts) trees) (rooms (kept style ts) (forest_items trees)) (few_in_all style tree source ts trees is h)
    (tops_sized style (kept style ts) trees is.rules)

-- the first of these items have no more room than all of them
rooms_within : (all : List Token) (n k : ℕ) (ts : List Token) → EachAt all n ts → k ≤ length ts →
    rooms all (range_with_len n k) ≤ tokens_room ts
unfolding EachAt rooms room gap_pieces tokens_room
rooms_within all n zero ts h p = omega arith
rooms_within all n (suc k) [] h p = absurd (omega arith)
rooms_within all n (suc k) (t ∷ ts) h p =
    let here : blanks_before (slice_get all n) ≡ t.blanks = ap blanks_before h.0 in
    let size : length (spelling_at all n) ≡ length t.spelling = ap length h.1 in
    let rest = rooms_within all (n + 1) k ts h.2 (omega arith) in
    omega (arith, here, size, rest)

settled_rooms : (bare : Bool) (max : ℕ) (ts : List Token) → max ≤ 9 →
    tokens_room (settled bare max ts) ≤ 13 * spelled ts
unfolding tokens_room spelled
settled_rooms bare max [] p = omega arith
settled_rooms bare max (t ∷ ts) p =
    let few = kept_blanks (bare || closes t.kind) t.blanks max in
    let rest = settled_rooms (opens t.kind) max ts p in
    let sum = sum_by-cons (λ (u : Token). length u.spelling + 1) t ts in
    omega (arith, few, rest, sum)

-- the items of trees behind others
part_rooms : (most : ℕ) (ts : List Token) (n : ℕ) (done part : Forest) → most ≤ 9 → IsPlace (settled true most ts) n [] (followed_by done part) →
    n ≤ length (settled true most ts) → rooms (settled true most ts) (forest_items part) ≤ 13 * spelled ts
part_rooms most ts n done part few place within =
    let all : List Token = settled true most ts in
    let both : rooms all (forest_items done ++ forest_items part) ≡ rooms all (range_with_len 0 n) = ap (rooms all) (sym (items_behind done part) ∙ place.items_are) in
    let sum = rooms-append all (forest_items done) (forest_items part) in
    let most_rooms = rooms_within all 0 n all (each_at all) within in
    let few_rooms = settled_rooms true most ts few in
    omega (arith, both, sum, most_rooms, few_rooms)

-- the documents of their slots have few pieces
pub part_has_few : (style : StyleView) (bytes : List ℕ) (ts : List Token) (n : ℕ) (done part : Forest) → IsStyle style → IsUtf8 bytes → length bytes ≤ SOURCE_LIMIT → Itemised (chars bytes) ts →
    IsPlace (kept style ts) n [] (followed_by done part) → n ≤ length (kept style ts) → AllByRecursion (λ s. most_pieces (style_doc style (kept style ts) s) ≤ 2 ^ 27) (top_slots (kept style ts) part)
part_has_few style bytes ts n done part is utf8 short itemised place within =
    let all : List Token = kept style ts in
    let room = part_rooms style.blanks ts n done part is.blanks place within in
    let characters = read_spelled (chars bytes) ts itemised in
    let few = chars_len bytes utf8 in
    each_has_few style all (top_slots all part) (rooms all (forest_items part)) (omega (arith, room, characters, few, short)) (tops_sized style all part is.rules)
