-- A source's document keeps the limits of documents, and no resolution of it has many pieces.
use Rattle.std.proofs.Common.{◌≡◌, ℕ, ◌+◌, ◌*◌, ◌^◌, ◌≤◌, ◌||◌, min, if◌then◌else◌, Bool, true, false, List, [], ◌∷◌, length, slice_get, refl, ap, ◌∙◌, arith}
use Rattle.std.specs.List.{range_with_len}
use Rattle.std.specs.Prelude.{sum_by}
use Rattle.std.proofs.lemmas.List.Sums.{sum_by-cons}
use Rattle.rf_base_document.specs.Document.{IsDocument}
use Rattle.rf_base_optimum.specs.MostPieces.{most_pieces}
use Rattle.rf_base_grammar.specs.Itemised.{Itemised}
use Rattle.rf_base_grammar.specs.Token.{Token, opens, closes, settled}
use Rattle.rf_base_grammar.proofs.Texts.{Leads-lengths}
use Rattle.rf_base_style.specs.Table.{StyleView, IsStyle}
use Rattle.rf_base_tree.specs.Trees.{Forest, spelling_at, forest_items}
use Rattle.rf_base_tree.specs.Formed.{Treed}
use Rattle.rf_base_file.specs.LaidOut.{kept, source_doc}
use Rattle.rf_base_file.specs.ByForms.{blanks_before}
use Rattle.rf_base_file.proofs.SameTrees.{Treed-same}
use Rattle.rf_base_file.proofs.TreeStrands.{EachAt, each_at}
use Rattle.rf_base_file.proofs.Sizes.{gap_pieces}
use Rattle.rf_base_file.proofs.ListSizes.{room, rooms, file_sized}

-- how many pieces these items may have
unfoldable pub tokens_room : List Token → ℕ
tokens_room [] = 0
tokens_room (t ∷ ts) = 2 * length t.spelling + 4 + t.blanks + tokens_room ts

rooms_are : (all : List Token) (n : ℕ) (ts : List Token) → EachAt all n ts →
    rooms all (range_with_len n (length ts)) ≡ tokens_room ts
unfolding EachAt rooms room gap_pieces tokens_room
rooms_are all n [] h = refl
rooms_are all n (t ∷ ts) h =
    let here : blanks_before (slice_get all n) ≡ t.blanks = ap blanks_before h.0 in
    let size : length (spelling_at all n) ≡ length t.spelling = ap length h.1 in
    let rest = rooms_are all (n + 1) ts h.2 in
    omega (arith, here, size, rest)

-- at most so many blank lines are kept
pub kept_blanks : (b : Bool) (n max : ℕ) → (if b then 0 else min n max) ≤ max
kept_blanks true n max = omega arith
kept_blanks false n max = omega arith

settled_room : (bare : Bool) (max : ℕ) (ts : List Token) → max ≤ 9 →
    tokens_room (settled bare max ts) ≤ 13 * sum_by (λ t. length t.spelling + 1) ts
unfolding tokens_room
settled_room bare max [] p = omega arith
settled_room bare max (t ∷ ts) p =
    let few = kept_blanks (bare || closes t.kind) t.blanks max in
    let rest = settled_room (opens t.kind) max ts p in
    let sum = sum_by-cons (λ (u : Token). length u.spelling + 1) t ts in
    omega (arith, few, rest, sum)

-- the items of a settled source have room for few pieces
pub few_rooms : (style : StyleView) (ts : List Token) (trees : Forest) → IsStyle style → Treed ts trees →
    rooms (kept style ts) (forest_items trees) ≤ 13 * sum_by (λ t. length t.spelling + 1) ts
few_rooms style ts trees is treed =
    let all : List Token = kept style ts in
    let again = Treed-same ts all trees style.blanks treed refl in
    let rooms_all : rooms all (forest_items trees) ≡ tokens_room all =
    ap (rooms all) again.items_are ∙ rooms_are all 0 all (each_at all) in
    let room_of = settled_room true style.blanks ts is.blanks in
    omega (arith, rooms_all, room_of)

pub few_pieces : (style : StyleView) (source : List ℕ) (ts : List Token) (trees : Forest) → IsStyle style →
    Itemised source ts → length source ≤ 4194304 → Treed ts trees →
    IsDocument (source_doc style ts trees) × (most_pieces (source_doc style ts trees) ≤ 2 ^ 27)
few_pieces style source ts trees is itemised short treed =
    let sized = file_sized style (kept style ts) trees is.rules in
    let most = sized.1 in
    let few = few_rooms style ts trees is treed in
    let lengths = Leads-lengths [] 0 source ts itemised.0 itemised.1 in
    (sized.0, omega (arith, most, few, lengths, short))
