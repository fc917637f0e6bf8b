-- A document is walked on one line as it is written there.
use Rattle.std.proofs.Common.{◌≡◌, ℕ, ◌+◌, ◌*◌, ◌≤◌, inl, inr, Bool, true, false, List, [], ◌∷◌, ◌++◌, length, length-append, Option, None, Some, refl, sym, ◌∙◌, ap, ap₂, subst, append_assoc, arith}
use Rattle.std.specs.Option.{option_map}
use Rattle.rf_base_document.specs.declared.directions.Dir.{Dir}
use Rattle.rf_base_document.specs.declared.directions.Dir.TheVariants.{Left, Right}
use Rattle.rf_base_document.specs.Document.{Doc, Text, Newline, Hard, Concat, Nest, Align, Reset, Flatten, Choice, Only, Charge, IsDocument}
use Rattle.rf_base_document.specs.Render.{Piece, Word, Break, Fee, column_after, WordsRun}
use Rattle.rf_base_document.specs.Simple.{simple, simple_newline, simple_concat, simple_choice}
use Rattle.rf_base_document.proofs.Render.{layout-append}
use Rattle.rf_base_document.proofs.Running.{column_after-append, runs-append}
use Rattle.rf_base_cut.specs.DocumentLines.{EachIsWord}
use Rattle.rf_base_cut.proofs.LaidLines.{words_append}
use Rattle.rf_base_lines.specs.Spelled.{Spelled, spelled, spelled_text, spelled_behind, spelled_newline, spelled_line}
use Rattle.rf_base_lines.proofs.Spelling.{both_some, either_some, behind_some}
use Rattle.rf_walk.specs.declared.walking.Frame.{Frame}
use Rattle.rf_walk.specs.Papers.{IsLineOf, GainsLine, PassesLine}
use Rattle.rf_walk.specs.Walked.{Walked, walked, and_walked, then_walked, deeper, walk, walk_core, walk_all, Ending, ended, CanGoOn}
use Rattle.rf_walk.proofs.Joins.{layout_one, walk_all-snoc, ended-after, ended_least}
use Rattle.rf_walk.proofs.CoreWalks.{concat_walked, nest_walked, align_walked, reset_walked, left_walked, right_walked}
use Rattle.rf_walk.proofs.OneWord.{one_word}
use Rattle.rf_rows.specs.declared.laying.Spot.{Spot}
use Rattle.rf_rows.specs.Laying.{framed, IsLaid, IsPast, GainsChoices, PassesByChoices}
use Rattle.rf_rows.proofs.Frames.{same}

-- a walk over the core, with the choices of the line and others, writes the line, and leaves the others
pub record IsWalked (o : Option Doc) (l : Spelled) (c i : ℕ) (rest : List Dir) : Type 0 where
  pub pieces : List Piece
  pub walks : walk_core o c i (l.how ++ rest) ≡ Some (walked pieces (c + l.len) (l.words + length l.how) rest)
  pub line : IsLineOf pieces c l.text l.len l.words

as_line : (o : Option Doc) (l k : Spelled) (c i : ℕ) (rest : List Dir) → l ≡ k → IsWalked o l c i rest → IsWalked o k c i rest
as_line o l k c i rest is h = subst (λ (x : Spelled). IsWalked o x c i rest) is h

as_core : (o p : Option Doc) (l : Spelled) (c i j : ℕ) (rest : List Dir) → walk_core o c i (l.how ++ rest) ≡ walk_core p c j (l.how ++ rest) → IsWalked p l c j rest → IsWalked o l c i rest
as_core o p l c i j rest is h = record { pieces = h.pieces; walks = is ∙ h.walks; line = h.line }

text_line : (s : List ℕ) (len c i : ℕ) (rest : List Dir) → IsWalked (Some (Text s len)) (spelled_text s len) c i rest
unfolding walk
text_line s len c i rest = record { pieces = Word c s len ∷ []; walks = refl; line = one_word c s len }

newline_line : (flat : Bool) (l : Spelled) (c i : ℕ) (rest : List Dir) → spelled_newline flat ≡ Some l → IsWalked (Some (simple_newline flat)) l c i rest
newline_line true l c i rest e =
    let is : spelled_text (32 ∷ []) 1 ≡ l = cc in
    as_line (Some (Text (32 ∷ []) 1)) (spelled_text (32 ∷ []) 1) l c i rest is (text_line (32 ∷ []) 1 c i rest)
newline_line false l c i rest e = cc

abbrev both : Spelled → Spelled → Spelled
both x y = spelled (x.len + y.len) (x.how ++ y.how) (x.text ++ y.text) (x.words + y.words)

lines_join : (ps qs : List Piece) (c : ℕ) (x y : Spelled) → IsLineOf ps c x.text x.len x.words → IsLineOf qs (c + x.len) y.text y.len y.words →
    IsLineOf (ps ++ qs) c (x.text ++ y.text) (x.len + y.len) (x.words + y.words)
lines_join ps qs c x y h k = record {
  alone = words_append ps qs h.alone k.alone;
  runs = runs-append c ps qs h.runs (subst (λ (n : ℕ). WordsRun n qs) (sym h.ends) k.runs);
  text_is = layout-append ps qs ∙ ap₂ (λ (s t : List ℕ). s ++ t) h.text_is k.text_is;
  ends = column_after-append c ps qs ∙ ap (λ (n : ℕ). column_after n qs) h.ends ∙ k.ends ∙ omega arith;
  count_is = length-append ps qs ∙ ap₂ (λ (n m : ℕ). n + m) h.count_is k.count_is;
}

both_walk : (o p : Option Doc) (x y : Spelled) (c i : ℕ) (rest : List Dir) → (h : IsWalked o x c i (y.how ++ rest)) → (k : IsWalked p y (c + x.len) i rest) →
    IsWalked (simple_concat o p) (both x y) c i rest
both_walk o p x y c i rest h k =
    let first : Walked = walked h.pieces (c + x.len) (x.words + length x.how) (y.how ++ rest) in
    let columns : (c + x.len) + y.len ≡ c + (x.len + y.len) = omega arith in
    let weight : (x.words + length x.how) + (y.words + length y.how) ≡ (x.words + y.words) + length (x.how ++ y.how) = omega (arith, length-append x.how y.how) in
    record {
      pieces = h.pieces ++ k.pieces;
      walks =
          ap (λ (l : List Dir). walk_core (simple_concat o p) c i l) (append_assoc x.how y.how rest)
          ∙ concat_walked o p c i (x.how ++ (y.how ++ rest))
          ∙ ap (λ (w : Option Walked). then_walked w (λ last left. walk_core p last i left)) h.walks
          ∙ ap (λ (w : Option Walked). and_walked first w) k.walks
          ∙ ap₂ (λ (n m : ℕ). Some (walked (h.pieces ++ k.pieces) n m rest)) columns weight;
      line = lines_join h.pieces k.pieces c x y h.line k.line;
    }

-- a line behind a direction
behind_walk : (o p : Option Doc) (dir : Dir) (x : Spelled) (c i : ℕ) (rest : List Dir) →
    walk_core o c i (dir ∷ (x.how ++ rest)) ≡ and_walked (walked [] c 1 (x.how ++ rest)) (walk_core p c i (x.how ++ rest)) → IsWalked p x c i rest →
    IsWalked o (spelled_behind (dir ∷ []) x) c i rest
behind_walk o p dir x c i rest is h =
    let weight : 1 + (x.words + length x.how) ≡ x.words + length (dir ∷ x.how) = omega arith in
    record {
      pieces = h.pieces;
      walks =
          is ∙ ap (λ (w : Option Walked). and_walked (walked [] c 1 (x.how ++ rest)) w) h.walks
          ∙ ap (λ (n : ℕ). Some (walked h.pieces (c + x.len) n rest)) weight;
      line = h.line;
    }

only_same : (dir : Dir) (o : Option Doc) (c i : ℕ) (rest : List Dir) → walk_core (option_map (Only dir) o) c i (dir ∷ rest) ≡ and_walked (walked [] c 1 rest) (walk_core o c i rest)
unfolding walk
only_same dir None c i rest = refl
only_same Left (Some a) c i rest = refl
only_same Right (Some a) c i rest = refl

pub line_walks : (d : Doc) (flat : Bool) (l : Spelled) (c i : ℕ) (rest : List Dir) → spelled_line d flat ≡ Some l → IsWalked (simple d flat) l c i rest
unfolding spelled_line simple
line_walks (Text s len) flat l c i rest e =
    let is : spelled_text s len ≡ l = cc in
    as_line (Some (Text s len)) (spelled_text s len) l c i rest is (text_line s len c i rest)
line_walks Newline flat l c i rest e = newline_line flat l c i rest e
line_walks (Concat a b) flat l c i rest e =
    let parts = both_some (spelled_line a flat) (spelled_line b flat) l e in
    let x = parts.0 in
    let y = parts.1 in
    as_line (simple_concat (simple a flat) (simple b flat)) (both x y) l c i rest parts.4
    (both_walk (simple a flat) (simple b flat) x y c i rest (line_walks a flat x c i (y.how ++ rest) parts.2) (line_walks b flat y (c + x.len) i rest parts.3))
line_walks (Nest n a) flat l c i rest e =
    as_core (option_map (Nest n) (simple a flat)) (simple a flat) l c i (deeper i n) rest (nest_walked (simple a flat) n c i (l.how ++ rest)) (line_walks a flat l c (deeper i n) rest e)
line_walks (Align a) flat l c i rest e =
    as_core (option_map Align (simple a flat)) (simple a flat) l c i c rest (align_walked (simple a flat) c i (l.how ++ rest)) (line_walks a flat l c c rest e)
line_walks (Reset a) flat l c i rest e =
    as_core (option_map Reset (simple a flat)) (simple a flat) l c i 0 rest (reset_walked (simple a flat) c i (l.how ++ rest)) (line_walks a flat l c 0 rest e)
line_walks (Flatten a) flat l c i rest e = line_walks a true l c i rest e
line_walks (Choice a b) flat l c i rest e =
    let o : Option Doc = simple_choice (simple a flat) (simple b flat) in
    elim (either_some (spelled_line a flat) (spelled_line b flat) l e) [
      | inl first ↦
          let x = first.0 in
          as_line o (spelled_behind (Left ∷ []) x) l c i rest first.2
          (behind_walk o (simple a flat) Left x c i rest (left_walked (simple a flat) (simple b flat) c i (x.how ++ rest)) (line_walks a flat x c i rest first.1))
      | inr second ↦
          let y = second.0 in
          as_line o (spelled_behind (Right ∷ []) y) l c i rest second.2
          (behind_walk o (simple b flat) Right y c i rest (right_walked (simple a flat) (simple b flat) c i (y.how ++ rest)) (line_walks b flat y c i rest second.1))
    ]
line_walks (Only dir a) flat l c i rest e =
    let part = behind_some dir (spelled_line a flat) l e in
    let x = part.0 in
    as_line (option_map (Only dir) (simple a flat)) (spelled_behind (dir ∷ []) x) l c i rest part.2
    (behind_walk (option_map (Only dir) (simple a flat)) (simple a flat) dir x c i rest (only_same dir (simple a flat) c i (x.how ++ rest)) (line_walks a flat x c i rest part.1))
line_walks _ flat l c i rest e = cc

-- a line takes up at most two columns a character
pub line_columns : (d : Doc) (flat : Bool) (l : Spelled) → IsDocument d → spelled_line d flat ≡ Some l → l.len ≤ 2 * length l.text
unfolding spelled_line IsDocument
line_columns (Text s len) flat l h e =
    let is : spelled_text s len ≡ l = cc in
    subst (λ (x : Spelled). x.len ≤ 2 * length x.text) is h.1
line_columns Newline true l h e =
    let is : spelled_text (32 ∷ []) 1 ≡ l = cc in
    subst (λ (x : Spelled). x.len ≤ 2 * length x.text) is (omega arith)
line_columns (Concat a b) flat l h e =
    let parts = both_some (spelled_line a flat) (spelled_line b flat) l e in
    let x = parts.0 in
    let y = parts.1 in
    subst (λ (z : Spelled). z.len ≤ 2 * length z.text) parts.4
    (omega (arith, line_columns a flat x h.0 parts.2, line_columns b flat y h.1 parts.3, length-append x.text y.text))
line_columns (Nest n a) flat l h e = line_columns a flat l h.1 e
line_columns (Align a) flat l h e = line_columns a flat l h e
line_columns (Reset a) flat l h e = line_columns a flat l h e
line_columns (Flatten a) flat l h e = line_columns a true l h e
line_columns (Choice a b) flat l h e =
    elim (either_some (spelled_line a flat) (spelled_line b flat) l e) [
      | inl first ↦ subst (λ (z : Spelled). z.len ≤ 2 * length z.text) first.2 (line_columns a flat first.0 h.0 first.1)
      | inr second ↦ subst (λ (z : Spelled). z.len ≤ 2 * length z.text) second.2 (line_columns b flat second.0 h.1 second.1)
    ]
line_columns (Only dir a) flat l h e =
    let part = behind_some dir (spelled_line a flat) l e in
    subst (λ (z : Spelled). z.len ≤ 2 * length z.text) part.2 (line_columns a flat part.0 h part.1)
line_columns _ _ l h e = cc

-- the ending of a walk that begins with the line, once that is written
line_ends : (holds : List Piece → ℕ → Type 0) (spot : Spot) (d : Doc) (l : Spelled) (left : List Dir) (others : List (Frame Doc)) (end : Ending) →
    (can : CanGoOn holds same (others ++ framed spot d ∷ []) (l.how ++ left) end) → (w : IsWalked (simple d spot.flat) l (column_after 0 can.pieces) spot.indentation left) →
    ended (can.pieces ++ w.pieces) (can.weight + (l.words + length l.how)) (walk_all same others (column_after 0 can.pieces + l.len) left) ≡ Some end
line_ends holds spot d l left others end can w =
    let c : ℕ = column_after 0 can.pieces in
    let all : Walked = walked w.pieces (c + l.len) (l.words + length l.how) left in
    sym (ended-after can.pieces can.weight all (walk_all same others (c + l.len) left))
    ∙ ap (λ (o : Option Walked). ended can.pieces can.weight (then_walked o (λ last rest. walk_all same others last rest))) (sym w.walks)
    ∙ ap (λ (o : Option Walked). ended can.pieces can.weight o) (sym (walk_all-snoc same others (framed spot d) c (l.how ++ left)))
    ∙ can.ends

pub line_laid : {P : Type 0} (holds : P → P → List Piece → ℕ → Type 0) (old mid new : P) (spot : Spot) (d : Doc) (l : Spelled) (cs left : List Dir) (n : ℕ) →
    spelled_line d spot.flat ≡ Some l → cs ≡ l.how ++ left → n ≡ length l.how → GainsChoices holds old mid n → GainsLine holds mid new l.text l.len l.words →
    IsLaid holds old new spot d cs left
line_laid holds old mid new spot d l cs left n is begins many counted put blank others end whole =
    let can = subst (λ (x : List Dir). CanGoOn (holds blank old) same (others ++ framed spot d ∷ []) x end) begins whole in
    let c : ℕ = column_after 0 can.pieces in
    let w = line_walks d spot.flat l c spot.indentation left is in
    let column : column_after 0 (can.pieces ++ w.pieces) ≡ c + l.len = column_after-append 0 can.pieces w.pieces ∙ w.line.ends in
    let weight : (can.weight + n) + l.words ≡ can.weight + (l.words + length l.how) = omega (arith, many) in
    record {
      pieces = can.pieces ++ w.pieces;
      weight = (can.weight + n) + l.words;
      held = put blank can.pieces (can.weight + n) (counted blank can.pieces can.weight can.held) w.pieces w.line;
      ends =
          ap₂ (λ (a b : ℕ). ended (can.pieces ++ w.pieces) a (walk_all same others b left)) weight column
          ∙ line_ends (holds blank old) spot d l left others end can w;
    }

-- too many choices, and too long a line
pub choices_past : {P : Type 0} (holds : P → P → List Piece → ℕ → Type 0) (old : P) (spot : Spot) (d : Doc) (l : Spelled) (cs left : List Dir) (n : ℕ) →
    spelled_line d spot.flat ≡ Some l → cs ≡ l.how ++ left → n ≡ length l.how → PassesByChoices holds old n → IsPast holds old spot d cs
choices_past holds old spot d l cs left n is begins many passes blank others end whole =
    let can = subst (λ (x : List Dir). CanGoOn (holds blank old) same (others ++ framed spot d ∷ []) x end) begins whole in
    let c : ℕ = column_after 0 can.pieces in
    let w = line_walks d spot.flat l c spot.indentation left is in
    let least = ended_least (can.pieces ++ w.pieces) (can.weight + (l.words + length l.how)) (walk_all same others (c + l.len) left) end (line_ends (holds blank old) spot d l left others end can w) in
    inr (omega (arith, least.1, many, passes blank can.pieces can.weight can.held))

pub line_past : {P : Type 0} (holds : P → P → List Piece → ℕ → Type 0) (old mid : P) (spot : Spot) (d : Doc) (l : Spelled) (cs left : List Dir) (n : ℕ) →
    spelled_line d spot.flat ≡ Some l → cs ≡ l.how ++ left → n ≡ length l.how → GainsChoices holds old mid n → PassesLine holds mid l.text l.len l.words →
    IsPast holds old spot d cs
line_past holds old mid spot d l cs left n is begins many counted passes blank others end whole =
    let can = subst (λ (x : List Dir). CanGoOn (holds blank old) same (others ++ framed spot d ∷ []) x end) begins whole in
    let c : ℕ = column_after 0 can.pieces in
    let w = line_walks d spot.flat l c spot.indentation left is in
    let least = ended_least (can.pieces ++ w.pieces) (can.weight + (l.words + length l.how)) (walk_all same others (c + l.len) left) end (line_ends (holds blank old) spot d l left others end can w) in
    elim (passes blank can.pieces (can.weight + n) (counted blank can.pieces can.weight can.held) w.pieces w.line) [
      | inl long ↦ inl (omega (arith, long, least.0))
      | inr heavy ↦ inr (omega (arith, heavy, least.1, many))
    ]
