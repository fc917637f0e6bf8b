-- What the pieces of a layout are, how many there are, and where they begin and end.
use Rattle.std.proofs.Common.{◌≡◌, ℕ, ◌+◌, ◌≤◌, Bool, true, false, List, [], ◌∷◌, ◌++◌, length, length-append, append-nil, refl, sym, ◌∙◌, ap, subst, inl, inr, Some, arith}
use Rattle.rf_base_document.specs.declared.directions.Dir.{Dir}
use Rattle.rf_base_document.specs.Document.{Doc, Text, Newline, Hard, Concat, Nest, Align, Reset, Flatten, Choice, Only, Charge, IsDocument}
use Rattle.rf_base_document.specs.Render.{Piece, Word, Break, Fee, Laid, laid, newline_laid, hard_laid, render, piece_text, layout, piece_end, column_after, WordsRun}
use Rattle.rf_base_document.specs.Picks.{Picks, leaves_of, charges_of, marks_of}
use Rattle.rf_base_document.proofs.Render.{joined-is, followed_by-is, layout-append}

-- the column after two lists of pieces in a row
pub column_after-append : (column : ℕ) (ps qs : List Piece) →
    column_after column (ps ++ qs) ≡ column_after (column_after column ps) qs
unfolding column_after
column_after-append column [] qs = refl
column_after-append column (p ∷ ps) qs = column_after-append (piece_end column p) ps qs

pub column_after-snoc : (column : ℕ) (ps : List Piece) (p : Piece) →
    column_after column (ps ++ p ∷ []) ≡ piece_end (column_after column ps) p
unfolding column_after
column_after-snoc column ps p = column_after-append column ps (p ∷ [])

-- the text of a piece more
pub layout-snoc : (ps : List Piece) (p : Piece) → layout (ps ++ p ∷ []) ≡ layout ps ++ piece_text p
unfolding layout
layout-snoc ps p = layout-append ps (p ∷ []) ∙ ap (λ t. layout ps ++ t) (append-nil (piece_text p))

-- two lists of pieces in a row run on where the second does from the end of the first
pub runs-append : (column : ℕ) (ps qs : List Piece) → WordsRun column ps → WordsRun (column_after column ps) qs →
    WordsRun column (ps ++ qs)
unfolding WordsRun column_after
runs-append column [] qs h k = k
runs-append column (Word at s len ∷ ps) qs h k =
    (h.0, runs-append (column + len) ps qs h.1 (subst (λ (n : ℕ). WordsRun (column_after (n + len) ps) qs) h.0 k))
runs-append column (Break indentation ∷ ps) qs h k = runs-append indentation ps qs h k
runs-append column (Fee k ∷ ps) qs h r = runs-append column ps qs h r

-- the words and breaks of two lists of pieces in a row
pub marks_of-append : (ps qs : List Piece) → marks_of (ps ++ qs) ≡ marks_of ps + marks_of qs
unfolding marks_of
marks_of-append [] qs = omega arith
marks_of-append (p ∷ ps) qs = omega (arith, marks_of-append ps qs)

-- a layout that begins at this column and has so many leaves and charges: its words run on from the column, its pieces
-- end at its last column, and each leaf is a word or a break of it, each charge a fee
pub record IsLaid (column leaves charges : ℕ) (whole : Laid) : Type 0 where
  pub runs : WordsRun column whole.pieces
  pub ends : column_after column whole.pieces ≡ whole.last
  pub marks : marks_of whole.pieces ≡ leaves
  pub count : length whole.pieces ≡ leaves + charges

same_laid : (c l k : ℕ) (x y : Laid) → Some x ≡ Some y → IsLaid c l k x → IsLaid c l k y
same_laid c l k x y e h = let same : x ≡ y = cc in subst (λ (z : Laid). IsLaid c l k z) same h

joined_laid : (c l k m n : ℕ) (first second whole : Laid) → whole.pieces ≡ first.pieces ++ second.pieces →
    whole.last ≡ second.last → IsLaid c l k first → IsLaid first.last m n second → IsLaid c (l + m) (k + n) whole
joined_laid c l k m n first second whole e f h j =
    let from : WordsRun (column_after c first.pieces) second.pieces =
    subst (λ (n : ℕ). WordsRun n second.pieces) (sym h.ends) j.runs in
    record {
      runs = subst (λ (ps : List Piece). WordsRun c ps) (sym e) (runs-append c first.pieces second.pieces h.runs from);
      ends =
          ap (column_after c) e ∙ column_after-append c first.pieces second.pieces
          ∙ ap (λ (n : ℕ). column_after n second.pieces) h.ends ∙ j.ends ∙ sym f;
      marks = omega (arith, ap marks_of e, marks_of-append first.pieces second.pieces);
      count = omega (arith, ap (λ (ps : List Piece). length ps) e, length-append first.pieces second.pieces);
    }

newline_is_laid : (c i : ℕ) (flat : Bool) → IsLaid c 1 0 (newline_laid c i flat)
unfolding WordsRun column_after marks_of
newline_is_laid c i true = record { runs = (refl, tt); ends = refl; marks = refl; count = refl }
newline_is_laid c i false = record { runs = tt; ends = refl; marks = refl; count = refl }

hard_is_laid : (c i : ℕ) (flat : Bool) (whole : Laid) → hard_laid i flat ≡ Some whole → IsLaid c 1 0 whole
hard_is_laid c i true whole e = cc
hard_is_laid c i false whole e = same_laid c 1 0 (newline_laid c i false) whole e (newline_is_laid c i false)

pub lays_out : (e : Doc) (c i : ℕ) (flat : Bool) (whole : Laid) → render e c i flat ≡ Some whole →
    IsLaid c (leaves_of e) (charges_of e) whole
unfolding render leaves_of charges_of WordsRun column_after marks_of
lays_out (Text s len) c i flat whole e =
    same_laid c 1 0 (laid (Word c s len ∷ []) (c + len)) whole e (record {
      runs = (refl, tt);
      ends = refl;
      marks = refl;
      count = refl;
    })
lays_out Newline c i flat whole e = same_laid c 1 0 (newline_laid c i flat) whole e (newline_is_laid c i flat)
lays_out Hard c i flat whole e = hard_is_laid c i flat whole e
lays_out (Concat a b) c i flat whole e =
    let found = followed_by-is (render a c i flat) (λ last. render b last i flat) whole e in
    joined_laid c (leaves_of a) (charges_of a) (leaves_of b) (charges_of b) found.0 found.1 whole found.4 found.5
    (lays_out a c i flat found.0 found.2) (lays_out b found.0.last i flat found.1 found.3)
lays_out (Nest n a) c i flat whole e = lays_out a c (i + n) flat whole e
lays_out (Align a) c i flat whole e = lays_out a c c flat whole e
lays_out (Reset a) c i flat whole e = lays_out a c 0 flat whole e
lays_out (Flatten a) c i flat whole e = lays_out a c i true whole e
lays_out (Charge k a) c i flat whole e =
    let found = joined-is (laid (Fee k ∷ []) c) (render a c i flat) whole e in
    subst (λ (n : ℕ). IsLaid c n (1 + charges_of a) whole) (omega arith)
    (joined_laid c 0 1 (leaves_of a) (charges_of a) (laid (Fee k ∷ []) c) found.0 whole found.2 found.3
    (record { runs = tt; ends = refl; marks = refl; count = refl }) (lays_out a c i flat found.0 found.1))
lays_out _ c i flat whole e = cc

pub layout_runs : (e : Doc) (c i : ℕ) (flat : Bool) (whole : Laid) → render e c i flat ≡ Some whole →
    WordsRun c whole.pieces × (column_after c whole.pieces ≡ whole.last)
layout_runs e c i flat whole h = let is = lays_out e c i flat whole h in (is.runs, is.ends)

-- a document has a text or a newline
pub leaves_some : (d : Doc) → 1 ≤ leaves_of d
unfolding leaves_of
leaves_some (Concat a b) = omega (arith, leaves_some a)
leaves_some (Nest n a) = leaves_some a
leaves_some (Align a) = leaves_some a
leaves_some (Reset a) = leaves_some a
leaves_some (Flatten a) = leaves_some a
leaves_some (Choice a b) = omega (arith, leaves_some a)
leaves_some (Only dir a) = leaves_some a
leaves_some (Charge k a) = leaves_some a
leaves_some _ = omega arith

pub piece_count : (e : Doc) (c i : ℕ) (flat : Bool) (whole : Laid) → render e c i flat ≡ Some whole →
    length whole.pieces ≡ leaves_of e + charges_of e
piece_count e c i flat whole h = (lays_out e c i flat whole h).count

pub layout_pieces : (e : Doc) (c i : ℕ) (flat : Bool) (whole : Laid) → render e c i flat ≡ Some whole →
    (length whole.pieces ≡ leaves_of e + charges_of e) × (1 ≤ leaves_of e)
layout_pieces e c i flat whole h = (piece_count e c i flat whole h, leaves_some e)

pub picks_document : (d e : Doc) (choices : List Dir) → IsDocument d → Picks d choices e → IsDocument e
unfolding Picks IsDocument
picks_document (Concat a b) e cs h k = subst IsDocument (sym k.5) (
  picks_document a k.2 k.0 h.0 k.6,
  picks_document b k.3 k.1 h.1 k.7,
)
picks_document (Nest n a) e cs h k = subst IsDocument (sym k.1) (h.0, picks_document a k.0 cs h.1 k.2)
picks_document (Align a) e cs h k = subst IsDocument (sym k.1) (picks_document a k.0 cs h k.2)
picks_document (Reset a) e cs h k = subst IsDocument (sym k.1) (picks_document a k.0 cs h k.2)
picks_document (Flatten a) e cs h k = subst IsDocument (sym k.1) (picks_document a k.0 cs h k.2)
picks_document (Choice a b) e cs h k = elim k.1 [
  | inl m ↦ picks_document a e k.0 h.0 m.1
  | inr m ↦ picks_document b e k.0 h.1 m.1
]
picks_document (Only dir a) e cs h k = picks_document a e k.0 h k.2
picks_document (Charge n a) e cs h k = subst IsDocument (sym k.1) (h.0, picks_document a k.0 cs h.1 k.2)
picks_document _ e cs h k = subst IsDocument (sym k.1) h
