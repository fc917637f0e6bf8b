-- The layouts of documents on one line, flat or not.
use Rattle.std.proofs.Common.{◌≡◌, ℕ, ◌+◌, Bool, true, false, List, [], ◌∷◌, ◌++◌, refl, sym, ◌∙◌, ap, subst, inl, inr, Option, Some, arith}
use Rattle.rf_base_document.specs.declared.directions.Dir.{Dir}
use Rattle.rf_base_document.specs.declared.directions.Dir.TheVariants.{Left, Right}
use Rattle.rf_base_document.specs.Document.{Doc, Text, Newline, Hard, Concat, Nest, Align, Reset, Flatten, Choice, Only, Charge}
use Rattle.rf_base_document.specs.Picks.{Picks, LaidOutBy}
use Rattle.rf_base_document.specs.Render.{Piece, Word, Break, Fee, Laid, laid, joined, followed_by, newline_laid, hard_laid, render}
use Rattle.rf_base_document.proofs.Render.{joined-is, followed_by-is}
use Rattle.rf_base_document.proofs.Simple.{render_same}
use Rattle.rf_base_cut.specs.DocumentLines.{Line, line, line_behind, newline_line, one_line, NewlineIsLong, IsLong, EachIsWord}
use Rattle.rf_base_cut.proofs.DocumentLines.{both_some, either_some, behind_some}

-- pieces in a row
pub words_append : (ps qs : List Piece) → EachIsWord ps → EachIsWord qs → EachIsWord (ps ++ qs)
unfolding EachIsWord
words_append [] qs f g = g
words_append (Word c s len ∷ ps) qs f g = words_append ps qs f g
words_append _ qs f g = absurd f

words_apart : (ps qs : List Piece) → EachIsWord (ps ++ qs) → EachIsWord ps × EachIsWord qs
unfolding EachIsWord
words_apart [] qs f = (tt, f)
words_apart (Word c s len ∷ ps) qs f = words_apart ps qs f
words_apart _ qs f = absurd f

-- a document's first line is a layout
abbrev LaidLine : Doc → Bool → ℕ → ℕ → Line → Type 0
LaidLine d flat c i l = (pieces : List Piece) × LaidOutBy d l.how c i flat (laid pieces (c + l.len)) × EachIsWord pieces

same_laid : (d : Doc) (flat : Bool) (c i : ℕ) (l k : Line) → l ≡ k → LaidLine d flat c i l → LaidLine d flat c i k
same_laid d flat c i l k e h = subst (λ (z : Line). LaidLine d flat c i z) e h

newline_laid_out : (flat : Bool) (l : Line) (c i : ℕ) → newline_line flat ≡ Some l → LaidLine Newline flat c i l
unfolding Picks render EachIsWord
newline_laid_out true l c i e =
    let same : line 1 [] ≡ l = cc in
    same_laid Newline true c i (line 1 []) l same (Word c (32 ∷ []) 1 ∷ [], (Newline, (refl, refl), refl), tt)
newline_laid_out false l c i e = cc

concat_laid_out : (a b : Doc) (flat : Bool) (c i : ℕ) (x y : Line) → LaidLine a flat c i x →
    LaidLine b flat (c + x.len) i y → LaidLine (Concat a b) flat c i (line (x.len + y.len) (x.how ++ y.how))
unfolding Picks render
concat_laid_out a b flat c i x y h k =
    let p = h.1.0 in
    let q = k.1.0 in
    let ends : (c + x.len) + y.len ≡ c + (x.len + y.len) = omega arith in (
      h.0 ++ k.0,
      (
        Concat p q,
        (x.how, y.how, p, q, refl, refl, h.1.1, k.1.1),
        ap (λ (o : Option Laid). followed_by o (λ last. render q last i flat)) h.1.2
            ∙ ap (λ (o : Option Laid). joined (laid h.0 (c + x.len)) o) k.1.2
            ∙ ap (λ (n : ℕ). Some (laid (h.0 ++ k.0) n)) ends,
      ),
      words_append h.0 k.0 h.2 k.2,
    )

pub line_laid_out : (d : Doc) (flat : Bool) (l : Line) (c i : ℕ) → one_line d flat ≡ Some l → LaidLine d flat c i l
unfolding one_line Picks render EachIsWord
line_laid_out (Text s columns) flat l c i e =
    let same : line columns [] ≡ l = cc in
    same_laid (Text s columns) flat c i (line columns []) l same (
      Word c s columns ∷ [],
      (Text s columns, (refl, refl), refl),
      tt,
    )
line_laid_out Newline flat l c i e = newline_laid_out flat l c i e
line_laid_out (Concat a b) flat l c i e =
    let parts = both_some (one_line a flat) (one_line b flat) l e in
    let x = parts.0 in
    let y = parts.1 in
    same_laid (Concat a b) flat c i (line (x.len + y.len) (x.how ++ y.how)) l (sym parts.4)
    (concat_laid_out a b flat c i x y (line_laid_out a flat x c i parts.2)
    (line_laid_out b flat y (c + x.len) i parts.3))
line_laid_out (Nest n a) flat l c i e =
    let under = line_laid_out a flat l c (i + n) e in
    (under.0, (Nest n under.1.0, (under.1.0, refl, under.1.1), under.1.2), under.2)
line_laid_out (Align a) flat l c i e =
    let under = line_laid_out a flat l c c e in
    (under.0, (Align under.1.0, (under.1.0, refl, under.1.1), under.1.2), under.2)
line_laid_out (Reset a) flat l c i e =
    let under = line_laid_out a flat l c 0 e in
    (under.0, (Reset under.1.0, (under.1.0, refl, under.1.1), under.1.2), under.2)
line_laid_out (Flatten a) flat l c i e =
    let under = line_laid_out a true l c i e in
    (under.0, (Flatten under.1.0, (under.1.0, refl, under.1.1), under.1.2), under.2)
line_laid_out (Choice a b) flat l c i e =
    elim (either_some (one_line a flat) (one_line b flat) l e) [
      | inl first ↦
          let under = line_laid_out a flat first.0 c i first.1 in
          same_laid (Choice a b) flat c i (line_behind Left first.0) l (sym first.2)
          (under.0, (under.1.0, (first.0.how, inl (refl, under.1.1)), under.1.2), under.2)
      | inr second ↦
          let y = second.1.0 in
          let under = line_laid_out b flat y c i second.1.1 in
          same_laid (Choice a b) flat c i (line_behind Right y) l (sym second.1.2)
          (under.0, (under.1.0, (y.how, inr (refl, under.1.1)), under.1.2), under.2)
    ]
line_laid_out (Only dir a) flat l c i e =
    let part = behind_some dir (one_line a flat) l e in
    let under = line_laid_out a flat part.0 c i part.1 in
    same_laid (Only dir a) flat c i (line_behind dir part.0) l (sym part.2)
    (under.0, (under.1.0, (part.0.how, refl, under.1.1), under.1.2), under.2)
line_laid_out _ flat l c i e = cc

-- where all are told to be as long they are
pub some_laid : (x y : Laid) → Some x ≡ Some y → x ≡ y
some_laid x y e = cc

newline_ends : (flat : Bool) (c i len : ℕ) (whole : Laid) → NewlineIsLong flat len → newline_laid c i flat ≡ whole →
    EachIsWord whole.pieces → whole.last ≡ c + len
unfolding EachIsWord
newline_ends true c i len whole h e f = sym (ap (λ (z : Laid). z.last) e) ∙ ap (λ (n : ℕ). c + n) (sym h)
newline_ends false c i len whole h e f =
    absurd (subst (λ (z : Laid). EachIsWord z.pieces) (sym e) f)

hard_ends : (flat : Bool) (c i len : ℕ) (whole : Laid) → hard_laid i flat ≡ Some whole → EachIsWord whole.pieces →
    whole.last ≡ c + len
unfolding EachIsWord
hard_ends true c i len whole e f = cc
hard_ends false c i len whole e f =
    absurd (subst (λ (z : Laid). EachIsWord z.pieces) (sym (some_laid (laid (Break i ∷ []) i) whole e)) f)

long_ends : (d : Doc) (cs : List Dir) (e : Doc) (c i : ℕ) (flat : Bool) (len : ℕ) (whole : Laid) → IsLong d flat len →
    Picks d cs e → render e c i flat ≡ Some whole → EachIsWord whole.pieces →
    whole.last ≡ c + len
unfolding IsLong Picks render EachIsWord
long_ends (Text s columns) cs e c i flat len whole h p r f =
    let is =
    some_laid (laid (Word c s columns ∷ []) (c + columns)) whole
    (render_same e (Text s columns) c i flat whole p.1 r) in
    sym (ap (λ (z : Laid). z.last) is) ∙ ap (λ (n : ℕ). c + n) (sym h)
long_ends Newline cs e c i flat len whole h p r f =
    newline_ends flat c i len whole h (some_laid (newline_laid c i flat) whole
    (render_same e Newline c i flat whole p.1 r)) f
long_ends Hard cs e c i flat len whole h p r f =
    hard_ends flat c i len whole (render_same e Hard c i flat whole p.1 r) f
long_ends (Concat a b) cs e c i flat len whole h p r f =
    let parts =
    followed_by-is (render p.2 c i flat) (λ last. render p.3 last i flat) whole
    (render_same e (Concat p.2 p.3) c i flat whole p.5 r) in
    let words = words_apart parts.0.pieces parts.1.pieces (subst (λ (z : List Piece). EachIsWord z) parts.4 f) in
    let first : parts.0.last ≡ c + h.0 = long_ends a p.0 p.2 c i flat h.0 parts.0 h.3 p.6 parts.2 words.0 in
    let second : parts.1.last ≡ parts.0.last + h.1 =
    long_ends b p.1 p.3 parts.0.last i flat h.1 parts.1 h.4 p.7 parts.3 words.1 in
    let all : len ≡ h.0 + h.1 = h.2 in
    let ends : whole.last ≡ parts.1.last = parts.5 in
    omega arith
long_ends (Nest n a) cs e c i flat len whole h p r f =
    long_ends a cs p.0 c (i + n) flat len whole h p.2 (render_same e (Nest n p.0) c i flat whole p.1 r) f
long_ends (Align a) cs e c i flat len whole h p r f =
    long_ends a cs p.0 c c flat len whole h p.2 (render_same e (Align p.0) c i flat whole p.1 r) f
long_ends (Reset a) cs e c i flat len whole h p r f =
    long_ends a cs p.0 c 0 flat len whole h p.2 (render_same e (Reset p.0) c i flat whole p.1 r) f
long_ends (Flatten a) cs e c i flat len whole h p r f =
    long_ends a cs p.0 c i true len whole h p.2 (render_same e (Flatten p.0) c i flat whole p.1 r) f
long_ends (Choice a b) cs e c i flat len whole h p r f =
    elim p.1 [
      | inl left ↦ long_ends a p.0 e c i flat len whole h.0 left.1 r f
      | inr right ↦ long_ends b p.0 e c i flat len whole h.1 right.1 r f
    ]
long_ends (Only dir a) cs e c i flat len whole h p r f = long_ends a p.0 e c i flat len whole h p.2 r f
long_ends (Charge k a) cs e c i flat len whole h p r f =
    let part =
    joined-is (laid (Fee k ∷ []) c) (render p.0 c i flat) whole (render_same e (Charge k p.0) c i flat whole p.1 r) in
    absurd (subst (λ (z : List Piece). EachIsWord z) part.2 f)

pub long_is_long : (d : Doc) (cs : List Dir) (c i : ℕ) (flat : Bool) (len : ℕ) (whole : Laid) → IsLong d flat len →
    LaidOutBy d cs c i flat whole → EachIsWord whole.pieces → whole.last ≡ c + len
long_is_long d cs c i flat len whole h laid_out f =
    long_ends d cs laid_out.0 c i flat len whole h laid_out.1 laid_out.2 f
