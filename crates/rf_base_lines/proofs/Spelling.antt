-- What is written of a document on one line is its first line, and one of its layouts.
use Rattle.std.proofs.Common.{◌≡◌, ℕ, ◌+◌, Bool, true, false, List, [], ◌∷◌, ◌++◌, append-nil, length, length-append, refl, ◌∙◌, ap, ap₂, subst, ◌⊎◌, inl, inr, Option, Some, None, arith}
use Rattle.std.specs.Option.{option_map}
use Rattle.rf_base_document.specs.declared.directions.Dir.{Dir}
use Rattle.rf_base_document.specs.declared.directions.Dir.TheVariants.{Left, Right}
use Rattle.rf_base_document.specs.Document.{Doc, Text, Newline, Hard, Concat, Nest, Align, Reset, Flatten, Choice, Only, Charge}
use Rattle.rf_base_document.specs.Picks.{Picks, LaidOutBy, marks_of}
use Rattle.rf_base_document.specs.Render.{Piece, Word, Break, Fee, Laid, laid, joined, followed_by, render, layout}
use Rattle.rf_base_cut.specs.DocumentLines.{Line, line, line_of_both, line_behind, line_of_either, newline_line, one_line, EachIsWord}
use Rattle.rf_base_lines.specs.Spelled.{Spelled, spelled, spelled_text, spelled_both, spelled_behind, spelled_either, spelled_newline, spelled_line}
use Rattle.rf_base_cut.proofs.LaidLines.{words_append}
use Rattle.rf_base_document.proofs.Render.{layout-append}

-- without its characters it is the document's first line
abbrev first_line : Option Spelled → Option Line
first_line o = option_map (λ l. line l.len l.how) o

newline_one_line : (flat : Bool) → first_line (spelled_newline flat) ≡ newline_line flat
newline_one_line true = refl
newline_one_line false = refl

both_one_line : (a b : Option Spelled) → first_line (spelled_both a b) ≡ line_of_both (first_line a) (first_line b)
both_one_line None b = refl
both_one_line (Some a) None = refl
both_one_line (Some a) (Some b) = refl

behind_one_line : (dir : Dir) (a : Option Spelled) → first_line (option_map (spelled_behind (dir ∷ [])) a) ≡ option_map (line_behind dir) (first_line a)
behind_one_line dir None = refl
behind_one_line dir (Some a) = refl

either_one_line : (a b : Option Spelled) → first_line (spelled_either a b) ≡ line_of_either (first_line a) (first_line b)
either_one_line None None = refl
either_one_line None (Some b) = refl
either_one_line (Some a) b = refl

pub spelled_one_line : (d : Doc) (flat : Bool) → option_map (λ l. line l.len l.how) (spelled_line d flat) ≡ one_line d flat
unfolding spelled_line one_line
spelled_one_line Newline flat = newline_one_line flat
spelled_one_line (Concat a b) flat =
    both_one_line (spelled_line a flat) (spelled_line b flat) ∙ ap₂ line_of_both (spelled_one_line a flat) (spelled_one_line b flat)
spelled_one_line (Nest n a) flat = spelled_one_line a flat
spelled_one_line (Align a) flat = spelled_one_line a flat
spelled_one_line (Reset a) flat = spelled_one_line a flat
spelled_one_line (Flatten a) flat = spelled_one_line a true
spelled_one_line (Choice a b) flat =
    either_one_line (spelled_line a flat) (spelled_line b flat) ∙ ap₂ line_of_either (spelled_one_line a flat) (spelled_one_line b flat)
spelled_one_line (Only dir a) flat = behind_one_line dir (spelled_line a flat) ∙ ap (option_map (line_behind dir)) (spelled_one_line a flat)
spelled_one_line _ flat = refl

-- what it is made of
abbrev pub AreBoth : Option Spelled → Option Spelled → Spelled → Type 0
AreBoth a b l =
    (x : Spelled) × (y : Spelled) × (a ≡ Some x) × (b ≡ Some y)
    × (spelled (x.len + y.len) (x.how ++ y.how) (x.text ++ y.text) (x.words + y.words) ≡ l)

pub both_some : (a b : Option Spelled) (l : Spelled) → spelled_both a b ≡ Some l → AreBoth a b l
both_some (Some x) (Some y) l e = (x, y, refl, refl, cc)
both_some _ _ l e = cc

abbrev pub IsEither : Option Spelled → Option Spelled → Spelled → Type 0
IsEither a b l =
    ((x : Spelled) × (a ≡ Some x) × (spelled_behind (Left ∷ []) x ≡ l))
    ⊎ ((y : Spelled) × (b ≡ Some y) × (spelled_behind (Right ∷ []) y ≡ l))

pub either_some : (a b : Option Spelled) (l : Spelled) → spelled_either a b ≡ Some l → IsEither a b l
either_some None None l e = cc
either_some None (Some y) l e = inr (y, refl, cc)
either_some (Some x) b l e = inl (x, refl, cc)

pub behind_some : (dir : Dir) (a : Option Spelled) (l : Spelled) → option_map (spelled_behind (dir ∷ [])) a ≡ Some l →
    (x : Spelled) × (a ≡ Some x) × (spelled_behind (dir ∷ []) x ≡ l)
behind_some dir None l e = cc
behind_some dir (Some x) l e = (x, refl, cc)

words_are_marks : (ps : List Piece) → EachIsWord ps → marks_of ps ≡ length ps
unfolding EachIsWord marks_of
words_are_marks [] f = refl
words_are_marks (Word c s len ∷ ps) f = let rest = words_are_marks ps f in omega (arith, rest)
words_are_marks _ f = absurd f

-- and one of its layouts
abbrev IsOf : Spelled → List Piece → Type 0
IsOf l pieces = EachIsWord pieces × (layout pieces ≡ l.text) × (length pieces ≡ l.words)

abbrev LaidLine : Doc → Bool → ℕ → ℕ → Spelled → Type 0
LaidLine d flat c i l = (pieces : List Piece) × LaidOutBy d l.how c i flat (laid pieces (c + l.len)) × IsOf l pieces

same_laid : (d : Doc) (flat : Bool) (c i : ℕ) (l k : Spelled) → l ≡ k → LaidLine d flat c i l → LaidLine d flat c i k
same_laid d flat c i l k e h = subst (λ (z : Spelled). LaidLine d flat c i z) e h

word_is : (c : ℕ) (s : List ℕ) (len : ℕ) → IsOf (spelled_text s len) (Word c s len ∷ [])
unfolding EachIsWord layout
word_is c s len = (tt, append-nil s, refl)

newline_laid_out : (flat : Bool) (l : Spelled) (c i : ℕ) → spelled_newline flat ≡ Some l → LaidLine Newline flat c i l
unfolding Picks render
newline_laid_out true l c i e =
    let same : spelled_text (32 ∷ []) 1 ≡ l = cc in
    same_laid Newline true c i (spelled_text (32 ∷ []) 1) l same
    (Word c (32 ∷ []) 1 ∷ [], (Newline, (refl, refl), refl), word_is c (32 ∷ []) 1)
newline_laid_out false l c i e = cc

pieces_are : (x y : Spelled) (ps qs : List Piece) → IsOf x ps → IsOf y qs →
    IsOf (spelled (x.len + y.len) (x.how ++ y.how) (x.text ++ y.text) (x.words + y.words)) (ps ++ qs)
pieces_are x y ps qs h k = (
  words_append ps qs h.0 k.0,
  layout-append ps qs ∙ ap₂ (λ (s t : List ℕ). s ++ t) h.1 k.1,
  length-append ps qs ∙ ap₂ (λ (n m : ℕ). n + m) h.2 k.2,
)

concat_laid_out : (a b : Doc) (flat : Bool) (c i : ℕ) (x y : Spelled) → LaidLine a flat c i x → LaidLine b flat (c + x.len) i y →
    LaidLine (Concat a b) flat c i (spelled (x.len + y.len) (x.how ++ y.how) (x.text ++ y.text) (x.words + y.words))
unfolding Picks render
concat_laid_out a b flat c i x y h k =
    let p = h.1.0 in
    let q = k.1.0 in
    let ends : (c + x.len) + y.len ≡ c + (x.len + y.len) = omega arith in (
      h.0 ++ k.0,
      (
        Concat p q,
        (x.how, y.how, p, q, refl, refl, h.1.1, k.1.1),
        ap (λ (o : Option Laid). followed_by o (λ last. render q last i flat)) h.1.2
            ∙ ap (λ (o : Option Laid). joined (laid h.0 (c + x.len)) o) k.1.2
            ∙ ap (λ (n : ℕ). Some (laid (h.0 ++ k.0) n)) ends,
      ),
      pieces_are x y h.0 k.0 h.2 k.2,
    )

line_laid_out : (d : Doc) (flat : Bool) (l : Spelled) (c i : ℕ) → spelled_line d flat ≡ Some l → LaidLine d flat c i l
unfolding spelled_line Picks render
line_laid_out (Text s len) flat l c i e =
    let same : spelled_text s len ≡ l = cc in
    same_laid (Text s len) flat c i (spelled_text s len) l same (Word c s len ∷ [], (Text s len, (refl, refl), refl), word_is c s len)
line_laid_out Newline flat l c i e = newline_laid_out flat l c i e
line_laid_out (Concat a b) flat l c i e =
    let parts = both_some (spelled_line a flat) (spelled_line b flat) l e in
    let x = parts.0 in
    let y = parts.1 in
    same_laid (Concat a b) flat c i (spelled (x.len + y.len) (x.how ++ y.how) (x.text ++ y.text) (x.words + y.words)) l parts.4
    (concat_laid_out a b flat c i x y (line_laid_out a flat x c i parts.2) (line_laid_out b flat y (c + x.len) i parts.3))
line_laid_out (Nest n a) flat l c i e =
    let under = line_laid_out a flat l c (i + n) e in (under.0, (Nest n under.1.0, (under.1.0, refl, under.1.1), under.1.2), under.2)
line_laid_out (Align a) flat l c i e =
    let under = line_laid_out a flat l c c e in (under.0, (Align under.1.0, (under.1.0, refl, under.1.1), under.1.2), under.2)
line_laid_out (Reset a) flat l c i e =
    let under = line_laid_out a flat l c 0 e in (under.0, (Reset under.1.0, (under.1.0, refl, under.1.1), under.1.2), under.2)
line_laid_out (Flatten a) flat l c i e =
    let under = line_laid_out a true l c i e in (under.0, (Flatten under.1.0, (under.1.0, refl, under.1.1), under.1.2), under.2)
line_laid_out (Choice a b) flat l c i e =
    elim (either_some (spelled_line a flat) (spelled_line b flat) l e) [
      | inl first ↦
          let x = first.0 in
          let under = line_laid_out a flat x c i first.1 in
          same_laid (Choice a b) flat c i (spelled_behind (Left ∷ []) x) l first.2
          (under.0, (under.1.0, (x.how, inl (refl, under.1.1)), under.1.2), under.2)
      | inr second ↦
          let y = second.0 in
          let under = line_laid_out b flat y c i second.1 in
          same_laid (Choice a b) flat c i (spelled_behind (Right ∷ []) y) l second.2
          (under.0, (under.1.0, (y.how, inr (refl, under.1.1)), under.1.2), under.2)
    ]
line_laid_out (Only dir a) flat l c i e =
    let part = behind_some dir (spelled_line a flat) l e in
    let x = part.0 in
    let under = line_laid_out a flat x c i part.1 in
    same_laid (Only dir a) flat c i (spelled_behind (dir ∷ []) x) l part.2
    (under.0, (under.1.0, (x.how, refl, under.1.1), under.1.2), under.2)
line_laid_out _ flat l c i e = cc

pub spelled_laid_out : (d : Doc) (flat : Bool) (l : Spelled) (c i : ℕ) → spelled_line d flat ≡ Some l →
    (pieces : List Piece) × LaidOutBy d l.how c i flat (laid pieces (c + l.len)) × EachIsWord pieces
    × (layout pieces ≡ l.text) × (length pieces ≡ l.words) × (marks_of pieces ≡ l.words)
spelled_laid_out d flat l c i e =
    let h = line_laid_out d flat l c i e in
    (h.0, h.1, h.2.0, h.2.1, h.2.2, words_are_marks h.0 h.2.0 ∙ h.2.2)
