-- Layouts keep their documents' signatures, and a sequence has those of its parts.
use Rattle.std.proofs.Common.{◌≡◌, inl, inr, ℕ, zero, suc, ◌+◌, ◌≤◌, Bool, true, false, Some, List, [], ◌∷◌, ◌++◌, length, take, drop, refl, sym, ap, ◌∙◌, subst, append_assoc, append-nil, arith}
use Rattle.std.proofs.lemmas.List.{length-take, length-drop}
use Rattle.rf_base_document.specs.declared.directions.Dir.{Dir}
use Rattle.rf_base_document.specs.Document.{Doc, Text, Newline, Hard, Concat, Nest, Align, Reset, Flatten, Choice, Only, Charge}
use Rattle.rf_base_document.specs.Sequence.{half_up, seq_within, seq}
use Rattle.rf_base_document.specs.Render.{Piece, Word, Break, Fee, Laid, laid, newline_laid, hard_laid, render, layout}
use Rattle.rf_base_document.specs.Picks.{Picks, LaidOutBy}
use Rattle.rf_base_document.proofs.Render.{joined-is, followed_by-is, layout-append}
use Rattle.rf_base_document.proofs.Simple.{render_same}
use Rattle.rf_base_file.specs.Signature.{Strand, Drawn, HardSigned, newline_text, line_break, Signed}
use Rattle.rf_base_file.proofs.DrawnTexts.{Drawn-append}

-- a layout that begins with a text, for each kind of leaf
same_layout : (strands : List Strand) (x y : Laid) → Some x ≡ Some y → Drawn strands (layout x.pieces) →
    Drawn strands (layout y.pieces)
same_layout strands x y e h = let same : x ≡ y = cc in subst (λ (z : Laid). Drawn strands (layout z.pieces)) same h

newline_drawn : (strands : List Strand) (c i : ℕ) (flat : Bool) → Drawn strands (newline_text i flat) →
    Drawn strands (layout (newline_laid c i flat).pieces)
unfolding layout
newline_drawn strands c i true h = h
newline_drawn strands c i false h = subst (Drawn strands) (sym (append-nil (line_break i))) h

hard_drawn : (strands : List Strand) (i : ℕ) (flat : Bool) (whole : Laid) → HardSigned i flat strands →
    hard_laid i flat ≡ Some whole → Drawn strands (layout whole.pieces)
unfolding layout
hard_drawn strands i true whole h e = cc
hard_drawn strands i false whole h e =
    same_layout strands (laid (Break i ∷ []) i) whole e (subst (Drawn strands) (sym (append-nil (line_break i))) h)

-- two layouts in a row
rows_drawn : (front rest : List Strand) (first second : Laid) (pieces : List Piece) →
    pieces ≡ first.pieces ++ second.pieces →
    Drawn front (layout first.pieces) → Drawn rest (layout second.pieces) → Drawn (front ++ rest) (layout pieces)
rows_drawn front rest first second pieces e h k =
    subst (Drawn (front ++ rest)) (sym (ap layout e ∙ layout-append first.pieces second.pieces))
    (Drawn-append front rest (layout first.pieces) (layout second.pieces) h k)

-- the layout of each resolution is drawn of the document's strands
pub layout_drawn : (d : Doc) (strands : List Strand) (choices : List Dir) (e : Doc) (c i : ℕ) (flat : Bool)
    (whole : Laid) →
    Signed d i flat strands → Picks d choices e → render e c i flat ≡ Some whole → Drawn strands (layout whole.pieces)
unfolding Signed Picks render layout Drawn
layout_drawn (Text s len) strands choices e c i flat whole h p r =
    same_layout strands (laid (Word c s len ∷ []) (c + len)) whole (render_same e (Text s len) c i flat whole p.1 r)
    (subst (Drawn strands) (sym (append-nil s)) h)
layout_drawn Newline strands choices e c i flat whole h p r =
    same_layout strands (newline_laid c i flat) whole (render_same e Newline c i flat whole p.1 r)
    (newline_drawn strands c i flat h)
layout_drawn Hard strands choices e c i flat whole h p r =
    hard_drawn strands i flat whole h (render_same e Hard c i flat whole p.1 r)
layout_drawn (Concat a b) strands choices e c i flat whole h p r =
    let first : Doc = p.2 in
    let second : Doc = p.3 in
    let laid_both : render (Concat first second) c i flat ≡ Some whole =
    render_same e (Concat first second) c i flat whole p.5 r in
    let found = followed_by-is (render first c i flat) (λ last. render second last i flat) whole laid_both in
    subst (λ (xs : List Strand). Drawn xs (layout whole.pieces)) (sym h.2)
    (rows_drawn h.0 h.1 found.0 found.1 whole.pieces found.4
    (layout_drawn a h.0 p.0 first c i flat found.0 h.3 p.6 found.2)
    (layout_drawn b h.1 p.1 second found.0.last i flat found.1 h.4 p.7 found.3))
layout_drawn (Nest n a) strands choices e c i flat whole h p r =
    layout_drawn a strands choices p.0 c (i + n) flat whole h p.2 (render_same e (Nest n p.0) c i flat whole p.1 r)
layout_drawn (Align a) strands choices e c i flat whole h p r =
    layout_drawn a strands choices p.0 c c flat whole (h c) p.2 (render_same e (Align p.0) c i flat whole p.1 r)
layout_drawn (Reset a) strands choices e c i flat whole h p r =
    layout_drawn a strands choices p.0 c 0 flat whole h p.2 (render_same e (Reset p.0) c i flat whole p.1 r)
layout_drawn (Flatten a) strands choices e c i flat whole h p r =
    layout_drawn a strands choices p.0 c i true whole h p.2 (render_same e (Flatten p.0) c i flat whole p.1 r)
layout_drawn (Choice a b) strands choices e c i flat whole h p r =
    elim (p.1) [
      | inl l ↦ layout_drawn a strands p.0 e c i flat whole h.0 l.1 r
      | inr k ↦ layout_drawn b strands p.0 e c i flat whole h.1 k.1 r
    ]
layout_drawn (Only dir a) strands choices e c i flat whole h p r = layout_drawn a strands p.0 e c i flat whole h p.2 r
layout_drawn (Charge k a) strands choices e c i flat whole h p r =
    let paid : render (Charge k p.0) c i flat ≡ Some whole = render_same e (Charge k p.0) c i flat whole p.1 r in
    let found = joined-is (laid (Fee k ∷ []) c) (render p.0 c i flat) whole paid in
    rows_drawn [] strands (laid (Fee k ∷ []) c) found.0 whole.pieces found.2 refl
    (layout_drawn a strands choices p.0 c i flat found.0 h p.2 found.1)

-- a layout is drawn of its document's strands, whichever choices pick it
pub layouts_drawn : (d : Doc) (strands : List Strand) (choices : List Dir) (c i : ℕ) (flat : Bool) (whole : Laid) →
    Signed d i flat strands → LaidOutBy d choices c i flat whole → Drawn strands (layout whole.pieces)
layouts_drawn d strands choices c i flat whole h l = layout_drawn d strands choices l.0 c i flat whole h l.1 l.2

-- a document has its strands also with more in front of them, of which nothing may be drawn
hard_before : (more strands : List Strand) (i : ℕ) (flat : Bool) → Drawn more [] → HardSigned i flat strands →
    HardSigned i flat (more ++ strands)
hard_before more strands i true h k = tt
hard_before more strands i false h k = Drawn-append more strands [] (line_break i) h k

Signed-before : (more strands : List Strand) (d : Doc) (i : ℕ) (flat : Bool) → Drawn more [] → Signed d i flat strands →
    Signed d i flat (more ++ strands)
unfolding Signed
Signed-before more strands (Text s len) i flat h k = Drawn-append more strands [] s h k
Signed-before more strands Newline i flat h k = Drawn-append more strands [] (newline_text i flat) h k
Signed-before more strands Hard i flat h k = hard_before more strands i flat h k
Signed-before more strands (Concat a b) i flat h k = (
  more ++ k.0,
  k.1,
  ap (λ xs. more ++ xs) k.2 ∙ sym (append_assoc more k.0 k.1),
  Signed-before more k.0 a i flat h k.3,
  k.4,
)
Signed-before more strands (Nest n a) i flat h k = Signed-before more strands a (i + n) flat h k
Signed-before more strands (Align a) i flat h k = λ column. Signed-before more strands a column flat h (k column)
Signed-before more strands (Reset a) i flat h k = Signed-before more strands a 0 flat h k
Signed-before more strands (Flatten a) i flat h k = Signed-before more strands a i true h k
Signed-before more strands (Choice a b) i flat h k =
    (Signed-before more strands a i flat h k.0, Signed-before more strands b i flat h k.1)
Signed-before more strands (Only dir a) i flat h k = Signed-before more strands a i flat h k
Signed-before more strands (Charge n a) i flat h k = Signed-before more strands a i flat h k

-- and with more behind them
drawn_behind : (strands more : List Strand) (x : List ℕ) → Drawn strands x → Drawn more [] → Drawn (strands ++ more) x
drawn_behind strands more x h k = subst (Drawn (strands ++ more)) (append-nil x) (Drawn-append strands more x [] h k)

hard_behind : (strands more : List Strand) (i : ℕ) (flat : Bool) → HardSigned i flat strands → Drawn more [] →
    HardSigned i flat (strands ++ more)
hard_behind strands more i true h k = tt
hard_behind strands more i false h k = drawn_behind strands more (line_break i) h k

Signed-behind : (strands more : List Strand) (d : Doc) (i : ℕ) (flat : Bool) → Signed d i flat strands → Drawn more [] →
    Signed d i flat (strands ++ more)
unfolding Signed
Signed-behind strands more (Text s len) i flat h k = drawn_behind strands more s h k
Signed-behind strands more Newline i flat h k = drawn_behind strands more (newline_text i flat) h k
Signed-behind strands more Hard i flat h k = hard_behind strands more i flat h k
Signed-behind strands more (Concat a b) i flat h k = (
  h.0,
  h.1 ++ more,
  ap (λ xs. xs ++ more) h.2 ∙ append_assoc h.0 h.1 more,
  h.3,
  Signed-behind h.1 more b i flat h.4 k,
)
Signed-behind strands more (Nest n a) i flat h k = Signed-behind strands more a (i + n) flat h k
Signed-behind strands more (Align a) i flat h k = λ column. Signed-behind strands more a column flat (h column) k
Signed-behind strands more (Reset a) i flat h k = Signed-behind strands more a 0 flat h k
Signed-behind strands more (Flatten a) i flat h k = Signed-behind strands more a i true h k
Signed-behind strands more (Choice a b) i flat h k =
    (Signed-behind strands more a i flat h.0 k, Signed-behind strands more b i flat h.1 k)
Signed-behind strands more (Only dir a) i flat h k = Signed-behind strands more a i flat h k
Signed-behind strands more (Charge n a) i flat h k = Signed-behind strands more a i flat h k

-- the documents, one after another, have these strands; what is left behind the last is drawn of nothing
unfoldable pub SignedParts : List Doc → ℕ → Bool → List Strand → Type 0
SignedParts [] i flat strands = Drawn strands []
SignedParts (d ∷ parts) i flat strands =
    (front : List Strand) × (rest : List Strand) × (strands ≡ front ++ rest) × Signed d i flat front
    × SignedParts parts i flat rest

-- no document
pub SignedParts-nil : (i : ℕ) (flat : Bool) (strands : List Strand) → Drawn strands [] → SignedParts [] i flat strands
unfolding SignedParts
SignedParts-nil i flat strands h = h

-- one document more in front
pub SignedParts-cons : (d : Doc) (parts : List Doc) (i : ℕ) (flat : Bool) (front rest : List Strand) →
    Signed d i flat front → SignedParts parts i flat rest → SignedParts (d ∷ parts) i flat (front ++ rest)
unfolding SignedParts
SignedParts-cons d parts i flat front rest h k = (front, rest, refl, h, k)

-- one document
pub SignedParts-one : (d : Doc) (i : ℕ) (flat : Bool) (strands : List Strand) → Signed d i flat strands →
    SignedParts (d ∷ []) i flat strands
unfolding SignedParts Drawn
SignedParts-one d i flat strands h = (strands, [], sym (append-nil strands), h, refl)

-- documents behind others
SignedParts-before : (parts : List Doc) (i : ℕ) (flat : Bool) (more strands : List Strand) → Drawn more [] →
    SignedParts parts i flat strands → SignedParts parts i flat (more ++ strands)
unfolding SignedParts
SignedParts-before [] i flat more strands h k = Drawn-append more strands [] [] h k
SignedParts-before (d ∷ parts) i flat more strands h k = (
  more ++ k.0,
  k.1,
  ap (λ xs. more ++ xs) k.2 ∙ sym (append_assoc more k.0 k.1),
  Signed-before more k.0 d i flat h k.3,
  k.4,
)

pub SignedParts-append : (parts others : List Doc) (i : ℕ) (flat : Bool) (front rest : List Strand) →
    SignedParts parts i flat front → SignedParts others i flat rest →
    SignedParts (parts ++ others) i flat (front ++ rest)
unfolding SignedParts
SignedParts-append [] others i flat front rest h k = SignedParts-before others i flat front rest h k
SignedParts-append (d ∷ parts) others i flat front rest h k = (
  h.0,
  h.1 ++ rest,
  ap (λ xs. xs ++ rest) h.2 ∙ append_assoc h.0 h.1 rest,
  h.3,
  SignedParts-append parts others i flat h.1 rest h.4 k,
)

-- documents cut in two
record Halves (n : ℕ) (parts : List Doc) (i : ℕ) (flat : Bool) (strands : List Strand) : Type 0 where
  front : List Strand
  rest : List Strand
  whole : strands ≡ front ++ rest
  first : SignedParts (take n parts) i flat front
  second : SignedParts (drop n parts) i flat rest

SignedParts-cut : (n : ℕ) (parts : List Doc) (i : ℕ) (flat : Bool) (strands : List Strand) →
    SignedParts parts i flat strands → Halves n parts i flat strands
unfolding SignedParts Drawn
SignedParts-cut zero parts i flat strands h = record {
  front = [];
  rest = strands;
  whole = refl;
  first = refl;
  second = h;
}
SignedParts-cut (suc n) [] i flat strands h = record {
  front = [];
  rest = strands;
  whole = refl;
  first = refl;
  second = h;
}
SignedParts-cut (suc n) (d ∷ parts) i flat strands h =
    let cut = SignedParts-cut n parts i flat h.1 h.4 in
    record {
      front = h.0 ++ cut.front;
      rest = cut.rest;
      whole = h.2 ∙ ap (λ xs. h.0 ++ xs) cut.whole ∙ sym (append_assoc h.0 cut.front cut.rest);
      first = (h.0, cut.front, refl, h.3, cut.first);
      second = cut.second;
    }

seq_within-signed : (depth : ℕ) (parts : List Doc) (i : ℕ) (flat : Bool) (strands : List Strand) →
    length parts ≤ depth →
    SignedParts parts i flat strands → Signed (seq_within depth parts) i flat strands
unfolding SignedParts Signed Drawn seq_within
seq_within-signed zero [] i flat strands p h = h
seq_within-signed zero (a ∷ parts) i flat strands p h = absurd (omega arith)
seq_within-signed (suc depth) [] i flat strands p h = h
seq_within-signed (suc depth) (a ∷ []) i flat strands p h =
    subst (λ (xs : List Strand). Signed a i flat xs) (sym h.2) (Signed-behind h.0 h.1 a i flat h.3 h.4)
seq_within-signed (suc depth) (a ∷ b ∷ parts) i flat strands p h =
    let all : List Doc = a ∷ b ∷ parts in
    let half : ℕ = half_up (length all) in
    let cut = SignedParts-cut half all i flat strands h in (
      cut.front,
      cut.rest,
      cut.whole,
      seq_within-signed depth (take half all) i flat cut.front (omega (arith, length-take half all)) cut.first,
      seq_within-signed depth (drop half all) i flat cut.rest (omega (arith, length-drop half all)) cut.second,
    )

-- a sequence has the strands of its parts in order
pub seq-signed : (parts : List Doc) (i : ℕ) (flat : Bool) (strands : List Strand) → SignedParts parts i flat strands →
    Signed (seq parts) i flat strands
unfolding seq
seq-signed parts i flat strands h = seq_within-signed (length parts) parts i flat strands (omega arith) h
