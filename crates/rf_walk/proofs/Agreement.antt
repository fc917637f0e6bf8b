-- A walk over a core writes the layout of the resolution that its choices pick, unless both are too long.
use Rattle.std.proofs.Common.{◌≡◌, ℕ, ◌+◌, ◌<◌, ◌⊎◌, inl, inr, false, List, [], ◌∷◌, ◌++◌, length, length-append, Option, Some, ap, sym, ◌∙◌, refl, append_assoc, arith}
use Rattle.std.proofs.lemmas.Bool.{cases_lt}
use Rattle.std.proofs.lemmas.List.{length-replicate}
use Rattle.rf_base_document.specs.declared.directions.Dir.{Dir}
use Rattle.rf_base_document.specs.declared.directions.Dir.TheVariants.{Left, Right}
use Rattle.rf_base_document.specs.declared.limits.TheConstants.{LAYOUT_LIMIT}
use Rattle.rf_base_document.specs.Document.{Doc, Text, Newline, Hard, Concat, Nest, Align, Reset, Flatten, Choice, Only, Charge}
use Rattle.rf_base_document.specs.Render.{Piece, Word, Break, Fee, Laid, laid, joined, followed_by, render, layout}
use Rattle.rf_base_document.specs.Picks.{Picks, leaves_of}
use Rattle.rf_base_document.specs.Simple.{IsCore}
use Rattle.rf_walk.specs.Walked.{Walked, walked, and_walked, then_walked, deeper, walk}
use Rattle.rf_walk.proofs.Joins.{layout_one, layout_length}

-- the same indentation, or two to which a break is too long
abbrev pub SameDepth : ℕ → ℕ → Type 0
SameDepth i j = (i ≡ j) ⊎ ((LAYOUT_LIMIT < i) × (LAYOUT_LIMIT < j))

-- the same pieces up to the same column, or both too long
abbrev pub Alike : Walked → Laid → Type 0
Alike w whole =
    ((w.pieces ≡ whole.pieces) × (w.last ≡ whole.last)) ⊎ ((LAYOUT_LIMIT < length (layout w.pieces)) × (LAYOUT_LIMIT < length (layout whole.pieces)))

-- a walk with choices of which the first pick e, beside the layout of e
pub record Agrees (d : Doc) (x y : List Dir) (e : Doc) (c i j : ℕ) : Type 0 where
  pub w : Walked
  pub walks : walk d c j (x ++ y) ≡ Some w
  pub left : w.left ≡ y
  pub weight : w.weight ≡ leaves_of e + length x
  pub whole : Laid
  pub lays : render e c i false ≡ Some whole
  pub alike : Alike w whole

-- two parts that are alike, one after the other
both_alike : (v w : Walked) (first second : Laid) → Alike v first → Alike w second →
    Alike (walked (v.pieces ++ w.pieces) w.last (v.weight + w.weight) w.left) (laid (first.pieces ++ second.pieces) second.last)
both_alike v w first second h k =
    elim h [
      | inl same ↦ elim k [
        | inl same' ↦ inl (ap (λ ps. ps ++ w.pieces) same.0 ∙ ap (λ ps. first.pieces ++ ps) same'.0, same'.1)
        | inr long ↦ inr (omega (arith, layout_length v.pieces w.pieces, long.0), omega (arith, layout_length first.pieces second.pieces, long.1))
      ]
      | inr long ↦ inr (omega (arith, layout_length v.pieces w.pieces, long.0), omega (arith, layout_length first.pieces second.pieces, long.1))
    ]

long_first : (v w : Walked) (first second : Laid) → LAYOUT_LIMIT < length (layout v.pieces) → LAYOUT_LIMIT < length (layout first.pieces) →
    Alike (walked (v.pieces ++ w.pieces) w.last (v.weight + w.weight) w.left) (laid (first.pieces ++ second.pieces) second.last)
long_first v w first second h k = inr (omega (arith, layout_length v.pieces w.pieces), omega (arith, layout_length first.pieces second.pieces))

-- leaves
leaf_agrees : (d : Doc) (x y : List Dir) (e : Doc) (c i j : ℕ) (p q : Piece) (last last' : ℕ) → x ≡ [] → e ≡ d → leaves_of d ≡ 1 →
    walk d c j (x ++ y) ≡ Some (walked (p ∷ []) last 1 (x ++ y)) → render d c i false ≡ Some (laid (q ∷ []) last') →
    Alike (walked (p ∷ []) last 1 (x ++ y)) (laid (q ∷ []) last') → Agrees d x y e c i j
leaf_agrees d x y e c i j p q last last' none is one walks lays alike = record {
  w = walked (p ∷ []) last 1 (x ++ y);
  walks = walks;
  left = ap (λ l. l ++ y) none;
  weight = omega (arith, ap leaves_of is, ap (λ (l : List Dir). length l) none, one);
  whole = laid (q ∷ []) last';
  lays = ap (λ x. render x c i false) is ∙ lays;
  alike = alike;
}

break_long : (i : ℕ) → LAYOUT_LIMIT < i → LAYOUT_LIMIT < length (layout (Break i ∷ []))
break_long i h = omega (arith, ap (λ (l : List ℕ). length l) (layout_one (Break i)), length-replicate {A = ℕ} i 32)

break_alike : (i j n : ℕ) (cs : List Dir) → SameDepth i j → Alike (walked (Break j ∷ []) j n cs) (laid (Break i ∷ []) i)
break_alike i j n cs h = elim h [
  | inl same ↦ inl (ap (λ k. Break k ∷ []) (sym same), sym same)
  | inr deep ↦ inr (break_long j deep.1, break_long i deep.0)
]

-- a nesting keeps depths the same
deeper_same : (i j n : ℕ) → SameDepth i j → SameDepth (i + n) (deeper j n)
deeper_same i j n h = elim h [
  | inl same ↦ elim (cases_lt LAYOUT_LIMIT (i + n)) [
    | inl deep ↦ inr (deep, omega arith)
    | inr low ↦ inl (omega arith)
  ]
  | inr deep ↦ inr (omega (arith, deep.0), omega (arith, deep.1))
]

-- a walk after another
then_some : (o : Option Walked) (first second : Walked) (rest : ℕ → List Dir → Option Walked) (cs : List Dir) → o ≡ Some first → first.left ≡ cs →
    rest first.last cs ≡ Some second →
    then_walked o rest ≡ Some (walked (first.pieces ++ second.pieces) second.last (first.weight + second.weight) second.left)
then_some o first second rest cs e f g =
    ap (λ p. then_walked p rest) e ∙ ap (λ l. and_walked first (rest first.last l)) f ∙ ap (λ p. and_walked first p) g

follows : (o : Option Laid) (first second : Laid) (rest : ℕ → Option Laid) → o ≡ Some first → rest first.last ≡ Some second →
    followed_by o rest ≡ Some (laid (first.pieces ++ second.pieces) second.last)
follows o first second rest e f = ap (λ p. followed_by p rest) e ∙ ap (λ p. joined first p) f

-- the walk of two parts, from those of each
concat_walks : (a b p q : Doc) (x x1 x2 y : List Dir) (c i j : ℕ) (e : Doc) (first : Agrees a x1 (x2 ++ y) p c i j) (w : Walked) (second : Laid) →
    x ≡ x1 ++ x2 → e ≡ Concat p q → walk b first.w.last j (x2 ++ y) ≡ Some w → w.left ≡ y → w.weight ≡ leaves_of q + length x2 →
    render q first.whole.last i false ≡ Some second →
    Alike (walked (first.w.pieces ++ w.pieces) w.last (first.w.weight + w.weight) w.left) (laid (first.whole.pieces ++ second.pieces) second.last) →
    Agrees (Concat a b) x y e c i j
unfolding walk render leaves_of
concat_walks a b p q x x1 x2 y c i j e first w second is whole walks left weight lays alike = record {
  w = walked (first.w.pieces ++ w.pieces) w.last (first.w.weight + w.weight) w.left;
  walks =
      ap (λ l. walk (Concat a b) c j l) (ap (λ l. l ++ y) is ∙ append_assoc x1 x2 y)
      ∙ then_some (walk a c j (x1 ++ (x2 ++ y))) first.w w (λ last l. walk b last j l) (x2 ++ y) first.walks first.left walks;
  left = left;
  weight = omega (arith, first.weight, weight, ap leaves_of whole, ap (λ (l : List Dir). length l) is, length-append x1 x2);
  whole = laid (first.whole.pieces ++ second.pieces) second.last;
  lays = ap (λ d. render d c i false) whole ∙ follows (render p c i false) first.whole second (λ last. render q last i false) first.lays lays;
  alike = alike;
}

-- a choice before a part
choice_agrees : (d a e : Doc) (x rest y : List Dir) (c i j : ℕ) (dir : Dir) (part : Agrees a rest y e c i j) → x ≡ dir ∷ rest →
    walk d c j (dir ∷ (rest ++ y)) ≡ and_walked (walked [] c 1 (rest ++ y)) (walk a c j (rest ++ y)) → Agrees d x y e c i j
choice_agrees d a e x rest y c i j dir part is walks = record {
  w = walked part.w.pieces part.w.last (1 + part.w.weight) part.w.left;
  walks = ap (λ l. walk d c j (l ++ y)) is ∙ walks ∙ ap (λ o. and_walked (walked [] c 1 (rest ++ y)) o) part.walks;
  left = part.left;
  weight = omega (arith, part.weight, ap (λ (l : List Dir). length l) is);
  whole = part.whole;
  lays = part.lays;
  alike = part.alike;
}

-- a part that is walked in its place
under_agrees : (d a e p : Doc) (x y : List Dir) (c i j i' j' : ℕ) (part : Agrees a x y p c i' j') → walk d c j (x ++ y) ≡ walk a c j' (x ++ y) →
    render e c i false ≡ render p c i' false → leaves_of e ≡ leaves_of p → Agrees d x y e c i j
under_agrees d a e p x y c i j i' j' part walks lays leaves = record {
  w = part.w;
  walks = walks ∙ part.walks;
  left = part.left;
  weight = omega (arith, part.weight, leaves);
  whole = part.whole;
  lays = lays ∙ part.lays;
  alike = part.alike;
}

side_walks : (dir : Dir) (a : Doc) (c j : ℕ) (cs : List Dir) → walk (Only dir a) c j (dir ∷ cs) ≡ and_walked (walked [] c 1 cs) (walk a c j cs)
unfolding walk
side_walks Left a c j cs = refl
side_walks Right a c j cs = refl

pub agree : (d : Doc) (x y : List Dir) (e : Doc) (c i j : ℕ) → IsCore d → Picks d x e → SameDepth i j → Agrees d x y e c i j
unfolding walk render leaves_of Picks IsCore
agree (Text s len) x y e c i j core h depth =
    leaf_agrees (Text s len) x y e c i j (Word c s len) (Word c s len) (c + len) (c + len) h.0 h.1 refl refl refl (inl (refl, refl))
agree Newline x y e c i j core h depth =
    leaf_agrees Newline x y e c i j (Break j) (Break i) j i h.0 h.1 refl refl refl (break_alike i j 1 (x ++ y) depth)
agree (Concat a b) x y e c i j core h depth =
    let first = agree a h.0 (h.1 ++ y) h.2 c i j core.0 h.6 depth in
    let second = agree b h.1 y h.3 first.w.last i j core.1 h.7 depth in
    elim first.alike [
      | inl same ↦
          concat_walks a b h.2 h.3 x h.0 h.1 y c i j e first second.w second.whole h.4 h.5 second.walks second.left second.weight
          (ap (λ n. render h.3 n i false) (sym same.1) ∙ second.lays) (both_alike first.w second.w first.whole second.whole first.alike second.alike)
      | inr long ↦
          let elsewhere = agree b h.1 y h.3 first.whole.last i j core.1 h.7 depth in
          concat_walks a b h.2 h.3 x h.0 h.1 y c i j e first second.w elsewhere.whole h.4 h.5 second.walks second.left second.weight
          elsewhere.lays (long_first first.w second.w first.whole elsewhere.whole long.0 long.1)
    ]
agree (Nest n a) x y e c i j core h depth =
    under_agrees (Nest n a) a e h.0 x y c i j (i + n) (deeper j n) (agree a x y h.0 c (i + n) (deeper j n) core h.2 (deeper_same i j n depth))
    refl (ap (λ d. render d c i false) h.1) (ap leaves_of h.1)
agree (Align a) x y e c i j core h depth =
    under_agrees (Align a) a e h.0 x y c i j c c (agree a x y h.0 c c c core h.2 (inl refl)) refl (ap (λ d. render d c i false) h.1) (ap leaves_of h.1)
agree (Reset a) x y e c i j core h depth =
    under_agrees (Reset a) a e h.0 x y c i j 0 0 (agree a x y h.0 c 0 0 core h.2 (inl refl)) refl (ap (λ d. render d c i false) h.1) (ap leaves_of h.1)
agree (Choice a b) x y e c i j core h depth =
    elim h.1 [
      | inl k ↦ choice_agrees (Choice a b) a e x h.0 y c i j Left (agree a h.0 y e c i j core.0 k.1 depth) k.0 refl
      | inr k ↦ choice_agrees (Choice a b) b e x h.0 y c i j Right (agree b h.0 y e c i j core.1 k.1 depth) k.0 refl
    ]
agree (Only dir a) x y e c i j core h depth =
    choice_agrees (Only dir a) a e x h.0 y c i j dir (agree a h.0 y e c i j core h.2 depth) h.1 (side_walks dir a c j (h.0 ++ y))
agree (Charge k a) x y e c i j core h depth =
    let part = agree a x y h.0 c i j core h.2 depth in
    record {
      w = walked (Fee k ∷ part.w.pieces) part.w.last (0 + part.w.weight) part.w.left;
      walks = ap (λ o. and_walked (walked (Fee k ∷ []) c 0 (x ++ y)) o) part.walks;
      left = part.left;
      weight = omega (arith, part.weight, ap leaves_of h.1);
      whole = laid (Fee k ∷ part.whole.pieces) part.whole.last;
      lays = ap (λ d. render d c i false) h.1 ∙ ap (λ o. joined (laid (Fee k ∷ []) c) o) part.lays;
      alike = both_alike (walked (Fee k ∷ []) c 0 (x ++ y)) part.w (laid (Fee k ∷ []) c) part.whole (inl (refl, refl)) part.alike;
    }
agree _ x y e c i j core h depth = absurd core
