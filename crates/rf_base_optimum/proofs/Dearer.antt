-- With greater charges no resolution costs less.
use Rattle.std.proofs.Common.{◌≡◌, ℕ, ◌+◌, ◌≤◌, Bool, true, false, List, [], ◌∷◌, ◌++◌, refl, sym, ◌∙◌, ap, subst, inl, inr, Option, Some, None, arith}
use Rattle.rf_base_document.specs.declared.directions.Dir.{Dir}
use Rattle.rf_base_document.specs.Document.{Doc, Text, Newline, Hard, Concat, Nest, Align, Reset, Flatten, Choice, Only, Charge, IsDocument}
use Rattle.rf_base_document.specs.Render.{Piece, Word, Break, Fee, Laid, laid, joined, followed_by, newline_laid, hard_laid, render}
use Rattle.rf_base_document.specs.Picks.{Picks, LaidOutBy}
use Rattle.rf_base_document.proofs.Picked.{picks_one}
use Rattle.rf_base_document.proofs.Render.{joined-is, followed_by-is}
use Rattle.rf_base_document.proofs.Running.{picks_document}
use Rattle.rf_base_document.proofs.Simple.{render_same}
use Rattle.rf_base_cost.specs.Cost.{Costs, IsColumn, Lawful}
use Rattle.rf_base_optimum.specs.Best.{WithinBy, CostsAtMost, IsLeast}
use Rattle.rf_base_optimum.specs.Dearer.{IsDearer}
use Rattle.rf_base_optimum.proofs.Shift.{AllBelow, below-append, below-ends, below-cost, render_counted}
use Rattle.rf_base_optimum.proofs.Pruning.{render_costs, layout_value}

-- what the same choices pick of the document without the greater charges
dearer_picks : (d : Doc) (dear : Doc) (cs : List Dir) (e : Doc) → IsDearer d dear → Picks dear cs e →
    (p : Doc) × Picks d cs p × IsDearer p e
unfolding IsDearer Picks
dearer_picks (Text s len) dear cs e is h =
    let k = subst (λ (x : Doc). Picks x cs e) is h in (Text s len, (k.0, refl), k.1)
dearer_picks Newline dear cs e is h =
    let k = subst (λ (x : Doc). Picks x cs e) is h in (Newline, (k.0, refl), k.1)
dearer_picks Hard dear cs e is h =
    let k = subst (λ (x : Doc). Picks x cs e) is h in (Hard, (k.0, refl), k.1)
dearer_picks (Concat a b) dear cs e is h =
    let k = subst (λ (x : Doc). Picks x cs e) is.2 h in
    let left = dearer_picks a is.0 k.0 k.2 is.3 k.6 in
    let right = dearer_picks b is.1 k.1 k.3 is.4 k.7 in
    (Concat left.0 right.0, (k.0, k.1, left.0, right.0, k.4, refl, left.1, right.1), (k.2, k.3, k.5, left.2, right.2))
dearer_picks (Nest n a) dear cs e is h =
    let k = subst (λ (x : Doc). Picks x cs e) is.1 h in
    let part = dearer_picks a is.0 cs k.0 is.2 k.2 in
    (Nest n part.0, (part.0, refl, part.1), (k.0, k.1, part.2))
dearer_picks (Align a) dear cs e is h =
    let k = subst (λ (x : Doc). Picks x cs e) is.1 h in
    let part = dearer_picks a is.0 cs k.0 is.2 k.2 in
    (Align part.0, (part.0, refl, part.1), (k.0, k.1, part.2))
dearer_picks (Reset a) dear cs e is h =
    let k = subst (λ (x : Doc). Picks x cs e) is.1 h in
    let part = dearer_picks a is.0 cs k.0 is.2 k.2 in
    (Reset part.0, (part.0, refl, part.1), (k.0, k.1, part.2))
dearer_picks (Flatten a) dear cs e is h =
    let k = subst (λ (x : Doc). Picks x cs e) is.1 h in
    let part = dearer_picks a is.0 cs k.0 is.2 k.2 in
    (Flatten part.0, (part.0, refl, part.1), (k.0, k.1, part.2))
dearer_picks (Choice a b) dear cs e is h =
    let k = subst (λ (x : Doc). Picks x cs e) is.2 h in
    elim k.1 [
      | inl side ↦ let part = dearer_picks a is.0 k.0 e is.3 side.1 in (part.0, (k.0, inl (side.0, part.1)), part.2)
      | inr side ↦ let part = dearer_picks b is.1 k.0 e is.4 side.1 in (part.0, (k.0, inr (side.0, part.1)), part.2)
    ]
dearer_picks (Only dir a) dear cs e is h =
    let k = subst (λ (x : Doc). Picks x cs e) is.1 h in
    let part = dearer_picks a is.0 k.0 e is.2 k.2 in
    (part.0, (k.0, k.1, part.1), part.2)
dearer_picks (Charge k a) dear cs e is h =
    let l = subst (λ (x : Doc). Picks x cs e) is.2 h in
    let part = dearer_picks a is.1 cs l.0 is.4 l.2 in
    (Charge k part.0, (part.0, refl, part.1), (is.0, l.0, l.1, is.3, part.2))

-- a layout with the same words and breaks, whose charges are no greater, and which ends at the same column
abbrev Cheaper : Option Laid → Laid → Type 0
Cheaper o whole = (other : Laid) × (o ≡ Some other) × AllBelow other.pieces whole.pieces × (other.last ≡ whole.last)

newline_cheaper : (c i : ℕ) (flat : Bool) → Cheaper (Some (newline_laid c i flat)) (newline_laid c i flat)
unfolding AllBelow
newline_cheaper c i true = (newline_laid c i true, refl, ((c, refl, omega arith), tt), refl)
newline_cheaper c i false = (newline_laid c i false, refl, ((i, refl, omega arith), tt), refl)

hard_cheaper : (i : ℕ) (flat : Bool) (whole : Laid) → hard_laid i flat ≡ Some whole → Cheaper (hard_laid i flat) whole
unfolding AllBelow
hard_cheaper i true whole e = cc
hard_cheaper i false whole e =
    let same : laid (Break i ∷ []) i ≡ whole = cc in
    subst (λ (x : Laid). Cheaper (Some (laid (Break i ∷ []) i)) x) same (
      laid (Break i ∷ []) i,
      refl,
      ((i, refl, omega arith), tt),
      refl,
    )

dearer_render : (d : Doc) (dear : Doc) (c i : ℕ) (flat : Bool) (whole : Laid) → IsDearer d dear →
    render dear c i flat ≡ Some whole → Cheaper (render d c i flat) whole
unfolding IsDearer render AllBelow
dearer_render (Text s len) dear c i flat whole is r =
    let e : Some (laid (Word c s len ∷ []) (c + len)) ≡ Some whole =
    render_same dear (Text s len) c i flat whole is r in
    let same : laid (Word c s len ∷ []) (c + len) ≡ whole = cc in
    subst (λ (x : Laid). Cheaper (Some (laid (Word c s len ∷ []) (c + len))) x) same
    (laid (Word c s len ∷ []) (c + len), refl, ((c, refl, omega arith), tt), refl)
dearer_render Newline dear c i flat whole is r =
    let e : Some (newline_laid c i flat) ≡ Some whole = render_same dear Newline c i flat whole is r in
    let same : newline_laid c i flat ≡ whole = cc in
    subst (λ (x : Laid). Cheaper (Some (newline_laid c i flat)) x) same (newline_cheaper c i flat)
dearer_render Hard dear c i flat whole is r = hard_cheaper i flat whole (render_same dear Hard c i flat whole is r)
dearer_render (Concat a b) dear c i flat whole is r =
    let found =
    followed_by-is (render is.0 c i flat) (λ last. render is.1 last i flat) whole
    (render_same dear (Concat is.0 is.1) c i flat whole is.2 r) in
    let left = dearer_render a is.0 c i flat found.0 is.3 found.2 in
    let right =
    dearer_render b is.1 left.0.last i flat found.1 is.4 (ap (λ (n : ℕ). render is.1 n i flat) left.3 ∙ found.3) in (
      laid (left.0.pieces ++ right.0.pieces) right.0.last,
      ap (λ (o : Option Laid). followed_by o (λ last. render b last i flat)) left.1
          ∙ ap (λ (o : Option Laid). joined left.0 o) right.1,
      subst (λ (ps : List Piece). AllBelow (left.0.pieces ++ right.0.pieces) ps) (sym found.4)
          (below-append left.0.pieces found.0.pieces right.0.pieces found.1.pieces left.2 right.2),
      right.3 ∙ sym found.5,
    )
dearer_render (Nest n a) dear c i flat whole is r =
    dearer_render a is.0 c (i + n) flat whole is.2 (render_same dear (Nest n is.0) c i flat whole is.1 r)
dearer_render (Align a) dear c i flat whole is r =
    dearer_render a is.0 c c flat whole is.2 (render_same dear (Align is.0) c i flat whole is.1 r)
dearer_render (Reset a) dear c i flat whole is r =
    dearer_render a is.0 c 0 flat whole is.2 (render_same dear (Reset is.0) c i flat whole is.1 r)
dearer_render (Flatten a) dear c i flat whole is r =
    dearer_render a is.0 c i true whole is.2 (render_same dear (Flatten is.0) c i flat whole is.1 r)
dearer_render (Choice a b) dear c i flat whole is r =
    let e : None ≡ Some whole = render_same dear (Choice is.0 is.1) c i flat whole is.2 r in cc
dearer_render (Only dir a) dear c i flat whole is r =
    let e : None ≡ Some whole = render_same dear (Only dir is.0) c i flat whole is.1 r in cc
dearer_render (Charge k a) dear c i flat whole is r =
    let found =
    joined-is (laid (Fee is.0 ∷ []) c) (render is.1 c i flat) whole
    (render_same dear (Charge is.0 is.1) c i flat whole is.2 r) in
    let part = dearer_render a is.1 c i flat found.0 is.4 found.1 in (
      laid (Fee k ∷ part.0.pieces) part.0.last,
      ap (λ (o : Option Laid). joined (laid (Fee k ∷ []) c) o) part.1,
      subst (λ (ps : List Piece). AllBelow (Fee k ∷ part.0.pieces) ps) (sym found.2) ((is.0, refl, is.3), part.2),
      part.3 ∙ sym found.3,
    )

-- what is within with greater charges is within without them, ends at the same column and costs no more
pub dearer_keeps : {C : Type 0} (costs : Costs C) (laws : Lawful costs) (w : ℕ) (d dear : Doc) (c i : ℕ) (flat : Bool)
    (cs : List Dir) (whole : Laid) →
    IsColumn w → IsDocument dear → IsDearer d dear → WithinBy w dear cs c i flat whole →
    (other : Laid) × WithinBy w d cs c i flat other × (other.last ≡ whole.last)
    × CostsAtMost costs other.pieces whole.pieces
dearer_keeps costs laws w d dear c i flat cs whole p q is h =
    let e = h.0.0 in
    let picked = dearer_picks d dear cs e is h.0.1 in
    let cheaper = dearer_render picked.0 e c i flat whole picked.2 h.0.2 in (
      cheaper.0,
      ((picked.0, picked.1, cheaper.1), (h.1.0, below-ends w cheaper.0.pieces whole.pieces cheaper.2 h.1.1)),
      cheaper.3,
      below-cost costs laws cheaper.0.pieces whole.pieces cheaper.2
          (render_counted e w c i flat whole p (picks_document dear e cs q h.0.1) h.0.2 h.1.1),
    )

dearer_document : (d dear : Doc) → IsDearer d dear → IsDocument dear → IsDocument d
unfolding IsDearer IsDocument
dearer_document (Text s len) dear is q = subst (λ (x : Doc). IsDocument x) is q
dearer_document Newline dear is q = tt
dearer_document Hard dear is q = tt
dearer_document (Concat a b) dear is q =
    let k = subst (λ (x : Doc). IsDocument x) is.2 q in
    (dearer_document a is.0 is.3 k.0, dearer_document b is.1 is.4 k.1)
dearer_document (Nest n a) dear is q = let k = subst (λ (x : Doc). IsDocument x) is.1 q in (
  k.0,
  dearer_document a is.0 is.2 k.1,
)
dearer_document (Align a) dear is q = dearer_document a is.0 is.2 (subst (λ (x : Doc). IsDocument x) is.1 q)
dearer_document (Reset a) dear is q = dearer_document a is.0 is.2 (subst (λ (x : Doc). IsDocument x) is.1 q)
dearer_document (Flatten a) dear is q = dearer_document a is.0 is.2 (subst (λ (x : Doc). IsDocument x) is.1 q)
dearer_document (Choice a b) dear is q =
    let k = subst (λ (x : Doc). IsDocument x) is.2 q in
    (dearer_document a is.0 is.3 k.0, dearer_document b is.1 is.4 k.1)
dearer_document (Only dir a) dear is q = dearer_document a is.0 is.2 (subst (λ (x : Doc). IsDocument x) is.1 q)
dearer_document (Charge k a) dear is q =
    let l = subst (λ (x : Doc). IsDocument x) is.2 q in
    let less : k ≤ is.0 = is.3 in
    let most : is.0 ≤ 1000 = l.0 in
    (omega arith, dearer_document a is.1 is.4 l.1)

-- choices pick at most one layout at a place
pub laid_one : (d : Doc) (cs : List Dir) (c i : ℕ) (flat : Bool) (whole other : Laid) → LaidOutBy d cs c i flat whole →
    LaidOutBy d cs c i flat other → whole ≡ other
laid_one d cs c i flat whole other g h =
    let picked = picks_one d cs g.0 h.0 g.1 h.1 in
    some_same whole other (sym g.2 ∙ ap (λ (x : Doc). render x c i flat) picked ∙ h.2)
  where
    some_same : (x y : Laid) → Some x ≡ Some y → x ≡ y
    some_same x y e = cc

-- of layouts within w columns
at_most_both : {C : Type 0} (costs : Costs C) (laws : Lawful costs) (w : ℕ) (d dear : Doc) (c i : ℕ) (flat : Bool)
    (cs others : List Dir) (whole mid other : Laid) →
    IsColumn w → IsDocument d → IsDocument dear → WithinBy w d cs c i flat whole → WithinBy w d others c i flat mid →
    WithinBy w dear others c i flat other →
    CostsAtMost costs whole.pieces mid.pieces → CostsAtMost costs mid.pieces other.pieces →
    CostsAtMost costs whole.pieces other.pieces
at_most_both costs laws w d dear c i flat cs others whole mid other p q q' g k h first second a b e f =
    let z = render_costs costs k.0.0 c i flat mid k.0.2 in
    let av = layout_value costs laws w g.0.0 c i flat whole a p (picks_document d g.0.0 cs q g.0.1) g.0.2 g.1.1 e in
    let zv =
    layout_value costs laws w k.0.0 c i flat mid z.0 p (picks_document d k.0.0 others q k.0.1) k.0.2 k.1.1 z.1 in
    let bv =
    layout_value costs laws w h.0.0 c i flat other b p (picks_document dear h.0.0 others q' h.0.1) h.0.2 h.1.1 f in
    laws.transitive a z.0 b av zv bv (first a z.0 e z.1) (second z.0 b z.1 f)

-- no resolution with greater charges costs less than a least one without them
pub dearer_costs : {C : Type 0} (costs : Costs C) (laws : Lawful costs) (w : ℕ) (d dear : Doc) (c i : ℕ) (flat : Bool)
    (cs others : List Dir) (whole other : Laid) →
    IsColumn w → IsDocument dear → IsDearer d dear → IsLeast costs w d c i flat cs → LaidOutBy d cs c i flat whole →
    WithinBy w dear others c i flat other →
    CostsAtMost costs whole.pieces other.pieces
dearer_costs costs laws w d dear c i flat cs others whole other p q is least laid_out h =
    let same : least.0 ≡ whole = laid_one d cs c i flat least.0 whole least.1.0 laid_out in
    let keeps = dearer_keeps costs laws w d dear c i flat others other p q is h in
    let first : CostsAtMost costs least.0.pieces keeps.0.pieces = least.2 others keeps.0 keeps.1 in
    subst (λ (x : Laid). CostsAtMost costs x.pieces other.pieces) same
    (at_most_both costs laws w d dear c i flat cs others least.0 keeps.0 other p
    (dearer_document d dear is q) q least.1 keeps.1 h first keeps.3)
