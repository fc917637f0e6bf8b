-- What is best for two documents in a row is best for both together, where the first ends at column 0 or the second
-- may begin anywhere.
use Rattle.std.proofs.Common.{◌≡◌, ℕ, false, List, ◌++◌, refl, sym, ◌∙◌, subst, ◌⊎◌, inl, inr, Some}
use Rattle.rf_base_document.specs.declared.directions.Dir.{Dir}
use Rattle.rf_base_document.specs.Document.{Doc, Concat, IsDocument}
use Rattle.rf_base_document.specs.Render.{Piece, Laid, laid, EachEndsWithin}
use Rattle.rf_base_document.specs.Picks.{LaidOutBy}
use Rattle.rf_base_document.proofs.Render.{EachEndsWithin-append}
use Rattle.rf_base_document.proofs.Running.{picks_document}
use Rattle.rf_base_cost.specs.Cost.{Costs, AtMost, IsColumn, Lawful}
use Rattle.rf_base_optimum.specs.Best.{WithinBy, HasWithin, CostsAtMost, IsLeast, Best}
use Rattle.rf_base_optimum.proofs.Shift.{ends-apart}
use Rattle.rf_base_optimum.proofs.Pruning.{costs_of_both, render_costs, render_last, layout_value}
use Rattle.rf_base_optimum.proofs.Cores.{best_is}
use Rattle.rf_base_optimum.proofs.Dearer.{laid_one}
use Rattle.rf_base_optimum.proofs.Sequences.{concat-laid, laid-concat}

-- each layout of the document ends at column 0
abbrev pub EndsAtMargin : Doc → Type 0
EndsAtMargin a = (cs : List Dir) (c : ℕ) (whole : Laid) → LaidOutBy a cs c 0 false whole → whole.last ≡ 0

-- the document has the same layouts wherever it begins
abbrev pub BeginsAnywhere : Doc → Type 0
BeginsAnywhere b =
    (cs : List Dir) (c other : ℕ) (whole : Laid) → LaidOutBy b cs c 0 false whole → LaidOutBy b cs other 0 false whole

-- what stands before doesn't matter for the second document
abbrev pub Seam : Doc → Doc → Type 0
Seam a b = EndsAtMargin a ⊎ BeginsAnywhere b

pub moved : (a b : Doc) (x others y : List Dir) (c : ℕ) (first other second : Laid) → Seam a b →
    LaidOutBy a x c 0 false first → LaidOutBy a others c 0 false other →
    LaidOutBy b y other.last 0 false second → LaidOutBy b y first.last 0 false second
moved a b x others y c first other second (inl ends) h k l =
    let same : other.last ≡ first.last = ends others c other k ∙ sym (ends x c first h) in
    subst (λ (n : ℕ). LaidOutBy b y n 0 false second) same l
moved a b x others y c first other second (inr begins) h k l = begins y other.last first.last second l

-- a concatenation within w columns has its parts within them
pub within-apart : (w : ℕ) (a b : Doc) (cs : List Dir) (c : ℕ) (whole : Laid) →
    WithinBy w (Concat a b) cs c 0 false whole →
    (x : List Dir) × (y : List Dir) × (first : Laid) × (second : Laid) × WithinBy w a x c 0 false first
    × WithinBy w b y first.last 0 false second × (whole.pieces ≡ first.pieces ++ second.pieces)
within-apart w a b cs c whole h =
    let apart = concat-laid a b cs c 0 whole h.0 in
    let ends =
    ends-apart w apart.2.pieces apart.3.pieces (subst (λ (ps : List Piece). EachEndsWithin w ps) apart.7 h.1.1) in
    let last = render_last apart.5.0 w c 0 false apart.2 apart.5.2 ends.0 in
    (apart.0, apart.1, apart.2, apart.3, (apart.5, (h.1.0, ends.0)), (apart.6, (last, ends.1)), apart.7)

pub within-both : (w : ℕ) (a b : Doc) (x y : List Dir) (c : ℕ) (first second : Laid) → WithinBy w a x c 0 false first →
    WithinBy w b y first.last 0 false second →
    WithinBy w (Concat a b) (x ++ y) c 0 false (laid (first.pieces ++ second.pieces) second.last)
within-both w a b x y c first second h k = (
  laid-concat a b x y c 0 first second h.0 k.0,
  (h.1.0, EachEndsWithin-append w first.pieces second.pieces h.1.1 k.1.1),
)

pub first_within : (w : ℕ) (a b : Doc) (c : ℕ) → HasWithin w (Concat a b) c 0 false → HasWithin w a c 0 false
first_within w a b c has = let apart = within-apart w a b has.0 c has.1 has.2 in (apart.0, apart.2, apart.4)

pub second_within : (w : ℕ) (a b : Doc) (x : List Dir) (c : ℕ) (first : Laid) → Seam a b →
    WithinBy w a x c 0 false first → HasWithin w (Concat a b) c 0 false →
    HasWithin w b first.last 0 false
second_within w a b x c first seam h has =
    let apart = within-apart w a b has.0 c has.1 has.2 in
    let last = render_last h.0.0 w c 0 false first h.0.2 h.1.1 in (
      apart.1,
      apart.3,
      (moved a b x apart.0 apart.1 c first apart.2 apart.3 seam h.0 apart.4.0 apart.5.0, (last, apart.5.1.1)),
    )

-- two layouts in a row cost no more than two others in a row where each costs no more than the other
both_at_most : {C : Type 0} (costs : Costs C) (laws : Lawful costs) (w : ℕ) (a b : Doc) (x y s t : List Dir) (c n : ℕ)
    (first second third fourth : Laid) →
    IsColumn w → IsDocument a → IsDocument b → WithinBy w a x c 0 false first →
    WithinBy w b y first.last 0 false second →
    WithinBy w a s c 0 false third → WithinBy w b t n 0 false fourth → CostsAtMost costs first.pieces third.pieces →
    CostsAtMost costs second.pieces fourth.pieces →
    CostsAtMost costs (first.pieces ++ second.pieces) (third.pieces ++ fourth.pieces)
both_at_most {C = C} costs laws w a b x y s t c n first second third fourth p ad bd f g h k less fewer m o e r =
    let u = render_costs costs f.0.0 c 0 false first f.0.2 in
    let v = render_costs costs g.0.0 first.last 0 false second g.0.2 in
    let u' = render_costs costs h.0.0 c 0 false third h.0.2 in
    let v' = render_costs costs k.0.0 n 0 false fourth k.0.2 in
    let fd = picks_document a f.0.0 x ad f.0.1 in
    let gd = picks_document b g.0.0 y bd g.0.1 in
    let hd = picks_document a h.0.0 s ad h.0.1 in
    let kd = picks_document b k.0.0 t bd k.0.1 in
    let sum =
    costs_of_both costs laws w f.0.0 g.0.0 c 0 first.last 0 first second u.0 v.0 p fd gd f.0.2 g.0.2 f.1.1 g.1.1 u.1 v.1
    in
    let sum' =
    costs_of_both costs laws w h.0.0 k.0.0 c 0 n 0 third fourth u'.0 v'.0 p hd kd h.0.2 k.0.2 h.1.1 k.1.1 u'.1 v'.1 in
    let is : costs.add u.0 v.0 ≡ m = some_same (costs.add u.0 v.0) m (sym sum ∙ e) in
    let is' : costs.add u'.0 v'.0 ≡ o = some_same (costs.add u'.0 v'.0) o (sym sum' ∙ r) in
    let uv = layout_value costs laws w f.0.0 c 0 false first u.0 p fd f.0.2 f.1.1 u.1 in
    let vv = layout_value costs laws w g.0.0 first.last 0 false second v.0 p gd g.0.2 g.1.1 v.1 in
    let uv' = layout_value costs laws w h.0.0 c 0 false third u'.0 p hd h.0.2 h.1.1 u'.1 in
    let vv' = layout_value costs laws w k.0.0 n 0 false fourth v'.0 p kd k.0.2 k.1.1 v'.1 in
    let at_most = laws.monotone u.0 u'.0 v.0 v'.0 uv uv' vv vv' (less u.0 u'.0 u.1 u'.1) (fewer v.0 v'.0 v.1 v'.1) in
    subst (λ (z : C). AtMost costs z o) is (subst (λ (z : C). AtMost costs (costs.add u.0 v.0) z) is' at_most)
  where
    some_same : {C : Type 0} (a b : C) → Some a ≡ Some b → a ≡ b
    some_same a b e = cc

both_least : {C : Type 0} (costs : Costs C) (laws : Lawful costs) (w : ℕ) (a b : Doc) (x y : List Dir) (c : ℕ)
    (first second : Laid) → IsColumn w → IsDocument a → IsDocument b →
    Seam a b → WithinBy w a x c 0 false first → WithinBy w b y first.last 0 false second →
    ((others : List Dir) (other : Laid) → WithinBy w a others c 0 false other →
    CostsAtMost costs first.pieces other.pieces) →
    ((others : List Dir) (other : Laid) → WithinBy w b others first.last 0 false other →
    CostsAtMost costs second.pieces other.pieces) →
    IsLeast costs w (Concat a b) c 0 false (x ++ y)
both_least {C = C} costs laws w a b x y c first second p ad bd seam h k less fewer = (
  laid (first.pieces ++ second.pieces) second.last,
  within-both w a b x y c first second h k,
  λ others other within.
      let apart = within-apart w a b others c other within in
      let last = render_last h.0.0 w c 0 false first h.0.2 h.1.1 in
      let shifted = moved a b x apart.0 apart.1 c first apart.2 apart.3 seam h.0 apart.4.0 apart.5.0 in
      subst (λ (ps : List Piece). CostsAtMost costs (first.pieces ++ second.pieces) ps) (sym apart.6)
      (both_at_most costs laws w a b x y apart.0 apart.1 c first.last first second apart.2 apart.3 p ad bd h k apart.4
      (shifted, (last, apart.5.1.1))
      (less apart.0 apart.2 apart.4) (fewer apart.1 apart.3 (shifted, (last, apart.5.1.1)))),
)

least_of : {C : Type 0} (costs : Costs C) (w : ℕ) (d : Doc) (cs : List Dir) (c : ℕ) (whole : Laid) →
    LaidOutBy d cs c 0 false whole → IsLeast costs w d c 0 false cs →
    WithinBy w d cs c 0 false whole
    × ((others : List Dir) (other : Laid) → WithinBy w d others c 0 false other →
    CostsAtMost costs whole.pieces other.pieces)
least_of costs w d cs c whole h least =
    subst (λ (z : Laid). WithinBy w d cs c 0 false z
    × ((others : List Dir) (other : Laid) → WithinBy w d others c 0 false other →
    CostsAtMost costs z.pieces other.pieces))
    (laid_one d cs c 0 false least.0 whole least.1.0 h) (least.1, least.2)

-- what is best for both parts at their places is best for the concatenation
pub best_of_both : {C : Type 0} (costs : Costs C) (laws : Lawful costs) (w : ℕ) (a b : Doc) (x y : List Dir) (c : ℕ)
    (first : Laid) → IsColumn w → IsDocument a → IsDocument b →
    Seam a b → Best costs w a c 0 false x → LaidOutBy a x c 0 false first → Best costs w b first.last 0 false y →
    Best costs w (Concat a b) c 0 false (x ++ y)
unfolding Best
best_of_both costs laws w a b x y c first p ad bd seam f h g =
    let left = best_is costs w a c 0 false x f in
    let right = best_is costs w b first.last 0 false y g in
    let second = right.0.0 in (
      (laid (first.pieces ++ second.pieces) second.last, laid-concat a b x y c 0 first second h right.0.1),
      elim left.1 [
        | inl least ↦
            let of_first = least_of costs w a x c first h least in
            elim right.1 [
              | inl other ↦
                  let of_second = least_of costs w b y first.last second right.0.1 other in
                  inl (both_least costs laws w a b x y c first second p ad bd seam of_first.0 of_second.0 of_first.1
                  of_second.1)
              | inr none ↦
                  inr (λ has. none (second_within w a b x c first seam of_first.0 has), (x, y, first, refl, f, h, g))
            ]
        | inr none ↦ inr (λ has. none (first_within w a b c has), (x, y, first, refl, f, h, g))
      ],
    )
