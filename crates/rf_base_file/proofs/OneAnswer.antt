-- A source has one answer.
use Rattle.std.proofs.Common.{◌≡◌, inl, inr, ℕ, false, List, Some, length, sym, ap, ◌∙◌, subst, arith}
use Rattle.std.specs.Str.{chars}
use Rattle.rf_base_document.specs.declared.directions.Dir.{Dir}
use Rattle.rf_base_document.specs.Document.{Doc}
use Rattle.rf_base_document.specs.Render.{Laid, render}
use Rattle.rf_base_document.specs.Picks.{weight_of}
use Rattle.rf_base_cost.specs.Cost.{Costs, cost_of}
use Rattle.rf_base_grammar.specs.Token.{Token}
use Rattle.rf_base_grammar.specs.Sources.{HasItems}
use Rattle.rf_base_grammar.proofs.OneReading.{Itemised-one}
use Rattle.rf_base_style.specs.Table.{StyleView}
use Rattle.rf_base_tree.specs.Trees.{Forest}
use Rattle.rf_base_tree.specs.Formed.{Treed}
use Rattle.rf_base_tree.proofs.OneTree.{Treed-one}
use Rattle.rf_base_file.specs.LaidOut.{source_doc, Objective, IsLaidOut, IsShort, IsLong}
use Rattle.rf_base_file.specs.Formatted.{Layout, IsFormatted, IsTooLong}
use Rattle.rf_base_file.proofs.OneLayout.{one_layout}

-- the documents of items and trees of the same source are the same
one_document : (style : StyleView) (source : List ℕ) (ts us : List Token) (trees others : Forest) → HasItems source ts →
    HasItems source us → Treed ts trees →
    Treed us others → source_doc style us others ≡ source_doc style ts trees
one_document style source ts us trees others h k m n =
    let items : us ≡ ts = Itemised-one (chars source) us ts k.1 h.1 in
    let same : others ≡ trees = Treed-one ts others trees (subst (λ (xs : List Token). Treed xs others) items n) m in
    ap (λ xs. source_doc style xs others) items ∙ ap (λ (f : Forest). source_doc style ts f) same

-- so these have the same choices, resolution and text
one_source_layout : {C : Type 0} (style : StyleView) (objective : Objective C) (source : List ℕ) (ts us : List Token)
    (trees others : Forest) (x y : List Dir) (e f : Doc) (text other : List ℕ) →
    HasItems source ts → HasItems source us → Treed ts trees → Treed us others →
    IsLaidOut objective (source_doc style ts trees) x e text →
    IsLaidOut objective (source_doc style us others) y f other → (x ≡ y) × (e ≡ f) × (text ≡ other)
one_source_layout style objective source ts us trees others x y e f text other h k m n a b =
    one_layout objective (source_doc style ts trees) x y e f text other a
    (subst (λ (d : Doc). IsLaidOut objective d y f other) (one_document style source ts us trees others h k m n) b)

-- and the same cost
same_cost : {C : Type 0} (costs : Costs C) (e f : Doc) (first second : Laid) (a b : C) → e ≡ f →
    render e 0 0 false ≡ Some first → render f 0 0 false ≡ Some second →
    cost_of costs first.pieces ≡ Some a → cost_of costs second.pieces ≡ Some b → a ≡ b
same_cost costs e f first second a b same h k p q =
    let wholes : Some first ≡ Some second = sym h ∙ ap (λ r. render r 0 0 false) same ∙ k in
    let whole : first ≡ second = cc in
    let both : Some a ≡ Some b = sym p ∙ ap (λ (w : Laid). cost_of costs w.pieces) whole ∙ q in
    cc

pub formatted_one : {C : Type 0} (style : StyleView) (objective : Objective C) (source : List ℕ)
    (given other : Layout C) → IsFormatted style objective source given →
    IsFormatted style objective source other →
    (given.choices ≡ other.choices) × (given.text ≡ other.text) × (given.cost ≡ other.cost)
formatted_one style objective source given other h k =
    let one =
    one_source_layout style objective source h.tokens k.tokens h.trees k.trees given.choices other.choices h.resolution
    k.resolution given.text other.text
    h.itemised k.itemised h.treed k.treed h.laid_out k.laid_out in (
      one.0,
      one.2,
      same_cost objective.costs h.resolution k.resolution h.laid_out.whole k.laid_out.whole given.cost
          other.cost one.1 h.laid_out.rendered k.laid_out.rendered h.cost_is k.cost_is,
    )

short_or_long : (x y : List Dir) (e f : Doc) (text other : List ℕ) → (x ≡ y) × (e ≡ f) × (text ≡ other) →
    IsShort x e text → IsLong y f other → ⊥
short_or_long x y e f text other same h k =
    let sizes : length text ≡ length other = ap length same.2 in
    let weights : weight_of e x ≡ weight_of f y = ap (λ d. weight_of d x) same.1 ∙ ap (λ cs. weight_of f cs) same.0 in
    elim k [ inl long ↦ omega arith | inr long ↦ omega arith ]

pub formatted_or_too_long : {C : Type 0} (style : StyleView) (objective : Objective C) (source : List ℕ)
    (given : Layout C) → IsFormatted style objective source given →
    IsTooLong style objective source → ⊥
formatted_or_too_long style objective source given h k =
    short_or_long given.choices k.choices h.resolution k.resolution given.text k.text
    (one_source_layout style objective source h.tokens k.tokens h.trees k.trees given.choices k.choices h.resolution
    k.resolution given.text k.text h.itemised k.itemised h.treed k.treed h.laid_out k.laid_out)
    h.short k.long
