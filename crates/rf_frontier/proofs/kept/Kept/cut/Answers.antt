-- What is alone stays.
use Rattle.std.proofs.Common.{◌≡◌, ◌<◌, [], ◌∷◌, length, take, sym, ap, ◌∙◌, subst, arith}
use Rattle.std.proofs.lemmas.List.{take_more}
use Rattle.rf_base_cut.specs.Cut.{cut}
use Rattle.rf_frontier.specs.Kept.{kept_measures}
use Rattle.rf_frontier.proofs.Cuts.{cut_none, cut_single}
use Rattle.rf_frontier.proofs.kept.Kept.cut.Goals as goal

pub returns-in-Nothing : goal.returns-in-Nothing
returns-in-Nothing g c = c.none.ensures ∙ sym (cut_none c.args.x c.args.self (sym c.self.view_is ∙ ap kept_measures c.in-Nothing.is))

pub returns-in-One : goal.returns-in-One
returns-in-One g c = c.one.ensures ∙ sym (ap (λ z. cut c.args.x z) (sym c.self.view_is ∙ ap kept_measures c.in-One.is) ∙ cut_single c.args.x c.in-One.m)

pub returns-then-stay-eq1 : goal.returns-then-stay-eq1
returns-then-stay-eq1 g c =
    let items = c.in-More.measures.items in
    let cut_short : take 1 items ≡ cut c.args.x items =
    subst (λ n. take n items ≡ cut c.args.x items) c.if-stay-eq1.true
    (subst (λ ms. take c.stay-stay.result ms ≡ cut c.args.x ms) c.as_slice.ensures.value c.stay-stay.ensures.cut) in
    let some : 0 < length items = subst (λ ms. 0 < length ms) c.as_slice.ensures.value (omega (arith, c.if-stay-eq1.true, c.stay-stay.ensures.within)) in
    c.one-then-stay-eq1.ensures ∙ ap (λ m. m ∷ []) c.index.ensures ∙ sym (take_more items 0 c.index.result.now some) ∙ cut_short
    ∙ sym (ap (λ ms. cut c.args.x ms) (sym c.self.view_is ∙ ap kept_measures c.in-More.is))
