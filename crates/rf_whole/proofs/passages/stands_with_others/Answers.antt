-- What is seen of the items and of the nodes at the top holds of the tokens and of the trees.
use Rattle.std.proofs.Common.{◌≢◌, List, sym, subst, ◌∙◌}
use Rattle.std.proofs.lemmas.Bool.{both_ways}
use Rattle.std.specs.List.{AllByRecursion}
use Rattle.rf_base_grammar.specs.declared.items.Item.{Item}
use Rattle.rf_base_grammar.specs.declared.kinds.Kind.TheVariants.{Lang}
use Rattle.rf_whole.proofs.TreesAlone.{stands_so}
use Rattle.rf_whole.proofs.passages.stands_with_others.Goals as goal
use Rattle.rf_whole.proofs.passages.stands_with_others.Goals.{then-first, else-first}

pub returns-then-last : goal.returns-then-last
returns-then-last c u style ts trees rest is leads gap =
    stands_so style c.args.tree.now c.args.first c.args.last c.in-Some.item.now ts trees rest
    c.deref.result.now c.deref.ensures.value c.in-Some.ensures.value
    (λ b. elim c.if-first.branch [
      | then-first w ↦ absurd (both_ways c.args.first b w.if-first.true)
      | else-first w ↦ subst (λ (items : List Item). AllByRecursion (λ (i : Item). i.kind ≢ Lang) items)
          w.deref-else-first.ensures.value (w.have_no_language.ensures (sym w.value-is ∙ c.if-have_no_language.true))
    ])
    (λ b. absurd (both_ways c.args.last b c.if-last.true)) is leads

pub returns-then-item-tree : goal.returns-then-item-tree
returns-then-item-tree c u style ts trees rest is leads gap =
    stands_so style c.args.tree.now c.args.first c.args.last c.in-Some.item.now ts trees rest
    c.deref.result.now c.deref.ensures.value c.in-Some.ensures.value
    (λ b. elim c.if-first.branch [
      | then-first w ↦ absurd (both_ways c.args.first b w.if-first.true)
      | else-first w ↦ subst (λ (items : List Item). AllByRecursion (λ (i : Item). i.kind ≢ Lang) items)
          w.deref-else-first.ensures.value (w.have_no_language.ensures (sym w.value-is ∙ c.if-have_no_language.true))
    ])
    (λ b. (c.if-item-tree.true, c.ends_in_compound.ensures u)) is leads
