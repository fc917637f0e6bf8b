-- All items are settled.
use Rattle.std.proofs.Common.{◌≡◌, List, true, sym, ap, ◌∙◌, arith}
use Rattle.std.proofs.lemmas.Grind.{common_steps}
use Rattle.rf_base_grammar.specs.declared.items.Item.{Item}
use Rattle.rf_tree.specs.Settled.{settled_items}
use Rattle.rf_tree.proofs.Settled.{settled_items-map}
use Rattle.rf_tree.proofs.settling.settle.Goals as goal

pub returns-clause-items : goal.returns-clause-items
returns-clause-items c = grind (arith, common_steps, c.loop-item.invariant)

pub returns-clause-tokens : goal.returns-clause-tokens
returns-clause-tokens c =
    λ ts is.
    let all : settled_items true c.args.max c.args.items.now ≡ c.loop-item.items = grind (arith, common_steps, c.loop-item.invariant) in
    sym all ∙ ap (λ (items : List Item). settled_items true c.args.max items) is ∙ settled_items-map true c.args.max ts
