-- None of the items so far is a language line.
use Rattle.std.proofs.Common.{take, ◌≢◌}
use Rattle.std.specs.List.{AllByRecursion}
use Rattle.rf_base_grammar.specs.declared.items.Item.{Item}
use Rattle.rf_base_grammar.specs.declared.kinds.Kind.TheVariants.{Lang}
use Rattle.rf_whole.proofs.early.have_no_language.Given as goal

abbrev pub invariant-loop-item : goal.invariant-loop-item
invariant-loop-item l = AllByRecursion (λ (item : Item). item.kind ≢ Lang) (take l.item-index l.items)
