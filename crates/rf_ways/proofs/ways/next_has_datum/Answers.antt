-- A datum alone is one, and of any other slot its datum is asked.
use Rattle.rf_tree.specs.Ahead.{slots_ahead}
use Rattle.rf_ways.proofs.Taking.{some_alone}
use Rattle.rf_ways.proofs.ways.next_has_datum.Goals as goal

pub returns-then-is_some-clause-next : goal.returns-then-is_some-clause-next
returns-then-is_some-clause-next c =
    some_alone (slots_ahead c.args.slots.now) (slots_ahead c.next_alone.new.self) c.next_alone.result c.is_some.result c.is_some.ensures c.if-is_some.true c.next_alone.ensures.next
