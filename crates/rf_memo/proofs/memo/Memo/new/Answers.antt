-- No node has a place.
use Rattle.rf_memo.proofs.Pages.{new_none, none_owned}
use Rattle.rf_memo.proofs.memo.Memo.new.Goals as goal

pub invariant_of-result : goal.invariant_of-result
invariant_of-result g c = none_owned c.new.result.items c.new-2.result.items c.new.ensures.items

pub returns : goal.returns
returns g c = λ n col indent. new_none c.new.result.items c.new-2.result.items n col indent c.new.ensures.items
