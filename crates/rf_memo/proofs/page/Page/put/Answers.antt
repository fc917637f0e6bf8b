-- The entry stands among the others.
use Rattle.rf_memo.proofs.Entries.{on_ok, new_others, puts_whole}
use Rattle.rf_memo.proofs.page.Page.put.Goals as goal

pub insert-requires-clause-new : goal.insert-requires-clause-new
insert-requires-clause-new g c = new_others c.self.inside.first c.self.inside.others.items c.args.self.now c.args.col c.args.indent c.self.view_is c.requires

pub returns-clause-put : goal.returns-clause-put
returns-clause-put g c =
    on_ok c.insert.result _ _
    (λ p. puts_whole c.self.inside.first c.self.inside.others.items c.insert.new.entries.items c.args.self.now c.args.col c.args.indent c.args.value c.self.view_is c.requires p)
    c.insert.ensures.put
