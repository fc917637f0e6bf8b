-- A piece stands behind the others.
use Rattle.std.proofs.Common.{refl}
use Rattle.rf_rows.proofs.Stacks.{on_ok, put_on}
use Rattle.rf_rows.proofs.Stands.{piled}
use Rattle.rf_rows.proofs.rows.Rows.put.Goals as goal

pub invariant_of-self : goal.invariant_of-self
invariant_of-self c =
    record { stand = piled c.push.result _ _ _ _ _ _ c.args.piece c.args.self.now.stand c.requires c.push.ensures.items c.push.ensures.same c.push.ensures.low }

pub returns-clause-put : goal.returns-clause-put
returns-clause-put c =
    on_ok c.push.result _ _ (λ is. record { free = refl; docs = λ fill. put_on _ fill _ _ c.args.piece is }) c.push.ensures.items
