-- The front's items are the source's first.
use Rattle.std.proofs.Common.{rules, subst}
use Rattle.rf_tree.specs.Parsing.{TreeFault}
use Rattle.rf_whole.proofs.RefusedFronts.{front_refused}
use Rattle.rf_whole.proofs.early.refused_front.Goals as goal

pub returns-in-Err-Refused : goal.returns-in-Err-Refused
returns-in-Err-Refused c =
    front_refused c.args.front.now c.args.rest.now c.in-Ok.items.items c.in-Err-Refused.kind c.in-Err-Refused.offset
    c.utf8.front c.in-Ok.ensures.items (search rules) (search rules) (search rules)
    (λ ts done tokens same place.
    subst (λ f. TreeFault ts f) c.in-Err-Refused.field-0-is
    (c.in-Err-Refused.ensures.refused ts done tokens same place))
