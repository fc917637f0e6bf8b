-- Each item is the next one.
use Rattle.std.proofs.Common.{arith}
use Rattle.std.proofs.lemmas.Result.{err_from_is_err_and}
use Rattle.rf_tree.proofs.Items.{IsItem-of, item_ends}
use Rattle.rf_tree.proofs.Places.{IsAtBehind-move, fault_here}
use Rattle.rf_tree.proofs.parser.Parser.read.Goals as goal

pub take-requires : goal.take-requires
take-requires c = item_ends c.requires.items.0 c.args.items.now c.loop-number.number _ c.requires.items.1 c.loop-number-test.true

pub returns-in_err-take-clause-refused : goal.returns-in_err-take-clause-refused
returns-in_err-take-clause-refused c =
    let p = err_from_is_err_and c.from_residual.result c.from_residual.ensures.1 in
    rw (p.1, p.2)
    (λ text ts done of is from.
    let at = c.loop-number.invariant.2 text ts done of is from in
    let item = IsItem-of text ts c.args.items.now c.loop-number.number _ of is c.loop-number-test.true in
    fault_here ts done c.loop-number.number c.loop-number.self _ _ at item.kind_is
    (c.in_err-take.ensures.refused ts at.frames at.here at.stands item))

pub loop-number-preserved : goal.loop-number-preserved
loop-number-preserved c = (
  grind (arith, c.loop-number.invariant.0),
  grind (arith, c.loop-number-test.true),
  λ text ts done of is from.
      let at = c.loop-number.invariant.2 text ts done of is from in
      let item = IsItem-of text ts c.args.items.now c.loop-number.number _ of is c.loop-number-test.true in
      IsAtBehind-move ts done c.loop-number.number c.loop-number.self c.take.new.self _ at item.kind_is
      (c.in_ok-take.ensures.goes_on ts at.frames at.here at.stands item),
)
