-- Each measure that is passed has the part's frontier behind it.
use Rattle.rf_resolve.proofs.Joins.{behind_asked, ends_rest, given_first, none_given}
use Rattle.rf_resolve.proofs.joining.missing_behind.Goals as goal

pub through-key-requires : goal.through-key-requires
through-key-requires g c =
    behind_asked _ _ c.args.part c.behind.result c.loop-m.left.now c.in-Some.rest.now c.in-Some.m.now c.requires.asked c.loop-m.invariant.ends c.in-Some.ensures.cases.0 c.behind.ensures

pub loop-m-preserved : goal.loop-m-preserved
loop-m-preserved g c = record {
  ends = ends_rest _ c.loop-m.left.now c.in-Some.rest.now c.in-Some.m.now c.loop-m.invariant.ends c.in-Some.ensures.cases.0;
  known = λ others. c.loop-m.invariant.known
      (given_first _ _ c.args.memo.now c.args.part c.behind.result c.through-key.result c.loop-m.left.now c.in-Some.rest.now c.in-Some.m.now
      c.in-Some.ensures.cases.0 c.behind.ensures c.through-key.ensures.seen c.if-not-is_given.ensures.given others);
}

pub returns-clause-known : goal.returns-clause-known
returns-clause-known g c none = c.loop-m.invariant.known (none_given _ _ c.args.memo.now c.args.part c.loop-m.left.now c.in_default.ensures.cases)
