-- The side's frontier, marked, is the choice's.
use Rattle.std.proofs.Common.{◌<◌, arith}
use Rattle.rf_resolve.proofs.Parts.{part_asked}
use Rattle.rf_resolve.proofs.Branches.{at_part, only_at}
use Rattle.rf_resolve.proofs.answering.side_alone.Goals as goal

pub through-part-requires : goal.through-part-requires
through-part-requires g c =
    (part_asked _ _ c.args.key c.at.result _ c.args.a c.args.key.indentation c.requires.asked c.requires.node (omega arith) c.requires.asked.indentation c.at.ensures).0

pub returns-in_default-clause-answer : goal.returns-in_default-clause-answer
returns-in_default-clause-answer g c =
    let part = part_asked _ _ c.args.key c.at.result _ c.args.a c.args.key.indentation c.requires.asked c.requires.node (omega arith) c.requires.asked.indentation c.at.ensures in
    let before : c.at.result.node < c.args.key.node = part.1 in
    record {
      asked = c.through-part.ensures.asked;
      earlier = omega (arith, before, c.through-part.ensures.earlier);
      missing = c.known.ensures.missing c.in_default.is;
    }

pub returns-clause-answer : goal.returns-clause-answer
returns-clause-answer g c =
    only_at _ _ _ c.args.hows.now _ c.args.key c.args.dir c.args.a c.in-Some.side.now _ c.requires.asked.graph c.requires.node
    (at_part _ _ _ c.args.hows.now c.args.key c.through-part.result c.at.result c.args.a c.in-Some.side.now c.at.ensures c.through-part.ensures.same
    c.in-Some.ensures.frontier)
    c.in_ok-mark.ensures.marked c.in_ok-mark.ensures.belongs
