-- What is kept of two measures, where that is one, and that it is two otherwise.
use Rattle.std.proofs.Common.{◌∷◌, [], ◌∙◌, ap, arith}
use Rattle.rf_base_cut.specs.Cut.{cut}
use Rattle.rf_frontier.specs.declared.turns.Turn.TheVariants.{KeepFirst, KeepSecond, DropFirst, DropSecond}
use Rattle.rf_frontier.proofs.Cuts.{cut_first, cut_single, cut_two}
use Rattle.rf_frontier.proofs.Pairs.{two_is}
use Rattle.rf_frontier.proofs.merging.best_of_two.Goals as goal

pub returns-in-KeepFirst-clause-best : goal.returns-in-KeepFirst-clause-best
returns-in-KeepFirst-clause-best g c =
    ap (cut c.args.x) (two_is (g.F.Factory.costs c.args.factory.now) (g.met.F.Factory.lawful c.args.factory.now) c.args.first c.args.second KeepFirst c.requires.first c.requires.second c.in-KeepFirst.ensures.turn)
    ∙ cut_first c.args.x c.args.first (c.args.second ∷ []) c.if-first-x.true

pub returns-in-KeepSecond-clause-best : goal.returns-in-KeepSecond-clause-best
returns-in-KeepSecond-clause-best g c =
    ap (cut c.args.x) (two_is (g.F.Factory.costs c.args.factory.now) (g.met.F.Factory.lawful c.args.factory.now) c.args.first c.args.second KeepSecond c.requires.first c.requires.second c.in-KeepSecond.ensures.turn)
    ∙ cut_first c.args.x c.args.second (c.args.first ∷ []) c.if-second-x.true

pub returns-in-DropFirst-clause-best : goal.returns-in-DropFirst-clause-best
returns-in-DropFirst-clause-best g c =
    ap (cut c.args.x) (two_is (g.F.Factory.costs c.args.factory.now) (g.met.F.Factory.lawful c.args.factory.now) c.args.first c.args.second DropFirst c.requires.first c.requires.second c.in-DropFirst.ensures.turn)
    ∙ cut_single c.args.x c.args.second

pub returns-in-DropSecond-clause-best : goal.returns-in-DropSecond-clause-best
returns-in-DropSecond-clause-best g c =
    ap (cut c.args.x) (two_is (g.F.Factory.costs c.args.factory.now) (g.met.F.Factory.lawful c.args.factory.now) c.args.first c.args.second DropSecond c.requires.first c.requires.second c.in-DropSecond.ensures.turn)
    ∙ cut_single c.args.x c.args.first

pub returns-in-KeepFirst-2-clause-both : goal.returns-in-KeepFirst-2-clause-both
returns-in-KeepFirst-2-clause-both g c none =
    cut_two c.args.x c.args.first c.args.second _
    (two_is (g.F.Factory.costs c.args.factory.now) (g.met.F.Factory.lawful c.args.factory.now) c.args.first c.args.second KeepFirst c.requires.first c.requires.second c.in-KeepFirst-2.ensures.turn)
    (omega (arith, c.if-first-x.false))

pub returns-in-KeepSecond-2-clause-both : goal.returns-in-KeepSecond-2-clause-both
returns-in-KeepSecond-2-clause-both g c none =
    cut_two c.args.x c.args.second c.args.first _
    (two_is (g.F.Factory.costs c.args.factory.now) (g.met.F.Factory.lawful c.args.factory.now) c.args.first c.args.second KeepSecond c.requires.first c.requires.second c.in-KeepSecond-2.ensures.turn)
    (omega (arith, c.if-second-x.false))
