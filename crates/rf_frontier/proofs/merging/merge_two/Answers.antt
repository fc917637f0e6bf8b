-- What is kept of two measures, by the turn of both.
use Rattle.std.proofs.Common.{sym, ◌∙◌}
use Rattle.std.proofs.lemmas.Result.{IfOk-weaker}
use Rattle.rf_frontier.proofs.Pairs.{two_is}
use Rattle.rf_frontier.specs.declared.turns.Turn.TheVariants.{KeepFirst, KeepSecond, DropFirst, DropSecond}
use Rattle.rf_frontier.proofs.merging.merge_two.Goals as goal

pub returns-in-KeepFirst-clause-merged : goal.returns-in-KeepFirst-clause-merged
returns-in-KeepFirst-clause-merged g c =
    IfOk-weaker c.two.result _ _
    (λ f e. e ∙ sym (two_is (g.F.Factory.costs c.args.factory.now) (g.met.F.Factory.lawful c.args.factory.now) c.args.x c.args.y KeepFirst c.requires.first c.requires.second c.in-KeepFirst.ensures.turn)) c.two.ensures

pub returns-in-KeepSecond-clause-merged : goal.returns-in-KeepSecond-clause-merged
returns-in-KeepSecond-clause-merged g c =
    IfOk-weaker c.two-in-KeepSecond.result _ _
    (λ f e. e ∙ sym (two_is (g.F.Factory.costs c.args.factory.now) (g.met.F.Factory.lawful c.args.factory.now) c.args.x c.args.y KeepSecond c.requires.first c.requires.second c.in-KeepSecond.ensures.turn)) c.two-in-KeepSecond.ensures

pub returns-in-DropFirst-clause-merged : goal.returns-in-DropFirst-clause-merged
returns-in-DropFirst-clause-merged g c =
    c.one.ensures ∙ sym (two_is (g.F.Factory.costs c.args.factory.now) (g.met.F.Factory.lawful c.args.factory.now) c.args.x c.args.y DropFirst c.requires.first c.requires.second c.in-DropFirst.ensures.turn)

pub returns-in-DropSecond-clause-merged : goal.returns-in-DropSecond-clause-merged
returns-in-DropSecond-clause-merged g c =
    c.one-in-DropSecond.ensures ∙ sym (two_is (g.F.Factory.costs c.args.factory.now) (g.met.F.Factory.lawful c.args.factory.now) c.args.x c.args.y DropSecond c.requires.first c.requires.second c.in-DropSecond.ensures.turn)
