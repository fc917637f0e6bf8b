-- A first measure is taken whole, and otherwise the walk goes on by parts.
use Rattle.std.proofs.Common.{arith}
use Rattle.std.proofs.lemmas.Result.{on_ok_weaker}
use Rattle.rf_resolve.proofs.Going.{too_heavy}
use Rattle.rf_resolve.proofs.Turns.{first_is, first_turn}
use Rattle.rf_resolve.proofs.walking.turn.Goals as goal

pub returns-in-Some-clause-turned : goal.returns-in-Some-clause-turned
returns-in-Some-clause-turned g c = on_ok_weaker c.take.result (λ taken. first_turn _ _ _ _ c.args.walk.now c.take.new.self c.args.frame c.in-Some.m c.requires.walk (rw c.in-Some.is at c.in_ok-m.ensures.first) taken) c.take.ensures.taken

pub returns-in-Some-clause-too_long : goal.returns-in-Some-clause-too_long
returns-in-Some-clause-too_long g c =
    λ e. too_heavy _ _ _ c.args.walk.now c.args.frame _ _ (first_is _ _ _ _ c.args.frame c.args.walk.now.column c.in-Some.m (rw c.in-Some.is at c.in_ok-m.ensures.first)) (omega arith) (c.take.ensures.too_long e)
