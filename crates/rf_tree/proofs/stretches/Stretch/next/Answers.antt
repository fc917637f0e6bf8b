-- One slot fewer is taken.
use Rattle.std.proofs.Common.{◌≡◌, ℕ, suc, ◌-◌, take, subst, arith}
use Rattle.rf_tree.specs.Ahead.{slots_ahead, TakesFirst}
use Rattle.rf_tree.proofs.FirstAhead.{first_of_more}
use Rattle.rf_tree.proofs.stretches.Stretch.next.Goals as goal

pub returns-clause-next : goal.returns-clause-next
returns-clause-next c =
    let most = c.args.self.now.most in
    let one_more : suc (most - 1) ≡ most = omega arith in
    subst (λ (k : ℕ). TakesFirst (take k (slots_ahead c.args.self.now.slots)) c.next.result (take (most - 1) (slots_ahead c.next.new.self))) one_more
    (first_of_more (most - 1) _ _ _ c.next.ensures.next)
