-- The choices of both are to come.
use Rattle.std.proofs.Common.{arith, length-append}
use Rattle.rf_frontier.specs.Ways.{choices_of}
use Rattle.rf_frontier.proofs.ToCome.{to_come-length, each-push, join_same}
use Rattle.rf_frontier.proofs.unfolding.after_join.Goals as goal

pub returns-then-len-limit-clause-past : goal.returns-then-len-limit-clause-past
returns-then-len-limit-clause-past c =
    let both = length-append (choices_of c.args.hows.now c.args.first.0) (choices_of c.args.hows.now c.args.second.0) in
    let rest = to_come-length c.args.hows.now c.args.pending.now.items c.requires.choices in
    omega (arith, both, rest)

pub returns-clause-unfolds : goal.returns-clause-unfolds
returns-clause-unfolds c = record {
  same = join_same c.args.hows.now c.args.first c.args.second c.args.pending.now.items c.push.new.self.items c.push-2.new.self.items c.args.into.now.items
      c.in_ok-push.ensures.items c.in_ok-push-2.ensures.items;
  each = each-push c.args.hows.now c.push.new.self.items c.push-2.new.self.items c.args.first c.in_ok-push-2.ensures.items
      (each-push c.args.hows.now c.args.pending.now.items c.push.new.self.items c.args.second c.in_ok-push.ensures.items c.requires.choices c.requires.second c.requires.second_some)
      c.requires.first c.requires.first_some;
  room = omega (arith, c.in_ok-push.ensures.len, c.in_ok-push-2.ensures.len);
  further = omega (arith, c.in_ok-push.ensures.len, c.in_ok-push-2.ensures.len);
}
