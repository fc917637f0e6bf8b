-- One direction more, and the choices behind it are to come.
use Rattle.std.proofs.Common.{arith}
use Rattle.rf_frontier.specs.Ways.{choices_of}
use Rattle.rf_frontier.proofs.ToCome.{to_come-length, each-push, mark_same, one_to_come}
use Rattle.rf_frontier.proofs.unfolding.after_mark.Goals as goal

pub returns-then-len-limit-clause-past : goal.returns-then-len-limit-clause-past
returns-then-len-limit-clause-past c =
    let rest = to_come-length c.args.hows.now c.args.pending.now.items c.requires.choices in
    omega (arith, rest, c.in_ok-push.ensures.len, c.if-is_leaf.ensures.some)

pub returns-clause-unfolds : goal.returns-clause-unfolds
returns-clause-unfolds c = record {
  same = mark_same c.args.hows.now c.args.dir (choices_of c.args.hows.now c.args.rest.0) c.args.pending.now.items c.push-2.new.self.items c.args.into.now.items c.push.new.self.items
      c.in_ok-push.ensures.items (one_to_come c.args.hows.now c.args.rest c.args.pending.now.items c.push-2.new.self.items c.in_ok-push-2.ensures.items);
  each = each-push c.args.hows.now c.args.pending.now.items c.push-2.new.self.items c.args.rest c.in_ok-push-2.ensures.items c.requires.choices c.requires.rest c.if-is_leaf.ensures.some;
  room = omega (arith, c.in_ok-push.ensures.len, c.in_ok-push-2.ensures.len);
  further = omega (arith, c.in_ok-push.ensures.len, c.in_ok-push-2.ensures.len);
}
