-- Each kind of node goes on with its own parts.
use Rattle.std.proofs.Common.{arith}
use Rattle.std.proofs.lemmas.Result.{on_ok_weaker}
use Rattle.rf_flat.proofs.CoreNodes.{told_as}
use Rattle.rf_resolve.proofs.Alike.{nest_limit}
use Rattle.rf_resolve.proofs.Going.{too_heavy}
use Rattle.rf_resolve.proofs.Turns.{text_is, newline_is, choice_is, only_is, text_turn, newline_turn, concat_turn, nest_turn, align_turn, reset_turn, choice_turn, only_turn, charge_turn}
use Rattle.rf_resolve.proofs.walking.by_parts.Goals as goal

pub overflow_add-frame : goal.overflow_add-frame
overflow_add-frame g c = let most = nest_limit _ c.args.frame.node c.in-Nest.n c.in-Nest.a c.node.ensures.is_graph (told_as _ c.args.frame.node _ _ c.in-Nest.is c.node.ensures.told) in omega (arith, most, c.requires.frame.shallow, c.args.setting.now.narrow)

pub returns-in-Text-clause-turned : goal.returns-in-Text-clause-turned
returns-in-Text-clause-turned g c = on_ok_weaker c.text.result (λ done. text_turn _ _ _ c.args.walk.now c.text.new.self c.args.frame _ c.in-Text.len c.node.ensures.is_graph c.requires.walk (told_as _ c.args.frame.node _ _ c.in-Text.is c.node.ensures.told) c.requires.nothing done) c.text.ensures.passed

pub returns-in-Text-clause-too_long : goal.returns-in-Text-clause-too_long
returns-in-Text-clause-too_long g c = λ e. too_heavy _ _ _ c.args.walk.now c.args.frame _ 1 (text_is _ _ _ c.args.frame c.args.walk.now.column _ c.in-Text.len c.node.ensures.is_graph (told_as _ c.args.frame.node _ _ c.in-Text.is c.node.ensures.told) c.requires.nothing) (omega arith) (c.text.ensures.too_long e)

pub returns-in-Newline-clause-turned : goal.returns-in-Newline-clause-turned
returns-in-Newline-clause-turned g c = on_ok_weaker c.newline.result (λ done. newline_turn _ _ _ c.args.walk.now c.newline.new.self c.args.frame c.node.ensures.is_graph c.requires.walk c.requires.frame (told_as _ c.args.frame.node _ _ c.in-Newline.is c.node.ensures.told) c.requires.nothing done) c.newline.ensures.passed

pub returns-in-Newline-clause-too_long : goal.returns-in-Newline-clause-too_long
returns-in-Newline-clause-too_long g c = λ e. too_heavy _ _ _ c.args.walk.now c.args.frame _ 1 (newline_is _ _ _ c.args.frame c.args.walk.now.column c.node.ensures.is_graph (told_as _ c.args.frame.node _ _ c.in-Newline.is c.node.ensures.told) c.requires.nothing) (omega arith) (c.newline.ensures.too_long e)

pub returns-in_ok-on-in-Concat-clause-turned : goal.returns-in_ok-on-in-Concat-clause-turned
returns-in_ok-on-in-Concat-clause-turned g c = on_ok_weaker c.on-in-Concat.result (λ more. concat_turn _ _ _ c.args.walk.now c.on.new.self c.on-in-Concat.new.self c.args.frame c.in-Concat.a c.in-Concat.b c.node.ensures.is_graph c.requires.walk c.requires.frame (told_as _ c.args.frame.node _ _ c.in-Concat.is c.node.ensures.told) c.requires.nothing c.in_ok-on-in-Concat.ensures.gone more) c.on-in-Concat.ensures.gone

pub returns-in-Nest-clause-turned : goal.returns-in-Nest-clause-turned
returns-in-Nest-clause-turned g c = on_ok_weaker c.on-in-Nest.result (λ done. nest_turn _ _ _ c.args.walk.now c.on-in-Nest.new.self c.args.frame c.in-Nest.n c.in-Nest.a c.node.ensures.is_graph c.requires.walk (told_as _ c.args.frame.node _ _ c.in-Nest.is c.node.ensures.told) c.requires.nothing c.min.result c.min.ensures done) c.on-in-Nest.ensures.gone

pub returns-in-Align-clause-turned : goal.returns-in-Align-clause-turned
returns-in-Align-clause-turned g c = on_ok_weaker c.on-in-Align.result (λ done. align_turn _ _ _ c.args.walk.now c.on-in-Align.new.self c.args.frame c.in-Align.a c.node.ensures.is_graph c.requires.walk (told_as _ c.args.frame.node _ _ c.in-Align.is c.node.ensures.told) c.requires.nothing done) c.on-in-Align.ensures.gone

pub returns-in-Reset-clause-turned : goal.returns-in-Reset-clause-turned
returns-in-Reset-clause-turned g c = on_ok_weaker c.on-in-Reset.result (λ done. reset_turn _ _ _ c.args.walk.now c.on-in-Reset.new.self c.args.frame c.in-Reset.a c.node.ensures.is_graph c.requires.walk (told_as _ c.args.frame.node _ _ c.in-Reset.is c.node.ensures.told) c.requires.nothing done) c.on-in-Reset.ensures.gone

pub returns-in-Choice-clause-turned : goal.returns-in-Choice-clause-turned
returns-in-Choice-clause-turned g c = on_ok_weaker c.side.result (λ done. choice_turn _ _ _ c.args.walk.now c.side.new.self c.args.frame c.in-Choice.a _ c.node.ensures.is_graph c.requires.walk c.requires.frame (told_as _ c.args.frame.node _ _ c.in-Choice.is c.node.ensures.told) c.requires.nothing done) c.side.ensures.taken

pub returns-in-Choice-clause-too_long : goal.returns-in-Choice-clause-too_long
returns-in-Choice-clause-too_long g c = λ e. too_heavy _ _ _ c.args.walk.now c.args.frame _ 1 (choice_is _ _ _ c.args.frame c.args.walk.now.column c.in-Choice.a _ c.node.ensures.is_graph (told_as _ c.args.frame.node _ _ c.in-Choice.is c.node.ensures.told) c.requires.nothing) (omega arith) (c.side.ensures.too_long e)

pub returns-in-Only-clause-turned : goal.returns-in-Only-clause-turned
returns-in-Only-clause-turned g c = on_ok_weaker c.side-in-Only.result (λ done. only_turn _ _ _ c.args.walk.now c.side-in-Only.new.self c.args.frame c.in-Only.dir c.in-Only.a c.node.ensures.is_graph c.requires.walk c.requires.frame (told_as _ c.args.frame.node _ _ c.in-Only.is c.node.ensures.told) c.requires.nothing done) c.side-in-Only.ensures.taken

pub returns-in-Only-clause-too_long : goal.returns-in-Only-clause-too_long
returns-in-Only-clause-too_long g c = λ e. too_heavy _ _ _ c.args.walk.now c.args.frame _ 1 (only_is _ _ _ c.args.frame c.args.walk.now.column c.in-Only.dir c.in-Only.a c.node.ensures.is_graph (told_as _ c.args.frame.node _ _ c.in-Only.is c.node.ensures.told) c.requires.nothing) (omega arith) (c.side-in-Only.ensures.too_long e)

pub returns-in-Charge-clause-turned : goal.returns-in-Charge-clause-turned
returns-in-Charge-clause-turned g c = on_ok_weaker c.on-in-Charge.result (λ done. charge_turn _ _ _ c.args.walk.now c.on-in-Charge.new.self c.args.frame _ c.in-Charge.a c.node.ensures.is_graph c.requires.walk c.requires.frame (told_as _ c.args.frame.node _ _ c.in-Charge.is c.node.ensures.told) c.requires.nothing done) c.on-in-Charge.ensures.gone
