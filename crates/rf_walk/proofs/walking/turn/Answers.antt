-- A turn over a frame, by its node's kind.
use Rattle.std.proofs.Common.{◌∙◌, arith}
use Rattle.std.proofs.lemmas.Result.{err_from_is_err_and}
use Rattle.rf_flat.specs.Taken.{size_of}
use Rattle.rf_walk.proofs.Told.{told_as}
use Rattle.rf_walk.proofs.Frames.{leaf_fewer, fewer_of_one, fewer_of_two}
use Rattle.rf_walk.proofs.Steps.{text_limits, charge_limit, text_goes_on, text_too_long, newline_goes_on, newline_too_long, hard_goes_on, hard_too_long, concat_goes_on, nest_goes_on, align_goes_on, reset_goes_on, flatten_goes_on, charge_goes_on, choice_has_more, choice_goes_on, choice_too_long, choice_fewer, only_has_more, only_goes_on, only_too_long}
use Rattle.rf_walk.proofs.walking.turn.Goals as goal

pub word-requires-clause-columns : goal.word-requires-clause-columns
word-requires-clause-columns g c = text_limits _ _ c.in-Text.len (told_as _ _ _ _ c.in-Text.is c.kind.ensures.told) c.kind.ensures.limits

pub fee-requires-clause-charge : goal.fee-requires-clause-charge
fee-requires-clause-charge g c = charge_limit _ _ c.in-Charge.k (told_as _ _ _ _ c.in-Charge.is c.kind.ensures.told) c.kind.ensures.limits

pub returns-in_err-word-in-Text-clause-too_long : goal.returns-in_err-word-in-Text-clause-too_long
returns-in_err-word-in-Text-clause-too_long g c = λ long blank.
    let p = err_from_is_err_and c.from_residual.result c.from_residual.ensures.1 in
    text_too_long (g.P.Paper.holds blank c.args.paper.now) _ c.args.stack.now.items c.args.frame c.args.choices.now c.in-Text.len _ (told_as _ _ _ _ c.in-Text.is c.kind.ensures.told)
    (c.in_err-word-in-Text.ensures.too_long (cc) blank)

pub returns-in_err-put_newline-in-Newline-clause-too_long : goal.returns-in_err-put_newline-in-Newline-clause-too_long
returns-in_err-put_newline-in-Newline-clause-too_long g c = λ long blank.
    let p = err_from_is_err_and c.from_residual-in_err-put_newline-in-Newline.result c.from_residual-in_err-put_newline-in-Newline.ensures.1 in
    newline_too_long (g.P.Paper.holds blank c.args.paper.now) _ c.args.stack.now.items c.args.frame c.args.choices.now (told_as _ _ _ _ c.in-Newline.is c.kind.ensures.told)
    (c.in_err-put_newline-in-Newline.ensures.too_long (cc) blank)

pub returns-in_err-line_break-in-Hard-clause-too_long : goal.returns-in_err-line_break-in-Hard-clause-too_long
returns-in_err-line_break-in-Hard-clause-too_long g c = λ long blank.
    let p = err_from_is_err_and c.from_residual-in_err-line_break-in-Hard.result c.from_residual-in_err-line_break-in-Hard.ensures.1 in
    hard_too_long (g.P.Paper.holds blank c.args.paper.now) _ c.args.stack.now.items c.args.frame c.args.choices.now (told_as _ _ _ _ c.in-Hard.is c.kind.ensures.told)
    (c.in_err-line_break-in-Hard.ensures.too_long (cc) blank)

pub returns-in_err-put_side-in-Choice-clause-too_long : goal.returns-in_err-put_side-in-Choice-clause-too_long
returns-in_err-put_side-in-Choice-clause-too_long g c = λ long blank.
    let p = err_from_is_err_and c.from_residual-in_err-put_side-in-Choice.result c.from_residual-in_err-put_side-in-Choice.ensures.1 in
    choice_too_long (g.P.Paper.holds blank c.args.paper.now) _ c.args.stack.now.items c.args.frame c.in-Choice.a c.in-Choice.b c.args.choices.now _ c.first_choice-dir.result.0 (told_as _ _ _ _ c.in-Choice.is c.kind.ensures.told) c.first_choice-dir.ensures
    (c.in_err-put_side-in-Choice.ensures.too_long (cc) blank)

pub returns-in_err-put_side-in-Only-clause-too_long : goal.returns-in_err-put_side-in-Only-clause-too_long
returns-in_err-put_side-in-Only-clause-too_long g c = λ long blank.
    let p = err_from_is_err_and c.from_residual-in_err-put_side-in-Only.result c.from_residual-in_err-put_side-in-Only.ensures.1 in
    only_too_long (g.P.Paper.holds blank c.args.paper.now) _ c.args.stack.now.items c.args.frame c.in-Only.a c.args.choices.now _ c.in-Only.field-0 c.first_choice.result.0 (told_as _ _ _ _ c.in-Only.is c.kind.ensures.told) c.first_choice.ensures
    (c.in_err-put_side-in-Only.ensures.too_long (cc) blank)

pub first_choice-dir-requires : goal.first_choice-dir-requires
first_choice-dir-requires g c = choice_has_more (g.P.Paper.holds c.requires.0 c.args.paper.now) _ c.args.stack.now.items c.args.frame c.in-Choice.a c.in-Choice.b c.args.choices.now c.requires.1 (told_as _ _ _ _ c.in-Choice.is c.kind.ensures.told) c.requires.2

pub first_choice-requires : goal.first_choice-requires
first_choice-requires g c = only_has_more (g.P.Paper.holds c.requires.0 c.args.paper.now) _ c.args.stack.now.items c.args.frame c.in-Only.a c.args.choices.now c.in-Only.field-0 c.requires.1 (told_as _ _ _ _ c.in-Only.is c.kind.ensures.told) c.requires.2

pub returns-in_ok-word-in-Text-clause-goes_on : goal.returns-in_ok-word-in-Text-clause-goes_on
returns-in_ok-word-in-Text-clause-goes_on g c = λ blank.
    text_goes_on (g.P.Paper.holds blank c.args.paper.now) (g.P.Paper.holds blank c.word.new.self) _ c.args.stack.now.items c.args.frame c.args.choices.now c.in-Text.len _ (told_as _ _ _ _ c.in-Text.is c.kind.ensures.told) (c.in_ok-word-in-Text.ensures.put blank)

pub returns-in_ok-word-in-Text-clause-fewer : goal.returns-in_ok-word-in-Text-clause-fewer
unfolding size_of
returns-in_ok-word-in-Text-clause-fewer g c =
    leaf_fewer _ c.args.stack.now.items c.args.frame _ (told_as _ _ _ _ c.in-Text.is c.kind.ensures.told) (omega arith)

pub returns-in_ok-put_newline-in-Newline-clause-goes_on : goal.returns-in_ok-put_newline-in-Newline-clause-goes_on
returns-in_ok-put_newline-in-Newline-clause-goes_on g c = λ blank.
    newline_goes_on (g.P.Paper.holds blank c.args.paper.now) (g.P.Paper.holds blank c.put_newline.new.paper) _ c.args.stack.now.items c.args.frame c.args.choices.now (told_as _ _ _ _ c.in-Newline.is c.kind.ensures.told) (c.in_ok-put_newline-in-Newline.ensures.put blank)

pub returns-in_ok-put_newline-in-Newline-clause-fewer : goal.returns-in_ok-put_newline-in-Newline-clause-fewer
unfolding size_of
returns-in_ok-put_newline-in-Newline-clause-fewer g c =
    leaf_fewer _ c.args.stack.now.items c.args.frame _ (told_as _ _ _ _ c.in-Newline.is c.kind.ensures.told) (omega arith)

pub returns-in_ok-line_break-in-Hard-clause-goes_on : goal.returns-in_ok-line_break-in-Hard-clause-goes_on
returns-in_ok-line_break-in-Hard-clause-goes_on g c = λ blank.
    hard_goes_on (g.P.Paper.holds blank c.args.paper.now) (g.P.Paper.holds blank c.line_break.new.self) _ c.args.stack.now.items c.args.frame c.args.choices.now (told_as _ _ _ _ c.in-Hard.is c.kind.ensures.told) (c.in_ok-line_break-in-Hard.ensures.put blank)

pub returns-in_ok-line_break-in-Hard-clause-fewer : goal.returns-in_ok-line_break-in-Hard-clause-fewer
unfolding size_of
returns-in_ok-line_break-in-Hard-clause-fewer g c =
    leaf_fewer _ c.args.stack.now.items c.args.frame _ (told_as _ _ _ _ c.in-Hard.is c.kind.ensures.told) (omega arith)

pub returns-in_ok-push-in-Concat-2-clause-goes_on : goal.returns-in_ok-push-in-Concat-2-clause-goes_on
returns-in_ok-push-in-Concat-2-clause-goes_on g c = λ blank.
    concat_goes_on (g.P.Paper.holds blank c.args.paper.now) _ c.args.stack.now.items _ _ c.args.frame _ _ c.in-Concat.a c.in-Concat.b c.args.choices.now (told_as _ _ _ _ c.in-Concat.is c.kind.ensures.told)
    c.in_ok-push-in-Concat.ensures.items c.in_ok-push-in-Concat-2.ensures.items c.part-in-Concat.ensures.node c.part.ensures.node c.part-in-Concat.ensures.indentation c.part.ensures.indentation c.part-in-Concat.ensures.flat c.part.ensures.flat

pub returns-in_ok-push-in-Concat-2-clause-fewer : goal.returns-in_ok-push-in-Concat-2-clause-fewer
unfolding size_of
returns-in_ok-push-in-Concat-2-clause-fewer g c =
    fewer_of_two _ c.args.stack.now.items _ _ c.args.frame _ _ c.in-Concat.a c.in-Concat.b _ c.in_ok-push-in-Concat.ensures.items c.in_ok-push-in-Concat-2.ensures.items
    c.part-in-Concat.ensures.node c.part.ensures.node (told_as _ _ _ _ c.in-Concat.is c.kind.ensures.told) (omega arith)

pub returns-in_ok-push-in-Nest-clause-goes_on : goal.returns-in_ok-push-in-Nest-clause-goes_on
returns-in_ok-push-in-Nest-clause-goes_on g c = λ blank.
    nest_goes_on (g.P.Paper.holds blank c.args.paper.now) _ c.args.stack.now.items _ c.args.frame _ c.in-Nest.n c.in-Nest.a c.args.choices.now (told_as _ _ _ _ c.in-Nest.is c.kind.ensures.told)
    c.in_ok-push-in-Nest.ensures.items c.part-in-Nest.ensures.node (c.part-in-Nest.ensures.indentation ∙ c.deeper.ensures) c.part-in-Nest.ensures.flat

pub returns-in_ok-push-in-Nest-clause-fewer : goal.returns-in_ok-push-in-Nest-clause-fewer
unfolding size_of
returns-in_ok-push-in-Nest-clause-fewer g c =
    fewer_of_one _ c.args.stack.now.items _ c.args.frame _ c.in-Nest.a _ c.in_ok-push-in-Nest.ensures.items c.part-in-Nest.ensures.node (told_as _ _ _ _ c.in-Nest.is c.kind.ensures.told) (omega arith)

pub returns-in_ok-push-in-Align-clause-goes_on : goal.returns-in_ok-push-in-Align-clause-goes_on
returns-in_ok-push-in-Align-clause-goes_on g c = λ blank.
    align_goes_on (g.P.Paper.holds blank c.args.paper.now) _ c.args.stack.now.items _ c.args.frame _ c.in-Align.a c.column.result c.args.choices.now (told_as _ _ _ _ c.in-Align.is c.kind.ensures.told)
    c.in_ok-push-in-Align.ensures.items c.part-in-Align.ensures.node c.part-in-Align.ensures.indentation c.part-in-Align.ensures.flat (c.column.ensures blank)

pub returns-in_ok-push-in-Align-clause-fewer : goal.returns-in_ok-push-in-Align-clause-fewer
unfolding size_of
returns-in_ok-push-in-Align-clause-fewer g c =
    fewer_of_one _ c.args.stack.now.items _ c.args.frame _ c.in-Align.a _ c.in_ok-push-in-Align.ensures.items c.part-in-Align.ensures.node (told_as _ _ _ _ c.in-Align.is c.kind.ensures.told) (omega arith)

pub returns-in_ok-push-in-Reset-clause-goes_on : goal.returns-in_ok-push-in-Reset-clause-goes_on
returns-in_ok-push-in-Reset-clause-goes_on g c = λ blank.
    reset_goes_on (g.P.Paper.holds blank c.args.paper.now) _ c.args.stack.now.items _ c.args.frame _ c.in-Reset.a c.args.choices.now (told_as _ _ _ _ c.in-Reset.is c.kind.ensures.told)
    c.in_ok-push-in-Reset.ensures.items c.part-in-Reset.ensures.node c.part-in-Reset.ensures.indentation c.part-in-Reset.ensures.flat

pub returns-in_ok-push-in-Reset-clause-fewer : goal.returns-in_ok-push-in-Reset-clause-fewer
unfolding size_of
returns-in_ok-push-in-Reset-clause-fewer g c =
    fewer_of_one _ c.args.stack.now.items _ c.args.frame _ c.in-Reset.a _ c.in_ok-push-in-Reset.ensures.items c.part-in-Reset.ensures.node (told_as _ _ _ _ c.in-Reset.is c.kind.ensures.told) (omega arith)

pub returns-in_ok-push-in-Flatten-clause-goes_on : goal.returns-in_ok-push-in-Flatten-clause-goes_on
returns-in_ok-push-in-Flatten-clause-goes_on g c = λ blank.
    flatten_goes_on (g.P.Paper.holds blank c.args.paper.now) _ c.args.stack.now.items _ c.args.frame _ c.in-Flatten.a c.args.choices.now (told_as _ _ _ _ c.in-Flatten.is c.kind.ensures.told)
    c.in_ok-push-in-Flatten.ensures.items c.flat_part.ensures.node c.flat_part.ensures.indentation c.flat_part.ensures.flat

pub returns-in_ok-push-in-Flatten-clause-fewer : goal.returns-in_ok-push-in-Flatten-clause-fewer
unfolding size_of
returns-in_ok-push-in-Flatten-clause-fewer g c =
    fewer_of_one _ c.args.stack.now.items _ c.args.frame _ c.in-Flatten.a _ c.in_ok-push-in-Flatten.ensures.items c.flat_part.ensures.node (told_as _ _ _ _ c.in-Flatten.is c.kind.ensures.told) (omega arith)

pub returns-in_ok-push-in-Charge-clause-goes_on : goal.returns-in_ok-push-in-Charge-clause-goes_on
returns-in_ok-push-in-Charge-clause-goes_on g c = λ blank.
    charge_goes_on (g.P.Paper.holds blank c.args.paper.now) (g.P.Paper.holds blank c.fee.new.self) _ c.args.stack.now.items _ c.args.frame _ c.in-Charge.k c.in-Charge.a c.args.choices.now (told_as _ _ _ _ c.in-Charge.is c.kind.ensures.told)
    c.in_ok-push-in-Charge.ensures.items c.part-in-Charge.ensures.node c.part-in-Charge.ensures.indentation c.part-in-Charge.ensures.flat (c.fee.ensures blank)

pub returns-in_ok-push-in-Charge-clause-fewer : goal.returns-in_ok-push-in-Charge-clause-fewer
unfolding size_of
returns-in_ok-push-in-Charge-clause-fewer g c =
    fewer_of_one _ c.args.stack.now.items _ c.args.frame _ c.in-Charge.a _ c.in_ok-push-in-Charge.ensures.items c.part-in-Charge.ensures.node (told_as _ _ _ _ c.in-Charge.is c.kind.ensures.told) (omega arith)

pub returns-in_ok-put_side-in-Choice-clause-goes_on : goal.returns-in_ok-put_side-in-Choice-clause-goes_on
returns-in_ok-put_side-in-Choice-clause-goes_on g c = λ blank.
    choice_goes_on (g.P.Paper.holds blank c.args.paper.now) (g.P.Paper.holds blank c.put_side.new.paper) _ c.args.stack.now.items _ c.args.frame _ c.in-Choice.a c.in-Choice.b c.side-node.result c.args.choices.now _ c.first_choice-dir.result.0
    (told_as _ _ _ _ c.in-Choice.is c.kind.ensures.told) c.first_choice-dir.ensures c.side-node.ensures c.in_ok-put_side-in-Choice.ensures.put c.part-in-Choice.ensures.node c.part-in-Choice.ensures.indentation c.part-in-Choice.ensures.flat (c.in_ok-put_side-in-Choice.ensures.counted blank)

pub returns-in_ok-put_side-in-Choice-clause-fewer : goal.returns-in_ok-put_side-in-Choice-clause-fewer
returns-in_ok-put_side-in-Choice-clause-fewer g c =
    choice_fewer _ c.args.stack.now.items _ c.args.frame _ c.in-Choice.a c.in-Choice.b c.side-node.result c.first_choice-dir.result.0 (told_as _ _ _ _ c.in-Choice.is c.kind.ensures.told) c.side-node.ensures
    c.in_ok-put_side-in-Choice.ensures.put c.part-in-Choice.ensures.node

pub returns-in_ok-put_side-in-Only-clause-goes_on : goal.returns-in_ok-put_side-in-Only-clause-goes_on
returns-in_ok-put_side-in-Only-clause-goes_on g c = λ blank.
    only_goes_on (g.P.Paper.holds blank c.args.paper.now) (g.P.Paper.holds blank c.put_side-in-Only.new.paper) _ c.args.stack.now.items _ c.args.frame _ c.in-Only.a c.args.choices.now _ c.in-Only.field-0 c.first_choice.result.0
    (told_as _ _ _ _ c.in-Only.is c.kind.ensures.told) c.first_choice.ensures c.in_ok-put_side-in-Only.ensures.put c.part-in-Only.ensures.node c.part-in-Only.ensures.indentation c.part-in-Only.ensures.flat (c.in_ok-put_side-in-Only.ensures.counted blank)

pub returns-in_ok-put_side-in-Only-clause-fewer : goal.returns-in_ok-put_side-in-Only-clause-fewer
unfolding size_of
returns-in_ok-put_side-in-Only-clause-fewer g c =
    fewer_of_one _ c.args.stack.now.items _ c.args.frame _ c.in-Only.a _ c.in_ok-put_side-in-Only.ensures.put c.part-in-Only.ensures.node (told_as _ _ _ _ c.in-Only.is c.kind.ensures.told) (omega arith)
