-- Each turn writes a block, and the rest is part of one.
use Rattle.std.proofs.Common.{◌≡◌, length, arith}
use Rattle.std.proofs.lemmas.Result.{on_ok_weaker}
use Rattle.rf_render.proofs.Spaces.{spaces_length, spaces_boundary, block_written, all_written, on_ok_of}
use Rattle.rf_render.proofs.breaks.push_spaces.Goals as goal

pub loop-left-preserved : goal.loop-left-preserved
loop-left-preserved c = record {
  some = omega arith;
  written = block_written _ _ _ _ c.args.count c.loop-left.left c.block_of_spaces-block.ensures c.loop-left.invariant.some c.loop-left-test.true
      c.loop-left.invariant.written c.in_ok-push_str.ensures.bytes;
}

pub range-requires-clause-end_boundary : goal.range-requires-clause-end_boundary
range-requires-clause-end_boundary c =
    let size : length c.block_of_spaces-block.result.now ≡ 64 = spaces_length _ 64 c.block_of_spaces-block.ensures in
    spaces_boundary _ 64 c.loop-left.left c.block_of_spaces-block.ensures (omega arith)

pub returns : goal.returns
returns c =
    on_ok_weaker c.push_str-2.result
    (all_written _ _ _ _ c.range.result.now c.args.count c.loop-left.left c.block_of_spaces-block.ensures c.loop-left.invariant.some
    c.loop-left-test.false c.loop-left.invariant.written c.range.ensures.value)
    (on_ok_of c.push_str-2.result _ _ _ c.push_str-2.ensures.bytes)
