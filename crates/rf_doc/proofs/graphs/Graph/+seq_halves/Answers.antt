-- The halves stand for their sequences, so their concatenation for the whole.
use Rattle.std.proofs.Common.{length, arith}
use Rattle.std.specs.Str.{chars}
use Rattle.std.proofs.lemmas.Result.{IfOk-weaker}
use Rattle.rf_doc.proofs.Extending.{extends_longer}
use Rattle.rf_doc.proofs.Sequence.{no_part_stands, one_part_stands, halves_stand, half_up_is, take_below, drop_below, All-below, joints_of_halves}
use Rattle.rf_doc.proofs.graphs.Graph.+seq_halves.Goals as goal

pub text-requires-clause-one_line : goal.text-requires-clause-one_line
unfolding chars
text-requires-clause-one_line t c = λ found. omega (arith, found.1)

pub seq_halves-requires : goal.seq_halves-requires
seq_halves-requires t c = (omega arith, take_below _ _ _ _ c.split_at.ensures.front c.requires)

pub seq_halves-requires-in_default : goal.seq_halves-requires-in_default
seq_halves-requires-in_default t c =
    (omega arith, All-below _ _ _ (extends_longer _ _ c.in_ok-a-in_default.ensures.added_at_end) (drop_below _ _ _ _ c.split_at.ensures.back c.requires))

pub returns-in-empty-clause-document : goal.returns-in-empty-clause-document
unfolding chars
returns-in-empty-clause-document t c =
    IfOk-weaker c.text.result _ _ (λ id stands. no_part_stands _ _ id.0 c.args.parts.now (omega arith) stands) c.text.ensures.document

pub returns-in-len1-clause-document : goal.returns-in-len1-clause-document
returns-in-len1-clause-document t c = one_part_stands _ c.args.parts.now _ (omega arith)

pub returns-in_ok-b-in_default-clause-document : goal.returns-in_ok-b-in_default-clause-document
returns-in_ok-b-in_default-clause-document t c =
    IfOk-weaker c.concat.result _ _
    (λ id join. halves_stand _ _ _ _ c.args.parts.now _ _ c.div_ceil.result c.in_ok-a-in_default.a.0 c.in_ok-b-in_default.b.0 id.0
    c.in_default.len_at_least (half_up_is _ _ c.div_ceil.ensures) c.split_at.ensures.front c.split_at.ensures.back
    c.in_ok-a-in_default.ensures.document c.in_ok-b-in_default.ensures.document
    c.in_ok-a-in_default.ensures.added_at_end c.in_ok-b-in_default.ensures.added_at_end join)
    c.concat.ensures.document

pub returns-in_ok-b-in_default-clause-few_more : goal.returns-in_ok-b-in_default-clause-few_more
returns-in_ok-b-in_default-clause-few_more t c =
    omega (
      arith,
      c.in_ok-a-in_default.ensures.few_more,
      c.in_ok-b-in_default.ensures.few_more,
      joints_of_halves (length c.split_at.result.0.now) (length c.split_at.result.1.now) (length c.args.parts.now) (omega arith) (omega arith) (omega arith),
    )
