-- The characters of a space are one space.
use Rattle.std.proofs.Common.{Bool, OnOk, IsErrOf, sym, subst, arith}
use Rattle.std.specs.Str.{chars}
use Rattle.rf_walk.specs.declared.faults.LayoutError.TheVariants.{TooLong}
use Rattle.rf_walk.specs.Papers.{Gains, Passes}
use Rattle.rf_walk.specs.Walked.{newline_piece}
use Rattle.rf_walk.proofs.walking.put_newline.Goals as goal

pub word-requires-clause-columns : goal.word-requires-clause-columns
unfolding chars
word-requires-clause-columns g c = omega arith

pub returns-then-flat-clause-put : goal.returns-then-flat-clause-put
unfolding chars
returns-then-flat-clause-put g c =
    subst (λ (b : Bool). OnOk c.word.result (Gains g.P.Paper.holds c.args.paper.now c.word.new.self (newline_piece b c.args.indentation) 1))
    (sym c.if-flat.true) c.word.ensures.put

pub returns-then-flat-clause-too_long : goal.returns-then-flat-clause-too_long
unfolding chars
returns-then-flat-clause-too_long g c =
    subst (λ (b : Bool). IsErrOf c.word.result TooLong → Passes g.P.Paper.holds c.args.paper.now (newline_piece b c.args.indentation) 1)
    (sym c.if-flat.true) c.word.ensures.too_long
