-- Blank lines, and a line break behind them.
use Rattle.std.proofs.Common.{[], ◌∷◌, replicate, arith}
use Rattle.rf_base_document.specs.Document.{Hard}
use Rattle.rf_base_file.specs.Rows.{bare_break}
use Rattle.rf_rows.proofs.Stacks.{on_ok}
use Rattle.rf_slot_rows.proofs.Putting.{fills_both}
use Rattle.rf_slot_rows.proofs.gaps.put_hard.Goals as goal

pub returns-clause-put : goal.returns-clause-put
returns-clause-put c =
    on_ok c.hard.result _ _
    (λ put. fills_both c.args.rows.now c.put_blanks.new.rows c.hard.new.self (λ f. replicate c.args.blanks bare_break) (λ f. Hard ∷ [])
    c.in_ok-put_blanks.ensures.put put)
    c.hard.ensures.put

pub returns-clause-grown : goal.returns-clause-grown
returns-clause-grown c =
    on_ok c.hard.result _ _ (λ grown. omega (arith, c.in_ok-put_blanks.ensures.grown, grown)) c.hard.ensures.grown
