-- A fault of reading stops the run.
use Rattle.std.proofs.lemmas.Result.{err_from_is_err_and}
use Rattle.rf_top.proofs.Replies.{read_stopped}
use Rattle.rf_top.proofs.asking.source_asked.Goals as goal

pub returns-in_err-read_all-in-None-clause-stopped : goal.returns-in_err-read_all-in-None-clause-stopped
returns-in_err-read_all-in-None-clause-stopped g c =
    let p = err_from_is_err_and c.from_residual.result c.from_residual.ensures.1 in
    rw (p.1, p.2)
    (λ style source asked.
    read_stopped style c.read_all.result (g.S.Source.left c.args.input.now) source c.in_err-read_all-in-None.field-0.0 c.in_err-read_all-in-None.was (rw c.in-None.is at asked) c.read_all.ensures.long)
