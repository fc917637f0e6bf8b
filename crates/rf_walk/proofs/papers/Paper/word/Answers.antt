-- A text is a line of one word.
use Rattle.std.specs.Str.{chars}
use Rattle.std.proofs.lemmas.Result.{on_ok_weaker}
use Rattle.rf_base_document.specs.Render.{column_after}
use Rattle.rf_walk.proofs.OneWord.{one_word}
use Rattle.rf_walk.proofs.papers.Paper.word.Goals as goal

pub returns-clause-put : goal.returns-clause-put
returns-clause-put g c =
    on_ok_weaker c.line.result
    (λ gains blank pieces weight held.
    gains blank pieces weight held _ (one_word (column_after 0 pieces) (chars c.args.s.now) c.args.len)) c.line.ensures.put

pub returns-clause-too_long : goal.returns-clause-too_long
returns-clause-too_long g c = λ long blank pieces weight held.
    c.line.ensures.too_long long blank pieces weight held _ (one_word (column_after 0 pieces) (chars c.args.s.now) c.args.len)
