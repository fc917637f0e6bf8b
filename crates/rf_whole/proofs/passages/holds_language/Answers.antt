-- Where the bytes aren't found, the characters don't stand there.
use Rattle.rf_whole.proofs.Missed.{language_free, second_case}
use Rattle.rf_whole.proofs.passages.holds_language.Goals as goal

pub returns : goal.returns
returns c lacks =
    language_free c.args.text.now c.utf8.text (second_case _ _ c.contains.result c.contains.ensures.cases lacks)
