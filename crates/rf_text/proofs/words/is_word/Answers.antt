-- The same bytes are the same characters.
use Rattle.std.proofs.Common.{◌∙◌}
use Rattle.rf_text.proofs.SameWords.{same_text}
use Rattle.rf_text.proofs.words.is_word.Goals as goal

pub returns : goal.returns
returns c = c.eq.ensures ∙ same_text c.args.text.now c.args.word.now c.utf8.text c.utf8.word
