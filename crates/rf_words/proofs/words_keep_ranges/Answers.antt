-- Number by number.
use Rattle.rf_words.proofs.Ranges.{words_keep_ranges}
use Rattle.rf_words.proofs.words_keep_ranges.Goals as goal

pub returns : goal.returns
returns c = words_keep_ranges
