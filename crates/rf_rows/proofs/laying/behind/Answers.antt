-- A front that was compared is the same.
use Rattle.std.proofs.lemmas.Slice.Eq.{strip_prefix_is}
use Rattle.std.proofs.Common.{refl}
use Rattle.rf_rows.proofs.Turns.{dirs_decide, if_some_of}
use Rattle.rf_rows.proofs.laying.behind.Goals as goal

pub returns : goal.returns
returns c = if_some_of c.strip_prefix.result _ _ (strip_prefix_is (dirs_decide _ refl refl refl refl) c.args.choices.now c.args.turns.now c.strip_prefix.result c.strip_prefix.ensures.cases)
