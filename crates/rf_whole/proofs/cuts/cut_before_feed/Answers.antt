-- Where nothing is cut, nothing stands behind the text.
use Rattle.std.proofs.Common.{◌++◌, inl, sym, ap, ◌∙◌}
use Rattle.std.proofs.lemmas.List.{append-nil}
use Rattle.std.proofs.lemmas.Str.{chars-nil}
use Rattle.std.specs.Str.{chars}
use Rattle.rf_whole.proofs.cuts.cut_before_feed.Goals as goal

pub returns-else-feeds-clause-whole : goal.returns-else-feeds-clause-whole
returns-else-feeds-clause-whole c =
    sym (ap (λ xs. chars c.args.text.now ++ xs) chars-nil ∙ append-nil (chars c.args.text.now))

pub returns-else-feeds-clause-feeds : goal.returns-else-feeds-clause-feeds
returns-else-feeds-clause-feeds c = inl chars-nil
