-- Both parts are cut at the same byte.
use Rattle.std.proofs.Common.{rules, ◌++◌, sym, ap, ◌∙◌}
use Rattle.std.proofs.lemmas.List.{append-nil}
use Rattle.std.proofs.lemmas.Str.{chars-nil}
use Rattle.std.specs.Str.{chars}
use Rattle.rf_whole.proofs.Cutting.{cut_chars}
use Rattle.rf_whole.proofs.cuts.cut_at.Goals as goal

pub returns-in-Some-Some-clause-whole : goal.returns-in-Some-Some-clause-whole
returns-in-Some-Some-clause-whole c =
    let found = c.in-Some-Some in
    cut_chars c.args.text.now found.front.now found.rest.now c.args.at (search rules)
    found.ensures.cases.0 found.ensures'.cases.0

pub returns-in_default-clause-whole : goal.returns-in_default-clause-whole
returns-in_default-clause-whole c =
    sym (ap (λ xs. chars c.args.text.now ++ xs) chars-nil ∙ append-nil (chars c.args.text.now))
