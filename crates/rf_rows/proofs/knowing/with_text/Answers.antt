-- What has no layout or never is on one line stays so, and a length grows by the columns.
use Rattle.std.proofs.Common.{subst, arith}
use Rattle.rf_outline.specs.declared.facts.Line.{Line}
use Rattle.rf_outline.specs.Known.{LineHolds}
use Rattle.rf_rows.proofs.Learning.{text_behind_none, text_behind, long_behind}
use Rattle.rf_rows.proofs.knowing.with_text.Goals as goal

pub returns-in-Nothing : goal.returns-in-Nothing
returns-in-Nothing c = λ ways s d flat h. text_behind_none ways s d c.args.columns flat c.args.line c.in-Nothing.is h

pub returns-in-Some : goal.returns-in-Some
returns-in-Some c = λ ways s d flat h.
    long_behind ways c.in-Long.len c.args.columns c.in-Some.sum c.in-Long.how s d flat (omega (arith, c.in-Some.ensures)) (subst (λ (l : Line). LineHolds ways d flat l) c.in-Long.is h)

pub returns-in-Some-checked_add : goal.returns-in-Some-checked_add
returns-in-Some-checked_add c = λ ways s d flat h.
    text_behind ways c.in-Text.len c.args.columns c.in-Some-checked_add.sum c.in-Text.how s d flat (omega (arith, c.in-Some-checked_add.ensures)) (subst (λ (l : Line). LineHolds ways d flat l) c.in-Text.is h)
