-- What has no layout or is never on one line doesn't have one, or isn't, either with more behind it.
use Rattle.std.proofs.Common.{sym, subst}
use Rattle.rf_base_document.specs.Document.{Concat}
use Rattle.rf_outline.specs.declared.facts.Line.{Line}
use Rattle.rf_outline.specs.Parts.{LineOfBoth}
use Rattle.rf_outline.proofs.Concats.{nothing_before}
use Rattle.rf_outline.proofs.lines.concat_line.Goals as goal

pub returns-in-Nothing-clause-line : goal.returns-in-Nothing-clause-line
returns-in-Nothing-clause-line c = nothing_before c.args.hows.now c.args.hows.now c.args.a c.args.b c.in-Nothing.is

pub returns-in-Never-clause-line : goal.returns-in-Never-clause-line
returns-in-Never-clause-line c =
    subst (λ (l : Line). LineOfBoth Concat c.args.hows.now c.args.hows.now l c.args.b c.behind_never.result) (sym c.in-Never.is) (c.behind_never.ensures c.args.hows.now c.args.hows.now)

pub returns-in-Unsure-clause-line : goal.returns-in-Unsure-clause-line
returns-in-Unsure-clause-line c = λ d e flat p q. c.behind_unsure.ensures c.args.hows.now c.args.hows.now d e flat tt q
