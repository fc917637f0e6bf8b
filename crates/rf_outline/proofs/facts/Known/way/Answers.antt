-- What is known of the line holds.
use Rattle.std.proofs.Common.{subst}
use Rattle.rf_outline.specs.declared.facts.Facts.{Facts}
use Rattle.rf_outline.specs.Documents.{IsWayOf}
use Rattle.rf_outline.specs.Known.{FactsHold}
use Rattle.rf_outline.specs.Outlined.{span_of}
use Rattle.rf_outline.proofs.facts.Known.way.Goals as goal

pub returns : goal.returns
returns c = λ d is_flat.
    subst (λ (f : Facts). FactsHold c.args.hows.now d is_flat f → IsWayOf c.args.hows.now d is_flat (span_of f.line) c.way.result) c.facts_of.ensures
    (λ h. c.way.ensures d is_flat h.0)
