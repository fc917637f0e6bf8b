-- The ways that are made for the document where it isn't flat keep what was told.
use Rattle.rf_base_document.specs.Document.{Choice}
use Rattle.rf_frontier.proofs.Ways.{keeps_then}
use Rattle.rf_outline.proofs.Holds.{in_kept, known_of_both}
use Rattle.rf_outline.proofs.kinds.choice.Goals as goal

pub choice_facts-requires-2-clause-first : goal.choice_facts-requires-2-clause-first
choice_facts-requires-2-clause-first c = in_kept c.args.hows.now _ c.args.a.flat.line c.in_ok-loose.ensures.older c.requires.first.1

pub choice_facts-requires-2-clause-second : goal.choice_facts-requires-2-clause-second
choice_facts-requires-2-clause-second c = in_kept c.args.hows.now _ c.args.b.flat.line c.in_ok-loose.ensures.older c.requires.second.1

pub returns-in_err-flat-clause-older : goal.returns-in_err-flat-clause-older
returns-in_err-flat-clause-older c = keeps_then c.args.hows.now _ _ c.in_ok-loose.ensures.older c.choice_facts-2.ensures.older

pub returns-clause-known : goal.returns-clause-known
returns-clause-known c =
    known_of_both Choice c.args.hows.now _ _ c.args.a c.args.b c.in_ok-loose.loose c.in_ok-flat.flat c.in_ok-loose.ensures.older c.in_ok-flat.ensures.older c.in_ok-loose.ensures.facts c.in_ok-flat.ensures.facts

pub returns-clause-older : goal.returns-clause-older
returns-clause-older c = keeps_then c.args.hows.now _ _ c.in_ok-loose.ensures.older c.in_ok-flat.ensures.older
