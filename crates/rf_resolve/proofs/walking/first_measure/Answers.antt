-- The first measure of the frontier that was filled.
use Rattle.std.proofs.Common.{sym, ◌∙◌, ap}
use Rattle.std.specs.Option.{option_copied}
use Rattle.rf_base_optimum.proofs.Frontier.{plain_past}
use Rattle.rf_resolve.proofs.Parts.{held_at}
use Rattle.rf_resolve.proofs.Firsts.{first_at}
use Rattle.rf_resolve.proofs.walking.first_measure.Goals as goal

pub returns-then-column-setting-clause-first : goal.returns-then-column-setting-clause-first
returns-then-column-setting-clause-first g c = plain_past _ c.args.setting.now.limit _ c.args.column c.args.frame.indentation c.if-column-setting.true

pub returns-clause-first : goal.returns-clause-first
returns-clause-first g c =
    first_at _ _ _ _ (record { node = c.args.frame.node; column = c.args.column; indentation = c.args.frame.indentation }) c.in-Some.found.now c.measures.result.now c.head.result c.measures.ensures
    (held_at _ _ _ _ c.fill.new.memo (record { node = c.args.frame.node; column = c.args.column; indentation = c.args.frame.indentation }) c.in-Some.found.now c.in_ok-fill.ensures.holds
    (sym c.get.ensures ∙ ap option_copied c.in-Some.is))
    c.head.ensures
