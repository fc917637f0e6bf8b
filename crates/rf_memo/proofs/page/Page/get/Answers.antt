-- The value in place, or that of the others.
use Rattle.std.proofs.Common.{sym, ◌∙◌}
use Rattle.std.specs.Option.{option_copied}
use Rattle.rf_memo.proofs.Entries.{first_hit, others_at}
use Rattle.rf_memo.proofs.page.Page.get.Goals as goal

pub returns-then-stands : goal.returns-then-stands
returns-then-stands g c = first_hit c.self.inside.first c.self.inside.others.items c.args.self.now c.args.col c.args.indent c.self.view_is (sym c.stands.ensures ∙ c.if-stands.true)

pub returns : goal.returns
returns g c =
    others_at c.self.inside.first c.self.inside.others.items c.as_slice.result.now c.args.self.now c.args.col c.args.indent (option_copied c.found.result)
    c.self.view_is (sym c.stands.ensures ∙ c.if-stands.false) c.as_slice.ensures.value c.found.ensures
