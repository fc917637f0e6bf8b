-- The entry of the place, if there is one.
use Rattle.std.proofs.Common.{sym, ◌∙◌}
use Rattle.rf_memo.proofs.Entries.{missed_end, missed_entry, hit_entry}
use Rattle.rf_memo.proofs.page.found.Goals as goal

pub returns-then-at-entries : goal.returns-then-at-entries
returns-then-at-entries g c = missed_end c.args.entries.now c.place_of-at.result c.args.col c.args.indent c.requires c.place_of-at.ensures.before c.place_of-at.ensures.behind c.if-at-entries.true

pub returns-then-not-stands : goal.returns-then-not-stands
returns-then-not-stands g c =
    missed_entry c.args.entries.now c.place_of-at.result c.args.col c.args.indent c.index-entries-at.result c.requires c.place_of-at.ensures.before c.place_of-at.ensures.behind c.if-at-entries.false c.index-entries-at.is
    (sym c.stands.ensures ∙ c.if-not-stands.true)

pub returns : goal.returns
returns g c =
    hit_entry c.args.entries.now c.place_of-at.result c.args.col c.args.indent c.index-entries-at.result c.index-entries-at-2.result c.place_of-at.ensures.before c.if-at-entries.false c.index-entries-at.is
    (sym c.stands.ensures ∙ c.if-not-stands.false)
