-- The same where the line is free.
use Rattle.std.proofs.Common.{[], ◌∷◌, refl, subst, arith}
use Rattle.rf_frontier.proofs.Ways.{keeps_then, keeps_length}
use Rattle.rf_outline.specs.declared.documents.Span.{Span}
use Rattle.rf_outline.specs.Documents.{IsWayOf}
use Rattle.rf_search.specs.Sought.{task}
use Rattle.rf_search.proofs.Told.{goes_on_by, sought_goes_on}
use Rattle.rf_search.proofs.Nodes.{line_found}
use Rattle.rf_search.proofs.Going.{before_goes_on, older_behind}
use Rattle.rf_search.proofs.at_once.line_at_once.Goals as goal

pub put_line-requires-clause-way : goal.put_line-requires-clause-way
put_line-requires-clause-way g c = omega (arith, c.requires.asked.1, keeps_length c.args.found.now.hows c.way.new.hows c.in_ok-how.ensures.older)

pub returns-clause-known : goal.returns-clause-known
returns-clause-known g c =
    let older = c.in_ok-how.ensures.older in
    let is = c.requires.told in
    let way = subst (λ (z : Span). IsWayOf c.way.new.hows ((task c.args.setting.now).documents.document c.args.place.now.node) c.args.place.now.flat z c.in_ok-how.how) is c.in_ok-how.ensures.way in
    older_behind (task c.args.setting.now) c.args.found.now.hows c.way.new.hows c.put_line.new.hows c.args.place.now.node c.args.place.now.flat c.args.place.now.indentation c.args.place.now.cut c.args.m.now (c.put_line.new.m ∷ []) older c.requires.asked.1
    (line_found (task c.args.setting.now) c.way.new.hows c.put_line.new.hows c.args.place.now.node c.args.place.now.flat c.args.place.now.indentation c.args.place.now.cut c.args.len c.in_ok-how.how c.args.m.now (c.put_line.new.m ∷ [])
    (sought_goes_on (task c.args.setting.now) c.args.found.now.hows c.way.new.hows older c.requires.holds.told)
    (before_goes_on (task c.args.setting.now) c.args.found.now.hows c.way.new.hows c.args.place.now.node c.args.m.now older c.requires.asked) way c.in_ok-put_line.ensures.belong c.requires.free c.requires.near c.in_ok-put_line.ensures.behind)

pub returns-clause-goes_on : goal.returns-clause-goes_on
returns-clause-goes_on g c =
    goes_on_by (task c.args.setting.now) c.args.found.now (record { hows = c.put_line.new.hows; newest = c.args.found.now.newest; rows = c.args.found.now.rows; several = c.args.found.now.several })
    (keeps_then c.args.found.now.hows c.way.new.hows c.put_line.new.hows c.in_ok-how.ensures.older c.in_ok-put_line.ensures.older) refl c.requires.holds
