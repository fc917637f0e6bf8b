-- What begins a datum.
use Rattle.std.proofs.Common.{sym, ◌∙◌}
use Rattle.std.proofs.lemmas.Result.{on_ok_weaker, IfErr-weaker}
use Rattle.rf_base_tree.specs.Moves.{datum_may_stand, begin}
use Rattle.rf_tree.specs.Parsing.{frame_of}
use Rattle.rf_tree.proofs.Steps.{goes_unless, halts_unless, begin_follows, too_deep_halts}
use Rattle.rf_tree.proofs.parser.Parser.begin_datum.Goals as goal

pub returns-clause-goes_on : goal.returns-clause-goes_on
returns-clause-goes_on c =
    on_ok_weaker c.begin.result
    (λ begins ts frames here stands is.
    goes_unless ts c.begin.new.self c.args.number (datum_may_stand frames here) (begin (frame_of c.args.what c.args.number here) c.args.number frames)
    (sym (c.takes_datum.ensures ts frames here stands) ∙ c.if-not-takes_datum.false)
    (begin_follows ts c.args.number c.args.start c.args.what c.args.self.now c.begin.new.self frames here stands is begins))
    c.begin.ensures.goes_on

pub returns-clause-refused : goal.returns-clause-refused
returns-clause-refused c =
    IfErr-weaker c.begin.result _ _
    (λ e deep ts frames here stands is.
    halts_unless ts e c.args.number (datum_may_stand frames here) (begin (frame_of c.args.what c.args.number here) c.args.number frames)
    (sym (c.takes_datum.ensures ts frames here stands) ∙ c.if-not-takes_datum.false)
    (too_deep_halts ts c.args.number c.args.start (frame_of c.args.what c.args.number here) c.args.self.now e frames here stands is.1 deep))
    c.begin.ensures.refused
