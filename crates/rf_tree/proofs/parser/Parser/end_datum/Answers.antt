-- A datum stands on its level, or completes a skip.
use Rattle.std.proofs.Common.{refl}
use Rattle.std.proofs.lemmas.Result.{on_ok_weaker}
use Rattle.rf_tree.proofs.Carrying.{end_plain, end_skip}
use Rattle.rf_tree.proofs.parser.Parser.end_datum.Goals as goal

pub returns-in-None : goal.returns-in-None
returns-in-None c =
    on_ok_weaker c.add_datum.result
    (λ gains not_prefix ts move k.
    end_plain ts c.args.self.now c.pop_skip.new.self _ c.args.at move k not_prefix c.in-None.ensures.1 c.in-None.ensures.0 gains refl refl)
    c.add_datum.ensures

pub returns-in-Some : goal.returns-in-Some
returns-in-Some c =
    on_ok_weaker c.comment_out.result
    (λ out not_prefix ts move k.
    end_skip ts c.args.self.now c.pop_skip.new.self c.comment_out.new.self c.in-Some.skip c.args.at move k c.in-Some.ensures.0 c.in-Some.ensures.1 out)
    c.comment_out.ensures
