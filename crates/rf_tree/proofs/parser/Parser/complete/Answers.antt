-- A datum completes the prefixes on top, and what stands below them.
use Rattle.std.proofs.Common.{List, subst, sym}
use Rattle.std.proofs.lemmas.Result.{on_ok_weaker}
use Rattle.rf_tree.specs.Parsing.{IsNotTop}
use Rattle.rf_tree.specs.declared.parser.Begun.{Begun}
use Rattle.rf_tree.specs.declared.parser.Opened.TheVariants.{Prefix}
use Rattle.rf_tree.proofs.Carrying.{Carries-prefix, Carries-same, match_none}
use Rattle.rf_tree.proofs.parser.Parser.complete.Goals as goal

pub loop-begun-preserved : goal.loop-begun-preserved
loop-begun-preserved c =
    λ ts move k.
    Carries-prefix ts c.loop-begun.self c.pop_prefix.new.self c.wrap.new.self c.in-Some.begun c.loop-begun.at c.in_ok-at.at move (c.loop-begun.invariant ts move k) c.in-Some.ensures.0 c.in-Some.ensures.1 c.in_ok-at.ensures.0 c.in_ok-at.ensures.1

pub returns : goal.returns
returns c =
    let same = match_none c.pop_prefix.result _ _ c.pop_prefix.ensures c.in_default.not-Some in
    let not_prefix = subst (λ (bs : List Begun). IsNotTop Prefix bs) (sym same.0.begun) same.1 in
    on_ok_weaker c.end_datum.result
    (λ ends ts move k.
    ends not_prefix ts move
    (Carries-same ts c.loop-begun.self c.pop_prefix.new.self c.loop-begun.at move same.0 (c.loop-begun.invariant ts move k)))
    c.end_datum.ensures
