-- The walk begins with the root, and where no frame is left the paper holds its layout.
use Rattle.std.proofs.Common.{List, subst, arith}
use Rattle.std.proofs.lemmas.Grind.{common_steps}
use Rattle.std.proofs.lemmas.Result.{err_from_is_err_and}
use Rattle.rf_walk.specs.declared.walking.Frame.{Frame}
use Rattle.rf_walk.specs.Walked.{CanGoOn}
use Rattle.rf_walk.proofs.Ends.{root_ends, begins, laid_out, too_long}
use Rattle.rf_walk.proofs.walking.lay_out_nodes.Goals as goal

pub loop-frame-init : goal.loop-frame-init
loop-frame-init g c =
    let alone = rw c.new-stack.ensures.items at c.in_ok-push.ensures.items in
    let all = root_ends (g.N.Nodes.document c.args.nodes.now c.args.root) c.args.choices.now c.requires.picked in (
      all.0,
      begins (g.P.Paper.holds c.args.paper.now c.args.paper.now) (g.N.Nodes.document c.args.nodes.now) c.args.root _ _ c.args.choices.now all.0 alone c.frame_at.ensures.node c.frame_at.ensures.indentation
          c.frame_at.ensures.flat c.requires.blank all.1,
      all.1,
    )

pub returns-in_err-left-clause-too_long : goal.returns-in_err-left-clause-too_long
returns-in_err-left-clause-too_long g c = λ long.
    let p = err_from_is_err_and c.from_residual-in_err-left.result c.from_residual-in_err-left.ensures.1 in
    let can = subst (λ (l : List (Frame _)). CanGoOn (g.P.Paper.holds c.args.paper.now c.loop-frame.paper) (g.N.Nodes.document c.args.nodes.now) l c.loop-frame.left.now c.loop-frame.invariant.0) c.in-Some.ensures.items c.loop-frame.invariant.1 in
    too_long (g.N.Nodes.document c.args.nodes.now c.args.root) c.args.choices.now c.loop-frame.invariant.0 c.requires.picked c.loop-frame.invariant.2
    (c.in_err-left.ensures.too_long (cc) c.args.paper.now c.loop-frame.invariant.0 can)

pub returns-clause-laid : goal.returns-clause-laid
returns-clause-laid g c =
    laid_out (g.P.Paper.holds c.args.paper.now c.loop-frame.paper) (g.N.Nodes.document c.args.nodes.now) c.args.root c.loop-frame.stack.items c.args.choices.now c.loop-frame.left.now c.loop-frame.invariant.0
    c.requires.picked (g.met.P.Paper.within c.args.paper.now c.loop-frame.paper) (grind (arith, common_steps)) c.loop-frame.invariant.1 c.loop-frame.invariant.2
