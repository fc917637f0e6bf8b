-- The walk begins with the root, and where no node is left all have taken their choices.
use Rattle.std.proofs.Common.{[], ◌∷◌, ap, ◌∙◌, arith}
use Rattle.std.proofs.lemmas.Grind.{common_steps}
use Rattle.rf_flat.proofs.Taking.{begins, ends, stops, stopped, no_fit, fit}
use Rattle.rf_flat.proofs.fitting.fits.Goals as goal

pub loop-n-init : goal.loop-n-init
loop-n-init c =
    let alone = rw c.new-stack.ensures.items at c.in_ok-push.ensures.items in
    let start = begins c.args.core.now.nodes c.args.core.now.root c.push.new.self.items c.args.choices.now
    (alone ∙ ap (λ n. n ∷ []) c.root.ensures.root) (omega (arith, c.root.ensures.root)) in
    record { nodes = start.0; same = start.1 }

pub returns-in-None : goal.returns-in-None
returns-in-None c = λ d stands.
    no_fit d c.args.choices.now (stops _ c.args.core.now.root c.args.choices.now c.root.ensures.is_graph
    (stopped _ _ _ c.loop-n.stack.items c.in-Some.n c.args.core.now.root _ c.loop-n.left.now _ c.in-None.is c.in-Some.ensures.items c.loop-n.invariant.same c.in_ok-rest.ensures) d stands)

pub returns : goal.returns
returns c = λ d stands.
    fit d c.args.choices.now c.loop-n.left.now c.is_empty.result
    (ends _ c.args.core.now.root c.loop-n.stack.items c.args.choices.now c.loop-n.left.now c.root.ensures.is_graph (grind (arith, common_steps)) c.loop-n.invariant.same d stands)
    c.is_empty.ensures
