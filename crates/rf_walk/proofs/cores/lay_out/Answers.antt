-- A core has a layout by all choices that pick a resolution of it.
use Rattle.std.proofs.Common.{ℕ, sym, subst}
use Rattle.std.proofs.lemmas.Result.{IfOk-weaker}
use Rattle.rf_base_document.specs.Document.{Doc}
use Rattle.rf_base_document.specs.Picks.{Picks}
use Rattle.rf_base_document.specs.TooLong.{IsTooLong}
use Rattle.rf_base_document.specs.Graph.{unfolded}
use Rattle.rf_walk.specs.LaidOut.{IsLaidOn}
use Rattle.rf_walk.proofs.Ends.{RootLaidOut, core_laid_out, as_unfolded}
use Rattle.rf_walk.proofs.cores.lay_out.Goals as goal

pub lay_out_nodes-requires-clause-picked : goal.lay_out_nodes-requires-clause-picked
lay_out_nodes-requires-clause-picked g c =
    subst (λ (n : ℕ). RootLaidOut (unfolded c.args.core.now.nodes n) c.args.choices.now) (sym c.root.ensures.root)
    (core_laid_out c.args.core.now.nodes c.args.core.now.root c.args.choices.now c.root.ensures.is_graph c.root.ensures.is_core c.requires.picked)

pub returns-clause-laid : goal.returns-clause-laid
returns-clause-laid g c =
    IfOk-weaker c.lay_out_nodes.result _ _
    (λ _ laid. as_unfolded c.args.core.now.nodes c.args.core.now.root c.args.choices.now
    (λ e. IsLaidOn (g.P.Paper.holds c.args.paper.now c.lay_out_nodes.new.paper) e c.args.choices.now) c.root.ensures.is_graph
    (subst (λ (n : ℕ). (e : Doc) → Picks (unfolded c.args.core.now.nodes n) c.args.choices.now e
    → IsLaidOn (g.P.Paper.holds c.args.paper.now c.lay_out_nodes.new.paper) e c.args.choices.now) c.root.ensures.root laid))
    c.lay_out_nodes.ensures.laid

pub returns-clause-too_long : goal.returns-clause-too_long
returns-clause-too_long g c = λ long.
    as_unfolded c.args.core.now.nodes c.args.core.now.root c.args.choices.now (λ e. IsTooLong e c.args.choices.now) c.root.ensures.is_graph
    (subst (λ (n : ℕ). (e : Doc) → Picks (unfolded c.args.core.now.nodes n) c.args.choices.now e → IsTooLong e c.args.choices.now)
    c.root.ensures.root (c.lay_out_nodes.ensures.too_long long))
