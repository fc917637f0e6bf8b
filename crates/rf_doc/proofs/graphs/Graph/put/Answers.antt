-- The graph that is seen has the new node at its end.
use Rattle.std.proofs.Common.{◌≡◌, ◌≤◌, List, ◌∷◌, [], ◌++◌, length, subst, sym, ap, ◌∙◌, arith}
use Rattle.std.specs.String.{string_bytes}
use Rattle.std.proofs.lemmas.Grind.{common_steps}
use Rattle.rf_base_document.specs.Graph.{GraphNode, parts_end}
use Rattle.rf_doc.specs.Nodes.{stored_node, seen}
use Rattle.rf_doc.proofs.Seen.{seen_added, each_added, is_graph_of, last_of, adds_one}
use Rattle.rf_doc.proofs.graphs.Graph.put.Goals as goal

-- the nodes seen after the push
after : (c : goal.In_ok-push) → seen (string_bytes c.self.inside.texts) c.push.new.self.items ≡ c.args.self.now ++ stored_node [] c.args.node ∷ []
after c = seen_added _ _ _ _ c.requires.no_text c.in_ok-push.ensures.items ∙ ap (λ g. g ++ stored_node [] c.args.node ∷ []) c.self.view_is

pub invariant_of-self-2 : goal.invariant_of-self-2
invariant_of-self-2 c = (
  is_graph_of _ _ _ (seen_added _ _ _ _ c.requires.no_text c.in_ok-push.ensures.items) c.self.invariant.0
      (subst (λ (g : List GraphNode). parts_end (stored_node [] c.args.node) ≤ length g) (sym c.self.view_is) c.requires.parts)
      c.requires.limits,
  each_added _ _ _ _ c.requires.no_text c.in_ok-push.ensures.items c.self.invariant.1,
)

pub returns-clause-told : goal.returns-clause-told
returns-clause-told c = last_of c.args.self.now _ _ c.len.result (after c) (grind (arith, common_steps))

pub returns-clause-added : goal.returns-clause-added
returns-clause-added c = adds_one _ _ _ _ (after c) (grind (arith, common_steps))
