-- The store has the text behind the older ones, and the graph that is seen has it at its end.
use Rattle.std.proofs.Common.{◌≡◌, List, [], ◌∷◌, ◌++◌, length, ap, ◌∙◌, arith}
use Rattle.std.specs.Str.{chars}
use Rattle.std.specs.String.{string_bytes}
use Rattle.std.proofs.lemmas.Grind.{common_steps}
use Rattle.rf_base_document.specs.Graph.{GraphNode, TextNode}
use Rattle.rf_doc.specs.declared.stored.Stored.{Stored}
use Rattle.rf_doc.specs.declared.stored.Stored.TheVariants.{Text}
use Rattle.rf_doc.specs.Nodes.{seen}
use Rattle.rf_doc.proofs.Seen.{text_limits, text_stands, is_graph_of, last_of, adds_one}
use Rattle.rf_doc.proofs.Store.{seen_text, each_text}
use Rattle.rf_doc.proofs.graphs.Graph.sized.Goals as goal

-- the stored nodes after the push, and where the text begins
stored : (c : goal.After-push_reserved) →
    c.push_reserved.new.self.items ≡ c.self.inside.nodes.items ++ Text c.in_ok-start.start (length c.args.s.now) c.args.len ∷ []
stored c =
    c.push_reserved.ensures.items
    ∙ ap (λ (l : List Stored). l ++ Text c.in_ok-start.start (length c.args.s.now) c.args.len ∷ []) c.in_ok-reserve.ensures.items

place : (c : goal.After-push_reserved) → c.in_ok-start.start ≡ length (string_bytes c.self.inside.texts)
place c = grind (arith, common_steps)

-- the nodes seen after the push, beside those seen before
over : (c : goal.After-push_reserved) →
    seen (string_bytes c.push_str.new.self) c.push_reserved.new.self.items
    ≡ seen (string_bytes c.self.inside.texts) c.self.inside.nodes.items ++ TextNode (chars c.args.s.now) c.args.len ∷ []
over c = seen_text _ c.args.s.now _ _ _ _ _ c.in_ok-push_str.ensures.bytes (stored c) (place c) c.self.invariant.1

after : (c : goal.After-push_reserved) →
    seen (string_bytes c.push_str.new.self) c.push_reserved.new.self.items
    ≡ c.args.self.now ++ TextNode (chars c.args.s.now) c.args.len ∷ []
after c = over c ∙ ap (λ (g : List GraphNode). g ++ TextNode (chars c.args.s.now) c.args.len ∷ []) c.self.view_is

pub invariant_of-self-2 : goal.invariant_of-self-2
invariant_of-self-2 c = (
  is_graph_of _ _ _ (over c) c.self.invariant.0 (omega arith) (text_limits _ _ c.requires.columns c.requires.one_line),
  each_text _ c.args.s.now _ _ _ _ _ c.in_ok-push_str.ensures.bytes (stored c) (place c) c.utf8.s c.self.invariant.1,
)

pub returns-clause-document : goal.returns-clause-document
returns-clause-document c =
    text_stands _ _ _ _ (last_of c.args.self.now _ _ c.len.result (after c) (grind (arith, common_steps)))

pub returns-clause-added : goal.returns-clause-added
returns-clause-added c = adds_one _ _ _ _ (after c) (grind (arith, common_steps))
