-- What a node was told to be stands at its place.
use Rattle.std.proofs.Common.{◌≡◌, ℕ, List, Option, Some, slice_get, ap, ◌∙◌}
use Rattle.std.specs.Option.{option_map}
use Rattle.rf_tree.specs.Told.{Node, told_node}
use Rattle.rf_tree.specs.declared.nodes.Node.{Node as ToldNode}

pub told_at : (nodes : List Node) (at : ℕ) {n m : ToldNode} → slice_get nodes at ≡ Some (told_node n) → n ≡ m → slice_get nodes at ≡ Some (told_node m)
told_at nodes at found is = found ∙ ap (λ (k : ToldNode). Some (told_node k)) is

pub told_some : (nodes : List Node) (at : ℕ) {o : Option ToldNode} {n m : ToldNode} → slice_get nodes at ≡ option_map told_node o → o ≡ Some n → n ≡ m → slice_get nodes at ≡ Some (told_node m)
told_some nodes at found some is = found ∙ ap (λ (p : Option ToldNode). option_map told_node p) some ∙ ap (λ (k : ToldNode). Some (told_node k)) is
