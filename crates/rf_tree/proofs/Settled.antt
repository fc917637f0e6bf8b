-- Items of tokens are settled as the tokens are.
use Rattle.std.proofs.Common.{◌≡◌, ℕ, Bool, List, [], ◌∷◌, map, refl, ap}
use Rattle.rf_base_grammar.specs.Token.{Token, item_of, opens, settled}
use Rattle.rf_base_grammar.specs.declared.items.Item.{Item}
use Rattle.rf_tree.specs.Settled.{settled_item, settled_items}

pub settled_items-map : (bare : Bool) (most : ℕ) (ts : List Token) → settled_items bare most (map item_of ts) ≡ map item_of (settled bare most ts)
settled_items-map bare most [] = refl
settled_items-map bare most (t ∷ ts) = ap (λ (items : List Item). settled_item bare most (item_of t) ∷ items) (settled_items-map (opens t.kind) most ts)
