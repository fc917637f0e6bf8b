-- Items, of whatever tokens, with the blank lines that a layout keeps.
use Rattle.std.specs.Prelude.{ℕ, Bool, ◌||◌, if◌then◌else◌, min, List, [], ◌∷◌}
use Rattle.rf_base_grammar.specs.Token.{opens, closes}
use Rattle.rf_base_grammar.specs.declared.items.Item.{Item}

-- the item with the blank lines that are kept before it; bare says that none is kept behind the item before it
abbrev pub settled_item : Bool → ℕ → Item → Item
settled_item bare max item =
    record {
      kind = item.kind;
      start = item.start;
      end = item.end;
      blanks = if bare || closes item.kind then 0 else min item.blanks max;
      own_line = item.own_line;
    }

-- the items with at most max blank lines before each, and with none where no blank line is kept; bare says that none
-- is kept before the first one
abbrev pub settled_items : Bool → ℕ → List Item → List Item
settled_items bare max [] = []
settled_items bare max (item ∷ items) = settled_item bare max item ∷ settled_items (opens item.kind) max items
