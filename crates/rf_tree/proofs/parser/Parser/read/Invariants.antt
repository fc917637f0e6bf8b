-- The parser is where the items so far lead to.
use Rattle.std.proofs.Common.{◌≡◌, ◌≤◌, ◌-◌, ℕ, List, length, map}
use Rattle.rf_base_grammar.specs.Token.{Token, item_of}
use Rattle.rf_base_tree.specs.Trees.{Forest}
use Rattle.rf_tree.specs.Texts.{AreTokensOf}
use Rattle.rf_tree.specs.Next.{IsAtBehind}
use Rattle.rf_tree.proofs.parser.Parser.read.Given as goal

abbrev pub invariant-loop-number : goal.invariant-loop-number
invariant-loop-number l =
    (l.from ≤ l.number) × (l.number ≤ length l.items)
    × ((text : List ℕ) (ts : List Token) (done : Forest) → AreTokensOf text ts → l.items ≡ map item_of ts
    → IsAtBehind ts done l.from l.fn.self → IsAtBehind ts done l.number l.self)

abbrev pub decreases-loop-number : goal.decreases-loop-number
decreases-loop-number l = length l.items - l.number
