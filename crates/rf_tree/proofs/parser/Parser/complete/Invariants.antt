-- The datum at hand and the place make the move that the first ones make.
use Rattle.std.proofs.Common.{List, vec_len}
use Rattle.rf_base_grammar.specs.Token.{Token}
use Rattle.rf_base_tree.specs.Moves.{Move}
use Rattle.rf_tree.specs.Parsing.{Carries}
use Rattle.rf_tree.proofs.parser.Parser.complete.Given as goal

abbrev pub invariant-loop-begun : goal.invariant-loop-begun
invariant-loop-begun l =
    (ts : List Token) (move : Move) → Carries ts l.fn.self l.fn.datum move → Carries ts l.self l.at move

abbrev pub decreases-loop-begun : goal.decreases-loop-begun
decreases-loop-begun l = vec_len l.self.begun
