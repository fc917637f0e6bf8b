-- Trees lead on to the item of the number.
use Rattle.std.proofs.Common.{◌≡◌, ◌≤◌, ◌-◌, List, [], length, map}
use Rattle.std.specs.Str.{chars}
use Rattle.rf_base_grammar.specs.Token.{Token, item_of}
use Rattle.rf_base_tree.specs.Trees.{Forest}
use Rattle.rf_base_tree.specs.Places.{IsPlace}
use Rattle.rf_tree.specs.Texts.{AreTokensOf}
use Rattle.rf_tree.specs.Next.{followed_by}
use Rattle.rf_whole.proofs.parts.accept_rest.Given as goal

abbrev pub invariant-loop-number : goal.invariant-loop-number
invariant-loop-number l = record {
  src : l.tree.src.now ≡ l.fn.tree.src.now;
  items : l.tree.items ≡ l.fn.tree.items;
  within : l.number ≤ length l.tree.items.items;
  place :
      (ts : List Token) (done : Forest) → AreTokensOf (chars l.fn.tree.src.now) ts → l.fn.tree.items.items ≡ map item_of ts → IsPlace ts l.fn.from [] done →
      (rest : Forest) × IsPlace ts l.number [] (followed_by done rest);
}

abbrev pub decreases-loop-number : goal.decreases-loop-number
decreases-loop-number l = length l.tree.items.items - l.number
