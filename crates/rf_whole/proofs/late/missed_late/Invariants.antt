-- The stretches up to the rest are accepted.
use Rattle.std.proofs.Common.{◌≤◌, true, length}
use denote.Text.{Utf8}
use denote.Shadow.{shadow}
use Rattle.std.specs.Str.{chars}
use Rattle.rf_base_grammar.specs.declared.TheConstants.{SOURCE_LIMIT}
use Rattle.rf_whole.specs.Late.{IsAcceptedFront}
use Rattle.rf_whole.proofs.late.missed_late.Given as goal

abbrev pub invariant-loop-rest : goal.invariant-loop-rest
invariant-loop-rest l = record {
  utf8 : shadow (Utf8 l.rest);
  short : length l.rest ≤ SOURCE_LIMIT;
  so_far : IsAcceptedFront true (chars l.src) (chars l.rest);
}

abbrev pub decreases-loop-rest : goal.decreases-loop-rest
decreases-loop-rest l = length l.rest
