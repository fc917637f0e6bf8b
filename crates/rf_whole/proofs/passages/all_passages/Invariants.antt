-- The passages up to the rest are laid out.
use Rattle.std.proofs.Common.{◌≤◌, length}
use denote.Text.{Utf8}
use denote.Shadow.{shadow}
use Rattle.std.specs.Str.{chars}
use Rattle.rf_base_grammar.specs.declared.TheConstants.{SOURCE_LIMIT}
use Rattle.rf_style.specs.StyleOf.{seen}
use Rattle.rf_whole.specs.Passages.{IsFirstPassage}
use Rattle.rf_whole.proofs.passages.all_passages.Given as goal

abbrev pub invariant-loop-rest : goal.invariant-loop-rest
invariant-loop-rest g l = record {
  utf8 : shadow (Utf8 l.rest);
  short : length l.rest ≤ SOURCE_LIMIT;
  so_far : IsFirstPassage (g.F.Factory.costs l.setting.factory.now) l.setting.limit (seen l.setting.style.now) l.excerpt.first l.excerpt.last (chars l.excerpt.text.now) l.excerpt.behind l.all (chars l.rest);
}

abbrev pub decreases-loop-rest : goal.decreases-loop-rest
decreases-loop-rest g l = length l.rest
