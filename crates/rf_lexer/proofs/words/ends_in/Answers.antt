-- One character more.
use Rattle.std.proofs.Common.{rules}
use Rattle.std.specs.Str.{chars}
use Rattle.rf_lexer.proofs.RunEnds.{ends_start}
use Rattle.rf_lexer.proofs.words.ends_in.Goals as goal

pub loop-d-init : goal.loop-d-init
loop-d-init c = record { utf8 = search rules; so_far = ends_start c.args.c (chars c.args.text.now) }

pub loop-d-preserved : goal.loop-d-preserved
loop-d-preserved c = record { utf8 = search rules; so_far = rw c.in-Some.ensures at c.loop-d.invariant.so_far }

pub returns : goal.returns
returns c = rw c.in_default.ensures at c.loop-d.invariant.so_far
