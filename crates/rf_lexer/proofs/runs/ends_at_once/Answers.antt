-- A delimiter ends a run before it.
use Rattle.std.specs.Str.{chars}
use Rattle.rf_lexer.proofs.Cuts.{plain_ends}
use Rattle.rf_lexer.proofs.runs.ends_at_once.Goals as goal

pub returns-in-Some : goal.returns-in-Some
returns-in-Some c =
    λ ends.
    rw c.in-Some.ensures (plain_ends c.in-Some.c (c.is_ascii_delimiter.ensures ends) (chars c.in-Some.field-0-1.now))
