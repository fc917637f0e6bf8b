-- A backslash takes the first character, or those that stand for themselves change nothing behind.
use Rattle.std.specs.Str.{chars}
use Rattle.rf_lexer.specs.Classes.{is_in_string}
use Rattle.rf_lexer.proofs.Cuts.{string_past}
use Rattle.rf_lexer.proofs.Marks.{marks_len}
use Rattle.rf_lexer.proofs.strings.behind_plain.Goals as goal

pub returns-else-escaped-clause-same : goal.returns-else-escaped-clause-same
returns-else-escaped-clause-same c =
    λ r h.
    rw c.if-escaped.false (string_past (chars c.args.text.now) (chars c.past_ascii.result.now) r c.past_ascii.ensures (rw c.if-escaped.false at h))

pub returns-else-escaped-clause-shorter : goal.returns-else-escaped-clause-shorter
returns-else-escaped-clause-shorter c =
    marks_len is_in_string (chars c.args.text.now) (chars c.past_ascii.result.now) c.past_ascii.ensures
