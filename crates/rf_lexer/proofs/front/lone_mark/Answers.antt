-- Brackets and quotes make items by themselves.
use Rattle.std.proofs.Common.{refl}
use Rattle.rf_base_grammar.specs.declared.kinds.Bracket.TheVariants.{Round, Square, Curly}
use Rattle.rf_lexer.proofs.Openings.{opener_is, closer_is, quote_alone}
use Rattle.rf_lexer.proofs.front.lone_mark.Goals as goal

pub returns-in-40 : goal.returns-in-40
returns-in-40 c = λ language behind. rw c.in-40.is (opener_is language 40 Round behind refl)

pub returns-in-91 : goal.returns-in-91
returns-in-91 c = λ language behind. rw c.in-91.is (opener_is language 91 Square behind refl)

pub returns-in-123 : goal.returns-in-123
returns-in-123 c = λ language behind. rw c.in-123.is (opener_is language 123 Curly behind refl)

pub returns-in-41 : goal.returns-in-41
returns-in-41 c = λ language behind. rw c.in-41.is (closer_is language 41 Round behind refl)

pub returns-in-93 : goal.returns-in-93
returns-in-93 c = λ language behind. rw c.in-93.is (closer_is language 93 Square behind refl)

pub returns-in-125 : goal.returns-in-125
returns-in-125 c = λ language behind. rw c.in-125.is (closer_is language 125 Curly behind refl)

pub returns-in-39 : goal.returns-in-39
returns-in-39 c = λ language behind. quote_alone language c.args.c behind c.in-39.is
