-- Marks behind a hash sign, by computation.
use Rattle.std.proofs.Common.{refl}
use Rattle.rf_base_grammar.specs.Characters.{is_delimiter, is_white}
use Rattle.rf_base_grammar.specs.Cuts.{run_cut}
use Rattle.rf_base_grammar.specs.Reader.{front_item}
use Rattle.rf_lexer.proofs.Openings.{hash_quote_alone}
use Rattle.rf_lexer.proofs.front.hash_mark.Goals as goal

pub returns-in-59 : goal.returns-in-59
unfolding front_item
returns-in-59 c = λ language behind. rw c.in-59.is refl

pub returns-in-40 : goal.returns-in-40
unfolding front_item run_cut is_delimiter is_white
returns-in-40 c = λ language behind. rw c.in-40.is refl

pub returns-in-91 : goal.returns-in-91
unfolding front_item run_cut is_delimiter is_white
returns-in-91 c = λ language behind. rw c.in-91.is refl

pub returns-in-123 : goal.returns-in-123
unfolding front_item run_cut is_delimiter is_white
returns-in-123 c = λ language behind. rw c.in-123.is refl

pub returns-in-38 : goal.returns-in-38
unfolding front_item
returns-in-38 c = λ language behind. rw c.in-38.is refl

pub returns-in-39 : goal.returns-in-39
returns-in-39 c = λ language behind. hash_quote_alone language c.args.c behind c.in-39.is
