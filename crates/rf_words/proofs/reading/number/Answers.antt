-- As the option's text is given, and as it is read.
use Rattle.std.proofs.Common.{Some, None, Ok, Err, sym, ap, ◌∙◌, arith}
use Rattle.std.specs.Str.Parse.{ParsesUnsigned, ExplainsUnsignedError, HasUnsignedDigitsIfOk}
use Rattle.std.specs.declared.num.ParseIntError.{ParseIntError}
use Rattle.clap.specs.Words.{found_of}
use Rattle.rf_words.proofs.Numerals.{read_row, as_read, within, below, above}
use Rattle.rf_words.proofs.reading.number.Goals as goal

pub returns-in-Ok-None : goal.returns-in-Ok-None
returns-in-Ok-None c =
    let read = read_row ParseIntError (λ bs r. ParsesUnsigned 32 10 bs r × ExplainsUnsignedError 10 bs r × HasUnsignedDigitsIfOk bs r) (found_of c.args.matches.now) c.args.id.now c.args.least c.args.most c.try_get_one.result (omega arith) (λ t x g. g.0) c.try_get_one.ensures.none c.try_get_one.ensures.value in
    sym (as_read _ c.args.least c.args.most _ (Ok None) read (c.in-Ok-None.is ∙ ap (λ n. Ok n) c.in-Ok-None.field-0-is))

pub returns-in-Ok-Some : goal.returns-in-Ok-Some
returns-in-Ok-Some c =
    let read = read_row ParseIntError (λ bs r. ParsesUnsigned 32 10 bs r × ExplainsUnsignedError 10 bs r × HasUnsignedDigitsIfOk bs r) (found_of c.args.matches.now) c.args.id.now c.args.least c.args.most c.try_get_one.result (omega arith) (λ t x g. g.0) c.try_get_one.ensures.none c.try_get_one.ensures.value in
    sym (as_read _ c.args.least c.args.most _ (Ok (Some c.in-Ok-Some.number)) read (c.in-Ok-Some.is ∙ ap (λ n. Ok n) c.in-Ok-Some.field-0-is) ∙ within c.args.least c.args.most c.in-Ok-Some.number (omega arith) (omega arith))

pub returns-in_default : goal.returns-in_default
returns-in_default c =
    let read = read_row ParseIntError (λ bs r. ParsesUnsigned 32 10 bs r × ExplainsUnsignedError 10 bs r × HasUnsignedDigitsIfOk bs r) (found_of c.args.matches.now) c.args.id.now c.args.least c.args.most c.try_get_one.result (omega arith) (λ t x g. g.0) c.try_get_one.ensures.none c.try_get_one.ensures.value in
    sym (as_read _ c.args.least c.args.most _ (Ok (Some c.in-Ok-Some.number)) read (c.in-Ok-Some.is ∙ ap (λ n. Ok n) c.in-Ok-Some.field-0-is) ∙ above c.args.least c.args.most c.in-Ok-Some.number (omega arith))

pub returns-in_default-2 : goal.returns-in_default-2
returns-in_default-2 c =
    let read = read_row ParseIntError (λ bs r. ParsesUnsigned 32 10 bs r × ExplainsUnsignedError 10 bs r × HasUnsignedDigitsIfOk bs r) (found_of c.args.matches.now) c.args.id.now c.args.least c.args.most c.try_get_one.result (omega arith) (λ t x g. g.0) c.try_get_one.ensures.none c.try_get_one.ensures.value in
    sym (as_read _ c.args.least c.args.most _ (Ok (Some c.in-Ok-Some.number)) read (c.in-Ok-Some.is ∙ ap (λ n. Ok n) c.in-Ok-Some.field-0-is) ∙ below c.args.least c.args.most c.in-Ok-Some.number (omega arith))

pub returns-in_default-3 : goal.returns-in_default-3
returns-in_default-3 c =
    let read = read_row ParseIntError (λ bs r. ParsesUnsigned 32 10 bs r × ExplainsUnsignedError 10 bs r × HasUnsignedDigitsIfOk bs r) (found_of c.args.matches.now) c.args.id.now c.args.least c.args.most c.try_get_one.result (omega arith) (λ t x g. g.0) c.try_get_one.ensures.none c.try_get_one.ensures.value in
    sym (as_read _ c.args.least c.args.most _ (Err c.in_default.field-0) read c.in_default.is)
