-- What is said of a run is said of the number that it ends with.
use Rattle.std.proofs.Common.{sym, subst, List}
use Rattle.std.specs.Global.{Global}
use Rattle.std.specs.Prelude.{String}
use Rattle.rf_top.specs.Asking.{AreTold, AskForInput, AskForSample}
use Rattle.rf_top.specs.Answer.{IsAnswer}
use Rattle.rf_top.specs.Running.{ReadFailed}
use Rattle.rf_top.specs.declared.status.Status.TheVariants as status
use Rattle.rf_fmt.proofs.Ending.{number_of_either, number_is, number_is_either}
use Rattle.rf_fmt.proofs.format.Goals as goal

pub returns-in-Ok-clause-complete : goal.returns-in-Ok-clause-complete
returns-in-Ok-clause-complete g c =
    rw c.in-Ok.is
    (λ file source told answer is no_read no_write.
    let same = c.deref.ensures.value in
    number_of_either c.run.result answer.status status.NoMemory _ c.exit_code.ensures
    (c.run.ensures.complete file source (subst (λ (ws : List (String Global)). AreTold ws (g.H.Shelf.file c.args.shelf.now) (g.S.Source.left c.args.input.now) file source) (sym same) told) answer
    (subst (λ (ws : List (String Global)). IsAnswer ws file source answer) (sym same) is)
    (λ failed.
    no_read
    (subst
    (λ (ws : List (String Global)).
    ReadFailed ws (g.S.Source.faults c.args.input.now) (g.S.Source.faults c.run.new.input) (g.H.Shelf.faults c.args.shelf.now) (g.H.Shelf.faults c.run.new.shelf))
    same failed))
    no_write))

pub returns-in-Ok-clause-read_fault : goal.returns-in-Ok-clause-read_fault
returns-in-Ok-clause-read_fault g c =
    rw c.in-Ok.is
    (λ is.
    subst
    (λ (ws : List (String Global)).
    ReadFailed ws (g.S.Source.faults c.args.input.now) (g.S.Source.faults c.run.new.input) (g.H.Shelf.faults c.args.shelf.now) (g.H.Shelf.faults c.run.new.shelf))
    c.deref.ensures.value (c.run.ensures.read_fault (number_is c.run.result status.ReadFault _ c.exit_code.ensures is)))

pub returns-in-Ok-clause-to_its_end : goal.returns-in-Ok-clause-to_its_end
returns-in-Ok-clause-to_its_end g c =
    rw c.in-Ok.is
    (λ ended asked.
    c.run.ensures.to_its_end (number_is_either c.run.result status.Fine status.Differs _ c.exit_code.ensures ended)
    (subst (λ (ws : List (String Global)). AskForInput ws) (sym c.deref.ensures.value) asked))

pub returns-in-Ok-clause-sample : goal.returns-in-Ok-clause-sample
returns-in-Ok-clause-sample g c =
    rw c.in-Ok.is
    (λ n asked.
    c.run.ensures.sample n (subst (λ (ws : List (String Global)). AskForSample ws n) (sym c.deref.ensures.value) asked))
