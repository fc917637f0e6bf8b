-- What each way out of the run answers.
use Rattle.std.proofs.Common.{◌≡◌, inl, inr, ap, refl, subst, Err, List, ℕ}
use Rattle.std.specs.String.{string_bytes}
use Rattle.std.specs.Io.KnownBytes.{Appends}
use Rattle.rf_edges.specs.Bytes.{AppendsPrefix}
use Rattle.rf_top.specs.Answer.{stopped}
use Rattle.rf_top.specs.Running.{answer_of}
use Rattle.rf_top.specs.declared.stops.Stop.{Stop}
use Rattle.rf_top.specs.declared.stops.Stop.TheVariants as stop
use Rattle.rf_top.proofs.Running.{one_answer, laid_out_for}
use Rattle.rf_top.proofs.Ending.{done_answers, done_wrote, stop_answers, stop_complete, stop_read, stop_wrote, write_answers, write_wrote}
use Rattle.rf_top.proofs.program.run.Goals as goal

pub returns-in-Ok-write_whole-clause-headline : goal.returns-in-Ok-write_whole-clause-headline
returns-in-Ok-write_whole-clause-headline g c file source told fine said is plain =
    let reply = c.in-Ok.reply in (
      string_bytes reply.text,
      laid_out_for c.args.words.now said file source (answer_of reply) (c.in-Ok.ensures.answer file source told) is fine plain,
      subst (λ (bytes : List ℕ). Appends (g.K.Sink.written c.args.out.now) (g.K.Sink.written c.write_whole.new.sink) bytes) c.as_bytes.ensures.value c.in-Ok-write_whole.ensures.ok,
    )

pub returns-in-Ok-write_whole-clause-answer : goal.returns-in-Ok-write_whole-clause-answer
returns-in-Ok-write_whole-clause-answer g c =
    let reply = c.in-Ok.reply in
    let wrote = done_wrote reply.status (answer_of reply) (g.K.Sink.written c.args.out.now) (g.K.Sink.written c.write_whole.new.sink) (g.E.Sink.written c.args.err.now) (g.E.Sink.faults c.args.err.now)
    c.in-Ok.ensures.done refl refl
    (subst (λ (bytes : List ℕ). Appends (g.K.Sink.written c.args.out.now) (g.K.Sink.written c.write_whole.new.sink) bytes) c.as_bytes.ensures.value c.in-Ok-write_whole.ensures.ok) in (
      answer_of reply,
      inl (c.in-Ok.ensures.done, refl),
      wrote.0,
      wrote.1,
      λ file source told. done_answers reply.status c.args.words.now file source (answer_of reply) c.in-Ok.ensures.done (c.in-Ok.ensures.answer file source told),
    )

pub returns-in-Ok-write_whole-clause-complete : goal.returns-in-Ok-write_whole-clause-complete
returns-in-Ok-write_whole-clause-complete g c file source told answer is no_read no_write =
    inl (one_answer c.args.words.now file source (answer_of c.in-Ok.reply) answer (c.in-Ok.ensures.answer file source told) is)

pub returns-in-Ok-clause-answer : goal.returns-in-Ok-clause-answer
returns-in-Ok-clause-answer g c =
    let reply = c.in-Ok.reply in
    let out_old = g.K.Sink.written c.args.out.now in
    let out_new = g.K.Sink.written c.write_whole.new.sink in
    let prefix = subst (λ (bytes : List ℕ). AppendsPrefix out_old out_new bytes) c.as_bytes.ensures.value c.in-Err-write_whole.ensures.prefix in
    let wrote = write_wrote c.end.result (answer_of reply) out_old out_new (g.E.Sink.written c.args.err.now) (g.E.Sink.written c.end.new.err) (g.E.Sink.faults c.args.err.now) (g.E.Sink.faults c.end.new.err)
    c.end.ensures.status prefix c.end.ensures.told in (
      answer_of reply,
      inl (c.in-Ok.ensures.done, refl),
      wrote.0,
      wrote.1,
      λ file source told. write_answers c.end.result c.args.words.now file source (answer_of reply) c.end.ensures.status (c.in-Ok.ensures.answer file source told),
    )

pub returns-clause-answer : goal.returns-clause-answer
returns-clause-answer g c =
    let s = c.in-Err.stop in
    let not_write = λ (is : s ≡ stop.Write). c.in-Err.ensures.not_write (ap (λ (t : Stop). Err t) is) in
    let wrote = stop_wrote s c.end-in-Err.result (g.K.Sink.written c.args.out.now) (g.E.Sink.written c.args.err.now) (g.E.Sink.written c.end-in-Err.new.err) (g.E.Sink.faults c.args.err.now) (g.E.Sink.faults c.end-in-Err.new.err)
    not_write c.end-in-Err.ensures.status c.end-in-Err.ensures.told in (
      stopped s,
      inr (s, refl),
      wrote.0,
      wrote.1,
      λ file source told. stop_answers s c.end-in-Err.result c.args.words.now file source not_write c.end-in-Err.ensures.status (c.in-Err.ensures.stopped file source told),
    )

pub returns-clause-complete : goal.returns-clause-complete
returns-clause-complete g c file source told answer is no_read no_write =
    let s = c.in-Err.stop in
    stop_complete s c.end-in-Err.result c.args.words.now file source answer (λ write. c.in-Err.ensures.not_write (ap (λ (t : Stop). Err t) write))
    (λ read. no_read (c.in-Err.ensures.fault (ap (λ (t : Stop). Err t) read))) c.end-in-Err.ensures.status (c.in-Err.ensures.stopped file source told) is

pub returns-clause-read_fault : goal.returns-clause-read_fault
returns-clause-read_fault g c is =
    let s = c.in-Err.stop in
    c.in-Err.ensures.fault
    (ap (λ (t : Stop). Err t) (stop_read s c.end-in-Err.result (λ write. c.in-Err.ensures.not_write (ap (λ (t : Stop). Err t) write)) c.end-in-Err.ensures.status is))
