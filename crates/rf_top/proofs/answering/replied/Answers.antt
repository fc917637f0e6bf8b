-- Each step hands on what the next one needs.
use Rattle.std.proofs.Common.{◌∙◌, inl, refl, map}
use Rattle.std.proofs.lemmas.Result.{err_from_is_err_and, IfOk-weaker, IfErr-weaker}
use Rattle.std.specs.String.{string_bytes}
use Rattle.rf_words.specs.Answers.{seen}
use Rattle.rf_words.proofs.Ranges.{words_keep_ranges}
use Rattle.rf_top.specs.Running.{answer_of}
use Rattle.rf_top.specs.Answer.{stopped}
use Rattle.rf_top.proofs.Replies.{outside_or, style_answered, source_answered}
use Rattle.rf_top.proofs.answering.replied.Goals as goal

pub style_asked-requires : goal.style_asked-requires
style_asked-requires g c =
    record { ranges = words_keep_ranges (map string_bytes c.args.words.now) (seen c.in_ok-said.said) c.in_ok-said.ensures }

pub source_asked-requires : goal.source_asked-requires
source_asked-requires g c =
    record { ranges = words_keep_ranges (map string_bytes c.args.words.now) (seen c.in_ok-said.said) c.in_ok-said.ensures }

pub replied_in-requires-clause-ranges : goal.replied_in-requires-clause-ranges
replied_in-requires-clause-ranges g c κs within =
    words_keep_ranges (map string_bytes c.args.words.now) (seen c.in_ok-said.said) c.in_ok-said.ensures

pub returns-in_err-style-clause-stopped : goal.returns-in_err-style-clause-stopped
returns-in_err-style-clause-stopped g c =
    let p = err_from_is_err_and c.from_residual-in_err-style.result c.from_residual-in_err-style.ensures.1 in
    let said = seen c.in_ok-said.said in
    rw (p.1, p.2)
    (λ file source told.
    outside_or c.in_err-style.field-0.0 (style_answered c.args.words.now said file source c.in_err-style.field-0.0 c.in_ok-said.ensures)
    (c.in_err-style.ensures.stopped file (told said c.in_ok-said.ensures).0))

pub returns-in_err-source-clause-stopped : goal.returns-in_err-source-clause-stopped
returns-in_err-source-clause-stopped g c =
    let p = err_from_is_err_and c.from_residual-in_err-source.result c.from_residual-in_err-source.ensures.1 in
    let said = seen c.in_ok-said.said in
    let style = c.in_ok-style.style in
    let s = c.in_err-source.field-0.0 in
    rw (p.1, p.2)
    (λ file source told.
    let here = told said c.in_ok-said.ensures in
    let asked = c.in_ok-style.ensures.style file here.0 in
    outside_or s
    (λ stops. source_answered c.args.words.now said asked.0 style file source source (stopped s) c.in_ok-said.ensures asked.1 asked.2 refl (inl (s, stops, refl)))
    (c.in_err-source.ensures.stopped style source here.1))

pub returns-clause-answer : goal.returns-clause-answer
returns-clause-answer g c =
    let said = seen c.in_ok-said.said in
    let style = c.in_ok-style.style in
    IfOk-weaker c.replied_in.result _ _
    (λ reply h file source told.
    let here = told said c.in_ok-said.ensures in
    let asked = c.in_ok-style.ensures.style file here.0 in
    source_answered c.args.words.now said asked.0 style file source c.deref.result.now (answer_of reply) c.in_ok-said.ensures asked.1 asked.2
    (c.deref.ensures.value ∙ c.in_ok-source.ensures.source source here.1) h)
    c.replied_in.ensures.answer

pub returns-clause-stopped : goal.returns-clause-stopped
returns-clause-stopped g c =
    let said = seen c.in_ok-said.said in
    let style = c.in_ok-style.style in
    IfErr-weaker c.replied_in.result _ _
    (λ s h file source told.
    let here = told said c.in_ok-said.ensures in
    let asked = c.in_ok-style.ensures.style file here.0 in
    outside_or s
    (λ stops. source_answered c.args.words.now said asked.0 style file source c.deref.result.now (stopped s) c.in_ok-said.ensures asked.1 asked.2
    (c.deref.ensures.value ∙ c.in_ok-source.ensures.source source here.1) (inl (s, stops, refl)))
    h)
    c.replied_in.ensures.stopped
