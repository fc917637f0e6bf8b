-- Each line is that of both.
use Rattle.std.proofs.Common.{[], true, false, refl}
use Rattle.rf_frontier.proofs.Ways.{keeps_then}
use Rattle.rf_outline.proofs.Holds.{line_is_in, line_kept}
use Rattle.rf_rows.proofs.Learning.{line_of_texts, all_gathered}
use Rattle.rf_rows.proofs.knowing.with_known.Goals as goal

pub concat_line-requires-clause-first : goal.concat_line-requires-clause-first
concat_line-requires-clause-first c =
    let h = c.requires.before.1 in
    line_is_in _ _ false _ (line_of_texts _ h.first c.requires.before.0 _ false _ _ (h.passes false) (c.with_text-loose_before.ensures c.args.hows.now []) h.loose)

pub concat_line-requires-2-clause-first : goal.concat_line-requires-2-clause-first
concat_line-requires-2-clause-first c =
    let h = c.requires.before.1 in
    line_is_in _ _ true _
    (line_kept c.args.hows.now _ _ true _ c.in_ok-loose.ensures.older
    (line_of_texts _ h.first c.requires.before.0 _ true _ _ (h.passes true) (c.with_text-flat_before.ensures c.args.hows.now []) h.flat))

pub concat_line-requires-2-clause-second : goal.concat_line-requires-2-clause-second
concat_line-requires-2-clause-second c =
    line_is_in _ _ true c.args.behind.flat.line (line_kept c.args.hows.now _ _ true c.args.behind.flat.line c.in_ok-loose.ensures.older c.requires.behind.1.1.0)

pub returns-in_err-flat-clause-older : goal.returns-in_err-flat-clause-older
returns-in_err-flat-clause-older c = keeps_then c.args.hows.now _ _ c.in_ok-loose.ensures.older c.concat_line-2.ensures.older

pub returns-clause-lines : goal.returns-clause-lines
returns-clause-lines c = λ d e h q.
    let kept = c.in_ok-loose.ensures.older in
    let loose = line_of_texts _ h.first d _ false _ _ (h.passes false) (c.with_text-loose_before.ensures c.args.hows.now []) h.loose in
    let flat = line_of_texts _ h.first d _ true _ _ (h.passes true) (c.with_text-flat_before.ensures c.args.hows.now []) h.flat in
    all_gathered _ _ _ refl (line_kept _ _ _ false c.in_ok-loose.loose c.in_ok-flat.ensures.older (c.in_ok-loose.ensures.line d e false loose q.0.0))
    (c.in_ok-flat.ensures.line d e true (line_kept c.args.hows.now _ d true _ kept flat) (line_kept c.args.hows.now _ e true c.args.behind.flat.line kept q.1.0))

pub returns-clause-older : goal.returns-clause-older
returns-clause-older c = keeps_then c.args.hows.now _ _ c.in_ok-loose.ensures.older c.in_ok-flat.ensures.older
