-- The part is read from the item on where the lines end, and stands behind them.
use Rattle.std.proofs.Common.{Err, ap}
use Rattle.std.proofs.lemmas.Result.{err_from_is_err_and}
use Rattle.std.specs.Str.{chars}
use Rattle.rf_base_file.specs.LaidOut.{kept}
use Rattle.rf_style.specs.StyleOf.{seen}
use Rattle.rf_tree.specs.Next.{followed_by}
use Rattle.rf_whole.specs.Whole.{sought}
use Rattle.rf_whole.proofs.Formed.{width_is_column}
use Rattle.rf_whole.proofs.PartByPart.{kept_tokens, kept_after, source_same, is_before, next_within, part_tops, fault_read, lines_more, next_told}
use Rattle.rf_whole.proofs.parts.add_part.Goals as goal

pub returns-in_err-next-clause-stopped : goal.returns-in_err-next-clause-stopped
returns-in_err-next-clause-stopped g c =
    let style = seen c.args.setting.now.style.now in
    let p = err_from_is_err_and c.from_residual.result c.from_residual.ensures.1 in
    rw (p.1, p.2)
    (λ ts h.
    let before = c.requires.lines ts h in
    fault_read (sought (g.F.Factory.costs c.args.setting.now.factory.now) c.args.setting.now.limit) style ts _
    (c.in_err-next.ensures.refused (kept style ts) before.done (kept_tokens style (chars c.args.tree.now.src.now) ts _ h) h.1 before.place))

pub with_tops-requires-clause-tops : goal.with_tops-requires-clause-tops
with_tops-requires-clause-tops g c κs ls =
    let style = seen c.args.setting.now.style.now in
    let read = c.in_ok-next.ensures in
    let ts = c.requires.source.items.0 in
    let h = c.requires.source.items.1 in
    let before = c.requires.lines ts h in
    let next = read.trees (kept style ts) before.done (kept_tokens style (chars c.args.tree.now.src.now) ts _ h) h.1 before.place in (
      kept style ts,
      next.part,
      part_tops style c.parse_next.new.tree ts before.done c.in_ok-next.next c.args.setting.now.is_style
          (source_same style c.args.tree.now c.parse_next.new.tree read.kept.0 read.kept.1 c.requires.source)
          (kept_after style c.args.tree.now c.parse_next.new.tree ts read.kept.0 read.kept.1 h) (next_within _ _ _ _ read.enough) next,
    )

pub fault_behind-requires-clause-items : goal.fault_behind-requires-clause-items
fault_behind-requires-clause-items g c =
    let style = seen c.args.setting.now.style.now in
    let read = c.in_ok-next.ensures in
    let ts = c.requires.source.items.0 in
    let after = kept_after style c.args.tree.now c.parse_next.new.tree ts read.kept.0 read.kept.1 c.requires.source.items.1 in
    (kept style ts, kept_tokens style (chars c.parse_next.new.tree.src.now) ts _ after, after.1)

pub returns-in-Ok-clause-lines : goal.returns-in-Ok-clause-lines
returns-in-Ok-clause-lines g c ts h =
    let style = seen c.args.setting.now.style.now in
    let read = c.in_ok-next.ensures in
    let before = c.requires.lines ts h in
    lines_more (g.F.Factory.costs c.args.setting.now.factory.now) c.args.setting.now.limit style c.parse_next.new.tree ts c.args.from c.in_ok-next.next c.args.lines c.in-Ok.lines c.args.setting.now.is_style
    (source_same style c.args.tree.now c.parse_next.new.tree read.kept.0 read.kept.1 c.requires.source) (kept_after style c.args.tree.now c.parse_next.new.tree ts read.kept.0 read.kept.1 h)
    (is_before _ _ _ h.1 c.requires.some) (next_within _ _ _ _ read.enough)
    before (read.trees (kept style ts) before.done (kept_tokens style (chars c.args.tree.now.src.now) ts _ h) h.1 before.place) c.in-Ok.ensures.lines

pub returns-in-Err-clause-stopped : goal.returns-in-Err-clause-stopped
returns-in-Err-clause-stopped g c ts h =
    let style = seen c.args.setting.now.style.now in
    let laws = (g.met.F.Factory g.world.𝓛 g.world.𝓜 g.world.𝓡 ((λ s x. x), (λ x. x), (λ x. x), λ x. x)).lawful c.args.setting.now.factory.now in
    let read = c.in_ok-next.ensures in
    let after = kept_after style c.args.tree.now c.parse_next.new.tree ts read.kept.0 read.kept.1 h in
    let before = c.requires.lines ts h in
    let next = read.trees (kept style ts) before.done (kept_tokens style (chars c.args.tree.now.src.now) ts _ h) h.1 before.place in
    next_told (g.F.Factory.costs c.args.setting.now.factory.now) laws c.args.setting.now.limit style c.parse_next.new.tree ts c.args.from c.in_ok-next.next c.args.lines c.in-Err.fault c.fault_behind.result
    (width_is_column c.args.setting.now.limit c.args.setting.now.width) c.args.setting.now.is_style
    (source_same style c.args.tree.now c.parse_next.new.tree read.kept.0 read.kept.1 c.requires.source) after
    (is_before _ _ _ h.1 c.requires.some) (next_within _ _ _ _ read.enough) before next
    (λ long. c.in-Err.ensures.too_long (ap Err long))
    (c.fault_behind.ensures.told (kept style ts) (followed_by before.done next.part) (kept_tokens style (chars c.parse_next.new.tree.src.now) ts _ after) after.1 next.place)
