-- Each part is one more, and at the end they are all.
use Rattle.std.proofs.Common.{refl, ◌∙◌, ◌≡◌, ℕ, length, arith, subst}
use Rattle.std.proofs.lemmas.Result.{err_from_is_err_and}
use Rattle.rf_base_file.specs.LaidOut.{kept}
use Rattle.rf_style.specs.StyleOf.{seen}
use Rattle.rf_whole.specs.Parts.{AreLinesTo}
use Rattle.rf_whole.proofs.PartByPart.{first_lines, source_same, kept_before, kept_after, within_after, at_end}
use Rattle.rf_whole.proofs.parts.parts_lines.Goals as goal

pub loop-next-init : goal.loop-next-init
loop-next-init g c = record {
  src = refl;
  items = refl;
  within = omega arith;
  lines = λ ts h. first_lines (g.F.Factory.costs c.args.setting.now.factory.now) c.args.setting.now.limit (seen c.args.setting.now.style.now) (kept (seen c.args.setting.now.style.now) ts) _ (c.no_lines-lines.ensures c.args.setting.now.limit);
}

pub add_part-requires-clause-source : goal.add_part-requires-clause-source
add_part-requires-clause-source g c κs ls =
    let so_far = c.loop-next.invariant in
    source_same (seen c.args.setting.now.style.now) c.args.tree.now c.loop-next.tree so_far.src so_far.items c.requires.source

pub add_part-requires-clause-lines : goal.add_part-requires-clause-lines
add_part-requires-clause-lines g c κs ls =
    let so_far = c.loop-next.invariant in
    λ ts h. so_far.lines ts (kept_before (seen c.args.setting.now.style.now) c.args.tree.now c.loop-next.tree ts so_far.src so_far.items h)

pub returns-in_err-next-clause-stopped : goal.returns-in_err-next-clause-stopped
returns-in_err-next-clause-stopped g c =
    let so_far = c.loop-next.invariant in
    let p = err_from_is_err_and c.from_residual.result c.from_residual.ensures.1 in
    rw (p.1, p.2)
    (λ ts h. c.in_err-next.ensures.stopped ts (kept_after (seen c.args.setting.now.style.now) c.args.tree.now c.loop-next.tree ts so_far.src so_far.items h))

pub loop-next-preserved : goal.loop-next-preserved
loop-next-preserved g c =
    let so_far = c.loop-next.invariant in
    let added = c.in_ok-next.ensures in
    record {
      src = added.kept.0 ∙ so_far.src;
      items = added.kept.1 ∙ so_far.items;
      within = within_after _ _ _ added.kept.1 added.onward.1;
      lines = λ ts h. added.lines ts (kept_after (seen c.args.setting.now.style.now) c.args.tree.now c.loop-next.tree ts so_far.src so_far.items h);
    }

pub returns-clause-lines : goal.returns-clause-lines
returns-clause-lines g c = λ ts h.
    let so_far = c.loop-next.invariant in
    let end : c.loop-next.next ≡ length c.args.tree.now.items.items = at_end c.args.tree.now.items c.loop-next.tree.items c.loop-next.next _ so_far.items so_far.within c.len.ensures c.loop-next-test.false in
    subst (λ (n : ℕ). AreLinesTo (g.F.Factory.costs c.args.setting.now.factory.now) c.args.setting.now.limit (seen c.args.setting.now.style.now) (kept (seen c.args.setting.now.style.now) ts) n c.loop-next.lines) end (so_far.lines ts h)
