-- The tree is laid out, and its lines are those of the passage.
use Rattle.std.proofs.Common.{◌∙◌, ℕ, true, List, [], refl, subst, sym}
use Rattle.std.specs.Str.{chars}
use Rattle.rf_base_grammar.specs.Itemised.{Leads}
use Rattle.rf_base_tree.proofs.Alike.{length-settled}
use Rattle.rf_base_file.specs.LaidOut.{kept}
use Rattle.rf_style.specs.StyleOf.{seen}
use Rattle.rf_whole.specs.Whole.{IsSettled}
use Rattle.rf_whole.proofs.PartByPart.{same_count}
use Rattle.rf_whole.proofs.WholeFile.{file_tops}
use Rattle.rf_whole.proofs.passages.one_passage.Goals as goal

pub tops_lines-lines-requires-clause-tops : goal.tops_lines-lines-requires-clause-tops
tops_lines-lines-requires-clause-tops g c κs within =
    let style = seen c.args.setting.now.style.now in
    let alone = c.in_ok-tree.ensures.tree in
    let settled = alone.1 in
    (kept style settled.0, settled.1, file_tops style c.in_ok-tree.tree (chars c.args.excerpt.text.now) settled.0 settled.1 c.args.setting.now.is_style settled.2)

pub returns-in-Ok-clause-passage : goal.returns-in-Ok-clause-passage
returns-in-Ok-clause-passage g c =
    let style = seen c.args.setting.now.style.now in
    let alone = c.in_ok-tree.ensures.tree in
    let settled = alone.1 in
    let h = settled.2 in
    let tops = file_tops style c.in_ok-tree.tree (chars c.args.excerpt.text.now) settled.0 settled.1 c.args.setting.now.is_style h in
    record {
      tokens = settled.0;
      trees = settled.1;
      itemised = h.itemised;
      treed = h.treed;
      stands = c.if-not-stands_with_others.ensures refl style settled.0 settled.1 h.itemised.0
          (subst (λ (t : List ℕ). IsSettled style c.in_ok-tree.tree (chars t) settled.0 settled.1) (sym alone.0) h)
          (subst (λ (t : List ℕ). Leads [] 0 (chars t) settled.0 h.itemised.0) (sym alone.0) h.itemised.1) h.itemised.2;
      lines_are = c.in-Ok.ensures.lines (kept style settled.0) settled.1 tops;
      count = c.len-items.ensures ∙ c.in_ok-tree.tree.items.ok.0 ∙ same_count (kept style settled.0) c.in_ok-tree.tree.items.items h.tree_of.items_are ∙ length-settled true style.blanks settled.0;
    }
