-- The items are those of the text, which were settled then, and what comes next from the first one on is their tree.
use Rattle.std.proofs.Common.{◌∙◌, inr, refl, ap, subst}
use Rattle.std.specs.Global.{Vec}
use Rattle.rf_base_grammar.specs.declared.items.Item.{Item}
use Rattle.rf_base_file.specs.LaidOut.{kept}
use Rattle.rf_base_tree.specs.Trees.{Empty}
use Rattle.rf_base_tree.proofs.OneTree.{start}
use Rattle.rf_style.specs.StyleOf.{seen}
use Rattle.rf_tree.specs.Parsing.{TreeFault}
use Rattle.rf_tree.proofs.SameItems.{refused_read}
use Rattle.rf_whole.proofs.TreesAlone.{items_settled, tree_is_alone}
use Rattle.rf_whole.proofs.passages.tree_alone.Goals as goal

pub parse_next-requires-clause-items : goal.parse_next-requires-clause-items
parse_next-requires-clause-items c =
    let style = seen c.args.style.now in
    let read = c.in_ok-items.ensures.items in
    let written = c.settle.ensures.tokens read.0 (c.deref_mut.ensures.value ∙ read.2) in (
      kept style read.0,
      (read.0, read.1, inr (style.blanks, refl)),
      items_settled style read.0 c.in_ok-items.items c.settle.new.items read.2 written,
    )

pub returns-in-Ok : goal.returns-in-Ok
returns-in-Ok c =
    let style = seen c.args.style.now in
    let read = c.in_ok-items.ensures.items in
    let written = c.settle.ensures.tokens read.0 (c.deref_mut.ensures.value ∙ read.2) in
    let are = items_settled style read.0 c.in_ok-items.items c.settle.new.items read.2 written in
    let found = c.in-Ok.ensures in
    let all = kept style read.0 in
    let next = found.trees all Empty (read.0, read.1, inr (style.blanks, refl)) are (start all) in
    record {
      tree = tree_is_alone style c.args.text.now read.0 c.parse_next.new.tree c.in-Ok.field-0 c.utf8.text
          c.requires.short read.1 found.kept.0 (ap (λ (v : Vec Item). v.items) found.kept.1 ∙ are) found.enough next;
      missed = tt;
    }

pub returns-in-Err-Refused-clause-missed : goal.returns-in-Err-Refused-clause-missed
returns-in-Err-Refused-clause-missed c =
    let style = seen c.args.style.now in
    let read = c.in_ok-items.ensures.items in
    let written = c.settle.ensures.tokens read.0 (c.deref_mut.ensures.value ∙ read.2) in
    let are = items_settled style read.0 c.in_ok-items.items c.settle.new.items read.2 written in
    let all = kept style read.0 in
    let fault = c.in-Err-Refused.ensures.refused all Empty (read.0, read.1, inr (style.blanks, refl)) are (start all) in (
      read.0,
      read.1,
      refused_read read.0 style.blanks c.in-Err-Refused.kind c.in-Err-Refused.offset
          (subst (λ e. TreeFault all e) c.in-Err-Refused.field-0-is fault),
    )
