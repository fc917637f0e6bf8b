-- The items are those of the source, which were settled then.
use Rattle.std.proofs.Common.{◌≡◌, ◌∙◌, sym, ap, true, length}
use Rattle.std.proofs.lemmas.List.{with_items_is, length-map}
use Rattle.rf_base_grammar.specs.Token.{item_of, normal}
use Rattle.rf_base_tree.proofs.Alike.{length-settled}
use Rattle.rf_style.specs.StyleOf.{seen}
use Rattle.rf_top.proofs.formatting.kept_items.Goals as goal

pub returns-clause-kept : goal.returns-clause-kept
returns-clause-kept c =
    let style = seen c.args.style.now in
    let items = c.in_ok-items.items in
    let read = c.in_ok-items.ensures.items in
    let written = c.settle.ensures.tokens read.0 (c.deref_mut.ensures.value ∙ read.2) in
    let as_many : length c.settle.new.items ≡ items.len = ap length written ∙ length-map (normal style.blanks read.0) item_of ∙ length-settled true style.blanks read.0
    ∙ sym (length-map read.0 item_of) ∙ sym (ap length read.2) ∙ sym items.ok.0 in
    (read.0, (read.1, with_items_is items c.settle.new.items as_many ∙ written))
