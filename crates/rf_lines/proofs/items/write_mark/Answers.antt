-- A sign is one text of one column.
use Rattle.std.proofs.Common.{sym}
use Rattle.std.specs.Str.{chars}
use Rattle.std.proofs.lemmas.Result.{on_ok_weaker}
use Rattle.rf_base_style.specs.Columns.{length_in}
use Rattle.rf_base_style.specs.declared.columns.Columns.TheVariants.{Characters}
use Rattle.rf_lines.proofs.Between.{item_written}
use Rattle.rf_lines.proofs.items.write_mark.Goals as goal

pub returns-then-is_one_sign : goal.returns-then-is_one_sign
unfolding length_in
returns-then-is_one_sign c =
    on_ok_weaker c.add_item.result
    (λ written ts trees flat holds.
    item_written c.args.writer.now Characters ts trees c.args.item flat c.args.strip.now c.add_item.new.strip (chars c.text-spelling.result.now) 1 holds c.requires.there
    (c.text-spelling.ensures.characters ts trees holds) (c.is_one_sign.ensures.one c.if-is_one_sign.true) (sym (c.is_one_sign.ensures.long c.if-is_one_sign.true)) written)
    c.add_item.ensures
