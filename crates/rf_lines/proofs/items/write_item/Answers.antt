-- An item of one line is one text.
use Rattle.std.specs.Str.{chars}
use Rattle.std.proofs.lemmas.Result.{on_ok_weaker}
use Rattle.rf_lines.proofs.Between.{item_written}
use Rattle.rf_lines.proofs.items.write_item.Goals as goal

pub returns-in-Some : goal.returns-in-Some
returns-in-Some c =
    on_ok_weaker c.add_item.result
    (λ written ts trees flat holds.
    item_written c.args.writer.now c.args.columns ts trees c.args.item flat c.args.strip.now c.add_item.new.strip (chars c.text-spelling.result.now) c.in-Some.len holds c.requires.there
    (c.text-spelling.ensures.characters ts trees holds) c.in-Some.ensures.one c.in-Some.ensures.columns written)
    c.add_item.ensures
