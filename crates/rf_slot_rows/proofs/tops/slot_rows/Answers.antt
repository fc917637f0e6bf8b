-- The slot's document is that of its part.
use Rattle.std.proofs.Common.{arith}
use Rattle.rf_style.specs.StyleOf.{seen}
use Rattle.rf_slot_rows.proofs.Walking.{top_put}
use Rattle.rf_slot_rows.proofs.Growing.{kept_few}
use Rattle.rf_slot_rows.proofs.Sizes.{some_entry}
use Rattle.rf_slot_rows.proofs.tops.slot_rows.Goals as goal

pub returns-clause-free : goal.returns-clause-free
returns-clause-free c = let t = c.requires.top in (c.in_ok-put_top.ensures.put t.0 t.1 t.2 t.3 t.4).1.free

pub returns-clause-put : goal.returns-clause-put
returns-clause-put c ts trees s fill holds stands =
    (top_put (seen c.args.style.now) ts s c.args.rows.now c.put_top.new.rows c.in_ok-put_top.field-0 (c.in_ok-put_top.ensures.put ts trees s holds stands)).docs fill

pub returns-clause-grown : goal.returns-clause-grown
returns-clause-grown c ts trees s read holds stands some =
    let few = kept_few (seen c.args.style.now) c.args.tree.now ts trees c.requires.style.blanks read holds in
    omega (arith, c.in_ok-put_top.ensures.grown few ts trees s holds stands, some_entry s some)
