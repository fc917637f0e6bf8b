-- The row says what stands behind nothing.
use Rattle.std.proofs.Common.{◌∷◌, [], refl, ap}
use Rattle.std.specs.Prelude.{slice_get}
use Rattle.rf_base_optimum.specs.MostPieces.{most_pieces}
use Rattle.rf_base_cut.proofs.Behind.{room_value}
use Rattle.rf_search.specs.Sought.{task}
use Rattle.rf_search.proofs.Given.{given_back, goes_on_given}
use Rattle.rf_search.proofs.Served.{row_read, row_values, row_found}
use Rattle.rf_search.proofs.Shifts.{alone_shifted, belong_there, value_there}
use Rattle.rf_search.proofs.behind.behind_row.Goals as goal

pub shifted-requires-clause-value : goal.shifted-requires-clause-value
shifted-requires-clause-value g c =
    room_value (task c.args.setting.now).costs c.requires.holds.told.lawful
    (most_pieces ((task c.args.setting.now).documents.document c.args.place.now.node)) c.args.m.now.cost c.requires.asked.2

pub shifted-requires-clause-values : goal.shifted-requires-clause-values
shifted-requires-clause-values g c =
    let says = row_read (task c.args.setting.now) c.args.found.now.hows c.args.found.now.rows.items c.args.at c.requires.serves.0 c.args.place.now.flat c.args.m.now.last c.args.place.now.cut c.index.result.now
    c.requires.holds.rows c.requires.serves.2 c.index.ensures in
    row_values (task c.args.setting.now) c.args.found.now.hows c.args.place.now.node c.requires.serves.0 c.args.place.now.flat c.args.m.now.last c.index.result.now.cut c.args.m.now c.index.result.now.measures
    c.requires.holds.told c.requires.asked refl c.requires.serves.1 says.0

pub shifted-requires-clause-belong : goal.shifted-requires-clause-belong
shifted-requires-clause-belong g c =
    let says = row_read (task c.args.setting.now) c.args.found.now.hows c.args.found.now.rows.items c.args.at c.requires.serves.0 c.args.place.now.flat c.args.m.now.last c.args.place.now.cut c.index.result.now
    c.requires.holds.rows c.requires.serves.2 c.index.ensures in says.0.0

pub measure_behind-requires-clause-value : goal.measure_behind-requires-clause-value
measure_behind-requires-clause-value g c =
    room_value (task c.args.setting.now).costs c.requires.holds.told.lawful
    (most_pieces ((task c.args.setting.now).documents.document c.args.place.now.node)) c.args.m.now.cost c.requires.asked.2

pub measure_behind-requires-clause-second_value : goal.measure_behind-requires-clause-second_value
measure_behind-requires-clause-second_value g c =
    let says = row_read (task c.args.setting.now) c.args.found.now.hows c.args.found.now.rows.items c.args.at c.requires.serves.0 c.args.place.now.flat c.args.m.now.last c.args.place.now.cut c.index.result.now
    c.requires.holds.rows c.requires.serves.2 c.index.ensures in
    value_there (task c.args.setting.now).costs c.index.result.now.measures 0 c.in-Some.k
    (row_values (task c.args.setting.now) c.args.found.now.hows c.args.place.now.node c.requires.serves.0 c.args.place.now.flat c.args.m.now.last c.index.result.now.cut c.args.m.now c.index.result.now.measures
    c.requires.holds.told c.requires.asked refl c.requires.serves.1 says.0)
    (ap (λ z. slice_get z 0) c.in-Some.ensures)

pub measure_behind-requires-clause-second_way : goal.measure_behind-requires-clause-second_way
measure_behind-requires-clause-second_way g c =
    let says = row_read (task c.args.setting.now) c.args.found.now.hows c.args.found.now.rows.items c.args.at c.requires.serves.0 c.args.place.now.flat c.args.m.now.last c.args.place.now.cut c.index.result.now
    c.requires.holds.rows c.requires.serves.2 c.index.ensures in
    belong_there c.args.found.now.hows c.index.result.now.measures 0 c.in-Some.k says.0.0 (ap (λ z. slice_get z 0) c.in-Some.ensures)

pub returns-in-Some-clause-given : goal.returns-in-Some-clause-given
returns-in-Some-clause-given g c =
    let says = row_read (task c.args.setting.now) c.args.found.now.hows c.args.found.now.rows.items c.args.at c.requires.serves.0 c.args.place.now.flat c.args.m.now.last c.args.place.now.cut c.index.result.now
    c.requires.holds.rows c.requires.serves.2 c.index.ensures in
    let one = c.in_ok-m in
    let alone = alone_shifted (task c.args.setting.now).costs c.args.found.now.hows c.measure_behind.new.hows c.args.m.now c.in-Some.k one.field-0 c.index.result.now.measures (one.field-0 ∷ []) c.args.place.now.cut
    c.in-Some.ensures one.ensures.last one.ensures.cost one.ensures.belongs one.ensures.choices refl in
    row_found (task c.args.setting.now) c.args.found.now.hows c.measure_behind.new.hows c.args.place.now.node c.requires.serves.0 c.args.place.now.flat c.args.place.now.indentation c.args.place.now.cut c.index.result.now.cut c.args.m.now c.index.result.now.measures (one.field-0 ∷ [])
    c.requires.holds.told c.requires.asked c.requires.serves.1 says.0 says.1 alone.0 alone.1

pub returns-in-Some-clause-goes_on : goal.returns-in-Some-clause-goes_on
returns-in-Some-clause-goes_on g c =
    goes_on_given (task c.args.setting.now) c.args.found.now _ c.measure_behind.new.hows refl refl c.in_ok-m.ensures.older c.requires.holds

pub returns-clause-given : goal.returns-clause-given
returns-clause-given g c =
    let says = row_read (task c.args.setting.now) c.args.found.now.hows c.args.found.now.rows.items c.args.at c.requires.serves.0 c.args.place.now.flat c.args.m.now.last c.args.place.now.cut c.index.result.now
    c.requires.holds.rows c.requires.serves.2 c.index.ensures in
    given_back (task c.args.setting.now) c.args.found.now.hows c.shifted.new.hows c.give.new.self.hows c.args.place.now.node c.args.place.now.flat c.args.place.now.indentation c.args.place.now.cut c.args.m.now c.in_ok-kept.kept _ c.give.ensures.ways c.give.ensures.given
    (row_found (task c.args.setting.now) c.args.found.now.hows c.shifted.new.hows c.args.place.now.node c.requires.serves.0 c.args.place.now.flat c.args.place.now.indentation c.args.place.now.cut c.index.result.now.cut c.args.m.now c.index.result.now.measures c.in_ok-kept.kept
    c.requires.holds.told c.requires.asked c.requires.serves.1 says.0 says.1 c.in_ok-kept.ensures.belong c.in_ok-kept.ensures.shifted)

pub returns-clause-goes_on : goal.returns-clause-goes_on
returns-clause-goes_on g c =
    goes_on_given (task c.args.setting.now) c.args.found.now c.give.new.self c.shifted.new.hows c.give.ensures.ways c.give.ensures.rows c.in_ok-kept.ensures.older c.requires.holds
