-- A leaf says what stands behind a measure of it.
use Rattle.std.proofs.Common.{[], ◌∷◌, refl, arith}
use Rattle.rf_frontier.specs.Frontiers.{chosen}
use Rattle.rf_search.specs.Sought.{task}
use Rattle.rf_search.proofs.AtOnce.{leaf_is_text, leaf_is_break, one_length}
use Rattle.rf_search.proofs.Nodes.{leaf_text_found, long_text_found, break_found, none_found, loose_break, far_break}
use Rattle.rf_search.proofs.Going.{before_value}
use Rattle.rf_search.proofs.at_once.behind_known_leaf.Goals as goal

pub put_leaf-requires-clause-value : goal.put_leaf-requires-clause-value
put_leaf-requires-clause-value g c = before_value (task c.args.setting.now) c.args._found.now.hows c.args.place.now.node c.args.m.now c.requires.holds.told c.requires.asked

pub put_break-requires-clause-value : goal.put_break-requires-clause-value
put_break-requires-clause-value g c = before_value (task c.args.setting.now) c.args._found.now.hows c.args.place.now.node c.args.m.now c.requires.holds.told c.requires.asked

pub returns-in-Text : goal.returns-in-Text
returns-in-Text g c = λ x.
    long_text_found (task c.args.setting.now) c.args._found.now.hows c.args.place.now.node c.args.place.now.flat c.args.place.now.indentation x c.in-Text.len c.args.m.now [] c.requires.holds.told ([], leaf_is_text ((task c.args.setting.now).documents.document c.args.place.now.node) c.args.place.now.flat c.args.leaf c.in-Text.len c.requires.leaf c.in-Text.is) (omega (arith, c.if-len-setting.true)) refl

pub returns-in-Text-2 : goal.returns-in-Text-2
returns-in-Text-2 g c = λ x.
    leaf_text_found (task c.args.setting.now) c.args._found.now.hows c.args.place.now.node c.args.place.now.flat c.args.place.now.indentation x c.in-Text-2.len c.args.m.now c.put_leaf.new.m c.requires.holds.told (leaf_is_text ((task c.args.setting.now).documents.document c.args.place.now.node) c.args.place.now.flat c.args.leaf c.in-Text-2.len c.requires.leaf c.in-Text-2.is)
    c.requires.asked.1 (omega (arith, c.if-len-setting.false, c.requires.asked.0, one_length c.args.leaf c.in-Text.len c.in-Text-2.len c.in-Text.is c.in-Text-2.is)) c.put_leaf.ensures

pub returns-in-Break : goal.returns-in-Break
returns-in-Break g c = λ x.
    let d = (task c.args.setting.now).documents.document c.args.place.now.node in
    none_found (task c.args.setting.now) c.args._found.now.hows c.args.place.now.node d c.args.place.now.flat c.args.place.now.indentation x c.args.m.now [] refl
    (far_break (task c.args.setting.now).costs c.args.setting.now.sought.limit d c.args.place.now.flat (chosen c.args._found.now.hows c.args.m.now) c.args.place.now.indentation x (leaf_is_break d c.args.place.now.flat c.args.leaf c.requires.leaf c.in-Break.is) c.if-place-setting.true)
    refl

pub returns-in-Break-2 : goal.returns-in-Break-2
returns-in-Break-2 g c = λ x.
    let d = (task c.args.setting.now).documents.document c.args.place.now.node in
    break_found (task c.args.setting.now) c.args._found.now.hows c.args.place.now.node d c.args.place.now.flat c.args.place.now.indentation x c.args.m.now (c.put_break.new.m ∷ []) c.requires.asked refl
    (loose_break (task c.args.setting.now).costs c.args.setting.now.sought.limit d c.args.place.now.flat (chosen c.args._found.now.hows c.args.m.now) c.args.place.now.indentation x (leaf_is_break d c.args.place.now.flat c.args.leaf c.requires.leaf c.in-Break.is))
    (c.put_break.ensures.belong c.args._found.now.hows c.requires.asked.1) (c.put_break.ensures.behind c.args._found.now.hows)
