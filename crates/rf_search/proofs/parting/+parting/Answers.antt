-- What is chosen of a node, kind by kind.
use Rattle.std.proofs.Common.{◌≡◌, true, ◌+◌, [], ◌∷◌, ◌++◌, length, take, Some, None, refl, ap, ◌∙◌, arith}
use Rattle.std.proofs.lemmas.Result.{IfOk-weaker}
use Rattle.rf_base_document.specs.Document.{Concat, Choice, Nest, Align, Reset, Flatten, Charge, Newline, Hard}
use Rattle.rf_base_document.specs.declared.directions.Dir.TheVariants.{Left, Right}
use Rattle.rf_search.specs.Sought.{task}
use Rattle.rf_search.proofs.Beginnings.{room_at, concat_rooms, choice_rooms, nest_room, align_room, reset_room, flatten_room, charge_room}
use Rattle.rf_search.proofs.Partly.{text_part, space_part, newline_part, hard_part, no_hard, nest_part, align_part, reset_part, flatten_part, charge_part, no_nest, no_align, no_reset, no_flatten, no_charge, of_one}
use Rattle.rf_search.proofs.Parted.{moved_part, node_part, node_nothing, leaf_part, nothing_part, concat_none, concat_found, left_found, right_found, stands_again, if_last}
use Rattle.rf_search.proofs.parting.+parting.Goals as goal

pub both-choose-requires : goal.both-choose-requires
both-choose-requires g t c κs ls =
    let parts = concat_rooms (task c.args.setting.now) c.args.place.node c.args.a c.args.b c.requires.node c.requires.room in
    (omega (arith, c.decreases, c.at.ensures.fuel), (ls.0, (ls.1.0, (ls.1.1.0, (ls.1.1.1.0, (ls.1.1.1.1, (c.requires.holds, room_at (task c.args.setting.now) c.at.result.node c.args.a c.at.ensures.node parts.0)))))))

pub both-choose-requires-in-Some : goal.both-choose-requires-in-Some
both-choose-requires-in-Some g t c κs ls =
    let parts = concat_rooms (task c.args.setting.now) c.args.place.node c.args.a c.args.b c.requires.node c.requires.room in
    (omega (arith, c.decreases, c.at-in-Some.ensures.fuel), (ls.0, (ls.1.0, (ls.1.1.0, (ls.1.1.1.0, (ls.1.1.1.1, (c.in_ok-choose.ensures.holds, room_at (task c.args.setting.now) c.at-in-Some.result.node c.args.b c.at-in-Some.ensures.node parts.1)))))))

pub both-returns-in-None-clause-part : goal.both-returns-in-None-clause-part
both-returns-in-None-clause-part g t c =
    let first = moved_part (task c.args.setting.now) c.at.result.node c.args.a c.at.result.flat c.args.place.flat c.args.column c.at.result.indentation c.args.place.indentation c.args.choices.now.items c.choose.new.choices.items None
    c.at.ensures.node c.at.ensures.flat c.at.ensures.indentation
    (if_last (task c.args.setting.now) c.at.result.node c.at.result.flat c.args.column c.at.result.indentation c.args.choices.now.items c.choose.new.choices.items c.in_ok-choose.field-0 None c.in-None.is c.in_ok-choose.ensures.part) in
    node_part (task c.args.setting.now) c.args.place.node (Concat ((task c.args.setting.now).documents.document c.args.a) ((task c.args.setting.now).documents.document c.args.b)) c.args.place.flat c.args.column c.args.place.indentation c.args.choices.now.items c.choose.new.choices.items None c.requires.node
    (concat_none (task c.args.setting.now).costs c.args.setting.now.sought.limit ((task c.args.setting.now).documents.document c.args.a) ((task c.args.setting.now).documents.document c.args.b) c.args.place.flat c.args.column c.args.place.indentation c.args.choices.now.items c.choose.new.choices.items first)

pub both-returns-in-Some-clause-part : goal.both-returns-in-Some-clause-part
both-returns-in-Some-clause-part g t c =
    let first = moved_part (task c.args.setting.now) c.at.result.node c.args.a c.at.result.flat c.args.place.flat c.args.column c.at.result.indentation c.args.place.indentation c.args.choices.now.items c.choose.new.choices.items (Some c.in-Some.middle)
    c.at.ensures.node c.at.ensures.flat c.at.ensures.indentation
    (if_last (task c.args.setting.now) c.at.result.node c.at.result.flat c.args.column c.at.result.indentation c.args.choices.now.items c.choose.new.choices.items c.in_ok-choose.field-0 (Some c.in-Some.middle) c.in-Some.is c.in_ok-choose.ensures.part) in
    IfOk-weaker c.choose-in-Some.result _ _
    (λ last h.
    node_part (task c.args.setting.now) c.args.place.node (Concat ((task c.args.setting.now).documents.document c.args.a) ((task c.args.setting.now).documents.document c.args.b)) c.args.place.flat c.args.column c.args.place.indentation c.args.choices.now.items c.choose-in-Some.new.choices.items last c.requires.node
    (concat_found (task c.args.setting.now).costs c.args.setting.now.sought.limit ((task c.args.setting.now).documents.document c.args.a) ((task c.args.setting.now).documents.document c.args.b) c.args.place.flat c.args.column c.args.place.indentation c.in-Some.middle c.args.choices.now.items c.choose.new.choices.items c.choose-in-Some.new.choices.items last
    (node_nothing (task c.args.setting.now) c.args.place.node (Concat ((task c.args.setting.now).documents.document c.args.a) ((task c.args.setting.now).documents.document c.args.b)) c.args.place.flat c.args.column c.args.place.indentation c.requires.node c.requires.nothing) first
    (moved_part (task c.args.setting.now) c.at-in-Some.result.node c.args.b c.at-in-Some.result.flat c.args.place.flat c.in-Some.middle c.at-in-Some.result.indentation c.args.place.indentation c.choose.new.choices.items c.choose-in-Some.new.choices.items last
    c.at-in-Some.ensures.node c.at-in-Some.ensures.flat c.at-in-Some.ensures.indentation h)))
    c.choose-in-Some.ensures.part

pub by_parts-choose-requires : goal.by_parts-choose-requires
by_parts-choose-requires g t c κs ls =
    (omega (arith, c.decreases, c.in-Some.ensures.fuel), (ls.0, (ls.1.0, (ls.1.1.0, (ls.1.1.1.0, (ls.1.1.1.1, (c.requires.holds, nest_room (task c.args.setting.now) c.args.place.node c.in-Nest.n c.in-Nest.a c.in-Nest.ensures c.requires.room)))))))

pub by_parts-returns-in_ok-further-in-Nest-clause-part : goal.by_parts-returns-in_ok-further-in-Nest-clause-part
by_parts-returns-in_ok-further-in-Nest-clause-part g t c =
    IfOk-weaker c.choose.result _ _
    (λ last h.
    node_part (task c.args.setting.now) c.args.place.node (Nest c.in-Nest.n ((task c.args.setting.now).documents.document c.in-Nest.a)) c.args.place.flat c.args.column c.args.place.indentation c.args.choices.now.items c.choose.new.choices.items last c.in-Nest.ensures
    (of_one (task c.args.setting.now).costs c.args.setting.now.sought.limit (Nest c.in-Nest.n ((task c.args.setting.now).documents.document c.in-Nest.a)) ((task c.args.setting.now).documents.document c.in-Nest.a) c.args.place.flat c.args.place.flat c.args.column c.args.place.indentation (c.args.place.indentation + c.in-Nest.n) c.args.choices.now.items c.choose.new.choices.items last
    (λ none. no_nest c.in-Nest.n ((task c.args.setting.now).documents.document c.in-Nest.a) c.args.place.flat none) (λ xs end part. nest_part (task c.args.setting.now).costs c.args.setting.now.sought.limit c.in-Nest.n ((task c.args.setting.now).documents.document c.in-Nest.a) c.args.place.flat c.args.column c.args.place.indentation xs end part)
    (moved_part (task c.args.setting.now) c.in-Nest.a c.in-Nest.a c.in-Some.inside.flat c.args.place.flat c.args.column c.in_ok-further-in-Nest.field-0 (c.args.place.indentation + c.in-Nest.n) c.args.choices.now.items c.choose.new.choices.items last refl c.in-Some.ensures.flat c.in_ok-further-in-Nest.ensures h)))
    c.choose.ensures.part

pub by_parts-choose-requires-in-Align : goal.by_parts-choose-requires-in-Align
by_parts-choose-requires-in-Align g t c κs ls =
    (omega (arith, c.decreases, c.in-Some.ensures.fuel), (ls.0, (ls.1.0, (ls.1.1.0, (ls.1.1.1.0, (ls.1.1.1.1, (c.requires.holds, align_room (task c.args.setting.now) c.args.place.node c.in-Align.a c.in-Align.ensures c.requires.room)))))))

pub by_parts-returns-in-Align-clause-part : goal.by_parts-returns-in-Align-clause-part
by_parts-returns-in-Align-clause-part g t c =
    IfOk-weaker c.choose-in-Align.result _ _
    (λ last h.
    node_part (task c.args.setting.now) c.args.place.node (Align ((task c.args.setting.now).documents.document c.in-Align.a)) c.args.place.flat c.args.column c.args.place.indentation c.args.choices.now.items c.choose-in-Align.new.choices.items last c.in-Align.ensures
    (of_one (task c.args.setting.now).costs c.args.setting.now.sought.limit (Align ((task c.args.setting.now).documents.document c.in-Align.a)) ((task c.args.setting.now).documents.document c.in-Align.a) c.args.place.flat c.args.place.flat c.args.column c.args.place.indentation (c.args.column) c.args.choices.now.items c.choose-in-Align.new.choices.items last
    (λ none. no_align ((task c.args.setting.now).documents.document c.in-Align.a) c.args.place.flat none) (λ xs end part. align_part (task c.args.setting.now).costs c.args.setting.now.sought.limit ((task c.args.setting.now).documents.document c.in-Align.a) c.args.place.flat c.args.column c.args.place.indentation xs end part)
    (moved_part (task c.args.setting.now) c.in-Align.a c.in-Align.a c.in-Some.inside.flat c.args.place.flat c.args.column c.args.column (c.args.column) c.args.choices.now.items c.choose-in-Align.new.choices.items last refl c.in-Some.ensures.flat refl h)))
    c.choose-in-Align.ensures.part

pub by_parts-choose-requires-in-Reset : goal.by_parts-choose-requires-in-Reset
by_parts-choose-requires-in-Reset g t c κs ls =
    (omega (arith, c.decreases, c.in-Some.ensures.fuel), (ls.0, (ls.1.0, (ls.1.1.0, (ls.1.1.1.0, (ls.1.1.1.1, (c.requires.holds, reset_room (task c.args.setting.now) c.args.place.node c.in-Reset.a c.in-Reset.ensures c.requires.room)))))))

pub by_parts-returns-in-Reset-clause-part : goal.by_parts-returns-in-Reset-clause-part
by_parts-returns-in-Reset-clause-part g t c =
    IfOk-weaker c.choose-in-Reset.result _ _
    (λ last h.
    node_part (task c.args.setting.now) c.args.place.node (Reset ((task c.args.setting.now).documents.document c.in-Reset.a)) c.args.place.flat c.args.column c.args.place.indentation c.args.choices.now.items c.choose-in-Reset.new.choices.items last c.in-Reset.ensures
    (of_one (task c.args.setting.now).costs c.args.setting.now.sought.limit (Reset ((task c.args.setting.now).documents.document c.in-Reset.a)) ((task c.args.setting.now).documents.document c.in-Reset.a) c.args.place.flat c.args.place.flat c.args.column c.args.place.indentation (0) c.args.choices.now.items c.choose-in-Reset.new.choices.items last
    (λ none. no_reset ((task c.args.setting.now).documents.document c.in-Reset.a) c.args.place.flat none) (λ xs end part. reset_part (task c.args.setting.now).costs c.args.setting.now.sought.limit ((task c.args.setting.now).documents.document c.in-Reset.a) c.args.place.flat c.args.column c.args.place.indentation xs end part)
    (moved_part (task c.args.setting.now) c.in-Reset.a c.in-Reset.a c.in-Some.inside.flat c.args.place.flat c.args.column 0 (0) c.args.choices.now.items c.choose-in-Reset.new.choices.items last refl c.in-Some.ensures.flat refl h)))
    c.choose-in-Reset.ensures.part

pub by_parts-choose-requires-in-Flatten : goal.by_parts-choose-requires-in-Flatten
by_parts-choose-requires-in-Flatten g t c κs ls =
    (omega (arith, c.decreases, c.in-Some.ensures.fuel), (ls.0, (ls.1.0, (ls.1.1.0, (ls.1.1.1.0, (ls.1.1.1.1, (c.requires.holds, flatten_room (task c.args.setting.now) c.args.place.node c.in-Flatten.a c.in-Flatten.ensures c.requires.room)))))))

pub by_parts-returns-in-Flatten-clause-part : goal.by_parts-returns-in-Flatten-clause-part
by_parts-returns-in-Flatten-clause-part g t c =
    IfOk-weaker c.choose-in-Flatten.result _ _
    (λ last h.
    node_part (task c.args.setting.now) c.args.place.node (Flatten ((task c.args.setting.now).documents.document c.in-Flatten.a)) c.args.place.flat c.args.column c.args.place.indentation c.args.choices.now.items c.choose-in-Flatten.new.choices.items last c.in-Flatten.ensures
    (of_one (task c.args.setting.now).costs c.args.setting.now.sought.limit (Flatten ((task c.args.setting.now).documents.document c.in-Flatten.a)) ((task c.args.setting.now).documents.document c.in-Flatten.a) c.args.place.flat true c.args.column c.args.place.indentation (c.args.place.indentation) c.args.choices.now.items c.choose-in-Flatten.new.choices.items last
    (λ none. no_flatten ((task c.args.setting.now).documents.document c.in-Flatten.a) c.args.place.flat none) (λ xs end part. flatten_part (task c.args.setting.now).costs c.args.setting.now.sought.limit ((task c.args.setting.now).documents.document c.in-Flatten.a) c.args.place.flat c.args.column c.args.place.indentation xs end part)
    (moved_part (task c.args.setting.now) c.in-Flatten.a c.in-Flatten.a true true c.args.column c.in-Some.inside.indentation (c.args.place.indentation) c.args.choices.now.items c.choose-in-Flatten.new.choices.items last refl refl c.in-Some.ensures.indentation h)))
    c.choose-in-Flatten.ensures.part

pub by_parts-choose-requires-in-Charge : goal.by_parts-choose-requires-in-Charge
by_parts-choose-requires-in-Charge g t c κs ls = (
  omega (arith, c.decreases, c.in-Some.ensures.fuel, c.at.ensures.fuel),
  (
    ls.0,
    (
      ls.1.0,
      (
        ls.1.1.0,
        (
          ls.1.1.1.0,
          (
            ls.1.1.1.1,
            (
              c.requires.holds,
              room_at (task c.args.setting.now) c.at.result.node c.in-Charge.a c.at.ensures.node
                  (charge_room (task c.args.setting.now) c.args.place.node c.in-Charge.field-0 c.in-Charge.a c.in-Charge.ensures c.requires.room),
            ),
          ),
        ),
      ),
    ),
  ),
)

pub by_parts-returns-in-Charge-clause-part : goal.by_parts-returns-in-Charge-clause-part
by_parts-returns-in-Charge-clause-part g t c =
    let d = Charge c.in-Charge.field-0 ((task c.args.setting.now).documents.document c.in-Charge.a) in
    IfOk-weaker c.choose-in-Charge.result _ _
    (λ last h.
    node_part (task c.args.setting.now) c.args.place.node d c.args.place.flat c.args.column c.args.place.indentation c.args.choices.now.items c.choose-in-Charge.new.choices.items last c.in-Charge.ensures
    (of_one (task c.args.setting.now).costs c.args.setting.now.sought.limit d ((task c.args.setting.now).documents.document c.in-Charge.a) c.args.place.flat c.args.place.flat c.args.column c.args.place.indentation c.args.place.indentation c.args.choices.now.items c.choose-in-Charge.new.choices.items last
    (λ none. no_charge c.in-Charge.field-0 ((task c.args.setting.now).documents.document c.in-Charge.a) c.args.place.flat none)
    (λ xs end part. charge_part (task c.args.setting.now).costs c.args.setting.now.sought.limit c.in-Charge.field-0 ((task c.args.setting.now).documents.document c.in-Charge.a) c.args.place.flat c.args.column c.args.place.indentation xs end
    (node_nothing (task c.args.setting.now) c.args.place.node d c.args.place.flat c.args.column c.args.place.indentation c.in-Charge.ensures c.requires.nothing) part)
    (moved_part (task c.args.setting.now) c.at.result.node c.in-Charge.a c.at.result.flat c.args.place.flat c.args.column c.at.result.indentation c.args.place.indentation c.args.choices.now.items c.choose-in-Charge.new.choices.items last
    c.at.ensures.node (c.at.ensures.flat ∙ c.in-Some.ensures.flat) (c.at.ensures.indentation ∙ c.in-Some.ensures.indentation) h)))
    c.choose-in-Charge.ensures.part

pub by_parts-returns-in_ok-further-in-Text-clause-part : goal.by_parts-returns-in_ok-further-in-Text-clause-part
by_parts-returns-in_ok-further-in-Text-clause-part g t c =
    node_part (task c.args.setting.now) c.args.place.node _ c.args.place.flat c.args.column c.args.place.indentation c.args.choices.now.items c.args.choices.now.items (Some c.in_ok-further-in-Text.field-0) c.in-Text.ensures
    (leaf_part (task c.args.setting.now).costs c.args.setting.now.sought.limit _ c.args.place.flat c.args.column c.args.place.indentation c.in_ok-further-in-Text.field-0 (c.args.column + c.in-Text.len) c.args.choices.now.items c.in_ok-further-in-Text.ensures
    (text_part (task c.args.setting.now).costs c.args.setting.now.sought.limit _ c.in-Text.len c.args.place.flat c.args.column c.args.place.indentation))

pub by_parts-returns-in_ok-further-in-Newline-clause-part : goal.by_parts-returns-in_ok-further-in-Newline-clause-part
by_parts-returns-in_ok-further-in-Newline-clause-part g t c =
    node_part (task c.args.setting.now) c.args.place.node Newline c.args.place.flat c.args.column c.args.place.indentation c.args.choices.now.items c.args.choices.now.items (Some c.in_ok-further-in-Newline.field-0) c.in-Newline.ensures
    (leaf_part (task c.args.setting.now).costs c.args.setting.now.sought.limit Newline c.args.place.flat c.args.column c.args.place.indentation c.in_ok-further-in-Newline.field-0 (c.args.column + 1) c.args.choices.now.items c.in_ok-further-in-Newline.ensures
    (space_part (task c.args.setting.now).costs c.args.setting.now.sought.limit c.args.column c.args.place.indentation c.args.place.flat c.if-place.true))

pub by_parts-returns-else-place-clause-part : goal.by_parts-returns-else-place-clause-part
by_parts-returns-else-place-clause-part g t c =
    node_part (task c.args.setting.now) c.args.place.node Newline c.args.place.flat c.args.column c.args.place.indentation c.args.choices.now.items c.args.choices.now.items (Some c.args.place.indentation) c.in-Newline.ensures
    (leaf_part (task c.args.setting.now).costs c.args.setting.now.sought.limit Newline c.args.place.flat c.args.column c.args.place.indentation c.args.place.indentation c.args.place.indentation c.args.choices.now.items refl
    (newline_part (task c.args.setting.now).costs c.args.setting.now.sought.limit c.args.column c.args.place.indentation c.args.place.flat c.if-place.false))

pub by_parts-returns-then-place-2-clause-part : goal.by_parts-returns-then-place-2-clause-part
by_parts-returns-then-place-2-clause-part g t c =
    node_part (task c.args.setting.now) c.args.place.node Hard c.args.place.flat c.args.column c.args.place.indentation c.args.choices.now.items c.args.choices.now.items None c.in-Hard.ensures
    (nothing_part (task c.args.setting.now).costs c.args.setting.now.sought.limit Hard c.args.place.flat c.args.column c.args.place.indentation c.args.choices.now.items (no_hard c.args.place.flat c.if-place-2.true))

pub by_parts-returns-else-place-2-clause-part : goal.by_parts-returns-else-place-2-clause-part
by_parts-returns-else-place-2-clause-part g t c =
    node_part (task c.args.setting.now) c.args.place.node Hard c.args.place.flat c.args.column c.args.place.indentation c.args.choices.now.items c.args.choices.now.items (Some c.args.place.indentation) c.in-Hard.ensures
    (leaf_part (task c.args.setting.now).costs c.args.setting.now.sought.limit Hard c.args.place.flat c.args.column c.args.place.indentation c.args.place.indentation c.args.place.indentation c.args.choices.now.items refl
    (hard_part (task c.args.setting.now).costs c.args.setting.now.sought.limit c.args.column c.args.place.indentation c.args.place.flat c.if-place-2.false))

pub either-choose-requires : goal.either-choose-requires
either-choose-requires g t c κs ls =
    let parts = choice_rooms (task c.args.setting.now) c.args.place.node c.args.a c.args.b c.requires.node c.requires.room in
    (omega (arith, c.decreases, c.at.ensures.fuel), (ls.0, (ls.1.0, (ls.1.1.0, (ls.1.1.1.0, (ls.1.1.1.1, (c.requires.holds, room_at (task c.args.setting.now) c.at.result.node c.args.a c.at.ensures.node parts.0)))))))

pub either-returns-in-Some-clause-part : goal.either-returns-in-Some-clause-part
either-returns-in-Some-clause-part g t c =
    let first = moved_part (task c.args.setting.now) c.at.result.node c.args.a c.at.result.flat c.args.place.flat c.args.column c.at.result.indentation c.args.place.indentation c.push.new.self.items c.choose.new.choices.items (Some c.in-Some.last)
    c.at.ensures.node c.at.ensures.flat c.at.ensures.indentation
    (if_last (task c.args.setting.now) c.at.result.node c.at.result.flat c.args.column c.at.result.indentation c.push.new.self.items c.choose.new.choices.items c.in_ok-last.field-0 (Some c.in-Some.last) c.in-Some.is c.in_ok-last.ensures.part) in
    node_part (task c.args.setting.now) c.args.place.node (Choice ((task c.args.setting.now).documents.document c.args.a) ((task c.args.setting.now).documents.document c.args.b)) c.args.place.flat c.args.column c.args.place.indentation c.args.choices.now.items c.choose.new.choices.items (Some c.in-Some.last) c.requires.node
    (left_found (task c.args.setting.now).costs c.args.setting.now.sought.limit ((task c.args.setting.now).documents.document c.args.a) ((task c.args.setting.now).documents.document c.args.b) c.args.place.flat c.args.column c.args.place.indentation c.in-Some.last c.args.choices.now.items c.push.new.self.items c.choose.new.choices.items
    (node_nothing (task c.args.setting.now) c.args.place.node (Choice ((task c.args.setting.now).documents.document c.args.a) ((task c.args.setting.now).documents.document c.args.b)) c.args.place.flat c.args.column c.args.place.indentation c.requires.node c.requires.nothing) c.in_ok-push.ensures.items first)

pub either-choose-requires-in-None : goal.either-choose-requires-in-None
either-choose-requires-in-None g t c κs ls =
    let parts = choice_rooms (task c.args.setting.now) c.args.place.node c.args.a c.args.b c.requires.node c.requires.room in
    (omega (arith, c.decreases, c.at-in-None.ensures.fuel), (ls.0, (ls.1.0, (ls.1.1.0, (ls.1.1.1.0, (ls.1.1.1.1, (c.in_ok-last.ensures.holds, room_at (task c.args.setting.now) c.at-in-None.result.node c.args.b c.at-in-None.ensures.node parts.1)))))))

pub either-returns-in_ok-push-in-None-clause-part : goal.either-returns-in_ok-push-in-None-clause-part
either-returns-in_ok-push-in-None-clause-part g t c =
    let first = moved_part (task c.args.setting.now) c.at.result.node c.args.a c.at.result.flat c.args.place.flat c.args.column c.at.result.indentation c.args.place.indentation c.push.new.self.items c.choose.new.choices.items None
    c.at.ensures.node c.at.ensures.flat c.at.ensures.indentation
    (if_last (task c.args.setting.now) c.at.result.node c.at.result.flat c.args.column c.at.result.indentation c.push.new.self.items c.choose.new.choices.items c.in_ok-last.field-0 None c.in-None.is c.in_ok-last.ensures.part) in
    let stays : c.len-stay.result ≡ length c.args.choices.now.items = omega (arith, c.len-stay.ensures, c.args.choices.now.ok) in
    let again = stands_again c.args.choices.now.items c.push.new.self.items c.choose.new.choices.items c.truncate.new.self.items Left c.in_ok-push.ensures.items first.1
    (c.truncate.ensures.items ∙ ap (λ k. take k c.choose.new.choices.items) stays) in
    let pushed = c.in_ok-push-in-None.ensures.items ∙ ap (λ z. z ++ Right ∷ []) again in
    IfOk-weaker c.choose-in-None.result _ _
    (λ last h.
    node_part (task c.args.setting.now) c.args.place.node (Choice ((task c.args.setting.now).documents.document c.args.a) ((task c.args.setting.now).documents.document c.args.b)) c.args.place.flat c.args.column c.args.place.indentation c.args.choices.now.items c.choose-in-None.new.choices.items last c.requires.node
    (right_found (task c.args.setting.now).costs c.args.setting.now.sought.limit ((task c.args.setting.now).documents.document c.args.a) ((task c.args.setting.now).documents.document c.args.b) c.args.place.flat c.args.column c.args.place.indentation c.args.choices.now.items c.push-in-None.new.self.items c.choose-in-None.new.choices.items last first.0 pushed
    (moved_part (task c.args.setting.now) c.at-in-None.result.node c.args.b c.at-in-None.result.flat c.args.place.flat c.args.column c.at-in-None.result.indentation c.args.place.indentation c.push-in-None.new.self.items c.choose-in-None.new.choices.items last
    c.at-in-None.ensures.node c.at-in-None.ensures.flat c.at-in-None.ensures.indentation h)))
    c.choose-in-None.ensures.part
