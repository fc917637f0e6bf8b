-- What stands behind a measure of a node, kind by kind.
use Rattle.std.proofs.Common.{◌≡◌, ℕ, true, inl, inr, ◌+◌, [], ◌∷◌, length, take_all, refl, sym, ap, ◌∙◌, subst, arith}
use Rattle.std.specs.Prelude.{slice_get, Some}
use Rattle.std.proofs.lemmas.Result.{IfOk-weaker}
use Rattle.rf_base_document.specs.declared.directions.Dir.TheVariants.{Left, Right}
use Rattle.rf_base_document.specs.Document.{Concat, Newline, Hard, Nest, Align, Reset, Flatten}
use Rattle.rf_base_cost.specs.Pareto.{IsFrontier, EachIsValue}
use Rattle.rf_base_optimum.specs.Plain.{leaf_measure}
use Rattle.rf_base_cut.specs.Cut.{turned}
use Rattle.rf_base_cut.proofs.DocumentSteps as step
use Rattle.rf_frontier.specs.Ways.{choices_of, KeepsWays}
use Rattle.rf_frontier.specs.Frontiers.{chosen}
use Rattle.rf_frontier.proofs.Behind.{belong_keeps}
use Rattle.rf_frontier.proofs.Ways.{keeps_same, keeps_then, keeps_length}
use Rattle.rf_search.specs.Sought.{task}
use Rattle.rf_search.specs.Places.{break_cut, cut_of}
use Rattle.rf_search.specs.Behind.{AreBehind, AreBehindAll}
use Rattle.rf_search.specs.Taking.{measures_of}
use Rattle.rf_search.proofs.Kept.{if_both}
use Rattle.rf_search.proofs.AtOnce.{known_nothing, known_one, still_same, still_asked, still_found}
use Rattle.rf_search.proofs.Told.{told_at, goes_on_by, goes_on_then, goes_on_same, sought_goes_on}
use Rattle.rf_search.proofs.Nodes.{break_found, none_found, plain_text_found, of_part, moved, found_frontier, flat_newline, flat_hard, loose_break}
use Rattle.rf_search.proofs.Served.{number_says}
use Rattle.rf_search.proofs.Going.{before_value, before_goes_on, before_there, older_behind, nothing_before, put_goes_on, put_serves, none_all, all_frontier, all_next}
use Rattle.rf_search.proofs.Sides.{first_before, second_before, both_found, one_all, side_before, either_found, charge_before, charge_found, asked_at, before_at, moved_all, charge_small, nest_before, aligned_before, reset_before, flatten_before}
use Rattle.rf_search.proofs.Given.{given_back, all_given_back, goes_on_given, given_nothing, given_one, given_several, opened_as, row_before, row_behind}
use Rattle.rf_search.proofs.Onward.{so_far_begins, so_far_first, so_far_goes_on, so_far_none, so_far_asked}
use Rattle.rf_search.proofs.Lasts.{so_far_left, so_far_each, so_far_nothing, left_found, left_stays, left_begins, in_place, there, carried, both_there}
use Rattle.rf_search.proofs.after.+after.Goals.{in_sequence-in-One, in_sequence-in-Unknown+in_ok-unless_leaf-in-Unknown+in-One-2}
use Rattle.rf_search.proofs.after.+after.Goals.{in_parts-in-Newline+else-place, in_parts-in-Hard+else-place-2}
use Rattle.rf_search.proofs.after.+after.Goals as goal

pub after-returns-in-Nothing-clause-given : goal.after-returns-in-Nothing-clause-given
after-returns-in-Nothing-clause-given g t c =
    known_nothing (task c.args.setting.now) c.args.found.now.hows c.args.found.now.hows c.args.place.now.node c.args.place.now.flat c.args.place.now.indentation c.args.place.now.cut c.args.m.now c.behind_leaf.new.m c.behind_leaf.result (c.behind_leaf.ensures c.args.place.now.cut) c.in-Nothing.is

pub after-returns-in-Nothing-clause-goes_on : goal.after-returns-in-Nothing-clause-goes_on
after-returns-in-Nothing-clause-goes_on g t c =
    goes_on_same (task c.args.setting.now) c.args.found.now c.requires.holds

pub after-returns-in-One-clause-given : goal.after-returns-in-One-clause-given
after-returns-in-One-clause-given g t c =
    known_one (task c.args.setting.now) c.args.found.now.hows c.args.found.now.hows c.args.place.now.node c.args.place.now.flat c.args.place.now.indentation c.args.place.now.cut c.args.m.now c.behind_leaf.new.m c.behind_leaf.result (c.behind_leaf.ensures c.args.place.now.cut) c.in-One.is

pub after-returns-in-One-clause-goes_on : goal.after-returns-in-One-clause-goes_on
after-returns-in-One-clause-goes_on g t c =
    goes_on_same (task c.args.setting.now) c.args.found.now c.requires.holds

pub after-unless_leaf-requires : goal.after-unless_leaf-requires
after-unless_leaf-requires g t c κs ls =
    let same = still_same (task c.args.setting.now) c.args.found.now.hows c.args.found.now.hows c.args.place.now.node c.args.place.now.flat c.args.place.now.indentation c.args.place.now.cut c.args.m.now c.behind_leaf.new.m c.behind_leaf.result (c.behind_leaf.ensures c.args.place.now.cut) c.in-Unknown.is in (
      omega (arith, c.decreases),
      (ls.0, (ls.1.0, (ls.1.1.0, (ls.1.1.1.0, (ls.1.1.1.1, (c.requires.holds, still_asked (task c.args.setting.now) c.args.found.now.hows c.args.place.now.node c.args.m.now c.behind_leaf.new.m same c.requires.asked)))))),
    )

pub after-returns-in-Unknown-clause-given : goal.after-returns-in-Unknown-clause-given
after-returns-in-Unknown-clause-given g t c =
    let same = still_same (task c.args.setting.now) c.args.found.now.hows c.args.found.now.hows c.args.place.now.node c.args.place.now.flat c.args.place.now.indentation c.args.place.now.cut c.args.m.now c.behind_leaf.new.m c.behind_leaf.result (c.behind_leaf.ensures c.args.place.now.cut) c.in-Unknown.is in
    IfOk-weaker c.unless_leaf.result _ _ (λ behind h. still_found (task c.args.setting.now) c.args.found.now.hows c.unless_leaf.new.found.hows c.args.place.now.node c.args.place.now.flat c.args.place.now.indentation c.args.place.now.cut c.args.m.now c.behind_leaf.new.m _ same h) c.unless_leaf.ensures.given

pub unless_leaf-returns-in-Nothing-clause-given : goal.unless_leaf-returns-in-Nothing-clause-given
unless_leaf-returns-in-Nothing-clause-given g t c =
    known_nothing (task c.args.setting.now) c.args.found.now.hows c.on_one_line.new.found.hows c.args.place.now.node c.args.place.now.flat c.args.place.now.indentation c.args.place.now.cut c.args.m.now c.on_one_line.new.m c.in_ok-on_one_line.field-0 c.in_ok-on_one_line.ensures.known c.in-Nothing.is

pub unless_leaf-returns-in-One-clause-given : goal.unless_leaf-returns-in-One-clause-given
unless_leaf-returns-in-One-clause-given g t c =
    known_one (task c.args.setting.now) c.args.found.now.hows c.on_one_line.new.found.hows c.args.place.now.node c.args.place.now.flat c.args.place.now.indentation c.args.place.now.cut c.args.m.now c.on_one_line.new.m c.in_ok-on_one_line.field-0 c.in_ok-on_one_line.ensures.known c.in-One.is

pub unless_leaf-in_turn-requires : goal.unless_leaf-in_turn-requires
unless_leaf-in_turn-requires g t c κs ls =
    let same = still_same (task c.args.setting.now) c.args.found.now.hows c.on_one_line.new.found.hows c.args.place.now.node c.args.place.now.flat c.args.place.now.indentation c.args.place.now.cut c.args.m.now c.on_one_line.new.m c.in_ok-on_one_line.field-0 c.in_ok-on_one_line.ensures.known c.in-Unknown.is in
    let own = still_asked (task c.args.setting.now) c.args.found.now.hows c.args.place.now.node c.args.m.now c.on_one_line.new.m same c.requires.asked in
    let on = c.in_ok-on_one_line.ensures.goes_on in (
      omega (arith, c.decreases),
      (ls.0, (ls.1.0, (ls.1.1.0, (ls.1.1.1.0, (ls.1.1.1.1, (on.holds, before_goes_on (task c.args.setting.now) c.args.found.now.hows c.on_one_line.new.found.hows c.args.place.now.node c.on_one_line.new.m on.older own)))))),
    )

pub unless_leaf-by_row-requires : goal.unless_leaf-by_row-requires
unless_leaf-by_row-requires g t c κs ls =
    let same = still_same (task c.args.setting.now) c.args.found.now.hows c.on_one_line.new.found.hows c.args.place.now.node c.args.place.now.flat c.args.place.now.indentation c.args.place.now.cut c.args.m.now c.on_one_line.new.m c.in_ok-on_one_line.field-0 c.in_ok-on_one_line.ensures.known c.in-Unknown.is in
    let own = still_asked (task c.args.setting.now) c.args.found.now.hows c.args.place.now.node c.args.m.now c.on_one_line.new.m same c.requires.asked in
    let on = c.in_ok-on_one_line.ensures.goes_on in (
      omega (arith, c.decreases),
      (ls.0, (ls.1.0, (ls.1.1.0, (ls.1.1.1.0, (ls.1.1.1.1, (sym c.number.ensures ∙ c.in-Some.is, (on.holds, before_goes_on (task c.args.setting.now) c.args.found.now.hows c.on_one_line.new.found.hows c.args.place.now.node c.on_one_line.new.m on.older own))))))),
    )

pub unless_leaf-returns-in-None-clause-given : goal.unless_leaf-returns-in-None-clause-given
unless_leaf-returns-in-None-clause-given g t c =
    let same = still_same (task c.args.setting.now) c.args.found.now.hows c.on_one_line.new.found.hows c.args.place.now.node c.args.place.now.flat c.args.place.now.indentation c.args.place.now.cut c.args.m.now c.on_one_line.new.m c.in_ok-on_one_line.field-0 c.in_ok-on_one_line.ensures.known c.in-Unknown.is in
    let own = still_asked (task c.args.setting.now) c.args.found.now.hows c.args.place.now.node c.args.m.now c.on_one_line.new.m same c.requires.asked in
    let on = c.in_ok-on_one_line.ensures.goes_on in
    IfOk-weaker c.in_turn.result _ _
    (λ behind h. still_found (task c.args.setting.now) c.args.found.now.hows c.in_turn.new.found.hows c.args.place.now.node c.args.place.now.flat c.args.place.now.indentation c.args.place.now.cut c.args.m.now c.on_one_line.new.m _ same
    (older_behind (task c.args.setting.now) c.args.found.now.hows c.on_one_line.new.found.hows c.in_turn.new.found.hows c.args.place.now.node c.args.place.now.flat c.args.place.now.indentation c.args.place.now.cut c.on_one_line.new.m _ on.older own.1 h))
    c.in_turn.ensures.given

pub unless_leaf-returns-in-None-clause-goes_on : goal.unless_leaf-returns-in-None-clause-goes_on
unless_leaf-returns-in-None-clause-goes_on g t c =
    IfOk-weaker c.in_turn.result _ _
    (λ behind h. goes_on_then (task c.args.setting.now) c.args.found.now c.on_one_line.new.found c.in_turn.new.found c.in_ok-on_one_line.ensures.goes_on h) c.in_turn.ensures.goes_on

pub unless_leaf-returns-in-Some-clause-given : goal.unless_leaf-returns-in-Some-clause-given
unless_leaf-returns-in-Some-clause-given g t c =
    let same = still_same (task c.args.setting.now) c.args.found.now.hows c.on_one_line.new.found.hows c.args.place.now.node c.args.place.now.flat c.args.place.now.indentation c.args.place.now.cut c.args.m.now c.on_one_line.new.m c.in_ok-on_one_line.field-0 c.in_ok-on_one_line.ensures.known c.in-Unknown.is in
    let own = still_asked (task c.args.setting.now) c.args.found.now.hows c.args.place.now.node c.args.m.now c.on_one_line.new.m same c.requires.asked in
    let on = c.in_ok-on_one_line.ensures.goes_on in
    IfOk-weaker c.by_row.result _ _
    (λ behind h. still_found (task c.args.setting.now) c.args.found.now.hows c.by_row.new.found.hows c.args.place.now.node c.args.place.now.flat c.args.place.now.indentation c.args.place.now.cut c.args.m.now c.on_one_line.new.m _ same
    (older_behind (task c.args.setting.now) c.args.found.now.hows c.on_one_line.new.found.hows c.by_row.new.found.hows c.args.place.now.node c.args.place.now.flat c.args.place.now.indentation c.args.place.now.cut c.on_one_line.new.m _ on.older own.1 h))
    c.by_row.ensures.given

pub unless_leaf-returns-in-Some-clause-goes_on : goal.unless_leaf-returns-in-Some-clause-goes_on
unless_leaf-returns-in-Some-clause-goes_on g t c =
    IfOk-weaker c.by_row.result _ _
    (λ behind h. goes_on_then (task c.args.setting.now) c.args.found.now c.on_one_line.new.found c.by_row.new.found c.in_ok-on_one_line.ensures.goes_on h) c.by_row.ensures.goes_on

pub in_order-in_own_parts-requires : goal.in_order-in_own_parts-requires
in_order-in_own_parts-requires g t c κs ls =
    let on = c.in_ok-behind.ensures.goes_on in (
      omega (arith, c.decreases),
      (ls.0, (ls.1.0, (ls.1.1.0, (ls.1.1.1.0, (ls.1.1.1.1, (on.holds, before_goes_on (task c.args.setting.now) c.args.found.now.hows c.in_sequence.new.found.hows c.args.place.now.node c.args.m.now on.older c.requires.asked)))))),
    )

pub in_order-returns-in-None-clause-given : goal.in_order-returns-in-None-clause-given
in_order-returns-in-None-clause-given g t c =
    let on = c.in_ok-behind.ensures.goes_on in
    IfOk-weaker c.in_own_parts.result _ _ (λ behind h. older_behind (task c.args.setting.now) c.args.found.now.hows c.in_sequence.new.found.hows c.in_own_parts.new.found.hows c.args.place.now.node c.args.place.now.flat c.args.place.now.indentation c.args.place.now.cut c.args.m.now _ on.older c.requires.asked.1 h) c.in_own_parts.ensures.given

pub in_order-returns-in-None-clause-goes_on : goal.in_order-returns-in-None-clause-goes_on
in_order-returns-in-None-clause-goes_on g t c =
    IfOk-weaker c.in_own_parts.result _ _
    (λ behind h. goes_on_then (task c.args.setting.now) c.args.found.now c.in_sequence.new.found c.in_own_parts.new.found c.in_ok-behind.ensures.goes_on h) c.in_own_parts.ensures.goes_on

pub in_sequence-loop-split-init : goal.in_sequence-loop-split-init
in_sequence-loop-split-init g t c =
    record {
      older = keeps_same c.args.found.now.hows;
      holds = c.requires.holds;
      flat = refl;
      cut = refl;
      fuel = omega arith;
      so_far = so_far_begins (task c.args.setting.now) c.args.found.now.hows c.args.place.now.node c.args.place.now.flat c.args.place.now.indentation c.args.place.now.cut c.args.m.now c.args.first c.args.others c.requires.holds.told c.requires.split c.requires.asked;
    }

pub in_sequence-behind_leaf-requires-clause-asked : goal.in_sequence-behind_leaf-requires-clause-asked
in_sequence-behind_leaf-requires-clause-asked g t c =
    so_far_first (task c.args.setting.now) c.args.found.now.hows c.loop-split-2.found.hows c.args.place.now.node c.loop-split.here.flat c.args.place.now.indentation c.loop-split.here.indentation c.loop-split.here.cut c.args.m.now c.loop-split-2.m c.loop-split-2.first c.loop-split-2.others c.loop-split-2.invariant.so_far

pub in_sequence-returns-in-Nothing-clause-given : goal.in_sequence-returns-in-Nothing-clause-given
in_sequence-returns-in-Nothing-clause-given g t c =
    in_place (task c.args.setting.now) c.args.found.now.hows _ c.args.place.now c.loop-split.here c.args.m.now [] c.loop-split.invariant.flat c.loop-split.invariant.cut
    (so_far_none (task c.args.setting.now) c.args.found.now.hows c.loop-split-2.found.hows c.loop-split-2.found.hows c.args.place.now.node c.loop-split.here.flat c.args.place.now.indentation c.loop-split.here.indentation c.loop-split.here.cut (break_cut c.args.setting.now.sought.limit ((task c.args.setting.now).documents.told c.loop-split-2.others c.loop-split.here.flat).begins) c.args.m.now c.loop-split-2.m c.loop-split-2.first c.loop-split-2.others []
    c.loop-split-2.invariant.holds.told c.loop-split-2.invariant.so_far refl
    (known_nothing (task c.args.setting.now) c.loop-split-2.found.hows c.loop-split-2.found.hows c.loop-split-2.first c.loop-split.here.flat c.loop-split.here.indentation (break_cut c.args.setting.now.sought.limit ((task c.args.setting.now).documents.told c.loop-split-2.others c.loop-split.here.flat).begins) c.loop-split-2.m c.behind_leaf.new.m c.behind_leaf.result (c.behind_leaf.ensures (break_cut c.args.setting.now.sought.limit ((task c.args.setting.now).documents.told c.loop-split-2.others c.loop-split.here.flat).begins)) c.in-Nothing.is) refl)

pub in_sequence-returns-in-Nothing-clause-goes_on : goal.in_sequence-returns-in-Nothing-clause-goes_on
in_sequence-returns-in-Nothing-clause-goes_on g t c =
    record { older = c.loop-split-2.invariant.older; holds = c.loop-split-2.invariant.holds }

pub in_sequence-unless_leaf-requires : goal.in_sequence-unless_leaf-requires
in_sequence-unless_leaf-requires g t c κs ls =
    let same = still_same (task c.args.setting.now) c.loop-split-2.found.hows c.loop-split-2.found.hows c.loop-split-2.first c.loop-split.here.flat c.loop-split.here.indentation (break_cut c.args.setting.now.sought.limit ((task c.args.setting.now).documents.told c.loop-split-2.others c.loop-split.here.flat).begins) c.loop-split-2.m c.behind_leaf.new.m c.behind_leaf.result (c.behind_leaf.ensures (break_cut c.args.setting.now.sought.limit ((task c.args.setting.now).documents.told c.loop-split-2.others c.loop-split.here.flat).begins)) c.in-Unknown.is in (
      omega (arith, c.decreases),
      (ls.0, (ls.1.0, (ls.1.1.0, (ls.1.1.1.0, (ls.1.1.1.1, (c.loop-split-2.invariant.holds, still_asked (task c.args.setting.now) c.loop-split-2.found.hows c.loop-split-2.first c.loop-split-2.m c.behind_leaf.new.m same (so_far_first (task c.args.setting.now) c.args.found.now.hows c.loop-split-2.found.hows c.args.place.now.node c.loop-split.here.flat c.args.place.now.indentation c.loop-split.here.indentation c.loop-split.here.cut c.args.m.now c.loop-split-2.m c.loop-split-2.first c.loop-split-2.others c.loop-split-2.invariant.so_far))))))),
    )

pub in_sequence-returns-in-Nothing-2-clause-given : goal.in_sequence-returns-in-Nothing-2-clause-given
in_sequence-returns-in-Nothing-2-clause-given g t c =
    let same = still_same (task c.args.setting.now) c.loop-split-2.found.hows c.loop-split-2.found.hows c.loop-split-2.first c.loop-split.here.flat c.loop-split.here.indentation (break_cut c.args.setting.now.sought.limit ((task c.args.setting.now).documents.told c.loop-split-2.others c.loop-split.here.flat).begins) c.loop-split-2.m c.behind_leaf.new.m c.behind_leaf.result (c.behind_leaf.ensures (break_cut c.args.setting.now.sought.limit ((task c.args.setting.now).documents.told c.loop-split-2.others c.loop-split.here.flat).begins)) c.in-Unknown.is in
    in_place (task c.args.setting.now) c.args.found.now.hows _ c.args.place.now c.loop-split.here c.args.m.now [] c.loop-split.invariant.flat c.loop-split.invariant.cut
    (so_far_none (task c.args.setting.now) c.args.found.now.hows c.loop-split-2.found.hows c.unless_leaf.new.found.hows c.args.place.now.node c.loop-split.here.flat c.args.place.now.indentation c.loop-split.here.indentation c.loop-split.here.cut c.cut_before_break-cut.result c.args.m.now c.loop-split-2.m c.loop-split-2.first c.loop-split-2.others []
    c.loop-split-2.invariant.holds.told c.loop-split-2.invariant.so_far c.cut_before_break-cut.ensures
    (given_nothing (task c.args.setting.now) c.loop-split-2.found.hows c.unless_leaf.new.found.hows c.loop-split-2.first c.loop-split.here.flat c.loop-split.here.indentation c.cut_before_break-cut.result c.loop-split-2.m c.unless_leaf.new.m c.in_ok-unless_leaf-in-Unknown.field-0 c.unless_leaf.new.found.several c.in-Nothing-2.is (still_found (task c.args.setting.now) c.loop-split-2.found.hows c.unless_leaf.new.found.hows c.loop-split-2.first c.loop-split.here.flat c.loop-split.here.indentation c.cut_before_break-cut.result c.loop-split-2.m c.behind_leaf.new.m _ same c.in_ok-unless_leaf-in-Unknown.ensures.given)) refl)

pub in_sequence-returns-in-Nothing-2-clause-goes_on : goal.in_sequence-returns-in-Nothing-2-clause-goes_on
in_sequence-returns-in-Nothing-2-clause-goes_on g t c =
    let on = c.in_ok-unless_leaf-in-Unknown.ensures.goes_on in record { older = keeps_then c.args.found.now.hows c.loop-split-2.found.hows c.unless_leaf.new.found.hows c.loop-split-2.invariant.older on.older; holds = on.holds }

pub in_sequence-loop-split-2-preserved : goal.in_sequence-loop-split-2-preserved
in_sequence-loop-split-2-preserved g t c =
    elim c.match-behind_leaf.branch [
      | in_sequence-in-One w ↦
          let one = known_one (task c.args.setting.now) c.loop-split-2.found.hows c.loop-split-2.found.hows c.loop-split-2.first c.loop-split.here.flat c.loop-split.here.indentation (break_cut c.args.setting.now.sought.limit ((task c.args.setting.now).documents.told c.loop-split-2.others c.loop-split.here.flat).begins) c.loop-split-2.m c.behind_leaf.new.m c.behind_leaf.result (c.behind_leaf.ensures (break_cut c.args.setting.now.sought.limit ((task c.args.setting.now).documents.told c.loop-split-2.others c.loop-split.here.flat).begins)) w.in-One.is in
          let on = so_far_goes_on (task c.args.setting.now) c.args.found.now.hows c.loop-split-2.found.hows c.loop-split-2.found.hows c.args.place.now.node c.loop-split.here.flat c.args.place.now.indentation c.loop-split.here.indentation c.loop-split.here.cut (break_cut c.args.setting.now.sought.limit ((task c.args.setting.now).documents.told c.loop-split-2.others c.loop-split.here.flat).begins) c.args.m.now c.loop-split-2.m c.behind_leaf.new.m c.loop-split-2.first c.loop-split-2.others c.in-Some.split.0 c.in-Some.split.1 (c.behind_leaf.new.m ∷ []) c.loop-split-2.invariant.holds.told c.loop-split-2.invariant.so_far refl one refl c.in-Some.ensures in
          let at = carried (task c.args.setting.now) c.args.found.now.hows c.loop-split-2.found c.match-behind_leaf.found c.args.place.now.node c.loop-split.here.flat c.args.place.now.indentation c.loop-split.here.indentation c.loop-split.here.cut c.args.m.now c.behind_leaf.new.m c.match-behind_leaf.m c.in-Some.split.0 c.in-Some.split.1 w.found-is w.m-is c.loop-split-2.invariant.older c.loop-split-2.invariant.holds on in
          record { older = at.0; holds = at.1; so_far = at.2 }
      | in_sequence-in-Unknown+in_ok-unless_leaf-in-Unknown+in-One-2 w ↦
          let same = still_same (task c.args.setting.now) c.loop-split-2.found.hows c.loop-split-2.found.hows c.loop-split-2.first c.loop-split.here.flat c.loop-split.here.indentation (break_cut c.args.setting.now.sought.limit ((task c.args.setting.now).documents.told c.loop-split-2.others c.loop-split.here.flat).begins) c.loop-split-2.m c.behind_leaf.new.m c.behind_leaf.result (c.behind_leaf.ensures (break_cut c.args.setting.now.sought.limit ((task c.args.setting.now).documents.told c.loop-split-2.others c.loop-split.here.flat).begins)) w.in-Unknown.is in
          let then = w.in_ok-unless_leaf-in-Unknown.ensures.goes_on in
          let one = given_one (task c.args.setting.now) c.loop-split-2.found.hows w.unless_leaf.new.found.hows c.loop-split-2.first c.loop-split.here.flat c.loop-split.here.indentation w.cut_before_break-cut.result c.loop-split-2.m w.unless_leaf.new.m w.in_ok-unless_leaf-in-Unknown.field-0 w.unless_leaf.new.found.several w.in-One-2.is (still_found (task c.args.setting.now) c.loop-split-2.found.hows w.unless_leaf.new.found.hows c.loop-split-2.first c.loop-split.here.flat c.loop-split.here.indentation w.cut_before_break-cut.result c.loop-split-2.m c.behind_leaf.new.m _ same w.in_ok-unless_leaf-in-Unknown.ensures.given) in
          let on = so_far_goes_on (task c.args.setting.now) c.args.found.now.hows c.loop-split-2.found.hows w.unless_leaf.new.found.hows c.args.place.now.node c.loop-split.here.flat c.args.place.now.indentation c.loop-split.here.indentation c.loop-split.here.cut w.cut_before_break-cut.result c.args.m.now c.loop-split-2.m w.unless_leaf.new.m c.loop-split-2.first c.loop-split-2.others c.in-Some.split.0 c.in-Some.split.1 (w.unless_leaf.new.m ∷ []) c.loop-split-2.invariant.holds.told c.loop-split-2.invariant.so_far w.cut_before_break-cut.ensures one refl c.in-Some.ensures in
          let at = carried (task c.args.setting.now) c.args.found.now.hows w.unless_leaf.new.found c.match-behind_leaf.found c.args.place.now.node c.loop-split.here.flat c.args.place.now.indentation c.loop-split.here.indentation c.loop-split.here.cut c.args.m.now w.unless_leaf.new.m c.match-behind_leaf.m c.in-Some.split.0 c.in-Some.split.1 w.found-is w.m-is (keeps_then c.args.found.now.hows c.loop-split-2.found.hows w.unless_leaf.new.found.hows c.loop-split-2.invariant.older then.older) then.holds on in
          record { older = at.0; holds = at.1; so_far = at.2 }
    ]

pub in_sequence-returns-in-Several-clause-goes_on : goal.in_sequence-returns-in-Several-clause-goes_on
in_sequence-returns-in-Several-clause-goes_on g t c =
    let on = c.in_ok-unless_leaf-in-Unknown.ensures.goes_on in record { older = keeps_then c.args.found.now.hows c.loop-split-2.found.hows c.unless_leaf.new.found.hows c.loop-split-2.invariant.older on.older; holds = on.holds }

pub in_sequence-ahead-requires : goal.in_sequence-ahead-requires
in_sequence-ahead-requires g t c κs ls = (
  omega (arith, c.decreases, c.loop-split.invariant.fuel),
  (ls.0, (ls.1.0, (ls.1.1.0, (ls.1.1.1.0, (ls.1.1.1.1, (c.loop-split-2.invariant.holds, so_far_first (task c.args.setting.now) c.args.found.now.hows c.loop-split-2.found.hows c.args.place.now.node c.loop-split.here.flat c.args.place.now.indentation c.loop-split.here.indentation c.loop-split.here.cut c.args.m.now c.loop-split-2.m c.loop-split-2.first c.loop-split-2.others c.loop-split-2.invariant.so_far)))))),
)

pub in_sequence-returns-in-Nothing-3-clause-given : goal.in_sequence-returns-in-Nothing-3-clause-given
in_sequence-returns-in-Nothing-3-clause-given g t c =
    in_place (task c.args.setting.now) c.args.found.now.hows c.ahead.new.found.hows c.args.place.now c.loop-split.here c.args.m.now [] c.loop-split.invariant.flat c.loop-split.invariant.cut
    (so_far_nothing (task c.args.setting.now) c.args.found.now.hows c.loop-split-2.found.hows c.ahead.new.found.hows c.args.place.now.node c.loop-split.here.flat c.args.place.now.indentation c.loop-split.here.indentation c.loop-split.here.cut (cut_of c.args.setting.now.sought.limit c.args.setting.now.sought.free ((task c.args.setting.now).documents.told c.loop-split-2.others c.loop-split.here.flat) c.loop-split.here.cut) c.args.m.now c.loop-split-2.m c.loop-split-2.first c.loop-split-2.others c.loop-split-2.invariant.holds.told c.loop-split-2.invariant.so_far c.in_default.ensures refl
    (given_nothing (task c.args.setting.now) c.loop-split-2.found.hows c.ahead.new.found.hows c.loop-split-2.first c.loop-split.here.flat c.loop-split.here.indentation (cut_of c.args.setting.now.sought.limit c.args.setting.now.sought.free ((task c.args.setting.now).documents.told c.loop-split-2.others c.loop-split.here.flat) c.loop-split.here.cut) c.loop-split-2.m c.ahead.new.m c.in_ok-ahead.field-0 c.ahead.new.found.several c.in-Nothing-3.is c.in_ok-ahead.ensures.given))

pub in_sequence-returns-in-Nothing-3-clause-goes_on : goal.in_sequence-returns-in-Nothing-3-clause-goes_on
in_sequence-returns-in-Nothing-3-clause-goes_on g t c =
    record { older = keeps_then c.args.found.now.hows c.loop-split-2.found.hows c.ahead.new.found.hows c.loop-split-2.invariant.older c.in_ok-ahead.ensures.goes_on.older; holds = c.in_ok-ahead.ensures.goes_on.holds }

pub in_sequence-behind_each-requires : goal.in_sequence-behind_each-requires
in_sequence-behind_each-requires g t c κs ls =
    let several = given_several (task c.args.setting.now) c.loop-split-2.found.hows c.ahead.new.found.hows c.loop-split-2.first c.loop-split.here.flat c.loop-split.here.indentation (cut_of c.args.setting.now.sought.limit c.args.setting.now.sought.free ((task c.args.setting.now).documents.told c.loop-split-2.others c.loop-split.here.flat) c.loop-split.here.cut) c.loop-split-2.m c.ahead.new.m c.in_ok-ahead.field-0 c.ahead.new.found.several c.in-Several-2.is c.in_ok-ahead.ensures.given in (
      omega (arith, c.decreases, c.loop-split.invariant.fuel),
      (
        ls.0,
        (
          ls.1.0,
          (
            ls.1.1.0,
            (
              ls.1.1.1.0,
              (
                ls.1.1.1.1,
                (
                  c.in_ok-ahead.ensures.goes_on.holds,
                  second_before (task c.args.setting.now) c.loop-split-2.found.hows c.ahead.new.found.hows c.loop-split-2.first c.loop-split-2.others c.loop-split.here.flat c.loop-split.here.indentation (cut_of c.args.setting.now.sought.limit c.args.setting.now.sought.free ((task c.args.setting.now).documents.told c.loop-split-2.others c.loop-split.here.flat) c.loop-split.here.cut) c.loop-split-2.m c.ahead.new.found.several c.loop-split-2.invariant.holds.told
                      (so_far_asked (task c.args.setting.now) c.args.found.now.hows c.loop-split-2.found.hows c.args.place.now.node c.loop-split.here.flat c.args.place.now.indentation c.loop-split.here.indentation c.loop-split.here.cut c.args.m.now c.loop-split-2.m c.loop-split-2.first c.loop-split-2.others c.loop-split-2.invariant.so_far c.in_default.ensures) several,
                ),
              ),
            ),
          ),
        ),
      ),
    )

pub in_sequence-returns-in-Several-2-clause-given : goal.in_sequence-returns-in-Several-2-clause-given
in_sequence-returns-in-Several-2-clause-given g t c =
    let several = given_several (task c.args.setting.now) c.loop-split-2.found.hows c.ahead.new.found.hows c.loop-split-2.first c.loop-split.here.flat c.loop-split.here.indentation (cut_of c.args.setting.now.sought.limit c.args.setting.now.sought.free ((task c.args.setting.now).documents.told c.loop-split-2.others c.loop-split.here.flat) c.loop-split.here.cut) c.loop-split-2.m c.ahead.new.m c.in_ok-ahead.field-0 c.ahead.new.found.several c.in-Several-2.is c.in_ok-ahead.ensures.given in
    in_place (task c.args.setting.now) c.args.found.now.hows c.behind_each.new.found.hows c.args.place.now c.loop-split.here c.args.m.now _ c.loop-split.invariant.flat c.loop-split.invariant.cut
    (so_far_each (task c.args.setting.now) c.args.found.now.hows c.loop-split-2.found.hows c.ahead.new.found.hows c.behind_each.new.found.hows c.args.place.now.node c.loop-split.here.flat c.args.place.now.indentation c.loop-split.here.indentation c.loop-split.here.cut (cut_of c.args.setting.now.sought.limit c.args.setting.now.sought.free ((task c.args.setting.now).documents.told c.loop-split-2.others c.loop-split.here.flat) c.loop-split.here.cut) c.args.m.now c.loop-split-2.m c.loop-split-2.first c.loop-split-2.others c.ahead.new.found.several _ c.loop-split-2.invariant.holds.told c.loop-split-2.invariant.so_far c.in_default.ensures refl several c.in_ok-behind_each-in-Several-2.ensures.given)

pub in_sequence-returns-in-Several-2-clause-goes_on : goal.in_sequence-returns-in-Several-2-clause-goes_on
in_sequence-returns-in-Several-2-clause-goes_on g t c =
    record { older = keeps_then c.args.found.now.hows c.ahead.new.found.hows c.behind_each.new.found.hows (keeps_then c.args.found.now.hows c.loop-split-2.found.hows c.ahead.new.found.hows c.loop-split-2.invariant.older c.in_ok-ahead.ensures.goes_on.older) c.in_ok-behind_each-in-Several-2.ensures.goes_on.older; holds = c.in_ok-behind_each-in-Several-2.ensures.goes_on.holds }

pub in_sequence-at_once-requires-clause-asked : goal.in_sequence-at_once-requires-clause-asked
in_sequence-at_once-requires-clause-asked g t c =
    (so_far_left (task c.args.setting.now) c.args.found.now.hows c.loop-split-2.found.hows c.ahead.new.found.hows c.args.place.now.node c.loop-split.here.flat c.args.place.now.indentation c.loop-split.here.indentation c.loop-split.here.cut (cut_of c.args.setting.now.sought.limit c.args.setting.now.sought.free ((task c.args.setting.now).documents.told c.loop-split-2.others c.loop-split.here.flat) c.loop-split.here.cut) c.args.m.now c.loop-split-2.m c.ahead.new.m c.loop-split-2.first c.loop-split-2.others (c.ahead.new.m ∷ []) c.loop-split-2.invariant.holds.told c.loop-split-2.invariant.so_far c.in_default.ensures refl (given_one (task c.args.setting.now) c.loop-split-2.found.hows c.ahead.new.found.hows c.loop-split-2.first c.loop-split.here.flat c.loop-split.here.indentation (cut_of c.args.setting.now.sought.limit c.args.setting.now.sought.free ((task c.args.setting.now).documents.told c.loop-split-2.others c.loop-split.here.flat) c.loop-split.here.cut) c.loop-split-2.m c.ahead.new.m c.in_ok-ahead.field-0 c.ahead.new.found.several c.in-One-3.is c.in_ok-ahead.ensures.given) refl).before

pub in_sequence-returns-in-Nothing-4-clause-given : goal.in_sequence-returns-in-Nothing-4-clause-given
in_sequence-returns-in-Nothing-4-clause-given g t c =
    in_place (task c.args.setting.now) c.args.found.now.hows c.at_once.new.found.hows c.args.place.now c.loop-split.here c.args.m.now [] c.loop-split.invariant.flat c.loop-split.invariant.cut
    (left_found (task c.args.setting.now) c.args.found.now.hows c.ahead.new.found.hows c.at_once.new.found.hows c.args.place.now.node c.loop-split.here.flat c.args.place.now.indentation c.loop-split.here.cut c.args.m.now c.ahead.new.m c.loop-split-2.others c.loop-split.here.indentation []
    (so_far_left (task c.args.setting.now) c.args.found.now.hows c.loop-split-2.found.hows c.ahead.new.found.hows c.args.place.now.node c.loop-split.here.flat c.args.place.now.indentation c.loop-split.here.indentation c.loop-split.here.cut (cut_of c.args.setting.now.sought.limit c.args.setting.now.sought.free ((task c.args.setting.now).documents.told c.loop-split-2.others c.loop-split.here.flat) c.loop-split.here.cut) c.args.m.now c.loop-split-2.m c.ahead.new.m c.loop-split-2.first c.loop-split-2.others (c.ahead.new.m ∷ []) c.loop-split-2.invariant.holds.told c.loop-split-2.invariant.so_far c.in_default.ensures refl (given_one (task c.args.setting.now) c.loop-split-2.found.hows c.ahead.new.found.hows c.loop-split-2.first c.loop-split.here.flat c.loop-split.here.indentation (cut_of c.args.setting.now.sought.limit c.args.setting.now.sought.free ((task c.args.setting.now).documents.told c.loop-split-2.others c.loop-split.here.flat) c.loop-split.here.cut) c.loop-split-2.m c.ahead.new.m c.in_ok-ahead.field-0 c.ahead.new.found.several c.in-One-3.is c.in_ok-ahead.ensures.given) refl)
    (known_nothing (task c.args.setting.now) c.ahead.new.found.hows c.at_once.new.found.hows c.loop-split-2.others c.loop-split.here.flat c.loop-split.here.indentation c.loop-split.here.cut c.ahead.new.m c.at_once.new.m c.in_ok-at_once.field-0 c.in_ok-at_once.ensures.known c.in-Nothing-4.is))

pub in_sequence-returns-in-Nothing-4-clause-goes_on : goal.in_sequence-returns-in-Nothing-4-clause-goes_on
in_sequence-returns-in-Nothing-4-clause-goes_on g t c =
    record { older = keeps_then c.args.found.now.hows c.ahead.new.found.hows c.at_once.new.found.hows (keeps_then c.args.found.now.hows c.loop-split-2.found.hows c.ahead.new.found.hows c.loop-split-2.invariant.older c.in_ok-ahead.ensures.goes_on.older) c.in_ok-at_once.ensures.goes_on.older; holds = c.in_ok-at_once.ensures.goes_on.holds }

pub in_sequence-returns-in-One-4-clause-given : goal.in_sequence-returns-in-One-4-clause-given
in_sequence-returns-in-One-4-clause-given g t c =
    in_place (task c.args.setting.now) c.args.found.now.hows c.at_once.new.found.hows c.args.place.now c.loop-split.here c.args.m.now (c.at_once.new.m ∷ []) c.loop-split.invariant.flat c.loop-split.invariant.cut
    (left_found (task c.args.setting.now) c.args.found.now.hows c.ahead.new.found.hows c.at_once.new.found.hows c.args.place.now.node c.loop-split.here.flat c.args.place.now.indentation c.loop-split.here.cut c.args.m.now c.ahead.new.m c.loop-split-2.others c.loop-split.here.indentation (c.at_once.new.m ∷ [])
    (so_far_left (task c.args.setting.now) c.args.found.now.hows c.loop-split-2.found.hows c.ahead.new.found.hows c.args.place.now.node c.loop-split.here.flat c.args.place.now.indentation c.loop-split.here.indentation c.loop-split.here.cut (cut_of c.args.setting.now.sought.limit c.args.setting.now.sought.free ((task c.args.setting.now).documents.told c.loop-split-2.others c.loop-split.here.flat) c.loop-split.here.cut) c.args.m.now c.loop-split-2.m c.ahead.new.m c.loop-split-2.first c.loop-split-2.others (c.ahead.new.m ∷ []) c.loop-split-2.invariant.holds.told c.loop-split-2.invariant.so_far c.in_default.ensures refl (given_one (task c.args.setting.now) c.loop-split-2.found.hows c.ahead.new.found.hows c.loop-split-2.first c.loop-split.here.flat c.loop-split.here.indentation (cut_of c.args.setting.now.sought.limit c.args.setting.now.sought.free ((task c.args.setting.now).documents.told c.loop-split-2.others c.loop-split.here.flat) c.loop-split.here.cut) c.loop-split-2.m c.ahead.new.m c.in_ok-ahead.field-0 c.ahead.new.found.several c.in-One-3.is c.in_ok-ahead.ensures.given) refl)
    (known_one (task c.args.setting.now) c.ahead.new.found.hows c.at_once.new.found.hows c.loop-split-2.others c.loop-split.here.flat c.loop-split.here.indentation c.loop-split.here.cut c.ahead.new.m c.at_once.new.m c.in_ok-at_once.field-0 c.in_ok-at_once.ensures.known c.in-One-4.is))

pub in_sequence-returns-in-One-4-clause-goes_on : goal.in_sequence-returns-in-One-4-clause-goes_on
in_sequence-returns-in-One-4-clause-goes_on g t c =
    record { older = keeps_then c.args.found.now.hows c.ahead.new.found.hows c.at_once.new.found.hows (keeps_then c.args.found.now.hows c.loop-split-2.found.hows c.ahead.new.found.hows c.loop-split-2.invariant.older c.in_ok-ahead.ensures.goes_on.older) c.in_ok-at_once.ensures.goes_on.older; holds = c.in_ok-at_once.ensures.goes_on.holds }

pub in_sequence-by_row-requires : goal.in_sequence-by_row-requires
in_sequence-by_row-requires g t c κs ls = (
  omega (arith, c.decreases, c.loop-split.invariant.fuel),
  (ls.0, (ls.1.0, (ls.1.1.0, (ls.1.1.1.0, (ls.1.1.1.1, (sym c.number.ensures ∙ c.in-Some-number.is, (c.in_ok-at_once.ensures.goes_on.holds, (left_stays (task c.args.setting.now) c.args.found.now.hows c.ahead.new.found.hows c.at_once.new.found.hows c.args.place.now.node c.loop-split.here.flat c.args.place.now.indentation c.loop-split.here.cut c.args.m.now c.ahead.new.m c.at_once.new.m c.loop-split-2.others c.loop-split.here.indentation (so_far_left (task c.args.setting.now) c.args.found.now.hows c.loop-split-2.found.hows c.ahead.new.found.hows c.args.place.now.node c.loop-split.here.flat c.args.place.now.indentation c.loop-split.here.indentation c.loop-split.here.cut (cut_of c.args.setting.now.sought.limit c.args.setting.now.sought.free ((task c.args.setting.now).documents.told c.loop-split-2.others c.loop-split.here.flat) c.loop-split.here.cut) c.args.m.now c.loop-split-2.m c.ahead.new.m c.loop-split-2.first c.loop-split-2.others (c.ahead.new.m ∷ []) c.loop-split-2.invariant.holds.told c.loop-split-2.invariant.so_far c.in_default.ensures refl (given_one (task c.args.setting.now) c.loop-split-2.found.hows c.ahead.new.found.hows c.loop-split-2.first c.loop-split.here.flat c.loop-split.here.indentation (cut_of c.args.setting.now.sought.limit c.args.setting.now.sought.free ((task c.args.setting.now).documents.told c.loop-split-2.others c.loop-split.here.flat) c.loop-split.here.cut) c.loop-split-2.m c.ahead.new.m c.in_ok-ahead.field-0 c.ahead.new.found.several c.in-One-3.is c.in_ok-ahead.ensures.given) refl) c.in_ok-at_once.ensures.goes_on.older (still_same (task c.args.setting.now) c.ahead.new.found.hows c.at_once.new.found.hows c.loop-split-2.others c.loop-split.here.flat c.loop-split.here.indentation c.loop-split.here.cut c.ahead.new.m c.at_once.new.m c.in_ok-at_once.field-0 c.in_ok-at_once.ensures.known c.in-Unknown-2.is)).before))))))),
)

pub in_sequence-returns-in-Some-number-clause-given : goal.in_sequence-returns-in-Some-number-clause-given
in_sequence-returns-in-Some-number-clause-given g t c =
    in_place (task c.args.setting.now) c.args.found.now.hows c.by_row.new.found.hows c.args.place.now c.loop-split.here c.args.m.now _ c.loop-split.invariant.flat c.loop-split.invariant.cut
    (left_found (task c.args.setting.now) c.args.found.now.hows c.at_once.new.found.hows c.by_row.new.found.hows c.args.place.now.node c.loop-split.here.flat c.args.place.now.indentation c.loop-split.here.cut c.args.m.now c.at_once.new.m c.loop-split-2.others c.loop-split.here.indentation _
    (left_stays (task c.args.setting.now) c.args.found.now.hows c.ahead.new.found.hows c.at_once.new.found.hows c.args.place.now.node c.loop-split.here.flat c.args.place.now.indentation c.loop-split.here.cut c.args.m.now c.ahead.new.m c.at_once.new.m c.loop-split-2.others c.loop-split.here.indentation (so_far_left (task c.args.setting.now) c.args.found.now.hows c.loop-split-2.found.hows c.ahead.new.found.hows c.args.place.now.node c.loop-split.here.flat c.args.place.now.indentation c.loop-split.here.indentation c.loop-split.here.cut (cut_of c.args.setting.now.sought.limit c.args.setting.now.sought.free ((task c.args.setting.now).documents.told c.loop-split-2.others c.loop-split.here.flat) c.loop-split.here.cut) c.args.m.now c.loop-split-2.m c.ahead.new.m c.loop-split-2.first c.loop-split-2.others (c.ahead.new.m ∷ []) c.loop-split-2.invariant.holds.told c.loop-split-2.invariant.so_far c.in_default.ensures refl (given_one (task c.args.setting.now) c.loop-split-2.found.hows c.ahead.new.found.hows c.loop-split-2.first c.loop-split.here.flat c.loop-split.here.indentation (cut_of c.args.setting.now.sought.limit c.args.setting.now.sought.free ((task c.args.setting.now).documents.told c.loop-split-2.others c.loop-split.here.flat) c.loop-split.here.cut) c.loop-split-2.m c.ahead.new.m c.in_ok-ahead.field-0 c.ahead.new.found.several c.in-One-3.is c.in_ok-ahead.ensures.given) refl) c.in_ok-at_once.ensures.goes_on.older (still_same (task c.args.setting.now) c.ahead.new.found.hows c.at_once.new.found.hows c.loop-split-2.others c.loop-split.here.flat c.loop-split.here.indentation c.loop-split.here.cut c.ahead.new.m c.at_once.new.m c.in_ok-at_once.field-0 c.in_ok-at_once.ensures.known c.in-Unknown-2.is)) c.in_ok-by_row.ensures.given)

pub in_sequence-returns-in-Some-number-clause-goes_on : goal.in_sequence-returns-in-Some-number-clause-goes_on
in_sequence-returns-in-Some-number-clause-goes_on g t c =
    record { older = keeps_then c.args.found.now.hows c.at_once.new.found.hows c.by_row.new.found.hows (keeps_then c.args.found.now.hows c.ahead.new.found.hows c.at_once.new.found.hows (keeps_then c.args.found.now.hows c.loop-split-2.found.hows c.ahead.new.found.hows c.loop-split-2.invariant.older c.in_ok-ahead.ensures.goes_on.older) c.in_ok-at_once.ensures.goes_on.older) c.in_ok-by_row.ensures.goes_on.older; holds = c.in_ok-by_row.ensures.goes_on.holds }

pub in_sequence-loop-split-preserved : goal.in_sequence-loop-split-preserved
in_sequence-loop-split-preserved g t c =
    let row = c.in-Some-enter_row.ensures.row in
    record {
      older = keeps_then c.args.found.now.hows c.ahead.new.found.hows c.at_once.new.found.hows (keeps_then c.args.found.now.hows c.loop-split-2.found.hows c.ahead.new.found.hows c.loop-split-2.invariant.older c.in_ok-ahead.ensures.goes_on.older) c.in_ok-at_once.ensures.goes_on.older;
      holds = c.in_ok-at_once.ensures.goes_on.holds;
      flat = row.0.flat ∙ c.loop-split.invariant.flat;
      cut = row.0.cut ∙ c.loop-split.invariant.cut;
      fuel = omega (arith, row.0.fuel, c.loop-split.invariant.fuel);
      so_far = left_begins (task c.args.setting.now) c.args.found.now.hows c.at_once.new.found.hows c.args.place.now.node (record { node = c.loop-split-2.others; flat = c.loop-split.here.flat; indentation = c.loop-split.here.indentation; cut = c.loop-split.here.cut; fuel = c.loop-split.here.fuel }) c.enter_row.new.place c.args.place.now.indentation c.args.m.now c.at_once.new.m c.in-Some-enter_row.split.0 c.in-Some-enter_row.split.1 c.in_ok-at_once.ensures.goes_on.holds.told
          (left_stays (task c.args.setting.now) c.args.found.now.hows c.ahead.new.found.hows c.at_once.new.found.hows c.args.place.now.node c.loop-split.here.flat c.args.place.now.indentation c.loop-split.here.cut c.args.m.now c.ahead.new.m c.at_once.new.m c.loop-split-2.others c.loop-split.here.indentation (so_far_left (task c.args.setting.now) c.args.found.now.hows c.loop-split-2.found.hows c.ahead.new.found.hows c.args.place.now.node c.loop-split.here.flat c.args.place.now.indentation c.loop-split.here.indentation c.loop-split.here.cut (cut_of c.args.setting.now.sought.limit c.args.setting.now.sought.free ((task c.args.setting.now).documents.told c.loop-split-2.others c.loop-split.here.flat) c.loop-split.here.cut) c.args.m.now c.loop-split-2.m c.ahead.new.m c.loop-split-2.first c.loop-split-2.others (c.ahead.new.m ∷ []) c.loop-split-2.invariant.holds.told c.loop-split-2.invariant.so_far c.in_default.ensures refl (given_one (task c.args.setting.now) c.loop-split-2.found.hows c.ahead.new.found.hows c.loop-split-2.first c.loop-split.here.flat c.loop-split.here.indentation (cut_of c.args.setting.now.sought.limit c.args.setting.now.sought.free ((task c.args.setting.now).documents.told c.loop-split-2.others c.loop-split.here.flat) c.loop-split.here.cut) c.loop-split-2.m c.ahead.new.m c.in_ok-ahead.field-0 c.ahead.new.found.several c.in-One-3.is c.in_ok-ahead.ensures.given) refl) c.in_ok-at_once.ensures.goes_on.older (still_same (task c.args.setting.now) c.ahead.new.found.hows c.at_once.new.found.hows c.loop-split-2.others c.loop-split.here.flat c.loop-split.here.indentation c.loop-split.here.cut c.ahead.new.m c.at_once.new.m c.in_ok-at_once.field-0 c.in_ok-at_once.ensures.known c.in-Unknown-2.is)) row.0 row.1;
    }

pub in_sequence-in_own_parts-requires : goal.in_sequence-in_own_parts-requires
in_sequence-in_own_parts-requires g t c κs ls =
    let stays = c.in_default-enter_row.ensures.stays refl in (
      omega (arith, c.decreases, c.loop-split.invariant.fuel, ap (λ z. z.fuel) stays),
      (ls.0, (ls.1.0, (ls.1.1.0, (ls.1.1.1.0, (ls.1.1.1.1, (c.in_ok-at_once.ensures.goes_on.holds, asked_at (task c.args.setting.now) c.at_once.new.found.hows c.enter_row.new.place.node c.loop-split-2.others c.at_once.new.m (ap (λ z. z.node) stays) (left_stays (task c.args.setting.now) c.args.found.now.hows c.ahead.new.found.hows c.at_once.new.found.hows c.args.place.now.node c.loop-split.here.flat c.args.place.now.indentation c.loop-split.here.cut c.args.m.now c.ahead.new.m c.at_once.new.m c.loop-split-2.others c.loop-split.here.indentation (so_far_left (task c.args.setting.now) c.args.found.now.hows c.loop-split-2.found.hows c.ahead.new.found.hows c.args.place.now.node c.loop-split.here.flat c.args.place.now.indentation c.loop-split.here.indentation c.loop-split.here.cut (cut_of c.args.setting.now.sought.limit c.args.setting.now.sought.free ((task c.args.setting.now).documents.told c.loop-split-2.others c.loop-split.here.flat) c.loop-split.here.cut) c.args.m.now c.loop-split-2.m c.ahead.new.m c.loop-split-2.first c.loop-split-2.others (c.ahead.new.m ∷ []) c.loop-split-2.invariant.holds.told c.loop-split-2.invariant.so_far c.in_default.ensures refl (given_one (task c.args.setting.now) c.loop-split-2.found.hows c.ahead.new.found.hows c.loop-split-2.first c.loop-split.here.flat c.loop-split.here.indentation (cut_of c.args.setting.now.sought.limit c.args.setting.now.sought.free ((task c.args.setting.now).documents.told c.loop-split-2.others c.loop-split.here.flat) c.loop-split.here.cut) c.loop-split-2.m c.ahead.new.m c.in_ok-ahead.field-0 c.ahead.new.found.several c.in-One-3.is c.in_ok-ahead.ensures.given) refl) c.in_ok-at_once.ensures.goes_on.older (still_same (task c.args.setting.now) c.ahead.new.found.hows c.at_once.new.found.hows c.loop-split-2.others c.loop-split.here.flat c.loop-split.here.indentation c.loop-split.here.cut c.ahead.new.m c.at_once.new.m c.in_ok-at_once.field-0 c.in_ok-at_once.ensures.known c.in-Unknown-2.is)).before)))))),
    )

pub in_sequence-returns-in_default-enter_row-clause-given : goal.in_sequence-returns-in_default-enter_row-clause-given
in_sequence-returns-in_default-enter_row-clause-given g t c =
    let stays = c.in_default-enter_row.ensures.stays refl in
    in_place (task c.args.setting.now) c.args.found.now.hows c.in_own_parts.new.found.hows c.args.place.now c.loop-split.here c.args.m.now _ c.loop-split.invariant.flat c.loop-split.invariant.cut
    (left_found (task c.args.setting.now) c.args.found.now.hows c.at_once.new.found.hows c.in_own_parts.new.found.hows c.args.place.now.node c.loop-split.here.flat c.args.place.now.indentation c.loop-split.here.cut c.args.m.now c.at_once.new.m c.loop-split-2.others c.loop-split.here.indentation _
    (left_stays (task c.args.setting.now) c.args.found.now.hows c.ahead.new.found.hows c.at_once.new.found.hows c.args.place.now.node c.loop-split.here.flat c.args.place.now.indentation c.loop-split.here.cut c.args.m.now c.ahead.new.m c.at_once.new.m c.loop-split-2.others c.loop-split.here.indentation (so_far_left (task c.args.setting.now) c.args.found.now.hows c.loop-split-2.found.hows c.ahead.new.found.hows c.args.place.now.node c.loop-split.here.flat c.args.place.now.indentation c.loop-split.here.indentation c.loop-split.here.cut (cut_of c.args.setting.now.sought.limit c.args.setting.now.sought.free ((task c.args.setting.now).documents.told c.loop-split-2.others c.loop-split.here.flat) c.loop-split.here.cut) c.args.m.now c.loop-split-2.m c.ahead.new.m c.loop-split-2.first c.loop-split-2.others (c.ahead.new.m ∷ []) c.loop-split-2.invariant.holds.told c.loop-split-2.invariant.so_far c.in_default.ensures refl (given_one (task c.args.setting.now) c.loop-split-2.found.hows c.ahead.new.found.hows c.loop-split-2.first c.loop-split.here.flat c.loop-split.here.indentation (cut_of c.args.setting.now.sought.limit c.args.setting.now.sought.free ((task c.args.setting.now).documents.told c.loop-split-2.others c.loop-split.here.flat) c.loop-split.here.cut) c.loop-split-2.m c.ahead.new.m c.in_ok-ahead.field-0 c.ahead.new.found.several c.in-One-3.is c.in_ok-ahead.ensures.given) refl) c.in_ok-at_once.ensures.goes_on.older (still_same (task c.args.setting.now) c.ahead.new.found.hows c.at_once.new.found.hows c.loop-split-2.others c.loop-split.here.flat c.loop-split.here.indentation c.loop-split.here.cut c.ahead.new.m c.at_once.new.m c.in_ok-at_once.field-0 c.in_ok-at_once.ensures.known c.in-Unknown-2.is))
    (moved (task c.args.setting.now) c.at_once.new.found.hows c.in_own_parts.new.found.hows c.enter_row.new.place.node c.loop-split-2.others c.enter_row.new.place.flat c.loop-split.here.flat c.enter_row.new.place.indentation c.loop-split.here.indentation c.enter_row.new.place.cut c.loop-split.here.cut c.at_once.new.m _ (ap (λ z. z.node) stays) (ap (λ z. z.flat) stays) (ap (λ z. z.indentation) stays) (ap (λ z. z.cut) stays) c.in_ok-in_own_parts.ensures.given))

pub in_sequence-returns-in_default-enter_row-clause-goes_on : goal.in_sequence-returns-in_default-enter_row-clause-goes_on
in_sequence-returns-in_default-enter_row-clause-goes_on g t c =
    record { older = keeps_then c.args.found.now.hows c.at_once.new.found.hows c.in_own_parts.new.found.hows (keeps_then c.args.found.now.hows c.ahead.new.found.hows c.at_once.new.found.hows (keeps_then c.args.found.now.hows c.loop-split-2.found.hows c.ahead.new.found.hows c.loop-split-2.invariant.older c.in_ok-ahead.ensures.goes_on.older) c.in_ok-at_once.ensures.goes_on.older) c.in_ok-in_own_parts.ensures.goes_on.older; holds = c.in_ok-in_own_parts.ensures.goes_on.holds }

pub in_turn-in_order-requires : goal.in_turn-in_order-requires
in_turn-in_order-requires g t c κs ls = (
  omega (arith, c.decreases, c.in-Some.ensures.row.0.fuel),
  (ls.0, (ls.1.0, (ls.1.1.0, (ls.1.1.1.0, (ls.1.1.1.1, (c.in-Some.ensures.row.1, (c.requires.holds, row_before (task c.args.setting.now) c.args.found.now.hows c.args.m.now.last c.args.place.now c.enter_row.new.place c.args.m.now c.in-Some.ensures.row.0 c.requires.asked))))))),
)

pub in_turn-returns-in-Some-clause-given : goal.in_turn-returns-in-Some-clause-given
in_turn-returns-in-Some-clause-given g t c =
    IfOk-weaker c.in_order.result _ _ (λ behind h. row_behind (task c.args.setting.now) c.args.found.now.hows c.in_order.new.found.hows c.args.place.now c.enter_row.new.place c.args.m.now _ c.in-Some.ensures.row.0 h) c.in_order.ensures.given

pub both-ahead-requires : goal.both-ahead-requires
both-ahead-requires g t c κs ls = (
  omega (arith, c.decreases, c.at-second.ensures.fuel),
  (ls.0, (ls.1.0, (ls.1.1.0, (ls.1.1.1.0, (ls.1.1.1.1, (c.requires.holds, first_before (task c.args.setting.now) c.args.found.now.hows c.args.a c.args.b c.args.m.now c.requires.asked)))))),
)

pub both-after-requires : goal.both-after-requires
both-after-requires g t c κs ls =
    let one = given_one (task c.args.setting.now) c.args.found.now.hows c.ahead.new.found.hows c.args.a c.at-second.result.flat c.at-second.result.indentation (cut_of c.args.setting.now.sought.limit c.args.setting.now.sought.free ((task c.args.setting.now).documents.told c.at-second.result.node c.at-second.result.flat) c.at-second.result.cut) c.args.m.now c.ahead.new.m c.in_ok-ahead.field-0 c.ahead.new.found.several c.in-One.is c.in_ok-ahead.ensures.given in
    let each = second_before (task c.args.setting.now) c.args.found.now.hows c.ahead.new.found.hows c.args.a c.args.b c.at-second.result.flat c.at-second.result.indentation (cut_of c.args.setting.now.sought.limit c.args.setting.now.sought.free ((task c.args.setting.now).documents.told c.at-second.result.node c.at-second.result.flat) c.at-second.result.cut) c.args.m.now (c.ahead.new.m ∷ []) c.requires.holds.told c.requires.asked one in
    let own = before_there (task c.args.setting.now) c.ahead.new.found.hows c.args.b (c.ahead.new.m ∷ []) 0 c.ahead.new.m each refl in (
      omega (arith, c.decreases, c.at-second.ensures.fuel),
      (ls.0, (ls.1.0, (ls.1.1.0, (ls.1.1.1.0, (ls.1.1.1.1, (c.in_ok-ahead.ensures.goes_on.holds, asked_at (task c.args.setting.now) c.ahead.new.found.hows c.at-second.result.node c.args.b c.ahead.new.m c.at-second.ensures.node own)))))),
    )

pub both-behind_each-requires : goal.both-behind_each-requires
both-behind_each-requires g t c κs ls =
    let several = given_several (task c.args.setting.now) c.args.found.now.hows c.ahead.new.found.hows c.args.a c.at-second.result.flat c.at-second.result.indentation (cut_of c.args.setting.now.sought.limit c.args.setting.now.sought.free ((task c.args.setting.now).documents.told c.at-second.result.node c.at-second.result.flat) c.at-second.result.cut) c.args.m.now c.ahead.new.m c.in_ok-ahead.field-0 c.ahead.new.found.several c.in-Several.is c.in_ok-ahead.ensures.given in (
      omega (arith, c.decreases, c.at-second.ensures.fuel),
      (
        ls.0,
        (
          ls.1.0,
          (
            ls.1.1.0,
            (
              ls.1.1.1.0,
              (
                ls.1.1.1.1,
                (
                  c.in_ok-ahead.ensures.goes_on.holds,
                  before_at (task c.args.setting.now) c.ahead.new.found.hows c.at-second.result.node c.args.b c.ahead.new.found.several c.at-second.ensures.node
                      (second_before (task c.args.setting.now) c.args.found.now.hows c.ahead.new.found.hows c.args.a c.args.b c.at-second.result.flat c.at-second.result.indentation (cut_of c.args.setting.now.sought.limit c.args.setting.now.sought.free ((task c.args.setting.now).documents.told c.at-second.result.node c.at-second.result.flat) c.at-second.result.cut) c.args.m.now c.ahead.new.found.several c.requires.holds.told c.requires.asked several),
                ),
              ),
            ),
          ),
        ),
      ),
    )

pub both-returns-in-Nothing-clause-given : goal.both-returns-in-Nothing-clause-given
both-returns-in-Nothing-clause-given g t c =
    let known = told_at (task c.args.setting.now) c.args.found.now.hows c.args.b c.at-second.result.flat ((task c.args.setting.now).documents.told c.at-second.result.node c.at-second.result.flat) c.requires.holds.told (ap (λ z. (task c.args.setting.now).documents.told z c.at-second.result.flat) c.at-second.ensures.node) in
    both_there (task c.args.setting.now) c.args.found.now.hows c.ahead.new.found.hows (Concat ((task c.args.setting.now).documents.document c.args.a) ((task c.args.setting.now).documents.document c.args.b)) c.at-second.result c.args.place.now c.args.m.now [] c.at-second.ensures.flat c.at-second.ensures.indentation c.at-second.ensures.cut
    (both_found (task c.args.setting.now) c.args.found.now.hows c.ahead.new.found.hows c.ahead.new.found.hows c.args.a c.args.b c.at-second.result.flat c.at-second.result.indentation c.at-second.result.cut (cut_of c.args.setting.now.sought.limit c.args.setting.now.sought.free ((task c.args.setting.now).documents.told c.at-second.result.node c.at-second.result.flat) c.at-second.result.cut) ((task c.args.setting.now).documents.told c.at-second.result.node c.at-second.result.flat) c.args.m.now [] [] c.requires.holds.told c.requires.asked known refl (given_nothing (task c.args.setting.now) c.args.found.now.hows c.ahead.new.found.hows c.args.a c.at-second.result.flat c.at-second.result.indentation (cut_of c.args.setting.now.sought.limit c.args.setting.now.sought.free ((task c.args.setting.now).documents.told c.at-second.result.node c.at-second.result.flat) c.at-second.result.cut) c.args.m.now c.ahead.new.m c.in_ok-ahead.field-0 c.ahead.new.found.several c.in-Nothing.is c.in_ok-ahead.ensures.given)
    (none_all (task c.args.setting.now) c.ahead.new.found.hows c.args.b c.at-second.result.flat c.at-second.result.indentation c.at-second.result.cut [] refl))

pub both-returns-in-One-clause-given : goal.both-returns-in-One-clause-given
both-returns-in-One-clause-given g t c =
    let known = told_at (task c.args.setting.now) c.args.found.now.hows c.args.b c.at-second.result.flat ((task c.args.setting.now).documents.told c.at-second.result.node c.at-second.result.flat) c.requires.holds.told (ap (λ z. (task c.args.setting.now).documents.told z c.at-second.result.flat) c.at-second.ensures.node) in
    let one = given_one (task c.args.setting.now) c.args.found.now.hows c.ahead.new.found.hows c.args.a c.at-second.result.flat c.at-second.result.indentation (cut_of c.args.setting.now.sought.limit c.args.setting.now.sought.free ((task c.args.setting.now).documents.told c.at-second.result.node c.at-second.result.flat) c.at-second.result.cut) c.args.m.now c.ahead.new.m c.in_ok-ahead.field-0 c.ahead.new.found.several c.in-One.is c.in_ok-ahead.ensures.given in
    let each = second_before (task c.args.setting.now) c.args.found.now.hows c.ahead.new.found.hows c.args.a c.args.b c.at-second.result.flat c.at-second.result.indentation (cut_of c.args.setting.now.sought.limit c.args.setting.now.sought.free ((task c.args.setting.now).documents.told c.at-second.result.node c.at-second.result.flat) c.at-second.result.cut) c.args.m.now (c.ahead.new.m ∷ []) c.requires.holds.told c.requires.asked one in
    let own = before_there (task c.args.setting.now) c.ahead.new.found.hows c.args.b (c.ahead.new.m ∷ []) 0 c.ahead.new.m each refl in
    IfOk-weaker c.after.result _ _
    (λ behind h. both_there (task c.args.setting.now) c.args.found.now.hows c.after.new.found.hows (Concat ((task c.args.setting.now).documents.document c.args.a) ((task c.args.setting.now).documents.document c.args.b)) c.at-second.result c.args.place.now c.args.m.now _ c.at-second.ensures.flat c.at-second.ensures.indentation c.at-second.ensures.cut
    (both_found (task c.args.setting.now) c.args.found.now.hows c.ahead.new.found.hows c.after.new.found.hows c.args.a c.args.b c.at-second.result.flat c.at-second.result.indentation c.at-second.result.cut (cut_of c.args.setting.now.sought.limit c.args.setting.now.sought.free ((task c.args.setting.now).documents.told c.at-second.result.node c.at-second.result.flat) c.at-second.result.cut) ((task c.args.setting.now).documents.told c.at-second.result.node c.at-second.result.flat) c.args.m.now (c.ahead.new.m ∷ []) _ c.requires.holds.told c.requires.asked known refl one
    (one_all (task c.args.setting.now) c.ahead.new.found.hows c.after.new.found.hows c.args.b c.at-second.result.flat c.at-second.result.indentation c.at-second.result.cut c.ahead.new.m (c.ahead.new.m ∷ []) _ c.in_ok-ahead.ensures.goes_on.holds.told refl own
    (moved (task c.args.setting.now) c.ahead.new.found.hows c.after.new.found.hows c.at-second.result.node c.args.b c.at-second.result.flat c.at-second.result.flat c.at-second.result.indentation c.at-second.result.indentation c.at-second.result.cut c.at-second.result.cut c.ahead.new.m _ c.at-second.ensures.node refl refl refl h))))
    c.after.ensures.given

pub both-returns-in-One-clause-goes_on : goal.both-returns-in-One-clause-goes_on
both-returns-in-One-clause-goes_on g t c =
    IfOk-weaker c.after.result _ _
    (λ behind h. goes_on_then (task c.args.setting.now) c.args.found.now c.ahead.new.found c.after.new.found c.in_ok-ahead.ensures.goes_on h) c.after.ensures.goes_on

pub both-returns-in-Several-clause-given : goal.both-returns-in-Several-clause-given
both-returns-in-Several-clause-given g t c =
    let known = told_at (task c.args.setting.now) c.args.found.now.hows c.args.b c.at-second.result.flat ((task c.args.setting.now).documents.told c.at-second.result.node c.at-second.result.flat) c.requires.holds.told (ap (λ z. (task c.args.setting.now).documents.told z c.at-second.result.flat) c.at-second.ensures.node) in
    let several = given_several (task c.args.setting.now) c.args.found.now.hows c.ahead.new.found.hows c.args.a c.at-second.result.flat c.at-second.result.indentation (cut_of c.args.setting.now.sought.limit c.args.setting.now.sought.free ((task c.args.setting.now).documents.told c.at-second.result.node c.at-second.result.flat) c.at-second.result.cut) c.args.m.now c.ahead.new.m c.in_ok-ahead.field-0 c.ahead.new.found.several c.in-Several.is c.in_ok-ahead.ensures.given in
    IfOk-weaker c.behind_each.result _ _
    (λ behind h. both_there (task c.args.setting.now) c.args.found.now.hows c.behind_each.new.found.hows (Concat ((task c.args.setting.now).documents.document c.args.a) ((task c.args.setting.now).documents.document c.args.b)) c.at-second.result c.args.place.now c.args.m.now _ c.at-second.ensures.flat c.at-second.ensures.indentation c.at-second.ensures.cut
    (both_found (task c.args.setting.now) c.args.found.now.hows c.ahead.new.found.hows c.behind_each.new.found.hows c.args.a c.args.b c.at-second.result.flat c.at-second.result.indentation c.at-second.result.cut (cut_of c.args.setting.now.sought.limit c.args.setting.now.sought.free ((task c.args.setting.now).documents.told c.at-second.result.node c.at-second.result.flat) c.at-second.result.cut) ((task c.args.setting.now).documents.told c.at-second.result.node c.at-second.result.flat) c.args.m.now c.ahead.new.found.several _ c.requires.holds.told c.requires.asked known refl several
    (moved_all (task c.args.setting.now) c.ahead.new.found.hows c.behind_each.new.found.hows c.at-second.result.node c.args.b c.at-second.result.flat c.at-second.result.flat c.at-second.result.indentation c.at-second.result.indentation c.at-second.result.cut c.at-second.result.cut c.ahead.new.found.several _ c.at-second.ensures.node refl refl refl h)))
    c.behind_each.ensures.given

pub both-returns-in-Several-clause-goes_on : goal.both-returns-in-Several-clause-goes_on
both-returns-in-Several-clause-goes_on g t c =
    IfOk-weaker c.behind_each.result _ _
    (λ behind h. goes_on_then (task c.args.setting.now) c.args.found.now c.ahead.new.found c.behind_each.new.found c.in_ok-ahead.ensures.goes_on h) c.behind_each.ensures.goes_on

pub ahead-behind_leaf-requires-clause-asked : goal.ahead-behind_leaf-requires-clause-asked
ahead-behind_leaf-requires-clause-asked g t c =
    asked_at (task c.args.setting.now) c.args.found.now.hows c.at-part.result.node c.args.first c.args.m.now c.at-part.ensures.node c.requires.asked

pub ahead-returns-in-Nothing-clause-given : goal.ahead-returns-in-Nothing-clause-given
ahead-returns-in-Nothing-clause-given g t c =
    there (task c.args.setting.now) c.args.found.now.hows c.args.found.now.hows c.at-part.result c.args.place.now c.args.first (cut_of c.args.setting.now.sought.limit c.args.setting.now.sought.free ((task c.args.setting.now).documents.told c.args.place.now.node c.args.place.now.flat) c.args.place.now.cut) c.args.m.now [] c.at-part.ensures.node c.at-part.ensures.flat c.at-part.ensures.indentation
    (known_nothing (task c.args.setting.now) c.args.found.now.hows c.args.found.now.hows c.at-part.result.node c.at-part.result.flat c.at-part.result.indentation (cut_of c.args.setting.now.sought.limit c.args.setting.now.sought.free ((task c.args.setting.now).documents.told c.args.place.now.node c.args.place.now.flat) c.args.place.now.cut) c.args.m.now c.behind_leaf.new.m c.behind_leaf.result (c.behind_leaf.ensures (cut_of c.args.setting.now.sought.limit c.args.setting.now.sought.free ((task c.args.setting.now).documents.told c.args.place.now.node c.args.place.now.flat) c.args.place.now.cut)) c.in-Nothing.is)

pub ahead-returns-in-Nothing-clause-goes_on : goal.ahead-returns-in-Nothing-clause-goes_on
ahead-returns-in-Nothing-clause-goes_on g t c =
    goes_on_same (task c.args.setting.now) c.args.found.now c.requires.holds

pub ahead-returns-in-One-clause-given : goal.ahead-returns-in-One-clause-given
ahead-returns-in-One-clause-given g t c =
    there (task c.args.setting.now) c.args.found.now.hows c.args.found.now.hows c.at-part.result c.args.place.now c.args.first (cut_of c.args.setting.now.sought.limit c.args.setting.now.sought.free ((task c.args.setting.now).documents.told c.args.place.now.node c.args.place.now.flat) c.args.place.now.cut) c.args.m.now (c.behind_leaf.new.m ∷ []) c.at-part.ensures.node c.at-part.ensures.flat c.at-part.ensures.indentation
    (known_one (task c.args.setting.now) c.args.found.now.hows c.args.found.now.hows c.at-part.result.node c.at-part.result.flat c.at-part.result.indentation (cut_of c.args.setting.now.sought.limit c.args.setting.now.sought.free ((task c.args.setting.now).documents.told c.args.place.now.node c.args.place.now.flat) c.args.place.now.cut) c.args.m.now c.behind_leaf.new.m c.behind_leaf.result (c.behind_leaf.ensures (cut_of c.args.setting.now.sought.limit c.args.setting.now.sought.free ((task c.args.setting.now).documents.told c.args.place.now.node c.args.place.now.flat) c.args.place.now.cut)) c.in-One.is)

pub ahead-returns-in-One-clause-goes_on : goal.ahead-returns-in-One-clause-goes_on
ahead-returns-in-One-clause-goes_on g t c =
    goes_on_same (task c.args.setting.now) c.args.found.now c.requires.holds

pub ahead-unless_leaf-requires : goal.ahead-unless_leaf-requires
ahead-unless_leaf-requires g t c κs ls =
    let same = still_same (task c.args.setting.now) c.args.found.now.hows c.args.found.now.hows c.at-part.result.node c.at-part.result.flat c.at-part.result.indentation (cut_of c.args.setting.now.sought.limit c.args.setting.now.sought.free ((task c.args.setting.now).documents.told c.args.place.now.node c.args.place.now.flat) c.args.place.now.cut) c.args.m.now c.behind_leaf.new.m c.behind_leaf.result (c.behind_leaf.ensures (cut_of c.args.setting.now.sought.limit c.args.setting.now.sought.free ((task c.args.setting.now).documents.told c.args.place.now.node c.args.place.now.flat) c.args.place.now.cut)) c.in-Unknown.is in
    let asked = asked_at (task c.args.setting.now) c.args.found.now.hows c.at-part.result.node c.args.first c.args.m.now c.at-part.ensures.node c.requires.asked in (
      omega (arith, c.decreases, c.at-part.ensures.fuel),
      (ls.0, (ls.1.0, (ls.1.1.0, (ls.1.1.1.0, (ls.1.1.1.1, (c.requires.holds, still_asked (task c.args.setting.now) c.args.found.now.hows c.at-part.result.node c.args.m.now c.behind_leaf.new.m same asked)))))),
    )

pub ahead-returns-in-Unknown-clause-given : goal.ahead-returns-in-Unknown-clause-given
ahead-returns-in-Unknown-clause-given g t c =
    let same = still_same (task c.args.setting.now) c.args.found.now.hows c.args.found.now.hows c.at-part.result.node c.at-part.result.flat c.at-part.result.indentation (cut_of c.args.setting.now.sought.limit c.args.setting.now.sought.free ((task c.args.setting.now).documents.told c.args.place.now.node c.args.place.now.flat) c.args.place.now.cut) c.args.m.now c.behind_leaf.new.m c.behind_leaf.result (c.behind_leaf.ensures (cut_of c.args.setting.now.sought.limit c.args.setting.now.sought.free ((task c.args.setting.now).documents.told c.args.place.now.node c.args.place.now.flat) c.args.place.now.cut)) c.in-Unknown.is in
    IfOk-weaker c.unless_leaf.result _ _
    (λ behind h. there (task c.args.setting.now) c.args.found.now.hows c.unless_leaf.new.found.hows c.at-part.result c.args.place.now c.args.first (cut_of c.args.setting.now.sought.limit c.args.setting.now.sought.free ((task c.args.setting.now).documents.told c.args.place.now.node c.args.place.now.flat) c.args.place.now.cut) c.args.m.now (measures_of behind c.unless_leaf.new.m c.unless_leaf.new.found.several) c.at-part.ensures.node c.at-part.ensures.flat c.at-part.ensures.indentation
    (subst (λ (z : ℕ). AreBehind (task c.args.setting.now) c.args.found.now.hows c.unless_leaf.new.found.hows c.at-part.result.node c.at-part.result.flat c.at-part.result.indentation z c.args.m.now (measures_of behind c.unless_leaf.new.m c.unless_leaf.new.found.several)) c.cut_before-cut.ensures
    (still_found (task c.args.setting.now) c.args.found.now.hows c.unless_leaf.new.found.hows c.at-part.result.node c.at-part.result.flat c.at-part.result.indentation c.cut_before-cut.result c.args.m.now c.behind_leaf.new.m (measures_of behind c.unless_leaf.new.m c.unless_leaf.new.found.several) same h)))
    c.unless_leaf.ensures.given

pub either-unless_leaf-requires : goal.either-unless_leaf-requires
either-unless_leaf-requires g t c κs ls =
    let own = side_before (task c.args.setting.now) c.args.found.now.hows c.put_turn.new.hows c.args.place.now.node c.args.a c.args.b c.args.a c.args.m.now c.put_turn.new.m c.requires.holds.told c.requires.node c.requires.asked
    (omega arith) c.in_ok-put_turn.ensures.same c.in_ok-put_turn.ensures.belongs in
    let on = goes_on_by (task c.args.setting.now) c.args.found.now (record { hows = c.put_turn.new.hows; newest = c.args.found.now.newest; rows = c.args.found.now.rows; several = c.args.found.now.several }) c.in_ok-put_turn.ensures.older refl c.requires.holds in (
      omega (arith, c.decreases, c.at.ensures.fuel),
      (ls.0, (ls.1.0, (ls.1.1.0, (ls.1.1.1.0, (ls.1.1.1.1, (on.holds, asked_at (task c.args.setting.now) c.put_turn.new.hows c.at.result.node c.args.a c.put_turn.new.m c.at.ensures.node own)))))),
    )

pub either-put_turn-requires-2-clause-way : goal.either-put_turn-requires-2-clause-way
either-put_turn-requires-2-clause-way g t c =
    omega (arith, c.requires.asked.1, keeps_length c.args.found.now.hows c.put_turn.new.hows c.in_ok-put_turn.ensures.older, keeps_length c.put_turn.new.hows c.unless_leaf.new.found.hows c.in_ok-left.ensures.goes_on.older, ap length c.take-firsts.ensures.ways)

pub either-put_turn-requires-2-clause-direction : goal.either-put_turn-requires-2-clause-direction
either-put_turn-requires-2-clause-direction g t c =
    omega (arith, c.in_ok-left.ensures.goes_on.holds.told.right.0, ap length c.take-firsts.ensures.ways)

pub either-unless_leaf-requires-2 : goal.either-unless_leaf-requires-2
either-unless_leaf-requires-2 g t c κs ls =
    let own = side_before (task c.args.setting.now) c.args.found.now.hows c.put_turn-2.new.hows c.args.place.now.node c.args.a c.args.b c.args.b c.args.m.now c.put_turn-2.new.m c.requires.holds.told c.requires.node c.requires.asked
    (omega arith) c.in_ok-put_turn-2.ensures.same c.in_ok-put_turn-2.ensures.belongs in
    let on = goes_on_by (task c.args.setting.now) c.unless_leaf.new.found (record { hows = c.put_turn-2.new.hows; newest = c.take-firsts.new.self.newest; rows = c.take-firsts.new.self.rows; several = c.take-firsts.new.self.several }) (subst (λ z. KeepsWays z c.put_turn-2.new.hows) c.take-firsts.ensures.ways c.in_ok-put_turn-2.ensures.older) (ap (λ z. z.items) c.take-firsts.ensures.rows) c.in_ok-left.ensures.goes_on.holds in (
      omega (arith, c.decreases, c.at-2.ensures.fuel),
      (ls.0, (ls.1.0, (ls.1.1.0, (ls.1.1.1.0, (ls.1.1.1.1, (on.holds, asked_at (task c.args.setting.now) c.put_turn-2.new.hows c.at-2.result.node c.args.b c.put_turn-2.new.m c.at-2.ensures.node own)))))),
    )

pub either-better-requires-clause-first : goal.either-better-requires-clause-first
either-better-requires-clause-first g t c =
    subst (λ z. IsFrontier (task c.args.setting.now).costs z) (sym c.take-firsts.ensures.taken)
    (found_frontier (task c.args.setting.now) c.put_turn.new.hows c.unless_leaf.new.found.hows c.at.result.node c.at.result.flat c.at.result.indentation c.at.result.cut c.put_turn.new.m _
    (sought_goes_on (task c.args.setting.now) c.args.found.now.hows c.put_turn.new.hows c.in_ok-put_turn.ensures.older c.requires.holds.told)
    (asked_at (task c.args.setting.now) c.put_turn.new.hows c.at.result.node c.args.a c.put_turn.new.m c.at.ensures.node
    (side_before (task c.args.setting.now) c.args.found.now.hows c.put_turn.new.hows c.args.place.now.node c.args.a c.args.b c.args.a c.args.m.now c.put_turn.new.m c.requires.holds.told c.requires.node c.requires.asked
    (omega arith) c.in_ok-put_turn.ensures.same c.in_ok-put_turn.ensures.belongs))
    c.in_ok-left.ensures.given).0

pub either-better-requires-clause-first_values : goal.either-better-requires-clause-first_values
either-better-requires-clause-first_values g t c =
    subst (λ z. EachIsValue (task c.args.setting.now).costs z) (sym c.take-firsts.ensures.taken)
    (found_frontier (task c.args.setting.now) c.put_turn.new.hows c.unless_leaf.new.found.hows c.at.result.node c.at.result.flat c.at.result.indentation c.at.result.cut c.put_turn.new.m _
    (sought_goes_on (task c.args.setting.now) c.args.found.now.hows c.put_turn.new.hows c.in_ok-put_turn.ensures.older c.requires.holds.told)
    (asked_at (task c.args.setting.now) c.put_turn.new.hows c.at.result.node c.args.a c.put_turn.new.m c.at.ensures.node
    (side_before (task c.args.setting.now) c.args.found.now.hows c.put_turn.new.hows c.args.place.now.node c.args.a c.args.b c.args.a c.args.m.now c.put_turn.new.m c.requires.holds.told c.requires.node c.requires.asked
    (omega arith) c.in_ok-put_turn.ensures.same c.in_ok-put_turn.ensures.belongs))
    c.in_ok-left.ensures.given).1

pub either-better-requires-clause-second : goal.either-better-requires-clause-second
either-better-requires-clause-second g t c =
    (found_frontier (task c.args.setting.now) c.put_turn-2.new.hows c.unless_leaf-2.new.found.hows c.at-2.result.node c.at-2.result.flat c.at-2.result.indentation c.at-2.result.cut c.put_turn-2.new.m _
    (sought_goes_on (task c.args.setting.now) c.unless_leaf.new.found.hows c.put_turn-2.new.hows (subst (λ z. KeepsWays z c.put_turn-2.new.hows) c.take-firsts.ensures.ways c.in_ok-put_turn-2.ensures.older) c.in_ok-left.ensures.goes_on.holds.told)
    (asked_at (task c.args.setting.now) c.put_turn-2.new.hows c.at-2.result.node c.args.b c.put_turn-2.new.m c.at-2.ensures.node
    (side_before (task c.args.setting.now) c.args.found.now.hows c.put_turn-2.new.hows c.args.place.now.node c.args.a c.args.b c.args.b c.args.m.now c.put_turn-2.new.m c.requires.holds.told c.requires.node c.requires.asked
    (omega arith) c.in_ok-put_turn-2.ensures.same c.in_ok-put_turn-2.ensures.belongs))
    c.in_ok-right.ensures.given).0

pub either-better-requires-clause-second_values : goal.either-better-requires-clause-second_values
either-better-requires-clause-second_values g t c =
    (found_frontier (task c.args.setting.now) c.put_turn-2.new.hows c.unless_leaf-2.new.found.hows c.at-2.result.node c.at-2.result.flat c.at-2.result.indentation c.at-2.result.cut c.put_turn-2.new.m _
    (sought_goes_on (task c.args.setting.now) c.unless_leaf.new.found.hows c.put_turn-2.new.hows (subst (λ z. KeepsWays z c.put_turn-2.new.hows) c.take-firsts.ensures.ways c.in_ok-put_turn-2.ensures.older) c.in_ok-left.ensures.goes_on.holds.told)
    (asked_at (task c.args.setting.now) c.put_turn-2.new.hows c.at-2.result.node c.args.b c.put_turn-2.new.m c.at-2.ensures.node
    (side_before (task c.args.setting.now) c.args.found.now.hows c.put_turn-2.new.hows c.args.place.now.node c.args.a c.args.b c.args.b c.args.m.now c.put_turn-2.new.m c.requires.holds.told c.requires.node c.requires.asked
    (omega arith) c.in_ok-put_turn-2.ensures.same c.in_ok-put_turn-2.ensures.belongs))
    c.in_ok-right.ensures.given).1

pub either-returns-clause-given : goal.either-returns-clause-given
either-returns-clause-given g t c =
    let older = keeps_then c.args.found.now.hows c.put_turn.new.hows c.unless_leaf.new.found.hows c.in_ok-put_turn.ensures.older c.in_ok-left.ensures.goes_on.older in
    let newer = keeps_then c.unless_leaf.new.found.hows c.put_turn-2.new.hows c.unless_leaf-2.new.found.hows (subst (λ z. KeepsWays z c.put_turn-2.new.hows) c.take-firsts.ensures.ways c.in_ok-put_turn-2.ensures.older) c.in_ok-right.ensures.goes_on.older in
    let first = moved (task c.args.setting.now) c.put_turn.new.hows c.unless_leaf.new.found.hows c.at.result.node c.args.a c.at.result.flat c.args.place.now.flat c.at.result.indentation c.args.place.now.indentation c.at.result.cut c.args.place.now.cut c.put_turn.new.m c.take-firsts.result
    c.at.ensures.node c.at.ensures.flat c.at.ensures.indentation c.at.ensures.cut
    (subst (λ z. AreBehind (task c.args.setting.now) c.put_turn.new.hows c.unless_leaf.new.found.hows c.at.result.node c.at.result.flat c.at.result.indentation c.at.result.cut c.put_turn.new.m z) (sym c.take-firsts.ensures.taken) c.in_ok-left.ensures.given) in
    let second = moved (task c.args.setting.now) c.put_turn-2.new.hows c.unless_leaf-2.new.found.hows c.at-2.result.node c.args.b c.at-2.result.flat c.args.place.now.flat c.at-2.result.indentation c.args.place.now.indentation c.at-2.result.cut c.args.place.now.cut c.put_turn-2.new.m _
    c.at-2.ensures.node c.at-2.ensures.flat c.at-2.ensures.indentation c.at-2.ensures.cut c.in_ok-right.ensures.given in
    let turn = subst (λ z. chosen c.put_turn-2.new.hows c.put_turn-2.new.m ≡ turned Right (chosen z c.args.m.now)) c.take-firsts.ensures.ways (c.in_ok-put_turn-2.ensures.turned Right (subst (λ z. choices_of z c.args.setting.now.sought.right.0 ≡ Right ∷ []) (sym c.take-firsts.ensures.ways) c.in_ok-left.ensures.goes_on.holds.told.right.1)) in
    if_both c.better.result _ _ _
    (λ all chosen_of belongs. given_back (task c.args.setting.now) c.args.found.now.hows c.unless_leaf-2.new.found.hows c.better.new.found.hows c.args.place.now.node c.args.place.now.flat c.args.place.now.indentation c.args.place.now.cut c.args.m.now _ _ c.better.ensures.ways refl
    (either_found (task c.args.setting.now) c.args.found.now.hows c.put_turn.new.hows c.unless_leaf.new.found.hows c.put_turn-2.new.hows c.unless_leaf-2.new.found.hows c.args.place.now.node c.args.a c.args.b c.args.place.now.flat c.args.place.now.indentation c.args.place.now.cut
    c.args.m.now c.put_turn.new.m c.put_turn-2.new.m c.take-firsts.result _ _ c.requires.holds.told c.requires.node c.requires.asked newer older
    (c.in_ok-put_turn.ensures.turned Left c.requires.holds.told.left.1) turn first second
    (belongs c.unless_leaf-2.new.found.hows (belong_keeps c.unless_leaf.new.found.hows c.unless_leaf-2.new.found.hows c.take-firsts.result newer first.0) second.0)
    (chosen_of c.unless_leaf-2.new.found.hows)))
    c.better.ensures.chosen c.better.ensures.belongs

pub either-returns-clause-goes_on : goal.either-returns-clause-goes_on
either-returns-clause-goes_on g t c =
    let older = keeps_then c.args.found.now.hows c.put_turn.new.hows c.unless_leaf.new.found.hows c.in_ok-put_turn.ensures.older c.in_ok-left.ensures.goes_on.older in
    let newer = keeps_then c.unless_leaf.new.found.hows c.put_turn-2.new.hows c.unless_leaf-2.new.found.hows (subst (λ z. KeepsWays z c.put_turn-2.new.hows) c.take-firsts.ensures.ways c.in_ok-put_turn-2.ensures.older) c.in_ok-right.ensures.goes_on.older in
    let last = goes_on_given (task c.args.setting.now) c.unless_leaf-2.new.found c.better.new.found c.unless_leaf-2.new.found.hows c.better.ensures.ways c.better.ensures.rows (keeps_same c.unless_leaf-2.new.found.hows) c.in_ok-right.ensures.goes_on.holds in
    IfOk-weaker c.better.result _ _
    (λ all h. record { older = keeps_then c.args.found.now.hows c.unless_leaf-2.new.found.hows c.better.new.found.hows (keeps_then c.args.found.now.hows c.unless_leaf.new.found.hows c.unless_leaf-2.new.found.hows older newer) last.older; holds = last.holds })
    c.better.ensures.chosen

pub by_new_row-in_sides-requires : goal.by_new_row-in_sides-requires
by_new_row-in_sides-requires g t c κs ls =
    let leaf = c.leaf_measure-nothing.ensures.measure ∙ ap (λ z. leaf_measure c.args.m.now.last z) c.text.ensures in (
      omega (arith, c.decreases),
      (ls.0, (ls.1.0, (ls.1.1.0, (ls.1.1.1.0, (ls.1.1.1.1, (c.requires.holds, nothing_before (task c.args.setting.now) c.args.found.now.hows c.args.place.now.node c.args.m.now c.leaf_measure-nothing.result c.requires.holds.told c.requires.asked leaf c.leaf_measure-nothing.ensures.belongs)))))),
    )

pub by_new_row-behind_row-requires-clause-holds : goal.by_new_row-behind_row-requires-clause-holds
by_new_row-behind_row-requires-clause-holds g t c =
    let leaf = c.leaf_measure-nothing.ensures.measure ∙ ap (λ z. leaf_measure c.args.m.now.last z) c.text.ensures in
    let taken = goes_on_given (task c.args.setting.now) c.in_sides.new.found c.take-measures.new.self c.in_sides.new.found.hows c.take-measures.ensures.ways c.take-measures.ensures.rows (keeps_same c.in_sides.new.found.hows) c.in_ok-behind.ensures.goes_on.holds in
    let kept = subst (λ z. KeepsWays c.args.found.now.hows z) (sym (c.in_ok-at.ensures.ways ∙ c.take-measures.ensures.ways)) c.in_ok-behind.ensures.goes_on.older in
    let says = number_says (task c.args.setting.now) c.args.found.now.hows c.take-measures.new.self.hows c.args.place.now.node c.args.number c.args.place.now.indentation c.args.m.now.last c.args.place.now.cut c.args.place.now.flat c.leaf_measure-nothing.result c.take-measures.result
    c.requires.holds.told c.requires.number leaf
    (given_back (task c.args.setting.now) c.args.found.now.hows c.in_sides.new.found.hows c.take-measures.new.self.hows c.args.place.now.node c.args.place.now.flat c.args.place.now.indentation c.args.place.now.cut c.leaf_measure-nothing.result _ c.take-measures.result c.take-measures.ensures.ways c.take-measures.ensures.taken c.in_ok-behind.ensures.given) in
    (put_goes_on (task c.args.setting.now) c.take-measures.new.self c.put.new.self c.args.number c.args.place.now.flat c.args.m.now.last c.args.place.now.cut c.take-measures.result taken.holds c.in_ok-at.ensures.put c.in_ok-at.ensures.ways says).holds

pub by_new_row-behind_row-requires-clause-asked : goal.by_new_row-behind_row-requires-clause-asked
by_new_row-behind_row-requires-clause-asked g t c =
    let taken = goes_on_given (task c.args.setting.now) c.in_sides.new.found c.take-measures.new.self c.in_sides.new.found.hows c.take-measures.ensures.ways c.take-measures.ensures.rows (keeps_same c.in_sides.new.found.hows) c.in_ok-behind.ensures.goes_on.holds in
    let kept = subst (λ z. KeepsWays c.args.found.now.hows z) (sym (c.in_ok-at.ensures.ways ∙ c.take-measures.ensures.ways)) c.in_ok-behind.ensures.goes_on.older in
    before_goes_on (task c.args.setting.now) c.args.found.now.hows c.put.new.self.hows c.args.place.now.node c.args.m.now kept c.requires.asked

pub by_new_row-behind_row-requires-clause-serves : goal.by_new_row-behind_row-requires-clause-serves
by_new_row-behind_row-requires-clause-serves g t c = (
  c.args.number,
  c.requires.number,
  put_serves c.take-measures.new.self.rows.items c.put.new.self.rows.items c.args.number c.args.place.now.flat c.args.m.now.last c.args.place.now.cut c.in_ok-at.at c.take-measures.result c.in_ok-at.ensures.put c.in_ok-at.ensures.number,
)

pub by_new_row-returns-clause-given : goal.by_new_row-returns-clause-given
by_new_row-returns-clause-given g t c =
    let taken = goes_on_given (task c.args.setting.now) c.in_sides.new.found c.take-measures.new.self c.in_sides.new.found.hows c.take-measures.ensures.ways c.take-measures.ensures.rows (keeps_same c.in_sides.new.found.hows) c.in_ok-behind.ensures.goes_on.holds in
    let kept = subst (λ z. KeepsWays c.args.found.now.hows z) (sym (c.in_ok-at.ensures.ways ∙ c.take-measures.ensures.ways)) c.in_ok-behind.ensures.goes_on.older in
    IfOk-weaker c.behind_row.result _ _
    (λ behind h. older_behind (task c.args.setting.now) c.args.found.now.hows c.put.new.self.hows c.behind_row.new.found.hows c.args.place.now.node c.args.place.now.flat c.args.place.now.indentation c.args.place.now.cut c.args.m.now _ kept c.requires.asked.1 h)
    c.behind_row.ensures.given

pub by_new_row-returns-clause-goes_on : goal.by_new_row-returns-clause-goes_on
by_new_row-returns-clause-goes_on g t c =
    let taken = goes_on_given (task c.args.setting.now) c.in_sides.new.found c.take-measures.new.self c.in_sides.new.found.hows c.take-measures.ensures.ways c.take-measures.ensures.rows (keeps_same c.in_sides.new.found.hows) c.in_ok-behind.ensures.goes_on.holds in
    let kept = subst (λ z. KeepsWays c.args.found.now.hows z) (sym (c.in_ok-at.ensures.ways ∙ c.take-measures.ensures.ways)) c.in_ok-behind.ensures.goes_on.older in
    IfOk-weaker c.behind_row.result _ _
    (λ behind h. record { older = keeps_then c.args.found.now.hows c.put.new.self.hows c.behind_row.new.found.hows kept h.older; holds = h.holds })
    c.behind_row.ensures.goes_on

pub behind_each-loop-at-init : goal.behind_each-loop-at-init
behind_each-loop-at-init g t c =
    record {
      near = omega arith;
      older = keeps_same c.args.found.now.hows;
      holds = record { told = c.requires.holds.told; rows = c.requires.holds.rows };
      so_far = none_all (task c.args.setting.now) c.args.found.now.hows c.args.place.now.node c.args.place.now.flat c.args.place.now.indentation c.args.place.now.cut c.none-all.result c.none-all.ensures;
    }

pub behind_each-after-requires : goal.behind_each-after-requires
behind_each-after-requires g t c κs ls =
    let own = before_there (task c.args.setting.now) c.args.found.now.hows c.args.place.now.node c.args.found.now.several c.loop-at.at c.get-k.result c.requires.before (subst (λ z. slice_get z c.loop-at.at ≡ Some c.get-k.result) c.replace-firsts.ensures.value c.get-k.ensures) in (
      omega (arith, c.decreases),
      (ls.0, (ls.1.0, (ls.1.1.0, (ls.1.1.1.0, (ls.1.1.1.1, (c.loop-at.invariant.holds, before_goes_on (task c.args.setting.now) c.args.found.now.hows c.loop-at.found.hows c.args.place.now.node c.get-k.result c.loop-at.invariant.older own)))))),
    )

pub behind_each-keep_behind-requires-clause-first : goal.behind_each-keep_behind-requires-clause-first
behind_each-keep_behind-requires-clause-first g t c =
    (all_frontier (task c.args.setting.now) c.args.found.now.hows c.loop-at.found.hows c.args.place.now.node c.args.place.now.flat c.args.place.now.indentation c.args.place.now.cut c.args.found.now.several c.loop-at.all c.loop-at.at
    c.requires.holds.told c.requires.before c.loop-at.invariant.so_far).0

pub behind_each-keep_behind-requires-clause-first_values : goal.behind_each-keep_behind-requires-clause-first_values
behind_each-keep_behind-requires-clause-first_values g t c =
    (all_frontier (task c.args.setting.now) c.args.found.now.hows c.loop-at.found.hows c.args.place.now.node c.args.place.now.flat c.args.place.now.indentation c.args.place.now.cut c.args.found.now.several c.loop-at.all c.loop-at.at
    c.requires.holds.told c.requires.before c.loop-at.invariant.so_far).1

pub behind_each-keep_behind-requires-clause-second : goal.behind_each-keep_behind-requires-clause-second
behind_each-keep_behind-requires-clause-second g t c =
    let own = before_there (task c.args.setting.now) c.args.found.now.hows c.args.place.now.node c.args.found.now.several c.loop-at.at c.get-k.result c.requires.before (subst (λ z. slice_get z c.loop-at.at ≡ Some c.get-k.result) c.replace-firsts.ensures.value c.get-k.ensures) in
    (found_frontier (task c.args.setting.now) c.loop-at.found.hows c.after.new.found.hows c.args.place.now.node c.args.place.now.flat c.args.place.now.indentation c.args.place.now.cut c.get-k.result _
    c.loop-at.invariant.holds.told (before_goes_on (task c.args.setting.now) c.args.found.now.hows c.loop-at.found.hows c.args.place.now.node c.get-k.result c.loop-at.invariant.older own) c.in_ok-behind.ensures.given).0

pub behind_each-keep_behind-requires-clause-second_values : goal.behind_each-keep_behind-requires-clause-second_values
behind_each-keep_behind-requires-clause-second_values g t c =
    let own = before_there (task c.args.setting.now) c.args.found.now.hows c.args.place.now.node c.args.found.now.several c.loop-at.at c.get-k.result c.requires.before (subst (λ z. slice_get z c.loop-at.at ≡ Some c.get-k.result) c.replace-firsts.ensures.value c.get-k.ensures) in
    (found_frontier (task c.args.setting.now) c.loop-at.found.hows c.after.new.found.hows c.args.place.now.node c.args.place.now.flat c.args.place.now.indentation c.args.place.now.cut c.get-k.result _
    c.loop-at.invariant.holds.told (before_goes_on (task c.args.setting.now) c.args.found.now.hows c.loop-at.found.hows c.args.place.now.node c.get-k.result c.loop-at.invariant.older own) c.in_ok-behind.ensures.given).1

pub behind_each-loop-at-preserved : goal.behind_each-loop-at-preserved
behind_each-loop-at-preserved g t c =
    let newer = subst (λ z. KeepsWays c.loop-at.found.hows z) (sym c.keep_behind.ensures.ways) c.in_ok-behind.ensures.goes_on.older in
    let several = measures_of c.in_ok-behind.behind c.after.new.m c.after.new.found.several in
    let more = given_back (task c.args.setting.now) c.loop-at.found.hows c.after.new.found.hows c.keep_behind.new.found.hows c.args.place.now.node c.args.place.now.flat c.args.place.now.indentation c.args.place.now.cut c.get-k.result several several c.keep_behind.ensures.ways refl c.in_ok-behind.ensures.given in
    let belong = c.in_ok-keep_behind.ensures.belongs c.keep_behind.new.found.hows (belong_keeps c.loop-at.found.hows c.keep_behind.new.found.hows c.loop-at.all newer c.loop-at.invariant.so_far.0) more.0 in
    record {
      near = omega (arith, c.loop-at-test.true, c.len.ensures, ap length c.replace-firsts.ensures.value);
      older = keeps_then c.args.found.now.hows c.loop-at.found.hows c.keep_behind.new.found.hows c.loop-at.invariant.older newer;
      holds = (goes_on_given (task c.args.setting.now) c.after.new.found c.keep_behind.new.found c.after.new.found.hows c.keep_behind.ensures.ways c.keep_behind.ensures.rows (keeps_same c.after.new.found.hows) c.in_ok-behind.ensures.goes_on.holds).holds;
      so_far = all_next (task c.args.setting.now) c.args.found.now.hows c.loop-at.found.hows c.keep_behind.new.found.hows c.args.place.now.node c.args.place.now.flat c.args.place.now.indentation c.args.place.now.cut
          c.args.found.now.several c.loop-at.all several c.keep_behind.new.all c.loop-at.at (c.loop-at.at + 1) c.get-k.result
          c.requires.holds.told c.requires.before (subst (λ z. slice_get z c.loop-at.at ≡ Some c.get-k.result) c.replace-firsts.ensures.value c.get-k.ensures) refl c.loop-at.invariant.older newer c.loop-at.invariant.so_far more belong
          (c.in_ok-keep_behind.ensures.chosen c.keep_behind.new.found.hows);
    }

pub behind_each-returns-in-Some-clause-goes_on : goal.behind_each-returns-in-Some-clause-goes_on
behind_each-returns-in-Some-clause-goes_on g t c =
    goes_on_given (task c.args.setting.now) c.args.found.now c.give.new.self c.args.found.now.hows c.give.ensures.ways c.give.ensures.rows (keeps_same c.args.found.now.hows) c.requires.holds

pub behind_each-returns-clause-given : goal.behind_each-returns-clause-given
behind_each-returns-clause-given g t c =
    all_given_back (task c.args.setting.now) c.args.found.now.hows c.loop-at.found.hows c.give-2.new.self.hows c.args.place.now.node c.args.place.now.flat c.args.place.now.indentation c.args.place.now.cut c.args.found.now.several c.loop-at.all _ c.give-2.ensures.ways c.give-2.ensures.given
    (subst (λ z. AreBehindAll (task c.args.setting.now) c.args.found.now.hows c.loop-at.found.hows c.args.place.now.node c.args.place.now.flat c.args.place.now.indentation c.args.place.now.cut z c.loop-at.all) (take_all c.loop-at.at c.args.found.now.several (omega (arith, c.loop-at-test.false, c.len.ensures, ap length c.replace-firsts.ensures.value))) c.loop-at.invariant.so_far)

pub behind_each-returns-clause-goes_on : goal.behind_each-returns-clause-goes_on
behind_each-returns-clause-goes_on g t c =
    let last = goes_on_given (task c.args.setting.now) c.loop-at.found c.give-2.new.self c.loop-at.found.hows c.give-2.ensures.ways c.give-2.ensures.rows (keeps_same c.loop-at.found.hows) c.loop-at.invariant.holds in
    record { older = keeps_then c.args.found.now.hows c.loop-at.found.hows c.give-2.new.self.hows c.loop-at.invariant.older last.older; holds = last.holds }

pub in_parts-text_behind-requires-clause-value : goal.in_parts-text_behind-requires-clause-value
in_parts-text_behind-requires-clause-value g t c =
    before_value (task c.args.setting.now) c.args.found.now.hows c.args.place.now.node c.args.m.now c.requires.holds.told c.requires.asked

pub in_parts-text_behind-requires-in-Newline-clause-value : goal.in_parts-text_behind-requires-in-Newline-clause-value
in_parts-text_behind-requires-in-Newline-clause-value g t c =
    before_value (task c.args.setting.now) c.args.found.now.hows c.args.place.now.node c.args.m.now c.requires.holds.told c.requires.asked

pub in_parts-break_behind-requires-clause-value : goal.in_parts-break_behind-requires-clause-value
in_parts-break_behind-requires-clause-value g t c =
    before_value (task c.args.setting.now) c.args.found.now.hows c.args.place.now.node c.args.m.now c.requires.holds.told c.requires.asked

pub in_parts-put_charge-requires-clause-value : goal.in_parts-put_charge-requires-clause-value
in_parts-put_charge-requires-clause-value g t c =
    before_value (task c.args.setting.now) c.args.found.now.hows c.args.place.now.node c.args.m.now c.requires.holds.told c.requires.asked

pub in_parts-put_charge-requires-clause-charge : goal.in_parts-put_charge-requires-clause-charge
in_parts-put_charge-requires-clause-charge g t c =
    charge_small (task c.args.setting.now) c.args.found.now.hows c.args.place.now.node c.in-Charge.k c.in-Charge.a c.requires.holds.told (opened_as (task c.args.setting.now) c.args.place.now.node c.in-Charge.is c.requires.part)

pub in_parts-unless_leaf-requires : goal.in_parts-unless_leaf-requires
in_parts-unless_leaf-requires g t c κs ls = (
  omega (arith, c.decreases, c.in-Some.ensures.fuel),
  (ls.0, (ls.1.0, (ls.1.1.0, (ls.1.1.1.0, (ls.1.1.1.1, (c.requires.holds, nest_before (task c.args.setting.now) c.args.found.now.hows c.args.place.now.node c.in-Nest.n c.in-Nest.a c.args.m.now (opened_as (task c.args.setting.now) c.args.place.now.node c.in-Nest.is c.requires.part) c.requires.asked)))))),
)

pub in_parts-unless_leaf-requires-in-Align : goal.in_parts-unless_leaf-requires-in-Align
in_parts-unless_leaf-requires-in-Align g t c κs ls = (
  omega (arith, c.decreases, c.in-Some.ensures.fuel),
  (ls.0, (ls.1.0, (ls.1.1.0, (ls.1.1.1.0, (ls.1.1.1.1, (c.requires.holds, aligned_before (task c.args.setting.now) c.args.found.now.hows c.args.place.now.node c.in-Align.a c.args.m.now (opened_as (task c.args.setting.now) c.args.place.now.node c.in-Align.is c.requires.part) c.requires.asked)))))),
)

pub in_parts-unless_leaf-requires-in-Reset : goal.in_parts-unless_leaf-requires-in-Reset
in_parts-unless_leaf-requires-in-Reset g t c κs ls = (
  omega (arith, c.decreases, c.in-Some.ensures.fuel),
  (ls.0, (ls.1.0, (ls.1.1.0, (ls.1.1.1.0, (ls.1.1.1.1, (c.requires.holds, reset_before (task c.args.setting.now) c.args.found.now.hows c.args.place.now.node c.in-Reset.a c.args.m.now (opened_as (task c.args.setting.now) c.args.place.now.node c.in-Reset.is c.requires.part) c.requires.asked)))))),
)

pub in_parts-unless_leaf-requires-in-Flatten : goal.in_parts-unless_leaf-requires-in-Flatten
in_parts-unless_leaf-requires-in-Flatten g t c κs ls = (
  omega (arith, c.decreases, c.in-Some.ensures.fuel),
  (ls.0, (ls.1.0, (ls.1.1.0, (ls.1.1.1.0, (ls.1.1.1.1, (c.requires.holds, flatten_before (task c.args.setting.now) c.args.found.now.hows c.args.place.now.node c.in-Flatten.a c.args.m.now (opened_as (task c.args.setting.now) c.args.place.now.node c.in-Flatten.is c.requires.part) c.requires.asked)))))),
)

pub in_parts-unless_leaf-requires-in-Charge : goal.in_parts-unless_leaf-requires-in-Charge
in_parts-unless_leaf-requires-in-Charge g t c κs ls = (
  omega (arith, c.decreases, c.in-Some.ensures.fuel),
  (ls.0, (ls.1.0, (ls.1.1.0, (ls.1.1.1.0, (ls.1.1.1.1, (c.requires.holds, charge_before (task c.args.setting.now) c.args.found.now.hows c.args.place.now.node c.in-Charge.k c.in-Charge.a c.args.m.now c.put_charge.new.m c.requires.holds.told (opened_as (task c.args.setting.now) c.args.place.now.node c.in-Charge.is c.requires.part) c.requires.asked c.put_charge.ensures)))))),
)

pub in_parts-returns-in-Text-clause-given : goal.in_parts-returns-in-Text-clause-given
in_parts-returns-in-Text-clause-given g t c =
    plain_text_found (task c.args.setting.now) c.args.found.now.hows c.args.place.now.node _ c.args.place.now.flat c.args.place.now.indentation c.args.place.now.cut c.in-Text.len c.args.m.now _
    (opened_as (task c.args.setting.now) c.args.place.now.node c.in-Text.is c.requires.part) (step.after_text (task c.args.setting.now).costs c.args.setting.now.sought.limit _ c.in-Text.len c.args.place.now.flat _ c.args.place.now.indentation c.args.place.now.cut)
    (c.text_behind.ensures.belong c.args.found.now.hows c.args.found.now.several c.requires.asked.1) (c.text_behind.ensures.behind c.args.found.now.hows c.args.found.now.several)

pub in_parts-returns-in-Text-clause-goes_on : goal.in_parts-returns-in-Text-clause-goes_on
in_parts-returns-in-Text-clause-goes_on g t c =
    goes_on_same (task c.args.setting.now) c.args.found.now c.requires.holds

pub in_parts-returns-in-Newline-clause-given : goal.in_parts-returns-in-Newline-clause-given
in_parts-returns-in-Newline-clause-given g t c =
    plain_text_found (task c.args.setting.now) c.args.found.now.hows c.args.place.now.node Newline c.args.place.now.flat c.args.place.now.indentation c.args.place.now.cut 1 c.args.m.now _
    (opened_as (task c.args.setting.now) c.args.place.now.node c.in-Newline.is c.requires.part) (flat_newline (task c.args.setting.now).costs c.args.setting.now.sought.limit c.args.place.now.flat (chosen c.args.found.now.hows c.args.m.now) c.args.place.now.indentation c.args.place.now.cut c.if-place.true)
    (c.text_behind-in-Newline.ensures.belong c.args.found.now.hows c.args.found.now.several c.requires.asked.1) (c.text_behind-in-Newline.ensures.behind c.args.found.now.hows c.args.found.now.several)

pub in_parts-returns-in-Newline-clause-goes_on : goal.in_parts-returns-in-Newline-clause-goes_on
in_parts-returns-in-Newline-clause-goes_on g t c =
    goes_on_same (task c.args.setting.now) c.args.found.now c.requires.holds

pub in_parts-returns-in-Hard-clause-given : goal.in_parts-returns-in-Hard-clause-given
in_parts-returns-in-Hard-clause-given g t c =
    none_found (task c.args.setting.now) c.args.found.now.hows c.args.place.now.node Hard c.args.place.now.flat c.args.place.now.indentation c.args.place.now.cut c.args.m.now []
    (opened_as (task c.args.setting.now) c.args.place.now.node c.in-Hard.is c.requires.part) (flat_hard (task c.args.setting.now).costs c.args.setting.now.sought.limit c.args.place.now.flat (chosen c.args.found.now.hows c.args.m.now) c.args.place.now.indentation c.args.place.now.cut c.if-place-2.true) refl

pub in_parts-returns-in-Hard-clause-goes_on : goal.in_parts-returns-in-Hard-clause-goes_on
in_parts-returns-in-Hard-clause-goes_on g t c =
    goes_on_same (task c.args.setting.now) c.args.found.now c.requires.holds

pub in_parts-returns-in-Newline-2-clause-given : goal.in_parts-returns-in-Newline-2-clause-given
in_parts-returns-in-Newline-2-clause-given g t c =
    break_found (task c.args.setting.now) c.args.found.now.hows c.args.place.now.node ((task c.args.setting.now).documents.document c.args.place.now.node) c.args.place.now.flat c.args.place.now.indentation c.args.place.now.cut c.args.m.now _ c.requires.asked refl
    (loose_break (task c.args.setting.now).costs c.args.setting.now.sought.limit ((task c.args.setting.now).documents.document c.args.place.now.node) c.args.place.now.flat (chosen c.args.found.now.hows c.args.m.now) c.args.place.now.indentation c.args.place.now.cut
    (elim c.in-Newline-2-1.branch [ in_parts-in-Newline+else-place w ↦ (inl (opened_as (task c.args.setting.now) c.args.place.now.node w.in-Newline.is c.requires.part), w.if-place.false) | in_parts-in-Hard+else-place-2 w ↦ (inr (opened_as (task c.args.setting.now) c.args.place.now.node w.in-Hard.is c.requires.part), w.if-place-2.false) ]))
    (c.break_behind.ensures.belong c.args.found.now.hows c.args.found.now.several c.requires.asked.1) (c.break_behind.ensures.behind c.args.found.now.hows c.args.found.now.several)

pub in_parts-returns-in-Newline-2-clause-goes_on : goal.in_parts-returns-in-Newline-2-clause-goes_on
in_parts-returns-in-Newline-2-clause-goes_on g t c =
    goes_on_same (task c.args.setting.now) c.args.found.now c.requires.holds

pub in_parts-returns-in-Some-checked_add-clause-given : goal.in_parts-returns-in-Some-checked_add-clause-given
in_parts-returns-in-Some-checked_add-clause-given g t c =
    IfOk-weaker c.unless_leaf.result _ _
    (λ behind h.
    of_part (task c.args.setting.now) c.args.found.now.hows c.unless_leaf.new.found.hows c.args.place.now.node c.in-Nest.a (Nest c.in-Nest.n ((task c.args.setting.now).documents.document c.in-Nest.a)) c.args.place.now.flat c.args.place.now.flat c.args.place.now.indentation (c.args.place.now.indentation + c.in-Nest.n) c.args.place.now.cut c.args.m.now c.args.m.now _
    (opened_as (task c.args.setting.now) c.args.place.now.node c.in-Nest.is c.requires.part)
    (step.after_nest (task c.args.setting.now).costs c.args.setting.now.sought.limit c.in-Nest.n ((task c.args.setting.now).documents.document c.in-Nest.a) c.args.place.now.flat (chosen c.args.found.now.hows c.args.m.now) c.args.place.now.indentation c.args.place.now.cut)
    (moved (task c.args.setting.now) c.args.found.now.hows c.unless_leaf.new.found.hows c.in-Nest.a c.in-Nest.a c.in-Some.inside.flat c.args.place.now.flat c.in-Some-checked_add.indentation (c.args.place.now.indentation + c.in-Nest.n) c.in-Some.inside.cut c.args.place.now.cut c.args.m.now _
    refl c.in-Some.ensures.flat (omega (arith, c.in-Some-checked_add.ensures)) c.in-Some.ensures.cut h))
    c.unless_leaf.ensures.given

pub in_parts-returns-in-Align-clause-given : goal.in_parts-returns-in-Align-clause-given
in_parts-returns-in-Align-clause-given g t c =
    IfOk-weaker c.unless_leaf-in-Align.result _ _
    (λ behind h.
    of_part (task c.args.setting.now) c.args.found.now.hows c.unless_leaf-in-Align.new.found.hows c.args.place.now.node c.in-Align.a (Align ((task c.args.setting.now).documents.document c.in-Align.a)) c.args.place.now.flat c.args.place.now.flat c.args.place.now.indentation c.args.m.now.last c.args.place.now.cut c.args.m.now c.args.m.now _
    (opened_as (task c.args.setting.now) c.args.place.now.node c.in-Align.is c.requires.part)
    (step.after_align (task c.args.setting.now).costs c.args.setting.now.sought.limit ((task c.args.setting.now).documents.document c.in-Align.a) c.args.place.now.flat (chosen c.args.found.now.hows c.args.m.now) c.args.place.now.indentation c.args.place.now.cut)
    (moved (task c.args.setting.now) c.args.found.now.hows c.unless_leaf-in-Align.new.found.hows c.in-Align.a c.in-Align.a c.in-Some.inside.flat c.args.place.now.flat c.args.m.now.last c.args.m.now.last c.in-Some.inside.cut c.args.place.now.cut c.args.m.now _
    refl c.in-Some.ensures.flat refl c.in-Some.ensures.cut h))
    c.unless_leaf-in-Align.ensures.given

pub in_parts-returns-in-Reset-clause-given : goal.in_parts-returns-in-Reset-clause-given
in_parts-returns-in-Reset-clause-given g t c =
    IfOk-weaker c.unless_leaf-in-Reset.result _ _
    (λ behind h.
    of_part (task c.args.setting.now) c.args.found.now.hows c.unless_leaf-in-Reset.new.found.hows c.args.place.now.node c.in-Reset.a (Reset ((task c.args.setting.now).documents.document c.in-Reset.a)) c.args.place.now.flat c.args.place.now.flat c.args.place.now.indentation 0 c.args.place.now.cut c.args.m.now c.args.m.now _
    (opened_as (task c.args.setting.now) c.args.place.now.node c.in-Reset.is c.requires.part)
    (step.after_reset (task c.args.setting.now).costs c.args.setting.now.sought.limit ((task c.args.setting.now).documents.document c.in-Reset.a) c.args.place.now.flat (chosen c.args.found.now.hows c.args.m.now) c.args.place.now.indentation c.args.place.now.cut)
    (moved (task c.args.setting.now) c.args.found.now.hows c.unless_leaf-in-Reset.new.found.hows c.in-Reset.a c.in-Reset.a c.in-Some.inside.flat c.args.place.now.flat 0 0 c.in-Some.inside.cut c.args.place.now.cut c.args.m.now _
    refl c.in-Some.ensures.flat refl c.in-Some.ensures.cut h))
    c.unless_leaf-in-Reset.ensures.given

pub in_parts-returns-in-Flatten-clause-given : goal.in_parts-returns-in-Flatten-clause-given
in_parts-returns-in-Flatten-clause-given g t c =
    IfOk-weaker c.unless_leaf-in-Flatten.result _ _
    (λ behind h.
    of_part (task c.args.setting.now) c.args.found.now.hows c.unless_leaf-in-Flatten.new.found.hows c.args.place.now.node c.in-Flatten.a (Flatten ((task c.args.setting.now).documents.document c.in-Flatten.a)) c.args.place.now.flat true c.args.place.now.indentation c.args.place.now.indentation c.args.place.now.cut c.args.m.now c.args.m.now _
    (opened_as (task c.args.setting.now) c.args.place.now.node c.in-Flatten.is c.requires.part)
    (step.after_flatten (task c.args.setting.now).costs c.args.setting.now.sought.limit ((task c.args.setting.now).documents.document c.in-Flatten.a) c.args.place.now.flat (chosen c.args.found.now.hows c.args.m.now) c.args.place.now.indentation c.args.place.now.cut)
    (moved (task c.args.setting.now) c.args.found.now.hows c.unless_leaf-in-Flatten.new.found.hows c.in-Flatten.a c.in-Flatten.a true true c.in-Some.inside.indentation c.args.place.now.indentation c.in-Some.inside.cut c.args.place.now.cut c.args.m.now _
    refl refl c.in-Some.ensures.indentation c.in-Some.ensures.cut h))
    c.unless_leaf-in-Flatten.ensures.given

pub in_parts-returns-in-Charge-clause-given : goal.in_parts-returns-in-Charge-clause-given
in_parts-returns-in-Charge-clause-given g t c =
    IfOk-weaker c.unless_leaf-in-Charge.result _ _
    (λ behind h.
    charge_found (task c.args.setting.now) c.args.found.now.hows c.unless_leaf-in-Charge.new.found.hows c.args.place.now.node c.in-Charge.k c.in-Charge.a c.args.place.now.flat c.args.place.now.indentation c.args.place.now.cut c.args.m.now c.put_charge.new.m _
    c.requires.holds.told (opened_as (task c.args.setting.now) c.args.place.now.node c.in-Charge.is c.requires.part) c.requires.asked c.put_charge.ensures
    (moved (task c.args.setting.now) c.args.found.now.hows c.unless_leaf-in-Charge.new.found.hows c.in-Charge.a c.in-Charge.a c.in-Some.inside.flat c.args.place.now.flat c.in-Some.inside.indentation c.args.place.now.indentation c.in-Some.inside.cut c.args.place.now.cut c.put_charge.new.m _
    refl c.in-Some.ensures.flat c.in-Some.ensures.indentation c.in-Some.ensures.cut h))
    c.unless_leaf-in-Charge.ensures.given
