-- What comes next from the first item on is the tree of all.
use Rattle.std.proofs.Common.{ap, ◌∙◌}
use Rattle.std.specs.Global.{Vec}
use Rattle.std.proofs.lemmas.Result.{err_from_is_err_and}
use Rattle.rf_base_grammar.specs.declared.items.Item.{Item}
use Rattle.rf_base_tree.specs.Trees.{Empty}
use Rattle.rf_base_tree.proofs.OneTree.{Treed-apart, start}
use Rattle.rf_tree.proofs.Places.{all_taken, treed_next, stand_at_top, no_tree}
use Rattle.rf_tree.proofs.parser.parse.Goals as goal

pub returns-in_err-parse_next-clause-refused : goal.returns-in_err-parse_next-clause-refused
returns-in_err-parse_next-clause-refused c =
    let p = err_from_is_err_and c.from_residual-in_err-parse_next.result c.from_residual-in_err-parse_next.ensures.1 in
    rw (p.1, p.2) (λ ts of is. c.in_err-parse_next.ensures.refused ts Empty of is (start ts))

pub returns-in_err-parse_next-clause-untreed : goal.returns-in_err-parse_next-clause-untreed
returns-in_err-parse_next-clause-untreed c =
    let p = err_from_is_err_and c.from_residual-in_err-parse_next.result c.from_residual-in_err-parse_next.ensures.1 in
    rw (p.1, p.2)
    (λ refused ts of is. no_tree ts _ (c.in_err-parse_next.ensures.refused ts Empty of is (start ts)) refused)

pub returns-clause-tree : goal.returns-clause-tree
returns-clause-tree c =
    λ ts of is.
    let next = c.in_ok-parse_next.ensures.trees ts Empty of is (start ts) in
    let treed = treed_next ts c.args.items.items _ _ _ is
    (all_taken c.args.items c.parse_next.new.tree.items _ c.in_ok-parse_next.ensures.kept.1 c.in_ok-parse_next.ensures.enough) next in
    record { trees = next.part; treed = treed; stand_for = next.stand_for; sound = next.sound }

pub returns-clause-accepted : goal.returns-clause-accepted
returns-clause-accepted c =
    λ ts of is k offset r.
    let next = c.in_ok-parse_next.ensures.trees ts Empty of is (start ts) in
    let treed = treed_next ts c.args.items.items _ _ _ is
    (all_taken c.args.items c.parse_next.new.tree.items _ c.in_ok-parse_next.ensures.kept.1 c.in_ok-parse_next.ensures.enough) next in
    Treed-apart ts next.part k offset treed r

pub returns-clause-means : goal.returns-clause-means
returns-clause-means c =
    λ ts short of is.
    let next = c.in_ok-parse_next.ensures.trees ts Empty of is (start ts) in
    let treed = treed_next ts c.args.items.items _ _ _ is
    (all_taken c.args.items c.parse_next.new.tree.items _ c.in_ok-parse_next.ensures.kept.1 c.in_ok-parse_next.ensures.enough) next in
    let src = c.in_ok-parse_next.ensures.kept.0 in (
      next.part,
      treed,
      record {
        utf8 = rw src c.utf8.src;
        tokens = rw src of;
        items_are = ap (λ (v : Vec Item). v.items) c.in_ok-parse_next.ensures.kept.1 ∙ is;
        at_top = stand_at_top ts Empty next.part c.in_ok-parse_next.field-0 next.place;
        stand_for = next.stand_for;
        sound = next.sound;
        short = rw src short;
      },
    )
