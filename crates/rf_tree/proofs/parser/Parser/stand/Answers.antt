-- A datum stands on its level, or completes what is on top.
use Rattle.std.proofs.Common.{List, ◌≢◌, Some, refl, sym, subst}
use Rattle.std.proofs.lemmas.Result.{on_ok_weaker}
use Rattle.rf_base_tree.specs.Moves.{behind_datum}
use Rattle.rf_tree.specs.Told.{told_node}
use Rattle.rf_tree.specs.Parsing.{IsTop, IsNotTop}
use Rattle.rf_tree.specs.declared.parser.Begun.{Begun}
use Rattle.rf_tree.specs.declared.parser.Opened.{Opened}
use Rattle.rf_tree.specs.declared.parser.Opened.TheVariants.{Prefix, Skip}
use Rattle.rf_tree.proofs.Carrying.{Carries-kept, end_plain}
use Rattle.rf_tree.proofs.parser.Parser.stand.Goals as goal

pub returns-then-wants_datum : goal.returns-then-wants_datum
returns-then-wants_datum c =
    on_ok_weaker c.complete.result
    (λ ends ts frames here tree stands makes datum.
    ends ts (behind_datum frames here tree)
    (Carries-kept ts c.args.self.now c.keep.new.self frames here (told_node c.args.node) tree c.in_ok-at.at stands c.in_ok-at.ensures.1 makes datum c.in_ok-at.ensures.0))
    c.complete.ensures

pub returns-else-wants_datum : goal.returns-else-wants_datum
returns-else-wants_datum c =
    let kept = c.in_ok-at.ensures.1 in
    let isnt : (what : Opened) → (c.args.top ≢ Some what) → IsNotTop what c.keep.new.self.begun.items =
    λ what other. (c.args.top, subst (λ (bs : List Begun). IsTop bs c.args.top) (sym kept.begun) c.requires, other) in
    let other = c.wants_datum.ensures c.if-wants_datum.false in
    on_ok_weaker c.add_datum.result
    (λ gains ts frames here tree stands makes datum.
    end_plain ts c.keep.new.self c.keep.new.self _ c.in_ok-at.at (behind_datum frames here tree)
    (Carries-kept ts c.args.self.now c.keep.new.self frames here (told_node c.args.node) tree c.in_ok-at.at stands kept makes datum c.in_ok-at.ensures.0)
    (isnt Prefix other.0) (isnt Skip other.1) (record { nodes = refl; here = refl; begun = refl }) gains refl refl)
    c.add_datum.ensures
