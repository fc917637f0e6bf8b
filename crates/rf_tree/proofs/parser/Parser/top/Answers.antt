-- The last of what was begun.
use Rattle.std.proofs.Common.{List, length, ◌-◌, Some, slice_get, refl, ap, ◌∙◌}
use Rattle.rf_tree.specs.declared.parser.Begun.{Begun}
use Rattle.rf_tree.proofs.Ends.{last_splits}
use Rattle.rf_tree.proofs.parser.Parser.top.Goals as goal

pub returns : goal.returns
returns c =
    let same = c.deref.ensures.value in
    let at = ap (λ (bs : List Begun). slice_get bs (length bs - 1)) same in
    let split = last_splits c.args.self.now.begun.items c.in_ok-last.field-0.now (Rattle.std.proofs.Common.sym (c.in_ok-last.ensures.value ∙ at)) in
    (split.0, c.in_ok-last.field-0.now, split.1, refl)
