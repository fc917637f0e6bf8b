-- Each part leads on.
use Rattle.std.proofs.Common.{refl, ◌∙◌}
use Rattle.rf_tree.specs.Next.{followed_by}
use Rattle.rf_whole.proofs.PartByPart.{rest_none, rest_more, next_within, tokens_before, items_before}
use Rattle.rf_whole.proofs.parts.accept_rest.Goals as goal

pub loop-number-init : goal.loop-number-init
loop-number-init c = record {
  src = refl;
  items = refl;
  within = c.requires.there;
  place = λ ts done of is place. rest_none ts done c.args.from place;
}

pub loop-number-preserved : goal.loop-number-preserved
loop-number-preserved c =
    let so_far = c.loop-number.invariant in
    let next = c.in_ok-number.ensures in
    record {
      src = next.kept.0 ∙ so_far.src;
      items = next.kept.1 ∙ so_far.items;
      within = next_within _ _ _ _ next.enough;
      place = λ ts done of is place.
          let rest = so_far.place ts done of is place in
          rest_more ts done _ _ _ rest.0
          (next.trees ts (followed_by done rest.0) (tokens_before c.args.tree.now c.loop-number.tree ts so_far.src of) (items_before c.args.tree.now c.loop-number.tree ts so_far.items is) rest.1);
    }
