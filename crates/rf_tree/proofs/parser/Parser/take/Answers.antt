-- Each kind of item makes its move.
use Rattle.std.proofs.Common.{inl, inr, Some, sym, ap, ◌∙◌, subst}
use Rattle.std.proofs.lemmas.Result.{on_ok_weaker, IfErr-weaker}
use Rattle.rf_base_grammar.specs.declared.kinds.Kind.{Kind}
use Rattle.rf_base_grammar.specs.declared.kinds.Kind.TheVariants.{Block, Line}
use Rattle.rf_base_tree.specs.Places.{InSkip}
use Rattle.rf_base_tree.specs.Moves.{move_at}
use Rattle.rf_base_tree.proofs.OneTree.{kind_within}
use Rattle.rf_tree.specs.Parsing.{Follows, HaltsSo}
use Rattle.rf_tree.specs.declared.parser.Opened.TheVariants as opened
use Rattle.rf_tree.proofs.Steps.{begin_follows, too_deep_halts}
use Rattle.rf_tree.proofs.parser.Parser.take.Goals as goal

pub returns-in-Skip-clause-goes_on : goal.returns-in-Skip-clause-goes_on
returns-in-Skip-clause-goes_on c =
    let n = c.args.number in
    let q = c.begin.new.self in
    on_ok_weaker c.begin.result
    (λ begins ts frames here stands item.
    subst (λ (k : Kind). Follows ts q (move_at ts k n frames here)) (sym c.in-Skip.is)
    (begin_follows ts n c.args.item.now.start opened.Skip c.args.self.now q frames here stands
    (item.kind_is ∙ ap (λ (k : Kind). Some k) c.in-Skip.is, item.start_is) begins))
    c.begin.ensures.goes_on

pub returns-in-Skip-clause-refused : goal.returns-in-Skip-clause-refused
returns-in-Skip-clause-refused c =
    let n = c.args.number in
    IfErr-weaker c.begin.result _ _
    (λ e deep ts frames here stands item.
    subst (λ (k : Kind). HaltsSo ts e (move_at ts k n frames here)) (sym c.in-Skip.is)
    (too_deep_halts ts n c.args.item.now.start (InSkip here n) c.args.self.now e frames here stands item.start_is deep))
    c.begin.ensures.refused

pub returns-in_ok-add_comment-in-Block-clause-goes_on : goal.returns-in_ok-add_comment-in-Block-clause-goes_on
returns-in_ok-add_comment-in-Block-clause-goes_on c =
    let n = c.args.number in
    let q = c.add_comment.new.self in
    λ ts frames here stands item.
    elim c.in-Block.is [
      | inl is ↦
          subst (λ (k : Kind). Follows ts q (move_at ts k n frames here)) (sym is)
          (c.in_ok-add_comment-in-Block.ensures ts frames here stands (kind_within ts n Block (item.kind_is ∙ ap (λ (k : Kind). Some k) is)))
      | inr is ↦
          subst (λ (k : Kind). Follows ts q (move_at ts k n frames here)) (sym is)
          (c.in_ok-add_comment-in-Block.ensures ts frames here stands (kind_within ts n Line (item.kind_is ∙ ap (λ (k : Kind). Some k) is)))
    ]
