-- The slots stand behind the lines, or are past the limit, whatever stands before them.
use Rattle.std.proofs.Common.{Err, ℕ, ◌++◌, ap, subst}
use Rattle.std.proofs.lemmas.Result.{IfOk-weaker}
use Rattle.rf_base_file.specs.ByForms.{top_slots}
use Rattle.rf_style.specs.StyleOf.{seen}
use Rattle.rf_joins.specs.Paragraphs.{slots_paragraphs}
use Rattle.rf_whole.specs.Laid.{AreLinesOf}
use Rattle.rf_whole.specs.Lines.{ArePastLimit}
use Rattle.rf_whole.proofs.Formed.{width_is_column}
use Rattle.rf_whole.proofs.TooLong.{told_long}
use Rattle.rf_whole.proofs.Together.{past_behind}
use Rattle.rf_whole.proofs.parts.with_tops.Goals as goal

pub returns-in_err-others-clause-too_long : goal.returns-in_err-others-clause-too_long
returns-in_err-others-clause-too_long g c is ts trees ps tops documents cores lines =
    let style = seen c.args.setting.now.style.now in
    let costs = g.F.Factory.costs c.args.setting.now.factory.now in
    let laws = (g.met.F.Factory g.world.𝓛 g.world.𝓜 g.world.𝓡 ((λ s x. x), (λ x. x), (λ x. x), λ x. x)).lawful c.args.setting.now.factory.now in
    past_behind costs laws c.args.setting.now.limit ps _ (width_is_column c.args.setting.now.limit c.args.setting.now.width) documents cores
    (subst (λ (n : ℕ). ArePastLimit costs c.args.setting.now.limit (slots_paragraphs style ts n (top_slots ts trees))) (c.blanks_before-behind.ensures ts trees tops.tree_of)
    (c.in_err-others.ensures.too_long (ap Err (told_long _ _ c.from_residual.ensures.1 is)) ts trees tops))

pub returns-clause-lines : goal.returns-clause-lines
returns-clause-lines g c =
    IfOk-weaker c.together.result _ _
    (λ both made ts trees ps tops lines.
    let style = seen c.args.setting.now.style.now in
    let costs = g.F.Factory.costs c.args.setting.now.factory.now in
    subst (λ (n : ℕ). AreLinesOf costs c.args.setting.now.limit (ps ++ slots_paragraphs style ts n (top_slots ts trees)) both) (c.blanks_before-behind.ensures ts trees tops.tree_of)
    (made c.args.setting.now.limit ps _ lines (c.in_ok-others.ensures.lines ts trees tops)))
    c.together.ensures.lines

pub returns-clause-too_long : goal.returns-clause-too_long
returns-clause-too_long g c is ts trees ps tops documents cores lines =
    let style = seen c.args.setting.now.style.now in
    let costs = g.F.Factory.costs c.args.setting.now.factory.now in
    subst (λ (n : ℕ). ArePastLimit costs c.args.setting.now.limit (ps ++ slots_paragraphs style ts n (top_slots ts trees))) (c.blanks_before-behind.ensures ts trees tops.tree_of)
    (c.together.ensures.too_long is c.args.setting.now.limit ps _ lines (c.in_ok-others.ensures.lines ts trees tops))
