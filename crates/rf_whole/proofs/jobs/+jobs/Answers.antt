-- Two halves are the whole.
use Rattle.std.proofs.Common.{rules, ℕ, Err, List, take, drop, sym, ap, ◌∙◌, subst, arith}
use Rattle.std.proofs.lemmas.Result.{IfOk-weaker, IfOk-at_ok}
use Rattle.rf_base_optimum.specs.Paragraphs.{Paragraph}
use Rattle.rf_style.specs.StyleOf.{seen}
use Rattle.rf_tree.specs.Stretches.{stretched}
use Rattle.rf_whole.specs.Lines.{ArePastLimit}
use Rattle.rf_whole.specs.Laid.{AreLinesOf}
use Rattle.rf_joins.specs.Paragraphs.{slots_paragraphs}
use Rattle.rf_whole.specs.Rows.{AreRowLines}
use Rattle.rf_whole.proofs.Formed.{width_is_column}
use Rattle.rf_whole.proofs.TooLong.{told_long}
use Rattle.rf_whole.proofs.Together.{past_before, past_behind}
use Rattle.rf_whole.proofs.GroupRows.{front_row, back_row, front_in_row, back_in_row, is_nothing, none_row, halves_are, row_documents, row_cores}
use Rattle.rf_whole.proofs.jobs.+jobs.Goals as goal

pub blanks_ahead-between-requires-clause-row : goal.blanks_ahead-between-requires-clause-row
blanks_ahead-between-requires-clause-row g t c = (seen c.args.setting.now.style.now, back_in_row (seen c.args.setting.now.style.now) c.args.tree.now (stretched c.args.slots) _ _ c.split.ensures.back c.requires.row)

pub join-before-requires-after_bounds : goal.join-before-requires-after_bounds
join-before-requires-after_bounds g t c κs ls =
    let style = seen c.args.setting.now.style.now in
    let front = front_in_row style c.args.tree.now (stretched c.args.slots) (stretched c.split.result.0) c.saturating_mul.result c.split.ensures.front c.requires.row in
    let back = back_in_row style c.args.tree.now (stretched c.args.slots) (stretched c.split.result.1) c.saturating_mul.result c.split.ensures.back c.requires.row in (
      (
        omega arith,
        (
          λ a m. m,
          (
            λ a m. m,
            (
              λ a m. m,
              (
                λ a m. m,
                (
                  (search rules, search rules, search rules, search rules, c.split.ensures.front_cursor, front, omega arith, omega arith),
                  (search rules, search rules, search rules, search rules),
                ),
              ),
            ),
          ),
        ),
      ),
      (
        omega arith,
        (
          λ a m. m,
          (
            λ a m. m,
            (
              λ a m. m,
              (
                λ a m. m,
                (
                  (search rules, search rules, search rules, search rules, c.split.ensures.back_cursor, back, omega arith, omega arith),
                  (search rules, search rules, search rules, search rules),
                ),
              ),
            ),
          ),
        ),
      ),
    )

pub together-requires-clause-first : goal.together-requires-clause-first
together-requires-clause-first g t c =
    let r = c.requires.row in
    (c.args.setting.now.limit, _, (IfOk-at_ok (AreRowLines (g.F.Factory.costs c.args.setting.now.factory.now) c.args.setting.now.limit (seen c.args.setting.now.style.now) c.args.tree.now (stretched c.split.result.0) c.blanks_ahead-between.result) c.in_ok-before.was c.join-before.ensures.first.0) r.0 r.1 _ (front_row (seen c.args.setting.now.style.now) c.args.tree.now (stretched c.args.slots) _ r.0 r.1 r.2 _ c.split.ensures.front r.3))

pub together-requires-clause-second : goal.together-requires-clause-second
together-requires-clause-second g t c =
    let r = c.requires.row in
    (c.args.setting.now.limit, _, (IfOk-at_ok (AreRowLines (g.F.Factory.costs c.args.setting.now.factory.now) c.args.setting.now.limit (seen c.args.setting.now.style.now) c.args.tree.now (stretched c.split.result.1) c.args.behind) c.in_ok-others.was c.join-before.ensures.second.0) r.0 r.1 _ (back_row (seen c.args.setting.now.style.now) c.args.tree.now (stretched c.args.slots) _ r.0 r.1 r.2 _ c.split.ensures.back r.3))

pub returns-in_err-before-clause-too_long : goal.returns-in_err-before-clause-too_long
returns-in_err-before-clause-too_long g t c is ts trees qs row =
    let style = seen c.args.setting.now.style.now in
    let costs = g.F.Factory.costs c.args.setting.now.factory.now in
    let k : ℕ = c.saturating_mul.result in
    let front = front_row style c.args.tree.now (stretched c.args.slots) (stretched c.split.result.0) ts trees qs k c.split.ensures.front row in
    let back = back_row style c.args.tree.now (stretched c.args.slots) (stretched c.split.result.1) ts trees qs k c.split.ensures.back row in
    let halves = halves_are style ts c.args.behind k qs c.blanks_ahead-between.result (c.blanks_ahead-between.ensures style ts trees (drop k qs) back) in
    let laws = (g.met.F.Factory g.world.𝓛 g.world.𝓜 g.world.𝓡 ((λ s x. x), (λ x. x), (λ x. x), λ x. x)).lawful c.args.setting.now.factory.now in
    subst (λ (ps : List Paragraph). ArePastLimit costs c.args.setting.now.limit ps) (sym halves)
    (past_before costs laws c.args.setting.now.limit (slots_paragraphs style ts c.blanks_ahead-between.result (take k qs)) (slots_paragraphs style ts c.args.behind (drop k qs))
    (width_is_column c.args.setting.now.limit c.args.setting.now.width) (row_documents style c.args.tree.now (stretched c.split.result.1) ts trees (drop k qs) c.args.behind back)
    (row_cores style ts c.args.behind (drop k qs)) (c.join-before.ensures.first.1 (c.in_err-before.was ∙ ap Err (told_long _ _ c.from_residual.ensures.1 is)) ts trees (take k qs) front))

pub returns-in_err-others-clause-too_long : goal.returns-in_err-others-clause-too_long
returns-in_err-others-clause-too_long g t c is ts trees qs row =
    let style = seen c.args.setting.now.style.now in
    let costs = g.F.Factory.costs c.args.setting.now.factory.now in
    let k : ℕ = c.saturating_mul.result in
    let front = front_row style c.args.tree.now (stretched c.args.slots) (stretched c.split.result.0) ts trees qs k c.split.ensures.front row in
    let back = back_row style c.args.tree.now (stretched c.args.slots) (stretched c.split.result.1) ts trees qs k c.split.ensures.back row in
    let halves = halves_are style ts c.args.behind k qs c.blanks_ahead-between.result (c.blanks_ahead-between.ensures style ts trees (drop k qs) back) in
    let laws = (g.met.F.Factory g.world.𝓛 g.world.𝓜 g.world.𝓡 ((λ s x. x), (λ x. x), (λ x. x), λ x. x)).lawful c.args.setting.now.factory.now in
    subst (λ (ps : List Paragraph). ArePastLimit costs c.args.setting.now.limit ps) (sym halves)
    (past_behind costs laws c.args.setting.now.limit (slots_paragraphs style ts c.blanks_ahead-between.result (take k qs)) (slots_paragraphs style ts c.args.behind (drop k qs))
    (width_is_column c.args.setting.now.limit c.args.setting.now.width) (row_documents style c.args.tree.now (stretched c.split.result.0) ts trees (take k qs) c.blanks_ahead-between.result front)
    (row_cores style ts c.blanks_ahead-between.result (take k qs)) (c.join-before.ensures.second.1 (c.in_err-others.was ∙ ap Err (told_long _ _ c.from_residual-in_err-others.ensures.1 is)) ts trees (drop k qs) back))

pub returns-then-is_empty-clause-lines : goal.returns-then-is_empty-clause-lines
returns-then-is_empty-clause-lines g t c ts trees qs row =
    subst (λ (ps : List Paragraph). AreLinesOf (g.F.Factory.costs c.args.setting.now.factory.now) c.args.setting.now.limit ps c.no_lines.result) (sym (none_row (seen c.args.setting.now.style.now) c.args.tree.now (stretched c.args.slots) ts trees qs c.args.behind (is_nothing (stretched c.args.slots) c.is_empty.result c.is_empty.ensures c.if-is_empty.true) row))
    (c.no_lines.ensures c.args.setting.now.limit)

pub returns-clause-lines : goal.returns-clause-lines
returns-clause-lines g t c =
    IfOk-weaker c.together.result _ _
    (λ lines made ts trees qs row.
    let style = seen c.args.setting.now.style.now in
    let costs = g.F.Factory.costs c.args.setting.now.factory.now in
    let k : ℕ = c.saturating_mul.result in
    let front = front_row style c.args.tree.now (stretched c.args.slots) (stretched c.split.result.0) ts trees qs k c.split.ensures.front row in
    let back = back_row style c.args.tree.now (stretched c.args.slots) (stretched c.split.result.1) ts trees qs k c.split.ensures.back row in
    let halves = halves_are style ts c.args.behind k qs c.blanks_ahead-between.result (c.blanks_ahead-between.ensures style ts trees (drop k qs) back) in
    subst (λ (ps : List Paragraph). AreLinesOf costs c.args.setting.now.limit ps lines) (sym halves)
    (made c.args.setting.now.limit (slots_paragraphs style ts c.blanks_ahead-between.result (take k qs)) (slots_paragraphs style ts c.args.behind (drop k qs))
    ((IfOk-at_ok (AreRowLines (g.F.Factory.costs c.args.setting.now.factory.now) c.args.setting.now.limit (seen c.args.setting.now.style.now) c.args.tree.now (stretched c.split.result.0) c.blanks_ahead-between.result) c.in_ok-before.was c.join-before.ensures.first.0) ts trees (take k qs) front) ((IfOk-at_ok (AreRowLines (g.F.Factory.costs c.args.setting.now.factory.now) c.args.setting.now.limit (seen c.args.setting.now.style.now) c.args.tree.now (stretched c.split.result.1) c.args.behind) c.in_ok-others.was c.join-before.ensures.second.0) ts trees (drop k qs) back)))
    c.together.ensures.lines

pub returns-clause-too_long : goal.returns-clause-too_long
returns-clause-too_long g t c is ts trees qs row =
    let style = seen c.args.setting.now.style.now in
    let costs = g.F.Factory.costs c.args.setting.now.factory.now in
    let k : ℕ = c.saturating_mul.result in
    let front = front_row style c.args.tree.now (stretched c.args.slots) (stretched c.split.result.0) ts trees qs k c.split.ensures.front row in
    let back = back_row style c.args.tree.now (stretched c.args.slots) (stretched c.split.result.1) ts trees qs k c.split.ensures.back row in
    let halves = halves_are style ts c.args.behind k qs c.blanks_ahead-between.result (c.blanks_ahead-between.ensures style ts trees (drop k qs) back) in
    subst (λ (ps : List Paragraph). ArePastLimit costs c.args.setting.now.limit ps) (sym halves)
    (c.together.ensures.too_long is c.args.setting.now.limit (slots_paragraphs style ts c.blanks_ahead-between.result (take k qs)) (slots_paragraphs style ts c.args.behind (drop k qs))
    ((IfOk-at_ok (AreRowLines (g.F.Factory.costs c.args.setting.now.factory.now) c.args.setting.now.limit (seen c.args.setting.now.style.now) c.args.tree.now (stretched c.split.result.0) c.blanks_ahead-between.result) c.in_ok-before.was c.join-before.ensures.first.0) ts trees (take k qs) front) ((IfOk-at_ok (AreRowLines (g.F.Factory.costs c.args.setting.now.factory.now) c.args.setting.now.limit (seen c.args.setting.now.style.now) c.args.tree.now (stretched c.split.result.1) c.args.behind) c.in_ok-others.was c.join-before.ensures.second.0) ts trees (drop k qs) back))
