-- The default style and a style file's are styles, and stay so with what the words say.
use Rattle.std.proofs.Common.{◌∙◌, sym, subst}
use Rattle.rf_base_style.specs.Table.{IsStyle}
use Rattle.rf_base_style.proofs.Tables.{defaults_are_style}
use Rattle.rf_style.specs.StyleOf.{seen}
use Rattle.rf_style.specs.declared.style.Style.{Style}
use Rattle.rf_words.specs.Answers.{seen as seen_words}
use Rattle.rf_top.proofs.Styles.{styled_is_style}
use Rattle.rf_top.proofs.asking.style_asked.Goals as goal
use Rattle.rf_top.proofs.asking.style_asked.Goals.{in-None+in_ok-base-in-None, in-Some+in_ok-base-in-Some}

pub returns-clause-ranges : goal.returns-clause-ranges
returns-clause-ranges g c =
    subst (λ (s : Style). IsStyle (seen s)) (sym c.with_words.ensures)
    (styled_is_style (seen_words c.args.words.now) c.match-words.base c.requires.ranges
    (elim c.match-words.branch [
      | in-None+in_ok-base-in-None w ↦
          subst (λ (s : Style). IsStyle (seen s)) (sym (w.base-is ∙ w.in_ok-base-in-None.ensures)) defaults_are_style
      | in-Some+in_ok-base-in-Some w ↦
          subst (λ (s : Style). IsStyle (seen s)) (sym w.base-is) w.in_ok-base-in-Some.ensures.ranges
    ]))
