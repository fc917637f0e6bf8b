-- Each step hands on what the next one needs.
use Rattle.std.proofs.Common.{◌≡◌, ℕ, List, refl, sym, ap, length, ◌∙◌, subst, true}
use Rattle.std.specs.Prelude.{IfOk, IfErr, Result, Err}
use Rattle.std.specs.Str.{chars}
use Rattle.std.proofs.lemmas.List.{length-map}
use Rattle.std.proofs.lemmas.Result.{err_from_is_err_and}
use Rattle.rf_base_grammar.specs.Itemised.{Itemised}
use Rattle.rf_base_grammar.specs.Token.{Token, item_of}
use Rattle.rf_base_grammar.specs.Unreadable.{LexRefused}
use Rattle.rf_base_tree.specs.Trees.{Forest}
use Rattle.rf_base_tree.specs.Formed.{Treed}
use Rattle.rf_base_file.specs.LaidOut.{kept}
use Rattle.rf_base_tree.proofs.Alike.{length-settled}
use Rattle.rf_style.specs.StyleOf.{seen}
use Rattle.rf_style.specs.declared.style.Style.{Style}
use Rattle.rf_whole.specs.declared.faults.Miss.{Miss}
use Rattle.rf_whole.specs.declared.passages.FormattedPassages.{FormattedPassages}
use Rattle.rf_whole.specs.Passages.{IsMissed}
use Rattle.rf_whole.specs.Whole.{IsWhole, layout_of}
use Rattle.rf_top.specs.Objective.{objective}
use Rattle.rf_top.proofs.Sources.{has_items, formatted, source_stopped, source_only}
use Rattle.rf_top.proofs.formatting.format_source.Goals as goal

pub returns-clause-formatted : goal.returns-clause-formatted
returns-clause-formatted g c =
    let style = c.args.style.now in
    let items = c.in_ok-items.items in
    let kept_are = c.in_ok-items.ensures.kept in
    let whole = c.in_ok-formatted.ensures.whole kept_are.0 kept_are.1 in
    let f = formatted style c.args.source.now c.in_ok-text.text.now kept_are.0 whole.0 (layout_of c.in_ok-formatted.formatted) c.requires.style c.requires.short c.in_ok-text.ensures.text
    (c.in_ok-text.ensures.accepted.0 refl) kept_are.1.0 whole.1 whole.2 in
    let tokens = kept (seen style) kept_are.0 in (
      f.0,
      ap length f.1 ∙ sym (length-settled true style.blanks kept_are.0) ∙ sym (length-map tokens item_of) ∙ sym (ap length kept_are.1.1) ∙ sym items.ok.0 ∙ sym c.len-count.ensures,
    )

pub returns-in_err-formatted-clause-stopped : goal.returns-in_err-formatted-clause-stopped
returns-in_err-formatted-clause-stopped g c =
    let style = c.args.style.now in
    let kept_are = c.in_ok-items.ensures.kept in
    let p = err_from_is_err_and c.from_residual-in_err-formatted.result c.from_residual-in_err-formatted.ensures.1 in
    rw (p.1, p.2)
    (source_stopped style c.in_err-formatted.field-0.0 c.args.source.now c.in_ok-text.text.now kept_are.0 c.requires.style c.requires.short c.in_ok-text.ensures.text
    (c.in_ok-text.ensures.accepted.0 refl) kept_are.1.0 (c.in_err-formatted.ensures.stopped kept_are.0 kept_are.1))

pub returns-in_err-formatted-clause-only : goal.returns-in_err-formatted-clause-only
returns-in_err-formatted-clause-only g c =
    let p = err_from_is_err_and c.from_residual-in_err-formatted.result c.from_residual-in_err-formatted.ensures.1 in
    rw (p.1, p.2) (source_only c.in_err-formatted.field-0.0)

-- the layout is that of a text
abbrev IsMade : Style → List ℕ → FormattedPassages ℕ → Type 0
IsMade style text made =
    (ts : List Token) × Itemised (chars text) ts × (made.items ≡ length ts)
    × ((trees : Forest) × Treed ts trees × IsWhole (objective style) (seen style) ts trees (layout_of made.formatted))

pub returns-in-Ok-clause-formatted : goal.returns-in-Ok-clause-formatted
returns-in-Ok-clause-formatted g c =
    let style = c.args.style.now in
    let given = subst (λ r. IfOk r (IsMade style c.in_ok-text.text.now)) c.in-Ok.is c.passages_by_cost.ensures.whole in
    let f = formatted style c.args.source.now c.in_ok-text.text.now given.0 given.3.0 (layout_of c.in-Ok.whole.formatted) c.requires.style c.requires.short c.in_ok-text.ensures.text
    (c.in_ok-text.ensures.accepted.0 refl) given.1 given.3.1 given.3.2 in (
      f.0,
      ap length f.1 ∙ sym given.2,
    )

-- why the passages aren't laid out
missed_for : (text : List ℕ) (r : Result (FormattedPassages ℕ) Miss) (given why : Miss) → r ≡ Err given → given ≡ why →
    IfErr r (IsMissed (chars text)) → IsMissed (chars text) why
missed_for text r given why is same h =
    subst (IsMissed (chars text)) same (subst (λ (x : Result (FormattedPassages ℕ) Miss). IfErr x (IsMissed (chars text))) is h)

pub returns-in-Err-Items-clause-stopped : goal.returns-in-Err-Items-clause-stopped
returns-in-Err-Items-clause-stopped g c =
    let text = c.in_ok-text.text.now in
    let refused = missed_for text _ _ _ c.in-Err-Items.is c.in-Err-Items.field-0-is c.passages_by_cost.ensures.missed in (
      c.requires.short,
      (
        c.in_ok-text.ensures.accepted.0 refl,
        subst (λ (x : List ℕ). LexRefused (chars x) c.in-Err-Items.kind c.in-Err-Items.offset) c.in_ok-text.ensures.text refused,
      ),
    )

pub returns-in-Err-Tree-clause-stopped : goal.returns-in-Err-Tree-clause-stopped
returns-in-Err-Tree-clause-stopped g c =
    let text = c.in_ok-text.text.now in
    let refused = missed_for text _ _ _ c.in-Err-Tree.is c.in-Err-Tree.field-0-is c.passages_by_cost.ensures.missed in (
      c.requires.short,
      (
        refused.0,
        has_items c.args.source.now text refused.0 c.in_ok-text.ensures.text (c.in_ok-text.ensures.accepted.0 refl) refused.1,
        refused.2,
      ),
    )
