-- The first CR stands where the rest begins.
use Rattle.std.proofs.Common.{◌≡◌, ℕ, List, ◌++◌, ◌∷◌, refl, sym, ap, ◌∙◌, subst}
use Rattle.std.specs.Prelude.{codes}
use Rattle.std.specs.Str.{chars}
use Rattle.rf_base_grammar.specs.Strings.{is_no_return}
use Rattle.rf_base_grammar.specs.Cuts.{Cut, span}
use Rattle.rf_base_grammar.specs.Reader.{Wrong, open_here}
use Rattle.rf_base_grammar.specs.declared.refusals.LexKind.TheVariants.{StrayLineEnd}
use Rattle.rf_lexer.specs.Fronts.{Tells}
use Rattle.rf_lexer.proofs.Spans.{span_ends_behind, span_whole}
use Rattle.rf_lexer.proofs.here_strings.open_here.Goals as goal

pub stray-requires : goal.stray-requires
stray-requires c =
    span_ends_behind is_no_return (chars c.args.text.now) (codes "#<<") (chars c.args.behind.now) (chars c.past-rest.result.now) c.requires c.past-rest.ensures

-- where something stands behind what is clean, it is a stray line end
stray_is : (k : Cut) (d : ℕ) (more : List ℕ) → k.behind ≡ d ∷ more → open_here k ≡ Wrong StrayLineEnd (codes "#<<" ++ k.front)
stray_is k d more e = rw e refl

pub returns-in-Some : goal.returns-in-Some
returns-in-Some c =
    let k = span is_no_return (chars c.args.behind.now) in
    let whole : chars c.args.text.now ≡ (codes "#<<" ++ k.front) ++ chars c.past-rest.result.now =
    c.requires ∙ ap (λ xs. codes "#<<" ++ xs) (span_whole is_no_return (chars c.args.behind.now) ∙ ap (λ xs. k.front ++ xs) (sym c.past-rest.ensures)) in
    subst (λ a. Tells a c.stray.result)
    (sym (stray_is k c.in-Some.field-0.0 (chars c.in-Some.field-0.1.now) (sym c.past-rest.ensures ∙ c.in-Some.ensures)))
    (c.stray.ensures (codes "#<<" ++ k.front) whole)
