-- The body's line is a comment where it ends well and quotes no line end.
use Rattle.std.proofs.Common.{◌≡◌, ◌++◌, ◌∷◌, true, refl, sym, ap, ◌∙◌, subst, not}
use Rattle.std.specs.Prelude.{codes}
use Rattle.std.specs.Str.{chars}
use Rattle.rf_base_grammar.specs.Comments.{breaks_line}
use Rattle.rf_base_grammar.specs.Reader.{line_cut, line_ends_well}
use Rattle.rf_base_grammar.specs.declared.kinds.Kind.TheVariants.{Line}
use Rattle.rf_base_grammar.specs.declared.refusals.LexKind.TheVariants.{BadHash}
use Rattle.rf_lexer.specs.Fronts.{Tells}
use Rattle.rf_lexer.specs.declared.front.Front.TheVariants.{Read, Unread}
use Rattle.rf_lexer.proofs.Spans.{span_ends, span_whole}
use Rattle.rf_lexer.proofs.BangLines.{bang_quoted, bang_line, bang_whole}
use Rattle.rf_lexer.proofs.comments.bang_body.Goals as goal

pub stray-requires : goal.stray-requires
stray-requires c =
    let run = (line_cut (chars c.args.body.now)).front in
    (codes "#!" ++ c.requires.mark.0 ∷ run, bang_whole (chars c.args.text.now) (chars c.args.behind.now) (chars c.args.body.now) run (chars c.past-rest.result.now) c.requires.mark c.requires.whole refl c.past-rest.ensures)

pub before-requires : goal.before-requires
before-requires c = span_ends (λ d. not (breaks_line d)) (chars c.args.body.now) (chars c.past-rest.result.now) c.past-rest.ensures

pub returns-then-ends_in : goal.returns-then-ends_in
returns-then-ends_in c =
    let body = chars c.args.body.now in
    let rest = chars c.past-rest.result.now in
    let run = chars c.before-2.result.now in
    let run_is : run ≡ (line_cut body).front =
    c.before-2.ensures (line_cut body).front (span_whole (λ d. not (breaks_line d)) body ∙ ap (λ xs. (line_cut body).front ++ xs) (sym c.past-rest.ensures)) in
    let well : line_ends_well rest ≡ true = sym c.if-not-ends_line.ensures in
    subst (λ a. Tells a (Unread BadHash 0))
    (sym (bang_quoted (chars c.args.behind.now) body run rest c.requires.mark run_is c.past-rest.ensures well (sym c.if-ends_in.ensures)))
    (refl, refl)

pub returns : goal.returns
returns c =
    let body = chars c.args.body.now in
    let rest = chars c.past-rest.result.now in
    let run = chars c.before-2.result.now in
    let run_is : run ≡ (line_cut body).front =
    c.before-2.ensures (line_cut body).front (span_whole (λ d. not (breaks_line d)) body ∙ ap (λ xs. (line_cut body).front ++ xs) (sym c.past-rest.ensures)) in
    let well : line_ends_well rest ≡ true = sym c.if-not-ends_line.ensures in
    subst (λ a. Tells a (Read Line c.past-rest.result))
    (sym (bang_line (chars c.args.behind.now) body run rest c.requires.mark run_is c.past-rest.ensures well (sym c.if-ends_in.ensures)))
    (refl, refl)
