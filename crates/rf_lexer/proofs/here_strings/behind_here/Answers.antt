-- One line more.
use Rattle.std.proofs.Common.{None, Some, refl, sym, subst, rules}
use Rattle.std.specs.Str.{chars}
use Rattle.rf_base_grammar.specs.Cuts.{here_cut}
use Rattle.rf_lexer.specs.Places.{IsBehind}
use Rattle.rf_lexer.proofs.Stripped.{strip_front, strip_other}
use Rattle.rf_lexer.proofs.HereLines.{here_found, here_next, here_none, here_shorter}
use Rattle.rf_lexer.proofs.here_strings.behind_here.Goals as goal

pub returns-then-ends_here : goal.returns-then-ends_here
returns-then-ends_here c =
    c.loop-rest.invariant.from_here (Some c.split.result.1)
    (here_found (chars c.args.terminator.now) (chars c.loop-rest.lines.now) (chars c.split.result.0.now) (chars c.split.result.1.now) c.split.ensures.0 c.split.ensures.1 c.split.result.1 (sym c.if-ends_here.ensures) refl)

pub returns-in_err-lines : goal.returns-in_err-lines
returns-in_err-lines c =
    let text = chars c.args.text.now in
    let terminator = chars c.args.terminator.now in
    let rest = chars c.split.result.1.now in
    subst (λ r. IsBehind (here_cut terminator (Some terminator) text) r) (sym c.from_residual.ensures)
    (c.loop-rest.invariant.from_here None (here_none terminator (chars c.loop-rest.lines.now) (chars c.split.result.0.now) rest c.split.ensures.0 c.split.ensures.1 (sym c.if-ends_here.ensures) (λ next e. strip_other 10 rest next c.in_err-lines.ensures e)))

pub loop-rest-smaller : goal.loop-rest-smaller
loop-rest-smaller c =
    here_shorter (chars c.args.terminator.now) (chars c.loop-rest.lines.now) (chars c.split.result.0.now) (chars c.split.result.1.now) c.split.ensures.0 c.split.ensures.1 (chars c.in_ok-lines.lines.now) (strip_front 10 (chars c.split.result.1.now) c.in_ok-lines.lines c.in_ok-lines.ensures)

pub loop-rest-preserved : goal.loop-rest-preserved
loop-rest-preserved c =
    record {
      utf8 = search rules;
      from_here =
          λ r h.
          c.loop-rest.invariant.from_here r
          (here_next (chars c.args.terminator.now) (chars c.loop-rest.lines.now) (chars c.split.result.0.now) (chars c.split.result.1.now) c.split.ensures.0 c.split.ensures.1 (chars c.in_ok-lines.lines.now) r (sym c.if-ends_here.ensures) (strip_front 10 (chars c.split.result.1.now) c.in_ok-lines.lines c.in_ok-lines.ensures) h);
    }
