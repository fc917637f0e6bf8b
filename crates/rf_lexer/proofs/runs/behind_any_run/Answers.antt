-- The end of the text ends a run that quotes nothing, and no other.
use Rattle.std.proofs.Common.{None, Some, sym, inl, inr}
use Rattle.rf_base_grammar.specs.Cuts.{run_cut}
use Rattle.rf_lexer.proofs.runs.behind_any_run.Goals as goal

pub returns-in-Plain : goal.returns-in-Plain
unfolding run_cut
returns-in-Plain c =
    c.loop-c.invariant.from_here (Some c.loop-c.rest) (rw (c.in-Plain.is, c.in_default.ensures) (sym c.in_default.ensures))

pub returns-in-Escape : goal.returns-in-Escape
unfolding run_cut
returns-in-Escape c =
    elim c.in-Escape.is [
      | inl e ↦ c.loop-c.invariant.from_here None (rw (e, c.in_default.ensures) tt)
      | inr e ↦ c.loop-c.invariant.from_here None (rw (e, c.in_default.ensures) tt)
    ]
