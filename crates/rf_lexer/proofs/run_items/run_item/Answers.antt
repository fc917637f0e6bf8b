-- The item that the run before the rest makes.
use Rattle.std.proofs.Common.{refl, sym, subst}
use Rattle.std.specs.Str.{chars}
use Rattle.rf_lexer.specs.Fronts.{Tells}
use Rattle.rf_base_grammar.specs.declared.kinds.Kind.TheVariants.{Dot, Atom}
use Rattle.rf_lexer.specs.declared.front.Front.TheVariants.{Read}
use Rattle.rf_lexer.proofs.RunParts.{run_parts, dot_is, atom_is, head_is}
use Rattle.rf_lexer.proofs.run_items.run_item.Goals as goal

pub before-run-requires : goal.before-run-requires
before-run-requires c =
    let run = run_parts (chars c.args.text.now) c.in-Some.rest c.in-Some.ensures in
    (run.front, run.whole)

pub returns-then-is_dot : goal.returns-then-is_dot
returns-then-is_dot c =
    subst (λ a. Tells a (Read Dot c.in-Some.rest))
    (sym (dot_is (chars c.args.text.now) (chars c.before-run.result.now) c.in-Some.rest c.in-Some.ensures c.before-run.ensures (sym c.if-is_dot.ensures)))
    (refl, refl)

pub returns-then-is_atom_run : goal.returns-then-is_atom_run
returns-then-is_atom_run c =
    subst (λ a. Tells a (Read Atom c.in-Some.rest))
    (sym (atom_is (chars c.args.text.now) (chars c.before-run.result.now) c.in-Some.rest c.in-Some.ensures c.before-run.ensures (sym c.if-is_dot.ensures) (sym c.if-is_atom_run.ensures)))
    (refl, refl)

pub returns : goal.returns
returns c =
    subst (λ a. Tells a c.headed_item.result)
    (sym (head_is (chars c.args.text.now) (chars c.before-run.result.now) c.in-Some.rest c.in-Some.ensures c.before-run.ensures (sym c.if-is_dot.ensures) (sym c.if-is_atom_run.ensures)))
    c.headed_item.ensures
