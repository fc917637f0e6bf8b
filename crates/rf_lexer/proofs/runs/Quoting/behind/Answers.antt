-- How each character of a run is read.
use Rattle.std.proofs.Common.{◌≡◌, refl, sym, subst}
use Rattle.std.proofs.lemmas.Bool.{ne_eqb}
use Rattle.rf_lexer.specs.Runs.{EndsBefore, RunGoesOn}
use Rattle.rf_base_grammar.specs.Cuts.{barred_behind, Barred, Bare}
use Rattle.rf_lexer.specs.declared.runs.Quoting.TheVariants.{Plain, Escape, Bars}
use Rattle.rf_lexer.proofs.Cuts.{plain_is_of, backslash_quotes, bar_quotes, other_ends, escape_goes_on, bars_go_on}
use Rattle.rf_lexer.proofs.runs.Quoting.behind.Goals as goal

pub returns-in-Plain : goal.returns-in-Plain
returns-in-Plain c =
    subst (λ q. RunGoesOn q c.args.c Plain) (sym c.in-Plain.is) (plain_is_of c.args.c (sym c.if-is_plain.ensures))

pub returns-in-Plain-2 : goal.returns-in-Plain-2
returns-in-Plain-2 c =
    subst (λ q. RunGoesOn q c.args.c Escape) (sym c.in-Plain.is) (backslash_quotes c.args.c c.if-c-eq92.true)

pub returns-in-Plain-3 : goal.returns-in-Plain-3
returns-in-Plain-3 c =
    subst (λ q. RunGoesOn q c.args.c Bars) (sym c.in-Plain.is) (bar_quotes c.args.c c.if-c-eq124.true)

pub returns-in-Plain-4 : goal.returns-in-Plain-4
returns-in-Plain-4 c =
    subst (λ q. EndsBefore q c.args.c) (sym c.in-Plain.is) (other_ends c.args.c (sym c.if-is_plain.ensures) c.if-c-eq92.false c.if-c-eq124.false)

pub returns-in-Escape : goal.returns-in-Escape
returns-in-Escape c = subst (λ q. RunGoesOn q c.args.c Plain) (sym c.in-Escape.is) (escape_goes_on c.args.c)

pub returns-in-Bars : goal.returns-in-Bars
returns-in-Bars c =
    let same : barred_behind c.args.c ≡ Bare = rw c.if-c-eq124-2.true refl in
    subst (λ q. RunGoesOn q c.args.c Plain) (sym c.in-Bars.is) (bars_go_on c.args.c Plain same)

pub returns-in-Bars-2 : goal.returns-in-Bars-2
returns-in-Bars-2 c =
    let same : barred_behind c.args.c ≡ Barred = rw (ne_eqb c.args.c 124 c.if-c-eq124-2.false) refl in
    subst (λ q. RunGoesOn q c.args.c Bars) (sym c.in-Bars.is) (bars_go_on c.args.c Bars same)
