-- Behind the space stands a name.
use Rattle.std.proofs.Common.{Some, sym, subst}
use Rattle.std.specs.Prelude.{codes}
use Rattle.std.specs.Str.{chars}
use Rattle.rf_base_grammar.specs.Reader.{strip}
use Rattle.rf_lexer.specs.Fronts.{Tells}
use Rattle.rf_lexer.proofs.Stripped.{stripped_some}
use Rattle.rf_lexer.proofs.LanguageParts.{language_is}
use Rattle.rf_lexer.proofs.language.language_item.Goals as goal

pub returns-in-Some : goal.returns-in-Some
returns-in-Some c =
    let behind = chars c.args.behind.now in
    subst (λ a. Tells a c.spaced_language.result)
    (sym (language_is c.args.language behind (Some (chars c.in-Some.spaced.now)) c.if-not-language.false (stripped_some (strip (codes " ") behind) c.in-Some.spaced c.in-Some.ensures)))
    c.spaced_language.ensures
