-- A closer of the list on top.
use denote.Enum.Bare.{same_true}
use Rattle.std.proofs.Common.{refl, sym, ◌∙◌, rules}
use Rattle.rf_base_grammar.specs.contracts.kinds.Bracket.{the_type}
use Rattle.rf_tree.proofs.Places.{close_goes}
use Rattle.rf_tree.proofs.parser.Parser.close.Goals as goal

pub returns-in_ok-end_list-in-List-clause-goes_on : goal.returns-in_ok-end_list-in-List-clause-goes_on
returns-in_ok-end_list-in-List-clause-goes_on c =
    λ ts frames here stands is.
    let k = c.in_ok-check_end-in-List.ensures.goes_on in
    let same = same_true the_type (search rules) c.in-List.open c.args.bracket (sym c.eq.ensures ∙ k.0) in
    close_goes ts c.args.self.now _ c.end_list.new.self c.pop.new.self.items c.in-Some.begun c.in-List.open c.args.bracket c.in-List.hashed c.args.number c.args.start frames here
    stands is c.in-Some.ensures.items c.in-List.is same k.1 refl refl refl c.in_ok-end_list-in-List.ensures
