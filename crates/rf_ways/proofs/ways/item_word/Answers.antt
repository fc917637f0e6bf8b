-- The item is an atom, or has no word.
use Rattle.std.proofs.Common.{length, refl}
use Rattle.std.specs.Str.{chars}
use Rattle.std.proofs.lemmas.Option.{slice_get_read}
use Rattle.rf_ways.proofs.Words.{token_of_item, atom_word, no_atom_word}
use Rattle.rf_ways.proofs.ways.item_word.Goals as goal

pub returns-in-Atom : goal.returns-in-Atom
returns-in-Atom c ts trees holds =
    let items = c.args.tree.now.items.items in
    let at = slice_get_read items (length items) c.args.item c.index.result.now refl c.requires.there c.index.ensures in
    atom_word ts c.args.item c.index.result.now (chars c.text.result.now) (token_of_item ts items c.args.item c.index.result.now holds.items_are at)
    c.in-Atom.is (c.text.ensures.characters ts trees holds)

pub returns-in_default : goal.returns-in_default
returns-in_default c ts trees holds =
    let items = c.args.tree.now.items.items in
    let at = slice_get_read items (length items) c.args.item c.index.result.now refl c.requires.there c.index.ensures in
    no_atom_word ts c.args.item c.index.result.now (token_of_item ts items c.args.item c.index.result.now holds.items_are at) c.in_default.not-Atom
