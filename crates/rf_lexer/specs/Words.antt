-- Words that the program tells apart.
use Rattle.std.specs.Prelude.{ℕ, ◌||◌, Bool, List, codes}
use Rattle.rf_base_grammar.specs.Runs.{booleans, atom_beginnings}
use Rattle.rf_base_grammar.specs.Reader.{among, begins_among, is_number_word}

-- whether the run is an atom by what it has behind its hash sign
abbrev pub is_hash_atom : List ℕ → Bool
is_hash_atom run = among booleans run || (begins_among atom_beginnings run || is_number_word (codes "#") run)
