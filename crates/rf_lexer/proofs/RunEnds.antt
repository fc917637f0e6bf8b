-- Texts that are empty, and how others end.
use Rattle.std.proofs.Common.{◌≡◌, ℕ, false, if◌then◌else◌, List, [], ◌∷◌, refl}
use Rattle.rf_base_grammar.specs.Reader.{is_nothing, ends_in, is_atom_run}

-- a text that isn't empty ends as it ends, whatever the flag says
pub ends_start : (c : ℕ) (text : List ℕ) → (if is_nothing text then false else ends_in c text) ≡ ends_in c text
ends_start c [] = refl
ends_start c (d ∷ text) = refl

pub atom_nothing : (run : List ℕ) → run ≡ [] → is_atom_run run ≡ false
atom_nothing run e = rw e refl
