-- No byte is no character.
use Rattle.std.proofs.Common.{◌≡◌, [], refl}
use Rattle.std.specs.Str.{chars}

pub no_chars : chars [] ≡ []
unfolding chars
no_chars = refl
