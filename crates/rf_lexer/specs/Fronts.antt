-- What the program tells of the front of a text.
use Rattle.std.specs.Prelude.{ℕ, ◌≡◌, ◌≢◌, ◌==◌, ◌||◌, ◌⊎◌, if◌then◌else◌, Bool, true, Option, None, Some, List, ◌∷◌}
use Rattle.std.specs.Str.{chars}
use Rattle.rf_base_grammar.specs.Characters.{byte_len}
use Rattle.rf_base_grammar.specs.Reader.{Answer, Found, Wrong}
use Rattle.rf_base_grammar.specs.declared.kinds.Bracket.{Bracket}
use Rattle.rf_base_grammar.specs.declared.kinds.Bracket.TheVariants.{Round, Square, Curly}
use Rattle.rf_lexer.specs.Classes.{is_plain}
use Rattle.rf_lexer.specs.declared.front.Front.{Front}
use Rattle.rf_lexer.specs.declared.front.Front.TheVariants.{Read, Unread}

-- the program tells the plain reader's answer
abbrev pub Tells : Answer → Front → Type 0
Tells (Found kind spelling behind) (Read told rest) = (told ≡ kind) × (chars rest.now ≡ behind)
Tells (Wrong kind clean) (Unread told offset) = (told ≡ kind) × (offset ≡ byte_len clean)
Tells _ _ = ⊥

-- the text is a slash or a space, and the body
abbrev pub IsBangMark : List ℕ → List ℕ → Type 0
IsBangMark text body = (c : ℕ) × (text ≡ c ∷ body) × ((c == 47 || c == 32) ≡ true)

-- the bracket that closes with the character
abbrev pub closed_by : ℕ → Option Bracket
closed_by c = if c == 41 then Some Round else if c == 93 then Some Square else if c == 125 then Some Curly else None

-- whether the character is a prefix by itself: ' or the back quote
abbrev pub is_quote : ℕ → Bool
is_quote c = 39 == c || 96 == c

-- whether the character is a prefix behind a hash sign: & ' or the back quote
abbrev pub is_hash_quote : ℕ → Bool
is_hash_quote c = 38 == c || (39 == c || 96 == c)

-- the text begins with this character, which stands for itself in a run, and is no hash sign and no dot
abbrev pub BeginsAtom : ℕ → List ℕ → Type 0
BeginsAtom c text = (behind : List ℕ) × (text ≡ c ∷ behind) × (is_plain c ≡ true) × (c ≢ 35) × (c ≢ 46)

-- a plain run of so many bytes that begins with a hash sign and this character is an atom: behind a colon or a percent
-- sign whatever it is, and behind a t or an f where it ends there
abbrev pub BeginsWord : ℕ → ℕ → Type 0
BeginsWord c len = ((c ≡ 58) ⊎ (c ≡ 37)) ⊎ (((c ≡ 116) ⊎ (c ≡ 102)) × (len ≡ 2))
