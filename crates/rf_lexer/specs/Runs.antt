-- How the program tells where a run ends.
use Rattle.std.specs.Prelude.{ℕ, ◌≡◌, ◌<◌, Some, List, [], ◌∷◌, length, slice_index}
use Rattle.rf_base_grammar.specs.Characters.{is_delimiter}
use Rattle.rf_base_grammar.specs.Cuts.{Bare, Escaped, Barred, run_cut, cut, also}
use Rattle.rf_base_grammar.specs.Cuts as Cuts
use Rattle.rf_lexer.specs.Classes.{is_plain, IsMark, BeginsWithMarks}
use Rattle.rf_lexer.specs.declared.runs.Quoting.{Quoting}
use Rattle.rf_lexer.specs.declared.runs.Quoting.TheVariants.{Plain, Escape, Bars}

-- how the plain reader calls it
abbrev pub quoting : Quoting → Cuts.Quoting
quoting Plain = Bare
quoting Escape = Escaped
quoting Bars = Barred

-- a run that goes on so ends before the character
abbrev pub EndsBefore : Quoting → ℕ → Type 0
EndsBefore q c = (text : List ℕ) → run_cut (quoting q) (c ∷ text) ≡ Some (cut [] (c ∷ text))

-- a run that goes on so has the character, and goes on behind it as the next says
abbrev pub RunGoesOn : Quoting → ℕ → Quoting → Type 0
RunGoesOn q c next = (text : List ℕ) → run_cut (quoting q) (c ∷ text) ≡ also c (run_cut (quoting next) text)

-- a run that begins where the text does has no character
abbrev pub EndsAtOnce : List ℕ → Type 0
EndsAtOnce text = run_cut Bare text ≡ Some (cut [] text)

-- the first so many bytes are ASCII characters that stand for themselves, and an ASCII delimiter stands behind them
pub record IsPlainRun (bytes : List ℕ) (n : ℕ) : Type 0 where
  pub within : n < length bytes
  pub marks : BeginsWithMarks is_plain bytes n
  pub ends : IsMark is_delimiter (slice_index bytes n)
