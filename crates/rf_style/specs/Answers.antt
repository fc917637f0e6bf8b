-- What calls answer, beside what is read by the definitions. Want of memory may come in place of each answer.
use Rattle.std.specs.Prelude.{◌≡◌, ⊤, Result, Ok, Err, string_bytes}
use Rattle.rf_style.specs.declared.faults.StyleError.{StyleError}
use Rattle.rf_style.specs.declared.faults.StyleError.TheVariants.{StyleText, StyleKey, StyleValue, StyleRange, Memory}
use Rattle.rf_style.specs.Faults.{Fault, Reading, style_text, style_key, style_value, style_range}

-- the error says this fault, with the same key and number, or that memory ran out
abbrev pub Names : Fault → StyleError → Type 0
Names fault StyleText = fault ≡ style_text
Names fault (StyleKey key) = fault ≡ style_key (string_bytes key)
Names fault (StyleValue key) = fault ≡ style_value (string_bytes key)
Names fault (StyleRange key number) = fault ≡ style_range (string_bytes key) number
Names fault (Memory error) = ⊤

module _ {A : Type 0} where
  -- the error says the fault that was met, or that memory ran out
  abbrev pub NamesMet : Reading A → StyleError → Type 0
  NamesMet reading StyleText = reading ≡ Err style_text
  NamesMet reading (StyleKey key) = reading ≡ Err (style_key (string_bytes key))
  NamesMet reading (StyleValue key) = reading ≡ Err (style_value (string_bytes key))
  NamesMet reading (StyleRange key number) = reading ≡ Err (style_range (string_bytes key) number)
  NamesMet reading (Memory error) = ⊤

  -- the answer is what is read, or memory ran out
  abbrev pub Answers : Reading A → Result A StyleError → Type 0
  Answers reading (Ok x) = reading ≡ Ok x
  Answers reading (Err error) = NamesMet reading error

  -- what stands after the call is what is read, or an answer says why it isn't
  abbrev pub Leaves : Reading A → Result (Unit {0}) StyleError → A → Type 0
  Leaves reading (Ok done) new = reading ≡ Ok new
  Leaves reading (Err error) new = NamesMet reading error
