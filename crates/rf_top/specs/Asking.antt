-- What the words of a run ask for: the style, and where the source comes from.
use Rattle.std.specs.Global.{Global}
use Rattle.std.specs.Prelude.{String, ℕ, ◌≡◌, ◌≤◌, ⊤, List, length, map, string_bytes, Option, Some, None, unwrap_or, Ok}
use Rattle.rf_edges.specs.Files.{File, Bytes}
use Rattle.rf_words.specs.WordsOf.{Said, words_of}
use Rattle.rf_style.specs.declared.style.Style.{Style}
use Rattle.rf_style.specs.StyleOf.{default_style, style_of}
use Rattle.rf_sample.specs.Sample.{sample}
use Rattle.rf_top.specs.declared.limits.TheConstants.{STYLE_LIMIT}

-- what the words say, if the command takes them
abbrev pub said_by : List (String Global) → Option Said
said_by words = words_of (map string_bytes words)

-- the command doesn't take the words
abbrev pub AreRefused : List (String Global) → Type 0
AreRefused words = said_by words ≡ None

-- the words name this style file
abbrev pub Names : List (String Global) → List ℕ → Type 0
Names words name = (said : Said) × (said_by words ≡ Some said) × (said.style ≡ Some name)

-- the words name no style file
abbrev pub NameNone : List (String Global) → Type 0
NameNone words = (said : Said) × (said_by words ≡ Some said) × (said.style ≡ None)

-- the words ask for the sample of so many forms
abbrev pub AskForSample : List (String Global) → ℕ → Type 0
AskForSample words n = (said : Said) × (said_by words ≡ Some said) × (said.numbers.sample ≡ Some n)

-- the words leave the source to the input
abbrev pub AskForInput : List (String Global) → Type 0
AskForInput words = (said : Said) × (said_by words ≡ Some said) × (said.numbers.sample ≡ None)

-- these are the bytes of the style file that is named, if one is
abbrev pub IsFile : Option (List ℕ) → (List ℕ → File) → List ℕ → Type 0
IsFile None files file = ⊤
IsFile (Some name) files file = files name ≡ Bytes file

-- these are the bytes of the source: the sample of so many forms, or what the input has left
abbrev pub IsSource : Option ℕ → Option (List ℕ) → List ℕ → Type 0
IsSource None left source = left ≡ Some source
IsSource (Some n) left source = source ≡ sample n

-- these are the bytes that matter to a run of these words, of the style file and of the source
abbrev pub AreTold : List (String Global) → (List ℕ → File) → Option (List ℕ) → (file source : List ℕ) → Type 0
AreTold words files left file source =
    (said : Said) → said_by words ≡ Some said → IsFile said.style files file × IsSource said.numbers.sample left source

-- the style beside which words are taken: what the named style file says, or the style without a style file
abbrev pub IsBase : Option (List ℕ) → List ℕ → Style → Type 0
IsBase None file base = base ≡ default_style
IsBase (Some name) file base = (length file ≤ STYLE_LIMIT) × (style_of file ≡ Ok base)

-- the style with what the words say in place of its own
abbrev pub styled : Said → Style → Style
styled said base = record {
  width = unwrap_or said.numbers.width base.width;
  limit = unwrap_or said.numbers.limit base.limit;
  blanks = unwrap_or said.numbers.blanks base.blanks;
  cost = unwrap_or said.names.cost base.cost;
  columns = unwrap_or said.names.columns base.columns;
  forms = base.forms;
}
