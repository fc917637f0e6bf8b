-- What a run answers, where neither the outside nor memory fails.
use Rattle.std.specs.Global.{Global}
use Rattle.std.specs.Prelude.{String, ℕ, ◌≡◌, ◌≤◌, ◌⊎◌, Bool, true, false, Option, Some, None, List, [], ◌∷◌, ◌++◌, length, map, codes, decimal}
use Rattle.std.specs.List.{concat}
use Rattle.std.specs.Str.{encode_utf8_all}
use Rattle.rf_base_document.specs.declared.directions.Dir.{Dir}
use Rattle.rf_base_document.specs.Directions.{letter}
use Rattle.rf_base_grammar.specs.Itemised.{line_ends}
use Rattle.rf_base_grammar.specs.declared.TheConstants.{SOURCE_LIMIT}
use Rattle.rf_base_file.specs.Formatted.{Layout, IsFormatted}
use Rattle.rf_text.specs.Lines.{first_difference}
use Rattle.rf_style.specs.StyleOf.{seen}
use Rattle.rf_style.specs.declared.style.Style.{Style}
use Rattle.rf_words.specs.WordsOf.{Said}
use Rattle.rf_words.specs.declared.words.Mode.{Mode}
use Rattle.rf_words.specs.declared.words.Mode.TheVariants.{Plain, Check, Choices, Summary}
use Rattle.rf_top.specs.Asking.{said_by, styled, IsBase}
use Rattle.rf_top.specs.Lines.{line_of, status_of, StyleStops, SourceStops}
use Rattle.rf_top.specs.Objective.{objective}
use Rattle.rf_top.specs.declared.status.Status.{Status}
use Rattle.rf_top.specs.declared.status.Status.TheVariants as status
use Rattle.rf_top.specs.declared.stops.Stop.{Stop}
use Rattle.rf_top.specs.declared.stops.Stop.TheVariants as stop

-- an answer: how the run ends, and the bytes that it writes to `out` and to `err`
pub record Answer : Type 0 where
  pub status : Status
  pub out : List ℕ
  pub err : List ℕ

-- the answer of a run that stops: nothing, and the line that says why
abbrev pub stopped : Stop → Answer
stopped stop = record { status = status_of stop; out = []; err = line_of stop ++ codes "\n" }

-- the answer of a run that ends Fine with these bytes
abbrev pub fine : List ℕ → Answer
fine bytes = record { status = status.Fine; out = bytes; err = [] }

-- the answer where a text differs from its source first in this line, or nowhere
abbrev pub compared : Option ℕ → Answer
compared None = fine []
compared (Some line) =
    record { status = status.Differs; out = codes "line " ++ decimal line ++ codes "\n"; err = [] }

-- the directions, one after another
abbrev pub directions : List Dir → List ℕ
directions choices = concat (map letter choices)

-- the line that lists choices
abbrev pub choices_line : List Dir → List ℕ
choices_line [] = codes "choices\n"
choices_line (dir ∷ choices) = codes "choices " ++ directions (dir ∷ choices) ++ codes "\n"

-- the line of the cost
abbrev pub cost_line : ℕ → List ℕ
cost_line cost = codes "cost " ++ decimal cost ++ codes "\n"

-- the line that says whether a layout is within the computation width
abbrev pub within_line : Bool → List ℕ
within_line true = codes "within yes\n"
within_line false = codes "within no\n"

-- the lines that tell of a layout: its cost, whether it is within the computation width, and its choices
abbrev pub choices_lines : Layout ℕ → List ℕ
choices_lines given = cost_line given.cost ++ within_line given.within ++ choices_line given.choices

-- the lines that tell of a source of so many bytes and items, and of its layout
abbrev pub summary_lines : (bytes items : ℕ) → Layout ℕ → List ℕ
summary_lines bytes items given =
    codes "bytes " ++ decimal bytes ++ codes "\nitems " ++ decimal items
    ++ codes "\nlines " ++ decimal (line_ends given.text) ++ codes "\n"
    ++ cost_line given.cost ++ within_line given.within

-- the answer of a run in this mode over a source of so many items, which is laid out so
abbrev pub answered : Mode → (source : List ℕ) (items : ℕ) → Layout ℕ → Answer
answered Plain source items given = fine (encode_utf8_all given.text)
answered Check source items given = compared (first_difference source (encode_utf8_all given.text))
answered Choices source items given = fine (choices_lines given)
answered Summary source items given = fine (summary_lines (length source) items given)

-- this is the answer for a source in a style: the source stops the run, or is laid out
abbrev pub IsAnswerIn : Mode → Style → List ℕ → Answer → Type 0
IsAnswerIn mode style source answer =
    ((stop : Stop) × SourceStops style source stop × (answer ≡ stopped stop))
    ⊎ (length source ≤ SOURCE_LIMIT) × (given : Layout ℕ)
    × (formatted : IsFormatted (seen style) (objective style) source given)
    × (answer ≡ answered mode source (length formatted.tokens) given)

-- this is the answer to what words say: the style file stops the run, or the source is answered in the style
abbrev pub IsAnswerTo : Option Said → (file source : List ℕ) → Answer → Type 0
IsAnswerTo None file source answer = answer ≡ stopped stop.Words
IsAnswerTo (Some said) file source answer =
    ((stop : Stop) × StyleStops said.style file stop × (answer ≡ stopped stop))
    ⊎ ((base : Style) × IsBase said.style file base × IsAnswerIn said.mode (styled said base) source answer)

-- this is the answer to these words, with this style file, if they name one, and this source
abbrev pub IsAnswer : List (String Global) → (file source : List ℕ) → Answer → Type 0
IsAnswer words file source answer = IsAnswerTo (said_by words) file source answer
