-- What a run does.
use Rattle.std.specs.Global.{Global}
use Rattle.std.specs.Prelude.{String, ℕ, ◌≡◌, ◌⊎◌, ⊤, List, [], ◌++◌, Option, codes, string_bytes}
use Rattle.std.specs.Str.{encode_utf8_all}
use Rattle.std.specs.Io.KnownBytes.{Appends, Keeps}
use Rattle.rf_edges.specs.Faults.{Rose}
use Rattle.rf_edges.specs.Bytes.{AppendsPrefix}
use Rattle.rf_edges.specs.Files.{File}
use Rattle.rf_base_file.specs.Formatted.{Layout, IsFormatted}
use Rattle.rf_style.specs.StyleOf.{seen}
use Rattle.rf_style.specs.declared.style.Style.{Style}
use Rattle.rf_words.specs.WordsOf.{Said}
use Rattle.rf_top.specs.Asking.{AreTold, Names, IsBase, styled}
use Rattle.rf_top.specs.Objective.{objective}
use Rattle.rf_top.specs.Lines.{line_of}
use Rattle.rf_top.specs.Answer.{Answer, IsAnswer, stopped}
use Rattle.rf_top.specs.declared.answering.Reply.{Reply}
use Rattle.rf_top.specs.declared.status.Status.{Status}
use Rattle.rf_top.specs.declared.status.Status.TheVariants as status
use Rattle.rf_top.specs.declared.stops.Stop.{Stop}
use Rattle.rf_top.specs.declared.stops.Stop.TheVariants as stop

-- the bytes were written to a sink, or a prefix of them where a fault came
abbrev pub Tells : (old new : Option (List ℕ)) → (before after : ℕ) → List ℕ → Type 0
Tells old new before after bytes = Appends old new bytes ⊎ (Rose before after × AppendsPrefix old new bytes)

-- the run ended once its answer was written whole
abbrev pub IsDone : Status → Type 0
IsDone ended = (ended ≡ status.Fine) ⊎ (ended ≡ status.Differs)

-- the answer tells nothing where its status is Fine or Differs, and otherwise why the run stops
abbrev pub TellsWhy : Answer → Type 0
TellsWhy answer = (IsDone answer.status × (answer.err ≡ [])) ⊎ ((stop : Stop) × (answer ≡ stopped stop))

-- what `out` got of the answer of a run that ended so
abbrev pub Gets : Status → Answer → (old new : Option (List ℕ)) → Type 0
-- nothing, where a read failed or memory ran out
Gets status.ReadFault answer old new = Keeps old new
Gets status.NoMemory answer old new = Keeps old new
-- a prefix, where a write failed
Gets status.WriteFault answer old new = AppendsPrefix old new answer.out
-- otherwise the whole
Gets ended answer old new = (answer.status ≡ ended) × Appends old new answer.out

-- what a run that ended so tells of its answer on `err`
abbrev pub told_of : Status → Answer → List ℕ
told_of status.ReadFault answer = line_of stop.Read ++ codes "\n"
told_of status.NoMemory answer = line_of stop.Memory ++ codes "\n"
told_of status.WriteFault answer = line_of stop.Write ++ codes "\n"
told_of _ answer = answer.err

-- the answer of a run that ended so is the answer to its words, its style file and its source, if there is one
abbrev pub Answers : Status → List (String Global) → (file source : List ℕ) → Answer → Type 0
Answers status.ReadFault words file source answer = ⊤
Answers status.NoMemory words file source answer = ⊤
Answers _ words file source answer = IsAnswer words file source answer

-- with whatever is told of the style file and of the source, the answer of a run that ended so is that to its words
abbrev pub AnswersTold : Status → List (String Global) → (List ℕ → File) → (left : Option (List ℕ)) → Answer → Type 0
AnswersTold ended words files left answer =
    (file source : List ℕ) → AreTold words files left file source → Answers ended words file source answer

-- each answer to the words is so, with whatever is told of the style file and of the source
abbrev pub EachAnswer : List (String Global) → (List ℕ → File) → (left : Option (List ℕ)) → (Answer → Type 0) → Type 0
EachAnswer words files left is_so =
    (file source : List ℕ) → AreTold words files left file source →
    (answer : Answer) → IsAnswer words file source answer → is_so answer

-- a read failed: of the input, or of the style file that the words name
abbrev pub ReadFailed : List (String Global) → (before after : ℕ) → (files_before files_after : List ℕ → ℕ) → Type 0
ReadFailed words before after files_before files_after =
    Rose before after ⊎ ((name : List ℕ) × Names words name × Rose (files_before name) (files_after name))

-- the reason is a read fault or want of memory, or has this cause
abbrev pub OrOutside : Stop → Type 0 → Type 0
OrOutside stop.Read cause = ⊤
OrOutside stop.Memory cause = ⊤
OrOutside _ cause = cause

-- the reason is one that asking for a style has
abbrev pub OfStyle : Stop → Type 0
OfStyle stop.Read = ⊤
OfStyle stop.StyleTooLong = ⊤
OfStyle stop.StyleText = ⊤
OfStyle (stop.StyleKey key) = ⊤
OfStyle (stop.StyleValue key) = ⊤
OfStyle (stop.StyleRange key number) = ⊤
OfStyle stop.Memory = ⊤
OfStyle _ = ⊥

-- the reason is one that reading a source has
abbrev pub OfSource : Stop → Type 0
OfSource stop.Read = ⊤
OfSource stop.SourceTooLong = ⊤
OfSource stop.Memory = ⊤
OfSource _ = ⊥

-- the reason is one that laying a source out has
abbrev pub OfLayout : Stop → Type 0
OfLayout (stop.Refused kind offset) = ⊤
OfLayout stop.LayoutTooLong = ⊤
OfLayout stop.Memory = ⊤
OfLayout _ = ⊥

-- the reason always comes before the source is read
abbrev pub EndsEarly : Stop → Type 0
EndsEarly stop.Words = ⊤
EndsEarly stop.StyleTooLong = ⊤
EndsEarly stop.StyleText = ⊤
EndsEarly (stop.StyleKey key) = ⊤
EndsEarly (stop.StyleValue key) = ⊤
EndsEarly (stop.StyleRange key number) = ⊤
EndsEarly _ = ⊥

-- the answer of a run that doesn't stop
abbrev pub answer_of : Reply → Answer
answer_of reply = record { status = reply.status; out = string_bytes reply.text; err = [] }

-- the bytes are the layout of the source in the style that the words ask for, with this style file if they name one
abbrev pub IsLayoutFor : Said → (file source bytes : List ℕ) → Type 0
IsLayoutFor said file source bytes =
    (base : Style) × IsBase said.style file base × (given : Layout ℕ)
    × IsFormatted (seen (styled said base)) (objective (styled said base)) source given
    × (bytes ≡ encode_utf8_all given.text)
