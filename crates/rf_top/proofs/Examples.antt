-- Worked examples of what words ask for, of answers, of why a run stops and of what it does: a definition that changes
-- its meaning fails here.
use Rattle.std.proofs.Common.{◌≡◌, ℕ, zero, suc, ◌<◌, ◌≤◌, ℤ, false, inl, inr, ⊎_elim, List, [], ◌∷◌, ◌++◌, length, take, Option, Some, None, Err, codes, refl, sym, ap, subst, ◌∙◌, arith}
use Rattle.std.specs.Char.{encode_utf8}
use Rattle.std.specs.Fmt.{digits}
use Rattle.std.specs.Global.{Global}
use Rattle.std.specs.Io.KnownBytes.{Appends, Keeps}
use Rattle.std.specs.Prelude.{String, string_bytes}
use Rattle.std.specs.Str.{encode_utf8_all}
use Rattle.rf_base_document.specs.declared.directions.Dir.TheVariants.{Left, Right}
use Rattle.rf_base_file.specs.Formatted.{Layout, IsFormatted, IsTooLong}
use Rattle.rf_base_source.specs.Sources.{Refused}
use Rattle.rf_base_source.specs.declared.refusals.SourceKind.{SourceKind}
use Rattle.rf_edges.specs.Bytes.{AppendsPrefix}
use Rattle.rf_edges.specs.Faults.{Rose}
use Rattle.rf_edges.specs.Files.{File, Bytes}
use Rattle.rf_sample.specs.Sample.{sample}
use Rattle.rf_style.specs.Faults.{style_text, style_key, style_value, style_range}
use Rattle.rf_style.specs.StyleOf.{default_style, seen, style_of}
use Rattle.rf_style.specs.declared.style.Style.{Style}
use Rattle.rf_text.specs.Lines.{first_difference, line_apart, lines_of}
use Rattle.rf_words.specs.WordsOf.{Said}
use Rattle.rf_words.specs.declared.TheConstants.{USAGE}
use Rattle.rf_words.specs.declared.words.Mode.{Mode}
use Rattle.rf_words.specs.declared.words.Mode.TheVariants.{Plain, Check, Choices, Summary}
use Rattle.rf_top.specs.Answer.{Answer, IsAnswer, IsAnswerIn, IsAnswerTo, answered, fine, stopped}
use Rattle.rf_top.specs.Asking.{AreTold, AskForInput, AskForSample, IsBase, IsFile, IsSource, NameNone, Names, said_by, styled}
use Rattle.rf_top.specs.Laws.{LayoutsGiveThemselves}
use Rattle.rf_top.specs.Lines.{FileStops, SourceStops, StyleStops}
use Rattle.rf_top.specs.Objective.{objective}
use Rattle.rf_top.specs.Running.{Answers, AnswersTold, EachAnswer, Gets, IsDone, IsLayoutFor, ReadFailed, Tells, TellsWhy, told_of}
use Rattle.rf_top.specs.declared.status.Status.{Status}
use Rattle.rf_top.specs.declared.status.Status.TheVariants as status
use Rattle.rf_top.specs.declared.stops.Stop.{Stop}
use Rattle.rf_top.specs.declared.stops.Stop.TheVariants as stop
use Rattle.rf_top.proofs.Running.{stop_not_fine}

-- told are the file that is named and the source that is asked for, and of no file anything is told
told : (words : List (String Global)) (said : Said) (files : List ℕ → File) (left : Option (List ℕ))
    (file source : List ℕ) → said_by words ≡ Some said → IsFile said.style files file →
    IsSource said.numbers.sample left source → AreTold words files left file source
told words said files left file source says is_file is_source other also =
    let same : said ≡ other = (let both : Some said ≡ Some other = sym says ∙ also in cc) in
    subst (λ (s : Said). IsFile s.style files file × IsSource s.numbers.sample left source) same (is_file, is_source)

files_are : (files : List ℕ → File) (name file : List ℕ) →
    IsFile None files file × (files name ≡ Bytes file → IsFile (Some name) files file)
files_are files name file = (tt, λ e. e)

sources_are : (left : Option (List ℕ)) (source : List ℕ) →
    IsSource None (Some source) source × IsSource (Some 2) left (sample 2)
sources_are left source = (refl, refl)

-- what words ask for that say this
asked : (words : List (String Global)) (said : Said) → said_by words ≡ Some said →
    (said.style ≡ None → NameNone words) × ((name : List ℕ) → said.style ≡ Some name → Names words name)
    × (said.numbers.sample ≡ None → AskForInput words)
    × ((n : ℕ) → said.numbers.sample ≡ Some n → AskForSample words n)
asked words said says = (λ e. (said, says, e), λ name e. (said, says, e), λ e. (said, says, e), λ n e. (said, says, e))

named : (words : List (String Global)) (said : Said) (name : List ℕ) → said_by words ≡ Some said → Names words name →
    said.style ≡ Some name
named words said name says names =
    let same : names.0 ≡ said = (let both : Some names.0 ≡ Some said = sym names.1 ∙ says in cc) in
    subst (λ (s : Said). s.style ≡ Some name) same names.2

-- words that are refused are answered by the usage line
refused_words : (file source : List ℕ) (answer : Answer) → IsAnswerTo None file source answer →
    answer ≡ record { status = status.WordsRefused; out = []; err = USAGE.now ++ codes "\n" }
refused_words file source answer is = is

-- a style file of 1,048,577 bytes is too long, whatever stands in it, and one of 1,048,576 isn't
long_file : (file : List ℕ) (s : Stop) → length file ≡ 1048577 → FileStops file s → s ≡ stop.StyleTooLong
long_file file stop.StyleTooLong long h = refl
long_file file stop.StyleText long h = let short : length file ≤ 1048576 = h.0 in absurd (omega (arith, long, short))
long_file file (stop.StyleKey key) long h =
    let short : length file ≤ 1048576 = h.0 in
    absurd (omega (arith, long, short))
long_file file (stop.StyleValue key) long h =
    let short : length file ≤ 1048576 = h.0 in
    absurd (omega (arith, long, short))
long_file file (stop.StyleRange key number) long h =
    let short : length file ≤ 1048576 = h.0 in
    absurd (omega (arith, long, short))
long_file file s long h = absurd h

long_style_file : (said : Said) (name file source : List ℕ) (answer : Answer) → said.style ≡ Some name →
    length file ≡ 1048577 → IsAnswerTo (Some said) file source answer →
    answer ≡ record { status = status.StyleRefused; out = []; err = codes "style: TooLong\n" }
long_style_file said name file source answer is long (inl h) =
    h.2 ∙ ap stopped (long_file file h.0 long (subst (λ n. StyleStops n file h.0) is h.1))
long_style_file said name file source answer is long (inr h) =
    let base : IsBase (Some name) file h.0 = subst (λ n. IsBase n file h.0) is h.1 in
    let short : length file ≤ 1048576 = base.0 in
    absurd (omega (arith, long, short))

no_long_file : (file : List ℕ) → length file ≡ 1048576 → FileStops file stop.StyleTooLong → ⊥
no_long_file file short h = let long : 1048576 < length file = h in omega (arith, long, short)

-- otherwise it is refused for its first fault
faults_are : (file : List ℕ) (key : String Global) (number : ℤ) →
    (FileStops file stop.StyleText → style_of file ≡ Err style_text)
    × (FileStops file (stop.StyleKey key) → style_of file ≡ Err (style_key (string_bytes key)))
    × (FileStops file (stop.StyleValue key) → style_of file ≡ Err (style_value (string_bytes key)))
    × (FileStops file (stop.StyleRange key number) → style_of file ≡ Err (style_range (string_bytes key) number))
faults_are file key number = (λ h. h.1, λ h. h.1, λ h. h.1, λ h. h.1)

-- without a style file the style is that without one, and what the words say
default_is_taken : (said : Said) (file source : List ℕ) (answer : Answer) → said.style ≡ None →
    IsAnswerTo (Some said) file source answer → IsAnswerIn said.mode (styled said default_style) source answer
default_is_taken said file source answer none (inl h) = absurd (subst (λ n. StyleStops n file h.0) none h.1)
default_is_taken said file source answer none (inr h) =
    let base : h.0 ≡ default_style = subst (λ n. IsBase n file h.0) none h.1 in
    subst (λ (b : Style). IsAnswerIn said.mode (styled said b) source answer) base h.2

-- a source of 4,194,305 bytes is too long, whatever stands in it, and one of 4,194,304 isn't
long_alone : (style : Style) (source : List ℕ) (s : Stop) → length source ≡ 4194305 → SourceStops style source s →
    s ≡ stop.SourceTooLong
long_alone style source stop.SourceTooLong long h = refl
long_alone style source (stop.Refused kind offset) long h =
    let short : length source ≤ 4194304 = h.0 in
    absurd (omega (arith, long, short))
long_alone style source stop.LayoutTooLong long h =
    let short : length source ≤ 4194304 = h.0 in
    absurd (omega (arith, long, short))
long_alone style source s long h = absurd h

long_source : (mode : Mode) (style : Style) (source : List ℕ) (answer : Answer) → length source ≡ 4194305 →
    IsAnswerIn mode style source answer →
    answer ≡ record { status = status.SourceRefused; out = []; err = codes "source: TooLong\n" }
long_source mode style source answer long (inl h) = h.2 ∙ ap stopped (long_alone style source h.0 long h.1)
long_source mode style source answer long (inr h) =
    let short : length source ≤ 4194304 = h.0 in
    absurd (omega (arith, long, short))

no_long_source : (style : Style) (source : List ℕ) → length source ≡ 4194304 →
    SourceStops style source stop.SourceTooLong → ⊥
no_long_source style source short h = let long : 4194304 < length source = h in omega (arith, long, short)

-- otherwise it is refused with a kind at an offset, or its layout is too long
causes_are : (style : Style) (source : List ℕ) (kind : SourceKind) (offset : ℕ) →
    (SourceStops style source (stop.Refused kind offset) → Refused source kind offset)
    × (SourceStops style source stop.LayoutTooLong → IsTooLong (seen style) (objective style) source)
causes_are style source kind offset = (λ h. h.1, λ h. h.1)

-- an answer that is Fine tells of a layout of the source
fine_tells : (mode : Mode) (style : Style) (source : List ℕ) (answer : Answer) → IsAnswerIn mode style source answer →
    answer.status ≡ status.Fine →
    (given : Layout ℕ) × (formatted : IsFormatted (seen style) (objective style) source given)
    × (answer ≡ answered mode source (length formatted.tokens) given)
fine_tells mode style source answer (inl h) ended =
    absurd (stop_not_fine h.0 (sym (ap (λ (a : Answer). a.status) h.2) ∙ ended))
fine_tells mode style source answer (inr h) ended = (h.1, h.2, h.3)

-- what each mode writes
abbrev given : Layout ℕ
given = record { choices = Left ∷ Right ∷ []; text = codes "(a)\nb\n"; cost = 12; within = false }

plain_writes : answered Plain (codes "(a )b") 4 given ≡ fine (codes "(a)\nb\n")
unfolding encode_utf8
plain_writes = refl

check_writes : (answered Check (codes "(a)\nc\n") 4 given
    ≡ record { status = status.Differs; out = codes "line 2\n"; err = [] })
    × (answered Check (codes "(a)\nb\n") 4 given ≡ fine [])
unfolding encode_utf8 digits first_difference line_apart lines_of
check_writes = (refl, refl)

choices_write : (answered Choices (codes "(a )b") 4 given ≡ fine (codes "cost 12\nwithin no\nchoices LR\n"))
    × (answered Choices (codes "(a )b") 4 (record given { choices = [] })
    ≡ fine (codes "cost 12\nwithin no\nchoices\n"))
unfolding digits
choices_write = (refl, refl)

summary_writes : answered Summary (codes "(a )b") 4 given
    ≡ fine (codes "bytes 5\nitems 4\nlines 2\ncost 12\nwithin no\n")
unfolding digits
summary_writes = refl

-- a line is told whole, or where a write failed a prefix of it
not_whole : Tells (Some []) (Some (1 ∷ [])) 3 3 (1 ∷ 2 ∷ []) → ⊥
not_whole (inl h) = cc
not_whole (inr h) = ⊎_elim (λ more. omega (arith, more)) (λ top. omega (arith, top)) h.0

abbrev two : List ℕ
two = 2 ∷ []

no_prefix_is : (k : ℕ) → two ≡ take k (1 ∷ []) → ⊥
no_prefix_is zero e = cc
no_prefix_is (suc k) e = cc

no_prefix : Tells (Some []) (Some two) 3 4 (1 ∷ []) → ⊥
no_prefix (inl h) = cc
no_prefix (inr h) = no_prefix_is h.1.0 h.1.2

-- a run is done that ends Fine or Differs, and no other
done_are : IsDone status.Fine × IsDone status.Differs × (IsDone status.SourceRefused → ⊥)
    × (IsDone status.StyleRefused → ⊥) × (IsDone status.WordsRefused → ⊥) × (IsDone status.ReadFault → ⊥)
    × (IsDone status.WriteFault → ⊥) × (IsDone status.NoMemory → ⊥) × (IsDone status.TooLong → ⊥)
done_are = (
  inl refl,
  inr refl,
  ⊎_elim (λ e. cc) (λ e. cc),
  ⊎_elim (λ e. cc) (λ e. cc),
  ⊎_elim (λ e. cc) (λ e. cc),
  ⊎_elim (λ e. cc) (λ e. cc),
  ⊎_elim (λ e. cc) (λ e. cc),
  ⊎_elim (λ e. cc) (λ e. cc),
  ⊎_elim (λ e. cc) (λ e. cc),
)

-- an answer that is Fine tells nothing on `err`, and one that stops writes nothing else
fine_is_silent : (answer : Answer) → TellsWhy answer → answer.status ≡ status.Fine → answer.err ≡ []
fine_is_silent answer (inl h) ended = h.1
fine_is_silent answer (inr h) ended = absurd (stop_not_fine h.0 (sym (ap (λ (a : Answer). a.status) h.1) ∙ ended))

stop_writes_nothing : (answer : Answer) → TellsWhy answer → answer.status ≡ status.TooLong → answer.out ≡ []
stop_writes_nothing answer (inl h) ended =
    absurd
    (⊎_elim
    (λ is. (let e : status.TooLong ≡ status.Fine = sym ended ∙ is in cc))
    (λ is. (let e : status.TooLong ≡ status.Differs = sym ended ∙ is in cc)) h.0)
stop_writes_nothing answer (inr h) ended = ap (λ (a : Answer). a.out) h.1

-- what `out` gets: the whole answer, whose status is that of the run
abbrev whole : Status → Answer → (old new : Option (List ℕ)) → Type 0
whole ended answer old new = (answer.status ≡ ended) × Appends old new answer.out

whole_is_got : (answer : Answer) (old new : Option (List ℕ)) →
    (Gets status.Fine answer old new → whole status.Fine answer old new)
    × (Gets status.Differs answer old new → whole status.Differs answer old new)
    × (Gets status.SourceRefused answer old new → whole status.SourceRefused answer old new)
    × (Gets status.StyleRefused answer old new → whole status.StyleRefused answer old new)
    × (Gets status.WordsRefused answer old new → whole status.WordsRefused answer old new)
    × (Gets status.TooLong answer old new → whole status.TooLong answer old new)
whole_is_got answer old new = (λ h. h, λ h. h, λ h. h, λ h. h, λ h. h, λ h. h)

-- a prefix of it, or nothing
part_is_got : (answer : Answer) (old new : Option (List ℕ)) →
    (Gets status.WriteFault answer old new → AppendsPrefix old new answer.out)
    × (Gets status.ReadFault answer old new → Keeps old new) × (Gets status.NoMemory answer old new → Keeps old new)
part_is_got answer old new = (λ h. h, λ h. h, λ h. h)

-- what `err` is told
told_are : (answer : Answer) → (told_of status.ReadFault answer ≡ codes "read fault\n")
    × (told_of status.WriteFault answer ≡ codes "write fault\n")
    × (told_of status.NoMemory answer ≡ codes "out of memory\n")
    × (told_of status.Fine answer ≡ answer.err) × (told_of status.Differs answer ≡ answer.err)
    × (told_of status.SourceRefused answer ≡ answer.err) × (told_of status.StyleRefused answer ≡ answer.err)
    × (told_of status.WordsRefused answer ≡ answer.err) × (told_of status.TooLong answer ≡ answer.err)
told_are answer = (refl, refl, refl, refl, refl, refl, refl, refl, refl)

-- the answer is that to the words, unless a read failed or memory ran out
answers_are : (words : List (String Global)) (file source : List ℕ) (answer : Answer) →
    (Answers status.Fine words file source answer → IsAnswer words file source answer)
    × (Answers status.Differs words file source answer → IsAnswer words file source answer)
    × (Answers status.SourceRefused words file source answer → IsAnswer words file source answer)
    × (Answers status.StyleRefused words file source answer → IsAnswer words file source answer)
    × (Answers status.WordsRefused words file source answer → IsAnswer words file source answer)
    × (Answers status.WriteFault words file source answer → IsAnswer words file source answer)
    × (Answers status.TooLong words file source answer → IsAnswer words file source answer)
answers_are words file source answer = (λ h. h, λ h. h, λ h. h, λ h. h, λ h. h, λ h. h, λ h. h)

-- so it is for all that is told, and what is said of each answer holds of each that is told
told_answers : (words : List (String Global)) (files : List ℕ → File) (left : Option (List ℕ)) (file source : List ℕ)
    (answer : Answer) → AreTold words files left file source →
    (AnswersTold status.Fine words files left answer → IsAnswer words file source answer)
    × (IsAnswer words file source answer → EachAnswer words files left (λ a. a.status ≡ status.Fine) →
    answer.status ≡ status.Fine)
told_answers words files left file source answer told =
    (λ answers. answers file source told, λ is each. each file source told answer is)

-- no read failed where no count rose but that of a file that isn't named
none_rose : Rose 3 3 → ⊥
none_rose (inl more) = omega (arith, more)
none_rose (inr top) = omega (arith, top)

no_read_failed : (words : List (String Global)) (said : Said) (before after : List ℕ → ℕ) → said_by words ≡ Some said →
    said.style ≡ None → ReadFailed words 3 3 before after → ⊥
no_read_failed words said before after says none (inl h) = none_rose h
no_read_failed words said before after says none (inr h) = let e = sym none ∙ named words said h.0 says h.1 in cc

file_read_failed : (words : List (String Global)) (said : Said) (name : List ℕ) (before after : List ℕ → ℕ) →
    said_by words ≡ Some said → said.style ≡ Some name → ReadFailed words 3 3 before after →
    Rose (before name) (after name)
file_read_failed words said name before after says is (inl h) = absurd (none_rose h)
file_read_failed words said name before after says is (inr h) =
    let same : h.0 ≡ name = (let e = sym (named words said h.0 says h.1) ∙ is in cc) in
    subst (λ n. Rose (before n) (after n)) same h.2

-- without a style file a layout is one in the style without one, and what the words say
abbrev IsLayoutIn : Said → (source bytes : List ℕ) → Style → Type 0
IsLayoutIn said source bytes base =
    (given : Layout ℕ) × IsFormatted (seen (styled said base)) (objective (styled said base)) source given
    × (bytes ≡ encode_utf8_all given.text)

layout_is : (said : Said) (file source bytes : List ℕ) → said.style ≡ None → IsLayoutFor said file source bytes →
    IsLayoutIn said source bytes default_style
layout_is said file source bytes none h =
    subst (IsLayoutIn said source bytes) (subst (λ n. IsBase n file h.0) none h.1) (h.2, h.3, h.4)

-- a layout of 4,194,304 bytes gives itself
greatest_layout_again : LayoutsGiveThemselves → (words : List (String Global)) (said : Said) (file source : List ℕ)
    (answer : Answer) → said_by words ≡ Some said → said.mode ≡ Plain → IsAnswer words file source answer →
    answer.status ≡ status.Fine → length answer.out ≡ 4194304 → IsAnswer words file answer.out answer
greatest_layout_again law words said file source answer says plain is ended full =
    let short : length answer.out ≤ 4194304 = omega (arith, full) in
    law words said file source answer says plain is ended short
