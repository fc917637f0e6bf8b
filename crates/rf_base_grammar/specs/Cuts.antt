-- Where runs, strings, block comments and here strings end, computed from left to right. These functions are the plain
-- slow reader's; the definitions of spellings don't rest on them.
use Rattle.std.specs.Prelude.{ℕ, zero, suc, ◌==◌, if◌then◌else◌, Bool, true, false, Option, None, Some, List, [], ◌∷◌, take, drop}
use Rattle.std.specs.List.{prefix_len}
use Rattle.rf_base_grammar.specs.Characters.{is_delimiter}
use Rattle.rf_base_grammar.specs.Runs.{backslash, bar, hash}
use Rattle.rf_base_grammar.specs.Strings.{quote}

-- a text in two: a front, and what is behind it
pub record Cut : Type 0 where
  pub front : List ℕ
  pub behind : List ℕ

-- the two
abbrev pub cut : List ℕ → List ℕ → Cut
cut front behind = record { front = front; behind = behind }

-- one more character at the front
abbrev pub also : ℕ → Option Cut → Option Cut
also c None = None
also c (Some k) = Some (cut (c ∷ k.front) k.behind)

-- the longest front whose characters pass the test
abbrev pub span : (ℕ → Bool) → List ℕ → Cut
span test text = cut (take (prefix_len test text) text) (drop (prefix_len test text) text)

-- how the next character of a run is read: as it is, behind a backslash, or between bars
pub data Quoting : Type 0 where
  Bare : Quoting
  Escaped : Quoting
  Barred : Quoting

-- how the character behind c is read, where c stands for itself or begins to quote
abbrev pub quoting_behind : ℕ → Quoting
quoting_behind c = if c == backslash then Escaped else if c == bar then Barred else Bare

-- how the character behind c is read, where c stands between bars
abbrev pub barred_behind : ℕ → Quoting
barred_behind c = if c == bar then Bare else Barred

-- nothing where the run has ended before c, and otherwise c and the rest of the run
abbrev pub unless_ended : Bool → ℕ → List ℕ → Option Cut → Option Cut
unless_ended true c text rest = Some (cut [] (c ∷ text))
unless_ended false c text rest = also c rest

-- the run at the front, or none where it ends within quoting
unfoldable pub run_cut : Quoting → List ℕ → Option Cut
run_cut Bare [] = Some (cut [] [])
run_cut Escaped [] = None
run_cut Barred [] = None
run_cut Bare (c ∷ text) = unless_ended (is_delimiter c) c text (run_cut (quoting_behind c) text)
run_cut Escaped (c ∷ text) = also c (run_cut Bare text)
run_cut Barred (c ∷ text) = also c (run_cut (barred_behind c) text)

-- where the string ends at c, nothing and what is behind c, and otherwise c and the rest of the string
abbrev pub unless_quote : Bool → ℕ → List ℕ → Option Cut → Option Cut
unless_quote true c text rest = Some (cut [] text)
unless_quote false c text rest = also c rest

-- the string's characters up to its closing quote, and what is behind the quote; none where there is no such quote. The
-- flag says that a backslash takes the next character with it
unfoldable pub string_cut : Bool → List ℕ → Option Cut
string_cut escaped [] = None
string_cut true (c ∷ text) = also c (string_cut false text)
string_cut false (c ∷ text) = unless_quote (c == quote) c text (string_cut (c == backslash) text)

-- the first half of a mark of a block comment: none, a hash sign, or a bar
pub data Half : Type 0 where
  NoHalf : Half
  HashHalf : Half
  BarHalf : Half

-- the half that c is by itself
abbrev pub half_of : ℕ → Half
half_of c = if c == hash then HashHalf else if c == bar then BarHalf else NoHalf

-- what c is behind such a half: the second half of a mark, which opens or closes a comment, or a character by itself
pub data Step : Type 0 where
  Opens : Step
  Closes : Step
  Passes : (half : Half) → Step

abbrev pub step_of : Half → ℕ → Step
step_of NoHalf c = Passes (half_of c)
step_of HashHalf c = if c == bar then Opens else Passes (half_of c)
step_of BarHalf c = if c == hash then Closes else Passes (half_of c)

-- the step at c, before the text, where as many other comments are open around this one; rest reads on
abbrev pub block_step : Step → ℕ → ℕ → List ℕ → (ℕ → Half → Option Cut) → Option Cut
block_step Opens around c text rest = also c (rest (suc around) NoHalf)
block_step Closes zero c text rest = Some (cut (c ∷ []) text)
block_step Closes (suc around) c text rest = also c (rest around NoHalf)
block_step (Passes half) around c text rest = also c (rest around half)

-- the comment's characters up to the end of its closing mark; none where it isn't closed
unfoldable pub block_cut : ℕ → Half → List ℕ → Option Cut
block_cut around half [] = None
block_cut around half (c ∷ text) = block_step (step_of half c) around c text (λ n h. block_cut n h text)

-- what is left of the terminator behind c, where the line has been the terminator's beginning so far; none where the
-- line is another one
abbrev pub left_behind : Option (List ℕ) → ℕ → Option (List ℕ)
left_behind None c = None
left_behind (Some []) c = None
left_behind (Some (x ∷ left)) c = if x == c then Some left else None

-- what a character is in a line of a here string
pub data LineStep : Type 0 where
  Feeds : LineStep
  Returns : LineStep
  Goes : LineStep

abbrev pub line_step : ℕ → LineStep
line_step c = if c == 10 then Feeds else if c == 13 then Returns else Goes

-- the step at c, before the text; rest reads on
abbrev pub here_step : LineStep → List ℕ → Option (List ℕ) → ℕ → List ℕ → (Option (List ℕ) → Option Cut) → Option Cut
here_step Feeds terminator (Some []) c text rest = Some (cut [] (c ∷ text))
here_step Feeds terminator _ c text rest = also c (rest (Some terminator))
here_step Returns terminator left c text rest = None
here_step Goes terminator left c text rest = also c (rest (left_behind left c))

-- the characters up to the end of the first line that is the terminator; none where there is no such line, or a CR
-- stands before its end
unfoldable pub here_cut : List ℕ → Option (List ℕ) → List ℕ → Option Cut
here_cut terminator (Some []) [] = Some (cut [] [])
here_cut terminator _ [] = None
here_cut terminator left (c ∷ text) = here_step (line_step c) terminator left c text (λ l. here_cut terminator l text)
