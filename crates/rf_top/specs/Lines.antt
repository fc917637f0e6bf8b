-- Why a run stops: the line that says so, the status, and when each reason comes.
use Rattle.std.specs.Prelude.{ℕ, ◌≡◌, ◌<◌, ◌≤◌, ◌++◌, List, length, codes, decimal, Option, Some, None, Err, string_bytes}
use Rattle.std.specs.Fmt.{signed_decimal}
use Rattle.rf_base_grammar.specs.declared.TheConstants.{SOURCE_LIMIT}
use Rattle.rf_base_grammar.specs.declared.refusals.LexKind.{LexKind}
use Rattle.rf_base_grammar.specs.declared.refusals.LexKind.TheVariants.{BadHash, OpenString, OpenComment, OpenBar, OpenHere, StrayLineEnd, LanguageLine, LanguageReader}
use Rattle.rf_base_tree.specs.declared.refusals.TreeKind.{TreeKind}
use Rattle.rf_base_tree.specs.declared.refusals.TreeKind.TheVariants.{CloseWithout, CloseMismatch, OpenList, NothingAfter, BadDot, TooDeep}
use Rattle.rf_base_source.specs.Sources.{Refused}
use Rattle.rf_base_source.specs.declared.refusals.SourceKind.{SourceKind}
use Rattle.rf_base_source.specs.declared.refusals.SourceKind.TheVariants.{NotUtf8, Lex, Tree}
use Rattle.rf_base_file.specs.Formatted.{IsTooLong}
use Rattle.rf_style.specs.Faults.{style_text, style_key, style_value, style_range}
use Rattle.rf_style.specs.StyleOf.{seen, style_of}
use Rattle.rf_style.specs.declared.style.Style.{Style}
use Rattle.rf_words.specs.declared.TheConstants.{USAGE}
use Rattle.rf_top.specs.Objective.{objective}
use Rattle.rf_top.specs.declared.limits.TheConstants.{STYLE_LIMIT}
use Rattle.rf_top.specs.declared.status.Status.{Status}
use Rattle.rf_top.specs.declared.status.Status.TheVariants as status
use Rattle.rf_top.specs.declared.stops.Stop.{Stop}
use Rattle.rf_top.specs.declared.stops.Stop.TheVariants as stop

-- the names of the lexer's kinds of refusal
abbrev pub lex_kind_name : LexKind → List ℕ
lex_kind_name BadHash = codes "BadHash"
lex_kind_name OpenString = codes "OpenString"
lex_kind_name OpenComment = codes "OpenComment"
lex_kind_name OpenBar = codes "OpenBar"
lex_kind_name OpenHere = codes "OpenHere"
lex_kind_name StrayLineEnd = codes "StrayLineEnd"
lex_kind_name LanguageLine = codes "LanguageLine"
lex_kind_name LanguageReader = codes "LanguageReader"

-- the names of the tree's
abbrev pub tree_kind_name : TreeKind → List ℕ
tree_kind_name CloseWithout = codes "CloseWithout"
tree_kind_name CloseMismatch = codes "CloseMismatch"
tree_kind_name OpenList = codes "OpenList"
tree_kind_name NothingAfter = codes "NothingAfter"
tree_kind_name BadDot = codes "BadDot"
tree_kind_name TooDeep = codes "TooDeep"

-- the name of a kind of refusal
abbrev pub kind_name : SourceKind → List ℕ
kind_name NotUtf8 = codes "NotUtf8"
kind_name (Lex kind) = lex_kind_name kind
kind_name (Tree kind) = tree_kind_name kind

-- the line that is written when a run stops so, without its end
abbrev pub line_of : Stop → List ℕ
line_of stop.Words = USAGE.now
line_of stop.Read = codes "read fault"
line_of stop.StyleTooLong = codes "style: TooLong"
line_of stop.StyleText = codes "style: StyleText"
line_of (stop.StyleKey key) = codes "style: StyleKey " ++ string_bytes key
line_of (stop.StyleValue key) = codes "style: StyleValue " ++ string_bytes key
line_of (stop.StyleRange key number) =
    codes "style: StyleRange " ++ string_bytes key ++ codes " " ++ signed_decimal number
line_of stop.SourceTooLong = codes "source: TooLong"
line_of (stop.Refused kind offset) = codes "source: " ++ kind_name kind ++ codes " at " ++ decimal offset
line_of stop.LayoutTooLong = codes "layout too long"
line_of stop.Write = codes "write fault"
line_of stop.Memory = codes "out of memory"

-- the status of a run that stops so
abbrev pub status_of : Stop → Status
status_of stop.Words = status.WordsRefused
status_of stop.Read = status.ReadFault
status_of stop.StyleTooLong = status.StyleRefused
status_of stop.StyleText = status.StyleRefused
status_of (stop.StyleKey key) = status.StyleRefused
status_of (stop.StyleValue key) = status.StyleRefused
status_of (stop.StyleRange key number) = status.StyleRefused
status_of stop.SourceTooLong = status.SourceRefused
status_of (stop.Refused kind offset) = status.SourceRefused
status_of stop.LayoutTooLong = status.TooLong
status_of stop.Write = status.WriteFault
status_of stop.Memory = status.NoMemory

-- a style file of these bytes stops a run for this reason
abbrev pub FileStops : List ℕ → Stop → Type 0
FileStops file stop.StyleTooLong = STYLE_LIMIT < length file
FileStops file stop.StyleText = (length file ≤ STYLE_LIMIT) × (style_of file ≡ Err style_text)
FileStops file (stop.StyleKey key) = (length file ≤ STYLE_LIMIT) × (style_of file ≡ Err (style_key (string_bytes key)))
FileStops file (stop.StyleValue key) =
    (length file ≤ STYLE_LIMIT) × (style_of file ≡ Err (style_value (string_bytes key)))
FileStops file (stop.StyleRange key number) =
    (length file ≤ STYLE_LIMIT) × (style_of file ≡ Err (style_range (string_bytes key) number))
FileStops file _ = ⊥

-- the style file that is named, if one is, stops a run for this reason
abbrev pub StyleStops : Option (List ℕ) → List ℕ → Stop → Type 0
StyleStops None file stop = ⊥
StyleStops (Some name) file stop = FileStops file stop

-- a source stops a run in this style for this reason
abbrev pub SourceStops : Style → List ℕ → Stop → Type 0
SourceStops style source stop.SourceTooLong = SOURCE_LIMIT < length source
SourceStops style source (stop.Refused kind offset) = (length source ≤ SOURCE_LIMIT) × Refused source kind offset
SourceStops style source stop.LayoutTooLong =
    (length source ≤ SOURCE_LIMIT) × IsTooLong (seen style) (objective style) source
SourceStops style source _ = ⊥
