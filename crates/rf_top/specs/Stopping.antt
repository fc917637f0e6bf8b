-- How each fault of a step stops a run.
use Rattle.rf_edges.specs.declared.reading.ReadError.{ReadError}
use Rattle.rf_edges.specs.declared.reading.ReadError.TheVariants as read
use Rattle.rf_edges.specs.declared.shelves.ShelfError.{ShelfError}
use Rattle.rf_edges.specs.declared.shelves.ShelfError.TheVariants as shelf
use Rattle.rf_words.specs.declared.words.WordsError.{WordsError}
use Rattle.rf_words.specs.declared.words.WordsError.TheVariants as words
use Rattle.rf_style.specs.declared.faults.StyleError.{StyleError}
use Rattle.rf_style.specs.declared.faults.StyleError.TheVariants as style
use Rattle.rf_text.specs.declared.decoding.NotUtf8.{NotUtf8 as not_utf8}
use Rattle.rf_lexer.specs.declared.faults.LexError.{LexError}
use Rattle.rf_lexer.specs.declared.faults.LexError.TheVariants as lexed
use Rattle.rf_tree.specs.declared.trees.TreeError.{TreeError}
use Rattle.rf_tree.specs.declared.trees.TreeError.TheVariants as parsed
use Rattle.rf_whole.specs.declared.faults.FormatError.{FormatError}
use Rattle.rf_whole.specs.declared.faults.FormatError.TheVariants as laid
use Rattle.rf_whole.specs.declared.faults.SourceError.{SourceError}
use Rattle.rf_whole.specs.declared.faults.SourceError.TheVariants as source
use Rattle.rf_base_source.specs.declared.refusals.SourceKind.TheVariants.{NotUtf8, Lex, Tree}
use Rattle.rf_top.specs.declared.stops.Stop.{Stop}
use Rattle.rf_top.specs.declared.stops.Stop.TheVariants as stop

-- how a fault of the words stops a run
abbrev pub words_stop : WordsError → Stop
words_stop words.Refused = stop.Words
words_stop (words.Memory e) = stop.Memory

-- how a fault of reading the style file stops a run
abbrev pub shelf_stop : ShelfError → Stop
shelf_stop shelf.TooLong = stop.StyleTooLong
shelf_stop shelf.Failed = stop.Read
shelf_stop (shelf.Memory e) = stop.Memory

-- how a fault of the style file stops a run
abbrev pub style_stop : StyleError → Stop
style_stop style.StyleText = stop.StyleText
style_stop (style.StyleKey key) = stop.StyleKey key
style_stop (style.StyleValue key) = stop.StyleValue key
style_stop (style.StyleRange key number) = stop.StyleRange key number
style_stop (style.Memory e) = stop.Memory

-- how bytes that aren't UTF-8 stop a run
abbrev pub utf8_stop : not_utf8 → Stop
utf8_stop fault = stop.Refused NotUtf8 fault.offset

-- how a fault of the lexer stops a run
abbrev pub lex_stop : LexError → Stop
lex_stop (lexed.Refused kind offset) = stop.Refused (Lex kind) offset
lex_stop (lexed.Memory e) = stop.Memory

-- how a fault of the parser stops a run
abbrev pub tree_stop : TreeError → Stop
tree_stop (parsed.Refused kind offset) = stop.Refused (Tree kind) offset
tree_stop (parsed.Memory e) = stop.Memory

-- how a fault of laying out stops a run
abbrev pub format_stop : FormatError → Stop
format_stop laid.TooLong = stop.LayoutTooLong
format_stop (laid.Memory e) = stop.Memory

-- how a fault of a source's trees and layout stops a run
abbrev pub source_stop : SourceError → Stop
source_stop (source.Tree fault) = tree_stop fault
source_stop (source.Layout fault) = format_stop fault

-- how a fault of reading stops a run
abbrev pub read_stop : ReadError → Stop
read_stop read.Fault = stop.Read
read_stop read.TooLong = stop.SourceTooLong
read_stop (read.Memory e) = stop.Memory
