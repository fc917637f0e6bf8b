-- Why a file isn't laid out, where a part of it isn't.
use Rattle.rf_lexer.specs.declared.faults.LexError.{LexError}
use Rattle.rf_lexer.specs.declared.faults.LexError.TheVariants as lexed
use Rattle.rf_whole.specs.declared.faults.Miss.{Miss}
use Rattle.rf_whole.specs.declared.faults.Miss.TheVariants as miss
use Rattle.rf_walk.specs.declared.faults.LayoutError.{LayoutError}
use Rattle.rf_walk.specs.declared.faults.LayoutError.TheVariants as layout
use Rattle.rf_resolve.specs.declared.faults.ResolveError.{ResolveError}
use Rattle.rf_resolve.specs.declared.faults.ResolveError.TheVariants as resolved
use Rattle.rf_whole.specs.declared.faults.FormatError.{FormatError}
use Rattle.rf_whole.specs.declared.faults.FormatError.TheVariants.{TooLong, Memory}

-- the same of a walk and of what is chosen
abbrev pub layout_fault : LayoutError → FormatError
layout_fault layout.TooLong = TooLong
layout_fault (layout.Memory fault) = Memory fault

abbrev pub resolve_fault : ResolveError → FormatError
resolve_fault resolved.TooLong = TooLong
resolve_fault (resolved.Memory fault) = Memory fault

-- what is told of a text where its items can't be had
abbrev pub lex_miss : LexError → Miss
lex_miss (lexed.Refused kind offset) = miss.Items kind offset
lex_miss (lexed.Memory e) = miss.Memory e
