-- How the program ends.
use Rattle.std.specs.Prelude.{ℕ}
use Rattle.std.specs.declared.io.ErrorKind.{ErrorKind}
use Rattle.std.specs.declared.io.ErrorKind.TheVariants.{InvalidData}
use Rattle.rf_top.specs.declared.stops.Stop.{Stop}
use Rattle.rf_top.specs.declared.stops.Stop.TheVariants as stop
use Rattle.rf_top.specs.declared.status.Status.{Status}
use Rattle.rf_top.specs.declared.status.Status.TheVariants as status

-- the number that the program ends with, for this status of its run
abbrev pub number_of : Status → ℕ
number_of status.Fine = 0
number_of status.Differs = 1
number_of status.SourceRefused = 2
number_of status.StyleRefused = 3
number_of status.WordsRefused = 4
number_of status.ReadFault = 5
number_of status.WriteFault = 6
number_of status.NoMemory = 7
number_of status.TooLong = 8

-- why a run stops for which the arguments can't be read: one isn't UTF-8, or there is no memory for them
abbrev pub unread_stop : ErrorKind → Stop
unread_stop InvalidData = stop.Words
unread_stop _ = stop.Memory
