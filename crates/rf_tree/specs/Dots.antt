-- The dots of a list so far, as the program keeps them.
use Rattle.rf_base_tree.specs.Dotting.{Dotting}
use Rattle.rf_base_tree.specs.Dotting as read
use Rattle.rf_tree.specs.declared.dots.Dots.{Dots}
use Rattle.rf_tree.specs.declared.dots.Dots.TheVariants.{NoData, Data, Dotted, Paired, Infixed, Closed, Broken}

-- what a list is read as
abbrev pub dotting_of : Dots → Dotting
dotting_of NoData = read.NoData
dotting_of Data = read.Data
dotting_of Dotted = read.Dotted
dotting_of Paired = read.Paired
dotting_of Infixed = read.Infixed
dotting_of Closed = read.Closed
dotting_of Broken = read.Broken
