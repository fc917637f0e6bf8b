mod LineEnds
mod Plain
mod Apart
mod Examples
mod SameWords
