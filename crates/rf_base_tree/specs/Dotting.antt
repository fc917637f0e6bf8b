-- The dots of a list, read from left to right: where a datum, a dot and the closer can stand. What these tests mean, in
-- the words of the definitions, is proved beside them; the definitions don't rest on them.
use Rattle.std.specs.Prelude.{Bool, true, false, List, [], ◌∷◌}
use Rattle.rf_base_tree.specs.Dots.{Mark, OfDatum, OfDot}

-- what stands in a list so far: nothing; data; a dot behind data; one datum behind that dot; a second dot; data behind
-- it; or dots that can't become lawful
pub data Dotting : Type 0 where
  NoData : Dotting
  Data : Dotting
  Dotted : Dotting
  Paired : Dotting
  Infixed : Dotting
  Closed : Dotting
  Broken : Dotting

-- one more datum or dot
abbrev pub step : Dotting → Mark → Dotting
step NoData OfDatum = Data
step Data OfDatum = Data
step Data OfDot = Dotted
step Dotted OfDatum = Paired
step Paired OfDot = Infixed
step Infixed OfDatum = Closed
step Closed OfDatum = Closed
step _ _ = Broken

-- more data and dots
abbrev pub walk : Dotting → List Mark → Dotting
walk s [] = s
walk s (mark ∷ marks) = walk (step s mark) marks

-- whether a list that is read so takes a datum, takes a dot, or ends in a dot
abbrev pub takes_datum : Dotting → Bool
takes_datum Paired = false
takes_datum Broken = false
takes_datum _ = true

abbrev pub takes_dot : Dotting → Bool
takes_dot Data = true
takes_dot Paired = true
takes_dot _ = false

abbrev pub ends_in_dot : Dotting → Bool
ends_in_dot Dotted = true
ends_in_dot Infixed = true
ends_in_dot _ = false
