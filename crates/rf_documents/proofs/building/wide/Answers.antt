-- Two characters take up at most four columns.
use Rattle.std.proofs.Common.{lit≤}
use Rattle.std.specs.Str.{chars}
use Rattle.rf_documents.proofs.building.wide.Goals as goal

pub sized-requires-clause-columns : goal.sized-requires-clause-columns
unfolding chars
sized-requires-clause-columns c = lit≤ tt
