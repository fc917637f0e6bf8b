-- Each turn asks for one node fewer.
use Rattle.std.proofs.Common.{◌+◌, ◌*◌}
use Rattle.rf_search.proofs.parting.+parting.Given as goal

abbrev pub decreases-choose : goal.decreases-choose
decreases-choose g l = 4 * l.place.fuel + 1

abbrev pub decreases-by_parts : goal.decreases-by_parts
decreases-by_parts g l = 4 * l.place.fuel

abbrev pub decreases-both : goal.decreases-both
decreases-both g l = 4 * l.place.fuel + 2

abbrev pub decreases-either : goal.decreases-either
decreases-either g l = 4 * l.place.fuel + 2
