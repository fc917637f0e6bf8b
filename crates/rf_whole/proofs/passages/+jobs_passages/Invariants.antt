-- Each half has fewer jobs.
use Rattle.std.proofs.Common.{◌+◌, ◌*◌}
use Rattle.rf_whole.proofs.passages.+jobs_passages.Given as goal

abbrev pub decreases-jobs_passages : goal.decreases-jobs_passages
decreases-jobs_passages g l = 2 * l.jobs

abbrev pub decreases-lay_front : goal.decreases-lay_front
decreases-lay_front g l = 2 * l.half + 1

abbrev pub decreases-lay_rest : goal.decreases-lay_rest
decreases-lay_rest g l = 2 * l.other_half + 1
