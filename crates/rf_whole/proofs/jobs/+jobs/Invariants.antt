-- Each half has fewer jobs.
use Rattle.std.proofs.Common.{◌+◌, ◌*◌}
use Rattle.rf_whole.proofs.jobs.+jobs.Given as goal

abbrev pub decreases-jobs_lines : goal.decreases-jobs_lines
decreases-jobs_lines g l = 2 * l.jobs

abbrev pub decreases-front : goal.decreases-front
decreases-front g l = 2 * l.half + 1

abbrev pub decreases-back : goal.decreases-back
decreases-back g l = 2 * l.other_half + 1
