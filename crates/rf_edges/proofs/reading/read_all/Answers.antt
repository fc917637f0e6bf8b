-- A refusal comes of the last read, and what was taken before stands within the limit.
use Rattle.std.proofs.Common.{rules}
use Rattle.std.proofs.lemmas.Result.{err_from_is_err_and}
use Rattle.rf_edges.proofs.Taken.{Takes-limit, Takes-bounded}
use Rattle.rf_edges.proofs.reading.read_all.Goals as goal

pub returns-in_err-take_block-clause-too_long : goal.returns-in_err-take_block-clause-too_long
returns-in_err-take_block-clause-too_long g c =
    let same = err_from_is_err_and c.from_residual-in_err-take_block.result c.from_residual-in_err-take_block.ensures.1 in
    rw (same.1, same.2) (Takes-limit _ _ _ _ _ _ _ _ (search rules) c.reads.invariant.within c.reads.invariant.so_far c.in_err-take_block.ensures.too_long c.in_err-take_block.ensures.taken (λ h. cc h) (λ h. cc h))

pub returns-in_err-take_block-clause-taken : goal.returns-in_err-take_block-clause-taken
returns-in_err-take_block-clause-taken g c =
    Takes-bounded _ _ _ _ _ _ _ (search rules) c.reads.invariant.within c.reads.invariant.so_far c.in_err-take_block.ensures.too_long c.in_err-take_block.ensures.taken

pub returns-then-not-branch-clause-taken : goal.returns-then-not-branch-clause-taken
returns-then-not-branch-clause-taken g c =
    Takes-bounded _ _ _ _ _ _ _ (search rules) c.reads.invariant.within c.reads.invariant.so_far c.in_ok-take_block.ensures.too_long c.in_ok-take_block.ensures.taken
