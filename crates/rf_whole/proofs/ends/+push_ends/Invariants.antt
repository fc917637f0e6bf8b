use Rattle.rf_whole.proofs.ends.+push_ends.Given as goal

-- proposed from what the function passes where it calls itself
abbrev pub decreases-push_ends : goal.decreases-push_ends
decreases-push_ends l = l.count
