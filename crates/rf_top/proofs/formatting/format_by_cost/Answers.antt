-- The factory is that of the style's cost.
use Rattle.rf_top.proofs.formatting.format_by_cost.Goals as goal

pub returns-in-Squares-clause-whole : goal.returns-in-Squares-clause-whole
returns-in-Squares-clause-whole g c = rw c.in-Squares.is c.format_items.ensures.whole

pub returns-in-Squares-clause-stopped : goal.returns-in-Squares-clause-stopped
returns-in-Squares-clause-stopped g c = rw c.in-Squares.is c.format_items.ensures.stopped

pub returns-in-Linear-clause-whole : goal.returns-in-Linear-clause-whole
returns-in-Linear-clause-whole g c = rw c.in-Linear.is c.format_items-in-Linear.ensures.whole

pub returns-in-Linear-clause-stopped : goal.returns-in-Linear-clause-stopped
returns-in-Linear-clause-stopped g c = rw c.in-Linear.is c.format_items-in-Linear.ensures.stopped

pub returns-in-Lines-clause-whole : goal.returns-in-Lines-clause-whole
returns-in-Lines-clause-whole g c = rw c.in-Lines.is c.format_items-in-Lines.ensures.whole

pub returns-in-Lines-clause-stopped : goal.returns-in-Lines-clause-stopped
returns-in-Lines-clause-stopped g c = rw c.in-Lines.is c.format_items-in-Lines.ensures.stopped
