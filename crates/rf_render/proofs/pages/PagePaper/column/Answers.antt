-- The page is where its extent ends.
use Rattle.rf_render.proofs.pages.PagePaper.column.Goals as goal

pub returns : goal.returns
returns c = λ blank pieces weight shows. c.column.ensures c.args.self.now.extent pieces weight shows.covers
