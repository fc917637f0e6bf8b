-- A charge is no character.
use Rattle.std.proofs.Common.{append-nil, sym}
use Rattle.rf_base_document.specs.Render.{Fee}
use Rattle.rf_render.specs.Pages.{page_text}
use Rattle.rf_render.proofs.Writing.{wrote}
use Rattle.rf_render.proofs.pages.PagePaper.fee.Goals as goal

pub returns : goal.returns
returns c = λ blank. wrote c.args.self.now _ (λ column. Fee c.args.k) 0 (c.fee.ensures c.args.self.now.extent) (λ column. sym (append-nil (page_text c.args.self.now)))
