-- The law is the lemma.
use Rattle.rf_base_document.proofs.Render.{render_within}
use Rattle.rf_base_document.proofs.layout_keeps_width.Goals as goal

pub returns : goal.returns
returns c = render_within
