-- A page of no character.
use Rattle.rf_render.proofs.Writing.{blank}
use Rattle.rf_render.proofs.pages.Page.blank.Goals as goal

pub returns : goal.returns
returns c = blank _ c.new.ensures.bytes c.none.ensures
