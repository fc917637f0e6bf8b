-- What is written alone is what the page shows.
use Rattle.std.proofs.Common.{false, sym, subst}
use Rattle.rf_base_file.specs.FileDocument.{tree_piece}
use Rattle.rf_style.specs.StyleOf.{seen}
use Rattle.rf_lines.specs.Written.{Lined, IsLineOf}
use Rattle.rf_lines.proofs.writing.write_placed.Goals as goal

pub returns-in-Ok-clause-line : goal.returns-in-Ok-clause-line
returns-in-Ok-clause-line c said ts trees t holds unfolds =
    let p = c.args.placed.now in
    subst (λ (l : Lined). IsLineOf false l ((tree_piece (seen p.style.now) ts t).doc p.quoted p.role)) (sym c.show.ensures.shown)
    (c.in-Ok.ensures ts trees t holds unfolds)
