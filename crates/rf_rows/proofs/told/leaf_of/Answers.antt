-- A piece that is told to be one text is a leaf.
use Rattle.rf_rows.proofs.Tellings.{piece_text}
use Rattle.rf_rows.proofs.told.leaf_of.Goals as goal

pub returns-in-Text : goal.returns-in-Text
returns-in-Text c = piece_text c.args.fill c.args.flat c.args.piece c.span_of_piece.result c.in-Text.len c.span_of_piece.ensures c.in-Text.is
