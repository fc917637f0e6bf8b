-- Each piece is the document of its kind.
use Rattle.std.proofs.Common.{ap, sym, subst, Some}
use Rattle.std.specs.Str.{chars}
use Rattle.rf_outline.specs.Documents.{IsOpened}
use Rattle.rf_rows.specs.Nodes.{leaf_doc}
use Rattle.rf_rows.specs.declared.pieces.Piece.{Piece}
use Rattle.rf_rows.proofs.opening.opened_leaf.Goals as goal

pub returns-in-Text : goal.returns-in-Text
returns-in-Text c = λ f hard. ap (λ (p : Piece). leaf_doc c.args.fill (Some p)) c.in-Text.is

pub returns-in-Space : goal.returns-in-Space
unfolding chars
returns-in-Space c = λ f hard. ap (λ (p : Piece). leaf_doc c.args.fill (Some p)) c.in-Space.is

pub returns-in-Gap : goal.returns-in-Gap
returns-in-Gap c =
    λ f hard. subst (λ (p : Piece). IsOpened f (leaf_doc c.args.fill (Some p)) c.opened_gap.result) (sym c.in-Gap.is) (c.opened_gap.ensures f)
