-- What is counted in a u32 is few.
use Rattle.std.proofs.Common.{ℕ, ◌≤◌, ◌<◌, ◌^◌, Option, IfSome, subst, arith}
use Rattle.std.proofs.lemmas.Bool.Decides.{nat_tests}
use Rattle.rf_base_document.specs.Document.{Doc}
use Rattle.rf_base_document.specs.Graph.{unfolded}
use Rattle.rf_base_document.proofs.Graph.{unfolded-is}
use Rattle.rf_base_optimum.specs.MostPieces.{most_pieces}
use Rattle.rf_documents.proofs.pieces.has_few_pieces.Goals as goal

pub returns-in-Some : goal.returns-in-Some
returns-in-Some c true d stands =
    let bound : most_pieces (unfolded c.args.graph.now c.args.root.0) ≤ c.in-Some.most = subst
    (λ (o : Option ℕ). IfSome o (λ most. most_pieces (unfolded c.args.graph.now c.args.root.0) ≤ most)) c.in-Some.is
    c.in_ok-count_pieces.ensures in
    subst (λ (e : Doc). most_pieces e < 2 ^ 32) (unfolded-is c.args.graph.now c.args.root.0 d c.len.ensures.is_graph stands)
    (grind (arith, nat_tests, bound, true))
