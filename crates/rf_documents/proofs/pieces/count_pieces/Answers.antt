-- Each turn counts the next node.
use Rattle.std.proofs.Common.{rules, ◌≡◌, ◌<◌, ◌≤◌, ℕ, List, length, sym, subst, ◌∙◌}
use Rattle.std.proofs.lemmas.Grind.{get_or_default_zero}
use Rattle.rf_base_document.specs.Graph.{unfolded}
use Rattle.rf_base_optimum.specs.MostPieces.{most_pieces}
use Rattle.rf_documents.specs.Pieces.{AreCounted}
use Rattle.rf_documents.proofs.Counts.{counted, counted_more, none_counted}
use Rattle.rf_documents.proofs.pieces.count_pieces.Goals as goal

pub loop-counts-init : goal.loop-counts-init
loop-counts-init c = record {
  counted = subst (λ (counts : List ℕ). AreCounted c.args.graph.now counts) (sym c.new-counts.ensures.items) (none_counted c.args.graph.now);
  within = search rules;
}

pub loop-counts-preserved : goal.loop-counts-preserved
loop-counts-preserved c =
    let here : c.len-in-loop-counts.result ≡ length c.loop-counts.counts.items = search rules in
    record {
      counted = subst (λ (counts : List ℕ). AreCounted c.args.graph.now counts) (sym c.in_ok-push-in-Some.ensures.items)
          (counted_more c.args.graph.now c.loop-counts.counts.items c.in-Some.most c.loop-counts.invariant.counted
          (subst (λ (n : ℕ). most_pieces (unfolded c.args.graph.now n) ≤ c.in-Some.most) here c.in-Some.ensures));
      within = search rules;
    }

pub returns : goal.returns
returns c =
    let here : c.args.root.0 < length c.loop-counts.counts.items = search rules in
    subst (λ (n : ℕ). most_pieces (unfolded c.args.graph.now c.args.root.0) ≤ n) (sym (c.index.ensures ∙ get_or_default_zero c.loop-counts.counts.items c.args.root.0 c.index.result.now here))
    (counted c.args.graph.now c.loop-counts.counts.items c.args.root.0 c.loop-counts.invariant.counted here)
