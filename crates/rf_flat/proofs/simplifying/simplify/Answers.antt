-- The core at the root's place is that of the root's document.
use Rattle.std.proofs.Common.{arith}
use Rattle.rf_flat.proofs.Answering.{none_at_root, none_stands, no_layout, some_at_root, place_within}
use Rattle.rf_flat.proofs.CoreNodes.{nodes_count}
use Rattle.rf_flat.proofs.simplifying.simplify.Goals as goal

pub returns-in-None-clause-core : goal.returns-in-None-clause-core
returns-in-None-clause-core c = λ d stands.
    none_stands _ (none_at_root _ _ c.args.root.0 _ d c.len.ensures.is_graph c.in-None.is c.in_ok-all.ensures.1 stands)

pub returns-in-None-clause-none : goal.returns-in-None-clause-none
returns-in-None-clause-none c = λ d stands.
    no_layout d (none_at_root _ _ c.args.root.0 _ d c.len.ensures.is_graph c.in-None.is c.in_ok-all.ensures.1 stands)

pub reached_core-requires-clause-in_core : goal.reached_core-requires-clause-in_core
reached_core-requires-clause-in_core c =
    omega (
      arith,
      place_within _ c.in-Some.place _ _ c.in-Some.is c.in_ok-all.ensures.1,
      nodes_count c.in_ok-all.all.nodes.items,
    )

pub returns-clause-core : goal.returns-clause-core
returns-clause-core c = λ d stands.
    some_at_root _ _ c.args.root.0 c.in-Some.place _ _ d c.len.ensures.is_graph c.in-Some.is c.in_ok-all.ensures.1
    c.in_ok-core-in-Some.ensures.same stands
