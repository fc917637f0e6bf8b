-- One item more, the end, or a refusal.
use Rattle.std.proofs.Common.{◌≡◌, ◌+◌, ◌-◌, List, length, arith, rules}
use Rattle.rf_base_grammar.specs.declared.kinds.Kind.{Kind}
use Rattle.rf_lexer.specs.Next.{AreBefore}
use Rattle.rf_lexer.proofs.NextItems.{Reaches, reaches_more, reaches_less, reaches_within}
use Rattle.rf_lexer.proofs.scan.accept_behind.Goals as goal

pub loop-kind-smaller-in-Some : goal.loop-kind-smaller-in-Some
loop-kind-smaller-in-Some c =
    let k = c.requires.known in
    reaches_less k.0 _ c.args.len c.args.rest.now c.loop-kind.text.now c.loop-kind.before c.found-item.result c.in-Some.behind (c.loop-kind.invariant.reached k.0 k.1) c.found-item.ensures

pub loop-kind-preserved-in-Some : goal.loop-kind-preserved-in-Some
loop-kind-preserved-in-Some c =
    let whole : c.args.len - length c.args.rest.now + length c.args.rest.now ≡ c.args.len = omega (arith, c.requires.within) in
    let on : (kinds : List Kind) → AreBefore kinds c.args.before → Reaches kinds (c.args.len - length c.args.rest.now) c.args.rest.now c.in-Some.behind.now c.and-before.result =
    λ kinds known. reaches_more kinds _ c.args.len c.args.rest.now c.loop-kind.text.now c.loop-kind.before _ c.found-item.result c.in-Some.behind c.loop-kind.invariant.utf8 (search rules) whole (c.loop-kind.invariant.reached kinds known) c.found-item.ensures c.and-before.ensures in
    record {
      utf8 = search rules;
      within = reaches_within _ _ _ _ _ _ whole (on c.requires.known.0 c.requires.known.1);
      reached = on;
    }

pub loop-kind-smaller : goal.loop-kind-smaller
loop-kind-smaller c =
    let k = c.requires.known in
    reaches_less k.0 _ c.args.len c.args.rest.now c.loop-kind.text.now c.loop-kind.before c.in-Found.item c.in-Found.behind (c.loop-kind.invariant.reached k.0 k.1) c.in-Found.ensures

pub loop-kind-preserved : goal.loop-kind-preserved
loop-kind-preserved c =
    let whole : c.args.len - length c.args.rest.now + length c.args.rest.now ≡ c.args.len = omega (arith, c.requires.within) in
    let on : (kinds : List Kind) → AreBefore kinds c.args.before → Reaches kinds (c.args.len - length c.args.rest.now) c.args.rest.now c.in-Found.behind.now c.and-before-in-Found.result =
    λ kinds known. reaches_more kinds _ c.args.len c.args.rest.now c.loop-kind.text.now c.loop-kind.before _ c.in-Found.item c.in-Found.behind c.loop-kind.invariant.utf8 (search rules) whole (c.loop-kind.invariant.reached kinds known) c.in-Found.ensures c.and-before-in-Found.ensures in
    record {
      utf8 = search rules;
      within = reaches_within _ _ _ _ _ _ whole (on c.requires.known.0 c.requires.known.1);
      reached = on;
    }
