-- Byte by byte, as the two stand at the place.
use Rattle.std.proofs.Common.{◌≡◌, ◌<◌, ◌≤◌, length, get_or, refl, sym, ◌∙◌, arith, eq-eqb}
use Rattle.rf_text.proofs.Apart.{other_byte, turn-both, turn-first, turn-second, turn-none, first_difference-from, apart_none}
use Rattle.rf_text.proofs.lines.first_difference.Goals as goal

pub returns-in-None-clause-line : goal.returns-in-None-clause-line
returns-in-None-clause-line c =
    let gone : length c.args.b.now ≤ c.loop-i.i = c.in-None.ensures.lookup.3 in
    let t = turn-first c.loop-i.line c.loop-i.i c.args.a.now c.args.b.now (omega arith) gone in
    let f = first_difference-from c.args.a.now c.args.b.now in
    cc (t, f, c.loop-i.invariant.2, c.line_of_next.ensures)

pub returns-in-Some-clause-line : goal.returns-in-Some-clause-line
returns-in-Some-clause-line c =
    let there : c.loop-i.i < length c.args.b.now = c.in-Some.ensures.lookup.3.0 in
    let t = turn-both c.loop-i.line c.loop-i.i c.args.a.now c.args.b.now (omega arith) there in
    let f = first_difference-from c.args.a.now c.args.b.now in
    let other = other_byte (get_or c.args.a.now c.loop-i.i 0) (get_or c.args.b.now c.loop-i.i 0) (λ e. c.if-other-byte.true (c.in-Some.ensures.lookup.3.1 0 ∙ sym e)) in
    cc (rw other at t, f, c.loop-i.invariant.2)

pub loop-i-preserved : goal.loop-i-preserved
loop-i-preserved c =
    let there : c.loop-i.i < length c.args.b.now = c.in-Some.ensures.lookup.3.0 in
    let t = turn-both c.loop-i.line c.loop-i.i c.args.a.now c.args.b.now (omega arith) there in
    let same : get_or c.args.a.now c.loop-i.i 0 ≡ get_or c.args.b.now c.loop-i.i 0 = sym (c.if-other-byte.false) ∙ c.in-Some.ensures.lookup.3.1 0 in
    (grind arith, omega arith, cc (rw (eq-eqb _ _ same) at t, c.loop-i.invariant.2, c.line_of_next-line.ensures))

pub returns-in-None-get-clause-same : goal.returns-in-None-get-clause-same
returns-in-None-get-clause-same c =
    let gone : length c.args.b.now ≤ length c.args.a.now = c.in-None-get.ensures.lookup.3 in
    let t = turn-none c.loop-i.line c.loop-i.i c.args.a.now c.args.b.now (omega arith) (omega arith) in
    (λ _. apart_none 1 _ _ (sym c.loop-i.invariant.2 ∙ t), λ _. refl)

pub returns-in-None-get-clause-line : goal.returns-in-None-get-clause-line
returns-in-None-get-clause-line c =
    let gone : length c.args.b.now ≤ length c.args.a.now = c.in-None-get.ensures.lookup.3 in
    let t = turn-none c.loop-i.line c.loop-i.i c.args.a.now c.args.b.now (omega arith) (omega arith) in
    let f = first_difference-from c.args.a.now c.args.b.now in
    cc (t, f, c.loop-i.invariant.2)

pub returns-in-Some-get-clause-line : goal.returns-in-Some-get-clause-line
returns-in-Some-get-clause-line c =
    let there : length c.args.a.now < length c.args.b.now = c.in-Some-get.ensures.lookup.3.0 in
    let t = turn-second c.loop-i.line c.loop-i.i c.args.a.now c.args.b.now (omega arith) (omega arith) in
    let f = first_difference-from c.args.a.now c.args.b.now in
    let end : c.loop-i.i ≡ length c.args.a.now = omega arith in
    cc (t, f, end, c.in-Some-get.ensures.lookup.3.1 0, c.loop-i.invariant.2, c.line_of_next-in-Some-get.ensures)
