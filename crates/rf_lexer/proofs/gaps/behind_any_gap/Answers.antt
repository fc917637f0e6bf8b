-- White space more, or the first character that is none.
use Rattle.std.proofs.Common.{◌+◌, ℕ, length, ap, arith, rules, sym, subst, add_assoc}
use Rattle.rf_lexer.specs.Gaps.{EndsGap}
use Rattle.std.specs.Str.{chars}
use Rattle.rf_lexer.proofs.Places.{chars_len}
use Rattle.rf_base_grammar.specs.LanguageLine.{is_blank}
use Rattle.rf_lexer.proofs.Marks.{marks_len}
use Rattle.rf_lexer.proofs.GapParts.{gap_here, gap_more, gap_past, stops_nothing, stops_mark}
use Rattle.rf_lexer.proofs.gaps.behind_any_gap.Goals as goal

pub loop-c-init : goal.loop-c-init
loop-c-init c =
    record {
      utf8 = c.utf8.text;
      few = omega arith;
      from_here = λ n r g. subst (λ m. EndsGap (chars c.args.text.now) m r) (omega arith) g;
    }

pub returns-then-not-is_white-clause-gap : goal.returns-then-not-is_white-clause-gap
returns-then-not-is_white-clause-gap c =
    gap_here c.loop-c.feeds (chars c.args.text.now) (chars c.loop-c.rest.now) c.loop-c.invariant.from_here (stops_mark c.in-Some.c (chars c.loop-c.rest.now) (chars c.in-Some.behind.now) c.in-Some.ensures (sym c.if-not-is_white.ensures))

pub returns-then-not-is_white-clause-few : goal.returns-then-not-is_white-clause-few
returns-then-not-is_white-clause-few c = omega (arith, chars_len c.args.text.now c.utf8.text)

pub overflow_add-feeds : goal.overflow_add-feeds
overflow_add-feeds c =
    omega (arith, chars_len c.args.text.now c.utf8.text, ap (length {A = ℕ}) c.in-Some.ensures, c.feed-feeds.ensures.few)

pub loop-c-preserved : goal.loop-c-preserved
loop-c-preserved c =
    let text = chars c.args.text.now in
    let behind = chars c.in-Some.behind.now in
    let rest = chars c.past_blanks-rest.result.now in
    let fewer = marks_len is_blank behind rest c.past_blanks-rest.ensures in
    record {
      utf8 = search rules;
      few = omega (arith, ap (length {A = ℕ}) c.in-Some.ensures, c.feed-feeds.ensures.few, fewer);
      from_here =
          λ n r g.
          let more = gap_past n behind rest r c.past_blanks-rest.ensures g in
          subst (λ m. EndsGap text m r) (sym (add_assoc c.loop-c.feeds c.feed-feeds.result n))
          (c.loop-c.invariant.from_here (c.feed-feeds.result + n) r (gap_more c.in-Some.c n (c.feed-feeds.result + n) (chars c.loop-c.rest.now) behind r c.in-Some.ensures (sym c.if-not-is_white.ensures) (ap (λ k. k + n) c.feed-feeds.ensures.is) more));
    }

pub returns-clause-gap : goal.returns-clause-gap
returns-clause-gap c =
    gap_here c.loop-c.feeds (chars c.args.text.now) (chars c.loop-c.rest.now) c.loop-c.invariant.from_here (stops_nothing (chars c.loop-c.rest.now) c.in_default.ensures)

pub returns-clause-few : goal.returns-clause-few
returns-clause-few c = omega (arith, chars_len c.args.text.now c.utf8.text)
