-- One item more, the end, or a refusal; a source has only one of these.
use Rattle.std.proofs.Common.{[], arith, rules}
use Rattle.std.specs.Str.{chars}
use Rattle.rf_base_grammar.specs.Itemised.{kinds_of}
use Rattle.rf_base_grammar.specs.Unreadable.{LexRefused}
use Rattle.rf_base_grammar.proofs.OneReading.{Itemised-apart}
use Rattle.rf_lexer.proofs.NextItems.{reads_first, reads_more}
use Rattle.rf_lexer.proofs.scan.lex.Goals as goal

pub loop-kind-init : goal.loop-kind-init
loop-kind-init c =
    record { utf8 = search rules; read = reads_first c.args.src.now _ _ c.in_ok-items.ensures.items c.nothing-before.ensures }

pub returns-in-End-clause-accepted : goal.returns-in-End-clause-accepted
returns-in-End-clause-accepted c =
    let read = c.loop-kind.invariant.read in
    λ _ kind offset refused.
    Itemised-apart (chars c.args.src.now) read.0.tokens kind offset (chars c.loop-kind.text.now, read.0.leads, c.in-End.ensures (kinds_of [] read.0.tokens) read.0.known) refused

pub returns-in-Refused-clause-unreadable : goal.returns-in-Refused-clause-unreadable
returns-in-Refused-clause-unreadable c =
    let read = c.loop-kind.invariant.read in
    let fault = c.in-Refused.ensures (kinds_of [] read.0.tokens) read.0.known in
    let r = fault.2 in
    let refused : LexRefused (chars c.args.src.now) c.in-Refused.kind c.in-Refused.offset =
    record {
      items = read.0.tokens;
      rest = chars c.loop-kind.text.now;
      leads = read.0.leads;
      gap = r.gap;
      place = r.place;
      rest_is = r.whole;
      white = r.white;
      begins = r.begins;
      none = r.none;
      clean = r.clean;
      stands = r.stands;
      offset_is = omega (arith, fault.1, r.offset_is, read.0.length_is);
    } in
    λ _ has. Itemised-apart (chars c.args.src.now) has.0 c.in-Refused.kind c.in-Refused.offset has.1 refused

pub loop-kind-preserved : goal.loop-kind-preserved
loop-kind-preserved c =
    record {
      utf8 = search rules;
      read =
          reads_more c.args.src.now c.loop-kind.text.now c.loop-kind.items.items _ c.loop-kind.before _ c.in-Found.item c.in-Found.behind c.loop-kind.invariant.utf8 (search rules) c.loop-kind.invariant.read c.in-Found.ensures c.in_ok-push-in-Found.ensures.items c.and-before-in-Found.ensures;
    }

pub loop-kind-preserved-in-Some : goal.loop-kind-preserved-in-Some
loop-kind-preserved-in-Some c =
    record {
      utf8 = search rules;
      read =
          reads_more c.args.src.now c.loop-kind.text.now c.loop-kind.items.items _ c.loop-kind.before _ c.found-item.result c.in-Some.behind c.loop-kind.invariant.utf8 (search rules) c.loop-kind.invariant.read c.found-item.ensures c.in_ok-push.ensures.items c.and-before.ensures;
    }
