-- What stands behind a gap.
use Rattle.std.proofs.Common.{◌+◌, arith, refl, sym, ◌∙◌}
use Rattle.std.specs.Str.{chars}
use Rattle.std.proofs.lemmas.Bool.{eqb-true, eqb-false}
use Rattle.rf_base_grammar.specs.Characters.{byte_len}
use Rattle.rf_lexer.proofs.Places.{parts_len, byte_len-chars}
use Rattle.rf_lexer.proofs.NextItems.{some_before, gap_alone, begins_mark, fault_at, clean_within}
use Rattle.rf_lexer.proofs.scan.next_item.Goals as goal

pub returns-then-is_empty : goal.returns-then-is_empty
returns-then-is_empty c =
    λ kinds known.
    gap_alone c.args.text.now c.args.place.now c.args.feeds c.requires.gap (eqb-true _ 0 (sym c.is_empty.ensures ∙ c.if-is_empty.true))

pub overflow_sub-result : goal.overflow_sub-result
overflow_sub-result c =
    let g = c.requires.gap in
    omega (arith, c.requires.within, parts_len c.args.text.now c.args.place.now g.gap c.utf8.text c.utf8.place g.whole)

pub found-requires : goal.found-requires
found-requires c =
    record {
      limit = c.requires.limit;
      within = c.requires.within;
      gap = c.requires.gap;
      some = eqb-false _ 0 (sym c.is_empty.ensures ∙ c.if-is_empty.false);
      told = c.in-Read.ensures;
    }

pub overflow_add-result : goal.overflow_add-result
overflow_add-result c =
    let text = c.args.text.now in
    let place = c.args.place.now in
    let g = c.requires.gap in
    let w = some_before c.args.before.language in
    let fault = fault_at w.0 c.args.before.language place c.utf8.place g.stops (eqb-false _ 0 (sym c.is_empty.ensures ∙ c.if-is_empty.false)) w.1 c.in-Unread.kind c.in-Unread.offset c.in-Unread.ensures in
    let few = clean_within w.0 c.in-Unread.kind fault.0 (chars place) fault.1.0 in
    omega (arith, c.requires.within, c.requires.limit, parts_len text place g.gap c.utf8.text c.utf8.place g.whole, few, byte_len-chars place c.utf8.place, fault.2)

pub overflow_cast-result : goal.overflow_cast-result
overflow_cast-result c =
    let text = c.args.text.now in
    let place = c.args.place.now in
    let g = c.requires.gap in
    let w = some_before c.args.before.language in
    let fault = fault_at w.0 c.args.before.language place c.utf8.place g.stops (eqb-false _ 0 (sym c.is_empty.ensures ∙ c.if-is_empty.false)) w.1 c.in-Unread.kind c.in-Unread.offset c.in-Unread.ensures in
    let few = clean_within w.0 c.in-Unread.kind fault.0 (chars place) fault.1.0 in
    omega (arith, c.requires.within, c.requires.limit, parts_len text place g.gap c.utf8.text c.utf8.place g.whole, few, byte_len-chars place c.utf8.place, fault.2)

pub returns-in-Unread : goal.returns-in-Unread
returns-in-Unread c =
    λ kinds known.
    let text = c.args.text.now in
    let place = c.args.place.now in
    let g = c.requires.gap in
    let some = eqb-false _ 0 (sym c.is_empty.ensures ∙ c.if-is_empty.false) in
    let fault = fault_at kinds c.args.before.language place c.utf8.place g.stops some known.1 c.in-Unread.kind c.in-Unread.offset c.in-Unread.ensures in (
      byte_len g.gap + byte_len fault.0,
      omega (arith, c.requires.within, parts_len text place g.gap c.utf8.text c.utf8.place g.whole, fault.2),
      record {
        gap = g.gap;
        place = chars place;
        whole = g.whole;
        white = g.white;
        begins = begins_mark place c.utf8.place g.stops some;
        none = fault.1.1;
        clean = fault.0;
        stands = fault.1.0;
        offset_is = refl;
      },
    )
