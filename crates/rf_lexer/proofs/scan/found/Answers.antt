-- A gap, and an item behind it.
use Rattle.std.proofs.Common.{◌≡◌, ◌+◌, ◌-◌, ◌&&◌, length, arith, refl, ap, ◌∙◌}
use Rattle.std.specs.Str.{chars}
use Rattle.rf_base_grammar.specs.Characters.{byte_len}
use Rattle.rf_base_grammar.specs.Token.{is_line_comment}
use Rattle.rf_base_grammar.specs.Itemised.{line_ends, begins_line}
use Rattle.rf_lexer.proofs.Places.{parts_len}
use Rattle.rf_lexer.proofs.NextItems.{some_before, item_at, line_begins, same_item}
use Rattle.rf_lexer.proofs.scan.found.Goals as goal

pub overflow_sub-result : goal.overflow_sub-result
overflow_sub-result c =
    let g = c.requires.gap in
    omega (arith, c.requires.within, parts_len c.args.text.now c.args.place.now g.gap c.utf8.text c.utf8.place g.whole)

pub overflow_sub-result-2 : goal.overflow_sub-result-2
overflow_sub-result-2 c =
    let place = c.args.place.now in
    let behind = c.args.behind.now in
    let g = c.requires.gap in
    let w = some_before c.args.before.language in
    let item = item_at w.0 c.args.before.language place c.utf8.place g.stops c.requires.some w.1 c.args.kind c.args.behind c.requires.told in
    omega (arith, c.requires.within, parts_len c.args.text.now place g.gap c.utf8.text c.utf8.place g.whole, parts_len place behind item.0 c.utf8.place c.utf8.behind item.1.text_is)

pub returns : goal.returns
returns c =
    λ kinds known.
    let text = c.args.text.now in
    let place = c.args.place.now in
    let behind = c.args.behind.now in
    let at = c.args.len - length text in
    let g = c.requires.gap in
    let item = item_at kinds c.args.before.language place c.utf8.place g.stops c.requires.some known.1 c.args.kind c.args.behind c.requires.told in
    let before_place = parts_len text place g.gap c.utf8.text c.utf8.place g.whole in
    let before_behind = parts_len place behind item.0 c.utf8.place c.utf8.behind item.1.text_is in
    let blanks : c.saturating_sub.result ≡ line_ends g.gap - 1 = c.saturating_sub.ensures ∙ ap (λ n. n - 1) g.feeds_are in
    let own : c.own_line.result ≡ (is_line_comment c.args.kind && begins_line kinds g.gap) =
    c.own_line.ensures ∙ ap (λ b. is_line_comment c.args.kind && b) (line_begins kinds c.args.before.none g.gap c.args.feeds known.0 g.feeds_are) in (
      record { kind = c.args.kind; start = at + byte_len g.gap; spelling = item.0; blanks = line_ends g.gap - 1; own_line = is_line_comment c.args.kind && begins_line kinds g.gap },
      same_item c.args.kind _ _ _ _ _ _ _ _ (omega (arith, c.requires.within)) (omega (arith, c.requires.within)) blanks own,
      record {
        gap = g.gap;
        place = chars place;
        text_is = g.whole;
        white = g.white;
        item = item.1;
        start_is = refl;
        blanks_is = refl;
        own_line_is = refl;
      },
    )
