-- What the rest is refused for, the text is.
use Rattle.std.proofs.Common.{refl, subst}
use Rattle.std.specs.Str.{chars}
use Rattle.rf_whole.specs.Passages.{IsMissed}
use Rattle.rf_whole.proofs.Missed.{items_behind, rest_within, tree_behind}
use Rattle.rf_whole.proofs.passages.missed_behind.Goals as goal

pub overflow_sub-before : goal.overflow_sub-before
overflow_sub-before c = rest_within c.args.text.now c.args.rest.now c.utf8.text c.utf8.rest c.requires.accepted

pub returns-in-Some : goal.returns-in-Some
returns-in-Some c =
    items_behind c.args.text.now c.args.rest.now c.in-Items.kind c.in-Items.offset c.in-Some.offset c.utf8.text c.utf8.rest
    c.requires.accepted (c.if-not-holds_language.ensures refl)
    (subst (λ miss. IsMissed (chars c.args.rest.now) miss) c.in-Items.is c.requires.missed) c.in-Some.ensures

pub returns-in-Some-further : goal.returns-in-Some-further
returns-in-Some-further c =
    tree_behind c.args.text.now c.args.rest.now c.in-Tree.kind c.in-Tree.offset c.in-Some-further.offset c.utf8.text
    c.utf8.rest c.requires.accepted (c.if-not-holds_language-2.ensures refl)
    (subst (λ miss. IsMissed (chars c.args.rest.now) miss) c.in-Tree.is c.requires.missed) c.in-Some-further.ensures
