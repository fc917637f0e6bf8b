-- A comment of one line is one text, which stands first or behind a line break.
use Rattle.std.proofs.Common.{rules, arith, ◌≡◌, ◌≤◌, ◌*◌, ℕ, length, refl, sym, ap, subst, ◌∙◌}
use Rattle.std.specs.Str.{chars}
use Rattle.rf_base_document.specs.Document.{Text}
use Rattle.rf_base_style.proofs.Lengths.{lengths_keep_limits}
use Rattle.rf_base_tree.specs.declared.separators.Separator.TheVariants as separator
use Rattle.rf_base_file.specs.Rows.{Part}
use Rattle.rf_tree.proofs.ToldNodes.{told_at}
use Rattle.rf_tree.proofs.Unfolding.{UnfoldsTo-below}
use Rattle.rf_style.specs.StyleOf.{seen}
use Rattle.rf_ways.proofs.NodeParts.{names_at, item_there}
use Rattle.rf_rows.proofs.Frames.{text_laid, text_past, hard_laid, hard_past}
use Rattle.rf_rows.proofs.Turns.{same_err}
use Rattle.rf_slot_rows.proofs.CommentLines.{comment_text, first_docs, next_docs, one_laid, one_past, both_laid, first_past, second_past}
use Rattle.rf_slot_rows.proofs.leads.lay_at_once.Goals as goal

pub node-requires : goal.node-requires
node-requires g c =
    let next = c.requires.next in
    let less = UnfoldsTo-below next.0 c.args.context.now.tree.now.nodes c.args.at.0 next.2 next.4 in search rules

pub text-text-requires-clause-there : goal.text-text-requires-clause-there
text-text-requires-clause-there g c =
    let next = c.requires.next in
    let nodes = c.args.context.now.tree.now.nodes in
    let at = told_at nodes c.args.at.0 c.node.ensures c.in-Comment.is in
    item_there c.args.context.now.tree.now next.0 next.1 c.in-Comment.item next.3 (names_at next.0 nodes c.args.at.0 _ next.3.sound at)

pub word-requires-clause-columns : goal.word-requires-clause-columns
word-requires-clause-columns g c =
    let text = chars c.text-text.result.now in
    subst (λ (n : ℕ). n ≤ 2 * length text) (sym c.in-Some.ensures.columns) (lengths_keep_limits (seen c.args.context.now.style.now).columns text)

pub word-requires-in-Hard-eq0-clause-columns : goal.word-requires-in-Hard-eq0-clause-columns
word-requires-in-Hard-eq0-clause-columns g c =
    let text = chars c.text-text.result.now in
    subst (λ (n : ℕ). n ≤ 2 * length text) (sym c.in-Some.ensures.columns) (lengths_keep_limits (seen c.args.context.now.style.now).columns text)

pub returns-in_err-word-in-None-clause-too_long : goal.returns-in_err-word-in-None-clause-too_long
returns-in_err-word-in-None-clause-too_long g c long ts trees t holds unfolds =
    let context = c.args.context.now in
    let text = chars c.text-text.result.now in
    let here = comment_text context c.args._place c.args.at ts t c.in-Comment.item text c.in-Some.len (told_at context.tree.now.nodes c.args.at.0 c.node.ensures c.in-Comment.is) unfolds (c.text-text.ensures.characters ts trees holds) c.in-Some.ensures.one c.in-Some.ensures.columns in
    one_past g.P.Paper.holds c.args.spot (first_docs c.args._place (seen context.style.now) ts c.in-Comment.item t (Text text c.in-Some.len) c.in-None.is here)
    (text_past g.P.Paper.holds c.args.spot refl (c.in_err-word-in-None.ensures.too_long (same_err c.from_residual.ensures.1 long)))

pub returns-in_ok-word-in-None-clause-laid : goal.returns-in_ok-word-in-None-clause-laid
returns-in_ok-word-in-None-clause-laid g c ts trees t holds unfolds =
    let context = c.args.context.now in
    let text = chars c.text-text.result.now in
    let here = comment_text context c.args._place c.args.at ts t c.in-Comment.item text c.in-Some.len (told_at context.tree.now.nodes c.args.at.0 c.node.ensures c.in-Comment.is) unfolds (c.text-text.ensures.characters ts trees holds) c.in-Some.ensures.one c.in-Some.ensures.columns in (
      ap (λ (p : Part). p.last) (sym here),
      one_laid g.P.Paper.holds c.args.spot (first_docs c.args._place (seen context.style.now) ts c.in-Comment.item t (Text text c.in-Some.len) c.in-None.is here)
          (text_laid g.P.Paper.holds c.args.spot refl c.in_ok-word-in-None.ensures.put),
    )

pub returns-in_err-line_break-in-Hard-eq0-clause-too_long : goal.returns-in_err-line_break-in-Hard-eq0-clause-too_long
returns-in_err-line_break-in-Hard-eq0-clause-too_long g c long ts trees t holds unfolds =
    let context = c.args.context.now in
    let text = chars c.text-text.result.now in
    let here = comment_text context c.args._place c.args.at ts t c.in-Comment.item text c.in-Some.len (told_at context.tree.now.nodes c.args.at.0 c.node.ensures c.in-Comment.is) unfolds (c.text-text.ensures.characters ts trees holds) c.in-Some.ensures.one c.in-Some.ensures.columns in
    let none : c.in-Hard-eq0.field-0 ≡ 0 = omega (arith, c.in-Hard-eq0.field-0-test) in
    let hard = c.in-Hard-eq0.is ∙ ap separator.Hard none in
    first_past g.P.Paper.holds c.args.spot (next_docs c.args._place (seen context.style.now) ts c.in-Some-before.last c.in-Comment.item t (Text text c.in-Some.len) c.in-Some-before.is here hard (c.separator.ensures ts trees holds))
    (hard_past g.P.Paper.holds c.args.spot refl (c.in_err-line_break-in-Hard-eq0.ensures.too_long (same_err c.from_residual-in_err-line_break-in-Hard-eq0.ensures.1 long)))

pub returns-in_err-word-in-Hard-eq0-clause-too_long : goal.returns-in_err-word-in-Hard-eq0-clause-too_long
returns-in_err-word-in-Hard-eq0-clause-too_long g c long ts trees t holds unfolds =
    let context = c.args.context.now in
    let text = chars c.text-text.result.now in
    let here = comment_text context c.args._place c.args.at ts t c.in-Comment.item text c.in-Some.len (told_at context.tree.now.nodes c.args.at.0 c.node.ensures c.in-Comment.is) unfolds (c.text-text.ensures.characters ts trees holds) c.in-Some.ensures.one c.in-Some.ensures.columns in
    let none : c.in-Hard-eq0.field-0 ≡ 0 = omega (arith, c.in-Hard-eq0.field-0-test) in
    let hard = c.in-Hard-eq0.is ∙ ap separator.Hard none in
    second_past g.P.Paper.holds c.args.spot (next_docs c.args._place (seen context.style.now) ts c.in-Some-before.last c.in-Comment.item t (Text text c.in-Some.len) c.in-Some-before.is here hard (c.separator.ensures ts trees holds))
    (hard_laid g.P.Paper.holds c.args.spot refl c.in_ok-line_break-in-Hard-eq0.ensures.put)
    (text_past g.P.Paper.holds c.args.spot refl (c.in_err-word-in-Hard-eq0.ensures.too_long (same_err c.from_residual-in_err-word-in-Hard-eq0.ensures.1 long)))

pub returns-in_ok-word-in-Hard-eq0-clause-laid : goal.returns-in_ok-word-in-Hard-eq0-clause-laid
returns-in_ok-word-in-Hard-eq0-clause-laid g c ts trees t holds unfolds =
    let context = c.args.context.now in
    let text = chars c.text-text.result.now in
    let here = comment_text context c.args._place c.args.at ts t c.in-Comment.item text c.in-Some.len (told_at context.tree.now.nodes c.args.at.0 c.node.ensures c.in-Comment.is) unfolds (c.text-text.ensures.characters ts trees holds) c.in-Some.ensures.one c.in-Some.ensures.columns in
    let none : c.in-Hard-eq0.field-0 ≡ 0 = omega (arith, c.in-Hard-eq0.field-0-test) in
    let hard = c.in-Hard-eq0.is ∙ ap separator.Hard none in (
      ap (λ (p : Part). p.last) (sym here),
      both_laid g.P.Paper.holds c.args.spot (next_docs c.args._place (seen context.style.now) ts c.in-Some-before.last c.in-Comment.item t (Text text c.in-Some.len) c.in-Some-before.is here hard (c.separator.ensures ts trees holds))
          (hard_laid g.P.Paper.holds c.args.spot refl c.in_ok-line_break-in-Hard-eq0.ensures.put)
          (text_laid g.P.Paper.holds c.args.spot refl c.in_ok-word-in-Hard-eq0.ensures.put),
    )
