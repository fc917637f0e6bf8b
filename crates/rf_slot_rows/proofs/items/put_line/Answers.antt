-- A text takes up at most two columns a character.
use Rattle.std.proofs.Common.{◌≤◌, ◌*◌, ℕ, [], ◌∷◌, length, sym, subst}
use Rattle.std.specs.Str.{chars}
use Rattle.rf_base_document.specs.Document.{Text}
use Rattle.rf_base_style.proofs.Lengths.{lengths_keep_limits}
use Rattle.rf_rows.proofs.Stacks.{on_ok}
use Rattle.rf_rows.specs.Puts.{Puts}
use Rattle.rf_slot_rows.proofs.items.put_line.Goals as goal

pub text-requires-clause-limits : goal.text-requires-clause-limits
text-requires-clause-limits c =
    let text = chars c.args.line.now in (
      c.requires.one,
      subst (λ (n : ℕ). n ≤ 2 * length text) (sym c.requires.len) (lengths_keep_limits c.args._columns text),
    )

pub returns-clause-put : goal.returns-clause-put
returns-clause-put c =
    on_ok c.text.result _ _
    (λ put. subst (λ (n : ℕ). Puts c.args.rows.now c.text.new.self (Text (chars c.args.line.now) n ∷ [])) c.requires.len put)
    c.text.ensures.put
