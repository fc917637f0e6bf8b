-- As the command takes the words.
use Rattle.std.proofs.Common.{◌≡◌, map, string_bytes, inl, inr, true, subst, sym, ◌∙◌}
use Rattle.std.proofs.lemmas.Bool.{false≢true}
use Rattle.rf_words.specs.Answers.{Answers}
use Rattle.rf_words.proofs.Taking.{command_is_simple, command_is_free, taken, refused}
use Rattle.rf_words.proofs.reading.read_words.Goals as goal

pub returns-in-Ok : goal.returns-in-Ok
returns-in-Ok c =
    let made = c.in_ok-command.ensures in
    let rows = c.in-Ok.ensures.matches (command_is_simple _ made) in
    let clear = c.in-Ok.ensures.kinds (command_is_free _ made) in
    subst (λ said. Answers said c.said.result) (taken _ (map string_bytes c.args.words.now) _ made clear rows.0) c.said.ensures

pub returns-in-Err-2 : goal.returns-in-Err-2
returns-in-Err-2 c =
    let made = c.in_ok-command.ensures in
    elim (c.in-Err.ensures.kinds (command_is_free _ made)) [
      | inl memory ↦
          let same : c.eq.result ≡ true = rw (c.kind.ensures, memory) at c.eq.ensures in
          absurd (false≢true (sym c.if-eq.false ∙ same))
      | inr among ↦ refused _ (map string_bytes c.args.words.now) _ made among
    ]
