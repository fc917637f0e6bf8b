-- Each option is added to the command as the last one.
use Rattle.std.proofs.Common.{◌≡◌}
use Rattle.std.proofs.lemmas.Result.{IfOk-weaker}
use Rattle.clap.specs.Words.{App, Rule, with_rule}
use Rattle.rf_words.proofs.command.with_measures.Goals as goal

three : (start one two made : App) (a b d x y z : Rule) → one ≡ with_rule start a → two ≡ with_rule one b →
    made ≡ with_rule two d → a ≡ x → b ≡ y → d ≡ z → made ≡ with_rule (with_rule (with_rule start x) y) z
three start one two made a b d x y z p q r s t u = rw (r, q, p, s, t, u)

pub returns : goal.returns
returns c =
    let first = c.in_ok-arg.ensures.shape c.number.ensures.local in
    let second = c.in_ok-arg-2.ensures.shape c.number-2.ensures.local in
    IfOk-weaker c.arg-3.result _ _ (λ made added. three _ _ _ _ _ _ _ _ _ _ first second (added.shape c.number-3.ensures.local)
    c.number.ensures.rule c.number-2.ensures.rule c.number-3.ensures.rule) c.arg-3.ensures
