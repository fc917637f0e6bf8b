-- The pieces are those of the line.
use Rattle.std.proofs.Common.{◌≡◌, ◌∙◌, ◌++◌, ◌∷◌, [], List, ℕ, codes, append_assoc, ap, sym, subst, to_z-of_z}
use Rattle.std.specs.Fmt.{signed_decimal}
use Rattle.rf_top.specs.Running.{Tells}
use Rattle.rf_top.proofs.telling.tell_range.Goals as goal

pub returns : goal.returns
returns g c =
    let key = c.args.key.now in
    let number = signed_decimal c.args.number in
    let digits : c.as_bytes-2.result.now ≡ number = c.as_bytes-2.ensures.value ∙ (c.format-number.ensures.text ∙ ap signed_decimal (to_z-of_z c.ranges.number)) in
    subst
    (λ (l : List ℕ).
    Tells (g.E.Sink.written c.args.err.now) (g.E.Sink.written c.tell.new.err) (g.E.Sink.faults c.args.err.now) (g.E.Sink.faults c.tell.new.err) (codes "style: StyleRange " ++ l))
    (ap (λ (key : List ℕ). key ++ (32 ∷ (c.as_bytes-2.result.now ++ 10 ∷ []))) c.as_bytes.ensures.value
    ∙ ap (λ (l : List ℕ). key ++ (32 ∷ (l ++ 10 ∷ []))) digits
    ∙ sym (append_assoc (key ++ 32 ∷ []) number (10 ∷ []) ∙ append_assoc key (32 ∷ []) (number ++ 10 ∷ [])))
    c.tell.ensures
