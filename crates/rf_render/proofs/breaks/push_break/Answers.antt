-- A line feed and spaces are ASCII.
use Rattle.std.proofs.Common.{List, ℕ, [], ◌∷◌, ◌++◌, append_assoc, ap, ◌∙◌}
use Rattle.std.proofs.Math.ListN.{replicate}
use Rattle.std.specs.String.{string_bytes}
use Rattle.std.proofs.lemmas.Result.{on_ok_weaker}
use Rattle.rf_render.proofs.Writing.{chars_broken}
use Rattle.rf_render.proofs.breaks.push_break.Goals as goal

pub returns : goal.returns
unfolding lib.Utf8.encode
returns c =
    let n : ℕ = c.args.indentation in
    on_ok_weaker c.push_spaces.result
    (λ h. chars_broken c.args.text.now c.push_spaces.new.text n
    (h ∙ ap (λ (l : List ℕ). l ++ replicate n 32) c.in_ok-push.ensures.bytes
    ∙ append_assoc (string_bytes c.args.text.now) (10 ∷ []) (replicate n 32)))
    c.push_spaces.ensures
