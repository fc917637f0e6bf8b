-- One more direction.
use Rattle.std.proofs.Common.{◌++◌, ◌∙◌, sym, ap, append_assoc, List, ℕ, take}
use Rattle.std.specs.String.{string_bytes}
use Rattle.rf_top.specs.Answer.{directions}
use Rattle.rf_top.proofs.Directions.{directions-more}
use Rattle.rf_top.proofs.listing.push_directions.Goals as goal

pub loop-dir-preserved : goal.loop-dir-preserved
loop-dir-preserved c =
    let before : List ℕ = string_bytes c.args.line.now in
    let so_far : List ℕ = directions (take c.loop-dir.dir-index c.args.choices.now) in
    c.in_ok-push_str.ensures.bytes
    ∙ ap (λ (l : List ℕ). l ++ c.letter.result.now) c.loop-dir.invariant
    ∙ append_assoc before so_far c.letter.result.now
    ∙ ap (λ (l : List ℕ). before ++ (so_far ++ l)) c.letter.ensures
    ∙ ap (λ (l : List ℕ). before ++ l) (sym (directions-more c.args.choices.now c.loop-dir.dir-index _ c.loop-dir-test.true))
