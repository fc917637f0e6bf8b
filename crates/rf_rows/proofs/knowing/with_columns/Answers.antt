-- The texts are longer, or a new one.
use Rattle.std.proofs.Common.{[], true, false, refl, arith}
use Rattle.rf_rows.proofs.Learning.{line_of_texts, longer_gathered, anew_gathered}
use Rattle.rf_rows.proofs.knowing.with_columns.Goals as goal

pub returns-in-Some : goal.returns-in-Some
returns-in-Some c = λ ways s d h. longer_gathered ways d s c.args.gathered _ c.args.columns refl refl (omega (arith, c.in-Some.ensures)) h

pub returns-in-None : goal.returns-in-None
returns-in-None c = λ ways s d h.
    anew_gathered ways d s _ c.args.columns refl (line_of_texts ways h.first d _ false _ _ (h.passes false) (c.with_text.ensures ways []) h.loose)
    (line_of_texts ways h.first d _ true _ _ (h.passes true) (c.with_text-in-None.ensures ways []) h.flat)
