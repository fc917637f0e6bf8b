-- What stands alone on a stack of rows.
use Rattle.std.proofs.Common.{◌≡◌, List, [], ◌∷◌, ◌++◌, length, sym, ◌∙◌, ap}
use Rattle.std.proofs.lemmas.List.{length-map}
use Rattle.rf_base_document.specs.Document.{Doc}
use Rattle.rf_rows.specs.declared.pieces.Fill.{Fill}
use Rattle.rf_rows.specs.declared.pieces.Fill.TheVariants as fill
use Rattle.rf_rows.specs.declared.rows.Rows.{Rows}
use Rattle.rf_rows.specs.Rows.{stacked}
use Rattle.rf_rows.specs.Alone.{StandsAlone}

-- put on a stack of nothing it stands alone
pub stands_alone : (old new : Rows) (d : Doc) → ((f : Fill) → stacked old f ≡ []) → ((f : Fill) → stacked new f ≡ stacked old f ++ d ∷ []) → StandsAlone new d
stands_alone old new d none put = λ f. put f ∙ ap (λ (ds : List Doc). ds ++ d ∷ []) (none f)

same_first : {d e : Doc} → d ∷ [] ≡ e ∷ [] → d ≡ e
same_first h = cc

-- it is one document
pub one_alone : (rows : Rows) (d e : Doc) → StandsAlone rows d → StandsAlone rows e → d ≡ e
one_alone rows d e h k = same_first (sym (h fill.Space) ∙ k fill.Space)

-- and one piece
pub one_piece : (rows : Rows) (d : Doc) → StandsAlone rows d → length rows.stack.items ≡ 1
one_piece rows d alone = sym (length-map rows.stack.items _) ∙ ap (λ (ds : List Doc). length ds) (alone fill.Space)
