-- Each reason is told by its line.
use Rattle.std.proofs.Common.{◌++◌, ◌∷◌, ◌∙◌, [], List, ℕ, ℤ, codes, ap, refl, rules, to_z, of_z, to_z-of_z, w64}
use mir.Val.{SFits}
use Rattle.std.specs.Fmt.{signed_decimal}
use Rattle.std.specs.String.{string_bytes}
use Rattle.rf_top.specs.declared.stops.Stop.TheVariants as stop
use Rattle.rf_top.proofs.Pieces.{says}
use Rattle.rf_top.proofs.telling.tell_stop.Goals as goal

-- the line of a number out of its range
abbrev range_line : List ℕ → ℤ → List ℕ
range_line key number = (codes "style: StyleRange " ++ key ++ codes " " ++ signed_decimal number) ++ codes "\n"

pub returns-in-Read : goal.returns-in-Read
returns-in-Read g c = says _ _ _ _ _ stop.Read _ c.in-Read.is refl c.tell-in-Read.ensures

pub returns-in-StyleTooLong : goal.returns-in-StyleTooLong
returns-in-StyleTooLong g c = says _ _ _ _ _ stop.StyleTooLong _ c.in-StyleTooLong.is refl c.tell-in-StyleTooLong.ensures

pub returns-in-StyleText : goal.returns-in-StyleText
returns-in-StyleText g c = says _ _ _ _ _ stop.StyleText _ c.in-StyleText.is refl c.tell-in-StyleText.ensures

pub returns-in-SourceTooLong : goal.returns-in-SourceTooLong
returns-in-SourceTooLong g c = says _ _ _ _ _ stop.SourceTooLong _ c.in-SourceTooLong.is refl c.tell-in-SourceTooLong.ensures

pub returns-in-LayoutTooLong : goal.returns-in-LayoutTooLong
returns-in-LayoutTooLong g c = says _ _ _ _ _ stop.LayoutTooLong _ c.in-LayoutTooLong.is refl c.tell-in-LayoutTooLong.ensures

pub returns-in-Write : goal.returns-in-Write
returns-in-Write g c = says _ _ _ _ _ stop.Write _ c.in-Write.is refl c.tell-in-Write.ensures

pub returns-in-Memory : goal.returns-in-Memory
returns-in-Memory g c = says _ _ _ _ _ stop.Memory _ c.in-Memory.is refl c.tell-in-Memory.ensures

pub returns-in-StyleKey : goal.returns-in-StyleKey
returns-in-StyleKey g c =
    says _ _ _ _ _ (stop.StyleKey c.in-StyleKey.key) _ c.in-StyleKey.is
    (ap (λ (key : List ℕ). codes "style: StyleKey " ++ (key ++ 10 ∷ [])) c.as_bytes-in-StyleKey.ensures.value) c.tell-in-StyleKey.ensures

pub returns-in-StyleValue : goal.returns-in-StyleValue
returns-in-StyleValue g c =
    says _ _ _ _ _ (stop.StyleValue c.in-StyleValue.key) _ c.in-StyleValue.is
    (ap (λ (key : List ℕ). codes "style: StyleValue " ++ (key ++ 10 ∷ [])) c.as_bytes-in-StyleValue.ensures.value) c.tell-in-StyleValue.ensures

pub returns-in-StyleRange : goal.returns-in-StyleRange
returns-in-StyleRange g c =
    let fits : SFits w64 c.in-StyleRange.number = search rules in
    says _ _ _ _ _ (stop.StyleRange c.in-StyleRange.key c.in-StyleRange.number) _ c.in-StyleRange.is
    (ap (λ (key : List ℕ). range_line key (to_z w64 (of_z w64 c.in-StyleRange.number))) c.deref.ensures ∙ ap (range_line (string_bytes c.in-StyleRange.key)) (to_z-of_z fits)) c.tell_range.ensures
