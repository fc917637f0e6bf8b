-- Worked examples of what a resolution is rendered as: a definition that changes its meaning fails here.
use Rattle.std.proofs.Common.{◌≡◌, ℕ, ◌+◌, ◌<◌, ◌≤◌, List, [], ◌∷◌, length, replicate, refl, sym, ap, ◌∙◌, arith, length-append}
use Rattle.std.specs.Str.{chars}
use Rattle.std.specs.String.{string_bytes}
use Rattle.std.proofs.lemmas.List.{length-replicate}
use Rattle.rf_base_document.specs.declared.directions.Dir.{Dir}
use Rattle.rf_base_document.specs.declared.limits.TheConstants.{LAYOUT_LIMIT}
use Rattle.rf_base_document.specs.Document.{Doc, Text, Newline, Nest, Concat}
use Rattle.rf_base_document.specs.Picks.{leaves_of, weight_of}
use Rattle.rf_base_document.specs.Render.{Word, Break, Laid, laid, render, layout}
use Rattle.rf_walk.specs.declared.faults.LayoutError.TheVariants as walk
use Rattle.rf_render.specs.declared.faults.RenderError.TheVariants.{TooLong}
use Rattle.rf_render.specs.declared.pages.Page.{Page}
use Rattle.rf_render.specs.Faults.{render_error}
use Rattle.rf_render.specs.Pages.{Shows}
use Rattle.rf_render.specs.Rendered.{IsRendered}

one_short : 1 ≤ LAYOUT_LIMIT
one_short = let short : 1 ≤ 67108864 = omega arith in short

two_short : 2 ≤ LAYOUT_LIMIT
two_short = let short : 2 ≤ 67108864 = omega arith in short

-- a text, and a line break, at column 0 and indentation 0
two_rendered : IsRendered (Concat (Text (97 ∷ []) 1) Newline) [] (97 ∷ 10 ∷ [])
unfolding render layout leaves_of
two_rendered = (laid (Word 0 (97 ∷ []) 1 ∷ Break 0 ∷ []) 0, refl, refl, two_short, two_short)

another_text : (text : List ℕ) → IsRendered Newline [] text → text ≡ 10 ∷ []
unfolding render layout
another_text text h =
    let found = h.1 in
    let same : laid (Break 0 ∷ []) 0 ≡ h.0 = cc in
    h.2 ∙ ap (λ (l : Laid). layout l.pieces) (sym same)

-- the characters and the weight are at most the limit, and may be it
break_length : (n : ℕ) → length (layout (Break (0 + n) ∷ [])) ≡ n + 1
unfolding layout
break_length n = omega (arith, length-append {A = ℕ} (10 ∷ replicate (0 + n) 32) [], length-replicate {A = ℕ} (0 + n) 32)

longest : (n : ℕ) → n + 1 ≡ LAYOUT_LIMIT → IsRendered (Nest n Newline) [] (layout (Break (0 + n) ∷ []))
unfolding render leaves_of
longest n e = (laid (Break (0 + n) ∷ []) (0 + n), refl, refl, omega (arith, e, break_length n), one_short)

heaviest : (choices : List Dir) → length choices + 1 ≡ LAYOUT_LIMIT → IsRendered Newline choices (10 ∷ [])
unfolding render layout leaves_of
heaviest choices e = (laid (Break 0 ∷ []) 0, refl, refl, one_short, omega (arith, e))

past_the_length : (e : Doc) (choices : List Dir) (text : List ℕ) → LAYOUT_LIMIT < length text → IsRendered e choices text → ⊥
past_the_length e choices text long h = omega (arith, long, h.3)

past_the_weight : (e : Doc) (choices : List Dir) (text : List ℕ) → LAYOUT_LIMIT < weight_of e choices →
    IsRendered e choices text → ⊥
past_the_weight e choices text heavy h = omega (arith, heavy, h.4)

too_long_is : render_error walk.TooLong ≡ TooLong
too_long_is = refl

-- a page shows the text of its pieces, and no other
shown : (page : Page) → Shows page (Word 0 (97 ∷ []) 1 ∷ Break 2 ∷ []) 2 →
    chars (string_bytes page.text) ≡ 97 ∷ 10 ∷ 32 ∷ 32 ∷ []
unfolding layout
shown page shows = shows.text
