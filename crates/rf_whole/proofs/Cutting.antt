-- Where a text is cut in two, and the gap at its front.
use Rattle.std.proofs.Common.{◌≡◌, ℕ, ◌-◌, List, [], ◌∷◌, ◌++◌, length, take, drop, slice_range, sym, ap, ◌∙◌, arith, length-drop}
use Rattle.std.proofs.lemmas.List.{take-append-drop, take_all}
use Rattle.std.specs.Str.{chars, IsUtf8}
use Rattle.std.proofs.lemmas.Str.{chars-append}
use Rattle.rf_base_grammar.specs.Characters.{is_white}
use Rattle.rf_base_grammar.specs.Cuts.{Cut, span}
use Rattle.rf_base_grammar.specs.Itemised.{line_ends}
use Rattle.rf_base_grammar.proofs.Spans.{Stops, span_same}
use Rattle.rf_lexer.specs.Gaps.{EndsOrBegins, EndsGap}

-- a gap that ends where no white space begins the rest is the white space at the front of the text
stops_behind : (text : List ℕ) → EndsOrBegins text → Stops is_white text
stops_behind [] h = tt
stops_behind (c ∷ text) h = h

pub feeds_of_front : (text : List ℕ) (feeds : ℕ) (rest : List ℕ) → EndsGap text feeds rest →
    feeds ≡ line_ends (span is_white text).front
feeds_of_front text feeds rest h =
    let front : (span is_white text).front ≡ h.gap =
    ap (λ xs. (span is_white xs).front) h.whole
    ∙ ap (λ (k : Cut). k.front) (span_same is_white h.gap rest h.white (stops_behind rest h.stops)) in
    h.feeds_are ∙ ap line_ends (sym front)

-- the characters of a text cut at a byte are those of both parts
pub cut_chars : (text front rest : List ℕ) (at : ℕ) → IsUtf8 front → front ≡ slice_range text 0 at →
    rest ≡ slice_range text at (length text) → chars text ≡ chars front ++ chars rest
cut_chars text front rest at u f r =
    let before : front ≡ take at text = f ∙ ap (λ (k : ℕ). take k text) (omega arith) in
    let behind : rest ≡ drop at text =
    r ∙ take_all (length text - at) (drop at text) (omega (arith, length-drop at text)) in
    let both : text ≡ front ++ rest = let e = take-append-drop at text in cc in
    ap chars both ∙ chars-append front rest u
