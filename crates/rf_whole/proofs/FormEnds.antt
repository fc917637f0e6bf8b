-- Line ends behind a form.
use Rattle.std.proofs.Common.{◌≡◌, String, ℕ, zero, suc, ◌+◌, ◌-◌, ◌<◌, ◌≤◌, Bool, false, List, [], ◌∷◌, ◌++◌, length, length-append, replicate, refl, sym, ◌∙◌, ap, ap₂, subst, append-nil, append_assoc, ◌⊎◌, inl, inr, arith}
use Rattle.rf_base_document.specs.declared.directions.Dir.{Dir}
use Rattle.rf_base_document.specs.declared.limits.TheConstants.{LAYOUT_LIMIT}
use Rattle.rf_base_document.specs.Document.{Doc, IsDocument}
use Rattle.rf_base_document.specs.Render.{Piece, Break, Laid, layout}
use Rattle.rf_base_document.specs.Picks.{marks_of, weight_of, LaidOutBy}
use Rattle.rf_base_document.specs.Simple.{simple}
use Rattle.rf_base_document.proofs.Marks.{leaves_marks}
use Rattle.rf_base_document.proofs.Running.{marks_of-append, picks_document}
use Rattle.rf_base_document.proofs.Render.{layout-append}
use Rattle.rf_base_cost.specs.Cost.{Costs, Lawful, IsValue, cost_after}
use Rattle.rf_base_cost.proofs.Layouts.{layout_is_counted}
use Rattle.rf_base_cost.proofs.Sums.{after_is_value}
use Rattle.rf_base_optimum.specs.Paragraphs.{Paragraph, line_breaks, EachLaidOut, chosen_of, chosen_apart}
use Rattle.rf_whole.specs.Forms.{IsForm, IsLongForm}
use Rattle.rf_whole.specs.Lines.{AreLines, ArePastLimit}
use Rattle.rf_whole.proofs.Together.{past_after, breaks_layout, breaks_weigh, breaks_counted, cost_from_none, chars_pushed}
use Rattle.std.specs.Str.{chars, IsAscii}
use Rattle.std.specs.String.{string_bytes}
use Rattle.std.proofs.lemmas.List.{length-replicate}
use Rattle.std.proofs.lemmas.Str.{chars-append, chars-IsAscii, IsUtf8-string_bytes}
use Rattle.std.proofs.lemmas.Str.Ascii.{IsAscii-nil, IsAscii-cons}

-- one line end and then the others
pub ends_less : {C : Type 0} (costs : Costs C) (sum : C) (n : ℕ) → 0 < n →
    cost_after costs sum (replicate n (Break 0)) ≡ cost_after costs (costs.add sum (costs.newline 0)) (replicate (n - 1) (Break 0))
unfolding cost_after
ends_less costs sum zero p = absurd (omega arith)
ends_less costs sum (suc n) p = let less : suc n - 1 ≡ n = omega arith in rw less refl

pub no_ends : {C : Type 0} (costs : Costs C) (sum : C) (n : ℕ) → n ≤ 0 → cost_after costs sum (replicate n (Break 0)) ≡ sum
unfolding cost_after
no_ends costs sum zero p = refl
no_ends costs sum (suc n) p = absurd (omega arith)

-- a layout of the paragraph's document with the line ends behind it: its pieces, its characters and its weight
record Ended {C : Type 0} (costs : Costs C) (w : ℕ) (p : Paragraph) (whole : Laid) : Type 0 where
  pieces : List Piece
  laid : EachLaidOut (p ∷ []) (chosen_apart costs w (p ∷ [])) pieces
  size : length (layout pieces) ≡ length (layout whole.pieces) + suc p.blanks
  weight : marks_of pieces + length (chosen_apart costs w (p ∷ [])) ≡ marks_of whole.pieces + length (chosen_of costs w (simple p.doc false)) + suc p.blanks

ended : {C : Type 0} (costs : Costs C) (w : ℕ) (p : Paragraph) (whole : Laid) → LaidOutBy p.doc (chosen_of costs w (simple p.doc false)) 0 0 false whole → Ended costs w p whole
unfolding EachLaidOut chosen_apart
ended costs w p whole h =
    let x : List Dir = chosen_of costs w (simple p.doc false) in
    let ends : List Piece = line_breaks p.blanks in
    let first : List Piece = whole.pieces in
    let marks = marks_of-append first ends in
    let ends_weigh = breaks_weigh (suc p.blanks) in
    let same : first ++ (ends ++ []) ≡ first ++ ends = ap (λ (u : List Piece). first ++ u) (append-nil ends) in
    let count : length (x ++ []) ≡ length x = ap length (append-nil x) in
    let marks_same : marks_of (first ++ (ends ++ [])) ≡ marks_of (first ++ ends) = ap marks_of same in
    record {
      pieces = first ++ (ends ++ []);
      laid = (x, [], whole, [], refl, refl, h, (refl, refl));
      size = ap (λ (u : List Piece). length (layout u)) same ∙ ap length (layout-append first ends) ∙ length-append (layout first) (layout ends)
          ∙ ap (λ (s : List ℕ). length (layout first) + length s) (breaks_layout (suc p.blanks))
          ∙ ap (λ (n : ℕ). length (layout first) + n) (length-replicate {A = ℕ} (suc p.blanks) 10);
      weight = omega (arith, count, marks_same, marks, ends_weigh);
    }

-- lines that are past the limit with a form and the line ends behind it
pub added_past : {C : Type 0} (costs : Costs C) (w : ℕ) (ps : List Paragraph) (p : Paragraph) (x y : List Dir) (s t : List ℕ) (a b : C) (within also : Bool) (k i j : ℕ) →
    AreLines costs w ps x s a within k i → IsForm costs w p.doc y t b also j →
    (LAYOUT_LIMIT < k + (length t + suc p.blanks)) ⊎ (LAYOUT_LIMIT < i + (j + suc p.blanks)) → ArePastLimit costs w (ps ++ p ∷ [])
added_past costs w ps p x y s t a b within also k i j h g past =
    let one = ended costs w p g.whole (subst (λ (z : List Dir). LaidOutBy p.doc z 0 0 false g.whole) g.chosen (g.resolution, g.picked, g.rendered)) in
    let weighed = leaves_marks g.resolution 0 0 false g.whole g.rendered in
    let text : length t ≡ length (layout g.whole.pieces) = ap length g.text_is in
    let count : length y ≡ length (chosen_of costs w (simple p.doc false)) = ap length g.chosen in
    let is : j ≡ weight_of g.resolution y = g.weight_is in
    past_after costs w ps (p ∷ []) x s a within k i one.pieces h one.laid
    (elim past [
      | inl long ↦ inl (omega (arith, long, text, one.size))
      | inr heavy ↦ inr (omega (arith, heavy, is, weighed, count, one.weight))
    ])

-- a form that is past the limit is so with the line ends behind it
pub long_form_past : {C : Type 0} (costs : Costs C) (w : ℕ) (p : Paragraph) → IsLongForm costs w p.doc → ArePastLimit costs w (p ∷ [])
long_form_past costs w p h =
    let whole : Laid = h.2.0 in
    let one = ended costs w p whole (h.0, h.1, h.2.1) in
    let weighed = leaves_marks h.0 0 0 false whole h.2.1 in (
      one.pieces,
      one.laid,
      elim h.2.2 [
        | inl long ↦ inl (omega (arith, long, one.size))
        | inr heavy ↦ inr (omega (arith, heavy, weighed, one.weight))
      ],
    )

-- the cost of a form is a value
pub form_value : {C : Type 0} (costs : Costs C) (laws : Lawful costs) (w : ℕ) (d : Doc) (x : List Dir) (s : List ℕ) (a : C) (within : Bool) (i : ℕ) → IsDocument d →
    IsForm costs w d x s a within i → IsValue costs a
form_value {C = C} costs laws w d x s a within i document h =
    let few : length (layout h.whole.pieces) ≤ LAYOUT_LIMIT = subst (λ (u : List ℕ). length u ≤ LAYOUT_LIMIT) h.text_is h.short in
    let counted = layout_is_counted h.resolution false h.whole (picks_document d h.resolution x document h.picked) h.rendered few in
    subst (λ (v : C). IsValue costs v) (sym (cost_from_none costs laws h.whole.pieces a counted h.cost_is))
    (after_is_value costs laws (costs.text 0 0) h.whole.pieces (laws.text_is_value 0 0 (omega arith) (omega arith)) counted)

-- and so it is with line ends behind it
pub ends_value : {C : Type 0} (costs : Costs C) (laws : Lawful costs) (sum : C) (n : ℕ) → IsValue costs sum → IsValue costs (cost_after costs sum (replicate n (Break 0)))
ends_value costs laws sum n value = after_is_value costs laws sum (replicate n (Break 0)) value (breaks_counted n)

ends_ascii : (n : ℕ) → IsAscii (replicate n 10)
ends_ascii zero = IsAscii-nil
ends_ascii (suc n) = IsAscii-cons 10 (replicate n 10) (omega arith) (ends_ascii n)

-- the characters of a text behind which another and line ends were put
pub chars_ended : {Y Z : Type 0} (old between new : String Y) (other : String Z) (s : List ℕ) (n : ℕ) → string_bytes between ≡ string_bytes old ++ s → s ≡ string_bytes other →
    string_bytes new ≡ string_bytes between ++ replicate n 10 → chars (string_bytes new) ≡ chars (string_bytes old) ++ (chars (string_bytes other) ++ replicate n 10)
chars_ended old between new other s n e f k =
    ap chars k ∙ chars-append (string_bytes between) (replicate n 10) (IsUtf8-string_bytes between)
    ∙ ap₂ (λ (u v : List ℕ). u ++ v) (chars_pushed old between other s e f) (chars-IsAscii (replicate n 10) (ends_ascii n))
    ∙ append_assoc (chars (string_bytes old)) (chars (string_bytes other)) (replicate n 10)
