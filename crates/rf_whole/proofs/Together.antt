-- Forms in a row put together, and a file of them.
use Rattle.std.proofs.Common.{◌≡◌, String, ℕ, zero, suc, ◌+◌, ◌<◌, ◌≤◌, ◌&&◌, Bool, true, false, List, [], ◌∷◌, ◌++◌, length, length-append, replicate, refl, sym, ◌∙◌, ap, ap₂, subst, append_assoc, append-nil, ◌⊎◌, inl, inr, Some, arith}
use Rattle.std.specs.Prelude.{◌↔◌, IsTrue}
use Rattle.rf_base_document.specs.declared.directions.Dir.{Dir}
use Rattle.rf_base_document.specs.declared.limits.TheConstants.{LAYOUT_LIMIT}
use Rattle.rf_base_document.specs.Document.{IsDocument}
use Rattle.rf_base_document.specs.Render.{Piece, Break, piece_text, layout}
use Rattle.rf_base_document.specs.Picks.{marks_of}
use Rattle.rf_base_document.specs.Simple.{simple}
use Rattle.rf_base_document.proofs.Marks.{leaves_marks}
use Rattle.rf_base_document.proofs.Running.{marks_of-append, picks_document}
use Rattle.rf_base_document.proofs.Render.{layout-append}
use Rattle.rf_base_cost.proofs.Layouts.{layout_is_counted}
use Rattle.std.proofs.lemmas.List.{length-replicate}
use Rattle.std.specs.Str.{chars}
use Rattle.std.specs.String.{string_bytes}
use Rattle.std.proofs.lemmas.Str.{chars-append, IsUtf8-string_bytes}
use Rattle.rf_base_cost.specs.Cost.{Costs, IsValue, IsColumn, Lawful, piece_cost, cost_after, cost_of, PiecesAreCounted}
use Rattle.rf_base_cost.proofs.Sums.{piece_is_value, after_is_value, after_added, after_append}
use Rattle.rf_base_optimum.specs.Paragraphs.{Paragraph, line_breaks, EachIsDocument, EachHasCore, EachBest, EachLaidOut, EachHasWithin, chosen_of, chosen_apart}
use Rattle.rf_base_optimum.proofs.Cores.{best_is}
use Rattle.rf_base_optimum.proofs.Shift.{counted-append}
use Rattle.rf_base_optimum.proofs.Apart.{chosen_each_best}
use Rattle.rf_whole.specs.Forms.{IsForm}
use Rattle.rf_whole.specs.Lines.{AreLines, ArePastLimit}

-- paragraphs in a row
laid-append : (ps qs : List Paragraph) (x y : List Dir) (pieces more : List Piece) → EachLaidOut ps x pieces → EachLaidOut qs y more → EachLaidOut (ps ++ qs) (x ++ y) (pieces ++ more)
unfolding EachLaidOut
laid-append [] qs x y pieces more h k =
    let none : x ++ y ≡ y = ap (λ (z : List Dir). z ++ y) h.0 in
    let nothing : pieces ++ more ≡ more = ap (λ (z : List Piece). z ++ more) h.1 in
    subst (λ (z : List Dir). EachLaidOut qs z (pieces ++ more)) (sym none) (subst (λ (z : List Piece). EachLaidOut qs y z) (sym nothing) k)
laid-append (p ∷ ps) qs x y pieces more h k = (
  h.0,
  h.1 ++ y,
  h.2,
  h.3 ++ more,
  ap (λ (z : List Dir). z ++ y) h.4 ∙ append_assoc h.0 h.1 y,
  ap (λ (z : List Piece). z ++ more) h.5 ∙ append_assoc h.2.pieces (line_breaks p.blanks ++ h.3) more
      ∙ ap (λ (z : List Piece). h.2.pieces ++ z) (append_assoc (line_breaks p.blanks) h.3 more),
  h.6,
  laid-append ps qs h.1 y h.3 more h.7 k,
)

chosen-append : {C : Type 0} (costs : Costs C) (w : ℕ) (ps qs : List Paragraph) → chosen_apart costs w (ps ++ qs) ≡ chosen_apart costs w ps ++ chosen_apart costs w qs
unfolding chosen_apart
chosen-append costs w [] qs = refl
chosen-append costs w (p ∷ ps) qs =
    let first : List Dir = chosen_of costs w (simple p.doc false) in
    ap (λ (z : List Dir). first ++ z) (chosen-append costs w ps qs) ∙ sym (append_assoc first (chosen_apart costs w ps) (chosen_apart costs w qs))

within-append : (w : ℕ) (ps qs : List Paragraph) → EachHasWithin w (ps ++ qs) ↔ (EachHasWithin w ps × EachHasWithin w qs)
unfolding EachHasWithin
within-append w [] qs = (λ h. (tt, h), λ h. h.1)
within-append w (p ∷ ps) qs =
    let rest = within-append w ps qs in
    (λ h. let both = rest.0 h.1 in ((h.0, both.0), both.1), λ h. (h.0.0, rest.1 (h.0.1, h.1)))

-- what two lists of pieces cost, one after the other
after_both : {C : Type 0} (costs : Costs C) (laws : Lawful costs) (ps qs : List Piece) → PiecesAreCounted ps → PiecesAreCounted qs →
    cost_after costs (costs.text 0 0) (ps ++ qs) ≡ costs.add (cost_after costs (costs.text 0 0) ps) (cost_after costs (costs.text 0 0) qs)
after_both {C = C} costs laws ps qs h k =
    let none = laws.text_is_value 0 0 (omega arith) (omega arith) in
    let first = after_is_value costs laws (costs.text 0 0) ps none h in
    after_append costs (costs.text 0 0) ps qs
    ∙ ap (λ (x : C). cost_after costs x qs) (sym (laws.no_text 0 (omega arith) (cost_after costs (costs.text 0 0) ps) first).1)
    ∙ after_added costs laws (cost_after costs (costs.text 0 0) ps) (costs.text 0 0) qs first none k

both_true : (x y : Bool) → IsTrue (x && y) ↔ (IsTrue x × IsTrue y)
both_true true true = (λ h. (refl, refl), λ h. refl)
both_true true false = (λ h. (refl, h), λ h. h.1)
both_true false true = (λ h. (h, refl), λ h. h.0)
both_true false false = (λ h. (h, h), λ h. h.0)

-- lines and then others
pub lines-append : {C : Type 0} (costs : Costs C) (laws : Lawful costs) (w : ℕ) (ps qs : List Paragraph) (x y : List Dir) (s t : List ℕ) (a b : C) (within also : Bool) (k m i j : ℕ) →
    AreLines costs w ps x s a within k i → AreLines costs w qs y t b also m j → k + m ≤ LAYOUT_LIMIT → i + j ≤ LAYOUT_LIMIT →
    AreLines costs w (ps ++ qs) (x ++ y) (s ++ t) (costs.add a b) (within && also) (k + m) (i + j)
lines-append {C = C} costs laws w ps qs x y s t a b within also k m i j h g short light = record {
  pieces = h.pieces ++ g.pieces;
  laid = laid-append ps qs x y h.pieces g.pieces h.laid g.laid;
  chosen = ap₂ (λ (u v : List Dir). u ++ v) h.chosen g.chosen ∙ sym (chosen-append costs w ps qs);
  text_is = ap₂ (λ (u v : List ℕ). u ++ v) h.text_is g.text_is ∙ sym (layout-append h.pieces g.pieces);
  counted = counted-append h.pieces g.pieces h.counted g.counted;
  cost_is = ap₂ (λ (u v : C). costs.add u v) h.cost_is g.cost_is ∙ sym (after_both costs laws h.pieces g.pieces h.counted g.counted);
  within_is = (
    λ yes. let both = (both_true within also).0 yes in (within-append w ps qs).1 (h.within_is.0 both.0, g.within_is.0 both.1),
    λ each. let both = (within-append w ps qs).0 each in (both_true within also).1 (h.within_is.1 both.0, g.within_is.1 both.1),
  );
  characters_is = omega (arith, h.characters_is, g.characters_is, length-append s t);
  weight_is = omega (arith, h.weight_is, g.weight_is, marks_of-append h.pieces g.pieces, length-append x y);
  short = short;
  light = light;
}

-- paragraphs and others behind them, whose layouts or weights are past the limit together
past_both : {C : Type 0} (costs : Costs C) (w : ℕ) (ps qs : List Paragraph) (first more : List Piece) → EachLaidOut ps (chosen_apart costs w ps) first → EachLaidOut qs (chosen_apart costs w qs) more →
    (LAYOUT_LIMIT < length (layout first) + length (layout more)) ⊎ (LAYOUT_LIMIT < marks_of first + length (chosen_apart costs w ps) + (marks_of more + length (chosen_apart costs w qs))) →
    ArePastLimit costs w (ps ++ qs)
past_both costs w ps qs first more laid others past =
    let x : List Dir = chosen_apart costs w ps in
    let y : List Dir = chosen_apart costs w qs in
    let sizes = length-append (layout first) (layout more) in
    let whole = ap (λ (u : List ℕ). length u) (layout-append first more) in
    subst (λ (u : List Dir). (pieces : List Piece) × EachLaidOut (ps ++ qs) u pieces × ((LAYOUT_LIMIT < length (layout pieces)) ⊎ (LAYOUT_LIMIT < marks_of pieces + length u))) (sym (chosen-append costs w ps qs)) (
      first ++ more,
      laid-append ps qs x y first more laid others,
      elim past [
        | inl long ↦ inl (omega (arith, long, sizes, whole))
        | inr heavy ↦ inr (omega (arith, heavy, marks_of-append first more, length-append x y))
      ],
    )

-- lines that are past the limit with a layout of others behind them
pub past_after : {C : Type 0} (costs : Costs C) (w : ℕ) (ps qs : List Paragraph) (x : List Dir) (s : List ℕ) (a : C) (within : Bool) (k i : ℕ) (more : List Piece) →
    AreLines costs w ps x s a within k i → EachLaidOut qs (chosen_apart costs w qs) more →
    (LAYOUT_LIMIT < k + length (layout more)) ⊎ (LAYOUT_LIMIT < i + (marks_of more + length (chosen_apart costs w qs))) → ArePastLimit costs w (ps ++ qs)
past_after costs w ps qs x s a within k i more h laid past =
    let first = ap (λ (u : List ℕ). length u) h.text_is in
    let count : length x ≡ length (chosen_apart costs w ps) = ap length h.chosen in
    past_both costs w ps qs h.pieces more (subst (λ (u : List Dir). EachLaidOut ps u h.pieces) h.chosen h.laid) laid
    (elim past [
      | inl long ↦ inl (omega (arith, long, h.characters_is, first))
      | inr heavy ↦ inr (omega (arith, heavy, h.weight_is, count))
    ])

-- lines whose sums are past the limit
pub sums_past : {C : Type 0} (costs : Costs C) (w : ℕ) (ps qs : List Paragraph) (x y : List Dir) (s t : List ℕ) (a b : C) (within also : Bool) (k m i j : ℕ) →
    AreLines costs w ps x s a within k i → AreLines costs w qs y t b also m j → (LAYOUT_LIMIT < k + m) ⊎ (LAYOUT_LIMIT < i + j) → ArePastLimit costs w (ps ++ qs)
sums_past costs w ps qs x y s t a b within also k m i j h g past =
    let second = ap (λ (u : List ℕ). length u) g.text_is in
    let count : length y ≡ length (chosen_apart costs w qs) = ap length g.chosen in
    past_after costs w ps qs x s a within k i g.pieces h (subst (λ (u : List Dir). EachLaidOut qs u g.pieces) g.chosen g.laid)
    (elim past [
      | inl long ↦ inl (omega (arith, long, g.characters_is, second))
      | inr heavy ↦ inr (omega (arith, heavy, g.weight_is, count))
    ])

-- what is chosen of paragraphs with cores lays each out
each_laid : {C : Type 0} (costs : Costs C) (laws : Lawful costs) (w : ℕ) (ps : List Paragraph) (x : List Dir) → EachBest costs w ps x → (pieces : List Piece) × EachLaidOut ps x pieces
unfolding EachBest EachLaidOut
each_laid costs laws w [] x h = ([], (h, refl))
each_laid costs laws w (p ∷ ps) x h =
    let first = (best_is costs w p.doc 0 0 false h.0 h.3).0 in
    let rest = each_laid costs laws w ps h.1 h.4 in
    (first.0.pieces ++ (line_breaks p.blanks ++ rest.0), (h.0, h.1, first.0, rest.0, h.2, refl, first.1, rest.1))

pub chosen_each_laid : {C : Type 0} (costs : Costs C) (laws : Lawful costs) (w : ℕ) (ps : List Paragraph) → IsColumn w → EachIsDocument ps → EachHasCore ps →
    (pieces : List Piece) × EachLaidOut ps (chosen_apart costs w ps) pieces
chosen_each_laid costs laws w ps p d h = each_laid costs laws w ps (chosen_apart costs w ps) (chosen_each_best costs laws w ps p d h)

-- what is past the limit stays so with others before or behind it
pub past_before : {C : Type 0} (costs : Costs C) (laws : Lawful costs) (w : ℕ) (ps qs : List Paragraph) → IsColumn w → EachIsDocument qs → EachHasCore qs → ArePastLimit costs w ps → ArePastLimit costs w (ps ++ qs)
past_before costs laws w ps qs p d e h =
    let more = chosen_each_laid costs laws w qs p d e in
    past_both costs w ps qs h.0 more.0 h.1 more.1 (elim h.2 [
      | inl long ↦ inl (omega (arith, long))
      | inr heavy ↦ inr (omega (arith, heavy))
    ])

pub past_behind : {C : Type 0} (costs : Costs C) (laws : Lawful costs) (w : ℕ) (ps qs : List Paragraph) → IsColumn w → EachIsDocument ps → EachHasCore ps → ArePastLimit costs w qs → ArePastLimit costs w (ps ++ qs)
past_behind costs laws w ps qs p d e h =
    let before = chosen_each_laid costs laws w ps p d e in
    past_both costs w ps qs before.0 h.0 before.1 h.1 (elim h.2 [
      | inl long ↦ inl (omega (arith, long))
      | inr heavy ↦ inr (omega (arith, heavy))
    ])

-- the breaks of line ends: their characters, and what they weigh
pub breaks_layout : (n : ℕ) → layout (replicate n (Break 0)) ≡ replicate n 10
unfolding layout
breaks_layout zero = refl
breaks_layout (suc n) = ap (λ (xs : List ℕ). 10 ∷ xs) (breaks_layout n)

pub breaks_weigh : (n : ℕ) → marks_of (replicate n (Break 0)) ≡ n
unfolding marks_of
breaks_weigh zero = refl
breaks_weigh (suc n) = let rest = breaks_weigh n in omega (arith, rest)

pub breaks_counted : (n : ℕ) → PiecesAreCounted (replicate n (Break 0))
unfolding PiecesAreCounted
breaks_counted zero = tt
breaks_counted (suc n) = (omega arith, breaks_counted n)

-- what a layout costs after an empty text
pub cost_from_none : {C : Type 0} (costs : Costs C) (laws : Lawful costs) (ps : List Piece) (a : C) → PiecesAreCounted ps → cost_of costs ps ≡ Some a → a ≡ cost_after costs (costs.text 0 0) ps
unfolding cost_after PiecesAreCounted
cost_from_none costs laws [] a h e = cc
cost_from_none {C = C} costs laws (p ∷ ps) a h e =
    let is : cost_after costs (piece_cost costs p) ps ≡ a = cc in
    let none = laws.no_text 0 (omega arith) (piece_cost costs p) (piece_is_value costs laws p h.0) in
    sym is ∙ ap (λ (x : C). cost_after costs x ps) (sym none.0)

pub cost_to_some : {C : Type 0} (costs : Costs C) (laws : Lawful costs) (ps : List Piece) (a : C) → 1 ≤ length ps → PiecesAreCounted ps → a ≡ cost_after costs (costs.text 0 0) ps → cost_of costs ps ≡ Some a
unfolding cost_after PiecesAreCounted
cost_to_some costs laws [] a some h e = absurd (omega arith)
cost_to_some {C = C} costs laws (p ∷ ps) a some h e =
    let none = laws.no_text 0 (omega arith) (piece_cost costs p) (piece_is_value costs laws p h.0) in
    ap (λ (x : C). Some x) (sym (e ∙ ap (λ (x : C). cost_after costs x ps) none.0))

-- the cost of lines is a value
pub lines_value : {C : Type 0} (costs : Costs C) (laws : Lawful costs) (w : ℕ) (ps : List Paragraph) (x : List Dir) (s : List ℕ) (a : C) (within : Bool) (k i : ℕ) → AreLines costs w ps x s a within k i → IsValue costs a
lines_value {C = C} costs laws w ps x s a within k i h =
    subst (λ (v : C). IsValue costs v) (sym h.cost_is) (after_is_value costs laws (costs.text 0 0) h.pieces (laws.text_is_value 0 0 (omega arith) (omega arith)) h.counted)

-- no lines
pub no_lines : {C : Type 0} (costs : Costs C) (w : ℕ) → AreLines costs w [] [] [] (costs.text 0 0) true 0 0
unfolding EachLaidOut EachHasWithin chosen_apart layout PiecesAreCounted cost_after marks_of
no_lines costs w = record {
  pieces = [];
  laid = (refl, refl);
  chosen = refl;
  text_is = refl;
  counted = tt;
  cost_is = refl;
  within_is = (λ yes. tt, λ all. refl);
  characters_is = refl;
  weight_is = refl;
  short = omega arith;
  light = omega arith;
}

-- a form and the line ends behind it, where these are put behind it
pub form_lines : {C : Type 0} (costs : Costs C) (laws : Lawful costs) (w : ℕ) (p : Paragraph) (x : List Dir) (s : List ℕ) (a : C) (within : Bool) (i : ℕ) → IsDocument p.doc →
    IsForm costs w p.doc x s a within i → length s + suc p.blanks ≤ LAYOUT_LIMIT → i + suc p.blanks ≤ LAYOUT_LIMIT →
    AreLines costs w (p ∷ []) x (s ++ replicate (suc p.blanks) 10) (cost_after costs a (line_breaks p.blanks)) within (length s + suc p.blanks) (i + suc p.blanks)
unfolding EachLaidOut EachHasWithin chosen_apart
form_lines {C = C} costs laws w p x s a within i d h short light =
    let ends : List Piece = line_breaks p.blanks in
    let first : List Piece = h.whole.pieces in
    let few : length (layout first) ≤ LAYOUT_LIMIT = subst (λ (u : List ℕ). length u ≤ LAYOUT_LIMIT) h.text_is h.short in
    let counted = layout_is_counted h.resolution false h.whole (picks_document p.doc h.resolution x d h.picked) h.rendered few in
    let weighed = leaves_marks h.resolution 0 0 false h.whole h.rendered in
    let marks = marks_of-append first ends in
    let ends_weigh = breaks_weigh (suc p.blanks) in
    let size : length (s ++ replicate (suc p.blanks) 10) ≡ length s + suc p.blanks =
    length-append s (replicate (suc p.blanks) 10) ∙ ap (λ (n : ℕ). length s + n) (length-replicate {A = ℕ} (suc p.blanks) 10) in
    record {
      pieces = first ++ (ends ++ []);
      laid = (x, [], h.whole, [], sym (append-nil x), refl, (h.resolution, h.picked, h.rendered), (refl, refl));
      chosen = h.chosen ∙ sym (append-nil (chosen_of costs w (simple p.doc false)));
      text_is = ap₂ (λ (u v : List ℕ). u ++ v) h.text_is (sym (breaks_layout (suc p.blanks)))
          ∙ sym (layout-append first ends) ∙ ap (λ (u : List Piece). layout (first ++ u)) (sym (append-nil ends));
      counted = subst (λ (u : List Piece). PiecesAreCounted (first ++ u)) (sym (append-nil ends)) (counted-append first ends counted (breaks_counted (suc p.blanks)));
      cost_is = ap (λ (v : C). cost_after costs v ends) (cost_from_none costs laws first a counted h.cost_is)
          ∙ sym (after_append costs (costs.text 0 0) first ends) ∙ ap (λ (u : List Piece). cost_after costs (costs.text 0 0) (first ++ u)) (sym (append-nil ends));
      within_is = (λ yes. (h.within_is.0 yes, tt), λ all. h.within_is.1 all.0);
      characters_is = sym size;
      weight_is = omega (arith, h.weight_is, weighed, marks, ends_weigh) ∙ ap (λ (u : List Piece). marks_of (first ++ u) + length x) (sym (append-nil ends));
      short = short;
      light = light;
    }

-- the same lines
pub lines_same : {C : Type 0} (costs : Costs C) (w : ℕ) (ps : List Paragraph) (x y : List Dir) (s t : List ℕ) (a b : C) (within also : Bool) (k m i j : ℕ) →
    y ≡ x → t ≡ s → b ≡ a → also ≡ within → m ≡ k → j ≡ i → AreLines costs w ps x s a within k i → AreLines costs w ps y t b also m j
lines_same costs w ps x y s t a b within also k m i j e f g q r u h = rw (e, f, g, q, r, u) h

-- the characters of a text behind which another was put
pub chars_pushed : {Y Z : Type 0} (old new : String Y) (other : String Z) (s : List ℕ) → string_bytes new ≡ string_bytes old ++ s → s ≡ string_bytes other →
    chars (string_bytes new) ≡ chars (string_bytes old) ++ chars (string_bytes other)
chars_pushed old new other s e f =
    ap chars e ∙ chars-append (string_bytes old) s (IsUtf8-string_bytes old) ∙ ap (λ (z : List ℕ). chars (string_bytes old) ++ chars z) f
