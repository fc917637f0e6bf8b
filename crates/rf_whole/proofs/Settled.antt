-- A document without a choice has one resolution, which is what is chosen, with no choices.
use Rattle.std.proofs.Common.{◌≡◌, ℕ, ◌≤◌, ◌↔◌, false, Bool, IsTrue, Some, List, [], ◌++◌, refl, sym, ap, ap₂, ◌∙◌, subst, arith}
use Rattle.std.specs.Str.{chars}
use Rattle.std.specs.String.{string_bytes}
use Rattle.rf_base_document.specs.declared.directions.Dir.{Dir}
use Rattle.rf_base_document.specs.Document.{Doc, Concat, Nest, Align, Reset, Flatten, Choice, Only, Charge, IsDocument}
use Rattle.rf_base_document.specs.Render.{Laid, render, EachEndsWithin}
use Rattle.rf_base_document.specs.Picks.{Picks, HasLayout}
use Rattle.rf_base_document.specs.TooLong.{IsTooLong}
use Rattle.rf_base_document.specs.Simple.{simple}
use Rattle.rf_base_document.proofs.Simple.{keeps_layouts}
use Rattle.rf_base_cost.specs.Cost.{Costs, Lawful, IsColumn}
use Rattle.rf_base_optimum.specs.Best.{HasWithin}
use Rattle.rf_base_optimum.specs.Chosen.{choose}
use Rattle.rf_base_optimum.specs.Paragraphs.{chosen_of}
use Rattle.rf_base_optimum.proofs.CoreChoices.{core_document}
use Rattle.rf_rows.specs.Choiceless.{IsChoiceless}
use Rattle.rf_whole.specs.declared.sheets.Written.{Written}
use Rattle.rf_whole.specs.Sheets.{IsWidest}
use Rattle.rf_whole.specs.Written.{IsWritten}
use Rattle.rf_whole.specs.Forms.{IsForm, IsLongForm}
use Rattle.rf_whole.proofs.Formed.{cored}

-- it is its own resolution, for which nothing is chosen
picks_one : (d : Doc) → IsChoiceless d → (choices : List Dir) (e : Doc) → Picks d choices e → (choices ≡ []) × (e ≡ d)
unfolding IsChoiceless Picks
picks_one (Concat a b) is choices e (x, y, p, q, whole, put, first, second) =
    let left = picks_one a is.0 x p first in
    let right = picks_one b is.1 y q second in
    (whole ∙ ap₂ (λ (s t : List Dir). s ++ t) left.0 right.0, put ∙ ap₂ Concat left.1 right.1)
picks_one (Nest n a) is choices e (p, put, h) = let one = picks_one a is choices p h in (one.0, put ∙ ap (Nest n) one.1)
picks_one (Align a) is choices e (p, put, h) = let one = picks_one a is choices p h in (one.0, put ∙ ap Align one.1)
picks_one (Reset a) is choices e (p, put, h) = let one = picks_one a is choices p h in (one.0, put ∙ ap Reset one.1)
picks_one (Flatten a) is choices e (p, put, h) = let one = picks_one a is choices p h in (one.0, put ∙ ap Flatten one.1)
picks_one (Choice a b) is choices e h = absurd is
picks_one (Only dir a) is choices e h = absurd is
picks_one (Charge k a) is choices e (p, put, h) = let one = picks_one a is choices p h in (one.0, put ∙ ap (Charge k) one.1)
picks_one _ is choices e h = h

-- its one layout
pub record Single (d : Doc) : Type 0 where
  pub whole : Laid
  pub picked : Picks d [] d
  pub rendered : render d 0 0 false ≡ Some whole

pub single : (d : Doc) → IsChoiceless d → HasLayout d false → Single d
single d is (choices, whole, laid) =
    let one = picks_one d is choices laid.0 laid.1 in
    record {
      whole = whole;
      picked = subst (λ (l : List Dir). Picks d l d) one.0 (subst (λ (x : Doc). Picks d choices x) one.1 laid.1);
      rendered = subst (λ (x : Doc). render x 0 0 false ≡ Some whole) one.1 laid.2;
    }

chosen_none : {C : Type 0} (costs : Costs C) (w : ℕ) (d : Doc) → Lawful costs → IsColumn w → IsDocument d → IsChoiceless d → Single d → [] ≡ chosen_of costs w (simple d false)
chosen_none costs w d laws p document is one =
    let core = (keeps_layouts d false [] 0 0 one.whole).0 (d, one.picked, one.rendered) in
    let c = cored costs w d core.0 (choose costs w core.0 0 0).choices laws p core.1 (core_document d false core.0 document core.1) refl in
    let none = picks_one d is (choose costs w core.0 0 0).choices c.laid.0 c.laid.1 in
    sym none.0 ∙ c.chosen

one_within : (w : ℕ) (d : Doc) → IsChoiceless d → Picks d [] d → (whole : Laid) → render d 0 0 false ≡ Some whole → EachEndsWithin w whole.pieces ↔ HasWithin w d 0 0 false
one_within w d is picked whole rendered = (λ h. ([], whole, ((d, picked, rendered), (omega arith, h))), back) where
  back : HasWithin w d 0 0 false → EachEndsWithin w whole.pieces
  back (choices, other, laid) =
      let one = picks_one d is choices laid.0.0 laid.0.1 in
      let also : render d 0 0 false ≡ Some other = subst (λ (x : Doc). render x 0 0 false ≡ Some other) one.1 laid.0.2 in
      let same : other ≡ whole = let both = sym also ∙ rendered in cc in
      subst (λ (x : Laid). EachEndsWithin w x.pieces) same laid.1.1

pub settled : {C : Type 0} (costs : Costs C) (w : ℕ) (d : Doc) (written : Written C) (within : Bool) → Lawful costs → IsColumn w → IsDocument d → IsChoiceless d → Single d → IsWritten costs d [] written →
    IsTrue within ↔ (written.widest ≤ w) → IsForm costs w d [] (chars (string_bytes written.text)) written.cost within written.weight
unfolding IsWidest
settled costs w d written within laws p document is one h tells =
    let wide = one_within w d is one.picked h.whole h.rendered in
    record {
      chosen = chosen_none costs w d laws p document is one;
      resolution = d;
      picked = one.picked;
      whole = h.whole;
      rendered = h.rendered;
      text_is = h.text_is;
      cost_is = h.cost_is;
      within_is = (λ yes. wide.0 ((h.widest_is w).0 (tells.0 yes)), λ some. tells.1 ((h.widest_is w).1 (wide.1 some)));
      weight_is = h.weight_is;
      short = h.short;
      light = h.light;
    }

pub settled_long : {C : Type 0} (costs : Costs C) (w : ℕ) (d : Doc) → Lawful costs → IsColumn w → IsDocument d → IsChoiceless d → Single d → IsTooLong d [] → IsLongForm costs w d
settled_long costs w d laws p document is one h =
    subst (λ (l : List Dir). (e : Doc) × Picks d l e × IsTooLong e l) (chosen_none costs w d laws p document is one) (d, one.picked, h)
