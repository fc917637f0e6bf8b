-- What is chosen of a document's core, and what that is laid out as.
use Rattle.std.proofs.Common.{◌≡◌, ℕ, ◌+◌, ◌≤◌, true, false, None, Some, Option, List, length, refl, sym, ap, ◌∙◌, subst, arith}
use Rattle.std.specs.Prelude.{◌↔◌, Bool, IsTrue, Result, Ok, Err, OnOk}
use Rattle.std.specs.Str.{chars}
use Rattle.std.specs.String.{string_bytes}
use Rattle.rf_base_document.specs.declared.directions.Dir.{Dir}
use Rattle.rf_base_document.specs.declared.limits.TheConstants.{LAYOUT_LIMIT}
use Rattle.rf_base_document.specs.Document.{Doc, IsDocument}
use Rattle.rf_base_document.specs.Render.{Laid, render, layout}
use Rattle.rf_base_document.specs.Picks.{Picks, LaidOutBy, weight_of, HasLayout}
use Rattle.rf_base_document.specs.TooLong.{IsTooLong}
use Rattle.rf_base_document.specs.Simple.{simple}
use Rattle.rf_base_document.specs.Graph.{StandsFor}
use Rattle.rf_base_document.proofs.Simple.{keeps_layouts, is_core}
use Rattle.rf_base_document.proofs.Marks.{leaves_marks}
use Rattle.rf_base_cost.specs.Cost.{Costs, Lawful, IsColumn, cost_of}
use Rattle.rf_base_optimum.specs.Best.{HasWithin}
use Rattle.rf_base_optimum.specs.Chosen.{choose}
use Rattle.rf_base_optimum.specs.Paragraphs.{chosen_of}
use Rattle.rf_base_optimum.proofs.Optimum.{chosen_laid}
use Rattle.rf_base_lines.specs.Spelled.{Spelled}
use Rattle.rf_base_lines.specs.Laws.{IsChosenLine}
use Rattle.rf_flat.specs.Cores.{CoreGraph}
use Rattle.rf_flat.specs.Simplified.{StandsForCore, HasNoLayout}
use Rattle.rf_search.specs.Best.{IsBest}
use Rattle.rf_whole.specs.declared.sheets.Written.{Written}
use Rattle.rf_whole.specs.Written.{IsWritten}
use Rattle.rf_whole.specs.Forms.{IsForm, IsLongForm}

-- a width of at most 400 columns is a column
pub width_is_column : (w : ℕ) → w ≤ 400 → IsColumn w
width_is_column w p = omega arith

-- a document that has a layout isn't one that has none
pub no_layout_apart : (d : Doc) → HasLayout d false → HasNoLayout d → ⊥
no_layout_apart d h none = let gone = sym h.2.2 ∙ none h.0 h.2.0 0 0 h.2.1 in cc

-- the core that stands for what is left of a document
pub record Found (d : Doc) (core : CoreGraph) : Type 0 where
  pub s : Doc
  pub is : simple d false ≡ Some s
  pub stands : StandsFor core.nodes core.root s

found_of : (d : Doc) (core : CoreGraph) (left : Option Doc) → simple d false ≡ left → StandsForCore (Some core) left → Found d core
found_of d core None is h = absurd h
found_of d core (Some s) is h = record { s = s; is = is; stands = h }

pub found : (d : Doc) (core : CoreGraph) → StandsForCore (Some core) (simple d false) → Found d core
found d core h = found_of d core (simple d false) refl h

-- a document has a resolution within the columns exactly where its core has
same_core : (d s t : Doc) (choices : List Dir) (whole : Laid) → simple d false ≡ Some s → simple d false ≡ Some t → LaidOutBy t choices 0 0 false whole → LaidOutBy s choices 0 0 false whole
same_core d s t choices whole is also h =
    let same : t ≡ s = let both = sym also ∙ is in cc in
    subst (λ (c : Doc). LaidOutBy c choices 0 0 false whole) same h

core_within : (w : ℕ) (d s : Doc) → simple d false ≡ Some s → HasWithin w s 0 0 false ↔ HasWithin w d 0 0 false
core_within w d s is = (
  λ h. (h.0, h.1, ((keeps_layouts d false h.0 0 0 h.1).1 (s, is, h.2.0), h.2.1)),
  λ h.
      let kept = (keeps_layouts d false h.0 0 0 h.1).0 h.2.0 in
      (h.0, h.1, (same_core d s kept.0 h.0 h.1 is kept.1 kept.2, h.2.1)),
)

-- the choices are those of the core s of the document d, and pick one layout of both
pub record Cored {C : Type 0} (costs : Costs C) (w : ℕ) (d s : Doc) (choices : List Dir) : Type 0 where
  pub is : simple d false ≡ Some s
  pub chosen : choices ≡ chosen_of costs w (simple d false)
  pub whole : Laid
  pub laid : LaidOutBy d choices 0 0 false whole
  pub core_laid : LaidOutBy s choices 0 0 false whole

pub cored : {C : Type 0} (costs : Costs C) (w : ℕ) (d s : Doc) (choices : List Dir) → Lawful costs → IsColumn w → simple d false ≡ Some s →
    IsDocument s → choices ≡ (choose costs w s 0 0).choices → Cored costs w d s choices
cored costs w d s choices laws p is document chosen =
    let laid = chosen_laid costs laws w s 0 0 p document (is_core d false s is) in
    let core_laid : LaidOutBy s choices 0 0 false laid.0 = subst (λ (l : List Dir). LaidOutBy s l 0 0 false laid.0) (sym chosen) laid.1 in
    record {
      is = is;
      chosen = chosen ∙ ap (λ (o : Option Doc). chosen_of costs w o) (sym is);
      whole = laid.0;
      laid = (keeps_layouts d false choices 0 0 laid.0).1 (s, is, core_laid);
      core_laid = core_laid;
    }

-- the layouts of both weigh the same
weight_same : {C : Type 0} (costs : Costs C) (w : ℕ) (d s : Doc) (choices : List Dir) (c : Cored costs w d s choices) → weight_of c.core_laid.0 choices ≡ weight_of c.laid.0 choices
weight_same costs w d s choices c =
    ap (λ (n : ℕ). n + length choices)
    (leaves_marks c.core_laid.0 0 0 false c.whole c.core_laid.2 ∙ sym (leaves_marks c.laid.0 0 0 false c.whole c.laid.2))

-- a layout of the core's resolution is the document's
one_layout : {C : Type 0} (costs : Costs C) (w : ℕ) (d s : Doc) (choices : List Dir) (c : Cored costs w d s choices) (whole : Laid) → render c.core_laid.0 0 0 false ≡ Some whole → whole ≡ c.whole
one_layout costs w d s choices c whole is = let both = sym is ∙ c.core_laid.2 in cc

pub formed : {C : Type 0} (costs : Costs C) (w : ℕ) (d s : Doc) (choices : List Dir) (within : Bool) (c : Cored costs w d s choices) (written : Written C) → IsWritten costs c.core_laid.0 choices written →
    (IsTrue within ↔ HasWithin w s 0 0 false) → IsForm costs w d choices (chars (string_bytes written.text)) written.cost within written.weight
formed costs w d s choices within c written h is_within =
    let alike = core_within w d s c.is in
    let one = one_layout costs w d s choices c h.whole h.rendered in
    record {
      chosen = c.chosen;
      resolution = c.laid.0;
      picked = c.laid.1;
      whole = c.whole;
      rendered = c.laid.2;
      text_is = h.text_is ∙ ap (λ (l : Laid). layout l.pieces) one;
      cost_is = ap (λ (l : Laid). cost_of costs l.pieces) (sym one) ∙ h.cost_is;
      within_is = (λ yes. alike.0 (is_within.0 yes), λ some. is_within.1 (alike.1 some));
      weight_is = h.weight_is ∙ weight_same costs w d s choices c;
      short = h.short;
      light = h.light;
    }

pub formed_long : {C : Type 0} (costs : Costs C) (w : ℕ) (d s : Doc) (choices : List Dir) (c : Cored costs w d s choices) → IsTooLong c.core_laid.0 choices → IsLongForm costs w d
formed_long costs w d s choices c h =
    let one = one_layout costs w d s choices c h.0 h.1 in
    let long : IsTooLong c.laid.0 choices = (h.0, c.laid.2 ∙ ap Some (sym one), rw (weight_same costs w d s choices c) at h.2) in
    subst (λ (l : List Dir). (e : Doc) × Picks d l e × IsTooLong e l) c.chosen (c.laid.0, c.laid.1, long)

-- the choices of a best layout are those that are chosen of the core, which is there, since they lay the document out
best_chosen : {C : Type 0} (costs : Costs C) (w : ℕ) (d : Doc) (choices : List Dir) (within : Bool) → IsBest costs w d choices within → choices ≡ chosen_of costs w (simple d false)
best_chosen costs w d choices within best =
    let core = (keeps_layouts d false choices 0 0 best.laid.0).0 best.laid.1 in
    best.chosen core.0 core.1 ∙ ap (λ (o : Option Doc). chosen_of costs w o) (sym core.1)

pub best_formed : {C : Type 0} (costs : Costs C) (w : ℕ) (d : Doc) (choices : List Dir) (within : Bool) (best : IsBest costs w d choices within) (written : Written C) →
    IsWritten costs best.laid.1.0 choices written → IsForm costs w d choices (chars (string_bytes written.text)) written.cost within written.weight
best_formed costs w d choices within best written h = record {
  chosen = best_chosen costs w d choices within best;
  resolution = best.laid.1.0;
  picked = best.laid.1.1;
  whole = h.whole;
  rendered = h.rendered;
  text_is = h.text_is;
  cost_is = h.cost_is;
  within_is = best.within_is;
  weight_is = h.weight_is;
  short = h.short;
  light = h.light;
}

pub best_long : {C : Type 0} (costs : Costs C) (w : ℕ) (d : Doc) (choices : List Dir) (within : Bool) (best : IsBest costs w d choices within) → IsTooLong best.laid.1.0 choices → IsLongForm costs w d
best_long costs w d choices within best h =
    subst (λ (l : List Dir). (e : Doc) × Picks d l e × IsTooLong e l) (best_chosen costs w d choices within best) (best.laid.1.0, best.laid.1.1, h)

-- what is chosen on one line is the form, whose choices, text, cost and weight are the line's
pub line_formed : {C : Type 0} (costs : Costs C) (w : ℕ) (d : Doc) (l : Spelled) (choices : List Dir) (text : List ℕ) (cost : C) (weight : ℕ) → choices ≡ l.how → text ≡ l.text → cost ≡ costs.text 0 0 →
    weight ≡ l.words + length l.how → length text ≤ LAYOUT_LIMIT → weight ≤ LAYOUT_LIMIT → IsChosenLine costs w d l → IsForm costs w d choices text cost true weight
line_formed {C = C} costs w d l choices text cost weight how is costs_nothing weighs short light h = record {
  chosen = how ∙ h.chosen;
  resolution = h.resolution;
  picked = subst (λ (x : List Dir). Picks d x h.resolution) (sym how) h.picked;
  whole = h.whole;
  rendered = h.rendered;
  text_is = is ∙ h.text_is;
  cost_is = h.cost_is ∙ ap (λ (x : C). Some x) (sym costs_nothing);
  within_is = (λ yes. h.within, λ some. refl);
  weight_is = weighs ∙ h.weight_is ∙ ap (λ (x : List Dir). weight_of h.resolution x) (sym how);
  short = short;
  light = light;
}

-- what holds anyway
pub on_ok_always : {A E : Type 0} (r : Result A E) (P : Type 0) → P → OnOk r P
on_ok_always (Ok x) P p = p
on_ok_always (Err e) P p = tt
