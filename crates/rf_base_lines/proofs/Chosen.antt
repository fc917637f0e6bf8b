-- A document's line that costs nothing and is within the columns is what is chosen of it.
use Rattle.std.proofs.Common.{◌≡◌, ℕ, ◌+◌, ◌≤◌, false, List, [], length, sym, ◌∙◌, ap, subst, Some, arith}
use Rattle.std.specs.Option.{option_map}
use Rattle.rf_base_document.specs.declared.directions.Dir.{Dir}
use Rattle.rf_base_document.specs.Document.{Doc, IsDocument}
use Rattle.rf_base_document.specs.Render.{Laid, laid}
use Rattle.rf_base_document.proofs.Marks.{leaves_marks}
use Rattle.rf_base_cost.specs.declared.measures.Measure.{Measure}
use Rattle.rf_base_cost.specs.Cost.{Costs, IsColumn, Lawful, cost_of}
use Rattle.rf_base_optimum.specs.Plain.{leaf_measure}
use Rattle.rf_base_optimum.specs.Chosen.{Chosen}
use Rattle.rf_base_optimum.specs.Paragraphs.{chosen_of}
use Rattle.rf_base_cut.specs.OneLine.{measured, NothingIsLeast}
use Rattle.rf_base_cut.specs.Indifferent.{IsFree}
use Rattle.rf_base_cut.specs.DocumentLines.{Line, line, one_line, IsLong}
use Rattle.rf_base_cut.proofs.DocumentLines.{line_of_core, after_line}
use Rattle.rf_base_cut.proofs.Roots.{first_in_chosen}
use Rattle.rf_base_lines.specs.Spelled.{Spelled, spelled_line}
use Rattle.rf_base_lines.specs.Laws.{IsChosenLine}
use Rattle.rf_base_lines.proofs.Spelling.{spelled_one_line, spelled_laid_out}
use Rattle.rf_base_optimum.proofs.Dearer.{laid_one}

pub line_chosen : {C : Type 0} (costs : Costs C) (laws : Lawful costs) (least : NothingIsLeast costs) (w free len : ℕ) (d : Doc) (l : Spelled) →
    IsFree costs free → IsColumn w → IsDocument d → IsLong d false len → spelled_line d false ≡ Some l → l.len ≤ free → l.len ≤ w → IsChosenLine costs w d l
line_chosen {C = C} costs laws least w free len d l f p q h e ef ew =
    let first : Line = line l.len l.how in
    let lined : one_line d false ≡ Some first = sym (spelled_one_line d false) ∙ ap (option_map (λ (x : Spelled). line x.len x.how)) e in
    let core = line_of_core d false len first h lined in
    let nothing : Measure C (List Dir) = leaf_measure 0 (costs.text 0 0) in
    let column : IsColumn 0 = omega arith in
    let behind = after_line costs laws least w free d false nothing 0 (l.len) len first p q f (laws.text_is_value 0 0 column column) h lined (omega arith) (omega arith) (omega arith) in
    let best = first_in_chosen costs laws w d core.1.0 false 0 0 l.len (measured (0 + l.len) (costs.text 0 0) l.how) [] p column q core.1.1 behind in
    let laid_out = spelled_laid_out d false l 0 0 e in
    let resolution = laid_out.1.0 in
    let whole : Laid = laid laid_out.0 (0 + l.len) in
    let same : best.1.0 ≡ whole = laid_one d l.how 0 0 false best.1.0 whole best.1.1.0 laid_out.1 in
    record {
      chosen = sym (ap (chosen_of costs w) core.1.1 ∙ ap (λ (c : Chosen). c.choices) best.0);
      resolution = resolution;
      picked = laid_out.1.1;
      whole = whole;
      rendered = laid_out.1.2;
      text_is = sym laid_out.3;
      cost_is = subst (λ (z : Laid). cost_of costs z.pieces ≡ Some (costs.text 0 0)) same best.1.3;
      within = (l.how, best.1.0, best.1.1);
      weight_is = ap (λ (n : ℕ). n + length l.how) (sym laid_out.5 ∙ sym (leaves_marks resolution 0 0 false whole laid_out.1.2));
    }
