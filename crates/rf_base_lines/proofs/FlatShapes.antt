-- Lists that may stand on one line and without charges have no hard newline and no charge.
use Rattle.std.proofs.Common.{◌≡◌, ℕ, Bool, true, false, List, [], ◌∷◌, length, sym, ◌∙◌, ap, subst, Some, arith}
use Rattle.rf_base_document.specs.Document.{Doc}
use Rattle.rf_base_cut.specs.DocumentLines.{IsFlattenable}
use Rattle.rf_base_grammar.specs.Token.{Token}
use Rattle.rf_base_style.specs.declared.columns.Columns.TheVariants.{Characters}
use Rattle.rf_base_tree.specs.declared.separators.Want.TheVariants as want
use Rattle.rf_base_file.specs.declared.shapes.Shape.{Shape}
use Rattle.rf_base_file.specs.declared.shapes.Shape.TheVariants.{Body}
use Rattle.rf_base_file.specs.declared.shapes.Way.{Way}
use Rattle.rf_base_file.specs.Rows.{Part, mark_doc, gap_docs, Step, step, steps_docs, steps_last, steps_wanting, inner_docs}
use Rattle.rf_base_file.specs.Shapes.{charged}
use Rattle.rf_base_file.specs.FileDocument.{list_doc}
use Rattle.rf_base_lines.specs.Spelled.{Spelled, spelled_line, spelled_all}
use Rattle.rf_base_lines.specs.Lists.{between_docs, IsUncharged, Turns, may_be_one_line, turns_of}
use Rattle.rf_base_lines.specs.Flattenable.{PartsAreFlattenable}
use Rattle.rf_base_lines.proofs.Spelling.{both_some}
use Rattle.rf_base_lines.proofs.SpelledRows.{IsSoft}
use Rattle.rf_base_lines.proofs.SpelledSteps.{inner_first}
use Rattle.rf_base_lines.proofs.SpelledShapes.{turns_are}
use Rattle.rf_base_lines.proofs.KeptShapes.{Keeps, Open, ShapeWants, WayWants, OpenBetween, list_kept}
use Rattle.rf_base_lines.proofs.FlatRows.{item_flat, gap_flat, gap_open, row_parts}

-- without charges, and where a space or a line is wanted
abbrev IsNone : ℕ → Type 0
IsNone k = k ≡ 0

none_charged : (k : ℕ) (d : Doc) → IsNone k → IsFlattenable d → IsFlattenable (charged k d)
none_charged k d e h = subst (λ (n : ℕ). IsFlattenable (charged n d)) (sym e) h

flat_keeps : Keeps IsFlattenable IsSoft IsNone
unfolding IsFlattenable
flat_keeps = record {
  nothing = tt;
  concat = λ a b h k. (h, k);
  nest = λ a h. h;
  align = λ a h. h;
  flatten = λ a h. h;
  choice = λ a b h k. (h, k);
  charge = none_charged;
  space = tt;
  line = tt;
}

-- parts on one line
open_of : (ts : List Token) (before : ℕ) (parts : List Part) (closer : ℕ) (flat : Bool) (l : Spelled) → PartsAreFlattenable parts →
    spelled_all (inner_docs ts before (steps_wanting want.Space parts) closer) flat ≡ Some l → Open IsFlattenable IsSoft ts before parts closer
unfolding Open steps_docs steps_last spelled_all
open_of ts before [] closer flat l h e = gap_flat ts before closer want.Nothing flat l e
open_of ts before (p ∷ parts) closer flat l h e =
    let gap : List Doc = gap_docs ts before p.first want.Space in
    let steps : List Step = steps_wanting want.Space parts in
    let rest : List Doc = inner_docs ts p.last steps closer in
    let both = row_parts gap (p.doc ∷ rest) flat l (ap (λ (ds : List Doc). spelled_all ds flat) (sym (inner_first ts before (step want.Space p) steps closer)) ∙ e) in
    let behind = both_some (spelled_line p.doc flat) (spelled_all rest flat) both.1 both.3 in (
      λ w soft. gap_open ts before p.first want.Space w soft (gap_flat ts before p.first want.Space flat both.0 both.2),
      h.0,
      open_of ts p.last parts closer flat behind.1 h.1 behind.3,
    )

between_of : (ts : List Token) (opener : ℕ) (parts : List Part) (closer : ℕ) (flat : Bool) (l : Spelled) → PartsAreFlattenable parts →
    spelled_all (between_docs ts opener parts closer) flat ≡ Some l → OpenBetween IsFlattenable IsSoft ts opener parts closer
unfolding spelled_all
between_of ts opener [] closer flat l h e = tt
between_of ts opener (p ∷ parts) closer flat l h e =
    let gap : List Doc = gap_docs ts opener p.first want.Nothing in
    let steps : List Step = steps_wanting want.Space parts in
    let rest : List Doc = inner_docs ts p.last steps closer in
    let both = row_parts gap (p.doc ∷ rest) flat l (ap (λ (ds : List Doc). spelled_all ds flat) (sym (inner_first ts opener (step want.Nothing p) steps closer)) ∙ e) in
    let behind = both_some (spelled_line p.doc flat) (spelled_all rest flat) both.1 both.3 in
    (gap_flat ts opener p.first want.Nothing flat both.0 both.2, h.0, open_of ts p.last parts closer flat behind.1 h.1 behind.3)

-- a list that may stand on one line wants no break that has to be, where it has two slots or more
shape_soft : (shape : Shape) → may_be_one_line shape ≡ true → ShapeWants IsSoft shape
shape_soft (Body headers false) m = cc
shape_soft _ m = tt

way_soft : (shape : Shape) (parts : List Part) (flat breaks : Bool) (t : Turns) → turns_of shape (length parts) flat breaks ≡ Some t → WayWants IsSoft shape parts
way_soft shape [] flat breaks t e = tt
way_soft shape (p ∷ []) flat breaks t e = tt
way_soft shape (p ∷ next ∷ parts) flat breaks t e = shape_soft shape (turns_are shape (length (p ∷ next ∷ parts)) flat breaks t (omega arith) e).0

pub list_flat : (ts : List Token) (w : Way) (opener : ℕ) (parts : List Part) (closer : ℕ) (flat breaks : Bool) (t : Turns) (a l b : Spelled) →
    IsUncharged w.charges → turns_of w.shape (length parts) flat breaks ≡ Some t → PartsAreFlattenable parts →
    spelled_line (mark_doc ts opener) flat ≡ Some a → spelled_all (between_docs ts opener parts closer) t.flat ≡ Some l → spelled_line (mark_doc ts closer) flat ≡ Some b →
    IsFlattenable (list_doc ts w opener parts closer)
list_flat ts w opener parts closer flat breaks t a l b free e h begins inside ends =
    list_kept flat_keeps ts w opener parts closer (way_soft w.shape parts flat breaks t e) free (item_flat Characters ts opener flat a begins)
    (between_of ts opener parts closer t.flat l h inside) (item_flat Characters ts closer flat b ends)
