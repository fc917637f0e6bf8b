-- A file of lines is laid out as a whole.
use Rattle.std.proofs.Common.{◌≡◌, ℕ, false, List, ◌∷◌, refl, sym, ◌∙◌, ap, subst, inl, inr, arith}
use Rattle.std.specs.Prelude.{◌↔◌}
use Rattle.rf_base_document.specs.declared.directions.Dir.{Dir}
use Rattle.rf_base_document.specs.Document.{Doc}
use Rattle.rf_base_document.specs.Sequence.{seq}
use Rattle.rf_base_document.specs.Render.{Piece, laid}
use Rattle.rf_base_document.specs.Picks.{Picks, LaidOutBy}
use Rattle.rf_base_document.specs.TooLong.{IsTooLong}
use Rattle.rf_base_document.proofs.Marks.{leaves_marks}
use Rattle.rf_base_document.proofs.Running.{layout_pieces}
use Rattle.rf_base_cost.specs.Cost.{IsColumn, Lawful}
use Rattle.rf_base_optimum.specs.Best.{HasWithin, Best}
use Rattle.rf_base_optimum.specs.Paragraphs.{Paragraph, paragraphs_docs, EachLaidOut, EachHasWithin, chosen_apart}
use Rattle.rf_base_optimum.proofs.LaidApart.{laid_apart, within_apart}
use Rattle.rf_base_grammar.specs.Itemised.{Itemised}
use Rattle.rf_base_grammar.specs.Token.{Token}
use Rattle.rf_base_grammar.specs.TrailingSpace.{NoTrailingSpace}
use Rattle.rf_base_style.specs.Table.{StyleView, IsStyle}
use Rattle.rf_base_tree.specs.Trees.{Forest}
use Rattle.rf_base_tree.specs.Formed.{Treed}
use Rattle.rf_base_file.specs.LaidOut.{kept, source_doc, Objective}
use Rattle.rf_base_file.specs.Formatted.{Layout}
use Rattle.rf_base_file.specs.ByForms.{file_paragraphs, by_forms}
use Rattle.rf_base_file.specs.Reading.{ReadsBack}
use Rattle.rf_base_file.proofs.FileParagraphs.{file_is_paragraphs, by_forms_is}
use Rattle.rf_base_file.proofs.FileWeaving.{file_read_back, file_clean}
use Rattle.rf_base_file.proofs.FormByForm.{by_forms_best}
use Rattle.rf_whole.specs.Lines.{AreLines, ArePastLimit}
use Rattle.rf_whole.specs.Whole.{IsWhole, IsWholeLong}
use Rattle.rf_whole.proofs.Together.{cost_to_some}

-- the source's document as paragraphs, of which there is one
file_is : (style : StyleView) (source : List ℕ) (ts : List Token) (trees : Forest) (p : Paragraph) (ps : List Paragraph) → Itemised source ts → Treed ts trees →
    file_paragraphs style (kept style ts) trees ≡ p ∷ ps → source_doc style ts trees ≡ seq (paragraphs_docs (p ∷ ps))
file_is style source ts trees p ps itemised treed e =
    file_is_paragraphs style source ts trees itemised treed ∙ ap (λ (qs : List Paragraph). seq (paragraphs_docs qs)) e

each_laid_out : (style : StyleView) (source : List ℕ) (ts : List Token) (trees : Forest) (p : Paragraph) (ps : List Paragraph) (choices : List Dir) (pieces : List Piece) →
    Itemised source ts → Treed ts trees → file_paragraphs style (kept style ts) trees ≡ p ∷ ps → EachLaidOut (file_paragraphs style (kept style ts) trees) choices pieces →
    LaidOutBy (source_doc style ts trees) choices 0 0 false (laid pieces 0)
each_laid_out style source ts trees p ps choices pieces itemised treed e h =
    subst (λ (d : Doc). LaidOutBy d choices 0 0 false (laid pieces 0)) (sym (file_is style source ts trees p ps itemised treed e))
    ((laid_apart p ps choices (laid pieces 0)).1 (subst (λ (qs : List Paragraph). EachLaidOut qs choices pieces) e h, refl))

each_within : (w : ℕ) (style : StyleView) (source : List ℕ) (ts : List Token) (trees : Forest) (p : Paragraph) (ps : List Paragraph) →
    Itemised source ts → Treed ts trees → file_paragraphs style (kept style ts) trees ≡ p ∷ ps →
    HasWithin w (source_doc style ts trees) 0 0 false ↔ EachHasWithin w (file_paragraphs style (kept style ts) trees)
each_within w style source ts trees p ps itemised treed e =
    subst (λ (qs : List Paragraph). HasWithin w (source_doc style ts trees) 0 0 false ↔ EachHasWithin w qs) (sym e)
    (subst (λ (d : Doc). HasWithin w d 0 0 false ↔ EachHasWithin w (p ∷ ps)) (sym (file_is style source ts trees p ps itemised treed e)) (within_apart w p ps))

pub whole_of_lines : {C : Type 0} (objective : Objective C) (style : StyleView) (source : List ℕ) (ts : List Token) (trees : Forest) (p : Paragraph) (ps : List Paragraph) (given : Layout C) (characters weight : ℕ) →
    IsStyle style → Itemised source ts → Treed ts trees → Lawful objective.costs → IsColumn objective.limit → file_paragraphs style (kept style ts) trees ≡ p ∷ ps →
    AreLines objective.costs objective.limit (file_paragraphs style (kept style ts) trees) given.choices given.text given.cost given.within characters weight →
    IsWhole objective style ts trees given
whole_of_lines objective style source ts trees p ps given characters weight is itemised treed laws column e h =
    let laid_out = each_laid_out style source ts trees p ps given.choices h.pieces itemised treed e h.laid in
    let chosen : given.choices ≡ by_forms objective style (kept style ts) trees = h.chosen ∙ sym (by_forms_is objective style (kept style ts) trees) in
    let leaves = leaves_marks laid_out.0 0 0 false (laid h.pieces 0) laid_out.2 in
    let some = layout_pieces laid_out.0 0 0 false (laid h.pieces 0) laid_out.2 in
    let alike = each_within objective.limit style source ts trees p ps itemised treed e in
    record {
      chosen = chosen;
      resolution = laid_out.0;
      picked = laid_out.1;
      whole = laid h.pieces 0;
      rendered = laid_out.2;
      text_is = h.text_is;
      short = (omega (arith, h.characters_is, h.short), omega (arith, h.weight_is, h.light, leaves));
      best = subst (λ (cs : List Dir). Best objective.costs objective.limit (source_doc style ts trees) 0 0 false cs) (sym chosen)
          (by_forms_best objective style source ts trees is itemised treed laws column);
      cost_is = cost_to_some objective.costs laws h.pieces given.cost (omega (arith, some.0, some.1)) h.counted h.cost_is;
      within_is = (λ yes. alike.1 (h.within_is.0 yes), λ has. h.within_is.1 (alike.0 has));
      reads_back = subst (λ (s : List ℕ). ReadsBack style ts trees s) (sym h.text_is) (file_read_back style source ts trees given.choices (laid h.pieces 0) itemised treed laid_out);
      no_trailing_space = subst (λ (s : List ℕ). NoTrailingSpace s) (sym h.text_is) (file_clean style source ts trees given.choices (laid h.pieces 0) itemised treed laid_out);
    }

pub whole_past : {C : Type 0} (objective : Objective C) (style : StyleView) (source : List ℕ) (ts : List Token) (trees : Forest) (p : Paragraph) (ps : List Paragraph) →
    Itemised source ts → Treed ts trees → file_paragraphs style (kept style ts) trees ≡ p ∷ ps →
    ArePastLimit objective.costs objective.limit (file_paragraphs style (kept style ts) trees) → IsWholeLong objective style ts trees
whole_past objective style source ts trees p ps itemised treed e h =
    let choices : List Dir = chosen_apart objective.costs objective.limit (file_paragraphs style (kept style ts) trees) in
    let laid_out = each_laid_out style source ts trees p ps choices h.0 itemised treed e h.1 in
    let leaves = leaves_marks laid_out.0 0 0 false (laid h.0 0) laid_out.2 in
    let long : IsTooLong laid_out.0 choices = (laid h.0 0, laid_out.2, elim h.2 [ inl far ↦ inl far | inr heavy ↦ inr (omega (arith, heavy, leaves)) ]) in
    subst (λ (cs : List Dir). (r : Doc) × Picks (source_doc style ts trees) cs r × IsTooLong r cs) (sym (by_forms_is objective style (kept style ts) trees))
    (laid_out.0, laid_out.1, long)
