-- A file is its slots in a row, also where it has none.
use Rattle.std.proofs.Common.{◌≡◌, ℕ, Bool, false, List, [], ◌∷◌, length, map, refl, sym, ◌∙◌, ap, subst, inl, inr, Some, arith}
use Rattle.std.specs.List.{AllByRecursion}
use Rattle.std.specs.Prelude.{IsTrue}
use Rattle.rf_base_document.specs.declared.directions.Dir.{Dir}
use Rattle.rf_base_document.specs.Document.{Doc, IsDocument, plain_text}
use Rattle.rf_base_document.specs.Sequence.{seq, seq_within}
use Rattle.rf_base_document.specs.Render.{Piece, Word, Laid, laid, render, layout, EachEndsWithin}
use Rattle.rf_base_document.specs.Picks.{Picks, LaidOutBy, marks_of}
use Rattle.rf_base_document.proofs.Marks.{leaves_marks}
use Rattle.rf_base_cost.specs.Cost.{Costs, IsColumn, Lawful, cost_after, cost_of}
use Rattle.rf_base_optimum.specs.Best.{HasWithin, Best}
use Rattle.rf_base_optimum.specs.Paragraphs.{Paragraph, paragraphs_docs, EachIsDocument, EachLaidOut, EachHasWithin, chosen_apart}
use Rattle.rf_base_grammar.specs.Itemised.{Itemised}
use Rattle.rf_base_grammar.specs.Token.{Token}
use Rattle.rf_base_grammar.specs.TrailingSpace.{NoTrailingSpace}
use Rattle.rf_base_style.specs.Table.{StyleView, IsStyle}
use Rattle.rf_base_tree.specs.Trees.{Tree, Forest}
use Rattle.rf_base_tree.specs.Slots.{Slot}
use Rattle.rf_base_tree.specs.Formed.{Treed}
use Rattle.rf_base_file.specs.FileDocument.{style_doc, top_part}
use Rattle.rf_base_file.specs.LaidOut.{kept, source_doc, Objective}
use Rattle.rf_base_file.specs.Formatted.{Layout}
use Rattle.rf_base_file.specs.ByForms.{parts_paragraphs, top_slots, file_paragraphs, by_forms}
use Rattle.rf_base_file.specs.Reading.{ReadsBack}
use Rattle.rf_base_file.proofs.FileParagraphs.{file_is_paragraphs, by_forms_is}
use Rattle.rf_base_file.proofs.FileWeaving.{file_read_back, file_clean}
use Rattle.rf_base_file.proofs.FormByForm.{by_forms_best}
use Rattle.rf_base_file.proofs.ListSizes.{paragraphs_documents}
use Rattle.rf_tree.specs.Slots.{NodeSlotsStand, NodeSlotsBelow, NodeSlot}
use Rattle.rf_tree.specs.declared.trees.Tree.{Tree as KeptTree}
use Rattle.rf_whole.specs.Lines.{AreLines, ArePastLimit}
use Rattle.rf_whole.specs.Groups.{IsRow, HasTops}
use Rattle.rf_joins.specs.Paragraphs.{slots_paragraphs}
use Rattle.rf_whole.specs.Whole.{IsSettled, IsWhole, IsWholeLong}
use Rattle.rf_whole.proofs.FewPieces.{slots_have_few}
use Rattle.rf_whole.proofs.GroupRows.{top_doc, file_group}
use Rattle.rf_whole.proofs.Assembled.{whole_of_lines, whole_past}

-- the slots of a file are in a row
pub each_document : (style : StyleView) (ts : List Token) (qs : List (Slot Tree)) → EachIsDocument (parts_paragraphs ts (map (top_part style ts) qs)) →
    AllByRecursion (λ s. IsDocument (style_doc style ts s)) qs
unfolding parts_paragraphs EachIsDocument
each_document style ts [] h = tt
each_document style ts (q ∷ qs) h = (subst (λ (d : Doc). IsDocument d) (top_doc style ts q) h.0, each_document style ts qs h.1)

pub tops_row : (style : StyleView) (tree : KeptTree) (slots : List NodeSlot) (ts : List Token) (trees : Forest) → HasTops style tree ts trees →
    NodeSlotsStand ts tree.nodes slots (top_slots ts trees) → NodeSlotsBelow (length tree.nodes) slots → IsRow style tree slots ts trees (top_slots ts trees)
tops_row style tree slots ts trees h stand below = record { tree_of = h.tree_of; stand = stand; below = below; documents = h.documents; few = h.few }

-- the trees of a file can be laid out
pub file_tops : (style : StyleView) (tree : KeptTree) (source : List ℕ) (ts : List Token) (trees : Forest) → IsStyle style → IsSettled style tree source ts trees → HasTops style tree (kept style ts) trees
file_tops style tree source ts trees is h = record {
  tree_of = h.tree_of;
  documents = each_document style (kept style ts) (top_slots (kept style ts) trees) (paragraphs_documents style (kept style ts) trees is.rules);
  few = slots_have_few style tree source ts trees is h;
}

pub file_slots : (style : StyleView) (ts : List Token) (trees : Forest) → file_paragraphs style ts trees ≡ slots_paragraphs style ts 0 (top_slots ts trees)
file_slots style ts trees = file_group ts (map (top_part style ts) (top_slots ts trees))

-- the document of a file of no slot is a text of nothing
no_text : seq (paragraphs_docs []) ≡ plain_text []
unfolding seq seq_within paragraphs_docs
no_text = refl

nothing : Laid
nothing = laid (Word 0 [] 0 ∷ []) 0

nothing_laid : (choices : List Dir) → choices ≡ [] → LaidOutBy (plain_text []) choices 0 0 false nothing
unfolding Picks nothing render
nothing_laid choices e = (plain_text [], (e, refl), refl)

nothing_within : (w : ℕ) → HasWithin w (plain_text []) 0 0 false
unfolding EachEndsWithin nothing
nothing_within w = ([], nothing, (nothing_laid [] refl, (omega arith, (omega arith, tt))))

nothing_text : layout nothing.pieces ≡ []
unfolding layout nothing
nothing_text = refl

nothing_marks : marks_of nothing.pieces ≡ 1
unfolding marks_of nothing
nothing_marks = refl

no_pieces : (pieces : List Piece) → pieces ≡ [] → layout pieces ≡ []
unfolding layout
no_pieces [] e = refl
no_pieces (p ∷ ps) e = cc

no_marks : (pieces : List Piece) → pieces ≡ [] → marks_of pieces ≡ 0
unfolding marks_of
no_marks [] e = refl
no_marks (p ∷ ps) e = cc

no_cost : {C : Type 0} (costs : Costs C) (pieces : List Piece) (a : C) → pieces ≡ [] → a ≡ cost_after costs (costs.text 0 0) pieces → cost_of costs nothing.pieces ≡ Some a
unfolding cost_after nothing
no_cost {C = C} costs [] a e f = ap (λ (v : C). Some v) (sym f)
no_cost costs (p ∷ ps) a e f = cc

record NoLines {C : Type 0} (costs : Costs C) (choices : List Dir) (text : List ℕ) (cost : C) (within : Bool) : Type 0 where
  choices_are : choices ≡ []
  text_is : text ≡ []
  cost_is : cost_of costs nothing.pieces ≡ Some cost
  within_is : IsTrue within

no_lines_are : {C : Type 0} (costs : Costs C) (w : ℕ) (choices : List Dir) (text : List ℕ) (cost : C) (within : Bool) (characters weight : ℕ) →
    AreLines costs w [] choices text cost within characters weight → NoLines costs choices text cost within
unfolding EachLaidOut EachHasWithin
no_lines_are costs w choices text cost within characters weight h = record {
  choices_are = h.laid.0;
  text_is = h.text_is ∙ no_pieces h.pieces h.laid.1;
  cost_is = no_cost costs h.pieces cost h.laid.1 h.cost_is;
  within_is = h.within_is.1 tt;
}

whole_of_none : {C : Type 0} (objective : Objective C) (style : StyleView) (source : List ℕ) (ts : List Token) (trees : Forest) (given : Layout C) (characters weight : ℕ) →
    IsStyle style → Itemised source ts → Treed ts trees → Lawful objective.costs → IsColumn objective.limit → file_paragraphs style (kept style ts) trees ≡ [] →
    AreLines objective.costs objective.limit (file_paragraphs style (kept style ts) trees) given.choices given.text given.cost given.within characters weight →
    IsWhole objective style ts trees given
whole_of_none {C = C} objective style source ts trees given characters weight is itemised treed laws column e h =
    let none : NoLines objective.costs given.choices given.text given.cost given.within =
    no_lines_are objective.costs objective.limit given.choices given.text given.cost given.within characters weight
    (subst (λ (ps : List Paragraph). AreLines objective.costs objective.limit ps given.choices given.text given.cost given.within characters weight) e h) in
    let doc : source_doc style ts trees ≡ plain_text [] =
    file_is_paragraphs style source ts trees itemised treed ∙ ap (λ (ps : List Paragraph). seq (paragraphs_docs ps)) e ∙ no_text in
    let laid_out : LaidOutBy (source_doc style ts trees) given.choices 0 0 false nothing =
    subst (λ (d : Doc). LaidOutBy d given.choices 0 0 false nothing) (sym doc) (nothing_laid given.choices none.choices_are) in
    let chosen : given.choices ≡ by_forms objective style (kept style ts) trees = h.chosen ∙ sym (by_forms_is objective style (kept style ts) trees) in
    let leaves = leaves_marks laid_out.0 0 0 false nothing laid_out.2 in
    let marks = nothing_marks in
    let count : length given.choices ≡ 0 = ap (λ (cs : List Dir). length cs) none.choices_are in
    let text : given.text ≡ layout nothing.pieces = none.text_is ∙ sym nothing_text in
    record {
      chosen = chosen;
      resolution = laid_out.0;
      picked = laid_out.1;
      whole = nothing;
      rendered = laid_out.2;
      text_is = text;
      short = (omega (arith, h.characters_is, h.short), omega (arith, leaves, marks, count));
      best = subst (λ (cs : List Dir). Best objective.costs objective.limit (source_doc style ts trees) 0 0 false cs) (sym chosen)
          (by_forms_best objective style source ts trees is itemised treed laws column);
      cost_is = none.cost_is;
      within_is = (λ yes. subst (λ (d : Doc). HasWithin objective.limit d 0 0 false) (sym doc) (nothing_within objective.limit), λ has. none.within_is);
      reads_back = subst (λ (s : List ℕ). ReadsBack style ts trees s) (sym text) (file_read_back style source ts trees given.choices nothing itemised treed laid_out);
      no_trailing_space = subst (λ (s : List ℕ). NoTrailingSpace s) (sym text) (file_clean style source ts trees given.choices nothing itemised treed laid_out);
    }

-- a file of lines
whole_by : {C : Type 0} (objective : Objective C) (style : StyleView) (source : List ℕ) (ts : List Token) (trees : Forest) (given : Layout C) (characters weight : ℕ) (ps : List Paragraph) →
    IsStyle style → Itemised source ts → Treed ts trees → Lawful objective.costs → IsColumn objective.limit → file_paragraphs style (kept style ts) trees ≡ ps →
    AreLines objective.costs objective.limit (file_paragraphs style (kept style ts) trees) given.choices given.text given.cost given.within characters weight →
    IsWhole objective style ts trees given
whole_by objective style source ts trees given characters weight [] is itemised treed laws column e h =
    whole_of_none objective style source ts trees given characters weight is itemised treed laws column e h
whole_by objective style source ts trees given characters weight (p ∷ ps) is itemised treed laws column e h =
    whole_of_lines objective style source ts trees p ps given characters weight is itemised treed laws column e h

pub whole_of : {C : Type 0} (objective : Objective C) (style : StyleView) (source : List ℕ) (ts : List Token) (trees : Forest) (given : Layout C) (characters weight : ℕ) →
    IsStyle style → Itemised source ts → Treed ts trees → Lawful objective.costs → IsColumn objective.limit →
    AreLines objective.costs objective.limit (slots_paragraphs style (kept style ts) 0 (top_slots (kept style ts) trees)) given.choices given.text given.cost given.within characters weight →
    IsWhole objective style ts trees given
whole_of objective style source ts trees given characters weight is itemised treed laws column h =
    whole_by objective style source ts trees given characters weight (file_paragraphs style (kept style ts) trees) is itemised treed laws column refl
    (subst (λ (ps : List Paragraph). AreLines objective.costs objective.limit ps given.choices given.text given.cost given.within characters weight) (sym (file_slots style (kept style ts) trees)) h)

-- a file that is past the limit
none_past : {C : Type 0} (costs : Costs C) (w : ℕ) → ArePastLimit costs w [] → ⊥
unfolding EachLaidOut chosen_apart
none_past costs w h =
    let size : length (layout h.0) ≡ 0 = ap (λ (s : List ℕ). length s) (no_pieces h.0 h.1.1) in
    let marks = no_marks h.0 h.1.1 in
    elim h.2 [ inl long ↦ omega (arith, long, size) | inr heavy ↦ omega (arith, heavy, marks) ]

past_by : {C : Type 0} (objective : Objective C) (style : StyleView) (source : List ℕ) (ts : List Token) (trees : Forest) (ps : List Paragraph) →
    Itemised source ts → Treed ts trees → file_paragraphs style (kept style ts) trees ≡ ps →
    ArePastLimit objective.costs objective.limit (file_paragraphs style (kept style ts) trees) → IsWholeLong objective style ts trees
past_by objective style source ts trees [] itemised treed e h =
    absurd (none_past objective.costs objective.limit (subst (λ (ps : List Paragraph). ArePastLimit objective.costs objective.limit ps) e h))
past_by objective style source ts trees (p ∷ ps) itemised treed e h = whole_past objective style source ts trees p ps itemised treed e h

pub past_of : {C : Type 0} (objective : Objective C) (style : StyleView) (source : List ℕ) (ts : List Token) (trees : Forest) → Itemised source ts → Treed ts trees →
    ArePastLimit objective.costs objective.limit (slots_paragraphs style (kept style ts) 0 (top_slots (kept style ts) trees)) → IsWholeLong objective style ts trees
past_of objective style source ts trees itemised treed h =
    past_by objective style source ts trees (file_paragraphs style (kept style ts) trees) itemised treed refl
    (subst (λ (ps : List Paragraph). ArePastLimit objective.costs objective.limit ps) (sym (file_slots style (kept style ts) trees)) h)
