-- What is chosen of a file form by form is best for it, and chosen of it where addition reflects the order of costs.
use Rattle.std.proofs.Common.{◌≡◌, ℕ, ◌^◌, ◌≤◌, length, arith, false, List, [], ◌∷◌, map, sym, ◌∙◌, ap, subst, Some}
use Rattle.rf_base_document.specs.declared.directions.Dir.{Dir}
use Rattle.rf_base_document.specs.Document.{Doc}
use Rattle.rf_base_document.specs.Simple.{simple}
use Rattle.rf_base_cost.specs.Cost.{Costs, IsColumn, Lawful}
use Rattle.rf_base_cost.specs.Reflecting.{ReflectsOrderUpTo}
use Rattle.rf_base_optimum.specs.Best.{Best}
use Rattle.rf_base_optimum.specs.Chosen.{choose}
use Rattle.rf_base_optimum.specs.MostPieces.{most_pieces}
use Rattle.rf_base_optimum.specs.Paragraphs.{Paragraph, EachHasCore, chosen_apart}
use Rattle.rf_base_optimum.proofs.Apart.{chosen_apart_best}
use Rattle.rf_base_optimum.proofs.ChosenApart.{chosen_as_apart}
use Rattle.rf_base_grammar.specs.Itemised.{Itemised}
use Rattle.rf_base_grammar.specs.Token.{Token}
use Rattle.rf_base_style.specs.Table.{StyleView, IsStyle}
use Rattle.rf_base_tree.specs.Trees.{Forest}
use Rattle.rf_base_tree.specs.Formed.{Treed}
use Rattle.rf_base_file.specs.Rows.{Part}
use Rattle.rf_base_file.specs.FileDocument.{top_part}
use Rattle.rf_base_file.specs.LaidOut.{kept, source_doc, Objective}
use Rattle.rf_base_file.specs.ByForms.{parts_paragraphs, top_slots, file_paragraphs, by_forms}
use Rattle.rf_base_file.proofs.Layouts.{PartsHave, file_parts_have}
use Rattle.rf_base_file.proofs.FileParagraphs.{file_is_paragraphs, by_forms_is}
use Rattle.rf_base_file.proofs.ListSizes.{paragraphs_documents}
use Rattle.rf_base_file.proofs.FewPieces.{few_pieces}

each_has : (ts : List Token) (parts : List Part) → PartsHave parts → EachHasCore (parts_paragraphs ts parts)
unfolding parts_paragraphs EachHasCore
each_has ts [] h = tt
each_has ts (p ∷ parts) h = (h.0, each_has ts parts h.1)

pub paragraphs_have_cores : (style : StyleView) (ts : List Token) (trees : Forest) →
    EachHasCore (file_paragraphs style ts trees)
paragraphs_have_cores style ts trees =
    each_has ts (map (top_part style ts) (top_slots ts trees)) (file_parts_have style ts trees)

pub by_forms_best : {C : Type 0} (objective : Objective C) (style : StyleView) (source : List ℕ) (ts : List Token)
    (trees : Forest) →
    IsStyle style → Itemised source ts → Treed ts trees → Lawful objective.costs → IsColumn objective.limit →
    Best objective.costs objective.limit (source_doc style ts trees) 0 0 false
    (by_forms objective style (kept style ts) trees)
by_forms_best objective style source ts trees is itemised treed laws p =
    let ps : List Paragraph = file_paragraphs style (kept style ts) trees in
    let chosen : List Dir = chosen_apart objective.costs objective.limit ps in
    subst (λ (cs : List Dir). Best objective.costs objective.limit (source_doc style ts trees) 0 0 false cs)
    (sym (by_forms_is objective style (kept style ts) trees))
    (subst (λ (d : Doc). Best objective.costs objective.limit d 0 0 false chosen)
    (sym (file_is_paragraphs style source ts trees itemised treed))
    (chosen_apart_best objective.costs objective.limit ps laws p
    (paragraphs_documents style (kept style ts) trees is.rules) (paragraphs_have_cores style (kept style ts) trees)))

-- costs of fewer pieces
fewer_reflect : {C : Type 0} (costs : Costs C) (n m : ℕ) → n ≤ m → ReflectsOrderUpTo costs m → ReflectsOrderUpTo costs n
fewer_reflect costs n m p reflects pieces others more a b c q r t short shorter =
    reflects pieces others more a b c q r t (omega (arith, p, short)) (omega (arith, p, shorter))

pub chosen_by_forms : {C : Type 0} (objective : Objective C) (style : StyleView) (source : List ℕ) (ts : List Token)
    (trees : Forest) (core : Doc) →
    IsStyle style → Itemised source ts → length source ≤ 4194304 → Treed ts trees → Lawful objective.costs →
    IsColumn objective.limit →
    ReflectsOrderUpTo objective.costs (2 ^ 27) → simple (source_doc style ts trees) false ≡ Some core →
    (choose objective.costs objective.limit core 0 0).choices ≡ by_forms objective style (kept style ts) trees
chosen_by_forms objective style source ts trees core style_is itemised short treed laws p reflects e =
    let ps : List Paragraph = file_paragraphs style (kept style ts) trees in
    let is = file_is_paragraphs style source ts trees itemised treed in
    let few = (few_pieces style source ts trees style_is itemised short treed).1 in
    chosen_as_apart objective.costs objective.limit ps core laws p
    (paragraphs_documents style (kept style ts) trees style_is.rules)
    (subst (λ (d : Doc). ReflectsOrderUpTo objective.costs (most_pieces d)) is
    (fewer_reflect objective.costs (most_pieces (source_doc style ts trees)) (2 ^ 27) few reflects))
    (ap (λ (d : Doc). simple d false) (sym is) ∙ e)
    ∙ sym (by_forms_is objective style (kept style ts) trees)
