-- A layout gives itself back.
use Rattle.std.proofs.Common.{◌≡◌, ◌≤◌, inl, inr, ℕ, List, length, Option, Some, true, refl, sym, ap, ◌∙◌, subst}
use Rattle.std.specs.Str.{chars, all_scalars, encode_utf8_all}
use Rattle.std.proofs.lemmas.Str.{chars-encodes}
use Rattle.std.specs.Prelude.{◌↔◌, false, IsTrue}
use Rattle.rf_base_document.specs.Document.{Doc}
use Rattle.rf_base_document.specs.Picks.{LaidOutBy}
use Rattle.rf_base_cost.specs.Cost.{cost_of}
use Rattle.rf_base_optimum.specs.Best.{HasWithin, Best}
use Rattle.rf_base_grammar.specs.Token.{Token}
use Rattle.rf_base_grammar.specs.TrailingSpace.{NoTrailingSpace}
use Rattle.rf_base_tree.specs.Trees.{Forest}
use Rattle.rf_base_tree.specs.Formed.{Treed}
use Rattle.rf_base_file.specs.Reading.{ReadsBack}
use Rattle.rf_base_grammar.specs.Itemised.{Itemised}
use Rattle.rf_base_grammar.specs.Sources.{HasItems}
use Rattle.rf_base_grammar.specs.declared.TheConstants.{SOURCE_LIMIT}
use Rattle.rf_base_style.specs.Table.{StyleView}
use Rattle.rf_base_file.specs.LaidOut.{Objective, source_doc, IsLaidOut, IsShort}
use Rattle.rf_base_file.specs.Formatted.{Layout, IsFormatted}
use Rattle.rf_base_file.proofs.FileWeaving.{file_woven, file_read_back, file_clean}
use Rattle.rf_base_file.proofs.SameDocuments.{back_same}
use Rattle.rf_style.specs.StyleOf.{seen}
use Rattle.rf_style.specs.declared.style.Style.{Style}
use Rattle.rf_words.specs.WordsOf.{Said}
use Rattle.rf_words.specs.declared.words.Mode.{Mode}
use Rattle.rf_words.specs.declared.words.Mode.TheVariants.{Plain}
use Rattle.rf_top.specs.Asking.{styled}
use Rattle.rf_top.specs.Objective.{objective}
use Rattle.rf_top.specs.Answer.{Answer, IsAnswerIn, IsAnswerTo}
use Rattle.rf_top.specs.Laws.{LayoutsGiveThemselves}
use Rattle.rf_top.specs.declared.status.Status.TheVariants.{Fine}
use Rattle.rf_top.proofs.Running.{stop_not_fine}
use Rattle.rf_top.proofs.Scalars.{woven_is_text}

-- a layout of a document that is chosen and best for it
record IsLayout (aim : Objective ℕ) (d : Doc) (given : Layout ℕ) : Type 0 where
  resolution : Doc
  laid_out : IsLaidOut aim d given.choices resolution given.text
  short : IsShort given.choices resolution given.text
  best : Best aim.costs aim.limit d 0 0 false given.choices
  cost_is : cost_of aim.costs laid_out.whole.pieces ≡ Some given.cost
  within_is : IsTrue given.within ↔ HasWithin aim.limit d 0 0 false

-- one of the document of a source's items and tree is what the source is formatted as
formatted_as : (style : StyleView) (aim : Objective ℕ) (source : List ℕ) (ts : List Token) (trees : Forest) (given : Layout ℕ) → HasItems source ts → Treed ts trees →
    IsLayout aim (source_doc style ts trees) given → IsFormatted style aim source given
formatted_as style aim source ts trees given items treed laid =
    let out = laid.laid_out in
    let picked : LaidOutBy (source_doc style ts trees) given.choices 0 0 false out.whole = (laid.resolution, out.picked, out.rendered) in
    record {
      tokens = ts;
      trees = trees;
      itemised = items;
      treed = treed;
      resolution = laid.resolution;
      laid_out = out;
      short = laid.short;
      best = laid.best;
      cost_is = laid.cost_is;
      within_is = laid.within_is;
      reads_back = subst (ReadsBack style ts trees) (sym out.text_is) (file_read_back style (chars source) ts trees given.choices out.whole items.1 treed picked);
      no_trailing_space = subst NoTrailingSpace (sym out.text_is) (file_clean style (chars source) ts trees given.choices out.whole items.1 treed picked);
    }

-- a source's layout is formatted as itself
formatted_again : (style : StyleView) (aim : Objective ℕ) (source : List ℕ) (given : Layout ℕ) → IsFormatted style aim source given →
    IsFormatted style aim (encode_utf8_all given.text) given
formatted_again style aim source given f =
    let out = f.laid_out in
    let woven = file_woven style (chars source) f.tokens style.blanks f.trees given.choices out.whole f.itemised.1 f.treed (f.resolution, out.picked, out.rendered) in
    let text : all_scalars given.text ≡ true = subst (λ (l : List ℕ). all_scalars l ≡ true) (sym out.text_is) (woven_is_text source _ f.tokens style.blanks f.itemised.0 f.itemised.1 woven) in
    let back = f.reads_back in
    let items : HasItems (encode_utf8_all given.text) back.back =
    ((given.text, (text, refl)), subst (λ (l : List ℕ). Itemised l back.back) (sym (chars-encodes given.text text)) back.itemised) in
    let laid : IsLayout aim _ given = record { resolution = f.resolution; laid_out = out; short = f.short; best = f.best; cost_is = f.cost_is; within_is = f.within_is } in
    formatted_as style aim (encode_utf8_all given.text) back.back f.trees given items back.treed
    (subst (λ (d : Doc). IsLayout aim d given) (sym (back_same style f.tokens back.back f.trees back.same)) laid)

again_in : (style : Style) (source : List ℕ) (answer : Answer) → IsAnswerIn Plain style source answer → answer.status ≡ Fine → length answer.out ≤ SOURCE_LIMIT →
    IsAnswerIn Plain style answer.out answer
again_in style source answer h is short =
    elim h [
      | inl s ↦ absurd (stop_not_fine s.0 (sym (ap (λ x. x.status) s.2) ∙ is))
      | inr g ↦
          let out : answer.out ≡ encode_utf8_all g.1.text = ap (λ x. x.out) g.3 in
          let again : IsFormatted (seen style) (objective style) answer.out g.1 =
          subst (λ (l : List ℕ). IsFormatted (seen style) (objective style) l g.1) (sym out) (formatted_again (seen style) (objective style) source g.1 g.2) in
          inr (short, g.1, again, g.3)
    ]

again_to : (said : Said) (file source : List ℕ) (answer : Answer) → IsAnswerTo (Some said) file source answer → said.mode ≡ Plain → answer.status ≡ Fine →
    length answer.out ≤ SOURCE_LIMIT → IsAnswerTo (Some said) file answer.out answer
again_to said file source answer h plain is short =
    elim h [
      | inl s ↦ absurd (stop_not_fine s.0 (sym (ap (λ x. x.status) s.2) ∙ is))
      | inr f ↦
          inr (
            f.0,
            f.1,
            subst (λ (m : Mode). IsAnswerIn m (styled said f.0) answer.out answer) (sym plain)
                (again_in (styled said f.0) source answer (subst (λ (m : Mode). IsAnswerIn m (styled said f.0) source answer) plain f.2) is short),
          )
    ]

pub layouts_give_themselves : LayoutsGiveThemselves
layouts_give_themselves words said file source answer says plain h is short =
    subst (λ (o : Option Said). IsAnswerTo o file answer.out answer) (sym says)
    (again_to said file source answer (subst (λ (o : Option Said). IsAnswerTo o file source answer) says h) plain is short)
