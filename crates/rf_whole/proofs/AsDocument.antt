-- Where addition reflects the order of costs, what is laid out form by form is the layout of the source's document.
use Rattle.std.proofs.Common.{◌≡◌, ℕ, ◌≤◌, false, Some, List, length, refl, sym, ◌∙◌, arith}
use Rattle.std.specs.Str.{chars, IsUtf8}
use Rattle.rf_base_document.specs.declared.directions.Dir.{Dir}
use Rattle.rf_base_document.specs.Document.{Doc}
use Rattle.rf_base_document.specs.Render.{Laid, layout}
use Rattle.rf_base_document.specs.Picks.{LaidOutBy}
use Rattle.rf_base_document.specs.Simple.{simple}
use Rattle.rf_base_document.proofs.Simple.{keeps_layouts}
use Rattle.rf_base_optimum.specs.Chosen.{choose}
use Rattle.rf_base_grammar.specs.Token.{Token}
use Rattle.rf_base_grammar.specs.Sources.{HasItems}
use Rattle.rf_base_grammar.specs.declared.TheConstants.{SOURCE_LIMIT}
use Rattle.rf_base_style.specs.Table.{StyleView, IsStyle}
use Rattle.rf_base_tree.specs.Trees.{Forest}
use Rattle.rf_base_tree.specs.Formed.{Treed}
use Rattle.rf_base_file.specs.LaidOut.{kept, source_doc, Objective}
use Rattle.rf_base_file.specs.Formatted.{Layout, IsFormatted, IsTooLong}
use Rattle.rf_base_file.specs.ByForms.{by_forms}
use Rattle.rf_base_file.proofs.FormByForm.{chosen_by_forms}
use Rattle.rf_lexer.proofs.Places.{chars_len}
use Rattle.rf_whole.specs.Laws.{Reflects}
use Rattle.rf_whole.specs.Whole.{IsWhole, IsWholeLong}

-- a source has few characters, since it has few bytes
few_characters : (source : List ℕ) → IsUtf8 source → length source ≤ SOURCE_LIMIT → length (chars source) ≤ SOURCE_LIMIT
few_characters source utf8 short = let fewer = chars_len source utf8 in omega (arith, fewer, short)

-- the core of a source's document, of which is chosen what is chosen form by form
record CoreOf {C : Type 0} (objective : Objective C) (style : StyleView) (ts : List Token) (trees : Forest) : Type 0 where
  core : Doc
  core_is : simple (source_doc style ts trees) false ≡ Some core
  chosen : (choose objective.costs objective.limit core 0 0).choices ≡ by_forms objective style (kept style ts) trees

core_of : {C : Type 0} (objective : Objective C) (style : StyleView) (source : List ℕ) (ts : List Token) (trees : Forest) (choices : List Dir) (whole : Laid) → Reflects objective →
    IsStyle style → length source ≤ SOURCE_LIMIT → HasItems source ts → Treed ts trees → LaidOutBy (source_doc style ts trees) choices 0 0 false whole → CoreOf objective style ts trees
core_of objective style source ts trees choices whole reflects is short items treed laid =
    let of_core = (keeps_layouts (source_doc style ts trees) false choices 0 0 whole).0 laid in
    record {
      core = of_core.0;
      core_is = of_core.1;
      chosen = chosen_by_forms objective style (chars source) ts trees of_core.0 is items.1 (few_characters source items.0 short) treed reflects.0 reflects.1 reflects.2 of_core.1;
    }

pub whole_is_formatted : {C : Type 0} (objective : Objective C) (style : StyleView) (source : List ℕ) (ts : List Token) (trees : Forest) (given : Layout C) → Reflects objective →
    IsStyle style → length source ≤ SOURCE_LIMIT → HasItems source ts → Treed ts trees → IsWhole objective style ts trees given →
    (formatted : IsFormatted style objective source given) × (formatted.tokens ≡ ts)
whole_is_formatted objective style source ts trees given reflects is short items treed h =
    let core = core_of objective style source ts trees given.choices h.whole reflects is short items treed (h.resolution, h.picked, h.rendered) in (
      record {
        tokens = ts;
        trees = trees;
        itemised = items;
        treed = treed;
        resolution = h.resolution;
        laid_out = record {
          core = core.core;
          core_is = core.core_is;
          chosen = h.chosen ∙ sym core.chosen;
          picked = h.picked;
          whole = h.whole;
          rendered = h.rendered;
          text_is = h.text_is;
        };
        short = h.short;
        best = h.best;
        cost_is = h.cost_is;
        within_is = h.within_is;
        reads_back = h.reads_back;
        no_trailing_space = h.no_trailing_space;
      },
      refl,
    )

pub long_is_too_long : {C : Type 0} (objective : Objective C) (style : StyleView) (source : List ℕ) (ts : List Token) (trees : Forest) → Reflects objective → IsStyle style →
    length source ≤ SOURCE_LIMIT → HasItems source ts → Treed ts trees → IsWholeLong objective style ts trees → IsTooLong style objective source
long_is_too_long objective style source ts trees reflects is short items treed h =
    let choices = by_forms objective style (kept style ts) trees in
    let core = core_of objective style source ts trees choices h.2.0 reflects is short items treed (h.0, h.1, h.2.1) in
    record {
      tokens = ts;
      trees = trees;
      itemised = items;
      treed = treed;
      choices = choices;
      resolution = h.0;
      text = layout h.2.0.pieces;
      laid_out = record {
        core = core.core;
        core_is = core.core_is;
        chosen = sym core.chosen;
        picked = h.1;
        whole = h.2.0;
        rendered = h.2.1;
        text_is = refl;
      };
      long = h.2.2;
    }
