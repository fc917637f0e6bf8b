-- Forms and lines as the program keeps them.
use Rattle.std.specs.Prelude.{ℕ, List}
use Rattle.std.specs.Str.{chars}
use Rattle.std.specs.String.{string_bytes}
use Rattle.rf_base_document.specs.Document.{Doc}
use Rattle.rf_base_cost.specs.Cost.{Costs}
use Rattle.rf_base_optimum.specs.Paragraphs.{Paragraph}
use Rattle.rf_whole.specs.declared.forms.Form.{Form}
use Rattle.rf_whole.specs.declared.lines.Lines.{Lines}
use Rattle.rf_whole.specs.Forms.{IsForm}
use Rattle.rf_whole.specs.Lines.{AreLines}

-- the form is this document's
abbrev pub IsFormOf : {C : Type 0} → Costs C → ℕ → Doc → Form C → Type 0
IsFormOf costs w d form = IsForm costs w d form.choices.items (chars (string_bytes form.text)) form.cost form.within
    form.weight

-- the lines are those of these paragraphs
abbrev pub AreLinesOf : {C : Type 0} → Costs C → ℕ → List Paragraph → Lines C → Type 0
AreLinesOf costs w paragraphs lines =
    AreLines costs w paragraphs lines.choices.items (chars (string_bytes lines.text)) lines.cost lines.within
    lines.characters lines.weight
