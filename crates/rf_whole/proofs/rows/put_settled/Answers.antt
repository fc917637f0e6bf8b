-- Its one layout is the one that is chosen, with no choices.
use Rattle.std.proofs.Common.{leb, sym, subst, List}
use Rattle.std.proofs.lemmas.Bool.{leb-true, le-leb}
use Rattle.std.specs.Str.{chars}
use Rattle.std.specs.String.{string_bytes}
use Rattle.rf_base_document.specs.declared.directions.Dir.{Dir}
use Rattle.rf_whole.specs.Forms.{IsForm}
use Rattle.rf_whole.proofs.Formed.{width_is_column}
use Rattle.rf_whole.proofs.Settled.{single, settled}
use Rattle.rf_whole.proofs.rows.put_settled.Goals as goal

pub returns : goal.returns
returns g c d document choiceless layout made =
    let limit = c.args.task.now.limit in
    let costs = g.F.Factory.costs c.args.task.now.factory.now in
    let written = c.args.written in
    subst (λ (l : List Dir). IsForm costs limit d l (chars (string_bytes written.text)) written.cost (leb written.widest limit) written.weight) (sym c.clear.ensures.items)
    (settled costs limit d written (leb written.widest limit) (g.met.F.Factory.lawful c.args.task.now.factory.now) (width_is_column limit c.args.task.now.width) document choiceless (single d choiceless layout) made
    (λ yes. leb-true written.widest limit yes, λ less. le-leb written.widest limit less))
