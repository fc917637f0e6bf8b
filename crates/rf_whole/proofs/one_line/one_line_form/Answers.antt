-- What is written on one line is what is chosen.
use Rattle.std.proofs.Common.{◌≡◌, ◌≤◌, true, false, Ok, ap, ◌∙◌, arith}
use Rattle.rf_base_file.specs.FileDocument.{style_doc}
use Rattle.rf_base_lines.proofs.Chosen.{line_chosen}
use Rattle.rf_base_lines.proofs.LongTrees.{style_doc_long}
use Rattle.rf_style.specs.StyleOf.{seen}
use Rattle.rf_whole.proofs.Formed.{width_is_column}
use Rattle.rf_whole.proofs.one_line.one_line_form.Goals as goal

pub returns-then-branch : goal.returns-then-branch
returns-then-branch g c is ts trees s tree stands document =
    let costs = g.F.Factory.costs c.args.task.now.factory.now in
    let style = seen c.args.task.now.style.now in
    let told = c.in-Some.ensures in
    let said : c.write_line.result ≡ Ok true = c.in_ok-write_line.was ∙ ap Ok c.if-branch.true in
    let short : c.write_line.new.page.line.len ≤ c.in-Some.free = c.write_line.ensures.short said in
    let near : c.in-Some.free ≤ c.args.task.now.limit = told.near in
    let fits : c.write_line.new.page.line.len ≤ c.args.task.now.limit = omega (arith, short, near) in
    let long = style_doc_long style ts s in
    c.page_form.ensures is c.args.task.now.limit (style_doc style ts s)
    (line_chosen costs (g.met.F.Factory.lawful c.args.task.now.factory.now) told.free.nothing c.args.task.now.limit c.in-Some.free long.0 (style_doc style ts s) c.write_line.new.page.line
    told.free.texts (width_is_column c.args.task.now.limit c.args.task.now.width) document (long.1 false) (c.write_line.ensures.line said ts trees s tree stands) short fits)
