-- The lines of all parts are the layout.
use Rattle.std.proofs.Common.{◌∙◌, length, refl, ap}
use Rattle.std.proofs.lemmas.Result.{err_from_is_err_and}
use Rattle.std.specs.Str.{chars}
use Rattle.std.specs.Global.{Vec}
use Rattle.rf_base_grammar.specs.declared.items.Item.{Item}
use Rattle.rf_base_file.specs.LaidOut.{kept}
use Rattle.rf_style.specs.StyleOf.{seen}
use Rattle.rf_whole.specs.Whole.{sought}
use Rattle.rf_whole.proofs.Formed.{width_is_column}
use Rattle.rf_whole.proofs.PartByPart.{kept_tokens, kept_same, same_count, fault_read, all_lines}
use Rattle.rf_whole.proofs.parts.format_items.Goals as goal

pub returns-in_err-refuse_early-clause-stopped : goal.returns-in_err-refuse_early-clause-stopped
returns-in_err-refuse_early-clause-stopped g c =
    let style = seen c.args.style.now in
    let p = err_from_is_err_and c.from_residual.result c.from_residual.ensures.1 in
    rw (p.1, p.2)
    (λ ts h. fault_read (sought (g.F.Factory.costs c.args.factory.now) c.args.limit) style ts _ (c.in_err-refuse_early.ensures.refused (kept style ts) (kept_tokens style (chars c.args.src.now) ts _ h) h.1))

pub returns-clause-whole : goal.returns-clause-whole
returns-clause-whole g c ts h =
    let style = seen c.args.style.now in
    let costs = g.F.Factory.costs c.args.factory.now in
    let laws = (g.met.F.Factory g.world.𝓛 g.world.𝓜 g.world.𝓡 ((λ s x. x), (λ x. x), (λ x. x), λ x. x)).lawful c.args.factory.now in
    let early = c.in_ok-refuse_early.ensures.kept in
    let items = ap (λ (v : Vec Item). v.items) early.1 in
    all_lines costs laws c.args.limit style (chars c.args.src.now) ts (length c.refuse_early.new.tree.items.items) c.in_ok-lines.lines _ (width_is_column c.args.limit c.requires.width) c.requires.style h.0
    (same_count (kept style ts) _ (items ∙ h.1))
    (c.in_ok-lines.ensures.lines ts (kept_same style c.args.src.now c.refuse_early.new.tree.src.now ts c.args.items.items c.refuse_early.new.tree.items.items early.0 items h)) refl refl refl refl
