-- A passage that is the whole source is its layout.
use Rattle.std.proofs.Common.{ap, ◌∙◌}
use Rattle.std.specs.Str.{chars}
use Rattle.std.specs.String.{string_bytes}
use Rattle.rf_style.specs.StyleOf.{seen}
use Rattle.rf_whole.specs.Whole.{layout_of}
use Rattle.rf_whole.proofs.Formed.{width_is_column}
use Rattle.rf_whole.proofs.PassageByPassage.{whole_passage}
use Rattle.rf_whole.proofs.passages.format_passages.Goals as goal

pub returns-clause-whole : goal.returns-clause-whole
returns-clause-whole g c =
    let style = seen c.args.style.now in
    let costs = g.F.Factory.costs c.args.factory.now in
    let laws = (g.met.F.Factory g.world.𝓛 g.world.𝓜 g.world.𝓡 ((λ s x. x), (λ x. x), (λ x. x), λ x. x)).lawful c.args.factory.now in
    let whole = c.in_ok-whole.ensures.passage in
    let made = c.formatted.ensures in
    let given = whole_passage costs laws c.args.limit style (chars c.args.src.now) c.in_ok-whole.whole (layout_of c.formatted.result.formatted) (width_is_column c.args.limit c.requires.width) c.requires.style whole
    (ap (λ v. v.items) made.choices) (ap (λ s. chars (string_bytes s)) made.text) made.cost made.within in
    (given.0, given.1, made.items ∙ given.2, given.3)
