-- A node that is told by another name.
use Rattle.std.proofs.Common.{◌≡◌, ap, ◌∙◌}
use Rattle.rf_base_document.specs.Document.{Doc}
use Rattle.rf_walk.specs.declared.kinds.Kind.{Kind}
use Rattle.rf_walk.specs.Kinds.{kind_doc}

pub told_as : {N : Type 0} (doc : N → Doc) (d : Doc) (x y : Kind N) → x ≡ y → d ≡ kind_doc doc x → d ≡ kind_doc doc y
told_as doc d x y same told = told ∙ ap (kind_doc doc) same
