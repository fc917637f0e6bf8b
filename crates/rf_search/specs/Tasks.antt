-- What a search goes by.
use Rattle.std.specs.Prelude.{⊤}
use Rattle.rf_base_cost.specs.Cost.{Costs}
use Rattle.rf_outline.specs.Documents.{View}
use Rattle.rf_search.specs.declared.sought.Sought.{Sought}

-- how layouts cost, the documents, and what is sought of them
pub record Task (C N : Type 0) : Type 1 where
  pub costs : Costs C
  pub documents : View N
  pub sought : Sought

-- nothing is said of them: words can take from a struct alone what a ghost field of it names
abbrev pub AreNamed : {C N : Type 0} → Costs C → View N → Type 0
AreNamed costs documents = ⊤
