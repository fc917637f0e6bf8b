-- Laws of accepted and refused sources.
use Rattle.std.specs.Prelude.{ℕ, ◌≡◌, ◌⊎◌, List}
use Rattle.rf_base_grammar.specs.Token.{Token}
use Rattle.rf_base_tree.specs.Trees.{Forest}
use Rattle.rf_base_source.specs.Sources.{HasTree, Refused}
use Rattle.rf_base_source.specs.declared.refusals.SourceKind.{SourceKind}

-- no source both has a tree and is refused
abbrev pub NeverBoth : Type 0
NeverBoth =
    (source : List ℕ) (ts : List Token) (trees : Forest) (kind : SourceKind) (offset : ℕ) →
    HasTree source ts trees → Refused source kind offset → ⊥

-- each byte string has a tree or is refused
abbrev pub EachIsAnswered : Type 0
EachIsAnswered =
    (source : List ℕ) →
    ((ts : List Token) × (trees : Forest) × HasTree source ts trees)
    ⊎ ((kind : SourceKind) × (offset : ℕ) × Refused source kind offset)

-- a source is refused for at most one reason, at one byte
abbrev pub OneRefusal : Type 0
OneRefusal =
    (source : List ℕ) (k k' : SourceKind) (o o' : ℕ) →
    Refused source k o → Refused source k' o' → (k ≡ k') × (o ≡ o')
