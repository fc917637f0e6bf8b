-- Places, and where the measures before a node may be cut.
use Rattle.std.specs.Prelude.{◌≡◌, ℕ, ◌+◌, ◌-◌, ◌⊎◌, min, Bool, if◌then◌else◌}
use Rattle.rf_base_document.specs.Document.{Doc}
use Rattle.rf_outline.specs.declared.documents.Span.{Span}
use Rattle.rf_outline.specs.declared.documents.Span.TheVariants.{Nothing, Never, Long, Text, Unsure}
use Rattle.rf_outline.specs.Documents.{IsRowOf, Told}
use Rattle.rf_search.specs.declared.sought.Place.{Place}

-- the same place, with one node fewer to be asked for below it
pub record IsBelow {N : Type 0} (place below : Place N) : Type 0 where
  pub node : below.node ≡ place.node
  pub flat : below.flat ≡ place.flat
  pub indentation : below.indentation ≡ place.indentation
  pub cut : below.cut ≡ place.cut
  pub fuel : place.fuel ≡ below.fuel + 1

-- the first document is the second, as it is, aligned or nested, at these indentations
abbrev pub AreAlike : {N : Type 0} → (N → Doc) → ℕ → Place N → Place N → Type 0
AreAlike document column place inner =
    ((document place.node ≡ document inner.node) × (inner.indentation ≡ place.indentation))
    ⊎ IsRowOf document column place.indentation place.node (inner.node, inner.indentation)

-- before a text where it still ends by x and by the column up to which texts cost nothing, before a break at the width,
-- and else nowhere
abbrev pub line_cut : ℕ → ℕ → Span → Bool → ℕ → ℕ
line_cut w free (Text len) begins x = min x free - len
line_cut w free (Long len) begins x = if begins then w else 0
line_cut w free Nothing begins x = if begins then w else 0
line_cut w free Never begins x = if begins then w else 0
line_cut w free Unsure begins x = if begins then w else 0

abbrev pub cut_of : ℕ → ℕ → Told → ℕ → ℕ
cut_of w free told x = line_cut w free told.span told.begins x

-- before a break at the width, and else nowhere
abbrev pub break_cut : ℕ → Bool → ℕ
break_cut w begins = if begins then w else 0

-- what stands behind a measure at this column in the first place is what stands there in the second: the document of
-- the first node is that of the second, as it is, aligned or nested
pub record IsRowIn {N : Type 0} (document : N → Doc) (column : ℕ) (place inner : Place N) : Type 0 where
  pub node : AreAlike document column place inner
  pub flat : inner.flat ≡ place.flat
  pub cut : inner.cut ≡ place.cut
  pub fuel : inner.fuel ≡ place.fuel
