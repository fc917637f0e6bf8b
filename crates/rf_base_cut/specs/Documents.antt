-- What stands behind a measure of a document, flat or not: that of its core, said without the core.
use Rattle.std.specs.Prelude.{◌≡◌, ℕ, ◌+◌, ◌≤◌, ◌⊎◌, Bool, true, false, not, ◌&&◌, nat_le, IsTrue, Option, None, Some, List, [], ◌∷◌, flat_map, ⊤}
use Rattle.rf_base_document.specs.declared.directions.Dir.{Dir}
use Rattle.rf_base_document.specs.Document.{Doc, Text, Newline, Hard, Concat, Nest, Align, Reset, Flatten, Choice, Only, Charge}
use Rattle.rf_base_document.specs.Simple.{simple}
use Rattle.rf_base_cost.specs.declared.measures.Measure.{Measure}
use Rattle.rf_base_cost.specs.Cost.{Costs}
use Rattle.rf_base_cost.specs.Pareto.{pareto}
use Rattle.rf_base_optimum.specs.Plain.{where_within}
use Rattle.rf_base_cut.specs.Cut.{cut, after, extended}
use Rattle.rf_base_cut.specs.OneLine.{both_lengths, same_length}
use Rattle.rf_base_cut.specs.Indifferent.{indifferent_to}

-- what stands behind m of a core, and nothing where there is none
abbrev pub after_some : {C : Type 0} → Costs C → ℕ → Option Doc → Measure C (List Dir) → ℕ → ℕ →
    List (Measure C (List Dir))
after_some costs w None m indentation x = []
after_some costs w (Some s) m indentation x = after costs w s m indentation x

-- what stands behind m of a document, flat or not, cut at x: what does of its core, and nothing where it has none
unfoldable pub after_in : {C : Type 0} → Costs C → ℕ → Doc → Bool → Measure C (List Dir) → ℕ → ℕ →
    List (Measure C (List Dir))
after_in costs w d flat m indentation x = after_some costs w (simple d flat) m indentation x

-- the measure and behind it a text of this length, where it ends within w
abbrev pub text_behind : {C : Type 0} → Costs C → ℕ → Measure C (List Dir) → ℕ → List (Measure C (List Dir))
text_behind costs w m len =
    where_within (nat_le (m.last + len) w) (extended costs m (m.last + len) (costs.text m.last len))

-- the measure and behind it a break to this indentation, where both are within w
abbrev pub break_behind : {C : Type 0} → Costs C → ℕ → Measure C (List Dir) → ℕ → List (Measure C (List Dir))
break_behind costs w m indentation =
    where_within (nat_le m.last w && nat_le indentation w) (extended costs m indentation (costs.newline indentation))

-- what stands behind m of both documents in a row is what stands of the second behind each measure of the first, whose
-- frontier is cut at y
abbrev pub IsCutIn : {C : Type 0} → Costs C → ℕ → Doc → Doc → Doc → Bool → Measure C (List Dir) → ℕ → ℕ → ℕ → Type 0
IsCutIn costs w both a b flat m indentation x y =
    after_in costs w both flat m indentation x
    ≡ cut x (pareto costs
    (flat_map (λ k. after_in costs w b flat k indentation x) (after_in costs w a flat m indentation y)))

-- every resolution that has a layout, flat or not, begins with a break whose indentation doesn't depend on the column
unfoldable pub begins_in : Doc → Bool → Bool
begins_in (Text s len) flat = false
begins_in Newline flat = not flat
begins_in Hard flat = true
begins_in (Concat a b) flat = begins_in a flat
begins_in (Nest n a) flat = begins_in a flat
begins_in (Align a) flat = false
begins_in (Reset a) flat = begins_in a flat
begins_in (Flatten a) flat = begins_in a true
begins_in (Choice a b) flat = begins_in a flat && begins_in b flat
begins_in (Only dir a) flat = begins_in a flat
begins_in (Charge k a) flat = begins_in a flat

-- the length of a newline, flat or not: a space where flat
abbrev pub newline_length : Bool → Option ℕ
newline_length true = Some 1
newline_length false = None

-- the length of each layout of the document, flat or not, where each resolution has one, none has a break or a charge,
-- and all are equally long
unfoldable pub flat_length_in : Doc → Bool → Option ℕ
flat_length_in (Text s len) flat = Some len
flat_length_in Newline flat = newline_length flat
flat_length_in Hard flat = None
flat_length_in (Concat a b) flat = both_lengths (flat_length_in a flat) (flat_length_in b flat)
flat_length_in (Nest n a) flat = flat_length_in a flat
flat_length_in (Align a) flat = flat_length_in a flat
flat_length_in (Reset a) flat = flat_length_in a flat
flat_length_in (Flatten a) flat = flat_length_in a true
flat_length_in (Choice a b) flat = same_length (flat_length_in a flat) (flat_length_in b flat)
flat_length_in (Only dir a) flat = flat_length_in a flat
flat_length_in (Charge k a) flat = None

-- the length of each layout of these documents in a row, flat or not: their lengths added, where each has one
unfoldable pub flat_lengths_in : List Doc → Bool → Option ℕ
flat_lengths_in [] flat = Some 0
flat_lengths_in (d ∷ parts) flat = both_lengths (flat_length_in d flat) (flat_lengths_in parts flat)

-- the first of these documents begins with a break
abbrev pub first_begins_in : List Doc → Bool → Bool
first_begins_in [] flat = false
first_begins_in (d ∷ parts) flat = begins_in d flat

-- the document has one length, and where it begins at y it ends by each of these columns
abbrev pub IsFlatByIn : Doc → Bool → ℕ → ℕ → ℕ → ℕ → Type 0
IsFlatByIn d flat y w free x =
    (len : ℕ) × (flat_length_in d flat ≡ Some len) × (y + len ≤ w) × (y + len ≤ free) × (y + len ≤ x)

-- within w columns, and where texts cost nothing up to a column, the measures before d may be cut at y when what they
-- come to with d, flat or not, is cut at x: nowhere; anywhere before a break; and before one length where it still ends
-- by these
abbrev pub MayCutIn : ℕ → ℕ → Doc → Bool → ℕ → ℕ → Type 0
MayCutIn w free d flat x y = (y ≡ 0) ⊎ (IsTrue (begins_in d flat) ⊎ IsFlatByIn d flat y w free x)

-- where the measures before d, flat or not, may be cut, so that the fewest stay
abbrev pub indifferent_in : ℕ → ℕ → Doc → Bool → ℕ → ℕ
indifferent_in w free d flat x = indifferent_to w free (begins_in d flat) (flat_length_in d flat) x

-- no layout of the document, flat or not, depends on the indentation: each of its breaks is below an alignment or a
-- reset
unfoldable pub KnowsNoIndentation : Doc → Bool → Type 0
KnowsNoIndentation (Text s len) flat = ⊤
KnowsNoIndentation Newline flat = IsTrue flat
KnowsNoIndentation Hard flat = IsTrue flat
KnowsNoIndentation (Concat a b) flat = KnowsNoIndentation a flat × KnowsNoIndentation b flat
KnowsNoIndentation (Nest n a) flat = KnowsNoIndentation a flat
KnowsNoIndentation (Align a) flat = ⊤
KnowsNoIndentation (Reset a) flat = ⊤
KnowsNoIndentation (Flatten a) flat = KnowsNoIndentation a true
KnowsNoIndentation (Choice a b) flat = KnowsNoIndentation a flat × KnowsNoIndentation b flat
KnowsNoIndentation (Only dir a) flat = KnowsNoIndentation a flat
KnowsNoIndentation (Charge k a) flat = KnowsNoIndentation a flat
