-- What a graph tells of its nodes holds.
use Rattle.std.proofs.Common.{◌≡◌, ℕ, ◌<◌, Bool, true, false, List, [], length, Option, None, Some, slice_get, refl, sym, ap, ◌∙◌, arith}
use Rattle.rf_base_document.specs.Document.{Doc, Align}
use Rattle.rf_base_document.specs.Graph.{GraphNode, IsGraph, unfolded}
use Rattle.rf_base_document.proofs.Graph.{unfolded_document}
use Rattle.rf_base_document.specs.declared.directions.Dir.{Dir}
use Rattle.rf_base_cut.specs.Documents.{KnowsNoIndentation}
use Rattle.rf_outline.specs.declared.facts.Line.{Line}
use Rattle.rf_outline.specs.declared.facts.Line.TheVariants.{Nothing, Never, Long, Text, Unsure}
use Rattle.rf_frontier.specs.declared.hows.How.{How}
use Rattle.rf_frontier.specs.Ways.{choices_of, KeepsWays}
use Rattle.rf_outline.proofs.Holds.{are_known_kept}
use Rattle.rf_outline.proofs.Sequences.{alone}
use Rattle.rf_frontier.proofs.Ways.{keeps_length}
use Rattle.rf_outline.specs.declared.facts.Known.{Known}
use Rattle.rf_outline.specs.Known.{LineHolds, FactsHold, KnownHolds, AreKnown}
use Rattle.rf_outline.specs.Documents.{View, SpanHolds, ToldHolds, IsTold}
use Rattle.rf_outline.specs.Outlined.{facts_of, span_of, told_of, number_of, seen}

facts_hold : (ways : List How) (d : Doc) (flat : Bool) (known : Known) → KnownHolds ways d known → FactsHold ways d flat (facts_of known flat)
facts_hold ways d true known h = h.1
facts_hold ways d false known h = h.0

-- the choices of the line, where there is one
pub span_holds : (ways : List How) (d : Doc) (flat : Bool) (line : Line) → LineHolds ways d flat line → (how : List Dir) × SpanHolds d flat (span_of line) how
span_holds ways d flat Nothing h = ([], h.1)
span_holds ways d flat Never h = ([], h)
span_holds ways d flat (Long len how) h = (choices_of ways how.0, h.1)
span_holds ways d flat (Text len how) h = (choices_of ways how.0, (h.1, h.2))
span_holds ways d flat Unsure h = ([], tt)

told_holds : (ways : List How) (graph : List GraphNode) (list : List Known) → AreKnown ways graph list → (n : ℕ) (flat : Bool) (o : Option Known) → slice_get list n ≡ o →
    ToldHolds (unfolded graph n) flat (told_of o flat)
unfolding AreKnown
told_holds ways graph list h n flat None e = (([], tt), λ no. cc)
told_holds ways graph list h n flat (Some known) e =
    let facts = facts_hold ways (unfolded graph n) flat known (h n known e) in
    (span_holds ways (unfolded graph n) flat (facts_of known flat).line facts.0, facts.1)

-- what is known of a node holds by the ways
pub way_known : (ways : List How) (graph : List GraphNode) (list : List Known) (n : ℕ) (flat : Bool) (known : Known) → AreKnown ways graph list → slice_get list n ≡ Some known →
    FactsHold ways (unfolded graph n) flat (facts_of known flat)
unfolding AreKnown
way_known ways graph list n flat known h e = facts_hold ways (unfolded graph n) flat known (h n known e)

-- what has a number is an alignment, whose number is its own
number_is : (n k : ℕ) (d : Doc) → number_of n d ≡ Some k → n ≡ k
number_is n k (Align a) e = cc
number_is n k d e = cc

number_knows : (n k : ℕ) (d : Doc) (flat : Bool) → number_of n d ≡ Some k → KnowsNoIndentation d flat
unfolding KnowsNoIndentation
number_knows n k (Align a) flat e = tt
number_knows n k d flat e = cc

pub outlined_is_told : (ways : List How) (graph : List GraphNode) (list : List Known) → IsGraph graph → 0 < length ways → AreKnown ways graph list → IsTold (seen graph list) ways
outlined_is_told ways graph list whole some known =
    record {
      documents = λ n. unfolded_document graph n.0 whole;
      sequences = λ n. alone (unfolded graph n.0);
      told = λ n flat. told_holds ways graph list known n.0 flat (slice_get list n.0) refl;
      numbers = λ n m k e f. ap (unfolded graph) (number_is n.0 k (unfolded graph n.0) e ∙ sym (number_is m.0 k (unfolded graph m.0) f));
      unindented = λ n k flat e. number_knows n.0 k (unfolded graph n.0) flat e;
      rests = (some, known);
      goes_on = λ old new kept rests. (omega (arith, keeps_length old new kept, rests.0), are_known_kept old new graph list kept rests.1);
    }

-- what is told goes on to hold where ways are added
pub told_goes_on : {N : Type 0} (view : View N) (old new : List How) → KeepsWays old new → IsTold view old → IsTold view new
told_goes_on view old new kept told =
    record {
      documents = told.documents;
      sequences = told.sequences;
      told = told.told;
      numbers = told.numbers;
      unindented = told.unindented;
      rests = told.goes_on old new kept told.rests;
      goes_on = told.goes_on;
    }
