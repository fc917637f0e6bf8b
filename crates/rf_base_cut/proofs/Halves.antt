-- Sequences: what holds of their parts and of two in a row holds of them.
use Rattle.std.proofs.Common.{◌≡◌, ℕ, suc, ◌+◌, ◌≤◌, Bool, List, [], ◌∷◌, ◌++◌, length, take, drop, refl, sym, ◌∙◌, ap, ap₂, subst, Option, Some, None, arith}
use Rattle.rf_base_document.specs.declared.directions.Dir.{Dir}
use Rattle.rf_base_document.specs.Document.{Doc, Concat, plain_text, IsDocument}
use Rattle.rf_base_document.specs.Sequence.{half_up, seq}
use Rattle.rf_base_document.proofs.Sequence.{seq_joins_halves, seq_of_none, seq_of_one}
use Rattle.rf_base_cost.specs.declared.measures.Measure.{Measure}
use Rattle.rf_base_cost.specs.Cost.{Costs, IsColumn, Lawful}
use Rattle.rf_base_optimum.specs.MostPieces.{most_pieces}
use Rattle.rf_base_optimum.proofs.Sequences.{row_by_halves}
use Rattle.rf_base_cut.specs.Cut.{HasRoom}
use Rattle.rf_base_cut.specs.OneLine.{both_lengths}
use Rattle.rf_base_cut.specs.Indifferent.{IsFree}
use Rattle.rf_base_cut.specs.Documents.{after_in, text_behind, IsCutIn, begins_in, first_begins_in, flat_length_in, flat_lengths_in, MayCutIn}
use Rattle.rf_base_cut.proofs.DocumentSteps.{after_text}
use Rattle.rf_base_cut.proofs.DocumentCuts.{after_concat}

-- what holds of no part, of one and of two sequences in a row holds of each sequence
pub seq_by_parts : (P : List Doc → Doc → Type 0) → P [] (plain_text []) → ((d : Doc) → P (d ∷ []) d) →
    ((d e : Doc) (ds es : List Doc) (a b : Doc) → P (d ∷ ds) a → P (e ∷ es) b → P (d ∷ (ds ++ (e ∷ es))) (Concat a b)) →
    (parts : List Doc) → P parts (seq parts)
seq_by_parts P none one both [] = subst (λ (x : Doc). P [] x) (sym seq_of_none) none
seq_by_parts P none one both (d ∷ ds) = row_by_halves P one both (suc (length ds)) d ds (omega arith)

pub after_sequence : {C : Type 0} (costs : Costs C) (laws : Lawful costs) (w free : ℕ) (parts : List Doc) (flat : Bool)
    (m : Measure C (List Dir)) (i x y : ℕ) → IsColumn w →
    IsDocument (seq parts) → HasRoom costs (most_pieces (seq parts)) m.cost → IsFree costs free → 2 ≤ length parts →
    MayCutIn w free (seq (drop (half_up (length parts)) parts)) flat x y →
    IsCutIn costs w (seq parts) (seq (take (half_up (length parts)) parts))
    (seq (drop (half_up (length parts)) parts)) flat m i x y
after_sequence {C = C} costs laws w free parts flat m i x y p d h f some may =
    let first : Doc = seq (take (half_up (length parts)) parts) in
    let second : Doc = seq (drop (half_up (length parts)) parts) in
    let halves : seq parts ≡ Concat first second = seq_joins_halves parts some in
    subst (λ (z : Doc). IsCutIn costs w z first second flat m i x y) (sym halves)
    (after_concat costs laws w free first second flat m i x y p (subst (λ (z : Doc). IsDocument z) halves d)
    (subst (λ (z : Doc). HasRoom costs (most_pieces z) m.cost) halves h) f may)

pub after_few : {C : Type 0} (costs : Costs C) (w : ℕ) (d : Doc) (flat : Bool) (m : Measure C (List Dir)) (i x : ℕ) →
    (after_in costs w (seq (d ∷ [])) flat m i x ≡ after_in costs w d flat m i x)
    × (after_in costs w (seq []) flat m i x ≡ text_behind costs w m 0)
after_few {C = C} costs w d flat m i x = (
  ap (λ (z : Doc). after_in costs w z flat m i x) (seq_of_one d),
  ap (λ (z : Doc). after_in costs w z flat m i x) seq_of_none ∙ after_text costs w [] 0 flat m i x,
)

pub halves_share_out : (parts : List Doc) → IsDocument (seq parts) → 2 ≤ length parts →
    let first = seq (take (half_up (length parts)) parts) in
    let second = seq (drop (half_up (length parts)) parts) in
    IsDocument first × IsDocument second × (most_pieces (seq parts) ≡ most_pieces first + most_pieces second)
unfolding IsDocument most_pieces
halves_share_out parts d some =
    let first : Doc = seq (take (half_up (length parts)) parts) in
    let second : Doc = seq (drop (half_up (length parts)) parts) in
    let halves : seq parts ≡ Concat first second = seq_joins_halves parts some in
    let both : IsDocument (Concat first second) = subst (λ (z : Doc). IsDocument z) halves d in
    (both.0, both.1, ap most_pieces halves)

-- the length of parts in a row
lengths_with_none : (o : Option ℕ) → o ≡ both_lengths o (Some 0)
lengths_with_none None = refl
lengths_with_none (Some a) = ap (λ (n : ℕ). Some n) (omega arith)

lengths_with_nothing : (o : Option ℕ) → o ≡ both_lengths (Some 0) o
lengths_with_nothing None = refl
lengths_with_nothing (Some a) = ap (λ (n : ℕ). Some n) (omega arith)

lengths_assoc : (o p q : Option ℕ) → both_lengths o (both_lengths p q) ≡ both_lengths (both_lengths o p) q
lengths_assoc (Some a) (Some b) (Some c) = ap (λ (n : ℕ). Some n) (omega arith)
lengths_assoc _ _ _ = refl

lengths_append : (ds es : List Doc) (flat : Bool) →
    flat_lengths_in (ds ++ es) flat ≡ both_lengths (flat_lengths_in ds flat) (flat_lengths_in es flat)
unfolding flat_lengths_in
lengths_append [] es flat = lengths_with_nothing (flat_lengths_in es flat)
lengths_append (d ∷ ds) es flat =
    ap (both_lengths (flat_length_in d flat)) (lengths_append ds es flat)
    ∙ lengths_assoc (flat_length_in d flat) (flat_lengths_in ds flat) (flat_lengths_in es flat)

sequence_length : (parts : List Doc) (flat : Bool) → flat_length_in (seq parts) flat ≡ flat_lengths_in parts flat
unfolding flat_length_in flat_lengths_in
sequence_length parts flat =
    seq_by_parts (λ ds d. flat_length_in d flat ≡ flat_lengths_in ds flat) refl
    (λ d. lengths_with_none (flat_length_in d flat))
    (λ d e ds es a b p q. ap₂ both_lengths p q ∙ sym (lengths_append (d ∷ ds) (e ∷ es) flat)) parts

sequence_begins : (parts : List Doc) (flat : Bool) → begins_in (seq parts) flat ≡ first_begins_in parts flat
unfolding begins_in
sequence_begins parts flat =
    seq_by_parts (λ ds d. begins_in d flat ≡ first_begins_in ds flat) refl (λ d. refl) (λ d e ds es a b p q. p) parts

pub sequence_from_parts : (parts : List Doc) (flat : Bool) →
    (begins_in (seq parts) flat ≡ first_begins_in parts flat)
    × (flat_length_in (seq parts) flat ≡ flat_lengths_in parts flat)
sequence_from_parts parts flat = (sequence_begins parts flat, sequence_length parts flat)
