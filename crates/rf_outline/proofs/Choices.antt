-- What is told of the sides of a choice on one line.
use Rattle.std.proofs.lemmas.Bool.Decides.{nat_tests}
use Rattle.std.specs.Prelude.{nat_eq}
use Rattle.std.proofs.Common.{◌≡◌, ℕ, ◌<◌, true, List, ◌∷◌, length, sym, ◌∙◌, ap₂, subst, inl, inr, Some, arith}
use Rattle.std.proofs.lemmas.Bool.{and_from}
use Rattle.rf_base_document.specs.declared.directions.Dir.TheVariants.{Left, Right}
use Rattle.rf_base_document.specs.Document.{Choice}
use Rattle.rf_base_document.specs.Simple.{simple, simple_choice}
use Rattle.rf_base_cut.specs.OneLine.{same_length}
use Rattle.rf_base_cut.specs.Documents.{flat_length_in}
use Rattle.rf_base_cut.specs.DocumentLines.{never_free_in, OneLineIn}
use Rattle.rf_frontier.specs.declared.hows.How.{How}
use Rattle.rf_frontier.specs.declared.hows.HowId.{HowId}
use Rattle.rf_frontier.specs.Ways.{choices_of}
use Rattle.rf_outline.specs.declared.facts.Line.{Line}
use Rattle.rf_outline.specs.declared.facts.Line.TheVariants.{Nothing, Never, Long, Text, Unsure}
use Rattle.rf_outline.specs.Known.{LineHolds}
use Rattle.rf_outline.specs.Parts.{LineOfBoth, MayGoLeft}

pub never_either : (old new : List How) (b : Line) → b ≡ Never → LineOfBoth Choice old new Never b Never
unfolding never_free_in
never_either old new b is d e flat p q =
    and_from (never_free_in d flat) (never_free_in e flat) p (subst (λ (l : Line). LineHolds old e flat l) is q)

-- what is told of a side without a layout is told of one that is never on one line
pub never_nothing : (old new : List How) (b line : Line) → LineOfBoth Choice old new Never b line → LineOfBoth Choice old new Nothing b line
never_nothing old new b line h d e flat p q = h d e flat p.0 q

pub never_none : (old new : List How) (b : Line) → b ≡ Nothing → LineOfBoth Choice old new Never b Never
unfolding never_free_in
never_none old new b is d e flat p q =
    and_from (never_free_in d flat) (never_free_in e flat) p (subst (λ (l : Line). LineHolds old e flat l) is q).0

pub nothing_either : (old new : List How) (b : Line) → b ≡ Nothing → LineOfBoth Choice old new Nothing b Nothing
unfolding never_free_in simple
nothing_either old new b is d e flat p q =
    let h = subst (λ (l : Line). LineHolds old e flat l) is q in
    (and_from (never_free_in d flat) (never_free_in e flat) p.0 h.0, ap₂ simple_choice p.1 h.1)

pub right_long : (old new : List How) (len : ℕ) (how right : HowId) → right.0 < length new → choices_of new right.0 ≡ Right ∷ choices_of old how.0 →
    LineOfBoth Choice old new Never (Long len how) (Long len right)
unfolding OneLineIn
right_long old new len how right within made d e flat p q = (within, (choices_of old how.0, inr (made, p, q.1)))

pub left_long : (old new : List How) (len : ℕ) (how left : HowId) (b : Line) → MayGoLeft len b → left.0 < length new → choices_of new left.0 ≡ Left ∷ choices_of old how.0 →
    LineOfBoth Choice old new (Long len how) b (Long len left)
unfolding OneLineIn
left_long old new len how left Nothing may within made d e flat p q = (within, (choices_of old how.0, inl (made, p.1, inl q.0)))
left_long old new len how left Never may within made d e flat p q = (within, (choices_of old how.0, inl (made, p.1, inl q)))
left_long old new len how left (Long other way) may within made d e flat p q =
    (within, (choices_of old how.0, inl (made, p.1, inr (choices_of old way.0, subst (λ (n : ℕ). OneLineIn e flat n (choices_of old way.0)) (sym may) q.1))))
left_long old new len how left (Text other way) may within made d e flat p q =
    (within, (choices_of old how.0, inl (made, p.1, inr (choices_of old way.0, subst (λ (n : ℕ). OneLineIn e flat n (choices_of old way.0)) (sym may) q.1))))
left_long old new len how left Unsure may within made d e flat p q = absurd may

same_is : (i j : ℕ) → i ≡ j → same_length (Some i) (Some j) ≡ Some i
same_is i j is = let equal : nat_eq i j ≡ true = grind (arith, nat_tests) in cc

pub left_text : (old new : List How) (len other : ℕ) (how way left : HowId) → len ≡ other → left.0 < length new → choices_of new left.0 ≡ Left ∷ choices_of old how.0 →
    LineOfBoth Choice old new (Text len how) (Text other way) (Text len left)
unfolding OneLineIn flat_length_in
left_text old new len other how way left is within made d e flat p q = (
  within,
  (choices_of old how.0, inl (made, p.1, inr (choices_of old way.0, subst (λ (n : ℕ). OneLineIn e flat n (choices_of old way.0)) (sym is) q.1))),
  ap₂ same_length p.2 q.2 ∙ same_is len other is,
)
