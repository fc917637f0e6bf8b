-- What is told of both parts of a concatenation on one line.
use Rattle.std.proofs.Common.{◌≡◌, ℕ, ◌+◌, ◌<◌, Bool, true, false, ◌&&◌, ◌||◌, List, ◌++◌, length, refl, sym, ◌∙◌, ap, ap₂, subst, Option, None, Some}
use Rattle.std.proofs.lemmas.Bool.{or_left, or_right}
use Rattle.rf_base_document.specs.Document.{Doc, Concat}
use Rattle.rf_base_document.specs.Simple.{simple, simple_concat}
use Rattle.rf_base_cut.specs.OneLine.{both_lengths}
use Rattle.rf_base_cut.specs.Documents.{flat_length_in}
use Rattle.rf_base_cut.specs.DocumentLines.{never_free_in, OneLineIn}
use Rattle.rf_frontier.specs.declared.hows.How.{How}
use Rattle.rf_frontier.specs.declared.hows.HowId.{HowId}
use Rattle.rf_frontier.specs.Ways.{choices_of}
use Rattle.rf_outline.specs.declared.facts.Line.{Line}
use Rattle.rf_outline.specs.declared.facts.Line.TheVariants.{Nothing, Never, Long, Text}
use Rattle.rf_outline.specs.Known.{LineHolds}
use Rattle.rf_outline.specs.Parts.{LineOfBoth}

pub never_before : (old new : List How) (a b : Line) → a ≡ Never → LineOfBoth Concat old new a b Never
unfolding never_free_in
never_before old new a b is d e flat p q =
    or_left (never_free_in d flat) (never_free_in e flat) (subst (λ (l : Line). LineHolds old d flat l) is p)

pub never_behind : (old new : List How) (a b : Line) → b ≡ Never → LineOfBoth Concat old new a b Never
unfolding never_free_in
never_behind old new a b is d e flat p q =
    or_right (never_free_in d flat) (never_free_in e flat) (subst (λ (l : Line). LineHolds old e flat l) is q)

pub long_both : (old new : List How) (i j sum : ℕ) (x y both : HowId) → sum ≡ i + j → both.0 < length new →
    choices_of new both.0 ≡ choices_of old x.0 ++ choices_of old y.0 → LineOfBoth Concat old new (Long i x) (Long j y) (Long sum both)
unfolding OneLineIn
long_both old new i j sum x y both is within made d e flat p q =
    (within, (i, j, choices_of old x.0, choices_of old y.0, is, made, p.1, q.1))

pub text_both : (old new : List How) (i j sum : ℕ) (x y both : HowId) → sum ≡ i + j → both.0 < length new →
    choices_of new both.0 ≡ choices_of old x.0 ++ choices_of old y.0 → LineOfBoth Concat old new (Text i x) (Text j y) (Text sum both)
unfolding OneLineIn flat_length_in
text_both old new i j sum x y both is within made d e flat p q = (
  within,
  (i, j, choices_of old x.0, choices_of old y.0, is, made, p.1, q.1),
  ap₂ both_lengths p.2 q.2 ∙ ap (λ (n : ℕ). Some n) (sym is),
)

-- where one part has no layout
pub concat_none : (o : Option Doc) → simple_concat o None ≡ None
concat_none None = refl
concat_none (Some a) = refl

pub nothing_before : (old new : List How) (a b : Line) → a ≡ Nothing → LineOfBoth Concat old new a b Nothing
unfolding never_free_in simple
nothing_before old new a b is d e flat p q =
    let h = subst (λ (l : Line). LineHolds old d flat l) is p in
    (or_left (never_free_in d flat) (never_free_in e flat) h.0, ap (λ (o : Option Doc). simple_concat o (simple e flat)) h.1)

pub nothing_behind : (old new : List How) (a b : Line) → b ≡ Nothing → LineOfBoth Concat old new a b Nothing
unfolding never_free_in simple
nothing_behind old new a b is d e flat p q =
    let h = subst (λ (l : Line). LineHolds old e flat l) is q in
    (or_right (never_free_in d flat) (never_free_in e flat) h.0, ap (simple_concat (simple d flat)) h.1 ∙ concat_none (simple d flat))
