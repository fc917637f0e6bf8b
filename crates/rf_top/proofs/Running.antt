-- A run has one answer, and ends as that says.
use Rattle.std.proofs.Common.{◌≡◌, ◌≤◌, ◌⊎◌, inl, inr, ℕ, List, length, Option, Some, None, refl, sym, ap, subst, ◌∙◌, arith}
use Rattle.std.specs.Global.{Global}
use Rattle.std.specs.Prelude.{String}
use Rattle.std.specs.Str.{encode_utf8_all}
use Rattle.rf_base_file.specs.Formatted.{Layout, IsFormatted}
use Rattle.rf_base_file.proofs.OneAnswer.{formatted_one, formatted_or_too_long}
use Rattle.rf_base_source.proofs.OneAnswer.{Refused-apart}
use Rattle.rf_base_grammar.specs.declared.TheConstants.{SOURCE_LIMIT}
use Rattle.rf_text.specs.Lines.{first_difference}
use Rattle.rf_style.specs.StyleOf.{seen}
use Rattle.rf_style.specs.declared.style.Style.{Style}
use Rattle.rf_words.specs.WordsOf.{Said}
use Rattle.rf_words.specs.declared.words.Mode.{Mode}
use Rattle.rf_words.specs.declared.words.Mode.TheVariants.{Plain, Check}
use Rattle.rf_top.specs.Asking.{said_by, styled, IsBase}
use Rattle.rf_top.specs.Objective.{objective}
use Rattle.rf_top.specs.Lines.{StyleStops, SourceStops, status_of}
use Rattle.rf_top.specs.Answer.{Answer, IsAnswer, IsAnswerIn, IsAnswerTo, answered, compared}
use Rattle.rf_top.specs.Running.{IsLayoutFor}
use Rattle.rf_top.specs.declared.status.Status.TheVariants as status
use Rattle.rf_top.specs.declared.stops.Stop.{Stop}
use Rattle.rf_top.specs.declared.stops.Stop.TheVariants as stop

-- a style file that stops a run ends it so
style_status : (named : Option (List ℕ)) (file : List ℕ) (s : Stop) → StyleStops named file s → status_of s ≡ status.StyleRefused
style_status None file s h = absurd h
style_status (Some name) file stop.StyleTooLong h = refl
style_status (Some name) file stop.StyleText h = refl
style_status (Some name) file (stop.StyleKey key) h = refl
style_status (Some name) file (stop.StyleValue key) h = refl
style_status (Some name) file (stop.StyleRange key number) h = refl
style_status (Some name) file s h = absurd h

-- no style file both stops a run and says a style
style_apart : (named : Option (List ℕ)) (file : List ℕ) (s : Stop) (base : Style) → StyleStops named file s → IsBase named file base → ⊥
style_apart None file s base h is = absurd h
style_apart (Some name) file stop.StyleTooLong base h is = omega (arith, h, is.0)
style_apart (Some name) file stop.StyleText base h is = let both = sym h.1 ∙ is.1 in cc
style_apart (Some name) file (stop.StyleKey key) base h is = let both = sym h.1 ∙ is.1 in cc
style_apart (Some name) file (stop.StyleValue key) base h is = let both = sym h.1 ∙ is.1 in cc
style_apart (Some name) file (stop.StyleRange key number) base h is = let both = sym h.1 ∙ is.1 in cc
style_apart (Some name) file s base h is = h

-- a style file says one style
one_base : (named : Option (List ℕ)) (file : List ℕ) (base other : Style) → IsBase named file base → IsBase named file other → other ≡ base
one_base None file base other is also = also ∙ sym is
one_base (Some name) file base other is also = let both = sym also.1 ∙ is.1 in cc

-- a source is laid out, or stops the run in one way
source_apart : (style : Style) (source : List ℕ) (given : Layout ℕ) (s : Stop) → length source ≤ SOURCE_LIMIT →
    IsFormatted (seen style) (objective style) source given → SourceStops style source s → ⊥
source_apart style source given stop.SourceTooLong short f h = omega (arith, short, h)
source_apart style source given (stop.Refused kind offset) short f h = Refused-apart source f.tokens f.trees kind offset (f.itemised, f.treed) h.1
source_apart style source given stop.LayoutTooLong short f h = formatted_or_too_long (seen style) (objective style) source given f h.1
source_apart style source given s short f h = h

-- whether a source is too long or refused, or its layout is too long
source_kind : (style : Style) (source : List ℕ) (s : Stop) → SourceStops style source s → (status_of s ≡ status.SourceRefused) ⊎ (s ≡ stop.LayoutTooLong)
source_kind style source stop.SourceTooLong h = inl refl
source_kind style source (stop.Refused kind offset) h = inl refl
source_kind style source stop.LayoutTooLong h = inr refl
source_kind style source s h = absurd h

-- a source whose layout is too long isn't refused
long_apart : (style : Style) (source : List ℕ) (s : Stop) → SourceStops style source stop.LayoutTooLong → SourceStops style source s → s ≡ stop.LayoutTooLong
long_apart style source stop.SourceTooLong long h = absurd (omega (arith, long.0, h))
long_apart style source (stop.Refused kind offset) long h =
    absurd (Refused-apart source long.1.tokens long.1.trees kind offset (long.1.itemised, long.1.treed) h.1)
long_apart style source stop.LayoutTooLong long h = refl
long_apart style source s long h = absurd h

source_status : (style : Style) (source : List ℕ) (s t : Stop) → SourceStops style source s → SourceStops style source t → status_of s ≡ status_of t
source_status style source s t h k =
    elim (source_kind style source s h) [
      | inl is ↦ elim (source_kind style source t k) [
        | inl also ↦ is ∙ sym also
        | inr long ↦ ap status_of (long_apart style source s (subst (SourceStops style source) long k) h ∙ sym long)
      ]
      | inr long ↦ ap status_of (long ∙ sym (long_apart style source t (subst (SourceStops style source) long h) k))
    ]

-- how a source's text compares with it rests on the text alone
answered_status : (mode : Mode) (source : List ℕ) (n m : ℕ) (given other : Layout ℕ) → given.text ≡ other.text →
    (answered mode source n given).status ≡ (answered mode source m other).status
answered_status Check source n m given other same = ap (λ (text : List ℕ). (compared (first_difference source (encode_utf8_all text))).status) same
answered_status mode source n m given other same = refl

one_in : (mode : Mode) (style : Style) (source : List ℕ) (a b : Answer) → IsAnswerIn mode style source a → IsAnswerIn mode style source b → a.status ≡ b.status
one_in mode style source a b h k =
    elim h [
      | inl s ↦ elim k [
        | inl t ↦ ap (λ x. x.status) s.2 ∙ source_status style source s.0 t.0 s.1 t.1 ∙ sym (ap (λ x. x.status) t.2)
        | inr g ↦ absurd (source_apart style source g.1 s.0 g.0 g.2 s.1)
      ]
      | inr f ↦ elim k [
        | inl t ↦ absurd (source_apart style source f.1 t.0 f.0 f.2 t.1)
        | inr g ↦
            ap (λ x. x.status) f.3
            ∙ answered_status mode source _ _ f.1 g.1 (formatted_one (seen style) (objective style) source f.1 g.1 f.2 g.2).1
            ∙ sym (ap (λ x. x.status) g.3)
      ]
    ]

one_to : (said : Option Said) (file source : List ℕ) (a b : Answer) → IsAnswerTo said file source a → IsAnswerTo said file source b → a.status ≡ b.status
one_to None file source a b h k = ap (λ x. x.status) (h ∙ sym k)
one_to (Some said) file source a b h k =
    elim h [
      | inl s ↦ elim k [
        | inl t ↦
            ap (λ x. x.status) s.2
            ∙ (style_status said.style file s.0 s.1 ∙ sym (style_status said.style file t.0 t.1))
            ∙ sym (ap (λ x. x.status) t.2)
        | inr g ↦ absurd (style_apart said.style file s.0 g.0 s.1 g.1)
      ]
      | inr f ↦ elim k [
        | inl t ↦ absurd (style_apart said.style file t.0 f.0 t.1 f.1)
        | inr g ↦
            one_in said.mode (styled said f.0) source a b f.2
            (subst (λ (base : Style). IsAnswerIn said.mode (styled said base) source b) (one_base said.style file f.0 g.0 f.1 g.1) g.2)
      ]
    ]

-- a run has one answer, as far as its status goes
pub one_answer : (words : List (String Global)) (file source : List ℕ) (a b : Answer) → IsAnswer words file source a → IsAnswer words file source b → a.status ≡ b.status
one_answer words file source a b h k = one_to (said_by words) file source a b h k

-- a reason to stop isn't Fine
pub stop_not_fine : (s : Stop) → status_of s ≡ status.Fine → ⊥
stop_not_fine stop.Words is = cc
stop_not_fine s is = cc

-- an answer that is Fine without a flag is the source's layout
plain_layout : (said : Said) (file source : List ℕ) (answer : Answer) → IsAnswerTo (Some said) file source answer → answer.status ≡ status.Fine → said.mode ≡ Plain →
    IsLayoutFor said file source answer.out
plain_layout said file source answer h is plain =
    elim h [
      | inl s ↦ absurd (stop_not_fine s.0 (sym (ap (λ x. x.status) s.2) ∙ is))
      | inr f ↦ elim f.2 [
        | inl s ↦ absurd (stop_not_fine s.0 (sym (ap (λ x. x.status) s.2) ∙ is))
        | inr g ↦ (
          f.0,
          f.1,
          g.1,
          g.2,
          ap (λ x. x.out) g.3 ∙ ap (λ (mode : Mode). (answered mode source (length g.2.tokens) g.1).out) plain,
        )
      ]
    ]

pub laid_out_for : (words : List (String Global)) (said : Said) (file source : List ℕ) (answer : Answer) → IsAnswer words file source answer → said_by words ≡ Some said →
    answer.status ≡ status.Fine → said.mode ≡ Plain → IsLayoutFor said file source answer.out
laid_out_for words said file source answer h is fine plain =
    plain_layout said file source answer (subst (λ (o : Option Said). IsAnswerTo o file source answer) is h) fine plain
