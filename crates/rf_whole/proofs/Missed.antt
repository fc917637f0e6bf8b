-- What a text is refused for where its rest is, behind an accepted front.
use Rattle.std.proofs.Common.{rules, ◌≡◌, ◌≢◌, ℕ, ◌+◌, ◌-◌, ◌≤◌, Bool, true, false, List, [], ◌++◌, drop, length, refl, sym, ◌∙◌, ap, subst, arith}
use Rattle.std.proofs.lemmas.List.{length-append}
use Rattle.std.proofs.lemmas.Str.{encodes-IsAscii, encodes-append, encodes-chars}
use Rattle.std.proofs.Math.Seq.{drop-append_seam}
use Rattle.std.proofs.Math.Utf8.{encodes}
use Rattle.std.specs.Bool.{MatchBool}
use Rattle.std.specs.Prelude.{codes}
use Rattle.std.specs.Str.{chars, IsUtf8}
use Rattle.rf_base_cost.specs.Cost.{Costs}
use Rattle.rf_base_grammar.specs.Characters.{byte_len}
use Rattle.rf_base_grammar.specs.Itemised.{Leads, Itemised}
use Rattle.rf_base_grammar.specs.Token.{Token}
use Rattle.rf_base_grammar.specs.Unreadable.{LexRefused}
use Rattle.rf_base_grammar.specs.declared.refusals.LexKind.{LexKind}
use Rattle.rf_base_style.specs.Table.{StyleView}
use Rattle.rf_base_tree.specs.Refusals.{TreeRefused}
use Rattle.rf_base_tree.specs.declared.refusals.TreeKind.{TreeKind}
use Rattle.rf_joins.specs.Moved.{joined, HoldsNoLanguage}
use Rattle.rf_joins.proofs.ItemsJoin.{items_joined}
use Rattle.rf_joins.proofs.LexRefusalsJoin.{items_no_language, lex_refusals_joined}
use Rattle.rf_joins.proofs.TreeRefusalsJoin.{tree_refusals_joined}
use Rattle.rf_lexer.proofs.Places.{parts_len}
use Rattle.rf_whole.specs.declared.passages.Passage.{Passage}
use Rattle.rf_whole.specs.Passages.{EndsOrFeeds, IsPassage, IsFirstPassage, IsAcceptedBefore}
use Rattle.rf_whole.proofs.Accepted.{fed}

-- the second of two cases
pub second_case : (A B : Type 0) (b : Bool) → MatchBool b A B → b ≡ false → B
second_case A B true h e = cc
second_case A B false h e = h

-- a text without the bytes of a language line's beginning holds none
pub language_free : (text : List ℕ) → IsUtf8 text →
    ((i : ℕ) → i ≤ length text → (rest : List ℕ) → drop i text ≢ codes "#lang" ++ rest) → HoldsNoLanguage (chars text)
language_free text utf8 lacks front behind e =
    let bytes : text ≡ encodes front ++ (codes "#lang" ++ encodes behind) =
    sym (encodes-chars text utf8) ∙ ap encodes e ∙ encodes-append front (codes "#lang" ++ behind)
    ∙ ap (λ (x : List ℕ). encodes front ++ x)
    (encodes-append (codes "#lang") behind
    ∙ ap (λ (x : List ℕ). x ++ encodes behind) (encodes-IsAscii (codes "#lang") (search rules))) in
    let long : length text ≡ length (encodes front) + length (codes "#lang" ++ encodes behind) =
    ap length bytes ∙ length-append (encodes front) (codes "#lang" ++ encodes behind) in
    lacks (length (encodes front)) (omega (arith, long)) (encodes behind)
    (ap (λ (x : List ℕ). drop (length (encodes front)) x) bytes
    ∙ drop-append_seam (encodes front) (codes "#lang" ++ encodes behind))

pub rest_within : (text rest : List ℕ) → IsUtf8 text → IsUtf8 rest → IsAcceptedBefore (chars text) (chars rest) →
    length rest ≤ length text
rest_within text rest u v h = omega (arith, parts_len text rest h.0 u v h.3)

-- the rest's refusals are the text's
pub items_behind : (text rest : List ℕ) (kind : LexKind) (offset sum : ℕ) → IsUtf8 text → IsUtf8 rest →
    IsAcceptedBefore (chars text) (chars rest) → HoldsNoLanguage (chars rest) → LexRefused (chars rest) kind offset →
    sum ≡ length text - length rest + offset → LexRefused (chars text) kind sum
items_behind text rest kind offset sum u v h clear refused is =
    let same : byte_len h.0 + offset ≡ sum = omega (arith, parts_len text rest h.0 u v h.3, is) in
    subst (λ (x : List ℕ). LexRefused x kind sum) (sym h.3)
    (subst (λ (o : ℕ). LexRefused (h.0 ++ chars rest) kind o) same
    (lex_refusals_joined h.0 (chars rest) h.1 kind offset h.5 h.6 h.4 clear refused))

pub tree_behind : (text rest : List ℕ) (kind : TreeKind) (offset sum : ℕ) → IsUtf8 text → IsUtf8 rest →
    IsAcceptedBefore (chars text) (chars rest) → HoldsNoLanguage (chars rest) →
    (ts : List Token) × Itemised (chars rest) ts × TreeRefused ts kind offset →
    sum ≡ length text - length rest + offset →
    (ts : List Token) × Itemised (chars text) ts × TreeRefused ts kind sum
tree_behind text rest kind offset sum u v h clear refused is =
    let n : ℕ = byte_len h.0 in
    let items = refused.1 in
    let all : List Token = joined n h.1 refused.0 in
    let free = items_no_language [] 0 (chars rest) refused.0 items.0 clear items.1 in
    let same : n + offset ≡ sum = omega (arith, parts_len text rest h.0 u v h.3, is) in (
      all,
      (
        items.0,
        subst (λ (x : List ℕ). Leads [] 0 x all items.0) (sym h.3)
            (items_joined h.0 (chars rest) items.0 h.1 refused.0 h.5 h.6 h.4 items.1 free.0),
        items.2,
      ),
      subst (λ (o : ℕ). TreeRefused all kind o) same (tree_refusals_joined n h.1 refused.0 h.2 kind offset h.7 refused.2),
    )

-- a passage that others may stand behind is accepted before them
pub passage_accepted : {C : Type 0} (costs : Costs C) (w : ℕ) (style : StyleView) (first : Bool) (text front rest : List ℕ)
    (behind : ℕ) (passage : Passage C) → text ≡ front ++ rest → EndsOrFeeds rest → rest ≢ [] →
    IsPassage costs w style first false front behind passage → IsAcceptedBefore text rest
passage_accepted costs w style first text front rest behind passage e feeds some h = (
  front,
  h.tokens,
  h.trees,
  e,
  fed rest feeds some,
  h.stands.some,
  subst (λ (r : List ℕ). Leads [] 0 front h.tokens r) (h.stands.ends refl).0 h.itemised.1,
  h.treed,
)

pub first_accepted : {C : Type 0} (costs : Costs C) (w : ℕ) (style : StyleView) (first last : Bool) (text rest : List ℕ)
    (behind : ℕ) (passage : Passage C) → IsFirstPassage costs w style first last text behind passage rest → rest ≢ [] →
    IsAcceptedBefore text rest
first_accepted costs w style first last text rest behind passage h some =
    passage_accepted costs w style first text h.front rest _ passage h.text_is h.feeds some (h.part some)
