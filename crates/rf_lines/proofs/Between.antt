-- Gaps and items as they are written.
use Rattle.std.proofs.Common.{◌≡◌, ℕ, zero, suc, ◌+◌, ◌<◌, Bool, true, false, Some, List, [], ◌∷◌, length, slice_get, slice_range, refl, sym, ap, ◌∙◌, subst, arith}
use Rattle.std.specs.Prelude.{if◌then◌else◌}
use Rattle.std.specs.Str.{chars}
use Rattle.std.proofs.lemmas.List.{length-map}
use Rattle.std.proofs.lemmas.Str.{IsUtf8-between}
use Rattle.rf_base_document.specs.Document.{IsOneLine}
use Rattle.rf_base_grammar.specs.Token.{Token, item_of}
use Rattle.rf_base_grammar.specs.Woven.{trails}
use Rattle.rf_base_style.specs.declared.columns.Columns.{Columns}
use Rattle.rf_base_style.specs.Columns.{length_in}
use Rattle.rf_base_tree.specs.Trees.{Forest, spelling_at}
use Rattle.rf_base_tree.specs.Cut.{needs_gap, needs_break, as_wanted}
use Rattle.rf_base_tree.specs.declared.separators.Want.{Want}
use Rattle.rf_base_tree.specs.declared.separators.Want.TheVariants as want
use Rattle.rf_base_tree.specs.declared.separators.Separator.{Separator}
use Rattle.rf_base_tree.specs.declared.separators.Separator.TheVariants as separator
use Rattle.rf_base_file.specs.Rows.{item_doc, gap_docs}
use Rattle.rf_base_lines.specs.Spelled.{spelled_text, spelled_line, spelled_all}
use Rattle.rf_base_lines.specs.Lists.{spelled_separator}
use Rattle.rf_base_lines.proofs.FlatRows.{item_flat, gap_flat}
use Rattle.rf_base_lines.proofs.SpelledRows.{all_one, items_spelled, gaps_spelled}
use Rattle.rf_tree.specs.Kept.{IsTreeOf}
use Rattle.rf_tree.specs.declared.trees.Tree.{Tree as KeptTree}
use Rattle.rf_tree.proofs.ItemTexts.{item_stands}
use Rattle.rf_lines.specs.Written.{Stretch, IsLonger, AddsSpace, IsPart, IsSeparator}
use Rattle.rf_lines.specs.Nodes.{IsWritten, AddsItem}
use Rattle.rf_lines.specs.declared.writer.Writer.{Writer}
use Rattle.rf_lines.proofs.Texts.{part_space}
use Rattle.rf_lines.proofs.Behind.{written_nothing, written_as, written_text}

-- an item that is there
pub some_at : {A : Type 0} (xs : List A) (n : ℕ) → n < length xs → (a : A) × (slice_get xs n ≡ Some a)
some_at [] n h = absurd (omega arith)
some_at (x ∷ xs) zero h = (x, refl)
some_at (x ∷ xs) (suc n) h = some_at xs n (omega arith)

pub token_there : (tree : KeptTree) (ts : List Token) (trees : Forest) (n : ℕ) → IsTreeOf tree ts trees → n < length tree.items.items → (a : Token) × (slice_get ts n ≡ Some a)
token_there tree ts trees n h less =
    let size : length tree.items.items ≡ length ts = ap length h.items_are ∙ length-map ts item_of in
    some_at ts n (omega arith)

-- what stands between two items
gap_is : (ts : List Token) (before next : ℕ) (w : Want) (s r : Separator) (flat : Bool) → IsSeparator ts before next w s → s ≡ r → spelled_all (gap_docs ts before next w) flat ≡ spelled_separator r flat
gap_is ts before next w s r flat h e =
    gaps_spelled ts before next h.0 h.1 w flat h.2 h.3 ∙ ap (λ (x : Separator). spelled_separator x flat) (sym h.4 ∙ e)

pub gap_nothing : (writer : Writer) (ts : List Token) (before next : ℕ) (w : Want) (s : Separator) (old : Stretch) (flat : Bool) → IsSeparator ts before next w s → s ≡ separator.Empty →
    IsWritten writer flat old old (gap_docs ts before next w)
unfolding spelled_all
gap_nothing writer ts before next w s old flat h e =
    written_as writer flat old old [] (gap_docs ts before next w) (λ f. sym (gap_is ts before next w s separator.Empty f h e))
    (λ l some free. gap_flat ts before next w flat l some) (written_nothing writer flat old old refl)

pub gap_space : (writer : Writer) (ts : List Token) (before next : ℕ) (w : Want) (s : Separator) (old new : Stretch) (flat : Bool) → IsSeparator ts before next w s → s ≡ separator.Space →
    AddsSpace writer.tree.now.src.now old new → IsWritten writer flat old new (gap_docs ts before next w)
gap_space writer ts before next w s old new flat h e added =
    let part = part_space writer.tree.now.src.now old.to added.0 in
    written_text writer flat old new (old.to + 1) 1 (32 ∷ []) (gap_docs ts before next w) added.1.1 part.0 part.1
    (λ f. gap_is ts before next w s separator.Space f h e)
    (gap_flat ts before next w true (spelled_text (32 ∷ []) 1) (gap_is ts before next w s separator.Space true h e))

-- where a line may stand, a space may
by_tests : (trailing broken needs : Bool) (blanks : ℕ) →
    (if trailing then separator.Space else if broken then separator.Hard blanks else as_wanted needs want.Line) ≡ separator.Line →
    (if trailing then separator.Space else if broken then separator.Hard blanks else as_wanted needs want.Space) ≡ separator.Space
by_tests true broken needs blanks e = refl
by_tests false true needs blanks e = cc
by_tests false false true blanks e = refl
by_tests false false false blanks e = refl

pub as_space : (ts : List Token) (before next : ℕ) (s : Separator) → IsSeparator ts before next want.Line s → s ≡ separator.Line → IsSeparator ts before next want.Space separator.Space
as_space ts before next s h e = (
  h.0,
  h.1,
  h.2,
  h.3,
  sym (by_tests (trails h.1) (needs_break h.0 h.1) (needs_gap h.0.kind h.0.spelling h.1.spelling) h.1.blanks (sym h.4 ∙ e)),
)

-- an item of one line
pub item_written : (writer : Writer) (columns : Columns) (ts : List Token) (trees : Forest) (item : ℕ) (flat : Bool) (old new : Stretch) (text : List ℕ) (n : ℕ) →
    IsTreeOf writer.tree.now ts trees → item < length writer.tree.now.items.items → text ≡ spelling_at ts item → IsOneLine text → n ≡ length_in columns text →
    AddsItem writer.tree.now item n old new → IsWritten writer flat old new (item_doc columns ts item ∷ [])
item_written writer columns ts trees item flat old new text n holds there e one same added =
    let tree = writer.tree.now in
    let s : List ℕ = spelling_at ts item in
    let i = some_at tree.items.items item there in
    let stands = item_stands tree ts trees item i.0 holds i.1 in
    let longer : IsLonger old new i.0.start i.0.end n = added i.0 i.1 in
    let counted : n ≡ length_in columns s = same ∙ ap (length_in columns) e in
    let part : IsPart tree.src.now i.0.start i.0.end =
    record { ordered = stands.ordered; within = stands.ends.0; utf8 = IsUtf8-between tree.src.now i.0.start i.0.end holds.utf8 stands.ordered stands.begins stands.ends } in
    let told : (f : Bool) → spelled_line (item_doc columns ts item) f ≡ Some (spelled_text s n) =
    λ f. (items_spelled columns ts item f).0 (subst IsOneLine e one) ∙ ap (λ (k : ℕ). Some (spelled_text s k)) (sym counted) in
    written_text writer flat old new i.0.end n s (item_doc columns ts item ∷ []) longer.1
    (subst (λ (at : ℕ). IsPart tree.src.now at i.0.end) (sym longer.0) part)
    (ap (λ (at : ℕ). chars (slice_range tree.src.now at i.0.end)) longer.0 ∙ stands.chars_are)
    (λ f. all_one (item_doc columns ts item) f ∙ told f) (item_flat columns ts item true (spelled_text s n) (told true), tt)
