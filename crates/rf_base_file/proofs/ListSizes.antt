-- Documents of lists, trees and files keep the limits of documents, and their resolutions have few pieces.
use Rattle.std.proofs.Common.{◌≡◌, ℕ, ◌+◌, ◌*◌, ◌-◌, ◌≤◌, ◌==◌, ◌||◌, leb, ltb, if◌then◌else◌, Bool, true, false, Option, Some, None, List, [], ◌∷◌, ◌++◌, length, map, take, drop, sym, subst, arith}
use Rattle.std.specs.List.{AllByRecursion}
use Rattle.rf_base_document.specs.Document.{Doc, Hard, Concat, Nest, Align, Flatten, Choice, Charge, IsDocument}
use Rattle.rf_base_document.specs.Sequence.{seq}
use Rattle.rf_base_optimum.specs.MostPieces.{most_pieces}
use Rattle.rf_base_optimum.specs.Paragraphs.{EachIsDocument}
use Rattle.rf_base_grammar.specs.Token.{Token}
use Rattle.rf_base_style.specs.declared.columns.Columns.TheVariants.{Characters}
use Rattle.rf_base_style.specs.declared.rules.Charges.{Charges}
use Rattle.rf_base_style.specs.declared.rules.Form.{Form}
use Rattle.rf_base_style.specs.declared.rules.Form.TheVariants as form
use Rattle.rf_base_style.specs.declared.rules.Rule.{Rule}
use Rattle.rf_base_style.specs.Table.{Table, StyleView, no_charges, head_rule, AreCharges, AreRules}
use Rattle.rf_base_style.proofs.Tables.{heads_have_rules}
use Rattle.rf_base_tree.specs.declared.separators.Want.{Want}
use Rattle.rf_base_tree.specs.declared.separators.Want.TheVariants as want
use Rattle.rf_base_tree.specs.Trees.{Tree, Leaf, Point, Comment, Prefixed, DatumComment, Listed, Forest, Empty, Then, spelling_at, tree_items, forest_items}
use Rattle.rf_base_tree.specs.Slots.{Entry, Slot}
use Rattle.rf_base_tree.specs.Cut.{slots_of}
use Rattle.rf_base_tree.proofs.Cuts.{slots_of_cut}
use Rattle.rf_base_file.specs.declared.shapes.Shape.{Shape}
use Rattle.rf_base_file.specs.declared.shapes.Shape.TheVariants.{Application, Hanging, Plain, Body}
use Rattle.rf_base_file.specs.declared.shapes.Role.{Role}
use Rattle.rf_base_file.specs.declared.shapes.Role.TheVariants.{Free, Clause, Bindings}
use Rattle.rf_base_file.specs.declared.shapes.Roles.{Roles}
use Rattle.rf_base_file.specs.declared.shapes.Roles.TheVariants.{AllFree, ClausesBehind, BindingsBehind}
use Rattle.rf_base_file.specs.declared.shapes.Way.{Way}
use Rattle.rf_base_file.specs.Rows.{Part, part, mark_doc, gap_docs, Step, step, steps_docs, steps_last, steps_wanting, prefixed_doc, inner_docs, whats, slot_parts}
use Rattle.rf_base_file.specs.Shapes.{Slots, drop_doc, first_then, hung_doc, hung_docs, hang_doc, in_line_doc, column_part, column_docs, in_column_doc, body_want, charged, choice_of, column_layouts, line_layouts, shape_doc}
use Rattle.rf_base_file.specs.Ways.{Piece, part_in, slots_in, way, body_way, form_way, word_way, way_of, quoted_behind, first_word, data_count, named_headers}
use Rattle.rf_base_file.specs.FileDocument.{body_docs, list_doc, is_vector, tree_piece, forest_entries, top_part, file_docs, file_doc}
use Rattle.rf_base_file.specs.ByForms.{parts_paragraphs, top_slots, file_paragraphs}
use Rattle.rf_base_file.proofs.Parts.{step_parts}
use Rattle.rf_base_file.proofs.SlotStrands.{step_parts-append}
use Rattle.rf_base_file.proofs.TreeStrands.{tops_are}
use Rattle.rf_base_file.proofs.Sizes.{DocSized, DocsSized, more_docs, docs-append, one_doc, seq_sized, item_sized, gap_pieces, gap_sized, some_gap, PartSized, PartsSized, more_parts, parts-append, parts_cut, one_part, steps_sized, wanting_sized, row_sized, PieceSized, PiecesSized, PiecesSized-cons, pieces_sized, slots_sized}

more_doc : (d : Doc) (n m : ℕ) → n ≤ m → DocSized d n → DocSized d m
more_doc d n m p h = let most = h.1 in (h.0, omega (arith, most))

align_sized : (d : Doc) (n : ℕ) → DocSized d n → DocSized (Align d) n
unfolding IsDocument most_pieces
align_sized d n h = h

nest_sized : (d : Doc) (n : ℕ) → DocSized d n → DocSized (Nest 1 d) n
unfolding IsDocument most_pieces
nest_sized d n h = ((omega arith, h.0), h.1)

flatten_sized : (d : Doc) (n : ℕ) → DocSized d n → DocSized (Flatten d) n
unfolding IsDocument most_pieces
flatten_sized d n h = h

choice_sized : (d e : Doc) (n : ℕ) → DocSized d n → DocSized e n → DocSized (Choice d e) n
unfolding IsDocument most_pieces
choice_sized d e n h k = let first = h.1 in let second = k.1 in ((h.0, k.0), omega (arith, first, second))

charge_sized : (k : ℕ) (d : Doc) (n : ℕ) → k ≤ 1000 → DocSized d n → DocSized (Charge k d) (n + 1)
unfolding IsDocument most_pieces
charge_sized k d n p h = let most = h.1 in ((p, h.0), omega (arith, most))

pub concat_sized : (a b : Doc) (n m : ℕ) → DocSized a n → DocSized b m → DocSized (Concat a b) (n + m)
unfolding IsDocument most_pieces
concat_sized a b n m h k = let first = h.1 in let second = k.1 in ((h.0, k.0), omega (arith, first, second))

charged_sized : (k : ℕ) (d : Doc) (n : ℕ) → k ≤ 1000 → DocSized d n → DocSized (charged k d) (n + 1)
charged_sized k d n p h = by_test (k == 0)
  where
    by_test : (b : Bool) → DocSized (if b then d else Charge k d) (n + 1)
    by_test true = more_doc d n (n + 1) (omega arith) h
    by_test false = charge_sized k d n p h

choices_sized : (d : Doc) (others : List Doc) (n : ℕ) → DocSized d n → AllByRecursion (λ e. DocSized e n) others →
    DocSized (choice_of d others) n
unfolding choice_of
choices_sized d [] n h k = h
choices_sized d (e ∷ others) n h k = choice_sized d (choice_of e others) n h (choices_sized e others n k.0 k.1)

-- the inside of a list up to its closer
inner_sized : (ts : List Token) (before : ℕ) (steps : List Step) (closer n : ℕ) → PartsSized ts (step_parts steps) n →
    DocsSized (inner_docs ts before steps closer) (n + gap_pieces ts closer)
inner_sized ts before steps closer n h =
    docs-append (steps_docs ts before steps) (gap_docs ts (steps_last before steps) closer want.Nothing) n
    (gap_pieces ts closer)
    (steps_sized ts before steps n h) (gap_sized ts (steps_last before steps) closer want.Nothing)

inner_seq : (ts : List Token) (before : ℕ) (steps : List Step) (closer n : ℕ) → PartsSized ts (step_parts steps) n →
    DocSized (seq (inner_docs ts before steps closer)) (n + gap_pieces ts closer)
inner_seq ts before steps closer n h =
    let some = some_gap ts closer in
    seq_sized (inner_docs ts before steps closer) (n + gap_pieces ts closer) (omega (arith, some))
    (inner_sized ts before steps closer n h)

first_wanting : (ts : List Token) (v w : Want) (p : Part) (parts : List Part) (n : ℕ) → PartsSized ts (p ∷ parts) n →
    PartsSized ts (step_parts (step v p ∷ steps_wanting w parts)) n
unfolding step_parts PartsSized
first_wanting ts v w p parts n h = (h.0, h.1, h.2, h.3, wanting_sized ts w parts h.1 h.4)

drop_sized : (ts : List Token) (opener : ℕ) (s : Part) (slots : List Part) (closer n : ℕ) →
    PartsSized ts (s ∷ slots) n →
    DocSized (drop_doc ts opener s slots closer) (n + gap_pieces ts closer)
drop_sized ts opener s slots closer n h =
    let steps : List Step = step want.Nothing s ∷ steps_wanting want.Line slots in
    align_sized (seq (inner_docs ts opener steps closer)) (n + gap_pieces ts closer)
    (inner_seq ts opener steps closer n (first_wanting ts want.Nothing want.Line s slots n h))

first_then_sized : (ts : List Token) (l : Slots) (docs : List Doc) (k m : ℕ) → 1 ≤ m → PartSized ts l.first k →
    DocsSized docs m → DocSized (first_then ts l docs) (k + m)
unfolding step_parts
first_then_sized ts l docs k m p h g =
    let steps : List Step = step want.Nothing l.first ∷ [] in
    align_sized (seq (steps_docs ts l.opener steps ++ docs)) (k + m)
    (seq_sized (steps_docs ts l.opener steps ++ docs) (k + m) (omega arith)
    (docs-append (steps_docs ts l.opener steps) docs k m (steps_sized ts l.opener steps k (one_part ts l.first k h)) g))

-- the second slot and the others below it, with the gap before them
hung_sized : (ts : List Token) (before : ℕ) (next : Part) (slots : List Part) (closer k m : ℕ) → PartSized ts next k →
    PartsSized ts slots m →
    DocsSized (hung_docs ts before next slots closer) (k + m + gap_pieces ts closer)
unfolding DocsSized
hung_sized ts before next slots closer k m h g =
    let steps : List Step = steps_wanting want.Line slots in
    let some = some_gap ts closer in
    let all = h.1 in
    let inner = inner_sized ts next.last steps closer m (wanting_sized ts want.Line slots m g) in
    let size : ℕ = most_pieces next.doc + (m + gap_pieces ts closer) in
    let row : DocsSized (next.doc ∷ inner_docs ts next.last steps closer) size =
    (most_pieces next.doc, m + gap_pieces ts closer, omega arith, (h.0, omega arith), inner) in
    let below : DocSized (hung_doc ts next slots closer) size =
    align_sized (seq (next.doc ∷ inner_docs ts next.last steps closer)) size
    (seq_sized (next.doc ∷ inner_docs ts next.last steps closer) size (omega (arith, some)) row) in
    more_docs (hung_docs ts before next slots closer) (gap_pieces ts next.first + size) (k + m + gap_pieces ts closer)
    (omega (arith, all))
    (docs-append (gap_docs ts before next.first want.Space) (hung_doc ts next slots closer ∷ [])
    (gap_pieces ts next.first) size
    (gap_sized ts before next.first want.Space) (one_doc (hung_doc ts next slots closer) size below))

column_part_sized : (ts : List Token) (next : Part) (headers : List Part) (k m : ℕ) → PartSized ts next k →
    PartsSized ts headers m → PartSized ts (column_part ts next headers) (k + m)
column_part_sized ts next headers k m h g =
    let steps : List Step = steps_wanting want.Line headers in
    let row = row_sized ts next steps k m (k + m) (omega arith) h (wanting_sized ts want.Line headers m g) in
    let whole =
    align_sized (seq (next.doc ∷ steps_docs ts next.last steps)) row.0
    (seq_sized (next.doc ∷ steps_docs ts next.last steps) row.0 row.2 row.1) in
    let most = whole.1 in
    let sum = row.3 in
    (whole.0, omega (arith, most, sum))

column_docs_sized : (ts : List Token) (l : Slots) (headers : List Part) (w : Want) (bodies : List Part) (k m n : ℕ) →
    PartSized ts l.second k →
    PartsSized ts headers m → PartsSized ts bodies n →
    DocsSized (column_docs ts l headers w bodies) (k + m + n + gap_pieces ts l.closer)
unfolding PartsSized step_parts
column_docs_sized ts l headers w [] k m n h g b =
    more_docs (hung_docs ts l.first.last l.second headers l.closer) (k + m + gap_pieces ts l.closer)
    (k + m + n + gap_pieces ts l.closer) (omega arith)
    (hung_sized ts l.first.last l.second headers l.closer k m h g)
column_docs_sized ts l headers w (body ∷ bodies) k m n h g b =
    let column : Part = column_part ts l.second headers in
    let steps : List Step = step want.Space column ∷ steps_wanting w (body ∷ bodies) in
    let parts : PartsSized ts (step_parts steps) (k + m + n) =
    (k + m, n, omega arith, column_part_sized ts l.second headers k m h g, wanting_sized ts w (body ∷ bodies) n b) in
    inner_sized ts l.first.last steps l.closer (k + m + n) parts

-- the slots of a list have at most so many pieces with the gaps before them
abbrev SlotsSized : List Token → Slots → ℕ → Type 0
SlotsSized ts l n = PartsSized ts (l.first ∷ l.second ∷ l.others) n

hang_sized : (ts : List Token) (l : Slots) (n : ℕ) → SlotsSized ts l n →
    DocSized (hang_doc ts l) (n + gap_pieces ts l.closer)
unfolding PartsSized
hang_sized ts l n h =
    let some = some_gap ts l.closer in
    let sum : h.0 + h.1 ≤ n = h.2 in
    let rest = h.4 in
    let more : rest.0 + rest.1 ≤ h.1 = rest.2 in
    more_doc (hang_doc ts l) (h.0 + (rest.0 + rest.1 + gap_pieces ts l.closer)) (n + gap_pieces ts l.closer)
    (omega arith)
    (first_then_sized ts l (hung_docs ts l.first.last l.second l.others l.closer) h.0
    (rest.0 + rest.1 + gap_pieces ts l.closer) (omega (arith, some)) h.3
    (hung_sized ts l.first.last l.second l.others l.closer rest.0 rest.1 rest.3 rest.4))

in_line_sized : (ts : List Token) (l : Slots) (c : ℕ) (w : Want) (n : ℕ) → SlotsSized ts l n →
    DocSized (in_line_doc ts l c w) (n + gap_pieces ts l.closer)
unfolding PartsSized
in_line_sized ts l c w n h =
    let some = some_gap ts l.closer in
    let parts : List Part = l.second ∷ l.others in
    let sum : h.0 + h.1 ≤ n = h.2 in
    let cut = parts_cut ts c parts h.1 h.4 in
    let more : cut.0 + cut.1 ≤ h.1 = cut.2 in
    let steps : List Step = steps_wanting want.Space (take c parts) ++ steps_wanting w (drop c parts) in
    let all : PartsSized ts (step_parts steps) (cut.0 + cut.1) =
    subst (λ (ps : List Part). PartsSized ts ps (cut.0 + cut.1))
    (sym (step_parts-append (steps_wanting want.Space (take c parts)) (steps_wanting w (drop c parts))))
    (parts-append ts (step_parts (steps_wanting want.Space (take c parts)))
    (step_parts (steps_wanting w (drop c parts))) cut.0 cut.1
    (wanting_sized ts want.Space (take c parts) cut.0 cut.3) (wanting_sized ts w (drop c parts) cut.1 cut.4)) in
    let inner =
    nest_sized (seq (inner_docs ts l.first.last steps l.closer)) (cut.0 + cut.1 + gap_pieces ts l.closer)
    (inner_seq ts l.first.last steps l.closer (cut.0 + cut.1) all) in
    more_doc (in_line_doc ts l c w) (h.0 + (cut.0 + cut.1 + gap_pieces ts l.closer)) (n + gap_pieces ts l.closer)
    (omega arith)
    (first_then_sized ts l (Nest 1 (seq (inner_docs ts l.first.last steps l.closer)) ∷ []) h.0
    (cut.0 + cut.1 + gap_pieces ts l.closer) (omega (arith, some)) h.3
    (one_doc (Nest 1 (seq (inner_docs ts l.first.last steps l.closer))) (cut.0 + cut.1 + gap_pieces ts l.closer) inner))

in_column_sized : (ts : List Token) (l : Slots) (c : ℕ) (w : Want) (n : ℕ) → SlotsSized ts l n →
    DocSized (in_column_doc ts l c w) (n + gap_pieces ts l.closer)
unfolding PartsSized
in_column_sized ts l c w n h =
    let some = some_gap ts l.closer in
    let sum : h.0 + h.1 ≤ n = h.2 in
    let rest = h.4 in
    let more : rest.0 + rest.1 ≤ h.1 = rest.2 in
    let cut = parts_cut ts c l.others rest.1 rest.4 in
    let most : cut.0 + cut.1 ≤ rest.1 = cut.2 in
    let size : ℕ = rest.0 + cut.0 + cut.1 + gap_pieces ts l.closer in
    let docs : List Doc = column_docs ts l (take c l.others) w (drop c l.others) in
    let inner =
    nest_sized (seq docs) size (seq_sized docs size (omega (arith, some))
    (column_docs_sized ts l (take c l.others) w (drop c l.others) rest.0 cut.0 cut.1 rest.3 cut.3 cut.4)) in
    more_doc (in_column_doc ts l c w) (h.0 + size) (n + gap_pieces ts l.closer) (omega arith)
    (first_then_sized ts l (Nest 1 (seq docs) ∷ []) h.0 size (omega (arith, some)) h.3
    (one_doc (Nest 1 (seq docs)) size inner))

column_layouts_sized : (ts : List Token) (l : Slots) (c : ℕ) (w : Want) (k n : ℕ) (more : List Doc) → k ≤ 1000 →
    SlotsSized ts l n →
    AllByRecursion (λ e. DocSized e (n + gap_pieces ts l.closer + 1)) more →
    AllByRecursion (λ e. DocSized e (n + gap_pieces ts l.closer + 1)) (column_layouts ts l c w k ++ more)
column_layouts_sized ts l c w k n more p h m = by_test (leb 2 c)
  where
    by_test : (b : Bool) →
        AllByRecursion (λ e. DocSized e (n + gap_pieces ts l.closer + 1))
        ((if b then charged k (in_column_doc ts l (c - 1) w) ∷ [] else []) ++ more)
    by_test true = (
      charged_sized k (in_column_doc ts l (c - 1) w) (n + gap_pieces ts l.closer) p
          (in_column_sized ts l (c - 1) w n h),
      m,
    )
    by_test false = m

line_layouts_sized : (one_line : Bool) (d : Doc) (k n : ℕ) → k ≤ 1000 → DocSized d n →
    AllByRecursion (λ e. DocSized e (n + 1)) (line_layouts one_line d k)
line_layouts_sized true d k n p h = (charged_sized k (Flatten d) n p (flatten_sized d n h), tt)
line_layouts_sized false d k n p h = tt

shape_sized : (ts : List Token) (shape : Shape) (charges : Charges) (l : Slots) (n : ℕ) → AreCharges charges →
    SlotsSized ts l n →
    DocSized (shape_doc shape charges ts l) (n + gap_pieces ts l.closer + 1)
shape_sized ts Application charges l n are h =
    let d : Doc = drop_doc ts l.opener l.first (l.second ∷ l.others) l.closer in
    let size : ℕ = n + gap_pieces ts l.closer in
    let dropped = drop_sized ts l.opener l.first (l.second ∷ l.others) l.closer n h in
    choices_sized (charged charges.broken d)
    (charged charges.hung (hang_doc ts l) ∷ charged charges.flat (Flatten d) ∷ []) (size + 1)
    (charged_sized charges.broken d size are.broken dropped) (
      charged_sized charges.hung (hang_doc ts l) size are.hung (hang_sized ts l n h),
      (charged_sized charges.flat (Flatten d) size are.flat (flatten_sized d size dropped), tt),
    )
shape_sized ts Hanging charges l n are h =
    let d : Doc = drop_doc ts l.opener l.first (l.second ∷ l.others) l.closer in
    let size : ℕ = n + gap_pieces ts l.closer in
    let dropped = drop_sized ts l.opener l.first (l.second ∷ l.others) l.closer n h in
    choices_sized (charged charges.hung (hang_doc ts l)) (charged charges.flat (Flatten d) ∷ []) (size + 1)
    (charged_sized charges.hung (hang_doc ts l) size are.hung (hang_sized ts l n h))
    (charged_sized charges.flat (Flatten d) size are.flat (flatten_sized d size dropped), tt)
shape_sized ts Plain charges l n are h =
    let d : Doc = drop_doc ts l.opener l.first (l.second ∷ l.others) l.closer in
    let size : ℕ = n + gap_pieces ts l.closer in
    let dropped = drop_sized ts l.opener l.first (l.second ∷ l.others) l.closer n h in
    choices_sized (charged charges.broken d) (charged charges.flat (Flatten d) ∷ []) (size + 1)
    (charged_sized charges.broken d size are.broken dropped)
    (charged_sized charges.flat (Flatten d) size are.flat (flatten_sized d size dropped), tt)
shape_sized ts (Body c one_line) charges l n are h =
    let w : Want = body_want one_line in
    let d : Doc = in_line_doc ts l c w in
    let size : ℕ = n + gap_pieces ts l.closer in
    let in_line = in_line_sized ts l c w n h in
    choices_sized (charged charges.broken d)
    (column_layouts ts l c w charges.hung ++ line_layouts one_line d charges.flat) (size + 1)
    (charged_sized charges.broken d size are.broken in_line)
    (column_layouts_sized ts l c w charges.hung n (line_layouts one_line d charges.flat) are.hung h
    (line_layouts_sized one_line d charges.flat size are.flat in_line))

body_sized : (ts : List Token) (w : Way) (opener : ℕ) (slots : List Part) (closer n : ℕ) → AreCharges w.charges →
    PartsSized ts slots n →
    DocsSized (body_docs ts w opener slots closer) (n + gap_pieces ts closer + 1)
unfolding DocsSized
body_sized ts w opener [] closer n are h = tt
body_sized ts w opener (s ∷ []) closer n are h =
    more_docs (drop_doc ts opener s [] closer ∷ []) (n + gap_pieces ts closer) (n + gap_pieces ts closer + 1)
    (omega arith)
    (one_doc (drop_doc ts opener s [] closer) (n + gap_pieces ts closer) (drop_sized ts opener s [] closer n h))
body_sized ts w opener (s ∷ next ∷ slots) closer n are h =
    let l : Slots = record { opener = opener; first = s; second = next; others = slots; closer = closer } in
    one_doc (shape_doc w.shape w.charges ts l) (n + gap_pieces ts closer + 1)
    (shape_sized ts w.shape w.charges l n are h)

-- how many pieces an item may have, with the gap before it and a charge, and items together
unfoldable pub room : List Token → ℕ → ℕ
room ts item = 2 * length (spelling_at ts item) + 3 + gap_pieces ts item

unfoldable pub rooms : List Token → List ℕ → ℕ
rooms ts [] = 0
rooms ts (item ∷ items) = room ts item + rooms ts items

pub rooms-append : (ts : List Token) (xs ys : List ℕ) → rooms ts (xs ++ ys) ≡ rooms ts xs + rooms ts ys
unfolding rooms
rooms-append ts [] ys = omega arith
rooms-append ts (x ∷ xs) ys = let rest = rooms-append ts xs ys in omega (arith, rest)

list_sized : (ts : List Token) (w : Way) (opener : ℕ) (slots : List Part) (closer n : ℕ) → AreCharges w.charges →
    PartsSized ts slots n →
    PartSized ts (part opener closer (list_doc ts w opener slots closer)) (room ts opener + (n + room ts closer))
unfolding room DocsSized
list_sized ts w opener slots closer n are h =
    let first : ℕ = 2 * length (spelling_at ts opener) + 2 in
    let last : ℕ = 2 * length (spelling_at ts closer) + 2 in
    let body : ℕ = n + gap_pieces ts closer + 1 in
    let docs : List Doc = body_docs ts w opener slots closer ++ mark_doc ts closer ∷ [] in
    let behind =
    docs-append (body_docs ts w opener slots closer) (mark_doc ts closer ∷ []) body last
    (body_sized ts w opener slots closer n are h)
    (one_doc (mark_doc ts closer) last (item_sized Characters ts closer)) in
    let whole =
    seq_sized (mark_doc ts opener ∷ docs) (first + (body + last)) (omega arith) (
      first,
      body + last,
      omega arith,
      item_sized Characters ts opener,
      behind,
    ) in
    let most = whole.1 in
    (whole.0, omega (arith, most))

prefixed_steps : (ts : List Token) (item last : ℕ) (steps : List Step) (n : ℕ) → PartsSized ts (step_parts steps) n →
    PartSized ts (part item last (Concat (mark_doc ts item) (Align (seq (steps_docs ts item steps)))))
    (room ts item + n)
unfolding room
prefixed_steps ts item last steps n h =
    let first : ℕ = 2 * length (spelling_at ts item) + 2 in
    let behind =
    align_sized (seq (steps_docs ts item steps)) (n + 1)
    (seq_sized (steps_docs ts item steps) (n + 1) (omega arith)
    (more_docs (steps_docs ts item steps) n (n + 1) (omega arith) (steps_sized ts item steps n h))) in
    let whole =
    concat_sized (mark_doc ts item) (Align (seq (steps_docs ts item steps))) first (n + 1)
    (item_sized Characters ts item) behind in
    let most = whole.1 in
    (whole.0, omega (arith, most))

prefixed_sized : (ts : List Token) (item : ℕ) (lead : List Part) (inner : Part) (k m : ℕ) → PartsSized ts lead k →
    PartSized ts inner m →
    PartSized ts (part item inner.last (prefixed_doc ts item lead inner)) (room ts item + (k + m))
unfolding step_parts PartsSized
prefixed_sized ts item [] inner k m h g =
    prefixed_steps ts item inner.last (step want.Nothing inner ∷ []) (k + m)
    (more_parts ts (inner ∷ []) m (k + m) (omega arith) (one_part ts inner m g))
prefixed_sized ts item (c ∷ lead) inner k m h g =
    let sum : h.0 + h.1 ≤ k = h.2 in
    let rest : PartsSized ts (step_parts (steps_wanting want.Space lead ++ step want.Space inner ∷ [])) (h.1 + m) =
    subst (λ (ps : List Part). PartsSized ts ps (h.1 + m))
    (sym (step_parts-append (steps_wanting want.Space lead) (step want.Space inner ∷ [])))
    (parts-append ts (step_parts (steps_wanting want.Space lead)) (inner ∷ []) h.1 m
    (wanting_sized ts want.Space lead h.1 h.4) (one_part ts inner m g)) in
    prefixed_steps ts item inner.last (step want.Nothing c
    ∷ (steps_wanting want.Space lead ++ step want.Space inner ∷ [])) (k + m)
    (h.0, h.1 + m, omega arith, h.3, rest)

-- the charges of a list are those of a rule
none_are : AreCharges no_charges
none_are = record { broken = omega arith; hung = omega arith; flat = omega arith }

body_way_charges : (charges : Charges) (headers flat count : ℕ) (roles : Roles) → AreCharges charges →
    AreCharges (body_way charges headers flat count roles).charges
body_way_charges charges headers flat count roles are = by_test (ltb headers count)
  where
    by_test : (b : Bool) → let w : Way =
        if b then way (Body headers (leb (count - headers - 1) flat)) charges roles
        else way Application charges AllFree in AreCharges w.charges
    by_test true = are
    by_test false = are

form_way_charges : (f : Form) (rule : Rule) (named : Bool) (count : ℕ) → AreCharges rule.charges →
    AreCharges (form_way f rule named count).charges
form_way_charges form.Body rule named count are = body_way_charges rule.charges rule.header rule.flat count AllFree are
form_way_charges form.Clauses rule named count are =
    body_way_charges rule.charges rule.header rule.flat count (ClausesBehind (rule.header + 1)) are
form_way_charges form.Bindings rule named count are =
    body_way_charges rule.charges (named_headers rule.header named) rule.flat count
    (BindingsBehind (named_headers rule.header named)) are
form_way_charges _ rule named count are = are

word_way_charges : (table : Table) (o : Option (List ℕ)) (slots : List (Slot Piece)) → AreRules table →
    AreCharges (word_way table o slots).charges
word_way_charges table None slots rules = none_are
word_way_charges table (Some name) slots rules =
    form_way_charges (head_rule table name).form (head_rule table name) _ (data_count slots)
    (heads_have_rules table name rules).charges

way_charges : (table : Table) (quoted : Bool) (role : Role) (slots : List (Slot Piece)) → AreRules table →
    AreCharges (way_of table quoted role slots).charges
way_charges table false Free slots rules = word_way_charges table (first_word slots) slots rules
way_charges table _ _ slots rules = none_are

-- trees
item_part_sized : (style : StyleView) (ts : List Token) (item : ℕ) →
    PieceSized ts (tree_piece style ts (Comment item)) (room ts item + 0)
unfolding tree_piece room
item_part_sized style ts item quoted role = let h = item_sized style.columns ts item in let most = h.1 in (
  h.0,
  omega (arith, most),
)

mutual
  unfolding tree_piece forest_entries tree_items forest_items rooms PiecesSized

  tree_sized : (style : StyleView) (ts : List Token) (t : Tree) → AreRules style.table →
      PieceSized ts (tree_piece style ts t) (rooms ts (tree_items t))
  tree_sized style ts (Leaf item) rules quoted role = item_part_sized style ts item quoted role
  tree_sized style ts (Point item) rules quoted role = item_part_sized style ts item quoted role
  tree_sized style ts (Comment item) rules quoted role = item_part_sized style ts item quoted role
  tree_sized style ts (Prefixed item lead inner) rules quoted role =
      let q : Bool = quoted_behind (spelling_at ts item) quoted in
      subst (λ (n : ℕ). PartSized ts (part_in quoted role (tree_piece style ts (Prefixed item lead inner)))
      (room ts item + n)) (sym (rooms-append ts (forest_items lead) (tree_items inner)))
      (prefixed_sized ts item (map (part_in q Free) (whats (forest_entries style ts lead)))
      (part_in q Free (tree_piece style ts inner)) (rooms ts (forest_items lead)) (rooms ts (tree_items inner))
      (pieces_sized ts q Free (whats (forest_entries style ts lead)) (rooms ts (forest_items lead))
      (forest_sized style ts lead rules)) (tree_sized style ts inner rules q Free))
  tree_sized style ts (DatumComment item lead inner) rules quoted role =
      subst (λ (n : ℕ). PartSized ts (part_in quoted role (tree_piece style ts (DatumComment item lead inner)))
      (room ts item + n)) (sym (rooms-append ts (forest_items lead) (tree_items inner)))
      (prefixed_sized ts item (map (part_in quoted Free) (whats (forest_entries style ts lead)))
      (part_in quoted Free (tree_piece style ts inner)) (rooms ts (forest_items lead)) (rooms ts (tree_items inner))
      (pieces_sized ts quoted Free (whats (forest_entries style ts lead)) (rooms ts (forest_items lead))
      (forest_sized style ts lead rules)) (tree_sized style ts inner rules quoted Free))
  tree_sized style ts (Listed opener entries closer) rules quoted role =
      let es : List (Entry Piece) = forest_entries style ts entries in
      let q : Bool = is_vector ts opener || quoted in
      let w : Way = way_of style.table q role (slots_of true es) in
      let sized =
      list_sized ts w opener (slot_parts ts (slots_in q w.roles (slots_of true es))) closer
      (rooms ts (forest_items entries)) (way_charges style.table q role (slots_of true es) rules)
      (slots_sized ts true q w.roles es (slots_of true es) (rooms ts (forest_items entries)) (slots_of_cut true es)
      (forest_sized style ts entries rules)) in
      let all = rooms-append ts (forest_items entries) (closer ∷ []) in
      let most = sized.1 in
      (sized.0, omega (arith, most, all))

  forest_sized : (style : StyleView) (ts : List Token) (f : Forest) → AreRules style.table →
      PiecesSized ts (whats (forest_entries style ts f)) (rooms ts (forest_items f))
  forest_sized style ts Empty rules = tt
  forest_sized style ts (Then t f) rules =
      subst (λ (n : ℕ). PiecesSized ts (tree_piece style ts t ∷ whats (forest_entries style ts f)) n)
      (sym (rooms-append ts (tree_items t) (forest_items f)))
      (PiecesSized-cons ts (tree_piece style ts t) (whats (forest_entries style ts f)) (rooms ts (tree_items t))
      (rooms ts (forest_items f)) (tree_sized style ts t rules) (forest_sized style ts f rules))

-- the slots of a file
pub tops_sized : (style : StyleView) (ts : List Token) (trees : Forest) → AreRules style.table →
    PartsSized ts (map (top_part style ts) (top_slots ts trees)) (rooms ts (forest_items trees))
tops_sized style ts trees rules =
    let es : List (Entry Piece) = forest_entries style ts trees in
    subst (λ (ps : List Part). PartsSized ts ps (rooms ts (forest_items trees))) (sym (tops_are style ts trees))
    (slots_sized ts false false AllFree es (slots_of false es) (rooms ts (forest_items trees)) (slots_of_cut false es)
    (forest_sized style ts trees rules))

parts_documents : (ts : List Token) (parts : List Part) (n : ℕ) → PartsSized ts parts n →
    EachIsDocument (parts_paragraphs ts parts)
unfolding PartsSized parts_paragraphs EachIsDocument
parts_documents ts [] n h = tt
parts_documents ts (p ∷ parts) n h = (h.3.0, parts_documents ts parts h.1 h.4)

-- each slot's document keeps the limits of documents
pub paragraphs_documents : (style : StyleView) (ts : List Token) (trees : Forest) → AreRules style.table →
    EachIsDocument (file_paragraphs style ts trees)
paragraphs_documents style ts trees rules =
    parts_documents ts (map (top_part style ts) (top_slots ts trees)) (rooms ts (forest_items trees))
    (tops_sized style ts trees rules)

file_docs_sized : (ts : List Token) (parts : List Part) (n : ℕ) → PartsSized ts parts n →
    DocsSized (file_docs ts parts) (n + 1)
unfolding PartsSized DocsSized IsDocument most_pieces
file_docs_sized ts [] n h = tt
file_docs_sized ts (p ∷ parts) n h =
    let row =
    row_sized ts p (steps_wanting want.Must parts) h.0 h.1 n h.2 h.3 (wanting_sized ts want.Must parts h.1 h.4) in
    let sum = row.3 in
    more_docs (file_docs ts (p ∷ parts)) (row.0 + 1) (n + 1) (omega (arith, sum))
    (docs-append (p.doc ∷ steps_docs ts p.last (steps_wanting want.Must parts)) (Hard ∷ []) row.0 1 row.1
    (one_doc Hard 1 (tt, omega arith)))

pub file_sized : (style : StyleView) (ts : List Token) (trees : Forest) → AreRules style.table →
    DocSized (file_doc style ts trees) (rooms ts (forest_items trees) + 1)
unfolding file_doc
file_sized style ts trees rules =
    let parts : List Part = map (top_part style ts) (top_slots ts trees) in
    seq_sized (file_docs ts parts) (rooms ts (forest_items trees) + 1) (omega arith)
    (file_docs_sized ts parts (rooms ts (forest_items trees)) (tops_sized style ts trees rules))
