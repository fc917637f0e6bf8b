-- Lists of each shape, and prefixes and skips before their data, have the strands of their items.
use Rattle.std.proofs.Common.{◌≡◌, ℕ, ◌+◌, ◌-◌, ◌==◌, leb, if◌then◌else◌, Bool, true, false, List, [], ◌∷◌, ◌++◌, take, drop, refl, sym, ap, ◌∙◌, subst, append_assoc, append-nil}
use Rattle.std.specs.List.{AllByRecursion}
use Rattle.std.proofs.lemmas.List.{take-append-drop}
use Rattle.rf_base_document.specs.Document.{Doc, Concat, Nest, Align, Flatten, Charge}
use Rattle.rf_base_document.specs.Sequence.{seq}
use Rattle.rf_base_grammar.specs.Token.{Token}
use Rattle.rf_base_style.specs.declared.columns.Columns.TheVariants.{Characters}
use Rattle.rf_base_style.specs.declared.rules.Charges.{Charges}
use Rattle.rf_base_tree.specs.declared.separators.Want.{Want}
use Rattle.rf_base_tree.specs.declared.separators.Want.TheVariants as want
use Rattle.rf_base_file.specs.declared.shapes.Shape.{Shape}
use Rattle.rf_base_file.specs.declared.shapes.Shape.TheVariants.{Application, Hanging, Plain, Body}
use Rattle.rf_base_file.specs.declared.shapes.Way.{Way}
use Rattle.rf_base_file.specs.Rows.{Part, part, mark_doc, gap_docs, Step, step, steps_docs, steps_last, steps_wanting, prefixed_doc, inner_docs}
use Rattle.rf_base_file.specs.Shapes.{Slots, drop_doc, first_then, hung_doc, hung_docs, hang_doc, in_line_doc, column_part, column_docs, in_column_doc, body_want, charged, choice_of, column_layouts, line_layouts, shape_doc}
use Rattle.rf_base_file.specs.FileDocument.{body_docs, list_doc}
use Rattle.rf_base_file.specs.Signature.{Strand, Drawn, Signed}
use Rattle.rf_base_file.proofs.Signatures.{SignedParts, SignedParts-nil, SignedParts-cons, SignedParts-one, SignedParts-append, seq-signed}
use Rattle.rf_base_file.proofs.Parts.{item_strands, gap_at, behind, last_of, last_of-append, behind-append, gap-signed, items_strands, PartSigned, item-signed, Sections, Sections-append, SectionsCut, Sections-cut, PartsSigned, PartsSigned-one, part_last, part_then, step_parts, step_parts-wanting, steps-signed, steps_last-is}
use Rattle.rf_base_file.proofs.SlotStrands.{step_parts-append}

-- the items behind an opener, and the gap before the closer
unfoldable pub inner_strands : List Token → ℕ → List ℕ → ℕ → List Strand
inner_strands ts n items closer = behind ts n items ++ gap_at ts (last_of n items) closer

-- steps of a list up to the closer have these strands
inner-signed : (ts : List Token) (n : ℕ) (steps : List Step) (closer : ℕ) (items : List ℕ) (i : ℕ) (flat : Bool) →
    PartsSigned ts (step_parts steps) items →
    SignedParts (inner_docs ts n steps closer) i flat (inner_strands ts n items closer)
unfolding inner_strands
inner-signed ts n steps closer items i flat h =
    SignedParts-append (steps_docs ts n steps) (gap_docs ts (steps_last n steps) closer want.Nothing) i flat
    (behind ts n items) (gap_at ts (last_of n items) closer)
    (steps-signed ts n steps items i flat h)
    (subst (λ (m : ℕ). SignedParts (gap_docs ts (steps_last n steps) closer want.Nothing) i flat (gap_at ts m closer))
    (sym (steps_last-is ts n steps items h))
    (gap-signed ts (steps_last n steps) closer want.Nothing i flat))

-- the steps of slots
pub wanting-signed : (ts : List Token) (w : Want) (parts : List Part) (items : List ℕ) → PartsSigned ts parts items →
    PartsSigned ts (step_parts (steps_wanting w parts)) items
wanting-signed ts w parts items h =
    subst (λ (ps : List Part). PartsSigned ts ps items) (sym (step_parts-wanting w parts)) h

first_wanting : (ts : List Token) (v w : Want) (p : Part) (parts : List Part) (items : List ℕ) →
    PartsSigned ts (p ∷ parts) items → PartsSigned ts (step_parts (step v p ∷ steps_wanting w parts)) items
unfolding step_parts Sections
first_wanting ts v w p parts items h = (h.0, h.1, h.2, h.3, wanting-signed ts w parts h.1 h.4)

-- each slot on a line of its own
drop-signed : (ts : List Token) (opener : ℕ) (s : Part) (slots : List Part) (closer : ℕ) (items : List ℕ) (i : ℕ)
    (flat : Bool) → PartsSigned ts (s ∷ slots) items →
    Signed (drop_doc ts opener s slots closer) i flat (inner_strands ts opener items closer)
unfolding Signed
drop-signed ts opener s slots closer items i flat h =
    let steps : List Step = step want.Nothing s ∷ steps_wanting want.Line slots in
    λ column. seq-signed (inner_docs ts opener steps closer) column flat (inner_strands ts opener items closer)
    (inner-signed ts opener steps closer items column flat (first_wanting ts want.Nothing want.Line s slots items h))

-- the strands of a list's items behind its first part
inner_front : (ts : List Token) (n : ℕ) (front rest : List ℕ) (closer : ℕ) →
    inner_strands ts n (front ++ rest) closer ≡ behind ts n front ++ inner_strands ts (last_of n front) rest closer
unfolding inner_strands
inner_front ts n front rest closer =
    ap (λ k. behind ts n (front ++ rest) ++ gap_at ts k closer) (last_of-append n front rest)
    ∙ ap (λ xs. xs ++ gap_at ts (last_of (last_of n front) rest) closer) (behind-append ts n front rest)
    ∙ append_assoc (behind ts n front) (behind ts (last_of n front) rest)
    (gap_at ts (last_of (last_of n front) rest) closer)

-- and behind its opener, where a part comes first
inner_part : (ts : List Token) (n : ℕ) (p : Part) (front rest : List ℕ) (closer : ℕ) (h : PartSigned ts p front) →
    inner_strands ts n (front ++ rest) closer
    ≡ gap_at ts n p.first ++ (items_strands ts p.first h.later ++ inner_strands ts p.last rest closer)
unfolding inner_strands
inner_part ts n p front rest closer h =
    let item : List Strand = items_strands ts p.first h.later in
    let end : List Strand = gap_at ts (last_of p.last rest) closer in
    let last : last_of n (front ++ rest) ≡ last_of p.last rest =
    last_of-append n front rest ∙ ap (λ k. last_of k rest) (part_last ts p front n h) in
    ap (λ k. behind ts n (front ++ rest) ++ gap_at ts k closer) last
    ∙ ap (λ xs. xs ++ end) (part_then ts n p front rest h)
    ∙ append_assoc (gap_at ts n p.first) (item ++ behind ts p.last rest) end
    ∙ ap (λ xs. gap_at ts n p.first ++ xs) (append_assoc item (behind ts p.last rest) end)

one_step : (ts : List Token) (w : Want) (p : Part) (items : List ℕ) → PartSigned ts p items →
    PartsSigned ts (step_parts (step w p ∷ [])) items
unfolding step_parts
one_step ts w p items h = PartsSigned-one ts p items h

-- the first slot behind the opener, and what stands behind it
first_then-signed : (ts : List Token) (l : Slots) (docs : List Doc) (front rest : List ℕ) (i : ℕ) (flat : Bool) →
    PartSigned ts l.first front →
    ((j : ℕ) → SignedParts docs j flat (inner_strands ts l.first.last rest l.closer)) →
    Signed (first_then ts l docs) i flat (inner_strands ts l.opener (front ++ rest) l.closer)
unfolding Signed
first_then-signed ts l docs front rest i flat h k =
    let steps : List Step = step want.Nothing l.first ∷ [] in
    let whole : inner_strands ts l.opener (front ++ rest) l.closer
    ≡ behind ts l.opener front ++ inner_strands ts l.first.last rest l.closer =
    inner_front ts l.opener front rest l.closer
    ∙ ap (λ n. behind ts l.opener front ++ inner_strands ts n rest l.closer) (part_last ts l.first front l.opener h) in
    λ column. subst (λ (xs : List Strand). Signed (seq (steps_docs ts l.opener steps ++ docs)) column flat xs)
    (sym whole)
    (seq-signed (steps_docs ts l.opener steps ++ docs) column flat _
    (SignedParts-append (steps_docs ts l.opener steps) docs column flat (behind ts l.opener front)
    (inner_strands ts l.first.last rest l.closer)
    (steps-signed ts l.opener steps front column flat (one_step ts want.Nothing l.first front h)) (k column)))

-- the second slot and the others below it, behind an item on its line
hung-signed : (ts : List Token) (before : ℕ) (next : Part) (slots : List Part) (closer : ℕ) (middle rest : List ℕ)
    (i : ℕ) (flat : Bool) → PartSigned ts next middle → PartsSigned ts slots rest →
    SignedParts (hung_docs ts before next slots closer) i flat (inner_strands ts before (middle ++ rest) closer)
unfolding Signed
hung-signed ts before next slots closer middle rest i flat h k =
    let item : List Strand = items_strands ts next.first h.later in
    let steps : List Step = steps_wanting want.Line slots in
    let end : List Strand = inner_strands ts next.last rest closer in
    subst (λ (xs : List Strand). SignedParts (hung_docs ts before next slots closer) i flat xs)
    (sym (inner_part ts before next middle rest closer h))
    (SignedParts-append (gap_docs ts before next.first want.Space) (hung_doc ts next slots closer ∷ []) i flat
    (gap_at ts before next.first) (item ++ end)
    (gap-signed ts before next.first want.Space i flat)
    (SignedParts-one (hung_doc ts next slots closer) i flat (item ++ end)
    (λ column. seq-signed (next.doc ∷ inner_docs ts next.last steps closer) column flat (item ++ end)
    (SignedParts-cons next.doc (inner_docs ts next.last steps closer) column flat item end (h.signed column flat)
    (inner-signed ts next.last steps closer rest column flat (wanting-signed ts want.Line slots rest k))))))

-- the second slot and headers below it are a part
column_part-signed : (ts : List Token) (next : Part) (headers : List Part) (middle some : List ℕ) →
    PartSigned ts next middle → PartsSigned ts headers some →
    PartSigned ts (column_part ts next headers) (middle ++ some)
unfolding Signed items_strands
column_part-signed ts next headers middle some h k =
    let steps : List Step = steps_wanting want.Line headers in
    let lines : PartsSigned ts (step_parts steps) some = wanting-signed ts want.Line headers some k in
    let first : List Strand = items_strands ts next.first h.later in
    let whole : items_strands ts next.first (h.later ++ some) ≡ first ++ behind ts next.last some =
    ap (λ xs. item_strands ts next.first ++ xs)
    (behind-append ts next.first h.later some ∙ ap (λ n. behind ts next.first h.later ++ behind ts n some) h.last_is)
    ∙ sym (append_assoc (item_strands ts next.first) (behind ts next.first h.later) (behind ts next.last some)) in
    record {
      later = h.later ++ some;
      items_are = ap (λ ms. ms ++ some) h.items_are;
      last_is =
          last_of-append next.first h.later some ∙ ap (λ n. last_of n some) h.last_is
          ∙ steps_last-is ts next.last steps some lines;
      signed =
          λ i flat column. subst (λ (xs : List Strand). Signed
          (seq (next.doc ∷ steps_docs ts next.last steps)) column flat xs) (sym whole)
          (seq-signed (next.doc ∷ steps_docs ts next.last steps) column flat (first ++ behind ts next.last some)
          (SignedParts-cons next.doc (steps_docs ts next.last steps) column flat first (behind ts next.last some)
          (h.signed column flat)
          (steps-signed ts next.last steps some column flat lines)));
    }

-- headers below one another, and the bodies
column_docs-signed : (ts : List Token) (l : Slots) (headers : List Part) (w : Want) (bodies : List Part)
    (middle some rest : List ℕ) (i : ℕ) (flat : Bool) → PartSigned ts l.second middle →
    PartsSigned ts headers some → PartsSigned ts bodies rest →
    SignedParts (column_docs ts l headers w bodies) i flat
    (inner_strands ts l.first.last (middle ++ (some ++ rest)) l.closer)
unfolding Sections step_parts
column_docs-signed ts l headers w [] middle some rest i flat h k m =
    let none : some ++ rest ≡ some = ap (λ xs. some ++ xs) m ∙ append-nil some in
    subst (λ (ms : List ℕ). SignedParts (hung_docs ts l.first.last l.second headers l.closer) i flat
    (inner_strands ts l.first.last (middle ++ ms) l.closer)) (sym none)
    (hung-signed ts l.first.last l.second headers l.closer middle some i flat h k)
column_docs-signed ts l headers w (b ∷ bodies) middle some rest i flat h k m =
    let column : Part = column_part ts l.second headers in
    let steps : List Step = step want.Space column ∷ steps_wanting w (b ∷ bodies) in
    let parts : PartsSigned ts (step_parts steps) ((middle ++ some) ++ rest) = (
      middle
          ++ some,
      rest,
      refl,
      column_part-signed ts l.second headers middle some h k,
      wanting-signed ts w
          (b ∷ bodies) rest m,
    ) in
    subst (λ (ms : List ℕ). SignedParts (inner_docs ts l.first.last steps l.closer) i flat
    (inner_strands ts l.first.last ms l.closer)) (append_assoc middle some rest)
    (inner-signed ts l.first.last steps l.closer ((middle ++ some) ++ rest) i flat parts)

-- parts cut behind so many
split-signed : (ts : List Token) (n : ℕ) (parts : List Part) (items : List ℕ) → PartsSigned ts parts items →
    SectionsCut (PartSigned ts) (take n parts) (drop n parts) items
split-signed ts n parts items h =
    Sections-cut (PartSigned ts) (take n parts) (drop n parts) items
    (subst (λ (ps : List Part). PartsSigned ts ps items) (sym (take-append-drop n parts)) h)

-- the slots stand for these items
abbrev pub SlotsSigned : List Token → Slots → List ℕ → Type 0
SlotsSigned ts l items = PartsSigned ts (l.first ∷ l.second ∷ l.others) items

-- each layout of a list has the strands of the list's items
abbrev pub ListSigned : List Token → Slots → List ℕ → Doc → Type 0
ListSigned ts l items d = (i : ℕ) (flat : Bool) → Signed d i flat (inner_strands ts l.opener items l.closer)

hang-signed : (ts : List Token) (l : Slots) (items : List ℕ) → SlotsSigned ts l items →
    ListSigned ts l items (hang_doc ts l)
unfolding Sections
hang-signed ts l items h i flat =
    let front : List ℕ = h.0 in
    let middle : List ℕ = h.4.0 in
    let rest : List ℕ = h.4.1 in
    let whole : items ≡ front ++ (middle ++ rest) = h.2 ∙ ap (λ ms. front ++ ms) h.4.2 in
    subst (λ (ms : List ℕ). Signed (hang_doc ts l) i flat (inner_strands ts l.opener ms l.closer)) (sym whole)
    (first_then-signed ts l _ front (middle ++ rest) i flat h.3
    (λ j. hung-signed ts l.first.last l.second l.others l.closer middle rest j flat h.4.3 h.4.4))

in_line-signed : (ts : List Token) (l : Slots) (n : ℕ) (w : Want) (items : List ℕ) → SlotsSigned ts l items →
    ListSigned ts l items (in_line_doc ts l n w)
unfolding Sections Signed
in_line-signed ts l n w items h i flat =
    let parts : List Part = l.second ∷ l.others in
    let cut : SectionsCut (PartSigned ts) (take n parts) (drop n parts) h.1 = split-signed ts n parts h.1 h.4 in
    let steps : List Step = steps_wanting want.Space (take n parts) ++ steps_wanting w (drop n parts) in
    let both : PartsSigned ts (step_parts steps) h.1 =
    subst (λ (ps : List Part). PartsSigned ts ps h.1)
    (sym (step_parts-append (steps_wanting want.Space (take n parts)) (steps_wanting w (drop n parts))))
    (subst
    (λ (ms : List ℕ). PartsSigned ts
    (step_parts (steps_wanting want.Space (take n parts))
    ++ step_parts (steps_wanting w (drop n parts))) ms) (sym cut.items_are)
    (Sections-append (PartSigned ts) _ _ cut.front cut.rest (wanting-signed ts want.Space (take n parts) cut.front cut.first)
    (wanting-signed ts w (drop n parts) cut.rest cut.second))) in
    subst (λ (ms : List ℕ). Signed (in_line_doc ts l n w) i flat (inner_strands ts l.opener ms l.closer)) (sym h.2)
    (first_then-signed ts l _ h.0 h.1 i flat h.3
    (λ j. SignedParts-one (Nest 1 (seq (inner_docs ts l.first.last steps l.closer))) j flat
    (inner_strands ts l.first.last h.1 l.closer)
    (seq-signed (inner_docs ts l.first.last steps l.closer) (j + 1) flat (inner_strands ts l.first.last h.1 l.closer)
    (inner-signed ts l.first.last steps l.closer h.1 (j + 1) flat both))))

in_column-signed : (ts : List Token) (l : Slots) (n : ℕ) (w : Want) (items : List ℕ) → SlotsSigned ts l items →
    ListSigned ts l items (in_column_doc ts l n w)
unfolding Sections Signed
in_column-signed ts l n w items h i flat =
    let front : List ℕ = h.0 in
    let middle : List ℕ = h.4.0 in
    let cut : SectionsCut (PartSigned ts) (take n l.others) (drop n l.others) h.4.1 = split-signed ts n l.others h.4.1 h.4.4 in
    let rest : List ℕ = middle ++ (cut.front ++ cut.rest) in
    let docs : List Doc = column_docs ts l (take n l.others) w (drop n l.others) in
    let whole : items ≡ front ++ rest = h.2 ∙ ap (λ ms. front ++ ms) (h.4.2 ∙ ap (λ ms. middle ++ ms) cut.items_are) in
    subst (λ (ms : List ℕ). Signed (in_column_doc ts l n w) i flat (inner_strands ts l.opener ms l.closer)) (sym whole)
    (first_then-signed ts l _ front rest i flat h.3
    (λ j. SignedParts-one (Nest 1 (seq docs)) j flat (inner_strands ts l.first.last rest l.closer)
    (seq-signed docs (j + 1) flat (inner_strands ts l.first.last rest l.closer)
    (column_docs-signed ts l (take n l.others) w (drop n l.others) middle cut.front cut.rest
    (j + 1) flat h.4.3 cut.first cut.second))))

-- charges, flat layouts and choices
charged-signed : (ts : List Token) (l : Slots) (items : List ℕ) (k : ℕ) (d : Doc) → ListSigned ts l items d →
    ListSigned ts l items (charged k d)
unfolding Signed
charged-signed ts l items k d h = by_test (k == 0)
  where
    by_test : (b : Bool) → ListSigned ts l items (if b then d else Charge k d)
    by_test true i flat = h i flat
    by_test false i flat = h i flat

flat-signed : (ts : List Token) (l : Slots) (items : List ℕ) (d : Doc) → ListSigned ts l items d →
    ListSigned ts l items (Flatten d)
unfolding Signed
flat-signed ts l items d h i flat = h i true

choice-signed : (ts : List Token) (l : Slots) (items : List ℕ) (d : Doc) (others : List Doc) → ListSigned ts l items d →
    AllByRecursion (λ e. ListSigned ts l items e) others →
    ListSigned ts l items (choice_of d others)
unfolding Signed choice_of
choice-signed ts l items d [] h k i flat = h i flat
choice-signed ts l items d (e ∷ others) h k i flat = (h i flat, choice-signed ts l items e others k.0 k.1 i flat)

column_layouts-signed : (ts : List Token) (l : Slots) (n : ℕ) (w : Want) (k : ℕ) (items : List ℕ) (more : List Doc) →
    SlotsSigned ts l items →
    AllByRecursion (λ e. ListSigned ts l items e) more →
    AllByRecursion (λ e. ListSigned ts l items e) (column_layouts ts l n w k ++ more)
column_layouts-signed ts l n w k items more h m = by_test (leb 2 n)
  where
    by_test : (b : Bool) →
        AllByRecursion (λ e. ListSigned ts l items e)
        ((if b then charged k (in_column_doc ts l (n - 1) w) ∷ [] else []) ++ more)
    by_test true = (
      charged-signed ts l items k (in_column_doc ts l (n - 1) w) (in_column-signed ts l (n - 1) w items h),
      m,
    )
    by_test false = m

line_layouts-signed : (ts : List Token) (l : Slots) (one_line : Bool) (d : Doc) (k : ℕ) (items : List ℕ) →
    ListSigned ts l items d →
    AllByRecursion (λ e. ListSigned ts l items e) (line_layouts one_line d k)
line_layouts-signed ts l true d k items h = (charged-signed ts l items k (Flatten d) (flat-signed ts l items d h), tt)
line_layouts-signed ts l false d k items h = tt

-- a list of each shape
shape-signed : (ts : List Token) (shape : Shape) (charges : Charges) (l : Slots) (items : List ℕ) →
    SlotsSigned ts l items → ListSigned ts l items (shape_doc shape charges ts l)
shape-signed ts Application charges l items h =
    let d : Doc = drop_doc ts l.opener l.first (l.second ∷ l.others) l.closer in
    let dropped : ListSigned ts l items d =
    λ i flat. drop-signed ts l.opener l.first (l.second ∷ l.others) l.closer items i flat h in
    choice-signed ts l items (charged charges.broken d) _ (charged-signed ts l items charges.broken d dropped) (
      charged-signed ts l items charges.hung (hang_doc ts l) (hang-signed ts l items h),
      (charged-signed ts l items charges.flat (Flatten d) (flat-signed ts l items d dropped), tt),
    )
shape-signed ts Hanging charges l items h =
    let d : Doc = drop_doc ts l.opener l.first (l.second ∷ l.others) l.closer in
    let dropped : ListSigned ts l items d =
    λ i flat. drop-signed ts l.opener l.first (l.second ∷ l.others) l.closer items i flat h in
    choice-signed ts l items (charged charges.hung (hang_doc ts l)) _
    (charged-signed ts l items charges.hung (hang_doc ts l) (hang-signed ts l items h))
    (charged-signed ts l items charges.flat (Flatten d) (flat-signed ts l items d dropped), tt)
shape-signed ts Plain charges l items h =
    let d : Doc = drop_doc ts l.opener l.first (l.second ∷ l.others) l.closer in
    let dropped : ListSigned ts l items d =
    λ i flat. drop-signed ts l.opener l.first (l.second ∷ l.others) l.closer items i flat h in
    choice-signed ts l items (charged charges.broken d) _ (charged-signed ts l items charges.broken d dropped)
    (charged-signed ts l items charges.flat (Flatten d) (flat-signed ts l items d dropped), tt)
shape-signed ts (Body n one_line) charges l items h =
    let w : Want = body_want one_line in
    let d : Doc = in_line_doc ts l n w in
    let in_line : ListSigned ts l items d = in_line-signed ts l n w items h in
    choice-signed ts l items (charged charges.broken d) _ (charged-signed ts l items charges.broken d in_line)
    (column_layouts-signed ts l n w charges.hung items (line_layouts one_line d charges.flat) h
    (line_layouts-signed ts l one_line d charges.flat items in_line))

-- the body of a list, which is nothing only where nothing need stand between opener and closer
body-signed : (ts : List Token) (w : Way) (opener : ℕ) (slots : List Part) (closer : ℕ) (items : List ℕ) (i : ℕ)
    (flat : Bool) → Drawn (gap_at ts opener closer) [] → PartsSigned ts slots items →
    SignedParts (body_docs ts w opener slots closer) i flat (inner_strands ts opener items closer)
unfolding Sections inner_strands behind last_of
body-signed ts w opener [] closer items i flat n h = rw h (SignedParts-nil i flat (gap_at ts opener closer) n)
body-signed ts w opener (s ∷ []) closer items i flat n h =
    SignedParts-one (drop_doc ts opener s [] closer) i flat (inner_strands ts opener items closer)
    (drop-signed ts opener s [] closer items i flat h)
body-signed ts w opener (s ∷ next ∷ slots) closer items i flat n h =
    let l : Slots = record { opener = opener; first = s; second = next; others = slots; closer = closer } in
    SignedParts-one _ i flat (inner_strands ts opener items closer) (shape-signed ts w.shape w.charges l items h i flat)

last_of-push : (n : ℕ) (ms : List ℕ) (k : ℕ) → last_of n (ms ++ k ∷ []) ≡ k
unfolding last_of
last_of-push n ms k = last_of-append n ms (k ∷ [])

-- a list has the strands of its items
pub list-signed : (ts : List Token) (w : Way) (opener : ℕ) (slots : List Part) (closer : ℕ) (items : List ℕ) →
    Drawn (gap_at ts opener closer) [] → PartsSigned ts slots items →
    PartSigned ts (part opener closer (list_doc ts w opener slots closer)) (opener ∷ (items ++ closer ∷ []))
unfolding items_strands inner_strands behind
list-signed ts w opener slots closer items n h =
    let first : List Strand = item_strands ts opener in
    let inner : List Strand = inner_strands ts opener items closer in
    let last : List Strand = item_strands ts closer in
    let whole : items_strands ts opener (items ++ closer ∷ []) ≡ first ++ (inner ++ last) =
    ap (λ xs. first ++ xs) (behind-append ts opener items (closer ∷ [])
    ∙ ap (λ xs. behind ts opener items ++ (gap_at ts (last_of opener items) closer ++ xs)) (append-nil last)
    ∙ sym (append_assoc (behind ts opener items) (gap_at ts (last_of opener items) closer) last)) in
    record {
      later = items ++ closer ∷ [];
      items_are = refl;
      last_is = last_of-push opener items closer;
      signed = λ i flat. subst (λ (xs : List Strand). Signed (list_doc ts w opener slots closer) i flat xs) (sym whole)
          (seq-signed (mark_doc ts opener ∷ (body_docs ts w opener slots closer ++ mark_doc ts closer ∷ [])) i flat
          (first ++ (inner ++ last))
          (SignedParts-cons (mark_doc ts opener)
          (body_docs ts w opener slots closer ++ mark_doc ts closer ∷ []) i flat first (inner ++ last)
          (item-signed Characters ts opener i flat)
          (SignedParts-append (body_docs ts w opener slots closer) (mark_doc ts closer ∷ []) i flat inner last
          (body-signed ts w opener slots closer items i flat n h)
          (SignedParts-one (mark_doc ts closer) i flat last (item-signed Characters ts closer i flat)))));
    }

-- the parts behind a prefix or a skip
prefixed_parts : (ts : List Token) (lead : List Part) (inner : Part) (items : List ℕ) →
    PartsSigned ts (lead ++ inner ∷ []) items → (w : Want) →
    PartsSigned ts (step_parts (steps_wanting w lead ++ step w inner ∷ [])) items
unfolding step_parts
prefixed_parts ts lead inner items h w =
    subst (λ (ps : List Part). PartsSigned ts ps items)
    (sym (step_parts-append (steps_wanting w lead) (step w inner ∷ []) ∙ ap (λ ps. ps ++ inner ∷ [])
    (step_parts-wanting w lead))) h

prefixed_signed : (ts : List Token) (item : ℕ) (steps : List Step) (items : List ℕ) (i : ℕ) (flat : Bool) →
    PartsSigned ts (step_parts steps) items →
    Signed (Concat (mark_doc ts item) (Align (seq (steps_docs ts item steps)))) i flat (items_strands ts item items)
unfolding Signed items_strands
prefixed_signed ts item steps items i flat h = (
  item_strands ts item,
  behind ts item items,
  refl,
  item-signed Characters ts item i flat,
  λ column. seq-signed (steps_docs ts item steps) column flat (behind ts item items)
      (steps-signed ts item steps items column flat h),
)

prefixed_doc-signed : (ts : List Token) (item : ℕ) (lead : List Part) (inner : Part) (items : List ℕ) (i : ℕ)
    (flat : Bool) → PartsSigned ts (lead ++ inner ∷ []) items →
    Signed (prefixed_doc ts item lead inner) i flat (items_strands ts item items)
unfolding step_parts Sections
prefixed_doc-signed ts item [] inner items i flat h =
    prefixed_signed ts item (step want.Nothing inner ∷ []) items i flat h
prefixed_doc-signed ts item (c ∷ lead) inner items i flat h =
    prefixed_signed ts item (step want.Nothing c
    ∷ (steps_wanting want.Space lead ++ step want.Space inner ∷ [])) items i flat
    (h.0, h.1, h.2, h.3, prefixed_parts ts lead inner h.1 h.4 want.Space)

-- a prefix or a skip with its comments and its datum has the strands of its items
pub prefixed-signed : (ts : List Token) (item : ℕ) (lead : List Part) (inner : Part) (front rest : List ℕ) →
    PartsSigned ts lead front → PartSigned ts inner rest →
    PartSigned ts (part item inner.last (prefixed_doc ts item lead inner)) (item ∷ (front ++ rest))
prefixed-signed ts item lead inner front rest h k =
    let all : PartsSigned ts (lead ++ inner ∷ []) (front ++ rest) =
    Sections-append (PartSigned ts) lead (inner ∷ []) front rest h (PartsSigned-one ts inner rest k) in
    record {
      later = front ++ rest;
      items_are = refl;
      last_is = last_of-append item front rest ∙ part_last ts inner rest (last_of item front) k;
      signed = λ i flat. prefixed_doc-signed ts item lead inner (front ++ rest) i flat all;
    }
