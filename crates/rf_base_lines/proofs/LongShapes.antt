-- Lists of each shape on one line.
use Rattle.std.proofs.Common.{◌≡◌, ℕ, ◌+◌, ◌-◌, ◌≤◌, Bool, true, false, List, [], ◌∷◌, ◌++◌, take, drop, append-nil, refl, sym, ◌∙◌, ap, subst, arith}
use Rattle.std.specs.List.{AllByRecursion}
use Rattle.std.specs.Prelude.{◌==◌, leb, if◌then◌else◌}
use Rattle.std.proofs.lemmas.List.{take-append-drop}
use Rattle.std.proofs.lemmas.Bool.Decides.{nat_tests}
use Rattle.rf_base_document.specs.Document.{Doc, Nest, Flatten, Choice, Charge}
use Rattle.rf_base_document.specs.Sequence.{seq}
use Rattle.rf_base_grammar.specs.Token.{Token}
use Rattle.rf_base_style.specs.declared.columns.Columns.TheVariants.{Characters}
use Rattle.rf_base_style.specs.declared.rules.Charges.{Charges}
use Rattle.rf_base_tree.specs.declared.separators.Want.{Want}
use Rattle.rf_base_tree.specs.declared.separators.Want.TheVariants as want
use Rattle.rf_base_cut.specs.DocumentLines.{IsLong, AreLong}
use Rattle.rf_base_cut.proofs.DocumentLines.{long_sequence}
use Rattle.rf_base_file.specs.declared.shapes.Shape.{Shape}
use Rattle.rf_base_file.specs.declared.shapes.Shape.TheVariants.{Application, Hanging, Plain, Body}
use Rattle.rf_base_file.specs.declared.shapes.Way.{Way}
use Rattle.rf_base_file.specs.Rows.{Part, mark_doc, gap_docs, Step, step, steps_docs, steps_last, steps_wanting, inner_docs}
use Rattle.rf_base_file.specs.Shapes.{Slots, drop_doc, first_then, hung_doc, hung_docs, hang_doc, in_line_doc, column_part, column_docs, in_column_doc, body_want, charged, choice_of, column_layouts, line_layouts, shape_doc}
use Rattle.rf_base_file.specs.FileDocument.{body_docs, list_doc}
use Rattle.rf_base_file.proofs.Parts.{step_parts, step_parts-wanting}
use Rattle.rf_base_file.proofs.SlotStrands.{step_parts-append}
use Rattle.rf_base_lines.specs.Lengths.{Long, HasLength, PartsHaveLengths}
use Rattle.rf_base_lines.proofs.LongRows.{row_same, row_append, row_cons, row_none, row_one, align_long, LongRow, RowHasLength, any_append, any_cons, any_none, any_seq, item_long, IsWide, wide, gap_wide, gap_tight, PartsLong, parts_last, parts_last-append, steps_last-is, parts_total, parts_apart, AllWide, steps_wide, wanting_wide, wide_append}

-- documents made of others
nest_long : (d : Doc) (flat : Bool) (n : ℕ) → IsLong d flat n → IsLong (Nest 1 d) flat n
unfolding IsLong
nest_long d flat n h = h

flatten_long : (d : Doc) (n : ℕ) → Long d n → Long (Flatten d) n
unfolding IsLong
flatten_long d n h flat = h true

choice_long : (a b : Doc) (n : ℕ) → Long a n → Long b n → Long (Choice a b) n
unfolding IsLong
choice_long a b n h k flat = (h flat, k flat)

some_charge : (k : ℕ) → (k == 0) ≡ false → 1 ≤ k
some_charge k e = grind (arith, nat_tests)

charge_long : (k : ℕ) (d : Doc) (n : ℕ) → 1 ≤ k → Long (Charge k d) n
unfolding IsLong
charge_long k d n h flat = h

charged_long : (k : ℕ) (d : Doc) (n : ℕ) → Long d n → Long (charged k d) n
charged_long k d n h = by_test (k == 0) (λ e. some_charge k e)
  where
    by_test : (b : Bool) → (b ≡ false → 1 ≤ k) → Long (if b then d else Charge k d) n
    by_test true some = h
    by_test false some = charge_long k d n (some refl)

choices_long : (d : Doc) (others : List Doc) (n : ℕ) → Long d n → AllByRecursion (λ e. Long e n) others → Long (choice_of d others) n
unfolding choice_of
choices_long d [] n h k = h
choices_long d (e ∷ others) n h k = choice_long d (choice_of e others) n h (choices_long e others n k.0 k.1)

-- the gap before a closer, of which nothing is wanted, behind parts
abbrev ClosedBy : List Token → ℕ → List Part → ℕ → ℕ → Type 0
ClosedBy ts before parts closer c = LongRow (gap_docs ts (parts_last before parts) closer want.Nothing) c

-- steps up to a closer
inner_long : (ts : List Token) (before : ℕ) (steps : List Step) (parts : List Part) (closer n c : ℕ) (flat : Bool) → step_parts steps ≡ parts → AllWide steps →
    PartsLong ts before parts n → ClosedBy ts before parts closer c → AreLong (inner_docs ts before steps closer) flat (n + c)
inner_long ts before steps parts closer n c flat same w h k =
    let last : parts_last before parts ≡ steps_last before steps = ap (parts_last before) (sym same) ∙ sym (steps_last-is before steps) in
    row_append (steps_docs ts before steps) (gap_docs ts (steps_last before steps) closer want.Nothing) flat n c
    (steps_wide ts before steps n flat w (subst (λ (ps : List Part). PartsLong ts before ps n) (sym same) h))
    (subst (λ (m : ℕ). AreLong (gap_docs ts m closer want.Nothing) flat c) last (k flat))

-- a first part behind an opener
first_long : (ts : List Token) (opener : ℕ) (s : Part) (docs : List Doc) (a i m : ℕ) (flat : Bool) → LongRow (gap_docs ts opener s.first want.Nothing) a → Long s.doc i → AreLong docs flat m →
    AreLong (gap_docs ts opener s.first want.Nothing ++ s.doc ∷ docs) flat (a + (i + m))
first_long ts opener s docs a i m flat h k l =
    row_append (gap_docs ts opener s.first want.Nothing) (s.doc ∷ docs) flat a (i + m) (h flat) (row_cons s.doc docs flat i m (k flat) l)

drop_long : (ts : List Token) (opener : ℕ) (s : Part) (slots : List Part) (closer a i n c : ℕ) → LongRow (gap_docs ts opener s.first want.Nothing) a → Long s.doc i →
    PartsLong ts s.last slots n → ClosedBy ts s.last slots closer c → Long (drop_doc ts opener s slots closer) (a + (i + (n + c)))
unfolding steps_docs steps_last
drop_long ts opener s slots closer a i n c h k l m flat =
    let rest : List Step = steps_wanting want.Line slots in
    let steps : List Step = step want.Nothing s ∷ rest in
    let same : step_parts rest ≡ slots = step_parts-wanting want.Line slots in
    let last : parts_last s.last slots ≡ steps_last s.last rest = ap (parts_last s.last) (sym same) ∙ sym (steps_last-is s.last rest) in
    let first = first_long ts opener s (steps_docs ts s.last rest) a i n flat h k
    (steps_wide ts s.last rest n flat (wanting_wide want.Line slots tt) (subst (λ (ps : List Part). PartsLong ts s.last ps n) (sym same) l)) in
    align_long (seq (inner_docs ts opener steps closer)) flat (a + (i + (n + c)))
    (long_sequence (inner_docs ts opener steps closer) flat (a + (i + (n + c)))
    (row_same (inner_docs ts opener steps closer) flat ((a + (i + n)) + c) (a + (i + (n + c))) (omega arith)
    (row_append (steps_docs ts opener steps) (gap_docs ts (steps_last s.last rest) closer want.Nothing) flat (a + (i + n)) c first
    (subst (λ (z : ℕ). AreLong (gap_docs ts z closer want.Nothing) flat c) last (m flat)))))

first_then_long : (ts : List Token) (l : Slots) (docs : List Doc) (a i m : ℕ) → LongRow (gap_docs ts l.opener l.first.first want.Nothing) a → Long l.first.doc i → LongRow docs m →
    Long (first_then ts l docs) (a + (i + m))
unfolding steps_docs
first_then_long ts l docs a i m h k r flat =
    let steps : List Step = step want.Nothing l.first ∷ [] in
    align_long (seq (steps_docs ts l.opener steps ++ docs)) flat (a + (i + m))
    (long_sequence (steps_docs ts l.opener steps ++ docs) flat (a + (i + m))
    (row_same (steps_docs ts l.opener steps ++ docs) flat ((a + (i + 0)) + m) (a + (i + m)) (omega arith)
    (row_append (steps_docs ts l.opener steps) docs flat (a + (i + 0)) m (first_long ts l.opener l.first [] a i 0 flat h k (row_none flat)) (r flat))))

-- a part on a line, and others below it
hung_long : (ts : List Token) (before : ℕ) (next : Part) (slots : List Part) (closer n c : ℕ) → PartsLong ts before (next ∷ slots) n → ClosedBy ts before (next ∷ slots) closer c →
    LongRow (hung_docs ts before next slots closer) (n + c)
unfolding PartsLong parts_last
hung_long ts before next slots closer n c h k flat =
    let steps : List Step = steps_wanting want.Line slots in
    let sum : n ≡ wide ts before next.first + (h.0 + h.1) = h.2 in
    let size : ℕ = h.0 + (h.1 + c) in
    let inner = inner_long ts next.last steps slots closer h.1 c flat (step_parts-wanting want.Line slots) (wanting_wide want.Line slots tt) h.4 k in
    let below = align_long (seq (next.doc ∷ inner_docs ts next.last steps closer)) flat size
    (long_sequence (next.doc ∷ inner_docs ts next.last steps closer) flat size (row_cons next.doc (inner_docs ts next.last steps closer) flat h.0 (h.1 + c) (h.3 flat) inner)) in
    row_same (hung_docs ts before next slots closer) flat (wide ts before next.first + size) (n + c) (omega arith)
    (row_append (gap_docs ts before next.first want.Space) (hung_doc ts next slots closer ∷ []) flat (wide ts before next.first) size
    (gap_wide ts before next.first want.Space flat tt) (row_one (hung_doc ts next slots closer) flat size below))

column_part_long : (ts : List Token) (next : Part) (headers : List Part) (i j : ℕ) → Long next.doc i → PartsLong ts next.last headers j → Long (column_part ts next headers).doc (i + j)
column_part_long ts next headers i j h k flat =
    let steps : List Step = steps_wanting want.Line headers in
    align_long (seq (next.doc ∷ steps_docs ts next.last steps)) flat (i + j)
    (long_sequence (next.doc ∷ steps_docs ts next.last steps) flat (i + j)
    (row_cons next.doc (steps_docs ts next.last steps) flat i j (h flat)
    (steps_wide ts next.last steps j flat (wanting_wide want.Line headers tt)
    (subst (λ (ps : List Part). PartsLong ts next.last ps j) (sym (step_parts-wanting want.Line headers)) k))))

column_docs_long : (ts : List Token) (l : Slots) (headers : List Part) (w : Want) (bodies : List Part) (n c : ℕ) → IsWide w →
    PartsLong ts l.first.last (l.second ∷ (headers ++ bodies)) n → ClosedBy ts l.first.last (l.second ∷ (headers ++ bodies)) l.closer c →
    LongRow (column_docs ts l headers w bodies) (n + c)
unfolding PartsLong parts_last step_parts
column_docs_long ts l headers w [] n c wide_want h k flat =
    let none : headers ++ [] ≡ headers = append-nil headers in
    hung_long ts l.first.last l.second headers l.closer n c
    (subst (λ (ps : List Part). PartsLong ts l.first.last (l.second ∷ ps) n) none h) (subst (λ (ps : List Part). ClosedBy ts l.first.last (l.second ∷ ps) l.closer c) none k) flat
column_docs_long ts l headers w (b ∷ bodies) n c wide_want h k flat =
    let column : Part = column_part ts l.second headers in
    let others : List Part = b ∷ bodies in
    let apart = parts_apart ts l.second.last headers others h.1 h.4 in
    let sum : n ≡ wide ts l.first.last l.second.first + (h.0 + h.1) = h.2 in
    let more : h.1 ≡ apart.0 + apart.1 = apart.2 in
    let last : column.last ≡ parts_last l.second.last headers =
    steps_last-is l.second.last (steps_wanting want.Line headers) ∙ ap (parts_last l.second.last) (step_parts-wanting want.Line headers) in
    let parts : PartsLong ts l.first.last (column ∷ others) n = (
      h.0 + apart.0,
      apart.1,
      omega arith,
      column_part_long ts l.second headers h.0 apart.0 h.3 apart.3,
      subst (λ (z : ℕ). PartsLong ts z others apart.1) (sym last) apart.4,
    ) in
    let ends : parts_last l.second.last (headers ++ others) ≡ parts_last column.last others =
    parts_last-append l.second.last headers others ∙ ap (λ (z : ℕ). parts_last z others) (sym last) in
    inner_long ts l.first.last (step want.Space column ∷ steps_wanting w others) (column ∷ others) l.closer n c flat
    (ap (λ (ps : List Part). column ∷ ps) (step_parts-wanting w others)) (tt, wanting_wide w others wide_want) parts
    (λ f. subst (λ (z : ℕ). AreLong (gap_docs ts z l.closer want.Nothing) f c) ends (k f))

-- what is known of a list's slots: their lengths, and those of the gaps
record Known (ts : List Token) (l : Slots) : Type 0 where
  before : ℕ
  first : ℕ
  rest : ℕ
  behind : ℕ
  opened : LongRow (gap_docs ts l.opener l.first.first want.Nothing) before
  first_is : Long l.first.doc first
  rest_is : PartsLong ts l.first.last (l.second ∷ l.others) rest
  closed : ClosedBy ts l.first.last (l.second ∷ l.others) l.closer behind

-- how long its layouts are
abbrev length_of : (ts : List Token) (l : Slots) → Known ts l → ℕ
length_of ts l k = k.before + (k.first + (k.rest + k.behind))

dropped_long : (ts : List Token) (l : Slots) (k : Known ts l) → Long (drop_doc ts l.opener l.first (l.second ∷ l.others) l.closer) (length_of ts l k)
dropped_long ts l k = drop_long ts l.opener l.first (l.second ∷ l.others) l.closer k.before k.first k.rest k.behind k.opened k.first_is k.rest_is k.closed

hang_long : (ts : List Token) (l : Slots) (k : Known ts l) → Long (hang_doc ts l) (length_of ts l k)
hang_long ts l k =
    first_then_long ts l (hung_docs ts l.first.last l.second l.others l.closer) k.before k.first (k.rest + k.behind) k.opened k.first_is
    (hung_long ts l.first.last l.second l.others l.closer k.rest k.behind k.rest_is k.closed)

in_line_long : (ts : List Token) (l : Slots) (n : ℕ) (w : Want) (k : Known ts l) → IsWide w → Long (in_line_doc ts l n w) (length_of ts l k)
in_line_long ts l n w k wide_want =
    let parts : List Part = l.second ∷ l.others in
    let steps : List Step = steps_wanting want.Space (take n parts) ++ steps_wanting w (drop n parts) in
    let same : step_parts steps ≡ parts =
    step_parts-append (steps_wanting want.Space (take n parts)) (steps_wanting w (drop n parts))
    ∙ ap (λ (ps : List Part). ps ++ step_parts (steps_wanting w (drop n parts))) (step_parts-wanting want.Space (take n parts))
    ∙ ap (λ (ps : List Part). take n parts ++ ps) (step_parts-wanting w (drop n parts))
    ∙ take-append-drop n parts in
    let all_wide : AllWide steps =
    wide_append (steps_wanting want.Space (take n parts)) (steps_wanting w (drop n parts)) (wanting_wide want.Space (take n parts) tt) (wanting_wide w (drop n parts) wide_want) in
    let docs : List Doc = inner_docs ts l.first.last steps l.closer in
    let size : ℕ = k.rest + k.behind in
    first_then_long ts l (Nest 1 (seq docs) ∷ []) k.before k.first size k.opened k.first_is
    (λ flat. row_one (Nest 1 (seq docs)) flat size
    (nest_long (seq docs) flat size (long_sequence docs flat size (inner_long ts l.first.last steps parts l.closer k.rest k.behind flat same all_wide k.rest_is k.closed))))

in_column_long : (ts : List Token) (l : Slots) (n : ℕ) (w : Want) (k : Known ts l) → IsWide w → Long (in_column_doc ts l n w) (length_of ts l k)
in_column_long ts l n w k wide_want =
    let docs : List Doc = column_docs ts l (take n l.others) w (drop n l.others) in
    let size : ℕ = k.rest + k.behind in
    let same : l.others ≡ take n l.others ++ drop n l.others = sym (take-append-drop n l.others) in
    let inner = column_docs_long ts l (take n l.others) w (drop n l.others) k.rest k.behind wide_want
    (subst (λ (ps : List Part). PartsLong ts l.first.last (l.second ∷ ps) k.rest) same k.rest_is)
    (subst (λ (ps : List Part). ClosedBy ts l.first.last (l.second ∷ ps) l.closer k.behind) same k.closed) in
    first_then_long ts l (Nest 1 (seq docs) ∷ []) k.before k.first size k.opened k.first_is
    (λ flat. row_one (Nest 1 (seq docs)) flat size (nest_long (seq docs) flat size (long_sequence docs flat size (inner flat))))

-- the layouts of each shape are as long
body_wide : (one_line : Bool) → IsWide (body_want one_line)
body_wide true = tt
body_wide false = tt

line_layouts_long : (one_line : Bool) (d : Doc) (charge n : ℕ) → Long d n → AllByRecursion (λ e. Long e n) (line_layouts one_line d charge)
line_layouts_long true d charge n h = (charged_long charge (Flatten d) n (flatten_long d n h), tt)
line_layouts_long false d charge n h = tt

column_layouts_long : (ts : List Token) (l : Slots) (n : ℕ) (w : Want) (charge : ℕ) (more : List Doc) (k : Known ts l) → IsWide w → AllByRecursion (λ e. Long e (length_of ts l k)) more →
    AllByRecursion (λ e. Long e (length_of ts l k)) (column_layouts ts l n w charge ++ more)
column_layouts_long ts l n w charge more k wide_want h = by_test (leb 2 n)
  where
    by_test : (b : Bool) → AllByRecursion (λ e. Long e (length_of ts l k)) ((if b then charged charge (in_column_doc ts l (n - 1) w) ∷ [] else []) ++ more)
    by_test true = (charged_long charge (in_column_doc ts l (n - 1) w) (length_of ts l k) (in_column_long ts l (n - 1) w k wide_want), h)
    by_test false = h

shape_long : (ts : List Token) (shape : Shape) (charges : Charges) (l : Slots) (k : Known ts l) → Long (shape_doc shape charges ts l) (length_of ts l k)
shape_long ts Application charges l k =
    let d : Doc = drop_doc ts l.opener l.first (l.second ∷ l.others) l.closer in
    let n : ℕ = length_of ts l k in
    choices_long (charged charges.broken d) (charged charges.hung (hang_doc ts l) ∷ charged charges.flat (Flatten d) ∷ []) n
    (charged_long charges.broken d n (dropped_long ts l k))
    (charged_long charges.hung (hang_doc ts l) n (hang_long ts l k), (charged_long charges.flat (Flatten d) n (flatten_long d n (dropped_long ts l k)), tt))
shape_long ts Hanging charges l k =
    let d : Doc = drop_doc ts l.opener l.first (l.second ∷ l.others) l.closer in
    let n : ℕ = length_of ts l k in
    choices_long (charged charges.hung (hang_doc ts l)) (charged charges.flat (Flatten d) ∷ []) n
    (charged_long charges.hung (hang_doc ts l) n (hang_long ts l k)) (charged_long charges.flat (Flatten d) n (flatten_long d n (dropped_long ts l k)), tt)
shape_long ts Plain charges l k =
    let d : Doc = drop_doc ts l.opener l.first (l.second ∷ l.others) l.closer in
    let n : ℕ = length_of ts l k in
    choices_long (charged charges.broken d) (charged charges.flat (Flatten d) ∷ []) n
    (charged_long charges.broken d n (dropped_long ts l k)) (charged_long charges.flat (Flatten d) n (flatten_long d n (dropped_long ts l k)), tt)
shape_long ts (Body headers one_line) charges l k =
    let w : Want = body_want one_line in
    let d : Doc = in_line_doc ts l headers w in
    let n : ℕ = length_of ts l k in
    let in_line = in_line_long ts l headers w k (body_wide one_line) in
    choices_long (charged charges.broken d) (column_layouts ts l headers w charges.hung ++ line_layouts one_line d charges.flat) n
    (charged_long charges.broken d n in_line)
    (column_layouts_long ts l headers w charges.hung (line_layouts one_line d charges.flat) k (body_wide one_line) (line_layouts_long one_line d charges.flat n in_line))

-- so a list has one length
known_of : (ts : List Token) (l : Slots) → PartsHaveLengths (l.first ∷ l.second ∷ l.others) → Known ts l
known_of ts l h =
    let opened = gap_tight ts l.opener l.first.first in
    let rest = parts_total ts l.first.last (l.second ∷ l.others) h.1 in
    let closed = gap_tight ts (parts_last l.first.last (l.second ∷ l.others)) l.closer in
    record {
      before = opened.0;
      first = h.0.0;
      rest = rest.0;
      behind = closed.0;
      opened = opened.1;
      first_is = h.0.1;
      rest_is = rest.1;
      closed = closed.1;
    }

body_long : (ts : List Token) (w : Way) (opener : ℕ) (slots : List Part) (closer : ℕ) → PartsHaveLengths slots → RowHasLength (body_docs ts w opener slots closer)
unfolding PartsLong parts_last
body_long ts w opener [] closer h = any_none
body_long ts w opener (s ∷ []) closer h =
    let opened = gap_tight ts opener s.first in
    let closed = gap_tight ts s.last closer in
    any_cons (drop_doc ts opener s [] closer) []
    (opened.0 + (h.0.0 + (0 + closed.0)), drop_long ts opener s [] closer opened.0 h.0.0 0 closed.0 opened.1 h.0.1 refl closed.1) any_none
body_long ts w opener (s ∷ next ∷ slots) closer h =
    let l : Slots = record { opener = opener; first = s; second = next; others = slots; closer = closer } in
    let k = known_of ts l h in
    any_cons (shape_doc w.shape w.charges ts l) [] (length_of ts l k, shape_long ts w.shape w.charges l k) any_none

pub list_long : (ts : List Token) (w : Way) (opener : ℕ) (slots : List Part) (closer : ℕ) → PartsHaveLengths slots → HasLength (list_doc ts w opener slots closer)
list_long ts w opener slots closer h =
    let body : List Doc = body_docs ts w opener slots closer in
    any_seq (mark_doc ts opener ∷ (body ++ mark_doc ts closer ∷ []))
    (any_cons (mark_doc ts opener) (body ++ mark_doc ts closer ∷ []) (item_long Characters ts opener)
    (any_append body (mark_doc ts closer ∷ []) (body_long ts w opener slots closer h) (any_cons (mark_doc ts closer) [] (item_long Characters ts closer) any_none)))
