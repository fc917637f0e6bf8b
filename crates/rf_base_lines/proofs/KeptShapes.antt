-- What documents keep that are made of others: the documents of lists keep what those of their parts and the gaps do.
use Rattle.std.proofs.Common.{ℕ, ◌-◌, Bool, true, false, List, [], ◌∷◌, ◌++◌, take, drop, append-nil, sym, subst}
use Rattle.std.specs.List.{AllByRecursion}
use Rattle.std.specs.Prelude.{⊤, leb, if◌then◌else◌}
use Rattle.std.proofs.lemmas.List.{take-append-drop}
use Rattle.rf_base_document.specs.Document.{Doc, Concat, Nest, Align, Flatten, Choice, plain_text}
use Rattle.rf_base_document.specs.Sequence.{seq}
use Rattle.rf_base_cut.proofs.Halves.{seq_by_parts}
use Rattle.rf_base_grammar.specs.Token.{Token}
use Rattle.rf_base_style.specs.declared.rules.Charges.{Charges}
use Rattle.rf_base_tree.specs.declared.separators.Want.{Want}
use Rattle.rf_base_tree.specs.declared.separators.Want.TheVariants as want
use Rattle.rf_base_file.specs.declared.shapes.Shape.{Shape}
use Rattle.rf_base_file.specs.declared.shapes.Shape.TheVariants.{Application, Hanging, Plain, Body}
use Rattle.rf_base_file.specs.declared.shapes.Way.{Way}
use Rattle.rf_base_file.specs.Rows.{Part, mark_doc, gap_docs, Step, step, steps_docs, steps_last, steps_wanting, inner_docs}
use Rattle.rf_base_file.specs.Shapes.{Slots, drop_doc, first_then, hung_doc, hung_docs, hang_doc, in_line_doc, column_part, column_docs, in_column_doc, body_want, charged, choice_of, column_layouts, line_layouts, shape_doc}
use Rattle.rf_base_file.specs.FileDocument.{body_docs, list_doc}
use Rattle.rf_base_file.proofs.Each.{each-append}
use Rattle.rf_base_lines.proofs.SpelledSteps.{inner_first}

-- documents that are made of others keep P, where W may be wanted in gaps and C is charged
pub record Keeps (P : Doc → Type 0) (W : Want → Type 0) (C : ℕ → Type 0) : Type 0 where
  pub nothing : P (plain_text [])
  pub concat : (a b : Doc) → P a → P b → P (Concat a b)
  pub nest : (a : Doc) → P a → P (Nest 1 a)
  pub align : (a : Doc) → P a → P (Align a)
  pub flatten : (a : Doc) → P a → P (Flatten a)
  pub choice : (a b : Doc) → P a → P b → P (Choice a b)
  pub charge : (k : ℕ) (a : Doc) → C k → P a → P (charged k a)
  pub space : W want.Space
  pub line : W want.Line

-- rows
abbrev pub Each : (Doc → Type 0) → List Doc → Type 0
Each P docs = AllByRecursion P docs

pub row_kept : (P : Doc → Type 0) (xs ys : List Doc) → Each P xs → Each P ys → Each P (xs ++ ys)
row_kept P xs ys h k = each-append P xs ys h k

behind_kept : (P : Doc → Type 0) (xs ys : List Doc) → Each P (xs ++ ys) → Each P ys
behind_kept P [] ys h = h
behind_kept P (x ∷ xs) ys h = behind_kept P xs ys h.1

before_kept : (P : Doc → Type 0) (xs ys : List Doc) → Each P (xs ++ ys) → Each P xs
before_kept P [] ys h = tt
before_kept P (x ∷ xs) ys h = (h.0, before_kept P xs ys h.1)

pub seq_by_each : (P : Doc → Type 0) → P (plain_text []) → ((a b : Doc) → P a → P b → P (Concat a b)) → (ds : List Doc) → Each P ds → P (seq ds)
seq_by_each P nothing concat ds =
    seq_by_parts (λ es e. Each P es → P e) (λ h. nothing) (λ d h. h.0)
    (λ d e ds es a b p q h. concat a b (p (before_kept P (d ∷ ds) (e ∷ es) h)) (q (behind_kept P (d ∷ ds) (e ∷ es) h))) ds

pub seq_kept : {P : Doc → Type 0} {W : Want → Type 0} {C : ℕ → Type 0} (k : Keeps P W C) (ds : List Doc) → Each P ds → P (seq ds)
seq_kept {P = P} k ds h = seq_by_each P k.nothing k.concat ds h

-- parts behind an item, up to a closer, with a gap before each in which W may be wanted: they and the gaps keep P
unfoldable pub Open : (Doc → Type 0) → (Want → Type 0) → List Token → ℕ → List Part → ℕ → Type 0
Open P W ts before [] closer = Each P (gap_docs ts before closer want.Nothing)
Open P W ts before (p ∷ parts) closer =
    ((w : Want) → W w → Each P (gap_docs ts before p.first w)) × P p.doc × Open P W ts p.last parts closer

wanted_kept : (P : Doc → Type 0) (W : Want → Type 0) (ts : List Token) (before : ℕ) (w : Want) (parts more : List Part) (closer : ℕ) → W w → Open P W ts before (parts ++ more) closer →
    Each P (steps_docs ts before (steps_wanting w parts)) × Open P W ts (steps_last before (steps_wanting w parts)) more closer
unfolding Open steps_docs steps_last
wanted_kept P W ts before w [] more closer may h = (tt, h)
wanted_kept P W ts before w (p ∷ parts) more closer may h =
    let behind = wanted_kept P W ts p.last w parts more closer may h.2 in (
      row_kept P (gap_docs ts before p.first w) (p.doc ∷ steps_docs ts p.last (steps_wanting w parts)) (h.0 w may) (h.1, behind.0),
      behind.1,
    )

inner_kept : (P : Doc → Type 0) (W : Want → Type 0) (ts : List Token) (before : ℕ) (w : Want) (parts : List Part) (closer : ℕ) → W w → Open P W ts before parts closer →
    Each P (inner_docs ts before (steps_wanting w parts) closer)
unfolding Open
inner_kept P W ts before w parts closer may h =
    let steps : List Step = steps_wanting w parts in
    let all = wanted_kept P W ts before w parts [] closer may (subst (λ (ps : List Part). Open P W ts before ps closer) (sym (append-nil parts)) h) in
    row_kept P (steps_docs ts before steps) (gap_docs ts (steps_last before steps) closer want.Nothing) all.0 all.1

both_kept : (P : Doc → Type 0) (W : Want → Type 0) (ts : List Token) (before : ℕ) (w : Want) (headers bodies : List Part) (closer : ℕ) → W want.Space → W w → Open P W ts before (headers ++ bodies) closer →
    Each P (inner_docs ts before (steps_wanting want.Space headers ++ steps_wanting w bodies) closer)
unfolding Open steps_docs steps_last
both_kept P W ts before w [] bodies closer space may h = inner_kept P W ts before w bodies closer may h
both_kept P W ts before w (p ∷ headers) bodies closer space may h =
    let gap : List Doc = gap_docs ts before p.first want.Space in
    let steps : List Step = steps_wanting want.Space headers ++ steps_wanting w bodies in
    subst (λ (ds : List Doc). Each P ds) (sym (inner_first ts before (step want.Space p) steps closer))
    (row_kept P gap (p.doc ∷ inner_docs ts p.last steps closer) (h.0 want.Space space) (h.1, both_kept P W ts p.last w headers bodies closer space may h.2))

-- what is known of a list's slots
record Known (P : Doc → Type 0) (W : Want → Type 0) (ts : List Token) (l : Slots) : Type 0 where
  opened : Each P (gap_docs ts l.opener l.first.first want.Nothing)
  first_is : P l.first.doc
  rest_is : Open P W ts l.first.last (l.second ∷ l.others) l.closer

-- the layouts
drop_kept : {P : Doc → Type 0} {W : Want → Type 0} {C : ℕ → Type 0} (k : Keeps P W C) (ts : List Token) (opener : ℕ) (s : Part) (slots : List Part) (closer : ℕ) →
    Each P (gap_docs ts opener s.first want.Nothing) → P s.doc → Open P W ts s.last slots closer → P (drop_doc ts opener s slots closer)
drop_kept {P = P} {W = W} k ts opener s slots closer h d o =
    let gap : List Doc = gap_docs ts opener s.first want.Nothing in
    let steps : List Step = steps_wanting want.Line slots in
    let docs : List Doc = inner_docs ts opener (step want.Nothing s ∷ steps) closer in
    let rest : List Doc = inner_docs ts s.last steps closer in
    k.align (seq docs) (seq_kept k docs
    (subst (λ (ds : List Doc). Each P ds) (sym (inner_first ts opener (step want.Nothing s) steps closer))
    (row_kept P gap (s.doc ∷ rest) h (d, inner_kept P W ts s.last want.Line slots closer k.line o))))

first_then_kept : {P : Doc → Type 0} {W : Want → Type 0} {C : ℕ → Type 0} (k : Keeps P W C) (ts : List Token) (l : Slots) (behind : List Doc) → Known P W ts l → Each P behind → P (first_then ts l behind)
unfolding steps_docs
first_then_kept {P = P} k ts l behind known h =
    let gap : List Doc = gap_docs ts l.opener l.first.first want.Nothing in
    let docs : List Doc = (gap ++ l.first.doc ∷ []) ++ behind in
    let begins : Each P (gap ++ l.first.doc ∷ []) = row_kept P gap (l.first.doc ∷ []) known.opened (known.first_is, tt) in
    k.align (seq docs) (seq_kept k docs (row_kept P (gap ++ l.first.doc ∷ []) behind begins h))

hung_kept : {P : Doc → Type 0} {W : Want → Type 0} {C : ℕ → Type 0} (k : Keeps P W C) (ts : List Token) (before : ℕ) (next : Part) (slots : List Part) (closer : ℕ) →
    Open P W ts before (next ∷ slots) closer → Each P (hung_docs ts before next slots closer)
unfolding Open
hung_kept {P = P} {W = W} k ts before next slots closer h =
    let docs : List Doc = next.doc ∷ inner_docs ts next.last (steps_wanting want.Line slots) closer in
    row_kept P (gap_docs ts before next.first want.Space) (hung_doc ts next slots closer ∷ []) (h.0 want.Space k.space)
    (k.align (seq docs) (seq_kept k docs (h.1, inner_kept P W ts next.last want.Line slots closer k.line h.2)), tt)

hang_kept : {P : Doc → Type 0} {W : Want → Type 0} {C : ℕ → Type 0} (k : Keeps P W C) (ts : List Token) (l : Slots) → Known P W ts l → P (hang_doc ts l)
hang_kept k ts l known =
    first_then_kept k ts l (hung_docs ts l.first.last l.second l.others l.closer) known
    (hung_kept k ts l.first.last l.second l.others l.closer known.rest_is)

dropped_kept : {P : Doc → Type 0} {W : Want → Type 0} {C : ℕ → Type 0} (k : Keeps P W C) (ts : List Token) (l : Slots) → Known P W ts l → P (drop_doc ts l.opener l.first (l.second ∷ l.others) l.closer)
dropped_kept k ts l known = drop_kept k ts l.opener l.first (l.second ∷ l.others) l.closer known.opened known.first_is known.rest_is

nested_kept : {P : Doc → Type 0} {W : Want → Type 0} {C : ℕ → Type 0} (k : Keeps P W C) (docs : List Doc) → Each P docs → Each P (Nest 1 (seq docs) ∷ [])
nested_kept k docs h = (k.nest (seq docs) (seq_kept k docs h), tt)

in_line_kept : {P : Doc → Type 0} {W : Want → Type 0} {C : ℕ → Type 0} (k : Keeps P W C) (ts : List Token) (l : Slots) (n : ℕ) (w : Want) → W w → Known P W ts l → P (in_line_doc ts l n w)
in_line_kept {P = P} {W = W} k ts l n w may known =
    let parts : List Part = l.second ∷ l.others in
    let docs : List Doc = inner_docs ts l.first.last (steps_wanting want.Space (take n parts) ++ steps_wanting w (drop n parts)) l.closer in
    first_then_kept k ts l (Nest 1 (seq docs) ∷ []) known
    (nested_kept k docs (both_kept P W ts l.first.last w (take n parts) (drop n parts) l.closer k.space may
    (subst (λ (ps : List Part). Open P W ts l.first.last ps l.closer) (sym (take-append-drop n parts)) known.rest_is)))

column_kept : {P : Doc → Type 0} {W : Want → Type 0} {C : ℕ → Type 0} (k : Keeps P W C) (ts : List Token) (l : Slots) (headers : List Part) (w : Want) (bodies : List Part) → W w →
    Open P W ts l.first.last (l.second ∷ (headers ++ bodies)) l.closer → Each P (column_docs ts l headers w bodies)
unfolding Open
column_kept {P = P} {W = W} k ts l headers w [] may h =
    hung_kept k ts l.first.last l.second headers l.closer
    (subst (λ (ps : List Part). Open P W ts l.first.last (l.second ∷ ps) l.closer) (append-nil headers) h)
column_kept {P = P} {W = W} k ts l headers w (b ∷ bodies) may h =
    let column : Part = column_part ts l.second headers in
    let gap : List Doc = gap_docs ts l.first.last l.second.first want.Space in
    let steps : List Step = steps_wanting w (b ∷ bodies) in
    let apart = wanted_kept P W ts l.second.last want.Line headers (b ∷ bodies) l.closer k.line h.2 in
    let docs : List Doc = l.second.doc ∷ steps_docs ts l.second.last (steps_wanting want.Line headers) in
    subst (λ (ds : List Doc). Each P ds) (sym (inner_first ts l.first.last (step want.Space column) steps l.closer))
    (row_kept P gap (column.doc ∷ inner_docs ts column.last steps l.closer) (h.0 want.Space k.space)
    (k.align (seq docs) (seq_kept k docs (h.1, apart.0)), inner_kept P W ts column.last w (b ∷ bodies) l.closer may apart.1))

in_column_kept : {P : Doc → Type 0} {W : Want → Type 0} {C : ℕ → Type 0} (k : Keeps P W C) (ts : List Token) (l : Slots) (n : ℕ) (w : Want) → W w → Known P W ts l → P (in_column_doc ts l n w)
in_column_kept {P = P} {W = W} k ts l n w may known =
    let docs : List Doc = column_docs ts l (take n l.others) w (drop n l.others) in
    first_then_kept k ts l (Nest 1 (seq docs) ∷ []) known
    (nested_kept k docs (column_kept k ts l (take n l.others) w (drop n l.others) may
    (subst (λ (ps : List Part). Open P W ts l.first.last (l.second ∷ ps) l.closer) (sym (take-append-drop n l.others)) known.rest_is)))

-- a choice among layouts
choices_kept : {P : Doc → Type 0} {W : Want → Type 0} {C : ℕ → Type 0} (k : Keeps P W C) (d : Doc) (others : List Doc) → P d → Each P others → P (choice_of d others)
unfolding choice_of
choices_kept k d [] h o = h
choices_kept k d (e ∷ others) h o = k.choice d (choice_of e others) h (choices_kept k e others o.0 o.1)

-- what a shape's layouts want, and what is charged for them
abbrev pub ShapeWants : (Want → Type 0) → Shape → Type 0
ShapeWants W (Body headers one_line) = W (body_want one_line)
ShapeWants _ _ = ⊤

abbrev pub AreCharged : (ℕ → Type 0) → Charges → Type 0
AreCharged C charges = C charges.broken × C charges.hung × C charges.flat

line_layouts_kept : {P : Doc → Type 0} {W : Want → Type 0} {C : ℕ → Type 0} (k : Keeps P W C) (one_line : Bool) (d : Doc) (c : ℕ) → C c → P d → Each P (line_layouts one_line d c)
line_layouts_kept k true d c h p = (k.charge c (Flatten d) h (k.flatten d p), tt)
line_layouts_kept k false d c h p = tt

column_layouts_kept : {P : Doc → Type 0} {W : Want → Type 0} {C : ℕ → Type 0} (k : Keeps P W C) (ts : List Token) (l : Slots) (n : ℕ) (w : Want) (c : ℕ) → C c → W w → Known P W ts l →
    Each P (column_layouts ts l n w c)
column_layouts_kept {P = P} k ts l n w c h may known = by_test (leb 2 n)
  where
    by_test : (b : Bool) → Each P (if b then charged c (in_column_doc ts l (n - 1) w) ∷ [] else [])
    by_test true = (k.charge c (in_column_doc ts l (n - 1) w) h (in_column_kept k ts l (n - 1) w may known), tt)
    by_test false = tt

shape_kept : {P : Doc → Type 0} {W : Want → Type 0} {C : ℕ → Type 0} (k : Keeps P W C) (ts : List Token) (shape : Shape) (charges : Charges) (l : Slots) → ShapeWants W shape → AreCharged C charges → Known P W ts l →
    P (shape_doc shape charges ts l)
shape_kept k ts Application charges l may c known =
    let d : Doc = drop_doc ts l.opener l.first (l.second ∷ l.others) l.closer in
    let dropped = dropped_kept k ts l known in
    choices_kept k (charged charges.broken d) (charged charges.hung (hang_doc ts l) ∷ charged charges.flat (Flatten d) ∷ []) (k.charge charges.broken d c.0 dropped)
    (k.charge charges.hung (hang_doc ts l) c.1 (hang_kept k ts l known), (k.charge charges.flat (Flatten d) c.2 (k.flatten d dropped), tt))
shape_kept k ts Hanging charges l may c known =
    let d : Doc = drop_doc ts l.opener l.first (l.second ∷ l.others) l.closer in
    choices_kept k (charged charges.hung (hang_doc ts l)) (charged charges.flat (Flatten d) ∷ []) (k.charge charges.hung (hang_doc ts l) c.1 (hang_kept k ts l known))
    (k.charge charges.flat (Flatten d) c.2 (k.flatten d (dropped_kept k ts l known)), tt)
shape_kept k ts Plain charges l may c known =
    let d : Doc = drop_doc ts l.opener l.first (l.second ∷ l.others) l.closer in
    let dropped = dropped_kept k ts l known in
    choices_kept k (charged charges.broken d) (charged charges.flat (Flatten d) ∷ []) (k.charge charges.broken d c.0 dropped)
    (k.charge charges.flat (Flatten d) c.2 (k.flatten d dropped), tt)
shape_kept {P = P} k ts (Body headers one_line) charges l may c known =
    let w : Want = body_want one_line in
    let d : Doc = in_line_doc ts l headers w in
    let in_line = in_line_kept k ts l headers w may known in
    choices_kept k (charged charges.broken d) (column_layouts ts l headers w charges.hung ++ line_layouts one_line d charges.flat) (k.charge charges.broken d c.0 in_line)
    (row_kept P (column_layouts ts l headers w charges.hung) (line_layouts one_line d charges.flat)
    (column_layouts_kept k ts l headers w charges.hung c.1 may known) (line_layouts_kept k one_line d charges.flat c.2 in_line))

-- lists: what a way wants matters where there are two slots or more
abbrev pub WayWants : (Want → Type 0) → Shape → List Part → Type 0
WayWants W shape [] = ⊤
WayWants W shape (p ∷ []) = ⊤
WayWants W shape (p ∷ next ∷ parts) = ShapeWants W shape

abbrev pub OpenBetween : (Doc → Type 0) → (Want → Type 0) → List Token → ℕ → List Part → ℕ → Type 0
OpenBetween P W ts opener [] closer = ⊤
OpenBetween P W ts opener (p ∷ parts) closer = Each P (gap_docs ts opener p.first want.Nothing) × P p.doc × Open P W ts p.last parts closer

body_kept : {P : Doc → Type 0} {W : Want → Type 0} {C : ℕ → Type 0} (k : Keeps P W C) (ts : List Token) (w : Way) (opener : ℕ) (parts : List Part) (closer : ℕ) →
    WayWants W w.shape parts → AreCharged C w.charges → OpenBetween P W ts opener parts closer → Each P (body_docs ts w opener parts closer)
body_kept k ts w opener [] closer may c h = tt
body_kept k ts w opener (p ∷ []) closer may c h = (drop_kept k ts opener p [] closer h.0 h.1 h.2, tt)
body_kept k ts w opener (p ∷ next ∷ slots) closer may c h =
    let many : Slots = record { opener = opener; first = p; second = next; others = slots; closer = closer } in
    (shape_kept k ts w.shape w.charges many may c (record { opened = h.0; first_is = h.1; rest_is = h.2 }), tt)

pub list_kept : {P : Doc → Type 0} {W : Want → Type 0} {C : ℕ → Type 0} (k : Keeps P W C) (ts : List Token) (w : Way) (opener : ℕ) (parts : List Part) (closer : ℕ) →
    WayWants W w.shape parts → AreCharged C w.charges → P (mark_doc ts opener) → OpenBetween P W ts opener parts closer → P (mark_doc ts closer) →
    P (list_doc ts w opener parts closer)
list_kept {P = P} k ts w opener parts closer may c begins inside ends =
    let docs : List Doc = body_docs ts w opener parts closer in
    seq_kept k (mark_doc ts opener ∷ (docs ++ mark_doc ts closer ∷ []))
    (begins, row_kept P docs (mark_doc ts closer ∷ []) (body_kept k ts w opener parts closer may c inside) (ends, tt))
