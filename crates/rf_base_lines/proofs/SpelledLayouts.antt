-- The layouts of lists on one line: each is on one line as spaces between its parts are, or has a break.
use Rattle.std.proofs.Common.{◌≡◌, ℕ, ◌≤◌, ◌<◌, Bool, true, false, List, [], ◌∷◌, ◌++◌, length, take, drop, append_assoc, append-nil, refl, sym, ◌∙◌, ap, subst, None, arith}
use Rattle.std.specs.Prelude.{leb}
use Rattle.std.proofs.lemmas.Bool.{leb-true, leb-false}
use Rattle.std.proofs.lemmas.List.{take-append-drop, take_all, drop_all, length-drop}
use Rattle.rf_base_document.specs.Document.{Doc, Nest}
use Rattle.rf_base_document.specs.Sequence.{seq}
use Rattle.rf_base_grammar.specs.Token.{Token}
use Rattle.rf_base_tree.specs.declared.separators.Want.TheVariants as want
use Rattle.rf_base_file.specs.Rows.{Part, gap_docs, Step, step, steps_docs, steps_wanting, inner_docs}
use Rattle.rf_base_file.specs.Shapes.{Slots, drop_doc, first_then, hung_doc, hung_docs, hang_doc, in_line_doc, column_part, column_docs, in_column_doc}
use Rattle.rf_base_file.proofs.Parts.{step_parts, step_parts-wanting}
use Rattle.rf_base_file.proofs.SlotStrands.{step_parts-append}
use Rattle.rf_base_lines.specs.Spelled.{spelled_both, spelled_line, spelled_all}
use Rattle.rf_base_lines.specs.Lists.{between_docs, EachMayBreak}
use Rattle.rf_base_lines.proofs.SpelledRows.{all_append, all_one, HasPart, has_part, seq_spelled}
use Rattle.rf_base_lines.proofs.SpelledSteps.{behind_none, row_same, inner_first, inner_spelled, inner_part, AllSoft, wanting_soft, soft_append, inner_soft, inner_breaks, may_break_behind}

-- what stands between the brackets of a list, and behind its first slot, where spaces are wanted
abbrev pub all_between : List Token → Slots → List Doc
all_between ts l = between_docs ts l.opener (l.first ∷ l.second ∷ l.others) l.closer

abbrev others_between : List Token → Slots → List Doc
others_between ts l = inner_docs ts l.first.last (steps_wanting want.Space (l.second ∷ l.others)) l.closer

-- these behind the first slot
abbrev behind_first : List Token → Slots → List Doc → List Doc
behind_first ts l rest = gap_docs ts l.opener l.first.first want.Nothing ++ l.first.doc ∷ rest

-- a layout that is these behind the first slot
abbrev IsBehind : List Token → Slots → Doc → List Doc → Bool → Type 0
IsBehind ts l d rest flat = spelled_line d flat ≡ spelled_all (behind_first ts l rest) flat

behind_as_between : (ts : List Token) (l : Slots) (d : Doc) (rest : List Doc) (flat : Bool) → IsBehind ts l d rest flat →
    spelled_all rest flat ≡ spelled_all (others_between ts l) flat → spelled_line d flat ≡ spelled_all (all_between ts l) flat
behind_as_between ts l d rest flat h e =
    let gap : List Doc = gap_docs ts l.opener l.first.first want.Nothing in
    h ∙ row_same gap gap l.first.doc rest (others_between ts l) flat refl e
    ∙ sym (inner_spelled ts l.opener (step want.Nothing l.first) (steps_wanting want.Space (l.second ∷ l.others)) l.closer flat)

behind_breaks : (ts : List Token) (l : Slots) (d : Doc) (rest : List Doc) (flat : Bool) → IsBehind ts l d rest flat →
    spelled_all rest flat ≡ None → spelled_line d flat ≡ None
behind_breaks ts l d rest flat h e = h ∙ behind_none (gap_docs ts l.opener l.first.first want.Nothing) l.first.doc rest flat e

-- each slot on a line of its own
drop_behind : (ts : List Token) (l : Slots) (flat : Bool) →
    IsBehind ts l (drop_doc ts l.opener l.first (l.second ∷ l.others) l.closer) (inner_docs ts l.first.last (steps_wanting want.Line (l.second ∷ l.others)) l.closer) flat
unfolding spelled_line
drop_behind ts l flat =
    let steps : List Step = steps_wanting want.Line (l.second ∷ l.others) in
    let rest : List Doc = inner_docs ts l.first.last steps l.closer in
    ap (λ (ds : List Doc). spelled_line (seq ds) flat) (inner_first ts l.opener (step want.Nothing l.first) steps l.closer)
    ∙ seq_spelled (behind_first ts l rest) flat (has_part (gap_docs ts l.opener l.first.first want.Nothing) l.first.doc rest)

pub drop_flat : (ts : List Token) (l : Slots) → spelled_line (drop_doc ts l.opener l.first (l.second ∷ l.others) l.closer) true ≡ spelled_all (all_between ts l) true
drop_flat ts l =
    let parts : List Part = l.second ∷ l.others in
    behind_as_between ts l (drop_doc ts l.opener l.first parts l.closer) (inner_docs ts l.first.last (steps_wanting want.Line parts) l.closer) true (drop_behind ts l true)
    (inner_soft ts l.first.last (steps_wanting want.Line parts) parts l.closer (wanting_soft want.Line parts tt) (step_parts-wanting want.Line parts))

pub drop_breaks : (ts : List Token) (l : Slots) → EachMayBreak ts l.first.last (l.second ∷ l.others) → spelled_line (drop_doc ts l.opener l.first (l.second ∷ l.others) l.closer) false ≡ None
drop_breaks ts l h =
    let parts : List Part = l.second ∷ l.others in
    behind_breaks ts l (drop_doc ts l.opener l.first parts l.closer) (inner_docs ts l.first.last (steps_wanting want.Line parts) l.closer) false (drop_behind ts l false)
    (inner_breaks ts l.first.last [] l.second l.others l.closer h)

-- these behind the first slot
first_then_behind : (ts : List Token) (l : Slots) (rest : List Doc) (flat : Bool) → IsBehind ts l (first_then ts l rest) rest flat
unfolding spelled_line steps_docs
first_then_behind ts l rest flat =
    let gap : List Doc = gap_docs ts l.opener l.first.first want.Nothing in
    ap (λ (ds : List Doc). spelled_line (seq ds) flat) (append_assoc gap (l.first.doc ∷ []) rest)
    ∙ seq_spelled (behind_first ts l rest) flat (has_part gap l.first.doc rest)

-- the second slot on the first one's line, and the others below it
hung_spelled : (ts : List Token) (before : ℕ) (next : Part) (slots : List Part) (closer : ℕ) (flat : Bool) →
    spelled_all (hung_docs ts before next slots closer) flat
    ≡ spelled_all (gap_docs ts before next.first want.Space ++ next.doc ∷ inner_docs ts next.last (steps_wanting want.Line slots) closer) flat
unfolding spelled_line
hung_spelled ts before next slots closer flat =
    let gap : List Doc = gap_docs ts before next.first want.Space in
    let below : List Doc = next.doc ∷ inner_docs ts next.last (steps_wanting want.Line slots) closer in
    all_append gap (hung_doc ts next slots closer ∷ []) flat
    ∙ ap (spelled_both (spelled_all gap flat)) (all_one (hung_doc ts next slots closer) flat ∙ seq_spelled below flat tt)
    ∙ sym (all_append gap below flat)

hang_same : (ts : List Token) (l : Slots) (flat : Bool) →
    spelled_all (inner_docs ts l.second.last (steps_wanting want.Line l.others) l.closer) flat
    ≡ spelled_all (inner_docs ts l.second.last (steps_wanting want.Space l.others) l.closer) flat →
    spelled_line (hang_doc ts l) flat ≡ spelled_all (all_between ts l) flat
hang_same ts l flat e =
    let gap : List Doc = gap_docs ts l.first.last l.second.first want.Space in
    let hung : List Doc = hung_docs ts l.first.last l.second l.others l.closer in
    behind_as_between ts l (hang_doc ts l) hung flat (first_then_behind ts l hung flat)
    (hung_spelled ts l.first.last l.second l.others l.closer flat
    ∙ row_same gap gap l.second.doc (inner_docs ts l.second.last (steps_wanting want.Line l.others) l.closer)
    (inner_docs ts l.second.last (steps_wanting want.Space l.others) l.closer) flat refl e
    ∙ sym (inner_spelled ts l.first.last (step want.Space l.second) (steps_wanting want.Space l.others) l.closer flat))

pub hang_flat : (ts : List Token) (l : Slots) → spelled_line (hang_doc ts l) true ≡ spelled_all (all_between ts l) true
hang_flat ts l =
    hang_same ts l true
    (inner_soft ts l.second.last (steps_wanting want.Line l.others) l.others l.closer (wanting_soft want.Line l.others tt) (step_parts-wanting want.Line l.others))

pub hang_pair : (ts : List Token) (l : Slots) → l.others ≡ [] → spelled_line (hang_doc ts l) false ≡ spelled_all (all_between ts l) false
hang_pair ts l none =
    hang_same ts l false
    (ap (λ (ps : List Part). spelled_all (inner_docs ts l.second.last (steps_wanting want.Line ps) l.closer) false) none
    ∙ sym (ap (λ (ps : List Part). spelled_all (inner_docs ts l.second.last (steps_wanting want.Space ps) l.closer) false) none))

pub hang_breaks : (ts : List Token) (l : Slots) (third : Part) (more : List Part) → l.others ≡ third ∷ more → EachMayBreak ts l.first.last (l.second ∷ l.others) → spelled_line (hang_doc ts l) false ≡ None
unfolding EachMayBreak
hang_breaks ts l third more are h =
    let hung : List Doc = hung_docs ts l.first.last l.second l.others l.closer in
    behind_breaks ts l (hang_doc ts l) hung false (first_then_behind ts l hung false)
    (hung_spelled ts l.first.last l.second l.others l.closer false
    ∙ behind_none (gap_docs ts l.first.last l.second.first want.Space) l.second.doc (inner_docs ts l.second.last (steps_wanting want.Line l.others) l.closer) false
    (ap (λ (ps : List Part). spelled_all (inner_docs ts l.second.last (steps_wanting want.Line ps) l.closer) false) are
    ∙ inner_breaks ts l.second.last [] third more l.closer (subst (λ (ps : List Part). EachMayBreak ts l.second.last ps) are h.1)))

-- the first slot and the headers on one line, and the bodies below
abbrev header_steps : Slots → ℕ → List Step
header_steps l n = steps_wanting want.Space (take n (l.second ∷ l.others)) ++ steps_wanting want.Line (drop n (l.second ∷ l.others))

header_parts : (l : Slots) (n : ℕ) → step_parts (header_steps l n) ≡ l.second ∷ l.others
header_parts l n =
    let parts : List Part = l.second ∷ l.others in
    step_parts-append (steps_wanting want.Space (take n parts)) (steps_wanting want.Line (drop n parts))
    ∙ ap (λ (ps : List Part). ps ++ step_parts (steps_wanting want.Line (drop n parts))) (step_parts-wanting want.Space (take n parts))
    ∙ ap (λ (ps : List Part). take n parts ++ ps) (step_parts-wanting want.Line (drop n parts))
    ∙ take-append-drop n parts

nested_spelled : (ds : List Doc) (flat : Bool) → HasPart ds → spelled_all (Nest 1 (seq ds) ∷ []) flat ≡ spelled_all ds flat
unfolding spelled_line
nested_spelled ds flat h = all_one (Nest 1 (seq ds)) flat ∙ seq_spelled ds flat h

in_line_spelled : (ts : List Token) (l : Slots) (n : ℕ) (flat : Bool) →
    spelled_all (Nest 1 (seq (inner_docs ts l.first.last (header_steps l n) l.closer)) ∷ []) flat ≡ spelled_all (inner_docs ts l.first.last (header_steps l n) l.closer) flat
in_line_spelled ts l n flat =
    nested_spelled (inner_docs ts l.first.last (header_steps l n) l.closer) flat
    (inner_part ts l.first.last (header_steps l n) l.closer l.second l.others (header_parts l n))

in_line_same : (ts : List Token) (l : Slots) (n : ℕ) (flat : Bool) →
    spelled_all (inner_docs ts l.first.last (header_steps l n) l.closer) flat ≡ spelled_all (others_between ts l) flat →
    spelled_line (in_line_doc ts l n want.Line) flat ≡ spelled_all (all_between ts l) flat
in_line_same ts l n flat e =
    let nested : List Doc = Nest 1 (seq (inner_docs ts l.first.last (header_steps l n) l.closer)) ∷ [] in
    behind_as_between ts l (in_line_doc ts l n want.Line) nested flat (first_then_behind ts l nested flat) (in_line_spelled ts l n flat ∙ e)

pub in_line_flat : (ts : List Token) (l : Slots) (n : ℕ) → spelled_line (in_line_doc ts l n want.Line) true ≡ spelled_all (all_between ts l) true
in_line_flat ts l n =
    let parts : List Part = l.second ∷ l.others in
    let soft : AllSoft (header_steps l n) =
    soft_append (steps_wanting want.Space (take n parts)) (steps_wanting want.Line (drop n parts)) (wanting_soft want.Space (take n parts) tt) (wanting_soft want.Line (drop n parts) tt) in
    in_line_same ts l n true (inner_soft ts l.first.last (header_steps l n) parts l.closer soft (header_parts l n))

pub in_line_whole : (ts : List Token) (l : Slots) (n : ℕ) → length (l.second ∷ l.others) ≤ n → spelled_line (in_line_doc ts l n want.Line) false ≡ spelled_all (all_between ts l) false
in_line_whole ts l n h =
    let parts : List Part = l.second ∷ l.others in
    let all : header_steps l n ≡ steps_wanting want.Space parts =
    ap (λ (ps : List Part). steps_wanting want.Space ps ++ steps_wanting want.Line (drop n parts)) (take_all n parts h)
    ∙ ap (λ (ps : List Part). steps_wanting want.Space parts ++ steps_wanting want.Line ps) (drop_all n parts h)
    ∙ append-nil (steps_wanting want.Space parts) in
    in_line_same ts l n false (ap (λ (steps : List Step). spelled_all (inner_docs ts l.first.last steps l.closer) false) all)

-- where some are left, there is a first of them
some_left : (parts : List Part) (n : ℕ) → n < length parts → (b : Part) × (bodies : List Part) × (drop n parts ≡ b ∷ bodies)
some_left parts n less = by_rest (drop n parts) (let size = length-drop n parts in omega (arith, size))
  where
    by_rest : (rest : List Part) → 1 ≤ length rest → (b : Part) × (bodies : List Part) × (rest ≡ b ∷ bodies)
    by_rest [] h = absurd (omega arith)
    by_rest (b ∷ bodies) h = (b, bodies, refl)

split_at : (parts : List Part) (n : ℕ) (rest : List Part) → drop n parts ≡ rest → parts ≡ take n parts ++ rest
split_at parts n rest e = sym (take-append-drop n parts) ∙ ap (λ (ps : List Part). take n parts ++ ps) e

pub in_line_breaks : (ts : List Token) (l : Slots) (n : ℕ) → n < length (l.second ∷ l.others) → EachMayBreak ts l.first.last (l.second ∷ l.others) →
    spelled_line (in_line_doc ts l n want.Line) false ≡ None
in_line_breaks ts l n less h =
    let parts : List Part = l.second ∷ l.others in
    let left = some_left parts n less in
    let nested : List Doc = Nest 1 (seq (inner_docs ts l.first.last (header_steps l n) l.closer)) ∷ [] in
    behind_breaks ts l (in_line_doc ts l n want.Line) nested false (first_then_behind ts l nested false)
    (in_line_spelled ts l n false
    ∙ ap (λ (ps : List Part). spelled_all (inner_docs ts l.first.last (steps_wanting want.Space (take n parts) ++ steps_wanting want.Line ps) l.closer) false) left.2
    ∙ inner_breaks ts l.first.last (take n parts) left.0 left.1 l.closer
    (subst (λ (ps : List Part). EachMayBreak ts l.first.last ps) (split_at parts n (left.0 ∷ left.1) left.2) h))

-- headers below one another, and bodies
column_breaks : (ts : List Token) (l : Slots) (headers : List Part) (b : Part) (bodies : List Part) → EachMayBreak ts l.first.last (l.second ∷ (headers ++ b ∷ bodies)) →
    spelled_all (Nest 1 (seq (column_docs ts l headers want.Line (b ∷ bodies))) ∷ []) false ≡ None
unfolding EachMayBreak step_parts
column_breaks ts l headers b bodies h =
    let column : Part = column_part ts l.second headers in
    let steps : List Step = step want.Space column ∷ steps_wanting want.Line (b ∷ bodies) in
    let rest : List Step = steps_wanting want.Line (b ∷ bodies) in
    nested_spelled (inner_docs ts l.first.last steps l.closer) false (inner_part ts l.first.last steps l.closer column (step_parts rest) refl)
    ∙ inner_spelled ts l.first.last (step want.Space column) rest l.closer false
    ∙ behind_none (gap_docs ts l.first.last column.first want.Space) column.doc (inner_docs ts column.last rest l.closer) false
    (inner_breaks ts column.last [] b bodies l.closer (may_break_behind ts l.second.last want.Line headers (b ∷ bodies) h.1))

pub in_column_breaks : (ts : List Token) (l : Slots) (more : ℕ) → more < length l.others → EachMayBreak ts l.first.last (l.second ∷ l.others) →
    spelled_line (in_column_doc ts l more want.Line) false ≡ None
in_column_breaks ts l more less h =
    let left = some_left l.others more less in
    let nested : List Doc = Nest 1 (seq (column_docs ts l (take more l.others) want.Line (drop more l.others))) ∷ [] in
    behind_breaks ts l (in_column_doc ts l more want.Line) nested false (first_then_behind ts l nested false)
    (ap (λ (ps : List Part). spelled_all (Nest 1 (seq (column_docs ts l (take more l.others) want.Line ps)) ∷ []) false) left.2
    ∙ column_breaks ts l (take more l.others) left.0 left.1
    (subst (λ (ps : List Part). EachMayBreak ts l.first.last (l.second ∷ ps)) (split_at l.others more (left.0 ∷ left.1) left.2) h))

-- without a body behind the headers below one another it is as what is hung
in_column_hung : (ts : List Token) (l : Slots) (more : ℕ) (flat : Bool) → length l.others ≤ more → spelled_line (in_column_doc ts l more want.Line) flat ≡ spelled_line (hang_doc ts l) flat
in_column_hung ts l more flat h =
    let hung : List Doc = hung_docs ts l.first.last l.second l.others l.closer in
    let nested : List Doc = Nest 1 (seq hung) ∷ [] in
    let gap : List Doc = gap_docs ts l.opener l.first.first want.Nothing in
    let space : List Doc = gap_docs ts l.first.last l.second.first want.Space in
    ap (λ (ps : List Part). spelled_line (first_then ts l (Nest 1 (seq (column_docs ts l ps want.Line (drop more l.others))) ∷ [])) flat) (take_all more l.others h)
    ∙ ap (λ (ps : List Part). spelled_line (first_then ts l (Nest 1 (seq (column_docs ts l l.others want.Line ps)) ∷ [])) flat) (drop_all more l.others h)
    ∙ first_then_behind ts l nested flat
    ∙ row_same gap gap l.first.doc nested hung flat refl (nested_spelled hung flat (has_part space (hung_doc ts l.second l.others l.closer) []))
    ∙ sym (first_then_behind ts l hung flat)

-- where what stands between the brackets is on no line unless flat, no layout that isn't flat is
abbrev pub Breaks : List Token → Slots → Type 0
Breaks ts l = spelled_all (all_between ts l) false ≡ None

pub hang_none : (ts : List Token) (l : Slots) → Breaks ts l → EachMayBreak ts l.first.last (l.second ∷ l.others) → spelled_line (hang_doc ts l) false ≡ None
hang_none ts l none may = by_others l.others refl
  where
    by_others : (others : List Part) → l.others ≡ others → spelled_line (hang_doc ts l) false ≡ None
    by_others [] e = hang_pair ts l e ∙ none
    by_others (third ∷ more) e = hang_breaks ts l third more e may

pub in_line_none : (ts : List Token) (l : Slots) (n : ℕ) → Breaks ts l → EachMayBreak ts l.first.last (l.second ∷ l.others) → spelled_line (in_line_doc ts l n want.Line) false ≡ None
in_line_none ts l n none may = by_test (leb (length (l.second ∷ l.others)) n) refl
  where
    by_test : (b : Bool) → leb (length (l.second ∷ l.others)) n ≡ b → spelled_line (in_line_doc ts l n want.Line) false ≡ None
    by_test true e = in_line_whole ts l n (leb-true (length (l.second ∷ l.others)) n e) ∙ none
    by_test false e = in_line_breaks ts l n (leb-false (length (l.second ∷ l.others)) n e) may

pub in_column_none : (ts : List Token) (l : Slots) (more : ℕ) → Breaks ts l → EachMayBreak ts l.first.last (l.second ∷ l.others) →
    spelled_line (in_column_doc ts l more want.Line) false ≡ None
in_column_none ts l more none may = by_test (leb (length l.others) more) refl
  where
    by_test : (b : Bool) → leb (length l.others) more ≡ b → spelled_line (in_column_doc ts l more want.Line) false ≡ None
    by_test true e = in_column_hung ts l more false (leb-true (length l.others) more e) ∙ hang_none ts l none may
    by_test false e = in_column_breaks ts l more (leb-false (length l.others) more e) may
