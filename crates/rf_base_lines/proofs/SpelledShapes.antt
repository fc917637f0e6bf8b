-- Lists of each shape on one line: which of their layouts that is.
use Rattle.std.proofs.Common.{◌≡◌, ℕ, suc, ◌+◌, ◌-◌, ◌≤◌, ◌<◌, Bool, true, false, List, [], ◌∷◌, ◌++◌, length, refl, sym, ◌∙◌, ap, ap₂, subst, Option, Some, None, arith}
use Rattle.std.specs.Prelude.{leb, if◌then◌else◌}
use Rattle.std.proofs.lemmas.Bool.{leb-true, leb-false, lt-leb}
use Rattle.rf_base_document.specs.declared.directions.Dir.{Dir}
use Rattle.rf_base_document.specs.declared.directions.Dir.TheVariants.{Left, Right}
use Rattle.rf_base_document.specs.Document.{Doc, Flatten}
use Rattle.rf_base_document.specs.Sequence.{seq}
use Rattle.rf_base_grammar.specs.Token.{Token}
use Rattle.rf_base_style.specs.declared.rules.Charges.{Charges}
use Rattle.rf_base_style.specs.Table.{no_charges}
use Rattle.rf_base_tree.specs.declared.separators.Want.TheVariants as want
use Rattle.rf_base_file.specs.declared.shapes.Shape.{Shape}
use Rattle.rf_base_file.specs.declared.shapes.Shape.TheVariants.{Application, Hanging, Plain, Body}
use Rattle.rf_base_file.specs.declared.shapes.Way.{Way}
use Rattle.rf_base_file.specs.Rows.{Part, mark_doc, Step, step, inner_docs}
use Rattle.rf_base_file.specs.Shapes.{Slots, drop_doc, hang_doc, in_line_doc, in_column_doc, choice_of, shape_doc}
use Rattle.rf_base_file.specs.FileDocument.{list_doc}
use Rattle.rf_base_file.proofs.Parts.{step_parts}
use Rattle.rf_base_lines.specs.Spelled.{Spelled, spelled_nothing, spelled_both, spelled_behind, spelled_either, spelled_line, spelled_all}
use Rattle.rf_base_lines.specs.Lists.{between_docs, EachMayBreak, PartsMayBreak, BreaksWhere, IsUncharged, Turns, turns, fits, turns_unless_flat, may_be_one_line, turns_of}
use Rattle.rf_base_lines.proofs.SpelledRows.{nothing_both, all_one, seq_spelled}
use Rattle.rf_base_lines.proofs.SpelledSteps.{inner_part}
use Rattle.rf_base_lines.proofs.SpelledLayouts.{all_between, drop_flat, drop_breaks, hang_flat, hang_pair, hang_breaks, in_line_flat, in_line_whole, in_line_breaks, in_column_breaks, hang_none, in_line_none, in_column_none}

-- the first of some layouts, where that is on one line, or another
first_of : (d e : Doc) (others : List Doc) (flat : Bool) (s : Spelled) → spelled_line d flat ≡ Some s →
    spelled_line (choice_of d (e ∷ others)) flat ≡ Some (spelled_behind (Left ∷ []) s)
unfolding spelled_line choice_of
first_of d e others flat s h = ap (λ (o : Option Spelled). spelled_either o (spelled_line (choice_of e others) flat)) h

other_of : (d e : Doc) (others : List Doc) (flat : Bool) (dirs : List Dir) (s : Spelled) → spelled_line d flat ≡ None →
    spelled_line (choice_of e others) flat ≡ Some (spelled_behind dirs s) → spelled_line (choice_of d (e ∷ others)) flat ≡ Some (spelled_behind (Right ∷ dirs) s)
unfolding spelled_line choice_of
other_of d e others flat dirs s h k = ap₂ spelled_either h k

flat_of : (d : Doc) (s : Spelled) → spelled_line d true ≡ Some s → spelled_line (choice_of (Flatten d) []) false ≡ Some (spelled_behind [] s)
unfolding spelled_line choice_of
flat_of d s h = h

-- the layout of a list is on one line as what stands between its brackets, by these turns
abbrev SpelledBy : List Token → Slots → Doc → Bool → Turns → Type 0
SpelledBy ts l d flat t =
    (s : Spelled) → spelled_all (all_between ts l) t.flat ≡ Some s → spelled_line d flat ≡ Some (spelled_behind t.dirs s)

abbrev dropped : List Token → Slots → Doc
dropped ts l = drop_doc ts l.opener l.first (l.second ∷ l.others) l.closer

-- flat, by the first layout
shape_flat : (ts : List Token) (shape : Shape) (l : Slots) → may_be_one_line shape ≡ true → SpelledBy ts l (shape_doc shape no_charges ts l) true (turns (Left ∷ []) true)
shape_flat ts Application l m s h = first_of (dropped ts l) (hang_doc ts l) (Flatten (dropped ts l) ∷ []) true s (drop_flat ts l ∙ h)
shape_flat ts Hanging l m s h = first_of (hang_doc ts l) (Flatten (dropped ts l)) [] true s (hang_flat ts l ∙ h)
shape_flat ts Plain l m s h = first_of (dropped ts l) (Flatten (dropped ts l)) [] true s (drop_flat ts l ∙ h)
shape_flat ts (Body headers true) l m s h = by_test (leb 2 headers)
  where
    in_line : Doc
    in_line = in_line_doc ts l headers want.Line

    by_test : (b : Bool) → spelled_line (choice_of in_line ((if b then in_column_doc ts l (headers - 1) want.Line ∷ [] else []) ++ Flatten in_line ∷ [])) true ≡ Some (spelled_behind (Left ∷ []) s)
    by_test true = first_of in_line (in_column_doc ts l (headers - 1) want.Line) (Flatten in_line ∷ []) true s (in_line_flat ts l headers ∙ h)
    by_test false = first_of in_line (Flatten in_line) [] true s (in_line_flat ts l headers ∙ h)
shape_flat ts (Body headers false) l m s h = cc

-- otherwise by what is hung, where there are two slots that don't break

two_fit : (ts : List Token) (l : Slots) (breaks : Bool) → fits (length (l.first ∷ l.second ∷ l.others)) 2 breaks ≡ true → l.others ≡ []
two_fit ts l true e = cc
two_fit ts l false e = by_others l.others (leb-true (length (l.first ∷ l.second ∷ l.others)) 2 e)
  where
    by_others : (others : List Part) → length (l.first ∷ l.second ∷ others) ≤ 2 → others ≡ []
    by_others [] h = refl
    by_others (third ∷ more) h = absurd (omega arith)

-- what is hung is on no line unless flat, of more slots or where they break
hang_misfit : (ts : List Token) (l : Slots) (breaks : Bool) → BreaksWhere breaks ts l.opener (l.first ∷ l.second ∷ l.others) l.closer →
    EachMayBreak ts l.first.last (l.second ∷ l.others) → fits (length (l.first ∷ l.second ∷ l.others)) 2 breaks ≡ false → spelled_line (hang_doc ts l) false ≡ None
hang_misfit ts l true none may e = hang_none ts l (none refl) may
hang_misfit ts l false none may e = by_others l.others refl
  where
    by_others : (others : List Part) → l.others ≡ others → spelled_line (hang_doc ts l) false ≡ None
    by_others [] are =
        let few : leb 2 2 ≡ false = subst (λ (ps : List Part). leb (length (l.first ∷ l.second ∷ ps)) 2 ≡ false) are e in
        absurd (omega (arith, leb-false 2 2 few))
    by_others (third ∷ more) are = hang_breaks ts l third more are may

application_spelled : (ts : List Token) (l : Slots) (breaks : Bool) → BreaksWhere breaks ts l.opener (l.first ∷ l.second ∷ l.others) l.closer →
    EachMayBreak ts l.first.last (l.second ∷ l.others) →
    SpelledBy ts l (shape_doc Application no_charges ts l) false (turns_unless_flat Application (length (l.first ∷ l.second ∷ l.others)) breaks)
application_spelled ts l breaks none may = by_fit (fits (length (l.first ∷ l.second ∷ l.others)) 2 breaks) refl
  where
    by_fit : (b : Bool) → fits (length (l.first ∷ l.second ∷ l.others)) 2 breaks ≡ b →
        SpelledBy ts l (shape_doc Application no_charges ts l) false (if b then turns (Right ∷ Left ∷ []) false else turns (Right ∷ Right ∷ []) true)
    by_fit true e =
        λ s h. other_of (dropped ts l) (hang_doc ts l) (Flatten (dropped ts l) ∷ []) false (Left ∷ []) s (drop_breaks ts l may)
        (first_of (hang_doc ts l) (Flatten (dropped ts l)) [] false s (hang_pair ts l (two_fit ts l breaks e) ∙ h))
    by_fit false e =
        λ s h. other_of (dropped ts l) (hang_doc ts l) (Flatten (dropped ts l) ∷ []) false (Right ∷ []) s (drop_breaks ts l may)
        (other_of (hang_doc ts l) (Flatten (dropped ts l)) [] false [] s (hang_misfit ts l breaks none may e) (flat_of (dropped ts l) s (drop_flat ts l ∙ h)))

hanging_spelled : (ts : List Token) (l : Slots) (breaks : Bool) → BreaksWhere breaks ts l.opener (l.first ∷ l.second ∷ l.others) l.closer →
    EachMayBreak ts l.first.last (l.second ∷ l.others) →
    SpelledBy ts l (shape_doc Hanging no_charges ts l) false (turns_unless_flat Hanging (length (l.first ∷ l.second ∷ l.others)) breaks)
hanging_spelled ts l breaks none may = by_fit (fits (length (l.first ∷ l.second ∷ l.others)) 2 breaks) refl
  where
    by_fit : (b : Bool) → fits (length (l.first ∷ l.second ∷ l.others)) 2 breaks ≡ b →
        SpelledBy ts l (shape_doc Hanging no_charges ts l) false (if b then turns (Left ∷ []) false else turns (Right ∷ []) true)
    by_fit true e = λ s h. first_of (hang_doc ts l) (Flatten (dropped ts l)) [] false s (hang_pair ts l (two_fit ts l breaks e) ∙ h)
    by_fit false e =
        λ s h. other_of (hang_doc ts l) (Flatten (dropped ts l)) [] false [] s (hang_misfit ts l breaks none may e) (flat_of (dropped ts l) s (drop_flat ts l ∙ h))

plain_spelled : (ts : List Token) (l : Slots) → EachMayBreak ts l.first.last (l.second ∷ l.others) →
    SpelledBy ts l (shape_doc Plain no_charges ts l) false (turns (Right ∷ []) true)
plain_spelled ts l may s h =
    other_of (dropped ts l) (Flatten (dropped ts l)) [] false [] s (drop_breaks ts l may) (flat_of (dropped ts l) s (drop_flat ts l ∙ h))

-- a body without a slot behind its headers, that doesn't break
headers_spelled : (ts : List Token) (l : Slots) (headers : ℕ) → length (l.second ∷ l.others) ≤ headers →
    SpelledBy ts l (shape_doc (Body headers true) no_charges ts l) false (turns (Left ∷ []) false)
headers_spelled ts l headers all s h = by_test (leb 2 headers)
  where
    in_line : Doc
    in_line = in_line_doc ts l headers want.Line

    by_test : (b : Bool) → spelled_line (choice_of in_line ((if b then in_column_doc ts l (headers - 1) want.Line ∷ [] else []) ++ Flatten in_line ∷ [])) false ≡ Some (spelled_behind (Left ∷ []) s)
    by_test true = first_of in_line (in_column_doc ts l (headers - 1) want.Line) (Flatten in_line ∷ []) false s (in_line_whole ts l headers all ∙ h)
    by_test false = first_of in_line (Flatten in_line) [] false s (in_line_whole ts l headers all ∙ h)

-- and with one, or one that breaks: neither the first layout nor that with its headers in a column is on one line
bodies_spelled : (ts : List Token) (l : Slots) (headers : ℕ) → spelled_line (in_line_doc ts l headers want.Line) false ≡ None →
    (2 ≤ headers → spelled_line (in_column_doc ts l (headers - 1) want.Line) false ≡ None) →
    SpelledBy ts l (shape_doc (Body headers true) no_charges ts l) false (turns (if leb 2 headers then Right ∷ Right ∷ [] else Right ∷ []) true)
bodies_spelled ts l headers in_line_none in_column_none s h = by_test (leb 2 headers) refl
  where
    in_line : Doc
    in_line = in_line_doc ts l headers want.Line

    in_column : Doc
    in_column = in_column_doc ts l (headers - 1) want.Line

    by_test : (b : Bool) → leb 2 headers ≡ b → spelled_line (choice_of in_line ((if b then in_column ∷ [] else []) ++ Flatten in_line ∷ [])) false ≡ Some (spelled_behind (if b then Right ∷ Right ∷ [] else Right ∷ []) s)
    by_test true e =
        other_of in_line in_column (Flatten in_line ∷ []) false (Right ∷ []) s in_line_none
        (other_of in_column (Flatten in_line) [] false [] s (in_column_none (leb-true 2 headers e))
        (flat_of in_line s (in_line_flat ts l headers ∙ h)))
    by_test false e = other_of in_line (Flatten in_line) [] false [] s in_line_none (flat_of in_line s (in_line_flat ts l headers ∙ h))

body_spelled : (ts : List Token) (l : Slots) (headers : ℕ) (breaks : Bool) → BreaksWhere breaks ts l.opener (l.first ∷ l.second ∷ l.others) l.closer →
    EachMayBreak ts l.first.last (l.second ∷ l.others) →
    SpelledBy ts l (shape_doc (Body headers true) no_charges ts l) false (turns_unless_flat (Body headers true) (length (l.first ∷ l.second ∷ l.others)) breaks)
body_spelled ts l headers true none may =
    bodies_spelled ts l headers (in_line_none ts l headers (none refl) may) (λ several. in_column_none ts l (headers - 1) (none refl) may)
body_spelled ts l headers false none may = by_fit (leb (length (l.first ∷ l.second ∷ l.others)) (headers + 1)) refl
  where
    all : (n : ℕ) → suc n ≤ headers + 1 → n ≤ headers
    all n h = omega arith

    some : (n : ℕ) → headers + 1 < suc n → headers < n
    some n h = omega arith

    fewer : (n : ℕ) → 2 ≤ headers → headers < suc n → headers - 1 < n
    fewer n p q = omega arith

    by_fit : (b : Bool) → leb (length (l.first ∷ l.second ∷ l.others)) (headers + 1) ≡ b →
        SpelledBy ts l (shape_doc (Body headers true) no_charges ts l) false (if b then turns (Left ∷ []) false else turns (if leb 2 headers then Right ∷ Right ∷ [] else Right ∷ []) true)
    by_fit true e = headers_spelled ts l headers (all (length (l.second ∷ l.others)) (leb-true (length (l.first ∷ l.second ∷ l.others)) (headers + 1) e))
    by_fit false e =
        let less = some (length (l.second ∷ l.others)) (leb-false (length (l.first ∷ l.second ∷ l.others)) (headers + 1) e) in
        bodies_spelled ts l headers (in_line_breaks ts l headers less may) (λ several. in_column_breaks ts l (headers - 1) (fewer (length l.others) several less) may)

shape_unless_flat : (ts : List Token) (shape : Shape) (l : Slots) (breaks : Bool) → may_be_one_line shape ≡ true →
    BreaksWhere breaks ts l.opener (l.first ∷ l.second ∷ l.others) l.closer → EachMayBreak ts l.first.last (l.second ∷ l.others) →
    SpelledBy ts l (shape_doc shape no_charges ts l) false (turns_unless_flat shape (length (l.first ∷ l.second ∷ l.others)) breaks)
shape_unless_flat ts Application l breaks m none may = application_spelled ts l breaks none may
shape_unless_flat ts Hanging l breaks m none may = hanging_spelled ts l breaks none may
shape_unless_flat ts Plain l breaks m none may = plain_spelled ts l may
shape_unless_flat ts (Body headers true) l breaks m none may = body_spelled ts l headers breaks none may
shape_unless_flat ts (Body headers false) l breaks m none may = cc

-- two slots or more
pub turns_are : (shape : Shape) (n : ℕ) (flat breaks : Bool) (t : Turns) → 2 ≤ n → turns_of shape n flat breaks ≡ Some t →
    (may_be_one_line shape ≡ true) × ((if flat then turns (Left ∷ []) true else turns_unless_flat shape n breaks) ≡ t)
turns_are shape n flat breaks t some = by_tests (leb n 1) (may_be_one_line shape) (lt-leb n 1 (omega arith))
  where
    many : Turns
    many = if flat then turns (Left ∷ []) true else turns_unless_flat shape n breaks

    by_tests : (few fits : Bool) → few ≡ false → (if few then Some (turns [] flat) else if fits then Some many else None) ≡ Some t → (fits ≡ true) × (many ≡ t)
    by_tests true fits f e = cc
    by_tests false true f e = (refl, cc)
    by_tests false false f e = cc

abbrev charges_of : ℕ → ℕ → ℕ → Charges
charges_of broken hung flat = record { broken = broken; hung = hung; flat = flat }

uncharged_is : (charges : Charges) → IsUncharged charges → charges ≡ no_charges
uncharged_is charges h = ap₂ (λ (a b : ℕ). charges_of a b charges.flat) h.0 h.1 ∙ ap (λ (c : ℕ). charges_of 0 0 c) h.2

shape_spelled : (ts : List Token) (shape : Shape) (charges : Charges) (l : Slots) (flat breaks : Bool) (t : Turns) → IsUncharged charges → EachMayBreak ts l.first.last (l.second ∷ l.others) →
    BreaksWhere breaks ts l.opener (l.first ∷ l.second ∷ l.others) l.closer →
    turns_of shape (length (l.first ∷ l.second ∷ l.others)) flat breaks ≡ Some t → SpelledBy ts l (shape_doc shape charges ts l) flat t
shape_spelled ts shape charges l flat breaks t free may none e =
    let are = turns_are shape (length (l.first ∷ l.second ∷ l.others)) flat breaks t (omega arith) e in
    subst (λ (c : Charges). SpelledBy ts l (shape_doc shape c ts l) flat t) (sym (uncharged_is charges free))
    (subst (λ (z : Turns). SpelledBy ts l (shape_doc shape no_charges ts l) flat z) are.1 (by_flat flat are.0))
  where
    by_flat : (b : Bool) → may_be_one_line shape ≡ true →
        SpelledBy ts l (shape_doc shape no_charges ts l) b (if b then turns (Left ∷ []) true else turns_unless_flat shape (length (l.first ∷ l.second ∷ l.others)) breaks)
    by_flat true m = shape_flat ts shape l m
    by_flat false m = shape_unless_flat ts shape l breaks m none may

-- lists
few_turns : (flat : Bool) (t : Turns) → Some (turns [] flat) ≡ Some t → turns [] flat ≡ t
few_turns flat t e = cc

ends_spelled : (ts : List Token) (opener closer : ℕ) (body : Doc) (flat : Bool) (o : Option Spelled) → spelled_line body flat ≡ o →
    spelled_line (seq (mark_doc ts opener ∷ body ∷ mark_doc ts closer ∷ [])) flat
    ≡ spelled_both (spelled_line (mark_doc ts opener) flat) (spelled_both o (spelled_line (mark_doc ts closer) flat))
unfolding spelled_all
ends_spelled ts opener closer body flat o e =
    let first : Option Spelled = spelled_line (mark_doc ts opener) flat in
    seq_spelled (mark_doc ts opener ∷ body ∷ mark_doc ts closer ∷ []) flat tt
    ∙ ap₂ (λ (b c : Option Spelled). spelled_both first (spelled_both b c)) e (all_one (mark_doc ts closer) flat)

pair_spelled : (ts : List Token) (opener closer : ℕ) (flat : Bool) →
    spelled_line (seq (mark_doc ts opener ∷ mark_doc ts closer ∷ [])) flat
    ≡ spelled_both (spelled_line (mark_doc ts opener) flat) (spelled_both (Some spelled_nothing) (spelled_line (mark_doc ts closer) flat))
unfolding spelled_all
pair_spelled ts opener closer flat =
    seq_spelled (mark_doc ts opener ∷ mark_doc ts closer ∷ []) flat tt
    ∙ ap (spelled_both (spelled_line (mark_doc ts opener) flat)) (all_one (mark_doc ts closer) flat ∙ nothing_both (spelled_line (mark_doc ts closer) flat))

single_spelled : (ts : List Token) (opener : ℕ) (s : Part) (closer : ℕ) (flat : Bool) →
    spelled_line (drop_doc ts opener s [] closer) flat ≡ spelled_all (between_docs ts opener (s ∷ []) closer) flat
unfolding spelled_line step_parts
single_spelled ts opener s closer flat =
    let steps : List Step = step want.Nothing s ∷ [] in
    seq_spelled (inner_docs ts opener steps closer) flat (inner_part ts opener steps closer s [] refl)

pub lists_spelled : (ts : List Token) (w : Way) (opener : ℕ) (parts : List Part) (closer : ℕ) (flat breaks : Bool) (t : Turns) (l : Spelled) →
    IsUncharged w.charges → PartsMayBreak ts parts → BreaksWhere breaks ts opener parts closer → turns_of w.shape (length parts) flat breaks ≡ Some t → spelled_all (between_docs ts opener parts closer) t.flat ≡ Some l →
    spelled_line (list_doc ts w opener parts closer) flat
    ≡ spelled_both (spelled_line (mark_doc ts opener) flat) (spelled_both (Some (spelled_behind t.dirs l)) (spelled_line (mark_doc ts closer) flat))
unfolding spelled_all
lists_spelled ts w opener [] closer flat breaks t l free may none e h =
    pair_spelled ts opener closer flat
    ∙ ap (λ (o : Option Spelled). spelled_both (spelled_line (mark_doc ts opener) flat) (spelled_both o (spelled_line (mark_doc ts closer) flat)))
    (h ∙ ap (λ (z : Turns). Some (spelled_behind z.dirs l)) (few_turns flat t e))
lists_spelled ts w opener (s ∷ []) closer flat breaks t l free may none e h =
    let same = few_turns flat t e in
    ends_spelled ts opener closer (drop_doc ts opener s [] closer) flat (Some (spelled_behind t.dirs l))
    (single_spelled ts opener s closer flat
    ∙ ap (λ (z : Turns). spelled_all (between_docs ts opener (s ∷ []) closer) z.flat) same
    ∙ h ∙ ap (λ (z : Turns). Some (spelled_behind z.dirs l)) same)
lists_spelled ts w opener (s ∷ next ∷ slots) closer flat breaks t l free may none e h =
    let many : Slots = record { opener = opener; first = s; second = next; others = slots; closer = closer } in
    ends_spelled ts opener closer (shape_doc w.shape w.charges ts many) flat (Some (spelled_behind t.dirs l))
    (shape_spelled ts w.shape w.charges many flat breaks t free may none e l h)
