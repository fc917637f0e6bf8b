-- What is put on the stack one after another, and what is taken together.
use Rattle.std.proofs.Common.{◌≡◌, ℕ, ◌+◌, ◌-◌, ◌≤◌, false, Option, List, [], ◌∷◌, ◌++◌, length, take, drop, refl, sym, ap, ap₂, ◌∙◌, subst, append_assoc, append-nil, length-append, arith}
use Rattle.std.proofs.Math.Path.{fun_ext}
use Rattle.std.specs.Str.{chars}
use Rattle.std.proofs.lemmas.List.{take_at, drop_at, take_all, length-map}
use Rattle.rf_base_document.specs.Document.{Doc, Align, plain_text, KeepsTextLimits}
use Rattle.rf_base_tree.specs.Slots.{Entry}
use Rattle.rf_base_document.specs.Sequence.{seq}
use Rattle.rf_base_document.proofs.Sequence.{seq_of_none, seq_of_one}
use Rattle.rf_base_grammar.specs.Token.{Token}
use Rattle.rf_base_file.specs.Rows.{Step, Part, aligned_behind}
use Rattle.rf_ways.specs.Steps.{last_behind, docs_behind}
use Rattle.rf_ways.proofs.RowSteps.{last_behind-append, docs_behind-append}
use Rattle.rf_rows.specs.declared.pieces.Fill.{Fill}
use Rattle.rf_rows.specs.declared.pieces.Fill.TheVariants as fill
use Rattle.rf_rows.specs.declared.layouts.Row.TheVariants.{Dropped}
use Rattle.rf_rows.specs.declared.layouts.Marks.{Marks}
use Rattle.rf_rows.specs.declared.layouts.Layouts.{Layouts}
use Rattle.rf_rows.specs.declared.layouts.Layouts.TheVariants.{Bare, One}
use Rattle.rf_rows.specs.declared.rows.Rows.{Rows}
use Rattle.rf_rows.specs.Layouts.{Filled, row_to, cell_doc, AreMarks}
use Rattle.rf_rows.specs.Rows.{stacked}
use Rattle.rf_rows.specs.Puts.{Fills, Puts, Closes, IsHigh}
use Rattle.rf_slot_rows.specs.Puts.{StepsPut}
use Rattle.rf_slot_rows.specs.Bodies.{layout, marks_by}

-- nothing, one thing behind another, and the same things
pub puts_none : (a : Rows) → Puts a a []
puts_none a = record { free = refl; docs = λ f. sym (append-nil (stacked a f)) }

pub fills_both : (a b c : Rows) (r s : Filled) → Fills a b r → Fills b c s → Fills a c (λ f. r f ++ s f)
fills_both a b c r s first then = record {
  free = then.free ∙ first.free;
  docs = λ f. then.docs f ∙ ap (λ (ds : List Doc). ds ++ s f) (first.docs f) ∙ append_assoc (stacked a f) (r f) (s f);
}

pub fills_same : (a b : Rows) (r s : Filled) → ((f : Fill) → r f ≡ s f) → Fills a b r → Fills a b s
fills_same a b r s same put = record { free = put.free; docs = λ f. put.docs f ∙ ap (λ (ds : List Doc). stacked a f ++ ds) (same f) }

pub puts_same : (a b : Rows) (ds es : List Doc) → ds ≡ es → Puts a b ds → Puts a b es
puts_same a b ds es same put = fills_same a b (λ f. ds) (λ f. es) (λ f. same) put

-- how high the stack is then
pub height_is : (a : Rows) (h : ℕ) → IsHigh a h → h ≡ length a.stack.items
height_is a h high = sym (high fill.Newline) ∙ length-map a.stack.items _

pub higher : (a b : Rows) (r : Filled) (f : Fill) → Fills a b r → length b.stack.items ≡ length a.stack.items + length (r f)
higher a b r f put =
    sym (length-map b.stack.items _) ∙ ap length (put.docs f) ∙ length-append (stacked a f) (r f)
    ∙ ap (λ (n : ℕ). n + length (r f)) (length-map a.stack.items _)

pub no_lower : (a b : Rows) (r : Filled) → Fills a b r → length a.stack.items ≤ length b.stack.items
no_lower a b r put = omega (arith, higher a b r fill.Newline put)

-- the pieces that were put on the stack since then, taken together
pub closes : (base mid new : Rows) (r : Filled) (h : ℕ) (m : Marks) (l : Layouts) → IsHigh base h → Fills base mid r →
    Closes h mid new (λ f. cell_doc m (length mid.stack.items - h) (λ g. drop h (stacked mid g)) l ∷ []) →
    Fills base new (λ f. cell_doc m (length (r fill.Newline)) r l ∷ [])
closes base mid new r h m l high put closed = record {
  free = closed.free ∙ put.free;
  docs = λ f. closed.docs f ∙ ap₂ (λ (xs : List Doc) (d : Doc). xs ++ d ∷ []) (below f) cell;
}
  where
    below : (f : Fill) → take h (stacked mid f) ≡ stacked base f
    below f = ap (take h) (put.docs f) ∙ take_at (stacked base f) (r f) h (high f)

    above : (λ g. drop h (stacked mid g)) ≡ r
    above = fun_ext (λ (g : Fill). ap (drop h) (put.docs g) ∙ drop_at (stacked base g) (r g) h (high g))

    count : length mid.stack.items - h ≡ length (r fill.Newline)
    count = omega (arith, higher base mid r fill.Newline put, height_is base h high)

    cell : cell_doc m (length mid.stack.items - h) (λ g. drop h (stacked mid g)) l ≡ cell_doc m (length (r fill.Newline)) r l
    cell = ap₂ (λ (n : ℕ) (x : Filled). cell_doc m n x l) count above

-- pieces without gaps, in a row
all_of : (ds : List Doc) → take (length ds - 0) (drop 0 ds) ≡ ds
all_of ds = take_all (length ds - 0) ds (omega arith)

pub bare_is : (m : Marks) (ds : List Doc) → cell_doc m (length ds) (λ f. ds) Bare ≡ seq ds
unfolding cell_doc row_to
bare_is m ds = ap seq (all_of ds)

pub aligned_is : (m : Marks) (ds : List Doc) → cell_doc m (length ds) (λ f. ds) (One (layout Dropped false 0)) ≡ Align (seq ds)
unfolding cell_doc row_to
aligned_is m ds = ap (λ (xs : List Doc). Align (seq xs)) (all_of ds)

-- steps that were put on the stack one after another
pub steps_none : (ts : List Token) (a : Rows) (last : Option ℕ) → StepsPut ts a a last last []
unfolding last_behind docs_behind
steps_none ts a last = record { docs = puts_none a; last_is = refl }

pub steps_both : (ts : List Token) (a b c : Rows) (x y z : Option ℕ) (s t : List Step) → StepsPut ts a b x y s → StepsPut ts b c y z t → StepsPut ts a c x z (s ++ t)
steps_both ts a b c x y z s t first then =
    record {
      docs =
          puts_same a c (docs_behind ts x s ++ docs_behind ts y t) (docs_behind ts x (s ++ t))
          (ap (λ (o : Option ℕ). docs_behind ts x s ++ docs_behind ts o t) first.last_is ∙ sym (docs_behind-append ts x s t))
          (fills_both a b c (λ f. docs_behind ts x s) (λ f. docs_behind ts y t) first.docs then.docs);
      last_is = then.last_is ∙ ap (λ (o : Option ℕ). last_behind o t) first.last_is ∙ sym (last_behind-append x s t);
    }

-- the marks of pieces of which none is a slot of a list
pub all_marks : (m : Marks) (n count : ℕ) → m ≡ marks_by n n n fill.Newline → n ≡ count → AreMarks m count
all_marks m n count is same =
    subst (λ (k : Marks). AreMarks k count) (sym is)
    (record { first = omega arith; second = omega arith; bodies = omega (arith, same) })

-- as many pieces as the stack has grown by
grown_by : (base mid : Rows) (ds : List Doc) (h n : ℕ) → IsHigh base h → Puts base mid ds → n ≡ length mid.stack.items → n - h ≡ length ds
grown_by base mid ds h n high put size = omega (arith, higher base mid (λ f. ds) fill.Newline put, height_is base h high, size)

of_none : (ds : List Doc) → length ds ≡ 0 → seq ds ≡ plain_text []
of_none [] e = seq_of_none
of_none (d ∷ ds) e = absurd (omega (arith, e))

of_one : (ds : List Doc) → length ds ≡ 1 → ds ≡ seq ds ∷ []
of_one [] e = absurd (omega (arith, e))
of_one (d ∷ []) e = ap (λ (x : Doc). x ∷ []) (sym (seq_of_one d))
of_one (d ∷ x ∷ ds) e = absurd (omega (arith, e))

nothing : (ds : List Doc) → length ds ≡ 0 → ds ≡ []
nothing [] e = refl
nothing (d ∷ ds) e = absurd (omega (arith, e))

pub none_put : (base mid new : Rows) (ds : List Doc) (h n : ℕ) → IsHigh base h → Puts base mid ds → n ≡ length mid.stack.items → n - h ≡ 0 →
    Puts mid new (plain_text [] ∷ []) → Puts base new (seq ds ∷ [])
none_put base mid new ds h n high put size none text =
    let empty : length ds ≡ 0 = sym (grown_by base mid ds h n high put size) ∙ none in
    puts_same base new (ds ++ plain_text [] ∷ []) (seq ds ∷ [])
    (ap (λ (xs : List Doc). xs ++ plain_text [] ∷ []) (nothing ds empty) ∙ ap (λ (d : Doc). d ∷ []) (sym (of_none ds empty)))
    (fills_both base mid new (λ f. ds) (λ f. plain_text [] ∷ []) put text)

pub one_put : (base mid : Rows) (ds : List Doc) (h n : ℕ) → IsHigh base h → Puts base mid ds → n ≡ length mid.stack.items → n - h ≡ 1 → Puts base mid (seq ds ∷ [])
one_put base mid ds h n high put size one =
    puts_same base mid ds (seq ds ∷ []) (of_one ds (sym (grown_by base mid ds h n high put size) ∙ one)) put

-- the text of nothing keeps the limits
pub no_text : KeepsTextLimits (chars []) 0
unfolding chars
no_text = (λ has. absurd (omega (arith, has.1)), omega arith)

pub no_chars : chars [] ≡ []
unfolding chars
no_chars = refl

-- pieces behind comments, or without any
pub joined_behind : (base new : Rows) (es : List (Entry Part)) (ds : List Doc) (n : ℕ) → length es ≡ n → n ≡ 0 → Puts base new (seq ds ∷ []) →
    Puts base new (aligned_behind es (seq ds) ∷ [])
joined_behind base new [] ds n size none put = put
joined_behind base new (e ∷ es) ds n size none put = absurd (omega (arith, size, none))

pub aligned_put : (base new : Rows) (es : List (Entry Part)) (ds : List Doc) (n : ℕ) → length es ≡ n → (n ≡ 0 → ⊥) → Puts base new (Align (seq ds) ∷ []) →
    Puts base new (aligned_behind es (seq ds) ∷ [])
aligned_put base new [] ds n size some put = absurd (some (omega (arith, size)))
aligned_put base new (e ∷ es) ds n size some put = put
