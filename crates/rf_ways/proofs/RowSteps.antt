-- Steps one after another.
use Rattle.std.proofs.Common.{◌≡◌, ℕ, Option, None, Some, List, [], ◌∷◌, ◌++◌, refl, sym, ap, ◌∙◌}
use Rattle.std.proofs.lemmas.List.{append_assoc}
use Rattle.rf_base_document.specs.Document.{Doc, Concat, Align}
use Rattle.rf_base_document.specs.Sequence.{seq}
use Rattle.rf_base_grammar.specs.Token.{Token}
use Rattle.rf_base_file.specs.Rows.{Part, Step, mark_doc, prefixed_doc, steps_docs, steps_last, row_docs}
use Rattle.rf_ways.specs.Steps.{gap_behind, last_behind, docs_behind, prefixed_steps}

pub last_behind-append : (last : Option ℕ) (a b : List Step) → last_behind last (a ++ b) ≡ last_behind (last_behind last a) b
unfolding last_behind
last_behind-append last [] b = refl
last_behind-append last (s ∷ a) b = last_behind-append (Some s.part.last) a b

pub docs_behind-append : (ts : List Token) (last : Option ℕ) (a b : List Step) → docs_behind ts last (a ++ b) ≡ docs_behind ts last a ++ docs_behind ts (last_behind last a) b
unfolding last_behind docs_behind
docs_behind-append ts last [] b = refl
docs_behind-append ts last (s ∷ a) b =
    ap (λ (ds : List Doc). gap_behind ts last s.part.first s.want ++ s.part.doc ∷ ds) (docs_behind-append ts (Some s.part.last) a b)
    ∙ sym (append_assoc (gap_behind ts last s.part.first s.want) (s.part.doc ∷ docs_behind ts (Some s.part.last) a) (docs_behind ts (last_behind (Some s.part.last) a) b))

-- behind a part there is a last item
pub last_behind-some : (last : ℕ) (steps : List Step) → last_behind (Some last) steps ≡ Some (steps_last last steps)
unfolding last_behind steps_last
last_behind-some last [] = refl
last_behind-some last (s ∷ steps) = last_behind-some s.part.last steps

-- behind an item the steps are those of the definition
pub docs_behind-some : (ts : List Token) (last : ℕ) (steps : List Step) → docs_behind ts (Some last) steps ≡ steps_docs ts last steps
unfolding docs_behind steps_docs
docs_behind-some ts last [] = refl
docs_behind-some ts last (s ∷ steps) =
    ap (λ (ds : List Doc). gap_behind ts (Some last) s.part.first s.want ++ s.part.doc ∷ ds) (docs_behind-some ts s.part.last steps)

pub docs_behind-none : (ts : List Token) (steps : List Step) → docs_behind ts None steps ≡ row_docs ts steps
unfolding docs_behind
docs_behind-none ts [] = refl
docs_behind-none ts (s ∷ steps) = ap (λ (ds : List Doc). s.part.doc ∷ ds) (docs_behind-some ts s.part.last steps)

-- a prefix or a skip by its steps
pub prefixed_is : (ts : List Token) (item : ℕ) (qs : List Part) (q : Part) → prefixed_doc ts item qs q ≡ Concat (mark_doc ts item) (Align (seq (steps_docs ts item (prefixed_steps qs q))))
prefixed_is ts item [] q = refl
prefixed_is ts item (c ∷ qs) q = refl
