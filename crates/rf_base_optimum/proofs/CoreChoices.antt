-- What is chosen of a document's core is best for the document.
use Rattle.std.proofs.Common.{◌≡◌, ℕ, Bool, true, false, [], ◌∷◌, refl, sym, subst, Some, arith}
use Rattle.rf_base_document.specs.Document.{Doc, Text, Newline, Hard, Concat, Nest, Align, Reset, Flatten, Choice, Only, Charge, IsDocument}
use Rattle.rf_base_document.specs.Simple.{simple_newline, simple_hard, simple}
use Rattle.rf_base_document.proofs.Document.{IsOneLine-from_test}
use Rattle.rf_base_document.proofs.Simple.{is_core, map_is, concat_is, choice_core}
use Rattle.rf_base_cost.specs.Cost.{Costs, IsColumn, Lawful}
use Rattle.rf_base_optimum.specs.Chosen.{choose}
use Rattle.rf_base_optimum.specs.Best.{Best}
use Rattle.rf_base_optimum.proofs.Cores.{core_best}
use Rattle.rf_base_optimum.proofs.Optimum.{chosen_best}

newline_document : (flat : Bool) → IsDocument (simple_newline flat)
unfolding IsDocument
newline_document true = (IsOneLine-from_test (32 ∷ []) refl, omega arith)
newline_document false = tt

hard_document : (flat : Bool) (s : Doc) → simple_hard flat ≡ Some s → IsDocument s
unfolding IsDocument
hard_document true s e = cc
hard_document false s e = let same : Newline ≡ s = cc in subst (λ (x : Doc). IsDocument x) same tt

-- a document's core is within the limits of documents
pub core_document : (d : Doc) (flat : Bool) (s : Doc) → IsDocument d → simple d flat ≡ Some s → IsDocument s
unfolding IsDocument simple
core_document (Text t len) flat s q e = let same : Text t len ≡ s = cc in subst (λ (x : Doc). IsDocument x) same q
core_document Newline flat s q e =
    let same : simple_newline flat ≡ s = cc in subst (λ (x : Doc). IsDocument x) same (newline_document flat)
core_document Hard flat s q e = hard_document flat s e
core_document (Concat a b) flat s q e =
    let parts = concat_is (simple a flat) (simple b flat) s e in
    subst (λ (x : Doc). IsDocument x) (sym parts.4) (
      core_document a flat parts.0 q.0 parts.2,
      core_document b flat parts.1 q.1 parts.3,
    )
core_document (Nest n a) flat s q e =
    let part = map_is (Nest n) (simple a flat) s e in
    subst (λ (x : Doc). IsDocument x) (sym part.2) (q.0, core_document a flat part.0 q.1 part.1)
core_document (Align a) flat s q e =
    let part = map_is Align (simple a flat) s e in
    subst (λ (x : Doc). IsDocument x) (sym part.2) (core_document a flat part.0 q part.1)
core_document (Reset a) flat s q e =
    let part = map_is Reset (simple a flat) s e in
    subst (λ (x : Doc). IsDocument x) (sym part.2) (core_document a flat part.0 q part.1)
core_document (Flatten a) flat s q e = core_document a true s q e
core_document (Choice a b) flat s q e =
    choice_core IsDocument (λ dir x k. k) (λ x y k l. (k, l)) (simple a flat) (simple b flat) s
    (λ x k. core_document a flat x q.0 k) (λ x k. core_document b flat x q.1 k) e
core_document (Only dir a) flat s q e =
    let part = map_is (Only dir) (simple a flat) s e in
    subst (λ (x : Doc). IsDocument x) (sym part.2) (core_document a flat part.0 q part.1)
core_document (Charge k a) flat s q e =
    let part = map_is (Charge k) (simple a flat) s e in
    subst (λ (x : Doc). IsDocument x) (sym part.2) (q.0, core_document a flat part.0 q.1 part.1)

pub chosen_of_core : {C : Type 0} (costs : Costs C) (laws : Lawful costs) (w : ℕ) (d : Doc) (flat : Bool) (s : Doc)
    (c i : ℕ) → IsColumn w → IsDocument d →
    simple d flat ≡ Some s → Best costs w d c i flat (choose costs w s c i).choices
chosen_of_core costs laws w d flat s c i p q e =
    (core_best costs w d flat s e c i (choose costs w s c i).choices).1
    (chosen_best costs laws w s c i p (core_document d flat s q e) (is_core d flat s e))
