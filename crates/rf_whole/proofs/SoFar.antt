-- The lines of the slots of a row that stand before the rest of them.
use Rattle.std.proofs.Common.{◌≡◌, ℕ, ◌<◌, Option, None, Some, List, length, [], ◌∷◌, ◌++◌, take, drop, map, refl, sym, ◌∙◌, ap, subst, append_assoc, append-nil, arith}
use Rattle.std.specs.Prelude.{⊤}
use Rattle.rf_base_cost.specs.Cost.{Costs, Lawful, IsColumn}
use Rattle.rf_base_optimum.specs.Paragraphs.{Paragraph, EachIsDocument, EachHasCore}
use Rattle.rf_base_grammar.specs.Token.{Token}
use Rattle.rf_base_style.specs.Table.{StyleView}
use Rattle.rf_base_tree.specs.Trees.{Tree, Forest}
use Rattle.rf_base_tree.specs.Slots.{Slot}
use Rattle.rf_base_file.specs.FileDocument.{top_part}
use Rattle.rf_tree.specs.Slots.{NodeSlot, read_slot}
use Rattle.rf_tree.specs.Ahead.{TakesFirst}
use Rattle.rf_tree.specs.declared.cursors.SlotRef.{SlotRef}
use Rattle.rf_tree.specs.declared.trees.Tree.{Tree as KeptTree}
use Rattle.rf_whole.specs.declared.lines.Lines.{Lines}
use Rattle.rf_whole.specs.Groups.{IsRow, AreInRow}
use Rattle.rf_joins.specs.Paragraphs.{blanks_or, slots_paragraphs}
use Rattle.rf_whole.specs.Laid.{AreLinesOf}
use Rattle.rf_whole.specs.Lines.{ArePastLimit}
use Rattle.rf_whole.specs.Rows.{AreRowLines, IsRowPast, AddsRow, PassesWithRow}
use Rattle.rf_whole.proofs.Together.{past_before}
use Rattle.rf_whole.proofs.GroupRows.{front_row, back_row, front_in_row, back_in_row, none_row, halves_are, row_documents, row_cores}

-- of the paragraphs of a row, those before the rest, whose lines these are
pub record Before {C : Type 0} (costs : Costs C) (w : ℕ) (style : StyleView) (tree : KeptTree) (slots rest : List NodeSlot) (behind : ℕ) (lines : Lines C) (ts : List Token) (trees : Forest) (qs : List (Slot Tree)) : Type 0 where
  pub others : List (Slot Tree)
  pub row : IsRow style tree rest ts trees others
  pub paragraphs : List Paragraph
  pub whole : slots_paragraphs style ts behind qs ≡ paragraphs ++ slots_paragraphs style ts behind others
  pub documents : EachIsDocument paragraphs
  pub cores : EachHasCore paragraphs
  pub are : AreLinesOf costs w paragraphs lines

-- the rest is in a row too, and the lines are those of the slots before it
pub record AreSoFar {C : Type 0} (costs : Costs C) (w : ℕ) (style : StyleView) (tree : KeptTree) (slots rest : List NodeSlot) (behind : ℕ) (lines : Lines C) : Type 0 where
  pub row : AreInRow style tree rest
  pub before : (ts : List Token) (trees : Forest) (qs : List (Slot Tree)) → IsRow style tree slots ts trees qs →
      Before costs w style tree slots rest behind lines ts trees qs

documents-append : (ps qs : List Paragraph) → EachIsDocument ps → EachIsDocument qs → EachIsDocument (ps ++ qs)
unfolding EachIsDocument
documents-append [] qs d e = e
documents-append (p ∷ ps) qs d e = (d.0, documents-append ps qs d.1 e)

cores-append : (ps qs : List Paragraph) → EachHasCore ps → EachHasCore qs → EachHasCore (ps ++ qs)
unfolding EachHasCore
cores-append [] qs d e = e
cores-append (p ∷ ps) qs d e = (d.0, cores-append ps qs d.1 e)

no_documents : EachIsDocument []
unfolding EachIsDocument
no_documents = tt

no_cores : EachHasCore []
unfolding EachHasCore
no_cores = tt

-- before the whole row there are none
pub none_so_far : {C : Type 0} (costs : Costs C) (w : ℕ) (style : StyleView) (tree : KeptTree) (slots : List NodeSlot) (behind : ℕ) (lines : Lines C) →
    AreInRow style tree slots → AreLinesOf costs w [] lines → AreSoFar costs w style tree slots slots behind lines
none_so_far costs w style tree slots behind lines row none = record {
  row = row;
  before = λ ts trees qs h. record { others = qs; row = h; paragraphs = []; whole = refl; documents = no_documents; cores = no_cores; are = none };
}

-- and before no rest there are all
pub all_so_far : {C : Type 0} (costs : Costs C) (w : ℕ) (style : StyleView) (tree : KeptTree) (slots rest : List NodeSlot) (behind : ℕ) (lines : Lines C) → rest ≡ [] →
    AreSoFar costs w style tree slots rest behind lines → AreRowLines costs w style tree slots behind lines
all_so_far costs w style tree slots rest behind lines none h ts trees qs row =
    let b = h.before ts trees qs row in
    subst (λ (ps : List Paragraph). AreLinesOf costs w ps lines)
    (sym (b.whole ∙ ap (λ (xs : List Paragraph). b.paragraphs ++ xs) (none_row style tree rest ts trees b.others behind none b.row) ∙ append-nil b.paragraphs))
    b.are

-- the first slot of the rest, and those behind it
pub first_in_row : (style : StyleView) (tree : KeptTree) (slot : NodeSlot) (others : List NodeSlot) → AreInRow style tree (slot ∷ others) → AreInRow style tree (slot ∷ [])
first_in_row style tree slot others row = front_in_row style tree (slot ∷ others) (slot ∷ []) 1 refl row

pub others_in_row : (style : StyleView) (tree : KeptTree) (slot : NodeSlot) (others : List NodeSlot) → AreInRow style tree (slot ∷ others) → AreInRow style tree others
others_in_row style tree slot others row = back_in_row style tree (slot ∷ others) others 1 refl row

-- the blank lines between a slot and those behind it
abbrev pub AreBetween : StyleView → KeptTree → List NodeSlot → ℕ → ℕ → Type 0
AreBetween style tree others behind between =
    (ts : List Token) (trees : Forest) (qs : List (Slot Tree)) → IsRow style tree others ts trees qs → between ≡ blanks_or behind ts (map (top_part style ts) qs)

-- the paragraphs of the rest are that of its first slot and the others'
split : (style : StyleView) (tree : KeptTree) (slot : NodeSlot) (others : List NodeSlot) (behind between : ℕ) (ts : List Token) (trees : Forest) (qs : List (Slot Tree)) →
    AreBetween style tree others behind between → IsRow style tree (slot ∷ others) ts trees qs →
    slots_paragraphs style ts behind qs ≡ slots_paragraphs style ts between (take 1 qs) ++ slots_paragraphs style ts behind (drop 1 qs)
split style tree slot others behind between ts trees qs is row =
    halves_are style ts behind 1 qs between (is ts trees (drop 1 qs) (back_row style tree (slot ∷ others) others ts trees qs 1 refl row))

-- with the first slot of the rest there are the lines of one slot more
pub one_more : {C : Type 0} (costs : Costs C) (w : ℕ) (style : StyleView) (tree : KeptTree) (slots : List NodeSlot) (slot : NodeSlot) (others : List NodeSlot) (behind between : ℕ) (lines more : Lines C) →
    AreBetween style tree others behind between → AddsRow costs w style tree (slot ∷ []) between lines more →
    AreSoFar costs w style tree slots (slot ∷ others) behind lines → AreSoFar costs w style tree slots others behind more
one_more costs w style tree slots slot others behind between lines more is adds h = record {
  row = others_in_row style tree slot others h.row;
  before = λ ts trees qs row.
      let b = h.before ts trees qs row in
      let front = front_row style tree (slot ∷ others) (slot ∷ []) ts trees b.others 1 refl b.row in
      let first = slots_paragraphs style ts between (take 1 b.others) in
      record {
        others = drop 1 b.others;
        row = back_row style tree (slot ∷ others) others ts trees b.others 1 refl b.row;
        paragraphs = b.paragraphs ++ first;
        whole = b.whole ∙ ap (λ (xs : List Paragraph). b.paragraphs ++ xs) (split style tree slot others behind between ts trees b.others is b.row)
            ∙ sym (append_assoc b.paragraphs first (slots_paragraphs style ts behind (drop 1 b.others)));
        documents = documents-append b.paragraphs first b.documents (row_documents style tree (slot ∷ []) ts trees (take 1 b.others) between front);
        cores = cores-append b.paragraphs first b.cores (row_cores style ts between (take 1 b.others));
        are = adds ts trees (take 1 b.others) front b.paragraphs b.are;
      };
}

-- where one slot more is past the limit, the row is
pub one_more_past : {C : Type 0} (costs : Costs C) (laws : Lawful costs) (w : ℕ) (style : StyleView) (tree : KeptTree) (slots : List NodeSlot) (slot : NodeSlot) (others : List NodeSlot) (behind between : ℕ) (lines : Lines C) →
    IsColumn w → AreBetween style tree others behind between → PassesWithRow costs w style tree (slot ∷ []) between lines →
    AreSoFar costs w style tree slots (slot ∷ others) behind lines → IsRowPast costs w style tree slots behind
one_more_past costs laws w style tree slots slot others behind between lines column is passes h ts trees qs row =
    let b = h.before ts trees qs row in
    let front = front_row style tree (slot ∷ others) (slot ∷ []) ts trees b.others 1 refl b.row in
    let first = slots_paragraphs style ts between (take 1 b.others) in
    let last = slots_paragraphs style ts behind (drop 1 b.others) in
    subst (λ (ps : List Paragraph). ArePastLimit costs w ps)
    (append_assoc b.paragraphs first last
    ∙ sym (b.whole ∙ ap (λ (xs : List Paragraph). b.paragraphs ++ xs) (split style tree slot others behind between ts trees b.others is b.row)))
    (past_before costs laws w (b.paragraphs ++ first) last column
    (row_documents style tree others ts trees (drop 1 b.others) behind (back_row style tree (slot ∷ others) others ts trees b.others 1 refl b.row))
    (row_cores style ts behind (drop 1 b.others)) (passes ts trees (take 1 b.others) front b.paragraphs b.documents b.cores b.are))

-- the paragraphs whose lines these are
pub some_before : {C : Type 0} (costs : Costs C) (w : ℕ) (style : StyleView) (tree : KeptTree) (slots rest : List NodeSlot) (behind : ℕ) (lines : Lines C) → AreInRow style tree slots →
    AreSoFar costs w style tree slots rest behind lines → (v : ℕ) × (ps : List Paragraph) × AreLinesOf costs v ps lines
some_before costs w style tree slots rest behind lines row h =
    let b = h.before row.0 row.1 row.2 row.3 in
    (w, b.paragraphs, b.are)

-- the next slot, if there is one, and these behind it
abbrev pub with_next : Option SlotRef → List NodeSlot → List NodeSlot
with_next None rest = rest
with_next (Some slot) rest = read_slot slot ∷ rest

pub next_taken : (all rest : List NodeSlot) (next : Option SlotRef) → TakesFirst all next rest → all ≡ with_next next rest
next_taken all rest None takes = takes.0 ∙ sym takes.1
next_taken all rest (Some slot) takes = takes

-- the rest, by its next slot and the others
pub by_next : {C : Type 0} (costs : Costs C) (w : ℕ) (style : StyleView) (tree : KeptTree) (slots rest : List NodeSlot) (next : Option SlotRef) (slot : SlotRef) (behind : ℕ) (lines : Lines C) →
    next ≡ Some slot → AreSoFar costs w style tree slots (with_next next rest) behind lines → AreSoFar costs w style tree slots (read_slot slot ∷ rest) behind lines
by_next costs w style tree slots rest None slot behind lines e h = cc
by_next costs w style tree slots rest (Some s) slot behind lines e h =
    let same : s ≡ slot = cc in
    subst (λ (r : SlotRef). AreSoFar costs w style tree slots (read_slot r ∷ rest) behind lines) same h

-- where there is no next slot, nothing is left
abbrev pub IsEnd : Option SlotRef → List NodeSlot → Type 0
IsEnd None rest = rest ≡ []
IsEnd (Some slot) rest = ⊤

pub is_end : (all rest : List NodeSlot) (next : Option SlotRef) → TakesFirst all next rest → IsEnd next rest
is_end all rest None takes = takes.1
is_end all rest (Some slot) takes = tt

pub none_next : (rest : List NodeSlot) (next : Option SlotRef) → IsEnd next rest → next ≡ None → with_next next rest ≡ []
none_next rest None end e = end
none_next rest (Some s) end e = cc

-- behind a slot there is one fewer
pub fewer : (all rest : List NodeSlot) (now next : Option SlotRef) (slot : SlotRef) → now ≡ Some slot → TakesFirst all next rest → length (with_next next rest) < length (with_next now all)
fewer all rest None next slot e takes = cc
fewer all rest (Some s) next slot e takes =
    let long : length all ≡ length (with_next next rest) = ap length (next_taken all rest next takes) in
    omega (arith, long)
