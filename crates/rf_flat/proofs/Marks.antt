-- Marking from the root down.
use Rattle.std.proofs.Common.{◌≡◌, ℕ, zero, suc, ◌+◌, ◌<◌, ◌≤◌, inl, inr, Bool, true, false, List, [], ◌∷◌, ◌++◌, take, drop, length, get_or, ap, sym, subst, ◌∙◌, refl, arith}
use Rattle.std.proofs.Math.ListN.{set, replicate}
use Rattle.std.proofs.Math.Seq.{take-append_seam}
use Rattle.std.proofs.lemmas.Bool.{cases_lt}
use Rattle.std.proofs.lemmas.List.{get_or-replicate, length-set, length-replicate, get_or-set_same, get_or-set_other}
use Rattle.rf_base_document.specs.Graph.{GraphNode, TextNode, NewlineNode, HardNode, ConcatNode, ChoiceNode, IsNode, IsGraph, parts_end}
use Rattle.rf_base_document.proofs.Graph.{parts_come_first}
use Rattle.rf_flat.specs.Cores.{IsPart}
use Rattle.rf_flat.specs.Reached.{IsMarked, MarksParts, MarkedDownTo}

-- a part comes before the end of the parts
pub part_below : (node : GraphNode) (n : ℕ) → IsPart node n → n < parts_end node
part_below (TextNode s len) n h = absurd h
part_below NewlineNode n h = absurd h
part_below HardNode n h = absurd h
part_below (ConcatNode a b) n h = elim h [ inl e ↦ omega arith | inr e ↦ omega arith ]
part_below (ChoiceNode a b) n h = elim h [ inl e ↦ omega arith | inr e ↦ omega arith ]
part_below _ n h = omega arith

pub part_before : (graph : List GraphNode) (n m : ℕ) (node : GraphNode) → IsGraph graph → IsNode graph n node → IsPart node m → m < n
part_before graph n m node whole is part = omega (arith, parts_come_first graph n node whole is, part_below node m part)

-- a mark stands within the list of marks
past_end : (marks : List Bool) (n : ℕ) → length marks ≤ n → get_or marks n false ≡ false
past_end [] n h = refl
past_end (b ∷ marks) zero h = absurd (omega arith)
past_end (b ∷ marks) (suc n) h = past_end marks n (omega arith)

pub marked_within : (marks : List Bool) (n : ℕ) → IsMarked marks n → n < length marks
marked_within marks n marked =
    elim (cases_lt n (length marks)) [
      | inl h ↦ h
      | inr h ↦ let two : true ≡ false = sym marked ∙ past_end marks n h in cc
    ]

pub same_node : (graph : List GraphNode) (n : ℕ) (x y : GraphNode) → IsNode graph n x → IsNode graph n y → x ≡ y
same_node graph n x y p q = cc

-- node n is marked, and its parts are marked now
pub with_parts_marked : (graph : List GraphNode) (root n : ℕ) (node : GraphNode) (old new : List Bool) → IsGraph graph → IsNode graph n node → n ≤ root →
    length new ≡ length old → MarkedDownTo graph root (n + 1) old → IsMarked old n → MarksParts node old new → MarkedDownTo graph root n new
with_parts_marked graph root n node old new whole is within count later here parts = record {
  count = omega (arith, later.count, count);
  root_is = parts.older root later.root_is;
  closed = λ k m node' from marked is' part.
      elim (parts.no_more k marked) [
        | inr own ↦ absurd (omega (arith, part_before graph n k node whole is own))
        | inl before ↦ elim (cases_lt n k) [
          | inl less ↦ parts.older m (later.closed k m node' (omega arith) before is' part)
          | inr le ↦
              let same : k ≡ n = omega arith in
              let known : node' ≡ node = same_node graph n node' node (subst (λ (j : ℕ). IsNode graph j node') same is') is in
              parts.parts m (subst (λ (x : GraphNode). IsPart x m) known part)
        ]
      ];
  only = λ k marked less.
      elim (parts.no_more k marked) [
        | inr own ↦ (n, node, part_before graph n k node whole is own, parts.older n here, is, own)
        | inl before ↦
            let later' = later.only k before less in
            (later'.0, later'.1, later'.2, parts.older later'.0 later'.3, later'.4, later'.5)
      ];
}

-- node n isn't marked
pub without_mark : (graph : List GraphNode) (root n : ℕ) (marks : List Bool) → MarkedDownTo graph root (n + 1) marks → get_or marks n false ≡ false →
    MarkedDownTo graph root n marks
without_mark graph root n marks later none = record {
  count = later.count;
  root_is = later.root_is;
  closed = λ k m node from marked is part.
      elim (cases_lt n k) [
        | inl less ↦ later.closed k m node (omega arith) marked is part
        | inr le ↦
            let same : k ≡ n = omega arith in
            let two : true ≡ false = sym marked ∙ ap (λ j. get_or marks j false) same ∙ none in cc
      ];
  only = later.only;
}

-- at first the root alone is marked
pub root_marked : (graph : List GraphNode) (root : ℕ) (marks : List Bool) → marks ≡ set (replicate (root + 1) false) root true → MarkedDownTo graph root (root + 1) marks
root_marked graph root marks is =
    let blank : List Bool = replicate (root + 1) false in
    let long : length marks ≡ root + 1 =
    ap (λ (l : List Bool). length l) is ∙ length-set blank root true ∙ length-replicate {A = Bool} (root + 1) false in
    record {
      count = long;
      root_is = ap (λ (l : List Bool). get_or l root false) is ∙ get_or-set_same blank root true false (omega (arith, length-replicate {A = Bool} (root + 1) false));
      closed = λ k m node from marked is' part. absurd (omega (arith, marked_within marks k marked, long));
      only = λ k marked less.
          let other : k ≡ root → ⊥ = λ e. omega arith in
          let two : true ≡ false =
          sym marked ∙ ap (λ (l : List Bool). get_or l k false) is ∙ get_or-set_other blank root k true false other
          ∙ get_or-replicate (root + 1) k false false (omega arith) in
          cc;
    }

-- one node further down
pub same_marks : (graph : List GraphNode) (root n n' : ℕ) (marks marks' : List Bool) → n' ≡ n → marks' ≡ marks → MarkedDownTo graph root n marks →
    MarkedDownTo graph root n' marks'
same_marks graph root n n' marks marks' e f h =
    subst (λ (k : ℕ). MarkedDownTo graph root k marks') (sym e) (subst (λ (l : List Bool). MarkedDownTo graph root n l) (sym f) h)

-- a whole list that was written anew
pub all_anew : {A : Type 0} (k : ℕ) (old new : List A) → k ≡ length new → take k (new ++ drop (length new) old) ≡ new
all_anew {A = A} k old new e = ap (λ n. take n (new ++ drop (length new) old)) e ∙ take-append_seam new (drop (length new) old)
