-- What a turn of the walk leaves, where nothing of a node is within the computation width: its parts.
use Rattle.std.proofs.Common.{Some, ◌≡◌, ℕ, ◌+◌, ◌<◌, ◌≤◌, min, List, [], ◌∷◌, ◌++◌, length, refl, sym, ◌∙◌, ap, subst, arith, append-nil, length-append}
use Rattle.rf_base_document.specs.declared.directions.Dir.{Dir}
use Rattle.rf_base_document.specs.declared.directions.Dir.TheVariants.{Left}
use Rattle.rf_base_document.specs.Document.{Doc, Text, Newline, Hard, Concat, Nest, Align, Reset, Flatten, Choice, Only, Charge}
use Rattle.rf_base_document.specs.Graph.{GraphNode, TextNode, NewlineNode, ConcatNode, NestNode, AlignNode, ResetNode, ChoiceNode, OnlyNode, ChargeNode, IsNode, IsGraph, tree_of, unfolded}
use Rattle.rf_base_document.proofs.Graph.{unfolded-node, parts_before}
use Rattle.rf_base_cost.specs.declared.measures.Measure.{Measure}
use Rattle.rf_base_cost.specs.Cost.{Costs}
use Rattle.rf_base_optimum.specs.Plain.{plain}
use Rattle.rf_frontier.specs.declared.hows.How.{How}
use Rattle.rf_frontier.specs.declared.hows.HowId.{HowId}
use Rattle.rf_frontier.specs.Frontiers.{chosen}
use Rattle.rf_frontier.specs.Ways.{choices_of}
use Rattle.rf_flat.specs.Taken.{size_of}
use Rattle.rf_resolve.specs.declared.walks.Frame.{Frame}
use Rattle.rf_resolve.specs.declared.walks.Walk.{Walk}
use Rattle.rf_resolve.specs.Walk.{Walked, walked, at_most_past, first_walked, walked_both, walked_side, walk, frame_doc, IsFrame, AreFrames, IsWalk, turns_of, Passes, GoesTo, TakesSide, TakesAll, FirstIs, Turned}
use Rattle.rf_resolve.proofs.Clamped.{first_ends}
use Rattle.rf_resolve.proofs.Going.{took, went, went_both, nothing_both, frames_with, turns_with, size_some}

abbrev frame_at : ℕ → ℕ → Frame
frame_at node indentation = record { node = node; indentation = indentation }

-- what the walk comes to that has this frame next
abbrev walked_at : {C : Type 0} → Costs C → ℕ → List GraphNode → Frame → ℕ → Walked
walked_at costs w nodes frame column = walk costs w (frame_doc nodes frame) column frame.indentation

turned_taking : {C : Type 0} (costs : Costs C) (w : ℕ) (nodes : List GraphNode) (old new : Walk) (frame : Frame) (choices : List Dir) (column : ℕ) → IsWalk nodes w old → column ≤ w + 1 →
    walked_at costs w nodes frame old.column ≡ walked choices column (length choices) → TakesAll old choices column new → Turned costs w nodes old frame new
turned_taking costs w nodes old new frame choices column was near is taken =
    let count : length new.choices.items ≡ length old.choices.items + length choices = ap length taken.choices_are ∙ length-append old.choices.items choices in (
      took costs w nodes old new frame (walked choices column (length choices)) is taken.choices_are taken.column_is taken.weight taken.pending,
      record {
        light = taken.light;
        few = omega (arith, was.few, count, taken.weight);
        near = omega (arith, near, taken.column_is);
        frames = subst (λ (l : List Frame). AreFrames nodes w l) (sym taken.pending) was.frames;
      },
      omega (arith, ap (λ (l : List Frame). turns_of nodes l) taken.pending, turns_with nodes old.pending.items frame, size_some (frame_doc nodes frame)),
    )

turned_passing : {C : Type 0} (costs : Costs C) (w : ℕ) (nodes : List GraphNode) (old new : Walk) (frame : Frame) (column : ℕ) → IsWalk nodes w old → column ≤ w + 1 →
    walked_at costs w nodes frame old.column ≡ walked [] column 1 → Passes old column new → Turned costs w nodes old frame new
turned_passing costs w nodes old new frame column was near is passed = (
  took costs w nodes old new frame (walked [] column 1) is (passed.choices ∙ sym (append-nil old.choices.items)) passed.column_is passed.weight passed.pending,
  record {
    light = passed.light;
    few = omega (arith, was.few, ap length passed.choices, passed.weight);
    near = omega (arith, near, passed.column_is);
    frames = subst (λ (l : List Frame). AreFrames nodes w l) (sym passed.pending) was.frames;
  },
  omega (arith, ap (λ (l : List Frame). turns_of nodes l) passed.pending, turns_with nodes old.pending.items frame, size_some (frame_doc nodes frame)),
)

turned_going : {C : Type 0} (costs : Costs C) (w : ℕ) (nodes : List GraphNode) (old new : Walk) (frame part : Frame) → IsWalk nodes w old → IsFrame nodes w part →
    size_of (frame_doc nodes part) < size_of (frame_doc nodes frame) → walked_at costs w nodes frame old.column ≡ walked_at costs w nodes part old.column →
    GoesTo old part.node part.indentation new → Turned costs w nodes old frame new
turned_going costs w nodes old new frame part was is_frame smaller is gone = (
  went costs w nodes old new frame part [] 0 (is ∙ sym (nothing_both old.column (λ last. walked_at costs w nodes part last)))
      (gone.choices ∙ sym (append-nil old.choices.items)) gone.column (gone.weight ∙ omega arith) gone.pending,
  record {
    light = omega (arith, was.light, gone.weight);
    few = omega (arith, was.few, ap length gone.choices, gone.weight);
    near = omega (arith, was.near, gone.column);
    frames = subst (λ (l : List Frame). AreFrames nodes w l) (sym gone.pending) (frames_with nodes w old.pending.items part was.frames is_frame);
  },
  omega (arith, ap (λ (l : List Frame). turns_of nodes l) gone.pending, turns_with nodes old.pending.items frame, turns_with nodes old.pending.items part, smaller),
)

turned_side : {C : Type 0} (costs : Costs C) (w : ℕ) (nodes : List GraphNode) (old new : Walk) (frame part : Frame) (dir : Dir) → IsWalk nodes w old → IsFrame nodes w part →
    size_of (frame_doc nodes part) < size_of (frame_doc nodes frame) → walked_at costs w nodes frame old.column ≡ walked_side dir (walked_at costs w nodes part old.column) →
    TakesSide old dir part.node part.indentation new → Turned costs w nodes old frame new
turned_side costs w nodes old new frame part dir was is_frame smaller is gone =
    let count : length new.choices.items ≡ length old.choices.items + 1 = ap length gone.choices ∙ length-append old.choices.items (dir ∷ []) in (
      went costs w nodes old new frame part (dir ∷ []) 1 is gone.choices gone.column gone.weight gone.pending,
      record {
        light = gone.light;
        few = omega (arith, was.few, count, gone.weight);
        near = omega (arith, was.near, gone.column);
        frames = subst (λ (l : List Frame). AreFrames nodes w l) (sym gone.pending) (frames_with nodes w old.pending.items part was.frames is_frame);
      },
      omega (arith, ap (λ (l : List Frame). turns_of nodes l) gone.pending, turns_with nodes old.pending.items frame, turns_with nodes old.pending.items part, smaller),
    )

turned_both : {C : Type 0} (costs : Costs C) (w : ℕ) (nodes : List GraphNode) (old mid new : Walk) (frame first second : Frame) → IsWalk nodes w old → IsFrame nodes w first → IsFrame nodes w second →
    size_of (frame_doc nodes first) + size_of (frame_doc nodes second) < size_of (frame_doc nodes frame) →
    walked_at costs w nodes frame old.column ≡ walked_both (walked_at costs w nodes first old.column) (λ last. walked_at costs w nodes second last) →
    GoesTo old second.node second.indentation mid → GoesTo mid first.node first.indentation new → Turned costs w nodes old frame new
turned_both costs w nodes old mid new frame first second was is_first is_second smaller is gone more =
    let all : new.pending.items ≡ (old.pending.items ++ second ∷ []) ++ first ∷ [] = more.pending ∙ ap (λ (l : List Frame). l ++ first ∷ []) gone.pending in (
      went_both costs w nodes old mid new frame first second is gone.choices gone.column gone.weight gone.pending more.choices more.column more.weight more.pending,
      record {
        light = omega (arith, was.light, gone.weight, more.weight);
        few = omega (arith, was.few, ap length gone.choices, ap length more.choices, gone.weight, more.weight);
        near = omega (arith, was.near, gone.column, more.column);
        frames = subst (λ (l : List Frame). AreFrames nodes w l) (sym all)
            (frames_with nodes w (old.pending.items ++ second ∷ []) first (frames_with nodes w old.pending.items second was.frames is_second) is_first);
      },
      omega (
        arith,
        ap (λ (l : List Frame). turns_of nodes l) all,
        turns_with nodes (old.pending.items ++ second ∷ []) first,
        turns_with nodes old.pending.items second,
        turns_with nodes old.pending.items frame,
        smaller,
      ),
    )

nothing_first : {C : Type 0} (found : List (Measure C (List Dir))) (parts : Walked) → found ≡ [] → first_walked found parts ≡ parts
nothing_first found parts none = ap (λ f. first_walked f parts) none

-- nothing of the frame's node is within the computation width
abbrev pub IsTainted : {C : Type 0} → Costs C → ℕ → List GraphNode → Frame → ℕ → Type 0
IsTainted costs w nodes frame column = plain costs w (unfolded nodes frame.node) column frame.indentation ≡ []

-- a walk over a node of which nothing is within goes on with what its kind says of its parts
by_node : {C : Type 0} (costs : Costs C) (w : ℕ) (nodes : List GraphNode) (frame : Frame) (c : ℕ) (node : GraphNode) (parts : Walked) → IsGraph nodes → IsNode nodes frame.node node → IsTainted costs w nodes frame c →
    walk costs w (tree_of (unfolded nodes) (Some node)) c frame.indentation ≡ first_walked (plain costs w (tree_of (unfolded nodes) (Some node)) c frame.indentation) parts →
    walked_at costs w nodes frame c ≡ parts
by_node costs w nodes frame c node parts whole is none goes_on =
    let doc = unfolded-node nodes frame.node node whole is in
    ap (λ (d : Doc). walk costs w d c frame.indentation) doc
    ∙ (goes_on ∙ nothing_first _ _ (subst (λ (d : Doc). plain costs w d c frame.indentation ≡ []) doc none))

pub text_is : {C : Type 0} (costs : Costs C) (w : ℕ) (nodes : List GraphNode) (frame : Frame) (c : ℕ) (s : List ℕ) (len : ℕ) → IsGraph nodes → IsNode nodes frame.node (TextNode s len) → IsTainted costs w nodes frame c →
    walked_at costs w nodes frame c ≡ walked [] (at_most_past w (c + len)) 1
unfolding walk
text_is costs w nodes frame c s len whole is none = by_node costs w nodes frame c (TextNode s len) _ whole is none refl

pub newline_is : {C : Type 0} (costs : Costs C) (w : ℕ) (nodes : List GraphNode) (frame : Frame) (c : ℕ) → IsGraph nodes → IsNode nodes frame.node NewlineNode → IsTainted costs w nodes frame c →
    walked_at costs w nodes frame c ≡ walked [] frame.indentation 1
unfolding walk
newline_is costs w nodes frame c whole is none = by_node costs w nodes frame c NewlineNode _ whole is none refl

pub choice_is : {C : Type 0} (costs : Costs C) (w : ℕ) (nodes : List GraphNode) (frame : Frame) (c a b : ℕ) → IsGraph nodes → IsNode nodes frame.node (ChoiceNode a b) → IsTainted costs w nodes frame c →
    walked_at costs w nodes frame c ≡ walked_side Left (walk costs w (unfolded nodes a) c frame.indentation)
unfolding walk
choice_is costs w nodes frame c a b whole is none = by_node costs w nodes frame c (ChoiceNode a b) _ whole is none refl

pub only_is : {C : Type 0} (costs : Costs C) (w : ℕ) (nodes : List GraphNode) (frame : Frame) (c : ℕ) (dir : Dir) (a : ℕ) → IsGraph nodes → IsNode nodes frame.node (OnlyNode dir a) → IsTainted costs w nodes frame c →
    walked_at costs w nodes frame c ≡ walked_side dir (walk costs w (unfolded nodes a) c frame.indentation)
unfolding walk
only_is costs w nodes frame c dir a whole is none = by_node costs w nodes frame c (OnlyNode dir a) _ whole is none refl

pub text_turn : {C : Type 0} (costs : Costs C) (w : ℕ) (nodes : List GraphNode) (old new : Walk) (frame : Frame) (s : List ℕ) (len : ℕ) → IsGraph nodes → IsWalk nodes w old → IsNode nodes frame.node (TextNode s len) →
    IsTainted costs w nodes frame old.column → Passes old (at_most_past w (old.column + len)) new → Turned costs w nodes old frame new
text_turn costs w nodes old new frame s len whole was is none passed =
    turned_passing costs w nodes old new frame (at_most_past w (old.column + len)) was (let near : min (old.column + len) (w + 1) ≤ w + 1 = omega arith in near)
    (text_is costs w nodes frame old.column s len whole is none) passed

pub newline_turn : {C : Type 0} (costs : Costs C) (w : ℕ) (nodes : List GraphNode) (old new : Walk) (frame : Frame) → IsGraph nodes → IsWalk nodes w old → IsFrame nodes w frame → IsNode nodes frame.node NewlineNode →
    IsTainted costs w nodes frame old.column → Passes old frame.indentation new → Turned costs w nodes old frame new
newline_turn costs w nodes old new frame whole was framed is none passed =
    turned_passing costs w nodes old new frame frame.indentation was framed.shallow (newline_is costs w nodes frame old.column whole is none) passed

pub nest_turn : {C : Type 0} (costs : Costs C) (w : ℕ) (nodes : List GraphNode) (old new : Walk) (frame : Frame) (n a : ℕ) → IsGraph nodes → IsWalk nodes w old → IsNode nodes frame.node (NestNode n a) →
    IsTainted costs w nodes frame old.column → (deeper : ℕ) → deeper ≡ at_most_past w (frame.indentation + n) → GoesTo old a deeper new → Turned costs w nodes old frame new
unfolding size_of walk
nest_turn costs w nodes old new frame n a whole was is none deeper deeper_is gone =
    turned_going costs w nodes old new frame (frame_at a deeper) was
    (record { node = omega (arith, parts_before nodes frame.node _ whole is); shallow = let deep : min (frame.indentation + n) (w + 1) ≤ w + 1 = omega arith in omega (arith, deeper_is, deep) })
    (omega (arith, ap size_of (unfolded-node nodes frame.node _ whole is)))
    (by_node costs w nodes frame old.column (NestNode n a) _ whole is none refl ∙ ap (λ (i : ℕ). walk costs w (unfolded nodes a) old.column i) (sym deeper_is)) gone

pub align_turn : {C : Type 0} (costs : Costs C) (w : ℕ) (nodes : List GraphNode) (old new : Walk) (frame : Frame) (a : ℕ) → IsGraph nodes → IsWalk nodes w old → IsNode nodes frame.node (AlignNode a) →
    IsTainted costs w nodes frame old.column → GoesTo old a old.column new → Turned costs w nodes old frame new
unfolding size_of walk
align_turn costs w nodes old new frame a whole was is none gone =
    turned_going costs w nodes old new frame (frame_at a old.column) was (record { node = omega (arith, parts_before nodes frame.node _ whole is); shallow = was.near })
    (omega (arith, ap size_of (unfolded-node nodes frame.node _ whole is))) (by_node costs w nodes frame old.column (AlignNode a) _ whole is none refl) gone

pub reset_turn : {C : Type 0} (costs : Costs C) (w : ℕ) (nodes : List GraphNode) (old new : Walk) (frame : Frame) (a : ℕ) → IsGraph nodes → IsWalk nodes w old → IsNode nodes frame.node (ResetNode a) →
    IsTainted costs w nodes frame old.column → GoesTo old a 0 new → Turned costs w nodes old frame new
unfolding size_of walk
reset_turn costs w nodes old new frame a whole was is none gone =
    turned_going costs w nodes old new frame (frame_at a 0) was (record { node = omega (arith, parts_before nodes frame.node _ whole is); shallow = omega arith })
    (omega (arith, ap size_of (unfolded-node nodes frame.node _ whole is))) (by_node costs w nodes frame old.column (ResetNode a) _ whole is none refl) gone

pub charge_turn : {C : Type 0} (costs : Costs C) (w : ℕ) (nodes : List GraphNode) (old new : Walk) (frame : Frame) (k a : ℕ) → IsGraph nodes → IsWalk nodes w old → IsFrame nodes w frame → IsNode nodes frame.node (ChargeNode k a) →
    IsTainted costs w nodes frame old.column → GoesTo old a frame.indentation new → Turned costs w nodes old frame new
unfolding size_of walk
charge_turn costs w nodes old new frame k a whole was framed is none gone =
    turned_going costs w nodes old new frame (frame_at a frame.indentation) was (record { node = omega (arith, parts_before nodes frame.node _ whole is); shallow = framed.shallow })
    (omega (arith, ap size_of (unfolded-node nodes frame.node _ whole is))) (by_node costs w nodes frame old.column (ChargeNode k a) _ whole is none refl) gone

pub choice_turn : {C : Type 0} (costs : Costs C) (w : ℕ) (nodes : List GraphNode) (old new : Walk) (frame : Frame) (a b : ℕ) → IsGraph nodes → IsWalk nodes w old → IsFrame nodes w frame → IsNode nodes frame.node (ChoiceNode a b) →
    IsTainted costs w nodes frame old.column → TakesSide old Left a frame.indentation new → Turned costs w nodes old frame new
unfolding size_of
choice_turn costs w nodes old new frame a b whole was framed is none gone =
    turned_side costs w nodes old new frame (frame_at a frame.indentation) Left was (record { node = omega (arith, parts_before nodes frame.node _ whole is); shallow = framed.shallow })
    (omega (arith, ap size_of (unfolded-node nodes frame.node _ whole is))) (choice_is costs w nodes frame old.column a b whole is none) gone

pub only_turn : {C : Type 0} (costs : Costs C) (w : ℕ) (nodes : List GraphNode) (old new : Walk) (frame : Frame) (dir : Dir) (a : ℕ) → IsGraph nodes → IsWalk nodes w old → IsFrame nodes w frame → IsNode nodes frame.node (OnlyNode dir a) →
    IsTainted costs w nodes frame old.column → TakesSide old dir a frame.indentation new → Turned costs w nodes old frame new
unfolding size_of
only_turn costs w nodes old new frame dir a whole was framed is none gone =
    turned_side costs w nodes old new frame (frame_at a frame.indentation) dir was (record { node = omega (arith, parts_before nodes frame.node _ whole is); shallow = framed.shallow })
    (omega (arith, ap size_of (unfolded-node nodes frame.node _ whole is))) (only_is costs w nodes frame old.column dir a whole is none) gone

pub concat_turn : {C : Type 0} (costs : Costs C) (w : ℕ) (nodes : List GraphNode) (old mid new : Walk) (frame : Frame) (a b : ℕ) → IsGraph nodes → IsWalk nodes w old → IsFrame nodes w frame → IsNode nodes frame.node (ConcatNode a b) →
    IsTainted costs w nodes frame old.column → GoesTo old b frame.indentation mid → GoesTo mid a frame.indentation new → Turned costs w nodes old frame new
unfolding size_of walk
concat_turn costs w nodes old mid new frame a b whole was framed is none gone more =
    turned_both costs w nodes old mid new frame (frame_at a frame.indentation) (frame_at b frame.indentation) was
    (record { node = omega (arith, parts_before nodes frame.node _ whole is); shallow = framed.shallow })
    (record { node = omega (arith, parts_before nodes frame.node _ whole is); shallow = framed.shallow })
    (omega (arith, ap size_of (unfolded-node nodes frame.node _ whole is))) (by_node costs w nodes frame old.column (ConcatNode a b) _ whole is none refl) gone more

-- a first measure is taken whole
walk_first : {C : Type 0} (costs : Costs C) (w : ℕ) (d : Doc) (c i : ℕ) (m : Measure C (List Dir)) (rest : List (Measure C (List Dir))) → plain costs w d c i ≡ m ∷ rest →
    walk costs w d c i ≡ walked m.how m.last (length m.how)
unfolding walk plain
walk_first costs w (Text s len) c i m rest is = ap (λ f. first_walked f (walked [] (at_most_past w (c + len)) 1)) is
walk_first costs w Newline c i m rest is = ap (λ f. first_walked f (walked [] i 1)) is
walk_first costs w (Concat a b) c i m rest is = ap (λ f. first_walked f (walked_both (walk costs w a c i) (λ last. walk costs w b last i))) is
walk_first costs w (Nest n a) c i m rest is = ap (λ f. first_walked f (walk costs w a c (at_most_past w (i + n)))) is
walk_first costs w (Align a) c i m rest is = ap (λ f. first_walked f (walk costs w a c c)) is
walk_first costs w (Reset a) c i m rest is = ap (λ f. first_walked f (walk costs w a c 0)) is
walk_first costs w (Choice a b) c i m rest is = ap (λ f. first_walked f (walked_side Left (walk costs w a c i))) is
walk_first costs w (Only dir a) c i m rest is = ap (λ f. first_walked f (walked_side dir (walk costs w a c i))) is
walk_first costs w (Charge k a) c i m rest is = ap (λ f. first_walked f (walk costs w a c i)) is
walk_first costs w _ c i m rest is = absurd (omega (arith, ap length is))

-- the first measure of a frame's frontier is what the walk comes to there
pub first_is : {C : Type 0} (costs : Costs C) (w : ℕ) (nodes : List GraphNode) (ways : List How) (frame : Frame) (c : ℕ) (m : Measure C HowId) →
    FirstIs (plain costs w (unfolded nodes frame.node) c frame.indentation) ways (Some m) →
    walked_at costs w nodes frame c ≡ walked (choices_of ways m.how.0) m.last (length (choices_of ways m.how.0))
first_is costs w nodes ways frame c m first = walk_first costs w (unfolded nodes frame.node) c frame.indentation (chosen ways m) first.1 first.2

pub first_turn : {C : Type 0} (costs : Costs C) (w : ℕ) (nodes : List GraphNode) (ways : List How) (old new : Walk) (frame : Frame) (m : Measure C HowId) → IsWalk nodes w old →
    FirstIs (plain costs w (unfolded nodes frame.node) old.column frame.indentation) ways (Some m) → TakesAll old (choices_of ways m.how.0) m.last new → Turned costs w nodes old frame new
first_turn costs w nodes ways old new frame m was first taken =
    turned_taking costs w nodes old new frame (choices_of ways m.how.0) m.last was (omega (arith, first_ends costs w (unfolded nodes frame.node) old.column frame.indentation (chosen ways m) first.1 first.2))
    (first_is costs w nodes ways frame old.column m first) taken
