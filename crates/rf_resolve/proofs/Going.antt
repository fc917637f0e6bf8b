-- What a walk comes to, as it goes on.
use Rattle.std.proofs.Common.{◌≡◌, ℕ, ◌+◌, ◌<◌, ◌≤◌, List, [], ◌∷◌, ◌++◌, length, refl, sym, ◌∙◌, ap, subst, arith, append_assoc, append-nil}
use Rattle.rf_base_document.specs.declared.directions.Dir.{Dir}
use Rattle.rf_base_document.specs.declared.limits.TheConstants.{LAYOUT_LIMIT}
use Rattle.rf_base_document.specs.Document.{Doc, Text, Newline, Hard, Concat, Nest, Align, Reset, Flatten, Choice, Only, Charge}
use Rattle.rf_base_document.specs.Graph.{GraphNode, unfolded}
use Rattle.rf_base_cost.specs.Cost.{Costs}
use Rattle.rf_flat.specs.Taken.{size_of}
use Rattle.rf_resolve.specs.declared.walks.Frame.{Frame}
use Rattle.rf_resolve.specs.declared.walks.Walk.{Walk}
use Rattle.rf_resolve.specs.Walk.{Walked, walked, walked_both, walk, frame_doc, walk_all, going, outcome, outcome_with, IsFrame, AreFrames, IsWalk, StartsAt, turns_of}

same_walked : (x y : List Dir) (l m : ℕ) (v u : ℕ) → x ≡ y → l ≡ m → v ≡ u → walked x l v ≡ walked y m u
same_walked x y l m v u p q r = ap (λ (c : List Dir). walked c l v) p ∙ (ap (λ (n : ℕ). walked y n v) q ∙ ap (λ (n : ℕ). walked y m n) r)

both_assoc : (x : Walked) (f g : ℕ → Walked) → walked_both (walked_both x f) g ≡ walked_both x (λ last. walked_both (f last) g)
both_assoc x f g =
    let second = f x.last in
    let third = g second.last in
    let sums : (x.weight + second.weight) + third.weight ≡ x.weight + (second.weight + third.weight) = omega arith in
    same_walked _ _ third.last third.last _ _ (append_assoc x.choices second.choices third.choices) refl sums

both_nothing : (x : Walked) → walked_both x (λ last. walked [] last 0) ≡ x
both_nothing x = let sum : x.weight + 0 ≡ x.weight = omega arith in same_walked _ x.choices x.last x.last _ x.weight (append-nil x.choices) refl sum

pub nothing_both : (column : ℕ) (f : ℕ → Walked) → walked_both (walked [] column 0) f ≡ f column
nothing_both column f = let sum : 0 + (f column).weight ≡ (f column).weight = omega arith in same_walked _ _ (f column).last (f column).last _ _ refl refl sum

-- the last frame comes first
walk_last : {C : Type 0} (costs : Costs C) (w : ℕ) (nodes : List GraphNode) (frames : List Frame) (f : Frame) (column : ℕ) →
    walk_all costs w nodes (frames ++ f ∷ []) column ≡ walked_both (walk costs w (frame_doc nodes f) column f.indentation) (λ last. walk_all costs w nodes frames last)
unfolding walk_all
walk_last costs w nodes [] f column =
    nothing_both column (λ last. walk costs w (frame_doc nodes f) last f.indentation) ∙ sym (both_nothing (walk costs w (frame_doc nodes f) column f.indentation))
walk_last costs w nodes (g ∷ frames) f column =
    ap (λ (x : Walked). walked_both x (λ last. walk costs w (frame_doc nodes g) last g.indentation)) (walk_last costs w nodes frames f column)
    ∙ both_assoc (walk costs w (frame_doc nodes f) column f.indentation) (λ last. walk_all costs w nodes frames last) (λ last. walk costs w (frame_doc nodes g) last g.indentation)

-- what a walk comes to that has so much behind it, this next, and these frames behind that
abbrev pub with_next : {C : Type 0} → Costs C → ℕ → List GraphNode → Walked → Walked → List Frame → Walked
with_next costs w nodes so_far next frames = walked_both so_far (λ last. walked_both next (λ end. walk_all costs w nodes frames end))

going_next : {C : Type 0} (costs : Costs C) (w : ℕ) (nodes : List GraphNode) (so_far : Walked) (frames : List Frame) (f : Frame) →
    going costs w nodes so_far (frames ++ f ∷ []) ≡ with_next costs w nodes so_far (walk costs w (frame_doc nodes f) so_far.last f.indentation) frames
going_next costs w nodes so_far frames f =
    let at = walk_last costs w nodes frames f so_far.last in
    ap (λ (x : Walked). walked_both so_far (λ last. x)) at

-- the walk took what comes next whole
pub took : {C : Type 0} (costs : Costs C) (w : ℕ) (nodes : List GraphNode) (old new : Walk) (f : Frame) (next : Walked) → walk costs w (frame_doc nodes f) old.column f.indentation ≡ next →
    new.choices.items ≡ old.choices.items ++ next.choices → new.column ≡ next.last → new.weight ≡ old.weight + next.weight → new.pending.items ≡ old.pending.items →
    outcome costs w nodes new ≡ outcome_with costs w nodes old f
took {C} costs w nodes old new f next is choices column weight pending =
    let so_far : Walked = walked old.choices.items old.column old.weight in
    let here : going costs w nodes (walked new.choices.items new.column new.weight) new.pending.items ≡ going costs w nodes (walked_both so_far (λ last. next)) old.pending.items =
    ap (λ (x : Walked). going costs w nodes x new.pending.items) (same_walked _ _ _ _ _ _ choices column weight) ∙ ap (λ (l : List Frame). going costs w nodes (walked_both so_far (λ last. next)) l) pending in
    here ∙ (both_assoc so_far (λ last. next) (λ end. walk_all costs w nodes old.pending.items end)
    ∙ (ap (λ (x : Walked). with_next costs w nodes so_far x old.pending.items) (sym is) ∙ sym (going_next costs w nodes so_far old.pending.items f)))

-- the walk goes on with a part, behind these directions of this weight
pub went : {C : Type 0} (costs : Costs C) (w : ℕ) (nodes : List GraphNode) (old new : Walk) (f part : Frame) (directions : List Dir) (k : ℕ) →
    walk costs w (frame_doc nodes f) old.column f.indentation ≡ walked_both (walked directions old.column k) (λ last. walk costs w (frame_doc nodes part) last part.indentation) →
    new.choices.items ≡ old.choices.items ++ directions → new.column ≡ old.column → new.weight ≡ old.weight + k → new.pending.items ≡ old.pending.items ++ part ∷ [] →
    outcome costs w nodes new ≡ outcome_with costs w nodes old f
went {C} costs w nodes old new f part directions k is choices column weight pending =
    let so_far : Walked = walked old.choices.items old.column old.weight in
    let first : Walked = walked directions old.column k in
    let second : ℕ → Walked = λ last. walk costs w (frame_doc nodes part) last part.indentation in
    let rest : ℕ → Walked = λ end. walk_all costs w nodes old.pending.items end in
    let state : walked new.choices.items new.column new.weight ≡ walked_both so_far (λ last. first) = same_walked _ _ _ _ _ _ choices column weight in
    let here : outcome costs w nodes new ≡ going costs w nodes (walked_both so_far (λ last. first)) (old.pending.items ++ part ∷ []) =
    ap (λ (x : Walked). going costs w nodes x new.pending.items) state ∙ ap (λ (l : List Frame). going costs w nodes (walked_both so_far (λ last. first)) l) pending in
    here ∙ (going_next costs w nodes (walked_both so_far (λ last. first)) old.pending.items part
    ∙ (both_assoc so_far (λ last. first) (λ last. walked_both (second last) rest)
    ∙ (ap (λ (x : Walked). walked_both so_far (λ last. x)) (sym (both_assoc first second rest))
    ∙ (ap (λ (x : Walked). with_next costs w nodes so_far x old.pending.items) (sym is) ∙ sym (going_next costs w nodes so_far old.pending.items f)))))

-- the walk goes on with two parts, of which the first is on top
pub went_both : {C : Type 0} (costs : Costs C) (w : ℕ) (nodes : List GraphNode) (old mid new : Walk) (f first second : Frame) →
    walk costs w (frame_doc nodes f) old.column f.indentation ≡ walked_both (walk costs w (frame_doc nodes first) old.column first.indentation) (λ last. walk costs w (frame_doc nodes second) last second.indentation) →
    mid.choices.items ≡ old.choices.items → mid.column ≡ old.column → mid.weight ≡ old.weight → mid.pending.items ≡ old.pending.items ++ second ∷ [] →
    new.choices.items ≡ mid.choices.items → new.column ≡ mid.column → new.weight ≡ mid.weight → new.pending.items ≡ mid.pending.items ++ first ∷ [] →
    outcome costs w nodes new ≡ outcome_with costs w nodes old f
went_both {C} costs w nodes old mid new f first second is choices column weight pending more_choices more_column more_weight more_pending =
    let so_far : Walked = walked old.choices.items old.column old.weight in
    let one : ℕ → Walked = λ last. walk costs w (frame_doc nodes first) last first.indentation in
    let two : ℕ → Walked = λ last. walk costs w (frame_doc nodes second) last second.indentation in
    let rest : ℕ → Walked = λ end. walk_all costs w nodes old.pending.items end in
    let state : walked new.choices.items new.column new.weight ≡ so_far = same_walked _ _ _ _ _ _ (more_choices ∙ choices) (more_column ∙ column) (more_weight ∙ weight) in
    let all : new.pending.items ≡ (old.pending.items ++ second ∷ []) ++ first ∷ [] = more_pending ∙ ap (λ (l : List Frame). l ++ first ∷ []) pending in
    let here : outcome costs w nodes new ≡ going costs w nodes so_far ((old.pending.items ++ second ∷ []) ++ first ∷ []) =
    ap (λ (x : Walked). going costs w nodes x new.pending.items) state ∙ ap (λ (l : List Frame). going costs w nodes so_far l) all in
    let behind : walk_all costs w nodes (old.pending.items ++ second ∷ []) (one old.column).last ≡ walked_both (two (one old.column).last) rest =
    walk_last costs w nodes old.pending.items second (one old.column).last in
    here ∙ (going_next costs w nodes so_far (old.pending.items ++ second ∷ []) first
    ∙ (ap (λ (x : Walked). walked_both so_far (λ last. walked_both (one old.column) (λ end. x))) behind
    ∙ (ap (λ (x : Walked). walked_both so_far (λ last. x)) (sym (both_assoc (one old.column) two rest))
    ∙ (ap (λ (x : Walked). with_next costs w nodes so_far x old.pending.items) (sym is) ∙ sym (going_next costs w nodes so_far old.pending.items f)))))

-- what comes next is part of what the walk weighs
pub too_heavy : {C : Type 0} (costs : Costs C) (w : ℕ) (nodes : List GraphNode) (old : Walk) (f : Frame) (next : Walked) (k : ℕ) → walk costs w (frame_doc nodes f) old.column f.indentation ≡ next → k ≤ next.weight →
    LAYOUT_LIMIT < old.weight + k → LAYOUT_LIMIT < (outcome_with costs w nodes old f).weight
too_heavy costs w nodes old f next k is light heavy =
    let weighs : (outcome_with costs w nodes old f).weight ≡ old.weight + (next.weight + (walk_all costs w nodes old.pending.items next.last).weight) =
    ap (λ (x : Walked). x.weight) (going_next costs w nodes (walked old.choices.items old.column old.weight) old.pending.items f
    ∙ ap (λ (x : Walked). with_next costs w nodes (walked old.choices.items old.column old.weight) x old.pending.items) is) in
    omega (arith, weighs, light, heavy)

pub frames_with : (nodes : List GraphNode) (w : ℕ) (frames : List Frame) (f : Frame) → AreFrames nodes w frames → IsFrame nodes w f → AreFrames nodes w (frames ++ f ∷ [])
unfolding AreFrames
frames_with nodes w [] f all one = (one, tt)
frames_with nodes w (g ∷ frames) f all one = (all.0, frames_with nodes w frames f all.1 one)

pub frames_split : (nodes : List GraphNode) (w : ℕ) (frames : List Frame) (f : Frame) → AreFrames nodes w (frames ++ f ∷ []) → AreFrames nodes w frames × IsFrame nodes w f
unfolding AreFrames
frames_split nodes w [] f all = (tt, all.0)
frames_split nodes w (g ∷ frames) f all = let rest = frames_split nodes w frames f all.1 in ((all.0, rest.0), rest.1)

pub turns_with : (nodes : List GraphNode) (frames : List Frame) (f : Frame) → turns_of nodes (frames ++ f ∷ []) ≡ turns_of nodes frames + size_of (frame_doc nodes f)
unfolding turns_of
turns_with nodes [] f = omega arith
turns_with nodes (g ∷ frames) f = let rest = turns_with nodes frames f in omega (arith, rest)

pub size_some : (d : Doc) → 1 ≤ size_of d
unfolding size_of
size_some (Text s len) = omega arith
size_some Newline = omega arith
size_some Hard = omega arith
size_some (Concat a b) = omega arith
size_some (Nest n a) = omega arith
size_some (Align a) = omega arith
size_some (Reset a) = omega arith
size_some (Flatten a) = omega arith
size_some (Choice a b) = omega arith
size_some (Only dir a) = omega arith
size_some (Charge k a) = omega arith

-- a walk that is still to begin
pub starts : {C : Type 0} (costs : Costs C) (w : ℕ) (nodes : List GraphNode) (root : ℕ) (begun : Walk) → StartsAt root begun → root < length nodes →
    IsWalk nodes w begun × (outcome costs w nodes begun ≡ walk costs w (unfolded nodes root) 0 0)
unfolding AreFrames walk_all
starts costs w nodes root begun start within =
    let frame : Frame = record { node = root; indentation = 0 } in
    let state : walked begun.choices.items begun.column begun.weight ≡ walked [] 0 0 = same_walked _ _ _ _ _ _ start.choices start.column start.weight in (
      record {
        light = omega (arith, start.weight);
        few = omega (arith, ap length start.choices);
        near = omega (arith, start.column);
        frames = subst (λ (l : List Frame). AreFrames nodes w l) (sym start.pending) (record { node = within; shallow = omega arith }, tt);
      },
      ap (λ (x : Walked). going costs w nodes x begun.pending.items) state
          ∙ (ap (λ (l : List Frame). going costs w nodes (walked [] 0 0) l) start.pending
          ∙ (nothing_both 0 (λ last. walk_all costs w nodes (frame ∷ []) last) ∙ nothing_both 0 (λ last. walk costs w (frame_doc nodes frame) last 0))),
    )

nothing_left : (frames : List Frame) → length frames ≡ 0 → frames ≡ []
nothing_left [] none = refl
nothing_left (f ∷ frames) none = absurd (omega (arith, none))

-- a walk with nothing left
pub ends : {C : Type 0} (costs : Costs C) (w : ℕ) (nodes : List GraphNode) (ended : Walk) → length ended.pending.items ≡ 0 →
    outcome costs w nodes ended ≡ walked ended.choices.items ended.column ended.weight
unfolding walk_all
ends costs w nodes ended none =
    ap (λ (l : List Frame). going costs w nodes (walked ended.choices.items ended.column ended.weight) l) (nothing_left ended.pending.items none)
    ∙ both_nothing (walked ended.choices.items ended.column ended.weight)
