-- The beginning and the end of a walk over a document.
use Rattle.std.proofs.Common.{◌≡◌, ℕ, ◌+◌, inl, inr, false, List, [], ◌∷◌, ◌++◌, length, Option, Some, ap, sym, subst, ◌∙◌, append-nil, refl, arith}
use Rattle.rf_base_document.specs.declared.directions.Dir.{Dir}
use Rattle.rf_base_document.specs.Document.{Doc}
use Rattle.rf_base_document.specs.Render.{Piece, Laid, render, layout, column_after}
use Rattle.rf_base_document.specs.Picks.{Picks, HasPicked, LaidOutBy, weight_of}
use Rattle.rf_base_document.specs.TooLong.{IsTooLong}
use Rattle.rf_base_document.specs.Simple.{simple, IsCore}
use Rattle.rf_base_document.specs.Graph.{GraphNode, IsGraph, StandsFor, unfolded}
use Rattle.rf_base_document.proofs.Graph.{unfolded-is}
use Rattle.rf_base_document.proofs.Marks.{leaves_marks}
use Rattle.rf_base_document.proofs.Picked.{picks_one}
use Rattle.rf_base_document.proofs.Simple.{keeps_layouts, is_core}
use Rattle.rf_walk.specs.declared.walking.Frame.{Frame}
use Rattle.rf_walk.specs.Papers.{IsWithinLimits}
use Rattle.rf_walk.specs.Walked.{Walked, walk_core, walk_frame, walk_all, Ending, ending, ended, CanGoOn, IsPastLimit}
use Rattle.rf_walk.specs.LaidOut.{IsLaidOn}
use Rattle.rf_walk.proofs.Joins.{walk_all-snoc, then_walked-none}
use Rattle.rf_walk.proofs.Agreement.{Agrees, Alike, agree}
use Rattle.rf_walk.proofs.Frames.{part_walks}

-- the root's document is laid out by these choices
abbrev pub RootLaidOut : Doc → List Dir → Type 0
RootLaidOut d cs = (whole : Laid) × LaidOutBy d cs 0 0 false whole

-- what a node of a graph is unfolded to is laid out where the document that it stands for is
pub unfolded_laid_out : (g : List GraphNode) (root : ℕ) (cs : List Dir) → IsGraph g →
    (d : Doc) × (whole : Laid) × StandsFor g root d × LaidOutBy d cs 0 0 false whole → RootLaidOut (unfolded g root) cs
unfolded_laid_out g root cs graph given =
    (given.1, subst (λ (x : Doc). LaidOutBy x cs 0 0 false given.1) (sym (unfolded-is g root given.0 graph given.2)) given.3)

-- a core has a layout by all choices that pick a resolution of it
pub core_laid_out : (g : List GraphNode) (root : ℕ) (cs : List Dir) → IsGraph g → ((d : Doc) → StandsFor g root d → IsCore d) →
    (d : Doc) × StandsFor g root d × HasPicked d cs → RootLaidOut (unfolded g root) cs
core_laid_out g root cs graph core given =
    let all : Agrees given.0 cs [] given.2.0 0 0 0 = agree given.0 cs [] given.2.0 0 0 0 (core given.0 given.1) given.2.1 (inl refl) in
    unfolded_laid_out g root cs graph (given.0, all.whole, given.1, (given.2.0, given.2.1, all.lays))

-- the walk over the document's core
abbrev pub root_walk : Doc → List Dir → Option Walked
root_walk d cs = walk_core (simple d false) 0 0 cs

-- the walk of the whole document, beside the layout of the resolution e that all the choices pick
record AtRoot (d : Doc) (cs : List Dir) (e : Doc) : Type 0 where
  pub w : Walked
  pub walks : root_walk d cs ≡ Some w
  pub weight : w.weight ≡ weight_of e cs
  pub whole : Laid
  pub lays : render e 0 0 false ≡ Some whole
  pub alike : Alike w whole

core_at_root : (d : Doc) (cs : List Dir) (e s p : Doc) (whole : Laid) → render e 0 0 false ≡ Some whole → simple d false ≡ Some s →
    Picks s cs p → render p 0 0 false ≡ Some whole → AtRoot d cs e
core_at_root d cs e s p whole lays core picks laid =
    let all : Agrees s cs [] p 0 0 0 = agree s cs [] p 0 0 0 (is_core d false s core) picks (inl refl) in
    let two : Some all.whole ≡ Some whole = sym all.lays ∙ laid in
    let same : all.whole ≡ whole = cc in
    record {
      w = all.w;
      walks = ap (λ o. walk_core o 0 0 cs) core ∙ ap (λ l. walk_core (Some s) 0 0 l) (sym (append-nil cs)) ∙ all.walks;
      weight = omega (arith, all.weight, leaves_marks e 0 0 false whole lays, leaves_marks p 0 0 false whole laid);
      whole = whole;
      lays = lays;
      alike = subst (λ (x : Laid). Alike all.w x) same all.alike;
    }

at_root : (d : Doc) (cs : List Dir) (e : Doc) → RootLaidOut d cs → Picks d cs e → AtRoot d cs e
at_root d cs e given picks =
    let core = (keeps_layouts d false cs 0 0 given.0).0 given.1 in
    core_at_root d cs e core.0 core.2.0 given.0
    (ap (λ x. render x 0 0 false) (picks_one d cs e given.1.0 picks given.1.1) ∙ given.1.2) core.1 core.2.1 core.2.2

-- the ending of the document's walk
abbrev pub root_ending : Doc → List Dir → Option Ending
root_ending d cs = ended [] 0 (root_walk d cs)

pub root_ends : (d : Doc) (cs : List Dir) → RootLaidOut d cs → (end : Ending) × (root_ending d cs ≡ Some end)
root_ends d cs given =
    let all = at_root d cs given.1.0 given given.1.1 in
    (ending ([] ++ all.w.pieces) (0 + all.w.weight) all.w.left, ap (λ o. ended [] 0 o) all.walks)

-- the walk begins with the root alone, and nothing on the paper
pub begins : {N : Type 0} (holds : List Piece → ℕ → Type 0) (doc : N → Doc) (root : N) (fs : List (Frame N)) (f : Frame N) (cs : List Dir) (end : Ending) → fs ≡ [] ++ f ∷ [] → f.node ≡ root →
    f.indentation ≡ 0 → f.flat ≡ false → holds [] 0 → root_ending (doc root) cs ≡ Some end → CanGoOn holds doc fs cs end
unfolding column_after
begins {N = N} holds doc root fs f cs end is at indented broken blank ends =
    subst (λ (l : List (Frame N)). CanGoOn holds doc l cs end) (sym is) (record {
      pieces = [];
      weight = 0;
      held = blank;
      ends =
          ap (λ o. ended [] 0 o) (walk_all-snoc doc [] f 0 cs ∙ then_walked-none doc (walk_frame doc f 0 cs))
          ∙ ap (λ o. ended [] 0 o) (part_walks doc f root 0 false 0 cs at indented broken) ∙ ends;
    })

-- what an ending of the root's walk is
end_is : (w : Walked) (o : Option Walked) (end : Ending) → o ≡ Some w → ended [] 0 o ≡ Some end → (end.pieces ≡ w.pieces) × (end.weight ≡ w.weight)
end_is w o end is ends =
    let all : Some (ending w.pieces (0 + w.weight) w.left) ≡ Some end = sym (ap (λ p. ended [] 0 p) is) ∙ ends in
    let same : ending w.pieces (0 + w.weight) w.left ≡ end = cc in
    let weight : 0 + w.weight ≡ end.weight = ap (λ (d : Ending). d.weight) same in
    (sym (ap (λ (d : Ending). d.pieces) same), omega arith)

-- what stands on the paper at the end, where no frame is left
paper_is : {N : Type 0} (holds : List Piece → ℕ → Type 0) (doc : N → Doc) (fs : List (Frame N)) (left : List Dir) (end : Ending) → fs ≡ [] → (can : CanGoOn holds doc fs left end) →
    (end.pieces ≡ can.pieces) × (end.weight ≡ can.weight)
unfolding walk_all
paper_is {N = N} holds doc fs left end none can =
    let all : Some (ending (can.pieces ++ []) (can.weight + 0) left) ≡ Some end =
    sym (ap (λ (l : List (Frame N)). ended can.pieces can.weight (walk_all doc l (column_after 0 can.pieces) left)) none) ∙ can.ends in
    let same : ending (can.pieces ++ []) (can.weight + 0) left ≡ end = cc in
    let weight : can.weight + 0 ≡ end.weight = ap (λ (d : Ending). d.weight) same in
    (sym (ap (λ (d : Ending). d.pieces) same) ∙ append-nil can.pieces, omega arith)

pub laid_out : {N : Type 0} (holds : List Piece → ℕ → Type 0) (doc : N → Doc) (root : N) (fs : List (Frame N)) (cs left : List Dir) (end : Ending) → RootLaidOut (doc root) cs →
    ((pieces : List Piece) (weight : ℕ) → holds pieces weight → IsWithinLimits pieces weight) → fs ≡ [] →
    CanGoOn holds doc fs left end → root_ending (doc root) cs ≡ Some end → (e : Doc) → Picks (doc root) cs e → IsLaidOn holds e cs
laid_out holds doc root fs cs left end given within none can ends e picks =
    let all = at_root (doc root) cs e given picks in
    let last = end_is all.w (root_walk (doc root) cs) end all.walks ends in
    let written = paper_is holds doc fs left end none can in
    let pieces : can.pieces ≡ all.w.pieces = sym written.0 ∙ last.0 in
    let weight : can.weight ≡ weight_of e cs = omega (arith, all.weight, last.1, written.1) in
    let short = within can.pieces can.weight can.held in
    elim all.alike [
      | inl same ↦ (
        all.whole,
        all.lays,
        subst (λ (n : ℕ). holds all.whole.pieces n) weight (subst (λ (ps : List Piece). holds ps can.weight) (pieces ∙ same.0) can.held),
      )
      | inr long ↦ absurd (omega (arith, long.0, ap (λ (ps : List Piece). length (layout ps)) pieces, short.0))
    ]

pub too_long : (d : Doc) (cs : List Dir) (end : Ending) → RootLaidOut d cs → root_ending d cs ≡ Some end → IsPastLimit end →
    (e : Doc) → Picks d cs e → IsTooLong e cs
too_long d cs end given ends past e picks =
    let all = at_root d cs e given picks in
    let last = end_is all.w (root_walk d cs) end all.walks ends in (
      all.whole,
      all.lays,
      elim past [
        | inl h ↦ inl (elim all.alike [
          | inl same ↦ omega (arith, h, ap (λ (ps : List Piece). length (layout ps)) (last.0 ∙ same.0))
          | inr long ↦ long.1
        ])
        | inr h ↦ inr (omega (arith, h, all.weight, last.1))
      ],
    )

-- what holds of the document that a node of a graph is unfolded to holds of the one that it stands for
pub as_unfolded : (g : List GraphNode) (root : ℕ) (cs : List Dir) (P : Doc → Type 0) → IsGraph g → ((e : Doc) → Picks (unfolded g root) cs e → P e) →
    (d e : Doc) → StandsFor g root d → Picks d cs e → P e
as_unfolded g root cs P graph all d e stands picks =
    all e (subst (λ (x : Doc). Picks x cs e) (sym (unfolded-is g root d graph stands)) picks)
